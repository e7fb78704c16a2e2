-- The numbers of errors. (npapi.h, NPError.)
use Rattle.std.specs.Prelude.{ℕ, ◌==◌, List, [], ◌∷◌, Option, Some, None, if◌then◌else◌}
use Rattle.np_values.specs.declared.error.NpError.{NpError}
use Rattle.np_values.specs.declared.error.NpError.TheVariants.{NoError, Generic, InvalidInstance, InvalidFunctable, ModuleLoadFailed, OutOfMemory, InvalidPlugin, InvalidPluginDir, IncompatibleVersion, InvalidParam, InvalidUrl, FileNotFound, NoData, StreamNotSeekable}

-- the number of the header
abbrev pub code_of : NpError → ℕ
code_of NoError = 0
code_of Generic = 1
code_of InvalidInstance = 2
code_of InvalidFunctable = 3
code_of ModuleLoadFailed = 4
code_of OutOfMemory = 5
code_of InvalidPlugin = 6
code_of InvalidPluginDir = 7
code_of IncompatibleVersion = 8
code_of InvalidParam = 9
code_of InvalidUrl = 10
code_of FileNotFound = 11
code_of NoData = 12
code_of StreamNotSeekable = 13

abbrev pub errors : List NpError
errors =
    NoError ∷ Generic ∷ InvalidInstance ∷ InvalidFunctable ∷ ModuleLoadFailed ∷ OutOfMemory ∷ InvalidPlugin ∷ InvalidPluginDir ∷ IncompatibleVersion ∷ InvalidParam ∷ InvalidUrl ∷ FileNotFound ∷ NoData ∷ StreamNotSeekable ∷ []

abbrev pub error_among : List NpError → ℕ → Option NpError
error_among [] code = None
error_among (error ∷ others) code = if code == code_of error then Some error else error_among others code

-- the error with this number, if there is one
abbrev pub error_of : ℕ → Option NpError
error_of code = error_among errors code
