-- The numbers of stream modes. (npapi.h, NP_NORMAL, NP_SEEK, NP_ASFILE, NP_ASFILEONLY.)
use Rattle.std.specs.Prelude.{ℕ, ◌==◌, List, [], ◌∷◌, Option, Some, None, if◌then◌else◌}
use Rattle.np_values.specs.declared.stream_mode.StreamMode.{StreamMode}
use Rattle.np_values.specs.declared.stream_mode.StreamMode.TheVariants.{Normal, Seek, AsFile, AsFileOnly}

-- the number of the header
abbrev pub mode_code : StreamMode → ℕ
mode_code Normal = 1
mode_code Seek = 2
mode_code AsFile = 3
mode_code AsFileOnly = 4

abbrev pub modes : List StreamMode
modes = Normal ∷ Seek ∷ AsFile ∷ AsFileOnly ∷ []

abbrev pub mode_among : List StreamMode → ℕ → Option StreamMode
mode_among [] code = None
mode_among (mode ∷ others) code = if code == mode_code mode then Some mode else mode_among others code

-- the mode with this number, if there is one
abbrev pub mode_of : ℕ → Option StreamMode
mode_of code = mode_among modes code
