-- What the host does where it is told to check a script. (This project's own.)
use Rattle.std.specs.Prelude.{◌≡◌, ℕ, List, ◌⊎◌, Option, Some}
use Rattle.np_values.specs.declared.name.Side.{Side}
use Rattle.np_values.specs.declared.name.Side.TheVariants as sides
use Rattle.np_script_grammar.specs.declared.page.Page.{Page}
use Rattle.np_script_grammar.specs.declared.plugin.Plugin.{Plugin}
use Rattle.np_script_grammar.specs.declared.refusal.ScriptError.{ScriptError}
use Rattle.np_script_grammar.specs.Grammar.{IsPageScript, IsPluginScript, canonical_page, canonical_plugin}
use Rattle.np_script_grammar.specs.Refusals.{FirstError}
use Rattle.np_model.specs.Journal.{end_line}
use Rattle.np_ports.specs.Files.{Contents}
use Rattle.np_end_stops.specs.Causes.{Adds, AddsPart}
use Rattle.np_end_lines.specs.ScriptLines.{script_error_line}
use Rattle.np_host.specs.Words.{host_command}
use Rattle.np_host.specs.Host.{OfCheck, IsCutShort}
use Rattle.np_end_stops.specs.Status.{BAD_SCRIPT, DONE, FILE_FAILED}

-- the bytes are a script of this side, of which this is the canonical text
abbrev pub IsCanonicalOf : Side → List ℕ → List ℕ → Type 0
IsCanonicalOf sides.Page bytes text = (page : Page) × IsPageScript bytes page × (text ≡ canonical_page page)
IsCanonicalOf sides.Plug bytes text = (plugin : Plugin) × IsPluginScript bytes plugin × (text ≡ canonical_plugin plugin)

-- for files that record their contents, the named one is a script of this side, and its canonical text alone was printed
abbrev pub PrintsCanonical : Side → List ℕ → Option Contents → Option (List ℕ) → Option (List ℕ) → Type 0
PrintsCanonical side name files taken0 taken1 = (f : Contents) → files ≡ Some f → (text : List ℕ) × IsCanonicalOf side (f name) text × Adds taken0 taken1 text

-- for files that record their contents, the named one isn't a script of this side, and the line of its first error alone was printed
abbrev pub PrintsError : Side → List ℕ → Option Contents → Option (List ℕ) → Option (List ℕ) → Type 0
PrintsError side name files taken0 taken1 = (f : Contents) → files ≡ Some f → (e : ScriptError) × FirstError side (f name) e × Adds taken0 taken1 (script_error_line e)

-- a script gives 0, and what is none gives 3, unless the file can't be read
pub record OnlyChecked (side : Side) (name : List ℕ) (files : Option Contents) (status : ℕ) : Type 0 where
  pub script : (f : Contents) (text : List ℕ) → files ≡ Some f → IsCanonicalOf side (f name) text → (status ≡ DONE) ⊎ (status ≡ FILE_FAILED)
  pub error : (f : Contents) (e : ScriptError) → files ≡ Some f → FirstError side (f name) e → (status ≡ BAD_SCRIPT) ⊎ (status ≡ FILE_FAILED)

-- what was to be printed: the canonical text, the line of the first error, or the end line of 4 where the file failed
abbrev pub IsDueCheck : Side → List ℕ → Type 0 → List ℕ → Type 0
IsDueCheck side content file_failed text =
    IsCanonicalOf side content text ⊎ (((e : ScriptError) × FirstError side content e × (text ≡ script_error_line e)) ⊎ ((text ≡ end_line 4) × file_failed))

-- Statuses 8 and 10: for files that record their contents, a part of what was to be printed was printed, and not all; or nothing was.
abbrev pub CheckCut : Side → List ℕ → Type 0 → Option Contents → Option (List ℕ) → Option (List ℕ) → Type 0
CheckCut side name file_failed files taken0 taken1 = (f : Contents) → files ≡ Some f → (taken1 ≡ taken0) ⊎ ((text : List ℕ) × IsDueCheck side (f name) file_failed text × AddsPart taken0 taken1 text)

-- the statuses of a check that wasn't cut short
abbrev pub IsCheckStatus : ℕ → Type 0
IsCheckStatus status = (status ≡ DONE) ⊎ ((status ≡ BAD_SCRIPT) ⊎ (status ≡ FILE_FAILED))

-- ---- the same, of the words of the command line

abbrev pub ChecksWell : List (List ℕ) → Option Contents → Option (List ℕ) → Option (List ℕ) → Type 0
ChecksWell words files taken0 taken1 = OfCheck (host_command words) (λ side name. PrintsCanonical side name files taken0 taken1)

abbrev pub ChecksBadly : List (List ℕ) → Option Contents → Option (List ℕ) → Option (List ℕ) → Type 0
ChecksBadly words files taken0 taken1 = OfCheck (host_command words) (λ side name. PrintsError side name files taken0 taken1)

-- a check that wasn't cut short gives the status of its file
abbrev pub ChecksOnly : List (List ℕ) → Option Contents → ℕ → Type 0
ChecksOnly words files status = OfCheck (host_command words) (λ side name. IsCutShort status ⊎ (IsCheckStatus status × OnlyChecked side name files status))

abbrev pub ChecksPart : List (List ℕ) → Type 0 → Option Contents → Option (List ℕ) → Option (List ℕ) → Type 0
ChecksPart words file_failed files taken0 taken1 = OfCheck (host_command words) (λ side name. CheckCut side name file_failed files taken0 taken1)
