-- What the plug-in program's entry point does.
use Rattle.std.specs.Prelude.{◌≡◌, ℕ, ◌^◌, ◌<◌, List, [], ◌∷◌, ◌++◌, ◌⊎◌, length, map, String, string_bytes, Option, Some, None}
use Rattle.std.specs.Global.{Global}
use Rattle.np_model.specs.declared.script.Plugin.{Plugin}
use Rattle.np_values.specs.declared.name.Side.TheVariants as sides
use Rattle.np_script_grammar.specs.Refusals.{FirstError}
use Rattle.np_model.specs.Journal.{end_line}
use Rattle.np_ports.specs.Peer.{Known}
use Rattle.np_ports.specs.Files.{Contents}
use Rattle.np_ports.specs.declared.file_call.FileCall.{FileCall}
use Rattle.np_ports.specs.declared.file_call.FileCall.TheVariants.{Read}
use Rattle.np_model.specs.Alone.{plugin_role, RefusesNothing}
use Rattle.np_end_stops.specs.declared.ending.Ending.{Ending}
use Rattle.np_end_stops.specs.Causes.{Adds, BeginsWith}
use Rattle.np_end_stops.specs.Status.{status_of, IsRunStatus, BAD_SCRIPT, FILE_FAILED, NO_MEMORY, OUTPUT_FAILED, PEER_LOST, USAGE}
use Rattle.np_end_lines.specs.ScriptLines.{ScriptRefusal, OfError, Unbuilt, refusal_line, IsEarlyLine}
use Rattle.np_model_scripts.specs.Served.{SaysPlugin, IsUnbuiltPlugin}
use Rattle.np_plug.specs.Outcomes.{OutcomeOf}

abbrev pub texts : List (String Global) → List (List ℕ)
texts words = map (λ w. string_bytes w) words

-- the name of the script's file, where the words are `SCRIPT NOTES`
abbrev pub script_word : List (List ℕ) → Option (List ℕ)
script_word [] = None
script_word (script ∷ []) = None
script_word (script ∷ notes ∷ []) = Some script
script_word (script ∷ notes ∷ word ∷ words) = None

-- Where the files, the peer and the sink tell: the plug-in of the file ran over the peer.
abbrev pub RunsPlugin : List ℕ → Option Contents → Option Known → Option Known → Option (List ℕ) → Option (List ℕ) → ℕ → Type 0
RunsPlugin name files known0 known1 taken0 taken1 status =
    IsRunStatus status → (f : Contents) (old : Known) (first : List ℕ) → files ≡ Some f → known0 ≡ Some old → taken0 ≡ Some first →
    (plugin : Plugin) × (ending : Ending) × SaysPlugin (f name) plugin × (status ≡ status_of ending)
    × ((new : Known) × (sink : List ℕ) × (known1 ≡ Some new) × (taken1 ≡ Some sink) × OutcomeOf plugin ending old first new sink)

-- Where the files, the peer and the sink tell: the plug-in of the file refuses nothing of the bytes that the peer gave, and at 5 these were fewer than are ever read.
abbrev pub RunsUnrefused : List ℕ → Option Contents → Option Known → Option Known → Option (List ℕ) → ℕ → Type 0
RunsUnrefused name files known0 known1 taken0 status =
    (f : Contents) (old : Known) (first : List ℕ) → files ≡ Some f → known0 ≡ Some old → taken0 ≡ Some first →
    (plugin : Plugin) × (new : Known) × (got : List ℕ) × SaysPlugin (f name) plugin × (known1 ≡ Some new) × (new.given ≡ old.given ++ got)
    × RefusesNothing (plugin_role plugin) got × (status ≡ PEER_LOST → length got < 2 ^ 40)

-- why bytes aren't served as a plug-in: their first error, or a line that isn't supported yet
abbrev pub IsRefusedPlugin : List ℕ → ScriptRefusal → Type 0
IsRefusedPlugin bytes (OfError e) = FirstError sides.Plug bytes e
IsRefusedPlugin bytes Unbuilt = IsUnbuiltPlugin bytes

-- At 3 and 4 the peer was not called, and one line alone was printed: at 4 the end line, at 3 that of a script that isn't served.
abbrev pub StopsEarly : Option Known → Option Known → Option (List ℕ) → Option (List ℕ) → ℕ → Type 0
StopsEarly known0 known1 taken0 taken1 status = (status ≡ BAD_SCRIPT) ⊎ (status ≡ FILE_FAILED) → (known1 ≡ known0) × ((line : List ℕ) × IsEarlyLine status line × Adds taken0 taken1 line)

-- This line was due before the plug-in began: that of a file that isn't served, or the end line of 4 where the file failed.
abbrev pub IsDueEarly : List ℕ → Type 0 → List ℕ → Type 0
IsDueEarly content file_failed line = ((r : ScriptRefusal) × IsRefusedPlugin content r × (line ≡ refusal_line r)) ⊎ ((line ≡ end_line 4) × file_failed)

-- Statuses 8 and 10 before the plug-in began: a part of the line that was due was printed, and not all, or nothing was; the peer was not called.
pub record CutEarly (content : List ℕ) (file_failed : Type 0) (old : Known) (first : List ℕ) (new : Known) (sink : List ℕ) : Type 0 where
  pub whole : List ℕ
  pub line : List ℕ
  pub due : (line ≡ []) ⊎ IsDueEarly content file_failed whole
  pub uncalled : new ≡ old
  pub line_part : BeginsWith whole line
  pub unfinished : 0 < length line_part.rest
  pub printed : sink ≡ first ++ line

-- Where the files, the peer and the sink tell: the run was cut short before its plug-in began, or this holds of the plug-in.
abbrev pub RunCut : (Plugin → Known → List ℕ → Known → List ℕ → Type 0) → List ℕ → Type 0 → Option Contents → Option Known → Option Known → Option (List ℕ) → Option (List ℕ) → Type 0
RunCut outcome name file_failed files known0 known1 taken0 taken1 =
    (f : Contents) (old : Known) (first : List ℕ) → files ≡ Some f → known0 ≡ Some old → taken0 ≡ Some first →
    (new : Known) × (sink : List ℕ) × (known1 ≡ Some new) × (taken1 ≡ Some sink)
    × (CutEarly (f name) file_failed old first new sink ⊎ ((plugin : Plugin) × SaysPlugin (f name) plugin × outcome plugin old first new sink))

-- for files that record their contents, the named one isn't served, and the line for that alone was printed
abbrev pub RefusesPlugin : List ℕ → Option Contents → Option (List ℕ) → Option (List ℕ) → Type 0
RefusesPlugin name files taken0 taken1 = (f : Contents) → files ≡ Some f → (r : ScriptRefusal) × IsRefusedPlugin (f name) r × Adds taken0 taken1 (refusal_line r)

-- a file that isn't served gives 3, unless it can't be read
abbrev pub OnlyRefused : List ℕ → Option Contents → ℕ → Type 0
OnlyRefused name files status = (f : Contents) → files ≡ Some f → (r : ScriptRefusal) → IsRefusedPlugin (f name) r → (status ≡ BAD_SCRIPT) ⊎ (status ≡ FILE_FAILED)

-- the files stay as they were
abbrev pub KeepsFiles : Option Contents → Option Contents → Type 0
KeepsFiles old new = (f : Contents) → old ≡ Some f → new ≡ Some f

-- at most one call of the files failed, a read of the named one
abbrev pub NotesScriptOnly : List ℕ → Option (List (List ℕ × FileCall)) → Option (List (List ℕ × FileCall)) → Type 0
NotesScriptOnly name old new = (l : List (List ℕ × FileCall)) → old ≡ Some l → (new ≡ Some l) ⊎ (new ≡ Some (l ++ (name, Read) ∷ []))

-- nothing was called, and nothing was printed
pub record IsIdle (files0 files1 : Option Contents) (calls0 calls1 : Option (List (List ℕ × FileCall))) (known0 known1 : Option Known) (taken0 taken1 : Option (List ℕ)) : Type 0 where
  pub files : files1 ≡ files0
  pub calls : calls1 ≡ calls0
  pub known : known1 ≡ known0
  pub taken : taken1 ≡ taken0

-- ---- the same, of the words of the command line

-- this holds of the word that names the script
abbrev pub OfScript : Option (List ℕ) → (List ℕ → Type 0) → Type 0 → Type 0
OfScript None P Q = Q
OfScript (Some name) P Q = P name

-- the plug-in of the script ran; a run status comes with such words alone
abbrev pub RunsWords : List (List ℕ) → Option Contents → Option Known → Option Known → Option (List ℕ) → Option (List ℕ) → ℕ → Type 0
RunsWords words files known0 known1 taken0 taken1 status = OfScript (script_word words) (λ name. RunsPlugin name files known0 known1 taken0 taken1 status) (IsRunStatus status → ⊥)

abbrev pub UnrefusedWords : List (List ℕ) → Option Contents → Option Known → Option Known → Option (List ℕ) → ℕ → Type 0
UnrefusedWords words files known0 known1 taken0 status = OfScript (script_word words) (λ name. RunsUnrefused name files known0 known1 taken0 status) ⊥

-- the run of the script was cut short; that comes with such words alone
abbrev pub CutWords : (Plugin → Known → List ℕ → Known → List ℕ → Type 0) → List (List ℕ) → Type 0 → Option Contents → Option Known → Option Known → Option (List ℕ) → Option (List ℕ) → Type 0
CutWords outcome words file_failed files known0 known1 taken0 taken1 = OfScript (script_word words) (λ name. RunCut outcome name file_failed files known0 known1 taken0 taken1) ⊥

abbrev pub RefusesScript : List (List ℕ) → Option Contents → Option (List ℕ) → Option (List ℕ) → Type 0
RefusesScript words files taken0 taken1 = OfScript (script_word words) (λ name. RefusesPlugin name files taken0 taken1) ⊥

abbrev pub OnlyRefusedScript : List (List ℕ) → Option Contents → ℕ → Type 0
OnlyRefusedScript words files status = OfScript (script_word words) (λ name. OnlyRefused name files status) (Unit {0})

abbrev pub NotesWordsOnly : List (List ℕ) → Option (List (List ℕ × FileCall)) → Option (List (List ℕ × FileCall)) → Type 0
NotesWordsOnly words old new = OfScript (script_word words) (λ name. NotesScriptOnly name old new) ((l : List (List ℕ × FileCall)) → old ≡ Some l → new ≡ Some l)

-- out of memory, or the output failed
abbrev pub IsCutShort : ℕ → Type 0
IsCutShort status = (status ≡ NO_MEMORY) ⊎ (status ≡ OUTPUT_FAILED)

-- the other statuses
abbrev pub IsEndStatus : ℕ → Type 0
IsEndStatus status = IsRunStatus status ⊎ ((status ≡ USAGE) ⊎ ((status ≡ BAD_SCRIPT) ⊎ (status ≡ FILE_FAILED)))
