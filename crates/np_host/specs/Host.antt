-- What the host's entry point does.
use Rattle.std.specs.Prelude.{◌≡◌, ℕ, ◌^◌, ◌<◌, List, [], ◌++◌, length, ◌⊎◌, Option, Some, None}
use Rattle.np_model.specs.declared.script.Page.{Page}
use Rattle.np_values.specs.declared.name.Side.{Side}
use Rattle.np_values.specs.declared.name.Side.TheVariants as sides
use Rattle.np_script_grammar.specs.Refusals.{FirstError}
use Rattle.np_model.specs.Journal.{end_line}
use Rattle.np_ports.specs.Peer.{Known, started}
use Rattle.np_ports.specs.Files.{Contents}
use Rattle.np_ports.specs.declared.file_call.FileCall.{FileCall}
use Rattle.np_model.specs.Alone.{page_role, RefusesNothing}
use Rattle.np_end_stops.specs.declared.ending.Ending.{Ending}
use Rattle.np_end_stops.specs.Causes.{Adds, AddsPart, BeginsWith}
use Rattle.np_end_lines.specs.ScriptLines.{ScriptRefusal, OfError, Unbuilt, refusal_line, IsEarlyLine}
use Rattle.np_model_scripts.specs.Served.{SaysPage, IsUnbuiltPage}
use Rattle.np_host.specs.Words.{RunWords, HostCommand, Run, Check, Show, host_command}
use Rattle.np_end_stops.specs.Status.{status_of, IsRunStatus, BAD_SCRIPT, FILE_FAILED, NOT_STARTED, NO_MEMORY, OUTPUT_FAILED, PEER_LOST, USAGE}
use Rattle.np_show.specs.Show.{NotesReadOnly}
use Rattle.np_host.specs.Outcomes.{OutcomeOf}

-- Where the files, the peer and the sink tell: the page of the file ran over a peer that was started once, with the words of the program.
abbrev pub RunsPage : List ℕ → List (List ℕ) → Option Contents → Option Known → Option Known → Option (List ℕ) → Option (List ℕ) → ℕ → Type 0
RunsPage name program files known0 known1 taken0 taken1 status =
    IsRunStatus status → (f : Contents) (old : Known) (first : List ℕ) → files ≡ Some f → known0 ≡ Some old → taken0 ≡ Some first →
    (page : Page) × (ending : Ending) × SaysPage (f name) page × (status ≡ status_of ending)
    × ((new : Known) × (sink : List ℕ) × (known1 ≡ Some new) × (taken1 ≡ Some sink) × OutcomeOf page ending (started old program) first new sink)

-- Where the files, the peer and the sink tell: the page of the file refuses nothing of the bytes that the peer gave, and at 5 these were fewer than are ever read.
abbrev pub RunsUnrefused : List ℕ → Option Contents → Option Known → Option Known → Option (List ℕ) → ℕ → Type 0
RunsUnrefused name files known0 known1 taken0 status =
    (f : Contents) (old : Known) (first : List ℕ) → files ≡ Some f → known0 ≡ Some old → taken0 ≡ Some first →
    (page : Page) × (new : Known) × (got : List ℕ) × SaysPage (f name) page × (known1 ≡ Some new) × (new.given ≡ old.given ++ got)
    × RefusesNothing (page_role page) got × (status ≡ PEER_LOST → length got < 2 ^ 40)

-- why bytes aren't served as a page: their first error, or a line that isn't supported yet
abbrev pub IsRefusedPage : List ℕ → ScriptRefusal → Type 0
IsRefusedPage bytes (OfError e) = FirstError sides.Page bytes e
IsRefusedPage bytes Unbuilt = IsUnbuiltPage bytes

-- the line of this status, where nothing ran, was printed alone
abbrev pub PrintsEarlyLine : Option (List ℕ) → Option (List ℕ) → ℕ → Type 0
PrintsEarlyLine taken0 taken1 status = (line : List ℕ) × IsEarlyLine status line × Adds taken0 taken1 line

-- At 2, 3 and 4 the peer was not called, and one line alone was printed: at 2 and 4 the end line, at 3 that of a script that isn't served.
abbrev pub StopsEarly : Option Known → Option Known → Option (List ℕ) → Option (List ℕ) → ℕ → Type 0
StopsEarly known0 known1 taken0 taken1 status = (status ≡ USAGE) ⊎ ((status ≡ BAD_SCRIPT) ⊎ (status ≡ FILE_FAILED)) → (known1 ≡ known0) × PrintsEarlyLine taken0 taken1 status

-- at 11 the peer was only asked to start, and the end line alone was printed
abbrev pub NotStarted : List (List ℕ) → Option Known → Option Known → Option (List ℕ) → Option (List ℕ) → ℕ → Type 0
NotStarted program known0 known1 taken0 taken1 status = status ≡ NOT_STARTED → ((old : Known) → known0 ≡ Some old → known1 ≡ Some (started old program)) × Adds taken0 taken1 (end_line 11)

-- This line was due before the page began: that of a file that isn't served, the end line of 4 where the file failed, or of 11 where the peer failed to start. Only at 11 was the peer called, to start.
abbrev pub IsDueEarly : List ℕ → List (List ℕ) → Type 0 → Type 0 → Known → Known → List ℕ → Type 0
IsDueEarly content program file_failed start_failed old new line =
    ((r : ScriptRefusal) × IsRefusedPage content r × (line ≡ refusal_line r) × (new ≡ old))
    ⊎ (((line ≡ end_line 4) × file_failed × (new ≡ old)) ⊎ ((line ≡ end_line 11) × start_failed × (new ≡ started old program)))

-- Statuses 8 and 10 before the page began: a part of the line that was due was printed, and not all; or nothing was, and the peer was not called.
pub record CutEarly (content : List ℕ) (program : List (List ℕ)) (file_failed start_failed : Type 0) (old : Known) (first : List ℕ) (new : Known) (sink : List ℕ) : Type 0 where
  pub whole : List ℕ
  pub line : List ℕ
  pub due : ((line ≡ []) × (new ≡ old)) ⊎ IsDueEarly content program file_failed start_failed old new whole
  pub line_part : BeginsWith whole line
  pub unfinished : 0 < length line_part.rest
  pub printed : sink ≡ first ++ line

-- Where the files, the peer and the sink tell: the run was cut short before its page began, or this holds of the page, over a peer that was started once, with the words of the program.
abbrev pub RunCut : (Page → Known → List ℕ → Known → List ℕ → Type 0) → List ℕ → List (List ℕ) → Type 0 → Type 0 → Option Contents → Option Known → Option Known → Option (List ℕ) → Option (List ℕ) → Type 0
RunCut outcome name program file_failed start_failed files known0 known1 taken0 taken1 =
    (f : Contents) (old : Known) (first : List ℕ) → files ≡ Some f → known0 ≡ Some old → taken0 ≡ Some first →
    (new : Known) × (sink : List ℕ) × (known1 ≡ Some new) × (taken1 ≡ Some sink)
    × (CutEarly (f name) program file_failed start_failed old first new sink ⊎ ((page : Page) × SaysPage (f name) page × outcome page (started old program) first new sink))

-- for files that record their contents, the named one isn't served, and the line for that alone was printed
abbrev pub RefusesPage : List ℕ → Option Contents → Option (List ℕ) → Option (List ℕ) → Type 0
RefusesPage name files taken0 taken1 = (f : Contents) → files ≡ Some f → (r : ScriptRefusal) × IsRefusedPage (f name) r × Adds taken0 taken1 (refusal_line r)

-- a file that isn't served gives 3, unless it can't be read
abbrev pub OnlyRefused : List ℕ → Option Contents → ℕ → Type 0
OnlyRefused name files status = (f : Contents) → files ≡ Some f → (r : ScriptRefusal) → IsRefusedPage (f name) r → (status ≡ BAD_SCRIPT) ⊎ (status ≡ FILE_FAILED)

-- ---- the same, of the words of the command line

-- where the words tell to run, this holds of the page and the program; Q holds where they tell nothing
abbrev pub OfRun : Option HostCommand → (RunWords → Type 0) → Type 0 → Type 0
OfRun None P Q = Q
OfRun (Some (Run r)) P Q = P r
OfRun (Some (Check side file)) P Q = Unit {0}
OfRun (Some (Show file)) P Q = Unit {0}

-- where the words tell to check, this holds of the side and the name of the file
abbrev pub OfCheck : Option HostCommand → (Side → List ℕ → Type 0) → Type 0
OfCheck None P = Unit {0}
OfCheck (Some (Run r)) P = Unit {0}
OfCheck (Some (Check side file)) P = P side file
OfCheck (Some (Show file)) P = Unit {0}

-- where the words tell to show, this holds of the name of the file
abbrev pub OfShow : Option HostCommand → (List ℕ → Type 0) → Type 0
OfShow None P = Unit {0}
OfShow (Some (Run r)) P = Unit {0}
OfShow (Some (Check side file)) P = Unit {0}
OfShow (Some (Show file)) P = P file

-- the words don't tell to show
abbrev pub IsNoShow : Option HostCommand → Type 0
IsNoShow None = Unit {0}
IsNoShow (Some (Run r)) = Unit {0}
IsNoShow (Some (Check side file)) = Unit {0}
IsNoShow (Some (Show file)) = ⊥

-- the page that the words name ran over the program that they name; a run status comes with no words of another form
abbrev pub RunsWords : List (List ℕ) → Option Contents → Option Known → Option Known → Option (List ℕ) → Option (List ℕ) → ℕ → Type 0
RunsWords words files known0 known1 taken0 taken1 status = OfRun (host_command words) (λ r. RunsPage r.page r.program files known0 known1 taken0 taken1 status) (IsRunStatus status → ⊥)

abbrev pub UnrefusedWords : List (List ℕ) → Option Contents → Option Known → Option Known → Option (List ℕ) → ℕ → Type 0
UnrefusedWords words files known0 known1 taken0 status = OfRun (host_command words) (λ r. RunsUnrefused r.page files known0 known1 taken0 status) ⊥

abbrev pub NotStartedWords : List (List ℕ) → Option Known → Option Known → Option (List ℕ) → Option (List ℕ) → ℕ → Type 0
NotStartedWords words known0 known1 taken0 taken1 status = OfRun (host_command words) (λ r. NotStarted r.program known0 known1 taken0 taken1 status) (status ≡ NOT_STARTED → ⊥)

-- with words of another form the peer was not called, and a part of the end line of 2 was printed
abbrev pub CutWords : (Page → Known → List ℕ → Known → List ℕ → Type 0) → List (List ℕ) → Type 0 → Type 0 → Option Contents → Option Known → Option Known → Option (List ℕ) → Option (List ℕ) → Type 0
CutWords outcome words file_failed start_failed files known0 known1 taken0 taken1 = OfRun (host_command words) (λ r. RunCut outcome r.page r.program file_failed start_failed files known0 known1 taken0 taken1) ((known1 ≡ known0) × AddsPart taken0 taken1 (end_line 2))

abbrev pub RefusesScript : List (List ℕ) → Option Contents → Option (List ℕ) → Option (List ℕ) → Type 0
RefusesScript words files taken0 taken1 = OfRun (host_command words) (λ r. RefusesPage r.page files taken0 taken1) ⊥

abbrev pub OnlyRefusedScript : List (List ℕ) → Option Contents → ℕ → Type 0
OnlyRefusedScript words files status = OfRun (host_command words) (λ r. OnlyRefused r.page files status) (Unit {0})

-- the file that the words name
abbrev pub file_named : HostCommand → List ℕ
file_named (Run r) = r.page
file_named (Check side file) = file
file_named (Show file) = file

-- at most one call of the files failed, a read of the file that the words name
abbrev pub NotesScriptOnly : Option HostCommand → Option (List (List ℕ × FileCall)) → Option (List (List ℕ × FileCall)) → Type 0
NotesScriptOnly None old new = (l : List (List ℕ × FileCall)) → old ≡ Some l → new ≡ Some l
NotesScriptOnly (Some command) old new = NotesReadOnly (file_named command) old new

-- out of memory, or the output failed
abbrev pub IsCutShort : ℕ → Type 0
IsCutShort status = (status ≡ NO_MEMORY) ⊎ (status ≡ OUTPUT_FAILED)

-- the statuses of a run that printed its end line
abbrev pub IsEndStatus : ℕ → Type 0
IsEndStatus status = ((status ≡ USAGE) ⊎ ((status ≡ BAD_SCRIPT) ⊎ ((status ≡ FILE_FAILED) ⊎ (status ≡ NOT_STARTED)))) ⊎ IsRunStatus status
