-- The main theorem: what the host did is what the one process does.
use Rattle.std.specs.Prelude.{◌≡◌, ℕ, ◌-◌, ◌<◌, List, ◌++◌, ◌⊎◌, length, take, Option, Some}
use Rattle.std.specs.List.{AllByRecursion}
use Rattle.np_model.specs.declared.script.Page.{Page}
use Rattle.np_model.specs.declared.page.Stage.TheVariants.{Ended}
use Rattle.np_message.specs.Encoding.{encodings}
use Rattle.np_model.specs.Side.{SideState}
use Rattle.np_model.specs.PagePlan.{PageControl}
use Rattle.np_model.specs.declared.script.Plugin.{Plugin}
use Rattle.np_model.specs.HostRun.{HostRests, GoesOnLost, IsAwaiting, IsPluginText}
use Rattle.np_model.specs.Journal.{end_line}
use Rattle.np_ports.specs.Peer.{Known, started}
use Rattle.np_ports.specs.Files.{Contents}
use Rattle.np_model_wire_laws.specs.Prefix.{IsWhole}
use Rattle.np_model_scripts.specs.Served.{SaysPage}
use Rattle.np_host.specs.Words.{host_command}
use Rattle.np_host.specs.Host.{OfRun}
use Rattle.np_model.specs.Alone.{page_role}
use Rattle.np_end_stops.specs.Causes.{BeginsWith}
use Rattle.np_exchange.specs.Session.{PrintsFirst}

-- Before this read the peer had taken all that the page sends in the run that only the whole messages given by then reach.
pub record ReadFollows (page : Page) (plugin : Plugin) (old : Known) (given taken : List ℕ) (r : ℕ × ℕ) : Type 0 where
  pub n : ℕ
  pub side : SideState PageControl
  pub whole : IsWhole (take (r.1 - length old.given) given) n
  pub rests : HostRests page plugin n side
  pub taken_is : take (r.0 - length old.taken) taken ≡ encodings side.sent

-- the peer took these bytes, was not started again, and each read came in its place
pub record FollowsExchange (page : Page) (plugin : Plugin) (old new : Known) (given taken : List ℕ) : Type 0 where
  pub reads : List (ℕ × ℕ)
  pub taken_is : new.taken ≡ old.taken ++ taken
  pub starts : new.starts ≡ old.starts
  pub reads_are : new.reads ≡ old.reads ++ reads
  pub each : AllByRecursion (ReadFollows page plugin old given taken) reads

-- Status 0: the sink took the lines of the run of page and plug-in that the whole messages given reach, in which the page ended, and the peer took its messages.
pub record HostDone (page : Page) (plugin : Plugin) (old : Known) (first : List ℕ) (new : Known) (sink given : List ℕ) : Type 0 where
  pub n : ℕ
  pub side : SideState PageControl
  pub whole : IsWhole given n
  pub rests : HostRests page plugin n side
  pub ended : side.control.stage ≡ Ended
  pub printed : sink ≡ first ++ (side.journal ++ end_line 0)
  pub exchange : FollowsExchange page plugin old new given (encodings side.sent)

-- Status 5: the same, with the plug-in lost after these messages.
pub record HostLost (page : Page) (plugin : Plugin) (old : Known) (first : List ℕ) (new : Known) (sink given : List ℕ) : Type 0 where
  pub n : ℕ
  pub side : SideState PageControl
  pub last : SideState PageControl
  pub whole : IsWhole given n
  pub rests : HostRests page plugin n side
  pub awaits : IsAwaiting side.control.stage
  pub lost : GoesOnLost page side last
  pub printed : sink ≡ first ++ (last.journal ++ end_line 5)
  pub exchange : FollowsExchange page plugin old new given (encodings side.sent)

-- Status 6: the lines are the same as at 5, or as at 0 where only the page's last messages were not written; the peer took a part of the messages.
pub record HostBroken (page : Page) (plugin : Plugin) (old : Known) (first : List ℕ) (new : Known) (sink given : List ℕ) : Type 0 where
  pub n : ℕ
  pub side : SideState PageControl
  pub lines : List ℕ
  pub taken : List ℕ
  pub whole : IsWhole given n
  pub rests : HostRests page plugin n side
  pub lines_are : (IsAwaiting side.control.stage × ((last : SideState PageControl) × GoesOnLost page side last × (lines ≡ last.journal))) ⊎ ((side.control.stage ≡ Ended) × (lines ≡ side.journal))
  pub printed : sink ≡ first ++ (lines ++ end_line 6)
  pub taken_part : BeginsWith (encodings side.sent) taken
  pub exchange : FollowsExchange page plugin old new given taken

-- Status 7: never.
abbrev pub HostRefused : Page → Plugin → Known → List ℕ → Known → List ℕ → List ℕ → Type 0
HostRefused page plugin old first new sink given = ⊥

-- Statuses 8 and 10 in the midst of the exchange: the sink took a part of the lines of the run of page and plug-in that the whole messages given reach, and the peer a part of the page's messages.
pub record HostInterrupted (page : Page) (plugin : Plugin) (old : Known) (first : List ℕ) (new : Known) (sink given : List ℕ) : Type 0 where
  pub n : ℕ
  pub side : SideState PageControl
  pub lines : List ℕ
  pub taken : List ℕ
  pub whole : IsWhole given n
  pub rests : HostRests page plugin n side
  pub lines_part : BeginsWith side.journal lines
  pub printed : sink ≡ first ++ lines
  pub taken_part : BeginsWith (encodings side.sent) taken
  pub exchange : FollowsExchange page plugin old new given taken

-- Statuses 8 and 10: what was written to the peer was made where all lines had been printed; and it was cut short in the midst, or the sink took a part of the lines that it takes at 0, 5 or 6, and not all.
abbrev pub HostCut : Page → Plugin → Known → List ℕ → Known → List ℕ → List ℕ → Type 0
HostCut page plugin old first new sink given =
    PrintsFirst (page_role page) old first new sink
    × (HostInterrupted page plugin old first new sink given
    ⊎ ((whole : List ℕ) × (part : BeginsWith whole sink) × (0 < length part.rest) × BeginsWith sink first
    × (HostDone page plugin old first new whole given ⊎ (HostLost page plugin old first new whole given ⊎ HostBroken page plugin old first new whole given))))

-- this holds for each plug-in whose wire text in the run of both begins with the bytes that the peer gave
abbrev pub ForEachPlugin : (Page → Plugin → Known → List ℕ → Known → List ℕ → List ℕ → Type 0) → Page → Known → List ℕ → Known → List ℕ → Type 0
ForEachPlugin outcome page old first new sink = (plugin : Plugin) (given : List ℕ) → new.given ≡ old.given ++ given → IsPluginText page plugin given → outcome page plugin old first new sink given

-- Where the files, the peer and the sink tell, this holds of the page of the file for each such plug-in.
abbrev pub FollowsPage : (Page → Plugin → Known → List ℕ → Known → List ℕ → List ℕ → Type 0) → List ℕ → List (List ℕ) → Option Contents → Option Known → Option Known → Option (List ℕ) → Option (List ℕ) → Type 0
FollowsPage outcome name program files known0 known1 taken0 taken1 =
    (f : Contents) (old : Known) (first : List ℕ) → files ≡ Some f → known0 ≡ Some old → taken0 ≡ Some first →
    (page : Page) × SaysPage (f name) page
    × ((new : Known) × (sink : List ℕ) × (known1 ≡ Some new) × (taken1 ≡ Some sink) × ForEachPlugin outcome page (started old program) first new sink)

-- Of the words: where they tell to run, this holds of the page that they name, over the program that they name; where they tell nothing, never.
abbrev pub FollowsWords : (Page → Plugin → Known → List ℕ → Known → List ℕ → List ℕ → Type 0) → List (List ℕ) → Option Contents → Option Known → Option Known → Option (List ℕ) → Option (List ℕ) → Type 0
FollowsWords outcome words files known0 known1 taken0 taken1 = OfRun (host_command words) (λ r. FollowsPage outcome r.page r.program files known0 known1 taken0 taken1) ⊥
