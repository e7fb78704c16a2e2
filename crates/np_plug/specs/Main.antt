-- The main theorem: what the plug-in program did is what the plug-in of the one process does.
use Rattle.std.specs.Prelude.{◌≡◌, ℕ, ◌-◌, ◌<◌, List, ◌++◌, ◌⊎◌, length, take, Option, Some}
use Rattle.std.specs.List.{AllByRecursion}
use Rattle.np_model.specs.declared.script.Page.{Page}
use Rattle.np_model.specs.declared.script.Plugin.{Plugin}
use Rattle.np_model.specs.declared.plugin.PluginStage.TheVariants.{Ended}
use Rattle.np_message.specs.Encoding.{encodings}
use Rattle.np_model.specs.Side.{SideState}
use Rattle.np_model.specs.PluginPlan.{PluginControl}
use Rattle.np_model.specs.PluginRun.{PluginRestsIn, IsListening, IsPageText}
use Rattle.np_model.specs.Journal.{end_line}
use Rattle.np_ports.specs.Peer.{Known}
use Rattle.np_ports.specs.Files.{Contents}
use Rattle.np_model_scripts.specs.Served.{SaysPage, SaysPlugin}
use Rattle.np_model_wire_laws.specs.Prefix.{IsWhole}
use Rattle.np_plug.specs.Plug.{script_word, OfScript}
use Rattle.np_model.specs.Alone.{plugin_role}
use Rattle.np_end_stops.specs.Causes.{BeginsWith}
use Rattle.np_exchange.specs.Session.{PrintsFirst}

-- Before this read the peer had taken all that the plug-in sends in the run that only the whole messages given by then reach.
pub record ReadFollows (page : Page) (plugin : Plugin) (old : Known) (given taken : List ℕ) (r : ℕ × ℕ) : Type 0 where
  pub n : ℕ
  pub side : SideState PluginControl
  pub whole : IsWhole (take (r.1 - length old.given) given) n
  pub rests : PluginRestsIn page plugin n side
  pub taken_is : take (r.0 - length old.taken) taken ≡ encodings side.sent

-- the peer took these bytes, was not started, and each read came in its place
pub record FollowsExchange (page : Page) (plugin : Plugin) (old new : Known) (given taken : List ℕ) : Type 0 where
  pub reads : List (ℕ × ℕ)
  pub taken_is : new.taken ≡ old.taken ++ taken
  pub starts : new.starts ≡ old.starts
  pub reads_are : new.reads ≡ old.reads ++ reads
  pub each : AllByRecursion (ReadFollows page plugin old given taken) reads

-- Status 0: the sink took the lines of the plug-in in the run that the whole messages given reach, in which Shutdown was answered, and the peer took its messages.
pub record PluginDone (page : Page) (plugin : Plugin) (old : Known) (first : List ℕ) (new : Known) (sink given : List ℕ) : Type 0 where
  pub n : ℕ
  pub side : SideState PluginControl
  pub whole : IsWhole given n
  pub rests : PluginRestsIn page plugin n side
  pub ended : side.control.stage ≡ Ended
  pub printed : sink ≡ first ++ (side.journal ++ end_line 0)
  pub exchange : FollowsExchange page plugin old new given (encodings side.sent)

-- Status 5: the same, where the plug-in awaits the next message.
pub record PluginLeft (page : Page) (plugin : Plugin) (old : Known) (first : List ℕ) (new : Known) (sink given : List ℕ) : Type 0 where
  pub n : ℕ
  pub side : SideState PluginControl
  pub whole : IsWhole given n
  pub rests : PluginRestsIn page plugin n side
  pub listens : IsListening side.control.stage
  pub printed : sink ≡ first ++ (side.journal ++ end_line 5)
  pub exchange : FollowsExchange page plugin old new given (encodings side.sent)

-- Status 6: the lines are the same; the peer took a part of the messages.
pub record PluginBroken (page : Page) (plugin : Plugin) (old : Known) (first : List ℕ) (new : Known) (sink given : List ℕ) : Type 0 where
  pub n : ℕ
  pub side : SideState PluginControl
  pub taken : List ℕ
  pub whole : IsWhole given n
  pub rests : PluginRestsIn page plugin n side
  pub printed : sink ≡ first ++ (side.journal ++ end_line 6)
  pub taken_part : BeginsWith (encodings side.sent) taken
  pub exchange : FollowsExchange page plugin old new given taken

-- Status 7: never.
abbrev pub PluginRefused : Page → Plugin → Known → List ℕ → Known → List ℕ → List ℕ → Type 0
PluginRefused page plugin old first new sink given = ⊥

-- Statuses 8 and 10 in the midst of the exchange: the sink took a part of the lines of the plug-in in the run that the whole messages given reach, and the peer a part of its messages.
pub record PluginInterrupted (page : Page) (plugin : Plugin) (old : Known) (first : List ℕ) (new : Known) (sink given : List ℕ) : Type 0 where
  pub n : ℕ
  pub side : SideState PluginControl
  pub lines : List ℕ
  pub taken : List ℕ
  pub whole : IsWhole given n
  pub rests : PluginRestsIn page plugin n side
  pub lines_part : BeginsWith side.journal lines
  pub printed : sink ≡ first ++ lines
  pub taken_part : BeginsWith (encodings side.sent) taken
  pub exchange : FollowsExchange page plugin old new given taken

-- Statuses 8 and 10: what was written to the peer was made where all lines had been printed; and it was cut short in the midst, or the sink took a part of the lines that it takes at 0, 5 or 6, and not all.
abbrev pub PluginCut : Page → Plugin → Known → List ℕ → Known → List ℕ → List ℕ → Type 0
PluginCut page plugin old first new sink given =
    PrintsFirst (plugin_role plugin) old first new sink
    × (PluginInterrupted page plugin old first new sink given
    ⊎ ((whole : List ℕ) × (part : BeginsWith whole sink) × (0 < length part.rest) × BeginsWith sink first
    × (PluginDone page plugin old first new whole given ⊎ (PluginLeft page plugin old first new whole given ⊎ PluginBroken page plugin old first new whole given))))

-- some script is served as this page
pub record IsScripted (page : Page) : Type 0 where
  pub script : List ℕ
  pub says : SaysPage script page

-- this holds for each page script whose wire text in the run of both begins with the bytes that the peer gave
abbrev pub ForEachPage : (Page → Plugin → Known → List ℕ → Known → List ℕ → List ℕ → Type 0) → Plugin → Known → List ℕ → Known → List ℕ → Type 0
ForEachPage outcome plugin old first new sink = (page : Page) (given : List ℕ) → IsScripted page → new.given ≡ old.given ++ given → IsPageText page plugin given → outcome page plugin old first new sink given

-- Where the files, the peer and the sink tell, this holds of the plug-in of the file for each such page.
abbrev pub FollowsScript : (Page → Plugin → Known → List ℕ → Known → List ℕ → List ℕ → Type 0) → List ℕ → Option Contents → Option Known → Option Known → Option (List ℕ) → Option (List ℕ) → Type 0
FollowsScript outcome name files known0 known1 taken0 taken1 =
    (f : Contents) (old : Known) (first : List ℕ) → files ≡ Some f → known0 ≡ Some old → taken0 ≡ Some first →
    (plugin : Plugin) × SaysPlugin (f name) plugin
    × ((new : Known) × (sink : List ℕ) × (known1 ≡ Some new) × (taken1 ≡ Some sink) × ForEachPage outcome plugin old first new sink)

abbrev pub FollowsWords : (Page → Plugin → Known → List ℕ → Known → List ℕ → List ℕ → Type 0) → List (List ℕ) → Option Contents → Option Known → Option Known → Option (List ℕ) → Option (List ℕ) → Type 0
FollowsWords outcome words files known0 known1 taken0 taken1 = OfScript (script_word words) (λ name. FollowsScript outcome name files known0 known1 taken0 taken1) ⊥
