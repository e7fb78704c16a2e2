-- What runs of scripts come to, as worked rows compare it. (This project's own.)
use Rattle.std.specs.Prelude.{ℕ, zero, suc, List, [], ◌++◌, Bool, ◌&&◌, Option, None}
use Rattle.np_values.specs.declared.name.Side.TheVariants as sides
use Rattle.np_script_grammar.specs.declared.page.Page.{Page}
use Rattle.np_script_grammar.specs.declared.page.Resource.{Resource}
use Rattle.np_script_grammar.specs.declared.plugin.Plugin.{Plugin}
use Rattle.np_message.specs.Encoding.{encodings}
use Rattle.np_message.specs.Message.{Message}
use Rattle.np_journal.specs.declared.line.Line.{Line}
use Rattle.np_machine.specs.declared.refusal.Refusal.{Refusal}
use Rattle.np_machine.specs.declared.step.PutFile.{PutFile}
use Rattle.np_machine.specs.Machine.{Machine, both_start, machine_run}
use Rattle.np_machine.specs.Side.{SideState, at_start}
use Rattle.np_machine.specs.Turn.{endpoint_run, refused}
use Rattle.np_machine_plans.specs.declared.page.PageControl.{PageControl}
use Rattle.np_machine_plans.specs.declared.plugin.PluginControl.{PluginControl}
use Rattle.np_machine_plans.specs.Laws.{direct_run, is_idle}
use Rattle.np_machine_plans.specs.PageControls.{page_start}
use Rattle.np_machine_plans.specs.PagePlans.{page_plans}
use Rattle.np_machine_plans.specs.PeerLost.{peer_lost}
use Rattle.np_machine_plans.specs.PluginPlans.{plugin_plans, plugin_start}

-- a resource that carries the piece so many times
abbrev pub repeated : ℕ → List ℕ → List ℕ
repeated zero piece = []
repeated (suc n) piece = piece ++ repeated n piece

-- a resource, with what it carries
abbrev pub resource : List ℕ → List ℕ → ℕ → List ℕ → Resource
resource url mime times piece = record { url = url; mime = mime; times = times; piece = piece; content = repeated times piece }

-- ---- both sides

-- a run of both sides: their journals, the files that the page put, and whether neither side can do more
pub record Outcome : Type 0 where
  pub page : List Line
  pub plugin : List Line
  pub files : List PutFile
  pub rests : Bool

-- what both sides have come to
abbrev pub outcome_of : Page → Plugin → Machine PageControl PluginControl → Outcome
outcome_of page plugin w = record {
  page = w.page.journal;
  plugin = w.plugin.journal;
  files = w.page.files;
  rests = is_idle (page_plans page) w.plugin.sent w.page && is_idle (plugin_plans plugin) w.page.sent w.plugin;
}

-- the run after so many rounds, of which the gate lets so many messages of the plug-in through
abbrev pub run_of : ℕ → Option ℕ → Page → Plugin → Machine PageControl PluginControl
run_of rounds gate page plugin = machine_run (page_plans page) (plugin_plans plugin) gate None rounds (both_start (page_start page) plugin_start)

-- what both sides come to in so many rounds
abbrev pub outcome : ℕ → Page → Plugin → Outcome
outcome rounds page plugin = outcome_of page plugin (run_of rounds None page plugin)

-- the same of the direct run
abbrev pub direct_outcome : ℕ → Page → Plugin → Outcome
direct_outcome turns page plugin = outcome_of page plugin (direct_run (page_plans page) (plugin_plans plugin) turns (both_start (page_start page) plugin_start))

-- all bytes that the page sends
abbrev pub page_bytes : ℕ → Page → Plugin → List ℕ
page_bytes rounds page plugin = encodings (run_of rounds None page plugin).page.sent

-- all bytes that the plug-in sends
abbrev pub plugin_bytes : ℕ → Page → Plugin → List ℕ
plugin_bytes rounds page plugin = encodings (run_of rounds None page plugin).plugin.sent

-- ---- a page whose plug-in is lost

-- its journal, and whether it has come to its end
pub record LostOutcome : Type 0 where
  pub page : List Line
  pub rests : Bool

-- what a page has come to that no message reaches any more
abbrev pub lost_outcome_of : Page → SideState PageControl → LostOutcome
lost_outcome_of page p = record { page = p.journal; rests = is_idle (page_plans page) [] p }

-- the page of that run, which goes on alone for so many turns after its plug-in is lost
abbrev pub lost_outcome : ℕ → Option ℕ → Page → Plugin → LostOutcome
lost_outcome rounds gate page plugin = lost_outcome_of page (endpoint_run (page_plans page) [] rounds (peer_lost (run_of rounds gate page plugin).page))

-- ---- a side alone

-- a page alone, which these messages reach: how it refuses one of them, if it does, and its journal after the loss
pub record PageOutcome : Type 0 where
  pub refusal : Option Refusal
  pub page : List Line

-- what a page alone has come to, and its journal after the plug-in is lost
abbrev pub page_outcome_of : ℕ → Page → List Message → SideState PageControl → PageOutcome
page_outcome_of turns page got p = record {
  refusal = refused (page_plans page) got p;
  page = (endpoint_run (page_plans page) [] turns (peer_lost p)).journal;
}

-- what a page alone comes to in so many turns
abbrev pub page_outcome : ℕ → Page → List Message → PageOutcome
page_outcome turns page got = page_outcome_of turns page got (endpoint_run (page_plans page) got turns (at_start sides.Page (page_start page)))

-- a plug-in alone, which these messages reach: how it refuses one of them, if it does, and its journal
pub record PluginOutcome : Type 0 where
  pub refusal : Option Refusal
  pub plugin : List Line

-- what a plug-in alone has come to
abbrev pub plugin_outcome_of : Plugin → List Message → SideState PluginControl → PluginOutcome
plugin_outcome_of plugin got p = record { refusal = refused (plugin_plans plugin) got p; plugin = p.journal }

-- what a plug-in alone comes to in so many turns
abbrev pub plugin_outcome : ℕ → Plugin → List Message → PluginOutcome
plugin_outcome turns plugin got = plugin_outcome_of plugin got (endpoint_run (plugin_plans plugin) got turns (at_start sides.Plug plugin_start))
