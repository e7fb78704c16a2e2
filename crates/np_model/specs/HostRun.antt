-- What the host prints and writes in the run of a page and a plug-in. (This project's own.)
use Rattle.std.specs.Prelude.{◌≡◌, ℕ, List, [], ◌++◌, None}
use Rattle.np_model.specs.declared.script.Page.{Page}
use Rattle.np_model.specs.declared.page.Stage.{Stage}
use Rattle.np_model.specs.declared.page.Stage.TheVariants.{Begin, Ready, Awaiting, Unanswered, Ended}
use Rattle.np_message.specs.Encoding.{encodings}
use Rattle.np_model.specs.Side.{SideState, at_start}
use Rattle.np_model.specs.Run.{Machine, machine_run, RestsAt, PageRests}
use Rattle.np_model.specs.PagePlan.{PageControl, page_plans, page_start, lose}
use Rattle.np_model.specs.declared.script.Plugin.{Plugin}
use Rattle.np_model.specs.PluginPlan.{PluginControl, plugin_plans, plugin_start}

-- this page and a plug-in before anything was done
abbrev pub start_of : Page → Machine PageControl PluginControl
start_of page = record { page = at_start (page_start page); plugin = at_start plugin_start }

-- the page in the run of page and plug-in that the first k messages of the plug-in reach
abbrev pub HostRests : Page → Plugin → ℕ → SideState PageControl → Type 0
HostRests page plugin k p = PageRests (page_plans page) (plugin_plans plugin) (start_of page) k p

-- the page continues alone from p, where the plug-in is lost, and ends at q
abbrev pub GoesOnLost : Page → SideState PageControl → SideState PageControl → Type 0
GoesOnLost page p q = RestsAt (page_plans page) [] (lose p) q

-- the page awaits the reply to a call
abbrev pub IsAwaiting : Stage → Type 0
IsAwaiting Begin = ⊥
IsAwaiting Ready = ⊥
IsAwaiting (Awaiting call) = Unit {0}
IsAwaiting (Unanswered call) = ⊥
IsAwaiting Ended = ⊥

-- the bytes are a prefix of the plug-in's wire text in the run of page and plug-in
pub record IsPluginText (page : Page) (plugin : Plugin) (bytes : List ℕ) : Type 0 where
  pub rounds : ℕ
  pub rest : List ℕ
  pub text : encodings (machine_run (page_plans page) (plugin_plans plugin) None None rounds (start_of page)).plugin.sent ≡ bytes ++ rest
