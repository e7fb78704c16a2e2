-- What the plug-in prints and writes in the run of a page and a plug-in. (This project's own.)
use Rattle.std.specs.Prelude.{◌≡◌, ℕ, List, ◌++◌, None}
use Rattle.np_model.specs.declared.script.Page.{Page}
use Rattle.np_model.specs.declared.script.Plugin.{Plugin}
use Rattle.np_model.specs.declared.plugin.PluginStage.{PluginStage}
use Rattle.np_model.specs.declared.plugin.PluginStage.TheVariants.{Begin, Serving, Ended}
use Rattle.np_message.specs.Encoding.{encodings}
use Rattle.np_model.specs.Side.{SideState}
use Rattle.np_model.specs.Run.{machine_run, PluginRests}
use Rattle.np_model.specs.PagePlan.{page_plans}
use Rattle.np_model.specs.PluginPlan.{PluginControl, plugin_plans}
use Rattle.np_model.specs.HostRun.{start_of}

-- the plug-in in the run of page and plug-in that the first j messages of the page reach: before the page's next message takes effect
abbrev pub PluginRestsIn : Page → Plugin → ℕ → SideState PluginControl → Type 0
PluginRestsIn page plugin j q = PluginRests (page_plans page) (plugin_plans plugin) (start_of page) j q

-- the plug-in awaits a message
abbrev pub IsListening : PluginStage → Type 0
IsListening Begin = Unit {0}
IsListening Serving = Unit {0}
IsListening Ended = ⊥

-- the bytes are a prefix of the page's wire text in the run of page and plug-in
pub record IsPageText (page : Page) (plugin : Plugin) (bytes : List ℕ) : Type 0 where
  pub rounds : ℕ
  pub rest : List ℕ
  pub text : encodings (machine_run (page_plans page) (plugin_plans plugin) None None rounds (start_of page)).page.sent ≡ bytes ++ rest
