-- The plug-in alone with a prefix of the page's wire text is the plug-in of the one process that only the whole messages of that prefix reach.
use Rattle.std.specs.Prelude.{◌≡◌, ℕ, ◌+◌, ◌*◌, ◌≤◌, List, ◌++◌, length}
use Rattle.np_model.specs.declared.script.Page.{Page}
use Rattle.np_model.specs.declared.script.Plugin.{Plugin}
use Rattle.np_message.specs.Message.{Message}
use Rattle.np_model.specs.Script.{IsWellFormed}
use Rattle.np_model.specs.Side.{SideState}
use Rattle.np_model.specs.PluginPlan.{PluginControl}
use Rattle.np_model.specs.PluginRun.{PluginRestsIn, IsPageText}
use Rattle.np_model_wire_laws.specs.Prefix.{IsWhole}
use Rattle.np_model.specs.Alone.{plugin_role, ComesTo, WaitsAt, EndsAt, RefusesNothing}

-- where the plug-in waits with these bytes, it rests in the one process at the same place
abbrev pub PluginWaitsLaw : Type 0
PluginWaitsLaw = (page : Page) (plugin : Plugin) (given : List ℕ) (side : SideState PluginControl) → IsWellFormed page → IsPageText page plugin given → WaitsAt (plugin_role plugin) given side → PluginRestsIn page plugin (length side.examined) side × IsWhole given (length side.examined)

-- and where it ends, since the page sends nothing after Shutdown
abbrev pub PluginEndsLaw : Type 0
PluginEndsLaw = (page : Page) (plugin : Plugin) (given : List ℕ) (side : SideState PluginControl) → IsWellFormed page → IsPageText page plugin given → EndsAt (plugin_role plugin) given side → PluginRestsIn page plugin (length side.examined) side × IsWhole given (length side.examined)

-- it does rest in that run
abbrev pub PluginComesToRestLaw : Type 0
PluginComesToRestLaw = (page : Page) (plugin : Plugin) (given : List ℕ) → IsWellFormed page → IsPageText page plugin given → (n : ℕ) × (side : SideState PluginControl) × IsWhole given n × PluginRestsIn page plugin n side

-- nothing of such bytes is refused
abbrev pub PluginNeverRefusesLaw : Type 0
PluginNeverRefusesLaw = (page : Page) (plugin : Plugin) (given : List ℕ) → IsWellFormed page → IsPageText page plugin given → RefusesNothing (plugin_role plugin) given

-- what the plug-in printed and sent by some point begins what it printed and sent where it rests
abbrev pub PluginBeginsLaw : Type 0
PluginBeginsLaw = (page : Page) (plugin : Plugin) (given : List ℕ) (n : ℕ) (side p : SideState PluginControl) → IsWellFormed page → IsPageText page plugin given → ComesTo (plugin_role plugin) given side → IsWhole given n → PluginRestsIn page plugin n p →
    ((line : List ℕ) × (p.journal ≡ side.journal ++ line)) × ((messages : List Message) × (p.sent ≡ side.sent ++ messages))

-- few bytes are such a prefix: at most 2,061 for each call, and at most two calls for each command beside Hello and Shutdown
abbrev pub PageFewBytesLaw : Type 0
PageFewBytesLaw = (page : Page) (plugin : Plugin) (given : List ℕ) → IsWellFormed page → IsPageText page plugin given → length given ≤ 2061 * (2 * length page.commands + 2)
