-- The paces of a page and of a plug-in, in the words of their stages.
use Rattle.std.proofs.Common.{◌≡◌, refl}
use Rattle.np_model.specs.declared.page.Stage.{Stage}
use Rattle.np_model.specs.declared.page.Stage.TheVariants as stages
use Rattle.np_model.specs.declared.plugin.PluginStage.{PluginStage}
use Rattle.np_model.specs.declared.plugin.PluginStage.TheVariants.{Begin, Serving, Ended}
use Rattle.np_model.specs.Run.{Awaits, HasEnded}
use Rattle.np_model.specs.PagePlan.{pace_at}
use Rattle.np_model.specs.PluginPlan.{plugin_pace}
use Rattle.np_model.specs.HostRun.{IsAwaiting}
use Rattle.np_model.specs.PluginRun.{IsListening}

-- ---- a page

pub page-awaits : (s : Stage) → IsAwaiting s → pace_at s ≡ Awaits
page-awaits stages.Begin a = absurd a
page-awaits stages.Ready a = absurd a
page-awaits (stages.Awaiting call) a = refl
page-awaits (stages.Unanswered call) a = absurd a
page-awaits stages.Ended a = absurd a

pub page-awaiting : (s : Stage) → pace_at s ≡ Awaits → IsAwaiting s
page-awaiting stages.Begin e = cc
page-awaiting stages.Ready e = cc
page-awaiting (stages.Awaiting call) e = tt
page-awaiting (stages.Unanswered call) e = cc
page-awaiting stages.Ended e = cc

pub page-ended : (s : Stage) → pace_at s ≡ HasEnded → s ≡ stages.Ended
page-ended stages.Begin e = cc
page-ended stages.Ready e = cc
page-ended (stages.Awaiting call) e = cc
page-ended (stages.Unanswered call) e = cc
page-ended stages.Ended e = refl

-- ---- a plug-in

pub plugin-awaits : (s : PluginStage) → IsListening s → plugin_pace s ≡ Awaits
plugin-awaits Begin a = refl
plugin-awaits Serving a = refl
plugin-awaits Ended a = absurd a

pub plugin-listening : (s : PluginStage) → plugin_pace s ≡ Awaits → IsListening s
plugin-listening Begin e = tt
plugin-listening Serving e = tt
plugin-listening Ended e = cc

pub plugin-ended : (s : PluginStage) → plugin_pace s ≡ HasEnded → s ≡ Ended
plugin-ended Begin e = cc
plugin-ended Serving e = cc
plugin-ended Ended e = refl
