use Rattle.np_machine_plans.specs.Laws.{after_turns}
use Rattle.np_machine_plans.specs.PageControls.{page_start}
use Rattle.np_machine_plans.specs.PagePlans.{page_plans}
use Rattle.np_machine_plans.specs.PluginPlans.{plugin_plans, plugin_start}
use Rattle.np_machine_plans.proofs.KnownNames.{known-names}
use Rattle.np_machine_plans.proofs.laws.names_law.Goals as goal

pub returns : goal.returns
returns c = record {
  law = λ page plugin order m.
      let w = after_turns page plugin order in
      let l = c.honest_names_law.ensures.law (page_plans page) (plugin_plans plugin) (page_start page) plugin_start order m in
      ((λ e. known-names w.page m (l.0 e)), (λ e. known-names w.plugin m (l.1 e)));
}
