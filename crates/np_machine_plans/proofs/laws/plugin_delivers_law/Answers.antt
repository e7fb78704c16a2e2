use Rattle.np_machine_plans.proofs.PluginDeliveries.{delivers-all}
use Rattle.np_machine_plans.proofs.laws.plugin_delivers_law.Goals as goal

pub returns : goal.returns
returns c = record { law = λ plugin got turns. delivers-all (λ remote plan p. c.delivered_law.ensures.law remote plan p) plugin got turns }
