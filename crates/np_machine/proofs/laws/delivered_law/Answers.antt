use Rattle.np_machine.proofs.Deliveries.{plan-drops}
use Rattle.np_machine.proofs.laws.delivered_law.Goals as goal

pub returns : goal.returns
returns g c = record { law = λ remote plan p. plan-drops remote plan p }
