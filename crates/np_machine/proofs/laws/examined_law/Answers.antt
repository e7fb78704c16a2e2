use Rattle.np_machine.proofs.Examining.{endpoint-examined}
use Rattle.np_machine.proofs.laws.examined_law.Goals as goal

pub returns : goal.returns
returns g c = record { law = λ P got turns side c. let e = endpoint-examined P got turns side c in (e.more, e.is) }
