use Rattle.np_machine.proofs.Orders.{rounds-are_turns}
use Rattle.np_machine.proofs.laws.rounds_law.Goals as goal

pub returns : goal.returns
returns g c = record { law = λ P Q rounds w. rounds-are_turns P Q rounds w }
