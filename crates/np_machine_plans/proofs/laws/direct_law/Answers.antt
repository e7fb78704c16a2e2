use Rattle.np_machine_plans.proofs.DirectRuns.{direct-is-a-run}
use Rattle.np_machine_plans.proofs.laws.direct_law.Goals as goal

pub returns : goal.returns
returns g c = record { law = λ P Q n w. direct-is-a-run P Q n w }
