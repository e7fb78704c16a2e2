use Rattle.np_model_laws.proofs.Honest.{honest}
use Rattle.np_model_laws.proofs.laws.honest_law.Goals as goal

pub returns : goal.returns
returns c = record { law = honest }
