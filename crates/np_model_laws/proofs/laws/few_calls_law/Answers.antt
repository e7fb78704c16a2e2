use Rattle.np_model_laws.proofs.FewCalls.{page-few}
use Rattle.np_model_laws.proofs.laws.few_calls_law.Goals as goal

pub returns : goal.returns
returns c = record { law = page-few }
