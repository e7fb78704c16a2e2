use Rattle.np_model_laws.proofs.Replies.{page-calls}
use Rattle.np_model_laws.proofs.laws.calls_law.Goals as goal

pub returns : goal.returns
returns c = record { law = page-calls }
