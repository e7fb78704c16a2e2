use Rattle.np_model_laws.proofs.Replies.{page-counted}
use Rattle.np_model_laws.proofs.laws.paced_law.Goals as goal

pub returns : goal.returns
returns c = record { law = page-counted }
