use Rattle.np_model_laws.proofs.Replies.{plugin-replies}
use Rattle.np_model_laws.proofs.laws.replies_law.Goals as goal

pub returns : goal.returns
returns c = record { law = plugin-replies }
