use Rattle.np_model_laws.proofs.Replies.{rounds-are_turns}
use Rattle.np_model_laws.proofs.laws.rounds_law.Goals as goal

pub returns : goal.returns
returns c = record { law = rounds-are_turns }
