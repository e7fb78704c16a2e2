use Rattle.np_model_laws.proofs.Lost.{lost-silent, lost-rests}
use Rattle.np_model_laws.proofs.laws.lost_law.Goals as goal

pub returns : goal.returns
returns c = record { law = (lost-silent, λ page p call e. lost-rests page p) }
