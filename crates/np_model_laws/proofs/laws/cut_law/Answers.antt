use Rattle.np_model_laws.specs.Laws.{both_start}
use Rattle.np_model_laws.proofs.Cut.{page-cut}
use Rattle.np_model_laws.proofs.laws.cut_law.Goals as goal

pub returns : goal.returns
returns c = record { law = λ P Q c d rounds k p. page-cut P Q (both_start c d) rounds k p }
