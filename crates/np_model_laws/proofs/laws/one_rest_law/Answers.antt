use Rattle.np_model.specs.Side.{at_start}
use Rattle.np_model_laws.specs.Laws.{both_start}
use Rattle.np_model_laws.proofs.Alone.{one_rest}
use Rattle.np_model_laws.proofs.Cut.{page-one_rest, plugin-one_rest}
use Rattle.np_model_laws.proofs.laws.one_rest_law.Goals as goal

pub returns : goal.returns
returns c = record { law = λ P Q c d. (λ got p q. one_rest P got (at_start c) p q, λ k p q. page-one_rest P Q (both_start c d) k p q, λ j p q. plugin-one_rest P Q (both_start c d) j p q) }
