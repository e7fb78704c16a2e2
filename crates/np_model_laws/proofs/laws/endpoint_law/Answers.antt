use Rattle.np_model.specs.Side.{at_start}
use Rattle.np_model_laws.proofs.Gated.{endpoint-follows}
use Rattle.np_model_laws.proofs.laws.endpoint_law.Goals as goal

pub returns : goal.returns
returns c = record { law = λ P Q c d order. endpoint-follows P Q (at_start c) (at_start d) order }
