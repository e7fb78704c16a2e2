use Rattle.np_model.specs.Side.{at_start}
use Rattle.np_model_laws.proofs.Alone.{one_rest}
use Rattle.np_model_laws.proofs.laws.plugin_one_rest_law.Goals as goal

pub returns : goal.returns
returns c = record { law = λ Q got d p q. one_rest Q got (at_start d) p q }
