use Rattle.np_model_laws.specs.Laws.{both_start}
use Rattle.np_model_laws.proofs.Cut.{plugin-alone}
use Rattle.np_model_laws.proofs.laws.plugin_alone_law.Goals as goal

pub returns : goal.returns
returns c = record { law = λ P Q c d rounds j q. plugin-alone P Q (both_start c d) rounds j q }
