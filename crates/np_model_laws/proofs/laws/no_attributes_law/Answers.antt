use Rattle.np_model_laws.proofs.PagePace.{page-plain}
use Rattle.np_model_laws.proofs.laws.no_attributes_law.Goals as goal

pub returns : goal.returns
returns c = record { law = page-plain }
