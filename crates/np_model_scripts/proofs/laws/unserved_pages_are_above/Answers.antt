use Rattle.np_model_scripts.proofs.ServedLevels.{pages-above}
use Rattle.np_model_scripts.proofs.laws.unserved_pages_are_above.Goals as goal

pub returns : goal.returns
returns c = record { law = pages-above }
