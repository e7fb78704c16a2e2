use Rattle.np_model_scripts.proofs.ServedLevels.{plugins-above}
use Rattle.np_model_scripts.proofs.laws.unserved_plugins_are_above.Goals as goal

pub returns : goal.returns
returns c = record { law = plugins-above }
