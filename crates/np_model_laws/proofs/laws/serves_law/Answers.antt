use Rattle.np_model_laws.proofs.PluginServes.{plugin-serves}
use Rattle.np_model_laws.proofs.laws.serves_law.Goals as goal

pub returns : goal.returns
returns c = record { law = λ plugin got turns. let s = plugin-serves plugin got turns in (s.control, s.sent, s.journal) }
