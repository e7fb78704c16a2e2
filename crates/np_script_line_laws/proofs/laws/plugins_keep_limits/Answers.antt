use Rattle.np_script_line_laws.proofs.Kept.{plugins_keep}
use Rattle.np_script_line_laws.proofs.laws.plugins_keep_limits.Goals as goal

pub returns : goal.returns
returns c = record { law = plugins_keep }
