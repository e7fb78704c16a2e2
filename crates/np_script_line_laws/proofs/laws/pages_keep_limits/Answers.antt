use Rattle.np_script_line_laws.proofs.Kept.{pages_keep}
use Rattle.np_script_line_laws.proofs.laws.pages_keep_limits.Goals as goal

pub returns : goal.returns
returns c = record { law = pages_keep }
