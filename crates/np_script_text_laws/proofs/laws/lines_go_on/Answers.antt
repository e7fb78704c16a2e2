use Rattle.np_script_text_laws.proofs.TextLines.{goes-on}
use Rattle.np_script_text_laws.proofs.laws.lines_go_on.Goals as goal

pub returns : goal.returns
returns c = record { law = goes-on }
