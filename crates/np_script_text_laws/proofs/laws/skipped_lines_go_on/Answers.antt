use Rattle.np_script_text_laws.proofs.TextLines.{skips}
use Rattle.np_script_text_laws.proofs.laws.skipped_lines_go_on.Goals as goal

pub returns : goal.returns
returns c = record { law = skips }
