use Rattle.np_script_text_laws.proofs.TextLines.{few}
use Rattle.np_script_text_laws.proofs.laws.lines_are_few.Goals as goal

pub returns : goal.returns
returns c = record { law = few }
