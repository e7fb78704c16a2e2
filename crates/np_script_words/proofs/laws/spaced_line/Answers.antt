use Rattle.np_script_words.proofs.LineLaws.{spaced_line_lem}
use Rattle.np_script_words.proofs.laws.spaced_line.Goals as goal

pub returns : goal.returns
returns c = record { law = spaced_line_lem }
