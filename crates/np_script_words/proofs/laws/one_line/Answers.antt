use Rattle.np_script_words.proofs.LineLaws.{one_line_lem}
use Rattle.np_script_words.proofs.laws.one_line.Goals as goal

pub returns : goal.returns
returns c = record { law = one_line_lem }
