use Rattle.np_script_text_laws.proofs.Refused.{ends}
use Rattle.np_script_text_laws.proofs.laws.refused_lines_end.Goals as goal

pub returns : goal.returns
returns c = record { law = ends c.one_line.ensures.law }
