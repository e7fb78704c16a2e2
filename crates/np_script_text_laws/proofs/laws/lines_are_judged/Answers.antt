use Rattle.np_script_text_laws.proofs.Judged.{judged}
use Rattle.np_script_text_laws.proofs.laws.lines_are_judged.Goals as goal

pub returns : goal.returns
returns c = record { law = judged c.fields_are_decided.ensures.law }
