use Rattle.np_script_text_laws.proofs.OwnText.{completed}
use Rattle.np_script_text_laws.proofs.laws.texts_can_be_completed.Goals as goal

pub returns : goal.returns
returns c = record { law = completed c.spaced_line.ensures.law c.lines_can_be_completed.ensures.law }
