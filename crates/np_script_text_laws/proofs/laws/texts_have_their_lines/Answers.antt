use Rattle.np_script_text_laws.proofs.OwnText.{have-lines}
use Rattle.np_script_text_laws.proofs.laws.texts_have_their_lines.Goals as goal

pub returns : goal.returns
returns c = record { law = have-lines c.spaced_line.ensures.law }
