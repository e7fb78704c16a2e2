use Rattle.np_script_text_laws.proofs.OneSet.{one-set}
use Rattle.np_script_text_laws.proofs.laws.one_say.Goals as goal

pub returns : goal.returns
returns c = record { law = one-set c.one_line.ensures.law }
