use Rattle.np_script_text_laws.proofs.OneError.{one-error}
use Rattle.np_script_text_laws.proofs.laws.one_refusal.Goals as goal

pub returns : goal.returns
returns c = record { law = one-error c.one_line.ensures.law }
