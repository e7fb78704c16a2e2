use Rattle.np_script_text_laws.proofs.OneError.{no-script}
use Rattle.np_script_text_laws.proofs.laws.refused_texts_are_no_scripts.Goals as goal

pub returns : goal.returns
returns c = record { law = no-script }
