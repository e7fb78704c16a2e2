use Rattle.np_model_scripts.proofs.Scripts.{says-well-formed}
use Rattle.np_model_scripts.proofs.laws.served_pages_are_well_formed.Goals as goal

pub returns : goal.returns
returns c = record { law = says-well-formed c.page_scripts_keep_rules.ensures.law c.commands_are_few.ensures.law }
