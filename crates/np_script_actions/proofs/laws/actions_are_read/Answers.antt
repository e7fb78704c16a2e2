use Rattle.np_script_actions.proofs.ActionTables.{are_read}
use Rattle.np_script_actions.proofs.laws.actions_are_read.Goals as goal

pub returns : goal.returns
returns c = record { law = are_read }
