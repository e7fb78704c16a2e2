use Rattle.np_script_actions.proofs.CommandTables.{are_read}
use Rattle.np_script_actions.proofs.laws.commands_are_read.Goals as goal

pub returns : goal.returns
returns c = record { law = are_read }
