use Rattle.np_script_actions.proofs.CommandTables.{were_lines}
use Rattle.np_script_actions.proofs.laws.commands_were_lines.Goals as goal

pub returns : goal.returns
returns c = record { law = were_lines }
