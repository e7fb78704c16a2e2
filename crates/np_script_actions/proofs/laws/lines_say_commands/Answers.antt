use Rattle.np_script_actions.proofs.CommandTables.{lines_say}
use Rattle.np_script_actions.proofs.laws.lines_say_commands.Goals as goal

pub returns : goal.returns
returns c = record { law = lines_say }
