use Rattle.np_script_actions.proofs.ActionTables.{lines_say}
use Rattle.np_script_actions.proofs.laws.lines_say_actions.Goals as goal

pub returns : goal.returns
returns c = record { law = lines_say }
