use Rattle.np_script_actions.proofs.ActionTables.{were_lines}
use Rattle.np_script_actions.proofs.laws.actions_were_lines.Goals as goal

pub returns : goal.returns
returns c = record { law = were_lines }
