use Rattle.np_script_line_laws.proofs.Completion.{completed}
use Rattle.np_script_line_laws.proofs.laws.lines_can_be_completed.Goals as goal

pub returns : goal.returns
returns c = record { law = completed }
