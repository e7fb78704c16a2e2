use Rattle.std.proofs.Common.{arith}
use Rattle.np_script_grammar.specs.Scripts.{task_lines}
use Rattle.np_script_print.specs.Printed.{whole_line}
use Rattle.np_script_print.proofs.Texts.{flattened}
use Rattle.np_script_print.proofs.declarations.push_tasks.Goals as goal

pub returns-clause-ok : goal.returns-clause-ok
returns-clause-ok c = flattened whole_line task_lines c.args.tasks.now c.loop-task.task-index _ _ (omega arith) c.loop-task.invariant
