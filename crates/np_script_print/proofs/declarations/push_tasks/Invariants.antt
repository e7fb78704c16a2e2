use Rattle.std.proofs.Common.{◌≡◌, ◌++◌, take}
use Rattle.std.specs.List.{flat_map}
use Rattle.np_script_grammar.specs.Scripts.{task_lines}
use Rattle.np_script_print.specs.Printed.{lines_text}
use Rattle.np_script_print.proofs.declarations.push_tasks.Given as goal

abbrev pub invariant-loop-task : goal.invariant-loop-task
invariant-loop-task l = l.out.items ≡ l.fn.out.items ++ flat_map (λ task. lines_text (task_lines task)) (take l.task-index l.tasks)
