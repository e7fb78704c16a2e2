use Rattle.std.proofs.Common.{◌≡◌, map, max, take}
use Rattle.np_model_scripts.specs.Levels.{greatest, task_level}
use Rattle.np_model_scripts.proofs.declarations.with_tasks.Given as goal

abbrev pub invariant-loop-task : goal.invariant-loop-task
invariant-loop-task l = l.level ≡ max l.least (greatest (map task_level (take l.task-index l.tasks)))
