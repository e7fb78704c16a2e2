use Rattle.std.proofs.Common.{arith, rules}
use Rattle.np_model_scripts.specs.Levels.{task_level}
use Rattle.np_model_scripts.proofs.Greatest.{one_more}
use Rattle.np_model_scripts.proofs.declarations.with_tasks.Goals as goal

pub loop-task-preserved : goal.loop-task-preserved
loop-task-preserved c =
    one_more task_level c.args.least c.loop-task.level _ _ c.args.tasks.now c.loop-task.task-index c.task-item.result (omega arith) c.task-item.is (search rules) c.greater-level.ensures.value c.loop-task.invariant
