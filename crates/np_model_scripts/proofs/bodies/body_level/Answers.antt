use Rattle.std.proofs.Common.{arith}
use Rattle.np_model_scripts.specs.Levels.{action_level}
use Rattle.np_model_scripts.proofs.Greatest.{one_more}
use Rattle.np_model_scripts.proofs.bodies.body_level.Goals as goal

pub loop-action-preserved : goal.loop-action-preserved
loop-action-preserved c =
    one_more action_level c.args.opening c.loop-action.level _ _ c.args.body.now c.loop-action.action-index c.action-item.result (omega arith) c.action-item.is c.action_level.ensures.value c.greater-level.ensures.value c.loop-action.invariant
