use Rattle.std.proofs.Common.{arith, rules}
use Rattle.np_model_scripts.specs.Levels.{handler_level}
use Rattle.np_model_scripts.proofs.Greatest.{one_more}
use Rattle.np_model_scripts.proofs.declarations.with_handlers.Goals as goal

pub loop-handler-preserved : goal.loop-handler-preserved
loop-handler-preserved c =
    one_more handler_level c.args.least c.loop-handler.level _ _ c.args.handlers.now c.loop-handler.handler-index c.handler-item.result (omega arith) c.handler-item.is (search rules) c.greater-level.ensures.value c.loop-handler.invariant
