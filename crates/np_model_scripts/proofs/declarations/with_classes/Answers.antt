use Rattle.std.proofs.Common.{arith}
use Rattle.np_model_scripts.specs.Levels.{class_level}
use Rattle.np_model_scripts.proofs.Greatest.{one_more}
use Rattle.np_model_scripts.proofs.declarations.with_classes.Goals as goal

pub loop-class-preserved : goal.loop-class-preserved
loop-class-preserved c =
    one_more class_level c.args.least c.loop-class.level _ _ c.args.classes.now c.loop-class.class-index c.class-item.result (omega arith) c.class-item.is c.class_level.ensures.value c.greater-level.ensures.value c.loop-class.invariant
