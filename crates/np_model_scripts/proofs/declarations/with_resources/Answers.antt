use Rattle.std.proofs.Common.{arith, refl}
use Rattle.np_model_scripts.specs.Levels.{resource_level}
use Rattle.np_model_scripts.proofs.Greatest.{one_more}
use Rattle.np_model_scripts.proofs.declarations.with_resources.Goals as goal

pub loop-resource-preserved : goal.loop-resource-preserved
loop-resource-preserved c =
    one_more resource_level c.args.least c.loop-resource.level _ _ c.args.resources.now c.loop-resource.resource-index c.resource-item.result (omega arith) c.resource-item.is refl c.greater-level.ensures.value c.loop-resource.invariant
