use Rattle.std.proofs.Common.{arith}
use Rattle.np_model_scripts.specs.Levels.{command_level}
use Rattle.np_model_scripts.proofs.Greatest.{one_more}
use Rattle.np_model_scripts.proofs.declarations.with_commands.Goals as goal

pub loop-command-preserved : goal.loop-command-preserved
loop-command-preserved c =
    one_more command_level c.args.least c.loop-command.level _ _ c.args.commands.now c.loop-command.command-index c.command-item.result (omega arith) c.command-item.is c.command_level.ensures.value c.greater-level.ensures.value c.loop-command.invariant
