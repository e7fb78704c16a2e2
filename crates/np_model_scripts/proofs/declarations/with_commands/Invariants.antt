use Rattle.std.proofs.Common.{◌≡◌, map, max, take}
use Rattle.np_model_scripts.specs.Levels.{greatest, command_level}
use Rattle.np_model_scripts.proofs.declarations.with_commands.Given as goal

abbrev pub invariant-loop-command : goal.invariant-loop-command
invariant-loop-command l = l.level ≡ max l.least (greatest (map command_level (take l.command-index l.commands)))
