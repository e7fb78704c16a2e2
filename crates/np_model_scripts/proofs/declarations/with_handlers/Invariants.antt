use Rattle.std.proofs.Common.{◌≡◌, map, max, take}
use Rattle.np_model_scripts.specs.Levels.{greatest, handler_level}
use Rattle.np_model_scripts.proofs.declarations.with_handlers.Given as goal

abbrev pub invariant-loop-handler : goal.invariant-loop-handler
invariant-loop-handler l = l.level ≡ max l.least (greatest (map handler_level (take l.handler-index l.handlers)))
