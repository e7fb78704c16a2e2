use Rattle.std.proofs.Common.{◌≡◌, map, max, take}
use Rattle.np_model_scripts.specs.Levels.{greatest, action_level}
use Rattle.np_model_scripts.proofs.bodies.body_level.Given as goal

abbrev pub invariant-loop-action : goal.invariant-loop-action
invariant-loop-action l = l.level ≡ max l.opening (greatest (map action_level (take l.action-index l.body)))
