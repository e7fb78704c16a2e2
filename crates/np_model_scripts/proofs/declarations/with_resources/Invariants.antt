use Rattle.std.proofs.Common.{◌≡◌, map, max, take}
use Rattle.np_model_scripts.specs.Levels.{greatest, resource_level}
use Rattle.np_model_scripts.proofs.declarations.with_resources.Given as goal

abbrev pub invariant-loop-resource : goal.invariant-loop-resource
invariant-loop-resource l = l.level ≡ max l.least (greatest (map resource_level (take l.resource-index l.resources)))
