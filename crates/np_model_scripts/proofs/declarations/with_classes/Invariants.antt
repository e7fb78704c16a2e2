use Rattle.std.proofs.Common.{◌≡◌, map, max, take}
use Rattle.np_model_scripts.specs.Levels.{greatest, class_level}
use Rattle.np_model_scripts.proofs.declarations.with_classes.Given as goal

abbrev pub invariant-loop-class : goal.invariant-loop-class
invariant-loop-class l = l.level ≡ max l.least (greatest (map class_level (take l.class-index l.classes)))
