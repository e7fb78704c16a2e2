use Rattle.std.proofs.Common.{◌≡◌, map, max, take}
use Rattle.np_model_scripts.specs.Levels.{greatest, member_level}
use Rattle.np_model_scripts.proofs.declarations.with_members.Given as goal

abbrev pub invariant-loop-member : goal.invariant-loop-member
invariant-loop-member l = l.level ≡ max l.least (greatest (map member_level (take l.member-index l.members)))
