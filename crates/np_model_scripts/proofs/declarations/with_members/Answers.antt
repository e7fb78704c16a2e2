use Rattle.std.proofs.Common.{arith, rules}
use Rattle.np_model_scripts.specs.Levels.{member_level}
use Rattle.np_model_scripts.proofs.Greatest.{one_more}
use Rattle.np_model_scripts.proofs.declarations.with_members.Goals as goal

pub loop-member-preserved : goal.loop-member-preserved
loop-member-preserved c =
    one_more member_level c.args.least c.loop-member.level _ _ c.args.members.now c.loop-member.member-index c.member-item.result (omega arith) c.member-item.is (search rules) c.greater-level.ensures.value c.loop-member.invariant
