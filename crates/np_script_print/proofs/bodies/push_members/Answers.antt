use Rattle.std.proofs.Common.{arith}
use Rattle.np_script_grammar.specs.Scripts.{member_lines}
use Rattle.np_script_print.specs.Printed.{whole_line}
use Rattle.np_script_print.proofs.Texts.{flattened}
use Rattle.np_script_print.proofs.bodies.push_members.Goals as goal

pub returns-clause-ok : goal.returns-clause-ok
returns-clause-ok c = flattened whole_line member_lines c.args.members.now c.loop-member.member-index _ _ (omega arith) c.loop-member.invariant
