use Rattle.std.proofs.Common.{◌≡◌, ◌++◌, take}
use Rattle.std.specs.List.{flat_map}
use Rattle.np_script_grammar.specs.Scripts.{member_lines}
use Rattle.np_script_print.specs.Printed.{lines_text}
use Rattle.np_script_print.proofs.bodies.push_members.Given as goal

abbrev pub invariant-loop-member : goal.invariant-loop-member
invariant-loop-member l = l.out.items ≡ l.fn.out.items ++ flat_map (λ member. lines_text (member_lines member)) (take l.member-index l.members)
