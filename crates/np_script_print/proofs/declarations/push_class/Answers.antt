use Rattle.std.proofs.Common.{[], ◌∷◌}
use Rattle.std.specs.Prelude.{codes}
use Rattle.std.specs.List.{flat_map}
use Rattle.np_script_grammar.specs.Scripts.{alone, class_opening, data_lines, member_lines}
use Rattle.np_script_print.specs.Printed.{whole_line}
use Rattle.np_script_print.proofs.Blocks.{three_blocks, last_line}
use Rattle.np_script_print.proofs.declarations.push_class.Goals as goal

pub returns-clause-ok : goal.returns-clause-ok
returns-clause-ok c =
    let class = c.args.class.now in
    let ending = alone (codes "endclass") in
    three_blocks _ _ _ _ _ (whole_line (class_opening class)) (data_lines class.stored) (flat_map member_lines class.members) (ending ∷ [])
    c.in_ok-push_class_opening.ensures.ok c.in_ok-push_data.ensures.ok (rw c.as_slice.ensures.same at c.in_ok-push_members.ensures.ok) (last_line _ _ ending c.in_ok-push_alone_line.ensures.ok)
