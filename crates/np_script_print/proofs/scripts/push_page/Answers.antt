use Rattle.std.proofs.Common.{[], ◌∷◌, map}
use Rattle.std.specs.Prelude.{codes}
use Rattle.std.specs.List.{flat_map}
use Rattle.np_script_grammar.specs.Rows.{number, command_line}
use Rattle.np_script_grammar.specs.Scripts.{alone, class_lines, resource_line}
use Rattle.np_script_print.specs.Printed.{whole_line}
use Rattle.np_script_print.proofs.Blocks.{three_blocks}
use Rattle.np_script_print.proofs.scripts.push_page.Goals as goal

pub returns-clause-ok : goal.returns-clause-ok
returns-clause-ok c =
    let page = c.args.page.now in
    three_blocks _ _ _ _ _ (whole_line (codes "page", number page.major ∷ number page.minor ∷ [])) (flat_map (class_lines 0) page.classes)
    (map resource_line page.resources) (alone (codes "do") ∷ map command_line page.commands)
    c.in_ok-push_head.ensures.ok (rw c.as_slice.ensures.same at c.in_ok-push_classes.ensures.ok) (rw c.as_slice-2.ensures.same at c.in_ok-push_resources.ensures.ok) (rw c.as_slice-3.ensures.same at c.in_ok-push_do.ensures.ok)
