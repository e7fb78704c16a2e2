use Rattle.std.proofs.Common.{[], ◌∷◌}
use Rattle.std.specs.Prelude.{codes}
use Rattle.std.specs.List.{flat_map}
use Rattle.np_script_grammar.specs.Rows.{number}
use Rattle.np_script_grammar.specs.Scripts.{class_lines, handler_lines, task_lines}
use Rattle.np_script_print.specs.Printed.{whole_line}
use Rattle.np_script_print.proofs.Blocks.{three_blocks}
use Rattle.np_script_print.proofs.scripts.push_plugin.Goals as goal

pub returns-clause-ok : goal.returns-clause-ok
returns-clause-ok c =
    let plugin = c.args.plugin.now in
    three_blocks _ _ _ _ _ (whole_line (codes "plugin", number plugin.major ∷ number plugin.minor ∷ [])) (flat_map (class_lines 0) plugin.classes)
    (flat_map handler_lines plugin.handlers) (flat_map task_lines plugin.tasks)
    c.in_ok-push_head.ensures.ok (rw c.as_slice.ensures.same at c.in_ok-push_classes.ensures.ok) (rw c.as_slice-2.ensures.same at c.in_ok-push_handlers.ensures.ok) (rw c.as_slice-3.ensures.same at c.in_ok-push_tasks.ensures.ok)
