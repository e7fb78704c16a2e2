use Rattle.std.proofs.Common.{◌≡◌, ◌++◌, take}
use Rattle.std.specs.List.{flat_map}
use Rattle.np_script_grammar.specs.Rows.{action_line}
use Rattle.np_script_print.specs.Printed.{whole_line}
use Rattle.np_script_print.proofs.actions.push_actions.Given as goal

abbrev pub invariant-loop-action : goal.invariant-loop-action
invariant-loop-action l = l.out.items ≡ l.fn.out.items ++ flat_map (λ action. whole_line (action_line action)) (take l.action-index l.actions)
