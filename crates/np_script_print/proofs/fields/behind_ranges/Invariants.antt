use Rattle.std.proofs.Common.{◌≡◌, ◌++◌, take}
use Rattle.std.specs.List.{flat_map}
use Rattle.np_script_grammar.specs.Rows.{range_fields}
use Rattle.np_script_print.specs.Printed.{all_behind}
use Rattle.np_script_print.proofs.fields.behind_ranges.Given as goal

abbrev pub invariant-loop-range : goal.invariant-loop-range
invariant-loop-range l = l.out.items ≡ l.fn.out.items ++ flat_map (λ range. all_behind (range_fields range)) (take l.range-index l.ranges)
