use Rattle.std.proofs.Common.{◌≡◌, ◌++◌, take}
use Rattle.std.specs.List.{flat_map}
use Rattle.np_script_grammar.specs.declared.line.Field.TheVariants as fields
use Rattle.np_script_print.specs.Printed.{behind}
use Rattle.np_script_print.proofs.fields.behind_operands.Given as goal

abbrev pub invariant-loop-operand : goal.invariant-loop-operand
invariant-loop-operand l = l.out.items ≡ l.fn.out.items ++ flat_map (λ operand. behind (fields.Operand operand)) (take l.operand-index l.operands)
