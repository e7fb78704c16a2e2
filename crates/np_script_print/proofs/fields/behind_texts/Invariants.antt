use Rattle.std.proofs.Common.{◌≡◌, ◌++◌, take}
use Rattle.std.specs.List.{flat_map}
use Rattle.np_script_grammar.specs.declared.line.Field.TheVariants as fields
use Rattle.np_script_print.specs.Printed.{behind}
use Rattle.np_script_print.proofs.fields.behind_texts.Given as goal

abbrev pub invariant-loop-text : goal.invariant-loop-text
invariant-loop-text l = l.out.items ≡ l.fn.out.items ++ flat_map (λ text. behind (fields.Text text)) (take l.text-index l.texts)
