use Rattle.std.proofs.Common.{◌≡◌, ◌++◌, take}
use Rattle.std.specs.List.{flat_map}
use Rattle.np_script_grammar.specs.Scripts.{class_lines}
use Rattle.np_script_print.specs.Printed.{lines_text}
use Rattle.np_script_print.proofs.declarations.push_classes.Given as goal

abbrev pub invariant-loop-class : goal.invariant-loop-class
invariant-loop-class l = l.out.items ≡ l.fn.out.items ++ flat_map (λ class. lines_text (class_lines 0 class)) (take l.class-index l.classes)
