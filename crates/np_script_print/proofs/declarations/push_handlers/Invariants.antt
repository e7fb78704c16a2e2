use Rattle.std.proofs.Common.{◌≡◌, ◌++◌, take}
use Rattle.std.specs.List.{flat_map}
use Rattle.np_script_grammar.specs.Scripts.{handler_lines}
use Rattle.np_script_print.specs.Printed.{lines_text}
use Rattle.np_script_print.proofs.declarations.push_handlers.Given as goal

abbrev pub invariant-loop-handler : goal.invariant-loop-handler
invariant-loop-handler l = l.out.items ≡ l.fn.out.items ++ flat_map (λ handler. lines_text (handler_lines handler)) (take l.handler-index l.handlers)
