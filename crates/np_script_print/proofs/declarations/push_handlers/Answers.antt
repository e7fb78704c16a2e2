use Rattle.std.proofs.Common.{arith}
use Rattle.np_script_grammar.specs.Scripts.{handler_lines}
use Rattle.np_script_print.specs.Printed.{whole_line}
use Rattle.np_script_print.proofs.Texts.{flattened}
use Rattle.np_script_print.proofs.declarations.push_handlers.Goals as goal

pub returns-clause-ok : goal.returns-clause-ok
returns-clause-ok c = flattened whole_line handler_lines c.args.handlers.now c.loop-handler.handler-index _ _ (omega arith) c.loop-handler.invariant
