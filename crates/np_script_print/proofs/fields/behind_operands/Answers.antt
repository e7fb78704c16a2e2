use Rattle.std.proofs.Common.{arith}
use Rattle.np_script_grammar.specs.Rows.{value}
use Rattle.np_script_print.specs.Printed.{behind}
use Rattle.np_script_print.proofs.Texts.{mapped}
use Rattle.np_script_print.proofs.fields.behind_operands.Goals as goal

pub returns-clause-ok : goal.returns-clause-ok
returns-clause-ok c = mapped behind value c.args.operands.now c.loop-operand.operand-index _ _ (omega arith) c.loop-operand.invariant
