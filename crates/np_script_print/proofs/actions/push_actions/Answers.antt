use Rattle.std.proofs.Common.{arith}
use Rattle.np_script_grammar.specs.Rows.{action_line}
use Rattle.np_script_print.specs.Printed.{whole_line}
use Rattle.np_script_print.proofs.Texts.{mapped}
use Rattle.np_script_print.proofs.actions.push_actions.Goals as goal

pub returns-clause-ok : goal.returns-clause-ok
returns-clause-ok c = mapped whole_line action_line c.args.actions.now c.loop-action.action-index _ _ (omega arith) c.loop-action.invariant
