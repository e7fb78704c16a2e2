use Rattle.std.proofs.Common.{arith}
use Rattle.np_script_grammar.specs.Rows.{command_line}
use Rattle.np_script_print.specs.Printed.{whole_line}
use Rattle.np_script_print.proofs.Texts.{mapped}
use Rattle.np_script_print.proofs.commands.push_commands.Goals as goal

pub returns-clause-ok : goal.returns-clause-ok
returns-clause-ok c = mapped whole_line command_line c.args.commands.now c.loop-command.command-index _ _ (omega arith) c.loop-command.invariant
