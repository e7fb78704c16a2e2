use Rattle.std.proofs.Common.{arith}
use Rattle.np_script_grammar.specs.Scripts.{class_lines}
use Rattle.np_script_print.specs.Printed.{whole_line}
use Rattle.np_script_print.proofs.Texts.{flattened}
use Rattle.np_script_print.proofs.declarations.push_classes.Goals as goal

pub returns-clause-ok : goal.returns-clause-ok
returns-clause-ok c = flattened whole_line (class_lines 0) c.args.classes.now c.loop-class.class-index _ _ (omega arith) c.loop-class.invariant
