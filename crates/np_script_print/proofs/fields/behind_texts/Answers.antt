use Rattle.std.proofs.Common.{arith}
use Rattle.np_script_grammar.specs.Rows.{text}
use Rattle.np_script_print.specs.Printed.{behind}
use Rattle.np_script_print.proofs.Texts.{mapped}
use Rattle.np_script_print.proofs.fields.behind_texts.Goals as goal

pub returns-clause-ok : goal.returns-clause-ok
returns-clause-ok c = mapped behind text c.args.texts.now c.loop-text.text-index _ _ (omega arith) c.loop-text.invariant
