use Rattle.std.proofs.Common.{arith}
use Rattle.np_script_grammar.specs.Rows.{range_fields}
use Rattle.np_script_print.specs.Printed.{behind}
use Rattle.np_script_print.proofs.Texts.{flattened}
use Rattle.np_script_print.proofs.fields.behind_ranges.Goals as goal

pub returns-clause-ok : goal.returns-clause-ok
returns-clause-ok c = flattened behind range_fields c.args.ranges.now c.loop-range.range-index _ _ (omega arith) c.loop-range.invariant
