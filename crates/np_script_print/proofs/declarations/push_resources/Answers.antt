use Rattle.std.proofs.Common.{arith}
use Rattle.np_script_grammar.specs.Scripts.{resource_line}
use Rattle.np_script_print.specs.Printed.{whole_line}
use Rattle.np_script_print.proofs.Texts.{mapped}
use Rattle.np_script_print.proofs.declarations.push_resources.Goals as goal

pub returns-clause-ok : goal.returns-clause-ok
returns-clause-ok c = mapped whole_line resource_line c.args.resources.now c.loop-resource.resource-index _ _ (omega arith) c.loop-resource.invariant
