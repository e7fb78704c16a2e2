use Rattle.std.proofs.Common.{◌≡◌, ◌++◌, take}
use Rattle.std.specs.List.{flat_map}
use Rattle.np_script_grammar.specs.Scripts.{resource_line}
use Rattle.np_script_print.specs.Printed.{whole_line}
use Rattle.np_script_print.proofs.declarations.push_resources.Given as goal

abbrev pub invariant-loop-resource : goal.invariant-loop-resource
invariant-loop-resource l = l.out.items ≡ l.fn.out.items ++ flat_map (λ resource. whole_line (resource_line resource)) (take l.resource-index l.resources)
