use Rattle.std.proofs.Common.{◌≡◌, take}
use Rattle.np_proxy.specs.Imports.{names_of}
use Rattle.np_proxy.proofs.incoming.Incoming.new.Given as goal

abbrev pub invariant-loop-value : goal.invariant-loop-value
invariant-loop-value l = l.names.items ≡ names_of l.side (take l.value-index l.values)
