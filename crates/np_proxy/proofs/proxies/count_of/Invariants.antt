use Rattle.std.proofs.Common.{◌≡◌, ◌≤◌, take}
use Rattle.np_proxy.specs.Imports.{count_in}
use Rattle.np_proxy.proofs.proxies.count_of.Given as goal

abbrev pub invariant-loop-other : goal.invariant-loop-other
invariant-loop-other l = (l.count ≡ count_in l.name (take l.other-index l.names)) × (l.count ≤ l.other-index)
