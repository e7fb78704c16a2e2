use Rattle.std.proofs.Common.{◌≡◌, take}
use Rattle.np_wire_decode.proofs.items.copied.Given as goal

abbrev pub invariant-loop-b : goal.invariant-loop-b
invariant-loop-b l = l.copy ≡ take l.b-index l.bytes
