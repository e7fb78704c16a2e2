use Rattle.std.proofs.Common.{◌≡◌, ◌+◌, ◌*◌, ◌≤◌, length, drop}
use Rattle.std.specs.List.{flat_map}
use Rattle.np_message.specs.Encoding.{value_item}
use Rattle.np_wire_encode.proofs.lengths.values_len.Given as goal

abbrev pub invariant-loop-value : goal.invariant-loop-value
invariant-loop-value l = (l.len + length (flat_map value_item (drop l.value-index l.values)) ≡ length (flat_map value_item l.values)) × (l.len ≤ 2051 * l.value-index)
