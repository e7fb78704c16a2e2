use Rattle.std.proofs.Common.{◌≡◌, ◌+◌, ◌*◌, ◌≤◌, length, drop}
use Rattle.std.specs.List.{flat_map}
use Rattle.np_message.specs.Encoding.{counted_item}
use Rattle.np_wire_encode.proofs.lengths.texts_len.Given as goal

abbrev pub invariant-loop-text : goal.invariant-loop-text
invariant-loop-text l = (l.len + length (flat_map counted_item (drop l.text-index l.texts)) ≡ length (flat_map counted_item l.texts)) × (l.len ≤ 2050 * l.text-index)
