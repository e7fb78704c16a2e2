use Rattle.std.proofs.Common.{◌≡◌, ◌+◌, ◌*◌, ◌≤◌, length, drop}
use Rattle.std.specs.List.{flat_map}
use Rattle.np_message.specs.Encoding.{ident_item}
use Rattle.np_wire_encode.proofs.lengths.idents_len.Given as goal

abbrev pub invariant-loop-key : goal.invariant-loop-key
invariant-loop-key l = (l.len + length (flat_map ident_item (drop l.key-index l.keys)) ≡ length (flat_map ident_item l.keys)) × (l.len ≤ 259 * l.key-index)
