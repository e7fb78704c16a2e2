use Rattle.std.proofs.Common.{◌≡◌, ◌++◌, drop}
use Rattle.std.specs.List.{flat_map}
use Rattle.np_message.specs.Encoding.{ident_item}
use Rattle.np_wire_encode.specs.Writing.{Extends}
use Rattle.np_wire_encode.proofs.items.push_idents.Given as goal

abbrev pub invariant-loop-key : goal.invariant-loop-key
invariant-loop-key l = record {
  all : l.out.items ++ flat_map ident_item (drop l.key-index l.keys) ≡ l.initial.out.items ++ flat_map ident_item l.keys;
  kept : Extends l.initial.out.items l.out.items;
}
