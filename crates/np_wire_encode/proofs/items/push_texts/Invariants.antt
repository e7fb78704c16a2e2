use Rattle.std.proofs.Common.{◌≡◌, ◌++◌, drop}
use Rattle.std.specs.List.{flat_map}
use Rattle.np_message.specs.Encoding.{counted_item}
use Rattle.np_wire_encode.specs.Writing.{Extends}
use Rattle.np_wire_encode.proofs.items.push_texts.Given as goal

abbrev pub invariant-loop-text : goal.invariant-loop-text
invariant-loop-text l = record {
  all : l.out.items ++ flat_map counted_item (drop l.text-index l.texts) ≡ l.initial.out.items ++ flat_map counted_item l.texts;
  kept : Extends l.initial.out.items l.out.items;
}
