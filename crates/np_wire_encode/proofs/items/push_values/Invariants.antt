use Rattle.std.proofs.Common.{◌≡◌, ◌++◌, drop}
use Rattle.std.specs.List.{flat_map}
use Rattle.np_message.specs.Encoding.{value_item}
use Rattle.np_wire_encode.specs.Writing.{Extends}
use Rattle.np_wire_encode.proofs.items.push_values.Given as goal

abbrev pub invariant-loop-value : goal.invariant-loop-value
invariant-loop-value l = record {
  all : l.out.items ++ flat_map value_item (drop l.value-index l.values) ≡ l.initial.out.items ++ flat_map value_item l.values;
  kept : Extends l.initial.out.items l.out.items;
}
