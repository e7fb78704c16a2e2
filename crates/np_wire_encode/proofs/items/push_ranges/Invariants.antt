use Rattle.std.proofs.Common.{◌≡◌, ◌++◌, drop}
use Rattle.std.specs.List.{flat_map}
use Rattle.np_message.specs.Encoding.{range_items}
use Rattle.np_wire_encode.specs.Writing.{Extends}
use Rattle.np_wire_encode.proofs.items.push_ranges.Given as goal

abbrev pub invariant-loop-range : goal.invariant-loop-range
invariant-loop-range l = record {
  all : l.out.items ++ flat_map range_items (drop l.range-index l.ranges) ≡ l.initial.out.items ++ flat_map range_items l.ranges;
  kept : Extends l.initial.out.items l.out.items;
}
