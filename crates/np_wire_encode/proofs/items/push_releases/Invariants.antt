use Rattle.std.proofs.Common.{◌≡◌, ◌++◌, drop}
use Rattle.std.specs.List.{flat_map}
use Rattle.np_message.specs.Encoding.{release_item}
use Rattle.np_wire_encode.specs.Writing.{Extends}
use Rattle.np_wire_encode.proofs.items.push_releases.Given as goal

abbrev pub invariant-loop-release : goal.invariant-loop-release
invariant-loop-release l = record {
  all : l.out.items ++ flat_map release_item (drop l.release-index l.releases) ≡ l.initial.out.items ++ flat_map release_item l.releases;
  kept : Extends l.initial.out.items l.out.items;
}
