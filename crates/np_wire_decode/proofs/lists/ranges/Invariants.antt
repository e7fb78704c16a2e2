use Rattle.std.proofs.Common.{◌≡◌, ◌-◌}
use Rattle.np_wire_decode.specs.Reading.{read_ranges, with_front}
use Rattle.np_wire_decode.proofs.lists.ranges.Given as goal

abbrev pub invariant-loop : goal.invariant-loop
invariant-loop l = with_front l.read (read_ranges (l.count - l.counter) l.rest) ≡ read_ranges l.count l.bytes
