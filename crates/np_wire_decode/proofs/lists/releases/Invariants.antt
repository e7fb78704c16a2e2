use Rattle.std.proofs.Common.{◌≡◌, ◌-◌, None}
use Rattle.np_wire_decode.specs.Reading.{read_releases, with_front}
use Rattle.np_wire_decode.proofs.lists.releases.Given as goal

abbrev pub invariant-loop : goal.invariant-loop
invariant-loop l = with_front l.read (read_releases l.before (l.count - l.counter) l.rest) ≡ read_releases None l.count l.bytes
