use Rattle.std.proofs.Common.{◌≡◌, drop, Some, None, MatchOption}
use Rattle.np_ports.specs.Memory.{found, found_after}
use Rattle.np_ports.proofs.file_memory.find.Given as goal

abbrev pub invariant-loop-entry : goal.invariant-loop-entry
invariant-loop-entry l = MatchOption l.last
    (found_after None (drop l.entry-index l.entries) l.name ≡ found l.entries l.name)
    (λ bytes. found_after (Some bytes.now) (drop l.entry-index l.entries) l.name ≡ found l.entries l.name)
