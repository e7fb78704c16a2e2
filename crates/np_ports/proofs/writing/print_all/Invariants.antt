use Rattle.std.proofs.Common.{◌≡◌, ◌++◌, ℕ, List, length, Some}
use Rattle.np_ports.proofs.writing.print_all.Given as goal

abbrev pub invariant-loop-rest : goal.invariant-loop-rest
invariant-loop-rest g l = record { told : ((t : List ℕ) → g.O.Sink.taken l.initial.out ≡ Some t → (x : List ℕ) × (g.O.Sink.taken l.out ≡ Some (t ++ x)) × (x ++ l.rest ≡ l.bytes)); faults : g.O.Sink.faults l.out ≡ g.O.Sink.faults l.initial.out; memory : g.O.Sink.memory_faults l.out ≡ g.O.Sink.memory_faults l.initial.out }

abbrev pub decreases-loop-rest : goal.decreases-loop-rest
decreases-loop-rest g l = length l.rest
