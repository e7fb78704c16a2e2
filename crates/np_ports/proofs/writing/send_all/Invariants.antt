use Rattle.std.proofs.Common.{◌≡◌, ◌++◌, ℕ, List, length, Some}
use Rattle.np_ports.specs.Peer.{Known, took}
use Rattle.np_ports.proofs.writing.send_all.Given as goal

abbrev pub invariant-loop-rest : goal.invariant-loop-rest
invariant-loop-rest g l = record { told : ((t : Known) → g.P.Peer.known l.initial.peer ≡ Some t → (x : List ℕ) × (g.P.Peer.known l.peer ≡ Some (took t x)) × (x ++ l.rest ≡ l.bytes)); faults : g.P.Peer.pipe_faults l.peer ≡ g.P.Peer.pipe_faults l.initial.peer; start : g.P.Peer.start_faults l.peer ≡ g.P.Peer.start_faults l.initial.peer; ended : g.P.Peer.has_ended l.peer ≡ g.P.Peer.has_ended l.initial.peer }

abbrev pub decreases-loop-rest : goal.decreases-loop-rest
decreases-loop-rest g l = length l.rest
