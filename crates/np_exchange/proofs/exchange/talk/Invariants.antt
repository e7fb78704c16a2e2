use Rattle.std.proofs.Common.{◌≡◌, ◌≤◌, ◌-◌, ◌^◌, None}
use Rattle.np_endpoint.specs.End.{total_of}
use Rattle.np_exchange.specs.Session.{GaveAtMost}
use Rattle.np_exchange.specs.Live.{Turned}
use Rattle.np_exchange.proofs.exchange.talk.Given as goal

abbrev pub invariant-loop-next : goal.invariant-loop-next
invariant-loop-next g l = record {
  turned : Turned g.E.Endpoint.role_of (g.P.Peer.known l.initial.peer) (g.P.Peer.known l.peer) (g.O.Sink.taken l.initial.out) (g.O.Sink.taken l.out) (g.E.Endpoint.seen l.initial.end) (g.E.Endpoint.seen l.end) None;
  total : total_of (g.E.Endpoint.seen l.end) ≡ l.total;
  limit : l.total ≤ 2 ^ 40;
  gave : GaveAtMost l.total (g.P.Peer.known l.initial.peer) (g.P.Peer.known l.peer);
  peer : g.P.Peer.pipe_faults l.peer ≡ g.P.Peer.pipe_faults l.initial.peer;
  ended : g.P.Peer.has_ended l.peer ≡ g.P.Peer.has_ended l.initial.peer;
  start : g.P.Peer.start_faults l.peer ≡ g.P.Peer.start_faults l.initial.peer;
  sink : g.O.Sink.faults l.out ≡ g.O.Sink.faults l.initial.out;
  memory : g.O.Sink.memory_faults l.out ≡ g.O.Sink.memory_faults l.initial.out;
}

abbrev pub decreases-loop-next : goal.decreases-loop-next
decreases-loop-next g l = 2 ^ 40 - l.total
