use Rattle.std.proofs.Common.{◌≡◌, ◌<◌, ◌^◌, ◌-◌, Option, Some, None, Ok, subst, ◌∙◌, arith}
use Rattle.np_end_stops.specs.declared.ending.Ending.{Ending}
use Rattle.np_exchange.specs.Live.{Turned, counted_turn, ended_turn}
use Rattle.np_exchange.proofs.Sessions.{turned-then}
use Rattle.np_exchange.proofs.Cuts.{turned-cut}
use Rattle.np_end_stops.proofs.Stops.{on-stop}
use Rattle.np_end_stops.specs.PeerCauses.{GoesOnOnly}
use Rattle.np_exchange.proofs.Limits.{gave-then}
use Rattle.np_exchange.proofs.exchange.talk.Goals as goal

pub returns-in-Some-clause-talked : goal.returns-in-Some-clause-talked
returns-in-Some-clause-talked g c =
    turned-then g.E.Endpoint.role_of _ (g.P.Peer.known c.loop-next.peer) _ _ (g.O.Sink.taken c.loop-next.out) _ (g.E.Endpoint.seen c.args.end.now) (g.E.Endpoint.seen c.loop-next.end) (g.E.Endpoint.seen c.turn.new.end) (Some c.in-Some.ending) c.loop-next.invariant.turned
    (subst (λ (x : Option Ending). Turned g.E.Endpoint.role_of (g.P.Peer.known c.loop-next.peer) (g.P.Peer.known c.turn.new.peer) (g.O.Sink.taken c.loop-next.out) (g.O.Sink.taken c.turn.new.out) (g.E.Endpoint.seen c.loop-next.end) (g.E.Endpoint.seen c.turn.new.end) x) c.in-Some.is c.in_ok-next.ensures.turned)

pub loop-next-preserved : goal.loop-next-preserved
loop-next-preserved g c = record {
  turned = turned-then g.E.Endpoint.role_of _ (g.P.Peer.known c.loop-next.peer) _ _ (g.O.Sink.taken c.loop-next.out) _ (g.E.Endpoint.seen c.args.end.now) (g.E.Endpoint.seen c.loop-next.end) (g.E.Endpoint.seen c.turn.new.end) None c.loop-next.invariant.turned
      (subst (λ (x : Option Ending). Turned g.E.Endpoint.role_of (g.P.Peer.known c.loop-next.peer) (g.P.Peer.known c.turn.new.peer) (g.O.Sink.taken c.loop-next.out) (g.O.Sink.taken c.turn.new.out) (g.E.Endpoint.seen c.loop-next.end) (g.E.Endpoint.seen c.turn.new.end) x) c.in_default.is c.in_ok-next.ensures.turned);
  total = c.in_ok-next.ensures.total;
  limit = c.in_ok-next.ensures.limit;
  gave = gave-then c.loop-next.total (c.turn.new.total - c.loop-next.total) c.turn.new.total (g.P.Peer.known c.args.peer.now) (g.P.Peer.known c.loop-next.peer) (g.P.Peer.known c.turn.new.peer)
      (let more = subst (λ (x : Option Ending). GoesOnOnly x (c.loop-next.total < c.turn.new.total)) c.in_default.is c.in_ok-next.ensures.more in omega (arith, more))
      c.loop-next.invariant.gave c.in_ok-next.ensures.gave;
  peer = subst (λ (x : Option Ending). g.P.Peer.pipe_faults c.turn.new.peer ≡ counted_turn (g.P.Peer.pipe_faults c.loop-next.peer) (Ok x)) c.in_default.is c.in_ok-next.ensures.pipe_count ∙ c.loop-next.invariant.peer;
  ended = subst (λ (x : Option Ending). g.P.Peer.has_ended c.turn.new.peer ≡ ended_turn (g.P.Peer.has_ended c.loop-next.peer) (Ok x)) c.in_default.is c.in_ok-next.ensures.ended_exact ∙ c.loop-next.invariant.ended;
  start = c.in_ok-next.ensures.start_faults ∙ c.loop-next.invariant.start;
  sink = c.in_ok-next.ensures.sink_count ∙ c.loop-next.invariant.sink;
  memory = c.in_ok-next.ensures.memory_kept ∙ c.loop-next.invariant.memory;
}

pub returns-in_err-next-clause-cut : goal.returns-in_err-next-clause-cut
returns-in_err-next-clause-cut g c = on-stop c.from_residual.result _ (turned-cut g.E.Endpoint.role_of _ (g.P.Peer.known c.loop-next.peer) _ _ (g.O.Sink.taken c.loop-next.out) _ (g.E.Endpoint.seen c.args.end.now) (g.E.Endpoint.seen c.loop-next.end) c.loop-next.invariant.turned c.in_err-next.ensures.cut)

pub returns-in-Some-clause-read_limit : goal.returns-in-Some-clause-read_limit
returns-in-Some-clause-read_limit g c =
    gave-then c.loop-next.total (c.turn.new.total - c.loop-next.total) (2 ^ 40) (g.P.Peer.known c.args.peer.now) (g.P.Peer.known c.loop-next.peer) (g.P.Peer.known c.turn.new.peer)
    (omega (arith, c.loop-next.invariant.limit, c.in_ok-next.ensures.limit)) c.loop-next.invariant.gave c.in_ok-next.ensures.gave

pub returns-in_err-next-clause-read_limit : goal.returns-in_err-next-clause-read_limit
returns-in_err-next-clause-read_limit g c =
    gave-then c.loop-next.total (2 ^ 40 - c.loop-next.total) (2 ^ 40) (g.P.Peer.known c.args.peer.now) (g.P.Peer.known c.loop-next.peer) (g.P.Peer.known c.turn.new.peer)
    (omega (arith, c.loop-next.invariant.limit)) c.loop-next.invariant.gave c.in_err-next.ensures.cut_limit
