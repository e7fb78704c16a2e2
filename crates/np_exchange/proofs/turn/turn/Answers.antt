use Rattle.std.proofs.Common.{rules, ◌≡◌, ◌<◌, ◌∙◌, ◌^◌, arith}
use Rattle.np_endpoint.specs.End.{total_of}
use Rattle.np_exchange.proofs.Exchanges.{going-ran, ending-refused, turned-done, turned-unsent, turned-failed, listening, turned-full, turned-heard}
use Rattle.np_exchange.proofs.Limits.{gave-nothing, gave-then, sent-gave, part-gave, on-gave}
use Rattle.np_exchange.proofs.Cuts.{run-cut, send-cut, read-cut}
use Rattle.np_end_stops.proofs.Stops.{on-stop}
use Rattle.np_exchange.proofs.turn.turn.Goals as goal

pub returns-in-Refused-clause-turned : goal.returns-in-Refused-clause-turned
returns-in-Refused-clause-turned g c = λ script old now first sink k o going.
    let r = going-ran g.E.Endpoint.role_of script old now first sink _ _ (g.E.Endpoint.seen c.args.end.now) (g.E.Endpoint.seen c.run_and_print.new.end) c.in_ok-halt.halt o c.in_ok-halt.ensures.ran going in
    (now, r.sink, k, r.taken_is, ending-refused g.E.Endpoint.role_of script old first now r.sink (g.E.Endpoint.seen c.run_and_print.new.end) c.in_ok-halt.halt c.in-Refused.refusal c.in-Refused.is r.going r.quiet r.rests)

pub returns-then-sent-clause-turned : goal.returns-then-sent-clause-turned
returns-then-sent-clause-turned g c =
    turned-done g.E.Endpoint.role_of _ _ _ _ (g.E.Endpoint.seen c.args.end.now) (g.E.Endpoint.seen c.send_messages.new.end) c.in_ok-halt.halt c.in_ok-sent.sent (record { between = (g.E.Endpoint.seen c.run_and_print.new.end); ran = c.in_ok-halt.ensures.ran; sends = c.in_ok-sent.ensures.sent }) c.in-Finished.is c.if-sent.true

pub returns-else-sent-clause-turned : goal.returns-else-sent-clause-turned
returns-else-sent-clause-turned g c =
    turned-unsent g.E.Endpoint.role_of _ _ _ _ (g.E.Endpoint.seen c.args.end.now) (g.E.Endpoint.seen c.send_messages.new.end) c.in_ok-halt.halt c.in_ok-sent.sent (record { between = (g.E.Endpoint.seen c.run_and_print.new.end); ran = c.in_ok-halt.ensures.ran; sends = c.in_ok-sent.ensures.sent }) c.in-Finished.is c.if-sent.false

pub returns-then-not-sent-clause-turned : goal.returns-then-not-sent-clause-turned
returns-then-not-sent-clause-turned g c =
    turned-failed g.E.Endpoint.role_of _ _ _ _ (g.E.Endpoint.seen c.args.end.now) (g.E.Endpoint.seen c.send_messages.new.end) c.in_ok-halt.halt c.in_ok-sent.sent (record { between = (g.E.Endpoint.seen c.run_and_print.new.end); ran = c.in_ok-halt.ensures.ran; sends = c.in_ok-sent.ensures.sent }) c.in_default.not-Refused c.in_default-halt.not-Finished c.if-not-sent.true

pub returns-then-total-eq-BYTE_LIMIT-clause-turned : goal.returns-then-total-eq-BYTE_LIMIT-clause-turned
returns-then-total-eq-BYTE_LIMIT-clause-turned g c = λ script old now first sink k o going.
    let full : total_of (g.E.Endpoint.seen c.send_messages.new.end) ≡ 2 ^ 40 = c.in_ok-sent.ensures.total ∙ c.in_ok-halt.ensures.total ∙ c.requires.total ∙ c.if-total-eq-BYTE_LIMIT.true in
    turned-full g.E.Endpoint.role_of _ _ (g.E.Endpoint.seen c.send_messages.new.end) script old first full
    (listening g.E.Endpoint.role_of _ _ _ _ (g.E.Endpoint.seen c.args.end.now) (g.E.Endpoint.seen c.send_messages.new.end) c.in_ok-halt.halt c.in_ok-sent.sent (record { between = (g.E.Endpoint.seen c.run_and_print.new.end); ran = c.in_ok-halt.ensures.ran; sends = c.in_ok-sent.ensures.sent }) c.in_default.not-Refused c.in_default-halt.not-Finished c.if-not-sent.false script old now first sink k o going)

pub returns-clause-turned : goal.returns-clause-turned
returns-clause-turned g c = λ script old now first sink k o going.
    let same = c.in_ok-sent.ensures.total ∙ c.in_ok-halt.ensures.total ∙ c.requires.total in
    let below : total_of (g.E.Endpoint.seen c.send_messages.new.end) < 2 ^ 40 = omega (arith, same, c.requires.limit, c.if-total-eq-BYTE_LIMIT.false) in
    turned-heard g.E.Endpoint.role_of _ _ _ (g.E.Endpoint.seen c.send_messages.new.end) (g.E.Endpoint.seen c.hear.new.end) c.in_ok-ending.ending below c.in_ok-ending.ensures.heard script old first
    (listening g.E.Endpoint.role_of _ _ _ _ (g.E.Endpoint.seen c.args.end.now) (g.E.Endpoint.seen c.send_messages.new.end) c.in_ok-halt.halt c.in_ok-sent.sent (record { between = (g.E.Endpoint.seen c.run_and_print.new.end); ran = c.in_ok-halt.ensures.ran; sends = c.in_ok-sent.ensures.sent }) c.in_default.not-Refused c.in_default-halt.not-Finished c.if-not-sent.false script old now first sink k o going)

pub returns-in_err-halt-clause-cut : goal.returns-in_err-halt-clause-cut
returns-in_err-halt-clause-cut g c = on-stop c.from_residual.result _ (run-cut g.E.Endpoint.role_of _ _ _ (g.E.Endpoint.seen c.args.end.now) c.in_err-halt.ensures.cut)

pub returns-in_err-sent : goal.returns-in_err-sent
returns-in_err-sent g c = record {
  turned = search rules;
  uncalled = search rules;
  gave = search rules;
  cut_limit = on-stop c.from_residual-in_err-sent.result _ (part-gave _ _ _ _ c.in_err-sent.ensures.part);
  cut = on-stop c.from_residual-in_err-sent.result _ (send-cut g.E.Endpoint.role_of _ _ _ _ (g.E.Endpoint.seen c.args.end.now) (g.E.Endpoint.seen c.run_and_print.new.end) c.in_ok-halt.halt c.in_ok-halt.ensures.ran c.in_err-sent.ensures.part);
  total = search rules;
  limit = search rules;
  more = search rules;
  peer = search rules;
  pipe_count = search rules;
  ended = search rules;
  ended_exact = search rules;
  start_faults = search rules;
  sink = search rules;
  sink_count = search rules;
  memory_kept = search rules;
}

pub returns-in_err-ending : goal.returns-in_err-ending
returns-in_err-ending g c = record {
  turned = search rules;
  uncalled = search rules;
  gave = search rules;
  cut_limit = on-stop c.from_residual-in_err-ending.result _ (gave-then 0 _ _ _ (g.P.Peer.known c.send_messages.new.peer) _ (omega arith) (sent-gave g.E.Endpoint.role_of 0 _ _ (g.E.Endpoint.seen c.run_and_print.new.end) (g.E.Endpoint.seen c.send_messages.new.end) c.in_ok-sent.sent c.in_ok-sent.ensures.sent) c.in_err-ending.ensures.cut_limit);
  cut = on-stop c.from_residual-in_err-ending.result _ (λ script old now first sink k o going.
      read-cut g.E.Endpoint.role_of _ _ _ (g.E.Endpoint.seen c.send_messages.new.end) script old first c.in_err-ending.ensures.cut
      (listening g.E.Endpoint.role_of _ _ _ _ (g.E.Endpoint.seen c.args.end.now) (g.E.Endpoint.seen c.send_messages.new.end) c.in_ok-halt.halt c.in_ok-sent.sent (record { between = (g.E.Endpoint.seen c.run_and_print.new.end); ran = c.in_ok-halt.ensures.ran; sends = c.in_ok-sent.ensures.sent }) c.in_default.not-Refused c.in_default-halt.not-Finished c.if-not-sent.false script old now first sink k o going));
  total = search rules;
  limit = search rules;
  more = search rules;
  peer = search rules;
  pipe_count = search rules;
  ended = search rules;
  ended_exact = search rules;
  start_faults = search rules;
  sink = search rules;
  sink_count = search rules;
  memory_kept = search rules;
}

pub returns-then-sent-clause-gave : goal.returns-then-sent-clause-gave
returns-then-sent-clause-gave g c = sent-gave g.E.Endpoint.role_of _ _ _ (g.E.Endpoint.seen c.run_and_print.new.end) (g.E.Endpoint.seen c.send_messages.new.end) c.in_ok-sent.sent c.in_ok-sent.ensures.sent

pub returns-else-sent-clause-gave : goal.returns-else-sent-clause-gave
returns-else-sent-clause-gave g c = sent-gave g.E.Endpoint.role_of _ _ _ (g.E.Endpoint.seen c.run_and_print.new.end) (g.E.Endpoint.seen c.send_messages.new.end) c.in_ok-sent.sent c.in_ok-sent.ensures.sent

pub returns-then-not-sent-clause-gave : goal.returns-then-not-sent-clause-gave
returns-then-not-sent-clause-gave g c = sent-gave g.E.Endpoint.role_of _ _ _ (g.E.Endpoint.seen c.run_and_print.new.end) (g.E.Endpoint.seen c.send_messages.new.end) c.in_ok-sent.sent c.in_ok-sent.ensures.sent

pub returns-then-total-eq-BYTE_LIMIT-clause-gave : goal.returns-then-total-eq-BYTE_LIMIT-clause-gave
returns-then-total-eq-BYTE_LIMIT-clause-gave g c = sent-gave g.E.Endpoint.role_of _ _ _ (g.E.Endpoint.seen c.run_and_print.new.end) (g.E.Endpoint.seen c.send_messages.new.end) c.in_ok-sent.sent c.in_ok-sent.ensures.sent

pub returns-in-Refused-clause-gave : goal.returns-in-Refused-clause-gave
returns-in-Refused-clause-gave g c = gave-nothing _ _

pub returns-clause-gave : goal.returns-clause-gave
returns-clause-gave g c =
    gave-then 0 _ _ _ (g.P.Peer.known c.send_messages.new.peer) _ (omega arith) (sent-gave g.E.Endpoint.role_of 0 _ _ (g.E.Endpoint.seen c.run_and_print.new.end) (g.E.Endpoint.seen c.send_messages.new.end) c.in_ok-sent.sent c.in_ok-sent.ensures.sent)
    (on-gave g.E.Endpoint.role_of _ _ _ _ (g.E.Endpoint.seen c.send_messages.new.end) (g.E.Endpoint.seen c.hear.new.end) c.in_ok-ending.ending (c.in_ok-sent.ensures.total ∙ c.in_ok-halt.ensures.total ∙ c.requires.total) c.in_ok-ending.ensures.total c.in_ok-ending.ensures.heard)

pub returns-in_err-halt-clause-cut_limit : goal.returns-in_err-halt-clause-cut_limit
returns-in_err-halt-clause-cut_limit g c = on-stop c.from_residual.result _ (gave-nothing _ _)
