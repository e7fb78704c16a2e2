use Rattle.std.proofs.Common.{◌≡◌, ◌+◌, ◌-◌, ℕ, length, drop, Option, Some, refl, ap, sym, ◌∙◌, subst, arith}
use Rattle.std.proofs.lemmas.Grind.{common_steps}
use Rattle.np_model.specs.declared.refusal.Refusal.{Refusal}
use Rattle.np_message.specs.declared.wire.WireError.{WireError}
use Rattle.np_message.specs.Decoding.{Partial, front}
use Rattle.np_wire.specs.Feed.{Fed}
use Rattle.np_show.specs.declared.outcome.Outcome.TheVariants as outcomes
use Rattle.np_show.specs.Taking.{AddsFront, ComesTo, StandsAt}
use Rattle.np_show.specs.Listing.{file_listing}
use Rattle.np_ports.specs.Files.{Contents}
use Rattle.np_show.proofs.FileReads.{piece-of, no-failure, on-stop}
use Rattle.np_show.proofs.Fronts.{empty-front}
use Rattle.np_show.proofs.Pieces.{Stands, nothing-read, piece-read, piece-length, no-fault, file-ended, file-too-long, file-refused, file-failed, stopped-between, stopped-within}
use Rattle.np_show.proofs.reading.show_messages.Goals as goal

pub loop-total-init : goal.loop-total-init
loop-total-init g c = record {
  count = ap (λ (f : Fed). f.consumed + length f.left) c.new-feed.ensures.value;
  limit = omega arith;
  waits = subst (λ (f : Fed). front f.consumed f.left ≡ Partial) (sym c.new-feed.ensures.value) (empty-front 0);
  files = λ f e. e;
  stands = λ f e. subst (λ (d : Fed). Stands (f c.args.name.now) 0 d (g.O.Sink.taken c.args.out.now) (g.O.Sink.taken c.args.out.now)) (sym c.new-feed.ensures.value) (nothing-read (f c.args.name.now) (g.O.Sink.taken c.args.out.now));
  faults = refl;
  failed = λ x e. e;
  sink = refl;
  memory = refl;
}

pub returns-in-Err-Failed-clause-comes : goal.returns-in-Err-Failed-clause-comes
returns-in-Err-Failed-clause-comes g c = λ f e. file-failed (f c.args.name.now) c.loop-total.total c.loop-total.feed _ _ (c.loop-total.invariant.stands f e) c.loop-total.invariant.waits c.loop-total.invariant.limit

pub returns-in-Err-NoMemory-clause-front : goal.returns-in-Err-NoMemory-clause-front
returns-in-Err-NoMemory-clause-front g c = λ f e. stopped-between (f c.args.name.now) c.loop-total.total c.loop-total.feed _ _ (c.loop-total.invariant.stands f e) c.loop-total.invariant.limit

pub returns-then-n-eq0-clause-comes : goal.returns-then-n-eq0-clause-comes
returns-then-n-eq0-clause-comes g c = λ f e.
    let call = piece-of _ _ _ _ _ _ f (c.loop-total.invariant.files f e) c.in-Ok.ensures.contents in
    subst (λ (n : ℕ). ComesTo (f c.args.name.now) (g.O.Sink.taken c.args.out.now) (g.O.Sink.taken c.loop-total.out) (outcomes.Ended (c.loop-total.total - n))) (sym c.consumed.ensures.value)
    (file-ended (f c.args.name.now) c.loop-total.total c.loop-total.feed _ _ (c.loop-total.invariant.stands f e) c.loop-total.invariant.waits c.loop-total.invariant.count (omega arith) (call.2 c.if-n-eq0.true))

pub returns-in_err-error-clause-front : goal.returns-in_err-error-clause-front
returns-in_err-error-clause-front g c =
    let cut : (f : Contents) → g.F.Files.contents c.args.files.now ≡ Some f → AddsFront (g.O.Sink.taken c.args.out.now) (g.O.Sink.taken c.show_piece.new.out) (file_listing (f c.args.name.now)).lines = λ f e.
    let call = piece-of _ _ _ _ _ _ f (c.loop-total.invariant.files f e) c.in-Ok.ensures.contents in
    stopped-within (f c.args.name.now) c.read.new.buf (drop c.min-room.result c.loop-total.buf) c.loop-total.total c.in-Ok.n c.loop-total.feed _ _ _ (c.loop-total.invariant.stands f e) c.in-Ok.ensures.bound call.1 (grind (arith, common_steps)) c.in_err-error.ensures.front in
    on-stop _ _ cut

pub returns-in-Some-clause-comes : goal.returns-in-Some-clause-comes
returns-in-Some-clause-comes g c = λ f e.
    let call = piece-of _ _ _ _ _ _ f (c.loop-total.invariant.files f e) c.in-Ok.ensures.contents in
    let stands = piece-read (f c.args.name.now) c.read.new.buf (drop c.min-room.result c.loop-total.buf) c.loop-total.total c.in-Ok.n c.loop-total.feed c.show_piece.new.feed _ _ _ (c.loop-total.invariant.stands f e) c.in-Ok.ensures.bound call.1 c.in_ok-error.ensures.printed in
    let bad = subst (λ (o : Option WireError). StandsAt c.show_piece.new.feed o) c.in-Some.is c.in_ok-error.ensures.stands in
    subst (λ (r : Refusal). ComesTo (f c.args.name.now) (g.O.Sink.taken c.args.out.now) (g.O.Sink.taken c.show_piece.new.out) (outcomes.Refused r)) (sym c.of_fault.ensures.value)
    (file-refused (f c.args.name.now) (c.loop-total.total + c.in-Ok.n) c.show_piece.new.feed _ _ c.in-Some.error stands bad (grind (arith, common_steps)))

pub loop-total-preserved : goal.loop-total-preserved
loop-total-preserved g c = record {
  count =
      let n = piece-length c.read.new.buf (drop c.min-room.result c.loop-total.buf) c.in-Ok.n c.in-Ok.ensures.bound in
      let m = c.in_ok-error.ensures.total in
      let k = c.loop-total.invariant.count in
      omega (arith, n, m, k);
  limit = grind (arith, common_steps);
  waits = no-fault c.show_piece.new.feed c.in_ok-error.field-0 c.in_default.is c.in_ok-error.ensures.stands;
  files = λ f e. (piece-of _ _ _ _ _ _ f (c.loop-total.invariant.files f e) c.in-Ok.ensures.contents).0;
  stands = λ f e.
      let call = piece-of _ _ _ _ _ _ f (c.loop-total.invariant.files f e) c.in-Ok.ensures.contents in
      piece-read (f c.args.name.now) c.read.new.buf (drop c.min-room.result c.loop-total.buf) c.loop-total.total c.in-Ok.n c.loop-total.feed c.show_piece.new.feed _ _ _ (c.loop-total.invariant.stands f e) c.in-Ok.ensures.bound call.1 c.in_ok-error.ensures.printed;
  faults = c.in-Ok.ensures.count ∙ c.loop-total.invariant.faults;
  failed = λ x e. no-failure _ _ c.in-Ok.n c.args.name.now x (c.loop-total.invariant.failed x e) c.in-Ok.ensures.failed_calls;
  sink = c.in_ok-error.ensures.sink_count ∙ c.loop-total.invariant.sink;
  memory = c.in_ok-error.ensures.memory_kept ∙ c.loop-total.invariant.memory;
}

pub returns-clause-comes : goal.returns-clause-comes
returns-clause-comes g c = λ f e. file-too-long (f c.args.name.now) c.loop-total.total c.loop-total.feed _ _ (c.loop-total.invariant.stands f e) c.loop-total.invariant.waits (omega arith)
