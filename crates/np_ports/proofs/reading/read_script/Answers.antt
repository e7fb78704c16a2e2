use Rattle.std.proofs.Common.{arith, ◌∙◌}
use Rattle.std.proofs.lemmas.Grind.{common_steps}
use Rattle.np_ports.proofs.Transfers.{more_read, all_read, full_read, known_read, kept_read, no_failure}
use Rattle.np_ports.proofs.reading.read_script.Goals as goal

pub loop-buf-preserved : goal.loop-buf-preserved
loop-buf-preserved g c = record {
  faults = c.in-Ok.ensures.count ∙ c.loop-buf.invariant.faults;
  short = grind (arith, common_steps);
  failed = λ x e. no_failure _ _ c.in-Ok.n c.args.name.now x (c.loop-buf.invariant.failed x e) c.in-Ok.ensures.failed_calls;
  known = λ f e.
      let so_far = c.loop-buf.invariant.known f e in
      let call = known_read _ _ _ _ _ _ f so_far.0 c.in-Ok.ensures.contents in
      (call.0, more_read (f c.args.name.now) c.loop-buf.bytes.items _ _ _ _ (omega arith) so_far.1 c.in-Ok.ensures.bound call.1 (grind (arith, common_steps, c.extend_from_slice.ensures.items)));
}

pub returns-clause-contents : goal.returns-clause-contents
returns-clause-contents g c = λ f e.
    let so_far = c.loop-buf.invariant.known f e in
    (so_far.0, full_read (f c.args.name.now) c.loop-buf.bytes.items _ so_far.1 c.loop-buf.invariant.short (omega arith))

pub returns-then-n-eq0-clause-contents : goal.returns-then-n-eq0-clause-contents
returns-then-n-eq0-clause-contents g c = λ f e.
    let so_far = c.loop-buf.invariant.known f e in
    let call = known_read _ _ _ _ _ _ f so_far.0 c.in-Ok.ensures.contents in
    (call.0, all_read (f c.args.name.now) c.loop-buf.bytes.items _ so_far.1 c.loop-buf.invariant.short (let end = call.2 c.if-n-eq0.true in omega (arith, end)))

pub returns-in-Err-clause-contents : goal.returns-in-Err-clause-contents
returns-in-Err-clause-contents g c = λ f e. kept_read _ _ c.in-Err.error _ _ _ f (c.loop-buf.invariant.known f e).0 c.in-Err.ensures.contents

pub returns-in-Err-extend_from_slice-clause-contents : goal.returns-in-Err-extend_from_slice-clause-contents
returns-in-Err-extend_from_slice-clause-contents g c = λ f e. (known_read _ _ _ _ _ _ f (c.loop-buf.invariant.known f e).0 c.in-Ok.ensures.contents).0
