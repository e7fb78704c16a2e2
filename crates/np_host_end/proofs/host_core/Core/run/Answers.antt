use Rattle.std.proofs.Common.{◌+◌, length, Option, refl, ap, subst, ◌∙◌}
use Rattle.np_wire.specs.Feed.{Fed}
use Rattle.np_host_end.specs.Core.{Listened, control_of}
use Rattle.np_endpoint.proofs.Memory.{on-err}
use Rattle.np_endpoint.specs.declared.halt.Halt.{Halt}
use Rattle.np_host_end.proofs.CoreRuns.{acting-at, acted-keeps, listened-keeps, listened-lighter, halted, keeps-same, keeps-then, has-ended}
use Rattle.np_host_end.proofs.Measures.{act-lighter}
use Rattle.np_host_end.proofs.Memory.{came-start, came-acting, came-listening, ran-out-acting, ran-out-listening}
use Rattle.np_host_end.proofs.host_core.Core.run.Goals as goal

pub loop-self-preserved : goal.loop-self-preserved
loop-self-preserved c =
    record {
      keeps = keeps-then _ _ _ c.loop-self.invariant.keeps (acted-keeps c.loop-self.self c.act.new.self (acting-at _ c.in-Begin.is) c.in_ok-act-in-Begin.ensures.moves c.in_ok-act-in-Begin.ensures.feed);
      total = ap (λ (f : Fed). f.consumed + length f.left) c.in_ok-act-in-Begin.ensures.feed ∙ c.loop-self.invariant.total;
      came = came-acting _ c.loop-self.self c.act.new.self (acting-at _ c.in-Begin.is) c.in_ok-act-in-Begin.ensures.moves c.in_ok-act-in-Begin.ensures.feed c.loop-self.invariant.came;
    }

pub loop-self-smaller : goal.loop-self-smaller
loop-self-smaller c = act-lighter c.loop-self.self.page (control_of c.loop-self.self) (control_of c.act.new.self) _ _ (acting-at _ c.in-Begin.is) c.in_ok-act-in-Begin.ensures.moves.control (ap (λ (f : Fed). f.left) c.in_ok-act-in-Begin.ensures.feed)

pub loop-self-preserved-in_default : goal.loop-self-preserved-in_default
loop-self-preserved-in_default c =
    let l = subst (λ (o : Option Halt). Listened c.loop-self.self c.listen.new.self o) c.in_default.is c.in_ok-state-in-Awaiting.ensures.listened in
    record {
      keeps = keeps-then _ _ _ c.loop-self.invariant.keeps (listened-keeps c.more_messages_law.ensures.law c.loop-self.self c.listen.new.self c.in-Awaiting.call c.in-Awaiting.is l);
      total = c.in_ok-state-in-Awaiting.ensures.total ∙ c.loop-self.invariant.total;
      came = came-listening c.more_messages_law.ensures.law _ c.loop-self.self c.listen.new.self c.in-Awaiting.call c.in-Awaiting.is l c.loop-self.invariant.came;
    }

pub loop-self-smaller-in_default : goal.loop-self-smaller-in_default
loop-self-smaller-in_default c =
    let l = subst (λ (o : Option Halt). Listened c.loop-self.self c.listen.new.self o) c.in_default.is c.in_ok-state-in-Awaiting.ensures.listened in
    listened-lighter c.loop-self.self c.listen.new.self l

pub loop-self-init : goal.loop-self-init
loop-self-init c = record { keeps = keeps-same _; total = refl; came = came-start _ }

pub returns-in-Some : goal.returns-in-Some
returns-in-Some c =
    let l = subst (λ (o : Option Halt). Listened c.loop-self.self c.listen.new.self o) c.in-Some.is c.in_ok-state-in-Awaiting.ensures.listened in
    let h = halted c.loop-self.self c.listen.new.self c.in-Awaiting.call c.in-Some.state c.in-Awaiting.is l in
    let k = keeps-then _ _ _ c.loop-self.invariant.keeps h.keeps in
    record { keeps = k.stands; lost = k.lost; rests = h.rests; total = c.in_ok-state-in-Awaiting.ensures.total ∙ c.loop-self.invariant.total; memory = tt }

pub returns-in-Ended-clause-rests : goal.returns-in-Ended-clause-rests
returns-in-Ended-clause-rests c = (refl, has-ended c.loop-self.self.page _ c.in-Ended.is)

pub returns-in_err-state-in-Awaiting-clause-memory : goal.returns-in_err-state-in-Awaiting-clause-memory
returns-in_err-state-in-Awaiting-clause-memory c = on-err _ _ (ran-out-listening _ c.loop-self.self c.listen.new.self c.in-Awaiting.call c.in-Awaiting.is c.in_err-state-in-Awaiting.ensures.memory c.loop-self.invariant.came)

pub returns-in_err-act-in-Begin-clause-memory : goal.returns-in_err-act-in-Begin-clause-memory
returns-in_err-act-in-Begin-clause-memory c = on-err _ _ (ran-out-acting _ c.loop-self.self c.act.new.self (acting-at _ c.in-Begin.is) c.in_err-act-in-Begin.ensures.feed c.in_err-act-in-Begin.ensures.memory c.loop-self.invariant.came)
