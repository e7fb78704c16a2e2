use Rattle.std.proofs.Common.{Option, refl, subst, ◌∙◌}
use Rattle.np_plug_end.specs.Core.{Listened}
use Rattle.np_endpoint.specs.declared.halt.Halt.{Halt}
use Rattle.np_plug_end.proofs.CoreRuns.{listening-at, has-ended, listened-keeps, halted}
use Rattle.np_endpoint.proofs.Memory.{on-err}
use Rattle.np_endpoint.proofs.Stands.{message-shortens}
use Rattle.np_plug_end.proofs.Memory.{came-start, came-listening, ran-out-listening}
use Rattle.np_plug_end.proofs.plug_core.Core.run.Goals as goal

pub loop-self-smaller : goal.loop-self-smaller
loop-self-smaller c =
    let l = subst (λ (o : Option Halt). Listened c.loop-self.self c.listen.new.self o) c.in_default.is c.in_ok-state-in-Begin.ensures.listened in
    message-shortens l.message c.loop-self.self.feed.left c.listen.new.self.feed.left l.bytes

pub loop-self-preserved : goal.loop-self-preserved
loop-self-preserved c =
    let l = subst (λ (o : Option Halt). Listened c.loop-self.self c.listen.new.self o) c.in_default.is c.in_ok-state-in-Begin.ensures.listened in
    record {
      keeps = λ plugin got sent printed s. listened-keeps c.plugin_more_messages_law.ensures.law c.loop-self.self c.listen.new.self (listening-at _ c.in-Begin.is) l plugin got sent printed (c.loop-self.invariant.keeps plugin got sent printed s);
      total = c.in_ok-state-in-Begin.ensures.total ∙ c.loop-self.invariant.total;
      came = came-listening c.plugin_more_messages_law.ensures.law _ c.loop-self.self c.listen.new.self (listening-at _ c.in-Begin.is) l c.loop-self.invariant.came;
    }

pub returns-in-Some : goal.returns-in-Some
returns-in-Some c =
    let l = subst (λ (o : Option Halt). Listened c.loop-self.self c.listen.new.self o) c.in-Some.is c.in_ok-state-in-Begin.ensures.listened in
    let h = halted c.loop-self.self c.listen.new.self c.in-Some.state (listening-at _ c.in-Begin.is) l in
    record {
      keeps = λ plugin got sent printed s. h.keeps plugin got sent printed (c.loop-self.invariant.keeps plugin got sent printed s);
      rests = h.rests;
      total = c.in_ok-state-in-Begin.ensures.total ∙ c.loop-self.invariant.total;
      memory = tt;
    }

pub returns-in-Ended-clause-rests : goal.returns-in-Ended-clause-rests
returns-in-Ended-clause-rests c = (refl, has-ended c.loop-self.self.plugin _ c.in-Ended.is)

pub loop-self-init : goal.loop-self-init
loop-self-init c = record { keeps = λ plugin got sent printed s. s; total = refl; came = came-start _ }

pub returns-in_err-state-in-Begin-clause-memory : goal.returns-in_err-state-in-Begin-clause-memory
returns-in_err-state-in-Begin-clause-memory c = on-err _ _ (ran-out-listening _ c.loop-self.self c.listen.new.self (listening-at _ c.in-Begin.is) c.in_err-state-in-Begin.ensures.memory c.loop-self.invariant.came)
