use Rattle.std.proofs.Common.{sym, subst, false}
use Rattle.np_model.specs.declared.script.Page.{Page}
use Rattle.np_model.specs.PagePlan.{PageControl}
use Rattle.np_endpoint.specs.End.{EndState}
use Rattle.np_endpoint.specs.declared.halt.Halt.TheVariants.{Waiting}
use Rattle.np_host_end.specs.HostEnd.{StandsLost, seen}
use Rattle.np_host_end.proofs.CoreRuns.{finished-ended}
use Rattle.np_host_end.proofs.LostEnds.{lost-ends}
use Rattle.np_host_end.proofs.host_end.HostEnd.run.Goals as goal

pub returns-in-Ok-clause-lost : goal.returns-in-Ok-clause-lost
returns-in-Ok-clause-lost c = λ page p sent printed stands.
    let core = c.self.inside.core in
    let s = subst (λ (e : EndState Page PageControl). StandsLost page p sent printed e) (sym c.self.view_is) stands in
    let running : StandsLost page p sent printed (seen core Waiting false) = record { same_script = s.same_script; side = s.side; turns = s.turns; comes = s.comes; control = s.control; unrefused = tt; sent_is = s.sent_is; printed_is = s.printed_is } in
    lost-ends page p sent printed (seen core Waiting false) (seen c.run.new.self c.in-Ok.state false) c.in-Ok.state c.in-Ok.ensures.lost c.in-Ok.ensures.rests running

pub invariant_of-self : goal.invariant_of-self
invariant_of-self c = finished-ended c.run.new.self c.in-Ok.state c.in-Ok.ensures.rests
