use Rattle.std.proofs.Common.{subst}
use Rattle.np_model.specs.declared.script.Page.{Page}
use Rattle.np_model.specs.PagePlan.{PageControl}
use Rattle.np_endpoint.specs.End.{EndState}
use Rattle.np_host_end.specs.HostEnd.{StandsLost}
use Rattle.np_host_end.proofs.LostEnds.{stands-gone, lost-gone}
use Rattle.np_host_end.proofs.host_end.HostEnd.gone.Goals as goal

pub returns-clause-lost : goal.returns-clause-lost
returns-clause-lost c = λ page got sent printed s.
    subst (λ (e : EndState Page PageControl). StandsLost page s.side sent printed e) (cc) (stands-gone page got sent printed c.args.self.now s)

pub returns-clause-again : goal.returns-clause-again
returns-clause-again c = λ page p sent printed s.
    subst (λ (e : EndState Page PageControl). StandsLost page p sent printed e) (cc) (lost-gone page p sent printed c.args.self.now s)
