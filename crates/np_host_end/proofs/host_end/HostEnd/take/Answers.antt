use Rattle.std.proofs.Common.{◌≡◌, ap, sym, subst, ◌++◌}
use Rattle.np_model.specs.declared.script.Page.{Page}
use Rattle.np_model.specs.PagePlan.{PageControl}
use Rattle.np_model.specs.Alone.{page_role}
use Rattle.np_wire.specs.Feed.{Fed}
use Rattle.np_endpoint.specs.End.{EndState, StandsFor}
use Rattle.np_endpoint.proofs.Stands.{stands-took}
use Rattle.np_host_end.specs.HostEnd.{seen}
use Rattle.np_host_end.proofs.host_end.HostEnd.take.Goals as goal

pub returns-in-Ok-clause-stands : goal.returns-in-Ok-clause-stands
returns-in-Ok-clause-stands c = λ page got sent printed s.
    let inside : EndState Page PageControl = seen c.self.inside.core c.self.inside.state c.self.inside.failed in
    let old : inside ≡ c.args.self.now = c.self.view_is in
    subst (λ (e : EndState Page PageControl). StandsFor page_role page (got ++ c.args.bytes.now) sent printed e)
    (sym (ap (λ (f : Fed). let e : EndState Page PageControl = record inside { consumed = f.consumed; unread = f.left } in e) c.in-Ok.ensures.ok))
    (stands-took page_role page got sent printed c.args.bytes.now inside (subst (λ (e : EndState Page PageControl). StandsFor page_role page got sent printed e) (sym old) s))
