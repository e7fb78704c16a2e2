use Rattle.std.proofs.Common.{◌+◌, ◌-◌, ◌∙◌, List, Some, ap, arith}
use Rattle.np_proxy_release.specs.declared.release.Release.{Release}
use Rattle.np_wire_decode.specs.Reading.{read_releases, with_front}
use Rattle.np_wire_decode.proofs.Loops.{releases_step}
use Rattle.np_wire_decode.proofs.lists.releases.Goals as goal

pub loop-preserved : goal.loop-preserved
loop-preserved c =
    ap (λ (read : List Release). with_front read (read_releases (Some c.in_ok-next.next) (c.args.count - (c.loop.counter + 1)) c.in_ok-next.behind.now)) c.in_ok-push.ensures.ok
    ∙ releases_step c.loop.before c.loop.read c.args.count c.loop.counter c.loop.rest.now _ _ (omega arith) c.in_ok-next.ensures.exact
    ∙ c.loop.invariant
