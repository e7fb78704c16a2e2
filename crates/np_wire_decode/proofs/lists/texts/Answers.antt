use Rattle.std.proofs.Common.{◌+◌, ◌-◌, ◌∙◌, List, ap, arith}
use Rattle.np_message.specs.Items.{TextItem, Holds}
use Rattle.np_wire_decode.specs.Reading.{read_many, with_front}
use Rattle.np_wire_decode.proofs.Loops.{many_step}
use Rattle.np_wire_decode.proofs.lists.texts.Goals as goal

pub loop-preserved : goal.loop-preserved
loop-preserved c =
    ap (λ (read : List (Holds TextItem)). with_front read (read_many TextItem (c.args.count - (c.loop.counter + 1)) c.in_ok-next.behind.now)) c.in_ok-push.ensures.ok
    ∙ many_step TextItem c.loop.read c.args.count c.loop.counter c.loop.rest.now _ _ (omega arith) c.in_ok-next.ensures.exact
    ∙ c.loop.invariant
