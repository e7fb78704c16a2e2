use Rattle.std.proofs.Common.{◌+◌, ◌-◌, ◌∙◌, List, ap, arith}
use Rattle.np_values.specs.declared.range.Range.{Range}
use Rattle.np_wire_decode.specs.Reading.{read_ranges, with_front}
use Rattle.np_wire_decode.proofs.Loops.{ranges_step}
use Rattle.np_wire_decode.proofs.lists.ranges.Goals as goal

pub loop-preserved : goal.loop-preserved
loop-preserved c =
    ap (λ (read : List Range). with_front read (read_ranges (c.args.count - (c.loop.counter + 1)) c.in_ok-next.behind.now)) c.in_ok-push.ensures.ok
    ∙ ranges_step c.loop.read c.args.count c.loop.counter c.loop.rest.now _ _ (omega arith) c.in_ok-next.ensures.exact
    ∙ c.loop.invariant
