use Rattle.std.proofs.Common.{◌∙◌}
use Rattle.np_side_places.proofs.Steps.{padded-more}
use Rattle.np_side_places.proofs.lists.fill_registers.Goals as goal

pub loop-turn-preserved : goal.loop-turn-preserved
loop-turn-preserved c = c.in_ok-push.ensures.ok ∙ padded-more c.loop-turn.registers c.args.registers.now c.loop-turn.turn c.loop-turn.invariant
