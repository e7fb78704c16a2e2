use Rattle.std.proofs.Common.{◌∙◌, ◌≡◌, sym}
use Rattle.np_side_places.specs.Placed.{dropped, pushed}
use Rattle.np_side_places.proofs.Steps.{front-more}
use Rattle.np_side_places.proofs.places.Places.front.Goals as goal

pub loop-turn-preserved : goal.loop-turn-preserved
loop-turn-preserved c =
    let e : dropped c.loop-turn.turn c.args.self.now ≡ pushed c.in-Some.value c.pop.new.self = sym c.loop-turn.invariant.state ∙ c.in-Some.ensures.value in
    let t = front-more c.args.self.now c.pop.new.self c.loop-turn.turn c.in-Some.value c.loop-turn.values c.loop-turn.invariant.values e in
    record { state = t.0; values = c.in_ok-push-in-Some.ensures.ok ∙ t.1 }
