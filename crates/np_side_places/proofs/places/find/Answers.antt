use Rattle.std.proofs.Common.{arith, ◌≡◌, subst, suc, ◌+◌}
use Rattle.np_side_places.specs.Instances.{NoneBefore}
use Rattle.np_side_places.proofs.Numbers.{none_start, none_more, differ}
use Rattle.np_side_places.proofs.places.find.Goals as goal

pub loop-place-init : goal.loop-place-init
loop-place-init c = none_start c.args.number c.args.instances.now

pub loop-place-preserved : goal.loop-place-preserved
loop-place-preserved c =
    let m : suc c.loop-place.place ≡ c.loop-place.place + 1 = omega arith in
    subst (λ k. NoneBefore c.args.number c.args.instances.now k) m (none_more c.args.number c.args.instances.now c.loop-place.place c.index-instances-place.result c.loop-place.invariant (omega arith) (differ _ _ c.if-number-instances.false))
