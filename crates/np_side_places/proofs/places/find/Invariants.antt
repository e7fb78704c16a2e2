use Rattle.np_side_places.specs.Instances.{NoneBefore}
use Rattle.np_side_places.proofs.places.find.Given as goal

abbrev pub invariant-loop-place : goal.invariant-loop-place
invariant-loop-place l = NoneBefore l.number l.instances l.place
