use Rattle.std.proofs.Common.{◌≡◌, length}
use Rattle.np_side_places.specs.Placed.{all_pushed}
use Rattle.np_side_places.proofs.places.Places.push_all.Given as goal

abbrev pub invariant-loop-value : goal.invariant-loop-value
invariant-loop-value l = all_pushed l.values l.self ≡ all_pushed l.initial.values l.initial.self

abbrev pub decreases-loop-value : goal.decreases-loop-value
decreases-loop-value l = length l.values
