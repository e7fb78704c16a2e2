use Rattle.std.proofs.Common.{◌≡◌, take}
use Rattle.np_side_places.specs.Placed.{dropped}
use Rattle.np_side_places.proofs.places.Places.front.Given as goal

abbrev pub invariant-loop-turn : goal.invariant-loop-turn
invariant-loop-turn l = record { state : l.self ≡ dropped l.turn l.initial.self; values : l.values ≡ take l.turn l.initial.self.in_flight }
