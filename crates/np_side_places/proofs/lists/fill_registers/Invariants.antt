use Rattle.std.proofs.Common.{◌≡◌, ◌++◌}
use Rattle.np_machine.specs.Values.{voids}
use Rattle.np_side_places.proofs.lists.fill_registers.Given as goal

abbrev pub invariant-loop-turn : goal.invariant-loop-turn
invariant-loop-turn l = l.registers ≡ l.initial.registers ++ voids l.turn
