use Rattle.std.proofs.Common.{All}
use Rattle.np_table_speed.specs.Work.{IsIdle}
use Rattle.np_table_speed.proofs.work.hold_each.Given as goal

abbrev pub invariant-loop-turn : goal.invariant-loop-turn
invariant-loop-turn l = All (λ x. IsIdle x l.store) l.names
