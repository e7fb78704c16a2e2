use Rattle.std.proofs.Common.{All}
use Rattle.np_table_speed.specs.Work.{IsIdle}
use Rattle.np_table_speed.proofs.work.fill.Given as goal

abbrev pub invariant-loop-number : goal.invariant-loop-number
invariant-loop-number l = All (λ x. IsIdle x l.store) l.names.items
