use Rattle.std.proofs.Common.{All}
use Rattle.np_table_speed.specs.Work.{IsIdle}
use Rattle.np_table_speed.proofs.work.hold_once.Given as goal

abbrev pub invariant-loop-name : goal.invariant-loop-name
invariant-loop-name l = All (λ x. IsIdle x l.store) l.names
