use Rattle.std.proofs.Common.{All}
use Rattle.np_table_speed.specs.References.{IsCounting, IsHeldProxy}
use Rattle.np_table_speed.proofs.references.renew_each.Given as goal

abbrev pub invariant-loop-turn : goal.invariant-loop-turn
invariant-loop-turn l = IsCounting 1024 l.imports × All (λ x. IsHeldProxy x l.imports) l.names
