use Rattle.std.proofs.Common.{◌≡◌, length, All}
use Rattle.np_table_speed.specs.References.{IsCounting, IsHeldProxy}
use Rattle.np_table_speed.proofs.references.fill_imports.Given as goal

abbrev pub invariant-loop-number : goal.invariant-loop-number
invariant-loop-number l = IsCounting l.number l.imports × All (λ x. IsHeldProxy x l.imports) l.names.items × (length l.names.items ≡ l.number)
