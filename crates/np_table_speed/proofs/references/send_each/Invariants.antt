use Rattle.std.proofs.Common.{◌≡◌, All}
use Rattle.np_values.specs.declared.name.Side.TheVariants.{Plug}
use Rattle.np_table_speed.specs.References.{IsReady}
use Rattle.np_table_speed.proofs.references.send_each.Given as goal

abbrev pub invariant-loop-turn : goal.invariant-loop-turn
invariant-loop-turn l = (l.exports.side ≡ Plug) × All (λ x. IsReady x l.exports) l.names
