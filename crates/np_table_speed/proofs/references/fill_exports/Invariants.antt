use Rattle.std.proofs.Common.{◌≡◌, length, All}
use Rattle.np_values.specs.declared.name.Side.TheVariants.{Plug}
use Rattle.np_table_speed.specs.References.{IsReady, AreEarlier}
use Rattle.np_table_speed.proofs.references.fill_exports.Given as goal

abbrev pub invariant-loop-number : goal.invariant-loop-number
invariant-loop-number l = (l.exports.side ≡ Plug) × AreEarlier l.number l.exports × All (λ x. IsReady x l.exports) l.names.items × (length l.names.items ≡ l.number)
