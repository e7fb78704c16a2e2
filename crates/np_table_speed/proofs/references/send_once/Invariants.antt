use Rattle.std.proofs.Common.{◌≡◌, All}
use Rattle.np_values.specs.declared.name.Side.TheVariants.{Plug}
use Rattle.np_table_speed.specs.References.{IsReady}
use Rattle.np_table_speed.proofs.references.send_once.Given as goal

abbrev pub invariant-loop-name : goal.invariant-loop-name
invariant-loop-name l = (l.exports.side ≡ Plug) × All (λ x. IsReady x l.exports) l.names
