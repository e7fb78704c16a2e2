use Rattle.std.proofs.Common.{None}
use Rattle.np_values.specs.declared.name.Side.TheVariants.{Page, Plug}
use Rattle.np_machine.specs.Machine.{run, both_start}
use Rattle.np_machine.specs.Side.{at_start}
use Rattle.np_machine.proofs.Orders.{order-both}
use Rattle.np_machine.proofs.Turns.{start-both, page-both, plugin-both}
use Rattle.np_machine.proofs.laws.turns_law.Goals as goal

pub returns : goal.returns
returns g c = record { law = λ P Q c d order. let w = run P Q order (both_start c d) in let b = order-both P Q (at_start Page c) (at_start Plug d) order (start-both c d) in ((page-both P None w b).0, (plugin-both Q None w b).0) }
