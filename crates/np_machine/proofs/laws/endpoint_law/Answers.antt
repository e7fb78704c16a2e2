use Rattle.np_values.specs.declared.name.Side.TheVariants.{Page, Plug}
use Rattle.np_machine.specs.Side.{at_start}
use Rattle.np_machine.proofs.Orders.{endpoint-follows}
use Rattle.np_machine.proofs.Turns.{start-both}
use Rattle.np_machine.proofs.laws.endpoint_law.Goals as goal

pub returns : goal.returns
returns g c = record { law = λ P Q c d order. endpoint-follows P Q (at_start Page c) (at_start Plug d) order (start-both c d) }
