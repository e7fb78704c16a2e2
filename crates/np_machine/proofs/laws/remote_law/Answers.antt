use Rattle.np_values.specs.declared.name.Side.TheVariants.{Page, Plug}
use Rattle.np_machine.specs.Machine.{run, both_start}
use Rattle.np_machine.specs.Side.{at_start}
use Rattle.np_machine.proofs.RemoteTests.{flip, agree}
use Rattle.np_machine.proofs.Orders.{order-both}
use Rattle.np_machine.proofs.Turns.{start-both}
use Rattle.np_machine.proofs.laws.remote_law.Goals as goal

pub returns : goal.returns
returns g c = record { law = λ P Q c d order x. let w = run P Q order (both_start c d) in let b = order-both P Q (at_start Page c) (at_start Plug d) order (start-both c d) in (agree w.page w.plugin b x, agree w.plugin w.page (flip w.page w.plugin b) x) }
