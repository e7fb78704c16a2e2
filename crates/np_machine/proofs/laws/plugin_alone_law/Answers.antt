use Rattle.np_machine.specs.Machine.{both_start}
use Rattle.np_machine.proofs.Cuts.{plugin-alone}
use Rattle.np_machine.proofs.Turns.{start-both}
use Rattle.np_machine.proofs.laws.plugin_alone_law.Goals as goal

pub returns : goal.returns
returns g c = record { law = λ P Q c d rounds j q. plugin-alone P Q (both_start c d) (start-both c d) rounds j q }
