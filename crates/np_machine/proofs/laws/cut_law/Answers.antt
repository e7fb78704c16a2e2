use Rattle.np_machine.specs.Machine.{both_start}
use Rattle.np_machine.proofs.Cuts.{page-cut}
use Rattle.np_machine.proofs.Turns.{start-both}
use Rattle.np_machine.proofs.laws.cut_law.Goals as goal

pub returns : goal.returns
returns g c = record { law = λ P Q c d rounds k p. page-cut P Q (both_start c d) (start-both c d) rounds k p }
