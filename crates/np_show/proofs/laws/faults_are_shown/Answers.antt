use Rattle.np_show.proofs.Shown.{shows-fault}
use Rattle.np_show.proofs.laws.faults_are_shown.Goals as goal

pub returns : goal.returns
returns c = record { law = shows-fault c.encoded_is_read_again.ensures.law c.fault_is_first.ensures.each }
