use Rattle.std.proofs.Common.{◌++◌}
use Rattle.np_machine.proofs.EndpointRuns.{endpoint-more}
use Rattle.np_machine.proofs.Growing.{extends-by}
use Rattle.np_machine.proofs.laws.more_messages_law.Goals as goal

pub returns : goal.returns
returns g c = record { law = λ P got more turns from. endpoint-more P got (got ++ more) turns from (extends-by got more) }
