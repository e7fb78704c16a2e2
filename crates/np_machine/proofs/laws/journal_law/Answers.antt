use Rattle.std.proofs.Common.{◌++◌}
use Rattle.np_machine.proofs.Growing.{extends-by}
use Rattle.np_machine.proofs.EndpointRuns.{rest-grows}
use Rattle.np_machine.proofs.laws.journal_law.Goals as goal

pub returns : goal.returns
returns g c = record { law = λ P got more turns from p rest. let g = rest-grows P got (got ++ more) turns from p (extends-by got more) rest in ((g.journal.more, g.journal.is), (g.sent.more, g.sent.is), (g.files.more, g.files.is)) }
