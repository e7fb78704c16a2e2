use Rattle.std.proofs.Common.{◌++◌}
use Rattle.np_model_laws.proofs.Alone.{extends-by, rest-grows}
use Rattle.np_model_laws.proofs.laws.journal_law.Goals as goal

pub returns : goal.returns
returns c = record {
  law = λ P got more turns from p rest. let g = rest-grows P got (got ++ more) turns from p (extends-by got more) rest in ((g.journal.more, g.journal.is), (g.sent.more, g.sent.is));
}
