use Rattle.std.proofs.Common.{◌++◌}
use Rattle.np_model_laws.proofs.Alone.{extends-by, rest-grows}
use Rattle.np_model_laws.proofs.laws.plugin_journal_law.Goals as goal

pub returns : goal.returns
returns c = record {
  law = λ Q got more turns from q rest. let g = rest-grows Q got (got ++ more) turns from q (extends-by got more) rest in ((g.journal.more, g.journal.is), (g.sent.more, g.sent.is));
}
