use Rattle.std.proofs.Common.{◌++◌}
use Rattle.np_model_laws.proofs.Alone.{endpoint-more, extends-by}
use Rattle.np_model_laws.proofs.laws.plugin_more_messages_law.Goals as goal

pub returns : goal.returns
returns c = record { law = λ Q got more turns from. endpoint-more Q got (got ++ more) turns from (extends-by got more) }
