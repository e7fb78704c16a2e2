use Rattle.np_script.proofs.OneValue.{one-plugin-of}
use Rattle.np_script.proofs.laws.one_plugin.Goals as goal

pub returns : goal.returns
returns c = record { law = one-plugin-of c.one_say.ensures.law c.plugins_are_built.ensures.law }
