use Rattle.np_script.proofs.OneValue.{plugin-not-refused}
use Rattle.np_script.proofs.laws.no_plugin_is_refused.Goals as goal

pub returns : goal.returns
returns c = record { law = plugin-not-refused c.refused_texts_are_no_scripts.ensures.law }
