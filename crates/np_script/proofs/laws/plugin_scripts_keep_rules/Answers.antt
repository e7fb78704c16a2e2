use Rattle.np_script.proofs.OneValue.{plugin-keeps}
use Rattle.np_script.proofs.laws.plugin_scripts_keep_rules.Goals as goal

pub returns : goal.returns
returns c = record { law = plugin-keeps c.canonical_plugins_are_in_order.ensures.law }
