use Rattle.np_script.proofs.OneValue.{plugin-keeps}
use Rattle.np_script.proofs.laws.plugin_scripts_keep_limits.Goals as goal

pub returns : goal.returns
returns c = record { law = λ bytes plugin is. c.plugins_keep_limits.ensures.law plugin (plugin-keeps c.canonical_plugins_are_in_order.ensures.law bytes plugin is) }
