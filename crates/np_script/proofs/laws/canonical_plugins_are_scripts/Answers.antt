use Rattle.np_script.proofs.OneValue.{plugin-is-script}
use Rattle.np_script.proofs.laws.canonical_plugins_are_scripts.Goals as goal

pub returns : goal.returns
returns c = record { law = plugin-is-script c.texts_have_their_lines.ensures.law c.canonical_lines_say_plugins.ensures.law }
