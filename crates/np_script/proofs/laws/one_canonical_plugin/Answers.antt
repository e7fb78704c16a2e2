use Rattle.np_script.proofs.OneValue.{plugin-of-text}
use Rattle.np_script.proofs.laws.one_canonical_plugin.Goals as goal

pub returns : goal.returns
returns c = record { law = plugin-of-text c.one_say.ensures.law c.plugins_are_built.ensures.law c.texts_have_their_lines.ensures.law c.canonical_lines_say_plugins.ensures.law }
