use Rattle.np_script_line_laws.proofs.Canonical.{plugin_is_said}
use Rattle.np_script_line_laws.proofs.laws.canonical_lines_say_plugins.Goals as goal

pub returns : goal.returns
returns c = record { law = plugin_is_said }
