use Rattle.np_script_line_laws.proofs.Gathering.{plugins_in_order}
use Rattle.np_script_line_laws.proofs.laws.canonical_plugins_are_in_order.Goals as goal

pub returns : goal.returns
returns c = record { law = plugins_in_order }
