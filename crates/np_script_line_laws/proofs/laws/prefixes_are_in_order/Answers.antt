use Rattle.np_script_grammar.specs.Order.{at_first}
use Rattle.np_script_line_laws.proofs.Prefixes.{front_in_order}
use Rattle.np_script_line_laws.proofs.laws.prefixes_are_in_order.Goals as goal

pub returns : goal.returns
returns c = record { law = λ side. front_in_order side at_first }
