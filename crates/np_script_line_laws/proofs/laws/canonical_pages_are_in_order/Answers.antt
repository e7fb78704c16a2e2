use Rattle.np_script_line_laws.proofs.Gathering.{pages_in_order}
use Rattle.np_script_line_laws.proofs.laws.canonical_pages_are_in_order.Goals as goal

pub returns : goal.returns
returns c = record { law = pages_in_order }
