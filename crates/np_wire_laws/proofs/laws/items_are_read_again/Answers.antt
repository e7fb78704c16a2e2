use Rattle.np_wire_laws.proofs.Items.{item_again}
use Rattle.np_wire_laws.proofs.laws.items_are_read_again.Goals as goal

pub returns : goal.returns
returns c = record { law = item_again }
