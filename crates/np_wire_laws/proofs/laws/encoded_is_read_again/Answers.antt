use Rattle.np_wire_laws.proofs.Fronts.{encoded_is_read_again}
use Rattle.np_wire_laws.proofs.laws.encoded_is_read_again.Goals as goal

pub returns : goal.returns
returns c = record { law = encoded_is_read_again }
