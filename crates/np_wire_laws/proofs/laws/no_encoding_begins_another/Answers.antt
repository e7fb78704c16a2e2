use Rattle.np_wire_laws.proofs.Fronts.{no_encoding_begins_another}
use Rattle.np_wire_laws.proofs.laws.no_encoding_begins_another.Goals as goal

pub returns : goal.returns
returns c = record { law = no_encoding_begins_another }
