use Rattle.np_wire_laws.proofs.Fronts.{read_is_encoded}
use Rattle.np_wire_laws.proofs.laws.read_is_encoded.Goals as goal

pub returns : goal.returns
returns c = record { law = read_is_encoded }
