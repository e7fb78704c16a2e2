use Rattle.np_wire_laws.proofs.Fronts.{read_bodies_are_messages}
use Rattle.np_wire_laws.proofs.laws.read_bodies_are_messages.Goals as goal

pub returns : goal.returns
returns c = record { law = read_bodies_are_messages }
