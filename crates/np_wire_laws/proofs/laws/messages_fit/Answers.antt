use Rattle.np_wire_laws.proofs.Sizes.{body_short}
use Rattle.np_wire_laws.proofs.laws.messages_fit.Goals as goal

pub returns : goal.returns
returns c = record { law = body_short }
