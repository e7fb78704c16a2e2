use Rattle.np_wire_laws.proofs.Bodies.{body_is_encoding, encoding_is_body}
use Rattle.np_wire_laws.proofs.laws.encodings_are_of_messages.Goals as goal

pub returns-clause-items : goal.returns-clause-items
returns-clause-items c = body_is_encoding

pub returns-clause-messages : goal.returns-clause-messages
returns-clause-messages c = encoding_is_body
