use Rattle.std.proofs.Common.{arith}
use Rattle.np_wire_decode.proofs.Whole.{whole_read, rest_read, item_read, read_keeps}
use Rattle.np_wire_decode.proofs.body.decode_body.Goals as goal

pub returns-then-left-gt0-clause-exact : goal.returns-then-left-gt0-clause-exact
returns-then-left-gt0-clause-exact c = rest_read c.args.bytes.now _ c.in-Ok.rest.now c.in-Ok.ensures.exact (omega arith)

pub new-requires : goal.new-requires
new-requires c = record { rules = read_keeps c.read_bodies_are_messages.ensures.law c.args.bytes.now _ _ (λ i. omega (arith, c.type_inv.bytes i)) c.in-Ok.ensures.exact }

pub returns-else-left-gt0-clause-exact : goal.returns-else-left-gt0-clause-exact
returns-else-left-gt0-clause-exact c = whole_read c.args.bytes.now _ _ c.in-Ok.rest.now c.in-Ok.ensures.exact (omega arith) c.new.ensures.value

pub returns-in-Err-clause-exact : goal.returns-in-Err-clause-exact
returns-in-Err-clause-exact c = item_read c.args.bytes.now _ _ c.broken.ensures c.in-Err.ensures.exact
