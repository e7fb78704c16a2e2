use Rattle.std.proofs.Common.{◌≡◌, subst, Option}
use Rattle.std.specs.Option.{IfSome}
use Rattle.np_message.specs.Message.{Message}
use Rattle.np_wire_speed.specs.Work.{HasFront}
use Rattle.np_wire_speed.proofs.OneMessage.{is_that_message}
use Rattle.np_wire_speed.proofs.work.encode_again.Goals as goal

pub returns-clause-refused : goal.returns-clause-refused
returns-clause-refused c three one =
    let has = subst (λ (next : Option Message). IfSome next (λ m. HasFront m c.args.bytes.now)) c.in-Some.is c.in_ok-message.ensures.some in
    c.in_ok-encodes_as.ensures.no c.if-branch.false (is_that_message c.no_encoding_begins_another.ensures.law c.args.bytes.now _ has one)
