use Rattle.std.proofs.Common.{ℕ, ◌++◌, ap, ◌∙◌, arith}
use Rattle.np_show.specs.Listing.{message_line}
use Rattle.np_show.proofs.MessageLines.{advanced, advanced-encoding, taken-length, takes-message, took, took-encoded}
use Rattle.np_show.proofs.lines.take_lines.Goals as goal

pub overflow_sub-size-in-Ok-Some : goal.overflow_sub-size-in-Ok-Some
overflow_sub-size-in-Ok-Some c =
    let exact = took c.loop-message.feed c.next.new.self c.in-Ok-Some.field-0 c.in-Ok-Some.message c.in-Ok-Some.field-0-is c.in-Ok-Some.ensures.exact in
    let found = took-encoded c.loop-message.feed c.next.new.self c.in-Ok-Some.field-0 c.in-Ok-Some.message c.in-Ok-Some.field-0-is c.in-Ok-Some.ensures.found in
    let n = advanced c.loop-message.feed c.next.new.self c.in-Ok-Some.message exact.1 found in
    let a = c.consumed.ensures.value in
    let b = c.consumed-at.ensures.value in
    omega (arith, n, a, b)

pub list_message-requires : goal.list_message-requires
list_message-requires c =
    let exact = took c.loop-message.feed c.next.new.self c.in-Ok-Some.field-0 c.in-Ok-Some.message c.in-Ok-Some.field-0-is c.in-Ok-Some.ensures.exact in
    let found = took-encoded c.loop-message.feed c.next.new.self c.in-Ok-Some.field-0 c.in-Ok-Some.message c.in-Ok-Some.field-0-is c.in-Ok-Some.ensures.found in
    let n = advanced c.loop-message.feed c.next.new.self c.in-Ok-Some.message exact.1 found in
    let a = c.consumed.ensures.value in
    let b = c.consumed-at.ensures.value in
    record { size = omega (arith, n, a, b) }

pub loop-message-smaller : goal.loop-message-smaller
loop-message-smaller c =
    let found = took-encoded c.loop-message.feed c.next.new.self c.in-Ok-Some.field-0 c.in-Ok-Some.message c.in-Ok-Some.field-0-is c.in-Ok-Some.ensures.found in
    let n = taken-length c.in-Ok-Some.message c.loop-message.feed.left c.next.new.self.left found in omega (arith, n)

pub loop-message-preserved : goal.loop-message-preserved
loop-message-preserved c = record {
  takes =
      let m = c.in-Ok-Some.message in
      let exact = took c.loop-message.feed c.next.new.self c.in-Ok-Some.field-0 m c.in-Ok-Some.field-0-is c.in-Ok-Some.ensures.exact in
      let found = took-encoded c.loop-message.feed c.next.new.self c.in-Ok-Some.field-0 m c.in-Ok-Some.field-0-is c.in-Ok-Some.ensures.found in
      takes-message c.args.feed.now c.loop-message.feed c.next.new.self _ _ _ m c.loop-message.invariant.takes exact.0 (advanced-encoding c.loop-message.feed c.next.new.self m exact.1 found)
      (c.in_ok-list_message-in-Ok-Some.ensures.ok ∙ ap (λ (n : ℕ). c.loop-message.lines.items ++ message_line n m) c.consumed-at.ensures.value);
  total = (took c.loop-message.feed c.next.new.self c.in-Ok-Some.field-0 c.in-Ok-Some.message c.in-Ok-Some.field-0-is c.in-Ok-Some.ensures.exact).1 ∙ c.loop-message.invariant.total;
}
