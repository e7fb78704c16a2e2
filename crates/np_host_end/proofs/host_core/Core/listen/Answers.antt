use Rattle.std.proofs.Common.{◌≡◌, drop, true, Option, Err, refl, subst, inl}
use Rattle.np_message.specs.Message.{Message}
use Rattle.np_wire.specs.declared.error.FeedError.{FeedError}
use Rattle.np_wire.specs.Feed.{NextGives, HasWholeBody, WantsMemoryOnly}
use Rattle.np_wire_decode.specs.Reading.{needs_memory}
use Rattle.np_host_end.proofs.host_core.Core.listen.Goals as goal

pub returns-clause-memory : goal.returns-clause-memory
returns-clause-memory c = inl (record {
  control = refl;
  feed = subst (λ (e : FeedError). NextGives c.args.self.now.feed c.next.new.self (Err e)) c.in-Err-NoMemory.field-0-is c.in-Err-NoMemory.ensures.exact;
  whole = subst (λ (e : FeedError). WantsMemoryOnly {X = Option Message} (HasWholeBody c.args.self.now.feed.left) (Err e)) c.in-Err-NoMemory.field-0-is c.in-Err-NoMemory.ensures.memory_whole;
  needs = subst (λ (e : FeedError). WantsMemoryOnly {X = Option Message} (needs_memory (drop 4 c.args.self.now.feed.left) ≡ true) (Err e)) c.in-Err-NoMemory.field-0-is c.in-Err-NoMemory.ensures.memory;
})
