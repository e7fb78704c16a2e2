-- What the private calls of a host end do.
use Rattle.std.specs.Prelude.{◌≡◌, ◌+◌, List, ◌++◌, length, drop, true, ◌⊎◌, Option, Some, None}
use Rattle.np_model.specs.declared.page.Stage.{Stage}
use Rattle.np_model.specs.declared.page.Stage.TheVariants.{Begin, Ready, Awaiting, Unanswered, Ended}
use Rattle.np_message.specs.Message.{Message}
use Rattle.np_model.specs.declared.refusal.Refusal.{Refusal}
use Rattle.np_message.specs.Encoding.{encoding, encodings}
use Rattle.np_message.specs.Rules.{KeepsFormat, IsTyped}
use Rattle.np_message.specs.Decoding.{Partial, front}
use Rattle.np_wire_decode.specs.Reading.{needs_memory}
use Rattle.np_wire.specs.Feed.{HasWholeBody}
use Rattle.np_model.specs.Side.{Micro}
use Rattle.np_model.specs.Run.{Meeting, Accepts, Refuses}
use Rattle.np_model.specs.PagePlan.{PageControl, go_plan, meet_plan}
use Rattle.np_model.specs.Steps.{control_after, sent_by, printed_by}
use Rattle.np_model.specs.Refused.{RefusedBy}
use Rattle.np_endpoint.specs.Memory.{MakeSomething}
use Rattle.np_endpoint.specs.declared.fault.Fault.{Fault}
use Rattle.np_endpoint.specs.declared.halt.Halt.{Halt}
use Rattle.np_endpoint.specs.declared.halt.Halt.TheVariants.{Waiting, Finished, Refused}
use Rattle.np_host_end.specs.declared.host_core.Core.{Core}

-- the page's control stands in the fields of the end
abbrev pub control_of : Core → PageControl
control_of e = record {
  commands = drop e.next e.page.commands;
  number = e.next;
  phases = e.phases.items;
  peer = e.peer;
  stage = e.stage;
}

-- the steps of a plan were done
pub record Moves (old new : Core) (steps : List (Micro PageControl)) : Type 0 where
  pub control : control_of new ≡ control_after steps (control_of old)
  pub outgoing : new.outgoing.items ≡ old.outgoing.items ++ encodings (sent_by steps)
  pub journal : new.journal.items ≡ old.journal.items ++ printed_by steps
  pub page : new.page ≡ old.page

-- the page did what is due where it doesn't wait
abbrev pub GoesOn : Core → Core → Type 0
GoesOn old new = Moves old new (go_plan old.page (control_of old) old.stage)

-- a message was accepted, and the steps of its plan were done
abbrev pub MovesAs : Core → Core → Meeting PageControl → Type 0
MovesAs old new (Accepts steps) = Moves old new steps
MovesAs old new (Refuses rule first second) = ⊥

-- a message was met, and refused where there is a fault
abbrev pub Meets : Core → Core → Message → Option Fault → Type 0
Meets old new m None = MovesAs old new (meet_plan (control_of old) m)
Meets old new m (Some fault) = (meet_plan (control_of old) m ≡ Refuses fault.rule fault.first fault.second) × (new ≡ old)

-- all but the control stayed
pub record SameBut (old new : Core) : Type 0 where
  pub page : new.page ≡ old.page
  pub feed : new.feed ≡ old.feed
  pub outgoing : new.outgoing ≡ old.outgoing
  pub journal : new.journal ≡ old.journal

-- the page doesn't wait
abbrev pub IsActing : Stage → Type 0
IsActing Begin = Unit {0}
IsActing Ready = Unit {0}
IsActing (Awaiting call) = ⊥
IsActing (Unanswered call) = Unit {0}
IsActing Ended = ⊥

-- the next message was taken off the feed and met
pub record Listens (old new : Core) : Type 0 where
  pub message : Message
  pub bytes : old.feed.left ≡ encoding message ++ new.feed.left
  pub keeps : KeepsFormat message
  pub typed : IsTyped message
  pub consumed : new.feed.consumed + length new.feed.left ≡ old.feed.consumed + length old.feed.left
  pub meets : MovesAs old new (meet_plan (control_of old) message)

-- the page waits as before
pub record Waits (old new : Core) : Type 0 where
  pub same : new ≡ old
  pub partial : front old.feed.consumed old.feed.left ≡ Partial

-- what stands at the front of the feed is refused, and nothing of it took effect
pub record IsRefused (old new : Core) (r : Refusal) : Type 0 where
  pub control : control_of new ≡ control_of old
  pub outgoing : new.outgoing.items ≡ old.outgoing.items
  pub journal : new.journal.items ≡ old.journal.items
  pub page : new.page ≡ old.page
  pub refused : RefusedBy (meet_plan (control_of old)) old.feed.consumed r (front old.feed.consumed old.feed.left)

-- an end that awaits a message went on with it, or halted
abbrev pub Listened : Core → Core → Option Halt → Type 0
Listened old new None = Listens old new
Listened old new (Some Waiting) = Waits old new
Listened old new (Some Finished) = ⊥
Listened old new (Some (Refused r)) = IsRefused old new r

-- ---- out of memory

-- the page was to make something by itself; its control stayed
pub record RanOutActing (old new : Core) : Type 0 where
  pub control : control_of new ≡ control_of old
  pub makes : MakeSomething (go_plan old.page (control_of old) old.stage)

-- a message is accepted, and something is made of it
abbrev pub AcceptsToMake : Meeting PageControl → Type 0
AcceptsToMake (Accepts steps) = MakeSomething steps
AcceptsToMake (Refuses rule first second) = ⊥

-- the page was to make something of a message; its control stayed
pub record RanOutMeeting (old new : Core) (meeting : Meeting PageControl) : Type 0 where
  pub control : control_of new ≡ control_of old
  pub makes : AcceptsToMake meeting

-- the next message, of which the whole body is there, was to be read, which takes memory
pub record RanOutReading (old new : Core) : Type 0 where
  pub control : control_of new ≡ control_of old
  pub feed : new.feed ≡ old.feed
  pub whole : HasWholeBody old.feed.left
  pub needs : needs_memory (drop 4 old.feed.left) ≡ true

-- the next message was taken off, and something was to be made of it
pub record RanOutOfNext (old new : Core) : Type 0 where
  pub message : Message
  pub bytes : old.feed.left ≡ encoding message ++ new.feed.left
  pub keeps : KeepsFormat message
  pub typed : IsTyped message
  pub meeting : RanOutMeeting old new (meet_plan (control_of old) message)

-- a page that awaits a message ran out of memory
abbrev pub RanOutListening : Core → Core → Type 0
RanOutListening old new = RanOutReading old new ⊎ RanOutOfNext old new
