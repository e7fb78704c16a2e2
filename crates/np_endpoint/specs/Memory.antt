-- Where an end may run out of memory. (This project's own.)
use Rattle.std.specs.Prelude.{◌≡◌, ℕ, ◌+◌, ◌<◌, List, ◌++◌, length, drop, true, ◌⊎◌}
use Rattle.np_message.specs.Message.{Message}
use Rattle.np_message.specs.Encoding.{encoding, encodings}
use Rattle.np_message.specs.Rules.{AreMessages, KeepsFormat, IsTyped}
use Rattle.np_wire_decode.specs.Reading.{needs_memory}
use Rattle.np_wire.specs.Feed.{HasWholeBody}
use Rattle.np_model.specs.Side.{SideState, Micro}
use Rattle.np_model.specs.Run.{Pace, Acts, Awaits, HasEnded, Accepts, endpoint_run}
use Rattle.np_model.specs.Steps.{sent_by, printed_by}
use Rattle.np_model.specs.Alone.{Role}
use Rattle.np_endpoint.specs.declared.halt.Halt.TheVariants.{Waiting}
use Rattle.np_endpoint.specs.End.{EndState}

-- these steps send or print something, for which a buffer needs room
abbrev pub MakeSomething : {C : Type 0} → List (Micro C) → Type 0
MakeSomething steps = 0 < length (sent_by steps) + length (printed_by steps)

-- From the side p with these unread bytes, an end came to this control, with `left` unread: by the side's turns, with the messages that begin the bytes.
pub record CameTo {C : Type 0} (role : Role C) (p : SideState C) (unread : List ℕ) (control : C) (left : List ℕ) : Type 0 where
  pub side : SideState C
  pub turns : ℕ
  pub messages : List Message
  pub comes : endpoint_run role.plans side.examined turns p ≡ side
  pub examined : side.examined ≡ p.examined ++ messages
  pub are : AreMessages messages
  pub bytes : unread ≡ encodings messages ++ left
  pub same : side.control ≡ control

-- the message that begins `left` was taken off, so that `rest` is unread; the side accepts it, and makes something of it
pub record MakesOfNext {C : Type 0} (role : Role C) (side : SideState C) (left rest : List ℕ) : Type 0 where
  pub message : Message
  pub steps : List (Micro C)
  pub bytes : left ≡ encoding message ++ rest
  pub keeps : KeepsFormat message
  pub typed : IsTyped message
  pub accepts : role.plans.meet side message ≡ Accepts steps
  pub makes : MakeSomething steps

-- What takes memory is due at a side of this pace, where the bytes `left` are next and `rest` is unread: it makes something by itself; it reads a whole body, of what begins as a message with texts, bytes, values, lists or releases; or it makes something of the next message.
abbrev pub IsDue : {C : Type 0} → Role C → SideState C → List ℕ → List ℕ → Pace → Type 0
IsDue role side left rest Acts = (rest ≡ left) × MakeSomething (role.plans.go side)
IsDue role side left rest Awaits = ((rest ≡ left) × HasWholeBody left × (needs_memory (drop 4 left) ≡ true)) ⊎ MakesOfNext role side left rest
IsDue role side left rest HasEnded = ⊥

-- from the side p with these unread bytes, an end came to this control, where something that takes memory was due, and has `rest` unread
pub record RanOut {C : Type 0} (role : Role C) (p : SideState C) (unread : List ℕ) (control : C) (rest : List ℕ) : Type 0 where
  pub left : List ℕ
  pub came : CameTo role p unread control left
  pub due : IsDue role came.side left rest (role.plans.pace came.side)

-- Memory ran out in an earlier call, or where something that takes memory was due, whatever the side is that the end stood for; so not in place of a refusal, a wait or an end.
abbrev pub RunsOut : {S C : Type 0} → (S → Role C) → EndState S C → EndState S C → Type 0
RunsOut {S} {C} role_of old new = (old.failed ≡ true) ⊎ ((old.state ≡ Waiting) × ((p : SideState C) → p.control ≡ old.control → RanOut (role_of old.script) p old.unread new.control new.unread))
