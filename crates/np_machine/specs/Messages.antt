-- How a side makes, examines and delivers messages. (This project's own.)
use Rattle.std.specs.Prelude.{ℕ, List, [], ◌∷◌, ◌++◌, take, drop, Bool, true, false, ◌&&◌, not, if◌then◌else◌, Option, Some, None}
use Rattle.np_values.specs.declared.name.Side.{Side}
use Rattle.np_values.specs.declared.name.Name.{Name}
use Rattle.np_values.specs.declared.value.Value.{Value}
use Rattle.np_values.specs.Name.{is_same_side}
use Rattle.np_idents.specs.declared.op.Op.{Op}
use Rattle.np_message.specs.declared.depth.Depth.{Depth}
use Rattle.np_message.specs.declared.payload.Payload.{Payload}
use Rattle.np_message.specs.declared.payload.Payload.TheVariants as payloads
use Rattle.np_message.specs.Message.{Message}
use Rattle.np_machine.specs.declared.draft.Draft.{Draft}
use Rattle.np_machine.specs.declared.draft.Draft.TheVariants.{CallDraft, ValueDraft, PlainDraft}
use Rattle.np_machine.specs.declared.draft.Sending.{Sending}
use Rattle.np_machine.specs.References.{other_side, name_of, references_in}
use Rattle.np_machine.specs.Side.{SideState, is_dead}
use Rattle.np_machine.specs.Dropping.{drop_reference}

-- ---- a message is made

-- The next value in flight is handed over to the message that is being made: its place stops referring to it. An own object doesn't die by that, since the message refers to it.
abbrev pub hand_over : {C : Type 0} → List Value → SideState C → SideState C
hand_over [] p = p
hand_over (v ∷ rest) p = drop_reference (λ y. true) (name_of v) (record p { in_flight = rest; handed_over = p.handed_over ++ v ∷ [] })

-- the payload carries no reference
abbrev pub is_plain : Payload → Bool
is_plain (payloads.Call instance serial op arguments) = false
is_plain (payloads.True value) = false
is_plain body = true

-- the call of this object, which is the receiver's
abbrev pub call_payload : Side → Op → List Value → Option Name → Option Payload
call_payload receiver op arguments None = None
call_payload receiver op arguments (Some y) = if is_same_side y.side receiver then Some (payloads.Call y.instance y.serial op arguments) else None

-- What a message to this side says, of the draft and the values that were handed over. None where they don't fit.
abbrev pub draft_payload : Side → Draft → List Value → Option Payload
draft_payload receiver (CallDraft op) [] = None
draft_payload receiver (CallDraft op) (target ∷ arguments) = call_payload receiver op arguments (name_of target)
draft_payload receiver ValueDraft [] = None
draft_payload receiver ValueDraft (v ∷ []) = Some (payloads.True v)
draft_payload receiver ValueDraft (v ∷ (w ∷ vs)) = None
draft_payload receiver (PlainDraft body) [] = if is_plain body then Some body else None
draft_payload receiver (PlainDraft body) (v ∷ vs) = None

-- A message with this payload is sent. It gives back what is pending, but no more than 1,024 releases, as the wire format has it.
abbrev pub send_payload : {C : Type 0} → Depth → Option Payload → SideState C → SideState C
send_payload depth None p = p
send_payload depth (Some body) p =
    record p {
      sent = p.sent ++ record { depth = depth; releases = take 1024 p.pending_releases; body = body } ∷ [];
      handed_over = [];
      pending_releases = drop 1024 p.pending_releases;
    }

-- the message of this draft is sent, if there is one
abbrev pub send_draft : {C : Type 0} → Option Sending → SideState C → SideState C
send_draft None p = p
send_draft (Some s) p = send_payload s.depth (draft_payload (other_side p.side) s.draft p.handed_over) p

-- ---- a message comes

-- the message is examined, and isn't delivered yet
abbrev pub examine : {C : Type 0} → Message → SideState C → SideState C
examine m p = record p { examined = p.examined ++ m ∷ []; undelivered = m ∷ p.undelivered }

-- the object is one more of those found, where it is the other side's and its instance passes the test
abbrev pub with_found : Side → (ℕ → Bool) → Option Name → List Name → List Name
with_found side passes None found = found
with_found side passes (Some y) found = if not (is_same_side y.side side) && passes y.instance then (y ∷ found) else found

-- the other side's objects that these values refer to and whose instance passes the test, each as often as there is a reference
abbrev pub remote_names_in : Side → (ℕ → Bool) → List Value → List Name
remote_names_in side passes [] = []
remote_names_in side passes (v ∷ vs) = with_found side passes (name_of v) (remote_names_in side passes vs)

-- A message is delivered: its references come in flight, and its releases count from now on. The references to objects of an instance that is dead here are never given back.
abbrev pub deliver : {C : Type 0} → Message → SideState C → SideState C
deliver m p =
    record p {
      in_flight = references_in p.side m.body ++ p.in_flight;
      delivered = p.delivered ++ m ∷ [];
      unreleased = remote_names_in p.side (λ n. is_dead p n) (references_in p.side m.body) ++ p.unreleased;
    }

-- the message that was examined last is delivered, if one waits
abbrev pub deliver_next : {C : Type 0} → List Message → SideState C → SideState C
deliver_next [] p = p
deliver_next (m ∷ rest) p = deliver m (record p { undelivered = rest })
