-- What an end stands for: its side alone, with the messages that came whole so far. (This project's own.)
use Rattle.std.specs.Prelude.{◌≡◌, ℕ, ◌+◌, List, [], ◌++◌, length, Bool, false}
use Rattle.np_message.specs.Encoding.{encodings}
use Rattle.np_message.specs.Rules.{AreMessages}
use Rattle.np_message.specs.Decoding.{Partial, front}
use Rattle.np_model.specs.Side.{SideState, at_start}
use Rattle.np_model.specs.Run.{Pace, Awaits, HasEnded, endpoint_run}
use Rattle.np_model.specs.Alone.{Role, IsRefusal}
use Rattle.np_endpoint.specs.declared.halt.Halt.{Halt}
use Rattle.np_endpoint.specs.declared.halt.Halt.TheVariants.{Waiting, Finished, Refused}

-- What a caller sees of an end: its script and where its side stands, the bytes of messages that were not cut off by `sent`, those of the journal that were not cut off by `printed`, how many bytes it consumed, those that it did not, what `run` answered last, and whether memory ran out in an earlier call.
pub record EndState (S C : Type 0) : Type 0 where
  pub script : S
  pub control : C
  pub outgoing : List ℕ
  pub journal : List ℕ
  pub consumed : ℕ
  pub unread : List ℕ
  pub state : Halt
  pub failed : Bool

-- the end of this script before anything was done, where scripts have these roles
abbrev pub end_start : {S C : Type 0} → (S → Role C) → S → EndState S C
end_start role_of script = record {
  script = script;
  control = (role_of script).start;
  outgoing = [];
  journal = [];
  consumed = 0;
  unread = [];
  state = Waiting;
  failed = false;
}

-- all bytes that it was given
abbrev pub total_of : {S C : Type 0} → EndState S C → ℕ
total_of e = e.consumed + length e.unread

-- each side of this role that has this control is at this pace: it acts, awaits a message or has ended
abbrev pub HasPace : {C : Type 0} → Role C → C → Pace → Type 0
HasPace {C} role control pace = (p : SideState C) → p.control ≡ control → role.plans.pace p ≡ pace

-- of the bytes that came, `left` stand after the messages that the side examined
abbrev pub HasLeft : {C : Type 0} → Role C → SideState C → Halt → ℕ → List ℕ → List ℕ → Type 0
HasLeft role side Waiting consumed unread left = (consumed ≡ length (encodings side.examined)) × (unread ≡ left)
HasLeft role side Finished consumed unread left = (consumed ≡ length (encodings side.examined)) × (unread ≡ left)
HasLeft role side (Refused r) consumed unread left = IsRefusal role side left r

-- The end of this script that got these bytes in all, of whose messages the bytes `sent` were cut off and of whose journal `printed`: it is the side alone, where the messages that it examined are those that begin `got`.
pub record StandsFor {S C : Type 0} (role_of : S → Role C) (script : S) (got sent printed : List ℕ) (e : EndState S C) : Type 0 where
  pub same_script : e.script ≡ script
  pub side : SideState C
  pub turns : ℕ
  pub left : List ℕ
  pub comes : endpoint_run (role_of script).plans side.examined turns (at_start (role_of script).start) ≡ side
  pub messages : AreMessages side.examined
  pub control : e.control ≡ side.control
  pub got_is : got ≡ encodings side.examined ++ left
  pub has_left : HasLeft (role_of script) side e.state e.consumed e.unread left
  pub sent_is : encodings side.sent ≡ sent ++ e.outgoing
  pub printed_is : side.journal ≡ printed ++ e.journal

-- a call carries on what the end stands for
abbrev pub Keeps : {S C : Type 0} → (S → Role C) → EndState S C → EndState S C → Type 0
Keeps {S} role_of old new = (script : S) (got sent printed : List ℕ) → StandsFor role_of script got sent printed old → StandsFor role_of script got sent printed new

-- where the end comes to rest
abbrev pub RestsAs : {S C : Type 0} → (S → Role C) → EndState S C → Halt → Type 0
RestsAs role_of e Waiting = (e.state ≡ Waiting) × HasPace (role_of e.script) e.control Awaits × (front e.consumed e.unread ≡ Partial)
RestsAs role_of e Finished = (e.state ≡ Finished) × HasPace (role_of e.script) e.control HasEnded
RestsAs role_of e (Refused r) = e.state ≡ Refused r
