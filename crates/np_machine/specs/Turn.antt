-- A turn of a side, and the run of one side alone. (This project's own.)
use Rattle.std.specs.Prelude.{ℕ, zero, suc, ◌+◌, ◌-◌, List, [], ◌∷◌, length, drop, Bool, not, nat_lt, ◌&&◌, Option, Some, None}
use Rattle.np_values.specs.declared.name.Name.{Name}
use Rattle.np_values.specs.Name.{is_same_side}
use Rattle.np_message.specs.Message.{Message}
use Rattle.np_machine.specs.declared.refusal.Refusal.{Refusal}
use Rattle.np_machine.specs.References.{other_side, references_to, count_in_names, released_count, carried_in, released_in}
use Rattle.np_machine.specs.Side.{SideState, local_count, is_dead}
use Rattle.np_machine.specs.Messages.{examine}
use Rattle.np_machine.specs.Plan.{run_plan, Pace, Acts, Awaits, HasEnded, Stops, Meeting, Accepts, Refuses, Plans}

-- ---- remotely referenced

-- a test which own objects of a side are remotely referenced
abbrev pub RemoteTest : Type 0 → Type 0
RemoteTest C = SideState C → Name → Bool

-- the messages of p that q has not examined
abbrev pub unexamined : {C D : Type 0} → SideState C → SideState D → List Message
unexamined p q = drop (length q.examined) p.sent

-- Whether an object of p is remotely referenced, by a look at all that can refer to it: the places of the other side q, what q is to give back and what its teardowns never give back, the messages and releases on their way, and what was handed over to a message.
abbrev pub is_remote_by_places : {C D : Type 0} → SideState D → SideState C → Name → Bool
is_remote_by_places q p x =
    is_same_side x.side p.side && (not (is_dead p x.instance) && nat_lt 0 (local_count x q + count_in_names x q.unreleased + released_count x q.pending_releases + carried_in (other_side p.side) x (unexamined p q) + carried_in (other_side p.side) x q.undelivered + released_in x (unexamined q p) + released_in x p.undelivered + carried_in p.side x (unexamined q p) + references_to x p.handed_over + references_to x q.handed_over))

-- Whether it is remotely referenced, as p alone can tell: p sent more references to it than it was given back.
abbrev pub is_remote_by_messages : {C : Type 0} → SideState C → Name → Bool
is_remote_by_messages p x =
    is_same_side x.side p.side && (not (is_dead p x.instance) && nat_lt (released_in x p.delivered) (carried_in (other_side p.side) x p.sent + references_to x p.handed_over))

-- the remote reference count of an own object: how many more references to it were sent than given back
abbrev pub out_count : {C : Type 0} → SideState C → Name → ℕ
out_count p x = carried_in (other_side p.side) x p.sent - released_in x p.delivered

-- ---- turns

-- the first message, if there is one
abbrev pub first : List Message → Option Message
first [] = None
first (m ∷ rest) = Some m

-- of the messages that reach a side, the first that it didn't examine
abbrev pub next_message : {C : Type 0} → List Message → SideState C → Option Message
next_message got p = first (drop (length p.examined) got)

-- A message is met: its plan runs, or it is refused, and then nothing changes.
abbrev pub meets : {C : Type 0} → RemoteTest C → SideState C → Message → Meeting C → SideState C
meets remote p m (Accepts plan) = run_plan remote plan (examine m p)
meets remote p m (Refuses rule first second) = p

-- a side that awaits a message meets it, if it is there
abbrev pub listens : {C : Type 0} → RemoteTest C → Plans C → SideState C → Option Message → SideState C
listens remote S p None = p
listens remote S p (Some m) = meets remote p m (S.meet p m)

-- a turn at this pace
abbrev pub turn_at : {C : Type 0} → RemoteTest C → Plans C → List Message → SideState C → Pace → SideState C
turn_at remote S got p Acts = run_plan remote (S.go p) p
turn_at remote S got p Awaits = listens remote S p (next_message got p)
turn_at remote S got p HasEnded = p
turn_at remote S got p (Stops r) = p

-- a side's turn, where these messages of the other side have come so far
abbrev pub turn : {C : Type 0} → RemoteTest C → Plans C → List Message → SideState C → SideState C
turn remote S got p = turn_at remote S got p (S.pace p)

-- one side alone after so many turns, where all these messages reach it
abbrev pub endpoint_run : {C : Type 0} → Plans C → List Message → ℕ → SideState C → SideState C
endpoint_run S got zero p = p
endpoint_run S got (suc n) p = turn is_remote_by_messages S got (endpoint_run S got n p)

-- ---- refusals

-- how a side refuses the message at this place that it meets, if it does
abbrev pub refused_meeting : {C : Type 0} → ℕ → Meeting C → Option Refusal
refused_meeting place (Accepts plan) = None
refused_meeting place (Refuses rule first second) = Some (record { place = place; rule = rule; first = first; second = second })

-- how it refuses its next message, if there is one
abbrev pub refused_next : {C : Type 0} → Plans C → SideState C → Option Message → Option Refusal
refused_next S p None = None
refused_next S p (Some m) = refused_meeting (length p.examined) (S.meet p m)

-- how it refuses a message at this pace
abbrev pub refused_at : {C : Type 0} → Plans C → List Message → SideState C → Pace → Option Refusal
refused_at S got p Acts = None
refused_at S got p Awaits = refused_next S p (next_message got p)
refused_at S got p HasEnded = None
refused_at S got p (Stops r) = Some r

-- the refusal of a side that refuses a message now, where these messages have come so far
abbrev pub refused : {C : Type 0} → Plans C → List Message → SideState C → Option Refusal
refused S got p = refused_at S got p (S.pace p)
