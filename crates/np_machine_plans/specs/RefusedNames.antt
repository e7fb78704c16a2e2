-- The rules on the names and releases of a message: `unknown`, `too-many` and `count-full`. (This project's own.)
use Rattle.std.specs.Prelude.{Bool, List, None, Option, Some, [], false, if◌then◌else◌, nat_lt, not, true, ℕ, ◌&&◌, ◌++◌, ◌+◌, ◌-◌, ◌==◌, ◌||◌, ◌∷◌}
use Rattle.np_values.specs.declared.name.Name.{Name}
use Rattle.np_values.specs.declared.name.Side.{Side}
use Rattle.np_values.specs.declared.value.Value.{Value}
use Rattle.np_values.specs.Name.{is_same_side}
use Rattle.np_proxy_release.specs.declared.release.Release.{Release}
use Rattle.np_message.specs.declared.payload.Payload.TheVariants as payloads
use Rattle.np_message.specs.declared.payload.Payload.{Payload}
use Rattle.np_message.specs.Message.{Message}
use Rattle.np_life.specs.declared.phase.Phase.TheVariants as phases
use Rattle.np_life.specs.declared.phase.Phase.{Phase}
use Rattle.np_machine.specs.declared.refusal.Rule.TheVariants as rules
use Rattle.np_machine.specs.declared.refusal.Rule.{Rule}
use Rattle.np_machine.specs.Instances.{phase_in}
use Rattle.np_machine.specs.References.{carried_in, count_in_names, name_of, released_in, released_name}
use Rattle.np_machine.specs.Side.{SideState, is_dead}
use Rattle.np_machine.specs.Turn.{out_count}

-- the instance wasn't begun
abbrev pub is_absent : Phase → Bool
is_absent phases.Absent = true
is_absent phase = false

-- ---- what a message names

-- the name too, where there is one
abbrev pub with_name_of : Option Name → List Name → List Name
with_name_of None names = names
with_name_of (Some name) names = name ∷ names

-- the objects that the values name, in order
abbrev pub names_of : List Value → List Name
names_of [] = []
names_of (v ∷ vs) = with_name_of (name_of v) (names_of vs)

-- the names of a message to this side: first the target, then the values
abbrev pub message_names : Side → Payload → List Name
message_names receiver (payloads.Call instance serial op arguments) = record { side = receiver; instance = instance; serial = serial } ∷ names_of arguments
message_names receiver (payloads.True v) = names_of (v ∷ [])
message_names receiver body = []

-- the objects of the releases, which their receiver owns
abbrev pub released_names : Side → List Release → List Name
released_names owner [] = []
released_names owner (r ∷ rs) = released_name owner r ∷ released_names owner rs

-- ---- unknown

-- an own object that the other side holds no reference to, though its instance isn't dead
abbrev pub is_not_out : {C : Type 0} → SideState C → Name → Bool
is_not_out p x = is_same_side x.side p.side && (not (is_dead p x.instance) && out_count p x == 0)

-- of an instance that wasn't begun, or not out
abbrev pub is_unknown : {C : Type 0} → SideState C → Name → Bool
is_unknown p x = is_absent (phase_in x.instance p.instances) || is_not_out p x

-- the first name that meets the test
abbrev pub first_name : (Name → Bool) → List Name → Option Name
first_name test [] = None
first_name test (x ∷ xs) = if test x then Some x else first_name test xs

-- ---- too many

-- more references come back than are out; releases of a dead instance's objects come late and change nothing
abbrev pub is_too_many : {C : Type 0} → SideState C → Release → Bool
is_too_many p r = not (is_dead p r.instance) && nat_lt (out_count p (released_name p.side r)) r.times

-- the first release that meets the test
abbrev pub first_release : (Release → Bool) → List Release → Option Release
first_release test [] = None
first_release test (r ∷ rs) = if test r then Some r else first_release test rs

-- ---- count full

-- one more reference to an object of the other side would pass the greatest received count, after the names that stand before it
abbrev pub is_count_full : {C : Type 0} → SideState C → List Name → Name → Bool
is_count_full p before x =
    not (is_same_side x.side p.side)
    && (not (is_dead p x.instance) && nat_lt 4294967295 (carried_in p.side x p.delivered - released_in x p.sent + (count_in_names x before + 1)))

-- the first such name of these
abbrev pub first_full : {C : Type 0} → SideState C → List Name → List Name → Option Name
first_full p before [] = None
first_full p before (x ∷ xs) = if is_count_full p before x then Some x else first_full p (x ∷ before) xs

-- ---- the rules

-- a rule that a message breaks, and its two numbers
pub record Breach : Type 0 where
  pub rule : Rule
  pub first : ℕ
  pub second : ℕ

-- `count-full`, with the name's instance and serial
abbrev pub full_breach : Option Name → Option Breach
full_breach None = None
full_breach (Some x) = Some (record { rule = rules.CountFull; first = x.instance; second = x.serial })

-- `too-many`, with how many references come back and how many are out; else `count-full`
abbrev pub release_breach : {C : Type 0} → SideState C → List Name → Option Release → Option Breach
release_breach p names None = full_breach (first_full p [] names)
release_breach p names (Some r) = Some (record { rule = rules.TooMany; first = r.times; second = out_count p (released_name p.side r) })

-- `unknown`, with the name's instance and serial; else the other two
abbrev pub name_breach : {C : Type 0} → SideState C → Message → Option Name → Option Breach
name_breach p m None = release_breach p (message_names p.side m.body) (first_release (is_too_many p) m.releases)
name_breach p m (Some x) = Some (record { rule = rules.Unknown; first = x.instance; second = x.serial })

-- The first of these rules that a message breaks as it is delivered: `unknown` over all names and releases, then `too-many`, then `count-full`.
abbrev pub breach_of_names : {C : Type 0} → SideState C → Message → Option Breach
breach_of_names p m = name_breach p m (first_name (is_unknown p) (message_names p.side m.body ++ released_names p.side m.releases))
