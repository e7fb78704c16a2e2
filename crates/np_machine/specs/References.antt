-- How often a name occurs in values, in releases and in messages. (This project's own.)
use Rattle.std.specs.Prelude.{ℕ, ◌+◌, List, [], ◌∷◌, ◌++◌, Bool, ◌&&◌, ◌==◌, if◌then◌else◌, Option, Some, None}
use Rattle.np_values.specs.declared.name.Side.{Side}
use Rattle.np_values.specs.declared.name.Side.TheVariants.{Page, Plug}
use Rattle.np_values.specs.declared.name.Name.{Name}
use Rattle.np_values.specs.declared.value.Value.{Value}
use Rattle.np_values.specs.declared.value.Value.TheVariants as values
use Rattle.np_values.specs.Name.{is_same_side}
use Rattle.np_proxy_release.specs.declared.release.Release.{Release}
use Rattle.np_message.specs.declared.payload.Payload.{Payload}
use Rattle.np_message.specs.declared.payload.Payload.TheVariants as payloads
use Rattle.np_message.specs.Message.{Message}

-- the two names are the same name
abbrev pub is_same_name : Name → Name → Bool
is_same_name a b = is_same_side a.side b.side && (a.instance == b.instance && a.serial == b.serial)

-- the side across from this one
abbrev pub other_side : Side → Side
other_side Page = Plug
other_side Plug = Page

-- ---- values

-- the object that a value refers to, if it does
abbrev pub name_of : Value → Option Name
name_of (values.Object name) = Some name
name_of value = None

-- 1 where this is the name x, else 0
abbrev pub count_in_name : Name → Option Name → ℕ
count_in_name x None = 0
count_in_name x (Some y) = if is_same_name x y then 1 else 0

-- 1 where the value is a reference to x, else 0
abbrev pub count_in_value : Name → Value → ℕ
count_in_value x value = count_in_name x (name_of value)

-- how many of these values are references to x
abbrev pub references_to : Name → List Value → ℕ
references_to x [] = 0
references_to x (v ∷ vs) = count_in_value x v + references_to x vs

-- how often x is one of these names
abbrev pub count_in_names : Name → List Name → ℕ
count_in_names x [] = 0
count_in_names x (y ∷ ys) = count_in_name x (Some y) + count_in_names x ys

-- ---- releases

-- the object that a release gives references back of, which this side owns
abbrev pub released_name : Side → Release → Name
released_name owner r = record { side = owner; instance = r.instance; serial = r.serial }

-- how many references to x these releases give back, where x is an object of the side that they are for
abbrev pub released_count : Name → List Release → ℕ
released_count x [] = 0
released_count x (r ∷ rs) = (if x.instance == r.instance && x.serial == r.serial then r.times else 0) + released_count x rs

-- ---- messages

-- The references that a message to this side carries, in the order in which their receiver drops them: the arguments of a call, and then its target, which is the receiver's object.
abbrev pub references_in : Side → Payload → List Value
references_in receiver (payloads.Call instance serial op arguments) =
    arguments ++ values.Object (record { side = receiver; instance = instance; serial = serial }) ∷ []
references_in receiver (payloads.True value) = value ∷ []
references_in receiver body = []

-- how many references to x these messages carry to this side
abbrev pub carried_in : Side → Name → List Message → ℕ
carried_in receiver x [] = 0
carried_in receiver x (m ∷ ms) = references_to x (references_in receiver m.body) + carried_in receiver x ms

-- how many references to x these messages give back to the side that owns x
abbrev pub released_in : Name → List Message → ℕ
released_in x [] = 0
released_in x (m ∷ ms) = released_count x m.releases + released_in x ms
