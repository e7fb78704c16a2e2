-- Whole histories of a store: what any list of its calls leaves. (This project's own.)
use Rattle.std.specs.Prelude.{◌≡◌, ◌<◌, ◌≤◌, ℕ, ◌+◌, List, [], ◌∷◌, length, Bool, true, false, ◌||◌, ◌==◌, if◌then◌else◌, Option, Some}
use Rattle.std.specs.Option.{option_map}
use Rattle.np_values.specs.declared.name.Side.{Side}
use Rattle.np_values.specs.declared.name.Name.{Name}
use Rattle.np_values.specs.declared.value.Value.{Value}
use Rattle.np_idents.specs.declared.key.IdKey.{IdKey}
use Rattle.np_objects.specs.declared.object.LiveObject.{LiveObject}
use Rattle.np_objects.specs.declared.numbering.Numbering.{Numbering}
use Rattle.np_objects.specs.Fields.{fields_set, without_field}
use Rattle.np_objects.specs.LiveObjects.{is_same, object_at, raised, lowered, pin_set, fields_changed, fresh}
use Rattle.np_objects.specs.Objects.{Objects, no_objects, numbering_of, numbered, killed, last_serial, is_live, holds_in, may_die, next_name, after_create, after_hold, after_unhold, after_pin, after_unpin, after_set, after_remove, after_take, after_kill}

-- a call that changes a store
pub data Call : Type 0 where
  Create : ℕ → ℕ → Call  -- instance, class
  Hold : Name → Call
  Unhold : Name → Call
  Pin : Name → Call
  Unpin : Name → Call
  SetField : Name → IdKey → Value → Call
  RemoveField : Name → IdKey → Call
  TakeDead : Name → Call
  Kill : ℕ → Call

-- what it leaves; a call that makes no object, at 1,024 live ones, leaves all as it was
abbrev pub after : Call → Objects → Objects
after (Create instance class) s = if length s.live == 1024 then s else after_create instance class s
after (Hold x) s = after_hold x s
after (Unhold x) s = after_unhold x s
after (Pin x) s = after_pin x s
after (Unpin x) s = after_unpin x s
after (SetField x key value) s = after_set x key value s
after (RemoveField x key) s = after_remove x key s
after (TakeDead x) s = after_take x s
after (Kill instance) s = after_kill instance s

-- its condition
abbrev pub IsAllowed : Call → Objects → Type 0
IsAllowed (Create instance class) s = instance < 256
IsAllowed (Hold x) s = is_live x s ≡ true
IsAllowed (Unhold x) s = 0 < holds_in x s
IsAllowed (Pin x) s = is_live x s ≡ true
IsAllowed (Unpin x) s = is_live x s ≡ true
IsAllowed (SetField x key value) s = is_live x s ≡ true
IsAllowed (RemoveField x key) s = Unit {0}
IsAllowed (TakeDead x) s = may_die x s ≡ true
IsAllowed (Kill instance) s = instance < 256

-- one call after another
abbrev pub after_all : List Call → Objects → Objects
after_all [] s = s
after_all (c ∷ cs) s = after_all cs (after c s)

abbrev pub AreAllowed : List Call → Objects → Type 0
AreAllowed [] s = Unit {0}
AreAllowed (c ∷ cs) s = IsAllowed c s × AreAllowed cs (after c s)

-- how many calls hold the object
abbrev pub holds_among : Name → List Call → ℕ
holds_among x [] = 0
holds_among x (Hold y ∷ cs) = (if is_same x y then 1 else 0) + holds_among x cs
holds_among x (c ∷ cs) = holds_among x cs

-- how many let it go
abbrev pub unholds_among : Name → List Call → ℕ
unholds_among x [] = 0
unholds_among x (Unhold y ∷ cs) = (if is_same x y then 1 else 0) + unholds_among x cs
unholds_among x (c ∷ cs) = unholds_among x cs

-- one of them takes it out
abbrev pub takes_out : Name → List Call → Bool
takes_out x [] = false
takes_out x (TakeDead y ∷ cs) = is_same x y || takes_out x cs
takes_out x (c ∷ cs) = takes_out x cs

-- a call that makes an object gives a name that isn't live
abbrev pub IsNewName : Call → Objects → Type 0
IsNewName (Create instance class) s = is_live (next_name instance s) s ≡ false
IsNewName c s = Unit {0}

-- A call leaves each live object live but the one that it takes out, and changes the holds of the one that it holds or lets go.
abbrev pub LiveObjectsAreKept : Type 0
LiveObjectsAreKept = (c : Call) (s : Objects) (x : Name) → IsAllowed c s → IsNewName c s → is_live x s ≡ true → takes_out x (c ∷ []) ≡ false
    → (is_live x (after c s) ≡ true) × (holds_in x (after c s) + unholds_among x (c ∷ []) ≡ holds_in x s + holds_among x (c ∷ []))

-- the object of the name x, where a call makes f of that of y
abbrev pub changed_at : Name → Name → (LiveObject → LiveObject) → Option LiveObject → Option LiveObject
changed_at x y f o = if is_same x y then option_map f o else o

-- what a call leaves of the object of the name x, if it lives
abbrev pub object_after : Call → Objects → Name → Option LiveObject → Option LiveObject
object_after (Create instance class) s x o =
    if length s.live == 1024 then o
    else if is_same x (next_name instance s) then Some (fresh (next_name instance s) class)
    else o
object_after (Hold y) s x o = changed_at x y raised o
object_after (Unhold y) s x o = changed_at x y lowered o
object_after (Pin y) s x o = changed_at x y (pin_set true) o
object_after (Unpin y) s x o = changed_at x y (pin_set false) o
object_after (SetField y key value) s x o = changed_at x y (fields_changed (fields_set key value)) o
object_after (RemoveField y key) s x o = changed_at x y (fields_changed (without_field key)) o
object_after (TakeDead y) s x o = o
object_after (Kill instance) s x o = o

-- A call changes the object that it names, and no other one lives, dies or changes. (One that is taken out is gone: `Store::take_dead` says so.)
abbrev pub EachObjectIsKnown : Type 0
EachObjectIsKnown = (c : Call) (s : Objects) (x : Name) → IsNewName c s → takes_out x (c ∷ []) ≡ false
    → object_at x (after c s).live ≡ object_after c s x (object_at x s.live)

-- what a call leaves of the numbering of the instance n
abbrev pub numbering_after : Call → Objects → ℕ → Numbering → Numbering
numbering_after (Create instance class) s n g = if length s.live == 1024 then g else if n == instance then numbered g else g
numbering_after (Kill instance) s n g = if n == instance then killed g else g
numbering_after c s n g = g

-- A call that makes an object gives a serial of its instance, one that kills marks its instance, and nothing else is changed of any instance.
abbrev pub EachNumberingIsKnown : Type 0
EachNumberingIsKnown = (c : Call) (s : Objects) (n : ℕ) → IsAllowed c s → length s.instances ≡ 256
    → numbering_of n (after c s).instances ≡ numbering_after c s n (numbering_of n s.instances)

-- While an object lives, its holds are those it had, with the calls that held it and less those that let it go.
abbrev pub HoldsAreCounted : Type 0
HoldsAreCounted = (side : Side) (earlier calls : List Call) (x : Name)
    → AreAllowed earlier (no_objects side) → AreAllowed calls (after_all earlier (no_objects side))
    → is_live x (after_all earlier (no_objects side)) ≡ true → takes_out x calls ≡ false
    → holds_in x (after_all calls (after_all earlier (no_objects side))) + unholds_among x calls
    ≡ holds_in x (after_all earlier (no_objects side)) + holds_among x calls

-- An instance's serials only rise, so the next one was never given before.
abbrev pub SerialsOnlyRise : Type 0
SerialsOnlyRise = (side : Side) (earlier calls : List Call) (instance : ℕ)
    → AreAllowed earlier (no_objects side) → AreAllowed calls (after_all earlier (no_objects side))
    → last_serial instance (after_all earlier (no_objects side)) ≤ last_serial instance (after_all calls (after_all earlier (no_objects side)))

-- A name that was given and doesn't live never lives again.
abbrev pub NoNameLivesAgain : Type 0
NoNameLivesAgain = (side : Side) (earlier calls : List Call) (x : Name)
    → AreAllowed earlier (no_objects side) → AreAllowed calls (after_all earlier (no_objects side))
    → x.serial ≤ last_serial x.instance (after_all earlier (no_objects side)) → is_live x (after_all earlier (no_objects side)) ≡ false
    → is_live x (after_all calls (after_all earlier (no_objects side))) ≡ false
