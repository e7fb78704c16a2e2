-- The live objects of a side, in rising order of names. (npruntime.h, NPObject and its reference count; names are this project's own.)
use Rattle.std.specs.Prelude.{◌≡◌, ◌↔◌, ℕ, ◌+◌, ◌-◌, ◌<◌, ◌==◌, ◌&&◌, not, List, [], ◌∷◌, length, map, get_or, Bool, true, false, if◌then◌else◌, Option, Some, None, is_some}
use Rattle.np_values.specs.declared.name.Name.{Name}
use Rattle.np_values.specs.Name.{is_before, is_same_side}
use Rattle.np_values.specs.declared.value.Value.{Value}
use Rattle.np_idents.specs.declared.key.IdKey.{IdKey}
use Rattle.np_objects.specs.declared.object.LiveObject.{LiveObject}

-- both are the same name
abbrev pub is_same : Name → Name → Bool
is_same a b = is_same_side a.side b.side && (a.instance == b.instance && a.serial == b.serial)

-- Two names are the same exactly where they are equal.
abbrev pub SameNamesAreEqual : Type 0
SameNamesAreEqual = (a b : Name) → (is_same a b ≡ true) ↔ (a ≡ b)

abbrev pub object_name : LiveObject → Name
object_name o = o.name

abbrev pub are_after : Name → List LiveObject → Bool
are_after x [] = true
are_after x (o ∷ os) = is_before x o.name && are_after x os

-- each name stands before all later ones
abbrev pub is_rising : List LiveObject → Bool
is_rising [] = true
is_rising (o ∷ os) = are_after o.name os && is_rising os

-- the names of rising objects, by themselves
pub record AreNamed (names : List Name) (os : List LiveObject) : Type 0 where
  pub rising : is_rising os ≡ true
  pub same : names ≡ map object_name os

-- the object of this name, if it lives
abbrev pub object_at : Name → List LiveObject → Option LiveObject
object_at x [] = None
object_at x (o ∷ os) = if is_same x o.name then Some o else object_at x os

abbrev pub is_there : Name → List LiveObject → Bool
is_there x os = is_some (object_at x os)

abbrev pub holds_of : Option LiveObject → ℕ
holds_of None = 0
holds_of (Some o) = o.holds

abbrev pub class_of : Option LiveObject → Option ℕ
class_of None = None
class_of (Some o) = Some o.class

abbrev pub fields_of : Option LiveObject → List (IdKey × Value)
fields_of None = []
fields_of (Some o) = o.fields

-- it has neither holds nor a pin
abbrev pub is_free_of : Option LiveObject → Bool
is_free_of None = false
is_free_of (Some o) = o.holds == 0 && not o.pinned

-- the object of this name becomes what f makes of it; the others stay
abbrev pub at_name : Name → (LiveObject → LiveObject) → List LiveObject → List LiveObject
at_name x f [] = []
at_name x f (o ∷ os) = if is_same x o.name then (f o ∷ os) else (o ∷ at_name x f os)

-- one place more names it
abbrev pub raised : LiveObject → LiveObject
raised o = record o { holds = o.holds + 1 }

-- one place fewer names it
abbrev pub lowered : LiveObject → LiveObject
lowered o = record o { holds = o.holds - 1 }

abbrev pub pin_set : Bool → LiveObject → LiveObject
pin_set pinned o = record o { pinned = pinned }

abbrev pub fields_changed : (List (IdKey × Value) → List (IdKey × Value)) → LiveObject → LiveObject
fields_changed f o = record o { fields = f o.fields }

-- a new object, with no fields, no holds and no pin
abbrev pub fresh : Name → ℕ → LiveObject
fresh x class = record { name = x; class = class; fields = []; holds = 0; pinned = false }

-- a further object, at its place in the order of names
abbrev pub with_object : LiveObject → List LiveObject → List LiveObject
with_object o [] = o ∷ []
with_object o (p ∷ os) = if is_before o.name p.name then (o ∷ (p ∷ os)) else (p ∷ with_object o os)

-- the other objects
abbrev pub without_object : Name → List LiveObject → List LiveObject
without_object x [] = []
without_object x (o ∷ os) = if is_same x o.name then os else (o ∷ without_object x os)

-- the names of an instance's objects, in their order
abbrev pub names_in : ℕ → List LiveObject → List Name
names_in instance [] = []
names_in instance (o ∷ os) = if o.name.instance == instance then (o.name ∷ names_in instance os) else names_in instance os

-- the name stands at this place
pub record IsAt (x : Name) (os : List LiveObject) (place : ℕ) : Type 0 where
  pub within : place < length os
  pub is : (d : LiveObject) → (get_or os place d).name ≡ x

-- a search for the name finds its place, exactly where it is there
abbrev pub Finds : Name → List LiveObject → Option ℕ → Type 0
Finds x os None = is_there x os ≡ false
Finds x os (Some place) = IsAt x os place

abbrev pub are_names_after : Name → List Name → Bool
are_names_after x [] = true
are_names_after x (y ∷ ys) = is_before x y && are_names_after x ys

-- each name stands before all later ones
abbrev pub are_rising : List Name → Bool
are_rising [] = true
are_rising (x ∷ xs) = are_names_after x xs && are_rising xs
