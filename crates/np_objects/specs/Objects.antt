-- The objects of one side: those that live, and how each instance's objects are numbered.
-- (npruntime.h, NPN_CreateObject, NPN_RetainObject, NPN_ReleaseObject; NPP_Destroy invalidates an instance's objects.
-- Names, pins and limits are this project's own.)
use Rattle.std.specs.Prelude.{◌≡◌, ◌≤◌, ℕ, ◌+◌, List, [], ◌∷◌, length, replicate, slice_index_or, slice_set, Bool, true, false, ◌&&◌, ◌||◌, nat_le, Option}
use Rattle.np_values.specs.declared.name.Side.{Side}
use Rattle.np_values.specs.declared.name.Name.{Name}
use Rattle.np_values.specs.Name.{is_same_side}
use Rattle.np_values.specs.declared.value.Value.{Value}
use Rattle.np_idents.specs.declared.key.IdKey.{IdKey}
use Rattle.np_objects.specs.declared.object.LiveObject.{LiveObject}
use Rattle.np_objects.specs.declared.numbering.Numbering.{Numbering}
use Rattle.np_objects.specs.Fields.{fields_set, without_field}
use Rattle.np_objects.specs.LiveObjects.{is_there, object_at, holds_of, class_of, fields_of, is_free_of, at_name, raised, lowered, pin_set, fields_changed, fresh, with_object, without_object, names_in}

-- the live objects rise by name; `instances` has an entry for each number of an instance, 0 to 255
pub record Objects : Type 0 where
  pub side : Side
  pub live : List LiveObject
  pub instances : List Numbering

abbrev pub unnumbered : Numbering
unnumbered = record { last_serial = 0; killed = false }

-- a side without objects
abbrev pub no_objects : Side → Objects
no_objects side = record { side = side; live = []; instances = replicate 256 unnumbered }

-- what is known of an instance

abbrev pub numbering_of : ℕ → List Numbering → Numbering
numbering_of instance ns = slice_index_or ns instance unnumbered

abbrev pub last_serial : ℕ → Objects → ℕ
last_serial instance s = (numbering_of instance s.instances).last_serial

abbrev pub is_killed : ℕ → Objects → Bool
is_killed instance s = (numbering_of instance s.instances).killed

-- the names of its live objects, in their order
abbrev pub names_of : ℕ → Objects → List Name
names_of instance s = names_in instance s.live

-- what is known of an object

abbrev pub is_live : Name → Objects → Bool
is_live x s = is_there x s.live

-- how often it is held; 0 where it doesn't live
abbrev pub holds_in : Name → Objects → ℕ
holds_in x s = holds_of (object_at x s.live)

abbrev pub class_in : Name → Objects → Option ℕ
class_in x s = class_of (object_at x s.live)

-- its fields in their order; none where it doesn't live
abbrev pub fields_in : Name → Objects → List (IdKey × Value)
fields_in x s = fields_of (object_at x s.live)

-- it lives, and has neither holds nor a pin
abbrev pub is_free : Name → Objects → Bool
is_free x s = is_free_of (object_at x s.live)

-- it may be taken out: it lives, and nothing holds it or its instance was killed
abbrev pub may_die : Name → Objects → Bool
may_die x s = is_live x s && (is_free x s || is_killed x.instance s)

-- the changes

-- the name of the instance's next object
abbrev pub next_name : ℕ → Objects → Name
next_name instance s = record { side = s.side; instance = instance; serial = last_serial instance s + 1 }

abbrev pub numbered : Numbering → Numbering
numbered n = record n { last_serial = n.last_serial + 1 }

abbrev pub killed : Numbering → Numbering
killed n = record n { killed = true }

abbrev pub at_instance : ℕ → (Numbering → Numbering) → List Numbering → List Numbering
at_instance instance f ns = slice_set ns instance (f (numbering_of instance ns))

-- a new object of the next name, with no holds, no pin and no fields
abbrev pub after_create : ℕ → ℕ → Objects → Objects
after_create instance class s = record s {
  live = with_object (fresh (next_name instance s) class) s.live;
  instances = at_instance instance numbered s.instances;
}

abbrev pub after_hold : Name → Objects → Objects
after_hold x s = record s { live = at_name x raised s.live }

abbrev pub after_unhold : Name → Objects → Objects
after_unhold x s = record s { live = at_name x lowered s.live }

abbrev pub after_pin : Name → Objects → Objects
after_pin x s = record s { live = at_name x (pin_set true) s.live }

abbrev pub after_unpin : Name → Objects → Objects
after_unpin x s = record s { live = at_name x (pin_set false) s.live }

abbrev pub after_set : Name → IdKey → Value → Objects → Objects
after_set x key value s = record s { live = at_name x (fields_changed (fields_set key value)) s.live }

abbrev pub after_remove : Name → IdKey → Objects → Objects
after_remove x key s = record s { live = at_name x (fields_changed (without_field key)) s.live }

abbrev pub after_take : Name → Objects → Objects
after_take x s = record s { live = without_object x s.live }

abbrev pub after_kill : ℕ → Objects → Objects
after_kill instance s = record s { instances = at_instance instance killed s.instances }

-- what each store keeps

-- each name is of the side, and its serial was given
abbrev pub were_named : Side → List Numbering → List LiveObject → Bool
were_named side ns [] = true
were_named side ns (o ∷ os) = (is_same_side o.name.side side && nat_le o.name.serial (numbering_of o.name.instance ns).last_serial) && were_named side ns os

-- at most 1,024 objects live, each of them was named by this store, and there is an entry for each instance
pub record IsKept (side : Side) (live : List LiveObject) (ns : List Numbering) : Type 0 where
  pub few : length live ≤ 1024
  pub named : were_named side ns live ≡ true
  pub instances : length ns ≡ 256
