-- An object of a side's store, as plans read it. (This project's own.)
use Rattle.std.specs.Prelude.{◌≡◌, ℕ, true, Some}
use Rattle.np_values.specs.declared.name.Name.{Name}
use Rattle.np_objects.specs.Objects.{Objects, is_live, fields_in}
use Rattle.np_machine.specs.declared.object.Object.{Object}
use Rattle.np_machine_plans.specs.Classes.{object_of}
use Rattle.np_side_places.specs.StoredObjects.{objects_of, properties_of_fields}

-- the object of this name, of this class, with the fields that the store has
abbrev pub object_with : Objects → Name → ℕ → Object
object_with store name class = record { name = name; class = class; properties = properties_of_fields (fields_in name store) }

-- it lives, and its class has this place
pub record IsObject (store : Objects) (name : Name) (class : ℕ) : Type 0 where
  pub is : object_of name (objects_of store.live) ≡ Some (object_with store name class)
  pub live : is_live name store ≡ true
