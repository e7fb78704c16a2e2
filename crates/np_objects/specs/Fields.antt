-- The properties that an object keeps, as the list of their keys and values in the order in which they were first set.
-- (npruntime.h, NPN_GetProperty, NPN_SetProperty, NPN_RemoveProperty. The order and the limit are this project's own.)
use Rattle.std.specs.Prelude.{List, [], ◌∷◌, ◌++◌, length, Bool, not, ◌&&◌, nat_lt, if◌then◌else◌, Option, Some, None, is_some}
use Rattle.std.specs.Map.{lookup, set_value, remove_entry}
use Rattle.np_values.specs.declared.value.Value.{Value}
use Rattle.np_values.specs.declared.value.Value.TheVariants.{Void}
use Rattle.np_idents.specs.declared.key.IdKey.{IdKey}
use Rattle.np_idents.specs.IdKey.{is_same_key}
use Rattle.np_objects.specs.declared.fields.FieldSet.{FieldSet}
use Rattle.np_objects.specs.declared.fields.FieldSet.TheVariants.{Done, Full}

-- the value of the field of this key
abbrev pub field_at : IdKey → List (IdKey × Value) → Option Value
field_at key fs = lookup (is_same_key key) fs

abbrev pub has_field : IdKey → List (IdKey × Value) → Bool
has_field key fs = is_some (field_at key fs)

-- a field that is there keeps its place and has the new value; a new one goes last
abbrev pub with_field : IdKey → Value → List (IdKey × Value) → List (IdKey × Value)
with_field key value fs = if has_field key fs then set_value (is_same_key key) fs value else fs ++ (key, value) ∷ []

-- the other fields, in their order
abbrev pub without_field : IdKey → List (IdKey × Value) → List (IdKey × Value)
without_field key fs = remove_entry (is_same_key key) fs

-- there is no room: 64 fields, and not this one
abbrev pub is_full_for : IdKey → List (IdKey × Value) → Bool
is_full_for key fs = not (has_field key fs) && not (nat_lt (length fs) 64)

-- it would be a new field, and there is room for it
abbrev pub is_new_for : IdKey → List (IdKey × Value) → Bool
is_new_for key fs = not (has_field key fs) && nat_lt (length fs) 64

-- the fields after this one is set, where there is room
abbrev pub fields_set : IdKey → Value → List (IdKey × Value) → List (IdKey × Value)
fields_set key value fs = if is_full_for key fs then fs else with_field key value fs

abbrev pub or_void : Option Value → Value
or_void None = Void
or_void (Some value) = value

-- what setting it gives: the old value, or Void for a new field; the value itself where there is no room
abbrev pub set_outcome : IdKey → Value → List (IdKey × Value) → FieldSet
set_outcome key value fs = if is_full_for key fs then Full value else Done (or_void (field_at key fs))
