-- The objects that a side owns, in rising order of names, and their stored properties. (npruntime.h, NPObject; the order is this project's own.)
use Rattle.std.specs.Prelude.{ℕ, List, [], ◌∷◌, ◌++◌, Bool, true, false, if◌then◌else◌, ◌==◌}
use Rattle.np_values.specs.declared.name.Name.{Name}
use Rattle.np_values.specs.declared.value.Value.{Value}
use Rattle.np_values.specs.declared.value.Value.TheVariants as values
use Rattle.np_values.specs.Name.{is_before}
use Rattle.np_idents.specs.declared.key.IdKey.{IdKey}
use Rattle.np_idents.specs.IdKey.{is_same_key}
use Rattle.np_machine.specs.References.{is_same_name}
use Rattle.np_machine.specs.declared.object.Property.{Property}
use Rattle.np_machine.specs.declared.object.Object.{Object}

-- ---- properties

-- the value of the property, or Void where there is none
abbrev pub property_at : IdKey → List Property → Value
property_at key [] = values.Void
property_at key (f ∷ fs) = if is_same_key key f.key then f.value else property_at key fs

-- the property is set: in its place where it is there, else after the others
abbrev pub put_property : IdKey → Value → List Property → List Property
put_property key v [] = record { key = key; value = v } ∷ []
put_property key v (f ∷ fs) = if is_same_key key f.key then (record f { value = v } ∷ fs) else (f ∷ put_property key v fs)

-- the property is removed
abbrev pub without_property : IdKey → List Property → List Property
without_property key [] = []
without_property key (f ∷ fs) = if is_same_key key f.key then fs else (f ∷ without_property key fs)

-- the values of all these properties
abbrev pub property_values : List Property → List Value
property_values [] = []
property_values (f ∷ fs) = f.value ∷ property_values fs

-- ---- objects

-- an object of this name is there
abbrev pub has_object : Name → List Object → Bool
has_object y [] = false
has_object y (o ∷ os) = if is_same_name y o.name then true else has_object y os

-- the properties of the object
abbrev pub properties_of : Name → List Object → List Property
properties_of y [] = []
properties_of y (o ∷ os) = if is_same_name y o.name then o.properties else properties_of y os

-- the object has these properties now
abbrev pub with_properties : Name → List Property → List Object → List Object
with_properties y fs [] = []
with_properties y fs (o ∷ os) = if is_same_name y o.name then (record o { properties = fs } ∷ os) else (o ∷ with_properties y fs os)

-- a further object, at its place in the rising order of names
abbrev pub with_object : Object → List Object → List Object
with_object o [] = o ∷ []
with_object o (x ∷ os) = if is_before o.name x.name then (o ∷ (x ∷ os)) else (x ∷ with_object o os)

-- the object is taken from the list
abbrev pub without_object : Name → List Object → List Object
without_object y [] = []
without_object y (o ∷ os) = if is_same_name y o.name then os else (o ∷ without_object y os)

-- the names of the instance's objects
abbrev pub names_of_instance : ℕ → List Object → List Name
names_of_instance n [] = []
names_of_instance n (o ∷ os) = if n == o.name.instance then (o.name ∷ names_of_instance n os) else names_of_instance n os

-- the values of all properties of all objects
abbrev pub object_values : List Object → List Value
object_values [] = []
object_values (o ∷ os) = property_values o.properties ++ object_values os
