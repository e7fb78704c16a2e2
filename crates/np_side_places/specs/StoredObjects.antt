-- The objects of a store as objects of the machine. (This project's own.)
use Rattle.std.specs.Prelude.{List, map}
use Rattle.np_values.specs.declared.value.Value.{Value}
use Rattle.np_idents.specs.declared.key.IdKey.{IdKey}
use Rattle.np_objects.specs.declared.object.LiveObject.{LiveObject}
use Rattle.np_machine.specs.declared.object.Property.{Property}
use Rattle.np_machine.specs.declared.object.Object.{Object}

-- a field of the store is a property of the machine
abbrev pub property_of : (IdKey × Value) → Property
property_of f = record { key = f.0; value = f.1 }

-- the fields of an object are its properties
abbrev pub properties_of_fields : List (IdKey × Value) → List Property
properties_of_fields fields = map property_of fields

-- a live object of the store is an object of the machine, without its counts
abbrev pub object_of : LiveObject → Object
object_of o = record { name = o.name; class = o.class; properties = properties_of_fields o.fields }

-- the objects of a store
abbrev pub objects_of : List LiveObject → List Object
objects_of live = map object_of live
