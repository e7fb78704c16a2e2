-- Looking up classes, members, objects and properties. (npruntime.h, NPClass and NPObject.)
use Rattle.std.specs.Prelude.{Bool, List, None, Option, Some, [], false, if◌then◌else◌, is_some, position, suc, true, zero, ℕ, ◌∷◌}
use Rattle.std.specs.Str.{bytes_eq}
use Rattle.np_values.specs.declared.name.Name.{Name}
use Rattle.np_idents.specs.declared.key.IdKey.{IdKey}
use Rattle.np_idents.specs.declared.op.Op.TheVariants as ops
use Rattle.np_idents.specs.IdKey.{is_same_key}
use Rattle.np_script_grammar.specs.declared.action.Action.{Action}
use Rattle.np_script_grammar.specs.declared.class.ClassDef.{ClassDef}
use Rattle.np_script_grammar.specs.declared.class.Member.TheVariants as members
use Rattle.np_script_grammar.specs.declared.class.Member.{Member}
use Rattle.np_class.specs.Classes.{place_of}
use Rattle.np_machine.specs.declared.object.Object.{Object}
use Rattle.np_machine.specs.declared.object.Property.{Property}
use Rattle.np_machine.specs.References.{is_same_name}

-- the body of a member
abbrev pub member_body : Member → List Action
member_body (members.Method key body) = body
member_body (members.Default body) = body
member_body (members.Construct body) = body
member_body (members.Getter key body) = body
member_body (members.Setter key body) = body

-- the body of the member at this place
abbrev pub body_at : ℕ → List Member → List Action
body_at n [] = []
body_at zero (m ∷ ms) = member_body m
body_at (suc n) (m ∷ ms) = body_at n ms

-- the body of a class's member, by the places of both
abbrev pub class_body : ℕ → ℕ → List ClassDef → List Action
class_body n place [] = []
class_body zero place (class ∷ classes) = body_at place class.members
class_body (suc n) place (class ∷ classes) = class_body n place classes

-- the place of the class of this name, where it is declared
abbrev pub class_place : List ℕ → List ClassDef → Option ℕ
class_place name classes = position (λ class. bytes_eq class.name name) classes

-- the class at this place
abbrev pub class_at : ℕ → List ClassDef → Option ClassDef
class_at n [] = None
class_at zero (class ∷ classes) = Some class
class_at (suc n) (class ∷ classes) = class_at n classes

-- the class has a getter of this identifier
abbrev pub has_getter : IdKey → ClassDef → Bool
has_getter key class = is_some (place_of (ops.Get key) class)

-- the live object of this name
abbrev pub object_of : Name → List Object → Option Object
object_of name [] = None
object_of name (o ∷ os) = if is_same_name name o.name then Some o else object_of name os

-- the object keeps a property under this identifier
abbrev pub has_property : IdKey → List Property → Bool
has_property key [] = false
has_property key (f ∷ fs) = if is_same_key key f.key then true else has_property key fs

-- the identifiers of the properties, in the order in which they were first set
abbrev pub keys_of : List Property → List IdKey
keys_of [] = []
keys_of (f ∷ fs) = f.key ∷ keys_of fs
