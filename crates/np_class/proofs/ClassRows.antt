-- The class table row by row, worked out by hand, at a class with each kind of member and at one with none.
use Rattle.std.proofs.Common.{◌≡◌, ℕ, pos, Bool, true, false, List, [], ◌∷◌, refl}
use Rattle.std.specs.Prelude.{codes}
use Rattle.np_idents.specs.declared.key.IdKey.{IdKey}
use Rattle.np_idents.specs.declared.key.IdKey.TheVariants.{Str, Int}
use Rattle.np_idents.specs.declared.op.Op.TheVariants.{Invoke, Default, Construct, Get, Put, Remove, HasMethod, HasProperty, Enumerate}
use Rattle.np_script_grammar.specs.declared.class.Member.{Member}
use Rattle.np_script_grammar.specs.declared.class.Member.TheVariants as member
use Rattle.np_script_grammar.specs.declared.class.ClassDef.{ClassDef}
use Rattle.np_class.specs.declared.found.Found.TheVariants.{Body, Stored, Absent}
use Rattle.np_class.specs.Classes.{entry}

abbrev x : IdKey
x = Str (codes "x")

abbrev y : IdKey
y = Str (codes "y")

-- a method, getter and setter of x, a method of the integer 7, and both members without an identifier
abbrev whole : List Member
whole = member.Getter x [] ∷ member.Method x [] ∷ member.Default [] ∷ member.Construct [] ∷ member.Setter x [] ∷ member.Method (Int (pos 7)) [] ∷ []

abbrev class : ℕ → Bool → List Member → ClassDef
class version stored members = record { name = codes "c"; version = version; stored = stored; members = members }

invoke : entry (class 3 false whole) (Invoke x) ≡ Body 1
invoke = refl

invoke_integer : entry (class 3 false whole) (Invoke (Int (pos 7))) ≡ Body 5
invoke_integer = refl

-- a string of digits isn't the integer
invoke_digits : entry (class 3 false whole) (Invoke (Str (codes "7"))) ≡ Absent
invoke_digits = refl

-- stored properties are no methods
invoke_other : entry (class 3 true whole) (Invoke y) ≡ Absent
invoke_other = refl

default : entry (class 1 false whole) Default ≡ Body 2
default = refl

default_absent : entry (class 3 true []) Default ≡ Absent
default_absent = refl

construct : entry (class 3 false whole) Construct ≡ Body 3
construct = refl

construct_at_version_2 : entry (class 2 true whole) Construct ≡ Absent
construct_at_version_2 = refl

construct_absent : entry (class 3 true []) Construct ≡ Absent
construct_absent = refl

-- a getter comes before a stored property
get : entry (class 3 true whole) (Get x) ≡ Body 0
get = refl

get_stored : entry (class 3 true whole) (Get y) ≡ Stored
get_stored = refl

get_absent : entry (class 3 false whole) (Get y) ≡ Absent
get_absent = refl

put : entry (class 3 true whole) (Put x) ≡ Body 4
put = refl

put_stored : entry (class 3 true whole) (Put y) ≡ Stored
put_stored = refl

put_absent : entry (class 3 false whole) (Put y) ≡ Absent
put_absent = refl

-- a setter doesn't keep a property
remove_stored : entry (class 3 true whole) (Remove x) ≡ Stored
remove_stored = refl

remove_absent : entry (class 3 false whole) (Remove x) ≡ Absent
remove_absent = refl

has_method : entry (class 3 false whole) (HasMethod x) ≡ Stored
has_method = refl

has_method_absent : entry (class 3 true whole) (HasMethod y) ≡ Absent
has_method_absent = refl

has_property : entry (class 3 false whole) (HasProperty x) ≡ Stored
has_property = refl

has_property_stored : entry (class 3 true []) (HasProperty x) ≡ Stored
has_property_stored = refl

has_property_absent : entry (class 3 false whole) (HasProperty y) ≡ Absent
has_property_absent = refl

enumerate : entry (class 1 false []) Enumerate ≡ Stored
enumerate = refl
