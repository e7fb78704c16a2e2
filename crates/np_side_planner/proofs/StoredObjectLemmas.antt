-- Looking up objects and properties of a store, as the machine's plans do.
use Rattle.std.proofs.Common.{◌≡◌, ℕ, zero, suc, ◌<◌, ◌≤◌, List, [], ◌∷◌, ◌++◌, length, get_or, take, refl, sym, ap, ◌∙◌, arith, Bool, true, false, Option, Some, None, is_some, subst}
use Rattle.np_values.specs.declared.name.Name.{Name}
use Rattle.np_values.specs.declared.value.Value.{Value}
use Rattle.np_values.specs.declared.value.Value.TheVariants as values
use Rattle.np_idents.specs.declared.key.IdKey.{IdKey}
use Rattle.np_idents.specs.IdKey.{is_same_key}
use Rattle.np_script_grammar.specs.declared.class.ClassDef.{ClassDef}
use Rattle.np_objects.specs.declared.object.LiveObject.{LiveObject}
use Rattle.std.specs.Prelude.{MatchOption, slice_get}
use Rattle.np_objects.specs.LiveObjects.{SameNamesAreEqual, class_of, fields_of, is_same, object_at}
use Rattle.np_objects.specs.Objects.{Objects, class_in, fields_in}
use Rattle.np_machine.specs.declared.object.Property.{Property}
use Rattle.np_side_planner.specs.Objects.{IsObject, object_with}
use Rattle.np_objects.specs.Fields.{field_at, or_void}
use Rattle.np_machine.specs.declared.object.Object.{Object}
use Rattle.np_machine.specs.Objects.{property_at}
use Rattle.np_machine.specs.Values.{read_at}
use Rattle.np_machine_plans.specs.Classes.{class_at, object_of, has_property, keys_of}
use Rattle.np_side_places.specs.StoredObjects as stored

pub read-past : (i : ℕ) (vs : List Value) → length vs ≤ i → values.Void ≡ read_at i vs
read-past i [] l = refl
read-past zero (u ∷ us) l = absurd (omega arith)
read-past (suc i) (u ∷ us) l = read-past i us (omega arith)

pub read-get : (i : ℕ) (d : Value) (vs : List Value) → i < length vs → get_or vs i d ≡ read_at i vs
read-get i d [] l = absurd (omega arith)
read-get zero d (u ∷ us) l = refl
read-get (suc i) d (u ∷ us) l = read-get i d us (omega arith)

pub class-past : (i : ℕ) (cs : List ClassDef) → length cs ≤ i → class_at i cs ≡ None
class-past i [] l = refl
class-past zero (c ∷ cs) l = absurd (omega arith)
class-past (suc i) (c ∷ cs) l = class-past i cs (omega arith)

pub class-get : (i : ℕ) (d : ClassDef) (cs : List ClassDef) → i < length cs → class_at i cs ≡ Some (get_or cs i d)
class-get i d [] l = absurd (omega arith)
class-get zero d (c ∷ cs) l = refl
class-get (suc i) d (c ∷ cs) l = class-get i d cs (omega arith)

pub has-property : (key : IdKey) (fs : List (IdKey × Value)) → is_some (field_at key fs) ≡ has_property key (stored.properties_of_fields fs)
has-property key [] = refl
has-property key (f ∷ fs) = at (is_same_key key f.0) refl (has-property key fs)
  where
    at : (b : Bool) → is_same_key key f.0 ≡ b → is_some (field_at key fs) ≡ has_property key (stored.properties_of_fields fs) → is_some (field_at key (f ∷ fs)) ≡ has_property key (stored.properties_of_fields (f ∷ fs))
    at true e ih = simp e refl
    at false e ih = simp e ih

pub property-found : (key : IdKey) (fs : List (IdKey × Value)) → or_void (field_at key fs) ≡ property_at key (stored.properties_of_fields fs)
property-found key [] = refl
property-found key (f ∷ fs) = at (is_same_key key f.0) refl (property-found key fs)
  where
    at : (b : Bool) → is_same_key key f.0 ≡ b → or_void (field_at key fs) ≡ property_at key (stored.properties_of_fields fs) → or_void (field_at key (f ∷ fs)) ≡ property_at key (stored.properties_of_fields (f ∷ fs))
    at true e ih = simp e refl
    at false e ih = simp e ih

abbrev pub as_object : Option LiveObject → Option Object
as_object None = None
as_object (Some o) = Some (stored.object_of o)

pub object-found : (x : Name) (live : List LiveObject) → as_object (object_at x live) ≡ object_of x (stored.objects_of live)
object-found x [] = refl
object-found x (o ∷ os) = at (is_same x o.name) refl (object-found x os)
  where
    at : (b : Bool) → is_same x o.name ≡ b → as_object (object_at x os) ≡ object_of x (stored.objects_of os) → as_object (object_at x (o ∷ os)) ≡ object_of x (stored.objects_of (o ∷ os))
    at true e ih = simp e refl
    at false e ih = simp e ih

-- an object that is found has the name that was looked for
pub found-name : (x : Name) (live : List LiveObject) (o : LiveObject) → object_at x live ≡ Some o → is_same x o.name ≡ true
found-name x [] o e = cc
found-name x (p ∷ ps) o e = at (is_same x p.name) refl (found-name x ps o)
  where
    at : (b : Bool) → is_same x p.name ≡ b → (object_at x ps ≡ Some o → is_same x o.name ≡ true) → is_same x o.name ≡ true
    at true f ih = let g = simp f at e in let h : p ≡ o = cc in subst (λ (q : LiveObject). is_same x q.name ≡ true) h f
    at false f ih = ih (simp f at e)

abbrev object_named : Name → ℕ → List Property → Object
object_named y class ps = record { name = y; class = class; properties = ps }

pub class-is : SameNamesAreEqual → (x : Name) (s : Objects) (r : Option ℕ) → r ≡ class_in x s → MatchOption r (object_of x (stored.objects_of s.live) ≡ None) (λ class. IsObject s x class)
class-is same x s r q = at (object_at x s.live) refl
  where
    at : (o : Option LiveObject) → object_at x s.live ≡ o → MatchOption r (object_of x (stored.objects_of s.live) ≡ None) (λ class. IsObject s x class)
    at None e =
        let n : r ≡ None = q ∙ ap class_of e in
        subst (λ t. MatchOption t (object_of x (stored.objects_of s.live) ≡ None) (λ class. IsObject s x class)) (sym n) (sym (object-found x s.live) ∙ ap as_object e)
    at (Some o) e =
        let n : r ≡ Some o.class = q ∙ ap class_of e in
        let name : x ≡ o.name = (same x o.name).0 (found-name x s.live o e) in
        let f : stored.properties_of_fields o.fields ≡ stored.properties_of_fields (fields_in x s) = ap (λ t. stored.properties_of_fields (fields_of t)) (sym e) in
        let is : object_of x (stored.objects_of s.live) ≡ Some (object_with s x o.class) = sym (object-found x s.live) ∙ ap as_object e ∙ ap (λ y. Some (object_named y o.class (stored.properties_of_fields o.fields))) (sym name) ∙ ap (λ ps. Some (object_named x o.class ps)) f in
        subst (λ t. MatchOption t (object_of x (stored.objects_of s.live) ≡ None) (λ class. IsObject s x class)) (sym n) (record { is = is; live = ap is_some e })

pub keys-more : (fs : List (IdKey × Value)) (i : ℕ) (k : IdKey) (v : Value) → Some (k, v) ≡ slice_get fs i → keys_of (stored.properties_of_fields (take i fs)) ++ k ∷ [] ≡ keys_of (stored.properties_of_fields (take (suc i) fs))
keys-more [] i k v e = cc
keys-more (f ∷ fs) zero k v e = let h : (k, v) ≡ f = cc in ap (λ (t : IdKey × Value). t.0 ∷ []) h
keys-more (f ∷ fs) (suc i) k v e = ap (λ l. f.0 ∷ l) (keys-more fs i k v e)

pub keys-length : (fs : List (IdKey × Value)) → length (keys_of (stored.properties_of_fields fs)) ≡ length fs
keys-length [] = refl
keys-length (f ∷ fs) = ap suc (keys-length fs)
