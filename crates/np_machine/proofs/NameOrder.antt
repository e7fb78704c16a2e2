-- Rising lists of names stay so when an object is made or goes.
use Rattle.std.proofs.Common.{◌≡◌, ℕ, List, [], ◌∷◌, Bool, true, false, ◌&&◌, ◌||◌, refl, arith, Option, Some, None, nat_lt}
use Rattle.std.specs.Prelude.{◌==◌}
use Rattle.std.proofs.lemmas.Bool.Decides.{nat_tests}
use Rattle.np_values.specs.declared.name.Side.{Side}
use Rattle.np_values.specs.declared.name.Side.TheVariants.{Page, Plug}
use Rattle.np_values.specs.declared.name.Name.{Name}
use Rattle.np_values.specs.Name.{is_side_before, is_same_side, is_before}
use Rattle.np_message.specs.Rules.{Each}
use Rattle.np_machine.specs.References.{is_same_name}
use Rattle.np_machine.specs.declared.object.Object.{Object}
use Rattle.np_machine.specs.declared.object.Property.{Property}
use Rattle.np_machine.specs.Objects.{with_properties, with_object, without_object}
use Rattle.np_machine.specs.Naming.{object_names, is_after, AreOrderedFrom, AreOrdered}
use Rattle.np_machine.proofs.BalanceLemmas.{by_if}

-- ---- the order

numbers-trans : (i j k s t u : ℕ) → (nat_lt i j || (i == j && nat_lt s t)) ≡ true → (nat_lt j k || (j == k && nat_lt t u)) ≡ true → (nat_lt i k || (i == k && nat_lt s u)) ≡ true
numbers-trans i j k s t u e f = grind (arith, nat_tests)

numbers-total : (i j s t : ℕ) → (i == j && s == t) ≡ false → (nat_lt i j || (i == j && nat_lt s t)) ≡ false → (nat_lt j i || (j == i && nat_lt t s)) ≡ true
numbers-total i j s t e f = grind (arith, nat_tests)

sides-trans : (a b c : Side) (x y z : Bool) → (is_side_before a b || (is_same_side a b && x)) ≡ true → (is_side_before b c || (is_same_side b c && y)) ≡ true → (x ≡ true → y ≡ true → z ≡ true) → (is_side_before a c || (is_same_side a c && z)) ≡ true
sides-trans Page Page Page x y z e f g = g e f
sides-trans Page Page Plug x y z e f g = refl
sides-trans Page Plug Page x y z e f g = cc
sides-trans Page Plug Plug x y z e f g = refl
sides-trans Plug Page Page x y z e f g = cc
sides-trans Plug Page Plug x y z e f g = cc
sides-trans Plug Plug Page x y z e f g = cc
sides-trans Plug Plug Plug x y z e f g = g e f

sides-total : (a b : Side) (s x y : Bool) → (is_same_side a b && s) ≡ false → (is_side_before a b || (is_same_side a b && x)) ≡ false → (s ≡ false → x ≡ false → y ≡ true) → (is_side_before b a || (is_same_side b a && y)) ≡ true
sides-total Page Page s x y e f g = g e f
sides-total Page Plug s x y e f g = cc
sides-total Plug Page s x y e f g = refl
sides-total Plug Plug s x y e f g = g e f

before-trans : (a b c : Name) → is_before a b ≡ true → is_before b c ≡ true → is_before a c ≡ true
before-trans a b c e f = sides-trans a.side b.side c.side _ _ _ e f (λ x y. numbers-trans a.instance b.instance c.instance a.serial b.serial c.serial x y)

before-total : (a b : Name) → is_same_name a b ≡ false → is_before a b ≡ false → is_before b a ≡ true
before-total a b e f = sides-total a.side b.side _ _ _ e f (λ x y. numbers-total a.instance b.instance a.serial b.serial x y)

after-trans : (before : Option Name) (x y : Name) → is_after before x ≡ true → is_before x y ≡ true → is_after before y ≡ true
after-trans None x y e f = refl
after-trans (Some b) x y e f = before-trans b x y e f

-- ---- the lists

ordered-after : (before : Option Name) (x : Name) (ys : List Name) → is_after before x ≡ true → AreOrderedFrom (Some x) ys → AreOrderedFrom before ys
ordered-after before x [] e h = tt
ordered-after before x (y ∷ ys) e h = (after-trans before x y e h.0, h.1)

ordered-insert : (before : Option Name) (o : Object) (os : List Object) → is_after before o.name ≡ true → Each (λ y. is_same_name o.name y ≡ false) (object_names os) → AreOrderedFrom before (object_names os) → AreOrderedFrom before (object_names (with_object o os))
ordered-insert before o [] e new h = (e, tt)
ordered-insert before o (x ∷ os) e new h = by_if (λ l. AreOrderedFrom before (object_names l)) (is_before o.name x.name) _ _ (λ b. (e, (b, h.1))) (λ b. (h.0, ordered-insert (Some x.name) o os (before-total o.name x.name new.0 b) new.1 h.1))

pub insert-ordered : (o : Object) (os : List Object) → Each (λ y. is_same_name o.name y ≡ false) (object_names os) → AreOrdered (object_names os) → AreOrdered (object_names (with_object o os))
insert-ordered o os new h = ordered-insert None o os refl new h

pub insert-each : (Keeps : Name → Type 0) (o : Object) (os : List Object) → Keeps o.name → Each Keeps (object_names os) → Each Keeps (object_names (with_object o os))
insert-each Keeps o [] k h = (k, tt)
insert-each Keeps o (x ∷ os) k h = by_if (λ l. Each Keeps (object_names l)) (is_before o.name x.name) _ _ (λ b. (k, h)) (λ b. (h.0, insert-each Keeps o os k h.1))

ordered-without : (before : Option Name) (y : Name) (os : List Object) → AreOrderedFrom before (object_names os) → AreOrderedFrom before (object_names (without_object y os))
ordered-without before y [] h = tt
ordered-without before y (o ∷ os) h = by_if (λ l. AreOrderedFrom before (object_names l)) (is_same_name y o.name) _ _ (λ e. ordered-after before o.name (object_names os) h.0 h.1) (λ e. (h.0, ordered-without (Some o.name) y os h.1))

pub without-ordered : (y : Name) (os : List Object) → AreOrdered (object_names os) → AreOrdered (object_names (without_object y os))
without-ordered y os h = ordered-without None y os h

pub without-each : (Keeps : Name → Type 0) (y : Name) (os : List Object) → Each Keeps (object_names os) → Each Keeps (object_names (without_object y os))
without-each Keeps y [] h = tt
without-each Keeps y (o ∷ os) h = by_if (λ l. Each Keeps (object_names l)) (is_same_name y o.name) _ _ (λ e. h.1) (λ e. (h.0, without-each Keeps y os h.1))

pub each-implies : (Keeps Holds : Name → Type 0) (ys : List Name) → ((y : Name) → Keeps y → Holds y) → Each Keeps ys → Each Holds ys
each-implies Keeps Holds [] f h = tt
each-implies Keeps Holds (y ∷ ys) f h = (f y h.0, each-implies Keeps Holds ys f h.1)

-- the properties of an object can change, and its name stays
pub with_properties-names : (y : Name) (fs : List Property) (os : List Object) → object_names (with_properties y fs os) ≡ object_names os
with_properties-names y fs [] = refl
with_properties-names y fs (o ∷ os) = grind (arith, with_properties-names y fs os)
