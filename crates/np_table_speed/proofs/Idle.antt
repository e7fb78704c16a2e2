-- What the measured calls leave of objects that live and aren't held.
use Rattle.std.proofs.Common.{◌≡◌, ℕ, ◌<◌, List, [], ◌∷◌, ◌++◌, length, true, false, Some, is_some, refl, sym, ap, ◌∙◌, arith, All}
use Rattle.std.specs.Prelude.{◌==◌}
use Rattle.std.proofs.lemmas.Bool.Decides.{nat_tests}
use Rattle.std.proofs.lemmas.List.Elements.{All-weaker, All-push}
use Rattle.np_values.specs.declared.name.Name.{Name}
use Rattle.np_objects.specs.LiveObjects.{is_same, SameNamesAreEqual, object_at, holds_of, fresh}
use Rattle.np_objects.specs.Objects.{Objects, is_live, holds_in, next_name, after_create, after_hold, after_unhold}
use Rattle.np_objects.specs.History.{Create, Hold, Unhold, after, holds_among, LiveObjectsAreKept}
use Rattle.np_table_speed.specs.Work.{IsIdle}

-- an idle object can be let go once it was held
pub held : LiveObjectsAreKept → SameNamesAreEqual → (s t : Objects) (y : Name) → t ≡ after_hold y s → IsIdle y s → 0 < holds_in y t
held law equal s t y e idle =
    let one = law (Hold y) s y idle.live tt idle.live refl in
    let same : is_same y y ≡ true = (equal y y).1 refl in
    let h = ap (holds_in y) e in
    let once : holds_among y (Hold y ∷ []) ≡ 1 = simp same refl in
    omega (arith, one.1, h, once)

-- an object that is held and let go is idle again, and so are the others
let-go : LiveObjectsAreKept → (s t u : Objects) (x y : Name) → t ≡ after_hold y s → u ≡ after_unhold y t → is_live y s ≡ true → 0 < holds_in y t → IsIdle x s → IsIdle x u
let-go law s t u x y e f live high idle =
    let one = law (Hold y) s x live tt idle.live refl in
    let live' : is_live x t ≡ true = ap (is_live x) e ∙ one.0 in
    let two = law (Unhold y) t x high tt live' refl in
    let h = ap (holds_in x) e in
    let g = ap (holds_in x) f in
    record { live = ap (is_live x) f ∙ two.0; unheld = let i = idle.unheld in omega (arith, one.1, two.1, h, g, i) }

pub all-let-go : LiveObjectsAreKept → (s t u : Objects) (y : Name) (names : List Name) → t ≡ after_hold y s → u ≡ after_unhold y t → is_live y s ≡ true → 0 < holds_in y t → All (λ x. IsIdle x s) names → All (λ x. IsIdle x u) names
all-let-go law s t u y names e f live high all = All-weaker (λ x. IsIdle x s) (λ x. IsIdle x u) (λ x idle. let-go law s t u x y e f live high idle) names all

-- a new object is idle, and the others stay so

made-other : LiveObjectsAreKept → (s t : Objects) (i class : ℕ) (x : Name) → t ≡ after_create i class s → (length s.live == 1024) ≡ false → i < 256 → is_live (next_name i s) s ≡ false → IsIdle x s → IsIdle x t
made-other law s t i class x e room small new idle =
    let one = law (Create i class) s x small new idle.live refl in
    let same : t ≡ after (Create i class) s = e ∙ sym (simp room refl) in
    let h = ap (holds_in x) same in
    record { live = ap (is_live x) same ∙ one.0; unheld = let u = idle.unheld in omega (arith, one.1, h, u) }

made-new : (t : Objects) (x : Name) (class : ℕ) → object_at x t.live ≡ Some (fresh x class) → IsIdle x t
made-new t x class e = record { live = ap is_some e; unheld = ap holds_of e }

pub all-others : LiveObjectsAreKept → (s t : Objects) (i class : ℕ) (names : List Name) → t ≡ after_create i class s → (length s.live ≡ 1024 → ⊥) → i < 256 → is_live (next_name i s) s ≡ false
    → All (λ y. IsIdle y s) names → All (λ y. IsIdle y t) names
all-others law s t i class names e room small new all =
    let room' : (length s.live == 1024) ≡ false = grind (arith, nat_tests) in
    All-weaker (λ y. IsIdle y s) (λ y. IsIdle y t) (λ y idle. made-other law s t i class y e room' small new idle) names all

pub all-made : LiveObjectsAreKept → (s t : Objects) (i class : ℕ) (x : Name) (names : List Name) → t ≡ after_create i class s → (length s.live ≡ 1024 → ⊥) → i < 256 → is_live (next_name i s) s ≡ false → object_at x t.live ≡ Some (fresh x class)
    → All (λ y. IsIdle y s) names → All (λ y. IsIdle y t) (names ++ x ∷ [])
all-made law s t i class x names e room small new seen all =
    All-push (λ y. IsIdle y t) names x (all-others law s t i class names e room small new all) (made-new t x class seen)
