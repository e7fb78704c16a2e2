-- What is looked up after an edit of the list, a further object, or one that is taken out.
use Rattle.std.proofs.Common.{◌≡◌, ◌+◌, ◌-◌, ◌<◌, List, [], ◌∷◌, Bool, true, false, refl, sym, ap, ◌∙◌, subst, arith, Option, Some, None, is_some}
use Rattle.std.specs.Prelude.{if◌then◌else◌}
use Rattle.np_values.specs.declared.name.Name.{Name}
use Rattle.np_values.specs.Name.{is_before}
use Rattle.np_objects.specs.declared.object.LiveObject.{LiveObject}
use Rattle.np_objects.specs.LiveObjects.{is_same, object_at, is_there, holds_of, at_name, raised, lowered, with_object, without_object}
use Rattle.np_objects.proofs.Names.{same-is, same-flip}
use Rattle.np_objects.proofs.Finding.{edited-at, unchanged}

-- another name is looked up as before
pub other-at : (x y : Name) (f : LiveObject → LiveObject) → ((o : LiveObject) → (f o).name ≡ o.name) → is_same x y ≡ false → (os : List LiveObject) → object_at x (at_name y f os) ≡ object_at x os
other-at x y f k d [] = refl
other-at x y f k d (o ∷ os) = go (is_same y o.name) refl (other-at x y f k d os)
  where
    go : (b : Bool) → is_same y o.name ≡ b → object_at x (at_name y f os) ≡ object_at x os → object_at x (at_name y f (o ∷ os)) ≡ object_at x (o ∷ os)
    go true q ih =
        let e : is_same x o.name ≡ false = subst (λ n. is_same x n ≡ false) (same-is y o.name q) d in
        let e' : is_same x (f o).name ≡ false = ap (λ n. is_same x n) (k o) ∙ e in
        simp (q, e, e') refl
    go false q ih = simp q (ap (λ t. if is_same x o.name then Some o else t) ih)

-- an edit that keeps what t reads of an object keeps it at each name
pub kept-at : {A : Type 0} (t : Option LiveObject → A) (x y : Name) (f : LiveObject → LiveObject) → ((o : LiveObject) → (f o).name ≡ o.name) → ((o : LiveObject) → t (Some (f o)) ≡ t (Some o)) → (os : List LiveObject) → t (object_at x (at_name y f os)) ≡ t (object_at x os)
kept-at t x y f k w os = go (is_same x y) refl (object_at x os) refl
  where
    go : (b : Bool) → is_same x y ≡ b → (o : Option LiveObject) → object_at x os ≡ o → t (object_at x (at_name y f os)) ≡ t (object_at x os)
    go false q o e = ap t (other-at x y f k q os)
    go true q (Some o) e =
        let r : y ≡ x = sym (same-is x y q) in
        let n : object_at x (at_name y f os) ≡ Some (f o) = subst (λ z. object_at x (at_name z f os) ≡ Some (f o)) (sym r) (edited-at x f os o k e) in
        ap t n ∙ w o ∙ sym (ap t e)
    go true q None e =
        let n : is_there y os ≡ false = ap (λ z. is_there z os) (sym (same-is x y q)) ∙ ap is_some e in
        ap (λ l. t (object_at x l)) (unchanged y f os n)

-- what holds it once more
pub raised-at : (x y : Name) (os : List LiveObject) → is_there y os ≡ true → holds_of (object_at x (at_name y raised os)) ≡ holds_of (object_at x os) + (if is_same x y then 1 else 0)
raised-at x y os e = go (is_same x y) refl (object_at y os) refl
  where
    go : (b : Bool) → is_same x y ≡ b → (t : Option LiveObject) → object_at y os ≡ t → holds_of (object_at x (at_name y raised os)) ≡ holds_of (object_at x os) + (if is_same x y then 1 else 0)
    go true q None s = let s' = ap is_some s in cc
    go true q (Some o) s =
        let r = same-is x y q in
        let a : holds_of (object_at x (at_name y raised os)) ≡ o.holds + 1 = ap (λ z. holds_of (object_at z (at_name y raised os))) r ∙ ap holds_of (edited-at y raised os o (λ u. refl) s) in
        let b : holds_of (object_at x os) ≡ o.holds = ap (λ z. holds_of (object_at z os)) r ∙ ap holds_of s in
        simp q (omega (arith, a, b))
    go false q t s = simp q (let a = ap holds_of (other-at x y raised (λ u. refl) q os) in omega (arith, a))

-- what lets it go once
pub lowered-at : (x y : Name) (os : List LiveObject) → 0 < holds_of (object_at y os) → holds_of (object_at x (at_name y lowered os)) + (if is_same x y then 1 else 0) ≡ holds_of (object_at x os)
lowered-at x y os h = go (is_same x y) refl (object_at y os) refl
  where
    go : (b : Bool) → is_same x y ≡ b → (t : Option LiveObject) → object_at y os ≡ t → holds_of (object_at x (at_name y lowered os)) + (if is_same x y then 1 else 0) ≡ holds_of (object_at x os)
    go true q None s = absurd (let s' = ap holds_of s in omega (arith, s', h))
    go true q (Some o) s =
        let r = same-is x y q in
        let a : holds_of (object_at x (at_name y lowered os)) ≡ o.holds - 1 = ap (λ z. holds_of (object_at z (at_name y lowered os))) r ∙ ap holds_of (edited-at y lowered os o (λ u. refl) s) in
        let b : holds_of (object_at x os) ≡ o.holds = ap (λ z. holds_of (object_at z os)) r ∙ ap holds_of s in
        let c = ap holds_of s in
        simp q (omega (arith, a, b, c, h))
    go false q t s = simp q (let a = ap holds_of (other-at x y lowered (λ u. refl) q os) in omega (arith, a))

-- a further object is found under its name, and the others as before
pub with-at : (o : LiveObject) (x : Name) (os : List LiveObject) → is_there o.name os ≡ false → object_at x (with_object o os) ≡ (if is_same x o.name then Some o else object_at x os)
with-at o x [] n = refl
with-at o x (p ∷ os) n = go (is_before o.name p.name) refl (λ t. with-at o x os t)
  where
    ahead : (b : Bool) → is_same o.name p.name ≡ b → is_there o.name os ≡ false × is_same o.name p.name ≡ false
    ahead true q = let n' = simp q at n in cc
    ahead false q = let n' = simp q at n in (n', q)

    go : (b : Bool) → is_before o.name p.name ≡ b → (is_there o.name os ≡ false → object_at x (with_object o os) ≡ (if is_same x o.name then Some o else object_at x os)) → object_at x (with_object o (p ∷ os)) ≡ (if is_same x o.name then Some o else object_at x (p ∷ os))
    go true q ih = simp q refl
    go false q ih = simp q (cases (is_same x p.name) refl)
      where
        t : (is_there o.name os ≡ false) × (is_same o.name p.name ≡ false)
        t = ahead (is_same o.name p.name) refl

        cases : (b : Bool) → is_same x p.name ≡ b → (if is_same x p.name then Some p else object_at x (with_object o os)) ≡ (if is_same x o.name then Some o else (if is_same x p.name then Some p else object_at x os))
        cases true r =
            let f : is_same x o.name ≡ false = subst (λ n. is_same n o.name ≡ false) (sym (same-is x p.name r)) (same-flip o.name p.name t.1) in
            simp (r, f) refl
        cases false r = simp r (ih t.0)

-- where one is taken out, the others are found as before
pub without-at : (x y : Name) (os : List LiveObject) → is_same x y ≡ false → object_at x (without_object y os) ≡ object_at x os
without-at x y [] d = refl
without-at x y (o ∷ os) d = go (is_same y o.name) refl (without-at x y os d)
  where
    go : (b : Bool) → is_same y o.name ≡ b → object_at x (without_object y os) ≡ object_at x os → object_at x (without_object y (o ∷ os)) ≡ object_at x (o ∷ os)
    go true q ih = let e : is_same x o.name ≡ false = subst (λ n. is_same x n ≡ false) (same-is y o.name q) d in simp (q, e) refl
    go false q ih = simp q (ap (λ t. if is_same x o.name then Some o else t) ih)
