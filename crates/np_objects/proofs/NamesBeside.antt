-- The names that stand beside the objects.
use Rattle.std.proofs.Common.{◌≡◌, ℕ, zero, suc, ◌<◌, ◌≤◌, List, [], ◌∷◌, length, map, get_or, true, false, refl, sym, ap, ◌∙◌, subst, arith}
use Rattle.std.proofs.Math.ListN.{set}
use Rattle.std.specs.List.{remove, insert}
use Rattle.std.specs.List.Sorted.{IsPartitionPoint, IsPartitionedBy}
use Rattle.std.proofs.lemmas.List.{get_or-map}
use Rattle.np_values.specs.declared.name.Name.{Name}
use Rattle.np_values.specs.Name.{is_before}
use Rattle.np_name_search.specs.Names.{itself}
use Rattle.np_objects.specs.declared.object.LiveObject.{LiveObject}
use Rattle.np_objects.specs.LiveObjects.{object_name, AreNamed, IsAt, is_there}
use Rattle.np_objects.proofs.Finding.{parted, default, edit-rising, hit-on, put-rising, rising-remove}

length-names : (es : List LiveObject) → length (map object_name es) ≡ length es
length-names [] = refl
length-names (e ∷ es) = let h = length-names es in omega (arith, h)

name-at : (es : List LiveObject) (k : ℕ) (y : Name) (d : LiveObject) → k < length es → get_or (map object_name es) k y ≡ (get_or es k d).name
name-at es k y d l = get_or-map object_name es k d y l

-- names that stand before another one are the first ones
pub are-parted : (x : Name) (ns : List Name) (es : List LiveObject) → AreNamed ns es → IsPartitionedBy (λ y. is_before (itself y) x) ns
are-parted x ns es h = subst (λ ys. IsPartitionedBy (λ y. is_before (itself y) x) ys) (sym h.same) of-map
  where
    of-map : IsPartitionedBy (λ y. is_before (itself y) x) (map object_name es)
    of-map i j y l m b =
        let k = length-names es in
        let n : j < length es = omega (arith, m, k) in
        ap (λ z. is_before z x) (name-at es i y (default y) (omega (arith, n, l))) ∙ parted x es i j (default y) h.rising l n (sym (ap (λ z. is_before z x) (name-at es j y (default y) n)) ∙ b)

-- what a search among the names says of the objects
pub parts-of : (x : Name) (ns : List Name) (es st : List LiveObject) (i : ℕ) → es ≡ st → AreNamed ns es → i ≤ length ns
    → IsPartitionPoint (λ y. is_before (itself y) x ≡ true) (λ y. is_before (itself y) x ≡ false) ns i
    → IsPartitionPoint (λ o. is_before o.name x ≡ true) (λ o. is_before o.name x ≡ false) st i
parts-of x ns es st i v h l parts = subst (λ os. IsPartitionPoint (λ o. is_before o.name x ≡ true) (λ o. is_before o.name x ≡ false) os i) v (low, high)
  where
    P : List Name → Type 0
    P ys = IsPartitionPoint (λ y. is_before (itself y) x ≡ true) (λ y. is_before (itself y) x ≡ false) ys i

    of-map : P (map object_name es)
    of-map = subst P h.same parts

    few : i ≤ length es
    few = let k = length-names es in let e = ap length h.same in omega (arith, k, e, l)

    low : (k : ℕ) (d : LiveObject) → 0 ≤ k → k < i → is_before (get_or es k d).name x ≡ true
    low k d a b = let f = few in ap (λ z. is_before z x) (sym (name-at es k d.name d (omega (arith, b, f)))) ∙ of-map.0 k d.name a b

    high : (k : ℕ) (d : LiveObject) → i ≤ k → k < length es → is_before (get_or es k d).name x ≡ false
    high k d a b = let f = length-names es in ap (λ z. is_before z x) (sym (name-at es k d.name d b)) ∙ of-map.1 k d.name a (omega (arith, b, f))

pub count-within : (ns : List Name) (es st : List LiveObject) (i : ℕ) → es ≡ st → AreNamed ns es → i ≤ length ns → i ≤ length st
count-within ns es st i v h l = let k = length-names es in let e = ap length h.same in let f = ap length v in omega (arith, k, e, f, l)

-- changes keep them the names

set-names : (es : List LiveObject) (i : ℕ) (d w : LiveObject) → w.name ≡ (get_or es i d).name → i < length es → map object_name (set es i w) ≡ map object_name es
set-names [] i d w q l = refl
set-names (e ∷ es) zero d w q l = ap (λ n. n ∷ map object_name es) q
set-names (e ∷ es) (suc i) d w q l = ap (λ ns. e.name ∷ ns) (set-names es i d w q (omega arith))

insert-names : (es : List LiveObject) (i : ℕ) (w : LiveObject) → map object_name (insert es i w) ≡ insert (map object_name es) i w.name
insert-names es zero w = refl
insert-names [] (suc i) w = refl
insert-names (e ∷ es) (suc i) w = ap (λ ns. e.name ∷ ns) (insert-names es i w)

remove-names : (es : List LiveObject) (i : ℕ) → map object_name (remove es i) ≡ remove (map object_name es) i
remove-names [] zero = refl
remove-names [] (suc i) = refl
remove-names (e ∷ es) zero = refl
remove-names (e ∷ es) (suc i) = ap (λ ns. e.name ∷ ns) (remove-names es i)

pub edit-named : (x : Name) (ns : List Name) (es xs : List LiveObject) (i : ℕ) (e w : LiveObject) → AreNamed ns es → xs ≡ es → IsAt x xs i → e ≡ get_or es i e → w.name ≡ e.name → AreNamed ns (set es i w)
edit-named x ns es xs i e w h q hit is t =
    let k = hit-on x xs es i q hit in
    record {
      rising = edit-rising x es xs i e w h.rising q hit is t;
      same = h.same ∙ sym (set-names es i e w (t ∙ ap (λ (u : LiveObject). u.name) is) k.within);
    }

pub put-named : (ns : List Name) (es st : List LiveObject) (i : ℕ) (w : LiveObject) → es ≡ st → AreNamed ns es → is_there w.name st ≡ false
    → IsPartitionPoint (λ o. is_before o.name w.name ≡ true) (λ o. is_before o.name w.name ≡ false) st i → i ≤ length st → AreNamed (insert ns i w.name) (insert es i w)
put-named ns es st i w v h n parts l = record {
  rising = put-rising es st st i w v h.rising (sym v) n parts.0 parts.1 l;
  same = ap (λ ys. insert ys i w.name) h.same ∙ sym (insert-names es i w);
}

pub gone-named : (ns : List Name) (es : List LiveObject) (i : ℕ) → AreNamed ns es → AreNamed (remove ns i) (remove es i)
gone-named ns es i h = record { rising = rising-remove es i h.rising; same = ap (λ ys. remove ys i) h.same ∙ sym (remove-names es i) }

-- a name that was put in and is taken out again
pub put-back : (ns : List Name) (i : ℕ) (x : Name) → i ≤ length ns → remove (insert ns i x) i ≡ ns
put-back ns zero x l = refl
put-back [] (suc i) x l = absurd (omega arith)
put-back (n ∷ ns) (suc i) x l = ap (λ ys. n ∷ ys) (put-back ns i x (omega arith))

pub parts-on : (x : Name) (es st : List LiveObject) (i : ℕ) → es ≡ st
    → IsPartitionPoint (λ o. is_before o.name x ≡ true) (λ o. is_before o.name x ≡ false) st i
    → IsPartitionPoint (λ o. is_before o.name x ≡ true) (λ o. is_before o.name x ≡ false) es i
parts-on x es st i v h = subst (λ os. IsPartitionPoint (λ o. is_before o.name x ≡ true) (λ o. is_before o.name x ≡ false) os i) (sym v) h
