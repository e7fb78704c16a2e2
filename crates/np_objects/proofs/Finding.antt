-- What a search among the entries finds, and what an edit there leaves.
use Rattle.std.proofs.Common.{◌≡◌, ℕ, zero, suc, ◌<◌, ◌≤◌, List, [], ◌∷◌, length, get_or, Bool, true, false, refl, sym, ap, ◌∙◌, subst, true≢false, arith, Option, Some, None, is_some}
use Rattle.std.specs.Prelude.{◌&&◌}
use Rattle.std.proofs.Math.ListN.{set}
use Rattle.std.specs.List.{remove, insert}
use Rattle.std.proofs.lemmas.List.{get_or_default}
use Rattle.np_values.specs.declared.name.Name.{Name}
use Rattle.np_values.specs.Name.{is_before}
use Rattle.np_values.specs.declared.value.Value.{Value}
use Rattle.np_idents.specs.declared.key.IdKey.{IdKey}
use Rattle.np_objects.specs.declared.object.LiveObject.{LiveObject}
use Rattle.np_objects.specs.LiveObjects.{is_same, object_at, is_there, at_name, with_object, without_object, are_after, is_rising, IsAt, holds_of}
use Rattle.np_objects.proofs.Names.{and_parts, same-is, same-refl, before-trans, before-total, before-apart, before-not, same-flip, differ, same}

pub and_both : (a b : Bool) → a ≡ true → b ≡ true → (a && b) ≡ true
and_both a b e f = simp (e, f) refl

after-at : (x : Name) (es : List LiveObject) (j : ℕ) (d : LiveObject) → are_after x es ≡ true → j < length es → is_before x (get_or es j d).name ≡ true
after-at x [] j d r l = absurd (omega arith)
after-at x (e ∷ es) zero d r l = (and_parts (is_before x e.name) (are_after x es) r).0
after-at x (e ∷ es) (suc j) d r l = after-at x es j d (and_parts (is_before x e.name) (are_after x es) r).1 (omega arith)

after-trans : (x y : Name) (es : List LiveObject) → is_before x y ≡ true → are_after y es ≡ true → are_after x es ≡ true
after-trans x y [] b r = refl
after-trans x y (e ∷ es) b r =
    let h = and_parts (is_before y e.name) (are_after y es) r in
    and_both (is_before x e.name) (are_after x es) (before-trans x y e.name b h.0) (after-trans x y es b h.1)

-- the entries before a name are the first ones
pub parted : (x : Name) (es : List LiveObject) (i j : ℕ) (d : LiveObject) → is_rising es ≡ true → i ≤ j → j < length es → is_before (get_or es j d).name x ≡ true → is_before (get_or es i d).name x ≡ true
parted x [] i j d r l m b = absurd (omega arith)
parted x (e ∷ es) zero zero d r l m b = b
parted x (e ∷ es) zero (suc j) d r l m b =
    let h = and_parts (are_after e.name es) (is_rising es) r in
    before-trans e.name (get_or es j d).name x (after-at e.name es j d h.0 (omega arith)) b
parted x (e ∷ es) (suc i) zero d r l m b = absurd (omega arith)
parted x (e ∷ es) (suc i) (suc j) d r l m b =
    parted x es i j d (and_parts (are_after e.name es) (is_rising es) r).1 (omega arith) (omega arith) b

none-after : (x : Name) (es : List LiveObject) → are_after x es ≡ true → is_there x es ≡ false
none-after x [] r = refl
none-after x (e ∷ es) r =
    let h = and_parts (is_before x e.name) (are_after x es) r in
    simp (before-apart x e.name h.0) (none-after x es h.1)

-- no entry has the name
pub missing : (x : Name) (es : List LiveObject) (i : ℕ) → is_rising es ≡ true → ((k : ℕ) (d : LiveObject) → 0 ≤ k → k < i → is_before (get_or es k d).name x ≡ true) → ((k : ℕ) (d : LiveObject) → i ≤ k → k < length es → is_before (get_or es k d).name x ≡ false) → ((d : LiveObject) → i < length es → (get_or es i d).name ≡ x → ⊥) → is_there x es ≡ false
missing x [] i r low high n = refl
missing x (e ∷ es) zero r low high n =
    let h = and_parts (are_after e.name es) (is_rising es) r in
    let f : is_before e.name x ≡ false = high 0 e (omega arith) (omega arith) in
    let g : is_same e.name x ≡ false = differ e.name x (λ q. n e (omega arith) q) in
    none-after x (e ∷ es) (let b = before-total e.name x f g in and_both (is_before x e.name) (are_after x es) b (after-trans x e.name es b h.0))
missing x (e ∷ es) (suc i) r low high n =
    let h = and_parts (are_after e.name es) (is_rising es) r in
    let b : is_before e.name x ≡ true = low 0 e (omega arith) (omega arith) in
    simp (same-flip e.name x (before-apart e.name x b)) (missing x es i h.1 (λ k d p q. low (suc k) d (omega arith) (omega arith)) (λ k d p q. high (suc k) d (omega arith) (omega arith)) (λ d l q. n d (omega arith) q))

-- the earlier entries have other names
earlier : (x : Name) (e : LiveObject) (es : List LiveObject) (i : ℕ) (d : LiveObject) → is_rising (e ∷ es) ≡ true → i < length es → (get_or es i d).name ≡ x → is_same x e.name ≡ false
earlier x e es i d r l q =
    let h = and_parts (are_after e.name es) (is_rising es) r in
    let b = after-at e.name es i d h.0 l in
    same-flip e.name x (subst (λ n. is_same e.name n ≡ false) q (before-apart e.name (get_or es i d).name b))

-- the entry that stands there is what is looked up
pub looked_up : (x : Name) (es : List LiveObject) (i : ℕ) (d : LiveObject) → is_rising es ≡ true → i < length es → (get_or es i d).name ≡ x → object_at x es ≡ Some (get_or es i d)
looked_up x [] i d r l q = absurd (omega arith)
looked_up x (e ∷ es) zero d r l q = simp (same x e.name (sym q)) refl
looked_up x (e ∷ es) (suc i) d r l q =
    let h = and_parts (are_after e.name es) (is_rising es) r in
    simp (earlier x e es i d r (omega arith) q) (looked_up x es i d h.1 (omega arith) q)

-- an entry that is written there
pub written : (x : Name) (f : LiveObject → LiveObject) (es : List LiveObject) (i : ℕ) (d w : LiveObject) → is_rising es ≡ true → i < length es → (get_or es i d).name ≡ x → w ≡ f (get_or es i d) → set es i w ≡ at_name x f es
written x f [] i d w r l q t = absurd (omega arith)
written x f (e ∷ es) zero d w r l q t = simp (same x e.name (sym q)) (ap (λ o. o ∷ es) t)
written x f (e ∷ es) (suc i) d w r l q t =
    let h = and_parts (are_after e.name es) (is_rising es) r in
    simp (earlier x e es i d r (omega arith) q) (ap (λ l. e ∷ l) (written x f es i d w h.1 (omega arith) q t))

after-set : (y : Name) (es : List LiveObject) (i : ℕ) (d w : LiveObject) → w.name ≡ (get_or es i d).name → i < length es → are_after y (set es i w) ≡ are_after y es
after-set y [] i d w q l = refl
after-set y (e ∷ es) zero d w q l = ap (λ n. is_before y n && are_after y es) q
after-set y (e ∷ es) (suc i) d w q l = ap (λ b. is_before y e.name && b) (after-set y es i d w q (omega arith))

pub rising-set : (es : List LiveObject) (i : ℕ) (d w : LiveObject) → w.name ≡ (get_or es i d).name → i < length es → is_rising es ≡ true → is_rising (set es i w) ≡ true
rising-set [] i d w q l r = r
rising-set (e ∷ es) zero d w q l r = subst (λ n. (are_after n es && is_rising es) ≡ true) (sym q) r
rising-set (e ∷ es) (suc i) d w q l r =
    let h = and_parts (are_after e.name es) (is_rising es) r in
    and_both (are_after e.name (set es i w)) (is_rising (set es i w)) (after-set e.name es i d w q (omega arith) ∙ h.0) (rising-set es i d w q (omega arith) h.1)

-- nothing is there, so nothing changes
pub unchanged : (x : Name) (f : LiveObject → LiveObject) (st : List LiveObject) → is_there x st ≡ false → at_name x f st ≡ st
unchanged x f [] e = refl
unchanged x f (o ∷ os) e = go (is_same x o.name) refl (λ d. unchanged x f os d)
  where
    go : (b : Bool) → is_same x o.name ≡ b → (is_there x os ≡ false → at_name x f os ≡ os) → at_name x f (o ∷ os) ≡ o ∷ os
    go true q ih = let e' = simp q at e in cc
    go false q ih = let e' = simp q at e in simp q (ap (λ l. o ∷ l) (ih e'))

-- an entry that is put at its place
after-insert : (y : Name) (es : List LiveObject) (i : ℕ) (w : LiveObject) → is_before y w.name ≡ true → are_after y es ≡ true → are_after y (insert es i w) ≡ true
after-insert y es zero w b r = and_both (is_before y w.name) (are_after y es) b r
after-insert y [] (suc i) w b r = and_both (is_before y w.name) true b refl
after-insert y (e ∷ es) (suc i) w b r =
    let h = and_parts (is_before y e.name) (are_after y es) r in
    and_both (is_before y e.name) (are_after y (insert es i w)) h.0 (after-insert y es i w b h.1)

not-there : (x : Name) (e : LiveObject) (es : List LiveObject) → is_there x ((e ∷ es)) ≡ false → (is_same x e.name ≡ false) × (is_there x es ≡ false)
not-there x e es n = go (is_same x e.name) refl
  where
    go : (b : Bool) → is_same x e.name ≡ b → (is_same x e.name ≡ false) × (is_there x es ≡ false)
    go true q = let e' = simp q at n in cc
    go false q = let e' = simp q at n in (q, e')

pub inserted : (es : List LiveObject) (i : ℕ) (w : LiveObject) → is_rising es ≡ true → is_there w.name es ≡ false → ((k : ℕ) (d : LiveObject) → 0 ≤ k → k < i → is_before (get_or es k d).name w.name ≡ true) → ((k : ℕ) (d : LiveObject) → i ≤ k → k < length es → is_before (get_or es k d).name w.name ≡ false) → i ≤ length es → (insert es i w ≡ with_object w es) × (is_rising (insert es i w) ≡ true)
inserted [] zero w r n low high l = (refl, refl)
inserted [] (suc i) w r n low high l = absurd (omega arith)
inserted (e ∷ es) zero w r n low high l =
    let h = and_parts (are_after e.name es) (is_rising es) r in
    let t = not-there w.name e es n in
    let b = before-total e.name w.name (high 0 w (omega arith) (omega arith)) (same-flip w.name e.name t.0) in
    (simp b refl, and_both (are_after w.name (e ∷ es)) (is_rising (e ∷ es)) (and_both (is_before w.name e.name) (are_after w.name es) b (after-trans w.name e.name es b h.0)) r)
inserted (e ∷ es) (suc i) w r n low high l =
    let h = and_parts (are_after e.name es) (is_rising es) r in
    let t = not-there w.name e es n in
    let b : is_before e.name w.name ≡ true = low 0 w (omega arith) (omega arith) in
    let s = inserted es i w h.1 t.1 (λ k d p q. low (suc k) d (omega arith) (omega arith)) (λ k d p q. high (suc k) d (omega arith) (omega arith)) (omega arith) in
    (simp (before-not e.name w.name b) (ap (λ l. e ∷ l) s.0), and_both (are_after e.name (insert es i w)) (is_rising (insert es i w)) (after-insert e.name es i w b h.0) s.1)

-- an entry that goes
pub gone : (x : Name) (es : List LiveObject) (i : ℕ) (d : LiveObject) → is_rising es ≡ true → i < length es → (get_or es i d).name ≡ x → remove es i ≡ without_object x es
gone x [] i d r l q = absurd (omega arith)
gone x (e ∷ es) zero d r l q = simp (same x e.name (sym q)) refl
gone x (e ∷ es) (suc i) d r l q =
    let h = and_parts (are_after e.name es) (is_rising es) r in
    simp (earlier x e es i d r (omega arith) q) (ap (λ l. e ∷ l) (gone x es i d h.1 (omega arith) q))

after-remove : (y : Name) (es : List LiveObject) (i : ℕ) → are_after y es ≡ true → are_after y (remove es i) ≡ true
after-remove y [] i r = empty i
  where
    empty : (i : ℕ) → are_after y (remove [] i) ≡ true
    empty zero = refl
    empty (suc i) = refl
after-remove y (e ∷ es) zero r = (and_parts (is_before y e.name) (are_after y es) r).1
after-remove y (e ∷ es) (suc i) r =
    let h = and_parts (is_before y e.name) (are_after y es) r in
    and_both (is_before y e.name) (are_after y (remove es i)) h.0 (after-remove y es i h.1)

pub rising-remove : (es : List LiveObject) (i : ℕ) → is_rising es ≡ true → is_rising (remove es i) ≡ true
rising-remove [] i r = empty i
  where
    empty : (i : ℕ) → is_rising (remove [] i) ≡ true
    empty zero = refl
    empty (suc i) = refl
rising-remove (e ∷ es) zero r = (and_parts (are_after e.name es) (is_rising es) r).1
rising-remove (e ∷ es) (suc i) r =
    let h = and_parts (are_after e.name es) (is_rising es) r in
    and_both (are_after e.name (remove es i)) (is_rising (remove es i)) (after-remove e.name es i h.0) (rising-remove es i h.1)

-- neither stands before the other
pub neither : (x y : Name) → is_before y x ≡ false → is_before x y ≡ false → y ≡ x
neither x y a b = go (is_same y x) refl
  where
    go : (c : Bool) → is_same y x ≡ c → y ≡ x
    go true q = same-is y x q
    go false q = absurd (let t = before-total y x a q in cc)

pub hit_there : (x : Name) (es : List LiveObject) (i : ℕ) (e : LiveObject) → ((k : ℕ) (d : LiveObject) → i ≤ k → k < length es → is_before (get_or es k d).name x ≡ false) → i < length es → e ≡ get_or es i e → false ≡ is_before x (get_or es i e).name → IsAt x es i
hit_there x es i e high l is b = record {
  within = l;
  is = λ d. ap (λ (u : LiveObject). u.name) (get_or_default es i d e l ∙ sym is) ∙ neither x e.name (ap (λ (u : LiveObject). is_before u.name x) is ∙ high i e (omega arith) l) (sym (b ∙ ap (λ (u : LiveObject). is_before x u.name) (sym is)));
}

pub not_there : (x : Name) (es : List LiveObject) (i : ℕ) (e : LiveObject) → is_rising es ≡ true → ((k : ℕ) (d : LiveObject) → 0 ≤ k → k < i → is_before (get_or es k d).name x ≡ true) → ((k : ℕ) (d : LiveObject) → i ≤ k → k < length es → is_before (get_or es k d).name x ≡ false) → i < length es → e ≡ get_or es i e → true ≡ is_before x (get_or es i e).name → is_there x es ≡ false
not_there x es i e r low high l is b =
    missing x es i r low high (λ d m q. let f = same-flip x e.name (before-not' x e.name (sym (b ∙ ap (λ (u : LiveObject). is_before x u.name) (sym is)))) in let g = same e.name x (ap (λ (u : LiveObject). u.name) (is ∙ get_or_default es i e d l) ∙ q) in cc)
  where
    before-not' : (x y : Name) → is_before x y ≡ true → is_same x y ≡ false
    before-not' x y b = before-apart x y b

-- the place of a name that is there is the number of names before it
pub there_at : (x : Name) (es : List LiveObject) (i : ℕ) → is_rising es ≡ true → is_there x es ≡ true → ((k : ℕ) (d : LiveObject) → 0 ≤ k → k < i → is_before (get_or es k d).name x ≡ true) → ((k : ℕ) (d : LiveObject) → i ≤ k → k < length es → is_before (get_or es k d).name x ≡ false) → IsAt x es i
there_at x [] i r t low high = cc
there_at x (e ∷ es) zero r t low high = go (is_same x e.name) refl
  where
    h : (are_after e.name es ≡ true) × (is_rising es ≡ true)
    h = and_parts (are_after e.name es) (is_rising es) r

    go : (b : Bool) → is_same x e.name ≡ b → IsAt x (e ∷ es) zero
    go true q = record { within = omega arith; is = λ d. sym (same-is x e.name q) }
    go false q =
        let b = before-total e.name x (high 0 e (omega arith) (omega arith)) (same-flip x e.name q) in
        let n = none-after x (e ∷ es) (and_both (is_before x e.name) (are_after x es) b (after-trans x e.name es b h.0)) in
        absurd (true≢false (sym t ∙ n))
there_at x (e ∷ es) (suc i) r t low high =
    let h = and_parts (are_after e.name es) (is_rising es) r in
    let b : is_before e.name x ≡ true = low 0 e (omega arith) (omega arith) in
    let q = same-flip e.name x (before-apart e.name x b) in
    let t' : is_there x es ≡ true = simp q at t in
    let s = there_at x es i h.1 t' (λ k d p l. low (suc k) d (omega arith) (omega arith)) (λ k d p l. high (suc k) d (omega arith) (omega arith)) in
    record { within = omega (arith, s.within); is = λ d. s.is d }

-- ---- what the code's edits leave

pub hit-on : (x : Name) (xs es : List LiveObject) (i : ℕ) → xs ≡ es → IsAt x xs i → IsAt x es i
hit-on x xs es i e h = subst (λ l. IsAt x l i) e h

at-hit : (x : Name) (xs es : List LiveObject) (i : ℕ) (e : LiveObject) → xs ≡ es → IsAt x xs i → e ≡ get_or es i e → e.name ≡ x
at-hit x xs es i e q h is = ap (λ (t : LiveObject). t.name) is ∙ (hit-on x xs es i q h).is e

pub edit-view : (x : Name) (f : LiveObject → LiveObject) (es xs : List LiveObject) (st : List LiveObject) (i : ℕ) (e w : LiveObject) → es ≡ st → is_rising es ≡ true → xs ≡ es → IsAt x xs i → e ≡ get_or es i e → w ≡ f e → set es i w ≡ at_name x f st
edit-view x f es xs st i e w v r q h is t =
    let k = hit-on x xs es i q h in
    written x f es i e w r k.within (k.is e) (t ∙ ap (λ (u : LiveObject). f u) is) ∙ ap (λ l. at_name x f l) v

pub edit-rising : (x : Name) (es xs : List LiveObject) (i : ℕ) (e w : LiveObject) → is_rising es ≡ true → xs ≡ es → IsAt x xs i → e ≡ get_or es i e → w.name ≡ e.name → is_rising (set es i w) ≡ true
edit-rising x es xs i e w r q h is t =
    let k = hit-on x xs es i q h in
    rising-set es i e w (t ∙ ap (λ (u : LiveObject). u.name) is) k.within r

pub hit-seen : (x : Name) (es xs : List LiveObject) (st : List LiveObject) (i : ℕ) (e : LiveObject) → es ≡ st → is_rising es ≡ true → xs ≡ es → IsAt x xs i → e ≡ get_or es i e → object_at x st ≡ Some e
hit-seen x es xs st i e v r q h is =
    let k = hit-on x xs es i q h in
    ap (λ l. object_at x l) (sym v) ∙ looked_up x es i e r k.within (k.is e) ∙ ap (λ (u : LiveObject). Some u) (sym is)

pub missed : (x : Name) (es xs : List LiveObject) (st : List LiveObject) → es ≡ st → xs ≡ es → is_there x xs ≡ false → is_there x st ≡ false
missed x es xs st v q m = ap (λ l. is_there x l) (sym (q ∙ v)) ∙ m

-- an edited object is looked up
pub edited-at : (x : Name) (f : LiveObject → LiveObject) (st : List LiveObject) (o : LiveObject) → ((o : LiveObject) → (f o).name ≡ o.name) → object_at x st ≡ Some o → object_at x (at_name x f st) ≡ Some (f o)
edited-at x f [] o k e = cc
edited-at x f (p ∷ os) o k e = go (is_same x p.name) refl (λ d. edited-at x f os o k d)
  where
    go : (b : Bool) → is_same x p.name ≡ b → (object_at x os ≡ Some o → object_at x (at_name x f os) ≡ Some (f o)) → object_at x (at_name x f (p ∷ os)) ≡ Some (f o)
    go true q ih =
        let e' = simp q at e in
        let r : is_same x (f p).name ≡ true = ap (λ n. is_same x n) (k p) ∙ q in
        let t : Some p ≡ Some o = e' in
        simp (q, r) (ap (λ u. some_f u) t)
      where
        some_f : Option LiveObject → Option LiveObject
        some_f None = None
        some_f (Some u) = Some (f u)
    go false q ih = let e' = simp q at e in simp q (ih e')

put : (es xs : List LiveObject) (st : List LiveObject) (i : ℕ) (w : LiveObject) → es ≡ st → is_rising es ≡ true → xs ≡ es → is_there w.name st ≡ false → ((k : ℕ) (d : LiveObject) → 0 ≤ k → k < i → is_before (get_or xs k d).name w.name ≡ true) → ((k : ℕ) (d : LiveObject) → i ≤ k → k < length xs → is_before (get_or xs k d).name w.name ≡ false) → i ≤ length xs → (insert es i w ≡ with_object w st) × (is_rising (insert es i w) ≡ true)
put es xs st i w v r q n low high l =
    let m : length xs ≡ length es = ap length q in
    let t = inserted es i w r (ap (λ s. is_there w.name s) v ∙ n) (λ k d a b. subst (λ s. is_before (get_or s k d).name w.name ≡ true) q (low k d a b)) (λ k d a b. subst (λ s. is_before (get_or s k d).name w.name ≡ false) q (high k d a (omega arith))) (omega arith) in
    (t.0 ∙ ap (λ s. with_object w s) v, t.1)

pub put-view : (es xs : List LiveObject) (st : List LiveObject) (i : ℕ) (w : LiveObject) → es ≡ st → is_rising es ≡ true → xs ≡ es → is_there w.name st ≡ false → ((k : ℕ) (d : LiveObject) → 0 ≤ k → k < i → is_before (get_or xs k d).name w.name ≡ true) → ((k : ℕ) (d : LiveObject) → i ≤ k → k < length xs → is_before (get_or xs k d).name w.name ≡ false) → i ≤ length xs → insert es i w ≡ with_object w st
put-view es xs st i w v r q n low high l = (put es xs st i w v r q n low high l).0

pub put-rising : (es xs : List LiveObject) (st : List LiveObject) (i : ℕ) (w : LiveObject) → es ≡ st → is_rising es ≡ true → xs ≡ es → is_there w.name st ≡ false → ((k : ℕ) (d : LiveObject) → 0 ≤ k → k < i → is_before (get_or xs k d).name w.name ≡ true) → ((k : ℕ) (d : LiveObject) → i ≤ k → k < length xs → is_before (get_or xs k d).name w.name ≡ false) → i ≤ length xs → is_rising (insert es i w) ≡ true
put-rising es xs st i w v r q n low high l = (put es xs st i w v r q n low high l).1

pub gone-view : (x : Name) (es xs st : List LiveObject) (i : ℕ) → es ≡ st → is_rising es ≡ true → xs ≡ es → IsAt x xs i → (d : LiveObject) → remove es i ≡ without_object x st
gone-view x es xs st i v r q h d =
    let k = hit-on x xs es i q h in
    gone x es i d r k.within (k.is d) ∙ ap (λ l. without_object x l) v

pub kept : (x : Name) (st : List LiveObject) → is_there x st ≡ false → st ≡ without_object x st
kept x [] e = refl
kept x (o ∷ os) e =
    let t = not-there x o os e in
    simp t.0 (ap (λ l. o ∷ l) (kept x os t.1))

gone-there : (x : Name) (es : List LiveObject) (i : ℕ) (d : LiveObject) → is_rising es ≡ true → i < length es → (get_or es i d).name ≡ x → is_there x (remove es i) ≡ false
gone-there x [] i d r l q = absurd (omega arith)
gone-there x (e ∷ es) zero d r l q =
    let h = and_parts (are_after e.name es) (is_rising es) r in
    none-after x es (subst (λ n. are_after n es ≡ true) q h.0)
gone-there x (e ∷ es) (suc i) d r l q =
    let h = and_parts (are_after e.name es) (is_rising es) r in
    simp (earlier x e es i d r (omega arith) q) (gone-there x es i d h.1 (omega arith) q)

pub gone-is : (x : Name) (es xs : List LiveObject) (i : ℕ) → is_rising es ≡ true → xs ≡ es → IsAt x xs i → (d : LiveObject) → is_there x (remove es i) ≡ false
gone-is x es xs i r q h d =
    let k = hit-on x xs es i q h in gone-there x es i d r k.within (k.is d)

pub default : Name → LiveObject
default x = record { name = x; class = 0; fields = []; holds = 0; pinned = false }

pub hit-there-is : (x : Name) (es xs st : List LiveObject) (i : ℕ) → es ≡ st → is_rising es ≡ true → xs ≡ es → IsAt x xs i → is_there x st ≡ true
hit-there-is x es xs st i v r q h =
    let k = hit-on x xs es i q h in
    ap (λ l. is_there x l) (sym v) ∙ ap is_some (looked_up x es i (default x) r k.within (k.is (default x)))

-- a new object is looked up
pub put-seen : (w : LiveObject) (st : List LiveObject) → is_there w.name st ≡ false → object_at w.name (with_object w st) ≡ Some w
put-seen w [] n = simp (same-refl w.name) refl
put-seen w (o ∷ os) n = go (is_before w.name o.name) refl (put-seen w os)
  where
    t : (is_same w.name o.name ≡ false) × (is_there w.name os ≡ false)
    t = not-there w.name o os n

    go : (b : Bool) → is_before w.name o.name ≡ b → (is_there w.name os ≡ false → object_at w.name (with_object w os) ≡ Some w) → object_at w.name (with_object w (o ∷ os)) ≡ Some w
    go true q ih = simp (q, same-refl w.name) refl
    go false q ih = simp (q, t.0) (ih t.1)

-- what is held is there
pub held-there : (x : Name) (st : List LiveObject) → 0 < holds_of (object_at x st) → is_there x st ≡ true
held-there x st h = go (object_at x st) refl
  where
    go : (t : Option LiveObject) → object_at x st ≡ t → is_there x st ≡ true
    go None q = absurd (let e = ap holds_of q in omega (arith, e, h))
    go (Some o) q = ap is_some q

-- an object whose fields are written
abbrev pub with_fields : LiveObject → List (IdKey × Value) → LiveObject
with_fields o fs = record o { fields = fs }
