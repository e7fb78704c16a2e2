-- What a search among rising entries finds, and what an edit there leaves.
use Rattle.std.proofs.Common.{◌≡◌, ℕ, zero, suc, ◌<◌, ◌≤◌, List, [], ◌∷◌, length, get_or, Bool, true, false, refl, sym, ap, ◌∙◌, subst, arith, Option, Some, None}
use Rattle.std.specs.Prelude.{◌&&◌, is_some}
use Rattle.std.proofs.Math.ListN.{set}
use Rattle.std.specs.List.{remove, insert, filter}
use Rattle.std.proofs.lemmas.List.{get_or_default}
use Rattle.np_values.specs.declared.name.Name.{Name}
use Rattle.np_values.specs.Name.{is_before}
use Rattle.np_proxy.specs.Named.{is_same, named_at, is_there, at_name, with_named, without_named, all_after, is_rising, IsAt}
use Rattle.np_proxy.proofs.Names.{and_parts, and_both, before-trans, before-total, before-apart, before-not, same-flip, differ, same, same-is}

module _ {X : Type 0} (name : X → Name) where
  after-at : (x : Name) (es : List X) (j : ℕ) (d : X) → all_after name x es ≡ true → j < length es → is_before x (name (get_or es j d)) ≡ true
  after-at x [] j d r l = absurd (omega arith)
  after-at x (e ∷ es) zero d r l = (and_parts (is_before x (name e)) (all_after name x es) r).0
  after-at x (e ∷ es) (suc j) d r l = after-at x es j d (and_parts (is_before x (name e)) (all_after name x es) r).1 (omega arith)

  after-trans : (x y : Name) (es : List X) → is_before x y ≡ true → all_after name y es ≡ true → all_after name x es ≡ true
  after-trans x y [] b r = refl
  after-trans x y (e ∷ es) b r =
      let h = and_parts (is_before y (name e)) (all_after name y es) r in
      and_both (is_before x (name e)) (all_after name x es) (before-trans x y (name e) b h.0) (after-trans x y es b h.1)

  -- the entries before a name are the first ones
  pub parted : (x : Name) (es : List X) (i j : ℕ) (d : X) → is_rising name es ≡ true → i ≤ j → j < length es → is_before (name (get_or es j d)) x ≡ true → is_before (name (get_or es i d)) x ≡ true
  parted x [] i j d r l m b = absurd (omega arith)
  parted x (e ∷ es) zero zero d r l m b = b
  parted x (e ∷ es) zero (suc j) d r l m b =
      let h = and_parts (all_after name (name e) es) (is_rising name es) r in
      before-trans (name e) (name (get_or es j d)) x (after-at (name e) es j d h.0 (omega arith)) b
  parted x (e ∷ es) (suc i) zero d r l m b = absurd (omega arith)
  parted x (e ∷ es) (suc i) (suc j) d r l m b =
      parted x es i j d (and_parts (all_after name (name e) es) (is_rising name es) r).1 (omega arith) (omega arith) b

  pub none-after : (x : Name) (es : List X) → all_after name x es ≡ true → is_there name x es ≡ false
  none-after x [] r = refl
  none-after x (e ∷ es) r =
      let h = and_parts (is_before x (name e)) (all_after name x es) r in
      simp (before-apart x (name e) h.0) (none-after x es h.1)

  -- no entry has the name
  pub missing : (x : Name) (es : List X) (i : ℕ) → is_rising name es ≡ true → ((k : ℕ) (d : X) → 0 ≤ k → k < i → is_before (name (get_or es k d)) x ≡ true) → ((k : ℕ) (d : X) → i ≤ k → k < length es → is_before (name (get_or es k d)) x ≡ false) → ((d : X) → i < length es → (name (get_or es i d)) ≡ x → ⊥) → is_there name x es ≡ false
  missing x [] i r low high n = refl
  missing x (e ∷ es) zero r low high n =
      let h = and_parts (all_after name (name e) es) (is_rising name es) r in
      let f : is_before (name e) x ≡ false = high 0 e (omega arith) (omega arith) in
      let g : is_same (name e) x ≡ false = differ (name e) x (λ q. n e (omega arith) q) in
      none-after x (e ∷ es) (let b = before-total (name e) x f g in and_both (is_before x (name e)) (all_after name x es) b (after-trans x (name e) es b h.0))
  missing x (e ∷ es) (suc i) r low high n =
      let h = and_parts (all_after name (name e) es) (is_rising name es) r in
      let b : is_before (name e) x ≡ true = low 0 e (omega arith) (omega arith) in
      simp (same-flip (name e) x (before-apart (name e) x b)) (missing x es i h.1 (λ k d p q. low (suc k) d (omega arith) (omega arith)) (λ k d p q. high (suc k) d (omega arith) (omega arith)) (λ d l q. n d (omega arith) q))

  -- the earlier entries have other names
  earlier : (x : Name) (e : X) (es : List X) (i : ℕ) (d : X) → is_rising name (e ∷ es) ≡ true → i < length es → (name (get_or es i d)) ≡ x → is_same x (name e) ≡ false
  earlier x e es i d r l q =
      let h = and_parts (all_after name (name e) es) (is_rising name es) r in
      let b = after-at (name e) es i d h.0 l in
      same-flip (name e) x (subst (λ n. is_same (name e) n ≡ false) q (before-apart (name e) (name (get_or es i d)) b))

  -- the entry that stands there is what is looked up
  pub looked_up : (x : Name) (es : List X) (i : ℕ) (d : X) → is_rising name es ≡ true → i < length es → (name (get_or es i d)) ≡ x → named_at name x es ≡ Some (get_or es i d)
  looked_up x [] i d r l q = absurd (omega arith)
  looked_up x (e ∷ es) zero d r l q = simp (same x (name e) (sym q)) refl
  looked_up x (e ∷ es) (suc i) d r l q =
      let h = and_parts (all_after name (name e) es) (is_rising name es) r in
      simp (earlier x e es i d r (omega arith) q) (looked_up x es i d h.1 (omega arith) q)

  -- an entry that is written there
  pub written : (x : Name) (f : X → X) (es : List X) (i : ℕ) (d w : X) → is_rising name es ≡ true → i < length es → (name (get_or es i d)) ≡ x → w ≡ f (get_or es i d) → set es i w ≡ at_name name x f es
  written x f [] i d w r l q t = absurd (omega arith)
  written x f (e ∷ es) zero d w r l q t = simp (same x (name e) (sym q)) (ap (λ o. o ∷ es) t)
  written x f (e ∷ es) (suc i) d w r l q t =
      let h = and_parts (all_after name (name e) es) (is_rising name es) r in
      simp (earlier x e es i d r (omega arith) q) (ap (λ l. e ∷ l) (written x f es i d w h.1 (omega arith) q t))

  after-set : (y : Name) (es : List X) (i : ℕ) (d w : X) → (name w) ≡ (name (get_or es i d)) → i < length es → all_after name y (set es i w) ≡ all_after name y es
  after-set y [] i d w q l = refl
  after-set y (e ∷ es) zero d w q l = ap (λ n. is_before y n && all_after name y es) q
  after-set y (e ∷ es) (suc i) d w q l = ap (λ b. is_before y (name e) && b) (after-set y es i d w q (omega arith))

  pub rising-set : (es : List X) (i : ℕ) (d w : X) → (name w) ≡ (name (get_or es i d)) → i < length es → is_rising name es ≡ true → is_rising name (set es i w) ≡ true
  rising-set [] i d w q l r = r
  rising-set (e ∷ es) zero d w q l r = subst (λ n. (all_after name n es && is_rising name es) ≡ true) (sym q) r
  rising-set (e ∷ es) (suc i) d w q l r =
      let h = and_parts (all_after name (name e) es) (is_rising name es) r in
      and_both (all_after name (name e) (set es i w)) (is_rising name (set es i w)) (after-set (name e) es i d w q (omega arith) ∙ h.0) (rising-set es i d w q (omega arith) h.1)

  -- nothing is there, so nothing changes
  pub unchanged : (x : Name) (f : X → X) (st : List X) → is_there name x st ≡ false → at_name name x f st ≡ st
  unchanged x f [] e = refl
  unchanged x f (o ∷ os) e = go (is_same x (name o)) refl (λ d. unchanged x f os d)
    where
      go : (b : Bool) → is_same x (name o) ≡ b → (is_there name x os ≡ false → at_name name x f os ≡ os) → at_name name x f (o ∷ os) ≡ o ∷ os
      go true q ih = let e' = simp q at e in cc
      go false q ih = let e' = simp q at e in simp q (ap (λ l. o ∷ l) (ih e'))

  -- an entry that is put at its place
  after-insert : (y : Name) (es : List X) (i : ℕ) (w : X) → is_before y (name w) ≡ true → all_after name y es ≡ true → all_after name y (insert es i w) ≡ true
  after-insert y es zero w b r = and_both (is_before y (name w)) (all_after name y es) b r
  after-insert y [] (suc i) w b r = and_both (is_before y (name w)) true b refl
  after-insert y (e ∷ es) (suc i) w b r =
      let h = and_parts (is_before y (name e)) (all_after name y es) r in
      and_both (is_before y (name e)) (all_after name y (insert es i w)) h.0 (after-insert y es i w b h.1)

  pub not-there : (x : Name) (e : X) (es : List X) → is_there name x ((e ∷ es)) ≡ false → (is_same x (name e) ≡ false) × (is_there name x es ≡ false)
  not-there x e es n = go (is_same x (name e)) refl
    where
      go : (b : Bool) → is_same x (name e) ≡ b → (is_same x (name e) ≡ false) × (is_there name x es ≡ false)
      go true q = let e' = simp q at n in cc
      go false q = let e' = simp q at n in (q, e')

  pub inserted : (es : List X) (i : ℕ) (w : X) → is_rising name es ≡ true → is_there name (name w) es ≡ false → ((k : ℕ) (d : X) → 0 ≤ k → k < i → is_before (name (get_or es k d)) (name w) ≡ true) → ((k : ℕ) (d : X) → i ≤ k → k < length es → is_before (name (get_or es k d)) (name w) ≡ false) → i ≤ length es → (insert es i w ≡ with_named name w es) × (is_rising name (insert es i w) ≡ true)
  inserted [] zero w r n low high l = (refl, refl)
  inserted [] (suc i) w r n low high l = absurd (omega arith)
  inserted (e ∷ es) zero w r n low high l =
      let h = and_parts (all_after name (name e) es) (is_rising name es) r in
      let t = not-there (name w) e es n in
      let b = before-total (name e) (name w) (high 0 w (omega arith) (omega arith)) (same-flip (name w) (name e) t.0) in
      (simp b refl, and_both (all_after name (name w) (e ∷ es)) (is_rising name (e ∷ es)) (and_both (is_before (name w) (name e)) (all_after name (name w) es) b (after-trans (name w) (name e) es b h.0)) r)
  inserted (e ∷ es) (suc i) w r n low high l =
      let h = and_parts (all_after name (name e) es) (is_rising name es) r in
      let t = not-there (name w) e es n in
      let b : is_before (name e) (name w) ≡ true = low 0 w (omega arith) (omega arith) in
      let s = inserted es i w h.1 t.1 (λ k d p q. low (suc k) d (omega arith) (omega arith)) (λ k d p q. high (suc k) d (omega arith) (omega arith)) (omega arith) in
      (simp (before-not (name e) (name w) b) (ap (λ l. e ∷ l) s.0), and_both (all_after name (name e) (insert es i w)) (is_rising name (insert es i w)) (after-insert (name e) es i w b h.0) s.1)

  -- an entry that goes
  pub gone : (x : Name) (es : List X) (i : ℕ) (d : X) → is_rising name es ≡ true → i < length es → (name (get_or es i d)) ≡ x → remove es i ≡ without_named name x es
  gone x [] i d r l q = absurd (omega arith)
  gone x (e ∷ es) zero d r l q = simp (same x (name e) (sym q)) refl
  gone x (e ∷ es) (suc i) d r l q =
      let h = and_parts (all_after name (name e) es) (is_rising name es) r in
      simp (earlier x e es i d r (omega arith) q) (ap (λ l. e ∷ l) (gone x es i d h.1 (omega arith) q))

  after-remove : (y : Name) (es : List X) (i : ℕ) → all_after name y es ≡ true → all_after name y (remove es i) ≡ true
  after-remove y [] i r = empty i
    where
      empty : (i : ℕ) → all_after name y (remove [] i) ≡ true
      empty zero = refl
      empty (suc i) = refl
  after-remove y (e ∷ es) zero r = (and_parts (is_before y (name e)) (all_after name y es) r).1
  after-remove y (e ∷ es) (suc i) r =
      let h = and_parts (is_before y (name e)) (all_after name y es) r in
      and_both (is_before y (name e)) (all_after name y (remove es i)) h.0 (after-remove y es i h.1)

  pub rising-remove : (es : List X) (i : ℕ) → is_rising name es ≡ true → is_rising name (remove es i) ≡ true
  rising-remove [] i r = empty i
    where
      empty : (i : ℕ) → is_rising name (remove [] i) ≡ true
      empty zero = refl
      empty (suc i) = refl
  rising-remove (e ∷ es) zero r = (and_parts (all_after name (name e) es) (is_rising name es) r).1
  rising-remove (e ∷ es) (suc i) r =
      let h = and_parts (all_after name (name e) es) (is_rising name es) r in
      and_both (all_after name (name e) (remove es i)) (is_rising name (remove es i)) (after-remove (name e) es i h.0) (rising-remove es i h.1)

  -- neither stands before the other
  pub neither : (x y : Name) → is_before y x ≡ false → is_before x y ≡ false → y ≡ x
  neither x y a b = go (is_same y x) refl
    where
      go : (c : Bool) → is_same y x ≡ c → y ≡ x
      go true q = same-is y x q
      go false q = absurd (let t = before-total y x a q in cc)

  pub hit_there : (x : Name) (es : List X) (i : ℕ) (e : X) → ((k : ℕ) (d : X) → i ≤ k → k < length es → is_before (name (get_or es k d)) x ≡ false) → i < length es → e ≡ get_or es i e → false ≡ is_before x (name (get_or es i e)) → IsAt name x es i
  hit_there x es i e high l is b = record {
    within = l;
    named = λ d. ap (λ (u : X). (name u)) (get_or_default es i d e l ∙ sym is) ∙ neither x (name e) (ap (λ (u : X). is_before (name u) x) is ∙ high i e (omega arith) l) (sym (b ∙ ap (λ (u : X). is_before x (name u)) (sym is)));
  }

  pub not_there : (x : Name) (es : List X) (i : ℕ) (e : X) → is_rising name es ≡ true → ((k : ℕ) (d : X) → 0 ≤ k → k < i → is_before (name (get_or es k d)) x ≡ true) → ((k : ℕ) (d : X) → i ≤ k → k < length es → is_before (name (get_or es k d)) x ≡ false) → i < length es → e ≡ get_or es i e → true ≡ is_before x (name (get_or es i e)) → is_there name x es ≡ false
  not_there x es i e r low high l is b =
      missing x es i r low high (λ d m q. let f = same-flip x (name e) (before-not' x (name e) (sym (b ∙ ap (λ (u : X). is_before x (name u)) (sym is)))) in let g = same (name e) x (ap (λ (u : X). (name u)) (is ∙ get_or_default es i e d l) ∙ q) in cc)
    where
      before-not' : (x y : Name) → is_before x y ≡ true → is_same x y ≡ false
      before-not' x y b = before-apart x y b

  -- ---- what the code's edits leave

  hit-on : (x : Name) (xs es : List X) (i : ℕ) → xs ≡ es → IsAt name x xs i → IsAt name x es i
  hit-on x xs es i e h = subst (λ l. IsAt name x l i) e h

  at-hit : (x : Name) (xs es : List X) (i : ℕ) (e : X) → xs ≡ es → IsAt name x xs i → e ≡ get_or es i e → (name e) ≡ x
  at-hit x xs es i e q h is = ap (λ (t : X). (name t)) is ∙ (hit-on x xs es i q h).named e

  pub edit-view : (x : Name) (f : X → X) (es xs : List X) (st : List X) (i : ℕ) (e w : X) → es ≡ st → is_rising name es ≡ true → xs ≡ es → IsAt name x xs i → e ≡ get_or es i e → w ≡ f e → set es i w ≡ at_name name x f st
  edit-view x f es xs st i e w v r q h is t =
      let k = hit-on x xs es i q h in
      written x f es i e w r k.within (k.named e) (t ∙ ap (λ (u : X). f u) is) ∙ ap (λ l. at_name name x f l) v

  pub edit-rising : (x : Name) (es xs : List X) (i : ℕ) (e w : X) → is_rising name es ≡ true → xs ≡ es → IsAt name x xs i → e ≡ get_or es i e → (name w) ≡ (name e) → is_rising name (set es i w) ≡ true
  edit-rising x es xs i e w r q h is t =
      let k = hit-on x xs es i q h in
      rising-set es i e w (t ∙ ap (λ (u : X). (name u)) is) k.within r

  pub hit-seen : (x : Name) (es xs : List X) (st : List X) (i : ℕ) (e : X) → es ≡ st → is_rising name es ≡ true → xs ≡ es → IsAt name x xs i → e ≡ get_or es i e → named_at name x st ≡ Some e
  hit-seen x es xs st i e v r q h is =
      let k = hit-on x xs es i q h in
      ap (λ l. named_at name x l) (sym v) ∙ looked_up x es i e r k.within (k.named e) ∙ ap (λ (u : X). Some u) (sym is)

  pub missed : (x : Name) (es xs : List X) (st : List X) → es ≡ st → xs ≡ es → is_there name x xs ≡ false → is_there name x st ≡ false
  missed x es xs st v q m = ap (λ l. is_there name x l) (sym (q ∙ v)) ∙ m

  -- an edited object is looked up
  pub edited-at : (x : Name) (f : X → X) (st : List X) (o : X) → ((o : X) → (name (f o)) ≡ (name o)) → named_at name x st ≡ Some o → named_at name x (at_name name x f st) ≡ Some (f o)
  edited-at x f [] o k e = cc
  edited-at x f (p ∷ os) o k e = go (is_same x (name p)) refl (λ d. edited-at x f os o k d)
    where
      go : (b : Bool) → is_same x (name p) ≡ b → (named_at name x os ≡ Some o → named_at name x (at_name name x f os) ≡ Some (f o)) → named_at name x (at_name name x f (p ∷ os)) ≡ Some (f o)
      go true q ih =
          let e' = simp q at e in
          let r : is_same x (name (f p)) ≡ true = ap (λ n. is_same x n) (k p) ∙ q in
          let t : Some p ≡ Some o = e' in
          simp (q, r) (ap (λ u. some_f u) t)
        where
          some_f : Option X → Option X
          some_f None = None
          some_f (Some u) = Some (f u)
      go false q ih = let e' = simp q at e in simp q (ih e')

  put : (es xs : List X) (st : List X) (i : ℕ) (w : X) → es ≡ st → is_rising name es ≡ true → xs ≡ es → is_there name (name w) st ≡ false → ((k : ℕ) (d : X) → 0 ≤ k → k < i → is_before (name (get_or xs k d)) (name w) ≡ true) → ((k : ℕ) (d : X) → i ≤ k → k < length xs → is_before (name (get_or xs k d)) (name w) ≡ false) → i ≤ length xs → (insert es i w ≡ with_named name w st) × (is_rising name (insert es i w) ≡ true)
  put es xs st i w v r q n low high l =
      let m : length xs ≡ length es = ap length q in
      let t = inserted es i w r (ap (λ s. is_there name (name w) s) v ∙ n) (λ k d a b. subst (λ s. is_before (name (get_or s k d)) (name w) ≡ true) q (low k d a b)) (λ k d a b. subst (λ s. is_before (name (get_or s k d)) (name w) ≡ false) q (high k d a (omega arith))) (omega arith) in
      (t.0 ∙ ap (λ s. with_named name w s) v, t.1)

  pub put-view : (es xs : List X) (st : List X) (i : ℕ) (w : X) → es ≡ st → is_rising name es ≡ true → xs ≡ es → is_there name (name w) st ≡ false → ((k : ℕ) (d : X) → 0 ≤ k → k < i → is_before (name (get_or xs k d)) (name w) ≡ true) → ((k : ℕ) (d : X) → i ≤ k → k < length xs → is_before (name (get_or xs k d)) (name w) ≡ false) → i ≤ length xs → insert es i w ≡ with_named name w st
  put-view es xs st i w v r q n low high l = (put es xs st i w v r q n low high l).0

  pub put-rising : (es xs : List X) (st : List X) (i : ℕ) (w : X) → es ≡ st → is_rising name es ≡ true → xs ≡ es → is_there name (name w) st ≡ false → ((k : ℕ) (d : X) → 0 ≤ k → k < i → is_before (name (get_or xs k d)) (name w) ≡ true) → ((k : ℕ) (d : X) → i ≤ k → k < length xs → is_before (name (get_or xs k d)) (name w) ≡ false) → i ≤ length xs → is_rising name (insert es i w) ≡ true
  put-rising es xs st i w v r q n low high l = (put es xs st i w v r q n low high l).1

  pub gone-view : (x : Name) (es xs st : List X) (i : ℕ) → es ≡ st → is_rising name es ≡ true → xs ≡ es → IsAt name x xs i → (d : X) → remove es i ≡ without_named name x st
  gone-view x es xs st i v r q h d =
      let k = hit-on x xs es i q h in
      gone x es i d r k.within (k.named d) ∙ ap (λ l. without_named name x l) v

  pub kept : (x : Name) (st : List X) → is_there name x st ≡ false → st ≡ without_named name x st
  kept x [] e = refl
  kept x (o ∷ os) e =
      let t = not-there x o os e in
      simp t.0 (ap (λ l. o ∷ l) (kept x os t.1))

  gone-there : (x : Name) (es : List X) (i : ℕ) (d : X) → is_rising name es ≡ true → i < length es → (name (get_or es i d)) ≡ x → is_there name x (remove es i) ≡ false
  gone-there x [] i d r l q = absurd (omega arith)
  gone-there x (e ∷ es) zero d r l q =
      let h = and_parts (all_after name (name e) es) (is_rising name es) r in
      none-after x es (subst (λ n. all_after name n es ≡ true) q h.0)
  gone-there x (e ∷ es) (suc i) d r l q =
      let h = and_parts (all_after name (name e) es) (is_rising name es) r in
      simp (earlier x e es i d r (omega arith) q) (gone-there x es i d h.1 (omega arith) q)

  pub gone-is : (x : Name) (es xs : List X) (i : ℕ) → is_rising name es ≡ true → xs ≡ es → IsAt name x xs i → (d : X) → is_there name x (remove es i) ≡ false
  gone-is x es xs i r q h d =
      let k = hit-on x xs es i q h in gone-there x es i d r k.within (k.named d)

  pub hit-there-is : (d : X) (x : Name) (es xs st : List X) (i : ℕ) → es ≡ st → is_rising name es ≡ true → xs ≡ es → IsAt name x xs i → is_there name x st ≡ true
  hit-there-is d x es xs st i v r q h =
      let k = hit-on x xs es i q h in
      ap (λ l. is_there name x l) (sym v) ∙ ap is_some (looked_up x es i d r k.within (k.named d))

  -- ---- entries that are kept

  after-filter : (p : X → Bool) (x : Name) (es : List X) → all_after name x es ≡ true → all_after name x (filter p es) ≡ true
  after-filter p x [] r = refl
  after-filter p x (e ∷ es) r = go (p e) refl (after-filter p x es (and_parts (is_before x (name e)) (all_after name x es) r).1)
    where
      go : (b : Bool) → p e ≡ b → all_after name x (filter p es) ≡ true → all_after name x (filter p (e ∷ es)) ≡ true
      go true q ih = simp q (and_both (is_before x (name e)) (all_after name x (filter p es)) (and_parts (is_before x (name e)) (all_after name x es) r).0 ih)
      go false q ih = simp q ih

  pub rising-filter : (p : X → Bool) (es : List X) → is_rising name es ≡ true → is_rising name (filter p es) ≡ true
  rising-filter p [] r = refl
  rising-filter p (e ∷ es) r = go (p e) refl (rising-filter p es (and_parts (all_after name (name e) es) (is_rising name es) r).1)
    where
      go : (b : Bool) → p e ≡ b → is_rising name (filter p es) ≡ true → is_rising name (filter p (e ∷ es)) ≡ true
      go true q ih = simp q (and_both (all_after name (name e) (filter p es)) (is_rising name (filter p es)) (after-filter p (name e) es (and_parts (all_after name (name e) es) (is_rising name es) r).0) ih)
      go false q ih = simp q ih
