-- What is looked up after an edit of the entries.
use Rattle.std.proofs.Common.{◌≡◌, ℕ, zero, suc, ◌+◌, List, [], ◌∷◌, length, drop, Bool, true, false, refl, sym, ap, ◌∙◌, subst, arith, Option, Some, None, inl, inr, ◌⊎◌}
use Rattle.std.specs.Prelude.{is_some}
use Rattle.std.specs.List.{filter}
use Rattle.np_values.specs.declared.name.Name.{Name}
use Rattle.np_values.specs.Name.{is_before}
use Rattle.np_proxy.specs.Named.{is_same, named_at, is_there, at_name, with_named, without_named, all_after, is_rising}
use Rattle.np_proxy.proofs.Names.{and_parts, same-is, same-refl}
use Rattle.np_proxy.proofs.Finding.{not-there, none-after}

module _ {X : Type 0} (name : X → Name) where
  pub none-there : (x : Name) (es : List X) → is_there name x es ≡ false → named_at name x es ≡ None
  none-there x es e = go (named_at name x es) refl
    where
      go : (o : Option X) → named_at name x es ≡ o → named_at name x es ≡ None
      go None s = s
      go (Some y) s = let u = ap (λ (p : Option X). is_some p) s in cc

  -- the entry that was edited
  pub seen-edited : (x : Name) (f : X → X) (es : List X) → ((e : X) → name (f e) ≡ name e) → (o : Option X) → named_at name x es ≡ o → named_at name x (at_name name x f es) ≡ elim o [ None ↦ None | Some e ↦ Some (f e) ]
  seen-edited x f [] k o s = ap (λ (p : Option X). elim p [ None ↦ None | Some e ↦ Some (f e) ]) s
  seen-edited x f (e ∷ es) k o s = go (is_same x (name e)) refl (λ t. seen-edited x f es k o t)
    where
      go : (b : Bool) → is_same x (name e) ≡ b → (named_at name x es ≡ o → named_at name x (at_name name x f es) ≡ elim o [ None ↦ None | Some e ↦ Some (f e) ]) → named_at name x (at_name name x f (e ∷ es)) ≡ elim o [ None ↦ None | Some e ↦ Some (f e) ]
      go true q ih =
          let r : is_same x (name (f e)) ≡ true = ap (λ (n : Name). is_same x n) (k e) ∙ q in
          let s' : Some e ≡ o = simp q at s in
          simp (q, r) (ap (λ (p : Option X). elim p [ None ↦ None | Some e ↦ Some (f e) ]) s')
      go false q ih = let s' : named_at name x es ≡ o = simp q at s in simp q (ih s')

  -- another entry
  pub seen-edited-other : (x y : Name) (f : X → X) (es : List X) → ((e : X) → name (f e) ≡ name e) → is_same y x ≡ false → named_at name y (at_name name x f es) ≡ named_at name y es
  seen-edited-other x y f [] k d = refl
  seen-edited-other x y f (e ∷ es) k d = go (is_same x (name e)) refl (seen-edited-other x y f es k d)
    where
      go : (b : Bool) → is_same x (name e) ≡ b → named_at name y (at_name name x f es) ≡ named_at name y es → named_at name y (at_name name x f (e ∷ es)) ≡ named_at name y (e ∷ es)
      go true q ih =
          let n = same-is x (name e) q in
          let r : is_same y (name e) ≡ false = subst (λ (m : Name). is_same y m ≡ false) n d in
          let r' : is_same y (name (f e)) ≡ false = ap (λ (m : Name). is_same y m) (k e) ∙ r in
          simp (q, r, r') refl
      go false q ih = simp q (within (is_same y (name e)) refl)
        where
          within : (c : Bool) → is_same y (name e) ≡ c → named_at name y (e ∷ at_name name x f es) ≡ named_at name y (e ∷ es)
          within true r = simp r refl
          within false r = simp r ih

  -- an entry that was put
  pub seen-put : (w : X) (es : List X) → is_there name (name w) es ≡ false → named_at name (name w) (with_named name w es) ≡ Some w
  seen-put w [] new = simp (same-refl (name w)) refl
  seen-put w (e ∷ es) new = go (is_before (name w) (name e)) refl (seen-put w es (not-there name (name w) e es new).1)
    where
      go : (b : Bool) → is_before (name w) (name e) ≡ b → named_at name (name w) (with_named name w es) ≡ Some w → named_at name (name w) (with_named name w (e ∷ es)) ≡ Some w
      go true q ih = simp (q, same-refl (name w)) refl
      go false q ih = simp (q, (not-there name (name w) e es new).0) ih

  pub seen-put-other : (y : Name) (w : X) (es : List X) → is_same y (name w) ≡ false → named_at name y (with_named name w es) ≡ named_at name y es
  seen-put-other y w [] d = simp d refl
  seen-put-other y w (e ∷ es) d = go (is_before (name w) (name e)) refl (seen-put-other y w es d)
    where
      go : (b : Bool) → is_before (name w) (name e) ≡ b → named_at name y (with_named name w es) ≡ named_at name y es → named_at name y (with_named name w (e ∷ es)) ≡ named_at name y (e ∷ es)
      go true q ih = simp (q, d) refl
      go false q ih = simp q (within (is_same y (name e)) refl)
        where
          within : (c : Bool) → is_same y (name e) ≡ c → named_at name y (e ∷ with_named name w es) ≡ named_at name y (e ∷ es)
          within true r = simp r refl
          within false r = simp r ih

  -- an entry that went
  pub seen-without-other : (x y : Name) (es : List X) → is_same y x ≡ false → named_at name y (without_named name x es) ≡ named_at name y es
  seen-without-other x y [] d = refl
  seen-without-other x y (e ∷ es) d = go (is_same x (name e)) refl (seen-without-other x y es d)
    where
      go : (b : Bool) → is_same x (name e) ≡ b → named_at name y (without_named name x es) ≡ named_at name y es → named_at name y (without_named name x (e ∷ es)) ≡ named_at name y (e ∷ es)
      go true q ih =
          let r : is_same y (name e) ≡ false = subst (λ (m : Name). is_same y m ≡ false) (same-is x (name e) q) d in
          simp (q, r) refl
      go false q ih = simp q (within (is_same y (name e)) refl)
        where
          within : (c : Bool) → is_same y (name e) ≡ c → named_at name y (e ∷ without_named name x es) ≡ named_at name y (e ∷ es)
          within true r = simp r refl
          within false r = simp r ih

  pub seen-without : (x : Name) (es : List X) → is_rising name es ≡ true → named_at name x (without_named name x es) ≡ None
  seen-without x [] r = refl
  seen-without x (e ∷ es) r = go (is_same x (name e)) refl (seen-without x es (and_parts (all_after name (name e) es) (is_rising name es) r).1)
    where
      go : (b : Bool) → is_same x (name e) ≡ b → named_at name x (without_named name x es) ≡ None → named_at name x (without_named name x (e ∷ es)) ≡ None
      go true q ih =
          let after = (and_parts (all_after name (name e) es) (is_rising name es) r).0 in
          simp q (none-there x es (none-after name x es (subst (λ (m : Name). all_after name m es ≡ true) (sym (same-is x (name e) q)) after)))
      go false q ih = simp (q, q) ih

  -- entries that are kept, by their names
  pub seen-kept : (p : X → Bool) (q : Name → Bool) (x : Name) (es : List X) → ((e : X) → p e ≡ q (name e)) → q x ≡ true → named_at name x (filter p es) ≡ named_at name x es
  seen-kept p q x [] k t = refl
  seen-kept p q x (e ∷ es) k t = go (p e) refl (seen-kept p q x es k t)
    where
      go : (b : Bool) → p e ≡ b → named_at name x (filter p es) ≡ named_at name x es → named_at name x (filter p (e ∷ es)) ≡ named_at name x (e ∷ es)
      go true s ih = simp s (within (is_same x (name e)) refl)
        where
          within : (c : Bool) → is_same x (name e) ≡ c → named_at name x (e ∷ filter p es) ≡ named_at name x (e ∷ es)
          within true r = simp r refl
          within false r = simp r ih
      go false s ih = simp s (within (is_same x (name e)) refl)
        where
          within : (c : Bool) → is_same x (name e) ≡ c → named_at name x (filter p es) ≡ named_at name x (e ∷ es)
          within true r = let u : q (name e) ≡ true = subst (λ (m : Name). q m ≡ true) (same-is x (name e) r) t in let v = k e in cc
          within false r = simp r ih

  pub seen-left-out : (p : X → Bool) (q : Name → Bool) (x : Name) (es : List X) → ((e : X) → p e ≡ q (name e)) → q x ≡ false → named_at name x (filter p es) ≡ None
  seen-left-out p q x [] k t = refl
  seen-left-out p q x (e ∷ es) k t = go (p e) refl (seen-left-out p q x es k t)
    where
      go : (b : Bool) → p e ≡ b → named_at name x (filter p es) ≡ None → named_at name x (filter p (e ∷ es)) ≡ None
      go true s ih = simp s (within (is_same x (name e)) refl)
        where
          within : (c : Bool) → is_same x (name e) ≡ c → named_at name x (e ∷ filter p es) ≡ None
          within true r = let u : q (name e) ≡ false = subst (λ (m : Name). q m ≡ false) (same-is x (name e) r) t in let v = k e in cc
          within false r = simp r ih
      go false s ih = simp s ih

  -- the entries but the first ones
  pub seen-dropped : (n : ℕ) (x : Name) (es : List X) → is_rising name es ≡ true → (named_at name x (drop n es) ≡ None) ⊎ (named_at name x (drop n es) ≡ named_at name x es)
  seen-dropped zero x es r = inr refl
  seen-dropped (suc n) x [] r = inr refl
  seen-dropped (suc n) x (e ∷ es) r = go (is_same x (name e)) refl (seen-dropped n x es (and_parts (all_after name (name e) es) (is_rising name es) r).1)
    where
      go : (b : Bool) → is_same x (name e) ≡ b → (named_at name x (drop n es) ≡ None) ⊎ (named_at name x (drop n es) ≡ named_at name x es) → (named_at name x (drop n es) ≡ None) ⊎ (named_at name x (drop n es) ≡ named_at name x (e ∷ es))
      go b q (inl none) = inl none
      go true q (inr kept) =
          let after = (and_parts (all_after name (name e) es) (is_rising name es) r).0 in
          inl (kept ∙ none-there x es (none-after name x es (subst (λ (m : Name). all_after name m es ≡ true) (sym (same-is x (name e) q)) after)))
      go false q (inr kept) = inr (simp q kept)

  -- ---- which names are there

  pub there-edited : (x y : Name) (f : X → X) (es : List X) → ((e : X) → name (f e) ≡ name e) → is_there name y (at_name name x f es) ≡ is_there name y es
  there-edited x y f es k = go (is_same y x) refl
    where
      edited : (o : Option X) → named_at name x es ≡ o → is_there name x (at_name name x f es) ≡ is_there name x es
      edited None s = ap (λ (p : Option X). is_some p) (seen-edited x f es k None s) ∙ sym (ap (λ (p : Option X). is_some p) s)
      edited (Some e) s = ap (λ (p : Option X). is_some p) (seen-edited x f es k (Some e) s) ∙ sym (ap (λ (p : Option X). is_some p) s)

      go : (b : Bool) → is_same y x ≡ b → is_there name y (at_name name x f es) ≡ is_there name y es
      go true q = subst (λ (m : Name). is_there name m (at_name name x f es) ≡ is_there name m es) (sym (same-is y x q)) (edited (named_at name x es) refl)
      go false q = ap (λ (p : Option X). is_some p) (seen-edited-other x y f es k q)

  -- ---- how many there are

  pub length-edited : (x : Name) (f : X → X) (es : List X) → length (at_name name x f es) ≡ length es
  length-edited x f [] = refl
  length-edited x f (e ∷ es) = go (is_same x (name e)) refl (length-edited x f es)
    where
      go : (b : Bool) → is_same x (name e) ≡ b → length (at_name name x f es) ≡ length es → length (at_name name x f (e ∷ es)) ≡ length (e ∷ es)
      go true q ih = simp q refl
      go false q ih = simp q (ap (λ (n : ℕ). suc n) ih)

  pub length-put : (w : X) (es : List X) → length (with_named name w es) ≡ length es + 1
  length-put w [] = refl
  length-put w (e ∷ es) = go (is_before (name w) (name e)) refl (length-put w es)
    where
      go : (b : Bool) → is_before (name w) (name e) ≡ b → length (with_named name w es) ≡ length es + 1 → length (with_named name w (e ∷ es)) ≡ length (e ∷ es) + 1
      go true q ih = simp q (omega arith)
      go false q ih = simp q (omega (arith, ih))

  pub length-without : (x : Name) (es : List X) → is_there name x es ≡ true → length (without_named name x es) + 1 ≡ length es
  length-without x [] t = cc
  length-without x (e ∷ es) t = go (is_same x (name e)) refl (λ u. length-without x es u)
    where
      go : (b : Bool) → is_same x (name e) ≡ b → (is_there name x es ≡ true → length (without_named name x es) + 1 ≡ length es) → length (without_named name x (e ∷ es)) + 1 ≡ length (e ∷ es)
      go true q ih = simp q (omega arith)
      go false q ih = let u : is_there name x es ≡ true = simp q at t in let n = ih u in simp q (omega (arith, n))
