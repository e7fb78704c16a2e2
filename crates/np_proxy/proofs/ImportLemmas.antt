-- Proxies after names came.
use Rattle.std.proofs.Common.{◌≡◌, ◌+◌, ◌<◌, ◌≤◌, ℕ, List, [], ◌∷◌, ◌++◌, length, Bool, true, false, Option, Some, None, refl, sym, ap, ◌∙◌, subst, arith}
use Rattle.std.specs.Prelude.{nat_lt, nat_le, is_some, not}
use Rattle.std.proofs.lemmas.Bool.Decides.{nat_tests}
use Rattle.std.proofs.lemmas.Bool.{lt-ltb}
use Rattle.np_values.specs.declared.name.Name.{Name}
use Rattle.np_proxy_release.specs.declared.release.Release.{Release}
use Rattle.np_proxy.specs.declared.import.Import.{Import}
use Rattle.np_proxy.specs.Named.{is_same, named_at, is_there, at_name, with_named}
use Rattle.np_proxy.specs.Imports.{import_name, received_at, holders_at, received_in, holders_in, times_in, was_purged, came_again, first_came, taken_up, all_taken_up, has_room, full_among, count_in}
use Rattle.np_proxy.proofs.Names.{same-is}
use Rattle.np_proxy.proofs.Looking.{seen-edited, seen-edited-other, seen-put, seen-put-other, length-edited, length-put}

-- ---- one name

pub taken-again : (purged : List Bool) (x : Name) (es : List Import) → was_purged purged x.instance ≡ false → is_there import_name x es ≡ true → taken_up purged x es ≡ at_name import_name x came_again es
taken-again purged x es p there = simp (p, there) refl

pub taken-first : (purged : List Bool) (x : Name) (es : List Import) → was_purged purged x.instance ≡ false → is_there import_name x es ≡ false → taken_up purged x es ≡ with_named import_name (first_came x) es
taken-first purged x es p there = simp (p, there) refl

pub taken-not : (purged : List Bool) (x : Name) (es : List Import) → was_purged purged x.instance ≡ true → taken_up purged x es ≡ es
taken-not purged x es p = simp p refl

-- by cases: it was purged, it came again, or it came first
pub by_taken : (P : List Import → Type 0) (purged : List Bool) (x : Name) (es : List Import) → (was_purged purged x.instance ≡ true → P es) → (was_purged purged x.instance ≡ false → is_there import_name x es ≡ true → P (at_name import_name x came_again es)) → (was_purged purged x.instance ≡ false → is_there import_name x es ≡ false → P (with_named import_name (first_came x) es)) → P (taken_up purged x es)
by_taken P purged x es a b c = go (was_purged purged x.instance) refl
  where
    go : (p : Bool) → was_purged purged x.instance ≡ p → P (taken_up purged x es)
    go true p = subst P (sym (taken-not purged x es p)) (a p)
    go false p = within (is_there import_name x es) refl
      where
        within : (t : Bool) → is_there import_name x es ≡ t → P (taken_up purged x es)
        within true t = subst P (sym (taken-again purged x es p t)) (b p t)
        within false t = subst P (sym (taken-first purged x es p t)) (c p t)

pub length-taken_up : (purged : List Bool) (x : Name) (es : List Import) → length (taken_up purged x es) ≤ length es + 1
length-taken_up purged x es =
    by_taken (λ (l : List Import). length l ≤ length es + 1) purged x es
    (λ p. omega arith)
    (λ p t. let n = length-edited import_name x came_again es in omega (arith, n))
    (λ p t. let n = length-put import_name (first_came x) es in omega (arith, n))

-- a reading of the entry, which rises by one for the name that came
module _ (v : Option Import → ℕ) (none : v None ≡ 0) (again : (e : Import) → v (Some (came_again e)) ≡ v (Some e) + 1) (first : (x : Name) → v (Some (first_came x)) ≡ 1) where
  again-same : (x : Name) (es : List Import) → is_there import_name x es ≡ true → v (named_at import_name x (at_name import_name x came_again es)) ≡ v (named_at import_name x es) + 1
  again-same x es there = go (named_at import_name x es) refl
    where
      go : (o : Option Import) → named_at import_name x es ≡ o → v (named_at import_name x (at_name import_name x came_again es)) ≡ v (named_at import_name x es) + 1
      go None s = let t = ap (λ (o : Option Import). is_some o) s in cc
      go (Some e) s = ap v (seen-edited import_name x came_again es (λ e. refl) (Some e) s) ∙ again e ∙ ap (λ (o : Option Import). v o + 1) (sym s)

  first-same : (x : Name) (es : List Import) → is_there import_name x es ≡ false → v (named_at import_name x (with_named import_name (first_came x) es)) ≡ v (named_at import_name x es) + 1
  first-same x es new = go (named_at import_name x es) refl
    where
      go : (o : Option Import) → named_at import_name x es ≡ o → v (named_at import_name x (with_named import_name (first_came x) es)) ≡ v (named_at import_name x es) + 1
      go None s = ap v (seen-put import_name (first_came x) es new) ∙ first x ∙ sym (ap (λ (o : Option Import). v o + 1) s ∙ ap (λ (n : ℕ). n + 1) none)
      go (Some e) s = let t = ap (λ (o : Option Import). is_some o) s in cc

  -- of the name that came
  pub read-taken : (purged : List Bool) (x : Name) (es : List Import) → was_purged purged x.instance ≡ false → v (named_at import_name x (taken_up purged x es)) ≡ v (named_at import_name x es) + 1
  read-taken purged x es p =
      by_taken (λ (l : List Import). v (named_at import_name x l) ≡ v (named_at import_name x es) + 1) purged x es
      (λ q. absurd (let r : true ≡ false = sym q ∙ p in cc))
      (λ q t. again-same x es t)
      (λ q t. first-same x es t)

  -- of another name
  pub read-other : (purged : List Bool) (x y : Name) (es : List Import) → is_same y x ≡ false → v (named_at import_name y (taken_up purged x es)) ≡ v (named_at import_name y es)
  read-other purged x y es d =
      by_taken (λ (l : List Import). v (named_at import_name y l) ≡ v (named_at import_name y es)) purged x es
      (λ q. refl)
      (λ q t. ap v (seen-edited-other import_name x y came_again es (λ e. refl) d))
      (λ q t. ap v (seen-put-other import_name y (first_came x) es d))

pub received-taken : (purged : List Bool) (x : Name) (es : List Import) → was_purged purged x.instance ≡ false → received_in x (taken_up purged x es) ≡ received_in x es + 1
received-taken purged x es p = read-taken received_at refl (λ e. refl) (λ y. refl) purged x es p

pub received-other : (purged : List Bool) (x y : Name) (es : List Import) → is_same y x ≡ false → received_in y (taken_up purged x es) ≡ received_in y es
received-other purged x y es d = read-other received_at refl (λ e. refl) (λ y. refl) purged x y es d

pub holders-taken : (purged : List Bool) (x y : Name) (es : List Import) → holders_in y (taken_up purged x es) ≤ holders_in y es + 1
holders-taken purged x y es = go (is_same y x) refl
  where
    here : (b : Bool) → was_purged purged x.instance ≡ b → holders_in x (taken_up purged x es) ≤ holders_in x es + 1
    here true p = let e = ap (λ (l : List Import). holders_in x l) (taken-not purged x es p) in omega (arith, e)
    here false p = let e = read-taken holders_at refl (λ e. refl) (λ y. refl) purged x es p in omega (arith, e)

    go : (b : Bool) → is_same y x ≡ b → holders_in y (taken_up purged x es) ≤ holders_in y es + 1
    go true q = subst (λ (m : Name). holders_in m (taken_up purged x es) ≤ holders_in m es + 1) (sym (same-is y x q)) (here (was_purged purged x.instance) refl)
    go false q = let e = read-other holders_at refl (λ e. refl) (λ y. refl) purged x y es q in omega (arith, e)

-- ---- one name after another

pub all-taken-push : (purged : List Bool) (xs : List Name) (y : Name) (es : List Import) → all_taken_up purged (xs ++ y ∷ []) es ≡ taken_up purged y (all_taken_up purged xs es)
all-taken-push purged [] y es = refl
all-taken-push purged (x ∷ xs) y es = all-taken-push purged xs y (taken_up purged x es)

pub received-all : (purged : List Bool) (xs : List Name) (x : Name) (es : List Import) → was_purged purged x.instance ≡ false → received_in x (all_taken_up purged xs es) ≡ received_in x es + count_in x xs
received-all purged [] x es p = omega arith
received-all purged (y ∷ ys) x es p = go (is_same x y) refl (received-all purged ys x (taken_up purged y es) p)
  where
    go : (b : Bool) → is_same x y ≡ b → received_in x (all_taken_up purged ys (taken_up purged y es)) ≡ received_in x (taken_up purged y es) + count_in x ys → received_in x (all_taken_up purged (y ∷ ys) es) ≡ received_in x es + count_in x (y ∷ ys)
    go true q ih =
        let s = same-is x y q in
        let one : received_in x (taken_up purged y es) ≡ received_in x es + 1 = subst (λ (m : Name). received_in x (taken_up purged m es) ≡ received_in x es + 1) s (received-taken purged x es p) in
        let many : count_in x (y ∷ ys) ≡ count_in x ys + 1 = simp q (omega arith) in
        omega (arith, ih, one, many)
    go false q ih =
        let one = received-other purged y x es q in
        let many : count_in x (y ∷ ys) ≡ count_in x ys = simp q refl in
        omega (arith, ih, one, many)

-- ---- whether there is room for a name

pub room-purged : (purged : List Bool) (rs : List Release) (x : Name) (es : List Import) → was_purged purged x.instance ≡ true → has_room purged rs x es ≡ true
room-purged purged rs x es p = simp p refl

pub room-is : (purged : List Bool) (rs : List Release) (x : Name) (es : List Import) → was_purged purged x.instance ≡ false → has_room purged rs x es ≡ nat_lt (received_in x es + times_in x rs) 4294967295
room-is purged rs x es p = simp p refl

below-if : (a b : ℕ) → nat_lt a b ≡ true → a < b
below-if a b e = grind (arith, nat_tests)

le-not-lt : (a b : ℕ) → nat_le a b ≡ not (nat_lt b a)
le-not-lt a b = grind (arith, nat_tests)

pub room-below : (purged : List Bool) (rs : List Release) (x : Name) (es : List Import) → was_purged purged x.instance ≡ false → has_room purged rs x es ≡ true → received_in x es + times_in x rs < 4294967295
room-below purged rs x es p r = let t = sym (room-is purged rs x es p) ∙ r in below-if (received_in x es + times_in x rs) 4294967295 t

-- a name of which there is no room ends the search, and another one is passed
pub full-here : (purged : List Bool) (rs : List Release) (x : Name) (xs : List Name) (es : List Import) → has_room purged rs x es ≡ false → full_among purged rs (x ∷ xs) es ≡ Some x
full-here purged rs x xs es r = simp r refl

pub full-passed : (purged : List Bool) (rs : List Release) (x : Name) (xs : List Name) (es : List Import) → has_room purged rs x es ≡ true → full_among purged rs (x ∷ xs) es ≡ full_among purged rs xs (taken_up purged x es)
full-passed purged rs x xs es r = simp r refl

pub full-none : (purged : List Bool) (rs : List Release) (x : Name) (xs : List Name) (es : List Import) → full_among purged rs (x ∷ xs) es ≡ None → (has_room purged rs x es ≡ true) × (full_among purged rs xs (taken_up purged x es) ≡ None)
full-none purged rs x xs es n = go (has_room purged rs x es) refl
  where
    go : (b : Bool) → has_room purged rs x es ≡ b → (has_room purged rs x es ≡ true) × (full_among purged rs xs (taken_up purged x es) ≡ None)
    go true r = (r, sym (full-passed purged rs x xs es r) ∙ n)
    go false r = absurd (let t : Some x ≡ None = sym (full-here purged rs x xs es r) ∙ n in cc)

-- where nothing is pending there is more room
pub none-without : (purged : List Bool) (rs : List Release) (xs : List Name) (es : List Import) → full_among purged rs xs es ≡ None → full_among purged [] xs es ≡ None
none-without purged rs [] es n = refl
none-without purged rs (x ∷ xs) es n =
    let parts = full-none purged rs x xs es n in
    full-passed purged [] x xs es (more (was_purged purged x.instance) refl parts.0) ∙ none-without purged rs xs (taken_up purged x es) parts.1
  where
    more : (b : Bool) → was_purged purged x.instance ≡ b → has_room purged rs x es ≡ true → has_room purged [] x es ≡ true
    more true p r = room-purged purged [] x es p
    more false p r =
        let low = room-below purged rs x es p r in
        room-is purged [] x es p ∙ lt-ltb (received_in x es + times_in x []) 4294967295 (omega (arith, low))

-- the counts tell it
pub full-is : (purged : List Bool) (rs : List Release) (x : Name) (xs : List Name) (es : List Import) (came count pending : ℕ) → was_purged purged x.instance ≡ false → came ≡ received_in x es → count ≡ count_in x xs → pending ≡ times_in x rs → nat_le 4294967295 (came + count + pending) ≡ not (has_room purged rs x (all_taken_up purged xs es))
full-is purged rs x xs es came count pending p r n t =
    let all = received-all purged xs x es p in
    let sum : received_in x (all_taken_up purged xs es) + times_in x rs ≡ came + count + pending = omega (arith, all, r, n, t) in
    le-not-lt 4294967295 (came + count + pending) ∙ ap (λ (s : ℕ). not (nat_lt s 4294967295)) (sym sum) ∙ ap (λ (b : Bool). not b) (sym (room-is purged rs x (all_taken_up purged xs es) p))

pub not-false : (b : Bool) → not b ≡ false → b ≡ true
not-false true e = refl
not-false false e = cc
