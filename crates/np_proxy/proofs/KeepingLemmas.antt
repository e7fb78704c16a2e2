-- What the tables keep, after each change.
use Rattle.std.proofs.Common.{◌≡◌, ◌+◌, ◌<◌, ◌≤◌, ◌^◌, ℕ, zero, suc, List, [], ◌∷◌, length, drop, map, Bool, true, false, not, Option, Some, None, refl, sym, ap, ◌∙◌, subst, arith, inl, inr, ◌⊎◌}
use Rattle.std.specs.Prelude.{◌==◌, ◌&&◌, is_some}
use Rattle.std.specs.List.{filter}
use Rattle.np_values.specs.declared.name.Name.{Name}
use Rattle.np_values.specs.declared.name.Side.{Side}
use Rattle.np_values.specs.Name.{is_before, is_same_side}
use Rattle.np_proxy_release.specs.declared.release.Release.{Release}
use Rattle.np_proxy.specs.declared.import.Import.{Import}
use Rattle.np_proxy.specs.Named.{is_same, named_at, is_there, at_name, with_named, without_named, all_after, is_rising, itself}
use Rattle.np_proxy.specs.Imports.{Imported, KeepsImports, import_name, release_name, release_key, received_at, times_at, holders_at, received_in, holders_in, times_in, was_purged, came_again, first_came, taken_up, all_taken_up, has_room, full_among, are_others, more_times, with_release, release_of, is_held_in, is_proxy_of_other, is_release_of_other}
use Rattle.np_proxy.proofs.Names.{and_parts, same-is}
use Rattle.np_proxy.proofs.Looking.{seen-edited, seen-edited-other, seen-put, seen-put-other, seen-without, seen-without-other, seen-kept, seen-left-out, seen-dropped, there-edited, length-edited, length-put, length-without}
use Rattle.np_proxy.proofs.Finding.{rising-filter}
use Rattle.np_proxy.proofs.PendingLemmas.{added-there, added-new}
use Rattle.np_proxy.proofs.NameLemmas.{keys-same}
use Rattle.np_proxy.proofs.ImportLemmas.{by_taken, taken-not, length-taken_up, received-taken, received-other, full-none, room-below}

-- ---- pending releases, and a further one

pub times-with : (r : Release) (rs : List Release) → times_at (named_at release_name (release_name r) (with_release r rs)) ≡ times_at (named_at release_name (release_name r) rs) + r.times
times-with r rs = go (is_there release_name (release_name r) rs) refl
  where
    there : (o : Option Release) → named_at release_name (release_name r) rs ≡ o → is_there release_name (release_name r) rs ≡ true → times_at (named_at release_name (release_name r) (at_name release_name (release_name r) (more_times r.times) rs)) ≡ times_at (named_at release_name (release_name r) rs) + r.times
    there None s t = let u = ap (λ (o : Option Release). is_some o) s in cc
    there (Some e) s t = ap times_at (seen-edited release_name (release_name r) (more_times r.times) rs (λ e. refl) (Some e) s) ∙ ap (λ (o : Option Release). times_at o + r.times) (sym s)

    new : (o : Option Release) → named_at release_name (release_name r) rs ≡ o → is_there release_name (release_name r) rs ≡ false → times_at (named_at release_name (release_name r) (with_named release_name r rs)) ≡ times_at (named_at release_name (release_name r) rs) + r.times
    new None s t =
        let a : times_at (named_at release_name (release_name r) (with_named release_name r rs)) ≡ r.times = ap times_at (seen-put release_name r rs t) in
        let b : times_at (named_at release_name (release_name r) rs) ≡ 0 = ap times_at s in
        omega (arith, a, b)
    new (Some e) s t = let u = ap (λ (o : Option Release). is_some o) s in cc

    go : (b : Bool) → is_there release_name (release_name r) rs ≡ b → times_at (named_at release_name (release_name r) (with_release r rs)) ≡ times_at (named_at release_name (release_name r) rs) + r.times
    go true t = ap (λ (l : List Release). times_at (named_at release_name (release_name r) l)) (added-there r rs t) ∙ there (named_at release_name (release_name r) rs) refl t
    go false t = ap (λ (l : List Release). times_at (named_at release_name (release_name r) l)) (added-new r rs t) ∙ new (named_at release_name (release_name r) rs) refl t

pub times-with-other : (k : Name) (r : Release) (rs : List Release) → is_same k (release_name r) ≡ false → named_at release_name k (with_release r rs) ≡ named_at release_name k rs
times-with-other k r rs d = go (is_there release_name (release_name r) rs) refl
  where
    go : (b : Bool) → is_there release_name (release_name r) rs ≡ b → named_at release_name k (with_release r rs) ≡ named_at release_name k rs
    go true t = ap (λ (l : List Release). named_at release_name k l) (added-there r rs t) ∙ seen-edited-other release_name (release_name r) k (more_times r.times) rs (λ e. refl) d
    go false t = ap (λ (l : List Release). named_at release_name k l) (added-new r rs t) ∙ seen-put-other release_name k r rs d

pub length-with_release : (r : Release) (rs : List Release) → length (with_release r rs) ≤ length rs + 1
length-with_release r rs = go (is_there release_name (release_name r) rs) refl
  where
    go : (b : Bool) → is_there release_name (release_name r) rs ≡ b → length (with_release r rs) ≤ length rs + 1
    go true t = let n = ap (λ (l : List Release). length l) (added-there r rs t) in let m = length-edited release_name (release_name r) (more_times r.times) rs in omega (arith, n, m)
    go false t = let n = ap (λ (l : List Release). length l) (added-new r rs t) in let m = length-put release_name r rs in omega (arith, n, m)

-- ---- an edit that keeps what was received

pub received-edited : (x y : Name) (f : Import → Import) (es : List Import) → ((e : Import) → (f e).name ≡ e.name) → ((e : Import) → (f e).received ≡ e.received) → received_in y (at_name import_name x f es) ≡ received_in y es
received-edited x y f es k r = go (is_same y x) refl
  where
    here : (o : Option Import) → named_at import_name x es ≡ o → received_in x (at_name import_name x f es) ≡ received_in x es
    here None s = ap received_at (seen-edited import_name x f es k None s) ∙ sym (ap received_at s)
    here (Some e) s = ap received_at (seen-edited import_name x f es k (Some e) s) ∙ r e ∙ sym (ap received_at s)

    go : (b : Bool) → is_same y x ≡ b → received_in y (at_name import_name x f es) ≡ received_in y es
    go true q = subst (λ (m : Name). received_in m (at_name import_name x f es) ≡ received_in m es) (sym (same-is y x q)) (here (named_at import_name x es) refl)
    go false q = ap received_at (seen-edited-other import_name x y f es k q)

pub keeps-edited : (s : Imported) (capacity : ℕ) (x : Name) (f : Import → Import) → ((e : Import) → (f e).name ≡ e.name) → ((e : Import) → (f e).received ≡ e.received) → KeepsImports s capacity → is_rising import_name (at_name import_name x f s.proxies) ≡ true → KeepsImports (record s { proxies = at_name import_name x f s.proxies }) capacity
keeps-edited s capacity x f k r h rising = record {
  proxies_rise = rising;
  releases_rise = h.releases_rise;
  room = let n = length-edited import_name x f s.proxies in let m = h.room in omega (arith, n, m);
  others = λ y t. h.others y (sym (there-edited import_name x y f s.proxies k) ∙ t);
  fit = λ y o. let e = received-edited x y f s.proxies k r in let m = h.fit y o in omega (arith, e, m);
}

-- ---- a proxy that goes

there-without : (x y : Name) (es : List Import) → is_rising import_name es ≡ true → is_there import_name y (without_named import_name x es) ≡ true → is_there import_name y es ≡ true
there-without x y es r t = go (is_same y x) refl
  where
    go : (b : Bool) → is_same y x ≡ b → is_there import_name y es ≡ true
    go true q =
        let gone = ap (λ (o : Option Import). is_some o) (seen-without import_name x es r) in
        let t' = subst (λ (m : Name). is_there import_name m (without_named import_name x es) ≡ true) (same-is y x q) t in
        absurd (let e : false ≡ true = sym gone ∙ t' in cc)
    go false q = sym (ap (λ (o : Option Import). is_some o) (seen-without-other import_name x y es q)) ∙ t

pub keeps-gone : (s : Imported) (capacity capacity' : ℕ) (x : Name) → KeepsImports s capacity → is_there import_name x s.proxies ≡ true → capacity ≤ capacity' → is_rising import_name (without_named import_name x s.proxies) ≡ true → is_rising release_name (with_release (release_of x (received_in x s.proxies)) s.releases) ≡ true → KeepsImports (record s { proxies = without_named import_name x s.proxies; releases = with_release (release_of x (received_in x s.proxies)) s.releases }) capacity'
keeps-gone s capacity capacity' x h there c rising pending = record {
  proxies_rise = rising;
  releases_rise = pending;
  room = let n = length-without import_name x s.proxies there in let m = length-with_release (release_of x (received_in x s.proxies)) s.releases in let o = h.room in omega (arith, n, m, o, c);
  others = λ y t. h.others y (there-without x y s.proxies h.proxies_rise t);
  fit = λ y o. go y o (is_same y x) refl;
}
  where
    now : List Release
    now = with_release (release_of x (received_in x s.proxies)) s.releases

    go : (y : Name) → is_same_side y.side s.side ≡ false → (b : Bool) → is_same y x ≡ b → received_in y (without_named import_name x s.proxies) + times_in y (with_release (release_of x (received_in x s.proxies)) s.releases) < 2 ^ 32
    go y o true q =
        subst (λ (m : Name). received_in m (without_named import_name x s.proxies) + times_in m (with_release (release_of x (received_in x s.proxies)) s.releases) < 2 ^ 32) (sym (same-is y x q))
        (let a : received_in x (without_named import_name x s.proxies) ≡ 0 = ap received_at (seen-without import_name x s.proxies h.proxies_rise) in
        let b = times-with (release_of x (received_in x s.proxies)) s.releases in
        let m = h.fit x (subst (λ (n : Name). is_same_side n.side s.side ≡ false) (same-is y x q) o) in
        omega (arith, a, b, m))
    go y o false q =
        let d = keys-same s.side y x o (h.others x there) ∙ q in
        let a = ap received_at (seen-without-other import_name x y s.proxies q) in
        let b = ap times_at (times-with-other (release_key y) (release_of x (received_in x s.proxies)) s.releases d) in
        let m = h.fit y o in
        omega (arith, a, b, m)

-- ---- names that came

there-put : (y : Name) (w : Import) (es : List Import) → is_there import_name y (with_named import_name w es) ≡ true → (is_same y w.name ≡ true) ⊎ (is_there import_name y es ≡ true)
there-put y w es t = go (is_same y w.name) refl
  where
    go : (b : Bool) → is_same y w.name ≡ b → (is_same y w.name ≡ true) ⊎ (is_there import_name y es ≡ true)
    go true q = inl q
    go false q = inr (sym (ap (λ (o : Option Import). is_some o) (seen-put-other import_name y w es q)) ∙ t)

Others : Side → List Import → Type 0
Others side es = (x : Name) → is_there import_name x es ≡ true → is_same_side x.side side ≡ false

Fit : Side → List Release → List Import → Type 0
Fit side rs es = (x : Name) → is_same_side x.side side ≡ false → received_in x es + times_in x rs < 2 ^ 32

others-taken : (purged : List Bool) (side : Side) (x : Name) (es : List Import) → is_same_side x.side side ≡ false → ((y : Name) → is_there import_name y es ≡ true → is_same_side y.side side ≡ false) → (y : Name) → is_there import_name y (taken_up purged x es) ≡ true → is_same_side y.side side ≡ false
others-taken purged side x es o h y =
    by_taken (λ (l : List Import). is_there import_name y l ≡ true → is_same_side y.side side ≡ false) purged x es
    (λ p t. h y t)
    (λ p s t. h y (sym (there-edited import_name x y came_again es (λ e. refl)) ∙ t))
    (λ p s t. put (there-put y (first_came x) es t))
  where
    put : (is_same y x ≡ true) ⊎ (is_there import_name y es ≡ true) → is_same_side y.side side ≡ false
    put (inl q) = subst (λ (m : Name). is_same_side m.side side ≡ false) (sym (same-is y x q)) o
    put (inr t) = h y t

others-all : (purged : List Bool) (side : Side) (xs : List Name) (es : List Import) → are_others side xs ≡ true → ((y : Name) → is_there import_name y es ≡ true → is_same_side y.side side ≡ false) → (y : Name) → is_there import_name y (all_taken_up purged xs es) ≡ true → is_same_side y.side side ≡ false
others-all purged side [] es o h = h
others-all purged side (x ∷ xs) es o h =
    let parts = and_parts (not (is_same_side x.side side)) (are_others side xs) o in
    others-all purged side xs (taken_up purged x es) parts.1 (others-taken purged side x es (other (is_same_side x.side side) parts.0) h)
  where
    other : (b : Bool) → not b ≡ true → b ≡ false
    other true e = cc
    other false e = refl

fit-taken : (purged : List Bool) (side : Side) (rs : List Release) (x : Name) (es : List Import) → has_room purged rs x es ≡ true → ((y : Name) → is_same_side y.side side ≡ false → received_in y es + times_in y rs < 2 ^ 32) → (y : Name) → is_same_side y.side side ≡ false → received_in y (taken_up purged x es) + times_in y rs < 2 ^ 32
fit-taken purged side rs x es r h y o = go (is_same y x) refl
  where
    here : (b : Bool) → was_purged purged x.instance ≡ b → is_same_side x.side side ≡ false → received_in x (taken_up purged x es) + times_in x rs < 2 ^ 32
    here true p o' = let e = ap (λ (l : List Import). received_in x l) (taken-not purged x es p) in let m = h x o' in omega (arith, e, m)
    here false p o' = let e = received-taken purged x es p in let m = room-below purged rs x es p r in omega (arith, e, m)

    go : (b : Bool) → is_same y x ≡ b → received_in y (taken_up purged x es) + times_in y rs < 2 ^ 32
    go true q = subst (λ (m : Name). received_in m (taken_up purged x es) + times_in m rs < 2 ^ 32) (sym (same-is y x q)) (here (was_purged purged x.instance) refl (subst (λ (m : Name). is_same_side m.side side ≡ false) (same-is y x q) o))
    go false q = let e = received-other purged x y es q in let m = h y o in omega (arith, e, m)

fit-all : (purged : List Bool) (side : Side) (rs : List Release) (xs : List Name) (es : List Import) → full_among purged rs xs es ≡ None → ((y : Name) → is_same_side y.side side ≡ false → received_in y es + times_in y rs < 2 ^ 32) → (y : Name) → is_same_side y.side side ≡ false → received_in y (all_taken_up purged xs es) + times_in y rs < 2 ^ 32
fit-all purged side rs [] es n h = h
fit-all purged side rs (x ∷ xs) es n h =
    let parts = full-none purged rs x xs es n in
    fit-all purged side rs xs (taken_up purged x es) parts.1 (fit-taken purged side rs x es parts.0 h)

length-all : (purged : List Bool) (xs : List Name) (es : List Import) → length (all_taken_up purged xs es) ≤ length es + length xs
length-all purged [] es = omega arith
length-all purged (x ∷ xs) es = let n = length-all purged xs (taken_up purged x es) in let m = length-taken_up purged x es in omega (arith, n, m)

pub keeps-accepted : (s : Imported) (capacity capacity' : ℕ) (xs : List Name) → KeepsImports s capacity → are_others s.side xs ≡ true → full_among s.purged s.releases xs s.proxies ≡ None → length s.proxies + length xs + length s.releases ≤ capacity' → is_rising import_name (all_taken_up s.purged xs s.proxies) ≡ true → KeepsImports (record s { proxies = all_taken_up s.purged xs s.proxies }) capacity'
keeps-accepted s capacity capacity' xs h o n room rising = record {
  proxies_rise = rising;
  releases_rise = h.releases_rise;
  room = let m = length-all s.purged xs s.proxies in omega (arith, m, room);
  others = others-all s.purged s.side xs s.proxies o h.others;
  fit = fit-all s.purged s.side s.releases xs s.proxies n h.fit;
}

-- ---- releases that are sent

after-drop : (n : ℕ) (k : Name) (rs : List Release) → all_after release_name k rs ≡ true → all_after release_name k (drop n rs) ≡ true
after-drop zero k rs r = r
after-drop (suc n) k [] r = r
after-drop (suc n) k (e ∷ rs) r = after-drop n k rs (and_parts _ (all_after release_name k rs) r).1

rising-drop : (n : ℕ) (rs : List Release) → is_rising release_name rs ≡ true → is_rising release_name (drop n rs) ≡ true
rising-drop zero rs r = r
rising-drop (suc n) [] r = r
rising-drop (suc n) (e ∷ rs) r = rising-drop n rs (and_parts (all_after release_name (release_name e) rs) (is_rising release_name rs) r).1

length-drop-le : (n : ℕ) (rs : List Release) → length (drop n rs) ≤ length rs
length-drop-le zero rs = omega arith
length-drop-le (suc n) [] = omega arith
length-drop-le (suc n) (e ∷ rs) = let m = length-drop-le n rs in omega (arith, m)

times-drop : (n : ℕ) (x : Name) (rs : List Release) → is_rising release_name rs ≡ true → times_in x (drop n rs) ≤ times_in x rs
times-drop n x rs r = go (seen-dropped release_name n (release_key x) rs r)
  where
    go : (named_at release_name (release_key x) (drop n rs) ≡ None) ⊎ (named_at release_name (release_key x) (drop n rs) ≡ named_at release_name (release_key x) rs) → times_in x (drop n rs) ≤ times_in x rs
    go (inl e) = let m : times_in x (drop n rs) ≡ 0 = ap times_at e in omega (arith, m)
    go (inr e) = let m = ap times_at e in omega (arith, m)

pub keeps-cleared : (s : Imported) (capacity : ℕ) (n : ℕ) → KeepsImports s capacity → KeepsImports (record s { releases = drop n s.releases }) capacity
keeps-cleared s capacity n h = record {
  proxies_rise = h.proxies_rise;
  releases_rise = rising-drop n s.releases h.releases_rise;
  room = let m = length-drop-le n s.releases in let o = h.room in omega (arith, m, o);
  others = h.others;
  fit = λ y o. let m = times-drop n y s.releases h.releases_rise in let t = h.fit y o in omega (arith, m, t);
}

-- ---- an instance that died

length-filter-le : {X : Type 0} (p : X → Bool) (xs : List X) → length (filter p xs) ≤ length xs
length-filter-le p [] = omega arith
length-filter-le p (x ∷ xs) = go (p x) refl (length-filter-le p xs)
  where
    go : (b : Bool) → p x ≡ b → length (filter p xs) ≤ length xs → length (filter p (x ∷ xs)) ≤ length (x ∷ xs)
    go true q m = simp q (omega (arith, m))
    go false q m = simp q (omega (arith, m))

is_other : ℕ → Name → Bool
is_other instance x = not (x.instance == instance)

there-filter : (instance : ℕ) (y : Name) (es : List Import) → is_there import_name y (filter (is_proxy_of_other instance) es) ≡ true → is_there import_name y es ≡ true
unfolding is_other
there-filter instance y es t = go (is_other instance y) refl
  where
    go : (b : Bool) → is_other instance y ≡ b → is_there import_name y es ≡ true
    go true q = sym (ap (λ (o : Option Import). is_some o) (seen-kept import_name (is_proxy_of_other instance) (is_other instance) y es (λ e. refl) q)) ∙ t
    go false q = absurd (let e = ap (λ (o : Option Import). is_some o) (seen-left-out import_name (is_proxy_of_other instance) (is_other instance) y es (λ e. refl) q) in cc)

received-filter : (instance : ℕ) (y : Name) (es : List Import) → received_in y (filter (is_proxy_of_other instance) es) ≤ received_in y es
unfolding is_other
received-filter instance y es = go (is_other instance y) refl
  where
    go : (b : Bool) → is_other instance y ≡ b → received_in y (filter (is_proxy_of_other instance) es) ≤ received_in y es
    go true q = let e = ap received_at (seen-kept import_name (is_proxy_of_other instance) (is_other instance) y es (λ e. refl) q) in omega (arith, e)
    go false q = let e : received_in y (filter (is_proxy_of_other instance) es) ≡ 0 = ap received_at (seen-left-out import_name (is_proxy_of_other instance) (is_other instance) y es (λ e. refl) q) in omega (arith, e)

times-filter : (instance : ℕ) (y : Name) (rs : List Release) → times_in y (filter (is_release_of_other instance) rs) ≤ times_in y rs
unfolding is_other
times-filter instance y rs = go (is_other instance (release_key y)) refl
  where
    go : (b : Bool) → is_other instance (release_key y) ≡ b → times_in y (filter (is_release_of_other instance) rs) ≤ times_in y rs
    go true q = let e = ap times_at (seen-kept release_name (is_release_of_other instance) (is_other instance) (release_key y) rs (λ e. refl) q) in omega (arith, e)
    go false q = let e : times_in y (filter (is_release_of_other instance) rs) ≡ 0 = ap times_at (seen-left-out release_name (is_release_of_other instance) (is_other instance) (release_key y) rs (λ e. refl) q) in omega (arith, e)

pub keeps-purged : (s : Imported) (capacity : ℕ) (instance : ℕ) (now : List Bool) → KeepsImports s capacity → KeepsImports (record s { proxies = filter (is_proxy_of_other instance) s.proxies; releases = filter (is_release_of_other instance) s.releases; purged = now }) capacity
keeps-purged s capacity instance now h = record {
  proxies_rise = rising-filter import_name (is_proxy_of_other instance) s.proxies h.proxies_rise;
  releases_rise = rising-filter release_name (is_release_of_other instance) s.releases h.releases_rise;
  room = let n = length-filter-le (is_proxy_of_other instance) s.proxies in let m = length-filter-le (is_release_of_other instance) s.releases in let o = h.room in omega (arith, n, m, o);
  others = λ y t. h.others y (there-filter instance y s.proxies t);
  fit = λ y o. let n = received-filter instance y s.proxies in let m = times-filter instance y s.releases in let t = h.fit y o in omega (arith, n, m, t);
}

-- ---- a name that is held

pub there-held : (x : Name) (es : List Import) → 0 < holders_in x es → is_there import_name x es ≡ true
there-held x es h = go (named_at import_name x es) refl
  where
    go : (o : Option Import) → named_at import_name x es ≡ o → is_there import_name x es ≡ true
    go None s = absurd (let e : holders_in x es ≡ 0 = ap holders_at s in omega (arith, e, h))
    go (Some e) s = ap (λ (o : Option Import). is_some o) s

-- names of rising entries

after-names : (x : Name) (es : List Import) → all_after itself x (map import_name es) ≡ all_after import_name x es
after-names x [] = refl
after-names x (e ∷ es) = ap (λ (b : Bool). is_before x e.name && b) (after-names x es)

rising-names : (es : List Import) → is_rising itself (map import_name es) ≡ is_rising import_name es
rising-names [] = refl
rising-names (e ∷ es) =
    ap (λ (b : Bool). b && is_rising itself (map import_name es)) (after-names e.name es) ∙ ap (λ (b : Bool). all_after import_name e.name es && b) (rising-names es)

pub held-names-rise : (instance : ℕ) (es : List Import) → is_rising import_name es ≡ true → is_rising itself (map import_name (filter (is_held_in instance) es)) ≡ true
held-names-rise instance es r = rising-names (filter (is_held_in instance) es) ∙ rising-filter import_name (is_held_in instance) es r
