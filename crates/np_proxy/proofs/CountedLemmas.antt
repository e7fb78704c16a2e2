-- Each proxy came at least once, so each pending release gives back at least one reference.
use Rattle.std.proofs.Common.{◌≡◌, ℕ, zero, suc, ◌+◌, ◌<◌, List, [], ◌∷◌, drop, Bool, true, false, refl, sym, ap, ◌∙◌, arith, true≢false}
use Rattle.std.specs.Prelude.{nat_lt, ◌&&◌}
use Rattle.std.specs.List.{filter, list_all}
use Rattle.std.proofs.lemmas.Bool.{lt-ltb}
use Rattle.std.proofs.lemmas.Bool.Decides.{nat_tests}
use Rattle.np_values.specs.declared.name.Name.{Name}
use Rattle.np_values.specs.Name.{is_before}
use Rattle.np_proxy_release.specs.declared.release.Release.{Release}
use Rattle.np_proxy.specs.declared.import.Import.{Import}
use Rattle.np_proxy_release.specs.Release.{AreTypedReleases}
use Rattle.np_proxy.specs.Named.{is_same, named_at, is_there, at_name, with_named, without_named}
use Rattle.np_proxy.specs.Imports.{AreCounted, has_come, gives_back, is_typed, times_at, import_name, release_name, received_in, was_purged, came_again, first_came, taken_up, all_taken_up, more_times, with_release, release_of}
use Rattle.np_proxy.proofs.Names.{and_parts, and_both}

module _ {X : Type 0} (name : X → Name) (test : X → Bool) where
  pub all-at : (x : Name) (f : X → X) (es : List X) → ((e : X) → test e ≡ true → test (f e) ≡ true) → list_all test es ≡ true → list_all test (at_name name x f es) ≡ true
  all-at x f [] k a = refl
  all-at x f (e ∷ es) k a = go (is_same x (name e)) refl (all-at x f es k (and_parts (test e) (list_all test es) a).1)
    where
      parts : (test e ≡ true) × (list_all test es ≡ true)
      parts = and_parts (test e) (list_all test es) a

      go : (b : Bool) → is_same x (name e) ≡ b → list_all test (at_name name x f es) ≡ true → list_all test (at_name name x f (e ∷ es)) ≡ true
      go true q ih = simp q (and_both (test (f e)) (list_all test es) (k e parts.0) parts.1)
      go false q ih = simp q (and_both (test e) (list_all test (at_name name x f es)) parts.0 ih)

  pub all-with : (w : X) (es : List X) → test w ≡ true → list_all test es ≡ true → list_all test (with_named name w es) ≡ true
  all-with w [] t a = and_both (test w) true t refl
  all-with w (e ∷ es) t a = go (is_before (name w) (name e)) refl (all-with w es t (and_parts (test e) (list_all test es) a).1)
    where
      go : (b : Bool) → is_before (name w) (name e) ≡ b → list_all test (with_named name w es) ≡ true → list_all test (with_named name w (e ∷ es)) ≡ true
      go true q ih = simp q (and_both (test w) (list_all test (e ∷ es)) t a)
      go false q ih = simp q (and_both (test e) (list_all test (with_named name w es)) (and_parts (test e) (list_all test es) a).0 ih)

  pub all-without : (x : Name) (es : List X) → list_all test es ≡ true → list_all test (without_named name x es) ≡ true
  all-without x [] a = refl
  all-without x (e ∷ es) a = go (is_same x (name e)) refl (all-without x es (and_parts (test e) (list_all test es) a).1)
    where
      go : (b : Bool) → is_same x (name e) ≡ b → list_all test (without_named name x es) ≡ true → list_all test (without_named name x (e ∷ es)) ≡ true
      go true q ih = simp q (and_parts (test e) (list_all test es) a).1
      go false q ih = simp q (and_both (test e) (list_all test (without_named name x es)) (and_parts (test e) (list_all test es) a).0 ih)

pub all-filter : {X : Type 0} (test keeps : X → Bool) (es : List X) → list_all test es ≡ true → list_all test (filter keeps es) ≡ true
all-filter test keeps [] a = refl
all-filter test keeps (e ∷ es) a = go (keeps e) refl (all-filter test keeps es (and_parts (test e) (list_all test es) a).1)
  where
    go : (b : Bool) → keeps e ≡ b → list_all test (filter keeps es) ≡ true → list_all test (filter keeps (e ∷ es)) ≡ true
    go true q ih = simp q (and_both (test e) (list_all test (filter keeps es)) (and_parts (test e) (list_all test es) a).0 ih)
    go false q ih = simp q ih

pub all-drop : {X : Type 0} (test : X → Bool) (n : ℕ) (es : List X) → list_all test es ≡ true → list_all test (drop n es) ≡ true
all-drop test zero es a = a
all-drop test (suc n) [] a = a
all-drop test (suc n) (e ∷ es) a = all-drop test n es (and_parts (test e) (list_all test es) a).1

-- a proxy that is there came at least once
came-in : (x : Name) (es : List Import) → list_all has_come es ≡ true → is_there import_name x es ≡ true → nat_lt 0 (received_in x es) ≡ true
came-in x [] a t = absurd (true≢false (sym t))
came-in x (e ∷ es) a t = go (is_same x e.name) refl (came-in x es (and_parts (has_come e) (list_all has_come es) a).1)
  where
    go : (b : Bool) → is_same x e.name ≡ b → (is_there import_name x es ≡ true → nat_lt 0 (received_in x es) ≡ true) → nat_lt 0 (received_in x (e ∷ es)) ≡ true
    go true q ih = simp q (and_parts (has_come e) (list_all has_come es) a).0
    go false q ih = let t' = simp q at t in simp q (ih t')

more-given : (n : ℕ) (r : Release) → gives_back r ≡ true → gives_back (more_times n r) ≡ true
more-given n r g = more r.times g
  where
    more : (m : ℕ) → nat_lt 0 m ≡ true → nat_lt 0 (m + n) ≡ true
    more m e = grind (arith, nat_tests)

all-given : (r : Release) (rs : List Release) → gives_back r ≡ true → list_all gives_back rs ≡ true → list_all gives_back (with_release r rs) ≡ true
all-given r rs g a = go (is_there release_name (release_name r) rs) refl
  where
    go : (b : Bool) → is_there release_name (release_name r) rs ≡ b → list_all gives_back (with_release r rs) ≡ true
    go true q = simp q (all-at release_name gives_back (release_name r) (more_times r.times) rs (more-given r.times) a)
    go false q = simp q (all-with release_name gives_back r rs g a)

again-come : (e : Import) → has_come e ≡ true → has_come (came_again e) ≡ true
again-come e c = more e.received
  where
    more : (m : ℕ) → nat_lt 0 (m + 1) ≡ true
    more m = grind (arith, nat_tests)

all-taken : (purged : List Bool) (x : Name) (es : List Import) → list_all has_come es ≡ true → list_all has_come (taken_up purged x es) ≡ true
all-taken purged x es a = go (was_purged purged x.instance) refl (is_there import_name x es) refl
  where
    go : (b : Bool) → was_purged purged x.instance ≡ b → (d : Bool) → is_there import_name x es ≡ d → list_all has_come (taken_up purged x es) ≡ true
    go true p d q = simp p a
    go false p true q = simp (p, q) (all-at import_name has_come x came_again es again-come a)
    go false p false q = simp (p, q) (all-with import_name has_come (first_came x) es refl a)

came-all : (purged : List Bool) (xs : List Name) (es : List Import) → list_all has_come es ≡ true → list_all has_come (all_taken_up purged xs es) ≡ true
came-all purged [] es a = a
came-all purged (x ∷ xs) es a = came-all purged xs (taken_up purged x es) (all-taken purged x es a)

-- ---- the numbers of a pending release are of their types

typed-more : (n : ℕ) (r : Release) → is_typed r ≡ true → r.times + n < 4294967296 → is_typed (more_times n r) ≡ true
typed-more n r t small =
    let h = and_parts (nat_lt r.instance 256) (nat_lt r.serial 4294967296 && nat_lt r.times 4294967296) t in
    let k = and_parts (nat_lt r.serial 4294967296) (nat_lt r.times 4294967296) h.1 in
    and_both (nat_lt r.instance 256) (nat_lt r.serial 4294967296 && nat_lt (r.times + n) 4294967296) h.0
    (and_both (nat_lt r.serial 4294967296) (nat_lt (r.times + n) 4294967296) k.0 (lt-ltb (r.times + n) 4294967296 small))

pub typed-at : (x : Name) (n : ℕ) (rs : List Release) → times_at (named_at release_name x rs) + n < 4294967296 → list_all is_typed rs ≡ true → list_all is_typed (at_name release_name x (more_times n) rs) ≡ true
typed-at x n [] small a = refl
typed-at x n (r ∷ rs) small a = go (is_same x (release_name r)) refl (λ s. typed-at x n rs s parts.1)
  where
    parts : (is_typed r ≡ true) × (list_all is_typed rs ≡ true)
    parts = and_parts (is_typed r) (list_all is_typed rs) a

    go : (b : Bool) → is_same x (release_name r) ≡ b → (times_at (named_at release_name x rs) + n < 4294967296 → list_all is_typed (at_name release_name x (more_times n) rs) ≡ true) → list_all is_typed (at_name release_name x (more_times n) (r ∷ rs)) ≡ true
    go true q ih = let small' : r.times + n < 4294967296 = simp q at small in simp q (and_both (is_typed (more_times n r)) (list_all is_typed rs) (typed-more n r parts.0 small') parts.1)
    go false q ih = let small' : times_at (named_at release_name x rs) + n < 4294967296 = simp q at small in simp q (and_both (is_typed r) (list_all is_typed (at_name release_name x (more_times n) rs)) parts.0 (ih small'))

pub typed-with : (r : Release) (rs : List Release) → is_typed r ≡ true → list_all is_typed rs ≡ true → list_all is_typed (with_named release_name r rs) ≡ true
typed-with r rs t a = all-with release_name is_typed r rs t a

pub is-typed : (r : Release) → r.instance < 256 → r.serial < 4294967296 → r.times < 4294967296 → is_typed r ≡ true
is-typed r i s t =
    and_both (nat_lt r.instance 256) (nat_lt r.serial 4294967296 && nat_lt r.times 4294967296) (lt-ltb r.instance 256 i)
    (and_both (nat_lt r.serial 4294967296) (nat_lt r.times 4294967296) (lt-ltb r.serial 4294967296 s) (lt-ltb r.times 4294967296 t))

below : (n m : ℕ) → nat_lt n m ≡ true → n < m
below n m e = grind (arith, nat_tests)

pub are-typed : (rs : List Release) → list_all is_typed rs ≡ true → AreTypedReleases rs
are-typed [] a = tt
are-typed (r ∷ rs) a =
    let parts = and_parts (is_typed r) (list_all is_typed rs) a in
    let h = and_parts (nat_lt r.instance 256) (nat_lt r.serial 4294967296 && nat_lt r.times 4294967296) parts.0 in
    let k = and_parts (nat_lt r.serial 4294967296) (nat_lt r.times 4294967296) h.1 in
    (record { instance = below r.instance 256 h.0; serial = below r.serial 4294967296 k.0; times = below r.times 4294967296 k.1 }, are-typed rs parts.1)

-- ---- what each call leaves

pub counted-accepted : (purged : List Bool) (xs : List Name) (es : List Import) (rs : List Release) → AreCounted es rs → AreCounted (all_taken_up purged xs es) rs
counted-accepted purged xs es rs h = record { came = came-all purged xs es h.came; given = h.given; typed = h.typed }

pub counted-edited : (x : Name) (f : Import → Import) (es : List Import) (rs : List Release) → ((e : Import) → (f e).received ≡ e.received) → AreCounted es rs → AreCounted (at_name import_name x f es) rs
counted-edited x f es rs k h = record { came = all-at import_name has_come x f es (λ e t. ap (λ n. nat_lt 0 n) (k e) ∙ t) h.came; given = h.given; typed = h.typed }

pub counted-gone : (x : Name) (es : List Import) (rs : List Release) → is_there import_name x es ≡ true → AreCounted es rs
    → list_all is_typed (with_release (release_of x (received_in x es)) rs) ≡ true → AreCounted (without_named import_name x es) (with_release (release_of x (received_in x es)) rs)
counted-gone x es rs t h typed = record {
  came = all-without import_name has_come x es h.came;
  given = all-given (release_of x (received_in x es)) rs (came-in x es h.came t) h.given;
  typed = typed;
}

pub counted-dropped : (n : ℕ) (es : List Import) (rs : List Release) → AreCounted es rs → AreCounted es (drop n rs)
counted-dropped n es rs h = record { came = h.came; given = all-drop gives_back n rs h.given; typed = all-drop is_typed n rs h.typed }

pub counted-filtered : (p : Import → Bool) (q : Release → Bool) (es : List Import) (rs : List Release) → AreCounted es rs → AreCounted (filter p es) (filter q rs)
counted-filtered p q es rs h = record { came = all-filter has_come p es h.came; given = all-filter gives_back q rs h.given; typed = all-filter is_typed q rs h.typed }
