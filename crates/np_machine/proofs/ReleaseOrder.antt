-- Lists of releases that rise stay so.
use Rattle.std.proofs.Common.{◌≡◌, ℕ, zero, suc, ◌+◌, ◌≤◌, List, [], ◌∷◌, length, true, false, ◌&&◌, refl, arith, drop, take, Option, Some, None}
use Rattle.std.specs.Prelude.{◌==◌}
use Rattle.std.proofs.lemmas.Bool.Decides.{nat_tests}
use Rattle.np_proxy_release.specs.declared.release.Release.{Release}
use Rattle.np_proxy_release.specs.Release.{IsRelease, is_released_before, is_behind, AreRisingFrom, AreRising}
use Rattle.np_machine.specs.Dropping.{add_release}
use Rattle.np_machine.specs.Teardown.{pending_without}
use Rattle.np_machine.proofs.BalanceLemmas.{by_if}

-- ---- the order

before-trans : (a b c : Release) → is_released_before a b ≡ true → is_released_before b c ≡ true → is_released_before a c ≡ true
before-trans a b c e f = grind (arith, nat_tests)

before-total : (r s : Release) → (r.instance == s.instance && r.serial == s.serial) ≡ false → is_released_before r s ≡ false → is_released_before s r ≡ true
before-total r s e f = grind (arith, nat_tests)

behind-trans : (before : Option Release) (r t : Release) → is_behind before r ≡ true → is_released_before r t ≡ true → is_behind before t ≡ true
behind-trans None r t e f = refl
behind-trans (Some b) r t e f = before-trans b r t e f

-- only the name of the release before decides
named-alike : (s : Release) (n : ℕ) (rs : List Release) → AreRisingFrom (Some s) rs → AreRisingFrom (Some (record s { times = n })) rs
named-alike s n [] h = tt
named-alike s n (t ∷ rs) h = h

behind-alike : (before : Option Release) (s : Release) (n : ℕ) → is_behind before s ≡ true → is_behind before (record s { times = n }) ≡ true
behind-alike None s n e = refl
behind-alike (Some b) s n e = e

-- ---- the lists

pub rising-start : (before : Option Release) (rs : List Release) → AreRisingFrom before rs → AreRising rs
rising-start before [] h = tt
rising-start before (r ∷ rs) h = (h.0, refl, h.2)

rising-after : (before : Option Release) (r : Release) (rs : List Release) → is_behind before r ≡ true → AreRisingFrom (Some r) rs → AreRisingFrom before rs
rising-after before r [] b h = tt
rising-after before r (t ∷ rs) b h = (h.0, behind-trans before r t b h.1, h.2)

pub rising-add : (before : Option Release) (r : Release) (rs : List Release) → IsRelease r → is_behind before r ≡ true → AreRisingFrom before rs → AreRisingFrom before (add_release r rs)
rising-add before r [] k b h = (k, b, tt)
rising-add before r (s ∷ rs) k b h = by_if (λ l. AreRisingFrom before l) (r.instance == s.instance && r.serial == s.serial) _ _ (λ e. joined) (λ e. by_if (λ l. AreRisingFrom before l) (is_released_before r s) _ _ (λ f. (k, b, (h.0, f, h.2))) (λ f. (h.0, h.1, rising-add (Some s) r rs k (before-total r s e f) h.2)))
  where
    joined : AreRisingFrom before (record s { times = s.times + r.times } ∷ rs)
    joined = (record { instance = h.0.instance; serial = h.0.serial; times = omega (arith, h.0.times) }, behind-alike before s (s.times + r.times) h.1, named-alike s (s.times + r.times) rs h.2)

rising-take : (n : ℕ) (before : Option Release) (rs : List Release) → AreRisingFrom before rs → AreRisingFrom before (take n rs)
rising-take zero before rs h = tt
rising-take (suc n) before [] h = tt
rising-take (suc n) before (r ∷ rs) h = (h.0, h.1, rising-take n (Some r) rs h.2)

pub take-rises : (n : ℕ) (rs : List Release) → AreRising rs → AreRising (take n rs)
take-rises n rs h = rising-take n None rs h

rising-drop : (n : ℕ) (before : Option Release) (rs : List Release) → AreRisingFrom before rs → AreRising (drop n rs)
rising-drop zero before rs h = rising-start before rs h
rising-drop (suc n) before [] h = tt
rising-drop (suc n) before (r ∷ rs) h = rising-drop n (Some r) rs h.2

pub drop-rises : (n : ℕ) (rs : List Release) → AreRising rs → AreRising (drop n rs)
drop-rises n rs h = rising-drop n None rs h

rising-without : (n : ℕ) (before : Option Release) (rs : List Release) → AreRisingFrom before rs → AreRisingFrom before (pending_without n rs)
rising-without n before [] h = tt
rising-without n before (r ∷ rs) h = by_if (λ l. AreRisingFrom before l) (n == r.instance) _ _ (λ e. rising-after before r (pending_without n rs) h.1 (rising-without n (Some r) rs h.2)) (λ e. (h.0, h.1, rising-without n (Some r) rs h.2))

pub without-rises : (n : ℕ) (rs : List Release) → AreRising rs → AreRising (pending_without n rs)
without-rises n rs h = rising-without n None rs h

pub take-few : (n : ℕ) (rs : List Release) → length (take n rs) ≤ n
take-few zero rs = omega arith
take-few (suc n) [] = omega arith
take-few (suc n) (r ∷ rs) = omega (arith, take-few n rs)
