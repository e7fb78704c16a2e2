-- Pending releases as a message's list.
use Rattle.std.proofs.Common.{◌≡◌, ◌<◌, ℕ, List, [], ◌∷◌, Bool, true, Option, Some, None, refl, arith}
use Rattle.std.specs.Prelude.{◌&&◌, nat_lt}
use Rattle.std.proofs.lemmas.Bool.Decides.{nat_tests}
use Rattle.np_values.specs.Name.{is_before}
use Rattle.np_proxy_release.specs.declared.release.Release.{Release}
use Rattle.np_proxy_release.specs.Release.{IsRelease, AreRising, AreRisingFrom, is_behind}
use Rattle.np_proxy.specs.Named.{all_after, is_rising}
use Rattle.np_proxy.specs.Imports.{release_name}
use Rattle.np_proxy.specs.Sending.{is_counted, are_counted}
use Rattle.np_proxy.proofs.Names.{and_parts}

above : (n : ℕ) → nat_lt 0 n ≡ true → 0 < n
above n e = grind (arith, nat_tests)

counted : (r : Release) → is_counted r ≡ true → IsRelease r
counted r c =
    let h = and_parts (nat_lt 0 r.instance) (nat_lt 0 r.serial && nat_lt 0 r.times) c in
    let k = and_parts (nat_lt 0 r.serial) (nat_lt 0 r.times) h.1 in
    record { instance = above r.instance h.0; serial = above r.serial k.0; times = above r.times k.1 }

behind_first : Option Release → List Release → Bool
behind_first before [] = true
behind_first before (r ∷ rs) = is_behind before r

head : (r : Release) (rs : List Release) → all_after release_name (release_name r) rs ≡ true → behind_first (Some r) rs ≡ true
unfolding behind_first
head r [] a = refl
head r (s ∷ rs) a = (and_parts (is_before (release_name r) (release_name s)) (all_after release_name (release_name r) rs) a).0

rise_from : (before : Option Release) (rs : List Release) → is_rising release_name rs ≡ true → are_counted rs ≡ true → behind_first before rs ≡ true → AreRisingFrom before rs
unfolding behind_first
rise_from before [] rising c b = tt
rise_from before (r ∷ rs) rising c b =
    let h = and_parts (all_after release_name (release_name r) rs) (is_rising release_name rs) rising in
    let m = and_parts (is_counted r) (are_counted rs) c in
    (counted r m.0, b, rise_from (Some r) rs h.1 m.1 (head r rs h.0))

before_none : (rs : List Release) → behind_first None rs ≡ true
unfolding behind_first
before_none [] = refl
before_none (r ∷ rs) = refl

pub rise-as-message : (rs : List Release) → is_rising release_name rs ≡ true → are_counted rs ≡ true → AreRising rs
rise-as-message rs rising c = rise_from None rs rising c (before_none rs)
