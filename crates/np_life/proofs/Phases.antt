-- Lists of phases.
use Rattle.std.proofs.Common.{◌≡◌, ◌≢◌, ◌-◌, ◌<◌, ◌≤◌, ℕ, zero, suc, Bool, true, false, ◌&&◌, List, [], ◌∷◌, ◌++◌, length, take, get_or, set, refl, ap, sym, ◌∙◌, subst, arith}
use Rattle.std.specs.Prelude.{◌==◌}
use Rattle.std.proofs.lemmas.List.{length-take-le}
use Rattle.std.proofs.lemmas.Bool.Decides.{nat_tests}
use Rattle.std.proofs.Math.Seq.{take-set-lt}
use Rattle.np_life.specs.declared.phase.Phase.{Phase}
use Rattle.np_life.specs.declared.phase.Phase.TheVariants.{Absent, Live, Destroying, Dead}
use Rattle.np_life.specs.Instances.{phase_of, with_phase, is_begun, are_begun, follows, NeverGoBack}

-- a phase may stay
stays : (phase : Phase) → follows phase phase ≡ true
stays Absent = refl
stays Live = refl
stays Destroying = refl
stays Dead = refl

begun-is-not-absent : (phase : Phase) → is_begun phase ≡ true → phase ≡ Absent → ⊥
begun-is-not-absent Absent begun same = cc
begun-is-not-absent Live begun same = cc
begun-is-not-absent Destroying begun same = cc
begun-is-not-absent Dead begun same = cc

both : (a b : Bool) → (a && b) ≡ true → (a ≡ true) × (b ≡ true)
both true true e = (refl, refl)
both true false e = cc
both false b e = cc

begun-at : (phases : List Phase) (i : ℕ) → are_begun phases ≡ true → i < length phases → is_begun (get_or phases i Absent) ≡ true
begun-at [] i begun within = absurd (omega (arith, within))
begun-at (p ∷ ps) zero begun within = (both (is_begun p) (are_begun ps) begun).0
begun-at (p ∷ ps) (suc i) begun within = begun-at ps i (both (is_begun p) (are_begun ps) begun).1 (omega (arith, within))

pub begun-push : (phases : List Phase) (phase : Phase) → are_begun phases ≡ true → is_begun phase ≡ true → are_begun (phases ++ phase ∷ []) ≡ true
begun-push [] phase begun one = simp one refl
begun-push (p ∷ ps) phase begun one =
    let parts = both (is_begun p) (are_begun ps) begun in
    simp parts.0 (begun-push ps phase parts.1 one)

pub begun-set : (phases : List Phase) (i : ℕ) (phase : Phase) → are_begun phases ≡ true → is_begun phase ≡ true → are_begun (set phases i phase) ≡ true
begun-set [] i phase begun one = refl
begun-set (p ∷ ps) zero phase begun one = simp one (both (is_begun p) (are_begun ps) begun).1
begun-set (p ∷ ps) (suc i) phase begun one =
    let parts = both (is_begun p) (are_begun ps) begun in
    simp parts.0 (begun-set ps i phase parts.1 one)

not-zero : (i : ℕ) → (suc i == 0) ≡ false
not-zero i = grind (arith, nat_tests)

pub phase-at : (phases : List Phase) (i : ℕ) → phase_of phases (suc i) ≡ get_or phases i Absent
phase-at phases i = let e : suc i - 1 ≡ i = omega arith in rw (not-zero i, e) refl

-- ---- which numbers were begun

get-past : (phases : List Phase) (i : ℕ) → length phases ≤ i → get_or phases i Absent ≡ Absent
get-past [] i past = refl
get-past (p ∷ ps) zero past = absurd (omega (arith, past))
get-past (p ∷ ps) (suc i) past = get-past ps i (omega (arith, past))

not-past : (phases : List Phase) (i : ℕ) → (get_or phases i Absent ≢ Absent) → i < length phases
not-past [] i found = absurd (found refl)
not-past (p ∷ ps) zero found = omega arith
not-past (p ∷ ps) (suc i) found = let n = not-past ps i found in omega (arith, n)

pub number-within : (phases : List Phase) (number : ℕ) → (phase_of phases number ≢ Absent) → (0 < number) × (number - 1 < length phases)
number-within phases zero found = absurd (found refl)
number-within phases (suc i) found =
    let n = not-past phases i (λ e. found (phase-at phases i ∙ e)) in
    (omega arith, omega (arith, n))

pub begun-phase : (phases : List Phase) (i : ℕ) → are_begun phases ≡ true → i < length phases → get_or phases i Absent ≢ Absent
begun-phase phases i begun within same = begun-is-not-absent (get_or phases i Absent) (begun-at phases i begun within) same

-- ---- the order of phases

pub begun-next : (p q : Phase) → (p ≢ Absent) → follows p q ≡ true → is_begun q ≡ true
begun-next Absent q found next = absurd (found refl)
begun-next Live Absent found next = cc
begun-next Destroying Absent found next = cc
begun-next Dead Absent found next = cc
begun-next p Live found next = refl
begun-next p Destroying found next = refl
begun-next p Dead found next = refl

push-at : (phases : List Phase) (i : ℕ) → follows (get_or phases i Absent) (get_or (phases ++ Live ∷ []) i Absent) ≡ true
push-at [] zero = refl
push-at [] (suc i) = refl
push-at (p ∷ ps) zero = stays p
push-at (p ∷ ps) (suc i) = push-at ps i

pub order-push : (phases : List Phase) → NeverGoBack phases (phases ++ Live ∷ [])
order-push phases zero = refl
order-push phases (suc i) = simp (phase-at phases i) (simp (phase-at (phases ++ Live ∷ []) i) (push-at phases i))

set-at : (phases : List Phase) (i j : ℕ) (q : Phase) → follows (get_or phases i Absent) q ≡ true → follows (get_or phases j Absent) (get_or (set phases i q) j Absent) ≡ true
set-at [] i j q next = refl
set-at (p ∷ ps) zero zero q next = next
set-at (p ∷ ps) zero (suc j) q next = stays (get_or ps j Absent)
set-at (p ∷ ps) (suc i) zero q next = stays p
set-at (p ∷ ps) (suc i) (suc j) q next = set-at ps i j q next

order-set-at : (phases : List Phase) (number : ℕ) (q : Phase) → (phase_of phases number ≢ Absent) → follows (phase_of phases number) q ≡ true → (other : ℕ) → follows (phase_of phases other) (phase_of (with_phase phases number q) other) ≡ true
order-set-at phases zero q found next other = absurd (found refl)
order-set-at phases (suc i) q found next zero = refl
order-set-at phases (suc i) q found next (suc j) =
    let e : suc i - 1 ≡ i = omega arith in
    let step : follows (get_or phases i Absent) q ≡ true = subst (λ (p : Phase). follows p q ≡ true) (phase-at phases i) next in
    let changed : with_phase phases (suc i) q ≡ set phases i q = rw e refl in
    simp (phase-at phases j) (simp changed (simp (phase-at (set phases i q) j) (set-at phases i j q step)))

pub order-set : (phases : List Phase) (number : ℕ) (q : Phase) → (phase_of phases number ≢ Absent) → follows (phase_of phases number) q ≡ true → NeverGoBack phases (with_phase phases number q)
order-set phases number q found next other = order-set-at phases number q found next other

pub order-same : (phases : List Phase) → NeverGoBack phases phases
order-same phases number = stays (phase_of phases number)

-- ---- the array of the code, of which a part was begun

pub at-within : (phases now : List Phase) (begun number i : ℕ) → take begun phases ≡ now → begun ≤ length phases → i ≡ number → (phase_of now number ≢ Absent) → (1 ≤ i) × (i - 1 < begun)
at-within phases now begun number i view within same found =
    let n = number-within now number found in
    let long : begun ≡ length now = sym (length-take-le begun phases within) ∙ ap (λ (l : List Phase). length l) view in
    (omega (arith, n.0, same), omega (arith, n.1, same, long))

pub edited : (phases now : List Phase) (begun number i : ℕ) (q : Phase) → take begun phases ≡ now → i ≡ number → i - 1 < begun → take begun (set phases (i - 1) q) ≡ with_phase now number q
edited phases now begun number i q view same below =
    take-set-lt begun phases (i - 1) q below ∙ ap (λ (l : List Phase). set l (i - 1) q) view ∙ ap (λ (n : ℕ). set now (n - 1) q) same

pub edited-begun : (phases now : List Phase) (begun number : ℕ) (q : Phase) → take begun phases ≡ now → are_begun (take begun phases) ≡ true → is_begun q ≡ true → are_begun (with_phase now number q) ≡ true
edited-begun phases now begun number q view all one =
    begun-set now (number - 1) q (subst (λ (l : List Phase). are_begun l ≡ true) view all) one
