-- The phases of the instances that a call doesn't name.
use Rattle.std.proofs.Common.{◌≡◌, ◌≢◌, ◌+◌, ◌-◌, ◌<◌, ℕ, zero, suc, Bool, true, false, List, [], ◌∷◌, ◌++◌, length, get_or, set, refl, sym, ◌∙◌, subst, arith}
use Rattle.std.specs.Prelude.{◌==◌, if◌then◌else◌}
use Rattle.std.proofs.lemmas.List.{get_or-set_same, get_or-set_other}
use Rattle.std.proofs.lemmas.Bool.Decides.{nat_tests}
use Rattle.np_life.specs.declared.phase.Phase.{Phase}
use Rattle.np_life.specs.declared.phase.Phase.TheVariants.{Absent, Live}
use Rattle.np_life.specs.Instances.{phase_of, with_phase}
use Rattle.np_life.proofs.Phases.{phase-at, number-within}

next-same : (i j : ℕ) → (suc i == suc j) ≡ (i == j)
next-same i j = go (i == j) refl
  where
    go : (b : Bool) → (i == j) ≡ b → (suc i == suc j) ≡ (i == j)
    go true q = simp q (grind (arith, nat_tests))
    go false q = simp q (grind (arith, nat_tests))

zero-not : (n : ℕ) → (0 == suc n) ≡ false
zero-not n = grind (arith, nat_tests)

suc-not : (n : ℕ) → (suc n == 0) ≡ false
suc-not n = grind (arith, nat_tests)

number-is : (n i : ℕ) → (n == i) ≡ true → n ≡ i
number-is n i e = grind (arith, nat_tests)

apart : (n i : ℕ) → (n == i) ≡ false → n ≡ i → ⊥
apart n i d e = grind (arith, nat_tests)

set-is : (phases : List Phase) (i j : ℕ) (phase : Phase) → i < length phases → get_or (set phases i phase) j Absent ≡ (if j == i then phase else get_or phases j Absent)
set-is phases i j phase small = go (j == i) refl
  where
    go : (b : Bool) → (j == i) ≡ b → get_or (set phases i phase) j Absent ≡ (if j == i then phase else get_or phases j Absent)
    go true q = simp q (subst (λ m. get_or (set phases i phase) m Absent ≡ phase) (sym (number-is j i q)) (get_or-set_same phases i phase Absent small))
    go false q = simp q (get_or-set_other phases i j phase Absent (apart j i q))

pub one-changes : (phases : List Phase) (changed number : ℕ) (phase : Phase) → phase_of phases changed ≢ Absent
    → phase_of (with_phase phases changed phase) number ≡ (if number == changed then phase else phase_of phases number)
one-changes phases zero number phase found = absurd (found refl)
one-changes phases (suc i) zero phase found = simp (zero-not i) refl
one-changes phases (suc i) (suc j) phase found =
    let e : suc i - 1 ≡ i = omega arith in
    let w = number-within phases (suc i) found in
    let small : i < length phases = omega (arith, w.1) in
    let changed : with_phase phases (suc i) phase ≡ set phases i phase = rw e refl in
    simp (next-same j i) (simp (phase-at phases j) (simp changed (phase-at (set phases i phase) j ∙ set-is phases i j phase small)))

push-is : (phases : List Phase) (i : ℕ) → get_or (phases ++ Live ∷ []) i Absent ≡ (if i == length phases then Live else get_or phases i Absent)
push-is [] zero = refl
push-is [] (suc i) = simp (suc-not i) refl
push-is (p ∷ ps) zero = simp (zero-not (length ps)) refl
push-is (p ∷ ps) (suc i) = simp (next-same i (length ps)) (push-is ps i)

pub one-begins : (phases : List Phase) (number : ℕ) → phase_of (phases ++ Live ∷ []) number ≡ (if number == length phases + 1 then Live else phase_of phases number)
one-begins phases zero = let n : (0 == length phases + 1) ≡ false = grind (arith, nat_tests) in simp n refl
one-begins phases (suc i) =
    let n : (suc i == length phases + 1) ≡ (i == length phases) = let e : length phases + 1 ≡ suc (length phases) = omega arith in rw e (next-same i (length phases)) in
    simp n (simp (phase-at phases i) (phase-at (phases ++ Live ∷ []) i ∙ push-is phases i))
