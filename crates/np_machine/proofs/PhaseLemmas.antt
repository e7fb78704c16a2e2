-- What the changes of a list of instances leave: phases, and the slots.
use Rattle.std.proofs.Common.{◌≡◌, ℕ, zero, suc, ◌+◌, List, [], ◌∷◌, ◌++◌, Bool, true, false, refl, arith}
use Rattle.std.specs.Prelude.{◌==◌}
use Rattle.std.proofs.lemmas.Bool.Decides.{nat_tests}
use Rattle.np_values.specs.declared.name.Name.{Name}
use Rattle.np_values.specs.declared.value.Value.{Value}
use Rattle.np_machine.specs.References.{references_to}
use Rattle.np_life.specs.declared.phase.Phase.{Phase}
use Rattle.np_life.specs.declared.phase.Phase.TheVariants.{Absent, Live, Destroying, Dead}
use Rattle.np_machine.specs.declared.instance.Instance.{Instance}
use Rattle.np_machine.specs.Instances.{is_dead_phase, phase_in, with_slots, with_serial, with_phase, destroying, destroy_in, is_begun}
use Rattle.np_machine.specs.Values.{voids}
use Rattle.np_machine.proofs.Counting.{in_slots}
use Rattle.np_machine.proofs.NameLemmas.{number-is}
use Rattle.np_machine.proofs.BalanceLemmas.{by_if}

pub slots-phase : (m n : ℕ) (vs : List Value) (is : List Instance) → phase_in m (with_slots n vs is) ≡ phase_in m is
slots-phase m n vs [] = refl
slots-phase m n vs (i ∷ is) = grind (arith, slots-phase m n vs is)

pub serial-phase : (m n s : ℕ) (is : List Instance) → phase_in m (with_serial n s is) ≡ phase_in m is
serial-phase m n s [] = refl
serial-phase m n s (i ∷ is) = grind (arith, serial-phase m n s is)

destroying-dead : (phase : Phase) → is_dead_phase (destroying phase) ≡ is_dead_phase phase
destroying-dead Absent = refl
destroying-dead Live = refl
destroying-dead Destroying = refl
destroying-dead Dead = refl

pub destroy-phase : (m n : ℕ) (is : List Instance) → is_dead_phase (phase_in m (destroy_in n is)) ≡ is_dead_phase (phase_in m is)
destroy-phase m n [] = refl
destroy-phase m n (i ∷ is) = go (n == i.number) refl (m == i.number) refl (destroy-phase m n is)
  where
    go : (b : Bool) → (n == i.number) ≡ b → (c : Bool) → (m == i.number) ≡ c → is_dead_phase (phase_in m (destroy_in n is)) ≡ is_dead_phase (phase_in m is) → is_dead_phase (phase_in m (destroy_in n (i ∷ is))) ≡ is_dead_phase (phase_in m (i ∷ is))
    go true e true f ih = simp (e, f) (destroying-dead i.phase)
    go true e false f ih = simp (e, f) refl
    go false e true f ih = simp (e, f) refl
    go false e false f ih = simp (e, f) ih

pub begun-phase : (m n : ℕ) (vs : List Value) (is : List Instance) → is_dead_phase (phase_in m (is ++ record { number = n; phase = Live; serial = 0; slots = vs } ∷ [])) ≡ is_dead_phase (phase_in m is)
begun-phase m n vs [] = by_if (λ (o : Phase). is_dead_phase o ≡ false) (m == n) Live Absent (λ e. refl) (λ e. refl)
begun-phase m n vs (i ∷ is) = go (m == i.number) refl (begun-phase m n vs is)
  where
    go : (b : Bool) → (m == i.number) ≡ b → is_dead_phase (phase_in m (is ++ record { number = n; phase = Live; serial = 0; slots = vs } ∷ [])) ≡ is_dead_phase (phase_in m is) → is_dead_phase (phase_in m (i ∷ (is ++ record { number = n; phase = Live; serial = 0; slots = vs } ∷ []))) ≡ is_dead_phase (phase_in m (i ∷ is))
    go true e ih = simp e refl
    go false e ih = simp e ih

pub dead-phase : (n : ℕ) (is : List Instance) → is_begun n is ≡ true → phase_in n (with_phase n Dead is) ≡ Dead
dead-phase n [] e = cc
dead-phase n (i ∷ is) e = go (n == i.number) refl (λ f. dead-phase n is f)
  where
    go : (b : Bool) → (n == i.number) ≡ b → (is_begun n is ≡ true → phase_in n (with_phase n Dead is) ≡ Dead) → phase_in n (with_phase n Dead (i ∷ is)) ≡ Dead
    go true f ih = simp f refl
    go false f ih = let e' = simp f at e in simp f (ih e')

pub other_side-phase : (m n : ℕ) (is : List Instance) → (n == m) ≡ false → phase_in m (with_phase n Dead is) ≡ phase_in m is
other_side-phase m n [] e = refl
other_side-phase m n (i ∷ is) e = go (n == i.number) refl (m == i.number) refl (other_side-phase m n is e)
  where
    go : (b : Bool) → (n == i.number) ≡ b → (c : Bool) → (m == i.number) ≡ c → phase_in m (with_phase n Dead is) ≡ phase_in m is → phase_in m (with_phase n Dead (i ∷ is)) ≡ phase_in m (i ∷ is)
    go true f true g ih =
        let a = number-is n i.number f in
        let b = number-is m i.number g in
        let z : (n == m) ≡ true = grind (arith, nat_tests) in cc
    go true f false g ih = simp (f, g) refl
    go false f true g ih = simp (f, g) refl
    go false f false g ih = simp (f, g) ih

pub phase-slots : (x : Name) (n : ℕ) (phase : Phase) (is : List Instance) → in_slots x (with_phase n phase is) ≡ in_slots x is
phase-slots x n phase [] = refl
phase-slots x n phase (i ∷ is) = grind (arith, phase-slots x n phase is)

pub destroy-slots : (x : Name) (n : ℕ) (is : List Instance) → in_slots x (destroy_in n is) ≡ in_slots x is
destroy-slots x n [] = refl
destroy-slots x n (i ∷ is) = grind (arith, destroy-slots x n is)

pub slots-append : (x : Name) (is js : List Instance) → in_slots x (is ++ js) ≡ in_slots x is + in_slots x js
slots-append x [] js = omega arith
slots-append x (i ∷ is) js = omega (arith, slots-append x is js)

pub voids-none : (x : Name) (n : ℕ) → references_to x (voids n) ≡ 0
voids-none x zero = refl
voids-none x (suc n) = omega (arith, voids-none x n)
