-- What the changes of a list of instances leave of their last serials.
use Rattle.std.proofs.Common.{◌≡◌, ℕ, ◌≤◌, List, [], ◌∷◌, ◌++◌, Bool, true, false, refl, arith}
use Rattle.std.specs.Prelude.{◌==◌}
use Rattle.np_values.specs.declared.value.Value.{Value}
use Rattle.np_life.specs.declared.phase.Phase.{Phase}
use Rattle.np_machine.specs.declared.instance.Instance.{Instance}
use Rattle.np_machine.specs.Instances.{is_begun, serial_in, with_serial, with_slots, with_phase, destroy_in}

pub slots-serial : (m n : ℕ) (vs : List Value) (is : List Instance) → serial_in m (with_slots n vs is) ≡ serial_in m is
slots-serial m n vs [] = refl
slots-serial m n vs (i ∷ is) = grind (arith, slots-serial m n vs is)

pub phase-serial : (m n : ℕ) (phase : Phase) (is : List Instance) → serial_in m (with_phase n phase is) ≡ serial_in m is
phase-serial m n phase [] = refl
phase-serial m n phase (i ∷ is) = grind (arith, phase-serial m n phase is)

pub destroy-serial : (m n : ℕ) (is : List Instance) → serial_in m (destroy_in n is) ≡ serial_in m is
destroy-serial m n [] = refl
destroy-serial m n (i ∷ is) = grind (arith, destroy-serial m n is)

pub begun-serial : (m n : ℕ) (phase : Phase) (vs : List Value) (is : List Instance) → serial_in m (is ++ record { number = n; phase = phase; serial = 0; slots = vs } ∷ []) ≡ serial_in m is
begun-serial m n phase vs [] = grind arith
begun-serial m n phase vs (i ∷ is) = grind (arith, begun-serial m n phase vs is)

-- the new serial is the last one, where the instance was begun
pub with_serial-own : (n s : ℕ) (is : List Instance) → is_begun n is ≡ true → serial_in n (with_serial n s is) ≡ s
with_serial-own n s [] e = cc
with_serial-own n s (i ∷ is) e = go (n == i.number) refl (λ f. with_serial-own n s is f)
  where
    go : (b : Bool) → (n == i.number) ≡ b → (is_begun n is ≡ true → serial_in n (with_serial n s is) ≡ s) → serial_in n (with_serial n s (i ∷ is)) ≡ s
    go true f ih = simp f refl
    go false f ih = let e' = simp f at e in simp f (ih e')

-- no serial falls
pub with_serial-more : (m n s : ℕ) (is : List Instance) → serial_in n is ≤ s → serial_in m is ≤ serial_in m (with_serial n s is)
with_serial-more m n s [] l = omega arith
with_serial-more m n s (i ∷ is) l = go (n == i.number) refl (m == i.number) refl (λ k. with_serial-more m n s is k)
  where
    go : (b : Bool) → (n == i.number) ≡ b → (c : Bool) → (m == i.number) ≡ c → (serial_in n is ≤ s → serial_in m is ≤ serial_in m (with_serial n s is)) → serial_in m (i ∷ is) ≤ serial_in m (with_serial n s (i ∷ is))
    go true e true f ih = let l' = simp e at l in simp (e, f) l'
    go true e false f ih = simp (e, f) (omega arith)
    go false e true f ih = simp (e, f) (omega arith)
    go false e false f ih = let l' = simp e at l in simp (e, f) (ih l')
