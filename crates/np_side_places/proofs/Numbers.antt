-- What stands at the first instance of a number.
use Rattle.std.proofs.Common.{◌≡◌, ℕ, zero, suc, ◌<◌, List, [], ◌∷◌, length, get_or, true, false, refl, sym, ap, ◌∙◌, subst, arith}
use Rattle.std.specs.Prelude.{◌==◌}
use Rattle.std.proofs.Math.ListN.{set}
use Rattle.std.proofs.lemmas.Bool.Decides.{nat_tests}
use Rattle.np_values.specs.declared.value.Value.{Value}
use Rattle.np_machine.specs.declared.instance.Instance.{Instance}
use Rattle.np_life.specs.declared.phase.Phase.{Phase}
use Rattle.np_life.specs.declared.phase.Phase.TheVariants as phases
use Rattle.np_machine.specs.Instances.{phase_in, with_phase, destroying, destroy_in, slots_in, with_slots, serial_in, with_serial, is_begun}
use Rattle.np_side_places.specs.Instances.{NoneBefore, First}

pub differ : (a b : ℕ) → (a ≡ b → ⊥) → (a == b) ≡ false
differ a b n = grind (arith, nat_tests)

pub equal : (a b : ℕ) → a ≡ b → (a == b) ≡ true
equal a b n = grind (arith, nat_tests)

pub none_start : (n : ℕ) (es : List Instance) → NoneBefore n es 0
none_start n [] = tt
none_start n (e ∷ es) = tt

pub none_more : (n : ℕ) (es : List Instance) (i : ℕ) (d : Instance) → NoneBefore n es i → i < length es → (n == (get_or es i d).number) ≡ false → NoneBefore n es (suc i)
none_more n [] i d h l q = tt
none_more n (e ∷ es) zero d h l q = (q, none_start n es)
none_more n (e ∷ es) (suc i) d h l q = (h.0, none_more n es i d h.1 (omega arith) q)

pub slots_at : (n : ℕ) (es : List Instance) (i : ℕ) (d : Instance) → NoneBefore n es i → i < length es → (n == (get_or es i d).number) ≡ true → slots_in n es ≡ (get_or es i d).slots
slots_at n [] i d h l q = absurd (omega arith)
slots_at n (e ∷ es) zero d h l q = simp q refl
slots_at n (e ∷ es) (suc i) d h l q = simp h.0 (slots_at n es i d h.1 (omega arith) q)

pub phase_at : (n : ℕ) (es : List Instance) (i : ℕ) (d : Instance) → NoneBefore n es i → i < length es → (n == (get_or es i d).number) ≡ true → phase_in n es ≡ (get_or es i d).phase
phase_at n [] i d h l q = absurd (omega arith)
phase_at n (e ∷ es) zero d h l q = simp q refl
phase_at n (e ∷ es) (suc i) d h l q = simp h.0 (phase_at n es i d h.1 (omega arith) q)

pub serial_at : (n : ℕ) (es : List Instance) (i : ℕ) (d : Instance) → NoneBefore n es i → i < length es → (n == (get_or es i d).number) ≡ true → ((get_or es i d).serial ≡ serial_in n es) × (is_begun n es ≡ true)
serial_at n [] i d h l q = absurd (omega arith)
serial_at n (e ∷ es) zero d h l q = simp q (refl, refl)
serial_at n (e ∷ es) (suc i) d h l q = simp h.0 (serial_at n es i d h.1 (omega arith) q)

pub slots_put : (n : ℕ) (vs : List Value) (es : List Instance) (i : ℕ) (d : Instance) → NoneBefore n es i → i < length es → (n == (get_or es i d).number) ≡ true → set es i (record (get_or es i d) { slots = vs }) ≡ with_slots n vs es
slots_put n vs [] i d h l q = absurd (omega arith)
slots_put n vs (e ∷ es) zero d h l q = simp q refl
slots_put n vs (e ∷ es) (suc i) d h l q = simp h.0 (ap (λ r. e ∷ r) (slots_put n vs es i d h.1 (omega arith) q))

pub serial_put : (n s : ℕ) (es : List Instance) (i : ℕ) (d : Instance) → NoneBefore n es i → i < length es → (n == (get_or es i d).number) ≡ true → set es i (record (get_or es i d) { serial = s }) ≡ with_serial n s es
serial_put n s [] i d h l q = absurd (omega arith)
serial_put n s (e ∷ es) zero d h l q = simp q refl
serial_put n s (e ∷ es) (suc i) d h l q = simp h.0 (ap (λ r. e ∷ r) (serial_put n s es i d h.1 (omega arith) q))

pub phase_put : (n : ℕ) (f : Phase) (es : List Instance) (i : ℕ) (d : Instance) → NoneBefore n es i → i < length es → (n == (get_or es i d).number) ≡ true → set es i (record (get_or es i d) { phase = f }) ≡ with_phase n f es
phase_put n f [] i d h l q = absurd (omega arith)
phase_put n f (e ∷ es) zero d h l q = simp q refl
phase_put n f (e ∷ es) (suc i) d h l q = simp h.0 (ap (λ r. e ∷ r) (phase_put n f es i d h.1 (omega arith) q))

pub destroy_put : (n : ℕ) (es : List Instance) (i : ℕ) (d : Instance) → NoneBefore n es i → i < length es → (n == (get_or es i d).number) ≡ true → set es i (record (get_or es i d) { phase = destroying (get_or es i d).phase }) ≡ destroy_in n es
destroy_put n [] i d h l q = absurd (omega arith)
destroy_put n (e ∷ es) zero d h l q = simp q refl
destroy_put n (e ∷ es) (suc i) d h l q = simp h.0 (ap (λ r. e ∷ r) (destroy_put n es i d h.1 (omega arith) q))

pub record Absent (n : ℕ) (es : List Instance) : Type 0 where
  pub slots : slots_in n es ≡ []
  pub put : (vs : List Value) → with_slots n vs es ≡ es
  pub serial : (s : ℕ) → with_serial n s es ≡ es
  pub phase : phase_in n es ≡ phases.Absent
  pub phase_put : (f : Phase) → with_phase n f es ≡ es
  pub destroy : destroy_in n es ≡ es
  pub begun : is_begun n es ≡ false

pub absent : (n : ℕ) (es : List Instance) → NoneBefore n es (length es) → Absent n es
absent n [] h = record { slots = refl; put = λ vs. refl; serial = λ s. refl; phase = refl; phase_put = λ f. refl; destroy = refl; begun = refl }
absent n (e ∷ es) h = let a = absent n es h.1 in record {
  slots = simp h.0 a.slots;
  put = λ vs. simp h.0 (ap (λ r. e ∷ r) (a.put vs));
  serial = λ s. simp h.0 (ap (λ r. e ∷ r) (a.serial s));
  phase = simp h.0 a.phase;
  phase_put = λ f. simp h.0 (ap (λ r. e ∷ r) (a.phase_put f));
  destroy = simp h.0 (ap (λ r. e ∷ r) a.destroy);
  begun = simp h.0 a.begun;
}

-- ---- at the code's reads

on : (n : ℕ) (xs es : List Instance) (i : ℕ) → xs ≡ es → First n xs i → First n es i
on n xs es i e h = subst (λ l. First n l i) e h

pub first-slots : (n : ℕ) (xs es : List Instance) (i : ℕ) (e : Instance) → xs ≡ es → First n xs i → e ≡ get_or es i e → slots_in n es ≡ e.slots
first-slots n xs es i e q h is = let k = on n xs es i q h in slots_at n es i e k.none k.within (k.is e) ∙ ap (λ (t : Instance). t.slots) (sym is)

pub first-phase : (n : ℕ) (xs es : List Instance) (i : ℕ) (e : Instance) → xs ≡ es → First n xs i → e ≡ get_or es i e → phase_in n es ≡ e.phase
first-phase n xs es i e q h is = let k = on n xs es i q h in phase_at n es i e k.none k.within (k.is e) ∙ ap (λ (t : Instance). t.phase) (sym is)

pub first-serial : (n : ℕ) (xs es : List Instance) (i : ℕ) (e : Instance) → xs ≡ es → First n xs i → e ≡ get_or es i e → (e.serial ≡ serial_in n es) × (is_begun n es ≡ true)
first-serial n xs es i e q h is = let k = on n xs es i q h in let t = serial_at n es i e k.none k.within (k.is e) in (ap (λ (t : Instance). t.serial) is ∙ t.0, t.1)

pub first-put-slots : (n : ℕ) (xs es : List Instance) (i : ℕ) (e : Instance) (vs : List Value) → xs ≡ es → First n xs i → e ≡ get_or es i e → set es i (record e { slots = vs }) ≡ with_slots n vs es
first-put-slots n xs es i e vs q h is = let k = on n xs es i q h in ap (λ (t : Instance). set es i (record t { slots = vs })) is ∙ slots_put n vs es i e k.none k.within (k.is e)

pub first-put-serial : (n : ℕ) (xs es : List Instance) (i : ℕ) (e : Instance) (s : ℕ) → xs ≡ es → First n xs i → e ≡ get_or es i e → set es i (record e { serial = s }) ≡ with_serial n s es
first-put-serial n xs es i e s q h is = let k = on n xs es i q h in ap (λ (t : Instance). set es i (record t { serial = s })) is ∙ serial_put n s es i e k.none k.within (k.is e)

pub first-put-phase : (n : ℕ) (xs es : List Instance) (i : ℕ) (e : Instance) (f : Phase) → xs ≡ es → First n xs i → e ≡ get_or es i e → set es i (record e { phase = f }) ≡ with_phase n f es
first-put-phase n xs es i e f q h is = let k = on n xs es i q h in ap (λ (t : Instance). set es i (record t { phase = f })) is ∙ phase_put n f es i e k.none k.within (k.is e)

pub first-destroyed : (n : ℕ) (xs es : List Instance) (i : ℕ) (e : Instance) → xs ≡ es → First n xs i → e ≡ get_or es i e → set es i (record e { phase = destroying e.phase }) ≡ destroy_in n es
first-destroyed n xs es i e q h is = let k = on n xs es i q h in ap (λ (t : Instance). set es i (record t { phase = destroying t.phase })) is ∙ destroy_put n es i e k.none k.within (k.is e)

pub none-on : (n : ℕ) (xs es : List Instance) → xs ≡ es → NoneBefore n xs (length xs) → Absent n es
none-on n xs es q h = absent n es (subst (λ l. NoneBefore n l (length l)) q h)
