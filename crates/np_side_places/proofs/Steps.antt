-- What the code's steps leave of the places.
use Rattle.std.proofs.Common.{◌≡◌, ℕ, zero, suc, ◌+◌, ◌≤◌, List, [], ◌∷◌, ◌++◌, length, get_or, take, drop, refl, sym, ap, ◌∙◌, arith, reverse, append_assoc}
use Rattle.std.proofs.Math.ListN.{set}
use Rattle.np_values.specs.declared.value.Value.{Value}
use Rattle.np_values.specs.declared.value.Value.TheVariants as values
use Rattle.np_machine.specs.declared.frame.Frame.{Frame}
use Rattle.np_machine.specs.declared.instance.Instance.{Instance}
use Rattle.np_machine.specs.declared.place.Place.TheVariants.{Register, Slot}
use Rattle.np_machine.specs.Values.{put_at, old_at, voids}
use Rattle.np_machine.specs.Frames.{registers_of, with_registers, with_progress}
use Rattle.np_machine.specs.Instances.{slots_in, with_slots}
use Rattle.np_machine.specs.declared.frame.Progress.{Progress}
use Rattle.np_side_places.specs.Placed.{Placed, pushed, dropped, put_placed, old_placed, progressed}
use Rattle.np_side_places.specs.Instances.{First, NoneBefore}
use Rattle.np_side_places.proofs.ValueLists.{top-is, top-set, voids-push}
use Rattle.np_side_places.proofs.Numbers.{first-slots, first-put-slots, none-on}

drop-next : {A : Type 0} (n : ℕ) (f : List A) (v : A) (r : List A) → drop n f ≡ v ∷ r → (r ≡ drop (suc n) f) × (take n f ++ v ∷ [] ≡ take (suc n) f)
drop-next zero [] v r e = cc
drop-next zero (x ∷ f) v r e = let a : x ≡ v = cc in let b : f ≡ r = cc in (sym b, ap (λ t. t ∷ []) (sym a))
drop-next (suc n) [] v r e = cc
drop-next (suc n) (x ∷ f) v r e = let t = drop-next n f v r e in (t.0, ap (λ l. x ∷ l) t.1)

drop-end : {A : Type 0} (n m : ℕ) (f : List A) → n ≤ m → drop n f ≡ [] → (drop n f ≡ drop m f) × (take n f ≡ take m f)
drop-end zero zero [] l e = (refl, refl)
drop-end zero (suc m) [] l e = (refl, refl)
drop-end zero m (x ∷ f) l e = cc
drop-end (suc n) zero f l e = absurd (omega arith)
drop-end (suc n) (suc m) [] l e = (refl, refl)
drop-end (suc n) (suc m) (x ∷ f) l e = let t = drop-end n m f (omega arith) e in (t.0, ap (λ r. x ∷ r) t.1)

abbrev pub made : List Value → List Instance → List Frame → List Value → Placed
made r i a f = record { registers = r; instances = i; frames = a; in_flight = f }

same : (p q : Placed) → p.registers ≡ q.registers → p.instances ≡ q.instances → p.frames ≡ q.frames → p.in_flight ≡ q.in_flight → p ≡ q
same p q a b c d =
    let h : made p.registers p.instances p.frames p.in_flight ≡ made q.registers q.instances q.frames q.in_flight = rw (a, b, c, d) in h

pub front-more : (p q : Placed) (n : ℕ) (v : Value) (vs : List Value) → vs ≡ take n p.in_flight → dropped n p ≡ pushed v q → (q ≡ dropped (n + 1) p) × (vs ++ v ∷ [] ≡ take (n + 1) p.in_flight)
front-more p q n v vs t e =
    let m : suc n ≡ n + 1 = omega arith in
    let d = drop-next n p.in_flight v q.in_flight (ap (λ (x : Placed). x.in_flight) e) in (
      same q (dropped (n + 1) p) (sym (ap (λ (x : Placed). x.registers) e)) (sym (ap (λ (x : Placed). x.instances) e)) (sym (ap (λ (x : Placed). x.frames) e)) (d.0 ∙ ap (λ k. drop k p.in_flight) m),
      ap (λ l. l ++ v ∷ []) t ∙ d.1 ∙ ap (λ k. take k p.in_flight) m,
    )

pub front-end : (p q : Placed) (n m : ℕ) (vs : List Value) → n ≤ m → vs ≡ take n p.in_flight → drop n p.in_flight ≡ [] → q ≡ dropped n p → (q ≡ dropped m p) × (vs ≡ take m p.in_flight)
front-end p q n m vs l t e r =
    let d = drop-end n m p.in_flight l e in
    (r ∙ ap (λ f. record p { in_flight = f }) d.0, t ∙ d.1)

pub register-put : (p : Placed) (regs : List Value) (is : List Instance) (xs : List Frame) (fl : List Value) (i n r : ℕ) (v : Value) (e : Frame) (vs : List Value) → made regs is (reverse xs) fl ≡ p → n ≡ length xs → n ≡ i + 1 → e ≡ get_or xs i e → vs ≡ put_at r v e.registers → made regs is (reverse (set xs i (record e { registers = vs }))) fl ≡ put_placed (Register r) v p
register-put p regs is xs fl i n r v e vs h l m q t =
    ap (λ a. made regs is a fl) (top-set xs i n e (record e { registers = vs }) l m q ∙ ap (λ us. record e { registers = us } ∷ reverse (take i xs)) t ∙ sym (ap (λ a. with_registers (put_at r v (registers_of a)) a) (top-is xs i n e l m q))) ∙ ap (put_placed (Register r) v) h

pub register-old : (p : Placed) (xs : List Frame) (i n r : ℕ) (v w : Value) (e : Frame) → reverse xs ≡ p.frames → n ≡ length xs → n ≡ i + 1 → e ≡ get_or xs i e → w ≡ old_at r v e.registers → w ≡ old_placed (Register r) v p
register-old p xs i n r v w e h l m q t = t ∙ ap (λ a. old_at r v (registers_of a)) (sym (top-is xs i n e l m q) ∙ h)

pub slot-put : (p : Placed) (regs : List Value) (es xs : List Instance) (as_ : List Frame) (fl : List Value) (number i r : ℕ) (v : Value) (e : Instance) (vs : List Value) → made regs es as_ fl ≡ p → xs ≡ es → First number xs i → e ≡ get_or es i e → vs ≡ put_at r v e.slots → made regs (set es i (record e { slots = vs })) as_ fl ≡ put_placed (Slot number r) v p
slot-put p regs es xs as_ fl number i r v e vs h x f q t =
    ap (λ l. made regs l as_ fl) (first-put-slots number xs es i e vs x f q ∙ ap (λ us. with_slots number us es) (t ∙ ap (λ us. put_at r v us) (sym (first-slots number xs es i e x f q)))) ∙ ap (put_placed (Slot number r) v) h

pub slot-old : (p : Placed) (es xs : List Instance) (number i r : ℕ) (v w : Value) (e : Instance) → es ≡ p.instances → xs ≡ es → First number xs i → e ≡ get_or es i e → w ≡ old_at r v e.slots → w ≡ old_placed (Slot number r) v p
slot-old p es xs number i r v w e h x f q t = t ∙ ap (λ us. old_at r v us) (sym (first-slots number xs es i e x f q) ∙ ap (λ l. slots_in number l) h)

pub slot-none : (p : Placed) (es xs : List Instance) (number r : ℕ) (v : Value) → es ≡ p.instances → xs ≡ es → NoneBefore number xs (length xs) → (p ≡ put_placed (Slot number r) v p) × (v ≡ old_placed (Slot number r) v p)
slot-none p es xs number r v h x f =
    let a = none-on number xs p.instances (x ∙ h) f in
    (ap (λ l. record p { instances = l }) (sym (a.put (put_at r v (slots_in number p.instances)))), ap (λ us. old_at r v us) (sym a.slots))

pub padded-more : (vs regs : List Value) (n : ℕ) → vs ≡ regs ++ voids n → vs ++ values.Void ∷ [] ≡ regs ++ voids (n + 1)
padded-more vs regs n e =
    let m : suc n ≡ n + 1 = omega arith in
    ap (λ t. t ++ values.Void ∷ []) e ∙ append_assoc regs (voids n) (values.Void ∷ []) ∙ ap (λ t. regs ++ t) (sym (voids-push n) ∙ ap voids m)

pub progress-put : (p : Placed) (regs : List Value) (is : List Instance) (xs : List Frame) (fl : List Value) (i n : ℕ) (change : Progress → Progress) (e : Frame) → made regs is (reverse xs) fl ≡ p → n ≡ length xs → n ≡ i + 1 → e ≡ get_or xs i e → made regs is (reverse (set xs i (record e { progress = change e.progress }))) fl ≡ progressed change p
progress-put p regs is xs fl i n change e h l m q =
    ap (λ a. made regs is a fl) (top-set xs i n e (record e { progress = change e.progress }) l m q ∙ sym (ap (λ a. with_progress change a) (top-is xs i n e l m q))) ∙ ap (progressed change) h
