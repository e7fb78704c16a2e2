-- The first line of some bytes.
use Rattle.std.proofs.Common.{◌≡◌, ℕ, suc, ◌+◌, ◌<◌, ◌≤◌, eqb, List, [], ◌∷◌, length, take, drop, Bool, true, false, cond, not, None, refl, ap, arith, add-one}
use Rattle.std.specs.List.{position_or_len, position}
use Rattle.np_script_grammar.specs.Words.{lines_of, onto_first}

abbrev at : List ℕ → ℕ
at = position_or_len (λ b. eqb b 10)

cut_step : (t : Bool) (n b : ℕ) (bs : List ℕ) → (n < length bs → lines_of bs ≡ take n bs ∷ lines_of (drop (n + 1) bs)) → cond (not t) (1 + n) 0 < suc (length bs)
    → cond t ([] ∷ lines_of bs) (onto_first b (lines_of bs)) ≡ take (cond (not t) (1 + n) 0) (b ∷ bs) ∷ lines_of (drop (cond (not t) (1 + n) 0 + 1) (b ∷ bs))
cut_step true n b bs again h = refl
cut_step false n b bs again h =
    let e : 1 + n ≡ suc n = omega arith in
    let lt : n < length bs = omega arith in
    rw (again lt, e, add-one, add-one) refl

pub lines_cut : (bytes : List ℕ) → at bytes < length bytes → lines_of bytes ≡ take (at bytes) bytes ∷ lines_of (drop (at bytes + 1) bytes)
lines_cut [] h = absurd (omega arith)
lines_cut (b ∷ bs) h = cut_step (eqb b 10) (at bs) b bs (lines_cut bs) h

last_step : (t : Bool) (n b : ℕ) (bs : List ℕ) → (length bs ≤ n → onto_first b (lines_of bs) ≡ (b ∷ bs) ∷ []) → suc (length bs) ≤ cond (not t) (1 + n) 0
    → cond t ([] ∷ lines_of bs) (onto_first b (lines_of bs)) ≡ (b ∷ bs) ∷ []
last_step true n b bs again h = absurd (omega arith)
last_step false n b bs again h = again (omega arith)

pub lines_last : (b : ℕ) (bs : List ℕ) → suc (length bs) ≤ at (b ∷ bs) → lines_of (b ∷ bs) ≡ (b ∷ bs) ∷ []
lines_last b [] h = last_step (eqb b 10) (at []) b [] (λ le. refl) h
lines_last b (c ∷ bs) h = last_step (eqb b 10) (at (c ∷ bs)) b (c ∷ bs) (λ le. ap (onto_first b) (lines_last c bs le)) h

pub lines_none : (bytes : List ℕ) → 0 < length bytes → None ≡ position (λ b. eqb b 10) bytes → lines_of bytes ≡ bytes ∷ []
lines_none [] h e = absurd (omega arith)
lines_none (b ∷ bs) h e = lines_last b bs (grind (arith, e))
