-- A script of which one byte more than the limit was read.
use Rattle.std.proofs.Common.{◌≡◌, ℕ, ◌≤◌, ◌<◌, List, length, take, ◌⊎◌, inl, inr, sym, subst, arith}
use Rattle.std.proofs.lemmas.Bool.{cases_lt}
use Rattle.std.proofs.lemmas.List.{take_all, length-take-le}
use Rattle.np_values.specs.declared.name.Side.{Side}
use Rattle.np_script_grammar.specs.declared.refusal.ScriptError.{ScriptError}
use Rattle.np_script_grammar.specs.Refusals.{FirstError}

-- the front is the whole, or both are too long
pub fronts : (content : List ℕ) → (take 1048577 content ≡ content) ⊎ ((1048576 < length (take 1048577 content)) × (1048576 < length content))
fronts content =
    elim (cases_lt 1048576 (length content)) [
      | inl long ↦ (let n : length (take 1048577 content) ≡ 1048577 = length-take-le 1048577 content (omega arith) in inr (omega (arith, n), long))
      | inr short ↦ inl (take_all 1048577 content (omega arith))
    ]

-- what holds only of bytes that aren't too long holds of the front exactly where it holds of the whole
pub of-front : (P : List ℕ → Type 0) → ((bytes : List ℕ) → P bytes → length bytes ≤ 1048576) → (content : List ℕ) → P (take 1048577 content) → P content
of-front P short content p =
    elim (fronts content) [
      | inl same ↦ subst P same p
      | inr long ↦ (let n = short (take 1048577 content) p in let m = long.0 in absurd (omega (arith, n, m)))
    ]

pub to-front : (P : List ℕ → Type 0) → ((bytes : List ℕ) → P bytes → length bytes ≤ 1048576) → (content : List ℕ) → P content → P (take 1048577 content)
to-front P short content p =
    elim (fronts content) [
      | inl same ↦ subst P (sym same) p
      | inr long ↦ (let n = short content p in let m = long.1 in absurd (omega (arith, n, m)))
    ]

long-error : (side : Side) (bytes other : List ℕ) (e : ScriptError) → 1048576 < length bytes → 1048576 < length other → FirstError side bytes e → FirstError side other e
long-error side bytes other e long more (inl too_long) = inl (more, too_long.1)
long-error side bytes other e long more (inr error) = let n = error.0 in absurd (omega (arith, n, long))

-- the first error of the front is that of the whole
pub error-of-front : (side : Side) (content : List ℕ) (e : ScriptError) → FirstError side (take 1048577 content) e → FirstError side content e
error-of-front side content e error =
    elim (fronts content) [
      | inl same ↦ subst (λ (l : List ℕ). FirstError side l e) same error
      | inr long ↦ long-error side (take 1048577 content) content e long.0 long.1 error
    ]

pub error-to-front : (side : Side) (content : List ℕ) (e : ScriptError) → FirstError side content e → FirstError side (take 1048577 content) e
error-to-front side content e error =
    elim (fronts content) [
      | inl same ↦ subst (λ (l : List ℕ). FirstError side l e) (sym same) error
      | inr long ↦ long-error side content (take 1048577 content) e long.1 long.0 error
    ]
