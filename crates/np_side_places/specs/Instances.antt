-- Where an instance stands.
use Rattle.std.specs.Prelude.{◌≡◌, ℕ, zero, suc, ◌<◌, ◌==◌, List, [], ◌∷◌, length, get_or, true, false, Option, Some, None}
use Rattle.np_machine.specs.declared.instance.Instance.{Instance}

-- no instance before i has the number
abbrev pub NoneBefore : ℕ → List Instance → ℕ → Type 0
NoneBefore n [] i = Unit {0}
NoneBefore n (e ∷ es) zero = Unit {0}
NoneBefore n (e ∷ es) (suc i) = ((n == e.number) ≡ false) × NoneBefore n es i

-- the first instance of the number stands at i
pub record First (n : ℕ) (es : List Instance) (i : ℕ) : Type 0 where
  pub within : i < length es
  pub none : NoneBefore n es i
  pub is : (d : Instance) → (n == (get_or es i d).number) ≡ true

abbrev pub Found : ℕ → List Instance → Option ℕ → Type 0
Found n es None = NoneBefore n es (length es)
Found n es (Some i) = First n es i
