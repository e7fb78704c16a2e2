-- Lists of values, as registers and slots are: their items by place. (This project's own.)
use Rattle.std.specs.Prelude.{ℕ, zero, suc, List, [], ◌∷◌, ◌++◌, take, drop}
use Rattle.np_values.specs.declared.value.Value.{Value}
use Rattle.np_values.specs.declared.value.Value.TheVariants as values

-- so many Voids
abbrev pub voids : ℕ → List Value
voids zero = []
voids (suc n) = values.Void ∷ voids n

-- the value at the place, or Void past the end
abbrev pub read_at : ℕ → List Value → Value
read_at i [] = values.Void
read_at zero (u ∷ us) = u
read_at (suc i) (u ∷ us) = read_at i us

-- the list with the value at the place; past the end nothing changes
abbrev pub put_at : ℕ → Value → List Value → List Value
put_at i v [] = []
put_at zero v (u ∷ us) = v ∷ us
put_at (suc i) v (u ∷ us) = u ∷ put_at i v us

-- what comes out of the list when the value is put at the place: what was there, or past the end the value itself
abbrev pub old_at : ℕ → Value → List Value → Value
old_at i v [] = v
old_at zero v (u ∷ us) = u
old_at (suc i) v (u ∷ us) = old_at i v us

-- the first value, or Void
abbrev pub next_value : List Value → Value
next_value [] = values.Void
next_value (v ∷ vs) = v

-- the first value goes after so many others
abbrev pub moved_after : ℕ → List Value → List Value
moved_after n [] = []
moved_after n (v ∷ rest) = take n rest ++ v ∷ drop n rest
