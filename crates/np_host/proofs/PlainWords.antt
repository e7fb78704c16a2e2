-- Reading the plain words one after another.
use Rattle.std.proofs.Common.{◌≡◌, ℕ, List, [], ◌∷◌, ◌++◌, Option, Some, None, refl, ap, append_assoc}
use Rattle.std.specs.Prelude.{option_map}

-- what was read before, and what is still read
abbrev pub with_front : List (List ℕ) → Option (List (List ℕ)) → Option (List (List ℕ))
with_front front read = option_map (λ (words : List (List ℕ)). front ++ words) read

pub with_word : (front : List (List ℕ)) (word : List ℕ) (read : Option (List (List ℕ))) → with_front (front ++ word ∷ []) read ≡ with_front front (option_map (λ (words : List (List ℕ)). word ∷ words) read)
with_word front word None = refl
with_word front word (Some words) = ap (λ (l : List (List ℕ)). Some l) (append_assoc front (word ∷ []) words)

pub with_nothing : (read : Option (List (List ℕ))) → with_front [] read ≡ read
with_nothing None = refl
with_nothing (Some words) = refl
