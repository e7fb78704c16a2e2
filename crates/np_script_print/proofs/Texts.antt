-- What the pieces of a list came to, where the pieces are those of another list.
use Rattle.std.proofs.Common.{◌≡◌, ◌≤◌, ℕ, List, [], ◌∷◌, ◌++◌, map, length, take, ap, sym, ◌∙◌, take_all, refl}
use Rattle.std.specs.List.{flat_map}
use Rattle.std.proofs.lemmas.List.Folds.{flat_map-map}
use Rattle.std.proofs.lemmas.Grind.{flat_map-append}

flat_map-flat_map : {A B C : Type 0} (h : B → List C) (v : A → List B) (xs : List A) → flat_map h (flat_map v xs) ≡ flat_map (λ x. flat_map h (v x)) xs
flat_map-flat_map h v [] = refl
flat_map-flat_map h v (x ∷ xs) =
    flat_map-append h (v x) (flat_map v xs) ∙ ap (λ l. flat_map h (v x) ++ l) (flat_map-flat_map h v xs)

-- all items were taken
whole : {A C : Type 0} (f : A → List C) (xs : List A) (i : ℕ) (old new : List C) → length xs ≤ i → new ≡ old ++ flat_map f (take i xs) → new ≡ old ++ flat_map f xs
whole f xs i old new e h = h ∙ ap (λ (l : List _). old ++ flat_map f l) (take_all i xs e)

-- the pieces of mapped items
pub mapped : {A B C : Type 0} (h : B → List C) (v : A → B) (xs : List A) (i : ℕ) (old new : List C) → length xs ≤ i
    → new ≡ old ++ flat_map (λ x. h (v x)) (take i xs) → new ≡ old ++ flat_map h (map v xs)
mapped h v xs i old new e g =
    whole (λ x. h (v x)) xs i old new e g ∙ ap (λ l. old ++ l) (sym (flat_map-map h v xs))

-- the pieces of items that give several
pub flattened : {A B C : Type 0} (h : B → List C) (v : A → List B) (xs : List A) (i : ℕ) (old new : List C) → length xs ≤ i
    → new ≡ old ++ flat_map (λ x. flat_map h (v x)) (take i xs) → new ≡ old ++ flat_map h (flat_map v xs)
flattened h v xs i old new e g =
    whole (λ x. flat_map h (v x)) xs i old new e g ∙ ap (λ l. old ++ l) (sym (flat_map-flat_map h v xs))
