-- A table of identifiers, as the list of its keys in the order of their first use. (npruntime.h, NPIdentifier.)
use Rattle.std.specs.Prelude.{◌≡◌, ◌↔◌, ℕ, List, [], ◌∷◌, ◌++◌, length, Some, slice_get}
use Rattle.np_idents.specs.declared.key.IdKey.{IdKey}

-- the key stands at some place
abbrev pub HasKey : List IdKey → IdKey → Type 0
HasKey keys key = (place : ℕ) × (slice_get keys place ≡ Some key)

-- no key stands at two places
pub record AreDistinct (keys : List IdKey) : Type 0 where
  pub one_place : (i j : ℕ) (key : IdKey) → slice_get keys i ≡ Some key → slice_get keys j ≡ Some key → i ≡ j

-- the key stands at the place; where it stood already nothing else changed, and a new one went last
pub record Interns (old : List IdKey) (key : IdKey) (new : List IdKey) (place : ℕ) : Type 0 where
  pub found : slice_get new place ≡ Some key
  pub known : HasKey old key → new ≡ old
  pub added : ¬ (HasKey old key) → (new ≡ old ++ key ∷ []) × (place ≡ length old)

-- Two places have the same key exactly where they are the same place.
abbrev pub SamePlaceForSameKey : Type 0
SamePlaceForSameKey = (keys : List IdKey) (i j : ℕ) (first second : IdKey) → AreDistinct keys
    → slice_get keys i ≡ Some first → slice_get keys j ≡ Some second → (i ≡ j) ↔ (first ≡ second)
