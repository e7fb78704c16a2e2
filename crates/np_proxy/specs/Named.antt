-- Lists of entries, each of a name, in rising order of names. (This project's own.)
use Rattle.std.specs.Prelude.{◌≡◌, ℕ, ◌<◌, ◌==◌, ◌&&◌, List, [], ◌∷◌, length, slice_index_or, Bool, true, false, if◌then◌else◌, Option, Some, None, is_some}
use Rattle.np_values.specs.declared.name.Name.{Name}
use Rattle.np_values.specs.Name.{is_before, is_same_side}

-- the same side, instance and serial
abbrev pub is_same : Name → Name → Bool
is_same a b = is_same_side a.side b.side && (a.instance == b.instance && a.serial == b.serial)

-- the name of a name
abbrev pub itself : Name → Name
itself x = x

-- the entry of this name, if there is one
abbrev pub named_at : {X : Type 0} → (X → Name) → Name → List X → Option X
named_at name x [] = None
named_at name x (e ∷ es) = if is_same x (name e) then Some e else named_at name x es

abbrev pub is_there : {X : Type 0} → (X → Name) → Name → List X → Bool
is_there name x es = is_some (named_at name x es)

-- the entry of this name becomes what f makes of it
abbrev pub at_name : {X : Type 0} → (X → Name) → Name → (X → X) → List X → List X
at_name name x f [] = []
at_name name x f (e ∷ es) = if is_same x (name e) then (f e ∷ es) else (e ∷ at_name name x f es)

-- a further entry, at its place in the order of names
abbrev pub with_named : {X : Type 0} → (X → Name) → X → List X → List X
with_named name w [] = w ∷ []
with_named name w (e ∷ es) = if is_before (name w) (name e) then (w ∷ (e ∷ es)) else (e ∷ with_named name w es)

-- without the entry of this name
abbrev pub without_named : {X : Type 0} → (X → Name) → Name → List X → List X
without_named name x [] = []
without_named name x (e ∷ es) = if is_same x (name e) then es else (e ∷ without_named name x es)

-- each entry's name stands after this one
abbrev pub all_after : {X : Type 0} → (X → Name) → Name → List X → Bool
all_after name x [] = true
all_after name x (e ∷ es) = is_before x (name e) && all_after name x es

-- each name stands before all later ones
abbrev pub is_rising : {X : Type 0} → (X → Name) → List X → Bool
is_rising name [] = true
is_rising name (e ∷ es) = all_after name (name e) es && is_rising name es

-- the entry of this name is at this place
pub record IsAt {X : Type 0} (name : X → Name) (x : Name) (es : List X) (place : ℕ) : Type 0 where
  pub within : place < length es
  pub named : (d : X) → name (slice_index_or es place d) ≡ x

-- a search finds the entry, where there is one
abbrev pub Finds : {X : Type 0} → (X → Name) → Name → List X → Option ℕ → Type 0
Finds name x es None = is_there name x es ≡ false
Finds name x es (Some place) = IsAt name x es place
