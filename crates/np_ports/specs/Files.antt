-- What files tell of themselves. (This project's own.)
use Rattle.std.specs.Prelude.{◌≡◌, ℕ, ◌≤◌, List, [], ◌∷◌, ◌++◌, length, take, drop, Option, Some, None, Result, Ok, Err}
use Rattle.np_ports.specs.declared.error.PortError.{PortError}
use Rattle.np_ports.specs.declared.error.PortError.TheVariants.{Failed, NoMemory}
use Rattle.np_ports.specs.declared.file_call.FileCall.{FileCall}

-- from names to contents; a name that isn't there has an empty one
abbrev pub Contents : Type 0
Contents = List ℕ → List ℕ

-- a read gives bytes of the name's content from some place on, and 0 only where none stand there; the contents stay
abbrev pub ReadsFile : Option Contents → Option Contents → Result ℕ PortError → List ℕ → ℕ → List ℕ → Type 0
ReadsFile None new r name at buf = Unit {0}
ReadsFile (Some f) new (Ok n) name at buf = (new ≡ Some f) × (take n buf ≡ take n (drop at (f name))) × (n ≡ 0 → length (f name) ≤ at)
ReadsFile (Some f) new (Err e) name at buf = new ≡ Some f

-- every other name has the content that it had
abbrev pub KeepsOthers : Contents → Contents → List ℕ → Type 0
KeepsOthers f g name = (other : List ℕ) → (other ≡ name → ⊥) → g other ≡ f other

-- a put leaves these bytes under its name, after an error anything, and all else stays
abbrev pub PutsFile : {T : Type 0} → Option Contents → Option Contents → Result T PortError → List ℕ → List ℕ → Type 0
PutsFile None new r name bytes = Unit {0}
PutsFile (Some f) new (Ok x) name bytes = (g : Contents) × (new ≡ Some g) × (g name ≡ bytes) × KeepsOthers f g name
PutsFile (Some f) new (Err e) name bytes = (g : Contents) × (new ≡ Some g) × KeepsOthers f g name

-- a call that answered Failed is added to the list of those, and no other is
abbrev pub NotesFailure : {T : Type 0} → Option (List (List ℕ × FileCall)) → Option (List (List ℕ × FileCall)) → Result T PortError → List ℕ → FileCall → Type 0
NotesFailure None new r name call = Unit {0}
NotesFailure (Some l) new (Ok x) name call = new ≡ Some l
NotesFailure (Some l) new (Err Failed) name call = new ≡ Some (l ++ (name, call) ∷ [])
NotesFailure (Some l) new (Err NoMemory) name call = new ≡ Some l
