-- What whole transfers do. (This project's own.)
use Rattle.std.specs.Prelude.{◌≡◌, ℕ, ◌<◌, List, [], ◌∷◌, ◌++◌, length, take, Option, Some, Result, Ok, Err}
use Rattle.std.specs.Global.{Vec}
use Rattle.np_ports.specs.declared.error.PortError.{PortError}
use Rattle.np_ports.specs.declared.error.PortError.TheVariants.{Failed, NoMemory}
use Rattle.np_ports.specs.declared.file_call.FileCall.{FileCall}
use Rattle.np_ports.specs.declared.file_call.FileCall.TheVariants.{Read}
use Rattle.np_ports.specs.Peer.{Known, took}
use Rattle.np_ports.specs.Files.{Contents}

-- a sink took all of the bytes; after an error, a part of them, and not all
abbrev pub Prints : Option (List ℕ) → Option (List ℕ) → Result (Unit {0}) PortError → List ℕ → Type 0
Prints old new (Ok x) bytes = (t : List ℕ) → old ≡ Some t → new ≡ Some (t ++ bytes)
Prints old new (Err e) bytes = (t : List ℕ) → old ≡ Some t → (x : List ℕ) × (y : List ℕ) × (bytes ≡ x ++ y) × (new ≡ Some (t ++ x)) × (0 < length y)

-- a peer took all of the bytes; after an error, a part of them
abbrev pub Sends : Option Known → Option Known → Result (Unit {0}) PortError → List ℕ → Type 0
Sends old new (Ok x) bytes = (t : Known) → old ≡ Some t → new ≡ Some (took t bytes)
Sends old new (Err e) bytes = (t : Known) → old ≡ Some t → (x : List ℕ) × (y : List ℕ) × (bytes ≡ x ++ y) × (new ≡ Some (took t x))

-- a file was read to its end, or to the 1,048,577th byte; the contents stay
abbrev pub ReadsScript : Option Contents → Option Contents → Result (Vec ℕ) PortError → List ℕ → Type 0
ReadsScript old new (Ok v) name = (f : Contents) → old ≡ Some f → (new ≡ Some f) × (v.items ≡ take 1048577 (f name))
ReadsScript old new (Err e) name = (f : Contents) → old ≡ Some f → new ≡ Some f

-- the calls that failed are a read of this name where the result is Failed, and else none
abbrev pub NotesOnly : Option (List (List ℕ × FileCall)) → Option (List (List ℕ × FileCall)) → Result (Vec ℕ) PortError → List ℕ → Type 0
NotesOnly old new (Ok v) name = (l : List (List ℕ × FileCall)) → old ≡ Some l → new ≡ Some l
NotesOnly old new (Err Failed) name = (l : List (List ℕ × FileCall)) → old ≡ Some l → new ≡ Some (l ++ (name, Read) ∷ [])
NotesOnly old new (Err NoMemory) name = (l : List (List ℕ × FileCall)) → old ≡ Some l → new ≡ Some l
