-- What a peer tells of its calls. (This project's own.)
use Rattle.std.specs.Prelude.{◌≡◌, ◌==◌, ◌||◌, ℕ, Bool, true, List, [], ◌∷◌, ◌++◌, length, take, drop, Option, Some, None, Result, Ok, Err}
use Rattle.np_ports.specs.declared.error.PortError.{PortError}
use Rattle.np_ports.specs.declared.error.PortError.TheVariants.{Failed, NoMemory}

-- the words of each start, the bytes that it gave, took and has left, and of each read how many it had taken and given before
pub record Known : Type 0 where
  pub starts : List (List (List ℕ))
  pub given : List ℕ
  pub taken : List ℕ
  pub left : List ℕ
  pub reads : List (ℕ × ℕ)

-- with one more start, of these words
abbrev pub started : Known → List (List ℕ) → Known
started t words = record t { starts = t.starts ++ words ∷ [] }

-- with one more read
abbrev pub asked : Known → Known
asked t = record t { reads = t.reads ++ (length t.taken, length t.given) ∷ [] }

-- after one more read, which gave the first n bytes of buf
abbrev pub gave : Known → ℕ → List ℕ → Known
gave t n buf = record (asked t) { given = t.given ++ take n buf; left = drop n t.left }

-- with these bytes taken
abbrev pub took : Known → List ℕ → Known
took t bytes = record t { taken = t.taken ++ bytes }

-- a start adds its words, also where it failed; running out of memory adds nothing
abbrev pub Starts : Option Known → Option Known → Result (Unit {0}) PortError → List (List ℕ) → Type 0
Starts None new r words = Unit {0}
Starts (Some t) new (Ok x) words = new ≡ Some (started t words)
Starts (Some t) new (Err Failed) words = new ≡ Some (started t words)
Starts (Some t) new (Err NoMemory) words = new ≡ Some t

-- a read takes its bytes from the front of what is left, and 0 only where nothing is left; a failed one is listed and gives nothing
abbrev pub Reads : Option Known → Option Known → Result ℕ PortError → List ℕ → Type 0
Reads None new r buf = Unit {0}
Reads (Some t) new (Ok n) buf = (new ≡ Some (gave t n buf)) × (take n buf ≡ take n t.left) × (n ≡ 0 → t.left ≡ [])
Reads (Some t) new (Err Failed) buf = new ≡ Some (asked t)
Reads (Some t) new (Err NoMemory) buf = new ≡ Some t

-- a write takes the bytes that it counts, and an error none
abbrev pub Writes : Option Known → Option Known → Result ℕ PortError → List ℕ → Type 0
Writes None new r bytes = Unit {0}
Writes (Some t) new (Ok n) bytes = new ≡ Some (took t (take n bytes))
Writes (Some t) new (Err e) bytes = new ≡ Some t

-- the end is answered by a read of 0, and then by each later read
abbrev pub EndsAt : Bool → Bool → Result ℕ PortError → Type 0
EndsAt old new (Ok n) = (new ≡ (old || n == 0)) × (old ≡ true → n ≡ 0)
EndsAt old new (Err e) = new ≡ old
