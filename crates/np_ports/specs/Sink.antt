-- What a sink tells of itself: the bytes that it took. (This project's own.)
use Rattle.std.specs.Prelude.{◌≡◌, ℕ, List, ◌++◌, take, Option, Some, None, Result, Ok, Err}
use Rattle.np_ports.specs.declared.error.PortError.{PortError}

-- a write takes the bytes that it counts, and an error none
abbrev pub Takes : Option (List ℕ) → Option (List ℕ) → Result ℕ PortError → List ℕ → Type 0
Takes None new r bytes = Unit {0}
Takes (Some t) new (Ok n) bytes = new ≡ Some (t ++ take n bytes)
Takes (Some t) new (Err e) bytes = new ≡ Some t
