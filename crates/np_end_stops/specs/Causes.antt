-- When a run of a program may stop by a fault, and what a sink took by then. (This project's own.)
use Rattle.std.specs.Prelude.{◌≡◌, ℕ, ◌+◌, ◌-◌, ◌^◌, ◌≤◌, ◌<◌, min, List, ◌++◌, length, Option, Some, Result, Ok, Err}
use Rattle.np_ports.specs.Causes.{Rose}
use Rattle.np_ports.specs.declared.error.PortError.{PortError}
use Rattle.np_ports.specs.declared.error.PortError.TheVariants as ports
use Rattle.np_end_stops.specs.declared.stop.Stop.{Stop}
use Rattle.np_end_stops.specs.declared.stop.Stop.TheVariants.{OutputFailed, NoMemory}

-- a sink that answers so stops the run
abbrev pub stop_of : PortError → Stop
stop_of ports.Failed = OutputFailed
stop_of ports.NoMemory = NoMemory

-- this holds where the run stops for the output
abbrev pub OutputOnly : {T : Type 0} → Result T Stop → Type 0 → Type 0
OutputOnly (Err OutputFailed) P = P
OutputOnly (Err NoMemory) P = Unit {0}
OutputOnly (Ok x) P = Unit {0}

-- a sink's count doesn't fall, and the run stops for the output only where it rose
pub record SinkCause {T : Type 0} (before now : ℕ) (result : Result T Stop) : Type 0 where
  pub later : before ≤ now
  pub failed : OutputOnly result (Rose before now)

-- a sink's count is one higher where the run stopped for the output, up to 2^64 - 1, and else as it was
abbrev pub counted_output : {T : Type 0} → ℕ → Result T Stop → ℕ
counted_output n (Ok x) = n
counted_output n (Err OutputFailed) = min (n + 1) (2 ^ 64 - 1)
counted_output n (Err NoMemory) = n

-- this holds where memory ran out
abbrev pub MemoryOnly : {T : Type 0} → Result T Stop → Type 0 → Type 0
MemoryOnly (Ok x) P = Unit {0}
MemoryOnly (Err OutputFailed) P = Unit {0}
MemoryOnly (Err NoMemory) P = P

-- this holds unless memory ran out
abbrev pub UnlessMemory : {T : Type 0} → Result T Stop → Type 0 → Type 0
UnlessMemory (Ok x) P = P
UnlessMemory (Err OutputFailed) P = P
UnlessMemory (Err NoMemory) P = Unit {0}

-- a sink's count of out of memory is one higher where memory ran out, up to 2^64 - 1, and else as it was
abbrev pub counted_memory_stop : {T : Type 0} → ℕ → Result T Stop → ℕ
counted_memory_stop n (Ok x) = n
counted_memory_stop n (Err OutputFailed) = n
counted_memory_stop n (Err NoMemory) = min (n + 1) (2 ^ 64 - 1)

-- for a sink that records what it took, it took these bytes
abbrev pub Adds : Option (List ℕ) → Option (List ℕ) → List ℕ → Type 0
Adds taken0 taken1 bytes = (t : List ℕ) → taken0 ≡ Some t → taken1 ≡ Some (t ++ bytes)

-- for a sink that records what it took, it took a part of these bytes, and not all
abbrev pub AddsPart : Option (List ℕ) → Option (List ℕ) → List ℕ → Type 0
AddsPart taken0 taken1 bytes = (t : List ℕ) → taken0 ≡ Some t → (x : List ℕ) × (y : List ℕ) × (bytes ≡ x ++ y) × (taken1 ≡ Some (t ++ x)) × (0 < length y)

-- a list begins with another
pub record BeginsWith (all front : List ℕ) : Type 0 where
  pub rest : List ℕ
  pub parts : all ≡ front ++ rest
