-- When a call of the environment may answer an error. (This project's own.)
use Rattle.std.specs.Prelude.{ℕ, ◌+◌, ◌-◌, ◌^◌, ◌≤◌, min, Result, Ok, Err}
use Rattle.np_ports.specs.declared.error.PortError.{PortError}
use Rattle.np_ports.specs.declared.error.PortError.TheVariants.{Failed, NoMemory}

-- a count of faults has risen, or stands at its end, 2^64 - 1
abbrev pub Rose : ℕ → ℕ → Type 0
Rose before now = min (before + 1) (2 ^ 64 - 1) ≤ now

-- this holds where the call answered Failed
abbrev pub FailedOnly : {T : Type 0} → Result T PortError → Type 0 → Type 0
FailedOnly (Err Failed) P = P
FailedOnly (Err NoMemory) P = Unit {0}
FailedOnly (Ok x) P = Unit {0}

-- a count of faults is one higher after a call that failed, up to 2^64 - 1, and else as it was
abbrev pub counted : {T : Type 0} → ℕ → Result T PortError → ℕ
counted n (Ok x) = n
counted n (Err Failed) = min (n + 1) (2 ^ 64 - 1)
counted n (Err NoMemory) = n

-- a count of answers of out of memory is one higher after a call that answered so, up to 2^64 - 1, and else as it was
abbrev pub counted_memory : {T : Type 0} → ℕ → Result T PortError → ℕ
counted_memory n (Ok x) = n
counted_memory n (Err Failed) = n
counted_memory n (Err NoMemory) = min (n + 1) (2 ^ 64 - 1)

-- a count doesn't fall, and Failed comes only where it rose
pub record HasCause {T : Type 0} (before now : ℕ) (result : Result T PortError) : Type 0 where
  pub later : before ≤ now
  pub failed : FailedOnly result (Rose before now)
