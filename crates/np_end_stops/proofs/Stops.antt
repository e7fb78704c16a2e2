-- What holds of a call that answers a status or stops the run.
use Rattle.std.proofs.Common.{◌≡◌, ℕ, Result, Ok, Err, subst}
use Rattle.std.specs.Prelude.{IfOk, OnOk, OnErr}
use Rattle.np_ports.specs.Causes.{Rose, FailedOnly, HasCause}
use Rattle.np_ports.specs.declared.error.PortError.{PortError}
use Rattle.np_ports.specs.declared.error.PortError.TheVariants as ports
use Rattle.np_end_stops.specs.declared.stop.Stop.{Stop}

-- what holds of each status
pub on-each : (result : Result ℕ Stop) (P : ℕ → Type 0) → ((status : ℕ) → P status) → IfOk result P
on-each (Ok status) P f = f status
on-each (Err stop) P f = tt

pub if-then : (result : Result ℕ Stop) (P Q : ℕ → Type 0) → ((status : ℕ) → P status → Q status) → IfOk result P → IfOk result Q
if-then (Ok status) P Q f h = f status h
if-then (Err stop) P Q f h = tt

-- what holds of a call that came to its end
pub ok-then : (result : Result ℕ Stop) (P : Type 0) (Q : ℕ → Type 0) → ((status : ℕ) → P → Q status) → OnOk result P → IfOk result Q
ok-then (Ok status) P Q f p = f status p
ok-then (Err stop) P Q f p = tt

-- what holds of a call that stopped the run
pub on-stop : {T : Type 0} (result : Result T Stop) (P : Type 0) → P → OnErr result P
on-stop (Ok x) P p = tt
on-stop (Err stop) P p = p

-- a call that failed has its cause
pub failed-cause : {T : Type 0} (before now : ℕ) (e : PortError) → e ≡ ports.Failed → HasCause {T = T} before now (Err e) → Rose before now
failed-cause {T} before now e is cause = subst (λ (x : PortError). FailedOnly {T = T} (Err x) (Rose before now)) is cause.failed
