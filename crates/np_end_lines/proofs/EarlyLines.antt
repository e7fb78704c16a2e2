-- The end line where nothing ran.
use Rattle.std.proofs.Common.{◌≡◌, ℕ, List, Option, Result, Ok, Err, subst, sym}
use Rattle.std.specs.Prelude.{IfOk, OnOk}
use Rattle.np_end_stops.specs.declared.stop.Stop.{Stop}
use Rattle.np_end_stops.specs.Causes.{Adds}
use Rattle.np_end_lines.specs.ScriptLines.{IsEarlyLine}

-- the line that was printed is that of the status
pub early-line : (result : Result ℕ Stop) (status : ℕ) (line : List ℕ) (taken0 taken1 : Option (List ℕ)) → IsEarlyLine status line → IfOk result (λ s. s ≡ status) → OnOk result (Adds taken0 taken1 line) → IfOk result (λ s. (l : List ℕ) × IsEarlyLine s l × Adds taken0 taken1 l)
early-line (Ok s) status line taken0 taken1 is same adds = (line, subst (λ (n : ℕ). IsEarlyLine n line) (sym same) is, adds)
early-line (Err stop) status line taken0 taken1 is same adds = tt
