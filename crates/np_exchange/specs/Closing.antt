-- How a session ends, whatever is printed after its exchange. (This project's own.)
use Rattle.std.specs.Prelude.{◌≡◌, ℕ, ◌<◌, List, length, ◌⊎◌, Option, Some}
use Rattle.np_model.specs.Alone.{Role}
use Rattle.np_ports.specs.Peer.{Known}
use Rattle.np_end_stops.specs.declared.ending.Ending.{Ending}
use Rattle.np_end_stops.specs.PeerCauses.{HasReason}
use Rattle.np_end_stops.specs.Status.{status_of, DONE, PEER_LOST, PIPE_FAILED}
use Rattle.np_end_stops.specs.Causes.{BeginsWith}
use Rattle.np_endpoint.specs.End.{EndState}
use Rattle.np_exchange.specs.Session.{Outcome, Told, PrintsFirst, Interrupted}
use Rattle.np_exchange.specs.Live.{AtEnding}

-- a session ended so, with this status
abbrev pub EndsWith : (Ending → Outcome) → Option Known → Option Known → Option (List ℕ) → Option (List ℕ) → ℕ → Type 0
EndsWith outcome known0 known1 taken0 taken1 status = (ending : Ending) × (status ≡ status_of ending) × Told (outcome ending) known0 known1 taken0 taken1

-- the statuses at which nothing was refused
abbrev pub IsUnrefusedStatus : ℕ → Type 0
IsUnrefusedStatus status = (status ≡ DONE) ⊎ ((status ≡ PEER_LOST) ⊎ (status ≡ PIPE_FAILED))

-- After the exchange came to this ending, the sink took a part of the lines that it takes at the status of the ending, and not all.
pub record CutAtEnding (outcome : Ending → Outcome) (old : Known) (first : List ℕ) (new : Known) (sink : List ℕ) (ending : Ending) : Type 0 where
  pub whole : List ℕ
  pub reached : outcome ending old first new whole
  pub part : BeginsWith whole sink
  pub unfinished : 0 < length part.rest
  pub first_stays : BeginsWith sink first

-- Statuses 8 and 10 once the side had begun: in the midst of the exchange, or after it came to an ending. What was written to the peer was made where all lines had been printed.
abbrev pub CutSession : {C : Type 0} → Role C → (Ending → Outcome) → Type 0 → Type 0 → Outcome
CutSession role outcome pipe_failed peer_ended old first new sink = PrintsFirst role old first new sink × (Interrupted role old first new sink ⊎ ((ending : Ending) × HasReason pipe_failed peer_ended ending × CutAtEnding outcome old first new sink ending))

-- ---- what is done after the exchange

-- where the exchange came to this ending, the sink took the lines of the outcome
abbrev pub Closed : {S C : Type 0} → (S → Role C) → (S → Ending → Outcome) → Option (List ℕ) → Option (List ℕ) → EndState S C → Ending → Type 0
Closed {S} role_of outcome taken0 taken1 e ending =
    (script : S) (old now : Known) (first sink : List ℕ) → taken0 ≡ Some sink → AtEnding role_of script old first now sink e ending →
    (more : List ℕ) × (taken1 ≡ Some more) × outcome script ending old first now more

-- or a part of them, the side's own lines before any message
abbrev pub ClosedPart : {S C : Type 0} → (S → Role C) → (S → Ending → Outcome) → Option (List ℕ) → Option (List ℕ) → EndState S C → Ending → Type 0
ClosedPart {S} role_of outcome taken0 taken1 e ending =
    (script : S) (old now : Known) (first sink : List ℕ) → taken0 ≡ Some sink → AtEnding role_of script old first now sink e ending →
    (more : List ℕ) × (taken1 ≡ Some more) × PrintsFirst (role_of script) old first now more × CutAtEnding (outcome script) old first now more ending
