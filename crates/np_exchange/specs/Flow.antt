-- What carrying bytes between an end and its environment does. (This project's own.)
use Rattle.std.specs.Prelude.{◌≡◌, ℕ, ◌+◌, ◌-◌, ◌^◌, ◌<◌, min, List, [], ◌++◌, length, take, Bool, true, false, Option, Some, Result, Ok, Err}
use Rattle.np_values.specs.declared.memory.NoMemory.{NoMemory}
use Rattle.np_model.specs.Alone.{Role}
use Rattle.np_ports.specs.Peer.{Known, took, gave, asked}
use Rattle.np_end_stops.specs.declared.heard.Heard.{Heard}
use Rattle.np_end_stops.specs.declared.heard.Heard.TheVariants.{Bytes, Ended, Failed}
use Rattle.np_endpoint.specs.End.{EndState, StandsFor}

-- the journal was printed and cut off
pub record Printed {S C : Type 0} (role_of : S → Role C) (old new : EndState S C) : Type 0 where
  pub same : new ≡ record old { journal = [] }
  pub stands : (script : S) (got sent printed : List ℕ) → StandsFor role_of script got sent printed old → StandsFor role_of script got sent (printed ++ old.journal) new

-- all messages were sent and cut off, or the peer failed and took a part of them
pub record SentAll {S C : Type 0} (role_of : S → Role C) (known0 known1 : Option Known) (old new : EndState S C) : Type 0 where
  pub known : (t : Known) → known0 ≡ Some t → known1 ≡ Some (took t old.outgoing)
  pub same : new ≡ record old { outgoing = [] }
  pub stands : (script : S) (got sent printed : List ℕ) → StandsFor role_of script got sent printed old → StandsFor role_of script got (sent ++ old.outgoing) printed new

pub record SentPart {S C : Type 0} (known0 known1 : Option Known) (old new : EndState S C) : Type 0 where
  pub known : (t : Known) → known0 ≡ Some t → (x : List ℕ) × (y : List ℕ) × (old.outgoing ≡ x ++ y) × (known1 ≡ Some (took t x))
  pub same : new ≡ old

abbrev pub Sent : {S C : Type 0} → (S → Role C) → Option Known → Option Known → EndState S C → EndState S C → Bool → Type 0
Sent role_of known0 known1 old new true = SentAll role_of known0 known1 old new
Sent role_of known0 known1 old new false = SentPart known0 known1 old new

-- the peer gave n bytes, which the end got
pub record HeardBytes {S C : Type 0} (role_of : S → Role C) (known0 known1 : Option Known) (old new : EndState S C) (n : ℕ) : Type 0 where
  pub some : 0 < n
  pub bytes : List ℕ
  pub size : length bytes ≡ n
  pub known : (t : Known) → known0 ≡ Some t → (buf : List ℕ) × (bytes ≡ take n buf) × (known1 ≡ Some (gave t n buf)) × (take n buf ≡ take n t.left)
  pub same : new ≡ record old { unread = old.unread ++ bytes }
  pub stands : (script : S) (got sent printed : List ℕ) → StandsFor role_of script got sent printed old → StandsFor role_of script (got ++ bytes) sent printed new

-- the peer has nothing left
pub record HeardEnd {S C : Type 0} (known0 known1 : Option Known) (old new : EndState S C) : Type 0 where
  pub known : (t : Known) → known0 ≡ Some t → (t.left ≡ []) × ((buf : List ℕ) × (known1 ≡ Some (gave t 0 buf)))
  pub same : new ≡ old

pub record HeardFault {S C : Type 0} (known0 known1 : Option Known) (old new : EndState S C) : Type 0 where
  pub known : (t : Known) → known0 ≡ Some t → known1 ≡ Some (asked t)
  pub same : new ≡ old

abbrev pub Hears : {S C : Type 0} → (S → Role C) → Option Known → Option Known → EndState S C → EndState S C → Heard → Type 0
Hears role_of known0 known1 old new (Bytes n) = HeardBytes role_of known0 known1 old new n
Hears role_of known0 known1 old new Ended = HeardEnd known0 known1 old new
Hears role_of known0 known1 old new Failed = HeardFault known0 known1 old new

-- the peer's count is one higher where messages stay unsent, up to 2^64 - 1, and else as it was
abbrev pub counted_sent : ℕ → Result Bool NoMemory → ℕ
counted_sent n (Ok true) = n
counted_sent n (Ok false) = min (n + 1) (2 ^ 64 - 1)
counted_sent n (Err e) = n

-- the same where a read failed
abbrev pub counted_read : ℕ → Result Heard NoMemory → ℕ
counted_read n (Ok (Bytes k)) = n
counted_read n (Ok Ended) = n
counted_read n (Ok Failed) = min (n + 1) (2 ^ 64 - 1)
counted_read n (Err e) = n

-- the end was answered by then: it had been before, or this read answered it
abbrev pub ended_read : Bool → Result Heard NoMemory → Bool
ended_read ended (Ok (Bytes k)) = ended
ended_read ended (Ok Ended) = true
ended_read ended (Ok Failed) = ended
ended_read ended (Err e) = ended
