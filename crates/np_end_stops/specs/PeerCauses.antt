-- When an exchange may end by its peer. (This project's own.)
use Rattle.std.specs.Prelude.{◌≡◌, ℕ, ◌≤◌, List, ◌++◌, Bool, true, false, Option, Some, None, Result, Ok, Err, ◌⊎◌, take}
use Rattle.np_values.specs.declared.memory.NoMemory.{NoMemory}
use Rattle.np_ports.specs.Causes.{Rose}
use Rattle.np_ports.specs.Peer.{Known, took, gave}
use Rattle.np_end_stops.specs.declared.heard.Heard.{Heard}
use Rattle.np_end_stops.specs.declared.heard.Heard.TheVariants as heard
use Rattle.np_end_stops.specs.declared.ending.Ending.{Ending}
use Rattle.np_end_stops.specs.declared.ending.Ending.TheVariants as endings
use Rattle.np_end_stops.specs.declared.stop.Stop.{Stop}
use Rattle.np_end_stops.specs.declared.stop.Stop.TheVariants as stops
use Rattle.np_end_stops.specs.Status.{PEER_LOST, PIPE_FAILED}

-- ---- messages that are sent

-- where memory ran out, the peer took a part of the messages
abbrev pub TookPart : Option Known → Option Known → List ℕ → Type 0
TookPart known0 known1 bytes = (t : Known) → known0 ≡ Some t → (x : List ℕ) × (y : List ℕ) × (bytes ≡ x ++ y) × (known1 ≡ Some (took t x))

-- this holds where messages stay unsent
abbrev pub Unsent : Result Bool NoMemory → Type 0 → Type 0
Unsent (Ok true) P = Unit {0}
Unsent (Ok false) P = P
Unsent (Err e) P = Unit {0}

-- the peer's count doesn't fall, and messages stay unsent only where it rose
pub record PeerCause (before now : ℕ) (result : Result Bool NoMemory) : Type 0 where
  pub later : before ≤ now
  pub failed : Unsent result (Rose before now)

-- ---- a read

-- where memory ran out, it was before the read, or the peer gave bytes of what it had left that the end didn't get
abbrev pub ReadCut : Option Known → Option Known → Type 0
ReadCut known0 known1 = (t : Known) → known0 ≡ Some t → (known1 ≡ Some t) ⊎ ((n : ℕ) × (buf : List ℕ) × (known1 ≡ Some (gave t n buf)) × (take n buf ≡ take n t.left))

-- no more bytes came than this
abbrev pub AtMost : Heard → ℕ → Type 0
AtMost (heard.Bytes n) limit = n ≤ limit
AtMost heard.Ended limit = Unit {0}
AtMost heard.Failed limit = Unit {0}

-- this holds where the read failed
abbrev pub Unread : Result Heard NoMemory → Type 0 → Type 0
Unread (Ok (heard.Bytes n)) P = Unit {0}
Unread (Ok heard.Ended) P = Unit {0}
Unread (Ok heard.Failed) P = P
Unread (Err e) P = Unit {0}

-- the peer's count doesn't fall, and a read failed only where it rose
pub record ReadCause (before now : ℕ) (result : Result Heard NoMemory) : Type 0 where
  pub later : before ≤ now
  pub failed : Unread result (Rose before now)

-- the end is told only where a read answered it
abbrev pub EndedBy : Bool → Result Heard NoMemory → Type 0
EndedBy ended (Ok (heard.Bytes n)) = Unit {0}
EndedBy ended (Ok heard.Ended) = ended ≡ true
EndedBy ended (Ok heard.Failed) = Unit {0}
EndedBy ended (Err e) = Unit {0}

-- ---- a turn of the exchange, which continues or ends

-- this holds where the exchange continues
abbrev pub GoesOnOnly : Option Ending → Type 0 → Type 0
GoesOnOnly None P = P
GoesOnOnly (Some ending) P = Unit {0}

-- the run stops only because memory ran out
abbrev pub IsMemoryOnly : Result (Option Ending) Stop → Type 0
IsMemoryOnly (Ok ending) = Unit {0}
IsMemoryOnly (Err stops.OutputFailed) = ⊥
IsMemoryOnly (Err stops.NoMemory) = Unit {0}

-- this holds where the exchange ends by a fault of the peer
abbrev pub FaultEnding : Option Ending → Type 0 → Type 0
FaultEnding None P = Unit {0}
FaultEnding (Some endings.Done) P = Unit {0}
FaultEnding (Some endings.Unsent) P = P
FaultEnding (Some endings.Ended) P = Unit {0}
FaultEnding (Some endings.Failed) P = P
FaultEnding (Some (endings.Refused r)) P = Unit {0}

-- the same of a turn of the exchange
abbrev pub FaultOnly : Result (Option Ending) Stop → Type 0 → Type 0
FaultOnly (Ok ending) P = FaultEnding ending P
FaultOnly (Err stop) P = Unit {0}

-- the peer's count doesn't fall, and the exchange ends by its fault only where it rose
pub record EndingCause (before now : ℕ) (result : Result (Option Ending) Stop) : Type 0 where
  pub later : before ≤ now
  pub failed : FaultOnly result (Rose before now)

-- the exchange ends by the peer's end only where a read answered it
abbrev pub EndedOnly : Bool → Result (Option Ending) Stop → Type 0
EndedOnly ended (Ok None) = Unit {0}
EndedOnly ended (Ok (Some endings.Done)) = Unit {0}
EndedOnly ended (Ok (Some endings.Unsent)) = Unit {0}
EndedOnly ended (Ok (Some endings.Ended)) = ended ≡ true
EndedOnly ended (Ok (Some endings.Failed)) = Unit {0}
EndedOnly ended (Ok (Some (endings.Refused r))) = Unit {0}
EndedOnly ended (Err stop) = Unit {0}

-- ---- the whole exchange

-- the same of the whole exchange
abbrev pub TalkFault : Result Ending Stop → Type 0 → Type 0
TalkFault (Ok ending) P = FaultEnding (Some ending) P
TalkFault (Err stop) P = Unit {0}

-- the peer's count doesn't fall, and the exchange ends by its fault only where it rose
pub record TalkCause (before now : ℕ) (result : Result Ending Stop) : Type 0 where
  pub later : before ≤ now
  pub failed : TalkFault result (Rose before now)

-- the exchange ends by the peer's end only where a read answered it
abbrev pub TalkEnded : Bool → Result Ending Stop → Type 0
TalkEnded ended (Ok ending) = EndedOnly ended (Ok (Some ending))
TalkEnded ended (Err stop) = Unit {0}

-- what comes before this ending: the pipes failed, or the peer ended, or nothing of the kind
abbrev pub HasReason : Type 0 → Type 0 → Ending → Type 0
HasReason pipe_failed peer_ended endings.Done = Unit {0}
HasReason pipe_failed peer_ended endings.Unsent = pipe_failed
HasReason pipe_failed peer_ended endings.Ended = peer_ended
HasReason pipe_failed peer_ended endings.Failed = pipe_failed
HasReason pipe_failed peer_ended (endings.Refused r) = Unit {0}

-- ---- a session, which answers a status

-- this holds where the status is 6
abbrev pub SixOnly : Result ℕ Stop → Type 0 → Type 0
SixOnly (Ok status) P = status ≡ PIPE_FAILED → P
SixOnly (Err stop) P = Unit {0}

-- the peer's count doesn't fall, and the status is 6 only where it rose
pub record SessionCause (before now : ℕ) (result : Result ℕ Stop) : Type 0 where
  pub later : before ≤ now
  pub failed : SixOnly result (Rose before now)

-- the status is 5 only where a read answered the end
abbrev pub SessionEnded : Bool → Result ℕ Stop → Type 0
SessionEnded ended (Ok status) = status ≡ PEER_LOST → ended ≡ true
SessionEnded ended (Err stop) = Unit {0}
