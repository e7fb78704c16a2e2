-- A side over a peer and a sink that tell their calls: what a whole session of it did. (This project's own.)
use Rattle.std.specs.Prelude.{◌≡◌, ℕ, ◌+◌, ◌-◌, ◌≤◌, List, ◌++◌, length, take, Option, Some}
use Rattle.std.specs.List.{AllByRecursion}
use Rattle.np_message.specs.Encoding.{encodings}
use Rattle.np_model.specs.Side.{SideState}
use Rattle.np_model.specs.Journal.{end_line}
use Rattle.np_model.specs.Alone.{Role, ComesTo, WaitsAt, EndsAt}
use Rattle.np_ports.specs.Peer.{Known}
use Rattle.np_end_stops.specs.Causes.{BeginsWith}

-- At this read of a session in which the side got and sent these bytes in all, it waited for a message that wasn't whole, and the peer had taken all its messages so far.
pub record ReadsWell {C : Type 0} (role : Role C) (old : Known) (got sent : List ℕ) (r : ℕ × ℕ) : Type 0 where
  pub side : SideState C
  pub waits : WaitsAt role (take (r.1 - length old.given) got) side
  pub taken : take (r.0 - length old.taken) sent ≡ encodings side.sent
  pub within_got : r.1 - length old.given ≤ length got
  pub within_sent : r.0 - length old.taken ≤ length sent

-- the peer gave these bytes, off the front of what it had left, and took these; it was not started, and each read came when the side waited
pub record Exchanged {C : Type 0} (role : Role C) (old new : Known) (got sent : List ℕ) : Type 0 where
  pub reads : List (ℕ × ℕ)
  pub given : new.given ≡ old.given ++ got
  pub left : old.left ≡ got ++ new.left
  pub taken : new.taken ≡ old.taken ++ sent
  pub starts : new.starts ≡ old.starts
  pub reads_are : new.reads ≡ old.reads ++ reads
  pub each : AllByRecursion (ReadsWell role old got sent) reads

-- a peer that records its traffic gave at most this many bytes
abbrev pub GaveAtMost : ℕ → Option Known → Option Known → Type 0
GaveAtMost limit known0 known1 = (old : Known) → known0 ≡ Some old → (new : Known) × (known1 ≡ Some new) × (length new.given ≤ length old.given + limit)

-- an outcome of a session, of what the peer and the sink tell before and after it
abbrev pub Outcome : Type 1
Outcome = Known → List ℕ → Known → List ℕ → Type 0

abbrev pub Told : Outcome → Option Known → Option Known → Option (List ℕ) → Option (List ℕ) → Type 0
Told outcome known0 known1 taken0 taken1 =
    (old : Known) (first : List ℕ) → known0 ≡ Some old → taken0 ≡ Some first →
    (new : Known) × (sink : List ℕ) × (known1 ≡ Some new) × (taken1 ≡ Some sink) × outcome old first new sink

-- Status 0: the side has ended, and the peer took all its messages.
pub record Completed {C : Type 0} (role : Role C) (old : Known) (first : List ℕ) (new : Known) (sink : List ℕ) : Type 0 where
  pub got : List ℕ
  pub sent : List ℕ
  pub side : SideState C
  pub exchanged : Exchanged role old new got sent
  pub ends : EndsAt role got side
  pub sent_is : sent ≡ encodings side.sent
  pub printed : sink ≡ first ++ (side.journal ++ end_line 0)

-- Whatever was written to the peer was made at a place whose lines had all been printed by then: the side comes to `place` with the bytes that the peer gave, the peer took a part of the messages of that place, and the sink took its whole journal, and perhaps more.
pub record PrintsFirst {C : Type 0} (role : Role C) (old : Known) (first : List ℕ) (new : Known) (sink : List ℕ) : Type 0 where
  pub got : List ℕ
  pub sent : List ℕ
  pub place : SideState C
  pub given : new.given ≡ old.given ++ got
  pub taken : new.taken ≡ old.taken ++ sent
  pub comes_to : ComesTo role got place
  pub made_there : BeginsWith (encodings place.sent) sent
  pub printed : BeginsWith sink (first ++ place.journal)

-- Statuses 8 and 10 in the midst of the exchange: the side came to `side`; by then the peer took a part of its messages, and the sink a part of its journal.
pub record Interrupted {C : Type 0} (role : Role C) (old : Known) (first : List ℕ) (new : Known) (sink : List ℕ) : Type 0 where
  pub got : List ℕ
  pub sent : List ℕ
  pub side : SideState C
  pub lines : List ℕ
  pub exchanged : Exchanged role old new got sent
  pub comes_to : ComesTo role got side
  pub sent_part : BeginsWith (encodings side.sent) sent
  pub lines_part : BeginsWith side.journal lines
  pub printed : sink ≡ first ++ lines
