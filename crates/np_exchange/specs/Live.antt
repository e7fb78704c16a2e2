-- An end in the midst of its exchange with a peer and a sink that tell their calls. (This project's own.)
use Rattle.std.specs.Prelude.{◌≡◌, ℕ, ◌+◌, ◌-◌, min, ◌<◌, ◌^◌, List, [], ◌++◌, ◌⊎◌, Bool, true, Option, Some, None, Result, Ok, Err}
use Rattle.np_end_stops.specs.declared.stop.Stop.{Stop}
use Rattle.np_model.specs.Alone.{Role, too_many_bytes}
use Rattle.np_ports.specs.Peer.{Known}
use Rattle.np_endpoint.specs.End.{EndState, StandsFor, Keeps, RestsAs, total_of}
use Rattle.np_endpoint.specs.declared.halt.Halt.{Halt}
use Rattle.np_endpoint.specs.declared.halt.Halt.TheVariants.{Waiting, Finished, Refused}
use Rattle.np_end_stops.specs.declared.ending.Ending.{Ending}
use Rattle.np_end_stops.specs.declared.ending.Ending.TheVariants as endings
use Rattle.np_end_stops.specs.Causes.{Adds, AddsPart, BeginsWith}
use Rattle.np_exchange.specs.Session.{Exchanged, PrintsFirst, Interrupted}
use Rattle.np_exchange.specs.Flow.{Printed, HeardBytes, HeardEnd, HeardFault}

-- An exchange that began with old and first stands at now and sink: the peer took `taken` of the end's messages, of which `sent` was cut off.
pub record Live {S C : Type 0} (role_of : S → Role C) (script : S) (old : Known) (first : List ℕ) (now : Known) (sink : List ℕ) (e : EndState S C) : Type 0 where
  pub got : List ℕ
  pub sent : List ℕ
  pub taken : List ℕ
  pub printed : List ℕ
  pub stands : StandsFor role_of script got sent printed e
  pub exchanged : Exchanged (role_of script) old now got taken
  pub taken_part : BeginsWith (sent ++ e.outgoing) taken
  pub sink_is : sink ≡ first ++ printed

-- all that the peer took was cut off, and was made where all lines had been printed
pub record Going {S C : Type 0} (role_of : S → Role C) (script : S) (old : Known) (first : List ℕ) (now : Known) (sink : List ℕ) (e : EndState S C) : Type 0 where
  pub live : Live role_of script old first now sink e
  pub whole : live.taken ≡ live.sent
  pub before : PrintsFirst (role_of script) old first now sink

-- how the end rests where its exchange comes to this ending
abbrev pub Ends : {S C : Type 0} → (S → Role C) → List ℕ → List ℕ → EndState S C → Ending → Type 0
Ends role_of taken sent e endings.Done = (taken ≡ sent) × (e.outgoing ≡ []) × RestsAs role_of e Finished
Ends role_of taken sent e endings.Unsent = RestsAs role_of e Finished
Ends role_of taken sent e endings.Ended = (taken ≡ sent) × (e.outgoing ≡ []) × RestsAs role_of e Waiting × (total_of e < 2 ^ 40)
Ends role_of taken sent e endings.Failed = RestsAs role_of e Waiting
Ends role_of taken sent e (endings.Refused r) = (e.state ≡ Refused r) ⊎ (RestsAs role_of e Waiting × (total_of e ≡ 2 ^ 40) × (r ≡ too_many_bytes))

-- the peer has nothing left where the exchange ends by its end
abbrev pub LeftAt : Ending → List ℕ → Type 0
LeftAt endings.Done left = Unit {0}
LeftAt endings.Unsent left = Unit {0}
LeftAt endings.Ended left = left ≡ []
LeftAt endings.Failed left = Unit {0}
LeftAt (endings.Refused r) left = Unit {0}

pub record AtEnding {S C : Type 0} (role_of : S → Role C) (script : S) (old : Known) (first : List ℕ) (now : Known) (sink : List ℕ) (e : EndState S C) (ending : Ending) : Type 0 where
  pub live : Live role_of script old first now sink e
  pub quiet : e.journal ≡ []
  pub ends : Ends role_of live.taken live.sent e ending
  pub left : LeftAt ending now.left

abbrev pub After : {S C : Type 0} → (S → Role C) → S → Known → List ℕ → Known → List ℕ → EndState S C → Option Ending → Type 0
After role_of script old first now sink e None = Going role_of script old first now sink e
After role_of script old first now sink e (Some ending) = AtEnding role_of script old first now sink e ending

-- a turn leads from one end to another, and the exchange continues or ends
abbrev pub Turned : {S C : Type 0} → (S → Role C) → Option Known → Option Known → Option (List ℕ) → Option (List ℕ) → EndState S C → EndState S C → Option Ending → Type 0
Turned {S} role_of known0 known1 taken0 taken1 e0 e1 ending =
    (script : S) (old now : Known) (first sink : List ℕ) → known0 ≡ Some now → taken0 ≡ Some sink → Going role_of script old first now sink e0 →
    (next : Known) × (more : List ℕ) × (known1 ≡ Some next) × (taken1 ≡ Some more) × After role_of script old first next more e1 ending

-- where a message is refused, the peer isn't called in that turn; else 2^40 bytes were read and another read is due
abbrev pub RefusesUncalled : Option Known → Option Known → Option Ending → Type 0
RefusesUncalled known0 known1 None = Unit {0}
RefusesUncalled known0 known1 (Some endings.Done) = Unit {0}
RefusesUncalled known0 known1 (Some endings.Unsent) = Unit {0}
RefusesUncalled known0 known1 (Some endings.Ended) = Unit {0}
RefusesUncalled known0 known1 (Some endings.Failed) = Unit {0}
RefusesUncalled known0 known1 (Some (endings.Refused r)) = (known1 ≡ known0) ⊎ (r ≡ too_many_bytes)

-- the exchange came to its ending
abbrev pub Talked : {S C : Type 0} → (S → Role C) → Option Known → Option Known → Option (List ℕ) → Option (List ℕ) → EndState S C → EndState S C → Ending → Type 0
Talked role_of known0 known1 taken0 taken1 e0 e1 ending = Turned role_of known0 known1 taken0 taken1 e0 e1 (Some ending)

-- a turn, or several, were cut short, and what was written by then was made where all lines had been printed
abbrev pub TurnCut : {S C : Type 0} → (S → Role C) → Option Known → Option Known → Option (List ℕ) → Option (List ℕ) → EndState S C → Type 0
TurnCut {S} role_of known0 known1 taken0 taken1 e0 =
    (script : S) (old now : Known) (first sink : List ℕ) → known0 ≡ Some now → taken0 ≡ Some sink → Going role_of script old first now sink e0 →
    (next : Known) × (more : List ℕ) × (known1 ≡ Some next) × (taken1 ≡ Some more) × PrintsFirst (role_of script) old first next more × Interrupted (role_of script) old first next more

-- the end was run, and its journal was printed
pub record Ran {S C : Type 0} (role_of : S → Role C) (taken0 taken1 : Option (List ℕ)) (old new : EndState S C) (halt : Halt) : Type 0 where
  pub between : EndState S C
  pub keeps : Keeps role_of old between
  pub rests : RestsAs role_of between halt
  pub adds : Adds taken0 taken1 between.journal
  pub printed : Printed role_of between new

-- the run stopped before its end: nothing was printed, or a part of the journal
abbrev pub RanCut : {S C : Type 0} → (S → Role C) → Option (List ℕ) → Option (List ℕ) → EndState S C → Type 0
RanCut {S} {C} role_of taken0 taken1 old = (taken1 ≡ taken0) ⊎ ((between : EndState S C) × Keeps role_of old between × AddsPart taken0 taken1 between.journal)

-- the end was given what the peer sent next; else why the exchange ends
abbrev pub HeardOn : {S C : Type 0} → (S → Role C) → Option Known → Option Known → EndState S C → EndState S C → Option Ending → Type 0
HeardOn role_of known0 known1 e0 e1 None = (n : ℕ) × HeardBytes role_of known0 known1 e0 e1 n
HeardOn role_of known0 known1 e0 e1 (Some endings.Done) = ⊥
HeardOn role_of known0 known1 e0 e1 (Some endings.Unsent) = ⊥
HeardOn role_of known0 known1 e0 e1 (Some endings.Ended) = HeardEnd known0 known1 e0 e1
HeardOn role_of known0 known1 e0 e1 (Some endings.Failed) = HeardFault known0 known1 e0 e1
HeardOn role_of known0 known1 e0 e1 (Some (endings.Refused r)) = ⊥

-- the peer's count is one higher where the exchange ends by its fault, up to 2^64 - 1, and else as it was
abbrev pub counted_turn : ℕ → Result (Option Ending) Stop → ℕ
counted_turn n (Ok None) = n
counted_turn n (Ok (Some endings.Done)) = n
counted_turn n (Ok (Some endings.Unsent)) = min (n + 1) (2 ^ 64 - 1)
counted_turn n (Ok (Some endings.Ended)) = n
counted_turn n (Ok (Some endings.Failed)) = min (n + 1) (2 ^ 64 - 1)
counted_turn n (Ok (Some (endings.Refused r))) = n
counted_turn n (Err stop) = n

abbrev pub counted_talk : ℕ → Result Ending Stop → ℕ
counted_talk n (Ok ending) = counted_turn n (Ok (Some ending))
counted_talk n (Err stop) = n

abbrev pub ended_turn : Bool → Result (Option Ending) Stop → Bool
ended_turn ended (Ok None) = ended
ended_turn ended (Ok (Some endings.Done)) = ended
ended_turn ended (Ok (Some endings.Unsent)) = ended
ended_turn ended (Ok (Some endings.Ended)) = true
ended_turn ended (Ok (Some endings.Failed)) = ended
ended_turn ended (Ok (Some (endings.Refused r))) = ended
ended_turn ended (Err stop) = ended

abbrev pub ended_talk : Bool → Result Ending Stop → Bool
ended_talk ended (Ok ending) = ended_turn ended (Ok (Some ending))
ended_talk ended (Err stop) = ended
