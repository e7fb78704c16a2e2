-- What a session of a page did, at each ending of its exchange. (This project's own.)
use Rattle.std.specs.Prelude.{◌≡◌, ℕ, ◌^◌, ◌<◌, List, ◌++◌, ◌⊎◌, length}
use Rattle.np_model.specs.declared.script.Page.{Page}
use Rattle.np_model.specs.declared.refusal.Refusal.{Refusal}
use Rattle.np_message.specs.Encoding.{encodings}
use Rattle.np_model.specs.Side.{SideState}
use Rattle.np_model.specs.PagePlan.{PageControl}
use Rattle.np_model.specs.HostRun.{GoesOnLost}
use Rattle.np_model.specs.Journal.{end_line, refused_line}
use Rattle.np_model.specs.Alone.{page_role, WaitsAt, EndsAt, RefusesAt}
use Rattle.np_ports.specs.Peer.{Known}
use Rattle.np_end_stops.specs.declared.ending.Ending.{Ending}
use Rattle.np_end_stops.specs.declared.ending.Ending.TheVariants.{Done, Unsent, Ended, Failed, Refused}
use Rattle.np_end_stops.specs.Causes.{BeginsWith}
use Rattle.np_exchange.specs.Session.{Exchanged, Outcome, Completed}
use Rattle.np_exchange.specs.Closing.{CutSession}

-- Status 5: the peer ended while the page waited and another read was due, and the page went on alone to `last`.
pub record PeerEnded (page : Page) (old : Known) (first : List ℕ) (new : Known) (sink : List ℕ) : Type 0 where
  pub got : List ℕ
  pub sent : List ℕ
  pub side : SideState PageControl
  pub last : SideState PageControl
  pub exchanged : Exchanged (page_role page) old new got sent
  pub waits : WaitsAt (page_role page) got side
  pub below_limit : length got < 2 ^ 40
  pub lost : GoesOnLost page side last
  pub sent_is : sent ≡ encodings side.sent
  pub printed : sink ≡ first ++ (last.journal ++ end_line 5)

-- Status 6: a read or write failed. The lines are those of the page that went on alone, or, where only its last messages were not written, its own.
pub record PipeFailed (page : Page) (old : Known) (first : List ℕ) (new : Known) (sink : List ℕ) : Type 0 where
  pub got : List ℕ
  pub sent : List ℕ
  pub side : SideState PageControl
  pub lines : List ℕ
  pub exchanged : Exchanged (page_role page) old new got sent
  pub rests : (WaitsAt (page_role page) got side × ((last : SideState PageControl) × GoesOnLost page side last × (lines ≡ last.journal))) ⊎ (EndsAt (page_role page) got side × (lines ≡ side.journal))
  pub sent_part : BeginsWith (encodings side.sent) sent
  pub printed : sink ≡ first ++ (lines ++ end_line 6)

-- Status 7: what the plug-in sent was refused, and the page went on alone to `last`.
pub record PeerRefused (page : Page) (old : Known) (first : List ℕ) (new : Known) (sink : List ℕ) : Type 0 where
  pub got : List ℕ
  pub sent : List ℕ
  pub side : SideState PageControl
  pub last : SideState PageControl
  pub refusal : Refusal
  pub exchanged : Exchanged (page_role page) old new got sent
  pub refuses : RefusesAt (page_role page) got side refusal
  pub lost : GoesOnLost page side last
  pub sent_part : BeginsWith (encodings side.sent) sent
  pub printed : sink ≡ first ++ (last.journal ++ refused_line refusal)

-- what the session of this page did, whose exchange came to this ending; it is done, at status 0, where the reply to Shutdown was delivered
abbrev pub OutcomeOf : Page → Ending → Outcome
OutcomeOf page Done old first new sink = Completed (page_role page) old first new sink
OutcomeOf page Unsent old first new sink = PipeFailed page old first new sink
OutcomeOf page Ended old first new sink = PeerEnded page old first new sink
OutcomeOf page Failed old first new sink = PipeFailed page old first new sink
OutcomeOf page (Refused r) old first new sink = PeerRefused page old first new sink

-- Statuses 8 and 10 once the page had begun.
abbrev pub CutShort : Type 0 → Type 0 → Page → Outcome
CutShort pipe_failed peer_ended page = CutSession (page_role page) (OutcomeOf page) pipe_failed peer_ended
