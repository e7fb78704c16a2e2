-- What a session of a plug-in did, at each ending of its exchange. (This project's own.)
use Rattle.std.specs.Prelude.{◌≡◌, ℕ, ◌^◌, ◌<◌, List, ◌++◌, ◌⊎◌, length}
use Rattle.np_model.specs.declared.script.Plugin.{Plugin}
use Rattle.np_model.specs.declared.refusal.Refusal.{Refusal}
use Rattle.np_message.specs.Encoding.{encodings}
use Rattle.np_model.specs.Side.{SideState}
use Rattle.np_model.specs.PluginPlan.{PluginControl}
use Rattle.np_model.specs.Journal.{end_line, refused_line}
use Rattle.np_model.specs.Alone.{plugin_role, WaitsAt, EndsAt, RefusesAt}
use Rattle.np_ports.specs.Peer.{Known}
use Rattle.np_end_stops.specs.declared.ending.Ending.{Ending}
use Rattle.np_end_stops.specs.declared.ending.Ending.TheVariants.{Done, Unsent, Ended, Failed, Refused}
use Rattle.np_end_stops.specs.Causes.{BeginsWith}
use Rattle.np_exchange.specs.Session.{Exchanged, Outcome, Completed}
use Rattle.np_exchange.specs.Closing.{CutSession}

-- Status 5: the peer ended while the plug-in waited and another read was due.
pub record PeerEnded (plugin : Plugin) (old : Known) (first : List ℕ) (new : Known) (sink : List ℕ) : Type 0 where
  pub got : List ℕ
  pub sent : List ℕ
  pub side : SideState PluginControl
  pub exchanged : Exchanged (plugin_role plugin) old new got sent
  pub waits : WaitsAt (plugin_role plugin) got side
  pub below_limit : length got < 2 ^ 40
  pub sent_is : sent ≡ encodings side.sent
  pub printed : sink ≡ first ++ (side.journal ++ end_line 5)

-- Status 6: a read or write failed; the peer took a part of the messages.
pub record PipeFailed (plugin : Plugin) (old : Known) (first : List ℕ) (new : Known) (sink : List ℕ) : Type 0 where
  pub got : List ℕ
  pub sent : List ℕ
  pub side : SideState PluginControl
  pub exchanged : Exchanged (plugin_role plugin) old new got sent
  pub rests : WaitsAt (plugin_role plugin) got side ⊎ EndsAt (plugin_role plugin) got side
  pub sent_part : BeginsWith (encodings side.sent) sent
  pub printed : sink ≡ first ++ (side.journal ++ end_line 6)

-- Status 7: what the page sent was refused; the peer took a part of the messages that were made before.
pub record PeerRefused (plugin : Plugin) (old : Known) (first : List ℕ) (new : Known) (sink : List ℕ) : Type 0 where
  pub got : List ℕ
  pub sent : List ℕ
  pub side : SideState PluginControl
  pub refusal : Refusal
  pub exchanged : Exchanged (plugin_role plugin) old new got sent
  pub refuses : RefusesAt (plugin_role plugin) got side refusal
  pub sent_part : BeginsWith (encodings side.sent) sent
  pub printed : sink ≡ first ++ (side.journal ++ refused_line refusal)

-- what the session of this plug-in did, whose exchange came to this ending; it is done, at status 0, where Shutdown was answered and the peer took the answer
abbrev pub OutcomeOf : Plugin → Ending → Outcome
OutcomeOf plugin Done old first new sink = Completed (plugin_role plugin) old first new sink
OutcomeOf plugin Unsent old first new sink = PipeFailed plugin old first new sink
OutcomeOf plugin Ended old first new sink = PeerEnded plugin old first new sink
OutcomeOf plugin Failed old first new sink = PipeFailed plugin old first new sink
OutcomeOf plugin (Refused r) old first new sink = PeerRefused plugin old first new sink

-- Statuses 8 and 10 once the plug-in had begun.
abbrev pub CutShort : Type 0 → Type 0 → Plugin → Outcome
CutShort pipe_failed peer_ended plugin = CutSession (plugin_role plugin) (OutcomeOf plugin) pipe_failed peer_ended
