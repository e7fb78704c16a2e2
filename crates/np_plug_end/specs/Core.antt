-- What the private calls of a plug-in end do.
use Rattle.std.specs.Prelude.{◌≡◌, ◌+◌, List, ◌++◌, length, drop, true, ◌⊎◌, Option, Some, None}
use Rattle.np_model.specs.declared.script.Plugin.{Plugin}
use Rattle.np_message.specs.Message.{Message}
use Rattle.np_model.specs.declared.refusal.Refusal.{Refusal}
use Rattle.np_message.specs.Encoding.{encoding, encodings}
use Rattle.np_message.specs.Rules.{KeepsFormat, IsTyped}
use Rattle.np_message.specs.Decoding.{Partial, front}
use Rattle.np_wire_decode.specs.Reading.{needs_memory}
use Rattle.np_wire.specs.Feed.{HasWholeBody}
use Rattle.np_model.specs.Side.{Micro}
use Rattle.np_model.specs.Run.{Accepts, Refuses}
use Rattle.np_model.specs.PluginPlan.{PluginControl, serve_plan, plugin_meet}
use Rattle.np_model.specs.Steps.{control_after, sent_by, printed_by}
use Rattle.np_model.specs.Refused.{RefusedBy}
use Rattle.np_endpoint.specs.declared.fault.Fault.{Fault}
use Rattle.np_endpoint.specs.declared.halt.Halt.{Halt}
use Rattle.np_endpoint.specs.declared.halt.Halt.TheVariants.{Waiting, Finished, Refused}
use Rattle.np_plug_end.specs.declared.plug_core.Core.{Core}

-- the plug-in's control stands in the fields of the end
abbrev pub control_of : Core → PluginControl
control_of e = record { stage = e.stage; phases = e.phases.items }

-- the steps of a plan were done
pub record Moves (old new : Core) (steps : List (Micro PluginControl)) : Type 0 where
  pub control : control_of new ≡ control_after steps (control_of old)
  pub outgoing : new.outgoing.items ≡ old.outgoing.items ++ encodings (sent_by steps)
  pub journal : new.journal.items ≡ old.journal.items ++ printed_by steps
  pub plugin : new.plugin ≡ old.plugin

-- a message is served, or refused where there is a fault
abbrev pub Meets : Plugin → PluginControl → Message → Option Fault → Type 0
Meets plugin c m None = plugin_meet plugin c m ≡ Accepts (serve_plan plugin c m)
Meets plugin c m (Some fault) = plugin_meet plugin c m ≡ Refuses fault.rule fault.first fault.second

-- all but the control stayed
pub record SameBut (old new : Core) : Type 0 where
  pub plugin : new.plugin ≡ old.plugin
  pub feed : new.feed ≡ old.feed
  pub outgoing : new.outgoing ≡ old.outgoing
  pub journal : new.journal ≡ old.journal

-- the next message was taken off the feed and served
pub record Listens (old new : Core) : Type 0 where
  pub message : Message
  pub bytes : old.feed.left ≡ encoding message ++ new.feed.left
  pub keeps : KeepsFormat message
  pub typed : IsTyped message
  pub consumed : new.feed.consumed + length new.feed.left ≡ old.feed.consumed + length old.feed.left
  pub plan : plugin_meet old.plugin (control_of old) message ≡ Accepts (serve_plan old.plugin (control_of old) message)
  pub moves : Moves old new (serve_plan old.plugin (control_of old) message)

-- the plug-in waits as before
pub record Waits (old new : Core) : Type 0 where
  pub same : new ≡ old
  pub partial : front old.feed.consumed old.feed.left ≡ Partial

-- what stands at the front of the feed is refused, and nothing of it took effect
pub record IsRefused (old new : Core) (r : Refusal) : Type 0 where
  pub control : control_of new ≡ control_of old
  pub outgoing : new.outgoing.items ≡ old.outgoing.items
  pub journal : new.journal.items ≡ old.journal.items
  pub plugin : new.plugin ≡ old.plugin
  pub refused : RefusedBy (plugin_meet old.plugin (control_of old)) old.feed.consumed r (front old.feed.consumed old.feed.left)

-- the next message, of which the whole body is there, was to be read, which takes memory
pub record RanOutReading (old new : Core) : Type 0 where
  pub control : control_of new ≡ control_of old
  pub feed : new.feed ≡ old.feed
  pub whole : HasWholeBody old.feed.left
  pub needs : needs_memory (drop 4 old.feed.left) ≡ true

-- the next message was taken off, and was to be served; the control stayed
pub record RanOutServing (old new : Core) : Type 0 where
  pub message : Message
  pub bytes : old.feed.left ≡ encoding message ++ new.feed.left
  pub keeps : KeepsFormat message
  pub typed : IsTyped message
  pub plan : plugin_meet old.plugin (control_of old) message ≡ Accepts (serve_plan old.plugin (control_of old) message)
  pub control : control_of new ≡ control_of old

-- a plug-in that awaits a message ran out of memory
abbrev pub RanOutListening : Core → Core → Type 0
RanOutListening old new = RanOutReading old new ⊎ RanOutServing old new

-- an end that awaits a message went on with it, or halted
abbrev pub Listened : Core → Core → Option Halt → Type 0
Listened old new None = Listens old new
Listened old new (Some Waiting) = Waits old new
Listened old new (Some Finished) = ⊥
Listened old new (Some (Refused r)) = IsRefused old new r
