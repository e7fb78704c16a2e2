-- Whether a side delivers a message, defers it or refuses it. (This project's own.)
use Rattle.std.specs.Prelude.{Bool, None, Option, Some, false, true, ℕ}
use Rattle.np_message.specs.declared.payload.Payload.TheVariants as payloads
use Rattle.np_message.specs.declared.payload.Payload.{Payload}
use Rattle.np_message.specs.Message.{Message}
use Rattle.np_machine.specs.declared.refusal.Rule.{Rule}
use Rattle.np_machine.specs.Plan.{Meeting, Refuses}
use Rattle.np_machine.specs.Side.{SideState}
use Rattle.np_machine.specs.Turn.{first}
use Rattle.np_machine_plans.specs.RefusedNames.{Breach, breach_of_names}

-- by its kind and its place in the order of calls a message is delivered, deferred, or refused by a rule with two numbers
pub data Verdict : Type 0 where
  Delivers : Verdict
  Defers : Verdict
  Breaks : Rule → ℕ → ℕ → Verdict

-- accepted, unless a rule is broken
abbrev pub unless_broken : {C : Type 0} → Meeting C → Option Breach → Meeting C
unless_broken accepts None = accepts
unless_broken accepts (Some b) = Refuses b.rule b.first b.second

-- the rules on names are tried last, and on a deferred call only when it is served
abbrev pub meeting : {C : Type 0} → SideState C → Message → Verdict → Meeting C → Meeting C → Meeting C
meeting p m Delivers accepts defers = unless_broken accepts (breach_of_names p m)
meeting p m Defers accepts defers = defers
meeting p m (Breaks rule first second) accepts defers = Refuses rule first second

-- ---- the kinds that each side sends (docs/WIRE.md)

-- a kind that plug-ins send
abbrev pub is_from_plugin : Payload → Bool
is_from_plugin (payloads.Hello version major minor) = false
is_from_plugin (payloads.New i mode mime attributes) = false
is_from_plugin (payloads.Destroy i) = false
is_from_plugin (payloads.Scriptable i) = false
is_from_plugin payloads.Turn = false
is_from_plugin (payloads.NewStream i stream url mime size) = false
is_from_plugin (payloads.WriteReady i stream) = false
is_from_plugin (payloads.Write i stream offset bytes) = false
is_from_plugin (payloads.AsFile i stream path) = false
is_from_plugin (payloads.DestroyStream i stream reason) = false
is_from_plugin (payloads.Notify i url reason word) = false
is_from_plugin payloads.Shutdown = false
is_from_plugin body = true

-- a kind that pages send
abbrev pub is_from_page : Payload → Bool
is_from_page (payloads.Window i) = false
is_from_page (payloads.GetUrl i url word) = false
is_from_page (payloads.RequestRead i stream ranges) = false
is_from_page (payloads.EndStream i stream reason) = false
is_from_page (payloads.Number n) = false
is_from_page payloads.Done = false
is_from_page body = true
