-- What a plug-in does: it serves the page's calls, one after another. (npfunctions.h, NPPluginFuncs; the rest is this project's own.)
use Rattle.std.specs.Prelude.{ℕ, ℤ, pos, negsuc, ◌+◌, ◌-◌, ◌==◌, nat_lt, List, [], ◌∷◌, ◌++◌, length, Bool, true, false, not, if◌then◌else◌, Option, Some, None, unwrap_or, slice_set}
use Rattle.np_values.specs.declared.error.NpError.{NpError}
use Rattle.np_values.specs.declared.error.NpError.TheVariants.{NoError, Generic, IncompatibleVersion}
use Rattle.np_values.specs.NpError.{error_of}
use Rattle.np_model.specs.declared.script.Plugin.{Plugin}
use Rattle.np_message.specs.declared.payload.Payload.{Payload}
use Rattle.np_message.specs.declared.payload.Payload.TheVariants as payloads
use Rattle.np_message.specs.Message.{Message}
use Rattle.np_model.specs.declared.page.Phase.{Phase}
use Rattle.np_model.specs.declared.page.Phase.TheVariants.{Live, Dead}
use Rattle.np_model.specs.declared.plugin.PluginStage.{PluginStage}
use Rattle.np_model.specs.declared.plugin.PluginStage.TheVariants.{Begin, Serving, Ended}
use Rattle.np_model.specs.declared.refusal.Rule.TheVariants.{WrongKind, Place, Unmatched}
use Rattle.np_message.specs.Encoding.{kind_of, depth_byte}
use Rattle.np_model.specs.Side.{Micro, Control, Send, Deliver, Print}
use Rattle.np_model.specs.Run.{Pace, Awaits, HasEnded, Meeting, Accepts, Refuses, Plans}
use Rattle.np_model.specs.Journal.{new_line}
use Rattle.np_model.specs.Releases.{phase_of, settled}
use Rattle.np_model.specs.PagePlan.{is_live}
use Rattle.np_message.specs.Kinds.{instance_of, is_reply}

-- where a plug-in stands
pub record PluginControl : Type 0 where
  pub stage : PluginStage
  pub phases : List Phase  -- of the instances that NPP_New was called for, from instance 1 on

-- a plug-in before anything was done
abbrev pub plugin_start : PluginControl
plugin_start = record { stage = Begin; phases = [] }

-- ---- what a page may send

-- after Hello: NPP_New of the next instance, NPP_Destroy of a live one, a call without an instance, or a code
abbrev pub may_follow : PluginControl → Payload → Bool
may_follow c (payloads.New instance mode mime attributes) = instance == length c.phases + 1
may_follow c (payloads.Destroy instance) = is_live (phase_of c.phases instance)
may_follow c payloads.Turn = true
may_follow c payloads.Shutdown = true
may_follow c (payloads.Code error) = true
may_follow c body = false

-- the first call of a page
abbrev pub is_hello : Payload → Bool
is_hello (payloads.Hello version major minor) = true
is_hello body = false

-- Hello comes first and once, and nothing comes after Shutdown
abbrev pub may_come : PluginControl → PluginStage → Payload → Bool
may_come c Begin body = is_hello body
may_come c Serving body = may_follow c body
may_come c Ended body = false

-- ---- what a call is answered

-- the code that a number of the handler `new` says
abbrev pub code_of_int : ℤ → NpError
code_of_int (pos n) = unwrap_or (error_of n) Generic
code_of_int (negsuc n) = Generic

-- NPP_New's answer; without a handler it is NPERR_NO_ERROR
abbrev pub new_answer : Option ℤ → NpError
new_answer None = NoError
new_answer (Some n) = code_of_int n

-- the phase of an instance after that answer: another than NPERR_NO_ERROR kills it
abbrev pub phase_after : NpError → Phase
phase_after NoError = Live
phase_after error = Dead

-- the handler's line, where it is there
abbrev pub handler_lines : Option ℤ → ℕ → List ℕ
handler_lines None instance = []
handler_lines (Some n) instance = new_line instance

-- Hello is answered 8 exactly where the host's major number is greater than the plug-in's own.
abbrev pub reply_to : Plugin → Payload → Payload
reply_to plugin (payloads.Hello version major minor) = payloads.Code (if nat_lt plugin.major major then IncompatibleVersion else NoError)
reply_to plugin (payloads.New instance mode mime attributes) = payloads.Code (new_answer plugin.new_handler)
reply_to plugin (payloads.Destroy instance) = payloads.Code NoError
reply_to plugin call = payloads.Done

-- where the plug-in stands after a call
abbrev pub control_after_call : Plugin → PluginControl → Payload → PluginControl
control_after_call plugin c (payloads.Hello version major minor) = record c { stage = Serving }
control_after_call plugin c (payloads.New instance mode mime attributes) = record c { phases = c.phases ++ phase_after (new_answer plugin.new_handler) ∷ [] }
control_after_call plugin c (payloads.Destroy instance) = record c { phases = slice_set c.phases (instance - 1) Dead }
control_after_call plugin c payloads.Shutdown = record c { stage = Ended }
control_after_call plugin c call = c

-- the lines of a call
abbrev pub lines_of_call : Plugin → Payload → List ℕ
lines_of_call plugin (payloads.New instance mode mime attributes) = handler_lines plugin.new_handler instance
lines_of_call plugin call = []

-- a reply has its call's depth, and gives nothing back
abbrev pub reply_message : Plugin → Message → Message
reply_message plugin m = record { depth = m.depth; releases = []; body = reply_to plugin m.body }

-- a call that is served: it is delivered, the plug-in continues, prints its lines and replies
abbrev pub serve_plan : Plugin → PluginControl → Message → List (Micro PluginControl)
serve_plan plugin c m =
    Deliver ∷ (Control (control_after_call plugin c m.body) ∷ (Print (lines_of_call plugin m.body) ∷ (Send (reply_message plugin m) ∷ [])))

-- ---- what the plug-in does with a message

-- A message that may not come is refused first; then a reply, since the plug-in makes no call; then a task's call, since a page has no task.
abbrev pub hear_plan : Plugin → PluginControl → Message → Meeting PluginControl
hear_plan plugin c m =
    if not (may_come c c.stage m.body) then Refuses WrongKind (kind_of m.body) (instance_of m.body)
    else if is_reply m.body then Refuses Unmatched (depth_byte m.depth) 0
    else if m.depth.task then Refuses Place (depth_byte m.depth) 0
    else Accepts (serve_plan plugin c m)

-- after that the message's releases are looked at
abbrev pub plugin_meet : Plugin → PluginControl → Message → Meeting PluginControl
plugin_meet plugin c m = settled c.phases m (hear_plan plugin c m)

-- a plug-in does nothing by itself
abbrev pub plugin_pace : PluginStage → Pace
plugin_pace Begin = Awaits
plugin_pace Serving = Awaits
plugin_pace Ended = HasEnded

-- all that this plug-in has its side do
abbrev pub plugin_plans : Plugin → Plans PluginControl
plugin_plans plugin = record {
  pace = λ p. plugin_pace p.control.stage;
  go = λ p. [];
  meet = λ p m. plugin_meet plugin p.control m;
}
