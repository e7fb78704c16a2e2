-- The handlers of a plug-in: which calls run them, with which arguments, and what they reply. (npfunctions.h, NPPluginFuncs.)
-- (That other values and missing handlers stand for these numbers is this project's own; docs/SCRIPTS.md lists them.)
use Rattle.std.specs.Prelude.{Bool, List, None, Option, Some, [], false, if◌then◌else◌, length, nat_le, nat_lt, negsuc, pos, position, suc, true, unwrap_or, zero, ℕ, ℤ, ◌++◌, ◌+◌, ◌∷◌}
use Rattle.np_values.specs.declared.error.NpError.TheVariants.{Generic, NoError}
use Rattle.np_values.specs.declared.error.NpError.{NpError}
use Rattle.np_values.specs.declared.handler.Handler.TheVariants as handlers
use Rattle.np_values.specs.declared.handler.Handler.{Handler}
use Rattle.np_values.specs.declared.value.Value.TheVariants as values
use Rattle.np_values.specs.declared.value.Value.{Value}
use Rattle.np_values.specs.NpError.{error_of}
use Rattle.np_script_grammar.specs.declared.action.Action.{Action}
use Rattle.np_script_grammar.specs.declared.plugin.HandlerDef.{HandlerDef}
use Rattle.np_script_grammar.specs.declared.plugin.Plugin.{Plugin}
use Rattle.np_message.specs.declared.depth.Depth.{Depth}
use Rattle.np_message.specs.declared.payload.Payload.TheVariants as payloads
use Rattle.np_message.specs.declared.payload.Payload.{Payload}
use Rattle.np_journal.specs.declared.line.Line.TheVariants.{HandlerRun}
use Rattle.np_machine.specs.declared.draft.Draft.TheVariants.{PlainDraft}
use Rattle.np_machine.specs.declared.frame.BodyId.TheVariants as bodies
use Rattle.np_machine.specs.declared.frame.Caller.TheVariants.{HandlerCall}
use Rattle.np_machine.specs.declared.frame.Entry.{Entry}
use Rattle.np_machine.specs.declared.step.Step.TheVariants.{Constant, DropEach, Enter, Leave, Print}
use Rattle.np_machine.specs.declared.step.Step.{Step}
use Rattle.np_machine.specs.Plan.{Plan}
use Rattle.np_machine_plans.specs.View.{SideView}
use Rattle.np_machine_plans.specs.declared.plugin.PluginControl.{PluginControl}
use Rattle.np_machine_plans.specs.PlanParts.{frame_value_count, plan, sending}
use Rattle.np_machine_plans.specs.Results.{CallResult, Returned, frame_reply, value_count}
use Rattle.np_machine_plans.specs.Teardown.{teardown_once}

-- ---- the numbers that results stand for

-- an Int from 0 to 13 is that code, another 1
abbrev pub code_of_int : ℤ → NpError
code_of_int (pos n) = unwrap_or (error_of n) Generic
code_of_int (negsuc n) = Generic

-- NPP_New: an Int from 0 to 13 is that code, another Int 1, another value 0, and a failure 1
abbrev pub new_code : CallResult → NpError
new_code (Returned (values.Int n)) = code_of_int n
new_code (Returned v) = NoError
new_code result = Generic

-- an Int from 1 to 4 is itself, another 0
abbrev pub mode_of_int : ℤ → ℤ
mode_of_int (pos zero) = pos 0
mode_of_int (pos (suc n)) = if nat_lt n 4 then pos (suc n) else pos 0
mode_of_int (negsuc n) = pos 0

-- NPP_NewStream: an Int from 1 to 4 is that mode, another Int 0, another value 1, and a failure 0
abbrev pub new_stream_number : CallResult → ℤ
new_stream_number (Returned (values.Int n)) = mode_of_int n
new_stream_number (Returned v) = pos 1
new_stream_number result = pos 0

-- the Int, or 0 where it is below
abbrev pub at_least_0 : ℤ → ℤ
at_least_0 (pos n) = pos n
at_least_0 (negsuc n) = pos 0

-- NPP_WriteReady: an Int is itself, but 0 where it is below; another value is NP_MAXREADY (npapi.h), and a failure 0
abbrev pub write_ready_number : CallResult → ℤ
write_ready_number (Returned (values.Int n)) = at_least_0 n
write_ready_number (Returned v) = pos 2147483647
write_ready_number result = pos 0

-- the least of the Int and the size, or -1 where it is below 0
abbrev pub at_most : ℕ → ℤ → ℤ
at_most size (pos n) = if nat_le n size then pos n else pos size
at_most size (negsuc n) = negsuc 0

-- NPP_Write of so many bytes: an Int is the least of it and the size, or -1 where it is below 0; another value is the size, and a failure -1
abbrev pub write_number : ℕ → CallResult → ℤ
write_number size (Returned (values.Int n)) = at_most size n
write_number size (Returned v) = pos size
write_number size result = negsuc 0

-- ---- replies

-- what a handler replies that gives no object
abbrev pub handler_payload : Handler → ℕ → CallResult → Payload
handler_payload handlers.New size result = payloads.Code (new_code result)
handler_payload handlers.Destroy size result = payloads.Code NoError
handler_payload handlers.Scriptable size result = payloads.False
handler_payload handlers.NewStream size result = payloads.Number (new_stream_number result)
handler_payload handlers.WriteReady size result = payloads.Number (write_ready_number result)
handler_payload handlers.Write size result = payloads.Number (write_number size result)
handler_payload handler size result = payloads.Done

-- NPP_Destroy, and a code other than 0 of NPP_New, tear the instance down before the reply is made
abbrev pub handler_teardown : SideView → ℕ → CallResult → Handler → List Step
handler_teardown p i result handlers.New = by (new_code result)
  where
    by : NpError → List Step
    by NoError = []
    by error = teardown_once p i
handler_teardown p i result handlers.Destroy = teardown_once p i
handler_teardown p i result handler = []

-- the reply of a handler, after the steps that drop its frame's places and its result's value
abbrev pub handler_reply : PluginControl → SideView → List Step → Depth → ℕ → ℕ → CallResult → Handler → Plan PluginControl
handler_reply c p steps depth i size result handler =
    sending c (steps ++ handler_teardown p i result handler) depth (PlainDraft (handler_payload handler size result))

-- the handler `scriptable` gives the page the object that it returns (npfunctions.h, NPP_GetValue, NPPVpluginScriptableNPObject)
abbrev pub handler_ends : PluginControl → SideView → Depth → ℕ → ℕ → CallResult → Handler → Plan PluginControl
handler_ends c p depth i size (Returned (values.Object name)) handlers.Scriptable = frame_reply c depth (Returned (values.Object name))
handler_ends c p depth i size result handler = handler_reply c p (Leave 0 ∷ (DropEach (frame_value_count + value_count result) ∷ [])) depth i size result handler

-- ---- calls

-- these values come in flight, the first of them next
abbrev pub constants : List Value → List Step
constants [] = []
constants (v ∷ vs) = constants vs ++ Constant v ∷ []

-- the same handler twice
abbrev pub is_same_handler : Handler → Handler → Bool
is_same_handler handlers.New handlers.New = true
is_same_handler handlers.Destroy handlers.Destroy = true
is_same_handler handlers.Scriptable handlers.Scriptable = true
is_same_handler handlers.NewStream handlers.NewStream = true
is_same_handler handlers.WriteReady handlers.WriteReady = true
is_same_handler handlers.Write handlers.Write = true
is_same_handler handlers.AsFile handlers.AsFile = true
is_same_handler handlers.DestroyStream handlers.DestroyStream = true
is_same_handler handlers.UrlNotify handlers.UrlNotify = true
is_same_handler a b = false

-- the place of a handler, where the plug-in has it
abbrev pub handler_place : Handler → List HandlerDef → Option ℕ
handler_place handler defs = position (λ def. is_same_handler handler def.which) defs

-- the body of the handler at this place
abbrev pub handler_body : ℕ → List HandlerDef → List Action
handler_body n [] = []
handler_body zero (def ∷ defs) = def.body
handler_body (suc n) (def ∷ defs) = handler_body n defs

-- a handler's frame has no object: `self` is Null
abbrev pub enter_handler : PluginControl → SideView → List Step → Depth → ℕ → Handler → ℕ → List Value → Option ℕ → Plan PluginControl
enter_handler c p steps depth i handler size arguments None = handler_reply c p steps depth i size (Returned values.Void) handler
enter_handler c p steps depth i handler size arguments (Some n) =
    plan c (steps ++ (Print (HandlerRun i handler) ∷ (Constant values.Null ∷ (constants arguments ++ Enter (length arguments) (entered n) ∷ []))))
  where
    entered : ℕ → Entry
    entered n = record { instance = i; depth = depth.level; caller = HandlerCall depth handler size; body = bodies.Handler n }

-- A handler runs after these steps, with these arguments; the number is the size of a write. Without it the plug-in replies at once, as if Void had been returned.
abbrev pub handler_call : Plugin → PluginControl → SideView → List Step → Depth → ℕ → Handler → ℕ → List Value → Plan PluginControl
handler_call plugin c p steps depth i handler size arguments = enter_handler c p steps depth i handler size arguments (handler_place handler plugin.handlers)
