-- What a plug-in's bodies ask of the page, and the other actions that plug-ins alone have.
-- (npfunctions.h, NPN_GetValue to NPN_PluginThreadAsyncCall; the order of the tests is this project's own.)
use Rattle.std.specs.Prelude.{Bool, List, None, Option, Some, [], false, if◌then◌else◌, nat_le, negsuc, pos, suc, zero, ℕ, ℤ, ◌+◌, ◌∷◌}
use Rattle.np_values.specs.declared.error.NpError.TheVariants.{Generic, InvalidParam}
use Rattle.np_values.specs.declared.range.Range.{Range}
use Rattle.np_values.specs.declared.reason.NpReason.{NpReason}
use Rattle.np_values.specs.declared.value.Value.TheVariants as values
use Rattle.np_values.specs.declared.value.Value.{Value}
use Rattle.np_script_grammar.specs.declared.action.Action.TheVariants as actions
use Rattle.np_script_grammar.specs.declared.action.Action.{Action}
use Rattle.np_script_grammar.specs.declared.plugin.Plugin.{Plugin}
use Rattle.np_message.specs.declared.payload.Payload.TheVariants as payloads
use Rattle.np_message.specs.declared.payload.Payload.{Payload}
use Rattle.np_machine.specs.declared.draft.Draft.TheVariants.{PlainDraft}
use Rattle.np_machine.specs.declared.frame.Continuation.TheVariants.{AssignCode, AssignObject}
use Rattle.np_machine.specs.declared.frame.Continuation.{Continuation}
use Rattle.np_machine.specs.declared.frame.Frame.{Frame}
use Rattle.np_machine.specs.declared.place.Place.TheVariants.{Register}
use Rattle.np_machine.specs.declared.step.Step.TheVariants.{Await, Constant, SetFlag}
use Rattle.np_machine.specs.Plan.{Plan}
use Rattle.np_machine_plans.specs.View.{SideView}
use Rattle.np_machine_plans.specs.declared.plugin.PluginControl.{PluginControl}
use Rattle.np_machine_plans.specs.declared.plugin.PluginStage.TheVariants as plugin_stages
use Rattle.np_machine_plans.specs.Calls.{max_depth}
use Rattle.np_machine_plans.specs.PlanParts.{assign, code_steps, operand_value, plan, sending}
use Rattle.np_machine_plans.specs.Tasks.{later_plan, task_place}

-- a request to the page, one level deeper, with the task's mark where a task makes it
abbrev pub request : PluginControl → Bool → Frame → Continuation → Payload → Plan PluginControl
request c task frame continuation body = sending c (Await continuation ∷ []) (record { level = frame.depth + 1; task = task }) (PlainDraft body)

-- `window`: false at the greatest depth
abbrev pub window_request : PluginControl → Bool → Frame → ℕ → Plan PluginControl
window_request c task frame r =
    if nat_le max_depth frame.depth then plan c (SetFlag false ∷ (Constant values.Void ∷ assign (Register r)))
    else request c task frame (AssignObject r) (payloads.Window frame.instance)

-- a request that is answered by a code: 9 where its operand is bad, then 1 at the greatest depth
abbrev pub code_request : PluginControl → Bool → Frame → ℕ → Option Payload → Plan PluginControl
code_request c task frame r None = plan c (code_steps r InvalidParam)
code_request c task frame r (Some body) =
    if nat_le max_depth frame.depth then plan c (code_steps r Generic) else request c task frame (AssignCode r) body

-- the URL is a Text
abbrev pub url_request : Frame → ℤ → Value → Option Payload
url_request frame word (values.Text url) = Some (payloads.GetUrl frame.instance url word)
url_request frame word v = None

-- a number from 1 on
abbrev pub at_least_1 : ℤ → Option ℕ
at_least_1 (pos zero) = None
at_least_1 (pos (suc n)) = Some (suc n)
at_least_1 (negsuc n) = None

-- the number of a stream is an Int of at least 1
abbrev pub stream_number : Value → Option ℕ
stream_number (values.Int n) = at_least_1 n
stream_number v = None

-- NPN_RequestRead of the body's instance
abbrev pub read_request : Frame → List Range → Option ℕ → Option Payload
read_request frame ranges None = None
read_request frame ranges (Some n) = Some (payloads.RequestRead frame.instance n ranges)

-- NPN_DestroyStream of the body's instance
abbrev pub end_request : Frame → NpReason → Option ℕ → Option Payload
end_request frame reason None = None
end_request frame reason (Some n) = Some (payloads.EndStream frame.instance n reason)

-- the actions of plug-ins alone; `exit` ends the program at once
abbrev pub plugin_own_action : Plugin → PluginControl → Bool → SideView → Frame → Action → Plan PluginControl
plugin_own_action plugin c task p frame (actions.Window r) = window_request c task frame r
plugin_own_action plugin c task p frame (actions.GetUrl r v word) = code_request c task frame r (url_request frame word (operand_value frame.registers v))
plugin_own_action plugin c task p frame (actions.RequestRead r v ranges) =
    code_request c task frame r (read_request frame ranges (stream_number (operand_value frame.registers v)))
plugin_own_action plugin c task p frame (actions.EndStream r v reason) =
    code_request c task frame r (end_request frame reason (stream_number (operand_value frame.registers v)))
plugin_own_action plugin c task p frame (actions.Later name) = later_plan c frame name (task_place name plugin.tasks)
plugin_own_action plugin c task p frame (actions.Exit n) = plan (record c { stage = plugin_stages.Exited n }) []
plugin_own_action plugin c task p frame action = plan c []
