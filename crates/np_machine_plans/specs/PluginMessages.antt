-- What a plug-in does with a message that arrived: a call of the page, or a reply to its own. (npfunctions.h, NPPluginFuncs; docs/WIRE.md has the kinds.)
use Rattle.std.specs.Prelude.{List, [], if◌then◌else◌, length, nat_lt, negsuc, pos, ℕ, ◌-◌, ◌∷◌}
use Rattle.np_values.specs.declared.error.NpError.TheVariants.{IncompatibleVersion, NoError}
use Rattle.np_values.specs.declared.error.NpError.{NpError}
use Rattle.np_values.specs.declared.handler.Handler.TheVariants as handlers
use Rattle.np_values.specs.declared.name.Side.TheVariants as sides
use Rattle.np_values.specs.declared.value.Value.TheVariants as values
use Rattle.np_values.specs.declared.value.Value.{Value}
use Rattle.np_values.specs.NpReason.{reason_code}
use Rattle.np_values.specs.Text.{is_text}
use Rattle.np_script_grammar.specs.declared.plugin.Plugin.{Plugin}
use Rattle.np_message.specs.declared.depth.Depth.{Depth}
use Rattle.np_message.specs.declared.payload.Payload.TheVariants as payloads
use Rattle.np_message.specs.declared.payload.Payload.{Payload}
use Rattle.np_machine.specs.declared.draft.Draft.TheVariants.{PlainDraft}
use Rattle.np_machine.specs.declared.step.Step.TheVariants.{Begin, MarkDestroying}
use Rattle.np_machine.specs.Plan.{Plan}
use Rattle.np_machine_plans.specs.View.{SideView}
use Rattle.np_machine_plans.specs.declared.plugin.PluginControl.{PluginControl}
use Rattle.np_machine_plans.specs.declared.plugin.PluginStage.TheVariants as plugin_stages
use Rattle.np_machine_plans.specs.declared.plugin.PluginStage.{PluginStage}
use Rattle.np_machine_plans.specs.Handlers.{handler_call}
use Rattle.np_machine_plans.specs.PlanParts.{plan, sending}
use Rattle.np_machine_plans.specs.Results.{reply_result}
use Rattle.np_machine_plans.specs.Returns.{reply_to_frame}
use Rattle.np_machine_plans.specs.Serving.{serve_call}

-- NPP_Initialize's rule: a host of a greater major version is incompatible (npfunctions.h)
abbrev pub hello_code : Plugin → ℕ → NpError
hello_code plugin major = if nat_lt plugin.major major then IncompatibleVersion else NoError

-- texts as values
abbrev pub text_values : List (List ℕ) → List Value
text_values [] = []
text_values (t ∷ ts) = values.Text t ∷ text_values ts

-- a number of four bytes as an Int of 32 bits
abbrev pub int_value : ℕ → Value
int_value n = if nat_lt n 2147483648 then values.Int (pos n) else values.Int (negsuc (4294967295 - n))

-- the bytes of a write: a Text where they are one, else Void
abbrev pub bytes_value : List ℕ → Value
bytes_value bytes = if is_text bytes then values.Text bytes else values.Void

-- the calls run handlers; Hello, Turn and Shutdown are answered at once
abbrev pub plugin_message : Plugin → PluginControl → SideView → Depth → Payload → Plan PluginControl
plugin_message plugin c p depth (payloads.Hello version major minor) = sending c [] depth (PlainDraft (payloads.Code (hello_code plugin major)))
plugin_message plugin c p depth (payloads.New i mode mime attributes) =
    handler_call plugin c p (Begin i ∷ []) depth i handlers.New 0 (values.Text mime ∷ (values.Int (pos mode) ∷ text_values attributes))
plugin_message plugin c p depth (payloads.Destroy i) = handler_call plugin c p (MarkDestroying i ∷ []) depth i handlers.Destroy 0 []
plugin_message plugin c p depth (payloads.Scriptable i) = handler_call plugin c p [] depth i handlers.Scriptable 0 []
plugin_message plugin c p depth payloads.Turn = sending c [] depth (PlainDraft payloads.Done)
plugin_message plugin c p depth (payloads.NewStream i stream url mime size) =
    handler_call plugin c p [] depth i handlers.NewStream 0 (int_value stream ∷ (values.Text url ∷ (values.Text mime ∷ (int_value size ∷ []))))
plugin_message plugin c p depth (payloads.WriteReady i stream) = handler_call plugin c p [] depth i handlers.WriteReady 0 (int_value stream ∷ [])
plugin_message plugin c p depth (payloads.Write i stream offset bytes) =
    handler_call plugin c p [] depth i handlers.Write (length bytes)
    (int_value stream ∷ (int_value offset ∷ (int_value (length bytes) ∷ (bytes_value bytes ∷ []))))
plugin_message plugin c p depth (payloads.AsFile i stream path) =
    handler_call plugin c p [] depth i handlers.AsFile 0 (int_value stream ∷ (values.Text path ∷ []))
plugin_message plugin c p depth (payloads.DestroyStream i stream reason) =
    handler_call plugin c p [] depth i handlers.DestroyStream 0 (int_value stream ∷ (int_value (reason_code reason) ∷ []))
plugin_message plugin c p depth (payloads.Notify i url reason word) =
    handler_call plugin c p [] depth i handlers.UrlNotify 0 (values.Text url ∷ (int_value (reason_code reason) ∷ (values.Int word ∷ [])))
plugin_message plugin c p depth payloads.Shutdown = sending c [] depth (PlainDraft payloads.Done)
plugin_message plugin c p depth (payloads.Call i serial op arguments) =
    serve_call c plugin.classes p depth (record { side = sides.Plug; instance = i; serial = serial }) op (length arguments)
plugin_message plugin c p depth body = plan c (reply_to_frame p (reply_result body) p.frames)

-- after Shutdown a plug-in does nothing more
abbrev pub stage_after : Payload → PluginStage
stage_after payloads.Shutdown = plugin_stages.Ended
stage_after body = plugin_stages.Serving
