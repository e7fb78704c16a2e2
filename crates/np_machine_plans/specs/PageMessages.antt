-- What a page does with a message that arrived: a reply to its open call, or a call of the plug-in. (This project's own; docs/WIRE.md has the kinds.)
use Rattle.std.specs.Prelude.{List, None, Some, [], false, if◌then◌else◌, length, ℕ, ℤ, ◌∷◌}
use Rattle.np_values.specs.declared.error.NpError.TheVariants.{IncompatibleVersion, InvalidInstance, NoError}
use Rattle.np_values.specs.declared.error.NpError.{NpError}
use Rattle.np_values.specs.declared.name.Side.TheVariants as sides
use Rattle.np_values.specs.declared.range.Range.{Range}
use Rattle.np_values.specs.declared.reason.NpReason.{NpReason}
use Rattle.np_values.specs.declared.value.Value.TheVariants as values
use Rattle.np_script_grammar.specs.declared.page.Page.{Page}
use Rattle.np_message.specs.declared.depth.Depth.{Depth}
use Rattle.np_message.specs.declared.payload.Payload.TheVariants as payloads
use Rattle.np_message.specs.declared.payload.Payload.{Payload}
use Rattle.np_journal.specs.declared.printed.Printed.TheVariants as printed
use Rattle.np_machine.specs.declared.draft.Draft.TheVariants.{PlainDraft}
use Rattle.np_machine.specs.declared.frame.Continuation.TheVariants.{Assign}
use Rattle.np_machine.specs.declared.frame.Frame.{Frame}
use Rattle.np_machine.specs.Instances.{phase_in}
use Rattle.np_machine.specs.Plan.{Plan}
use Rattle.np_machine_plans.specs.View.{SideView}
use Rattle.np_machine_plans.specs.declared.page.Outstanding.TheVariants as calls
use Rattle.np_machine_plans.specs.declared.page.Outstanding.{Outstanding}
use Rattle.np_machine_plans.specs.declared.page.PageControl.{PageControl}
use Rattle.np_machine_plans.specs.declared.page.PeerState.TheVariants as peers
use Rattle.np_machine_plans.specs.declared.page.Stage.TheVariants as stages
use Rattle.np_machine_plans.specs.declared.page.Stage.{Stage}
use Rattle.np_machine_plans.specs.Commands.{created_plan}
use Rattle.np_machine_plans.specs.PageControls.{command_result, ends_command, handled, ready}
use Rattle.np_machine_plans.specs.PageStreams.{reply_number, stream_reply, streams_of, with_stream}
use Rattle.np_machine_plans.specs.PlanParts.{plan, sending}
use Rattle.np_machine_plans.specs.Results.{reply_result}
use Rattle.np_machine_plans.specs.Returns.{reply_to_frame}
use Rattle.np_machine_plans.specs.Serving.{serve_call}
use Rattle.np_machine_plans.specs.StreamRequests.{begin_code, close_code, closed_streams, open_stream, request_code, requested_streams, resource_place}
use Rattle.np_machine_plans.specs.Teardown.{is_live, teardown_once}
use Rattle.np_machine_plans.specs.Window.{window_reply}

-- ---- replies

-- a reply to the command's call
abbrev pub command_reply : PageControl → SideView → Outstanding → Payload → Plan PageControl
command_reply c p calls.Hello (payloads.Code IncompatibleVersion) = plan (record (ready c) { peer = peers.Incompatible }) []
command_reply c p calls.Hello body = plan (ready c) []
command_reply c p (calls.New i) (payloads.Code error) = created_plan c p i error
command_reply c p (calls.Destroy i) body = plan (ready c) (teardown_once p i)
command_reply c p (calls.DestroyCommand i) body = ends_command c (teardown_once p i) (printed.Code NoError)
command_reply c p (calls.Scriptable r) body = command_result c p (Assign r) (reply_result body)
command_reply c p calls.Turn body = ends_command c [] (printed.Yes values.Void false)
command_reply c p calls.Shutdown body = plan (record c { stage = stages.Ended; arrived = None }) []
command_reply c p (calls.Object continuation) body = command_result c p continuation (reply_result body)
command_reply c p (calls.Streaming pumped) body = stream_reply c p pumped (reply_number body)
command_reply c p outstanding body = plan (ready c) []

-- it goes to the newest frame, or to the command where no frame is on the stack
abbrev pub page_reply : PageControl → SideView → Payload → List Frame → Stage → Plan PageControl
page_reply c p body (frame ∷ below) stage = plan (handled c) (reply_to_frame p (reply_result body) (frame ∷ below))
page_reply c p body [] (stages.Awaiting outstanding) = command_reply c p outstanding body
page_reply c p body [] stage = plan (handled c) []

-- ---- requests of an instance

-- a reply with a code
abbrev pub code_reply : PageControl → Depth → NpError → Plan PageControl
code_reply c depth error = sending c [] depth (PlainDraft (payloads.Code error))

-- Code 2 where the instance isn't live, one that is being destroyed among them. The control changes where the code is 0.
abbrev pub request_reply : PageControl → PageControl → SideView → Depth → ℕ → NpError → Plan PageControl
request_reply old new p depth i error = if is_live (phase_in i p.instances) then code_reply (taken error) depth error else code_reply old depth InvalidInstance
  where
    taken : NpError → PageControl
    taken NoError = new
    taken error = old

-- NPN_GetURLNotify begins a stream with a notification
abbrev pub url_reply : Page → PageControl → SideView → Depth → ℕ → List ℕ → ℤ → Plan PageControl
url_reply page c p depth i url word =
    let r = resource_place url 0 page.resources in
    request_reply c (with_stream c p i (Some word) r) p depth i (begin_code (streams_of c p) r)

-- NPN_RequestRead
abbrev pub read_reply : PageControl → SideView → Depth → ℕ → ℕ → List Range → Plan PageControl
read_reply c p depth i number ranges =
    request_reply c (record c { streams = requested_streams number ranges (streams_of c p) }) p depth i (request_code ranges (open_stream i number (streams_of c p)))

-- NPN_DestroyStream
abbrev pub end_reply : PageControl → SideView → Depth → ℕ → ℕ → NpReason → Plan PageControl
end_reply c p depth i number reason =
    request_reply c (record c { streams = closed_streams number reason (streams_of c p) }) p depth i (close_code (open_stream i number (streams_of c p)))

-- ---- all messages

-- a call of an object, a request, or a reply
abbrev pub page_message : Page → PageControl → SideView → Depth → Payload → Plan PageControl
page_message page c p depth (payloads.Call i serial op arguments) =
    serve_call (handled c) page.classes p depth (record { side = sides.Page; instance = i; serial = serial }) op (length arguments)
page_message page c p depth (payloads.Window i) = window_reply page (handled c) p depth i
page_message page c p depth (payloads.GetUrl i url word) = url_reply page (handled c) p depth i url word
page_message page c p depth (payloads.RequestRead i number ranges) = read_reply (handled c) p depth i number ranges
page_message page c p depth (payloads.EndStream i number reason) = end_reply (handled c) p depth i number reason
page_message page c p depth body = page_reply c p body p.frames c.stage
