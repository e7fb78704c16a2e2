-- What a page does with its streams: `open`, `pump`, and the replies to stream calls. (This project's own; the calls are those of npfunctions.h.)
use Rattle.std.specs.Prelude.{List, None, Option, Some, [], codes, decimal, drop, if◌then◌else◌, pos, suc, take, zero, ℕ, ℤ, ◌++◌, ◌+◌, ◌∷◌}
use Rattle.np_values.specs.declared.error.NpError.TheVariants.{InvalidInstance, NoError}
use Rattle.np_values.specs.declared.error.NpError.{NpError}
use Rattle.np_script_grammar.specs.declared.page.Page.{Page}
use Rattle.np_script_grammar.specs.declared.page.Resource.{Resource}
use Rattle.np_message.specs.declared.payload.Payload.TheVariants as payloads
use Rattle.np_message.specs.declared.payload.Payload.{Payload}
use Rattle.np_journal.specs.declared.line.Line.TheVariants.{StreamAnswered}
use Rattle.np_journal.specs.declared.printed.Printed.TheVariants as printed
use Rattle.np_journal.specs.declared.streamed.Streamed.TheVariants as streams
use Rattle.np_journal.specs.declared.streamed.Streamed.{Streamed}
use Rattle.np_machine.specs.declared.step.PutFile.{PutFile}
use Rattle.np_machine.specs.declared.step.Step.TheVariants.{File, Print}
use Rattle.np_machine.specs.Instances.{phase_in}
use Rattle.np_machine.specs.Plan.{Plan}
use Rattle.np_machine_plans.specs.View.{SideView, is_dead}
use Rattle.np_machine_plans.specs.declared.page.Outstanding.TheVariants as calls
use Rattle.np_machine_plans.specs.declared.page.PageControl.{PageControl}
use Rattle.np_machine_plans.specs.declared.page.Stage.TheVariants as stages
use Rattle.np_machine_plans.specs.declared.stream.PumpedCall.{PumpedCall}
use Rattle.np_machine_plans.specs.declared.stream.Stream.{Stream}
use Rattle.np_machine_plans.specs.declared.stream.StreamCall.TheVariants as stream_calls
use Rattle.np_machine_plans.specs.declared.stream.StreamCall.{StreamCall}
use Rattle.np_machine_plans.specs.Calls.{call}
use Rattle.np_machine_plans.specs.PageControls.{command_calls, ends_command}
use Rattle.np_machine_plans.specs.PlanParts.{plan}
use Rattle.np_machine_plans.specs.StreamRequests.{begin_code, begun_streams, resource_at, resource_place}
use Rattle.np_machine_plans.specs.Streams.{has_stream, live_streams, next_stream_call, streams_after}
use Rattle.np_machine_plans.specs.Teardown.{is_live}

-- the streams of instances that aren't dead on the page
abbrev pub streams_of : PageControl → SideView → List Stream
streams_of c p = live_streams (λ i. is_dead p i) c.streams

-- ---- to begin a stream

-- the control with the new stream, which has the next number; it is as before where none can begin
abbrev pub with_stream : PageControl → SideView → ℕ → Option ℤ → Option (ℕ × Resource) → PageControl
with_stream c p i notify r =
    record c { streams = begun_streams (c.stream_count + 1) i notify (streams_of c p) r; stream_count = c.stream_count + begun (begin_code (streams_of c p) r) }
  where
    begun : NpError → ℕ
    begun NoError = 1
    begun error = 0

-- `open` begins a stream that nobody is notified of
abbrev pub open_plan : Page → PageControl → SideView → ℕ → List ℕ → Plan PageControl
open_plan page c p i url =
    let r = resource_place url 0 page.resources in
    if is_live (phase_in i p.instances) then ends_command (with_stream c p i None r) [] (printed.Code (begin_code (streams_of c p) r))
    else ends_command c [] (printed.Code InvalidInstance)

-- ---- the calls

-- the path of the file that a stream's content is put into
abbrev pub stream_path : ℕ → List ℕ
stream_path number = codes "np-stream-" ++ decimal number

-- NPP_NewStream tells the resource's URL and MIME type, and its size
abbrev pub new_stream_payload : Stream → Option Resource → Payload
new_stream_payload s None = payloads.NewStream s.instance s.number [] [] s.length
new_stream_payload s (Some r) = payloads.NewStream s.instance s.number r.url r.mime s.length

-- what the resource carries
abbrev pub content_of : Option Resource → List ℕ
content_of None = []
content_of (Some r) = r.content

-- the resource's URL
abbrev pub url_of : Option Resource → List ℕ
url_of None = []
url_of (Some r) = r.url

-- what the message of a stream's call says
abbrev pub stream_payload : Page → Stream → StreamCall → Payload
stream_payload page s stream_calls.New = new_stream_payload s (resource_at s.resource page.resources)
stream_payload page s stream_calls.Ready = payloads.WriteReady s.instance s.number
stream_payload page s (stream_calls.Write offset size) =
    payloads.Write s.instance s.number offset (take size (drop offset (content_of (resource_at s.resource page.resources))))
stream_payload page s stream_calls.File = payloads.AsFile s.instance s.number (stream_path s.number)
stream_payload page s (stream_calls.Destroy reason) = payloads.DestroyStream s.instance s.number reason
stream_payload page s (stream_calls.Notify reason word) = payloads.Notify s.instance (url_of (resource_at s.resource page.resources)) reason word

-- ---- `pump`

-- a turn makes the next call, and counts as an action; before NPP_StreamAsFile the file is due
abbrev pub pump_call : Page → PageControl → PumpedCall → StreamCall → Plan PageControl
pump_call page c pumped stream_calls.File = plan (record c { stage = stages.FileDue pumped; actions_done = c.actions_done + 1 }) []
pump_call page c pumped call = command_calls (record c { actions_done = c.actions_done + 1 }) [] (calls.Streaming pumped) (stream_payload page pumped.stream call)

-- without a next call the command ends
abbrev pub pump_next : Page → PageControl → ℕ → ℕ → Option (Stream × StreamCall) → Plan PageControl
pump_next page c left answered None = ends_command c [] (printed.Pumped answered)
pump_next page c left answered (Some next) = pump_call page c (record { stream = next.0; call = next.1; left = left; answered = answered }) next.1

-- `pump` ends with its last turn
abbrev pub pump_plan : Page → PageControl → SideView → ℕ → ℕ → Plan PageControl
pump_plan page c p zero answered = ends_command c [] (printed.Pumped answered)
pump_plan page c p (suc left) answered = pump_next page c left answered (next_stream_call (streams_of c p))

-- the whole content is put into the file, and then NPP_StreamAsFile is called
abbrev pub file_plan : Page → PageControl → PumpedCall → Plan PageControl
file_plan page c pumped =
    let put : PutFile = record { stream = pumped.stream.number; resource = pumped.stream.resource } in
    command_calls c (File put ∷ []) (calls.Streaming pumped) (stream_payload page pumped.stream stream_calls.File)

-- ---- the replies

-- what the line of a reply says
abbrev pub streamed_line : StreamCall → ℤ → Streamed
streamed_line stream_calls.New n = streams.New n
streamed_line stream_calls.Ready n = streams.Ready n
streamed_line (stream_calls.Write offset size) n = streams.Write offset size n
streamed_line stream_calls.File n = streams.File
streamed_line (stream_calls.Destroy reason) n = streams.Destroy reason
streamed_line (stream_calls.Notify reason word) n = streams.Notify reason

-- the number that a reply carries; Done counts as 0
abbrev pub reply_number : Payload → ℤ
reply_number (payloads.Number n) = n
reply_number body = pos 0

-- The stream moves on, and its line is written. A reply to a stream that has gone with its instance changes nothing and has no line.
abbrev pub stream_reply : PageControl → SideView → PumpedCall → ℤ → Plan PageControl
stream_reply c p pumped n =
    if has_stream pumped.stream.number (streams_of c p) then
    plan (record pumping { streams = streams_after pumped.stream.number pumped.call n (streams_of c p) })
    (Print (StreamAnswered pumped.stream.number (streamed_line pumped.call n)) ∷ [])
    else plan pumping []
  where
    pumping : PageControl
    pumping = record c { stage = stages.Pumping pumped.left (pumped.answered + 1); arrived = None }
