-- Which messages a page accepts, defers or refuses: `wrong-kind`, `unmatched`, `held` and `place`. (This project's own.)
use Rattle.std.specs.Prelude.{Bool, List, Some, [], false, if◌then◌else◌, length, nat_lt, not, true, ◌&&◌, ◌++◌, ◌==◌, ◌||◌, ◌∷◌}
use Rattle.np_values.specs.declared.error.NpError.TheVariants.{IncompatibleVersion, NoError}
use Rattle.np_message.specs.declared.depth.Depth.{Depth}
use Rattle.np_message.specs.declared.payload.Payload.TheVariants as payloads
use Rattle.np_message.specs.declared.payload.Payload.{Payload}
use Rattle.np_message.specs.Encoding.{depth_byte, kind_of}
use Rattle.np_message.specs.Kinds.{instance_of, is_reply}
use Rattle.np_message.specs.Message.{Message}
use Rattle.np_machine.specs.declared.frame.Continuation.TheVariants.{AssignObject}
use Rattle.np_machine.specs.declared.frame.Frame.{Frame}
use Rattle.np_machine.specs.declared.refusal.Rule.TheVariants as rules
use Rattle.np_machine.specs.Instances.{phase_in}
use Rattle.np_machine.specs.Plan.{Accepts, Meeting}
use Rattle.np_machine.specs.Side.{SideState}
use Rattle.np_machine_plans.specs.View.{SideView, view}
use Rattle.np_machine_plans.specs.declared.page.Outstanding.TheVariants as calls
use Rattle.np_machine_plans.specs.declared.page.Outstanding.{Outstanding}
use Rattle.np_machine_plans.specs.declared.page.PageControl.{PageControl}
use Rattle.np_machine_plans.specs.declared.page.Stage.TheVariants as stages
use Rattle.np_machine_plans.specs.declared.page.Stage.{Stage}
use Rattle.np_machine_plans.specs.FittingReplies.{fits_awaited, fits_continuation, fits_stream_call}
use Rattle.np_machine_plans.specs.OpenCalls.{is_depth_of_newest, last_level, open_depths, serves_task}
use Rattle.np_machine_plans.specs.PageControls.{command_depth}
use Rattle.np_machine_plans.specs.PlanParts.{delivery, plan}
use Rattle.np_machine_plans.specs.RefusedNames.{is_absent}
use Rattle.np_machine_plans.specs.Verdicts.{Breaks, Defers, Delivers, Verdict, is_from_plugin, meeting}

-- ---- replies

-- a reply to the command's call
abbrev pub fits_outstanding : Outstanding → Payload → Bool
fits_outstanding calls.Hello (payloads.Code NoError) = true
fits_outstanding calls.Hello (payloads.Code IncompatibleVersion) = true
fits_outstanding (calls.New i) (payloads.Code error) = true
fits_outstanding (calls.Destroy i) (payloads.Code NoError) = true
fits_outstanding (calls.DestroyCommand i) (payloads.Code NoError) = true
fits_outstanding (calls.Scriptable r) body = fits_continuation (AssignObject r) body
fits_outstanding calls.Turn payloads.Done = true
fits_outstanding calls.Shutdown payloads.Done = true
fits_outstanding (calls.Object continuation) body = fits_continuation continuation body
fits_outstanding (calls.Streaming pumped) body = fits_stream_call pumped.call body
fits_outstanding outstanding body = false

-- a reply to what the command awaits
abbrev pub fits_stage : Stage → Payload → Bool
fits_stage (stages.Awaiting outstanding) body = fits_outstanding outstanding body
fits_stage stage body = false

-- a reply to what the newest frame awaits, or the command where no frame is on the stack
abbrev pub fits_page : Stage → List Frame → Payload → Bool
fits_page stage [] body = fits_stage stage body
fits_page stage (frame ∷ below) body = fits_awaited frame.progress.awaits body

-- ---- open calls

-- the call of the command itself, where it is open
abbrev pub stage_depths : Stage → List Depth
stage_depths (stages.Awaiting outstanding) = command_depth ∷ []
stage_depths stage = []

-- the page's open calls, the newest first; none of them is a task's
abbrev pub page_depths : PageControl → SideView → List Depth
page_depths c p = open_depths (λ below. false) false p.frames ++ stage_depths c.stage

-- a deferred call waits, or its body is on the stack
abbrev pub has_deferred : List Message → List Frame → Bool
has_deferred (m ∷ ms) frames = true
has_deferred [] frames = serves_task frames

-- ---- the verdict

-- it is of a kind that plug-ins send, and its instance was begun
abbrev pub is_kind_for_page : SideView → Payload → Bool
is_kind_for_page p body = is_from_plugin body && (instance_of body == 0 || not (is_absent (phase_in (instance_of body) p.instances)))

-- a reply has the depth of the newest open call, and answers it
abbrev pub reply_verdict : PageControl → SideView → Message → Verdict
reply_verdict c p m =
    if is_depth_of_newest m.depth (page_depths c p) && fits_page c.stage p.frames m.body then Delivers
    else Breaks rules.Unmatched (depth_byte m.depth) (last_level (page_depths c p))

-- A call is deeper than the newest open call. A task's call is deferred where one call is open, and refused where one was deferred already.
abbrev pub call_verdict : PageControl → SideView → Message → Verdict
call_verdict c p m =
    if m.depth.task && length (page_depths c p) == 1 then
    (if has_deferred p.undelivered p.frames then Breaks rules.Held (depth_byte m.depth) c.deferred_place else Defers)
    else if not m.depth.task && (nat_lt 0 (length (page_depths c p)) && nat_lt (last_level (page_depths c p)) m.depth.level) then Delivers
    else Breaks rules.Place (depth_byte m.depth) (last_level (page_depths c p))

-- the kind is tried first, then the place in the order of calls
abbrev pub page_verdict : PageControl → SideView → Message → Verdict
page_verdict c p m =
    if not (is_kind_for_page p m.body) then Breaks rules.WrongKind (kind_of m.body) (instance_of m.body)
    else if is_reply m.body then reply_verdict c p m
    else call_verdict c p m

-- ---- the meeting

-- the message is delivered, and handled at the next turn
abbrev pub page_accepts : PageControl → Message → Meeting PageControl
page_accepts c m = Accepts (plan (record c { arrived = Some m }) delivery)

-- the message stays undelivered, and its place is kept
abbrev pub page_defers : PageControl → SideView → Meeting PageControl
page_defers c p = Accepts (plan (record c { deferred_place = p.examined }) [])

-- what a page does with a message that it examines
abbrev pub page_meeting : SideState PageControl → Message → Meeting PageControl
page_meeting p m = meeting p m (page_verdict p.control (view p) m) (page_accepts p.control m) (page_defers p.control (view p))
