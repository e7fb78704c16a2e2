-- The order of what a page does at its turn, deferred calls among it. (This project's own.)
use Rattle.std.specs.Prelude.{Bool, List, None, Option, Some, [], false, if◌then◌else◌, suc, true, zero, ℕ, ◌&&◌, ◌==◌, ◌||◌, ◌∷◌}
use Rattle.np_values.specs.declared.value.Value.TheVariants as values
use Rattle.np_script_grammar.specs.declared.action.Action.{Action}
use Rattle.np_script_grammar.specs.declared.action.Operand.TheVariants.{Const}
use Rattle.np_script_grammar.specs.declared.command.Command.{Command}
use Rattle.np_script_grammar.specs.declared.page.Page.{Page}
use Rattle.np_message.specs.declared.payload.Payload.TheVariants as payloads
use Rattle.np_message.specs.Message.{Message}
use Rattle.np_journal.specs.declared.printed.Printed.TheVariants as printed
use Rattle.np_journal.specs.declared.printed.Printed.{Printed}
use Rattle.np_machine.specs.declared.frame.Frame.{Frame}
use Rattle.np_machine.specs.Plan.{Acts, Awaits, HasEnded, Pace, Plan, Plans, Stops}
use Rattle.np_machine.specs.Side.{SideState}
use Rattle.np_machine_plans.specs.View.{SideView, is_dead, view}
use Rattle.np_machine_plans.specs.declared.page.Outstanding.TheVariants as calls
use Rattle.np_machine_plans.specs.declared.page.PageControl.{PageControl}
use Rattle.np_machine_plans.specs.declared.page.Stage.TheVariants as stages
use Rattle.np_machine_plans.specs.declared.page.Stage.{Stage}
use Rattle.np_machine_plans.specs.declared.stream.Stream.{Stream}
use Rattle.np_machine_plans.specs.declared.stream.StreamCall.{StreamCall}
use Rattle.np_machine_plans.specs.Actions.{body_plan, remaining_actions}
use Rattle.np_machine_plans.specs.Commands.{next_command}
use Rattle.np_machine_plans.specs.OpenCalls.{awaits_result, serves_call}
use Rattle.np_machine_plans.specs.PageBodies.{page_rules}
use Rattle.np_machine_plans.specs.PageControls.{command_calls, ends_command, printed_value}
use Rattle.np_machine_plans.specs.PageMeetings.{page_meeting}
use Rattle.np_machine_plans.specs.PageMessages.{page_message}
use Rattle.np_machine_plans.specs.PageStreams.{file_plan, pump_plan, streams_of}
use Rattle.np_machine_plans.specs.PeerLost.{lost_plan}
use Rattle.np_machine_plans.specs.PlanParts.{delivery, plan}
use Rattle.np_machine_plans.specs.RefusedNames.{Breach, breach_of_names}
use Rattle.np_machine_plans.specs.Returns.{return_operand, unwind}
use Rattle.np_machine_plans.specs.Streams.{next_stream_call}

-- ---- what is open

-- the newest frame waits for a result, or the command for a reply
abbrev pub waits_at : List Frame → Stage → Bool
waits_at (frame ∷ below) stage = awaits_result frame.progress.awaits
waits_at [] (stages.Awaiting outstanding) = true
waits_at [] stage = false

-- A call of the page is open: its newest frame or its command waits for the reply, or a call of the other side is served meanwhile.
abbrev pub has_open_call : List Frame → Stage → Bool
has_open_call frames stage = serves_call frames || waits_at frames stage

-- ---- what comes next

-- What a page does next that isn't counted.
pub data PageNext : Type 0 where
  Unwinds : Frame → List Frame → PageNext  -- a frame of a dead instance
  EndsBody : Frame → List Frame → PageNext  -- a body that has no action left
  Serves : Message → PageNext  -- a deferred call
  Continues : PageNext

-- a deferred call is served once no call is open, before the page continues
abbrev pub next_deferred : PageControl → SideView → List Message → PageNext
next_deferred c p [] = Continues
next_deferred c p (m ∷ ms) = if has_open_call p.frames c.stage then Continues else Serves m

-- a body without actions left ends; else a deferred call comes first
abbrev pub next_in_body : PageControl → SideView → Frame → List Frame → List Action → PageNext
next_in_body c p frame below [] = EndsBody frame below
next_in_body c p frame below (action ∷ rest) = next_deferred c p p.undelivered

-- first a dead frame is unwound, then a finished body ends, then a deferred call is served
abbrev pub page_next : Page → PageControl → SideView → List Frame → PageNext
page_next page c p [] = next_deferred c p p.undelivered
page_next page c p (frame ∷ below) =
    if is_dead p frame.instance then Unwinds frame below else next_in_body c p frame below (remaining_actions (page_rules page c) frame)

-- ---- the budget

-- A side does at most 1,000,000 actions: actions of bodies, commands, and turns of a pump.
abbrev pub max_actions : ℕ
max_actions = 1000000

-- a command is left
abbrev pub has_command : List Command → Bool
has_command [] = false
has_command (command ∷ rest) = true

-- the pump has a turn left, and a stream has a call
abbrev pub has_turn : ℕ → Option (Stream × StreamCall) → Bool
has_turn zero next = false
has_turn (suc left) None = false
has_turn (suc left) (Some next) = true

-- what the page would do next counts as an action
abbrev pub is_counted : PageControl → SideView → Stage → List Frame → Bool
is_counted c p stage (frame ∷ below) = true
is_counted c p stages.Ready [] = has_command c.commands
is_counted c p (stages.Pumping left answered) [] = has_turn left (next_stream_call (streams_of c p))
is_counted c p stage [] = false

-- the budget is tested only before what counts
abbrev pub is_exhausted : PageControl → SideView → Bool
is_exhausted c p = is_counted c p c.stage p.frames && c.actions_done == max_actions

-- ---- the plan

-- the object that a line names may have died since its result was there
abbrev pub result_now : SideView → Printed → Printed
result_now p (printed.Yes v dead) = printed_value p v
result_now p result = result

-- what is next where no frame is on the stack
abbrev pub stage_plan : Page → PageControl → SideView → Stage → Plan PageControl
stage_plan page c p stages.Start = command_calls c [] calls.Hello (payloads.Hello 1 page.major page.minor)
stage_plan page c p stages.Ready = next_command page c p c.commands
stage_plan page c p (stages.LineDue continuation result) = ends_command c [] (result_now p result)
stage_plan page c p (stages.Pumping left answered) = pump_plan page c p left answered
stage_plan page c p (stages.FileDue pumped) = file_plan page c pumped
stage_plan page c p (stages.Unanswered owed) = lost_plan c owed
stage_plan page c p stage = plan c []

-- the next action of the newest frame, or what the command does next
abbrev pub continue_plan : Page → PageControl → SideView → List Frame → Plan PageControl
continue_plan page c p [] = stage_plan page c p c.stage
continue_plan page c p (frame ∷ below) = body_plan (page_rules page c) p frame below (remaining_actions (page_rules page c) frame)

-- what is next, unless the budget is exhausted
abbrev pub budget_plan : Page → PageControl → SideView → Plan PageControl
budget_plan page c p = if is_exhausted c p then plan (record c { stage = stages.Exhausted }) [] else continue_plan page c p p.frames

-- the plan of what comes next
abbrev pub next_plan : Page → PageControl → SideView → PageNext → Plan PageControl
next_plan page c p (Unwinds frame below) = unwind (page_rules page c) p frame below
next_plan page c p (EndsBody frame below) = return_operand (page_rules page c) c p frame below (Const values.Void)
next_plan page c p (Serves m) = plan (record c { arrived = Some m }) delivery
next_plan page c p Continues = budget_plan page c p

-- what arrived is handled first
abbrev pub page_plan : Page → PageControl → SideView → Option Message → Plan PageControl
page_plan page c p (Some m) = page_message page c p m.depth m.body
page_plan page c p None = next_plan page c p (page_next page c p p.frames)

-- ---- the pace

-- the page acts, or refuses the deferred call
abbrev pub pace_unless_broken : PageControl → Option Breach → Pace
pace_unless_broken c None = Acts
pace_unless_broken c (Some b) = Stops (record { place = c.deferred_place; rule = b.rule; first = b.first; second = b.second })

-- a deferred call whose names or releases break a rule is refused when it is served
abbrev pub next_pace : SideState PageControl → PageNext → Pace
next_pace p (Serves m) = pace_unless_broken p.control (breach_of_names p m)
next_pace p next = Acts

-- A page awaits a message where its newest frame waits for a result, or its command for a reply. It has ended with its last command, or with its budget.
abbrev pub page_pace : Page → SideState PageControl → Stage → List Frame → Option Message → Pace
page_pace page p stages.Exhausted frames arrived = HasEnded
page_pace page p stages.Ended frames arrived = HasEnded
page_pace page p stage frames (Some m) = Acts
page_pace page p stage (frame ∷ below) None = if awaits_result frame.progress.awaits then Awaits else next_pace p (page_next page p.control (view p) (frame ∷ below))
page_pace page p (stages.Awaiting outstanding) [] None = Awaits
page_pace page p stage [] None = next_pace p (page_next page p.control (view p) [])

-- ---- a page

-- the plans of this page
abbrev pub page_plans : Page → Plans PageControl
page_plans page = record {
  pace = λ p. page_pace page p p.control.stage p.frames p.control.arrived;
  go = λ p. page_plan page p.control (view p) p.control.arrived;
  meet = λ p m. page_meeting p m;
}
