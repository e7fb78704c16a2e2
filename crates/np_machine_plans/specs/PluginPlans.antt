-- The bodies of a plug-in, and the order of what it does at its turn. (This project's own.)
use Rattle.std.specs.Prelude.{List, None, Option, Some, [], if◌then◌else◌, not, ◌+◌, ◌==◌, ◌∷◌}
use Rattle.np_script_grammar.specs.declared.action.Action.{Action}
use Rattle.np_script_grammar.specs.declared.plugin.Plugin.{Plugin}
use Rattle.np_message.specs.declared.payload.Payload.TheVariants as payloads
use Rattle.np_message.specs.Message.{Message}
use Rattle.np_machine.specs.declared.draft.Draft.TheVariants.{PlainDraft}
use Rattle.np_machine.specs.declared.frame.BodyId.TheVariants as bodies
use Rattle.np_machine.specs.declared.frame.BodyId.{BodyId}
use Rattle.np_machine.specs.declared.frame.Caller.TheVariants.{HandlerCall, RemoteCall}
use Rattle.np_machine.specs.declared.frame.Caller.{Caller}
use Rattle.np_machine.specs.declared.frame.Continuation.{Continuation}
use Rattle.np_machine.specs.declared.frame.Frame.{Frame}
use Rattle.np_machine.specs.declared.step.Step.TheVariants.{DropEach, Leave}
use Rattle.np_machine.specs.Plan.{Acts, Awaits, HasEnded, Pace, Plan, Plans}
use Rattle.np_machine_plans.specs.View.{SideView, is_dead, view}
use Rattle.np_machine_plans.specs.declared.plugin.PluginControl.{PluginControl}
use Rattle.np_machine_plans.specs.declared.plugin.PluginStage.TheVariants as plugin_stages
use Rattle.np_machine_plans.specs.declared.plugin.PluginStage.{PluginStage}
use Rattle.np_machine_plans.specs.declared.plugin.QueuedTask.{QueuedTask}
use Rattle.np_machine_plans.specs.Actions.{body_plan, remaining_actions}
use Rattle.np_machine_plans.specs.Classes.{class_body}
use Rattle.np_machine_plans.specs.Handlers.{handler_body, handler_ends, handler_reply}
use Rattle.np_machine_plans.specs.OpenCalls.{serves_call}
use Rattle.np_machine_plans.specs.PagePlans.{max_actions}
use Rattle.np_machine_plans.specs.PlanParts.{frame_value_count, plan, sending}
use Rattle.np_machine_plans.specs.PluginMeetings.{plugin_meeting}
use Rattle.np_machine_plans.specs.PluginMessages.{plugin_message, stage_after}
use Rattle.np_machine_plans.specs.PluginRequests.{plugin_own_action}
use Rattle.np_machine_plans.specs.Results.{CallResult, Failed, frame_reply, value_count}
use Rattle.np_machine_plans.specs.Returns.{BodyRules, unwind}
use Rattle.np_machine_plans.specs.Tasks.{next_task, task_body, tasks_of}

-- a plug-in before its first message
abbrev pub plugin_start : PluginControl
plugin_start = record { stage = plugin_stages.Serving; arrived = None; queue = []; actions_done = 0 }

-- ---- bodies

-- a body that the page called replies; a task's result is dropped after its places
abbrev pub plugin_body_ends : PluginControl → SideView → Frame → CallResult → Plan PluginControl
plugin_body_ends c p frame result = by frame.caller
  where
    by : Caller → Plan PluginControl
    by (RemoteCall depth) = frame_reply c depth result
    by (HandlerCall depth handler size) = handler_ends c p depth frame.instance size result handler
    by other = plan c (Leave 0 ∷ (DropEach (frame_value_count + value_count result) ∷ []))

-- an unwound frame that the page called replies false, and a handler's frame what its handler replies for a failure
abbrev pub plugin_body_unwound : PluginControl → SideView → Frame → Plan PluginControl
plugin_body_unwound c p frame = by frame.caller
  where
    by : Caller → Plan PluginControl
    by (RemoteCall depth) = sending c [] depth (PlainDraft payloads.False)
    by (HandlerCall depth handler size) = handler_reply c p [] depth frame.instance size Failed handler
    by other = plan c []

-- the actions of a body
abbrev pub plugin_actions : Plugin → BodyId → List Action
plugin_actions plugin (bodies.Member class member) = class_body class member plugin.classes
plugin_actions plugin (bodies.Handler n) = handler_body n plugin.handlers
plugin_actions plugin (bodies.Task n) = task_body n plugin.tasks

-- the control after one more action
abbrev pub one_more_action : PluginControl → PluginControl
one_more_action c = record c { actions_done = c.actions_done + 1 }

-- a call is a task's where no call of the page is served
abbrev pub plugin_rules : Plugin → PluginControl → List Frame → BodyRules PluginControl
plugin_rules plugin c frames = record {
  counted = one_more_action c;
  uncounted = c;
  task = not (serves_call frames);
  classes = plugin.classes;
  actions_of = plugin_actions plugin;
  ends = plugin_body_ends;
  unwound = plugin_body_unwound;
  own_action = plugin_own_action plugin (one_more_action c) (not (serves_call frames));
}

-- ---- the plan

-- a side does at most 1,000,000 actions; the end of a body isn't counted
abbrev pub plugin_budget_plan : Plugin → PluginControl → SideView → Frame → List Frame → List Action → Plan PluginControl
plugin_budget_plan plugin c p frame below [] = body_plan (plugin_rules plugin c (frame ∷ below)) p frame below []
plugin_budget_plan plugin c p frame below (action ∷ rest) =
    if c.actions_done == max_actions then plan (record c { stage = plugin_stages.Exhausted }) []
    else body_plan (plugin_rules plugin c (frame ∷ below)) p frame below (action ∷ rest)

-- a frame of a dead instance is unwound, or the newest frame does its next action, or the front task begins
abbrev pub plugin_continue_plan : Plugin → PluginControl → SideView → List Frame → Plan PluginControl
plugin_continue_plan plugin c p [] = next_task plugin c (tasks_of c p)
plugin_continue_plan plugin c p (frame ∷ below) =
    if is_dead p frame.instance then unwind (plugin_rules plugin c (frame ∷ below)) p frame below
    else plugin_budget_plan plugin c p frame below (remaining_actions (plugin_rules plugin c (frame ∷ below)) frame)

-- what arrived is handled first
abbrev pub plugin_plan : Plugin → PluginControl → SideView → Option Message → Plan PluginControl
plugin_plan plugin c p (Some m) = plugin_message plugin (record c { arrived = None; stage = stage_after m.body }) p m.depth m.body
plugin_plan plugin c p None = plugin_continue_plan plugin c p p.frames

-- ---- the pace

-- a plug-in without a frame acts where a task is queued
abbrev pub pace_of_tasks : List QueuedTask → Pace
pace_of_tasks [] = Awaits
pace_of_tasks (t ∷ ts) = Acts

-- a frame that waits for a result awaits a message
abbrev pub pace_of_frame : Option Continuation → Pace
pace_of_frame None = Acts
pace_of_frame (Some continuation) = Awaits

-- it awaits a message where its newest frame waits, or it has neither a frame nor a task
abbrev pub plugin_pace : PluginControl → SideView → PluginStage → List Frame → Option Message → Pace
plugin_pace c p plugin_stages.Exhausted frames arrived = HasEnded
plugin_pace c p plugin_stages.Ended frames arrived = HasEnded
plugin_pace c p (plugin_stages.Exited n) frames arrived = HasEnded
plugin_pace c p plugin_stages.Serving frames (Some m) = Acts
plugin_pace c p plugin_stages.Serving (frame ∷ below) None = pace_of_frame frame.progress.awaits
plugin_pace c p plugin_stages.Serving [] None = pace_of_tasks (tasks_of c p)

-- ---- a plug-in

-- the plans of this plug-in
abbrev pub plugin_plans : Plugin → Plans PluginControl
plugin_plans plugin = record {
  pace = λ p. plugin_pace p.control (view p) p.control.stage p.frames p.control.arrived;
  go = λ p. plugin_plan plugin p.control (view p) p.control.arrived;
  meet = λ p m. plugin_meeting p m;
}
