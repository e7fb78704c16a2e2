-- The bodies of a page: how one that no frame called ends, and the action that pages alone have. (This project's own.)
use Rattle.std.specs.Prelude.{List, None, [], false, if◌then◌else◌, nat_le, not, ◌++◌, ◌+◌, ◌∷◌}
use Rattle.np_values.specs.declared.error.NpError.TheVariants.{Generic, InvalidInstance}
use Rattle.np_values.specs.declared.value.Value.TheVariants as values
use Rattle.np_script_grammar.specs.declared.action.Action.TheVariants as actions
use Rattle.np_script_grammar.specs.declared.action.Action.{Action}
use Rattle.np_script_grammar.specs.declared.page.Page.{Page}
use Rattle.np_message.specs.declared.payload.Payload.TheVariants as payloads
use Rattle.np_machine.specs.declared.draft.Draft.TheVariants.{PlainDraft}
use Rattle.np_machine.specs.declared.frame.BodyId.TheVariants as bodies
use Rattle.np_machine.specs.declared.frame.BodyId.{BodyId}
use Rattle.np_machine.specs.declared.frame.Caller.TheVariants.{RemoteCall}
use Rattle.np_machine.specs.declared.frame.Caller.{Caller}
use Rattle.np_machine.specs.declared.frame.Continuation.TheVariants.{AssignDestroyed, Discard}
use Rattle.np_machine.specs.declared.frame.Continuation.{Continuation}
use Rattle.np_machine.specs.declared.frame.Frame.{Frame}
use Rattle.np_machine.specs.declared.place.Place.TheVariants.{PageRegister}
use Rattle.np_machine.specs.declared.step.Step.TheVariants.{Await, Constant, DropEach, Leave, MarkDestroying}
use Rattle.np_machine.specs.Instances.{phase_in}
use Rattle.np_machine.specs.Plan.{Plan}
use Rattle.np_machine_plans.specs.View.{SideView}
use Rattle.np_machine_plans.specs.declared.page.PageControl.{PageControl}
use Rattle.np_machine_plans.specs.declared.page.Stage.TheVariants as stages
use Rattle.np_machine_plans.specs.declared.page.Stage.{Stage}
use Rattle.np_machine_plans.specs.Calls.{max_depth}
use Rattle.np_machine_plans.specs.Classes.{class_body}
use Rattle.np_machine_plans.specs.PageControls.{printed_result}
use Rattle.np_machine_plans.specs.PlanParts.{code_steps, frame_value_count, plan, sending}
use Rattle.np_machine_plans.specs.Results.{CallResult, Failed, continue_steps, frame_reply, result_steps}
use Rattle.np_machine_plans.specs.Returns.{BodyRules}
use Rattle.np_machine_plans.specs.Teardown.{is_live}

-- what the command that called the body does with its result
abbrev pub continuation_of : Stage → Continuation
continuation_of (stages.Running continuation) = continuation
continuation_of stage = Discard

-- the command's result is there; its line is written once no deferred call is to be served
abbrev pub line_due : PageControl → SideView → CallResult → PageControl
line_due c p result = record c { stage = stages.LineDue (continuation_of c.stage) (printed_result p (continuation_of c.stage) result); arrived = None }

-- a body that the other side called replies; one that the command called assigns to the page's register, and its frame is dropped
abbrev pub page_body_ends : PageControl → SideView → Frame → CallResult → Plan PageControl
page_body_ends c p frame result = by frame.caller
  where
    by : Caller → Plan PageControl
    by (RemoteCall depth) = frame_reply c depth result
    by other =
        plan (line_due c p result) (result_steps result ++ (Leave 1 ∷ (continue_steps PageRegister (continuation_of c.stage) ++ DropEach frame_value_count ∷ [])))

-- an unwound frame that the other side called replies false; for one that the command called the command's result is false
abbrev pub page_body_unwound : PageControl → SideView → Frame → Plan PageControl
page_body_unwound c p frame = by frame.caller
  where
    by : Caller → Plan PageControl
    by (RemoteCall depth) = sending c [] depth (PlainDraft payloads.False)
    by other = plan (line_due c p Failed) (Constant values.Void ∷ continue_steps PageRegister (continuation_of c.stage))

-- `destroy`: code 2 where the instance isn't live, 1 at the greatest depth, and else what NPP_Destroy is answered
abbrev pub page_own_action : PageControl → SideView → Frame → Action → Plan PageControl
page_own_action c p frame (actions.Destroy r i) =
    if not (is_live (phase_in i p.instances)) then plan c (code_steps r InvalidInstance)
    else if nat_le max_depth frame.depth then plan c (code_steps r Generic)
    else sending c (MarkDestroying i ∷ (Await (AssignDestroyed i r) ∷ [])) (record { level = frame.depth + 1; task = false }) (PlainDraft (payloads.Destroy i))
page_own_action c p frame action = plan c []

-- a page has bodies of members alone
abbrev pub page_actions : Page → BodyId → List Action
page_actions page (bodies.Member class member) = class_body class member page.classes
page_actions page body = []

-- what a page has for its bodies; none of its calls is a task's
abbrev pub page_rules : Page → PageControl → BodyRules PageControl
page_rules page c = record {
  counted = record c { actions_done = c.actions_done + 1 };
  uncounted = c;
  task = false;
  classes = page.classes;
  actions_of = page_actions page;
  ends = page_body_ends;
  unwound = page_body_unwound;
  own_action = page_own_action (record c { actions_done = c.actions_done + 1 });
}
