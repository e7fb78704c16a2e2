-- How a body ends: its result goes to its caller, and a frame of a dead instance is unwound. (This project's own.)
use Rattle.std.specs.Prelude.{Bool, List, None, Option, Some, [], if◌then◌else◌, ℕ, ◌++◌, ◌==◌, ◌||◌, ◌∷◌}
use Rattle.np_values.specs.declared.value.Value.TheVariants as values
use Rattle.np_script_grammar.specs.declared.action.Action.{Action}
use Rattle.np_script_grammar.specs.declared.action.Operand.{Operand}
use Rattle.np_script_grammar.specs.declared.class.ClassDef.{ClassDef}
use Rattle.np_machine.specs.declared.frame.BodyId.{BodyId}
use Rattle.np_machine.specs.declared.frame.Caller.TheVariants.{FrameBelow}
use Rattle.np_machine.specs.declared.frame.Caller.{Caller}
use Rattle.np_machine.specs.declared.frame.Continuation.TheVariants.{AssignDestroyed}
use Rattle.np_machine.specs.declared.frame.Continuation.{Continuation}
use Rattle.np_machine.specs.declared.frame.Frame.{Frame}
use Rattle.np_machine.specs.declared.place.Place.TheVariants.{Register}
use Rattle.np_machine.specs.declared.step.Step.TheVariants.{Constant, DropEach, Leave, Resume, SetFlag}
use Rattle.np_machine.specs.declared.step.Step.{Step}
use Rattle.np_machine.specs.Plan.{Plan}
use Rattle.np_machine_plans.specs.View.{SideView, is_dead}
use Rattle.np_machine_plans.specs.PlanParts.{after_steps, assign, frame_value_count, operand_step, operand_value, plan}
use Rattle.np_machine_plans.specs.Results.{CallResult, Failed, Returned, Threw, continue_steps, is_success, result_steps}
use Rattle.np_machine_plans.specs.Teardown.{teardown_once}

-- What a side has for its bodies.
pub record BodyRules (C : Type 0) : Type 0 where
  pub counted : C  -- the control after one more action
  pub uncounted : C  -- the control where none is counted
  pub task : Bool  -- the calls that are made now are a task's
  pub classes : List ClassDef
  pub actions_of : BodyId → List Action
  pub ends : C → SideView → Frame → CallResult → Plan C  -- a body that no frame called has this result
  pub unwound : C → SideView → Frame → Plan C  -- a frame that no frame called was unwound
  pub own_action : SideView → Frame → Action → Plan C  -- an action that this side alone has

-- ---- results for a frame

-- The caller continues with the result: the flag is set, and the value goes to its register. A caller whose instance is dead drops the value and is unwound next.
abbrev pub resume_steps : SideView → Frame → CallResult → Option Continuation → List Step
resume_steps p caller result None = DropEach 1 ∷ []
resume_steps p caller result (Some (AssignDestroyed instance r)) =
    teardown_once p instance
    ++ (if is_dead p caller.instance || instance == caller.instance then (Resume ∷ (DropEach 1 ∷ []))
    else (Resume ∷ (SetFlag (is_success result) ∷ assign (Register r))))
resume_steps p caller result (Some continuation) =
    if is_dead p caller.instance then (Resume ∷ (DropEach 1 ∷ [])) else (Resume ∷ (SetFlag (is_success result) ∷ continue_steps Register continuation))

-- the newest of these frames gets the result, whose value is in flight
abbrev pub return_to : SideView → CallResult → List Frame → List Step
return_to p result [] = DropEach 1 ∷ []
return_to p result (caller ∷ below) = resume_steps p caller result caller.progress.awaits

-- a reply to the newest frame, with a value in flight for each result
abbrev pub reply_to_frame : SideView → CallResult → List Frame → List Step
reply_to_frame p result frames = result_steps result ++ return_to p result frames

-- ---- the end of a body

-- an exception that the body noted takes the place of its result (npruntime.h, NPN_SetException)
abbrev pub with_exception : Option (List ℕ) → CallResult → CallResult
with_exception None result = result
with_exception (Some text) result = Threw text

-- A local return: the result is assigned, and then the frame's registers and its object are dropped.
abbrev pub end_body : {C : Type 0} → BodyRules C → C → SideView → Frame → List Frame → CallResult → Caller → Plan C
end_body rules c p frame below result FrameBelow =
    plan c (result_steps result ++ (Leave 1 ∷ (return_to p result below ++ DropEach frame_value_count ∷ [])))
end_body rules c p frame below result other = rules.ends c p frame result

-- a result with a value brings that value in flight first
abbrev pub end_with : {C : Type 0} → BodyRules C → C → SideView → Frame → List Frame → Operand → CallResult → Plan C
end_with rules c p frame below o (Returned v) = after_steps (operand_step Register o ∷ []) (end_body rules c p frame below (Returned v) frame.caller)
end_with rules c p frame below o result = end_body rules c p frame below result frame.caller

-- the body returns the operand, or throws what it noted
abbrev pub return_operand : {C : Type 0} → BodyRules C → C → SideView → Frame → List Frame → Operand → Plan C
return_operand rules c p frame below o = end_with rules c p frame below o (with_exception frame.progress.exception (Returned (operand_value frame.registers o)))

-- ---- unwinding

-- The result of an unwound frame is false, whatever it noted.
abbrev pub unwind_to : {C : Type 0} → BodyRules C → SideView → Frame → List Frame → Caller → Plan C
unwind_to rules p frame below FrameBelow = plan rules.uncounted (Constant values.Void ∷ return_to p Failed below)
unwind_to rules p frame below other = rules.unwound rules.uncounted p frame

-- a frame is unwound: its registers and its object are dropped, and then its false goes to its caller
abbrev pub unwind : {C : Type 0} → BodyRules C → SideView → Frame → List Frame → Plan C
unwind rules p frame below = after_steps (Leave 0 ∷ (DropEach frame_value_count ∷ [])) (unwind_to rules p frame below frame.caller)
