-- What the actions of a body do, on either side. (This project's own; the calls are those of npruntime.h, NPClass.)
use Rattle.std.specs.Prelude.{Bool, List, None, Option, Some, [], drop, false, if◌then◌else◌, length, nat_lt, negsuc, not, pos, true, ℕ, ℤ, ◌++◌, ◌+ℤ◌, ◌∷◌}
use Rattle.np_values.specs.declared.value.Value.TheVariants as values
use Rattle.np_values.specs.declared.value.Value.{Value}
use Rattle.np_idents.specs.declared.op.Op.TheVariants as ops
use Rattle.np_idents.specs.declared.op.Op.{Op}
use Rattle.np_script_grammar.specs.declared.action.Action.TheVariants as actions
use Rattle.np_script_grammar.specs.declared.action.Action.{Action}
use Rattle.np_script_grammar.specs.declared.action.Operand.TheVariants.{Const}
use Rattle.np_script_grammar.specs.declared.action.Operand.{Operand}
use Rattle.np_script_grammar.specs.declared.class.ClassDef.{ClassDef}
use Rattle.np_machine.specs.declared.frame.Caller.TheVariants.{FrameBelow}
use Rattle.np_machine.specs.declared.frame.Continuation.TheVariants.{Assign, AssignCount, Discard}
use Rattle.np_machine.specs.declared.frame.Continuation.{Continuation}
use Rattle.np_machine.specs.declared.frame.Frame.{Frame}
use Rattle.np_machine.specs.declared.place.Place.TheVariants.{Register, Slot, This}
use Rattle.np_machine.specs.declared.step.Step.TheVariants.{Advance, Await, Constant, Copy, Create, NoteException, Print, SetFlag}
use Rattle.np_machine.specs.declared.step.Step.{Step}
use Rattle.np_machine.specs.Plan.{Plan}
use Rattle.np_machine_plans.specs.View.{SideView}
use Rattle.np_machine_plans.specs.Calls.{AfterCall, CallSite, after_call, call}
use Rattle.np_machine_plans.specs.Classes.{class_place}
use Rattle.np_machine_plans.specs.PlanParts.{after_steps, assign, is_same_value, noted_line, operand_step, operand_value, plan}
use Rattle.np_machine_plans.specs.Results.{Failed, continue_steps, is_success, result_steps}
use Rattle.np_machine_plans.specs.Returns.{BodyRules, end_body, return_operand, with_exception}

-- the newest frame calls
abbrev pub frame_site : Frame → CallSite
frame_site frame = record { register = Register; registers = frame.registers; depth = frame.depth; caller = FrameBelow }

-- At a result that is there at once the frame continues; else it waits.
abbrev pub after_frame_call : {C : Type 0} → C → Continuation → AfterCall C
after_frame_call c continuation = record {
  resumed = λ result. plan c (SetFlag (is_success result) ∷ (result_steps result ++ continue_steps Register continuation));
  local_wait = plan c (Await continuation ∷ []);
  remote_wait = plan c (Await continuation ∷ []);
}

-- the call of an action
abbrev pub frame_call : {C : Type 0} → BodyRules C → SideView → Frame → Continuation → Operand → Op → List Operand → Plan C
frame_call rules p frame continuation target op arguments =
    after_call (after_frame_call rules.counted continuation) (call (frame_site frame) rules.classes p rules.task target op arguments)

-- ---- actions that make no call

-- a skip of so many actions, or none
abbrev pub skip_steps : ℕ → Bool → List Step
skip_steps n skips = if skips then (Advance n ∷ []) else []

-- A new object, where its class is declared and the side has room. Without one the register gets Void, and the flag is false.
abbrev pub create_steps : ℕ → ℕ → Option ℕ → Bool → List Step
create_steps instance r None has_room = SetFlag false ∷ (Constant values.Void ∷ assign (Register r))
create_steps instance r (Some class) has_room =
    if has_room then (SetFlag true ∷ (Create instance class ∷ assign (Register r))) else (SetFlag false ∷ (Constant values.Void ∷ assign (Register r)))

-- a side has room for a further object while fewer than 1,024 are live
abbrev pub has_room : SideView → Bool
has_room p = nat_lt (length p.objects) 1024

-- an integer of 32 bits
abbrev pub fits_int : ℤ → Bool
fits_int (pos n) = nat_lt n 2147483648
fits_int (negsuc n) = nat_lt n 2147483648

-- the sum of two Ints, where it is one of 32 bits
abbrev pub int_sum : Value → Value → Option ℤ
int_sum (values.Int x) (values.Int y) = if fits_int (x +ℤ y) then Some (x +ℤ y) else None
int_sum v w = None

-- the register gets the sum, or Void; the flag is whether there is one
abbrev pub sum_steps : ℕ → Option ℤ → List Step
sum_steps r None = SetFlag false ∷ (Constant values.Void ∷ assign (Register r))
sum_steps r (Some n) = SetFlag true ∷ (Constant (values.Int n) ∷ assign (Register r))

-- The actions that make no call and end no body, of a frame of this instance with this flag, on a side that has room or not.
abbrev pub plain_steps : List ClassDef → ℕ → Bool → Bool → Action → List Step
plain_steps classes instance room flag (actions.Set r v) = operand_step Register v ∷ assign (Register r)
plain_steps classes instance room flag (actions.Throw text) = NoteException text ∷ []
plain_steps classes instance room flag (actions.New r name) = create_steps instance r (class_place name classes) room
plain_steps classes instance room flag (actions.Drop r) = Constant values.Void ∷ assign (Register r)
plain_steps classes instance room flag (actions.Slot n v) = operand_step Register v ∷ assign (Slot instance n)
plain_steps classes instance room flag (actions.Load r n) = Copy (Slot instance n) ∷ assign (Register r)
plain_steps classes instance room flag (actions.SelfTo r) = Copy This ∷ assign (Register r)
plain_steps classes instance room flag (actions.OnTrue n) = skip_steps n (not flag)
plain_steps classes instance room flag (actions.OnFalse n) = skip_steps n flag
plain_steps classes instance room flag action = []

-- the plan of such an action
abbrev pub plain : {C : Type 0} → BodyRules C → SideView → Frame → Action → Plan C
plain rules p frame action = plan rules.counted (plain_steps rules.classes frame.instance (has_room p) frame.progress.flag action)

-- ---- all actions

-- What an action does, once it is counted. `put`, `remove`, `hasm` and `hasp` drop the value of their result.
abbrev pub action_plan : {C : Type 0} → BodyRules C → SideView → Frame → List Frame → Action → Plan C
action_plan rules p frame below (actions.Set r v) = plain rules p frame (actions.Set r v)
action_plan rules p frame below (actions.Add r v w) = plan rules.counted (sum_steps r (int_sum (operand_value frame.registers v) (operand_value frame.registers w)))
action_plan rules p frame below actions.Fail = end_body rules rules.counted p frame below (with_exception frame.progress.exception Failed) frame.caller
action_plan rules p frame below (actions.Return v) = return_operand rules rules.counted p frame below v
action_plan rules p frame below (actions.Throw text) = plain rules p frame (actions.Throw text)
action_plan rules p frame below (actions.New r name) = plain rules p frame (actions.New r name)
action_plan rules p frame below (actions.Drop r) = plain rules p frame (actions.Drop r)
action_plan rules p frame below (actions.Slot n v) = plain rules p frame (actions.Slot n v)
action_plan rules p frame below (actions.Load r n) = plain rules p frame (actions.Load r n)
action_plan rules p frame below (actions.SelfTo r) = plain rules p frame (actions.SelfTo r)
action_plan rules p frame below (actions.Invoke r v key arguments) = frame_call rules p frame (Assign r) v (ops.Invoke key) arguments
action_plan rules p frame below (actions.CallDefault r v arguments) = frame_call rules p frame (Assign r) v ops.Default arguments
action_plan rules p frame below (actions.Construct r v arguments) = frame_call rules p frame (Assign r) v ops.Construct arguments
action_plan rules p frame below (actions.Get r v key) = frame_call rules p frame (Assign r) v (ops.Get key) []
action_plan rules p frame below (actions.Put v key w) = frame_call rules p frame Discard v (ops.Put key) (w ∷ [])
action_plan rules p frame below (actions.Remove v key) = frame_call rules p frame Discard v (ops.Remove key) []
action_plan rules p frame below (actions.HasMethod v key) = frame_call rules p frame Discard v (ops.HasMethod key) []
action_plan rules p frame below (actions.HasProperty v key) = frame_call rules p frame Discard v (ops.HasProperty key) []
action_plan rules p frame below (actions.Enumerate r v) = frame_call rules p frame (AssignCount r) v ops.Enumerate []
action_plan rules p frame below (actions.Note v) = plan rules.counted (Print (noted_line p (operand_value frame.registers v)) ∷ [])
action_plan rules p frame below (actions.OnTrue n) = plain rules p frame (actions.OnTrue n)
action_plan rules p frame below (actions.OnFalse n) = plain rules p frame (actions.OnFalse n)
action_plan rules p frame below (actions.OnEq v w n) =
    plan rules.counted (skip_steps n (not (is_same_value (operand_value frame.registers v) (operand_value frame.registers w))))
action_plan rules p frame below action = rules.own_action p frame action

-- the actions of the frame's body that are not done yet
abbrev pub remaining_actions : {C : Type 0} → BodyRules C → Frame → List Action
remaining_actions rules frame = drop frame.progress.done (rules.actions_of frame.body)

-- The newest frame does its next action. A body at its end returns true with Void, and this isn't counted.
abbrev pub body_plan : {C : Type 0} → BodyRules C → SideView → Frame → List Frame → List Action → Plan C
body_plan rules p frame below [] = return_operand rules rules.uncounted p frame below (Const values.Void)
body_plan rules p frame below (action ∷ rest) = after_steps (Advance 1 ∷ []) (action_plan rules p frame below action)
