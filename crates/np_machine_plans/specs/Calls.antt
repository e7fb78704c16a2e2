-- Calls of objects: which call fails at once, which one runs a body or a stored entry here, and which one is sent.
-- (npruntime.h, NPClass; the order of the tests and the depth are this project's own.)
use Rattle.std.specs.Prelude.{Bool, List, None, Option, Some, [], if◌then◌else◌, length, nat_le, nat_lt, suc, zero, ℕ, ◌&&◌, ◌++◌, ◌+◌, ◌||◌, ◌∷◌}
use Rattle.np_values.specs.declared.name.Name.{Name}
use Rattle.np_values.specs.declared.value.Value.TheVariants as values
use Rattle.np_values.specs.declared.value.Value.{Value}
use Rattle.np_values.specs.Name.{is_same_side}
use Rattle.np_idents.specs.declared.key.IdKey.{IdKey}
use Rattle.np_idents.specs.declared.op.Op.TheVariants as ops
use Rattle.np_idents.specs.declared.op.Op.{Op}
use Rattle.np_script_grammar.specs.declared.action.Operand.{Operand}
use Rattle.np_script_grammar.specs.declared.class.ClassDef.{ClassDef}
use Rattle.np_class.specs.declared.found.Found.TheVariants as found
use Rattle.np_class.specs.declared.found.Found.{Found}
use Rattle.np_class.specs.Classes.{entry}
use Rattle.np_journal.specs.declared.line.Line.TheVariants.{Entered}
use Rattle.np_journal.specs.declared.line.Line.{Line}
use Rattle.np_machine.specs.declared.draft.Draft.TheVariants.{CallDraft}
use Rattle.np_machine.specs.declared.draft.Sending.{Sending}
use Rattle.np_machine.specs.declared.frame.BodyId.TheVariants as bodies
use Rattle.np_machine.specs.declared.frame.Caller.{Caller}
use Rattle.np_machine.specs.declared.frame.Entry.{Entry}
use Rattle.np_machine.specs.declared.object.Object.{Object}
use Rattle.np_machine.specs.declared.place.Place.TheVariants.{PropertyOf}
use Rattle.np_machine.specs.declared.place.Place.{Place}
use Rattle.np_machine.specs.declared.step.Step.TheVariants.{Constant, Copy, DropEach, Enter, HandOver, Print, Remove}
use Rattle.np_machine.specs.declared.step.Step.{Step}
use Rattle.np_machine.specs.Objects.{property_at}
use Rattle.np_machine.specs.Plan.{Plan}
use Rattle.np_machine.specs.References.{name_of}
use Rattle.np_machine_plans.specs.View.{SideView, is_dead}
use Rattle.np_machine_plans.specs.Classes.{class_at, has_getter, has_property, keys_of, object_of}
use Rattle.np_machine_plans.specs.PlanParts.{after_steps, assign, operand_step, operand_steps, operand_value}
use Rattle.np_machine_plans.specs.Results.{CallResult, Enumerated, Failed, Returned}

-- Who calls: where its registers are and what they hold, its depth, and the caller of the frame that the call enters.
pub record CallSite : Type 0 where
  pub register : ℕ → Place
  pub registers : List Value
  pub depth : ℕ
  pub caller : Caller

-- A call that is answered at once: after these steps its result is there.
pub record Answer : Type 0 where
  pub steps : List Step
  pub result : CallResult

-- What a call comes to.
pub data CallOutcome : Type 0 where
  Resumes : Answer → CallOutcome  -- it is answered at once
  Enters : Line → List Step → CallOutcome  -- a body of this side: its line, and then the steps that enter it
  Sends : List Step → Sending → CallOutcome  -- the other side is called, after these steps

-- What follows the call at its caller.
pub record AfterCall (C : Type 0) : Type 0 where
  pub resumed : CallResult → Plan C  -- with a result that is there at once
  pub local_wait : Plan C  -- for a body of this side
  pub remote_wait : Plan C  -- for the other side's reply

-- the call, and what follows it
abbrev pub after_call : {C : Type 0} → AfterCall C → CallOutcome → Plan C
after_call after (Resumes answer) = after_steps answer.steps (after.resumed answer.result)
after_call after (Enters line steps) = record after.local_wait { steps = Print line ∷ (after.local_wait.steps ++ steps) }
after_call after (Sends steps sending) = record (after_steps steps after.remote_wait) { sends = Some sending }

-- the call fails
abbrev pub failure : Answer
failure = record { steps = []; result = Failed }

-- the call fails at once
abbrev pub fails : CallOutcome
fails = Resumes failure

-- ---- stored entries

-- after these steps the call returns Void at once
abbrev pub returns_void : List Step → Answer
returns_void steps = record { steps = steps ++ Constant values.Void ∷ []; result = Returned values.Void }

-- A property is set where the object has it, or has fewer than 64. Setting a new one beyond them fails.
abbrev pub may_set : IdKey → Object → Bool
may_set key o = has_property key o.properties || nat_lt (length o.properties) 64

-- `setProperty` gives the property its value; the call returns Void
abbrev pub stored_put : (ℕ → Place) → Object → IdKey → List Operand → Answer
stored_put register o key arguments =
    if may_set key o then returns_void (operand_steps register arguments ++ assign (PropertyOf o.name key)) else failure

-- An entry that no body runs: `getProperty` and `removeProperty` fail without the property, `hasProperty` also finds getters,
-- and `enumerate` lists the identifiers for a class of version 2 or 3 that keeps properties, and none else.
abbrev pub stored_call : (ℕ → Place) → ClassDef → Object → Op → List Operand → Answer
stored_call register class o (ops.Get key) arguments =
    if has_property key o.properties then record { steps = Copy (PropertyOf o.name key) ∷ []; result = Returned (property_at key o.properties) } else failure
stored_call register class o (ops.Put key) arguments = stored_put register o key arguments
stored_call register class o (ops.Remove key) arguments =
    if has_property key o.properties then returns_void (Remove o.name key ∷ (DropEach 1 ∷ [])) else failure
stored_call register class o (ops.HasMethod key) arguments = returns_void []
stored_call register class o (ops.HasProperty key) arguments =
    if has_getter key class || has_property key o.properties then returns_void [] else failure
stored_call register class o ops.Enumerate arguments =
    if class.stored && nat_lt 1 class.version then record { steps = []; result = Enumerated (keys_of o.properties) } else record { steps = []; result = Enumerated [] }
stored_call register class o op arguments = failure

-- ---- objects of this side

-- A body is entered one level deeper, with the arguments in its first registers and the target as its object.
abbrev pub entered_frame : CallSite → Object → ℕ → Entry
entered_frame site o member = record { instance = o.name.instance; depth = site.depth + 1; caller = site.caller; body = bodies.Member o.class member }

-- the arguments and the target come in flight, and go into the new frame
abbrev pub enter_body : CallSite → Object → Operand → List Operand → ℕ → List Step
enter_body site o target arguments member =
    operand_step site.register target ∷ (operand_steps site.register arguments ++ Enter (length arguments) (entered_frame site o member) ∷ [])

-- the line comes before the answer's steps
abbrev pub announced : Line → Answer → Answer
announced line answer = record answer { steps = Print line ∷ answer.steps }

-- By the class table: an absent entry fails without a line, and each other one writes its line first.
abbrev pub entry_call : CallSite → ClassDef → Object → Operand → Op → List Operand → Found → CallOutcome
entry_call site class o target op arguments found.Absent = fails
entry_call site class o target op arguments found.Stored = Resumes (announced (Entered o.name op) (stored_call site.register class o op arguments))
entry_call site class o target op arguments (found.Body member) = Enters (Entered o.name op) (enter_body site o target arguments member)

-- an object whose class isn't declared has no entry
abbrev pub class_call : CallSite → Object → Operand → Op → List Operand → Option ClassDef → CallOutcome
class_call site o target op arguments None = fails
class_call site o target op arguments (Some class) = entry_call site class o target op arguments (entry class op)

-- a call of an object of this side, where it is live
abbrev pub local_call : CallSite → List ClassDef → Operand → Op → List Operand → Option Object → CallOutcome
local_call site classes target op arguments None = fails
local_call site classes target op arguments (Some o) = class_call site o target op arguments (class_at o.class classes)

-- ---- objects of the other side

-- so many values in flight are handed over to the message
abbrev pub hand_overs : ℕ → List Step
hand_overs zero = []
hand_overs (suc n) = HandOver ∷ hand_overs n

-- The call is sent one level deeper, with the task's mark where a task makes it. The target is handed over first, then the arguments.
abbrev pub remote_call : CallSite → Operand → Op → List Operand → Bool → CallOutcome
remote_call site target op arguments task =
    Sends (operand_steps site.register arguments ++ (operand_step site.register target ∷ hand_overs (length arguments + 1))) (record { depth = record { level = site.depth + 1; task = task }; draft = CallDraft op })

-- ---- the tests

-- The greatest depth. A call that would be deeper fails.
abbrev pub max_depth : ℕ
max_depth = 64

-- In this order: the target is no object, its instance is dead on the caller's side, the call would be too deep; then its side decides.
abbrev pub call_of_name : CallSite → List ClassDef → SideView → Bool → Operand → Op → List Operand → Option Name → CallOutcome
call_of_name site classes p task target op arguments None = fails
call_of_name site classes p task target op arguments (Some name) =
    if is_dead p name.instance then fails
    else if nat_le max_depth site.depth then fails
    else if is_same_side name.side p.side then local_call site classes target op arguments (object_of name p.objects)
    else remote_call site target op arguments task

-- a call of the object that the operand names
abbrev pub call : CallSite → List ClassDef → SideView → Bool → Operand → Op → List Operand → CallOutcome
call site classes p task target op arguments = call_of_name site classes p task target op arguments (name_of (operand_value site.registers target))
