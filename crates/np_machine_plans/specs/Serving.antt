-- A call of the other side is served: its arguments are in flight, and its target after them. (npruntime.h, NPClass; the order is this project's own.)
use Rattle.std.specs.Prelude.{Bool, List, None, Option, Some, [], if◌then◌else◌, ℕ, ◌++◌, ◌+◌, ◌∷◌}
use Rattle.np_values.specs.declared.name.Name.{Name}
use Rattle.np_values.specs.declared.value.Value.TheVariants as values
use Rattle.np_idents.specs.declared.key.IdKey.{IdKey}
use Rattle.np_idents.specs.declared.op.Op.TheVariants as ops
use Rattle.np_idents.specs.declared.op.Op.{Op}
use Rattle.np_script_grammar.specs.declared.class.ClassDef.{ClassDef}
use Rattle.np_message.specs.declared.depth.Depth.{Depth}
use Rattle.np_class.specs.declared.found.Found.TheVariants as found
use Rattle.np_class.specs.declared.found.Found.{Found}
use Rattle.np_class.specs.Classes.{entry}
use Rattle.np_journal.specs.declared.line.Line.TheVariants.{Entered}
use Rattle.np_machine.specs.declared.frame.BodyId.TheVariants as bodies
use Rattle.np_machine.specs.declared.frame.Caller.TheVariants.{RemoteCall}
use Rattle.np_machine.specs.declared.frame.Entry.{Entry}
use Rattle.np_machine.specs.declared.object.Object.{Object}
use Rattle.np_machine.specs.declared.place.Place.TheVariants.{PropertyOf, Register}
use Rattle.np_machine.specs.declared.step.Step.TheVariants.{Constant, DropEach, Enter, MoveAfter, Print}
use Rattle.np_machine.specs.declared.step.Step.{Step}
use Rattle.np_machine.specs.Plan.{Plan}
use Rattle.np_machine_plans.specs.View.{SideView, is_dead}
use Rattle.np_machine_plans.specs.Calls.{Answer, may_set, stored_call}
use Rattle.np_machine_plans.specs.Classes.{class_at, object_of}
use Rattle.np_machine_plans.specs.PlanParts.{after_steps, assign, plan}
use Rattle.np_machine_plans.specs.Results.{CallResult, Failed, Returned, reply}

-- What is left of the call is dropped in order, the target last, before a value is handed over to the reply.
abbrev pub drop_call : ℕ → CallResult → List Step
drop_call n (Returned v) = MoveAfter n ∷ (DropEach n ∷ [])
drop_call n result = DropEach n ∷ []

-- the reply to a call that entered no frame, of which so many values are in flight
abbrev pub serve_reply : {C : Type 0} → C → Depth → ℕ → CallResult → Plan C
serve_reply c depth n result = reply c (drop_call n result) depth result

-- a stored entry answers at once, with its target in flight
abbrev pub serve_answer : {C : Type 0} → C → Depth → Answer → Plan C
serve_answer c depth answer = after_steps answer.steps (serve_reply c depth 1 answer.result)

-- `setProperty` has its value in flight already
abbrev pub serve_put : {C : Type 0} → C → Depth → Object → IdKey → Plan C
serve_put c depth o key =
    if may_set key o then after_steps (assign (PropertyOf o.name key) ++ Constant values.Void ∷ []) (serve_reply c depth 1 (Returned values.Void))
    else serve_reply c depth 2 Failed

-- a stored entry, by its operation
abbrev pub serve_stored : {C : Type 0} → C → Depth → ClassDef → Object → Op → Plan C
serve_stored c depth class o (ops.Put key) = serve_put c depth o key
serve_stored c depth class o op = serve_answer c depth (stored_call Register class o op [])

-- by the class table, as a call of this side
abbrev pub serve_entry : {C : Type 0} → C → Depth → ClassDef → Object → Op → ℕ → Found → Plan C
serve_entry c depth class o op arguments found.Absent = serve_reply c depth (arguments + 1) Failed
serve_entry c depth class o op arguments found.Stored = after_steps (Print (Entered o.name op) ∷ []) (serve_stored c depth class o op)
serve_entry c depth class o op arguments (found.Body member) =
    let entered : Entry = record { instance = o.name.instance; depth = depth.level; caller = RemoteCall depth; body = bodies.Member o.class member } in
    plan c (Print (Entered o.name op) ∷ (Enter arguments entered ∷ []))

-- an object whose class isn't declared has no entry
abbrev pub serve_class : {C : Type 0} → C → Depth → Object → Op → ℕ → Option ClassDef → Plan C
serve_class c depth o op arguments None = serve_reply c depth (arguments + 1) Failed
serve_class c depth o op arguments (Some class) = serve_entry c depth class o op arguments (entry class op)

-- a call of an object that isn't there, or of a dead instance, is answered false without a line
abbrev pub serve_object : {C : Type 0} → C → List ClassDef → Depth → Op → ℕ → Bool → Option Object → Plan C
serve_object c classes depth op arguments dead None = serve_reply c depth (arguments + 1) Failed
serve_object c classes depth op arguments dead (Some o) =
    if dead then serve_reply c depth (arguments + 1) Failed else serve_class c depth o op arguments (class_at o.class classes)

-- a call of the object of this name, with so many arguments in flight
abbrev pub serve_call : {C : Type 0} → C → List ClassDef → SideView → Depth → Name → Op → ℕ → Plan C
serve_call c classes p depth name op arguments = serve_object c classes depth op arguments (is_dead p name.instance) (object_of name p.objects)
