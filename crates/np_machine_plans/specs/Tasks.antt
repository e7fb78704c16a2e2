-- The tasks of a plug-in, which it runs while it serves no call of the page. (npfunctions.h, NPN_PluginThreadAsyncCall; the queue is this project's own.)
use Rattle.std.specs.Prelude.{Bool, List, None, Option, Some, [], false, if◌then◌else◌, length, nat_lt, position, suc, true, zero, ℕ, ◌++◌, ◌∷◌}
use Rattle.std.specs.Str.{bytes_eq}
use Rattle.np_values.specs.declared.value.Value.TheVariants as values
use Rattle.np_script_grammar.specs.declared.action.Action.{Action}
use Rattle.np_script_grammar.specs.declared.plugin.Plugin.{Plugin}
use Rattle.np_script_grammar.specs.declared.plugin.TaskDef.{TaskDef}
use Rattle.np_journal.specs.declared.line.Line.TheVariants.{QueueFull, TaskBegun}
use Rattle.np_machine.specs.declared.frame.BodyId.TheVariants as bodies
use Rattle.np_machine.specs.declared.frame.Caller.TheVariants.{NoCaller}
use Rattle.np_machine.specs.declared.frame.Entry.{Entry}
use Rattle.np_machine.specs.declared.frame.Frame.{Frame}
use Rattle.np_machine.specs.declared.step.Step.TheVariants.{Constant, Enter, Print, SetFlag}
use Rattle.np_machine.specs.Plan.{Plan}
use Rattle.np_machine_plans.specs.View.{SideView, is_dead}
use Rattle.np_machine_plans.specs.declared.plugin.PluginControl.{PluginControl}
use Rattle.np_machine_plans.specs.declared.plugin.QueuedTask.{QueuedTask}
use Rattle.np_machine_plans.specs.PlanParts.{plan}

-- the place of the task of this name, where it is declared
abbrev pub task_place : List ℕ → List TaskDef → Option ℕ
task_place name tasks = position (λ task. bytes_eq task.name name) tasks

-- the body of the task at this place
abbrev pub task_body : ℕ → List TaskDef → List Action
task_body n [] = []
task_body zero (task ∷ tasks) = task.body
task_body (suc n) (task ∷ tasks) = task_body n tasks

-- `later` queues a declared task for the body's instance. A queue of 64 tasks takes no more: the flag is false, and a line says so.
abbrev pub later_plan : PluginControl → Frame → List ℕ → Option ℕ → Plan PluginControl
later_plan c frame name None = plan c (SetFlag false ∷ [])
later_plan c frame name (Some place) =
    if nat_lt (length c.queue) 64 then plan (record c { queue = c.queue ++ record { instance = frame.instance; name = name } ∷ [] }) (SetFlag true ∷ [])
    else plan c (SetFlag false ∷ (Print (QueueFull frame.instance name) ∷ []))

-- the tasks of instances that aren't dead
abbrev pub live_tasks : (ℕ → Bool) → List QueuedTask → List QueuedTask
live_tasks dead [] = []
live_tasks dead (t ∷ ts) = if dead t.instance then live_tasks dead ts else (t ∷ live_tasks dead ts)

-- the queue without the tasks of dead instances
abbrev pub tasks_of : PluginControl → SideView → List QueuedTask
tasks_of c p = live_tasks (λ i. is_dead p i) c.queue

-- a task's frame has depth 0, no caller and no object
abbrev pub begin_task : PluginControl → QueuedTask → List QueuedTask → Option ℕ → Plan PluginControl
begin_task c t rest None = plan (record c { queue = rest }) []
begin_task c t rest (Some n) =
    let entered : Entry = record { instance = t.instance; depth = 0; caller = NoCaller; body = bodies.Task n } in
    plan (record c { queue = rest }) (Print (TaskBegun t.instance t.name) ∷ (Constant values.Null ∷ (Enter 0 entered ∷ [])))

-- the front task begins, where no frame is on the stack; a task that waits for its call is one
abbrev pub next_task : Plugin → PluginControl → List QueuedTask → Plan PluginControl
next_task plugin c [] = plan c []
next_task plugin c (t ∷ rest) = begin_task c t rest (task_place t.name plugin.tasks)
