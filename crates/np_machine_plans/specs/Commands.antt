-- What the commands of a page do, one after another. (This project's own; the calls are those of npfunctions.h and npruntime.h.)
use Rattle.std.specs.Prelude.{Bool, List, None, Option, Some, [], false, if◌then◌else◌, ℕ, ◌&&◌, ◌+◌, ◌∷◌}
use Rattle.np_values.specs.declared.error.NpError.TheVariants.{IncompatibleVersion, InvalidInstance, ModuleLoadFailed, NoError}
use Rattle.np_values.specs.declared.error.NpError.{NpError}
use Rattle.np_values.specs.declared.name.Name.{Name}
use Rattle.np_values.specs.declared.value.Value.TheVariants as values
use Rattle.np_idents.specs.declared.op.Op.TheVariants as ops
use Rattle.np_idents.specs.declared.op.Op.{Op}
use Rattle.np_script_grammar.specs.declared.command.Command.TheVariants as commands
use Rattle.np_script_grammar.specs.declared.action.Operand.{Operand}
use Rattle.np_script_grammar.specs.declared.command.Command.{Command}
use Rattle.np_script_grammar.specs.declared.page.Page.{Page}
use Rattle.np_message.specs.declared.payload.Payload.TheVariants as payloads
use Rattle.np_journal.specs.declared.printed.Printed.TheVariants as printed
use Rattle.np_machine.specs.declared.frame.Caller.TheVariants as callers
use Rattle.np_machine.specs.declared.frame.Continuation.TheVariants.{Assign, AssignCount, Discard}
use Rattle.np_machine.specs.declared.frame.Continuation.{Continuation}
use Rattle.np_machine.specs.declared.instance.Instance.{Instance}
use Rattle.np_machine.specs.declared.place.Place.TheVariants.{PageRegister}
use Rattle.np_machine.specs.declared.step.Step.TheVariants.{Begin, Constant, Create, MarkDestroying, Print, TearDown}
use Rattle.np_machine.specs.Instances.{phase_in, serial_in}
use Rattle.np_machine.specs.Plan.{Plan}
use Rattle.np_machine_plans.specs.View.{SideView}
use Rattle.np_machine_plans.specs.declared.page.Outstanding.TheVariants as calls
use Rattle.np_machine_plans.specs.declared.page.PageControl.{PageControl}
use Rattle.np_machine_plans.specs.declared.page.PeerState.TheVariants as peers
use Rattle.np_machine_plans.specs.declared.page.PeerState.{PeerState}
use Rattle.np_machine_plans.specs.declared.page.Stage.TheVariants as stages
use Rattle.np_machine_plans.specs.Actions.{has_room}
use Rattle.np_machine_plans.specs.Calls.{AfterCall, CallSite, after_call, call}
use Rattle.np_machine_plans.specs.Classes.{class_place}
use Rattle.np_machine_plans.specs.PageControls.{command_calls, command_fails, command_result, ends_command, printed_value}
use Rattle.np_machine_plans.specs.PageStreams.{open_plan}
use Rattle.np_machine_plans.specs.PlanParts.{assign, noted_line, operand_step, operand_value, plan}
use Rattle.np_machine_plans.specs.Teardown.{is_live, teardown_once}

-- a command calls an object at depth 0
abbrev pub command_site : SideView → CallSite
command_site p = record { register = PageRegister; registers = p.registers; depth = 0; caller = callers.Command }

-- At a result that is there at once the command ends; else it waits.
abbrev pub after_command_call : PageControl → SideView → Continuation → AfterCall PageControl
after_command_call c p continuation = record {
  resumed = command_result c p continuation;
  local_wait = plan (record c { stage = stages.Running continuation }) [];
  remote_wait = plan (record c { stage = stages.Awaiting (calls.Object continuation) }) [];
}

-- the call of a command
abbrev pub command_calls_object : Page → PageControl → SideView → Continuation → Operand → Op → List Operand → Plan PageControl
command_calls_object page c p continuation target op arguments =
    after_call (after_command_call c p continuation) (call (command_site p) page.classes p false target op arguments)

-- ---- `create`

-- The instance is begun before NPP_New is called. With a plug-in that is incompatible or lost no call is made, and the instance is dead at once.
abbrev pub create_with : PageControl → ℕ → List ℕ → ℕ → List (List ℕ) → PeerState → Plan PageControl
create_with c i mime mode attributes peers.Compatible = command_calls c (Begin i ∷ []) (calls.New i) (payloads.New i mode mime attributes)
create_with c i mime mode attributes peers.Incompatible = ends_command c (Begin i ∷ (TearDown i ∷ [])) (printed.Code IncompatibleVersion)
create_with c i mime mode attributes peers.Lost = ends_command c (Begin i ∷ (TearDown i ∷ [])) (printed.Code ModuleLoadFailed)

-- instances are numbered from 1, in the order of their `create` lines
abbrev pub create_plan : PageControl → List ℕ → ℕ → List (List ℕ) → Plan PageControl
create_plan c mime mode attributes = create_with (record c { instances = c.instances + 1 }) (c.instances + 1) mime mode attributes c.peer

-- a code other than 0 of NPP_New tears the instance down, unless a body destroyed it meanwhile
abbrev pub created_plan : PageControl → SideView → ℕ → NpError → Plan PageControl
created_plan c p i NoError = ends_command c [] (printed.Code NoError)
created_plan c p i error = ends_command c (teardown_once p i) (printed.Code error)

-- ---- `new` and `turn`

-- the name of the next object of an instance
abbrev pub next_name : SideView → ℕ → Name
next_name p i = record { side = p.side; instance = i; serial = serial_in i p.instances + 1 }

-- a new object of a live instance, where its class is declared and the page has room
abbrev pub new_plan : PageControl → SideView → ℕ → ℕ → Option ℕ → Bool → Plan PageControl
new_plan c p r i None may = command_fails c r
new_plan c p r i (Some class) may =
    if may then ends_command c (Create i class ∷ assign (PageRegister r)) (printed_value p (values.Object (next_name p i)))
    else command_fails c r

-- `turn` makes an empty call; with a lost plug-in it is false
abbrev pub turn_plan : PageControl → PeerState → Plan PageControl
turn_plan c peers.Lost = ends_command c [] printed.No
turn_plan c peer = command_calls c [] calls.Turn payloads.Turn

-- ---- all commands

-- a command that wants a live instance, and what it does without one
abbrev pub if_live : SideView → ℕ → Plan PageControl → Plan PageControl → Plan PageControl
if_live p i does otherwise = if is_live (phase_in i p.instances) then does else otherwise

-- what a command does, once it is begun (docs/SCRIPTS.md)
abbrev pub command_plan : Page → PageControl → SideView → Command → Plan PageControl
command_plan page c p (commands.Create mime mode attributes) = create_plan c mime mode attributes
command_plan page c p (commands.Destroy i) =
    if_live p i (command_calls c (MarkDestroying i ∷ []) (calls.DestroyCommand i) (payloads.Destroy i)) (ends_command c [] (printed.Code InvalidInstance))
command_plan page c p (commands.Scriptable r i) = if_live p i (command_calls c [] (calls.Scriptable r) (payloads.Scriptable i)) (command_fails c r)
command_plan page c p (commands.New r i name) = new_plan c p r i (class_place name page.classes) (is_live (phase_in i p.instances) && has_room p)
command_plan page c p (commands.Set r v) = ends_command c (operand_step PageRegister v ∷ assign (PageRegister r)) (printed_value p (operand_value p.registers v))
command_plan page c p (commands.Drop r) = ends_command c (Constant values.Void ∷ assign (PageRegister r)) (printed.Yes values.Void false)
command_plan page c p (commands.Invoke r v key arguments) = command_calls_object page c p (Assign r) v (ops.Invoke key) arguments
command_plan page c p (commands.CallDefault r v arguments) = command_calls_object page c p (Assign r) v ops.Default arguments
command_plan page c p (commands.Construct r v arguments) = command_calls_object page c p (Assign r) v ops.Construct arguments
command_plan page c p (commands.Get r v key) = command_calls_object page c p (Assign r) v (ops.Get key) []
command_plan page c p (commands.Put v key w) = command_calls_object page c p Discard v (ops.Put key) (w ∷ [])
command_plan page c p (commands.Remove v key) = command_calls_object page c p Discard v (ops.Remove key) []
command_plan page c p (commands.HasMethod v key) = command_calls_object page c p Discard v (ops.HasMethod key) []
command_plan page c p (commands.HasProperty v key) = command_calls_object page c p Discard v (ops.HasProperty key) []
command_plan page c p (commands.Enumerate r v) = command_calls_object page c p (AssignCount r) v ops.Enumerate []
command_plan page c p (commands.Note v) = ends_command c (Print (noted_line p (operand_value p.registers v)) ∷ []) (printed.Yes values.Void false)
command_plan page c p commands.Turn = turn_plan c c.peer
command_plan page c p (commands.OpenStream i url) = open_plan page c p i url
command_plan page c p (commands.Pump n) = plan (record c { stage = stages.Pumping n 0 }) []

-- ---- the end of the page

-- the live instance with the lowest number
abbrev pub first_live : List Instance → Option ℕ
first_live [] = None
first_live (i ∷ is) = if is_live i.phase then Some i.number else first_live is

-- the closing call of NPP_Destroy, or Shutdown where no instance is live
abbrev pub close_plan : PageControl → Option ℕ → Plan PageControl
close_plan c (Some i) = command_calls c (MarkDestroying i ∷ []) (calls.Destroy i) (payloads.Destroy i)
close_plan c None = command_calls c [] calls.Shutdown payloads.Shutdown

-- After the last command the live instances are destroyed in rising order, and then Shutdown is called. With a lost plug-in the page ends at once.
abbrev pub end_plan : PageControl → SideView → PeerState → Plan PageControl
end_plan c p peers.Lost = plan (record c { stage = stages.Ended }) []
end_plan c p peer = close_plan c (first_live p.instances)

-- a command is begun: it has the next number, and counts as an action
abbrev pub begun_command : PageControl → List Command → PageControl
begun_command c rest = record c { commands = rest; number = c.number + 1; actions_done = c.actions_done + 1 }

-- the next command, or the end of the page
abbrev pub next_command : Page → PageControl → SideView → List Command → Plan PageControl
next_command page c p [] = end_plan c p c.peer
next_command page c p (command ∷ rest) = command_plan page (begun_command c rest) p command
