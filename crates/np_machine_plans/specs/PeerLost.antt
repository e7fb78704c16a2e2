-- What a page does once its plug-in is lost. (This project's own.)
use Rattle.std.specs.Prelude.{List, None, [], ℕ, ◌++◌, ◌∷◌}
use Rattle.np_values.specs.declared.error.NpError.TheVariants.{Generic, ModuleLoadFailed}
use Rattle.np_values.specs.declared.value.Value.TheVariants as values
use Rattle.np_life.specs.declared.phase.Phase.TheVariants as phases
use Rattle.np_life.specs.declared.phase.Phase.{Phase}
use Rattle.np_journal.specs.declared.printed.Printed.TheVariants as printed
use Rattle.np_machine.specs.declared.frame.Continuation.TheVariants.{Assign}
use Rattle.np_machine.specs.declared.instance.Instance.{Instance}
use Rattle.np_machine.specs.declared.place.Place.TheVariants.{PageRegister}
use Rattle.np_machine.specs.declared.step.Step.TheVariants.{Constant}
use Rattle.np_machine.specs.declared.step.Step.{Step}
use Rattle.np_machine.specs.Plan.{Plan}
use Rattle.np_machine.specs.Side.{SideState}
use Rattle.np_machine.specs.Steps.{run_steps}
use Rattle.np_machine.specs.Turn.{is_remote_by_messages}
use Rattle.np_machine_plans.specs.declared.page.Outstanding.TheVariants as calls
use Rattle.np_machine_plans.specs.declared.page.Outstanding.{Outstanding}
use Rattle.np_machine_plans.specs.declared.page.OwedLine.TheVariants as owed_lines
use Rattle.np_machine_plans.specs.declared.page.OwedLine.{OwedLine}
use Rattle.np_machine_plans.specs.declared.page.PageControl.{PageControl}
use Rattle.np_machine_plans.specs.declared.page.PeerState.TheVariants as peers
use Rattle.np_machine_plans.specs.declared.page.Stage.TheVariants as stages
use Rattle.np_machine_plans.specs.declared.page.Stage.{Stage}
use Rattle.np_machine_plans.specs.PageControls.{ends_command, ready}
use Rattle.np_machine_plans.specs.PlanParts.{plan}
use Rattle.np_machine_plans.specs.Results.{continue_steps}
use Rattle.np_machine_plans.specs.Teardown.{teardown_steps}

-- ---- the line of the command that runs

-- what a command owes that awaits a reply
abbrev pub owed_by_call : Outstanding → OwedLine
owed_by_call (calls.New i) = owed_lines.Code ModuleLoadFailed
owed_by_call (calls.DestroyCommand i) = owed_lines.Code Generic
owed_by_call (calls.Scriptable r) = owed_lines.Failure (Assign r)
owed_by_call (calls.Object continuation) = owed_lines.Failure continuation
owed_by_call calls.Turn = owed_lines.No
owed_by_call (calls.Streaming pumped) = owed_lines.Pumped pumped.answered
owed_by_call outstanding = owed_lines.Nothing

-- a command whose line was written owes nothing
abbrev pub owed_line : Stage → OwedLine
owed_line (stages.Awaiting outstanding) = owed_by_call outstanding
owed_line (stages.Running continuation) = owed_lines.Failure continuation
owed_line (stages.LineDue continuation result) = owed_lines.Failure continuation
owed_line (stages.Pumping left answered) = owed_lines.Pumped answered
owed_line (stages.FileDue pumped) = owed_lines.Pumped pumped.answered
owed_line (stages.Unanswered owed) = owed
owed_line stage = owed_lines.Nothing

-- The command ends: `create` with the code 4, `destroy` with 1, `pump` with the calls that were answered, each other one with false, and Void in its register.
abbrev pub lost_plan : PageControl → OwedLine → Plan PageControl
lost_plan c owed_lines.Nothing = plan (ready c) []
lost_plan c (owed_lines.Code error) = ends_command c [] (printed.Code error)
lost_plan c owed_lines.No = ends_command c [] printed.No
lost_plan c (owed_lines.Failure continuation) = ends_command c (Constant values.Void ∷ continue_steps PageRegister continuation) printed.No
lost_plan c (owed_lines.Pumped answered) = ends_command c [] (printed.Pumped answered)

-- ---- the loss

-- a dead instance isn't torn down again
abbrev pub unless_dead : Phase → ℕ → List Step
unless_dead phases.Dead instance = []
unless_dead phase instance = teardown_steps instance

-- every instance that isn't dead is torn down, in rising order
abbrev pub teardown_all : List Instance → List Step
teardown_all [] = []
teardown_all (i ∷ is) = unless_dead i.phase i.number ++ teardown_all is

-- All instances are torn down; the frames, the values in flight, the pending releases and what was deferred go; the command owes its line.
abbrev pub peer_lost : SideState PageControl → SideState PageControl
peer_lost p =
    let q = run_steps is_remote_by_messages (teardown_all p.instances) p in
    record q {
      frames = [];
      in_flight = [];
      handed_over = [];
      pending_releases = [];
      undelivered = [];
      control = record q.control { stage = stages.Unanswered (owed_line q.control.stage); peer = peers.Lost; arrived = None };
    }
