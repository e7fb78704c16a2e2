-- Plans: what a script has its side do. (This project's own.)
use Rattle.std.specs.Prelude.{ℕ, List, Bool, Option}
use Rattle.np_values.specs.declared.name.Name.{Name}
use Rattle.np_message.specs.Message.{Message}
use Rattle.np_machine.specs.declared.draft.Sending.{Sending}
use Rattle.np_machine.specs.declared.step.Step.{Step}
use Rattle.np_machine.specs.declared.refusal.Rule.{Rule}
use Rattle.np_machine.specs.declared.refusal.Refusal.{Refusal}
use Rattle.np_machine.specs.Side.{SideState}
use Rattle.np_machine.specs.Messages.{send_draft}
use Rattle.np_machine.specs.Steps.{run_steps}

-- What a side does in one turn: the steps, then it sends at most one message, and its control becomes this.
pub record Plan (C : Type 0) : Type 0 where
  pub control : C
  pub steps : List Step
  pub sends : Option Sending

-- the plan runs: its steps, its message, its control
abbrev pub run_plan : {C : Type 0} → (SideState C → Name → Bool) → Plan C → SideState C → SideState C
run_plan remote plan p = record (send_draft plan.sends (run_steps remote plan.steps p)) { control = plan.control }

-- A side acts, awaits a message of the other side, or has ended; or it refuses a message that it had deferred, as it would serve it.
pub data Pace : Type 0 where
  Acts : Pace
  Awaits : Pace
  HasEnded : Pace
  Stops : Refusal → Pace

-- what a side has to do with a message: a plan, or it refuses it, by a rule and two numbers
pub data Meeting (C : Type 0) : Type 0 where
  Accepts : Plan C → Meeting C
  Refuses : Rule → ℕ → ℕ → Meeting C

-- all that a script has its side do
pub record Plans (C : Type 0) : Type 0 where
  pub pace : SideState C → Pace  -- what it does at its turn
  pub go : SideState C → Plan C  -- of a side that acts
  pub meet : SideState C → Message → Meeting C  -- of a side that awaits a message, when this one comes
