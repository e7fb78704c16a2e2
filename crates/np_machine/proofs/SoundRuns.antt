-- One side alone keeps the counts in balance, whatever messages reach it.
use Rattle.std.proofs.Common.{◌≡◌, ℕ, zero, suc, List, [], ◌∷◌, refl, arith, Option, Some, None}
use Rattle.np_values.specs.declared.name.Side.{Side}
use Rattle.np_values.specs.declared.name.Side.TheVariants.{Page, Plug}
use Rattle.np_values.specs.declared.name.Name.{Name}
use Rattle.np_message.specs.Message.{Message}
use Rattle.np_machine.specs.References.{references_to}
use Rattle.np_machine.specs.Side.{SideState, local_count, registers_of_side, at_start}
use Rattle.np_machine.specs.declared.step.Step.{Step}
use Rattle.np_machine.specs.Messages.{examine}
use Rattle.np_machine.specs.Steps.{run_step, run_steps}
use Rattle.np_machine.specs.Plan.{Plan, run_plan, Pace, Acts, Awaits, HasEnded, Stops, Meeting, Accepts, Refuses, Plans}
use Rattle.np_machine.specs.Sound.{BalancesLive, IsSound}
use Rattle.np_machine.specs.Turn.{RemoteTest, is_remote_by_messages, next_message, meets, listens, turn_at, turn, endpoint_run}
use Rattle.np_machine.proofs.Counting.{local_count-is}
use Rattle.np_machine.proofs.PhaseLemmas.{voids-none}
use Rattle.np_machine.proofs.Balances.{examine-sound, sends-sound, step-sound}

pub start-sound : {C : Type 0} (side : Side) (c : C) → IsSound (at_start side c)
start-sound side c = record { balances = λ x o. balanced x; positive = tt }
  where
    registers : (x : Name) (side : Side) → references_to x (registers_of_side side) ≡ 0
    registers x Page = voids-none x 16
    registers x Plug = refl

    balanced : (x : Name) → BalancesLive (local_count x (at_start side c)) 0 0 0 0
    balanced x = let z : local_count x (at_start side c) ≡ 0 = omega (arith, registers x side, local_count-is x (at_start side c)) in record { within = omega arith; none = λ e. omega arith; some = λ e. absurd (omega arith); unkept = refl }

steps-sound : {C : Type 0} (remote : RemoteTest C) (steps : List Step) (p : SideState C) → IsSound p → IsSound (run_steps remote steps p)
steps-sound remote [] p s = s
steps-sound remote (step ∷ steps) p s = steps-sound remote steps (run_step (remote p) step p) (step-sound (remote p) step p s)

plan-sound : {C : Type 0} (remote : RemoteTest C) (plan : Plan C) (p : SideState C) → IsSound p → IsSound (run_plan remote plan p)
plan-sound remote plan p s =
    let t = sends-sound plan.sends (run_steps remote plan.steps p) (steps-sound remote plan.steps p s) in
    record { balances = t.balances; positive = t.positive }

turn-sound : {C : Type 0} (remote : RemoteTest C) (S : Plans C) (got : List Message) (p : SideState C) → IsSound p → IsSound (turn remote S got p)
turn-sound remote S got p s = at (S.pace p)
  where
    met : (m : Message) (meeting : Meeting _) → IsSound (meets remote p m meeting)
    met m (Accepts plan) = plan-sound remote plan (examine m p) (examine-sound m p s)
    met m (Refuses rule first second) = s

    heard : (o : Option Message) → IsSound (listens remote S p o)
    heard None = s
    heard (Some m) = met m (S.meet p m)

    at : (pace : Pace) → IsSound (turn_at remote S got p pace)
    at Acts = plan-sound remote (S.go p) p s
    at Awaits = heard (next_message got p)
    at HasEnded = s
    at (Stops r) = s

pub endpoint-sound : {C : Type 0} (S : Plans C) (got : List Message) (n : ℕ) (side : Side) (c : C) → IsSound (endpoint_run S got n (at_start side c))
endpoint-sound S got zero side c = start-sound side c
endpoint-sound S got (suc n) side c = turn-sound is_remote_by_messages S got (endpoint_run S got n (at_start side c)) (endpoint-sound S got n side c)
