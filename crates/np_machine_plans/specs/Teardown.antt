-- The teardown of an instance on one side. (npfunctions.h, NPP_Destroy; the order is this project's own.)
use Rattle.std.specs.Prelude.{Bool, List, [], false, if◌then◌else◌, suc, true, zero, ℕ, ◌++◌, ◌+◌, ◌∷◌}
use Rattle.np_values.specs.declared.value.Value.TheVariants as values
use Rattle.np_life.specs.declared.phase.Phase.TheVariants as phases
use Rattle.np_life.specs.declared.phase.Phase.{Phase}
use Rattle.np_machine.specs.declared.place.Place.TheVariants.{Slot}
use Rattle.np_machine.specs.declared.step.Step.TheVariants.{Constant, Deallocate, Drop, Put, TearDown}
use Rattle.np_machine.specs.declared.step.Step.{Step}
use Rattle.np_machine_plans.specs.View.{SideView, is_dead}

-- slots are set to Void, so many from this one on; what they held is dropped
abbrev pub empty_slots : ℕ → ℕ → ℕ → List Step
empty_slots instance zero slot = []
empty_slots instance (suc left) slot = Constant values.Void ∷ (Put (Slot instance slot) ∷ (Drop ∷ empty_slots instance left (slot + 1)))

-- Its proxies and objects are invalidated, its slots 0 to 7 and its window slot are emptied, and then what is queued is deallocated.
abbrev pub teardown_steps : ℕ → List Step
teardown_steps instance = TearDown instance ∷ (empty_slots instance 9 0 ++ Deallocate ∷ [])

-- an instance is torn down at most once on each side
abbrev pub teardown_once : SideView → ℕ → List Step
teardown_once p instance = if is_dead p instance then [] else teardown_steps instance

-- NPP_New and the requests of an instance need it to be live
abbrev pub is_live : Phase → Bool
is_live phases.Live = true
is_live phase = false
