-- What a change of one instance leaves of the others. (This project's own.)
use Rattle.std.specs.Prelude.{◌≡◌, ◌≢◌, ℕ, ◌+◌, ◌==◌, List, [], ◌∷◌, ◌++◌, length, if◌then◌else◌}
use Rattle.np_life.specs.declared.phase.Phase.{Phase}
use Rattle.np_life.specs.declared.phase.Phase.TheVariants.{Absent, Live}
use Rattle.np_life.specs.Instances.{phase_of, with_phase}

-- an instance that takes a phase leaves every other one its own
abbrev pub OnePhaseChanges : Type 0
OnePhaseChanges = (phases : List Phase) (changed number : ℕ) (phase : Phase) → phase_of phases changed ≢ Absent
    → phase_of (with_phase phases changed phase) number ≡ (if number == changed then phase else phase_of phases number)

-- and so does one that is begun
abbrev pub OneIsBegun : Type 0
OneIsBegun = (phases : List Phase) (number : ℕ) → phase_of (phases ++ Live ∷ []) number ≡ (if number == length phases + 1 then Live else phase_of phases number)
