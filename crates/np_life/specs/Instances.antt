-- The instances that were begun, as the list of their phases. (npfunctions.h, NPP_New and NPP_Destroy.)
use Rattle.std.specs.Prelude.{ℕ, ◌-◌, ◌==◌, ◌&&◌, List, [], ◌∷◌, Bool, true, false, if◌then◌else◌, slice_index_or, slice_set, IsTrue}
use Rattle.np_life.specs.declared.phase.Phase.{Phase}
use Rattle.np_life.specs.declared.phase.Phase.TheVariants.{Absent, Live, Destroying, Dead}

-- the phase of the instance with this number; instances are numbered from 1, and one that wasn't begun is absent
abbrev pub phase_of : List Phase → ℕ → Phase
phase_of phases number = if number == 0 then Absent else slice_index_or phases (number - 1) Absent

-- the instance that was begun with this number has this phase now
abbrev pub with_phase : List Phase → ℕ → Phase → List Phase
with_phase phases number phase = slice_set phases (number - 1) phase

abbrev pub is_begun : Phase → Bool
is_begun Absent = false
is_begun Live = true
is_begun Destroying = true
is_begun Dead = true

-- no instance that was begun is absent
abbrev pub are_begun : List Phase → Bool
are_begun [] = true
are_begun (phase ∷ phases) = is_begun phase && are_begun phases

-- a phase may follow on another: Absent, Live, Destroying, Dead, or Live, Dead; or it stays
abbrev pub follows : Phase → Phase → Bool
follows Absent Absent = true
follows Absent Live = true
follows Absent Destroying = false
follows Absent Dead = false
follows Live Absent = false
follows Live Live = true
follows Live Destroying = true
follows Live Dead = true
follows Destroying Absent = false
follows Destroying Live = false
follows Destroying Destroying = true
follows Destroying Dead = true
follows Dead Absent = false
follows Dead Live = false
follows Dead Destroying = false
follows Dead Dead = true

-- each instance keeps its phase, or takes one that may follow on it
abbrev pub NeverGoBack : List Phase → List Phase → Type 0
NeverGoBack old new = (number : ℕ) → IsTrue (follows (phase_of old number) (phase_of new number))
