-- The instances that a side knows: their phases, serials and slots. (npapi.h, NPP; serials and slots are this project's own.)
use Rattle.std.specs.Prelude.{ℕ, List, [], ◌∷◌, ◌++◌, Bool, true, false, if◌then◌else◌, ◌==◌}
use Rattle.np_values.specs.declared.value.Value.{Value}
use Rattle.np_life.specs.declared.phase.Phase.{Phase}
use Rattle.np_life.specs.declared.phase.Phase.TheVariants.{Absent, Live, Destroying, Dead}
use Rattle.np_machine.specs.declared.instance.Instance.{Instance}

-- ---- phases

-- the instance was torn down
abbrev pub is_dead_phase : Phase → Bool
is_dead_phase Absent = false
is_dead_phase Live = false
is_dead_phase Destroying = false
is_dead_phase Dead = true

-- the phase of the instance with this number, which is Absent where it was not begun
abbrev pub phase_in : ℕ → List Instance → Phase
phase_in n [] = Absent
phase_in n (i ∷ is) = if n == i.number then i.phase else phase_in n is

-- an instance with this number was begun
abbrev pub is_begun : ℕ → List Instance → Bool
is_begun n [] = false
is_begun n (i ∷ is) = if n == i.number then true else is_begun n is

-- the instance has this phase now
abbrev pub with_phase : ℕ → Phase → List Instance → List Instance
with_phase n phase [] = []
with_phase n phase (i ∷ is) = if n == i.number then (record i { phase = phase } ∷ is) else (i ∷ with_phase n phase is)

-- a live instance is being destroyed, and every other phase stays
abbrev pub destroying : Phase → Phase
destroying Absent = Absent
destroying Live = Destroying
destroying Destroying = Destroying
destroying Dead = Dead

-- the instance, where it is live, is being destroyed
abbrev pub destroy_in : ℕ → List Instance → List Instance
destroy_in n [] = []
destroy_in n (i ∷ is) = if n == i.number then (record i { phase = destroying i.phase } ∷ is) else (i ∷ destroy_in n is)

-- ---- serials

-- the serial of the object that was made last for the instance
abbrev pub serial_in : ℕ → List Instance → ℕ
serial_in n [] = 0
serial_in n (i ∷ is) = if n == i.number then i.serial else serial_in n is

-- the instance's last serial is this one now
abbrev pub with_serial : ℕ → ℕ → List Instance → List Instance
with_serial n serial [] = []
with_serial n serial (i ∷ is) = if n == i.number then (record i { serial = serial } ∷ is) else (i ∷ with_serial n serial is)

-- ---- slots

-- the slots of the instance
abbrev pub slots_in : ℕ → List Instance → List Value
slots_in n [] = []
slots_in n (i ∷ is) = if n == i.number then i.slots else slots_in n is

-- the instance has these slots now
abbrev pub with_slots : ℕ → List Value → List Instance → List Instance
with_slots n vs [] = []
with_slots n vs (i ∷ is) = if n == i.number then (record i { slots = vs } ∷ is) else (i ∷ with_slots n vs is)

-- the values of all slots
abbrev pub slot_values : List Instance → List Value
slot_values [] = []
slot_values (i ∷ is) = i.slots ++ slot_values is
