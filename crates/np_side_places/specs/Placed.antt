-- The places of a side that are no properties of objects, and what changes them. (This project's own.)
use Rattle.std.specs.Prelude.{◌≡◌, ℕ, ◌-◌, List, [], ◌∷◌, ◌++◌, take, drop, Option, Some, None, false}
use Rattle.np_values.specs.declared.value.Value.{Value}
use Rattle.np_values.specs.declared.value.Value.TheVariants as values
use Rattle.np_life.specs.declared.phase.Phase.{Phase}
use Rattle.np_life.specs.declared.phase.Phase.TheVariants.{Live}
use Rattle.np_machine.specs.declared.instance.Instance.{Instance}
use Rattle.np_machine.specs.declared.frame.Entry.{Entry}
use Rattle.np_machine.specs.declared.frame.Frame.{Frame}
use Rattle.np_machine.specs.declared.frame.Progress.{Progress}
use Rattle.np_machine.specs.declared.place.Place.{Place}
use Rattle.np_machine.specs.declared.place.Place.TheVariants.{Register, PageRegister, Slot, PropertyOf, This}
use Rattle.np_machine.specs.Values.{voids, read_at, put_at, old_at, next_value, moved_after}
use Rattle.np_machine.specs.Instances.{slots_in, with_slots, with_serial, with_phase, destroy_in}
use Rattle.np_machine.specs.Frames.{this_of, registers_of, with_registers, with_progress}

pub record Placed : Type 0 where
  pub registers : List Value  -- of the page's commands
  pub instances : List Instance  -- in the order in which they were begun
  pub frames : List Frame  -- the newest first
  pub in_flight : List Value  -- the next one first

-- nothing but the registers of the commands
abbrev pub at_first : List Value → Placed
at_first registers = record { registers = registers; instances = []; frames = []; in_flight = [] }

-- ---- values in flight

-- the value is the next one in flight
abbrev pub pushed : Value → Placed → Placed
pushed v p = record p { in_flight = v ∷ p.in_flight }

-- the next value leaves the flight, if there is one
abbrev pub Popped : Placed → Placed → Option Value → Type 0
Popped p q None = (p.in_flight ≡ []) × (q ≡ p)
Popped p q (Some v) = p ≡ pushed v q

-- so many values leave the flight
abbrev pub dropped : ℕ → Placed → Placed
dropped n p = record p { in_flight = drop n p.in_flight }

-- these values are the next ones in flight
abbrev pub all_pushed : List Value → Placed → Placed
all_pushed vs p = record p { in_flight = vs ++ p.in_flight }

-- the next value goes after so many others
abbrev pub moved : ℕ → Placed → Placed
moved n p = record p { in_flight = moved_after n p.in_flight }

-- ---- places

-- the value in a place, which is none of an object's properties
abbrev pub read_placed : Place → Placed → Value
read_placed (Register i) p = read_at i (registers_of p.frames)
read_placed (PageRegister i) p = read_at i p.registers
read_placed (Slot n i) p = read_at i (slots_in n p.instances)
read_placed (PropertyOf y key) p = values.Void
read_placed This p = this_of p.frames

-- the value is in the place
abbrev pub put_placed : Place → Value → Placed → Placed
put_placed (Register i) v p = record p { frames = with_registers (put_at i v (registers_of p.frames)) p.frames }
put_placed (PageRegister i) v p = record p { registers = put_at i v p.registers }
put_placed (Slot n i) v p = record p { instances = with_slots n (put_at i v (slots_in n p.instances)) p.instances }
put_placed (PropertyOf y key) v p = p
put_placed This v p = p

-- what comes out when the value is put into the place: what was there, or the value itself
abbrev pub old_placed : Place → Value → Placed → Value
old_placed (Register i) v p = old_at i v (registers_of p.frames)
old_placed (PageRegister i) v p = old_at i v p.registers
old_placed (Slot n i) v p = old_at i v (slots_in n p.instances)
old_placed (PropertyOf y key) v p = v
old_placed This v p = v

-- ---- instances

-- an instance begins, and is live
abbrev pub begun : ℕ → List Value → Placed → Placed
begun n slots p = record p { instances = p.instances ++ record { number = n; phase = Live; serial = 0; slots = slots } ∷ [] }

-- the object that was made last for the instance has this serial
abbrev pub serial_set : ℕ → ℕ → Placed → Placed
serial_set n serial p = record p { instances = with_serial n serial p.instances }

-- the instance has this phase
abbrev pub phase_set : ℕ → Phase → Placed → Placed
phase_set n phase p = record p { instances = with_phase n phase p.instances }

-- the instance, where it is live, is being destroyed
abbrev pub marked_destroying : ℕ → Placed → Placed
marked_destroying n p = record p { instances = destroy_in n p.instances }

-- ---- frames

-- a frame is pushed, with its arguments and its object from flight
abbrev pub entered : ℕ → Entry → Placed → Placed
entered n entry p = record p {
  frames = record {
    instance = entry.instance;
    depth = entry.depth;
    caller = entry.caller;
    body = entry.body;
    this = next_value (drop n p.in_flight);
    registers = take n p.in_flight ++ voids (16 - n);
    progress = record { flag = false; exception = None; done = 0; awaits = None };
  } ∷ p.frames;
  in_flight = drop 1 (drop n p.in_flight);
}

-- the newest of these frames is popped: its places are in flight, after so many values
abbrev pub left : ℕ → List Frame → Placed → Placed
left n [] p = p
left n (a ∷ rest) p = record p { frames = rest; in_flight = take n p.in_flight ++ (a.registers ++ (a.this ∷ drop n p.in_flight)) }

-- the newest frame's progress is changed
abbrev pub progressed : (Progress → Progress) → Placed → Placed
progressed change p = record p { frames = with_progress change p.frames }
