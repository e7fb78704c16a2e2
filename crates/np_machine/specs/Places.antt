-- What a place holds, and how a value is put there. (This project's own.)
use Rattle.std.specs.Prelude.{List, [], ◌∷◌, if◌then◌else◌}
use Rattle.np_values.specs.declared.value.Value.{Value}
use Rattle.np_machine.specs.declared.place.Place.{Place}
use Rattle.np_machine.specs.declared.place.Place.TheVariants.{Register, PageRegister, Slot, PropertyOf, This}
use Rattle.np_machine.specs.Values.{read_at, put_at, old_at}
use Rattle.np_machine.specs.Instances.{slots_in, with_slots}
use Rattle.np_machine.specs.Objects.{property_at, put_property, has_object, properties_of, with_properties}
use Rattle.np_machine.specs.Frames.{this_of, registers_of, with_registers}
use Rattle.np_machine.specs.Side.{SideState}

-- the value in the place
abbrev pub read : {C : Type 0} → Place → SideState C → Value
read (Register i) p = read_at i (registers_of p.frames)
read (PageRegister i) p = read_at i p.registers
read (Slot n i) p = read_at i (slots_in n p.instances)
read (PropertyOf y key) p = property_at key (properties_of y p.objects)
read This p = this_of p.frames

-- The value goes into the place, and what was there comes in flight, before the rest. A property of an object that isn't there can't be set, nor can the object of a frame.
abbrev pub exchange : {C : Type 0} → Place → Value → List Value → SideState C → SideState C
exchange (Register i) v rest p =
    record p { frames = with_registers (put_at i v (registers_of p.frames)) p.frames; in_flight = old_at i v (registers_of p.frames) ∷ rest }
exchange (PageRegister i) v rest p = record p { registers = put_at i v p.registers; in_flight = old_at i v p.registers ∷ rest }
exchange (Slot n i) v rest p =
    record p { instances = with_slots n (put_at i v (slots_in n p.instances)) p.instances; in_flight = old_at i v (slots_in n p.instances) ∷ rest }
exchange (PropertyOf y key) v rest p =
    if has_object y p.objects then record p { objects = with_properties y (put_property key v (properties_of y p.objects)) p.objects; in_flight = property_at key (properties_of y p.objects) ∷ rest } else p
exchange This v rest p = p

-- the next value in flight and the place's change places
abbrev pub put_next : {C : Type 0} → Place → List Value → SideState C → SideState C
put_next place [] p = p
put_next place (v ∷ rest) p = exchange place v rest p
