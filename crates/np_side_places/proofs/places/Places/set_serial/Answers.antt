use Rattle.std.proofs.Common.{◌∙◌, sym, ap, reverse}
use Rattle.np_side_places.specs.Placed.{serial_set}
use Rattle.np_side_places.proofs.Numbers.{first-put-serial, none-on}
use Rattle.np_side_places.proofs.places.Places.set_serial.Goals as goal

pub returns-in-Some : goal.returns-in-Some
returns-in-Some c =
    let e = first-put-serial c.args.number c.as_slice.result.now c.self.inside.instances.items c.in-Some.place c.index_mut-instance.result.now c.args.serial c.as_slice.ensures.value c.in-Some.ensures.found c.index_mut-instance.ensures.value in
    record { state = ap (λ l. record { registers = c.self.inside.registers; instances = l; frames = reverse c.self.inside.frames.items; in_flight = reverse c.self.inside.in_flight.items }) e ∙ ap (serial_set c.args.number c.args.serial) c.self.view_is }

pub returns-in-None : goal.returns-in-None
returns-in-None c =
    let a = none-on c.args.number c.as_slice.result.now c.self.inside.instances.items c.as_slice.ensures.value c.in-None.ensures.found in
    record { state = sym c.self.view_is ∙ sym (ap (λ l. record { registers = c.self.inside.registers; instances = l; frames = reverse c.self.inside.frames.items; in_flight = reverse c.self.inside.in_flight.items }) (a.serial c.args.serial)) ∙ ap (serial_set c.args.number c.args.serial) c.self.view_is }
