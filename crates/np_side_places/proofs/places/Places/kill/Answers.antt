use Rattle.std.proofs.Common.{◌∙◌, sym, ap, reverse}
use Rattle.np_life.specs.declared.phase.Phase.TheVariants.{Dead}
use Rattle.np_side_places.specs.Placed.{phase_set}
use Rattle.np_side_places.proofs.Numbers.{first-put-phase, none-on}
use Rattle.np_side_places.proofs.places.Places.kill.Goals as goal

pub returns-in-Some : goal.returns-in-Some
returns-in-Some c =
    let e = first-put-phase c.args.number c.as_slice.result.now c.self.inside.instances.items c.in-Some.place c.index_mut-instance.result.now Dead c.as_slice.ensures.value c.in-Some.ensures.found c.index_mut-instance.ensures.value in
    record { state = ap (λ l. record { registers = c.self.inside.registers; instances = l; frames = reverse c.self.inside.frames.items; in_flight = reverse c.self.inside.in_flight.items }) e ∙ ap (phase_set c.args.number Dead) c.self.view_is }

pub returns-in-None : goal.returns-in-None
returns-in-None c =
    let a = none-on c.args.number c.as_slice.result.now c.self.inside.instances.items c.as_slice.ensures.value c.in-None.ensures.found in
    record { state = sym c.self.view_is ∙ sym (ap (λ l. record { registers = c.self.inside.registers; instances = l; frames = reverse c.self.inside.frames.items; in_flight = reverse c.self.inside.in_flight.items }) (a.phase_put Dead)) ∙ ap (phase_set c.args.number Dead) c.self.view_is }
