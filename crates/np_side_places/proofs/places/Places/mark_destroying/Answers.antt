use Rattle.std.proofs.Common.{◌∙◌, sym, ap, reverse}
use Rattle.std.proofs.Math.ListN.{set}
use Rattle.np_side_places.specs.Placed.{marked_destroying}
use Rattle.np_side_places.proofs.Numbers.{first-destroyed, none-on}
use Rattle.np_side_places.proofs.places.Places.mark_destroying.Goals as goal

pub returns-in-Some : goal.returns-in-Some
returns-in-Some c =
    let i = c.index_mut-instance.result.now in
    let e = first-destroyed c.args.number c.as_slice.result.now c.self.inside.instances.items c.in-Some.place i c.as_slice.ensures.value c.in-Some.ensures.found c.index_mut-instance.ensures.value in
    record { state = ap (λ f. record { registers = c.self.inside.registers; instances = set c.self.inside.instances.items c.in-Some.place (record i { phase = f }); frames = reverse c.self.inside.frames.items; in_flight = reverse c.self.inside.in_flight.items }) c.destroying_phase-instance.ensures ∙ ap (λ l. record { registers = c.self.inside.registers; instances = l; frames = reverse c.self.inside.frames.items; in_flight = reverse c.self.inside.in_flight.items }) e ∙ ap (marked_destroying c.args.number) c.self.view_is }

pub returns-in-None : goal.returns-in-None
returns-in-None c =
    let a = none-on c.args.number c.as_slice.result.now c.self.inside.instances.items c.as_slice.ensures.value c.in-None.ensures.found in
    record { state = sym c.self.view_is ∙ sym (ap (λ l. record { registers = c.self.inside.registers; instances = l; frames = reverse c.self.inside.frames.items; in_flight = reverse c.self.inside.in_flight.items }) a.destroy) ∙ ap (marked_destroying c.args.number) c.self.view_is }
