use Rattle.std.proofs.Common.{◌∙◌, sym, ap}
use Rattle.np_machine.specs.Instances.{serial_in, is_begun}
use Rattle.np_side_places.specs.Placed.{Placed}
use Rattle.np_side_places.proofs.Numbers.{first-serial, none-on}
use Rattle.np_side_places.proofs.places.Places.serial.Goals as goal

pub returns-in-Some : goal.returns-in-Some
returns-in-Some c =
    let e = first-serial c.args.number c.as_slice.result.now c.self.inside.instances.items c.in-Some.place c.index.result.now c.as_slice.ensures.value c.in-Some.ensures.found c.index.ensures in
    record { value = (e.0 ∙ ap (λ (p : Placed). serial_in c.args.number p.instances) c.self.view_is, ap (λ (p : Placed). is_begun c.args.number p.instances) (sym c.self.view_is) ∙ e.1) }

pub returns-in-None : goal.returns-in-None
returns-in-None c =
    let a = none-on c.args.number c.as_slice.result.now c.self.inside.instances.items c.as_slice.ensures.value c.in-None.ensures.found in
    record { value = ap (λ (p : Placed). is_begun c.args.number p.instances) (sym c.self.view_is) ∙ a.begun }
