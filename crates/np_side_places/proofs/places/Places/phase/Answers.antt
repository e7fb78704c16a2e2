use Rattle.std.proofs.Common.{◌∙◌, sym, ap}
use Rattle.np_machine.specs.Instances.{phase_in}
use Rattle.np_side_places.specs.Placed.{Placed}
use Rattle.np_side_places.proofs.Numbers.{first-phase, none-on}
use Rattle.np_side_places.proofs.places.Places.phase.Goals as goal

pub returns-in-Some : goal.returns-in-Some
returns-in-Some c =
    let e = first-phase c.args.number c.as_slice.result.now c.self.inside.instances.items c.in-Some.place c.index.result.now c.as_slice.ensures.value c.in-Some.ensures.found c.index.ensures in
    record { value = sym e ∙ ap (λ (p : Placed). phase_in c.args.number p.instances) c.self.view_is }

pub returns-in-None : goal.returns-in-None
returns-in-None c =
    let a = none-on c.args.number c.as_slice.result.now c.self.inside.instances.items c.as_slice.ensures.value c.in-None.ensures.found in
    record { value = sym a.phase ∙ ap (λ (p : Placed). phase_in c.args.number p.instances) c.self.view_is }
