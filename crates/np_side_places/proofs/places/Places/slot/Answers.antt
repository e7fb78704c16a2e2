use Rattle.std.proofs.Common.{◌∙◌, ◌≡◌, sym, ap, subst, IfOk}
use Rattle.np_machine.specs.Values.{read_at}
use Rattle.np_machine.specs.Instances.{slots_in}
use Rattle.np_side_places.specs.Placed.{Placed}
use Rattle.np_side_places.proofs.Numbers.{first-slots, none-on}
use Rattle.np_side_places.proofs.places.Places.slot.Goals as goal

pub returns-in-Some : goal.returns-in-Some
returns-in-Some c =
    let e = first-slots c.args.number c.as_slice.result.now c.self.inside.instances.items c.in-Some.place c.index.result.now c.as_slice.ensures.value c.in-Some.ensures.found c.index.ensures in
    let v = ap (λ (p : Placed). slots_in c.args.number p.instances) c.self.view_is in
    subst (λ l. IfOk c.copy_at.result (λ v. v ≡ read_at c.args.slot l)) (sym e ∙ v) c.copy_at.ensures.value

pub returns-in-None : goal.returns-in-None
returns-in-None c =
    let a = none-on c.args.number c.as_slice.result.now c.self.inside.instances.items c.as_slice.ensures.value c.in-None.ensures.found in
    let v = ap (λ (p : Placed). read_at c.args.slot (slots_in c.args.number p.instances)) c.self.view_is in
    sym (ap (λ l. read_at c.args.slot l) a.slots) ∙ v
