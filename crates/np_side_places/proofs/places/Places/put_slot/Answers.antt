use Rattle.std.proofs.Common.{ap}
use Rattle.np_side_places.specs.Placed.{Placed}
use Rattle.np_side_places.proofs.Steps.{slot-put, slot-old, slot-none}
use Rattle.np_side_places.proofs.places.Places.put_slot.Goals as goal

pub returns-in-Some-clause-state : goal.returns-in-Some-clause-state
returns-in-Some-clause-state c =
    slot-put c.args.self.now c.self.inside.registers c.self.inside.instances.items c.as_slice.result.now _ _ c.args.number c.in-Some.place c.args.slot c.args.value c.index_mut-instance.result.now _ c.self.view_is c.as_slice.ensures.value c.in-Some.ensures.found c.index_mut-instance.ensures.value c.put_at.ensures.list

pub returns-in-Some-clause-value : goal.returns-in-Some-clause-value
returns-in-Some-clause-value c =
    slot-old c.args.self.now c.self.inside.instances.items c.as_slice.result.now c.args.number c.in-Some.place c.args.slot c.args.value _ c.index_mut-instance.result.now (ap (λ (p : Placed). p.instances) c.self.view_is) c.as_slice.ensures.value c.in-Some.ensures.found c.index_mut-instance.ensures.value c.put_at.ensures.value

pub returns-in-None-clause-state : goal.returns-in-None-clause-state
returns-in-None-clause-state c =
    (slot-none c.args.self.now c.self.inside.instances.items c.as_slice.result.now c.args.number c.args.slot c.args.value (ap (λ (p : Placed). p.instances) c.self.view_is) c.as_slice.ensures.value c.in-None.ensures.found).0

pub returns-in-None-clause-value : goal.returns-in-None-clause-value
returns-in-None-clause-value c =
    (slot-none c.args.self.now c.self.inside.instances.items c.as_slice.result.now c.args.number c.args.slot c.args.value (ap (λ (p : Placed). p.instances) c.self.view_is) c.as_slice.ensures.value c.in-None.ensures.found).1
