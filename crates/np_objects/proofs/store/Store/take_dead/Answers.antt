use Rattle.np_objects.proofs.Keeping.{kept-take}
use Rattle.np_objects.proofs.store.Store.take_dead.Goals as goal

pub invariant_of-self : goal.invariant_of-self
invariant_of-self c =
    kept-take c.self.inside.side c.self.inside.instances c.args.name c.self.inside.live c.take.new.self c.take.ensures.list c.self.invariant
