use Rattle.std.proofs.Common.{refl}
use Rattle.np_objects.specs.LiveObjects.{raised}
use Rattle.np_objects.proofs.Keeping.{kept-edit}
use Rattle.np_objects.proofs.store.Store.hold.Goals as goal

pub invariant_of-self : goal.invariant_of-self
invariant_of-self c =
    kept-edit c.self.inside.side c.self.inside.instances c.args.name raised c.self.inside.live c.hold.new.self (λ o. refl) c.hold.ensures.value c.self.invariant
