use Rattle.std.proofs.Common.{true, refl}
use Rattle.np_objects.specs.LiveObjects.{pin_set}
use Rattle.np_objects.proofs.Keeping.{kept-edit}
use Rattle.np_objects.proofs.store.Store.pin.Goals as goal

pub invariant_of-self : goal.invariant_of-self
invariant_of-self c =
    kept-edit c.self.inside.side c.self.inside.instances c.args.name (pin_set true) c.self.inside.live c.pin.new.self (λ o. refl) c.pin.ensures.value c.self.invariant
