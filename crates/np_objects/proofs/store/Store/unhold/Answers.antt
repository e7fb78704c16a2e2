use Rattle.std.proofs.Common.{refl}
use Rattle.np_objects.specs.LiveObjects.{lowered}
use Rattle.np_objects.proofs.Keeping.{kept-edit}
use Rattle.np_objects.proofs.store.Store.unhold.Goals as goal

pub invariant_of-self : goal.invariant_of-self
invariant_of-self c =
    kept-edit c.self.inside.side c.self.inside.instances c.args.name lowered c.self.inside.live c.unhold.new.self (λ o. refl) c.unhold.ensures.value c.self.invariant
