use Rattle.std.proofs.Common.{refl}
use Rattle.np_objects.specs.LiveObjects.{fields_changed}
use Rattle.np_objects.specs.Fields.{fields_set}
use Rattle.np_objects.proofs.Keeping.{kept-tried}
use Rattle.np_objects.proofs.store.Store.set_field.Goals as goal

pub invariant_of-self : goal.invariant_of-self
invariant_of-self c =
    kept-tried c.set_field.result c.self.inside.side c.self.inside.instances c.args.name (fields_changed (fields_set c.args.key.now c.args.value)) c.self.inside.live c.set_field.new.self (λ o. refl) c.set_field.ensures.ok c.set_field.ensures.err c.self.invariant
