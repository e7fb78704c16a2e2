use Rattle.std.proofs.Common.{refl}
use Rattle.np_objects.specs.LiveObjects.{fields_changed}
use Rattle.np_objects.specs.Fields.{without_field}
use Rattle.np_objects.proofs.Keeping.{kept-edit}
use Rattle.np_objects.proofs.store.Store.remove_field.Goals as goal

pub invariant_of-self : goal.invariant_of-self
invariant_of-self c =
    kept-edit c.self.inside.side c.self.inside.instances c.args.name (fields_changed (without_field c.args.key.now)) c.self.inside.live c.remove_field.new.self (λ o. refl) c.remove_field.ensures.list c.self.invariant
