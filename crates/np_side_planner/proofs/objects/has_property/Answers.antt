use Rattle.std.proofs.Common.{◌∙◌, ap, is_some}
use Rattle.np_objects.specs.Objects.{fields_in}
use Rattle.np_side_planner.proofs.StoredObjectLemmas.{has-property}
use Rattle.np_side_planner.proofs.objects.has_property.Goals as goal

pub returns-in-Some : goal.returns-in-Some
returns-in-Some c = record { value = ap is_some c.in-Some.ensures.value ∙ has-property c.args.key.now (fields_in c.args.name c.args.store.now) }

pub returns-in-None : goal.returns-in-None
returns-in-None c = record { value = ap is_some c.in-None.ensures.value ∙ has-property c.args.key.now (fields_in c.args.name c.args.store.now) }
