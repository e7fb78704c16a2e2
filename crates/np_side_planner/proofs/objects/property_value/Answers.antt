use Rattle.std.proofs.Common.{◌≡◌, ◌∙◌, ap, subst, IfOk}
use Rattle.np_values.specs.declared.value.Value.{Value}
use Rattle.np_objects.specs.Fields.{or_void}
use Rattle.np_objects.specs.Objects.{fields_in}
use Rattle.np_side_planner.proofs.StoredObjectLemmas.{property-found}
use Rattle.np_side_planner.proofs.objects.property_value.Goals as goal

pub returns-in-Some : goal.returns-in-Some
returns-in-Some c =
    let e = ap or_void c.in-Some.ensures.value ∙ property-found c.args.key.now (fields_in c.args.name c.args.store.now) in
    record { value = subst (λ (w : Value). IfOk c.try_copy.result (λ v. v ≡ w)) e c.try_copy.ensures.value }

pub returns-in-None : goal.returns-in-None
returns-in-None c = record { value = ap or_void c.in-None.ensures.value ∙ property-found c.args.key.now (fields_in c.args.name c.args.store.now) }
