use Rattle.std.proofs.Common.{sym, ap, ◌∙◌, refl}
use Rattle.np_objects.specs.LiveObjects.{fields_changed, fields_of}
use Rattle.np_objects.specs.Fields.{field_at, without_field}
use Rattle.np_objects.proofs.Finding.{edit-view, hit-seen, unchanged, missed, with_fields}
use Rattle.np_objects.proofs.NamesBeside.{edit-named}
use Rattle.np_objects.proofs.live.LiveObjects.remove_field.Goals as goal

pub invariant_of-self : goal.invariant_of-self
invariant_of-self c =
    edit-named c.args.name c.self.inside.names.items c.self.inside.objects.items c.args.self.now c.in-Some.place c.index_mut-object.result.now _ c.self.invariant (sym c.self.view_is) c.in-Some.ensures.found c.index_mut-object.ensures.value refl

pub returns-in-Some-clause-value : goal.returns-in-Some-clause-value
returns-in-Some-clause-value c =
    c.remove.ensures.value ∙ sym (ap (λ o. field_at c.args.key.now (fields_of o)) (hit-seen c.args.name c.self.inside.objects.items c.args.self.now _ c.in-Some.place c.index_mut-object.result.now c.self.view_is c.self.invariant.rising (sym c.self.view_is) c.in-Some.ensures.found c.index_mut-object.ensures.value))

pub returns-in-Some-clause-list : goal.returns-in-Some-clause-list
returns-in-Some-clause-list c =
    edit-view c.args.name (fields_changed (without_field c.args.key.now)) c.self.inside.objects.items c.args.self.now _ c.in-Some.place c.index_mut-object.result.now _ c.self.view_is c.self.invariant.rising (sym c.self.view_is) c.in-Some.ensures.found c.index_mut-object.ensures.value (ap (λ fs. with_fields c.index_mut-object.result.now fs) c.remove.ensures.list)

pub returns-in-None-clause-list : goal.returns-in-None-clause-list
returns-in-None-clause-list c =
    sym (unchanged c.args.name (fields_changed (without_field c.args.key.now)) c.args.self.now (missed c.args.name c.self.inside.objects.items c.args.self.now _ c.self.view_is (sym c.self.view_is) c.in-None.ensures.found))
