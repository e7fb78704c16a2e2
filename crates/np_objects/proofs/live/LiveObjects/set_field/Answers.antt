use Rattle.std.proofs.Common.{◌≡◌, subst, sym, ap, refl, true, IfOk, OnErr}
use Rattle.std.proofs.lemmas.Result.{IfOk-weaker}
use Rattle.np_objects.specs.LiveObjects.{fields_changed, fields_of}
use Rattle.np_objects.specs.Fields.{fields_set, set_outcome, is_new_for}
use Rattle.np_objects.proofs.Finding.{edit-view, hit-seen, with_fields}
use Rattle.np_objects.proofs.NamesBeside.{edit-named}
use Rattle.np_objects.proofs.live.LiveObjects.set_field.Goals as goal

pub invariant_of-self : goal.invariant_of-self
invariant_of-self c =
    edit-named c.args.name c.self.inside.names.items c.self.inside.objects.items c.args.self.now c.place_of-place.result c.index_mut-object.result.now _ c.self.invariant (sym c.self.view_is) c.place_of-place.ensures.at c.index_mut-object.ensures.value refl

pub returns-clause-outcome : goal.returns-clause-outcome
returns-clause-outcome c =
    let seen = hit-seen c.args.name c.self.inside.objects.items c.args.self.now _ c.place_of-place.result c.index_mut-object.result.now c.self.view_is c.self.invariant.rising (sym c.self.view_is) c.place_of-place.ensures.at c.index_mut-object.ensures.value in
    subst (λ fs. IfOk c.set.result (λ r. r ≡ set_outcome c.args.key.now c.args.value fs)) (sym (ap fields_of seen)) c.set.ensures.outcome

pub returns-clause-ok : goal.returns-clause-ok
returns-clause-ok c =
    IfOk-weaker c.set.result _ _ (λ _ h. edit-view c.args.name (fields_changed (fields_set c.args.key.now c.args.value)) c.self.inside.objects.items c.args.self.now _ c.place_of-place.result c.index_mut-object.result.now _ c.self.view_is c.self.invariant.rising (sym c.self.view_is) c.place_of-place.ensures.at c.index_mut-object.ensures.value (ap (λ fs. with_fields c.index_mut-object.result.now fs) h)) c.set.ensures.ok

pub returns-clause-memory : goal.returns-clause-memory
returns-clause-memory c =
    let seen = hit-seen c.args.name c.self.inside.objects.items c.args.self.now _ c.place_of-place.result c.index_mut-object.result.now c.self.view_is c.self.invariant.rising (sym c.self.view_is) c.place_of-place.ensures.at c.index_mut-object.ensures.value in
    subst (λ fs. OnErr c.set.result (is_new_for c.args.key.now fs ≡ true)) (sym (ap fields_of seen)) c.set.ensures.memory
