use Rattle.std.proofs.Common.{false, sym, ap, ◌∙◌, refl}
use Rattle.np_objects.specs.LiveObjects.{pin_set, is_free_of, object_at}
use Rattle.np_objects.proofs.Finding.{edit-view, hit-seen, edited-at}
use Rattle.np_objects.proofs.NamesBeside.{edit-named}
use Rattle.np_objects.proofs.live.LiveObjects.unpin.Goals as goal

pub invariant_of-self : goal.invariant_of-self
invariant_of-self c =
    edit-named c.args.name c.self.inside.names.items c.self.inside.objects.items c.args.self.now c.place_of-place.result c.index_mut-object.result.now _ c.self.invariant (sym c.self.view_is) c.place_of-place.ensures.at c.index_mut-object.ensures.value refl

pub returns-clause-value : goal.returns-clause-value
returns-clause-value c =
    edit-view c.args.name (pin_set false) c.self.inside.objects.items c.args.self.now _ c.place_of-place.result c.index_mut-object.result.now _ c.self.view_is c.self.invariant.rising (sym c.self.view_is) c.place_of-place.ensures.at c.index_mut-object.ensures.value refl

pub returns-clause-free : goal.returns-clause-free
returns-clause-free c =
    let seen = hit-seen c.args.name c.self.inside.objects.items c.args.self.now _ c.place_of-place.result c.index_mut-object.result.now c.self.view_is c.self.invariant.rising (sym c.self.view_is) c.place_of-place.ensures.at c.index_mut-object.ensures.value in
    let edit = edit-view c.args.name (pin_set false) c.self.inside.objects.items c.args.self.now _ c.place_of-place.result c.index_mut-object.result.now (pin_set false c.index_mut-object.result.now) c.self.view_is c.self.invariant.rising (sym c.self.view_is) c.place_of-place.ensures.at c.index_mut-object.ensures.value refl in
    c.is_free.ensures.value ∙ sym (ap (λ l. is_free_of (object_at c.args.name l)) edit ∙ ap is_free_of (edited-at c.args.name (pin_set false) _ _ (λ o. refl) seen))
