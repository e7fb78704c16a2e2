use Rattle.std.proofs.Common.{sym, arith, ap, refl}
use Rattle.np_objects.specs.LiveObjects.{raised, holds_of}
use Rattle.np_objects.proofs.Finding.{edit-view, hit-seen}
use Rattle.np_objects.proofs.NamesBeside.{edit-named}
use Rattle.np_objects.proofs.live.LiveObjects.hold.Goals as goal

pub overflow_add-object : goal.overflow_add-object
overflow_add-object c =
    let seen = hit-seen c.args.name c.self.inside.objects.items c.args.self.now _ c.place_of-place.result c.index_mut-object.result.now c.self.view_is c.self.invariant.rising (sym c.self.view_is) c.place_of-place.ensures.at c.index_mut-object.ensures.value in
    omega (arith, ap holds_of seen, c.requires.room)

pub invariant_of-self : goal.invariant_of-self
invariant_of-self c =
    edit-named c.args.name c.self.inside.names.items c.self.inside.objects.items c.args.self.now c.place_of-place.result c.index_mut-object.result.now _ c.self.invariant (sym c.self.view_is) c.place_of-place.ensures.at c.index_mut-object.ensures.value refl

pub returns : goal.returns
returns c = record { value = edit-view c.args.name raised c.self.inside.objects.items c.args.self.now _ c.place_of-place.result c.index_mut-object.result.now _ c.self.view_is c.self.invariant.rising (sym c.self.view_is) c.place_of-place.ensures.at c.index_mut-object.ensures.value refl }
