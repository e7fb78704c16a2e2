use Rattle.std.proofs.Common.{sym, ap, ◌∙◌}
use Rattle.np_objects.specs.LiveObjects.{fields_of}
use Rattle.np_objects.proofs.Finding.{gone-is, hit-seen, gone-view}
use Rattle.np_objects.proofs.NamesBeside.{gone-named}
use Rattle.np_objects.proofs.live.LiveObjects.take.Goals as goal

pub invariant_of-self : goal.invariant_of-self
invariant_of-self c = rw (c.remove-2.ensures.items, c.remove.ensures.items) (gone-named c.self.inside.names.items c.self.inside.objects.items c.place_of-place.result c.self.invariant)

pub returns-clause-value : goal.returns-clause-value
returns-clause-value c =
    sym (ap fields_of (hit-seen c.args.name c.self.inside.objects.items c.args.self.now _ c.place_of-place.result c.remove-2.result c.self.view_is c.self.invariant.rising (sym c.self.view_is) c.place_of-place.ensures.at c.remove-2.ensures.value))

pub returns-clause-list : goal.returns-clause-list
returns-clause-list c =
    c.remove-2.ensures.items ∙ gone-view c.args.name c.self.inside.objects.items c.args.self.now _ c.place_of-place.result c.self.view_is c.self.invariant.rising (sym c.self.view_is) c.place_of-place.ensures.at c.remove-2.result

pub returns-clause-gone : goal.returns-clause-gone
returns-clause-gone c =
    rw c.remove-2.ensures.items (gone-is c.args.name c.self.inside.objects.items c.args.self.now c.place_of-place.result c.self.invariant.rising (sym c.self.view_is) c.place_of-place.ensures.at c.remove-2.result)
