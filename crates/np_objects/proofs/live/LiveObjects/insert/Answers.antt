use Rattle.std.proofs.Common.{◌≡◌, ap, ◌∙◌, sym, false}
use Rattle.std.specs.List.{insert}
use Rattle.np_objects.specs.LiveObjects.{object_at, with_object, fresh}
use Rattle.np_objects.specs.declared.object.LiveObject.{LiveObject}
use Rattle.np_objects.proofs.Finding.{put-view, put-seen}
use Rattle.np_objects.proofs.NamesBeside.{put-named}
use Rattle.np_objects.proofs.live.LiveObjects.insert.Goals as goal

pub invariant_of-self : goal.invariant_of-self
invariant_of-self c = rw (c.in_err-put_beside.ensures.same_names, c.in_err-put_beside.ensures.same_objects) c.self.invariant

pub invariant_of-self-2 : goal.invariant_of-self-2
invariant_of-self-2 c =
    rw (c.in_ok-put_beside.ensures.names, c.in_ok-put_beside.ensures.objects) (put-named c.self.inside.names.items c.self.inside.objects.items c.args.self.now c.count_before-place.result _ c.self.view_is c.self.invariant c.requires.absent c.count_before-place.ensures.parts c.count_before-place.ensures.within)

pub returns-clause-ok : goal.returns-clause-ok
returns-clause-ok c =
    let w : LiveObject = record { name = c.args.name; class = c.args.class; fields = c.new.result; holds = 0; pinned = false } in
    let e : c.put_beside.new.objects.items ≡ insert c.self.inside.objects.items c.count_before-place.result w = c.in_ok-put_beside.ensures.objects in
    e ∙ put-view c.self.inside.objects.items c.args.self.now c.args.self.now c.count_before-place.result w c.self.view_is c.self.invariant.rising (sym c.self.view_is) c.requires.absent c.count_before-place.ensures.parts.0 c.count_before-place.ensures.parts.1 c.count_before-place.ensures.within ∙ ap (λ fs. with_object (record { name = c.args.name; class = c.args.class; fields = fs; holds = 0; pinned = false }) c.args.self.now) c.new.ensures.value

pub returns-clause-object : goal.returns-clause-object
returns-clause-object c =
    let e = returns-clause-ok c in
    ap (object_at c.args.name) e ∙ put-seen (fresh c.args.name c.args.class) c.args.self.now c.requires.absent
