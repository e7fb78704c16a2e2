use Rattle.std.proofs.Common.{arith, ap, ◌∙◌, length, refl}
use Rattle.np_values.specs.Name.{is_before}
use Rattle.np_objects.specs.declared.object.LiveObject.{LiveObject}
use Rattle.np_objects.proofs.Finding.{missing, hit_there, not_there, hit-on, missed}
use Rattle.np_objects.proofs.NamesBeside.{parts-on}
use Rattle.np_objects.proofs.live.LiveObjects.find.Goals as goal

pub returns-then-place-len : goal.returns-then-place-len
returns-then-place-len c =
    let v = ap length c.self.view_is in
    record { found = missing c.args.name c.args.self.now c.count_before-place.result c.count_before-place.ensures.rising c.count_before-place.ensures.parts.0 c.count_before-place.ensures.parts.1 (λ d l q. absurd (omega (arith, v))) }

pub returns-then-before : goal.returns-then-before
returns-then-before c =
    let v = ap length c.self.view_is in
    let h = parts-on c.args.name c.self.inside.objects.items c.args.self.now c.count_before-place.result c.self.view_is c.count_before-place.ensures.parts in
    record { found = missed c.args.name c.self.inside.objects.items c.self.inside.objects.items c.args.self.now c.self.view_is refl (not_there c.args.name c.self.inside.objects.items c.count_before-place.result c.index.result.now c.self.invariant.rising h.0 h.1 (omega (arith, v)) c.index.ensures (c.if-before.ensures.value ∙ ap (λ (o : LiveObject). is_before c.args.name o.name) c.index.ensures)) }

pub returns : goal.returns
returns c =
    let v = ap length c.self.view_is in
    let h = parts-on c.args.name c.self.inside.objects.items c.args.self.now c.count_before-place.result c.self.view_is c.count_before-place.ensures.parts in
    record { found = hit-on c.args.name c.self.inside.objects.items c.args.self.now c.count_before-place.result c.self.view_is (hit_there c.args.name c.self.inside.objects.items c.count_before-place.result c.index.result.now h.1 (omega (arith, v)) c.index.ensures (c.if-before.ensures.value ∙ ap (λ (o : LiveObject). is_before c.args.name o.name) c.index.ensures)) }
