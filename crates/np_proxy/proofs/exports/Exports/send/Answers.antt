use Rattle.std.proofs.Common.{arith, ap, refl}
use Rattle.np_proxy.specs.Exports.{Exported, export_name, sent_once, count_of}
use Rattle.np_proxy.proofs.Finding.{edit-view, edit-rising, hit-seen}
use Rattle.np_proxy.proofs.ExportLemmas.{joined}
use Rattle.np_proxy.proofs.exports.Exports.send.Goals as goal

pub overflow_add-export : goal.overflow_add-export
overflow_add-export c =
    let seen = hit-seen export_name c.args.name c.self.inside.objects.items c.as_slice.result.now c.args.self.now.objects c.in-Some.place c.index_mut-export.result.now (ap (λ (e : Exported). e.objects) c.self.view_is) c.self.invariant c.as_slice.ensures.value c.in-Some.ensures.found c.index_mut-export.ensures.value in
    let out = ap count_of seen in
    omega (arith, out, c.requires.fits)

pub invariant_of-self : goal.invariant_of-self
invariant_of-self c =
    edit-rising export_name c.args.name c.self.inside.objects.items c.as_slice.result.now c.in-Some.place c.index_mut-export.result.now _ c.self.invariant c.as_slice.ensures.value c.in-Some.ensures.found c.index_mut-export.ensures.value refl

pub returns-in-Some : goal.returns-in-Some
returns-in-Some c =
    let objects = edit-view export_name c.args.name sent_once c.self.inside.objects.items c.as_slice.result.now c.args.self.now.objects c.in-Some.place c.index_mut-export.result.now _ (ap (λ (e : Exported). e.objects) c.self.view_is) c.self.invariant c.as_slice.ensures.value c.in-Some.ensures.found c.index_mut-export.ensures.value refl in
    record { value = joined c.self.inside.side _ _ _ c.args.self.now c.self.view_is objects }
