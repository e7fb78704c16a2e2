use Rattle.std.proofs.Common.{◌≡◌, List, arith, ap, refl, subst, sym}
use Rattle.np_proxy.specs.declared.export.Export.{Export}
use Rattle.np_proxy.specs.Named.{IsAt}
use Rattle.np_proxy.specs.Exports.{Exported, export_name, taken_back, count_of}
use Rattle.np_proxy.proofs.Finding.{edit-view, edit-rising, hit-seen}
use Rattle.np_proxy.proofs.ExportLemmas.{joined}
use Rattle.np_proxy.proofs.exports.Exports.take_back.Goals as goal

pub overflow_sub-export : goal.overflow_sub-export
overflow_sub-export c =
    let view : c.self.inside.objects.items ≡ c.args.self.now.objects = ap (λ (e : Exported). e.objects) c.self.view_is in
    let at : IsAt export_name c.args.name c.self.inside.objects.items c.args.place = subst (λ (l : List Export). IsAt export_name c.args.name l c.args.place) (sym view) c.requires.at in
    let seen = hit-seen export_name c.args.name c.self.inside.objects.items c.self.inside.objects.items c.args.self.now.objects c.args.place c.index_mut-export.result.now view c.self.invariant refl at c.index_mut-export.ensures.value in
    let out = ap count_of seen in
    omega (arith, out, c.requires.out)

pub invariant_of-self : goal.invariant_of-self
invariant_of-self c =
    let view : c.self.inside.objects.items ≡ c.args.self.now.objects = ap (λ (e : Exported). e.objects) c.self.view_is in
    let at : IsAt export_name c.args.name c.self.inside.objects.items c.args.place = subst (λ (l : List Export). IsAt export_name c.args.name l c.args.place) (sym view) c.requires.at in
    edit-rising export_name c.args.name c.self.inside.objects.items c.self.inside.objects.items c.args.place c.index_mut-export.result.now _ c.self.invariant refl at c.index_mut-export.ensures.value refl

pub returns : goal.returns
returns c =
    let view : c.self.inside.objects.items ≡ c.args.self.now.objects = ap (λ (e : Exported). e.objects) c.self.view_is in
    let at : IsAt export_name c.args.name c.self.inside.objects.items c.args.place = subst (λ (l : List Export). IsAt export_name c.args.name l c.args.place) (sym view) c.requires.at in
    let objects = edit-view export_name c.args.name (taken_back c.args.times) c.self.inside.objects.items c.self.inside.objects.items c.args.self.now.objects c.args.place c.index_mut-export.result.now _ view c.self.invariant refl at c.index_mut-export.ensures.value refl in
    record { value = joined c.self.inside.side _ _ _ c.args.self.now c.self.view_is objects }
