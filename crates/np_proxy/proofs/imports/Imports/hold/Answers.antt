use Rattle.std.proofs.Common.{◌≡◌, ◌∙◌, sym, ap, subst, refl, arith, true, List}
use Rattle.std.specs.Vec.{vec_capacity}
use Rattle.np_proxy.specs.declared.import.Import.{Import}
use Rattle.np_proxy.specs.Named.{is_rising}
use Rattle.np_proxy.specs.Imports.{Imported, HoldsImports, import_name, held_once_more, holders_at, held}
use Rattle.np_proxy.proofs.Finding.{edit-view, edit-rising, hit-seen}
use Rattle.np_proxy.proofs.CountedLemmas.{counted-edited}
use Rattle.np_proxy.proofs.KeepingLemmas.{keeps-edited}
use Rattle.np_proxy.proofs.imports.Imports.hold.Goals as goal

pub overflow_add-proxy : goal.overflow_add-proxy
overflow_add-proxy c =
    let seen = hit-seen import_name c.args.name c.self.inside.proxies.items c.as_slice.result.now c.args.self.now.proxies c.in-Some.place c.index_mut-proxy.result.now (ap (λ (i : Imported). i.proxies) c.self.view_is) c.self.invariant.keeps.proxies_rise c.as_slice.ensures.value c.in-Some.ensures.found c.index_mut-proxy.ensures.value in
    let holders = ap holders_at seen in
    omega (arith, holders, c.requires.fits)

pub invariant_of-self : goal.invariant_of-self
invariant_of-self c =
    let before : Imported = record { side = c.self.inside.side; proxies = c.self.inside.proxies.items; releases = c.self.inside.releases.items; purged = c.self.inside.purged } in
    let edited = edit-view import_name c.args.name held_once_more c.self.inside.proxies.items c.as_slice.result.now c.self.inside.proxies.items c.in-Some.place c.index_mut-proxy.result.now _ refl c.self.invariant.keeps.proxies_rise c.as_slice.ensures.value c.in-Some.ensures.found c.index_mut-proxy.ensures.value refl in
    let rising = edit-rising import_name c.args.name c.self.inside.proxies.items c.as_slice.result.now c.in-Some.place c.index_mut-proxy.result.now (held_once_more c.index_mut-proxy.result.now) c.self.invariant.keeps.proxies_rise c.as_slice.ensures.value c.in-Some.ensures.found c.index_mut-proxy.ensures.value refl in
    subst (λ (ps : List Import). HoldsImports (record before { proxies = ps }) (vec_capacity c.self.inside.releases)) (sym edited)
    (record { keeps = keeps-edited before (vec_capacity c.self.inside.releases) c.args.name held_once_more (λ e. refl) (λ e. refl) c.self.invariant.keeps (subst (λ (ps : List Import). is_rising import_name ps ≡ true) edited rising); counted = counted-edited c.args.name held_once_more c.self.inside.proxies.items c.self.inside.releases.items (λ e. refl) c.self.invariant.counted })

pub returns-in-Some : goal.returns-in-Some
returns-in-Some c =
    let before : Imported = record { side = c.self.inside.side; proxies = c.self.inside.proxies.items; releases = c.self.inside.releases.items; purged = c.self.inside.purged } in
    let edited = edit-view import_name c.args.name held_once_more c.self.inside.proxies.items c.as_slice.result.now c.self.inside.proxies.items c.in-Some.place c.index_mut-proxy.result.now _ refl c.self.invariant.keeps.proxies_rise c.as_slice.ensures.value c.in-Some.ensures.found c.index_mut-proxy.ensures.value refl in
    record { value = ap (λ (ps : List Import). record before { proxies = ps }) edited ∙ ap (λ (i : Imported). held c.args.name i) c.self.view_is }
