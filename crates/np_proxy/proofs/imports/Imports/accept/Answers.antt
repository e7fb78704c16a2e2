use Rattle.std.proofs.Common.{◌≡◌, ◌+◌, ◌<◌, ◌^◌, ◌∙◌, sym, ap, subst, arith, true, None, List, length}
use Rattle.std.specs.Vec.{vec_capacity}
use Rattle.np_values.specs.declared.name.Name.{Name}
use Rattle.np_values.specs.declared.name.Side.{Side}
use Rattle.np_proxy_release.specs.declared.release.Release.{Release}
use Rattle.np_proxy.specs.declared.import.Import.{Import}
use Rattle.np_proxy.specs.Named.{is_rising}
use Rattle.np_proxy.specs.Imports.{Imported, HoldsImports, import_name, holders_of, are_others, full_among, all_taken_up}
use Rattle.np_proxy.proofs.ImportLemmas.{none-without}
use Rattle.np_proxy.proofs.CountedLemmas.{counted-accepted}
use Rattle.np_proxy.proofs.KeepingLemmas.{keeps-accepted}
use Rattle.np_proxy.proofs.imports.Imports.accept.Goals as goal

pub take_up_all-requires-clause-fits : goal.take_up_all-requires-clause-fits
take_up_all-requires-clause-fits c =
    let seen = sym c.first_full.ensures.value ∙ c.in-None.is in
    let found : full_among c.self.inside.purged c.self.inside.releases.items c.args.refs.names c.self.inside.proxies.items ≡ None = rw (← c.names.ensures.same, ← c.as_slice.ensures.value, ← c.as_slice-2.ensures.value) seen in
    let less = none-without c.self.inside.purged c.self.inside.releases.items c.args.refs.names c.self.inside.proxies.items found in
    rw (c.names-in-Ok.ensures.same, c.make_room.ensures.proxies) less

pub take_up_all-requires-clause-holders : goal.take_up_all-requires-clause-holders
take_up_all-requires-clause-holders c x =
    let before = subst (λ (i : Imported). holders_of i x + length c.args.refs.names < 2 ^ 64) (sym c.self.view_is) (c.requires.holders x) in
    rw (c.names-in-Ok.ensures.same, c.make_room.ensures.proxies) before

pub invariant_of-self : goal.invariant_of-self
invariant_of-self c =
    let before : Imported = record { side = c.self.inside.side; proxies = c.self.inside.proxies.items; releases = c.self.inside.releases.items; purged = c.self.inside.purged } in
    let capacity = vec_capacity c.make_room.new.releases in
    let names = c.args.refs.names in
    let seen = sym c.first_full.ensures.value ∙ c.in-None.is in
    let found : full_among c.self.inside.purged c.self.inside.releases.items c.args.refs.names c.self.inside.proxies.items ≡ None = rw (← c.names.ensures.same, ← c.as_slice.ensures.value, ← c.as_slice-2.ensures.value) seen in
    let side = c.requires.side ∙ sym (ap (λ (i : Imported). i.side) c.self.view_is) in
    let others = subst (λ (s : Side). are_others s names ≡ true) side c.names.ensures.others in
    let taken : c.take_up_all.new.proxies.items ≡ all_taken_up c.self.inside.purged names c.self.inside.proxies.items = c.take_up_all.ensures.value ∙ ap (λ (xs : List Name). all_taken_up c.self.inside.purged xs c.make_room.new.proxies.items) c.names-in-Ok.ensures.same ∙ ap (λ (ps : List Import). all_taken_up c.self.inside.purged names ps) c.make_room.ensures.proxies in
    let count = ap (λ (xs : List Name). length xs) c.names-2.ensures.same in
    let proxies = ap (λ (ps : List Import). length ps) c.make_room.ensures.proxies in
    let releases = ap (λ (rs : List Release). length rs) c.make_room.ensures.releases in
    subst (λ (ps : List Import). HoldsImports (record before { proxies = ps; releases = c.make_room.new.releases.items }) capacity) (sym taken)
    (subst (λ (rs : List Release). HoldsImports (record before { proxies = all_taken_up c.self.inside.purged names c.self.inside.proxies.items; releases = rs }) capacity) (sym c.make_room.ensures.releases)
    (record { keeps = keeps-accepted before (vec_capacity c.self.inside.releases) capacity names c.self.invariant.keeps others found (omega (arith, c.in-Ok.ensures.pending, count, proxies, releases)) (subst (λ (ps : List Import). is_rising import_name ps ≡ true) taken c.take_up_all.ensures.rising); counted = counted-accepted c.self.inside.purged names c.self.inside.proxies.items c.self.inside.releases.items c.self.invariant.counted }))
