use Rattle.std.proofs.Common.{◌≡◌, ◌∙◌, ap, subst, List, ℕ, true, slice_set, map}
use Rattle.std.specs.Prelude.{◌==◌, ◌&&◌, nat_lt, if◌then◌else◌}
use Rattle.std.specs.List.{filter}
use Rattle.np_proxy_release.specs.declared.release.Release.{Release}
use Rattle.np_proxy.specs.declared.import.Import.{Import}
use Rattle.np_proxy.specs.Imports.{Imported, import_name, holders_of, count_in, is_held_in, is_proxy_of_other, is_release_of_other, purged_of}
use Rattle.np_proxy.proofs.CountedLemmas.{counted-filtered}
use Rattle.np_proxy.proofs.KeepingLemmas.{keeps-purged, held-names-rise}
use Rattle.np_proxy.proofs.ClearingLemmas.{held-names}
use Rattle.np_proxy.proofs.imports.Imports.purge.Goals as goal

pub invariant_of-self : goal.invariant_of-self
invariant_of-self c =
    let before : Imported = record { side = c.self.inside.side; proxies = c.self.inside.proxies.items; releases = c.self.inside.releases.items; purged = c.self.inside.purged } in
    let now = slice_set c.self.inside.purged c.from.result true in
    rw (c.remove_proxies.ensures.value, c.remove_releases.ensures.value, c.remove_releases.ensures.capacity) (record { keeps = keeps-purged before _ c.args.instance now c.self.invariant.keeps; counted = counted-filtered (is_proxy_of_other c.args.instance) (is_release_of_other c.args.instance) c.self.inside.proxies.items c.self.inside.releases.items c.self.invariant.counted })

pub returns-clause-ok : goal.returns-clause-ok
returns-clause-ok c =
    let before : Imported = record { side = c.self.inside.side; proxies = c.self.inside.proxies.items; releases = c.self.inside.releases.items; purged = c.self.inside.purged } in
    ap (λ (ps : List Import). record before { proxies = ps; releases = c.remove_releases.new.releases.items; purged = slice_set c.self.inside.purged c.from.result true }) c.remove_proxies.ensures.value
    ∙ ap (λ (rs : List Release). record before { proxies = filter (is_proxy_of_other c.args.instance) c.self.inside.proxies.items; releases = rs; purged = slice_set c.self.inside.purged c.from.result true }) c.remove_releases.ensures.value
    ∙ ap (λ (n : ℕ). record before { proxies = filter (is_proxy_of_other c.args.instance) c.self.inside.proxies.items; releases = filter (is_release_of_other c.args.instance) c.self.inside.releases.items; purged = slice_set c.self.inside.purged n true }) c.from.ensures
    ∙ ap (λ (i : Imported). purged_of c.args.instance i) c.self.view_is

pub returns-clause-rising : goal.returns-clause-rising
returns-clause-rising c =
    let names = c.in_ok-names.ensures.value ∙ ap (λ (es : List Import). map import_name (filter (is_held_in c.args.instance) es)) c.as_slice.ensures.value in
    rw names (held-names-rise c.args.instance c.self.inside.proxies.items c.self.invariant.keeps.proxies_rise)

pub returns-clause-held : goal.returns-clause-held
returns-clause-held c x =
    let names = c.in_ok-names.ensures.value ∙ ap (λ (es : List Import). map import_name (filter (is_held_in c.args.instance) es)) c.as_slice.ensures.value in
    rw names (subst (λ (i : Imported). count_in x (map import_name (filter (is_held_in c.args.instance) c.self.inside.proxies.items)) ≡ (if x.instance == c.args.instance && nat_lt 0 (holders_of i x) then 1 else 0)) c.self.view_is (held-names x c.args.instance c.self.inside.proxies.items c.self.invariant.keeps.proxies_rise))
