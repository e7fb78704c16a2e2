use Rattle.std.proofs.Common.{◌≡◌, ◌<◌, ◌∙◌, sym, ap, subst, refl, true, List, ℕ}
use Rattle.np_proxy_release.specs.declared.release.Release.{Release}
use Rattle.std.specs.Vec.{vec_capacity}
use Rattle.std.specs.List.{list_all}
use Rattle.np_proxy.specs.declared.import.Import.{Import}
use Rattle.np_proxy.specs.Named.{is_rising, without_named}
use Rattle.np_proxy.specs.Imports.{Imported, HoldsImports, import_name, release_name, held_once_less, holders_of, release_of, with_release, is_typed}
use Rattle.np_proxy.proofs.CountedLemmas.{counted-edited, counted-gone}
use Rattle.np_proxy.proofs.KeepingLemmas.{keeps-edited, keeps-gone, there-held}
use Rattle.np_proxy.proofs.CallLemmas.{unheld-kept, unheld-gone, leaves-last, leaves-others}
use Rattle.np_proxy.proofs.imports.Imports.unhold.Goals as goal

pub invariant_of-self : goal.invariant_of-self
invariant_of-self c =
    let name = c.args.name in
    let before : Imported = record { side = c.self.inside.side; proxies = c.self.inside.proxies.items; releases = c.self.inside.releases.items; purged = c.self.inside.purged } in
    let gone = c.in-Some.ensures.value in
    let there = there-held name c.self.inside.proxies.items (subst (λ (i : Imported). 0 < holders_of i name) (sym c.self.view_is) c.requires.held) in
    let added = c.add_release.ensures.value ∙ ap (λ (n : ℕ). with_release (release_of name n) c.self.inside.releases.items) gone.1 in
    subst (λ (ps : List Import). HoldsImports (record before { proxies = ps; releases = c.add_release.new.releases.items }) (vec_capacity c.add_release.new.releases)) (sym gone.2)
    (subst (λ (rs : List Release). HoldsImports (record before { proxies = without_named import_name name c.self.inside.proxies.items; releases = rs }) (vec_capacity c.add_release.new.releases)) (sym added)
    (record {
      keeps = keeps-gone before (vec_capacity c.self.inside.releases) (vec_capacity c.add_release.new.releases) name c.self.invariant.keeps there c.add_release.ensures.capacity
          (subst (λ (ps : List Import). is_rising import_name ps ≡ true) gone.2 c.in-Some.ensures.rising)
          (subst (λ (rs : List Release). is_rising release_name rs ≡ true) added c.add_release.ensures.rising);
      counted = counted-gone name c.self.inside.proxies.items c.self.inside.releases.items there c.self.invariant.counted
          (subst (λ (rs : List Release). list_all is_typed rs ≡ true) added (c.add_release.ensures.typed c.self.invariant.counted.typed));
    }))

pub invariant_of-self-in-None : goal.invariant_of-self-in-None
invariant_of-self-in-None c =
    let before : Imported = record { side = c.self.inside.side; proxies = c.self.inside.proxies.items; releases = c.self.inside.releases.items; purged = c.self.inside.purged } in
    let kept = c.in-None.ensures.value in
    subst (λ (ps : List Import). HoldsImports (record before { proxies = ps }) (vec_capacity c.self.inside.releases)) (sym kept.1)
    (record { keeps = keeps-edited before (vec_capacity c.self.inside.releases) c.args.name held_once_less (λ e. refl) (λ e. refl) c.self.invariant.keeps (subst (λ (ps : List Import). is_rising import_name ps ≡ true) kept.1 c.in-None.ensures.rising); counted = counted-edited c.args.name held_once_less c.self.inside.proxies.items c.self.inside.releases.items (λ e. refl) c.self.invariant.counted })

pub returns-in-Some-clause-last : goal.returns-in-Some-clause-last
returns-in-Some-clause-last c =
    let name = c.args.name in
    let before : Imported = record { side = c.self.inside.side; proxies = c.self.inside.proxies.items; releases = c.self.inside.releases.items; purged = c.self.inside.purged } in
    let gone = c.in-Some.ensures.value in
    let added = c.add_release.ensures.value ∙ ap (λ (n : ℕ). with_release (release_of name n) c.self.inside.releases.items) gone.1 in
    let left = unheld-gone name before c.args.self.now c.let_go.new.proxies.items c.add_release.new.releases.items c.self.view_is c.requires.held gone.0 gone.2 added in
    leaves-last name before c.args.self.now _ (vec_capacity c.self.inside.releases) c.self.view_is c.self.invariant.keeps left

pub returns-in-Some-clause-others : goal.returns-in-Some-clause-others
returns-in-Some-clause-others c =
    let name = c.args.name in
    let before : Imported = record { side = c.self.inside.side; proxies = c.self.inside.proxies.items; releases = c.self.inside.releases.items; purged = c.self.inside.purged } in
    let gone = c.in-Some.ensures.value in
    let added = c.add_release.ensures.value ∙ ap (λ (n : ℕ). with_release (release_of name n) c.self.inside.releases.items) gone.1 in
    let left = unheld-gone name before c.args.self.now c.let_go.new.proxies.items c.add_release.new.releases.items c.self.view_is c.requires.held gone.0 gone.2 added in
    leaves-others name before c.args.self.now _ (vec_capacity c.self.inside.releases) c.self.view_is c.self.invariant.keeps left c.requires.held

pub returns-in-None-clause-others : goal.returns-in-None-clause-others
returns-in-None-clause-others c =
    let before : Imported = record { side = c.self.inside.side; proxies = c.self.inside.proxies.items; releases = c.self.inside.releases.items; purged = c.self.inside.purged } in
    let kept = c.in-None.ensures.value in
    let left = unheld-kept c.args.name before c.args.self.now c.let_go.new.proxies.items c.self.view_is kept.0 kept.1 in
    leaves-others c.args.name before c.args.self.now _ (vec_capacity c.self.inside.releases) c.self.view_is c.self.invariant.keeps left c.requires.held
