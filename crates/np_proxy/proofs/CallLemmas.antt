-- What the calls of imports leave, in terms of their definitions.
use Rattle.std.proofs.Common.{◌≡◌, ◌<◌, ◌≤◌, ℕ, List, false, sym, ap, ◌∙◌, subst, arith}
use Rattle.std.specs.Prelude.{drop}
use Rattle.np_values.specs.declared.name.Name.{Name}
use Rattle.np_values.specs.Name.{is_same_side}
use Rattle.np_proxy_release.specs.declared.release.Release.{Release}
use Rattle.np_proxy.specs.declared.import.Import.{Import}
use Rattle.np_proxy.specs.Named.{is_same, at_name, without_named}
use Rattle.np_proxy.specs.Imports.{Imported, KeepsImports, import_name, holders_of, received_of, held_once_less, release_of, with_release, unheld, cleared}
use Rattle.np_proxy.specs.Counts.{LastGoes, SameCounts, GivesBack}
use Rattle.np_proxy.proofs.CountLemmas.{not-last, is-last, last-goes, others-same}
use Rattle.np_proxy.proofs.ClearingLemmas.{clears-count}

pub unheld-kept : (name : Name) (before now : Imported) (ps : List Import) → before ≡ now → 1 < holders_of before name → ps ≡ at_name import_name name held_once_less before.proxies → record before { proxies = ps } ≡ unheld name now
unheld-kept name before now ps e more p = ap (λ (l : List Import). record before { proxies = l }) p ∙ sym (not-last name before more) ∙ ap (λ (i : Imported). unheld name i) e

pub unheld-gone : (name : Name) (before now : Imported) (ps : List Import) (rs : List Release) → before ≡ now → 0 < holders_of now name → holders_of before name ≤ 1
    → ps ≡ without_named import_name name before.proxies → rs ≡ with_release (release_of name (received_of before name)) before.releases → record before { proxies = ps; releases = rs } ≡ unheld name now
unheld-gone name before now ps rs e some few p r =
    let one : holders_of before name ≡ 1 = let h = ap (λ (i : Imported). holders_of i name) e in omega (arith, h, some, few) in
    ap (λ (l : List Import). record before { proxies = l; releases = rs }) p
    ∙ ap (λ (l : List Release). record before { proxies = without_named import_name name before.proxies; releases = l }) r
    ∙ sym (is-last name before one)
    ∙ ap (λ (i : Imported). unheld name i) e

-- the clauses of a call that leaves this

pub leaves-last : (name : Name) (before old new : Imported) (capacity : ℕ) → before ≡ old → KeepsImports before capacity → new ≡ unheld name old → holders_of old name ≡ 1 → LastGoes name old new
leaves-last name before old new capacity e keeps n one =
    subst (λ (i : Imported). LastGoes name old i) (sym n) (last-goes name old capacity (subst (λ (i : Imported). KeepsImports i capacity) e keeps) one)

pub leaves-others : (name : Name) (before old new : Imported) (capacity : ℕ) → before ≡ old → KeepsImports before capacity → new ≡ unheld name old → 0 < holders_of old name
    → (x : Name) → is_same x name ≡ false → is_same_side x.side old.side ≡ false → SameCounts x old new
leaves-others name before old new capacity e keeps n some x d side =
    subst (λ (i : Imported). SameCounts x old i) (sym n) (others-same x name old capacity (subst (λ (i : Imported). KeepsImports i capacity) e keeps) some d side)

pub leaves-cleared : (before old : Imported) (rs : List Release) (capacity : ℕ) → before ≡ old → KeepsImports before capacity → rs ≡ drop 1024 before.releases → (x : Name) → GivesBack x old (record before { releases = rs })
leaves-cleared before old rs capacity e keeps r x =
    let n : record before { releases = rs } ≡ cleared old = ap (λ (l : List Release). record before { releases = l }) r ∙ ap (λ (i : Imported). cleared i) e in
    subst (λ (i : Imported). GivesBack x old i) (sym n) (clears-count x old capacity (subst (λ (i : Imported). KeepsImports i capacity) e keeps))
