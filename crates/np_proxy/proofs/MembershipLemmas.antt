-- Which names are exported after a change.
use Rattle.std.proofs.Common.{◌≡◌, ℕ, Bool, true, false, Option, refl, sym, ap, subst, arith}
use Rattle.std.specs.Prelude.{◌==◌, ◌||◌, not, is_some}
use Rattle.std.proofs.lemmas.Bool.Decides.{nat_tests}
use Rattle.np_values.specs.declared.name.Name.{Name}
use Rattle.np_proxy.specs.declared.export.Export.{Export}
use Rattle.np_proxy.specs.Named.{is_same}
use Rattle.np_proxy.specs.Exports.{Exported, export_name, count_of, out_of, is_exported, sent_once, taken_back, added, sent, released, dropped, purged, is_of_other_instance}
use Rattle.np_proxy.specs.Counts.{SameExport}
use Rattle.np_proxy.proofs.Names.{same-is}
use Rattle.np_proxy.proofs.Looking.{none-there, seen-put, seen-put-other, seen-without-other, seen-kept, seen-left-out, there-edited}

pub none-out : (x : Name) (exports : Exported) → is_exported exports x ≡ false → out_of exports x ≡ 0
none-out x exports e = ap count_of (none-there export_name x exports.objects e)

pub adds-one : (x y : Name) (exports : Exported) → is_exported exports y ≡ false → is_exported (added y exports) x ≡ (is_same x y || is_exported exports x)
adds-one x y exports new = go (is_same x y) refl
  where
    here : is_exported (added y exports) y ≡ true
    here = ap (λ (o : Option Export). is_some o) (seen-put export_name (record { name = y; out = 0 }) exports.objects new)

    go : (b : Bool) → is_same x y ≡ b → is_exported (added y exports) x ≡ (is_same x y || is_exported exports x)
    go true q = simp q (subst (λ (m : Name). is_exported (added y exports) m ≡ true) (sym (same-is x y q)) here)
    go false q = simp q (ap (λ (o : Option Export). is_some o) (seen-put-other export_name x (record { name = y; out = 0 }) exports.objects q))

pub sends-keep : (x y : Name) (exports : Exported) → is_exported (sent y exports) x ≡ is_exported exports x
sends-keep x y exports = there-edited export_name y x sent_once exports.objects (λ e. refl)

pub releases-keep : (x y : Name) (times : ℕ) (exports : Exported) → is_exported (released y times exports) x ≡ is_exported exports x
releases-keep x y times exports = there-edited export_name y x (taken_back times) exports.objects (λ e. refl)

pub drops-no-other : (x y : Name) (exports : Exported) → is_same x y ≡ false → SameExport x exports (dropped y exports)
drops-no-other x y exports d =
    let e = seen-without-other export_name y x exports.objects d in
    record { exported = ap (λ (o : Option Export). is_some o) e; out = ap count_of e }

-- ---- an instance that died

is_other : ℕ → Name → Bool
is_other instance x = not (x.instance == instance)

equal : (n : ℕ) → not (n == n) ≡ false
equal n = grind (arith, nat_tests)

pub purges-an-instance : (x : Name) (exports : Exported) → is_exported (purged x.instance exports) x ≡ false
unfolding is_other
purges-an-instance x exports =
    ap (λ (o : Option Export). is_some o) (seen-left-out export_name (is_of_other_instance x.instance) (is_other x.instance) x exports.objects (λ e. refl) (equal x.instance))

pub purges-no-other : (x : Name) (instance : ℕ) (exports : Exported) → (x.instance == instance) ≡ false → SameExport x exports (purged instance exports)
unfolding is_other
purges-no-other x instance exports d =
    let other : not (x.instance == instance) ≡ true = simp d refl in
    let e = seen-kept export_name (is_of_other_instance instance) (is_other instance) x exports.objects (λ e. refl) other in
    record { exported = ap (λ (o : Option Export). is_some o) e; out = ap count_of e }
