-- What each change does to the counts.
use Rattle.std.proofs.Common.{◌≡◌, ◌+◌, ◌-◌, ◌<◌, ◌≤◌, ℕ, List, [], ◌∷◌, Bool, true, false, Option, Some, None, refl, sym, ap, ◌∙◌, subst, arith}
use Rattle.std.specs.Prelude.{nat_lt, ◌==◌, not, is_some}
use Rattle.std.proofs.lemmas.Bool.{lt-ltb}
use Rattle.std.proofs.lemmas.Bool.Decides.{nat_tests}
use Rattle.np_values.specs.declared.name.Name.{Name}
use Rattle.np_values.specs.Name.{is_same_side}
use Rattle.np_proxy.specs.declared.export.Export.{Export}
use Rattle.np_proxy.specs.declared.import.Import.{Import}
use Rattle.np_proxy.specs.Named.{is_same, named_at, at_name, without_named}
use Rattle.np_proxy.specs.Exports.{Exported, export_name, count_of, out_of, is_exported, sent_once, taken_back, added, sent, released}
use Rattle.np_proxy.specs.Imports.{Imported, KeepsImports, import_name, release_name, release_key, received_at, holders_at, times_at, holders_in, received_of, holders_of, pending_of, was_purged, count_in, all_taken_up, taken_up, accepted, held_once_more, held_once_less, held, unheld, release_of, with_release, purged_of, is_proxy_of_other, is_release_of_other}
use Rattle.np_proxy.specs.Counts.{if_same, SameCounts, LastGoes, HasNone}
use Rattle.np_proxy.proofs.Names.{same-is}
use Rattle.np_proxy.proofs.Looking.{seen-edited, seen-edited-other, seen-put, seen-put-other, seen-without, seen-without-other, seen-left-out, none-there}
use Rattle.np_proxy.proofs.ExportLemmas.{out-released}
use Rattle.np_proxy.proofs.ImportLemmas.{taken-not, received-other, read-taken, read-other, received-taken}
use Rattle.np_proxy.proofs.NameLemmas.{keys-same}
use Rattle.np_proxy.proofs.KeepingLemmas.{times-with, times-with-other, received-edited, there-held}

-- by whether the names are the same
pub by_same : (P : Name → ℕ → Type 0) (x y : Name) (n : ℕ) → P y n → (is_same x y ≡ false → P x 0) → P x (if_same x y n)
by_same P x y n a b = go (is_same x y) refl
  where
    go : (t : Bool) → is_same x y ≡ t → P x (if_same x y n)
    go true q = subst (λ (k : ℕ). P x k) (sym (let e : if_same x y n ≡ n = simp q refl in e)) (subst (λ (m : Name). P m n) (sym (same-is x y q)) a)
    go false q = subst (λ (k : ℕ). P x k) (sym (let e : if_same x y n ≡ 0 = simp q refl in e)) (b q)

-- ---- exports

out-sent : (y : Name) (exports : Exported) → is_exported exports y ≡ true → out_of (sent y exports) y ≡ out_of exports y + 1
out-sent y exports there = go (named_at export_name y exports.objects) refl
  where
    go : (o : Option Export) → named_at export_name y exports.objects ≡ o → out_of (sent y exports) y ≡ out_of exports y + 1
    go None s = absurd (let e = ap (λ (o : Option Export). is_some o) s in cc)
    go (Some e) s = ap count_of (seen-edited export_name y sent_once exports.objects (λ e. refl) (Some e) s) ∙ ap (λ (o : Option Export). count_of o + 1) (sym s)

pub sends-count : (x y : Name) (exports : Exported) → is_exported exports y ≡ true → out_of (sent y exports) x ≡ out_of exports x + if_same x y 1
sends-count x y exports there =
    by_same (λ (m : Name) (n : ℕ). out_of (sent y exports) m ≡ out_of exports m + n) x y 1 (out-sent y exports there)
    (λ d. let e = ap count_of (seen-edited-other export_name y x sent_once exports.objects (λ e. refl) d) in omega (arith, e))

pub releases-count : (x y : Name) (times : ℕ) (exports : Exported) → times ≤ out_of exports y → out_of (released y times exports) x + if_same x y times ≡ out_of exports x
releases-count x y times exports within =
    by_same (λ (m : Name) (n : ℕ). out_of (released y times exports) m + n ≡ out_of exports m) x y times
    (let e = out-released y times exports in omega (arith, e, within))
    (λ d. let e = ap count_of (seen-edited-other export_name y x (taken_back times) exports.objects (λ e. refl) d) in omega (arith, e))

pub added-count : (x y : Name) (exports : Exported) → is_exported exports y ≡ false → out_of (added y exports) x ≡ out_of exports x
added-count x y exports new = go (is_same x y) refl
  where
    here : out_of (added y exports) y ≡ out_of exports y
    here = ap count_of (seen-put export_name (record { name = y; out = 0 }) exports.objects new) ∙ sym (ap count_of (none-there export_name y exports.objects new))

    go : (b : Bool) → is_same x y ≡ b → out_of (added y exports) x ≡ out_of exports x
    go true q = subst (λ (m : Name). out_of (added y exports) m ≡ out_of exports m) (sym (same-is x y q)) here
    go false q = ap count_of (seen-put-other export_name x (record { name = y; out = 0 }) exports.objects q)

-- ---- names that came

module _ (v : Option Import → ℕ) (taken : (purged : List Bool) (x : Name) (es : List Import) → was_purged purged x.instance ≡ false → v (named_at import_name x (taken_up purged x es)) ≡ v (named_at import_name x es) + 1) (other : (purged : List Bool) (x y : Name) (es : List Import) → is_same y x ≡ false → v (named_at import_name y (taken_up purged x es)) ≡ v (named_at import_name y es)) where
  pub counts-all : (purged : List Bool) (xs : List Name) (x : Name) (es : List Import) → was_purged purged x.instance ≡ false → v (named_at import_name x (all_taken_up purged xs es)) ≡ v (named_at import_name x es) + count_in x xs
  counts-all purged [] x es p = omega arith
  counts-all purged (y ∷ ys) x es p = go (is_same x y) refl (counts-all purged ys x (taken_up purged y es) p)
    where
      go : (b : Bool) → is_same x y ≡ b → v (named_at import_name x (all_taken_up purged ys (taken_up purged y es))) ≡ v (named_at import_name x (taken_up purged y es)) + count_in x ys → v (named_at import_name x (all_taken_up purged (y ∷ ys) es)) ≡ v (named_at import_name x es) + count_in x (y ∷ ys)
      go true q ih =
          let one = subst (λ (m : Name). v (named_at import_name x (taken_up purged m es)) ≡ v (named_at import_name x es) + 1) (same-is x y q) (taken purged x es p) in
          let many : count_in x (y ∷ ys) ≡ count_in x ys + 1 = simp q (omega arith) in
          omega (arith, ih, one, many)
      go false q ih =
          let one = other purged y x es q in
          let many : count_in x (y ∷ ys) ≡ count_in x ys = simp q refl in
          omega (arith, ih, one, many)

  pub purged-all : (purged : List Bool) (xs : List Name) (x : Name) (es : List Import) → was_purged purged x.instance ≡ true → v (named_at import_name x (all_taken_up purged xs es)) ≡ v (named_at import_name x es)
  purged-all purged [] x es p = refl
  purged-all purged (y ∷ ys) x es p = purged-all purged ys x (taken_up purged y es) p ∙ go (is_same x y) refl
    where
      go : (b : Bool) → is_same x y ≡ b → v (named_at import_name x (taken_up purged y es)) ≡ v (named_at import_name x es)
      go true q = ap (λ (l : List Import). v (named_at import_name x l)) (taken-not purged y es (subst (λ (m : Name). was_purged purged m.instance ≡ true) (same-is x y q) p))
      go false q = other purged y x es q

holders-one : (purged : List Bool) (x : Name) (es : List Import) → was_purged purged x.instance ≡ false → holders_in x (taken_up purged x es) ≡ holders_in x es + 1
holders-one purged x es p = read-taken holders_at refl (λ e. refl) (λ y. refl) purged x es p

holders-other : (purged : List Bool) (x y : Name) (es : List Import) → is_same y x ≡ false → holders_in y (taken_up purged x es) ≡ holders_in y es
holders-other purged x y es d = read-other holders_at refl (λ e. refl) (λ y. refl) purged x y es d

pub received-accepted : (x : Name) (names : List Name) (imports : Imported) → was_purged imports.purged x.instance ≡ false → received_of (accepted names imports) x ≡ received_of imports x + count_in x names
received-accepted x names imports p = counts-all received_at received-taken received-other imports.purged names x imports.proxies p

pub holders-accepted : (x : Name) (names : List Name) (imports : Imported) → was_purged imports.purged x.instance ≡ false → holders_of (accepted names imports) x ≡ holders_of imports x + count_in x names
holders-accepted x names imports p = counts-all holders_at holders-one holders-other imports.purged names x imports.proxies p

pub received-purged : (x : Name) (names : List Name) (imports : Imported) → was_purged imports.purged x.instance ≡ true → received_of (accepted names imports) x ≡ received_of imports x
received-purged x names imports p = purged-all received_at received-taken received-other imports.purged names x imports.proxies p

pub holders-purged : (x : Name) (names : List Name) (imports : Imported) → was_purged imports.purged x.instance ≡ true → holders_of (accepted names imports) x ≡ holders_of imports x
holders-purged x names imports p = purged-all holders_at holders-one holders-other imports.purged names x imports.proxies p

-- ---- references that this side takes and drops

holders-edited : (y : Name) (f : Import → Import) (es : List Import) → ((e : Import) → (f e).name ≡ e.name) → 0 < holders_in y es → (e : Import) → named_at import_name y es ≡ Some e → holders_in y (at_name import_name y f es) ≡ (f e).holders
holders-edited y f es k h e s = ap holders_at (seen-edited import_name y f es k (Some e) s)

found : (y : Name) (es : List Import) → 0 < holders_in y es → (P : Type 0) → ((e : Import) → named_at import_name y es ≡ Some e → P) → P
found y es h P use_it = go (named_at import_name y es) refl
  where
    go : (o : Option Import) → named_at import_name y es ≡ o → P
    go None s = absurd (let e : holders_in y es ≡ 0 = ap holders_at s in omega (arith, e, h))
    go (Some e) s = use_it e s

pub holders-held : (x y : Name) (imports : Imported) → 0 < holders_of imports y → holders_of (held y imports) x ≡ holders_of imports x + if_same x y 1
holders-held x y imports h =
    by_same (λ (m : Name) (n : ℕ). holders_of (held y imports) m ≡ holders_of imports m + n) x y 1
    (found y imports.proxies h (holders_of (held y imports) y ≡ holders_of imports y + 1) (λ e s. holders-edited y held_once_more imports.proxies (λ e. refl) h e s ∙ ap (λ (o : Option Import). holders_at o + 1) (sym s)))
    (λ d. let e = ap holders_at (seen-edited-other import_name y x held_once_more imports.proxies (λ e. refl) d) in omega (arith, e))

pub received-held : (x y : Name) (imports : Imported) → received_of (held y imports) x ≡ received_of imports x
received-held x y imports = received-edited y x held_once_more imports.proxies (λ e. refl) (λ e. refl)

-- a reference that isn't the last
pub not-last : (y : Name) (imports : Imported) → 1 < holders_of imports y → unheld y imports ≡ record imports { proxies = at_name import_name y held_once_less imports.proxies }
not-last y imports h = simp (lt-ltb 1 (holders_of imports y) h) refl

pub is-last : (y : Name) (imports : Imported) → holders_of imports y ≡ 1 → unheld y imports ≡ record imports { proxies = without_named import_name y imports.proxies; releases = with_release (release_of y (received_of imports y)) imports.releases }
is-last y imports h = let t : nat_lt 1 (holders_of imports y) ≡ false = rw h refl in simp t refl

less : (y : Name) (imports : Imported) → 1 < holders_of imports y → holders_in y (at_name import_name y held_once_less imports.proxies) + 1 ≡ holders_of imports y
less y imports h =
    found y imports.proxies (omega (arith, h)) (holders_in y (at_name import_name y held_once_less imports.proxies) + 1 ≡ holders_of imports y)
    (λ e s.
    let a : holders_in y (at_name import_name y held_once_less imports.proxies) ≡ e.holders - 1 = holders-edited y held_once_less imports.proxies (λ e. refl) (omega (arith, h)) e s in
    let b : holders_of imports y ≡ e.holders = ap holders_at s in
    omega (arith, a, b, h))

pub holders-unheld : (x y : Name) (imports : Imported) → 1 < holders_of imports y → holders_of (unheld y imports) x + if_same x y 1 ≡ holders_of imports x
holders-unheld x y imports h =
    subst (λ (i : Imported). holders_of i x + if_same x y 1 ≡ holders_of imports x) (sym (not-last y imports h))
    (by_same (λ (m : Name) (n : ℕ). holders_in m (at_name import_name y held_once_less imports.proxies) + n ≡ holders_of imports m) x y 1 (less y imports h)
    (λ d. let e = ap holders_at (seen-edited-other import_name y x held_once_less imports.proxies (λ e. refl) d) in omega (arith, e)))

pub received-unheld : (x y : Name) (imports : Imported) → 1 < holders_of imports y → received_of (unheld y imports) x ≡ received_of imports x
received-unheld x y imports h =
    subst (λ (i : Imported). received_of i x ≡ received_of imports x) (sym (not-last y imports h)) (received-edited y x held_once_less imports.proxies (λ e. refl) (λ e. refl))

pub pending-unheld : (x y : Name) (imports : Imported) → 1 < holders_of imports y → pending_of (unheld y imports) x ≡ pending_of imports x
pending-unheld x y imports h = subst (λ (i : Imported). pending_of i x ≡ pending_of imports x) (sym (not-last y imports h)) refl

-- the last one
pub last-goes : (y : Name) (imports : Imported) (capacity : ℕ) → KeepsImports imports capacity → holders_of imports y ≡ 1 → LastGoes y imports (unheld y imports)
last-goes y imports capacity keeps h =
    subst (λ (i : Imported). LastGoes y imports i) (sym (is-last y imports h)) (record {
      received = ap received_at (seen-without import_name y imports.proxies keeps.proxies_rise);
      holders = ap holders_at (seen-without import_name y imports.proxies keeps.proxies_rise);
      pending = times-with (release_of y (received_of imports y)) imports.releases;
    })

pub others-same : (x y : Name) (imports : Imported) (capacity : ℕ) → KeepsImports imports capacity → 0 < holders_of imports y → is_same x y ≡ false → is_same_side x.side imports.side ≡ false → SameCounts x imports (unheld y imports)
others-same x y imports capacity keeps h d side = go (nat_lt 1 (holders_of imports y)) refl
  where
    go : (b : Bool) → nat_lt 1 (holders_of imports y) ≡ b → SameCounts x imports (unheld y imports)
    go true t = let more : 1 < holders_of imports y = grind (arith, nat_tests) in record {
      received = received-unheld x y imports more;
      holders = let e = holders-unheld x y imports more in let f : if_same x y 1 ≡ 0 = simp d refl in omega (arith, e, f);
      pending = pending-unheld x y imports more;
    }
    go false t =
        let one : holders_of imports y ≡ 1 = grind (arith, nat_tests) in
        let apart = keys-same imports.side x y side (keeps.others y (there-held y imports.proxies h)) ∙ d in
        subst (λ (i : Imported). SameCounts x imports i) (sym (is-last y imports one)) (record {
          received = ap received_at (seen-without-other import_name y x imports.proxies d);
          holders = ap holders_at (seen-without-other import_name y x imports.proxies d);
          pending = ap times_at (times-with-other (release_key x) (release_of y (received_of imports y)) imports.releases apart);
        })

-- ---- an instance that died

is_other : ℕ → Name → Bool
is_other instance x = not (x.instance == instance)

equal : (n : ℕ) → not (n == n) ≡ false
equal n = grind (arith, nat_tests)

pub none-left : (x : Name) (imports : Imported) → HasNone x (purged_of x.instance imports)
unfolding is_other
none-left x imports = record {
  received = ap received_at (seen-left-out import_name (is_proxy_of_other x.instance) (is_other x.instance) x imports.proxies (λ e. refl) (equal x.instance));
  holders = ap holders_at (seen-left-out import_name (is_proxy_of_other x.instance) (is_other x.instance) x imports.proxies (λ e. refl) (equal x.instance));
  pending = ap times_at (seen-left-out release_name (is_release_of_other x.instance) (is_other x.instance) (release_key x) imports.releases (λ e. refl) (equal x.instance));
}
