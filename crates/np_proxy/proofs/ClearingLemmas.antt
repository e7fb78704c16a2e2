-- Counts of releases that a message carries, of names that are held, and of an instance that died.
use Rattle.std.proofs.Common.{◌≡◌, ◌+◌, ℕ, zero, suc, List, [], ◌∷◌, take, drop, map, replicate, Bool, true, false, refl, sym, ap, ◌∙◌, subst, arith}
use Rattle.std.specs.Prelude.{nat_lt, ◌==◌, ◌&&◌, not, if◌then◌else◌}
use Rattle.std.specs.List.{filter}
use Rattle.std.proofs.lemmas.Bool.Decides.{nat_tests}
use Rattle.std.proofs.lemmas.List.{get_or-set_other, get_or-replicate, get_or_past, length-replicate}
use Rattle.np_values.specs.declared.name.Name.{Name}
use Rattle.np_proxy_release.specs.declared.release.Release.{Release}
use Rattle.np_proxy.specs.declared.import.Import.{Import}
use Rattle.np_proxy.specs.Named.{is_same, named_at, is_there, all_after, is_rising}
use Rattle.np_proxy.specs.Imports.{Imported, KeepsImports, import_name, release_name, release_key, received_at, holders_at, times_at, holders_in, count_in, was_purged, cleared, purged_of, is_held_in, is_proxy_of_other, is_release_of_other}
use Rattle.np_proxy.specs.Counts.{SameCounts, GivesBack}
use Rattle.np_proxy.proofs.Names.{and_parts, same-is}
use Rattle.np_proxy.proofs.Finding.{none-after, not-there}
use Rattle.np_proxy.proofs.Looking.{none-there, seen-kept}

-- ---- releases that a message carries

pub carried-and-left : (n : ℕ) (k : Name) (rs : List Release) → is_rising release_name rs ≡ true → times_at (named_at release_name k (drop n rs)) + times_at (named_at release_name k (take n rs)) ≡ times_at (named_at release_name k rs)
carried-and-left zero k rs r = omega arith
carried-and-left (suc n) k [] r = omega arith
carried-and-left (suc n) k (e ∷ rs) r = go (is_same k (release_name e)) refl (carried-and-left n k rs (and_parts (all_after release_name (release_name e) rs) (is_rising release_name rs) r).1)
  where
    left : is_same k (release_name e) ≡ true → times_at (named_at release_name k rs) ≡ 0
    left q =
        let after = (and_parts (all_after release_name (release_name e) rs) (is_rising release_name rs) r).0 in
        ap times_at (none-there release_name k rs (none-after release_name k rs (subst (λ (m : Name). all_after release_name m rs ≡ true) (sym (same-is k (release_name e) q)) after)))

    go : (b : Bool) → is_same k (release_name e) ≡ b → times_at (named_at release_name k (drop n rs)) + times_at (named_at release_name k (take n rs)) ≡ times_at (named_at release_name k rs)
        → times_at (named_at release_name k (drop (suc n) (e ∷ rs))) + times_at (named_at release_name k (take (suc n) (e ∷ rs))) ≡ times_at (named_at release_name k (e ∷ rs))
    go true q ih = let none = left q in simp q (omega (arith, ih, none))
    go false q ih = simp q ih

pub clears-count : (x : Name) (imports : Imported) (capacity : ℕ) → KeepsImports imports capacity → GivesBack x imports (cleared imports)
clears-count x imports capacity keeps = record { received = refl; holders = refl; pending = carried-and-left 1024 (release_key x) imports.releases keeps.releases_rise }

-- ---- names that are held

held-more : (x : Name) (instance : ℕ) (e : Import) (es : List Import) → is_same x e.name ≡ false → count_in x (map import_name (filter (is_held_in instance) (e ∷ es))) ≡ count_in x (map import_name (filter (is_held_in instance) es))
held-more x instance e es d = go (is_held_in instance e) refl
  where
    go : (b : Bool) → is_held_in instance e ≡ b → count_in x (map import_name (filter (is_held_in instance) (e ∷ es))) ≡ count_in x (map import_name (filter (is_held_in instance) es))
    go true q = simp (q, d) refl
    go false q = simp q refl

held-first : (x : Name) (instance : ℕ) (e : Import) (es : List Import) → is_same x e.name ≡ true → count_in x (map import_name (filter (is_held_in instance) es)) ≡ 0
    → count_in x (map import_name (filter (is_held_in instance) (e ∷ es))) ≡ (if e.name.instance == instance && nat_lt 0 e.holders then 1 else 0)
held-first x instance e es q none = go (is_held_in instance e) refl
  where
    go : (b : Bool) → is_held_in instance e ≡ b → count_in x (map import_name (filter (is_held_in instance) (e ∷ es))) ≡ (if e.name.instance == instance && nat_lt 0 e.holders then 1 else 0)
    go true h = simp (h, q) (omega (arith, none))
    go false h = simp h none

none-held : (x : Name) (instance : ℕ) (es : List Import) → is_there import_name x es ≡ false → count_in x (map import_name (filter (is_held_in instance) es)) ≡ 0
none-held x instance [] n = refl
none-held x instance (e ∷ es) n =
    let parts = not-there import_name x e es n in
    held-more x instance e es parts.0 ∙ none-held x instance es parts.1

pub held-names : (x : Name) (instance : ℕ) (es : List Import) → is_rising import_name es ≡ true → count_in x (map import_name (filter (is_held_in instance) es)) ≡ (if x.instance == instance && nat_lt 0 (holders_in x es) then 1 else 0)
held-names x instance [] r = go (x.instance == instance)
  where
    go : (b : Bool) → ◌≡◌ {A = ℕ} 0 (if b && false then 1 else 0)
    go true = refl
    go false = refl
held-names x instance (e ∷ es) r = go (is_same x e.name) refl (held-names x instance es parts.1)
  where
    parts : (all_after import_name e.name es ≡ true) × (is_rising import_name es ≡ true)
    parts = and_parts (all_after import_name e.name es) (is_rising import_name es) r

    go : (b : Bool) → is_same x e.name ≡ b → count_in x (map import_name (filter (is_held_in instance) es)) ≡ (if x.instance == instance && nat_lt 0 (holders_in x es) then 1 else 0)
        → count_in x (map import_name (filter (is_held_in instance) (e ∷ es))) ≡ (if x.instance == instance && nat_lt 0 (holders_in x (e ∷ es)) then 1 else 0)
    go true q ih =
        let after = none-after import_name x es (subst (λ (m : Name). all_after import_name m es ≡ true) (sym (same-is x e.name q)) parts.0) in
        let first = held-first x instance e es q (none-held x instance es after) in
        simp q (subst (λ (m : Name). count_in x (map import_name (filter (is_held_in instance) (e ∷ es))) ≡ (if m.instance == instance && nat_lt 0 e.holders then 1 else 0)) (sym (same-is x e.name q)) first)
    go false q ih = simp q (held-more x instance e es q ∙ ih)

-- ---- an instance that died

is_other : ℕ → Name → Bool
is_other instance x = not (x.instance == instance)

pub others-kept : (x : Name) (instance : ℕ) (imports : Imported) → (x.instance == instance) ≡ false → SameCounts x imports (purged_of instance imports)
unfolding is_other
others-kept x instance imports d =
    let other : not (x.instance == instance) ≡ true = simp d refl in
    let e = seen-kept import_name (is_proxy_of_other instance) (is_other instance) x imports.proxies (λ e. refl) other in
    record {
      received = ap received_at e;
      holders = ap holders_at e;
      pending = ap times_at (seen-kept release_name (is_release_of_other instance) (is_other instance) (release_key x) imports.releases (λ e. refl) other);
    }

apart : (m n : ℕ) → (m == n) ≡ false → m ≡ n → ⊥
apart m n d e = grind (arith, nat_tests)

pub marks-kept : (number instance : ℕ) (imports : Imported) → (number == instance) ≡ false → was_purged (purged_of instance imports).purged number ≡ was_purged imports.purged number
marks-kept number instance imports d = get_or-set_other imports.purged instance number true false (apart number instance d)

pub none-purged : (number : ℕ) → was_purged (replicate 256 false) number ≡ false
none-purged number = go (nat_lt number 256) refl
  where
    go : (b : Bool) → nat_lt number 256 ≡ b → was_purged (replicate 256 false) number ≡ false
    go true t = get_or-replicate 256 number false false (grind (arith, nat_tests))
    go false t = let n = length-replicate 256 false in get_or_past (replicate 256 false) number false (grind (arith, nat_tests))
