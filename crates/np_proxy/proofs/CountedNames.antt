-- Names that are counted from 1 stay so.
use Rattle.std.proofs.Common.{◌≡◌, ◌<◌, ℕ, List, [], ◌∷◌, Bool, true, false, refl, true≢false, sym}
use Rattle.std.specs.Prelude.{nat_lt, ◌&&◌}
use Rattle.std.specs.List.{list_all}
use Rattle.np_values.specs.declared.name.Name.{Name}
use Rattle.np_proxy_release.specs.declared.release.Release.{Release}
use Rattle.np_proxy_release.specs.Release.{AreRising}
use Rattle.np_proxy.specs.declared.import.Import.{Import}
use Rattle.np_proxy.specs.Named.{is_same, is_there, is_rising}
use Rattle.np_proxy.specs.Imports.{Imported, import_name, release_name, holders_of, received_of, was_purged, came_again, first_came, taken_up, all_taken_up, accepted, held_once_more, held_once_less, held, more_times, with_release, release_of, unheld, cleared, purged_of, gives_back, is_proxy_of_other, is_release_of_other}
use Rattle.np_proxy.specs.Sending.{is_counted, are_counted, is_counted_name, is_counted_proxy, is_counted_pending, HasCountedNames}
use Rattle.np_proxy.proofs.Names.{and_parts, and_both, same-is}
use Rattle.np_proxy.proofs.CountedLemmas.{all-at, all-with, all-without, all-filter, all-drop}
use Rattle.np_proxy.proofs.KeepingLemmas.{there-held}
use Rattle.np_proxy.proofs.SendingLemmas.{rise-as-message}

taken-counted : (purged : List Bool) (x : Name) (es : List Import) → is_counted_name x ≡ true → list_all is_counted_proxy es ≡ true → list_all is_counted_proxy (taken_up purged x es) ≡ true
taken-counted purged x es t a = go (was_purged purged x.instance) refl (is_there import_name x es) refl
  where
    go : (b : Bool) → was_purged purged x.instance ≡ b → (d : Bool) → is_there import_name x es ≡ d → list_all is_counted_proxy (taken_up purged x es) ≡ true
    go true p d q = simp p a
    go false p true q = simp (p, q) (all-at import_name is_counted_proxy x came_again es (λ e h. h) a)
    go false p false q = simp (p, q) (all-with import_name is_counted_proxy (first_came x) es t a)

all-taken-counted : (purged : List Bool) (xs : List Name) (es : List Import) → list_all is_counted_name xs ≡ true → list_all is_counted_proxy es ≡ true → list_all is_counted_proxy (all_taken_up purged xs es) ≡ true
all-taken-counted purged [] es n a = a
all-taken-counted purged (x ∷ xs) es n a =
    let parts = and_parts (is_counted_name x) (list_all is_counted_name xs) n in
    all-taken-counted purged xs (taken_up purged x es) parts.1 (taken-counted purged x es parts.0 a)

pub accepts-counted : (names : List Name) (imports : Imported) → list_all is_counted_name names ≡ true → HasCountedNames imports → HasCountedNames (accepted names imports)
accepts-counted names imports n h = record { proxies = all-taken-counted imports.purged names imports.proxies n h.proxies; releases = h.releases }

pub holds-counted : (x : Name) (imports : Imported) → HasCountedNames imports → HasCountedNames (held x imports)
holds-counted x imports h = record { proxies = all-at import_name is_counted_proxy x held_once_more imports.proxies (λ e t. t) h.proxies; releases = h.releases }

-- a proxy that is there has a counted name
counted-there : (x : Name) (es : List Import) → list_all is_counted_proxy es ≡ true → is_there import_name x es ≡ true → is_counted_name x ≡ true
counted-there x [] a t = absurd (true≢false (sym t))
counted-there x (e ∷ es) a t = go (is_same x e.name) refl (λ u. counted-there x es parts.1 u)
  where
    parts : (is_counted_proxy e ≡ true) × (list_all is_counted_proxy es ≡ true)
    parts = and_parts (is_counted_proxy e) (list_all is_counted_proxy es) a

    go : (b : Bool) → is_same x e.name ≡ b → (is_there import_name x es ≡ true → is_counted_name x ≡ true) → is_counted_name x ≡ true
    go true q ih = rw (same-is x e.name q) parts.0
    go false q ih = let t' : is_there import_name x es ≡ true = simp q at t in ih t'

pending-counted : (r : Release) (rs : List Release) → is_counted_pending r ≡ true → list_all is_counted_pending rs ≡ true → list_all is_counted_pending (with_release r rs) ≡ true
pending-counted r rs t a = go (is_there release_name (release_name r) rs) refl
  where
    go : (b : Bool) → is_there release_name (release_name r) rs ≡ b → list_all is_counted_pending (with_release r rs) ≡ true
    go true q = simp q (all-at release_name is_counted_pending (release_name r) (more_times r.times) rs (λ e h. h) a)
    go false q = simp q (all-with release_name is_counted_pending r rs t a)

pub drops-counted : (x : Name) (imports : Imported) → 0 < holders_of imports x → HasCountedNames imports → HasCountedNames (unheld x imports)
drops-counted x imports some h = go (nat_lt 1 (holders_of imports x)) refl
  where
    go : (b : Bool) → nat_lt 1 (holders_of imports x) ≡ b → HasCountedNames (unheld x imports)
    go true q = simp q (record { proxies = all-at import_name is_counted_proxy x held_once_less imports.proxies (λ e t. t) h.proxies; releases = h.releases })
    go false q = simp q (record {
      proxies = all-without import_name is_counted_proxy x imports.proxies h.proxies;
      releases = pending-counted (release_of x (received_of imports x)) imports.releases (counted-there x imports.proxies h.proxies (there-held x imports.proxies some)) h.releases;
    })

pub clears-counted : (imports : Imported) → HasCountedNames imports → HasCountedNames (cleared imports)
clears-counted imports h = record { proxies = h.proxies; releases = all-drop is_counted_pending 1024 imports.releases h.releases }

pub purges-counted : (instance : ℕ) (imports : Imported) → HasCountedNames imports → HasCountedNames (purged_of instance imports)
purges-counted instance imports h = record {
  proxies = all-filter is_counted_proxy (is_proxy_of_other instance) imports.proxies h.proxies;
  releases = all-filter is_counted_pending (is_release_of_other instance) imports.releases h.releases;
}

-- ---- the list of a message

three : (a b c : Bool) → (a && b) ≡ true → c ≡ true → (a && (b && c)) ≡ true
three true b c e f = let e' : b ≡ true = e in simp (e', f) refl
three false b c e f = e

both : (rs : List Release) → list_all is_counted_pending rs ≡ true → list_all gives_back rs ≡ true → are_counted rs ≡ true
both [] n g = refl
both (r ∷ rs) n g =
    let p = and_parts (is_counted_pending r) (list_all is_counted_pending rs) n in
    let q = and_parts (gives_back r) (list_all gives_back rs) g in
    and_both (is_counted r) (are_counted rs) (three (nat_lt 0 r.instance) (nat_lt 0 r.serial) (nat_lt 0 r.times) p.0 q.0) (both rs p.1 q.1)

pub carries : (imports : Imported) → HasCountedNames imports → is_rising release_name imports.releases ≡ true → list_all gives_back imports.releases ≡ true → AreRising imports.releases
carries imports h rising given = rise-as-message imports.releases rising (both imports.releases h.releases given)
