-- Pending releases as a message's list. (This project's own.)
use Rattle.std.specs.Prelude.{◌≡◌, ◌<◌, ◌&&◌, nat_lt, ℕ, List, [], ◌∷◌, Bool, true}
use Rattle.std.specs.List.{list_all}
use Rattle.np_values.specs.declared.name.Name.{Name}
use Rattle.np_proxy_release.specs.declared.release.Release.{Release}
use Rattle.np_proxy_release.specs.Release.{AreRising}
use Rattle.np_proxy.specs.Named.{is_rising}
use Rattle.np_proxy.specs.declared.import.Import.{Import}
use Rattle.np_proxy.specs.Imports.{Imported, release_name, holders_of, accepted, held, unheld, cleared, purged_of}

-- its numbers are counted from 1
abbrev pub is_counted : Release → Bool
is_counted r = nat_lt 0 r.instance && (nat_lt 0 r.serial && nat_lt 0 r.times)

abbrev pub are_counted : List Release → Bool
are_counted [] = true
are_counted (r ∷ rs) = is_counted r && are_counted rs

-- releases in rising order of names, whose numbers are counted from 1, are the list of a message
abbrev pub RiseAsMessage : Type 0
RiseAsMessage = (rs : List Release) → is_rising release_name rs ≡ true → are_counted rs ≡ true → AreRising rs

-- ---- names that are counted from 1

abbrev pub is_counted_name : Name → Bool
is_counted_name x = nat_lt 0 x.instance && nat_lt 0 x.serial

abbrev pub is_counted_proxy : Import → Bool
is_counted_proxy e = is_counted_name e.name

abbrev pub is_counted_pending : Release → Bool
is_counted_pending r = is_counted_name (release_name r)

-- the names of all proxies and of all pending releases are counted from 1
pub record HasCountedNames (imports : Imported) : Type 0 where
  pub proxies : list_all is_counted_proxy imports.proxies ≡ true
  pub releases : list_all is_counted_pending imports.releases ≡ true

-- A pending release names an object that came: where all names that are accepted are counted from 1, all that the tables keep are.
abbrev pub AcceptsCounted : Type 0
AcceptsCounted = (names : List Name) (imports : Imported) → list_all is_counted_name names ≡ true → HasCountedNames imports → HasCountedNames (accepted names imports)

abbrev pub HoldsCounted : Type 0
HoldsCounted = (x : Name) (imports : Imported) → HasCountedNames imports → HasCountedNames (held x imports)

abbrev pub DropsCounted : Type 0
DropsCounted = (x : Name) (imports : Imported) → 0 < holders_of imports x → HasCountedNames imports → HasCountedNames (unheld x imports)

abbrev pub ClearsCounted : Type 0
ClearsCounted = (imports : Imported) → HasCountedNames imports → HasCountedNames (cleared imports)

abbrev pub PurgesCounted : Type 0
PurgesCounted = (instance : ℕ) (imports : Imported) → HasCountedNames imports → HasCountedNames (purged_of instance imports)
