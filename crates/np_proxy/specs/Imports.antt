-- The proxies of one side: the other side's objects that it names, each with its counts. (This project's own.)
use Rattle.std.specs.Prelude.{◌≡◌, ℕ, ◌+◌, ◌-◌, ◌<◌, ◌≤◌, ◌^◌, ◌==◌, ◌&&◌, ◌||◌, nat_lt, not, List, [], ◌∷◌, map, filter, drop, length, slice_index_or, slice_set, Bool, true, false, if◌then◌else◌, Option, Some, None}
use Rattle.np_values.specs.declared.name.Side.{Side}
use Rattle.np_values.specs.declared.name.Side.TheVariants.{Page}
use Rattle.np_values.specs.declared.name.Name.{Name}
use Rattle.np_values.specs.declared.value.Value.{Value}
use Rattle.np_values.specs.declared.value.Value.TheVariants.{Void, Null, Bool as TruthValue, Int, Double, Text, Object}
use Rattle.std.specs.List.{flat_map, list_all}
use Rattle.np_values.specs.Name.{is_same_side}
use Rattle.np_proxy_release.specs.declared.release.Release.{Release}
use Rattle.np_proxy.specs.declared.import.Import.{Import}
use Rattle.np_proxy.specs.declared.error.ProxyError.{ProxyError}
use Rattle.np_proxy.specs.declared.error.ProxyError.TheVariants.{Unknown, TooMany, CountFull, NoMemory}
use Rattle.np_proxy.specs.Named.{is_same, named_at, is_there, at_name, with_named, without_named, is_rising}

-- ---- the tables

-- a side; its proxies, in rising order of names; its pending releases, in rising order; and for each number of an
-- instance whether it was purged
pub record Imported : Type 0 where
  pub side : Side
  pub proxies : List Import
  pub releases : List Release
  pub purged : List Bool

abbrev pub import_name : Import → Name
import_name e = e.name

-- releases have no side: they are in the order of names of one side
abbrev pub release_name : Release → Name
release_name r = record { side = Page; instance = r.instance; serial = r.serial }

abbrev pub release_key : Name → Name
release_key x = record x { side = Page }

abbrev pub received_at : Option Import → ℕ
received_at None = 0
received_at (Some e) = e.received

abbrev pub holders_at : Option Import → ℕ
holders_at None = 0
holders_at (Some e) = e.holders

abbrev pub times_at : Option Release → ℕ
times_at None = 0
times_at (Some r) = r.times

abbrev pub received_in : Name → List Import → ℕ
received_in x es = received_at (named_at import_name x es)

abbrev pub holders_in : Name → List Import → ℕ
holders_in x es = holders_at (named_at import_name x es)

abbrev pub times_in : Name → List Release → ℕ
times_in x rs = times_at (named_at release_name (release_key x) rs)

-- how often the object's name came since its last release arose
abbrev pub received_of : Imported → Name → ℕ
received_of imports x = received_in x imports.proxies

-- how many references of this side the proxy stands for; 0 where there is no proxy
abbrev pub holders_of : Imported → Name → ℕ
holders_of imports x = holders_in x imports.proxies

-- how many references to the object are to be given back
abbrev pub pending_of : Imported → Name → ℕ
pending_of imports x = times_in x imports.releases

abbrev pub was_purged : List Bool → ℕ → Bool
was_purged purged instance = slice_index_or purged instance false

-- ---- references that come

-- the name, where it is of the other side
abbrev pub other_name : Side → Name → List Name
other_name side x = if is_same_side x.side side then [] else x ∷ []

abbrev pub name_of_value : Side → Value → List Name
name_of_value side (Object x) = other_name side x
name_of_value side Void = []
name_of_value side Null = []
name_of_value side (TruthValue b) = []
name_of_value side (Int n) = []
name_of_value side (Double bytes) = []
name_of_value side (Text text) = []

-- the other side's names among the values, in their order
abbrev pub names_of : Side → List Value → List Name
names_of side values = flat_map (name_of_value side) values

-- what a message brought to a side: names of the other side
pub record Referenced : Type 0 where
  pub side : Side
  pub names : List Name

abbrev pub are_others : Side → List Name → Bool
are_others side [] = true
are_others side (x ∷ xs) = not (is_same_side x.side side) && are_others side xs

abbrev pub came_again : Import → Import
came_again e = record e { received = e.received + 1; holders = e.holders + 1 }

abbrev pub first_came : Name → Import
first_came x = record { name = x; received = 1; holders = 1 }

-- a name came; one of a purged instance changes nothing
abbrev pub taken_up : List Bool → Name → List Import → List Import
taken_up purged x es =
    if was_purged purged x.instance then es
    else if is_there import_name x es then at_name import_name x came_again es
    else with_named import_name (first_came x) es

abbrev pub all_taken_up : List Bool → List Name → List Import → List Import
all_taken_up purged [] es = es
all_taken_up purged (x ∷ xs) es = all_taken_up purged xs (taken_up purged x es)

-- the proxies after these names came, one after another
abbrev pub accepted : List Name → Imported → Imported
accepted names imports = record imports { proxies = all_taken_up imports.purged names imports.proxies }

-- one more of this name can be counted
abbrev pub has_room : List Bool → List Release → Name → List Import → Bool
has_room purged rs x es = was_purged purged x.instance || nat_lt (received_in x es + times_in x rs) 4294967295

abbrev pub full_among : List Bool → List Release → List Name → List Import → Option Name
full_among purged rs [] es = None
full_among purged rs (x ∷ xs) es =
    if has_room purged rs x es then full_among purged rs xs (taken_up purged x es) else Some x

-- the first of the names whose count, with what is pending of it, would pass 4,294,967,295
abbrev pub first_full : Imported → List Name → Option Name
first_full imports names = full_among imports.purged imports.releases names imports.proxies

-- how often the name is among the names
abbrev pub count_in : Name → List Name → ℕ
count_in x names = length (filter (is_same x) names)

-- why names weren't accepted: the count of the first that is full would pass its limit, or memory ran out
abbrev pub IsCause : ProxyError → Option Name → Type 0
IsCause (CountFull instance serial) full = (x : Name) × (full ≡ Some x) × (instance ≡ x.instance) × (serial ≡ x.serial)
IsCause NoMemory full = full ≡ None
IsCause (Unknown instance serial) full = ⊥
IsCause (TooMany times out) full = ⊥

-- ---- references that this side takes and drops

abbrev pub held_once_more : Import → Import
held_once_more e = record e { holders = e.holders + 1 }

abbrev pub held_once_less : Import → Import
held_once_less e = record e { holders = e.holders - 1 }

-- the proxy stands for one reference more
abbrev pub held : Name → Imported → Imported
held x imports = record imports { proxies = at_name import_name x held_once_more imports.proxies }

abbrev pub more_times : ℕ → Release → Release
more_times n r = record r { times = r.times + n }

-- so many references to the object are to be given back, besides those that already are
abbrev pub with_release : Release → List Release → List Release
with_release r rs =
    if is_there release_name (release_name r) rs then at_name release_name (release_name r) (more_times r.times) rs
    else with_named release_name r rs

-- a release of all references that came
abbrev pub release_of : Name → ℕ → Release
release_of x times = record { instance = x.instance; serial = x.serial; times = times }

-- the proxy stands for one reference less; where that was the last, the proxy is gone, and what came is pending
abbrev pub unheld : Name → Imported → Imported
unheld x imports =
    if nat_lt 1 (holders_of imports x) then record imports { proxies = at_name import_name x held_once_less imports.proxies }
    else record imports {
      proxies = without_named import_name x imports.proxies;
      releases = with_release (release_of x (received_of imports x)) imports.releases;
    }

-- ---- a message that carries releases, and an instance that dies

-- the first 1,024 pending releases are in a message
abbrev pub cleared : Imported → Imported
cleared imports = record imports { releases = drop 1024 imports.releases }

abbrev pub is_held_in : ℕ → Import → Bool
is_held_in instance e = e.name.instance == instance && nat_lt 0 e.holders

-- the instance's names that this side still holds, in rising order
abbrev pub names_held : ℕ → Imported → List Name
names_held instance imports = map import_name (filter (is_held_in instance) imports.proxies)

abbrev pub is_proxy_of_other : ℕ → Import → Bool
is_proxy_of_other instance e = not (e.name.instance == instance)

abbrev pub is_release_of_other : ℕ → Release → Bool
is_release_of_other instance r = not (r.instance == instance)

-- neither proxies nor pending releases of the instance are left, and none will be
abbrev pub purged_of : ℕ → Imported → Imported
purged_of instance imports = record imports {
  proxies = filter (is_proxy_of_other instance) imports.proxies;
  releases = filter (is_release_of_other instance) imports.releases;
  purged = slice_set imports.purged instance true;
}

-- ---- what the tables keep

pub record KeepsImports (imports : Imported) (capacity : ℕ) : Type 0 where
  pub proxies_rise : is_rising import_name imports.proxies ≡ true
  pub releases_rise : is_rising release_name imports.releases ≡ true
  -- each proxy finds room for its release
  pub room : length imports.proxies + length imports.releases ≤ capacity
  -- proxies are of the other side
  pub others : (x : Name) → is_there import_name x imports.proxies ≡ true → is_same_side x.side imports.side ≡ false
  -- what came can be released
  pub fit : (x : Name) → is_same_side x.side imports.side ≡ false → received_of imports x + pending_of imports x < 2 ^ 32

-- the object came at least once
abbrev pub has_come : Import → Bool
has_come e = nat_lt 0 e.received

-- at least one reference is given back
abbrev pub gives_back : Release → Bool
gives_back r = nat_lt 0 r.times

-- its numbers are of their types
abbrev pub is_typed : Release → Bool
is_typed r = nat_lt r.instance 256 && (nat_lt r.serial 4294967296 && nat_lt r.times 4294967296)

pub record AreCounted (proxies : List Import) (releases : List Release) : Type 0 where
  pub came : list_all has_come proxies ≡ true
  pub given : list_all gives_back releases ≡ true
  pub typed : list_all is_typed releases ≡ true

pub record HoldsImports (imports : Imported) (capacity : ℕ) : Type 0 where
  pub keeps : KeepsImports imports capacity
  pub counted : AreCounted imports.proxies imports.releases
