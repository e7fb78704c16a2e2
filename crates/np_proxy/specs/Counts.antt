-- What each change does to the counts of every name, with no list in it. (This project's own.)
use Rattle.std.specs.Prelude.{◌≡◌, ℕ, ◌+◌, ◌<◌, ◌≤◌, ◌==◌, ◌&&◌, ◌||◌, nat_lt, List, take, true, false, if◌then◌else◌}
use Rattle.np_values.specs.declared.name.Name.{Name}
use Rattle.np_values.specs.Name.{is_same_side}
use Rattle.np_proxy.specs.Named.{is_same}
use Rattle.np_proxy.specs.Exports.{Exported, out_of, is_exported, added, sent, released, dropped, purged}
use Rattle.np_proxy.specs.Imports.{Imported, received_of, holders_of, pending_of, times_in, KeepsImports, was_purged, count_in, accepted, held, unheld, cleared, names_held, purged_of}

-- so many where both are the same name, else none
abbrev pub if_same : Name → Name → ℕ → ℕ
if_same x y n = if is_same x y then n else 0

-- ---- exports: a count is the sends of its name, less what was released of it

abbrev pub SendsCount : Type 0
SendsCount = (x y : Name) (exports : Exported) → is_exported exports y ≡ true
    → out_of (sent y exports) x ≡ out_of exports x + if_same x y 1

abbrev pub ReleasesCount : Type 0
ReleasesCount = (x y : Name) (times : ℕ) (exports : Exported) → times ≤ out_of exports y
    → out_of (released y times exports) x + if_same x y times ≡ out_of exports x

abbrev pub AddedCountFromNone : Type 0
AddedCountFromNone = (x y : Name) (exports : Exported) → is_exported exports y ≡ false
    → out_of (added y exports) x ≡ out_of exports x

-- ---- exports: which names are exported

-- it is an export where it was one, and its count stays
pub record SameExport (x : Name) (old new : Exported) : Type 0 where
  pub exported : is_exported new x ≡ is_exported old x
  pub out : out_of new x ≡ out_of old x

-- of a name that is no export none is out
abbrev pub NoExportIsOut : Type 0
NoExportIsOut = (x : Name) (exports : Exported) → is_exported exports x ≡ false → out_of exports x ≡ 0

-- a name that is added is an export from then on, and no other one becomes one
abbrev pub AddsOne : Type 0
AddsOne = (x y : Name) (exports : Exported) → is_exported exports y ≡ false
    → is_exported (added y exports) x ≡ (is_same x y || is_exported exports x)

-- sends and releases change counts alone
abbrev pub SendsKeepExports : Type 0
SendsKeepExports = (x y : Name) (exports : Exported) → is_exported (sent y exports) x ≡ is_exported exports x

abbrev pub ReleasesKeepExports : Type 0
ReleasesKeepExports = (x y : Name) (times : ℕ) (exports : Exported) → is_exported (released y times exports) x ≡ is_exported exports x

-- a name that is dropped takes no other one with it
abbrev pub DropsNoOther : Type 0
DropsNoOther = (x y : Name) (exports : Exported) → is_same x y ≡ false → SameExport x exports (dropped y exports)

-- a purge leaves no export of its instance, and those of the other instances stay
abbrev pub PurgesAnInstance : Type 0
PurgesAnInstance = (x : Name) (exports : Exported) → is_exported (purged x.instance exports) x ≡ false

abbrev pub PurgesNoOther : Type 0
PurgesNoOther = (x : Name) (instance : ℕ) (exports : Exported) → (x.instance == instance) ≡ false → SameExport x exports (purged instance exports)

-- ---- imports: a name that came counts as received and as held

-- the counts of the name stay
pub record SameCounts (x : Name) (old new : Imported) : Type 0 where
  pub received : received_of new x ≡ received_of old x
  pub holders : holders_of new x ≡ holders_of old x
  pub pending : pending_of new x ≡ pending_of old x

-- the last reference went: all that was received is pending
pub record LastGoes (x : Name) (old new : Imported) : Type 0 where
  pub received : received_of new x ≡ 0
  pub holders : holders_of new x ≡ 0
  pub pending : pending_of new x ≡ pending_of old x + received_of old x

-- nothing is counted of the name
pub record HasNone (x : Name) (imports : Imported) : Type 0 where
  pub received : received_of imports x ≡ 0
  pub holders : holders_of imports x ≡ 0
  pub pending : pending_of imports x ≡ 0

-- so many came, and each is held once
pub record CameOften (x : Name) (times : ℕ) (old new : Imported) : Type 0 where
  pub received : received_of new x ≡ received_of old x + times
  pub holders : holders_of new x ≡ holders_of old x + times
  pub pending : pending_of new x ≡ pending_of old x

-- a name counts as often as it came, unless its instance was purged
abbrev pub AcceptsCount : Type 0
AcceptsCount = (x : Name) (names : List Name) (imports : Imported) → was_purged imports.purged x.instance ≡ false
    → CameOften x (count_in x names) imports (accepted names imports)

abbrev pub PurgedDontCount : Type 0
PurgedDontCount = (x : Name) (names : List Name) (imports : Imported) → was_purged imports.purged x.instance ≡ true
    → SameCounts x imports (accepted names imports)

-- a further reference of this side, and one fewer that isn't the last, change the holders of their name alone
abbrev pub HoldsCount : Type 0
HoldsCount = (x y : Name) (imports : Imported) → 0 < holders_of imports y
    → (holders_of (held y imports) x ≡ holders_of imports x + if_same x y 1)
    × (received_of (held y imports) x ≡ received_of imports x)
    × (pending_of (held y imports) x ≡ pending_of imports x)

abbrev pub DropsCount : Type 0
DropsCount = (x y : Name) (imports : Imported) → 1 < holders_of imports y
    → (holders_of (unheld y imports) x + if_same x y 1 ≡ holders_of imports x)
    × (received_of (unheld y imports) x ≡ received_of imports x)
    × (pending_of (unheld y imports) x ≡ pending_of imports x)

abbrev pub LastCounts : Type 0
LastCounts = (y : Name) (imports : Imported) (capacity : ℕ) → KeepsImports imports capacity → holders_of imports y ≡ 1
    → LastGoes y imports (unheld y imports)

-- another name of the other side
abbrev pub OthersStay : Type 0
OthersStay = (x y : Name) (imports : Imported) (capacity : ℕ) → KeepsImports imports capacity → 0 < holders_of imports y
    → is_same x y ≡ false → is_same_side x.side imports.side ≡ false → SameCounts x imports (unheld y imports)

-- an instance that was purged has no count left
abbrev pub PurgeTakesAll : Type 0
PurgeTakesAll = (x : Name) (imports : Imported) → HasNone x (purged_of x.instance imports)

-- a purge changes no count of another instance, and no mark but its own
abbrev pub PurgeKeepsOthers : Type 0
PurgeKeepsOthers = (x : Name) (instance : ℕ) (imports : Imported) → (x.instance == instance) ≡ false → SameCounts x imports (purged_of instance imports)

abbrev pub PurgeMarksOne : Type 0
PurgeMarksOne = (number instance : ℕ) (imports : Imported) → (number == instance) ≡ false
    → was_purged (purged_of instance imports).purged number ≡ was_purged imports.purged number

-- what a message carries of the pending releases isn't pending any more, and nothing else changes
pub record GivesBack (x : Name) (old new : Imported) : Type 0 where
  pub received : received_of new x ≡ received_of old x
  pub holders : holders_of new x ≡ holders_of old x
  pub pending : pending_of new x + times_in x (take 1024 old.releases) ≡ pending_of old x

abbrev pub ClearsCount : Type 0
ClearsCount = (x : Name) (imports : Imported) (capacity : ℕ) → KeepsImports imports capacity → GivesBack x imports (cleared imports)

-- the names that are held of an instance are those that have holders, each once
abbrev pub HeldHaveHolders : Type 0
HeldHaveHolders = (x : Name) (instance : ℕ) (imports : Imported) (capacity : ℕ) → KeepsImports imports capacity
    → count_in x (names_held instance imports) ≡ (if x.instance == instance && nat_lt 0 (holders_of imports x) then 1 else 0)
