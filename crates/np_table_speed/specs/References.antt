-- What is measured of the references between the sides: a plug-in's objects and its proxies of the page's. (This project's own.)
use Rattle.std.specs.Prelude.{◌≡◌, ℕ, ◌+◌, ◌<◌, ◌≤◌, true, false}
use Rattle.np_values.specs.declared.name.Side.TheVariants.{Page, Plug}
use Rattle.np_values.specs.declared.name.Name.{Name}
use Rattle.np_proxy.specs.Exports.{Exported, is_exported, out_of}
use Rattle.np_proxy.specs.Imports.{Imported, holders_of, was_purged}
use Rattle.np_proxy.specs.Counts.{if_same}
use Rattle.np_proxy.specs.declared.error.ProxyError.{ProxyError}
use Rattle.np_proxy.specs.declared.error.ProxyError.TheVariants.{Unknown, TooMany, CountFull, NoMemory}

-- the object is exported, and none of its references is out
pub record IsReady (x : Name) (exports : Exported) : Type 0 where
  pub own : x.side ≡ Plug
  pub exported : is_exported exports x ≡ true
  pub none : out_of exports x ≡ 0

-- no export has a serial above this one
abbrev pub AreEarlier : ℕ → Exported → Type 0
AreEarlier serial exports = (x : Name) → is_exported exports x ≡ true → x.serial ≤ serial

-- the page's object has a proxy
pub record IsHeldProxy (x : Name) (imports : Imported) : Type 0 where
  pub other : x.side ≡ Page
  pub held : 0 < holders_of imports x

-- no instance was purged, and no proxy stands for more references than so many
pub record IsCounting (most : ℕ) (imports : Imported) : Type 0 where
  pub side : imports.side ≡ Plug
  pub unpurged : (number : ℕ) → was_purged imports.purged number ≡ false
  pub few : (x : Name) → holders_of imports x ≤ most

-- one reference more is held of this name, and of no other
pub record HasOneMore (y : Name) (old new : Imported) : Type 0 where
  pub side : new.side ≡ old.side
  pub purged : new.purged ≡ old.purged
  pub holders : (x : Name) → holders_of new x ≡ holders_of old x + if_same x y 1

-- a name that came isn't counted only where a count is full or memory ran out
abbrev pub IsStopped : ProxyError → Type 0
IsStopped (CountFull instance serial) = Unit {0}
IsStopped NoMemory = Unit {0}
IsStopped (Unknown instance serial) = ⊥
IsStopped (TooMany times out) = ⊥
