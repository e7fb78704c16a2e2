-- The objects of one side that the other side may name, each with how many references are out. (This project's own.)
use Rattle.std.specs.Prelude.{◌≡◌, ℕ, ◌+◌, ◌-◌, ◌<◌, ◌==◌, not, List, filter, Bool, Option, Some, None}
use Rattle.np_values.specs.declared.name.Side.{Side}
use Rattle.np_values.specs.declared.name.Name.{Name}
use Rattle.np_proxy_release.specs.declared.release.Release.{Release}
use Rattle.np_proxy.specs.Named.{named_at, is_there, at_name, with_named, without_named}
use Rattle.np_proxy.specs.declared.export.Export.{Export}
use Rattle.np_proxy.specs.declared.error.ProxyError.{ProxyError}
use Rattle.np_proxy.specs.declared.error.ProxyError.TheVariants.{Unknown, TooMany, CountFull, NoMemory}

-- a side, and its objects that the other side may name, in rising order of names
pub record Exported : Type 0 where
  pub side : Side
  pub objects : List Export

abbrev pub export_name : Export → Name
export_name e = e.name

abbrev pub count_of : Option Export → ℕ
count_of None = 0
count_of (Some e) = e.out

-- how many references to the object are out: 0 where it isn't among the exports
abbrev pub out_of : Exported → Name → ℕ
out_of exports name = count_of (named_at export_name name exports.objects)

-- the object is among the exports
abbrev pub is_exported : Exported → Name → Bool
is_exported exports name = is_there export_name name exports.objects

-- the object of this side that a release names
abbrev pub released_name : Side → Release → Name
released_name side release = record { side = side; instance = release.instance; serial = release.serial }

abbrev pub sent_once : Export → Export
sent_once e = record e { out = e.out + 1 }

abbrev pub taken_back : ℕ → Export → Export
taken_back times e = record e { out = e.out - times }

-- a further export, none of whose references is out
abbrev pub added : Name → Exported → Exported
added name exports = record exports { objects = with_named export_name (record { name = name; out = 0 }) exports.objects }

-- one reference more is out
abbrev pub sent : Name → Exported → Exported
sent name exports = record exports { objects = at_name export_name name sent_once exports.objects }

-- so many references fewer are out
abbrev pub released : Name → ℕ → Exported → Exported
released name times exports = record exports { objects = at_name export_name name (taken_back times) exports.objects }

-- the object is no export any more
abbrev pub dropped : Name → Exported → Exported
dropped name exports = record exports { objects = without_named export_name name exports.objects }

abbrev pub is_of_other_instance : ℕ → Export → Bool
is_of_other_instance instance e = not (e.name.instance == instance)

-- no object of the instance is an export any more
abbrev pub purged : ℕ → Exported → Exported
purged instance exports = record exports { objects = filter (is_of_other_instance instance) exports.objects }

-- a release is refused where none of its references is out, or fewer than it gives back, and for no other reason
abbrev pub IsRefusal : Exported → Release → ProxyError → Type 0
IsRefusal exports r (Unknown instance serial) =
    (instance ≡ r.instance) × (serial ≡ r.serial) × (out_of exports (released_name exports.side r) ≡ 0)
IsRefusal exports r (TooMany times out) =
    (times ≡ r.times) × (out ≡ out_of exports (released_name exports.side r)) × (0 < out) × (out < times)
IsRefusal exports r (CountFull instance serial) = ⊥
IsRefusal exports r NoMemory = ⊥
