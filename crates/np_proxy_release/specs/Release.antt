-- What a list of releases keeps. (This project's own.)
use Rattle.std.specs.Prelude.{◌≡◌, ◌<◌, List, [], ◌∷◌, Bool, true, nat_lt, ◌==◌, ◌&&◌, ◌||◌, Option, Some, None}
use Rattle.np_proxy_release.specs.declared.release.Release.{Release}

-- instance, serial and times are counted from 1
pub record IsRelease (r : Release) : Type 0 where
  pub instance : 0 < r.instance
  pub serial : 0 < r.serial
  pub times : 0 < r.times

-- what the types of the fields say
pub record IsTypedRelease (r : Release) : Type 0 where
  pub instance : r.instance < 256
  pub serial : r.serial < 4294967296
  pub times : r.times < 4294967296

-- the name stands before the other one: by instance, and then by serial
abbrev pub is_released_before : Release → Release → Bool
is_released_before a b = nat_lt a.instance b.instance || (a.instance == b.instance && nat_lt a.serial b.serial)

-- it stands after the one before it, where there is one
abbrev pub is_behind : Option Release → Release → Bool
is_behind None r = true
is_behind (Some before) r = is_released_before before r

-- each is a release, and stands after the one before it
abbrev pub AreRisingFrom : Option Release → List Release → Type 0
AreRisingFrom before [] = Unit {0}
AreRisingFrom before (r ∷ releases) = IsRelease r × (is_behind before r ≡ true) × AreRisingFrom (Some r) releases

-- releases whose names rise, so that each name stands once
abbrev pub AreRising : List Release → Type 0
AreRising releases = AreRisingFrom None releases

-- what the types of the fields say of each
abbrev pub AreTypedReleases : List Release → Type 0
AreTypedReleases [] = Unit {0}
AreTypedReleases (r ∷ releases) = IsTypedRelease r × AreTypedReleases releases
