-- Pending releases, and a further one.
use Rattle.std.proofs.Common.{◌≡◌, List, true, false, refl}
use Rattle.np_proxy_release.specs.declared.release.Release.{Release}
use Rattle.np_proxy.specs.Named.{is_there, at_name, with_named}
use Rattle.np_proxy.specs.Imports.{release_name, more_times, with_release}

pub added-there : (r : Release) (rs : List Release) → is_there release_name (release_name r) rs ≡ true → with_release r rs ≡ at_name release_name (release_name r) (more_times r.times) rs
added-there r rs there = simp there refl

pub added-new : (r : Release) (rs : List Release) → is_there release_name (release_name r) rs ≡ false → with_release r rs ≡ with_named release_name r rs
added-new r rs new = simp new refl
