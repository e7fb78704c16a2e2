-- What an appending leaves. (This project's own.)
use Rattle.std.specs.Prelude.{◌≡◌, ℕ, List, ◌++◌}

-- the old bytes, and then those that were added
pub record Extends (old new : List ℕ) : Type 0 where
  pub added : List ℕ
  pub parts : new ≡ old ++ added
