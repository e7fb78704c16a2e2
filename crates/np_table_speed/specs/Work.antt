-- What is measured. (This project's own.)
use Rattle.std.specs.Prelude.{◌≡◌, true}
use Rattle.np_values.specs.declared.name.Name.{Name}
use Rattle.np_objects.specs.Objects.{Objects, is_live, holds_in}

-- the object lives and isn't held
pub record IsIdle (x : Name) (s : Objects) : Type 0 where
  pub live : is_live x s ≡ true
  pub unheld : holds_in x s ≡ 0
