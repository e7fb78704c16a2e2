-- Names as numbers. (This project's own.)
use Rattle.std.specs.Prelude.{◌≡◌, ℕ, ◌+◌, ◌*◌, ◌<◌}
use Rattle.np_values.specs.declared.name.Side.{Side}
use Rattle.np_values.specs.declared.name.Side.TheVariants.{Page, Plug}
use Rattle.np_values.specs.declared.name.Name.{Name}

abbrev pub side_number : Side → ℕ
side_number Page = 0
side_number Plug = 1

-- side, instance and serial, one after another; numbers of names rise as names do
abbrev pub as_number : Name → ℕ
as_number x = side_number x.side * 1099511627776 + x.instance * 4294967296 + x.serial

-- what the types of the fields say
pub record IsTypedName (x : Name) : Type 0 where
  pub instance : x.instance < 256
  pub serial : x.serial < 4294967296

-- the number is the name's
pub record IsNumbered (x : Name) (number : ℕ) : Type 0 where
  pub typed : IsTypedName x
  pub value : number ≡ as_number x
  pub small : number < 2199023255552
