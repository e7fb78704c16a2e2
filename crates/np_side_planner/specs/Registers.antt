-- Whose registers a plan reads and writes. (This project's own.)
use Rattle.std.specs.Prelude.{ℕ}
use Rattle.np_machine.specs.declared.place.Place.{Place}
use Rattle.np_machine.specs.declared.place.Place.TheVariants.{PageRegister, Register}
use Rattle.np_side_planner.specs.declared.operands.Registers.{Registers}
use Rattle.np_side_planner.specs.declared.operands.Registers.TheVariants.{OfFrame, OfPage}

-- the place of a register
abbrev pub register_of : Registers → ℕ → Place
register_of OfFrame n = Register n
register_of OfPage n = PageRegister n
