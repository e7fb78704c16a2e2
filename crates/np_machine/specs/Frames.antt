-- The frames of a side's stack, the newest first. (This project's own.)
use Rattle.std.specs.Prelude.{List, [], ◌∷◌, ◌++◌}
use Rattle.np_values.specs.declared.value.Value.{Value}
use Rattle.np_values.specs.declared.value.Value.TheVariants as values
use Rattle.np_machine.specs.declared.frame.Frame.{Frame}
use Rattle.np_machine.specs.declared.frame.Progress.{Progress}

-- the object of the newest frame
abbrev pub this_of : List Frame → Value
this_of [] = values.Void
this_of (a ∷ rest) = a.this

-- the registers of the newest frame
abbrev pub registers_of : List Frame → List Value
registers_of [] = []
registers_of (a ∷ rest) = a.registers

-- the newest frame has these registers now
abbrev pub with_registers : List Value → List Frame → List Frame
with_registers vs [] = []
with_registers vs (a ∷ rest) = record a { registers = vs } ∷ rest

-- the newest frame's progress is changed
abbrev pub with_progress : (Progress → Progress) → List Frame → List Frame
with_progress change [] = []
with_progress change (a ∷ rest) = record a { progress = change a.progress } ∷ rest

-- the values of all frames: of each its object, and then its registers
abbrev pub frame_values : List Frame → List Value
frame_values [] = []
frame_values (a ∷ rest) = a.this ∷ (a.registers ++ frame_values rest)
