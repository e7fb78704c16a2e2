-- The end line of each ending. (This project's own.)
use Rattle.std.specs.Prelude.{ℕ, List}
use Rattle.np_model.specs.Journal.{end_line, refused_line}
use Rattle.np_end_stops.specs.declared.ending.Ending.{Ending}
use Rattle.np_end_stops.specs.declared.ending.Ending.TheVariants.{Done, Unsent, Ended, Failed, Refused}

-- the end line of a run that ended so
abbrev pub ending_line : Ending → List ℕ
ending_line Done = end_line 0
ending_line Unsent = end_line 6
ending_line Ended = end_line 5
ending_line Failed = end_line 6
ending_line (Refused r) = refused_line r
