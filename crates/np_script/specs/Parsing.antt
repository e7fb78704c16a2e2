-- What a reader of a whole script answers.
use Rattle.std.specs.Prelude.{◌≡◌, ◌≤◌, ℕ, List, length, Result, Ok, Err}
use Rattle.np_values.specs.declared.name.Side.{Side}
use Rattle.np_script_grammar.specs.Words.{lines_of}
use Rattle.np_script_grammar.specs.Order.{at_first}
use Rattle.np_script_grammar.specs.Grammar.{script_limit}
use Rattle.np_script_grammar.specs.Refusals.{IsRefusedLine, FirstError}
use Rattle.np_script_line_laws.specs.Laws.{last_place}
use Rattle.np_script_builder.specs.Building.{at_start}
use Rattle.np_script.specs.declared.error.ParseError.{ParseError}
use Rattle.np_script.specs.declared.error.ParseError.TheVariants as errors
use Rattle.np_script.specs.declared.reader.Reader.{Reader}
use Rattle.np_script.specs.Reading.{HasRead, CanRunOut}

-- nothing was read
pub record IsFresh (reader : Reader) : Type 0 where
  pub stands : reader.order ≡ at_first
  pub builds : reader.builder ≡ at_start
  pub count : reader.lines ≡ 0

-- all lines were read, and counted
pub record HasReadAll (side : Side) (bytes : List ℕ) (reader : Reader) : Type 0 where
  pub read : HasRead side (lines_of bytes) reader.order reader.builder
  pub count : reader.lines ≡ length (lines_of bytes)
  pub few : reader.lines ≤ length bytes

-- all lines were read, or one is refused, or memory ran out
abbrev pub ReadsAll : Side → List ℕ → Reader → Result (Unit {0}) ParseError → Type 0
ReadsAll side bytes reader (Ok done) = HasReadAll side bytes reader
ReadsAll side bytes reader (Err (errors.Script e)) = IsRefusedLine side (lines_of bytes) e
ReadsAll side bytes reader (Err errors.NoMemory) = CanRunOut side (lines_of bytes)

-- all lines were read, and a script may end after them
pub record HasReadScript (side : Side) (bytes : List ℕ) (reader : Reader) : Type 0 where
  pub size : length bytes ≤ script_limit
  pub all : HasReadAll side bytes reader
  pub ends : reader.order.place ≡ last_place side

-- a script was read, or the bytes are refused, or memory ran out
abbrev pub ReadsScript : Side → List ℕ → Reader → Result (Unit {0}) ParseError → Type 0
ReadsScript side bytes reader (Ok done) = HasReadScript side bytes reader
ReadsScript side bytes reader (Err (errors.Script e)) = FirstError side bytes e
ReadsScript side bytes reader (Err errors.NoMemory) = (length bytes ≤ script_limit) × CanRunOut side (lines_of bytes)
