-- What a line says, by the row of its first word. (This project's own.)
use Rattle.std.specs.Prelude.{ℕ, List, [], ◌∷◌, if◌then◌else◌, bytes_eq, Option, None}
use Rattle.np_script_grammar.specs.declared.line.Field.{Field}

-- words, and what the fields after each say
abbrev pub Rows : Type 0 → Type 0
Rows A = List (List ℕ × (List Field → Option A))

-- what the row of the word makes of the fields
abbrev pub said_by : {A : Type 0} → Rows A → List ℕ → List Field → Option A
said_by [] word fields = None
said_by (row ∷ rows) word fields = if bytes_eq word row.0 then row.1 fields else said_by rows word fields
