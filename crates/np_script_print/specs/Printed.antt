-- Lines of scripts as they are printed: the word, each field after a space, and byte 10.
use Rattle.std.specs.Prelude.{◌≡◌, ℕ, List, [], ◌∷◌, ◌++◌}
use Rattle.std.specs.List.{flat_map}
use Rattle.np_script_grammar.specs.declared.line.Field.{Field}
use Rattle.np_script_grammar.specs.Fields.{field_word}
use Rattle.np_script_grammar.specs.Forms.{Line}

-- bytes were put at the end, whichever
abbrev pub Grew : List ℕ → List ℕ → Type 0
Grew old new = (rest : List ℕ) × (new ≡ old ++ rest)

-- a field's word after a space
abbrev pub behind : Field → List ℕ
behind field = 32 ∷ field_word field

-- fields, each after a space
abbrev pub all_behind : List Field → List ℕ
all_behind fields = flat_map behind fields

-- a line without its end
abbrev pub line_text : Line → List ℕ
line_text line = line.0 ++ all_behind line.1

-- a line with its end
abbrev pub whole_line : Line → List ℕ
whole_line line = line_text line ++ 10 ∷ []

abbrev pub lines_text : List Line → List ℕ
lines_text lines = flat_map whole_line lines
