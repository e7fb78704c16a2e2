-- The form of a line: its first word, and what stands after it. (This project's own.)
use Rattle.std.specs.Prelude.{◌≡◌, ℕ, zero, suc, ◌+◌, ◌*◌, ◌≤◌, List, [], ◌∷◌, ◌++◌, length, map, Bool, true, false, if◌then◌else◌, ◌&&◌, bytes_eq, Option, Some, None}
use Rattle.std.specs.List.{list_all}
use Rattle.np_script_grammar.specs.declared.line.Item.{Item}
use Rattle.np_script_grammar.specs.declared.line.Field.{Field}
use Rattle.np_script_grammar.specs.Fields.{field_word, is_of, is_short}

-- items one after another, and after them a group of items that is repeated, at least and at most so often
pub record Form : Type 0 where
  pub items : List Item
  pub group : List Item
  pub least : ℕ
  pub most : ℕ

-- a form without a group
abbrev pub only : List Item → Form
only items = record { items = items; group = []; least = 0; most = 0 }

-- the forms of the words that may stand at a place
abbrev pub Table : Type 0
Table = List (List ℕ × Form)

-- the form of a word, if it may stand there
abbrev pub form_of : Table → List ℕ → Option Form
form_of [] word = None
form_of (row ∷ rows) word = if bytes_eq word row.0 then Some row.1 else form_of rows word

-- a line says a word and fields
abbrev pub Line : Type 0
Line = List ℕ × List Field

-- its words, each spelled in the one way
abbrev pub line_words : Line → List (List ℕ)
line_words line = line.0 ∷ map field_word line.1

-- words with one space between them
abbrev pub spaced : List (List ℕ) → List ℕ
spaced [] = []
spaced (word ∷ []) = word
spaced (word ∷ next ∷ words) = word ++ 32 ∷ spaced (next ∷ words)

-- the fields are of these items, one for one
abbrev pub are_of : List Item → List Field → Bool
are_of [] [] = true
are_of [] (field ∷ fields) = false
are_of (item ∷ items) [] = false
are_of (item ∷ items) (field ∷ fields) = is_of item field && are_of items fields

abbrev pub repeated : ℕ → List Item → List Item
repeated zero group = []
repeated (suc n) group = group ++ repeated n group

-- the fields are of this form, whatever their number and lengths
pub record HasForm (form : Form) (fields : List Field) : Type 0 where
  pub groups : ℕ
  pub enough : form.least ≤ groups
  pub each : are_of (form.items ++ repeated groups form.group) fields ≡ true

-- no field passes its limit, and there are not too many groups
pub record KeepsLimits (form : Form) (fields : List Field) : Type 0 where
  pub short : list_all is_short fields ≡ true
  pub few : length fields ≤ length form.items + form.most * length form.group

-- the line is one of this table: its word may stand there, and its fields are of the word's form and within the limits
pub record IsOf (table : Table) (line : Line) : Type 0 where
  pub form : Form
  pub listed : form_of table line.0 ≡ Some form
  pub of_form : HasForm form line.1
  pub within : KeepsLimits form line.1
