-- What is read of a line after its first word.
use Rattle.std.specs.Prelude.{◌≡◌, ℕ, List, ◌∷◌, [], ◌++◌, map, true, false, not, ◌||◌, Result, Ok, Err}
use Rattle.std.specs.List.{list_all}
use Rattle.std.specs.Borrow.{Bor}
use Rattle.np_script_grammar.specs.declared.line.Item.{Item}
use Rattle.np_script_grammar.specs.declared.line.Field.{Field}
use Rattle.np_script_grammar.specs.Fields.{field_word, is_short}
use Rattle.np_script_grammar.specs.Forms.{Form, HasForm, are_of}
use Rattle.np_script_grammar.specs.Words.{words_of}
use Rattle.np_script_words.specs.declared.error.FieldError.{FieldError}
use Rattle.np_script_words.specs.declared.error.FieldError.TheVariants as errors
use Rattle.np_script_words.specs.declared.fields.Reading.{Reading}
use Rattle.np_script_words.specs.Reads.{Says}

-- the words of a line's rest spell these fields, which have the form
abbrev pub SaysFields : Form → List ℕ → List Field → Type 0
SaysFields form rest fields = (words_of rest ≡ map field_word fields) × HasForm form fields

-- these fields were read: they are kept, unless a limit was passed before or one of them passes its own
pub record IsAfter (old new : Reading) (read : List Field) : Type 0 where
  pub passed : new.passed ≡ (old.passed || not (list_all is_short read))
  pub kept : new.passed ≡ false → new.fields ≡ old.fields ++ read

-- a field is read, whatever its length
abbrev pub TakesField : Item → List ℕ → Reading → Reading → Result (Unit {0}) FieldError → Type 0
TakesField item word old new (Ok done) = (field : Field) × Says item word field × IsAfter old new (field ∷ [])
TakesField item word old new (Err errors.Form) = (field : Field) → ¬ Says item word field
TakesField item word old new (Err errors.Limit) = ⊥
TakesField item word old new (Err errors.NoMemory) = Unit {0}

-- a line begins with the words of these fields, which are of the items, one for one
pub record BeginsWith (items : List Item) (words : List (List ℕ)) (read : List Field) (rest : List (List ℕ)) : Type 0 where
  pub each : are_of items read ≡ true
  pub spelled : words ≡ map field_word read ++ rest

-- a field is read for each item, whatever its length
abbrev pub TakesItems : List Item → List ℕ → Reading → Reading → Result (Bor (List ℕ)) FieldError → Type 0
TakesItems items line old new (Ok rest) = (read : List Field) × BeginsWith items (words_of line) read (words_of rest.now) × IsAfter old new read
TakesItems items line old new (Err errors.Form) = (read : List Field) (rest : List (List ℕ)) → ¬ BeginsWith items (words_of line) read rest
TakesItems items line old new (Err errors.Limit) = ⊥
TakesItems items line old new (Err errors.NoMemory) = Unit {0}
