-- What holds of the words of fields.
use Rattle.std.specs.Prelude.{◌≡◌, ◌<◌, ℕ, List, [], ◌∷◌, ◌++◌, length, map, ◌⊎◌, Bool, true, nat_lt, Some}
use Rattle.std.specs.List.{list_all}
use Rattle.np_script_grammar.specs.declared.line.Item.{Item}
use Rattle.np_script_grammar.specs.declared.line.Item.TheVariants.{Number}
use Rattle.np_script_grammar.specs.declared.line.Field.{Field}
use Rattle.np_script_grammar.specs.Fields.{field_word, is_of}
use Rattle.np_script_grammar.specs.Forms.{Form, Line, HasForm, are_of, form_of, line_words}
pub use Rattle.np_script_grammar.specs.Forms.{spaced}
use Rattle.np_script_grammar.specs.Tables.{table_at}
use Rattle.np_script_grammar.specs.declared.place.Place.{Place}
use Rattle.np_values.specs.declared.name.Side.{Side}
use Rattle.np_script_grammar.specs.Words.{is_line, words_of}

-- the bounds of numbers are of 32 bits
abbrev pub is_typed : Item → Bool
is_typed (Number low high) = nat_lt high 4294967296
is_typed item = true

-- an item's word spells one field
abbrev pub OneField : Type 0
OneField = (item : Item) (field other : Field) → is_typed item ≡ true → is_of item field ≡ true → is_of item other ≡ true → field_word field ≡ field_word other → field ≡ other

-- a field's word is one word of a line, before a space and at the line's end
abbrev pub OneWord : Type 0
OneWord = (item : Item) (field : Field) (line : List ℕ) → is_typed item ≡ true → is_of item field ≡ true
    → (words_of (field_word field ++ 32 ∷ line) ≡ field_word field ∷ words_of line) × (words_of (field_word field) ≡ field_word field ∷ [])

-- a field's word may be a line, and is not empty
abbrev pub PlainWord : Type 0
PlainWord = (item : Item) (field : Field) → is_typed item ≡ true → is_of item field ≡ true → (is_line (field_word field) ≡ true) × (0 < length (field_word field))

-- the words of fields, with one space between them, are the words of that line
abbrev pub SpacedWords : Type 0
SpacedWords = (items : List Item) (fields : List Field) → list_all is_typed items ≡ true → are_of items fields ≡ true
    → (words_of (spaced (map field_word fields)) ≡ map field_word fields) × (is_line (spaced (map field_word fields)) ≡ true)

-- the words of a line's rest spell one list of fields of a form
abbrev pub OneReading : Type 0
OneReading = (form : Form) (fields others : List Field) → list_all is_typed form.items ≡ true → list_all is_typed form.group ≡ true
    → HasForm form fields → HasForm form others → map field_word fields ≡ map field_word others → fields ≡ others

-- words spell fields of a form, or spell none
abbrev pub FieldsAreDecided : Type 0
FieldsAreDecided = (form : Form) (words : List (List ℕ))
    → ((fields : List Field) × (words ≡ map field_word fields) × HasForm form fields) ⊎ ((fields : List Field) → words ≡ map field_word fields → ¬ HasForm form fields)

-- the word may stand at this place, and the fields are of its form
pub record HasFormAt (side : Side) (place : Place) (line : Line) : Type 0 where
  pub form : Form
  pub listed : form_of (table_at side place) line.0 ≡ Some form
  pub of_form : HasForm form line.1

-- the words of a line at a place say one thing
abbrev pub OneLine : Type 0
OneLine = (side : Side) (place : Place) (line other : Line) → HasFormAt side place line → HasFormAt side place other → line_words line ≡ line_words other → line ≡ other

-- a line at a place, with one space between its words, has these words, and bytes that a line may have
abbrev pub SpacedLine : Type 0
SpacedLine = (side : Side) (place : Place) (line : Line) → HasFormAt side place line
    → (words_of (spaced (line_words line)) ≡ line_words line) × (is_line (spaced (line_words line)) ≡ true)
