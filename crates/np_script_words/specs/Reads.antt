-- What a reader answers of a word.
use Rattle.std.specs.Prelude.{◌≡◌, ℕ, List, length, Bool, true, nat_lt, nat_le, Result, Ok, Err}
use Rattle.std.specs.Global.{Vec}
use Rattle.std.specs.Str.{is_utf8}
use Rattle.np_values.specs.declared.value.Value.{Value}
use Rattle.np_values.specs.declared.value.Value.TheVariants.{Text}
use Rattle.np_idents.specs.declared.key.IdKey.{IdKey}
use Rattle.np_script_grammar.specs.declared.action.Operand.{Operand}
use Rattle.np_script_grammar.specs.declared.line.Item.{Item}
use Rattle.np_script_grammar.specs.declared.line.Field.{Field}
use Rattle.np_script_grammar.specs.declared.line.Field.TheVariants.{Identifier, Operand as OfOperand}
use Rattle.np_script_grammar.specs.Fields.{quoted, key_word, value_word, operand_word, field_word, is_key, is_constant, is_operand, is_of, is_short_value, is_short}
use Rattle.np_script_words.specs.declared.error.FieldError.{FieldError}
use Rattle.np_script_words.specs.declared.error.FieldError.TheVariants.{Form, Limit, NoMemory}

-- What is spelled and within the limits is read; `Limit` says that something is spelled and passes one, `Form` that nothing is.
abbrev pub Reads : {A : Type 0} → (A → Type 0) → (A → Type 0) → Result A FieldError → Type 0
Reads Spelled Short (Ok a) = Spelled a × Short a
Reads {A = A} Spelled Short (Err Limit) = (a : A) × Spelled a × ¬ Short a
Reads {A = A} Spelled Short (Err Form) = (a : A) → ¬ Spelled a
Reads Spelled Short (Err NoMemory) = Unit {0}

-- a word says these bytes as a quoted text
abbrev pub SaysText : List ℕ → List ℕ → Type 0
SaysText word text = (word ≡ quoted text) × (is_utf8 text ≡ true)

-- they are this many at most
abbrev pub IsWithin : ℕ → List ℕ → Type 0
IsWithin limit text = nat_le (length text) limit ≡ true

-- the bytes of a text are read
abbrev pub ReadsBytes : ℕ → List ℕ → Result (Vec ℕ) FieldError → Type 0
ReadsBytes limit word (Ok text) = Reads (SaysText word) (IsWithin limit) (Ok text.items)
ReadsBytes limit word (Err e) = Reads (SaysText word) (IsWithin limit) (Err e)

-- a word spells this identifier
abbrev pub SaysKey : List ℕ → IdKey → Type 0
SaysKey word key = (word ≡ key_word key) × (is_key key ≡ true)

-- it has at most 256 bytes, or is a number
abbrev pub IsShortKey : IdKey → Type 0
IsShortKey key = is_short (Identifier key) ≡ true

-- a word spells this value, which is no object
abbrev pub SaysValue : List ℕ → Value → Type 0
SaysValue word value = (word ≡ value_word value) × (is_constant value ≡ true)

-- it is no text, or one of at most 2,048 bytes
abbrev pub IsShortValue : Value → Type 0
IsShortValue value = is_short_value value ≡ true

-- it is a text
abbrev pub IsTextValue : Value → Type 0
IsTextValue value = (text : List ℕ) × (value ≡ Text text)

-- a word spells this operand
abbrev pub SaysOperand : List ℕ → Operand → Type 0
SaysOperand word operand = (word ≡ operand_word operand) × (is_operand operand ≡ true)

-- it is a register, or such a value
abbrev pub IsShortOperand : Operand → Type 0
IsShortOperand operand = is_short (OfOperand operand) ≡ true

-- a word spells this field, which may stand at the item's place
abbrev pub Says : Item → List ℕ → Field → Type 0
Says item word field = (word ≡ field_word field) × (is_of item field ≡ true)

-- it is within the limits
abbrev pub IsShort : Field → Type 0
IsShort field = is_short field ≡ true

-- ---- single tests

-- a number of eight bits
abbrev pub is_byte : ℕ → Bool
is_byte b = nat_lt b 256
