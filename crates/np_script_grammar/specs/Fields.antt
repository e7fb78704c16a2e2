-- What a line says after its first word, and how each of it is spelled. (This project's own.)
use Rattle.std.specs.Prelude.{ℕ, ℤ, pos, negsuc, List, [], ◌∷◌, ◌++◌, length, Bool, true, false, if◌then◌else◌, nat_lt, nat_le, ◌==◌, ◌&&◌, ◌||◌, codes}
use Rattle.std.specs.List.{flat_map, list_all}
use Rattle.std.specs.Fmt.{decimal, signed_decimal}
use Rattle.std.specs.Str.{is_utf8}
use Rattle.np_values.specs.declared.value.Value.{Value}
use Rattle.np_values.specs.declared.value.Value.TheVariants.{Void, Null, Bool as Truth, Int, Double, Text, Object}
pub use Rattle.np_values.specs.Quoted.{hex_byte, quoted_byte, quoted}
pub use Rattle.np_values.specs.Handler.{handler_word}
pub use Rattle.np_idents.specs.IdKey.{printed_key as key_word}
use Rattle.np_idents.specs.declared.key.IdKey.{IdKey}
use Rattle.np_idents.specs.declared.key.IdKey.TheVariants as keys
use Rattle.np_script_grammar.specs.declared.action.Operand.{Operand}
use Rattle.np_script_grammar.specs.declared.action.Operand.TheVariants.{Reg, Const}
use Rattle.np_script_grammar.specs.declared.line.Item.{Item}
use Rattle.np_script_grammar.specs.declared.line.Item.TheVariants as items
use Rattle.np_script_grammar.specs.declared.line.Field.{Field}
use Rattle.np_script_grammar.specs.declared.line.Field.TheVariants as fields

-- ---- spellings: a field has one word

-- two hexadecimal digits for each byte, in lower case
abbrev pub hexadecimal : List ℕ → List ℕ
hexadecimal bytes = flat_map hex_byte bytes

abbrev pub register_word : ℕ → List ℕ
register_word number = 36 ∷ decimal number

-- the word of a constant; an object has none
abbrev pub value_word : Value → List ℕ
value_word Void = codes "void"
value_word Null = codes "null"
value_word (Truth b) = if b then codes "true" else codes "false"
value_word (Int number) = signed_decimal number
value_word (Double bytes) = codes "d:" ++ hexadecimal bytes
value_word (Text text) = quoted text
value_word (Object name) = []

abbrev pub operand_word : Operand → List ℕ
operand_word (Reg number) = register_word number
operand_word (Const value) = value_word value

-- the modes of an instance (npapi.h)
abbrev pub NP_EMBED : ℕ
NP_EMBED = 1

abbrev pub NP_FULL : ℕ
NP_FULL = 2

abbrev pub is_mode : ℕ → Bool
is_mode mode = (mode == NP_EMBED) || (mode == NP_FULL)

abbrev pub mode_word : ℕ → List ℕ
mode_word mode = if mode == NP_EMBED then codes "embed" else codes "full"

abbrev pub field_word : Field → List ℕ
field_word (fields.Register number) = register_word number
field_word (fields.Operand operand) = operand_word operand
field_word (fields.Integer number) = signed_decimal number
field_word (fields.Number number) = decimal number
field_word (fields.Text text) = quoted text
field_word (fields.Identifier key) = key_word key
field_word (fields.Mode mode) = mode_word mode
field_word (fields.HandlerWord handler) = handler_word handler

-- ---- which fields may stand at an item's place, whatever their lengths

-- a number of 32 bits with a sign
abbrev pub is_int : ℤ → Bool
is_int (pos n) = nat_lt n 2147483648
is_int (negsuc n) = nat_lt n 2147483648

abbrev pub is_register : ℕ → Bool
is_register number = nat_lt number 16

abbrev pub is_constant : Value → Bool
is_constant Void = true
is_constant Null = true
is_constant (Truth b) = true
is_constant (Int number) = is_int number
is_constant (Double bytes) = (length bytes == 8) && list_all (λ b. nat_lt b 256) bytes
is_constant (Text text) = is_utf8 text
is_constant (Object name) = false

abbrev pub is_operand : Operand → Bool
is_operand (Reg number) = is_register number
is_operand (Const value) = is_constant value

abbrev pub is_key : IdKey → Bool
is_key (keys.Str text) = is_utf8 text
is_key (keys.Int number) = is_int number

abbrev pub is_of : Item → Field → Bool
is_of items.Register (fields.Register number) = is_register number
is_of items.Operand (fields.Operand operand) = is_operand operand
is_of items.Integer (fields.Integer number) = is_int number
is_of (items.Number low high) (fields.Number number) = nat_le low number && nat_le number high
is_of items.Text (fields.Text text) = is_utf8 text
is_of items.Identifier (fields.Identifier key) = is_key key
is_of items.Mode (fields.Mode mode) = is_mode mode
is_of items.HandlerWord (fields.HandlerWord handler) = true
is_of item field = false

-- ---- their limits

abbrev pub is_short_value : Value → Bool
is_short_value (Text text) = nat_le (length text) 2048
is_short_value value = true

-- a text has at most 2,048 bytes, an identifier 256
abbrev pub is_short : Field → Bool
is_short (fields.Operand (Const value)) = is_short_value value
is_short (fields.Text text) = nat_le (length text) 2048
is_short (fields.Identifier (keys.Str text)) = nat_le (length text) 256
is_short field = true
