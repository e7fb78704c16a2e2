-- What the word of a field looks like.
use Rattle.std.proofs.Common.{◌≡◌, ℕ, ◌<◌, ◌≤◌, List, length, Bool, true, false, cond, eqb, ltb, leb, ◌&&◌, refl, arith, inl, inr, ◌⊎◌}
use Rattle.std.specs.List.{list_all}
use Rattle.std.specs.Str.{is_utf8}
use Rattle.std.specs.Fmt.{decimal}
use Rattle.std.proofs.lemmas.Bool.{and_parts, false≢true, ltb-true, leb-true}
use Rattle.std.proofs.lemmas.Fmt.{decimal_nonempty}
use Rattle.np_values.specs.declared.handler.Handler.{Handler}
use Rattle.np_values.specs.declared.handler.Handler.TheVariants as handlers
use Rattle.np_values.specs.declared.value.Value.{Value}
use Rattle.np_values.specs.declared.value.Value.TheVariants.{Void, Null, Bool as Truth, Int, Double, Text, Object}
use Rattle.np_idents.specs.declared.key.IdKey.{IdKey}
use Rattle.np_idents.specs.declared.key.IdKey.TheVariants as keys
use Rattle.np_script_grammar.specs.declared.action.Operand.{Operand}
use Rattle.np_script_grammar.specs.declared.action.Operand.TheVariants.{Reg, Const}
use Rattle.np_script_grammar.specs.declared.line.Item.{Item}
use Rattle.np_script_grammar.specs.declared.line.Item.TheVariants as items
use Rattle.np_script_grammar.specs.declared.line.Field.{Field}
use Rattle.np_script_grammar.specs.declared.line.Field.TheVariants as fields
use Rattle.np_script_grammar.specs.Fields.{quoted, register_word, value_word, operand_word, key_word, mode_word, handler_word, field_word, is_register, is_constant, is_operand, is_key, is_of}
use Rattle.np_script_words.specs.Reads.{is_byte}
use Rattle.np_script_words.specs.Laws.{is_typed}
use Rattle.np_script_words.proofs.Digits.{is_bare, bare_decimal, bare_signed, some_signed, bare_hexadecimal}

-- bare bytes, at least one
pub record IsBareWord (word : List ℕ) : Type 0 where
  pub all : list_all is_bare word ≡ true
  pub some : 0 < length word

-- a quoted text that is UTF-8
pub record IsQuotedWord (word : List ℕ) : Type 0 where
  pub text : List ℕ
  pub same : word ≡ quoted text
  pub valid : is_utf8 text ≡ true

abbrev pub HasShape : List ℕ → Type 0
HasShape word = IsBareWord word ⊎ IsQuotedWord word

bare : (word : List ℕ) → list_all is_bare word ≡ true → 0 < length word → HasShape word
bare word e some = inl (record { all = e; some = some })

said : (text : List ℕ) → is_utf8 text ≡ true → HasShape (quoted text)
said text e = inr (record { text = text; same = refl; valid = e })

register_shape : (n : ℕ) → is_register n ≡ true → HasShape (register_word n)
register_shape n e =
    let small : n < 16 = ltb-true n 16 e in
    bare (register_word n) (bare_decimal n (omega arith)) (omega arith)

value_shape : (v : Value) → is_constant v ≡ true → HasShape (value_word v)
value_shape Void e = bare (value_word Void) refl (omega arith)
value_shape Null e = bare (value_word Null) refl (omega arith)
value_shape (Truth true) e = bare (value_word (Truth true)) refl (omega arith)
value_shape (Truth false) e = bare (value_word (Truth false)) refl (omega arith)
value_shape (Int n) e = bare (value_word (Int n)) (bare_signed n e) (some_signed n e)
value_shape (Double bytes) e = bare (value_word (Double bytes)) (bare_hexadecimal bytes (and_parts (eqb (length bytes) 8) (list_all is_byte bytes) e).1) (omega arith)
value_shape (Text text) e = said text e
value_shape (Object name) e = absurd (false≢true e)

operand_shape : (o : Operand) → is_operand o ≡ true → HasShape (operand_word o)
operand_shape (Reg n) e = register_shape n e
operand_shape (Const v) e = value_shape v e

key_shape : (k : IdKey) → is_key k ≡ true → HasShape (key_word k)
key_shape (keys.Str text) e = said text e
key_shape (keys.Int n) e = bare (key_word (keys.Int n)) (bare_signed n e) (some_signed n e)

mode_shape : (n : ℕ) → HasShape (mode_word n)
mode_shape n = by_test (eqb n 1)
  where
    by_test : (b : Bool) → HasShape (cond b (mode_word 1) (mode_word 2))
    by_test true = bare (mode_word 1) refl (omega arith)
    by_test false = bare (mode_word 2) refl (omega arith)

handler_shape : (h : Handler) → HasShape (handler_word h)
handler_shape handlers.New = bare (handler_word handlers.New) refl (omega arith)
handler_shape handlers.Destroy = bare (handler_word handlers.Destroy) refl (omega arith)
handler_shape handlers.Scriptable = bare (handler_word handlers.Scriptable) refl (omega arith)
handler_shape handlers.NewStream = bare (handler_word handlers.NewStream) refl (omega arith)
handler_shape handlers.WriteReady = bare (handler_word handlers.WriteReady) refl (omega arith)
handler_shape handlers.Write = bare (handler_word handlers.Write) refl (omega arith)
handler_shape handlers.AsFile = bare (handler_word handlers.AsFile) refl (omega arith)
handler_shape handlers.DestroyStream = bare (handler_word handlers.DestroyStream) refl (omega arith)
handler_shape handlers.UrlNotify = bare (handler_word handlers.UrlNotify) refl (omega arith)

number_shape : (low high n : ℕ) → ltb high 4294967296 ≡ true → (leb low n && leb n high) ≡ true → HasShape (decimal n)
number_shape low high n t e =
    let top : high < 4294967296 = ltb-true high 4294967296 t in
    let below : n ≤ high = leb-true n high (and_parts (leb low n) (leb n high) e).1 in
    bare (decimal n) (bare_decimal n (omega arith)) (decimal_nonempty n (omega arith))

pub field_shape : (item : Item) (field : Field) → is_typed item ≡ true → is_of item field ≡ true → HasShape (field_word field)
field_shape items.Register (fields.Register n) t e = register_shape n e
field_shape items.Operand (fields.Operand o) t e = operand_shape o e
field_shape items.Integer (fields.Integer n) t e = bare (field_word (fields.Integer n)) (bare_signed n e) (some_signed n e)
field_shape (items.Number low high) (fields.Number n) t e = number_shape low high n t e
field_shape items.Text (fields.Text text) t e = said text e
field_shape items.Identifier (fields.Identifier k) t e = key_shape k e
field_shape items.Mode (fields.Mode n) t e = mode_shape n
field_shape items.HandlerWord (fields.HandlerWord h) t e = handler_shape h
field_shape item field t e = absurd (false≢true e)
