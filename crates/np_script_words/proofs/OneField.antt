-- A word spells one field of an item.
use Rattle.std.proofs.Common.{◌≡◌, ℕ, ◌<◌, ◌≤◌, List, [], ◌∷◌, ◌++◌, length, get_or, Bool, true, false, cond, eqb, ltb, leb, ◌&&◌, ◌||◌, Some, ℤ, Ok, refl, ap, sym, ◌∙◌, arith, ◌⊎◌, codes}
use Rattle.std.specs.List.{list_all, flat_map}
use Rattle.std.specs.Fmt.{decimal, signed_decimal}
use Rattle.std.proofs.lemmas.Bool.{and_parts, false≢true, ltb-true, leb-true, eqb-true}
use Rattle.std.proofs.lemmas.Bool.Decides.{nat_tests}
use Rattle.std.proofs.lemmas.Fmt.{decimal_injective, signed_decimal_injective}
use Rattle.np_values.specs.Handler.{handler_of}
use Rattle.np_values.specs.declared.handler.Handler.{Handler}
use Rattle.np_values.specs.declared.handler.Handler.TheVariants as handlers
use Rattle.np_values.specs.declared.value.Value.{Value}
use Rattle.np_values.specs.declared.value.Value.TheVariants.{Void, Null, Bool as Truth, Int, Double, Text, Object}
use Rattle.np_idents.specs.declared.key.IdKey.{IdKey}
use Rattle.np_idents.specs.declared.key.IdKey.TheVariants as keys
use Rattle.np_script_grammar.specs.declared.action.Operand.{Operand}
use Rattle.np_script_grammar.specs.declared.action.Operand.TheVariants.{Reg, Const}
use Rattle.np_script_grammar.specs.declared.line.Item.TheVariants as items
use Rattle.np_script_grammar.specs.declared.line.Field.TheVariants as fields
use Rattle.np_script_grammar.specs.Fields.{quoted, quoted_byte, hexadecimal, register_word, value_word, operand_word, key_word, mode_word, handler_word, is_mode, is_int, is_register, is_constant, is_operand, is_key}
use Rattle.np_script_words.specs.declared.quoted.QuotedState.TheVariants.{Plain}
use Rattle.np_script_words.specs.Quoted.{unquoted_from}
use Rattle.np_script_words.specs.Reads.{is_byte}
use Rattle.np_script_words.specs.Laws.{OneField}
use Rattle.np_script_words.proofs.Quoting.{quoted_reads}
use Rattle.np_script_words.proofs.Numbers.{int_mag}
use Rattle.np_script_words.proofs.Doubles.{decodes}
use Rattle.np_script_words.proofs.Digits.{first_signed}
use Rattle.hex.specs.Hex.{decode_sized}

-- ---- each literal

same_quoted : (text other : List ℕ) → quoted text ≡ quoted other → text ≡ other
same_quoted text other e =
    let behind : flat_map quoted_byte text ++ 34 ∷ [] ≡ flat_map quoted_byte other ++ 34 ∷ [] = cc in
    let said : Some text ≡ Some other = sym (quoted_reads text) ∙ ap (unquoted_from Plain) behind ∙ quoted_reads other in
    cc

same_int : (n m : ℤ) → is_int n ≡ true → is_int m ≡ true → signed_decimal n ≡ signed_decimal m → n ≡ m
same_int n m small low e = signed_decimal_injective n m (int_mag n small) (int_mag m low) e

same_register : (n m : ℕ) → is_register n ≡ true → is_register m ≡ true → register_word n ≡ register_word m → n ≡ m
same_register n m small low e =
    let s : n < 16 = ltb-true n 16 small in
    let l : m < 16 = ltb-true m 16 low in
    let digits : decimal n ≡ decimal m = cc in
    decimal_injective n m (omega arith) (omega arith) digits

same_double : (bytes others : List ℕ) → (eqb (length bytes) 8 && list_all is_byte bytes) ≡ true → (eqb (length others) 8 && list_all is_byte others) ≡ true → hexadecimal bytes ≡ hexadecimal others → bytes ≡ others
same_double bytes others e f same =
    let a = and_parts (eqb (length bytes) 8) (list_all is_byte bytes) e in
    let b = and_parts (eqb (length others) 8) (list_all is_byte others) f in
    let read : decode_sized (hexadecimal bytes) 8 ≡ Ok bytes = decodes (hexadecimal bytes) bytes (eqb-true (length bytes) 8 a.0) a.1 refl in
    let other : decode_sized (hexadecimal bytes) 8 ≡ Ok others = decodes (hexadecimal bytes) others (eqb-true (length others) 8 b.0) b.1 same in
    let equal : Ok bytes ≡ Ok others = sym read ∙ other in
    cc

same_mode : (n m : ℕ) → is_mode n ≡ true → is_mode m ≡ true → mode_word n ≡ mode_word m → n ≡ m
same_mode n m e f same = by_tests (eqb n 1) (eqb m 1) refl refl same
  where
    by_tests : (a b : Bool) → eqb n 1 ≡ a → eqb m 1 ≡ b → cond a (codes "embed") (codes "full") ≡ cond b (codes "embed") (codes "full") → n ≡ m
    by_tests true true p q h = grind (arith, nat_tests)
    by_tests true false p q h = absurd cc
    by_tests false true p q h = absurd cc
    by_tests false false p q h = grind (arith, nat_tests)

handler_is : (h : Handler) → handler_of (handler_word h) ≡ Some h
handler_is handlers.New = refl
handler_is handlers.Destroy = refl
handler_is handlers.Scriptable = refl
handler_is handlers.NewStream = refl
handler_is handlers.WriteReady = refl
handler_is handlers.Write = refl
handler_is handlers.AsFile = refl
handler_is handlers.DestroyStream = refl
handler_is handlers.UrlNotify = refl

same_handler : (h k : Handler) → handler_word h ≡ handler_word k → h ≡ k
same_handler h k e =
    let both : Some h ≡ Some k = sym (handler_is h) ∙ ap handler_of e ∙ handler_is k in
    cc

-- ---- the first byte tells which literal it is

-- a class of first bytes: $, v, n, t and f, d, a quotation mark, all others
abbrev class : ℕ → ℕ
class b = cond (eqb b 36) 0 (cond (eqb b 118) 1 (cond (eqb b 110) 2 (cond (eqb b 116 || eqb b 102) 3 (cond (eqb b 100) 4 (cond (eqb b 34) 5 6)))))

abbrev class_of : List ℕ → ℕ
class_of word = class (get_or word 0 0)

number_class : (b : ℕ) → (b ≡ 45) ⊎ ((48 ≤ b) × (b ≤ 57)) → class b ≡ 6
number_class b h = grind (arith, nat_tests)

int_class : (n : ℤ) → is_int n ≡ true → class_of (signed_decimal n) ≡ 6
int_class n e = number_class (get_or (signed_decimal n) 0 0) (first_signed n e)

abbrev tag : Value → ℕ
tag Void = 1
tag Null = 2
tag (Truth b) = 3
tag (Double bytes) = 4
tag (Text text) = 5
tag (Int n) = 6
tag (Object name) = 7

tagged : (v : Value) → is_constant v ≡ true → class_of (value_word v) ≡ tag v
tagged Void e = refl
tagged Null e = refl
tagged (Truth true) e = refl
tagged (Truth false) e = refl
tagged (Int n) e = int_class n e
tagged (Double bytes) e = refl
tagged (Text text) e = refl
tagged (Object name) e = absurd (false≢true e)

same_truth : (a b : Bool) → cond a (codes "true") (codes "false") ≡ cond b (codes "true") (codes "false") → a ≡ b
same_truth true true e = refl
same_truth true false e = absurd cc
same_truth false true e = absurd cc
same_truth false false e = refl

by_tag : (v w : Value) → tag v ≡ tag w → is_constant v ≡ true → is_constant w ≡ true → value_word v ≡ value_word w → v ≡ w
by_tag Void Void t e f same = refl
by_tag Null Null t e f same = refl
by_tag (Truth a) (Truth b) t e f same = ap Truth (same_truth a b same)
by_tag (Int n) (Int m) t e f same = ap Int (same_int n m e f same)
by_tag (Double bytes) (Double others) t e f same = ap Double (same_double bytes others e f cc)
by_tag (Text text) (Text other) t e f same = ap Text (same_quoted text other same)
by_tag (Object name) w t e f same = absurd (false≢true e)
by_tag v w t e f same = absurd (omega arith)

same_value : (v w : Value) → is_constant v ≡ true → is_constant w ≡ true → value_word v ≡ value_word w → v ≡ w
same_value v w e f same = by_tag v w (sym (tagged v e) ∙ ap class_of same ∙ tagged w f) e f same

some_tag : (v : Value) → tag v ≡ 0 → ⊥
some_tag Void t = omega arith
some_tag Null t = omega arith
some_tag (Truth b) t = omega arith
some_tag (Int n) t = omega arith
some_tag (Double bytes) t = omega arith
some_tag (Text text) t = omega arith
some_tag (Object name) t = omega arith

no_register : (n : ℕ) (v : Value) → is_constant v ≡ true → register_word n ≡ value_word v → ⊥
no_register n v e same = some_tag v (sym (tagged v e) ∙ sym (ap class_of same))

same_operand : (o p : Operand) → is_operand o ≡ true → is_operand p ≡ true → operand_word o ≡ operand_word p → o ≡ p
same_operand (Reg n) (Reg m) e f same = ap Reg (same_register n m e f same)
same_operand (Reg n) (Const v) e f same = absurd (no_register n v f same)
same_operand (Const v) (Reg n) e f same = absurd (no_register n v e (sym same))
same_operand (Const v) (Const w) e f same = ap Const (same_value v w e f same)

no_text : (text : List ℕ) (n : ℤ) → is_int n ≡ true → quoted text ≡ signed_decimal n → ⊥
no_text text n e same = apart (class_of (quoted text)) refl (ap class_of same ∙ int_class n e)
  where
    apart : (c : ℕ) → c ≡ 5 → c ≡ 6 → ⊥
    apart c five six = omega arith

same_key : (k l : IdKey) → is_key k ≡ true → is_key l ≡ true → key_word k ≡ key_word l → k ≡ l
same_key (keys.Str text) (keys.Str other) e f same = ap keys.Str (same_quoted text other same)
same_key (keys.Str text) (keys.Int n) e f same = absurd (no_text text n f same)
same_key (keys.Int n) (keys.Str text) e f same = absurd (no_text text n e (sym same))
same_key (keys.Int n) (keys.Int m) e f same = ap keys.Int (same_int n m e f same)

same_number : (low high n m : ℕ) → ltb high 4294967296 ≡ true → (leb low n && leb n high) ≡ true → (leb low m && leb m high) ≡ true → decimal n ≡ decimal m → n ≡ m
same_number low high n m t e f same =
    let top : high < 4294967296 = ltb-true high 4294967296 t in
    let a : n ≤ high = leb-true n high (and_parts (leb low n) (leb n high) e).1 in
    let b : m ≤ high = leb-true m high (and_parts (leb low m) (leb m high) f).1 in
    decimal_injective n m (omega arith) (omega arith) same

-- ---- fields

pub one_field_lem : OneField
one_field_lem items.Register (fields.Register n) (fields.Register m) t e f same = ap fields.Register (same_register n m e f same)
one_field_lem items.Operand (fields.Operand o) (fields.Operand p) t e f same = ap fields.Operand (same_operand o p e f same)
one_field_lem items.Integer (fields.Integer n) (fields.Integer m) t e f same = ap fields.Integer (same_int n m e f same)
one_field_lem (items.Number low high) (fields.Number n) (fields.Number m) t e f same = ap fields.Number (same_number low high n m t e f same)
one_field_lem items.Text (fields.Text text) (fields.Text other) t e f same = ap fields.Text (same_quoted text other same)
one_field_lem items.Identifier (fields.Identifier k) (fields.Identifier l) t e f same = ap fields.Identifier (same_key k l e f same)
one_field_lem items.Mode (fields.Mode n) (fields.Mode m) t e f same = ap fields.Mode (same_mode n m e f same)
one_field_lem items.HandlerWord (fields.HandlerWord h) (fields.HandlerWord k) t e f same = ap fields.HandlerWord (same_handler h k same)
one_field_lem item field other t e f same = absurd cc
