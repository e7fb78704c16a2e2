-- What is read of a word serves what is read of it as more.
use Rattle.std.proofs.Common.{◌≡◌, ℕ, ◌<◌, ℤ, List, true, Err, subst, sym}
use Rattle.std.proofs.lemmas.Bool.{false≢true, ltb-true}
use Rattle.np_values.specs.declared.value.Value.{Value}
use Rattle.np_values.specs.declared.value.Value.TheVariants as values
use Rattle.np_script_grammar.specs.declared.action.Operand.{Operand}
use Rattle.np_script_grammar.specs.declared.action.Operand.TheVariants.{Reg, Const}
use Rattle.np_script_grammar.specs.declared.line.Item.{Item}
use Rattle.np_script_grammar.specs.declared.line.Item.TheVariants as items
use Rattle.np_script_grammar.specs.declared.line.Field.{Field}
use Rattle.np_script_grammar.specs.declared.line.Field.TheVariants as fields
use Rattle.std.specs.Fmt.{signed_decimal}
use Rattle.np_idents.specs.declared.key.IdKey.{IdKey}
use Rattle.np_idents.specs.declared.key.IdKey.TheVariants as keys
use Rattle.np_script_grammar.specs.Fields.{is_int, register_word}
use Rattle.np_script_words.specs.declared.error.FieldError.{FieldError}
use Rattle.np_script_words.specs.declared.error.FieldError.TheVariants.{Form, Limit, NoMemory}
use Rattle.np_script_words.specs.Reads.{Reads, SaysText, IsWithin, SaysKey, IsShortKey, SaysValue, IsShortValue, IsTextValue, SaysOperand, IsShortOperand, Says, IsShort}

-- an error of the part is the error of the whole, where what spells the whole spells the part
pub same_error : {A B : Type 0} (S L : A → Type 0) (T M : B → Type 0) (make : A → B) (e : FieldError)
    → ((a : A) → S a → T (make a)) → ((a : A) → M (make a) → L a) → ((b : B) → T b → (a : A) × S a)
    → Reads S L (Err e) → Reads T M (Err e)
same_error S L T M make Limit up short down h = (make h.0, up h.0 h.1, λ m. h.2 (short h.0 m))
same_error S L T M make Form up short down h = λ b t. (let a = down b t in h a.0 a.1)
same_error S L T M make NoMemory up short down h = tt

-- ---- identifiers

key_text : (word : List ℕ) → ((n : ℤ) → is_int n ≡ true → word ≡ signed_decimal n → ⊥) → (key : IdKey) → SaysKey word key → (text : List ℕ) × SaysText word text
key_text word none (keys.Str text) says = (text, says)
key_text word none (keys.Int n) says = absurd (none n says.1 says.0)

pub key_error : (word : List ℕ) (e : FieldError) → ((n : ℤ) → is_int n ≡ true → word ≡ signed_decimal n → ⊥) → Reads (SaysText word) (IsWithin 256) (Err e) → Reads (SaysKey word) IsShortKey (Err e)
key_error word e none h = same_error (SaysText word) (IsWithin 256) (SaysKey word) IsShortKey keys.Str e (λ text says. says) (λ text m. m) (key_text word none) h

-- ---- values

value_text : (word : List ℕ) → ((value : Value) → SaysValue word value → IsTextValue value) → (value : Value) → SaysValue word value → (text : List ℕ) × SaysText word text
value_text word none value says =
    let t : IsTextValue value = none value says in
    (t.0, subst (SaysValue word) t.1 says)

pub value_error : (word : List ℕ) (e : FieldError) → ((value : Value) → SaysValue word value → IsTextValue value) → Reads (SaysText word) (IsWithin 2048) (Err e) → Reads (SaysValue word) IsShortValue (Err e)
value_error word e none h = same_error (SaysText word) (IsWithin 2048) (SaysValue word) IsShortValue values.Text e (λ text says. says) (λ text m. m) (value_text word none) h

-- ---- operands

operand_value : (word : List ℕ) → ((n : ℕ) → n < 16 → word ≡ register_word n → ⊥) → (operand : Operand) → SaysOperand word operand → (value : Value) × SaysValue word value
operand_value word none (Reg n) says = absurd (none n (ltb-true n 16 says.1) says.0)
operand_value word none (Const value) says = (value, says)

pub operand_error : (word : List ℕ) (e : FieldError) → ((n : ℕ) → n < 16 → word ≡ register_word n → ⊥) → Reads (SaysValue word) IsShortValue (Err e) → Reads (SaysOperand word) IsShortOperand (Err e)
operand_error word e none h = same_error (SaysValue word) IsShortValue (SaysOperand word) IsShortOperand Const e (λ value says. says) (λ value m. m) (operand_value word none) h

-- ---- fields

says_operand : (word : List ℕ) (field : Field) → Says items.Operand word field → (operand : Operand) × SaysOperand word operand
says_operand word (fields.Operand operand) says = (operand, says)
says_operand word field says = absurd (false≢true says.1)

pub operand_field_error : (item : Item) (word : List ℕ) (e : FieldError) → item ≡ items.Operand → Reads (SaysOperand word) IsShortOperand (Err e) → Reads (Says item word) IsShort (Err e)
operand_field_error item word e same h = subst (λ (i : Item). Reads (Says i word) IsShort (Err e)) (sym same) (same_error (SaysOperand word) IsShortOperand (Says items.Operand word) IsShort fields.Operand e (λ operand says. says) (λ operand m. m) (says_operand word) h)

says_text : (word : List ℕ) (field : Field) → Says items.Text word field → (text : List ℕ) × SaysText word text
says_text word (fields.Text text) says = (text, says)
says_text word field says = absurd (false≢true says.1)

pub text_field_error : (item : Item) (word : List ℕ) (e : FieldError) → item ≡ items.Text → Reads (SaysText word) (IsWithin 2048) (Err e) → Reads (Says item word) IsShort (Err e)
text_field_error item word e same h = subst (λ (i : Item). Reads (Says i word) IsShort (Err e)) (sym same) (same_error (SaysText word) (IsWithin 2048) (Says items.Text word) IsShort fields.Text e (λ text says. says) (λ text m. m) (says_text word) h)

says_key : (word : List ℕ) (field : Field) → Says items.Identifier word field → (key : IdKey) × SaysKey word key
says_key word (fields.Identifier key) says = (key, says)
says_key word field says = absurd (false≢true says.1)

pub key_field_error : (item : Item) (word : List ℕ) (e : FieldError) → item ≡ items.Identifier → Reads (SaysKey word) IsShortKey (Err e) → Reads (Says item word) IsShort (Err e)
key_field_error item word e same h = subst (λ (i : Item). Reads (Says i word) IsShort (Err e)) (sym same) (same_error (SaysKey word) IsShortKey (Says items.Identifier word) IsShort fields.Identifier e (λ key says. says) (λ key m. m) (says_key word) h)
