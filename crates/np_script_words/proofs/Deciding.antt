-- Whether words spell something is decided.
use Rattle.std.proofs.Common.{◌≡◌, ◌⊎◌, inl, inr, ℕ, zero, suc, ◌+◌, ◌<◌, ◌≤◌, ℤ, pos, negsuc, List, [], ◌∷◌, ◌++◌, length, map, Bool, true, false, ◌&&◌, ◌==◌, nat_lt, nat_le, Option, Some, None, refl, ap, sym, ◌∙◌, subst, arith}
use Rattle.std.specs.Prelude.{codes, bytes_eq}
use Rattle.std.specs.List.{list_all, flat_map, AllByRecursion}
use Rattle.std.specs.Fmt.{decimal, signed_decimal}
use Rattle.std.specs.Str.{is_utf8}
use Rattle.std.proofs.lemmas.Bool.{and_parts, and_from, false≢true, ltb-true}
use Rattle.std.proofs.lemmas.Bool.Decides.{nat_tests}
use Rattle.std.proofs.lemmas.List.{length-append, length-map}
use Rattle.std.proofs.lemmas.Slice.Eq.{bytes_eq-Decides}
use Rattle.np_values.specs.declared.value.Value.{Value}
use Rattle.np_values.specs.declared.value.Value.TheVariants as values
use Rattle.np_values.specs.declared.handler.Handler.{Handler}
use Rattle.np_values.specs.declared.handler.Handler.TheVariants.{New, Destroy, Scriptable, NewStream, WriteReady, Write, AsFile, DestroyStream, UrlNotify}
use Rattle.np_values.specs.Handler.{handler_word, handlers}
use Rattle.np_idents.specs.declared.key.IdKey.{IdKey}
use Rattle.np_idents.specs.declared.key.IdKey.TheVariants as keys
use Rattle.np_script_grammar.specs.declared.action.Operand.{Operand}
use Rattle.np_script_grammar.specs.declared.action.Operand.TheVariants.{Reg, Const}
use Rattle.np_script_grammar.specs.declared.line.Item.{Item}
use Rattle.np_script_grammar.specs.declared.line.Item.TheVariants as items
use Rattle.np_script_grammar.specs.declared.line.Field.{Field}
use Rattle.np_script_grammar.specs.declared.line.Field.TheVariants as fields
use Rattle.np_script_grammar.specs.Fields.{hex_byte, quoted, quoted_byte, hexadecimal, register_word, field_word, mode_word, is_mode, is_int, is_of}
use Rattle.np_script_grammar.specs.Forms.{Form, repeated, are_of, HasForm}
use Rattle.np_script_words.specs.declared.quoted.QuotedState.TheVariants.{Plain}
use Rattle.np_script_words.specs.Quoted.{unquoted_from}
use Rattle.np_script_words.specs.Reads.{SaysText, SaysKey, SaysValue, SaysOperand, Says, is_byte}
use Rattle.np_script_words.specs.Laws.{FieldsAreDecided}
use Rattle.np_script_words.proofs.Quoting.{quoted_reads, Were, text_was}
use Rattle.np_script_words.proofs.FieldLists.{length-are_of}

-- it holds, or it doesn't
abbrev pub Decided : Type 0 → Type 0
Decided P = P ⊎ ¬ P

-- some such thing is found, or there is none
abbrev pub Found : {A : Type 0} → (A → Type 0) → Type 0
Found {A} P = ((a : A) × P a) ⊎ ((a : A) → ¬ P a)

same_bytes : (xs ys : List ℕ) → Decided (xs ≡ ys)
same_bytes xs ys = by (bytes_eq xs ys) refl
  where
    by : (t : Bool) → bytes_eq xs ys ≡ t → Decided (xs ≡ ys)
    by true e = inl ((bytes_eq-Decides xs ys).0 e)
    by false e = inr (λ same. false≢true (sym e ∙ (bytes_eq-Decides xs ys).1 same))

pub is_true : (t : Bool) → Decided (t ≡ true)
is_true true = inl refl
is_true false = inr (λ e. false≢true e)

pub both : {P Q : Type 0} → Decided P → Decided Q → Decided (P × Q)
both (inl p) (inl q) = inl (p, q)
both (inl p) (inr not_so) = inr (λ pair. not_so pair.1)
both (inr not_so) q = inr (λ pair. not_so pair.0)

-- among the numbers below a bound
below : (P : ℕ → Type 0) → ((n : ℕ) → Decided (P n)) → (bound : ℕ) → ((n : ℕ) × P n) ⊎ ((n : ℕ) → n < bound → ¬ P n)
below P decide zero = inr (λ n lt p. absurd (omega arith))
below P decide (suc bound) = by (decide bound) (below P decide bound)
  where
    by : Decided (P bound) → ((n : ℕ) × P n) ⊎ ((n : ℕ) → n < bound → ¬ P n) → ((n : ℕ) × P n) ⊎ ((n : ℕ) → n < suc bound → ¬ P n)
    by (inl p) others = inl (bound, p)
    by (inr not_so) (inl found) = inl found
    by (inr not_so) (inr none) = inr (λ n lt p. last n p (split n lt))
      where
        split : (n : ℕ) → n < suc bound → (n < bound) ⊎ (n ≡ bound)
        split n lt = grind arith

        last : (n : ℕ) → P n → (n < bound) ⊎ (n ≡ bound) → ⊥
        last n p (inl lt) = none n lt p
        last n p (inr e) = not_so (subst P e p)

-- among all numbers, where it holds of none from a bound on
bounded : (P : ℕ → Type 0) → ((n : ℕ) → Decided (P n)) → (bound : ℕ) → ((n : ℕ) → P n → n < bound) → Found P
bounded P decide bound small = by (below P decide bound)
  where
    by : ((n : ℕ) × P n) ⊎ ((n : ℕ) → n < bound → ¬ P n) → Found P
    by (inl found) = inl found
    by (inr none) = inr (λ n p. none n (small n p) p)

-- among these
among : {A : Type 0} (P : A → Type 0) → ((a : A) → Decided (P a)) → (xs : List A) → ((a : A) × P a) ⊎ AllByRecursion (λ a. ¬ P a) xs
among P decide [] = inr tt
among {A} P decide (x ∷ xs) = by (decide x) (among P decide xs)
  where
    by : Decided (P x) → ((a : A) × P a) ⊎ AllByRecursion (λ a. ¬ P a) xs → ((a : A) × P a) ⊎ AllByRecursion (λ a. ¬ P a) (x ∷ xs)
    by (inl p) others = inl (x, p)
    by (inr not_so) (inl found) = inl found
    by (inr not_so) (inr none) = inr (not_so, none)

-- one kind of thing is made of another
made : {A B : Type 0} (P : A → Type 0) (Q : B → Type 0) (make : A → B) → ((a : A) → P a → Q (make a)) → ((b : B) → Q b → (a : A) × P a) → Found P → Found Q
made P Q make up down (inl found) = inl (make found.0, up found.0 found.1)
made P Q make up down (inr none) = inr (λ b q. (let a = down b q in none a.0 a.1))

-- ---- numbers

abbrev SaysNumber : ℕ → ℕ → List ℕ → ℕ → Type 0
SaysNumber low high word n = (word ≡ decimal n) × ((nat_le low n && nat_le n high) ≡ true)

number_found : (word : List ℕ) (low high : ℕ) → Found (SaysNumber low high word)
number_found word low high =
    bounded (SaysNumber low high word) (λ n. both (same_bytes word (decimal n)) (is_true (nat_le low n && nat_le n high))) (suc high)
    (λ n p. small n (and_parts (nat_le low n) (nat_le n high) p.1).1)
  where
    small : (n : ℕ) → nat_le n high ≡ true → n < suc high
    small n e = grind (arith, nat_tests)

abbrev SaysRegister : List ℕ → ℕ → Type 0
SaysRegister word n = (word ≡ register_word n) × (nat_lt n 16 ≡ true)

register_found : (word : List ℕ) → Found (SaysRegister word)
register_found word =
    bounded (SaysRegister word) (λ n. both (same_bytes word (register_word n)) (is_true (nat_lt n 16))) 16 (λ n p. ltb-true n 16 p.1)

abbrev SaysInt : List ℕ → ℤ → Type 0
SaysInt word n = (word ≡ signed_decimal n) × (is_int n ≡ true)

int_found : (word : List ℕ) → Found (SaysInt word)
int_found word = by (of_sign pos (λ n e. ltb-true n 2147483648 e)) (of_sign negsuc (λ n e. ltb-true n 2147483648 e))
  where
    of_sign : (sign : ℕ → ℤ) → ((n : ℕ) → is_int (sign n) ≡ true → n < 2147483648) → Found (λ n. SaysInt word (sign n))
    of_sign sign small =
        bounded (λ n. SaysInt word (sign n)) (λ n. both (same_bytes word (signed_decimal (sign n))) (is_true (is_int (sign n)))) 2147483648 (λ n p. small n p.1)

    by : Found (λ n. SaysInt word (pos n)) → Found (λ n. SaysInt word (negsuc n)) → Found (SaysInt word)
    by (inl found) other = inl (pos found.0, found.1)
    by (inr none) (inl found) = inl (negsuc found.0, found.1)
    by (inr none) (inr not_so) = inr neither
      where
        neither : (n : ℤ) → ¬ SaysInt word n
        neither (pos n) p = none n p
        neither (negsuc n) p = not_so n p

abbrev SaysMode : List ℕ → ℕ → Type 0
SaysMode word mode = (word ≡ mode_word mode) × (is_mode mode ≡ true)

mode_found : (word : List ℕ) → Found (SaysMode word)
mode_found word = bounded (SaysMode word) (λ mode. both (same_bytes word (mode_word mode)) (is_true (is_mode mode))) 3 (λ mode p. small mode p.1)
  where
    small : (mode : ℕ) → is_mode mode ≡ true → mode < 3
    small mode e = grind (arith, nat_tests)

-- ---- texts

text_found : (word : List ℕ) → Found (SaysText word)
text_found [] = inr (λ text says. absurd (let e = says.0 in absurd cc))
text_found (b ∷ bs) = by (same_bytes (b ∷ []) (34 ∷ [])) (unquoted_from Plain bs) refl
  where
    by : Decided (b ∷ [] ≡ 34 ∷ []) → (said : Option (List ℕ)) → unquoted_from Plain bs ≡ said → Found (SaysText (b ∷ bs))
    by (inr other) said e = inr (λ text says. (let first : b ∷ bs ≡ quoted text = says.0 in other (heads text first)))
      where
        heads : (text : List ℕ) → b ∷ bs ≡ quoted text → b ∷ [] ≡ 34 ∷ []
        heads text first = cc
    by (inl quote) None e = inr (λ text says. nothing text (sym (ap (unquoted_from Plain) (tails text says.0) ∙ quoted_reads text) ∙ e))
      where
        tails : (text : List ℕ) → b ∷ bs ≡ quoted text → bs ≡ flat_map quoted_byte text ++ 34 ∷ []
        tails text same = cc

        nothing : (text : List ℕ) → Some text ≡ None → ⊥
        nothing text same = cc
    by (inl quote) (Some said) e = of_said (is_true (is_utf8 said))
      where
        is : bs ≡ flat_map quoted_byte said ++ 34 ∷ []
        is = subst (Were Plain bs) e (text_was Plain bs)

        same_head : b ≡ 34
        same_head = cc

        spelled : b ∷ bs ≡ quoted said
        spelled = ap (λ (t : List ℕ). b ∷ t) is ∙ ap (λ (x : ℕ). x ∷ (flat_map quoted_byte said ++ 34 ∷ [])) same_head

        tails : (text : List ℕ) → b ∷ bs ≡ quoted text → bs ≡ flat_map quoted_byte text ++ 34 ∷ []
        tails text same = cc

        same_text : (text : List ℕ) → b ∷ bs ≡ quoted text → text ≡ said
        same_text text same = inside (sym (ap (unquoted_from Plain) (tails text same) ∙ quoted_reads text) ∙ e)
          where
            inside : Some text ≡ Some said → text ≡ said
            inside some = cc

        of_said : Decided (is_utf8 said ≡ true) → Found (SaysText (b ∷ bs))
        of_said (inl utf8) = inl (said, (spelled, utf8))
        of_said (inr broken) = inr (λ text says. broken (subst (λ (t : List ℕ). is_utf8 t ≡ true) (same_text text says.0) says.1))

key_found : (word : List ℕ) → Found (SaysKey word)
key_found word = by (int_found word) (text_found word)
  where
    by : Found (SaysInt word) → Found (SaysText word) → Found (SaysKey word)
    by (inl found) other = inl (keys.Int found.0, found.1)
    by (inr none) (inl found) = inl (keys.Str found.0, found.1)
    by (inr none) (inr not_so) = inr neither
      where
        neither : (key : IdKey) → ¬ SaysKey word key
        neither (keys.Int n) says = none n says
        neither (keys.Str text) says = not_so text says

-- ---- constants

-- so many bytes, as two digits each
abbrev AreDigits : ℕ → List ℕ → List ℕ → Type 0
AreDigits n word bytes = (word ≡ hexadecimal bytes) × (length bytes ≡ n) × (list_all is_byte bytes ≡ true)

digits_found : (n : ℕ) (word : List ℕ) → Found (AreDigits n word)
digits_found zero [] = inl ([], (refl, refl, refl))
digits_found zero (x ∷ word) = inr none
  where
    none : (bytes : List ℕ) → ¬ AreDigits zero (x ∷ word) bytes
    none [] are = let e = are.0 in absurd cc
    none (b ∷ bytes) are = absurd (omega (arith, are.1))
digits_found (suc n) [] = inr none
  where
    none : (bytes : List ℕ) → ¬ AreDigits (suc n) [] bytes
    none [] are = absurd (omega (arith, are.1))
    none (b ∷ bytes) are = let e = are.0 in absurd cc
digits_found (suc n) (x ∷ []) = inr none
  where
    none : (bytes : List ℕ) → ¬ AreDigits (suc n) (x ∷ []) bytes
    none [] are = absurd (omega (arith, are.1))
    none (b ∷ bytes) are = let e = are.0 in absurd cc
digits_found (suc n) (x ∷ y ∷ word) =
    by (bounded (λ b. (x ∷ y ∷ [] ≡ hex_byte b) × (is_byte b ≡ true)) (λ b. both (same_bytes (x ∷ y ∷ []) (hex_byte b)) (is_true (is_byte b))) 256 (λ b p. ltb-true b 256 p.1)) (digits_found n word)
  where
    by : Found (λ b. (x ∷ y ∷ [] ≡ hex_byte b) × (is_byte b ≡ true)) → Found (AreDigits n word) → Found (AreDigits (suc n) (x ∷ y ∷ word))
    by (inl b) (inl bytes) =
        inl (b.0 ∷ bytes.0, (ap (λ (front : List ℕ). front ++ word) b.1.0 ∙ ap (λ (rest : List ℕ). hex_byte b.0 ++ rest) bytes.1.0, ap suc bytes.1.1, and_from (is_byte b.0) (list_all is_byte bytes.0) b.1.1 bytes.1.2))
    by (inr not_so) others = inr none
      where
        first : (b : ℕ) (bytes : List ℕ) → x ∷ y ∷ word ≡ hexadecimal (b ∷ bytes) → x ∷ y ∷ [] ≡ hex_byte b
        first b bytes e = cc

        none : (bytes : List ℕ) → ¬ AreDigits (suc n) (x ∷ y ∷ word) bytes
        none [] are = absurd (omega (arith, are.1))
        none (b ∷ bytes) are = not_so b (first b bytes are.0, (and_parts (is_byte b) (list_all is_byte bytes) are.2).0)
    by (inl b) (inr not_so) = inr none
      where
        rest : (b : ℕ) (bytes : List ℕ) → x ∷ y ∷ word ≡ hexadecimal (b ∷ bytes) → word ≡ hexadecimal bytes
        rest b bytes e = cc

        none : (bytes : List ℕ) → ¬ AreDigits (suc n) (x ∷ y ∷ word) bytes
        none [] are = absurd (omega (arith, are.1))
        none (b ∷ bytes) are = not_so bytes (rest b bytes are.0, omega (arith, are.1), (and_parts (is_byte b) (list_all is_byte bytes) are.2).1)

abbrev SaysDouble : List ℕ → List ℕ → Type 0
SaysDouble word bytes = (word ≡ codes "d:" ++ hexadecimal bytes) × (((length bytes == 8) && list_all (λ b. nat_lt b 256) bytes) ≡ true)

double_found : (word : List ℕ) → Found (SaysDouble word)
double_found [] = inr (λ bytes says. (let e = says.0 in absurd cc))
double_found (a ∷ []) = inr (λ bytes says. (let e = says.0 in absurd cc))
double_found (a ∷ b ∷ word) = by (same_bytes (a ∷ b ∷ []) (codes "d:")) (digits_found 8 word)
  where
    eight : (n : ℕ) → n ≡ 8 → (n == 8) ≡ true
    eight n e = grind (arith, nat_tests)

    is_eight : (n : ℕ) → (n == 8) ≡ true → n ≡ 8
    is_eight n e = grind (arith, nat_tests)

    heads : (bytes : List ℕ) → a ∷ b ∷ word ≡ codes "d:" ++ hexadecimal bytes → a ∷ b ∷ [] ≡ codes "d:"
    heads bytes e = cc

    tails : (bytes : List ℕ) → a ∷ b ∷ word ≡ codes "d:" ++ hexadecimal bytes → word ≡ hexadecimal bytes
    tails bytes e = cc

    by : Decided (a ∷ b ∷ [] ≡ codes "d:") → Found (AreDigits 8 word) → Found (SaysDouble (a ∷ b ∷ word))
    by (inr other) digits = inr (λ bytes says. other (heads bytes says.0))
    by (inl same) (inl digits) = inl (
      digits.0,
      (
        ap (λ (front : List ℕ). front ++ word) same ∙ ap (λ (rest : List ℕ). codes "d:" ++ rest) digits.1.0,
        and_from (length digits.0 == 8) (list_all (λ b. nat_lt b 256) digits.0) (eight (length digits.0) digits.1.1) digits.1.2,
      ),
    )
    by (inl same) (inr none) = inr (λ bytes says.
        (let parts = and_parts (length bytes == 8) (list_all (λ b. nat_lt b 256) bytes) says.1 in
        none bytes (tails bytes says.0, is_eight (length bytes) parts.0, parts.1)))

value_found : (word : List ℕ) → Found (SaysValue word)
value_found word =
    by (among (SaysValue word) plain (values.Void ∷ values.Null ∷ values.Bool true ∷ values.Bool false ∷ [])) (int_found word) (double_found word) (text_found word)
  where
    plain : (value : Value) → Decided (SaysValue word value)
    plain value = both (same_bytes word _) (is_true _)

    by : ((value : Value) × SaysValue word value) ⊎ AllByRecursion (λ value. ¬ SaysValue word value) (values.Void ∷ values.Null ∷ values.Bool true ∷ values.Bool false ∷ [])
        → Found (SaysInt word) → Found (SaysDouble word) → Found (SaysText word) → Found (SaysValue word)
    by (inl found) ints doubles texts = inl found
    by (inr none) (inl n) doubles texts = inl (values.Int n.0, n.1)
    by (inr none) (inr no_int) (inl d) texts = inl (values.Double d.0, d.1)
    by (inr none) (inr no_int) (inr no_double) (inl t) = inl (values.Text t.0, t.1)
    by (inr none) (inr no_int) (inr no_double) (inr no_text) = inr neither
      where
        neither : (value : Value) → ¬ SaysValue word value
        neither values.Void says = none.0 says
        neither values.Null says = none.1.0 says
        neither (values.Bool true) says = none.1.1.0 says
        neither (values.Bool false) says = none.1.1.1.0 says
        neither (values.Int n) says = no_int n says
        neither (values.Double bytes) says = no_double bytes says
        neither (values.Text text) says = no_text text says
        neither (values.Object name) says = false≢true says.1

operand_found : (word : List ℕ) → Found (SaysOperand word)
operand_found word = by (register_found word) (value_found word)
  where
    by : Found (SaysRegister word) → Found (SaysValue word) → Found (SaysOperand word)
    by (inl found) other = inl (Reg found.0, found.1)
    by (inr none) (inl found) = inl (Const found.0, found.1)
    by (inr none) (inr not_so) = inr neither
      where
        neither : (operand : Operand) → ¬ SaysOperand word operand
        neither (Reg n) says = none n says
        neither (Const value) says = not_so value says

handler_found : (word : List ℕ) → Found (λ handler. word ≡ handler_word handler)
handler_found word = by (among (λ handler. word ≡ handler_word handler) (λ handler. same_bytes word (handler_word handler)) handlers)
  where
    by : ((handler : Handler) × (word ≡ handler_word handler)) ⊎ AllByRecursion (λ handler. ¬ (word ≡ handler_word handler)) handlers → Found (λ handler. word ≡ handler_word handler)
    by (inl found) = inl found
    by (inr none) = inr neither
      where
        neither : (handler : Handler) → ¬ (word ≡ handler_word handler)
        neither New e = none.0 e
        neither Destroy e = none.1.0 e
        neither Scriptable e = none.1.1.0 e
        neither NewStream e = none.1.1.1.0 e
        neither WriteReady e = none.1.1.1.1.0 e
        neither Write e = none.1.1.1.1.1.0 e
        neither AsFile e = none.1.1.1.1.1.1.0 e
        neither DestroyStream e = none.1.1.1.1.1.1.1.0 e
        neither UrlNotify e = none.1.1.1.1.1.1.1.1.0 e

-- ---- fields

field_found : (item : Item) (word : List ℕ) → Found (Says item word)
field_found items.Register word = made (SaysRegister word) (Says items.Register word) fields.Register (λ n p. p) down (register_found word)
  where
    down : (field : Field) → Says items.Register word field → (n : ℕ) × SaysRegister word n
    down (fields.Register n) says = (n, says)
    down field says = absurd (false≢true says.1)
field_found items.Operand word = made (SaysOperand word) (Says items.Operand word) fields.Operand (λ operand p. p) down (operand_found word)
  where
    down : (field : Field) → Says items.Operand word field → (operand : Operand) × SaysOperand word operand
    down (fields.Operand operand) says = (operand, says)
    down field says = absurd (false≢true says.1)
field_found items.Integer word = made (SaysInt word) (Says items.Integer word) fields.Integer (λ n p. p) down (int_found word)
  where
    down : (field : Field) → Says items.Integer word field → (n : ℤ) × SaysInt word n
    down (fields.Integer n) says = (n, says)
    down field says = absurd (false≢true says.1)
field_found (items.Number low high) word =
    made (SaysNumber low high word) (Says (items.Number low high) word) fields.Number (λ n p. p) down (number_found word low high)
  where
    down : (field : Field) → Says (items.Number low high) word field → (n : ℕ) × SaysNumber low high word n
    down (fields.Number n) says = (n, says)
    down field says = absurd (false≢true says.1)
field_found items.Text word = made (SaysText word) (Says items.Text word) fields.Text (λ text p. p) down (text_found word)
  where
    down : (field : Field) → Says items.Text word field → (text : List ℕ) × SaysText word text
    down (fields.Text text) says = (text, says)
    down field says = absurd (false≢true says.1)
field_found items.Identifier word = made (SaysKey word) (Says items.Identifier word) fields.Identifier (λ key p. p) down (key_found word)
  where
    down : (field : Field) → Says items.Identifier word field → (key : IdKey) × SaysKey word key
    down (fields.Identifier key) says = (key, says)
    down field says = absurd (false≢true says.1)
field_found items.Mode word = made (SaysMode word) (Says items.Mode word) fields.Mode (λ mode p. p) down (mode_found word)
  where
    down : (field : Field) → Says items.Mode word field → (mode : ℕ) × SaysMode word mode
    down (fields.Mode mode) says = (mode, says)
    down field says = absurd (false≢true says.1)
field_found items.HandlerWord word = made (λ handler. word ≡ handler_word handler) (Says items.HandlerWord word) fields.HandlerWord (λ handler p. (p, refl)) down (handler_found word)
  where
    down : (field : Field) → Says items.HandlerWord word field → (handler : Handler) × (word ≡ handler_word handler)
    down (fields.HandlerWord handler) says = (handler, says.0)
    down field says = absurd (false≢true says.1)

-- the words spell fields of these items, one for one
abbrev SpellEach : List Item → List (List ℕ) → List Field → Type 0
SpellEach each words all = (words ≡ map field_word all) × (are_of each all ≡ true)

each_found : (each : List Item) (words : List (List ℕ)) → Found (SpellEach each words)
each_found [] [] = inl ([], (refl, refl))
each_found [] (word ∷ words) = inr none
  where
    none : (all : List Field) → ¬ SpellEach [] (word ∷ words) all
    none [] spell = let e = spell.0 in absurd cc
    none (field ∷ all) spell = false≢true spell.1
each_found (item ∷ each) [] = inr none
  where
    none : (all : List Field) → ¬ SpellEach (item ∷ each) [] all
    none [] spell = false≢true spell.1
    none (field ∷ all) spell = let e = spell.0 in absurd cc
each_found (item ∷ each) (word ∷ words) = by (field_found item word) (each_found each words)
  where
    by : Found (Says item word) → Found (SpellEach each words) → Found (SpellEach (item ∷ each) (word ∷ words))
    by (inl field) (inl all) = inl (
      field.0 ∷ all.0,
      (
        ap (λ (w : List ℕ). w ∷ words) field.1.0 ∙ ap (λ (ws : List (List ℕ)). field_word field.0 ∷ ws) all.1.0,
        and_from (is_of item field.0) (are_of each all.0) field.1.1 all.1.1,
      ),
    )
    by (inr not_so) others = inr none
      where
        heads : (field : Field) (all : List Field) → word ∷ words ≡ map field_word (field ∷ all) → word ≡ field_word field
        heads field all e = cc

        none : (all : List Field) → ¬ SpellEach (item ∷ each) (word ∷ words) all
        none [] spell = false≢true spell.1
        none (field ∷ all) spell = not_so field (heads field all spell.0, (and_parts (is_of item field) (are_of each all) spell.1).0)
    by (inl field) (inr not_so) = inr none
      where
        tails : (first : Field) (all : List Field) → word ∷ words ≡ map field_word (first ∷ all) → words ≡ map field_word all
        tails first all e = cc

        none : (all : List Field) → ¬ SpellEach (item ∷ each) (word ∷ words) all
        none [] spell = false≢true spell.1
        none (first ∷ all) spell = not_so all (tails first all spell.0, (and_parts (is_of item first) (are_of each all) spell.1).1)

-- ---- forms

no_groups : (n : ℕ) → repeated n [] ≡ []
no_groups zero = refl
no_groups (suc n) = no_groups n

groups_are_few : (n : ℕ) (item : Item) (group : List Item) → n ≤ length (repeated n (item ∷ group))
groups_are_few zero item group = omega arith
groups_are_few (suc n) item group = omega (arith, groups_are_few n item group, length-append group (repeated n (item ∷ group)))

-- the words spell fields of this form with so many groups
abbrev SpellGroups : Form → List (List ℕ) → ℕ → Type 0
SpellGroups form words groups = (form.least ≤ groups) × ((all : List Field) × SpellEach (form.items ++ repeated groups form.group) words all)

pub fields_decided : FieldsAreDecided
fields_decided form words = by (below (SpellGroups form words) decide (suc (form.least + length words)))
  where
    at_least : (n : ℕ) → Decided (form.least ≤ n)
    at_least n = to (is_true (nat_le form.least n))
      where
        yes : nat_le form.least n ≡ true → form.least ≤ n
        yes e = grind (arith, nat_tests)

        back : form.least ≤ n → nat_le form.least n ≡ true
        back le = grind (arith, nat_tests)

        to : Decided (nat_le form.least n ≡ true) → Decided (form.least ≤ n)
        to (inl e) = inl (yes e)
        to (inr other) = inr (λ le. other (back le))

    found : (n : ℕ) → Found (SpellEach (form.items ++ repeated n form.group) words) → Decided ((all : List Field) × SpellEach (form.items ++ repeated n form.group) words all)
    found n (inl some) = inl some
    found n (inr none) = inr (λ some. none some.0 some.1)

    decide : (n : ℕ) → Decided (SpellGroups form words n)
    decide n = both (at_least n) (found n (each_found (form.items ++ repeated n form.group) words))

    by : ((n : ℕ) × SpellGroups form words n) ⊎ ((n : ℕ) → n < suc (form.least + length words) → ¬ SpellGroups form words n)
        → ((all : List Field) × (words ≡ map field_word all) × HasForm form all) ⊎ ((all : List Field) → words ≡ map field_word all → ¬ HasForm form all)
    by (inl some) = inl (some.1.1.0, some.1.1.1.0, record { groups = some.0; enough = some.1.0; each = some.1.1.1.1 })
    by (inr none) = inr (λ all spelled has. nowhere all spelled has form.group refl)
      where
        nowhere : (all : List Field) → words ≡ map field_word all → (has : HasForm form all) → (group : List Item) → form.group ≡ group → ⊥
        nowhere all spelled has [] e =
            let same : repeated form.least form.group ≡ repeated has.groups form.group =
            ap (repeated form.least) e ∙ no_groups form.least ∙ sym (no_groups has.groups) ∙ ap (repeated has.groups) (sym e) in
            none form.least (omega arith) (omega arith, (all, (spelled, ap (λ (l : List Item). are_of (form.items ++ l) all) same ∙ has.each)))
        nowhere all spelled has (item ∷ group) e =
            let many : has.groups ≤ length (repeated has.groups form.group) = subst (λ (l : List Item). has.groups ≤ length (repeated has.groups l)) (sym e) (groups_are_few has.groups item group) in
            let long : length all ≡ length (form.items ++ repeated has.groups form.group) = length-are_of (form.items ++ repeated has.groups form.group) all has.each in
            let count : length words ≡ length (map field_word all) = ap length spelled in
            none has.groups (omega (arith, many, long, count, length-append form.items (repeated has.groups form.group), length-map all field_word)) (has.enough, (all, (spelled, has.each)))
