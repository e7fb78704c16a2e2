-- A quoted text has bytes that a line may have, and is UTF-8 exactly where what it says is.
use Rattle.std.proofs.Common.{◌≡◌, ℕ, zero, suc, ◌<◌, ◌≤◌, List, [], ◌∷◌, ◌++◌, length, get_or, Bool, true, ltb, refl, sym, ◌∙◌, subst, arith, inl, inr}
use Rattle.std.specs.List.{flat_map, list_all}
use Rattle.std.specs.Str.{IsUtf8, is_utf8}
use Rattle.std.proofs.Math.Utf8.{scalar, scalars, encode, encodes}
use Rattle.std.proofs.lemmas.Bool.{and_parts, and_from, cases_lt, ltb-true}
use Rattle.std.proofs.lemmas.Bool.Decides.{nat_tests}
use Rattle.std.proofs.lemmas.List.{append-nil}
use Rattle.std.proofs.lemmas.List.Folds.{list_all-append}
use Rattle.std.proofs.lemmas.Grind.{flat_map-append}
use Rattle.std.proofs.lemmas.Str.{IsUtf8-append, IsUtf8-encode, IsUtf8-from_ascii, IsUtf8-from_is_utf8, IsUtf8-nil, encode_ascii, inside_one}
use Rattle.np_script_grammar.specs.Words.{is_plain}
use Rattle.np_script_grammar.specs.Fields.{quoted_byte, quoted}

pub all-append : (p : ℕ → Bool) (xs ys : List ℕ) → list_all p xs ≡ true → list_all p ys ≡ true → list_all p (xs ++ ys) ≡ true
all-append p xs ys e f = list_all-append p xs ys ∙ and_from (list_all p xs) (list_all p ys) e f

byte_is_plain : (b : ℕ) → list_all is_plain (quoted_byte b) ≡ true
byte_is_plain b = grind (arith, nat_tests)

bytes_are_plain : (text : List ℕ) → list_all is_plain (flat_map quoted_byte text) ≡ true
bytes_are_plain [] = refl
bytes_are_plain (b ∷ text) = all-append is_plain (quoted_byte b) (flat_map quoted_byte text) (byte_is_plain b) (bytes_are_plain text)

pub quoted_is_plain : (text : List ℕ) → list_all is_plain (quoted text) ≡ true
quoted_is_plain text = all-append is_plain (flat_map quoted_byte text) (34 ∷ []) (bytes_are_plain text) refl

-- ---- UTF-8

abbrev pub is_low : ℕ → Bool
is_low b = ltb b 128

low_at : (bs : List ℕ) → list_all is_low bs ≡ true → (i : ℕ) → get_or bs i 0 < 128
low_at [] e i = omega arith
low_at (b ∷ bs) e zero = ltb-true b 128 (and_parts (is_low b) (list_all is_low bs) e).0
low_at (b ∷ bs) e (suc i) = low_at bs (and_parts (is_low b) (list_all is_low bs) e).1 i

pub low_is_utf8 : (bs : List ℕ) → list_all is_low bs ≡ true → IsUtf8 bs
low_is_utf8 bs e = IsUtf8-from_ascii bs (low_at bs e)

pub low_byte : (b : ℕ) → b < 128 → list_all is_low (quoted_byte b) ≡ true
low_byte b low = grind (arith, nat_tests)

pub high_byte : (b : ℕ) → 128 ≤ b → quoted_byte b ≡ b ∷ []
high_byte b high = grind (arith, nat_tests)

high_bytes : (bs : List ℕ) → ((k : ℕ) → k < length bs → 128 ≤ get_or bs k 0) → flat_map quoted_byte bs ≡ bs
high_bytes [] high = refl
high_bytes (b ∷ bs) high = rw (high_byte b (high 0 (omega arith)), high_bytes bs (λ k h. high (suc k) (omega arith))) refl

pub high_char : (c : ℕ) → 128 ≤ c → (k : ℕ) → k < length (encode c) → 128 ≤ get_or (encode c) k 0
high_char c high k h = elim (cases_lt (get_or (encode c) k 0) 128) [
  | inl low ↦ absurd (omega (arith, inside_one c [] (encode c) k (sym (append-nil (encode c))) h low))
  | inr le ↦ le
]

low_char : (c : ℕ) → c < 128 → IsUtf8 (flat_map quoted_byte (encode c))
low_char c low = rw (encode_ascii c low, append-nil (quoted_byte c)) (low_is_utf8 (quoted_byte c) (low_byte c low))

char_is_utf8 : (c : ℕ) → scalar c ≡ true → IsUtf8 (flat_map quoted_byte (encode c))
char_is_utf8 c e = elim (cases_lt c 128) [
  | inl low ↦ low_char c low
  | inr high ↦ subst IsUtf8 (sym (high_bytes (encode c) (high_char c high))) (IsUtf8-encode c e)
]

chars_are_utf8 : (cs : List ℕ) → scalars cs ≡ true → IsUtf8 (flat_map quoted_byte (encodes cs))
chars_are_utf8 [] e = IsUtf8-nil
chars_are_utf8 (c ∷ cs) e =
    let both : (scalar c ≡ true) × (scalars cs ≡ true) = and_parts (scalar c) (scalars cs) e in
    subst IsUtf8 (sym (flat_map-append quoted_byte (encode c) (encodes cs))) (IsUtf8-append _ _ (char_is_utf8 c both.0) (chars_are_utf8 cs both.1))

pub quoted_is_utf8 : (text : List ℕ) → is_utf8 text ≡ true → IsUtf8 (quoted text)
quoted_is_utf8 text e =
    let chars = IsUtf8-from_is_utf8 text e in
    let quote : IsUtf8 (34 ∷ []) = low_is_utf8 (34 ∷ []) refl in
    let bytes : IsUtf8 (flat_map quoted_byte text) = subst (λ (bs : List ℕ). IsUtf8 (flat_map quoted_byte bs)) chars.1.1 (chars_are_utf8 chars.0 chars.1.0) in
    IsUtf8-append (34 ∷ []) _ quote (IsUtf8-append _ (34 ∷ []) bytes quote)
