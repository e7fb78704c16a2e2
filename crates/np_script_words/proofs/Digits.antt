-- The bytes of numbers.
use Rattle.std.proofs.Common.{◌≡◌, ℕ, suc, ◌/◌, ◌%◌, ◌^◌, ◌<◌, ◌≤◌, List, [], ◌∷◌, length, get_or, Bool, true, ltb, ℤ, pos, negsuc, refl, arith, inl, inr, ◌⊎◌}
use Rattle.std.proofs.Common.{◌&&◌}
use Rattle.std.specs.List.{list_all}
use Rattle.std.specs.Char.{digit_char, digit_value}
use Rattle.std.specs.Fmt.{decimal, signed_decimal}
use Rattle.std.specs.Str.Parse.{AllDigits}
use Rattle.std.proofs.lemmas.Bool.{and_parts, and_from, ltb-true}
use Rattle.std.proofs.lemmas.Bool.Decides.{nat_tests}
use Rattle.std.proofs.lemmas.Fmt.{decimal_is_IsNumeral, decimal_nonempty}
use Rattle.std.proofs.lemmas.Str.Parse.{digit_at, digit_from_value}
use Rattle.np_script_grammar.specs.Fields.{is_int, hexadecimal}
use Rattle.np_script_words.specs.Reads.{is_byte}

-- above the quotation mark, and no control byte
abbrev pub is_bare : ℕ → Bool
is_bare b = ltb 34 b && ltb b 127

bare_digit : (c : ℕ) → digit_value c < 10 → is_bare c ≡ true
bare_digit c h =
    let range : (48 ≤ c) × (c ≤ 57) = digit_from_value c h in
    grind (arith, nat_tests)

bare_digits : (ds : List ℕ) → AllDigits 10 ds → list_all is_bare ds ≡ true
bare_digits [] h = refl
bare_digits (c ∷ ds) h = and_from (is_bare c) (list_all is_bare ds) (bare_digit c h.0) (bare_digits ds h.1)

pub bare_decimal : (n : ℕ) → n < 2 ^ 64 → list_all is_bare (decimal n) ≡ true
bare_decimal n h = bare_digits (decimal n) (decimal_is_IsNumeral n h).0.1

pub first_decimal : (n : ℕ) → n < 2 ^ 64 → (48 ≤ get_or (decimal n) 0 0) × (get_or (decimal n) 0 0 ≤ 57)
first_decimal n h = digit_at (decimal n) 0 (decimal_is_IsNumeral n h).0.1 (decimal_nonempty n h)

pub bare_signed : (n : ℤ) → is_int n ≡ true → list_all is_bare (signed_decimal n) ≡ true
bare_signed (pos n) e = let small : n < 2147483648 = ltb-true n 2147483648 e in bare_decimal n (omega arith)
bare_signed (negsuc n) e = let small : n < 2147483648 = ltb-true n 2147483648 e in bare_decimal (suc n) (omega arith)

pub some_signed : (n : ℤ) → is_int n ≡ true → 0 < length (signed_decimal n)
some_signed (pos n) e = let small : n < 2147483648 = ltb-true n 2147483648 e in decimal_nonempty n (omega arith)
some_signed (negsuc n) e = omega arith

-- a minus or a digit
pub first_signed : (n : ℤ) → is_int n ≡ true → (get_or (signed_decimal n) 0 0 ≡ 45) ⊎ ((48 ≤ get_or (signed_decimal n) 0 0) × (get_or (signed_decimal n) 0 0 ≤ 57))
first_signed (pos n) e = let small : n < 2147483648 = ltb-true n 2147483648 e in inr (first_decimal n (omega arith))
first_signed (negsuc n) e = inl refl

bare_half : (d : ℕ) → d < 16 → is_bare (digit_char d) ≡ true
bare_half d h = grind (arith, nat_tests)

pub bare_hexadecimal : (bytes : List ℕ) → list_all is_byte bytes ≡ true → list_all is_bare (hexadecimal bytes) ≡ true
bare_hexadecimal [] e = refl
bare_hexadecimal (b ∷ bytes) e =
    let both : (is_byte b ≡ true) × (list_all is_byte bytes ≡ true) = and_parts (is_byte b) (list_all is_byte bytes) e in
    let small : b < 256 = ltb-true b 256 both.0 in
    and_from (is_bare (digit_char (b / 16))) _ (bare_half (b / 16) (omega arith))
    (and_from (is_bare (digit_char (b % 16))) _ (bare_half (b % 16) (omega arith)) (bare_hexadecimal bytes both.1))
