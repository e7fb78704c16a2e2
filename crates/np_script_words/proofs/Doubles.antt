-- The digits of a double.
use Rattle.std.proofs.Common.{◌≡◌, ℕ, zero, suc, ◌/◌, ◌%◌, ◌<◌, List, [], ◌∷◌, length, get_or, true, Ok, refl, ap, ◌∙◌, arith}
use Rattle.std.specs.List.{list_all}
use Rattle.std.specs.Char.{digit_char}
use Rattle.std.specs.Prelude.{slice_index}
use Rattle.std.proofs.lemmas.Bool.{and_parts, and_from, ltb-true}
use Rattle.std.proofs.lemmas.Bool.Decides.{nat_tests}
use Rattle.hex.specs.Hex.{IsBytes, decode_sized, encode_lower, encode_with, lower_digits}
use Rattle.hex.proofs.HexLemmas.{decode_sized-encode_lower}
use Rattle.np_script_grammar.specs.Fields.{hexadecimal}
use Rattle.np_script_words.specs.Reads.{is_byte}

digit_is : (d : ℕ) → d < 16 → slice_index lower_digits d ≡ digit_char d
digit_is zero h = refl
digit_is (suc zero) h = refl
digit_is (suc (suc zero)) h = refl
digit_is (suc (suc (suc zero))) h = refl
digit_is (suc (suc (suc (suc zero)))) h = refl
digit_is (suc (suc (suc (suc (suc zero))))) h = refl
digit_is (suc (suc (suc (suc (suc (suc zero)))))) h = refl
digit_is (suc (suc (suc (suc (suc (suc (suc zero))))))) h = refl
digit_is (suc (suc (suc (suc (suc (suc (suc (suc zero)))))))) h = refl
digit_is (suc (suc (suc (suc (suc (suc (suc (suc (suc zero))))))))) h = refl
digit_is (suc (suc (suc (suc (suc (suc (suc (suc (suc (suc zero)))))))))) h = refl
digit_is (suc (suc (suc (suc (suc (suc (suc (suc (suc (suc (suc zero))))))))))) h = refl
digit_is (suc (suc (suc (suc (suc (suc (suc (suc (suc (suc (suc (suc zero)))))))))))) h = refl
digit_is (suc (suc (suc (suc (suc (suc (suc (suc (suc (suc (suc (suc (suc zero))))))))))))) h = refl
digit_is (suc (suc (suc (suc (suc (suc (suc (suc (suc (suc (suc (suc (suc (suc zero)))))))))))))) h = refl
digit_is (suc (suc (suc (suc (suc (suc (suc (suc (suc (suc (suc (suc (suc (suc (suc zero))))))))))))))) h = refl
digit_is (suc (suc (suc (suc (suc (suc (suc (suc (suc (suc (suc (suc (suc (suc (suc (suc d)))))))))))))))) h = absurd (omega arith)

pub hexadecimal_is : (bytes : List ℕ) → list_all is_byte bytes ≡ true → hexadecimal bytes ≡ encode_lower bytes
unfolding encode_with
hexadecimal_is [] are = refl
hexadecimal_is (b ∷ bytes) are =
    let both : (is_byte b ≡ true) × (list_all is_byte bytes ≡ true) = and_parts (is_byte b) (list_all is_byte bytes) are in
    let small : b < 256 = ltb-true b 256 both.0 in
    rw (digit_is (b / 16) (omega arith), digit_is (b % 16) (omega arith), hexadecimal_is bytes both.1) refl

is_bytes : (bytes : List ℕ) → list_all is_byte bytes ≡ true → IsBytes bytes
is_bytes [] are i = omega arith
is_bytes (b ∷ bytes) are zero = ltb-true b 256 (and_parts (is_byte b) (list_all is_byte bytes) are).0
is_bytes (b ∷ bytes) are (suc i) = is_bytes bytes (and_parts (is_byte b) (list_all is_byte bytes) are).1 i

pub are_bytes : (bytes : List ℕ) → ((i : ℕ) → get_or bytes i 0 < 256) → list_all is_byte bytes ≡ true
are_bytes [] h = refl
are_bytes (b ∷ bytes) h =
    let first : is_byte b ≡ true = grind (arith, nat_tests, h 0) in
    and_from (is_byte b) (list_all is_byte bytes) first (are_bytes bytes (λ i. h (suc i)))

pub decodes : (digits bytes : List ℕ) → length bytes ≡ 8 → list_all is_byte bytes ≡ true → digits ≡ hexadecimal bytes → decode_sized digits 8 ≡ Ok bytes
decodes digits bytes eight are e =
    ap (λ (ds : List ℕ). decode_sized ds 8) (e ∙ hexadecimal_is bytes are) ∙ decode_sized-encode_lower bytes 8 eight (is_bytes bytes are)
