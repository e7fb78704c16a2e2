-- Which bytes are an identifier's text.
use Rattle.std.proofs.Common.{◌≡◌, ℕ, ◌≤◌, List, length, true, arith}
use Rattle.std.specs.Str.{IsUtf8}
use Rattle.std.proofs.lemmas.Str.{is_utf8-from_IsUtf8}
use Rattle.std.proofs.lemmas.Bool.Decides.{nat_tests}
use Rattle.np_idents.specs.IdText.{is_id_text}

pub is_valid : (bytes : List ℕ) → length bytes ≤ 256 → IsUtf8 bytes → is_id_text bytes ≡ true
unfolding is_id_text
is_valid bytes short utf8 = grind (arith, is_utf8-from_IsUtf8 bytes utf8)

pub is_short : (bytes : List ℕ) → is_id_text bytes ≡ true → length bytes ≤ 256
unfolding is_id_text
is_short bytes e = grind (arith, nat_tests)
