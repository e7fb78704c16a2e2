-- Which bytes are an identifier's text.
use Rattle.std.proofs.Common.{◌≡◌, ℕ, ◌<◌, List, length, Bool, true, false, refl, arith}
use Rattle.std.specs.Str.{IsUtf8, is_utf8}
use Rattle.std.proofs.lemmas.Str.{IsUtf8-from_is_utf8, is_utf8-from_IsUtf8}
use Rattle.np_idents.specs.IdText.{is_id_text}
use Rattle.std.proofs.lemmas.Bool.Decides.{nat_tests}

tested : (b : Bool) → (b ≡ true → ⊥) → b ≡ false
tested true h = absurd (h refl)
tested false h = refl

pub is_broken : (bytes : List ℕ) → (IsUtf8 bytes → ⊥) → is_id_text bytes ≡ false
unfolding is_id_text
is_broken bytes h =
    let broken : is_utf8 bytes ≡ false = tested (is_utf8 bytes) (λ e. h (IsUtf8-from_is_utf8 bytes e)) in
    grind (arith, nat_tests, broken)

pub is_long : (bytes : List ℕ) → 256 < length bytes → is_id_text bytes ≡ false
unfolding is_id_text
is_long bytes h = grind (arith, nat_tests)

pub is_short : (bytes : List ℕ) → IsUtf8 bytes → (256 < length bytes → ⊥) → is_id_text bytes ≡ true
unfolding is_id_text
is_short bytes valid h =
    let whole : is_utf8 bytes ≡ true = is_utf8-from_IsUtf8 bytes valid in
    grind (arith, nat_tests, whole)
