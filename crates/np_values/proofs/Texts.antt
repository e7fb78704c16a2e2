-- Which bytes are a text.
use Rattle.std.proofs.Common.{◌≡◌, ℕ, ◌≤◌, List, length, Bool, true, false, refl, arith}
use Rattle.std.specs.Str.{IsUtf8, is_utf8}
use Rattle.std.proofs.lemmas.Str.{IsUtf8-from_is_utf8, is_utf8-from_IsUtf8}
use Rattle.std.proofs.lemmas.Bool.Decides.{nat_tests}
use Rattle.np_values.specs.Text.{is_text}

pub is_valid : (bytes : List ℕ) → length bytes ≤ 2048 → IsUtf8 bytes → is_text bytes ≡ true
unfolding is_text
is_valid bytes short utf8 = grind (arith, is_utf8-from_IsUtf8 bytes utf8)

pub is_whole : (bytes : List ℕ) → IsUtf8 bytes → is_utf8 bytes ≡ true
is_whole bytes utf8 = is_utf8-from_IsUtf8 bytes utf8

tested : (b : Bool) → (b ≡ true → ⊥) → b ≡ false
tested true h = absurd (h refl)
tested false h = refl

pub is_broken : (bytes : List ℕ) → (IsUtf8 bytes → ⊥) → is_utf8 bytes ≡ false
is_broken bytes h = tested (is_utf8 bytes) (λ e. h (IsUtf8-from_is_utf8 bytes e))

pub is_short : (bytes : List ℕ) → is_text bytes ≡ true → length bytes ≤ 2048
unfolding is_text
is_short bytes e = grind (arith, nat_tests)
