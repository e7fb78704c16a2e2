-- Which bytes are UTF-8.
use Rattle.std.proofs.Common.{◌≡◌, ℕ, List, Bool, true, false, refl}
use Rattle.std.specs.Str.{IsUtf8, is_utf8}
use Rattle.std.proofs.lemmas.Str.{IsUtf8-from_is_utf8, is_utf8-from_IsUtf8}

tested : (b : Bool) → (b ≡ true → ⊥) → b ≡ false
tested true h = absurd (h refl)
tested false h = refl

pub is_broken : (bytes : List ℕ) → (IsUtf8 bytes → ⊥) → is_utf8 bytes ≡ false
is_broken bytes h = tested (is_utf8 bytes) (λ e. h (IsUtf8-from_is_utf8 bytes e))

pub is_whole : (bytes : List ℕ) → IsUtf8 bytes → is_utf8 bytes ≡ true
is_whole bytes h = is_utf8-from_IsUtf8 bytes h
