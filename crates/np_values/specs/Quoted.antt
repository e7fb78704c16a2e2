-- Quoted texts. (This project's own.)
use Rattle.std.specs.Prelude.{ℕ, ◌/◌, ◌%◌, List, [], ◌∷◌, ◌++◌, Bool, not, ◌&&◌, ◌||◌, nat_le, ◌==◌, if◌then◌else◌}
use Rattle.std.specs.List.{flat_map}
use Rattle.std.specs.Char.{digit_char}

-- the bytes that may stand as themselves: all but those below 32, and 127
abbrev pub is_plain : ℕ → Bool
is_plain b = nat_le 32 b && not (b == 127)

-- a byte as two hexadecimal digits in lower case
abbrev pub hex_byte : ℕ → List ℕ
hex_byte b = digit_char (b / 16) ∷ digit_char (b % 16) ∷ []

-- how a byte stands in a quoted text: as itself, after a backslash, or as \xHH in lower case
abbrev pub quoted_byte : ℕ → List ℕ
quoted_byte b =
    if b == 34 || b == 92 then 92 ∷ b ∷ []
    else if is_plain b then b ∷ []
    else 92 ∷ 120 ∷ hex_byte b

-- the one quoted text that says these bytes
abbrev pub quoted : List ℕ → List ℕ
quoted text = 34 ∷ (flat_map quoted_byte text ++ 34 ∷ [])
