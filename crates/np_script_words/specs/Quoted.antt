-- What a quoted text says, byte by byte. (This project's own.)
use Rattle.std.specs.Prelude.{◌≡◌, ◌<◌, ◌≤◌, ℕ, ◌+◌, ◌-◌, ◌*◌, List, [], ◌∷◌, length, Bool, if◌then◌else◌, nat_lt, nat_le, ◌==◌, ◌&&◌, ◌||◌, Option, Some, None, option_map, Result, Ok, Err}
use Rattle.std.specs.Global.{Vec}
use Rattle.np_script_grammar.specs.Words.{is_plain}
use Rattle.np_script_words.specs.declared.error.FieldError.{FieldError}
use Rattle.np_script_words.specs.declared.error.FieldError.TheVariants.{Form, Limit, NoMemory}
use Rattle.np_script_words.specs.declared.quoted.QuotedState.{QuotedState}
use Rattle.np_script_words.specs.declared.quoted.QuotedState.TheVariants.{Plain, Escape, HexHigh, HexLow}
use Rattle.np_script_words.specs.declared.quoted.QuotedStep.{QuotedStep}
use Rattle.np_script_words.specs.declared.quoted.QuotedStep.TheVariants.{Closed, Moved, Byte, Failed}

-- a hexadecimal digit in lower case
abbrev pub is_hex : ℕ → Bool
is_hex b = (nat_le 48 b && nat_le b 57) || (nat_le 97 b && nat_le b 102)

-- the number that such a digit stands for
abbrev pub hex_value : ℕ → ℕ
hex_value b = if nat_le b 57 then b - 48 else b - 87

-- what a byte of a quoted text does; an item is a plain byte other than " and \, or \", \\, or \xHH with HH one of 00 to 1f and 7f
abbrev pub quoted_step : QuotedState → ℕ → QuotedStep
quoted_step Plain b = if b == 34 then Closed else if b == 92 then Moved Escape else if is_plain b then Byte b else Failed
quoted_step Escape b = if b == 34 || b == 92 then Byte b else if b == 120 then Moved HexHigh else Failed
quoted_step HexHigh b = if b == 48 || b == 49 || b == 55 then Moved (HexLow (b - 48)) else Failed
quoted_step (HexLow high) b = if is_hex b && (nat_lt high 2 || (high == 7 && hex_value b == 15)) then Byte (16 * high + hex_value b) else Failed

-- what a quoted text says that is closed at its end, from after its opening quote
abbrev pub unquoted_from : QuotedState → List ℕ → Option (List ℕ)
unquoted_from state [] = None
unquoted_from state (b ∷ bs) =
    elim (quoted_step state b) [
      | Closed ↦ if length bs == 0 then Some [] else None
      | Moved next ↦ unquoted_from next bs
      | Byte c ↦ option_map (λ text. c ∷ text) (unquoted_from Plain bs)
      | Failed ↦ None
    ]

-- it is read, where it has this many bytes at most
abbrev pub Unquotes : ℕ → Option (List ℕ) → Result (Vec ℕ) FieldError → Type 0
Unquotes limit said (Ok text) = (said ≡ Some text.items) × (length text.items ≤ limit)
Unquotes limit said (Err Limit) = (text : List ℕ) × (said ≡ Some text) × (limit < length text)
Unquotes limit said (Err Form) = said ≡ None
Unquotes limit said (Err NoMemory) = Unit {0}
