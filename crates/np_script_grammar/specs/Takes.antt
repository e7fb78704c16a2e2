-- Fields are taken off the front of a line, one after another. (This project's own.)
use Rattle.std.specs.Prelude.{◌≡◌, ℕ, ℤ, List, [], ◌∷◌, if◌then◌else◌, nat_lt, Option, Some, None, Result, Ok, Err}
use Rattle.np_values.specs.declared.memory.NoMemory.{NoMemory}
use Rattle.np_values.specs.declared.handler.Handler.{Handler}
use Rattle.np_values.specs.declared.range.Range.{Range}
use Rattle.np_values.specs.declared.reason.NpReason.{NpReason}
use Rattle.np_values.specs.NpReason.{reason_of}
use Rattle.np_idents.specs.declared.key.IdKey.{IdKey}
use Rattle.np_script_grammar.specs.declared.action.Operand.{Operand}
use Rattle.np_script_grammar.specs.declared.line.Field.{Field}
use Rattle.np_script_grammar.specs.declared.line.Field.TheVariants.{Register, Operand as OfOperand, Integer, Number, Text, Identifier, Mode, HandlerWord}

infixl 10 ◌>>=◌
abbrev pub ◌>>=◌ : {A B : Type 0} → Option A → (A → Option B) → Option B
None >>= f = None
(Some x) >>= f = f x

-- ---- what a field holds, if it is of this kind

abbrev pub register_in : Field → Option ℕ
register_in (Register number) = Some number
register_in field = None

abbrev pub operand_in : Field → Option Operand
operand_in (OfOperand operand) = Some operand
operand_in field = None

abbrev pub integer_in : Field → Option ℤ
integer_in (Integer number) = Some number
integer_in field = None

abbrev pub number_in : Field → Option ℕ
number_in (Number number) = Some number
number_in field = None

-- a number of a byte
abbrev pub byte_in : Field → Option ℕ
byte_in (Number number) = if nat_lt number 256 then Some number else None
byte_in field = None

abbrev pub text_in : Field → Option (List ℕ)
text_in (Text text) = Some text
text_in field = None

abbrev pub key_in : Field → Option IdKey
key_in (Identifier key) = Some key
key_in field = None

abbrev pub mode_in : Field → Option ℕ
mode_in (Mode mode) = Some mode
mode_in field = None

abbrev pub handler_in : Field → Option Handler
handler_in (HandlerWord handler) = Some handler
handler_in field = None

-- npapi.h, NPReason
abbrev pub reason_in : Field → Option NpReason
reason_in (Number number) = reason_of number
reason_in field = None

-- ---- the front of a line

abbrev pub with_rest : {A : Type 0} → Option A → List Field → Option (A × List Field)
with_rest None rest = None
with_rest (Some x) rest = Some (x, rest)

-- what the first field holds, and the fields after it
abbrev pub take : {A : Type 0} → (Field → Option A) → List Field → Option (A × List Field)
take holds [] = None
take holds (field ∷ rest) = with_rest (holds field) rest

-- no field is left
abbrev pub at_end : List Field → Option (Unit {0})
at_end [] = Some tt
at_end (field ∷ fields) = None

-- what each of the fields holds
abbrev pub all_of : {A : Type 0} → (Field → Option A) → List Field → Option (List A)
all_of holds [] = Some []
all_of holds (field ∷ fields) = holds field >>= (λ x. all_of holds fields >>= (λ others. Some (x ∷ others)))

-- the range that each two of the fields hold
abbrev pub all_ranges : List Field → Option (List Range)
all_ranges [] = Some []
all_ranges (offset ∷ []) = None
all_ranges (offset ∷ length ∷ fields) = do
  from ← integer_in offset
  count ← number_in length
  others ← all_ranges fields
  Some (record { offset = from; length = count } ∷ others)

-- ---- what a call gives that takes fields

-- the value was taken, and these fields are left; or there was none
abbrev pub Takes : {A : Type 0} → Option A → List Field → Option (A × List Field) → Type 0
Takes None left taken = taken ≡ None
Takes (Some x) left taken = taken ≡ Some (x, left)

-- what the call answers, unless memory ran out
abbrev pub Gives : {A : Type 0} → Result (Option A) NoMemory → Option A → Type 0
Gives (Ok x) given = given ≡ x
Gives (Err e) given = Unit {0}
