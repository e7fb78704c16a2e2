-- What holds of the bytes of all messages. (This project's own.)
use Rattle.std.specs.Prelude.{◌≡◌, ◌≢◌, ℕ, ◌+◌, ◌<◌, ◌≤◌, ◌↔◌, ◌⊎◌, List, [], ◌++◌, length, take, Ok}
use Rattle.std.specs.Int.{w32, from_be_bytes}
use Rattle.std.specs.List.{All}
use Rattle.np_message.specs.declared.wire.WireKind.TheVariants.{Length}
use Rattle.np_message.specs.declared.wire.WireError.{WireError}
use Rattle.np_message.specs.Message.{Message}
use Rattle.np_message.specs.Encoding.{body_of, encoding}
use Rattle.np_message.specs.Rules.{KeepsFormat, IsTyped}
use Rattle.np_message.specs.Items.{Item, Holds, IsOf, spelled}
use Rattle.np_message.specs.Formats.{message_format}
use Rattle.np_message.specs.Decoding.{read_item, read, Whole, Partial, Bad, front}
use Rattle.np_message.specs.Faults.{Encodes, IsFirstFault}

-- ---- what is read

-- The bytes of an item are read as that item, whatever follows.
abbrev pub ItemsAreReadAgain : Type 0
ItemsAreReadAgain = (item : Item) (x : Holds item) (rest : List ℕ) → IsOf item x → read_item item (spelled item x ++ rest) ≡ Ok (x, rest)

-- What is encoded is read again, whatever follows.
abbrev pub EncodedIsReadAgain : Type 0
EncodedIsReadAgain = (at : ℕ) (m : Message) (rest : List ℕ) → KeepsFormat m → IsTyped m → front at (encoding m ++ rest) ≡ Whole m rest

-- What is read from bytes was encoded: a message has no other bytes, and is one of the format.
abbrev pub ReadIsEncoded : Type 0
ReadIsEncoded = (at : ℕ) (bytes rest : List ℕ) (m : Message) → All (λ b. b < 256) bytes → front at bytes ≡ Whole m rest → (bytes ≡ encoding m ++ rest) × KeepsFormat m × IsTyped m

-- What the format reads of bytes is a message of the format.
abbrev pub ReadBodiesAreMessages : Type 0
ReadBodiesAreMessages = (bytes rest : List ℕ) (m : Message) → All (λ b. b < 256) bytes → read message_format bytes ≡ Ok (m, rest) → KeepsFormat m × IsTyped m

-- No encoding is the beginning of another one, so bytes are taken apart in one way only.
abbrev pub NoEncodingBeginsAnother : Type 0
NoEncodingBeginsAnother = (m n : Message) (x y : List ℕ) → KeepsFormat m → IsTyped m → KeepsFormat n → IsTyped n → encoding m ++ x ≡ encoding n ++ y → (m ≡ n) × (x ≡ y)

-- A body has 4 to 25,894 bytes, at most those of a call with 1,024 releases, an identifier of 256 bytes and eight texts of 2,048.
abbrev pub MessagesFit : Type 0
MessagesFit = (m : Message) → KeepsFormat m → IsTyped m → (4 ≤ length (body_of m)) × (length (body_of m) ≤ 25894)

-- ---- what is awaited

-- the first four bytes as a number
abbrev pub length_of : List ℕ → ℕ
length_of bytes = from_be_bytes w32 (take 4 bytes)

-- fewer than four bytes are there, or a length of the format and fewer bytes after it
abbrev pub IsCutShort : List ℕ → Type 0
IsCutShort bytes = (length bytes < 4) ⊎ ((4 ≤ length_of bytes) × (length_of bytes ≤ 32768) × (length bytes < 4 + length_of bytes))

-- Bytes that are cut short are awaited, and no others.
abbrev pub WaitsExactly : Type 0
WaitsExactly = (at : ℕ) (bytes : List ℕ) → (front at bytes ≡ Partial) ↔ IsCutShort bytes

-- What begins the encoding of a message, and isn't all of it, is awaited.
abbrev pub BeginningsAreAwaited : Type 0
BeginningsAreAwaited = (at : ℕ) (m : Message) (bytes more : List ℕ) → KeepsFormat m → IsTyped m → bytes ++ more ≡ encoding m → more ≢ [] → front at bytes ≡ Partial

-- ---- which lengths are refused

-- four bytes are there, and their number is no length of the format
abbrev pub HasBadLength : List ℕ → Type 0
HasBadLength bytes = (4 ≤ length bytes) × ((length_of bytes < 4) ⊎ (32768 < length_of bytes))

-- the bytes are refused for their length
abbrev pub IsLengthRefused : ℕ → List ℕ → Type 0
IsLengthRefused at bytes = (e : WireError) × (front at bytes ≡ Bad e) × (e.kind ≡ Length)

-- the refusal: where the message begins, its length, and the greatest one
abbrev pub length_error : ℕ → List ℕ → WireError
length_error at bytes = record { at = at; kind = Length; first = length_of bytes; second = 32768 }

-- A bad length is refused, and no other one.
abbrev pub RefusesLengthExactly : Type 0
RefusesLengthExactly = (at : ℕ) (bytes : List ℕ) → IsLengthRefused at bytes ↔ HasBadLength bytes

-- A bad length is refused with these numbers, as soon as it is there.
abbrev pub LengthIsTold : Type 0
LengthIsTold = (at : ℕ) (bytes : List ℕ) → HasBadLength bytes → front at bytes ≡ Bad (length_error at bytes)

-- ---- faults

-- What bytes are refused for is their first fault.
abbrev pub RefusesOnlyFaults : Type 0
RefusesOnlyFaults = (at : ℕ) (bytes : List ℕ) (e : WireError) → All (λ b. b < 256) bytes → front at bytes ≡ Bad e → IsFirstFault at bytes e

-- Bytes with a fault are refused for it.
abbrev pub RefusesEachFault : Type 0
RefusesEachFault = (at : ℕ) (bytes : List ℕ) (e : WireError) → All (λ b. b < 256) bytes → IsFirstFault at bytes e → front at bytes ≡ Bad e

-- Bytes have one first fault.
abbrev pub HasOneFirstFault : Type 0
HasOneFirstFault = (at : ℕ) (bytes : List ℕ) (d e : WireError) → IsFirstFault at bytes d → IsFirstFault at bytes e → d ≡ e

-- Bytes that begin with a message have none.
abbrev pub EncodingsHaveNoFault : Type 0
EncodingsHaveNoFault = (at : ℕ) (m : Message) (rest : List ℕ) (e : WireError) → KeepsFormat m → IsTyped m → ¬ IsFirstFault at (encoding m ++ rest) e

-- ---- what the format encodes

-- The body of a message has the items of the format, which say that message.
abbrev pub BodiesAreEncodings : Type 0
BodiesAreEncodings = (m : Message) → KeepsFormat m → IsTyped m → Encodes message_format m (body_of m)

-- The format encodes messages alone, and each by its body.
abbrev pub EncodingsAreBodies : Type 0
EncodingsAreBodies = (m : Message) (bytes : List ℕ) → Encodes message_format m bytes → (bytes ≡ body_of m) × KeepsFormat m × IsTyped m
