-- What a feed has, and what it answers. (This project's own.)
use Rattle.std.specs.Prelude.{◌≡◌, ℕ, ◌+◌, ◌-◌, ◌≤◌, List, ◌++◌, length, drop, Option, Some, None, Result, Ok, Err}
use Rattle.np_message.specs.declared.wire.WireKind.TheVariants.{Item as ItemRule, Rest}
use Rattle.np_message.specs.Message.{Message}
use Rattle.np_message.specs.Encoding.{encoding}
use Rattle.np_message.specs.Rules.{KeepsFormat, IsTyped}
use Rattle.np_message.specs.Decoding.{Front, Partial, Whole, Bad, front, front_sized}
use Rattle.np_message.specs.Faults.{IsFirstFault}
use Rattle.np_wire_laws.specs.Laws.{length_of}
use Rattle.np_wire_decode.specs.declared.unread.Broken.{Broken}
use Rattle.np_wire_decode.specs.declared.unread.Broken.TheVariants as broken
use Rattle.np_wire.specs.declared.error.FeedError.{FeedError}
use Rattle.np_wire.specs.declared.error.FeedError.TheVariants.{Wire, NoMemory}

-- how many bytes the messages given so far have, and the bytes that are left
pub record Fed : Type 0 where
  pub consumed : ℕ
  pub left : List ℕ

-- what next answers is what stands at the front, and only a message is taken off
abbrev pub NextGives : Fed → Fed → Result (Option Message) FeedError → Type 0
NextGives old new (Ok None) = (front old.consumed old.left ≡ Partial) × (new ≡ old)
NextGives old new (Ok (Some m)) = (front old.consumed old.left ≡ Whole m new.left) × (new.consumed + length new.left ≡ old.consumed + length old.left)
NextGives old new (Err (Wire e)) = (front old.consumed old.left ≡ Bad e) × (new ≡ old)
NextGives old new (Err NoMemory) = new ≡ old

-- a refusal is for the first fault of these bytes
abbrev pub RefusesFirstFault : {X : Type 0} → ℕ → List ℕ → Result X FeedError → Type 0
RefusesFirstFault at bytes (Ok x) = Unit {0}
RefusesFirstFault at bytes (Err (Wire e)) = IsFirstFault at bytes e
RefusesFirstFault at bytes (Err NoMemory) = Unit {0}

-- memory is wanted only where this holds
abbrev pub WantsMemoryOnly : {X : Type 0} → Type 0 → Result X FeedError → Type 0
WantsMemoryOnly P (Ok x) = Unit {0}
WantsMemoryOnly P (Err (Wire e)) = Unit {0}
WantsMemoryOnly P (Err NoMemory) = P

-- a body of this length is there as a whole, and the length is one of the format
abbrev pub IsWholeBody : ℕ → List ℕ → Type 0
IsWholeBody n rest = (4 ≤ n) × (n ≤ 32768) × (n ≤ length rest)

-- the bytes begin with a length of the format and a whole body
abbrev pub HasWholeBody : List ℕ → Type 0
HasWholeBody bytes = (4 ≤ length bytes) × IsWholeBody (length_of bytes) (drop 4 bytes)

-- a message with its number of bytes is what stands at the front
abbrev pub FrontIs : Front → List ℕ → Result (Option (Message × ℕ)) FeedError → Type 0
FrontIs seen bytes (Ok None) = seen ≡ Partial
FrontIs seen bytes (Ok (Some m)) = seen ≡ Whole m.0 (drop m.1 bytes)
FrontIs seen bytes (Err (Wire e)) = seen ≡ Bad e
FrontIs seen bytes (Err NoMemory) = Unit {0}

-- the answer for bytes of which the first is at this place of the stream
abbrev pub FrontGives : ℕ → List ℕ → Result (Option (Message × ℕ)) FeedError → Type 0
FrontGives at bytes r = FrontIs (front at bytes) bytes r

-- as FrontIs, of the bytes after the four of the length
abbrev pub SizedIs : Front → List ℕ → Result (Option (Message × ℕ)) FeedError → Type 0
SizedIs seen rest (Ok None) = seen ≡ Partial
SizedIs seen rest (Ok (Some m)) = (4 ≤ m.1) × (seen ≡ Whole m.0 (drop (m.1 - 4) rest))
SizedIs seen rest (Err (Wire e)) = seen ≡ Bad e
SizedIs seen rest (Err NoMemory) = Unit {0}

-- the same for the bytes after a length
abbrev pub SizedGives : ℕ → ℕ → List ℕ → Result (Option (Message × ℕ)) FeedError → Type 0
SizedGives at n rest r = SizedIs (front_sized at n rest) rest r

-- the old bytes are those of the message, which is of the format, and then the new ones
pub record IsEncoded (m : Message) (old new : List ℕ) : Type 0 where
  pub parts : old ≡ encoding m ++ new
  pub format : KeepsFormat m
  pub typed : IsTyped m

-- how a body is refused that breaks a rule, of a message that begins at this place and has this length
abbrev pub RefusedAs : ℕ → ℕ → Broken → FeedError → Type 0
RefusedAs at n (broken.Item left) e = e ≡ Wire (record { at = at + 4 + n - left; kind = ItemRule; first = at; second = n })
RefusedAs at n (broken.Rest left) e = e ≡ Wire (record { at = at + 4 + n - left; kind = Rest; first = at; second = n })
RefusedAs at n broken.NoMemory e = e ≡ NoMemory
