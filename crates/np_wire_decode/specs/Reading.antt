-- What the readers answer, and lists of items. (This project's own.)
use Rattle.std.specs.Prelude.{◌≡◌, ℕ, zero, suc, List, [], ◌∷◌, ◌++◌, Bool, true, false, not, ◌==◌, ◌&&◌, ◌||◌, take, drop, Option, Some, None, Result, Ok, Err}
use Rattle.std.specs.Int.{w16, from_be_bytes}
use Rattle.np_values.specs.declared.range.Range.{Range}
use Rattle.np_values.specs.declared.value.Value.{Value}
use Rattle.np_proxy_release.specs.declared.release.Release.{Release}
use Rattle.np_message.specs.declared.wire.WireKind.{WireKind}
use Rattle.np_message.specs.declared.wire.WireKind.TheVariants.{Item as ItemRule, Rest}
use Rattle.np_message.specs.declared.payload.Payload.{Payload}
use Rattle.np_message.specs.Message.{Message}
use Rattle.np_message.specs.Items.{Item, KindItem, DepthItem, CountItem, NumberItem, IntItem, ValueItem, Holds}
use Rattle.np_message.specs.Formats.{kind_format, some_format}
use Rattle.np_message.specs.Decoding.{◌>>=◌, Reading, read_item, read, read_release}
use Rattle.np_wire_decode.specs.declared.unread.Unread.{Unread}
use Rattle.np_wire_decode.specs.declared.unread.Unread.TheVariants.{Fault, NoMemory}
use Rattle.np_wire_decode.specs.declared.unread.Broken.{Broken}
use Rattle.np_wire_decode.specs.declared.unread.Broken.TheVariants as broken

-- ---- what a reader answers

-- an error is the definition's, or out of memory
abbrev pub Fails : {Y : Type 0} → Unread → Result Y ℕ → Type 0
Fails (Fault left) reading = reading ≡ Err left
Fails NoMemory reading = Unit {0}

-- what was read, seen by view, is what the definition reads
abbrev pub Gives : {X Y : Type 0} → (X → Y) → Result X Unread → Result Y ℕ → Type 0
Gives view (Ok x) reading = reading ≡ Ok (view x)
Gives view (Err e) reading = Fails e reading

-- a body: memory is wanted only where this holds
abbrev pub WantsOnly : {X : Type 0} → Type 0 → Result X Broken → Type 0
WantsOnly P (Ok x) = Unit {0}
WantsOnly P (Err (broken.Item left)) = Unit {0}
WantsOnly P (Err (broken.Rest left)) = Unit {0}
WantsOnly P (Err broken.NoMemory) = P

-- memory is wanted only where this holds
abbrev pub WantsMemoryOnly : {X : Type 0} → Type 0 → Result X Unread → Type 0
WantsMemoryOnly P (Ok x) = Unit {0}
WantsMemoryOnly P (Err (Fault left)) = Unit {0}
WantsMemoryOnly P (Err NoMemory) = P

-- bytes that pass the test are there, and others are none
abbrev pub MayBe : (List ℕ → Bool) → List ℕ → Option (List ℕ) → Type 0
MayBe test bytes (Some found) = (test bytes ≡ true) × (found ≡ bytes)
MayBe test bytes None = test bytes ≡ false

-- a list has these items
abbrev pub Copies : {X : Type 0} → Result (List X) Unread → List X → Type 0
Copies (Ok copy) items = copy ≡ items
Copies (Err (Fault left)) items = ⊥
Copies (Err NoMemory) items = Unit {0}

-- the bytes begin with two of length, and after them that many that pass the test
abbrev pub BeginsCounted : (List ℕ → Bool) → List ℕ → Type 0
BeginsCounted test bytes = test (take (from_be_bytes w16 (take 2 bytes)) (drop 2 bytes)) ≡ true

-- ---- lists

-- this many items, one after another
abbrev pub read_many : (item : Item) → ℕ → List ℕ → Reading (List (Holds item))
read_many item zero bytes = Ok ([], bytes)
read_many item (suc n) bytes = do
  x ← read_item item bytes
  xs ← read_many item n x.1
  Ok (x.0 ∷ xs.0, xs.1)

-- an offset and a length
abbrev pub read_range : List ℕ → Reading Range
read_range bytes = do
  offset ← read_item IntItem bytes
  size ← read_item (NumberItem 0) offset.1
  Ok (record { offset = offset.0; length = size.0 }, size.1)

abbrev pub read_ranges : ℕ → List ℕ → Reading (List Range)
read_ranges zero bytes = Ok ([], bytes)
read_ranges (suc n) bytes = do
  range ← read_range bytes
  ranges ← read_ranges n range.1
  Ok (range.0 ∷ ranges.0, ranges.1)

-- one value alone
abbrev pub read_one_value : List ℕ → Reading (List Value)
read_one_value bytes = read_item ValueItem bytes >>= (λ value. Ok (value.0 ∷ [], value.1))

-- each release after the one before
abbrev pub read_releases : Option Release → ℕ → List ℕ → Reading (List Release)
read_releases before zero bytes = Ok ([], bytes)
read_releases before (suc n) bytes = do
  r ← read_release before bytes
  releases ← read_releases (Some r.0) n r.1
  Ok (r.0 ∷ releases.0, releases.1)

-- these stand before what is read
abbrev pub with_front : {A : Type 0} → List A → Reading (List A) → Reading (List A)
with_front front (Ok read) = Ok (front ++ read.0, read.1)
with_front front (Err left) = Err left

-- ---- bodies

-- the items of the kind with this number; a number that is no kind's has none
abbrev pub read_kind : ℕ → List ℕ → Reading Payload
read_kind kind bytes = read (some_format (kind_format kind)) bytes

-- a body item by item
unfoldable pub read_body : List ℕ → Reading Message
read_body bytes = do
  kind ← read_item KindItem bytes
  depth ← read_item DepthItem kind.1
  count ← read_item (CountItem 1024) depth.1
  releases ← read_releases None count.0 count.1
  body ← read_kind kind.0 releases.1
  Ok (record { depth = depth.0; releases = releases.0; body = body.0 }, body.1)

-- what items that weren't read make of a body
abbrev pub broken_by : Unread → Broken
broken_by (Fault left) = broken.Item left
broken_by NoMemory = broken.NoMemory

-- a body is refused by the rule that it breaks, and how many bytes are left from there
abbrev pub BreaksAs : Broken → Result Message (WireKind × ℕ) → Type 0
BreaksAs (broken.Item left) reading = reading ≡ Err (ItemRule, left)
BreaksAs (broken.Rest left) reading = reading ≡ Err (Rest, left)
BreaksAs broken.NoMemory reading = Unit {0}

-- the message of a body
abbrev pub GivesBody : Result Message Broken → Result Message (WireKind × ℕ) → Type 0
GivesBody (Ok m) reading = reading ≡ Ok m
GivesBody (Err e) reading = BreaksAs e reading

-- ---- memory

-- the kinds without texts, bytes, values and lists
abbrev pub is_plain_kind : ℕ → Bool
is_plain_kind k =
    k == 1 || (k == 3 || (k == 4 || (k == 5 || (k == 7 || (k == 10 || (k == 12 || (k == 32 || (k == 35 || (k == 66 || (k == 69 || (k == 70 || k == 71)))))))))))

-- the body gives something back, or is of a kind with texts, bytes, values or lists
abbrev pub needs_memory : List ℕ → Bool
needs_memory (kind ∷ depth ∷ high ∷ low ∷ items) = not (is_plain_kind kind && (high == 0 && low == 0))
needs_memory bytes = false
