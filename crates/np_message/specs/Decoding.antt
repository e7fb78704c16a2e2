-- How bytes are read: items from the left, by the format, up to the first that isn't of its form. (This project's own.)
use Rattle.std.specs.Prelude.{ℕ, ℤ, ◌+◌, ◌-◌, List, [], ◌∷◌, length, Bool, true, false, if◌then◌else◌, nat_lt, ◌==◌, ◌||◌, take, drop, Option, Some, None, Result, Ok, Err}
use Rattle.std.specs.Int.{w16, w32, from_be_bytes, cast_signed}
use Rattle.np_values.specs.NpError.{error_of}
use Rattle.np_values.specs.NpReason.{reason_of}
use Rattle.np_values.specs.Text.{is_text}
use Rattle.np_values.specs.declared.name.Name.{Name}
use Rattle.np_values.specs.declared.name.Side.TheVariants.{Page, Plug}
use Rattle.np_values.specs.declared.value.Value.{Value}
use Rattle.np_values.specs.declared.value.Value.TheVariants as values
use Rattle.np_idents.specs.IdText.{is_id_text}
use Rattle.np_idents.specs.declared.key.IdKey.{IdKey}
use Rattle.np_idents.specs.declared.key.IdKey.TheVariants.{Str, Int}
use Rattle.np_proxy_release.specs.declared.release.Release.{Release}
use Rattle.np_proxy_release.specs.Release.{is_behind}
use Rattle.np_message.specs.declared.depth.Depth.{Depth}
use Rattle.np_message.specs.declared.wire.WireKind.{WireKind}
use Rattle.np_message.specs.declared.wire.WireKind.TheVariants.{Length, Item as ItemRule, Rest}
use Rattle.np_message.specs.declared.wire.WireError.{WireError}
use Rattle.np_message.specs.Message.{Message}
use Rattle.np_message.specs.Items.{Item, KindItem, DepthItem, ByteItem, CountItem, NumberItem, IntItem, TextItem, BytesItem, IdentItem, ValueItem, CodeItem, ReasonItem, ReleaseItem, Holds, is_within, is_kind}
use Rattle.np_message.specs.Formats.{Format, Says, Then, message_format}

-- a reading continues with what was read, and stops at the first fault
infixl 10 ◌>>=◌
abbrev pub ◌>>=◌ : {A B E : Type 0} → Result A E → (A → Result B E) → Result B E
(Ok x) >>= f = f x
(Err e) >>= f = Err e

-- what was read and the bytes after it; or how many bytes are left from the first byte of the item that isn't of its form
abbrev pub Reading : Type 0 → Type 0
Reading A = Result (A × List ℕ) ℕ

-- no item of the form begins these bytes
abbrev pub no_item : {A : Type 0} → List ℕ → Reading A
no_item bytes = Err (length bytes)

-- an item that holds others begins where it begins
abbrev pub at_start : {A : Type 0} → List ℕ → Reading A → Reading A
at_start bytes (Ok x) = Ok x
at_start bytes (Err left) = no_item bytes

-- ---- plain items

-- a byte that passes the test
abbrev pub read_tested : (ℕ → Bool) → List ℕ → Reading ℕ
read_tested test [] = no_item []
read_tested test (b ∷ bs) = if test b then Ok (b, bs) else no_item (b ∷ bs)

-- a byte that stands for something
abbrev pub read_meant : {A : Type 0} → (ℕ → Option A) → List ℕ → Reading A
read_meant meaning [] = no_item []
read_meant meaning (b ∷ bs) = elim (meaning b) [ Some x ↦ Ok (x, bs) | None ↦ no_item (b ∷ bs) ]

-- two bytes, high byte first, at most this
unfoldable pub read_count : ℕ → List ℕ → Reading ℕ
read_count most bytes =
    if nat_lt (length bytes) 2 then no_item bytes
    else (let n = from_be_bytes w16 (take 2 bytes) in if nat_lt most n then no_item bytes else Ok (n, drop 2 bytes))

-- four bytes, high byte first, at least this
unfoldable pub read_number : ℕ → List ℕ → Reading ℕ
read_number least bytes =
    if nat_lt (length bytes) 4 then no_item bytes
    else (let n = from_be_bytes w32 (take 4 bytes) in if nat_lt n least then no_item bytes else Ok (n, drop 4 bytes))

-- four bytes of two's complement
unfoldable pub read_int : List ℕ → Reading ℤ
read_int bytes = if nat_lt (length bytes) 4 then no_item bytes else Ok (cast_signed w32 (from_be_bytes w32 (take 4 bytes)), drop 4 bytes)

-- two bytes of length, and that many bytes, which pass the test
unfoldable pub read_counted : (List ℕ → Bool) → List ℕ → Reading (List ℕ)
read_counted test bytes =
    if nat_lt (length bytes) 2 then no_item bytes
    else (let n = from_be_bytes w16 (take 2 bytes) in
    if nat_lt (length bytes) (2 + n) then no_item bytes
    else if test (take n (drop 2 bytes)) then Ok (take n (drop 2 bytes), drop n (drop 2 bytes)) else no_item bytes)

-- the depth of a byte: 1 to 64 is a level, 129 to 192 a level with a task's mark
abbrev pub depth_of : ℕ → Option Depth
depth_of b =
    if is_within 1 64 b then Some (record { level = b; task = false })
    else if is_within 129 192 b then Some (record { level = b - 128; task = true })
    else None

-- how many bytes a Write may have
abbrev pub is_chunk : List ℕ → Bool
is_chunk bytes = is_within 1 8192 (length bytes)

-- ---- items that hold others

-- an identifier by the byte before it
unfoldable pub read_key : ℕ → List ℕ → Reading IdKey
read_key tag bytes =
    if tag == 0 then (read_counted is_id_text bytes >>= (λ text. Ok (Str text.0, text.1)))
    else if tag == 1 then (read_int bytes >>= (λ n. Ok (Int n.0, n.1)))
    else no_item bytes

abbrev pub read_ident : List ℕ → Reading IdKey
read_ident [] = no_item []
read_ident (tag ∷ bs) = at_start (tag ∷ bs) (read_key tag bs)

-- side, instance and serial
unfoldable pub read_name : List ℕ → Reading Name
read_name bytes = do
  side ← read_tested (is_within 0 1) bytes
  instance ← read_tested (is_within 1 255) side.1
  serial ← read_number 1 instance.1
  Ok (record { side = if side.0 == 0 then Page else Plug; instance = instance.0; serial = serial.0 }, serial.1)

-- eight bytes
unfoldable pub read_double : List ℕ → Reading (List ℕ)
read_double bytes = if nat_lt (length bytes) 8 then no_item bytes else Ok (take 8 bytes, drop 8 bytes)

-- what a value holds, by the byte of its type
unfoldable pub read_typed : ℕ → List ℕ → Reading Value
read_typed tag bytes =
    if tag == 0 then Ok (values.Void, bytes)
    else if tag == 1 then Ok (values.Null, bytes)
    else if tag == 2 then (read_tested (is_within 0 1) bytes >>= (λ b. Ok (values.Bool (b.0 == 1), b.1)))
    else if tag == 3 then (read_int bytes >>= (λ n. Ok (values.Int n.0, n.1)))
    else if tag == 4 then (read_double bytes >>= (λ double. Ok (values.Double double.0, double.1)))
    else if tag == 5 then (read_counted is_text bytes >>= (λ text. Ok (values.Text text.0, text.1)))
    else if tag == 6 then (read_name bytes >>= (λ name. Ok (values.Object name.0, name.1)))
    else no_item bytes

abbrev pub read_value : List ℕ → Reading Value
read_value [] = no_item []
read_value (tag ∷ bs) = at_start (tag ∷ bs) (read_typed tag bs)

-- instance, serial and times, after the release before
unfoldable pub read_entry : Option Release → List ℕ → Reading Release
read_entry before bytes = do
  instance ← read_tested (is_within 1 255) bytes
  serial ← read_number 1 instance.1
  times ← read_number 1 serial.1
  if is_behind before (record { instance = instance.0; serial = serial.0; times = times.0 }) then Ok (record { instance = instance.0; serial = serial.0; times = times.0 }, times.1) else no_item bytes

abbrev pub read_release : Option Release → List ℕ → Reading Release
read_release before bytes = at_start bytes (read_entry before bytes)

-- ---- by the format

-- an item of the form
abbrev pub read_item : (item : Item) → List ℕ → Reading (Holds item)
read_item KindItem = read_tested is_kind
read_item DepthItem = read_meant depth_of
read_item (ByteItem low high) = read_tested (is_within low high)
read_item (CountItem most) = read_count most
read_item (NumberItem least) = read_number least
read_item IntItem = read_int
read_item TextItem = read_counted is_text
read_item BytesItem = read_counted is_chunk
read_item IdentItem = read_ident
read_item ValueItem = read_value
read_item CodeItem = read_meant error_of
read_item ReasonItem = read_meant reason_of
read_item (ReleaseItem before) = read_release before

-- one item after another
abbrev pub read : {A : Type 0} → Format A → List ℕ → Reading A
read (Says x) bytes = Ok (x, bytes)
read (Then item next) bytes = read_item item bytes >>= (λ x. read (next x.0) x.1)

-- a body, after which nothing may follow; or the rule that it breaks, and how many bytes are left from there
abbrev pub whole : Reading Message → Result Message (WireKind × ℕ)
whole (Ok m) = if nat_lt 0 (length m.1) then Err (Rest, length m.1) else Ok m.0
whole (Err left) = Err (ItemRule, left)

-- what stands at the front of bytes
pub data Front : Type 0 where
  Partial : Front  -- a message that is cut short
  Whole : Message → List ℕ → Front  -- a message, and the bytes behind it
  Bad : WireError → Front

-- what a body that was read, or the rule that it breaks, makes of the front; the message begins at this place and has this length
abbrev pub front_body : ℕ → ℕ → Result Message (WireKind × ℕ) → List ℕ → Front
front_body at n (Ok m) rest = Whole m rest
front_body at n (Err broken) rest = Bad (record { at = at + 4 + n - broken.1; kind = broken.0; first = at; second = n })

-- the length of a body is 4 to 32,768
abbrev pub front_sized : ℕ → ℕ → List ℕ → Front
front_sized at n rest =
    if nat_lt n 4 || nat_lt 32768 n then Bad (record { at = at; kind = Length; first = n; second = 32768 })
    else if nat_lt (length rest) n then Partial
    else front_body at n (whole (read message_format (take n rest))) (drop n rest)

-- the first byte is the one at this place of the stream
unfoldable pub front : ℕ → List ℕ → Front
front at bytes = if nat_lt (length bytes) 4 then Partial else front_sized at (from_be_bytes w32 (take 4 bytes)) (drop 4 bytes)
