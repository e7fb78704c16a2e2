-- The forms of items: what an item of each form holds, its bytes, and which items there are. (This project's own.)
use Rattle.std.specs.Prelude.{◌≡◌, ℕ, ℤ, ◌<◌, ◌≤◌, List, [], ◌∷◌, length, Bool, true, nat_le, ◌&&◌, ◌||◌, Option, FitsSigned}
use Rattle.std.specs.Int.{w16, w32, to_be_bytes}
use Rattle.np_values.specs.declared.error.NpError.{NpError}
use Rattle.np_values.specs.declared.reason.NpReason.{NpReason}
use Rattle.np_values.specs.declared.value.Value.{Value}
use Rattle.np_values.specs.NpError.{code_of}
use Rattle.np_values.specs.NpReason.{reason_code}
use Rattle.np_idents.specs.declared.key.IdKey.{IdKey}
use Rattle.np_proxy_release.specs.declared.release.Release.{Release}
use Rattle.np_proxy_release.specs.Release.{IsRelease, IsTypedRelease, is_behind}
use Rattle.np_message.specs.declared.depth.Depth.{Depth}
use Rattle.np_message.specs.Encoding.{number_item, int_item, counted_item, ident_item, value_item, release_item, depth_byte}
use Rattle.np_message.specs.Rules.{Each, IsByte, IsNumber, IsText, IsTypedKey, KeepsValue, IsTypedValue}

pub data Item : Type 0 where
  KindItem : Item  -- the number of a kind
  DepthItem : Item
  ByteItem : ℕ → ℕ → Item  -- a byte within these bounds
  CountItem : ℕ → Item  -- two bytes, at most this
  NumberItem : ℕ → Item  -- four bytes, at least this
  IntItem : Item
  TextItem : Item
  BytesItem : Item  -- what NPP_Write hands over, with its length
  IdentItem : Item
  ValueItem : Item
  CodeItem : Item  -- the number of an error
  ReasonItem : Item
  ReleaseItem : Option Release → Item  -- a release behind this one

-- what an item of the form holds
abbrev pub Holds : Item → Type 0
Holds KindItem = ℕ
Holds DepthItem = Depth
Holds (ByteItem low high) = ℕ
Holds (CountItem most) = ℕ
Holds (NumberItem least) = ℕ
Holds IntItem = ℤ
Holds TextItem = List ℕ
Holds BytesItem = List ℕ
Holds IdentItem = IdKey
Holds ValueItem = Value
Holds CodeItem = NpError
Holds ReasonItem = NpReason
Holds (ReleaseItem before) = Release

-- its bytes
abbrev pub spelled : (item : Item) → Holds item → List ℕ
spelled KindItem kind = kind ∷ []
spelled DepthItem depth = depth_byte depth ∷ []
spelled (ByteItem low high) b = b ∷ []
spelled (CountItem most) n = to_be_bytes w16 n
spelled (NumberItem least) n = number_item n
spelled IntItem n = int_item n
spelled TextItem text = counted_item text
spelled BytesItem bytes = counted_item bytes
spelled IdentItem key = ident_item key
spelled ValueItem value = value_item value
spelled CodeItem error = code_of error ∷ []
spelled ReasonItem reason = reason_code reason ∷ []
spelled (ReleaseItem before) r = release_item r

-- a byte within these bounds
abbrev pub is_within : ℕ → ℕ → ℕ → Bool
is_within low high b = nat_le low b && nat_le b high

-- the numbers of the kinds: calls of the page, calls of the plug-in, and what both send
abbrev pub is_kind : ℕ → Bool
is_kind k = is_within 1 12 k || (is_within 32 35 k || is_within 64 71 k)

-- which items of the form there are
abbrev pub IsOf : (item : Item) → Holds item → Type 0
IsOf KindItem kind = is_kind kind ≡ true
IsOf DepthItem depth = (0 < depth.level) × (depth.level < 65)
IsOf (ByteItem low high) b = is_within low high b ≡ true
IsOf (CountItem most) n = (n ≤ most) × (n < 65536)
IsOf (NumberItem least) n = (least ≤ n) × IsNumber n
IsOf IntItem n = FitsSigned w32 n
IsOf TextItem text = IsText text
IsOf BytesItem bytes = (0 < length bytes) × (length bytes ≤ 8192) × Each IsByte bytes
IsOf IdentItem key = IsTypedKey key
IsOf ValueItem value = KeepsValue value × IsTypedValue value
IsOf CodeItem error = Unit {0}
IsOf ReasonItem reason = Unit {0}
IsOf (ReleaseItem before) r = IsRelease r × IsTypedRelease r × (is_behind before r ≡ true)
