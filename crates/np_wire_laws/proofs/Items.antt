-- Each item is read as it is spelled, whatever follows; what is read was so spelled; and where an item isn't there, no byte was taken.
use Rattle.std.proofs.Common.{◌≡◌, ℕ, ◌<◌, List, ◌++◌, length, Ok, Err, arith}
use Rattle.np_values.specs.NpError.{code_of, error_of}
use Rattle.np_values.specs.NpReason.{reason_code, reason_of}
use Rattle.np_values.specs.Text.{is_text}
use Rattle.np_values.specs.declared.value.Value.TheVariants as values
use Rattle.np_idents.specs.declared.key.IdKey.TheVariants.{Str, Int}
use Rattle.np_message.specs.Encoding.{depth_byte}
use Rattle.np_message.specs.Items.{Item, KindItem, DepthItem, ByteItem, CountItem, NumberItem, IntItem, TextItem, BytesItem, IdentItem, ValueItem, CodeItem, ReasonItem, ReleaseItem, Holds, spelled, is_within, is_kind, IsOf}
use Rattle.np_message.specs.Decoding.{depth_of, is_chunk, read_item}
use Rattle.np_message.specs.Faults.{Begins}
pub use Rattle.np_wire_laws.proofs.Readings.{AreBytes, bytes_of_all, bytes-drop, bytes-take, bytes-first, bytes-rest, bytes-behind, each_byte}
use Rattle.np_wire_laws.proofs.Readings.{HasRead, tested_again, tested_read, tested_left, within_again, within_is, meant_again, meant_read, meant_left}
use Rattle.np_wire_laws.proofs.Numbers.{count_again, count_read, count_left, number_again, number_read, number_left, int_again, int_read, int_left}
use Rattle.np_wire_laws.proofs.CountedBytes.{is_short, counted_again, counted_read, counted_left}
use Rattle.np_wire_laws.proofs.Keys.{ident_again, ident_read, ident_left}
use Rattle.np_wire_laws.proofs.ValueItems.{value_again, value_read, value_left}
use Rattle.np_wire_laws.proofs.ReleaseItems.{release_again, release_read, release_left}
use Rattle.np_wire_laws.proofs.SmallItems.{depth_again, depth_means, error_again, error_means, reason_again, reason_means}

pub item_again : (item : Item) (x : Holds item) (rest : List ℕ) → IsOf item x → read_item item (spelled item x ++ rest) ≡ Ok (x, rest)
item_again KindItem kind rest is = tested_again is_kind kind rest is
item_again DepthItem depth rest is = meant_again depth_of (depth_byte depth) depth rest (depth_again depth is.0 is.1)
item_again (ByteItem low high) b rest is = tested_again (is_within low high) b rest is
item_again (CountItem most) n rest is = count_again most n rest is.0 is.1
item_again (NumberItem least) n rest is = number_again least n rest is.0 is.1
item_again IntItem n rest is = int_again n rest is
item_again TextItem text rest is = counted_again is_text text rest (omega (arith, is_short text is)) is
item_again BytesItem bytes rest is = counted_again is_chunk bytes rest (omega (arith, is.1)) (within_again 1 8192 (length bytes) (omega (arith, is.0)) is.1)
item_again IdentItem key rest is = ident_again key rest is
item_again ValueItem value rest is = value_again value rest is
item_again CodeItem error rest is = meant_again error_of (code_of error) error rest (error_again error)
item_again ReasonItem reason rest is = meant_again reason_of (reason_code reason) reason rest (reason_again reason)
item_again (ReleaseItem before) r rest is = release_again before r rest is

begins : (item : Item) (bytes : List ℕ) (x : Holds item) (rest : List ℕ) (Keeps : Holds item → Type 0) → (Keeps x → IsOf item x) → HasRead (spelled item) Keeps bytes x rest → Begins item bytes x rest × AreBytes rest
begins item bytes x rest Keeps is h = (record { parts = h.parts; is_of = is h.keeps }, h.behind)

pub item_read : (item : Item) (bytes : List ℕ) (x : Holds item × List ℕ) → AreBytes bytes → read_item item bytes ≡ Ok x → Begins item bytes x.0 x.1 × AreBytes x.1
item_read KindItem bytes x fit e = begins KindItem bytes x.0 x.1 _ (λ k. k.0) (tested_read is_kind bytes x fit e)
item_read DepthItem bytes x fit e = begins DepthItem bytes x.0 x.1 _ (λ k. k) (meant_read depth_of (spelled DepthItem) (IsOf DepthItem) depth_means bytes x fit e)
item_read (ByteItem low high) bytes x fit e = begins (ByteItem low high) bytes x.0 x.1 _ (λ k. k.0) (tested_read (is_within low high) bytes x fit e)
item_read (CountItem most) bytes x fit e = begins (CountItem most) bytes x.0 x.1 _ (λ k. k) (count_read most bytes x fit e)
item_read (NumberItem least) bytes x fit e = begins (NumberItem least) bytes x.0 x.1 _ (λ k. k) (number_read least bytes x fit e)
item_read IntItem bytes x fit e = begins IntItem bytes x.0 x.1 _ (λ k. k) (int_read bytes x fit e)
item_read TextItem bytes x fit e = begins TextItem bytes x.0 x.1 _ (λ k. k.0) (counted_read is_text bytes x fit e)
item_read BytesItem bytes x fit e = begins BytesItem bytes x.0 x.1 _ (λ k. (let t = within_is 1 8192 (length x.0) k.0 in (omega (arith, t.0), t.1, each_byte x.0 k.1))) (counted_read is_chunk bytes x fit e)
item_read IdentItem bytes x fit e = begins IdentItem bytes x.0 x.1 _ (λ k. k) (ident_read bytes x fit e)
item_read ValueItem bytes x fit e = begins ValueItem bytes x.0 x.1 _ (λ k. k) (value_read bytes x fit e)
item_read CodeItem bytes x fit e = begins CodeItem bytes x.0 x.1 _ (λ k. k) (meant_read error_of (spelled CodeItem) (IsOf CodeItem) error_means bytes x fit e)
item_read ReasonItem bytes x fit e = begins ReasonItem bytes x.0 x.1 _ (λ k. k) (meant_read reason_of (spelled ReasonItem) (IsOf ReasonItem) reason_means bytes x fit e)
item_read (ReleaseItem before) bytes x fit e = begins (ReleaseItem before) bytes x.0 x.1 _ (λ k. k) (release_read before bytes x fit e)

pub item_left : (item : Item) (bytes : List ℕ) (left : ℕ) → read_item item bytes ≡ Err left → left ≡ length bytes
item_left KindItem bytes left e = tested_left is_kind bytes left e
item_left DepthItem bytes left e = meant_left depth_of bytes left e
item_left (ByteItem low high) bytes left e = tested_left (is_within low high) bytes left e
item_left (CountItem most) bytes left e = count_left most bytes left e
item_left (NumberItem least) bytes left e = number_left least bytes left e
item_left IntItem bytes left e = int_left bytes left e
item_left TextItem bytes left e = counted_left is_text bytes left e
item_left BytesItem bytes left e = counted_left is_chunk bytes left e
item_left IdentItem bytes left e = ident_left bytes left e
item_left ValueItem bytes left e = value_left bytes left e
item_left CodeItem bytes left e = meant_left error_of bytes left e
item_left ReasonItem bytes left e = meant_left reason_of bytes left e
item_left (ReleaseItem before) bytes left e = release_left before bytes left e

pub item_nonempty : (item : Item) (x : Holds item) → 0 < length (spelled item x)
item_nonempty KindItem kind = omega arith
item_nonempty DepthItem depth = omega arith
item_nonempty (ByteItem low high) b = omega arith
item_nonempty (CountItem most) n = omega arith
item_nonempty (NumberItem least) n = omega arith
item_nonempty IntItem n = omega arith
item_nonempty TextItem text = omega arith
item_nonempty BytesItem bytes = omega arith
item_nonempty IdentItem (Str text) = omega arith
item_nonempty IdentItem (Int n) = omega arith
item_nonempty ValueItem values.Void = omega arith
item_nonempty ValueItem values.Null = omega arith
item_nonempty ValueItem (values.Bool truth) = omega arith
item_nonempty ValueItem (values.Int n) = omega arith
item_nonempty ValueItem (values.Double bytes) = omega arith
item_nonempty ValueItem (values.Text text) = omega arith
item_nonempty ValueItem (values.Object name) = omega arith
item_nonempty CodeItem error = omega arith
item_nonempty ReasonItem reason = omega arith
item_nonempty (ReleaseItem before) r = omega arith
