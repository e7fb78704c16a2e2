-- How many bytes a message may have.
use Rattle.std.proofs.Common.{◌≡◌, ℕ, ◌+◌, ◌*◌, ◌/◌, ◌≤◌, List, [], ◌∷◌, ◌++◌, length, refl, arith}
use Rattle.std.specs.Int.{w16, to_be_bytes}
use Rattle.std.specs.List.{flat_map}
use Rattle.std.proofs.lemmas.List.{length-append}
use Rattle.np_values.specs.declared.range.Range.{Range}
use Rattle.np_values.specs.declared.value.Value.{Value}
use Rattle.np_values.specs.declared.value.Value.TheVariants as values
use Rattle.np_idents.specs.declared.key.IdKey.{IdKey}
use Rattle.np_idents.specs.declared.key.IdKey.TheVariants.{Str, Int}
use Rattle.np_idents.specs.declared.op.Op.{Op}
use Rattle.np_idents.specs.declared.op.Op.TheVariants as ops
use Rattle.np_proxy_release.specs.declared.release.Release.{Release}
use Rattle.np_values.specs.NpReason.{reason_code}
use Rattle.np_message.specs.declared.payload.Payload.{Payload}
use Rattle.np_message.specs.declared.payload.Payload.TheVariants.{Hello, New, Destroy, Scriptable, Turn, NewStream, WriteReady, Write, AsFile, DestroyStream, Notify, Shutdown, Window, GetUrl, RequestRead, EndStream, Call, True, False, Threw, Idents, Code, Number, Done}
use Rattle.np_message.specs.Message.{Message}
use Rattle.np_message.specs.Rules.{Each, IsText, IsTypedKey, IsTypedValue, IsTypedOp, HasArguments, KeepsKind, IsTypedBody, KeepsFormat, IsTyped}
use Rattle.np_message.specs.Encoding.{number_item, int_item, counted_item, ident_item, value_item, range_items, release_item, arguments_items, op_items, items_of, body_of}
use Rattle.np_wire_laws.proofs.CountedBytes.{is_short, is_short_key}

-- ---- items

counted_size : (bytes : List ℕ) → length (counted_item bytes) ≡ 2 + length bytes
counted_size bytes = length-append (to_be_bytes w16 (length bytes)) bytes

text_short : (text : List ℕ) → IsText text → length (counted_item text) ≤ 2050
text_short text valid = omega (arith, counted_size text, is_short text valid)

key_short : (key : IdKey) → IsTypedKey key → length (ident_item key) ≤ 259
key_short (Str text) typed = omega (arith, counted_size text, is_short_key text typed)
key_short (Int n) typed = omega arith

value_short : (value : Value) → IsTypedValue value → length (value_item value) ≤ 2051
value_short values.Void typed = omega arith
value_short values.Null typed = omega arith
value_short (values.Bool truth) typed = omega arith
value_short (values.Int n) typed = omega arith
value_short (values.Double bytes) typed = omega (arith, typed.0)
value_short (values.Text text) typed = omega (arith, text_short text typed)
value_short (values.Object name) typed = omega arith

-- ---- lists of items

texts_short : (texts : List (List ℕ)) → Each IsText texts → length (flat_map counted_item texts) ≤ 2050 * length texts
texts_short [] typed = omega arith
texts_short (text ∷ texts) typed =
    omega (arith, length-append (counted_item text) (flat_map counted_item texts), text_short text typed.0, texts_short texts typed.1)

keys_short : (keys : List IdKey) → Each IsTypedKey keys → length (flat_map ident_item keys) ≤ 259 * length keys
keys_short [] typed = omega arith
keys_short (key ∷ keys) typed =
    omega (arith, length-append (ident_item key) (flat_map ident_item keys), key_short key typed.0, keys_short keys typed.1)

values_short : (arguments : List Value) → Each IsTypedValue arguments → length (flat_map value_item arguments) ≤ 2051 * length arguments
values_short [] typed = omega arith
values_short (value ∷ arguments) typed =
    omega (arith, length-append (value_item value) (flat_map value_item arguments), value_short value typed.0, values_short arguments typed.1)

ranges_size : (ranges : List Range) → length (flat_map range_items ranges) ≡ 8 * length ranges
ranges_size [] = refl
ranges_size (range ∷ ranges) =
    omega (arith, length-append (range_items range) (flat_map range_items ranges), ranges_size ranges)

releases_size : (releases : List Release) → length (flat_map release_item releases) ≡ 9 * length releases
releases_size [] = refl
releases_size (r ∷ releases) =
    omega (arith, length-append (release_item r) (flat_map release_item releases), releases_size releases)

-- ---- the items of a kind

op_short : (op : Op) (arguments : List Value) → HasArguments op (length arguments) → IsTypedOp op → Each IsTypedValue arguments → length (op_items op arguments) ≤ 16668
op_short (ops.Invoke key) arguments has op typed =
    omega (arith, length-append (ident_item key) (arguments_items arguments), key_short key op, values_short arguments typed, has)
op_short ops.Default arguments has op typed = omega (arith, values_short arguments typed, has)
op_short ops.Construct arguments has op typed = omega (arith, values_short arguments typed, has)
op_short (ops.Get key) arguments has op typed = omega (arith, key_short key op)
op_short (ops.Put key) arguments has op typed =
    omega (arith, length-append (ident_item key) (flat_map value_item arguments), key_short key op, values_short arguments typed, has)
op_short (ops.Remove key) arguments has op typed = omega (arith, key_short key op)
op_short (ops.HasMethod key) arguments has op typed = omega (arith, key_short key op)
op_short (ops.HasProperty key) arguments has op typed = omega (arith, key_short key op)
op_short ops.Enumerate arguments has op typed = omega arith

-- the most bytes are those of a call with an identifier and eight arguments
pub items_short : (p : Payload) → KeepsKind p → IsTypedBody p → length (items_of p) ≤ 16674
items_short (Hello version major minor) keeps typed = omega arith
items_short (New instance mode mime attributes) keeps typed =
    omega (arith, length-append (counted_item mime) (length attributes / 2 ∷ flat_map counted_item attributes), text_short mime typed.1, texts_short attributes typed.2, keeps.3.1, keeps.3.2)
items_short (Destroy instance) keeps typed = omega arith
items_short (Scriptable instance) keeps typed = omega arith
items_short Turn keeps typed = omega arith
items_short (NewStream instance stream url mime size) keeps typed =
    omega (arith, length-append (counted_item url) (counted_item mime ++ number_item size), length-append (counted_item mime) (number_item size), text_short url typed.2, text_short mime typed.3)
items_short (WriteReady instance stream) keeps typed = omega arith
items_short (Write instance stream offset bytes) keeps typed = omega (arith, counted_size bytes, keeps.3)
items_short (AsFile instance stream path) keeps typed = omega (arith, text_short path typed.2)
items_short (DestroyStream instance stream reason) keeps typed = omega arith
items_short (Notify instance url reason word) keeps typed =
    omega (arith, length-append (counted_item url) (reason_code reason ∷ int_item word), text_short url typed.1)
items_short Shutdown keeps typed = omega arith
items_short (Window instance) keeps typed = omega arith
items_short (GetUrl instance url word) keeps typed =
    omega (arith, length-append (counted_item url) (int_item word), text_short url typed.1)
items_short (RequestRead instance stream ranges) keeps typed = omega (arith, ranges_size ranges, keeps.3)
items_short (EndStream instance stream reason) keeps typed = omega arith
items_short (Call instance serial op arguments) keeps typed = omega (arith, op_short op arguments keeps.2 typed.2 typed.3)
items_short (True value) keeps typed = omega (arith, value_short value typed)
items_short False keeps typed = omega arith
items_short (Threw text) keeps typed = omega (arith, text_short text typed)
items_short (Idents keys) keeps typed = omega (arith, keys_short keys typed, keeps)
items_short (Code error) keeps typed = omega arith
items_short (Number n) keeps typed = omega arith
items_short Done keeps typed = omega arith

pub body_short : (m : Message) → KeepsFormat m → IsTyped m → (4 ≤ length (body_of m)) × (length (body_of m) ≤ 25894)
body_short m keeps typed =
    let size = length-append (flat_map release_item m.releases) (items_of m.body) in
    (omega (arith, size), omega (arith, size, releases_size m.releases, items_short m.body keeps.body typed.body, keeps.few))
