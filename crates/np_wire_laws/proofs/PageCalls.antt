-- The rows of the page's calls.
use Rattle.std.proofs.Common.{◌≡◌, ℕ, ℤ, ◌+◌, ◌/◌, ◌<◌, ◌≤◌, List, [], ◌∷◌, length, refl, sym, ap, subst, ◌∙◌, arith}
use Rattle.std.specs.List.{flat_map}
use Rattle.std.proofs.lemmas.List.{append-nil}
use Rattle.np_message.specs.declared.payload.Payload.{Payload}
use Rattle.np_message.specs.declared.payload.Payload.TheVariants.{Hello, New, Destroy, Scriptable, NewStream, WriteReady, Write, AsFile, DestroyStream, Notify}
use Rattle.np_values.specs.declared.reason.NpReason.{NpReason}
use Rattle.np_message.specs.Encoding.{items_of, counted_item}
use Rattle.np_message.specs.Rules.{KeepsKind, IsTypedBody}
use Rattle.np_message.specs.Items.{TextItem, BytesItem, IsOf}
use Rattle.np_message.specs.Formats.{Format, Says, many, hello_format, new_format, destroy_format, scriptable_format, new_stream_format, write_ready_format, write_format, as_file_format, destroy_stream_format, notify_format}
use Rattle.np_message.specs.Faults.{Encodes}
use Rattle.np_wire_laws.proofs.Lists.{first, last, on, ended, many_of, many_last}
use Rattle.np_wire_laws.proofs.Rows.{Row, row_of, bounds, within, counted_is, counted_within, number_within, any_number}

-- ---- what is encoded

pub hello_row : (p : Payload) (bytes : List ℕ) → Encodes hello_format p bytes → Row 1 bytes p
hello_row p bytes (version, r, b, (major, s, c, (minor, t, d, (same, none)))) =
    let v = bounds 1 1 version b.is_of in
    row_of 1 bytes (Hello version major minor) p same (record {
      kind_is = refl;
      parts = on b (on c (on d none));
      keeps = omega (arith, v.0, v.1);
      typed = (omega (arith, (bounds 0 255 major c.is_of).1), omega (arith, (bounds 0 255 minor d.is_of).1));
    })

half_of_twice : (n pairs : ℕ) → n ≡ pairs + pairs → pairs ≡ n / 2
half_of_twice n pairs e = omega arith

pub new_row : (p : Payload) (bytes : List ℕ) → Encodes new_format p bytes → Row 2 bytes p
new_row p bytes (instance, r, b, (mode, s, c, (mime, t, d, (pairs, u, e, h)))) =
    let i = counted_is instance b.is_of in
    let m = bounds 1 2 mode c.is_of in
    let few = (bounds 0 3 pairs e.is_of).1 in
    let texts = many_of TextItem (pairs + pairs) (λ attributes. let f : Format Payload = Says (New instance mode mime attributes) in f) p u h in
    let same = texts.encodes.0 in
    let items = flat_map counted_item texts.xs in
    let behind : u ≡ items = ended items texts.rest u texts.parts texts.encodes.1 in
    let half : pairs ≡ length texts.xs / 2 = half_of_twice (length texts.xs) pairs texts.counted in
    row_of 2 bytes (New instance mode mime texts.xs) p same (record {
      kind_is = refl;
      parts = on b (on c (on d (on e behind ∙ ap (λ (n : ℕ). n ∷ items) half)));
      keeps = (i.0, omega (arith, m.0), omega (arith, m.1), (pairs, omega (arith, few), texts.counted));
      typed = (i.1, d.is_of, texts.each);
    })

pub destroy_row : (p : Payload) (bytes : List ℕ) → Encodes destroy_format p bytes → Row 3 bytes p
destroy_row p bytes (instance, r, b, (same, none)) =
    let i = counted_is instance b.is_of in
    row_of 3 bytes (Destroy instance) p same (record { kind_is = refl; parts = on b none; keeps = i.0; typed = i.1 })

pub scriptable_row : (p : Payload) (bytes : List ℕ) → Encodes scriptable_format p bytes → Row 4 bytes p
scriptable_row p bytes (instance, r, b, (same, none)) =
    let i = counted_is instance b.is_of in
    row_of 4 bytes (Scriptable instance) p same (record { kind_is = refl; parts = on b none; keeps = i.0; typed = i.1 })

pub new_stream_row : (p : Payload) (bytes : List ℕ) → Encodes new_stream_format p bytes → Row 6 bytes p
new_stream_row p bytes (instance, r, b, (stream, s, c, (url, t, d, (mime, u, e, (size, v, f, (same, none)))))) =
    let i = counted_is instance b.is_of in
    row_of 6 bytes (NewStream instance stream url mime size) p same (record {
      kind_is = refl;
      parts = on b (on c (on d (on e (on f none))));
      keeps = (i.0, omega (arith, c.is_of.0));
      typed = (i.1, c.is_of.1, d.is_of, e.is_of, f.is_of.1);
    })

pub write_ready_row : (p : Payload) (bytes : List ℕ) → Encodes write_ready_format p bytes → Row 7 bytes p
write_ready_row p bytes (instance, r, b, (stream, s, c, (same, none))) =
    let i = counted_is instance b.is_of in
    row_of 7 bytes (WriteReady instance stream) p same (record {
      kind_is = refl;
      parts = on b (on c none);
      keeps = (i.0, omega (arith, c.is_of.0));
      typed = (i.1, c.is_of.1);
    })

pub write_row : (p : Payload) (bytes : List ℕ) → Encodes write_format p bytes → Row 8 bytes p
write_row p bytes (instance, r, b, (stream, s, c, (offset, t, d, (content, u, e, (same, none))))) =
    let i = counted_is instance b.is_of in
    row_of 8 bytes (Write instance stream offset content) p same (record {
      kind_is = refl;
      parts = on b (on c (on d (on e none ∙ append-nil (counted_item content))));
      keeps = (i.0, omega (arith, c.is_of.0), e.is_of.0, e.is_of.1);
      typed = (i.1, c.is_of.1, d.is_of.1, e.is_of.2);
    })

pub as_file_row : (p : Payload) (bytes : List ℕ) → Encodes as_file_format p bytes → Row 9 bytes p
as_file_row p bytes (instance, r, b, (stream, s, c, (path, t, d, (same, none)))) =
    let i = counted_is instance b.is_of in
    row_of 9 bytes (AsFile instance stream path) p same (record {
      kind_is = refl;
      parts = on b (on c (on d none ∙ append-nil (counted_item path)));
      keeps = (i.0, omega (arith, c.is_of.0));
      typed = (i.1, c.is_of.1, d.is_of);
    })

pub destroy_stream_row : (p : Payload) (bytes : List ℕ) → Encodes destroy_stream_format p bytes → Row 10 bytes p
destroy_stream_row p bytes (instance, r, b, (stream, s, c, (reason, t, d, (same, none)))) =
    let i = counted_is instance b.is_of in
    row_of 10 bytes (DestroyStream instance stream reason) p same (record {
      kind_is = refl;
      parts = on b (on c (on d none));
      keeps = (i.0, omega (arith, c.is_of.0));
      typed = (i.1, c.is_of.1);
    })

pub notify_row : (p : Payload) (bytes : List ℕ) → Encodes notify_format p bytes → Row 11 bytes p
notify_row p bytes (instance, r, b, (url, s, c, (reason, t, d, (word, u, e, (same, none))))) =
    let i = counted_is instance b.is_of in
    row_of 11 bytes (Notify instance url reason word) p same (record {
      kind_is = refl;
      parts = on b (on c (on d (on e none)));
      keeps = i.0;
      typed = (i.1, c.is_of, e.is_of);
    })

-- ---- and back

pub hello_encodes : (version major minor : ℕ) → KeepsKind (Hello version major minor) → IsTypedBody (Hello version major minor) → Encodes hello_format (Hello version major minor) (items_of (Hello version major minor))
hello_encodes version major minor keeps typed =
    let v = within 1 1 version (omega (arith, keeps)) (omega (arith, keeps)) in
    let j = within 0 255 major (omega arith) (omega (arith, typed.0)) in
    let n = within 0 255 minor (omega arith) (omega (arith, typed.1)) in
    (version, _, first v, (major, _, first j, (minor, [], first n, (refl, refl))))

half_twice : (n pairs : ℕ) → n ≡ pairs + pairs → n / 2 + n / 2 ≡ n
half_twice n pairs e = omega arith

half_below : (n pairs : ℕ) → n ≡ pairs + pairs → pairs < 4 → n / 2 ≤ 3
half_below n pairs e below = omega arith

pub new_encodes : (instance mode : ℕ) (mime : List ℕ) (attributes : List (List ℕ)) → KeepsKind (New instance mode mime attributes) → IsTypedBody (New instance mode mime attributes) → Encodes new_format (New instance mode mime attributes) (items_of (New instance mode mime attributes))
new_encodes instance mode mime attributes keeps typed =
    let made : List (List ℕ) → Format Payload = λ texts. Says (New instance mode mime texts) in
    let p = New instance mode mime attributes in
    let n = length attributes / 2 in
    let texts = flat_map counted_item attributes in
    let all : Encodes (many TextItem (length attributes) made) p texts = many_last TextItem attributes made p typed.2 (refl, refl) in
    let sized : Encodes (many TextItem (n + n) made) p texts = subst (λ (k : ℕ). Encodes (many TextItem k made) p texts) (sym (half_twice (length attributes) keeps.3.0 keeps.3.2)) all in
    let i = counted_within instance keeps.0 typed.0 in
    let m = within 1 2 mode (omega (arith, keeps.1)) (omega (arith, keeps.2)) in
    let few = within 0 3 n (omega arith) (half_below (length attributes) keeps.3.0 keeps.3.2 keeps.3.1) in
    (instance, _, first i, (mode, _, first m, (mime, _, first typed.1, (n, texts, first few, sized))))

pub destroy_encodes : (instance : ℕ) → KeepsKind (Destroy instance) → IsTypedBody (Destroy instance) → Encodes destroy_format (Destroy instance) (items_of (Destroy instance))
destroy_encodes instance keeps typed = (instance, [], first (counted_within instance keeps typed), (refl, refl))

pub scriptable_encodes : (instance : ℕ) → KeepsKind (Scriptable instance) → IsTypedBody (Scriptable instance) → Encodes scriptable_format (Scriptable instance) (items_of (Scriptable instance))
scriptable_encodes instance keeps typed = (instance, [], first (counted_within instance keeps typed), (refl, refl))

pub new_stream_encodes : (instance stream : ℕ) (url mime : List ℕ) (size : ℕ) → KeepsKind (NewStream instance stream url mime size) → IsTypedBody (NewStream instance stream url mime size) → Encodes new_stream_format (NewStream instance stream url mime size) (items_of (NewStream instance stream url mime size))
new_stream_encodes instance stream url mime size keeps typed =
    let i = counted_within instance keeps.0 typed.0 in
    let s = number_within stream keeps.1 typed.1 in
    let z = any_number size typed.4 in
    (instance, _, first i, (stream, _, first s, (url, _, first typed.2, (mime, _, first typed.3, (size, [], first z, (refl, refl))))))

pub write_ready_encodes : (instance stream : ℕ) → KeepsKind (WriteReady instance stream) → IsTypedBody (WriteReady instance stream) → Encodes write_ready_format (WriteReady instance stream) (items_of (WriteReady instance stream))
write_ready_encodes instance stream keeps typed =
    let i = counted_within instance keeps.0 typed.0 in
    let s = number_within stream keeps.1 typed.1 in
    (instance, _, first i, (stream, [], first s, (refl, refl)))

pub write_encodes : (instance stream offset : ℕ) (content : List ℕ) → KeepsKind (Write instance stream offset content) → IsTypedBody (Write instance stream offset content) → Encodes write_format (Write instance stream offset content) (items_of (Write instance stream offset content))
write_encodes instance stream offset content keeps typed =
    let i = counted_within instance keeps.0 typed.0 in
    let s = number_within stream keeps.1 typed.1 in
    let o = any_number offset typed.2 in
    let c : IsOf BytesItem content = (keeps.2, keeps.3, typed.3) in
    (instance, _, first i, (stream, _, first s, (offset, _, first o, (content, [], last c, (refl, refl)))))

pub as_file_encodes : (instance stream : ℕ) (path : List ℕ) → KeepsKind (AsFile instance stream path) → IsTypedBody (AsFile instance stream path) → Encodes as_file_format (AsFile instance stream path) (items_of (AsFile instance stream path))
as_file_encodes instance stream path keeps typed =
    let i = counted_within instance keeps.0 typed.0 in
    let s = number_within stream keeps.1 typed.1 in
    (instance, _, first i, (stream, _, first s, (path, [], last typed.2, (refl, refl))))

pub destroy_stream_encodes : (instance stream : ℕ) (reason : NpReason) → KeepsKind (DestroyStream instance stream reason) → IsTypedBody (DestroyStream instance stream reason) → Encodes destroy_stream_format (DestroyStream instance stream reason) (items_of (DestroyStream instance stream reason))
destroy_stream_encodes instance stream reason keeps typed =
    let i = counted_within instance keeps.0 typed.0 in
    let s = number_within stream keeps.1 typed.1 in
    (instance, _, first i, (stream, _, first s, (reason, [], first tt, (refl, refl))))

pub notify_encodes : (instance : ℕ) (url : List ℕ) (reason : NpReason) (word : ℤ) → KeepsKind (Notify instance url reason word) → IsTypedBody (Notify instance url reason word) → Encodes notify_format (Notify instance url reason word) (items_of (Notify instance url reason word))
notify_encodes instance url reason word keeps typed =
    let i = counted_within instance keeps typed.0 in
    (instance, _, first i, (url, _, first typed.1, (reason, _, first tt, (word, [], first typed.2, (refl, refl)))))
