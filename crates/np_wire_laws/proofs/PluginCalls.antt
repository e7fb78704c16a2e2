-- The rows of the plug-in's calls.
use Rattle.std.proofs.Common.{◌≡◌, ℕ, ℤ, List, [], ◌∷◌, length, refl, sym, ap, ◌∙◌, arith}
use Rattle.std.specs.List.{flat_map}
use Rattle.np_values.specs.declared.reason.NpReason.{NpReason}
use Rattle.np_values.specs.declared.range.Range.{Range}
use Rattle.np_message.specs.declared.payload.Payload.{Payload}
use Rattle.np_message.specs.declared.payload.Payload.TheVariants.{Window, GetUrl, RequestRead, EndStream}
use Rattle.np_message.specs.Encoding.{items_of, range_items}
use Rattle.np_message.specs.Rules.{KeepsKind, IsTypedBody}
use Rattle.np_message.specs.Formats.{Format, Says, window_format, get_url_format, request_read_format, end_stream_format}
use Rattle.np_message.specs.Faults.{Encodes}
use Rattle.np_wire_laws.proofs.Lists.{first, on, ended, ranges_of, ranges_last}
use Rattle.np_wire_laws.proofs.Rows.{Row, row_of, bounds, within, counted_is, counted_within, number_within}

-- ---- what is encoded

pub window_row : (p : Payload) (bytes : List ℕ) → Encodes window_format p bytes → Row 32 bytes p
window_row p bytes (instance, r, b, (same, none)) =
    let i = counted_is instance b.is_of in
    row_of 32 bytes (Window instance) p same (record { kind_is = refl; parts = on b none; keeps = i.0; typed = i.1 })

pub get_url_row : (p : Payload) (bytes : List ℕ) → Encodes get_url_format p bytes → Row 33 bytes p
get_url_row p bytes (instance, r, b, (url, s, c, (word, t, d, (same, none)))) =
    let i = counted_is instance b.is_of in
    row_of 33 bytes (GetUrl instance url word) p same (record {
      kind_is = refl;
      parts = on b (on c (on d none));
      keeps = i.0;
      typed = (i.1, c.is_of, d.is_of);
    })

pub request_read_row : (p : Payload) (bytes : List ℕ) → Encodes request_read_format p bytes → Row 34 bytes p
request_read_row p bytes (instance, r, b, (stream, s, c, (count, t, d, h))) =
    let i = counted_is instance b.is_of in
    let n = bounds 1 4 count d.is_of in
    let some = ranges_of count (λ ranges. let f : Format Payload = Says (RequestRead instance stream ranges) in f) p t h in
    let items = flat_map range_items some.ranges in
    let behind : t ≡ items = ended items some.rest t some.parts some.encodes.1 in
    row_of 34 bytes (RequestRead instance stream some.ranges) p some.encodes.0 (record {
      kind_is = refl;
      parts = on b (on c (on d behind ∙ ap (λ (k : ℕ). k ∷ items) (sym some.counted)));
      keeps = (i.0, omega (arith, c.is_of.0), omega (arith, n.0, some.counted), omega (arith, n.1, some.counted));
      typed = (i.1, c.is_of.1, some.each);
    })

pub end_stream_row : (p : Payload) (bytes : List ℕ) → Encodes end_stream_format p bytes → Row 35 bytes p
end_stream_row p bytes (instance, r, b, (stream, s, c, (reason, t, d, (same, none)))) =
    let i = counted_is instance b.is_of in
    row_of 35 bytes (EndStream instance stream reason) p same (record {
      kind_is = refl;
      parts = on b (on c (on d none));
      keeps = (i.0, omega (arith, c.is_of.0));
      typed = (i.1, c.is_of.1);
    })

-- ---- and back

pub window_encodes : (instance : ℕ) → KeepsKind (Window instance) → IsTypedBody (Window instance) → Encodes window_format (Window instance) (items_of (Window instance))
window_encodes instance keeps typed = (instance, [], first (counted_within instance keeps typed), (refl, refl))

pub get_url_encodes : (instance : ℕ) (url : List ℕ) (word : ℤ) → KeepsKind (GetUrl instance url word) → IsTypedBody (GetUrl instance url word) → Encodes get_url_format (GetUrl instance url word) (items_of (GetUrl instance url word))
get_url_encodes instance url word keeps typed =
    let i = counted_within instance keeps typed.0 in
    (instance, _, first i, (url, _, first typed.1, (word, [], first typed.2, (refl, refl))))

pub request_read_encodes : (instance stream : ℕ) (ranges : List Range) → KeepsKind (RequestRead instance stream ranges) → IsTypedBody (RequestRead instance stream ranges) → Encodes request_read_format (RequestRead instance stream ranges) (items_of (RequestRead instance stream ranges))
request_read_encodes instance stream ranges keeps typed =
    let i = counted_within instance keeps.0 typed.0 in
    let s = number_within stream keeps.1 typed.1 in
    let few = within 1 4 (length ranges) (omega (arith, keeps.2)) keeps.3 in
    let all = ranges_last ranges (λ some. Says (RequestRead instance stream some)) (RequestRead instance stream ranges) typed.2 (refl, refl) in
    (instance, _, first i, (stream, _, first s, (length ranges, _, first few, all)))

pub end_stream_encodes : (instance stream : ℕ) (reason : NpReason) → KeepsKind (EndStream instance stream reason) → IsTypedBody (EndStream instance stream reason) → Encodes end_stream_format (EndStream instance stream reason) (items_of (EndStream instance stream reason))
end_stream_encodes instance stream reason keeps typed =
    let i = counted_within instance keeps.0 typed.0 in
    let s = number_within stream keeps.1 typed.1 in
    (instance, _, first i, (stream, _, first s, (reason, [], first tt, (refl, refl))))
