-- When bytes are awaited, and which lengths are refused.
use Rattle.std.proofs.Common.{◌≡◌, ◌≢◌, ◌⊎◌, inl, inr, ℕ, ◌+◌, ◌-◌, ◌<◌, ◌≤◌, Bool, true, false, cond, ltb, ◌||◌, List, [], ◌++◌, length, take, drop, Result, Ok, Err, refl, sym, ap, subst, ◌∙◌, arith}
use Rattle.std.specs.Int.{w32, to_be_bytes, from_be_bytes}
use Rattle.std.proofs.lemmas.Bool.{lt-ltb, le-ltb, cases_lt}
use Rattle.std.proofs.lemmas.List.{take_at, take-append-le, length-append, length-drop, nil_from_length}
use Rattle.std.proofs.lemmas.Nat.{from_be_bytes-to_be_bytes_4}
use Rattle.np_message.specs.declared.wire.WireKind.{WireKind}
use Rattle.np_message.specs.declared.wire.WireKind.TheVariants.{Length, Item as ItemRule, Rest}
use Rattle.np_message.specs.declared.wire.WireError.{WireError}
use Rattle.np_message.specs.Message.{Message}
use Rattle.np_message.specs.Encoding.{body_of, encoding}
use Rattle.np_message.specs.Formats.{message_format}
use Rattle.np_message.specs.Decoding.{Reading, read, whole, Front, Partial, Whole, Bad, front_body, front}
use Rattle.np_wire_laws.specs.Laws.{length_of, IsCutShort, WaitsExactly, BeginningsAreAwaited, HasBadLength, IsLengthRefused, length_error, RefusesLengthExactly, LengthIsTold}
use Rattle.np_wire_laws.proofs.Sizes.{body_short}

-- ---- what stands at the front, by cases on the length

abbrev pub partial : Front
partial = Partial

abbrev pub seen : Message → List ℕ → Front
seen m rest = Whole m rest

abbrev pub bad : WireError → Front
bad e = Bad e

is_out : (n : ℕ) → ((n < 4) ⊎ (32768 < n)) → (ltb n 4 || ltb 32768 n) ≡ true
is_out n (inl low) = rw (lt-ltb n 4 low) refl
is_out n (inr high) = rw (le-ltb n 4 (omega arith), lt-ltb 32768 n high) refl

is_in : (n : ℕ) → 4 ≤ n → n ≤ 32768 → (ltb n 4 || ltb 32768 n) ≡ false
is_in n low high = rw (le-ltb n 4 low, le-ltb 32768 n high) refl

pub front_short : (at : ℕ) (bytes : List ℕ) → length bytes < 4 → front at bytes ≡ Partial
unfolding front
front_short at bytes short = rw (lt-ltb (length bytes) 4 short) refl

pub front_refused : LengthIsTold
unfolding front
front_refused at bytes (long, out) = rw (le-ltb (length bytes) 4 long, is_out (length_of bytes) out) refl

pub front_cut : (at : ℕ) (bytes : List ℕ) → 4 ≤ length bytes → 4 ≤ length_of bytes → length_of bytes ≤ 32768 → length bytes < 4 + length_of bytes → front at bytes ≡ Partial
unfolding front
front_cut at bytes long low high cut =
    rw (le-ltb (length bytes) 4 long, is_in (length_of bytes) low high, lt-ltb (length (drop 4 bytes)) (length_of bytes) (omega (arith, length-drop 4 bytes))) refl

-- what a body of this length makes of the front
abbrev pub front_of : ℕ → ℕ → List ℕ → List ℕ → Front
front_of at n body behind = front_body at n (whole (read message_format body)) behind

pub front_there : (at : ℕ) (bytes : List ℕ) → 4 ≤ length_of bytes → length_of bytes ≤ 32768 → 4 + length_of bytes ≤ length bytes → front at bytes ≡ front_of at (length_of bytes) (take (length_of bytes) (drop 4 bytes)) (drop (length_of bytes) (drop 4 bytes))
unfolding front
front_there at bytes low high there =
    rw (le-ltb (length bytes) 4 (omega arith), is_in (length_of bytes) low high, le-ltb (length (drop 4 bytes)) (length_of bytes) (omega (arith, length-drop 4 bytes))) refl

-- the four cases
pub data LengthCase (bytes : List ℕ) : Type 0 where
  few : length bytes < 4 → LengthCase bytes
  out : HasBadLength bytes → LengthCase bytes
  cut : 4 ≤ length bytes → 4 ≤ length_of bytes → length_of bytes ≤ 32768 → length bytes < 4 + length_of bytes → LengthCase bytes
  there : 4 ≤ length_of bytes → length_of bytes ≤ 32768 → 4 + length_of bytes ≤ length bytes → LengthCase bytes

pub length_case : (bytes : List ℕ) → LengthCase bytes
length_case bytes =
    let n = length_of bytes in
    elim (cases_lt (length bytes) 4) [
      | inl short ↦ few short
      | inr long ↦ elim (cases_lt n 4) [
        | inl low ↦ out (long, inl low)
        | inr least ↦ elim (cases_lt 32768 n) [
          | inl high ↦ out (long, inr high)
          | inr most ↦ elim (cases_lt (length bytes) (4 + n)) [
            | inl less ↦ cut long least most less
            | inr enough ↦ there least most enough
          ]
        ]
      ]
    ]

-- ---- what is awaited

body_not_partial : (at n : ℕ) (r : Result Message (WireKind × ℕ)) (rest : List ℕ) → front_body at n r rest ≡ Partial → ⊥
body_not_partial at n (Ok m) rest e = (let no : seen m rest ≡ partial = e in cc)
body_not_partial at n (Err broken) rest e = (let no : bad (record { at = at + 4 + n - broken.1; kind = broken.0; first = at; second = n }) ≡ partial = e in cc)

cut_short : (at : ℕ) (bytes : List ℕ) → LengthCase bytes → front at bytes ≡ Partial → IsCutShort bytes
cut_short at bytes (few short) e = inl short
cut_short at bytes (out bad_length) e = absurd (let no : bad (length_error at bytes) ≡ partial = sym (front_refused at bytes bad_length) ∙ e in cc)
cut_short at bytes (cut long low high less) e = inr (low, high, less)
cut_short at bytes (there low high enough) e = absurd (body_not_partial _ _ _ _ (sym (front_there at bytes low high enough) ∙ e))

awaited : (at : ℕ) (bytes : List ℕ) → IsCutShort bytes → front at bytes ≡ Partial
awaited at bytes (inl short) = front_short at bytes short
awaited at bytes (inr part) =
    elim (cases_lt (length bytes) 4) [
      | inl short ↦ front_short at bytes short
      | inr long ↦ front_cut at bytes long part.0 part.1 part.2
    ]

pub waits_exactly : WaitsExactly
waits_exactly at bytes = (cut_short at bytes (length_case bytes), awaited at bytes)

pub not_nil : (more : List ℕ) → more ≢ [] → 0 < length more
not_nil more h =
    elim (cases_lt 0 (length more)) [
      | inl some ↦ some
      | inr none ↦ absurd (h (nil_from_length more (omega arith)))
    ]

beginning_at : (at : ℕ) (size body bytes more : List ℕ) → length size ≡ 4 → from_be_bytes w32 size ≡ length body → 4 ≤ length body → length body ≤ 32768 → bytes ++ more ≡ size ++ body → 0 < length more → front at bytes ≡ Partial
beginning_at at size body bytes more wide number low high e some =
    elim (cases_lt (length bytes) 4) [
      | inl short ↦ front_short at bytes short
      | inr long ↦ (
          let first : take 4 bytes ≡ size = sym (take-append-le 4 bytes more long) ∙ ap (take 4) e ∙ take_at size body 4 wide in
          let n : length_of bytes ≡ length body = ap (from_be_bytes w32) first ∙ number in
          let all : length bytes + length more ≡ length size + length body = sym (length-append bytes more) ∙ ap length e ∙ length-append size body in
          front_cut at bytes long (omega (arith, n)) (omega (arith, n)) (omega (arith, n, all)))
    ]

pub beginnings_are_awaited : BeginningsAreAwaited
unfolding encoding
beginnings_are_awaited at m bytes more keeps typed e some =
    let n = length (body_of m) in
    let fits = body_short m keeps typed in
    beginning_at at (to_be_bytes w32 n) (body_of m) bytes more refl (from_be_bytes-to_be_bytes_4 n (omega (arith, fits.1))) fits.0 (omega (arith, fits.1)) e (not_nil more some)

-- ---- which lengths are refused

abbrev item_kind : WireKind
item_kind = ItemRule

abbrev rest_kind : WireKind
rest_kind = Rest

abbrev length_kind : WireKind
length_kind = Length

not_item : item_kind ≢ length_kind
not_item e = cc

not_rest : rest_kind ≢ length_kind
not_rest e = cc

-- a rule that a body breaks isn't that of the length
abbrev BreaksOther : Result Message (WireKind × ℕ) → Type 0
BreaksOther (Ok m) = Unit {0}
BreaksOther (Err broken) = broken.0 ≢ Length

breaks_other : (r : Reading Message) → BreaksOther (whole r)
breaks_other (Err left) = not_item
breaks_other (Ok y) = by_test (ltb 0 (length y.1))
  where
    by_test : (more : Bool) → BreaksOther (cond more (Err (Rest, length y.1)) (Ok y.0))
    by_test true = not_rest
    by_test false = tt

body_not_length : (at n : ℕ) (r : Result Message (WireKind × ℕ)) (rest : List ℕ) (e : WireError) → BreaksOther r → front_body at n r rest ≡ Bad e → e.kind ≢ Length
body_not_length at n (Ok m) rest e other h = absurd (let no : seen m rest ≡ bad e = h in cc)
body_not_length at n (Err broken) rest e other h =
    let told : WireError = record { at = at + 4 + n - broken.1; kind = broken.0; first = at; second = n } in
    let same : told ≡ e = (let alike : bad told ≡ bad e = h in cc) in
    subst (λ (y : WireError). y.kind ≢ Length) same other

bad_length : (at : ℕ) (bytes : List ℕ) → LengthCase bytes → IsLengthRefused at bytes → HasBadLength bytes
bad_length at bytes (few short) (e, h, k) = absurd (let no : partial ≡ bad e = sym (front_short at bytes short) ∙ h in cc)
bad_length at bytes (out is) (e, h, k) = is
bad_length at bytes (cut long low high less) (e, h, k) = absurd (let no : partial ≡ bad e = sym (front_cut at bytes long low high less) ∙ h in cc)
bad_length at bytes (there low high enough) (e, h, k) =
    let n = length_of bytes in
    let body = take n (drop 4 bytes) in
    absurd (body_not_length at n (whole (read message_format body)) (drop n (drop 4 bytes)) e (breaks_other (read message_format body)) (sym (front_there at bytes low high enough) ∙ h) k)

pub refuses_length_exactly : RefusesLengthExactly
refuses_length_exactly at bytes = (bad_length at bytes (length_case bytes), λ is. (length_error at bytes, front_refused at bytes is, refl))
