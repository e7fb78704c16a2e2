-- What is encoded is read again, whatever follows, and what is read was encoded.
use Rattle.std.proofs.Common.{◌≡◌, ℕ, ◌+◌, ◌-◌, ◌≤◌, ltb, List, [], ◌++◌, length, take, drop, Result, Ok, Err, refl, sym, ap, subst, ◌∙◌, append_assoc, arith}
use Rattle.std.specs.Int.{w32, to_be_bytes, from_be_bytes}
use Rattle.std.proofs.lemmas.Bool.{ltb-false}
use Rattle.std.proofs.lemmas.List.{take_at, drop_at, take-append-drop, append-nil, length-append, length-take, length-drop, nil_from_length}
use Rattle.std.proofs.lemmas.Nat.{be_bytes_4, from_be_bytes-to_be_bytes_4}
use Rattle.np_message.specs.declared.wire.WireKind.{WireKind}
use Rattle.np_message.specs.declared.wire.WireKind.TheVariants.{Rest}
use Rattle.np_message.specs.Message.{Message}
use Rattle.np_message.specs.Encoding.{body_of, encoding}
use Rattle.np_message.specs.Rules.{KeepsFormat, IsTyped}
use Rattle.np_message.specs.Formats.{message_format}
use Rattle.np_message.specs.Decoding.{Reading, read, whole, Front, Whole, front_body, front}
use Rattle.np_message.specs.Faults.{Encodes, HasLength}
use Rattle.np_wire_laws.specs.Laws.{EncodedIsReadAgain, ReadIsEncoded, ReadBodiesAreMessages, NoEncodingBeginsAnother, length_of}
use Rattle.np_wire_laws.proofs.Items.{AreBytes, bytes_of_all, bytes-take, bytes-drop}
use Rattle.np_wire_laws.proofs.Readings.{passed}
use Rattle.np_wire_laws.proofs.Agreement.{Agrees, read_again, read_agrees}
use Rattle.np_wire_laws.proofs.Bodies.{encoding_is_body, body_is_encoding}
use Rattle.np_wire_laws.proofs.Sizes.{body_short}
use Rattle.np_wire_laws.proofs.Lengths.{partial, seen, bad, front_of, LengthCase, few, out, cut, there, length_case, front_short, front_refused, front_cut, front_there}

-- ---- a length field

-- a length field and what stands behind it
pub field_of : (bytes : List ℕ) → 4 ≤ length bytes → HasLength bytes (length_of bytes) (drop 4 bytes)
field_of bytes long =
    record { field = take 4 bytes; parts = sym (take-append-drop 4 bytes); four = omega (arith, length-take 4 bytes); value_is = refl }

-- what the fields of a length are
pub record Field (bytes : List ℕ) (value : ℕ) (behind : List ℕ) : Type 0 where
  pub long : 4 ≤ length bytes
  pub value_is : length_of bytes ≡ value
  pub behind_is : drop 4 bytes ≡ behind

pub field_is : (bytes : List ℕ) (value : ℕ) (behind : List ℕ) → HasLength bytes value behind → Field bytes value behind
field_is bytes value behind h =
    record {
      long = omega (arith, ap length h.parts, length-append h.field behind, h.four);
      value_is = ap (from_be_bytes w32) (ap (take 4) h.parts ∙ take_at h.field behind 4 h.four) ∙ h.value_is;
      behind_is = ap (drop 4) h.parts ∙ drop_at h.field behind 4 h.four;
    }

-- the front of bytes at which a whole message stands
pub front_whole : (at : ℕ) (bytes body behind : List ℕ) → HasLength bytes (length body) (body ++ behind) → 4 ≤ length body → length body ≤ 32768 → front at bytes ≡ front_of at (length body) body behind
front_whole at bytes body behind begins least most =
    let n = length body in
    let f = field_is bytes n (body ++ behind) begins in
    let all : length bytes ≡ 4 + (n + length behind) = omega (arith, f.long, ap length f.behind_is, length-drop 4 bytes, length-append body behind) in
    front_there at bytes (omega (arith, f.value_is)) (omega (arith, f.value_is)) (omega (arith, f.value_is, all))
    ∙ ap (λ (k : ℕ). front_of at k (take k (drop 4 bytes)) (drop k (drop 4 bytes))) f.value_is
    ∙ ap (λ (l : List ℕ). front_of at n (take n l) (drop n l)) f.behind_is
    ∙ ap (λ (l : List ℕ). front_of at n l (drop n (body ++ behind))) (take_at body behind n refl)
    ∙ ap (front_of at n body) (drop_at body behind n refl)

-- ---- what is encoded is read again

body_again : (m : Message) → KeepsFormat m → IsTyped m → whole (read message_format (body_of m)) ≡ Ok m
body_again m keeps typed =
    ap whole (ap (read message_format) (sym (append-nil (body_of m))) ∙ read_again message_format m (body_of m) [] (body_is_encoding m keeps typed))

-- the body of a message stands behind its length
pub has_length : (m : Message) (rest : List ℕ) → length (body_of m) ≤ 25894 → HasLength (encoding m ++ rest) (length (body_of m)) (body_of m ++ rest)
unfolding encoding
has_length m rest short =
    let n = length (body_of m) in
    record { field = to_be_bytes w32 n; parts = append_assoc (to_be_bytes w32 n) (body_of m) rest; four = refl; value_is = from_be_bytes-to_be_bytes_4 n (omega (arith, short)) }

pub encoded_is_read_again : EncodedIsReadAgain
encoded_is_read_again at m rest keeps typed =
    let fits = body_short m keeps typed in
    front_whole at (encoding m ++ rest) (body_of m) rest (has_length m rest fits.1) fits.0 (omega (arith, fits.1))
    ∙ ap (λ (r : Result Message (WireKind × ℕ)). front_body at (length (body_of m)) r rest) (body_again m keeps typed)

whole_is : (m n : Message) (x y : List ℕ) (found : Front) → found ≡ Whole m x → found ≡ Whole n y → (m ≡ n) × (x ≡ y)
whole_is m n x y found p q = (cc, cc)

pub no_encoding_begins_another : NoEncodingBeginsAnother
no_encoding_begins_another m n x y keeps_m typed_m keeps_n typed_n e =
    whole_is m n x y (front 0 (encoding n ++ y)) (ap (front 0) (sym e) ∙ encoded_is_read_again 0 m x keeps_m typed_m) (encoded_is_read_again 0 n y keeps_n typed_n)

-- ---- what is read was encoded

abbrev pub reading : Message → List ℕ → Reading Message
reading m rest = Ok (m, rest)

-- a reading of all bytes
all_read : (r : Reading Message) (m : Message) → whole r ≡ Ok m → r ≡ Ok (m, [])
all_read (Err left) m e = absurd cc
all_read (Ok y) m e =
    let p = passed (ltb 0 (length y.1)) (Rest, length y.1) (Ok y.0) m e in
    let none : y.1 ≡ [] = nil_from_length y.1 (let least = ltb-false _ _ p.0 in omega (arith, least)) in
    let same : y.0 ≡ m = (let alike = p.1 in cc) in
    ap (λ (rest : List ℕ). reading y.0 rest) none ∙ ap (λ (n : Message). reading n []) same

body_read : (bytes : List ℕ) (m : Message) → AreBytes bytes → whole (read message_format bytes) ≡ Ok m → (bytes ≡ body_of m) × KeepsFormat m × IsTyped m
body_read bytes m fit e =
    let agrees : Agrees message_format bytes (reading m []) = subst (λ (r : Reading Message). Agrees message_format bytes r) (all_read (read message_format bytes) m e) (read_agrees message_format bytes fit) in
    let same : bytes ≡ agrees.0 = agrees.1 ∙ append-nil agrees.0 in
    encoding_is_body m bytes (subst (λ (l : List ℕ). Encodes message_format m l) (sym same) agrees.2)

pub read_bodies_are_messages : ReadBodiesAreMessages
read_bodies_are_messages bytes rest m all e =
    let agrees : Agrees message_format bytes (reading m rest) = subst (λ (r : Reading Message). Agrees message_format bytes r) e (read_agrees message_format bytes (bytes_of_all bytes all)) in
    let is = encoding_is_body m agrees.0 agrees.2 in
    (is.1, is.2)

front_body_is : (at n : ℕ) (r : Result Message (WireKind × ℕ)) (rest : List ℕ) (m : Message) (end : List ℕ) → front_body at n r rest ≡ Whole m end → (r ≡ Ok m) × (rest ≡ end)
front_body_is at n (Ok k) rest m end e = let same : seen k rest ≡ seen m end = e in (cc, cc)
front_body_is at n (Err broken) rest m end e = absurd (let no : bad (record { at = at + 4 + n - broken.1; kind = broken.0; first = at; second = n }) ≡ seen m end = e in cc)

by_length : (at : ℕ) (bytes rest : List ℕ) (m : Message) → LengthCase bytes → AreBytes bytes → front at bytes ≡ Whole m rest → (bytes ≡ encoding m ++ rest) × KeepsFormat m × IsTyped m
unfolding encoding
by_length at bytes rest m (few short) fit e = absurd (let no : partial ≡ seen m rest = sym (front_short at bytes short) ∙ e in cc)
by_length at bytes rest m (out is) fit e = absurd (let no : bad _ ≡ seen m rest = sym (front_refused at bytes is) ∙ e in cc)
by_length at bytes rest m (cut long low high less) fit e = absurd (let no : partial ≡ seen m rest = sym (front_cut at bytes long low high less) ∙ e in cc)
by_length at bytes rest m (there low high enough) fit e =
    let n = length_of bytes in
    let behind = drop 4 bytes in
    let body = take n behind in
    let p = front_body_is at n (whole (read message_format body)) (drop n behind) m rest (sym (front_there at bytes low high enough) ∙ e) in
    let t = body_read body m (bytes-take n behind (bytes-drop 4 bytes fit)) p.0 in
    let size : length body ≡ n = omega (arith, length-take n behind, length-drop 4 bytes) in
    let first : to_be_bytes w32 n ≡ take 4 bytes = be_bytes_4 (take 4 bytes) n (omega (arith, length-take 4 bytes)) (bytes-take 4 bytes fit) refl in
    let head : to_be_bytes w32 (length (body_of m)) ≡ take 4 bytes = ap (to_be_bytes w32) (ap length (sym t.0) ∙ size) ∙ first in
    let tail : body_of m ++ rest ≡ behind = ap (λ (l : List ℕ). l ++ rest) (sym t.0) ∙ ap (λ (l : List ℕ). body ++ l) (sym p.1) ∙ take-append-drop n behind in
    let parts : bytes ≡ (to_be_bytes w32 (length (body_of m)) ++ body_of m) ++ rest = sym (append_assoc (to_be_bytes w32 (length (body_of m))) (body_of m) rest ∙ ap (λ (l : List ℕ). l ++ (body_of m ++ rest)) head ∙ ap (λ (l : List ℕ). take 4 bytes ++ l) tail ∙ take-append-drop 4 bytes) in
    (parts, t.1, t.2)

pub read_is_encoded : ReadIsEncoded
read_is_encoded at bytes rest m all e = by_length at bytes rest m (length_case bytes) (bytes_of_all bytes all) e
