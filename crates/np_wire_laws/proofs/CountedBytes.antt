-- Bytes behind their number are read as they are spelled.
use Rattle.std.proofs.Common.{◌≡◌, ℕ, ◌+◌, ◌<◌, ◌≤◌, Bool, true, false, cond, ltb, List, ◌++◌, length, take, drop, Ok, Err, refl, sym, ap, subst, ◌∙◌, append_assoc, arith}
use Rattle.std.specs.Int.{w16, to_be_bytes, from_be_bytes}
use Rattle.std.proofs.lemmas.Bool.{le-ltb, ltb-false, leb-true}
use Rattle.std.proofs.lemmas.List.{take_at, drop_at, length-append, length-take, length-drop, take-append-drop}
use Rattle.std.proofs.lemmas.Nat.{from_be_bytes-to_be_bytes_2, be_bytes_2}
use Rattle.np_values.specs.Text.{is_text}
use Rattle.np_idents.specs.IdText.{is_id_text}
use Rattle.np_message.specs.Encoding.{counted_item}
use Rattle.np_message.specs.Decoding.{no_item, read_counted}
use Rattle.np_wire_laws.proofs.Readings.{AreBytes, bytes-drop, bytes-take, guarded, passed, both, HasRead, guarded_left, passed_left}

pub is_short : (text : List ℕ) → is_text text ≡ true → length text ≤ 2048
unfolding is_text
is_short text valid = leb-true _ _ (both _ _ valid).0

pub is_short_key : (text : List ℕ) → is_id_text text ≡ true → length text ≤ 256
unfolding is_id_text
is_short_key text valid = leb-true _ _ (both _ _ valid).0

counted_behind : (test : List ℕ → Bool) (size text rest : List ℕ) → length size ≡ 2 → from_be_bytes w16 size ≡ length text → test text ≡ true → read_counted test (size ++ (text ++ rest)) ≡ Ok (text, rest)
unfolding read_counted
counted_behind test size text rest wide number valid =
    let n = length text in
    let two : ltb (length (size ++ (text ++ rest))) 2 ≡ false = le-ltb _ _ (omega (arith, length-append size (text ++ rest))) in
    let all : ltb (length (size ++ (text ++ rest))) (2 + n) ≡ false = le-ltb _ _ (omega (arith, length-append size (text ++ rest), length-append text rest)) in
    rw (two, take_at size (text ++ rest) 2 wide, drop_at size (text ++ rest) 2 wide, number, all, take_at text rest n refl, drop_at text rest n refl, valid) refl

pub counted_again : (test : List ℕ → Bool) (text rest : List ℕ) → length text < 65536 → test text ≡ true → read_counted test (counted_item text ++ rest) ≡ Ok (text, rest)
counted_again test text rest short valid =
    ap (read_counted test) (append_assoc (to_be_bytes w16 (length text)) text rest)
    ∙ counted_behind test (to_be_bytes w16 (length text)) text rest refl (from_be_bytes-to_be_bytes_2 (length text) (omega (arith, short))) valid

abbrev pub KeepsTest : (List ℕ → Bool) → List ℕ → Type 0
KeepsTest test text = (test text ≡ true) × AreBytes text

pub counted_read : (test : List ℕ → Bool) (bytes : List ℕ) (x : List ℕ × List ℕ) → AreBytes bytes → read_counted test bytes ≡ Ok x → HasRead counted_item (KeepsTest test) bytes x.0 x.1
unfolding read_counted
counted_read test bytes x fit e =
    let d = length bytes in
    let n = from_be_bytes w16 (take 2 bytes) in
    let rest = drop 2 bytes in
    let text = take n rest in
    let p = passed (ltb (length bytes) 2) d (cond (ltb (length bytes) (2 + n)) (no_item bytes) (cond (test text) (Ok (text, drop n rest)) (no_item bytes))) x e in
    let q = passed (ltb (length bytes) (2 + n)) d (cond (test text) (Ok (text, drop n rest)) (no_item bytes)) x p.1 in
    let g = guarded (test text) d (text, drop n rest) x q.1 in
    let long : 2 ≤ length bytes = ltb-false _ _ p.0 in
    let whole : 2 + n ≤ length bytes = ltb-false _ _ q.0 in
    let size : length text ≡ n = omega (arith, length-take n rest, length-drop 2 bytes) in
    let first : to_be_bytes w16 n ≡ take 2 bytes = be_bytes_2 (take 2 bytes) n (omega (arith, length-take 2 bytes)) (bytes-take 2 bytes fit) refl in
    let sized : to_be_bytes w16 (length text) ≡ take 2 bytes = ap (to_be_bytes w16) size ∙ first in
    let parts : bytes ≡ (to_be_bytes w16 (length text) ++ text) ++ drop n rest = sym (append_assoc (to_be_bytes w16 (length text)) text (drop n rest) ∙ ap (λ (l : List ℕ). to_be_bytes w16 (length text) ++ l) (take-append-drop n rest) ∙ ap (λ (l : List ℕ). l ++ rest) sized ∙ take-append-drop 2 bytes) in
    subst (λ (y : List ℕ × List ℕ). HasRead counted_item (KeepsTest test) bytes y.0 y.1) g.1
    (record { parts = parts; keeps = (g.0, bytes-take n rest (bytes-drop 2 bytes fit)); behind = bytes-drop n rest (bytes-drop 2 bytes fit) })

pub counted_left : (test : List ℕ → Bool) (bytes : List ℕ) (left : ℕ) → read_counted test bytes ≡ Err left → left ≡ length bytes
unfolding read_counted
counted_left test bytes left e =
    let n = from_be_bytes w16 (take 2 bytes) in
    let rest = drop 2 bytes in
    passed_left (ltb (length bytes) 2) bytes (cond (ltb (length bytes) (2 + n)) (no_item bytes) (cond (test (take n rest)) (Ok (take n rest, drop n rest)) (no_item bytes))) left e
    (λ f. passed_left (ltb (length bytes) (2 + n)) bytes (cond (test (take n rest)) (Ok (take n rest, drop n rest)) (no_item bytes)) left f
    (λ g. guarded_left (test (take n rest)) bytes (take n rest, drop n rest) left g))
