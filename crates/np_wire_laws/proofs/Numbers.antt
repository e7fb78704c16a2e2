-- Counts, numbers and integers are read as they are spelled.
use Rattle.std.proofs.Common.{◌≡◌, ℕ, ℤ, ◌<◌, ◌≤◌, false, cond, ltb, List, [], ◌∷◌, ◌++◌, length, take, drop, Ok, Err, refl, sym, ap, subst, ◌∙◌, arith, FitsSigned}
use Rattle.std.specs.Int.{w16, w32, to_be_bytes, from_be_bytes, cast_signed, cast_unsigned}
use Rattle.std.proofs.lemmas.Bool.{le-ltb, ltb-false}
use Rattle.std.proofs.lemmas.List.{take_at, drop_at, length-append, length-take, take-append-drop}
use Rattle.std.proofs.lemmas.Nat.{from_be_bytes-to_be_bytes_2, from_be_bytes-to_be_bytes_4, be_bytes_2, be_bytes_4}
use Rattle.std.proofs.lemmas.Int.{to_z-of_z, of_z-to_z}
use Rattle.std.proofs.Math.Facts.{sfits_to_z, Fits-of_z}
use Rattle.np_message.specs.Rules.{IsNumber}
use Rattle.np_message.specs.Encoding.{number_item, int_item}
use Rattle.np_message.specs.Decoding.{no_item, read_count, read_number, read_int}
use Rattle.np_wire_laws.proofs.Readings.{AreBytes, bytes-drop, bytes-take, passed, done, done_is, HasRead, passed_left}

-- ---- the bytes of numbers

-- two bytes make a number below 2^16
pub pair_below : (bytes : List ℕ) → length bytes ≡ 2 → AreBytes bytes → from_be_bytes w16 bytes < 65536
pair_below [] size fit = absurd (omega (arith, size))
pair_below (a ∷ []) size fit = absurd (omega (arith, size))
pair_below (a ∷ b ∷ []) size fit = omega (arith, fit 0, fit 1)
pair_below (a ∷ b ∷ c ∷ bytes) size fit = absurd (omega (arith, size))

-- four bytes make a number below 2^32
pub four_below : (bytes : List ℕ) → length bytes ≡ 4 → AreBytes bytes → from_be_bytes w32 bytes < 4294967296
four_below [] size fit = absurd (omega (arith, size))
four_below (a ∷ []) size fit = absurd (omega (arith, size))
four_below (a ∷ b ∷ []) size fit = absurd (omega (arith, size))
four_below (a ∷ b ∷ c ∷ []) size fit = absurd (omega (arith, size))
four_below (a ∷ b ∷ c ∷ d ∷ []) size fit = omega (arith, fit 0, fit 1, fit 2, fit 3)
four_below (a ∷ b ∷ c ∷ d ∷ f ∷ bytes) size fit = absurd (omega (arith, size))

-- ---- counts

count_behind : (most n : ℕ) (size rest : List ℕ) → length size ≡ 2 → from_be_bytes w16 size ≡ n → n ≤ most → read_count most (size ++ rest) ≡ Ok (n, rest)
unfolding read_count
count_behind most n size rest wide number low =
    let two : ltb (length (size ++ rest)) 2 ≡ false = le-ltb _ _ (omega (arith, length-append size rest)) in
    let fits : ltb most n ≡ false = le-ltb _ _ low in
    rw (two, take_at size rest 2 wide, drop_at size rest 2 wide, number, fits) refl

pub count_again : (most n : ℕ) (rest : List ℕ) → n ≤ most → n < 65536 → read_count most (to_be_bytes w16 n ++ rest) ≡ Ok (n, rest)
count_again most n rest low fits = count_behind most n (to_be_bytes w16 n) rest refl (from_be_bytes-to_be_bytes_2 n (omega (arith, fits))) low

pub count_read : (most : ℕ) (bytes : List ℕ) (x : ℕ × List ℕ) → AreBytes bytes → read_count most bytes ≡ Ok x → HasRead (to_be_bytes w16) (λ n. (n ≤ most) × (n < 65536)) bytes x.0 x.1
unfolding read_count
count_read most bytes x fit e =
    let n = from_be_bytes w16 (take 2 bytes) in
    let p = passed (ltb (length bytes) 2) (length bytes) (cond (ltb most n) (no_item bytes) (Ok (n, drop 2 bytes))) x e in
    let q = passed (ltb most n) (length bytes) (done (n, drop 2 bytes)) x p.1 in
    let size : length (take 2 bytes) ≡ 2 = omega (arith, length-take 2 bytes, ltb-false _ _ p.0) in
    let first : to_be_bytes w16 n ≡ take 2 bytes = be_bytes_2 (take 2 bytes) n size (bytes-take 2 bytes fit) refl in
    let parts : bytes ≡ to_be_bytes w16 n ++ drop 2 bytes = sym (ap (λ (l : List ℕ). l ++ drop 2 bytes) first ∙ take-append-drop 2 bytes) in
    subst (λ (y : ℕ × List ℕ). HasRead (to_be_bytes w16) (λ m. (m ≤ most) × (m < 65536)) bytes y.0 y.1) (done_is (n, drop 2 bytes) x q.1)
    (record { parts = parts; keeps = (ltb-false _ _ q.0, pair_below (take 2 bytes) size (bytes-take 2 bytes fit)); behind = bytes-drop 2 bytes fit })

pub count_left : (most : ℕ) (bytes : List ℕ) (left : ℕ) → read_count most bytes ≡ Err left → left ≡ length bytes
unfolding read_count
count_left most bytes left e =
    let n = from_be_bytes w16 (take 2 bytes) in
    passed_left (ltb (length bytes) 2) bytes (cond (ltb most n) (no_item bytes) (Ok (n, drop 2 bytes))) left e
    (λ f. passed_left (ltb most n) bytes (Ok (n, drop 2 bytes)) left f (λ g. absurd cc))

-- ---- numbers

number_behind : (least n : ℕ) (size rest : List ℕ) → length size ≡ 4 → from_be_bytes w32 size ≡ n → least ≤ n → read_number least (size ++ rest) ≡ Ok (n, rest)
unfolding read_number
number_behind least n size rest wide number low =
    let four : ltb (length (size ++ rest)) 4 ≡ false = le-ltb _ _ (omega (arith, length-append size rest)) in
    let fits : ltb n least ≡ false = le-ltb _ _ low in
    rw (four, take_at size rest 4 wide, drop_at size rest 4 wide, number, fits) refl

pub number_again : (least n : ℕ) (rest : List ℕ) → least ≤ n → IsNumber n → read_number least (number_item n ++ rest) ≡ Ok (n, rest)
number_again least n rest low fits = number_behind least n (number_item n) rest refl (from_be_bytes-to_be_bytes_4 n (omega (arith, fits))) low

pub number_read : (least : ℕ) (bytes : List ℕ) (x : ℕ × List ℕ) → AreBytes bytes → read_number least bytes ≡ Ok x → HasRead number_item (λ n. (least ≤ n) × IsNumber n) bytes x.0 x.1
unfolding read_number
number_read least bytes x fit e =
    let n = from_be_bytes w32 (take 4 bytes) in
    let p = passed (ltb (length bytes) 4) (length bytes) (cond (ltb n least) (no_item bytes) (Ok (n, drop 4 bytes))) x e in
    let q = passed (ltb n least) (length bytes) (done (n, drop 4 bytes)) x p.1 in
    let size : length (take 4 bytes) ≡ 4 = omega (arith, length-take 4 bytes, ltb-false _ _ p.0) in
    let first : number_item n ≡ take 4 bytes = be_bytes_4 (take 4 bytes) n size (bytes-take 4 bytes fit) refl in
    let parts : bytes ≡ number_item n ++ drop 4 bytes = sym (ap (λ (l : List ℕ). l ++ drop 4 bytes) first ∙ take-append-drop 4 bytes) in
    subst (λ (y : ℕ × List ℕ). HasRead number_item (λ m. (least ≤ m) × IsNumber m) bytes y.0 y.1) (done_is (n, drop 4 bytes) x q.1)
    (record { parts = parts; keeps = (ltb-false _ _ q.0, four_below (take 4 bytes) size (bytes-take 4 bytes fit)); behind = bytes-drop 4 bytes fit })

pub number_left : (least : ℕ) (bytes : List ℕ) (left : ℕ) → read_number least bytes ≡ Err left → left ≡ length bytes
unfolding read_number
number_left least bytes left e =
    let n = from_be_bytes w32 (take 4 bytes) in
    passed_left (ltb (length bytes) 4) bytes (cond (ltb n least) (no_item bytes) (Ok (n, drop 4 bytes))) left e
    (λ f. passed_left (ltb n least) bytes (Ok (n, drop 4 bytes)) left f (λ g. absurd cc))

-- ---- integers

int_behind : (n : ℤ) (size rest : List ℕ) → length size ≡ 4 → cast_signed w32 (from_be_bytes w32 size) ≡ n → read_int (size ++ rest) ≡ Ok (n, rest)
unfolding read_int
int_behind n size rest wide number =
    let four : ltb (length (size ++ rest)) 4 ≡ false = le-ltb _ _ (omega (arith, length-append size rest)) in
    rw (four, take_at size rest 4 wide, drop_at size rest 4 wide, number) refl

pub int_again : (n : ℤ) (rest : List ℕ) → FitsSigned w32 n → read_int (int_item n ++ rest) ≡ Ok (n, rest)
int_again n rest fits =
    let bits : from_be_bytes w32 (int_item n) ≡ cast_unsigned w32 n = from_be_bytes-to_be_bytes_4 (cast_unsigned w32 n) (Fits-of_z fits).fits in
    int_behind n (int_item n) rest refl (ap (cast_signed w32) bits ∙ to_z-of_z w32 n fits)

pub int_read : (bytes : List ℕ) (x : ℤ × List ℕ) → AreBytes bytes → read_int bytes ≡ Ok x → HasRead int_item (FitsSigned w32) bytes x.0 x.1
unfolding read_int
int_read bytes x fit e =
    let n = from_be_bytes w32 (take 4 bytes) in
    let z = cast_signed w32 n in
    let p = passed (ltb (length bytes) 4) (length bytes) (done (z, drop 4 bytes)) x e in
    let size : length (take 4 bytes) ≡ 4 = omega (arith, length-take 4 bytes, ltb-false _ _ p.0) in
    let below : n < 4294967296 = four_below (take 4 bytes) size (bytes-take 4 bytes fit) in
    let first : int_item z ≡ take 4 bytes = ap (to_be_bytes w32) (of_z-to_z w32 n (omega (arith, below))) ∙ be_bytes_4 (take 4 bytes) n size (bytes-take 4 bytes fit) refl in
    let parts : bytes ≡ int_item z ++ drop 4 bytes = sym (ap (λ (l : List ℕ). l ++ drop 4 bytes) first ∙ take-append-drop 4 bytes) in
    subst (λ (y : ℤ × List ℕ). HasRead int_item (FitsSigned w32) bytes y.0 y.1) (done_is (z, drop 4 bytes) x p.1)
    (record { parts = parts; keeps = sfits_to_z (record { fits = below }); behind = bytes-drop 4 bytes fit })

pub int_left : (bytes : List ℕ) (left : ℕ) → read_int bytes ≡ Err left → left ≡ length bytes
unfolding read_int
int_left bytes left e = passed_left (ltb (length bytes) 4) bytes (Ok (cast_signed w32 (from_be_bytes w32 (take 4 bytes)), drop 4 bytes)) left e (λ g. absurd cc)
