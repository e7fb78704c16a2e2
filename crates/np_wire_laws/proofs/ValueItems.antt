-- Values are read as they are spelled.
use Rattle.std.proofs.Common.{◌≡◌, ℕ, ℤ, ◌<◌, ◌≤◌, true, false, cond, eqb, ltb, List, [], ◌∷◌, ◌++◌, length, take, drop, Ok, Err, refl, sym, ap, subst, arith, inl, inr, FitsSigned}
use Rattle.std.specs.Int.{w32}
use Rattle.std.proofs.lemmas.Bool.{le-ltb, ltb-false}
use Rattle.std.proofs.lemmas.List.{take_at, drop_at, length-append, length-take, take-append-drop}
use Rattle.np_values.specs.Text.{is_text}
use Rattle.np_values.specs.declared.name.Name.{Name}
use Rattle.np_values.specs.declared.value.Value.{Value}
use Rattle.np_values.specs.declared.value.Value.TheVariants as values
use Rattle.np_message.specs.Rules.{Each, IsByte, KeepsValue, IsTypedValue}
use Rattle.np_message.specs.Encoding.{int_item, counted_item, name_item, bool_byte, value_item}
use Rattle.np_message.specs.Items.{is_within}
use Rattle.np_message.specs.Decoding.{◌>>=◌, Reading, no_item, at_start, read_tested, read_int, read_counted, read_name, read_double, read_typed, read_value}
use Rattle.np_wire_laws.proofs.Readings.{AreBytes, bytes-rest, bytes-take, bytes-drop, each_byte, chosen, passed, done, done_is, byte_spelling, HasRead, tagged_read, alone_read, at_tag, at_start_ok, at_start_left, tested_read, within_is}
use Rattle.np_wire_laws.proofs.Numbers.{int_again, int_read}
use Rattle.np_wire_laws.proofs.CountedBytes.{is_short, counted_again, KeepsTest, counted_read}
use Rattle.np_wire_laws.proofs.ObjectNames.{KeepsName, name_again, name_read}

-- ---- eight bytes

abbrev IsDouble : List ℕ → Type 0
IsDouble bytes = (length bytes ≡ 8) × Each IsByte bytes

abbrev itself : List ℕ → List ℕ
itself bytes = bytes

double_again : (double rest : List ℕ) → length double ≡ 8 → read_double (double ++ rest) ≡ Ok (double, rest)
unfolding read_double
double_again double rest wide =
    let eight : ltb (length (double ++ rest)) 8 ≡ false = le-ltb _ _ (omega (arith, length-append double rest)) in
    rw (eight, take_at double rest 8 wide, drop_at double rest 8 wide) refl

double_read : (bytes : List ℕ) (x : List ℕ × List ℕ) → AreBytes bytes → read_double bytes ≡ Ok x → HasRead itself IsDouble bytes x.0 x.1
unfolding read_double
double_read bytes x fit e =
    let p = passed (ltb (length bytes) 8) (length bytes) (done (take 8 bytes, drop 8 bytes)) x e in
    subst (λ (y : List ℕ × List ℕ). HasRead itself IsDouble bytes y.0 y.1) (done_is (take 8 bytes, drop 8 bytes) x p.1)
    (record { parts = sym (take-append-drop 8 bytes); keeps = (omega (arith, length-take 8 bytes, ltb-false _ _ p.0), each_byte (take 8 bytes) (bytes-take 8 bytes fit)); behind = bytes-drop 8 bytes fit })

-- ---- values

abbrev pub KeepsTyped : Value → Type 0
KeepsTyped value = KeepsValue value × IsTypedValue value

abbrev truth_made : ℕ × List ℕ → Reading Value
truth_made b = Ok (values.Bool (eqb b.0 1), b.1)

abbrev int_made : ℤ × List ℕ → Reading Value
int_made n = Ok (values.Int n.0, n.1)

abbrev double_made : List ℕ × List ℕ → Reading Value
double_made double = Ok (values.Double double.0, double.1)

abbrev text_made : List ℕ × List ℕ → Reading Value
text_made text = Ok (values.Text text.0, text.1)

abbrev object_made : Name × List ℕ → Reading Value
object_made name = Ok (values.Object name.0, name.1)

pub value_again : (value : Value) (rest : List ℕ) → KeepsTyped value → read_value (value_item value ++ rest) ≡ Ok (value, rest)
unfolding read_typed
value_again values.Void rest keeps = refl
value_again values.Null rest keeps = refl
value_again (values.Bool true) rest keeps = refl
value_again (values.Bool false) rest keeps = refl
value_again (values.Int n) rest keeps =
    ap (λ (r : Reading ℤ). at_start (3 ∷ (int_item n ++ rest)) (r >>= int_made)) (int_again n rest keeps.1)
value_again (values.Double double) rest keeps =
    ap (λ (r : Reading (List ℕ)). at_start (4 ∷ (double ++ rest)) (r >>= double_made)) (double_again double rest keeps.1.0)
value_again (values.Text text) rest keeps =
    ap (λ (r : Reading (List ℕ)). at_start (5 ∷ (counted_item text ++ rest)) (r >>= text_made)) (counted_again is_text text rest (omega (arith, is_short text keeps.1)) keeps.1)
value_again (values.Object name) rest keeps =
    ap (λ (r : Reading Name). at_start (6 ∷ (name_item name ++ rest)) (r >>= object_made)) (name_again name rest (keeps.0.0, keeps.0.1, keeps.1))

truth_is : (b : ℕ) → b ≤ 1 → b ≡ bool_byte (eqb b 1)
truth_is b low = grind arith

-- what stands behind a type's byte, by the tests of the bytes that are left
typed_read : (tag : ℕ) (bytes : List ℕ) (x : Value × List ℕ) → AreBytes bytes → read_typed tag bytes ≡ Ok x → HasRead value_item KeepsTyped (tag ∷ bytes) x.0 x.1
unfolding read_typed
typed_read tag bytes x fit e =
    let r6 : Reading Value = cond (eqb tag 6) (read_name bytes >>= object_made) (no_item bytes) in
    let r5 : Reading Value = cond (eqb tag 5) (read_counted is_text bytes >>= text_made) r6 in
    let r4 : Reading Value = cond (eqb tag 4) (read_double bytes >>= double_made) r5 in
    let r3 : Reading Value = cond (eqb tag 3) (read_int bytes >>= int_made) r4 in
    let r2 : Reading Value = cond (eqb tag 2) (read_tested (is_within 0 1) bytes >>= truth_made) r3 in
    let r1 : Reading Value = cond (eqb tag 1) (Ok (values.Null, bytes)) r2 in
    let at : (k : ℕ) → eqb tag k ≡ true → HasRead value_item KeepsTyped (k ∷ bytes) x.0 x.1 → HasRead value_item KeepsTyped (tag ∷ bytes) x.0 x.1 = λ k h t. at_tag value_item KeepsTyped tag k bytes x.0 x.1 h t in
    elim (chosen (eqb tag 0) (Ok (values.Void, bytes)) r1 (Ok x) e) [
      | inl h ↦ at 0 h.0 (alone_read value_item KeepsTyped 0 values.Void refl (tt, tt) bytes x fit h.1)
      | inr e1 ↦ elim (chosen (eqb tag 1) (Ok (values.Null, bytes)) r2 (Ok x) e1.1) [
        | inl h ↦ at 1 h.0 (alone_read value_item KeepsTyped 1 values.Null refl (tt, tt) bytes x fit h.1)
        | inr e2 ↦ elim (chosen (eqb tag 2) (read_tested (is_within 0 1) bytes >>= truth_made) r3 (Ok x) e2.1) [
          | inl h ↦ at 2 h.0 (tagged_read byte_spelling (λ b. (is_within 0 1 b ≡ true) × (b < 256)) value_item KeepsTyped 2 (λ b. values.Bool (eqb b 1)) (λ b k. (ap (λ (c : ℕ). 2 ∷ c ∷ []) (truth_is b (within_is 0 1 b k.0).1), (tt, tt))) bytes (read_tested (is_within 0 1) bytes) x (λ y f. tested_read (is_within 0 1) bytes y fit f) h.1)
          | inr e3 ↦ elim (chosen (eqb tag 3) (read_int bytes >>= int_made) r4 (Ok x) e3.1) [
            | inl h ↦ at 3 h.0 (tagged_read int_item (FitsSigned w32) value_item KeepsTyped 3 values.Int (λ n k. (refl, (tt, k))) bytes (read_int bytes) x (λ y f. int_read bytes y fit f) h.1)
            | inr e4 ↦ elim (chosen (eqb tag 4) (read_double bytes >>= double_made) r5 (Ok x) e4.1) [
              | inl h ↦ at 4 h.0 (tagged_read itself IsDouble value_item KeepsTyped 4 values.Double (λ double k. (refl, (tt, k))) bytes (read_double bytes) x (λ y f. double_read bytes y fit f) h.1)
              | inr e5 ↦ elim (chosen (eqb tag 5) (read_counted is_text bytes >>= text_made) r6 (Ok x) e5.1) [
                | inl h ↦ at 5 h.0 (tagged_read counted_item (KeepsTest is_text) value_item KeepsTyped 5 values.Text (λ text k. (refl, (tt, k.0))) bytes (read_counted is_text bytes) x (λ y f. counted_read is_text bytes y fit f) h.1)
                | inr e6 ↦ elim (chosen (eqb tag 6) (read_name bytes >>= object_made) (no_item bytes) (Ok x) e6.1) [
                  | inl h ↦ at 6 h.0 (tagged_read name_item KeepsName value_item KeepsTyped 6 values.Object (λ name k. (refl, ((k.0, k.1), k.2))) bytes (read_name bytes) x (λ y f. name_read bytes y fit f) h.1)
                  | inr bad ↦ absurd (let no : no_item bytes ≡ done x = bad.1 in cc)
                ]
              ]
            ]
          ]
        ]
      ]
    ]

pub value_read : (bytes : List ℕ) (x : Value × List ℕ) → AreBytes bytes → read_value bytes ≡ Ok x → HasRead value_item KeepsTyped bytes x.0 x.1
value_read [] x fit e = absurd cc
value_read (tag ∷ bytes) x fit e = typed_read tag bytes x (bytes-rest tag bytes fit) (at_start_ok (tag ∷ bytes) (read_typed tag bytes) x e)

pub value_left : (bytes : List ℕ) (left : ℕ) → read_value bytes ≡ Err left → left ≡ length bytes
value_left [] left e = cc
value_left (tag ∷ bytes) left e = at_start_left (tag ∷ bytes) (read_typed tag bytes) left e
