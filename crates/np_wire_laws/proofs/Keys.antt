-- Identifiers are read as they are spelled.
use Rattle.std.proofs.Common.{◌≡◌, ℕ, ℤ, cond, eqb, List, [], ◌∷◌, ◌++◌, length, Ok, Err, refl, ap, arith, inl, inr, FitsSigned}
use Rattle.std.specs.Int.{w32}
use Rattle.np_idents.specs.IdText.{is_id_text}
use Rattle.np_idents.specs.declared.key.IdKey.{IdKey}
use Rattle.np_idents.specs.declared.key.IdKey.TheVariants.{Str, Int}
use Rattle.np_message.specs.Rules.{IsTypedKey}
use Rattle.np_message.specs.Encoding.{int_item, counted_item, ident_item}
use Rattle.np_message.specs.Decoding.{◌>>=◌, Reading, no_item, at_start, read_int, read_counted, read_key, read_ident}
use Rattle.np_wire_laws.proofs.Readings.{AreBytes, bytes-rest, chosen, done, HasRead, tagged_read, at_tag, at_start_ok, at_start_left}
use Rattle.np_wire_laws.proofs.Numbers.{int_again, int_read}
use Rattle.np_wire_laws.proofs.CountedBytes.{is_short_key, counted_again, KeepsTest, counted_read}

abbrev string : List ℕ × List ℕ → Reading IdKey
string text = Ok (Str text.0, text.1)

abbrev integer : ℤ × List ℕ → Reading IdKey
integer n = Ok (Int n.0, n.1)

pub ident_again : (key : IdKey) (rest : List ℕ) → IsTypedKey key → read_ident (ident_item key ++ rest) ≡ Ok (key, rest)
unfolding read_key
ident_again (Str text) rest typed =
    ap (λ (r : Reading (List ℕ)). at_start (0 ∷ (counted_item text ++ rest)) (r >>= string)) (counted_again is_id_text text rest (omega (arith, is_short_key text typed)) typed)
ident_again (Int n) rest typed =
    ap (λ (r : Reading ℤ). at_start (1 ∷ (int_item n ++ rest)) (r >>= integer)) (int_again n rest typed)

key_read : (tag : ℕ) (bytes : List ℕ) (x : IdKey × List ℕ) → AreBytes bytes → read_key tag bytes ≡ Ok x → HasRead ident_item IsTypedKey (tag ∷ bytes) x.0 x.1
unfolding read_key
key_read tag bytes x fit e =
    let last : Reading IdKey = cond (eqb tag 1) (read_int bytes >>= integer) (no_item bytes) in
    elim (chosen (eqb tag 0) (read_counted is_id_text bytes >>= string) last (Ok x) e) [
      | inl h ↦ at_tag ident_item IsTypedKey tag 0 bytes x.0 x.1 h.0
          (tagged_read counted_item (KeepsTest is_id_text) ident_item IsTypedKey 0 Str (λ y k. (refl, k.0)) bytes (read_counted is_id_text bytes) x (λ y f. counted_read is_id_text bytes y fit f) h.1)
      | inr f ↦ elim (chosen (eqb tag 1) (read_int bytes >>= integer) (no_item bytes) (Ok x) f.1) [
        | inl h ↦ at_tag ident_item IsTypedKey tag 1 bytes x.0 x.1 h.0
            (tagged_read int_item (FitsSigned w32) ident_item IsTypedKey 1 Int (λ y k. (refl, k)) bytes (read_int bytes) x (λ y g. int_read bytes y fit g) h.1)
        | inr bad ↦ absurd (let no : no_item bytes ≡ done x = bad.1 in cc)
      ]
    ]

pub ident_read : (bytes : List ℕ) (x : IdKey × List ℕ) → AreBytes bytes → read_ident bytes ≡ Ok x → HasRead ident_item IsTypedKey bytes x.0 x.1
ident_read [] x fit e = absurd cc
ident_read (tag ∷ bytes) x fit e = key_read tag bytes x (bytes-rest tag bytes fit) (at_start_ok (tag ∷ bytes) (read_key tag bytes) x e)

pub ident_left : (bytes : List ℕ) (left : ℕ) → read_ident bytes ≡ Err left → left ≡ length bytes
ident_left [] left e = cc
ident_left (tag ∷ bytes) left e = at_start_left (tag ∷ bytes) (read_key tag bytes) left e
