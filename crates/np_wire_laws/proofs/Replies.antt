-- The rows of the replies.
use Rattle.std.proofs.Common.{◌≡◌, ℕ, ℤ, List, [], ◌∷◌, length, refl, sym, ap, subst, ◌∙◌, arith}
use Rattle.std.specs.List.{flat_map}
use Rattle.np_values.specs.declared.error.NpError.{NpError}
use Rattle.np_values.specs.declared.value.Value.{Value}
use Rattle.np_idents.specs.declared.key.IdKey.{IdKey}
use Rattle.np_message.specs.declared.payload.Payload.{Payload}
use Rattle.np_message.specs.declared.payload.Payload.TheVariants.{True, Threw, Idents, Code, Number}
use Rattle.np_message.specs.Encoding.{items_of, counted_item, ident_item, value_item}
use Rattle.np_message.specs.Rules.{KeepsKind, IsTypedBody}
use Rattle.np_message.specs.Items.{IdentItem}
use Rattle.np_message.specs.Formats.{Format, Says, true_format, threw_format, idents_format, code_format, number_format}
use Rattle.np_message.specs.Faults.{Encodes}
use Rattle.np_wire_laws.proofs.Lists.{first, last, on, ended, many_of, many_last}
use Rattle.np_wire_laws.proofs.Rows.{Row, row_of, bounds, within}

-- ---- what is encoded

-- a reply without items
pub empty_row : (said p : Payload) (kind : ℕ) (bytes : List ℕ) → Row kind [] said → Encodes (Says said) p bytes → Row kind bytes p
empty_row said p kind bytes h (same, none) = subst (λ (l : List ℕ). Row kind l p) (sym none) (row_of kind [] said p same h)

pub true_row : (p : Payload) (bytes : List ℕ) → Encodes true_format p bytes → Row 65 bytes p
true_row p bytes (value, r, b, (same, none)) =
    row_of 65 bytes (True value) p same (record { kind_is = refl; parts = ended (value_item value) r bytes b.parts none; keeps = b.is_of.0; typed = b.is_of.1 })

pub threw_row : (p : Payload) (bytes : List ℕ) → Encodes threw_format p bytes → Row 67 bytes p
threw_row p bytes (text, r, b, (same, none)) =
    row_of 67 bytes (Threw text) p same (record { kind_is = refl; parts = ended (counted_item text) r bytes b.parts none; keeps = tt; typed = b.is_of })

pub idents_row : (p : Payload) (bytes : List ℕ) → Encodes idents_format p bytes → Row 68 bytes p
idents_row p bytes (count, r, b, h) =
    let few = (bounds 0 64 count b.is_of).1 in
    let some = many_of IdentItem count (λ keys. let f : Format Payload = Says (Idents keys) in f) p r h in
    let items = flat_map ident_item some.xs in
    let behind : r ≡ items = ended items some.rest r some.parts some.encodes.1 in
    row_of 68 bytes (Idents some.xs) p some.encodes.0 (record {
      kind_is = refl;
      parts = on b behind ∙ ap (λ (k : ℕ). k ∷ items) (sym some.counted);
      keeps = omega (arith, few, some.counted);
      typed = some.each;
    })

pub code_row : (p : Payload) (bytes : List ℕ) → Encodes code_format p bytes → Row 69 bytes p
code_row p bytes (error, r, b, (same, none)) = row_of 69 bytes (Code error) p same (record { kind_is = refl; parts = on b none; keeps = tt; typed = tt })

pub number_row : (p : Payload) (bytes : List ℕ) → Encodes number_format p bytes → Row 70 bytes p
number_row p bytes (n, r, b, (same, none)) = row_of 70 bytes (Number n) p same (record { kind_is = refl; parts = on b none; keeps = tt; typed = b.is_of })

-- ---- and back

pub true_encodes : (value : Value) → KeepsKind (True value) → IsTypedBody (True value) → Encodes true_format (True value) (items_of (True value))
true_encodes value keeps typed = (value, [], last (keeps, typed), (refl, refl))

pub threw_encodes : (text : List ℕ) → IsTypedBody (Threw text) → Encodes threw_format (Threw text) (items_of (Threw text))
threw_encodes text typed = (text, [], last typed, (refl, refl))

pub idents_encodes : (keys : List IdKey) → KeepsKind (Idents keys) → IsTypedBody (Idents keys) → Encodes idents_format (Idents keys) (items_of (Idents keys))
idents_encodes keys keeps typed =
    let few = within 0 64 (length keys) (omega arith) keeps in
    (length keys, _, first few, many_last IdentItem keys (λ some. Says (Idents some)) (Idents keys) typed (refl, refl))

pub code_encodes : (error : NpError) → Encodes code_format (Code error) (items_of (Code error))
code_encodes error = (error, [], first tt, (refl, refl))

pub number_encodes : (n : ℤ) → IsTypedBody (Number n) → Encodes number_format (Number n) (items_of (Number n))
number_encodes n typed = (n, [], first typed, (refl, refl))
