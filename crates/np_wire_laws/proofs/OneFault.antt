-- Bytes have one first fault at most, and those of a message have none.
use Rattle.std.proofs.Common.{◌≡◌, ◌⊎◌, inl, inr, ℕ, ◌+◌, ◌<◌, ◌≤◌, List, [], ◌++◌, length, take, refl, sym, ap, subst, ◌∙◌, arith}
use Rattle.std.proofs.lemmas.List.{take_at, append-nil, length-append}
use Rattle.np_message.specs.declared.wire.WireKind.{WireKind}
use Rattle.np_message.specs.declared.wire.WireKind.TheVariants.{Length, Item as ItemRule, Rest}
use Rattle.np_message.specs.declared.wire.WireError.{WireError}
use Rattle.np_message.specs.Message.{Message}
use Rattle.np_message.specs.Encoding.{body_of, encoding}
use Rattle.np_message.specs.Formats.{message_format}
use Rattle.np_message.specs.Faults.{Encodes, FaultAt, RestAt, HasLength, BreaksAt, IsFirstFault}
use Rattle.np_wire_laws.specs.Laws.{HasOneFirstFault, EncodingsHaveNoFault}
use Rattle.np_wire_laws.proofs.Agreement.{one_fault, encoded_no_fault, one_encoding}
use Rattle.np_wire_laws.proofs.Bodies.{body_is_encoding}
use Rattle.np_wire_laws.proofs.Sizes.{body_short}
use Rattle.np_wire_laws.proofs.Fronts.{field_is, has_length}

-- ---- the rule that a body breaks

-- what the format encodes breaks no rule
encoded_no_break : (kind : WireKind) (m : Message) (body : List ℕ) (k : ℕ) → Encodes message_format m body → BreaksAt kind body k → ⊥
encoded_no_break Length m body k is h = h
encoded_no_break ItemRule m body k is h =
    encoded_no_fault message_format m body [] k is (subst (λ (l : List ℕ). FaultAt message_format l k) (sym (append-nil body)) h)
encoded_no_break Rest m body k is h =
    h.more (sym (one_encoding message_format m h.says body h.items [] h.rest is h.encodes (append-nil body ∙ h.parts)).1)

not_both : (body : List ℕ) (j k : ℕ) → FaultAt message_format body j → RestAt message_format body k → ⊥
not_both body j k p q = encoded_no_fault message_format q.says q.items q.rest j q.encodes (subst (λ (l : List ℕ). FaultAt message_format l j) q.parts p)

one_rest : (body : List ℕ) (j k : ℕ) → RestAt message_format body j → RestAt message_format body k → j ≡ k
one_rest body j k p q =
    let same = one_encoding message_format p.says q.says p.items q.items p.rest q.rest p.encodes q.encodes (sym p.parts ∙ q.parts) in
    omega (arith, p.place, q.place, ap length p.parts, ap length q.parts, length-append p.items p.rest, length-append q.items q.rest, ap length same.1)

-- a body breaks one rule, at one place
one_break : (kind other : WireKind) (body : List ℕ) (j k : ℕ) → BreaksAt kind body j → BreaksAt other body k → (kind ≡ other) × (j ≡ k)
one_break Length other body j k p q = absurd p
one_break ItemRule Length body j k p q = absurd q
one_break ItemRule ItemRule body j k p q = (refl, one_fault message_format body j k p q)
one_break ItemRule Rest body j k p q = absurd (not_both body j k p q)
one_break Rest Length body j k p q = absurd q
one_break Rest ItemRule body j k p q = absurd (not_both body k j q p)
one_break Rest Rest body j k p q = (refl, one_rest body j k p q)

-- ---- the first fault

abbrev length_told : ℕ → ℕ → WireError
length_told at n = record { at = at; kind = Length; first = n; second = 32768 }

abbrev body_told : ℕ → ℕ → WireKind → ℕ → WireError
body_told at n kind place = record { at = at + 4 + place; kind = kind; first = at; second = n }

-- a body of the length that stands before it
same_body : (bytes a b x y : List ℕ) → HasLength bytes (length a) (a ++ x) → HasLength bytes (length b) (b ++ y) → a ≡ b
same_body bytes a b x y p q =
    let f = field_is bytes (length a) (a ++ x) p in
    let g = field_is bytes (length b) (b ++ y) q in
    sym (take_at a x (length a) refl) ∙ ap (λ (n : ℕ). take n (a ++ x)) (sym f.value_is ∙ g.value_is) ∙ ap (take (length b)) (sym f.behind_is ∙ g.behind_is) ∙ take_at b y (length b) refl

-- a length of a body isn't one that is refused
not_out : (bytes : List ℕ) (n k : ℕ) (x y : List ℕ) → HasLength bytes n x → HasLength bytes k y → 4 ≤ n → n ≤ 32768 → ((k < 4) ⊎ (32768 < k)) → ⊥
not_out bytes n k x y p q least most (inl low) = omega (arith, (field_is bytes n x p).value_is, (field_is bytes k y q).value_is)
not_out bytes n k x y p q least most (inr high) = omega (arith, (field_is bytes n x p).value_is, (field_is bytes k y q).value_is)

pub has_one_first_fault : HasOneFirstFault
has_one_first_fault at bytes d e (inl p) (inl q) =
    let same = sym (field_is bytes p.value p.behind p.begins).value_is ∙ (field_is bytes q.value q.behind q.begins).value_is in
    p.error ∙ ap (length_told at) same ∙ sym q.error
has_one_first_fault at bytes d e (inl p) (inr q) = absurd (not_out bytes (length q.body) p.value (q.body ++ q.behind) p.behind q.begins p.begins q.least q.most p.out)
has_one_first_fault at bytes d e (inr p) (inl q) = absurd (not_out bytes (length p.body) q.value (p.body ++ p.behind) q.behind p.begins q.begins p.least p.most q.out)
has_one_first_fault at bytes d e (inr p) (inr q) =
    let body = same_body bytes p.body q.body p.behind q.behind p.begins q.begins in
    let same = one_break p.kind q.kind q.body p.place q.place (subst (λ (l : List ℕ). BreaksAt p.kind l p.place) body p.breaks) q.breaks in
    p.error ∙ ap (λ (l : List ℕ). body_told at (length l) p.kind p.place) body
    ∙ ap (λ (kind : WireKind). body_told at (length q.body) kind p.place) same.0
    ∙ ap (body_told at (length q.body) q.kind) same.1
    ∙ sym q.error

pub encodings_have_no_fault : EncodingsHaveNoFault
encodings_have_no_fault at m rest e keeps typed fault = by_case (body_short m keeps typed) fault
  where
    by_case : (4 ≤ length (body_of m)) × (length (body_of m) ≤ 25894) → IsFirstFault at (encoding m ++ rest) e → ⊥
    by_case fits (inl h) = not_out (encoding m ++ rest) (length (body_of m)) h.value (body_of m ++ rest) h.behind (has_length m rest fits.1) h.begins fits.0 (omega (arith, fits.1)) h.out
    by_case fits (inr h) =
        let body = same_body (encoding m ++ rest) h.body (body_of m) h.behind rest h.begins (has_length m rest fits.1) in
        encoded_no_break h.kind m (body_of m) h.place (body_is_encoding m keeps typed) (subst (λ (l : List ℕ). BreaksAt h.kind l h.place) body h.breaks)
