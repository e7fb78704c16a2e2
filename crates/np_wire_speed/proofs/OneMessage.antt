-- What the bytes of one message are read as.
use Rattle.std.proofs.Common.{◌≡◌, ◌<◌, ◌≤◌, ◌+◌, ℕ, List, [], ◌++◌, length, ap, sym, ◌∙◌, subst, arith}
use Rattle.std.proofs.lemmas.List.{append-nil, length-append}
use Rattle.np_message.specs.declared.wire.WireError.{WireError}
use Rattle.np_message.specs.Message.{Message}
use Rattle.np_message.specs.Encoding.{encoding, body_of}
use Rattle.np_message.specs.Decoding.{front, Whole, Partial, Bad}
use Rattle.np_wire.specs.Feed.{IsEncoded}
use Rattle.np_wire_laws.specs.Laws.{EncodedIsReadAgain, NoEncodingBeginsAnother, MessagesFit}
use Rattle.np_wire_speed.specs.Work.{IsOneMessage, HasFront}

whole : EncodedIsReadAgain → (at : ℕ) (bytes : List ℕ) (one : IsOneMessage bytes) → front at bytes ≡ Whole one.0 []
whole law at bytes one = subst (λ (l : List ℕ). front at l ≡ Whole one.0 []) (append-nil (encoding one.0) ∙ sym one.3) (law at one.0 [] one.1 one.2)

pub is_not_partial : EncodedIsReadAgain → (at : ℕ) (bytes : List ℕ) → front at bytes ≡ Partial → IsOneMessage bytes → ⊥
is_not_partial law at bytes e one =
    let w = whole law at bytes one in
    cc

pub is_not_bad : EncodedIsReadAgain → (at : ℕ) (bytes : List ℕ) (e : WireError) → front at bytes ≡ Bad e → IsOneMessage bytes → ⊥
is_not_bad law at bytes error e one =
    let w = whole law at bytes one in
    cc

-- the one message is the one at the front
pub is_that_message : NoEncodingBeginsAnother → (bytes : List ℕ) (m : Message) → HasFront m bytes → IsOneMessage bytes → bytes ≡ encoding m
is_that_message law bytes m has one =
    let same = law one.0 m [] has.0 one.1 one.2 has.1.format has.1.typed (append-nil (encoding one.0) ∙ sym one.3 ∙ has.1.parts) in
    one.3 ∙ ap encoding same.0

pub is_short : MessagesFit → (bytes : List ℕ) → IsOneMessage bytes → length bytes ≤ 65536
unfolding encoding
is_short law bytes one =
    let n : length bytes ≡ length (encoding one.0) = ap length one.3 in
    omega (arith, length-append {A = ℕ}, n, (law one.0 one.1 one.2).1)

-- behind nothing that is left, the one message is there, and nothing stands behind it
pub is_not_partial_behind : EncodedIsReadAgain → (at : ℕ) (left bytes : List ℕ) → left ≡ [] → front at (left ++ bytes) ≡ Partial → IsOneMessage bytes → ⊥
is_not_partial_behind law at left bytes empty e one = is_not_partial law at bytes (subst (λ (l : List ℕ). front at (l ++ bytes) ≡ Partial) empty e) one

pub is_not_bad_behind : EncodedIsReadAgain → (at : ℕ) (left bytes : List ℕ) (error : WireError) → left ≡ [] → front at (left ++ bytes) ≡ Bad error → IsOneMessage bytes → ⊥
is_not_bad_behind law at left bytes error empty e one = is_not_bad law at bytes error (subst (λ (l : List ℕ). front at (l ++ bytes) ≡ Bad error) empty e) one

pub nothing_is_left : EncodedIsReadAgain → (at : ℕ) (left bytes new : List ℕ) (m : Message) → left ≡ [] → front at (left ++ bytes) ≡ Whole m new → IsOneMessage bytes → new ≡ []
nothing_is_left law at left bytes new m empty e one =
    let w = whole law at bytes one in
    let seen : front at bytes ≡ Whole m new = subst (λ (l : List ℕ). front at (l ++ bytes) ≡ Whole m new) empty e in
    cc
