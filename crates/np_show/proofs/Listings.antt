-- Listings of bytes.
use Rattle.std.proofs.Common.{◌≡◌, ◌+◌, ◌≤◌, ℕ, zero, suc, List, [], ◌∷◌, ◌++◌, length, refl, ap, sym, ◌∙◌, subst, arith, append_assoc}
use Rattle.np_message.specs.Message.{Message}
use Rattle.np_message.specs.declared.wire.WireError.{WireError}
use Rattle.np_message.specs.Encoding.{encoding}
use Rattle.np_message.specs.Decoding.{Front, Partial, Whole, Bad, front}
use Rattle.np_model.specs.Refused.{refusal_of}
use Rattle.np_show.specs.Listing.{Left, Refused, Listing, behind, message_line, listing_of, listing_within, listing}
use Rattle.np_show.specs.Taking.{Lists}
use Rattle.np_show.proofs.Fronts.{whole-more, whole-left, empty-front}

-- ---- enough rounds

nothing : (n at : ℕ) → listing_within n at [] ≡ record { lines = []; tail = Left 0 }
nothing zero at = refl
nothing (suc n) at = ap (λ (f : Front). listing_of (listing_within n) at [] f) (empty-front at)

no-bytes : (bytes : List ℕ) → length bytes ≤ 0 → bytes ≡ []
no-bytes [] less = refl
no-bytes (b ∷ bs) less = absurd (omega (arith, less))

-- both go on as the same behind a message
goes-on : (n k at : ℕ) (bytes : List ℕ) (f : Front) → ((m : Message) (rest : List ℕ) → f ≡ Whole m rest → listing_within n (at + length (encoding m)) rest ≡ listing_within k (at + length (encoding m)) rest)
    → listing_of (listing_within n) at bytes f ≡ listing_of (listing_within k) at bytes f
goes-on n k at bytes Partial same = refl
goes-on n k at bytes (Whole m rest) same = ap (λ (l : Listing). behind (message_line at m) l) (same m rest refl)
goes-on n k at bytes (Bad e) same = refl

enough : (n k at : ℕ) (bytes : List ℕ) → length bytes ≤ n → length bytes ≤ k → listing_within n at bytes ≡ listing_within k at bytes
enough zero k at bytes less few = let e = no-bytes bytes less in subst (λ (l : List ℕ). listing_within zero at l ≡ listing_within k at l) (sym e) (sym (nothing k at))
enough (suc n) zero at bytes less few = let e = no-bytes bytes few in subst (λ (l : List ℕ). listing_within (suc n) at l ≡ listing_within zero at l) (sym e) (nothing (suc n) at)
enough (suc n) (suc k) at bytes less few =
    goes-on n k at bytes (front at bytes) (λ m rest is. let w = whole-left at bytes m rest is in enough n k (at + length (encoding m)) rest (omega (arith, less, w)) (omega (arith, few, w)))

-- ---- a listing, by what stands at the front

listing-front : (at : ℕ) (bytes : List ℕ) → listing at bytes ≡ listing_of (listing_within (length bytes)) at bytes (front at bytes)
unfolding listing
listing-front at bytes = enough (length bytes) (suc (length bytes)) at bytes (omega arith) (omega arith)

pub partial-listing : (at : ℕ) (bytes : List ℕ) → front at bytes ≡ Partial → listing at bytes ≡ record { lines = []; tail = Left (length bytes) }
partial-listing at bytes is = listing-front at bytes ∙ ap (λ (f : Front). listing_of (listing_within (length bytes)) at bytes f) is

pub whole-listing : (at : ℕ) (bytes : List ℕ) (m : Message) (rest : List ℕ) → front at bytes ≡ Whole m rest → listing at bytes ≡ behind (message_line at m) (listing (at + length (encoding m)) rest)
unfolding listing
whole-listing at bytes m rest is =
    let w = whole-left at bytes m rest is in
    listing-front at bytes ∙ ap (λ (f : Front). listing_of (listing_within (length bytes)) at bytes f) is
    ∙ ap (λ (l : Listing). behind (message_line at m) l) (enough (length bytes) (length rest) (at + length (encoding m)) rest (omega (arith, w)) (omega arith))

pub bad-listing : (at : ℕ) (bytes : List ℕ) (e : WireError) → front at bytes ≡ Bad e → listing at bytes ≡ record { lines = []; tail = Refused (refusal_of e) }
bad-listing at bytes e is = listing-front at bytes ∙ ap (λ (f : Front). listing_of (listing_within (length bytes)) at bytes f) is

-- ---- lines that were listed, whatever follows

pub behind-behind : (x y : List ℕ) (l : Listing) → behind x (behind y l) ≡ behind (x ++ y) l
behind-behind x y l = ap (λ (lines : List ℕ). record { lines = lines; tail = l.tail }) (sym (append_assoc x y l.lines))

pub lists-same : (at : ℕ) (left : List ℕ) → Lists at left [] at left
lists-same at left more = refl

pub lists-message : (a : ℕ) (old lines : List ℕ) (b : ℕ) (new : List ℕ) (m : Message) (rest : List ℕ) → Lists a old lines b new → front b new ≡ Whole m rest → Lists a old (lines ++ message_line b m) (b + length (encoding m)) rest
lists-message a old lines b new m rest lists is more =
    lists more ∙ ap (λ (l : Listing). behind lines l) (whole-listing b (new ++ more) m (rest ++ more) (whole-more b new more m rest is))
    ∙ behind-behind lines (message_line b m) (listing (b + length (encoding m)) (rest ++ more))

pub lists-then : (a : ℕ) (old x : List ℕ) (b : ℕ) (new piece y : List ℕ) (c : ℕ) (left : List ℕ) → Lists a old x b new → Lists b (new ++ piece) y c left → Lists a (old ++ piece) (x ++ y) c left
lists-then a old x b new piece y c left first second more =
    ap (λ (l : List ℕ). listing a l) (append_assoc old piece more) ∙ first (piece ++ more)
    ∙ ap (λ (l : List ℕ). behind x (listing b l)) (sym (append_assoc new piece more)) ∙ ap (λ (l : Listing). behind x l) (second more)
    ∙ behind-behind x y (listing c (left ++ more))
