-- The last lines of a listing.
use Rattle.std.proofs.Common.{◌≡◌, ◌≢◌, ◌<◌, ℕ, zero, suc, List, [], ◌∷◌, ◌++◌, length, take, Option, inl, inr, ap, sym, ◌∙◌, refl, subst, append_assoc, arith}
use Rattle.std.specs.Prelude.{decimal, codes}
use Rattle.np_end_stops.specs.Causes.{Adds, AddsPart}
use Rattle.std.proofs.lemmas.List.{length-append}
use Rattle.np_model.specs.declared.refusal.Refusal.{Refusal}
use Rattle.np_model.specs.Journal.{end_line, refused_line, rule_name}
use Rattle.np_show.specs.declared.outcome.Outcome.{Outcome}
use Rattle.np_show.specs.declared.outcome.Outcome.TheVariants.{Ended, Refused, FileFailed}
use Rattle.np_show.specs.Listing as listings
use Rattle.np_show.specs.Listing.{Tail, Left, listing, file_listing, rest_line, tail_lines, tail_status, shown_text, shown_status}
use Rattle.np_show.specs.Show.{IsPartText, IsDueText, IsShowStatus}
use Rattle.np_show.specs.Taking.{AddsFront, ComesTo, outcome_lines, outcome_status, FailedOnly}
use Rattle.np_show.proofs.Printing.{adds-then, adds-then-part, front-part}

-- no last line is empty
some-behind : (x y : List ℕ) → 0 < length y → 0 < length (x ++ y)
some-behind x y some = let n = length-append x y in omega (arith, n, some)

end-is-some : (status : ℕ) → 0 < length (end_line status)
end-is-some status = some-behind (codes "end " ++ decimal status) (10 ∷ []) (omega arith)

refused-is-some : (r : Refusal) → 0 < length (refused_line r)
refused-is-some r = some-behind (codes "end 7 at " ++ decimal r.at ++ codes " " ++ rule_name r.rule ++ codes " " ++ decimal r.first ++ codes " " ++ decimal r.second) (10 ∷ []) (omega arith)

tail-is-some : (t : Tail) → 0 < length (tail_lines t)
tail-is-some (Left n) = some-behind (rest_line n) (end_line 0) (end-is-some 0)
tail-is-some (listings.Refused r) = refused-is-some r

pub rest-part : (taken : Option (List ℕ)) (left : ℕ) → 0 < length (rest_line left ++ end_line 0)
rest-part taken left = some-behind (rest_line left) (end_line 0) (end-is-some 0)

-- all was printed
pub shows-all : (content : List ℕ) (a b c : Option (List ℕ)) (outcome : Outcome) (status : ℕ) → ComesTo content a b outcome → Adds b c (outcome_lines outcome) → status ≡ outcome_status outcome → status ≢ 4
    → (status ≡ shown_status content) × Adds a c (shown_text content)
shows-all content a b c (Ended n) status comes adds is not_4 =
    (is ∙ ap tail_status (sym comes.0), subst (λ (t : Tail). Adds a c ((file_listing content).lines ++ tail_lines t)) (sym comes.0) (adds-then a b c (file_listing content).lines (tail_lines (Left n)) comes.1 adds))
shows-all content a b c (Refused r) status comes adds is not_4 =
    (is ∙ ap tail_status (sym comes.0), subst (λ (t : Tail). Adds a c ((file_listing content).lines ++ tail_lines t)) (sym comes.0) (adds-then a b c (file_listing content).lines (tail_lines (listings.Refused r)) comes.1 adds))
shows-all content a b c FileFailed status comes adds is not_4 = absurd (not_4 is)

-- a part, where a read failed
pub shows-part : (content : List ℕ) (a b c : Option (List ℕ)) (outcome : Outcome) (status : ℕ) → ComesTo content a b outcome → Adds b c (outcome_lines outcome) → status ≡ outcome_status outcome → status ≡ 4
    → (text : List ℕ) × IsPartText content text × Adds a c text
shows-part content a b c (Ended n) status comes adds is four = absurd (let e = sym is ∙ four in omega (arith, e))
shows-part content a b c (Refused r) status comes adds is four = absurd (let e = sym is ∙ four in omega (arith, e))
shows-part content a b c FileFailed status comes adds is four =
    ((listing 0 (take comes.0 content)).lines ++ end_line 4, record { count = comes.0; others = comes.1; begins = comes.2; text_is = refl }, adds-then a b c (listing 0 (take comes.0 content)).lines (end_line 4) comes.3 adds)

-- it stopped in the last lines
pub cut-late : (content : List ℕ) (a b c : Option (List ℕ)) (P : Type 0) (outcome : Outcome) → ComesTo content a b outcome → AddsPart b c (outcome_lines outcome) → FailedOnly outcome P → (text : List ℕ) × IsDueText content P text × AddsPart a c text
cut-late content a b c P (Ended n) comes adds failed =
    (shown_text content, inl refl, subst (λ (t : Tail). AddsPart a c ((file_listing content).lines ++ tail_lines t)) (sym comes.0) (adds-then-part a b c (file_listing content).lines (tail_lines (Left n)) comes.1 adds))
cut-late content a b c P (Refused r) comes adds failed =
    (shown_text content, inl refl, subst (λ (t : Tail). AddsPart a c ((file_listing content).lines ++ tail_lines t)) (sym comes.0) (adds-then-part a b c (file_listing content).lines (tail_lines (listings.Refused r)) comes.1 adds))
cut-late content a b c P FileFailed comes adds failed =
    ((listing 0 (take comes.0 content)).lines ++ end_line 4, inr (record { count = comes.0; others = comes.1; begins = comes.2; text_is = refl }, failed), adds-then-part a b c (listing 0 (take comes.0 content)).lines (end_line 4) comes.3 adds)

-- it stopped in the lines of the messages
pub cut-early : (content : List ℕ) (a b : Option (List ℕ)) (P : Type 0) → AddsFront a b (file_listing content).lines → (text : List ℕ) × IsDueText content P text × AddsPart a b text
cut-early content a b P front = (shown_text content, inl refl, front-part a b (file_listing content).lines (tail_lines (file_listing content).tail) (tail-is-some (file_listing content).tail) front)

pub is-status : (outcome : Outcome) → IsShowStatus (outcome_status outcome)
is-status (Ended n) = inl refl
is-status (Refused r) = inr (inr refl)
is-status FileFailed = inr (inl refl)

pub failed-status : (outcome : Outcome) (P : Type 0) (status : ℕ) → FailedOnly outcome P → status ≡ outcome_status outcome → status ≡ 4 → P
failed-status (Ended n) P status failed is four = absurd (let e = sym is ∙ four in omega (arith, e))
failed-status (Refused r) P status failed is four = absurd (let e = sym is ∙ four in omega (arith, e))
failed-status FileFailed P status failed is four = failed

-- ---- the text of the rest

pub rest-end : (n : ℕ) → 0 < n → rest_line n ++ end_line 0 ≡ (codes "rest " ++ decimal n ++ 10 ∷ []) ++ end_line 0
rest-end zero some = absurd (omega (arith, some))
rest-end (suc n) some = refl

pub regrouped : (a b e z n : List ℕ) → (a ++ b ++ 10 ∷ []) ++ (e ++ z ++ n) ≡ a ++ (b ++ ((10 ∷ e) ++ (z ++ n)))
regrouped a b e z n = append_assoc (a ++ b) (10 ∷ []) (e ++ z ++ n) ∙ append_assoc a b (10 ∷ (e ++ z ++ n)) ∙ ap (λ (l : List ℕ). a ++ (b ++ 10 ∷ l)) (append_assoc e z n)
