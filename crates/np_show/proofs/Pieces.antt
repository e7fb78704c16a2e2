-- A file that is read piece by piece.
use Rattle.std.proofs.Common.{◌≡◌, ◌+◌, ◌-◌, ◌^◌, ◌<◌, ◌≤◌, ℕ, true, false, nat_lt, List, [], ◌++◌, length, take, drop, Option, Some, None, ap, sym, ◌∙◌, refl, subst, append-nil, arith}
use Rattle.std.proofs.Math.Seq.{take-add}
use Rattle.std.proofs.lemmas.List.{length-drop, length-take, length-take-le, take_all, take-append-le}
use Rattle.np_message.specs.declared.wire.WireError.{WireError}
use Rattle.np_message.specs.Decoding.{Partial, Bad, front}
use Rattle.np_model.specs.Refused.{refusal_of}
use Rattle.np_wire.specs.Feed.{Fed}
use Rattle.np_end_stops.specs.Causes.{Adds}
use Rattle.np_show.specs.declared.outcome.Outcome.TheVariants as outcomes
use Rattle.np_show.specs.Listing.{Tail, Left, Refused, Listing, behind, listing, file_listing, tail_of}
use Rattle.np_show.specs.Taking.{Lists, TakesLines, PrintsPiece, PrintsPieceFront, AddsFront, ComesTo, StandsAt}
use Rattle.np_show.proofs.Fronts.{bad-more}
use Rattle.np_show.proofs.Listings.{partial-listing, bad-listing, lists-same, lists-then}
use Rattle.np_show.proofs.Printing.{adds-nothing, adds-then, adds-then-front, front-adds}
use Rattle.np_model.specs.Alone.{too_many_bytes}

-- so many bytes of the content were read, and the lines of their whole messages printed
pub record Stands (content : List ℕ) (total : ℕ) (fed : Fed) (taken0 taken1 : Option (List ℕ)) : Type 0 where
  pub printed : List ℕ
  pub adds : Adds taken0 taken1 printed
  pub lists : Lists 0 (take total content) printed fed.consumed fed.left
  pub within : total ≤ length content

pub nothing-read : (content : List ℕ) (taken : Option (List ℕ)) → Stands content 0 (record { consumed = 0; left = [] }) taken taken
nothing-read content taken = record { printed = []; adds = adds-nothing taken; lists = lists-same 0 []; within = omega arith }

read-within : (content buf : List ℕ) (total n : ℕ) → total ≤ length content → n ≤ length buf → take n buf ≡ take n (drop total content) → total + n ≤ length content
read-within content buf total n within short same =
    let size = sym (length-take-le n buf short) ∙ ap (λ (l : List ℕ). length l) same ∙ length-take n (drop total content) in
    let left = length-drop total content in
    grind (arith, size, left, within)

-- the piece is the front of the buffer, of which a part was lent
front-of : (buf after : List ℕ) (n : ℕ) → n ≤ length buf → take n (buf ++ after) ≡ take n buf
front-of buf after n short = take-append-le n buf after short

pub piece-length : (buf after : List ℕ) (n : ℕ) → n ≤ length buf → length (take n (buf ++ after)) ≡ n
piece-length buf after n short = ap (λ (l : List ℕ). length l) (front-of buf after n short) ∙ length-take-le n buf short

pub piece-read : (content buf after : List ℕ) (total n : ℕ) (old new : Fed) (taken0 taken1 taken2 : Option (List ℕ)) → Stands content total old taken0 taken1 → n ≤ length buf → take n buf ≡ take n (drop total content)
    → PrintsPiece (take n (buf ++ after)) old new taken1 taken2 → Stands content (total + n) new taken0 taken2
piece-read content buf after total n old new taken0 taken1 taken2 stands short same prints =
    let here = front-of buf after n short in
    let got : take (total + n) content ≡ take total content ++ take n buf = take-add total n content ∙ ap (λ (l : List ℕ). take total content ++ l) (sym same) in
    record {
      printed = stands.printed ++ prints.added;
      adds = adds-then taken0 taken1 taken2 stands.printed prints.added stands.adds prints.adds;
      lists = subst (λ (l : List ℕ). Lists 0 l (stands.printed ++ prints.added) new.consumed new.left) (sym got) (lists-then 0 (take total content) stands.printed old.consumed old.left (take n buf) prints.added new.consumed new.left stands.lists (subst (λ (l : List ℕ). Lists old.consumed (old.left ++ l) prints.added new.consumed new.left) here prints.lists));
      within = read-within content buf total n stands.within short same;
    }

-- ---- what is still to come

-- the bytes of the file that are to be read
abbrev pub unread : List ℕ → ℕ → List ℕ
unread content total = take (2 ^ 40 - total) (drop total content)

parts : (content : List ℕ) (total : ℕ) → total ≤ 2 ^ 40 → take (2 ^ 40) content ≡ take total content ++ unread content total
parts content total low = let e : 2 ^ 40 ≡ total + (2 ^ 40 - total) = omega (arith, low) in ap (λ (n : ℕ). take n content) e ∙ take-add total (2 ^ 40 - total) content

whole : (content : List ℕ) (total : ℕ) (fed : Fed) (taken0 taken1 : Option (List ℕ)) (s : Stands content total fed taken0 taken1) → total ≤ 2 ^ 40 → listing 0 (take (2 ^ 40) content) ≡ behind s.printed (listing fed.consumed (fed.left ++ unread content total))
whole content total fed taken0 taken1 s low = ap (λ (l : List ℕ). listing 0 l) (parts content total low) ∙ s.lists (unread content total)

pub file-lines : (content : List ℕ) (l : Listing) → listing 0 (take (2 ^ 40) content) ≡ l → (file_listing content).lines ≡ l.lines
unfolding file_listing
file-lines content l is = ap (λ (x : Listing). x.lines) is

pub file-tail : (content : List ℕ) (l : Listing) → listing 0 (take (2 ^ 40) content) ≡ l → (file_listing content).tail ≡ tail_of (length content) l.tail
unfolding file_listing
file-tail content l is = ap (λ (x : Listing). tail_of (length content) x.tail) is

-- ---- the ends

-- these lines are those of the file, where nothing is listed behind them
adds-all : (content : List ℕ) (t : Tail) (printed : List ℕ) (taken0 taken1 : Option (List ℕ)) → listing 0 (take (2 ^ 40) content) ≡ behind printed (record { lines = []; tail = t }) → Adds taken0 taken1 printed → Adds taken0 taken1 (file_listing content).lines
adds-all content t printed taken0 taken1 is adds =
    subst (λ (l : List ℕ). Adds taken0 taken1 l) (sym (file-lines content (behind printed (record { lines = []; tail = t })) is ∙ append-nil printed)) adds

pub short-tail : (size n : ℕ) → size < 2 ^ 40 → tail_of size (Left n) ≡ Left n
short-tail size n short = let e : nat_lt size (2 ^ 40) ≡ true = grind (arith, short) in rw e refl

pub long-tail : (size n : ℕ) → 2 ^ 40 ≤ size → tail_of size (Left n) ≡ Refused too_many_bytes
long-tail size n long = let e : nat_lt size (2 ^ 40) ≡ false = grind (arith, long) in rw e refl

waiting : (content : List ℕ) (total : ℕ) (fed : Fed) (taken0 taken1 : Option (List ℕ)) (s : Stands content total fed taken0 taken1) → front fed.consumed fed.left ≡ Partial → take (2 ^ 40) content ≡ take total content
    → listing 0 (take (2 ^ 40) content) ≡ behind s.printed (record { lines = []; tail = Left (length fed.left) })
waiting content total fed taken0 taken1 s waits all =
    let same : listing fed.consumed (fed.left ++ []) ≡ record { lines = []; tail = Left (length fed.left) } = ap (λ (l : List ℕ). listing fed.consumed l) (append-nil fed.left) ∙ partial-listing fed.consumed fed.left waits in
    ap (λ (l : List ℕ). listing 0 l) (all ∙ sym (append-nil (take total content))) ∙ s.lists [] ∙ ap (λ (l : Listing). behind s.printed l) same

pub file-ended : (content : List ℕ) (total : ℕ) (fed : Fed) (taken0 taken1 : Option (List ℕ)) → Stands content total fed taken0 taken1 → front fed.consumed fed.left ≡ Partial → fed.consumed + length fed.left ≡ total → total < 2 ^ 40 → length content ≤ total
    → ComesTo content taken0 taken1 (outcomes.Ended (total - fed.consumed))
file-ended content total fed taken0 taken1 s waits count low end =
    let all : take (2 ^ 40) content ≡ take total content = take_all (2 ^ 40) content (omega (arith, low, end)) ∙ sym (take_all total content end) in
    let is = waiting content total fed taken0 taken1 s waits all in
    let left : length fed.left ≡ total - fed.consumed = omega (arith, count) in (
      file-tail content (behind s.printed (record { lines = []; tail = Left (length fed.left) })) is ∙ short-tail (length content) (length fed.left) (omega (arith, low, end)) ∙ ap Left left,
      adds-all content (Left (length fed.left)) s.printed taken0 taken1 is s.adds,
    )

pub file-too-long : (content : List ℕ) (total : ℕ) (fed : Fed) (taken0 taken1 : Option (List ℕ)) → Stands content total fed taken0 taken1 → front fed.consumed fed.left ≡ Partial → total ≡ 2 ^ 40 → ComesTo content taken0 taken1 (outcomes.Refused too_many_bytes)
file-too-long content total fed taken0 taken1 s waits limit =
    let is = waiting content total fed taken0 taken1 s waits (ap (λ (n : ℕ). take n content) (sym limit)) in
    let w = s.within in (
      file-tail content (behind s.printed (record { lines = []; tail = Left (length fed.left) })) is ∙ long-tail (length content) (length fed.left) (omega (arith, w, limit)),
      adds-all content (Left (length fed.left)) s.printed taken0 taken1 is s.adds,
    )

pub file-refused : (content : List ℕ) (total : ℕ) (fed : Fed) (taken0 taken1 : Option (List ℕ)) (e : WireError) → Stands content total fed taken0 taken1 → front fed.consumed fed.left ≡ Bad e → total ≤ 2 ^ 40 → ComesTo content taken0 taken1 (outcomes.Refused (refusal_of e))
file-refused content total fed taken0 taken1 e s bad low =
    let is = whole content total fed taken0 taken1 s low ∙ ap (λ (l : Listing). behind s.printed l) (bad-listing fed.consumed (fed.left ++ unread content total) e (bad-more fed.consumed fed.left (unread content total) e bad)) in (
      file-tail content (behind s.printed (record { lines = []; tail = Refused (refusal_of e) })) is,
      adds-all content (Refused (refusal_of e)) s.printed taken0 taken1 is s.adds,
    )

pub file-failed : (content : List ℕ) (total : ℕ) (fed : Fed) (taken0 taken1 : Option (List ℕ)) → Stands content total fed taken0 taken1 → front fed.consumed fed.left ≡ Partial → total ≤ 2 ^ 40 → ComesTo content taken0 taken1 outcomes.FileFailed
file-failed content total fed taken0 taken1 s waits low =
    let same : listing fed.consumed (fed.left ++ []) ≡ record { lines = []; tail = Left (length fed.left) } = ap (λ (l : List ℕ). listing fed.consumed l) (append-nil fed.left) ∙ partial-listing fed.consumed fed.left waits in
    let first : (listing 0 (take total content)).lines ≡ s.printed = ap (λ (l : List ℕ). (listing 0 l).lines) (sym (append-nil (take total content))) ∙ ap (λ (l : Listing). l.lines) (s.lists [] ∙ ap (λ (l : Listing). behind s.printed l) same) ∙ append-nil s.printed in
    let others = (listing fed.consumed (fed.left ++ unread content total)).lines in
    (total, others, file-lines content _ (whole content total fed taken0 taken1 s low) ∙ ap (λ (l : List ℕ). l ++ others) (sym first), subst (λ (l : List ℕ). Adds taken0 taken1 l) (sym first) s.adds)

pub stopped-between : (content : List ℕ) (total : ℕ) (fed : Fed) (taken0 taken1 : Option (List ℕ)) → Stands content total fed taken0 taken1 → total ≤ 2 ^ 40 → AddsFront taken0 taken1 (file_listing content).lines
stopped-between content total fed taken0 taken1 s low =
    subst (λ (l : List ℕ). AddsFront taken0 taken1 l) (sym (file-lines content _ (whole content total fed taken0 taken1 s low))) (front-adds taken0 taken1 s.printed (listing fed.consumed (fed.left ++ unread content total)).lines s.adds)

pub stopped-within : (content buf after : List ℕ) (total n : ℕ) (fed : Fed) (taken0 taken1 taken2 : Option (List ℕ)) → Stands content total fed taken0 taken1 → n ≤ length buf → take n buf ≡ take n (drop total content) → total + n ≤ 2 ^ 40
    → PrintsPieceFront (take n (buf ++ after)) fed taken1 taken2 → AddsFront taken0 taken2 (file_listing content).lines
stopped-within content buf after total n fed taken0 taken1 taken2 s short same low prints =
    let here = front-of buf after n short in
    let got : take (total + n) content ≡ take total content ++ take n buf = take-add total n content ∙ ap (λ (l : List ℕ). take total content ++ l) (sym same) in
    let lists = lists-then 0 (take total content) s.printed fed.consumed fed.left (take n buf) prints.added prints.at prints.left s.lists (subst (λ (l : List ℕ). Lists fed.consumed (fed.left ++ l) prints.added prints.at prints.left) here prints.lists) in
    let is = ap (λ (l : List ℕ). listing 0 l) (parts content (total + n) low ∙ ap (λ (l : List ℕ). l ++ unread content (total + n)) got) ∙ lists (unread content (total + n)) in
    subst (λ (l : List ℕ). AddsFront taken0 taken2 l) (sym (file-lines content _ is)) (adds-then-front taken0 taken1 taken2 s.printed prints.added (listing prints.at (prints.left ++ unread content (total + n))).lines s.adds prints.adds)

-- ---- a piece

-- nothing of it was printed
pub nothing-front : (piece : List ℕ) (fed : Fed) (taken : Option (List ℕ)) → PrintsPieceFront piece fed taken taken
nothing-front piece fed taken = record {
  added = [];
  at = fed.consumed;
  left = fed.left ++ piece;
  adds = λ t e. ([], [], refl, e ∙ ap (λ (l : List ℕ). Some l) (sym (append-nil t)));
  lists = lists-same fed.consumed (fed.left ++ piece);
}

-- a front of its lines was printed
pub piece-front : (piece : List ℕ) (old pushed new : Fed) (lines0 lines1 bytes : List ℕ) (taken0 taken1 : Option (List ℕ)) → bytes ≡ lines1 → pushed ≡ record old { left = old.left ++ piece } → lines0 ≡ [] → TakesLines pushed new lines0 lines1
    → ((t : List ℕ) → taken0 ≡ Some t → (x : List ℕ) × (y : List ℕ) × (bytes ≡ x ++ y) × (taken1 ≡ Some (t ++ x)) × (0 < length y)) → PrintsPieceFront piece old taken0 taken1
piece-front piece old pushed new lines0 lines1 bytes taken0 taken1 lent push clear takes prints =
    let all : bytes ≡ takes.added = lent ∙ takes.appended ∙ ap (λ (l : List ℕ). l ++ takes.added) clear in
    record {
      added = takes.added;
      at = new.consumed;
      left = new.left;
      adds = λ t e. let p = prints t e in (p.0, p.1, sym all ∙ p.2, p.3);
      lists = subst (λ (f : Fed). Lists f.consumed f.left takes.added new.consumed new.left) push takes.lists;
    }

-- where no fault stands, a message is awaited
pub no-fault : (fed : Fed) (o : Option WireError) → o ≡ None → StandsAt fed o → front fed.consumed fed.left ≡ Partial
no-fault fed o is stands = subst (λ (x : Option WireError). StandsAt fed x) is stands
