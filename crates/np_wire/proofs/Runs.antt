-- Any calls of a feed, one after another.
use Rattle.std.proofs.Common.{◌≡◌, ℕ, ◌+◌, List, [], ◌∷◌, ◌++◌, length, ap, sym, ◌∙◌, append_assoc, append-nil, arith}
use Rattle.std.proofs.lemmas.List.{length-append}
use Rattle.np_message.specs.Encoding.{encoding, encodings}
use Rattle.np_wire.specs.Feed.{Fed}
use Rattle.np_wire.specs.FeedRuns.{FeedCall, Pushed, Gave, Unchanged, Leads, pushed, given, GivesWhatWasPushed}

-- what a feed has and what is pushed are the messages given, and what it has then
pub bytes-given : (old : Fed) (calls : List FeedCall) (new : Fed) → Leads old calls new → old.left ++ pushed calls ≡ encodings (given calls) ++ new.left
bytes-given old [] new same = append-nil old.left ∙ ap (λ (f : Fed). f.left) same
bytes-given old (Pushed bytes ∷ calls) new leads = sym (append_assoc old.left bytes (pushed calls)) ∙ bytes-given (record old { left = old.left ++ bytes }) calls new leads
bytes-given old (Gave m ∷ calls) new leads =
    let next = leads.0 in
    ap (λ (l : List ℕ). l ++ pushed calls) leads.1.parts
    ∙ append_assoc (encoding m) next.left (pushed calls)
    ∙ ap (λ (l : List ℕ). encoding m ++ l) (bytes-given next calls new leads.3)
    ∙ sym (append_assoc (encoding m) (encodings (given calls)) new.left)
bytes-given old (Unchanged ∷ calls) new leads = bytes-given old calls new leads

-- nothing is lost from the count
pub count-kept : (old : Fed) (calls : List FeedCall) (new : Fed) → Leads old calls new → new.consumed + length new.left ≡ old.consumed + length old.left + length (pushed calls)
count-kept old [] new same = let e : new.consumed + length new.left ≡ old.consumed + length old.left = sym (ap (λ (f : Fed). f.consumed + length f.left) same) in omega (arith, e)
count-kept old (Pushed bytes ∷ calls) new leads =
    let rest = count-kept (record old { left = old.left ++ bytes }) calls new leads in
    let more = length-append old.left bytes in
    let all = length-append bytes (pushed calls) in
    omega (arith, rest, more, all)
count-kept old (Gave m ∷ calls) new leads = let rest = count-kept leads.0 calls new leads.3 in let kept = leads.2 in omega (arith, rest, kept)
count-kept old (Unchanged ∷ calls) new leads = count-kept old calls new leads

pub gives : GivesWhatWasPushed
gives calls new leads =
    let bytes = bytes-given (record { consumed = 0; left = [] }) calls new leads in
    let count = count-kept (record { consumed = 0; left = [] }) calls new leads in
    let sizes : length (pushed calls) ≡ length (encodings (given calls)) + length new.left = ap length bytes ∙ length-append (encodings (given calls)) new.left in
    (bytes, omega (arith, count, sizes))
