-- What a sink took.
use Rattle.std.proofs.Common.{◌≡◌, ◌<◌, ℕ, List, [], ◌++◌, length, Option, Some, ap, sym, ◌∙◌, refl, append_assoc, append-nil, arith}
use Rattle.std.proofs.lemmas.List.{length-append}
use Rattle.np_end_stops.specs.Causes.{Adds, AddsPart}
use Rattle.np_show.specs.Taking.{AddsFront}

pub adds-nothing : (taken : Option (List ℕ)) → Adds taken taken []
adds-nothing taken t e = e ∙ ap (λ (l : List ℕ). Some l) (sym (append-nil t))

pub adds-then : (a b c : Option (List ℕ)) (x y : List ℕ) → Adds a b x → Adds b c y → Adds a c (x ++ y)
adds-then a b c x y first second t e = second (t ++ x) (first t e) ∙ ap (λ (l : List ℕ). Some l) (append_assoc t x y)

pub adds-then-part : (a b c : Option (List ℕ)) (x y : List ℕ) → Adds a b x → AddsPart b c y → AddsPart a c (x ++ y)
adds-then-part a b c x y first second t e =
    let p = second (t ++ x) (first t e) in
    (x ++ p.0, p.1, ap (λ (l : List ℕ). x ++ l) p.2 ∙ sym (append_assoc x p.0 p.1), p.3 ∙ ap (λ (l : List ℕ). Some l) (append_assoc t x p.0), p.4)

pub adds-then-front : (a b c : Option (List ℕ)) (x y more : List ℕ) → Adds a b x → AddsFront b c y → AddsFront a c ((x ++ y) ++ more)
adds-then-front a b c x y more first second t e =
    let p = second (t ++ x) (first t e) in
    let parts : (x ++ y) ++ more ≡ (x ++ p.0) ++ (p.1 ++ more) = ap (λ (l : List ℕ). (x ++ l) ++ more) p.2 ∙ simp append_assoc in
    (x ++ p.0, p.1 ++ more, parts, p.3 ∙ ap (λ (l : List ℕ). Some l) (append_assoc t x p.0))

pub front-adds : (a b : Option (List ℕ)) (x more : List ℕ) → Adds a b x → AddsFront a b (x ++ more)
front-adds a b x more adds t e = (x, more, refl, adds t e)

pub front-part : (a b : Option (List ℕ)) (x more : List ℕ) → 0 < length more → AddsFront a b x → AddsPart a b (x ++ more)
front-part a b x more some front t e =
    let p = front t e in
    let n = length-append p.1 more in
    (p.0, p.1 ++ more, ap (λ (l : List ℕ). l ++ more) p.2 ∙ append_assoc p.0 p.1 more, p.3, omega (arith, n, some))
