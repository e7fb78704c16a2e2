-- The steps of the loops that read lists.
use Rattle.std.proofs.Common.{◌≡◌, ℕ, suc, ◌+◌, ◌-◌, ◌<◌, List, [], ◌∷◌, ◌++◌, Option, Some, Ok, Err, refl, sym, ap, ◌∙◌, append_assoc, arith}
use Rattle.np_values.specs.declared.range.Range.{Range}
use Rattle.np_proxy_release.specs.declared.release.Release.{Release}
use Rattle.np_message.specs.Items.{Item, Holds}
use Rattle.np_message.specs.Decoding.{◌>>=◌, Reading, read_item, read_release}
use Rattle.np_wire_decode.specs.Reading.{read_many, read_range, read_ranges, read_releases, with_front}

with_front_cons : {A : Type 0} (read : List A) (x : A) (others : Reading (List A)) → with_front (read ++ x ∷ []) others ≡ with_front read (others >>= (λ xs. Ok (x ∷ xs.0, xs.1)))
with_front_cons {A} read x (Ok others) = ap (λ (l : List A). let made : Reading (List A) = Ok (l, others.1) in made) (append_assoc read (x ∷ []) others.0)
with_front_cons read x (Err e) = refl

one_left : (n i : ℕ) → i < n → n - i ≡ suc (n - (i + 1))
one_left n i below = omega arith

pub many_step : (item : Item) (read : List (Holds item)) (n i : ℕ) (rest : List ℕ) (x : Holds item) (behind : List ℕ) → i < n → read_item item rest ≡ Ok (x, behind) → with_front (read ++ x ∷ []) (read_many item (n - (i + 1)) behind) ≡ with_front read (read_many item (n - i) rest)
many_step item read n i rest x behind below e =
    let k = n - (i + 1) in
    with_front_cons read x (read_many item k behind)
    ∙ ap (λ (r : Reading (Holds item)). with_front read (r >>= (λ y. read_many item k y.1 >>= (λ xs. Ok (y.0 ∷ xs.0, xs.1))))) (sym e)
    ∙ ap (λ (m : ℕ). with_front read (read_many item m rest)) (sym (one_left n i below))

pub ranges_step : (read : List Range) (n i : ℕ) (rest : List ℕ) (x : Range) (behind : List ℕ) → i < n → read_range rest ≡ Ok (x, behind) → with_front (read ++ x ∷ []) (read_ranges (n - (i + 1)) behind) ≡ with_front read (read_ranges (n - i) rest)
ranges_step read n i rest x behind below e =
    let k = n - (i + 1) in
    with_front_cons read x (read_ranges k behind)
    ∙ ap (λ (r : Reading Range). with_front read (r >>= (λ y. read_ranges k y.1 >>= (λ xs. Ok (y.0 ∷ xs.0, xs.1))))) (sym e)
    ∙ ap (λ (m : ℕ). with_front read (read_ranges m rest)) (sym (one_left n i below))

pub releases_step : (before : Option Release) (read : List Release) (n i : ℕ) (rest : List ℕ) (x : Release) (behind : List ℕ) → i < n → read_release before rest ≡ Ok (x, behind) → with_front (read ++ x ∷ []) (read_releases (Some x) (n - (i + 1)) behind) ≡ with_front read (read_releases before (n - i) rest)
releases_step before read n i rest x behind below e =
    let k = n - (i + 1) in
    with_front_cons read x (read_releases (Some x) k behind)
    ∙ ap (λ (r : Reading Release). with_front read (r >>= (λ y. read_releases (Some y.0) k y.1 >>= (λ xs. Ok (y.0 ∷ xs.0, xs.1))))) (sym e)
    ∙ ap (λ (m : ℕ). with_front read (read_releases before m rest)) (sym (one_left n i below))
