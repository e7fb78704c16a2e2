-- The greatest of a list, taken from the front.
use Rattle.std.proofs.Common.{◌≡◌, ◌<◌, ◌+◌, ℕ, List, [], ◌∷◌, ◌++◌, length, map, take, get_or, max, arith, ap, add-one, ◌∙◌}
use Rattle.std.proofs.Math.Seq.{take-suc}
use Rattle.std.proofs.lemmas.List.{map-append}
use Rattle.np_model_scripts.specs.Levels.{greatest}

greatest_append : (ns ms : List ℕ) → greatest (ns ++ ms) ≡ max (greatest ns) (greatest ms)
greatest_append [] ms = omega arith
greatest_append (n ∷ ns) ms = let e = greatest_append ns ms in omega (arith, e)

-- one more item
taken : {X : Type 0} (f : X → ℕ) (xs : List X) (i : ℕ) (x : X) → i < length xs → x ≡ get_or xs i x
    → greatest (map f (take (i + 1) xs)) ≡ max (greatest (map f (take i xs))) (f x)
taken f xs i x h e =
    let front : take (i + 1) xs ≡ take i xs ++ get_or xs i x ∷ [] = ap (λ (n : ℕ). take n xs) (add-one i) ∙ take-suc xs i x h in
    let mapped : map f (take (i + 1) xs) ≡ map f (take i xs) ++ f (get_or xs i x) ∷ [] = ap (map f) front ∙ map-append f (take i xs) (get_or xs i x ∷ []) in
    let all : greatest (map f (take (i + 1) xs)) ≡ max (greatest (map f (take i xs))) (max (f (get_or xs i x)) 0) = ap greatest mapped ∙ greatest_append (map f (take i xs)) (f (get_or xs i x) ∷ []) in
    let same : f x ≡ f (get_or xs i x) = ap f e in
    omega (arith, all, same)

-- with one more item the greatest so far and its own
pub one_more : {X : Type 0} (f : X → ℕ) (least level value new : ℕ) (xs : List X) (i : ℕ) (x : X) → i < length xs → x ≡ get_or xs i x → value ≡ f x → new ≡ max level value
    → level ≡ max least (greatest (map f (take i xs))) → new ≡ max least (greatest (map f (take (i + 1) xs)))
one_more f least level value new xs i x h e is now before =
    let step = taken f xs i x h e in
    omega (arith, step, is, now, before)
