-- What a peer in memory tells after a read.
use Rattle.std.proofs.Common.{rules, zero, suc, zero-add, ◌≡◌, ℕ, ◌+◌, List, [], ◌∷◌, ◌++◌, take, drop, Option, Some, refl, ap, arith, drop-drop}
use Rattle.std.proofs.lemmas.List.{same_lists, places}
use Rattle.np_ports.specs.Peer.{Known, gave, asked}

-- what stands up to a later place is what stood up to the first, and a piece
split : (all : List ℕ) (given n : ℕ) → take (given + n) all ≡ take given all ++ take n (drop given all)
split [] given n = same_lists _ _ (search (rules, places)) (λ k d h. grind (arith, places))
split (x ∷ xs) zero n = rw zero-add refl
split (x ∷ xs) (suc g) n = let e : suc g + n ≡ suc (g + n) = omega arith in rw e (ap (λ (l : List ℕ). x ∷ l) (split xs g n))

-- a peer whose read is listed, with a piece more given
pub read_is : (t : Known) (starts : List (List (List ℕ))) (all taken buf : List ℕ) (given n : ℕ) (reads : List (ℕ × ℕ))
    → ◌≡◌ {A = Known} (record { starts = starts; given = take given all; taken = taken; left = drop given all; reads = reads }) (asked t)
    → take n buf ≡ take n (drop given all)
    → ◌≡◌ {A = Option Known} (Some (record { starts = starts; given = take (given + n) all; taken = taken; left = drop (given + n) all; reads = reads }))
    (Some (gave t n buf))
read_is t starts all taken buf given n reads listed same =
    rw (split all given n, ← same, ← drop-drop n given all)
    (ap (λ (k : Known). Some (record k { given = k.given ++ take n buf; left = drop n k.left })) listed)
