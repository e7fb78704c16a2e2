-- Reads and writes of a list of values.
use Rattle.std.proofs.Common.{◌≡◌, ℕ, zero, suc, ◌+◌, ◌<◌, ◌≤◌, List, [], ◌∷◌, ◌++◌, length, get_or, take, refl, sym, ap, ◌∙◌, arith}
use Rattle.std.specs.Prelude.{reverse}
use Rattle.std.proofs.Math.ListN.{set}
use Rattle.std.proofs.lemmas.List.{take_more, take_all, set_at, reverse-append, length-take-le}
use Rattle.np_values.specs.declared.value.Value.{Value}
use Rattle.np_values.specs.declared.value.Value.TheVariants as values
use Rattle.np_machine.specs.Values.{read_at, put_at, old_at, voids}

pub old-past : (i : ℕ) (v : Value) (vs : List Value) → length vs ≤ i → v ≡ old_at i v vs
old-past i v [] l = refl
old-past zero v (u ∷ us) l = absurd (omega arith)
old-past (suc i) v (u ∷ us) l = old-past i v us (omega arith)

pub put-past : (i : ℕ) (v : Value) (vs : List Value) → length vs ≤ i → vs ≡ put_at i v vs
put-past i v [] l = refl
put-past zero v (u ∷ us) l = absurd (omega arith)
put-past (suc i) v (u ∷ us) l = ap (λ r. u ∷ r) (put-past i v us (omega arith))

pub read-past : (i : ℕ) (vs : List Value) → length vs ≤ i → values.Void ≡ read_at i vs
read-past i [] l = refl
read-past zero (u ∷ us) l = absurd (omega arith)
read-past (suc i) (u ∷ us) l = read-past i us (omega arith)

pub put-set : (i : ℕ) (v : Value) (vs : List Value) → set vs i v ≡ put_at i v vs
put-set i v [] = refl
put-set zero v (u ∷ us) = refl
put-set (suc i) v (u ∷ us) = ap (λ l. u ∷ l) (put-set i v us)

pub old-get : (i : ℕ) (v d : Value) (vs : List Value) → i < length vs → get_or vs i d ≡ old_at i v vs
old-get i v d [] l = absurd (omega arith)
old-get zero v d (u ∷ us) l = refl
old-get (suc i) v d (u ∷ us) l = old-get i v d us (omega arith)

pub read-get : (i : ℕ) (d : Value) (vs : List Value) → i < length vs → get_or vs i d ≡ read_at i vs
read-get i d [] l = absurd (omega arith)
read-get zero d (u ∷ us) l = refl
read-get (suc i) d (u ∷ us) l = read-get i d us (omega arith)

pub voids-push : (n : ℕ) → voids (suc n) ≡ voids n ++ values.Void ∷ []
voids-push zero = refl
voids-push (suc n) = ap (λ l. values.Void ∷ l) (voids-push n)

-- the last element is the first of the reversed list
last-splits : {A : Type 0} (xs : List A) (i n : ℕ) (e : A) → n ≡ length xs → n ≡ i + 1 → e ≡ get_or xs i e → xs ≡ take i xs ++ e ∷ []
last-splits xs i n e l m is = sym (take_all (i + 1) xs (omega arith)) ∙ take_more xs i e (omega arith) ∙ ap (λ t. take i xs ++ t ∷ []) (sym is)

pub top-is : {A : Type 0} (xs : List A) (i n : ℕ) (e : A) → n ≡ length xs → n ≡ i + 1 → e ≡ get_or xs i e → reverse xs ≡ e ∷ reverse (take i xs)
top-is xs i n e l m is = ap reverse (last-splits xs i n e l m is) ∙ reverse-append (take i xs) (e ∷ [])

pub top-set : {A : Type 0} (xs : List A) (i n : ℕ) (e w : A) → n ≡ length xs → n ≡ i + 1 → e ≡ get_or xs i e → reverse (set xs i w) ≡ w ∷ reverse (take i xs)
top-set xs i n e w l m is =
    ap (λ t. reverse (set t i w)) (last-splits xs i n e l m is) ∙ ap reverse (set_at (take i xs) e [] w i (length-take-le i xs (omega arith))) ∙ reverse-append (take i xs) (w ∷ [])
