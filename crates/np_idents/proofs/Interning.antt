-- What inserting a key at the end of distinct keys does, in the words of Interns.
use Rattle.std.proofs.Common.{◌≡◌, ℕ, zero, suc, Bool, true, false, List, [], ◌∷◌, ◌++◌, length, Some, slice_get, refl, sym, ap, ◌∙◌, subst, true≢false, arith}
use Rattle.std.specs.List.{list_any, position_or_len, IsDistinct, AllByRecursion}
use Rattle.indexmap.specs.IndexSet.{insert_key}
use Rattle.np_idents.specs.declared.key.IdKey.{IdKey}
use Rattle.np_idents.specs.IdKey.{is_same_key, same_key_decides}
use Rattle.np_idents.specs.Idents.{HasKey, AreDistinct, Interns}

at_place : (P : IdKey → Type 0) (keys : List IdKey) (i : ℕ) (key : IdKey) → AllByRecursion P keys → slice_get keys i ≡ Some key → P key
at_place P [] i key all e = cc
at_place P (x ∷ xs) zero key all e = let same : x ≡ key = cc in subst P same all.0
at_place P (x ∷ xs) (suc i) key all e = at_place P xs i key all.1 e

differ : (x y : IdKey) → x ≡ y → is_same_key x y ≡ false → ⊥
differ x y e f = true≢false (sym ((same_key_decides x y).1 e) ∙ f)

one_place : (keys : List IdKey) → IsDistinct is_same_key keys → (i j : ℕ) (key : IdKey) → slice_get keys i ≡ Some key → slice_get keys j ≡ Some key → i ≡ j
unfolding IsDistinct
one_place [] d i j key p q = cc
one_place (x ∷ xs) d zero zero key p q = refl
one_place (x ∷ xs) d zero (suc j) key p q = absurd (differ x key (cc) (at_place (λ y. is_same_key x y ≡ false) xs j key d.0 q))
one_place (x ∷ xs) d (suc i) zero key p q = absurd (differ x key (cc) (at_place (λ y. is_same_key x y ≡ false) xs i key d.0 p))
one_place (x ∷ xs) d (suc i) (suc j) key p q = ap suc (one_place xs d.1 i j key p q)

pub are_distinct : (keys : List IdKey) → IsDistinct is_same_key keys → AreDistinct keys
are_distinct keys d = record { one_place = one_place keys d }

seen : (keys : List IdKey) (i : ℕ) (key : IdKey) → slice_get keys i ≡ Some key → list_any (is_same_key key) keys ≡ true
seen [] i key e = cc
seen (x ∷ xs) zero key e =
    let same : key ≡ x = cc in
    rw ((same_key_decides key x).1 same) refl
seen (x ∷ xs) (suc i) key e = grind (arith, seen xs i key e)

at_head : (x : IdKey) (xs : List IdKey) (key : IdKey) → is_same_key key x ≡ true → HasKey (x ∷ xs) key
at_head x xs key e = (zero, ap Some (sym ((same_key_decides key x).0 e)))

has_key : (keys : List IdKey) (key : IdKey) → list_any (is_same_key key) keys ≡ true → HasKey keys key
has_key [] key e = absurd (true≢false (sym e))
has_key (x ∷ xs) key e = by (is_same_key key x) refl (has_key xs key)
  where
    by : (b : Bool) → is_same_key key x ≡ b → (list_any (is_same_key key) xs ≡ true → HasKey xs key) → HasKey (x ∷ xs) key
    by true here rest = at_head x xs key here
    by false here rest = let later = rest (rw here at e) in (suc later.0, later.1)

not_seen : (keys : List IdKey) (key : IdKey) → list_any (is_same_key key) keys ≡ false → position_or_len (is_same_key key) keys ≡ length keys
not_seen [] key e = refl
not_seen (x ∷ xs) key e = by (is_same_key key x) refl (not_seen xs key)
  where
    by : (b : Bool) → is_same_key key x ≡ b → (list_any (is_same_key key) xs ≡ false → position_or_len (is_same_key key) xs ≡ length xs)
        → position_or_len (is_same_key key) (x ∷ xs) ≡ length (x ∷ xs)
    by true here rest = absurd (true≢false (rw here at e))
    by false here rest = let later = rest (rw here at e) in rw here (omega (arith, later))

pub interns : (old : List IdKey) (key : IdKey) (new : List IdKey) (place : ℕ) → new ≡ insert_key is_same_key old key
    → (k : IdKey) → slice_get new place ≡ Some k → is_same_key key k ≡ true → place ≡ position_or_len (is_same_key key) old → Interns old key new place
interns old key new place e k stands same at = record {
  found = stands ∙ ap Some (sym ((same_key_decides key k).0 same));
  known = λ has. e ∙ rw (seen old has.0 key has.1) refl;
  added = λ none. by (list_any (is_same_key key) old) refl none;
}
  where
    by : (b : Bool) → list_any (is_same_key key) old ≡ b → ¬ (HasKey old key) → (new ≡ old ++ key ∷ []) × (place ≡ length old)
    by true is none = absurd (none (has_key old key is))
    by false is none = (e ∙ rw is refl, at ∙ not_seen old key is)
