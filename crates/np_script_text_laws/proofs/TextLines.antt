-- The lines of a text, joined.
use Rattle.std.proofs.Common.{◌≡◌, ℕ, suc, ◌≤◌, ◌==◌, List, [], ◌∷◌, ◌++◌, length, map, Bool, true, false, cond, not, refl, ap, sym, ◌∙◌, arith}
use Rattle.std.specs.List.{list_all, filter}
use Rattle.std.proofs.lemmas.List.{map-append, length-map}
use Rattle.std.proofs.lemmas.List.Elements.{filter-append}
use Rattle.std.proofs.lemmas.List.Folds.{list_all-append}
use Rattle.np_values.specs.declared.name.Side.{Side}
use Rattle.np_script_grammar.specs.Words.{lines_of, onto_first, is_line, words_of, is_skipped}
use Rattle.np_script_grammar.specs.Forms.{Line, line_words}
use Rattle.np_script_grammar.specs.Order.{Standing, at_first, standing_after, MayFollow, AreInOrder}
use Rattle.np_script_grammar.specs.Grammar.{counted_words, AreLinesOf}
use Rattle.np_script_grammar.specs.Refusals.{standing_behind}

pub counted-append : (a b : List (List ℕ)) → counted_words (a ++ b) ≡ counted_words a ++ counted_words b
counted-append a b = ap (filter (λ words. not (is_skipped words))) (map-append words_of a b) ∙ filter-append (λ words. not (is_skipped words)) (map words_of a) (map words_of b)

pub counted-one : (next : List ℕ) → is_skipped (words_of next) ≡ false → counted_words (next ∷ []) ≡ words_of next ∷ []
counted-one next e = rw e refl

pub counted-skipped : (next : List ℕ) → is_skipped (words_of next) ≡ true → counted_words (next ∷ []) ≡ []
counted-skipped next e = rw e refl

pub plain-append : (a b : List (List ℕ)) → list_all is_line a ≡ true → list_all is_line b ≡ true → list_all is_line (a ++ b) ≡ true
plain-append a b x y = list_all-append is_line a b ∙ rw (x, y) refl

pub append-nothing : {A : Type 0} (xs : List A) → xs ++ [] ≡ xs
append-nothing [] = refl
append-nothing (x ∷ xs) = ap (λ t. x ∷ t) (append-nothing xs)

pub one-more : (side : Side) (s : Standing) (lines : List Line) (line : Line) → AreInOrder side s lines → MayFollow side (standing_behind s lines) line → AreInOrder side s (lines ++ line ∷ [])
one-more side s [] line all next = (next, tt)
one-more side s (first ∷ lines) line all next = (all.0, one-more side (standing_after s first) lines line all.1 next)

pub goes-on : (side : Side) (text : List (List ℕ)) (lines : List Line) (next : List ℕ) (line : Line) → AreLinesOf side text lines → is_line next ≡ true → is_skipped (words_of next) ≡ false
    → words_of next ≡ line_words line → MayFollow side (standing_behind at_first lines) line → AreLinesOf side (text ++ next ∷ []) (lines ++ line ∷ [])
goes-on side text lines next line are plain counts words may = record {
  plain = plain-append text (next ∷ []) are.plain (rw plain refl);
  say = counted-append text (next ∷ [])
      ∙ ap (λ t. counted_words text ++ t) (counted-one next counts ∙ ap (λ w. w ∷ []) words)
      ∙ ap (λ t. t ++ line_words line ∷ []) are.say
      ∙ sym (map-append line_words lines (line ∷ []));
  in_order = one-more side at_first lines line are.in_order may;
}

pub skips : (side : Side) (text : List (List ℕ)) (lines : List Line) (next : List ℕ) → AreLinesOf side text lines → is_line next ≡ true → is_skipped (words_of next) ≡ true
    → AreLinesOf side (text ++ next ∷ []) lines
skips side text lines next are plain skipped = record {
  plain = plain-append text (next ∷ []) are.plain (rw plain refl);
  say = counted-append text (next ∷ []) ∙ ap (λ t. counted_words text ++ t) (counted-skipped next skipped) ∙ append-nothing (counted_words text) ∙ are.say;
  in_order = are.in_order;
}

-- ---- how many

filter-fewer : {A : Type 0} (p : A → Bool) (xs : List A) → length (filter p xs) ≤ length xs
filter-fewer p [] = omega arith
filter-fewer p (x ∷ xs) = by_test (p x) (filter-fewer p xs)
  where
    by_test : (t : Bool) → length (filter p xs) ≤ length xs → length (cond t (x ∷ filter p xs) (filter p xs)) ≤ length (x ∷ xs)
    by_test true ih = omega (arith, ih)
    by_test false ih = omega (arith, ih)

onto-length : (b : ℕ) (ls : List (List ℕ)) → length (onto_first b ls) ≤ suc (length ls)
onto-length b [] = omega arith
onto-length b (l ∷ ls) = omega arith

lines-few : (bytes : List ℕ) → length (lines_of bytes) ≤ length bytes
lines-few [] = omega arith
lines-few (b ∷ bs) = by_test (b == 10) (lines-few bs)
  where
    by_test : (t : Bool) → length (lines_of bs) ≤ length bs → length (cond t ([] ∷ lines_of bs) (onto_first b (lines_of bs))) ≤ length (b ∷ bs)
    by_test true ih = omega (arith, ih)
    by_test false ih = omega (arith, ih, onto-length b (lines_of bs))

pub few : (side : Side) (bytes : List ℕ) (lines : List Line) → AreLinesOf side (lines_of bytes) lines → length lines ≤ length bytes
few side bytes lines are =
    let counted : length (counted_words (lines_of bytes)) ≡ length lines = ap length are.say ∙ length-map lines line_words in
    let fewer : length (counted_words (lines_of bytes)) ≤ length (map words_of (lines_of bytes)) = filter-fewer (λ words. not (is_skipped words)) (map words_of (lines_of bytes)) in
    omega (arith, counted, fewer, length-map (lines_of bytes) words_of, lines-few bytes)
