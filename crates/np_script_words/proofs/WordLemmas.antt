-- How a line parts into words.
use Rattle.std.proofs.Common.{◌≡◌, ◌≢◌, ℕ, ◌+◌, ◌<◌, ◌≤◌, List, [], ◌∷◌, ◌++◌, length, take, drop, get_or, true, false, eqb, refl, ap, sym, ◌∙◌, subst, arith}
use Rattle.std.proofs.lemmas.List.{drop_more, take_more, drop_all}
use Rattle.std.proofs.lemmas.Bool.Decides.{nat_tests}
use Rattle.np_script_grammar.specs.Words.{Spot, InWord, onto_first, spot_after, parts_words, words_from, words_of}
use Rattle.np_script_words.specs.declared.line.Spot.{Spot as CodeSpot}
use Rattle.np_script_words.specs.declared.line.Spot.TheVariants as code
use Rattle.np_script_words.specs.Spots.{spot_of}

-- bytes before the first word
abbrev pub onto_words : List ℕ → List (List ℕ) → List (List ℕ)
onto_words [] words = words
onto_words (b ∷ bs) words = onto_first b (onto_words bs words)

pub onto_words_push : (bs : List ℕ) (b : ℕ) (words : List (List ℕ)) → onto_words (bs ++ b ∷ []) words ≡ onto_words bs (onto_first b words)
onto_words_push [] b words = refl
onto_words_push (c ∷ bs) b words = ap (onto_first c) (onto_words_push bs b words)

pub onto_words_ended : (bs : List ℕ) (words : List (List ℕ)) → onto_words bs ([] ∷ words) ≡ bs ∷ words
onto_words_ended [] words = refl
onto_words_ended (b ∷ bs) words = ap (onto_first b) (onto_words_ended bs words)

-- ---- a word that ends

ended_at : (s : CodeSpot) (b : ℕ) (bs : List ℕ) → parts_words (spot_of s) b ≡ true → words_from (spot_of s) (b ∷ bs) ≡ [] ∷ words_of (b ∷ bs)
ended_at code.InWord b bs e = rw e refl
ended_at code.InQuotes b bs e = absurd cc
ended_at code.Escaped b bs e = absurd cc

at_end : (s : CodeSpot) → words_from (spot_of s) [] ≡ [] ∷ []
at_end code.InWord = refl
at_end code.InQuotes = refl
at_end code.Escaped = refl

pub word_done : (line : List ℕ) (i : ℕ) (s : CodeSpot) → i < length line
    → words_from InWord line ≡ onto_words (take i line) (words_from (spot_of s) (drop i line)) → parts_words (spot_of s) (get_or line i 0) ≡ true
    → words_from InWord line ≡ take i line ∷ words_of (drop i line)
word_done line i s h e parted =
    let at : drop i line ≡ get_or line i 0 ∷ drop (i + 1) line = drop_more line i 0 h in
    let ends : words_from (spot_of s) (drop i line) ≡ [] ∷ words_of (drop i line) = subst (λ (bs : List ℕ). words_from (spot_of s) bs ≡ [] ∷ words_of bs) (sym at) (ended_at s (get_or line i 0) (drop (i + 1) line) parted) in
    e ∙ ap (onto_words (take i line)) ends ∙ onto_words_ended (take i line) (words_of (drop i line))

pub word_last : (line : List ℕ) (i : ℕ) (s : CodeSpot) → length line ≤ i
    → words_from InWord line ≡ onto_words (take i line) (words_from (spot_of s) (drop i line)) → words_from InWord line ≡ take i line ∷ words_of (drop i line)
word_last line i s h e = e ∙ rw (drop_all i line h, at_end s) (onto_words_ended (take i line) [])

-- ---- a word that goes on

goes_on : (s : CodeSpot) (b : ℕ) (bs : List ℕ) → parts_words (spot_of s) b ≡ false → words_from (spot_of s) (b ∷ bs) ≡ onto_first b (words_from (spot_after (spot_of s) b) bs)
goes_on s b bs e = rw e refl

pub word_more : (line : List ℕ) (i : ℕ) (s next : CodeSpot) → i < length line
    → words_from InWord line ≡ onto_words (take i line) (words_from (spot_of s) (drop i line)) → parts_words (spot_of s) (get_or line i 0) ≡ false
    → spot_of next ≡ spot_after (spot_of s) (get_or line i 0)
    → words_from InWord line ≡ onto_words (take (i + 1) line) (words_from (spot_of next) (drop (i + 1) line))
word_more line i s next h e parted after =
    let b : ℕ = get_or line i 0 in
    let behind : List ℕ = drop (i + 1) line in
    e
    ∙ ap (λ (bs : List ℕ). onto_words (take i line) (words_from (spot_of s) bs)) (drop_more line i 0 h)
    ∙ ap (onto_words (take i line)) (goes_on s b behind parted)
    ∙ ap (λ (t : Spot). onto_words (take i line) (onto_first b (words_from t behind))) (sym after)
    ∙ sym (onto_words_push (take i line) b (words_from (spot_of next) behind))
    ∙ ap (λ (bs : List ℕ). onto_words bs (words_from (spot_of next) behind)) (sym (take_more line i 0 h))

-- ---- the first word of a line

pub first_word : (line : List ℕ) → 0 < length line → get_or line 0 0 ≢ 32 → words_of line ≡ words_from InWord line
first_word [] h first = absurd (omega arith)
first_word (b ∷ bs) h first =
    let parted : eqb b 32 ≡ false = grind (arith, nat_tests) in
    rw parted refl
