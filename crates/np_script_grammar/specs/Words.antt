-- The lines of a script and their words. (This project's own.)
use Rattle.std.specs.Prelude.{ℕ, List, [], ◌∷◌, Bool, true, false, if◌then◌else◌, ◌==◌, ◌&&◌}
use Rattle.std.specs.List.{list_all}
use Rattle.std.specs.Str.{is_utf8}
pub use Rattle.np_values.specs.Quoted.{is_plain}

abbrev pub onto_first : ℕ → List (List ℕ) → List (List ℕ)
onto_first b [] = (b ∷ []) ∷ []
onto_first b (first ∷ others) = (b ∷ first) ∷ others

-- the lines, cut at byte 10; a last one without it counts
abbrev pub lines_of : List ℕ → List (List ℕ)
lines_of [] = []
lines_of (b ∷ bs) = if b == 10 then [] ∷ lines_of bs else onto_first b (lines_of bs)

-- the bytes that a line may have
unfoldable pub is_line : List ℕ → Bool
is_line line = list_all is_plain line && is_utf8 line

-- ---- words

-- where a byte of a line stands: between words, in a word, in a quoted text, or after a backslash there
pub data Spot : Type 0 where
  Between : Spot
  InWord : Spot
  InQuotes : Spot
  Escaped : Spot

-- where the next byte stands after a byte of a word
abbrev pub spot_after : Spot → ℕ → Spot
spot_after Between b = if b == 34 then InQuotes else InWord
spot_after InWord b = if b == 34 then InQuotes else InWord
spot_after InQuotes b = if b == 34 then InWord else if b == 92 then Escaped else InQuotes
spot_after Escaped b = InQuotes

-- a space outside quotes parts words
abbrev pub parts_words : Spot → ℕ → Bool
parts_words Between b = b == 32
parts_words InWord b = b == 32
parts_words InQuotes b = false
parts_words Escaped b = false

-- the end of a word, where one has begun
abbrev pub word_ends : Spot → List (List ℕ) → List (List ℕ)
word_ends Between words = words
word_ends InWord words = [] ∷ words
word_ends InQuotes words = [] ∷ words
word_ends Escaped words = [] ∷ words

-- from a spot on: what is left of the word that has begun there, if one has, and the words after it
abbrev pub words_from : Spot → List ℕ → List (List ℕ)
words_from spot [] = word_ends spot []
words_from spot (b ∷ bs) =
    if parts_words spot b then word_ends spot (words_from Between bs) else onto_first b (words_from (spot_after spot b) bs)

-- the words of a line: separated by one or more spaces outside quoted texts
abbrev pub words_of : List ℕ → List (List ℕ)
words_of line = words_from Between line

-- a line without a word, or whose first one begins with #
abbrev pub is_skipped : List (List ℕ) → Bool
is_skipped [] = true
is_skipped ([] ∷ words) = true
is_skipped ((b ∷ bs) ∷ words) = b == 35
