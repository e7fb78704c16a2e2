-- The word of a field in a line.
use Rattle.std.proofs.Common.{◌≡◌, ◌≢◌, ℕ, ◌/◌, ◌%◌, ◌<◌, List, [], ◌∷◌, ◌++◌, length, get_or, Bool, true, false, not, cond, eqb, ◌&&◌, ◌||◌, refl, ap, sym, ◌∙◌, subst, arith, append_assoc, inl, inr}
use Rattle.std.specs.List.{list_all, flat_map}
use Rattle.std.specs.Char.{digit_char}
use Rattle.std.specs.Str.{is_utf8}
use Rattle.std.proofs.lemmas.Bool.{and_parts, and_from, false≢true}
use Rattle.std.proofs.lemmas.Bool.Decides.{nat_tests}
use Rattle.std.proofs.lemmas.List.{append-nil}
use Rattle.std.proofs.lemmas.Str.{is_utf8-from_IsUtf8}
use Rattle.np_script_grammar.specs.declared.line.Item.{Item}
use Rattle.np_script_grammar.specs.declared.line.Field.{Field}
use Rattle.np_script_grammar.specs.Fields.{quoted, quoted_byte, field_word, is_of}
use Rattle.np_script_grammar.specs.Words.{Spot, InWord, InQuotes, spot_after, parts_words, words_from, words_of, onto_first, is_plain, is_line}
use Rattle.np_script_words.specs.Laws.{is_typed, OneWord, PlainWord}
use Rattle.np_script_words.proofs.Digits.{is_bare}
use Rattle.np_script_words.proofs.FieldWords.{IsBareWord, HasShape, field_shape}
use Rattle.np_script_words.proofs.QuotedBytes.{is_low, low_is_utf8, quoted_is_plain, quoted_is_utf8}
use Rattle.np_script_words.proofs.WordLemmas.{onto_words, onto_words_ended, first_word}

-- ---- the spots of a word

abbrev spot_behind : Spot → List ℕ → Spot
spot_behind spot [] = spot
spot_behind spot (b ∷ bs) = spot_behind (spot_after spot b) bs

-- no space parts these bytes
abbrev is_unparted : Spot → List ℕ → Bool
is_unparted spot [] = true
is_unparted spot (b ∷ bs) = not (parts_words spot b) && is_unparted (spot_after spot b) bs

not_parted : (t : Bool) (b : ℕ) (spot : Spot) (bs : List ℕ) → parts_words spot b ≡ t → not t ≡ true → words_from spot (b ∷ bs) ≡ onto_first b (words_from (spot_after spot b) bs)
not_parted true b spot bs e f = absurd (false≢true f)
not_parted false b spot bs e f = rw e refl

words_through : (spot : Spot) (word rest : List ℕ) → is_unparted spot word ≡ true → words_from spot (word ++ rest) ≡ onto_words word (words_from (spot_behind spot word) rest)
words_through spot [] rest e = refl
words_through spot (b ∷ word) rest e =
    let both = and_parts (not (parts_words spot b)) (is_unparted (spot_after spot b) word) e in
    not_parted (parts_words spot b) b spot (word ++ rest) refl both.0 ∙ ap (onto_first b) (words_through (spot_after spot b) word rest both.1)

-- one word from its first byte to its last
pub record IsWord (word : List ℕ) : Type 0 where
  pub unparted : is_unparted InWord word ≡ true
  pub closed : spot_behind InWord word ≡ InWord
  pub first : get_or word 0 0 ≢ 32
  pub some : 0 < length word

from_word : (word rest : List ℕ) → IsWord word → words_of (word ++ rest) ≡ words_from InWord (word ++ rest)
from_word [] rest w = absurd (omega (arith, w.some))
from_word (b ∷ word) rest w = first_word ((b ∷ word) ++ rest) (omega arith) w.first

pub before_space : (word line : List ℕ) → IsWord word → words_of (word ++ 32 ∷ line) ≡ word ∷ words_of line
before_space word line w =
    from_word word (32 ∷ line) w
    ∙ words_through InWord word (32 ∷ line) w.unparted
    ∙ ap (λ (spot : Spot). onto_words word (words_from spot (32 ∷ line))) w.closed
    ∙ onto_words_ended word (words_of line)

pub at_end : (word : List ℕ) → IsWord word → words_of word ≡ word ∷ []
at_end word w =
    ap words_of (sym (append-nil word))
    ∙ from_word word [] w
    ∙ words_through InWord word [] w.unparted
    ∙ ap (λ (spot : Spot). onto_words word (words_from spot [])) w.closed
    ∙ onto_words_ended word []

-- ---- bare words

bare_unparted : (word : List ℕ) → list_all is_bare word ≡ true → (is_unparted InWord word ≡ true) × (spot_behind InWord word ≡ InWord)
bare_unparted [] e = (refl, refl)
bare_unparted (b ∷ word) e =
    let both = and_parts (is_bare b) (list_all is_bare word) e in
    let space : eqb b 32 ≡ false = grind (arith, nat_tests, both.0) in
    let quote : eqb b 34 ≡ false = grind (arith, nat_tests, both.0) in
    let rest = bare_unparted word both.1 in
    rw (space, quote) (rest.0, rest.1)

bare_first : (word : List ℕ) → IsBareWord word → get_or word 0 0 ≢ 32
bare_first [] w e = absurd (omega (arith, w.some))
bare_first (b ∷ word) w e =
    let both = and_parts (is_bare b) (list_all is_bare word) w.all in
    grind (arith, nat_tests, both.0)

bare_is_word : (word : List ℕ) → IsBareWord word → IsWord word
bare_is_word word w =
    let parts = bare_unparted word w.all in
    record { unparted = parts.0; closed = parts.1; first = bare_first word w; some = w.some }

bare_is_plain : (word : List ℕ) → list_all is_bare word ≡ true → list_all is_plain word ≡ true
bare_is_plain [] e = refl
bare_is_plain (b ∷ word) e =
    let both = and_parts (is_bare b) (list_all is_bare word) e in
    let plain : is_plain b ≡ true = grind (arith, nat_tests, both.0) in
    and_from (is_plain b) (list_all is_plain word) plain (bare_is_plain word both.1)

bare_is_low : (word : List ℕ) → list_all is_bare word ≡ true → list_all is_low word ≡ true
bare_is_low [] e = refl
bare_is_low (b ∷ word) e =
    let both = and_parts (is_bare b) (list_all is_bare word) e in
    let low : is_low b ≡ true = grind (arith, nat_tests, both.0) in
    and_from (is_low b) (list_all is_low word) low (bare_is_low word both.1)

-- ---- quoted words

-- an item of a quoted text leaves the spot in the quotes
byte_through : (b : ℕ) (rest : List ℕ) → (is_unparted InQuotes (quoted_byte b ++ rest) ≡ is_unparted InQuotes rest) × (spot_behind InQuotes (quoted_byte b ++ rest) ≡ spot_behind InQuotes rest)
byte_through b rest = by_tests (eqb b 34 || eqb b 92) (is_plain b) refl
  where
    digit_quote : (d : ℕ) → eqb (digit_char d) 34 ≡ false
    digit_quote d = grind (arith, nat_tests)

    digit_back : (d : ℕ) → eqb (digit_char d) 92 ≡ false
    digit_back d = grind (arith, nat_tests)

    by_tests : (s p : Bool) → (eqb b 34 || eqb b 92) ≡ s
        → (is_unparted InQuotes (cond s (92 ∷ b ∷ []) (cond p (b ∷ []) (92 ∷ 120 ∷ digit_char (b / 16) ∷ digit_char (b % 16) ∷ [])) ++ rest) ≡ is_unparted InQuotes rest)
        × (spot_behind InQuotes (cond s (92 ∷ b ∷ []) (cond p (b ∷ []) (92 ∷ 120 ∷ digit_char (b / 16) ∷ digit_char (b % 16) ∷ [])) ++ rest) ≡ spot_behind InQuotes rest)
    by_tests true p e = (refl, refl)
    by_tests false true e =
        let quote : eqb b 34 ≡ false = grind (arith, nat_tests) in
        let back : eqb b 92 ≡ false = grind (arith, nat_tests) in
        rw (quote, back) (refl, refl)
    by_tests false false e = rw (digit_quote (b / 16), digit_back (b / 16), digit_quote (b % 16), digit_back (b % 16)) (refl, refl)

items_through : (text rest : List ℕ) → (is_unparted InQuotes (flat_map quoted_byte text ++ rest) ≡ is_unparted InQuotes rest) × (spot_behind InQuotes (flat_map quoted_byte text ++ rest) ≡ spot_behind InQuotes rest)
items_through [] rest = (refl, refl)
items_through (b ∷ text) rest =
    let behind : List ℕ = flat_map quoted_byte text ++ rest in
    let regroup : (quoted_byte b ++ flat_map quoted_byte text) ++ rest ≡ quoted_byte b ++ behind = append_assoc (quoted_byte b) (flat_map quoted_byte text) rest in
    let one = byte_through b behind in
    let more = items_through text rest in
    (ap (is_unparted InQuotes) regroup ∙ one.0 ∙ more.0, ap (spot_behind InQuotes) regroup ∙ one.1 ∙ more.1)

quoted_is_word : (text : List ℕ) → IsWord (quoted text)
quoted_is_word text =
    let through = items_through text (34 ∷ []) in
    record { unparted = through.0; closed = through.1; first = λ e. omega arith; some = omega arith }

-- ---- the words of fields

pub shape_is_word : (word : List ℕ) → HasShape word → IsWord word
shape_is_word word (inl w) = bare_is_word word w
shape_is_word word (inr w) = subst IsWord (sym w.same) (quoted_is_word w.text)

pub shape_is_line : (word : List ℕ) → HasShape word → is_line word ≡ true
unfolding is_line
shape_is_line word (inl w) = and_from (list_all is_plain word) (is_utf8 word) (bare_is_plain word w.all) (is_utf8-from_IsUtf8 word (low_is_utf8 word (bare_is_low word w.all)))
shape_is_line word (inr w) =
    subst (λ (bs : List ℕ). (list_all is_plain bs && is_utf8 bs) ≡ true) (sym w.same)
    (and_from (list_all is_plain (quoted w.text)) (is_utf8 (quoted w.text)) (quoted_is_plain w.text) (is_utf8-from_IsUtf8 (quoted w.text) (quoted_is_utf8 w.text w.valid)))

field_is_word : (item : Item) (field : Field) → is_typed item ≡ true → is_of item field ≡ true → IsWord (field_word field)
field_is_word item field t e = shape_is_word (field_word field) (field_shape item field t e)

pub one_word_lem : OneWord
one_word_lem item field line t e =
    let w = field_is_word item field t e in
    (before_space (field_word field) line w, at_end (field_word field) w)

pub plain_word_lem : PlainWord
plain_word_lem item field t e = (shape_is_line (field_word field) (field_shape item field t e), (field_is_word item field t e).some)
