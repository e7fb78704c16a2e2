-- Words with one space between them.
use Rattle.std.proofs.Common.{◌≡◌, ℕ, List, [], ◌∷◌, ◌++◌, map, true, refl, ap, ◌∙◌}
use Rattle.std.specs.List.{list_all}
use Rattle.std.specs.Str.{IsUtf8, is_utf8}
use Rattle.std.proofs.lemmas.Bool.{and_parts, and_from, false≢true}
use Rattle.std.proofs.lemmas.Str.{IsUtf8-append, IsUtf8-from_is_utf8, is_utf8-from_IsUtf8}
use Rattle.np_script_grammar.specs.declared.line.Item.{Item}
use Rattle.np_script_grammar.specs.declared.line.Field.{Field}
use Rattle.np_script_grammar.specs.Fields.{field_word, is_of}
use Rattle.np_script_grammar.specs.Forms.{are_of}
use Rattle.np_script_grammar.specs.Words.{words_of, is_plain, is_line}
use Rattle.np_script_words.specs.Laws.{is_typed, spaced, SpacedWords}
use Rattle.np_script_words.proofs.FieldWords.{HasShape, field_shape}
use Rattle.np_script_words.proofs.QuotedBytes.{all-append, low_is_utf8}
use Rattle.np_script_words.proofs.WordLaws.{before_space, at_end, shape_is_word, shape_is_line}

-- each is the word of a field or of a line
abbrev pub AllShaped : List (List ℕ) → Type 0
AllShaped [] = Unit {0}
AllShaped (word ∷ words) = HasShape word × AllShaped words

-- its words
pub spaced_have : (words : List (List ℕ)) → AllShaped words → words_of (spaced words) ≡ words
spaced_have [] all = refl
spaced_have (word ∷ []) all = at_end word (shape_is_word word all.0)
spaced_have (word ∷ next ∷ words) all =
    before_space word (spaced (next ∷ words)) (shape_is_word word all.0) ∙ ap (λ (ws : List (List ℕ)). word ∷ ws) (spaced_have (next ∷ words) all.1)

-- two lines with a space between them
joined : (front back : List ℕ) → is_line front ≡ true → is_line back ≡ true → is_line (front ++ 32 ∷ back) ≡ true
unfolding is_line
joined front back e f =
    let a = and_parts (list_all is_plain front) (is_utf8 front) e in
    let b = and_parts (list_all is_plain back) (is_utf8 back) f in
    let space : IsUtf8 (32 ∷ []) = low_is_utf8 (32 ∷ []) refl in
    let behind : IsUtf8 (32 ∷ back) = IsUtf8-append (32 ∷ []) back space (IsUtf8-from_is_utf8 back b.1) in
    let whole : IsUtf8 (front ++ 32 ∷ back) = IsUtf8-append front (32 ∷ back) (IsUtf8-from_is_utf8 front a.1) behind in
    and_from (list_all is_plain (front ++ 32 ∷ back)) (is_utf8 (front ++ 32 ∷ back)) (all-append is_plain front (32 ∷ back) a.0 b.0) (is_utf8-from_IsUtf8 (front ++ 32 ∷ back) whole)

nothing_is_line : is_line [] ≡ true
unfolding is_line
nothing_is_line = is_utf8-from_IsUtf8 [] (low_is_utf8 [] refl)

pub spaced_is_line : (words : List (List ℕ)) → AllShaped words → is_line (spaced words) ≡ true
spaced_is_line [] all = nothing_is_line
spaced_is_line (word ∷ []) all = shape_is_line word all.0
spaced_is_line (word ∷ next ∷ words) all = joined word (spaced (next ∷ words)) (shape_is_line word all.0) (spaced_is_line (next ∷ words) all.1)

-- ---- the words of fields

pub fields_shaped : (items : List Item) (fields : List Field) → list_all is_typed items ≡ true → are_of items fields ≡ true → AllShaped (map field_word fields)
fields_shaped [] [] t e = tt
fields_shaped [] (f ∷ fields) t e = absurd (false≢true e)
fields_shaped (item ∷ items) [] t e = absurd (false≢true e)
fields_shaped (item ∷ items) (f ∷ fields) t e =
    let typed = and_parts (is_typed item) (list_all is_typed items) t in
    let each = and_parts (is_of item f) (are_of items fields) e in
    (field_shape item f typed.0 each.0, fields_shaped items fields typed.1 each.1)

pub spaced_words_lem : SpacedWords
spaced_words_lem items fields t e =
    let all = fields_shaped items fields t e in
    (spaced_have (map field_word fields) all, spaced_is_line (map field_word fields) all)
