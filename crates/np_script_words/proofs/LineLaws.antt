-- What holds of the lines of the tables.
use Rattle.std.proofs.Common.{◌≡◌, ℕ, List, [], ◌∷◌, length, map, Bool, true, false, cond, ltb, ◌&&◌, Some, refl, ap, sym, ◌∙◌, subst, inl}
use Rattle.std.specs.List.{list_all}
use Rattle.std.specs.Str.{bytes_eq}
use Rattle.std.proofs.lemmas.Bool.{and_parts, ltb-true}
use Rattle.std.proofs.lemmas.Slice.Eq.{bytes_eq-Decides}
use Rattle.np_values.specs.declared.name.Side.{Side}
use Rattle.np_values.specs.declared.name.Side.TheVariants.{Page, Plug}
use Rattle.np_script_grammar.specs.declared.place.Place.{Place}
use Rattle.np_script_grammar.specs.declared.place.Place.TheVariants as places
use Rattle.np_script_grammar.specs.declared.line.Field.{Field}
use Rattle.np_script_grammar.specs.Fields.{field_word}
use Rattle.np_script_grammar.specs.Forms.{Form, Table, Line, HasForm, form_of, line_words}
use Rattle.np_script_grammar.specs.Tables.{table_at}
use Rattle.np_script_words.specs.Laws.{is_typed, OneLine, SpacedLine}
use Rattle.np_script_words.proofs.Digits.{is_bare}
use Rattle.np_script_words.proofs.FieldWords.{IsBareWord}
use Rattle.np_script_words.proofs.FormReading.{items_of}
use Rattle.np_script_words.proofs.OneReading.{one_reading_lem, typed_items}
use Rattle.np_script_words.proofs.SpacedLines.{AllShaped, spaced_have, spaced_is_line, fields_shaped}

-- a row's word is bare, and its items have bounds of 32 bits
abbrev is_sound_row : List ℕ → Form → Bool
is_sound_row word form = (list_all is_bare word && ltb 0 (length word)) && (list_all is_typed form.items && list_all is_typed form.group)

abbrev is_sound : List ℕ × Form → Bool
is_sound row = is_sound_row row.0 row.1

tables_are_sound : (side : Side) (place : Place) → list_all is_sound (table_at side place) ≡ true
tables_are_sound Page places.Head = refl
tables_are_sound Page places.Top = refl
tables_are_sound Page places.Class = refl
tables_are_sound Page places.MemberBody = refl
tables_are_sound Page places.Body = refl
tables_are_sound Page places.Commands = refl
tables_are_sound Plug places.Head = refl
tables_are_sound Plug places.Top = refl
tables_are_sound Plug places.Class = refl
tables_are_sound Plug places.MemberBody = refl
tables_are_sound Plug places.Body = refl
tables_are_sound Plug places.Commands = refl

row_is_sound : (table : Table) (word : List ℕ) (form : Form) → list_all is_sound table ≡ true → form_of table word ≡ Some form → is_sound (word, form) ≡ true
row_is_sound [] word form sound e = absurd cc
row_is_sound (row ∷ table) word form sound e =
    let both = and_parts (is_sound row) (list_all is_sound table) sound in
    by_test (bytes_eq word row.0) refl both.0 (row_is_sound table word form both.1) e
  where
    by_test : (t : Bool) → bytes_eq word row.0 ≡ t → is_sound row ≡ true → (form_of table word ≡ Some form → is_sound (word, form) ≡ true) → cond t (Some row.1) (form_of table word) ≡ Some form
        → is_sound (word, form) ≡ true
    by_test true same here again e =
        let word_is : word ≡ row.0 = (bytes_eq-Decides word row.0).0 same in
        let form_is : row.1 ≡ form = cc in
        ap (λ (w : List ℕ). is_sound_row w form) word_is ∙ ap (is_sound_row row.0) (sym form_is) ∙ here
    by_test false same here again e = again e

-- the parts of that
record Sound (word : List ℕ) (form : Form) : Type 0 where
  bare : IsBareWord word
  items : list_all is_typed form.items ≡ true
  group : list_all is_typed form.group ≡ true

sound_row : (side : Side) (place : Place) (word : List ℕ) (form : Form) → form_of (table_at side place) word ≡ Some form → Sound word form
sound_row side place word form e =
    let all = and_parts _ _ (row_is_sound (table_at side place) word form (tables_are_sound side place) e) in
    let word_is = and_parts (list_all is_bare word) (ltb 0 (length word)) all.0 in
    let form_is = and_parts (list_all is_typed form.items) (list_all is_typed form.group) all.1 in
    record { bare = record { all = word_is.0; some = ltb-true 0 (length word) word_is.1 }; items = form_is.0; group = form_is.1 }

same_line : (line other : Line) → line.0 ≡ other.0 → line.1 ≡ other.1 → line ≡ other
same_line line other e f = ap (λ (word : List ℕ). let l : Line = (word, line.1) in l) e ∙ ap (λ (fields : List Field). let l : Line = (other.0, fields) in l) f

pub one_line_lem : OneLine
one_line_lem side place line other h k same =
    let word : line.0 ≡ other.0 = cc in
    let words : map field_word line.1 ≡ map field_word other.1 = cc in
    let forms : Some h.form ≡ Some k.form = sym h.listed ∙ ap (form_of (table_at side place)) word ∙ k.listed in
    let form : k.form ≡ h.form = cc in
    let s = sound_row side place line.0 h.form h.listed in
    let fields : line.1 ≡ other.1 = one_reading_lem h.form line.1 other.1 s.items s.group h.of_form (subst (λ (f : Form). HasForm f other.1) form k.of_form) words in
    same_line line other word fields

pub spaced_line_lem : SpacedLine
spaced_line_lem side place line h =
    let s = sound_row side place line.0 h.form h.listed in
    let all : AllShaped (line_words line) = (inl s.bare, fields_shaped (items_of h.form h.of_form.groups) line.1 (typed_items h.form h.of_form.groups s.items s.group) h.of_form.each) in
    (spaced_have (line_words line) all, spaced_is_line (line_words line) all)
