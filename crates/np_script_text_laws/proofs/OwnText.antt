-- The text of lines in order, each with one space between its words.
use Rattle.std.proofs.Common.{◌≡◌, ℕ, List, [], ◌∷◌, ◌++◌, map, Bool, true, false, cond, not, ◌==◌, Some, refl, ap, sym, ◌∙◌, subst, arith}
use Rattle.std.specs.List.{list_all}
use Rattle.std.specs.Str.{bytes_eq, is_utf8}
use Rattle.std.proofs.lemmas.List.{map-append}
use Rattle.std.proofs.lemmas.Bool.{and_parts}
use Rattle.std.proofs.lemmas.Slice.Eq.{bytes_eq-Decides}
use Rattle.np_values.specs.declared.name.Side.{Side}
use Rattle.np_values.specs.declared.name.Side.TheVariants.{Page, Plug}
use Rattle.np_script_grammar.specs.declared.place.Place.{Place}
use Rattle.np_script_grammar.specs.declared.place.Place.TheVariants as places
use Rattle.np_script_grammar.specs.Words.{lines_of, is_line, is_plain, words_of, is_skipped}
use Rattle.np_script_grammar.specs.Forms.{Form, Line, Table, form_of, line_words, spaced, IsOf}
use Rattle.np_script_grammar.specs.Tables.{table_at}
use Rattle.np_script_grammar.specs.Scripts.{place_behind}
use Rattle.np_script_grammar.specs.declared.place.Place.TheVariants.{Head}
use Rattle.np_script_grammar.specs.Order.{Standing, at_first, standing_after, AreInOrder}
use Rattle.np_script_grammar.specs.Grammar.{counted_words, AreLinesOf, text_of_lines}
use Rattle.np_script_grammar.specs.Refusals.{standing_behind}
use Rattle.np_script_line_laws.specs.Laws.{last_place, LinesCanBeCompleted}
use Rattle.np_script_words.specs.Laws.{SpacedLine}
use Rattle.np_script_text_laws.proofs.TextLines.{counted-append, counted-one, plain-append}
use Rattle.np_script_text_laws.proofs.OneSet.{has-form}
use Rattle.np_script_text_laws.proofs.Refused.{behind-front}

abbrev pub own_line : Line → List ℕ
own_line line = spaced (line_words line)

-- ---- cut at byte 10

plain-not-10 : (b : ℕ) (t : Bool) → b == 10 ≡ t → is_plain b ≡ true → t ≡ false
plain-not-10 b true e plain =
    let is : b ≡ 10 = grind (arith) in
    let no : is_plain 10 ≡ true = subst (λ (n : ℕ). is_plain n ≡ true) is plain in
    absurd cc
plain-not-10 b false e plain = refl

cut : (line rest : List ℕ) → list_all is_plain line ≡ true → lines_of (line ++ 10 ∷ rest) ≡ line ∷ lines_of rest
cut [] rest plain = refl
cut (b ∷ line) rest plain =
    let both = and_parts (is_plain b) (list_all is_plain line) plain in
    let other : b == 10 ≡ false = plain-not-10 b (b == 10) refl both.0 in
    rw (other, cut line rest both.1) refl

plain-bytes : (line : List ℕ) → is_line line ≡ true → list_all is_plain line ≡ true
unfolding is_line
plain-bytes line e = (and_parts (list_all is_plain line) (is_utf8 line) e).0

-- ---- no line of a table is skipped

abbrev counts : List ℕ → Bool
counts [] = false
counts (b ∷ bs) = not (b == 35)

tables-count : (side : Side) (place : Place) → list_all (λ row. counts row.0) (table_at side place) ≡ true
tables-count Page places.Head = refl
tables-count Page places.Top = refl
tables-count Page places.Class = refl
tables-count Page places.MemberBody = refl
tables-count Page places.Body = refl
tables-count Page places.Commands = refl
tables-count Plug places.Head = refl
tables-count Plug places.Top = refl
tables-count Plug places.Class = refl
tables-count Plug places.MemberBody = refl
tables-count Plug places.Body = refl
tables-count Plug places.Commands = refl

row-counts : (table : Table) (word : List ℕ) (form : Form) → list_all (λ row. counts row.0) table ≡ true → form_of table word ≡ Some form → counts word ≡ true
row-counts [] word form all e = absurd cc
row-counts (row ∷ table) word form all e =
    let both = and_parts (counts row.0) (list_all (λ row. counts row.0) table) all in
    by_test (bytes_eq word row.0) refl both.0 (row-counts table word form both.1) e
  where
    by_test : (t : Bool) → bytes_eq word row.0 ≡ t → counts row.0 ≡ true → (form_of table word ≡ Some form → counts word ≡ true) → cond t (Some row.1) (form_of table word) ≡ Some form → counts word ≡ true
    by_test true same here again e = ap counts ((bytes_eq-Decides word row.0).0 same) ∙ here
    by_test false same here again e = again e

counted-word : (word : List ℕ) (words : List (List ℕ)) → counts word ≡ true → is_skipped (word ∷ words) ≡ false
counted-word [] words e = absurd cc
counted-word (b ∷ bs) words e = by_test (b == 35) e
  where
    by_test : (t : Bool) → not t ≡ true → t ≡ false
    by_test true e = absurd cc
    by_test false e = refl

-- ---- the lines of that text

record Own (side : Side) (line : Line) : Type 0 where
  words : words_of (own_line line) ≡ line_words line
  plain : is_line (own_line line) ≡ true
  counted : is_skipped (words_of (own_line line)) ≡ false

own : SpacedLine → (side : Side) (place : Place) (line : Line) → IsOf (table_at side place) line → Own side line
own law side place line is =
    let spaces = law side place line (has-form side place line is) in
    let word : counts line.0 ≡ true = row-counts (table_at side place) line.0 is.form (tables-count side place) is.listed in
    record { words = spaces.0; plain = spaces.1; counted = ap is_skipped spaces.0 ∙ counted-word line.0 _ word }

own-say : SpacedLine → (side : Side) (s : Standing) (lines : List Line) → AreInOrder side s lines → counted_words (map own_line lines) ≡ map line_words lines
own-say law side s [] all = refl
own-say law side s (line ∷ lines) all =
    let o = own law side s.place line all.0.listed in
    counted-append (own_line line ∷ []) (map own_line lines)
    ∙ ap (λ t. t ++ counted_words (map own_line lines)) (counted-one (own_line line) o.counted ∙ ap (λ w. w ∷ []) o.words)
    ∙ ap (λ t. line_words line ∷ t) (own-say law side (standing_after s line) lines all.1)

own-plain : SpacedLine → (side : Side) (s : Standing) (lines : List Line) → AreInOrder side s lines → list_all is_line (map own_line lines) ≡ true
own-plain law side s [] all = refl
own-plain law side s (line ∷ lines) all =
    let o = own law side s.place line all.0.listed in
    rw (o.plain, own-plain law side (standing_after s line) lines all.1) refl

own-cut : SpacedLine → (side : Side) (s : Standing) (lines : List Line) → AreInOrder side s lines → lines_of (text_of_lines lines) ≡ map own_line lines
own-cut law side s [] all = refl
own-cut law side s (line ∷ lines) all =
    let o = own law side s.place line all.0.listed in
    ap lines_of (regrouped (own_line line) 10 (text_of_lines lines))
    ∙ cut (own_line line) (text_of_lines lines) (plain-bytes (own_line line) o.plain)
    ∙ ap (λ t. own_line line ∷ t) (own-cut law side (standing_after s line) lines all.1)
  where
    regrouped : {A : Type 0} (xs : List A) (x : A) (ys : List A) → (xs ++ x ∷ []) ++ ys ≡ xs ++ x ∷ ys
    regrouped [] x ys = refl
    regrouped (y ∷ xs) x ys = ap (λ t. y ∷ t) (regrouped xs x ys)

pub have-lines : SpacedLine → (side : Side) (lines : List Line) → AreInOrder side at_first lines → AreLinesOf side (lines_of (text_of_lines lines)) lines
have-lines law side lines all =
    subst (λ (text : List (List ℕ)). AreLinesOf side text lines) (sym (own-cut law side at_first lines all))
    (record { plain = own-plain law side at_first lines all; say = own-say law side at_first lines all; in_order = all })

pub completed : SpacedLine → LinesCanBeCompleted → (side : Side) (text : List (List ℕ)) (lines : List Line) → AreLinesOf side text lines →
    (more : List (List ℕ)) × (all : List Line) × AreLinesOf side (text ++ more) all × (place_behind Head all ≡ last_place side)
completed law complete side text lines are =
    let more = complete side lines are.in_order in
    let behind : AreInOrder side (standing_behind at_first lines) more.0 = behind-front side at_first lines more.0 more.1 in (
      map own_line more.0,
      lines ++ more.0,
      record {
        plain = plain-append text (map own_line more.0) are.plain (own-plain law side (standing_behind at_first lines) more.0 behind);
        say = counted-append text (map own_line more.0)
            ∙ ap (λ t. t ++ counted_words (map own_line more.0)) are.say
            ∙ ap (λ t. map line_words lines ++ t) (own-say law side (standing_behind at_first lines) more.0 behind)
            ∙ sym (map-append line_words lines more.0);
        in_order = more.1;
      },
      more.2,
    )
