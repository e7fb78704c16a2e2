-- No script goes on with a line that has a kind of refusal.
use Rattle.std.proofs.Common.{◌≡◌, inl, inr, ℕ, List, [], ◌∷◌, ◌++◌, map, true, false, Some, None, refl, ap, sym, ◌∙◌, subst}
use Rattle.std.specs.List.{list_all}
use Rattle.std.proofs.lemmas.List.Folds.{list_all-append}
use Rattle.std.proofs.lemmas.Bool.{and_parts}
use Rattle.np_values.specs.declared.name.Side.{Side}
use Rattle.np_script_grammar.specs.declared.refusal.ScriptKind.{ScriptKind}
use Rattle.np_script_grammar.specs.declared.refusal.ScriptKind.TheVariants as kinds
use Rattle.np_script_grammar.specs.Words.{is_line, words_of, is_skipped}
use Rattle.np_script_grammar.specs.Forms.{Form, Line, Table, form_of, line_words, KeepsLimits}
use Rattle.np_script_grammar.specs.Tables.{table_at}
use Rattle.np_script_grammar.specs.Order.{Standing, at_first, standing_after, counts_after, are_few, declares_twice, MayFollow, AreInOrder}
use Rattle.np_script_grammar.specs.Grammar.{counted_words, AreLinesOf}
use Rattle.np_script_grammar.specs.Refusals.{standing_behind, Begins, HasFields, IsNoWord, PassesLimit, IsKind}
use Rattle.np_script_words.specs.Laws.{HasFormAt, OneLine}
use Rattle.np_script_text_laws.proofs.TextLines.{counted-append, counted-one}
use Rattle.np_script_text_laws.proofs.OneSet.{front-is}

-- a line that may come next and has these words
record Follows (side : Side) (s : Standing) (next : List ℕ) : Type 0 where
  line : Line
  words : words_of next ≡ line_words line
  may : MayFollow side s line

fields-at : (side : Side) (s : Standing) (next : List ℕ) (form : Form) (l : Line) → HasFields (table_at side s.place) (words_of next) form l → HasFormAt side s.place l
fields-at side s next form l has = record { form = form; listed = has.listed; of_form = has.of_form }

-- the fields of such a line are the only ones that its words spell, and of the one form
pub only-line : OneLine → (side : Side) (s : Standing) (next : List ℕ) (f g : Form) (l m : Line) → HasFields (table_at side s.place) (words_of next) f l → HasFields (table_at side s.place) (words_of next) g m → l ≡ m
only-line law side s next f g l m a b = law side s.place l m (fields-at side s next f l a) (fields-at side s next g m b) (sym a.spelled ∙ b.spelled)

pub only-form : (table : Table) (f g : Form) (l m : Line) → form_of table l.0 ≡ Some f → form_of table m.0 ≡ Some g → l ≡ m → f ≡ g
only-form table f g l m a b e =
    let somes : Some f ≡ Some g = sym a ∙ ap (λ (x : Line). form_of table x.0) e ∙ b in
    cc

has-fields : (side : Side) (s : Standing) (next : List ℕ) (f : Follows side s next) → HasFields (table_at side s.place) (words_of next) f.may.listed.form f.line
has-fields side s next f = record { listed = f.may.listed.listed; spelled = f.words; of_form = f.may.listed.of_form }

-- a word that the table has is no other
listed-word : (side : Side) (s : Standing) (next : List ℕ) → Follows side s next → ¬ IsNoWord (table_at side s.place) (words_of next)
listed-word side s next f none =
    let same : none.word ≡ f.line.0 = heads (sym none.words_are ∙ f.words) in
    let listed : form_of (table_at side s.place) none.word ≡ Some f.may.listed.form = ap (form_of (table_at side s.place)) same ∙ f.may.listed.listed in
    some-none f.may.listed.form (sym listed ∙ none.unlisted)
  where
    heads : none.word ∷ none.rest ≡ line_words f.line → none.word ≡ f.line.0
    heads e = cc

    some-none : (form : Form) → Some form ≡ None → ⊥
    some-none form e = cc

within-limits : OneLine → (side : Side) (s : Standing) (next : List ℕ) (f : Follows side s next) (form : Form) (l : Line) → HasFields (table_at side s.place) (words_of next) form l → ¬ PassesLimit s form l
within-limits law side s next f form l has passes =
    let same : f.line ≡ l = only-line law side s next f.may.listed.form form f.line l (has-fields side s next f) has in
    let forms : f.may.listed.form ≡ form = only-form (table_at side s.place) f.may.listed.form form f.line l f.may.listed.listed has.listed same in
    by_case same forms passes
  where
    by_case : f.line ≡ l → f.may.listed.form ≡ form → PassesLimit s form l → ⊥
    by_case same forms (inl exceeds) = exceeds (subst (λ (x : Form). KeepsLimits x l.1) forms (subst (λ (x : Line). KeepsLimits f.may.listed.form x.1) same f.may.listed.within))
    by_case same forms (inr many) =
        let few : are_few (counts_after s.place s.counts l) ≡ true = subst (λ (x : Line). are_few (counts_after s.place s.counts x) ≡ true) same f.may.few in
        true-false (sym few ∙ many)
      where
        true-false : true ≡ false → ⊥
        true-false e = cc

-- such a line has no kind of refusal
not-refused : OneLine → (side : Side) (s : Standing) (next : List ℕ) (kind : ScriptKind) → is_line next ≡ true → Follows side s next → IsKind side s next kind → ⊥
not-refused law side s next kinds.Size plain f is = is
not-refused law side s next kinds.Bytes plain f is = absurd cc
not-refused law side s next kinds.Word plain f is = listed-word side s next f is.1
not-refused law side s next kinds.Form plain f is = is.2 f.may.listed.form f.line (has-fields side s next f)
not-refused law side s next kinds.Limit plain f is = within-limits law side s next f is.1.0 is.1.1 is.1.2 is.1.3
not-refused law side s next kinds.Twice plain f is =
    let same : f.line ≡ is.1.1 = only-line law side s next f.may.listed.form is.1.0 f.line is.1.1 (has-fields side s next f) is.1.2 in
    let new : declares_twice s is.1.1 ≡ false = subst (λ (x : Line). declares_twice s x ≡ false) same f.may.new in
    true-false (sym is.1.4 ∙ new)
  where
    true-false : true ≡ false → ⊥
    true-false e = cc
not-refused law side s next kinds.End plain f is = is

-- the line behind lines in order that stand in a text
pub behind-front : (side : Side) (s : Standing) (front rest : List Line) → AreInOrder side s (front ++ rest) → AreInOrder side (standing_behind s front) rest
behind-front side s [] rest all = all
behind-front side s (line ∷ front) rest all = behind-front side (standing_after s line) front rest all.1

first-follows : (side : Side) (s : Standing) (next : List ℕ) (rest : List Line) (words : List (List (List ℕ))) → AreInOrder side s rest → map line_words rest ≡ words_of next ∷ words → Follows side s next
first-follows side s next [] words all e = absurd cc
first-follows side s next (line ∷ rest) words all e = record { line = line; words = heads e; may = all.0 }
  where
    heads : line_words line ∷ map line_words rest ≡ words_of next ∷ words → words_of next ≡ line_words line
    heads e = cc

next-plain : (text more : List (List ℕ)) (next : List ℕ) → list_all is_line ((text ++ next ∷ []) ++ more) ≡ true → is_line next ≡ true
next-plain text more next e =
    let front = and_parts (list_all is_line (text ++ next ∷ [])) (list_all is_line more) (sym (list_all-append is_line (text ++ next ∷ []) more) ∙ e) in
    let both = and_parts (list_all is_line text) (list_all is_line (next ∷ [])) (sym (list_all-append is_line text (next ∷ [])) ∙ front.0) in
    (and_parts (is_line next) true both.1).0

pub ends : OneLine → (side : Side) (text : List (List ℕ)) (lines : List Line) (next : List ℕ) (kind : ScriptKind) → AreLinesOf side text lines
    → (is_line next ≡ true → is_skipped (words_of next) ≡ false) → IsKind side (standing_behind at_first lines) next kind → ¬ Begins side (text ++ next ∷ [])
ends law side text lines next kind are counts is begins =
    let plain : is_line next ≡ true = next-plain text begins.more next begins.are_lines.plain in
    let words : counted_words ((text ++ next ∷ []) ++ begins.more) ≡ map line_words lines ++ words_of next ∷ counted_words begins.more =
    counted-append (text ++ next ∷ []) begins.more
    ∙ ap (λ t. t ++ counted_words begins.more) (counted-append text (next ∷ []))
    ∙ ap (λ t. (counted_words text ++ t) ++ counted_words begins.more) (counted-one next (counts plain))
    ∙ ap (λ t. (t ++ words_of next ∷ []) ++ counted_words begins.more) are.say
    ∙ regrouped (map line_words lines) (words_of next) (counted_words begins.more) in
    let behind = front-is law side at_first lines begins.lines (words_of next ∷ counted_words begins.more) are.in_order begins.are_lines.in_order (sym begins.are_lines.say ∙ words) in
    let rest : AreInOrder side (standing_behind at_first lines) behind.0 = behind-front side at_first lines behind.0 (subst (AreInOrder side at_first) behind.1 begins.are_lines.in_order) in
    not-refused law side (standing_behind at_first lines) next kind plain (first-follows side (standing_behind at_first lines) next behind.0 (counted_words begins.more) rest behind.2) is
  where
    regrouped : {A : Type 0} (xs : List A) (x : A) (ys : List A) → (xs ++ x ∷ []) ++ ys ≡ xs ++ x ∷ ys
    regrouped [] x ys = refl
    regrouped (y ∷ xs) x ys = ap (λ t. y ∷ t) (regrouped xs x ys)
