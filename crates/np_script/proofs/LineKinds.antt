-- What the words of one line say, and why they are refused.
use Rattle.std.proofs.Common.{◌≡◌, ◌<◌, inl, ℕ, List, [], ◌∷◌, ◌++◌, length, map, true, false, ◌==◌, Result, Ok, Err, Some, None, slice_index_or, refl, ap, sym, ◌∙◌, subst, arith}
use Rattle.np_values.specs.declared.name.Side.{Side}
use Rattle.np_script_grammar.specs.declared.refusal.ScriptKind.{ScriptKind}
use Rattle.np_script_grammar.specs.declared.refusal.ScriptKind.TheVariants as kinds
use Rattle.np_script_grammar.specs.declared.line.Field.{Field}
use Rattle.np_script_grammar.specs.declared.place.Place.{Place}
use Rattle.np_script_grammar.specs.declared.place.Place.TheVariants.{Head}
use Rattle.np_script_grammar.specs.Fields.{field_word}
use Rattle.np_script_grammar.specs.Words.{is_line, words_of, is_skipped}
use Rattle.np_script_grammar.specs.Forms.{Form, Line, Table, form_of, line_words, HasForm, KeepsLimits}
use Rattle.np_script_grammar.specs.Scripts.{place_behind}
use Rattle.np_script_grammar.specs.Order.{Standing, at_first, standing_after, MayFollow}
use Rattle.np_script_grammar.specs.Refusals.{standing_behind, HasFields, IsNoWord, PassesLimit, IsKind}
use Rattle.np_script_words.specs.declared.error.FieldError.{FieldError}
use Rattle.np_script_words.specs.declared.error.FieldError.TheVariants as fields
use Rattle.np_script_words.specs.Reads.{Reads}
use Rattle.np_script_words.specs.Lines.{SaysFields}
use Rattle.np_script_builder.specs.declared.state.Building.{Building}
use Rattle.np_script_builder.specs.Building.{built_after}
use Rattle.np_script_builder.specs.Laws.{BuiltGoesOn}
use Rattle.np_script_text_laws.specs.Laws.{LinesGoOn}
use Rattle.np_script.specs.declared.read.LineError.{LineError}
use Rattle.np_script.specs.declared.read.LineError.TheVariants as errors
use Rattle.np_script.specs.Reading.{GoesOn, HasKind, ReadsWords, HasRead, ReadsLine}

-- ---- the words of a line

pub not-no-word : (table : Table) (word : List ℕ) (words : List (List ℕ)) (form : Form) → form_of table word ≡ Some form → ¬ IsNoWord table (word ∷ words)
not-no-word table word words form listed none =
    let same : none.word ≡ word = heads (sym none.words_are) in
    some-none (sym listed ∙ sym (ap (form_of table) same) ∙ none.unlisted)
  where
    heads : none.word ∷ none.rest ≡ word ∷ words → none.word ≡ word
    heads e = cc

    some-none : Some form ≡ None → ⊥
    some-none e = cc

pub no-fields : (table : Table) (word rest : List ℕ) (form : Form) → form_of table word ≡ Some form → ((all : List Field) → ¬ SaysFields form rest all)
    → (f : Form) (l : Line) → ¬ HasFields table (word ∷ words_of rest) f l
no-fields table word rest form listed none f l has =
    let words : l.0 ≡ word = heads has.spelled in
    let spelled : words_of rest ≡ map field_word l.1 = tails has.spelled in
    let forms : f ≡ form = same-form (sym has.listed ∙ ap (form_of table) words ∙ listed) in
    none l.1 (spelled, subst (λ (x : Form). HasForm x l.1) forms has.of_form)
  where
    heads : word ∷ words_of rest ≡ line_words l → l.0 ≡ word
    heads e = cc

    tails : word ∷ words_of rest ≡ line_words l → words_of rest ≡ map field_word l.1
    tails e = cc

    same-form : Some f ≡ Some form → f ≡ form
    same-form e = cc

-- the answer of a reader of fields that finds none
pub form-error : (form : Form) (rest : List ℕ) (e : FieldError) → e ≡ fields.Form → Reads (SaysFields form rest) (KeepsLimits form) (Err e) → (f : List Field) → ¬ SaysFields form rest f
form-error form rest e is answer = subst (λ (x : FieldError). Reads (SaysFields form rest) (KeepsLimits form) (Err x)) is answer

pub limit-error : (form : Form) (rest : List ℕ) (e : FieldError) → e ≡ fields.Limit → Reads (SaysFields form rest) (KeepsLimits form) (Err e) → (f : List Field) × SaysFields form rest f × ¬ KeepsLimits form f
limit-error form rest e is answer = subst (λ (x : FieldError). Reads (SaysFields form rest) (KeepsLimits form) (Err x)) is answer

pub too-much : (table : Table) (word rest : List ℕ) (form : Form) (s : Standing) → form_of table word ≡ Some form → ((all : List Field) × SaysFields form rest all × ¬ KeepsLimits form all)
    → (f : Form) × (l : Line) × HasFields table (word ∷ words_of rest) f l × PassesLimit s f l
too-much table word rest form s listed said =
    (form, (word, said.0), record { listed = listed; spelled = ap (λ t. word ∷ t) said.1.0; of_form = said.1.1 }, inl said.2)

-- ---- a line of a text

pub counted : (word : List ℕ) (words : List (List ℕ)) → 0 < length word → slice_index_or word 0 0 == 35 ≡ false → is_skipped (word ∷ words) ≡ false
counted [] words some e = absurd (omega arith)
counted (b ∷ bs) words some e = e

last-standing : (s : Standing) (lines : List Line) (line : Line) → standing_behind s (lines ++ line ∷ []) ≡ standing_after (standing_behind s lines) line
last-standing s [] line = refl
last-standing s (first ∷ lines) line = last-standing (standing_after s first) lines line

pub place-is : (s : Standing) (lines : List Line) → (standing_behind s lines).place ≡ place_behind s.place lines
place-is s [] = refl
place-is s (line ∷ lines) = place-is (standing_after s line) lines

goes-on : LinesGoOn → BuiltGoesOn → (side : Side) (order : Standing) (building : Building) (next : List ℕ) (order1 : Standing) (building1 : Building) → is_line next ≡ true → is_skipped (words_of next) ≡ false
    → GoesOn side order building (words_of next) order1 building1 → (text : List (List ℕ)) → HasRead side text order building → HasRead side (text ++ next ∷ []) order1 building1
goes-on law built-law side order building next order1 building1 plain counts g text read =
    let place : order.place ≡ place_behind Head read.lines = ap (λ (s : Standing). s.place) read.standing ∙ place-is at_first read.lines in
    record {
      lines = read.lines ++ g.line ∷ [];
      are_lines = law side text read.lines next g.line read.are_lines plain counts g.says (subst (λ (s : Standing). MayFollow side s g.line) read.standing g.may);
      standing = g.stands ∙ ap (λ (s : Standing). standing_after s g.line) read.standing ∙ sym (last-standing at_first read.lines g.line);
      builds = built-law read.lines g.line building read.builds ∙ ap (λ (p : Place). built_after p building g.line) (sym place) ∙ g.builds;
    }

kind-of : (side : Side) (s : Standing) (next : List ℕ) (kind : ScriptKind) → is_line next ≡ true → HasKind side s (words_of next) kind → IsKind side s next kind
kind-of side s next kinds.Size plain has = has
kind-of side s next kinds.Bytes plain has = absurd has
kind-of side s next kinds.Word plain has = (plain, has)
kind-of side s next kinds.Form plain has = (plain, has.0, has.1)
kind-of side s next kinds.Limit plain has = (plain, has)
kind-of side s next kinds.Twice plain has = (plain, has)
kind-of side s next kinds.End plain has = has

line-of-words : LinesGoOn → BuiltGoesOn → (side : Side) (order : Standing) (building : Building) (next : List ℕ) (order1 : Standing) (building1 : Building) (r : Result (Unit {0}) LineError)
    → is_line next ≡ true → is_skipped (words_of next) ≡ false → ReadsWords side order building (words_of next) order1 building1 r → ReadsLine side order building next order1 building1 r
line-of-words law built-law side order building next order1 building1 (Ok done) plain counts g = goes-on law built-law side order building next order1 building1 plain counts g
line-of-words law built-law side order building next order1 building1 (Err (errors.Refused kind)) plain counts has = record { is_kind = kind-of side order next kind plain has; counts = λ p. counts }
line-of-words law built-law side order building next order1 building1 (Err errors.NoMemory) plain counts has = (plain, has)

pub line-is-read : LinesGoOn → BuiltGoesOn → (side : Side) (order : Standing) (building : Building) (next word : List ℕ) (words : List (List ℕ)) (order1 : Standing) (building1 : Building) (r : Result (Unit {0}) LineError)
    → is_line next ≡ true → words_of next ≡ word ∷ words → 0 < length word → slice_index_or word 0 0 == 35 ≡ false → ReadsWords side order building (word ∷ words) order1 building1 r
    → ReadsLine side order building next order1 building1 r
line-is-read law built-law side order building next word words order1 building1 r plain e some other reads =
    line-of-words law built-law side order building next order1 building1 r plain (ap is_skipped e ∙ counted word words some other)
    (subst (λ (w : List (List ℕ)). ReadsWords side order building w order1 building1 r) (sym e) reads)
