-- A line may come next, or has a kind of refusal.
use Rattle.std.proofs.Common.{◌≡◌, ◌⊎◌, inl, inr, ℕ, ◌+◌, ◌*◌, ◌≤◌, List, [], ◌∷◌, length, map, Bool, true, false, nat_le, Option, Some, None, refl, ap, sym, ◌∙◌, subst, true≢false, arith}
use Rattle.std.specs.List.{list_all}
use Rattle.std.proofs.lemmas.Bool.Decides.{nat_tests}
use Rattle.np_values.specs.declared.name.Side.{Side}
use Rattle.np_script_grammar.specs.declared.refusal.ScriptKind.{ScriptKind}
use Rattle.np_script_grammar.specs.declared.refusal.ScriptKind.TheVariants as kinds
use Rattle.np_script_grammar.specs.declared.line.Field.{Field}
use Rattle.np_script_grammar.specs.Fields.{field_word, is_short}
use Rattle.np_script_grammar.specs.Words.{is_line, words_of, is_skipped}
use Rattle.np_script_grammar.specs.Forms.{Form, Line, Table, form_of, line_words, HasForm, KeepsLimits}
use Rattle.np_script_grammar.specs.Tables.{table_at}
use Rattle.np_script_grammar.specs.Order.{Standing, counts_after, are_few, declares_twice}
use Rattle.np_script_grammar.specs.Refusals.{HasFields, IsNoWord, PassesLimit, IsKind}
use Rattle.np_script_words.specs.Laws.{FieldsAreDecided}
use Rattle.np_script_text_laws.specs.Laws.{ComesNext, LinesAreJudged}

-- a word that the table has is no other
is_a_word : (table : Table) (word : List ℕ) (words : List (List ℕ)) (form : Form) → form_of table word ≡ Some form → ¬ IsNoWord table (word ∷ words)
is_a_word table word words form listed none = some_none (sym listed ∙ sym (ap (form_of table) (heads (sym none.words_are))) ∙ none.unlisted)
  where
    heads : none.word ∷ none.rest ≡ word ∷ words → none.word ≡ word
    heads e = cc

    some_none : Some form ≡ None → ⊥
    some_none e = cc

no_fields : (table : Table) (word : List ℕ) (words : List (List ℕ)) (form : Form) → form_of table word ≡ Some form → ((all : List Field) → words ≡ map field_word all → ¬ HasForm form all)
    → (f : Form) (l : Line) → ¬ HasFields table (word ∷ words) f l
no_fields table word words form listed none f l has =
    let word_is : l.0 ≡ word = heads has.spelled in
    none l.1 (tails has.spelled) (subst (λ (x : Form). HasForm x l.1) (same_form (sym has.listed ∙ ap (form_of table) word_is ∙ listed)) has.of_form)
  where
    heads : word ∷ words ≡ line_words l → l.0 ≡ word
    heads e = cc

    tails : word ∷ words ≡ line_words l → words ≡ map field_word l.1
    tails e = cc

    same_form : Some f ≡ Some form → f ≡ form
    same_form e = cc

limits : (form : Form) (all : List Field) → KeepsLimits form all ⊎ ¬ KeepsLimits form all
limits form all = by (list_all is_short all) (nat_le (length all) most) refl refl
  where
    most : ℕ
    most = length form.items + form.most * length form.group

    fits : nat_le (length all) most ≡ true → length all ≤ most
    fits e = grind (arith, nat_tests)

    passes : nat_le (length all) most ≡ false → ¬ (length all ≤ most)
    passes e le = absurd (grind (arith, nat_tests))

    by : (short few : Bool) → list_all is_short all ≡ short → nat_le (length all) most ≡ few → KeepsLimits form all ⊎ ¬ KeepsLimits form all
    by true true e f = inl (record { short = e; few = fits f })
    by true false e f = inr (λ keeps. passes f keeps.few)
    by false few e f = inr (λ keeps. true≢false (sym keeps.short ∙ e))

-- ---- a line whose word and fields are there

abbrev Judged : Side → Standing → List ℕ → Type 0
Judged side s next = ComesNext side s next ⊎ ((kind : ScriptKind) × IsKind side s next kind)

with_fields : (side : Side) (s : Standing) (next : List ℕ) (form : Form) (l : Line) → is_line next ≡ true → HasFields (table_at side s.place) (words_of next) form l → Judged side s next
with_fields side s next form l plain has = by (limits form l.1) (are_few (counts_after s.place s.counts l)) (declares_twice s l) refl refl
  where
    by : KeepsLimits form l.1 ⊎ ¬ KeepsLimits form l.1 → (few twice : Bool) → are_few (counts_after s.place s.counts l) ≡ few → declares_twice s l ≡ twice → Judged side s next
    by (inr passes) few twice e f = inr (kinds.Limit, (plain, (form, l, has, inl passes)))
    by (inl keeps) false twice e f = inr (kinds.Limit, (plain, (form, l, has, inr e)))
    by (inl keeps) true true e f = inr (kinds.Twice, (plain, (form, l, has, kept, f)))
      where
        kept : ¬ PassesLimit s form l
        kept (inl passes) = passes keeps
        kept (inr many) = true≢false (sym e ∙ many)
    by (inl keeps) true false e f =
        inl (record { line = l; plain = plain; says = has.spelled; may = record { listed = record { form = form; listed = has.listed; of_form = has.of_form; within = keeps }; few = e; new = f } })

with_word : FieldsAreDecided → (side : Side) (s : Standing) (next word : List ℕ) (words : List (List ℕ)) → is_line next ≡ true → words_of next ≡ word ∷ words → Judged side s next
with_word decided side s next word words plain are = by (form_of (table_at side s.place) word) refl
  where
    table : Table
    table = table_at side s.place

    by : (found : Option Form) → form_of table word ≡ found → Judged side s next
    by None e = inr (kinds.Word, (plain, record { word = word; rest = words; words_are = are; unlisted = e }))
    by (Some form) e = of_form (decided form words)
      where
        of_form : ((all : List Field) × (words ≡ map field_word all) × HasForm form all) ⊎ ((all : List Field) → words ≡ map field_word all → ¬ HasForm form all) → Judged side s next
        of_form (inl said) = with_fields side s next form (word, said.0) plain (record { listed = e; spelled = are ∙ ap (λ ws. word ∷ ws) said.1; of_form = said.2 })
        of_form (inr none) = inr (
          kinds.Form,
          (
            plain,
            subst (λ (ws : List (List ℕ)). ¬ IsNoWord table ws) (sym are) (is_a_word table word words form e),
            subst (λ (ws : List (List ℕ)). (f : Form) (l : Line) → ¬ HasFields table ws f l) (sym are) (no_fields table word words form e none),
          ),
        )

pub judged : FieldsAreDecided → LinesAreJudged
judged decided side s next counts = by (is_line next) refl
  where
    some : is_line next ≡ true → (words : List (List ℕ)) → words_of next ≡ words → Judged side s next
    some plain [] are = absurd (true≢false (sym (ap is_skipped are) ∙ counts plain))
    some plain (word ∷ words) are = with_word decided side s next word words plain are

    by : (plain : Bool) → is_line next ≡ plain → Judged side s next
    by false e = inr (kinds.Bytes, e)
    by true e = some e (words_of next) refl
