-- A text is a script, or has a first error.
use Rattle.std.proofs.Common.{◌≡◌, ◌⊎◌, inl, inr, ℕ, ◌+◌, ◌<◌, ◌≤◌, List, [], ◌∷◌, ◌++◌, length, Bool, true, false, nat_le, refl, sym, subst, arith}
use Rattle.std.proofs.lemmas.Bool.Decides.{nat_tests}
use Rattle.np_values.specs.declared.name.Side.{Side}
use Rattle.np_values.specs.declared.name.Side.TheVariants as sides
use Rattle.np_script_grammar.specs.declared.refusal.ScriptKind.{ScriptKind}
use Rattle.np_script_grammar.specs.declared.refusal.ScriptKind.TheVariants as kinds
use Rattle.np_script_grammar.specs.declared.refusal.ScriptError.{ScriptError}
use Rattle.np_script_grammar.specs.declared.place.Place.{Place}
use Rattle.np_script_grammar.specs.declared.place.Place.TheVariants.{Head, Top, Class, MemberBody, Body, Commands}
use Rattle.np_script_grammar.specs.Words.{lines_of, is_line, words_of, is_skipped}
use Rattle.np_script_grammar.specs.Forms.{Line}
use Rattle.np_script_grammar.specs.Scripts.{place_behind}
use Rattle.np_script_grammar.specs.Order.{at_first}
use Rattle.np_script_grammar.specs.declared.page.Page.{Page}
use Rattle.np_script_grammar.specs.declared.plugin.Plugin.{Plugin}
use Rattle.np_script_grammar.specs.Grammar.{AreLinesOf, IsPageScript, IsPluginScript, script_limit}
use Rattle.np_script_grammar.specs.Refusals.{standing_behind, IsKind, AreScript, IsRefusedLine, IsCutOff, FirstError}
use Rattle.np_script_line_laws.specs.Laws.{last_place}
use Rattle.np_script_text_laws.specs.Laws.{TextsCanBeCompleted, RefusedLinesEnd, OneSay, LinesGoOn, SkippedLinesGoOn, ComesNext, LinesAreJudged}
use Rattle.np_script_builder.specs.Laws.{PagesAreBuilt, PluginsAreBuilt}
use Rattle.np_script.specs.Laws.{PagesAreDecided, PluginsAreDecided}
use Rattle.np_script.proofs.WholeTexts.{Builds, whole, regrouped, append-nothing, is-refused, is-cut-off, too-long}

-- the laws that this rests on
pub record Rests : Type 0 where
  pub builds : Builds
  pub pages : PagesAreBuilt
  pub plugins : PluginsAreBuilt
  pub complete : TextsCanBeCompleted
  pub one : OneSay
  pub judged : LinesAreJudged
  pub go_on : LinesGoOn
  pub skip : SkippedLinesGoOn
  pub end : RefusedLinesEnd

-- the text is that of a whole script, or has a first error
abbrev Outcome : Side → List (List ℕ) → Type 0
Outcome side text = ((lines : List Line) × AreLinesOf side text lines × AreScript side lines) ⊎ ((e : ScriptError) × (IsRefusedLine side text e ⊎ IsCutOff side text e))

may_end : (side : Side) (place : Place) → (place ≡ last_place side) ⊎ (place ≡ last_place side → ⊥)
may_end sides.Page Head = inr (λ e. cc)
may_end sides.Page Top = inr (λ e. cc)
may_end sides.Page Class = inr (λ e. cc)
may_end sides.Page MemberBody = inr (λ e. cc)
may_end sides.Page Body = inr (λ e. cc)
may_end sides.Page Commands = inl refl
may_end sides.Plug Head = inr (λ e. cc)
may_end sides.Plug Top = inl refl
may_end sides.Plug Class = inr (λ e. cc)
may_end sides.Plug MemberBody = inr (λ e. cc)
may_end sides.Plug Body = inr (λ e. cc)
may_end sides.Plug Commands = inr (λ e. cc)

at_end : Rests → (side : Side) (text : List (List ℕ)) (lines : List Line) → AreLinesOf side text lines → Outcome side text
at_end rests side text lines are = by (may_end side (place_behind Head lines))
  where
    by : (place_behind Head lines ≡ last_place side) ⊎ (place_behind Head lines ≡ last_place side → ⊥) → Outcome side text
    by (inl last) = inl (lines, are, whole rests.builds side lines are.in_order last)
    by (inr other) =
        inr (record { line = length text + 1; kind = kinds.End }, inr (is-cut-off rests.builds rests.pages rests.plugins rests.complete rests.one side text lines (length text + 1) are other refl))

-- at one line, where the text up to it goes on with `again`
at_line : Rests → (side : Side) (text behind : List (List ℕ)) (line : List ℕ) (lines : List Line) → AreLinesOf side text lines
    → ((more : List Line) → AreLinesOf side (text ++ line ∷ []) more → Outcome side (text ++ line ∷ behind)) → Outcome side (text ++ line ∷ behind)
at_line rests side text behind line lines are again = by (is_line line) (is_skipped (words_of line)) refl refl
  where
    counted : (is_line line ≡ true → is_skipped (words_of line) ≡ false)
        → ComesNext side (standing_behind at_first lines) line ⊎ ((kind : ScriptKind) × IsKind side (standing_behind at_first lines) line kind) → Outcome side (text ++ line ∷ behind)
    counted counts (inl next) = again (lines ++ next.line ∷ []) (rests.go_on side text lines line next.line are next.plain (counts next.plain) next.says next.may)
    counted counts (inr refused) =
        inr (
          record { line = length text + 1; kind = refused.0 },
          inl (is-refused rests.builds rests.complete rests.end side text behind line lines (length text + 1) refused.0 are (record { is_kind = refused.1; counts = counts }) refl),
        )

    judge : (is_line line ≡ true → is_skipped (words_of line) ≡ false) → Outcome side (text ++ line ∷ behind)
    judge counts = counted counts (rests.judged side (standing_behind at_first lines) line counts)

    by : (plain skipped : Bool) → is_line line ≡ plain → is_skipped (words_of line) ≡ skipped → Outcome side (text ++ line ∷ behind)
    by true true e f = again lines (rests.skip side text lines line are e f)
    by true false e f = judge (λ plain. f)
    by false skipped e f = judge (λ plain. absurd cc)

judged_on : Rests → (side : Side) (text left : List (List ℕ)) (lines : List Line) → AreLinesOf side text lines → Outcome side (text ++ left)
judged_on rests side text [] lines are = subst (Outcome side) (sym (append-nothing text)) (at_end rests side text lines are)
judged_on rests side text (line ∷ left) lines are =
    at_line rests side text left line lines are (λ more are_more. subst (Outcome side) (sym (regrouped text line left)) (judged_on rests side (text ++ line ∷ []) left more are_more))

decided : Rests → (side : Side) (bytes : List ℕ)
    → ((length bytes ≤ script_limit) × ((lines : List Line) × AreLinesOf side (lines_of bytes) lines × AreScript side lines)) ⊎ ((e : ScriptError) × FirstError side bytes e)
decided rests side bytes = by (nat_le (length bytes) script_limit) refl
  where
    few : nat_le (length bytes) script_limit ≡ true → length bytes ≤ script_limit
    few e = grind (arith, nat_tests)

    many : nat_le (length bytes) script_limit ≡ false → script_limit < length bytes
    many e = grind (arith, nat_tests)

    of_text : length bytes ≤ script_limit → Outcome side (lines_of bytes)
        → ((length bytes ≤ script_limit) × ((lines : List Line) × AreLinesOf side (lines_of bytes) lines × AreScript side lines)) ⊎ ((e : ScriptError) × FirstError side bytes e)
    of_text short (inl script) = inl (short, script)
    of_text short (inr error) = inr (error.0, inr (short, error.1))

    by : (t : Bool) → nat_le (length bytes) script_limit ≡ t
        → ((length bytes ≤ script_limit) × ((lines : List Line) × AreLinesOf side (lines_of bytes) lines × AreScript side lines)) ⊎ ((e : ScriptError) × FirstError side bytes e)
    by true e = of_text (few e) (judged_on rests side [] (lines_of bytes) [] (record { plain = refl; say = refl; in_order = tt }))
    by false e = inr (record { line = 0; kind = kinds.Size }, too-long side bytes (many e))

pub pages_decided : Rests → PagesAreDecided
pages_decided rests bytes = by (decided rests sides.Page bytes)
  where
    by : ((length bytes ≤ script_limit) × ((lines : List Line) × AreLinesOf sides.Page (lines_of bytes) lines × AreScript sides.Page lines)) ⊎ ((e : ScriptError) × FirstError sides.Page bytes e)
        → ((page : Page) × IsPageScript bytes page) ⊎ ((e : ScriptError) × FirstError sides.Page bytes e)
    by (inl script) = inl (script.1.2.0, record { size = script.0; lines = script.1.0; are_lines = script.1.1; says = script.1.2.1 })
    by (inr error) = inr error

pub plugins_decided : Rests → PluginsAreDecided
plugins_decided rests bytes = by (decided rests sides.Plug bytes)
  where
    by : ((length bytes ≤ script_limit) × ((lines : List Line) × AreLinesOf sides.Plug (lines_of bytes) lines × AreScript sides.Plug lines)) ⊎ ((e : ScriptError) × FirstError sides.Plug bytes e)
        → ((plugin : Plugin) × IsPluginScript bytes plugin) ⊎ ((e : ScriptError) × FirstError sides.Plug bytes e)
    by (inl script) = inl (script.1.2.0, record { size = script.0; lines = script.1.0; are_lines = script.1.1; says = script.1.2.1 })
    by (inr error) = inr error
