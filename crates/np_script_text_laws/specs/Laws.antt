-- What holds of the texts of all scripts and of their refusals.
use Rattle.std.specs.Prelude.{◌≡◌, ◌⊎◌, ◌≤◌, ℕ, List, [], ◌∷◌, ◌++◌, length, true, false}
use Rattle.np_values.specs.declared.name.Side.{Side}
use Rattle.np_script_grammar.specs.declared.refusal.ScriptKind.{ScriptKind}
use Rattle.np_script_grammar.specs.declared.refusal.ScriptError.{ScriptError}
use Rattle.np_script_grammar.specs.declared.place.Place.TheVariants.{Head}
use Rattle.np_script_grammar.specs.Words.{lines_of, is_line, words_of, is_skipped}
use Rattle.np_script_grammar.specs.Forms.{Line, line_words}
use Rattle.np_script_grammar.specs.Scripts.{place_behind}
use Rattle.np_script_grammar.specs.Order.{Standing, at_first, MayFollow, AreInOrder}
use Rattle.np_script_grammar.specs.Grammar.{AreLinesOf, text_of_lines}
use Rattle.np_script_grammar.specs.Refusals.{standing_behind, Begins, IsKind, AreScript, FirstError}
use Rattle.np_script_line_laws.specs.Laws.{last_place}

-- The lines of a text say one thing.
abbrev pub OneSay : Type 0
OneSay = (side : Side) (text : List (List ℕ)) (lines others : List Line) → AreLinesOf side text lines → AreLinesOf side text others → lines ≡ others

-- the line says one that may come next
pub record ComesNext (side : Side) (s : Standing) (next : List ℕ) : Type 0 where
  pub line : Line
  pub plain : is_line next ≡ true
  pub says : words_of next ≡ line_words line
  pub may : MayFollow side s line

-- A line that isn't skipped may come next, or has a kind of refusal.
abbrev pub LinesAreJudged : Type 0
LinesAreJudged = (side : Side) (s : Standing) (next : List ℕ) → (is_line next ≡ true → is_skipped (words_of next) ≡ false) → ComesNext side s next ⊎ ((kind : ScriptKind) × IsKind side s next kind)

-- A text continues with a line that may come next.
abbrev pub LinesGoOn : Type 0
LinesGoOn = (side : Side) (text : List (List ℕ)) (lines : List Line) (next : List ℕ) (line : Line) → AreLinesOf side text lines → is_line next ≡ true → is_skipped (words_of next) ≡ false
    → words_of next ≡ line_words line → MayFollow side (standing_behind at_first lines) line → AreLinesOf side (text ++ next ∷ []) (lines ++ line ∷ [])

-- A skipped line says nothing.
abbrev pub SkippedLinesGoOn : Type 0
SkippedLinesGoOn = (side : Side) (text : List (List ℕ)) (lines : List Line) (next : List ℕ) → AreLinesOf side text lines → is_line next ≡ true → is_skipped (words_of next) ≡ true
    → AreLinesOf side (text ++ next ∷ []) lines

-- No script continues with a line that has a kind of refusal, if it isn't skipped.
abbrev pub RefusedLinesEnd : Type 0
RefusedLinesEnd = (side : Side) (text : List (List ℕ)) (lines : List Line) (next : List ℕ) (kind : ScriptKind) → AreLinesOf side text lines
    → (is_line next ≡ true → is_skipped (words_of next) ≡ false) → IsKind side (standing_behind at_first lines) next kind → ¬ Begins side (text ++ next ∷ [])

-- Lines of a text can be continued, to a place where a script may end.
abbrev pub TextsCanBeCompleted : Type 0
TextsCanBeCompleted = (side : Side) (text : List (List ℕ)) (lines : List Line) → AreLinesOf side text lines →
    (more : List (List ℕ)) × (all : List Line) × AreLinesOf side (text ++ more) all × (place_behind Head all ≡ last_place side)

-- Lines in order are the lines of their text.
abbrev pub TextsHaveTheirLines : Type 0
TextsHaveTheirLines = (side : Side) (lines : List Line) → AreInOrder side at_first lines → AreLinesOf side (lines_of (text_of_lines lines)) lines

-- A text has no more lines that count than bytes.
abbrev pub LinesAreFew : Type 0
LinesAreFew = (side : Side) (bytes : List ℕ) (lines : List Line) → AreLinesOf side (lines_of bytes) lines → length lines ≤ length bytes

-- A text is refused for one error.
abbrev pub OneRefusal : Type 0
OneRefusal = (side : Side) (bytes : List ℕ) (e f : ScriptError) → FirstError side bytes e → FirstError side bytes f → e ≡ f

-- A text that is refused isn't a script.
abbrev pub RefusedTextsAreNoScripts : Type 0
RefusedTextsAreNoScripts = (side : Side) (bytes : List ℕ) (e : ScriptError) (lines : List Line) → FirstError side bytes e → length bytes ≤ 1048576
    → AreLinesOf side (lines_of bytes) lines → ¬ AreScript side lines
