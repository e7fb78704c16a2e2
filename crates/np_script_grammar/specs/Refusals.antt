-- Which line of a text that isn't a script is refused, and why. (This project's own.)
use Rattle.std.specs.Prelude.{◌≡◌, ◌⊎◌, ℕ, ◌+◌, ◌<◌, ◌≤◌, List, [], ◌∷◌, ◌++◌, length, true, false, Some, None}
use Rattle.np_values.specs.declared.name.Side.{Side}
use Rattle.np_values.specs.declared.name.Side.TheVariants as sides
use Rattle.np_script_grammar.specs.declared.page.Page.{Page}
use Rattle.np_script_grammar.specs.declared.plugin.Plugin.{Plugin}
use Rattle.np_script_grammar.specs.declared.refusal.ScriptKind.{ScriptKind}
use Rattle.np_script_grammar.specs.declared.refusal.ScriptKind.TheVariants as kinds
use Rattle.np_script_grammar.specs.declared.refusal.ScriptError.{ScriptError}
use Rattle.np_script_grammar.specs.Words.{lines_of, is_line, words_of}
use Rattle.np_script_grammar.specs.Forms.{Form, Line, Table, form_of, line_words, HasForm, KeepsLimits}
use Rattle.np_script_grammar.specs.Tables.{table_at}
use Rattle.np_script_grammar.specs.Scripts.{IsPageOf, IsPluginOf}
use Rattle.np_script_grammar.specs.Order.{Standing, at_first, counts_after, are_few, standing_after, declares_twice}
use Rattle.np_script_grammar.specs.Grammar.{AreLinesOf, script_limit}

-- the lines are those of a whole script of this side, whatever its size
abbrev pub AreScript : Side → List Line → Type 0
AreScript sides.Page lines = (page : Page) × IsPageOf lines page
AreScript sides.Plug lines = (plugin : Plugin) × IsPluginOf lines plugin

-- some script of this side begins with these lines of text
pub record Begins (side : Side) (text : List (List ℕ)) : Type 0 where
  pub more : List (List ℕ)
  pub lines : List Line
  pub are_lines : AreLinesOf side (text ++ more) lines
  pub whole : AreScript side lines

-- ---- why no script continues with a line

-- the word may stand there, and these fields are of its form and say the line
pub record HasFields (table : Table) (words : List (List ℕ)) (form : Form) (line : Line) : Type 0 where
  pub listed : form_of table line.0 ≡ Some form
  pub spelled : words ≡ line_words line
  pub of_form : HasForm form line.1

-- the first word isn't one that may stand there
pub record IsNoWord (table : Table) (words : List (List ℕ)) : Type 0 where
  pub word : List ℕ
  pub rest : List (List ℕ)
  pub words_are : words ≡ word ∷ rest
  pub unlisted : form_of table word ≡ None

-- the line itself or its count passes a limit
abbrev pub PassesLimit : Standing → Form → Line → Type 0
PassesLimit s form line = ¬ KeepsLimits form line.1 ⊎ (are_few (counts_after s.place s.counts line) ≡ false)

-- the kind of a refusal of a line that follows where a script stands so; the kinds are tried in this order
abbrev pub IsKind : Side → Standing → List ℕ → ScriptKind → Type 0
IsKind side s line kinds.Size = ⊥
IsKind side s line kinds.Bytes = is_line line ≡ false
IsKind side s line kinds.Word = (is_line line ≡ true) × IsNoWord (table_at side s.place) (words_of line)
IsKind side s line kinds.Form =
    (is_line line ≡ true) × ¬ IsNoWord (table_at side s.place) (words_of line)
    × ((form : Form) (l : Line) → ¬ HasFields (table_at side s.place) (words_of line) form l)
IsKind side s line kinds.Limit =
    (is_line line ≡ true) × ((form : Form) × (l : Line) × HasFields (table_at side s.place) (words_of line) form l × PassesLimit s form l)
IsKind side s line kinds.Twice =
    (is_line line ≡ true)
    × ((form : Form) × (l : Line) × HasFields (table_at side s.place) (words_of line) form l × ¬ PassesLimit s form l × (declares_twice s l ≡ true))
IsKind side s line kinds.End = ⊥

abbrev pub standing_behind : Standing → List Line → Standing
standing_behind s [] = s
standing_behind s (line ∷ lines) = standing_behind (standing_after s line) lines

-- The first line at which no script continues: some script begins with the lines before it, and none with these and it.
pub record IsRefusedLine (side : Side) (text : List (List ℕ)) (e : ScriptError) : Type 0 where
  pub before : List (List ℕ)
  pub line : List ℕ
  pub behind : List (List ℕ)
  pub lines : List Line
  pub text_is : text ≡ before ++ line ∷ behind
  pub number : e.line ≡ length before + 1
  pub begins : Begins side before
  pub no_further : ¬ Begins side (before ++ line ∷ [])
  pub so_far : AreLinesOf side before lines
  pub kind : IsKind side (standing_behind at_first lines) line e.kind

-- The text ends where a line must follow: some script begins with it, and it is none.
pub record IsCutOff (side : Side) (text : List (List ℕ)) (e : ScriptError) : Type 0 where
  pub begins : Begins side text
  pub unfinished : (lines : List Line) → AreLinesOf side text lines → ¬ AreScript side lines
  pub number : e.line ≡ length text + 1
  pub kind : e.kind ≡ kinds.End

-- the bytes aren't a script of this side, and this is why
abbrev pub FirstError : Side → List ℕ → ScriptError → Type 0
FirstError side bytes e =
    ((script_limit < length bytes) × (e ≡ record { line = 0; kind = kinds.Size }))
    ⊎ ((length bytes ≤ script_limit) × (IsRefusedLine side (lines_of bytes) e ⊎ IsCutOff side (lines_of bytes) e))
