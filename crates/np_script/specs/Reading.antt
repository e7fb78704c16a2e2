-- How far a script was read.
use Rattle.std.specs.Prelude.{◌≡◌, ℕ, List, [], ◌∷◌, ◌++◌, true, false, Result, Ok, Err, Some}
use Rattle.np_values.specs.declared.name.Side.{Side}
use Rattle.np_script_grammar.specs.declared.refusal.ScriptKind.{ScriptKind}
use Rattle.np_script_grammar.specs.declared.refusal.ScriptKind.TheVariants as kinds
use Rattle.np_script_grammar.specs.Words.{is_line, words_of, is_skipped}
use Rattle.np_script_grammar.specs.Forms.{Form, Line, form_of, line_words}
use Rattle.np_script_grammar.specs.Tables.{table_at}
use Rattle.np_script_grammar.specs.Order.{Standing, at_first, standing_after, declares_twice, MayFollow}
use Rattle.np_script_grammar.specs.Grammar.{AreLinesOf}
use Rattle.np_script_grammar.specs.Refusals.{standing_behind, HasFields, IsNoWord, PassesLimit, IsKind}
use Rattle.np_script_builder.specs.declared.state.Building.{Building}
use Rattle.np_script_builder.specs.Building.{built_after, built}
use Rattle.np_script.specs.declared.read.LineError.{LineError}
use Rattle.np_script.specs.declared.read.LineError.TheVariants as errors

-- ---- the words of one line

-- each line that may come next builds something
abbrev pub CanBuild : Side → Standing → Building → Type 0
CanBuild side order building = (line : Line) → MayFollow side order line → (b : Building) × (built_after order.place building line ≡ Some b)

-- the words say a line that may come next, and this was built of it
pub record GoesOn (side : Side) (order : Standing) (building : Building) (words : List (List ℕ)) (order1 : Standing) (building1 : Building) : Type 0 where
  pub line : Line
  pub says : words ≡ line_words line
  pub may : MayFollow side order line
  pub stands : order1 ≡ standing_after order line
  pub builds : built_after order.place building line ≡ Some building1

-- the kind of a refusal that the words have
abbrev pub HasKind : Side → Standing → List (List ℕ) → ScriptKind → Type 0
HasKind side s words kinds.Size = ⊥
HasKind side s words kinds.Bytes = ⊥
HasKind side s words kinds.Word = IsNoWord (table_at side s.place) words
HasKind side s words kinds.Form = ¬ IsNoWord (table_at side s.place) words × ((form : Form) (l : Line) → ¬ HasFields (table_at side s.place) words form l)
HasKind side s words kinds.Limit = (form : Form) × (l : Line) × HasFields (table_at side s.place) words form l × PassesLimit s form l
HasKind side s words kinds.Twice = (form : Form) × (l : Line) × HasFields (table_at side s.place) words form l × ¬ PassesLimit s form l × (declares_twice s l ≡ true)
HasKind side s words kinds.End = ⊥

-- Reading these words takes memory: the first may stand there, and others follow or the line is accepted.
pub record WordsTakeMemory (side : Side) (s : Standing) (words : List (List ℕ)) : Type 0 where
  pub word : List ℕ
  pub others : List (List ℕ)
  pub words_are : words ≡ word ∷ others
  pub form : Form
  pub listed : form_of (table_at side s.place) word ≡ Some form
  pub accepted : others ≡ [] → MayFollow side s (word, [])

-- the words were read, or refused, or memory ran out where they take some
abbrev pub ReadsWords : Side → Standing → Building → List (List ℕ) → Standing → Building → Result (Unit {0}) LineError → Type 0
ReadsWords side order building words order1 building1 (Ok done) = GoesOn side order building words order1 building1
ReadsWords side order building words order1 building1 (Err (errors.Refused kind)) = HasKind side order words kind
ReadsWords side order building words order1 building1 (Err errors.NoMemory) = WordsTakeMemory side order words

-- ---- the lines of a text

-- these lines of text were read: they stand so, and this was built of them
pub record HasRead (side : Side) (text : List (List ℕ)) (order : Standing) (building : Building) : Type 0 where
  pub lines : List Line
  pub are_lines : AreLinesOf side text lines
  pub standing : order ≡ standing_behind at_first lines
  pub builds : built lines ≡ Some building

-- a line has this kind, and isn't skipped
pub record Refuses (side : Side) (order : Standing) (line : List ℕ) (kind : ScriptKind) : Type 0 where
  pub is_kind : IsKind side order line kind
  pub counts : is_line line ≡ true → is_skipped (words_of line) ≡ false

-- a line was read after any text that led there, or refused, or memory ran out where its words take some
abbrev pub ReadsLine : Side → Standing → Building → List ℕ → Standing → Building → Result (Unit {0}) LineError → Type 0
ReadsLine side order building line order1 building1 (Ok done) = (text : List (List ℕ)) → HasRead side text order building → HasRead side (text ++ line ∷ []) order1 building1
ReadsLine side order building line order1 building1 (Err (errors.Refused kind)) = Refuses side order line kind
ReadsLine side order building line order1 building1 (Err errors.NoMemory) = (is_line line ≡ true) × WordsTakeMemory side order (words_of line)

-- Memory may run out while a text is read: lines of a script come first, and then one whose words take memory.
pub record CanRunOut (side : Side) (text : List (List ℕ)) : Type 0 where
  pub before : List (List ℕ)
  pub line : List ℕ
  pub behind : List (List ℕ)
  pub lines : List Line
  pub text_is : text ≡ before ++ line ∷ behind
  pub so_far : AreLinesOf side before lines
  pub plain : is_line line ≡ true
  pub takes : WordsTakeMemory side (standing_behind at_first lines) (words_of line)
