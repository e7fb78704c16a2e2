-- Texts that were read, line by line and whole.
use Rattle.std.proofs.Common.{◌≡◌, ◌⊎◌, inl, inr, ◌≤◌, ◌<◌, ℕ, suc, ◌+◌, List, [], ◌∷◌, ◌++◌, length, Some, Result, Ok, Err, refl, ap, sym, ◌∙◌, subst, arith}
use Rattle.np_values.specs.declared.name.Side.{Side}
use Rattle.np_values.specs.declared.name.Side.TheVariants as sides
use Rattle.np_script_grammar.specs.declared.page.Page.{Page}
use Rattle.np_script_grammar.specs.declared.plugin.Plugin.{Plugin}
use Rattle.np_script_grammar.specs.declared.refusal.ScriptKind.{ScriptKind}
use Rattle.np_script_grammar.specs.declared.refusal.ScriptKind.TheVariants as kinds
use Rattle.np_script_grammar.specs.declared.refusal.ScriptError.{ScriptError}
use Rattle.np_script_grammar.specs.declared.place.Place.{Place}
use Rattle.np_script_grammar.specs.declared.place.Place.TheVariants.{Head}
use Rattle.np_script_grammar.specs.Words.{lines_of, words_of}
use Rattle.np_script_grammar.specs.Forms.{Line}
use Rattle.np_script_grammar.specs.Scripts.{place_behind, IsPageOf, IsPluginOf}
use Rattle.np_script_grammar.specs.Order.{Standing, at_first, standing_after, MayFollow, AreInOrder}
use Rattle.np_script_grammar.specs.Grammar.{AreLinesOf, IsPageScript, IsPluginScript, KeepsPageRules, KeepsPluginRules, script_limit}
use Rattle.np_script_grammar.specs.Refusals.{standing_behind, AreScript, Begins, IsRefusedLine, IsCutOff, FirstError}
use Rattle.np_script_line_laws.specs.Laws.{last_place, CanonicalPagesAreInOrder, CanonicalPluginsAreInOrder}
use Rattle.np_script_text_laws.specs.Laws.{TextsCanBeCompleted, RefusedLinesEnd, OneSay, OneRefusal}
use Rattle.np_script_builder.specs.declared.state.Building.{Building}
use Rattle.np_script_builder.specs.Building.{built_after, page_in, plugin_in}
use Rattle.np_script_builder.specs.Laws.{LinesInOrderAreBuilt, BuiltGoesOn, BuiltPages, BuiltPlugins, PagesAreBuilt, PluginsAreBuilt}
use Rattle.np_script.specs.declared.read.LineError.{LineError}
use Rattle.np_script.specs.declared.read.LineError.TheVariants as errors
use Rattle.np_script.specs.declared.reader.Reader.{Reader}
use Rattle.np_script.specs.Reading.{CanBuild, HasRead, Refuses, ReadsLine, WordsTakeMemory, CanRunOut}
use Rattle.np_script.specs.declared.error.ParseError.{ParseError}
use Rattle.np_script.specs.declared.error.ParseError.TheVariants as parse_errors
use Rattle.np_script.specs.Parsing.{IsFresh, HasReadAll, HasReadScript, ReadsAll, ReadsScript}
use Rattle.np_script.proofs.LineKinds.{place-is}

-- ---- what can be gone on with

pub record Builds : Type 0 where
  pub in_order : LinesInOrderAreBuilt
  pub pages : BuiltPages
  pub plugins : BuiltPlugins

pub whole : Builds → (side : Side) (lines : List Line) → AreInOrder side at_first lines → place_behind Head lines ≡ last_place side → AreScript side lines
whole laws sides.Page lines all place = let b = laws.in_order sides.Page lines all in (page_in b.0, laws.pages lines b.0 all place b.1)
whole laws sides.Plug lines all place = let b = laws.in_order sides.Plug lines all in (plugin_in b.0, laws.plugins lines b.0 all place b.1)

pub begins : Builds → TextsCanBeCompleted → (side : Side) (text : List (List ℕ)) (lines : List Line) → AreLinesOf side text lines → Begins side text
begins laws complete side text lines are =
    let more = complete side text lines are in
    record { more = more.0; lines = more.1; are_lines = more.2; whole = whole laws side more.1 more.2.in_order more.3 }

one-more : (side : Side) (s : Standing) (lines : List Line) (line : Line) → AreInOrder side s lines → MayFollow side (standing_behind s lines) line → AreInOrder side s (lines ++ line ∷ [])
one-more side s [] line all next = (next, tt)
one-more side s (first ∷ lines) line all next = (all.0, one-more side (standing_after s first) lines line all.1 next)

pub can-build : LinesInOrderAreBuilt → BuiltGoesOn → (side : Side) (text : List (List ℕ)) (order : Standing) (building : Building) → HasRead side text order building → CanBuild side order building
can-build in-order on side text order building read line may =
    let next : MayFollow side (standing_behind at_first read.lines) line = subst (λ (s : Standing). MayFollow side s line) read.standing may in
    let b = in-order side (read.lines ++ line ∷ []) (one-more side at_first read.lines line read.are_lines.in_order next) in
    let place : order.place ≡ place_behind Head read.lines = ap (λ (s : Standing). s.place) read.standing ∙ place-is at_first read.lines in
    (b.0, ap (λ (p : Place). built_after p building line) place ∙ sym (on read.lines line building read.builds) ∙ b.1)

-- ---- the lines so far

pub record ReadSoFar (side : Side) (bytes left : List ℕ) (order : Standing) (building : Building) (lines : ℕ) : Type 0 where
  pub text : List (List ℕ)
  pub parts : lines_of bytes ≡ text ++ lines_of left
  pub read : HasRead side text order building
  pub count : lines ≡ length text
  pub few : lines + length left ≤ length bytes

pub nothing-read : (side : Side) (bytes : List ℕ) (reader : Reader) → IsFresh reader → ReadSoFar side bytes bytes reader.order reader.builder reader.lines
nothing-read side bytes reader fresh = record {
  text = [];
  parts = refl;
  read = record { lines = []; are_lines = record { plain = refl; say = refl; in_order = tt }; standing = fresh.stands; builds = ap (λ (b : Building). Some b) (sym fresh.builds) };
  count = fresh.count;
  few = omega (arith, fresh.count);
}

pub regrouped : {A : Type 0} (xs : List A) (x : A) (ys : List A) → xs ++ x ∷ ys ≡ (xs ++ x ∷ []) ++ ys
regrouped [] x ys = refl
regrouped (y ∷ xs) x ys = ap (λ t. y ∷ t) (regrouped xs x ys)

length-one : {A : Type 0} (xs : List A) (x : A) → length (xs ++ x ∷ []) ≡ length xs + 1
length-one [] x = refl
length-one (y ∷ xs) x = ap suc (length-one xs x) ∙ omega arith

pub line-read : (side : Side) (bytes left line rest : List ℕ) (order order1 : Standing) (building building1 : Building) (lines lines1 : ℕ) (done : Unit {0}) → ReadSoFar side bytes left order building lines
    → lines_of left ≡ line ∷ lines_of rest → length rest < length left → lines1 ≡ lines + 1 → ReadsLine side order building line order1 building1 (Ok done) → ReadSoFar side bytes rest order1 building1 lines1
line-read side bytes left line rest order order1 building building1 lines lines1 done so e shorter more reads = record {
  text = so.text ++ line ∷ [];
  parts = so.parts ∙ ap (λ t. so.text ++ t) e ∙ regrouped so.text line (lines_of rest);
  read = reads so.text so.read;
  count = more ∙ ap (λ (n : ℕ). n + 1) so.count ∙ sym (length-one so.text line);
  few = omega (arith, so.few, shorter, more);
}

-- a line of a text that has a kind of refusal
pub is-refused : Builds → TextsCanBeCompleted → RefusedLinesEnd → (side : Side) (text behind : List (List ℕ)) (line : List ℕ) (lines : List Line) (number : ℕ) (kind : ScriptKind) → AreLinesOf side text lines
    → Refuses side (standing_behind at_first lines) line kind → number ≡ length text + 1 → IsRefusedLine side (text ++ line ∷ behind) (record { line = number; kind = kind })
is-refused laws complete end side text behind line lines number kind are refuses count = record {
  before = text;
  line = line;
  behind = behind;
  lines = lines;
  text_is = refl;
  number = count;
  begins = begins laws complete side text lines are;
  no_further = end side text lines line kind are refuses.counts refuses.is_kind;
  so_far = are;
  kind = refuses.is_kind;
}

-- the rest is lines of text behind the line
pub line-refused : Builds → TextsCanBeCompleted → RefusedLinesEnd → (side : Side) (bytes left line rest : List ℕ) (order : Standing) (building : Building) (lines lines1 : ℕ) (kind : ScriptKind)
    → ReadSoFar side bytes left order building lines → lines_of left ≡ line ∷ lines_of rest → lines1 ≡ lines + 1 → Refuses side order line kind → IsRefusedLine side (lines_of bytes) (record { line = lines1; kind = kind })
line-refused laws complete end side bytes left line rest order building lines lines1 kind so e more refuses =
    let refused : Refuses side (standing_behind at_first so.read.lines) line kind = subst (λ (s : Standing). Refuses side s line kind) so.read.standing refuses in
    subst (λ (t : List (List ℕ)). IsRefusedLine side t (record { line = lines1; kind = kind })) (sym (so.parts ∙ ap (λ t. so.text ++ t) e))
    (is-refused laws complete end side so.text (lines_of rest) line so.read.lines lines1 kind so.read.are_lines refused (more ∙ ap (λ (n : ℕ). n + 1) so.count))

-- the answer that a line is refused
pub refusal : (side : Side) (order order1 : Standing) (building building1 : Building) (line : List ℕ) (e : LineError) (kind : ScriptKind) → e ≡ errors.Refused kind → ReadsLine side order building line order1 building1 (Err e) → Refuses side order line kind
refusal side order order1 building building1 line e kind is reads = subst (λ (x : LineError). ReadsLine side order building line order1 building1 (Err x)) is reads

-- memory ran out at the line
pub line-took : (side : Side) (bytes left line rest : List ℕ) (order order1 : Standing) (building building1 : Building) (lines : ℕ) (e : LineError) → e ≡ errors.NoMemory → ReadSoFar side bytes left order building lines
    → lines_of left ≡ line ∷ lines_of rest → ReadsLine side order building line order1 building1 (Err e) → CanRunOut side (lines_of bytes)
line-took side bytes left line rest order order1 building building1 lines e is so parts reads =
    let ran = subst (λ (x : LineError). ReadsLine side order building line order1 building1 (Err x)) is reads in
    record {
      before = so.text;
      line = line;
      behind = lines_of rest;
      lines = so.read.lines;
      text_is = so.parts ∙ ap (λ t. so.text ++ t) parts;
      so_far = so.read.are_lines;
      plain = ran.0;
      takes = subst (λ (s : Standing). WordsTakeMemory side s (words_of line)) so.read.standing ran.1;
    }

pub append-nothing : {A : Type 0} (xs : List A) → xs ++ [] ≡ xs
append-nothing [] = refl
append-nothing (x ∷ xs) = ap (λ t. x ∷ t) (append-nothing xs)

no-bytes : (left : List ℕ) → length left ≡ 0 → lines_of left ≡ []
no-bytes [] e = refl
no-bytes (b ∷ left) e = absurd (omega arith)

pub all-read : (side : Side) (bytes left : List ℕ) (reader : Reader) → ReadSoFar side bytes left reader.order reader.builder reader.lines → length left ≡ 0 → HasReadAll side bytes reader
all-read side bytes left reader so none =
    let same : lines_of bytes ≡ so.text = so.parts ∙ ap (λ t. so.text ++ t) (no-bytes left none) ∙ append-nothing so.text in
    record { read = subst (λ (t : List (List ℕ)). HasRead side t reader.order reader.builder) (sym same) so.read; count = so.count ∙ ap length (sym same); few = omega (arith, so.few) }

-- ---- whole scripts

end-place : (side : Side) (bytes : List ℕ) (reader : Reader) (all : HasReadAll side bytes reader) → reader.order.place ≡ place_behind Head all.read.lines
end-place side bytes reader all = ap (λ (s : Standing). s.place) all.read.standing ∙ place-is at_first all.read.lines

pub page-read : BuiltPages → CanonicalPagesAreInOrder → (bytes : List ℕ) (reader : Reader) → HasReadScript sides.Page bytes reader → IsPageScript bytes (page_in reader.builder) × KeepsPageRules (page_in reader.builder)
page-read built-law canonical bytes reader has =
    let read = has.all.read in
    let says : IsPageOf read.lines (page_in reader.builder) =
    built-law read.lines reader.builder read.are_lines.in_order (sym (end-place sides.Page bytes reader has.all) ∙ has.ends) read.builds in (
      record { size = has.size; lines = read.lines; are_lines = read.are_lines; says = says },
      record { in_order = canonical read.lines (page_in reader.builder) read.are_lines.in_order says; contents = says.contents },
    )

-- the same of a page that is given out
pub page-given : BuiltPages → CanonicalPagesAreInOrder → (bytes : List ℕ) (reader : Reader) (page : Page) → HasReadScript sides.Page bytes reader → page ≡ page_in reader.builder → IsPageScript bytes page × KeepsPageRules page
page-given built-law canonical bytes reader page has is = subst (λ (p : Page). IsPageScript bytes p × KeepsPageRules p) (sym is) (page-read built-law canonical bytes reader has)

pub plugin-read : BuiltPlugins → CanonicalPluginsAreInOrder → (bytes : List ℕ) (reader : Reader) → HasReadScript sides.Plug bytes reader → IsPluginScript bytes (plugin_in reader.builder) × KeepsPluginRules (plugin_in reader.builder)
plugin-read built-law canonical bytes reader has =
    let read = has.all.read in
    let says : IsPluginOf read.lines (plugin_in reader.builder) =
    built-law read.lines reader.builder read.are_lines.in_order (sym (end-place sides.Plug bytes reader has.all) ∙ has.ends) read.builds in (
      record { size = has.size; lines = read.lines; are_lines = read.are_lines; says = says },
      record { in_order = canonical read.lines (plugin_in reader.builder) read.are_lines.in_order says },
    )

pub plugin-given : BuiltPlugins → CanonicalPluginsAreInOrder → (bytes : List ℕ) (reader : Reader) (plugin : Plugin) → HasReadScript sides.Plug bytes reader → plugin ≡ plugin_in reader.builder → IsPluginScript bytes plugin × KeepsPluginRules plugin
plugin-given built-law canonical bytes reader plugin has is = subst (λ (p : Plugin). IsPluginScript bytes p × KeepsPluginRules p) (sym is) (plugin-read built-law canonical bytes reader has)

-- the lines of a script end where a script may
ends-well : PagesAreBuilt → PluginsAreBuilt → (side : Side) (lines : List Line) → AreInOrder side at_first lines → AreScript side lines → place_behind Head lines ≡ last_place side
ends-well pages plugins sides.Page lines all script = (pages lines script.0 all script.1).0
ends-well pages plugins sides.Plug lines all script = (plugins lines script.0 all script.1).0

-- lines after which a script can't end
pub is-cut-off : Builds → PagesAreBuilt → PluginsAreBuilt → TextsCanBeCompleted → OneSay → (side : Side) (text : List (List ℕ)) (lines : List Line) (number : ℕ) → AreLinesOf side text lines
    → (place_behind Head lines ≡ last_place side → ⊥) → number ≡ length text + 1 → IsCutOff side text (record { line = number; kind = kinds.End })
is-cut-off laws pages plugins complete one side text lines number are place count = record {
  begins = begins laws complete side text lines are;
  unfinished = λ others alike script.
      let same : lines ≡ others = one side text lines others are alike in
      place (ap (place_behind Head) same ∙ ends-well pages plugins side others alike.in_order script);
  number = count;
  kind = refl;
}

pub cut-off : Builds → PagesAreBuilt → PluginsAreBuilt → TextsCanBeCompleted → OneSay → (side : Side) (bytes : List ℕ) (reader : Reader) (number : ℕ) → length bytes ≤ script_limit → HasReadAll side bytes reader
    → (reader.order.place ≡ last_place side → ⊥) → number ≡ reader.lines + 1 → FirstError side bytes (record { line = number; kind = kinds.End })
cut-off laws pages plugins complete one side bytes reader number short all place more = inr (
  short,
  inr (is-cut-off laws pages plugins complete one side (lines_of bytes) all.read.lines number all.read.are_lines (λ last. place (end-place side bytes reader all ∙ last)) (more ∙ ap (λ (n : ℕ). n + 1) all.count)),
)

pub too-long : (side : Side) (bytes : List ℕ) → script_limit < length bytes → FirstError side bytes (record { line = 0; kind = kinds.Size })
too-long side bytes long = inl (long, refl)

pub line-error : (side : Side) (bytes : List ℕ) (e : ScriptError) → length bytes ≤ script_limit → IsRefusedLine side (lines_of bytes) e → FirstError side bytes e
line-error side bytes e short refused = inr (short, inl refused)

pub lines-failed : (side : Side) (bytes : List ℕ) (reader : Reader) (error : ParseError) → length bytes ≤ script_limit → ReadsAll side bytes reader (Err error) → ReadsScript side bytes reader (Err error)
lines-failed side bytes reader (parse_errors.Script e) short refused = line-error side bytes e short refused
lines-failed side bytes reader parse_errors.NoMemory short ran = (short, ran)

abbrev pub failed : {A : Type 0} → ParseError → Result A ParseError
failed error = Err error

-- a text with an error is refused for it, unless memory ran out
pub only-error : {A : Type 0} → OneRefusal → (side : Side) (bytes : List ℕ) (reader : Reader) (error : ParseError) → ReadsScript side bytes reader (Err error) → (e : ScriptError) → FirstError side bytes e
    → (failed {A = A} error ≡ failed (parse_errors.Script e)) ⊎ (failed {A = A} error ≡ failed parse_errors.NoMemory)
only-error law side bytes reader (parse_errors.Script f) reads e first = inl (ap (λ (x : ScriptError). failed (parse_errors.Script x)) (law side bytes f e reads first))
only-error law side bytes reader parse_errors.NoMemory reads e first = inr refl

pub ran-out : {A : Type 0} (side : Side) (bytes : List ℕ) (reader : Reader) (error : ParseError) → ReadsScript side bytes reader (Err error) → failed {A = A} error ≡ failed parse_errors.NoMemory
    → (length bytes ≤ script_limit) × CanRunOut side (lines_of bytes)
ran-out side bytes reader (parse_errors.Script f) reads e = absurd cc
ran-out side bytes reader parse_errors.NoMemory reads e = reads
