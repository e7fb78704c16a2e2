-- The head, the lines between declarations, and those behind `do`.
use Rattle.std.proofs.Common.{◌≡◌, ℕ, List, [], ◌∷◌, ◌++◌, true, false, Some, refl, ap, sym, subst, ◌∙◌, map, append_assoc, append-nil, inl, inr, arith}
use Rattle.std.specs.Prelude.{codes, nat_lt}
use Rattle.std.specs.List.{AllByRecursion}
use Rattle.std.proofs.lemmas.List.{map-append}
use Rattle.std.proofs.lemmas.Bool.Decides.{nat_tests}
use Rattle.std.proofs.lemmas.Bool.{and_parts}
use Rattle.np_values.specs.declared.name.Side.{Side}
use Rattle.np_values.specs.declared.name.Side.TheVariants as sides
use Rattle.np_script_grammar.specs.declared.command.Command.{Command}
use Rattle.np_script_grammar.specs.declared.page.Resource.{Resource}
use Rattle.np_script_grammar.specs.declared.place.Place.{Place}
use Rattle.np_script_grammar.specs.declared.place.Place.TheVariants.{Head, Top, Commands}
use Rattle.np_script_grammar.specs.declared.line.Item.TheVariants as items
use Rattle.np_script_grammar.specs.declared.line.Field.{Field}
use Rattle.np_script_grammar.specs.declared.line.Field.TheVariants.{Number, Text, HandlerWord}
use Rattle.np_script_grammar.specs.Forms.{Line, are_of, IsOf}
use Rattle.np_script_grammar.specs.Tables.{head_table, top_table, command_table}
use Rattle.np_script_grammar.specs.Rows.{command_line}
use Rattle.np_script_grammar.specs.Scripts.{OfResource, copies, alone, place_after}
use Rattle.np_script_grammar.specs.Order.{class_after}
use Rattle.np_script_actions.specs.Commands.{command_of}
use Rattle.np_script_builder.proofs.RowLaws.{LinesSay}
use Rattle.np_script_builder.proofs.FormFields.{without_groups}
use Rattle.np_script_builder.specs.declared.state.Unfinished.TheVariants.{OfClass, OfHandler, OfTask}
use Rattle.np_script_builder.specs.declared.state.Building.{Building}
use Rattle.np_script_builder.specs.Building.{at_start, built_after}
use Rattle.np_script_builder.proofs.ByRows.{RowHas, by_rows}
use Rattle.np_script_builder.proofs.SaidSoFar.{head_word, Says, SaysTop, SaysCommands}
use Rattle.np_script_builder.proofs.Declared.{declares_more}

-- the line says something at this place, and with it the lines say what is built
pub record Goes (side : Side) (place : Place) (in_class : List (List ℕ)) (b : Building) (lines : List Line) (word : List ℕ) (fields : List Field) : Type 0 where
  pub next : Building
  pub gives : built_after place b (word, fields) ≡ Some next
  pub says : Says side (place_after place word) (class_after place in_class (word, fields)) next (lines ++ (word, fields) ∷ [])

-- ---- the head

abbrev AtHead : Side → List (List ℕ) → List ℕ → List Field → Type 0
AtHead side in_class word fields = Goes side Head in_class at_start [] word fields

head_row : (side : Side) (in_class : List (List ℕ)) (fields : List Field) → are_of (items.Number 0 255 ∷ items.Number 0 255 ∷ []) fields ≡ true → AtHead side in_class (head_word side) fields
unfolding built_after
head_row side in_class (Number major ∷ Number minor ∷ []) e =
    let first : nat_lt major 256 ≡ true = grind (arith, nat_tests, and_parts) in
    let second : nat_lt minor 256 ≡ true = grind (arith, nat_tests, and_parts) in
    record {
      next = record at_start { major = major; minor = minor };
      gives = rw (first, second) refl;
      says = record {
        declares = record { declarations = []; lines_are = refl; classes_are = refl; resources_are = refl; handlers_are = refl; tasks_are = refl; contents = tt };
        no_commands = refl;
      };
    }
head_row side in_class fields e = absurd (grind (arith, nat_tests, and_parts))

head_rows : (side : Side) (in_class : List (List ℕ)) → AllByRecursion (RowHas (AtHead side in_class)) (head_table side)
head_rows sides.Page in_class = (λ fields h. head_row sides.Page in_class fields (without_groups (items.Number 0 255 ∷ items.Number 0 255 ∷ []) fields h), tt)
head_rows sides.Plug in_class = (λ fields h. head_row sides.Plug in_class fields (without_groups (items.Number 0 255 ∷ items.Number 0 255 ∷ []) fields h), tt)

pub head_step : (side : Side) (in_class : List (List ℕ)) (b : Building) (lines : List Line) (word : List ℕ) (fields : List Field) → Says side Head in_class b lines → IsOf (head_table side) (word, fields)
    → Goes side Head in_class b lines word fields
head_step side in_class b lines word fields said is =
    let first : AtHead side in_class word fields = by_rows (AtHead side in_class) (head_table side) (head_rows side in_class) word fields is in
    subst (λ (x : Building). Goes side Head in_class x lines word fields) (sym said.1) (subst (λ (x : List Line). Goes side Head in_class at_start x word fields) (sym said.0) first)

-- ---- between declarations

class_row : (side : Side) (in_class : List (List ℕ)) (b : Building) (lines : List Line) → SaysTop side b lines → (fields : List Field) → are_of (items.Text ∷ items.Number 1 3 ∷ []) fields ≡ true
    → Goes side Top in_class b lines (codes "class") fields
unfolding built_after
class_row side in_class b lines said (Text name ∷ Number version ∷ []) e =
    let small : nat_lt version 256 ≡ true = grind (arith, nat_tests, and_parts) in
    record {
      next = record b { unfinished = OfClass (record { name = name; version = version; stored = false; members = [] }) };
      gives = rw small refl;
      says = record {
        class = record { name = name; version = version; stored = false; members = [] };
        unfinished_is = refl;
        opened = record { front = lines; early = []; late = []; members_are = refl; lines_are = refl; declares = said.declares; no_commands = said.no_commands; noted = λ f. absurd cc };
      };
    }
class_row side in_class b lines said fields e = absurd (grind (arith, nat_tests, and_parts))

resource_row : (side : Side) (in_class : List (List ℕ)) (b : Building) (lines : List Line) → SaysTop side b lines
    → (fields : List Field) → are_of (items.Text ∷ items.Text ∷ items.Number 0 16777216 ∷ items.Text ∷ []) fields ≡ true → Goes side Top in_class b lines (codes "resource") fields
unfolding built_after
resource_row side in_class b lines said (Text url ∷ Text mime ∷ Number times ∷ Text piece ∷ []) e =
    let resource : Resource = record { url = url; mime = mime; times = times; piece = piece; content = copies times piece } in
    record {
      next = record b { resources = b.resources ++ resource ∷ [] };
      gives = refl;
      says = record {
        declares = declares_more side b.major b.minor b.classes b.classes b.resources (b.resources ++ resource ∷ []) b.handlers b.handlers b.tasks b.tasks lines _ (OfResource resource)
            said.declares (append-nil b.classes) refl (append-nil b.handlers) (append-nil b.tasks) refl (refl, tt);
        no_commands = said.no_commands;
      };
    }
resource_row side in_class b lines said fields e = absurd (grind (arith, nat_tests, and_parts))

handler_row : (side : Side) (in_class : List (List ℕ)) (b : Building) (lines : List Line) → SaysTop side b lines → (fields : List Field) → are_of (items.HandlerWord ∷ []) fields ≡ true
    → Goes side Top in_class b lines (codes "handler") fields
unfolding built_after
handler_row side in_class b lines said (HandlerWord which ∷ []) e =
    record {
      next = record b { unfinished = OfHandler (record { which = which; body = [] }) };
      gives = refl;
      says = inl (record { handler = record { which = which; body = [] }; before = lines; unfinished_is = refl; declares = said.declares; no_commands = said.no_commands; lines_are = refl });
    }
handler_row side in_class b lines said fields e = absurd (grind (arith, nat_tests, and_parts))

task_row : (side : Side) (in_class : List (List ℕ)) (b : Building) (lines : List Line) → SaysTop side b lines → (fields : List Field) → are_of (items.Text ∷ []) fields ≡ true
    → Goes side Top in_class b lines (codes "task") fields
unfolding built_after
task_row side in_class b lines said (Text name ∷ []) e =
    record {
      next = record b { unfinished = OfTask (record { name = name; body = [] }) };
      gives = refl;
      says = inr (record { task = record { name = name; body = [] }; before = lines; unfinished_is = refl; declares = said.declares; no_commands = said.no_commands; lines_are = refl });
    }
task_row side in_class b lines said fields e = absurd (grind (arith, nat_tests, and_parts))

do_row : (side : Side) (in_class : List (List ℕ)) (b : Building) (lines : List Line) → SaysTop side b lines → (fields : List Field) → are_of [] fields ≡ true
    → Goes side Top in_class b lines (codes "do") fields
unfolding built_after
do_row side in_class b lines said [] e =
    record {
      next = b;
      gives = refl;
      says = record {
        before = lines;
        declares = said.declares;
        lines_are = ap (λ (l : List Command). lines ++ (alone (codes "do") ∷ map command_line l)) (sym said.no_commands);
      };
    }
do_row side in_class b lines said fields e = absurd (grind (arith, nat_tests, and_parts))

top_rows : (side : Side) (in_class : List (List ℕ)) (b : Building) (lines : List Line) → SaysTop side b lines → AllByRecursion (RowHas (Goes side Top in_class b lines)) (top_table side)
top_rows sides.Page in_class b lines said = (
  λ fields h. class_row sides.Page in_class b lines said fields (without_groups (items.Text ∷ items.Number 1 3 ∷ []) fields h),
  (
    λ fields h. resource_row sides.Page in_class b lines said fields (without_groups (items.Text ∷ items.Text ∷ items.Number 0 16777216 ∷ items.Text ∷ []) fields h),
    (λ fields h. do_row sides.Page in_class b lines said fields (without_groups [] fields h), tt),
  ),
)
top_rows sides.Plug in_class b lines said = (
  λ fields h. class_row sides.Plug in_class b lines said fields (without_groups (items.Text ∷ items.Number 1 3 ∷ []) fields h),
  (
    λ fields h. handler_row sides.Plug in_class b lines said fields (without_groups (items.HandlerWord ∷ []) fields h),
    (λ fields h. task_row sides.Plug in_class b lines said fields (without_groups (items.Text ∷ []) fields h), tt),
  ),
)

pub top_step : (side : Side) (in_class : List (List ℕ)) (b : Building) (lines : List Line) (word : List ℕ) (fields : List Field) → SaysTop side b lines → IsOf (top_table side) (word, fields)
    → Goes side Top in_class b lines word fields
top_step side in_class b lines word fields said is = by_rows (Goes side Top in_class b lines) (top_table side) (top_rows side in_class b lines said) word fields is

-- ---- behind `do`

pub command_step : LinesSay → (side : Side) (in_class : List (List ℕ)) (b : Building) (lines : List Line) (word : List ℕ) (fields : List Field) → SaysCommands side b lines → IsOf command_table (word, fields)
    → Goes side Commands in_class b lines word fields
unfolding built_after
command_step laws side in_class b lines word fields said is =
    let says = laws.say_commands (word, fields) is in
    let command : Command = says.0 in
    let was : command_line command ≡ (word, fields) = laws.were_commands word fields command says.1 in
    let given : command_of word fields ≡ Some command = says.1 in
    record {
      next = record b { commands = b.commands ++ command ∷ [] };
      gives = rw given refl;
      says = record {
        before = said.before;
        declares = said.declares;
        lines_are = ap (λ (l : List Line). l ++ (word, fields) ∷ []) said.lines_are
            ∙ (append_assoc said.before (alone (codes "do") ∷ map command_line b.commands) ((word, fields) ∷ [])
            ∙ ap (λ (l : List Line). said.before ++ (alone (codes "do") ∷ l)) (ap (λ (l : Line). map command_line b.commands ++ l ∷ []) (sym was) ∙ sym (map-append command_line b.commands (command ∷ []))));
      };
    }
