-- Lines in order are built, and say what is built of them.
use Rattle.std.proofs.Common.{◌≡◌, ℕ, List, [], ◌∷◌, ◌++◌, Some, refl, ap, sym, subst, ◌∙◌, map, append_assoc, append-nil}
use Rattle.std.specs.Prelude.{codes}
use Rattle.np_values.specs.declared.name.Side.{Side}
use Rattle.np_values.specs.declared.name.Side.TheVariants as sides
use Rattle.np_script_grammar.specs.declared.place.Place.{Place}
use Rattle.np_script_grammar.specs.declared.place.Place.TheVariants.{Head, Top, Class, MemberBody, Body, Commands}
use Rattle.np_script_grammar.specs.Forms.{Line}
use Rattle.np_script_grammar.specs.Rows.{command_line}
use Rattle.np_script_grammar.specs.Scripts.{alone, place_after, place_behind}
use Rattle.np_script_grammar.specs.Order.{Counts, Standing, standing_after, at_first, MayFollow, AreInOrder}
use Rattle.np_script_builder.proofs.RowLaws.{LinesSay}
use Rattle.np_script_builder.specs.declared.state.Building.{Building}
use Rattle.np_script_builder.specs.Building.{at_start, built_from, built}
use Rattle.np_script_builder.specs.Laws.{LinesInOrderAreBuilt, BuiltPages, BuiltPlugins}
use Rattle.np_script_builder.proofs.SaidSoFar.{Says, SaysTop, SaysCommands}
use Rattle.np_script_builder.proofs.TopSteps.{Goes, head_step, top_step, command_step}
use Rattle.np_script_builder.proofs.ClassSteps.{class_step}
use Rattle.np_script_builder.proofs.BodySteps.{member_step, body_step}

step : LinesSay → (side : Side) (place : Place) (counts : Counts) (at_top in_class : List (List ℕ)) (b : Building) (lines : List Line) (line : Line) → Says side place in_class b lines
    → MayFollow side (record { place = place; counts = counts; at_top = at_top; in_class = in_class }) line → Goes side place in_class b lines line.0 line.1
step laws side Head counts at_top in_class b lines line said may = head_step side in_class b lines line.0 line.1 said may.listed
step laws side Top counts at_top in_class b lines line said may = top_step side in_class b lines line.0 line.1 said may.listed
step laws side Class counts at_top in_class b lines line said may = class_step side in_class b lines line.0 line.1 said may.listed may.new
step laws side MemberBody counts at_top in_class b lines line said may = member_step laws side in_class b lines line.0 line.1 said may.listed
step laws side Body counts at_top in_class b lines line said may = body_step laws side in_class b lines line.0 line.1 said may.listed
step laws side Commands counts at_top in_class b lines line said may = command_step laws side in_class b lines line.0 line.1 said may.listed

-- what is built of lines, and that they say it
record AllSaid (side : Side) (place : Place) (b : Building) (before lines : List Line) : Type 0 where
  next : Building
  in_class : List (List ℕ)
  gives : built_from place b lines ≡ Some next
  says : Says side (place_behind place lines) in_class next (before ++ lines)

all_said : LinesSay → (side : Side) (s : Standing) (b : Building) (before lines : List Line) → Says side s.place s.in_class b before → AreInOrder side s lines → AllSaid side s.place b before lines
all_said laws side s b before [] said order = record {
  next = b;
  in_class = s.in_class;
  gives = refl;
  says = subst (λ (l : List Line). Says side s.place s.in_class b l) (sym (append-nil before)) said;
}
all_said laws side s b before (line ∷ lines) said order =
    let goes = step laws side s.place s.counts s.at_top s.in_class b before line said order.0 in
    let others = all_said laws side (standing_after s line) goes.next (before ++ line ∷ []) lines goes.says order.1 in
    record {
      next = others.next;
      in_class = others.in_class;
      gives = rw goes.gives others.gives;
      says = subst (λ (l : List Line). Says side (place_behind (place_after s.place line.0) lines) others.in_class others.next l) (append_assoc before (line ∷ []) lines) others.says;
    }

from_start : LinesSay → (side : Side) (lines : List Line) → AreInOrder side at_first lines → AllSaid side Head at_start [] lines
from_start laws side lines order = all_said laws side at_first at_start [] lines (refl, refl) order

pub lines_in_order_are_built : LinesSay → LinesInOrderAreBuilt
lines_in_order_are_built laws side lines order =
    let said = from_start laws side lines order in
    (said.next, said.gives)

same : (a b : Building) → Some a ≡ Some b → a ≡ b
same a b e = cc

-- what is said of lines that lead to this place and give this building
says_built : LinesSay → (side : Side) (lines : List Line) (place : Place) (b : Building) → AreInOrder side at_first lines → place_behind Head lines ≡ place → built lines ≡ Some b → (in_class : List (List ℕ)) × Says side place in_class b lines
says_built laws side lines place b order leads given =
    let said = from_start laws side lines order in
    let is_same : said.next ≡ b = same said.next b (sym said.gives ∙ given) in (
      said.in_class,
      subst (λ (p : Place). Says side p said.in_class b lines) leads (subst (λ (x : Building). Says side (place_behind Head lines) said.in_class x lines) is_same said.says),
    )

pub built_pages : LinesSay → BuiltPages
built_pages laws lines b order leads given =
    let said : SaysCommands sides.Page b lines = (says_built laws sides.Page lines Commands b order leads given).1 in
    record {
      declarations = said.declares.declarations;
      lines_are = said.lines_are ∙ ap (λ (l : List Line). l ++ alone (codes "do") ∷ map command_line b.commands) said.declares.lines_are;
      classes = said.declares.classes_are;
      resources = said.declares.resources_are;
      contents = said.declares.contents;
    }

pub built_plugins : LinesSay → BuiltPlugins
built_plugins laws lines b order leads given =
    let said : SaysTop sides.Plug b lines = (says_built laws sides.Plug lines Top b order leads given).1 in
    record {
      declarations = said.declares.declarations;
      lines_are = said.declares.lines_are;
      classes = said.declares.classes_are;
      handlers = said.declares.handlers_are;
      tasks = said.declares.tasks_are;
    }
