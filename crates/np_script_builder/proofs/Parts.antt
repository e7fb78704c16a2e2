-- What is built of lines, part by part.
use Rattle.std.proofs.Common.{◌≡◌, List, [], ◌∷◌, ◌++◌, Some, refl, ap, subst, ◌∙◌}
use Rattle.np_values.specs.declared.name.Side.{Side}
use Rattle.np_script_grammar.specs.declared.place.Place.{Place}
use Rattle.np_script_grammar.specs.Forms.{Line, IsOf}
use Rattle.np_script_grammar.specs.Tables.{table_at}
use Rattle.np_script_grammar.specs.Scripts.{place_after, place_behind}
use Rattle.np_script_grammar.specs.Order.{Standing, standing_after, AreInOrder}
use Rattle.np_script_builder.proofs.FirstGiven.{given_first}
use Rattle.np_script_builder.specs.declared.state.Building.{Building}
use Rattle.np_script_builder.specs.Building.{built_after, built_from}

-- each line is of the table of the place where it stands
abbrev pub AreListed : Side → Place → List Line → Type 0
AreListed side place [] = Unit {0}
AreListed side place (line ∷ lines) = IsOf (table_at side place) line × AreListed side (place_after place line.0) lines

pub are_listed : (side : Side) (s : Standing) (lines : List Line) → AreInOrder side s lines → AreListed side s.place lines
are_listed side s [] order = tt
are_listed side s (line ∷ lines) order = (order.0.listed, are_listed side (standing_after s line) lines order.1)

pub front_listed : (side : Side) (place : Place) (front behind : List Line) → AreListed side place (front ++ behind) → AreListed side place front
front_listed side place [] behind all = tt
front_listed side place (line ∷ front) behind all = (all.0, front_listed side (place_after place line.0) front behind all.1)

pub behind_listed : (side : Side) (place : Place) (front behind : List Line) → AreListed side place (front ++ behind) → AreListed side (place_behind place front) behind
behind_listed side place [] behind all = all
behind_listed side place (line ∷ front) behind all = behind_listed side (place_after place line.0) front behind all.1

-- the lines lead from a place to a place, and from a building to a building
pub record Leads (place : Place) (b : Building) (lines : List Line) (to : Place) (next : Building) : Type 0 where
  pub reaches : place_behind place lines ≡ to
  pub gives : built_from place b lines ≡ Some next

pub leads_nowhere : (place : Place) (b : Building) → Leads place b [] place b
leads_nowhere place b = record { reaches = refl; gives = refl }

-- one line
pub leads_by : (place : Place) (b : Building) (line : Line) (to : Place) (next : Building) → place_after place line.0 ≡ to → built_after place b line ≡ Some next → Leads place b (line ∷ []) to next
leads_by place b line to next e given = record { reaches = e; gives = rw given refl }

behind_first : (place : Place) (front behind : List Line) → place_behind place (front ++ behind) ≡ place_behind (place_behind place front) behind
behind_first place [] behind = refl
behind_first place (line ∷ front) behind = behind_first (place_after place line.0) front behind

same : (a b : Building) → Some a ≡ Some b → a ≡ b
same a b e = cc

built_further : (place : Place) (b : Building) (front behind : List Line) (next : Building) → built_from place b front ≡ Some next → built_from place b (front ++ behind) ≡ built_from (place_behind place front) next behind
built_further place b [] behind next e = ap (λ (x : Building). built_from place x behind) (same b next e)
built_further place b (line ∷ front) behind next e =
    let found = given_first (built_after place b line) (λ x. built_from (place_after place line.0) x front) next e in
    rw found.1 (built_further (place_after place line.0) found.0 front behind next found.2)

-- one part behind another
pub leads_further : (place : Place) (b : Building) (front behind : List Line) (between to : Place) (middle next : Building) → Leads place b front between middle → Leads between middle behind to next
    → Leads place b (front ++ behind) to next
leads_further place b front behind between to middle next first second = record {
  reaches = behind_first place front behind ∙ (ap (λ (p : Place). place_behind p behind) first.reaches ∙ second.reaches);
  gives = built_further place b front behind middle first.gives ∙ (ap (λ (p : Place). built_from p middle behind) first.reaches ∙ second.gives);
}

-- the part behind, where the first one leads
pub listed_behind : (side : Side) (place : Place) (b : Building) (front behind : List Line) (between : Place) (middle : Building) → Leads place b front between middle → AreListed side place (front ++ behind)
    → AreListed side between behind
listed_behind side place b front behind between middle first all = subst (λ (p : Place). AreListed side p behind) first.reaches (behind_listed side place front behind all)

-- two parts, of which each leads on where its lines are listed
pub both_lead : (side : Side) (place : Place) (b : Building) (front behind : List Line) (between to : Place) (middle next : Building) → (AreListed side place front → Leads place b front between middle)
    → (AreListed side between behind → Leads between middle behind to next) → AreListed side place (front ++ behind) → Leads place b (front ++ behind) to next
both_lead side place b front behind between to middle next first second all =
    let begins = first (front_listed side place front behind all) in
    leads_further place b front behind between to middle next begins (second (listed_behind side place b front behind between middle begins all))
