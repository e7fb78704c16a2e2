-- Lines inside a class or a body leave what a whole script has as it was.
use Rattle.std.proofs.Common.{◌≡◌, ℕ, ◌+◌, List, [], ◌∷◌, ◌++◌, Bool, true, false, if◌then◌else◌, refl, sym, ◌∙◌, subst}
use Rattle.std.specs.Prelude.{codes, bytes_eq}
use Rattle.np_values.specs.declared.name.Side.{Side}
use Rattle.np_script_grammar.specs.declared.place.Place.{Place}
use Rattle.np_script_grammar.specs.declared.place.Place.TheVariants.{Head, Top, Class, MemberBody, Body, Commands}
use Rattle.np_script_grammar.specs.Forms.{Line}
use Rattle.np_script_grammar.specs.Scripts.{place_after, place_behind, is_member_word}
use Rattle.np_script_grammar.specs.Order.{Counts, counts_after, top_after, class_after, AreInOrder}
use Rattle.np_script_grammar.specs.Refusals.{standing_behind}
use Rattle.np_script_line_laws.proofs.Prefixes.{place_of_standing}
use Rattle.np_script_line_laws.proofs.Alike.{at, IsInside, IsLess, inside_less, inside_follows}

-- all of the lines stand inside, and lead from one place to the other
abbrev pub Leads : Place → List Line → Place → Type 0
Leads place [] last = place ≡ last
Leads place (line ∷ lines) last = IsInside place × Leads (place_after place line.0) lines last

pub leads_on : (place : Place) (front rest : List Line) (middle last : Place) → Leads place front middle → Leads middle rest last → Leads place (front ++ rest) last
leads_on place [] rest middle last a b = subst (λ (p : Place). Leads p rest last) (sym a) b
leads_on place (line ∷ front) rest middle last a b = (a.0, leads_on (place_after place line.0) front rest middle last a.1 b)

pub inside_in_order : (side : Side) (place last : Place) (c other : Counts) (top tops members others : List (List ℕ)) (lines : List Line) → Leads place lines last → IsLess place c other members others
    → AreInOrder side (at place c top members) lines → AreInOrder side (at place other tops others) lines
inside_in_order side place last c other top tops members others [] leads less all = tt
inside_in_order side place last c other top tops members others (line ∷ lines) leads less all = (
  inside_follows side place c other top tops members others line leads.0 less all.0,
  inside_in_order side (place_after place line.0) last (counts_after place c line) (counts_after place other line) (top_after place top line) (top_after place tops line) (class_after place members line) (class_after place others line)
      lines leads.1 (inside_less side place c other top tops members others line leads.0 less all.0) all.1,
)

-- as much of what a whole script has
pub record IsEven (c other : Counts) : Type 0 where
  pub classes : other.classes ≡ c.classes
  pub tasks : other.tasks ≡ c.tasks
  pub creates : other.creates ≡ c.creates
  pub bytes : other.bytes ≡ c.bytes

itself : (c : Counts) → IsEven c c
itself c = record { classes = refl; tasks = refl; creates = refl; bytes = refl }

even_member : (member : Bool) (c : Counts) → IsEven c (if member then record c { members = c.members + 1; actions = 0 } else c)
even_member true c = record { classes = refl; tasks = refl; creates = refl; bytes = refl }
even_member false c = itself c

even_action : (ends : Bool) (c : Counts) → IsEven c (if ends then c else record c { actions = c.actions + 1 })
even_action true c = itself c
even_action false c = record { classes = refl; tasks = refl; creates = refl; bytes = refl }

pub even_after : (place : Place) (c : Counts) (line : Line) → IsInside place → IsEven c (counts_after place c line)
even_after Head c line inside = absurd inside
even_after Top c line inside = absurd inside
even_after Class c line inside = even_member (is_member_word line.0) c
even_after MemberBody c line inside = even_action (bytes_eq line.0 (codes "end")) c
even_after Body c line inside = even_action (bytes_eq line.0 (codes "end")) c
even_after Commands c line inside = absurd inside

even_then : (a b c : Counts) → IsEven a b → IsEven b c → IsEven a c
even_then a b c e f = record { classes = f.classes ∙ e.classes; tasks = f.tasks ∙ e.tasks; creates = f.creates ∙ e.creates; bytes = f.bytes ∙ e.bytes }

pub even_behind : (place last : Place) (c : Counts) (top members : List (List ℕ)) (lines : List Line) → Leads place lines last → IsEven c (standing_behind (at place c top members) lines).counts
even_behind place last c top members [] leads = itself c
even_behind place last c top members (line ∷ lines) leads =
    even_then c (counts_after place c line) _ (even_after place c line leads.0)
    (even_behind (place_after place line.0) last (counts_after place c line) (top_after place top line) (class_after place members line) lines leads.1)

top_stays : (place : Place) (top : List (List ℕ)) (line : Line) → IsInside place → top_after place top line ≡ top
top_stays Head top line inside = absurd inside
top_stays Top top line inside = absurd inside
top_stays Class top line inside = refl
top_stays MemberBody top line inside = refl
top_stays Body top line inside = refl
top_stays Commands top line inside = absurd inside

pub top_behind : (place last : Place) (c : Counts) (top members : List (List ℕ)) (lines : List Line) → Leads place lines last → (standing_behind (at place c top members) lines).at_top ≡ top
top_behind place last c top members [] leads = refl
top_behind place last c top members (line ∷ lines) leads =
    top_behind (place_after place line.0) last (counts_after place c line) (top_after place top line) (class_after place members line) lines leads.1 ∙ top_stays place top line leads.0

led_to : (place last : Place) (lines : List Line) → Leads place lines last → place_behind place lines ≡ last
led_to place last [] leads = leads
led_to place last (line ∷ lines) leads = led_to (place_after place line.0) last lines leads.1

pub place_led_to : (place last : Place) (c : Counts) (top members : List (List ℕ)) (lines : List Line) → Leads place lines last → (standing_behind (at place c top members) lines).place ≡ last
place_led_to place last c top members lines leads = place_of_standing (at place c top members) lines ∙ led_to place last lines leads
