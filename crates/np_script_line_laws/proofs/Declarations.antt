-- Each declaration is a block of lines, and `data` may stand first in its class.
use Rattle.std.proofs.Common.{◌≡◌, ℕ, ◌+◌, List, [], ◌∷◌, ◌++◌, map, take, drop, Bool, true, false, if◌then◌else◌, refl, ap, sym, ◌∙◌, subst, append_assoc, arith}
use Rattle.std.specs.Prelude.{codes, bytes_eq}
use Rattle.std.specs.List.{flat_map}
use Rattle.std.proofs.lemmas.List.{take-append-drop}
use Rattle.std.proofs.lemmas.Grind.{flat_map-append}
use Rattle.np_values.specs.declared.name.Side.{Side}
use Rattle.np_script_grammar.specs.declared.action.Action.{Action}
use Rattle.np_script_grammar.specs.declared.action.Action.TheVariants as actions
use Rattle.np_script_grammar.specs.declared.class.Member.{Member}
use Rattle.np_script_grammar.specs.declared.class.Member.TheVariants as members
use Rattle.np_script_grammar.specs.declared.class.ClassDef.{ClassDef}
use Rattle.np_script_grammar.specs.declared.place.Place.{Place}
use Rattle.np_script_grammar.specs.declared.place.Place.TheVariants.{Top, Class, MemberBody, Body}
use Rattle.np_script_grammar.specs.declared.line.Field.TheVariants as fields
use Rattle.np_script_grammar.specs.Forms.{Line}
use Rattle.np_script_grammar.specs.Rows.{action_line, text}
use Rattle.np_script_grammar.specs.Scripts.{alone, member_opening, member_body, member_lines, data_lines, class_opening, class_lines, resource_line, Declaration, OfClass, OfResource, OfHandler, OfTask, declaration_lines}
use Rattle.np_script_grammar.specs.Order.{Counts, Standing, declared_by, are_few, standing_after, AreInOrder}
use Rattle.np_script_grammar.specs.Refusals.{standing_behind}
use Rattle.np_script_line_laws.proofs.Prefixes.{front_in_order, joined_in_order}
use Rattle.np_script_line_laws.proofs.Clear.{Absent, stays_few}
use Rattle.np_script_line_laws.proofs.Counting.{Few, few_parts}
use Rattle.np_script_line_laws.proofs.Alike.{at, absent_parts, absent_join, within_turned}
use Rattle.np_script_line_laws.proofs.Leading.{Leads, leads_on, inside_in_order}
use Rattle.np_script_line_laws.proofs.Below.{below_in_order}
use Rattle.np_script_line_laws.proofs.Blocks.{IsBlock, IsBehind, behind, to_top, from_top, rest_in_order}

-- ---- bodies

pub not_end : (action : Action) → bytes_eq (action_line action).0 (codes "end") ≡ false
not_end actions.Fail = refl
not_end action = refl

-- a body's actions, and its end
abbrev pub body_rest : List Action → List Line
body_rest body = map action_line body ++ alone (codes "end") ∷ []

pub member_body_leads : (body : List Action) → Leads MemberBody (body_rest body) Class
member_body_leads [] = (tt, refl)
member_body_leads (action ∷ body) =
    (tt, subst (λ (t : Bool). Leads (if t then Class else MemberBody) (body_rest body) Class) (sym (not_end action)) (member_body_leads body))

body_leads : (body : List Action) → Leads Body (body_rest body) Top
body_leads [] = (tt, refl)
body_leads (action ∷ body) = (tt, subst (λ (t : Bool). Leads (if t then Top else Body) (body_rest body) Top) (sym (not_end action)) (body_leads body))

-- ---- members

member_leads : (member : Member) → Leads Class (member_lines member) Class
member_leads (members.Method id body) = (tt, member_body_leads body)
member_leads (members.Default body) = (tt, member_body_leads body)
member_leads (members.Construct body) = (tt, member_body_leads body)
member_leads (members.Getter id body) = (tt, member_body_leads body)
member_leads (members.Setter id body) = (tt, member_body_leads body)

members_lead : (ms : List Member) → Leads Class (flat_map member_lines ms) Class
members_lead [] = refl
members_lead (member ∷ ms) = leads_on Class (member_lines member) (flat_map member_lines ms) Class Class (member_leads member) (members_lead ms)

data_leads : (stored : Bool) → Leads Class (data_lines stored) Class
data_leads true = (tt, refl)
data_leads false = refl

-- ---- declarations

-- what stands in a class behind its opening line
abbrev class_rest : ℕ → ClassDef → List Line
class_rest before class =
    flat_map member_lines (take before class.members) ++ (data_lines class.stored ++ (flat_map member_lines (drop before class.members) ++ alone (codes "endclass") ∷ []))

class_leads : (before : ℕ) (class : ClassDef) → Leads Class (class_rest before class) Top
class_leads before class =
    leads_on Class (flat_map member_lines (take before class.members)) _ Class Top (members_lead (take before class.members))
    (leads_on Class (data_lines class.stored) _ Class Top (data_leads class.stored)
    (leads_on Class (flat_map member_lines (drop before class.members)) (alone (codes "endclass") ∷ []) Class Top (members_lead (drop before class.members)) (tt, refl)))

abbrev pub opening : Declaration → Line
opening (OfClass before class) = class_opening class
opening (OfResource resource) = resource_line resource
opening (OfHandler handler) = (codes "handler", fields.HandlerWord handler.which ∷ [])
opening (OfTask task) = (codes "task", text task.name ∷ [])

abbrev pub inner : Declaration → List Line
inner (OfClass before class) = class_rest before class
inner (OfResource resource) = []
inner (OfHandler handler) = body_rest handler.body
inner (OfTask task) = body_rest task.body

pub lines_of_block : (d : Declaration) → declaration_lines d ≡ opening d ∷ inner d
lines_of_block (OfClass before class) = refl
lines_of_block (OfResource resource) = refl
lines_of_block (OfHandler handler) = refl
lines_of_block (OfTask task) = refl

pub block_of : (d : Declaration) → IsBlock (opening d) (inner d)
block_of (OfClass before class) = class_leads before class
block_of (OfResource resource) = refl
block_of (OfHandler handler) = body_leads handler.body
block_of (OfTask task) = body_leads task.body

-- ---- `data` before a member

abbrev data_line : Line
data_line = alone (codes "data")

-- with so many actions more
abbrev pub counted_actions : Counts → List Action → Counts
counted_actions c [] = c
counted_actions c (action ∷ body) = counted_actions (record c { actions = c.actions + 1 }) body

abbrev pub with_action : Counts → Counts
with_action c = record c { actions = c.actions + 1 }

behind_action : (c : Counts) (top keys : List (List ℕ)) (action : Action) → standing_after (at MemberBody c top keys) (action_line action) ≡ at MemberBody (with_action c) top keys
behind_action c top keys action = ap (λ (t : Bool). at (if t then Class else MemberBody) (if t then c else with_action c) top keys) (not_end action)

pub behind_body : (c : Counts) (top keys : List (List ℕ)) (body : List Action) → standing_behind (at MemberBody c top keys) (body_rest body) ≡ at Class (counted_actions c body) top keys
behind_body c top keys [] = refl
behind_body c top keys (action ∷ body) =
    ap (λ (s : Standing). standing_behind s (body_rest body)) (behind_action c top keys action) ∙ behind_body (with_action c) top keys body

-- a body may stand in whatever class
body_elsewhere : (side : Side) (c : Counts) (top keys others : List (List ℕ)) (body : List Action) → AreInOrder side (at MemberBody c top keys) (body_rest body) → AreInOrder side (at MemberBody c top others) (body_rest body)
body_elsewhere side c top keys others [] all = (record { listed = all.0.listed; few = all.0.few; new = refl }, tt)
body_elsewhere side c top keys others (action ∷ body) all = (
  record { listed = all.0.listed; few = all.0.few; new = refl },
  subst (λ (s : Standing). AreInOrder side s (body_rest body)) (sym (behind_action c top others action))
      (body_elsewhere side (with_action c) top keys others body (subst (λ (s : Standing). AreInOrder side s (body_rest body)) (behind_action c top keys action) all.1)),
)

abbrev pub with_member : Counts → Counts
with_member c = record c { members = c.members + 1; actions = 0 }

behind_opening : (c : Counts) (top keys : List (List ℕ)) (member : Member) → standing_after (at Class c top keys) (member_opening member) ≡ at MemberBody (with_member c) top (keys ++ declared_by (member_opening member) ∷ [])
behind_opening c top keys (members.Default body) = refl
behind_opening c top keys member = refl

abbrev pub counted_member : Counts → Member → Counts
counted_member c member = counted_actions (with_member c) (member_body member)

pub behind_member : (c : Counts) (top keys : List (List ℕ)) (member : Member) → standing_behind (at Class c top keys) (member_lines member) ≡ at Class (counted_member c member) top (keys ++ declared_by (member_opening member) ∷ [])
behind_member c top keys member =
    ap (λ (s : Standing). standing_behind s (body_rest (member_body member))) (behind_opening c top keys member)
    ∙ behind_body (with_member c) top (keys ++ declared_by (member_opening member) ∷ []) (member_body member)

member_elsewhere : (side : Side) (c : Counts) (top keys others : List (List ℕ)) (member : Member) → Absent (declared_by (member_opening member)) others
    → AreInOrder side (at Class c top keys) (member_lines member) → AreInOrder side (at Class c top others) (member_lines member)
member_elsewhere side c top keys others member new all =
    let lines : List Line = body_rest (member_body member) in
    let key : List ℕ = declared_by (member_opening member) in (
      record { listed = all.0.listed; few = all.0.few; new = new },
      subst (λ (s : Standing). AreInOrder side s lines) (sym (behind_opening c top others member))
          (body_elsewhere side (with_member c) top (keys ++ key ∷ []) (others ++ key ∷ []) (member_body member)
          (subst (λ (s : Standing). AreInOrder side s lines) (behind_opening c top keys member) all.1)),
    )

not_data : (member : Member) → Absent (declared_by (member_opening member)) (codes "data" ∷ [])
not_data (members.Default body) = refl
not_data member = refl

pub few_member : (side : Side) (c : Counts) (top keys : List (List ℕ)) (member : Member) → are_few c ≡ true → AreInOrder side (at Class c top keys) (member_lines member) → are_few (counted_member c member) ≡ true
few_member side c top keys member few all =
    subst (λ (s : Standing). are_few s.counts ≡ true) (behind_member c top keys member) (stays_few side (at Class c top keys) (member_lines member) all few)

data_passes : (side : Side) (last : Place) (c : Counts) (top keys : List (List ℕ)) (member : Member) (rest : List Line) → Leads Class rest last → are_few c ≡ true
    → AreInOrder side (at Class c top keys) (member_lines member ++ (data_line ∷ rest)) → AreInOrder side (at Class c top keys) (data_line ∷ (member_lines member ++ rest))
data_passes side last c top keys member rest leads few all =
    let key : List ℕ = declared_by (member_opening member) in
    let d : Counts = counted_member c member in
    let front : AreInOrder side (at Class c top keys) (member_lines member) = front_in_order side (at Class c top keys) (member_lines member) (data_line ∷ rest) all in
    let next_lines : AreInOrder side (at Class d top (keys ++ key ∷ [])) (data_line ∷ rest) =
    subst (λ (s : Standing). AreInOrder side s (data_line ∷ rest)) (behind_member c top keys member) (rest_in_order side (at Class c top keys) (member_lines member) (data_line ∷ rest) all) in
    let enough : are_few d ≡ true = few_member side c top keys member few front in
    let tail : AreInOrder side (at Class d top ((keys ++ codes "data" ∷ []) ++ key ∷ [])) rest =
    inside_in_order side Class last d d top top ((keys ++ key ∷ []) ++ codes "data" ∷ []) ((keys ++ codes "data" ∷ []) ++ key ∷ []) rest leads
    (record { few = few_parts d enough; open_part = (omega arith, within_turned keys (key ∷ []) (codes "data" ∷ [])) }) next_lines.1 in (
      record { listed = next_lines.0.listed; few = few; new = (absent_parts (codes "data") keys (key ∷ []) next_lines.0.new).0 },
      joined_in_order side (at Class c top (keys ++ codes "data" ∷ [])) (member_lines member) rest
          (member_elsewhere side c top keys (keys ++ codes "data" ∷ []) member (absent_join key keys (codes "data" ∷ []) front.0.new (not_data member)) front)
          (subst (λ (s : Standing). AreInOrder side s rest) (sym (behind_member c top (keys ++ codes "data" ∷ []) member)) tail),
    )

data_first : (side : Side) (last : Place) (c : Counts) (top keys : List (List ℕ)) (ms : List Member) (rest : List Line) → Leads Class rest last → are_few c ≡ true
    → AreInOrder side (at Class c top keys) (flat_map member_lines ms ++ (data_line ∷ rest)) → AreInOrder side (at Class c top keys) (data_line ∷ (flat_map member_lines ms ++ rest))
data_first side last c top keys [] rest leads few all = all
data_first side last c top keys (member ∷ ms) rest leads few all =
    let s : Standing = at Class c top keys in
    let behind_it : Standing = at Class (counted_member c member) top (keys ++ declared_by (member_opening member) ∷ []) in
    let lines : List Line = flat_map member_lines ms in
    let parted : AreInOrder side s (member_lines member ++ (lines ++ (data_line ∷ rest))) = subst (AreInOrder side s) (append_assoc (member_lines member) lines (data_line ∷ rest)) all in
    let front : AreInOrder side s (member_lines member) = front_in_order side s (member_lines member) (lines ++ (data_line ∷ rest)) parted in
    let next_lines : AreInOrder side behind_it (data_line ∷ (lines ++ rest)) =
    data_first side last (counted_member c member) top (keys ++ declared_by (member_opening member) ∷ []) ms rest leads (few_member side c top keys member few front)
    (subst (λ (x : Standing). AreInOrder side x (lines ++ (data_line ∷ rest))) (behind_member c top keys member) (rest_in_order side s (member_lines member) (lines ++ (data_line ∷ rest)) parted)) in
    let passed : AreInOrder side s (data_line ∷ (member_lines member ++ (lines ++ rest))) =
    data_passes side last c top keys member (lines ++ rest) (leads_on Class lines rest Class last (members_lead ms) leads) few
    (joined_in_order side s (member_lines member) (data_line ∷ (lines ++ rest)) front (subst (λ (x : Standing). AreInOrder side x (data_line ∷ (lines ++ rest))) (sym (behind_member c top keys member)) next_lines)) in
    subst (λ (l : List Line). AreInOrder side s (data_line ∷ l)) (sym (append_assoc (member_lines member) lines rest)) passed

-- ---- `data` first in its class

all_members : (before : ℕ) (ms : List Member) (rest : List Line) → flat_map member_lines (take before ms) ++ (flat_map member_lines (drop before ms) ++ rest) ≡ flat_map member_lines ms ++ rest
all_members before ms rest =
    sym (append_assoc (flat_map member_lines (take before ms)) (flat_map member_lines (drop before ms)) rest)
    ∙ ap (λ (l : List Line). l ++ rest) (sym (flat_map-append member_lines (take before ms) (drop before ms)) ∙ ap (flat_map member_lines) (take-append-drop before ms))

rest_first : (side : Side) (c : Counts) (top keys : List (List ℕ)) (before : ℕ) (stored : Bool) (ms : List Member) (rest : List Line) → Leads Class rest Top → are_few c ≡ true
    → AreInOrder side (at Class c top keys) (flat_map member_lines (take before ms) ++ (data_lines stored ++ (flat_map member_lines (drop before ms) ++ rest)))
    → AreInOrder side (at Class c top keys) (data_lines stored ++ (flat_map member_lines ms ++ rest))
rest_first side c top keys before true ms rest leads few all =
    let behind_data : List Line = flat_map member_lines (drop before ms) ++ rest in
    subst (λ (l : List Line). AreInOrder side (at Class c top keys) (data_line ∷ l)) (all_members before ms rest)
    (data_first side Top c top keys (take before ms) behind_data (leads_on Class (flat_map member_lines (drop before ms)) rest Class Top (members_lead (drop before ms)) leads) few all)
rest_first side c top keys before false ms rest leads few all = subst (AreInOrder side (at Class c top keys)) (all_members before ms rest) all

pub class_first : (side : Side) (c : Counts) (top keys : List (List ℕ)) (before : ℕ) (class : ClassDef) → AreInOrder side (at Top c top keys) (class_lines before class) → AreInOrder side (at Top c top keys) (class_lines 0 class)
class_first side c top keys before class all =
    (all.0, rest_first side _ (top ++ declared_by (class_opening class) ∷ []) [] before class.stored class.members (alone (codes "endclass") ∷ []) (tt, refl) all.0.few all.1)

pub with_data_first : (side : Side) (c : Counts) (top keys : List (List ℕ)) (before : ℕ) (class : ClassDef) (rest : List Line) → Few c
    → AreInOrder side (at Top c top keys) (class_lines before class ++ rest) → AreInOrder side (at Top c top keys) (class_lines 0 class ++ rest)
with_data_first side c top keys before class rest few all =
    let s : Standing = at Top c top keys in
    let first : Line = class_opening class in
    let a : AreInOrder side s (class_lines before class) = front_in_order side s (class_lines before class) rest all in
    let b : AreInOrder side s (class_lines 0 class) = class_first side c top keys before class a in
    let one : Standing = standing_behind s (class_lines before class) in
    let other : Standing = standing_behind s (class_lines 0 class) in
    let d : IsBehind c top first one = behind side c top keys first (class_rest before class) (class_leads before class) few a in
    let e : IsBehind c top first other = behind side c top keys first (class_rest 0 class) (class_leads 0 class) few b in
    let f = d.even in
    let g = e.even in
    joined_in_order side s (class_lines 0 class) rest b
    (from_top side c top first other rest e
    (below_in_order side Top one.counts other.counts (top ++ declared_by first ∷ []) (top ++ declared_by first ∷ []) one.in_class other.in_class rest
    (record {
      lower = record { classes = omega (arith, f.classes, g.classes); tasks = omega (arith, f.tasks, g.tasks); creates = omega (arith, f.creates, g.creates); bytes = omega (arith, f.bytes, g.bytes) };
      within = λ key absent. absent;
      less = record { few = e.few; open_part = tt };
    })
    (to_top side c top first one rest d (rest_in_order side s (class_lines before class) rest all))))
