-- What is built of the lines of members and classes.
use Rattle.std.proofs.Common.{◌≡◌, ℕ, List, [], ◌∷◌, ◌++◌, take, drop, Bool, true, false, Some, refl, ap, sym, subst, map, append_assoc, append-nil, arith}
use Rattle.std.specs.Prelude.{codes, nat_lt}
use Rattle.std.specs.List.{flat_map}
use Rattle.std.proofs.lemmas.List.{take-append-drop}
use Rattle.std.proofs.lemmas.Bool.Decides.{nat_tests}
use Rattle.std.proofs.lemmas.Bool.{and_parts}
use Rattle.np_values.specs.declared.name.Side.{Side}
use Rattle.np_values.specs.declared.name.Side.TheVariants as sides
use Rattle.np_script_grammar.specs.declared.action.Action.{Action}
use Rattle.np_script_grammar.specs.declared.class.Member.{Member}
use Rattle.np_script_grammar.specs.declared.class.Member.TheVariants as members
use Rattle.np_script_grammar.specs.declared.class.ClassDef.{ClassDef}
use Rattle.np_script_grammar.specs.declared.place.Place.{Place}
use Rattle.np_script_grammar.specs.declared.place.Place.TheVariants.{Top, Class, MemberBody}
use Rattle.np_script_grammar.specs.declared.line.Item.TheVariants as items
use Rattle.np_script_grammar.specs.Forms.{Line, only, form_of, are_of}
use Rattle.np_script_grammar.specs.Tables.{top_table}
use Rattle.np_script_grammar.specs.Rows.{text, number, action_line}
use Rattle.np_script_grammar.specs.Scripts.{alone, body_lines, class_opening, class_lines, data_lines, member_lines}
use Rattle.np_script_builder.proofs.RowLaws.{AreRead}
use Rattle.np_script_builder.proofs.FormFields.{of_only}
use Rattle.np_script_builder.specs.declared.state.Unfinished.{Unfinished}
use Rattle.np_script_builder.specs.declared.state.Unfinished.TheVariants.{Nothing, OfClass, OfMember}
use Rattle.np_script_builder.specs.declared.state.Building.{Building}
use Rattle.np_script_builder.specs.Building.{built_after, with_action}
use Rattle.np_script_builder.proofs.Parts.{AreListed, Leads, leads_by, leads_nowhere, both_lead}
use Rattle.np_script_builder.proofs.BodyParts.{IsBody, actions_lead}

-- a body with the line that opens it and its end
pub body_leads : AreRead → (side : Side) (from place to : Place) (unfinished : List Action → Unfinished) → IsBody side place unfinished → (first b next : Building) (opening : Line) (body : List Action)
    → Leads from first (opening ∷ []) place (record b { unfinished = unfinished [] }) → Leads place (record b { unfinished = unfinished body }) (alone (codes "end") ∷ []) to next
    → AreListed side from (body_lines opening body) → Leads from first (body_lines opening body) to next
body_leads laws side from place to unfinished is first b next opening body opens ends all =
    both_lead side from first (opening ∷ []) (map action_line body ++ alone (codes "end") ∷ []) place to (record b { unfinished = unfinished [] }) next (λ l. opens)
    (λ l. both_lead side place (record b { unfinished = unfinished [] }) (map action_line body) (alone (codes "end") ∷ []) place to (record b { unfinished = unfinished body }) next (actions_lead laws side place unfinished is b [] body)
    (λ e. ends) l) all

-- ---- members

member_is_body : (side : Side) (class : ClassDef) (kind : List Action → Member) → ((body : List Action) (action : Action) → with_action (kind body) action ≡ kind (body ++ action ∷ []))
    → IsBody side MemberBody (λ body. OfMember class (kind body))
unfolding built_after
member_is_body side class kind grows = record {
  table_is = refl;
  stays = λ word test. rw test refl;
  grows = λ b body word fields action test given. rw (test, given) (ap (λ (m : Member). Some (record b { unfinished = OfMember class m })) (grows body action));
}

-- so far with the members that it has, and with one more
member_leads_by : AreRead → (side : Side) (b : Building) (class : ClassDef) (kind : List Action → Member) (opening : Line) (body : List Action)
    → ((body : List Action) (action : Action) → with_action (kind body) action ≡ kind (body ++ action ∷ []))
    → Leads Class (record b { unfinished = OfClass class }) (opening ∷ []) MemberBody (record b { unfinished = OfMember class (kind []) }) → AreListed side Class (body_lines opening body)
    → Leads Class (record b { unfinished = OfClass class }) (body_lines opening body) Class (record b { unfinished = OfClass (record class { members = class.members ++ kind body ∷ [] }) })
unfolding built_after
member_leads_by laws side b class kind opening body grows opens all =
    body_leads laws side Class MemberBody Class (λ l. OfMember class (kind l)) (member_is_body side class kind grows) (record b { unfinished = OfClass class }) b
    (record b { unfinished = OfClass (record class { members = class.members ++ kind body ∷ [] }) }) opening body opens (leads_by MemberBody _ _ Class _ refl refl) all

member_leads : AreRead → (side : Side) (b : Building) (class : ClassDef) (member : Member) → AreListed side Class (member_lines member)
    → Leads Class (record b { unfinished = OfClass class }) (member_lines member) Class (record b { unfinished = OfClass (record class { members = class.members ++ member ∷ [] }) })
unfolding built_after
member_leads laws side b class (members.Method key body) all = member_leads_by laws side b class (λ l. members.Method key l) _ body (λ l a. refl) (leads_by Class _ _ MemberBody _ refl refl) all
member_leads laws side b class (members.Default body) all = member_leads_by laws side b class (λ l. members.Default l) _ body (λ l a. refl) (leads_by Class _ _ MemberBody _ refl refl) all
member_leads laws side b class (members.Construct body) all = member_leads_by laws side b class (λ l. members.Construct l) _ body (λ l a. refl) (leads_by Class _ _ MemberBody _ refl refl) all
member_leads laws side b class (members.Getter key body) all = member_leads_by laws side b class (λ l. members.Getter key l) _ body (λ l a. refl) (leads_by Class _ _ MemberBody _ refl refl) all
member_leads laws side b class (members.Setter key body) all = member_leads_by laws side b class (λ l. members.Setter key l) _ body (λ l a. refl) (leads_by Class _ _ MemberBody _ refl refl) all

-- all that stand one behind another
members_lead : AreRead → (side : Side) (b : Building) (class : ClassDef) (more : List Member) → AreListed side Class (flat_map member_lines more)
    → Leads Class (record b { unfinished = OfClass class }) (flat_map member_lines more) Class (record b { unfinished = OfClass (record class { members = class.members ++ more }) })
members_lead laws side b class [] all =
    subst (λ (l : List Member). Leads Class (record b { unfinished = OfClass class }) [] Class (record b { unfinished = OfClass (record class { members = l }) })) (sym (append-nil class.members))
    (leads_nowhere Class (record b { unfinished = OfClass class }))
members_lead laws side b class (member ∷ more) all =
    let joined = both_lead side Class (record b { unfinished = OfClass class }) (member_lines member) (flat_map member_lines more) Class Class
    (record b { unfinished = OfClass (record class { members = class.members ++ member ∷ [] }) }) (record b { unfinished = OfClass (record class { members = (class.members ++ member ∷ []) ++ more }) })
    (member_leads laws side b class member) (members_lead laws side b (record class { members = class.members ++ member ∷ [] }) more) all in
    subst (λ (l : List Member). Leads Class (record b { unfinished = OfClass class }) (member_lines member ++ flat_map member_lines more) Class (record b { unfinished = OfClass (record class { members = l }) }))
    (append_assoc class.members (member ∷ []) more) joined

-- ---- classes

data_leads : (b : Building) (class : ClassDef) (stored : Bool) → Leads Class (record b { unfinished = OfClass (record class { stored = false }) }) (data_lines stored) Class (record b { unfinished = OfClass (record class { stored = stored }) })
unfolding built_after
data_leads b class true = leads_by Class _ _ Class _ refl refl
data_leads b class false = leads_nowhere Class (record b { unfinished = OfClass (record class { stored = false }) })

class_form : (side : Side) → form_of (top_table side) (codes "class") ≡ Some (only (items.Text ∷ items.Number 1 3 ∷ []))
class_form sides.Page = refl
class_form sides.Plug = refl

-- a class without members so far
abbrev so_far : ClassDef → Bool → List Member → ClassDef
so_far class stored members = record { name = class.name; version = class.version; stored = stored; members = members }

opening_leads : (side : Side) (b : Building) (class : ClassDef) → AreListed side Top (class_opening class ∷ []) → Leads Top b (class_opening class ∷ []) Class (record b { unfinished = OfClass (so_far class false []) })
unfolding built_after
opening_leads side b class all =
    let fits : are_of (items.Text ∷ items.Number 1 3 ∷ []) (text class.name ∷ number class.version ∷ []) ≡ true =
    of_only (top_table side) (codes "class") (items.Text ∷ items.Number 1 3 ∷ []) (text class.name ∷ number class.version ∷ []) all.0 (class_form side) in
    let small : nat_lt class.version 256 ≡ true = grind (arith, nat_tests, and_parts) in
    leads_by Top b (class_opening class) Class _ refl (rw small refl)

-- the members behind `data`, and the end
late_leads : AreRead → (side : Side) (b : Building) (class : ClassDef) (early late : List Member) → AreListed side Class (flat_map member_lines late ++ alone (codes "endclass") ∷ [])
    → Leads Class (record b { unfinished = OfClass (so_far class class.stored early) }) (flat_map member_lines late ++ alone (codes "endclass") ∷ []) Top (record b { classes = b.classes ++ so_far class class.stored (early ++ late) ∷ []; unfinished = Nothing })
unfolding built_after
late_leads laws side b class early late all =
    both_lead side Class (record b { unfinished = OfClass (so_far class class.stored early) }) (flat_map member_lines late) (alone (codes "endclass") ∷ []) Class Top
    (record b { unfinished = OfClass (so_far class class.stored (early ++ late)) }) _ (members_lead laws side b (so_far class class.stored early) late) (λ l. leads_by Class _ _ Top _ refl refl) all

pub class_leads : AreRead → (side : Side) (b : Building) (before : ℕ) (class : ClassDef) → AreListed side Top (class_lines before class)
    → Leads Top b (class_lines before class) Top (record b { classes = b.classes ++ class ∷ []; unfinished = Nothing })
class_leads laws side b before class all =
    let early : List Member = take before class.members in
    let late : List Member = drop before class.members in
    let ending : List Line = flat_map member_lines late ++ alone (codes "endclass") ∷ [] in
    let last : Building = record b { classes = b.classes ++ so_far class class.stored (early ++ late) ∷ []; unfinished = Nothing } in
    let joined : Leads Top b (class_lines before class) Top last =
    both_lead side Top b (class_opening class ∷ []) (flat_map member_lines early ++ (data_lines class.stored ++ ending)) Class Top (record b { unfinished = OfClass (so_far class false []) }) last (opening_leads side b class)
    (both_lead side Class (record b { unfinished = OfClass (so_far class false []) }) (flat_map member_lines early) (data_lines class.stored ++ ending) Class Top (record b { unfinished = OfClass (so_far class false early) }) last
    (members_lead laws side b (so_far class false []) early)
    (both_lead side Class (record b { unfinished = OfClass (so_far class false early) }) (data_lines class.stored) ending Class Top (record b { unfinished = OfClass (so_far class class.stored early) }) last
    (λ l. data_leads b (so_far class false early) class.stored) (late_leads laws side b class early late))) all in
    subst (λ (l : List Member). Leads Top b (class_lines before class) Top (record b { classes = b.classes ++ so_far class class.stored l ∷ []; unfinished = Nothing })) (take-append-drop before class.members) joined
