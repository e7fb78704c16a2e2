-- The lines of the bodies of members, handlers and tasks.
use Rattle.std.proofs.Common.{◌≡◌, ℕ, List, [], ◌∷◌, ◌++◌, Bool, true, false, cond, Some, refl, ap, sym, subst, ◌∙◌, ◌⊎◌, inl, inr, map, append_assoc, append-nil, arith}
use Rattle.std.specs.Prelude.{codes, bytes_eq}
use Rattle.std.proofs.lemmas.List.{map-append}
use Rattle.std.proofs.lemmas.Bool.Decides.{nat_tests}
use Rattle.std.proofs.lemmas.Bool.{and_parts}
use Rattle.np_values.specs.declared.name.Side.{Side}
use Rattle.np_script_grammar.specs.declared.action.Action.{Action}
use Rattle.np_script_grammar.specs.declared.class.Member.{Member}
use Rattle.np_script_grammar.specs.declared.class.Member.TheVariants as members
use Rattle.np_script_grammar.specs.declared.class.ClassDef.{ClassDef}
use Rattle.np_script_grammar.specs.declared.plugin.HandlerDef.{HandlerDef}
use Rattle.np_script_grammar.specs.declared.plugin.TaskDef.{TaskDef}
use Rattle.np_script_grammar.specs.declared.place.Place.TheVariants.{Top, Class, MemberBody, Body}
use Rattle.np_script_grammar.specs.declared.line.Field.{Field}
use Rattle.np_script_grammar.specs.Forms.{Line, are_of, IsOf}
use Rattle.np_script_grammar.specs.Tables.{action_table, body_table}
use Rattle.np_script_grammar.specs.Rows.{action_line}
use Rattle.np_script_grammar.specs.Scripts.{OfHandler as HandlerDeclared, OfTask as TaskDeclared, alone, body_lines, member_opening, member_body, member_lines}
use Rattle.np_script_actions.specs.Actions.{action_of}
use Rattle.np_script_builder.proofs.RowLaws.{LinesSay}
use Rattle.np_script_builder.proofs.FormFields.{without_groups}
use Rattle.np_script_builder.specs.declared.state.Unfinished.TheVariants.{Nothing, OfClass, OfMember, OfHandler, OfTask}
use Rattle.np_script_builder.specs.declared.state.Building.{Building}
use Rattle.np_script_builder.specs.Building.{built_after, with_action}
use Rattle.np_script_builder.proofs.ByRows.{by_first}
use Rattle.np_script_builder.proofs.SaidSoFar.{Says, SaysMember, SaysHandler, SaysTask, class_so_far}
use Rattle.np_script_builder.proofs.Declared.{declares_more}
use Rattle.np_script_builder.proofs.ClassLines.{one_member}
use Rattle.np_script_builder.proofs.TopSteps.{Goes}

-- ---- the lines of a body

-- one action more
pub longer_body : (before lines : List Line) (opening line : Line) (body : List Action) (action : Action) → lines ≡ before ++ (opening ∷ map action_line body) → action_line action ≡ line
    → lines ++ line ∷ [] ≡ before ++ (opening ∷ map action_line (body ++ action ∷ []))
longer_body before lines opening line body action e was =
    ap (λ (l : List Line). l ++ line ∷ []) e
    ∙ (append_assoc before (opening ∷ map action_line body) (line ∷ [])
    ∙ ap (λ (l : List Line). before ++ (opening ∷ l)) (ap (λ (l : Line). map action_line body ++ l ∷ []) (sym was) ∙ sym (map-append action_line body (action ∷ []))))

-- its end
pub ended_body : (before lines : List Line) (opening : Line) (body : List Action) → lines ≡ before ++ (opening ∷ map action_line body)
    → lines ++ alone (codes "end") ∷ [] ≡ before ++ body_lines opening body
ended_body before lines opening body e =
    ap (λ (l : List Line). l ++ alone (codes "end") ∷ []) e ∙ append_assoc before (opening ∷ map action_line body) (alone (codes "end") ∷ [])

opening_stays : (member : Member) (action : Action) → member_opening (with_action member action) ≡ member_opening member
opening_stays (members.Method key body) action = refl
opening_stays (members.Default body) action = refl
opening_stays (members.Construct body) action = refl
opening_stays (members.Getter key body) action = refl
opening_stays (members.Setter key body) action = refl

body_grows : (member : Member) (action : Action) → member_body (with_action member action) ≡ member_body member ++ action ∷ []
body_grows (members.Method key body) action = refl
body_grows (members.Default body) action = refl
body_grows (members.Construct body) action = refl
body_grows (members.Getter key body) action = refl
body_grows (members.Setter key body) action = refl

-- ---- members

member_end : (side : Side) (in_class : List (List ℕ)) (b : Building) (lines : List Line) → SaysMember side in_class b lines → (fields : List Field) → are_of [] fields ≡ true
    → Goes side MemberBody in_class b lines (codes "end") fields
unfolding built_after
member_end side in_class b lines said [] e =
    let open_class = said.opened in
    let longer : ClassDef = record said.class { members = said.class.members ++ said.member ∷ [] } in
    record {
      next = record b { unfinished = OfClass longer };
      gives = rw said.unfinished_is refl;
      says = record {
        class = longer;
        unfinished_is = refl;
        opened = record {
          front = open_class.front;
          early = open_class.early;
          late = open_class.late ++ said.member ∷ [];
          members_are = ap (λ (l : List Member). l ++ said.member ∷ []) open_class.members_are ∙ append_assoc open_class.early open_class.late (said.member ∷ []);
          lines_are = ended_body said.before lines (member_opening said.member) (member_body said.member) said.lines_are
              ∙ (ap (λ (l : List Line). l ++ member_lines said.member) open_class.lines_are
              ∙ (append_assoc open_class.front (class_so_far open_class.early open_class.late said.class) (member_lines said.member)
              ∙ ap (λ (l : List Line). open_class.front ++ l) (one_member open_class.early open_class.late said.class said.member longer.members)));
          declares = open_class.declares;
          no_commands = open_class.no_commands;
          noted = open_class.noted;
        };
      };
    }
member_end side in_class b lines said fields e = absurd (grind (arith, nat_tests, and_parts))

member_action : LinesSay → (side : Side) (in_class : List (List ℕ)) (b : Building) (lines : List Line) (word : List ℕ) (fields : List Field) → SaysMember side in_class b lines
    → bytes_eq word (codes "end") ≡ false → IsOf (action_table side) (word, fields) → Goes side MemberBody in_class b lines word fields
unfolding built_after
member_action laws side in_class b lines word fields said test is =
    let says = laws.say_actions side (word, fields) is in
    let action : Action = says.0 in
    let given : action_of word fields ≡ Some action = says.1 in
    let was : action_line action ≡ (word, fields) = laws.were_actions word fields action given in
    let open_class = said.opened in
    let member : Member = with_action said.member action in
    let next : Building = record b { unfinished = OfMember said.class member } in
    let grown : lines ++ (word, fields) ∷ [] ≡ said.before ++ (member_opening member ∷ map action_line (member_body member)) =
    longer_body said.before lines (member_opening said.member) (word, fields) (member_body said.member) action said.lines_are was
    ∙ (ap (λ (l : Line). said.before ++ (l ∷ map action_line (member_body said.member ++ action ∷ []))) (sym (opening_stays said.member action))
    ∙ ap (λ (l : List Action). said.before ++ (member_opening member ∷ map action_line l)) (sym (body_grows said.member action))) in
    let says_member : SaysMember side in_class next (lines ++ (word, fields) ∷ []) = record {
      class = said.class;
      member = member;
      before = said.before;
      unfinished_is = refl;
      opened = record {
        front = open_class.front;
        early = open_class.early;
        late = open_class.late;
        members_are = open_class.members_are;
        lines_are = open_class.lines_are;
        declares = open_class.declares;
        no_commands = open_class.no_commands;
        noted = open_class.noted;
      };
      lines_are = grown;
    } in
    record {
      next = next;
      gives = rw (said.unfinished_is, test, given) refl;
      says = subst (λ (t : Bool). Says side (cond t Class MemberBody) in_class next (lines ++ (word, fields) ∷ [])) (sym test) says_member;
    }

pub member_step : LinesSay → (side : Side) (in_class : List (List ℕ)) (b : Building) (lines : List Line) (word : List ℕ) (fields : List Field) → SaysMember side in_class b lines → IsOf (body_table side) (word, fields)
    → Goes side MemberBody in_class b lines word fields
member_step laws side in_class b lines word fields said is =
    by_first (Goes side MemberBody in_class b lines) _ (action_table side) word fields (λ f h. member_end side in_class b lines said f (without_groups [] f h))
    (λ test others. member_action laws side in_class b lines word fields said test others) is

-- ---- handlers

handler_end : (side : Side) (in_class : List (List ℕ)) (b : Building) (lines : List Line) → SaysHandler side b lines → (fields : List Field) → are_of [] fields ≡ true
    → Goes side Body in_class b lines (codes "end") fields
unfolding built_after
handler_end side in_class b lines said [] e =
    record {
      next = record b { handlers = b.handlers ++ said.handler ∷ []; unfinished = Nothing };
      gives = rw said.unfinished_is refl;
      says = record {
        declares = declares_more side b.major b.minor b.classes b.classes b.resources b.resources b.handlers (b.handlers ++ said.handler ∷ []) b.tasks b.tasks said.before _ (HandlerDeclared said.handler)
            said.declares (append-nil b.classes) (append-nil b.resources) refl (append-nil b.tasks) (ended_body said.before lines _ said.handler.body said.lines_are) tt;
        no_commands = said.no_commands;
      };
    }
handler_end side in_class b lines said fields e = absurd (grind (arith, nat_tests, and_parts))

handler_action : LinesSay → (side : Side) (in_class : List (List ℕ)) (b : Building) (lines : List Line) (word : List ℕ) (fields : List Field) → SaysHandler side b lines
    → bytes_eq word (codes "end") ≡ false → IsOf (action_table side) (word, fields) → Goes side Body in_class b lines word fields
unfolding built_after
handler_action laws side in_class b lines word fields said test is =
    let says = laws.say_actions side (word, fields) is in
    let action : Action = says.0 in
    let given : action_of word fields ≡ Some action = says.1 in
    let was : action_line action ≡ (word, fields) = laws.were_actions word fields action given in
    let handler : HandlerDef = record said.handler { body = said.handler.body ++ action ∷ [] } in
    let next : Building = record b { unfinished = OfHandler handler } in
    let says_handler : SaysHandler side next (lines ++ (word, fields) ∷ []) = record {
      handler = handler;
      before = said.before;
      unfinished_is = refl;
      declares = said.declares;
      no_commands = said.no_commands;
      lines_are = longer_body said.before lines _ (word, fields) said.handler.body action said.lines_are was;
    } in
    record {
      next = next;
      gives = rw (said.unfinished_is, test, given) refl;
      says = subst (λ (t : Bool). Says side (cond t Top Body) in_class next (lines ++ (word, fields) ∷ [])) (sym test) (inl says_handler);
    }

handler_step : LinesSay → (side : Side) (in_class : List (List ℕ)) (b : Building) (lines : List Line) (word : List ℕ) (fields : List Field) → SaysHandler side b lines → IsOf (body_table side) (word, fields)
    → Goes side Body in_class b lines word fields
handler_step laws side in_class b lines word fields said is =
    by_first (Goes side Body in_class b lines) _ (action_table side) word fields (λ f h. handler_end side in_class b lines said f (without_groups [] f h))
    (λ test others. handler_action laws side in_class b lines word fields said test others) is

-- ---- tasks

task_end : (side : Side) (in_class : List (List ℕ)) (b : Building) (lines : List Line) → SaysTask side b lines → (fields : List Field) → are_of [] fields ≡ true
    → Goes side Body in_class b lines (codes "end") fields
unfolding built_after
task_end side in_class b lines said [] e =
    record {
      next = record b { tasks = b.tasks ++ said.task ∷ []; unfinished = Nothing };
      gives = rw said.unfinished_is refl;
      says = record {
        declares = declares_more side b.major b.minor b.classes b.classes b.resources b.resources b.handlers b.handlers b.tasks (b.tasks ++ said.task ∷ []) said.before _ (TaskDeclared said.task)
            said.declares (append-nil b.classes) (append-nil b.resources) (append-nil b.handlers) refl (ended_body said.before lines _ said.task.body said.lines_are) tt;
        no_commands = said.no_commands;
      };
    }
task_end side in_class b lines said fields e = absurd (grind (arith, nat_tests, and_parts))

task_action : LinesSay → (side : Side) (in_class : List (List ℕ)) (b : Building) (lines : List Line) (word : List ℕ) (fields : List Field) → SaysTask side b lines
    → bytes_eq word (codes "end") ≡ false → IsOf (action_table side) (word, fields) → Goes side Body in_class b lines word fields
unfolding built_after
task_action laws side in_class b lines word fields said test is =
    let says = laws.say_actions side (word, fields) is in
    let action : Action = says.0 in
    let given : action_of word fields ≡ Some action = says.1 in
    let was : action_line action ≡ (word, fields) = laws.were_actions word fields action given in
    let task : TaskDef = record said.task { body = said.task.body ++ action ∷ [] } in
    let next : Building = record b { unfinished = OfTask task } in
    let says_task : SaysTask side next (lines ++ (word, fields) ∷ []) = record {
      task = task;
      before = said.before;
      unfinished_is = refl;
      declares = said.declares;
      no_commands = said.no_commands;
      lines_are = longer_body said.before lines _ (word, fields) said.task.body action said.lines_are was;
    } in
    record {
      next = next;
      gives = rw (said.unfinished_is, test, given) refl;
      says = subst (λ (t : Bool). Says side (cond t Top Body) in_class next (lines ++ (word, fields) ∷ [])) (sym test) (inr says_task);
    }

task_step : LinesSay → (side : Side) (in_class : List (List ℕ)) (b : Building) (lines : List Line) (word : List ℕ) (fields : List Field) → SaysTask side b lines → IsOf (body_table side) (word, fields)
    → Goes side Body in_class b lines word fields
task_step laws side in_class b lines word fields said is =
    by_first (Goes side Body in_class b lines) _ (action_table side) word fields (λ f h. task_end side in_class b lines said f (without_groups [] f h))
    (λ test others. task_action laws side in_class b lines word fields said test others) is

pub body_step : LinesSay → (side : Side) (in_class : List (List ℕ)) (b : Building) (lines : List Line) (word : List ℕ) (fields : List Field) → SaysHandler side b lines ⊎ SaysTask side b lines
    → IsOf (body_table side) (word, fields) → Goes side Body in_class b lines word fields
body_step laws side in_class b lines word fields (inl said) is = handler_step laws side in_class b lines word fields said is
body_step laws side in_class b lines word fields (inr said) is = task_step laws side in_class b lines word fields said is
