-- What is built of the lines of declarations and commands.
use Rattle.std.proofs.Common.{◌≡◌, ℕ, List, [], ◌∷◌, ◌++◌, Some, refl, ap, sym, subst, ◌∙◌, map, append_assoc, append-nil}
use Rattle.std.specs.List.{flat_map, AllByRecursion}
use Rattle.np_values.specs.declared.name.Side.{Side}
use Rattle.np_script_grammar.specs.declared.command.Command.{Command}
use Rattle.np_script_grammar.specs.declared.class.ClassDef.{ClassDef}
use Rattle.np_script_grammar.specs.declared.page.Resource.{Resource}
use Rattle.np_script_grammar.specs.declared.plugin.HandlerDef.{HandlerDef}
use Rattle.np_script_grammar.specs.declared.plugin.TaskDef.{TaskDef}
use Rattle.np_script_grammar.specs.declared.place.Place.TheVariants.{Top, Body, Commands}
use Rattle.np_script_grammar.specs.Forms.{Line}
use Rattle.np_script_grammar.specs.Rows.{command_line}
use Rattle.np_script_grammar.specs.Scripts.{Declaration, OfClass, OfResource, OfHandler, OfTask, declaration_lines, class_in, resource_in, handler_in, task_in, HasContent, copies, handler_lines, resource_line, task_lines}
use Rattle.np_script_actions.specs.Commands.{command_of}
use Rattle.np_script_builder.proofs.RowLaws.{AreRead}
use Rattle.np_script_builder.specs.declared.state.Unfinished.TheVariants.{Nothing, OfHandler as HandlerUnfinished, OfTask as TaskUnfinished}
use Rattle.np_script_builder.specs.declared.state.Building.{Building}
use Rattle.np_script_builder.specs.Building.{built_after}
use Rattle.np_script_builder.proofs.Parts.{AreListed, Leads, leads_by, leads_nowhere, leads_further, both_lead, front_listed, listed_behind}
use Rattle.np_script_builder.proofs.BodyParts.{IsBody}
use Rattle.np_script_builder.proofs.ClassParts.{body_leads, class_leads}

-- ---- handlers and tasks

handler_is_body : (side : Side) (handler : HandlerDef) → IsBody side Body (λ body. HandlerUnfinished (record handler { body = body }))
unfolding built_after
handler_is_body side handler = record { table_is = refl; stays = λ word test. rw test refl; grows = λ b body word fields action test given. rw (test, given) refl }

handler_leads : AreRead → (side : Side) (b : Building) (handler : HandlerDef) → AreListed side Top (handler_lines handler)
    → Leads Top b (handler_lines handler) Top (record b { handlers = b.handlers ++ handler ∷ []; unfinished = Nothing })
unfolding built_after
handler_leads laws side b handler all =
    body_leads laws side Top Body Top (λ body. HandlerUnfinished (record handler { body = body })) (handler_is_body side handler) b b _ _ handler.body (leads_by Top _ _ Body _ refl refl) (leads_by Body _ _ Top _ refl refl) all

task_is_body : (side : Side) (task : TaskDef) → IsBody side Body (λ body. TaskUnfinished (record task { body = body }))
unfolding built_after
task_is_body side task = record { table_is = refl; stays = λ word test. rw test refl; grows = λ b body word fields action test given. rw (test, given) refl }

task_leads : AreRead → (side : Side) (b : Building) (task : TaskDef) → AreListed side Top (task_lines task) → Leads Top b (task_lines task) Top (record b { tasks = b.tasks ++ task ∷ []; unfinished = Nothing })
unfolding built_after
task_leads laws side b task all =
    body_leads laws side Top Body Top (λ body. TaskUnfinished (record task { body = body })) (task_is_body side task) b b _ _ task.body (leads_by Top _ _ Body _ refl refl) (leads_by Body _ _ Top _ refl refl) all

-- ---- declarations

-- the lines lead from the top to the top, and these lists were added
pub record Adds (b : Building) (lines : List Line) (classes : List ClassDef) (resources : List Resource) (handlers : List HandlerDef) (tasks : List TaskDef) : Type 0 where
  pub next : Building
  pub leads : Leads Top b lines Top next
  pub major_is : next.major ≡ b.major
  pub minor_is : next.minor ≡ b.minor
  pub classes_are : next.classes ≡ b.classes ++ classes
  pub resources_are : AllByRecursion HasContent resources → next.resources ≡ b.resources ++ resources
  pub handlers_are : next.handlers ≡ b.handlers ++ handlers
  pub tasks_are : next.tasks ≡ b.tasks ++ tasks
  pub commands_are : next.commands ≡ b.commands

-- a resource as it is built
abbrev carrying : Resource → List ℕ → Resource
carrying resource content = record resource { content = content }

adds : AreRead → (side : Side) (b : Building) (d : Declaration) → AreListed side Top (declaration_lines d) → Adds b (declaration_lines d) (class_in d) (resource_in d) (handler_in d) (task_in d)
unfolding built_after
adds laws side b (OfClass before class) all = record {
  next = record b { classes = b.classes ++ class ∷ []; unfinished = Nothing };
  leads = class_leads laws side b before class all;
  major_is = refl;
  minor_is = refl;
  classes_are = refl;
  resources_are = λ has. sym (append-nil b.resources);
  handlers_are = sym (append-nil b.handlers);
  tasks_are = sym (append-nil b.tasks);
  commands_are = refl;
}
adds laws side b (OfResource resource) all = record {
  next = record b { resources = b.resources ++ carrying resource (copies resource.times resource.piece) ∷ [] };
  leads = leads_by Top b (resource_line resource) Top _ refl refl;
  major_is = refl;
  minor_is = refl;
  classes_are = sym (append-nil b.classes);
  resources_are = λ has. ap (λ (l : List ℕ). b.resources ++ carrying resource l ∷ []) (sym has.0);
  handlers_are = sym (append-nil b.handlers);
  tasks_are = sym (append-nil b.tasks);
  commands_are = refl;
}
adds laws side b (OfHandler handler) all = record {
  next = record b { handlers = b.handlers ++ handler ∷ []; unfinished = Nothing };
  leads = handler_leads laws side b handler all;
  major_is = refl;
  minor_is = refl;
  classes_are = sym (append-nil b.classes);
  resources_are = λ has. sym (append-nil b.resources);
  handlers_are = refl;
  tasks_are = sym (append-nil b.tasks);
  commands_are = refl;
}
adds laws side b (OfTask task) all = record {
  next = record b { tasks = b.tasks ++ task ∷ []; unfinished = Nothing };
  leads = task_leads laws side b task all;
  major_is = refl;
  minor_is = refl;
  classes_are = sym (append-nil b.classes);
  resources_are = λ has. sym (append-nil b.resources);
  handlers_are = sym (append-nil b.handlers);
  tasks_are = refl;
  commands_are = refl;
}

both : {A : Type 0} (last middle first x y : List A) → last ≡ middle ++ y → middle ≡ first ++ x → last ≡ first ++ (x ++ y)
both {A = A} last middle first x y e f = e ∙ (ap (λ (l : List A). l ++ y) f ∙ append_assoc first x y)

first_have : (xs ys : List Resource) → AllByRecursion HasContent (xs ++ ys) → AllByRecursion HasContent xs
first_have [] ys all = tt
first_have (x ∷ xs) ys all = (all.0, first_have xs ys all.1)

others_have : (xs ys : List Resource) → AllByRecursion HasContent (xs ++ ys) → AllByRecursion HasContent ys
others_have [] ys all = all
others_have (x ∷ xs) ys all = others_have xs ys all.1

-- all of them
pub all_add : AreRead → (side : Side) (b : Building) (ds : List Declaration) → AreListed side Top (flat_map declaration_lines ds)
    → Adds b (flat_map declaration_lines ds) (flat_map class_in ds) (flat_map resource_in ds) (flat_map handler_in ds) (flat_map task_in ds)
all_add laws side b [] all = record {
  next = b;
  leads = leads_nowhere Top b;
  major_is = refl;
  minor_is = refl;
  classes_are = sym (append-nil b.classes);
  resources_are = λ has. sym (append-nil b.resources);
  handlers_are = sym (append-nil b.handlers);
  tasks_are = sym (append-nil b.tasks);
  commands_are = refl;
}
all_add laws side b (d ∷ ds) all =
    let front = declaration_lines d in
    let behind = flat_map declaration_lines ds in
    let first = adds laws side b d (front_listed side Top front behind all) in
    let others = all_add laws side first.next ds (listed_behind side Top b front behind Top first.next first.leads all) in
    record {
      next = others.next;
      leads = leads_further Top b front behind Top Top first.next others.next first.leads others.leads;
      major_is = others.major_is ∙ first.major_is;
      minor_is = others.minor_is ∙ first.minor_is;
      classes_are = both others.next.classes first.next.classes b.classes (class_in d) (flat_map class_in ds) others.classes_are first.classes_are;
      resources_are = λ has. both others.next.resources first.next.resources b.resources (resource_in d) (flat_map resource_in ds) (others.resources_are (others_have (resource_in d) (flat_map resource_in ds) has))
          (first.resources_are (first_have (resource_in d) (flat_map resource_in ds) has));
      handlers_are = both others.next.handlers first.next.handlers b.handlers (handler_in d) (flat_map handler_in ds) others.handlers_are first.handlers_are;
      tasks_are = both others.next.tasks first.next.tasks b.tasks (task_in d) (flat_map task_in ds) others.tasks_are first.tasks_are;
      commands_are = others.commands_are ∙ first.commands_are;
    }

-- ---- commands

command_leads : AreRead → (side : Side) (b : Building) (command : Command) → AreListed side Commands (command_line command ∷ []) → Leads Commands b (command_line command ∷ []) Commands (record b { commands = b.commands ++ command ∷ [] })
unfolding built_after
command_leads laws side b command all =
    let read : command_of (command_line command).0 (command_line command).1 ≡ Some command = laws.commands command all.0 in
    leads_by Commands b (command_line command) Commands _ refl (rw read refl)

pub commands_lead : AreRead → (side : Side) (b : Building) (commands : List Command) → AreListed side Commands (map command_line commands)
    → Leads Commands b (map command_line commands) Commands (record b { commands = b.commands ++ commands })
commands_lead laws side b [] all = subst (λ (l : List Command). Leads Commands b [] Commands (record b { commands = l })) (sym (append-nil b.commands)) (leads_nowhere Commands b)
commands_lead laws side b (command ∷ commands) all =
    let joined = both_lead side Commands b (command_line command ∷ []) (map command_line commands) Commands Commands (record b { commands = b.commands ++ command ∷ [] })
    (record b { commands = (b.commands ++ command ∷ []) ++ commands }) (command_leads laws side b command) (commands_lead laws side (record b { commands = b.commands ++ command ∷ [] }) commands) all in
    subst (λ (l : List Command). Leads Commands b (command_line command ∷ map command_line commands) Commands (record b { commands = l })) (append_assoc b.commands (command ∷ []) commands) joined
