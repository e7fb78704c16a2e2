-- One declaration more.
use Rattle.std.proofs.Common.{◌≡◌, ℕ, List, [], ◌∷◌, ◌++◌, ap, sym, subst, ◌∙◌}
use Rattle.std.specs.List.{flat_map, AllByRecursion}
use Rattle.std.proofs.lemmas.List.{flat_map_more}
use Rattle.np_values.specs.declared.name.Side.{Side}
use Rattle.np_script_grammar.specs.declared.class.ClassDef.{ClassDef}
use Rattle.np_script_grammar.specs.declared.page.Resource.{Resource}
use Rattle.np_script_grammar.specs.declared.plugin.HandlerDef.{HandlerDef}
use Rattle.np_script_grammar.specs.declared.plugin.TaskDef.{TaskDef}
use Rattle.np_script_grammar.specs.Forms.{Line}
use Rattle.np_script_grammar.specs.Rows.{number}
use Rattle.np_script_grammar.specs.Scripts.{Declaration, declaration_lines, class_in, resource_in, handler_in, task_in, HasContent}
use Rattle.np_script_builder.proofs.SaidSoFar.{Declares, head_word}

all_of_both : {A : Type 0} (P : A → Type 0) (xs ys : List A) → AllByRecursion P xs → AllByRecursion P ys → AllByRecursion P (xs ++ ys)
all_of_both P [] ys first second = second
all_of_both P (x ∷ xs) ys first second = (first.0, all_of_both P xs ys first.1 second)

one_more : {A : Type 0} (f : Declaration → List A) (ds : List Declaration) (d : Declaration) (before behind : List A) → flat_map f ds ≡ before → before ++ f d ≡ behind → flat_map f (ds ++ d ∷ []) ≡ behind
one_more {A = A} f ds d before behind e g = sym (flat_map_more f [] ds d) ∙ (ap (λ (l : List A). l ++ f d) e ∙ g)

pub declares_more : (side : Side) (major minor : ℕ) (classes classes2 : List ClassDef) (resources resources2 : List Resource) (handlers handlers2 : List HandlerDef) (tasks tasks2 : List TaskDef)
    (lines lines2 : List Line) (d : Declaration) → Declares side major minor classes resources handlers tasks lines
    → classes ++ class_in d ≡ classes2 → resources ++ resource_in d ≡ resources2 → handlers ++ handler_in d ≡ handlers2 → tasks ++ task_in d ≡ tasks2
    → lines2 ≡ lines ++ declaration_lines d → AllByRecursion HasContent (resource_in d) → Declares side major minor classes2 resources2 handlers2 tasks2 lines2
declares_more side major minor classes classes2 resources resources2 handlers handlers2 tasks tasks2 lines lines2 d said c r h t l content =
    let head : Line = (head_word side, number major ∷ number minor ∷ []) in
    record {
      declarations = said.declarations ++ d ∷ [];
      lines_are = l ∙ (ap (λ (x : List Line). x ++ declaration_lines d) said.lines_are ∙ ap (λ (x : List Line). head ∷ x) (flat_map_more declaration_lines [] said.declarations d));
      classes_are = one_more class_in said.declarations d classes classes2 said.classes_are c;
      resources_are = one_more resource_in said.declarations d resources resources2 said.resources_are r;
      handlers_are = one_more handler_in said.declarations d handlers handlers2 said.handlers_are h;
      tasks_are = one_more task_in said.declarations d tasks tasks2 said.tasks_are t;
      contents = subst (AllByRecursion HasContent) r (all_of_both HasContent resources (resource_in d) said.contents content);
    }
