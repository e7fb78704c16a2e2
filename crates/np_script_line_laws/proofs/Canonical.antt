-- The canonical lines of a script say it.
use Rattle.std.proofs.Common.{◌≡◌, List, [], ◌∷◌, ◌++◌, map, refl, ap, sym, ◌∙◌, append_assoc, append-nil}
use Rattle.std.specs.Prelude.{codes}
use Rattle.std.specs.List.{flat_map, AllByRecursion}
use Rattle.np_script_grammar.specs.declared.class.ClassDef.{ClassDef}
use Rattle.np_script_grammar.specs.declared.page.Resource.{Resource}
use Rattle.np_script_grammar.specs.declared.page.Page.{Page}
use Rattle.np_script_grammar.specs.declared.plugin.HandlerDef.{HandlerDef}
use Rattle.np_script_grammar.specs.declared.plugin.TaskDef.{TaskDef}
use Rattle.np_script_grammar.specs.declared.plugin.Plugin.{Plugin}
use Rattle.np_script_grammar.specs.Forms.{Line}
use Rattle.np_script_grammar.specs.Rows.{number, command_line}
use Rattle.np_script_grammar.specs.Scripts.{alone, class_lines, resource_line, handler_lines, task_lines, Declaration, OfClass, OfResource, OfHandler, OfTask, declaration_lines, class_in, resource_in, handler_in, task_in, HasContent, IsPageOf, IsPluginOf, canonical_page_lines, canonical_plugin_lines}

flat_append : {A B : Type 0} (f : A → List B) (xs ys : List A) → flat_map f (xs ++ ys) ≡ flat_map f xs ++ flat_map f ys
flat_append f [] ys = refl
flat_append f (x ∷ xs) ys = ap (λ l. f x ++ l) (flat_append f xs ys) ∙ sym (append_assoc (f x) (flat_map f xs) (flat_map f ys))

-- declarations of one kind give their own, and nothing of another kind
flat_over : {A B C : Type 0} (f : B → List C) (g : A → B) (h : A → List C) → ((x : A) → f (g x) ≡ h x) → (xs : List A) → flat_map f (map g xs) ≡ flat_map h xs
flat_over f g h e [] = refl
flat_over {C} f g h e (x ∷ xs) = ap (λ (l : List C). l ++ flat_map f (map g xs)) (e x) ∙ ap (λ (l : List C). h x ++ l) (flat_over f g h e xs)

flat_none : {A B C : Type 0} (f : B → List C) (g : A → B) → ((x : A) → f (g x) ≡ []) → (xs : List A) → flat_map f (map g xs) ≡ []
flat_none f g e [] = refl
flat_none {C} f g e (x ∷ xs) = ap (λ (l : List C). l ++ flat_map f (map g xs)) (e x) ∙ flat_none f g e xs

-- one of each
flat_single : {A B : Type 0} (f : A → B) (xs : List A) → flat_map (λ x. f x ∷ []) xs ≡ map f xs
flat_single f [] = refl
flat_single {B} f (x ∷ xs) = ap (λ (l : List B). f x ∷ l) (flat_single f xs)

flat_itself : {A : Type 0} (xs : List A) → flat_map (λ x. x ∷ []) xs ≡ xs
flat_itself [] = refl
flat_itself {A} (x ∷ xs) = ap (λ (l : List A). x ∷ l) (flat_itself xs)

-- what two lists of declarations give, of which one gives nothing
only_first : {A : Type 0} (f : Declaration → List A) (xs ys : List Declaration) (all : List A) → flat_map f xs ≡ all → flat_map f ys ≡ [] → flat_map f (xs ++ ys) ≡ all
only_first {A} f xs ys all e g = flat_append f xs ys ∙ ap (λ (l : List A). l ++ flat_map f ys) e ∙ ap (λ (l : List A). all ++ l) g ∙ append-nil all

only_second : {A : Type 0} (f : Declaration → List A) (xs ys : List Declaration) (all : List A) → flat_map f xs ≡ [] → flat_map f ys ≡ all → flat_map f (xs ++ ys) ≡ all
only_second {A} f xs ys all e g = flat_append f xs ys ∙ ap (λ (l : List A). l ++ flat_map f ys) e ∙ g

-- ---- pages

abbrev pub of_classes : List ClassDef → List Declaration
of_classes classes = map (OfClass 0) classes

abbrev pub of_resources : List Resource → List Declaration
of_resources resources = map OfResource resources

page_declarations : (classes : List ClassDef) (resources : List Resource)
    → flat_map declaration_lines (of_classes classes ++ of_resources resources) ≡ flat_map (class_lines 0) classes ++ map resource_line resources
page_declarations classes resources =
    flat_append declaration_lines (map (OfClass 0) classes) (map OfResource resources)
    ∙ ap (λ (l : List Line). l ++ flat_map declaration_lines (map OfResource resources)) (flat_over declaration_lines (OfClass 0) (class_lines 0) (λ class. refl) classes)
    ∙ ap (λ (l : List Line). flat_map (class_lines 0) classes ++ l) (flat_over declaration_lines OfResource (λ resource. resource_line resource ∷ []) (λ resource. refl) resources ∙ flat_single resource_line resources)

-- the lines behind the declarations of a page
abbrev pub command_lines : Page → List Line
command_lines page = alone (codes "do") ∷ map command_line page.commands

pub page_lines_are : (page : Page)
    → canonical_page_lines page ≡ (codes "page", number page.major ∷ number page.minor ∷ []) ∷ (flat_map declaration_lines (of_classes page.classes ++ of_resources page.resources) ++ command_lines page)
page_lines_are page =
    let head : Line = (codes "page", number page.major ∷ number page.minor ∷ []) in
    ap (λ (l : List Line). head ∷ l)
    (sym (append_assoc (flat_map (class_lines 0) page.classes) (map resource_line page.resources) (command_lines page))
    ∙ ap (λ (l : List Line). l ++ command_lines page) (sym (page_declarations page.classes page.resources)))

pub page_classes : (classes : List ClassDef) (resources : List Resource) → flat_map class_in (of_classes classes ++ of_resources resources) ≡ classes
page_classes classes resources =
    only_first class_in (of_classes classes) (of_resources resources) classes
    (flat_over class_in (OfClass 0) (λ class. class ∷ []) (λ class. refl) classes ∙ flat_itself classes)
    (flat_none class_in OfResource (λ resource. refl) resources)

pub page_resources : (classes : List ClassDef) (resources : List Resource) → flat_map resource_in (of_classes classes ++ of_resources resources) ≡ resources
page_resources classes resources =
    only_second resource_in (of_classes classes) (of_resources resources) resources
    (flat_none resource_in (OfClass 0) (λ class. refl) classes)
    (flat_over resource_in OfResource (λ resource. resource ∷ []) (λ resource. refl) resources ∙ flat_itself resources)

pub page_is_said : (page : Page) → AllByRecursion HasContent page.resources → IsPageOf (canonical_page_lines page) page
page_is_said page contents =
    record {
      declarations = of_classes page.classes ++ of_resources page.resources;
      lines_are = page_lines_are page;
      classes = page_classes page.classes page.resources;
      resources = page_resources page.classes page.resources;
      contents = contents;
    }

-- ---- plug-ins

abbrev pub of_handlers : List HandlerDef → List Declaration
of_handlers handlers = map OfHandler handlers

abbrev pub of_tasks : List TaskDef → List Declaration
of_tasks tasks = map OfTask tasks

last_declarations : (handlers : List HandlerDef) (tasks : List TaskDef)
    → flat_map declaration_lines (of_handlers handlers ++ of_tasks tasks) ≡ flat_map handler_lines handlers ++ flat_map task_lines tasks
last_declarations handlers tasks =
    flat_append declaration_lines (map OfHandler handlers) (map OfTask tasks)
    ∙ ap (λ (l : List Line). l ++ flat_map declaration_lines (map OfTask tasks)) (flat_over declaration_lines OfHandler handler_lines (λ handler. refl) handlers)
    ∙ ap (λ (l : List Line). flat_map handler_lines handlers ++ l) (flat_over declaration_lines OfTask task_lines (λ task. refl) tasks)

pub plugin_lines_are : (plugin : Plugin)
    → canonical_plugin_lines plugin ≡ (codes "plugin", number plugin.major ∷ number plugin.minor ∷ []) ∷ flat_map declaration_lines (of_classes plugin.classes ++ (of_handlers plugin.handlers ++ of_tasks plugin.tasks))
plugin_lines_are plugin =
    let last : List Declaration = of_handlers plugin.handlers ++ of_tasks plugin.tasks in
    let head : Line = (codes "plugin", number plugin.major ∷ number plugin.minor ∷ []) in
    ap (λ (l : List Line). head ∷ l)
    (sym (flat_append declaration_lines (of_classes plugin.classes) last
    ∙ ap (λ (l : List Line). l ++ flat_map declaration_lines last) (flat_over declaration_lines (OfClass 0) (class_lines 0) (λ class. refl) plugin.classes)
    ∙ ap (λ (l : List Line). flat_map (class_lines 0) plugin.classes ++ l) (last_declarations plugin.handlers plugin.tasks)))

pub plugin_classes : (classes : List ClassDef) (handlers : List HandlerDef) (tasks : List TaskDef) → flat_map class_in (of_classes classes ++ (of_handlers handlers ++ of_tasks tasks)) ≡ classes
plugin_classes classes handlers tasks =
    only_first class_in (of_classes classes) (of_handlers handlers ++ of_tasks tasks) classes
    (flat_over class_in (OfClass 0) (λ class. class ∷ []) (λ class. refl) classes ∙ flat_itself classes)
    (only_first class_in (of_handlers handlers) (of_tasks tasks) [] (flat_none class_in OfHandler (λ handler. refl) handlers) (flat_none class_in OfTask (λ task. refl) tasks))

pub plugin_tasks : (classes : List ClassDef) (handlers : List HandlerDef) (tasks : List TaskDef) → flat_map task_in (of_classes classes ++ (of_handlers handlers ++ of_tasks tasks)) ≡ tasks
plugin_tasks classes handlers tasks =
    only_second task_in (of_classes classes) (of_handlers handlers ++ of_tasks tasks) tasks
    (flat_none task_in (OfClass 0) (λ class. refl) classes)
    (only_second task_in (of_handlers handlers) (of_tasks tasks) tasks
    (flat_none task_in OfHandler (λ handler. refl) handlers)
    (flat_over task_in OfTask (λ task. task ∷ []) (λ task. refl) tasks ∙ flat_itself tasks))

pub plugin_is_said : (plugin : Plugin) → IsPluginOf (canonical_plugin_lines plugin) plugin
plugin_is_said plugin =
    let last : List Declaration = of_handlers plugin.handlers ++ of_tasks plugin.tasks in
    record {
      declarations = of_classes plugin.classes ++ last;
      lines_are = plugin_lines_are plugin;
      classes = plugin_classes plugin.classes plugin.handlers plugin.tasks;
      handlers = only_second handler_in (of_classes plugin.classes) last plugin.handlers
          (flat_none handler_in (OfClass 0) (λ class. refl) plugin.classes)
          (only_first handler_in (of_handlers plugin.handlers) (of_tasks plugin.tasks) plugin.handlers
          (flat_over handler_in OfHandler (λ handler. handler ∷ []) (λ handler. refl) plugin.handlers ∙ flat_itself plugin.handlers)
          (flat_none handler_in OfTask (λ task. refl) plugin.tasks));
      tasks = plugin_tasks plugin.classes plugin.handlers plugin.tasks;
    }
