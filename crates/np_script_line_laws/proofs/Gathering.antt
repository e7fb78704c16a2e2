-- Declarations in order are in order when they are gathered by their kinds.
use Rattle.std.proofs.Common.{◌≡◌, ℕ, List, [], ◌∷◌, ◌++◌, refl, ap, sym, ◌∙◌, subst, append_assoc, append-nil}
use Rattle.std.specs.Prelude.{codes}
use Rattle.std.specs.List.{flat_map}
use Rattle.np_values.specs.declared.name.Side.{Side}
use Rattle.np_values.specs.declared.name.Side.TheVariants as sides
use Rattle.np_script_grammar.specs.declared.class.ClassDef.{ClassDef}
use Rattle.np_script_grammar.specs.declared.page.Resource.{Resource}
use Rattle.np_script_grammar.specs.declared.plugin.HandlerDef.{HandlerDef}
use Rattle.np_script_grammar.specs.declared.plugin.TaskDef.{TaskDef}
use Rattle.np_script_grammar.specs.declared.place.Place.TheVariants.{Top}
use Rattle.np_script_grammar.specs.Forms.{Line}
use Rattle.np_script_grammar.specs.Rows.{number}
use Rattle.np_script_grammar.specs.Scripts.{Declaration, OfClass, OfResource, OfHandler, OfTask, declaration_lines, class_in, resource_in, handler_in, task_in}
use Rattle.np_script_grammar.specs.Order.{Counts, Standing, no_counts, at_first, declared_by, AreInOrder}
use Rattle.np_script_grammar.specs.Refusals.{standing_behind}
use Rattle.np_script_line_laws.specs.Laws.{CanonicalPagesAreInOrder, CanonicalPluginsAreInOrder}
use Rattle.np_script_line_laws.proofs.Prefixes.{front_in_order, joined_in_order}
use Rattle.np_script_line_laws.proofs.Canonical.{of_classes, of_resources, of_handlers, of_tasks, command_lines, page_lines_are, plugin_lines_are}
use Rattle.np_script_line_laws.proofs.Counting.{Few, few_parts}
use Rattle.np_script_line_laws.proofs.Alike.{at}
use Rattle.np_script_line_laws.proofs.Blocks.{IsBehind, AtTop, behind, to_top, from_top, rest_in_order, swapped}
use Rattle.np_script_line_laws.proofs.Declarations.{opening, inner, lines_of_block, block_of, with_data_first}

-- the lines of declarations
abbrev pub all_lines : List Declaration → List Line
all_lines ds = flat_map declaration_lines ds

pub behind_declaration : (side : Side) (c : Counts) (top keys : List (List ℕ)) (d : Declaration) → Few c → AreInOrder side (at Top c top keys) (declaration_lines d)
    → IsBehind c top (opening d) (standing_behind (at Top c top keys) (declaration_lines d))
behind_declaration side c top keys d few all =
    let s : Standing = at Top c top keys in
    subst (λ (l : List Line). IsBehind c top (opening d) (standing_behind s l)) (sym (lines_of_block d))
    (behind side c top keys (opening d) (inner d) (block_of d) few (subst (AreInOrder side s) (lines_of_block d) all))

-- two that follow each other change places
change : (side : Side) (c : Counts) (top keys : List (List ℕ)) (one two : Declaration) (rest : List Line) → Few c
    → AreInOrder side (at Top c top keys) (declaration_lines one ++ (declaration_lines two ++ rest)) → AreInOrder side (at Top c top keys) (declaration_lines two ++ (declaration_lines one ++ rest))
change side c top keys one two rest few all =
    let s : Standing = at Top c top keys in
    let first : List Line = opening one ∷ inner one in
    let second : List Line = opening two ∷ inner two in
    let by_blocks : AreInOrder side s (first ++ (second ++ rest)) =
    subst (λ (l : List Line). AreInOrder side s (first ++ (l ++ rest))) (lines_of_block two)
    (subst (λ (l : List Line). AreInOrder side s (l ++ (declaration_lines two ++ rest))) (lines_of_block one) all) in
    subst (λ (l : List Line). AreInOrder side s (declaration_lines two ++ (l ++ rest))) (sym (lines_of_block one))
    (subst (λ (l : List Line). AreInOrder side s (l ++ (first ++ rest))) (sym (lines_of_block two))
    (swapped side c top keys (opening one) (opening two) (inner one) (inner two) rest (block_of one) (block_of two) few by_blocks))

-- one goes behind others
passed : (side : Side) (c : Counts) (top keys : List (List ℕ)) (d : Declaration) (front last : List Declaration) (rest : List Line) → Few c
    → AreInOrder side (at Top c top keys) (declaration_lines d ++ (all_lines (front ++ last) ++ rest)) → AreInOrder side (at Top c top keys) (all_lines (front ++ d ∷ last) ++ rest)
passed side c top keys d [] last rest few all = subst (AreInOrder side (at Top c top keys)) (sym (append_assoc (declaration_lines d) (all_lines last) rest)) all
passed side c top keys d (x ∷ front) last rest few all =
    let s : Standing = at Top c top keys in
    let others : List Line = all_lines (front ++ last) ++ rest in
    let changed : AreInOrder side s (declaration_lines x ++ (declaration_lines d ++ others)) =
    change side c top keys d x others few
    (subst (λ (l : List Line). AreInOrder side s (declaration_lines d ++ l)) (append_assoc (declaration_lines x) (all_lines (front ++ last)) rest) all) in
    let first : AreInOrder side s (declaration_lines x) = front_in_order side s (declaration_lines x) (declaration_lines d ++ others) changed in
    let t : Standing = standing_behind s (declaration_lines x) in
    let b : IsBehind c top (opening x) t = behind_declaration side c top keys x few first in
    let behind_it : AreInOrder side (AtTop c top (opening x) t) (all_lines (front ++ d ∷ last) ++ rest) =
    passed side t.counts (top ++ declared_by (opening x) ∷ []) t.in_class d front last rest b.few
    (to_top side c top (opening x) t (declaration_lines d ++ others) b (rest_in_order side s (declaration_lines x) (declaration_lines d ++ others) changed)) in
    subst (AreInOrder side s) (sym (append_assoc (declaration_lines x) (all_lines (front ++ d ∷ last)) rest))
    (joined_in_order side s (declaration_lines x) (all_lines (front ++ d ∷ last) ++ rest) first
    (from_top side c top (opening x) t (all_lines (front ++ d ∷ last) ++ rest) b behind_it))

-- ---- by their kinds

abbrev classes_of : List Declaration → List Declaration
classes_of ds = of_classes (flat_map class_in ds)

abbrev resources_of : List Declaration → List Declaration
resources_of ds = of_resources (flat_map resource_in ds)

abbrev handlers_of : List Declaration → List Declaration
handlers_of ds = of_handlers (flat_map handler_in ds)

abbrev tasks_of : List Declaration → List Declaration
tasks_of ds = of_tasks (flat_map task_in ds)

-- classes with `data` first, resources, handlers, tasks
abbrev gathered : List Declaration → List Declaration
gathered ds = classes_of ds ++ (resources_of ds ++ (handlers_of ds ++ tasks_of ds))

-- one more goes to the others of its kind
joins : (side : Side) (c : Counts) (top keys : List (List ℕ)) (d : Declaration) (ds : List Declaration) (rest : List Line) → Few c
    → AreInOrder side (at Top c top keys) (declaration_lines d ++ (all_lines (gathered ds) ++ rest)) → AreInOrder side (at Top c top keys) (all_lines (gathered (d ∷ ds)) ++ rest)
joins side c top keys (OfClass before class) ds rest few all =
    passed side c top keys (OfClass 0 class) [] (gathered ds) rest few (with_data_first side c top keys before class (all_lines (gathered ds) ++ rest) few all)
joins side c top keys (OfResource resource) ds rest few all =
    passed side c top keys (OfResource resource) (classes_of ds) (resources_of ds ++ (handlers_of ds ++ tasks_of ds)) rest few all
joins side c top keys (OfHandler handler) ds rest few all =
    let s : Standing = at Top c top keys in
    let d : Declaration = OfHandler handler in
    let others : List Declaration = handlers_of ds ++ tasks_of ds in
    subst (λ (l : List Declaration). AreInOrder side s (all_lines l ++ rest)) (append_assoc (classes_of ds) (resources_of ds) (d ∷ others))
    (passed side c top keys d (classes_of ds ++ resources_of ds) others rest few
    (subst (λ (l : List Declaration). AreInOrder side s (declaration_lines d ++ (all_lines l ++ rest))) (sym (append_assoc (classes_of ds) (resources_of ds) others)) all))
joins side c top keys (OfTask task) ds rest few all =
    let s : Standing = at Top c top keys in
    let d : Declaration = OfTask task in
    subst (λ (l : List Declaration). AreInOrder side s (all_lines l ++ rest)) (behind_three (classes_of ds) (resources_of ds) (handlers_of ds) (d ∷ tasks_of ds))
    (passed side c top keys d (classes_of ds ++ (resources_of ds ++ handlers_of ds)) (tasks_of ds) rest few
    (subst (λ (l : List Declaration). AreInOrder side s (declaration_lines d ++ (all_lines l ++ rest))) (sym (behind_three (classes_of ds) (resources_of ds) (handlers_of ds) (tasks_of ds))) all))
  where
    behind_three : (xs ys zs last : List Declaration) → (xs ++ (ys ++ zs)) ++ last ≡ xs ++ (ys ++ (zs ++ last))
    behind_three xs ys zs last = append_assoc xs (ys ++ zs) last ∙ ap (λ (l : List Declaration). xs ++ l) (append_assoc ys zs last)

are_gathered : (side : Side) (c : Counts) (top keys : List (List ℕ)) (ds : List Declaration) (rest : List Line) → Few c
    → AreInOrder side (at Top c top keys) (all_lines ds ++ rest) → AreInOrder side (at Top c top keys) (all_lines (gathered ds) ++ rest)
are_gathered side c top keys [] rest few all = all
are_gathered side c top keys (d ∷ ds) rest few all =
    let s : Standing = at Top c top keys in
    let parted : AreInOrder side s (declaration_lines d ++ (all_lines ds ++ rest)) = subst (AreInOrder side s) (append_assoc (declaration_lines d) (all_lines ds) rest) all in
    let first : AreInOrder side s (declaration_lines d) = front_in_order side s (declaration_lines d) (all_lines ds ++ rest) parted in
    let t : Standing = standing_behind s (declaration_lines d) in
    let b : IsBehind c top (opening d) t = behind_declaration side c top keys d few first in
    let behind_it : AreInOrder side (AtTop c top (opening d) t) (all_lines (gathered ds) ++ rest) =
    are_gathered side t.counts (top ++ declared_by (opening d) ∷ []) t.in_class ds rest b.few
    (to_top side c top (opening d) t (all_lines ds ++ rest) b (rest_in_order side s (declaration_lines d) (all_lines ds ++ rest) parted)) in
    joins side c top keys d ds rest few
    (joined_in_order side s (declaration_lines d) (all_lines (gathered ds) ++ rest) first (from_top side c top (opening d) t (all_lines (gathered ds) ++ rest) b behind_it))

-- ---- the kinds of each side

-- what no script of this side declares is declared nowhere
abbrev HasNoOthers : Side → List Declaration → Type 0
HasNoOthers sides.Page ds = (flat_map handler_in ds ≡ []) × (flat_map task_in ds ≡ [])
HasNoOthers sides.Plug ds = flat_map resource_in ds ≡ []

no_other : (side : Side) (c : Counts) (top keys : List (List ℕ)) (d : Declaration) (ds : List Declaration) → AreInOrder side (at Top c top keys) (declaration_lines d) → HasNoOthers side ds → HasNoOthers side (d ∷ ds)
no_other sides.Page c top keys (OfClass before class) ds all none = none
no_other sides.Page c top keys (OfResource resource) ds all none = none
no_other sides.Page c top keys (OfHandler handler) ds all none = let e = all.0.listed.listed in absurd cc
no_other sides.Page c top keys (OfTask task) ds all none = let e = all.0.listed.listed in absurd cc
no_other sides.Plug c top keys (OfClass before class) ds all none = none
no_other sides.Plug c top keys (OfResource resource) ds all none = let e = all.0.listed.listed in absurd cc
no_other sides.Plug c top keys (OfHandler handler) ds all none = none
no_other sides.Plug c top keys (OfTask task) ds all none = none

no_others_at_all : (side : Side) → HasNoOthers side []
no_others_at_all sides.Page = (refl, refl)
no_others_at_all sides.Plug = refl

no_others : (side : Side) (c : Counts) (top keys : List (List ℕ)) (ds : List Declaration) (rest : List Line) → Few c → AreInOrder side (at Top c top keys) (all_lines ds ++ rest) → HasNoOthers side ds
no_others side c top keys [] rest few all = no_others_at_all side
no_others side c top keys (d ∷ ds) rest few all =
    let s : Standing = at Top c top keys in
    let parted : AreInOrder side s (declaration_lines d ++ (all_lines ds ++ rest)) = subst (AreInOrder side s) (append_assoc (declaration_lines d) (all_lines ds) rest) all in
    let first : AreInOrder side s (declaration_lines d) = front_in_order side s (declaration_lines d) (all_lines ds ++ rest) parted in
    let t : Standing = standing_behind s (declaration_lines d) in
    let b : IsBehind c top (opening d) t = behind_declaration side c top keys d few first in
    no_other side c top keys d ds first
    (no_others side t.counts (top ++ declared_by (opening d) ∷ []) t.in_class ds rest b.few
    (to_top side c top (opening d) t (all_lines ds ++ rest) b (rest_in_order side s (declaration_lines d) (all_lines ds ++ rest) parted)))

-- ---- canonical order

pub first_few : Few no_counts
first_few = few_parts no_counts refl

page_gathered : (ds : List Declaration) (classes : List ClassDef) (resources : List Resource) → flat_map class_in ds ≡ classes → flat_map resource_in ds ≡ resources → HasNoOthers sides.Page ds
    → gathered ds ≡ of_classes classes ++ of_resources resources
page_gathered ds classes resources e f none =
    let last : handlers_of ds ++ tasks_of ds ≡ [] = ap (λ (hs : List HandlerDef). of_handlers hs ++ tasks_of ds) none.0 ∙ ap of_tasks none.1 in
    ap (λ (l : List Declaration). classes_of ds ++ (resources_of ds ++ l)) last
    ∙ ap (λ (l : List Declaration). classes_of ds ++ l) (append-nil (resources_of ds))
    ∙ ap (λ (cs : List ClassDef). of_classes cs ++ resources_of ds) e
    ∙ ap (λ (rs : List Resource). of_classes classes ++ of_resources rs) f

plugin_gathered : (ds : List Declaration) (classes : List ClassDef) (handlers : List HandlerDef) (tasks : List TaskDef) → flat_map class_in ds ≡ classes → flat_map handler_in ds ≡ handlers → flat_map task_in ds ≡ tasks
    → HasNoOthers sides.Plug ds → gathered ds ≡ of_classes classes ++ (of_handlers handlers ++ of_tasks tasks)
plugin_gathered ds classes handlers tasks e f g none =
    ap (λ (rs : List Resource). classes_of ds ++ (of_resources rs ++ (handlers_of ds ++ tasks_of ds))) none
    ∙ ap (λ (cs : List ClassDef). of_classes cs ++ (handlers_of ds ++ tasks_of ds)) e
    ∙ ap (λ (hs : List HandlerDef). of_classes classes ++ (of_handlers hs ++ tasks_of ds)) f
    ∙ ap (λ (ts : List TaskDef). of_classes classes ++ (of_handlers handlers ++ of_tasks ts)) g

pub pages_in_order : CanonicalPagesAreInOrder
pages_in_order lines page all says =
    let head : Line = (codes "page", number page.major ∷ number page.minor ∷ []) in
    let ds : List Declaration = says.declarations in
    let said : AreInOrder sides.Page at_first (head ∷ (all_lines ds ++ command_lines page)) = subst (AreInOrder sides.Page at_first) says.lines_are all in
    let last : AreInOrder sides.Page (at Top no_counts [] []) (all_lines (gathered ds) ++ command_lines page) = are_gathered sides.Page no_counts [] [] ds (command_lines page) first_few said.1 in
    let same : gathered ds ≡ of_classes page.classes ++ of_resources page.resources =
    page_gathered ds page.classes page.resources says.classes says.resources (no_others sides.Page no_counts [] [] ds (command_lines page) first_few said.1) in
    subst (AreInOrder sides.Page at_first) (sym (page_lines_are page))
    (said.0, subst (λ (l : List Declaration). AreInOrder sides.Page (at Top no_counts [] []) (all_lines l ++ command_lines page)) same last)

pub plugins_in_order : CanonicalPluginsAreInOrder
plugins_in_order lines plugin all says =
    let head : Line = (codes "plugin", number plugin.major ∷ number plugin.minor ∷ []) in
    let ds : List Declaration = says.declarations in
    let s : Standing = at Top no_counts [] [] in
    let said : AreInOrder sides.Plug at_first (head ∷ all_lines ds) = subst (AreInOrder sides.Plug at_first) says.lines_are all in
    let open_end : AreInOrder sides.Plug s (all_lines ds ++ []) = subst (AreInOrder sides.Plug s) (sym (append-nil (all_lines ds))) said.1 in
    let last : AreInOrder sides.Plug s (all_lines (gathered ds)) = subst (AreInOrder sides.Plug s) (append-nil (all_lines (gathered ds))) (are_gathered sides.Plug no_counts [] [] ds [] first_few open_end) in
    let same : gathered ds ≡ of_classes plugin.classes ++ (of_handlers plugin.handlers ++ of_tasks plugin.tasks) =
    plugin_gathered ds plugin.classes plugin.handlers plugin.tasks says.classes says.handlers says.tasks (no_others sides.Plug no_counts [] [] ds [] first_few open_end) in
    subst (AreInOrder sides.Plug at_first) (sym (plugin_lines_are plugin))
    (said.0, subst (λ (l : List Declaration). AreInOrder sides.Plug s (all_lines l)) same last)
