-- A script that keeps the rules keeps the limits.
use Rattle.std.proofs.Common.{◌≡◌, ℕ, ◌+◌, ◌*◌, ◌≤◌, List, [], ◌∷◌, ◌++◌, length, map, Bool, true, false, if◌then◌else◌, refl, ap, sym, ◌∙◌, subst, append_assoc, append-nil, zero, suc, arith}
use Rattle.std.specs.Prelude.{codes, bytes_eq}
use Rattle.std.specs.List.{list_any, filter, flat_map, AllByRecursion, IsDistinct}
use Rattle.std.proofs.lemmas.List.{length-append, map-append}
use Rattle.std.proofs.lemmas.Cmp.{nat_list_eq_equiv}
use Rattle.std.proofs.lemmas.Map.Keys.{IsDistinct-tail, IsDistinct-push}
use Rattle.std.proofs.lemmas.Slice.Eq.{bytes_eq-Decides}
use Rattle.np_values.specs.declared.name.Side.{Side}
use Rattle.np_values.specs.declared.name.Side.TheVariants as sides
use Rattle.np_values.specs.Handler.{handler_word}
use Rattle.np_script_grammar.specs.declared.action.Action.{Action}
use Rattle.np_script_grammar.specs.declared.class.Member.{Member}
use Rattle.np_script_grammar.specs.declared.class.ClassDef.{ClassDef}
use Rattle.np_script_grammar.specs.declared.command.Command.{Command}
use Rattle.np_script_grammar.specs.declared.command.Command.TheVariants as commands
use Rattle.np_script_grammar.specs.declared.page.Resource.{Resource}
use Rattle.np_script_grammar.specs.declared.plugin.HandlerDef.{HandlerDef}
use Rattle.np_script_grammar.specs.declared.plugin.TaskDef.{TaskDef}
use Rattle.np_script_grammar.specs.declared.place.Place.TheVariants.{Top, Class, Body, Commands}
use Rattle.np_script_grammar.specs.Fields.{quoted}
use Rattle.np_script_grammar.specs.Forms.{Line, spaced}
use Rattle.np_script_grammar.specs.Rows.{action_line, command_line}
use Rattle.np_script_grammar.specs.Scripts.{alone, member_body, member_lines, data_lines, class_lines, copies, HasContent, Declaration, OfClass, OfResource, OfHandler, OfTask, declaration_lines, class_in, resource_in, task_in}
use Rattle.np_script_grammar.specs.Order.{Counts, Standing, no_counts, at_first, declared_by, are_few, counts_at_top, standing_after, AreInOrder}
use Rattle.np_script_grammar.specs.Refusals.{standing_behind}
use Rattle.np_script_line_laws.specs.Limits.{IsShortBody, member_name, KeepsClassLimits, is_create, PagesKeepLimits, PluginsKeepLimits}
use Rattle.np_script_line_laws.proofs.Prefixes.{front_in_order}
use Rattle.np_script_line_laws.proofs.Counting.{Few, few_parts}
use Rattle.np_script_line_laws.proofs.Alike.{at}
use Rattle.np_script_line_laws.proofs.Blocks.{IsBehind, to_top, rest_in_order}
use Rattle.np_script_line_laws.proofs.Declarations.{not_end, body_rest, counted_actions, with_action, with_member, counted_member, behind_member, few_member, class_first, opening}
use Rattle.np_script_line_laws.proofs.Gathering.{all_lines, behind_declaration, first_few}
use Rattle.np_script_line_laws.proofs.Canonical.{of_classes, of_resources, of_handlers, of_tasks, command_lines, page_lines_are, plugin_lines_are, page_classes, page_resources, plugin_classes, plugin_tasks}

-- ---- distinct names

distinct_parts : (xs ys : List (List ℕ)) → IsDistinct bytes_eq (xs ++ ys) → IsDistinct bytes_eq xs × IsDistinct bytes_eq ys
unfolding IsDistinct
distinct_parts [] ys d = (tt, d)
distinct_parts (x ∷ xs) ys d = let parts = distinct_parts xs ys d.1 in ((front (λ y. bytes_eq x y ≡ false) xs ys d.0, parts.0), parts.1)
  where
    front : (P : List ℕ → Type 0) (ks others : List (List ℕ)) → AllByRecursion P (ks ++ others) → AllByRecursion P ks
    front P [] others all = tt
    front P (k ∷ ks) others all = (all.0, front P ks others all.1)

-- equal names are declared by equal words, so where the words differ the names do
names_differ : {A B : Type 0} (declared : B → List ℕ) (into : A → B) (name : A → List ℕ) → ((x y : A) → name x ≡ name y → declared (into x) ≡ declared (into y)) → (xs : List A)
    → IsDistinct bytes_eq (map declared (map into xs)) → IsDistinct bytes_eq (map name xs)
unfolding IsDistinct
names_differ declared into name same [] d = tt
names_differ {A} declared into name same (x ∷ xs) d = (others xs d.0, names_differ declared into name same xs d.1)
  where
    word : A → List ℕ
    word y = declared (into y)

    apart : (y : A) (t : Bool) → bytes_eq (name x) (name y) ≡ t → bytes_eq (word x) (word y) ≡ false → t ≡ false
    apart y true e f = sym ((bytes_eq-Decides (word x) (word y)).1 (same x y ((bytes_eq-Decides (name x) (name y)).0 e))) ∙ f
    apart y false e f = refl

    others : (ys : List A) → AllByRecursion (λ k. bytes_eq (word x) k ≡ false) (map declared (map into ys)) → AllByRecursion (λ k. bytes_eq (name x) k ≡ false) (map name ys)
    others [] all = tt
    others (y ∷ ys) all = (apart y (bytes_eq (name x) (name y)) refl all.0, others ys all.1)

none : IsDistinct bytes_eq []
unfolding IsDistinct
none = tt

-- ---- bodies

actions_counted : (c : Counts) (body : List Action) → ((counted_actions c body).actions ≡ c.actions + length body) × ((counted_actions c body).members ≡ c.members)
actions_counted c [] = (omega arith, refl)
actions_counted c (action ∷ body) = let parts = actions_counted (with_action c) body in (omega (arith, parts.0), parts.1)

body_is_short : (side : Side) (c : Counts) (top keys : List (List ℕ)) (body : List Action) → Few c → AreInOrder side (at Body c top keys) (body_rest body) → c.actions + length body ≤ 256
body_is_short side c top keys [] few all = omega (arith, few.actions)
body_is_short side c top keys (action ∷ body) few all =
    let next : standing_after (at Body c top keys) (action_line action) ≡ at Body (with_action c) top keys =
    ap (λ (t : Bool). at (if t then Top else Body) (if t then c else with_action c) top keys) (not_end action) in
    let more : Few (with_action c) = few_parts _ (subst (λ (s : Standing). are_few s.counts ≡ true) next all.0.few) in
    omega (arith, body_is_short side (with_action c) top keys body more (subst (λ (s : Standing). AreInOrder side s (body_rest body)) next all.1))

-- ---- members

-- members behind these, of which there are so many
record AreKept (c : Counts) (keys : List (List ℕ)) (ms : List Member) : Type 0 where
  pub few : c.members + length ms ≤ 64
  pub distinct : IsDistinct bytes_eq (keys ++ map member_name ms)
  pub short : AllByRecursion (λ member. IsShortBody (member_body member)) ms

members_are_kept : (side : Side) (c : Counts) (top keys : List (List ℕ)) (ms : List Member) (rest : List Line) → are_few c ≡ true → IsDistinct bytes_eq keys
    → AreInOrder side (at Class c top keys) (flat_map member_lines ms ++ rest) → AreKept c keys ms
members_are_kept side c top keys [] rest few d all =
    record { few = omega (arith, (few_parts c few).members); distinct = subst (IsDistinct bytes_eq) (sym (append-nil keys)) d; short = tt }
members_are_kept side c top keys (member ∷ ms) rest few d all =
    let s : Standing = at Class c top keys in
    let key : List ℕ = member_name member in
    let lines : List Line = flat_map member_lines ms ++ rest in
    let parted : AreInOrder side s (member_lines member ++ lines) = subst (AreInOrder side s) (append_assoc (member_lines member) (flat_map member_lines ms) rest) all in
    let front : AreInOrder side s (member_lines member) = front_in_order side s (member_lines member) lines parted in
    let enough : are_few (counted_member c member) ≡ true = few_member side c top keys member few front in
    let counted = actions_counted (with_member c) (member_body member) in
    let others : AreKept (counted_member c member) (keys ++ key ∷ []) ms =
    members_are_kept side (counted_member c member) top (keys ++ key ∷ []) ms rest enough (IsDistinct-push nat_list_eq_equiv keys key d front.0.new)
    (subst (λ (x : Standing). AreInOrder side x lines) (behind_member c top keys member) (rest_in_order side s (member_lines member) lines parted)) in
    let most : Few (counted_member c member) = few_parts _ enough in
    let first : length (member_body member) ≤ 256 = omega (arith, counted.0, most.actions) in
    record {
      few = omega (arith, others.few, counted.1);
      distinct = subst (IsDistinct bytes_eq) (append_assoc keys (key ∷ []) (map member_name ms)) others.distinct;
      short = (first, others.short);
    }

-- ---- declarations

class_is_kept : (side : Side) (c : Counts) (top keys : List (List ℕ)) (class : ClassDef) → AreInOrder side (at Top c top keys) (class_lines 0 class) → KeepsClassLimits class
class_is_kept side c top keys class all = by class.stored all.1
  where
    opened : Counts
    opened = record c { classes = c.classes + 1; members = 0 }

    more : List (List ℕ)
    more = top ++ declared_by (opening (OfClass 0 class)) ∷ []

    last : List Line
    last = alone (codes "endclass") ∷ []

    by : (stored : Bool) → AreInOrder side (at Class opened more []) (data_lines stored ++ (flat_map member_lines class.members ++ last)) → KeepsClassLimits class
    by true rest =
        let kept = members_are_kept side opened more (codes "data" ∷ []) class.members last rest.0.few (IsDistinct-push nat_list_eq_equiv [] (codes "data") none refl) rest.1 in
        record { few = omega (arith, kept.few); distinct = IsDistinct-tail bytes_eq (codes "data") (map member_name class.members) kept.distinct; short = kept.short }
    by false rest =
        let kept = members_are_kept side opened more [] class.members last all.0.few none rest in
        record { few = omega (arith, kept.few); distinct = kept.distinct; short = kept.short }

-- what holds of one declaration
abbrev IsKept : Declaration → Type 0
IsKept (OfClass before class) = KeepsClassLimits class
IsKept (OfResource resource) = Unit {0}
IsKept (OfHandler handler) = IsShortBody handler.body
IsKept (OfTask task) = IsShortBody task.body

is_kept : (side : Side) (c : Counts) (top keys : List (List ℕ)) (d : Declaration) → Few c → AreInOrder side (at Top c top keys) (declaration_lines d) → IsKept d
is_kept side c top keys (OfClass before class) few all = class_is_kept side c top keys class (class_first side c top keys before class all)
is_kept side c top keys (OfResource resource) few all = tt
is_kept side c top keys (OfHandler handler) few all = omega (arith, body_is_short side _ _ [] handler.body (few_parts _ all.0.few) all.1)
is_kept side c top keys (OfTask task) few all = omega (arith, body_is_short side _ _ [] task.body (few_parts _ all.0.few) all.1)

abbrev key_of : Declaration → List ℕ
key_of d = declared_by (opening d)

abbrev size_of : Resource → ℕ
size_of resource = resource.times * length resource.piece

abbrev sizes : List Resource → ℕ
sizes [] = 0
sizes (resource ∷ resources) = size_of resource + sizes resources

-- declarations behind others, and what stands behind them
record Declares (side : Side) (c : Counts) (top : List (List ℕ)) (ds : List Declaration) (rest : List Line) : Type 0 where
  pub counts : Counts
  pub members : List (List ℕ)
  pub behind : AreInOrder side (at Top counts (top ++ map key_of ds) members) rest
  pub few : Few counts
  pub distinct : IsDistinct bytes_eq (top ++ map key_of ds)
  pub each : AllByRecursion IsKept ds
  pub classes : counts.classes ≡ c.classes + length (flat_map class_in ds)
  pub tasks : counts.tasks ≡ c.tasks + length (flat_map task_in ds)
  pub bytes : counts.bytes ≡ c.bytes + sizes (flat_map resource_in ds)
  pub creates : counts.creates ≡ c.creates

-- one more
record Counted (c next : Counts) (d : Declaration) : Type 0 where
  pub classes : next.classes ≡ c.classes + length (class_in d)
  pub tasks : next.tasks ≡ c.tasks + length (task_in d)
  pub bytes : next.bytes ≡ c.bytes + sizes (resource_in d)
  pub creates : next.creates ≡ c.creates

counted : (c : Counts) (d : Declaration) → Counted c (counts_at_top c (opening d)) d
counted c (OfClass before class) = record { classes = refl; tasks = omega arith; bytes = omega arith; creates = refl }
counted c (OfResource resource) = record { classes = omega arith; tasks = omega arith; bytes = omega arith; creates = refl }
counted c (OfHandler handler) = record { classes = omega arith; tasks = omega arith; bytes = omega arith; creates = refl }
counted c (OfTask task) = record { classes = omega arith; tasks = refl; bytes = omega arith; creates = refl }

sizes_append : (xs ys : List Resource) → sizes (xs ++ ys) ≡ sizes xs + sizes ys
sizes_append [] ys = omega arith
sizes_append (x ∷ xs) ys = omega (arith, sizes_append xs ys)

declared : (side : Side) (c : Counts) (top keys : List (List ℕ)) (ds : List Declaration) (rest : List Line) → Few c → IsDistinct bytes_eq top
    → AreInOrder side (at Top c top keys) (all_lines ds ++ rest) → Declares side c top ds rest
declared side c top keys [] rest few d all =
    let same = sym (append-nil top) in
    record {
      counts = c;
      members = keys;
      behind = subst (λ (l : List (List ℕ)). AreInOrder side (at Top c l keys) rest) same all;
      few = few;
      distinct = subst (IsDistinct bytes_eq) same d;
      each = tt;
      classes = omega arith;
      tasks = omega arith;
      bytes = omega arith;
      creates = refl;
    }
declared side c top keys (x ∷ ds) rest few d all =
    let s : Standing = at Top c top keys in
    let lines : List Line = all_lines ds ++ rest in
    let parted : AreInOrder side s (declaration_lines x ++ lines) = subst (AreInOrder side s) (append_assoc (declaration_lines x) (all_lines ds) rest) all in
    let first : AreInOrder side s (declaration_lines x) = front_in_order side s (declaration_lines x) lines parted in
    let t : Standing = standing_behind s (declaration_lines x) in
    let b : IsBehind c top (opening x) t = behind_declaration side c top keys x few first in
    let others : Declares side t.counts (top ++ key_of x ∷ []) ds rest =
    declared side t.counts (top ++ key_of x ∷ []) t.in_class ds rest b.few (IsDistinct-push nat_list_eq_equiv top (key_of x) d (is_new x first))
    (to_top side c top (opening x) t lines b (rest_in_order side s (declaration_lines x) lines parted)) in
    let one = counted c x in
    let same = append_assoc top (key_of x ∷ []) (map key_of ds) in
    record {
      counts = others.counts;
      members = others.members;
      behind = subst (λ (l : List (List ℕ)). AreInOrder side (at Top others.counts l others.members) rest) same others.behind;
      few = others.few;
      distinct = subst (IsDistinct bytes_eq) same others.distinct;
      each = (is_kept side c top keys x few first, others.each);
      classes = omega (arith, others.classes, b.even.classes, one.classes, length-append (class_in x) (flat_map class_in ds));
      tasks = omega (arith, others.tasks, b.even.tasks, one.tasks, length-append (task_in x) (flat_map task_in ds));
      bytes = omega (arith, others.bytes, b.even.bytes, one.bytes, sizes_append (resource_in x) (flat_map resource_in ds));
      creates = others.creates ∙ b.even.creates ∙ one.creates;
    }
  where
    is_new : (x : Declaration) → AreInOrder side (at Top c top keys) (declaration_lines x) → list_any (bytes_eq (key_of x)) top ≡ false
    is_new (OfClass before class) first = first.0.new
    is_new (OfResource resource) first = first.0.new
    is_new (OfHandler handler) first = first.0.new
    is_new (OfTask task) first = first.0.new

-- ---- commands

creates_are_few : (side : Side) (c : Counts) (top keys : List (List ℕ)) (cs : List Command) → Few c → AreInOrder side (at Commands c top keys) (map command_line cs) → c.creates + length (filter is_create cs) ≤ 255
creates_are_few side c top keys [] few all = omega (arith, few.creates)
creates_are_few side c top keys (commands.Create mime mode attributes ∷ cs) few all =
    omega (arith, creates_are_few side (record c { creates = c.creates + 1 }) top keys cs (few_parts _ all.0.few) all.1)
creates_are_few side c top keys (commands.Turn ∷ cs) few all = creates_are_few side c top keys cs few all.1
creates_are_few side c top keys (command ∷ cs) few all = creates_are_few side c top keys cs few all.1

-- ---- contents

copies_are_long : (n : ℕ) (piece : List ℕ) → length (copies n piece) ≡ n * length piece
copies_are_long zero piece = omega arith
copies_are_long (suc n) piece = omega (arith, length-append piece (copies n piece), copies_are_long n piece)

contents_are_long : (resources : List Resource) → AllByRecursion HasContent resources → length (flat_map (λ resource. resource.content) resources) ≡ sizes resources
contents_are_long [] all = refl
contents_are_long (resource ∷ resources) all =
    omega (arith, length-append resource.content (flat_map (λ r. r.content) resources), contents_are_long resources all.1, ap length all.0, copies_are_long resource.times resource.piece)

-- ---- declarations of one kind, before others

of_kind : {A : Type 0} (into : A → Declaration) (P : A → Type 0) → ((x : A) → IsKept (into x) → P x) → (xs : List A) (rest : List Declaration)
    → AllByRecursion IsKept (map into xs ++ rest) → AllByRecursion P xs × AllByRecursion IsKept rest
of_kind into P of_one [] rest all = (tt, all)
of_kind into P of_one (x ∷ xs) rest all = let parts = of_kind into P of_one xs rest all.1 in ((of_one x all.0, parts.0), parts.1)

named : {A : Type 0} (into : A → Declaration) (name : A → List ℕ) → ((x y : A) → name x ≡ name y → key_of (into x) ≡ key_of (into y)) → (xs : List A) (rest : List Declaration)
    → IsDistinct bytes_eq (map key_of (map into xs ++ rest)) → IsDistinct bytes_eq (map name xs) × IsDistinct bytes_eq (map key_of rest)
named into name same xs rest d =
    let parts = distinct_parts (map key_of (map into xs)) (map key_of rest) (subst (IsDistinct bytes_eq) (map-append key_of (map into xs) rest) d) in
    (names_differ key_of into name same xs parts.0, parts.1)

same_class : (x y : ClassDef) → x.name ≡ y.name → key_of (OfClass 0 x) ≡ key_of (OfClass 0 y)
same_class x y e = ap (λ (name : List ℕ). spaced (codes "class" ∷ quoted name ∷ [])) e

same_resource : (x y : Resource) → x.url ≡ y.url → key_of (OfResource x) ≡ key_of (OfResource y)
same_resource x y e = ap (λ (name : List ℕ). spaced (codes "resource" ∷ quoted name ∷ [])) e

same_handler : (x y : HandlerDef) → handler_word x.which ≡ handler_word y.which → key_of (OfHandler x) ≡ key_of (OfHandler y)
same_handler x y e = ap (λ (name : List ℕ). spaced (codes "handler" ∷ name ∷ [])) e

same_task : (x y : TaskDef) → x.name ≡ y.name → key_of (OfTask x) ≡ key_of (OfTask y)
same_task x y e = ap (λ (name : List ℕ). spaced (codes "task" ∷ quoted name ∷ [])) e

-- ---- whole scripts

pub pages_keep : PagesKeepLimits
pages_keep page rules =
    let classes : List Declaration = of_classes page.classes in
    let resources : List Declaration = of_resources page.resources in
    let lines = (subst (AreInOrder sides.Page at_first) (page_lines_are page) rules.in_order).1 in
    let d : Declares sides.Page no_counts [] (classes ++ resources) (command_lines page) = declared sides.Page no_counts [] [] (classes ++ resources) (command_lines page) first_few none lines in
    let few : Few d.counts = d.few in
    let count : length (flat_map class_in (classes ++ resources)) ≡ length page.classes = ap length (page_classes page.classes page.resources) in
    let size : sizes (flat_map resource_in (classes ++ resources)) ≡ sizes page.resources = ap sizes (page_resources page.classes page.resources) in
    let content : length (flat_map (λ resource. resource.content) page.resources) ≡ sizes page.resources = contents_are_long page.resources rules.contents in
    let names = named (OfClass 0) (λ class. class.name) same_class page.classes resources d.distinct in
    let urls = named OfResource (λ resource. resource.url) same_resource page.resources [] (subst (λ (l : List Declaration). IsDistinct bytes_eq (map key_of l)) (sym (append-nil resources)) names.1) in
    record {
      few_classes = omega (arith, few.classes, d.classes, count);
      class_names = names.0;
      classes = (of_kind (OfClass 0) KeepsClassLimits (λ class kept. kept) page.classes resources d.each).0;
      urls = urls.0;
      few_bytes = omega (arith, few.bytes, d.bytes, size, content);
      few_creates = omega (arith, d.creates, creates_are_few sides.Page d.counts (map key_of (classes ++ resources) ++ codes "do" ∷ []) [] page.commands few d.behind.1);
    }

pub plugins_keep : PluginsKeepLimits
plugins_keep plugin rules =
    let classes : List Declaration = of_classes plugin.classes in
    let handlers : List Declaration = of_handlers plugin.handlers in
    let tasks : List Declaration = of_tasks plugin.tasks in
    let all : List Declaration = classes ++ (handlers ++ tasks) in
    let lines = (subst (AreInOrder sides.Plug at_first) (plugin_lines_are plugin) rules.in_order).1 in
    let d : Declares sides.Plug no_counts [] all [] =
    declared sides.Plug no_counts [] [] all [] first_few none (subst (AreInOrder sides.Plug (at Top no_counts [] [])) (sym (append-nil (all_lines all))) lines) in
    let few : Few d.counts = d.few in
    let count : length (flat_map class_in all) ≡ length plugin.classes = ap length (plugin_classes plugin.classes plugin.handlers plugin.tasks) in
    let number : length (flat_map task_in all) ≡ length plugin.tasks = ap length (plugin_tasks plugin.classes plugin.handlers plugin.tasks) in
    let names = named (OfClass 0) (λ class. class.name) same_class plugin.classes (handlers ++ tasks) d.distinct in
    let words = named OfHandler (λ handler. handler_word handler.which) same_handler plugin.handlers tasks names.1 in
    let last = named OfTask (λ task. task.name) same_task plugin.tasks [] (subst (λ (l : List Declaration). IsDistinct bytes_eq (map key_of l)) (sym (append-nil tasks)) words.1) in
    let kept = of_kind (OfClass 0) KeepsClassLimits (λ class k. k) plugin.classes (handlers ++ tasks) d.each in
    let short = of_kind OfHandler (λ handler. IsShortBody handler.body) (λ handler k. k) plugin.handlers tasks kept.1 in
    record {
      few_classes = omega (arith, few.classes, d.classes, count);
      class_names = names.0;
      classes = kept.0;
      handler_words = words.0;
      handlers = short.0;
      few_tasks = omega (arith, few.tasks, d.tasks, number);
      task_names = last.0;
      tasks = (of_kind OfTask (λ task. IsShortBody task.body) (λ task k. k) plugin.tasks [] (subst (AllByRecursion IsKept) (sym (append-nil tasks)) short.1)).0;
    }
