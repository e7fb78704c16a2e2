-- A script that lines in order say is what is built of them.
use Rattle.std.proofs.Common.{◌≡◌, ℕ, List, [], ◌∷◌, ◌++◌, true, Some, refl, ap, sym, subst, ◌∙◌, map, arith}
use Rattle.std.specs.Prelude.{codes, nat_lt}
use Rattle.std.specs.List.{flat_map, AllByRecursion}
use Rattle.std.proofs.lemmas.Bool.Decides.{nat_tests}
use Rattle.std.proofs.lemmas.Bool.{and_parts}
use Rattle.np_values.specs.declared.name.Side.{Side}
use Rattle.np_values.specs.declared.name.Side.TheVariants as sides
use Rattle.np_script_grammar.specs.declared.class.ClassDef.{ClassDef}
use Rattle.np_script_grammar.specs.declared.command.Command.{Command}
use Rattle.np_script_grammar.specs.declared.page.Resource.{Resource}
use Rattle.np_script_grammar.specs.declared.page.Page.{Page}
use Rattle.np_script_grammar.specs.declared.plugin.HandlerDef.{HandlerDef}
use Rattle.np_script_grammar.specs.declared.plugin.TaskDef.{TaskDef}
use Rattle.np_script_grammar.specs.declared.plugin.Plugin.{Plugin}
use Rattle.np_script_grammar.specs.declared.place.Place.{Place}
use Rattle.np_script_grammar.specs.declared.place.Place.TheVariants.{Head, Top, Commands}
use Rattle.np_script_grammar.specs.declared.line.Item.TheVariants as items
use Rattle.np_script_grammar.specs.Forms.{Line, only, form_of, are_of, IsOf}
use Rattle.np_script_grammar.specs.Tables.{head_table}
use Rattle.np_script_grammar.specs.Rows.{number, command_line}
use Rattle.np_script_grammar.specs.Scripts.{alone, declaration_lines, HasContent}
use Rattle.np_script_grammar.specs.Order.{at_first, AreInOrder}
use Rattle.np_script_builder.proofs.RowLaws.{AreRead}
use Rattle.np_script_builder.proofs.FormFields.{of_only}
use Rattle.np_script_builder.specs.declared.state.Building.{Building}
use Rattle.np_script_builder.specs.Building.{at_start, built_after, page_in, plugin_in}
use Rattle.np_script_builder.specs.Laws.{PagesAreBuilt, PluginsAreBuilt}
use Rattle.np_script_builder.proofs.SaidSoFar.{head_word}
use Rattle.np_script_builder.proofs.Parts.{AreListed, are_listed, front_listed, listed_behind, Leads, leads_by, leads_further}
use Rattle.np_script_builder.proofs.ScriptParts.{all_add, commands_lead}

abbrev head_line : Side → ℕ → ℕ → Line
head_line side major minor = (head_word side, number major ∷ number minor ∷ [])

-- of this version
abbrev begun : ℕ → ℕ → Building
begun major minor = record at_start { major = major; minor = minor }

head_form : (side : Side) → form_of (head_table side) (head_word side) ≡ Some (only (items.Number 0 255 ∷ items.Number 0 255 ∷ []))
head_form sides.Page = refl
head_form sides.Plug = refl

head_leads : (side : Side) (major minor : ℕ) → IsOf (head_table side) (head_line side major minor) → Leads Head at_start (head_line side major minor ∷ []) Top (begun major minor)
unfolding built_after
head_leads side major minor is =
    let fits : are_of (items.Number 0 255 ∷ items.Number 0 255 ∷ []) (number major ∷ number minor ∷ []) ≡ true =
    of_only (head_table side) (head_word side) (items.Number 0 255 ∷ items.Number 0 255 ∷ []) (number major ∷ number minor ∷ []) is (head_form side) in
    let first : nat_lt major 256 ≡ true = grind (arith, nat_tests, and_parts) in
    let second : nat_lt minor 256 ≡ true = grind (arith, nat_tests, and_parts) in
    leads_by Head at_start (head_line side major minor) Top (begun major minor) refl (rw (first, second) refl)

-- lines that are these lead as these do
as_these : (lines these : List Line) (to : Place) (b : Building) → lines ≡ these → Leads Head at_start these to b → Leads Head at_start lines to b
as_these lines these to b e leads = subst (λ (l : List Line). Leads Head at_start l to b) (sym e) leads

abbrev page_of : ℕ → ℕ → List ClassDef → List Resource → List Command → Page
page_of major minor classes resources commands = record { major = major; minor = minor; classes = classes; resources = resources; commands = commands }

same_page : (p q : Page) → p.major ≡ q.major → p.minor ≡ q.minor → p.classes ≡ q.classes → p.resources ≡ q.resources → p.commands ≡ q.commands → p ≡ q
same_page p q a b c d e =
    ap (λ (x : ℕ). page_of x p.minor p.classes p.resources p.commands) a
    ∙ (ap (λ (x : ℕ). page_of q.major x p.classes p.resources p.commands) b
    ∙ (ap (λ (x : List ClassDef). page_of q.major q.minor x p.resources p.commands) c
    ∙ (ap (λ (x : List Resource). page_of q.major q.minor q.classes x p.commands) d ∙ ap (λ (x : List Command). page_of q.major q.minor q.classes q.resources x) e)))

abbrev plugin_of : ℕ → ℕ → List ClassDef → List HandlerDef → List TaskDef → Plugin
plugin_of major minor classes handlers tasks = record { major = major; minor = minor; classes = classes; handlers = handlers; tasks = tasks }

same_plugin : (p q : Plugin) → p.major ≡ q.major → p.minor ≡ q.minor → p.classes ≡ q.classes → p.handlers ≡ q.handlers → p.tasks ≡ q.tasks → p ≡ q
same_plugin p q a b c d e =
    ap (λ (x : ℕ). plugin_of x p.minor p.classes p.handlers p.tasks) a
    ∙ (ap (λ (x : ℕ). plugin_of q.major x p.classes p.handlers p.tasks) b
    ∙ (ap (λ (x : List ClassDef). plugin_of q.major q.minor x p.handlers p.tasks) c
    ∙ (ap (λ (x : List HandlerDef). plugin_of q.major q.minor q.classes x p.tasks) d ∙ ap (λ (x : List TaskDef). plugin_of q.major q.minor q.classes q.handlers x) e)))

pub pages_are_built : AreRead → PagesAreBuilt
unfolding built_after
pages_are_built laws lines page order is =
    let ds = is.declarations in
    let commands : List Line = map command_line page.commands in
    let tops : List Line = flat_map declaration_lines ds in
    let head : Line = head_line sides.Page page.major page.minor in
    let listed : AreListed sides.Page Head (head ∷ (tops ++ alone (codes "do") ∷ commands)) =
    are_listed sides.Page at_first (head ∷ (tops ++ alone (codes "do") ∷ commands)) (subst (AreInOrder sides.Page at_first) is.lines_are order) in
    let first = begun page.major page.minor in
    let added = all_add laws sides.Page first ds (front_listed sides.Page Top tops (alone (codes "do") ∷ commands) listed.1) in
    let behind = listed_behind sides.Page Top first tops (alone (codes "do") ∷ commands) Top added.next added.leads listed.1 in
    let last : Building = record added.next { commands = added.next.commands ++ page.commands } in
    let does : Leads Top added.next (alone (codes "do") ∷ []) Commands added.next = leads_by Top added.next (alone (codes "do")) Commands added.next refl refl in
    let ends = leads_further Top added.next (alone (codes "do") ∷ []) commands Commands Commands added.next last does (commands_lead laws sides.Page added.next page.commands behind.1) in
    let all = as_these lines _ Commands last is.lines_are
    (leads_further Head at_start (head ∷ []) (tops ++ alone (codes "do") ∷ commands) Top Commands first last (head_leads sides.Page page.major page.minor listed.0)
    (leads_further Top first tops (alone (codes "do") ∷ commands) Top Commands added.next last added.leads ends)) in
    let contents : AllByRecursion HasContent _ = subst (AllByRecursion HasContent) (sym is.resources) is.contents in (
      all.reaches,
      (
        last,
        all.gives,
        same_page (page_in last) page added.major_is added.minor_is (added.classes_are ∙ is.classes) (added.resources_are contents ∙ is.resources)
            (ap (λ (l : List Command). l ++ page.commands) added.commands_are),
      ),
    )

pub plugins_are_built : AreRead → PluginsAreBuilt
plugins_are_built laws lines plugin order is =
    let ds = is.declarations in
    let tops : List Line = flat_map declaration_lines ds in
    let head : Line = head_line sides.Plug plugin.major plugin.minor in
    let listed : AreListed sides.Plug Head (head ∷ tops) = are_listed sides.Plug at_first (head ∷ tops) (subst (AreInOrder sides.Plug at_first) is.lines_are order) in
    let first = begun plugin.major plugin.minor in
    let added = all_add laws sides.Plug first ds listed.1 in
    let all = as_these lines _ Top added.next is.lines_are
    (leads_further Head at_start (head ∷ []) tops Top Top first added.next (head_leads sides.Plug plugin.major plugin.minor listed.0) added.leads) in (
      all.reaches,
      (
        added.next,
        all.gives,
        same_plugin (plugin_in added.next) plugin added.major_is added.minor_is (added.classes_are ∙ is.classes) (added.handlers_are ∙ is.handlers) (added.tasks_are ∙ is.tasks),
      ),
    )
