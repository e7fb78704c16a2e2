-- Bytes say one value, and canonical texts are scripts.
use Rattle.std.proofs.Common.{◌≡◌, ◌≤◌, ℕ, ◌+◌, List, [], ◌∷◌, ◌++◌, length, map, Option, Some, ap, sym, ◌∙◌, subst, arith}
use Rattle.std.specs.Prelude.{codes}
use Rattle.std.specs.List.{flat_map}
use Rattle.std.proofs.lemmas.List.{length-map}
use Rattle.np_values.specs.declared.name.Side.TheVariants as sides
use Rattle.np_script_grammar.specs.declared.page.Page.{Page}
use Rattle.np_script_grammar.specs.declared.plugin.Plugin.{Plugin}
use Rattle.np_script_grammar.specs.declared.refusal.ScriptError.{ScriptError}
use Rattle.np_script_grammar.specs.Words.{lines_of}
use Rattle.np_script_grammar.specs.Forms.{Line}
use Rattle.np_script_grammar.specs.Rows.{number, command_line}
use Rattle.np_script_grammar.specs.Scripts.{alone, declaration_lines, IsPageOf, IsPluginOf, canonical_page_lines, canonical_plugin_lines}
use Rattle.np_script_grammar.specs.Order.{at_first, AreInOrder}
use Rattle.np_script_grammar.specs.Grammar.{AreLinesOf, IsPageScript, IsPluginScript, KeepsPageRules, KeepsPluginRules, canonical_page, canonical_plugin, script_limit}
use Rattle.np_script_grammar.specs.Refusals.{FirstError}
use Rattle.np_script_line_laws.specs.Laws.{CanonicalLinesSayPages, CanonicalLinesSayPlugins, CanonicalPagesAreInOrder, CanonicalPluginsAreInOrder}
use Rattle.np_script_text_laws.specs.Laws.{OneSay, TextsHaveTheirLines, LinesAreFew, RefusedTextsAreNoScripts}
use Rattle.np_script_builder.specs.declared.state.Building.{Building}
use Rattle.np_script_builder.specs.Building.{built, page_in, plugin_in}
use Rattle.np_script_builder.specs.Laws.{PagesAreBuilt, PluginsAreBuilt}

same-building : (o : Option Building) (b c : Building) → o ≡ Some b → o ≡ Some c → b ≡ c
same-building o b c e f = let somes : Some b ≡ Some c = sym e ∙ f in cc

-- ---- one value of lines

page-of-lines : PagesAreBuilt → (lines : List Line) (page other : Page) → AreInOrder sides.Page at_first lines → IsPageOf lines page → IsPageOf lines other → page ≡ other
page-of-lines pages lines page other all a b =
    let x = (pages lines page all a).1 in
    let y = (pages lines other all b).1 in
    sym x.2 ∙ ap page_in (same-building (built lines) x.0 y.0 x.1 y.1) ∙ y.2

plugin-of-lines : PluginsAreBuilt → (lines : List Line) (plugin other : Plugin) → AreInOrder sides.Plug at_first lines → IsPluginOf lines plugin → IsPluginOf lines other → plugin ≡ other
plugin-of-lines plugins lines plugin other all a b =
    let x = (plugins lines plugin all a).1 in
    let y = (plugins lines other all b).1 in
    sym x.2 ∙ ap plugin_in (same-building (built lines) x.0 y.0 x.1 y.1) ∙ y.2

pub one-page-of : OneSay → PagesAreBuilt → (bytes : List ℕ) (page other : Page) → IsPageScript bytes page → IsPageScript bytes other → page ≡ other
one-page-of one pages bytes page other a b =
    let same : b.lines ≡ a.lines = one sides.Page (lines_of bytes) b.lines a.lines b.are_lines a.are_lines in
    page-of-lines pages a.lines page other a.are_lines.in_order a.says (subst (λ (ls : List Line). IsPageOf ls other) same b.says)

pub one-plugin-of : OneSay → PluginsAreBuilt → (bytes : List ℕ) (plugin other : Plugin) → IsPluginScript bytes plugin → IsPluginScript bytes other → plugin ≡ other
one-plugin-of one plugins bytes plugin other a b =
    let same : b.lines ≡ a.lines = one sides.Plug (lines_of bytes) b.lines a.lines b.are_lines a.are_lines in
    plugin-of-lines plugins a.lines plugin other a.are_lines.in_order a.says (subst (λ (ls : List Line). IsPluginOf ls other) same b.says)

pub page-not-refused : RefusedTextsAreNoScripts → (bytes : List ℕ) (page : Page) (e : ScriptError) → IsPageScript bytes page → ¬ FirstError sides.Page bytes e
page-not-refused law bytes page e is error = law sides.Page bytes e is.lines error is.size is.are_lines (page, is.says)

pub plugin-not-refused : RefusedTextsAreNoScripts → (bytes : List ℕ) (plugin : Plugin) (e : ScriptError) → IsPluginScript bytes plugin → ¬ FirstError sides.Plug bytes e
plugin-not-refused law bytes plugin e is error = law sides.Plug bytes e is.lines error is.size is.are_lines (plugin, is.says)

pub page-keeps : CanonicalPagesAreInOrder → (bytes : List ℕ) (page : Page) → IsPageScript bytes page → KeepsPageRules page
page-keeps law bytes page is = record { in_order = law is.lines page is.are_lines.in_order is.says; contents = is.says.contents }

pub plugin-keeps : CanonicalPluginsAreInOrder → (bytes : List ℕ) (plugin : Plugin) → IsPluginScript bytes plugin → KeepsPluginRules plugin
plugin-keeps law bytes plugin is = record { in_order = law is.lines plugin is.are_lines.in_order is.says }

-- ---- canonical texts

pub page-is-script : TextsHaveTheirLines → CanonicalLinesSayPages → (page : Page) → KeepsPageRules page → length (canonical_page page) ≤ script_limit → IsPageScript (canonical_page page) page
page-is-script have say page keeps short =
    record { size = short; lines = canonical_page_lines page; are_lines = have sides.Page (canonical_page_lines page) keeps.in_order; says = say page keeps.contents }

pub plugin-is-script : TextsHaveTheirLines → CanonicalLinesSayPlugins → (plugin : Plugin) → KeepsPluginRules plugin → length (canonical_plugin plugin) ≤ script_limit → IsPluginScript (canonical_plugin plugin) plugin
plugin-is-script have say plugin keeps short =
    record { size = short; lines = canonical_plugin_lines plugin; are_lines = have sides.Plug (canonical_plugin_lines plugin) keeps.in_order; says = say plugin }

pub page-of-text : OneSay → PagesAreBuilt → TextsHaveTheirLines → CanonicalLinesSayPages → (page other : Page) → KeepsPageRules page → KeepsPageRules other → canonical_page page ≡ canonical_page other → page ≡ other
page-of-text one pages have say page other a b e =
    let own : AreLinesOf sides.Page (lines_of (canonical_page other)) (canonical_page_lines page) =
    subst (λ (t : List ℕ). AreLinesOf sides.Page (lines_of t) (canonical_page_lines page)) e (have sides.Page (canonical_page_lines page) a.in_order) in
    let same : canonical_page_lines other ≡ canonical_page_lines page =
    one sides.Page (lines_of (canonical_page other)) (canonical_page_lines other) (canonical_page_lines page) (have sides.Page (canonical_page_lines other) b.in_order) own in
    page-of-lines pages (canonical_page_lines page) page other a.in_order (say page a.contents) (subst (λ (ls : List Line). IsPageOf ls other) same (say other b.contents))

pub plugin-of-text : OneSay → PluginsAreBuilt → TextsHaveTheirLines → CanonicalLinesSayPlugins → (plugin other : Plugin) → KeepsPluginRules plugin → KeepsPluginRules other → canonical_plugin plugin ≡ canonical_plugin other → plugin ≡ other
plugin-of-text one plugins have say plugin other a b e =
    let own : AreLinesOf sides.Plug (lines_of (canonical_plugin other)) (canonical_plugin_lines plugin) =
    subst (λ (t : List ℕ). AreLinesOf sides.Plug (lines_of t) (canonical_plugin_lines plugin)) e (have sides.Plug (canonical_plugin_lines plugin) a.in_order) in
    let same : canonical_plugin_lines other ≡ canonical_plugin_lines plugin =
    one sides.Plug (lines_of (canonical_plugin other)) (canonical_plugin_lines other) (canonical_plugin_lines plugin) (have sides.Plug (canonical_plugin_lines other) b.in_order) own in
    plugin-of-lines plugins (canonical_plugin_lines plugin) plugin other a.in_order (say plugin) (subst (λ (ls : List Line). IsPluginOf ls other) same (say other))

-- ---- how many commands

length-append : {A : Type 0} (xs ys : List A) → length (xs ++ ys) ≡ length xs + length ys
length-append [] ys = omega arith
length-append (x ∷ xs) ys = let e : length (xs ++ ys) ≡ length xs + length ys = length-append xs ys in omega (arith, e)

behind : (head : Line) (front : List Line) (opening : Line) (rest : List Line) → length rest ≤ length (head ∷ (front ++ opening ∷ rest))
behind head front opening rest = omega (arith, length-append front (opening ∷ rest))

pub few-commands : LinesAreFew → (bytes : List ℕ) (page : Page) → IsPageScript bytes page → length page.commands ≤ length bytes
few-commands law bytes page is =
    let lines : length is.lines ≤ length bytes = law sides.Page bytes is.lines is.are_lines in
    let commands : length (map command_line page.commands) ≡ length page.commands = length-map page.commands command_line in
    let part : length (map command_line page.commands) ≤ length is.lines = subst (λ (ls : List Line). length (map command_line page.commands) ≤ length ls) (sym is.says.lines_are) (behind (codes "page", number page.major ∷ number page.minor ∷ []) (flat_map declaration_lines is.says.declarations) (alone (codes "do")) (map command_line page.commands)) in
    omega (arith, lines, commands, part)
