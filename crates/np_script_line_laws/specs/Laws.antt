-- What holds of the lines of all scripts.
use Rattle.std.specs.Prelude.{◌≡◌, List, ◌++◌}
use Rattle.std.specs.List.{AllByRecursion}
use Rattle.np_values.specs.declared.name.Side.{Side}
use Rattle.np_values.specs.declared.name.Side.TheVariants as sides
use Rattle.np_script_grammar.specs.declared.page.Page.{Page}
use Rattle.np_script_grammar.specs.declared.plugin.Plugin.{Plugin}
use Rattle.np_script_grammar.specs.declared.place.Place.{Place}
use Rattle.np_script_grammar.specs.declared.place.Place.TheVariants.{Head, Top, Commands}
use Rattle.np_script_grammar.specs.Forms.{Line}
use Rattle.np_script_grammar.specs.Scripts.{HasContent, IsPageOf, IsPluginOf, canonical_page_lines, canonical_plugin_lines, place_behind}
use Rattle.np_script_grammar.specs.Order.{at_first, AreInOrder}

-- The canonical lines of a page say that page, where its resources carry what their lines say.
abbrev pub CanonicalLinesSayPages : Type 0
CanonicalLinesSayPages = (page : Page) → AllByRecursion HasContent page.resources → IsPageOf (canonical_page_lines page) page

-- The canonical lines of a plug-in say that plug-in.
abbrev pub CanonicalLinesSayPlugins : Type 0
CanonicalLinesSayPlugins = (plugin : Plugin) → IsPluginOf (canonical_plugin_lines plugin) plugin

-- A page's canonical lines are in order, where lines are that say it.
abbrev pub CanonicalPagesAreInOrder : Type 0
CanonicalPagesAreInOrder = (lines : List Line) (page : Page) → AreInOrder sides.Page at_first lines → IsPageOf lines page → AreInOrder sides.Page at_first (canonical_page_lines page)

-- A plug-in's canonical lines are in order, where lines are that say it.
abbrev pub CanonicalPluginsAreInOrder : Type 0
CanonicalPluginsAreInOrder = (lines : List Line) (plugin : Plugin) → AreInOrder sides.Plug at_first lines → IsPluginOf lines plugin → AreInOrder sides.Plug at_first (canonical_plugin_lines plugin)

-- Lines that begin lines in order are in order.
abbrev pub PrefixesAreInOrder : Type 0
PrefixesAreInOrder = (side : Side) (front rest : List Line) → AreInOrder side at_first (front ++ rest) → AreInOrder side at_first front

-- where a script of this side may end: a page after `do`, a plug-in between its declarations
abbrev pub last_place : Side → Place
last_place sides.Page = Commands
last_place sides.Plug = Top

-- Lines that are in order can be continued, to a place where a script may end.
abbrev pub LinesCanBeCompleted : Type 0
LinesCanBeCompleted = (side : Side) (lines : List Line) → AreInOrder side at_first lines →
    (more : List Line) × AreInOrder side at_first (lines ++ more) × (place_behind Head (lines ++ more) ≡ last_place side)
