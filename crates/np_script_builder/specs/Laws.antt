-- What is promised of building: every script whose lines are in order is built, and its value is what its lines say.
use Rattle.std.specs.Prelude.{◌≡◌, List, [], ◌∷◌, ◌++◌, Some}
use Rattle.np_values.specs.declared.name.Side.{Side}
use Rattle.np_values.specs.declared.name.Side.TheVariants as sides
use Rattle.np_script_grammar.specs.declared.page.Page.{Page}
use Rattle.np_script_grammar.specs.declared.plugin.Plugin.{Plugin}
use Rattle.np_script_grammar.specs.declared.place.Place.TheVariants.{Head, Top, Commands}
use Rattle.np_script_grammar.specs.Forms.{Line}
use Rattle.np_script_grammar.specs.Scripts.{IsPageOf, IsPluginOf, place_behind}
use Rattle.np_script_grammar.specs.Order.{at_first, AreInOrder}
use Rattle.np_script_builder.specs.declared.state.Building.{Building}
use Rattle.np_script_builder.specs.Building.{built_after, built, page_in, plugin_in}

-- Lines in order, each of which may follow those before it, say something.
abbrev pub LinesInOrderAreBuilt : Type 0
LinesInOrderAreBuilt = (side : Side) (lines : List Line) → AreInOrder side at_first lines → (b : Building) × (built lines ≡ Some b)

-- With one line more, what is built continues by that line at its place.
abbrev pub BuiltGoesOn : Type 0
BuiltGoesOn = (lines : List Line) (line : Line) (b : Building) → built lines ≡ Some b → built (lines ++ line ∷ []) ≡ built_after (place_behind Head lines) b line

-- The lines of a page say the page that is built of them.
abbrev pub BuiltPages : Type 0
BuiltPages = (lines : List Line) (b : Building) → AreInOrder sides.Page at_first lines → place_behind Head lines ≡ Commands → built lines ≡ Some b → IsPageOf lines (page_in b)

-- The same of a plug-in.
abbrev pub BuiltPlugins : Type 0
BuiltPlugins = (lines : List Line) (b : Building) → AreInOrder sides.Plug at_first lines → place_behind Head lines ≡ Top → built lines ≡ Some b → IsPluginOf lines (plugin_in b)

-- A page that the lines say is what is built of them, and the lines end where a page's may.
abbrev pub PagesAreBuilt : Type 0
PagesAreBuilt = (lines : List Line) (page : Page) → AreInOrder sides.Page at_first lines → IsPageOf lines page →
    (place_behind Head lines ≡ Commands) × ((b : Building) × (built lines ≡ Some b) × (page_in b ≡ page))

-- The same of a plug-in.
abbrev pub PluginsAreBuilt : Type 0
PluginsAreBuilt = (lines : List Line) (plugin : Plugin) → AreInOrder sides.Plug at_first lines → IsPluginOf lines plugin →
    (place_behind Head lines ≡ Top) × ((b : Building) × (built lines ≡ Some b) × (plugin_in b ≡ plugin))
