-- What holds of the scripts that are served.
use Rattle.std.specs.Prelude.{◌≡◌, ◌≤◌, ◌<◌, ◌↔◌, ℕ, List, length, None}
use Rattle.np_script_grammar.specs.declared.page.Page.{Page as PageScript}
use Rattle.np_script_grammar.specs.declared.plugin.Plugin.{Plugin as PluginScript}
use Rattle.np_script_grammar.specs.Grammar.{KeepsPluginRules}
use Rattle.np_model_scripts.specs.Levels.{page_level, plugin_level}
use Rattle.np_model.specs.declared.script.Page.{Page}
use Rattle.np_model.specs.Script.{IsWellFormed}
use Rattle.np_model_scripts.specs.Served.{SaysPage, served_page, served_plugin}

-- A page that is served is well formed, and has no more commands than a script has bytes.
abbrev pub ServedPagesAreWellFormed : Type 0
ServedPagesAreWellFormed = (bytes : List ℕ) (page : Page) → SaysPage bytes page → IsWellFormed page × (length page.commands ≤ 1048576)

-- A page is unserved exactly where its level is above 1.
abbrev pub UnservedPagesAreAbove : Type 0
UnservedPagesAreAbove = (script : PageScript) → (served_page script ≡ None) ↔ (1 < page_level script)

-- The same of plug-ins, which have no handler twice.
abbrev pub UnservedPluginsAreAbove : Type 0
UnservedPluginsAreAbove = (script : PluginScript) → KeepsPluginRules script → (served_plugin script ≡ None) ↔ (1 < plugin_level script)
