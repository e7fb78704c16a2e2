-- What holds of scripts and their canonical texts.
use Rattle.std.specs.Prelude.{◌≡◌, ◌⊎◌, ◌≤◌, ℕ, List, length}
use Rattle.np_values.specs.declared.name.Side.TheVariants as sides
use Rattle.np_script_grammar.specs.declared.page.Page.{Page}
use Rattle.np_script_grammar.specs.declared.plugin.Plugin.{Plugin}
use Rattle.np_script_grammar.specs.declared.refusal.ScriptError.{ScriptError}
use Rattle.np_script_grammar.specs.Grammar.{IsPageScript, IsPluginScript, KeepsPageRules, KeepsPluginRules, canonical_page, canonical_plugin, script_limit}
use Rattle.np_script_grammar.specs.Refusals.{FirstError}
use Rattle.np_script_line_laws.specs.Limits.{KeepsPageLimits, KeepsPluginLimits}

-- Bytes say one page.
abbrev pub OnePage : Type 0
OnePage = (bytes : List ℕ) (page other : Page) → IsPageScript bytes page → IsPageScript bytes other → page ≡ other

-- Bytes say one plug-in.
abbrev pub OnePlugin : Type 0
OnePlugin = (bytes : List ℕ) (plugin other : Plugin) → IsPluginScript bytes plugin → IsPluginScript bytes other → plugin ≡ other

-- Bytes are a page script, or have a first error.
abbrev pub PagesAreDecided : Type 0
PagesAreDecided = (bytes : List ℕ) → ((page : Page) × IsPageScript bytes page) ⊎ ((e : ScriptError) × FirstError sides.Page bytes e)

-- Bytes are a plug-in script, or have a first error.
abbrev pub PluginsAreDecided : Type 0
PluginsAreDecided = (bytes : List ℕ) → ((plugin : Plugin) × IsPluginScript bytes plugin) ⊎ ((e : ScriptError) × FirstError sides.Plug bytes e)

-- Bytes that are refused aren't a script.
abbrev pub NoPageIsRefused : Type 0
NoPageIsRefused = (bytes : List ℕ) (page : Page) (e : ScriptError) → IsPageScript bytes page → ¬ FirstError sides.Page bytes e

abbrev pub NoPluginIsRefused : Type 0
NoPluginIsRefused = (bytes : List ℕ) (plugin : Plugin) (e : ScriptError) → IsPluginScript bytes plugin → ¬ FirstError sides.Plug bytes e

-- What a script says keeps the rules.
abbrev pub PageScriptsKeepRules : Type 0
PageScriptsKeepRules = (bytes : List ℕ) (page : Page) → IsPageScript bytes page → KeepsPageRules page

abbrev pub PluginScriptsKeepRules : Type 0
PluginScriptsKeepRules = (bytes : List ℕ) (plugin : Plugin) → IsPluginScript bytes plugin → KeepsPluginRules plugin

-- What a script says keeps the limits.
abbrev pub PageScriptsKeepLimits : Type 0
PageScriptsKeepLimits = (bytes : List ℕ) (page : Page) → IsPageScript bytes page → KeepsPageLimits page

abbrev pub PluginScriptsKeepLimits : Type 0
PluginScriptsKeepLimits = (bytes : List ℕ) (plugin : Plugin) → IsPluginScript bytes plugin → KeepsPluginLimits plugin

-- The canonical text of a page that keeps the rules is a script that says it, where it isn't too long.
abbrev pub CanonicalPagesAreScripts : Type 0
CanonicalPagesAreScripts = (page : Page) → KeepsPageRules page → length (canonical_page page) ≤ script_limit → IsPageScript (canonical_page page) page

abbrev pub CanonicalPluginsAreScripts : Type 0
CanonicalPluginsAreScripts = (plugin : Plugin) → KeepsPluginRules plugin → length (canonical_plugin plugin) ≤ script_limit → IsPluginScript (canonical_plugin plugin) plugin

-- Two pages with one canonical text are the same.
abbrev pub OneCanonicalPage : Type 0
OneCanonicalPage = (page other : Page) → KeepsPageRules page → KeepsPageRules other → canonical_page page ≡ canonical_page other → page ≡ other

abbrev pub OneCanonicalPlugin : Type 0
OneCanonicalPlugin = (plugin other : Plugin) → KeepsPluginRules plugin → KeepsPluginRules other → canonical_plugin plugin ≡ canonical_plugin other → plugin ≡ other

-- A page has no more commands than its script has bytes.
abbrev pub CommandsAreFew : Type 0
CommandsAreFew = (bytes : List ℕ) (page : Page) → IsPageScript bytes page → length page.commands ≤ length bytes
