-- From the bytes of a script to what is served.
use Rattle.std.proofs.Common.{◌≡◌, ◌⊎◌, inl, inr, ◌≤◌, ℕ, List, length, Some, None, Result, Ok, Err, refl, ap, sym, ◌∙◌, arith}
use Rattle.np_values.specs.declared.name.Side.TheVariants as sides
use Rattle.np_script_grammar.specs.declared.page.Page.{Page as PageScript}
use Rattle.np_script_grammar.specs.declared.plugin.Plugin.{Plugin as PluginScript}
use Rattle.np_script_grammar.specs.declared.refusal.ScriptError.{ScriptError}
use Rattle.np_script_grammar.specs.Grammar.{IsPageScript, IsPluginScript}
use Rattle.np_script_grammar.specs.Refusals.{FirstError}
use Rattle.np_model.specs.declared.script.Page.{Page}
use Rattle.np_model.specs.declared.script.Plugin.{Plugin}
use Rattle.np_model.specs.Script.{IsWellFormed}
use Rattle.np_script.specs.Laws.{PageScriptsKeepRules, CommandsAreFew, OnePage, OnePlugin, NoPageIsRefused, NoPluginIsRefused}
use Rattle.np_script_text_laws.specs.Laws.{OneRefusal}
use Rattle.np_model_scripts.specs.declared.serve.Unserved.{Unserved}
use Rattle.np_model_scripts.specs.declared.serve.Unserved.TheVariants as unserved
use Rattle.np_model_scripts.specs.Served.{SaysPage, SaysPlugin, IsUnbuiltPage, IsUnbuiltPlugin, served_page, served_plugin}
use Rattle.np_model_scripts.specs.Serves.{ServesPage, ServesPlugin}
use Rattle.np_model_scripts.proofs.WellFormed.{well-formed, as-many-of}

pub says-well-formed : PageScriptsKeepRules → CommandsAreFew → (bytes : List ℕ) (page : Page) → SaysPage bytes page → IsWellFormed page × (length page.commands ≤ 1048576)
says-well-formed keep few bytes page says =
    let many : length page.commands ≡ length says.script.commands = as-many-of says.script page says.served in
    let less : length says.script.commands ≤ length bytes = few bytes says.script says.is_script in
    (well-formed says.script page (keep bytes says.script says.is_script) says.served, omega (arith, many, less, says.is_script.size))

-- one script is served as one page
pub one-served-page : OnePage → (bytes : List ℕ) (script : PageScript) (page : Page) → IsPageScript bytes script → served_page script ≡ Some page → (other : Page) → SaysPage bytes other → page ≡ other
one-served-page law bytes script page is served other says =
    let same : script ≡ says.script = law bytes script says.script is says.is_script in
    let somes : Some page ≡ Some other = sym served ∙ ap served_page same ∙ says.served in
    cc

pub page-served : OnePage → (bytes : List ℕ) (script : PageScript) (page : Page) → IsPageScript bytes script → served_page script ≡ Some page → ¬ IsUnbuiltPage bytes
page-served law bytes script page is served unbuilt =
    let same : script ≡ unbuilt.script = law bytes script unbuilt.script is unbuilt.is_script in
    let both : Some page ≡ None = sym served ∙ ap served_page same ∙ unbuilt.unserved in
    absurd cc

pub page-unserved : OnePage → (bytes : List ℕ) (script : PageScript) → IsPageScript bytes script → served_page script ≡ None → (page : Page) → ¬ SaysPage bytes page
page-unserved law bytes script is unserved page says =
    let same : script ≡ says.script = law bytes script says.script is says.is_script in
    let both : Some page ≡ None = sym says.served ∙ ap served_page (sym same) ∙ unserved in
    absurd cc

pub one-served-plugin : OnePlugin → (bytes : List ℕ) (script : PluginScript) (plugin : Plugin) → IsPluginScript bytes script → served_plugin script ≡ Some plugin → (other : Plugin) → SaysPlugin bytes other → plugin ≡ other
one-served-plugin law bytes script plugin is served other says =
    let same : script ≡ says.script = law bytes script says.script is says.is_script in
    let somes : Some plugin ≡ Some other = sym served ∙ ap served_plugin same ∙ says.served in
    cc

pub plugin-served : OnePlugin → (bytes : List ℕ) (script : PluginScript) (plugin : Plugin) → IsPluginScript bytes script → served_plugin script ≡ Some plugin → ¬ IsUnbuiltPlugin bytes
plugin-served law bytes script plugin is served unbuilt =
    let same : script ≡ unbuilt.script = law bytes script unbuilt.script is unbuilt.is_script in
    let both : Some plugin ≡ None = sym served ∙ ap served_plugin same ∙ unbuilt.unserved in
    absurd cc

pub plugin-unserved : OnePlugin → (bytes : List ℕ) (script : PluginScript) → IsPluginScript bytes script → served_plugin script ≡ None → (plugin : Plugin) → ¬ SaysPlugin bytes plugin
plugin-unserved law bytes script is unserved plugin says =
    let same : script ≡ says.script = law bytes script says.script is says.is_script in
    let both : Some plugin ≡ None = sym says.served ∙ ap served_plugin (sym same) ∙ unserved in
    absurd cc

-- ---- what the answers about a page say

-- a script that is served has no error
page-no-error : NoPageIsRefused → (bytes : List ℕ) (value : Page) (e : ScriptError) → SaysPage bytes value → FirstError sides.Page bytes e → ⊥
page-no-error law bytes value e says first = law bytes says.script e says.is_script first

pub page-read : OnePage → NoPageIsRefused → (bytes : List ℕ) (r : Result Page Unserved) → ServesPage bytes r → (value : Page) → SaysPage bytes value → (r ≡ Ok value) ⊎ (r ≡ Err unserved.NoMemory)
page-read one law bytes (Ok given) serves value says = inl (ap Ok (one-served-page one bytes serves.0.script given serves.0.is_script serves.0.served value says))
page-read one law bytes (Err (unserved.Script e)) serves value says = absurd (page-no-error law bytes value e says serves)
page-read one law bytes (Err unserved.Unbuilt) serves value says = absurd (page-unserved one bytes serves.script serves.is_script serves.unserved value says)
page-read one law bytes (Err unserved.NoMemory) serves value says = inr refl

pub page-refused_only : NoPageIsRefused → OneRefusal → (bytes : List ℕ) (r : Result Page Unserved) → ServesPage bytes r → (e : ScriptError) → FirstError sides.Page bytes e
    → (r ≡ Err (unserved.Script e)) ⊎ (r ≡ Err unserved.NoMemory)
page-refused_only law one bytes (Ok given) serves e first = absurd (page-no-error law bytes given e serves.0 first)
page-refused_only law one bytes (Err (unserved.Script f)) serves e first = inl (ap (λ (x : ScriptError). Err (unserved.Script x)) (one sides.Page bytes f e serves first))
page-refused_only law one bytes (Err unserved.Unbuilt) serves e first = absurd (law bytes serves.script e serves.is_script first)
page-refused_only law one bytes (Err unserved.NoMemory) serves e first = inr refl

pub page-unbuilt_only : OnePage → NoPageIsRefused → (bytes : List ℕ) (r : Result Page Unserved) → ServesPage bytes r → IsUnbuiltPage bytes → (r ≡ Err unserved.Unbuilt) ⊎ (r ≡ Err unserved.NoMemory)
page-unbuilt_only one law bytes (Ok given) serves unbuilt = absurd (page-served one bytes serves.0.script given serves.0.is_script serves.0.served unbuilt)
page-unbuilt_only one law bytes (Err (unserved.Script e)) serves unbuilt = absurd (law bytes unbuilt.script e unbuilt.is_script serves)
page-unbuilt_only one law bytes (Err unserved.Unbuilt) serves unbuilt = inl refl
page-unbuilt_only one law bytes (Err unserved.NoMemory) serves unbuilt = inr refl

-- ---- what the answers about a plug-in say

-- a script that is served has no error
plugin-no-error : NoPluginIsRefused → (bytes : List ℕ) (value : Plugin) (e : ScriptError) → SaysPlugin bytes value → FirstError sides.Plug bytes e → ⊥
plugin-no-error law bytes value e says first = law bytes says.script e says.is_script first

pub plugin-read : OnePlugin → NoPluginIsRefused → (bytes : List ℕ) (r : Result Plugin Unserved) → ServesPlugin bytes r → (value : Plugin) → SaysPlugin bytes value → (r ≡ Ok value) ⊎ (r ≡ Err unserved.NoMemory)
plugin-read one law bytes (Ok given) serves value says = inl (ap Ok (one-served-plugin one bytes serves.script given serves.is_script serves.served value says))
plugin-read one law bytes (Err (unserved.Script e)) serves value says = absurd (plugin-no-error law bytes value e says serves)
plugin-read one law bytes (Err unserved.Unbuilt) serves value says = absurd (plugin-unserved one bytes serves.script serves.is_script serves.unserved value says)
plugin-read one law bytes (Err unserved.NoMemory) serves value says = inr refl

pub plugin-refused_only : NoPluginIsRefused → OneRefusal → (bytes : List ℕ) (r : Result Plugin Unserved) → ServesPlugin bytes r → (e : ScriptError) → FirstError sides.Plug bytes e
    → (r ≡ Err (unserved.Script e)) ⊎ (r ≡ Err unserved.NoMemory)
plugin-refused_only law one bytes (Ok given) serves e first = absurd (plugin-no-error law bytes given e serves first)
plugin-refused_only law one bytes (Err (unserved.Script f)) serves e first = inl (ap (λ (x : ScriptError). Err (unserved.Script x)) (one sides.Plug bytes f e serves first))
plugin-refused_only law one bytes (Err unserved.Unbuilt) serves e first = absurd (law bytes serves.script e serves.is_script first)
plugin-refused_only law one bytes (Err unserved.NoMemory) serves e first = inr refl

pub plugin-unbuilt_only : OnePlugin → NoPluginIsRefused → (bytes : List ℕ) (r : Result Plugin Unserved) → ServesPlugin bytes r → IsUnbuiltPlugin bytes → (r ≡ Err unserved.Unbuilt) ⊎ (r ≡ Err unserved.NoMemory)
plugin-unbuilt_only one law bytes (Ok given) serves unbuilt = absurd (plugin-served one bytes serves.script given serves.is_script serves.served unbuilt)
plugin-unbuilt_only one law bytes (Err (unserved.Script e)) serves unbuilt = absurd (law bytes unbuilt.script e unbuilt.is_script serves)
plugin-unbuilt_only one law bytes (Err unserved.Unbuilt) serves unbuilt = inl refl
plugin-unbuilt_only one law bytes (Err unserved.NoMemory) serves unbuilt = inr refl
