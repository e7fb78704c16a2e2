-- What a reader of what is served answers.
use Rattle.std.specs.Prelude.{◌≡◌, ℕ, List, true, Result, Ok, Err}
use Rattle.np_values.specs.declared.name.Side.TheVariants as sides
use Rattle.np_script_grammar.specs.Refusals.{FirstError}
use Rattle.np_model.specs.declared.script.Page.{Page}
use Rattle.np_model.specs.declared.script.Plugin.{Plugin}
use Rattle.np_model.specs.Script.{commands_fit}
use Rattle.np_model_scripts.specs.declared.serve.Unserved.{Unserved}
use Rattle.np_model_scripts.specs.declared.serve.Unserved.TheVariants.{Script, Unbuilt, NoMemory}
use Rattle.np_model_scripts.specs.Served.{SaysPage, SaysPlugin, IsUnbuiltPage, IsUnbuiltPlugin}

-- a page that is served, or the first error of a script, or a script that isn't served, or out of memory
abbrev pub ServesPage : List ℕ → Result Page Unserved → Type 0
ServesPage bytes (Ok page) = SaysPage bytes page × (commands_fit 0 page.commands ≡ true)
ServesPage bytes (Err (Script e)) = FirstError sides.Page bytes e
ServesPage bytes (Err Unbuilt) = IsUnbuiltPage bytes
ServesPage bytes (Err NoMemory) = Unit {0}

-- the same of a plug-in
abbrev pub ServesPlugin : List ℕ → Result Plugin Unserved → Type 0
ServesPlugin bytes (Ok plugin) = SaysPlugin bytes plugin
ServesPlugin bytes (Err (Script e)) = FirstError sides.Plug bytes e
ServesPlugin bytes (Err Unbuilt) = IsUnbuiltPlugin bytes
ServesPlugin bytes (Err NoMemory) = Unit {0}
