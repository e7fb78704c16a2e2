-- Which scripts the programs serve, and as which page or plug-in. (This project's own.)
use Rattle.std.specs.Prelude.{◌≡◌, ℕ, ℤ, List, [], ◌∷◌, Option, Some, None, option_map}
use Rattle.np_values.specs.declared.value.Value.TheVariants.{Int}
use Rattle.np_values.specs.declared.handler.Handler.{Handler}
use Rattle.np_values.specs.declared.handler.Handler.TheVariants as handlers
use Rattle.np_script_grammar.specs.declared.action.Operand.TheVariants.{Const}
use Rattle.np_script_grammar.specs.declared.action.Action.{Action}
use Rattle.np_script_grammar.specs.declared.action.Action.TheVariants.{Return}
use Rattle.np_script_grammar.specs.declared.class.ClassDef.{ClassDef}
use Rattle.np_script_grammar.specs.declared.page.Resource.{Resource}
use Rattle.np_script_grammar.specs.declared.command.Command.{Command as ScriptCommand}
use Rattle.np_script_grammar.specs.declared.command.Command.TheVariants as commands
use Rattle.np_script_grammar.specs.declared.page.Page.{Page as PageScript}
use Rattle.np_script_grammar.specs.declared.plugin.HandlerDef.{HandlerDef}
use Rattle.np_script_grammar.specs.declared.plugin.TaskDef.{TaskDef}
use Rattle.np_script_grammar.specs.declared.plugin.Plugin.{Plugin as PluginScript}
use Rattle.np_script_grammar.specs.Grammar.{IsPageScript, IsPluginScript}
use Rattle.np_model.specs.declared.script.Command.{Command}
use Rattle.np_model.specs.declared.script.Command.TheVariants.{Create, Turn}
use Rattle.np_model.specs.declared.script.Page.{Page}
use Rattle.np_model.specs.declared.script.Plugin.{Plugin}

infixl 10 ◌>>=◌
abbrev pub ◌>>=◌ : {A B : Type 0} → Option A → (A → Option B) → Option B
None >>= f = None
(Some x) >>= f = f x

-- ---- pages: `create` without attributes, and `turn`

abbrev pub served_create : List ℕ → ℕ → List (List ℕ) → Option Command
served_create mime mode [] = Some (Create mime mode)
served_create mime mode (attribute ∷ attributes) = None

abbrev pub served_command : ScriptCommand → Option Command
served_command (commands.Create mime mode attributes) = served_create mime mode attributes
served_command commands.Turn = Some Turn
served_command command = None

abbrev pub served_commands : List ScriptCommand → Option (List Command)
served_commands [] = Some []
served_commands (command ∷ commands) = do
  first ← served_command command
  others ← served_commands commands
  Some (first ∷ others)

-- without classes and resources
abbrev pub served_parts : List ClassDef → List Resource → List ScriptCommand → Option (List Command)
served_parts [] [] commands = served_commands commands
served_parts [] (resource ∷ resources) commands = None
served_parts (class ∷ classes) resources commands = None

abbrev pub served_page : PageScript → Option Page
served_page script = served_parts script.classes script.resources script.commands >>= (λ commands. Some (record { major = script.major; minor = script.minor; commands = commands }))

-- ---- plug-ins: perhaps the handler `new`, whose one action returns a number

abbrev pub returned_by : List Action → Option ℤ
returned_by (Return (Const (Int n)) ∷ []) = Some n
returned_by body = None

abbrev pub served_handler : HandlerDef → Option ℤ
served_handler handler = answer_of handler.which handler.body
  where
    answer_of : Handler → List Action → Option ℤ
    answer_of handlers.New body = returned_by body
    answer_of which body = None

abbrev pub served_handlers : List HandlerDef → Option (Option ℤ)
served_handlers [] = Some None
served_handlers (handler ∷ []) = option_map (λ n. Some n) (served_handler handler)
served_handlers (handler ∷ next ∷ handlers) = None

-- without classes and tasks
abbrev pub served_declarations : List ClassDef → List HandlerDef → List TaskDef → Option (Option ℤ)
served_declarations [] handlers [] = served_handlers handlers
served_declarations [] handlers (task ∷ tasks) = None
served_declarations (class ∷ classes) handlers tasks = None

abbrev pub served_plugin : PluginScript → Option Plugin
served_plugin script = served_declarations script.classes script.handlers script.tasks >>= (λ handler. Some (record { major = script.major; minor = script.minor; new_handler = handler }))

-- ---- what bytes say

-- the bytes are a page script that is served as this page
pub record SaysPage (bytes : List ℕ) (page : Page) : Type 0 where
  pub script : PageScript
  pub is_script : IsPageScript bytes script
  pub served : served_page script ≡ Some page

-- the bytes are a page script that isn't served
pub record IsUnbuiltPage (bytes : List ℕ) : Type 0 where
  pub script : PageScript
  pub is_script : IsPageScript bytes script
  pub unserved : served_page script ≡ None

-- the bytes are a plug-in script that is served as this plug-in
pub record SaysPlugin (bytes : List ℕ) (plugin : Plugin) : Type 0 where
  pub script : PluginScript
  pub is_script : IsPluginScript bytes script
  pub served : served_plugin script ≡ Some plugin

-- the bytes are a plug-in script that isn't served
pub record IsUnbuiltPlugin (bytes : List ℕ) : Type 0 where
  pub script : PluginScript
  pub is_script : IsPluginScript bytes script
  pub unserved : served_plugin script ≡ None
