-- How much a script has at most, and what in it has a name of its own: said of what was read, and not of its lines. (This project's own.)
use Rattle.std.specs.Prelude.{◌≤◌, ℕ, List, length, map, Bool, true, false, bytes_eq}
use Rattle.std.specs.List.{filter, flat_map, AllByRecursion, IsDistinct}
use Rattle.np_values.specs.Handler.{handler_word}
use Rattle.np_script_grammar.specs.declared.action.Action.{Action}
use Rattle.np_script_grammar.specs.declared.class.Member.{Member}
use Rattle.np_script_grammar.specs.declared.class.ClassDef.{ClassDef}
use Rattle.np_script_grammar.specs.declared.command.Command.{Command}
use Rattle.np_script_grammar.specs.declared.command.Command.TheVariants as commands
use Rattle.np_script_grammar.specs.declared.page.Page.{Page}
use Rattle.np_script_grammar.specs.declared.plugin.Plugin.{Plugin}
use Rattle.np_script_grammar.specs.Scripts.{member_opening, member_body}
use Rattle.np_script_grammar.specs.Order.{declared_by}
use Rattle.np_script_grammar.specs.Grammar.{KeepsPageRules, KeepsPluginRules}

-- a body has at most 256 actions
abbrev pub IsShortBody : List Action → Type 0
IsShortBody body = length body ≤ 256

-- the kind and the identifier of a member
abbrev pub member_name : Member → List ℕ
member_name member = declared_by (member_opening member)

-- a class has at most 64 members, no two of one kind and identifier
pub record KeepsClassLimits (class : ClassDef) : Type 0 where
  pub few : length class.members ≤ 64
  pub distinct : IsDistinct bytes_eq (map member_name class.members)
  pub short : AllByRecursion (λ member. IsShortBody (member_body member)) class.members

abbrev pub is_create : Command → Bool
is_create (commands.Create mime mode attributes) = true
is_create command = false

-- A page has at most 64 classes, no two of one name; its resources no two of one URL, and contents of 16,777,216 bytes in all; and at most 255 commands `create`.
pub record KeepsPageLimits (page : Page) : Type 0 where
  pub few_classes : length page.classes ≤ 64
  pub class_names : IsDistinct bytes_eq (map (λ class. class.name) page.classes)
  pub classes : AllByRecursion KeepsClassLimits page.classes
  pub urls : IsDistinct bytes_eq (map (λ resource. resource.url) page.resources)
  pub few_bytes : length (flat_map (λ resource. resource.content) page.resources) ≤ 16777216
  pub few_creates : length (filter is_create page.commands) ≤ 255

-- A plug-in has at most 64 classes, no two of one name; no handler twice; and at most 32 tasks, no two of one name.
pub record KeepsPluginLimits (plugin : Plugin) : Type 0 where
  pub few_classes : length plugin.classes ≤ 64
  pub class_names : IsDistinct bytes_eq (map (λ class. class.name) plugin.classes)
  pub classes : AllByRecursion KeepsClassLimits plugin.classes
  pub handler_words : IsDistinct bytes_eq (map (λ handler. handler_word handler.which) plugin.handlers)
  pub handlers : AllByRecursion (λ handler. IsShortBody handler.body) plugin.handlers
  pub few_tasks : length plugin.tasks ≤ 32
  pub task_names : IsDistinct bytes_eq (map (λ task. task.name) plugin.tasks)
  pub tasks : AllByRecursion (λ task. IsShortBody task.body) plugin.tasks

-- A page that keeps the rules keeps the limits.
abbrev pub PagesKeepLimits : Type 0
PagesKeepLimits = (page : Page) → KeepsPageRules page → KeepsPageLimits page

-- A plug-in that keeps the rules keeps the limits.
abbrev pub PluginsKeepLimits : Type 0
PluginsKeepLimits = (plugin : Plugin) → KeepsPluginRules plugin → KeepsPluginLimits plugin
