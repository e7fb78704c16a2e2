-- From which stage of the programs on a script is served: the greatest level that one of its lines has. (This project's own.)
use Rattle.std.specs.Prelude.{ℕ, List, [], ◌∷◌, map, max}
use Rattle.np_values.specs.declared.value.Value.TheVariants.{Int}
use Rattle.np_values.specs.declared.handler.Handler.{Handler}
use Rattle.np_values.specs.declared.handler.Handler.TheVariants as handlers
use Rattle.np_script_grammar.specs.declared.action.Operand.TheVariants.{Const}
use Rattle.np_script_grammar.specs.declared.action.Action.{Action}
use Rattle.np_script_grammar.specs.declared.action.Action.TheVariants as actions
use Rattle.np_script_grammar.specs.declared.command.Command.{Command}
use Rattle.np_script_grammar.specs.declared.command.Command.TheVariants as commands
use Rattle.np_script_grammar.specs.declared.class.Member.{Member}
use Rattle.np_script_grammar.specs.declared.class.ClassDef.{ClassDef}
use Rattle.np_script_grammar.specs.declared.page.Resource.{Resource}
use Rattle.np_script_grammar.specs.declared.page.Page.{Page}
use Rattle.np_script_grammar.specs.declared.plugin.HandlerDef.{HandlerDef}
use Rattle.np_script_grammar.specs.declared.plugin.TaskDef.{TaskDef}
use Rattle.np_script_grammar.specs.declared.plugin.Plugin.{Plugin}
use Rattle.np_script_grammar.specs.Scripts.{member_body}

-- the greatest of these numbers; 0 of none
abbrev pub greatest : List ℕ → ℕ
greatest [] = 0
greatest (n ∷ ns) = max n (greatest ns)

-- ---- bodies

-- 8 for `destroy` and `exit`, 9 for what requests streams, 10 for `later`, and else 5
abbrev pub action_level : Action → ℕ
action_level (actions.Destroy r instance) = 8
action_level (actions.Exit n) = 8
action_level (actions.GetUrl r v n) = 9
action_level (actions.RequestRead r v ranges) = 9
action_level (actions.EndStream r v reason) = 9
action_level (actions.Later task) = 10
action_level action = 5

-- the levels of a body's lines: that of the line which opens it, and those of its actions
abbrev pub body_level : ℕ → List Action → ℕ
body_level opening body = max opening (greatest (map action_level body))

-- ---- declarations

abbrev pub member_level : Member → ℕ
member_level member = body_level 5 (member_body member)

abbrev pub class_level : ClassDef → ℕ
class_level class = max 5 (greatest (map member_level class.members))

abbrev pub resource_level : Resource → ℕ
resource_level resource = 9

-- `handler new` with the one action `return INT` is served from the start
abbrev pub new_level : List Action → ℕ
new_level (actions.Return (Const (Int n)) ∷ []) = 1
new_level body = body_level 5 body

abbrev pub which_level : Handler → List Action → ℕ
which_level handlers.New body = new_level body
which_level handlers.Destroy body = body_level 5 body
which_level handlers.Scriptable body = body_level 5 body
which_level stream body = body_level 9 body

abbrev pub handler_level : HandlerDef → ℕ
handler_level handler = which_level handler.which handler.body

abbrev pub task_level : TaskDef → ℕ
task_level task = body_level 10 task.body

-- ---- commands

-- `create` without attributes is served from the start, and with them from 5 on
abbrev pub create_level : List (List ℕ) → ℕ
create_level [] = 1
create_level (attribute ∷ attributes) = 5

-- 8 for `destroy`, 9 for `open` and `pump`, 1 for `turn` and a plain `create`, and else 5
abbrev pub command_level : Command → ℕ
command_level (commands.Create mime mode attributes) = create_level attributes
command_level commands.Turn = 1
command_level (commands.Destroy instance) = 8
command_level (commands.OpenStream instance url) = 9
command_level (commands.Pump n) = 9
command_level command = 5

-- ---- whole scripts; the head and `do` have 1

abbrev pub page_level : Page → ℕ
page_level page = max 1 (max (greatest (map class_level page.classes)) (max (greatest (map resource_level page.resources)) (greatest (map command_level page.commands))))

abbrev pub plugin_level : Plugin → ℕ
plugin_level plugin = max 1 (max (greatest (map class_level plugin.classes)) (max (greatest (map handler_level plugin.handlers)) (greatest (map task_level plugin.tasks))))
