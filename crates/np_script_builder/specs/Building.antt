-- What the lines of a script say, line by line. (This project's own.)
use Rattle.std.specs.Prelude.{◌≡◌, ℕ, true, false, List, [], ◌∷◌, ◌++◌, if◌then◌else◌, bytes_eq, codes, Option, Some, None, Result, Ok, Err}
use Rattle.np_values.specs.declared.memory.NoMemory.{NoMemory}
use Rattle.np_idents.specs.declared.key.IdKey.{IdKey}
use Rattle.np_script_grammar.specs.declared.action.Action.{Action}
use Rattle.np_script_grammar.specs.declared.class.Member.{Member}
use Rattle.np_script_grammar.specs.declared.class.Member.TheVariants as members
use Rattle.np_script_grammar.specs.declared.class.ClassDef.{ClassDef}
use Rattle.np_script_grammar.specs.declared.page.Resource.{Resource}
use Rattle.np_script_grammar.specs.declared.page.Page.{Page}
use Rattle.np_script_grammar.specs.declared.plugin.HandlerDef.{HandlerDef}
use Rattle.np_script_grammar.specs.declared.plugin.TaskDef.{TaskDef}
use Rattle.np_script_grammar.specs.declared.plugin.Plugin.{Plugin}
use Rattle.np_script_grammar.specs.declared.line.Field.{Field}
use Rattle.np_script_grammar.specs.declared.place.Place.{Place}
use Rattle.np_script_grammar.specs.declared.place.Place.TheVariants.{Head, Top, Class, MemberBody, Body, Commands}
use Rattle.np_script_grammar.specs.Forms.{Line}
use Rattle.np_script_grammar.specs.Scripts.{copies, place_after}
use Rattle.np_script_grammar.specs.Takes.{◌>>=◌, take, byte_in, number_in, text_in, key_in, handler_in, at_end}
use Rattle.np_script_actions.specs.Actions.{action_of}
use Rattle.np_script_actions.specs.Commands.{command_of}
use Rattle.np_script_builder.specs.declared.state.Unfinished.{Unfinished}
use Rattle.np_script_builder.specs.declared.state.Unfinished.TheVariants.{Nothing, OfClass, OfMember, OfHandler, OfTask}
use Rattle.np_script_builder.specs.declared.state.Building.{Building}

-- before the first line
abbrev pub at_start : Building
at_start = record { major = 0; minor = 0; classes = []; resources = []; handlers = []; tasks = []; commands = []; unfinished = Nothing }

-- ---- what the fields of one line say

-- `class TEXT N`, so far without members and without stored properties
abbrev pub opened_class : List Field → Option ClassDef
opened_class fields = do
  name ← take text_in fields
  version ← take byte_in name.1
  end ← at_end version.1
  Some (record { name = name.0; version = version.0; stored = false; members = [] })

-- `resource TEXT TEXT N TEXT`, with all that it carries
abbrev pub said_resource : List Field → Option Resource
said_resource fields = do
  url ← take text_in fields
  mime ← take text_in url.1
  times ← take number_in mime.1
  piece ← take text_in times.1
  end ← at_end piece.1
  Some (record { url = url.0; mime = mime.0; times = times.0; piece = piece.0; content = copies times.0 piece.0 })

-- `handler` and its word, so far without actions
abbrev pub opened_handler : List Field → Option HandlerDef
opened_handler fields = do
  which ← take handler_in fields
  end ← at_end which.1
  Some (record { which = which.0; body = [] })

-- `task TEXT`, so far without actions
abbrev pub opened_task : List Field → Option TaskDef
opened_task fields = do
  name ← take text_in fields
  end ← at_end name.1
  Some (record { name = name.0; body = [] })

-- the line that opens a declaration
abbrev pub opened : List ℕ → List Field → Option Unfinished
opened word fields =
    if bytes_eq word (codes "class") then opened_class fields >>= (λ class. Some (OfClass class))
    else if bytes_eq word (codes "handler") then opened_handler fields >>= (λ handler. Some (OfHandler handler))
    else if bytes_eq word (codes "task") then opened_task fields >>= (λ task. Some (OfTask task))
    else None

-- the identifier that is alone on a member's line
abbrev pub only_key : List Field → Option IdKey
only_key fields = do
  key ← take key_in fields
  end ← at_end key.1
  Some key.0

-- the line that opens a member, so far without actions
abbrev pub opened_member : List ℕ → List Field → Option Member
opened_member word fields =
    if bytes_eq word (codes "method") then only_key fields >>= (λ key. Some (members.Method key []))
    else if bytes_eq word (codes "default") then at_end fields >>= (λ end. Some (members.Default []))
    else if bytes_eq word (codes "construct") then at_end fields >>= (λ end. Some (members.Construct []))
    else if bytes_eq word (codes "getter") then only_key fields >>= (λ key. Some (members.Getter key []))
    else if bytes_eq word (codes "setter") then only_key fields >>= (λ key. Some (members.Setter key []))
    else None

-- a member with one more action
abbrev pub with_action : Member → Action → Member
with_action (members.Method key body) action = members.Method key (body ++ action ∷ [])
with_action (members.Default body) action = members.Default (body ++ action ∷ [])
with_action (members.Construct body) action = members.Construct (body ++ action ∷ [])
with_action (members.Getter key body) action = members.Getter key (body ++ action ∷ [])
with_action (members.Setter key body) action = members.Setter key (body ++ action ∷ [])

-- ---- one line, by the place where it stands

-- the head: the major and the minor number of a version
abbrev pub built_head : Building → List Field → Option Building
built_head b fields = do
  major ← take byte_in fields
  minor ← take byte_in major.1
  end ← at_end minor.1
  Some (record b { major = major.0; minor = minor.0 })

-- a resource is complete with its line
abbrev pub built_resource : Building → List Field → Option Building
built_resource b fields = said_resource fields >>= (λ resource. Some (record b { resources = b.resources ++ resource ∷ [] }))

-- between declarations: a resource, `do`, which changes nothing, or a line that opens a declaration
abbrev pub built_at_top : Building → List ℕ → List Field → Option Building
built_at_top b word fields =
    if bytes_eq word (codes "resource") then built_resource b fields
    else if bytes_eq word (codes "do") then at_end fields >>= (λ end. Some b)
    else opened word fields >>= (λ unfinished. Some (record b { unfinished = unfinished }))

-- between the members of a class, which is complete with its line `endclass`
abbrev pub built_in_class : Building → Unfinished → List ℕ → List Field → Option Building
built_in_class b (OfClass class) word fields =
    if bytes_eq word (codes "data") then at_end fields >>= (λ end. Some (record b { unfinished = OfClass (record class { stored = true }) }))
    else if bytes_eq word (codes "endclass") then at_end fields >>= (λ end. Some (record b { classes = b.classes ++ class ∷ []; unfinished = Nothing }))
    else opened_member word fields >>= (λ member. Some (record b { unfinished = OfMember class member }))
built_in_class b unfinished word fields = None

-- in the body of a member, which is complete with its line `end`
abbrev pub built_in_member : Building → Unfinished → List ℕ → List Field → Option Building
built_in_member b (OfMember class member) word fields =
    if bytes_eq word (codes "end") then at_end fields >>= (λ end. Some (record b { unfinished = OfClass (record class { members = class.members ++ member ∷ [] }) }))
    else action_of word fields >>= (λ action. Some (record b { unfinished = OfMember class (with_action member action) }))
built_in_member b unfinished word fields = None

-- in the body of a handler, which is complete with its line `end`
abbrev pub built_in_handler : Building → HandlerDef → List ℕ → List Field → Option Building
built_in_handler b handler word fields =
    if bytes_eq word (codes "end") then at_end fields >>= (λ end. Some (record b { handlers = b.handlers ++ handler ∷ []; unfinished = Nothing }))
    else action_of word fields >>= (λ action. Some (record b { unfinished = OfHandler (record handler { body = handler.body ++ action ∷ [] }) }))

-- the same of a task
abbrev pub built_in_task : Building → TaskDef → List ℕ → List Field → Option Building
built_in_task b task word fields =
    if bytes_eq word (codes "end") then at_end fields >>= (λ end. Some (record b { tasks = b.tasks ++ task ∷ []; unfinished = Nothing }))
    else action_of word fields >>= (λ action. Some (record b { unfinished = OfTask (record task { body = task.body ++ action ∷ [] }) }))

-- in the body of whichever of them is unfinished
abbrev pub built_in_body : Building → Unfinished → List ℕ → List Field → Option Building
built_in_body b (OfHandler handler) word fields = built_in_handler b handler word fields
built_in_body b (OfTask task) word fields = built_in_task b task word fields
built_in_body b unfinished word fields = None

-- after `do`
abbrev pub built_command : Building → List ℕ → List Field → Option Building
built_command b word fields = command_of word fields >>= (λ command. Some (record b { commands = b.commands ++ command ∷ [] }))

-- with one line at this place, if that line says something there
unfoldable pub built_after : Place → Building → Line → Option Building
built_after Head b line = built_head b line.1
built_after Top b line = built_at_top b line.0 line.1
built_after Class b line = built_in_class b b.unfinished line.0 line.1
built_after MemberBody b line = built_in_member b b.unfinished line.0 line.1
built_after Body b line = built_in_body b b.unfinished line.0 line.1
built_after Commands b line = built_command b line.0 line.1

-- with these lines, of which the first stands at this place
abbrev pub built_from : Place → Building → List Line → Option Building
built_from place b [] = Some b
built_from place b (line ∷ lines) = built_after place b line >>= (λ next. built_from (place_after place line.0) next lines)

-- what the lines of a whole script say
abbrev pub built : List Line → Option Building
built lines = built_from Head at_start lines

-- ---- the value of a script

abbrev pub page_in : Building → Page
page_in b = record { major = b.major; minor = b.minor; classes = b.classes; resources = b.resources; commands = b.commands }

abbrev pub plugin_in : Building → Plugin
plugin_in b = record { major = b.major; minor = b.minor; classes = b.classes; handlers = b.handlers; tasks = b.tasks }

-- ---- what a call gives

-- the line said something, and this came of it; or it said nothing
abbrev pub Builds : Option (Unit {0}) → Building → Option Building → Type 0
Builds None new given = given ≡ None
Builds (Some u) new given = given ≡ Some new

-- the same, unless memory ran out
abbrev pub Gives : Result (Option (Unit {0})) NoMemory → Building → Option Building → Type 0
Gives (Ok said) new given = Builds said new given
Gives (Err e) new given = Unit {0}
