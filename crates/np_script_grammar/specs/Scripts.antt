-- The lines of whole scripts, in their order. (This project's own.)
use Rattle.std.specs.Prelude.{◌≡◌, ℕ, zero, suc, List, [], ◌∷◌, ◌++◌, map, take, drop, Bool, if◌then◌else◌, ◌||◌, bytes_eq, codes}
use Rattle.std.specs.List.{flat_map, AllByRecursion}
use Rattle.np_script_grammar.specs.declared.action.Action.{Action}
use Rattle.np_script_grammar.specs.declared.class.Member.{Member}
use Rattle.np_script_grammar.specs.declared.class.Member.TheVariants as members
use Rattle.np_script_grammar.specs.declared.class.ClassDef.{ClassDef}
use Rattle.np_script_grammar.specs.declared.page.Resource.{Resource}
use Rattle.np_script_grammar.specs.declared.page.Page.{Page}
use Rattle.np_script_grammar.specs.declared.plugin.HandlerDef.{HandlerDef}
use Rattle.np_script_grammar.specs.declared.plugin.TaskDef.{TaskDef}
use Rattle.np_script_grammar.specs.declared.plugin.Plugin.{Plugin}
use Rattle.np_script_grammar.specs.declared.line.Field.TheVariants as fields
use Rattle.np_script_grammar.specs.declared.place.Place.{Place}
use Rattle.np_script_grammar.specs.declared.place.Place.TheVariants.{Head, Top, Class, MemberBody, Body, Commands}
use Rattle.np_script_grammar.specs.Forms.{Line}
use Rattle.np_script_grammar.specs.Rows.{text, number, key, action_line, command_line}

-- ---- declarations

-- a line that is one word
abbrev pub alone : List ℕ → Line
alone word = (word, [])

-- the line that opens a body, its actions, and its end
abbrev pub body_lines : Line → List Action → List Line
body_lines opening body = opening ∷ (map action_line body ++ alone (codes "end") ∷ [])

abbrev pub member_opening : Member → Line
member_opening (members.Method id body) = (codes "method", key id ∷ [])
member_opening (members.Default body) = alone (codes "default")
member_opening (members.Construct body) = alone (codes "construct")
member_opening (members.Getter id body) = (codes "getter", key id ∷ [])
member_opening (members.Setter id body) = (codes "setter", key id ∷ [])

abbrev pub member_body : Member → List Action
member_body (members.Method id body) = body
member_body (members.Default body) = body
member_body (members.Construct body) = body
member_body (members.Getter id body) = body
member_body (members.Setter id body) = body

abbrev pub member_lines : Member → List Line
member_lines member = body_lines (member_opening member) (member_body member)

-- the line `data`, where properties are stored
abbrev pub data_lines : Bool → List Line
data_lines stored = if stored then alone (codes "data") ∷ [] else []

abbrev pub class_opening : ClassDef → Line
class_opening class = (codes "class", text class.name ∷ number class.version ∷ [])

-- a class whose line `data`, if it has one, stands after this many members
abbrev pub class_lines : ℕ → ClassDef → List Line
class_lines before class =
    class_opening class ∷ (flat_map member_lines (take before class.members) ++ (data_lines class.stored ++ (flat_map member_lines (drop before class.members) ++ alone (codes "endclass") ∷ [])))

abbrev pub resource_line : Resource → Line
resource_line resource = (codes "resource", text resource.url ∷ text resource.mime ∷ number resource.times ∷ text resource.piece ∷ [])

-- this many copies of a piece, one after another
abbrev pub copies : ℕ → List ℕ → List ℕ
copies zero piece = []
copies (suc n) piece = piece ++ copies n piece

-- what a resource carries
abbrev pub HasContent : Resource → Type 0
HasContent resource = resource.content ≡ copies resource.times resource.piece

abbrev pub handler_lines : HandlerDef → List Line
handler_lines handler = body_lines (codes "handler", fields.HandlerWord handler.which ∷ []) handler.body

abbrev pub task_lines : TaskDef → List Line
task_lines task = body_lines (codes "task", text task.name ∷ []) task.body

-- ---- whole scripts, with their declarations in any order

pub data Declaration : Type 0 where
  OfClass : ℕ → ClassDef → Declaration  -- with the number of members before its line `data`
  OfResource : Resource → Declaration
  OfHandler : HandlerDef → Declaration
  OfTask : TaskDef → Declaration

abbrev pub declaration_lines : Declaration → List Line
declaration_lines (OfClass before class) = class_lines before class
declaration_lines (OfResource resource) = resource_line resource ∷ []
declaration_lines (OfHandler handler) = handler_lines handler
declaration_lines (OfTask task) = task_lines task

abbrev pub class_in : Declaration → List ClassDef
class_in (OfClass before class) = class ∷ []
class_in declaration = []

abbrev pub resource_in : Declaration → List Resource
resource_in (OfResource resource) = resource ∷ []
resource_in declaration = []

abbrev pub handler_in : Declaration → List HandlerDef
handler_in (OfHandler handler) = handler ∷ []
handler_in declaration = []

abbrev pub task_in : Declaration → List TaskDef
task_in (OfTask task) = task ∷ []
task_in declaration = []

-- a page: its version, its declarations, `do`, and its commands
pub record IsPageOf (lines : List Line) (page : Page) : Type 0 where
  pub declarations : List Declaration
  pub lines_are : lines ≡ (codes "page", number page.major ∷ number page.minor ∷ []) ∷ (flat_map declaration_lines declarations ++ alone (codes "do") ∷ map command_line page.commands)
  pub classes : flat_map class_in declarations ≡ page.classes
  pub resources : flat_map resource_in declarations ≡ page.resources
  pub contents : AllByRecursion HasContent page.resources

-- a plug-in: its version and its declarations
pub record IsPluginOf (lines : List Line) (plugin : Plugin) : Type 0 where
  pub declarations : List Declaration
  pub lines_are : lines ≡ (codes "plugin", number plugin.major ∷ number plugin.minor ∷ []) ∷ flat_map declaration_lines declarations
  pub classes : flat_map class_in declarations ≡ plugin.classes
  pub handlers : flat_map handler_in declarations ≡ plugin.handlers
  pub tasks : flat_map task_in declarations ≡ plugin.tasks

-- ---- canonical order: classes, then resources or handlers, then tasks; `data` first in its class

abbrev pub canonical_page_lines : Page → List Line
canonical_page_lines page =
    (codes "page", number page.major ∷ number page.minor ∷ [])
    ∷ (flat_map (class_lines 0) page.classes ++ (map resource_line page.resources ++ alone (codes "do") ∷ map command_line page.commands))

abbrev pub canonical_plugin_lines : Plugin → List Line
canonical_plugin_lines plugin =
    (codes "plugin", number plugin.major ∷ number plugin.minor ∷ [])
    ∷ (flat_map (class_lines 0) plugin.classes ++ (flat_map handler_lines plugin.handlers ++ flat_map task_lines plugin.tasks))

-- ---- places

abbrev pub is_member_word : List ℕ → Bool
is_member_word word = bytes_eq word (codes "method") || (bytes_eq word (codes "default") || (bytes_eq word (codes "construct") || (bytes_eq word (codes "getter") || bytes_eq word (codes "setter"))))

-- where a script stands after a line that begins with this word
abbrev pub place_after : Place → List ℕ → Place
place_after Head word = Top
place_after Top word =
    if bytes_eq word (codes "class") then Class
    else if bytes_eq word (codes "handler") || bytes_eq word (codes "task") then Body
    else if bytes_eq word (codes "do") then Commands
    else Top
place_after Class word = if is_member_word word then MemberBody else if bytes_eq word (codes "endclass") then Top else Class
place_after MemberBody word = if bytes_eq word (codes "end") then Class else MemberBody
place_after Body word = if bytes_eq word (codes "end") then Top else Body
place_after Commands word = Commands

abbrev pub place_behind : Place → List Line → Place
place_behind place [] = place
place_behind place (line ∷ lines) = place_behind (place_after place line.0) lines
