-- What a building says of the lines so far, by the place where they lead.
use Rattle.std.proofs.Common.{◌≡◌, ℕ, List, [], ◌∷◌, ◌++◌, true, map, ◌⊎◌}
use Rattle.std.specs.Prelude.{codes, bytes_eq}
use Rattle.std.specs.List.{flat_map, list_any, AllByRecursion}
use Rattle.np_values.specs.declared.name.Side.{Side}
use Rattle.np_values.specs.declared.name.Side.TheVariants as sides
use Rattle.np_script_grammar.specs.declared.class.Member.{Member}
use Rattle.np_script_grammar.specs.declared.class.ClassDef.{ClassDef}
use Rattle.np_script_grammar.specs.declared.page.Resource.{Resource}
use Rattle.np_script_grammar.specs.declared.plugin.HandlerDef.{HandlerDef}
use Rattle.np_script_grammar.specs.declared.plugin.TaskDef.{TaskDef}
use Rattle.np_script_grammar.specs.declared.place.Place.{Place}
use Rattle.np_script_grammar.specs.declared.place.Place.TheVariants.{Head, Top, Class, MemberBody, Body, Commands}
use Rattle.np_script_grammar.specs.declared.line.Field.TheVariants as fields
use Rattle.np_script_grammar.specs.Forms.{Line}
use Rattle.np_script_grammar.specs.Rows.{text, number, action_line, command_line}
use Rattle.np_script_grammar.specs.Scripts.{Declaration, declaration_lines, class_in, resource_in, handler_in, task_in, HasContent, alone, class_opening, data_lines, member_opening, member_body, member_lines}
use Rattle.np_script_builder.specs.declared.state.Unfinished.TheVariants.{OfClass, OfMember, OfHandler, OfTask}
use Rattle.np_script_builder.specs.declared.state.Building.{Building}
use Rattle.np_script_builder.specs.Building.{at_start}

abbrev pub head_word : Side → List ℕ
head_word sides.Page = codes "page"
head_word sides.Plug = codes "plugin"

-- these lines are a head and declarations, of which these lists are
pub record Declares (side : Side) (major minor : ℕ) (classes : List ClassDef) (resources : List Resource) (handlers : List HandlerDef) (tasks : List TaskDef) (lines : List Line) : Type 0 where
  pub declarations : List Declaration
  pub lines_are : lines ≡ (head_word side, number major ∷ number minor ∷ []) ∷ flat_map declaration_lines declarations
  pub classes_are : flat_map class_in declarations ≡ classes
  pub resources_are : flat_map resource_in declarations ≡ resources
  pub handlers_are : flat_map handler_in declarations ≡ handlers
  pub tasks_are : flat_map task_in declarations ≡ tasks
  pub contents : AllByRecursion HasContent resources

abbrev pub DeclaresIn : Side → Building → List Line → Type 0
DeclaresIn side b lines = Declares side b.major b.minor b.classes b.resources b.handlers b.tasks lines

-- a class so far, with the members before its line `data` and those behind it
abbrev pub class_so_far : List Member → List Member → ClassDef → List Line
class_so_far early late class = class_opening class ∷ (flat_map member_lines early ++ (data_lines class.stored ++ flat_map member_lines late))

pub record OpenClass (side : Side) (class : ClassDef) (in_class : List (List ℕ)) (b : Building) (lines : List Line) : Type 0 where
  pub front : List Line
  pub early : List Member
  pub late : List Member
  pub members_are : class.members ≡ early ++ late
  pub lines_are : lines ≡ front ++ class_so_far early late class
  pub declares : DeclaresIn side b front
  pub no_commands : b.commands ≡ []
  pub noted : class.stored ≡ true → list_any (bytes_eq (codes "data")) in_class ≡ true

pub record SaysClass (side : Side) (in_class : List (List ℕ)) (b : Building) (lines : List Line) : Type 0 where
  pub class : ClassDef
  pub unfinished_is : b.unfinished ≡ OfClass class
  pub opened : OpenClass side class in_class b lines

pub record SaysMember (side : Side) (in_class : List (List ℕ)) (b : Building) (lines : List Line) : Type 0 where
  pub class : ClassDef
  pub member : Member
  pub before : List Line
  pub unfinished_is : b.unfinished ≡ OfMember class member
  pub opened : OpenClass side class in_class b before
  pub lines_are : lines ≡ before ++ (member_opening member ∷ map action_line (member_body member))

pub record SaysHandler (side : Side) (b : Building) (lines : List Line) : Type 0 where
  pub handler : HandlerDef
  pub before : List Line
  pub unfinished_is : b.unfinished ≡ OfHandler handler
  pub declares : DeclaresIn side b before
  pub no_commands : b.commands ≡ []
  pub lines_are : lines ≡ before ++ ((codes "handler", fields.HandlerWord handler.which ∷ []) ∷ map action_line handler.body)

pub record SaysTask (side : Side) (b : Building) (lines : List Line) : Type 0 where
  pub task : TaskDef
  pub before : List Line
  pub unfinished_is : b.unfinished ≡ OfTask task
  pub declares : DeclaresIn side b before
  pub no_commands : b.commands ≡ []
  pub lines_are : lines ≡ before ++ ((codes "task", text task.name ∷ []) ∷ map action_line task.body)

pub record SaysTop (side : Side) (b : Building) (lines : List Line) : Type 0 where
  pub declares : DeclaresIn side b lines
  pub no_commands : b.commands ≡ []

pub record SaysCommands (side : Side) (b : Building) (lines : List Line) : Type 0 where
  pub before : List Line
  pub declares : DeclaresIn side b before
  pub lines_are : lines ≡ before ++ (alone (codes "do") ∷ map command_line b.commands)

-- what the lines so far say, at this place, where this was declared in the class that was opened last
abbrev pub Says : Side → Place → List (List ℕ) → Building → List Line → Type 0
Says side Head in_class b lines = (lines ≡ []) × (b ≡ at_start)
Says side Top in_class b lines = SaysTop side b lines
Says side Class in_class b lines = SaysClass side in_class b lines
Says side MemberBody in_class b lines = SaysMember side in_class b lines
Says side Body in_class b lines = SaysHandler side b lines ⊎ SaysTask side b lines
Says side Commands in_class b lines = SaysCommands side b lines
