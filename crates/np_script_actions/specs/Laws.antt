-- What the rows of actions and commands promise of lines and what they say.
use Rattle.std.specs.Prelude.{◌≡◌, ℕ, List, Some}
use Rattle.np_values.specs.declared.name.Side.{Side}
use Rattle.np_script_grammar.specs.declared.action.Action.{Action}
use Rattle.np_script_grammar.specs.declared.command.Command.{Command}
use Rattle.np_script_grammar.specs.declared.line.Field.{Field}
use Rattle.np_script_grammar.specs.Forms.{Line, IsOf}
use Rattle.np_script_grammar.specs.Tables.{action_table, command_table}
use Rattle.np_script_grammar.specs.Rows.{action_line, command_line}
use Rattle.np_script_actions.specs.Actions.{action_of}
use Rattle.np_script_actions.specs.Commands.{command_of}

-- A line of a side's table of actions says an action.
abbrev pub LinesSayActions : Type 0
LinesSayActions = (side : Side) (line : Line) → IsOf (action_table side) line → (action : Action) × (action_of line.0 line.1 ≡ Some action)

-- What is read as an action was that action's line.
abbrev pub ActionsWereLines : Type 0
ActionsWereLines = (word : List ℕ) (fields : List Field) (action : Action) → action_of word fields ≡ Some action → action_line action ≡ (word, fields)

-- An action's line is read as that action, where a side may have it.
abbrev pub ActionsAreRead : Type 0
ActionsAreRead = (side : Side) (action : Action) → IsOf (action_table side) (action_line action) → action_of (action_line action).0 (action_line action).1 ≡ Some action

-- The same of commands.
abbrev pub LinesSayCommands : Type 0
LinesSayCommands = (line : Line) → IsOf command_table line → (command : Command) × (command_of line.0 line.1 ≡ Some command)

abbrev pub CommandsWereLines : Type 0
CommandsWereLines = (word : List ℕ) (fields : List Field) (command : Command) → command_of word fields ≡ Some command → command_line command ≡ (word, fields)

abbrev pub CommandsAreRead : Type 0
CommandsAreRead = (command : Command) → IsOf command_table (command_line command) → command_of (command_line command).0 (command_line command).1 ≡ Some command
