-- What the rows of actions and commands promise, as the laws of np_script_actions.
use Rattle.np_script_actions.specs.Laws.{LinesSayActions, ActionsWereLines, ActionsAreRead, LinesSayCommands, CommandsWereLines, CommandsAreRead}

-- a line of a table says something, whose line it was
pub record LinesSay : Type 0 where
  pub say_actions : LinesSayActions
  pub were_actions : ActionsWereLines
  pub say_commands : LinesSayCommands
  pub were_commands : CommandsWereLines

-- the line of an action, and of a command, is read as it
pub record AreRead : Type 0 where
  pub actions : ActionsAreRead
  pub commands : CommandsAreRead
