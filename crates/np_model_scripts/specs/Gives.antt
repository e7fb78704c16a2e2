-- What a call gives, unless memory ran out.
use Rattle.std.specs.Prelude.{◌≡◌, List, Option, Result, Ok, Err}
use Rattle.np_values.specs.declared.memory.NoMemory.{NoMemory}
use Rattle.np_script_grammar.specs.declared.command.Command.{Command as ScriptCommand}
use Rattle.np_script_grammar.specs.declared.page.Page.{Page as PageScript}
use Rattle.np_model.specs.declared.script.Command.{Command}
use Rattle.np_model.specs.declared.script.Page.{Page}
use Rattle.np_model_scripts.specs.Served.{served_command, served_commands, served_page}

abbrev pub GivesCommand : Result (Option Command) NoMemory → ScriptCommand → Type 0
GivesCommand (Ok given) command = served_command command ≡ given
GivesCommand (Err e) command = Unit {0}

abbrev pub GivesCommands : Result (Option (List Command)) NoMemory → List ScriptCommand → Type 0
GivesCommands (Ok given) commands = served_commands commands ≡ given
GivesCommands (Err e) commands = Unit {0}

abbrev pub GivesPage : Result (Option Page) NoMemory → PageScript → Type 0
GivesPage (Ok given) script = served_page script ≡ given
GivesPage (Err e) script = Unit {0}
