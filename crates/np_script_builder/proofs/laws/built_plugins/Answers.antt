use Rattle.np_script_builder.proofs.Forward.{built_plugins}
use Rattle.np_script_builder.proofs.laws.built_plugins.Goals as goal

pub returns : goal.returns
returns c = record { law = built_plugins (record { say_actions = c.lines_say_actions.ensures.law; were_actions = c.actions_were_lines.ensures.law; say_commands = c.lines_say_commands.ensures.law; were_commands = c.commands_were_lines.ensures.law }) }
