use Rattle.std.proofs.Common.{◌≡◌, drop}
use Rattle.np_model_scripts.specs.Served.{served_commands}
use Rattle.np_model_scripts.proofs.CommandLists.{with_front}
use Rattle.np_model_scripts.proofs.page.served_commands.Given as goal

abbrev pub invariant-loop-command : goal.invariant-loop-command
invariant-loop-command l = served_commands l.commands ≡ with_front l.served (served_commands (drop l.command-index l.commands))
