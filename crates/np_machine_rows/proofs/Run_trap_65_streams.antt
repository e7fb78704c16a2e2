-- Made by tools/vector-theorems of tests/vectors/trap-65-streams.
use Rattle.std.proofs.Common.{◌≡◌, pos, [], ◌∷◌, refl, true}
use Rattle.std.specs.Prelude.{codes}
use Rattle.std.specs.Char.{encode_utf8}
use Rattle.std.specs.Fmt.{digits}
use Rattle.std.specs.Str.{is_utf8, chars}
use Rattle.np_values.specs.declared.error.NpError.TheVariants.{NoError, Generic, InvalidUrl}
use Rattle.np_values.specs.Text.{is_text}
use Rattle.np_script_grammar.specs.declared.command.Command.TheVariants as commands
use Rattle.np_script_grammar.specs.declared.page.Page.{Page}
use Rattle.np_script_grammar.specs.declared.plugin.Plugin.{Plugin}
use Rattle.np_message.specs.Encoding.{encoding}
use Rattle.np_journal.specs.declared.line.Line.TheVariants.{StreamAnswered, CommandResult}
use Rattle.np_journal.specs.declared.printed.Printed.TheVariants as results
use Rattle.np_journal.specs.declared.streamed.Streamed.TheVariants as streams
use Rattle.np_machine_plans.specs.Outcomes.{resource, outcome}

abbrev page : Page
page = record {
  major = 0;
  minor = 27;
  classes = [];
  resources = (
      resource (codes "u") (codes "t/p") 1 (codes "abc") ∷ []);
  commands = (
      commands.Create (codes "t/x") 1 [] ∷
      commands.OpenStream 1 (codes "v") ∷
      commands.OpenStream 1 (codes "u") ∷
      commands.OpenStream 1 (codes "u") ∷
      commands.OpenStream 1 (codes "u") ∷
      commands.OpenStream 1 (codes "u") ∷
      commands.OpenStream 1 (codes "u") ∷
      commands.OpenStream 1 (codes "u") ∷
      commands.OpenStream 1 (codes "u") ∷
      commands.OpenStream 1 (codes "u") ∷
      commands.OpenStream 1 (codes "u") ∷
      commands.OpenStream 1 (codes "u") ∷
      commands.OpenStream 1 (codes "u") ∷
      commands.OpenStream 1 (codes "u") ∷
      commands.OpenStream 1 (codes "u") ∷
      commands.OpenStream 1 (codes "u") ∷
      commands.OpenStream 1 (codes "u") ∷
      commands.OpenStream 1 (codes "u") ∷
      commands.OpenStream 1 (codes "u") ∷
      commands.OpenStream 1 (codes "u") ∷
      commands.OpenStream 1 (codes "u") ∷
      commands.OpenStream 1 (codes "u") ∷
      commands.OpenStream 1 (codes "u") ∷
      commands.OpenStream 1 (codes "u") ∷
      commands.OpenStream 1 (codes "u") ∷
      commands.OpenStream 1 (codes "u") ∷
      commands.OpenStream 1 (codes "u") ∷
      commands.OpenStream 1 (codes "u") ∷
      commands.OpenStream 1 (codes "u") ∷
      commands.OpenStream 1 (codes "u") ∷
      commands.OpenStream 1 (codes "u") ∷
      commands.OpenStream 1 (codes "u") ∷
      commands.OpenStream 1 (codes "u") ∷
      commands.OpenStream 1 (codes "u") ∷
      commands.OpenStream 1 (codes "u") ∷
      commands.OpenStream 1 (codes "u") ∷
      commands.OpenStream 1 (codes "u") ∷
      commands.OpenStream 1 (codes "u") ∷
      commands.OpenStream 1 (codes "u") ∷
      commands.OpenStream 1 (codes "u") ∷
      commands.OpenStream 1 (codes "u") ∷
      commands.OpenStream 1 (codes "u") ∷
      commands.OpenStream 1 (codes "u") ∷
      commands.OpenStream 1 (codes "u") ∷
      commands.OpenStream 1 (codes "u") ∷
      commands.OpenStream 1 (codes "u") ∷
      commands.OpenStream 1 (codes "u") ∷
      commands.OpenStream 1 (codes "u") ∷
      commands.OpenStream 1 (codes "u") ∷
      commands.OpenStream 1 (codes "u") ∷
      commands.OpenStream 1 (codes "u") ∷
      commands.OpenStream 1 (codes "u") ∷
      commands.OpenStream 1 (codes "u") ∷
      commands.OpenStream 1 (codes "u") ∷
      commands.OpenStream 1 (codes "u") ∷
      commands.OpenStream 1 (codes "u") ∷
      commands.OpenStream 1 (codes "u") ∷
      commands.OpenStream 1 (codes "u") ∷
      commands.OpenStream 1 (codes "u") ∷
      commands.OpenStream 1 (codes "u") ∷
      commands.OpenStream 1 (codes "u") ∷
      commands.OpenStream 1 (codes "u") ∷
      commands.OpenStream 1 (codes "u") ∷
      commands.OpenStream 1 (codes "u") ∷
      commands.OpenStream 1 (codes "u") ∷
      commands.OpenStream 1 (codes "u") ∷
      commands.OpenStream 1 (codes "u") ∷
      commands.Pump 1 ∷ []);
}

abbrev plugin : Plugin
plugin = record {
  major = 0;
  minor = 27;
  classes = [];
  handlers = [];
  tasks = [];
}

-- the run of both
both-end : outcome 1500 page plugin ≡ record {
  page = (
      CommandResult 1 (results.Code NoError) ∷
      CommandResult 2 (results.Code InvalidUrl) ∷
      CommandResult 3 (results.Code NoError) ∷
      CommandResult 4 (results.Code NoError) ∷
      CommandResult 5 (results.Code NoError) ∷
      CommandResult 6 (results.Code NoError) ∷
      CommandResult 7 (results.Code NoError) ∷
      CommandResult 8 (results.Code NoError) ∷
      CommandResult 9 (results.Code NoError) ∷
      CommandResult 10 (results.Code NoError) ∷
      CommandResult 11 (results.Code NoError) ∷
      CommandResult 12 (results.Code NoError) ∷
      CommandResult 13 (results.Code NoError) ∷
      CommandResult 14 (results.Code NoError) ∷
      CommandResult 15 (results.Code NoError) ∷
      CommandResult 16 (results.Code NoError) ∷
      CommandResult 17 (results.Code NoError) ∷
      CommandResult 18 (results.Code NoError) ∷
      CommandResult 19 (results.Code NoError) ∷
      CommandResult 20 (results.Code NoError) ∷
      CommandResult 21 (results.Code NoError) ∷
      CommandResult 22 (results.Code NoError) ∷
      CommandResult 23 (results.Code NoError) ∷
      CommandResult 24 (results.Code NoError) ∷
      CommandResult 25 (results.Code NoError) ∷
      CommandResult 26 (results.Code NoError) ∷
      CommandResult 27 (results.Code NoError) ∷
      CommandResult 28 (results.Code NoError) ∷
      CommandResult 29 (results.Code NoError) ∷
      CommandResult 30 (results.Code NoError) ∷
      CommandResult 31 (results.Code NoError) ∷
      CommandResult 32 (results.Code NoError) ∷
      CommandResult 33 (results.Code NoError) ∷
      CommandResult 34 (results.Code NoError) ∷
      CommandResult 35 (results.Code NoError) ∷
      CommandResult 36 (results.Code NoError) ∷
      CommandResult 37 (results.Code NoError) ∷
      CommandResult 38 (results.Code NoError) ∷
      CommandResult 39 (results.Code NoError) ∷
      CommandResult 40 (results.Code NoError) ∷
      CommandResult 41 (results.Code NoError) ∷
      CommandResult 42 (results.Code NoError) ∷
      CommandResult 43 (results.Code NoError) ∷
      CommandResult 44 (results.Code NoError) ∷
      CommandResult 45 (results.Code NoError) ∷
      CommandResult 46 (results.Code NoError) ∷
      CommandResult 47 (results.Code NoError) ∷
      CommandResult 48 (results.Code NoError) ∷
      CommandResult 49 (results.Code NoError) ∷
      CommandResult 50 (results.Code NoError) ∷
      CommandResult 51 (results.Code NoError) ∷
      CommandResult 52 (results.Code NoError) ∷
      CommandResult 53 (results.Code NoError) ∷
      CommandResult 54 (results.Code NoError) ∷
      CommandResult 55 (results.Code NoError) ∷
      CommandResult 56 (results.Code NoError) ∷
      CommandResult 57 (results.Code NoError) ∷
      CommandResult 58 (results.Code NoError) ∷
      CommandResult 59 (results.Code NoError) ∷
      CommandResult 60 (results.Code NoError) ∷
      CommandResult 61 (results.Code NoError) ∷
      CommandResult 62 (results.Code NoError) ∷
      CommandResult 63 (results.Code NoError) ∷
      CommandResult 64 (results.Code NoError) ∷
      CommandResult 65 (results.Code NoError) ∷
      CommandResult 66 (results.Code NoError) ∷
      CommandResult 67 (results.Code Generic) ∷
      StreamAnswered 1 (streams.New (pos 1)) ∷
      CommandResult 68 (results.Pumped 1) ∷ []);
  plugin = [];
  files = [];
  rests = true;
}
unfolding encoding digits is_text is_utf8 chars encode_utf8
both-end = refl
