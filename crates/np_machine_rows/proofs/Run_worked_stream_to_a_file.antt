-- Made by tools/vector-theorems of tests/vectors/worked-stream-to-a-file.
use Rattle.std.proofs.Common.{◌≡◌, pos, [], ◌∷◌, refl, true}
use Rattle.std.specs.Prelude.{codes}
use Rattle.std.specs.Char.{encode_utf8}
use Rattle.std.specs.Fmt.{digits}
use Rattle.std.specs.Str.{is_utf8, chars}
use Rattle.np_values.specs.declared.error.NpError.TheVariants.{NoError}
use Rattle.np_values.specs.declared.handler.Handler.TheVariants as handlers
use Rattle.np_values.specs.declared.reason.NpReason.TheVariants as reasons
use Rattle.np_values.specs.declared.value.Value.TheVariants as values
use Rattle.np_values.specs.Text.{is_text}
use Rattle.np_script_grammar.specs.declared.action.Action.TheVariants as actions
use Rattle.np_script_grammar.specs.declared.action.Operand.TheVariants.{Const}
use Rattle.np_script_grammar.specs.declared.command.Command.TheVariants as commands
use Rattle.np_script_grammar.specs.declared.page.Page.{Page}
use Rattle.np_script_grammar.specs.declared.plugin.Plugin.{Plugin}
use Rattle.np_message.specs.Encoding.{encoding}
use Rattle.np_journal.specs.declared.line.Line.TheVariants.{HandlerRun, StreamAnswered, CommandResult}
use Rattle.np_journal.specs.declared.printed.Printed.TheVariants as results
use Rattle.np_journal.specs.declared.streamed.Streamed.TheVariants as streams
use Rattle.np_machine_plans.specs.Outcomes.{resource, outcome}

abbrev page : Page
page = record {
  major = 0;
  minor = 27;
  classes = [];
  resources = (
      resource (codes "u") (codes "t/p") 1 (codes "abc") ∷ []);
  commands = (
      commands.Create (codes "t/x") 1 [] ∷
      commands.OpenStream 1 (codes "u") ∷
      commands.Pump 9 ∷ []);
}

abbrev plugin : Plugin
plugin = record {
  major = 0;
  minor = 27;
  classes = [];
  handlers = (
      (record { which = handlers.NewStream; body = (actions.Return (Const (values.Int (pos 3))) ∷ []) }) ∷ []);
  tasks = [];
}

-- the run of both
both-end : outcome 1500 page plugin ≡ record {
  page = (
      CommandResult 1 (results.Code NoError) ∷
      CommandResult 2 (results.Code NoError) ∷
      StreamAnswered 1 (streams.New (pos 3)) ∷
      StreamAnswered 1 (streams.Ready (pos 2147483647)) ∷
      StreamAnswered 1 (streams.Write 0 3 (pos 3)) ∷
      StreamAnswered 1 streams.File ∷
      StreamAnswered 1 (streams.Destroy reasons.Done) ∷
      CommandResult 3 (results.Pumped 5) ∷ []);
  plugin = (
      HandlerRun 1 handlers.NewStream ∷ []);
  files = ((record { stream = 1; resource = 0 }) ∷ []);
  rests = true;
}
unfolding encoding digits is_text is_utf8 chars encode_utf8
both-end = refl
