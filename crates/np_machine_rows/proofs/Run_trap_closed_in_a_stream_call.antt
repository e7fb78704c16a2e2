-- Made by tools/vector-theorems of tests/vectors/trap-closed-in-a-stream-call.
use Rattle.std.proofs.Common.{◌≡◌, pos, [], ◌∷◌, refl, true, false}
use Rattle.std.specs.Prelude.{codes}
use Rattle.std.specs.Char.{encode_utf8}
use Rattle.std.specs.Fmt.{digits}
use Rattle.std.specs.Str.{is_utf8, chars}
use Rattle.np_values.specs.declared.error.NpError.TheVariants.{NoError}
use Rattle.np_values.specs.declared.handler.Handler.TheVariants as handlers
use Rattle.np_values.specs.declared.reason.NpReason.TheVariants as reasons
use Rattle.np_values.specs.declared.value.Value.TheVariants as values
use Rattle.np_values.specs.Text.{is_text}
use Rattle.np_idents.specs.declared.key.IdKey.TheVariants.{Str}
use Rattle.np_script_grammar.specs.declared.action.Action.TheVariants as actions
use Rattle.np_script_grammar.specs.declared.action.Operand.TheVariants.{Reg, Const}
use Rattle.np_script_grammar.specs.declared.class.Member.TheVariants as members
use Rattle.np_script_grammar.specs.declared.command.Command.TheVariants as commands
use Rattle.np_script_grammar.specs.declared.page.Page.{Page}
use Rattle.np_script_grammar.specs.declared.plugin.Plugin.{Plugin}
use Rattle.np_message.specs.Encoding.{encoding}
use Rattle.np_journal.specs.declared.line.Line.TheVariants.{HandlerRun, Noted, StreamAnswered, CommandResult}
use Rattle.np_journal.specs.declared.printed.Printed.TheVariants as results
use Rattle.np_journal.specs.declared.streamed.Streamed.TheVariants as streams
use Rattle.np_machine_plans.specs.Outcomes.{resource, outcome}

abbrev page : Page
page = record {
  major = 0;
  minor = 27;
  classes = (
      (record {
        name = codes "Window";
        version = 3;
        stored = false;
        members = (
            members.Method (Str (codes "kill")) (actions.Destroy 0 1 ∷ []) ∷ []);
      }) ∷ []);
  resources = (
      resource (codes "u") (codes "t/p") 3 (codes "abc") ∷ []);
  commands = (
      commands.Create (codes "t/x") 1 [] ∷
      commands.OpenStream 1 (codes "u") ∷
      commands.Pump 9 ∷ []);
}

abbrev plugin : Plugin
plugin = record {
  major = 0;
  minor = 27;
  classes = [];
  handlers = (
      (record { which = handlers.WriteReady; body = (actions.EndStream 1 (Reg 0) reasons.UserBreak ∷ actions.Note (Reg 1) ∷ actions.Return (Const (values.Int (pos 5))) ∷ []) }) ∷
      (record { which = handlers.UrlNotify; body = (actions.Note (Reg 1) ∷ []) }) ∷ []);
  tasks = [];
}

-- the run of both
both-end : outcome 1500 page plugin ≡ record {
  page = (
      CommandResult 1 (results.Code NoError) ∷
      CommandResult 2 (results.Code NoError) ∷
      StreamAnswered 1 (streams.New (pos 1)) ∷
      StreamAnswered 1 (streams.Ready (pos 5)) ∷
      StreamAnswered 1 (streams.Destroy reasons.UserBreak) ∷
      CommandResult 3 (results.Pumped 3) ∷ []);
  plugin = (
      HandlerRun 1 handlers.WriteReady ∷
      Noted (values.Int (pos 0)) false ∷ []);
  files = [];
  rests = true;
}
unfolding encoding digits is_text is_utf8 chars encode_utf8
both-end = refl
