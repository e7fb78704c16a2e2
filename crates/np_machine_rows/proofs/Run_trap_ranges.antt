-- Made by tools/vector-theorems of tests/vectors/trap-ranges.
use Rattle.std.proofs.Common.{◌≡◌, pos, negsuc, [], ◌∷◌, refl, true, false}
use Rattle.std.specs.Prelude.{codes}
use Rattle.std.specs.Char.{encode_utf8}
use Rattle.std.specs.Fmt.{digits}
use Rattle.std.specs.Str.{is_utf8, chars}
use Rattle.np_values.specs.declared.error.NpError.TheVariants.{NoError}
use Rattle.np_values.specs.declared.handler.Handler.TheVariants as handlers
use Rattle.np_values.specs.declared.value.Value.TheVariants as values
use Rattle.np_values.specs.Text.{is_text}
use Rattle.np_idents.specs.declared.key.IdKey.TheVariants.{Str}
use Rattle.np_script_grammar.specs.declared.action.Action.TheVariants as actions
use Rattle.np_script_grammar.specs.declared.action.Operand.TheVariants.{Reg, Const}
use Rattle.np_script_grammar.specs.declared.class.Member.TheVariants as members
use Rattle.np_script_grammar.specs.declared.command.Command.TheVariants as commands
use Rattle.np_script_grammar.specs.declared.page.Page.{Page}
use Rattle.np_script_grammar.specs.declared.plugin.Plugin.{Plugin}
use Rattle.np_message.specs.Encoding.{encoding}
use Rattle.np_journal.specs.declared.line.Line.TheVariants.{HandlerRun, Noted, StreamAnswered, CommandResult}
use Rattle.np_journal.specs.declared.printed.Printed.TheVariants as results
use Rattle.np_journal.specs.declared.streamed.Streamed.TheVariants as streams
use Rattle.np_machine_plans.specs.Outcomes.{resource, outcome}

abbrev page : Page
page = record {
  major = 0;
  minor = 27;
  classes = (
      (record {
        name = codes "Window";
        version = 3;
        stored = false;
        members = (
            members.Method (Str (codes "kill")) (actions.Destroy 0 1 ∷ []) ∷ []);
      }) ∷ []);
  resources = (
      resource (codes "u") (codes "t/p") 3 (codes "abc") ∷ []);
  commands = (
      commands.Create (codes "t/x") 1 [] ∷
      commands.Pump 1 ∷
      commands.Scriptable 0 1 ∷
      commands.Pump 20 ∷ []);
}

abbrev plugin : Plugin
plugin = record {
  major = 0;
  minor = 27;
  classes = [];
  handlers = (
      (record { which = handlers.NewStream; body = (actions.Return (Const (values.Int (pos 2))) ∷ []) }) ∷
      (record { which = handlers.WriteReady; body = (actions.Return (Const (values.Int (pos 2))) ∷ []) }) ∷
      (record { which = handlers.New; body = (actions.GetUrl 1 (Const (values.Text (codes "u"))) (pos 1) ∷ []) }) ∷
      (record { which = handlers.Scriptable; body = (actions.RequestRead 1 (Const (values.Int (pos 1))) ((record { offset = negsuc 3; length = 9 }) ∷ (record { offset = pos 0; length = 3 }) ∷ []) ∷ actions.Note (Reg 1) ∷ actions.RequestRead 1 (Const (values.Int (pos 1))) ((record { offset = negsuc 9; length = 1 }) ∷ []) ∷ actions.Note (Reg 1) ∷ actions.RequestRead 1 (Const (values.Int (pos 1))) ((record { offset = pos 0; length = 0 }) ∷ []) ∷ actions.Note (Reg 1) ∷ actions.RequestRead 1 (Const (values.Int (pos 2))) ((record { offset = pos 0; length = 1 }) ∷ []) ∷ actions.Note (Reg 1) ∷ actions.RequestRead 1 (Const (values.Int (pos 0))) ((record { offset = pos 0; length = 1 }) ∷ []) ∷ actions.Note (Reg 1) ∷ []) }) ∷ []);
  tasks = [];
}

-- the run of both
both-end : outcome 1500 page plugin ≡ record {
  page = (
      CommandResult 1 (results.Code NoError) ∷
      StreamAnswered 1 (streams.New (pos 2)) ∷
      CommandResult 2 (results.Pumped 1) ∷
      CommandResult 3 results.No ∷
      StreamAnswered 1 (streams.Ready (pos 2)) ∷
      StreamAnswered 1 (streams.Write 5 2 (pos 2)) ∷
      StreamAnswered 1 (streams.Ready (pos 2)) ∷
      StreamAnswered 1 (streams.Write 7 2 (pos 2)) ∷
      StreamAnswered 1 (streams.Ready (pos 2)) ∷
      StreamAnswered 1 (streams.Write 0 2 (pos 2)) ∷
      StreamAnswered 1 (streams.Ready (pos 2)) ∷
      StreamAnswered 1 (streams.Write 2 1 (pos 1)) ∷
      CommandResult 4 (results.Pumped 8) ∷ []);
  plugin = (
      HandlerRun 1 handlers.New ∷
      HandlerRun 1 handlers.NewStream ∷
      HandlerRun 1 handlers.Scriptable ∷
      Noted (values.Int (pos 0)) false ∷
      Noted (values.Int (pos 9)) false ∷
      Noted (values.Int (pos 9)) false ∷
      Noted (values.Int (pos 9)) false ∷
      Noted (values.Int (pos 9)) false ∷
      HandlerRun 1 handlers.WriteReady ∷
      HandlerRun 1 handlers.WriteReady ∷
      HandlerRun 1 handlers.WriteReady ∷
      HandlerRun 1 handlers.WriteReady ∷ []);
  files = [];
  rests = true;
}
unfolding encoding digits is_text is_utf8 chars encode_utf8
both-end = refl
