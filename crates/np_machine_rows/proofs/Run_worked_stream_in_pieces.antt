-- Made by tools/vector-theorems of tests/vectors/worked-stream-in-pieces.
use Rattle.std.proofs.Common.{◌≡◌, pos, [], ◌∷◌, refl, true}
use Rattle.std.specs.Prelude.{codes}
use Rattle.std.specs.Char.{encode_utf8}
use Rattle.std.specs.Fmt.{digits}
use Rattle.std.specs.Str.{is_utf8, chars}
use Rattle.np_values.specs.declared.error.NpError.TheVariants.{NoError}
use Rattle.np_values.specs.declared.handler.Handler.TheVariants as handlers
use Rattle.np_values.specs.declared.reason.NpReason.TheVariants as reasons
use Rattle.np_values.specs.declared.value.Value.TheVariants as values
use Rattle.np_values.specs.Text.{is_text}
use Rattle.np_script_grammar.specs.declared.action.Action.TheVariants as actions
use Rattle.np_script_grammar.specs.declared.action.Operand.TheVariants.{Reg, Const}
use Rattle.np_script_grammar.specs.declared.command.Command.TheVariants as commands
use Rattle.np_script_grammar.specs.declared.page.Page.{Page}
use Rattle.np_script_grammar.specs.declared.plugin.Plugin.{Plugin}
use Rattle.np_message.specs.Encoding.{encoding}
use Rattle.np_journal.specs.declared.line.Line.TheVariants.{HandlerRun, StreamAnswered, CommandResult}
use Rattle.np_journal.specs.declared.printed.Printed.TheVariants as results
use Rattle.np_journal.specs.declared.streamed.Streamed.TheVariants as streams
use Rattle.np_machine_plans.specs.Outcomes.{resource, outcome}

abbrev page : Page
page = record {
  major = 0;
  minor = 27;
  classes = [];
  resources = (
      resource (codes "u") (codes "t/p") 2000 (codes "0123456789") ∷ []);
  commands = (
      commands.Create (codes "t/x") 1 [] ∷
      commands.OpenStream 1 (codes "u") ∷
      commands.Pump 20 ∷ []);
}

abbrev plugin : Plugin
plugin = record {
  major = 0;
  minor = 27;
  classes = [];
  handlers = (
      (record { which = handlers.WriteReady; body = (actions.Load 1 3 ∷ actions.OnEq (Reg 1) (Const values.Void) 2 ∷ actions.Slot 3 (Const (values.Int (pos 1))) ∷ actions.Return (Const (values.Int (pos 100))) ∷ actions.OnEq (Reg 1) (Const (values.Int (pos 1))) 2 ∷ actions.Slot 3 (Const (values.Int (pos 2))) ∷ actions.Return (Const (values.Int (pos 0))) ∷ actions.Return (Const (values.Int (pos 2147483647))) ∷ []) }) ∷
      (record { which = handlers.Write; body = (actions.Load 5 4 ∷ actions.OnEq (Reg 5) (Const values.Void) 2 ∷ actions.Slot 4 (Const (values.Int (pos 1))) ∷ actions.Return (Const (values.Int (pos 40))) ∷ actions.Return (Reg 2) ∷ []) }) ∷ []);
  tasks = [];
}

-- the run of both
both-end : outcome 1500 page plugin ≡ record {
  page = (
      CommandResult 1 (results.Code NoError) ∷
      CommandResult 2 (results.Code NoError) ∷
      StreamAnswered 1 (streams.New (pos 1)) ∷
      StreamAnswered 1 (streams.Ready (pos 100)) ∷
      StreamAnswered 1 (streams.Write 0 100 (pos 40)) ∷
      StreamAnswered 1 (streams.Ready (pos 0)) ∷
      StreamAnswered 1 (streams.Ready (pos 2147483647)) ∷
      StreamAnswered 1 (streams.Write 40 8192 (pos 8192)) ∷
      StreamAnswered 1 (streams.Ready (pos 2147483647)) ∷
      StreamAnswered 1 (streams.Write 8232 8192 (pos 8192)) ∷
      StreamAnswered 1 (streams.Ready (pos 2147483647)) ∷
      StreamAnswered 1 (streams.Write 16424 3576 (pos 3576)) ∷
      StreamAnswered 1 (streams.Destroy reasons.Done) ∷
      CommandResult 3 (results.Pumped 11) ∷ []);
  plugin = (
      HandlerRun 1 handlers.WriteReady ∷
      HandlerRun 1 handlers.Write ∷
      HandlerRun 1 handlers.WriteReady ∷
      HandlerRun 1 handlers.WriteReady ∷
      HandlerRun 1 handlers.Write ∷
      HandlerRun 1 handlers.WriteReady ∷
      HandlerRun 1 handlers.Write ∷
      HandlerRun 1 handlers.WriteReady ∷
      HandlerRun 1 handlers.Write ∷ []);
  files = [];
  rests = true;
}
unfolding encoding digits is_text is_utf8 chars encode_utf8
both-end = refl
