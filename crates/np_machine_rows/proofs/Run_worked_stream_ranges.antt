-- Made by tools/vector-theorems of tests/vectors/worked-stream-ranges.
use Rattle.std.proofs.Common.{◌≡◌, pos, negsuc, [], ◌∷◌, refl, true, false}
use Rattle.std.specs.Prelude.{codes}
use Rattle.std.specs.Char.{encode_utf8}
use Rattle.std.specs.Fmt.{digits}
use Rattle.std.specs.Str.{is_utf8, chars}
use Rattle.np_values.specs.declared.error.NpError.TheVariants.{NoError}
use Rattle.np_values.specs.declared.handler.Handler.TheVariants as handlers
use Rattle.np_values.specs.declared.name.Side.TheVariants as sides
use Rattle.np_values.specs.declared.value.Value.TheVariants as values
use Rattle.np_values.specs.Text.{is_text}
use Rattle.np_idents.specs.declared.key.IdKey.TheVariants.{Str}
use Rattle.np_idents.specs.declared.op.Op.TheVariants as ops
use Rattle.np_script_grammar.specs.declared.action.Action.TheVariants as actions
use Rattle.np_script_grammar.specs.declared.action.Operand.TheVariants.{Reg, Const}
use Rattle.np_script_grammar.specs.declared.class.Member.TheVariants as members
use Rattle.np_script_grammar.specs.declared.command.Command.TheVariants as commands
use Rattle.np_script_grammar.specs.declared.page.Page.{Page}
use Rattle.np_script_grammar.specs.declared.plugin.Plugin.{Plugin}
use Rattle.np_message.specs.Encoding.{encoding}
use Rattle.np_journal.specs.declared.line.Line.TheVariants.{Created, Entered, HandlerRun, ProxyGone, Invalidated, Deallocated, Noted, StreamAnswered, CommandResult}
use Rattle.np_journal.specs.declared.printed.Printed.TheVariants as results
use Rattle.np_journal.specs.declared.streamed.Streamed.TheVariants as streams
use Rattle.np_machine_plans.specs.Outcomes.{resource, outcome}

abbrev page : Page
page = record {
  major = 0;
  minor = 27;
  classes = [];
  resources = (
      resource (codes "s") (codes "t/p") 1 (codes "abcdefghijkl") ∷
      resource (codes "u") (codes "t/p") 1 (codes "abcdefghijkl") ∷ []);
  commands = (
      commands.Create (codes "t/x") 1 [] ∷
      commands.Scriptable 0 1 ∷
      commands.OpenStream 1 (codes "s") ∷
      commands.OpenStream 1 (codes "u") ∷
      commands.Pump 2 ∷
      commands.Invoke 1 (Reg 0) (Str (codes "ask")) (Const (values.Int (pos 1)) ∷ []) ∷
      commands.Invoke 1 (Reg 0) (Str (codes "ask")) (Const (values.Int (pos 2)) ∷ []) ∷
      commands.Pump 2 ∷ []);
}

abbrev plugin : Plugin
plugin = record {
  major = 0;
  minor = 27;
  classes = (
      (record {
        name = codes "Main";
        version = 3;
        stored = false;
        members = (
            members.Method (Str (codes "ask")) (actions.RequestRead 1 (Reg 0) ((record { offset = negsuc 4; length = 10 }) ∷ []) ∷ actions.Return (Reg 1) ∷ []) ∷ []);
      }) ∷ []);
  handlers = (
      (record { which = handlers.New; body = (actions.New 0 (codes "Main") ∷ actions.Slot 0 (Reg 0) ∷ []) }) ∷
      (record { which = handlers.Scriptable; body = (actions.Load 0 0 ∷ actions.Return (Reg 0) ∷ []) }) ∷
      (record { which = handlers.NewStream; body = (actions.OnEq (Reg 1) (Const (values.Text (codes "s"))) 1 ∷ actions.Return (Const (values.Int (pos 2))) ∷ actions.Return (Const (values.Int (pos 1))) ∷ []) }) ∷
      (record { which = handlers.Write; body = (actions.Note (Reg 3) ∷ []) }) ∷ []);
  tasks = [];
}

-- the run of both
both-end : outcome 1500 page plugin ≡ record {
  page = (
      CommandResult 1 (results.Code NoError) ∷
      CommandResult 2 (results.Yes (values.Object (record { side = sides.Plug; instance = 1; serial = 1 })) false) ∷
      CommandResult 3 (results.Code NoError) ∷
      CommandResult 4 (results.Code NoError) ∷
      StreamAnswered 1 (streams.New (pos 2)) ∷
      StreamAnswered 2 (streams.New (pos 1)) ∷
      CommandResult 5 (results.Pumped 2) ∷
      CommandResult 6 (results.Yes (values.Int (pos 0)) false) ∷
      CommandResult 7 (results.Yes (values.Int (pos 13)) false) ∷
      StreamAnswered 1 (streams.Ready (pos 2147483647)) ∷
      StreamAnswered 1 (streams.Write 7 5 (pos 5)) ∷
      CommandResult 8 (results.Pumped 2) ∷
      ProxyGone (record { side = sides.Plug; instance = 1; serial = 1 }) ∷ []);
  plugin = (
      HandlerRun 1 handlers.New ∷
      Created (record { side = sides.Plug; instance = 1; serial = 1 }) ∷
      HandlerRun 1 handlers.Scriptable ∷
      HandlerRun 1 handlers.NewStream ∷
      HandlerRun 1 handlers.NewStream ∷
      Entered (record { side = sides.Plug; instance = 1; serial = 1 }) (ops.Invoke (Str (codes "ask"))) ∷
      Entered (record { side = sides.Plug; instance = 1; serial = 1 }) (ops.Invoke (Str (codes "ask"))) ∷
      HandlerRun 1 handlers.Write ∷
      Noted (values.Text (codes "hijkl")) false ∷
      Invalidated (record { side = sides.Plug; instance = 1; serial = 1 }) ∷
      Deallocated (record { side = sides.Plug; instance = 1; serial = 1 }) ∷ []);
  files = [];
  rests = true;
}
unfolding encoding digits is_text is_utf8 chars encode_utf8
both-end = refl
