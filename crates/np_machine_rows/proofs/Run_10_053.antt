-- Made by tools/vector-theorems of tests/vectors/10-053.
use Rattle.std.proofs.Common.{◌≡◌, pos, negsuc, [], ◌∷◌, refl, true, false, Some, None}
use Rattle.std.specs.Prelude.{codes}
use Rattle.std.specs.Char.{encode_utf8}
use Rattle.std.specs.Fmt.{digits}
use Rattle.std.specs.Str.{is_utf8, chars}
use Rattle.np_values.specs.declared.error.NpError.TheVariants.{NoError, InvalidInstance, ModuleLoadFailed}
use Rattle.np_values.specs.declared.handler.Handler.TheVariants as handlers
use Rattle.np_values.specs.declared.name.Side.TheVariants as sides
use Rattle.np_values.specs.declared.reason.NpReason.TheVariants as reasons
use Rattle.np_values.specs.declared.value.Value.TheVariants as values
use Rattle.np_values.specs.Text.{is_text}
use Rattle.np_idents.specs.declared.key.IdKey.TheVariants.{Str, Int as IntKey}
use Rattle.np_idents.specs.declared.op.Op.TheVariants as ops
use Rattle.np_script_grammar.specs.declared.action.Action.TheVariants as actions
use Rattle.np_script_grammar.specs.declared.action.Operand.TheVariants.{Reg, Const}
use Rattle.np_script_grammar.specs.declared.class.Member.TheVariants as members
use Rattle.np_script_grammar.specs.declared.command.Command.TheVariants as commands
use Rattle.np_script_grammar.specs.declared.page.Page.{Page}
use Rattle.np_script_grammar.specs.declared.plugin.Plugin.{Plugin}
use Rattle.np_message.specs.Encoding.{encoding}
use Rattle.np_journal.specs.declared.line.Line.TheVariants.{Created, Entered, HandlerRun, TaskBegun, ProxyGone, Invalidated, Deallocated, StreamAnswered, CommandResult}
use Rattle.np_journal.specs.declared.printed.Printed.TheVariants as results
use Rattle.np_journal.specs.declared.streamed.Streamed.TheVariants as streams
use Rattle.np_machine_plans.specs.AtOnce.{orderly_along}
use Rattle.np_machine_plans.specs.Outcomes.{resource, outcome, direct_outcome, page_bytes, plugin_bytes, lost_outcome}

abbrev page : Page
page = record {
  major = 0;
  minor = 27;
  classes = (
      (record {
        name = codes "Window";
        version = 2;
        stored = false;
        members = (
            members.Method (Str (codes "m2")) (actions.SelfTo 2 ∷ actions.Load 3 1 ∷ actions.Load 2 0 ∷ actions.Fail ∷ actions.Invoke 3 (Reg 1) (Str (codes "m3")) (Reg 3 ∷ Const (values.Int (pos 14)) ∷ []) ∷ []) ∷
            members.Method (Str (codes "take")) (actions.SelfTo 2 ∷ actions.Load 1 2 ∷ actions.Load 0 0 ∷ actions.Invoke 1 (Reg 2) (Str (codes "none")) (Reg 2 ∷ Const (values.Int (pos 14)) ∷ []) ∷ actions.HasMethod (Reg 3) (Str (codes "take")) ∷ []) ∷
            members.Method (Str (codes "m0")) [] ∷
            members.Method (Str (codes "m1")) (actions.Load 2 0 ∷ actions.New 1 (codes "Window") ∷ actions.New 5 (codes "B") ∷ actions.New 3 (codes "Window") ∷ actions.Construct 4 (Reg 0) (Reg 1 ∷ Reg 1 ∷ Reg 1 ∷ []) ∷ []) ∷
            members.Setter (Str (codes "f0")) (actions.Load 0 2 ∷ []) ∷
            members.Method (IntKey (pos 4)) [] ∷
            members.Method (Str (codes "m3")) (actions.Load 3 1 ∷ actions.New 5 (codes "Window") ∷ actions.New 1 (codes "A") ∷ actions.Load 3 0 ∷ actions.Drop 2 ∷ []) ∷ []);
      }) ∷
      (record {
        name = codes "A";
        version = 3;
        stored = true;
        members = (
            members.Method (Str (codes "m1")) (actions.Put (Reg 3) (Str (codes "f0")) (Reg 1) ∷ actions.Load 2 2 ∷ actions.Invoke 3 (Reg 3) (Str (codes "m3")) (Const (values.Int (pos 2147483647)) ∷ Reg 10 ∷ Reg 2 ∷ []) ∷ actions.Destroy 3 1 ∷ []) ∷
            members.Method (Str (codes "m2")) (actions.SelfTo 2 ∷ actions.New 2 (codes "B") ∷ actions.New 4 (codes "B") ∷ actions.New 1 (codes "A") ∷ actions.Load 2 2 ∷ []) ∷
            members.Method (Str (codes "m3")) (actions.SelfTo 2 ∷ actions.Load 2 2 ∷ actions.New 5 (codes "B") ∷ actions.New 4 (codes "B") ∷ actions.New 1 (codes "Window") ∷ actions.Invoke 3 (Reg 0) (IntKey (pos 4)) (Reg 1 ∷ Reg 1 ∷ []) ∷ []) ∷
            members.Method (Str (codes "m0")) (actions.Slot 1 (Reg 2) ∷ actions.Load 0 2 ∷ actions.Drop 2 ∷ []) ∷
            members.Method (IntKey (pos 4)) (actions.SelfTo 2 ∷ actions.Load 2 0 ∷ actions.Load 1 3 ∷ actions.New 5 (codes "Window") ∷ actions.Put (Reg 2) (Str (codes "f0")) (Reg 3) ∷ []) ∷
            members.Method (Str (codes "take")) (actions.New 1 (codes "Window") ∷ actions.New 4 (codes "Window") ∷ actions.Put (Reg 3) (Str (codes "f0")) (Reg 0) ∷ actions.Invoke 2 (Reg 3) (Str (codes "none")) (Reg 3 ∷ Const values.Void ∷ Reg 0 ∷ []) ∷ []) ∷
            members.Default (actions.Load 3 1 ∷ actions.New 1 (codes "Window") ∷ actions.New 4 (codes "B") ∷ actions.New 5 (codes "B") ∷ actions.Set 3 (Reg 1) ∷ []) ∷ []);
      }) ∷
      (record {
        name = codes "B";
        version = 3;
        stored = true;
        members = (
            members.Method (Str (codes "m1")) (actions.Load 2 0 ∷ actions.Load 1 2 ∷ actions.Load 1 0 ∷ actions.Set 2 (Const (values.Text (codes "r"))) ∷ actions.SelfTo 0 ∷ []) ∷
            members.Default (actions.Load 2 2 ∷ actions.SelfTo 2 ∷ actions.New 3 (codes "A") ∷ actions.New 5 (codes "Window") ∷ actions.New 4 (codes "A") ∷ actions.Slot 3 (Reg 0) ∷ []) ∷
            members.Method (Str (codes "m3")) (actions.SelfTo 2 ∷ actions.Load 2 2 ∷ actions.Throw [] ∷ actions.Invoke 2 (Reg 3) (IntKey (pos 4)) (Reg 2 ∷ Reg 1 ∷ []) ∷ []) ∷
            members.Method (Str (codes "m0")) (actions.SelfTo 2 ∷ actions.Invoke 1 (Reg 3) (Str (codes "take")) (Reg 1 ∷ Reg 2 ∷ Reg 2 ∷ []) ∷ actions.New 5 (codes "Window") ∷ actions.New 2 (codes "B") ∷ actions.Invoke 0 (Reg 0) (Str (codes "take")) (Reg 1 ∷ Reg 3 ∷ Reg 0 ∷ []) ∷ actions.New 2 (codes "Window") ∷ actions.New 4 (codes "A") ∷ actions.New 3 (codes "Window") ∷ actions.New 5 (codes "B") ∷ actions.Put (Reg 4) (IntKey (pos 7)) (Reg 5) ∷ actions.Put (Reg 4) (Str (codes "f1")) (Reg 5) ∷ actions.New 5 (codes "B") ∷ actions.Put (Reg 4) (Str (codes "f0")) (Reg 5) ∷ actions.Drop 5 ∷ actions.Return (Reg 4) ∷ []) ∷
            members.Method (Str (codes "m2")) [] ∷
            members.Method (IntKey (pos 4)) (actions.Load 2 0 ∷ actions.Load 3 1 ∷ actions.Load 0 0 ∷ []) ∷
            members.Method (Str (codes "take")) (actions.New 0 (codes "A") ∷ actions.Return (Reg 1) ∷ []) ∷ []);
      }) ∷ []);
  resources = (
      resource (codes "r") (codes "t/p") 1 (195 ∷ 164 ∷ []) ∷
      resource (codes "s") (codes "t/p") 2000 (195 ∷ 164 ∷ 226 ∷ 130 ∷ 172 ∷ []) ∷
      resource (codes "e") (codes "t/p") 0 (120 ∷ 1 ∷ 34 ∷ []) ∷ []);
  commands = (
      commands.Create (codes "t/x") 2 [] ∷
      commands.Scriptable 0 1 ∷
      commands.New 2 1 (codes "A") ∷
      commands.New 3 1 (codes "A") ∷
      commands.OpenStream 1 (codes "r") ∷
      commands.OpenStream 1 (codes "r") ∷
      commands.OpenStream 1 (codes "r") ∷
      commands.Pump 1 ∷
      commands.Invoke 4 (Reg 0) (Str (codes "m2")) (Reg 5 ∷ Reg 3 ∷ Reg 4 ∷ []) ∷
      commands.Pump 8 ∷
      commands.OpenStream 1 (codes "s") ∷
      commands.Put (Reg 2) (Str (codes "f0")) (Reg 2) ∷
      commands.Pump 2 ∷
      commands.Invoke 5 (Reg 2) (Str (codes "m2")) (Reg 5 ∷ []) ∷
      commands.Drop 5 ∷
      commands.Invoke 4 (Reg 2) (IntKey (pos 4)) [] ∷
      commands.Invoke 5 (Reg 2) (Str (codes "m1")) [] ∷
      commands.Create (codes "t/y") 2 [] ∷
      commands.Scriptable 2 2 ∷
      commands.Pump 4 ∷
      commands.Invoke 5 (Reg 2) (Str (codes "take")) (Reg 5 ∷ Reg 3 ∷ Reg 4 ∷ []) ∷
      commands.Invoke 1 (Reg 4) (Str (codes "take")) (Reg 3 ∷ Reg 0 ∷ Reg 5 ∷ []) ∷
      commands.Pump 8 ∷
      commands.New 5 1 (codes "A") ∷
      commands.Invoke 5 (Reg 1) (Str (codes "m2")) (Reg 0 ∷ []) ∷
      commands.Drop 0 ∷
      commands.Invoke 4 (Reg 1) (IntKey (pos 4)) (Reg 3 ∷ Reg 2 ∷ []) ∷
      commands.Invoke 0 (Reg 1) (Str (codes "m1")) [] ∷
      commands.Pump 5 ∷
      commands.Create (codes "t/y") 2 [] ∷
      commands.Scriptable 1 3 ∷
      commands.OpenStream 2 (codes "s") ∷
      commands.Pump 7 ∷
      commands.OpenStream 1 (codes "s") ∷
      commands.New 4 1 (codes "B") ∷
      commands.Invoke 5 (Reg 0) (Str (codes "m2")) (Reg 1 ∷ []) ∷
      commands.Drop 1 ∷
      commands.Invoke 4 (Reg 0) (Str (codes "m3")) (Reg 1 ∷ Const (values.Int (pos 13)) ∷ Const (values.Text []) ∷ []) ∷
      commands.Invoke 1 (Reg 0) (Str (codes "m1")) [] ∷
      commands.Invoke 5 (Reg 0) (Str (codes "m0")) (Const (values.Bool true) ∷ Reg 1 ∷ Reg 1 ∷ []) ∷
      commands.Invoke 0 (Reg 0) (IntKey (pos 4)) (Reg 1 ∷ Reg 2 ∷ Reg 0 ∷ []) ∷
      commands.Invoke 4 (Reg 3) (Str (codes "take")) (Reg 5 ∷ Reg 1 ∷ Reg 0 ∷ []) ∷
      commands.OpenStream 2 (codes "r") ∷
      commands.OpenStream 1 (codes "r") ∷
      commands.Invoke 4 (Reg 0) (Str (codes "take")) (Reg 5 ∷ Reg 0 ∷ Reg 2 ∷ []) ∷ []);
}

abbrev plugin : Plugin
plugin = record {
  major = 0;
  minor = 27;
  classes = (
      (record {
        name = codes "Main";
        version = 3;
        stored = false;
        members = (
            members.Method (Str (codes "take")) (actions.Invoke 3 (Reg 0) (Str (codes "none")) (Const (values.Text (codes "e")) ∷ Reg 3 ∷ Reg 2 ∷ []) ∷ actions.Later (codes "u") ∷ []) ∷
            members.Method (Str (codes "m1")) (actions.Load 2 0 ∷ actions.Load 3 1 ∷ actions.New 2 (codes "Main") ∷ actions.New 3 (codes "Main") ∷ actions.New 1 (codes "T") ∷ actions.GetUrl 2 (Const (values.Text (codes "r"))) (negsuc 0) ∷ actions.Invoke 0 (Reg 2) (Str (codes "m2")) [] ∷ []) ∷
            members.Method (Str (codes "m0")) (actions.Load 2 0 ∷ actions.SelfTo 2 ∷ actions.OnEq (Reg 1) (Reg 1) 2 ∷ actions.CallDefault 1 (Reg 3) (Reg 2 ∷ Reg 3 ∷ Reg 2 ∷ []) ∷ actions.GetUrl 0 (Const (values.Text (codes "nowhere"))) (negsuc 1) ∷ []) ∷
            members.Method (Str (codes "m2")) (actions.Load 3 1 ∷ actions.Load 2 0 ∷ actions.New 3 (codes "Main") ∷ actions.New 4 (codes "Main") ∷ []) ∷
            members.Method (IntKey (pos 4)) (actions.SelfTo 3 ∷ []) ∷
            members.Default (actions.GetUrl 1 (Const (values.Text (codes "nowhere"))) (pos 8) ∷ []) ∷ []);
      }) ∷
      (record {
        name = codes "T";
        version = 2;
        stored = true;
        members = (
            members.Method (Str (codes "take")) (actions.Load 2 0 ∷ actions.Add 0 (Reg 2) (Reg 2) ∷ actions.New 2 (codes "T") ∷ []) ∷
            members.Method (IntKey (pos 4)) (actions.SelfTo 2 ∷ actions.Load 3 1 ∷ actions.Slot 3 (Reg 2) ∷ []) ∷
            members.Method (Str (codes "m2")) (actions.Load 2 0 ∷ actions.SelfTo 0 ∷ []) ∷
            members.Method (Str (codes "m1")) (actions.Load 1 2 ∷ actions.SelfTo 2 ∷ actions.New 5 (codes "T") ∷ []) ∷
            members.Getter (Str (codes "7")) (actions.SelfTo 2 ∷ actions.Load 2 2 ∷ actions.New 2 (codes "T") ∷ actions.Invoke 1 (Reg 0) (Str (codes "take")) (Reg 3 ∷ Reg 1 ∷ []) ∷ actions.New 5 (codes "T") ∷ actions.New 1 (codes "Main") ∷ actions.GetUrl 1 (Const (values.Text (codes "s"))) (negsuc 1) ∷ []) ∷
            members.Default (actions.Load 2 0 ∷ actions.SelfTo 2 ∷ actions.Invoke 0 (Reg 0) (IntKey (pos 4)) (Reg 0 ∷ Const (values.Int (negsuc 2147483647)) ∷ Reg 1 ∷ []) ∷ []) ∷
            members.Method (Str (codes "m0")) (actions.SelfTo 2 ∷ actions.Note (Reg 3) ∷ actions.New 1 (codes "Main") ∷ actions.HasProperty (Reg 0) (Str (codes "f0")) ∷ actions.Slot 2 (Reg 2) ∷ []) ∷
            members.Method (Str (codes "m3")) (actions.Load 3 1 ∷ actions.Invoke 0 (Reg 0) (Str (codes "take")) (Reg 2 ∷ Reg 0 ∷ Const (values.Int (pos 14)) ∷ []) ∷ actions.Enumerate 3 (Reg 2) ∷ []) ∷
            members.Construct (actions.Load 2 0 ∷ actions.Load 3 1 ∷ actions.RequestRead 1 (Const (values.Int (pos 3))) ((record { offset = pos 7; length = 4294967295 }) ∷ (record { offset = pos 0; length = 5 }) ∷ (record { offset = negsuc 5; length = 3 }) ∷ []) ∷ actions.New 3 (codes "Main") ∷ actions.New 5 (codes "U") ∷ actions.New 2 (codes "U") ∷ actions.Invoke 0 (Reg 5) (IntKey (pos 4)) (Reg 3 ∷ Reg 0 ∷ Reg 6 ∷ []) ∷ actions.SelfTo 3 ∷ []) ∷ []);
      }) ∷ []);
  handlers = (
      (record { which = handlers.New; body = (actions.New 0 (codes "Main") ∷ actions.Slot 0 (Reg 0) ∷ actions.Window 1 ∷ actions.Slot 1 (Reg 1) ∷ actions.Load 2 0 ∷ actions.SelfTo 2 ∷ actions.New 2 (codes "Main") ∷ actions.Later (codes "u") ∷ actions.GetUrl 0 (Const (values.Text (codes "nowhere"))) (pos 2) ∷ actions.Slot 0 (Reg 2) ∷ []) }) ∷
      (record { which = handlers.Scriptable; body = (actions.Load 0 0 ∷ actions.Return (Reg 0) ∷ []) }) ∷
      (record { which = handlers.NewStream; body = (actions.Load 5 1 ∷ actions.Invoke 5 (Reg 5) (Str (codes "take")) (Reg 0 ∷ []) ∷ actions.Return (Const (values.Int (pos 4))) ∷ []) }) ∷
      (record { which = handlers.Write; body = (actions.New 2 (codes "U") ∷ actions.New 1 (codes "U") ∷ actions.New 3 (codes "T") ∷ actions.Later (codes "v") ∷ actions.Load 2 2 ∷ actions.Drop 1 ∷ actions.Return (Const values.Void) ∷ []) }) ∷
      (record { which = handlers.AsFile; body = (actions.EndStream 4 (Reg 0) reasons.NetworkErr ∷ []) }) ∷
      (record { which = handlers.DestroyStream; body = (actions.Load 4 2 ∷ actions.Load 0 2 ∷ actions.Get 3 (Reg 2) (Str (codes "f1")) ∷ []) }) ∷
      (record { which = handlers.UrlNotify; body = (actions.Load 3 1 ∷ actions.EndStream 3 (Reg 5) reasons.Done ∷ actions.Note (Reg 1) ∷ actions.GetUrl 2 (Const (values.Text (codes "nowhere"))) (negsuc 0) ∷ []) }) ∷ []);
  tasks = (
      (record { name = codes "t"; body = (actions.Load 1 1 ∷ actions.Load 0 0 ∷ actions.Load 3 1 ∷ actions.SelfTo 2 ∷ actions.New 0 (codes "U") ∷ actions.GetUrl 0 (Const (values.Text (codes "r"))) (pos 5) ∷ actions.Drop 1 ∷ actions.GetUrl 3 (Const (values.Int (pos 0))) (pos 0) ∷ actions.Load 2 0 ∷ actions.Load 3 1 ∷ actions.HasProperty (Const (values.Bool false)) (Str (codes "f1")) ∷ actions.Drop 1 ∷ actions.RequestRead 0 (Reg 3) ((record { offset = negsuc 0; length = 2 }) ∷ []) ∷ actions.Return (Reg 5) ∷ []) }) ∷
      (record { name = codes "u"; body = (actions.Load 1 1 ∷ actions.Load 0 0 ∷ actions.Load 3 1 ∷ actions.SelfTo 2 ∷ actions.Get 0 (Reg 1) (Str (codes "7")) ∷ actions.New 0 (codes "None") ∷ actions.OnFalse 3 ∷ actions.Invoke 0 (Reg 1) (Str (codes "m3")) (Reg 1 ∷ Reg 3 ∷ []) ∷ actions.SelfTo 2 ∷ actions.Slot 3 (Reg 3) ∷ actions.GetUrl 3 (Reg 0) (pos 3) ∷ []) }) ∷
      (record { name = codes "v"; body = (actions.Load 1 1 ∷ actions.Load 0 2 ∷ actions.Load 3 1 ∷ actions.Load 0 0 ∷ actions.Invoke 0 (Reg 3) (Str (codes "m0")) (Reg 2 ∷ Reg 0 ∷ Reg 3 ∷ []) ∷ actions.Invoke 2 (Reg 0) (Str (codes "take")) (Reg 3 ∷ Reg 3 ∷ Const (values.Text (codes "e")) ∷ []) ∷ actions.Load 3 2 ∷ actions.New 4 (codes "Main") ∷ actions.New 2 (codes "U") ∷ actions.GetUrl 3 (Const (values.Text (codes "s"))) (pos 3) ∷ actions.New 1 (codes "U") ∷ actions.Drop 1 ∷ actions.Return (Reg 0) ∷ []) }) ∷ []);
}

-- the run of both
both-end : outcome 1500 page plugin ≡ record {
  page = (
      Created (record { side = sides.Page; instance = 1; serial = 1 }) ∷
      CommandResult 1 (results.Code NoError) ∷
      CommandResult 2 (results.Yes (values.Object (record { side = sides.Plug; instance = 1; serial = 2 })) false) ∷
      Created (record { side = sides.Page; instance = 1; serial = 2 }) ∷
      CommandResult 3 (results.Yes (values.Object (record { side = sides.Page; instance = 1; serial = 2 })) false) ∷
      Created (record { side = sides.Page; instance = 1; serial = 3 }) ∷
      CommandResult 4 (results.Yes (values.Object (record { side = sides.Page; instance = 1; serial = 3 })) false) ∷
      CommandResult 5 (results.Code NoError) ∷
      CommandResult 6 (results.Code NoError) ∷
      CommandResult 7 (results.Code NoError) ∷
      Entered (record { side = sides.Page; instance = 1; serial = 1 }) (ops.Invoke (Str (codes "take"))) ∷
      StreamAnswered 1 (streams.New (pos 4)) ∷
      Entered (record { side = sides.Page; instance = 1; serial = 1 }) (ops.Invoke (Str (codes "m3"))) ∷
      Created (record { side = sides.Page; instance = 1; serial = 4 }) ∷
      Created (record { side = sides.Page; instance = 1; serial = 5 }) ∷
      Deallocated (record { side = sides.Page; instance = 1; serial = 5 }) ∷
      Deallocated (record { side = sides.Page; instance = 1; serial = 4 }) ∷
      CommandResult 8 (results.Pumped 1) ∷
      CommandResult 9 (results.Yes values.Void false) ∷
      StreamAnswered 1 streams.File ∷
      StreamAnswered 1 (streams.Destroy reasons.NetworkErr) ∷
      Entered (record { side = sides.Page; instance = 1; serial = 1 }) (ops.Invoke (Str (codes "take"))) ∷
      StreamAnswered 2 (streams.New (pos 4)) ∷
      StreamAnswered 2 streams.File ∷
      StreamAnswered 2 (streams.Destroy reasons.NetworkErr) ∷
      Entered (record { side = sides.Page; instance = 1; serial = 1 }) (ops.Invoke (Str (codes "take"))) ∷
      StreamAnswered 3 (streams.New (pos 4)) ∷
      StreamAnswered 3 streams.File ∷
      StreamAnswered 3 (streams.Destroy reasons.NetworkErr) ∷
      CommandResult 10 (results.Pumped 8) ∷
      CommandResult 11 (results.Code NoError) ∷
      Entered (record { side = sides.Page; instance = 1; serial = 2 }) (ops.Put (Str (codes "f0"))) ∷
      CommandResult 12 (results.Yes values.Void false) ∷
      Entered (record { side = sides.Page; instance = 1; serial = 1 }) (ops.Invoke (Str (codes "take"))) ∷
      StreamAnswered 4 (streams.New (pos 4)) ∷
      StreamAnswered 4 streams.File ∷
      CommandResult 13 (results.Pumped 2) ∷
      Entered (record { side = sides.Page; instance = 1; serial = 2 }) (ops.Invoke (Str (codes "m2"))) ∷
      Created (record { side = sides.Page; instance = 1; serial = 6 }) ∷
      Created (record { side = sides.Page; instance = 1; serial = 7 }) ∷
      Created (record { side = sides.Page; instance = 1; serial = 8 }) ∷
      Deallocated (record { side = sides.Page; instance = 1; serial = 6 }) ∷
      Deallocated (record { side = sides.Page; instance = 1; serial = 8 }) ∷
      Deallocated (record { side = sides.Page; instance = 1; serial = 7 }) ∷
      CommandResult 14 (results.Yes values.Void false) ∷
      CommandResult 15 (results.Yes values.Void false) ∷
      Entered (record { side = sides.Page; instance = 1; serial = 2 }) (ops.Invoke (IntKey (pos 4))) ∷
      Created (record { side = sides.Page; instance = 1; serial = 9 }) ∷
      Deallocated (record { side = sides.Page; instance = 1; serial = 9 }) ∷
      CommandResult 16 (results.Yes values.Void false) ∷
      Entered (record { side = sides.Page; instance = 1; serial = 2 }) (ops.Invoke (Str (codes "m1"))) ∷
      ProxyGone (record { side = sides.Plug; instance = 1; serial = 2 }) ∷
      Invalidated (record { side = sides.Page; instance = 1; serial = 1 }) ∷
      Invalidated (record { side = sides.Page; instance = 1; serial = 2 }) ∷
      Invalidated (record { side = sides.Page; instance = 1; serial = 3 }) ∷
      Deallocated (record { side = sides.Page; instance = 1; serial = 1 }) ∷
      Deallocated (record { side = sides.Page; instance = 1; serial = 2 }) ∷
      Deallocated (record { side = sides.Page; instance = 1; serial = 3 }) ∷
      CommandResult 17 results.No ∷
      Created (record { side = sides.Page; instance = 2; serial = 1 }) ∷
      CommandResult 18 (results.Code NoError) ∷
      CommandResult 19 (results.Yes (values.Object (record { side = sides.Plug; instance = 2; serial = 2 })) false) ∷
      CommandResult 20 (results.Pumped 0) ∷
      CommandResult 21 (results.Yes values.Void false) ∷
      Entered (record { side = sides.Page; instance = 2; serial = 1 }) (ops.Invoke (Str (codes "m3"))) ∷
      Created (record { side = sides.Page; instance = 2; serial = 2 }) ∷
      Created (record { side = sides.Page; instance = 2; serial = 3 }) ∷
      Deallocated (record { side = sides.Page; instance = 2; serial = 3 }) ∷
      Deallocated (record { side = sides.Page; instance = 2; serial = 2 }) ∷
      CommandResult 22 results.No ∷
      CommandResult 23 (results.Pumped 0) ∷
      CommandResult 24 results.No ∷
      CommandResult 25 results.No ∷
      CommandResult 26 (results.Yes values.Void false) ∷
      CommandResult 27 results.No ∷
      CommandResult 28 results.No ∷
      CommandResult 29 (results.Pumped 0) ∷
      Created (record { side = sides.Page; instance = 3; serial = 1 }) ∷
      CommandResult 30 (results.Code NoError) ∷
      CommandResult 31 (results.Yes (values.Object (record { side = sides.Plug; instance = 3; serial = 2 })) false) ∷
      Entered (record { side = sides.Page; instance = 2; serial = 1 }) (ops.Invoke (Str (codes "m3"))) ∷
      Created (record { side = sides.Page; instance = 2; serial = 4 }) ∷
      Created (record { side = sides.Page; instance = 2; serial = 5 }) ∷
      Deallocated (record { side = sides.Page; instance = 2; serial = 5 }) ∷
      Deallocated (record { side = sides.Page; instance = 2; serial = 4 }) ∷
      CommandResult 32 (results.Code NoError) ∷
      Entered (record { side = sides.Page; instance = 2; serial = 1 }) (ops.Invoke (Str (codes "take"))) ∷
      StreamAnswered 5 (streams.New (pos 4)) ∷
      StreamAnswered 5 streams.File ∷
      Entered (record { side = sides.Page; instance = 3; serial = 1 }) (ops.Invoke (Str (codes "m3"))) ∷
      Created (record { side = sides.Page; instance = 3; serial = 2 }) ∷
      Created (record { side = sides.Page; instance = 3; serial = 3 }) ∷
      Deallocated (record { side = sides.Page; instance = 3; serial = 3 }) ∷
      Deallocated (record { side = sides.Page; instance = 3; serial = 2 }) ∷
      StreamAnswered 5 (streams.Destroy reasons.NetworkErr) ∷
      CommandResult 33 (results.Pumped 3) ∷
      CommandResult 34 (results.Code InvalidInstance) ∷
      CommandResult 35 results.No ∷
      CommandResult 36 results.No ∷
      CommandResult 37 (results.Yes values.Void false) ∷
      CommandResult 38 results.No ∷
      CommandResult 39 results.No ∷
      CommandResult 40 results.No ∷
      CommandResult 41 results.No ∷
      CommandResult 42 results.No ∷
      CommandResult 43 (results.Code NoError) ∷
      CommandResult 44 (results.Code InvalidInstance) ∷
      CommandResult 45 results.No ∷
      ProxyGone (record { side = sides.Plug; instance = 2; serial = 2 }) ∷
      Invalidated (record { side = sides.Page; instance = 2; serial = 1 }) ∷
      Deallocated (record { side = sides.Page; instance = 2; serial = 1 }) ∷
      Invalidated (record { side = sides.Page; instance = 3; serial = 1 }) ∷
      Deallocated (record { side = sides.Page; instance = 3; serial = 1 }) ∷ []);
  plugin = (
      HandlerRun 1 handlers.New ∷
      Created (record { side = sides.Plug; instance = 1; serial = 1 }) ∷
      Created (record { side = sides.Plug; instance = 1; serial = 2 }) ∷
      Deallocated (record { side = sides.Plug; instance = 1; serial = 1 }) ∷
      TaskBegun 1 (codes "u") ∷
      HandlerRun 1 handlers.Scriptable ∷
      HandlerRun 1 handlers.NewStream ∷
      Entered (record { side = sides.Plug; instance = 1; serial = 2 }) (ops.Invoke (Str (codes "m2"))) ∷
      Created (record { side = sides.Plug; instance = 1; serial = 3 }) ∷
      Created (record { side = sides.Plug; instance = 1; serial = 4 }) ∷
      Deallocated (record { side = sides.Plug; instance = 1; serial = 3 }) ∷
      Deallocated (record { side = sides.Plug; instance = 1; serial = 4 }) ∷
      HandlerRun 1 handlers.AsFile ∷
      HandlerRun 1 handlers.DestroyStream ∷
      HandlerRun 1 handlers.NewStream ∷
      HandlerRun 1 handlers.AsFile ∷
      HandlerRun 1 handlers.DestroyStream ∷
      HandlerRun 1 handlers.NewStream ∷
      HandlerRun 1 handlers.AsFile ∷
      HandlerRun 1 handlers.DestroyStream ∷
      HandlerRun 1 handlers.NewStream ∷
      HandlerRun 1 handlers.AsFile ∷
      ProxyGone (record { side = sides.Page; instance = 1; serial = 1 }) ∷
      Invalidated (record { side = sides.Plug; instance = 1; serial = 2 }) ∷
      Deallocated (record { side = sides.Plug; instance = 1; serial = 2 }) ∷
      HandlerRun 2 handlers.New ∷
      Created (record { side = sides.Plug; instance = 2; serial = 1 }) ∷
      Created (record { side = sides.Plug; instance = 2; serial = 2 }) ∷
      Deallocated (record { side = sides.Plug; instance = 2; serial = 1 }) ∷
      TaskBegun 2 (codes "u") ∷
      HandlerRun 2 handlers.Scriptable ∷
      Entered (record { side = sides.Plug; instance = 2; serial = 2 }) (ops.Invoke (Str (codes "take"))) ∷
      TaskBegun 2 (codes "u") ∷
      HandlerRun 3 handlers.New ∷
      Created (record { side = sides.Plug; instance = 3; serial = 1 }) ∷
      Created (record { side = sides.Plug; instance = 3; serial = 2 }) ∷
      Deallocated (record { side = sides.Plug; instance = 3; serial = 1 }) ∷
      HandlerRun 3 handlers.Scriptable ∷
      TaskBegun 3 (codes "u") ∷
      HandlerRun 2 handlers.NewStream ∷
      HandlerRun 2 handlers.AsFile ∷
      HandlerRun 2 handlers.DestroyStream ∷
      ProxyGone (record { side = sides.Page; instance = 2; serial = 1 }) ∷
      Invalidated (record { side = sides.Plug; instance = 2; serial = 2 }) ∷
      Deallocated (record { side = sides.Plug; instance = 2; serial = 2 }) ∷
      ProxyGone (record { side = sides.Page; instance = 3; serial = 1 }) ∷
      Invalidated (record { side = sides.Plug; instance = 3; serial = 2 }) ∷
      Deallocated (record { side = sides.Plug; instance = 3; serial = 2 }) ∷ []);
  files = ((record { stream = 1; resource = 0 }) ∷ (record { stream = 2; resource = 0 }) ∷ (record { stream = 3; resource = 0 }) ∷ (record { stream = 4; resource = 1 }) ∷ (record { stream = 5; resource = 1 }) ∷ []);
  rests = true;
}
unfolding encoding digits is_text is_utf8 chars encode_utf8
both-end = refl

-- the direct run
direct-run : direct_outcome 3000 page plugin ≡ record {
  page = (
      Created (record { side = sides.Page; instance = 1; serial = 1 }) ∷
      CommandResult 1 (results.Code NoError) ∷
      CommandResult 2 (results.Yes (values.Object (record { side = sides.Plug; instance = 1; serial = 2 })) false) ∷
      Created (record { side = sides.Page; instance = 1; serial = 2 }) ∷
      CommandResult 3 (results.Yes (values.Object (record { side = sides.Page; instance = 1; serial = 2 })) false) ∷
      Created (record { side = sides.Page; instance = 1; serial = 3 }) ∷
      CommandResult 4 (results.Yes (values.Object (record { side = sides.Page; instance = 1; serial = 3 })) false) ∷
      CommandResult 5 (results.Code NoError) ∷
      CommandResult 6 (results.Code NoError) ∷
      CommandResult 7 (results.Code NoError) ∷
      Entered (record { side = sides.Page; instance = 1; serial = 1 }) (ops.Invoke (Str (codes "take"))) ∷
      StreamAnswered 1 (streams.New (pos 4)) ∷
      Entered (record { side = sides.Page; instance = 1; serial = 1 }) (ops.Invoke (Str (codes "m3"))) ∷
      Created (record { side = sides.Page; instance = 1; serial = 4 }) ∷
      Created (record { side = sides.Page; instance = 1; serial = 5 }) ∷
      Deallocated (record { side = sides.Page; instance = 1; serial = 5 }) ∷
      Deallocated (record { side = sides.Page; instance = 1; serial = 4 }) ∷
      CommandResult 8 (results.Pumped 1) ∷
      CommandResult 9 (results.Yes values.Void false) ∷
      StreamAnswered 1 streams.File ∷
      StreamAnswered 1 (streams.Destroy reasons.NetworkErr) ∷
      Entered (record { side = sides.Page; instance = 1; serial = 1 }) (ops.Invoke (Str (codes "take"))) ∷
      StreamAnswered 2 (streams.New (pos 4)) ∷
      StreamAnswered 2 streams.File ∷
      StreamAnswered 2 (streams.Destroy reasons.NetworkErr) ∷
      Entered (record { side = sides.Page; instance = 1; serial = 1 }) (ops.Invoke (Str (codes "take"))) ∷
      StreamAnswered 3 (streams.New (pos 4)) ∷
      StreamAnswered 3 streams.File ∷
      StreamAnswered 3 (streams.Destroy reasons.NetworkErr) ∷
      CommandResult 10 (results.Pumped 8) ∷
      CommandResult 11 (results.Code NoError) ∷
      Entered (record { side = sides.Page; instance = 1; serial = 2 }) (ops.Put (Str (codes "f0"))) ∷
      CommandResult 12 (results.Yes values.Void false) ∷
      Entered (record { side = sides.Page; instance = 1; serial = 1 }) (ops.Invoke (Str (codes "take"))) ∷
      StreamAnswered 4 (streams.New (pos 4)) ∷
      StreamAnswered 4 streams.File ∷
      CommandResult 13 (results.Pumped 2) ∷
      Entered (record { side = sides.Page; instance = 1; serial = 2 }) (ops.Invoke (Str (codes "m2"))) ∷
      Created (record { side = sides.Page; instance = 1; serial = 6 }) ∷
      Created (record { side = sides.Page; instance = 1; serial = 7 }) ∷
      Created (record { side = sides.Page; instance = 1; serial = 8 }) ∷
      Deallocated (record { side = sides.Page; instance = 1; serial = 6 }) ∷
      Deallocated (record { side = sides.Page; instance = 1; serial = 8 }) ∷
      Deallocated (record { side = sides.Page; instance = 1; serial = 7 }) ∷
      CommandResult 14 (results.Yes values.Void false) ∷
      CommandResult 15 (results.Yes values.Void false) ∷
      Entered (record { side = sides.Page; instance = 1; serial = 2 }) (ops.Invoke (IntKey (pos 4))) ∷
      Created (record { side = sides.Page; instance = 1; serial = 9 }) ∷
      Deallocated (record { side = sides.Page; instance = 1; serial = 9 }) ∷
      CommandResult 16 (results.Yes values.Void false) ∷
      Entered (record { side = sides.Page; instance = 1; serial = 2 }) (ops.Invoke (Str (codes "m1"))) ∷
      ProxyGone (record { side = sides.Plug; instance = 1; serial = 2 }) ∷
      Invalidated (record { side = sides.Page; instance = 1; serial = 1 }) ∷
      Invalidated (record { side = sides.Page; instance = 1; serial = 2 }) ∷
      Invalidated (record { side = sides.Page; instance = 1; serial = 3 }) ∷
      Deallocated (record { side = sides.Page; instance = 1; serial = 1 }) ∷
      Deallocated (record { side = sides.Page; instance = 1; serial = 2 }) ∷
      Deallocated (record { side = sides.Page; instance = 1; serial = 3 }) ∷
      CommandResult 17 results.No ∷
      Created (record { side = sides.Page; instance = 2; serial = 1 }) ∷
      CommandResult 18 (results.Code NoError) ∷
      CommandResult 19 (results.Yes (values.Object (record { side = sides.Plug; instance = 2; serial = 2 })) false) ∷
      CommandResult 20 (results.Pumped 0) ∷
      CommandResult 21 (results.Yes values.Void false) ∷
      Entered (record { side = sides.Page; instance = 2; serial = 1 }) (ops.Invoke (Str (codes "m3"))) ∷
      Created (record { side = sides.Page; instance = 2; serial = 2 }) ∷
      Created (record { side = sides.Page; instance = 2; serial = 3 }) ∷
      Deallocated (record { side = sides.Page; instance = 2; serial = 3 }) ∷
      Deallocated (record { side = sides.Page; instance = 2; serial = 2 }) ∷
      CommandResult 22 results.No ∷
      CommandResult 23 (results.Pumped 0) ∷
      CommandResult 24 results.No ∷
      CommandResult 25 results.No ∷
      CommandResult 26 (results.Yes values.Void false) ∷
      CommandResult 27 results.No ∷
      CommandResult 28 results.No ∷
      CommandResult 29 (results.Pumped 0) ∷
      Created (record { side = sides.Page; instance = 3; serial = 1 }) ∷
      CommandResult 30 (results.Code NoError) ∷
      CommandResult 31 (results.Yes (values.Object (record { side = sides.Plug; instance = 3; serial = 2 })) false) ∷
      Entered (record { side = sides.Page; instance = 2; serial = 1 }) (ops.Invoke (Str (codes "m3"))) ∷
      Created (record { side = sides.Page; instance = 2; serial = 4 }) ∷
      Created (record { side = sides.Page; instance = 2; serial = 5 }) ∷
      Deallocated (record { side = sides.Page; instance = 2; serial = 5 }) ∷
      Deallocated (record { side = sides.Page; instance = 2; serial = 4 }) ∷
      CommandResult 32 (results.Code NoError) ∷
      Entered (record { side = sides.Page; instance = 2; serial = 1 }) (ops.Invoke (Str (codes "take"))) ∷
      StreamAnswered 5 (streams.New (pos 4)) ∷
      StreamAnswered 5 streams.File ∷
      Entered (record { side = sides.Page; instance = 3; serial = 1 }) (ops.Invoke (Str (codes "m3"))) ∷
      Created (record { side = sides.Page; instance = 3; serial = 2 }) ∷
      Created (record { side = sides.Page; instance = 3; serial = 3 }) ∷
      Deallocated (record { side = sides.Page; instance = 3; serial = 3 }) ∷
      Deallocated (record { side = sides.Page; instance = 3; serial = 2 }) ∷
      StreamAnswered 5 (streams.Destroy reasons.NetworkErr) ∷
      CommandResult 33 (results.Pumped 3) ∷
      CommandResult 34 (results.Code InvalidInstance) ∷
      CommandResult 35 results.No ∷
      CommandResult 36 results.No ∷
      CommandResult 37 (results.Yes values.Void false) ∷
      CommandResult 38 results.No ∷
      CommandResult 39 results.No ∷
      CommandResult 40 results.No ∷
      CommandResult 41 results.No ∷
      CommandResult 42 results.No ∷
      CommandResult 43 (results.Code NoError) ∷
      CommandResult 44 (results.Code InvalidInstance) ∷
      CommandResult 45 results.No ∷
      ProxyGone (record { side = sides.Plug; instance = 2; serial = 2 }) ∷
      Invalidated (record { side = sides.Page; instance = 2; serial = 1 }) ∷
      Deallocated (record { side = sides.Page; instance = 2; serial = 1 }) ∷
      Invalidated (record { side = sides.Page; instance = 3; serial = 1 }) ∷
      Deallocated (record { side = sides.Page; instance = 3; serial = 1 }) ∷ []);
  plugin = (
      HandlerRun 1 handlers.New ∷
      Created (record { side = sides.Plug; instance = 1; serial = 1 }) ∷
      Created (record { side = sides.Plug; instance = 1; serial = 2 }) ∷
      Deallocated (record { side = sides.Plug; instance = 1; serial = 1 }) ∷
      TaskBegun 1 (codes "u") ∷
      HandlerRun 1 handlers.Scriptable ∷
      HandlerRun 1 handlers.NewStream ∷
      Entered (record { side = sides.Plug; instance = 1; serial = 2 }) (ops.Invoke (Str (codes "m2"))) ∷
      Created (record { side = sides.Plug; instance = 1; serial = 3 }) ∷
      Created (record { side = sides.Plug; instance = 1; serial = 4 }) ∷
      Deallocated (record { side = sides.Plug; instance = 1; serial = 3 }) ∷
      Deallocated (record { side = sides.Plug; instance = 1; serial = 4 }) ∷
      HandlerRun 1 handlers.AsFile ∷
      HandlerRun 1 handlers.DestroyStream ∷
      HandlerRun 1 handlers.NewStream ∷
      HandlerRun 1 handlers.AsFile ∷
      HandlerRun 1 handlers.DestroyStream ∷
      HandlerRun 1 handlers.NewStream ∷
      HandlerRun 1 handlers.AsFile ∷
      HandlerRun 1 handlers.DestroyStream ∷
      HandlerRun 1 handlers.NewStream ∷
      HandlerRun 1 handlers.AsFile ∷
      ProxyGone (record { side = sides.Page; instance = 1; serial = 1 }) ∷
      Invalidated (record { side = sides.Plug; instance = 1; serial = 2 }) ∷
      Deallocated (record { side = sides.Plug; instance = 1; serial = 2 }) ∷
      HandlerRun 2 handlers.New ∷
      Created (record { side = sides.Plug; instance = 2; serial = 1 }) ∷
      Created (record { side = sides.Plug; instance = 2; serial = 2 }) ∷
      Deallocated (record { side = sides.Plug; instance = 2; serial = 1 }) ∷
      TaskBegun 2 (codes "u") ∷
      HandlerRun 2 handlers.Scriptable ∷
      Entered (record { side = sides.Plug; instance = 2; serial = 2 }) (ops.Invoke (Str (codes "take"))) ∷
      TaskBegun 2 (codes "u") ∷
      HandlerRun 3 handlers.New ∷
      Created (record { side = sides.Plug; instance = 3; serial = 1 }) ∷
      Created (record { side = sides.Plug; instance = 3; serial = 2 }) ∷
      Deallocated (record { side = sides.Plug; instance = 3; serial = 1 }) ∷
      HandlerRun 3 handlers.Scriptable ∷
      TaskBegun 3 (codes "u") ∷
      HandlerRun 2 handlers.NewStream ∷
      HandlerRun 2 handlers.AsFile ∷
      HandlerRun 2 handlers.DestroyStream ∷
      ProxyGone (record { side = sides.Page; instance = 2; serial = 1 }) ∷
      Invalidated (record { side = sides.Plug; instance = 2; serial = 2 }) ∷
      Deallocated (record { side = sides.Plug; instance = 2; serial = 2 }) ∷
      ProxyGone (record { side = sides.Page; instance = 3; serial = 1 }) ∷
      Invalidated (record { side = sides.Plug; instance = 3; serial = 2 }) ∷
      Deallocated (record { side = sides.Plug; instance = 3; serial = 2 }) ∷ []);
  files = ((record { stream = 1; resource = 0 }) ∷ (record { stream = 2; resource = 0 }) ∷ (record { stream = 3; resource = 0 }) ∷ (record { stream = 4; resource = 1 }) ∷ (record { stream = 5; resource = 1 }) ∷ []);
  rests = true;
}
unfolding encoding digits is_text is_utf8 chars encode_utf8
direct-run = refl

-- each message is delivered at once, and none is refused
orderly-in-rounds : orderly_along (sides.Page ∷ sides.Plug ∷ []) 700 page plugin ≡ true
unfolding encoding digits is_text is_utf8 chars encode_utf8
orderly-in-rounds = refl

-- each message is delivered at once, and none is refused
orderly-page-ahead : orderly_along (sides.Page ∷ sides.Page ∷ sides.Page ∷ sides.Page ∷ sides.Page ∷ sides.Page ∷ sides.Plug ∷ []) 200 page plugin ≡ true
unfolding encoding digits is_text is_utf8 chars encode_utf8
orderly-page-ahead = refl

-- each message is delivered at once, and none is refused
orderly-plugin-ahead : orderly_along (sides.Page ∷ sides.Plug ∷ sides.Plug ∷ sides.Plug ∷ sides.Plug ∷ sides.Plug ∷ sides.Plug ∷ []) 200 page plugin ≡ true
unfolding encoding digits is_text is_utf8 chars encode_utf8
orderly-plugin-ahead = refl

-- all bytes that the page sends
page-sends : page_bytes 1500 page plugin ≡ (0 ∷ 0 ∷ 0 ∷ 7 ∷ 1 ∷ 1 ∷ 0 ∷ 0 ∷ 1 ∷ 0 ∷ 27 ∷ 0 ∷ 0 ∷ 0 ∷ 12 ∷ 2 ∷ 1 ∷ 0 ∷ 0 ∷ 1 ∷ 2 ∷ 0 ∷ 3 ∷ 116 ∷ 47 ∷ 120 ∷ 0 ∷ 0 ∷ 0 ∷ 0 ∷ 11 ∷ 65 ∷ 2 ∷ 0 ∷ 0 ∷ 6 ∷ 0 ∷ 1 ∷ 0 ∷ 0 ∷ 0 ∷ 1 ∷ 0 ∷ 0 ∷ 0 ∷ 5 ∷ 69 ∷ 2 ∷ 0 ∷ 0 ∷ 10 ∷ 0 ∷ 0 ∷ 0 ∷ 5 ∷ 4 ∷ 1 ∷ 0 ∷ 0 ∷ 1 ∷ 0 ∷ 0 ∷ 0 ∷ 4 ∷ 66 ∷ 129 ∷ 0 ∷ 0 ∷ 0 ∷ 0 ∷ 0 ∷ 21 ∷ 6 ∷ 1 ∷ 0 ∷ 0 ∷ 1 ∷ 0 ∷ 0 ∷ 0 ∷ 1 ∷ 0 ∷ 1 ∷ 114 ∷ 0 ∷ 3 ∷ 116 ∷ 47 ∷ 112 ∷ 0 ∷ 0 ∷ 0 ∷ 2 ∷ 0 ∷ 0 ∷ 0 ∷ 5 ∷ 65 ∷ 2 ∷ 0 ∷ 0 ∷ 0 ∷ 0 ∷ 0 ∷ 0 ∷ 5 ∷ 65 ∷ 129 ∷ 0 ∷ 0 ∷ 0 ∷ 0 ∷ 0 ∷ 0 ∷ 25 ∷ 64 ∷ 1 ∷ 0 ∷ 0 ∷ 1 ∷ 0 ∷ 0 ∷ 0 ∷ 2 ∷ 1 ∷ 0 ∷ 0 ∷ 2 ∷ 109 ∷ 50 ∷ 3 ∷ 0 ∷ 6 ∷ 0 ∷ 1 ∷ 0 ∷ 0 ∷ 0 ∷ 3 ∷ 0 ∷ 0 ∷ 0 ∷ 0 ∷ 22 ∷ 9 ∷ 1 ∷ 0 ∷ 0 ∷ 1 ∷ 0 ∷ 0 ∷ 0 ∷ 1 ∷ 0 ∷ 11 ∷ 110 ∷ 112 ∷ 45 ∷ 115 ∷ 116 ∷ 114 ∷ 101 ∷ 97 ∷ 109 ∷ 45 ∷ 49 ∷ 0 ∷ 0 ∷ 0 ∷ 5 ∷ 69 ∷ 2 ∷ 0 ∷ 0 ∷ 0 ∷ 0 ∷ 0 ∷ 0 ∷ 10 ∷ 10 ∷ 1 ∷ 0 ∷ 0 ∷ 1 ∷ 0 ∷ 0 ∷ 0 ∷ 1 ∷ 1 ∷ 0 ∷ 0 ∷ 0 ∷ 21 ∷ 6 ∷ 1 ∷ 0 ∷ 0 ∷ 1 ∷ 0 ∷ 0 ∷ 0 ∷ 2 ∷ 0 ∷ 1 ∷ 114 ∷ 0 ∷ 3 ∷ 116 ∷ 47 ∷ 112 ∷ 0 ∷ 0 ∷ 0 ∷ 2 ∷ 0 ∷ 0 ∷ 0 ∷ 5 ∷ 65 ∷ 2 ∷ 0 ∷ 0 ∷ 0 ∷ 0 ∷ 0 ∷ 0 ∷ 22 ∷ 9 ∷ 1 ∷ 0 ∷ 0 ∷ 1 ∷ 0 ∷ 0 ∷ 0 ∷ 2 ∷ 0 ∷ 11 ∷ 110 ∷ 112 ∷ 45 ∷ 115 ∷ 116 ∷ 114 ∷ 101 ∷ 97 ∷ 109 ∷ 45 ∷ 50 ∷ 0 ∷ 0 ∷ 0 ∷ 5 ∷ 69 ∷ 2 ∷ 0 ∷ 0 ∷ 0 ∷ 0 ∷ 0 ∷ 0 ∷ 10 ∷ 10 ∷ 1 ∷ 0 ∷ 0 ∷ 1 ∷ 0 ∷ 0 ∷ 0 ∷ 2 ∷ 1 ∷ 0 ∷ 0 ∷ 0 ∷ 21 ∷ 6 ∷ 1 ∷ 0 ∷ 0 ∷ 1 ∷ 0 ∷ 0 ∷ 0 ∷ 3 ∷ 0 ∷ 1 ∷ 114 ∷ 0 ∷ 3 ∷ 116 ∷ 47 ∷ 112 ∷ 0 ∷ 0 ∷ 0 ∷ 2 ∷ 0 ∷ 0 ∷ 0 ∷ 5 ∷ 65 ∷ 2 ∷ 0 ∷ 0 ∷ 0 ∷ 0 ∷ 0 ∷ 0 ∷ 22 ∷ 9 ∷ 1 ∷ 0 ∷ 0 ∷ 1 ∷ 0 ∷ 0 ∷ 0 ∷ 3 ∷ 0 ∷ 11 ∷ 110 ∷ 112 ∷ 45 ∷ 115 ∷ 116 ∷ 114 ∷ 101 ∷ 97 ∷ 109 ∷ 45 ∷ 51 ∷ 0 ∷ 0 ∷ 0 ∷ 5 ∷ 69 ∷ 2 ∷ 0 ∷ 0 ∷ 0 ∷ 0 ∷ 0 ∷ 0 ∷ 10 ∷ 10 ∷ 1 ∷ 0 ∷ 0 ∷ 1 ∷ 0 ∷ 0 ∷ 0 ∷ 3 ∷ 1 ∷ 0 ∷ 0 ∷ 0 ∷ 21 ∷ 6 ∷ 1 ∷ 0 ∷ 0 ∷ 1 ∷ 0 ∷ 0 ∷ 0 ∷ 4 ∷ 0 ∷ 1 ∷ 115 ∷ 0 ∷ 3 ∷ 116 ∷ 47 ∷ 112 ∷ 0 ∷ 0 ∷ 39 ∷ 16 ∷ 0 ∷ 0 ∷ 0 ∷ 5 ∷ 65 ∷ 2 ∷ 0 ∷ 0 ∷ 0 ∷ 0 ∷ 0 ∷ 0 ∷ 22 ∷ 9 ∷ 1 ∷ 0 ∷ 0 ∷ 1 ∷ 0 ∷ 0 ∷ 0 ∷ 4 ∷ 0 ∷ 11 ∷ 110 ∷ 112 ∷ 45 ∷ 115 ∷ 116 ∷ 114 ∷ 101 ∷ 97 ∷ 109 ∷ 45 ∷ 52 ∷ 0 ∷ 0 ∷ 0 ∷ 5 ∷ 69 ∷ 2 ∷ 0 ∷ 0 ∷ 0 ∷ 0 ∷ 0 ∷ 0 ∷ 5 ∷ 3 ∷ 2 ∷ 0 ∷ 0 ∷ 1 ∷ 0 ∷ 0 ∷ 0 ∷ 12 ∷ 2 ∷ 1 ∷ 0 ∷ 0 ∷ 2 ∷ 2 ∷ 0 ∷ 3 ∷ 116 ∷ 47 ∷ 121 ∷ 0 ∷ 0 ∷ 0 ∷ 0 ∷ 11 ∷ 65 ∷ 2 ∷ 0 ∷ 0 ∷ 6 ∷ 0 ∷ 2 ∷ 0 ∷ 0 ∷ 0 ∷ 1 ∷ 0 ∷ 0 ∷ 0 ∷ 5 ∷ 69 ∷ 2 ∷ 0 ∷ 0 ∷ 10 ∷ 0 ∷ 0 ∷ 0 ∷ 5 ∷ 4 ∷ 1 ∷ 0 ∷ 0 ∷ 2 ∷ 0 ∷ 0 ∷ 0 ∷ 4 ∷ 66 ∷ 129 ∷ 0 ∷ 0 ∷ 0 ∷ 0 ∷ 0 ∷ 27 ∷ 64 ∷ 1 ∷ 0 ∷ 0 ∷ 2 ∷ 0 ∷ 0 ∷ 0 ∷ 2 ∷ 1 ∷ 0 ∷ 0 ∷ 4 ∷ 116 ∷ 97 ∷ 107 ∷ 101 ∷ 3 ∷ 0 ∷ 6 ∷ 0 ∷ 1 ∷ 0 ∷ 0 ∷ 0 ∷ 3 ∷ 0 ∷ 0 ∷ 0 ∷ 0 ∷ 5 ∷ 65 ∷ 129 ∷ 0 ∷ 0 ∷ 0 ∷ 0 ∷ 0 ∷ 0 ∷ 12 ∷ 2 ∷ 1 ∷ 0 ∷ 0 ∷ 3 ∷ 2 ∷ 0 ∷ 3 ∷ 116 ∷ 47 ∷ 121 ∷ 0 ∷ 0 ∷ 0 ∷ 0 ∷ 11 ∷ 65 ∷ 2 ∷ 0 ∷ 0 ∷ 6 ∷ 0 ∷ 3 ∷ 0 ∷ 0 ∷ 0 ∷ 1 ∷ 0 ∷ 0 ∷ 0 ∷ 5 ∷ 69 ∷ 2 ∷ 0 ∷ 0 ∷ 10 ∷ 0 ∷ 0 ∷ 0 ∷ 4 ∷ 66 ∷ 129 ∷ 0 ∷ 0 ∷ 0 ∷ 0 ∷ 0 ∷ 5 ∷ 4 ∷ 1 ∷ 0 ∷ 0 ∷ 3 ∷ 0 ∷ 0 ∷ 0 ∷ 5 ∷ 65 ∷ 129 ∷ 0 ∷ 0 ∷ 0 ∷ 0 ∷ 0 ∷ 0 ∷ 21 ∷ 6 ∷ 1 ∷ 0 ∷ 0 ∷ 2 ∷ 0 ∷ 0 ∷ 0 ∷ 5 ∷ 0 ∷ 1 ∷ 115 ∷ 0 ∷ 3 ∷ 116 ∷ 47 ∷ 112 ∷ 0 ∷ 0 ∷ 39 ∷ 16 ∷ 0 ∷ 0 ∷ 0 ∷ 5 ∷ 65 ∷ 2 ∷ 0 ∷ 0 ∷ 0 ∷ 0 ∷ 0 ∷ 0 ∷ 4 ∷ 66 ∷ 129 ∷ 0 ∷ 0 ∷ 0 ∷ 0 ∷ 0 ∷ 22 ∷ 9 ∷ 1 ∷ 0 ∷ 0 ∷ 2 ∷ 0 ∷ 0 ∷ 0 ∷ 5 ∷ 0 ∷ 11 ∷ 110 ∷ 112 ∷ 45 ∷ 115 ∷ 116 ∷ 114 ∷ 101 ∷ 97 ∷ 109 ∷ 45 ∷ 53 ∷ 0 ∷ 0 ∷ 0 ∷ 5 ∷ 69 ∷ 2 ∷ 0 ∷ 0 ∷ 0 ∷ 0 ∷ 0 ∷ 0 ∷ 5 ∷ 65 ∷ 129 ∷ 0 ∷ 0 ∷ 0 ∷ 0 ∷ 0 ∷ 0 ∷ 10 ∷ 10 ∷ 1 ∷ 0 ∷ 0 ∷ 2 ∷ 0 ∷ 0 ∷ 0 ∷ 5 ∷ 1 ∷ 0 ∷ 0 ∷ 0 ∷ 14 ∷ 3 ∷ 1 ∷ 0 ∷ 1 ∷ 3 ∷ 0 ∷ 0 ∷ 0 ∷ 2 ∷ 0 ∷ 0 ∷ 0 ∷ 1 ∷ 2 ∷ 0 ∷ 0 ∷ 0 ∷ 5 ∷ 3 ∷ 1 ∷ 0 ∷ 0 ∷ 3 ∷ 0 ∷ 0 ∷ 0 ∷ 4 ∷ 12 ∷ 1 ∷ 0 ∷ 0 ∷ [])
unfolding encoding digits is_text is_utf8 chars encode_utf8
page-sends = refl

-- all bytes that the plugin sends
plugin-sends : plugin_bytes 1500 page plugin ≡ (0 ∷ 0 ∷ 0 ∷ 5 ∷ 69 ∷ 1 ∷ 0 ∷ 0 ∷ 0 ∷ 0 ∷ 0 ∷ 0 ∷ 5 ∷ 32 ∷ 2 ∷ 0 ∷ 0 ∷ 1 ∷ 0 ∷ 0 ∷ 0 ∷ 18 ∷ 33 ∷ 2 ∷ 0 ∷ 0 ∷ 1 ∷ 0 ∷ 7 ∷ 110 ∷ 111 ∷ 119 ∷ 104 ∷ 101 ∷ 114 ∷ 101 ∷ 0 ∷ 0 ∷ 0 ∷ 2 ∷ 0 ∷ 0 ∷ 0 ∷ 5 ∷ 69 ∷ 1 ∷ 0 ∷ 0 ∷ 0 ∷ 0 ∷ 0 ∷ 0 ∷ 14 ∷ 64 ∷ 129 ∷ 0 ∷ 0 ∷ 1 ∷ 0 ∷ 0 ∷ 0 ∷ 1 ∷ 4 ∷ 0 ∷ 0 ∷ 1 ∷ 55 ∷ 0 ∷ 0 ∷ 0 ∷ 11 ∷ 65 ∷ 1 ∷ 0 ∷ 0 ∷ 6 ∷ 1 ∷ 1 ∷ 0 ∷ 0 ∷ 0 ∷ 2 ∷ 0 ∷ 0 ∷ 0 ∷ 30 ∷ 64 ∷ 129 ∷ 0 ∷ 0 ∷ 1 ∷ 0 ∷ 0 ∷ 0 ∷ 1 ∷ 1 ∷ 0 ∷ 0 ∷ 2 ∷ 109 ∷ 51 ∷ 2 ∷ 6 ∷ 0 ∷ 1 ∷ 0 ∷ 0 ∷ 0 ∷ 1 ∷ 6 ∷ 0 ∷ 1 ∷ 0 ∷ 0 ∷ 0 ∷ 1 ∷ 0 ∷ 0 ∷ 0 ∷ 23 ∷ 64 ∷ 2 ∷ 0 ∷ 0 ∷ 1 ∷ 0 ∷ 0 ∷ 0 ∷ 1 ∷ 1 ∷ 0 ∷ 0 ∷ 4 ∷ 116 ∷ 97 ∷ 107 ∷ 101 ∷ 1 ∷ 3 ∷ 0 ∷ 0 ∷ 0 ∷ 1 ∷ 0 ∷ 0 ∷ 0 ∷ 8 ∷ 70 ∷ 1 ∷ 0 ∷ 0 ∷ 0 ∷ 0 ∷ 0 ∷ 4 ∷ 0 ∷ 0 ∷ 0 ∷ 14 ∷ 65 ∷ 1 ∷ 0 ∷ 1 ∷ 1 ∷ 0 ∷ 0 ∷ 0 ∷ 3 ∷ 0 ∷ 0 ∷ 0 ∷ 1 ∷ 0 ∷ 0 ∷ 0 ∷ 0 ∷ 10 ∷ 35 ∷ 2 ∷ 0 ∷ 0 ∷ 1 ∷ 0 ∷ 0 ∷ 0 ∷ 1 ∷ 1 ∷ 0 ∷ 0 ∷ 0 ∷ 4 ∷ 71 ∷ 1 ∷ 0 ∷ 0 ∷ 0 ∷ 0 ∷ 0 ∷ 4 ∷ 71 ∷ 1 ∷ 0 ∷ 0 ∷ 0 ∷ 0 ∷ 0 ∷ 23 ∷ 64 ∷ 2 ∷ 0 ∷ 0 ∷ 1 ∷ 0 ∷ 0 ∷ 0 ∷ 1 ∷ 1 ∷ 0 ∷ 0 ∷ 4 ∷ 116 ∷ 97 ∷ 107 ∷ 101 ∷ 1 ∷ 3 ∷ 0 ∷ 0 ∷ 0 ∷ 2 ∷ 0 ∷ 0 ∷ 0 ∷ 8 ∷ 70 ∷ 1 ∷ 0 ∷ 0 ∷ 0 ∷ 0 ∷ 0 ∷ 4 ∷ 0 ∷ 0 ∷ 0 ∷ 10 ∷ 35 ∷ 2 ∷ 0 ∷ 0 ∷ 1 ∷ 0 ∷ 0 ∷ 0 ∷ 2 ∷ 1 ∷ 0 ∷ 0 ∷ 0 ∷ 4 ∷ 71 ∷ 1 ∷ 0 ∷ 0 ∷ 0 ∷ 0 ∷ 0 ∷ 4 ∷ 71 ∷ 1 ∷ 0 ∷ 0 ∷ 0 ∷ 0 ∷ 0 ∷ 23 ∷ 64 ∷ 2 ∷ 0 ∷ 0 ∷ 1 ∷ 0 ∷ 0 ∷ 0 ∷ 1 ∷ 1 ∷ 0 ∷ 0 ∷ 4 ∷ 116 ∷ 97 ∷ 107 ∷ 101 ∷ 1 ∷ 3 ∷ 0 ∷ 0 ∷ 0 ∷ 3 ∷ 0 ∷ 0 ∷ 0 ∷ 8 ∷ 70 ∷ 1 ∷ 0 ∷ 0 ∷ 0 ∷ 0 ∷ 0 ∷ 4 ∷ 0 ∷ 0 ∷ 0 ∷ 10 ∷ 35 ∷ 2 ∷ 0 ∷ 0 ∷ 1 ∷ 0 ∷ 0 ∷ 0 ∷ 3 ∷ 1 ∷ 0 ∷ 0 ∷ 0 ∷ 4 ∷ 71 ∷ 1 ∷ 0 ∷ 0 ∷ 0 ∷ 0 ∷ 0 ∷ 4 ∷ 71 ∷ 1 ∷ 0 ∷ 0 ∷ 0 ∷ 0 ∷ 0 ∷ 23 ∷ 64 ∷ 2 ∷ 0 ∷ 0 ∷ 1 ∷ 0 ∷ 0 ∷ 0 ∷ 1 ∷ 1 ∷ 0 ∷ 0 ∷ 4 ∷ 116 ∷ 97 ∷ 107 ∷ 101 ∷ 1 ∷ 3 ∷ 0 ∷ 0 ∷ 0 ∷ 4 ∷ 0 ∷ 0 ∷ 0 ∷ 8 ∷ 70 ∷ 1 ∷ 0 ∷ 0 ∷ 0 ∷ 0 ∷ 0 ∷ 4 ∷ 0 ∷ 0 ∷ 0 ∷ 10 ∷ 35 ∷ 2 ∷ 0 ∷ 0 ∷ 1 ∷ 0 ∷ 0 ∷ 0 ∷ 4 ∷ 1 ∷ 0 ∷ 0 ∷ 0 ∷ 4 ∷ 71 ∷ 1 ∷ 0 ∷ 0 ∷ 0 ∷ 0 ∷ 0 ∷ 5 ∷ 69 ∷ 2 ∷ 0 ∷ 0 ∷ 0 ∷ 0 ∷ 0 ∷ 0 ∷ 5 ∷ 32 ∷ 2 ∷ 0 ∷ 0 ∷ 2 ∷ 0 ∷ 0 ∷ 0 ∷ 18 ∷ 33 ∷ 2 ∷ 0 ∷ 0 ∷ 2 ∷ 0 ∷ 7 ∷ 110 ∷ 111 ∷ 119 ∷ 104 ∷ 101 ∷ 114 ∷ 101 ∷ 0 ∷ 0 ∷ 0 ∷ 2 ∷ 0 ∷ 0 ∷ 0 ∷ 5 ∷ 69 ∷ 1 ∷ 0 ∷ 0 ∷ 0 ∷ 0 ∷ 0 ∷ 0 ∷ 14 ∷ 64 ∷ 129 ∷ 0 ∷ 0 ∷ 2 ∷ 0 ∷ 0 ∷ 0 ∷ 1 ∷ 4 ∷ 0 ∷ 0 ∷ 1 ∷ 55 ∷ 0 ∷ 0 ∷ 0 ∷ 11 ∷ 65 ∷ 1 ∷ 0 ∷ 0 ∷ 6 ∷ 1 ∷ 2 ∷ 0 ∷ 0 ∷ 0 ∷ 2 ∷ 0 ∷ 0 ∷ 0 ∷ 30 ∷ 64 ∷ 129 ∷ 0 ∷ 0 ∷ 2 ∷ 0 ∷ 0 ∷ 0 ∷ 1 ∷ 1 ∷ 0 ∷ 0 ∷ 2 ∷ 109 ∷ 51 ∷ 2 ∷ 6 ∷ 0 ∷ 2 ∷ 0 ∷ 0 ∷ 0 ∷ 1 ∷ 6 ∷ 0 ∷ 2 ∷ 0 ∷ 0 ∷ 0 ∷ 1 ∷ 0 ∷ 0 ∷ 0 ∷ 5 ∷ 65 ∷ 1 ∷ 0 ∷ 0 ∷ 0 ∷ 0 ∷ 0 ∷ 0 ∷ 14 ∷ 64 ∷ 129 ∷ 0 ∷ 0 ∷ 2 ∷ 0 ∷ 0 ∷ 0 ∷ 1 ∷ 4 ∷ 0 ∷ 0 ∷ 1 ∷ 55 ∷ 0 ∷ 0 ∷ 0 ∷ 5 ∷ 32 ∷ 2 ∷ 0 ∷ 0 ∷ 3 ∷ 0 ∷ 0 ∷ 0 ∷ 18 ∷ 33 ∷ 2 ∷ 0 ∷ 0 ∷ 3 ∷ 0 ∷ 7 ∷ 110 ∷ 111 ∷ 119 ∷ 104 ∷ 101 ∷ 114 ∷ 101 ∷ 0 ∷ 0 ∷ 0 ∷ 2 ∷ 0 ∷ 0 ∷ 0 ∷ 5 ∷ 69 ∷ 1 ∷ 0 ∷ 0 ∷ 0 ∷ 0 ∷ 0 ∷ 0 ∷ 30 ∷ 64 ∷ 129 ∷ 0 ∷ 0 ∷ 2 ∷ 0 ∷ 0 ∷ 0 ∷ 1 ∷ 1 ∷ 0 ∷ 0 ∷ 2 ∷ 109 ∷ 51 ∷ 2 ∷ 6 ∷ 0 ∷ 2 ∷ 0 ∷ 0 ∷ 0 ∷ 1 ∷ 6 ∷ 0 ∷ 2 ∷ 0 ∷ 0 ∷ 0 ∷ 1 ∷ 0 ∷ 0 ∷ 0 ∷ 11 ∷ 65 ∷ 1 ∷ 0 ∷ 0 ∷ 6 ∷ 1 ∷ 3 ∷ 0 ∷ 0 ∷ 0 ∷ 2 ∷ 0 ∷ 0 ∷ 0 ∷ 14 ∷ 64 ∷ 129 ∷ 0 ∷ 0 ∷ 3 ∷ 0 ∷ 0 ∷ 0 ∷ 1 ∷ 4 ∷ 0 ∷ 0 ∷ 1 ∷ 55 ∷ 0 ∷ 0 ∷ 0 ∷ 23 ∷ 64 ∷ 2 ∷ 0 ∷ 0 ∷ 2 ∷ 0 ∷ 0 ∷ 0 ∷ 1 ∷ 1 ∷ 0 ∷ 0 ∷ 4 ∷ 116 ∷ 97 ∷ 107 ∷ 101 ∷ 1 ∷ 3 ∷ 0 ∷ 0 ∷ 0 ∷ 5 ∷ 0 ∷ 0 ∷ 0 ∷ 8 ∷ 70 ∷ 1 ∷ 0 ∷ 0 ∷ 0 ∷ 0 ∷ 0 ∷ 4 ∷ 0 ∷ 0 ∷ 0 ∷ 30 ∷ 64 ∷ 129 ∷ 0 ∷ 0 ∷ 3 ∷ 0 ∷ 0 ∷ 0 ∷ 1 ∷ 1 ∷ 0 ∷ 0 ∷ 2 ∷ 109 ∷ 51 ∷ 2 ∷ 6 ∷ 0 ∷ 3 ∷ 0 ∷ 0 ∷ 0 ∷ 1 ∷ 6 ∷ 0 ∷ 3 ∷ 0 ∷ 0 ∷ 0 ∷ 1 ∷ 0 ∷ 0 ∷ 0 ∷ 10 ∷ 35 ∷ 2 ∷ 0 ∷ 0 ∷ 2 ∷ 0 ∷ 0 ∷ 0 ∷ 5 ∷ 1 ∷ 0 ∷ 0 ∷ 0 ∷ 4 ∷ 71 ∷ 1 ∷ 0 ∷ 0 ∷ 0 ∷ 0 ∷ 0 ∷ 4 ∷ 71 ∷ 1 ∷ 0 ∷ 0 ∷ 0 ∷ 0 ∷ 0 ∷ 5 ∷ 69 ∷ 1 ∷ 0 ∷ 0 ∷ 0 ∷ 0 ∷ 0 ∷ 0 ∷ 5 ∷ 69 ∷ 1 ∷ 0 ∷ 0 ∷ 0 ∷ 0 ∷ 0 ∷ 0 ∷ 4 ∷ 71 ∷ 1 ∷ 0 ∷ 0 ∷ [])
unfolding encoding digits is_text is_utf8 chars encode_utf8
plugin-sends = refl

-- the plug-in's first 248 bytes hold 15 whole messages
cut-248 : lost_outcome 1500 (Some 15) page plugin ≡ record {
  page = (
      Created (record { side = sides.Page; instance = 1; serial = 1 }) ∷
      CommandResult 1 (results.Code NoError) ∷
      CommandResult 2 (results.Yes (values.Object (record { side = sides.Plug; instance = 1; serial = 2 })) false) ∷
      Created (record { side = sides.Page; instance = 1; serial = 2 }) ∷
      CommandResult 3 (results.Yes (values.Object (record { side = sides.Page; instance = 1; serial = 2 })) false) ∷
      Created (record { side = sides.Page; instance = 1; serial = 3 }) ∷
      CommandResult 4 (results.Yes (values.Object (record { side = sides.Page; instance = 1; serial = 3 })) false) ∷
      CommandResult 5 (results.Code NoError) ∷
      CommandResult 6 (results.Code NoError) ∷
      CommandResult 7 (results.Code NoError) ∷
      Entered (record { side = sides.Page; instance = 1; serial = 1 }) (ops.Invoke (Str (codes "take"))) ∷
      StreamAnswered 1 (streams.New (pos 4)) ∷
      Entered (record { side = sides.Page; instance = 1; serial = 1 }) (ops.Invoke (Str (codes "m3"))) ∷
      Created (record { side = sides.Page; instance = 1; serial = 4 }) ∷
      Created (record { side = sides.Page; instance = 1; serial = 5 }) ∷
      Deallocated (record { side = sides.Page; instance = 1; serial = 5 }) ∷
      Deallocated (record { side = sides.Page; instance = 1; serial = 4 }) ∷
      CommandResult 8 (results.Pumped 1) ∷
      CommandResult 9 (results.Yes values.Void false) ∷
      StreamAnswered 1 streams.File ∷
      StreamAnswered 1 (streams.Destroy reasons.NetworkErr) ∷
      Entered (record { side = sides.Page; instance = 1; serial = 1 }) (ops.Invoke (Str (codes "take"))) ∷
      StreamAnswered 2 (streams.New (pos 4)) ∷
      ProxyGone (record { side = sides.Plug; instance = 1; serial = 2 }) ∷
      Invalidated (record { side = sides.Page; instance = 1; serial = 1 }) ∷
      Invalidated (record { side = sides.Page; instance = 1; serial = 2 }) ∷
      Invalidated (record { side = sides.Page; instance = 1; serial = 3 }) ∷
      Deallocated (record { side = sides.Page; instance = 1; serial = 1 }) ∷
      Deallocated (record { side = sides.Page; instance = 1; serial = 2 }) ∷
      Deallocated (record { side = sides.Page; instance = 1; serial = 3 }) ∷
      CommandResult 10 (results.Pumped 3) ∷
      CommandResult 11 (results.Code InvalidInstance) ∷
      CommandResult 12 results.No ∷
      CommandResult 13 (results.Pumped 0) ∷
      CommandResult 14 results.No ∷
      CommandResult 15 (results.Yes values.Void false) ∷
      CommandResult 16 results.No ∷
      CommandResult 17 results.No ∷
      CommandResult 18 (results.Code ModuleLoadFailed) ∷
      CommandResult 19 results.No ∷
      CommandResult 20 (results.Pumped 0) ∷
      CommandResult 21 results.No ∷
      CommandResult 22 results.No ∷
      CommandResult 23 (results.Pumped 0) ∷
      CommandResult 24 results.No ∷
      CommandResult 25 results.No ∷
      CommandResult 26 (results.Yes values.Void false) ∷
      CommandResult 27 results.No ∷
      CommandResult 28 results.No ∷
      CommandResult 29 (results.Pumped 0) ∷
      CommandResult 30 (results.Code ModuleLoadFailed) ∷
      CommandResult 31 results.No ∷
      CommandResult 32 (results.Code InvalidInstance) ∷
      CommandResult 33 (results.Pumped 0) ∷
      CommandResult 34 (results.Code InvalidInstance) ∷
      CommandResult 35 results.No ∷
      CommandResult 36 results.No ∷
      CommandResult 37 (results.Yes values.Void false) ∷
      CommandResult 38 results.No ∷
      CommandResult 39 results.No ∷
      CommandResult 40 results.No ∷
      CommandResult 41 results.No ∷
      CommandResult 42 results.No ∷
      CommandResult 43 (results.Code InvalidInstance) ∷
      CommandResult 44 (results.Code InvalidInstance) ∷
      CommandResult 45 results.No ∷ []);
  rests = true;
}
unfolding encoding digits is_text is_utf8 chars encode_utf8
cut-248 = refl

-- the plug-in's first 452 bytes hold 31 whole messages
cut-452 : lost_outcome 1500 (Some 31) page plugin ≡ record {
  page = (
      Created (record { side = sides.Page; instance = 1; serial = 1 }) ∷
      CommandResult 1 (results.Code NoError) ∷
      CommandResult 2 (results.Yes (values.Object (record { side = sides.Plug; instance = 1; serial = 2 })) false) ∷
      Created (record { side = sides.Page; instance = 1; serial = 2 }) ∷
      CommandResult 3 (results.Yes (values.Object (record { side = sides.Page; instance = 1; serial = 2 })) false) ∷
      Created (record { side = sides.Page; instance = 1; serial = 3 }) ∷
      CommandResult 4 (results.Yes (values.Object (record { side = sides.Page; instance = 1; serial = 3 })) false) ∷
      CommandResult 5 (results.Code NoError) ∷
      CommandResult 6 (results.Code NoError) ∷
      CommandResult 7 (results.Code NoError) ∷
      Entered (record { side = sides.Page; instance = 1; serial = 1 }) (ops.Invoke (Str (codes "take"))) ∷
      StreamAnswered 1 (streams.New (pos 4)) ∷
      Entered (record { side = sides.Page; instance = 1; serial = 1 }) (ops.Invoke (Str (codes "m3"))) ∷
      Created (record { side = sides.Page; instance = 1; serial = 4 }) ∷
      Created (record { side = sides.Page; instance = 1; serial = 5 }) ∷
      Deallocated (record { side = sides.Page; instance = 1; serial = 5 }) ∷
      Deallocated (record { side = sides.Page; instance = 1; serial = 4 }) ∷
      CommandResult 8 (results.Pumped 1) ∷
      CommandResult 9 (results.Yes values.Void false) ∷
      StreamAnswered 1 streams.File ∷
      StreamAnswered 1 (streams.Destroy reasons.NetworkErr) ∷
      Entered (record { side = sides.Page; instance = 1; serial = 1 }) (ops.Invoke (Str (codes "take"))) ∷
      StreamAnswered 2 (streams.New (pos 4)) ∷
      StreamAnswered 2 streams.File ∷
      StreamAnswered 2 (streams.Destroy reasons.NetworkErr) ∷
      Entered (record { side = sides.Page; instance = 1; serial = 1 }) (ops.Invoke (Str (codes "take"))) ∷
      StreamAnswered 3 (streams.New (pos 4)) ∷
      StreamAnswered 3 streams.File ∷
      StreamAnswered 3 (streams.Destroy reasons.NetworkErr) ∷
      CommandResult 10 (results.Pumped 8) ∷
      CommandResult 11 (results.Code NoError) ∷
      Entered (record { side = sides.Page; instance = 1; serial = 2 }) (ops.Put (Str (codes "f0"))) ∷
      CommandResult 12 (results.Yes values.Void false) ∷
      Entered (record { side = sides.Page; instance = 1; serial = 1 }) (ops.Invoke (Str (codes "take"))) ∷
      StreamAnswered 4 (streams.New (pos 4)) ∷
      StreamAnswered 4 streams.File ∷
      CommandResult 13 (results.Pumped 2) ∷
      Entered (record { side = sides.Page; instance = 1; serial = 2 }) (ops.Invoke (Str (codes "m2"))) ∷
      Created (record { side = sides.Page; instance = 1; serial = 6 }) ∷
      Created (record { side = sides.Page; instance = 1; serial = 7 }) ∷
      Created (record { side = sides.Page; instance = 1; serial = 8 }) ∷
      Deallocated (record { side = sides.Page; instance = 1; serial = 6 }) ∷
      Deallocated (record { side = sides.Page; instance = 1; serial = 8 }) ∷
      Deallocated (record { side = sides.Page; instance = 1; serial = 7 }) ∷
      CommandResult 14 (results.Yes values.Void false) ∷
      CommandResult 15 (results.Yes values.Void false) ∷
      Entered (record { side = sides.Page; instance = 1; serial = 2 }) (ops.Invoke (IntKey (pos 4))) ∷
      Created (record { side = sides.Page; instance = 1; serial = 9 }) ∷
      Deallocated (record { side = sides.Page; instance = 1; serial = 9 }) ∷
      CommandResult 16 (results.Yes values.Void false) ∷
      Entered (record { side = sides.Page; instance = 1; serial = 2 }) (ops.Invoke (Str (codes "m1"))) ∷
      ProxyGone (record { side = sides.Plug; instance = 1; serial = 2 }) ∷
      Invalidated (record { side = sides.Page; instance = 1; serial = 1 }) ∷
      Invalidated (record { side = sides.Page; instance = 1; serial = 2 }) ∷
      Invalidated (record { side = sides.Page; instance = 1; serial = 3 }) ∷
      Deallocated (record { side = sides.Page; instance = 1; serial = 1 }) ∷
      Deallocated (record { side = sides.Page; instance = 1; serial = 2 }) ∷
      Deallocated (record { side = sides.Page; instance = 1; serial = 3 }) ∷
      CommandResult 17 results.No ∷
      Created (record { side = sides.Page; instance = 2; serial = 1 }) ∷
      CommandResult 18 (results.Code NoError) ∷
      Invalidated (record { side = sides.Page; instance = 2; serial = 1 }) ∷
      Deallocated (record { side = sides.Page; instance = 2; serial = 1 }) ∷
      CommandResult 19 results.No ∷
      CommandResult 20 (results.Pumped 0) ∷
      CommandResult 21 results.No ∷
      CommandResult 22 results.No ∷
      CommandResult 23 (results.Pumped 0) ∷
      CommandResult 24 results.No ∷
      CommandResult 25 results.No ∷
      CommandResult 26 (results.Yes values.Void false) ∷
      CommandResult 27 results.No ∷
      CommandResult 28 results.No ∷
      CommandResult 29 (results.Pumped 0) ∷
      CommandResult 30 (results.Code ModuleLoadFailed) ∷
      CommandResult 31 results.No ∷
      CommandResult 32 (results.Code InvalidInstance) ∷
      CommandResult 33 (results.Pumped 0) ∷
      CommandResult 34 (results.Code InvalidInstance) ∷
      CommandResult 35 results.No ∷
      CommandResult 36 results.No ∷
      CommandResult 37 (results.Yes values.Void false) ∷
      CommandResult 38 results.No ∷
      CommandResult 39 results.No ∷
      CommandResult 40 results.No ∷
      CommandResult 41 results.No ∷
      CommandResult 42 results.No ∷
      CommandResult 43 (results.Code InvalidInstance) ∷
      CommandResult 44 (results.Code InvalidInstance) ∷
      CommandResult 45 results.No ∷ []);
  rests = true;
}
unfolding encoding digits is_text is_utf8 chars encode_utf8
cut-452 = refl
