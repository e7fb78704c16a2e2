-- Made by tools/vector-theorems of tests/vectors/10-007.
use Rattle.std.proofs.Common.{◌≡◌, pos, negsuc, [], ◌∷◌, refl, true, false, Some}
use Rattle.std.specs.Prelude.{codes}
use Rattle.std.specs.Char.{encode_utf8}
use Rattle.std.specs.Fmt.{digits}
use Rattle.std.specs.Str.{is_utf8, chars}
use Rattle.np_values.specs.declared.error.NpError.TheVariants.{NoError, InvalidInstance, ModuleLoadFailed}
use Rattle.np_values.specs.declared.handler.Handler.TheVariants as handlers
use Rattle.np_values.specs.declared.name.Side.TheVariants as sides
use Rattle.np_values.specs.declared.reason.NpReason.TheVariants as reasons
use Rattle.np_values.specs.declared.value.Value.TheVariants as values
use Rattle.np_values.specs.Text.{is_text}
use Rattle.np_idents.specs.declared.key.IdKey.TheVariants.{Str, Int as IntKey}
use Rattle.np_idents.specs.declared.op.Op.TheVariants as ops
use Rattle.np_script_grammar.specs.declared.action.Action.TheVariants as actions
use Rattle.np_script_grammar.specs.declared.action.Operand.TheVariants.{Reg, Const}
use Rattle.np_script_grammar.specs.declared.class.Member.TheVariants as members
use Rattle.np_script_grammar.specs.declared.command.Command.TheVariants as commands
use Rattle.np_script_grammar.specs.declared.page.Page.{Page}
use Rattle.np_script_grammar.specs.declared.plugin.Plugin.{Plugin}
use Rattle.np_message.specs.Encoding.{encoding}
use Rattle.np_journal.specs.declared.line.Line.TheVariants.{Created, Entered, HandlerRun, ProxyGone, Invalidated, Deallocated, Noted, StreamAnswered, CommandResult}
use Rattle.np_journal.specs.declared.printed.Printed.TheVariants as results
use Rattle.np_journal.specs.declared.streamed.Streamed.TheVariants as streams
use Rattle.np_machine_plans.specs.AtOnce.{orderly_along}
use Rattle.np_machine_plans.specs.Outcomes.{resource, outcome, direct_outcome, page_bytes, plugin_bytes, lost_outcome}

abbrev page : Page
page = record {
  major = 0;
  minor = 27;
  classes = (
      (record {
        name = codes "Window";
        version = 3;
        stored = false;
        members = (
            members.Method (IntKey (pos 4)) (actions.Load 2 0 ∷ actions.New 2 (codes "A") ∷ actions.OnFalse 2 ∷ actions.New 4 (codes "Window") ∷ actions.Load 2 3 ∷ []) ∷
            members.Method (Str (codes "m2")) (actions.New 5 (codes "B") ∷ actions.New 3 (codes "A") ∷ actions.Load 3 1 ∷ actions.Invoke 5 (Reg 3) (IntKey (pos 4)) (Reg 3 ∷ Reg 0 ∷ Reg 3 ∷ []) ∷ []) ∷
            members.Method (Str (codes "m1")) (actions.SelfTo 2 ∷ actions.New 2 (codes "A") ∷ actions.Invoke 3 (Reg 2) (IntKey (pos 4)) (Reg 2 ∷ Const (values.Double (0 ∷ 1 ∷ 2 ∷ 3 ∷ 4 ∷ 5 ∷ 6 ∷ 7 ∷ [])) ∷ Reg 0 ∷ []) ∷ actions.New 3 (codes "A") ∷ actions.Enumerate 1 (Reg 0) ∷ actions.Load 0 1 ∷ []) ∷
            members.Default (actions.SelfTo 2 ∷ actions.Load 3 1 ∷ []) ∷
            members.Method (Str (codes "m3")) (actions.Load 3 1 ∷ actions.Load 3 2 ∷ []) ∷
            members.Method (Str (codes "take")) (actions.Load 2 2 ∷ actions.Load 3 1 ∷ actions.Note (Reg 1) ∷ actions.Slot 2 (Reg 0) ∷ actions.Load 2 0 ∷ actions.Return (Reg 3) ∷ []) ∷
            members.Method (Str (codes "m0")) (actions.New 2 (codes "A") ∷ actions.Invoke 0 (Const (values.Double (0 ∷ 1 ∷ 2 ∷ 3 ∷ 4 ∷ 5 ∷ 6 ∷ 7 ∷ []))) (Str (codes "m2")) (Const (values.Double (0 ∷ 1 ∷ 2 ∷ 3 ∷ 4 ∷ 5 ∷ 6 ∷ 7 ∷ [])) ∷ Reg 3 ∷ Reg 3 ∷ []) ∷ actions.SelfTo 0 ∷ actions.Load 0 2 ∷ actions.New 4 (codes "B") ∷ actions.New 5 (codes "A") ∷ actions.New 3 (codes "A") ∷ actions.Put (Reg 4) (IntKey (pos 7)) (Reg 5) ∷ actions.New 5 (codes "A") ∷ actions.Put (Reg 4) (Str (codes "f0")) (Reg 5) ∷ actions.Put (Reg 4) (Str (codes "f1")) (Reg 5) ∷ actions.Drop 5 ∷ actions.Slot 0 (Reg 4) ∷ actions.Drop 4 ∷ []) ∷ []);
      }) ∷
      (record {
        name = codes "A";
        version = 3;
        stored = true;
        members = (
            members.Method (Str (codes "m1")) (actions.Load 2 0 ∷ actions.SelfTo 2 ∷ actions.New 1 (codes "A") ∷ actions.New 2 (codes "Window") ∷ actions.Drop 0 ∷ []) ∷
            members.Method (Str (codes "m0")) (actions.Load 2 0 ∷ actions.Load 3 0 ∷ []) ∷
            members.Method (Str (codes "take")) (actions.Load 5 1 ∷ []) ∷
            members.Method (Str (codes "m3")) (actions.SelfTo 2 ∷ actions.Load 1 1 ∷ actions.Load 0 3 ∷ actions.New 1 (codes "B") ∷ actions.Invoke 3 (Reg 1) (Str (codes "take")) (Reg 2 ∷ Reg 0 ∷ []) ∷ actions.Get 0 (Reg 1) (Str (codes "f1")) ∷ []) ∷
            members.Setter (Str (codes "f0")) (actions.New 1 (codes "Window") ∷ actions.New 1 (codes "Window") ∷ actions.New 3 (codes "Window") ∷ actions.Drop 3 ∷ actions.Invoke 1 (Reg 0) (IntKey (pos 4)) (Reg 3 ∷ Const (values.Int (negsuc 2147483647)) ∷ Reg 3 ∷ Reg 0 ∷ Const values.Null ∷ Const (values.Text (codes "e")) ∷ Reg 2 ∷ Const values.Null ∷ []) ∷ actions.Load 3 3 ∷ []) ∷
            members.Default (actions.Load 2 2 ∷ actions.New 2 (codes "Window") ∷ actions.Put (Reg 0) (Str (codes "f1")) (Reg 3) ∷ actions.OnFalse 2 ∷ actions.Invoke 0 (Reg 2) (IntKey (pos 4)) (Reg 3 ∷ Reg 3 ∷ Reg 0 ∷ []) ∷ []) ∷
            members.Method (Str (codes "m2")) [] ∷
            members.Method (IntKey (pos 4)) (actions.Load 3 2 ∷ actions.Load 0 3 ∷ actions.Load 2 0 ∷ actions.Invoke 3 (Reg 3) (Str (codes "take")) [] ∷ []) ∷ []);
      }) ∷
      (record {
        name = codes "B";
        version = 2;
        stored = false;
        members = (
            members.Method (Str (codes "m3")) (actions.Load 4 2 ∷ actions.SelfTo 2 ∷ actions.OnFalse 2 ∷ []) ∷
            members.Method (Str (codes "m2")) [] ∷
            members.Method (Str (codes "m1")) (actions.Load 1 2 ∷ actions.Return (Reg 5) ∷ actions.Load 5 1 ∷ []) ∷
            members.Method (Str (codes "m0")) (actions.Load 3 1 ∷ actions.Note (Reg 0) ∷ actions.Drop 0 ∷ []) ∷
            members.Setter (Str (codes "f1")) (actions.Load 2 2 ∷ actions.Load 2 0 ∷ actions.Return (Reg 0) ∷ actions.Throw (codes "no") ∷ actions.Fail ∷ actions.Load 1 3 ∷ []) ∷
            members.Default [] ∷
            members.Method (IntKey (pos 4)) (actions.SelfTo 2 ∷ actions.Invoke 2 (Reg 0) (Str (codes "take")) (Reg 5 ∷ Const (values.Int (pos 1)) ∷ []) ∷ actions.Slot 2 (Reg 1) ∷ []) ∷
            members.Construct (actions.Load 3 2 ∷ actions.Load 1 2 ∷ actions.Load 2 1 ∷ actions.Set 1 (Reg 1) ∷ []) ∷ []);
      }) ∷ []);
  resources = (
      resource (codes "r") (codes "t/p") 1 (codes "abc") ∷
      resource (codes "e") (codes "t/p") 0 (120 ∷ 1 ∷ 34 ∷ []) ∷ []);
  commands = (
      commands.Create (codes "t/x") 2 (codes "a" ∷ codes "1" ∷ []) ∷
      commands.Scriptable 0 1 ∷
      commands.Create (codes "t/x") 1 [] ∷
      commands.Scriptable 1 2 ∷
      commands.New 2 1 (codes "B") ∷
      commands.New 3 2 (codes "Window") ∷
      commands.OpenStream 1 (codes "r") ∷
      commands.OpenStream 1 (codes "r") ∷
      commands.OpenStream 1 (codes "r") ∷
      commands.Pump 1 ∷
      commands.Pump 2 ∷
      commands.Invoke 4 (Reg 1) (IntKey (pos 4)) (Reg 1 ∷ Reg 1 ∷ Reg 1 ∷ Reg 1 ∷ Reg 1 ∷ Reg 2 ∷ Const (values.Int (pos 0)) ∷ Reg 0 ∷ []) ∷
      commands.OpenStream 2 (codes "e") ∷
      commands.Invoke 2 (Reg 1) (IntKey (pos 4)) (Reg 0 ∷ []) ∷
      commands.Pump 3 ∷
      commands.Destroy 1 ∷
      commands.Create (codes "t/y") 2 [] ∷
      commands.Scriptable 1 3 ∷
      commands.New 4 1 (codes "B") ∷
      commands.Invoke 5 (Reg 0) (Str (codes "m2")) (Reg 4 ∷ []) ∷
      commands.Drop 4 ∷
      commands.Invoke 4 (Reg 0) (Str (codes "m1")) [] ∷
      commands.New 0 3 (codes "B") ∷
      commands.Get 3 (Reg 1) (Str (codes "f0")) ∷
      commands.Pump 4 ∷
      commands.Note (Reg 1) ∷
      commands.Pump 5 ∷ []);
}

abbrev plugin : Plugin
plugin = record {
  major = 1;
  minor = 27;
  classes = (
      (record {
        name = codes "Main";
        version = 3;
        stored = false;
        members = (
            members.Method (Str (codes "m2")) [] ∷
            members.Setter (Str (codes "f1")) (actions.OnFalse 3 ∷ []) ∷
            members.Method (Str (codes "m1")) (actions.Load 0 2 ∷ actions.Load 2 0 ∷ actions.Add 0 (Reg 1) (Const (values.Text [])) ∷ []) ∷
            members.Getter (IntKey (pos 7)) (actions.SelfTo 2 ∷ actions.New 4 (codes "T") ∷ actions.New 1 (codes "U") ∷ actions.New 2 (codes "T") ∷ []) ∷
            members.Method (Str (codes "m3")) [] ∷
            members.Method (Str (codes "take")) [] ∷
            members.Method (IntKey (pos 4)) (actions.Note (Reg 2) ∷ actions.Remove (Reg 1) (Str (codes "f0")) ∷ actions.RequestRead 3 (Const (values.Int (pos 2))) ((record { offset = pos 1; length = 1 }) ∷ (record { offset = negsuc 1; length = 3 }) ∷ []) ∷ actions.RequestRead 2 (Const (values.Int (pos 2))) ((record { offset = negsuc 1; length = 9000 }) ∷ []) ∷ []) ∷ []);
      }) ∷
      (record {
        name = codes "T";
        version = 3;
        stored = false;
        members = (
            members.Default (actions.Load 2 0 ∷ actions.Load 3 0 ∷ []) ∷
            members.Method (Str (codes "m2")) (actions.Load 3 1 ∷ actions.New 1 (codes "U") ∷ actions.SelfTo 1 ∷ []) ∷
            members.Method (Str (codes "take")) (actions.Load 3 1 ∷ actions.Load 0 2 ∷ actions.New 5 (codes "T") ∷ actions.New 3 (codes "Main") ∷ actions.New 4 (codes "U") ∷ actions.RequestRead 2 (Const (values.Int (pos 2))) ((record { offset = negsuc 0; length = 2 }) ∷ (record { offset = pos 2; length = 3 }) ∷ (record { offset = pos 2; length = 1 }) ∷ (record { offset = pos 0; length = 9000 }) ∷ []) ∷ []) ∷
            members.Method (Str (codes "m3")) (actions.New 1 (codes "T") ∷ actions.New 3 (codes "T") ∷ []) ∷
            members.Method (Str (codes "m0")) (actions.Load 2 2 ∷ actions.Invoke 3 (Reg 3) (Str (codes "m1")) (Reg 4 ∷ Reg 1 ∷ Reg 1 ∷ []) ∷ actions.RequestRead 3 (Const (values.Int (pos 4))) ((record { offset = negsuc 0; length = 2 }) ∷ []) ∷ actions.RequestRead 0 (Const (values.Int (pos 2))) ((record { offset = pos 4; length = 1 }) ∷ (record { offset = pos 5; length = 4294967295 }) ∷ (record { offset = negsuc 5; length = 4294967295 }) ∷ (record { offset = pos 10; length = 4294967295 }) ∷ []) ∷ actions.RequestRead 3 (Reg 0) ((record { offset = pos 2; length = 4294967295 }) ∷ (record { offset = negsuc 0; length = 2 }) ∷ []) ∷ []) ∷
            members.Method (IntKey (pos 4)) (actions.Load 2 0 ∷ actions.Invoke 3 (Reg 3) (Str (codes "take")) (Reg 0 ∷ Reg 3 ∷ Reg 2 ∷ []) ∷ actions.New 3 (codes "T") ∷ actions.EndStream 14 (Const (values.Int (pos 2))) reasons.Done ∷ actions.New 0 (codes "U") ∷ actions.RequestRead 2 (Const (values.Int (pos 1))) ((record { offset = pos 1; length = 5 }) ∷ []) ∷ []) ∷
            members.Method (Str (codes "m1")) (actions.Load 3 1 ∷ actions.New 1 (codes "T") ∷ actions.New 4 (codes "U") ∷ actions.New 3 (codes "Main") ∷ actions.RequestRead 2 (Reg 0) ((record { offset = pos 0; length = 2 }) ∷ []) ∷ []) ∷ []);
      }) ∷
      (record {
        name = codes "U";
        version = 3;
        stored = true;
        members = (
            members.Method (Str (codes "m1")) (actions.Load 2 0 ∷ actions.SelfTo 2 ∷ actions.New 1 (codes "U") ∷ actions.GetUrl 3 (Const (values.Text (codes "nowhere"))) (pos 6) ∷ actions.New 3 (codes "U") ∷ actions.New 5 (codes "Main") ∷ actions.Load 0 2 ∷ []) ∷
            members.Construct (actions.Load 0 2 ∷ actions.Get 1 (Reg 0) (Str (codes "f0")) ∷ actions.Put (Reg 0) (Str (codes "f0")) (Reg 1) ∷ []) ∷
            members.Method (Str (codes "m0")) (actions.New 1 (codes "Main") ∷ actions.Slot 3 (Reg 0) ∷ actions.New 3 (codes "Main") ∷ actions.Drop 2 ∷ actions.Window 9 ∷ actions.Invoke 0 (Reg 13) (Str (codes "m1")) (Reg 1 ∷ Reg 5 ∷ []) ∷ []) ∷
            members.Method (IntKey (pos 4)) (actions.Load 3 1 ∷ actions.Load 2 0 ∷ actions.New 2 (codes "U") ∷ []) ∷
            members.Method (Str (codes "m2")) (actions.Load 2 0 ∷ actions.New 5 (codes "T") ∷ actions.EndStream 0 (Const (values.Int (pos 2))) reasons.NetworkErr ∷ actions.New 4 (codes "T") ∷ actions.RequestRead 3 (Const (values.Int (pos 3))) ((record { offset = pos 1; length = 9000 }) ∷ (record { offset = negsuc 1; length = 3 }) ∷ []) ∷ []) ∷
            members.Default (actions.Load 3 2 ∷ actions.Load 2 0 ∷ actions.Invoke 0 (Reg 3) (IntKey (pos 4)) (Reg 2 ∷ Const (values.Bool true) ∷ Reg 2 ∷ []) ∷ actions.New 4 (codes "T") ∷ actions.New 5 (codes "Main") ∷ actions.Put (Reg 4) (Str (codes "f0")) (Reg 5) ∷ actions.New 5 (codes "T") ∷ actions.Put (Reg 4) (IntKey (pos 7)) (Reg 3) ∷ actions.Drop 5 ∷ actions.Return (Reg 4) ∷ []) ∷ []);
      }) ∷ []);
  handlers = (
      (record { which = handlers.New; body = (actions.New 0 (codes "Main") ∷ actions.Slot 0 (Reg 0) ∷ actions.Window 1 ∷ actions.Slot 1 (Reg 1) ∷ actions.Load 3 2 ∷ actions.Load 3 1 ∷ actions.Enumerate 3 (Reg 2) ∷ []) }) ∷
      (record { which = handlers.Scriptable; body = (actions.Load 0 0 ∷ actions.Return (Reg 0) ∷ []) }) ∷
      (record { which = handlers.Write; body = [] }) ∷
      (record { which = handlers.AsFile; body = (actions.EndStream 4 (Reg 0) reasons.NetworkErr ∷ actions.Later (codes "v") ∷ []) }) ∷
      (record { which = handlers.DestroyStream; body = (actions.Load 2 0 ∷ actions.Invoke 3 (Reg 3) (Str (codes "m3")) (Reg 3 ∷ Reg 2 ∷ Reg 3 ∷ []) ∷ actions.Invoke 3 (Reg 1) (Str (codes "take")) [] ∷ actions.GetUrl 3 (Const (values.Text (codes "e"))) (negsuc 1) ∷ []) }) ∷
      (record { which = handlers.UrlNotify; body = [] }) ∷ []);
  tasks = (
      (record { name = codes "t"; body = (actions.Load 1 1 ∷ actions.Load 0 1 ∷ actions.Load 0 2 ∷ actions.Load 3 1 ∷ actions.Invoke 2 (Reg 0) (Str (codes "m2")) (Reg 0 ∷ Reg 0 ∷ []) ∷ actions.Enumerate 3 (Reg 1) ∷ actions.RequestRead 3 (Const (values.Int (pos 2))) ((record { offset = negsuc 2; length = 4294967295 }) ∷ (record { offset = pos 2; length = 3 }) ∷ (record { offset = negsuc 0; length = 4294967295 }) ∷ (record { offset = pos 0; length = 3 }) ∷ []) ∷ actions.Load 3 1 ∷ actions.Invoke 2 (Reg 1) (Str (codes "m2")) (Reg 3 ∷ Reg 3 ∷ []) ∷ actions.RequestRead 5 (Const (values.Int (pos 1))) ((record { offset = pos 2; length = 4294967295 }) ∷ (record { offset = negsuc 0; length = 3 }) ∷ []) ∷ actions.Return (Reg 2) ∷ []) }) ∷
      (record { name = codes "u"; body = (actions.Load 1 1 ∷ actions.Load 0 2 ∷ actions.Load 3 1 ∷ actions.SelfTo 2 ∷ actions.RequestRead 1 (Const (values.Int (pos 3))) ((record { offset = negsuc 2; length = 1 }) ∷ []) ∷ actions.Invoke 2 (Reg 1) (Str (codes "m3")) [] ∷ actions.Return (Reg 0) ∷ []) }) ∷
      (record { name = codes "v"; body = (actions.Load 1 1 ∷ actions.Load 0 1 ∷ actions.Load 0 2 ∷ actions.New 1 (codes "Main") ∷ actions.Put (Reg 1) (IntKey (pos 7)) (Reg 3) ∷ actions.New 3 (codes "Main") ∷ actions.New 4 (codes "T") ∷ actions.Put (Reg 1) (Str (codes "f0")) (Const (values.Int (pos 0))) ∷ actions.New 3 (codes "T") ∷ actions.Invoke 3 (Reg 1) (Str (codes "m0")) (Reg 1 ∷ Reg 1 ∷ Reg 0 ∷ []) ∷ actions.Load 2 2 ∷ actions.Load 2 0 ∷ actions.Load 2 1 ∷ actions.New 0 (codes "T") ∷ actions.New 3 (codes "U") ∷ actions.New 5 (codes "U") ∷ actions.Put (Reg 0) (Str (codes "f1")) (Reg 1) ∷ actions.Put (Reg 0) (Str (codes "f1")) (Reg 0) ∷ actions.Slot 3 (Reg 0) ∷ actions.Enumerate 1 (Reg 0) ∷ []) }) ∷ []);
}

-- the run of both
both-end : outcome 1500 page plugin ≡ record {
  page = (
      Created (record { side = sides.Page; instance = 1; serial = 1 }) ∷
      CommandResult 1 (results.Code NoError) ∷
      CommandResult 2 (results.Yes (values.Object (record { side = sides.Plug; instance = 1; serial = 1 })) false) ∷
      Created (record { side = sides.Page; instance = 2; serial = 1 }) ∷
      CommandResult 3 (results.Code NoError) ∷
      CommandResult 4 (results.Yes (values.Object (record { side = sides.Plug; instance = 2; serial = 1 })) false) ∷
      Created (record { side = sides.Page; instance = 1; serial = 2 }) ∷
      CommandResult 5 (results.Yes (values.Object (record { side = sides.Page; instance = 1; serial = 2 })) false) ∷
      Created (record { side = sides.Page; instance = 2; serial = 2 }) ∷
      CommandResult 6 (results.Yes (values.Object (record { side = sides.Page; instance = 2; serial = 2 })) false) ∷
      CommandResult 7 (results.Code NoError) ∷
      CommandResult 8 (results.Code NoError) ∷
      CommandResult 9 (results.Code NoError) ∷
      StreamAnswered 1 (streams.New (pos 1)) ∷
      CommandResult 10 (results.Pumped 1) ∷
      StreamAnswered 1 (streams.Ready (pos 2147483647)) ∷
      StreamAnswered 1 (streams.Write 0 3 (pos 3)) ∷
      CommandResult 11 (results.Pumped 2) ∷
      CommandResult 12 (results.Yes values.Void false) ∷
      CommandResult 13 (results.Code NoError) ∷
      Deallocated (record { side = sides.Page; instance = 1; serial = 2 }) ∷
      CommandResult 14 (results.Yes values.Void false) ∷
      StreamAnswered 1 (streams.Destroy reasons.Done) ∷
      StreamAnswered 2 (streams.New (pos 1)) ∷
      StreamAnswered 2 (streams.Ready (pos 2147483647)) ∷
      CommandResult 15 (results.Pumped 3) ∷
      ProxyGone (record { side = sides.Plug; instance = 1; serial = 1 }) ∷
      Invalidated (record { side = sides.Page; instance = 1; serial = 1 }) ∷
      Deallocated (record { side = sides.Page; instance = 1; serial = 1 }) ∷
      CommandResult 16 (results.Code NoError) ∷
      Created (record { side = sides.Page; instance = 3; serial = 1 }) ∷
      CommandResult 17 (results.Code NoError) ∷
      CommandResult 18 (results.Yes (values.Object (record { side = sides.Plug; instance = 3; serial = 1 })) false) ∷
      CommandResult 19 results.No ∷
      CommandResult 20 results.No ∷
      CommandResult 21 (results.Yes values.Void false) ∷
      CommandResult 22 results.No ∷
      Created (record { side = sides.Page; instance = 3; serial = 2 }) ∷
      CommandResult 23 (results.Yes (values.Object (record { side = sides.Page; instance = 3; serial = 2 })) false) ∷
      Deallocated (record { side = sides.Page; instance = 2; serial = 2 }) ∷
      CommandResult 24 results.No ∷
      StreamAnswered 4 (streams.New (pos 1)) ∷
      StreamAnswered 4 (streams.Destroy reasons.Done) ∷
      StreamAnswered 6 (streams.New (pos 1)) ∷
      StreamAnswered 6 (streams.Destroy reasons.Done) ∷
      CommandResult 25 (results.Pumped 4) ∷
      Noted (values.Object (record { side = sides.Plug; instance = 3; serial = 1 })) false ∷
      CommandResult 26 (results.Yes values.Void false) ∷
      StreamAnswered 6 (streams.Notify reasons.Done) ∷
      StreamAnswered 7 (streams.New (pos 1)) ∷
      StreamAnswered 7 (streams.Destroy reasons.Done) ∷
      StreamAnswered 7 (streams.Notify reasons.Done) ∷
      StreamAnswered 8 (streams.New (pos 1)) ∷
      CommandResult 27 (results.Pumped 5) ∷
      Invalidated (record { side = sides.Page; instance = 2; serial = 1 }) ∷
      Deallocated (record { side = sides.Page; instance = 2; serial = 1 }) ∷
      ProxyGone (record { side = sides.Plug; instance = 3; serial = 1 }) ∷
      Invalidated (record { side = sides.Page; instance = 3; serial = 1 }) ∷
      Invalidated (record { side = sides.Page; instance = 3; serial = 2 }) ∷
      Deallocated (record { side = sides.Page; instance = 3; serial = 1 }) ∷
      Deallocated (record { side = sides.Page; instance = 3; serial = 2 }) ∷ []);
  plugin = (
      HandlerRun 1 handlers.New ∷
      Created (record { side = sides.Plug; instance = 1; serial = 1 }) ∷
      HandlerRun 1 handlers.Scriptable ∷
      HandlerRun 2 handlers.New ∷
      Created (record { side = sides.Plug; instance = 2; serial = 1 }) ∷
      HandlerRun 2 handlers.Scriptable ∷
      HandlerRun 1 handlers.Write ∷
      Entered (record { side = sides.Plug; instance = 2; serial = 1 }) (ops.Invoke (IntKey (pos 4))) ∷
      Noted (values.Object (record { side = sides.Plug; instance = 2; serial = 1 })) false ∷
      Entered (record { side = sides.Plug; instance = 2; serial = 1 }) (ops.Invoke (IntKey (pos 4))) ∷
      Noted values.Void false ∷
      HandlerRun 1 handlers.DestroyStream ∷
      ProxyGone (record { side = sides.Page; instance = 1; serial = 1 }) ∷
      Invalidated (record { side = sides.Plug; instance = 1; serial = 1 }) ∷
      Deallocated (record { side = sides.Plug; instance = 1; serial = 1 }) ∷
      HandlerRun 3 handlers.New ∷
      Created (record { side = sides.Plug; instance = 3; serial = 1 }) ∷
      HandlerRun 3 handlers.Scriptable ∷
      HandlerRun 2 handlers.DestroyStream ∷
      HandlerRun 2 handlers.DestroyStream ∷
      HandlerRun 2 handlers.UrlNotify ∷
      HandlerRun 2 handlers.DestroyStream ∷
      HandlerRun 2 handlers.UrlNotify ∷
      ProxyGone (record { side = sides.Page; instance = 2; serial = 1 }) ∷
      Invalidated (record { side = sides.Plug; instance = 2; serial = 1 }) ∷
      Deallocated (record { side = sides.Plug; instance = 2; serial = 1 }) ∷
      ProxyGone (record { side = sides.Page; instance = 3; serial = 1 }) ∷
      Invalidated (record { side = sides.Plug; instance = 3; serial = 1 }) ∷
      Deallocated (record { side = sides.Plug; instance = 3; serial = 1 }) ∷ []);
  files = [];
  rests = true;
}
unfolding encoding digits is_text is_utf8 chars encode_utf8
both-end = refl

-- the direct run
direct-run : direct_outcome 3000 page plugin ≡ record {
  page = (
      Created (record { side = sides.Page; instance = 1; serial = 1 }) ∷
      CommandResult 1 (results.Code NoError) ∷
      CommandResult 2 (results.Yes (values.Object (record { side = sides.Plug; instance = 1; serial = 1 })) false) ∷
      Created (record { side = sides.Page; instance = 2; serial = 1 }) ∷
      CommandResult 3 (results.Code NoError) ∷
      CommandResult 4 (results.Yes (values.Object (record { side = sides.Plug; instance = 2; serial = 1 })) false) ∷
      Created (record { side = sides.Page; instance = 1; serial = 2 }) ∷
      CommandResult 5 (results.Yes (values.Object (record { side = sides.Page; instance = 1; serial = 2 })) false) ∷
      Created (record { side = sides.Page; instance = 2; serial = 2 }) ∷
      CommandResult 6 (results.Yes (values.Object (record { side = sides.Page; instance = 2; serial = 2 })) false) ∷
      CommandResult 7 (results.Code NoError) ∷
      CommandResult 8 (results.Code NoError) ∷
      CommandResult 9 (results.Code NoError) ∷
      StreamAnswered 1 (streams.New (pos 1)) ∷
      CommandResult 10 (results.Pumped 1) ∷
      StreamAnswered 1 (streams.Ready (pos 2147483647)) ∷
      StreamAnswered 1 (streams.Write 0 3 (pos 3)) ∷
      CommandResult 11 (results.Pumped 2) ∷
      CommandResult 12 (results.Yes values.Void false) ∷
      CommandResult 13 (results.Code NoError) ∷
      Deallocated (record { side = sides.Page; instance = 1; serial = 2 }) ∷
      CommandResult 14 (results.Yes values.Void false) ∷
      StreamAnswered 1 (streams.Destroy reasons.Done) ∷
      StreamAnswered 2 (streams.New (pos 1)) ∷
      StreamAnswered 2 (streams.Ready (pos 2147483647)) ∷
      CommandResult 15 (results.Pumped 3) ∷
      ProxyGone (record { side = sides.Plug; instance = 1; serial = 1 }) ∷
      Invalidated (record { side = sides.Page; instance = 1; serial = 1 }) ∷
      Deallocated (record { side = sides.Page; instance = 1; serial = 1 }) ∷
      CommandResult 16 (results.Code NoError) ∷
      Created (record { side = sides.Page; instance = 3; serial = 1 }) ∷
      CommandResult 17 (results.Code NoError) ∷
      CommandResult 18 (results.Yes (values.Object (record { side = sides.Plug; instance = 3; serial = 1 })) false) ∷
      CommandResult 19 results.No ∷
      CommandResult 20 results.No ∷
      CommandResult 21 (results.Yes values.Void false) ∷
      CommandResult 22 results.No ∷
      Created (record { side = sides.Page; instance = 3; serial = 2 }) ∷
      CommandResult 23 (results.Yes (values.Object (record { side = sides.Page; instance = 3; serial = 2 })) false) ∷
      Deallocated (record { side = sides.Page; instance = 2; serial = 2 }) ∷
      CommandResult 24 results.No ∷
      StreamAnswered 4 (streams.New (pos 1)) ∷
      StreamAnswered 4 (streams.Destroy reasons.Done) ∷
      StreamAnswered 6 (streams.New (pos 1)) ∷
      StreamAnswered 6 (streams.Destroy reasons.Done) ∷
      CommandResult 25 (results.Pumped 4) ∷
      Noted (values.Object (record { side = sides.Plug; instance = 3; serial = 1 })) false ∷
      CommandResult 26 (results.Yes values.Void false) ∷
      StreamAnswered 6 (streams.Notify reasons.Done) ∷
      StreamAnswered 7 (streams.New (pos 1)) ∷
      StreamAnswered 7 (streams.Destroy reasons.Done) ∷
      StreamAnswered 7 (streams.Notify reasons.Done) ∷
      StreamAnswered 8 (streams.New (pos 1)) ∷
      CommandResult 27 (results.Pumped 5) ∷
      Invalidated (record { side = sides.Page; instance = 2; serial = 1 }) ∷
      Deallocated (record { side = sides.Page; instance = 2; serial = 1 }) ∷
      ProxyGone (record { side = sides.Plug; instance = 3; serial = 1 }) ∷
      Invalidated (record { side = sides.Page; instance = 3; serial = 1 }) ∷
      Invalidated (record { side = sides.Page; instance = 3; serial = 2 }) ∷
      Deallocated (record { side = sides.Page; instance = 3; serial = 1 }) ∷
      Deallocated (record { side = sides.Page; instance = 3; serial = 2 }) ∷ []);
  plugin = (
      HandlerRun 1 handlers.New ∷
      Created (record { side = sides.Plug; instance = 1; serial = 1 }) ∷
      HandlerRun 1 handlers.Scriptable ∷
      HandlerRun 2 handlers.New ∷
      Created (record { side = sides.Plug; instance = 2; serial = 1 }) ∷
      HandlerRun 2 handlers.Scriptable ∷
      HandlerRun 1 handlers.Write ∷
      Entered (record { side = sides.Plug; instance = 2; serial = 1 }) (ops.Invoke (IntKey (pos 4))) ∷
      Noted (values.Object (record { side = sides.Plug; instance = 2; serial = 1 })) false ∷
      Entered (record { side = sides.Plug; instance = 2; serial = 1 }) (ops.Invoke (IntKey (pos 4))) ∷
      Noted values.Void false ∷
      HandlerRun 1 handlers.DestroyStream ∷
      ProxyGone (record { side = sides.Page; instance = 1; serial = 1 }) ∷
      Invalidated (record { side = sides.Plug; instance = 1; serial = 1 }) ∷
      Deallocated (record { side = sides.Plug; instance = 1; serial = 1 }) ∷
      HandlerRun 3 handlers.New ∷
      Created (record { side = sides.Plug; instance = 3; serial = 1 }) ∷
      HandlerRun 3 handlers.Scriptable ∷
      HandlerRun 2 handlers.DestroyStream ∷
      HandlerRun 2 handlers.DestroyStream ∷
      HandlerRun 2 handlers.UrlNotify ∷
      HandlerRun 2 handlers.DestroyStream ∷
      HandlerRun 2 handlers.UrlNotify ∷
      ProxyGone (record { side = sides.Page; instance = 2; serial = 1 }) ∷
      Invalidated (record { side = sides.Plug; instance = 2; serial = 1 }) ∷
      Deallocated (record { side = sides.Plug; instance = 2; serial = 1 }) ∷
      ProxyGone (record { side = sides.Page; instance = 3; serial = 1 }) ∷
      Invalidated (record { side = sides.Plug; instance = 3; serial = 1 }) ∷
      Deallocated (record { side = sides.Plug; instance = 3; serial = 1 }) ∷ []);
  files = [];
  rests = true;
}
unfolding encoding digits is_text is_utf8 chars encode_utf8
direct-run = refl

-- each message is delivered at once, and none is refused
orderly-in-rounds : orderly_along (sides.Page ∷ sides.Plug ∷ []) 700 page plugin ≡ true
unfolding encoding digits is_text is_utf8 chars encode_utf8
orderly-in-rounds = refl

-- each message is delivered at once, and none is refused
orderly-page-ahead : orderly_along (sides.Page ∷ sides.Page ∷ sides.Page ∷ sides.Page ∷ sides.Page ∷ sides.Page ∷ sides.Plug ∷ []) 200 page plugin ≡ true
unfolding encoding digits is_text is_utf8 chars encode_utf8
orderly-page-ahead = refl

-- each message is delivered at once, and none is refused
orderly-plugin-ahead : orderly_along (sides.Page ∷ sides.Plug ∷ sides.Plug ∷ sides.Plug ∷ sides.Plug ∷ sides.Plug ∷ sides.Plug ∷ []) 200 page plugin ≡ true
unfolding encoding digits is_text is_utf8 chars encode_utf8
orderly-plugin-ahead = refl

-- all bytes that the page sends
page-sends : page_bytes 1500 page plugin ≡ (0 ∷ 0 ∷ 0 ∷ 7 ∷ 1 ∷ 1 ∷ 0 ∷ 0 ∷ 1 ∷ 0 ∷ 27 ∷ 0 ∷ 0 ∷ 0 ∷ 18 ∷ 2 ∷ 1 ∷ 0 ∷ 0 ∷ 1 ∷ 2 ∷ 0 ∷ 3 ∷ 116 ∷ 47 ∷ 120 ∷ 1 ∷ 0 ∷ 1 ∷ 97 ∷ 0 ∷ 1 ∷ 49 ∷ 0 ∷ 0 ∷ 0 ∷ 11 ∷ 65 ∷ 2 ∷ 0 ∷ 0 ∷ 6 ∷ 0 ∷ 1 ∷ 0 ∷ 0 ∷ 0 ∷ 1 ∷ 0 ∷ 0 ∷ 0 ∷ 5 ∷ 4 ∷ 1 ∷ 0 ∷ 0 ∷ 1 ∷ 0 ∷ 0 ∷ 0 ∷ 12 ∷ 2 ∷ 1 ∷ 0 ∷ 0 ∷ 2 ∷ 1 ∷ 0 ∷ 3 ∷ 116 ∷ 47 ∷ 120 ∷ 0 ∷ 0 ∷ 0 ∷ 0 ∷ 11 ∷ 65 ∷ 2 ∷ 0 ∷ 0 ∷ 6 ∷ 0 ∷ 2 ∷ 0 ∷ 0 ∷ 0 ∷ 1 ∷ 0 ∷ 0 ∷ 0 ∷ 5 ∷ 4 ∷ 1 ∷ 0 ∷ 0 ∷ 2 ∷ 0 ∷ 0 ∷ 0 ∷ 21 ∷ 6 ∷ 1 ∷ 0 ∷ 0 ∷ 1 ∷ 0 ∷ 0 ∷ 0 ∷ 1 ∷ 0 ∷ 1 ∷ 114 ∷ 0 ∷ 3 ∷ 116 ∷ 47 ∷ 112 ∷ 0 ∷ 0 ∷ 0 ∷ 3 ∷ 0 ∷ 0 ∷ 0 ∷ 9 ∷ 7 ∷ 1 ∷ 0 ∷ 0 ∷ 1 ∷ 0 ∷ 0 ∷ 0 ∷ 1 ∷ 0 ∷ 0 ∷ 0 ∷ 18 ∷ 8 ∷ 1 ∷ 0 ∷ 0 ∷ 1 ∷ 0 ∷ 0 ∷ 0 ∷ 1 ∷ 0 ∷ 0 ∷ 0 ∷ 0 ∷ 0 ∷ 3 ∷ 97 ∷ 98 ∷ 99 ∷ 0 ∷ 0 ∷ 0 ∷ 70 ∷ 64 ∷ 1 ∷ 0 ∷ 0 ∷ 2 ∷ 0 ∷ 0 ∷ 0 ∷ 1 ∷ 1 ∷ 1 ∷ 0 ∷ 0 ∷ 0 ∷ 4 ∷ 8 ∷ 6 ∷ 1 ∷ 2 ∷ 0 ∷ 0 ∷ 0 ∷ 1 ∷ 6 ∷ 1 ∷ 2 ∷ 0 ∷ 0 ∷ 0 ∷ 1 ∷ 6 ∷ 1 ∷ 2 ∷ 0 ∷ 0 ∷ 0 ∷ 1 ∷ 6 ∷ 1 ∷ 2 ∷ 0 ∷ 0 ∷ 0 ∷ 1 ∷ 6 ∷ 1 ∷ 2 ∷ 0 ∷ 0 ∷ 0 ∷ 1 ∷ 6 ∷ 0 ∷ 1 ∷ 0 ∷ 0 ∷ 0 ∷ 2 ∷ 3 ∷ 0 ∷ 0 ∷ 0 ∷ 0 ∷ 6 ∷ 1 ∷ 1 ∷ 0 ∷ 0 ∷ 0 ∷ 1 ∷ 0 ∷ 0 ∷ 0 ∷ 5 ∷ 69 ∷ 2 ∷ 0 ∷ 0 ∷ 9 ∷ 0 ∷ 0 ∷ 0 ∷ 5 ∷ 69 ∷ 2 ∷ 0 ∷ 0 ∷ 9 ∷ 0 ∷ 0 ∷ 0 ∷ 23 ∷ 64 ∷ 1 ∷ 0 ∷ 0 ∷ 2 ∷ 0 ∷ 0 ∷ 0 ∷ 1 ∷ 1 ∷ 1 ∷ 0 ∷ 0 ∷ 0 ∷ 4 ∷ 1 ∷ 6 ∷ 1 ∷ 1 ∷ 0 ∷ 0 ∷ 0 ∷ 1 ∷ 0 ∷ 0 ∷ 0 ∷ 5 ∷ 69 ∷ 2 ∷ 0 ∷ 0 ∷ 9 ∷ 0 ∷ 0 ∷ 0 ∷ 5 ∷ 69 ∷ 2 ∷ 0 ∷ 0 ∷ 9 ∷ 0 ∷ 0 ∷ 0 ∷ 10 ∷ 10 ∷ 1 ∷ 0 ∷ 0 ∷ 1 ∷ 0 ∷ 0 ∷ 0 ∷ 1 ∷ 0 ∷ 0 ∷ 0 ∷ 0 ∷ 5 ∷ 69 ∷ 2 ∷ 0 ∷ 0 ∷ 0 ∷ 0 ∷ 0 ∷ 0 ∷ 21 ∷ 6 ∷ 1 ∷ 0 ∷ 0 ∷ 1 ∷ 0 ∷ 0 ∷ 0 ∷ 2 ∷ 0 ∷ 1 ∷ 114 ∷ 0 ∷ 3 ∷ 116 ∷ 47 ∷ 112 ∷ 0 ∷ 0 ∷ 0 ∷ 3 ∷ 0 ∷ 0 ∷ 0 ∷ 9 ∷ 7 ∷ 1 ∷ 0 ∷ 0 ∷ 1 ∷ 0 ∷ 0 ∷ 0 ∷ 2 ∷ 0 ∷ 0 ∷ 0 ∷ 5 ∷ 3 ∷ 1 ∷ 0 ∷ 0 ∷ 1 ∷ 0 ∷ 0 ∷ 0 ∷ 12 ∷ 2 ∷ 1 ∷ 0 ∷ 0 ∷ 3 ∷ 2 ∷ 0 ∷ 3 ∷ 116 ∷ 47 ∷ 121 ∷ 0 ∷ 0 ∷ 0 ∷ 0 ∷ 11 ∷ 65 ∷ 2 ∷ 0 ∷ 0 ∷ 6 ∷ 0 ∷ 3 ∷ 0 ∷ 0 ∷ 0 ∷ 1 ∷ 0 ∷ 0 ∷ 0 ∷ 5 ∷ 4 ∷ 1 ∷ 0 ∷ 0 ∷ 3 ∷ 0 ∷ 0 ∷ 0 ∷ 24 ∷ 64 ∷ 1 ∷ 0 ∷ 1 ∷ 2 ∷ 0 ∷ 0 ∷ 0 ∷ 1 ∷ 0 ∷ 0 ∷ 0 ∷ 1 ∷ 3 ∷ 0 ∷ 0 ∷ 0 ∷ 1 ∷ 4 ∷ 0 ∷ 0 ∷ 2 ∷ 102 ∷ 48 ∷ 0 ∷ 0 ∷ 0 ∷ 21 ∷ 6 ∷ 1 ∷ 0 ∷ 0 ∷ 2 ∷ 0 ∷ 0 ∷ 0 ∷ 4 ∷ 0 ∷ 1 ∷ 101 ∷ 0 ∷ 3 ∷ 116 ∷ 47 ∷ 112 ∷ 0 ∷ 0 ∷ 0 ∷ 0 ∷ 0 ∷ 0 ∷ 0 ∷ 10 ∷ 10 ∷ 1 ∷ 0 ∷ 0 ∷ 2 ∷ 0 ∷ 0 ∷ 0 ∷ 4 ∷ 0 ∷ 0 ∷ 0 ∷ 0 ∷ 5 ∷ 69 ∷ 2 ∷ 0 ∷ 0 ∷ 0 ∷ 0 ∷ 0 ∷ 0 ∷ 21 ∷ 6 ∷ 1 ∷ 0 ∷ 0 ∷ 2 ∷ 0 ∷ 0 ∷ 0 ∷ 6 ∷ 0 ∷ 1 ∷ 101 ∷ 0 ∷ 3 ∷ 116 ∷ 47 ∷ 112 ∷ 0 ∷ 0 ∷ 0 ∷ 0 ∷ 0 ∷ 0 ∷ 0 ∷ 10 ∷ 10 ∷ 1 ∷ 0 ∷ 0 ∷ 2 ∷ 0 ∷ 0 ∷ 0 ∷ 6 ∷ 0 ∷ 0 ∷ 0 ∷ 0 ∷ 5 ∷ 69 ∷ 2 ∷ 0 ∷ 0 ∷ 0 ∷ 0 ∷ 0 ∷ 0 ∷ 13 ∷ 11 ∷ 1 ∷ 0 ∷ 0 ∷ 2 ∷ 0 ∷ 1 ∷ 101 ∷ 0 ∷ 255 ∷ 255 ∷ 255 ∷ 254 ∷ 0 ∷ 0 ∷ 0 ∷ 21 ∷ 6 ∷ 1 ∷ 0 ∷ 0 ∷ 2 ∷ 0 ∷ 0 ∷ 0 ∷ 7 ∷ 0 ∷ 1 ∷ 101 ∷ 0 ∷ 3 ∷ 116 ∷ 47 ∷ 112 ∷ 0 ∷ 0 ∷ 0 ∷ 0 ∷ 0 ∷ 0 ∷ 0 ∷ 10 ∷ 10 ∷ 1 ∷ 0 ∷ 0 ∷ 2 ∷ 0 ∷ 0 ∷ 0 ∷ 7 ∷ 0 ∷ 0 ∷ 0 ∷ 0 ∷ 5 ∷ 69 ∷ 2 ∷ 0 ∷ 0 ∷ 0 ∷ 0 ∷ 0 ∷ 0 ∷ 13 ∷ 11 ∷ 1 ∷ 0 ∷ 0 ∷ 2 ∷ 0 ∷ 1 ∷ 101 ∷ 0 ∷ 255 ∷ 255 ∷ 255 ∷ 254 ∷ 0 ∷ 0 ∷ 0 ∷ 21 ∷ 6 ∷ 1 ∷ 0 ∷ 0 ∷ 2 ∷ 0 ∷ 0 ∷ 0 ∷ 8 ∷ 0 ∷ 1 ∷ 101 ∷ 0 ∷ 3 ∷ 116 ∷ 47 ∷ 112 ∷ 0 ∷ 0 ∷ 0 ∷ 0 ∷ 0 ∷ 0 ∷ 0 ∷ 5 ∷ 3 ∷ 1 ∷ 0 ∷ 0 ∷ 2 ∷ 0 ∷ 0 ∷ 0 ∷ 5 ∷ 3 ∷ 1 ∷ 0 ∷ 0 ∷ 3 ∷ 0 ∷ 0 ∷ 0 ∷ 4 ∷ 12 ∷ 1 ∷ 0 ∷ 0 ∷ [])
unfolding encoding digits is_text is_utf8 chars encode_utf8
page-sends = refl

-- all bytes that the plugin sends
plugin-sends : plugin_bytes 1500 page plugin ≡ (0 ∷ 0 ∷ 0 ∷ 5 ∷ 69 ∷ 1 ∷ 0 ∷ 0 ∷ 0 ∷ 0 ∷ 0 ∷ 0 ∷ 5 ∷ 32 ∷ 2 ∷ 0 ∷ 0 ∷ 1 ∷ 0 ∷ 0 ∷ 0 ∷ 5 ∷ 69 ∷ 1 ∷ 0 ∷ 0 ∷ 0 ∷ 0 ∷ 0 ∷ 0 ∷ 11 ∷ 65 ∷ 1 ∷ 0 ∷ 0 ∷ 6 ∷ 1 ∷ 1 ∷ 0 ∷ 0 ∷ 0 ∷ 1 ∷ 0 ∷ 0 ∷ 0 ∷ 5 ∷ 32 ∷ 2 ∷ 0 ∷ 0 ∷ 2 ∷ 0 ∷ 0 ∷ 0 ∷ 5 ∷ 69 ∷ 1 ∷ 0 ∷ 0 ∷ 0 ∷ 0 ∷ 0 ∷ 0 ∷ 11 ∷ 65 ∷ 1 ∷ 0 ∷ 0 ∷ 6 ∷ 1 ∷ 2 ∷ 0 ∷ 0 ∷ 0 ∷ 1 ∷ 0 ∷ 0 ∷ 0 ∷ 8 ∷ 70 ∷ 1 ∷ 0 ∷ 0 ∷ 0 ∷ 0 ∷ 0 ∷ 1 ∷ 0 ∷ 0 ∷ 0 ∷ 8 ∷ 70 ∷ 1 ∷ 0 ∷ 0 ∷ 127 ∷ 255 ∷ 255 ∷ 255 ∷ 0 ∷ 0 ∷ 0 ∷ 8 ∷ 70 ∷ 1 ∷ 0 ∷ 0 ∷ 0 ∷ 0 ∷ 0 ∷ 3 ∷ 0 ∷ 0 ∷ 0 ∷ 26 ∷ 34 ∷ 2 ∷ 0 ∷ 0 ∷ 2 ∷ 0 ∷ 0 ∷ 0 ∷ 2 ∷ 2 ∷ 0 ∷ 0 ∷ 0 ∷ 1 ∷ 0 ∷ 0 ∷ 0 ∷ 1 ∷ 255 ∷ 255 ∷ 255 ∷ 254 ∷ 0 ∷ 0 ∷ 0 ∷ 3 ∷ 0 ∷ 0 ∷ 0 ∷ 18 ∷ 34 ∷ 2 ∷ 0 ∷ 0 ∷ 2 ∷ 0 ∷ 0 ∷ 0 ∷ 2 ∷ 1 ∷ 255 ∷ 255 ∷ 255 ∷ 254 ∷ 0 ∷ 0 ∷ 35 ∷ 40 ∷ 0 ∷ 0 ∷ 0 ∷ 14 ∷ 65 ∷ 1 ∷ 0 ∷ 1 ∷ 1 ∷ 0 ∷ 0 ∷ 0 ∷ 2 ∷ 0 ∷ 0 ∷ 0 ∷ 1 ∷ 0 ∷ 0 ∷ 0 ∷ 0 ∷ 26 ∷ 34 ∷ 2 ∷ 0 ∷ 0 ∷ 2 ∷ 0 ∷ 0 ∷ 0 ∷ 2 ∷ 2 ∷ 0 ∷ 0 ∷ 0 ∷ 1 ∷ 0 ∷ 0 ∷ 0 ∷ 1 ∷ 255 ∷ 255 ∷ 255 ∷ 254 ∷ 0 ∷ 0 ∷ 0 ∷ 3 ∷ 0 ∷ 0 ∷ 0 ∷ 18 ∷ 34 ∷ 2 ∷ 0 ∷ 0 ∷ 2 ∷ 0 ∷ 0 ∷ 0 ∷ 2 ∷ 1 ∷ 255 ∷ 255 ∷ 255 ∷ 254 ∷ 0 ∷ 0 ∷ 35 ∷ 40 ∷ 0 ∷ 0 ∷ 0 ∷ 5 ∷ 65 ∷ 1 ∷ 0 ∷ 0 ∷ 0 ∷ 0 ∷ 0 ∷ 0 ∷ 12 ∷ 33 ∷ 2 ∷ 0 ∷ 0 ∷ 1 ∷ 0 ∷ 1 ∷ 101 ∷ 255 ∷ 255 ∷ 255 ∷ 254 ∷ 0 ∷ 0 ∷ 0 ∷ 4 ∷ 71 ∷ 1 ∷ 0 ∷ 0 ∷ 0 ∷ 0 ∷ 0 ∷ 8 ∷ 70 ∷ 1 ∷ 0 ∷ 0 ∷ 0 ∷ 0 ∷ 0 ∷ 1 ∷ 0 ∷ 0 ∷ 0 ∷ 8 ∷ 70 ∷ 1 ∷ 0 ∷ 0 ∷ 127 ∷ 255 ∷ 255 ∷ 255 ∷ 0 ∷ 0 ∷ 0 ∷ 5 ∷ 69 ∷ 1 ∷ 0 ∷ 0 ∷ 0 ∷ 0 ∷ 0 ∷ 0 ∷ 5 ∷ 32 ∷ 2 ∷ 0 ∷ 0 ∷ 3 ∷ 0 ∷ 0 ∷ 0 ∷ 5 ∷ 69 ∷ 1 ∷ 0 ∷ 0 ∷ 0 ∷ 0 ∷ 0 ∷ 0 ∷ 11 ∷ 65 ∷ 1 ∷ 0 ∷ 0 ∷ 6 ∷ 1 ∷ 3 ∷ 0 ∷ 0 ∷ 0 ∷ 1 ∷ 0 ∷ 0 ∷ 0 ∷ 4 ∷ 66 ∷ 1 ∷ 0 ∷ 0 ∷ 0 ∷ 0 ∷ 0 ∷ 8 ∷ 70 ∷ 1 ∷ 0 ∷ 0 ∷ 0 ∷ 0 ∷ 0 ∷ 1 ∷ 0 ∷ 0 ∷ 0 ∷ 12 ∷ 33 ∷ 2 ∷ 0 ∷ 0 ∷ 2 ∷ 0 ∷ 1 ∷ 101 ∷ 255 ∷ 255 ∷ 255 ∷ 254 ∷ 0 ∷ 0 ∷ 0 ∷ 4 ∷ 71 ∷ 1 ∷ 0 ∷ 0 ∷ 0 ∷ 0 ∷ 0 ∷ 8 ∷ 70 ∷ 1 ∷ 0 ∷ 0 ∷ 0 ∷ 0 ∷ 0 ∷ 1 ∷ 0 ∷ 0 ∷ 0 ∷ 12 ∷ 33 ∷ 2 ∷ 0 ∷ 0 ∷ 2 ∷ 0 ∷ 1 ∷ 101 ∷ 255 ∷ 255 ∷ 255 ∷ 254 ∷ 0 ∷ 0 ∷ 0 ∷ 4 ∷ 71 ∷ 1 ∷ 0 ∷ 0 ∷ 0 ∷ 0 ∷ 0 ∷ 4 ∷ 71 ∷ 1 ∷ 0 ∷ 0 ∷ 0 ∷ 0 ∷ 0 ∷ 8 ∷ 70 ∷ 1 ∷ 0 ∷ 0 ∷ 0 ∷ 0 ∷ 0 ∷ 1 ∷ 0 ∷ 0 ∷ 0 ∷ 12 ∷ 33 ∷ 2 ∷ 0 ∷ 0 ∷ 2 ∷ 0 ∷ 1 ∷ 101 ∷ 255 ∷ 255 ∷ 255 ∷ 254 ∷ 0 ∷ 0 ∷ 0 ∷ 4 ∷ 71 ∷ 1 ∷ 0 ∷ 0 ∷ 0 ∷ 0 ∷ 0 ∷ 4 ∷ 71 ∷ 1 ∷ 0 ∷ 0 ∷ 0 ∷ 0 ∷ 0 ∷ 8 ∷ 70 ∷ 1 ∷ 0 ∷ 0 ∷ 0 ∷ 0 ∷ 0 ∷ 1 ∷ 0 ∷ 0 ∷ 0 ∷ 5 ∷ 69 ∷ 1 ∷ 0 ∷ 0 ∷ 0 ∷ 0 ∷ 0 ∷ 0 ∷ 5 ∷ 69 ∷ 1 ∷ 0 ∷ 0 ∷ 0 ∷ 0 ∷ 0 ∷ 0 ∷ 4 ∷ 71 ∷ 1 ∷ 0 ∷ 0 ∷ [])
unfolding encoding digits is_text is_utf8 chars encode_utf8
plugin-sends = refl

-- the plug-in's first 241 bytes hold 15 whole messages
cut-241 : lost_outcome 1500 (Some 15) page plugin ≡ record {
  page = (
      Created (record { side = sides.Page; instance = 1; serial = 1 }) ∷
      CommandResult 1 (results.Code NoError) ∷
      CommandResult 2 (results.Yes (values.Object (record { side = sides.Plug; instance = 1; serial = 1 })) false) ∷
      Created (record { side = sides.Page; instance = 2; serial = 1 }) ∷
      CommandResult 3 (results.Code NoError) ∷
      CommandResult 4 (results.Yes (values.Object (record { side = sides.Plug; instance = 2; serial = 1 })) false) ∷
      Created (record { side = sides.Page; instance = 1; serial = 2 }) ∷
      CommandResult 5 (results.Yes (values.Object (record { side = sides.Page; instance = 1; serial = 2 })) false) ∷
      Created (record { side = sides.Page; instance = 2; serial = 2 }) ∷
      CommandResult 6 (results.Yes (values.Object (record { side = sides.Page; instance = 2; serial = 2 })) false) ∷
      CommandResult 7 (results.Code NoError) ∷
      CommandResult 8 (results.Code NoError) ∷
      CommandResult 9 (results.Code NoError) ∷
      StreamAnswered 1 (streams.New (pos 1)) ∷
      CommandResult 10 (results.Pumped 1) ∷
      StreamAnswered 1 (streams.Ready (pos 2147483647)) ∷
      StreamAnswered 1 (streams.Write 0 3 (pos 3)) ∷
      CommandResult 11 (results.Pumped 2) ∷
      CommandResult 12 (results.Yes values.Void false) ∷
      CommandResult 13 (results.Code NoError) ∷
      ProxyGone (record { side = sides.Plug; instance = 1; serial = 1 }) ∷
      Invalidated (record { side = sides.Page; instance = 1; serial = 1 }) ∷
      Invalidated (record { side = sides.Page; instance = 1; serial = 2 }) ∷
      Deallocated (record { side = sides.Page; instance = 1; serial = 1 }) ∷
      Deallocated (record { side = sides.Page; instance = 1; serial = 2 }) ∷
      ProxyGone (record { side = sides.Plug; instance = 2; serial = 1 }) ∷
      Invalidated (record { side = sides.Page; instance = 2; serial = 1 }) ∷
      Invalidated (record { side = sides.Page; instance = 2; serial = 2 }) ∷
      Deallocated (record { side = sides.Page; instance = 2; serial = 1 }) ∷
      Deallocated (record { side = sides.Page; instance = 2; serial = 2 }) ∷
      CommandResult 14 results.No ∷
      CommandResult 15 (results.Pumped 0) ∷
      CommandResult 16 (results.Code InvalidInstance) ∷
      CommandResult 17 (results.Code ModuleLoadFailed) ∷
      CommandResult 18 results.No ∷
      CommandResult 19 results.No ∷
      CommandResult 20 results.No ∷
      CommandResult 21 (results.Yes values.Void false) ∷
      CommandResult 22 results.No ∷
      CommandResult 23 results.No ∷
      CommandResult 24 results.No ∷
      CommandResult 25 (results.Pumped 0) ∷
      Noted values.Void false ∷
      CommandResult 26 (results.Yes values.Void false) ∷
      CommandResult 27 (results.Pumped 0) ∷ []);
  rests = true;
}
unfolding encoding digits is_text is_utf8 chars encode_utf8
cut-241 = refl

-- the plug-in's first 299 bytes hold 21 whole messages
cut-299 : lost_outcome 1500 (Some 21) page plugin ≡ record {
  page = (
      Created (record { side = sides.Page; instance = 1; serial = 1 }) ∷
      CommandResult 1 (results.Code NoError) ∷
      CommandResult 2 (results.Yes (values.Object (record { side = sides.Plug; instance = 1; serial = 1 })) false) ∷
      Created (record { side = sides.Page; instance = 2; serial = 1 }) ∷
      CommandResult 3 (results.Code NoError) ∷
      CommandResult 4 (results.Yes (values.Object (record { side = sides.Plug; instance = 2; serial = 1 })) false) ∷
      Created (record { side = sides.Page; instance = 1; serial = 2 }) ∷
      CommandResult 5 (results.Yes (values.Object (record { side = sides.Page; instance = 1; serial = 2 })) false) ∷
      Created (record { side = sides.Page; instance = 2; serial = 2 }) ∷
      CommandResult 6 (results.Yes (values.Object (record { side = sides.Page; instance = 2; serial = 2 })) false) ∷
      CommandResult 7 (results.Code NoError) ∷
      CommandResult 8 (results.Code NoError) ∷
      CommandResult 9 (results.Code NoError) ∷
      StreamAnswered 1 (streams.New (pos 1)) ∷
      CommandResult 10 (results.Pumped 1) ∷
      StreamAnswered 1 (streams.Ready (pos 2147483647)) ∷
      StreamAnswered 1 (streams.Write 0 3 (pos 3)) ∷
      CommandResult 11 (results.Pumped 2) ∷
      CommandResult 12 (results.Yes values.Void false) ∷
      CommandResult 13 (results.Code NoError) ∷
      Deallocated (record { side = sides.Page; instance = 1; serial = 2 }) ∷
      CommandResult 14 (results.Yes values.Void false) ∷
      StreamAnswered 1 (streams.Destroy reasons.Done) ∷
      StreamAnswered 2 (streams.New (pos 1)) ∷
      StreamAnswered 2 (streams.Ready (pos 2147483647)) ∷
      CommandResult 15 (results.Pumped 3) ∷
      ProxyGone (record { side = sides.Plug; instance = 1; serial = 1 }) ∷
      Invalidated (record { side = sides.Page; instance = 1; serial = 1 }) ∷
      Deallocated (record { side = sides.Page; instance = 1; serial = 1 }) ∷
      CommandResult 16 (results.Code NoError) ∷
      ProxyGone (record { side = sides.Plug; instance = 2; serial = 1 }) ∷
      Invalidated (record { side = sides.Page; instance = 2; serial = 1 }) ∷
      Invalidated (record { side = sides.Page; instance = 2; serial = 2 }) ∷
      Deallocated (record { side = sides.Page; instance = 2; serial = 1 }) ∷
      Deallocated (record { side = sides.Page; instance = 2; serial = 2 }) ∷
      CommandResult 17 (results.Code ModuleLoadFailed) ∷
      CommandResult 18 results.No ∷
      CommandResult 19 results.No ∷
      CommandResult 20 results.No ∷
      CommandResult 21 (results.Yes values.Void false) ∷
      CommandResult 22 results.No ∷
      CommandResult 23 results.No ∷
      CommandResult 24 results.No ∷
      CommandResult 25 (results.Pumped 0) ∷
      Noted values.Void false ∷
      CommandResult 26 (results.Yes values.Void false) ∷
      CommandResult 27 (results.Pumped 0) ∷ []);
  rests = true;
}
unfolding encoding digits is_text is_utf8 chars encode_utf8
cut-299 = refl
