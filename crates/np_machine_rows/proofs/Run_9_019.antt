-- Made by tools/vector-theorems of tests/vectors/9-019.
use Rattle.std.proofs.Common.{◌≡◌, pos, negsuc, [], ◌∷◌, refl, true, false, Some}
use Rattle.std.specs.Prelude.{codes}
use Rattle.std.specs.Char.{encode_utf8}
use Rattle.std.specs.Fmt.{digits}
use Rattle.std.specs.Str.{is_utf8, chars}
use Rattle.np_values.specs.declared.error.NpError.TheVariants.{NoError}
use Rattle.np_values.specs.declared.handler.Handler.TheVariants as handlers
use Rattle.np_values.specs.declared.name.Side.TheVariants as sides
use Rattle.np_values.specs.declared.reason.NpReason.TheVariants as reasons
use Rattle.np_values.specs.declared.value.Value.TheVariants as values
use Rattle.np_values.specs.Text.{is_text}
use Rattle.np_idents.specs.declared.key.IdKey.TheVariants.{Str, Int as IntKey}
use Rattle.np_idents.specs.declared.op.Op.TheVariants as ops
use Rattle.np_script_grammar.specs.declared.action.Action.TheVariants as actions
use Rattle.np_script_grammar.specs.declared.action.Operand.TheVariants.{Reg, Const}
use Rattle.np_script_grammar.specs.declared.class.Member.TheVariants as members
use Rattle.np_script_grammar.specs.declared.command.Command.TheVariants as commands
use Rattle.np_script_grammar.specs.declared.page.Page.{Page}
use Rattle.np_script_grammar.specs.declared.plugin.Plugin.{Plugin}
use Rattle.np_message.specs.Encoding.{encoding}
use Rattle.np_journal.specs.declared.line.Line.TheVariants.{Created, Entered, HandlerRun, ProxyGone, Invalidated, Deallocated, Noted, CommandResult}
use Rattle.np_journal.specs.declared.printed.Printed.TheVariants as results
use Rattle.np_machine_plans.specs.Outcomes.{resource, outcome, page_bytes, plugin_bytes, lost_outcome}

abbrev page : Page
page = record {
  major = 0;
  minor = 27;
  classes = (
      (record {
        name = codes "Window";
        version = 2;
        stored = true;
        members = (
            members.Method (IntKey (pos 4)) (actions.SelfTo 2 ∷ actions.Load 3 0 ∷ actions.New 3 (codes "Window") ∷ actions.Destroy 6 1 ∷ []) ∷
            members.Method (Str (codes "m1")) (actions.SelfTo 2 ∷ actions.Remove (Reg 3) (Str (codes "f0")) ∷ actions.Invoke 3 (Reg 3) (Str (codes "m3")) (Reg 3 ∷ Reg 3 ∷ []) ∷ actions.Set 1 (Reg 1) ∷ actions.Load 1 0 ∷ []) ∷
            members.Construct (actions.Load 1 2 ∷ actions.Destroy 2 1 ∷ actions.Destroy 1 1 ∷ actions.HasProperty (Reg 0) (Str (codes "f0")) ∷ actions.New 3 (codes "Window") ∷ []) ∷
            members.Method (Str (codes "m2")) (actions.Load 2 0 ∷ actions.New 1 (codes "B") ∷ actions.New 4 (codes "A") ∷ actions.New 3 (codes "B") ∷ actions.Invoke 0 (Reg 0) (Str (codes "take")) (Reg 3 ∷ []) ∷ actions.Construct 2 (Reg 0) [] ∷ actions.Set 0 (Reg 3) ∷ actions.Drop 3 ∷ []) ∷
            members.Method (Str (codes "take")) (actions.Load 0 2 ∷ actions.Load 3 1 ∷ actions.New 3 (codes "B") ∷ actions.Destroy 0 3 ∷ actions.Destroy 2 1 ∷ actions.Load 3 1 ∷ actions.Load 2 0 ∷ actions.New 3 (codes "Window") ∷ actions.Note (Reg 7) ∷ []) ∷
            members.Method (Str (codes "m3")) (actions.Load 2 0 ∷ actions.Load 3 2 ∷ actions.Invoke 2 (Reg 0) (Str (codes "take")) (Reg 1 ∷ Const (values.Bool false) ∷ []) ∷ actions.New 0 (codes "Window") ∷ actions.Put (Reg 3) (Str (codes "f0")) (Const (values.Int (pos 1))) ∷ []) ∷
            members.Method (Str (codes "m0")) (actions.Load 2 0 ∷ actions.SelfTo 2 ∷ actions.Put (Reg 0) (Str (codes "7")) (Reg 1) ∷ actions.OnFalse 1 ∷ actions.Invoke 2 (Reg 2) (Str (codes "take")) (Reg 2 ∷ []) ∷ actions.Invoke 4 (Reg 1) (Str (codes "m2")) (Reg 11 ∷ Reg 0 ∷ Reg 2 ∷ []) ∷ []) ∷ []);
      }) ∷
      (record {
        name = codes "A";
        version = 3;
        stored = true;
        members = (
            members.Method (Str (codes "m3")) (actions.Load 2 0 ∷ actions.Load 3 1 ∷ actions.Invoke 1 (Reg 0) (IntKey (pos 4)) [] ∷ actions.Invoke 3 (Reg 0) (Str (codes "m2")) (Reg 2 ∷ Reg 0 ∷ []) ∷ []) ∷
            members.Method (Str (codes "m0")) (actions.Load 3 1 ∷ actions.New 5 (codes "B") ∷ actions.Destroy 2 1 ∷ actions.New 1 (codes "B") ∷ actions.Slot 3 (Reg 2) ∷ actions.SelfTo 3 ∷ actions.Slot 1 (Reg 2) ∷ []) ∷
            members.Method (IntKey (pos 4)) (actions.Load 3 1 ∷ actions.New 5 (codes "B") ∷ actions.Destroy 0 1 ∷ actions.New 1 (codes "B") ∷ actions.New 3 (codes "A") ∷ actions.Drop 0 ∷ actions.Invoke 0 (Reg 3) (Str (codes "m2")) (Reg 1 ∷ Const (values.Int (pos 13)) ∷ Reg 1 ∷ []) ∷ []) ∷
            members.Method (Str (codes "m2")) (actions.Slot 3 (Reg 2) ∷ actions.Drop 0 ∷ []) ∷
            members.Method (Str (codes "take")) (actions.SelfTo 2 ∷ actions.New 5 (codes "B") ∷ actions.Destroy 1 1 ∷ actions.New 3 (codes "Window") ∷ actions.Drop 0 ∷ actions.Destroy 1 2 ∷ actions.SelfTo 2 ∷ actions.New 3 (codes "Window") ∷ []) ∷
            members.Method (Str (codes "m1")) (actions.New 3 (codes "A") ∷ actions.New 5 (codes "A") ∷ actions.New 2 (codes "Window") ∷ actions.Invoke 3 (Reg 1) (Str (codes "m3")) (Reg 3 ∷ Const (values.Int (negsuc 0)) ∷ Reg 2 ∷ []) ∷ []) ∷
            members.Default (actions.SelfTo 2 ∷ actions.New 3 (codes "Window") ∷ actions.New 2 (codes "B") ∷ []) ∷ []);
      }) ∷
      (record {
        name = codes "B";
        version = 3;
        stored = false;
        members = (
            members.Method (Str (codes "m1")) (actions.Drop 3 ∷ actions.Load 0 0 ∷ actions.New 2 (codes "B") ∷ actions.New 5 (codes "A") ∷ actions.Invoke 2 (Reg 1) (Str (codes "m2")) (Reg 2 ∷ Reg 0 ∷ Reg 1 ∷ []) ∷ actions.Slot 3 (Reg 4) ∷ actions.Load 2 1 ∷ []) ∷
            members.Method (IntKey (pos 4)) (actions.Load 2 0 ∷ actions.Set 2 (Reg 0) ∷ actions.Destroy 1 2 ∷ []) ∷
            members.Method (Str (codes "m0")) [] ∷
            members.Method (Str (codes "m3")) (actions.Load 2 0 ∷ actions.HasProperty (Reg 2) (Str (codes "f0")) ∷ actions.Destroy 0 1 ∷ actions.New 0 (codes "Window") ∷ actions.New 4 (codes "A") ∷ []) ∷
            members.Method (Str (codes "take")) (actions.Load 3 1 ∷ actions.New 1 (codes "A") ∷ actions.Drop 3 ∷ actions.New 4 (codes "Window") ∷ actions.Put (Reg 4) (Str (codes "f1")) (Reg 2) ∷ actions.Slot 3 (Reg 4) ∷ actions.Drop 4 ∷ actions.Destroy 0 1 ∷ []) ∷
            members.Method (Str (codes "m2")) (actions.SelfTo 2 ∷ actions.New 1 (codes "A") ∷ actions.Invoke 2 (Reg 0) (Str (codes "take")) (Reg 2 ∷ Reg 3 ∷ Reg 2 ∷ []) ∷ []) ∷ []);
      }) ∷ []);
  resources = (
      resource (codes "r") (codes "t/p") 2000 (120 ∷ 1 ∷ 34 ∷ []) ∷
      resource (codes "s") (codes "t/p") 1 (120 ∷ 1 ∷ 34 ∷ []) ∷
      resource (codes "e") (codes "t/p") 0 (codes "0123456789") ∷ []);
  commands = (
      commands.Create (codes "t/x") 1 [] ∷
      commands.Scriptable 0 1 ∷
      commands.Create (codes "t/x") 1 [] ∷
      commands.Scriptable 1 2 ∷
      commands.New 2 1 (codes "Window") ∷
      commands.New 3 2 (codes "Window") ∷
      commands.Invoke 5 (Reg 0) (Str (codes "m3")) (Reg 1 ∷ Reg 0 ∷ Reg 2 ∷ []) ∷
      commands.Invoke 5 (Reg 0) (Str (codes "m0")) (Reg 0 ∷ Reg 1 ∷ Reg 2 ∷ []) ∷
      commands.Invoke 5 (Reg 3) (Str (codes "m3")) (Reg 0 ∷ Reg 3 ∷ Reg 1 ∷ []) ∷
      commands.Invoke 4 (Reg 2) (IntKey (pos 4)) (Reg 1 ∷ Reg 1 ∷ []) ∷
      commands.New 0 2 (codes "A") ∷
      commands.Invoke 2 (Reg 2) (IntKey (pos 4)) (Reg 0 ∷ Reg 3 ∷ Reg 2 ∷ []) ∷
      commands.Invoke 5 (Reg 2) (Str (codes "take")) (Reg 3 ∷ Reg 1 ∷ []) ∷
      commands.New 3 1 (codes "Window") ∷
      commands.Note (Reg 1) ∷
      commands.Invoke 5 (Reg 3) (Str (codes "m2")) [] ∷
      commands.Invoke 4 (Reg 3) (Str (codes "m0")) (Reg 3 ∷ Reg 0 ∷ Reg 4 ∷ []) ∷
      commands.Pump 5 ∷ []);
}

abbrev plugin : Plugin
plugin = record {
  major = 0;
  minor = 27;
  classes = (
      (record {
        name = codes "Main";
        version = 2;
        stored = true;
        members = (
            members.Method (Str (codes "m3")) (actions.New 2 (codes "T") ∷ actions.New 4 (codes "U") ∷ actions.New 5 (codes "Main") ∷ actions.Get 0 (Reg 1) (Str (codes "f1")) ∷ actions.Slot 2 (Reg 1) ∷ []) ∷
            members.Method (IntKey (pos 4)) (actions.New 4 (codes "Main") ∷ actions.New 1 (codes "T") ∷ []) ∷
            members.Method (Str (codes "m0")) (actions.Get 2 (Reg 0) (Str (codes "f0")) ∷ actions.Invoke 0 (Reg 0) (IntKey (pos 4)) (Reg 0 ∷ []) ∷ []) ∷
            members.Method (Str (codes "m2")) (actions.CallDefault 1 (Reg 1) (Reg 2 ∷ Reg 0 ∷ Reg 0 ∷ []) ∷ []) ∷
            members.Construct (actions.HasMethod (Reg 2) (Str (codes "take")) ∷ actions.Note (Reg 2) ∷ actions.New 1 (codes "T") ∷ actions.Invoke 2 (Reg 0) (IntKey (pos 4)) (Const (values.Int (pos 1)) ∷ Reg 2 ∷ []) ∷ actions.Invoke 2 (Reg 3) (IntKey (pos 4)) (Reg 0 ∷ Const values.Null ∷ Reg 2 ∷ []) ∷ []) ∷
            members.Method (Str (codes "take")) (actions.SelfTo 2 ∷ actions.Load 2 2 ∷ actions.New 2 (codes "Main") ∷ actions.New 3 (codes "U") ∷ actions.Invoke 2 (Reg 0) (IntKey (pos 4)) (Reg 3 ∷ []) ∷ []) ∷
            members.Setter (Str (codes "f0")) (actions.Load 2 0 ∷ actions.Load 3 2 ∷ actions.New 1 (codes "T") ∷ actions.New 4 (codes "U") ∷ actions.Load 2 0 ∷ actions.New 1 (codes "T") ∷ []) ∷ []);
      }) ∷
      (record {
        name = codes "T";
        version = 3;
        stored = true;
        members = (
            members.Method (Str (codes "m0")) (actions.Load 2 0 ∷ actions.Load 1 0 ∷ actions.Window 3 ∷ actions.Invoke 0 (Reg 1) (Str (codes "m2")) (Const (values.Int (pos 14)) ∷ Reg 0 ∷ []) ∷ actions.Window 3 ∷ actions.Slot 0 (Reg 1) ∷ []) ∷
            members.Getter (Str (codes "f0")) (actions.Load 3 2 ∷ actions.Load 2 0 ∷ actions.New 4 (codes "U") ∷ []) ∷
            members.Method (Str (codes "take")) (actions.New 2 (codes "Main") ∷ actions.New 2 (codes "T") ∷ actions.Invoke 2 (Reg 2) (Str (codes "none")) [] ∷ actions.GetUrl 0 (Const (values.Text (codes "s"))) (pos 8) ∷ actions.Invoke 0 (Reg 1) (Str (codes "none")) (Reg 0 ∷ []) ∷ actions.Put (Reg 3) (Str (codes "f0")) (Reg 0) ∷ []) ∷
            members.Method (Str (codes "m2")) (actions.Load 3 1 ∷ actions.Load 2 0 ∷ actions.Get 1 (Reg 2) (Str (codes "f0")) ∷ actions.New 5 (codes "T") ∷ actions.New 4 (codes "Main") ∷ actions.New 2 (codes "T") ∷ actions.Invoke 0 (Reg 2) (IntKey (pos 4)) (Const (values.Int (pos 2147483647)) ∷ Reg 2 ∷ []) ∷ []) ∷
            members.Method (Str (codes "m1")) [] ∷
            members.Method (IntKey (pos 4)) (actions.Load 3 2 ∷ actions.Load 3 1 ∷ actions.New 2 (codes "Main") ∷ actions.New 3 (codes "Main") ∷ actions.New 1 (codes "U") ∷ actions.Invoke 0 (Reg 0) (Str (codes "take")) (Reg 2 ∷ Const (values.Text (codes "r")) ∷ Reg 3 ∷ []) ∷ actions.SelfTo 1 ∷ actions.Get 0 (Reg 2) (Str (codes "f1")) ∷ actions.Slot 2 (Reg 2) ∷ actions.Invoke 0 (Reg 3) (Str (codes "take")) (Reg 2 ∷ Reg 3 ∷ Reg 3 ∷ []) ∷ []) ∷
            members.Construct (actions.Load 2 0 ∷ actions.New 3 (codes "Main") ∷ actions.Get 0 (Reg 2) (Str (codes "f0")) ∷ actions.Slot 3 (Reg 3) ∷ actions.Get 1 (Reg 1) (Str (codes "f1")) ∷ []) ∷
            members.Method (Str (codes "m3")) (actions.Load 3 1 ∷ actions.Load 1 2 ∷ actions.New 4 (codes "T") ∷ actions.Invoke 2 (Reg 3) (Str (codes "take")) (Reg 0 ∷ Reg 2 ∷ []) ∷ actions.New 1 (codes "T") ∷ actions.New 4 (codes "T") ∷ actions.New 3 (codes "U") ∷ actions.Invoke 0 (Reg 2) (Str (codes "take")) (Reg 13 ∷ Reg 1 ∷ Reg 0 ∷ []) ∷ actions.GetUrl 3 (Const (values.Text (codes "r"))) (pos 1) ∷ []) ∷
            members.Default (actions.Enumerate 2 (Reg 8) ∷ actions.New 5 (codes "T") ∷ actions.New 1 (codes "T") ∷ actions.New 4 (codes "Main") ∷ actions.New 2 (codes "T") ∷ actions.New 5 (codes "T") ∷ actions.Put (Reg 4) (Str (codes "f1")) (Reg 5) ∷ actions.Drop 5 ∷ actions.Slot 3 (Reg 4) ∷ actions.Drop 4 ∷ []) ∷ []);
      }) ∷
      (record {
        name = codes "U";
        version = 1;
        stored = true;
        members = (
            members.Method (Str (codes "m0")) (actions.Load 1 2 ∷ actions.New 3 (codes "U") ∷ actions.Load 1 2 ∷ actions.Get 0 (Reg 1) (Str (codes "f0")) ∷ actions.New 2 (codes "U") ∷ actions.New 4 (codes "T") ∷ actions.Put (Reg 1) (Str (codes "f0")) (Reg 2) ∷ actions.Add 3 (Reg 2) (Reg 3) ∷ actions.Load 2 2 ∷ []) ∷
            members.Method (IntKey (pos 4)) (actions.Load 2 2 ∷ actions.Load 3 1 ∷ actions.RequestRead 2 (Reg 2) ((record { offset = negsuc 3; length = 0 }) ∷ (record { offset = negsuc 8; length = 3 }) ∷ (record { offset = pos 9; length = 0 }) ∷ (record { offset = pos 2; length = 3 }) ∷ []) ∷ actions.Load 3 2 ∷ actions.EndStream 3 (Const (values.Int (pos 2))) reasons.UserBreak ∷ actions.Invoke 1 (Reg 4) (Str (codes "take")) [] ∷ []) ∷
            members.Method (Str (codes "m2")) [] ∷
            members.Method (Str (codes "m1")) (actions.Load 2 2 ∷ actions.SelfTo 3 ∷ actions.SelfTo 0 ∷ []) ∷
            members.Method (Str (codes "take")) (actions.SelfTo 2 ∷ actions.SelfTo 2 ∷ actions.Invoke 1 (Reg 2) (Str (codes "m2")) (Reg 0 ∷ Reg 3 ∷ []) ∷ actions.New 4 (codes "U") ∷ actions.New 5 (codes "Main") ∷ actions.Put (Reg 4) (IntKey (pos 7)) (Reg 5) ∷ actions.New 5 (codes "T") ∷ actions.Put (Reg 4) (Str (codes "f1")) (Reg 5) ∷ actions.Put (Reg 4) (Str (codes "f0")) (Reg 5) ∷ actions.Drop 5 ∷ []) ∷ []);
      }) ∷ []);
  handlers = (
      (record { which = handlers.New; body = (actions.New 0 (codes "Main") ∷ actions.Slot 0 (Reg 0) ∷ actions.Window 1 ∷ actions.Slot 1 (Reg 1) ∷ []) }) ∷
      (record { which = handlers.Scriptable; body = (actions.Load 0 0 ∷ actions.Return (Reg 0) ∷ []) }) ∷
      (record { which = handlers.Destroy; body = (actions.Load 2 0 ∷ actions.Window 0 ∷ actions.EndStream 3 (Const (values.Int (pos 2))) reasons.Done ∷ []) }) ∷
      (record { which = handlers.DestroyStream; body = (actions.SelfTo 2 ∷ actions.Load 3 1 ∷ actions.HasProperty (Reg 2) (Str (codes "f1")) ∷ actions.Load 2 2 ∷ []) }) ∷ []);
  tasks = [];
}

-- the run of both
both-end : outcome 1500 page plugin ≡ record {
  page = (
      Created (record { side = sides.Page; instance = 1; serial = 1 }) ∷
      CommandResult 1 (results.Code NoError) ∷
      CommandResult 2 (results.Yes (values.Object (record { side = sides.Plug; instance = 1; serial = 1 })) false) ∷
      Created (record { side = sides.Page; instance = 2; serial = 1 }) ∷
      CommandResult 3 (results.Code NoError) ∷
      CommandResult 4 (results.Yes (values.Object (record { side = sides.Plug; instance = 2; serial = 1 })) false) ∷
      Created (record { side = sides.Page; instance = 1; serial = 2 }) ∷
      CommandResult 5 (results.Yes (values.Object (record { side = sides.Page; instance = 1; serial = 2 })) false) ∷
      Created (record { side = sides.Page; instance = 2; serial = 2 }) ∷
      CommandResult 6 (results.Yes (values.Object (record { side = sides.Page; instance = 2; serial = 2 })) false) ∷
      CommandResult 7 (results.Yes values.Void false) ∷
      CommandResult 8 (results.Yes values.Void false) ∷
      Entered (record { side = sides.Page; instance = 2; serial = 2 }) (ops.Invoke (Str (codes "m3"))) ∷
      Entered (record { side = sides.Page; instance = 2; serial = 2 }) (ops.Invoke (IntKey (pos 4))) ∷
      Created (record { side = sides.Page; instance = 2; serial = 3 }) ∷
      ProxyGone (record { side = sides.Plug; instance = 1; serial = 1 }) ∷
      ProxyGone (record { side = sides.Plug; instance = 1; serial = 8 }) ∷
      Invalidated (record { side = sides.Page; instance = 1; serial = 1 }) ∷
      Invalidated (record { side = sides.Page; instance = 1; serial = 2 }) ∷
      Deallocated (record { side = sides.Page; instance = 1; serial = 1 }) ∷
      Deallocated (record { side = sides.Page; instance = 1; serial = 2 }) ∷
      Deallocated (record { side = sides.Page; instance = 2; serial = 3 }) ∷
      Created (record { side = sides.Page; instance = 2; serial = 4 }) ∷
      Deallocated (record { side = sides.Page; instance = 2; serial = 4 }) ∷
      CommandResult 9 (results.Yes values.Void false) ∷
      CommandResult 10 results.No ∷
      Created (record { side = sides.Page; instance = 2; serial = 5 }) ∷
      CommandResult 11 (results.Yes (values.Object (record { side = sides.Page; instance = 2; serial = 5 })) false) ∷
      CommandResult 12 results.No ∷
      CommandResult 13 results.No ∷
      Deallocated (record { side = sides.Page; instance = 2; serial = 2 }) ∷
      CommandResult 14 results.No ∷
      Noted (values.Object (record { side = sides.Plug; instance = 2; serial = 1 })) false ∷
      CommandResult 15 (results.Yes values.Void false) ∷
      CommandResult 16 results.No ∷
      CommandResult 17 results.No ∷
      CommandResult 18 (results.Pumped 0) ∷
      ProxyGone (record { side = sides.Plug; instance = 2; serial = 1 }) ∷
      Invalidated (record { side = sides.Page; instance = 2; serial = 1 }) ∷
      Invalidated (record { side = sides.Page; instance = 2; serial = 5 }) ∷
      Deallocated (record { side = sides.Page; instance = 2; serial = 1 }) ∷
      Deallocated (record { side = sides.Page; instance = 2; serial = 5 }) ∷ []);
  plugin = (
      HandlerRun 1 handlers.New ∷
      Created (record { side = sides.Plug; instance = 1; serial = 1 }) ∷
      HandlerRun 1 handlers.Scriptable ∷
      HandlerRun 2 handlers.New ∷
      Created (record { side = sides.Plug; instance = 2; serial = 1 }) ∷
      HandlerRun 2 handlers.Scriptable ∷
      Entered (record { side = sides.Plug; instance = 1; serial = 1 }) (ops.Invoke (Str (codes "m3"))) ∷
      Created (record { side = sides.Plug; instance = 1; serial = 2 }) ∷
      Created (record { side = sides.Plug; instance = 1; serial = 3 }) ∷
      Created (record { side = sides.Plug; instance = 1; serial = 4 }) ∷
      Entered (record { side = sides.Plug; instance = 1; serial = 1 }) (ops.Get (Str (codes "f1"))) ∷
      Deallocated (record { side = sides.Plug; instance = 1; serial = 2 }) ∷
      Deallocated (record { side = sides.Plug; instance = 1; serial = 3 }) ∷
      Deallocated (record { side = sides.Plug; instance = 1; serial = 4 }) ∷
      Entered (record { side = sides.Plug; instance = 1; serial = 1 }) (ops.Invoke (Str (codes "m0"))) ∷
      Entered (record { side = sides.Plug; instance = 1; serial = 1 }) (ops.Get (Str (codes "f0"))) ∷
      Entered (record { side = sides.Plug; instance = 1; serial = 1 }) (ops.Invoke (IntKey (pos 4))) ∷
      Created (record { side = sides.Plug; instance = 1; serial = 5 }) ∷
      Created (record { side = sides.Plug; instance = 1; serial = 6 }) ∷
      Deallocated (record { side = sides.Plug; instance = 1; serial = 6 }) ∷
      Deallocated (record { side = sides.Plug; instance = 1; serial = 5 }) ∷
      Entered (record { side = sides.Plug; instance = 1; serial = 1 }) (ops.Invoke (Str (codes "take"))) ∷
      Created (record { side = sides.Plug; instance = 1; serial = 7 }) ∷
      Created (record { side = sides.Plug; instance = 1; serial = 8 }) ∷
      HandlerRun 1 handlers.Destroy ∷
      ProxyGone (record { side = sides.Page; instance = 1; serial = 1 }) ∷
      Invalidated (record { side = sides.Plug; instance = 1; serial = 1 }) ∷
      Invalidated (record { side = sides.Plug; instance = 1; serial = 7 }) ∷
      Invalidated (record { side = sides.Plug; instance = 1; serial = 8 }) ∷
      Deallocated (record { side = sides.Plug; instance = 1; serial = 1 }) ∷
      Deallocated (record { side = sides.Plug; instance = 1; serial = 7 }) ∷
      Deallocated (record { side = sides.Plug; instance = 1; serial = 8 }) ∷
      HandlerRun 2 handlers.Destroy ∷
      ProxyGone (record { side = sides.Page; instance = 2; serial = 1 }) ∷
      Invalidated (record { side = sides.Plug; instance = 2; serial = 1 }) ∷
      Deallocated (record { side = sides.Plug; instance = 2; serial = 1 }) ∷ []);
  files = [];
  rests = true;
}
unfolding encoding digits is_text is_utf8 chars encode_utf8
both-end = refl

-- all bytes that the page sends
page-sends : page_bytes 1500 page plugin ≡ (0 ∷ 0 ∷ 0 ∷ 7 ∷ 1 ∷ 1 ∷ 0 ∷ 0 ∷ 1 ∷ 0 ∷ 27 ∷ 0 ∷ 0 ∷ 0 ∷ 12 ∷ 2 ∷ 1 ∷ 0 ∷ 0 ∷ 1 ∷ 1 ∷ 0 ∷ 3 ∷ 116 ∷ 47 ∷ 120 ∷ 0 ∷ 0 ∷ 0 ∷ 0 ∷ 11 ∷ 65 ∷ 2 ∷ 0 ∷ 0 ∷ 6 ∷ 0 ∷ 1 ∷ 0 ∷ 0 ∷ 0 ∷ 1 ∷ 0 ∷ 0 ∷ 0 ∷ 5 ∷ 4 ∷ 1 ∷ 0 ∷ 0 ∷ 1 ∷ 0 ∷ 0 ∷ 0 ∷ 12 ∷ 2 ∷ 1 ∷ 0 ∷ 0 ∷ 2 ∷ 1 ∷ 0 ∷ 3 ∷ 116 ∷ 47 ∷ 120 ∷ 0 ∷ 0 ∷ 0 ∷ 0 ∷ 11 ∷ 65 ∷ 2 ∷ 0 ∷ 0 ∷ 6 ∷ 0 ∷ 2 ∷ 0 ∷ 0 ∷ 0 ∷ 1 ∷ 0 ∷ 0 ∷ 0 ∷ 5 ∷ 4 ∷ 1 ∷ 0 ∷ 0 ∷ 2 ∷ 0 ∷ 0 ∷ 0 ∷ 37 ∷ 64 ∷ 1 ∷ 0 ∷ 0 ∷ 1 ∷ 0 ∷ 0 ∷ 0 ∷ 1 ∷ 1 ∷ 0 ∷ 0 ∷ 2 ∷ 109 ∷ 51 ∷ 3 ∷ 6 ∷ 1 ∷ 2 ∷ 0 ∷ 0 ∷ 0 ∷ 1 ∷ 6 ∷ 1 ∷ 1 ∷ 0 ∷ 0 ∷ 0 ∷ 1 ∷ 6 ∷ 0 ∷ 1 ∷ 0 ∷ 0 ∷ 0 ∷ 2 ∷ 0 ∷ 0 ∷ 0 ∷ 37 ∷ 64 ∷ 1 ∷ 0 ∷ 0 ∷ 1 ∷ 0 ∷ 0 ∷ 0 ∷ 1 ∷ 1 ∷ 0 ∷ 0 ∷ 2 ∷ 109 ∷ 48 ∷ 3 ∷ 6 ∷ 1 ∷ 1 ∷ 0 ∷ 0 ∷ 0 ∷ 1 ∷ 6 ∷ 1 ∷ 2 ∷ 0 ∷ 0 ∷ 0 ∷ 1 ∷ 6 ∷ 0 ∷ 1 ∷ 0 ∷ 0 ∷ 0 ∷ 2 ∷ 0 ∷ 0 ∷ 0 ∷ 27 ∷ 64 ∷ 2 ∷ 0 ∷ 0 ∷ 1 ∷ 0 ∷ 0 ∷ 0 ∷ 1 ∷ 1 ∷ 0 ∷ 0 ∷ 4 ∷ 116 ∷ 97 ∷ 107 ∷ 101 ∷ 2 ∷ 6 ∷ 0 ∷ 2 ∷ 0 ∷ 0 ∷ 0 ∷ 2 ∷ 2 ∷ 0 ∷ 0 ∷ 0 ∷ 0 ∷ 5 ∷ 3 ∷ 4 ∷ 0 ∷ 0 ∷ 1 ∷ 0 ∷ 0 ∷ 0 ∷ 11 ∷ 65 ∷ 5 ∷ 0 ∷ 0 ∷ 6 ∷ 0 ∷ 1 ∷ 0 ∷ 0 ∷ 0 ∷ 1 ∷ 0 ∷ 0 ∷ 0 ∷ 5 ∷ 69 ∷ 5 ∷ 0 ∷ 0 ∷ 2 ∷ 0 ∷ 0 ∷ 0 ∷ 5 ∷ 65 ∷ 3 ∷ 0 ∷ 0 ∷ 0 ∷ 0 ∷ 0 ∷ 0 ∷ 5 ∷ 3 ∷ 1 ∷ 0 ∷ 0 ∷ 2 ∷ 0 ∷ 0 ∷ 0 ∷ 11 ∷ 65 ∷ 2 ∷ 0 ∷ 0 ∷ 6 ∷ 0 ∷ 2 ∷ 0 ∷ 0 ∷ 0 ∷ 1 ∷ 0 ∷ 0 ∷ 0 ∷ 5 ∷ 69 ∷ 2 ∷ 0 ∷ 0 ∷ 2 ∷ 0 ∷ 0 ∷ 0 ∷ 4 ∷ 12 ∷ 1 ∷ 0 ∷ 0 ∷ [])
unfolding encoding digits is_text is_utf8 chars encode_utf8
page-sends = refl

-- all bytes that the plugin sends
plugin-sends : plugin_bytes 1500 page plugin ≡ (0 ∷ 0 ∷ 0 ∷ 5 ∷ 69 ∷ 1 ∷ 0 ∷ 0 ∷ 0 ∷ 0 ∷ 0 ∷ 0 ∷ 5 ∷ 32 ∷ 2 ∷ 0 ∷ 0 ∷ 1 ∷ 0 ∷ 0 ∷ 0 ∷ 5 ∷ 69 ∷ 1 ∷ 0 ∷ 0 ∷ 0 ∷ 0 ∷ 0 ∷ 0 ∷ 11 ∷ 65 ∷ 1 ∷ 0 ∷ 0 ∷ 6 ∷ 1 ∷ 1 ∷ 0 ∷ 0 ∷ 0 ∷ 1 ∷ 0 ∷ 0 ∷ 0 ∷ 5 ∷ 32 ∷ 2 ∷ 0 ∷ 0 ∷ 2 ∷ 0 ∷ 0 ∷ 0 ∷ 5 ∷ 69 ∷ 1 ∷ 0 ∷ 0 ∷ 0 ∷ 0 ∷ 0 ∷ 0 ∷ 11 ∷ 65 ∷ 1 ∷ 0 ∷ 0 ∷ 6 ∷ 1 ∷ 2 ∷ 0 ∷ 0 ∷ 0 ∷ 1 ∷ 0 ∷ 0 ∷ 0 ∷ 14 ∷ 65 ∷ 1 ∷ 0 ∷ 1 ∷ 1 ∷ 0 ∷ 0 ∷ 0 ∷ 2 ∷ 0 ∷ 0 ∷ 0 ∷ 1 ∷ 0 ∷ 0 ∷ 0 ∷ 0 ∷ 14 ∷ 65 ∷ 1 ∷ 0 ∷ 1 ∷ 1 ∷ 0 ∷ 0 ∷ 0 ∷ 2 ∷ 0 ∷ 0 ∷ 0 ∷ 1 ∷ 0 ∷ 0 ∷ 0 ∷ 0 ∷ 23 ∷ 64 ∷ 3 ∷ 0 ∷ 0 ∷ 2 ∷ 0 ∷ 0 ∷ 0 ∷ 2 ∷ 1 ∷ 1 ∷ 0 ∷ 0 ∷ 0 ∷ 4 ∷ 1 ∷ 6 ∷ 1 ∷ 1 ∷ 0 ∷ 0 ∷ 0 ∷ 8 ∷ 0 ∷ 0 ∷ 0 ∷ 5 ∷ 32 ∷ 5 ∷ 0 ∷ 0 ∷ 1 ∷ 0 ∷ 0 ∷ 0 ∷ 10 ∷ 35 ∷ 5 ∷ 0 ∷ 0 ∷ 1 ∷ 0 ∷ 0 ∷ 0 ∷ 2 ∷ 0 ∷ 0 ∷ 0 ∷ 0 ∷ 5 ∷ 69 ∷ 4 ∷ 0 ∷ 0 ∷ 0 ∷ 0 ∷ 0 ∷ 0 ∷ 13 ∷ 66 ∷ 2 ∷ 0 ∷ 1 ∷ 2 ∷ 0 ∷ 0 ∷ 0 ∷ 2 ∷ 0 ∷ 0 ∷ 0 ∷ 1 ∷ 0 ∷ 0 ∷ 0 ∷ 5 ∷ 32 ∷ 2 ∷ 0 ∷ 0 ∷ 2 ∷ 0 ∷ 0 ∷ 0 ∷ 10 ∷ 35 ∷ 2 ∷ 0 ∷ 0 ∷ 2 ∷ 0 ∷ 0 ∷ 0 ∷ 2 ∷ 0 ∷ 0 ∷ 0 ∷ 0 ∷ 5 ∷ 69 ∷ 1 ∷ 0 ∷ 0 ∷ 0 ∷ 0 ∷ 0 ∷ 0 ∷ 4 ∷ 71 ∷ 1 ∷ 0 ∷ 0 ∷ [])
unfolding encoding digits is_text is_utf8 chars encode_utf8
plugin-sends = refl

-- the plug-in's first 72 bytes hold 6 whole messages
cut-72 : lost_outcome 1500 (Some 6) page plugin ≡ record {
  page = (
      Created (record { side = sides.Page; instance = 1; serial = 1 }) ∷
      CommandResult 1 (results.Code NoError) ∷
      CommandResult 2 (results.Yes (values.Object (record { side = sides.Plug; instance = 1; serial = 1 })) false) ∷
      Created (record { side = sides.Page; instance = 2; serial = 1 }) ∷
      CommandResult 3 (results.Code NoError) ∷
      ProxyGone (record { side = sides.Plug; instance = 1; serial = 1 }) ∷
      Invalidated (record { side = sides.Page; instance = 1; serial = 1 }) ∷
      Deallocated (record { side = sides.Page; instance = 1; serial = 1 }) ∷
      Invalidated (record { side = sides.Page; instance = 2; serial = 1 }) ∷
      Deallocated (record { side = sides.Page; instance = 2; serial = 1 }) ∷
      CommandResult 4 results.No ∷
      CommandResult 5 results.No ∷
      CommandResult 6 results.No ∷
      CommandResult 7 results.No ∷
      CommandResult 8 results.No ∷
      CommandResult 9 results.No ∷
      CommandResult 10 results.No ∷
      CommandResult 11 results.No ∷
      CommandResult 12 results.No ∷
      CommandResult 13 results.No ∷
      CommandResult 14 results.No ∷
      Noted values.Void false ∷
      CommandResult 15 (results.Yes values.Void false) ∷
      CommandResult 16 results.No ∷
      CommandResult 17 results.No ∷
      CommandResult 18 (results.Pumped 0) ∷ []);
  rests = true;
}
unfolding encoding digits is_text is_utf8 chars encode_utf8
cut-72 = refl

-- the plug-in's first 165 bytes hold 12 whole messages
cut-165 : lost_outcome 1500 (Some 12) page plugin ≡ record {
  page = (
      Created (record { side = sides.Page; instance = 1; serial = 1 }) ∷
      CommandResult 1 (results.Code NoError) ∷
      CommandResult 2 (results.Yes (values.Object (record { side = sides.Plug; instance = 1; serial = 1 })) false) ∷
      Created (record { side = sides.Page; instance = 2; serial = 1 }) ∷
      CommandResult 3 (results.Code NoError) ∷
      CommandResult 4 (results.Yes (values.Object (record { side = sides.Plug; instance = 2; serial = 1 })) false) ∷
      Created (record { side = sides.Page; instance = 1; serial = 2 }) ∷
      CommandResult 5 (results.Yes (values.Object (record { side = sides.Page; instance = 1; serial = 2 })) false) ∷
      Created (record { side = sides.Page; instance = 2; serial = 2 }) ∷
      CommandResult 6 (results.Yes (values.Object (record { side = sides.Page; instance = 2; serial = 2 })) false) ∷
      CommandResult 7 (results.Yes values.Void false) ∷
      CommandResult 8 (results.Yes values.Void false) ∷
      Entered (record { side = sides.Page; instance = 2; serial = 2 }) (ops.Invoke (Str (codes "m3"))) ∷
      Entered (record { side = sides.Page; instance = 2; serial = 2 }) (ops.Invoke (IntKey (pos 4))) ∷
      Created (record { side = sides.Page; instance = 2; serial = 3 }) ∷
      ProxyGone (record { side = sides.Plug; instance = 1; serial = 1 }) ∷
      ProxyGone (record { side = sides.Plug; instance = 1; serial = 8 }) ∷
      Invalidated (record { side = sides.Page; instance = 1; serial = 1 }) ∷
      Invalidated (record { side = sides.Page; instance = 1; serial = 2 }) ∷
      Deallocated (record { side = sides.Page; instance = 1; serial = 1 }) ∷
      Deallocated (record { side = sides.Page; instance = 1; serial = 2 }) ∷
      ProxyGone (record { side = sides.Plug; instance = 2; serial = 1 }) ∷
      Invalidated (record { side = sides.Page; instance = 2; serial = 1 }) ∷
      Invalidated (record { side = sides.Page; instance = 2; serial = 2 }) ∷
      Invalidated (record { side = sides.Page; instance = 2; serial = 3 }) ∷
      Deallocated (record { side = sides.Page; instance = 2; serial = 1 }) ∷
      Deallocated (record { side = sides.Page; instance = 2; serial = 2 }) ∷
      Deallocated (record { side = sides.Page; instance = 2; serial = 3 }) ∷
      CommandResult 9 results.No ∷
      CommandResult 10 results.No ∷
      CommandResult 11 results.No ∷
      CommandResult 12 results.No ∷
      CommandResult 13 results.No ∷
      CommandResult 14 results.No ∷
      Noted (values.Object (record { side = sides.Plug; instance = 2; serial = 1 })) true ∷
      CommandResult 15 (results.Yes values.Void false) ∷
      CommandResult 16 results.No ∷
      CommandResult 17 results.No ∷
      CommandResult 18 (results.Pumped 0) ∷ []);
  rests = true;
}
unfolding encoding digits is_text is_utf8 chars encode_utf8
cut-165 = refl
