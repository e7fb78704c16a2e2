-- Made by tools/vector-theorems of tests/vectors/9-016.
use Rattle.std.proofs.Common.{◌≡◌, pos, negsuc, [], ◌∷◌, refl, true, false, Some, None}
use Rattle.std.specs.Prelude.{codes}
use Rattle.std.specs.Char.{encode_utf8}
use Rattle.std.specs.Fmt.{digits}
use Rattle.std.specs.Str.{is_utf8, chars}
use Rattle.np_values.specs.declared.error.NpError.TheVariants.{NoError, ModuleLoadFailed}
use Rattle.np_values.specs.declared.handler.Handler.TheVariants as handlers
use Rattle.np_values.specs.declared.name.Side.TheVariants as sides
use Rattle.np_values.specs.declared.reason.NpReason.TheVariants as reasons
use Rattle.np_values.specs.declared.value.Value.TheVariants as values
use Rattle.np_values.specs.Text.{is_text}
use Rattle.np_idents.specs.declared.key.IdKey.TheVariants.{Str, Int as IntKey}
use Rattle.np_idents.specs.declared.op.Op.TheVariants as ops
use Rattle.np_script_grammar.specs.declared.action.Action.TheVariants as actions
use Rattle.np_script_grammar.specs.declared.action.Operand.TheVariants.{Reg, Const}
use Rattle.np_script_grammar.specs.declared.class.Member.TheVariants as members
use Rattle.np_script_grammar.specs.declared.command.Command.TheVariants as commands
use Rattle.np_script_grammar.specs.declared.page.Page.{Page}
use Rattle.np_script_grammar.specs.declared.plugin.Plugin.{Plugin}
use Rattle.np_message.specs.Encoding.{encoding}
use Rattle.np_journal.specs.declared.line.Line.TheVariants.{Created, Entered, HandlerRun, Invalidated, Deallocated, CommandResult}
use Rattle.np_journal.specs.declared.printed.Printed.TheVariants as results
use Rattle.np_machine_plans.specs.Outcomes.{resource, outcome, page_bytes, plugin_bytes, lost_outcome}

abbrev page : Page
page = record {
  major = 0;
  minor = 27;
  classes = (
      (record {
        name = codes "Window";
        version = 3;
        stored = true;
        members = (
            members.Method (Str (codes "m3")) (actions.Load 2 0 ∷ actions.Invoke 1 (Const (values.Int (pos 13))) (Str (codes "take")) (Reg 3 ∷ Reg 0 ∷ Reg 0 ∷ []) ∷ []) ∷
            members.Method (Str (codes "take")) (actions.SelfTo 2 ∷ actions.Invoke 1 (Reg 3) (Str (codes "none")) (Reg 2 ∷ Reg 0 ∷ []) ∷ actions.New 2 (codes "B") ∷ actions.Slot 2 (Reg 2) ∷ []) ∷
            members.Method (Str (codes "m1")) (actions.Load 2 0 ∷ actions.Load 3 2 ∷ actions.New 1 (codes "Window") ∷ []) ∷
            members.Method (Str (codes "m2")) (actions.SelfTo 2 ∷ actions.New 2 (codes "B") ∷ actions.New 1 (codes "A") ∷ actions.Load 2 0 ∷ actions.Put (Reg 3) (Str (codes "7")) (Reg 2) ∷ actions.Load 0 3 ∷ []) ∷
            members.Method (Str (codes "m0")) (actions.Load 2 0 ∷ actions.Put (Reg 1) (Str (codes "f0")) (Reg 2) ∷ actions.Load 1 3 ∷ actions.Load 3 2 ∷ actions.New 2 (codes "A") ∷ actions.Construct 1 (Reg 2) (Reg 1 ∷ Reg 2 ∷ Const (values.Int (pos 13)) ∷ []) ∷ actions.Load 2 1 ∷ actions.Load 3 0 ∷ []) ∷
            members.Construct (actions.Load 2 0 ∷ actions.SelfTo 2 ∷ actions.Load 3 2 ∷ actions.Get 0 (Reg 2) (Str (codes "f0")) ∷ actions.Enumerate 1 (Reg 3) ∷ actions.Load 3 1 ∷ actions.Get 0 (Reg 3) (Str (codes "f0")) ∷ actions.Put (Reg 3) (Str (codes "f0")) (Reg 3) ∷ []) ∷
            members.Method (IntKey (pos 4)) (actions.Load 2 0 ∷ actions.New 3 (codes "B") ∷ actions.Invoke 2 (Reg 2) (Str (codes "take")) (Reg 2 ∷ Reg 3 ∷ Reg 0 ∷ []) ∷ []) ∷ []);
      }) ∷
      (record {
        name = codes "A";
        version = 3;
        stored = true;
        members = (
            members.Method (IntKey (pos 4)) (actions.Load 3 1 ∷ actions.Load 2 0 ∷ actions.Invoke 2 (Reg 0) (Str (codes "take")) (Reg 0 ∷ Const (values.Int (pos 13)) ∷ Reg 3 ∷ []) ∷ actions.New 1 (codes "None") ∷ actions.OnEq (Reg 2) (Reg 0) 1 ∷ actions.OnTrue 1 ∷ actions.Get 3 (Reg 3) (Str (codes "f0")) ∷ actions.Put (Reg 0) (Str (codes "f1")) (Reg 9) ∷ actions.Drop 2 ∷ []) ∷
            members.Method (Str (codes "m3")) (actions.Load 2 0 ∷ actions.Load 2 2 ∷ actions.Slot 3 (Reg 1) ∷ []) ∷
            members.Method (Str (codes "take")) (actions.Load 2 0 ∷ actions.New 3 (codes "A") ∷ []) ∷
            members.Method (Str (codes "m2")) (actions.Load 3 1 ∷ actions.New 3 (codes "Window") ∷ actions.SelfTo 1 ∷ actions.SelfTo 0 ∷ []) ∷
            members.Method (Str (codes "m1")) (actions.SelfTo 2 ∷ actions.Slot 2 (Reg 2) ∷ actions.New 0 (codes "B") ∷ actions.Put (Reg 0) (Str (codes "f0")) (Reg 2) ∷ actions.Return (Reg 0) ∷ actions.Invoke 3 (Reg 2) (Str (codes "m3")) (Const (values.Bool false) ∷ []) ∷ []) ∷
            members.Default (actions.Load 0 2 ∷ actions.SelfTo 2 ∷ actions.Set 2 (Reg 3) ∷ actions.SelfTo 0 ∷ []) ∷ []);
      }) ∷
      (record {
        name = codes "B";
        version = 1;
        stored = true;
        members = (
            members.Method (Str (codes "m2")) (actions.Load 2 0 ∷ actions.Load 3 2 ∷ actions.Load 0 1 ∷ actions.Invoke 0 (Reg 1) (Str (codes "take")) (Reg 1 ∷ Const values.Null ∷ Reg 2 ∷ []) ∷ actions.Enumerate 1 (Reg 0) ∷ actions.Drop 2 ∷ []) ∷
            members.Default (actions.Load 3 1 ∷ actions.SelfTo 2 ∷ actions.New 1 (codes "B") ∷ actions.Put (Reg 1) (Str (codes "f0")) (Reg 3) ∷ actions.Slot 2 (Reg 1) ∷ actions.Drop 1 ∷ actions.Get 3 (Reg 1) (Str (codes "f0")) ∷ actions.Put (Reg 3) (Str (codes "f1")) (Reg 0) ∷ actions.Load 0 3 ∷ []) ∷
            members.Method (Str (codes "m1")) (actions.New 5 (codes "Window") ∷ actions.New 4 (codes "Window") ∷ actions.New 5 (codes "Window") ∷ actions.Put (Reg 4) (Str (codes "f1")) (Reg 5) ∷ actions.New 5 (codes "A") ∷ actions.New 3 (codes "B") ∷ actions.Put (Reg 4) (Str (codes "f0")) (Reg 5) ∷ actions.New 5 (codes "A") ∷ actions.Put (Reg 4) (IntKey (pos 7)) (Reg 5) ∷ actions.Drop 5 ∷ actions.Slot 2 (Reg 4) ∷ actions.Drop 4 ∷ []) ∷
            members.Method (IntKey (pos 4)) (actions.SelfTo 2 ∷ actions.Load 0 2 ∷ actions.Load 0 1 ∷ actions.Enumerate 3 (Reg 0) ∷ actions.Slot 2 (Reg 1) ∷ actions.Load 1 2 ∷ actions.Construct 0 (Reg 3) (Reg 2 ∷ Reg 3 ∷ Reg 3 ∷ []) ∷ actions.OnTrue 3 ∷ []) ∷
            members.Method (Str (codes "m3")) (actions.SelfTo 2 ∷ actions.Load 2 0 ∷ actions.New 4 (codes "B") ∷ actions.Put (Reg 4) (Str (codes "f0")) (Reg 3) ∷ actions.Return (Reg 4) ∷ []) ∷
            members.Method (Str (codes "take")) (actions.Load 3 1 ∷ actions.Load 2 0 ∷ actions.New 3 (codes "A") ∷ actions.New 4 (codes "B") ∷ actions.New 3 (codes "A") ∷ actions.New 5 (codes "Window") ∷ actions.Set 1 (Reg 6) ∷ []) ∷
            members.Method (Str (codes "m0")) (actions.Load 2 0 ∷ actions.Load 3 1 ∷ actions.Slot 0 (Reg 1) ∷ actions.Drop 2 ∷ actions.Construct 1 (Reg 1) (Reg 0 ∷ Reg 3 ∷ []) ∷ actions.Put (Reg 0) (Str (codes "f0")) (Const values.Void) ∷ actions.Load 0 2 ∷ actions.Get 3 (Reg 0) (Str (codes "f0")) ∷ actions.Put (Reg 0) (Str (codes "f0")) (Reg 2) ∷ []) ∷ []);
      }) ∷ []);
  resources = (
      resource (codes "r") (codes "t/p") 2000 (195 ∷ 164 ∷ []) ∷
      resource (codes "s") (codes "t/p") 1 (195 ∷ 164 ∷ []) ∷
      resource (codes "e") (codes "t/p") 0 (195 ∷ 164 ∷ []) ∷ []);
  commands = (
      commands.Create (codes "t/x") 1 [] ∷
      commands.Scriptable 0 1 ∷
      commands.Create (codes "t/x") 1 (codes "a" ∷ codes "1" ∷ []) ∷
      commands.Scriptable 1 2 ∷
      commands.New 2 1 (codes "B") ∷
      commands.New 3 2 (codes "Window") ∷
      commands.Invoke 5 (Reg 0) (Str (codes "m0")) (Reg 2 ∷ Reg 3 ∷ Reg 0 ∷ []) ∷
      commands.Invoke 5 (Reg 3) (Str (codes "m0")) (Reg 0 ∷ Reg 3 ∷ Reg 2 ∷ []) ∷
      commands.Invoke 5 (Reg 1) (Str (codes "m1")) (Reg 3 ∷ Reg 2 ∷ []) ∷
      commands.Turn ∷
      commands.Invoke 4 (Reg 2) (Str (codes "m1")) [] ∷
      commands.Construct 0 (Reg 3) (Reg 1 ∷ Reg 1 ∷ Reg 0 ∷ []) ∷
      commands.CallDefault 3 (Reg 2) (Reg 3 ∷ Reg 1 ∷ Reg 0 ∷ Reg 3 ∷ Reg 1 ∷ Reg 2 ∷ Reg 1 ∷ Reg 3 ∷ []) ∷
      commands.Pump 8 ∷
      commands.Invoke 1 (Reg 0) (Str (codes "take")) (Reg 1 ∷ Reg 0 ∷ Reg 0 ∷ []) ∷
      commands.Pump 2 ∷
      commands.Invoke 5 (Reg 2) (Str (codes "m2")) (Reg 3 ∷ []) ∷
      commands.Scriptable 3 2 ∷
      commands.Invoke 4 (Reg 0) (Str (codes "m0")) (Reg 3 ∷ Reg 1 ∷ Reg 0 ∷ []) ∷
      commands.Invoke 4 (Reg 1) (Str (codes "m2")) (Reg 5 ∷ Reg 0 ∷ Reg 3 ∷ []) ∷
      commands.Drop 4 ∷
      commands.Create (codes "t/y") 2 [] ∷
      commands.Scriptable 3 3 ∷ []);
}

abbrev plugin : Plugin
plugin = record {
  major = 0;
  minor = 27;
  classes = (
      (record {
        name = codes "Main";
        version = 3;
        stored = false;
        members = (
            members.Method (IntKey (pos 4)) (actions.Load 3 1 ∷ actions.Load 2 2 ∷ actions.RequestRead 0 (Const (values.Int (pos 1))) ((record { offset = pos 1; length = 4294967295 }) ∷ (record { offset = negsuc 6; length = 1 }) ∷ (record { offset = pos 11; length = 3 }) ∷ []) ∷ actions.New 4 (codes "U") ∷ actions.New 5 (codes "U") ∷ actions.Put (Reg 4) (Str (codes "f1")) (Reg 5) ∷ actions.Drop 5 ∷ actions.Slot 1 (Reg 4) ∷ actions.Drop 4 ∷ []) ∷
            members.Method (Str (codes "take")) [] ∷
            members.Method (Str (codes "m2")) [] ∷
            members.Method (Str (codes "m0")) (actions.Load 2 2 ∷ actions.HasProperty (Reg 3) (IntKey (pos 7)) ∷ actions.Enumerate 0 (Reg 3) ∷ actions.New 3 (codes "Main") ∷ actions.Note (Reg 1) ∷ actions.New 4 (codes "Main") ∷ actions.Put (Reg 4) (Str (codes "7")) (Reg 0) ∷ actions.Put (Reg 4) (Str (codes "f1")) (Reg 4) ∷ actions.Slot 3 (Reg 4) ∷ actions.Enumerate 0 (Reg 4) ∷ []) ∷
            members.Default (actions.SelfTo 2 ∷ actions.Load 2 2 ∷ actions.Window 1 ∷ actions.Load 0 2 ∷ []) ∷
            members.Method (Str (codes "m3")) (actions.Invoke 0 (Reg 3) (Str (codes "m0")) (Reg 3 ∷ []) ∷ actions.Invoke 3 (Const (values.Int (negsuc 0))) (Str (codes "take")) (Reg 0 ∷ Reg 1 ∷ Reg 2 ∷ []) ∷ actions.New 1 (codes "Main") ∷ actions.Invoke 3 (Reg 3) (Str (codes "take")) (Reg 0 ∷ Reg 3 ∷ []) ∷ actions.Slot 3 (Reg 1) ∷ []) ∷
            members.Method (Str (codes "m1")) (actions.SelfTo 2 ∷ actions.Construct 0 (Reg 3) (Reg 1 ∷ Const (values.Int (negsuc 2147483647)) ∷ Reg 10 ∷ []) ∷ actions.New 4 (codes "Main") ∷ actions.Put (Reg 4) (Str (codes "f0")) (Reg 5) ∷ actions.New 5 (codes "U") ∷ actions.Put (Reg 4) (IntKey (pos 7)) (Reg 5) ∷ actions.Put (Reg 2) (Str (codes "f1")) (Reg 0) ∷ actions.EndStream 0 (Const (values.Int (pos 1))) reasons.Done ∷ []) ∷ []);
      }) ∷
      (record {
        name = codes "T";
        version = 3;
        stored = true;
        members = (
            members.Method (Str (codes "m3")) (actions.Invoke 1 (Reg 2) (Str (codes "take")) (Const (values.Bool false) ∷ Reg 3 ∷ []) ∷ actions.Load 0 0 ∷ actions.New 2 (codes "T") ∷ actions.Put (Reg 2) (Str (codes "f0")) (Reg 1) ∷ actions.Slot 1 (Reg 2) ∷ actions.Drop 2 ∷ []) ∷
            members.Method (Str (codes "m1")) (actions.Load 0 2 ∷ actions.Set 2 (Reg 3) ∷ actions.OnTrue 1 ∷ actions.Load 2 0 ∷ actions.Invoke 3 (Reg 3) (Str (codes "m3")) (Reg 0 ∷ []) ∷ actions.RequestRead 2 (Reg 2) ((record { offset = pos 0; length = 1 }) ∷ (record { offset = pos 0; length = 1 }) ∷ []) ∷ []) ∷
            members.Method (Str (codes "take")) (actions.Load 3 1 ∷ actions.HasMethod (Reg 0) (Str (codes "m1")) ∷ actions.Invoke 0 (Reg 2) (Str (codes "none")) (Reg 3 ∷ []) ∷ actions.Slot 3 (Reg 0) ∷ actions.RequestRead 1 (Const (values.Int (pos 2))) ((record { offset = pos 0; length = 1 }) ∷ []) ∷ []) ∷
            members.Method (Str (codes "m2")) (actions.Load 2 0 ∷ actions.Slot 2 (Reg 0) ∷ actions.New 3 (codes "T") ∷ actions.Window 3 ∷ actions.New 5 (codes "U") ∷ actions.Invoke 1 (Reg 2) (Str (codes "take")) (Reg 3 ∷ Reg 0 ∷ Reg 2 ∷ []) ∷ actions.Slot 3 (Reg 3) ∷ actions.Invoke 0 (Reg 11) (Str (codes "take")) [] ∷ actions.Invoke 2 (Reg 1) (IntKey (pos 4)) (Reg 0 ∷ Reg 0 ∷ Reg 3 ∷ []) ∷ []) ∷
            members.Method (Str (codes "m0")) (actions.Load 3 1 ∷ actions.SelfTo 2 ∷ actions.Load 2 1 ∷ actions.Invoke 0 (Reg 12) (Str (codes "m2")) (Reg 3 ∷ Const (values.Text (codes "r")) ∷ Reg 0 ∷ []) ∷ actions.Load 11 0 ∷ actions.Load 3 3 ∷ actions.RequestRead 2 (Const (values.Int (pos 2))) ((record { offset = pos 0; length = 9000 }) ∷ (record { offset = pos 1; length = 4294967295 }) ∷ (record { offset = negsuc 1; length = 4294967295 }) ∷ (record { offset = pos 2; length = 3 }) ∷ []) ∷ []) ∷
            members.Method (IntKey (pos 4)) (actions.Load 0 2 ∷ actions.New 4 (codes "U") ∷ actions.New 1 (codes "U") ∷ actions.Invoke 1 (Reg 3) (Str (codes "take")) (Reg 3 ∷ Reg 3 ∷ Const values.Null ∷ []) ∷ []) ∷
            members.Default (actions.New 1 (codes "U") ∷ actions.New 5 (codes "T") ∷ actions.New 4 (codes "T") ∷ []) ∷ []);
      }) ∷
      (record {
        name = codes "U";
        version = 1;
        stored = true;
        members = (
            members.Method (Str (codes "m2")) (actions.Load 2 0 ∷ actions.Load 3 1 ∷ actions.Add 3 (Reg 3) (Reg 3) ∷ actions.Load 3 1 ∷ actions.Window 3 ∷ actions.CallDefault 0 (Reg 0) [] ∷ actions.Set 0 (Reg 2) ∷ actions.Slot 2 (Reg 2) ∷ actions.Throw (codes "no") ∷ []) ∷
            members.Method (IntKey (pos 4)) (actions.Load 2 0 ∷ actions.Slot 1 (Const (values.Int (pos 100))) ∷ actions.Slot 3 (Const (values.Bool false)) ∷ actions.Enumerate 2 (Reg 3) ∷ actions.Slot 2 (Reg 1) ∷ actions.New 1 (codes "Main") ∷ []) ∷
            members.Default (actions.SelfTo 2 ∷ actions.Window 0 ∷ []) ∷
            members.Method (Str (codes "take")) [] ∷
            members.Method (Str (codes "m1")) (actions.Load 3 0 ∷ actions.Load 0 2 ∷ actions.Window 3 ∷ []) ∷
            members.Method (Str (codes "m0")) (actions.Load 3 1 ∷ actions.New 2 (codes "Main") ∷ actions.New 1 (codes "T") ∷ actions.New 4 (codes "U") ∷ actions.Window 3 ∷ actions.Get 2 (Reg 3) (Str (codes "f0")) ∷ actions.Window 3 ∷ []) ∷
            members.Method (Str (codes "m3")) (actions.SelfTo 2 ∷ actions.New 3 (codes "T") ∷ actions.Invoke 1 (Reg 3) (IntKey (pos 4)) (Reg 2 ∷ Reg 14 ∷ []) ∷ actions.New 1 (codes "Main") ∷ actions.Window 1 ∷ actions.Put (Reg 1) (Str (codes "f1")) (Reg 3) ∷ actions.Invoke 3 (Reg 2) (Str (codes "take")) (Reg 2 ∷ Reg 2 ∷ []) ∷ actions.Get 1 (Reg 5) (Str (codes "f0")) ∷ []) ∷
            members.Construct (actions.Load 2 2 ∷ actions.Load 3 1 ∷ actions.New 2 (codes "T") ∷ actions.New 5 (codes "U") ∷ actions.Remove (Reg 3) (Str (codes "f0")) ∷ actions.Invoke 1 (Reg 3) (IntKey (pos 4)) (Reg 2 ∷ Const (values.Bool true) ∷ []) ∷ []) ∷ []);
      }) ∷ []);
  handlers = (
      (record { which = handlers.Scriptable; body = (actions.Load 0 0 ∷ actions.Return (Reg 0) ∷ []) }) ∷
      (record { which = handlers.WriteReady; body = (actions.RequestRead 4 (Reg 0) ((record { offset = negsuc 1; length = 4294967295 }) ∷ []) ∷ []) }) ∷
      (record { which = handlers.Write; body = (actions.New 2 (codes "U") ∷ actions.New 5 (codes "Main") ∷ actions.New 1 (codes "T") ∷ actions.New 4 (codes "T") ∷ actions.New 5 (codes "U") ∷ actions.Put (Reg 4) (Str (codes "f1")) (Reg 4) ∷ actions.Return (Const (values.Int (negsuc 4))) ∷ []) }) ∷
      (record { which = handlers.AsFile; body = (actions.EndStream 4 (Reg 0) reasons.Done ∷ actions.Load 2 0 ∷ actions.Load 0 2 ∷ actions.Slot 1 (Reg 2) ∷ actions.Load 3 0 ∷ actions.New 0 (codes "Main") ∷ []) }) ∷
      (record { which = handlers.DestroyStream; body = (actions.SelfTo 2 ∷ actions.Load 3 1 ∷ actions.New 1 (codes "Main") ∷ actions.New 4 (codes "Main") ∷ actions.Slot 2 (Reg 0) ∷ []) }) ∷
      (record { which = handlers.UrlNotify; body = [] }) ∷ []);
  tasks = [];
}

-- the run of both
both-end : outcome 1500 page plugin ≡ record {
  page = (
      CommandResult 1 (results.Code NoError) ∷
      CommandResult 2 results.No ∷
      CommandResult 3 (results.Code NoError) ∷
      CommandResult 4 results.No ∷
      Created (record { side = sides.Page; instance = 1; serial = 1 }) ∷
      CommandResult 5 (results.Yes (values.Object (record { side = sides.Page; instance = 1; serial = 1 })) false) ∷
      Created (record { side = sides.Page; instance = 2; serial = 1 }) ∷
      CommandResult 6 (results.Yes (values.Object (record { side = sides.Page; instance = 2; serial = 1 })) false) ∷
      CommandResult 7 results.No ∷
      Entered (record { side = sides.Page; instance = 2; serial = 1 }) (ops.Invoke (Str (codes "m0"))) ∷
      Entered (record { side = sides.Page; instance = 2; serial = 1 }) (ops.Put (Str (codes "f0"))) ∷
      Created (record { side = sides.Page; instance = 2; serial = 2 }) ∷
      Deallocated (record { side = sides.Page; instance = 2; serial = 2 }) ∷
      CommandResult 8 (results.Yes values.Void false) ∷
      CommandResult 9 results.No ∷
      CommandResult 10 (results.Yes values.Void false) ∷
      Entered (record { side = sides.Page; instance = 1; serial = 1 }) (ops.Invoke (Str (codes "m1"))) ∷
      Created (record { side = sides.Page; instance = 1; serial = 2 }) ∷
      Created (record { side = sides.Page; instance = 1; serial = 3 }) ∷
      Created (record { side = sides.Page; instance = 1; serial = 4 }) ∷
      Deallocated (record { side = sides.Page; instance = 1; serial = 2 }) ∷
      Entered (record { side = sides.Page; instance = 1; serial = 3 }) (ops.Put (Str (codes "f1"))) ∷
      Created (record { side = sides.Page; instance = 1; serial = 5 }) ∷
      Created (record { side = sides.Page; instance = 1; serial = 6 }) ∷
      Entered (record { side = sides.Page; instance = 1; serial = 3 }) (ops.Put (Str (codes "f0"))) ∷
      Created (record { side = sides.Page; instance = 1; serial = 7 }) ∷
      Entered (record { side = sides.Page; instance = 1; serial = 3 }) (ops.Put (IntKey (pos 7))) ∷
      Deallocated (record { side = sides.Page; instance = 1; serial = 6 }) ∷
      CommandResult 11 (results.Yes values.Void false) ∷
      Entered (record { side = sides.Page; instance = 2; serial = 1 }) ops.Construct ∷
      Entered (record { side = sides.Page; instance = 2; serial = 1 }) (ops.Get (Str (codes "f0"))) ∷
      CommandResult 12 (results.Yes values.Void false) ∷
      Entered (record { side = sides.Page; instance = 1; serial = 1 }) ops.Default ∷
      Created (record { side = sides.Page; instance = 1; serial = 8 }) ∷
      Entered (record { side = sides.Page; instance = 1; serial = 8 }) (ops.Put (Str (codes "f0"))) ∷
      Deallocated (record { side = sides.Page; instance = 1; serial = 3 }) ∷
      Deallocated (record { side = sides.Page; instance = 1; serial = 4 }) ∷
      Deallocated (record { side = sides.Page; instance = 1; serial = 5 }) ∷
      Deallocated (record { side = sides.Page; instance = 1; serial = 7 }) ∷
      Deallocated (record { side = sides.Page; instance = 2; serial = 1 }) ∷
      CommandResult 13 (results.Yes values.Void false) ∷
      CommandResult 14 (results.Pumped 0) ∷
      CommandResult 15 results.No ∷
      CommandResult 16 (results.Pumped 0) ∷
      Entered (record { side = sides.Page; instance = 1; serial = 1 }) (ops.Invoke (Str (codes "m2"))) ∷
      CommandResult 17 (results.Yes values.Void false) ∷
      CommandResult 18 results.No ∷
      CommandResult 19 results.No ∷
      CommandResult 20 results.No ∷
      CommandResult 21 (results.Yes values.Void false) ∷
      CommandResult 22 (results.Code NoError) ∷
      CommandResult 23 results.No ∷
      Invalidated (record { side = sides.Page; instance = 1; serial = 1 }) ∷
      Invalidated (record { side = sides.Page; instance = 1; serial = 8 }) ∷
      Deallocated (record { side = sides.Page; instance = 1; serial = 1 }) ∷
      Deallocated (record { side = sides.Page; instance = 1; serial = 8 }) ∷ []);
  plugin = (
      HandlerRun 1 handlers.Scriptable ∷
      HandlerRun 2 handlers.Scriptable ∷
      HandlerRun 2 handlers.Scriptable ∷
      HandlerRun 3 handlers.Scriptable ∷ []);
  files = [];
  rests = true;
}
unfolding encoding digits is_text is_utf8 chars encode_utf8
both-end = refl

-- all bytes that the page sends
page-sends : page_bytes 1500 page plugin ≡ (0 ∷ 0 ∷ 0 ∷ 7 ∷ 1 ∷ 1 ∷ 0 ∷ 0 ∷ 1 ∷ 0 ∷ 27 ∷ 0 ∷ 0 ∷ 0 ∷ 12 ∷ 2 ∷ 1 ∷ 0 ∷ 0 ∷ 1 ∷ 1 ∷ 0 ∷ 3 ∷ 116 ∷ 47 ∷ 120 ∷ 0 ∷ 0 ∷ 0 ∷ 0 ∷ 5 ∷ 4 ∷ 1 ∷ 0 ∷ 0 ∷ 1 ∷ 0 ∷ 0 ∷ 0 ∷ 18 ∷ 2 ∷ 1 ∷ 0 ∷ 0 ∷ 2 ∷ 1 ∷ 0 ∷ 3 ∷ 116 ∷ 47 ∷ 120 ∷ 1 ∷ 0 ∷ 1 ∷ 97 ∷ 0 ∷ 1 ∷ 49 ∷ 0 ∷ 0 ∷ 0 ∷ 5 ∷ 4 ∷ 1 ∷ 0 ∷ 0 ∷ 2 ∷ 0 ∷ 0 ∷ 0 ∷ 4 ∷ 5 ∷ 1 ∷ 0 ∷ 0 ∷ 0 ∷ 0 ∷ 0 ∷ 5 ∷ 4 ∷ 1 ∷ 0 ∷ 0 ∷ 2 ∷ 0 ∷ 0 ∷ 0 ∷ 12 ∷ 2 ∷ 1 ∷ 0 ∷ 0 ∷ 3 ∷ 2 ∷ 0 ∷ 3 ∷ 116 ∷ 47 ∷ 121 ∷ 0 ∷ 0 ∷ 0 ∷ 0 ∷ 5 ∷ 4 ∷ 1 ∷ 0 ∷ 0 ∷ 3 ∷ 0 ∷ 0 ∷ 0 ∷ 5 ∷ 3 ∷ 1 ∷ 0 ∷ 0 ∷ 1 ∷ 0 ∷ 0 ∷ 0 ∷ 5 ∷ 3 ∷ 1 ∷ 0 ∷ 0 ∷ 2 ∷ 0 ∷ 0 ∷ 0 ∷ 5 ∷ 3 ∷ 1 ∷ 0 ∷ 0 ∷ 3 ∷ 0 ∷ 0 ∷ 0 ∷ 4 ∷ 12 ∷ 1 ∷ 0 ∷ 0 ∷ [])
unfolding encoding digits is_text is_utf8 chars encode_utf8
page-sends = refl

-- all bytes that the plugin sends
plugin-sends : plugin_bytes 1500 page plugin ≡ (0 ∷ 0 ∷ 0 ∷ 5 ∷ 69 ∷ 1 ∷ 0 ∷ 0 ∷ 0 ∷ 0 ∷ 0 ∷ 0 ∷ 5 ∷ 69 ∷ 1 ∷ 0 ∷ 0 ∷ 0 ∷ 0 ∷ 0 ∷ 0 ∷ 4 ∷ 66 ∷ 1 ∷ 0 ∷ 0 ∷ 0 ∷ 0 ∷ 0 ∷ 5 ∷ 69 ∷ 1 ∷ 0 ∷ 0 ∷ 0 ∷ 0 ∷ 0 ∷ 0 ∷ 4 ∷ 66 ∷ 1 ∷ 0 ∷ 0 ∷ 0 ∷ 0 ∷ 0 ∷ 4 ∷ 71 ∷ 1 ∷ 0 ∷ 0 ∷ 0 ∷ 0 ∷ 0 ∷ 4 ∷ 66 ∷ 1 ∷ 0 ∷ 0 ∷ 0 ∷ 0 ∷ 0 ∷ 5 ∷ 69 ∷ 1 ∷ 0 ∷ 0 ∷ 0 ∷ 0 ∷ 0 ∷ 0 ∷ 4 ∷ 66 ∷ 1 ∷ 0 ∷ 0 ∷ 0 ∷ 0 ∷ 0 ∷ 5 ∷ 69 ∷ 1 ∷ 0 ∷ 0 ∷ 0 ∷ 0 ∷ 0 ∷ 0 ∷ 5 ∷ 69 ∷ 1 ∷ 0 ∷ 0 ∷ 0 ∷ 0 ∷ 0 ∷ 0 ∷ 5 ∷ 69 ∷ 1 ∷ 0 ∷ 0 ∷ 0 ∷ 0 ∷ 0 ∷ 0 ∷ 4 ∷ 71 ∷ 1 ∷ 0 ∷ 0 ∷ [])
unfolding encoding digits is_text is_utf8 chars encode_utf8
plugin-sends = refl

-- the plug-in's first 56 bytes hold 6 whole messages
cut-56 : lost_outcome 1500 (Some 6) page plugin ≡ record {
  page = (
      CommandResult 1 (results.Code NoError) ∷
      CommandResult 2 results.No ∷
      CommandResult 3 (results.Code NoError) ∷
      CommandResult 4 results.No ∷
      Created (record { side = sides.Page; instance = 1; serial = 1 }) ∷
      CommandResult 5 (results.Yes (values.Object (record { side = sides.Page; instance = 1; serial = 1 })) false) ∷
      Created (record { side = sides.Page; instance = 2; serial = 1 }) ∷
      CommandResult 6 (results.Yes (values.Object (record { side = sides.Page; instance = 2; serial = 1 })) false) ∷
      CommandResult 7 results.No ∷
      Entered (record { side = sides.Page; instance = 2; serial = 1 }) (ops.Invoke (Str (codes "m0"))) ∷
      Entered (record { side = sides.Page; instance = 2; serial = 1 }) (ops.Put (Str (codes "f0"))) ∷
      Created (record { side = sides.Page; instance = 2; serial = 2 }) ∷
      Deallocated (record { side = sides.Page; instance = 2; serial = 2 }) ∷
      CommandResult 8 (results.Yes values.Void false) ∷
      CommandResult 9 results.No ∷
      CommandResult 10 (results.Yes values.Void false) ∷
      Entered (record { side = sides.Page; instance = 1; serial = 1 }) (ops.Invoke (Str (codes "m1"))) ∷
      Created (record { side = sides.Page; instance = 1; serial = 2 }) ∷
      Created (record { side = sides.Page; instance = 1; serial = 3 }) ∷
      Created (record { side = sides.Page; instance = 1; serial = 4 }) ∷
      Deallocated (record { side = sides.Page; instance = 1; serial = 2 }) ∷
      Entered (record { side = sides.Page; instance = 1; serial = 3 }) (ops.Put (Str (codes "f1"))) ∷
      Created (record { side = sides.Page; instance = 1; serial = 5 }) ∷
      Created (record { side = sides.Page; instance = 1; serial = 6 }) ∷
      Entered (record { side = sides.Page; instance = 1; serial = 3 }) (ops.Put (Str (codes "f0"))) ∷
      Created (record { side = sides.Page; instance = 1; serial = 7 }) ∷
      Entered (record { side = sides.Page; instance = 1; serial = 3 }) (ops.Put (IntKey (pos 7))) ∷
      Deallocated (record { side = sides.Page; instance = 1; serial = 6 }) ∷
      CommandResult 11 (results.Yes values.Void false) ∷
      Entered (record { side = sides.Page; instance = 2; serial = 1 }) ops.Construct ∷
      Entered (record { side = sides.Page; instance = 2; serial = 1 }) (ops.Get (Str (codes "f0"))) ∷
      CommandResult 12 (results.Yes values.Void false) ∷
      Entered (record { side = sides.Page; instance = 1; serial = 1 }) ops.Default ∷
      Created (record { side = sides.Page; instance = 1; serial = 8 }) ∷
      Entered (record { side = sides.Page; instance = 1; serial = 8 }) (ops.Put (Str (codes "f0"))) ∷
      Deallocated (record { side = sides.Page; instance = 1; serial = 3 }) ∷
      Deallocated (record { side = sides.Page; instance = 1; serial = 4 }) ∷
      Deallocated (record { side = sides.Page; instance = 1; serial = 5 }) ∷
      Deallocated (record { side = sides.Page; instance = 1; serial = 7 }) ∷
      Deallocated (record { side = sides.Page; instance = 2; serial = 1 }) ∷
      CommandResult 13 (results.Yes values.Void false) ∷
      CommandResult 14 (results.Pumped 0) ∷
      CommandResult 15 results.No ∷
      CommandResult 16 (results.Pumped 0) ∷
      Entered (record { side = sides.Page; instance = 1; serial = 1 }) (ops.Invoke (Str (codes "m2"))) ∷
      CommandResult 17 (results.Yes values.Void false) ∷
      Invalidated (record { side = sides.Page; instance = 1; serial = 1 }) ∷
      Invalidated (record { side = sides.Page; instance = 1; serial = 8 }) ∷
      Deallocated (record { side = sides.Page; instance = 1; serial = 1 }) ∷
      Deallocated (record { side = sides.Page; instance = 1; serial = 8 }) ∷
      CommandResult 18 results.No ∷
      CommandResult 19 results.No ∷
      CommandResult 20 results.No ∷
      CommandResult 21 (results.Yes values.Void false) ∷
      CommandResult 22 (results.Code ModuleLoadFailed) ∷
      CommandResult 23 results.No ∷ []);
  rests = true;
}
unfolding encoding digits is_text is_utf8 chars encode_utf8
cut-56 = refl

-- the plug-in's first 90 bytes hold 10 whole messages
cut-90 : lost_outcome 1500 (Some 10) page plugin ≡ record {
  page = (
      CommandResult 1 (results.Code NoError) ∷
      CommandResult 2 results.No ∷
      CommandResult 3 (results.Code NoError) ∷
      CommandResult 4 results.No ∷
      Created (record { side = sides.Page; instance = 1; serial = 1 }) ∷
      CommandResult 5 (results.Yes (values.Object (record { side = sides.Page; instance = 1; serial = 1 })) false) ∷
      Created (record { side = sides.Page; instance = 2; serial = 1 }) ∷
      CommandResult 6 (results.Yes (values.Object (record { side = sides.Page; instance = 2; serial = 1 })) false) ∷
      CommandResult 7 results.No ∷
      Entered (record { side = sides.Page; instance = 2; serial = 1 }) (ops.Invoke (Str (codes "m0"))) ∷
      Entered (record { side = sides.Page; instance = 2; serial = 1 }) (ops.Put (Str (codes "f0"))) ∷
      Created (record { side = sides.Page; instance = 2; serial = 2 }) ∷
      Deallocated (record { side = sides.Page; instance = 2; serial = 2 }) ∷
      CommandResult 8 (results.Yes values.Void false) ∷
      CommandResult 9 results.No ∷
      CommandResult 10 (results.Yes values.Void false) ∷
      Entered (record { side = sides.Page; instance = 1; serial = 1 }) (ops.Invoke (Str (codes "m1"))) ∷
      Created (record { side = sides.Page; instance = 1; serial = 2 }) ∷
      Created (record { side = sides.Page; instance = 1; serial = 3 }) ∷
      Created (record { side = sides.Page; instance = 1; serial = 4 }) ∷
      Deallocated (record { side = sides.Page; instance = 1; serial = 2 }) ∷
      Entered (record { side = sides.Page; instance = 1; serial = 3 }) (ops.Put (Str (codes "f1"))) ∷
      Created (record { side = sides.Page; instance = 1; serial = 5 }) ∷
      Created (record { side = sides.Page; instance = 1; serial = 6 }) ∷
      Entered (record { side = sides.Page; instance = 1; serial = 3 }) (ops.Put (Str (codes "f0"))) ∷
      Created (record { side = sides.Page; instance = 1; serial = 7 }) ∷
      Entered (record { side = sides.Page; instance = 1; serial = 3 }) (ops.Put (IntKey (pos 7))) ∷
      Deallocated (record { side = sides.Page; instance = 1; serial = 6 }) ∷
      CommandResult 11 (results.Yes values.Void false) ∷
      Entered (record { side = sides.Page; instance = 2; serial = 1 }) ops.Construct ∷
      Entered (record { side = sides.Page; instance = 2; serial = 1 }) (ops.Get (Str (codes "f0"))) ∷
      CommandResult 12 (results.Yes values.Void false) ∷
      Entered (record { side = sides.Page; instance = 1; serial = 1 }) ops.Default ∷
      Created (record { side = sides.Page; instance = 1; serial = 8 }) ∷
      Entered (record { side = sides.Page; instance = 1; serial = 8 }) (ops.Put (Str (codes "f0"))) ∷
      Deallocated (record { side = sides.Page; instance = 1; serial = 3 }) ∷
      Deallocated (record { side = sides.Page; instance = 1; serial = 4 }) ∷
      Deallocated (record { side = sides.Page; instance = 1; serial = 5 }) ∷
      Deallocated (record { side = sides.Page; instance = 1; serial = 7 }) ∷
      Deallocated (record { side = sides.Page; instance = 2; serial = 1 }) ∷
      CommandResult 13 (results.Yes values.Void false) ∷
      CommandResult 14 (results.Pumped 0) ∷
      CommandResult 15 results.No ∷
      CommandResult 16 (results.Pumped 0) ∷
      Entered (record { side = sides.Page; instance = 1; serial = 1 }) (ops.Invoke (Str (codes "m2"))) ∷
      CommandResult 17 (results.Yes values.Void false) ∷
      CommandResult 18 results.No ∷
      CommandResult 19 results.No ∷
      CommandResult 20 results.No ∷
      CommandResult 21 (results.Yes values.Void false) ∷
      CommandResult 22 (results.Code NoError) ∷
      CommandResult 23 results.No ∷
      Invalidated (record { side = sides.Page; instance = 1; serial = 1 }) ∷
      Invalidated (record { side = sides.Page; instance = 1; serial = 8 }) ∷
      Deallocated (record { side = sides.Page; instance = 1; serial = 1 }) ∷
      Deallocated (record { side = sides.Page; instance = 1; serial = 8 }) ∷ []);
  rests = true;
}
unfolding encoding digits is_text is_utf8 chars encode_utf8
cut-90 = refl
