-- Made by tools/vector-theorems of tests/vectors/5-026.
use Rattle.std.proofs.Common.{◌≡◌, pos, [], ◌∷◌, refl, true, false}
use Rattle.std.specs.Prelude.{codes}
use Rattle.std.specs.Char.{encode_utf8}
use Rattle.std.specs.Fmt.{digits}
use Rattle.std.specs.Str.{is_utf8, chars}
use Rattle.np_values.specs.declared.error.NpError.TheVariants.{NoError}
use Rattle.np_values.specs.declared.handler.Handler.TheVariants as handlers
use Rattle.np_values.specs.declared.name.Side.TheVariants as sides
use Rattle.np_values.specs.declared.value.Value.TheVariants as values
use Rattle.np_values.specs.Text.{is_text}
use Rattle.np_idents.specs.declared.key.IdKey.TheVariants.{Str, Int as IntKey}
use Rattle.np_idents.specs.declared.op.Op.TheVariants as ops
use Rattle.np_script_grammar.specs.declared.action.Action.TheVariants as actions
use Rattle.np_script_grammar.specs.declared.action.Operand.TheVariants.{Reg, Const}
use Rattle.np_script_grammar.specs.declared.class.Member.TheVariants as members
use Rattle.np_script_grammar.specs.declared.command.Command.TheVariants as commands
use Rattle.np_script_grammar.specs.declared.page.Page.{Page}
use Rattle.np_script_grammar.specs.declared.plugin.Plugin.{Plugin}
use Rattle.np_message.specs.Encoding.{encoding}
use Rattle.np_journal.specs.declared.line.Line.TheVariants.{Created, Entered, HandlerRun, ProxyGone, Invalidated, Deallocated, CommandResult}
use Rattle.np_journal.specs.declared.printed.Printed.TheVariants as results
use Rattle.np_machine_plans.specs.Outcomes.{outcome, page_bytes, plugin_bytes}

abbrev page : Page
page = record {
  major = 0;
  minor = 27;
  classes = (
      (record {
        name = codes "Window";
        version = 3;
        stored = true;
        members = (
            members.Method (Str (codes "take")) (actions.Load 2 2 ∷ actions.New 3 (codes "Window") ∷ actions.New 0 (codes "A") ∷ actions.Put (Reg 0) (Str (codes "f0")) (Reg 3) ∷ actions.Get 3 (Reg 0) (Str (codes "f0")) ∷ actions.Remove (Reg 0) (Str (codes "f0")) ∷ []) ∷
            members.Method (Str (codes "m3")) [] ∷
            members.Method (Str (codes "m1")) (actions.SelfTo 2 ∷ actions.Load 3 1 ∷ actions.New 2 (codes "A") ∷ []) ∷
            members.Method (Str (codes "m2")) (actions.Load 1 1 ∷ actions.Invoke 3 (Reg 4) (Str (codes "take")) (Reg 3 ∷ Reg 2 ∷ Const (values.Int (pos 2147483647)) ∷ []) ∷ actions.New 3 (codes "A") ∷ actions.New 4 (codes "Window") ∷ actions.Add 8 (Reg 1) (Reg 5) ∷ actions.Set 0 (Const (values.Text (codes "r"))) ∷ actions.New 3 (codes "B") ∷ []) ∷
            members.Method (IntKey (pos 4)) (actions.SelfTo 2 ∷ actions.Load 3 1 ∷ actions.Load 2 2 ∷ actions.Remove (Reg 0) (Str (codes "f0")) ∷ []) ∷
            members.Default (actions.New 1 (codes "B") ∷ actions.Load 2 0 ∷ []) ∷
            members.Construct (actions.Load 2 2 ∷ actions.SelfTo 2 ∷ actions.Slot 2 (Const values.Null) ∷ actions.Enumerate 12 (Reg 3) ∷ actions.Load 3 1 ∷ actions.Slot 0 (Reg 4) ∷ actions.Load 3 3 ∷ []) ∷
            members.Method (Str (codes "m0")) (actions.Load 3 1 ∷ actions.Add 0 (Reg 3) (Reg 1) ∷ actions.Slot 1 (Reg 0) ∷ actions.New 0 (codes "Window") ∷ actions.New 1 (codes "B") ∷ actions.Put (Reg 0) (Str (codes "f0")) (Reg 4) ∷ actions.Get 4 (Reg 0) (Str (codes "f0")) ∷ actions.Remove (Reg 0) (Str (codes "f0")) ∷ []) ∷ []);
      }) ∷
      (record {
        name = codes "A";
        version = 3;
        stored = false;
        members = (
            members.Method (Str (codes "m1")) (actions.Load 3 1 ∷ actions.SelfTo 2 ∷ actions.New 4 (codes "A") ∷ actions.Fail ∷ actions.New 1 (codes "B") ∷ actions.Set 4 (Reg 3) ∷ actions.OnFalse 2 ∷ actions.Load 2 1 ∷ actions.Add 3 (Reg 0) (Reg 3) ∷ actions.Load 1 1 ∷ []) ∷
            members.Method (Str (codes "m0")) (actions.Load 1 2 ∷ actions.Load 3 1 ∷ actions.Add 1 (Reg 0) (Reg 2) ∷ actions.New 4 (codes "B") ∷ actions.New 5 (codes "A") ∷ actions.Load 0 3 ∷ []) ∷
            members.Method (Str (codes "m2")) (actions.Load 1 2 ∷ actions.Fail ∷ []) ∷
            members.Method (Str (codes "take")) (actions.Load 1 2 ∷ actions.Load 2 0 ∷ actions.Set 5 (Reg 3) ∷ actions.Invoke 0 (Reg 3) (Str (codes "none")) (Reg 1 ∷ []) ∷ actions.Invoke 0 (Reg 3) (IntKey (pos 4)) (Reg 2 ∷ Reg 0 ∷ Reg 1 ∷ []) ∷ actions.Invoke 1 (Reg 0) (Str (codes "none")) (Reg 0 ∷ Reg 2 ∷ Reg 1 ∷ []) ∷ actions.Invoke 2 (Reg 2) (Str (codes "m3")) [] ∷ []) ∷
            members.Method (IntKey (pos 4)) (actions.SelfTo 2 ∷ actions.Get 1 (Reg 0) (Str (codes "f0")) ∷ actions.Invoke 0 (Reg 3) (Str (codes "take")) [] ∷ actions.New 4 (codes "A") ∷ actions.Enumerate 3 (Reg 3) ∷ actions.Load 2 3 ∷ actions.Slot 1 (Reg 0) ∷ []) ∷ []);
      }) ∷
      (record {
        name = codes "B";
        version = 3;
        stored = true;
        members = (
            members.Construct (actions.Load 3 1 ∷ actions.Load 2 1 ∷ actions.Load 1 3 ∷ actions.Slot 0 (Reg 3) ∷ []) ∷
            members.Method (Str (codes "m0")) (actions.Load 3 1 ∷ actions.Load 2 2 ∷ actions.Slot 1 (Reg 2) ∷ actions.Load 0 3 ∷ actions.Load 3 1 ∷ actions.Get 2 (Reg 2) (Str (codes "f0")) ∷ []) ∷
            members.Method (Str (codes "m2")) (actions.Load 3 1 ∷ actions.SelfTo 2 ∷ actions.Load 3 1 ∷ actions.New 4 (codes "B") ∷ actions.Put (Reg 4) (Str (codes "f0")) (Reg 5) ∷ actions.New 5 (codes "Window") ∷ actions.Put (Reg 4) (IntKey (pos 7)) (Reg 3) ∷ actions.New 5 (codes "Window") ∷ actions.Put (Reg 4) (Str (codes "f1")) (Reg 5) ∷ actions.Drop 5 ∷ actions.Return (Reg 5) ∷ []) ∷
            members.Method (Str (codes "take")) (actions.Invoke 4 (Reg 3) (Str (codes "none")) (Reg 2 ∷ []) ∷ actions.New 2 (codes "A") ∷ actions.Put (Reg 2) (Str (codes "f0")) (Reg 3) ∷ actions.Put (Reg 2) (Str (codes "f1")) (Reg 2) ∷ actions.Slot 3 (Reg 2) ∷ actions.Enumerate 3 (Reg 2) ∷ []) ∷
            members.Method (IntKey (pos 4)) (actions.Load 2 0 ∷ actions.Load 12 2 ∷ actions.Load 3 0 ∷ actions.New 2 (codes "B") ∷ actions.Slot 1 (Reg 2) ∷ actions.Note (Const (values.Text (codes "e"))) ∷ actions.Load 0 2 ∷ actions.Set 0 (Const values.Void) ∷ []) ∷
            members.Method (Str (codes "m1")) (actions.Load 3 1 ∷ actions.New 5 (codes "Window") ∷ actions.Return (Reg 2) ∷ actions.New 4 (codes "A") ∷ actions.New 3 (codes "Window") ∷ actions.Load 3 3 ∷ actions.Invoke 1 (Reg 3) (Str (codes "m2")) (Reg 1 ∷ Reg 2 ∷ []) ∷ actions.Load 1 0 ∷ actions.New 5 (codes "A") ∷ actions.Note (Reg 3) ∷ []) ∷
            members.Getter (Str (codes "f0")) (actions.Load 3 1 ∷ actions.New 2 (codes "Window") ∷ actions.Put (Reg 3) (Str (codes "f0")) (Reg 1) ∷ actions.New 5 (codes "Window") ∷ actions.Return (Reg 4) ∷ actions.New 3 (codes "A") ∷ actions.Invoke 0 (Reg 1) (IntKey (pos 4)) (Reg 3 ∷ Reg 2 ∷ []) ∷ actions.Slot 2 (Reg 3) ∷ actions.SelfTo 3 ∷ []) ∷ []);
      }) ∷ []);
  resources = [];
  commands = (
      commands.Create (codes "t/x") 2 [] ∷
      commands.Scriptable 0 1 ∷
      commands.New 2 1 (codes "Window") ∷
      commands.New 3 1 (codes "Window") ∷
      commands.Invoke 5 (Reg 0) (Str (codes "m2")) (Reg 3 ∷ Reg 2 ∷ Reg 1 ∷ []) ∷
      commands.CallDefault 2 (Reg 0) (Reg 0 ∷ Reg 0 ∷ Reg 2 ∷ []) ∷
      commands.Invoke 3 (Reg 4) (Str (codes "m3")) (Reg 1 ∷ Reg 2 ∷ Reg 2 ∷ []) ∷
      commands.Create (codes "t/y") 2 [] ∷
      commands.Scriptable 0 2 ∷
      commands.Invoke 4 (Reg 0) (Str (codes "take")) (Reg 0 ∷ Reg 3 ∷ Reg 3 ∷ []) ∷
      commands.Drop 0 ∷
      commands.Invoke 1 (Reg 8) (Str (codes "m2")) (Reg 1 ∷ Reg 2 ∷ Reg 5 ∷ []) ∷
      commands.Turn ∷
      commands.Drop 3 ∷
      commands.Put (Reg 2) (Str (codes "f0")) (Reg 0) ∷
      commands.Invoke 5 (Reg 0) (Str (codes "take")) (Reg 2 ∷ Reg 1 ∷ Reg 3 ∷ []) ∷
      commands.Invoke 5 (Reg 1) (Str (codes "take")) (Reg 1 ∷ Const (values.Text []) ∷ []) ∷
      commands.Invoke 0 (Reg 4) (Str (codes "m3")) [] ∷ []);
}

abbrev plugin : Plugin
plugin = record {
  major = 0;
  minor = 27;
  classes = (
      (record {
        name = codes "Main";
        version = 3;
        stored = true;
        members = (
            members.Method (IntKey (pos 4)) (actions.Load 2 0 ∷ actions.Load 3 1 ∷ actions.Window 1 ∷ actions.Load 1 2 ∷ actions.Drop 1 ∷ actions.Get 2 (Reg 3) (Str (codes "f0")) ∷ actions.Window 3 ∷ []) ∷
            members.Default (actions.SelfTo 1 ∷ actions.Load 0 3 ∷ []) ∷
            members.Method (Str (codes "m3")) (actions.New 1 (codes "Main") ∷ actions.Add 2 (Reg 11) (Reg 3) ∷ actions.New 4 (codes "U") ∷ actions.New 5 (codes "Main") ∷ actions.New 3 (codes "U") ∷ actions.Put (Reg 3) (Str (codes "f0")) (Reg 0) ∷ actions.Get 0 (Reg 3) (Str (codes "f0")) ∷ actions.Remove (Reg 3) (Str (codes "f0")) ∷ []) ∷
            members.Method (Str (codes "m0")) (actions.SelfTo 2 ∷ actions.Load 1 2 ∷ actions.Slot 0 (Reg 0) ∷ actions.Remove (Reg 3) (Str (codes "f1")) ∷ actions.Invoke 1 (Reg 2) (IntKey (pos 4)) [] ∷ []) ∷
            members.Method (Str (codes "take")) (actions.Load 2 0 ∷ actions.Add 3 (Reg 2) (Reg 1) ∷ []) ∷
            members.Method (Str (codes "m1")) (actions.Load 2 0 ∷ actions.New 2 (codes "T") ∷ actions.New 5 (codes "T") ∷ actions.Enumerate 2 (Reg 2) ∷ actions.Enumerate 1 (Reg 2) ∷ actions.Invoke 3 (Reg 0) (IntKey (pos 4)) (Reg 1 ∷ Reg 0 ∷ Reg 2 ∷ []) ∷ actions.Set 3 (Reg 1) ∷ []) ∷
            members.Method (Str (codes "m2")) (actions.Load 1 2 ∷ actions.Get 1 (Reg 2) (Str (codes "f1")) ∷ actions.Load 3 3 ∷ actions.Load 2 1 ∷ actions.Window 1 ∷ actions.New 0 (codes "U") ∷ actions.Put (Reg 0) (Str (codes "f0")) (Reg 4) ∷ actions.Slot 3 (Reg 0) ∷ actions.Drop 0 ∷ []) ∷ []);
      }) ∷
      (record {
        name = codes "T";
        version = 2;
        stored = true;
        members = (
            members.Method (Str (codes "m3")) (actions.Load 2 0 ∷ actions.Load 2 2 ∷ actions.New 3 (codes "T") ∷ actions.New 4 (codes "T") ∷ actions.New 5 (codes "T") ∷ []) ∷
            members.Construct (actions.Load 1 2 ∷ actions.Slot 2 (Reg 1) ∷ actions.OnTrue 3 ∷ actions.New 4 (codes "T") ∷ actions.New 5 (codes "T") ∷ actions.Put (Reg 4) (Str (codes "f1")) (Reg 0) ∷ actions.New 5 (codes "U") ∷ actions.Put (Reg 4) (IntKey (pos 7)) (Reg 5) ∷ actions.Drop 5 ∷ actions.Slot 1 (Reg 4) ∷ actions.Drop 4 ∷ []) ∷
            members.Method (Str (codes "m2")) (actions.Load 3 1 ∷ actions.Slot 1 (Reg 3) ∷ []) ∷
            members.Method (Str (codes "m1")) (actions.Load 3 1 ∷ actions.Load 2 0 ∷ actions.CallDefault 1 (Reg 1) (Reg 1 ∷ Reg 3 ∷ Reg 1 ∷ []) ∷ []) ∷
            members.Method (IntKey (pos 4)) (actions.Load 2 0 ∷ actions.Window 1 ∷ actions.New 1 (codes "Main") ∷ actions.Window 0 ∷ actions.Window 3 ∷ actions.Load 3 3 ∷ []) ∷
            members.Method (Str (codes "m0")) (actions.SelfTo 2 ∷ actions.Load 3 1 ∷ actions.Window 3 ∷ []) ∷
            members.Method (Str (codes "take")) (actions.Load 3 2 ∷ actions.Load 3 1 ∷ actions.New 5 (codes "T") ∷ actions.New 1 (codes "Main") ∷ actions.New 2 (codes "U") ∷ actions.Invoke 0 (Reg 0) (Str (codes "none")) (Reg 3 ∷ Reg 1 ∷ Reg 2 ∷ []) ∷ []) ∷ []);
      }) ∷
      (record {
        name = codes "U";
        version = 3;
        stored = true;
        members = (
            members.Method (Str (codes "m3")) (actions.SelfTo 2 ∷ actions.Slot 3 (Reg 3) ∷ actions.Note (Reg 0) ∷ actions.Slot 2 (Reg 2) ∷ actions.Window 1 ∷ actions.Note (Reg 2) ∷ actions.SelfTo 1 ∷ []) ∷
            members.Default [] ∷
            members.Setter (Str (codes "f0")) (actions.SelfTo 2 ∷ actions.Load 2 0 ∷ actions.New 5 (codes "T") ∷ actions.New 2 (codes "U") ∷ actions.New 3 (codes "Main") ∷ actions.Invoke 2 (Reg 4) (Str (codes "m3")) (Reg 3 ∷ Const (values.Text (codes "e")) ∷ []) ∷ actions.Load 0 1 ∷ []) ∷
            members.Method (Str (codes "m1")) (actions.New 1 (codes "T") ∷ actions.New 2 (codes "U") ∷ actions.Window 1 ∷ []) ∷
            members.Method (Str (codes "m0")) (actions.SelfTo 2 ∷ actions.Load 2 0 ∷ actions.New 3 (codes "U") ∷ actions.New 4 (codes "Main") ∷ actions.Window 0 ∷ []) ∷
            members.Method (IntKey (pos 4)) (actions.Window 0 ∷ actions.New 2 (codes "Main") ∷ actions.New 1 (codes "U") ∷ []) ∷
            members.Method (Str (codes "take")) (actions.Load 3 1 ∷ actions.New 1 (codes "Main") ∷ actions.Put (Reg 0) (Str (codes "7")) (Reg 2) ∷ []) ∷
            members.Method (Str (codes "m2")) [] ∷ []);
      }) ∷ []);
  handlers = (
      (record { which = handlers.New; body = (actions.New 0 (codes "Main") ∷ actions.Slot 0 (Reg 0) ∷ actions.Window 1 ∷ actions.Slot 1 (Reg 1) ∷ []) }) ∷
      (record { which = handlers.Scriptable; body = (actions.Load 0 0 ∷ actions.Return (Reg 0) ∷ []) }) ∷
      (record { which = handlers.Destroy; body = (actions.Load 2 0 ∷ actions.SelfTo 2 ∷ actions.Invoke 3 (Const values.Null) (Str (codes "m2")) [] ∷ []) }) ∷ []);
  tasks = [];
}

-- the run of both
both-end : outcome 1500 page plugin ≡ record {
  page = (
      Created (record { side = sides.Page; instance = 1; serial = 1 }) ∷
      CommandResult 1 (results.Code NoError) ∷
      CommandResult 2 (results.Yes (values.Object (record { side = sides.Plug; instance = 1; serial = 1 })) false) ∷
      Created (record { side = sides.Page; instance = 1; serial = 2 }) ∷
      CommandResult 3 (results.Yes (values.Object (record { side = sides.Page; instance = 1; serial = 2 })) false) ∷
      Created (record { side = sides.Page; instance = 1; serial = 3 }) ∷
      CommandResult 4 (results.Yes (values.Object (record { side = sides.Page; instance = 1; serial = 3 })) false) ∷
      CommandResult 5 (results.Yes values.Void false) ∷
      Deallocated (record { side = sides.Page; instance = 1; serial = 2 }) ∷
      CommandResult 6 (results.Yes values.Void false) ∷
      Deallocated (record { side = sides.Page; instance = 1; serial = 3 }) ∷
      CommandResult 7 results.No ∷
      Created (record { side = sides.Page; instance = 2; serial = 1 }) ∷
      CommandResult 8 (results.Code NoError) ∷
      CommandResult 9 (results.Yes (values.Object (record { side = sides.Plug; instance = 2; serial = 1 })) false) ∷
      CommandResult 10 (results.Yes values.Void false) ∷
      CommandResult 11 (results.Yes values.Void false) ∷
      CommandResult 12 results.No ∷
      CommandResult 13 (results.Yes values.Void false) ∷
      CommandResult 14 (results.Yes values.Void false) ∷
      CommandResult 15 results.No ∷
      CommandResult 16 results.No ∷
      CommandResult 17 results.No ∷
      CommandResult 18 results.No ∷
      Invalidated (record { side = sides.Page; instance = 1; serial = 1 }) ∷
      Deallocated (record { side = sides.Page; instance = 1; serial = 1 }) ∷
      Invalidated (record { side = sides.Page; instance = 2; serial = 1 }) ∷
      Deallocated (record { side = sides.Page; instance = 2; serial = 1 }) ∷ []);
  plugin = (
      HandlerRun 1 handlers.New ∷
      Created (record { side = sides.Plug; instance = 1; serial = 1 }) ∷
      HandlerRun 1 handlers.Scriptable ∷
      Entered (record { side = sides.Plug; instance = 1; serial = 1 }) (ops.Invoke (Str (codes "m2"))) ∷
      Created (record { side = sides.Plug; instance = 1; serial = 2 }) ∷
      Entered (record { side = sides.Plug; instance = 1; serial = 2 }) (ops.Put (Str (codes "f0"))) ∷
      Created (record { side = sides.Plug; instance = 1; serial = 3 }) ∷
      Created (record { side = sides.Plug; instance = 1; serial = 4 }) ∷
      Created (record { side = sides.Plug; instance = 1; serial = 5 }) ∷
      Deallocated (record { side = sides.Plug; instance = 1; serial = 4 }) ∷
      Deallocated (record { side = sides.Plug; instance = 1; serial = 5 }) ∷
      Deallocated (record { side = sides.Plug; instance = 1; serial = 3 }) ∷
      Entered (record { side = sides.Plug; instance = 1; serial = 1 }) ops.Default ∷
      HandlerRun 2 handlers.New ∷
      Created (record { side = sides.Plug; instance = 2; serial = 1 }) ∷
      HandlerRun 2 handlers.Scriptable ∷
      Entered (record { side = sides.Plug; instance = 2; serial = 1 }) (ops.Invoke (Str (codes "take"))) ∷
      HandlerRun 1 handlers.Destroy ∷
      ProxyGone (record { side = sides.Page; instance = 1; serial = 1 }) ∷
      Invalidated (record { side = sides.Plug; instance = 1; serial = 1 }) ∷
      Invalidated (record { side = sides.Plug; instance = 1; serial = 2 }) ∷
      Deallocated (record { side = sides.Plug; instance = 1; serial = 1 }) ∷
      Deallocated (record { side = sides.Plug; instance = 1; serial = 2 }) ∷
      HandlerRun 2 handlers.Destroy ∷
      ProxyGone (record { side = sides.Page; instance = 2; serial = 1 }) ∷
      Invalidated (record { side = sides.Plug; instance = 2; serial = 1 }) ∷
      Deallocated (record { side = sides.Plug; instance = 2; serial = 1 }) ∷ []);
  files = [];
  rests = true;
}
unfolding encoding digits is_text is_utf8 chars encode_utf8
both-end = refl

-- all bytes that the page sends
page-sends : page_bytes 1500 page plugin ≡ (0 ∷ 0 ∷ 0 ∷ 7 ∷ 1 ∷ 1 ∷ 0 ∷ 0 ∷ 1 ∷ 0 ∷ 27 ∷ 0 ∷ 0 ∷ 0 ∷ 12 ∷ 2 ∷ 1 ∷ 0 ∷ 0 ∷ 1 ∷ 2 ∷ 0 ∷ 3 ∷ 116 ∷ 47 ∷ 120 ∷ 0 ∷ 0 ∷ 0 ∷ 0 ∷ 11 ∷ 65 ∷ 2 ∷ 0 ∷ 0 ∷ 6 ∷ 0 ∷ 1 ∷ 0 ∷ 0 ∷ 0 ∷ 1 ∷ 0 ∷ 0 ∷ 0 ∷ 5 ∷ 4 ∷ 1 ∷ 0 ∷ 0 ∷ 1 ∷ 0 ∷ 0 ∷ 0 ∷ 31 ∷ 64 ∷ 1 ∷ 0 ∷ 0 ∷ 1 ∷ 0 ∷ 0 ∷ 0 ∷ 1 ∷ 1 ∷ 0 ∷ 0 ∷ 2 ∷ 109 ∷ 50 ∷ 3 ∷ 6 ∷ 0 ∷ 1 ∷ 0 ∷ 0 ∷ 0 ∷ 3 ∷ 6 ∷ 0 ∷ 1 ∷ 0 ∷ 0 ∷ 0 ∷ 2 ∷ 0 ∷ 0 ∷ 0 ∷ 0 ∷ 11 ∷ 65 ∷ 2 ∷ 0 ∷ 0 ∷ 6 ∷ 0 ∷ 1 ∷ 0 ∷ 0 ∷ 0 ∷ 1 ∷ 0 ∷ 0 ∷ 0 ∷ 32 ∷ 64 ∷ 1 ∷ 0 ∷ 0 ∷ 1 ∷ 0 ∷ 0 ∷ 0 ∷ 1 ∷ 2 ∷ 3 ∷ 6 ∷ 1 ∷ 1 ∷ 0 ∷ 0 ∷ 0 ∷ 1 ∷ 6 ∷ 1 ∷ 1 ∷ 0 ∷ 0 ∷ 0 ∷ 1 ∷ 6 ∷ 0 ∷ 1 ∷ 0 ∷ 0 ∷ 0 ∷ 2 ∷ 0 ∷ 0 ∷ 0 ∷ 12 ∷ 2 ∷ 1 ∷ 0 ∷ 0 ∷ 2 ∷ 2 ∷ 0 ∷ 3 ∷ 116 ∷ 47 ∷ 121 ∷ 0 ∷ 0 ∷ 0 ∷ 0 ∷ 11 ∷ 65 ∷ 2 ∷ 0 ∷ 0 ∷ 6 ∷ 0 ∷ 2 ∷ 0 ∷ 0 ∷ 0 ∷ 1 ∷ 0 ∷ 0 ∷ 0 ∷ 5 ∷ 4 ∷ 1 ∷ 0 ∷ 0 ∷ 2 ∷ 0 ∷ 0 ∷ 0 ∷ 36 ∷ 64 ∷ 1 ∷ 0 ∷ 1 ∷ 1 ∷ 0 ∷ 0 ∷ 0 ∷ 1 ∷ 0 ∷ 0 ∷ 0 ∷ 1 ∷ 2 ∷ 0 ∷ 0 ∷ 0 ∷ 1 ∷ 1 ∷ 0 ∷ 0 ∷ 4 ∷ 116 ∷ 97 ∷ 107 ∷ 101 ∷ 3 ∷ 6 ∷ 1 ∷ 2 ∷ 0 ∷ 0 ∷ 0 ∷ 1 ∷ 0 ∷ 0 ∷ 0 ∷ 0 ∷ 0 ∷ 13 ∷ 5 ∷ 1 ∷ 0 ∷ 1 ∷ 2 ∷ 0 ∷ 0 ∷ 0 ∷ 1 ∷ 0 ∷ 0 ∷ 0 ∷ 1 ∷ 0 ∷ 0 ∷ 0 ∷ 5 ∷ 3 ∷ 1 ∷ 0 ∷ 0 ∷ 1 ∷ 0 ∷ 0 ∷ 0 ∷ 5 ∷ 3 ∷ 1 ∷ 0 ∷ 0 ∷ 2 ∷ 0 ∷ 0 ∷ 0 ∷ 4 ∷ 12 ∷ 1 ∷ 0 ∷ 0 ∷ [])
unfolding encoding digits is_text is_utf8 chars encode_utf8
page-sends = refl

-- all bytes that the plugin sends
plugin-sends : plugin_bytes 1500 page plugin ≡ (0 ∷ 0 ∷ 0 ∷ 5 ∷ 69 ∷ 1 ∷ 0 ∷ 0 ∷ 0 ∷ 0 ∷ 0 ∷ 0 ∷ 5 ∷ 32 ∷ 2 ∷ 0 ∷ 0 ∷ 1 ∷ 0 ∷ 0 ∷ 0 ∷ 5 ∷ 69 ∷ 1 ∷ 0 ∷ 0 ∷ 0 ∷ 0 ∷ 0 ∷ 0 ∷ 11 ∷ 65 ∷ 1 ∷ 0 ∷ 0 ∷ 6 ∷ 1 ∷ 1 ∷ 0 ∷ 0 ∷ 0 ∷ 1 ∷ 0 ∷ 0 ∷ 0 ∷ 14 ∷ 32 ∷ 2 ∷ 0 ∷ 1 ∷ 1 ∷ 0 ∷ 0 ∷ 0 ∷ 2 ∷ 0 ∷ 0 ∷ 0 ∷ 1 ∷ 1 ∷ 0 ∷ 0 ∷ 0 ∷ 14 ∷ 65 ∷ 1 ∷ 0 ∷ 1 ∷ 1 ∷ 0 ∷ 0 ∷ 0 ∷ 3 ∷ 0 ∷ 0 ∷ 0 ∷ 1 ∷ 0 ∷ 0 ∷ 0 ∷ 0 ∷ 14 ∷ 65 ∷ 1 ∷ 0 ∷ 1 ∷ 1 ∷ 0 ∷ 0 ∷ 0 ∷ 2 ∷ 0 ∷ 0 ∷ 0 ∷ 1 ∷ 0 ∷ 0 ∷ 0 ∷ 0 ∷ 5 ∷ 32 ∷ 2 ∷ 0 ∷ 0 ∷ 2 ∷ 0 ∷ 0 ∷ 0 ∷ 5 ∷ 69 ∷ 1 ∷ 0 ∷ 0 ∷ 0 ∷ 0 ∷ 0 ∷ 0 ∷ 11 ∷ 65 ∷ 1 ∷ 0 ∷ 0 ∷ 6 ∷ 1 ∷ 2 ∷ 0 ∷ 0 ∷ 0 ∷ 1 ∷ 0 ∷ 0 ∷ 0 ∷ 5 ∷ 65 ∷ 1 ∷ 0 ∷ 0 ∷ 0 ∷ 0 ∷ 0 ∷ 0 ∷ 4 ∷ 71 ∷ 1 ∷ 0 ∷ 0 ∷ 0 ∷ 0 ∷ 0 ∷ 5 ∷ 69 ∷ 1 ∷ 0 ∷ 0 ∷ 0 ∷ 0 ∷ 0 ∷ 0 ∷ 5 ∷ 69 ∷ 1 ∷ 0 ∷ 0 ∷ 0 ∷ 0 ∷ 0 ∷ 0 ∷ 4 ∷ 71 ∷ 1 ∷ 0 ∷ 0 ∷ [])
unfolding encoding digits is_text is_utf8 chars encode_utf8
plugin-sends = refl
