-- Made by tools/vector-theorems of tests/vectors/8-009.
use Rattle.std.proofs.Common.{◌≡◌, pos, negsuc, [], ◌∷◌, refl, true, false}
use Rattle.std.specs.Prelude.{codes}
use Rattle.std.specs.Char.{encode_utf8}
use Rattle.std.specs.Fmt.{digits}
use Rattle.std.specs.Str.{is_utf8, chars}
use Rattle.np_values.specs.declared.error.NpError.TheVariants.{NoError, InvalidInstance}
use Rattle.np_values.specs.declared.handler.Handler.TheVariants as handlers
use Rattle.np_values.specs.declared.name.Side.TheVariants as sides
use Rattle.np_values.specs.declared.value.Value.TheVariants as values
use Rattle.np_values.specs.Text.{is_text}
use Rattle.np_idents.specs.declared.key.IdKey.TheVariants.{Str, Int as IntKey}
use Rattle.np_idents.specs.declared.op.Op.TheVariants as ops
use Rattle.np_script_grammar.specs.declared.action.Action.TheVariants as actions
use Rattle.np_script_grammar.specs.declared.action.Operand.TheVariants.{Reg, Const}
use Rattle.np_script_grammar.specs.declared.class.Member.TheVariants as members
use Rattle.np_script_grammar.specs.declared.command.Command.TheVariants as commands
use Rattle.np_script_grammar.specs.declared.page.Page.{Page}
use Rattle.np_script_grammar.specs.declared.plugin.Plugin.{Plugin}
use Rattle.np_message.specs.Encoding.{encoding}
use Rattle.np_journal.specs.declared.line.Line.TheVariants.{Created, Entered, HandlerRun, ProxyGone, Invalidated, Deallocated, Noted, CommandResult}
use Rattle.np_journal.specs.declared.printed.Printed.TheVariants as results
use Rattle.np_machine_plans.specs.Outcomes.{outcome, page_bytes, plugin_bytes}

abbrev page : Page
page = record {
  major = 0;
  minor = 27;
  classes = (
      (record {
        name = codes "Window";
        version = 3;
        stored = false;
        members = (
            members.Method (IntKey (pos 4)) (actions.Load 2 0 ∷ actions.New 2 (codes "A") ∷ actions.OnFalse 2 ∷ actions.New 4 (codes "Window") ∷ actions.Load 2 3 ∷ []) ∷
            members.Method (Str (codes "m2")) (actions.New 5 (codes "B") ∷ actions.New 3 (codes "A") ∷ actions.Load 3 1 ∷ actions.Invoke 5 (Reg 3) (IntKey (pos 4)) (Reg 3 ∷ Reg 0 ∷ Reg 3 ∷ []) ∷ []) ∷
            members.Method (Str (codes "m1")) (actions.SelfTo 2 ∷ actions.New 2 (codes "A") ∷ actions.Invoke 3 (Reg 2) (IntKey (pos 4)) (Reg 2 ∷ Const (values.Double (0 ∷ 1 ∷ 2 ∷ 3 ∷ 4 ∷ 5 ∷ 6 ∷ 7 ∷ [])) ∷ Reg 0 ∷ []) ∷ actions.New 3 (codes "A") ∷ actions.Enumerate 1 (Reg 0) ∷ actions.Load 0 1 ∷ []) ∷
            members.Default (actions.SelfTo 2 ∷ actions.Load 3 1 ∷ []) ∷
            members.Method (Str (codes "m3")) (actions.Load 3 1 ∷ actions.Load 3 2 ∷ []) ∷
            members.Method (Str (codes "take")) (actions.Load 2 2 ∷ actions.Load 3 1 ∷ actions.Note (Reg 1) ∷ actions.Slot 2 (Reg 0) ∷ actions.Load 2 0 ∷ actions.Return (Reg 3) ∷ []) ∷
            members.Method (Str (codes "m0")) (actions.New 2 (codes "A") ∷ actions.Invoke 0 (Const (values.Double (0 ∷ 1 ∷ 2 ∷ 3 ∷ 4 ∷ 5 ∷ 6 ∷ 7 ∷ []))) (Str (codes "m2")) (Const (values.Double (0 ∷ 1 ∷ 2 ∷ 3 ∷ 4 ∷ 5 ∷ 6 ∷ 7 ∷ [])) ∷ Reg 3 ∷ Reg 3 ∷ []) ∷ actions.SelfTo 0 ∷ actions.Load 0 2 ∷ actions.New 4 (codes "B") ∷ actions.New 5 (codes "A") ∷ actions.New 3 (codes "A") ∷ actions.Put (Reg 4) (IntKey (pos 7)) (Reg 5) ∷ actions.New 5 (codes "A") ∷ actions.Put (Reg 4) (Str (codes "f0")) (Reg 5) ∷ actions.Put (Reg 4) (Str (codes "f1")) (Reg 5) ∷ actions.Drop 5 ∷ actions.Slot 0 (Reg 4) ∷ actions.Drop 4 ∷ []) ∷ []);
      }) ∷
      (record {
        name = codes "A";
        version = 3;
        stored = true;
        members = (
            members.Method (Str (codes "m1")) (actions.Load 2 0 ∷ actions.SelfTo 2 ∷ actions.New 1 (codes "A") ∷ actions.New 2 (codes "Window") ∷ actions.Drop 0 ∷ []) ∷
            members.Method (Str (codes "m0")) (actions.Load 2 0 ∷ actions.Load 3 0 ∷ []) ∷
            members.Method (Str (codes "take")) (actions.Load 5 1 ∷ []) ∷
            members.Method (Str (codes "m3")) (actions.SelfTo 2 ∷ actions.Load 1 1 ∷ actions.Load 0 3 ∷ actions.New 1 (codes "B") ∷ actions.Invoke 3 (Reg 1) (Str (codes "take")) (Reg 2 ∷ Reg 0 ∷ []) ∷ actions.Get 0 (Reg 1) (Str (codes "f1")) ∷ []) ∷
            members.Setter (Str (codes "f0")) (actions.New 1 (codes "Window") ∷ actions.New 1 (codes "Window") ∷ actions.New 3 (codes "Window") ∷ actions.Drop 3 ∷ actions.Invoke 1 (Reg 0) (IntKey (pos 4)) (Reg 3 ∷ Const (values.Int (negsuc 2147483647)) ∷ Reg 3 ∷ Reg 0 ∷ Const values.Null ∷ Const (values.Text (codes "e")) ∷ Reg 2 ∷ Const values.Null ∷ []) ∷ actions.Load 3 3 ∷ []) ∷
            members.Default (actions.Load 2 2 ∷ actions.New 2 (codes "Window") ∷ actions.Put (Reg 0) (Str (codes "f1")) (Reg 3) ∷ actions.OnFalse 2 ∷ actions.Invoke 0 (Reg 2) (IntKey (pos 4)) (Reg 3 ∷ Reg 3 ∷ Reg 0 ∷ []) ∷ []) ∷
            members.Method (Str (codes "m2")) [] ∷
            members.Method (IntKey (pos 4)) (actions.Load 3 2 ∷ actions.Load 0 3 ∷ actions.Load 2 0 ∷ actions.Invoke 3 (Reg 3) (Str (codes "take")) [] ∷ []) ∷ []);
      }) ∷
      (record {
        name = codes "B";
        version = 2;
        stored = false;
        members = (
            members.Method (Str (codes "m3")) (actions.Load 4 2 ∷ actions.SelfTo 2 ∷ actions.OnFalse 2 ∷ []) ∷
            members.Method (Str (codes "m2")) [] ∷
            members.Method (Str (codes "m1")) (actions.Load 1 2 ∷ actions.Return (Reg 5) ∷ actions.Load 5 1 ∷ []) ∷
            members.Method (Str (codes "m0")) (actions.Load 3 1 ∷ actions.Note (Reg 0) ∷ actions.Drop 0 ∷ []) ∷
            members.Setter (Str (codes "f1")) (actions.Load 2 2 ∷ actions.Load 2 0 ∷ actions.Return (Reg 0) ∷ actions.Throw (codes "no") ∷ actions.Fail ∷ actions.Load 1 3 ∷ []) ∷
            members.Default [] ∷
            members.Method (IntKey (pos 4)) (actions.SelfTo 2 ∷ actions.Invoke 2 (Reg 0) (Str (codes "take")) (Reg 5 ∷ Const (values.Int (pos 1)) ∷ []) ∷ actions.Slot 2 (Reg 1) ∷ []) ∷
            members.Construct (actions.Load 3 2 ∷ actions.Load 1 2 ∷ actions.Load 2 1 ∷ actions.Set 1 (Reg 1) ∷ []) ∷ []);
      }) ∷ []);
  resources = [];
  commands = (
      commands.Create (codes "t/x") 2 (codes "a" ∷ codes "1" ∷ []) ∷
      commands.Scriptable 0 1 ∷
      commands.Create (codes "t/x") 1 [] ∷
      commands.Scriptable 1 2 ∷
      commands.New 2 1 (codes "A") ∷
      commands.New 3 2 (codes "Window") ∷
      commands.Invoke 5 (Reg 2) (Str (codes "m0")) (Reg 0 ∷ Reg 2 ∷ Reg 3 ∷ []) ∷
      commands.New 4 1 (codes "A") ∷
      commands.Invoke 5 (Reg 1) (Str (codes "m2")) (Reg 2 ∷ []) ∷
      commands.Drop 2 ∷
      commands.Invoke 4 (Reg 1) (Str (codes "m2")) (Const (values.Bool false) ∷ Reg 5 ∷ []) ∷
      commands.Invoke 4 (Reg 2) (Str (codes "m0")) (Reg 1 ∷ []) ∷
      commands.Invoke 4 (Reg 2) (IntKey (pos 4)) (Reg 4 ∷ Reg 0 ∷ Reg 3 ∷ []) ∷
      commands.Invoke 4 (Reg 1) (Str (codes "m2")) (Reg 2 ∷ Reg 0 ∷ Reg 5 ∷ []) ∷
      commands.Invoke 4 (Reg 0) (Str (codes "m1")) (Const (values.Int (pos 0)) ∷ Reg 3 ∷ Reg 3 ∷ []) ∷
      commands.Invoke 5 (Reg 1) (IntKey (pos 4)) (Reg 1 ∷ Const (values.Int (negsuc 2147483647)) ∷ []) ∷
      commands.New 3 1 (codes "Window") ∷
      commands.New 0 1 (codes "A") ∷
      commands.Invoke 5 (Reg 2) (IntKey (pos 4)) (Reg 1 ∷ Reg 2 ∷ []) ∷
      commands.Invoke 3 (Reg 3) (Str (codes "m3")) (Reg 2 ∷ Reg 3 ∷ Reg 0 ∷ []) ∷
      commands.Turn ∷
      commands.Invoke 5 (Reg 1) (Str (codes "m2")) (Reg 5 ∷ []) ∷
      commands.Drop 5 ∷
      commands.Invoke 5 (Reg 1) (Str (codes "m1")) [] ∷
      commands.Set 2 (Const (values.Bool true)) ∷
      commands.Invoke 4 (Reg 3) (IntKey (pos 4)) (Reg 0 ∷ Reg 10 ∷ Reg 3 ∷ []) ∷
      commands.New 4 1 (codes "A") ∷
      commands.Invoke 5 (Reg 0) (Str (codes "m2")) (Reg 0 ∷ []) ∷
      commands.Drop 0 ∷
      commands.Invoke 0 (Reg 0) (Str (codes "m1")) [] ∷
      commands.Destroy 2 ∷
      commands.Invoke 4 (Reg 3) (Str (codes "take")) (Reg 1 ∷ Reg 2 ∷ Reg 3 ∷ []) ∷
      commands.Destroy 2 ∷
      commands.Invoke 5 (Reg 0) (Str (codes "m0")) [] ∷
      commands.Invoke 0 (Reg 2) (Str (codes "m1")) (Reg 3 ∷ Reg 0 ∷ Reg 4 ∷ []) ∷
      commands.Note (Reg 2) ∷
      commands.Invoke 1 (Reg 15) (Str (codes "m3")) (Reg 2 ∷ Reg 1 ∷ Const (values.Int (pos 14)) ∷ []) ∷
      commands.Turn ∷
      commands.Set 2 (Reg 1) ∷ []);
}

abbrev plugin : Plugin
plugin = record {
  major = 0;
  minor = 27;
  classes = (
      (record {
        name = codes "Main";
        version = 3;
        stored = true;
        members = (
            members.Method (Str (codes "take")) (actions.Load 2 0 ∷ actions.Load 1 2 ∷ actions.New 2 (codes "T") ∷ actions.New 5 (codes "T") ∷ actions.New 3 (codes "U") ∷ actions.Window 1 ∷ []) ∷
            members.Method (IntKey (pos 4)) (actions.Load 2 0 ∷ actions.Window 2 ∷ actions.New 3 (codes "T") ∷ actions.Window 3 ∷ []) ∷
            members.Method (Str (codes "m0")) (actions.Load 3 2 ∷ actions.New 0 (codes "U") ∷ actions.Put (Reg 0) (Str (codes "f0")) (Reg 3) ∷ actions.Get 3 (Reg 0) (Str (codes "f0")) ∷ actions.Remove (Reg 0) (Str (codes "f0")) ∷ []) ∷
            members.Method (Str (codes "m2")) (actions.Slot 2 (Reg 2) ∷ actions.New 4 (codes "Main") ∷ actions.New 3 (codes "U") ∷ actions.Get 0 (Reg 1) (IntKey (pos 7)) ∷ actions.Load 3 1 ∷ []) ∷
            members.Setter (Str (codes "f0")) [] ∷
            members.Method (Str (codes "m1")) (actions.Load 2 0 ∷ actions.New 4 (codes "Main") ∷ actions.New 3 (codes "U") ∷ []) ∷ []);
      }) ∷
      (record {
        name = codes "T";
        version = 3;
        stored = false;
        members = (
            members.Construct [] ∷
            members.Method (Str (codes "m1")) (actions.Load 2 0 ∷ actions.Load 3 1 ∷ actions.New 2 (codes "Main") ∷ []) ∷
            members.Method (Str (codes "take")) [] ∷
            members.Method (Str (codes "m0")) (actions.New 1 (codes "U") ∷ actions.New 2 (codes "U") ∷ []) ∷
            members.Method (Str (codes "m2")) (actions.SelfTo 2 ∷ actions.Window 3 ∷ actions.Slot 0 (Reg 2) ∷ []) ∷
            members.Method (IntKey (pos 4)) (actions.Load 3 1 ∷ actions.New 2 (codes "U") ∷ actions.New 4 (codes "U") ∷ actions.New 5 (codes "U") ∷ actions.Window 3 ∷ actions.Invoke 1 (Reg 2) (Str (codes "take")) (Reg 2 ∷ Reg 2 ∷ Reg 2 ∷ []) ∷ actions.Load 0 3 ∷ []) ∷
            members.Method (Str (codes "m3")) (actions.Load 3 1 ∷ actions.Load 13 2 ∷ actions.New 2 (codes "Main") ∷ []) ∷ []);
      }) ∷
      (record {
        name = codes "U";
        version = 3;
        stored = true;
        members = (
            members.Method (IntKey (pos 4)) (actions.SelfTo 2 ∷ actions.Window 3 ∷ actions.Load 4 3 ∷ actions.Get 0 (Reg 4) (Str (codes "f0")) ∷ actions.Put (Reg 4) (Str (codes "f0")) (Reg 3) ∷ []) ∷
            members.Setter (Str (codes "f0")) [] ∷
            members.Method (Str (codes "take")) (actions.Load 3 1 ∷ actions.Window 3 ∷ actions.Invoke 5 (Reg 1) (Str (codes "none")) (Reg 5 ∷ Reg 0 ∷ []) ∷ actions.New 1 (codes "T") ∷ actions.Slot 3 (Reg 3) ∷ []) ∷
            members.Method (Str (codes "m2")) (actions.Window 2 ∷ actions.New 4 (codes "T") ∷ actions.New 5 (codes "Main") ∷ actions.Put (Reg 4) (Str (codes "f0")) (Reg 5) ∷ actions.New 5 (codes "T") ∷ actions.Put (Reg 4) (IntKey (pos 7)) (Reg 3) ∷ actions.Drop 5 ∷ actions.Return (Reg 4) ∷ []) ∷
            members.Default (actions.New 5 (codes "T") ∷ []) ∷
            members.Method (Str (codes "m1")) (actions.Load 0 2 ∷ actions.Load 3 1 ∷ actions.Invoke 1 (Const (values.Int (pos 1))) (Str (codes "take")) (Reg 2 ∷ Reg 0 ∷ Reg 4 ∷ []) ∷ actions.New 1 (codes "U") ∷ actions.New 2 (codes "Main") ∷ actions.New 5 (codes "T") ∷ actions.New 1 (codes "U") ∷ []) ∷
            members.Method (Str (codes "m0")) (actions.New 2 (codes "T") ∷ []) ∷
            members.Construct [] ∷
            members.Method (Str (codes "m3")) (actions.Slot 3 (Reg 1) ∷ actions.Load 0 2 ∷ actions.Get 1 (Reg 0) (Str (codes "f0")) ∷ actions.Put (Reg 0) (Str (codes "f0")) (Reg 1) ∷ []) ∷ []);
      }) ∷ []);
  handlers = (
      (record { which = handlers.New; body = (actions.New 0 (codes "Main") ∷ actions.Slot 0 (Reg 0) ∷ actions.Window 1 ∷ actions.Slot 1 (Reg 1) ∷ actions.SelfTo 2 ∷ actions.Load 11 2 ∷ actions.Invoke 2 (Reg 0) (Str (codes "m3")) (Reg 0 ∷ Reg 0 ∷ []) ∷ []) }) ∷
      (record { which = handlers.Destroy; body = (actions.Window 3 ∷ actions.Construct 3 (Reg 3) (Reg 2 ∷ Reg 1 ∷ []) ∷ actions.CallDefault 2 (Reg 5) (Reg 3 ∷ Reg 3 ∷ []) ∷ []) }) ∷ []);
  tasks = [];
}

-- the run of both
both-end : outcome 1500 page plugin ≡ record {
  page = (
      Created (record { side = sides.Page; instance = 1; serial = 1 }) ∷
      CommandResult 1 (results.Code NoError) ∷
      CommandResult 2 results.No ∷
      Created (record { side = sides.Page; instance = 2; serial = 1 }) ∷
      CommandResult 3 (results.Code NoError) ∷
      CommandResult 4 results.No ∷
      Created (record { side = sides.Page; instance = 1; serial = 2 }) ∷
      CommandResult 5 (results.Yes (values.Object (record { side = sides.Page; instance = 1; serial = 2 })) false) ∷
      Created (record { side = sides.Page; instance = 2; serial = 2 }) ∷
      CommandResult 6 (results.Yes (values.Object (record { side = sides.Page; instance = 2; serial = 2 })) false) ∷
      Entered (record { side = sides.Page; instance = 1; serial = 2 }) (ops.Invoke (Str (codes "m0"))) ∷
      CommandResult 7 (results.Yes values.Void false) ∷
      Created (record { side = sides.Page; instance = 1; serial = 3 }) ∷
      CommandResult 8 (results.Yes (values.Object (record { side = sides.Page; instance = 1; serial = 3 })) false) ∷
      CommandResult 9 results.No ∷
      Deallocated (record { side = sides.Page; instance = 1; serial = 2 }) ∷
      CommandResult 10 (results.Yes values.Void false) ∷
      Deallocated (record { side = sides.Page; instance = 1; serial = 3 }) ∷
      CommandResult 11 results.No ∷
      CommandResult 12 results.No ∷
      CommandResult 13 results.No ∷
      CommandResult 14 results.No ∷
      CommandResult 15 results.No ∷
      CommandResult 16 results.No ∷
      Created (record { side = sides.Page; instance = 1; serial = 4 }) ∷
      Deallocated (record { side = sides.Page; instance = 2; serial = 2 }) ∷
      CommandResult 17 (results.Yes (values.Object (record { side = sides.Page; instance = 1; serial = 4 })) false) ∷
      Created (record { side = sides.Page; instance = 1; serial = 5 }) ∷
      CommandResult 18 (results.Yes (values.Object (record { side = sides.Page; instance = 1; serial = 5 })) false) ∷
      CommandResult 19 results.No ∷
      Entered (record { side = sides.Page; instance = 1; serial = 4 }) (ops.Invoke (Str (codes "m3"))) ∷
      Deallocated (record { side = sides.Page; instance = 1; serial = 4 }) ∷
      CommandResult 20 (results.Yes values.Void false) ∷
      CommandResult 21 (results.Yes values.Void false) ∷
      CommandResult 22 results.No ∷
      CommandResult 23 (results.Yes values.Void false) ∷
      CommandResult 24 results.No ∷
      CommandResult 25 (results.Yes (values.Bool true) false) ∷
      CommandResult 26 results.No ∷
      Created (record { side = sides.Page; instance = 1; serial = 6 }) ∷
      CommandResult 27 (results.Yes (values.Object (record { side = sides.Page; instance = 1; serial = 6 })) false) ∷
      Entered (record { side = sides.Page; instance = 1; serial = 5 }) (ops.Invoke (Str (codes "m2"))) ∷
      CommandResult 28 (results.Yes values.Void false) ∷
      Deallocated (record { side = sides.Page; instance = 1; serial = 5 }) ∷
      CommandResult 29 (results.Yes values.Void false) ∷
      CommandResult 30 results.No ∷
      Invalidated (record { side = sides.Page; instance = 2; serial = 1 }) ∷
      Deallocated (record { side = sides.Page; instance = 2; serial = 1 }) ∷
      CommandResult 31 (results.Code NoError) ∷
      Deallocated (record { side = sides.Page; instance = 1; serial = 6 }) ∷
      CommandResult 32 results.No ∷
      CommandResult 33 (results.Code InvalidInstance) ∷
      CommandResult 34 results.No ∷
      CommandResult 35 results.No ∷
      Noted (values.Bool true) false ∷
      CommandResult 36 (results.Yes values.Void false) ∷
      CommandResult 37 results.No ∷
      CommandResult 38 (results.Yes values.Void false) ∷
      CommandResult 39 (results.Yes values.Void false) ∷
      Invalidated (record { side = sides.Page; instance = 1; serial = 1 }) ∷
      Deallocated (record { side = sides.Page; instance = 1; serial = 1 }) ∷ []);
  plugin = (
      HandlerRun 1 handlers.New ∷
      Created (record { side = sides.Plug; instance = 1; serial = 1 }) ∷
      HandlerRun 2 handlers.New ∷
      Created (record { side = sides.Plug; instance = 2; serial = 1 }) ∷
      HandlerRun 2 handlers.Destroy ∷
      ProxyGone (record { side = sides.Page; instance = 2; serial = 1 }) ∷
      Invalidated (record { side = sides.Plug; instance = 2; serial = 1 }) ∷
      Deallocated (record { side = sides.Plug; instance = 2; serial = 1 }) ∷
      HandlerRun 1 handlers.Destroy ∷
      ProxyGone (record { side = sides.Page; instance = 1; serial = 1 }) ∷
      Invalidated (record { side = sides.Plug; instance = 1; serial = 1 }) ∷
      Deallocated (record { side = sides.Plug; instance = 1; serial = 1 }) ∷ []);
  files = [];
  rests = true;
}
unfolding encoding digits is_text is_utf8 chars encode_utf8
both-end = refl

-- all bytes that the page sends
page-sends : page_bytes 1500 page plugin ≡ (0 ∷ 0 ∷ 0 ∷ 7 ∷ 1 ∷ 1 ∷ 0 ∷ 0 ∷ 1 ∷ 0 ∷ 27 ∷ 0 ∷ 0 ∷ 0 ∷ 18 ∷ 2 ∷ 1 ∷ 0 ∷ 0 ∷ 1 ∷ 2 ∷ 0 ∷ 3 ∷ 116 ∷ 47 ∷ 120 ∷ 1 ∷ 0 ∷ 1 ∷ 97 ∷ 0 ∷ 1 ∷ 49 ∷ 0 ∷ 0 ∷ 0 ∷ 11 ∷ 65 ∷ 2 ∷ 0 ∷ 0 ∷ 6 ∷ 0 ∷ 1 ∷ 0 ∷ 0 ∷ 0 ∷ 1 ∷ 0 ∷ 0 ∷ 0 ∷ 5 ∷ 4 ∷ 1 ∷ 0 ∷ 0 ∷ 1 ∷ 0 ∷ 0 ∷ 0 ∷ 12 ∷ 2 ∷ 1 ∷ 0 ∷ 0 ∷ 2 ∷ 1 ∷ 0 ∷ 3 ∷ 116 ∷ 47 ∷ 120 ∷ 0 ∷ 0 ∷ 0 ∷ 0 ∷ 11 ∷ 65 ∷ 2 ∷ 0 ∷ 0 ∷ 6 ∷ 0 ∷ 2 ∷ 0 ∷ 0 ∷ 0 ∷ 1 ∷ 0 ∷ 0 ∷ 0 ∷ 5 ∷ 4 ∷ 1 ∷ 0 ∷ 0 ∷ 2 ∷ 0 ∷ 0 ∷ 0 ∷ 4 ∷ 5 ∷ 1 ∷ 0 ∷ 0 ∷ 0 ∷ 0 ∷ 0 ∷ 5 ∷ 3 ∷ 1 ∷ 0 ∷ 0 ∷ 2 ∷ 0 ∷ 0 ∷ 0 ∷ 11 ∷ 65 ∷ 2 ∷ 0 ∷ 0 ∷ 6 ∷ 0 ∷ 2 ∷ 0 ∷ 0 ∷ 0 ∷ 1 ∷ 0 ∷ 0 ∷ 0 ∷ 4 ∷ 66 ∷ 2 ∷ 0 ∷ 0 ∷ 0 ∷ 0 ∷ 0 ∷ 4 ∷ 5 ∷ 1 ∷ 0 ∷ 0 ∷ 0 ∷ 0 ∷ 0 ∷ 5 ∷ 3 ∷ 1 ∷ 0 ∷ 0 ∷ 1 ∷ 0 ∷ 0 ∷ 0 ∷ 11 ∷ 65 ∷ 2 ∷ 0 ∷ 0 ∷ 6 ∷ 0 ∷ 1 ∷ 0 ∷ 0 ∷ 0 ∷ 1 ∷ 0 ∷ 0 ∷ 0 ∷ 4 ∷ 66 ∷ 2 ∷ 0 ∷ 0 ∷ 0 ∷ 0 ∷ 0 ∷ 4 ∷ 12 ∷ 1 ∷ 0 ∷ 0 ∷ [])
unfolding encoding digits is_text is_utf8 chars encode_utf8
page-sends = refl

-- all bytes that the plugin sends
plugin-sends : plugin_bytes 1500 page plugin ≡ (0 ∷ 0 ∷ 0 ∷ 5 ∷ 69 ∷ 1 ∷ 0 ∷ 0 ∷ 0 ∷ 0 ∷ 0 ∷ 0 ∷ 5 ∷ 32 ∷ 2 ∷ 0 ∷ 0 ∷ 1 ∷ 0 ∷ 0 ∷ 0 ∷ 5 ∷ 69 ∷ 1 ∷ 0 ∷ 0 ∷ 0 ∷ 0 ∷ 0 ∷ 0 ∷ 4 ∷ 66 ∷ 1 ∷ 0 ∷ 0 ∷ 0 ∷ 0 ∷ 0 ∷ 5 ∷ 32 ∷ 2 ∷ 0 ∷ 0 ∷ 2 ∷ 0 ∷ 0 ∷ 0 ∷ 5 ∷ 69 ∷ 1 ∷ 0 ∷ 0 ∷ 0 ∷ 0 ∷ 0 ∷ 0 ∷ 4 ∷ 66 ∷ 1 ∷ 0 ∷ 0 ∷ 0 ∷ 0 ∷ 0 ∷ 4 ∷ 71 ∷ 1 ∷ 0 ∷ 0 ∷ 0 ∷ 0 ∷ 0 ∷ 5 ∷ 32 ∷ 2 ∷ 0 ∷ 0 ∷ 2 ∷ 0 ∷ 0 ∷ 0 ∷ 13 ∷ 64 ∷ 2 ∷ 0 ∷ 0 ∷ 2 ∷ 0 ∷ 0 ∷ 0 ∷ 1 ∷ 3 ∷ 2 ∷ 0 ∷ 0 ∷ 0 ∷ 0 ∷ 0 ∷ 5 ∷ 69 ∷ 1 ∷ 0 ∷ 0 ∷ 0 ∷ 0 ∷ 0 ∷ 0 ∷ 4 ∷ 71 ∷ 1 ∷ 0 ∷ 0 ∷ 0 ∷ 0 ∷ 0 ∷ 5 ∷ 32 ∷ 2 ∷ 0 ∷ 0 ∷ 1 ∷ 0 ∷ 0 ∷ 0 ∷ 13 ∷ 64 ∷ 2 ∷ 0 ∷ 0 ∷ 1 ∷ 0 ∷ 0 ∷ 0 ∷ 1 ∷ 3 ∷ 2 ∷ 0 ∷ 0 ∷ 0 ∷ 0 ∷ 0 ∷ 5 ∷ 69 ∷ 1 ∷ 0 ∷ 0 ∷ 0 ∷ 0 ∷ 0 ∷ 0 ∷ 4 ∷ 71 ∷ 1 ∷ 0 ∷ 0 ∷ [])
unfolding encoding digits is_text is_utf8 chars encode_utf8
plugin-sends = refl
