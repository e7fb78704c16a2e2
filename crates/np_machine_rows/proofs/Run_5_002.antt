-- Made by tools/vector-theorems of tests/vectors/5-002.
use Rattle.std.proofs.Common.{◌≡◌, pos, negsuc, [], ◌∷◌, refl, true, false, Some, None}
use Rattle.std.specs.Prelude.{codes}
use Rattle.std.specs.Char.{encode_utf8}
use Rattle.std.specs.Fmt.{digits}
use Rattle.std.specs.Str.{is_utf8, chars}
use Rattle.np_values.specs.declared.error.NpError.TheVariants.{NoError}
use Rattle.np_values.specs.declared.handler.Handler.TheVariants as handlers
use Rattle.np_values.specs.declared.name.Side.TheVariants as sides
use Rattle.np_values.specs.declared.value.Value.TheVariants as values
use Rattle.np_values.specs.Text.{is_text}
use Rattle.np_idents.specs.declared.key.IdKey.TheVariants.{Str, Int as IntKey}
use Rattle.np_idents.specs.declared.op.Op.TheVariants as ops
use Rattle.np_script_grammar.specs.declared.action.Action.TheVariants as actions
use Rattle.np_script_grammar.specs.declared.action.Operand.TheVariants.{Reg, Const}
use Rattle.np_script_grammar.specs.declared.class.Member.TheVariants as members
use Rattle.np_script_grammar.specs.declared.command.Command.TheVariants as commands
use Rattle.np_script_grammar.specs.declared.page.Page.{Page}
use Rattle.np_script_grammar.specs.declared.plugin.Plugin.{Plugin}
use Rattle.np_message.specs.Encoding.{encoding}
use Rattle.np_journal.specs.declared.line.Line.TheVariants.{Created, Entered, HandlerRun, ProxyGone, Invalidated, Deallocated, CommandResult}
use Rattle.np_journal.specs.declared.printed.Printed.TheVariants as results
use Rattle.np_machine_plans.specs.Outcomes.{outcome, page_bytes, plugin_bytes, lost_outcome}

abbrev page : Page
page = record {
  major = 0;
  minor = 27;
  classes = (
      (record {
        name = codes "A";
        version = 2;
        stored = false;
        members = (
            members.Method (Str (codes "m0")) (actions.Load 2 2 ∷ actions.Invoke 0 (Reg 0) (Str (codes "m2")) (Reg 1 ∷ Reg 2 ∷ Reg 0 ∷ []) ∷ actions.Load 1 3 ∷ actions.Drop 0 ∷ []) ∷
            members.Method (Str (codes "m1")) (actions.Load 3 1 ∷ actions.Load 2 0 ∷ actions.Invoke 1 (Reg 1) (Str (codes "take")) (Reg 10 ∷ []) ∷ actions.Slot 0 (Reg 2) ∷ []) ∷
            members.Method (IntKey (pos 4)) (actions.New 2 (codes "B") ∷ actions.Put (Reg 2) (Str (codes "f0")) (Reg 0) ∷ actions.Return (Reg 1) ∷ actions.Invoke 2 (Reg 1) (Str (codes "take")) (Reg 0 ∷ []) ∷ []) ∷
            members.Construct (actions.Load 2 2 ∷ actions.New 2 (codes "Window") ∷ actions.New 1 (codes "Window") ∷ actions.Get 1 (Reg 2) (Str (codes "f0")) ∷ []) ∷
            members.Method (Str (codes "m2")) (actions.SelfTo 2 ∷ actions.Load 3 1 ∷ actions.New 5 (codes "Window") ∷ actions.Slot 2 (Const values.Null) ∷ []) ∷
            members.Method (Str (codes "m3")) (actions.Load 1 2 ∷ actions.SelfTo 2 ∷ actions.New 1 (codes "A") ∷ actions.New 4 (codes "A") ∷ actions.Enumerate 2 (Reg 3) ∷ actions.New 2 (codes "B") ∷ actions.Invoke 1 (Reg 0) (Str (codes "take")) (Reg 1 ∷ Reg 1 ∷ []) ∷ []) ∷ []);
      }) ∷
      (record {
        name = codes "B";
        version = 3;
        stored = false;
        members = (
            members.Getter (Str (codes "7")) (actions.Load 0 2 ∷ actions.SelfTo 2 ∷ actions.Load 0 1 ∷ actions.Invoke 0 (Reg 2) (IntKey (pos 4)) (Reg 2 ∷ Reg 3 ∷ []) ∷ actions.Load 1 3 ∷ actions.Get 2 (Reg 1) (Str (codes "7")) ∷ actions.Put (Reg 1) (Str (codes "7")) (Reg 0) ∷ []) ∷
            members.Method (Str (codes "m1")) (actions.Invoke 3 (Reg 2) (IntKey (pos 4)) (Reg 3 ∷ Reg 2 ∷ []) ∷ actions.Set 3 (Const (values.Bool false)) ∷ actions.Load 0 0 ∷ actions.New 1 (codes "B") ∷ actions.Load 1 2 ∷ actions.Load 1 3 ∷ actions.Put (Reg 0) (Str (codes "f0")) (Reg 1) ∷ []) ∷
            members.Method (Str (codes "m2")) (actions.New 5 (codes "Window") ∷ actions.New 3 (codes "B") ∷ actions.SelfTo 2 ∷ actions.Invoke 2 (Reg 0) (Str (codes "take")) (Const (values.Text (codes "e")) ∷ Const (values.Int (pos 0)) ∷ Reg 2 ∷ []) ∷ []) ∷
            members.Method (IntKey (pos 4)) [] ∷
            members.Method (Str (codes "take")) (actions.Load 2 2 ∷ actions.SelfTo 2 ∷ actions.Get 2 (Reg 5) (Str (codes "f0")) ∷ actions.Load 1 0 ∷ actions.Slot 0 (Const (values.Bool false)) ∷ actions.Return (Reg 3) ∷ []) ∷
            members.Method (Str (codes "m3")) (actions.New 3 (codes "Window") ∷ actions.Put (Reg 3) (Str (codes "f0")) (Reg 2) ∷ actions.Get 2 (Reg 3) (Str (codes "f0")) ∷ actions.Remove (Reg 3) (Str (codes "f0")) ∷ actions.Slot 2 (Reg 3) ∷ []) ∷
            members.Method (Str (codes "m0")) (actions.Load 3 1 ∷ actions.New 3 (codes "A") ∷ actions.New 1 (codes "A") ∷ actions.Load 2 2 ∷ actions.Invoke 0 (Reg 2) (Str (codes "m3")) (Const (values.Bool false) ∷ Reg 2 ∷ Const (values.Text (codes "r")) ∷ []) ∷ []) ∷ []);
      }) ∷ []);
  resources = [];
  commands = (
      commands.Create (codes "t/x") 2 (codes "a" ∷ codes "1" ∷ []) ∷
      commands.Scriptable 0 1 ∷
      commands.Create (codes "t/x") 2 [] ∷
      commands.Scriptable 1 2 ∷
      commands.New 2 1 (codes "Window") ∷
      commands.New 3 2 (codes "B") ∷
      commands.Invoke 5 (Reg 3) (Str (codes "m1")) (Reg 0 ∷ Reg 2 ∷ Reg 3 ∷ []) ∷
      commands.Invoke 5 (Reg 3) (Str (codes "m0")) (Reg 1 ∷ Reg 3 ∷ Reg 0 ∷ []) ∷
      commands.New 5 2 (codes "A") ∷
      commands.Invoke 5 (Reg 0) (Str (codes "m2")) (Reg 5 ∷ []) ∷
      commands.Drop 5 ∷
      commands.Invoke 5 (Reg 0) (Str (codes "m1")) [] ∷
      commands.Enumerate 6 (Reg 1) ∷
      commands.Invoke 5 (Reg 3) (Str (codes "m2")) (Reg 2 ∷ []) ∷
      commands.Drop 2 ∷
      commands.Invoke 2 (Reg 0) (Str (codes "m1")) (Reg 5 ∷ Reg 3 ∷ []) ∷
      commands.Invoke 4 (Reg 3) (Str (codes "m3")) (Reg 2 ∷ Reg 3 ∷ []) ∷ []);
}

abbrev plugin : Plugin
plugin = record {
  major = 1;
  minor = 27;
  classes = (
      (record {
        name = codes "Main";
        version = 3;
        stored = true;
        members = (
            members.Method (Str (codes "m0")) (actions.SelfTo 2 ∷ actions.Put (Reg 2) (Str (codes "f1")) (Reg 2) ∷ actions.New 3 (codes "U") ∷ actions.Put (Reg 1) (Str (codes "f0")) (Reg 2) ∷ actions.Window 0 ∷ actions.Window 0 ∷ actions.OnEq (Reg 2) (Reg 12) 1 ∷ []) ∷
            members.Method (Str (codes "m2")) (actions.Load 2 0 ∷ actions.New 4 (codes "T") ∷ actions.New 4 (codes "T") ∷ actions.New 5 (codes "U") ∷ actions.New 2 (codes "Main") ∷ actions.Put (Reg 4) (Str (codes "f1")) (Reg 5) ∷ actions.New 5 (codes "U") ∷ actions.New 5 (codes "U") ∷ actions.Put (Reg 4) (Str (codes "f0")) (Reg 0) ∷ actions.New 5 (codes "T") ∷ actions.Put (Reg 4) (IntKey (pos 7)) (Reg 5) ∷ []) ∷
            members.Method (Str (codes "m3")) (actions.Load 0 2 ∷ actions.Load 3 1 ∷ actions.Invoke 3 (Reg 0) (IntKey (pos 4)) [] ∷ actions.Window 0 ∷ actions.Return (Reg 3) ∷ actions.Invoke 0 (Reg 3) (Str (codes "take")) (Reg 0 ∷ Const (values.Text (codes "s")) ∷ Reg 2 ∷ []) ∷ []) ∷
            members.Method (Str (codes "take")) (actions.Load 2 0 ∷ actions.Load 2 2 ∷ actions.Load 0 2 ∷ actions.Slot 1 (Reg 0) ∷ actions.Load 1 0 ∷ actions.Window 7 ∷ actions.Invoke 1 (Reg 0) (Str (codes "m3")) (Reg 0 ∷ Reg 0 ∷ []) ∷ []) ∷
            members.Default (actions.SelfTo 2 ∷ actions.Load 3 2 ∷ actions.Put (Reg 1) (IntKey (pos 7)) (Reg 3) ∷ actions.New 4 (codes "U") ∷ actions.Load 1 1 ∷ actions.Invoke 1 (Reg 0) (Str (codes "take")) [] ∷ actions.Get 1 (Reg 3) (Str (codes "f1")) ∷ actions.Load 1 2 ∷ []) ∷
            members.Method (Str (codes "m1")) (actions.Load 1 2 ∷ actions.SelfTo 2 ∷ actions.New 3 (codes "U") ∷ actions.New 5 (codes "U") ∷ actions.Window 0 ∷ actions.New 1 (codes "U") ∷ actions.Window 3 ∷ actions.Window 0 ∷ []) ∷ []);
      }) ∷
      (record {
        name = codes "T";
        version = 2;
        stored = false;
        members = (
            members.Method (Str (codes "m0")) (actions.SelfTo 2 ∷ actions.Slot 0 (Reg 2) ∷ actions.Load 3 2 ∷ actions.Slot 0 (Reg 2) ∷ actions.Window 3 ∷ actions.Window 2 ∷ actions.Invoke 3 (Reg 2) (IntKey (pos 4)) (Reg 1 ∷ Reg 3 ∷ Const values.Null ∷ []) ∷ []) ∷
            members.Method (Str (codes "m3")) (actions.Load 3 1 ∷ actions.New 3 (codes "T") ∷ actions.New 3 (codes "U") ∷ actions.New 1 (codes "Main") ∷ actions.Load 0 3 ∷ actions.Get 1 (Reg 0) (Str (codes "f1")) ∷ actions.Put (Reg 0) (Str (codes "f1")) (Reg 1) ∷ []) ∷
            members.Method (Str (codes "take")) (actions.Load 3 1 ∷ actions.Load 2 0 ∷ actions.New 1 (codes "T") ∷ actions.Invoke 3 (Reg 1) (Str (codes "none")) (Reg 3 ∷ Const (values.Text (codes "e")) ∷ Reg 2 ∷ []) ∷ actions.Slot 3 (Const (values.Int (pos 14))) ∷ []) ∷
            members.Method (Str (codes "m2")) (actions.SelfTo 2 ∷ actions.Load 3 1 ∷ actions.New 0 (codes "U") ∷ actions.Window 1 ∷ actions.Invoke 0 (Reg 2) (Str (codes "take")) (Reg 2 ∷ Reg 1 ∷ Const (values.Int (pos 100)) ∷ Reg 2 ∷ Reg 1 ∷ Reg 2 ∷ Const (values.Int (negsuc 0)) ∷ Reg 3 ∷ []) ∷ []) ∷
            members.Method (IntKey (pos 4)) [] ∷
            members.Method (Str (codes "m1")) (actions.SelfTo 2 ∷ actions.New 2 (codes "U") ∷ actions.New 1 (codes "T") ∷ actions.SelfTo 0 ∷ actions.Window 2 ∷ actions.Window 2 ∷ []) ∷ []);
      }) ∷
      (record {
        name = codes "U";
        version = 3;
        stored = false;
        members = (
            members.Construct (actions.Load 3 1 ∷ actions.New 3 (codes "T") ∷ actions.Drop 2 ∷ actions.New 2 (codes "U") ∷ actions.New 5 (codes "Main") ∷ actions.Load 3 3 ∷ actions.Invoke 2 (Reg 0) (IntKey (pos 4)) (Reg 2 ∷ Reg 3 ∷ []) ∷ []) ∷
            members.Getter (Str (codes "f0")) (actions.Load 14 0 ∷ actions.Load 1 0 ∷ actions.New 4 (codes "Main") ∷ actions.New 1 (codes "Main") ∷ actions.Slot 0 (Reg 3) ∷ actions.New 13 (codes "None") ∷ actions.Get 1 (Reg 0) (Str (codes "f0")) ∷ actions.Invoke 0 (Reg 2) (Str (codes "take")) (Reg 2 ∷ []) ∷ []) ∷
            members.Method (IntKey (pos 4)) [] ∷
            members.Method (Str (codes "m2")) (actions.SelfTo 2 ∷ actions.Load 1 2 ∷ actions.New 5 (codes "T") ∷ []) ∷
            members.Method (Str (codes "m3")) (actions.Load 2 0 ∷ actions.Return (Const (values.Int (pos 0))) ∷ actions.Load 2 0 ∷ actions.Invoke 1 (Reg 0) (IntKey (pos 4)) (Reg 0 ∷ []) ∷ actions.OnEq (Reg 13) (Reg 0) 3 ∷ []) ∷
            members.Method (Str (codes "m0")) (actions.Window 0 ∷ actions.Drop 0 ∷ actions.Window 0 ∷ actions.New 4 (codes "T") ∷ actions.New 5 (codes "T") ∷ actions.Put (Reg 4) (IntKey (pos 7)) (Reg 3) ∷ actions.New 5 (codes "Main") ∷ actions.Put (Reg 4) (Str (codes "f0")) (Reg 5) ∷ actions.New 5 (codes "U") ∷ actions.Put (Reg 4) (Str (codes "f1")) (Reg 5) ∷ actions.Drop 5 ∷ actions.Slot 0 (Reg 4) ∷ actions.Drop 4 ∷ []) ∷
            members.Default (actions.SelfTo 2 ∷ actions.Load 3 1 ∷ actions.Drop 0 ∷ actions.Invoke 2 (Reg 1) (Str (codes "take")) (Reg 3 ∷ []) ∷ actions.Put (Reg 1) (Str (codes "f0")) (Reg 1) ∷ actions.Note (Reg 0) ∷ actions.Load 2 0 ∷ actions.Enumerate 2 (Reg 0) ∷ []) ∷
            members.Method (Str (codes "m1")) (actions.Put (Reg 2) (Str (codes "f0")) (Reg 3) ∷ actions.Add 2 (Reg 0) (Reg 1) ∷ actions.Invoke 3 (Reg 1) (IntKey (pos 4)) (Reg 3 ∷ Reg 2 ∷ []) ∷ actions.SelfTo 0 ∷ actions.SelfTo 2 ∷ actions.Return (Reg 0) ∷ []) ∷ []);
      }) ∷ []);
  handlers = (
      (record { which = handlers.New; body = (actions.New 0 (codes "Main") ∷ actions.Slot 0 (Reg 0) ∷ actions.Window 1 ∷ actions.Slot 1 (Reg 1) ∷ []) }) ∷
      (record { which = handlers.Scriptable; body = (actions.Load 0 0 ∷ actions.Return (Reg 0) ∷ []) }) ∷ []);
  tasks = [];
}

-- the run of both
both-end : outcome 1500 page plugin ≡ record {
  page = (
      CommandResult 1 (results.Code NoError) ∷
      CommandResult 2 (results.Yes (values.Object (record { side = sides.Plug; instance = 1; serial = 1 })) false) ∷
      CommandResult 3 (results.Code NoError) ∷
      CommandResult 4 (results.Yes (values.Object (record { side = sides.Plug; instance = 2; serial = 1 })) false) ∷
      CommandResult 5 results.No ∷
      Created (record { side = sides.Page; instance = 2; serial = 1 }) ∷
      CommandResult 6 (results.Yes (values.Object (record { side = sides.Page; instance = 2; serial = 1 })) false) ∷
      Entered (record { side = sides.Page; instance = 2; serial = 1 }) (ops.Invoke (Str (codes "m1"))) ∷
      Entered (record { side = sides.Page; instance = 2; serial = 1 }) (ops.Invoke (IntKey (pos 4))) ∷
      Created (record { side = sides.Page; instance = 2; serial = 2 }) ∷
      Deallocated (record { side = sides.Page; instance = 2; serial = 2 }) ∷
      CommandResult 7 (results.Yes values.Void false) ∷
      Entered (record { side = sides.Page; instance = 2; serial = 1 }) (ops.Invoke (Str (codes "m0"))) ∷
      Created (record { side = sides.Page; instance = 2; serial = 3 }) ∷
      Created (record { side = sides.Page; instance = 2; serial = 4 }) ∷
      Deallocated (record { side = sides.Page; instance = 2; serial = 4 }) ∷
      Deallocated (record { side = sides.Page; instance = 2; serial = 3 }) ∷
      CommandResult 8 (results.Yes values.Void false) ∷
      Created (record { side = sides.Page; instance = 2; serial = 5 }) ∷
      CommandResult 9 (results.Yes (values.Object (record { side = sides.Page; instance = 2; serial = 5 })) false) ∷
      Deallocated (record { side = sides.Page; instance = 2; serial = 5 }) ∷
      CommandResult 10 (results.Yes values.Void false) ∷
      CommandResult 11 (results.Yes values.Void false) ∷
      CommandResult 12 (results.Yes values.Void false) ∷
      CommandResult 13 (results.Ids []) ∷
      Entered (record { side = sides.Page; instance = 2; serial = 1 }) (ops.Invoke (Str (codes "m2"))) ∷
      Created (record { side = sides.Page; instance = 2; serial = 6 }) ∷
      Deallocated (record { side = sides.Page; instance = 2; serial = 6 }) ∷
      CommandResult 14 (results.Yes values.Void false) ∷
      CommandResult 15 (results.Yes values.Void false) ∷
      CommandResult 16 (results.Yes values.Void false) ∷
      Entered (record { side = sides.Page; instance = 2; serial = 1 }) (ops.Invoke (Str (codes "m3"))) ∷
      CommandResult 17 (results.Yes values.Void false) ∷
      ProxyGone (record { side = sides.Plug; instance = 1; serial = 1 }) ∷
      ProxyGone (record { side = sides.Plug; instance = 2; serial = 1 }) ∷
      Invalidated (record { side = sides.Page; instance = 2; serial = 1 }) ∷
      Deallocated (record { side = sides.Page; instance = 2; serial = 1 }) ∷ []);
  plugin = (
      HandlerRun 1 handlers.New ∷
      Created (record { side = sides.Plug; instance = 1; serial = 1 }) ∷
      HandlerRun 1 handlers.Scriptable ∷
      HandlerRun 2 handlers.New ∷
      Created (record { side = sides.Plug; instance = 2; serial = 1 }) ∷
      HandlerRun 2 handlers.Scriptable ∷
      Entered (record { side = sides.Plug; instance = 1; serial = 1 }) (ops.Invoke (Str (codes "m2"))) ∷
      Created (record { side = sides.Plug; instance = 1; serial = 2 }) ∷
      Created (record { side = sides.Plug; instance = 1; serial = 3 }) ∷
      Deallocated (record { side = sides.Plug; instance = 1; serial = 2 }) ∷
      Created (record { side = sides.Plug; instance = 1; serial = 4 }) ∷
      Created (record { side = sides.Plug; instance = 1; serial = 5 }) ∷
      Created (record { side = sides.Plug; instance = 1; serial = 6 }) ∷
      Deallocated (record { side = sides.Plug; instance = 1; serial = 4 }) ∷
      Created (record { side = sides.Plug; instance = 1; serial = 7 }) ∷
      Deallocated (record { side = sides.Plug; instance = 1; serial = 6 }) ∷
      Created (record { side = sides.Plug; instance = 1; serial = 8 }) ∷
      Deallocated (record { side = sides.Plug; instance = 1; serial = 7 }) ∷
      Deallocated (record { side = sides.Plug; instance = 1; serial = 5 }) ∷
      Deallocated (record { side = sides.Plug; instance = 1; serial = 3 }) ∷
      Deallocated (record { side = sides.Plug; instance = 1; serial = 8 }) ∷
      Entered (record { side = sides.Plug; instance = 1; serial = 1 }) (ops.Invoke (Str (codes "m1"))) ∷
      Created (record { side = sides.Plug; instance = 1; serial = 9 }) ∷
      Created (record { side = sides.Plug; instance = 1; serial = 10 }) ∷
      Created (record { side = sides.Plug; instance = 1; serial = 11 }) ∷
      Deallocated (record { side = sides.Plug; instance = 1; serial = 9 }) ∷
      Deallocated (record { side = sides.Plug; instance = 1; serial = 11 }) ∷
      Deallocated (record { side = sides.Plug; instance = 1; serial = 10 }) ∷
      Entered (record { side = sides.Plug; instance = 2; serial = 1 }) ops.Enumerate ∷
      Entered (record { side = sides.Plug; instance = 1; serial = 1 }) (ops.Invoke (Str (codes "m1"))) ∷
      Created (record { side = sides.Plug; instance = 1; serial = 12 }) ∷
      Created (record { side = sides.Plug; instance = 1; serial = 13 }) ∷
      Created (record { side = sides.Plug; instance = 1; serial = 14 }) ∷
      Deallocated (record { side = sides.Plug; instance = 1; serial = 12 }) ∷
      Deallocated (record { side = sides.Plug; instance = 1; serial = 14 }) ∷
      Deallocated (record { side = sides.Plug; instance = 1; serial = 13 }) ∷
      Invalidated (record { side = sides.Plug; instance = 1; serial = 1 }) ∷
      Deallocated (record { side = sides.Plug; instance = 1; serial = 1 }) ∷
      Invalidated (record { side = sides.Plug; instance = 2; serial = 1 }) ∷
      Deallocated (record { side = sides.Plug; instance = 2; serial = 1 }) ∷ []);
  files = [];
  rests = true;
}
unfolding encoding digits is_text is_utf8 chars encode_utf8
both-end = refl

-- all bytes that the page sends
page-sends : page_bytes 1500 page plugin ≡ (0 ∷ 0 ∷ 0 ∷ 7 ∷ 1 ∷ 1 ∷ 0 ∷ 0 ∷ 1 ∷ 0 ∷ 27 ∷ 0 ∷ 0 ∷ 0 ∷ 18 ∷ 2 ∷ 1 ∷ 0 ∷ 0 ∷ 1 ∷ 2 ∷ 0 ∷ 3 ∷ 116 ∷ 47 ∷ 120 ∷ 1 ∷ 0 ∷ 1 ∷ 97 ∷ 0 ∷ 1 ∷ 49 ∷ 0 ∷ 0 ∷ 0 ∷ 4 ∷ 66 ∷ 2 ∷ 0 ∷ 0 ∷ 0 ∷ 0 ∷ 0 ∷ 5 ∷ 4 ∷ 1 ∷ 0 ∷ 0 ∷ 1 ∷ 0 ∷ 0 ∷ 0 ∷ 12 ∷ 2 ∷ 1 ∷ 0 ∷ 0 ∷ 2 ∷ 2 ∷ 0 ∷ 3 ∷ 116 ∷ 47 ∷ 120 ∷ 0 ∷ 0 ∷ 0 ∷ 0 ∷ 4 ∷ 66 ∷ 2 ∷ 0 ∷ 0 ∷ 0 ∷ 0 ∷ 0 ∷ 5 ∷ 4 ∷ 1 ∷ 0 ∷ 0 ∷ 2 ∷ 0 ∷ 0 ∷ 0 ∷ 23 ∷ 64 ∷ 1 ∷ 0 ∷ 0 ∷ 1 ∷ 0 ∷ 0 ∷ 0 ∷ 1 ∷ 1 ∷ 0 ∷ 0 ∷ 2 ∷ 109 ∷ 50 ∷ 1 ∷ 6 ∷ 0 ∷ 2 ∷ 0 ∷ 0 ∷ 0 ∷ 5 ∷ 0 ∷ 0 ∷ 0 ∷ 16 ∷ 64 ∷ 1 ∷ 0 ∷ 0 ∷ 1 ∷ 0 ∷ 0 ∷ 0 ∷ 1 ∷ 1 ∷ 0 ∷ 0 ∷ 2 ∷ 109 ∷ 49 ∷ 0 ∷ 0 ∷ 0 ∷ 0 ∷ 4 ∷ 66 ∷ 2 ∷ 0 ∷ 0 ∷ 0 ∷ 0 ∷ 0 ∷ 4 ∷ 66 ∷ 2 ∷ 0 ∷ 0 ∷ 0 ∷ 0 ∷ 0 ∷ 4 ∷ 66 ∷ 2 ∷ 0 ∷ 0 ∷ 0 ∷ 0 ∷ 0 ∷ 10 ∷ 64 ∷ 1 ∷ 0 ∷ 0 ∷ 2 ∷ 0 ∷ 0 ∷ 0 ∷ 1 ∷ 9 ∷ 0 ∷ 0 ∷ 0 ∷ 24 ∷ 64 ∷ 1 ∷ 0 ∷ 0 ∷ 1 ∷ 0 ∷ 0 ∷ 0 ∷ 1 ∷ 1 ∷ 0 ∷ 0 ∷ 2 ∷ 109 ∷ 49 ∷ 2 ∷ 0 ∷ 6 ∷ 0 ∷ 2 ∷ 0 ∷ 0 ∷ 0 ∷ 1 ∷ 0 ∷ 0 ∷ 0 ∷ 4 ∷ 66 ∷ 2 ∷ 0 ∷ 0 ∷ 0 ∷ 0 ∷ 0 ∷ 4 ∷ 66 ∷ 2 ∷ 0 ∷ 0 ∷ 0 ∷ 0 ∷ 0 ∷ 4 ∷ 66 ∷ 2 ∷ 0 ∷ 0 ∷ 0 ∷ 0 ∷ 0 ∷ 5 ∷ 3 ∷ 1 ∷ 0 ∷ 0 ∷ 1 ∷ 0 ∷ 0 ∷ 0 ∷ 5 ∷ 3 ∷ 1 ∷ 0 ∷ 0 ∷ 2 ∷ 0 ∷ 0 ∷ 0 ∷ 4 ∷ 12 ∷ 1 ∷ 0 ∷ 0 ∷ [])
unfolding encoding digits is_text is_utf8 chars encode_utf8
page-sends = refl

-- all bytes that the plugin sends
plugin-sends : plugin_bytes 1500 page plugin ≡ (0 ∷ 0 ∷ 0 ∷ 5 ∷ 69 ∷ 1 ∷ 0 ∷ 0 ∷ 0 ∷ 0 ∷ 0 ∷ 0 ∷ 5 ∷ 32 ∷ 2 ∷ 0 ∷ 0 ∷ 1 ∷ 0 ∷ 0 ∷ 0 ∷ 5 ∷ 69 ∷ 1 ∷ 0 ∷ 0 ∷ 0 ∷ 0 ∷ 0 ∷ 0 ∷ 11 ∷ 65 ∷ 1 ∷ 0 ∷ 0 ∷ 6 ∷ 1 ∷ 1 ∷ 0 ∷ 0 ∷ 0 ∷ 1 ∷ 0 ∷ 0 ∷ 0 ∷ 5 ∷ 32 ∷ 2 ∷ 0 ∷ 0 ∷ 2 ∷ 0 ∷ 0 ∷ 0 ∷ 5 ∷ 69 ∷ 1 ∷ 0 ∷ 0 ∷ 0 ∷ 0 ∷ 0 ∷ 0 ∷ 11 ∷ 65 ∷ 1 ∷ 0 ∷ 0 ∷ 6 ∷ 1 ∷ 2 ∷ 0 ∷ 0 ∷ 0 ∷ 1 ∷ 0 ∷ 0 ∷ 0 ∷ 14 ∷ 65 ∷ 1 ∷ 0 ∷ 1 ∷ 2 ∷ 0 ∷ 0 ∷ 0 ∷ 5 ∷ 0 ∷ 0 ∷ 0 ∷ 1 ∷ 0 ∷ 0 ∷ 0 ∷ 0 ∷ 5 ∷ 32 ∷ 2 ∷ 0 ∷ 0 ∷ 1 ∷ 0 ∷ 0 ∷ 0 ∷ 5 ∷ 32 ∷ 2 ∷ 0 ∷ 0 ∷ 1 ∷ 0 ∷ 0 ∷ 0 ∷ 5 ∷ 32 ∷ 2 ∷ 0 ∷ 0 ∷ 1 ∷ 0 ∷ 0 ∷ 0 ∷ 5 ∷ 65 ∷ 1 ∷ 0 ∷ 0 ∷ 0 ∷ 0 ∷ 0 ∷ 0 ∷ 5 ∷ 68 ∷ 1 ∷ 0 ∷ 0 ∷ 0 ∷ 0 ∷ 0 ∷ 0 ∷ 14 ∷ 32 ∷ 2 ∷ 0 ∷ 1 ∷ 2 ∷ 0 ∷ 0 ∷ 0 ∷ 1 ∷ 0 ∷ 0 ∷ 0 ∷ 1 ∷ 1 ∷ 0 ∷ 0 ∷ 0 ∷ 5 ∷ 32 ∷ 2 ∷ 0 ∷ 0 ∷ 1 ∷ 0 ∷ 0 ∷ 0 ∷ 5 ∷ 32 ∷ 2 ∷ 0 ∷ 0 ∷ 1 ∷ 0 ∷ 0 ∷ 0 ∷ 5 ∷ 65 ∷ 1 ∷ 0 ∷ 0 ∷ 0 ∷ 0 ∷ 0 ∷ 0 ∷ 5 ∷ 69 ∷ 1 ∷ 0 ∷ 0 ∷ 0 ∷ 0 ∷ 0 ∷ 0 ∷ 5 ∷ 69 ∷ 1 ∷ 0 ∷ 0 ∷ 0 ∷ 0 ∷ 0 ∷ 0 ∷ 4 ∷ 71 ∷ 1 ∷ 0 ∷ 0 ∷ [])
unfolding encoding digits is_text is_utf8 chars encode_utf8
plugin-sends = refl

-- the plug-in's first 108 bytes hold 9 whole messages
cut-108 : lost_outcome 1500 (Some 9) page plugin ≡ record {
  page = (
      CommandResult 1 (results.Code NoError) ∷
      CommandResult 2 (results.Yes (values.Object (record { side = sides.Plug; instance = 1; serial = 1 })) false) ∷
      CommandResult 3 (results.Code NoError) ∷
      CommandResult 4 (results.Yes (values.Object (record { side = sides.Plug; instance = 2; serial = 1 })) false) ∷
      CommandResult 5 results.No ∷
      Created (record { side = sides.Page; instance = 2; serial = 1 }) ∷
      CommandResult 6 (results.Yes (values.Object (record { side = sides.Page; instance = 2; serial = 1 })) false) ∷
      Entered (record { side = sides.Page; instance = 2; serial = 1 }) (ops.Invoke (Str (codes "m1"))) ∷
      Entered (record { side = sides.Page; instance = 2; serial = 1 }) (ops.Invoke (IntKey (pos 4))) ∷
      Created (record { side = sides.Page; instance = 2; serial = 2 }) ∷
      Deallocated (record { side = sides.Page; instance = 2; serial = 2 }) ∷
      CommandResult 7 (results.Yes values.Void false) ∷
      Entered (record { side = sides.Page; instance = 2; serial = 1 }) (ops.Invoke (Str (codes "m0"))) ∷
      Created (record { side = sides.Page; instance = 2; serial = 3 }) ∷
      Created (record { side = sides.Page; instance = 2; serial = 4 }) ∷
      Deallocated (record { side = sides.Page; instance = 2; serial = 4 }) ∷
      Deallocated (record { side = sides.Page; instance = 2; serial = 3 }) ∷
      CommandResult 8 (results.Yes values.Void false) ∷
      Created (record { side = sides.Page; instance = 2; serial = 5 }) ∷
      CommandResult 9 (results.Yes (values.Object (record { side = sides.Page; instance = 2; serial = 5 })) false) ∷
      Deallocated (record { side = sides.Page; instance = 2; serial = 5 }) ∷
      CommandResult 10 (results.Yes values.Void false) ∷
      CommandResult 11 (results.Yes values.Void false) ∷
      ProxyGone (record { side = sides.Plug; instance = 1; serial = 1 }) ∷
      ProxyGone (record { side = sides.Plug; instance = 2; serial = 1 }) ∷
      Invalidated (record { side = sides.Page; instance = 2; serial = 1 }) ∷
      Deallocated (record { side = sides.Page; instance = 2; serial = 1 }) ∷
      CommandResult 12 results.No ∷
      CommandResult 13 results.No ∷
      CommandResult 14 results.No ∷
      CommandResult 15 (results.Yes values.Void false) ∷
      CommandResult 16 results.No ∷
      CommandResult 17 results.No ∷ []);
  rests = true;
}
unfolding encoding digits is_text is_utf8 chars encode_utf8
cut-108 = refl

-- the plug-in's first 196 bytes hold 18 whole messages
cut-196 : lost_outcome 1500 (Some 18) page plugin ≡ record {
  page = (
      CommandResult 1 (results.Code NoError) ∷
      CommandResult 2 (results.Yes (values.Object (record { side = sides.Plug; instance = 1; serial = 1 })) false) ∷
      CommandResult 3 (results.Code NoError) ∷
      CommandResult 4 (results.Yes (values.Object (record { side = sides.Plug; instance = 2; serial = 1 })) false) ∷
      CommandResult 5 results.No ∷
      Created (record { side = sides.Page; instance = 2; serial = 1 }) ∷
      CommandResult 6 (results.Yes (values.Object (record { side = sides.Page; instance = 2; serial = 1 })) false) ∷
      Entered (record { side = sides.Page; instance = 2; serial = 1 }) (ops.Invoke (Str (codes "m1"))) ∷
      Entered (record { side = sides.Page; instance = 2; serial = 1 }) (ops.Invoke (IntKey (pos 4))) ∷
      Created (record { side = sides.Page; instance = 2; serial = 2 }) ∷
      Deallocated (record { side = sides.Page; instance = 2; serial = 2 }) ∷
      CommandResult 7 (results.Yes values.Void false) ∷
      Entered (record { side = sides.Page; instance = 2; serial = 1 }) (ops.Invoke (Str (codes "m0"))) ∷
      Created (record { side = sides.Page; instance = 2; serial = 3 }) ∷
      Created (record { side = sides.Page; instance = 2; serial = 4 }) ∷
      Deallocated (record { side = sides.Page; instance = 2; serial = 4 }) ∷
      Deallocated (record { side = sides.Page; instance = 2; serial = 3 }) ∷
      CommandResult 8 (results.Yes values.Void false) ∷
      Created (record { side = sides.Page; instance = 2; serial = 5 }) ∷
      CommandResult 9 (results.Yes (values.Object (record { side = sides.Page; instance = 2; serial = 5 })) false) ∷
      Deallocated (record { side = sides.Page; instance = 2; serial = 5 }) ∷
      CommandResult 10 (results.Yes values.Void false) ∷
      CommandResult 11 (results.Yes values.Void false) ∷
      CommandResult 12 (results.Yes values.Void false) ∷
      CommandResult 13 (results.Ids []) ∷
      Entered (record { side = sides.Page; instance = 2; serial = 1 }) (ops.Invoke (Str (codes "m2"))) ∷
      Created (record { side = sides.Page; instance = 2; serial = 6 }) ∷
      Deallocated (record { side = sides.Page; instance = 2; serial = 6 }) ∷
      CommandResult 14 (results.Yes values.Void false) ∷
      CommandResult 15 (results.Yes values.Void false) ∷
      CommandResult 16 (results.Yes values.Void false) ∷
      Entered (record { side = sides.Page; instance = 2; serial = 1 }) (ops.Invoke (Str (codes "m3"))) ∷
      CommandResult 17 (results.Yes values.Void false) ∷
      ProxyGone (record { side = sides.Plug; instance = 1; serial = 1 }) ∷
      ProxyGone (record { side = sides.Plug; instance = 2; serial = 1 }) ∷
      Invalidated (record { side = sides.Page; instance = 2; serial = 1 }) ∷
      Deallocated (record { side = sides.Page; instance = 2; serial = 1 }) ∷ []);
  rests = true;
}
unfolding encoding digits is_text is_utf8 chars encode_utf8
cut-196 = refl
