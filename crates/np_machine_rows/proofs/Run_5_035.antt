-- Made by tools/vector-theorems of tests/vectors/5-035.
use Rattle.std.proofs.Common.{◌≡◌, pos, negsuc, [], ◌∷◌, refl, true, false}
use Rattle.std.specs.Prelude.{codes}
use Rattle.std.specs.Char.{encode_utf8}
use Rattle.std.specs.Fmt.{digits}
use Rattle.std.specs.Str.{is_utf8, chars}
use Rattle.np_values.specs.declared.error.NpError.TheVariants.{NoError}
use Rattle.np_values.specs.declared.handler.Handler.TheVariants as handlers
use Rattle.np_values.specs.declared.name.Side.TheVariants as sides
use Rattle.np_values.specs.declared.value.Value.TheVariants as values
use Rattle.np_values.specs.Text.{is_text}
use Rattle.np_idents.specs.declared.key.IdKey.TheVariants.{Str, Int as IntKey}
use Rattle.np_idents.specs.declared.op.Op.TheVariants as ops
use Rattle.np_script_grammar.specs.declared.action.Action.TheVariants as actions
use Rattle.np_script_grammar.specs.declared.action.Operand.TheVariants.{Reg, Const}
use Rattle.np_script_grammar.specs.declared.class.Member.TheVariants as members
use Rattle.np_script_grammar.specs.declared.command.Command.TheVariants as commands
use Rattle.np_script_grammar.specs.declared.page.Page.{Page}
use Rattle.np_script_grammar.specs.declared.plugin.Plugin.{Plugin}
use Rattle.np_message.specs.Encoding.{encoding}
use Rattle.np_journal.specs.declared.line.Line.TheVariants.{Created, Entered, HandlerRun, ProxyGone, Invalidated, Deallocated, Noted, CommandResult}
use Rattle.np_journal.specs.declared.printed.Printed.TheVariants as results
use Rattle.np_machine_plans.specs.Outcomes.{outcome, page_bytes, plugin_bytes}

abbrev page : Page
page = record {
  major = 0;
  minor = 27;
  classes = (
      (record {
        name = codes "Window";
        version = 3;
        stored = true;
        members = (
            members.Method (Str (codes "m0")) (actions.Load 3 1 ∷ actions.Slot 1 (Reg 1) ∷ actions.Load 2 2 ∷ actions.Load 2 1 ∷ actions.Invoke 3 (Reg 2) (Str (codes "m3")) (Const (values.Text []) ∷ Const (values.Int (pos 100)) ∷ Reg 3 ∷ []) ∷ actions.Invoke 1 (Reg 2) (IntKey (pos 4)) (Const (values.Int (pos 0)) ∷ Reg 3 ∷ Const (values.Text (codes "e")) ∷ []) ∷ []) ∷
            members.Method (Str (codes "take")) (actions.Load 2 0 ∷ actions.New 1 (codes "A") ∷ actions.Invoke 0 (Reg 2) (Str (codes "none")) (Reg 0 ∷ []) ∷ actions.Load 3 1 ∷ actions.Return (Reg 2) ∷ []) ∷
            members.Default (actions.SelfTo 2 ∷ actions.Add 2 (Reg 0) (Reg 4) ∷ actions.Return (Reg 5) ∷ actions.Fail ∷ actions.HasProperty (Reg 3) (Str (codes "f1")) ∷ actions.OnEq (Reg 0) (Reg 0) 1 ∷ []) ∷
            members.Method (Str (codes "m3")) (actions.SelfTo 2 ∷ actions.Load 3 2 ∷ actions.New 0 (codes "Window") ∷ actions.Put (Reg 0) (Str (codes "f1")) (Reg 4) ∷ actions.Return (Reg 0) ∷ actions.Slot 0 (Const (values.Bool false)) ∷ []) ∷
            members.Method (Str (codes "m2")) (actions.Load 2 0 ∷ actions.New 1 (codes "B") ∷ actions.Slot 0 (Reg 3) ∷ []) ∷
            members.Method (IntKey (pos 4)) (actions.Load 2 2 ∷ actions.Load 2 0 ∷ actions.Load 0 1 ∷ actions.Load 1 0 ∷ actions.Put (Reg 0) (IntKey (pos 7)) (Reg 3) ∷ []) ∷ []);
      }) ∷
      (record {
        name = codes "A";
        version = 2;
        stored = false;
        members = (
            members.Default (actions.Load 2 2 ∷ actions.New 0 (codes "B") ∷ []) ∷
            members.Method (Str (codes "m2")) (actions.Load 3 1 ∷ actions.Load 1 1 ∷ actions.New 1 (codes "A") ∷ actions.New 5 (codes "A") ∷ actions.Load 2 0 ∷ actions.Note (Reg 1) ∷ actions.Remove (Reg 0) (Str (codes "f0")) ∷ actions.Invoke 1 (Reg 2) (Str (codes "m1")) (Reg 3 ∷ Reg 2 ∷ Const (values.Int (pos 14)) ∷ []) ∷ actions.Set 3 (Reg 0) ∷ []) ∷
            members.Method (Str (codes "m0")) (actions.Load 2 0 ∷ actions.Load 2 3 ∷ actions.New 1 (codes "A") ∷ actions.Load 2 1 ∷ actions.Load 2 0 ∷ actions.Remove (Reg 1) (Str (codes "f0")) ∷ actions.New 3 (codes "B") ∷ actions.Invoke 0 (Reg 0) (Str (codes "m3")) (Reg 2 ∷ Const (values.Int (negsuc 0)) ∷ Const (values.Int (negsuc 2147483647)) ∷ []) ∷ []) ∷
            members.Construct (actions.Load 2 0 ∷ actions.SelfTo 2 ∷ actions.HasMethod (Reg 2) (Str (codes "m2")) ∷ actions.New 3 (codes "A") ∷ actions.New 3 (codes "Window") ∷ []) ∷
            members.Method (Str (codes "m3")) (actions.New 1 (codes "Window") ∷ actions.Invoke 0 (Reg 0) (IntKey (pos 4)) (Reg 3 ∷ []) ∷ actions.Invoke 3 (Reg 3) (Str (codes "take")) (Reg 2 ∷ Reg 2 ∷ []) ∷ actions.New 4 (codes "B") ∷ actions.New 5 (codes "Window") ∷ actions.Return (Reg 0) ∷ actions.Slot 2 (Reg 3) ∷ actions.Slot 3 (Reg 1) ∷ actions.New 3 (codes "B") ∷ []) ∷
            members.Method (Str (codes "take")) (actions.SelfTo 2 ∷ actions.Load 0 2 ∷ actions.Slot 2 (Reg 2) ∷ actions.New 1 (codes "A") ∷ actions.Put (Reg 1) (Str (codes "f0")) (Reg 4) ∷ actions.New 2 (codes "A") ∷ actions.New 3 (codes "B") ∷ actions.Put (Reg 1) (Str (codes "f1")) (Reg 1) ∷ actions.Slot 0 (Reg 1) ∷ actions.Enumerate 4 (Reg 1) ∷ []) ∷
            members.Method (IntKey (pos 4)) (actions.Load 2 0 ∷ actions.New 4 (codes "Window") ∷ actions.New 5 (codes "A") ∷ actions.Invoke 5 (Reg 0) (Str (codes "take")) (Reg 1 ∷ Reg 3 ∷ []) ∷ actions.Put (Reg 3) (Str (codes "f0")) (Const (values.Int (pos 14))) ∷ []) ∷ []);
      }) ∷
      (record {
        name = codes "B";
        version = 3;
        stored = false;
        members = (
            members.Method (Str (codes "m1")) (actions.New 1 (codes "Window") ∷ actions.Put (Reg 2) (Str (codes "f0")) (Reg 13) ∷ actions.New 5 (codes "Window") ∷ actions.New 0 (codes "A") ∷ actions.Put (Reg 0) (Str (codes "f0")) (Reg 3) ∷ actions.Put (Reg 0) (Str (codes "f1")) (Reg 0) ∷ actions.Slot 0 (Reg 0) ∷ actions.Enumerate 3 (Reg 0) ∷ []) ∷
            members.Method (Str (codes "m2")) (actions.Load 2 0 ∷ actions.Load 0 2 ∷ actions.New 3 (codes "A") ∷ actions.Put (Reg 3) (Str (codes "f0")) (Const (values.Bool false)) ∷ actions.Invoke 3 (Reg 2) (Str (codes "take")) (Const (values.Int (pos 0)) ∷ Reg 1 ∷ Reg 3 ∷ []) ∷ actions.Enumerate 3 (Reg 1) ∷ actions.New 1 (codes "A") ∷ actions.Load 3 0 ∷ actions.Invoke 6 (Reg 1) (Str (codes "m3")) (Reg 1 ∷ []) ∷ []) ∷
            members.Method (Str (codes "m3")) (actions.OnEq (Const values.Null) (Const (values.Int (pos 13))) 2 ∷ actions.Invoke 3 (Reg 0) (Str (codes "take")) (Reg 1 ∷ Reg 3 ∷ []) ∷ actions.Invoke 2 (Reg 2) (IntKey (pos 4)) (Const values.Null ∷ Reg 2 ∷ []) ∷ actions.New 1 (codes "B") ∷ actions.Set 5 (Reg 1) ∷ actions.Get 2 (Reg 1) (Str (codes "7")) ∷ []) ∷
            members.Method (IntKey (pos 4)) (actions.Slot 3 (Reg 2) ∷ actions.New 3 (codes "Window") ∷ actions.New 3 (codes "Window") ∷ actions.Slot 1 (Reg 3) ∷ []) ∷
            members.Method (Str (codes "take")) (actions.SelfTo 2 ∷ actions.Load 0 2 ∷ actions.Throw (codes "no") ∷ actions.Load 0 0 ∷ []) ∷ []);
      }) ∷ []);
  resources = [];
  commands = (
      commands.Create (codes "t/x") 1 (codes "a" ∷ codes "1" ∷ codes "a" ∷ codes "1" ∷ []) ∷
      commands.Scriptable 0 1 ∷
      commands.New 2 1 (codes "A") ∷
      commands.New 3 1 (codes "Window") ∷
      commands.Invoke 5 (Reg 3) (Str (codes "m1")) (Reg 0 ∷ Reg 3 ∷ Reg 2 ∷ []) ∷
      commands.Invoke 5 (Reg 3) (Str (codes "m2")) (Reg 4 ∷ Reg 5 ∷ Reg 2 ∷ []) ∷
      commands.Invoke 0 (Reg 0) (Str (codes "take")) (Reg 0 ∷ Reg 1 ∷ Reg 2 ∷ []) ∷
      commands.Invoke 4 (Reg 3) (IntKey (pos 4)) (Reg 0 ∷ Reg 5 ∷ Reg 1 ∷ []) ∷
      commands.Turn ∷
      commands.Invoke 5 (Reg 1) (IntKey (pos 4)) (Reg 4 ∷ Reg 0 ∷ Reg 1 ∷ []) ∷
      commands.Note (Reg 0) ∷
      commands.Invoke 4 (Reg 0) (Str (codes "m3")) (Reg 3 ∷ Reg 0 ∷ []) ∷
      commands.New 4 1 (codes "A") ∷
      commands.Invoke 5 (Reg 0) (Str (codes "m2")) (Reg 1 ∷ []) ∷
      commands.Drop 1 ∷
      commands.Invoke 1 (Reg 0) (Str (codes "m1")) [] ∷
      commands.Invoke 4 (Reg 0) (Str (codes "m2")) (Reg 1 ∷ Reg 0 ∷ Reg 2 ∷ []) ∷
      commands.Note (Reg 3) ∷
      commands.Invoke 5 (Reg 4) (Str (codes "m3")) [] ∷
      commands.Invoke 4 (Reg 0) (Str (codes "m1")) (Reg 0 ∷ Reg 1 ∷ Reg 5 ∷ []) ∷
      commands.New 0 1 (codes "Window") ∷
      commands.New 3 1 (codes "B") ∷ []);
}

abbrev plugin : Plugin
plugin = record {
  major = 1;
  minor = 27;
  classes = (
      (record {
        name = codes "Main";
        version = 1;
        stored = false;
        members = (
            members.Default (actions.Load 2 0 ∷ actions.Put (Reg 1) (Str (codes "f0")) (Reg 2) ∷ actions.Invoke 3 (Reg 3) (Str (codes "m1")) (Reg 3 ∷ Reg 1 ∷ Const (values.Int (pos 1)) ∷ []) ∷ []) ∷
            members.Construct (actions.SelfTo 2 ∷ actions.Window 1 ∷ actions.OnEq (Reg 2) (Reg 1) 2 ∷ actions.Invoke 0 (Reg 2) (IntKey (pos 4)) (Reg 0 ∷ Reg 3 ∷ Const (values.Text (codes "s")) ∷ []) ∷ actions.Drop 2 ∷ []) ∷
            members.Method (Str (codes "take")) (actions.SelfTo 2 ∷ actions.Load 3 1 ∷ actions.New 5 (codes "U") ∷ actions.New 9 (codes "T") ∷ []) ∷
            members.Method (IntKey (pos 4)) (actions.Load 3 1 ∷ actions.Load 2 0 ∷ actions.New 0 (codes "T") ∷ actions.New 3 (codes "U") ∷ actions.New 4 (codes "T") ∷ actions.Put (Reg 0) (Str (codes "f0")) (Reg 3) ∷ actions.New 1 (codes "U") ∷ actions.Slot 0 (Reg 0) ∷ actions.Drop 0 ∷ []) ∷
            members.Method (Str (codes "m2")) (actions.Load 2 0 ∷ actions.SelfTo 2 ∷ actions.New 2 (codes "U") ∷ []) ∷
            members.Setter (Str (codes "f0")) (actions.Load 1 2 ∷ actions.SelfTo 2 ∷ actions.New 1 (codes "Main") ∷ actions.New 3 (codes "Main") ∷ actions.New 4 (codes "T") ∷ actions.New 0 (codes "Main") ∷ []) ∷ []);
      }) ∷
      (record {
        name = codes "T";
        version = 3;
        stored = false;
        members = (
            members.Method (IntKey (pos 4)) (actions.SelfTo 2 ∷ actions.New 3 (codes "Main") ∷ actions.New 2 (codes "U") ∷ actions.Slot 3 (Reg 3) ∷ []) ∷
            members.Method (Str (codes "m2")) (actions.Load 3 1 ∷ actions.Window 3 ∷ actions.Load 3 2 ∷ []) ∷
            members.Method (Str (codes "m3")) (actions.SelfTo 2 ∷ actions.Add 1 (Reg 2) (Reg 3) ∷ []) ∷
            members.Construct (actions.New 4 (codes "Main") ∷ actions.Drop 1 ∷ actions.New 5 (codes "U") ∷ actions.New 1 (codes "Main") ∷ actions.Slot 0 (Reg 0) ∷ actions.Invoke 2 (Reg 0) (IntKey (pos 4)) (Const values.Void ∷ Reg 0 ∷ []) ∷ []) ∷
            members.Method (Str (codes "take")) [] ∷
            members.Method (Str (codes "m0")) (actions.Load 3 1 ∷ actions.Load 2 0 ∷ actions.Window 2 ∷ actions.New 5 (codes "T") ∷ actions.Invoke 2 (Reg 3) (Str (codes "m3")) (Reg 0 ∷ Reg 1 ∷ []) ∷ actions.Load 0 0 ∷ []) ∷ []);
      }) ∷
      (record {
        name = codes "U";
        version = 2;
        stored = false;
        members = (
            members.Default (actions.Load 2 0 ∷ actions.New 1 (codes "Main") ∷ actions.New 5 (codes "U") ∷ actions.New 3 (codes "Main") ∷ []) ∷
            members.Method (Str (codes "m1")) (actions.Window 1 ∷ actions.Window 1 ∷ actions.Put (Reg 2) (Str (codes "7")) (Reg 3) ∷ actions.Load 1 2 ∷ actions.Invoke 1 (Reg 1) (IntKey (pos 4)) (Reg 2 ∷ Reg 3 ∷ Reg 1 ∷ []) ∷ []) ∷
            members.Method (Str (codes "m2")) (actions.Load 1 2 ∷ actions.SelfTo 2 ∷ actions.OnEq (Reg 2) (Const (values.Text (195 ∷ 164 ∷ 34 ∷ 92 ∷ 1 ∷ 127 ∷ []))) 2 ∷ actions.Invoke 1 (Reg 3) (Str (codes "m3")) (Const (values.Bool false) ∷ Reg 1 ∷ Reg 2 ∷ []) ∷ []) ∷
            members.Method (Str (codes "take")) (actions.Load 2 2 ∷ actions.SelfTo 1 ∷ []) ∷
            members.Method (Str (codes "m3")) (actions.Load 3 2 ∷ actions.New 2 (codes "U") ∷ actions.New 5 (codes "Main") ∷ actions.New 4 (codes "T") ∷ []) ∷
            members.Construct [] ∷
            members.Method (IntKey (pos 4)) (actions.Load 1 2 ∷ actions.New 3 (codes "U") ∷ []) ∷ []);
      }) ∷ []);
  handlers = (
      (record { which = handlers.New; body = (actions.New 0 (codes "Main") ∷ actions.Slot 0 (Reg 0) ∷ actions.Window 1 ∷ actions.Slot 1 (Reg 1) ∷ []) }) ∷
      (record { which = handlers.Scriptable; body = (actions.Load 0 0 ∷ actions.Return (Reg 0) ∷ []) }) ∷ []);
  tasks = [];
}

-- the run of both
both-end : outcome 1500 page plugin ≡ record {
  page = (
      Created (record { side = sides.Page; instance = 1; serial = 1 }) ∷
      CommandResult 1 (results.Code NoError) ∷
      CommandResult 2 (results.Yes (values.Object (record { side = sides.Plug; instance = 1; serial = 1 })) false) ∷
      Created (record { side = sides.Page; instance = 1; serial = 2 }) ∷
      CommandResult 3 (results.Yes (values.Object (record { side = sides.Page; instance = 1; serial = 2 })) false) ∷
      Created (record { side = sides.Page; instance = 1; serial = 3 }) ∷
      CommandResult 4 (results.Yes (values.Object (record { side = sides.Page; instance = 1; serial = 3 })) false) ∷
      CommandResult 5 results.No ∷
      Entered (record { side = sides.Page; instance = 1; serial = 3 }) (ops.Invoke (Str (codes "m2"))) ∷
      Created (record { side = sides.Page; instance = 1; serial = 4 }) ∷
      Deallocated (record { side = sides.Page; instance = 1; serial = 4 }) ∷
      CommandResult 6 (results.Yes values.Void false) ∷
      CommandResult 7 (results.Yes values.Void false) ∷
      Entered (record { side = sides.Page; instance = 1; serial = 3 }) (ops.Invoke (IntKey (pos 4))) ∷
      CommandResult 8 (results.Yes values.Void false) ∷
      CommandResult 9 (results.Yes values.Void false) ∷
      CommandResult 10 results.No ∷
      Noted values.Void false ∷
      CommandResult 11 (results.Yes values.Void false) ∷
      CommandResult 12 results.No ∷
      Created (record { side = sides.Page; instance = 1; serial = 5 }) ∷
      CommandResult 13 (results.Yes (values.Object (record { side = sides.Page; instance = 1; serial = 5 })) false) ∷
      CommandResult 14 results.No ∷
      CommandResult 15 (results.Yes values.Void false) ∷
      CommandResult 16 results.No ∷
      Deallocated (record { side = sides.Page; instance = 1; serial = 5 }) ∷
      CommandResult 17 results.No ∷
      Noted (values.Object (record { side = sides.Page; instance = 1; serial = 3 })) false ∷
      CommandResult 18 (results.Yes values.Void false) ∷
      CommandResult 19 results.No ∷
      CommandResult 20 results.No ∷
      Created (record { side = sides.Page; instance = 1; serial = 6 }) ∷
      CommandResult 21 (results.Yes (values.Object (record { side = sides.Page; instance = 1; serial = 6 })) false) ∷
      Created (record { side = sides.Page; instance = 1; serial = 7 }) ∷
      Deallocated (record { side = sides.Page; instance = 1; serial = 3 }) ∷
      CommandResult 22 (results.Yes (values.Object (record { side = sides.Page; instance = 1; serial = 7 })) false) ∷
      Invalidated (record { side = sides.Page; instance = 1; serial = 1 }) ∷
      Invalidated (record { side = sides.Page; instance = 1; serial = 2 }) ∷
      Invalidated (record { side = sides.Page; instance = 1; serial = 6 }) ∷
      Invalidated (record { side = sides.Page; instance = 1; serial = 7 }) ∷
      Deallocated (record { side = sides.Page; instance = 1; serial = 1 }) ∷
      Deallocated (record { side = sides.Page; instance = 1; serial = 2 }) ∷
      Deallocated (record { side = sides.Page; instance = 1; serial = 6 }) ∷
      Deallocated (record { side = sides.Page; instance = 1; serial = 7 }) ∷ []);
  plugin = (
      HandlerRun 1 handlers.New ∷
      Created (record { side = sides.Plug; instance = 1; serial = 1 }) ∷
      HandlerRun 1 handlers.Scriptable ∷
      Entered (record { side = sides.Plug; instance = 1; serial = 1 }) (ops.Invoke (Str (codes "take"))) ∷
      Created (record { side = sides.Plug; instance = 1; serial = 2 }) ∷
      Created (record { side = sides.Plug; instance = 1; serial = 3 }) ∷
      Deallocated (record { side = sides.Plug; instance = 1; serial = 2 }) ∷
      Deallocated (record { side = sides.Plug; instance = 1; serial = 3 }) ∷
      ProxyGone (record { side = sides.Page; instance = 1; serial = 1 }) ∷
      Invalidated (record { side = sides.Plug; instance = 1; serial = 1 }) ∷
      Deallocated (record { side = sides.Plug; instance = 1; serial = 1 }) ∷ []);
  files = [];
  rests = true;
}
unfolding encoding digits is_text is_utf8 chars encode_utf8
both-end = refl

-- all bytes that the page sends
page-sends : page_bytes 1500 page plugin ≡ (0 ∷ 0 ∷ 0 ∷ 7 ∷ 1 ∷ 1 ∷ 0 ∷ 0 ∷ 1 ∷ 0 ∷ 27 ∷ 0 ∷ 0 ∷ 0 ∷ 24 ∷ 2 ∷ 1 ∷ 0 ∷ 0 ∷ 1 ∷ 1 ∷ 0 ∷ 3 ∷ 116 ∷ 47 ∷ 120 ∷ 2 ∷ 0 ∷ 1 ∷ 97 ∷ 0 ∷ 1 ∷ 49 ∷ 0 ∷ 1 ∷ 97 ∷ 0 ∷ 1 ∷ 49 ∷ 0 ∷ 0 ∷ 0 ∷ 11 ∷ 65 ∷ 2 ∷ 0 ∷ 0 ∷ 6 ∷ 0 ∷ 1 ∷ 0 ∷ 0 ∷ 0 ∷ 1 ∷ 0 ∷ 0 ∷ 0 ∷ 5 ∷ 4 ∷ 1 ∷ 0 ∷ 0 ∷ 1 ∷ 0 ∷ 0 ∷ 0 ∷ 33 ∷ 64 ∷ 1 ∷ 0 ∷ 0 ∷ 1 ∷ 0 ∷ 0 ∷ 0 ∷ 1 ∷ 1 ∷ 0 ∷ 0 ∷ 4 ∷ 116 ∷ 97 ∷ 107 ∷ 101 ∷ 3 ∷ 6 ∷ 1 ∷ 1 ∷ 0 ∷ 0 ∷ 0 ∷ 1 ∷ 0 ∷ 6 ∷ 0 ∷ 1 ∷ 0 ∷ 0 ∷ 0 ∷ 2 ∷ 0 ∷ 0 ∷ 0 ∷ 13 ∷ 5 ∷ 1 ∷ 0 ∷ 1 ∷ 1 ∷ 0 ∷ 0 ∷ 0 ∷ 1 ∷ 0 ∷ 0 ∷ 0 ∷ 1 ∷ 0 ∷ 0 ∷ 0 ∷ 5 ∷ 3 ∷ 1 ∷ 0 ∷ 0 ∷ 1 ∷ 0 ∷ 0 ∷ 0 ∷ 4 ∷ 12 ∷ 1 ∷ 0 ∷ 0 ∷ [])
unfolding encoding digits is_text is_utf8 chars encode_utf8
page-sends = refl

-- all bytes that the plugin sends
plugin-sends : plugin_bytes 1500 page plugin ≡ (0 ∷ 0 ∷ 0 ∷ 5 ∷ 69 ∷ 1 ∷ 0 ∷ 0 ∷ 0 ∷ 0 ∷ 0 ∷ 0 ∷ 5 ∷ 32 ∷ 2 ∷ 0 ∷ 0 ∷ 1 ∷ 0 ∷ 0 ∷ 0 ∷ 5 ∷ 69 ∷ 1 ∷ 0 ∷ 0 ∷ 0 ∷ 0 ∷ 0 ∷ 0 ∷ 11 ∷ 65 ∷ 1 ∷ 0 ∷ 0 ∷ 6 ∷ 1 ∷ 1 ∷ 0 ∷ 0 ∷ 0 ∷ 1 ∷ 0 ∷ 0 ∷ 0 ∷ 14 ∷ 65 ∷ 1 ∷ 0 ∷ 1 ∷ 1 ∷ 0 ∷ 0 ∷ 0 ∷ 2 ∷ 0 ∷ 0 ∷ 0 ∷ 1 ∷ 0 ∷ 0 ∷ 0 ∷ 0 ∷ 4 ∷ 71 ∷ 1 ∷ 0 ∷ 0 ∷ 0 ∷ 0 ∷ 0 ∷ 5 ∷ 69 ∷ 1 ∷ 0 ∷ 0 ∷ 0 ∷ 0 ∷ 0 ∷ 0 ∷ 4 ∷ 71 ∷ 1 ∷ 0 ∷ 0 ∷ [])
unfolding encoding digits is_text is_utf8 chars encode_utf8
plugin-sends = refl
