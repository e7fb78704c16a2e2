-- Made by tools/vector-theorems of tests/vectors/5-039.
use Rattle.std.proofs.Common.{◌≡◌, pos, negsuc, [], ◌∷◌, refl, true, false, Some}
use Rattle.std.specs.Prelude.{codes}
use Rattle.std.specs.Char.{encode_utf8}
use Rattle.std.specs.Fmt.{digits}
use Rattle.std.specs.Str.{is_utf8, chars}
use Rattle.np_values.specs.declared.error.NpError.TheVariants.{NoError}
use Rattle.np_values.specs.declared.handler.Handler.TheVariants as handlers
use Rattle.np_values.specs.declared.name.Side.TheVariants as sides
use Rattle.np_values.specs.declared.value.Value.TheVariants as values
use Rattle.np_values.specs.Text.{is_text}
use Rattle.np_idents.specs.declared.key.IdKey.TheVariants.{Str, Int as IntKey}
use Rattle.np_idents.specs.declared.op.Op.TheVariants as ops
use Rattle.np_script_grammar.specs.declared.action.Action.TheVariants as actions
use Rattle.np_script_grammar.specs.declared.action.Operand.TheVariants.{Reg, Const}
use Rattle.np_script_grammar.specs.declared.class.Member.TheVariants as members
use Rattle.np_script_grammar.specs.declared.command.Command.TheVariants as commands
use Rattle.np_script_grammar.specs.declared.page.Page.{Page}
use Rattle.np_script_grammar.specs.declared.plugin.Plugin.{Plugin}
use Rattle.np_message.specs.Encoding.{encoding}
use Rattle.np_journal.specs.declared.line.Line.TheVariants.{Created, Entered, HandlerRun, ProxyGone, Invalidated, Deallocated, Noted, CommandResult}
use Rattle.np_journal.specs.declared.printed.Printed.TheVariants as results
use Rattle.np_machine_plans.specs.Outcomes.{outcome, page_bytes, plugin_bytes, lost_outcome}

abbrev page : Page
page = record {
  major = 0;
  minor = 27;
  classes = (
      (record {
        name = codes "Window";
        version = 3;
        stored = true;
        members = (
            members.Method (Str (codes "m1")) (actions.Throw [] ∷ actions.New 4 (codes "B") ∷ actions.New 3 (codes "A") ∷ actions.SelfTo 3 ∷ actions.New 2 (codes "Window") ∷ actions.Load 0 0 ∷ actions.Return (Reg 0) ∷ []) ∷
            members.Method (Str (codes "m3")) (actions.SelfTo 2 ∷ actions.Load 3 1 ∷ actions.New 2 (codes "A") ∷ actions.New 3 (codes "B") ∷ actions.Invoke 2 (Reg 2) (Str (codes "m0")) [] ∷ actions.Load 3 3 ∷ actions.Invoke 1 (Reg 2) (Str (codes "take")) (Reg 0 ∷ []) ∷ actions.Load 1 0 ∷ []) ∷
            members.Method (IntKey (pos 4)) (actions.SelfTo 2 ∷ actions.Enumerate 1 (Const (values.Text (195 ∷ 164 ∷ 34 ∷ 92 ∷ 1 ∷ 127 ∷ []))) ∷ actions.Invoke 0 (Reg 3) (Str (codes "take")) (Reg 0 ∷ Reg 1 ∷ Reg 0 ∷ []) ∷ actions.Load 1 0 ∷ actions.Get 2 (Reg 1) (Str (codes "f0")) ∷ actions.Put (Reg 1) (Str (codes "f0")) (Reg 3) ∷ []) ∷
            members.Getter (Str (codes "f0")) [] ∷
            members.Setter (Str (codes "f0")) (actions.Load 3 1 ∷ actions.New 0 (codes "A") ∷ actions.Invoke 2 (Reg 0) (IntKey (pos 4)) (Reg 2 ∷ Reg 0 ∷ Reg 1 ∷ []) ∷ actions.New 2 (codes "A") ∷ actions.Put (Reg 2) (Str (codes "f1")) (Reg 3) ∷ actions.Get 3 (Reg 2) (Str (codes "f1")) ∷ actions.Remove (Reg 2) (Str (codes "f1")) ∷ []) ∷
            members.Method (Str (codes "m2")) (actions.Load 2 0 ∷ actions.New 4 (codes "Window") ∷ actions.New 5 (codes "A") ∷ actions.New 3 (codes "Window") ∷ actions.Throw (codes "no") ∷ []) ∷
            members.Method (Str (codes "m0")) (actions.Load 2 0 ∷ actions.New 2 (codes "Window") ∷ actions.SelfTo 2 ∷ []) ∷ []);
      }) ∷
      (record {
        name = codes "A";
        version = 3;
        stored = true;
        members = (
            members.Method (Str (codes "m2")) [] ∷
            members.Method (Str (codes "m1")) (actions.Load 3 1 ∷ actions.Load 2 0 ∷ actions.Load 4 0 ∷ actions.New 3 (codes "Window") ∷ actions.Load 3 1 ∷ []) ∷
            members.Method (Str (codes "m0")) (actions.Load 3 1 ∷ actions.New 4 (codes "Window") ∷ actions.New 1 (codes "Window") ∷ actions.Drop 3 ∷ actions.Throw [] ∷ []) ∷
            members.Getter (Str (codes "f0")) (actions.Load 3 1 ∷ actions.Put (Reg 3) (Str (codes "f0")) (Const (values.Int (pos 1))) ∷ actions.New 4 (codes "Window") ∷ actions.New 5 (codes "Window") ∷ actions.Put (Reg 4) (Str (codes "f1")) (Reg 3) ∷ actions.Drop 5 ∷ actions.Slot 1 (Reg 4) ∷ actions.Drop 4 ∷ []) ∷
            members.Method (Str (codes "m3")) (actions.Load 3 1 ∷ actions.Load 3 2 ∷ actions.New 2 (codes "A") ∷ actions.New 1 (codes "Window") ∷ []) ∷
            members.Method (IntKey (pos 4)) (actions.SelfTo 2 ∷ actions.Load 2 0 ∷ actions.Construct 3 (Reg 2) (Reg 2 ∷ []) ∷ actions.Invoke 1 (Reg 3) (Str (codes "take")) (Reg 3 ∷ Reg 3 ∷ Const (values.Double (0 ∷ 1 ∷ 2 ∷ 3 ∷ 4 ∷ 5 ∷ 6 ∷ 7 ∷ [])) ∷ []) ∷ actions.Drop 2 ∷ actions.Load 9 1 ∷ []) ∷ []);
      }) ∷
      (record {
        name = codes "B";
        version = 3;
        stored = true;
        members = (
            members.Method (Str (codes "m3")) (actions.Load 3 1 ∷ actions.Load 2 0 ∷ actions.Put (Reg 3) (Str (codes "f1")) (Const (values.Int (pos 1))) ∷ actions.New 4 (codes "A") ∷ actions.New 5 (codes "B") ∷ actions.Put (Reg 4) (Str (codes "f1")) (Reg 2) ∷ actions.New 5 (codes "A") ∷ actions.Put (Reg 4) (Str (codes "f0")) (Reg 5) ∷ actions.Put (Reg 4) (IntKey (pos 7)) (Reg 5) ∷ actions.Drop 5 ∷ actions.Return (Reg 5) ∷ []) ∷
            members.Method (Str (codes "m1")) (actions.Load 2 0 ∷ actions.Load 1 2 ∷ actions.SelfTo 0 ∷ actions.Load 3 2 ∷ actions.Load 1 3 ∷ actions.Get 0 (Reg 1) (Str (codes "f0")) ∷ []) ∷
            members.Method (Str (codes "take")) (actions.Load 3 1 ∷ actions.Load 2 0 ∷ actions.Remove (Reg 3) (Str (codes "f1")) ∷ actions.Drop 0 ∷ actions.Load 1 2 ∷ []) ∷
            members.Method (Str (codes "m0")) (actions.Load 3 2 ∷ actions.CallDefault 0 (Reg 3) (Const (values.Text []) ∷ Reg 0 ∷ Reg 2 ∷ []) ∷ actions.OnFalse 2 ∷ []) ∷
            members.Method (IntKey (pos 4)) (actions.Load 3 1 ∷ actions.Invoke 0 (Reg 2) (Str (codes "take")) [] ∷ actions.Set 2 (Reg 0) ∷ []) ∷
            members.Method (Str (codes "m2")) (actions.Load 2 2 ∷ actions.Load 3 1 ∷ actions.Add 3 (Reg 2) (Const (values.Text (codes "e"))) ∷ actions.Load 2 0 ∷ actions.Load 0 1 ∷ []) ∷
            members.Getter (Str (codes "f1")) [] ∷ []);
      }) ∷ []);
  resources = [];
  commands = (
      commands.Create (codes "t/x") 2 [] ∷
      commands.Scriptable 0 1 ∷
      commands.Create (codes "t/x") 1 [] ∷
      commands.Scriptable 1 2 ∷
      commands.New 2 1 (codes "B") ∷
      commands.New 3 2 (codes "A") ∷
      commands.New 1 2 (codes "B") ∷
      commands.Invoke 5 (Reg 2) (Str (codes "m3")) (Reg 5 ∷ Reg 1 ∷ Reg 0 ∷ []) ∷
      commands.Invoke 4 (Reg 3) (Str (codes "m3")) (Reg 0 ∷ Reg 1 ∷ Reg 5 ∷ []) ∷
      commands.Invoke 4 (Reg 0) (Str (codes "m3")) (Reg 0 ∷ Reg 1 ∷ Reg 2 ∷ []) ∷
      commands.Invoke 4 (Reg 0) (Str (codes "take")) (Reg 0 ∷ Reg 2 ∷ Reg 4 ∷ []) ∷
      commands.Invoke 3 (Reg 0) (Str (codes "m2")) (Reg 3 ∷ Reg 2 ∷ Reg 4 ∷ []) ∷
      commands.Invoke 4 (Reg 1) (Str (codes "m2")) (Reg 2 ∷ Reg 0 ∷ Const (values.Int (pos 13)) ∷ []) ∷
      commands.Invoke 5 (Reg 0) (Str (codes "m0")) (Reg 5 ∷ Reg 2 ∷ Reg 0 ∷ []) ∷
      commands.Turn ∷
      commands.Note (Reg 3) ∷
      commands.Invoke 5 (Reg 1) (Str (codes "m3")) (Reg 0 ∷ Reg 3 ∷ Reg 5 ∷ []) ∷
      commands.Invoke 4 (Reg 3) (IntKey (pos 4)) (Reg 1 ∷ Reg 0 ∷ Reg 4 ∷ []) ∷
      commands.Invoke 4 (Reg 1) (Str (codes "take")) (Reg 0 ∷ Reg 0 ∷ []) ∷
      commands.Invoke 4 (Reg 0) (Str (codes "m0")) (Reg 0 ∷ Reg 2 ∷ Reg 5 ∷ []) ∷
      commands.Invoke 4 (Reg 2) (IntKey (pos 4)) (Reg 0 ∷ Reg 2 ∷ Reg 5 ∷ []) ∷
      commands.Invoke 5 (Reg 2) (Str (codes "m1")) (Reg 0 ∷ Reg 1 ∷ Reg 3 ∷ []) ∷
      commands.Invoke 5 (Reg 0) (Str (codes "m2")) [] ∷
      commands.Invoke 4 (Reg 3) (Str (codes "take")) (Reg 4 ∷ Reg 0 ∷ []) ∷
      commands.Invoke 5 (Reg 0) (Str (codes "m2")) (Reg 5 ∷ []) ∷
      commands.Drop 5 ∷
      commands.Invoke 4 (Reg 1) (Str (codes "take")) (Reg 0 ∷ Reg 2 ∷ Reg 4 ∷ []) ∷
      commands.New 5 1 (codes "A") ∷
      commands.Invoke 5 (Reg 2) (Str (codes "m2")) (Reg 3 ∷ []) ∷
      commands.Drop 3 ∷
      commands.Get 5 (Reg 1) (Str (codes "f0")) ∷
      commands.Scriptable 2 2 ∷
      commands.Invoke 5 (Reg 2) (Str (codes "m3")) (Const (values.Text (195 ∷ 164 ∷ 34 ∷ 92 ∷ 1 ∷ 127 ∷ [])) ∷ []) ∷
      commands.Invoke 5 (Reg 3) (Str (codes "take")) (Const (values.Int (pos 100)) ∷ Reg 2 ∷ []) ∷
      commands.Invoke 4 (Reg 3) (Str (codes "m2")) (Reg 5 ∷ Reg 0 ∷ Reg 2 ∷ []) ∷
      commands.Invoke 4 (Reg 4) (Str (codes "take")) (Reg 1 ∷ Reg 3 ∷ Reg 1 ∷ []) ∷
      commands.Invoke 1 (Reg 3) (IntKey (pos 4)) (Reg 5 ∷ Reg 2 ∷ Reg 4 ∷ []) ∷
      commands.Invoke 1 (Reg 2) (Str (codes "m0")) (Reg 1 ∷ Reg 1 ∷ []) ∷
      commands.Invoke 2 (Reg 1) (Str (codes "take")) (Reg 3 ∷ Const (values.Int (negsuc 2147483647)) ∷ []) ∷
      commands.Invoke 0 (Reg 2) (IntKey (pos 4)) (Reg 4 ∷ Reg 2 ∷ Reg 3 ∷ []) ∷
      commands.Invoke 5 (Reg 3) (Str (codes "m2")) (Reg 4 ∷ Reg 1 ∷ Reg 0 ∷ []) ∷ []);
}

abbrev plugin : Plugin
plugin = record {
  major = 0;
  minor = 27;
  classes = (
      (record {
        name = codes "Main";
        version = 3;
        stored = true;
        members = (
            members.Method (Str (codes "m2")) (actions.Load 2 2 ∷ actions.Drop 2 ∷ []) ∷
            members.Method (Str (codes "m0")) (actions.New 4 (codes "T") ∷ actions.New 5 (codes "U") ∷ actions.New 5 (codes "U") ∷ actions.Put (Reg 4) (Str (codes "f1")) (Reg 5) ∷ actions.New 4 (codes "T") ∷ actions.New 5 (codes "Main") ∷ actions.Put (Reg 4) (Str (codes "f0")) (Reg 5) ∷ actions.New 5 (codes "Main") ∷ actions.Put (Reg 4) (IntKey (pos 7)) (Reg 5) ∷ actions.Drop 5 ∷ actions.Return (Reg 4) ∷ []) ∷
            members.Method (Str (codes "take")) (actions.Load 3 1 ∷ actions.New 0 (codes "U") ∷ actions.Put (Reg 0) (Str (codes "f1")) (Reg 4) ∷ actions.Get 4 (Reg 0) (Str (codes "f1")) ∷ actions.Remove (Reg 0) (Str (codes "f1")) ∷ []) ∷
            members.Method (IntKey (pos 4)) (actions.Invoke 2 (Reg 0) (Str (codes "take")) [] ∷ actions.Window 4 ∷ actions.New 4 (codes "Main") ∷ actions.New 5 (codes "U") ∷ actions.Put (Reg 4) (Str (codes "f1")) (Reg 5) ∷ actions.Drop 5 ∷ []) ∷
            members.Setter (Str (codes "f1")) (actions.Load 3 1 ∷ actions.Load 3 2 ∷ actions.Load 1 3 ∷ actions.OnEq (Reg 2) (Reg 1) 1 ∷ []) ∷
            members.Method (Str (codes "m3")) (actions.Load 2 0 ∷ actions.Invoke 2 (Reg 3) (IntKey (pos 4)) (Reg 2 ∷ Reg 1 ∷ Reg 2 ∷ []) ∷ []) ∷
            members.Method (Str (codes "m1")) (actions.New 5 (codes "U") ∷ actions.Drop 2 ∷ actions.Slot 0 (Reg 2) ∷ actions.Window 1 ∷ []) ∷ []);
      }) ∷
      (record {
        name = codes "T";
        version = 2;
        stored = true;
        members = (
            members.Method (Str (codes "m2")) (actions.Load 2 0 ∷ actions.Invoke 2 (Reg 2) (Str (codes "take")) (Reg 0 ∷ Reg 11 ∷ []) ∷ []) ∷
            members.Construct (actions.Load 2 3 ∷ []) ∷
            members.Method (Str (codes "m1")) (actions.New 3 (codes "U") ∷ actions.New 1 (codes "Main") ∷ actions.Invoke 1 (Reg 2) (Str (codes "m2")) (Reg 2 ∷ Reg 3 ∷ []) ∷ actions.Enumerate 1 (Reg 3) ∷ []) ∷
            members.Method (Str (codes "m0")) (actions.Load 3 1 ∷ actions.Load 2 0 ∷ actions.New 4 (codes "T") ∷ actions.New 5 (codes "T") ∷ actions.Put (Reg 4) (Str (codes "f1")) (Reg 3) ∷ actions.New 5 (codes "U") ∷ actions.Put (Reg 4) (Str (codes "f0")) (Reg 5) ∷ actions.Drop 5 ∷ []) ∷
            members.Method (Str (codes "m3")) (actions.Set 2 (Const (values.Int (pos 14))) ∷ actions.Window 1 ∷ actions.Load 2 2 ∷ []) ∷
            members.Getter (Str (codes "f1")) (actions.Load 3 1 ∷ actions.Invoke 5 (Const (values.Int (negsuc 0))) (IntKey (pos 4)) (Reg 1 ∷ Reg 2 ∷ Reg 1 ∷ []) ∷ actions.Window 3 ∷ actions.Return (Reg 2) ∷ actions.New 0 (codes "U") ∷ []) ∷
            members.Method (Str (codes "take")) (actions.New 4 (codes "Main") ∷ actions.New 2 (codes "Main") ∷ actions.New 3 (codes "Main") ∷ actions.New 1 (codes "U") ∷ actions.Put (Reg 2) (Str (codes "f0")) (Reg 1) ∷ actions.Slot 3 (Reg 2) ∷ actions.Drop 2 ∷ []) ∷ []);
      }) ∷
      (record {
        name = codes "U";
        version = 3;
        stored = true;
        members = (
            members.Method (Str (codes "m2")) (actions.Load 2 2 ∷ actions.Load 3 1 ∷ actions.New 1 (codes "T") ∷ actions.New 5 (codes "Main") ∷ actions.Window 1 ∷ actions.Window 2 ∷ actions.Load 3 0 ∷ []) ∷
            members.Method (Str (codes "m1")) (actions.Load 3 1 ∷ actions.New 5 (codes "T") ∷ actions.New 1 (codes "Main") ∷ actions.New 2 (codes "T") ∷ []) ∷
            members.Method (Str (codes "m0")) (actions.Load 3 1 ∷ actions.Set 4 (Reg 2) ∷ []) ∷
            members.Method (Str (codes "m3")) (actions.Load 2 2 ∷ actions.Load 2 0 ∷ actions.New 1 (codes "U") ∷ actions.New 5 (codes "Main") ∷ actions.SelfTo 3 ∷ []) ∷
            members.Method (Str (codes "take")) (actions.Load 3 1 ∷ actions.New 1 (codes "Main") ∷ actions.Window 2 ∷ actions.New 5 (codes "U") ∷ actions.OnEq (Reg 2) (Reg 2) 2 ∷ actions.New 2 (codes "T") ∷ []) ∷
            members.Default (actions.New 1 (codes "T") ∷ actions.Note (Reg 0) ∷ []) ∷
            members.Method (IntKey (pos 4)) (actions.Load 1 2 ∷ actions.Window 4 ∷ actions.Load 1 2 ∷ actions.Get 0 (Reg 0) (Str (codes "f0")) ∷ actions.Set 0 (Reg 0) ∷ []) ∷ []);
      }) ∷ []);
  handlers = (
      (record { which = handlers.New; body = (actions.New 0 (codes "Main") ∷ actions.Slot 0 (Reg 0) ∷ actions.Window 1 ∷ actions.Slot 1 (Reg 1) ∷ actions.Invoke 2 (Reg 5) (Str (codes "take")) (Const (values.Text (codes "e")) ∷ Reg 2 ∷ []) ∷ []) }) ∷
      (record { which = handlers.Scriptable; body = (actions.Load 0 0 ∷ actions.Return (Reg 0) ∷ []) }) ∷
      (record { which = handlers.Destroy; body = [] }) ∷ []);
  tasks = [];
}

-- the run of both
both-end : outcome 1500 page plugin ≡ record {
  page = (
      Created (record { side = sides.Page; instance = 1; serial = 1 }) ∷
      CommandResult 1 (results.Code NoError) ∷
      CommandResult 2 (results.Yes (values.Object (record { side = sides.Plug; instance = 1; serial = 1 })) false) ∷
      Created (record { side = sides.Page; instance = 2; serial = 1 }) ∷
      CommandResult 3 (results.Code NoError) ∷
      CommandResult 4 (results.Yes (values.Object (record { side = sides.Plug; instance = 2; serial = 1 })) false) ∷
      Created (record { side = sides.Page; instance = 1; serial = 2 }) ∷
      CommandResult 5 (results.Yes (values.Object (record { side = sides.Page; instance = 1; serial = 2 })) false) ∷
      Created (record { side = sides.Page; instance = 2; serial = 2 }) ∷
      CommandResult 6 (results.Yes (values.Object (record { side = sides.Page; instance = 2; serial = 2 })) false) ∷
      Created (record { side = sides.Page; instance = 2; serial = 3 }) ∷
      CommandResult 7 (results.Yes (values.Object (record { side = sides.Page; instance = 2; serial = 3 })) false) ∷
      Entered (record { side = sides.Page; instance = 1; serial = 2 }) (ops.Invoke (Str (codes "m3"))) ∷
      Created (record { side = sides.Page; instance = 1; serial = 3 }) ∷
      Created (record { side = sides.Page; instance = 1; serial = 4 }) ∷
      Entered (record { side = sides.Page; instance = 1; serial = 3 }) (ops.Put (Str (codes "f1"))) ∷
      Created (record { side = sides.Page; instance = 1; serial = 5 }) ∷
      Deallocated (record { side = sides.Page; instance = 1; serial = 4 }) ∷
      Entered (record { side = sides.Page; instance = 1; serial = 3 }) (ops.Put (Str (codes "f0"))) ∷
      Entered (record { side = sides.Page; instance = 1; serial = 3 }) (ops.Put (IntKey (pos 7))) ∷
      Deallocated (record { side = sides.Page; instance = 1; serial = 3 }) ∷
      Deallocated (record { side = sides.Page; instance = 1; serial = 5 }) ∷
      CommandResult 8 (results.Yes values.Void false) ∷
      Entered (record { side = sides.Page; instance = 2; serial = 2 }) (ops.Invoke (Str (codes "m3"))) ∷
      Created (record { side = sides.Page; instance = 2; serial = 4 }) ∷
      Created (record { side = sides.Page; instance = 2; serial = 5 }) ∷
      Deallocated (record { side = sides.Page; instance = 2; serial = 5 }) ∷
      Deallocated (record { side = sides.Page; instance = 2; serial = 4 }) ∷
      CommandResult 9 (results.Yes values.Void false) ∷
      CommandResult 10 (results.Yes values.Void false) ∷
      CommandResult 11 (results.Yes values.Void false) ∷
      Deallocated (record { side = sides.Page; instance = 2; serial = 2 }) ∷
      CommandResult 12 (results.Yes values.Void false) ∷
      Entered (record { side = sides.Page; instance = 2; serial = 3 }) (ops.Invoke (Str (codes "m2"))) ∷
      CommandResult 13 (results.Yes values.Void false) ∷
      CommandResult 14 (results.Yes (values.Object (record { side = sides.Plug; instance = 1; serial = 6 })) false) ∷
      CommandResult 15 (results.Yes values.Void false) ∷
      Noted values.Void false ∷
      CommandResult 16 (results.Yes values.Void false) ∷
      Entered (record { side = sides.Page; instance = 2; serial = 3 }) (ops.Invoke (Str (codes "m3"))) ∷
      Created (record { side = sides.Page; instance = 2; serial = 6 }) ∷
      Created (record { side = sides.Page; instance = 2; serial = 7 }) ∷
      Entered (record { side = sides.Page; instance = 2; serial = 6 }) (ops.Put (Str (codes "f1"))) ∷
      Created (record { side = sides.Page; instance = 2; serial = 8 }) ∷
      Deallocated (record { side = sides.Page; instance = 2; serial = 7 }) ∷
      Entered (record { side = sides.Page; instance = 2; serial = 6 }) (ops.Put (Str (codes "f0"))) ∷
      Entered (record { side = sides.Page; instance = 2; serial = 6 }) (ops.Put (IntKey (pos 7))) ∷
      Deallocated (record { side = sides.Page; instance = 2; serial = 6 }) ∷
      Deallocated (record { side = sides.Page; instance = 2; serial = 8 }) ∷
      CommandResult 17 (results.Yes values.Void false) ∷
      CommandResult 18 results.No ∷
      Entered (record { side = sides.Page; instance = 2; serial = 3 }) (ops.Invoke (Str (codes "take"))) ∷
      CommandResult 19 (results.Yes values.Void false) ∷
      CommandResult 20 (results.Yes (values.Object (record { side = sides.Plug; instance = 1; serial = 12 })) false) ∷
      Entered (record { side = sides.Page; instance = 1; serial = 2 }) (ops.Invoke (IntKey (pos 4))) ∷
      CommandResult 21 (results.Yes values.Void false) ∷
      Entered (record { side = sides.Page; instance = 1; serial = 2 }) (ops.Invoke (Str (codes "m1"))) ∷
      CommandResult 22 (results.Yes values.Void false) ∷
      CommandResult 23 (results.Yes values.Void false) ∷
      CommandResult 24 results.No ∷
      CommandResult 25 (results.Yes values.Void false) ∷
      CommandResult 26 (results.Yes values.Void false) ∷
      Entered (record { side = sides.Page; instance = 2; serial = 3 }) (ops.Invoke (Str (codes "take"))) ∷
      CommandResult 27 (results.Yes values.Void false) ∷
      Created (record { side = sides.Page; instance = 1; serial = 6 }) ∷
      CommandResult 28 (results.Yes (values.Object (record { side = sides.Page; instance = 1; serial = 6 })) false) ∷
      Entered (record { side = sides.Page; instance = 1; serial = 2 }) (ops.Invoke (Str (codes "m2"))) ∷
      Deallocated (record { side = sides.Page; instance = 1; serial = 6 }) ∷
      CommandResult 29 (results.Yes values.Void false) ∷
      CommandResult 30 (results.Yes values.Void false) ∷
      Entered (record { side = sides.Page; instance = 2; serial = 3 }) (ops.Get (Str (codes "f0"))) ∷
      CommandResult 31 results.No ∷
      Deallocated (record { side = sides.Page; instance = 1; serial = 2 }) ∷
      CommandResult 32 (results.Yes (values.Object (record { side = sides.Plug; instance = 2; serial = 1 })) false) ∷
      CommandResult 33 (results.Yes values.Void false) ∷
      CommandResult 34 results.No ∷
      CommandResult 35 results.No ∷
      CommandResult 36 results.No ∷
      Deallocated (record { side = sides.Page; instance = 2; serial = 3 }) ∷
      CommandResult 37 results.No ∷
      CommandResult 38 (results.Yes (values.Object (record { side = sides.Plug; instance = 2; serial = 5 })) false) ∷
      CommandResult 39 (results.Yes values.Void false) ∷
      CommandResult 40 results.No ∷
      CommandResult 41 results.No ∷
      Invalidated (record { side = sides.Page; instance = 1; serial = 1 }) ∷
      Deallocated (record { side = sides.Page; instance = 1; serial = 1 }) ∷
      ProxyGone (record { side = sides.Plug; instance = 2; serial = 5 }) ∷
      Invalidated (record { side = sides.Page; instance = 2; serial = 1 }) ∷
      Deallocated (record { side = sides.Page; instance = 2; serial = 1 }) ∷ []);
  plugin = (
      HandlerRun 1 handlers.New ∷
      Created (record { side = sides.Plug; instance = 1; serial = 1 }) ∷
      HandlerRun 1 handlers.Scriptable ∷
      HandlerRun 2 handlers.New ∷
      Created (record { side = sides.Plug; instance = 2; serial = 1 }) ∷
      HandlerRun 2 handlers.Scriptable ∷
      Entered (record { side = sides.Plug; instance = 1; serial = 1 }) (ops.Invoke (Str (codes "m3"))) ∷
      Entered (record { side = sides.Plug; instance = 1; serial = 1 }) (ops.Invoke (Str (codes "take"))) ∷
      Created (record { side = sides.Plug; instance = 1; serial = 2 }) ∷
      Entered (record { side = sides.Plug; instance = 1; serial = 2 }) (ops.Put (Str (codes "f1"))) ∷
      Entered (record { side = sides.Plug; instance = 1; serial = 2 }) (ops.Get (Str (codes "f1"))) ∷
      Entered (record { side = sides.Plug; instance = 1; serial = 2 }) (ops.Remove (Str (codes "f1"))) ∷
      Deallocated (record { side = sides.Plug; instance = 1; serial = 2 }) ∷
      Entered (record { side = sides.Plug; instance = 1; serial = 1 }) (ops.Invoke (Str (codes "m2"))) ∷
      Entered (record { side = sides.Plug; instance = 1; serial = 1 }) (ops.Invoke (Str (codes "m0"))) ∷
      Created (record { side = sides.Plug; instance = 1; serial = 3 }) ∷
      Created (record { side = sides.Plug; instance = 1; serial = 4 }) ∷
      Created (record { side = sides.Plug; instance = 1; serial = 5 }) ∷
      Deallocated (record { side = sides.Plug; instance = 1; serial = 4 }) ∷
      Entered (record { side = sides.Plug; instance = 1; serial = 3 }) (ops.Put (Str (codes "f1"))) ∷
      Created (record { side = sides.Plug; instance = 1; serial = 6 }) ∷
      Deallocated (record { side = sides.Plug; instance = 1; serial = 3 }) ∷
      Created (record { side = sides.Plug; instance = 1; serial = 7 }) ∷
      Deallocated (record { side = sides.Plug; instance = 1; serial = 5 }) ∷
      Entered (record { side = sides.Plug; instance = 1; serial = 6 }) (ops.Put (Str (codes "f0"))) ∷
      Created (record { side = sides.Plug; instance = 1; serial = 8 }) ∷
      Entered (record { side = sides.Plug; instance = 1; serial = 6 }) (ops.Put (IntKey (pos 7))) ∷
      Deallocated (record { side = sides.Plug; instance = 1; serial = 6 }) ∷
      Deallocated (record { side = sides.Plug; instance = 1; serial = 7 }) ∷
      Deallocated (record { side = sides.Plug; instance = 1; serial = 8 }) ∷
      Entered (record { side = sides.Plug; instance = 1; serial = 1 }) (ops.Invoke (Str (codes "m0"))) ∷
      Created (record { side = sides.Plug; instance = 1; serial = 9 }) ∷
      Created (record { side = sides.Plug; instance = 1; serial = 10 }) ∷
      Created (record { side = sides.Plug; instance = 1; serial = 11 }) ∷
      Deallocated (record { side = sides.Plug; instance = 1; serial = 10 }) ∷
      Entered (record { side = sides.Plug; instance = 1; serial = 9 }) (ops.Put (Str (codes "f1"))) ∷
      Created (record { side = sides.Plug; instance = 1; serial = 12 }) ∷
      Deallocated (record { side = sides.Plug; instance = 1; serial = 9 }) ∷
      Created (record { side = sides.Plug; instance = 1; serial = 13 }) ∷
      Deallocated (record { side = sides.Plug; instance = 1; serial = 11 }) ∷
      Entered (record { side = sides.Plug; instance = 1; serial = 12 }) (ops.Put (Str (codes "f0"))) ∷
      Created (record { side = sides.Plug; instance = 1; serial = 14 }) ∷
      Entered (record { side = sides.Plug; instance = 1; serial = 12 }) (ops.Put (IntKey (pos 7))) ∷
      Deallocated (record { side = sides.Plug; instance = 1; serial = 12 }) ∷
      Deallocated (record { side = sides.Plug; instance = 1; serial = 13 }) ∷
      Deallocated (record { side = sides.Plug; instance = 1; serial = 14 }) ∷
      Entered (record { side = sides.Plug; instance = 1; serial = 1 }) (ops.Invoke (Str (codes "m2"))) ∷
      Entered (record { side = sides.Plug; instance = 1; serial = 1 }) (ops.Invoke (Str (codes "m2"))) ∷
      HandlerRun 2 handlers.Scriptable ∷
      Entered (record { side = sides.Plug; instance = 2; serial = 1 }) (ops.Invoke (Str (codes "m3"))) ∷
      Entered (record { side = sides.Plug; instance = 2; serial = 1 }) (ops.Invoke (Str (codes "m0"))) ∷
      Created (record { side = sides.Plug; instance = 2; serial = 2 }) ∷
      Created (record { side = sides.Plug; instance = 2; serial = 3 }) ∷
      Created (record { side = sides.Plug; instance = 2; serial = 4 }) ∷
      Deallocated (record { side = sides.Plug; instance = 2; serial = 3 }) ∷
      Entered (record { side = sides.Plug; instance = 2; serial = 2 }) (ops.Put (Str (codes "f1"))) ∷
      Created (record { side = sides.Plug; instance = 2; serial = 5 }) ∷
      Deallocated (record { side = sides.Plug; instance = 2; serial = 2 }) ∷
      Created (record { side = sides.Plug; instance = 2; serial = 6 }) ∷
      Deallocated (record { side = sides.Plug; instance = 2; serial = 4 }) ∷
      Entered (record { side = sides.Plug; instance = 2; serial = 5 }) (ops.Put (Str (codes "f0"))) ∷
      Created (record { side = sides.Plug; instance = 2; serial = 7 }) ∷
      Entered (record { side = sides.Plug; instance = 2; serial = 5 }) (ops.Put (IntKey (pos 7))) ∷
      Entered (record { side = sides.Plug; instance = 2; serial = 5 }) (ops.Invoke (Str (codes "take"))) ∷
      Created (record { side = sides.Plug; instance = 2; serial = 8 }) ∷
      Created (record { side = sides.Plug; instance = 2; serial = 9 }) ∷
      Created (record { side = sides.Plug; instance = 2; serial = 10 }) ∷
      Created (record { side = sides.Plug; instance = 2; serial = 11 }) ∷
      Entered (record { side = sides.Plug; instance = 2; serial = 9 }) (ops.Put (Str (codes "f0"))) ∷
      Deallocated (record { side = sides.Plug; instance = 2; serial = 10 }) ∷
      Deallocated (record { side = sides.Plug; instance = 2; serial = 8 }) ∷
      HandlerRun 1 handlers.Destroy ∷
      ProxyGone (record { side = sides.Page; instance = 1; serial = 1 }) ∷
      Invalidated (record { side = sides.Plug; instance = 1; serial = 1 }) ∷
      Deallocated (record { side = sides.Plug; instance = 1; serial = 1 }) ∷
      HandlerRun 2 handlers.Destroy ∷
      ProxyGone (record { side = sides.Page; instance = 2; serial = 1 }) ∷
      Invalidated (record { side = sides.Plug; instance = 2; serial = 1 }) ∷
      Invalidated (record { side = sides.Plug; instance = 2; serial = 5 }) ∷
      Invalidated (record { side = sides.Plug; instance = 2; serial = 6 }) ∷
      Invalidated (record { side = sides.Plug; instance = 2; serial = 7 }) ∷
      Invalidated (record { side = sides.Plug; instance = 2; serial = 9 }) ∷
      Invalidated (record { side = sides.Plug; instance = 2; serial = 11 }) ∷
      Deallocated (record { side = sides.Plug; instance = 2; serial = 1 }) ∷
      Deallocated (record { side = sides.Plug; instance = 2; serial = 5 }) ∷
      Deallocated (record { side = sides.Plug; instance = 2; serial = 6 }) ∷
      Deallocated (record { side = sides.Plug; instance = 2; serial = 7 }) ∷
      Deallocated (record { side = sides.Plug; instance = 2; serial = 9 }) ∷
      Deallocated (record { side = sides.Plug; instance = 2; serial = 11 }) ∷ []);
  files = [];
  rests = true;
}
unfolding encoding digits is_text is_utf8 chars encode_utf8
both-end = refl

-- all bytes that the page sends
page-sends : page_bytes 1500 page plugin ≡ (0 ∷ 0 ∷ 0 ∷ 7 ∷ 1 ∷ 1 ∷ 0 ∷ 0 ∷ 1 ∷ 0 ∷ 27 ∷ 0 ∷ 0 ∷ 0 ∷ 12 ∷ 2 ∷ 1 ∷ 0 ∷ 0 ∷ 1 ∷ 2 ∷ 0 ∷ 3 ∷ 116 ∷ 47 ∷ 120 ∷ 0 ∷ 0 ∷ 0 ∷ 0 ∷ 11 ∷ 65 ∷ 2 ∷ 0 ∷ 0 ∷ 6 ∷ 0 ∷ 1 ∷ 0 ∷ 0 ∷ 0 ∷ 1 ∷ 0 ∷ 0 ∷ 0 ∷ 5 ∷ 4 ∷ 1 ∷ 0 ∷ 0 ∷ 1 ∷ 0 ∷ 0 ∷ 0 ∷ 12 ∷ 2 ∷ 1 ∷ 0 ∷ 0 ∷ 2 ∷ 1 ∷ 0 ∷ 3 ∷ 116 ∷ 47 ∷ 120 ∷ 0 ∷ 0 ∷ 0 ∷ 0 ∷ 11 ∷ 65 ∷ 2 ∷ 0 ∷ 0 ∷ 6 ∷ 0 ∷ 2 ∷ 0 ∷ 0 ∷ 0 ∷ 1 ∷ 0 ∷ 0 ∷ 0 ∷ 5 ∷ 4 ∷ 1 ∷ 0 ∷ 0 ∷ 2 ∷ 0 ∷ 0 ∷ 0 ∷ 46 ∷ 64 ∷ 1 ∷ 0 ∷ 1 ∷ 2 ∷ 0 ∷ 0 ∷ 0 ∷ 1 ∷ 0 ∷ 0 ∷ 0 ∷ 1 ∷ 1 ∷ 0 ∷ 0 ∷ 0 ∷ 1 ∷ 1 ∷ 0 ∷ 0 ∷ 2 ∷ 109 ∷ 51 ∷ 3 ∷ 6 ∷ 1 ∷ 1 ∷ 0 ∷ 0 ∷ 0 ∷ 1 ∷ 6 ∷ 0 ∷ 2 ∷ 0 ∷ 0 ∷ 0 ∷ 3 ∷ 6 ∷ 0 ∷ 1 ∷ 0 ∷ 0 ∷ 0 ∷ 2 ∷ 0 ∷ 0 ∷ 0 ∷ 33 ∷ 64 ∷ 1 ∷ 0 ∷ 0 ∷ 1 ∷ 0 ∷ 0 ∷ 0 ∷ 1 ∷ 1 ∷ 0 ∷ 0 ∷ 4 ∷ 116 ∷ 97 ∷ 107 ∷ 101 ∷ 3 ∷ 6 ∷ 1 ∷ 1 ∷ 0 ∷ 0 ∷ 0 ∷ 1 ∷ 6 ∷ 0 ∷ 1 ∷ 0 ∷ 0 ∷ 0 ∷ 2 ∷ 0 ∷ 0 ∷ 0 ∷ 0 ∷ 31 ∷ 64 ∷ 1 ∷ 0 ∷ 0 ∷ 1 ∷ 0 ∷ 0 ∷ 0 ∷ 1 ∷ 1 ∷ 0 ∷ 0 ∷ 2 ∷ 109 ∷ 50 ∷ 3 ∷ 6 ∷ 0 ∷ 2 ∷ 0 ∷ 0 ∷ 0 ∷ 2 ∷ 6 ∷ 0 ∷ 1 ∷ 0 ∷ 0 ∷ 0 ∷ 2 ∷ 0 ∷ 0 ∷ 0 ∷ 0 ∷ 31 ∷ 64 ∷ 1 ∷ 0 ∷ 0 ∷ 1 ∷ 0 ∷ 0 ∷ 0 ∷ 1 ∷ 1 ∷ 0 ∷ 0 ∷ 2 ∷ 109 ∷ 48 ∷ 3 ∷ 0 ∷ 6 ∷ 0 ∷ 1 ∷ 0 ∷ 0 ∷ 0 ∷ 2 ∷ 6 ∷ 1 ∷ 1 ∷ 0 ∷ 0 ∷ 0 ∷ 1 ∷ 0 ∷ 0 ∷ 0 ∷ 4 ∷ 5 ∷ 1 ∷ 0 ∷ 0 ∷ 0 ∷ 0 ∷ 0 ∷ 40 ∷ 64 ∷ 1 ∷ 0 ∷ 1 ∷ 1 ∷ 0 ∷ 0 ∷ 0 ∷ 6 ∷ 0 ∷ 0 ∷ 0 ∷ 1 ∷ 1 ∷ 0 ∷ 0 ∷ 0 ∷ 1 ∷ 1 ∷ 0 ∷ 0 ∷ 2 ∷ 109 ∷ 48 ∷ 3 ∷ 6 ∷ 1 ∷ 1 ∷ 0 ∷ 0 ∷ 0 ∷ 1 ∷ 6 ∷ 0 ∷ 1 ∷ 0 ∷ 0 ∷ 0 ∷ 2 ∷ 0 ∷ 0 ∷ 0 ∷ 0 ∷ 25 ∷ 64 ∷ 1 ∷ 0 ∷ 1 ∷ 1 ∷ 0 ∷ 0 ∷ 0 ∷ 12 ∷ 0 ∷ 0 ∷ 0 ∷ 1 ∷ 1 ∷ 0 ∷ 0 ∷ 0 ∷ 1 ∷ 1 ∷ 0 ∷ 0 ∷ 2 ∷ 109 ∷ 50 ∷ 0 ∷ 0 ∷ 0 ∷ 0 ∷ 17 ∷ 64 ∷ 1 ∷ 0 ∷ 0 ∷ 1 ∷ 0 ∷ 0 ∷ 0 ∷ 1 ∷ 1 ∷ 0 ∷ 0 ∷ 2 ∷ 109 ∷ 50 ∷ 1 ∷ 0 ∷ 0 ∷ 0 ∷ 0 ∷ 5 ∷ 4 ∷ 1 ∷ 0 ∷ 0 ∷ 2 ∷ 0 ∷ 0 ∷ 0 ∷ 25 ∷ 64 ∷ 1 ∷ 0 ∷ 0 ∷ 2 ∷ 0 ∷ 0 ∷ 0 ∷ 1 ∷ 1 ∷ 0 ∷ 0 ∷ 2 ∷ 109 ∷ 51 ∷ 1 ∷ 5 ∷ 0 ∷ 6 ∷ 195 ∷ 164 ∷ 34 ∷ 92 ∷ 1 ∷ 127 ∷ 0 ∷ 0 ∷ 0 ∷ 18 ∷ 64 ∷ 1 ∷ 0 ∷ 0 ∷ 2 ∷ 0 ∷ 0 ∷ 0 ∷ 1 ∷ 1 ∷ 0 ∷ 0 ∷ 2 ∷ 109 ∷ 48 ∷ 2 ∷ 0 ∷ 0 ∷ 0 ∷ 0 ∷ 0 ∷ 24 ∷ 64 ∷ 1 ∷ 0 ∷ 0 ∷ 2 ∷ 0 ∷ 0 ∷ 0 ∷ 5 ∷ 1 ∷ 0 ∷ 0 ∷ 4 ∷ 116 ∷ 97 ∷ 107 ∷ 101 ∷ 2 ∷ 0 ∷ 3 ∷ 128 ∷ 0 ∷ 0 ∷ 0 ∷ 0 ∷ 0 ∷ 0 ∷ 23 ∷ 3 ∷ 1 ∷ 0 ∷ 2 ∷ 1 ∷ 0 ∷ 0 ∷ 0 ∷ 1 ∷ 0 ∷ 0 ∷ 0 ∷ 1 ∷ 2 ∷ 0 ∷ 0 ∷ 0 ∷ 1 ∷ 0 ∷ 0 ∷ 0 ∷ 1 ∷ 1 ∷ 0 ∷ 0 ∷ 0 ∷ 5 ∷ 3 ∷ 1 ∷ 0 ∷ 0 ∷ 2 ∷ 0 ∷ 0 ∷ 0 ∷ 4 ∷ 12 ∷ 1 ∷ 0 ∷ 0 ∷ [])
unfolding encoding digits is_text is_utf8 chars encode_utf8
page-sends = refl

-- all bytes that the plugin sends
plugin-sends : plugin_bytes 1500 page plugin ≡ (0 ∷ 0 ∷ 0 ∷ 5 ∷ 69 ∷ 1 ∷ 0 ∷ 0 ∷ 0 ∷ 0 ∷ 0 ∷ 0 ∷ 5 ∷ 32 ∷ 2 ∷ 0 ∷ 0 ∷ 1 ∷ 0 ∷ 0 ∷ 0 ∷ 5 ∷ 69 ∷ 1 ∷ 0 ∷ 0 ∷ 0 ∷ 0 ∷ 0 ∷ 0 ∷ 11 ∷ 65 ∷ 1 ∷ 0 ∷ 0 ∷ 6 ∷ 1 ∷ 1 ∷ 0 ∷ 0 ∷ 0 ∷ 1 ∷ 0 ∷ 0 ∷ 0 ∷ 5 ∷ 32 ∷ 2 ∷ 0 ∷ 0 ∷ 2 ∷ 0 ∷ 0 ∷ 0 ∷ 5 ∷ 69 ∷ 1 ∷ 0 ∷ 0 ∷ 0 ∷ 0 ∷ 0 ∷ 0 ∷ 11 ∷ 65 ∷ 1 ∷ 0 ∷ 0 ∷ 6 ∷ 1 ∷ 2 ∷ 0 ∷ 0 ∷ 0 ∷ 1 ∷ 0 ∷ 0 ∷ 0 ∷ 23 ∷ 65 ∷ 1 ∷ 0 ∷ 2 ∷ 1 ∷ 0 ∷ 0 ∷ 0 ∷ 2 ∷ 0 ∷ 0 ∷ 0 ∷ 1 ∷ 2 ∷ 0 ∷ 0 ∷ 0 ∷ 3 ∷ 0 ∷ 0 ∷ 0 ∷ 1 ∷ 0 ∷ 0 ∷ 0 ∷ 0 ∷ 14 ∷ 65 ∷ 1 ∷ 0 ∷ 1 ∷ 1 ∷ 0 ∷ 0 ∷ 0 ∷ 2 ∷ 0 ∷ 0 ∷ 0 ∷ 1 ∷ 0 ∷ 0 ∷ 0 ∷ 0 ∷ 23 ∷ 65 ∷ 1 ∷ 0 ∷ 2 ∷ 1 ∷ 0 ∷ 0 ∷ 0 ∷ 2 ∷ 0 ∷ 0 ∷ 0 ∷ 1 ∷ 2 ∷ 0 ∷ 0 ∷ 0 ∷ 2 ∷ 0 ∷ 0 ∷ 0 ∷ 1 ∷ 0 ∷ 0 ∷ 0 ∷ 0 ∷ 20 ∷ 65 ∷ 1 ∷ 0 ∷ 1 ∷ 1 ∷ 0 ∷ 0 ∷ 0 ∷ 2 ∷ 0 ∷ 0 ∷ 0 ∷ 1 ∷ 6 ∷ 1 ∷ 1 ∷ 0 ∷ 0 ∷ 0 ∷ 6 ∷ 0 ∷ 0 ∷ 0 ∷ 4 ∷ 71 ∷ 1 ∷ 0 ∷ 0 ∷ 0 ∷ 0 ∷ 0 ∷ 20 ∷ 65 ∷ 1 ∷ 0 ∷ 1 ∷ 1 ∷ 0 ∷ 0 ∷ 0 ∷ 2 ∷ 0 ∷ 0 ∷ 0 ∷ 1 ∷ 6 ∷ 1 ∷ 1 ∷ 0 ∷ 0 ∷ 0 ∷ 12 ∷ 0 ∷ 0 ∷ 0 ∷ 5 ∷ 65 ∷ 1 ∷ 0 ∷ 0 ∷ 0 ∷ 0 ∷ 0 ∷ 0 ∷ 5 ∷ 65 ∷ 1 ∷ 0 ∷ 0 ∷ 0 ∷ 0 ∷ 0 ∷ 0 ∷ 11 ∷ 65 ∷ 1 ∷ 0 ∷ 0 ∷ 6 ∷ 1 ∷ 2 ∷ 0 ∷ 0 ∷ 0 ∷ 1 ∷ 0 ∷ 0 ∷ 0 ∷ 5 ∷ 65 ∷ 1 ∷ 0 ∷ 0 ∷ 0 ∷ 0 ∷ 0 ∷ 0 ∷ 11 ∷ 65 ∷ 1 ∷ 0 ∷ 0 ∷ 6 ∷ 1 ∷ 2 ∷ 0 ∷ 0 ∷ 0 ∷ 5 ∷ 0 ∷ 0 ∷ 0 ∷ 5 ∷ 65 ∷ 1 ∷ 0 ∷ 0 ∷ 0 ∷ 0 ∷ 0 ∷ 0 ∷ 5 ∷ 69 ∷ 1 ∷ 0 ∷ 0 ∷ 0 ∷ 0 ∷ 0 ∷ 0 ∷ 5 ∷ 69 ∷ 1 ∷ 0 ∷ 0 ∷ 0 ∷ 0 ∷ 0 ∷ 0 ∷ 4 ∷ 71 ∷ 1 ∷ 0 ∷ 0 ∷ [])
unfolding encoding digits is_text is_utf8 chars encode_utf8
plugin-sends = refl

-- the plug-in's first 197 bytes hold 12 whole messages
cut-197 : lost_outcome 1500 (Some 12) page plugin ≡ record {
  page = (
      Created (record { side = sides.Page; instance = 1; serial = 1 }) ∷
      CommandResult 1 (results.Code NoError) ∷
      CommandResult 2 (results.Yes (values.Object (record { side = sides.Plug; instance = 1; serial = 1 })) false) ∷
      Created (record { side = sides.Page; instance = 2; serial = 1 }) ∷
      CommandResult 3 (results.Code NoError) ∷
      CommandResult 4 (results.Yes (values.Object (record { side = sides.Plug; instance = 2; serial = 1 })) false) ∷
      Created (record { side = sides.Page; instance = 1; serial = 2 }) ∷
      CommandResult 5 (results.Yes (values.Object (record { side = sides.Page; instance = 1; serial = 2 })) false) ∷
      Created (record { side = sides.Page; instance = 2; serial = 2 }) ∷
      CommandResult 6 (results.Yes (values.Object (record { side = sides.Page; instance = 2; serial = 2 })) false) ∷
      Created (record { side = sides.Page; instance = 2; serial = 3 }) ∷
      CommandResult 7 (results.Yes (values.Object (record { side = sides.Page; instance = 2; serial = 3 })) false) ∷
      Entered (record { side = sides.Page; instance = 1; serial = 2 }) (ops.Invoke (Str (codes "m3"))) ∷
      Created (record { side = sides.Page; instance = 1; serial = 3 }) ∷
      Created (record { side = sides.Page; instance = 1; serial = 4 }) ∷
      Entered (record { side = sides.Page; instance = 1; serial = 3 }) (ops.Put (Str (codes "f1"))) ∷
      Created (record { side = sides.Page; instance = 1; serial = 5 }) ∷
      Deallocated (record { side = sides.Page; instance = 1; serial = 4 }) ∷
      Entered (record { side = sides.Page; instance = 1; serial = 3 }) (ops.Put (Str (codes "f0"))) ∷
      Entered (record { side = sides.Page; instance = 1; serial = 3 }) (ops.Put (IntKey (pos 7))) ∷
      Deallocated (record { side = sides.Page; instance = 1; serial = 3 }) ∷
      Deallocated (record { side = sides.Page; instance = 1; serial = 5 }) ∷
      CommandResult 8 (results.Yes values.Void false) ∷
      Entered (record { side = sides.Page; instance = 2; serial = 2 }) (ops.Invoke (Str (codes "m3"))) ∷
      Created (record { side = sides.Page; instance = 2; serial = 4 }) ∷
      Created (record { side = sides.Page; instance = 2; serial = 5 }) ∷
      Deallocated (record { side = sides.Page; instance = 2; serial = 5 }) ∷
      Deallocated (record { side = sides.Page; instance = 2; serial = 4 }) ∷
      CommandResult 9 (results.Yes values.Void false) ∷
      CommandResult 10 (results.Yes values.Void false) ∷
      CommandResult 11 (results.Yes values.Void false) ∷
      Deallocated (record { side = sides.Page; instance = 2; serial = 2 }) ∷
      CommandResult 12 (results.Yes values.Void false) ∷
      Entered (record { side = sides.Page; instance = 2; serial = 3 }) (ops.Invoke (Str (codes "m2"))) ∷
      CommandResult 13 (results.Yes values.Void false) ∷
      CommandResult 14 (results.Yes (values.Object (record { side = sides.Plug; instance = 1; serial = 6 })) false) ∷
      CommandResult 15 (results.Yes values.Void false) ∷
      Noted values.Void false ∷
      CommandResult 16 (results.Yes values.Void false) ∷
      Entered (record { side = sides.Page; instance = 2; serial = 3 }) (ops.Invoke (Str (codes "m3"))) ∷
      Created (record { side = sides.Page; instance = 2; serial = 6 }) ∷
      Created (record { side = sides.Page; instance = 2; serial = 7 }) ∷
      Entered (record { side = sides.Page; instance = 2; serial = 6 }) (ops.Put (Str (codes "f1"))) ∷
      Created (record { side = sides.Page; instance = 2; serial = 8 }) ∷
      Deallocated (record { side = sides.Page; instance = 2; serial = 7 }) ∷
      Entered (record { side = sides.Page; instance = 2; serial = 6 }) (ops.Put (Str (codes "f0"))) ∷
      Entered (record { side = sides.Page; instance = 2; serial = 6 }) (ops.Put (IntKey (pos 7))) ∷
      Deallocated (record { side = sides.Page; instance = 2; serial = 6 }) ∷
      Deallocated (record { side = sides.Page; instance = 2; serial = 8 }) ∷
      CommandResult 17 (results.Yes values.Void false) ∷
      CommandResult 18 results.No ∷
      Entered (record { side = sides.Page; instance = 2; serial = 3 }) (ops.Invoke (Str (codes "take"))) ∷
      CommandResult 19 (results.Yes values.Void false) ∷
      ProxyGone (record { side = sides.Plug; instance = 1; serial = 1 }) ∷
      Invalidated (record { side = sides.Page; instance = 1; serial = 1 }) ∷
      Invalidated (record { side = sides.Page; instance = 1; serial = 2 }) ∷
      Deallocated (record { side = sides.Page; instance = 1; serial = 1 }) ∷
      Deallocated (record { side = sides.Page; instance = 1; serial = 2 }) ∷
      Invalidated (record { side = sides.Page; instance = 2; serial = 1 }) ∷
      Invalidated (record { side = sides.Page; instance = 2; serial = 3 }) ∷
      Deallocated (record { side = sides.Page; instance = 2; serial = 1 }) ∷
      Deallocated (record { side = sides.Page; instance = 2; serial = 3 }) ∷
      CommandResult 20 results.No ∷
      CommandResult 21 results.No ∷
      CommandResult 22 results.No ∷
      CommandResult 23 results.No ∷
      CommandResult 24 results.No ∷
      CommandResult 25 results.No ∷
      CommandResult 26 (results.Yes values.Void false) ∷
      CommandResult 27 results.No ∷
      CommandResult 28 results.No ∷
      CommandResult 29 results.No ∷
      CommandResult 30 (results.Yes values.Void false) ∷
      CommandResult 31 results.No ∷
      CommandResult 32 results.No ∷
      CommandResult 33 results.No ∷
      CommandResult 34 results.No ∷
      CommandResult 35 results.No ∷
      CommandResult 36 results.No ∷
      CommandResult 37 results.No ∷
      CommandResult 38 results.No ∷
      CommandResult 39 results.No ∷
      CommandResult 40 results.No ∷
      CommandResult 41 results.No ∷ []);
  rests = true;
}
unfolding encoding digits is_text is_utf8 chars encode_utf8
cut-197 = refl

-- the plug-in's first 206 bytes hold 13 whole messages
cut-206 : lost_outcome 1500 (Some 13) page plugin ≡ record {
  page = (
      Created (record { side = sides.Page; instance = 1; serial = 1 }) ∷
      CommandResult 1 (results.Code NoError) ∷
      CommandResult 2 (results.Yes (values.Object (record { side = sides.Plug; instance = 1; serial = 1 })) false) ∷
      Created (record { side = sides.Page; instance = 2; serial = 1 }) ∷
      CommandResult 3 (results.Code NoError) ∷
      CommandResult 4 (results.Yes (values.Object (record { side = sides.Plug; instance = 2; serial = 1 })) false) ∷
      Created (record { side = sides.Page; instance = 1; serial = 2 }) ∷
      CommandResult 5 (results.Yes (values.Object (record { side = sides.Page; instance = 1; serial = 2 })) false) ∷
      Created (record { side = sides.Page; instance = 2; serial = 2 }) ∷
      CommandResult 6 (results.Yes (values.Object (record { side = sides.Page; instance = 2; serial = 2 })) false) ∷
      Created (record { side = sides.Page; instance = 2; serial = 3 }) ∷
      CommandResult 7 (results.Yes (values.Object (record { side = sides.Page; instance = 2; serial = 3 })) false) ∷
      Entered (record { side = sides.Page; instance = 1; serial = 2 }) (ops.Invoke (Str (codes "m3"))) ∷
      Created (record { side = sides.Page; instance = 1; serial = 3 }) ∷
      Created (record { side = sides.Page; instance = 1; serial = 4 }) ∷
      Entered (record { side = sides.Page; instance = 1; serial = 3 }) (ops.Put (Str (codes "f1"))) ∷
      Created (record { side = sides.Page; instance = 1; serial = 5 }) ∷
      Deallocated (record { side = sides.Page; instance = 1; serial = 4 }) ∷
      Entered (record { side = sides.Page; instance = 1; serial = 3 }) (ops.Put (Str (codes "f0"))) ∷
      Entered (record { side = sides.Page; instance = 1; serial = 3 }) (ops.Put (IntKey (pos 7))) ∷
      Deallocated (record { side = sides.Page; instance = 1; serial = 3 }) ∷
      Deallocated (record { side = sides.Page; instance = 1; serial = 5 }) ∷
      CommandResult 8 (results.Yes values.Void false) ∷
      Entered (record { side = sides.Page; instance = 2; serial = 2 }) (ops.Invoke (Str (codes "m3"))) ∷
      Created (record { side = sides.Page; instance = 2; serial = 4 }) ∷
      Created (record { side = sides.Page; instance = 2; serial = 5 }) ∷
      Deallocated (record { side = sides.Page; instance = 2; serial = 5 }) ∷
      Deallocated (record { side = sides.Page; instance = 2; serial = 4 }) ∷
      CommandResult 9 (results.Yes values.Void false) ∷
      CommandResult 10 (results.Yes values.Void false) ∷
      CommandResult 11 (results.Yes values.Void false) ∷
      Deallocated (record { side = sides.Page; instance = 2; serial = 2 }) ∷
      CommandResult 12 (results.Yes values.Void false) ∷
      Entered (record { side = sides.Page; instance = 2; serial = 3 }) (ops.Invoke (Str (codes "m2"))) ∷
      CommandResult 13 (results.Yes values.Void false) ∷
      CommandResult 14 (results.Yes (values.Object (record { side = sides.Plug; instance = 1; serial = 6 })) false) ∷
      CommandResult 15 (results.Yes values.Void false) ∷
      Noted values.Void false ∷
      CommandResult 16 (results.Yes values.Void false) ∷
      Entered (record { side = sides.Page; instance = 2; serial = 3 }) (ops.Invoke (Str (codes "m3"))) ∷
      Created (record { side = sides.Page; instance = 2; serial = 6 }) ∷
      Created (record { side = sides.Page; instance = 2; serial = 7 }) ∷
      Entered (record { side = sides.Page; instance = 2; serial = 6 }) (ops.Put (Str (codes "f1"))) ∷
      Created (record { side = sides.Page; instance = 2; serial = 8 }) ∷
      Deallocated (record { side = sides.Page; instance = 2; serial = 7 }) ∷
      Entered (record { side = sides.Page; instance = 2; serial = 6 }) (ops.Put (Str (codes "f0"))) ∷
      Entered (record { side = sides.Page; instance = 2; serial = 6 }) (ops.Put (IntKey (pos 7))) ∷
      Deallocated (record { side = sides.Page; instance = 2; serial = 6 }) ∷
      Deallocated (record { side = sides.Page; instance = 2; serial = 8 }) ∷
      CommandResult 17 (results.Yes values.Void false) ∷
      CommandResult 18 results.No ∷
      Entered (record { side = sides.Page; instance = 2; serial = 3 }) (ops.Invoke (Str (codes "take"))) ∷
      CommandResult 19 (results.Yes values.Void false) ∷
      CommandResult 20 (results.Yes (values.Object (record { side = sides.Plug; instance = 1; serial = 12 })) false) ∷
      Entered (record { side = sides.Page; instance = 1; serial = 2 }) (ops.Invoke (IntKey (pos 4))) ∷
      CommandResult 21 (results.Yes values.Void false) ∷
      Entered (record { side = sides.Page; instance = 1; serial = 2 }) (ops.Invoke (Str (codes "m1"))) ∷
      CommandResult 22 (results.Yes values.Void false) ∷
      ProxyGone (record { side = sides.Plug; instance = 1; serial = 1 }) ∷
      Invalidated (record { side = sides.Page; instance = 1; serial = 1 }) ∷
      Invalidated (record { side = sides.Page; instance = 1; serial = 2 }) ∷
      Deallocated (record { side = sides.Page; instance = 1; serial = 1 }) ∷
      Deallocated (record { side = sides.Page; instance = 1; serial = 2 }) ∷
      Invalidated (record { side = sides.Page; instance = 2; serial = 1 }) ∷
      Invalidated (record { side = sides.Page; instance = 2; serial = 3 }) ∷
      Deallocated (record { side = sides.Page; instance = 2; serial = 1 }) ∷
      Deallocated (record { side = sides.Page; instance = 2; serial = 3 }) ∷
      CommandResult 23 results.No ∷
      CommandResult 24 results.No ∷
      CommandResult 25 results.No ∷
      CommandResult 26 (results.Yes values.Void false) ∷
      CommandResult 27 results.No ∷
      CommandResult 28 results.No ∷
      CommandResult 29 results.No ∷
      CommandResult 30 (results.Yes values.Void false) ∷
      CommandResult 31 results.No ∷
      CommandResult 32 results.No ∷
      CommandResult 33 results.No ∷
      CommandResult 34 results.No ∷
      CommandResult 35 results.No ∷
      CommandResult 36 results.No ∷
      CommandResult 37 results.No ∷
      CommandResult 38 results.No ∷
      CommandResult 39 results.No ∷
      CommandResult 40 results.No ∷
      CommandResult 41 results.No ∷ []);
  rests = true;
}
unfolding encoding digits is_text is_utf8 chars encode_utf8
cut-206 = refl
