-- Made by tools/vector-theorems of tests/vectors/8-035.
use Rattle.std.proofs.Common.{◌≡◌, pos, negsuc, [], ◌∷◌, refl, true, false, Some}
use Rattle.std.specs.Prelude.{codes}
use Rattle.std.specs.Char.{encode_utf8}
use Rattle.std.specs.Fmt.{digits}
use Rattle.std.specs.Str.{is_utf8, chars}
use Rattle.np_values.specs.declared.error.NpError.TheVariants.{NoError, InvalidInstance}
use Rattle.np_values.specs.declared.handler.Handler.TheVariants as handlers
use Rattle.np_values.specs.declared.name.Side.TheVariants as sides
use Rattle.np_values.specs.declared.value.Value.TheVariants as values
use Rattle.np_values.specs.Text.{is_text}
use Rattle.np_idents.specs.declared.key.IdKey.TheVariants.{Str, Int as IntKey}
use Rattle.np_idents.specs.declared.op.Op.TheVariants as ops
use Rattle.np_script_grammar.specs.declared.action.Action.TheVariants as actions
use Rattle.np_script_grammar.specs.declared.action.Operand.TheVariants.{Reg, Const}
use Rattle.np_script_grammar.specs.declared.class.Member.TheVariants as members
use Rattle.np_script_grammar.specs.declared.command.Command.TheVariants as commands
use Rattle.np_script_grammar.specs.declared.page.Page.{Page}
use Rattle.np_script_grammar.specs.declared.plugin.Plugin.{Plugin}
use Rattle.np_message.specs.Encoding.{encoding}
use Rattle.np_journal.specs.declared.line.Line.TheVariants.{Created, Entered, HandlerRun, ProxyGone, Invalidated, Deallocated, CommandResult}
use Rattle.np_journal.specs.declared.printed.Printed.TheVariants as results
use Rattle.np_machine_plans.specs.Outcomes.{outcome, page_bytes, plugin_bytes, lost_outcome}

abbrev page : Page
page = record {
  major = 0;
  minor = 27;
  classes = (
      (record {
        name = codes "Window";
        version = 3;
        stored = true;
        members = (
            members.Method (Str (codes "m1")) (actions.Load 2 2 ∷ actions.SelfTo 2 ∷ actions.New 1 (codes "Window") ∷ actions.New 2 (codes "Window") ∷ actions.New 4 (codes "B") ∷ actions.Remove (Reg 1) (Str (codes "7")) ∷ []) ∷
            members.Method (Str (codes "m2")) (actions.Invoke 5 (Const (values.Int (pos 14))) (IntKey (pos 4)) (Const (values.Int (pos 1)) ∷ Const (values.Bool false) ∷ Reg 0 ∷ []) ∷ actions.Destroy 0 2 ∷ actions.Add 3 (Reg 3) (Reg 2) ∷ actions.CallDefault 2 (Reg 0) (Reg 0 ∷ []) ∷ []) ∷
            members.Method (Str (codes "take")) (actions.Load 3 2 ∷ actions.Add 3 (Const (values.Text [])) (Const (values.Int (pos 14))) ∷ actions.Destroy 3 1 ∷ actions.New 1 (codes "Window") ∷ actions.Load 1 2 ∷ actions.Note (Reg 2) ∷ []) ∷
            members.Setter (Str (codes "f0")) (actions.Load 3 1 ∷ actions.Load 2 0 ∷ actions.Load 0 3 ∷ actions.Get 1 (Reg 0) (Str (codes "f0")) ∷ actions.Put (Reg 0) (Str (codes "f0")) (Reg 1) ∷ []) ∷
            members.Method (Str (codes "m0")) (actions.Load 3 1 ∷ actions.Load 2 0 ∷ actions.Destroy 9 1 ∷ actions.New 1 (codes "A") ∷ actions.Invoke 10 (Reg 0) (Str (codes "m1")) [] ∷ actions.Invoke 0 (Reg 3) (Str (codes "m3")) (Reg 1 ∷ []) ∷ actions.Drop 3 ∷ []) ∷
            members.Method (IntKey (pos 4)) (actions.New 4 (codes "B") ∷ []) ∷
            members.Method (Str (codes "m3")) (actions.Load 2 2 ∷ actions.New 1 (codes "Window") ∷ actions.Set 1 (Reg 3) ∷ actions.New 4 (codes "B") ∷ actions.Destroy 2 2 ∷ []) ∷ []);
      }) ∷
      (record {
        name = codes "A";
        version = 1;
        stored = false;
        members = (
            members.Method (IntKey (pos 4)) (actions.Load 3 2 ∷ actions.New 4 (codes "B") ∷ actions.New 5 (codes "Window") ∷ actions.Put (Reg 4) (IntKey (pos 7)) (Reg 0) ∷ actions.New 5 (codes "Window") ∷ actions.Put (Reg 4) (Str (codes "f0")) (Reg 5) ∷ actions.Drop 5 ∷ actions.Slot 2 (Reg 4) ∷ actions.Drop 4 ∷ []) ∷
            members.Method (Str (codes "take")) (actions.SelfTo 2 ∷ actions.New 1 (codes "B") ∷ actions.Load 3 0 ∷ actions.Destroy 1 2 ∷ actions.Load 1 2 ∷ actions.New 2 (codes "A") ∷ actions.New 5 (codes "Window") ∷ []) ∷
            members.Construct (actions.Load 3 1 ∷ actions.Load 4 2 ∷ actions.Invoke 3 (Reg 2) (Str (codes "take")) (Reg 0 ∷ Reg 3 ∷ Reg 1 ∷ []) ∷ actions.Destroy 3 2 ∷ []) ∷
            members.Method (Str (codes "m0")) (actions.Load 0 2 ∷ actions.Destroy 0 2 ∷ actions.New 4 (codes "A") ∷ actions.Put (Reg 1) (Str (codes "f1")) (Reg 0) ∷ []) ∷
            members.Setter (Str (codes "f0")) (actions.Load 2 0 ∷ actions.Load 3 1 ∷ actions.New 5 (codes "B") ∷ actions.New 2 (codes "Window") ∷ actions.New 1 (codes "B") ∷ actions.Note (Reg 2) ∷ actions.Load 0 3 ∷ []) ∷
            members.Method (Str (codes "m3")) (actions.Load 2 0 ∷ actions.SelfTo 2 ∷ actions.New 1 (codes "Window") ∷ actions.Put (Reg 2) (Str (codes "f0")) (Reg 2) ∷ []) ∷
            members.Method (Str (codes "m1")) (actions.SelfTo 2 ∷ actions.Load 2 0 ∷ actions.New 4 (codes "Window") ∷ actions.Destroy 0 2 ∷ actions.Destroy 0 2 ∷ []) ∷
            members.Default (actions.SelfTo 2 ∷ actions.Load 1 2 ∷ actions.Destroy 3 2 ∷ actions.Destroy 2 2 ∷ actions.Enumerate 1 (Reg 3) ∷ []) ∷
            members.Method (Str (codes "m2")) (actions.Load 3 1 ∷ actions.New 0 (codes "A") ∷ actions.New 2 (codes "B") ∷ actions.New 5 (codes "Window") ∷ actions.Load 0 1 ∷ actions.Throw (codes "no") ∷ actions.Slot 2 (Reg 0) ∷ []) ∷ []);
      }) ∷
      (record {
        name = codes "B";
        version = 2;
        stored = true;
        members = (
            members.Method (Str (codes "m0")) (actions.Load 2 0 ∷ actions.New 0 (codes "B") ∷ actions.Put (Reg 0) (Str (codes "f0")) (Reg 3) ∷ actions.New 2 (codes "B") ∷ actions.Slot 1 (Reg 0) ∷ actions.Drop 0 ∷ []) ∷
            members.Method (Str (codes "m1")) (actions.Load 3 1 ∷ actions.Load 2 2 ∷ actions.New 2 (codes "B") ∷ actions.New 5 (codes "Window") ∷ actions.New 3 (codes "B") ∷ actions.Invoke 0 (Reg 2) (IntKey (pos 4)) [] ∷ actions.Destroy 0 2 ∷ []) ∷
            members.Method (Str (codes "take")) (actions.Load 2 2 ∷ actions.New 5 (codes "Window") ∷ actions.Destroy 1 1 ∷ actions.SelfTo 2 ∷ actions.Load 3 1 ∷ actions.Invoke 1 (Reg 2) (Str (codes "none")) (Reg 0 ∷ Reg 0 ∷ Reg 3 ∷ []) ∷ actions.Drop 3 ∷ actions.Load 0 1 ∷ []) ∷
            members.Setter (Str (codes "f0")) (actions.Load 2 0 ∷ actions.Load 3 1 ∷ actions.OnTrue 1 ∷ actions.Add 0 (Reg 3) (Const (values.Text (codes "e"))) ∷ []) ∷
            members.Method (IntKey (pos 4)) (actions.SelfTo 2 ∷ actions.Load 2 0 ∷ actions.New 3 (codes "Window") ∷ actions.New 5 (codes "Window") ∷ actions.New 0 (codes "B") ∷ []) ∷
            members.Getter (IntKey (pos 7)) (actions.SelfTo 2 ∷ actions.Put (Const values.Void) (Str (codes "f1")) (Reg 8) ∷ actions.Destroy 2 1 ∷ actions.Drop 0 ∷ actions.New 4 (codes "B") ∷ actions.New 5 (codes "Window") ∷ actions.Put (Reg 4) (IntKey (pos 7)) (Reg 3) ∷ actions.Return (Reg 5) ∷ []) ∷
            members.Method (Str (codes "m3")) (actions.Load 1 2 ∷ actions.Load 2 0 ∷ actions.New 3 (codes "Window") ∷ actions.New 4 (codes "A") ∷ actions.New 5 (codes "A") ∷ actions.Get 0 (Reg 1) (Str (codes "f0")) ∷ []) ∷
            members.Construct (actions.Load 3 1 ∷ actions.New 2 (codes "B") ∷ actions.Slot 2 (Reg 3) ∷ actions.Invoke 2 (Reg 1) (Str (codes "take")) (Reg 4 ∷ Reg 1 ∷ Reg 1 ∷ []) ∷ actions.New 4 (codes "B") ∷ actions.New 5 (codes "Window") ∷ actions.New 3 (codes "A") ∷ actions.New 4 (codes "A") ∷ actions.Put (Reg 4) (Str (codes "f1")) (Reg 3) ∷ actions.New 5 (codes "B") ∷ actions.Put (Reg 4) (Str (codes "f0")) (Reg 5) ∷ actions.Drop 5 ∷ actions.Slot 0 (Reg 4) ∷ actions.Drop 4 ∷ []) ∷
            members.Method (Str (codes "m2")) (actions.Slot 1 (Reg 2) ∷ actions.Invoke 4 (Reg 2) (Str (codes "take")) (Const (values.Int (negsuc 2147483647)) ∷ Reg 2 ∷ []) ∷ actions.New 3 (codes "B") ∷ actions.New 1 (codes "Window") ∷ actions.Construct 0 (Reg 2) (Const (values.Double (0 ∷ 1 ∷ 2 ∷ 3 ∷ 4 ∷ 5 ∷ 6 ∷ 7 ∷ [])) ∷ Reg 0 ∷ Reg 1 ∷ []) ∷ actions.New 3 (codes "Window") ∷ []) ∷ []);
      }) ∷ []);
  resources = [];
  commands = (
      commands.Create (codes "t/x") 1 (codes "a" ∷ codes "1" ∷ []) ∷
      commands.Scriptable 0 1 ∷
      commands.Create (codes "t/x") 1 [] ∷
      commands.Scriptable 1 2 ∷
      commands.New 2 1 (codes "Window") ∷
      commands.New 3 2 (codes "A") ∷
      commands.Invoke 5 (Reg 3) (Str (codes "m0")) (Reg 0 ∷ Reg 1 ∷ Reg 2 ∷ []) ∷
      commands.Invoke 5 (Reg 0) (Str (codes "m3")) (Reg 0 ∷ Reg 3 ∷ Reg 2 ∷ []) ∷
      commands.Destroy 1 ∷
      commands.Invoke 2 (Reg 3) (IntKey (pos 4)) (Reg 0 ∷ Reg 3 ∷ []) ∷
      commands.Invoke 5 (Reg 3) (Str (codes "m2")) (Reg 5 ∷ Reg 3 ∷ Reg 1 ∷ []) ∷
      commands.Invoke 4 (Reg 2) (Str (codes "m1")) (Reg 0 ∷ Reg 15 ∷ []) ∷ []);
}

abbrev plugin : Plugin
plugin = record {
  major = 0;
  minor = 27;
  classes = (
      (record {
        name = codes "Main";
        version = 3;
        stored = true;
        members = (
            members.Getter (IntKey (pos 7)) (actions.SelfTo 2 ∷ actions.Invoke 2 (Reg 2) (Str (codes "take")) (Reg 3 ∷ []) ∷ actions.Remove (Reg 2) (Str (codes "7")) ∷ actions.Drop 2 ∷ actions.Invoke 0 (Const (values.Int (negsuc 2147483647))) (IntKey (pos 4)) (Reg 3 ∷ Reg 3 ∷ []) ∷ actions.Window 0 ∷ []) ∷
            members.Method (Str (codes "m1")) (actions.SelfTo 2 ∷ actions.New 0 (codes "Main") ∷ actions.Put (Reg 0) (Str (codes "7")) (Reg 2) ∷ actions.Get 2 (Reg 0) (Str (codes "7")) ∷ actions.Remove (Reg 0) (Str (codes "7")) ∷ []) ∷
            members.Method (Str (codes "m2")) (actions.Load 2 0 ∷ actions.Invoke 5 (Reg 1) (Str (codes "take")) (Const values.Void ∷ Reg 1 ∷ Const (values.Text (codes "r")) ∷ []) ∷ actions.Slot 2 (Reg 3) ∷ actions.New 3 (codes "T") ∷ actions.New 1 (codes "U") ∷ actions.Put (Reg 3) (Str (codes "f1")) (Reg 2) ∷ actions.Slot 0 (Reg 3) ∷ actions.Drop 3 ∷ []) ∷
            members.Method (Str (codes "m0")) (actions.SelfTo 2 ∷ actions.New 4 (codes "U") ∷ actions.New 4 (codes "U") ∷ actions.New 5 (codes "U") ∷ actions.New 3 (codes "T") ∷ actions.Put (Reg 4) (Str (codes "f1")) (Reg 5) ∷ actions.Drop 5 ∷ actions.Slot 1 (Reg 4) ∷ actions.Drop 4 ∷ []) ∷
            members.Construct (actions.Load 2 0 ∷ actions.Load 1 2 ∷ actions.New 4 (codes "U") ∷ actions.Load 0 0 ∷ actions.New 1 (codes "Main") ∷ actions.New 2 (codes "U") ∷ actions.Invoke 2 (Reg 3) (IntKey (pos 4)) (Reg 2 ∷ Reg 3 ∷ Reg 3 ∷ []) ∷ actions.Load 1 3 ∷ []) ∷
            members.Method (IntKey (pos 4)) (actions.Window 3 ∷ actions.Window 2 ∷ actions.Invoke 1 (Reg 2) (Str (codes "m1")) [] ∷ actions.Window 0 ∷ []) ∷
            members.Method (Str (codes "m3")) (actions.Load 3 1 ∷ actions.Window 2 ∷ actions.Invoke 2 (Reg 3) (Str (codes "take")) (Reg 3 ∷ Reg 0 ∷ Reg 3 ∷ []) ∷ actions.OnTrue 2 ∷ actions.Window 3 ∷ actions.Window 1 ∷ actions.Load 1 0 ∷ []) ∷ []);
      }) ∷
      (record {
        name = codes "T";
        version = 3;
        stored = false;
        members = (
            members.Construct (actions.SelfTo 2 ∷ actions.Load 3 1 ∷ actions.Load 14 1 ∷ actions.Window 0 ∷ actions.Load 2 1 ∷ actions.New 0 (codes "T") ∷ actions.Put (Reg 0) (Str (codes "f1")) (Reg 4) ∷ actions.Put (Reg 0) (Str (codes "f1")) (Reg 0) ∷ actions.Slot 1 (Reg 0) ∷ actions.Enumerate 4 (Reg 0) ∷ []) ∷
            members.Setter (IntKey (pos 7)) (actions.Load 5 2 ∷ actions.Load 2 0 ∷ actions.Slot 1 (Reg 5) ∷ actions.Slot 0 (Const (values.Text (codes "r"))) ∷ actions.Window 2 ∷ []) ∷
            members.Method (Str (codes "m2")) [] ∷
            members.Method (Str (codes "m0")) (actions.Load 3 1 ∷ actions.New 2 (codes "U") ∷ actions.Load 3 1 ∷ actions.New 1 (codes "Main") ∷ actions.New 3 (codes "U") ∷ actions.Window 0 ∷ actions.Invoke 3 (Reg 3) (Str (codes "take")) [] ∷ actions.CallDefault 2 (Reg 2) [] ∷ []) ∷
            members.Method (Str (codes "m3")) (actions.Load 0 2 ∷ actions.New 5 (codes "Main") ∷ actions.New 3 (codes "Main") ∷ actions.Invoke 0 (Reg 2) (IntKey (pos 4)) (Reg 2 ∷ Const (values.Int (pos 100)) ∷ []) ∷ actions.New 2 (codes "U") ∷ actions.Put (Reg 14) (Str (codes "f1")) (Const (values.Bool true)) ∷ actions.Invoke 2 (Reg 14) (IntKey (pos 4)) (Reg 2 ∷ Const (values.Int (pos 100)) ∷ Reg 2 ∷ []) ∷ actions.Invoke 2 (Reg 0) (Str (codes "take")) (Reg 2 ∷ Const (values.Text (195 ∷ 164 ∷ 34 ∷ 92 ∷ 1 ∷ 127 ∷ [])) ∷ []) ∷ []) ∷
            members.Method (Str (codes "m1")) (actions.Load 3 1 ∷ actions.Invoke 1 (Reg 1) (Str (codes "m2")) (Reg 1 ∷ Reg 2 ∷ Reg 2 ∷ []) ∷ actions.New 3 (codes "T") ∷ actions.New 4 (codes "Main") ∷ actions.Window 2 ∷ []) ∷
            members.Method (Str (codes "take")) (actions.OnTrue 1 ∷ actions.Load 3 2 ∷ actions.Add 0 (Reg 0) (Reg 2) ∷ actions.Slot 3 (Reg 0) ∷ actions.Load 0 2 ∷ []) ∷ []);
      }) ∷
      (record {
        name = codes "U";
        version = 2;
        stored = false;
        members = (
            members.Method (Str (codes "m1")) (actions.SelfTo 2 ∷ actions.New 4 (codes "T") ∷ actions.New 1 (codes "Main") ∷ actions.New 3 (codes "U") ∷ []) ∷
            members.Construct (actions.SelfTo 2 ∷ actions.Throw [] ∷ actions.New 4 (codes "T") ∷ actions.New 2 (codes "T") ∷ []) ∷
            members.Method (Str (codes "m0")) (actions.SelfTo 2 ∷ actions.New 2 (codes "Main") ∷ actions.SelfTo 2 ∷ actions.New 5 (codes "U") ∷ actions.Slot 2 (Reg 2) ∷ actions.Window 2 ∷ actions.Window 0 ∷ actions.Load 4 2 ∷ actions.Window 0 ∷ []) ∷
            members.Method (Str (codes "m3")) (actions.SelfTo 2 ∷ actions.New 2 (codes "Main") ∷ actions.New 4 (codes "Main") ∷ actions.Window 0 ∷ []) ∷
            members.Method (Str (codes "take")) (actions.Load 3 1 ∷ actions.SelfTo 2 ∷ actions.Window 0 ∷ actions.Window 2 ∷ []) ∷
            members.Method (IntKey (pos 4)) (actions.Load 0 3 ∷ []) ∷
            members.Method (Str (codes "m2")) (actions.Load 2 0 ∷ actions.Load 3 1 ∷ actions.Throw (codes "no") ∷ actions.Get 2 (Reg 2) (Str (codes "f0")) ∷ actions.Invoke 3 (Reg 5) (Str (codes "take")) (Reg 2 ∷ Reg 3 ∷ Reg 2 ∷ []) ∷ actions.SelfTo 2 ∷ []) ∷ []);
      }) ∷ []);
  handlers = (
      (record { which = handlers.New; body = (actions.New 0 (codes "Main") ∷ actions.Slot 0 (Reg 0) ∷ actions.Window 1 ∷ actions.Slot 1 (Reg 1) ∷ []) }) ∷
      (record { which = handlers.Scriptable; body = (actions.Load 0 0 ∷ actions.Return (Reg 0) ∷ []) }) ∷
      (record { which = handlers.Destroy; body = (actions.Load 10 2 ∷ actions.SelfTo 2 ∷ actions.New 3 (codes "Main") ∷ actions.Window 1 ∷ actions.Invoke 0 (Reg 2) (Str (codes "m2")) (Reg 1 ∷ []) ∷ actions.New 4 (codes "Main") ∷ actions.New 5 (codes "T") ∷ actions.Invoke 0 (Reg 0) (IntKey (pos 4)) (Reg 0 ∷ Reg 0 ∷ Reg 3 ∷ []) ∷ actions.Invoke 3 (Reg 1) (Str (codes "m1")) (Reg 0 ∷ Reg 0 ∷ Reg 3 ∷ Reg 2 ∷ Reg 1 ∷ Reg 0 ∷ Reg 1 ∷ Reg 0 ∷ []) ∷ actions.Window 2 ∷ []) }) ∷ []);
  tasks = [];
}

-- the run of both
both-end : outcome 1500 page plugin ≡ record {
  page = (
      Created (record { side = sides.Page; instance = 1; serial = 1 }) ∷
      CommandResult 1 (results.Code NoError) ∷
      CommandResult 2 (results.Yes (values.Object (record { side = sides.Plug; instance = 1; serial = 1 })) false) ∷
      Created (record { side = sides.Page; instance = 2; serial = 1 }) ∷
      CommandResult 3 (results.Code NoError) ∷
      CommandResult 4 (results.Yes (values.Object (record { side = sides.Plug; instance = 2; serial = 1 })) false) ∷
      Created (record { side = sides.Page; instance = 1; serial = 2 }) ∷
      CommandResult 5 (results.Yes (values.Object (record { side = sides.Page; instance = 1; serial = 2 })) false) ∷
      Created (record { side = sides.Page; instance = 2; serial = 2 }) ∷
      CommandResult 6 (results.Yes (values.Object (record { side = sides.Page; instance = 2; serial = 2 })) false) ∷
      Entered (record { side = sides.Page; instance = 2; serial = 2 }) (ops.Invoke (Str (codes "m0"))) ∷
      Entered (record { side = sides.Page; instance = 2; serial = 1 }) (ops.Invoke (Str (codes "m1"))) ∷
      Created (record { side = sides.Page; instance = 2; serial = 3 }) ∷
      Created (record { side = sides.Page; instance = 2; serial = 4 }) ∷
      Created (record { side = sides.Page; instance = 2; serial = 5 }) ∷
      Entered (record { side = sides.Page; instance = 2; serial = 3 }) (ops.Remove (Str (codes "7"))) ∷
      Deallocated (record { side = sides.Page; instance = 2; serial = 3 }) ∷
      Deallocated (record { side = sides.Page; instance = 2; serial = 4 }) ∷
      Deallocated (record { side = sides.Page; instance = 2; serial = 5 }) ∷
      ProxyGone (record { side = sides.Plug; instance = 2; serial = 1 }) ∷
      Invalidated (record { side = sides.Page; instance = 2; serial = 1 }) ∷
      Invalidated (record { side = sides.Page; instance = 2; serial = 2 }) ∷
      Deallocated (record { side = sides.Page; instance = 2; serial = 1 }) ∷
      Deallocated (record { side = sides.Page; instance = 2; serial = 2 }) ∷
      CommandResult 7 results.No ∷
      Entered (record { side = sides.Page; instance = 1; serial = 1 }) (ops.Invoke (Str (codes "take"))) ∷
      Entered (record { side = sides.Page; instance = 1; serial = 1 }) (ops.Invoke (Str (codes "m1"))) ∷
      Created (record { side = sides.Page; instance = 1; serial = 3 }) ∷
      Created (record { side = sides.Page; instance = 1; serial = 4 }) ∷
      Created (record { side = sides.Page; instance = 1; serial = 5 }) ∷
      Entered (record { side = sides.Page; instance = 1; serial = 3 }) (ops.Remove (Str (codes "7"))) ∷
      Deallocated (record { side = sides.Page; instance = 1; serial = 3 }) ∷
      Deallocated (record { side = sides.Page; instance = 1; serial = 4 }) ∷
      Deallocated (record { side = sides.Page; instance = 1; serial = 5 }) ∷
      ProxyGone (record { side = sides.Plug; instance = 1; serial = 1 }) ∷
      Invalidated (record { side = sides.Page; instance = 1; serial = 1 }) ∷
      Invalidated (record { side = sides.Page; instance = 1; serial = 2 }) ∷
      Deallocated (record { side = sides.Page; instance = 1; serial = 1 }) ∷
      Deallocated (record { side = sides.Page; instance = 1; serial = 2 }) ∷
      CommandResult 8 results.No ∷
      CommandResult 9 (results.Code InvalidInstance) ∷
      CommandResult 10 results.No ∷
      CommandResult 11 results.No ∷
      CommandResult 12 results.No ∷ []);
  plugin = (
      HandlerRun 1 handlers.New ∷
      Created (record { side = sides.Plug; instance = 1; serial = 1 }) ∷
      HandlerRun 1 handlers.Scriptable ∷
      HandlerRun 2 handlers.New ∷
      Created (record { side = sides.Plug; instance = 2; serial = 1 }) ∷
      HandlerRun 2 handlers.Scriptable ∷
      HandlerRun 2 handlers.Destroy ∷
      Created (record { side = sides.Plug; instance = 2; serial = 2 }) ∷
      Created (record { side = sides.Plug; instance = 2; serial = 3 }) ∷
      Created (record { side = sides.Plug; instance = 2; serial = 4 }) ∷
      Deallocated (record { side = sides.Plug; instance = 2; serial = 2 }) ∷
      Deallocated (record { side = sides.Plug; instance = 2; serial = 3 }) ∷
      Deallocated (record { side = sides.Plug; instance = 2; serial = 4 }) ∷
      ProxyGone (record { side = sides.Page; instance = 2; serial = 1 }) ∷
      Invalidated (record { side = sides.Plug; instance = 2; serial = 1 }) ∷
      Deallocated (record { side = sides.Plug; instance = 2; serial = 1 }) ∷
      Entered (record { side = sides.Plug; instance = 1; serial = 1 }) (ops.Invoke (Str (codes "m3"))) ∷
      HandlerRun 1 handlers.Destroy ∷
      Created (record { side = sides.Plug; instance = 1; serial = 2 }) ∷
      Created (record { side = sides.Plug; instance = 1; serial = 3 }) ∷
      Created (record { side = sides.Plug; instance = 1; serial = 4 }) ∷
      Deallocated (record { side = sides.Plug; instance = 1; serial = 2 }) ∷
      Deallocated (record { side = sides.Plug; instance = 1; serial = 3 }) ∷
      Deallocated (record { side = sides.Plug; instance = 1; serial = 4 }) ∷
      ProxyGone (record { side = sides.Page; instance = 1; serial = 1 }) ∷
      Invalidated (record { side = sides.Plug; instance = 1; serial = 1 }) ∷
      Deallocated (record { side = sides.Plug; instance = 1; serial = 1 }) ∷ []);
  files = [];
  rests = true;
}
unfolding encoding digits is_text is_utf8 chars encode_utf8
both-end = refl

-- all bytes that the page sends
page-sends : page_bytes 1500 page plugin ≡ (0 ∷ 0 ∷ 0 ∷ 7 ∷ 1 ∷ 1 ∷ 0 ∷ 0 ∷ 1 ∷ 0 ∷ 27 ∷ 0 ∷ 0 ∷ 0 ∷ 18 ∷ 2 ∷ 1 ∷ 0 ∷ 0 ∷ 1 ∷ 1 ∷ 0 ∷ 3 ∷ 116 ∷ 47 ∷ 120 ∷ 1 ∷ 0 ∷ 1 ∷ 97 ∷ 0 ∷ 1 ∷ 49 ∷ 0 ∷ 0 ∷ 0 ∷ 11 ∷ 65 ∷ 2 ∷ 0 ∷ 0 ∷ 6 ∷ 0 ∷ 1 ∷ 0 ∷ 0 ∷ 0 ∷ 1 ∷ 0 ∷ 0 ∷ 0 ∷ 5 ∷ 4 ∷ 1 ∷ 0 ∷ 0 ∷ 1 ∷ 0 ∷ 0 ∷ 0 ∷ 12 ∷ 2 ∷ 1 ∷ 0 ∷ 0 ∷ 2 ∷ 1 ∷ 0 ∷ 3 ∷ 116 ∷ 47 ∷ 120 ∷ 0 ∷ 0 ∷ 0 ∷ 0 ∷ 11 ∷ 65 ∷ 2 ∷ 0 ∷ 0 ∷ 6 ∷ 0 ∷ 2 ∷ 0 ∷ 0 ∷ 0 ∷ 1 ∷ 0 ∷ 0 ∷ 0 ∷ 5 ∷ 4 ∷ 1 ∷ 0 ∷ 0 ∷ 2 ∷ 0 ∷ 0 ∷ 0 ∷ 5 ∷ 3 ∷ 2 ∷ 0 ∷ 0 ∷ 2 ∷ 0 ∷ 0 ∷ 0 ∷ 11 ∷ 65 ∷ 3 ∷ 0 ∷ 0 ∷ 6 ∷ 0 ∷ 2 ∷ 0 ∷ 0 ∷ 0 ∷ 1 ∷ 0 ∷ 0 ∷ 0 ∷ 14 ∷ 65 ∷ 3 ∷ 0 ∷ 1 ∷ 2 ∷ 0 ∷ 0 ∷ 0 ∷ 2 ∷ 0 ∷ 0 ∷ 0 ∷ 1 ∷ 0 ∷ 0 ∷ 0 ∷ 0 ∷ 11 ∷ 65 ∷ 3 ∷ 0 ∷ 0 ∷ 6 ∷ 0 ∷ 2 ∷ 0 ∷ 0 ∷ 0 ∷ 1 ∷ 0 ∷ 0 ∷ 0 ∷ 37 ∷ 64 ∷ 1 ∷ 0 ∷ 0 ∷ 1 ∷ 0 ∷ 0 ∷ 0 ∷ 1 ∷ 1 ∷ 0 ∷ 0 ∷ 2 ∷ 109 ∷ 51 ∷ 3 ∷ 6 ∷ 1 ∷ 1 ∷ 0 ∷ 0 ∷ 0 ∷ 1 ∷ 6 ∷ 0 ∷ 2 ∷ 0 ∷ 0 ∷ 0 ∷ 2 ∷ 6 ∷ 0 ∷ 1 ∷ 0 ∷ 0 ∷ 0 ∷ 2 ∷ 0 ∷ 0 ∷ 0 ∷ 11 ∷ 65 ∷ 2 ∷ 0 ∷ 0 ∷ 6 ∷ 0 ∷ 1 ∷ 0 ∷ 0 ∷ 0 ∷ 1 ∷ 0 ∷ 0 ∷ 0 ∷ 5 ∷ 3 ∷ 3 ∷ 0 ∷ 0 ∷ 1 ∷ 0 ∷ 0 ∷ 0 ∷ 11 ∷ 65 ∷ 4 ∷ 0 ∷ 0 ∷ 6 ∷ 0 ∷ 1 ∷ 0 ∷ 0 ∷ 0 ∷ 1 ∷ 0 ∷ 0 ∷ 0 ∷ 14 ∷ 65 ∷ 4 ∷ 0 ∷ 1 ∷ 1 ∷ 0 ∷ 0 ∷ 0 ∷ 2 ∷ 0 ∷ 0 ∷ 0 ∷ 1 ∷ 0 ∷ 0 ∷ 0 ∷ 0 ∷ 11 ∷ 65 ∷ 4 ∷ 0 ∷ 0 ∷ 6 ∷ 0 ∷ 1 ∷ 0 ∷ 0 ∷ 0 ∷ 1 ∷ 0 ∷ 0 ∷ 0 ∷ 4 ∷ 66 ∷ 2 ∷ 0 ∷ 0 ∷ 0 ∷ 0 ∷ 0 ∷ 4 ∷ 12 ∷ 1 ∷ 0 ∷ 0 ∷ [])
unfolding encoding digits is_text is_utf8 chars encode_utf8
page-sends = refl

-- all bytes that the plugin sends
plugin-sends : plugin_bytes 1500 page plugin ≡ (0 ∷ 0 ∷ 0 ∷ 5 ∷ 69 ∷ 1 ∷ 0 ∷ 0 ∷ 0 ∷ 0 ∷ 0 ∷ 0 ∷ 5 ∷ 32 ∷ 2 ∷ 0 ∷ 0 ∷ 1 ∷ 0 ∷ 0 ∷ 0 ∷ 5 ∷ 69 ∷ 1 ∷ 0 ∷ 0 ∷ 0 ∷ 0 ∷ 0 ∷ 0 ∷ 11 ∷ 65 ∷ 1 ∷ 0 ∷ 0 ∷ 6 ∷ 1 ∷ 1 ∷ 0 ∷ 0 ∷ 0 ∷ 1 ∷ 0 ∷ 0 ∷ 0 ∷ 5 ∷ 32 ∷ 2 ∷ 0 ∷ 0 ∷ 2 ∷ 0 ∷ 0 ∷ 0 ∷ 5 ∷ 69 ∷ 1 ∷ 0 ∷ 0 ∷ 0 ∷ 0 ∷ 0 ∷ 0 ∷ 11 ∷ 65 ∷ 1 ∷ 0 ∷ 0 ∷ 6 ∷ 1 ∷ 2 ∷ 0 ∷ 0 ∷ 0 ∷ 1 ∷ 0 ∷ 0 ∷ 0 ∷ 5 ∷ 32 ∷ 3 ∷ 0 ∷ 0 ∷ 2 ∷ 0 ∷ 0 ∷ 0 ∷ 42 ∷ 64 ∷ 3 ∷ 0 ∷ 0 ∷ 2 ∷ 0 ∷ 0 ∷ 0 ∷ 1 ∷ 1 ∷ 0 ∷ 0 ∷ 2 ∷ 109 ∷ 49 ∷ 8 ∷ 0 ∷ 0 ∷ 6 ∷ 1 ∷ 2 ∷ 0 ∷ 0 ∷ 0 ∷ 2 ∷ 1 ∷ 6 ∷ 0 ∷ 2 ∷ 0 ∷ 0 ∷ 0 ∷ 1 ∷ 0 ∷ 6 ∷ 0 ∷ 2 ∷ 0 ∷ 0 ∷ 0 ∷ 1 ∷ 0 ∷ 0 ∷ 0 ∷ 0 ∷ 5 ∷ 32 ∷ 3 ∷ 0 ∷ 0 ∷ 2 ∷ 0 ∷ 0 ∷ 0 ∷ 5 ∷ 69 ∷ 2 ∷ 0 ∷ 0 ∷ 0 ∷ 0 ∷ 0 ∷ 0 ∷ 5 ∷ 32 ∷ 2 ∷ 0 ∷ 0 ∷ 1 ∷ 0 ∷ 0 ∷ 0 ∷ 48 ∷ 64 ∷ 2 ∷ 0 ∷ 1 ∷ 1 ∷ 0 ∷ 0 ∷ 0 ∷ 2 ∷ 0 ∷ 0 ∷ 0 ∷ 1 ∷ 1 ∷ 0 ∷ 0 ∷ 0 ∷ 1 ∷ 1 ∷ 0 ∷ 0 ∷ 4 ∷ 116 ∷ 97 ∷ 107 ∷ 101 ∷ 3 ∷ 6 ∷ 0 ∷ 1 ∷ 0 ∷ 0 ∷ 0 ∷ 1 ∷ 6 ∷ 1 ∷ 1 ∷ 0 ∷ 0 ∷ 0 ∷ 1 ∷ 6 ∷ 0 ∷ 1 ∷ 0 ∷ 0 ∷ 0 ∷ 1 ∷ 0 ∷ 0 ∷ 0 ∷ 5 ∷ 32 ∷ 4 ∷ 0 ∷ 0 ∷ 1 ∷ 0 ∷ 0 ∷ 0 ∷ 42 ∷ 64 ∷ 4 ∷ 0 ∷ 0 ∷ 1 ∷ 0 ∷ 0 ∷ 0 ∷ 1 ∷ 1 ∷ 0 ∷ 0 ∷ 2 ∷ 109 ∷ 49 ∷ 8 ∷ 0 ∷ 0 ∷ 6 ∷ 1 ∷ 1 ∷ 0 ∷ 0 ∷ 0 ∷ 2 ∷ 1 ∷ 6 ∷ 0 ∷ 1 ∷ 0 ∷ 0 ∷ 0 ∷ 1 ∷ 0 ∷ 6 ∷ 0 ∷ 1 ∷ 0 ∷ 0 ∷ 0 ∷ 1 ∷ 0 ∷ 0 ∷ 0 ∷ 0 ∷ 5 ∷ 32 ∷ 4 ∷ 0 ∷ 0 ∷ 1 ∷ 0 ∷ 0 ∷ 0 ∷ 5 ∷ 69 ∷ 3 ∷ 0 ∷ 0 ∷ 0 ∷ 0 ∷ 0 ∷ 0 ∷ 4 ∷ 66 ∷ 1 ∷ 0 ∷ 0 ∷ 0 ∷ 0 ∷ 0 ∷ 4 ∷ 71 ∷ 1 ∷ 0 ∷ 0 ∷ [])
unfolding encoding digits is_text is_utf8 chars encode_utf8
plugin-sends = refl

-- the plug-in's first 228 bytes hold 14 whole messages
cut-228 : lost_outcome 1500 (Some 14) page plugin ≡ record {
  page = (
      Created (record { side = sides.Page; instance = 1; serial = 1 }) ∷
      CommandResult 1 (results.Code NoError) ∷
      CommandResult 2 (results.Yes (values.Object (record { side = sides.Plug; instance = 1; serial = 1 })) false) ∷
      Created (record { side = sides.Page; instance = 2; serial = 1 }) ∷
      CommandResult 3 (results.Code NoError) ∷
      CommandResult 4 (results.Yes (values.Object (record { side = sides.Plug; instance = 2; serial = 1 })) false) ∷
      Created (record { side = sides.Page; instance = 1; serial = 2 }) ∷
      CommandResult 5 (results.Yes (values.Object (record { side = sides.Page; instance = 1; serial = 2 })) false) ∷
      Created (record { side = sides.Page; instance = 2; serial = 2 }) ∷
      CommandResult 6 (results.Yes (values.Object (record { side = sides.Page; instance = 2; serial = 2 })) false) ∷
      Entered (record { side = sides.Page; instance = 2; serial = 2 }) (ops.Invoke (Str (codes "m0"))) ∷
      Entered (record { side = sides.Page; instance = 2; serial = 1 }) (ops.Invoke (Str (codes "m1"))) ∷
      Created (record { side = sides.Page; instance = 2; serial = 3 }) ∷
      Created (record { side = sides.Page; instance = 2; serial = 4 }) ∷
      Created (record { side = sides.Page; instance = 2; serial = 5 }) ∷
      Entered (record { side = sides.Page; instance = 2; serial = 3 }) (ops.Remove (Str (codes "7"))) ∷
      Deallocated (record { side = sides.Page; instance = 2; serial = 3 }) ∷
      Deallocated (record { side = sides.Page; instance = 2; serial = 4 }) ∷
      Deallocated (record { side = sides.Page; instance = 2; serial = 5 }) ∷
      ProxyGone (record { side = sides.Plug; instance = 2; serial = 1 }) ∷
      Invalidated (record { side = sides.Page; instance = 2; serial = 1 }) ∷
      Invalidated (record { side = sides.Page; instance = 2; serial = 2 }) ∷
      Deallocated (record { side = sides.Page; instance = 2; serial = 1 }) ∷
      Deallocated (record { side = sides.Page; instance = 2; serial = 2 }) ∷
      CommandResult 7 results.No ∷
      Entered (record { side = sides.Page; instance = 1; serial = 1 }) (ops.Invoke (Str (codes "take"))) ∷
      ProxyGone (record { side = sides.Plug; instance = 1; serial = 1 }) ∷
      Invalidated (record { side = sides.Page; instance = 1; serial = 1 }) ∷
      Invalidated (record { side = sides.Page; instance = 1; serial = 2 }) ∷
      Deallocated (record { side = sides.Page; instance = 1; serial = 1 }) ∷
      Deallocated (record { side = sides.Page; instance = 1; serial = 2 }) ∷
      CommandResult 8 results.No ∷
      CommandResult 9 (results.Code InvalidInstance) ∷
      CommandResult 10 results.No ∷
      CommandResult 11 results.No ∷
      CommandResult 12 results.No ∷ []);
  rests = true;
}
unfolding encoding digits is_text is_utf8 chars encode_utf8
cut-228 = refl

-- the plug-in's first 263 bytes hold 14 whole messages
cut-263 : lost_outcome 1500 (Some 14) page plugin ≡ record {
  page = (
      Created (record { side = sides.Page; instance = 1; serial = 1 }) ∷
      CommandResult 1 (results.Code NoError) ∷
      CommandResult 2 (results.Yes (values.Object (record { side = sides.Plug; instance = 1; serial = 1 })) false) ∷
      Created (record { side = sides.Page; instance = 2; serial = 1 }) ∷
      CommandResult 3 (results.Code NoError) ∷
      CommandResult 4 (results.Yes (values.Object (record { side = sides.Plug; instance = 2; serial = 1 })) false) ∷
      Created (record { side = sides.Page; instance = 1; serial = 2 }) ∷
      CommandResult 5 (results.Yes (values.Object (record { side = sides.Page; instance = 1; serial = 2 })) false) ∷
      Created (record { side = sides.Page; instance = 2; serial = 2 }) ∷
      CommandResult 6 (results.Yes (values.Object (record { side = sides.Page; instance = 2; serial = 2 })) false) ∷
      Entered (record { side = sides.Page; instance = 2; serial = 2 }) (ops.Invoke (Str (codes "m0"))) ∷
      Entered (record { side = sides.Page; instance = 2; serial = 1 }) (ops.Invoke (Str (codes "m1"))) ∷
      Created (record { side = sides.Page; instance = 2; serial = 3 }) ∷
      Created (record { side = sides.Page; instance = 2; serial = 4 }) ∷
      Created (record { side = sides.Page; instance = 2; serial = 5 }) ∷
      Entered (record { side = sides.Page; instance = 2; serial = 3 }) (ops.Remove (Str (codes "7"))) ∷
      Deallocated (record { side = sides.Page; instance = 2; serial = 3 }) ∷
      Deallocated (record { side = sides.Page; instance = 2; serial = 4 }) ∷
      Deallocated (record { side = sides.Page; instance = 2; serial = 5 }) ∷
      ProxyGone (record { side = sides.Plug; instance = 2; serial = 1 }) ∷
      Invalidated (record { side = sides.Page; instance = 2; serial = 1 }) ∷
      Invalidated (record { side = sides.Page; instance = 2; serial = 2 }) ∷
      Deallocated (record { side = sides.Page; instance = 2; serial = 1 }) ∷
      Deallocated (record { side = sides.Page; instance = 2; serial = 2 }) ∷
      CommandResult 7 results.No ∷
      Entered (record { side = sides.Page; instance = 1; serial = 1 }) (ops.Invoke (Str (codes "take"))) ∷
      ProxyGone (record { side = sides.Plug; instance = 1; serial = 1 }) ∷
      Invalidated (record { side = sides.Page; instance = 1; serial = 1 }) ∷
      Invalidated (record { side = sides.Page; instance = 1; serial = 2 }) ∷
      Deallocated (record { side = sides.Page; instance = 1; serial = 1 }) ∷
      Deallocated (record { side = sides.Page; instance = 1; serial = 2 }) ∷
      CommandResult 8 results.No ∷
      CommandResult 9 (results.Code InvalidInstance) ∷
      CommandResult 10 results.No ∷
      CommandResult 11 results.No ∷
      CommandResult 12 results.No ∷ []);
  rests = true;
}
unfolding encoding digits is_text is_utf8 chars encode_utf8
cut-263 = refl
