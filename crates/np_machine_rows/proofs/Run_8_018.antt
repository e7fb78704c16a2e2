-- Made by tools/vector-theorems of tests/vectors/8-018.
use Rattle.std.proofs.Common.{◌≡◌, pos, [], ◌∷◌, refl, true, false, Some, None}
use Rattle.std.specs.Prelude.{codes}
use Rattle.std.specs.Char.{encode_utf8}
use Rattle.std.specs.Fmt.{digits}
use Rattle.std.specs.Str.{is_utf8, chars}
use Rattle.np_values.specs.declared.error.NpError.TheVariants.{NoError, InvalidInstance}
use Rattle.np_values.specs.declared.handler.Handler.TheVariants as handlers
use Rattle.np_values.specs.declared.name.Side.TheVariants as sides
use Rattle.np_values.specs.declared.value.Value.TheVariants as values
use Rattle.np_values.specs.Text.{is_text}
use Rattle.np_idents.specs.declared.key.IdKey.TheVariants.{Str, Int as IntKey}
use Rattle.np_idents.specs.declared.op.Op.TheVariants as ops
use Rattle.np_script_grammar.specs.declared.action.Action.TheVariants as actions
use Rattle.np_script_grammar.specs.declared.action.Operand.TheVariants.{Reg, Const}
use Rattle.np_script_grammar.specs.declared.class.Member.TheVariants as members
use Rattle.np_script_grammar.specs.declared.command.Command.TheVariants as commands
use Rattle.np_script_grammar.specs.declared.page.Page.{Page}
use Rattle.np_script_grammar.specs.declared.plugin.Plugin.{Plugin}
use Rattle.np_message.specs.Encoding.{encoding}
use Rattle.np_journal.specs.declared.line.Line.TheVariants.{Created, Entered, HandlerRun, ProxyGone, Invalidated, Deallocated, Noted, CommandResult}
use Rattle.np_journal.specs.declared.printed.Printed.TheVariants as results
use Rattle.np_machine_plans.specs.Outcomes.{outcome, page_bytes, plugin_bytes, lost_outcome}

abbrev page : Page
page = record {
  major = 0;
  minor = 27;
  classes = (
      (record {
        name = codes "Window";
        version = 3;
        stored = true;
        members = (
            members.Method (Str (codes "m3")) (actions.Load 2 0 ∷ actions.Invoke 1 (Const (values.Int (pos 13))) (Str (codes "take")) (Reg 3 ∷ Reg 0 ∷ Reg 0 ∷ []) ∷ []) ∷
            members.Method (Str (codes "take")) (actions.SelfTo 2 ∷ actions.Invoke 1 (Reg 3) (Str (codes "none")) (Reg 2 ∷ Reg 0 ∷ []) ∷ actions.New 2 (codes "B") ∷ actions.Slot 2 (Reg 2) ∷ []) ∷
            members.Method (Str (codes "m1")) (actions.Load 2 0 ∷ actions.Load 3 2 ∷ actions.New 1 (codes "Window") ∷ []) ∷
            members.Method (Str (codes "m2")) (actions.SelfTo 2 ∷ actions.New 2 (codes "B") ∷ actions.New 1 (codes "A") ∷ actions.Load 2 0 ∷ actions.Put (Reg 3) (Str (codes "7")) (Reg 2) ∷ actions.Load 0 3 ∷ []) ∷
            members.Method (Str (codes "m0")) (actions.Load 2 0 ∷ actions.Put (Reg 1) (Str (codes "f0")) (Reg 2) ∷ actions.Load 1 3 ∷ actions.Load 3 2 ∷ actions.New 2 (codes "A") ∷ actions.Construct 1 (Reg 2) (Reg 1 ∷ Reg 2 ∷ Const (values.Int (pos 13)) ∷ []) ∷ actions.Load 2 1 ∷ actions.Load 3 0 ∷ []) ∷
            members.Construct (actions.Load 2 0 ∷ actions.SelfTo 2 ∷ actions.Load 3 2 ∷ actions.Get 0 (Reg 2) (Str (codes "f0")) ∷ actions.Enumerate 1 (Reg 3) ∷ actions.Load 3 1 ∷ actions.Get 0 (Reg 3) (Str (codes "f0")) ∷ actions.Put (Reg 3) (Str (codes "f0")) (Reg 3) ∷ []) ∷
            members.Method (IntKey (pos 4)) (actions.Load 2 0 ∷ actions.New 3 (codes "B") ∷ actions.Invoke 2 (Reg 2) (Str (codes "take")) (Reg 2 ∷ Reg 3 ∷ Reg 0 ∷ []) ∷ []) ∷ []);
      }) ∷
      (record {
        name = codes "A";
        version = 3;
        stored = true;
        members = (
            members.Method (IntKey (pos 4)) (actions.Load 3 1 ∷ actions.Load 2 0 ∷ actions.Invoke 2 (Reg 0) (Str (codes "take")) (Reg 0 ∷ Const (values.Int (pos 13)) ∷ Reg 3 ∷ []) ∷ actions.New 1 (codes "None") ∷ actions.OnEq (Reg 2) (Reg 0) 1 ∷ actions.OnTrue 1 ∷ actions.Get 3 (Reg 3) (Str (codes "f0")) ∷ actions.Put (Reg 0) (Str (codes "f1")) (Reg 9) ∷ actions.Drop 2 ∷ []) ∷
            members.Method (Str (codes "m3")) (actions.Load 2 0 ∷ actions.Load 2 2 ∷ actions.Slot 3 (Reg 1) ∷ []) ∷
            members.Method (Str (codes "take")) (actions.Load 2 0 ∷ actions.New 3 (codes "A") ∷ []) ∷
            members.Method (Str (codes "m2")) (actions.Load 3 1 ∷ actions.New 3 (codes "Window") ∷ actions.SelfTo 1 ∷ actions.SelfTo 0 ∷ []) ∷
            members.Method (Str (codes "m1")) (actions.SelfTo 2 ∷ actions.Slot 2 (Reg 2) ∷ actions.New 0 (codes "B") ∷ actions.Put (Reg 0) (Str (codes "f0")) (Reg 2) ∷ actions.Return (Reg 0) ∷ actions.Invoke 3 (Reg 2) (Str (codes "m3")) (Const (values.Bool false) ∷ []) ∷ []) ∷
            members.Default (actions.Load 0 2 ∷ actions.SelfTo 2 ∷ actions.Set 2 (Reg 3) ∷ actions.SelfTo 0 ∷ []) ∷ []);
      }) ∷
      (record {
        name = codes "B";
        version = 1;
        stored = true;
        members = (
            members.Method (Str (codes "m2")) (actions.Load 2 0 ∷ actions.Load 3 2 ∷ actions.Load 0 1 ∷ actions.Invoke 0 (Reg 1) (Str (codes "take")) (Reg 1 ∷ Const values.Null ∷ Reg 2 ∷ []) ∷ actions.Enumerate 1 (Reg 0) ∷ actions.Drop 2 ∷ []) ∷
            members.Default (actions.Load 3 1 ∷ actions.SelfTo 2 ∷ actions.New 1 (codes "B") ∷ actions.Put (Reg 1) (Str (codes "f0")) (Reg 3) ∷ actions.Slot 2 (Reg 1) ∷ actions.Drop 1 ∷ actions.Get 3 (Reg 1) (Str (codes "f0")) ∷ actions.Put (Reg 3) (Str (codes "f1")) (Reg 0) ∷ actions.Load 0 3 ∷ []) ∷
            members.Method (Str (codes "m1")) (actions.New 5 (codes "Window") ∷ actions.New 4 (codes "Window") ∷ actions.New 5 (codes "Window") ∷ actions.Put (Reg 4) (Str (codes "f1")) (Reg 5) ∷ actions.New 5 (codes "A") ∷ actions.New 3 (codes "B") ∷ actions.Put (Reg 4) (Str (codes "f0")) (Reg 5) ∷ actions.New 5 (codes "A") ∷ actions.Put (Reg 4) (IntKey (pos 7)) (Reg 5) ∷ actions.Drop 5 ∷ actions.Slot 2 (Reg 4) ∷ actions.Drop 4 ∷ []) ∷
            members.Method (IntKey (pos 4)) (actions.SelfTo 2 ∷ actions.Load 0 2 ∷ actions.Load 0 1 ∷ actions.Enumerate 3 (Reg 0) ∷ actions.Slot 2 (Reg 1) ∷ actions.Load 1 2 ∷ actions.Construct 0 (Reg 3) (Reg 2 ∷ Reg 3 ∷ Reg 3 ∷ []) ∷ actions.OnTrue 3 ∷ []) ∷
            members.Method (Str (codes "m3")) (actions.SelfTo 2 ∷ actions.Load 2 0 ∷ actions.New 4 (codes "B") ∷ actions.Put (Reg 4) (Str (codes "f0")) (Reg 3) ∷ actions.Return (Reg 4) ∷ []) ∷
            members.Method (Str (codes "take")) (actions.Load 3 1 ∷ actions.Load 2 0 ∷ actions.New 3 (codes "A") ∷ actions.New 4 (codes "B") ∷ actions.New 3 (codes "A") ∷ actions.New 5 (codes "Window") ∷ actions.Set 1 (Reg 6) ∷ []) ∷
            members.Method (Str (codes "m0")) (actions.Load 2 0 ∷ actions.Load 3 1 ∷ actions.Slot 0 (Reg 1) ∷ actions.Drop 2 ∷ actions.Construct 1 (Reg 1) (Reg 0 ∷ Reg 3 ∷ []) ∷ actions.Put (Reg 0) (Str (codes "f0")) (Const values.Void) ∷ actions.Load 0 2 ∷ actions.Get 3 (Reg 0) (Str (codes "f0")) ∷ actions.Put (Reg 0) (Str (codes "f0")) (Reg 2) ∷ []) ∷ []);
      }) ∷ []);
  resources = [];
  commands = (
      commands.Create (codes "t/x") 1 (codes "a" ∷ codes "1" ∷ codes "a" ∷ codes "1" ∷ codes "a" ∷ codes "1" ∷ []) ∷
      commands.Scriptable 0 1 ∷
      commands.Create (codes "t/x") 1 [] ∷
      commands.Scriptable 1 2 ∷
      commands.New 2 1 (codes "Window") ∷
      commands.New 3 2 (codes "Window") ∷
      commands.Invoke 5 (Reg 1) (Str (codes "m2")) (Reg 0 ∷ Reg 3 ∷ Reg 2 ∷ []) ∷
      commands.Invoke 5 (Reg 0) (Str (codes "m1")) (Reg 2 ∷ Reg 0 ∷ Reg 3 ∷ []) ∷
      commands.Invoke 4 (Reg 0) (Str (codes "m0")) (Reg 0 ∷ Reg 1 ∷ Reg 1 ∷ []) ∷
      commands.Invoke 4 (Reg 3) (Str (codes "m0")) [] ∷
      commands.Invoke 4 (Reg 2) (Str (codes "m1")) [] ∷
      commands.Construct 0 (Reg 3) (Reg 1 ∷ Reg 1 ∷ Reg 0 ∷ []) ∷
      commands.Invoke 5 (Reg 4) (Str (codes "m0")) (Reg 5 ∷ Reg 4 ∷ Reg 2 ∷ []) ∷
      commands.Invoke 4 (Reg 2) (Str (codes "m2")) [] ∷
      commands.Invoke 4 (Reg 2) (Str (codes "m1")) (Reg 2 ∷ []) ∷
      commands.Invoke 4 (Reg 0) (Str (codes "m1")) (Reg 2 ∷ Reg 2 ∷ Reg 2 ∷ []) ∷
      commands.Note (Reg 3) ∷
      commands.Turn ∷
      commands.Invoke 4 (Reg 1) (Str (codes "m2")) (Reg 3 ∷ Reg 4 ∷ Reg 0 ∷ []) ∷
      commands.Invoke 5 (Reg 1) (Str (codes "take")) (Reg 5 ∷ Reg 4 ∷ Reg 0 ∷ []) ∷
      commands.Invoke 4 (Reg 1) (Str (codes "m2")) (Reg 5 ∷ Reg 0 ∷ Reg 3 ∷ []) ∷
      commands.New 4 2 (codes "Window") ∷
      commands.Invoke 4 (Reg 1) (Str (codes "m1")) [] ∷
      commands.Invoke 5 (Reg 0) (Str (codes "m2")) (Reg 4 ∷ []) ∷
      commands.Invoke 4 (Reg 1) (Str (codes "m1")) [] ∷
      commands.Invoke 5 (Reg 0) (Str (codes "m2")) (Reg 4 ∷ []) ∷
      commands.Drop 4 ∷
      commands.Destroy 1 ∷
      commands.Invoke 5 (Reg 4) (Str (codes "m1")) [] ∷
      commands.Invoke 5 (Reg 0) (Str (codes "m0")) (Reg 5 ∷ Reg 0 ∷ []) ∷
      commands.Invoke 5 (Reg 1) (Str (codes "m3")) (Const (values.Int (pos 13)) ∷ Reg 10 ∷ []) ∷
      commands.Invoke 5 (Reg 0) (Str (codes "m0")) (Reg 1 ∷ Reg 2 ∷ Reg 3 ∷ []) ∷
      commands.Turn ∷
      commands.Invoke 5 (Reg 2) (Str (codes "m1")) (Reg 3 ∷ Reg 3 ∷ Reg 3 ∷ []) ∷
      commands.Turn ∷
      commands.Construct 0 (Reg 2) (Reg 0 ∷ Reg 0 ∷ []) ∷
      commands.Invoke 5 (Reg 2) (Str (codes "m1")) (Reg 5 ∷ Reg 3 ∷ Reg 2 ∷ []) ∷
      commands.Invoke 3 (Reg 1) (Str (codes "m1")) (Reg 3 ∷ Reg 0 ∷ []) ∷
      commands.Invoke 1 (Reg 1) (Str (codes "m0")) (Reg 3 ∷ Reg 5 ∷ Reg 4 ∷ []) ∷
      commands.Get 1 (Reg 2) (Str (codes "f1")) ∷
      commands.Invoke 4 (Reg 1) (IntKey (pos 4)) (Reg 0 ∷ Reg 5 ∷ Reg 3 ∷ []) ∷
      commands.Invoke 5 (Reg 3) (Str (codes "take")) (Reg 1 ∷ Const (values.Text []) ∷ []) ∷
      commands.Invoke 4 (Reg 4) (Str (codes "m0")) (Reg 3 ∷ Reg 5 ∷ Reg 0 ∷ []) ∷
      commands.Set 2 (Reg 3) ∷
      commands.Drop 0 ∷
      commands.CallDefault 0 (Reg 0) (Reg 0 ∷ []) ∷
      commands.Drop 1 ∷
      commands.Invoke 4 (Reg 0) (Str (codes "m2")) (Reg 1 ∷ Reg 3 ∷ []) ∷
      commands.Invoke 1 (Reg 0) (Str (codes "m0")) (Reg 4 ∷ Reg 1 ∷ Reg 0 ∷ []) ∷ []);
}

abbrev plugin : Plugin
plugin = record {
  major = 0;
  minor = 27;
  classes = (
      (record {
        name = codes "Main";
        version = 2;
        stored = true;
        members = (
            members.Method (IntKey (pos 4)) (actions.Slot 2 (Reg 3) ∷ actions.Load 0 0 ∷ actions.New 2 (codes "T") ∷ actions.Put (Reg 2) (Str (codes "f0")) (Reg 1) ∷ actions.Slot 1 (Reg 2) ∷ actions.Drop 2 ∷ []) ∷
            members.Method (Str (codes "take")) (actions.Load 3 2 ∷ actions.Invoke 1 (Reg 3) (Str (codes "none")) [] ∷ []) ∷
            members.Method (Str (codes "m0")) (actions.Load 4 2 ∷ actions.New 1 (codes "U") ∷ actions.New 3 (codes "T") ∷ actions.New 5 (codes "U") ∷ actions.Note (Reg 1) ∷ actions.Invoke 2 (Const (values.Int (pos 100))) (IntKey (pos 4)) (Reg 0 ∷ Reg 0 ∷ Const (values.Bool true) ∷ Reg 12 ∷ Reg 1 ∷ Reg 1 ∷ Const (values.Text (codes "r")) ∷ Reg 0 ∷ []) ∷ actions.Load 11 0 ∷ actions.Load 3 3 ∷ []) ∷
            members.Method (Str (codes "m3")) (actions.Slot 3 (Reg 3) ∷ actions.Get 0 (Reg 11) (Str (codes "f0")) ∷ actions.Add 3 (Reg 3) (Const (values.Int (pos 14))) ∷ actions.New 4 (codes "U") ∷ actions.New 5 (codes "U") ∷ actions.Put (Reg 4) (Str (codes "f1")) (Reg 5) ∷ actions.New 5 (codes "T") ∷ actions.Put (Reg 4) (Str (codes "f0")) (Reg 5) ∷ actions.Drop 5 ∷ actions.Slot 3 (Reg 4) ∷ actions.Drop 4 ∷ []) ∷
            members.Method (Str (codes "m2")) (actions.Load 2 0 ∷ actions.Load 3 1 ∷ actions.Window 0 ∷ actions.New 4 (codes "U") ∷ actions.New 5 (codes "T") ∷ actions.New 2 (codes "T") ∷ actions.Put (Reg 4) (Str (codes "f0")) (Reg 5) ∷ actions.Put (Reg 4) (Str (codes "f1")) (Reg 5) ∷ actions.Put (Reg 4) (IntKey (pos 7)) (Reg 5) ∷ actions.Drop 5 ∷ []) ∷
            members.Method (Str (codes "m1")) (actions.Load 3 2 ∷ actions.New 1 (codes "T") ∷ actions.Put (Reg 1) (Str (codes "f0")) (Reg 2) ∷ actions.Return (Reg 1) ∷ []) ∷ []);
      }) ∷
      (record {
        name = codes "T";
        version = 3;
        stored = true;
        members = (
            members.Method (Str (codes "m2")) (actions.Invoke 3 (Reg 4) (Str (codes "m3")) (Const values.Null ∷ Reg 0 ∷ []) ∷ actions.New 2 (codes "T") ∷ []) ∷
            members.Construct (actions.SelfTo 1 ∷ actions.Window 3 ∷ actions.Window 3 ∷ []) ∷
            members.Method (Str (codes "m3")) (actions.Load 2 0 ∷ actions.Load 3 2 ∷ actions.New 1 (codes "U") ∷ actions.Invoke 3 (Reg 3) (Str (codes "take")) [] ∷ actions.Invoke 0 (Reg 3) (Str (codes "take")) (Reg 3 ∷ Reg 2 ∷ []) ∷ actions.Throw (codes "no") ∷ actions.SelfTo 0 ∷ actions.Note (Reg 2) ∷ actions.Load 3 3 ∷ []) ∷
            members.Method (Str (codes "m1")) (actions.Load 2 0 ∷ actions.Note (Reg 2) ∷ actions.Invoke 4 (Reg 0) (Str (codes "m2")) (Reg 2 ∷ Reg 2 ∷ Reg 5 ∷ []) ∷ actions.New 4 (codes "T") ∷ actions.New 5 (codes "T") ∷ actions.Put (Reg 4) (IntKey (pos 7)) (Reg 1) ∷ actions.New 5 (codes "U") ∷ actions.Put (Reg 4) (Str (codes "f1")) (Reg 5) ∷ actions.New 5 (codes "T") ∷ actions.Put (Reg 4) (Str (codes "f0")) (Reg 5) ∷ actions.Slot 0 (Reg 4) ∷ actions.Drop 4 ∷ []) ∷
            members.Method (Str (codes "m0")) (actions.New 1 (codes "U") ∷ actions.Put (Reg 1) (Str (codes "f0")) (Reg 3) ∷ actions.Put (Reg 1) (Str (codes "f1")) (Reg 1) ∷ actions.Slot 2 (Reg 1) ∷ actions.Enumerate 3 (Reg 1) ∷ []) ∷
            members.Method (IntKey (pos 4)) (actions.Load 1 2 ∷ actions.Load 2 0 ∷ actions.New 4 (codes "Main") ∷ actions.New 3 (codes "T") ∷ []) ∷ []);
      }) ∷
      (record {
        name = codes "U";
        version = 3;
        stored = false;
        members = (
            members.Method (Str (codes "m1")) (actions.Window 0 ∷ actions.New 3 (codes "Main") ∷ actions.Invoke 0 (Reg 0) (IntKey (pos 4)) (Reg 3 ∷ Const (values.Int (pos 2147483647)) ∷ Const (values.Int (pos 100)) ∷ []) ∷ actions.Slot 3 (Const (values.Bool false)) ∷ []) ∷
            members.Setter (Str (codes "f1")) (actions.SelfTo 2 ∷ actions.Put (Reg 2) (Str (codes "7")) (Reg 3) ∷ actions.Invoke 0 (Reg 3) (Str (codes "take")) [] ∷ actions.Invoke 2 (Reg 0) (Str (codes "take")) (Reg 0 ∷ []) ∷ actions.Return (Reg 3) ∷ actions.Drop 4 ∷ actions.Slot 2 (Reg 2) ∷ []) ∷
            members.Default [] ∷
            members.Construct (actions.Load 10 2 ∷ actions.Load 2 0 ∷ actions.OnEq (Reg 8) (Const values.Null) 1 ∷ actions.New 1 (codes "T") ∷ actions.Load 0 2 ∷ actions.OnTrue 2 ∷ []) ∷
            members.Method (Str (codes "take")) (actions.Load 2 2 ∷ actions.Load 3 1 ∷ actions.New 2 (codes "T") ∷ actions.New 5 (codes "U") ∷ actions.Slot 3 (Const (values.Bool false)) ∷ actions.Slot 3 (Reg 0) ∷ []) ∷
            members.Method (Str (codes "m2")) (actions.Load 2 0 ∷ actions.SelfTo 2 ∷ actions.Put (Reg 1) (Str (codes "f0")) (Reg 1) ∷ actions.Window 3 ∷ actions.New 1 (codes "Main") ∷ []) ∷
            members.Method (Str (codes "m3")) [] ∷
            members.Method (IntKey (pos 4)) (actions.Load 3 1 ∷ actions.Load 2 0 ∷ actions.Slot 2 (Reg 9) ∷ actions.Get 3 (Reg 3) (IntKey (pos 7)) ∷ []) ∷ []);
      }) ∷ []);
  handlers = (
      (record { which = handlers.New; body = (actions.New 0 (codes "Main") ∷ actions.Slot 0 (Reg 0) ∷ actions.Window 1 ∷ actions.Slot 1 (Reg 1) ∷ []) }) ∷
      (record { which = handlers.Scriptable; body = (actions.Load 0 0 ∷ actions.Return (Reg 0) ∷ []) }) ∷ []);
  tasks = [];
}

-- the run of both
both-end : outcome 1500 page plugin ≡ record {
  page = (
      Created (record { side = sides.Page; instance = 1; serial = 1 }) ∷
      CommandResult 1 (results.Code NoError) ∷
      CommandResult 2 (results.Yes (values.Object (record { side = sides.Plug; instance = 1; serial = 1 })) false) ∷
      Created (record { side = sides.Page; instance = 2; serial = 1 }) ∷
      CommandResult 3 (results.Code NoError) ∷
      CommandResult 4 (results.Yes (values.Object (record { side = sides.Plug; instance = 2; serial = 1 })) false) ∷
      Created (record { side = sides.Page; instance = 1; serial = 2 }) ∷
      CommandResult 5 (results.Yes (values.Object (record { side = sides.Page; instance = 1; serial = 2 })) false) ∷
      Created (record { side = sides.Page; instance = 2; serial = 2 }) ∷
      CommandResult 6 (results.Yes (values.Object (record { side = sides.Page; instance = 2; serial = 2 })) false) ∷
      CommandResult 7 (results.Yes values.Void false) ∷
      CommandResult 8 (results.Yes (values.Object (record { side = sides.Plug; instance = 1; serial = 2 })) false) ∷
      CommandResult 9 (results.Yes values.Void false) ∷
      Entered (record { side = sides.Page; instance = 2; serial = 2 }) (ops.Invoke (Str (codes "m0"))) ∷
      Created (record { side = sides.Page; instance = 2; serial = 3 }) ∷
      Deallocated (record { side = sides.Page; instance = 2; serial = 3 }) ∷
      CommandResult 10 (results.Yes values.Void false) ∷
      Entered (record { side = sides.Page; instance = 1; serial = 2 }) (ops.Invoke (Str (codes "m1"))) ∷
      Created (record { side = sides.Page; instance = 1; serial = 3 }) ∷
      Deallocated (record { side = sides.Page; instance = 1; serial = 3 }) ∷
      CommandResult 11 (results.Yes values.Void false) ∷
      Entered (record { side = sides.Page; instance = 2; serial = 2 }) ops.Construct ∷
      Entered (record { side = sides.Page; instance = 2; serial = 2 }) (ops.Get (Str (codes "f0"))) ∷
      CommandResult 12 (results.Yes values.Void false) ∷
      CommandResult 13 results.No ∷
      Entered (record { side = sides.Page; instance = 1; serial = 2 }) (ops.Invoke (Str (codes "m2"))) ∷
      Created (record { side = sides.Page; instance = 1; serial = 4 }) ∷
      Created (record { side = sides.Page; instance = 1; serial = 5 }) ∷
      Deallocated (record { side = sides.Page; instance = 1; serial = 4 }) ∷
      Deallocated (record { side = sides.Page; instance = 1; serial = 5 }) ∷
      CommandResult 14 (results.Yes values.Void false) ∷
      Entered (record { side = sides.Page; instance = 1; serial = 2 }) (ops.Invoke (Str (codes "m1"))) ∷
      Created (record { side = sides.Page; instance = 1; serial = 6 }) ∷
      Deallocated (record { side = sides.Page; instance = 1; serial = 6 }) ∷
      CommandResult 15 (results.Yes values.Void false) ∷
      CommandResult 16 results.No ∷
      Noted (values.Object (record { side = sides.Page; instance = 2; serial = 2 })) false ∷
      CommandResult 17 (results.Yes values.Void false) ∷
      CommandResult 18 (results.Yes values.Void false) ∷
      CommandResult 19 (results.Yes values.Void false) ∷
      CommandResult 20 (results.Yes values.Void false) ∷
      CommandResult 21 (results.Yes values.Void false) ∷
      Created (record { side = sides.Page; instance = 2; serial = 4 }) ∷
      CommandResult 22 (results.Yes (values.Object (record { side = sides.Page; instance = 2; serial = 4 })) false) ∷
      Deallocated (record { side = sides.Page; instance = 2; serial = 4 }) ∷
      CommandResult 23 (results.Yes (values.Object (record { side = sides.Plug; instance = 2; serial = 11 })) false) ∷
      CommandResult 24 results.No ∷
      CommandResult 25 (results.Yes (values.Object (record { side = sides.Plug; instance = 2; serial = 12 })) false) ∷
      CommandResult 26 results.No ∷
      CommandResult 27 (results.Yes values.Void false) ∷
      Invalidated (record { side = sides.Page; instance = 1; serial = 1 }) ∷
      Invalidated (record { side = sides.Page; instance = 1; serial = 2 }) ∷
      Deallocated (record { side = sides.Page; instance = 1; serial = 1 }) ∷
      Deallocated (record { side = sides.Page; instance = 1; serial = 2 }) ∷
      CommandResult 28 (results.Code NoError) ∷
      CommandResult 29 results.No ∷
      CommandResult 30 results.No ∷
      CommandResult 31 (results.Yes values.Void false) ∷
      CommandResult 32 results.No ∷
      CommandResult 33 (results.Yes values.Void false) ∷
      CommandResult 34 results.No ∷
      CommandResult 35 (results.Yes values.Void false) ∷
      CommandResult 36 results.No ∷
      CommandResult 37 results.No ∷
      Deallocated (record { side = sides.Page; instance = 2; serial = 2 }) ∷
      CommandResult 38 (results.Yes (values.Object (record { side = sides.Plug; instance = 2; serial = 16 })) false) ∷
      CommandResult 39 (results.Yes values.Void false) ∷
      CommandResult 40 results.No ∷
      CommandResult 41 results.No ∷
      CommandResult 42 results.No ∷
      CommandResult 43 results.No ∷
      CommandResult 44 (results.Yes (values.Object (record { side = sides.Plug; instance = 2; serial = 16 })) false) ∷
      CommandResult 45 (results.Yes values.Void false) ∷
      CommandResult 46 results.No ∷
      CommandResult 47 (results.Yes values.Void false) ∷
      CommandResult 48 results.No ∷
      CommandResult 49 results.No ∷
      ProxyGone (record { side = sides.Plug; instance = 2; serial = 16 }) ∷
      Invalidated (record { side = sides.Page; instance = 2; serial = 1 }) ∷
      Deallocated (record { side = sides.Page; instance = 2; serial = 1 }) ∷ []);
  plugin = (
      HandlerRun 1 handlers.New ∷
      Created (record { side = sides.Plug; instance = 1; serial = 1 }) ∷
      HandlerRun 1 handlers.Scriptable ∷
      HandlerRun 2 handlers.New ∷
      Created (record { side = sides.Plug; instance = 2; serial = 1 }) ∷
      HandlerRun 2 handlers.Scriptable ∷
      Entered (record { side = sides.Plug; instance = 2; serial = 1 }) (ops.Invoke (Str (codes "m2"))) ∷
      Created (record { side = sides.Plug; instance = 2; serial = 2 }) ∷
      Created (record { side = sides.Plug; instance = 2; serial = 3 }) ∷
      Created (record { side = sides.Plug; instance = 2; serial = 4 }) ∷
      Entered (record { side = sides.Plug; instance = 2; serial = 2 }) (ops.Put (Str (codes "f1"))) ∷
      Deallocated (record { side = sides.Plug; instance = 2; serial = 3 }) ∷
      Deallocated (record { side = sides.Plug; instance = 2; serial = 4 }) ∷
      Deallocated (record { side = sides.Plug; instance = 2; serial = 2 }) ∷
      Entered (record { side = sides.Plug; instance = 1; serial = 1 }) (ops.Invoke (Str (codes "m1"))) ∷
      Created (record { side = sides.Plug; instance = 1; serial = 2 }) ∷
      Entered (record { side = sides.Plug; instance = 1; serial = 2 }) (ops.Put (Str (codes "f0"))) ∷
      Entered (record { side = sides.Plug; instance = 1; serial = 1 }) (ops.Invoke (Str (codes "m0"))) ∷
      Created (record { side = sides.Plug; instance = 1; serial = 3 }) ∷
      Created (record { side = sides.Plug; instance = 1; serial = 4 }) ∷
      Created (record { side = sides.Plug; instance = 1; serial = 5 }) ∷
      Noted (values.Object (record { side = sides.Plug; instance = 1; serial = 3 })) false ∷
      Deallocated (record { side = sides.Plug; instance = 1; serial = 4 }) ∷
      Deallocated (record { side = sides.Plug; instance = 1; serial = 3 }) ∷
      Deallocated (record { side = sides.Plug; instance = 1; serial = 5 }) ∷
      Deallocated (record { side = sides.Plug; instance = 1; serial = 2 }) ∷
      Entered (record { side = sides.Plug; instance = 2; serial = 1 }) (ops.Invoke (Str (codes "m2"))) ∷
      Created (record { side = sides.Plug; instance = 2; serial = 5 }) ∷
      Created (record { side = sides.Plug; instance = 2; serial = 6 }) ∷
      Created (record { side = sides.Plug; instance = 2; serial = 7 }) ∷
      Entered (record { side = sides.Plug; instance = 2; serial = 5 }) (ops.Put (Str (codes "f1"))) ∷
      Deallocated (record { side = sides.Plug; instance = 2; serial = 6 }) ∷
      Deallocated (record { side = sides.Plug; instance = 2; serial = 7 }) ∷
      Deallocated (record { side = sides.Plug; instance = 2; serial = 5 }) ∷
      Entered (record { side = sides.Plug; instance = 2; serial = 1 }) (ops.Invoke (Str (codes "take"))) ∷
      Entered (record { side = sides.Plug; instance = 2; serial = 1 }) (ops.Invoke (Str (codes "m2"))) ∷
      Created (record { side = sides.Plug; instance = 2; serial = 8 }) ∷
      Created (record { side = sides.Plug; instance = 2; serial = 9 }) ∷
      Created (record { side = sides.Plug; instance = 2; serial = 10 }) ∷
      Entered (record { side = sides.Plug; instance = 2; serial = 8 }) (ops.Put (Str (codes "f1"))) ∷
      Deallocated (record { side = sides.Plug; instance = 2; serial = 9 }) ∷
      Deallocated (record { side = sides.Plug; instance = 2; serial = 10 }) ∷
      Deallocated (record { side = sides.Plug; instance = 2; serial = 8 }) ∷
      Entered (record { side = sides.Plug; instance = 2; serial = 1 }) (ops.Invoke (Str (codes "m1"))) ∷
      Created (record { side = sides.Plug; instance = 2; serial = 11 }) ∷
      Entered (record { side = sides.Plug; instance = 2; serial = 11 }) (ops.Put (Str (codes "f0"))) ∷
      Entered (record { side = sides.Plug; instance = 2; serial = 1 }) (ops.Invoke (Str (codes "m1"))) ∷
      Created (record { side = sides.Plug; instance = 2; serial = 12 }) ∷
      Entered (record { side = sides.Plug; instance = 2; serial = 12 }) (ops.Put (Str (codes "f0"))) ∷
      Deallocated (record { side = sides.Plug; instance = 2; serial = 11 }) ∷
      Deallocated (record { side = sides.Plug; instance = 2; serial = 12 }) ∷
      ProxyGone (record { side = sides.Page; instance = 1; serial = 1 }) ∷
      Invalidated (record { side = sides.Plug; instance = 1; serial = 1 }) ∷
      Deallocated (record { side = sides.Plug; instance = 1; serial = 1 }) ∷
      Entered (record { side = sides.Plug; instance = 2; serial = 1 }) (ops.Invoke (Str (codes "m3"))) ∷
      Created (record { side = sides.Plug; instance = 2; serial = 13 }) ∷
      Created (record { side = sides.Plug; instance = 2; serial = 14 }) ∷
      Entered (record { side = sides.Plug; instance = 2; serial = 13 }) (ops.Put (Str (codes "f1"))) ∷
      Created (record { side = sides.Plug; instance = 2; serial = 15 }) ∷
      Deallocated (record { side = sides.Plug; instance = 2; serial = 14 }) ∷
      Deallocated (record { side = sides.Plug; instance = 2; serial = 15 }) ∷
      Entered (record { side = sides.Plug; instance = 2; serial = 1 }) (ops.Invoke (Str (codes "m1"))) ∷
      Created (record { side = sides.Plug; instance = 2; serial = 16 }) ∷
      Entered (record { side = sides.Plug; instance = 2; serial = 16 }) (ops.Put (Str (codes "f0"))) ∷
      Entered (record { side = sides.Plug; instance = 2; serial = 1 }) (ops.Invoke (Str (codes "m0"))) ∷
      Created (record { side = sides.Plug; instance = 2; serial = 17 }) ∷
      Created (record { side = sides.Plug; instance = 2; serial = 18 }) ∷
      Created (record { side = sides.Plug; instance = 2; serial = 19 }) ∷
      Noted (values.Object (record { side = sides.Plug; instance = 2; serial = 17 })) false ∷
      Deallocated (record { side = sides.Plug; instance = 2; serial = 18 }) ∷
      Deallocated (record { side = sides.Plug; instance = 2; serial = 17 }) ∷
      Deallocated (record { side = sides.Plug; instance = 2; serial = 19 }) ∷
      ProxyGone (record { side = sides.Page; instance = 2; serial = 1 }) ∷
      Invalidated (record { side = sides.Plug; instance = 2; serial = 1 }) ∷
      Invalidated (record { side = sides.Plug; instance = 2; serial = 13 }) ∷
      Invalidated (record { side = sides.Plug; instance = 2; serial = 16 }) ∷
      Deallocated (record { side = sides.Plug; instance = 2; serial = 1 }) ∷
      Deallocated (record { side = sides.Plug; instance = 2; serial = 13 }) ∷
      Deallocated (record { side = sides.Plug; instance = 2; serial = 16 }) ∷ []);
  files = [];
  rests = true;
}
unfolding encoding digits is_text is_utf8 chars encode_utf8
both-end = refl

-- all bytes that the page sends
page-sends : page_bytes 1500 page plugin ≡ (0 ∷ 0 ∷ 0 ∷ 7 ∷ 1 ∷ 1 ∷ 0 ∷ 0 ∷ 1 ∷ 0 ∷ 27 ∷ 0 ∷ 0 ∷ 0 ∷ 30 ∷ 2 ∷ 1 ∷ 0 ∷ 0 ∷ 1 ∷ 1 ∷ 0 ∷ 3 ∷ 116 ∷ 47 ∷ 120 ∷ 3 ∷ 0 ∷ 1 ∷ 97 ∷ 0 ∷ 1 ∷ 49 ∷ 0 ∷ 1 ∷ 97 ∷ 0 ∷ 1 ∷ 49 ∷ 0 ∷ 1 ∷ 97 ∷ 0 ∷ 1 ∷ 49 ∷ 0 ∷ 0 ∷ 0 ∷ 11 ∷ 65 ∷ 2 ∷ 0 ∷ 0 ∷ 6 ∷ 0 ∷ 1 ∷ 0 ∷ 0 ∷ 0 ∷ 1 ∷ 0 ∷ 0 ∷ 0 ∷ 5 ∷ 4 ∷ 1 ∷ 0 ∷ 0 ∷ 1 ∷ 0 ∷ 0 ∷ 0 ∷ 12 ∷ 2 ∷ 1 ∷ 0 ∷ 0 ∷ 2 ∷ 1 ∷ 0 ∷ 3 ∷ 116 ∷ 47 ∷ 120 ∷ 0 ∷ 0 ∷ 0 ∷ 0 ∷ 11 ∷ 65 ∷ 2 ∷ 0 ∷ 0 ∷ 6 ∷ 0 ∷ 2 ∷ 0 ∷ 0 ∷ 0 ∷ 1 ∷ 0 ∷ 0 ∷ 0 ∷ 5 ∷ 4 ∷ 1 ∷ 0 ∷ 0 ∷ 2 ∷ 0 ∷ 0 ∷ 0 ∷ 37 ∷ 64 ∷ 1 ∷ 0 ∷ 0 ∷ 2 ∷ 0 ∷ 0 ∷ 0 ∷ 1 ∷ 1 ∷ 0 ∷ 0 ∷ 2 ∷ 109 ∷ 50 ∷ 3 ∷ 6 ∷ 1 ∷ 1 ∷ 0 ∷ 0 ∷ 0 ∷ 1 ∷ 6 ∷ 0 ∷ 2 ∷ 0 ∷ 0 ∷ 0 ∷ 2 ∷ 6 ∷ 0 ∷ 1 ∷ 0 ∷ 0 ∷ 0 ∷ 2 ∷ 0 ∷ 0 ∷ 0 ∷ 11 ∷ 65 ∷ 2 ∷ 0 ∷ 0 ∷ 6 ∷ 0 ∷ 2 ∷ 0 ∷ 0 ∷ 0 ∷ 1 ∷ 0 ∷ 0 ∷ 0 ∷ 37 ∷ 64 ∷ 1 ∷ 0 ∷ 0 ∷ 1 ∷ 0 ∷ 0 ∷ 0 ∷ 1 ∷ 1 ∷ 0 ∷ 0 ∷ 2 ∷ 109 ∷ 49 ∷ 3 ∷ 6 ∷ 0 ∷ 1 ∷ 0 ∷ 0 ∷ 0 ∷ 2 ∷ 6 ∷ 1 ∷ 1 ∷ 0 ∷ 0 ∷ 0 ∷ 1 ∷ 6 ∷ 0 ∷ 2 ∷ 0 ∷ 0 ∷ 0 ∷ 2 ∷ 0 ∷ 0 ∷ 0 ∷ 37 ∷ 64 ∷ 1 ∷ 0 ∷ 0 ∷ 1 ∷ 0 ∷ 0 ∷ 0 ∷ 1 ∷ 1 ∷ 0 ∷ 0 ∷ 2 ∷ 109 ∷ 48 ∷ 3 ∷ 6 ∷ 1 ∷ 1 ∷ 0 ∷ 0 ∷ 0 ∷ 1 ∷ 6 ∷ 1 ∷ 2 ∷ 0 ∷ 0 ∷ 0 ∷ 1 ∷ 6 ∷ 1 ∷ 2 ∷ 0 ∷ 0 ∷ 0 ∷ 1 ∷ 0 ∷ 0 ∷ 0 ∷ 22 ∷ 5 ∷ 1 ∷ 0 ∷ 2 ∷ 1 ∷ 0 ∷ 0 ∷ 0 ∷ 1 ∷ 0 ∷ 0 ∷ 0 ∷ 1 ∷ 1 ∷ 0 ∷ 0 ∷ 0 ∷ 2 ∷ 0 ∷ 0 ∷ 0 ∷ 1 ∷ 0 ∷ 0 ∷ 0 ∷ 25 ∷ 64 ∷ 1 ∷ 0 ∷ 0 ∷ 2 ∷ 0 ∷ 0 ∷ 0 ∷ 1 ∷ 1 ∷ 0 ∷ 0 ∷ 2 ∷ 109 ∷ 50 ∷ 3 ∷ 6 ∷ 0 ∷ 2 ∷ 0 ∷ 0 ∷ 0 ∷ 2 ∷ 0 ∷ 0 ∷ 0 ∷ 0 ∷ 0 ∷ 11 ∷ 65 ∷ 2 ∷ 0 ∷ 0 ∷ 6 ∷ 0 ∷ 2 ∷ 0 ∷ 0 ∷ 0 ∷ 1 ∷ 0 ∷ 0 ∷ 0 ∷ 21 ∷ 64 ∷ 1 ∷ 0 ∷ 0 ∷ 2 ∷ 0 ∷ 0 ∷ 0 ∷ 1 ∷ 1 ∷ 0 ∷ 0 ∷ 4 ∷ 116 ∷ 97 ∷ 107 ∷ 101 ∷ 3 ∷ 0 ∷ 0 ∷ 0 ∷ 0 ∷ 0 ∷ 0 ∷ 25 ∷ 64 ∷ 1 ∷ 0 ∷ 0 ∷ 2 ∷ 0 ∷ 0 ∷ 0 ∷ 1 ∷ 1 ∷ 0 ∷ 0 ∷ 2 ∷ 109 ∷ 50 ∷ 3 ∷ 0 ∷ 0 ∷ 6 ∷ 0 ∷ 2 ∷ 0 ∷ 0 ∷ 0 ∷ 2 ∷ 0 ∷ 0 ∷ 0 ∷ 11 ∷ 65 ∷ 2 ∷ 0 ∷ 0 ∷ 6 ∷ 0 ∷ 2 ∷ 0 ∷ 0 ∷ 0 ∷ 1 ∷ 0 ∷ 0 ∷ 0 ∷ 16 ∷ 64 ∷ 1 ∷ 0 ∷ 0 ∷ 2 ∷ 0 ∷ 0 ∷ 0 ∷ 1 ∷ 1 ∷ 0 ∷ 0 ∷ 2 ∷ 109 ∷ 49 ∷ 0 ∷ 0 ∷ 0 ∷ 0 ∷ 16 ∷ 64 ∷ 1 ∷ 0 ∷ 0 ∷ 2 ∷ 0 ∷ 0 ∷ 0 ∷ 1 ∷ 1 ∷ 0 ∷ 0 ∷ 2 ∷ 109 ∷ 49 ∷ 0 ∷ 0 ∷ 0 ∷ 0 ∷ 23 ∷ 3 ∷ 1 ∷ 0 ∷ 2 ∷ 2 ∷ 0 ∷ 0 ∷ 0 ∷ 11 ∷ 0 ∷ 0 ∷ 0 ∷ 1 ∷ 2 ∷ 0 ∷ 0 ∷ 0 ∷ 12 ∷ 0 ∷ 0 ∷ 0 ∷ 1 ∷ 1 ∷ 0 ∷ 0 ∷ 0 ∷ 22 ∷ 64 ∷ 1 ∷ 0 ∷ 0 ∷ 2 ∷ 0 ∷ 0 ∷ 0 ∷ 1 ∷ 1 ∷ 0 ∷ 0 ∷ 2 ∷ 109 ∷ 51 ∷ 2 ∷ 3 ∷ 0 ∷ 0 ∷ 0 ∷ 13 ∷ 0 ∷ 0 ∷ 0 ∷ 0 ∷ 4 ∷ 5 ∷ 1 ∷ 0 ∷ 0 ∷ 0 ∷ 0 ∷ 0 ∷ 4 ∷ 5 ∷ 1 ∷ 0 ∷ 0 ∷ 0 ∷ 0 ∷ 0 ∷ 24 ∷ 64 ∷ 1 ∷ 0 ∷ 0 ∷ 2 ∷ 0 ∷ 0 ∷ 0 ∷ 1 ∷ 1 ∷ 0 ∷ 0 ∷ 2 ∷ 109 ∷ 49 ∷ 2 ∷ 6 ∷ 0 ∷ 2 ∷ 0 ∷ 0 ∷ 0 ∷ 2 ∷ 0 ∷ 0 ∷ 0 ∷ 0 ∷ 25 ∷ 64 ∷ 1 ∷ 0 ∷ 0 ∷ 2 ∷ 0 ∷ 0 ∷ 0 ∷ 1 ∷ 1 ∷ 0 ∷ 0 ∷ 2 ∷ 109 ∷ 48 ∷ 3 ∷ 6 ∷ 1 ∷ 2 ∷ 0 ∷ 0 ∷ 0 ∷ 16 ∷ 0 ∷ 0 ∷ 0 ∷ 0 ∷ 0 ∷ 31 ∷ 64 ∷ 1 ∷ 0 ∷ 1 ∷ 2 ∷ 0 ∷ 0 ∷ 0 ∷ 1 ∷ 0 ∷ 0 ∷ 0 ∷ 1 ∷ 2 ∷ 0 ∷ 0 ∷ 0 ∷ 16 ∷ 1 ∷ 0 ∷ 0 ∷ 4 ∷ 116 ∷ 97 ∷ 107 ∷ 101 ∷ 2 ∷ 0 ∷ 5 ∷ 0 ∷ 0 ∷ 0 ∷ 0 ∷ 0 ∷ 5 ∷ 3 ∷ 1 ∷ 0 ∷ 0 ∷ 2 ∷ 0 ∷ 0 ∷ 0 ∷ 4 ∷ 12 ∷ 1 ∷ 0 ∷ 0 ∷ [])
unfolding encoding digits is_text is_utf8 chars encode_utf8
page-sends = refl

-- all bytes that the plugin sends
plugin-sends : plugin_bytes 1500 page plugin ≡ (0 ∷ 0 ∷ 0 ∷ 5 ∷ 69 ∷ 1 ∷ 0 ∷ 0 ∷ 0 ∷ 0 ∷ 0 ∷ 0 ∷ 5 ∷ 32 ∷ 2 ∷ 0 ∷ 0 ∷ 1 ∷ 0 ∷ 0 ∷ 0 ∷ 5 ∷ 69 ∷ 1 ∷ 0 ∷ 0 ∷ 0 ∷ 0 ∷ 0 ∷ 0 ∷ 11 ∷ 65 ∷ 1 ∷ 0 ∷ 0 ∷ 6 ∷ 1 ∷ 1 ∷ 0 ∷ 0 ∷ 0 ∷ 1 ∷ 0 ∷ 0 ∷ 0 ∷ 5 ∷ 32 ∷ 2 ∷ 0 ∷ 0 ∷ 2 ∷ 0 ∷ 0 ∷ 0 ∷ 5 ∷ 69 ∷ 1 ∷ 0 ∷ 0 ∷ 0 ∷ 0 ∷ 0 ∷ 0 ∷ 11 ∷ 65 ∷ 1 ∷ 0 ∷ 0 ∷ 6 ∷ 1 ∷ 2 ∷ 0 ∷ 0 ∷ 0 ∷ 1 ∷ 0 ∷ 0 ∷ 0 ∷ 14 ∷ 32 ∷ 2 ∷ 0 ∷ 1 ∷ 1 ∷ 0 ∷ 0 ∷ 0 ∷ 2 ∷ 0 ∷ 0 ∷ 0 ∷ 1 ∷ 2 ∷ 0 ∷ 0 ∷ 0 ∷ 14 ∷ 65 ∷ 1 ∷ 0 ∷ 1 ∷ 2 ∷ 0 ∷ 0 ∷ 0 ∷ 2 ∷ 0 ∷ 0 ∷ 0 ∷ 1 ∷ 0 ∷ 0 ∷ 0 ∷ 0 ∷ 20 ∷ 65 ∷ 1 ∷ 0 ∷ 1 ∷ 1 ∷ 0 ∷ 0 ∷ 0 ∷ 2 ∷ 0 ∷ 0 ∷ 0 ∷ 1 ∷ 6 ∷ 1 ∷ 1 ∷ 0 ∷ 0 ∷ 0 ∷ 2 ∷ 0 ∷ 0 ∷ 0 ∷ 5 ∷ 65 ∷ 1 ∷ 0 ∷ 0 ∷ 0 ∷ 0 ∷ 0 ∷ 0 ∷ 13 ∷ 71 ∷ 1 ∷ 0 ∷ 1 ∷ 2 ∷ 0 ∷ 0 ∷ 0 ∷ 2 ∷ 0 ∷ 0 ∷ 0 ∷ 1 ∷ 0 ∷ 0 ∷ 0 ∷ 5 ∷ 32 ∷ 2 ∷ 0 ∷ 0 ∷ 2 ∷ 0 ∷ 0 ∷ 0 ∷ 14 ∷ 65 ∷ 1 ∷ 0 ∷ 1 ∷ 2 ∷ 0 ∷ 0 ∷ 0 ∷ 2 ∷ 0 ∷ 0 ∷ 0 ∷ 1 ∷ 0 ∷ 0 ∷ 0 ∷ 0 ∷ 5 ∷ 65 ∷ 1 ∷ 0 ∷ 0 ∷ 0 ∷ 0 ∷ 0 ∷ 0 ∷ 14 ∷ 32 ∷ 2 ∷ 0 ∷ 1 ∷ 2 ∷ 0 ∷ 0 ∷ 0 ∷ 2 ∷ 0 ∷ 0 ∷ 0 ∷ 1 ∷ 2 ∷ 0 ∷ 0 ∷ 0 ∷ 5 ∷ 65 ∷ 1 ∷ 0 ∷ 0 ∷ 0 ∷ 0 ∷ 0 ∷ 0 ∷ 11 ∷ 65 ∷ 1 ∷ 0 ∷ 0 ∷ 6 ∷ 1 ∷ 2 ∷ 0 ∷ 0 ∷ 0 ∷ 11 ∷ 0 ∷ 0 ∷ 0 ∷ 11 ∷ 65 ∷ 1 ∷ 0 ∷ 0 ∷ 6 ∷ 1 ∷ 2 ∷ 0 ∷ 0 ∷ 0 ∷ 12 ∷ 0 ∷ 0 ∷ 0 ∷ 5 ∷ 69 ∷ 1 ∷ 0 ∷ 0 ∷ 0 ∷ 0 ∷ 0 ∷ 0 ∷ 5 ∷ 65 ∷ 1 ∷ 0 ∷ 0 ∷ 0 ∷ 0 ∷ 0 ∷ 0 ∷ 4 ∷ 71 ∷ 1 ∷ 0 ∷ 0 ∷ 0 ∷ 0 ∷ 0 ∷ 4 ∷ 71 ∷ 1 ∷ 0 ∷ 0 ∷ 0 ∷ 0 ∷ 0 ∷ 20 ∷ 65 ∷ 1 ∷ 0 ∷ 1 ∷ 2 ∷ 0 ∷ 0 ∷ 0 ∷ 2 ∷ 0 ∷ 0 ∷ 0 ∷ 1 ∷ 6 ∷ 1 ∷ 2 ∷ 0 ∷ 0 ∷ 0 ∷ 16 ∷ 0 ∷ 0 ∷ 0 ∷ 5 ∷ 65 ∷ 1 ∷ 0 ∷ 0 ∷ 0 ∷ 0 ∷ 0 ∷ 0 ∷ 4 ∷ 66 ∷ 1 ∷ 0 ∷ 0 ∷ 0 ∷ 0 ∷ 0 ∷ 5 ∷ 69 ∷ 1 ∷ 0 ∷ 0 ∷ 0 ∷ 0 ∷ 0 ∷ 0 ∷ 4 ∷ 71 ∷ 1 ∷ 0 ∷ 0 ∷ [])
unfolding encoding digits is_text is_utf8 chars encode_utf8
plugin-sends = refl

-- the plug-in's first 253 bytes hold 18 whole messages
cut-253 : lost_outcome 1500 (Some 18) page plugin ≡ record {
  page = (
      Created (record { side = sides.Page; instance = 1; serial = 1 }) ∷
      CommandResult 1 (results.Code NoError) ∷
      CommandResult 2 (results.Yes (values.Object (record { side = sides.Plug; instance = 1; serial = 1 })) false) ∷
      Created (record { side = sides.Page; instance = 2; serial = 1 }) ∷
      CommandResult 3 (results.Code NoError) ∷
      CommandResult 4 (results.Yes (values.Object (record { side = sides.Plug; instance = 2; serial = 1 })) false) ∷
      Created (record { side = sides.Page; instance = 1; serial = 2 }) ∷
      CommandResult 5 (results.Yes (values.Object (record { side = sides.Page; instance = 1; serial = 2 })) false) ∷
      Created (record { side = sides.Page; instance = 2; serial = 2 }) ∷
      CommandResult 6 (results.Yes (values.Object (record { side = sides.Page; instance = 2; serial = 2 })) false) ∷
      CommandResult 7 (results.Yes values.Void false) ∷
      CommandResult 8 (results.Yes (values.Object (record { side = sides.Plug; instance = 1; serial = 2 })) false) ∷
      CommandResult 9 (results.Yes values.Void false) ∷
      Entered (record { side = sides.Page; instance = 2; serial = 2 }) (ops.Invoke (Str (codes "m0"))) ∷
      Created (record { side = sides.Page; instance = 2; serial = 3 }) ∷
      Deallocated (record { side = sides.Page; instance = 2; serial = 3 }) ∷
      CommandResult 10 (results.Yes values.Void false) ∷
      Entered (record { side = sides.Page; instance = 1; serial = 2 }) (ops.Invoke (Str (codes "m1"))) ∷
      Created (record { side = sides.Page; instance = 1; serial = 3 }) ∷
      Deallocated (record { side = sides.Page; instance = 1; serial = 3 }) ∷
      CommandResult 11 (results.Yes values.Void false) ∷
      Entered (record { side = sides.Page; instance = 2; serial = 2 }) ops.Construct ∷
      Entered (record { side = sides.Page; instance = 2; serial = 2 }) (ops.Get (Str (codes "f0"))) ∷
      CommandResult 12 (results.Yes values.Void false) ∷
      CommandResult 13 results.No ∷
      Entered (record { side = sides.Page; instance = 1; serial = 2 }) (ops.Invoke (Str (codes "m2"))) ∷
      Created (record { side = sides.Page; instance = 1; serial = 4 }) ∷
      Created (record { side = sides.Page; instance = 1; serial = 5 }) ∷
      Deallocated (record { side = sides.Page; instance = 1; serial = 4 }) ∷
      Deallocated (record { side = sides.Page; instance = 1; serial = 5 }) ∷
      CommandResult 14 (results.Yes values.Void false) ∷
      Entered (record { side = sides.Page; instance = 1; serial = 2 }) (ops.Invoke (Str (codes "m1"))) ∷
      Created (record { side = sides.Page; instance = 1; serial = 6 }) ∷
      Deallocated (record { side = sides.Page; instance = 1; serial = 6 }) ∷
      CommandResult 15 (results.Yes values.Void false) ∷
      CommandResult 16 results.No ∷
      Noted (values.Object (record { side = sides.Page; instance = 2; serial = 2 })) false ∷
      CommandResult 17 (results.Yes values.Void false) ∷
      CommandResult 18 (results.Yes values.Void false) ∷
      CommandResult 19 (results.Yes values.Void false) ∷
      CommandResult 20 (results.Yes values.Void false) ∷
      CommandResult 21 (results.Yes values.Void false) ∷
      Created (record { side = sides.Page; instance = 2; serial = 4 }) ∷
      CommandResult 22 (results.Yes (values.Object (record { side = sides.Page; instance = 2; serial = 4 })) false) ∷
      Deallocated (record { side = sides.Page; instance = 2; serial = 4 }) ∷
      CommandResult 23 (results.Yes (values.Object (record { side = sides.Plug; instance = 2; serial = 11 })) false) ∷
      CommandResult 24 results.No ∷
      Invalidated (record { side = sides.Page; instance = 1; serial = 1 }) ∷
      Invalidated (record { side = sides.Page; instance = 1; serial = 2 }) ∷
      Deallocated (record { side = sides.Page; instance = 1; serial = 1 }) ∷
      Deallocated (record { side = sides.Page; instance = 1; serial = 2 }) ∷
      ProxyGone (record { side = sides.Plug; instance = 2; serial = 1 }) ∷
      ProxyGone (record { side = sides.Plug; instance = 2; serial = 11 }) ∷
      Invalidated (record { side = sides.Page; instance = 2; serial = 1 }) ∷
      Invalidated (record { side = sides.Page; instance = 2; serial = 2 }) ∷
      Deallocated (record { side = sides.Page; instance = 2; serial = 1 }) ∷
      Deallocated (record { side = sides.Page; instance = 2; serial = 2 }) ∷
      CommandResult 25 results.No ∷
      CommandResult 26 results.No ∷
      CommandResult 27 (results.Yes values.Void false) ∷
      CommandResult 28 (results.Code InvalidInstance) ∷
      CommandResult 29 results.No ∷
      CommandResult 30 results.No ∷
      CommandResult 31 results.No ∷
      CommandResult 32 results.No ∷
      CommandResult 33 results.No ∷
      CommandResult 34 results.No ∷
      CommandResult 35 results.No ∷
      CommandResult 36 results.No ∷
      CommandResult 37 results.No ∷
      CommandResult 38 results.No ∷
      CommandResult 39 results.No ∷
      CommandResult 40 results.No ∷
      CommandResult 41 results.No ∷
      CommandResult 42 results.No ∷
      CommandResult 43 results.No ∷
      CommandResult 44 (results.Yes values.Void false) ∷
      CommandResult 45 (results.Yes values.Void false) ∷
      CommandResult 46 results.No ∷
      CommandResult 47 (results.Yes values.Void false) ∷
      CommandResult 48 results.No ∷
      CommandResult 49 results.No ∷ []);
  rests = true;
}
unfolding encoding digits is_text is_utf8 chars encode_utf8
cut-253 = refl

-- the plug-in's first 286 bytes hold 22 whole messages
cut-286 : lost_outcome 1500 (Some 22) page plugin ≡ record {
  page = (
      Created (record { side = sides.Page; instance = 1; serial = 1 }) ∷
      CommandResult 1 (results.Code NoError) ∷
      CommandResult 2 (results.Yes (values.Object (record { side = sides.Plug; instance = 1; serial = 1 })) false) ∷
      Created (record { side = sides.Page; instance = 2; serial = 1 }) ∷
      CommandResult 3 (results.Code NoError) ∷
      CommandResult 4 (results.Yes (values.Object (record { side = sides.Plug; instance = 2; serial = 1 })) false) ∷
      Created (record { side = sides.Page; instance = 1; serial = 2 }) ∷
      CommandResult 5 (results.Yes (values.Object (record { side = sides.Page; instance = 1; serial = 2 })) false) ∷
      Created (record { side = sides.Page; instance = 2; serial = 2 }) ∷
      CommandResult 6 (results.Yes (values.Object (record { side = sides.Page; instance = 2; serial = 2 })) false) ∷
      CommandResult 7 (results.Yes values.Void false) ∷
      CommandResult 8 (results.Yes (values.Object (record { side = sides.Plug; instance = 1; serial = 2 })) false) ∷
      CommandResult 9 (results.Yes values.Void false) ∷
      Entered (record { side = sides.Page; instance = 2; serial = 2 }) (ops.Invoke (Str (codes "m0"))) ∷
      Created (record { side = sides.Page; instance = 2; serial = 3 }) ∷
      Deallocated (record { side = sides.Page; instance = 2; serial = 3 }) ∷
      CommandResult 10 (results.Yes values.Void false) ∷
      Entered (record { side = sides.Page; instance = 1; serial = 2 }) (ops.Invoke (Str (codes "m1"))) ∷
      Created (record { side = sides.Page; instance = 1; serial = 3 }) ∷
      Deallocated (record { side = sides.Page; instance = 1; serial = 3 }) ∷
      CommandResult 11 (results.Yes values.Void false) ∷
      Entered (record { side = sides.Page; instance = 2; serial = 2 }) ops.Construct ∷
      Entered (record { side = sides.Page; instance = 2; serial = 2 }) (ops.Get (Str (codes "f0"))) ∷
      CommandResult 12 (results.Yes values.Void false) ∷
      CommandResult 13 results.No ∷
      Entered (record { side = sides.Page; instance = 1; serial = 2 }) (ops.Invoke (Str (codes "m2"))) ∷
      Created (record { side = sides.Page; instance = 1; serial = 4 }) ∷
      Created (record { side = sides.Page; instance = 1; serial = 5 }) ∷
      Deallocated (record { side = sides.Page; instance = 1; serial = 4 }) ∷
      Deallocated (record { side = sides.Page; instance = 1; serial = 5 }) ∷
      CommandResult 14 (results.Yes values.Void false) ∷
      Entered (record { side = sides.Page; instance = 1; serial = 2 }) (ops.Invoke (Str (codes "m1"))) ∷
      Created (record { side = sides.Page; instance = 1; serial = 6 }) ∷
      Deallocated (record { side = sides.Page; instance = 1; serial = 6 }) ∷
      CommandResult 15 (results.Yes values.Void false) ∷
      CommandResult 16 results.No ∷
      Noted (values.Object (record { side = sides.Page; instance = 2; serial = 2 })) false ∷
      CommandResult 17 (results.Yes values.Void false) ∷
      CommandResult 18 (results.Yes values.Void false) ∷
      CommandResult 19 (results.Yes values.Void false) ∷
      CommandResult 20 (results.Yes values.Void false) ∷
      CommandResult 21 (results.Yes values.Void false) ∷
      Created (record { side = sides.Page; instance = 2; serial = 4 }) ∷
      CommandResult 22 (results.Yes (values.Object (record { side = sides.Page; instance = 2; serial = 4 })) false) ∷
      Deallocated (record { side = sides.Page; instance = 2; serial = 4 }) ∷
      CommandResult 23 (results.Yes (values.Object (record { side = sides.Plug; instance = 2; serial = 11 })) false) ∷
      CommandResult 24 results.No ∷
      CommandResult 25 (results.Yes (values.Object (record { side = sides.Plug; instance = 2; serial = 12 })) false) ∷
      CommandResult 26 results.No ∷
      CommandResult 27 (results.Yes values.Void false) ∷
      Invalidated (record { side = sides.Page; instance = 1; serial = 1 }) ∷
      Invalidated (record { side = sides.Page; instance = 1; serial = 2 }) ∷
      Deallocated (record { side = sides.Page; instance = 1; serial = 1 }) ∷
      Deallocated (record { side = sides.Page; instance = 1; serial = 2 }) ∷
      CommandResult 28 (results.Code NoError) ∷
      CommandResult 29 results.No ∷
      CommandResult 30 results.No ∷
      CommandResult 31 (results.Yes values.Void false) ∷
      CommandResult 32 results.No ∷
      CommandResult 33 (results.Yes values.Void false) ∷
      CommandResult 34 results.No ∷
      ProxyGone (record { side = sides.Plug; instance = 2; serial = 1 }) ∷
      Invalidated (record { side = sides.Page; instance = 2; serial = 1 }) ∷
      Invalidated (record { side = sides.Page; instance = 2; serial = 2 }) ∷
      Deallocated (record { side = sides.Page; instance = 2; serial = 1 }) ∷
      Deallocated (record { side = sides.Page; instance = 2; serial = 2 }) ∷
      CommandResult 35 results.No ∷
      CommandResult 36 results.No ∷
      CommandResult 37 results.No ∷
      CommandResult 38 results.No ∷
      CommandResult 39 results.No ∷
      CommandResult 40 results.No ∷
      CommandResult 41 results.No ∷
      CommandResult 42 results.No ∷
      CommandResult 43 results.No ∷
      CommandResult 44 (results.Yes values.Void false) ∷
      CommandResult 45 (results.Yes values.Void false) ∷
      CommandResult 46 results.No ∷
      CommandResult 47 (results.Yes values.Void false) ∷
      CommandResult 48 results.No ∷
      CommandResult 49 results.No ∷ []);
  rests = true;
}
unfolding encoding digits is_text is_utf8 chars encode_utf8
cut-286 = refl
