-- Made by tools/vector-theorems of tests/vectors/5-011.
use Rattle.std.proofs.Common.{◌≡◌, pos, negsuc, [], ◌∷◌, refl, true, false, Some}
use Rattle.std.specs.Prelude.{codes}
use Rattle.std.specs.Char.{encode_utf8}
use Rattle.std.specs.Fmt.{digits}
use Rattle.std.specs.Str.{is_utf8, chars}
use Rattle.np_values.specs.declared.error.NpError.TheVariants.{NoError, ModuleLoadFailed}
use Rattle.np_values.specs.declared.handler.Handler.TheVariants as handlers
use Rattle.np_values.specs.declared.name.Side.TheVariants as sides
use Rattle.np_values.specs.declared.value.Value.TheVariants as values
use Rattle.np_values.specs.Text.{is_text}
use Rattle.np_idents.specs.declared.key.IdKey.TheVariants.{Str, Int as IntKey}
use Rattle.np_idents.specs.declared.op.Op.TheVariants as ops
use Rattle.np_script_grammar.specs.declared.action.Action.TheVariants as actions
use Rattle.np_script_grammar.specs.declared.action.Operand.TheVariants.{Reg, Const}
use Rattle.np_script_grammar.specs.declared.class.Member.TheVariants as members
use Rattle.np_script_grammar.specs.declared.command.Command.TheVariants as commands
use Rattle.np_script_grammar.specs.declared.page.Page.{Page}
use Rattle.np_script_grammar.specs.declared.plugin.Plugin.{Plugin}
use Rattle.np_message.specs.Encoding.{encoding}
use Rattle.np_journal.specs.declared.line.Line.TheVariants.{Created, Entered, HandlerRun, ProxyGone, Invalidated, Deallocated, Noted, CommandResult}
use Rattle.np_journal.specs.declared.printed.Printed.TheVariants as results
use Rattle.np_machine_plans.specs.Outcomes.{outcome, page_bytes, plugin_bytes, lost_outcome}

abbrev page : Page
page = record {
  major = 0;
  minor = 27;
  classes = (
      (record {
        name = codes "Window";
        version = 3;
        stored = true;
        members = (
            members.Method (IntKey (pos 4)) (actions.Load 3 1 ∷ actions.Load 2 2 ∷ actions.New 3 (codes "B") ∷ actions.Load 2 3 ∷ actions.Invoke 3 (Reg 2) (Str (codes "take")) (Const (values.Bool false) ∷ []) ∷ actions.Slot 1 (Const values.Void) ∷ actions.Invoke 1 (Reg 2) (Str (codes "take")) (Reg 1 ∷ Const (values.Int (negsuc 0)) ∷ Reg 2 ∷ []) ∷ actions.Slot 3 (Reg 1) ∷ actions.Load 0 0 ∷ actions.Get 1 (Reg 3) (Str (codes "f0")) ∷ []) ∷
            members.Method (Str (codes "take")) (actions.Load 3 2 ∷ actions.Load 2 0 ∷ actions.Slot 3 (Reg 0) ∷ []) ∷
            members.Construct (actions.New 1 (codes "B") ∷ actions.New 3 (codes "B") ∷ actions.Set 2 (Reg 0) ∷ []) ∷
            members.Method (Str (codes "m2")) [] ∷
            members.Method (Str (codes "m1")) (actions.Load 1 2 ∷ actions.Load 2 0 ∷ actions.New 1 (codes "A") ∷ actions.New 3 (codes "Window") ∷ actions.New 5 (codes "B") ∷ actions.Put (Reg 4) (Str (codes "f0")) (Reg 2) ∷ []) ∷
            members.Method (Str (codes "m0")) (actions.Load 3 1 ∷ actions.Put (Reg 3) (Str (codes "f0")) (Reg 8) ∷ actions.Get 2 (Reg 1) (Str (codes "f0")) ∷ actions.Throw [] ∷ []) ∷
            members.Setter (Str (codes "f0")) (actions.Remove (Reg 2) (Str (codes "f0")) ∷ actions.Drop 3 ∷ actions.New 4 (codes "A") ∷ actions.New 2 (codes "Window") ∷ actions.New 3 (codes "A") ∷ actions.New 5 (codes "B") ∷ actions.New 5 (codes "A") ∷ actions.Put (Reg 4) (Str (codes "f1")) (Reg 5) ∷ actions.Put (Reg 4) (IntKey (pos 7)) (Reg 5) ∷ actions.Slot 1 (Reg 4) ∷ actions.Drop 4 ∷ []) ∷ []);
      }) ∷
      (record {
        name = codes "A";
        version = 3;
        stored = true;
        members = (
            members.Method (Str (codes "m1")) (actions.Load 3 1 ∷ actions.New 4 (codes "A") ∷ actions.Load 3 1 ∷ actions.Invoke 2 (Reg 1) (Str (codes "m3")) (Reg 1 ∷ Reg 2 ∷ Reg 1 ∷ []) ∷ actions.New 1 (codes "Window") ∷ actions.Return (Reg 5) ∷ []) ∷
            members.Method (Str (codes "m2")) (actions.New 3 (codes "A") ∷ actions.New 1 (codes "A") ∷ actions.OnEq (Reg 1) (Reg 1) 1 ∷ actions.Invoke 2 (Reg 1) (IntKey (pos 4)) (Const (values.Int (pos 14)) ∷ Const (values.Bool false) ∷ Const (values.Int (pos 13)) ∷ []) ∷ actions.Invoke 2 (Reg 1) (Str (codes "take")) (Reg 0 ∷ []) ∷ actions.Drop 0 ∷ actions.Slot 1 (Reg 2) ∷ []) ∷
            members.Method (Str (codes "m3")) (actions.Slot 3 (Reg 0) ∷ actions.New 1 (codes "A") ∷ actions.Load 14 0 ∷ actions.Load 3 1 ∷ actions.Drop 2 ∷ actions.New 1 (codes "A") ∷ []) ∷
            members.Method (IntKey (pos 4)) (actions.Load 3 1 ∷ actions.Slot 3 (Reg 1) ∷ actions.OnFalse 1 ∷ actions.Slot 3 (Reg 1) ∷ actions.Put (Reg 1) (Str (codes "f1")) (Const (values.Int (negsuc 2147483647))) ∷ actions.Load 1 3 ∷ actions.Slot 1 (Reg 3) ∷ []) ∷
            members.Method (Str (codes "m0")) (actions.Load 2 0 ∷ actions.Invoke 0 (Reg 3) (IntKey (pos 4)) (Reg 2 ∷ Reg 2 ∷ Reg 1 ∷ []) ∷ actions.Set 2 (Reg 3) ∷ actions.Set 3 (Reg 1) ∷ actions.New 1 (codes "Window") ∷ actions.Load 1 1 ∷ actions.Load 2 2 ∷ actions.Load 1 3 ∷ actions.Load 4 0 ∷ actions.Get 0 (Reg 4) (Str (codes "7")) ∷ actions.Put (Reg 4) (Str (codes "7")) (Reg 1) ∷ []) ∷
            members.Method (Str (codes "take")) (actions.Load 0 2 ∷ actions.New 1 (codes "A") ∷ actions.New 5 (codes "A") ∷ actions.Slot 3 (Const (values.Text (codes "e"))) ∷ actions.HasMethod (Reg 3) (Str (codes "m1")) ∷ actions.Slot 2 (Reg 0) ∷ actions.Load 1 0 ∷ []) ∷ []);
      }) ∷
      (record {
        name = codes "B";
        version = 1;
        stored = true;
        members = (
            members.Method (Str (codes "m1")) (actions.SelfTo 2 ∷ actions.Load 4 0 ∷ actions.Invoke 3 (Reg 3) (IntKey (pos 4)) (Reg 0 ∷ []) ∷ actions.New 2 (codes "A") ∷ actions.Slot 3 (Reg 3) ∷ actions.Invoke 1 (Reg 3) (Str (codes "take")) (Reg 2 ∷ Const (values.Int (pos 13)) ∷ Reg 1 ∷ []) ∷ actions.Put (Reg 2) (Str (codes "f0")) (Const (values.Text (codes "e"))) ∷ actions.SelfTo 1 ∷ actions.SelfTo 3 ∷ actions.Invoke 0 (Reg 2) (IntKey (pos 4)) [] ∷ []) ∷
            members.Method (Str (codes "m3")) (actions.Load 3 1 ∷ actions.New 5 (codes "A") ∷ actions.New 1 (codes "Window") ∷ actions.Slot 2 (Reg 1) ∷ actions.New 2 (codes "Window") ∷ actions.Load 0 1 ∷ actions.New 0 (codes "Window") ∷ actions.Get 1 (Reg 0) (IntKey (pos 7)) ∷ actions.HasProperty (Reg 3) (Str (codes "7")) ∷ []) ∷
            members.Method (Str (codes "take")) (actions.SelfTo 2 ∷ actions.New 4 (codes "A") ∷ actions.Put (Reg 3) (Str (codes "f0")) (Reg 0) ∷ actions.New 2 (codes "B") ∷ actions.New 3 (codes "B") ∷ actions.Load 0 0 ∷ actions.Get 1 (Reg 0) (IntKey (pos 7)) ∷ actions.Put (Reg 0) (IntKey (pos 7)) (Reg 1) ∷ []) ∷
            members.Method (IntKey (pos 4)) (actions.SelfTo 2 ∷ actions.New 3 (codes "A") ∷ actions.Invoke 1 (Reg 0) (Str (codes "take")) (Reg 0 ∷ Reg 2 ∷ []) ∷ actions.Load 1 2 ∷ actions.New 2 (codes "A") ∷ actions.Note (Reg 0) ∷ actions.Invoke 2 (Reg 2) (Str (codes "take")) (Reg 0 ∷ Reg 2 ∷ Const (values.Int (pos 100)) ∷ []) ∷ actions.Invoke 3 (Const (values.Text (codes "r"))) (Str (codes "take")) (Const (values.Bool false) ∷ Reg 2 ∷ []) ∷ actions.Invoke 0 (Reg 0) (Str (codes "m1")) (Reg 0 ∷ Reg 0 ∷ Reg 1 ∷ []) ∷ []) ∷
            members.Method (Str (codes "m2")) (actions.SelfTo 2 ∷ actions.New 2 (codes "A") ∷ actions.New 5 (codes "Window") ∷ []) ∷ []);
      }) ∷ []);
  resources = [];
  commands = (
      commands.Create (codes "t/x") 2 [] ∷
      commands.Scriptable 0 1 ∷
      commands.Create (codes "t/x") 2 [] ∷
      commands.Scriptable 1 2 ∷
      commands.New 2 1 (codes "Window") ∷
      commands.New 3 2 (codes "B") ∷
      commands.Invoke 4 (Reg 2) (Str (codes "m0")) (Reg 5 ∷ Reg 4 ∷ Reg 2 ∷ []) ∷
      commands.Invoke 5 (Reg 1) (Str (codes "m1")) (Reg 2 ∷ Reg 0 ∷ Reg 5 ∷ []) ∷
      commands.New 2 1 (codes "Window") ∷
      commands.Set 0 (Reg 3) ∷
      commands.Invoke 5 (Reg 0) (IntKey (pos 4)) (Reg 4 ∷ Reg 2 ∷ Reg 5 ∷ []) ∷
      commands.Invoke 4 (Reg 3) (IntKey (pos 4)) (Const (values.Text (codes "r")) ∷ Reg 2 ∷ []) ∷
      commands.HasMethod (Reg 3) (Str (codes "m1")) ∷
      commands.New 1 2 (codes "A") ∷ []);
}

abbrev plugin : Plugin
plugin = record {
  major = 0;
  minor = 27;
  classes = (
      (record {
        name = codes "T";
        version = 3;
        stored = true;
        members = (
            members.Method (Str (codes "m2")) (actions.Slot 2 (Const (values.Int (pos 0))) ∷ actions.Load 2 1 ∷ []) ∷
            members.Default (actions.New 5 (codes "Main") ∷ actions.Put (Reg 3) (Str (codes "f0")) (Reg 0) ∷ actions.New 3 (codes "U") ∷ actions.Invoke 0 (Reg 1) (IntKey (pos 4)) (Reg 3 ∷ Reg 1 ∷ Reg 3 ∷ []) ∷ actions.Return (Reg 2) ∷ actions.Invoke 3 (Reg 9) (Str (codes "take")) (Reg 1 ∷ []) ∷ actions.Remove (Reg 1) (Str (codes "f0")) ∷ []) ∷
            members.Method (IntKey (pos 4)) (actions.Load 2 0 ∷ actions.New 1 (codes "U") ∷ actions.New 3 (codes "Main") ∷ actions.New 4 (codes "Main") ∷ actions.Load 0 3 ∷ []) ∷
            members.Setter (Str (codes "f0")) (actions.Load 3 2 ∷ actions.New 5 (codes "U") ∷ actions.Put (Reg 0) (Str (codes "f0")) (Reg 3) ∷ actions.Slot 2 (Reg 1) ∷ actions.Invoke 11 (Reg 0) (IntKey (pos 4)) (Reg 1 ∷ Reg 3 ∷ Reg 5 ∷ []) ∷ actions.New 3 (codes "U") ∷ actions.New 2 (codes "U") ∷ actions.Invoke 2 (Reg 0) (IntKey (pos 4)) [] ∷ actions.Window 2 ∷ actions.Load 0 0 ∷ actions.New 1 (codes "Main") ∷ []) ∷
            members.Construct (actions.SelfTo 2 ∷ actions.OnEq (Reg 3) (Const values.Null) 2 ∷ actions.Load 1 0 ∷ actions.Get 0 (Reg 0) (Str (codes "f0")) ∷ actions.New 5 (codes "Main") ∷ actions.OnTrue 3 ∷ actions.New 1 (codes "U") ∷ actions.Put (Reg 1) (Str (codes "f1")) (Reg 2) ∷ actions.Return (Reg 1) ∷ []) ∷
            members.Method (Str (codes "take")) (actions.Load 1 2 ∷ actions.Load 0 3 ∷ actions.Window 3 ∷ actions.New 4 (codes "T") ∷ actions.Invoke 3 (Reg 2) (Str (codes "none")) (Reg 4 ∷ Reg 2 ∷ Reg 3 ∷ []) ∷ actions.OnFalse 1 ∷ actions.HasProperty (Reg 0) (IntKey (pos 7)) ∷ []) ∷ []);
      }) ∷
      (record {
        name = codes "U";
        version = 2;
        stored = true;
        members = (
            members.Method (Str (codes "m3")) (actions.Put (Reg 1) (IntKey (pos 7)) (Reg 0) ∷ actions.Load 3 3 ∷ actions.New 5 (codes "U") ∷ actions.New 4 (codes "T") ∷ actions.New 2 (codes "U") ∷ actions.New 5 (codes "Main") ∷ actions.Put (Reg 4) (IntKey (pos 7)) (Reg 4) ∷ actions.Drop 5 ∷ actions.Return (Reg 4) ∷ []) ∷
            members.Method (Str (codes "take")) (actions.New 5 (codes "U") ∷ actions.New 0 (codes "U") ∷ actions.Invoke 2 (Reg 0) (Str (codes "none")) (Const (values.Bool true) ∷ []) ∷ actions.Slot 3 (Reg 2) ∷ actions.New 3 (codes "T") ∷ actions.New 4 (codes "U") ∷ actions.HasMethod (Reg 0) (Str (codes "m3")) ∷ actions.Load 2 2 ∷ actions.Slot 0 (Reg 0) ∷ actions.Set 7 (Reg 0) ∷ actions.Load 1 0 ∷ []) ∷
            members.Method (Str (codes "m2")) (actions.Load 3 1 ∷ actions.Load 2 0 ∷ actions.New 4 (codes "U") ∷ actions.New 2 (codes "U") ∷ actions.Invoke 1 (Reg 11) (Str (codes "m3")) [] ∷ actions.HasProperty (Reg 3) (Str (codes "f1")) ∷ []) ∷
            members.Method (Str (codes "m1")) (actions.SelfTo 2 ∷ actions.Load 3 1 ∷ actions.Load 2 1 ∷ actions.New 4 (codes "U") ∷ actions.Load 1 1 ∷ actions.New 1 (codes "T") ∷ actions.Set 0 (Reg 0) ∷ actions.Put (Reg 0) (Str (codes "f1")) (Reg 2) ∷ actions.Invoke 1 (Reg 3) (Str (codes "m3")) [] ∷ actions.Window 1 ∷ []) ∷ []);
      }) ∷ []);
  handlers = (
      (record { which = handlers.New; body = (actions.New 0 (codes "Main") ∷ actions.Slot 0 (Reg 0) ∷ actions.Window 1 ∷ actions.Slot 1 (Reg 1) ∷ []) }) ∷
      (record { which = handlers.Scriptable; body = (actions.Load 0 0 ∷ actions.Return (Reg 0) ∷ []) }) ∷
      (record { which = handlers.Destroy; body = (actions.Load 3 1 ∷ actions.SelfTo 2 ∷ actions.Load 1 3 ∷ actions.New 5 (codes "Main") ∷ actions.Get 4 (Reg 1) (Str (codes "7")) ∷ actions.Put (Reg 1) (Str (codes "7")) (Reg 2) ∷ []) }) ∷ []);
  tasks = [];
}

-- the run of both
both-end : outcome 1500 page plugin ≡ record {
  page = (
      Created (record { side = sides.Page; instance = 1; serial = 1 }) ∷
      CommandResult 1 (results.Code NoError) ∷
      CommandResult 2 results.No ∷
      Created (record { side = sides.Page; instance = 2; serial = 1 }) ∷
      CommandResult 3 (results.Code NoError) ∷
      CommandResult 4 results.No ∷
      Created (record { side = sides.Page; instance = 1; serial = 2 }) ∷
      CommandResult 5 (results.Yes (values.Object (record { side = sides.Page; instance = 1; serial = 2 })) false) ∷
      Created (record { side = sides.Page; instance = 2; serial = 2 }) ∷
      CommandResult 6 (results.Yes (values.Object (record { side = sides.Page; instance = 2; serial = 2 })) false) ∷
      Entered (record { side = sides.Page; instance = 1; serial = 2 }) (ops.Invoke (Str (codes "m0"))) ∷
      CommandResult 7 (results.Threw []) ∷
      CommandResult 8 results.No ∷
      Created (record { side = sides.Page; instance = 1; serial = 3 }) ∷
      Deallocated (record { side = sides.Page; instance = 1; serial = 2 }) ∷
      CommandResult 9 (results.Yes (values.Object (record { side = sides.Page; instance = 1; serial = 3 })) false) ∷
      CommandResult 10 (results.Yes (values.Object (record { side = sides.Page; instance = 2; serial = 2 })) false) ∷
      Entered (record { side = sides.Page; instance = 2; serial = 2 }) (ops.Invoke (IntKey (pos 4))) ∷
      Created (record { side = sides.Page; instance = 2; serial = 3 }) ∷
      Created (record { side = sides.Page; instance = 2; serial = 4 }) ∷
      Noted values.Void false ∷
      Entered (record { side = sides.Page; instance = 2; serial = 4 }) (ops.Invoke (Str (codes "take"))) ∷
      Created (record { side = sides.Page; instance = 2; serial = 5 }) ∷
      Created (record { side = sides.Page; instance = 2; serial = 6 }) ∷
      Deallocated (record { side = sides.Page; instance = 2; serial = 5 }) ∷
      Deallocated (record { side = sides.Page; instance = 2; serial = 6 }) ∷
      Deallocated (record { side = sides.Page; instance = 2; serial = 4 }) ∷
      Deallocated (record { side = sides.Page; instance = 2; serial = 3 }) ∷
      CommandResult 11 (results.Yes values.Void false) ∷
      Entered (record { side = sides.Page; instance = 2; serial = 2 }) (ops.Invoke (IntKey (pos 4))) ∷
      Created (record { side = sides.Page; instance = 2; serial = 7 }) ∷
      Created (record { side = sides.Page; instance = 2; serial = 8 }) ∷
      Noted (values.Text (codes "r")) false ∷
      Entered (record { side = sides.Page; instance = 2; serial = 8 }) (ops.Invoke (Str (codes "take"))) ∷
      Created (record { side = sides.Page; instance = 2; serial = 9 }) ∷
      Created (record { side = sides.Page; instance = 2; serial = 10 }) ∷
      Deallocated (record { side = sides.Page; instance = 2; serial = 9 }) ∷
      Deallocated (record { side = sides.Page; instance = 2; serial = 10 }) ∷
      Deallocated (record { side = sides.Page; instance = 2; serial = 8 }) ∷
      Deallocated (record { side = sides.Page; instance = 2; serial = 7 }) ∷
      CommandResult 12 (results.Yes values.Void false) ∷
      Entered (record { side = sides.Page; instance = 2; serial = 2 }) (ops.HasMethod (Str (codes "m1"))) ∷
      CommandResult 13 (results.Yes values.Void false) ∷
      Created (record { side = sides.Page; instance = 2; serial = 11 }) ∷
      CommandResult 14 (results.Yes (values.Object (record { side = sides.Page; instance = 2; serial = 11 })) false) ∷
      Invalidated (record { side = sides.Page; instance = 1; serial = 1 }) ∷
      Invalidated (record { side = sides.Page; instance = 1; serial = 3 }) ∷
      Deallocated (record { side = sides.Page; instance = 1; serial = 1 }) ∷
      Deallocated (record { side = sides.Page; instance = 1; serial = 3 }) ∷
      Invalidated (record { side = sides.Page; instance = 2; serial = 1 }) ∷
      Invalidated (record { side = sides.Page; instance = 2; serial = 2 }) ∷
      Invalidated (record { side = sides.Page; instance = 2; serial = 11 }) ∷
      Deallocated (record { side = sides.Page; instance = 2; serial = 1 }) ∷
      Deallocated (record { side = sides.Page; instance = 2; serial = 2 }) ∷
      Deallocated (record { side = sides.Page; instance = 2; serial = 11 }) ∷ []);
  plugin = (
      HandlerRun 1 handlers.New ∷
      HandlerRun 1 handlers.Scriptable ∷
      HandlerRun 2 handlers.New ∷
      HandlerRun 2 handlers.Scriptable ∷
      HandlerRun 1 handlers.Destroy ∷
      ProxyGone (record { side = sides.Page; instance = 1; serial = 1 }) ∷
      HandlerRun 2 handlers.Destroy ∷
      ProxyGone (record { side = sides.Page; instance = 2; serial = 1 }) ∷ []);
  files = [];
  rests = true;
}
unfolding encoding digits is_text is_utf8 chars encode_utf8
both-end = refl

-- all bytes that the page sends
page-sends : page_bytes 1500 page plugin ≡ (0 ∷ 0 ∷ 0 ∷ 7 ∷ 1 ∷ 1 ∷ 0 ∷ 0 ∷ 1 ∷ 0 ∷ 27 ∷ 0 ∷ 0 ∷ 0 ∷ 12 ∷ 2 ∷ 1 ∷ 0 ∷ 0 ∷ 1 ∷ 2 ∷ 0 ∷ 3 ∷ 116 ∷ 47 ∷ 120 ∷ 0 ∷ 0 ∷ 0 ∷ 0 ∷ 11 ∷ 65 ∷ 2 ∷ 0 ∷ 0 ∷ 6 ∷ 0 ∷ 1 ∷ 0 ∷ 0 ∷ 0 ∷ 1 ∷ 0 ∷ 0 ∷ 0 ∷ 5 ∷ 4 ∷ 1 ∷ 0 ∷ 0 ∷ 1 ∷ 0 ∷ 0 ∷ 0 ∷ 12 ∷ 2 ∷ 1 ∷ 0 ∷ 0 ∷ 2 ∷ 2 ∷ 0 ∷ 3 ∷ 116 ∷ 47 ∷ 120 ∷ 0 ∷ 0 ∷ 0 ∷ 0 ∷ 11 ∷ 65 ∷ 2 ∷ 0 ∷ 0 ∷ 6 ∷ 0 ∷ 2 ∷ 0 ∷ 0 ∷ 0 ∷ 1 ∷ 0 ∷ 0 ∷ 0 ∷ 5 ∷ 4 ∷ 1 ∷ 0 ∷ 0 ∷ 2 ∷ 0 ∷ 0 ∷ 0 ∷ 5 ∷ 3 ∷ 1 ∷ 0 ∷ 0 ∷ 1 ∷ 0 ∷ 0 ∷ 0 ∷ 5 ∷ 3 ∷ 1 ∷ 0 ∷ 0 ∷ 2 ∷ 0 ∷ 0 ∷ 0 ∷ 4 ∷ 12 ∷ 1 ∷ 0 ∷ 0 ∷ [])
unfolding encoding digits is_text is_utf8 chars encode_utf8
page-sends = refl

-- all bytes that the plugin sends
plugin-sends : plugin_bytes 1500 page plugin ≡ (0 ∷ 0 ∷ 0 ∷ 5 ∷ 69 ∷ 1 ∷ 0 ∷ 0 ∷ 0 ∷ 0 ∷ 0 ∷ 0 ∷ 5 ∷ 32 ∷ 2 ∷ 0 ∷ 0 ∷ 1 ∷ 0 ∷ 0 ∷ 0 ∷ 5 ∷ 69 ∷ 1 ∷ 0 ∷ 0 ∷ 0 ∷ 0 ∷ 0 ∷ 0 ∷ 4 ∷ 66 ∷ 1 ∷ 0 ∷ 0 ∷ 0 ∷ 0 ∷ 0 ∷ 5 ∷ 32 ∷ 2 ∷ 0 ∷ 0 ∷ 2 ∷ 0 ∷ 0 ∷ 0 ∷ 5 ∷ 69 ∷ 1 ∷ 0 ∷ 0 ∷ 0 ∷ 0 ∷ 0 ∷ 0 ∷ 4 ∷ 66 ∷ 1 ∷ 0 ∷ 0 ∷ 0 ∷ 0 ∷ 0 ∷ 5 ∷ 69 ∷ 1 ∷ 0 ∷ 0 ∷ 0 ∷ 0 ∷ 0 ∷ 0 ∷ 5 ∷ 69 ∷ 1 ∷ 0 ∷ 0 ∷ 0 ∷ 0 ∷ 0 ∷ 0 ∷ 4 ∷ 71 ∷ 1 ∷ 0 ∷ 0 ∷ [])
unfolding encoding digits is_text is_utf8 chars encode_utf8
plugin-sends = refl

-- the plug-in's first 30 bytes hold 3 whole messages
cut-30 : lost_outcome 1500 (Some 3) page plugin ≡ record {
  page = (
      Created (record { side = sides.Page; instance = 1; serial = 1 }) ∷
      CommandResult 1 (results.Code NoError) ∷
      Invalidated (record { side = sides.Page; instance = 1; serial = 1 }) ∷
      Deallocated (record { side = sides.Page; instance = 1; serial = 1 }) ∷
      CommandResult 2 results.No ∷
      CommandResult 3 (results.Code ModuleLoadFailed) ∷
      CommandResult 4 results.No ∷
      CommandResult 5 results.No ∷
      CommandResult 6 results.No ∷
      CommandResult 7 results.No ∷
      CommandResult 8 results.No ∷
      CommandResult 9 results.No ∷
      CommandResult 10 (results.Yes values.Void false) ∷
      CommandResult 11 results.No ∷
      CommandResult 12 results.No ∷
      CommandResult 13 results.No ∷
      CommandResult 14 results.No ∷ []);
  rests = true;
}
unfolding encoding digits is_text is_utf8 chars encode_utf8
cut-30 = refl

-- the plug-in's first 77 bytes hold 8 whole messages
cut-77 : lost_outcome 1500 (Some 8) page plugin ≡ record {
  page = (
      Created (record { side = sides.Page; instance = 1; serial = 1 }) ∷
      CommandResult 1 (results.Code NoError) ∷
      CommandResult 2 results.No ∷
      Created (record { side = sides.Page; instance = 2; serial = 1 }) ∷
      CommandResult 3 (results.Code NoError) ∷
      CommandResult 4 results.No ∷
      Created (record { side = sides.Page; instance = 1; serial = 2 }) ∷
      CommandResult 5 (results.Yes (values.Object (record { side = sides.Page; instance = 1; serial = 2 })) false) ∷
      Created (record { side = sides.Page; instance = 2; serial = 2 }) ∷
      CommandResult 6 (results.Yes (values.Object (record { side = sides.Page; instance = 2; serial = 2 })) false) ∷
      Entered (record { side = sides.Page; instance = 1; serial = 2 }) (ops.Invoke (Str (codes "m0"))) ∷
      CommandResult 7 (results.Threw []) ∷
      CommandResult 8 results.No ∷
      Created (record { side = sides.Page; instance = 1; serial = 3 }) ∷
      Deallocated (record { side = sides.Page; instance = 1; serial = 2 }) ∷
      CommandResult 9 (results.Yes (values.Object (record { side = sides.Page; instance = 1; serial = 3 })) false) ∷
      CommandResult 10 (results.Yes (values.Object (record { side = sides.Page; instance = 2; serial = 2 })) false) ∷
      Entered (record { side = sides.Page; instance = 2; serial = 2 }) (ops.Invoke (IntKey (pos 4))) ∷
      Created (record { side = sides.Page; instance = 2; serial = 3 }) ∷
      Created (record { side = sides.Page; instance = 2; serial = 4 }) ∷
      Noted values.Void false ∷
      Entered (record { side = sides.Page; instance = 2; serial = 4 }) (ops.Invoke (Str (codes "take"))) ∷
      Created (record { side = sides.Page; instance = 2; serial = 5 }) ∷
      Created (record { side = sides.Page; instance = 2; serial = 6 }) ∷
      Deallocated (record { side = sides.Page; instance = 2; serial = 5 }) ∷
      Deallocated (record { side = sides.Page; instance = 2; serial = 6 }) ∷
      Deallocated (record { side = sides.Page; instance = 2; serial = 4 }) ∷
      Deallocated (record { side = sides.Page; instance = 2; serial = 3 }) ∷
      CommandResult 11 (results.Yes values.Void false) ∷
      Entered (record { side = sides.Page; instance = 2; serial = 2 }) (ops.Invoke (IntKey (pos 4))) ∷
      Created (record { side = sides.Page; instance = 2; serial = 7 }) ∷
      Created (record { side = sides.Page; instance = 2; serial = 8 }) ∷
      Noted (values.Text (codes "r")) false ∷
      Entered (record { side = sides.Page; instance = 2; serial = 8 }) (ops.Invoke (Str (codes "take"))) ∷
      Created (record { side = sides.Page; instance = 2; serial = 9 }) ∷
      Created (record { side = sides.Page; instance = 2; serial = 10 }) ∷
      Deallocated (record { side = sides.Page; instance = 2; serial = 9 }) ∷
      Deallocated (record { side = sides.Page; instance = 2; serial = 10 }) ∷
      Deallocated (record { side = sides.Page; instance = 2; serial = 8 }) ∷
      Deallocated (record { side = sides.Page; instance = 2; serial = 7 }) ∷
      CommandResult 12 (results.Yes values.Void false) ∷
      Entered (record { side = sides.Page; instance = 2; serial = 2 }) (ops.HasMethod (Str (codes "m1"))) ∷
      CommandResult 13 (results.Yes values.Void false) ∷
      Created (record { side = sides.Page; instance = 2; serial = 11 }) ∷
      CommandResult 14 (results.Yes (values.Object (record { side = sides.Page; instance = 2; serial = 11 })) false) ∷
      Invalidated (record { side = sides.Page; instance = 1; serial = 1 }) ∷
      Invalidated (record { side = sides.Page; instance = 1; serial = 3 }) ∷
      Deallocated (record { side = sides.Page; instance = 1; serial = 1 }) ∷
      Deallocated (record { side = sides.Page; instance = 1; serial = 3 }) ∷
      Invalidated (record { side = sides.Page; instance = 2; serial = 1 }) ∷
      Invalidated (record { side = sides.Page; instance = 2; serial = 2 }) ∷
      Invalidated (record { side = sides.Page; instance = 2; serial = 11 }) ∷
      Deallocated (record { side = sides.Page; instance = 2; serial = 1 }) ∷
      Deallocated (record { side = sides.Page; instance = 2; serial = 2 }) ∷
      Deallocated (record { side = sides.Page; instance = 2; serial = 11 }) ∷ []);
  rests = true;
}
unfolding encoding digits is_text is_utf8 chars encode_utf8
cut-77 = refl
