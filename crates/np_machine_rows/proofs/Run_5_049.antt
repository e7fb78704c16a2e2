-- Made by tools/vector-theorems of tests/vectors/5-049.
use Rattle.std.proofs.Common.{◌≡◌, pos, negsuc, [], ◌∷◌, refl, true, false, Some}
use Rattle.std.specs.Prelude.{codes}
use Rattle.std.specs.Char.{encode_utf8}
use Rattle.std.specs.Fmt.{digits}
use Rattle.std.specs.Str.{is_utf8, chars}
use Rattle.np_values.specs.declared.error.NpError.TheVariants.{NoError}
use Rattle.np_values.specs.declared.handler.Handler.TheVariants as handlers
use Rattle.np_values.specs.declared.name.Side.TheVariants as sides
use Rattle.np_values.specs.declared.value.Value.TheVariants as values
use Rattle.np_values.specs.Text.{is_text}
use Rattle.np_idents.specs.declared.key.IdKey.TheVariants.{Str, Int as IntKey}
use Rattle.np_idents.specs.declared.op.Op.TheVariants as ops
use Rattle.np_script_grammar.specs.declared.action.Action.TheVariants as actions
use Rattle.np_script_grammar.specs.declared.action.Operand.TheVariants.{Reg, Const}
use Rattle.np_script_grammar.specs.declared.class.Member.TheVariants as members
use Rattle.np_script_grammar.specs.declared.command.Command.TheVariants as commands
use Rattle.np_script_grammar.specs.declared.page.Page.{Page}
use Rattle.np_script_grammar.specs.declared.plugin.Plugin.{Plugin}
use Rattle.np_message.specs.Encoding.{encoding}
use Rattle.np_journal.specs.declared.line.Line.TheVariants.{Created, Entered, HandlerRun, ProxyGone, Invalidated, Deallocated, CommandResult}
use Rattle.np_journal.specs.declared.printed.Printed.TheVariants as results
use Rattle.np_machine_plans.specs.Outcomes.{outcome, page_bytes, plugin_bytes, lost_outcome}

abbrev page : Page
page = record {
  major = 0;
  minor = 27;
  classes = (
      (record {
        name = codes "Window";
        version = 3;
        stored = true;
        members = (
            members.Method (Str (codes "m0")) (actions.SelfTo 1 ∷ actions.Invoke 2 (Reg 0) (Str (codes "m0")) (Reg 1 ∷ []) ∷ actions.Note (Reg 3) ∷ actions.OnFalse 1 ∷ actions.Return (Reg 2) ∷ []) ∷
            members.Construct (actions.SelfTo 2 ∷ actions.New 5 (codes "Window") ∷ actions.New 4 (codes "B") ∷ actions.New 2 (codes "Window") ∷ []) ∷
            members.Method (Str (codes "m3")) (actions.Load 0 2 ∷ actions.Load 2 2 ∷ actions.New 4 (codes "B") ∷ actions.New 5 (codes "B") ∷ actions.Get 4 (Reg 2) (IntKey (pos 7)) ∷ actions.Put (Reg 2) (IntKey (pos 7)) (Reg 1) ∷ []) ∷
            members.Method (Str (codes "m1")) (actions.Load 2 0 ∷ actions.Load 3 1 ∷ actions.New 4 (codes "B") ∷ actions.New 5 (codes "B") ∷ actions.Put (Reg 4) (Str (codes "f1")) (Reg 5) ∷ actions.Drop 5 ∷ []) ∷
            members.Method (Str (codes "take")) [] ∷
            members.Method (Str (codes "m2")) (actions.Load 3 2 ∷ actions.SelfTo 2 ∷ actions.New 2 (codes "A") ∷ actions.Load 1 0 ∷ actions.Invoke 1 (Reg 0) (IntKey (pos 4)) (Reg 3 ∷ []) ∷ []) ∷
            members.Method (IntKey (pos 4)) (actions.Load 1 2 ∷ actions.Set 3 (Reg 1) ∷ actions.Put (Reg 2) (IntKey (pos 7)) (Reg 0) ∷ actions.Return (Reg 0) ∷ actions.Load 1 1 ∷ []) ∷ []);
      }) ∷
      (record {
        name = codes "A";
        version = 3;
        stored = true;
        members = (
            members.Method (Str (codes "m3")) (actions.Load 3 1 ∷ actions.New 1 (codes "B") ∷ actions.New 2 (codes "A") ∷ []) ∷
            members.Method (Str (codes "m0")) (actions.SelfTo 1 ∷ actions.Invoke 2 (Reg 0) (Str (codes "m0")) (Reg 1 ∷ []) ∷ actions.Note (Reg 3) ∷ actions.OnFalse 1 ∷ actions.Return (Reg 4) ∷ []) ∷
            members.Method (Str (codes "m1")) (actions.New 1 (codes "A") ∷ actions.New 2 (codes "A") ∷ actions.New 3 (codes "Window") ∷ []) ∷
            members.Method (Str (codes "take")) (actions.Load 0 1 ∷ actions.Get 1 (Reg 0) (Str (codes "f0")) ∷ actions.Put (Reg 0) (Str (codes "f0")) (Reg 0) ∷ actions.Drop 3 ∷ []) ∷
            members.Method (Str (codes "m2")) (actions.Load 0 2 ∷ actions.SelfTo 2 ∷ actions.New 1 (codes "A") ∷ actions.Slot 0 (Reg 2) ∷ actions.Load 2 3 ∷ []) ∷
            members.Method (IntKey (pos 4)) (actions.SelfTo 2 ∷ actions.Set 1 (Reg 3) ∷ actions.Load 0 2 ∷ actions.Invoke 0 (Reg 3) (Str (codes "take")) (Reg 0 ∷ Reg 2 ∷ Reg 0 ∷ []) ∷ actions.New 3 (codes "A") ∷ []) ∷
            members.Default (actions.Load 2 0 ∷ actions.Load 3 2 ∷ actions.New 1 (codes "B") ∷ actions.HasProperty (Reg 2) (IntKey (pos 7)) ∷ []) ∷
            members.Setter (Str (codes "f0")) (actions.SelfTo 2 ∷ actions.Add 2 (Reg 0) (Reg 0) ∷ actions.New 5 (codes "A") ∷ actions.New 4 (codes "B") ∷ actions.Slot 1 (Reg 2) ∷ actions.OnTrue 2 ∷ []) ∷ []);
      }) ∷
      (record {
        name = codes "B";
        version = 3;
        stored = true;
        members = (
            members.Method (Str (codes "m3")) (actions.Return (Reg 0) ∷ actions.New 3 (codes "Window") ∷ actions.Slot 2 (Reg 4) ∷ actions.Load 0 3 ∷ []) ∷
            members.Construct (actions.SelfTo 2 ∷ actions.Load 3 1 ∷ actions.New 4 (codes "Window") ∷ actions.New 5 (codes "B") ∷ actions.New 3 (codes "A") ∷ actions.Slot 1 (Reg 2) ∷ []) ∷
            members.Method (IntKey (pos 4)) (actions.Load 2 0 ∷ actions.New 2 (codes "B") ∷ actions.New 1 (codes "B") ∷ actions.New 4 (codes "Window") ∷ []) ∷
            members.Method (Str (codes "m2")) [] ∷
            members.Method (Str (codes "m1")) (actions.Load 2 0 ∷ actions.Load 1 3 ∷ actions.Load 0 2 ∷ []) ∷
            members.Method (Str (codes "take")) (actions.New 2 (codes "B") ∷ actions.New 4 (codes "B") ∷ actions.Slot 2 (Reg 2) ∷ []) ∷
            members.Method (Str (codes "m0")) (actions.SelfTo 1 ∷ actions.Invoke 2 (Reg 0) (Str (codes "m0")) (Reg 1 ∷ []) ∷ actions.OnFalse 1 ∷ actions.Return (Reg 0) ∷ []) ∷
            members.Setter (Str (codes "f1")) (actions.Load 3 1 ∷ actions.New 1 (codes "B") ∷ []) ∷ []);
      }) ∷ []);
  resources = [];
  commands = (
      commands.Create (codes "t/x") 1 [] ∷
      commands.Scriptable 0 1 ∷
      commands.Create (codes "t/x") 1 [] ∷
      commands.Scriptable 1 2 ∷
      commands.New 2 1 (codes "B") ∷
      commands.New 3 2 (codes "B") ∷
      commands.Invoke 4 (Reg 1) (IntKey (pos 4)) (Const (values.Int (pos 0)) ∷ Reg 3 ∷ []) ∷
      commands.Invoke 4 (Reg 1) (Str (codes "m3")) (Reg 5 ∷ Reg 1 ∷ Reg 4 ∷ []) ∷
      commands.Invoke 5 (Reg 3) (Str (codes "m2")) (Reg 4 ∷ []) ∷
      commands.Drop 4 ∷
      commands.Invoke 4 (Reg 3) (Str (codes "m2")) (Reg 1 ∷ []) ∷
      commands.Invoke 4 (Reg 3) (Str (codes "m1")) [] ∷
      commands.Set 0 (Const (values.Int (pos 0))) ∷
      commands.Invoke 0 (Reg 1) (Str (codes "m2")) (Reg 4 ∷ Reg 0 ∷ Reg 2 ∷ []) ∷ []);
}

abbrev plugin : Plugin
plugin = record {
  major = 0;
  minor = 27;
  classes = (
      (record {
        name = codes "Main";
        version = 2;
        stored = true;
        members = (
            members.Method (Str (codes "m2")) (actions.Return (Const (values.Bool false)) ∷ actions.Note (Const (values.Double (0 ∷ 1 ∷ 2 ∷ 3 ∷ 4 ∷ 5 ∷ 6 ∷ 7 ∷ []))) ∷ actions.Invoke 1 (Reg 0) (Str (codes "m3")) (Reg 14 ∷ Reg 2 ∷ Const (values.Text (195 ∷ 164 ∷ 34 ∷ 92 ∷ 1 ∷ 127 ∷ [])) ∷ Const (values.Int (negsuc 0)) ∷ Reg 1 ∷ Reg 2 ∷ Reg 0 ∷ Const (values.Int (pos 2147483647)) ∷ []) ∷ []) ∷
            members.Method (Str (codes "m0")) (actions.SelfTo 1 ∷ actions.Invoke 2 (Reg 1) (Str (codes "m0")) (Reg 1 ∷ []) ∷ actions.SelfTo 2 ∷ actions.Load 3 1 ∷ actions.Return (Reg 0) ∷ actions.OnFalse 1 ∷ actions.Return (Reg 3) ∷ []) ∷
            members.Method (IntKey (pos 4)) (actions.Load 2 0 ∷ actions.SelfTo 2 ∷ actions.Slot 2 (Reg 1) ∷ actions.Window 0 ∷ actions.New 4 (codes "T") ∷ actions.New 5 (codes "U") ∷ actions.Put (Reg 4) (Str (codes "f0")) (Reg 5) ∷ actions.Drop 5 ∷ actions.Slot 1 (Reg 4) ∷ actions.Drop 4 ∷ []) ∷
            members.Construct (actions.Load 3 1 ∷ actions.Load 2 0 ∷ actions.New 3 (codes "Main") ∷ []) ∷
            members.Method (Str (codes "take")) (actions.Load 2 0 ∷ actions.SelfTo 2 ∷ actions.Drop 0 ∷ []) ∷
            members.Method (Str (codes "m3")) (actions.Load 2 0 ∷ actions.Load 3 1 ∷ actions.OnFalse 2 ∷ actions.Window 3 ∷ actions.Slot 3 (Reg 1) ∷ actions.New 1 (codes "U") ∷ []) ∷
            members.Method (Str (codes "m1")) (actions.SelfTo 2 ∷ actions.Load 0 2 ∷ actions.Put (Reg 9) (Str (codes "f0")) (Reg 2) ∷ actions.Add 3 (Reg 0) (Reg 3) ∷ actions.Window 0 ∷ []) ∷ []);
      }) ∷
      (record {
        name = codes "T";
        version = 3;
        stored = false;
        members = (
            members.Method (IntKey (pos 4)) (actions.Load 3 1 ∷ actions.New 5 (codes "T") ∷ actions.New 1 (codes "U") ∷ actions.New 4 (codes "T") ∷ actions.Put (Reg 1) (Str (codes "7")) (Reg 3) ∷ actions.Put (Reg 1) (Str (codes "f1")) (Reg 1) ∷ actions.Slot 0 (Reg 1) ∷ actions.Enumerate 3 (Reg 1) ∷ []) ∷
            members.Method (Str (codes "take")) (actions.SelfTo 2 ∷ actions.Load 2 2 ∷ actions.Slot 0 (Reg 0) ∷ []) ∷
            members.Method (Str (codes "m2")) (actions.Load 1 2 ∷ actions.SelfTo 2 ∷ actions.Load 3 1 ∷ actions.Get 2 (Reg 3) (Str (codes "f1")) ∷ actions.Put (Reg 3) (Str (codes "f1")) (Reg 3) ∷ []) ∷
            members.Method (Str (codes "m0")) (actions.SelfTo 1 ∷ actions.Invoke 2 (Reg 0) (Str (codes "m0")) (Reg 1 ∷ []) ∷ actions.OnFalse 1 ∷ actions.Return (Reg 3) ∷ []) ∷ []);
      }) ∷
      (record {
        name = codes "U";
        version = 2;
        stored = true;
        members = (
            members.Getter (Str (codes "f0")) (actions.Load 1 2 ∷ actions.SelfTo 2 ∷ actions.Window 2 ∷ actions.Window 3 ∷ actions.New 2 (codes "Main") ∷ actions.Invoke 4 (Reg 3) (Str (codes "take")) (Reg 2 ∷ Reg 2 ∷ Reg 1 ∷ []) ∷ []) ∷
            members.Method (IntKey (pos 4)) (actions.Load 1 2 ∷ actions.Load 3 1 ∷ actions.Invoke 2 (Reg 3) (Str (codes "take")) (Reg 2 ∷ Reg 2 ∷ Reg 0 ∷ []) ∷ actions.Add 2 (Reg 5) (Reg 7) ∷ []) ∷
            members.Method (Str (codes "take")) (actions.Load 2 0 ∷ actions.Load 3 1 ∷ actions.Slot 2 (Const (values.Text (codes "r"))) ∷ actions.Get 1 (Reg 1) (IntKey (pos 7)) ∷ actions.Window 3 ∷ []) ∷
            members.Method (Str (codes "m3")) (actions.SelfTo 2 ∷ actions.New 4 (codes "U") ∷ actions.Slot 2 (Const (values.Text (codes "s"))) ∷ []) ∷
            members.Method (Str (codes "m2")) (actions.SelfTo 2 ∷ actions.Load 2 2 ∷ actions.Load 2 0 ∷ actions.Window 2 ∷ []) ∷
            members.Method (Str (codes "m0")) (actions.SelfTo 1 ∷ actions.Invoke 2 (Reg 0) (Str (codes "m0")) (Reg 1 ∷ []) ∷ actions.Window 3 ∷ actions.Note (Reg 3) ∷ actions.OnFalse 1 ∷ actions.Return (Reg 1) ∷ []) ∷
            members.Default (actions.Load 2 0 ∷ actions.Load 1 2 ∷ actions.Slot 0 (Reg 0) ∷ actions.Load 2 1 ∷ []) ∷ []);
      }) ∷ []);
  handlers = (
      (record { which = handlers.New; body = (actions.New 0 (codes "Main") ∷ actions.Slot 0 (Reg 0) ∷ actions.Window 1 ∷ actions.Slot 1 (Reg 1) ∷ []) }) ∷
      (record { which = handlers.Scriptable; body = (actions.Load 0 0 ∷ actions.Return (Reg 0) ∷ []) }) ∷ []);
  tasks = [];
}

-- the run of both
both-end : outcome 1500 page plugin ≡ record {
  page = (
      Created (record { side = sides.Page; instance = 1; serial = 1 }) ∷
      CommandResult 1 (results.Code NoError) ∷
      CommandResult 2 (results.Yes (values.Object (record { side = sides.Plug; instance = 1; serial = 1 })) false) ∷
      Created (record { side = sides.Page; instance = 2; serial = 1 }) ∷
      CommandResult 3 (results.Code NoError) ∷
      CommandResult 4 (results.Yes (values.Object (record { side = sides.Plug; instance = 2; serial = 1 })) false) ∷
      Created (record { side = sides.Page; instance = 1; serial = 2 }) ∷
      CommandResult 5 (results.Yes (values.Object (record { side = sides.Page; instance = 1; serial = 2 })) false) ∷
      Created (record { side = sides.Page; instance = 2; serial = 2 }) ∷
      CommandResult 6 (results.Yes (values.Object (record { side = sides.Page; instance = 2; serial = 2 })) false) ∷
      CommandResult 7 (results.Yes values.Void false) ∷
      CommandResult 8 (results.Yes values.Void false) ∷
      Entered (record { side = sides.Page; instance = 2; serial = 2 }) (ops.Invoke (Str (codes "m2"))) ∷
      CommandResult 9 (results.Yes values.Void false) ∷
      CommandResult 10 (results.Yes values.Void false) ∷
      Entered (record { side = sides.Page; instance = 2; serial = 2 }) (ops.Invoke (Str (codes "m2"))) ∷
      CommandResult 11 (results.Yes values.Void false) ∷
      Entered (record { side = sides.Page; instance = 2; serial = 2 }) (ops.Invoke (Str (codes "m1"))) ∷
      CommandResult 12 (results.Yes values.Void false) ∷
      CommandResult 13 (results.Yes (values.Int (pos 0)) false) ∷
      CommandResult 14 (results.Yes (values.Bool false) false) ∷
      Invalidated (record { side = sides.Page; instance = 1; serial = 1 }) ∷
      Invalidated (record { side = sides.Page; instance = 1; serial = 2 }) ∷
      Deallocated (record { side = sides.Page; instance = 1; serial = 1 }) ∷
      Deallocated (record { side = sides.Page; instance = 1; serial = 2 }) ∷
      ProxyGone (record { side = sides.Plug; instance = 2; serial = 1 }) ∷
      Invalidated (record { side = sides.Page; instance = 2; serial = 1 }) ∷
      Invalidated (record { side = sides.Page; instance = 2; serial = 2 }) ∷
      Deallocated (record { side = sides.Page; instance = 2; serial = 1 }) ∷
      Deallocated (record { side = sides.Page; instance = 2; serial = 2 }) ∷ []);
  plugin = (
      HandlerRun 1 handlers.New ∷
      Created (record { side = sides.Plug; instance = 1; serial = 1 }) ∷
      HandlerRun 1 handlers.Scriptable ∷
      HandlerRun 2 handlers.New ∷
      Created (record { side = sides.Plug; instance = 2; serial = 1 }) ∷
      HandlerRun 2 handlers.Scriptable ∷
      Entered (record { side = sides.Plug; instance = 2; serial = 1 }) (ops.Invoke (IntKey (pos 4))) ∷
      Created (record { side = sides.Plug; instance = 2; serial = 2 }) ∷
      Created (record { side = sides.Plug; instance = 2; serial = 3 }) ∷
      Deallocated (record { side = sides.Plug; instance = 2; serial = 3 }) ∷
      Entered (record { side = sides.Plug; instance = 2; serial = 1 }) (ops.Invoke (Str (codes "m3"))) ∷
      Created (record { side = sides.Plug; instance = 2; serial = 4 }) ∷
      Deallocated (record { side = sides.Plug; instance = 2; serial = 4 }) ∷
      Entered (record { side = sides.Plug; instance = 2; serial = 1 }) (ops.Invoke (Str (codes "m2"))) ∷
      ProxyGone (record { side = sides.Page; instance = 1; serial = 1 }) ∷
      Invalidated (record { side = sides.Plug; instance = 1; serial = 1 }) ∷
      Deallocated (record { side = sides.Plug; instance = 1; serial = 1 }) ∷
      ProxyGone (record { side = sides.Page; instance = 2; serial = 2 }) ∷
      Invalidated (record { side = sides.Plug; instance = 2; serial = 1 }) ∷
      Invalidated (record { side = sides.Plug; instance = 2; serial = 2 }) ∷
      Deallocated (record { side = sides.Plug; instance = 2; serial = 1 }) ∷
      Deallocated (record { side = sides.Plug; instance = 2; serial = 2 }) ∷ []);
  files = [];
  rests = true;
}
unfolding encoding digits is_text is_utf8 chars encode_utf8
both-end = refl

-- all bytes that the page sends
page-sends : page_bytes 1500 page plugin ≡ (0 ∷ 0 ∷ 0 ∷ 7 ∷ 1 ∷ 1 ∷ 0 ∷ 0 ∷ 1 ∷ 0 ∷ 27 ∷ 0 ∷ 0 ∷ 0 ∷ 12 ∷ 2 ∷ 1 ∷ 0 ∷ 0 ∷ 1 ∷ 1 ∷ 0 ∷ 3 ∷ 116 ∷ 47 ∷ 120 ∷ 0 ∷ 0 ∷ 0 ∷ 0 ∷ 11 ∷ 65 ∷ 2 ∷ 0 ∷ 0 ∷ 6 ∷ 0 ∷ 1 ∷ 0 ∷ 0 ∷ 0 ∷ 1 ∷ 0 ∷ 0 ∷ 0 ∷ 5 ∷ 4 ∷ 1 ∷ 0 ∷ 0 ∷ 1 ∷ 0 ∷ 0 ∷ 0 ∷ 12 ∷ 2 ∷ 1 ∷ 0 ∷ 0 ∷ 2 ∷ 1 ∷ 0 ∷ 3 ∷ 116 ∷ 47 ∷ 120 ∷ 0 ∷ 0 ∷ 0 ∷ 0 ∷ 11 ∷ 65 ∷ 2 ∷ 0 ∷ 0 ∷ 6 ∷ 0 ∷ 2 ∷ 0 ∷ 0 ∷ 0 ∷ 1 ∷ 0 ∷ 0 ∷ 0 ∷ 5 ∷ 4 ∷ 1 ∷ 0 ∷ 0 ∷ 2 ∷ 0 ∷ 0 ∷ 0 ∷ 28 ∷ 64 ∷ 1 ∷ 0 ∷ 0 ∷ 2 ∷ 0 ∷ 0 ∷ 0 ∷ 1 ∷ 1 ∷ 1 ∷ 0 ∷ 0 ∷ 0 ∷ 4 ∷ 2 ∷ 3 ∷ 0 ∷ 0 ∷ 0 ∷ 0 ∷ 6 ∷ 0 ∷ 2 ∷ 0 ∷ 0 ∷ 0 ∷ 2 ∷ 0 ∷ 0 ∷ 0 ∷ 11 ∷ 65 ∷ 2 ∷ 0 ∷ 0 ∷ 6 ∷ 0 ∷ 2 ∷ 0 ∷ 0 ∷ 0 ∷ 1 ∷ 0 ∷ 0 ∷ 0 ∷ 25 ∷ 64 ∷ 1 ∷ 0 ∷ 0 ∷ 2 ∷ 0 ∷ 0 ∷ 0 ∷ 1 ∷ 1 ∷ 0 ∷ 0 ∷ 2 ∷ 109 ∷ 51 ∷ 3 ∷ 0 ∷ 6 ∷ 1 ∷ 2 ∷ 0 ∷ 0 ∷ 0 ∷ 1 ∷ 0 ∷ 0 ∷ 0 ∷ 0 ∷ 11 ∷ 65 ∷ 2 ∷ 0 ∷ 0 ∷ 6 ∷ 0 ∷ 2 ∷ 0 ∷ 0 ∷ 0 ∷ 1 ∷ 0 ∷ 0 ∷ 0 ∷ 38 ∷ 64 ∷ 1 ∷ 0 ∷ 1 ∷ 1 ∷ 0 ∷ 0 ∷ 0 ∷ 1 ∷ 0 ∷ 0 ∷ 0 ∷ 1 ∷ 2 ∷ 0 ∷ 0 ∷ 0 ∷ 1 ∷ 1 ∷ 0 ∷ 0 ∷ 2 ∷ 109 ∷ 50 ∷ 3 ∷ 0 ∷ 3 ∷ 0 ∷ 0 ∷ 0 ∷ 0 ∷ 6 ∷ 0 ∷ 1 ∷ 0 ∷ 0 ∷ 0 ∷ 2 ∷ 0 ∷ 0 ∷ 0 ∷ 5 ∷ 3 ∷ 1 ∷ 0 ∷ 0 ∷ 1 ∷ 0 ∷ 0 ∷ 0 ∷ 5 ∷ 3 ∷ 1 ∷ 0 ∷ 0 ∷ 2 ∷ 0 ∷ 0 ∷ 0 ∷ 4 ∷ 12 ∷ 1 ∷ 0 ∷ 0 ∷ [])
unfolding encoding digits is_text is_utf8 chars encode_utf8
page-sends = refl

-- all bytes that the plugin sends
plugin-sends : plugin_bytes 1500 page plugin ≡ (0 ∷ 0 ∷ 0 ∷ 5 ∷ 69 ∷ 1 ∷ 0 ∷ 0 ∷ 0 ∷ 0 ∷ 0 ∷ 0 ∷ 5 ∷ 32 ∷ 2 ∷ 0 ∷ 0 ∷ 1 ∷ 0 ∷ 0 ∷ 0 ∷ 5 ∷ 69 ∷ 1 ∷ 0 ∷ 0 ∷ 0 ∷ 0 ∷ 0 ∷ 0 ∷ 11 ∷ 65 ∷ 1 ∷ 0 ∷ 0 ∷ 6 ∷ 1 ∷ 1 ∷ 0 ∷ 0 ∷ 0 ∷ 1 ∷ 0 ∷ 0 ∷ 0 ∷ 5 ∷ 32 ∷ 2 ∷ 0 ∷ 0 ∷ 2 ∷ 0 ∷ 0 ∷ 0 ∷ 5 ∷ 69 ∷ 1 ∷ 0 ∷ 0 ∷ 0 ∷ 0 ∷ 0 ∷ 0 ∷ 11 ∷ 65 ∷ 1 ∷ 0 ∷ 0 ∷ 6 ∷ 1 ∷ 2 ∷ 0 ∷ 0 ∷ 0 ∷ 1 ∷ 0 ∷ 0 ∷ 0 ∷ 5 ∷ 32 ∷ 2 ∷ 0 ∷ 0 ∷ 2 ∷ 0 ∷ 0 ∷ 0 ∷ 14 ∷ 65 ∷ 1 ∷ 0 ∷ 1 ∷ 2 ∷ 0 ∷ 0 ∷ 0 ∷ 1 ∷ 0 ∷ 0 ∷ 0 ∷ 2 ∷ 0 ∷ 0 ∷ 0 ∷ 0 ∷ 5 ∷ 32 ∷ 2 ∷ 0 ∷ 0 ∷ 2 ∷ 0 ∷ 0 ∷ 0 ∷ 14 ∷ 65 ∷ 1 ∷ 0 ∷ 1 ∷ 2 ∷ 0 ∷ 0 ∷ 0 ∷ 1 ∷ 0 ∷ 0 ∷ 0 ∷ 1 ∷ 0 ∷ 0 ∷ 0 ∷ 0 ∷ 15 ∷ 65 ∷ 1 ∷ 0 ∷ 1 ∷ 1 ∷ 0 ∷ 0 ∷ 0 ∷ 2 ∷ 0 ∷ 0 ∷ 0 ∷ 1 ∷ 2 ∷ 0 ∷ 0 ∷ 0 ∷ 0 ∷ 5 ∷ 69 ∷ 1 ∷ 0 ∷ 0 ∷ 0 ∷ 0 ∷ 0 ∷ 0 ∷ 5 ∷ 69 ∷ 1 ∷ 0 ∷ 0 ∷ 0 ∷ 0 ∷ 0 ∷ 0 ∷ 4 ∷ 71 ∷ 1 ∷ 0 ∷ 0 ∷ [])
unfolding encoding digits is_text is_utf8 chars encode_utf8
plugin-sends = refl

-- the plug-in's first 65 bytes hold 6 whole messages
cut-65 : lost_outcome 1500 (Some 6) page plugin ≡ record {
  page = (
      Created (record { side = sides.Page; instance = 1; serial = 1 }) ∷
      CommandResult 1 (results.Code NoError) ∷
      CommandResult 2 (results.Yes (values.Object (record { side = sides.Plug; instance = 1; serial = 1 })) false) ∷
      Created (record { side = sides.Page; instance = 2; serial = 1 }) ∷
      CommandResult 3 (results.Code NoError) ∷
      ProxyGone (record { side = sides.Plug; instance = 1; serial = 1 }) ∷
      Invalidated (record { side = sides.Page; instance = 1; serial = 1 }) ∷
      Deallocated (record { side = sides.Page; instance = 1; serial = 1 }) ∷
      Invalidated (record { side = sides.Page; instance = 2; serial = 1 }) ∷
      Deallocated (record { side = sides.Page; instance = 2; serial = 1 }) ∷
      CommandResult 4 results.No ∷
      CommandResult 5 results.No ∷
      CommandResult 6 results.No ∷
      CommandResult 7 results.No ∷
      CommandResult 8 results.No ∷
      CommandResult 9 results.No ∷
      CommandResult 10 (results.Yes values.Void false) ∷
      CommandResult 11 results.No ∷
      CommandResult 12 results.No ∷
      CommandResult 13 (results.Yes (values.Int (pos 0)) false) ∷
      CommandResult 14 results.No ∷ []);
  rests = true;
}
unfolding encoding digits is_text is_utf8 chars encode_utf8
cut-65 = refl

-- the plug-in's first 87 bytes hold 8 whole messages
cut-87 : lost_outcome 1500 (Some 8) page plugin ≡ record {
  page = (
      Created (record { side = sides.Page; instance = 1; serial = 1 }) ∷
      CommandResult 1 (results.Code NoError) ∷
      CommandResult 2 (results.Yes (values.Object (record { side = sides.Plug; instance = 1; serial = 1 })) false) ∷
      Created (record { side = sides.Page; instance = 2; serial = 1 }) ∷
      CommandResult 3 (results.Code NoError) ∷
      CommandResult 4 (results.Yes (values.Object (record { side = sides.Plug; instance = 2; serial = 1 })) false) ∷
      Created (record { side = sides.Page; instance = 1; serial = 2 }) ∷
      CommandResult 5 (results.Yes (values.Object (record { side = sides.Page; instance = 1; serial = 2 })) false) ∷
      Created (record { side = sides.Page; instance = 2; serial = 2 }) ∷
      CommandResult 6 (results.Yes (values.Object (record { side = sides.Page; instance = 2; serial = 2 })) false) ∷
      ProxyGone (record { side = sides.Plug; instance = 1; serial = 1 }) ∷
      Invalidated (record { side = sides.Page; instance = 1; serial = 1 }) ∷
      Invalidated (record { side = sides.Page; instance = 1; serial = 2 }) ∷
      Deallocated (record { side = sides.Page; instance = 1; serial = 1 }) ∷
      Deallocated (record { side = sides.Page; instance = 1; serial = 2 }) ∷
      ProxyGone (record { side = sides.Plug; instance = 2; serial = 1 }) ∷
      Invalidated (record { side = sides.Page; instance = 2; serial = 1 }) ∷
      Invalidated (record { side = sides.Page; instance = 2; serial = 2 }) ∷
      Deallocated (record { side = sides.Page; instance = 2; serial = 1 }) ∷
      Deallocated (record { side = sides.Page; instance = 2; serial = 2 }) ∷
      CommandResult 7 results.No ∷
      CommandResult 8 results.No ∷
      CommandResult 9 results.No ∷
      CommandResult 10 (results.Yes values.Void false) ∷
      CommandResult 11 results.No ∷
      CommandResult 12 results.No ∷
      CommandResult 13 (results.Yes (values.Int (pos 0)) false) ∷
      CommandResult 14 results.No ∷ []);
  rests = true;
}
unfolding encoding digits is_text is_utf8 chars encode_utf8
cut-87 = refl
