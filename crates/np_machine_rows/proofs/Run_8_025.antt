-- Made by tools/vector-theorems of tests/vectors/8-025.
use Rattle.std.proofs.Common.{◌≡◌, pos, [], ◌∷◌, refl, true, false, None}
use Rattle.std.specs.Prelude.{codes}
use Rattle.std.specs.Char.{encode_utf8}
use Rattle.std.specs.Fmt.{digits}
use Rattle.std.specs.Str.{is_utf8, chars}
use Rattle.np_values.specs.declared.error.NpError.TheVariants.{NoError}
use Rattle.np_values.specs.declared.handler.Handler.TheVariants as handlers
use Rattle.np_values.specs.declared.name.Side.TheVariants as sides
use Rattle.np_values.specs.declared.value.Value.TheVariants as values
use Rattle.np_values.specs.Text.{is_text}
use Rattle.np_idents.specs.declared.key.IdKey.TheVariants.{Str, Int as IntKey}
use Rattle.np_idents.specs.declared.op.Op.TheVariants as ops
use Rattle.np_script_grammar.specs.declared.action.Action.TheVariants as actions
use Rattle.np_script_grammar.specs.declared.action.Operand.TheVariants.{Reg, Const}
use Rattle.np_script_grammar.specs.declared.class.Member.TheVariants as members
use Rattle.np_script_grammar.specs.declared.command.Command.TheVariants as commands
use Rattle.np_script_grammar.specs.declared.page.Page.{Page}
use Rattle.np_script_grammar.specs.declared.plugin.Plugin.{Plugin}
use Rattle.np_message.specs.Encoding.{encoding}
use Rattle.np_journal.specs.declared.line.Line.TheVariants.{Created, Entered, HandlerRun, Invalidated, Deallocated, Noted, CommandResult}
use Rattle.np_journal.specs.declared.printed.Printed.TheVariants as results
use Rattle.np_machine_plans.specs.Outcomes.{outcome, page_bytes, plugin_bytes, lost_outcome}

abbrev page : Page
page = record {
  major = 0;
  minor = 27;
  classes = (
      (record {
        name = codes "Window";
        version = 1;
        stored = false;
        members = (
            members.Method (Str (codes "m2")) (actions.Invoke 5 (Reg 1) (Str (codes "take")) (Reg 2 ∷ []) ∷ []) ∷
            members.Method (Str (codes "m3")) (actions.Load 2 0 ∷ actions.Load 3 1 ∷ actions.New 2 (codes "A") ∷ actions.Load 2 0 ∷ actions.New 2 (codes "B") ∷ actions.Load 3 1 ∷ actions.Destroy 1 1 ∷ []) ∷
            members.Method (Str (codes "take")) (actions.Load 2 2 ∷ actions.Set 1 (Reg 1) ∷ actions.Slot 1 (Reg 1) ∷ actions.Load 1 0 ∷ []) ∷
            members.Method (IntKey (pos 4)) (actions.Load 3 2 ∷ actions.Load 3 3 ∷ actions.New 4 (codes "A") ∷ actions.New 3 (codes "Window") ∷ actions.Destroy 3 2 ∷ actions.Load 0 1 ∷ actions.Invoke 0 (Reg 2) (Str (codes "take")) (Reg 1 ∷ Reg 2 ∷ Reg 3 ∷ []) ∷ []) ∷
            members.Method (Str (codes "m1")) (actions.SelfTo 2 ∷ actions.Invoke 0 (Reg 0) (IntKey (pos 4)) (Reg 1 ∷ []) ∷ actions.Slot 2 (Reg 1) ∷ actions.New 4 (codes "Window") ∷ actions.New 5 (codes "B") ∷ actions.Put (Reg 4) (IntKey (pos 7)) (Reg 5) ∷ actions.New 5 (codes "B") ∷ actions.Put (Reg 4) (Str (codes "f1")) (Reg 1) ∷ actions.Drop 5 ∷ actions.Slot 2 (Reg 4) ∷ actions.Drop 4 ∷ []) ∷
            members.Setter (Str (codes "f0")) (actions.Load 3 1 ∷ actions.SelfTo 2 ∷ actions.New 1 (codes "A") ∷ actions.Note (Reg 12) ∷ actions.Invoke 2 (Const (values.Bool true)) (IntKey (pos 4)) (Reg 2 ∷ Reg 2 ∷ Reg 2 ∷ []) ∷ actions.Load 0 3 ∷ []) ∷
            members.Method (Str (codes "m0")) (actions.Load 1 2 ∷ actions.New 4 (codes "Window") ∷ actions.Destroy 0 2 ∷ actions.Slot 3 (Reg 0) ∷ actions.Slot 1 (Const (values.Double (0 ∷ 1 ∷ 2 ∷ 3 ∷ 4 ∷ 5 ∷ 6 ∷ 7 ∷ []))) ∷ actions.Load 3 3 ∷ actions.Note (Reg 2) ∷ actions.Put (Reg 11) (Str (codes "f1")) (Reg 1) ∷ []) ∷ []);
      }) ∷
      (record {
        name = codes "A";
        version = 2;
        stored = false;
        members = (
            members.Method (Str (codes "take")) (actions.SelfTo 2 ∷ actions.Destroy 1 3 ∷ actions.Destroy 0 2 ∷ actions.SelfTo 2 ∷ actions.New 0 (codes "B") ∷ actions.New 3 (codes "Window") ∷ actions.New 2 (codes "A") ∷ actions.New 1 (codes "Window") ∷ actions.Slot 0 (Reg 1) ∷ actions.Invoke 2 (Reg 0) (Str (codes "none")) [] ∷ []) ∷
            members.Method (Str (codes "m1")) [] ∷
            members.Default (actions.Load 2 0 ∷ actions.Load 1 2 ∷ actions.New 2 (codes "Window") ∷ actions.New 1 (codes "A") ∷ actions.SelfTo 3 ∷ []) ∷
            members.Method (IntKey (pos 4)) [] ∷
            members.Method (Str (codes "m2")) (actions.SelfTo 2 ∷ actions.Slot 2 (Reg 2) ∷ actions.Destroy 2 1 ∷ actions.Load 1 2 ∷ []) ∷
            members.Method (Str (codes "m0")) (actions.Load 2 0 ∷ actions.Load 3 1 ∷ actions.Invoke 3 (Reg 0) (Str (codes "take")) (Reg 0 ∷ Reg 5 ∷ Reg 2 ∷ []) ∷ []) ∷ []);
      }) ∷
      (record {
        name = codes "B";
        version = 2;
        stored = true;
        members = (
            members.Default (actions.New 5 (codes "A") ∷ actions.Put (Reg 10) (Str (codes "f1")) (Reg 2) ∷ actions.Load 1 0 ∷ []) ∷
            members.Method (Str (codes "m3")) (actions.Load 2 2 ∷ actions.SelfTo 2 ∷ actions.Load 3 2 ∷ actions.Note (Const (values.Int (pos 13))) ∷ actions.Slot 0 (Reg 4) ∷ actions.Drop 1 ∷ actions.OnEq (Reg 1) (Reg 3) 2 ∷ []) ∷
            members.Method (Str (codes "take")) (actions.Destroy 0 2 ∷ actions.Load 2 0 ∷ actions.Load 2 2 ∷ actions.Invoke 3 (Reg 1) (Str (codes "none")) (Reg 0 ∷ Reg 3 ∷ Reg 3 ∷ []) ∷ actions.Load 0 2 ∷ actions.Drop 0 ∷ []) ∷
            members.Method (IntKey (pos 4)) (actions.Load 2 0 ∷ actions.Load 3 2 ∷ actions.Destroy 1 2 ∷ actions.New 0 (codes "A") ∷ []) ∷
            members.Method (Str (codes "m1")) (actions.SelfTo 2 ∷ actions.New 3 (codes "A") ∷ actions.New 5 (codes "Window") ∷ []) ∷
            members.Method (Str (codes "m2")) (actions.Load 2 0 ∷ actions.Slot 3 (Reg 2) ∷ actions.Set 3 (Reg 1) ∷ actions.Invoke 0 (Reg 1) (Str (codes "take")) (Reg 1 ∷ Reg 3 ∷ Reg 1 ∷ []) ∷ actions.Drop 0 ∷ actions.Get 2 (Reg 2) (Str (codes "f1")) ∷ actions.Slot 0 (Reg 2) ∷ []) ∷
            members.Getter (Str (codes "f0")) (actions.Load 1 2 ∷ actions.Invoke 3 (Reg 2) (IntKey (pos 4)) (Reg 1 ∷ Reg 11 ∷ Reg 0 ∷ Reg 1 ∷ Const values.Void ∷ Reg 1 ∷ Reg 3 ∷ Reg 2 ∷ []) ∷ []) ∷ []);
      }) ∷ []);
  resources = [];
  commands = (
      commands.Create (codes "t/x") 2 (codes "a" ∷ codes "1" ∷ codes "a" ∷ codes "1" ∷ codes "a" ∷ codes "1" ∷ []) ∷
      commands.Scriptable 0 1 ∷
      commands.New 2 1 (codes "Window") ∷
      commands.New 3 1 (codes "A") ∷
      commands.Invoke 5 (Reg 2) (Str (codes "m0")) (Reg 3 ∷ Reg 2 ∷ Reg 1 ∷ []) ∷
      commands.Invoke 5 (Reg 3) (Str (codes "m3")) (Reg 0 ∷ Reg 1 ∷ Reg 2 ∷ []) ∷
      commands.Invoke 4 (Reg 2) (Str (codes "m2")) (Reg 1 ∷ Reg 2 ∷ []) ∷
      commands.Invoke 5 (Reg 1) (Str (codes "m2")) (Reg 1 ∷ []) ∷
      commands.Drop 1 ∷
      commands.Invoke 1 (Reg 1) (Str (codes "m1")) [] ∷
      commands.Invoke 4 (Reg 3) (Str (codes "m1")) (Reg 0 ∷ Reg 1 ∷ Reg 2 ∷ []) ∷
      commands.Invoke 4 (Reg 0) (Str (codes "m3")) (Reg 2 ∷ Reg 3 ∷ []) ∷
      commands.New 5 1 (codes "A") ∷
      commands.Invoke 5 (Reg 2) (Str (codes "m2")) (Reg 2 ∷ []) ∷
      commands.Drop 2 ∷
      commands.Invoke 4 (Reg 2) (Str (codes "m1")) (Reg 1 ∷ Reg 1 ∷ Reg 0 ∷ []) ∷
      commands.New 3 1 (codes "B") ∷
      commands.Invoke 5 (Reg 4) (Str (codes "m2")) (Reg 2 ∷ Reg 0 ∷ []) ∷
      commands.Invoke 0 (Reg 3) (IntKey (pos 4)) [] ∷
      commands.Invoke 5 (Reg 1) (IntKey (pos 4)) (Reg 3 ∷ Reg 4 ∷ Reg 1 ∷ []) ∷ []);
}

abbrev plugin : Plugin
plugin = record {
  major = 1;
  minor = 27;
  classes = (
      (record {
        name = codes "Main";
        version = 3;
        stored = false;
        members = (
            members.Setter (Str (codes "f0")) (actions.Load 3 1 ∷ actions.SelfTo 2 ∷ actions.Drop 0 ∷ []) ∷
            members.Method (Str (codes "m2")) (actions.Load 3 1 ∷ actions.Load 2 0 ∷ actions.Window 0 ∷ actions.Slot 1 (Reg 1) ∷ actions.Invoke 2 (Reg 3) (Str (codes "take")) (Reg 1 ∷ Reg 2 ∷ Reg 3 ∷ []) ∷ actions.Drop 1 ∷ actions.Slot 0 (Reg 0) ∷ actions.CallDefault 3 (Reg 1) (Reg 1 ∷ []) ∷ []) ∷
            members.Method (IntKey (pos 4)) (actions.Load 2 0 ∷ actions.Load 3 2 ∷ actions.Note (Reg 0) ∷ actions.Window 2 ∷ []) ∷
            members.Method (Str (codes "m1")) (actions.Load 3 1 ∷ actions.SelfTo 3 ∷ actions.Invoke 0 (Reg 2) (Str (codes "m2")) (Reg 0 ∷ Reg 2 ∷ []) ∷ []) ∷
            members.Method (Str (codes "m0")) (actions.Note (Reg 0) ∷ []) ∷
            members.Method (Str (codes "m3")) (actions.New 5 (codes "T") ∷ actions.New 3 (codes "T") ∷ actions.Note (Reg 0) ∷ actions.Throw [] ∷ actions.OnEq (Reg 0) (Reg 14) 3 ∷ []) ∷ []);
      }) ∷
      (record {
        name = codes "T";
        version = 3;
        stored = true;
        members = (
            members.Method (Str (codes "m3")) (actions.SelfTo 2 ∷ actions.Load 3 1 ∷ actions.Exit 17 ∷ actions.Invoke 3 (Reg 1) (IntKey (pos 4)) (Reg 1 ∷ Const values.Void ∷ Reg 3 ∷ Reg 3 ∷ Reg 0 ∷ Reg 2 ∷ Reg 0 ∷ Const (values.Text (195 ∷ 164 ∷ 34 ∷ 92 ∷ 1 ∷ 127 ∷ [])) ∷ []) ∷ []) ∷
            members.Method (IntKey (pos 4)) (actions.Load 2 0 ∷ actions.Load 3 2 ∷ actions.Exit 21 ∷ actions.Drop 3 ∷ actions.Get 1 (Const (values.Text (codes "r"))) (Str (codes "f0")) ∷ actions.Load 0 2 ∷ actions.New 2 (codes "Main") ∷ []) ∷
            members.Method (Str (codes "take")) (actions.Load 2 0 ∷ actions.Get 0 (Reg 2) (Str (codes "f0")) ∷ actions.Set 0 (Reg 3) ∷ actions.Invoke 3 (Reg 2) (Str (codes "none")) (Reg 0 ∷ []) ∷ []) ∷
            members.Method (Str (codes "m0")) (actions.New 2 (codes "Main") ∷ actions.New 3 (codes "Main") ∷ actions.Invoke 2 (Reg 0) (Str (codes "m1")) (Reg 1 ∷ Reg 3 ∷ []) ∷ actions.Return (Reg 0) ∷ actions.Window 1 ∷ actions.New 3 (codes "U") ∷ []) ∷
            members.Method (Str (codes "m2")) (actions.SelfTo 2 ∷ actions.Load 3 2 ∷ actions.New 4 (codes "U") ∷ actions.New 2 (codes "U") ∷ actions.New 1 (codes "T") ∷ actions.Put (Reg 4) (IntKey (pos 7)) (Reg 1) ∷ actions.New 4 (codes "T") ∷ actions.Put (Reg 4) (Str (codes "f1")) (Reg 4) ∷ actions.Slot 1 (Reg 4) ∷ actions.Enumerate 1 (Reg 4) ∷ []) ∷ []);
      }) ∷
      (record {
        name = codes "U";
        version = 3;
        stored = false;
        members = (
            members.Method (Str (codes "take")) (actions.Load 3 1 ∷ actions.New 1 (codes "Main") ∷ actions.New 3 (codes "T") ∷ actions.Exit 0 ∷ actions.New 4 (codes "U") ∷ actions.Enumerate 2 (Reg 1) ∷ actions.Get 0 (Reg 0) (Str (codes "f1")) ∷ actions.Load 3 2 ∷ []) ∷
            members.Method (Str (codes "m2")) (actions.Load 2 2 ∷ actions.Load 2 0 ∷ actions.New 5 (codes "U") ∷ actions.Put (Reg 3) (Str (codes "f0")) (Reg 3) ∷ []) ∷
            members.Default (actions.Load 2 2 ∷ actions.SelfTo 2 ∷ actions.SelfTo 3 ∷ actions.New 4 (codes "U") ∷ actions.New 4 (codes "T") ∷ actions.New 5 (codes "U") ∷ actions.Put (Reg 4) (Str (codes "f1")) (Reg 5) ∷ actions.Drop 5 ∷ actions.Slot 0 (Reg 4) ∷ actions.Drop 4 ∷ []) ∷
            members.Method (Str (codes "m1")) (actions.Load 2 0 ∷ actions.New 3 (codes "T") ∷ actions.New 1 (codes "T") ∷ actions.New 1 (codes "U") ∷ actions.New 4 (codes "U") ∷ actions.Window 4 ∷ actions.Slot 0 (Reg 0) ∷ actions.Drop 0 ∷ []) ∷
            members.Construct (actions.Load 2 0 ∷ actions.Load 3 1 ∷ actions.Load 0 1 ∷ actions.New 1 (codes "U") ∷ actions.New 2 (codes "T") ∷ actions.Put (Reg 1) (Str (codes "f0")) (Reg 3) ∷ []) ∷
            members.Method (Str (codes "m3")) (actions.SelfTo 2 ∷ actions.Slot 1 (Const values.Null) ∷ actions.Get 0 (Reg 3) (Str (codes "f0")) ∷ actions.New 4 (codes "Main") ∷ actions.Put (Reg 4) (Str (codes "f1")) (Reg 1) ∷ actions.Get 1 (Reg 4) (Str (codes "f1")) ∷ actions.Remove (Reg 4) (Str (codes "f1")) ∷ []) ∷
            members.Method (Str (codes "m0")) (actions.Load 2 0 ∷ actions.Set 2 (Reg 1) ∷ actions.Add 1 (Reg 1) (Reg 2) ∷ actions.New 4 (codes "U") ∷ actions.Put (Reg 4) (Str (codes "f0")) (Reg 0) ∷ actions.Put (Reg 4) (Str (codes "f1")) (Reg 4) ∷ actions.Slot 1 (Reg 4) ∷ actions.Enumerate 0 (Reg 4) ∷ []) ∷
            members.Method (IntKey (pos 4)) [] ∷ []);
      }) ∷ []);
  handlers = (
      (record { which = handlers.New; body = (actions.New 0 (codes "Main") ∷ actions.Slot 0 (Reg 0) ∷ actions.Window 1 ∷ actions.Slot 1 (Reg 1) ∷ []) }) ∷
      (record { which = handlers.Scriptable; body = (actions.Load 0 0 ∷ actions.Return (Reg 0) ∷ []) }) ∷
      (record { which = handlers.Destroy; body = (actions.Load 1 2 ∷ actions.Load 3 1 ∷ actions.Put (Reg 2) (Str (codes "f0")) (Reg 2) ∷ actions.Get 1 (Reg 2) (Str (codes "7")) ∷ actions.Exit 37 ∷ actions.OnEq (Reg 3) (Reg 0) 2 ∷ []) }) ∷ []);
  tasks = [];
}

-- the plug-in exits, and the page goes on alone
page-ends-alone : lost_outcome 1500 None page plugin ≡ record {
  page = (
      Created (record { side = sides.Page; instance = 1; serial = 1 }) ∷
      CommandResult 1 (results.Code NoError) ∷
      CommandResult 2 (results.Yes (values.Object (record { side = sides.Plug; instance = 1; serial = 1 })) false) ∷
      Created (record { side = sides.Page; instance = 1; serial = 2 }) ∷
      CommandResult 3 (results.Yes (values.Object (record { side = sides.Page; instance = 1; serial = 2 })) false) ∷
      Created (record { side = sides.Page; instance = 1; serial = 3 }) ∷
      CommandResult 4 (results.Yes (values.Object (record { side = sides.Page; instance = 1; serial = 3 })) false) ∷
      Entered (record { side = sides.Page; instance = 1; serial = 2 }) (ops.Invoke (Str (codes "m0"))) ∷
      Created (record { side = sides.Page; instance = 1; serial = 4 }) ∷
      Noted values.Void false ∷
      Deallocated (record { side = sides.Page; instance = 1; serial = 4 }) ∷
      CommandResult 5 (results.Yes values.Void false) ∷
      CommandResult 6 results.No ∷
      Entered (record { side = sides.Page; instance = 1; serial = 2 }) (ops.Invoke (Str (codes "m2"))) ∷
      Entered (record { side = sides.Page; instance = 1; serial = 2 }) (ops.Invoke (Str (codes "take"))) ∷
      CommandResult 7 (results.Yes values.Void false) ∷
      CommandResult 8 results.No ∷
      CommandResult 9 (results.Yes values.Void false) ∷
      CommandResult 10 results.No ∷
      Entered (record { side = sides.Page; instance = 1; serial = 3 }) (ops.Invoke (Str (codes "m1"))) ∷
      CommandResult 11 (results.Yes values.Void false) ∷
      CommandResult 12 (results.Threw []) ∷
      Created (record { side = sides.Page; instance = 1; serial = 5 }) ∷
      CommandResult 13 (results.Yes (values.Object (record { side = sides.Page; instance = 1; serial = 5 })) false) ∷
      Entered (record { side = sides.Page; instance = 1; serial = 2 }) (ops.Invoke (Str (codes "m2"))) ∷
      Deallocated (record { side = sides.Page; instance = 1; serial = 5 }) ∷
      CommandResult 14 (results.Yes values.Void false) ∷
      Deallocated (record { side = sides.Page; instance = 1; serial = 2 }) ∷
      CommandResult 15 (results.Yes values.Void false) ∷
      CommandResult 16 results.No ∷
      Created (record { side = sides.Page; instance = 1; serial = 6 }) ∷
      Deallocated (record { side = sides.Page; instance = 1; serial = 3 }) ∷
      CommandResult 17 (results.Yes (values.Object (record { side = sides.Page; instance = 1; serial = 6 })) false) ∷
      CommandResult 18 results.No ∷
      Entered (record { side = sides.Page; instance = 1; serial = 6 }) (ops.Invoke (IntKey (pos 4))) ∷
      Created (record { side = sides.Page; instance = 1; serial = 7 }) ∷
      Deallocated (record { side = sides.Page; instance = 1; serial = 7 }) ∷
      CommandResult 19 (results.Yes values.Void false) ∷
      CommandResult 20 results.No ∷
      Invalidated (record { side = sides.Page; instance = 1; serial = 1 }) ∷
      Invalidated (record { side = sides.Page; instance = 1; serial = 6 }) ∷
      Deallocated (record { side = sides.Page; instance = 1; serial = 1 }) ∷
      Deallocated (record { side = sides.Page; instance = 1; serial = 6 }) ∷ []);
  rests = true;
}
unfolding encoding digits is_text is_utf8 chars encode_utf8
page-ends-alone = refl

-- what the plug-in printed
plugin-exits : (outcome 1500 page plugin).plugin ≡ (
    HandlerRun 1 handlers.New ∷
    Created (record { side = sides.Plug; instance = 1; serial = 1 }) ∷
    HandlerRun 1 handlers.Scriptable ∷
    Entered (record { side = sides.Plug; instance = 1; serial = 1 }) (ops.Invoke (Str (codes "m3"))) ∷
    Created (record { side = sides.Plug; instance = 1; serial = 2 }) ∷
    Created (record { side = sides.Plug; instance = 1; serial = 3 }) ∷
    Noted (values.Object (record { side = sides.Page; instance = 1; serial = 2 })) false ∷
    Deallocated (record { side = sides.Plug; instance = 1; serial = 3 }) ∷
    Deallocated (record { side = sides.Plug; instance = 1; serial = 2 }) ∷
    HandlerRun 1 handlers.Destroy ∷ [])
unfolding encoding digits is_text is_utf8 chars encode_utf8
plugin-exits = refl

-- all bytes that the page sends
page-sends : page_bytes 1500 page plugin ≡ (0 ∷ 0 ∷ 0 ∷ 7 ∷ 1 ∷ 1 ∷ 0 ∷ 0 ∷ 1 ∷ 0 ∷ 27 ∷ 0 ∷ 0 ∷ 0 ∷ 30 ∷ 2 ∷ 1 ∷ 0 ∷ 0 ∷ 1 ∷ 2 ∷ 0 ∷ 3 ∷ 116 ∷ 47 ∷ 120 ∷ 3 ∷ 0 ∷ 1 ∷ 97 ∷ 0 ∷ 1 ∷ 49 ∷ 0 ∷ 1 ∷ 97 ∷ 0 ∷ 1 ∷ 49 ∷ 0 ∷ 1 ∷ 97 ∷ 0 ∷ 1 ∷ 49 ∷ 0 ∷ 0 ∷ 0 ∷ 11 ∷ 65 ∷ 2 ∷ 0 ∷ 0 ∷ 6 ∷ 0 ∷ 1 ∷ 0 ∷ 0 ∷ 0 ∷ 1 ∷ 0 ∷ 0 ∷ 0 ∷ 5 ∷ 4 ∷ 1 ∷ 0 ∷ 0 ∷ 1 ∷ 0 ∷ 0 ∷ 0 ∷ 30 ∷ 64 ∷ 1 ∷ 0 ∷ 0 ∷ 1 ∷ 0 ∷ 0 ∷ 0 ∷ 1 ∷ 1 ∷ 0 ∷ 0 ∷ 2 ∷ 109 ∷ 51 ∷ 2 ∷ 6 ∷ 0 ∷ 1 ∷ 0 ∷ 0 ∷ 0 ∷ 2 ∷ 6 ∷ 0 ∷ 1 ∷ 0 ∷ 0 ∷ 0 ∷ 3 ∷ 0 ∷ 0 ∷ 0 ∷ 14 ∷ 3 ∷ 1 ∷ 0 ∷ 1 ∷ 1 ∷ 0 ∷ 0 ∷ 0 ∷ 1 ∷ 0 ∷ 0 ∷ 0 ∷ 1 ∷ 1 ∷ [])
unfolding encoding digits is_text is_utf8 chars encode_utf8
page-sends = refl

-- all bytes that the plugin sends
plugin-sends : plugin_bytes 1500 page plugin ≡ (0 ∷ 0 ∷ 0 ∷ 5 ∷ 69 ∷ 1 ∷ 0 ∷ 0 ∷ 0 ∷ 0 ∷ 0 ∷ 0 ∷ 5 ∷ 32 ∷ 2 ∷ 0 ∷ 0 ∷ 1 ∷ 0 ∷ 0 ∷ 0 ∷ 5 ∷ 69 ∷ 1 ∷ 0 ∷ 0 ∷ 0 ∷ 0 ∷ 0 ∷ 0 ∷ 11 ∷ 65 ∷ 1 ∷ 0 ∷ 0 ∷ 6 ∷ 1 ∷ 1 ∷ 0 ∷ 0 ∷ 0 ∷ 1 ∷ 0 ∷ 0 ∷ 0 ∷ 24 ∷ 67 ∷ 1 ∷ 0 ∷ 2 ∷ 1 ∷ 0 ∷ 0 ∷ 0 ∷ 2 ∷ 0 ∷ 0 ∷ 0 ∷ 1 ∷ 1 ∷ 0 ∷ 0 ∷ 0 ∷ 3 ∷ 0 ∷ 0 ∷ 0 ∷ 1 ∷ 0 ∷ 0 ∷ [])
unfolding encoding digits is_text is_utf8 chars encode_utf8
plugin-sends = refl
