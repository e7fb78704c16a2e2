-- Made by tools/vector-theorems of tests/vectors/8-053.
use Rattle.std.proofs.Common.{◌≡◌, pos, [], ◌∷◌, refl, true, false}
use Rattle.std.specs.Prelude.{codes}
use Rattle.std.specs.Char.{encode_utf8}
use Rattle.std.specs.Fmt.{digits}
use Rattle.std.specs.Str.{is_utf8, chars}
use Rattle.np_values.specs.declared.error.NpError.TheVariants.{NoError}
use Rattle.np_values.specs.declared.handler.Handler.TheVariants as handlers
use Rattle.np_values.specs.declared.name.Side.TheVariants as sides
use Rattle.np_values.specs.declared.value.Value.TheVariants as values
use Rattle.np_values.specs.Text.{is_text}
use Rattle.np_idents.specs.declared.key.IdKey.TheVariants.{Str, Int as IntKey}
use Rattle.np_idents.specs.declared.op.Op.TheVariants as ops
use Rattle.np_script_grammar.specs.declared.action.Action.TheVariants as actions
use Rattle.np_script_grammar.specs.declared.action.Operand.TheVariants.{Reg, Const}
use Rattle.np_script_grammar.specs.declared.class.Member.TheVariants as members
use Rattle.np_script_grammar.specs.declared.command.Command.TheVariants as commands
use Rattle.np_script_grammar.specs.declared.page.Page.{Page}
use Rattle.np_script_grammar.specs.declared.plugin.Plugin.{Plugin}
use Rattle.np_message.specs.Encoding.{encoding}
use Rattle.np_journal.specs.declared.line.Line.TheVariants.{Created, Entered, HandlerRun, ProxyGone, Invalidated, Deallocated, Noted, CommandResult}
use Rattle.np_journal.specs.declared.printed.Printed.TheVariants as results
use Rattle.np_machine_plans.specs.Outcomes.{outcome, page_bytes, plugin_bytes}

abbrev page : Page
page = record {
  major = 0;
  minor = 27;
  classes = (
      (record {
        name = codes "Window";
        version = 3;
        stored = true;
        members = (
            members.Default (actions.Load 2 0 ∷ actions.Load 0 0 ∷ actions.Load 0 2 ∷ actions.Load 7 2 ∷ actions.CallDefault 3 (Reg 3) (Reg 3 ∷ Reg 13 ∷ Reg 3 ∷ Reg 0 ∷ Reg 5 ∷ Const (values.Bool true) ∷ Reg 4 ∷ Reg 2 ∷ []) ∷ actions.Load 0 1 ∷ actions.New 4 (codes "A") ∷ actions.New 5 (codes "Window") ∷ actions.Put (Reg 4) (Str (codes "f1")) (Reg 5) ∷ actions.Drop 5 ∷ actions.Return (Reg 5) ∷ []) ∷
            members.Construct (actions.Load 2 0 ∷ actions.Load 0 3 ∷ actions.HasProperty (Reg 3) (Str (codes "f0")) ∷ actions.Load 1 3 ∷ actions.Load 1 0 ∷ actions.HasMethod (Reg 2) (Str (codes "m2")) ∷ []) ∷
            members.Method (Str (codes "m2")) (actions.Load 0 2 ∷ actions.SelfTo 2 ∷ actions.Load 2 0 ∷ actions.Load 0 1 ∷ []) ∷
            members.Method (IntKey (pos 4)) (actions.SelfTo 2 ∷ actions.Load 3 2 ∷ actions.New 5 (codes "B") ∷ actions.New 3 (codes "B") ∷ actions.Set 3 (Reg 3) ∷ []) ∷
            members.Method (Str (codes "take")) (actions.New 3 (codes "Window") ∷ actions.Destroy 0 1 ∷ actions.Load 2 0 ∷ actions.Set 2 (Reg 2) ∷ actions.Slot 1 (Reg 0) ∷ actions.Invoke 3 (Reg 3) (Str (codes "none")) (Reg 2 ∷ Reg 2 ∷ Const (values.Text (195 ∷ 164 ∷ 34 ∷ 92 ∷ 1 ∷ 127 ∷ [])) ∷ []) ∷ []) ∷
            members.Method (Str (codes "m0")) (actions.SelfTo 2 ∷ actions.Load 2 0 ∷ actions.New 5 (codes "A") ∷ actions.New 1 (codes "B") ∷ actions.Invoke 3 (Reg 2) (Str (codes "m3")) (Reg 1 ∷ Reg 1 ∷ []) ∷ actions.Load 0 1 ∷ actions.Drop 0 ∷ actions.Destroy 3 1 ∷ actions.Invoke 2 (Reg 0) (Str (codes "m3")) (Const (values.Double (0 ∷ 1 ∷ 2 ∷ 3 ∷ 4 ∷ 5 ∷ 6 ∷ 7 ∷ [])) ∷ Reg 1 ∷ []) ∷ actions.Drop 0 ∷ []) ∷
            members.Method (Str (codes "m1")) (actions.Load 3 2 ∷ actions.CallDefault 3 (Reg 3) (Reg 0 ∷ Reg 1 ∷ Reg 2 ∷ []) ∷ actions.Enumerate 3 (Reg 1) ∷ actions.OnTrue 3 ∷ []) ∷ []);
      }) ∷
      (record {
        name = codes "A";
        version = 3;
        stored = true;
        members = (
            members.Method (Str (codes "m3")) (actions.Put (Reg 0) (Str (codes "f0")) (Reg 3) ∷ actions.New 3 (codes "A") ∷ actions.Load 0 0 ∷ []) ∷
            members.Method (Str (codes "m1")) (actions.Load 0 2 ∷ actions.SelfTo 2 ∷ actions.New 5 (codes "Window") ∷ actions.Load 1 3 ∷ actions.Drop 1 ∷ actions.Load 1 1 ∷ actions.New 2 (codes "B") ∷ actions.New 1 (codes "A") ∷ actions.Drop 0 ∷ actions.Get 0 (Reg 5) (Str (codes "f1")) ∷ actions.Load 0 2 ∷ []) ∷
            members.Method (Str (codes "m0")) (actions.SelfTo 2 ∷ actions.Load 3 1 ∷ actions.New 1 (codes "A") ∷ actions.New 2 (codes "A") ∷ actions.New 3 (codes "Window") ∷ actions.Construct 3 (Reg 0) (Reg 1 ∷ []) ∷ actions.Drop 2 ∷ actions.Invoke 3 (Reg 0) (Str (codes "m2")) (Reg 2 ∷ Reg 3 ∷ Reg 0 ∷ []) ∷ actions.Return (Reg 3) ∷ []) ∷
            members.Method (Str (codes "take")) (actions.Get 3 (Reg 0) (Str (codes "f0")) ∷ actions.Note (Const (values.Int (pos 13))) ∷ actions.HasProperty (Reg 4) (Str (codes "7")) ∷ []) ∷
            members.Method (Str (codes "m2")) (actions.Note (Reg 4) ∷ []) ∷
            members.Method (IntKey (pos 4)) [] ∷
            members.Default (actions.Load 2 0 ∷ actions.Load 3 1 ∷ actions.New 4 (codes "A") ∷ actions.New 4 (codes "A") ∷ actions.New 2 (codes "A") ∷ actions.New 5 (codes "A") ∷ actions.Put (Reg 4) (IntKey (pos 7)) (Reg 5) ∷ actions.New 3 (codes "Window") ∷ actions.New 5 (codes "Window") ∷ actions.Put (Reg 4) (Str (codes "f0")) (Reg 0) ∷ actions.Put (Reg 4) (Str (codes "f1")) (Reg 4) ∷ actions.Drop 5 ∷ actions.Slot 1 (Reg 4) ∷ actions.Drop 4 ∷ []) ∷ []);
      }) ∷
      (record {
        name = codes "B";
        version = 3;
        stored = false;
        members = (
            members.Method (Str (codes "m3")) [] ∷
            members.Method (Str (codes "m1")) (actions.Invoke 0 (Reg 3) (Str (codes "m2")) (Const (values.Int (pos 100)) ∷ Reg 0 ∷ Reg 2 ∷ []) ∷ actions.Note (Reg 2) ∷ []) ∷
            members.Method (Str (codes "take")) (actions.SelfTo 2 ∷ actions.Load 2 0 ∷ actions.Note (Reg 3) ∷ actions.SelfTo 0 ∷ actions.New 1 (codes "A") ∷ actions.Drop 0 ∷ actions.Put (Reg 5) (IntKey (pos 7)) (Reg 2) ∷ []) ∷
            members.Method (Str (codes "m2")) (actions.New 3 (codes "Window") ∷ []) ∷
            members.Default (actions.Load 2 0 ∷ actions.Slot 0 (Reg 3) ∷ []) ∷
            members.Method (IntKey (pos 4)) (actions.Load 3 2 ∷ actions.Enumerate 2 (Reg 15) ∷ actions.Invoke 2 (Reg 3) (Str (codes "take")) (Reg 0 ∷ []) ∷ actions.Drop 0 ∷ []) ∷
            members.Method (Str (codes "m0")) (actions.New 4 (codes "A") ∷ actions.Put (Reg 4) (Str (codes "f1")) (Reg 0) ∷ actions.Put (Reg 4) (Str (codes "f1")) (Reg 4) ∷ actions.Slot 0 (Reg 4) ∷ actions.Enumerate 0 (Reg 4) ∷ []) ∷ []);
      }) ∷ []);
  resources = [];
  commands = (
      commands.Create (codes "t/x") 1 [] ∷
      commands.Scriptable 0 1 ∷
      commands.New 2 1 (codes "Window") ∷
      commands.New 3 1 (codes "Window") ∷
      commands.Invoke 5 (Reg 2) (Str (codes "m0")) (Reg 4 ∷ Reg 0 ∷ Reg 2 ∷ []) ∷
      commands.Invoke 5 (Reg 0) (Str (codes "m2")) (Reg 2 ∷ Reg 1 ∷ Reg 2 ∷ []) ∷
      commands.Turn ∷
      commands.Invoke 1 (Reg 4) (Str (codes "m0")) (Reg 0 ∷ Reg 1 ∷ Reg 0 ∷ []) ∷
      commands.Invoke 5 (Reg 4) (Str (codes "m3")) (Reg 1 ∷ Reg 3 ∷ Reg 2 ∷ []) ∷
      commands.Drop 2 ∷
      commands.Invoke 3 (Reg 4) (Str (codes "m0")) (Reg 3 ∷ Reg 0 ∷ []) ∷
      commands.Invoke 3 (Reg 4) (Str (codes "take")) (Reg 1 ∷ Reg 2 ∷ Reg 0 ∷ []) ∷
      commands.Invoke 4 (Reg 2) (IntKey (pos 4)) (Const (values.Text (codes "r")) ∷ Const values.Null ∷ []) ∷
      commands.Invoke 2 (Reg 0) (Str (codes "take")) (Reg 2 ∷ Reg 4 ∷ Reg 3 ∷ []) ∷
      commands.CallDefault 0 (Reg 3) (Reg 0 ∷ Reg 3 ∷ Reg 3 ∷ []) ∷
      commands.Invoke 0 (Reg 3) (Str (codes "m0")) (Reg 4 ∷ Reg 1 ∷ Reg 5 ∷ []) ∷ []);
}

abbrev plugin : Plugin
plugin = record {
  major = 0;
  minor = 27;
  classes = (
      (record {
        name = codes "Main";
        version = 3;
        stored = true;
        members = (
            members.Default (actions.Load 2 0 ∷ actions.OnEq (Reg 1) (Reg 1) 3 ∷ actions.Slot 0 (Reg 0) ∷ actions.Set 5 (Reg 2) ∷ actions.Invoke 3 (Reg 0) (Str (codes "take")) (Reg 2 ∷ Reg 1 ∷ []) ∷ actions.Drop 2 ∷ []) ∷
            members.Method (Str (codes "m2")) (actions.SelfTo 2 ∷ actions.Load 1 2 ∷ actions.New 0 (codes "Main") ∷ actions.Exit 7 ∷ actions.CallDefault 0 (Reg 0) [] ∷ actions.Invoke 2 (Reg 1) (IntKey (pos 4)) (Reg 4 ∷ Reg 3 ∷ Reg 1 ∷ []) ∷ actions.New 0 (codes "U") ∷ actions.Return (Reg 5) ∷ []) ∷
            members.Construct (actions.SelfTo 2 ∷ actions.Load 2 0 ∷ actions.Exit 18 ∷ actions.Exit 15 ∷ actions.Load 2 1 ∷ []) ∷
            members.Setter (Str (codes "f0")) (actions.Load 2 0 ∷ actions.New 1 (codes "U") ∷ actions.Window 2 ∷ actions.Load 1 2 ∷ actions.New 2 (codes "U") ∷ actions.Load 2 3 ∷ actions.New 0 (codes "U") ∷ actions.Put (Reg 0) (Str (codes "f1")) (Reg 2) ∷ actions.Get 2 (Reg 0) (Str (codes "f1")) ∷ actions.Remove (Reg 0) (Str (codes "f1")) ∷ []) ∷
            members.Method (Str (codes "m0")) (actions.Load 3 2 ∷ actions.Load 3 1 ∷ actions.Get 2 (Reg 0) (Str (codes "f0")) ∷ actions.Put (Reg 3) (Str (codes "f1")) (Reg 1) ∷ actions.Fail ∷ []) ∷
            members.Method (Str (codes "m1")) (actions.SelfTo 2 ∷ actions.Load 3 1 ∷ actions.Invoke 1 (Reg 2) (Str (codes "m3")) (Reg 7 ∷ Reg 2 ∷ Reg 0 ∷ []) ∷ actions.SelfTo 0 ∷ actions.New 1 (codes "U") ∷ actions.Put (Reg 1) (Str (codes "f0")) (Reg 2) ∷ actions.Return (Reg 1) ∷ []) ∷
            members.Method (Str (codes "take")) (actions.Load 3 1 ∷ actions.Add 1 (Reg 6) (Reg 0) ∷ actions.Get 0 (Reg 3) (Str (codes "f0")) ∷ actions.New 3 (codes "T") ∷ actions.Slot 3 (Reg 1) ∷ actions.Add 0 (Reg 0) (Reg 1) ∷ actions.SelfTo 3 ∷ []) ∷
            members.Method (Str (codes "m3")) (actions.Load 3 1 ∷ actions.SelfTo 2 ∷ actions.OnFalse 3 ∷ actions.Remove (Reg 1) (Str (codes "f0")) ∷ actions.Slot 2 (Reg 3) ∷ []) ∷ []);
      }) ∷
      (record {
        name = codes "T";
        version = 2;
        stored = false;
        members = (
            members.Method (Str (codes "m0")) (actions.New 0 (codes "Main") ∷ actions.New 3 (codes "T") ∷ actions.Put (Reg 3) (Str (codes "7")) (Reg 4) ∷ actions.Get 4 (Reg 3) (Str (codes "7")) ∷ actions.Remove (Reg 3) (Str (codes "7")) ∷ []) ∷
            members.Method (Str (codes "m1")) (actions.Load 2 0 ∷ actions.Slot 2 (Reg 2) ∷ actions.New 5 (codes "Main") ∷ actions.Set 2 (Reg 4) ∷ actions.Fail ∷ []) ∷
            members.Method (Str (codes "take")) (actions.Load 2 0 ∷ actions.SelfTo 2 ∷ actions.New 3 (codes "T") ∷ []) ∷
            members.Method (IntKey (pos 4)) (actions.SelfTo 2 ∷ actions.New 2 (codes "U") ∷ actions.Exit 52 ∷ actions.Put (Reg 2) (IntKey (pos 7)) (Reg 2) ∷ []) ∷
            members.Method (Str (codes "m2")) (actions.Load 3 1 ∷ actions.SelfTo 9 ∷ actions.Set 3 (Reg 1) ∷ actions.New 0 (codes "Main") ∷ actions.Put (Reg 0) (IntKey (pos 7)) (Reg 4) ∷ actions.Get 4 (Reg 0) (IntKey (pos 7)) ∷ actions.Remove (Reg 0) (IntKey (pos 7)) ∷ []) ∷
            members.Method (Str (codes "m3")) (actions.Load 3 1 ∷ actions.Window 2 ∷ []) ∷ []);
      }) ∷ []);
  handlers = (
      (record { which = handlers.New; body = (actions.New 0 (codes "Main") ∷ actions.Slot 0 (Reg 0) ∷ actions.Window 1 ∷ actions.Slot 1 (Reg 1) ∷ []) }) ∷
      (record { which = handlers.Scriptable; body = (actions.Load 0 0 ∷ actions.Return (Reg 0) ∷ []) }) ∷
      (record { which = handlers.Destroy; body = (actions.Load 1 2 ∷ actions.SelfTo 2 ∷ actions.Note (Reg 0) ∷ actions.Set 2 (Reg 2) ∷ actions.Construct 3 (Reg 3) (Reg 1 ∷ Reg 1 ∷ Reg 3 ∷ []) ∷ actions.Window 4 ∷ actions.Window 0 ∷ []) }) ∷ []);
  tasks = [];
}

-- the run of both
both-end : outcome 1500 page plugin ≡ record {
  page = (
      Created (record { side = sides.Page; instance = 1; serial = 1 }) ∷
      CommandResult 1 (results.Code NoError) ∷
      CommandResult 2 (results.Yes (values.Object (record { side = sides.Plug; instance = 1; serial = 1 })) false) ∷
      Created (record { side = sides.Page; instance = 1; serial = 2 }) ∷
      CommandResult 3 (results.Yes (values.Object (record { side = sides.Page; instance = 1; serial = 2 })) false) ∷
      Created (record { side = sides.Page; instance = 1; serial = 3 }) ∷
      CommandResult 4 (results.Yes (values.Object (record { side = sides.Page; instance = 1; serial = 3 })) false) ∷
      Entered (record { side = sides.Page; instance = 1; serial = 2 }) (ops.Invoke (Str (codes "m0"))) ∷
      Created (record { side = sides.Page; instance = 1; serial = 4 }) ∷
      Created (record { side = sides.Page; instance = 1; serial = 5 }) ∷
      ProxyGone (record { side = sides.Plug; instance = 1; serial = 1 }) ∷
      Invalidated (record { side = sides.Page; instance = 1; serial = 1 }) ∷
      Invalidated (record { side = sides.Page; instance = 1; serial = 2 }) ∷
      Invalidated (record { side = sides.Page; instance = 1; serial = 3 }) ∷
      Invalidated (record { side = sides.Page; instance = 1; serial = 4 }) ∷
      Invalidated (record { side = sides.Page; instance = 1; serial = 5 }) ∷
      Deallocated (record { side = sides.Page; instance = 1; serial = 1 }) ∷
      Deallocated (record { side = sides.Page; instance = 1; serial = 2 }) ∷
      Deallocated (record { side = sides.Page; instance = 1; serial = 3 }) ∷
      Deallocated (record { side = sides.Page; instance = 1; serial = 4 }) ∷
      Deallocated (record { side = sides.Page; instance = 1; serial = 5 }) ∷
      CommandResult 5 results.No ∷
      CommandResult 6 results.No ∷
      CommandResult 7 (results.Yes values.Void false) ∷
      CommandResult 8 results.No ∷
      CommandResult 9 results.No ∷
      CommandResult 10 (results.Yes values.Void false) ∷
      CommandResult 11 results.No ∷
      CommandResult 12 results.No ∷
      CommandResult 13 results.No ∷
      CommandResult 14 results.No ∷
      CommandResult 15 results.No ∷
      CommandResult 16 results.No ∷ []);
  plugin = (
      HandlerRun 1 handlers.New ∷
      Created (record { side = sides.Plug; instance = 1; serial = 1 }) ∷
      HandlerRun 1 handlers.Scriptable ∷
      HandlerRun 1 handlers.Destroy ∷
      Noted values.Void false ∷
      ProxyGone (record { side = sides.Page; instance = 1; serial = 1 }) ∷
      Invalidated (record { side = sides.Plug; instance = 1; serial = 1 }) ∷
      Deallocated (record { side = sides.Plug; instance = 1; serial = 1 }) ∷ []);
  files = [];
  rests = true;
}
unfolding encoding digits is_text is_utf8 chars encode_utf8
both-end = refl

-- all bytes that the page sends
page-sends : page_bytes 1500 page plugin ≡ (0 ∷ 0 ∷ 0 ∷ 7 ∷ 1 ∷ 1 ∷ 0 ∷ 0 ∷ 1 ∷ 0 ∷ 27 ∷ 0 ∷ 0 ∷ 0 ∷ 12 ∷ 2 ∷ 1 ∷ 0 ∷ 0 ∷ 1 ∷ 1 ∷ 0 ∷ 3 ∷ 116 ∷ 47 ∷ 120 ∷ 0 ∷ 0 ∷ 0 ∷ 0 ∷ 11 ∷ 65 ∷ 2 ∷ 0 ∷ 0 ∷ 6 ∷ 0 ∷ 1 ∷ 0 ∷ 0 ∷ 0 ∷ 1 ∷ 0 ∷ 0 ∷ 0 ∷ 5 ∷ 4 ∷ 1 ∷ 0 ∷ 0 ∷ 1 ∷ 0 ∷ 0 ∷ 0 ∷ 5 ∷ 3 ∷ 2 ∷ 0 ∷ 0 ∷ 1 ∷ 0 ∷ 0 ∷ 0 ∷ 11 ∷ 65 ∷ 3 ∷ 0 ∷ 0 ∷ 6 ∷ 0 ∷ 1 ∷ 0 ∷ 0 ∷ 0 ∷ 1 ∷ 0 ∷ 0 ∷ 0 ∷ 11 ∷ 65 ∷ 3 ∷ 0 ∷ 0 ∷ 6 ∷ 0 ∷ 1 ∷ 0 ∷ 0 ∷ 0 ∷ 1 ∷ 0 ∷ 0 ∷ 0 ∷ 4 ∷ 5 ∷ 1 ∷ 0 ∷ 0 ∷ 0 ∷ 0 ∷ 0 ∷ 4 ∷ 12 ∷ 1 ∷ 0 ∷ 0 ∷ [])
unfolding encoding digits is_text is_utf8 chars encode_utf8
page-sends = refl

-- all bytes that the plugin sends
plugin-sends : plugin_bytes 1500 page plugin ≡ (0 ∷ 0 ∷ 0 ∷ 5 ∷ 69 ∷ 1 ∷ 0 ∷ 0 ∷ 0 ∷ 0 ∷ 0 ∷ 0 ∷ 5 ∷ 32 ∷ 2 ∷ 0 ∷ 0 ∷ 1 ∷ 0 ∷ 0 ∷ 0 ∷ 5 ∷ 69 ∷ 1 ∷ 0 ∷ 0 ∷ 0 ∷ 0 ∷ 0 ∷ 0 ∷ 11 ∷ 65 ∷ 1 ∷ 0 ∷ 0 ∷ 6 ∷ 1 ∷ 1 ∷ 0 ∷ 0 ∷ 0 ∷ 1 ∷ 0 ∷ 0 ∷ 0 ∷ 5 ∷ 32 ∷ 3 ∷ 0 ∷ 0 ∷ 1 ∷ 0 ∷ 0 ∷ 0 ∷ 5 ∷ 32 ∷ 3 ∷ 0 ∷ 0 ∷ 1 ∷ 0 ∷ 0 ∷ 0 ∷ 5 ∷ 69 ∷ 2 ∷ 0 ∷ 0 ∷ 0 ∷ 0 ∷ 0 ∷ 0 ∷ 4 ∷ 71 ∷ 1 ∷ 0 ∷ 0 ∷ 0 ∷ 0 ∷ 0 ∷ 4 ∷ 71 ∷ 1 ∷ 0 ∷ 0 ∷ [])
unfolding encoding digits is_text is_utf8 chars encode_utf8
plugin-sends = refl
