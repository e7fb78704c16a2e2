-- Made by tools/vector-theorems of tests/vectors/8-001.
use Rattle.std.proofs.Common.{◌≡◌, pos, negsuc, [], ◌∷◌, refl, true, false, Some}
use Rattle.std.specs.Prelude.{codes}
use Rattle.std.specs.Char.{encode_utf8}
use Rattle.std.specs.Fmt.{digits}
use Rattle.std.specs.Str.{is_utf8, chars}
use Rattle.np_values.specs.declared.error.NpError.TheVariants.{NoError}
use Rattle.np_values.specs.declared.handler.Handler.TheVariants as handlers
use Rattle.np_values.specs.declared.name.Side.TheVariants as sides
use Rattle.np_values.specs.declared.value.Value.TheVariants as values
use Rattle.np_values.specs.Text.{is_text}
use Rattle.np_idents.specs.declared.key.IdKey.TheVariants.{Str, Int as IntKey}
use Rattle.np_idents.specs.declared.op.Op.TheVariants as ops
use Rattle.np_script_grammar.specs.declared.action.Action.TheVariants as actions
use Rattle.np_script_grammar.specs.declared.action.Operand.TheVariants.{Reg, Const}
use Rattle.np_script_grammar.specs.declared.class.Member.TheVariants as members
use Rattle.np_script_grammar.specs.declared.command.Command.TheVariants as commands
use Rattle.np_script_grammar.specs.declared.page.Page.{Page}
use Rattle.np_script_grammar.specs.declared.plugin.Plugin.{Plugin}
use Rattle.np_message.specs.Encoding.{encoding}
use Rattle.np_journal.specs.declared.line.Line.TheVariants.{Created, Entered, HandlerRun, ProxyGone, Invalidated, Deallocated, Noted, CommandResult}
use Rattle.np_journal.specs.declared.printed.Printed.TheVariants as results
use Rattle.np_machine_plans.specs.Outcomes.{outcome, page_bytes, plugin_bytes, lost_outcome}

abbrev page : Page
page = record {
  major = 0;
  minor = 27;
  classes = (
      (record {
        name = codes "Window";
        version = 3;
        stored = true;
        members = (
            members.Method (Str (codes "take")) (actions.Load 0 2 ∷ actions.Load 3 1 ∷ actions.HasProperty (Reg 3) (Str (codes "7")) ∷ []) ∷
            members.Getter (Str (codes "f1")) (actions.Load 3 1 ∷ actions.New 2 (codes "Window") ∷ actions.New 4 (codes "Window") ∷ actions.New 5 (codes "Window") ∷ actions.Put (Reg 4) (Str (codes "f0")) (Reg 5) ∷ actions.Drop 5 ∷ actions.Slot 0 (Reg 4) ∷ actions.Drop 4 ∷ []) ∷
            members.Default (actions.Load 1 2 ∷ actions.Load 3 1 ∷ actions.New 5 (codes "B") ∷ actions.New 2 (codes "B") ∷ actions.New 4 (codes "Window") ∷ []) ∷
            members.Setter (Str (codes "f1")) (actions.SelfTo 3 ∷ []) ∷
            members.Method (Str (codes "m1")) (actions.Load 3 1 ∷ actions.New 1 (codes "A") ∷ actions.New 4 (codes "B") ∷ actions.New 2 (codes "Window") ∷ actions.Construct 2 (Reg 0) (Reg 3 ∷ Reg 1 ∷ []) ∷ actions.Invoke 3 (Reg 5) (Str (codes "m0")) (Reg 1 ∷ Reg 2 ∷ Const (values.Bool true) ∷ []) ∷ []) ∷
            members.Method (IntKey (pos 4)) [] ∷
            members.Method (Str (codes "m2")) (actions.New 4 (codes "Window") ∷ actions.OnTrue 1 ∷ actions.Destroy 2 1 ∷ []) ∷
            members.Method (Str (codes "m0")) (actions.Load 2 0 ∷ actions.Slot 2 (Const values.Void) ∷ []) ∷ []);
      }) ∷
      (record {
        name = codes "A";
        version = 1;
        stored = true;
        members = (
            members.Method (Str (codes "m1")) (actions.Load 2 0 ∷ actions.SelfTo 2 ∷ actions.Get 0 (Reg 0) (IntKey (pos 7)) ∷ actions.New 1 (codes "B") ∷ actions.Remove (Reg 2) (Str (codes "f1")) ∷ actions.New 3 (codes "Window") ∷ actions.New 2 (codes "B") ∷ actions.Put (Reg 2) (Str (codes "7")) (Reg 4) ∷ actions.Return (Reg 2) ∷ []) ∷
            members.Method (Str (codes "m3")) (actions.SelfTo 2 ∷ actions.Load 3 1 ∷ actions.Invoke 2 (Reg 0) (Str (codes "take")) (Reg 0 ∷ Reg 0 ∷ Reg 0 ∷ []) ∷ []) ∷
            members.Method (Str (codes "take")) (actions.Load 2 0 ∷ actions.Load 3 1 ∷ actions.Return (Reg 3) ∷ []) ∷
            members.Method (Str (codes "m0")) (actions.Load 2 0 ∷ actions.SelfTo 2 ∷ actions.Invoke 3 (Reg 1) (Str (codes "m1")) (Reg 1 ∷ Reg 0 ∷ []) ∷ actions.New 3 (codes "B") ∷ actions.Load 1 2 ∷ []) ∷
            members.Method (Str (codes "m2")) (actions.SelfTo 2 ∷ actions.Destroy 3 1 ∷ actions.Load 0 3 ∷ actions.Load 1 0 ∷ []) ∷
            members.Method (IntKey (pos 4)) (actions.Load 2 0 ∷ actions.Load 2 2 ∷ actions.New 4 (codes "B") ∷ actions.New 5 (codes "Window") ∷ actions.New 3 (codes "A") ∷ actions.Remove (Reg 2) (Str (codes "f0")) ∷ []) ∷ []);
      }) ∷
      (record {
        name = codes "B";
        version = 3;
        stored = true;
        members = (
            members.Method (Str (codes "take")) (actions.Load 2 0 ∷ actions.SelfTo 2 ∷ actions.Destroy 0 2 ∷ actions.Slot 1 (Reg 0) ∷ actions.Load 3 2 ∷ []) ∷
            members.Default (actions.Load 2 0 ∷ actions.Load 0 2 ∷ actions.Return (Reg 2) ∷ actions.New 4 (codes "A") ∷ actions.New 5 (codes "B") ∷ actions.Put (Reg 4) (Str (codes "f1")) (Reg 5) ∷ []) ∷
            members.Method (Str (codes "m3")) (actions.Load 2 0 ∷ actions.Load 5 2 ∷ actions.Load 2 1 ∷ actions.New 5 (codes "B") ∷ actions.New 1 (codes "Window") ∷ actions.Load 1 0 ∷ actions.Slot 1 (Reg 1) ∷ []) ∷
            members.Method (Str (codes "m2")) (actions.SelfTo 2 ∷ actions.Slot 3 (Const (values.Text (195 ∷ 164 ∷ 34 ∷ 92 ∷ 1 ∷ 127 ∷ []))) ∷ actions.Invoke 2 (Reg 1) (Str (codes "take")) (Reg 4 ∷ []) ∷ actions.OnFalse 2 ∷ []) ∷
            members.Method (Str (codes "m0")) (actions.Note (Reg 2) ∷ actions.Enumerate 3 (Reg 0) ∷ actions.Load 3 2 ∷ []) ∷
            members.Method (IntKey (pos 4)) (actions.SelfTo 2 ∷ actions.Load 1 2 ∷ actions.Invoke 3 (Reg 2) (Str (codes "m1")) (Reg 3 ∷ Reg 3 ∷ []) ∷ actions.Load 0 2 ∷ []) ∷
            members.Getter (Str (codes "f0")) (actions.Invoke 1 (Reg 3) (Str (codes "m0")) (Reg 9 ∷ Const (values.Int (negsuc 0)) ∷ []) ∷ []) ∷
            members.Setter (Str (codes "f0")) (actions.Load 3 1 ∷ actions.Load 2 0 ∷ actions.New 1 (codes "B") ∷ actions.New 2 (codes "A") ∷ actions.New 3 (codes "Window") ∷ []) ∷
            members.Method (Str (codes "m1")) (actions.Load 3 1 ∷ actions.Invoke 7 (Reg 0) (Str (codes "m1")) (Const (values.Int (pos 100)) ∷ Reg 3 ∷ Reg 3 ∷ []) ∷ []) ∷
            members.Construct (actions.Load 3 1 ∷ actions.Put (Reg 1) (IntKey (pos 7)) (Reg 3) ∷ actions.Load 0 0 ∷ actions.Invoke 0 (Reg 2) (Str (codes "m0")) (Reg 0 ∷ Reg 1 ∷ Reg 1 ∷ []) ∷ []) ∷ []);
      }) ∷ []);
  resources = [];
  commands = (
      commands.Create (codes "t/x") 1 [] ∷
      commands.Scriptable 0 1 ∷
      commands.New 2 1 (codes "B") ∷
      commands.New 3 1 (codes "Window") ∷
      commands.Invoke 5 (Reg 1) (Str (codes "m3")) (Reg 0 ∷ Reg 3 ∷ Reg 1 ∷ []) ∷
      commands.Invoke 5 (Reg 2) (Str (codes "m0")) (Reg 2 ∷ Reg 3 ∷ Reg 0 ∷ []) ∷
      commands.Invoke 5 (Reg 2) (Str (codes "m1")) (Reg 2 ∷ Reg 3 ∷ Reg 1 ∷ []) ∷
      commands.Invoke 4 (Reg 1) (Str (codes "take")) [] ∷
      commands.Invoke 5 (Reg 1) (Str (codes "m1")) [] ∷
      commands.Invoke 4 (Reg 2) (IntKey (pos 4)) (Reg 3 ∷ Const (values.Text (195 ∷ 164 ∷ 34 ∷ 92 ∷ 1 ∷ 127 ∷ [])) ∷ Reg 13 ∷ []) ∷
      commands.Invoke 5 (Reg 4) (Str (codes "m0")) (Reg 5 ∷ Reg 2 ∷ Reg 0 ∷ []) ∷
      commands.Create (codes "t/y") 2 [] ∷
      commands.Scriptable 0 2 ∷
      commands.Invoke 3 (Reg 2) (Str (codes "m2")) (Reg 1 ∷ Reg 1 ∷ Const (values.Int (pos 2147483647)) ∷ []) ∷ []);
}

abbrev plugin : Plugin
plugin = record {
  major = 0;
  minor = 27;
  classes = (
      (record {
        name = codes "Main";
        version = 1;
        stored = false;
        members = (
            members.Method (Str (codes "m0")) (actions.SelfTo 2 ∷ actions.Load 2 0 ∷ actions.Invoke 5 (Const (values.Int (negsuc 0))) (Str (codes "m1")) [] ∷ actions.Window 2 ∷ []) ∷
            members.Default (actions.New 5 (codes "T") ∷ actions.New 2 (codes "T") ∷ []) ∷
            members.Getter (Str (codes "f1")) (actions.SelfTo 2 ∷ actions.Load 3 1 ∷ actions.Enumerate 3 (Reg 0) ∷ []) ∷
            members.Method (Str (codes "m1")) [] ∷
            members.Method (IntKey (pos 4)) [] ∷
            members.Method (Str (codes "m2")) (actions.Load 3 2 ∷ actions.CallDefault 1 (Reg 3) (Reg 2 ∷ []) ∷ []) ∷
            members.Method (Str (codes "m3")) (actions.Load 1 2 ∷ actions.Load 2 0 ∷ actions.New 2 (codes "T") ∷ actions.New 4 (codes "Main") ∷ actions.New 5 (codes "U") ∷ actions.Invoke 1 (Reg 2) (Str (codes "take")) [] ∷ []) ∷
            members.Method (Str (codes "take")) [] ∷ []);
      }) ∷
      (record {
        name = codes "T";
        version = 1;
        stored = true;
        members = (
            members.Method (Str (codes "m0")) (actions.Load 2 0 ∷ actions.New 2 (codes "T") ∷ []) ∷
            members.Method (Str (codes "m1")) [] ∷
            members.Method (Str (codes "m3")) (actions.Load 2 2 ∷ actions.Invoke 0 (Reg 1) (IntKey (pos 4)) (Reg 3 ∷ Reg 2 ∷ []) ∷ []) ∷
            members.Method (Str (codes "take")) (actions.SelfTo 2 ∷ actions.Load 3 1 ∷ actions.Construct 0 (Reg 0) (Reg 1 ∷ Reg 0 ∷ Reg 1 ∷ []) ∷ actions.New 5 (codes "Main") ∷ actions.New 1 (codes "U") ∷ actions.OnTrue 2 ∷ actions.New 1 (codes "T") ∷ []) ∷
            members.Method (Str (codes "m2")) [] ∷
            members.Method (IntKey (pos 4)) [] ∷ []);
      }) ∷ []);
  handlers = (
      (record { which = handlers.New; body = (actions.New 0 (codes "Main") ∷ actions.Slot 0 (Reg 0) ∷ actions.Window 1 ∷ actions.Slot 1 (Reg 1) ∷ actions.Load 2 2 ∷ actions.SelfTo 2 ∷ actions.OnTrue 3 ∷ actions.Construct 0 (Reg 0) (Reg 0 ∷ Const (values.Int (pos 13)) ∷ []) ∷ actions.Load 0 2 ∷ []) }) ∷
      (record { which = handlers.Scriptable; body = (actions.Load 0 0 ∷ actions.Return (Reg 0) ∷ []) }) ∷ []);
  tasks = [];
}

-- the run of both
both-end : outcome 1500 page plugin ≡ record {
  page = (
      Created (record { side = sides.Page; instance = 1; serial = 1 }) ∷
      CommandResult 1 (results.Code NoError) ∷
      CommandResult 2 (results.Yes (values.Object (record { side = sides.Plug; instance = 1; serial = 1 })) false) ∷
      Created (record { side = sides.Page; instance = 1; serial = 2 }) ∷
      CommandResult 3 (results.Yes (values.Object (record { side = sides.Page; instance = 1; serial = 2 })) false) ∷
      Created (record { side = sides.Page; instance = 1; serial = 3 }) ∷
      CommandResult 4 (results.Yes (values.Object (record { side = sides.Page; instance = 1; serial = 3 })) false) ∷
      CommandResult 5 results.No ∷
      Entered (record { side = sides.Page; instance = 1; serial = 2 }) (ops.Invoke (Str (codes "m0"))) ∷
      Noted (values.Object (record { side = sides.Plug; instance = 1; serial = 1 })) false ∷
      Entered (record { side = sides.Page; instance = 1; serial = 2 }) ops.Enumerate ∷
      CommandResult 6 (results.Yes values.Void false) ∷
      Entered (record { side = sides.Page; instance = 1; serial = 2 }) (ops.Invoke (Str (codes "m1"))) ∷
      Entered (record { side = sides.Page; instance = 1; serial = 2 }) (ops.Invoke (Str (codes "m1"))) ∷
      CommandResult 7 (results.Yes values.Void false) ∷
      CommandResult 8 results.No ∷
      CommandResult 9 results.No ∷
      Entered (record { side = sides.Page; instance = 1; serial = 2 }) (ops.Invoke (IntKey (pos 4))) ∷
      Entered (record { side = sides.Page; instance = 1; serial = 2 }) (ops.Invoke (Str (codes "m1"))) ∷
      CommandResult 10 (results.Yes values.Void false) ∷
      CommandResult 11 results.No ∷
      Created (record { side = sides.Page; instance = 2; serial = 1 }) ∷
      CommandResult 12 (results.Code NoError) ∷
      CommandResult 13 (results.Yes (values.Object (record { side = sides.Plug; instance = 2; serial = 1 })) false) ∷
      Entered (record { side = sides.Page; instance = 1; serial = 2 }) (ops.Invoke (Str (codes "m2"))) ∷
      Deallocated (record { side = sides.Page; instance = 1; serial = 3 }) ∷
      CommandResult 14 (results.Yes values.Void false) ∷
      Invalidated (record { side = sides.Page; instance = 1; serial = 1 }) ∷
      Invalidated (record { side = sides.Page; instance = 1; serial = 2 }) ∷
      Deallocated (record { side = sides.Page; instance = 1; serial = 1 }) ∷
      Deallocated (record { side = sides.Page; instance = 1; serial = 2 }) ∷
      ProxyGone (record { side = sides.Plug; instance = 2; serial = 1 }) ∷
      Invalidated (record { side = sides.Page; instance = 2; serial = 1 }) ∷
      Deallocated (record { side = sides.Page; instance = 2; serial = 1 }) ∷ []);
  plugin = (
      HandlerRun 1 handlers.New ∷
      Created (record { side = sides.Plug; instance = 1; serial = 1 }) ∷
      HandlerRun 1 handlers.Scriptable ∷
      HandlerRun 2 handlers.New ∷
      Created (record { side = sides.Plug; instance = 2; serial = 1 }) ∷
      HandlerRun 2 handlers.Scriptable ∷
      ProxyGone (record { side = sides.Page; instance = 1; serial = 1 }) ∷
      Invalidated (record { side = sides.Plug; instance = 1; serial = 1 }) ∷
      Deallocated (record { side = sides.Plug; instance = 1; serial = 1 }) ∷
      ProxyGone (record { side = sides.Page; instance = 2; serial = 1 }) ∷
      Invalidated (record { side = sides.Plug; instance = 2; serial = 1 }) ∷
      Deallocated (record { side = sides.Plug; instance = 2; serial = 1 }) ∷ []);
  files = [];
  rests = true;
}
unfolding encoding digits is_text is_utf8 chars encode_utf8
both-end = refl

-- all bytes that the page sends
page-sends : page_bytes 1500 page plugin ≡ (0 ∷ 0 ∷ 0 ∷ 7 ∷ 1 ∷ 1 ∷ 0 ∷ 0 ∷ 1 ∷ 0 ∷ 27 ∷ 0 ∷ 0 ∷ 0 ∷ 12 ∷ 2 ∷ 1 ∷ 0 ∷ 0 ∷ 1 ∷ 1 ∷ 0 ∷ 3 ∷ 116 ∷ 47 ∷ 120 ∷ 0 ∷ 0 ∷ 0 ∷ 0 ∷ 11 ∷ 65 ∷ 2 ∷ 0 ∷ 0 ∷ 6 ∷ 0 ∷ 1 ∷ 0 ∷ 0 ∷ 0 ∷ 1 ∷ 0 ∷ 0 ∷ 0 ∷ 5 ∷ 4 ∷ 1 ∷ 0 ∷ 0 ∷ 1 ∷ 0 ∷ 0 ∷ 0 ∷ 12 ∷ 2 ∷ 1 ∷ 0 ∷ 0 ∷ 2 ∷ 2 ∷ 0 ∷ 3 ∷ 116 ∷ 47 ∷ 121 ∷ 0 ∷ 0 ∷ 0 ∷ 0 ∷ 11 ∷ 65 ∷ 2 ∷ 0 ∷ 0 ∷ 6 ∷ 0 ∷ 2 ∷ 0 ∷ 0 ∷ 0 ∷ 1 ∷ 0 ∷ 0 ∷ 0 ∷ 5 ∷ 4 ∷ 1 ∷ 0 ∷ 0 ∷ 2 ∷ 0 ∷ 0 ∷ 0 ∷ 14 ∷ 3 ∷ 1 ∷ 0 ∷ 1 ∷ 1 ∷ 0 ∷ 0 ∷ 0 ∷ 1 ∷ 0 ∷ 0 ∷ 0 ∷ 1 ∷ 1 ∷ 0 ∷ 0 ∷ 0 ∷ 5 ∷ 3 ∷ 1 ∷ 0 ∷ 0 ∷ 2 ∷ 0 ∷ 0 ∷ 0 ∷ 4 ∷ 12 ∷ 1 ∷ 0 ∷ 0 ∷ [])
unfolding encoding digits is_text is_utf8 chars encode_utf8
page-sends = refl

-- all bytes that the plugin sends
plugin-sends : plugin_bytes 1500 page plugin ≡ (0 ∷ 0 ∷ 0 ∷ 5 ∷ 69 ∷ 1 ∷ 0 ∷ 0 ∷ 0 ∷ 0 ∷ 0 ∷ 0 ∷ 5 ∷ 32 ∷ 2 ∷ 0 ∷ 0 ∷ 1 ∷ 0 ∷ 0 ∷ 0 ∷ 5 ∷ 69 ∷ 1 ∷ 0 ∷ 0 ∷ 0 ∷ 0 ∷ 0 ∷ 0 ∷ 11 ∷ 65 ∷ 1 ∷ 0 ∷ 0 ∷ 6 ∷ 1 ∷ 1 ∷ 0 ∷ 0 ∷ 0 ∷ 1 ∷ 0 ∷ 0 ∷ 0 ∷ 5 ∷ 32 ∷ 2 ∷ 0 ∷ 0 ∷ 2 ∷ 0 ∷ 0 ∷ 0 ∷ 5 ∷ 69 ∷ 1 ∷ 0 ∷ 0 ∷ 0 ∷ 0 ∷ 0 ∷ 0 ∷ 11 ∷ 65 ∷ 1 ∷ 0 ∷ 0 ∷ 6 ∷ 1 ∷ 2 ∷ 0 ∷ 0 ∷ 0 ∷ 1 ∷ 0 ∷ 0 ∷ 0 ∷ 5 ∷ 69 ∷ 1 ∷ 0 ∷ 0 ∷ 0 ∷ 0 ∷ 0 ∷ 0 ∷ 5 ∷ 69 ∷ 1 ∷ 0 ∷ 0 ∷ 0 ∷ 0 ∷ 0 ∷ 0 ∷ 4 ∷ 71 ∷ 1 ∷ 0 ∷ 0 ∷ [])
unfolding encoding digits is_text is_utf8 chars encode_utf8
plugin-sends = refl

-- the plug-in's first 63 bytes hold 6 whole messages
cut-63 : lost_outcome 1500 (Some 6) page plugin ≡ record {
  page = (
      Created (record { side = sides.Page; instance = 1; serial = 1 }) ∷
      CommandResult 1 (results.Code NoError) ∷
      CommandResult 2 (results.Yes (values.Object (record { side = sides.Plug; instance = 1; serial = 1 })) false) ∷
      Created (record { side = sides.Page; instance = 1; serial = 2 }) ∷
      CommandResult 3 (results.Yes (values.Object (record { side = sides.Page; instance = 1; serial = 2 })) false) ∷
      Created (record { side = sides.Page; instance = 1; serial = 3 }) ∷
      CommandResult 4 (results.Yes (values.Object (record { side = sides.Page; instance = 1; serial = 3 })) false) ∷
      CommandResult 5 results.No ∷
      Entered (record { side = sides.Page; instance = 1; serial = 2 }) (ops.Invoke (Str (codes "m0"))) ∷
      Noted (values.Object (record { side = sides.Plug; instance = 1; serial = 1 })) false ∷
      Entered (record { side = sides.Page; instance = 1; serial = 2 }) ops.Enumerate ∷
      CommandResult 6 (results.Yes values.Void false) ∷
      Entered (record { side = sides.Page; instance = 1; serial = 2 }) (ops.Invoke (Str (codes "m1"))) ∷
      Entered (record { side = sides.Page; instance = 1; serial = 2 }) (ops.Invoke (Str (codes "m1"))) ∷
      CommandResult 7 (results.Yes values.Void false) ∷
      CommandResult 8 results.No ∷
      CommandResult 9 results.No ∷
      Entered (record { side = sides.Page; instance = 1; serial = 2 }) (ops.Invoke (IntKey (pos 4))) ∷
      Entered (record { side = sides.Page; instance = 1; serial = 2 }) (ops.Invoke (Str (codes "m1"))) ∷
      CommandResult 10 (results.Yes values.Void false) ∷
      CommandResult 11 results.No ∷
      Created (record { side = sides.Page; instance = 2; serial = 1 }) ∷
      CommandResult 12 (results.Code NoError) ∷
      ProxyGone (record { side = sides.Plug; instance = 1; serial = 1 }) ∷
      Invalidated (record { side = sides.Page; instance = 1; serial = 1 }) ∷
      Invalidated (record { side = sides.Page; instance = 1; serial = 2 }) ∷
      Invalidated (record { side = sides.Page; instance = 1; serial = 3 }) ∷
      Deallocated (record { side = sides.Page; instance = 1; serial = 1 }) ∷
      Deallocated (record { side = sides.Page; instance = 1; serial = 2 }) ∷
      Deallocated (record { side = sides.Page; instance = 1; serial = 3 }) ∷
      Invalidated (record { side = sides.Page; instance = 2; serial = 1 }) ∷
      Deallocated (record { side = sides.Page; instance = 2; serial = 1 }) ∷
      CommandResult 13 results.No ∷
      CommandResult 14 results.No ∷ []);
  rests = true;
}
unfolding encoding digits is_text is_utf8 chars encode_utf8
cut-63 = refl

-- the plug-in's first 91 bytes hold 8 whole messages
cut-91 : lost_outcome 1500 (Some 8) page plugin ≡ record {
  page = (
      Created (record { side = sides.Page; instance = 1; serial = 1 }) ∷
      CommandResult 1 (results.Code NoError) ∷
      CommandResult 2 (results.Yes (values.Object (record { side = sides.Plug; instance = 1; serial = 1 })) false) ∷
      Created (record { side = sides.Page; instance = 1; serial = 2 }) ∷
      CommandResult 3 (results.Yes (values.Object (record { side = sides.Page; instance = 1; serial = 2 })) false) ∷
      Created (record { side = sides.Page; instance = 1; serial = 3 }) ∷
      CommandResult 4 (results.Yes (values.Object (record { side = sides.Page; instance = 1; serial = 3 })) false) ∷
      CommandResult 5 results.No ∷
      Entered (record { side = sides.Page; instance = 1; serial = 2 }) (ops.Invoke (Str (codes "m0"))) ∷
      Noted (values.Object (record { side = sides.Plug; instance = 1; serial = 1 })) false ∷
      Entered (record { side = sides.Page; instance = 1; serial = 2 }) ops.Enumerate ∷
      CommandResult 6 (results.Yes values.Void false) ∷
      Entered (record { side = sides.Page; instance = 1; serial = 2 }) (ops.Invoke (Str (codes "m1"))) ∷
      Entered (record { side = sides.Page; instance = 1; serial = 2 }) (ops.Invoke (Str (codes "m1"))) ∷
      CommandResult 7 (results.Yes values.Void false) ∷
      CommandResult 8 results.No ∷
      CommandResult 9 results.No ∷
      Entered (record { side = sides.Page; instance = 1; serial = 2 }) (ops.Invoke (IntKey (pos 4))) ∷
      Entered (record { side = sides.Page; instance = 1; serial = 2 }) (ops.Invoke (Str (codes "m1"))) ∷
      CommandResult 10 (results.Yes values.Void false) ∷
      CommandResult 11 results.No ∷
      Created (record { side = sides.Page; instance = 2; serial = 1 }) ∷
      CommandResult 12 (results.Code NoError) ∷
      CommandResult 13 (results.Yes (values.Object (record { side = sides.Plug; instance = 2; serial = 1 })) false) ∷
      Entered (record { side = sides.Page; instance = 1; serial = 2 }) (ops.Invoke (Str (codes "m2"))) ∷
      Deallocated (record { side = sides.Page; instance = 1; serial = 3 }) ∷
      CommandResult 14 (results.Yes values.Void false) ∷
      Invalidated (record { side = sides.Page; instance = 1; serial = 1 }) ∷
      Invalidated (record { side = sides.Page; instance = 1; serial = 2 }) ∷
      Deallocated (record { side = sides.Page; instance = 1; serial = 1 }) ∷
      Deallocated (record { side = sides.Page; instance = 1; serial = 2 }) ∷
      ProxyGone (record { side = sides.Plug; instance = 2; serial = 1 }) ∷
      Invalidated (record { side = sides.Page; instance = 2; serial = 1 }) ∷
      Deallocated (record { side = sides.Page; instance = 2; serial = 1 }) ∷ []);
  rests = true;
}
unfolding encoding digits is_text is_utf8 chars encode_utf8
cut-91 = refl
