-- Made by tools/vector-theorems of tests/vectors/5-019.
use Rattle.std.proofs.Common.{◌≡◌, pos, negsuc, [], ◌∷◌, refl, true, false}
use Rattle.std.specs.Prelude.{codes}
use Rattle.std.specs.Char.{encode_utf8}
use Rattle.std.specs.Fmt.{digits}
use Rattle.std.specs.Str.{is_utf8, chars}
use Rattle.np_values.specs.declared.error.NpError.TheVariants.{NoError}
use Rattle.np_values.specs.declared.handler.Handler.TheVariants as handlers
use Rattle.np_values.specs.declared.name.Side.TheVariants as sides
use Rattle.np_values.specs.declared.value.Value.TheVariants as values
use Rattle.np_values.specs.Text.{is_text}
use Rattle.np_idents.specs.declared.key.IdKey.TheVariants.{Str, Int as IntKey}
use Rattle.np_idents.specs.declared.op.Op.TheVariants as ops
use Rattle.np_script_grammar.specs.declared.action.Action.TheVariants as actions
use Rattle.np_script_grammar.specs.declared.action.Operand.TheVariants.{Reg, Const}
use Rattle.np_script_grammar.specs.declared.class.Member.TheVariants as members
use Rattle.np_script_grammar.specs.declared.command.Command.TheVariants as commands
use Rattle.np_script_grammar.specs.declared.page.Page.{Page}
use Rattle.np_script_grammar.specs.declared.plugin.Plugin.{Plugin}
use Rattle.np_message.specs.Encoding.{encoding}
use Rattle.np_journal.specs.declared.line.Line.TheVariants.{Created, Entered, HandlerRun, ProxyGone, Invalidated, Deallocated, CommandResult}
use Rattle.np_journal.specs.declared.printed.Printed.TheVariants as results
use Rattle.np_machine_plans.specs.Outcomes.{outcome, page_bytes, plugin_bytes}

abbrev page : Page
page = record {
  major = 0;
  minor = 27;
  classes = (
      (record {
        name = codes "Window";
        version = 2;
        stored = true;
        members = (
            members.Method (Str (codes "m0")) [] ∷
            members.Default (actions.Get 1 (Reg 0) (Str (codes "f0")) ∷ actions.New 1 (codes "A") ∷ actions.Get 3 (Reg 11) (Str (codes "f0")) ∷ actions.Set 0 (Reg 3) ∷ actions.Load 3 2 ∷ []) ∷
            members.Method (Str (codes "m2")) [] ∷
            members.Method (Str (codes "m3")) (actions.New 4 (codes "Window") ∷ actions.Put (Reg 4) (Str (codes "f0")) (Reg 1) ∷ actions.Get 1 (Reg 4) (Str (codes "f0")) ∷ actions.Remove (Reg 4) (Str (codes "f0")) ∷ []) ∷
            members.Method (Str (codes "m1")) (actions.Construct 2 (Reg 1) [] ∷ actions.Put (Reg 3) (Str (codes "7")) (Reg 1) ∷ actions.Add 11 (Reg 2) (Reg 3) ∷ []) ∷
            members.Method (Str (codes "take")) (actions.Load 3 1 ∷ actions.New 0 (codes "A") ∷ actions.New 2 (codes "B") ∷ actions.New 4 (codes "Window") ∷ actions.Note (Reg 3) ∷ actions.Invoke 0 (Reg 0) (Str (codes "none")) (Reg 1 ∷ Reg 0 ∷ []) ∷ []) ∷
            members.Method (IntKey (pos 4)) (actions.Load 2 2 ∷ actions.SelfTo 2 ∷ actions.New 2 (codes "A") ∷ actions.Remove (Reg 4) (Str (codes "f0")) ∷ actions.New 5 (codes "B") ∷ []) ∷ []);
      }) ∷
      (record {
        name = codes "B";
        version = 3;
        stored = true;
        members = (
            members.Method (Str (codes "m3")) (actions.New 2 (codes "A") ∷ actions.Get 3 (Reg 2) (IntKey (pos 7)) ∷ []) ∷
            members.Method (Str (codes "take")) (actions.Load 2 2 ∷ actions.New 4 (codes "B") ∷ actions.New 5 (codes "Window") ∷ actions.Put (Reg 4) (IntKey (pos 7)) (Reg 3) ∷ actions.New 5 (codes "Window") ∷ actions.Put (Reg 4) (Str (codes "f0")) (Reg 5) ∷ actions.New 5 (codes "A") ∷ actions.Put (Reg 4) (Str (codes "f1")) (Reg 5) ∷ actions.Drop 5 ∷ []) ∷
            members.Default [] ∷
            members.Method (Str (codes "m1")) (actions.Load 3 1 ∷ actions.New 5 (codes "A") ∷ actions.Load 10 1 ∷ actions.Invoke 1 (Reg 0) (Str (codes "m3")) (Const (values.Int (pos 0)) ∷ []) ∷ actions.New 1 (codes "A") ∷ actions.Slot 2 (Reg 0) ∷ actions.SelfTo 0 ∷ actions.Enumerate 1 (Reg 1) ∷ []) ∷
            members.Method (Str (codes "m0")) (actions.SelfTo 2 ∷ actions.New 3 (codes "A") ∷ actions.Invoke 0 (Const (values.Int (pos 100))) (Str (codes "m2")) (Reg 0 ∷ []) ∷ actions.New 4 (codes "A") ∷ actions.New 1 (codes "Window") ∷ actions.New 1 (codes "Window") ∷ actions.Drop 2 ∷ []) ∷
            members.Method (IntKey (pos 4)) (actions.Load 2 0 ∷ actions.New 1 (codes "A") ∷ actions.New 2 (codes "A") ∷ actions.New 4 (codes "A") ∷ actions.Load 3 1 ∷ actions.Get 1 (Reg 3) (Str (codes "7")) ∷ actions.Put (Reg 0) (Str (codes "7")) (Reg 3) ∷ actions.New 0 (codes "Window") ∷ actions.Load 0 1 ∷ []) ∷
            members.Method (Str (codes "m2")) (actions.Load 1 2 ∷ actions.Load 2 0 ∷ actions.New 3 (codes "Window") ∷ actions.New 2 (codes "B") ∷ actions.New 5 (codes "Window") ∷ actions.Get 1 (Reg 2) (Str (codes "7")) ∷ []) ∷ []);
      }) ∷ []);
  resources = [];
  commands = (
      commands.Create (codes "t/x") 1 [] ∷
      commands.Scriptable 0 1 ∷
      commands.New 2 1 (codes "Window") ∷
      commands.New 3 1 (codes "Window") ∷
      commands.Invoke 5 (Reg 0) (Str (codes "m0")) (Reg 1 ∷ Reg 2 ∷ Reg 0 ∷ []) ∷
      commands.Invoke 4 (Reg 4) (Str (codes "m1")) [] ∷
      commands.Invoke 5 (Reg 1) (Str (codes "m1")) (Reg 3 ∷ Reg 2 ∷ Reg 1 ∷ []) ∷
      commands.Invoke 4 (Reg 1) (Str (codes "take")) (Reg 3 ∷ []) ∷ []);
}

abbrev plugin : Plugin
plugin = record {
  major = 0;
  minor = 27;
  classes = (
      (record {
        name = codes "Main";
        version = 3;
        stored = true;
        members = (
            members.Default (actions.Load 3 1 ∷ actions.Invoke 3 (Reg 1) (Str (codes "take")) (Reg 0 ∷ Reg 2 ∷ Reg 3 ∷ []) ∷ actions.Add 3 (Reg 1) (Reg 2) ∷ actions.Get 1 (Reg 0) (Str (codes "f1")) ∷ actions.Load 1 3 ∷ actions.Set 11 (Reg 1) ∷ []) ∷
            members.Method (Str (codes "m0")) (actions.Load 1 2 ∷ actions.Invoke 0 (Reg 3) (Str (codes "m3")) [] ∷ actions.Load 0 1 ∷ actions.New 4 (codes "T") ∷ actions.New 5 (codes "Main") ∷ actions.Put (Reg 4) (Str (codes "f0")) (Reg 5) ∷ actions.Return (Reg 4) ∷ []) ∷
            members.Method (Str (codes "m2")) (actions.SelfTo 2 ∷ actions.Slot 0 (Const (values.Text [])) ∷ actions.Window 2 ∷ actions.Load 3 3 ∷ []) ∷
            members.Method (Str (codes "take")) (actions.Load 3 2 ∷ actions.Load 2 0 ∷ actions.Set 0 (Reg 0) ∷ actions.Set 0 (Reg 2) ∷ actions.Slot 3 (Reg 3) ∷ actions.Slot 0 (Reg 0) ∷ actions.Throw (codes "no") ∷ []) ∷
            members.Method (IntKey (pos 4)) (actions.Load 3 1 ∷ actions.Load 0 2 ∷ actions.New 5 (codes "U") ∷ actions.New 3 (codes "U") ∷ []) ∷
            members.Getter (Str (codes "f1")) (actions.Load 3 1 ∷ actions.New 3 (codes "Main") ∷ actions.Invoke 3 (Reg 0) (Str (codes "take")) (Reg 0 ∷ Reg 1 ∷ []) ∷ actions.Set 0 (Reg 2) ∷ actions.Invoke 3 (Reg 3) (Str (codes "take")) (Reg 3 ∷ Reg 0 ∷ Const (values.Int (negsuc 2147483647)) ∷ []) ∷ actions.Slot 2 (Const (values.Bool true)) ∷ []) ∷
            members.Method (Str (codes "m1")) (actions.Drop 0 ∷ actions.Load 0 1 ∷ []) ∷ []);
      }) ∷
      (record {
        name = codes "T";
        version = 2;
        stored = false;
        members = (
            members.Method (Str (codes "m1")) [] ∷
            members.Method (Str (codes "m3")) (actions.Load 3 1 ∷ actions.New 1 (codes "T") ∷ actions.Load 1 2 ∷ actions.New 2 (codes "Main") ∷ actions.HasMethod (Reg 0) (Str (codes "m3")) ∷ actions.Put (Reg 3) (Str (codes "f0")) (Reg 5) ∷ actions.Note (Reg 7) ∷ actions.Invoke 2 (Reg 0) (Str (codes "take")) (Reg 1 ∷ Reg 2 ∷ Reg 0 ∷ []) ∷ actions.Drop 0 ∷ []) ∷
            members.Method (IntKey (pos 4)) (actions.Load 0 2 ∷ actions.SelfTo 2 ∷ actions.New 1 (codes "U") ∷ actions.New 2 (codes "Main") ∷ actions.Slot 0 (Reg 0) ∷ actions.Window 0 ∷ actions.Invoke 3 (Reg 3) (Str (codes "take")) (Reg 2 ∷ Reg 12 ∷ Reg 0 ∷ []) ∷ []) ∷
            members.Method (Str (codes "m0")) (actions.Load 1 2 ∷ actions.OnFalse 1 ∷ []) ∷
            members.Method (Str (codes "take")) (actions.Load 2 0 ∷ actions.New 0 (codes "T") ∷ actions.Invoke 3 (Reg 0) (Str (codes "none")) (Const (values.Text []) ∷ Reg 2 ∷ []) ∷ actions.Window 3 ∷ actions.Load 0 0 ∷ actions.Window 3 ∷ []) ∷
            members.Setter (Str (codes "f0")) (actions.SelfTo 2 ∷ actions.Load 2 2 ∷ actions.Return (Reg 2) ∷ actions.Slot 3 (Const (values.Int (pos 1))) ∷ actions.Invoke 3 (Reg 1) (Str (codes "take")) (Reg 0 ∷ []) ∷ actions.Add 2 (Reg 1) (Reg 1) ∷ actions.Set 3 (Reg 13) ∷ actions.Invoke 0 (Reg 3) (IntKey (pos 4)) (Reg 2 ∷ []) ∷ []) ∷
            members.Method (Str (codes "m2")) (actions.Load 2 0 ∷ actions.New 3 (codes "U") ∷ actions.HasMethod (Reg 1) (Str (codes "m1")) ∷ actions.Invoke 3 (Reg 0) (Str (codes "take")) (Reg 2 ∷ Reg 3 ∷ Reg 1 ∷ []) ∷ []) ∷ []);
      }) ∷
      (record {
        name = codes "U";
        version = 2;
        stored = true;
        members = (
            members.Method (IntKey (pos 4)) (actions.Load 3 1 ∷ actions.Load 1 2 ∷ actions.Window 3 ∷ actions.Set 1 (Reg 1) ∷ actions.New 3 (codes "Main") ∷ actions.Put (Reg 3) (Str (codes "f0")) (Reg 0) ∷ actions.SelfTo 1 ∷ []) ∷
            members.Method (Str (codes "m1")) (actions.Load 2 0 ∷ actions.Load 3 1 ∷ actions.New 5 (codes "T") ∷ actions.New 4 (codes "Main") ∷ actions.New 2 (codes "T") ∷ actions.OnTrue 1 ∷ actions.Window 3 ∷ []) ∷
            members.Method (Str (codes "m0")) (actions.SelfTo 2 ∷ actions.Load 3 2 ∷ actions.Window 0 ∷ actions.Load 1 2 ∷ actions.Get 4 (Reg 1) (Str (codes "f0")) ∷ actions.Put (Reg 1) (Str (codes "f0")) (Reg 2) ∷ []) ∷
            members.Method (Str (codes "m2")) (actions.New 1 (codes "T") ∷ actions.Window 3 ∷ actions.New 5 (codes "Main") ∷ actions.New 3 (codes "U") ∷ actions.OnFalse 2 ∷ actions.Set 2 (Reg 2) ∷ actions.New 2 (codes "T") ∷ actions.Load 2 3 ∷ actions.Drop 1 ∷ []) ∷
            members.Method (Str (codes "m3")) (actions.Load 0 2 ∷ actions.Load 2 0 ∷ actions.Slot 2 (Const values.Null) ∷ actions.New 4 (codes "Main") ∷ actions.New 5 (codes "T") ∷ actions.Put (Reg 4) (IntKey (pos 7)) (Reg 5) ∷ actions.New 5 (codes "Main") ∷ actions.Put (Reg 4) (Str (codes "f0")) (Reg 5) ∷ actions.New 5 (codes "U") ∷ actions.Put (Reg 4) (Str (codes "f1")) (Reg 0) ∷ actions.Drop 5 ∷ []) ∷ []);
      }) ∷ []);
  handlers = (
      (record { which = handlers.New; body = (actions.New 0 (codes "Main") ∷ actions.Slot 0 (Reg 0) ∷ actions.Window 1 ∷ actions.Slot 1 (Reg 1) ∷ actions.Load 3 2 ∷ actions.Drop 0 ∷ actions.Slot 0 (Reg 1) ∷ actions.Slot 3 (Reg 1) ∷ actions.Invoke 1 (Reg 1) (Str (codes "m3")) (Const (values.Text (195 ∷ 164 ∷ 34 ∷ 92 ∷ 1 ∷ 127 ∷ [])) ∷ Reg 0 ∷ []) ∷ actions.Load 3 0 ∷ []) }) ∷
      (record { which = handlers.Scriptable; body = (actions.Load 0 0 ∷ actions.Return (Reg 0) ∷ []) }) ∷ []);
  tasks = [];
}

-- the run of both
both-end : outcome 1500 page plugin ≡ record {
  page = (
      Created (record { side = sides.Page; instance = 1; serial = 1 }) ∷
      Entered (record { side = sides.Page; instance = 1; serial = 1 }) (ops.Invoke (Str (codes "m3"))) ∷
      Created (record { side = sides.Page; instance = 1; serial = 2 }) ∷
      Entered (record { side = sides.Page; instance = 1; serial = 2 }) (ops.Put (Str (codes "f0"))) ∷
      Entered (record { side = sides.Page; instance = 1; serial = 2 }) (ops.Get (Str (codes "f0"))) ∷
      Entered (record { side = sides.Page; instance = 1; serial = 2 }) (ops.Remove (Str (codes "f0"))) ∷
      Deallocated (record { side = sides.Page; instance = 1; serial = 2 }) ∷
      CommandResult 1 (results.Code NoError) ∷
      CommandResult 2 (results.Yes (values.Object (record { side = sides.Page; instance = 1; serial = 1 })) false) ∷
      Created (record { side = sides.Page; instance = 1; serial = 3 }) ∷
      CommandResult 3 (results.Yes (values.Object (record { side = sides.Page; instance = 1; serial = 3 })) false) ∷
      Created (record { side = sides.Page; instance = 1; serial = 4 }) ∷
      CommandResult 4 (results.Yes (values.Object (record { side = sides.Page; instance = 1; serial = 4 })) false) ∷
      Entered (record { side = sides.Page; instance = 1; serial = 1 }) (ops.Invoke (Str (codes "m0"))) ∷
      CommandResult 5 (results.Yes values.Void false) ∷
      CommandResult 6 results.No ∷
      CommandResult 7 results.No ∷
      CommandResult 8 results.No ∷
      Invalidated (record { side = sides.Page; instance = 1; serial = 1 }) ∷
      Invalidated (record { side = sides.Page; instance = 1; serial = 3 }) ∷
      Invalidated (record { side = sides.Page; instance = 1; serial = 4 }) ∷
      Deallocated (record { side = sides.Page; instance = 1; serial = 1 }) ∷
      Deallocated (record { side = sides.Page; instance = 1; serial = 3 }) ∷
      Deallocated (record { side = sides.Page; instance = 1; serial = 4 }) ∷ []);
  plugin = (
      HandlerRun 1 handlers.New ∷
      Created (record { side = sides.Plug; instance = 1; serial = 1 }) ∷
      Deallocated (record { side = sides.Plug; instance = 1; serial = 1 }) ∷
      HandlerRun 1 handlers.Scriptable ∷
      ProxyGone (record { side = sides.Page; instance = 1; serial = 1 }) ∷ []);
  files = [];
  rests = true;
}
unfolding encoding digits is_text is_utf8 chars encode_utf8
both-end = refl

-- all bytes that the page sends
page-sends : page_bytes 1500 page plugin ≡ (0 ∷ 0 ∷ 0 ∷ 7 ∷ 1 ∷ 1 ∷ 0 ∷ 0 ∷ 1 ∷ 0 ∷ 27 ∷ 0 ∷ 0 ∷ 0 ∷ 12 ∷ 2 ∷ 1 ∷ 0 ∷ 0 ∷ 1 ∷ 1 ∷ 0 ∷ 3 ∷ 116 ∷ 47 ∷ 120 ∷ 0 ∷ 0 ∷ 0 ∷ 0 ∷ 11 ∷ 65 ∷ 2 ∷ 0 ∷ 0 ∷ 6 ∷ 0 ∷ 1 ∷ 0 ∷ 0 ∷ 0 ∷ 1 ∷ 0 ∷ 0 ∷ 0 ∷ 5 ∷ 65 ∷ 2 ∷ 0 ∷ 0 ∷ 0 ∷ 0 ∷ 0 ∷ 0 ∷ 5 ∷ 4 ∷ 1 ∷ 0 ∷ 0 ∷ 1 ∷ 0 ∷ 0 ∷ 0 ∷ 5 ∷ 3 ∷ 1 ∷ 0 ∷ 0 ∷ 1 ∷ 0 ∷ 0 ∷ 0 ∷ 4 ∷ 12 ∷ 1 ∷ 0 ∷ 0 ∷ [])
unfolding encoding digits is_text is_utf8 chars encode_utf8
page-sends = refl

-- all bytes that the plugin sends
plugin-sends : plugin_bytes 1500 page plugin ≡ (0 ∷ 0 ∷ 0 ∷ 5 ∷ 69 ∷ 1 ∷ 0 ∷ 0 ∷ 0 ∷ 0 ∷ 0 ∷ 0 ∷ 5 ∷ 32 ∷ 2 ∷ 0 ∷ 0 ∷ 1 ∷ 0 ∷ 0 ∷ 0 ∷ 26 ∷ 64 ∷ 2 ∷ 0 ∷ 0 ∷ 1 ∷ 0 ∷ 0 ∷ 0 ∷ 1 ∷ 1 ∷ 0 ∷ 0 ∷ 2 ∷ 109 ∷ 51 ∷ 2 ∷ 5 ∷ 0 ∷ 6 ∷ 195 ∷ 164 ∷ 34 ∷ 92 ∷ 1 ∷ 127 ∷ 0 ∷ 0 ∷ 0 ∷ 0 ∷ 5 ∷ 69 ∷ 1 ∷ 0 ∷ 0 ∷ 0 ∷ 0 ∷ 0 ∷ 0 ∷ 11 ∷ 65 ∷ 1 ∷ 0 ∷ 0 ∷ 6 ∷ 0 ∷ 1 ∷ 0 ∷ 0 ∷ 0 ∷ 1 ∷ 0 ∷ 0 ∷ 0 ∷ 5 ∷ 69 ∷ 1 ∷ 0 ∷ 0 ∷ 0 ∷ 0 ∷ 0 ∷ 0 ∷ 4 ∷ 71 ∷ 1 ∷ 0 ∷ 0 ∷ [])
unfolding encoding digits is_text is_utf8 chars encode_utf8
plugin-sends = refl
