-- Made by tools/vector-theorems of tests/vectors/8-012.
use Rattle.std.proofs.Common.{◌≡◌, pos, negsuc, [], ◌∷◌, refl, true, false, Some, None}
use Rattle.std.specs.Prelude.{codes}
use Rattle.std.specs.Char.{encode_utf8}
use Rattle.std.specs.Fmt.{digits}
use Rattle.std.specs.Str.{is_utf8, chars}
use Rattle.np_values.specs.declared.error.NpError.TheVariants.{Generic, ModuleLoadFailed}
use Rattle.np_values.specs.declared.handler.Handler.TheVariants as handlers
use Rattle.np_values.specs.declared.name.Side.TheVariants as sides
use Rattle.np_values.specs.declared.value.Value.TheVariants as values
use Rattle.np_values.specs.Text.{is_text}
use Rattle.np_idents.specs.declared.key.IdKey.TheVariants.{Str, Int as IntKey}
use Rattle.np_idents.specs.declared.op.Op.TheVariants as ops
use Rattle.np_script_grammar.specs.declared.action.Action.TheVariants as actions
use Rattle.np_script_grammar.specs.declared.action.Operand.TheVariants.{Reg, Const}
use Rattle.np_script_grammar.specs.declared.class.Member.TheVariants as members
use Rattle.np_script_grammar.specs.declared.command.Command.TheVariants as commands
use Rattle.np_script_grammar.specs.declared.page.Page.{Page}
use Rattle.np_script_grammar.specs.declared.plugin.Plugin.{Plugin}
use Rattle.np_message.specs.Encoding.{encoding}
use Rattle.np_journal.specs.declared.line.Line.TheVariants.{Created, Entered, HandlerRun, ProxyGone, Invalidated, Deallocated, CommandResult}
use Rattle.np_journal.specs.declared.printed.Printed.TheVariants as results
use Rattle.np_machine_plans.specs.Outcomes.{outcome, page_bytes, plugin_bytes, lost_outcome}

abbrev page : Page
page = record {
  major = 0;
  minor = 27;
  classes = (
      (record {
        name = codes "Window";
        version = 3;
        stored = true;
        members = (
            members.Method (Str (codes "m3")) (actions.Load 2 0 ∷ actions.Slot 1 (Reg 2) ∷ actions.New 1 (codes "A") ∷ actions.Load 0 1 ∷ actions.New 3 (codes "B") ∷ actions.New 4 (codes "A") ∷ actions.New 4 (codes "A") ∷ actions.New 5 (codes "A") ∷ actions.Put (Reg 4) (IntKey (pos 7)) (Reg 5) ∷ actions.New 5 (codes "Window") ∷ actions.Put (Reg 4) (Str (codes "f0")) (Reg 4) ∷ actions.New 5 (codes "B") ∷ actions.Put (Reg 4) (Str (codes "f1")) (Reg 5) ∷ []) ∷
            members.Method (Str (codes "m0")) (actions.Load 3 1 ∷ actions.Load 2 0 ∷ actions.New 0 (codes "Window") ∷ actions.Note (Reg 0) ∷ actions.Destroy 1 1 ∷ actions.SelfTo 0 ∷ []) ∷
            members.Method (IntKey (pos 4)) (actions.Load 2 0 ∷ actions.New 2 (codes "Window") ∷ actions.New 4 (codes "A") ∷ actions.Set 0 (Reg 0) ∷ actions.New 5 (codes "A") ∷ actions.Set 3 (Reg 0) ∷ actions.New 1 (codes "A") ∷ actions.Note (Reg 2) ∷ []) ∷
            members.Construct (actions.Load 0 2 ∷ actions.SelfTo 2 ∷ actions.New 3 (codes "Window") ∷ actions.New 2 (codes "Window") ∷ actions.New 4 (codes "A") ∷ actions.Set 3 (Reg 0) ∷ []) ∷
            members.Method (Str (codes "m2")) (actions.Load 2 0 ∷ actions.Load 1 2 ∷ actions.New 4 (codes "B") ∷ actions.New 5 (codes "Window") ∷ actions.New 2 (codes "B") ∷ actions.Put (Reg 4) (Str (codes "f1")) (Reg 5) ∷ actions.Slot 0 (Reg 4) ∷ actions.Drop 4 ∷ []) ∷
            members.Method (Str (codes "take")) (actions.Load 5 2 ∷ actions.Load 3 1 ∷ actions.New 4 (codes "A") ∷ actions.New 3 (codes "Window") ∷ actions.New 5 (codes "A") ∷ []) ∷ []);
      }) ∷
      (record {
        name = codes "A";
        version = 3;
        stored = true;
        members = (
            members.Method (Str (codes "m3")) (actions.Load 2 2 ∷ actions.Load 3 1 ∷ actions.Slot 3 (Reg 1) ∷ actions.Load 0 1 ∷ actions.Invoke 1 (Const (values.Text (codes "e"))) (Str (codes "take")) (Const (values.Int (negsuc 2147483647)) ∷ Reg 3 ∷ Reg 1 ∷ []) ∷ actions.OnTrue 3 ∷ []) ∷
            members.Method (Str (codes "m0")) (actions.Load 2 0 ∷ actions.Load 3 2 ∷ actions.New 1 (codes "B") ∷ []) ∷
            members.Method (Str (codes "m1")) (actions.Load 2 2 ∷ actions.Note (Reg 0) ∷ actions.Slot 2 (Const values.Null) ∷ actions.Load 3 2 ∷ actions.New 0 (codes "None") ∷ []) ∷
            members.Default (actions.Load 3 1 ∷ actions.Note (Reg 0) ∷ actions.New 5 (codes "Window") ∷ actions.Invoke 2 (Reg 2) (Str (codes "take")) (Reg 2 ∷ Reg 3 ∷ []) ∷ actions.New 4 (codes "B") ∷ actions.New 1 (codes "Window") ∷ actions.Slot 3 (Reg 2) ∷ actions.Load 1 2 ∷ actions.Invoke 0 (Reg 0) (Str (codes "take")) (Reg 3 ∷ Reg 2 ∷ []) ∷ []) ∷
            members.Method (Str (codes "m2")) [] ∷
            members.Method (IntKey (pos 4)) (actions.SelfTo 2 ∷ actions.Load 2 2 ∷ actions.New 1 (codes "A") ∷ actions.Load 0 0 ∷ actions.Put (Reg 1) (Str (codes "7")) (Reg 1) ∷ actions.Load 1 0 ∷ actions.Load 3 0 ∷ actions.Load 2 2 ∷ actions.Get 3 (Reg 2) (Str (codes "f0")) ∷ actions.Put (Reg 2) (Str (codes "f0")) (Reg 1) ∷ []) ∷
            members.Setter (Str (codes "7")) (actions.SelfTo 2 ∷ actions.Load 3 1 ∷ actions.Get 2 (Reg 3) (Str (codes "f0")) ∷ actions.Invoke 2 (Reg 2) (IntKey (pos 4)) (Reg 1 ∷ []) ∷ []) ∷ []);
      }) ∷
      (record {
        name = codes "B";
        version = 3;
        stored = true;
        members = (
            members.Method (Str (codes "m3")) (actions.Load 3 1 ∷ actions.SelfTo 2 ∷ actions.Destroy 1 1 ∷ actions.Slot 3 (Reg 3) ∷ actions.OnTrue 2 ∷ actions.HasProperty (Reg 5) (Str (codes "f1")) ∷ []) ∷
            members.Method (Str (codes "take")) (actions.Load 1 2 ∷ actions.Load 2 0 ∷ actions.New 2 (codes "Window") ∷ actions.New 4 (codes "Window") ∷ actions.New 5 (codes "A") ∷ actions.New 3 (codes "Window") ∷ actions.New 5 (codes "B") ∷ actions.Put (Reg 4) (Str (codes "f1")) (Reg 5) ∷ actions.Put (Reg 4) (Str (codes "f0")) (Reg 5) ∷ actions.Drop 5 ∷ actions.Slot 0 (Reg 4) ∷ actions.Drop 4 ∷ actions.Destroy 3 1 ∷ actions.Load 1 2 ∷ actions.SelfTo 2 ∷ actions.Load 2 0 ∷ actions.New 5 (codes "B") ∷ actions.New 1 (codes "Window") ∷ actions.New 2 (codes "B") ∷ actions.Destroy 1 2 ∷ actions.Slot 3 (Reg 3) ∷ []) ∷
            members.Method (Str (codes "m1")) (actions.New 5 (codes "B") ∷ actions.New 4 (codes "Window") ∷ actions.New 2 (codes "B") ∷ []) ∷
            members.Method (Str (codes "m0")) (actions.Slot 3 (Reg 1) ∷ actions.Drop 2 ∷ []) ∷
            members.Method (Str (codes "m2")) (actions.Load 3 1 ∷ actions.New 4 (codes "B") ∷ actions.New 3 (codes "Window") ∷ []) ∷
            members.Method (IntKey (pos 4)) (actions.SelfTo 2 ∷ actions.New 2 (codes "A") ∷ []) ∷ []);
      }) ∷ []);
  resources = [];
  commands = (
      commands.Create (codes "t/x") 2 [] ∷
      commands.Scriptable 0 1 ∷
      commands.Create (codes "t/x") 2 [] ∷
      commands.Scriptable 1 2 ∷
      commands.New 2 1 (codes "A") ∷
      commands.New 3 2 (codes "Window") ∷
      commands.Invoke 5 (Reg 0) (Str (codes "m3")) (Reg 2 ∷ Reg 1 ∷ Reg 3 ∷ []) ∷
      commands.Invoke 5 (Reg 1) (Str (codes "m2")) (Reg 4 ∷ Reg 2 ∷ Reg 5 ∷ []) ∷
      commands.Invoke 4 (Reg 1) (Str (codes "m1")) (Reg 2 ∷ Reg 5 ∷ Reg 0 ∷ []) ∷
      commands.Turn ∷
      commands.Scriptable 2 1 ∷
      commands.Scriptable 3 2 ∷
      commands.Invoke 5 (Reg 4) (Str (codes "m2")) (Reg 5 ∷ Reg 2 ∷ Reg 4 ∷ []) ∷
      commands.New 1 1 (codes "Window") ∷ []);
}

abbrev plugin : Plugin
plugin = record {
  major = 0;
  minor = 27;
  classes = (
      (record {
        name = codes "Main";
        version = 3;
        stored = true;
        members = (
            members.Method (Str (codes "m0")) [] ∷
            members.Getter (Str (codes "f1")) (actions.SelfTo 3 ∷ actions.Invoke 2 (Reg 3) (IntKey (pos 4)) (Reg 2 ∷ []) ∷ actions.Window 1 ∷ actions.New 1 (codes "U") ∷ actions.Invoke 0 (Reg 0) (Str (codes "take")) [] ∷ []) ∷
            members.Method (Str (codes "m2")) (actions.Load 1 2 ∷ actions.Load 3 1 ∷ actions.Remove (Reg 0) (Str (codes "f0")) ∷ actions.Load 4 2 ∷ actions.Get 0 (Reg 4) (Str (codes "f0")) ∷ actions.Put (Reg 4) (Str (codes "f0")) (Reg 2) ∷ []) ∷
            members.Construct (actions.Load 3 2 ∷ actions.SelfTo 2 ∷ actions.New 0 (codes "T") ∷ actions.Slot 3 (Reg 3) ∷ []) ∷
            members.Method (Str (codes "m3")) (actions.Load 3 1 ∷ actions.New 2 (codes "U") ∷ actions.New 3 (codes "Main") ∷ actions.New 5 (codes "U") ∷ actions.Exit 17 ∷ actions.New 0 (codes "Main") ∷ []) ∷
            members.Default (actions.New 5 (codes "Main") ∷ actions.New 1 (codes "U") ∷ actions.New 4 (codes "T") ∷ actions.Window 14 ∷ actions.Load 2 3 ∷ actions.OnEq (Reg 3) (Reg 2) 2 ∷ []) ∷
            members.Method (Str (codes "take")) (actions.New 4 (codes "Main") ∷ actions.Load 3 2 ∷ actions.New 1 (codes "T") ∷ actions.Load 3 0 ∷ actions.New 2 (codes "Main") ∷ actions.New 1 (codes "U") ∷ actions.New 4 (codes "T") ∷ actions.New 5 (codes "Main") ∷ actions.Put (Reg 4) (IntKey (pos 7)) (Reg 4) ∷ actions.Drop 5 ∷ actions.Return (Reg 5) ∷ []) ∷ []);
      }) ∷
      (record {
        name = codes "T";
        version = 3;
        stored = true;
        members = (
            members.Method (IntKey (pos 4)) (actions.Load 2 0 ∷ actions.Slot 3 (Reg 3) ∷ actions.Exit 36 ∷ actions.New 0 (codes "U") ∷ actions.Put (Reg 0) (Str (codes "f0")) (Reg 3) ∷ actions.Return (Reg 0) ∷ []) ∷
            members.Method (Str (codes "take")) (actions.Load 3 1 ∷ actions.Load 0 2 ∷ actions.Invoke 3 (Reg 1) (Str (codes "none")) [] ∷ actions.Invoke 3 (Reg 0) (Str (codes "none")) (Reg 0 ∷ Reg 2 ∷ []) ∷ []) ∷
            members.Method (Str (codes "m1")) (actions.Load 1 2 ∷ actions.Load 0 3 ∷ actions.Drop 1 ∷ actions.Construct 3 (Reg 0) (Reg 3 ∷ Reg 2 ∷ []) ∷ actions.Slot 2 (Reg 3) ∷ []) ∷
            members.Method (Str (codes "m3")) (actions.SelfTo 2 ∷ actions.Get 1 (Reg 0) (Str (codes "f0")) ∷ actions.Load 3 3 ∷ actions.Get 1 (Reg 3) (Str (codes "f0")) ∷ actions.Put (Reg 3) (Str (codes "f0")) (Reg 0) ∷ actions.New 2 (codes "U") ∷ actions.New 3 (codes "T") ∷ actions.Put (Reg 3) (Str (codes "f1")) (Reg 0) ∷ actions.Slot 0 (Reg 3) ∷ actions.Drop 3 ∷ []) ∷
            members.Method (Str (codes "m0")) (actions.Invoke 3 (Reg 1) (Str (codes "m1")) (Reg 5 ∷ Reg 5 ∷ Reg 2 ∷ []) ∷ actions.Set 1 (Reg 0) ∷ actions.New 1 (codes "Main") ∷ actions.Invoke 2 (Reg 2) (IntKey (pos 4)) (Reg 3 ∷ Reg 3 ∷ []) ∷ actions.Window 3 ∷ []) ∷
            members.Default (actions.Load 5 2 ∷ actions.Load 3 1 ∷ actions.Exit 56 ∷ actions.Load 0 2 ∷ actions.New 2 (codes "Main") ∷ actions.Put (Reg 2) (Str (codes "f0")) (Reg 1) ∷ actions.Get 1 (Reg 2) (Str (codes "f0")) ∷ actions.Remove (Reg 2) (Str (codes "f0")) ∷ []) ∷
            members.Method (Str (codes "m2")) (actions.Exit 34 ∷ actions.Put (Reg 1) (Str (codes "f0")) (Reg 0) ∷ actions.Load 2 2 ∷ []) ∷
            members.Construct (actions.Load 1 2 ∷ actions.Load 2 0 ∷ actions.New 3 (codes "T") ∷ actions.Put (Reg 3) (Str (codes "f1")) (Reg 4) ∷ actions.Return (Reg 3) ∷ []) ∷ []);
      }) ∷
      (record {
        name = codes "U";
        version = 2;
        stored = true;
        members = (
            members.Method (Str (codes "take")) (actions.Load 2 0 ∷ actions.Invoke 0 (Reg 0) (Str (codes "none")) (Reg 3 ∷ Reg 1 ∷ []) ∷ []) ∷
            members.Method (Str (codes "m1")) (actions.SelfTo 2 ∷ actions.New 3 (codes "U") ∷ actions.Put (Reg 2) (Str (codes "7")) (Reg 2) ∷ actions.Load 0 1 ∷ actions.Get 1 (Reg 0) (Str (codes "f0")) ∷ actions.Invoke 1 (Reg 2) (Str (codes "take")) (Const (values.Int (pos 2147483647)) ∷ Reg 1 ∷ []) ∷ actions.Put (Reg 3) (Str (codes "f0")) (Reg 1) ∷ actions.Slot 1 (Reg 0) ∷ []) ∷
            members.Method (IntKey (pos 4)) (actions.Load 2 0 ∷ actions.Put (Reg 0) (Str (codes "f0")) (Reg 1) ∷ actions.OnTrue 2 ∷ actions.OnEq (Reg 3) (Reg 0) 3 ∷ []) ∷
            members.Construct [] ∷
            members.Method (Str (codes "m3")) (actions.SelfTo 2 ∷ actions.SelfTo 3 ∷ actions.Get 0 (Reg 2) (IntKey (pos 7)) ∷ actions.Drop 3 ∷ actions.Get 0 (Reg 2) (Str (codes "f1")) ∷ []) ∷
            members.Method (Str (codes "m0")) (actions.Load 3 1 ∷ actions.Load 7 2 ∷ actions.New 2 (codes "T") ∷ actions.New 4 (codes "T") ∷ actions.New 5 (codes "T") ∷ actions.Load 2 3 ∷ actions.SelfTo 0 ∷ actions.Load 3 1 ∷ actions.New 1 (codes "Main") ∷ actions.Put (Reg 1) (Str (codes "7")) (Reg 0) ∷ actions.Slot 0 (Reg 1) ∷ actions.Drop 1 ∷ []) ∷
            members.Method (Str (codes "m2")) (actions.Fail ∷ actions.Put (Reg 3) (Str (codes "7")) (Reg 0) ∷ actions.CallDefault 0 (Reg 1) (Reg 5 ∷ Reg 3 ∷ Reg 1 ∷ []) ∷ actions.Window 1 ∷ actions.Put (Reg 2) (Str (codes "f0")) (Reg 0) ∷ actions.Return (Const (values.Int (pos 14))) ∷ []) ∷ []);
      }) ∷ []);
  handlers = (
      (record { which = handlers.New; body = (actions.New 0 (codes "Main") ∷ actions.Slot 0 (Reg 0) ∷ actions.Window 1 ∷ actions.Slot 1 (Reg 1) ∷ actions.Throw (codes "no") ∷ actions.Invoke 1 (Reg 1) (Str (codes "m2")) (Reg 2 ∷ Reg 1 ∷ Reg 3 ∷ []) ∷ actions.Construct 2 (Reg 0) (Reg 2 ∷ Reg 2 ∷ []) ∷ actions.Window 2 ∷ actions.Construct 3 (Reg 3) (Reg 3 ∷ Reg 3 ∷ []) ∷ []) }) ∷ []);
  tasks = [];
}

-- the run of both
both-end : outcome 1500 page plugin ≡ record {
  page = (
      Created (record { side = sides.Page; instance = 1; serial = 1 }) ∷
      Entered (record { side = sides.Page; instance = 1; serial = 1 }) (ops.Invoke (Str (codes "m2"))) ∷
      Created (record { side = sides.Page; instance = 1; serial = 2 }) ∷
      Created (record { side = sides.Page; instance = 1; serial = 3 }) ∷
      Created (record { side = sides.Page; instance = 1; serial = 4 }) ∷
      Entered (record { side = sides.Page; instance = 1; serial = 2 }) (ops.Put (Str (codes "f1"))) ∷
      Deallocated (record { side = sides.Page; instance = 1; serial = 4 }) ∷
      Invalidated (record { side = sides.Page; instance = 1; serial = 1 }) ∷
      Invalidated (record { side = sides.Page; instance = 1; serial = 2 }) ∷
      Invalidated (record { side = sides.Page; instance = 1; serial = 3 }) ∷
      Deallocated (record { side = sides.Page; instance = 1; serial = 1 }) ∷
      Deallocated (record { side = sides.Page; instance = 1; serial = 2 }) ∷
      Deallocated (record { side = sides.Page; instance = 1; serial = 3 }) ∷
      CommandResult 1 (results.Code Generic) ∷
      CommandResult 2 results.No ∷
      Created (record { side = sides.Page; instance = 2; serial = 1 }) ∷
      Entered (record { side = sides.Page; instance = 2; serial = 1 }) (ops.Invoke (Str (codes "m2"))) ∷
      Created (record { side = sides.Page; instance = 2; serial = 2 }) ∷
      Created (record { side = sides.Page; instance = 2; serial = 3 }) ∷
      Created (record { side = sides.Page; instance = 2; serial = 4 }) ∷
      Entered (record { side = sides.Page; instance = 2; serial = 2 }) (ops.Put (Str (codes "f1"))) ∷
      Deallocated (record { side = sides.Page; instance = 2; serial = 4 }) ∷
      Invalidated (record { side = sides.Page; instance = 2; serial = 1 }) ∷
      Invalidated (record { side = sides.Page; instance = 2; serial = 2 }) ∷
      Invalidated (record { side = sides.Page; instance = 2; serial = 3 }) ∷
      Deallocated (record { side = sides.Page; instance = 2; serial = 1 }) ∷
      Deallocated (record { side = sides.Page; instance = 2; serial = 2 }) ∷
      Deallocated (record { side = sides.Page; instance = 2; serial = 3 }) ∷
      CommandResult 3 (results.Code Generic) ∷
      CommandResult 4 results.No ∷
      CommandResult 5 results.No ∷
      CommandResult 6 results.No ∷
      CommandResult 7 results.No ∷
      CommandResult 8 results.No ∷
      CommandResult 9 results.No ∷
      CommandResult 10 (results.Yes values.Void false) ∷
      CommandResult 11 results.No ∷
      CommandResult 12 results.No ∷
      CommandResult 13 results.No ∷
      CommandResult 14 results.No ∷ []);
  plugin = (
      HandlerRun 1 handlers.New ∷
      Created (record { side = sides.Plug; instance = 1; serial = 1 }) ∷
      Entered (record { side = sides.Plug; instance = 1; serial = 1 }) ops.Construct ∷
      Created (record { side = sides.Plug; instance = 1; serial = 2 }) ∷
      Deallocated (record { side = sides.Plug; instance = 1; serial = 2 }) ∷
      ProxyGone (record { side = sides.Page; instance = 1; serial = 1 }) ∷
      Invalidated (record { side = sides.Plug; instance = 1; serial = 1 }) ∷
      Deallocated (record { side = sides.Plug; instance = 1; serial = 1 }) ∷
      HandlerRun 2 handlers.New ∷
      Created (record { side = sides.Plug; instance = 2; serial = 1 }) ∷
      Entered (record { side = sides.Plug; instance = 2; serial = 1 }) ops.Construct ∷
      Created (record { side = sides.Plug; instance = 2; serial = 2 }) ∷
      Deallocated (record { side = sides.Plug; instance = 2; serial = 2 }) ∷
      ProxyGone (record { side = sides.Page; instance = 2; serial = 1 }) ∷
      Invalidated (record { side = sides.Plug; instance = 2; serial = 1 }) ∷
      Deallocated (record { side = sides.Plug; instance = 2; serial = 1 }) ∷ []);
  files = [];
  rests = true;
}
unfolding encoding digits is_text is_utf8 chars encode_utf8
both-end = refl

-- all bytes that the page sends
page-sends : page_bytes 1500 page plugin ≡ (0 ∷ 0 ∷ 0 ∷ 7 ∷ 1 ∷ 1 ∷ 0 ∷ 0 ∷ 1 ∷ 0 ∷ 27 ∷ 0 ∷ 0 ∷ 0 ∷ 12 ∷ 2 ∷ 1 ∷ 0 ∷ 0 ∷ 1 ∷ 2 ∷ 0 ∷ 3 ∷ 116 ∷ 47 ∷ 120 ∷ 0 ∷ 0 ∷ 0 ∷ 0 ∷ 11 ∷ 65 ∷ 2 ∷ 0 ∷ 0 ∷ 6 ∷ 0 ∷ 1 ∷ 0 ∷ 0 ∷ 0 ∷ 1 ∷ 0 ∷ 0 ∷ 0 ∷ 5 ∷ 65 ∷ 2 ∷ 0 ∷ 0 ∷ 0 ∷ 0 ∷ 0 ∷ 0 ∷ 11 ∷ 65 ∷ 2 ∷ 0 ∷ 0 ∷ 6 ∷ 0 ∷ 1 ∷ 0 ∷ 0 ∷ 0 ∷ 1 ∷ 0 ∷ 0 ∷ 0 ∷ 12 ∷ 2 ∷ 1 ∷ 0 ∷ 0 ∷ 2 ∷ 2 ∷ 0 ∷ 3 ∷ 116 ∷ 47 ∷ 120 ∷ 0 ∷ 0 ∷ 0 ∷ 0 ∷ 11 ∷ 65 ∷ 2 ∷ 0 ∷ 0 ∷ 6 ∷ 0 ∷ 2 ∷ 0 ∷ 0 ∷ 0 ∷ 1 ∷ 0 ∷ 0 ∷ 0 ∷ 5 ∷ 65 ∷ 2 ∷ 0 ∷ 0 ∷ 0 ∷ 0 ∷ 0 ∷ 0 ∷ 11 ∷ 65 ∷ 2 ∷ 0 ∷ 0 ∷ 6 ∷ 0 ∷ 2 ∷ 0 ∷ 0 ∷ 0 ∷ 1 ∷ 0 ∷ 0 ∷ 0 ∷ 4 ∷ 5 ∷ 1 ∷ 0 ∷ 0 ∷ 0 ∷ 0 ∷ 0 ∷ 4 ∷ 12 ∷ 1 ∷ 0 ∷ 0 ∷ [])
unfolding encoding digits is_text is_utf8 chars encode_utf8
page-sends = refl

-- all bytes that the plugin sends
plugin-sends : plugin_bytes 1500 page plugin ≡ (0 ∷ 0 ∷ 0 ∷ 5 ∷ 69 ∷ 1 ∷ 0 ∷ 0 ∷ 0 ∷ 0 ∷ 0 ∷ 0 ∷ 5 ∷ 32 ∷ 2 ∷ 0 ∷ 0 ∷ 1 ∷ 0 ∷ 0 ∷ 0 ∷ 25 ∷ 64 ∷ 2 ∷ 0 ∷ 0 ∷ 1 ∷ 0 ∷ 0 ∷ 0 ∷ 1 ∷ 1 ∷ 0 ∷ 0 ∷ 2 ∷ 109 ∷ 50 ∷ 3 ∷ 0 ∷ 6 ∷ 0 ∷ 1 ∷ 0 ∷ 0 ∷ 0 ∷ 1 ∷ 0 ∷ 0 ∷ 0 ∷ 0 ∷ 5 ∷ 32 ∷ 2 ∷ 0 ∷ 0 ∷ 1 ∷ 0 ∷ 0 ∷ 0 ∷ 5 ∷ 69 ∷ 1 ∷ 0 ∷ 0 ∷ 1 ∷ 0 ∷ 0 ∷ 0 ∷ 5 ∷ 32 ∷ 2 ∷ 0 ∷ 0 ∷ 2 ∷ 0 ∷ 0 ∷ 0 ∷ 25 ∷ 64 ∷ 2 ∷ 0 ∷ 0 ∷ 2 ∷ 0 ∷ 0 ∷ 0 ∷ 1 ∷ 1 ∷ 0 ∷ 0 ∷ 2 ∷ 109 ∷ 50 ∷ 3 ∷ 0 ∷ 6 ∷ 0 ∷ 2 ∷ 0 ∷ 0 ∷ 0 ∷ 1 ∷ 0 ∷ 0 ∷ 0 ∷ 0 ∷ 5 ∷ 32 ∷ 2 ∷ 0 ∷ 0 ∷ 2 ∷ 0 ∷ 0 ∷ 0 ∷ 5 ∷ 69 ∷ 1 ∷ 0 ∷ 0 ∷ 1 ∷ 0 ∷ 0 ∷ 0 ∷ 4 ∷ 71 ∷ 1 ∷ 0 ∷ 0 ∷ 0 ∷ 0 ∷ 0 ∷ 4 ∷ 71 ∷ 1 ∷ 0 ∷ 0 ∷ [])
unfolding encoding digits is_text is_utf8 chars encode_utf8
plugin-sends = refl

-- the plug-in's first 46 bytes hold 2 whole messages
cut-46 : lost_outcome 1500 (Some 2) page plugin ≡ record {
  page = (
      Created (record { side = sides.Page; instance = 1; serial = 1 }) ∷
      Invalidated (record { side = sides.Page; instance = 1; serial = 1 }) ∷
      Deallocated (record { side = sides.Page; instance = 1; serial = 1 }) ∷
      CommandResult 1 (results.Code ModuleLoadFailed) ∷
      CommandResult 2 results.No ∷
      CommandResult 3 (results.Code ModuleLoadFailed) ∷
      CommandResult 4 results.No ∷
      CommandResult 5 results.No ∷
      CommandResult 6 results.No ∷
      CommandResult 7 results.No ∷
      CommandResult 8 results.No ∷
      CommandResult 9 results.No ∷
      CommandResult 10 results.No ∷
      CommandResult 11 results.No ∷
      CommandResult 12 results.No ∷
      CommandResult 13 results.No ∷
      CommandResult 14 results.No ∷ []);
  rests = true;
}
unfolding encoding digits is_text is_utf8 chars encode_utf8
cut-46 = refl

-- the plug-in's first 62 bytes hold 4 whole messages
cut-62 : lost_outcome 1500 (Some 4) page plugin ≡ record {
  page = (
      Created (record { side = sides.Page; instance = 1; serial = 1 }) ∷
      Entered (record { side = sides.Page; instance = 1; serial = 1 }) (ops.Invoke (Str (codes "m2"))) ∷
      Created (record { side = sides.Page; instance = 1; serial = 2 }) ∷
      Created (record { side = sides.Page; instance = 1; serial = 3 }) ∷
      Created (record { side = sides.Page; instance = 1; serial = 4 }) ∷
      Entered (record { side = sides.Page; instance = 1; serial = 2 }) (ops.Put (Str (codes "f1"))) ∷
      Deallocated (record { side = sides.Page; instance = 1; serial = 4 }) ∷
      Invalidated (record { side = sides.Page; instance = 1; serial = 1 }) ∷
      Invalidated (record { side = sides.Page; instance = 1; serial = 2 }) ∷
      Invalidated (record { side = sides.Page; instance = 1; serial = 3 }) ∷
      Deallocated (record { side = sides.Page; instance = 1; serial = 1 }) ∷
      Deallocated (record { side = sides.Page; instance = 1; serial = 2 }) ∷
      Deallocated (record { side = sides.Page; instance = 1; serial = 3 }) ∷
      CommandResult 1 (results.Code ModuleLoadFailed) ∷
      CommandResult 2 results.No ∷
      CommandResult 3 (results.Code ModuleLoadFailed) ∷
      CommandResult 4 results.No ∷
      CommandResult 5 results.No ∷
      CommandResult 6 results.No ∷
      CommandResult 7 results.No ∷
      CommandResult 8 results.No ∷
      CommandResult 9 results.No ∷
      CommandResult 10 results.No ∷
      CommandResult 11 results.No ∷
      CommandResult 12 results.No ∷
      CommandResult 13 results.No ∷
      CommandResult 14 results.No ∷ []);
  rests = true;
}
unfolding encoding digits is_text is_utf8 chars encode_utf8
cut-62 = refl
