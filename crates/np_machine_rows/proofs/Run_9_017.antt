-- Made by tools/vector-theorems of tests/vectors/9-017.
use Rattle.std.proofs.Common.{◌≡◌, pos, negsuc, [], ◌∷◌, refl, true, false, Some}
use Rattle.std.specs.Prelude.{codes}
use Rattle.std.specs.Char.{encode_utf8}
use Rattle.std.specs.Fmt.{digits}
use Rattle.std.specs.Str.{is_utf8, chars}
use Rattle.np_values.specs.declared.error.NpError.TheVariants.{InvalidInstance, InvalidFunctable, ModuleLoadFailed}
use Rattle.np_values.specs.declared.handler.Handler.TheVariants as handlers
use Rattle.np_values.specs.declared.name.Side.TheVariants as sides
use Rattle.np_values.specs.declared.reason.NpReason.TheVariants as reasons
use Rattle.np_values.specs.declared.value.Value.TheVariants as values
use Rattle.np_values.specs.Text.{is_text}
use Rattle.np_idents.specs.declared.key.IdKey.TheVariants.{Str, Int as IntKey}
use Rattle.np_idents.specs.declared.op.Op.TheVariants as ops
use Rattle.np_script_grammar.specs.declared.action.Action.TheVariants as actions
use Rattle.np_script_grammar.specs.declared.action.Operand.TheVariants.{Reg, Const}
use Rattle.np_script_grammar.specs.declared.class.Member.TheVariants as members
use Rattle.np_script_grammar.specs.declared.command.Command.TheVariants as commands
use Rattle.np_script_grammar.specs.declared.page.Page.{Page}
use Rattle.np_script_grammar.specs.declared.plugin.Plugin.{Plugin}
use Rattle.np_message.specs.Encoding.{encoding}
use Rattle.np_journal.specs.declared.line.Line.TheVariants.{Created, Entered, HandlerRun, ProxyGone, Invalidated, Deallocated, CommandResult}
use Rattle.np_journal.specs.declared.printed.Printed.TheVariants as results
use Rattle.np_machine_plans.specs.Outcomes.{resource, outcome, page_bytes, plugin_bytes, lost_outcome}

abbrev page : Page
page = record {
  major = 0;
  minor = 27;
  classes = (
      (record {
        name = codes "Window";
        version = 2;
        stored = true;
        members = (
            members.Default (actions.SelfTo 2 ∷ actions.Load 1 2 ∷ actions.Get 1 (Reg 0) (Str (codes "f0")) ∷ actions.New 1 (codes "A") ∷ actions.Get 3 (Reg 11) (Str (codes "f0")) ∷ actions.Set 0 (Reg 3) ∷ actions.Destroy 2 1 ∷ []) ∷
            members.Method (Str (codes "m2")) [] ∷
            members.Method (IntKey (pos 4)) (actions.Load 2 2 ∷ actions.SelfTo 2 ∷ actions.New 2 (codes "A") ∷ actions.Remove (Reg 4) (Str (codes "f0")) ∷ actions.New 5 (codes "B") ∷ []) ∷
            members.Method (Str (codes "m1")) (actions.Construct 2 (Reg 1) [] ∷ actions.Put (Reg 3) (Str (codes "7")) (Reg 1) ∷ actions.Add 11 (Reg 2) (Reg 3) ∷ []) ∷
            members.Method (Str (codes "m0")) [] ∷
            members.Method (Str (codes "take")) (actions.Load 3 1 ∷ actions.New 0 (codes "A") ∷ actions.New 2 (codes "B") ∷ actions.New 4 (codes "Window") ∷ actions.Note (Reg 3) ∷ actions.Invoke 0 (Reg 0) (Str (codes "none")) (Reg 1 ∷ Reg 0 ∷ []) ∷ []) ∷
            members.Method (Str (codes "m3")) (actions.New 4 (codes "Window") ∷ actions.Put (Reg 4) (Str (codes "f0")) (Reg 1) ∷ actions.Get 1 (Reg 4) (Str (codes "f0")) ∷ actions.Remove (Reg 4) (Str (codes "f0")) ∷ []) ∷ []);
      }) ∷
      (record {
        name = codes "A";
        version = 1;
        stored = false;
        members = (
            members.Method (Str (codes "m1")) (actions.New 5 (codes "B") ∷ actions.New 1 (codes "B") ∷ actions.Invoke 0 (Reg 1) (Str (codes "m0")) (Reg 2 ∷ Reg 2 ∷ Reg 3 ∷ []) ∷ actions.New 2 (codes "B") ∷ actions.Slot 1 (Reg 3) ∷ []) ∷
            members.Method (Str (codes "m2")) (actions.Load 2 0 ∷ actions.Load 3 1 ∷ actions.Construct 2 (Reg 0) (Reg 0 ∷ []) ∷ actions.Load 10 0 ∷ actions.SelfTo 0 ∷ actions.Enumerate 1 (Reg 1) ∷ actions.New 4 (codes "B") ∷ actions.New 5 (codes "B") ∷ actions.Put (Reg 4) (Str (codes "f1")) (Reg 5) ∷ actions.New 5 (codes "Window") ∷ actions.Put (Reg 4) (Str (codes "f0")) (Reg 5) ∷ actions.Return (Reg 5) ∷ []) ∷
            members.Method (IntKey (pos 4)) (actions.Load 3 1 ∷ actions.New 4 (codes "A") ∷ []) ∷
            members.Method (Str (codes "take")) (actions.Invoke 3 (Reg 3) (Str (codes "m3")) (Reg 3 ∷ Reg 2 ∷ []) ∷ actions.Load 1 3 ∷ actions.Destroy 2 2 ∷ actions.SelfTo 2 ∷ actions.Slot 1 (Reg 2) ∷ actions.Put (Reg 3) (Str (codes "f1")) (Reg 0) ∷ actions.New 0 (codes "Window") ∷ []) ∷
            members.Method (Str (codes "m3")) (actions.Slot 3 (Reg 2) ∷ actions.Add 2 (Reg 4) (Const (values.Bool true)) ∷ actions.Slot 1 (Reg 0) ∷ actions.New 3 (codes "A") ∷ actions.Load 3 1 ∷ actions.Get 2 (Reg 3) (Str (codes "f0")) ∷ actions.Put (Reg 3) (Str (codes "f0")) (Reg 1) ∷ []) ∷ []);
      }) ∷
      (record {
        name = codes "B";
        version = 2;
        stored = true;
        members = (
            members.Method (Str (codes "m1")) (actions.Load 0 2 ∷ actions.Load 2 0 ∷ actions.New 2 (codes "Window") ∷ actions.New 5 (codes "Window") ∷ actions.New 1 (codes "A") ∷ actions.HasProperty (Reg 1) (Str (codes "f0")) ∷ actions.Invoke 3 (Reg 3) (Str (codes "m2")) (Reg 0 ∷ Reg 2 ∷ []) ∷ []) ∷
            members.Setter (Str (codes "f0")) (actions.New 1 (codes "A") ∷ actions.Load 1 0 ∷ []) ∷
            members.Method (IntKey (pos 4)) (actions.Load 2 2 ∷ actions.Load 1 3 ∷ []) ∷
            members.Method (Str (codes "m0")) (actions.Load 3 1 ∷ actions.Load 2 0 ∷ actions.Load 9 0 ∷ actions.Destroy 1 1 ∷ []) ∷
            members.Method (Str (codes "m2")) (actions.SelfTo 2 ∷ actions.Load 3 1 ∷ actions.New 1 (codes "B") ∷ actions.Fail ∷ actions.Slot 1 (Reg 2) ∷ []) ∷
            members.Method (Str (codes "take")) (actions.Load 2 0 ∷ actions.Drop 2 ∷ actions.Drop 2 ∷ []) ∷
            members.Method (Str (codes "m3")) (actions.Load 3 1 ∷ actions.New 2 (codes "A") ∷ actions.New 3 (codes "A") ∷ actions.Set 0 (Reg 2) ∷ actions.Invoke 1 (Reg 2) (IntKey (pos 4)) (Reg 3 ∷ Reg 1 ∷ Reg 3 ∷ []) ∷ actions.New 5 (codes "Window") ∷ actions.Invoke 2 (Reg 1) (Str (codes "take")) (Reg 3 ∷ Reg 2 ∷ Reg 2 ∷ []) ∷ actions.Invoke 2 (Reg 3) (Str (codes "take")) (Reg 1 ∷ Const (values.Int (pos 14)) ∷ []) ∷ actions.Get 1 (Reg 0) (Str (codes "f1")) ∷ actions.Load 1 3 ∷ []) ∷ []);
      }) ∷ []);
  resources = (
      resource (codes "r") (codes "t/p") 1 (120 ∷ 1 ∷ 34 ∷ []) ∷
      resource (codes "s") (codes "t/p") 1 (codes "abc") ∷ []);
  commands = (
      commands.Create (codes "t/x") 2 [] ∷
      commands.Scriptable 0 1 ∷
      commands.Create (codes "t/x") 2 (codes "a" ∷ codes "1" ∷ codes "a" ∷ codes "1" ∷ codes "a" ∷ codes "1" ∷ []) ∷
      commands.Scriptable 1 2 ∷
      commands.New 2 1 (codes "A") ∷
      commands.New 3 2 (codes "B") ∷
      commands.Set 2 (Const (values.Int (pos 1))) ∷
      commands.Turn ∷
      commands.Invoke 4 (Reg 1) (Str (codes "take")) (Reg 4 ∷ Reg 0 ∷ Reg 1 ∷ []) ∷
      commands.Invoke 5 (Reg 2) (Str (codes "m1")) (Reg 2 ∷ Reg 0 ∷ Reg 1 ∷ []) ∷
      commands.Invoke 5 (Reg 4) (Str (codes "m1")) (Reg 3 ∷ Reg 2 ∷ []) ∷
      commands.Invoke 4 (Reg 1) (Str (codes "m1")) (Reg 3 ∷ Reg 5 ∷ Reg 4 ∷ []) ∷
      commands.OpenStream 1 (codes "r") ∷
      commands.Invoke 4 (Reg 3) (Str (codes "m0")) (Reg 2 ∷ Reg 3 ∷ Const (values.Int (pos 2147483647)) ∷ []) ∷
      commands.New 1 2 (codes "A") ∷
      commands.Invoke 2 (Reg 0) (Str (codes "m3")) (Const values.Null ∷ Reg 1 ∷ Const (values.Text (codes "s")) ∷ []) ∷
      commands.Create (codes "t/y") 2 [] ∷
      commands.Scriptable 0 3 ∷ []);
}

abbrev plugin : Plugin
plugin = record {
  major = 0;
  minor = 27;
  classes = (
      (record {
        name = codes "Main";
        version = 3;
        stored = false;
        members = (
            members.Method (Str (codes "m0")) (actions.Load 3 1 ∷ actions.Load 2 0 ∷ actions.Load 1 2 ∷ actions.GetUrl 1 (Const (values.Text (codes "r"))) (pos 5) ∷ actions.Note (Reg 0) ∷ []) ∷
            members.Method (Str (codes "m1")) [] ∷
            members.Method (IntKey (pos 4)) [] ∷
            members.Default [] ∷
            members.Method (Str (codes "m3")) (actions.SelfTo 2 ∷ actions.Load 2 0 ∷ actions.EndStream 1 (Const (values.Int (pos 2))) reasons.Done ∷ actions.Invoke 2 (Reg 0) (Str (codes "take")) (Reg 0 ∷ Const (values.Int (pos 14)) ∷ Reg 3 ∷ []) ∷ []) ∷
            members.Method (Str (codes "take")) (actions.Load 2 0 ∷ actions.Invoke 1 (Reg 3) (Str (codes "none")) (Const (values.Text []) ∷ Reg 2 ∷ []) ∷ actions.Slot 3 (Const (values.Int (pos 1))) ∷ actions.Invoke 3 (Reg 1) (Str (codes "none")) (Reg 3 ∷ Reg 2 ∷ []) ∷ actions.Put (Reg 0) (IntKey (pos 7)) (Reg 3) ∷ actions.GetUrl 3 (Const (values.Text (codes "nowhere"))) (pos 1) ∷ []) ∷
            members.Method (Str (codes "m2")) (actions.SelfTo 2 ∷ actions.Load 1 2 ∷ actions.New 3 (codes "Main") ∷ actions.HasProperty (Reg 2) (Str (codes "f0")) ∷ actions.GetUrl 0 (Const (values.Text (codes "e"))) (pos 1) ∷ []) ∷ []);
      }) ∷
      (record {
        name = codes "T";
        version = 3;
        stored = true;
        members = (
            members.Construct (actions.New 4 (codes "T") ∷ actions.EndStream 1 (Const (values.Int (pos 3))) reasons.NetworkErr ∷ actions.Slot 3 (Const (values.Int (pos 1))) ∷ actions.Slot 2 (Reg 3) ∷ []) ∷
            members.Method (IntKey (pos 4)) (actions.Load 3 1 ∷ actions.Invoke 0 (Reg 0) (Str (codes "take")) (Reg 3 ∷ []) ∷ actions.Load 0 0 ∷ actions.Invoke 0 (Reg 1) (Str (codes "take")) (Reg 4 ∷ Reg 2 ∷ Reg 1 ∷ []) ∷ actions.GetUrl 2 (Const (values.Text (codes "r"))) (pos 1) ∷ []) ∷
            members.Method (Str (codes "m1")) (actions.New 4 (codes "Main") ∷ actions.New 5 (codes "U") ∷ actions.Put (Reg 4) (Str (codes "f1")) (Reg 4) ∷ actions.New 5 (codes "T") ∷ actions.Put (Reg 4) (Str (codes "f0")) (Reg 5) ∷ actions.New 5 (codes "T") ∷ actions.Put (Reg 4) (IntKey (pos 7)) (Reg 5) ∷ actions.Drop 5 ∷ []) ∷
            members.Method (Str (codes "m3")) (actions.Load 2 2 ∷ actions.Load 3 1 ∷ actions.Slot 1 (Reg 2) ∷ actions.New 3 (codes "Main") ∷ actions.Invoke 3 (Reg 2) (Str (codes "take")) [] ∷ []) ∷
            members.Method (Str (codes "m2")) (actions.Load 3 3 ∷ actions.Return (Reg 3) ∷ actions.New 2 (codes "T") ∷ actions.Load 0 3 ∷ actions.New 0 (codes "U") ∷ []) ∷
            members.Default (actions.Remove (Reg 0) (Str (codes "f0")) ∷ actions.Load 7 3 ∷ actions.Set 1 (Reg 0) ∷ actions.Invoke 1 (Reg 0) (IntKey (pos 4)) (Const (values.Double (0 ∷ 1 ∷ 2 ∷ 3 ∷ 4 ∷ 5 ∷ 6 ∷ 7 ∷ [])) ∷ []) ∷ actions.Invoke 3 (Reg 3) (Str (codes "take")) (Reg 5 ∷ Reg 3 ∷ Reg 3 ∷ []) ∷ []) ∷
            members.Method (Str (codes "m0")) (actions.Put (Reg 5) (Str (codes "f1")) (Reg 0) ∷ []) ∷
            members.Method (Str (codes "take")) (actions.OnEq (Reg 2) (Reg 0) 3 ∷ actions.Slot 3 (Reg 3) ∷ actions.New 3 (codes "T") ∷ actions.New 2 (codes "T") ∷ actions.New 4 (codes "T") ∷ actions.Put (Reg 4) (IntKey (pos 7)) (Reg 2) ∷ actions.Get 2 (Reg 4) (IntKey (pos 7)) ∷ actions.Remove (Reg 4) (IntKey (pos 7)) ∷ []) ∷ []);
      }) ∷
      (record {
        name = codes "U";
        version = 1;
        stored = true;
        members = (
            members.Getter (Str (codes "f0")) (actions.Load 2 2 ∷ actions.New 1 (codes "Main") ∷ actions.New 5 (codes "T") ∷ actions.Invoke 3 (Reg 2) (IntKey (pos 4)) [] ∷ []) ∷
            members.Method (Str (codes "take")) [] ∷
            members.Method (Str (codes "m3")) (actions.Load 2 0 ∷ actions.Load 1 2 ∷ actions.New 4 (codes "T") ∷ actions.New 5 (codes "T") ∷ actions.OnEq (Reg 2) (Reg 1) 1 ∷ actions.Put (Reg 0) (Str (codes "f0")) (Reg 5) ∷ actions.Load 3 0 ∷ actions.Load 0 3 ∷ actions.Load 3 1 ∷ actions.Get 4 (Reg 3) (Str (codes "f1")) ∷ actions.Put (Reg 3) (Str (codes "f1")) (Reg 3) ∷ []) ∷
            members.Method (Str (codes "m1")) (actions.Load 2 0 ∷ actions.Load 3 2 ∷ actions.Slot 3 (Reg 0) ∷ []) ∷
            members.Method (Str (codes "m0")) (actions.SelfTo 2 ∷ actions.New 2 (codes "T") ∷ actions.New 5 (codes "Main") ∷ actions.Slot 0 (Reg 0) ∷ actions.Invoke 2 (Reg 1) (Str (codes "take")) [] ∷ actions.RequestRead 2 (Const (values.Int (pos 1))) ((record { offset = negsuc 2; length = 9000 }) ∷ (record { offset = negsuc 0; length = 4294967295 }) ∷ []) ∷ []) ∷
            members.Method (IntKey (pos 4)) [] ∷
            members.Method (Str (codes "m2")) (actions.SelfTo 2 ∷ actions.Set 3 (Reg 3) ∷ actions.Load 3 0 ∷ actions.Window 3 ∷ actions.Set 2 (Reg 0) ∷ []) ∷ []);
      }) ∷ []);
  handlers = (
      (record { which = handlers.New; body = (actions.New 0 (codes "Main") ∷ actions.Slot 0 (Reg 0) ∷ actions.Window 1 ∷ actions.Slot 1 (Reg 1) ∷ actions.Load 3 1 ∷ actions.HasProperty (Reg 3) (Str (codes "f1")) ∷ actions.GetUrl 1 (Const (values.Text (codes "s"))) (pos 1) ∷ actions.New 4 (codes "Main") ∷ actions.Put (Reg 4) (Str (codes "f0")) (Reg 2) ∷ actions.Get 2 (Reg 4) (Str (codes "f0")) ∷ actions.Remove (Reg 4) (Str (codes "f0")) ∷ actions.Return (Const (values.Int (pos 3))) ∷ []) }) ∷
      (record { which = handlers.Scriptable; body = (actions.Load 0 0 ∷ actions.Return (Reg 0) ∷ []) }) ∷
      (record { which = handlers.Destroy; body = (actions.Load 1 2 ∷ []) }) ∷
      (record { which = handlers.WriteReady; body = (actions.Load 5 1 ∷ actions.Invoke 5 (Reg 5) (Str (codes "take")) (Reg 0 ∷ []) ∷ actions.Load 0 2 ∷ actions.Load 3 1 ∷ actions.Set 3 (Reg 5) ∷ actions.Return (Const (values.Int (pos 100))) ∷ []) }) ∷
      (record { which = handlers.AsFile; body = [] }) ∷
      (record { which = handlers.DestroyStream; body = (actions.Load 2 0 ∷ actions.Load 1 2 ∷ actions.Set 0 (Reg 1) ∷ []) }) ∷ []);
  tasks = [];
}

-- the run of both
both-end : outcome 1500 page plugin ≡ record {
  page = (
      Created (record { side = sides.Page; instance = 1; serial = 1 }) ∷
      Entered (record { side = sides.Page; instance = 1; serial = 1 }) (ops.HasProperty (Str (codes "f1"))) ∷
      Invalidated (record { side = sides.Page; instance = 1; serial = 1 }) ∷
      Deallocated (record { side = sides.Page; instance = 1; serial = 1 }) ∷
      CommandResult 1 (results.Code InvalidFunctable) ∷
      CommandResult 2 results.No ∷
      Created (record { side = sides.Page; instance = 2; serial = 1 }) ∷
      Entered (record { side = sides.Page; instance = 2; serial = 1 }) (ops.HasProperty (Str (codes "f1"))) ∷
      Invalidated (record { side = sides.Page; instance = 2; serial = 1 }) ∷
      Deallocated (record { side = sides.Page; instance = 2; serial = 1 }) ∷
      CommandResult 3 (results.Code InvalidFunctable) ∷
      CommandResult 4 results.No ∷
      CommandResult 5 results.No ∷
      CommandResult 6 results.No ∷
      CommandResult 7 (results.Yes (values.Int (pos 1)) false) ∷
      CommandResult 8 (results.Yes values.Void false) ∷
      CommandResult 9 results.No ∷
      CommandResult 10 results.No ∷
      CommandResult 11 results.No ∷
      CommandResult 12 results.No ∷
      CommandResult 13 (results.Code InvalidInstance) ∷
      CommandResult 14 results.No ∷
      CommandResult 15 results.No ∷
      CommandResult 16 results.No ∷
      Created (record { side = sides.Page; instance = 3; serial = 1 }) ∷
      Entered (record { side = sides.Page; instance = 3; serial = 1 }) (ops.HasProperty (Str (codes "f1"))) ∷
      Invalidated (record { side = sides.Page; instance = 3; serial = 1 }) ∷
      Deallocated (record { side = sides.Page; instance = 3; serial = 1 }) ∷
      CommandResult 17 (results.Code InvalidFunctable) ∷
      CommandResult 18 results.No ∷ []);
  plugin = (
      HandlerRun 1 handlers.New ∷
      Created (record { side = sides.Plug; instance = 1; serial = 1 }) ∷
      Created (record { side = sides.Plug; instance = 1; serial = 2 }) ∷
      Deallocated (record { side = sides.Plug; instance = 1; serial = 2 }) ∷
      ProxyGone (record { side = sides.Page; instance = 1; serial = 1 }) ∷
      Invalidated (record { side = sides.Plug; instance = 1; serial = 1 }) ∷
      Deallocated (record { side = sides.Plug; instance = 1; serial = 1 }) ∷
      HandlerRun 2 handlers.New ∷
      Created (record { side = sides.Plug; instance = 2; serial = 1 }) ∷
      Created (record { side = sides.Plug; instance = 2; serial = 2 }) ∷
      Deallocated (record { side = sides.Plug; instance = 2; serial = 2 }) ∷
      ProxyGone (record { side = sides.Page; instance = 2; serial = 1 }) ∷
      Invalidated (record { side = sides.Plug; instance = 2; serial = 1 }) ∷
      Deallocated (record { side = sides.Plug; instance = 2; serial = 1 }) ∷
      HandlerRun 3 handlers.New ∷
      Created (record { side = sides.Plug; instance = 3; serial = 1 }) ∷
      Created (record { side = sides.Plug; instance = 3; serial = 2 }) ∷
      Deallocated (record { side = sides.Plug; instance = 3; serial = 2 }) ∷
      ProxyGone (record { side = sides.Page; instance = 3; serial = 1 }) ∷
      Invalidated (record { side = sides.Plug; instance = 3; serial = 1 }) ∷
      Deallocated (record { side = sides.Plug; instance = 3; serial = 1 }) ∷ []);
  files = [];
  rests = true;
}
unfolding encoding digits is_text is_utf8 chars encode_utf8
both-end = refl

-- all bytes that the page sends
page-sends : page_bytes 1500 page plugin ≡ (0 ∷ 0 ∷ 0 ∷ 7 ∷ 1 ∷ 1 ∷ 0 ∷ 0 ∷ 1 ∷ 0 ∷ 27 ∷ 0 ∷ 0 ∷ 0 ∷ 12 ∷ 2 ∷ 1 ∷ 0 ∷ 0 ∷ 1 ∷ 2 ∷ 0 ∷ 3 ∷ 116 ∷ 47 ∷ 120 ∷ 0 ∷ 0 ∷ 0 ∷ 0 ∷ 11 ∷ 65 ∷ 2 ∷ 0 ∷ 0 ∷ 6 ∷ 0 ∷ 1 ∷ 0 ∷ 0 ∷ 0 ∷ 1 ∷ 0 ∷ 0 ∷ 0 ∷ 4 ∷ 66 ∷ 2 ∷ 0 ∷ 0 ∷ 0 ∷ 0 ∷ 0 ∷ 5 ∷ 69 ∷ 2 ∷ 0 ∷ 0 ∷ 0 ∷ 0 ∷ 0 ∷ 0 ∷ 30 ∷ 2 ∷ 1 ∷ 0 ∷ 0 ∷ 2 ∷ 2 ∷ 0 ∷ 3 ∷ 116 ∷ 47 ∷ 120 ∷ 3 ∷ 0 ∷ 1 ∷ 97 ∷ 0 ∷ 1 ∷ 49 ∷ 0 ∷ 1 ∷ 97 ∷ 0 ∷ 1 ∷ 49 ∷ 0 ∷ 1 ∷ 97 ∷ 0 ∷ 1 ∷ 49 ∷ 0 ∷ 0 ∷ 0 ∷ 11 ∷ 65 ∷ 2 ∷ 0 ∷ 0 ∷ 6 ∷ 0 ∷ 2 ∷ 0 ∷ 0 ∷ 0 ∷ 1 ∷ 0 ∷ 0 ∷ 0 ∷ 4 ∷ 66 ∷ 2 ∷ 0 ∷ 0 ∷ 0 ∷ 0 ∷ 0 ∷ 5 ∷ 69 ∷ 2 ∷ 0 ∷ 0 ∷ 0 ∷ 0 ∷ 0 ∷ 0 ∷ 4 ∷ 5 ∷ 1 ∷ 0 ∷ 0 ∷ 0 ∷ 0 ∷ 0 ∷ 12 ∷ 2 ∷ 1 ∷ 0 ∷ 0 ∷ 3 ∷ 2 ∷ 0 ∷ 3 ∷ 116 ∷ 47 ∷ 121 ∷ 0 ∷ 0 ∷ 0 ∷ 0 ∷ 11 ∷ 65 ∷ 2 ∷ 0 ∷ 0 ∷ 6 ∷ 0 ∷ 3 ∷ 0 ∷ 0 ∷ 0 ∷ 1 ∷ 0 ∷ 0 ∷ 0 ∷ 4 ∷ 66 ∷ 2 ∷ 0 ∷ 0 ∷ 0 ∷ 0 ∷ 0 ∷ 5 ∷ 69 ∷ 2 ∷ 0 ∷ 0 ∷ 0 ∷ 0 ∷ 0 ∷ 0 ∷ 4 ∷ 12 ∷ 1 ∷ 0 ∷ 0 ∷ [])
unfolding encoding digits is_text is_utf8 chars encode_utf8
page-sends = refl

-- all bytes that the plugin sends
plugin-sends : plugin_bytes 1500 page plugin ≡ (0 ∷ 0 ∷ 0 ∷ 5 ∷ 69 ∷ 1 ∷ 0 ∷ 0 ∷ 0 ∷ 0 ∷ 0 ∷ 0 ∷ 5 ∷ 32 ∷ 2 ∷ 0 ∷ 0 ∷ 1 ∷ 0 ∷ 0 ∷ 0 ∷ 15 ∷ 64 ∷ 2 ∷ 0 ∷ 0 ∷ 1 ∷ 0 ∷ 0 ∷ 0 ∷ 1 ∷ 8 ∷ 0 ∷ 0 ∷ 2 ∷ 102 ∷ 49 ∷ 0 ∷ 0 ∷ 0 ∷ 12 ∷ 33 ∷ 2 ∷ 0 ∷ 0 ∷ 1 ∷ 0 ∷ 1 ∷ 115 ∷ 0 ∷ 0 ∷ 0 ∷ 1 ∷ 0 ∷ 0 ∷ 0 ∷ 5 ∷ 69 ∷ 1 ∷ 0 ∷ 0 ∷ 3 ∷ 0 ∷ 0 ∷ 0 ∷ 5 ∷ 32 ∷ 2 ∷ 0 ∷ 0 ∷ 2 ∷ 0 ∷ 0 ∷ 0 ∷ 15 ∷ 64 ∷ 2 ∷ 0 ∷ 0 ∷ 2 ∷ 0 ∷ 0 ∷ 0 ∷ 1 ∷ 8 ∷ 0 ∷ 0 ∷ 2 ∷ 102 ∷ 49 ∷ 0 ∷ 0 ∷ 0 ∷ 12 ∷ 33 ∷ 2 ∷ 0 ∷ 0 ∷ 2 ∷ 0 ∷ 1 ∷ 115 ∷ 0 ∷ 0 ∷ 0 ∷ 1 ∷ 0 ∷ 0 ∷ 0 ∷ 5 ∷ 69 ∷ 1 ∷ 0 ∷ 0 ∷ 3 ∷ 0 ∷ 0 ∷ 0 ∷ 4 ∷ 71 ∷ 1 ∷ 0 ∷ 0 ∷ 0 ∷ 0 ∷ 0 ∷ 5 ∷ 32 ∷ 2 ∷ 0 ∷ 0 ∷ 3 ∷ 0 ∷ 0 ∷ 0 ∷ 15 ∷ 64 ∷ 2 ∷ 0 ∷ 0 ∷ 3 ∷ 0 ∷ 0 ∷ 0 ∷ 1 ∷ 8 ∷ 0 ∷ 0 ∷ 2 ∷ 102 ∷ 49 ∷ 0 ∷ 0 ∷ 0 ∷ 12 ∷ 33 ∷ 2 ∷ 0 ∷ 0 ∷ 3 ∷ 0 ∷ 1 ∷ 115 ∷ 0 ∷ 0 ∷ 0 ∷ 1 ∷ 0 ∷ 0 ∷ 0 ∷ 5 ∷ 69 ∷ 1 ∷ 0 ∷ 0 ∷ 3 ∷ 0 ∷ 0 ∷ 0 ∷ 4 ∷ 71 ∷ 1 ∷ 0 ∷ 0 ∷ [])
unfolding encoding digits is_text is_utf8 chars encode_utf8
plugin-sends = refl

-- the plug-in's first 127 bytes hold 10 whole messages
cut-127 : lost_outcome 1500 (Some 10) page plugin ≡ record {
  page = (
      Created (record { side = sides.Page; instance = 1; serial = 1 }) ∷
      Entered (record { side = sides.Page; instance = 1; serial = 1 }) (ops.HasProperty (Str (codes "f1"))) ∷
      Invalidated (record { side = sides.Page; instance = 1; serial = 1 }) ∷
      Deallocated (record { side = sides.Page; instance = 1; serial = 1 }) ∷
      CommandResult 1 (results.Code InvalidFunctable) ∷
      CommandResult 2 results.No ∷
      Created (record { side = sides.Page; instance = 2; serial = 1 }) ∷
      Entered (record { side = sides.Page; instance = 2; serial = 1 }) (ops.HasProperty (Str (codes "f1"))) ∷
      Invalidated (record { side = sides.Page; instance = 2; serial = 1 }) ∷
      Deallocated (record { side = sides.Page; instance = 2; serial = 1 }) ∷
      CommandResult 3 (results.Code InvalidFunctable) ∷
      CommandResult 4 results.No ∷
      CommandResult 5 results.No ∷
      CommandResult 6 results.No ∷
      CommandResult 7 (results.Yes (values.Int (pos 1)) false) ∷
      CommandResult 8 (results.Yes values.Void false) ∷
      CommandResult 9 results.No ∷
      CommandResult 10 results.No ∷
      CommandResult 11 results.No ∷
      CommandResult 12 results.No ∷
      CommandResult 13 (results.Code InvalidInstance) ∷
      CommandResult 14 results.No ∷
      CommandResult 15 results.No ∷
      CommandResult 16 results.No ∷
      CommandResult 17 (results.Code ModuleLoadFailed) ∷
      CommandResult 18 results.No ∷ []);
  rests = true;
}
unfolding encoding digits is_text is_utf8 chars encode_utf8
cut-127 = refl

-- the plug-in's first 156 bytes hold 12 whole messages
cut-156 : lost_outcome 1500 (Some 12) page plugin ≡ record {
  page = (
      Created (record { side = sides.Page; instance = 1; serial = 1 }) ∷
      Entered (record { side = sides.Page; instance = 1; serial = 1 }) (ops.HasProperty (Str (codes "f1"))) ∷
      Invalidated (record { side = sides.Page; instance = 1; serial = 1 }) ∷
      Deallocated (record { side = sides.Page; instance = 1; serial = 1 }) ∷
      CommandResult 1 (results.Code InvalidFunctable) ∷
      CommandResult 2 results.No ∷
      Created (record { side = sides.Page; instance = 2; serial = 1 }) ∷
      Entered (record { side = sides.Page; instance = 2; serial = 1 }) (ops.HasProperty (Str (codes "f1"))) ∷
      Invalidated (record { side = sides.Page; instance = 2; serial = 1 }) ∷
      Deallocated (record { side = sides.Page; instance = 2; serial = 1 }) ∷
      CommandResult 3 (results.Code InvalidFunctable) ∷
      CommandResult 4 results.No ∷
      CommandResult 5 results.No ∷
      CommandResult 6 results.No ∷
      CommandResult 7 (results.Yes (values.Int (pos 1)) false) ∷
      CommandResult 8 (results.Yes values.Void false) ∷
      CommandResult 9 results.No ∷
      CommandResult 10 results.No ∷
      CommandResult 11 results.No ∷
      CommandResult 12 results.No ∷
      CommandResult 13 (results.Code InvalidInstance) ∷
      CommandResult 14 results.No ∷
      CommandResult 15 results.No ∷
      CommandResult 16 results.No ∷
      Created (record { side = sides.Page; instance = 3; serial = 1 }) ∷
      Entered (record { side = sides.Page; instance = 3; serial = 1 }) (ops.HasProperty (Str (codes "f1"))) ∷
      Invalidated (record { side = sides.Page; instance = 3; serial = 1 }) ∷
      Deallocated (record { side = sides.Page; instance = 3; serial = 1 }) ∷
      CommandResult 17 (results.Code ModuleLoadFailed) ∷
      CommandResult 18 results.No ∷ []);
  rests = true;
}
unfolding encoding digits is_text is_utf8 chars encode_utf8
cut-156 = refl
