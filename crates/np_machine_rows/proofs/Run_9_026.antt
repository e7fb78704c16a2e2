-- Made by tools/vector-theorems of tests/vectors/9-026.
use Rattle.std.proofs.Common.{◌≡◌, pos, negsuc, [], ◌∷◌, refl, true, false, None}
use Rattle.std.specs.Prelude.{codes}
use Rattle.std.specs.Char.{encode_utf8}
use Rattle.std.specs.Fmt.{digits}
use Rattle.std.specs.Str.{is_utf8, chars}
use Rattle.np_values.specs.declared.error.NpError.TheVariants.{NoError, InvalidInstance}
use Rattle.np_values.specs.declared.handler.Handler.TheVariants as handlers
use Rattle.np_values.specs.declared.name.Side.TheVariants as sides
use Rattle.np_values.specs.declared.value.Value.TheVariants as values
use Rattle.np_values.specs.Text.{is_text}
use Rattle.np_idents.specs.declared.key.IdKey.TheVariants.{Str, Int as IntKey}
use Rattle.np_idents.specs.declared.op.Op.TheVariants as ops
use Rattle.np_script_grammar.specs.declared.action.Action.TheVariants as actions
use Rattle.np_script_grammar.specs.declared.action.Operand.TheVariants.{Reg, Const}
use Rattle.np_script_grammar.specs.declared.class.Member.TheVariants as members
use Rattle.np_script_grammar.specs.declared.command.Command.TheVariants as commands
use Rattle.np_script_grammar.specs.declared.page.Page.{Page}
use Rattle.np_script_grammar.specs.declared.plugin.Plugin.{Plugin}
use Rattle.np_message.specs.Encoding.{encoding}
use Rattle.np_journal.specs.declared.line.Line.TheVariants.{Created, Entered, HandlerRun, ProxyGone, Invalidated, Deallocated, Noted, CommandResult}
use Rattle.np_journal.specs.declared.printed.Printed.TheVariants as results
use Rattle.np_machine_plans.specs.Outcomes.{resource, outcome, page_bytes, plugin_bytes}

abbrev page : Page
page = record {
  major = 0;
  minor = 27;
  classes = (
      (record {
        name = codes "Window";
        version = 3;
        stored = false;
        members = (
            members.Method (Str (codes "m1")) (actions.Load 3 0 ∷ actions.HasProperty (Reg 1) (Str (codes "f1")) ∷ actions.Slot 3 (Reg 3) ∷ actions.Load 0 1 ∷ []) ∷
            members.Method (Str (codes "take")) (actions.Load 3 2 ∷ actions.Put (Reg 2) (IntKey (pos 7)) (Reg 3) ∷ actions.Load 0 1 ∷ actions.Slot 1 (Reg 1) ∷ actions.Fail ∷ actions.Get 2 (Reg 2) (Str (codes "f0")) ∷ []) ∷
            members.Getter (Str (codes "f0")) (actions.Load 3 1 ∷ actions.SelfTo 2 ∷ actions.New 1 (codes "A") ∷ actions.Get 3 (Reg 1) (IntKey (pos 7)) ∷ actions.Note (Reg 2) ∷ []) ∷
            members.Method (Str (codes "m0")) (actions.Load 2 0 ∷ actions.Load 3 2 ∷ actions.Load 0 2 ∷ []) ∷
            members.Method (Str (codes "m3")) (actions.SelfTo 2 ∷ actions.Load 4 0 ∷ actions.Slot 2 (Reg 2) ∷ []) ∷
            members.Method (Str (codes "m2")) (actions.Load 2 0 ∷ actions.Load 2 2 ∷ actions.Load 1 2 ∷ actions.New 1 (codes "B") ∷ actions.Put (Reg 1) (Str (codes "f0")) (Reg 2) ∷ actions.Return (Reg 1) ∷ actions.SelfTo 5 ∷ []) ∷ []);
      }) ∷
      (record {
        name = codes "A";
        version = 2;
        stored = false;
        members = (
            members.Method (Str (codes "m3")) (actions.Drop 1 ∷ actions.Get 2 (Const (values.Int (pos 100))) (Str (codes "f1")) ∷ actions.Load 2 1 ∷ []) ∷
            members.Method (Str (codes "m0")) [] ∷
            members.Construct (actions.Load 3 1 ∷ actions.New 1 (codes "B") ∷ actions.Note (Reg 2) ∷ actions.Slot 0 (Reg 0) ∷ actions.Return (Const (values.Bool false)) ∷ actions.New 3 (codes "B") ∷ actions.New 2 (codes "A") ∷ actions.Invoke 2 (Reg 1) (Str (codes "take")) (Reg 1 ∷ Reg 2 ∷ []) ∷ actions.Load 3 0 ∷ actions.Put (Reg 0) (Str (codes "7")) (Reg 1) ∷ []) ∷
            members.Default [] ∷
            members.Method (Str (codes "m2")) (actions.SelfTo 2 ∷ actions.Enumerate 2 (Reg 1) ∷ actions.Drop 3 ∷ []) ∷
            members.Method (Str (codes "m1")) [] ∷ []);
      }) ∷
      (record {
        name = codes "B";
        version = 1;
        stored = false;
        members = (
            members.Method (Str (codes "m2")) (actions.SelfTo 2 ∷ actions.Load 2 2 ∷ actions.Load 3 3 ∷ actions.Drop 2 ∷ actions.Slot 0 (Reg 3) ∷ actions.SelfTo 2 ∷ actions.Throw (codes "no") ∷ []) ∷
            members.Method (IntKey (pos 4)) [] ∷
            members.Method (Str (codes "m3")) (actions.Load 3 1 ∷ actions.New 2 (codes "Window") ∷ actions.New 4 (codes "A") ∷ actions.Enumerate 2 (Const (values.Int (negsuc 0))) ∷ []) ∷
            members.Method (Str (codes "take")) (actions.Load 1 2 ∷ actions.SelfTo 2 ∷ actions.Set 1 (Reg 0) ∷ actions.Drop 2 ∷ actions.Add 3 (Reg 0) (Const (values.Text [])) ∷ actions.Load 1 0 ∷ []) ∷
            members.Method (Str (codes "m1")) (actions.Load 4 2 ∷ actions.SelfTo 2 ∷ actions.Load 3 0 ∷ actions.New 1 (codes "Window") ∷ actions.Get 2 (Reg 3) (Str (codes "f1")) ∷ actions.Put (Reg 3) (Str (codes "f1")) (Reg 2) ∷ actions.Load 0 1 ∷ actions.Invoke 3 (Reg 0) (Str (codes "m2")) (Reg 3 ∷ Const values.Void ∷ Reg 0 ∷ []) ∷ actions.Load 3 0 ∷ []) ∷
            members.Method (Str (codes "m0")) (actions.Load 3 1 ∷ actions.Load 2 0 ∷ actions.Invoke 2 (Reg 3) (IntKey (pos 4)) (Reg 1 ∷ Reg 0 ∷ Reg 1 ∷ []) ∷ actions.Construct 3 (Reg 1) (Const (values.Int (pos 2147483647)) ∷ Reg 1 ∷ []) ∷ actions.Load 1 2 ∷ actions.Return (Const (values.Int (pos 100))) ∷ []) ∷
            members.Getter (Str (codes "f0")) (actions.Load 2 0 ∷ actions.Load 0 2 ∷ actions.Destroy 2 2 ∷ actions.Remove (Reg 2) (Str (codes "f0")) ∷ []) ∷ []);
      }) ∷ []);
  resources = (
      resource (codes "s") (codes "t/p") 2 (codes "abc") ∷
      resource (codes "e") (codes "t/p") 0 (195 ∷ 164 ∷ 226 ∷ 130 ∷ 172 ∷ []) ∷ []);
  commands = (
      commands.Create (codes "t/x") 1 [] ∷
      commands.Scriptable 0 1 ∷
      commands.Create (codes "t/x") 1 [] ∷
      commands.Scriptable 1 2 ∷
      commands.New 2 1 (codes "B") ∷
      commands.New 3 2 (codes "Window") ∷
      commands.Remove (Reg 0) (Str (codes "f0")) ∷
      commands.Invoke 4 (Reg 0) (Str (codes "m3")) (Reg 3 ∷ Reg 3 ∷ []) ∷
      commands.Put (Reg 2) (IntKey (pos 7)) (Reg 3) ∷
      commands.New 4 2 (codes "Window") ∷
      commands.Put (Reg 2) (Str (codes "f0")) (Reg 4) ∷
      commands.New 4 2 (codes "Window") ∷
      commands.Invoke 5 (Reg 2) (Str (codes "m2")) (Reg 4 ∷ []) ∷
      commands.Drop 4 ∷
      commands.Destroy 1 ∷
      commands.Invoke 4 (Reg 2) (Str (codes "m1")) (Reg 5 ∷ Reg 0 ∷ Reg 3 ∷ []) ∷
      commands.Get 2 (Reg 3) (Str (codes "f0")) ∷
      commands.New 4 2 (codes "B") ∷
      commands.Invoke 5 (Reg 2) (Str (codes "m2")) (Reg 4 ∷ []) ∷
      commands.Drop 4 ∷
      commands.Invoke 2 (Reg 2) (Str (codes "take")) (Reg 1 ∷ []) ∷
      commands.Invoke 4 (Reg 0) (Str (codes "m3")) (Reg 0 ∷ Reg 1 ∷ Reg 5 ∷ []) ∷
      commands.Destroy 1 ∷
      commands.Invoke 5 (Reg 3) (IntKey (pos 4)) (Reg 1 ∷ []) ∷
      commands.Invoke 2 (Reg 0) (Str (codes "take")) (Reg 4 ∷ Reg 0 ∷ Reg 3 ∷ []) ∷
      commands.Invoke 5 (Reg 2) (Str (codes "take")) (Reg 3 ∷ Reg 4 ∷ Reg 5 ∷ []) ∷ []);
}

abbrev plugin : Plugin
plugin = record {
  major = 0;
  minor = 27;
  classes = (
      (record {
        name = codes "Main";
        version = 3;
        stored = true;
        members = (
            members.Method (Str (codes "m3")) (actions.Load 2 0 ∷ actions.Load 0 2 ∷ actions.Drop 1 ∷ actions.Invoke 1 (Reg 3) (IntKey (pos 4)) [] ∷ actions.Slot 2 (Reg 3) ∷ []) ∷
            members.Method (Str (codes "take")) (actions.Load 2 0 ∷ actions.SelfTo 2 ∷ actions.Load 1 2 ∷ actions.New 2 (codes "U") ∷ actions.New 3 (codes "Main") ∷ actions.New 1 (codes "T") ∷ actions.Get 3 (Reg 1) (Str (codes "f0")) ∷ actions.Put (Reg 1) (Str (codes "f0")) (Reg 2) ∷ []) ∷
            members.Method (Str (codes "m0")) [] ∷
            members.Method (Str (codes "m1")) (actions.Load 0 2 ∷ actions.New 3 (codes "T") ∷ actions.Set 3 (Reg 2) ∷ actions.Return (Reg 3) ∷ actions.Window 3 ∷ actions.New 3 (codes "None") ∷ []) ∷
            members.Method (IntKey (pos 4)) (actions.SelfTo 2 ∷ actions.New 4 (codes "U") ∷ actions.New 5 (codes "Main") ∷ actions.SelfTo 1 ∷ actions.New 2 (codes "T") ∷ actions.Get 2 (Reg 0) (Str (codes "f0")) ∷ actions.Invoke 3 (Reg 0) (Str (codes "take")) (Const (values.Int (pos 2147483647)) ∷ Reg 2 ∷ Reg 1 ∷ []) ∷ actions.Load 3 3 ∷ actions.Load 2 0 ∷ actions.SelfTo 3 ∷ []) ∷
            members.Method (Str (codes "m2")) (actions.Load 0 2 ∷ actions.Load 3 1 ∷ actions.Load 1 0 ∷ actions.Remove (Reg 4) (Str (codes "f0")) ∷ actions.GetUrl 0 (Const (values.Text (codes "r"))) (pos 1) ∷ actions.Put (Reg 3) (Str (codes "7")) (Reg 0) ∷ actions.Put (Reg 0) (Str (codes "f0")) (Reg 3) ∷ actions.Window 0 ∷ []) ∷
            members.Construct (actions.Load 3 1 ∷ actions.Load 2 0 ∷ actions.New 3 (codes "U") ∷ actions.New 5 (codes "Main") ∷ actions.New 2 (codes "U") ∷ actions.New 1 (codes "T") ∷ []) ∷ []);
      }) ∷
      (record {
        name = codes "T";
        version = 3;
        stored = true;
        members = (
            members.Getter (Str (codes "f1")) (actions.Load 3 1 ∷ actions.New 3 (codes "U") ∷ []) ∷
            members.Method (Str (codes "m3")) [] ∷
            members.Method (Str (codes "take")) (actions.New 1 (codes "T") ∷ actions.Note (Reg 0) ∷ actions.New 2 (codes "Main") ∷ actions.RequestRead 0 (Const (values.Int (pos 4))) ((record { offset = negsuc 2; length = 2 }) ∷ (record { offset = pos 1; length = 3 }) ∷ (record { offset = pos 1; length = 4294967295 }) ∷ (record { offset = pos 2; length = 1 }) ∷ []) ∷ actions.RequestRead 0 (Const (values.Int (pos 2))) ((record { offset = pos 1; length = 9000 }) ∷ []) ∷ []) ∷
            members.Method (Str (codes "m1")) (actions.SelfTo 2 ∷ actions.Load 2 0 ∷ actions.Load 1 1 ∷ actions.New 0 (codes "Main") ∷ actions.Put (Reg 0) (Str (codes "f0")) (Reg 3) ∷ actions.Slot 1 (Reg 0) ∷ actions.Drop 0 ∷ []) ∷
            members.Method (Str (codes "m0")) (actions.New 1 (codes "Main") ∷ actions.New 5 (codes "T") ∷ actions.SelfTo 1 ∷ actions.Construct 3 (Reg 2) (Reg 3 ∷ Reg 0 ∷ Reg 0 ∷ []) ∷ actions.New 2 (codes "U") ∷ actions.Return (Reg 2) ∷ actions.SelfTo 3 ∷ []) ∷
            members.Method (Str (codes "m2")) (actions.Load 2 2 ∷ actions.New 5 (codes "T") ∷ actions.Slot 0 (Reg 1) ∷ actions.New 2 (codes "U") ∷ actions.Drop 1 ∷ actions.Slot 2 (Reg 1) ∷ actions.Invoke 3 (Reg 1) (Str (codes "m3")) (Reg 2 ∷ Reg 2 ∷ []) ∷ []) ∷ []);
      }) ∷
      (record {
        name = codes "U";
        version = 1;
        stored = true;
        members = (
            members.Method (Str (codes "m1")) (actions.SelfTo 2 ∷ actions.Load 2 2 ∷ actions.Throw [] ∷ []) ∷
            members.Method (Str (codes "m3")) (actions.Load 2 2 ∷ actions.New 1 (codes "U") ∷ actions.New 4 (codes "T") ∷ []) ∷
            members.Method (Str (codes "m0")) (actions.Load 2 0 ∷ actions.SelfTo 2 ∷ actions.Note (Reg 0) ∷ actions.New 4 (codes "U") ∷ actions.Put (Reg 4) (Str (codes "f1")) (Reg 5) ∷ actions.New 5 (codes "U") ∷ actions.Put (Reg 4) (Str (codes "f0")) (Reg 5) ∷ []) ∷
            members.Method (IntKey (pos 4)) (actions.Load 3 2 ∷ actions.Load 2 0 ∷ actions.Window 0 ∷ actions.RequestRead 3 (Const (values.Int (pos 3))) ((record { offset = pos 2; length = 4294967295 }) ∷ (record { offset = negsuc 1; length = 9000 }) ∷ []) ∷ []) ∷
            members.Method (Str (codes "take")) (actions.SelfTo 2 ∷ actions.New 2 (codes "U") ∷ actions.New 1 (codes "T") ∷ actions.Slot 1 (Reg 1) ∷ actions.Slot 3 (Const (values.Text (195 ∷ 164 ∷ 34 ∷ 92 ∷ 1 ∷ 127 ∷ []))) ∷ actions.SelfTo 2 ∷ actions.Return (Reg 3) ∷ []) ∷ []);
      }) ∷ []);
  handlers = (
      (record { which = handlers.New; body = (actions.New 0 (codes "Main") ∷ actions.Slot 0 (Reg 0) ∷ actions.Window 1 ∷ actions.Slot 1 (Reg 1) ∷ []) }) ∷
      (record { which = handlers.Scriptable; body = (actions.Load 0 0 ∷ actions.Return (Reg 0) ∷ []) }) ∷
      (record { which = handlers.Destroy; body = (actions.SelfTo 2 ∷ actions.Load 2 0 ∷ actions.Load 2 0 ∷ []) }) ∷
      (record { which = handlers.NewStream; body = (actions.OnEq (Reg 0) (Const (values.Int (pos 1))) 1 ∷ actions.Return (Const (values.Int (pos 2))) ∷ actions.Return (Const (values.Int (pos 2))) ∷ []) }) ∷
      (record { which = handlers.WriteReady; body = [] }) ∷
      (record { which = handlers.AsFile; body = [] }) ∷
      (record { which = handlers.DestroyStream; body = (actions.SelfTo 2 ∷ actions.New 5 (codes "U") ∷ actions.Note (Reg 0) ∷ actions.Window 0 ∷ actions.Put (Reg 1) (Str (codes "f0")) (Const (values.Int (pos 100))) ∷ []) }) ∷ []);
  tasks = [];
}

-- the run of both
both-end : outcome 1500 page plugin ≡ record {
  page = (
      Created (record { side = sides.Page; instance = 1; serial = 1 }) ∷
      CommandResult 1 (results.Code NoError) ∷
      CommandResult 2 (results.Yes (values.Object (record { side = sides.Plug; instance = 1; serial = 1 })) false) ∷
      Created (record { side = sides.Page; instance = 2; serial = 1 }) ∷
      CommandResult 3 (results.Code NoError) ∷
      CommandResult 4 (results.Yes (values.Object (record { side = sides.Plug; instance = 2; serial = 1 })) false) ∷
      Created (record { side = sides.Page; instance = 1; serial = 2 }) ∷
      CommandResult 5 (results.Yes (values.Object (record { side = sides.Page; instance = 1; serial = 2 })) false) ∷
      Created (record { side = sides.Page; instance = 2; serial = 2 }) ∷
      CommandResult 6 (results.Yes (values.Object (record { side = sides.Page; instance = 2; serial = 2 })) false) ∷
      CommandResult 7 results.No ∷
      CommandResult 8 (results.Yes values.Void false) ∷
      CommandResult 9 results.No ∷
      Created (record { side = sides.Page; instance = 2; serial = 3 }) ∷
      CommandResult 10 (results.Yes (values.Object (record { side = sides.Page; instance = 2; serial = 3 })) false) ∷
      CommandResult 11 results.No ∷
      Created (record { side = sides.Page; instance = 2; serial = 4 }) ∷
      Deallocated (record { side = sides.Page; instance = 2; serial = 3 }) ∷
      CommandResult 12 (results.Yes (values.Object (record { side = sides.Page; instance = 2; serial = 4 })) false) ∷
      Entered (record { side = sides.Page; instance = 1; serial = 2 }) (ops.Invoke (Str (codes "m2"))) ∷
      CommandResult 13 (results.Threw (codes "no")) ∷
      Deallocated (record { side = sides.Page; instance = 2; serial = 4 }) ∷
      CommandResult 14 (results.Yes values.Void false) ∷
      ProxyGone (record { side = sides.Plug; instance = 1; serial = 1 }) ∷
      Invalidated (record { side = sides.Page; instance = 1; serial = 1 }) ∷
      Invalidated (record { side = sides.Page; instance = 1; serial = 2 }) ∷
      Deallocated (record { side = sides.Page; instance = 1; serial = 1 }) ∷
      Deallocated (record { side = sides.Page; instance = 1; serial = 2 }) ∷
      CommandResult 15 (results.Code NoError) ∷
      CommandResult 16 results.No ∷
      Entered (record { side = sides.Page; instance = 2; serial = 2 }) (ops.Get (Str (codes "f0"))) ∷
      Created (record { side = sides.Page; instance = 2; serial = 5 }) ∷
      Noted (values.Object (record { side = sides.Page; instance = 2; serial = 2 })) false ∷
      Deallocated (record { side = sides.Page; instance = 2; serial = 5 }) ∷
      CommandResult 17 (results.Yes values.Void false) ∷
      Created (record { side = sides.Page; instance = 2; serial = 6 }) ∷
      CommandResult 18 (results.Yes (values.Object (record { side = sides.Page; instance = 2; serial = 6 })) false) ∷
      CommandResult 19 results.No ∷
      Deallocated (record { side = sides.Page; instance = 2; serial = 6 }) ∷
      CommandResult 20 (results.Yes values.Void false) ∷
      CommandResult 21 results.No ∷
      CommandResult 22 results.No ∷
      CommandResult 23 (results.Code InvalidInstance) ∷
      CommandResult 24 results.No ∷
      CommandResult 25 results.No ∷
      CommandResult 26 results.No ∷
      ProxyGone (record { side = sides.Plug; instance = 2; serial = 1 }) ∷
      Invalidated (record { side = sides.Page; instance = 2; serial = 1 }) ∷
      Invalidated (record { side = sides.Page; instance = 2; serial = 2 }) ∷
      Deallocated (record { side = sides.Page; instance = 2; serial = 1 }) ∷
      Deallocated (record { side = sides.Page; instance = 2; serial = 2 }) ∷ []);
  plugin = (
      HandlerRun 1 handlers.New ∷
      Created (record { side = sides.Plug; instance = 1; serial = 1 }) ∷
      HandlerRun 1 handlers.Scriptable ∷
      HandlerRun 2 handlers.New ∷
      Created (record { side = sides.Plug; instance = 2; serial = 1 }) ∷
      HandlerRun 2 handlers.Scriptable ∷
      Entered (record { side = sides.Plug; instance = 1; serial = 1 }) (ops.Remove (Str (codes "f0"))) ∷
      Entered (record { side = sides.Plug; instance = 1; serial = 1 }) (ops.Invoke (Str (codes "m3"))) ∷
      HandlerRun 1 handlers.Destroy ∷
      ProxyGone (record { side = sides.Page; instance = 1; serial = 1 }) ∷
      Invalidated (record { side = sides.Plug; instance = 1; serial = 1 }) ∷
      Deallocated (record { side = sides.Plug; instance = 1; serial = 1 }) ∷
      HandlerRun 2 handlers.Destroy ∷
      ProxyGone (record { side = sides.Page; instance = 2; serial = 1 }) ∷
      Invalidated (record { side = sides.Plug; instance = 2; serial = 1 }) ∷
      Deallocated (record { side = sides.Plug; instance = 2; serial = 1 }) ∷ []);
  files = [];
  rests = true;
}
unfolding encoding digits is_text is_utf8 chars encode_utf8
both-end = refl

-- all bytes that the page sends
page-sends : page_bytes 1500 page plugin ≡ (0 ∷ 0 ∷ 0 ∷ 7 ∷ 1 ∷ 1 ∷ 0 ∷ 0 ∷ 1 ∷ 0 ∷ 27 ∷ 0 ∷ 0 ∷ 0 ∷ 12 ∷ 2 ∷ 1 ∷ 0 ∷ 0 ∷ 1 ∷ 1 ∷ 0 ∷ 3 ∷ 116 ∷ 47 ∷ 120 ∷ 0 ∷ 0 ∷ 0 ∷ 0 ∷ 11 ∷ 65 ∷ 2 ∷ 0 ∷ 0 ∷ 6 ∷ 0 ∷ 1 ∷ 0 ∷ 0 ∷ 0 ∷ 1 ∷ 0 ∷ 0 ∷ 0 ∷ 5 ∷ 4 ∷ 1 ∷ 0 ∷ 0 ∷ 1 ∷ 0 ∷ 0 ∷ 0 ∷ 12 ∷ 2 ∷ 1 ∷ 0 ∷ 0 ∷ 2 ∷ 1 ∷ 0 ∷ 3 ∷ 116 ∷ 47 ∷ 120 ∷ 0 ∷ 0 ∷ 0 ∷ 0 ∷ 11 ∷ 65 ∷ 2 ∷ 0 ∷ 0 ∷ 6 ∷ 0 ∷ 2 ∷ 0 ∷ 0 ∷ 0 ∷ 1 ∷ 0 ∷ 0 ∷ 0 ∷ 5 ∷ 4 ∷ 1 ∷ 0 ∷ 0 ∷ 2 ∷ 0 ∷ 0 ∷ 0 ∷ 15 ∷ 64 ∷ 1 ∷ 0 ∷ 0 ∷ 1 ∷ 0 ∷ 0 ∷ 0 ∷ 1 ∷ 6 ∷ 0 ∷ 0 ∷ 2 ∷ 102 ∷ 48 ∷ 0 ∷ 0 ∷ 0 ∷ 30 ∷ 64 ∷ 1 ∷ 0 ∷ 0 ∷ 1 ∷ 0 ∷ 0 ∷ 0 ∷ 1 ∷ 1 ∷ 0 ∷ 0 ∷ 2 ∷ 109 ∷ 51 ∷ 2 ∷ 6 ∷ 0 ∷ 2 ∷ 0 ∷ 0 ∷ 0 ∷ 2 ∷ 6 ∷ 0 ∷ 2 ∷ 0 ∷ 0 ∷ 0 ∷ 2 ∷ 0 ∷ 0 ∷ 0 ∷ 5 ∷ 3 ∷ 1 ∷ 0 ∷ 0 ∷ 1 ∷ 0 ∷ 0 ∷ 0 ∷ 5 ∷ 3 ∷ 1 ∷ 0 ∷ 0 ∷ 2 ∷ 0 ∷ 0 ∷ 0 ∷ 4 ∷ 12 ∷ 1 ∷ 0 ∷ 0 ∷ [])
unfolding encoding digits is_text is_utf8 chars encode_utf8
page-sends = refl

-- all bytes that the plugin sends
plugin-sends : plugin_bytes 1500 page plugin ≡ (0 ∷ 0 ∷ 0 ∷ 5 ∷ 69 ∷ 1 ∷ 0 ∷ 0 ∷ 0 ∷ 0 ∷ 0 ∷ 0 ∷ 5 ∷ 32 ∷ 2 ∷ 0 ∷ 0 ∷ 1 ∷ 0 ∷ 0 ∷ 0 ∷ 5 ∷ 69 ∷ 1 ∷ 0 ∷ 0 ∷ 0 ∷ 0 ∷ 0 ∷ 0 ∷ 11 ∷ 65 ∷ 1 ∷ 0 ∷ 0 ∷ 6 ∷ 1 ∷ 1 ∷ 0 ∷ 0 ∷ 0 ∷ 1 ∷ 0 ∷ 0 ∷ 0 ∷ 5 ∷ 32 ∷ 2 ∷ 0 ∷ 0 ∷ 2 ∷ 0 ∷ 0 ∷ 0 ∷ 5 ∷ 69 ∷ 1 ∷ 0 ∷ 0 ∷ 0 ∷ 0 ∷ 0 ∷ 0 ∷ 11 ∷ 65 ∷ 1 ∷ 0 ∷ 0 ∷ 6 ∷ 1 ∷ 2 ∷ 0 ∷ 0 ∷ 0 ∷ 1 ∷ 0 ∷ 0 ∷ 0 ∷ 4 ∷ 66 ∷ 1 ∷ 0 ∷ 0 ∷ 0 ∷ 0 ∷ 0 ∷ 14 ∷ 65 ∷ 1 ∷ 0 ∷ 1 ∷ 2 ∷ 0 ∷ 0 ∷ 0 ∷ 2 ∷ 0 ∷ 0 ∷ 0 ∷ 2 ∷ 0 ∷ 0 ∷ 0 ∷ 0 ∷ 5 ∷ 69 ∷ 1 ∷ 0 ∷ 0 ∷ 0 ∷ 0 ∷ 0 ∷ 0 ∷ 5 ∷ 69 ∷ 1 ∷ 0 ∷ 0 ∷ 0 ∷ 0 ∷ 0 ∷ 0 ∷ 4 ∷ 71 ∷ 1 ∷ 0 ∷ 0 ∷ [])
unfolding encoding digits is_text is_utf8 chars encode_utf8
plugin-sends = refl
