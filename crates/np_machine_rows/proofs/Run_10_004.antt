-- Made by tools/vector-theorems of tests/vectors/10-004.
use Rattle.std.proofs.Common.{◌≡◌, pos, [], ◌∷◌, refl, true, false, None}
use Rattle.std.specs.Prelude.{codes}
use Rattle.std.specs.Char.{encode_utf8}
use Rattle.std.specs.Fmt.{digits}
use Rattle.std.specs.Str.{is_utf8, chars}
use Rattle.np_values.specs.declared.error.NpError.TheVariants.{NoError}
use Rattle.np_values.specs.declared.handler.Handler.TheVariants as handlers
use Rattle.np_values.specs.declared.name.Side.TheVariants as sides
use Rattle.np_values.specs.declared.reason.NpReason.TheVariants as reasons
use Rattle.np_values.specs.declared.value.Value.TheVariants as values
use Rattle.np_values.specs.Text.{is_text}
use Rattle.np_idents.specs.declared.key.IdKey.TheVariants.{Str, Int as IntKey}
use Rattle.np_idents.specs.declared.op.Op.TheVariants as ops
use Rattle.np_script_grammar.specs.declared.action.Action.TheVariants as actions
use Rattle.np_script_grammar.specs.declared.action.Operand.TheVariants.{Reg, Const}
use Rattle.np_script_grammar.specs.declared.class.Member.TheVariants as members
use Rattle.np_script_grammar.specs.declared.command.Command.TheVariants as commands
use Rattle.np_script_grammar.specs.declared.page.Page.{Page}
use Rattle.np_script_grammar.specs.declared.plugin.Plugin.{Plugin}
use Rattle.np_message.specs.Encoding.{encoding}
use Rattle.np_journal.specs.declared.line.Line.TheVariants.{Created, Entered, HandlerRun, ProxyGone, Invalidated, Deallocated, Noted, CommandResult}
use Rattle.np_journal.specs.declared.printed.Printed.TheVariants as results
use Rattle.np_machine_plans.specs.AtOnce.{orderly_along}
use Rattle.np_machine_plans.specs.Outcomes.{resource, outcome, direct_outcome, page_bytes, plugin_bytes}

abbrev page : Page
page = record {
  major = 0;
  minor = 27;
  classes = (
      (record {
        name = codes "Window";
        version = 3;
        stored = true;
        members = (
            members.Method (Str (codes "m0")) (actions.SelfTo 1 ∷ actions.Invoke 2 (Reg 1) (Str (codes "m0")) (Reg 1 ∷ []) ∷ actions.Note (Reg 3) ∷ actions.OnFalse 1 ∷ actions.Return (Reg 1) ∷ []) ∷
            members.Default [] ∷
            members.Method (Str (codes "take")) (actions.Load 2 0 ∷ actions.Destroy 0 1 ∷ actions.Slot 0 (Reg 2) ∷ actions.New 2 (codes "A") ∷ actions.Add 0 (Reg 1) (Reg 3) ∷ actions.Load 1 3 ∷ []) ∷
            members.Method (IntKey (pos 4)) (actions.Load 2 0 ∷ actions.Load 2 1 ∷ actions.Get 3 (Reg 2) (IntKey (pos 7)) ∷ actions.Put (Reg 2) (IntKey (pos 7)) (Reg 3) ∷ []) ∷
            members.Method (Str (codes "m3")) (actions.New 1 (codes "Window") ∷ actions.Put (Reg 1) (IntKey (pos 7)) (Reg 0) ∷ actions.Get 0 (Reg 1) (IntKey (pos 7)) ∷ actions.Remove (Reg 1) (IntKey (pos 7)) ∷ []) ∷
            members.Method (Str (codes "m2")) [] ∷
            members.Method (Str (codes "m1")) (actions.Put (Reg 2) (Str (codes "f0")) (Const (values.Bool true)) ∷ actions.Drop 3 ∷ actions.Load 0 1 ∷ actions.Load 1 1 ∷ []) ∷ []);
      }) ∷
      (record {
        name = codes "A";
        version = 3;
        stored = false;
        members = (
            members.Method (IntKey (pos 4)) [] ∷
            members.Method (Str (codes "m3")) (actions.Load 2 0 ∷ actions.Set 2 (Reg 2) ∷ actions.Invoke 3 (Reg 3) (Str (codes "take")) (Reg 5 ∷ Reg 3 ∷ Reg 0 ∷ []) ∷ actions.Load 3 3 ∷ []) ∷
            members.Method (Str (codes "m2")) (actions.SelfTo 2 ∷ actions.Load 2 0 ∷ actions.New 2 (codes "B") ∷ actions.New 4 (codes "A") ∷ actions.Load 2 3 ∷ actions.New 3 (codes "B") ∷ actions.New 0 (codes "B") ∷ actions.Invoke 3 (Reg 2) (Str (codes "take")) (Const (values.Double (0 ∷ 1 ∷ 2 ∷ 3 ∷ 4 ∷ 5 ∷ 6 ∷ 7 ∷ [])) ∷ Reg 1 ∷ []) ∷ actions.Invoke 1 (Reg 2) (Str (codes "take")) (Const (values.Text (codes "e")) ∷ Reg 2 ∷ Reg 0 ∷ []) ∷ []) ∷
            members.Default (actions.Load 2 0 ∷ actions.Load 2 1 ∷ actions.Destroy 1 2 ∷ []) ∷
            members.Method (Str (codes "m0")) (actions.SelfTo 1 ∷ actions.Invoke 2 (Reg 0) (Str (codes "m0")) (Reg 1 ∷ []) ∷ actions.Destroy 3 2 ∷ actions.Note (Reg 3) ∷ actions.SelfTo 2 ∷ actions.Load 2 0 ∷ actions.Slot 3 (Reg 1) ∷ actions.OnFalse 1 ∷ actions.Return (Reg 0) ∷ []) ∷
            members.Method (Str (codes "m1")) (actions.Invoke 3 (Reg 1) (IntKey (pos 4)) (Reg 3 ∷ Reg 2 ∷ Reg 3 ∷ []) ∷ actions.Destroy 0 2 ∷ actions.Invoke 0 (Reg 0) (IntKey (pos 4)) (Reg 1 ∷ Reg 0 ∷ Reg 0 ∷ []) ∷ actions.New 2 (codes "Window") ∷ []) ∷
            members.Method (Str (codes "take")) (actions.Load 3 1 ∷ actions.HasMethod (Reg 2) (Str (codes "m3")) ∷ []) ∷ []);
      }) ∷
      (record {
        name = codes "B";
        version = 1;
        stored = false;
        members = (
            members.Method (Str (codes "take")) (actions.Load 2 0 ∷ actions.Invoke 3 (Reg 0) (Str (codes "none")) (Reg 1 ∷ Reg 0 ∷ []) ∷ []) ∷
            members.Method (IntKey (pos 4)) (actions.Load 1 2 ∷ actions.Load 2 0 ∷ actions.New 5 (codes "B") ∷ actions.OnTrue 1 ∷ []) ∷
            members.Method (Str (codes "m0")) (actions.SelfTo 1 ∷ actions.Invoke 2 (Reg 0) (Str (codes "m0")) (Reg 1 ∷ []) ∷ actions.Note (Reg 3) ∷ actions.OnFalse 1 ∷ actions.Return (Reg 2) ∷ []) ∷
            members.Method (Str (codes "m1")) (actions.Load 2 0 ∷ actions.Invoke 0 (Reg 2) (Str (codes "take")) (Const (values.Int (pos 100)) ∷ Reg 1 ∷ Reg 3 ∷ []) ∷ actions.Load 2 3 ∷ actions.New 3 (codes "B") ∷ []) ∷
            members.Method (Str (codes "m3")) [] ∷
            members.Setter (Str (codes "f1")) [] ∷
            members.Method (Str (codes "m2")) (actions.Load 3 1 ∷ actions.SelfTo 2 ∷ actions.CallDefault 2 (Reg 5) (Reg 3 ∷ Reg 0 ∷ Reg 0 ∷ []) ∷ []) ∷ []);
      }) ∷ []);
  resources = (
      resource (codes "r") (codes "t/p") 1 (codes "abc") ∷
      resource (codes "s") (codes "t/p") 2 (codes "0123456789") ∷
      resource (codes "e") (codes "t/p") 0 (codes "0123456789") ∷ []);
  commands = (
      commands.Create (codes "t/x") 1 [] ∷
      commands.Scriptable 0 1 ∷
      commands.New 2 1 (codes "Window") ∷
      commands.New 3 1 (codes "B") ∷
      commands.Turn ∷
      commands.Invoke 5 (Reg 1) (Str (codes "m2")) (Reg 5 ∷ Reg 0 ∷ Reg 4 ∷ []) ∷
      commands.New 0 1 (codes "A") ∷
      commands.Invoke 0 (Reg 0) (Str (codes "m0")) (Reg 5 ∷ Reg 3 ∷ Reg 2 ∷ []) ∷ []);
}

abbrev plugin : Plugin
plugin = record {
  major = 0;
  minor = 27;
  classes = (
      (record {
        name = codes "Main";
        version = 1;
        stored = false;
        members = (
            members.Method (Str (codes "m1")) [] ∷
            members.Getter (Str (codes "f1")) (actions.Load 2 0 ∷ actions.Load 3 1 ∷ actions.New 5 (codes "Main") ∷ actions.New 3 (codes "T") ∷ actions.Slot 2 (Reg 3) ∷ actions.Invoke 2 (Reg 3) (Str (codes "take")) (Reg 3 ∷ []) ∷ actions.Put (Reg 3) (Str (codes "f0")) (Reg 2) ∷ actions.Note (Const values.Void) ∷ []) ∷
            members.Method (Str (codes "m2")) (actions.New 0 (codes "U") ∷ actions.Load 3 0 ∷ actions.Later (codes "v") ∷ actions.Invoke 2 (Reg 1) (Str (codes "m3")) (Reg 1 ∷ Reg 2 ∷ Reg 1 ∷ []) ∷ []) ∷
            members.Method (Str (codes "take")) (actions.Invoke 0 (Reg 3) (Str (codes "none")) (Reg 3 ∷ Reg 2 ∷ Reg 0 ∷ []) ∷ actions.Remove (Reg 2) (Str (codes "f0")) ∷ []) ∷
            members.Method (IntKey (pos 4)) (actions.SelfTo 2 ∷ actions.Load 3 1 ∷ actions.New 4 (codes "U") ∷ []) ∷
            members.Method (Str (codes "m3")) (actions.New 1 (codes "Main") ∷ actions.Put (Reg 1) (Str (codes "7")) (Reg 0) ∷ actions.Get 0 (Reg 1) (Str (codes "7")) ∷ actions.Remove (Reg 1) (Str (codes "7")) ∷ []) ∷
            members.Method (Str (codes "m0")) (actions.SelfTo 1 ∷ actions.Invoke 2 (Reg 1) (Str (codes "m0")) (Reg 1 ∷ []) ∷ actions.EndStream 3 (Const (values.Int (pos 1))) reasons.Done ∷ actions.RequestRead 3 (Const (values.Int (pos 1))) ((record { offset = pos 1; length = 9000 }) ∷ []) ∷ actions.Load 2 0 ∷ actions.Load 3 1 ∷ actions.New 1 (codes "Main") ∷ actions.New 3 (codes "T") ∷ actions.New 4 (codes "Main") ∷ actions.Later (codes "v") ∷ actions.New 3 (codes "None") ∷ actions.OnFalse 1 ∷ actions.Return (Reg 1) ∷ []) ∷ []);
      }) ∷
      (record {
        name = codes "T";
        version = 2;
        stored = true;
        members = (
            members.Method (Str (codes "m2")) (actions.SelfTo 2 ∷ actions.New 3 (codes "T") ∷ actions.Load 0 0 ∷ actions.OnFalse 1 ∷ actions.Drop 3 ∷ []) ∷
            members.Method (Str (codes "m0")) (actions.SelfTo 1 ∷ actions.Invoke 2 (Reg 0) (Str (codes "m0")) (Reg 1 ∷ []) ∷ actions.Load 3 2 ∷ actions.Slot 1 (Reg 2) ∷ actions.OnFalse 1 ∷ actions.Return (Reg 3) ∷ []) ∷
            members.Method (Str (codes "m3")) (actions.Load 2 0 ∷ actions.Invoke 3 (Reg 2) (Str (codes "m0")) (Reg 2 ∷ Reg 3 ∷ []) ∷ actions.Put (Reg 0) (Str (codes "f0")) (Reg 2) ∷ actions.Invoke 4 (Reg 2) (Str (codes "take")) (Reg 1 ∷ Reg 3 ∷ Const (values.Text (codes "e")) ∷ []) ∷ actions.Later (codes "t") ∷ []) ∷
            members.Method (IntKey (pos 4)) (actions.Load 2 0 ∷ actions.New 4 (codes "U") ∷ actions.New 2 (codes "U") ∷ actions.Drop 3 ∷ []) ∷
            members.Method (Str (codes "m1")) (actions.Load 3 1 ∷ actions.New 5 (codes "Main") ∷ actions.Load 3 2 ∷ []) ∷
            members.Method (Str (codes "take")) (actions.Load 3 1 ∷ actions.Load 2 0 ∷ actions.Later (codes "u") ∷ []) ∷ []);
      }) ∷
      (record {
        name = codes "U";
        version = 3;
        stored = true;
        members = (
            members.Method (Str (codes "m2")) (actions.SelfTo 2 ∷ actions.Load 2 0 ∷ actions.Put (Reg 1) (Str (codes "f0")) (Reg 1) ∷ actions.New 2 (codes "U") ∷ actions.Slot 3 (Reg 3) ∷ actions.Invoke 4 (Reg 0) (Str (codes "m3")) (Reg 3 ∷ Reg 1 ∷ []) ∷ []) ∷
            members.Method (Str (codes "take")) (actions.Invoke 2 (Reg 2) (Str (codes "none")) [] ∷ actions.Invoke 2 (Reg 2) (Str (codes "none")) (Reg 3 ∷ Reg 0 ∷ Reg 3 ∷ []) ∷ []) ∷
            members.Method (Str (codes "m1")) (actions.Load 3 1 ∷ actions.New 1 (codes "Main") ∷ actions.Slot 2 (Reg 3) ∷ actions.New 3 (codes "T") ∷ actions.Load 3 1 ∷ actions.Invoke 0 (Reg 1) (Str (codes "m2")) (Reg 0 ∷ Reg 1 ∷ []) ∷ []) ∷
            members.Method (IntKey (pos 4)) (actions.Load 3 1 ∷ actions.Invoke 2 (Reg 3) (Str (codes "m3")) (Reg 2 ∷ Reg 0 ∷ Reg 0 ∷ []) ∷ actions.Later (codes "v") ∷ actions.Invoke 0 (Reg 3) (Str (codes "take")) (Reg 0 ∷ Reg 1 ∷ Reg 3 ∷ []) ∷ []) ∷
            members.Method (Str (codes "m0")) (actions.SelfTo 1 ∷ actions.Invoke 2 (Reg 0) (Str (codes "m0")) (Reg 1 ∷ []) ∷ actions.GetUrl 3 (Const (values.Text (codes "r"))) (pos 1) ∷ actions.Window 3 ∷ actions.Note (Reg 3) ∷ actions.RequestRead 3 (Const (values.Int (pos 1))) ((record { offset = pos 0; length = 1 }) ∷ (record { offset = pos 2; length = 9000 }) ∷ []) ∷ actions.New 3 (codes "Main") ∷ actions.OnFalse 1 ∷ actions.Return (Reg 4) ∷ []) ∷
            members.Method (Str (codes "m3")) (actions.Load 0 2 ∷ actions.Invoke 2 (Reg 4) (IntKey (pos 4)) (Reg 2 ∷ Const (values.Double (0 ∷ 1 ∷ 2 ∷ 3 ∷ 4 ∷ 5 ∷ 6 ∷ 7 ∷ [])) ∷ Reg 3 ∷ []) ∷ []) ∷ []);
      }) ∷ []);
  handlers = (
      (record { which = handlers.New; body = (actions.New 0 (codes "Main") ∷ actions.Slot 0 (Reg 0) ∷ actions.Window 1 ∷ actions.Slot 1 (Reg 1) ∷ actions.Drop 0 ∷ []) }) ∷
      (record { which = handlers.Scriptable; body = (actions.Load 0 0 ∷ actions.Return (Reg 0) ∷ []) }) ∷
      (record { which = handlers.Destroy; body = (actions.Load 2 0 ∷ actions.New 3 (codes "U") ∷ actions.New 2 (codes "T") ∷ []) }) ∷
      (record { which = handlers.WriteReady; body = [] }) ∷
      (record { which = handlers.AsFile; body = [] }) ∷
      (record { which = handlers.DestroyStream; body = [] }) ∷
      (record { which = handlers.UrlNotify; body = [] }) ∷ []);
  tasks = (
      (record { name = codes "t"; body = (actions.Load 1 1 ∷ actions.Load 0 3 ∷ actions.SelfTo 2 ∷ actions.Invoke 0 (Reg 2) (IntKey (pos 4)) (Reg 2 ∷ Reg 0 ∷ []) ∷ actions.Invoke 0 (Reg 1) (Str (codes "take")) (Reg 0 ∷ Reg 0 ∷ Reg 3 ∷ []) ∷ actions.Load 4 2 ∷ actions.Load 2 0 ∷ actions.Load 3 2 ∷ actions.New 4 (codes "U") ∷ actions.GetUrl 2 (Reg 10) (pos 2) ∷ actions.Return (Reg 3) ∷ []) }) ∷
      (record { name = codes "u"; body = (actions.Load 1 1 ∷ actions.Load 0 0 ∷ actions.Load 2 0 ∷ actions.CallDefault 0 (Reg 3) (Const values.Void ∷ []) ∷ actions.RequestRead 1 (Const (values.Int (pos 2))) ((record { offset = pos 1; length = 2 }) ∷ []) ∷ actions.Invoke 3 (Reg 4) (Str (codes "m2")) (Reg 0 ∷ Reg 1 ∷ []) ∷ actions.Invoke 3 (Reg 1) (Str (codes "m2")) (Reg 3 ∷ Reg 3 ∷ []) ∷ actions.Load 3 1 ∷ actions.Load 0 2 ∷ actions.Return (Reg 1) ∷ actions.Load 1 2 ∷ actions.Return (Reg 2) ∷ []) }) ∷
      (record { name = codes "v"; body = (actions.Load 1 2 ∷ actions.New 3 (codes "Main") ∷ actions.New 4 (codes "Main") ∷ []) }) ∷ []);
}

-- the run of both
both-end : outcome 1500 page plugin ≡ record {
  page = (
      Created (record { side = sides.Page; instance = 1; serial = 1 }) ∷
      CommandResult 1 (results.Code NoError) ∷
      CommandResult 2 (results.Yes (values.Object (record { side = sides.Plug; instance = 1; serial = 1 })) false) ∷
      Created (record { side = sides.Page; instance = 1; serial = 2 }) ∷
      CommandResult 3 (results.Yes (values.Object (record { side = sides.Page; instance = 1; serial = 2 })) false) ∷
      Created (record { side = sides.Page; instance = 1; serial = 3 }) ∷
      CommandResult 4 (results.Yes (values.Object (record { side = sides.Page; instance = 1; serial = 3 })) false) ∷
      CommandResult 5 (results.Yes values.Void false) ∷
      CommandResult 6 results.No ∷
      Created (record { side = sides.Page; instance = 1; serial = 4 }) ∷
      CommandResult 7 (results.Yes (values.Object (record { side = sides.Page; instance = 1; serial = 4 })) false) ∷
      Entered (record { side = sides.Page; instance = 1; serial = 4 }) (ops.Invoke (Str (codes "m0"))) ∷
      Noted (values.Int (pos 2)) false ∷
      CommandResult 8 (results.Yes values.Void false) ∷
      Invalidated (record { side = sides.Page; instance = 1; serial = 1 }) ∷
      Invalidated (record { side = sides.Page; instance = 1; serial = 2 }) ∷
      Invalidated (record { side = sides.Page; instance = 1; serial = 3 }) ∷
      Invalidated (record { side = sides.Page; instance = 1; serial = 4 }) ∷
      Deallocated (record { side = sides.Page; instance = 1; serial = 1 }) ∷
      Deallocated (record { side = sides.Page; instance = 1; serial = 2 }) ∷
      Deallocated (record { side = sides.Page; instance = 1; serial = 3 }) ∷
      Deallocated (record { side = sides.Page; instance = 1; serial = 4 }) ∷ []);
  plugin = (
      HandlerRun 1 handlers.New ∷
      Created (record { side = sides.Plug; instance = 1; serial = 1 }) ∷
      HandlerRun 1 handlers.Scriptable ∷
      HandlerRun 1 handlers.Destroy ∷
      Created (record { side = sides.Plug; instance = 1; serial = 2 }) ∷
      Created (record { side = sides.Plug; instance = 1; serial = 3 }) ∷
      Deallocated (record { side = sides.Plug; instance = 1; serial = 3 }) ∷
      Deallocated (record { side = sides.Plug; instance = 1; serial = 2 }) ∷
      ProxyGone (record { side = sides.Page; instance = 1; serial = 1 }) ∷
      Invalidated (record { side = sides.Plug; instance = 1; serial = 1 }) ∷
      Deallocated (record { side = sides.Plug; instance = 1; serial = 1 }) ∷ []);
  files = [];
  rests = true;
}
unfolding encoding digits is_text is_utf8 chars encode_utf8
both-end = refl

-- the direct run
direct-run : direct_outcome 3000 page plugin ≡ record {
  page = (
      Created (record { side = sides.Page; instance = 1; serial = 1 }) ∷
      CommandResult 1 (results.Code NoError) ∷
      CommandResult 2 (results.Yes (values.Object (record { side = sides.Plug; instance = 1; serial = 1 })) false) ∷
      Created (record { side = sides.Page; instance = 1; serial = 2 }) ∷
      CommandResult 3 (results.Yes (values.Object (record { side = sides.Page; instance = 1; serial = 2 })) false) ∷
      Created (record { side = sides.Page; instance = 1; serial = 3 }) ∷
      CommandResult 4 (results.Yes (values.Object (record { side = sides.Page; instance = 1; serial = 3 })) false) ∷
      CommandResult 5 (results.Yes values.Void false) ∷
      CommandResult 6 results.No ∷
      Created (record { side = sides.Page; instance = 1; serial = 4 }) ∷
      CommandResult 7 (results.Yes (values.Object (record { side = sides.Page; instance = 1; serial = 4 })) false) ∷
      Entered (record { side = sides.Page; instance = 1; serial = 4 }) (ops.Invoke (Str (codes "m0"))) ∷
      Noted (values.Int (pos 2)) false ∷
      CommandResult 8 (results.Yes values.Void false) ∷
      Invalidated (record { side = sides.Page; instance = 1; serial = 1 }) ∷
      Invalidated (record { side = sides.Page; instance = 1; serial = 2 }) ∷
      Invalidated (record { side = sides.Page; instance = 1; serial = 3 }) ∷
      Invalidated (record { side = sides.Page; instance = 1; serial = 4 }) ∷
      Deallocated (record { side = sides.Page; instance = 1; serial = 1 }) ∷
      Deallocated (record { side = sides.Page; instance = 1; serial = 2 }) ∷
      Deallocated (record { side = sides.Page; instance = 1; serial = 3 }) ∷
      Deallocated (record { side = sides.Page; instance = 1; serial = 4 }) ∷ []);
  plugin = (
      HandlerRun 1 handlers.New ∷
      Created (record { side = sides.Plug; instance = 1; serial = 1 }) ∷
      HandlerRun 1 handlers.Scriptable ∷
      HandlerRun 1 handlers.Destroy ∷
      Created (record { side = sides.Plug; instance = 1; serial = 2 }) ∷
      Created (record { side = sides.Plug; instance = 1; serial = 3 }) ∷
      Deallocated (record { side = sides.Plug; instance = 1; serial = 3 }) ∷
      Deallocated (record { side = sides.Plug; instance = 1; serial = 2 }) ∷
      ProxyGone (record { side = sides.Page; instance = 1; serial = 1 }) ∷
      Invalidated (record { side = sides.Plug; instance = 1; serial = 1 }) ∷
      Deallocated (record { side = sides.Plug; instance = 1; serial = 1 }) ∷ []);
  files = [];
  rests = true;
}
unfolding encoding digits is_text is_utf8 chars encode_utf8
direct-run = refl

-- each message is delivered at once, and none is refused
orderly-in-rounds : orderly_along (sides.Page ∷ sides.Plug ∷ []) 700 page plugin ≡ true
unfolding encoding digits is_text is_utf8 chars encode_utf8
orderly-in-rounds = refl

-- each message is delivered at once, and none is refused
orderly-page-ahead : orderly_along (sides.Page ∷ sides.Page ∷ sides.Page ∷ sides.Page ∷ sides.Page ∷ sides.Page ∷ sides.Plug ∷ []) 200 page plugin ≡ true
unfolding encoding digits is_text is_utf8 chars encode_utf8
orderly-page-ahead = refl

-- each message is delivered at once, and none is refused
orderly-plugin-ahead : orderly_along (sides.Page ∷ sides.Plug ∷ sides.Plug ∷ sides.Plug ∷ sides.Plug ∷ sides.Plug ∷ sides.Plug ∷ []) 200 page plugin ≡ true
unfolding encoding digits is_text is_utf8 chars encode_utf8
orderly-plugin-ahead = refl

-- all bytes that the page sends
page-sends : page_bytes 1500 page plugin ≡ (0 ∷ 0 ∷ 0 ∷ 7 ∷ 1 ∷ 1 ∷ 0 ∷ 0 ∷ 1 ∷ 0 ∷ 27 ∷ 0 ∷ 0 ∷ 0 ∷ 12 ∷ 2 ∷ 1 ∷ 0 ∷ 0 ∷ 1 ∷ 1 ∷ 0 ∷ 3 ∷ 116 ∷ 47 ∷ 120 ∷ 0 ∷ 0 ∷ 0 ∷ 0 ∷ 11 ∷ 65 ∷ 2 ∷ 0 ∷ 0 ∷ 6 ∷ 0 ∷ 1 ∷ 0 ∷ 0 ∷ 0 ∷ 1 ∷ 0 ∷ 0 ∷ 0 ∷ 5 ∷ 4 ∷ 1 ∷ 0 ∷ 0 ∷ 1 ∷ 0 ∷ 0 ∷ 0 ∷ 4 ∷ 5 ∷ 1 ∷ 0 ∷ 0 ∷ 0 ∷ 0 ∷ 0 ∷ 14 ∷ 3 ∷ 1 ∷ 0 ∷ 1 ∷ 1 ∷ 0 ∷ 0 ∷ 0 ∷ 1 ∷ 0 ∷ 0 ∷ 0 ∷ 1 ∷ 1 ∷ 0 ∷ 0 ∷ 0 ∷ 4 ∷ 12 ∷ 1 ∷ 0 ∷ 0 ∷ [])
unfolding encoding digits is_text is_utf8 chars encode_utf8
page-sends = refl

-- all bytes that the plugin sends
plugin-sends : plugin_bytes 1500 page plugin ≡ (0 ∷ 0 ∷ 0 ∷ 5 ∷ 69 ∷ 1 ∷ 0 ∷ 0 ∷ 0 ∷ 0 ∷ 0 ∷ 0 ∷ 5 ∷ 32 ∷ 2 ∷ 0 ∷ 0 ∷ 1 ∷ 0 ∷ 0 ∷ 0 ∷ 5 ∷ 69 ∷ 1 ∷ 0 ∷ 0 ∷ 0 ∷ 0 ∷ 0 ∷ 0 ∷ 11 ∷ 65 ∷ 1 ∷ 0 ∷ 0 ∷ 6 ∷ 1 ∷ 1 ∷ 0 ∷ 0 ∷ 0 ∷ 1 ∷ 0 ∷ 0 ∷ 0 ∷ 4 ∷ 71 ∷ 1 ∷ 0 ∷ 0 ∷ 0 ∷ 0 ∷ 0 ∷ 5 ∷ 69 ∷ 1 ∷ 0 ∷ 0 ∷ 0 ∷ 0 ∷ 0 ∷ 0 ∷ 4 ∷ 71 ∷ 1 ∷ 0 ∷ 0 ∷ [])
unfolding encoding digits is_text is_utf8 chars encode_utf8
plugin-sends = refl
