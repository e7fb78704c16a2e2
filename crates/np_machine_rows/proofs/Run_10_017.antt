-- Made by tools/vector-theorems of tests/vectors/10-017.
use Rattle.std.proofs.Common.{◌≡◌, pos, negsuc, [], ◌∷◌, refl, true, false}
use Rattle.std.specs.Prelude.{codes}
use Rattle.std.specs.Char.{encode_utf8}
use Rattle.std.specs.Fmt.{digits}
use Rattle.std.specs.Str.{is_utf8, chars}
use Rattle.np_values.specs.declared.error.NpError.TheVariants.{NoError}
use Rattle.np_values.specs.declared.handler.Handler.TheVariants as handlers
use Rattle.np_values.specs.declared.name.Side.TheVariants as sides
use Rattle.np_values.specs.declared.value.Value.TheVariants as values
use Rattle.np_values.specs.Text.{is_text}
use Rattle.np_idents.specs.declared.key.IdKey.TheVariants.{Str, Int as IntKey}
use Rattle.np_idents.specs.declared.op.Op.TheVariants as ops
use Rattle.np_script_grammar.specs.declared.action.Action.TheVariants as actions
use Rattle.np_script_grammar.specs.declared.action.Operand.TheVariants.{Reg, Const}
use Rattle.np_script_grammar.specs.declared.class.Member.TheVariants as members
use Rattle.np_script_grammar.specs.declared.command.Command.TheVariants as commands
use Rattle.np_script_grammar.specs.declared.page.Page.{Page}
use Rattle.np_script_grammar.specs.declared.plugin.Plugin.{Plugin}
use Rattle.np_message.specs.Encoding.{encoding}
use Rattle.np_journal.specs.declared.line.Line.TheVariants.{Created, Entered, HandlerRun, TaskBegun, ProxyGone, Invalidated, Deallocated, CommandResult}
use Rattle.np_journal.specs.declared.printed.Printed.TheVariants as results
use Rattle.np_machine_plans.specs.AtOnce.{orderly_along}
use Rattle.np_machine_plans.specs.Outcomes.{resource, outcome, direct_outcome, page_bytes, plugin_bytes}

abbrev page : Page
page = record {
  major = 0;
  minor = 27;
  classes = (
      (record {
        name = codes "Window";
        version = 2;
        stored = true;
        members = (
            members.Default (actions.SelfTo 2 ∷ actions.Load 1 2 ∷ actions.Get 1 (Reg 0) (Str (codes "f0")) ∷ actions.New 1 (codes "A") ∷ actions.Get 3 (Reg 11) (Str (codes "f0")) ∷ actions.Set 0 (Reg 3) ∷ actions.Destroy 2 1 ∷ []) ∷
            members.Method (Str (codes "m2")) [] ∷
            members.Method (IntKey (pos 4)) (actions.Load 2 2 ∷ actions.SelfTo 2 ∷ actions.New 2 (codes "A") ∷ actions.Remove (Reg 4) (Str (codes "f0")) ∷ actions.New 5 (codes "B") ∷ []) ∷
            members.Method (Str (codes "m1")) (actions.Construct 2 (Reg 1) [] ∷ actions.Put (Reg 3) (Str (codes "7")) (Reg 1) ∷ actions.Add 11 (Reg 2) (Reg 3) ∷ []) ∷
            members.Method (Str (codes "m0")) [] ∷
            members.Method (Str (codes "take")) (actions.Load 3 1 ∷ actions.New 0 (codes "A") ∷ actions.New 2 (codes "B") ∷ actions.New 4 (codes "Window") ∷ actions.Note (Reg 3) ∷ actions.Invoke 0 (Reg 0) (Str (codes "none")) (Reg 1 ∷ Reg 0 ∷ []) ∷ []) ∷
            members.Method (Str (codes "m3")) (actions.New 4 (codes "Window") ∷ actions.Put (Reg 4) (Str (codes "f0")) (Reg 1) ∷ actions.Get 1 (Reg 4) (Str (codes "f0")) ∷ actions.Remove (Reg 4) (Str (codes "f0")) ∷ []) ∷ []);
      }) ∷
      (record {
        name = codes "A";
        version = 1;
        stored = false;
        members = (
            members.Method (Str (codes "m1")) (actions.New 5 (codes "B") ∷ actions.New 1 (codes "B") ∷ actions.Invoke 0 (Reg 1) (Str (codes "m0")) (Reg 2 ∷ Reg 2 ∷ Reg 3 ∷ []) ∷ actions.New 2 (codes "B") ∷ actions.Slot 1 (Reg 3) ∷ []) ∷
            members.Method (Str (codes "m2")) (actions.Load 2 0 ∷ actions.Load 3 1 ∷ actions.Construct 2 (Reg 0) (Reg 0 ∷ []) ∷ actions.Load 10 0 ∷ actions.SelfTo 0 ∷ actions.Enumerate 1 (Reg 1) ∷ actions.New 4 (codes "B") ∷ actions.New 5 (codes "B") ∷ actions.Put (Reg 4) (Str (codes "f1")) (Reg 5) ∷ actions.New 5 (codes "Window") ∷ actions.Put (Reg 4) (Str (codes "f0")) (Reg 5) ∷ actions.Return (Reg 5) ∷ []) ∷
            members.Method (IntKey (pos 4)) (actions.Load 3 1 ∷ actions.New 4 (codes "A") ∷ []) ∷
            members.Method (Str (codes "take")) (actions.Invoke 3 (Reg 3) (Str (codes "m3")) (Reg 3 ∷ Reg 2 ∷ []) ∷ actions.Load 1 3 ∷ actions.Destroy 2 2 ∷ actions.SelfTo 2 ∷ actions.Slot 1 (Reg 2) ∷ actions.Put (Reg 3) (Str (codes "f1")) (Reg 0) ∷ actions.New 0 (codes "Window") ∷ []) ∷
            members.Method (Str (codes "m3")) (actions.Slot 3 (Reg 2) ∷ actions.Add 2 (Reg 4) (Const (values.Bool true)) ∷ actions.Slot 1 (Reg 0) ∷ actions.New 3 (codes "A") ∷ actions.Load 3 1 ∷ actions.Get 2 (Reg 3) (Str (codes "f0")) ∷ actions.Put (Reg 3) (Str (codes "f0")) (Reg 1) ∷ []) ∷ []);
      }) ∷
      (record {
        name = codes "B";
        version = 2;
        stored = true;
        members = (
            members.Method (Str (codes "m1")) (actions.Load 0 2 ∷ actions.Load 2 0 ∷ actions.New 2 (codes "Window") ∷ actions.New 5 (codes "Window") ∷ actions.New 1 (codes "A") ∷ actions.HasProperty (Reg 1) (Str (codes "f0")) ∷ actions.Invoke 3 (Reg 3) (Str (codes "m2")) (Reg 0 ∷ Reg 2 ∷ []) ∷ []) ∷
            members.Setter (Str (codes "f0")) (actions.New 1 (codes "A") ∷ actions.Load 1 0 ∷ []) ∷
            members.Method (IntKey (pos 4)) (actions.Load 2 2 ∷ actions.Load 1 3 ∷ []) ∷
            members.Method (Str (codes "m0")) (actions.Load 3 1 ∷ actions.Load 2 0 ∷ actions.Load 9 0 ∷ actions.Destroy 1 1 ∷ []) ∷
            members.Method (Str (codes "m2")) (actions.SelfTo 2 ∷ actions.Load 3 1 ∷ actions.New 1 (codes "B") ∷ actions.Fail ∷ actions.Slot 1 (Reg 2) ∷ []) ∷
            members.Method (Str (codes "take")) (actions.Load 2 0 ∷ actions.Drop 2 ∷ actions.Drop 2 ∷ []) ∷
            members.Method (Str (codes "m3")) (actions.Load 3 1 ∷ actions.New 2 (codes "A") ∷ actions.New 3 (codes "A") ∷ actions.Set 0 (Reg 2) ∷ actions.Invoke 1 (Reg 2) (IntKey (pos 4)) (Reg 3 ∷ Reg 1 ∷ Reg 3 ∷ []) ∷ actions.New 5 (codes "Window") ∷ actions.Invoke 2 (Reg 1) (Str (codes "take")) (Reg 3 ∷ Reg 2 ∷ Reg 2 ∷ []) ∷ actions.Invoke 2 (Reg 3) (Str (codes "take")) (Reg 1 ∷ Const (values.Int (pos 14)) ∷ []) ∷ actions.Get 1 (Reg 0) (Str (codes "f1")) ∷ actions.Load 1 3 ∷ []) ∷ []);
      }) ∷ []);
  resources = (
      resource (codes "r") (codes "t/p") 1 (120 ∷ 1 ∷ 34 ∷ []) ∷
      resource (codes "s") (codes "t/p") 1 (codes "abc") ∷ []);
  commands = (
      commands.Create (codes "t/x") 2 [] ∷
      commands.Scriptable 0 1 ∷
      commands.Create (codes "t/x") 2 (codes "a" ∷ codes "1" ∷ codes "a" ∷ codes "1" ∷ codes "a" ∷ codes "1" ∷ []) ∷
      commands.Scriptable 1 2 ∷
      commands.New 2 1 (codes "A") ∷
      commands.New 3 2 (codes "B") ∷
      commands.Set 2 (Const (values.Int (pos 1))) ∷
      commands.Turn ∷
      commands.Invoke 4 (Reg 1) (Str (codes "take")) (Reg 4 ∷ Reg 0 ∷ Reg 1 ∷ []) ∷
      commands.Invoke 5 (Reg 2) (Str (codes "m1")) (Reg 2 ∷ Reg 0 ∷ Reg 1 ∷ []) ∷
      commands.Invoke 5 (Reg 4) (Str (codes "m1")) (Reg 3 ∷ Reg 2 ∷ []) ∷
      commands.Invoke 4 (Reg 1) (Str (codes "m1")) (Reg 3 ∷ Reg 5 ∷ Reg 4 ∷ []) ∷
      commands.OpenStream 1 (codes "r") ∷
      commands.Invoke 4 (Reg 3) (Str (codes "m0")) (Reg 2 ∷ Reg 3 ∷ Const (values.Int (pos 2147483647)) ∷ []) ∷
      commands.New 1 2 (codes "A") ∷
      commands.Invoke 2 (Reg 0) (Str (codes "m3")) (Const values.Null ∷ Reg 1 ∷ Const (values.Text (codes "s")) ∷ []) ∷
      commands.Create (codes "t/y") 2 [] ∷
      commands.Scriptable 0 3 ∷ []);
}

abbrev plugin : Plugin
plugin = record {
  major = 0;
  minor = 27;
  classes = (
      (record {
        name = codes "Main";
        version = 3;
        stored = false;
        members = (
            members.Getter (Str (codes "f1")) (actions.Load 2 2 ∷ actions.Load 3 1 ∷ actions.Return (Reg 3) ∷ actions.Set 2 (Reg 0) ∷ actions.Later (codes "t") ∷ []) ∷
            members.Method (Str (codes "take")) (actions.Load 1 2 ∷ actions.Invoke 2 (Reg 2) (Str (codes "none")) (Reg 1 ∷ Reg 2 ∷ Reg 5 ∷ []) ∷ []) ∷
            members.Method (IntKey (pos 4)) (actions.New 1 (codes "T") ∷ actions.New 2 (codes "U") ∷ actions.Invoke 1 (Reg 3) (Str (codes "take")) (Reg 3 ∷ []) ∷ actions.New 4 (codes "Main") ∷ actions.New 3 (codes "T") ∷ actions.Load 2 0 ∷ actions.Invoke 0 (Reg 2) (Str (codes "take")) (Reg 2 ∷ Reg 3 ∷ []) ∷ actions.Enumerate 0 (Reg 3) ∷ []) ∷
            members.Method (Str (codes "m1")) (actions.New 4 (codes "T") ∷ actions.HasProperty (Reg 2) (Str (codes "f0")) ∷ actions.Later (codes "t") ∷ []) ∷
            members.Method (Str (codes "m3")) (actions.Load 3 1 ∷ actions.Later (codes "t") ∷ actions.Load 3 3 ∷ []) ∷
            members.Construct (actions.Add 2 (Reg 0) (Const (values.Bool true)) ∷ actions.Invoke 1 (Reg 7) (IntKey (pos 4)) (Reg 1 ∷ []) ∷ actions.Drop 1 ∷ actions.New 4 (codes "T") ∷ actions.Drop 3 ∷ actions.Later (codes "v") ∷ actions.Load 2 2 ∷ []) ∷
            members.Method (Str (codes "m2")) (actions.SelfTo 2 ∷ actions.Load 3 1 ∷ actions.New 2 (codes "T") ∷ actions.SelfTo 2 ∷ actions.Throw (codes "no") ∷ []) ∷
            members.Method (Str (codes "m0")) (actions.Load 1 2 ∷ actions.New 3 (codes "Main") ∷ actions.Later (codes "v") ∷ actions.OnFalse 2 ∷ []) ∷ []);
      }) ∷
      (record {
        name = codes "T";
        version = 3;
        stored = true;
        members = (
            members.Method (Str (codes "m0")) [] ∷
            members.Method (Str (codes "take")) (actions.OnTrue 3 ∷ []) ∷
            members.Method (Str (codes "m2")) (actions.Note (Reg 3) ∷ actions.Drop 3 ∷ actions.SelfTo 2 ∷ actions.New 1 (codes "T") ∷ actions.Invoke 0 (Reg 1) (Str (codes "m3")) (Reg 3 ∷ Reg 0 ∷ Reg 2 ∷ []) ∷ []) ∷
            members.Method (Str (codes "m1")) (actions.Load 2 0 ∷ actions.New 5 (codes "U") ∷ actions.New 3 (codes "Main") ∷ actions.Load 0 2 ∷ actions.Invoke 2 (Reg 0) (Str (codes "m2")) (Const (values.Text (codes "s")) ∷ Reg 0 ∷ []) ∷ actions.Load 12 1 ∷ []) ∷
            members.Method (Str (codes "m3")) (actions.Later (codes "u") ∷ actions.Slot 3 (Reg 3) ∷ actions.New 4 (codes "T") ∷ actions.Put (Reg 4) (IntKey (pos 7)) (Reg 2) ∷ actions.Get 2 (Reg 4) (IntKey (pos 7)) ∷ actions.Remove (Reg 4) (IntKey (pos 7)) ∷ []) ∷
            members.Method (IntKey (pos 4)) (actions.Load 2 0 ∷ actions.Later (codes "u") ∷ actions.Load 0 3 ∷ actions.Enumerate 3 (Reg 1) ∷ []) ∷ []);
      }) ∷
      (record {
        name = codes "U";
        version = 3;
        stored = false;
        members = (
            members.Method (Str (codes "m3")) (actions.SelfTo 2 ∷ actions.New 0 (codes "Main") ∷ actions.Slot 1 (Reg 0) ∷ actions.Put (Reg 1) (Str (codes "f1")) (Reg 1) ∷ actions.New 2 (codes "U") ∷ []) ∷
            members.Method (Str (codes "m2")) (actions.Load 3 1 ∷ actions.Load 2 0 ∷ actions.Note (Reg 5) ∷ actions.Window 2 ∷ actions.Invoke 2 (Reg 1) (IntKey (pos 4)) (Reg 0 ∷ Reg 3 ∷ Reg 3 ∷ []) ∷ actions.Load 3 0 ∷ []) ∷
            members.Construct (actions.Load 3 1 ∷ actions.New 2 (codes "Main") ∷ actions.New 5 (codes "U") ∷ []) ∷
            members.Method (Str (codes "take")) (actions.SelfTo 2 ∷ actions.Window 2 ∷ actions.Slot 1 (Reg 3) ∷ actions.RequestRead 1 (Const (values.Int (pos 2))) ((record { offset = pos 2; length = 1 }) ∷ []) ∷ actions.OnTrue 2 ∷ actions.Window 3 ∷ actions.Set 1 (Reg 2) ∷ []) ∷
            members.Method (Str (codes "m0")) (actions.Load 3 1 ∷ actions.GetUrl 2 (Const (values.Text (codes "s"))) (pos 2) ∷ actions.Note (Reg 0) ∷ actions.HasMethod (Reg 1) (Str (codes "take")) ∷ actions.Invoke 3 (Const (values.Int (pos 1))) (IntKey (pos 4)) (Reg 3 ∷ Reg 0 ∷ []) ∷ []) ∷
            members.Method (IntKey (pos 4)) (actions.Load 2 0 ∷ actions.Invoke 0 (Reg 3) (Str (codes "take")) (Reg 1 ∷ Reg 2 ∷ Reg 1 ∷ []) ∷ actions.Later (codes "t") ∷ actions.Slot 3 (Reg 1) ∷ []) ∷
            members.Setter (Str (codes "f0")) (actions.SelfTo 2 ∷ actions.Load 2 0 ∷ actions.New 3 (codes "T") ∷ actions.Invoke 1 (Reg 1) (IntKey (pos 4)) [] ∷ actions.New 4 (codes "T") ∷ actions.New 2 (codes "Main") ∷ actions.Later (codes "t") ∷ actions.Load 0 3 ∷ actions.Get 2 (Reg 2) (Str (codes "7")) ∷ []) ∷
            members.Method (Str (codes "m1")) (actions.Load 1 2 ∷ actions.New 3 (codes "U") ∷ actions.Slot 2 (Reg 0) ∷ actions.Invoke 2 (Reg 1) (Str (codes "m2")) (Reg 0 ∷ Reg 2 ∷ []) ∷ []) ∷ []);
      }) ∷ []);
  handlers = (
      (record { which = handlers.New; body = (actions.New 0 (codes "Main") ∷ actions.Slot 0 (Reg 0) ∷ actions.Window 1 ∷ actions.Slot 1 (Reg 1) ∷ []) }) ∷
      (record { which = handlers.Scriptable; body = (actions.Load 0 0 ∷ actions.Return (Reg 0) ∷ []) }) ∷
      (record { which = handlers.NewStream; body = (actions.Load 5 1 ∷ actions.Invoke 5 (Reg 5) (Str (codes "take")) (Reg 0 ∷ []) ∷ actions.OnEq (Reg 0) (Const (values.Int (pos 1))) 1 ∷ actions.Return (Const (values.Int (pos 2))) ∷ actions.Return (Const (values.Int (pos 5))) ∷ []) }) ∷
      (record { which = handlers.AsFile; body = [] }) ∷
      (record { which = handlers.DestroyStream; body = (actions.Load 2 2 ∷ actions.Set 0 (Reg 1) ∷ []) }) ∷ []);
  tasks = (
      (record { name = codes "t"; body = (actions.Load 1 1 ∷ actions.Load 0 0 ∷ actions.Later (codes "u") ∷ actions.Invoke 3 (Reg 0) (Str (codes "take")) (Reg 1 ∷ Reg 1 ∷ Reg 3 ∷ []) ∷ actions.Later (codes "t") ∷ actions.Invoke 1 (Reg 1) (Str (codes "m1")) (Const (values.Double (0 ∷ 1 ∷ 2 ∷ 3 ∷ 4 ∷ 5 ∷ 6 ∷ 7 ∷ [])) ∷ Reg 4 ∷ []) ∷ actions.Return (Reg 3) ∷ []) }) ∷
      (record { name = codes "u"; body = (actions.Load 1 1 ∷ actions.Load 0 3 ∷ actions.Load 2 0 ∷ actions.Put (Reg 3) (Str (codes "7")) (Reg 2) ∷ actions.Later (codes "v") ∷ actions.New 5 (codes "Main") ∷ actions.New 4 (codes "T") ∷ actions.New 3 (codes "T") ∷ actions.Slot 2 (Reg 3) ∷ actions.RequestRead 3 (Const (values.Int (pos 3))) ((record { offset = negsuc 2; length = 9000 }) ∷ []) ∷ actions.New 3 (codes "U") ∷ actions.Return (Reg 2) ∷ []) }) ∷
      (record { name = codes "v"; body = (actions.Load 2 0 ∷ actions.SelfTo 2 ∷ actions.New 3 (codes "U") ∷ actions.SelfTo 3 ∷ actions.New 3 (codes "Main") ∷ actions.Later (codes "none") ∷ actions.Construct 0 (Reg 2) (Reg 2 ∷ Reg 3 ∷ []) ∷ actions.Slot 0 (Const (values.Int (pos 13))) ∷ actions.Get 2 (Reg 2) (Str (codes "f0")) ∷ []) }) ∷ []);
}

-- the run of both
both-end : outcome 1500 page plugin ≡ record {
  page = (
      Created (record { side = sides.Page; instance = 1; serial = 1 }) ∷
      CommandResult 1 (results.Code NoError) ∷
      CommandResult 2 (results.Yes (values.Object (record { side = sides.Plug; instance = 1; serial = 1 })) false) ∷
      Created (record { side = sides.Page; instance = 2; serial = 1 }) ∷
      CommandResult 3 (results.Code NoError) ∷
      CommandResult 4 (results.Yes (values.Object (record { side = sides.Plug; instance = 2; serial = 1 })) false) ∷
      Created (record { side = sides.Page; instance = 1; serial = 2 }) ∷
      CommandResult 5 (results.Yes (values.Object (record { side = sides.Page; instance = 1; serial = 2 })) false) ∷
      Created (record { side = sides.Page; instance = 2; serial = 2 }) ∷
      CommandResult 6 (results.Yes (values.Object (record { side = sides.Page; instance = 2; serial = 2 })) false) ∷
      Deallocated (record { side = sides.Page; instance = 1; serial = 2 }) ∷
      CommandResult 7 (results.Yes (values.Int (pos 1)) false) ∷
      CommandResult 8 (results.Yes values.Void false) ∷
      CommandResult 9 (results.Yes values.Void false) ∷
      CommandResult 10 results.No ∷
      CommandResult 11 results.No ∷
      CommandResult 12 (results.Yes values.Void false) ∷
      CommandResult 13 (results.Code NoError) ∷
      Entered (record { side = sides.Page; instance = 2; serial = 2 }) (ops.Invoke (Str (codes "m0"))) ∷
      ProxyGone (record { side = sides.Plug; instance = 1; serial = 1 }) ∷
      Invalidated (record { side = sides.Page; instance = 1; serial = 1 }) ∷
      Deallocated (record { side = sides.Page; instance = 1; serial = 1 }) ∷
      Entered (record { side = sides.Page; instance = 2; serial = 1 }) (ops.Invoke (Str (codes "m1"))) ∷
      CommandResult 14 (results.Yes values.Void false) ∷
      Created (record { side = sides.Page; instance = 2; serial = 3 }) ∷
      CommandResult 15 (results.Yes (values.Object (record { side = sides.Page; instance = 2; serial = 3 })) false) ∷
      CommandResult 16 results.No ∷
      Created (record { side = sides.Page; instance = 3; serial = 1 }) ∷
      CommandResult 17 (results.Code NoError) ∷
      CommandResult 18 (results.Yes (values.Object (record { side = sides.Plug; instance = 3; serial = 1 })) false) ∷
      Entered (record { side = sides.Page; instance = 2; serial = 1 }) (ops.Invoke (Str (codes "m1"))) ∷
      Invalidated (record { side = sides.Page; instance = 2; serial = 1 }) ∷
      Invalidated (record { side = sides.Page; instance = 2; serial = 2 }) ∷
      Invalidated (record { side = sides.Page; instance = 2; serial = 3 }) ∷
      Deallocated (record { side = sides.Page; instance = 2; serial = 1 }) ∷
      Deallocated (record { side = sides.Page; instance = 2; serial = 2 }) ∷
      Deallocated (record { side = sides.Page; instance = 2; serial = 3 }) ∷
      ProxyGone (record { side = sides.Plug; instance = 3; serial = 1 }) ∷
      Invalidated (record { side = sides.Page; instance = 3; serial = 1 }) ∷
      Deallocated (record { side = sides.Page; instance = 3; serial = 1 }) ∷ []);
  plugin = (
      HandlerRun 1 handlers.New ∷
      Created (record { side = sides.Plug; instance = 1; serial = 1 }) ∷
      HandlerRun 1 handlers.Scriptable ∷
      HandlerRun 2 handlers.New ∷
      Created (record { side = sides.Plug; instance = 2; serial = 1 }) ∷
      HandlerRun 2 handlers.Scriptable ∷
      Entered (record { side = sides.Plug; instance = 2; serial = 1 }) (ops.Invoke (Str (codes "take"))) ∷
      Entered (record { side = sides.Plug; instance = 2; serial = 1 }) (ops.Invoke (Str (codes "m1"))) ∷
      Created (record { side = sides.Plug; instance = 2; serial = 2 }) ∷
      Deallocated (record { side = sides.Plug; instance = 2; serial = 2 }) ∷
      TaskBegun 2 (codes "t") ∷
      Entered (record { side = sides.Plug; instance = 2; serial = 1 }) (ops.Invoke (Str (codes "take"))) ∷
      ProxyGone (record { side = sides.Page; instance = 1; serial = 1 }) ∷
      Invalidated (record { side = sides.Plug; instance = 1; serial = 1 }) ∷
      Deallocated (record { side = sides.Plug; instance = 1; serial = 1 }) ∷
      TaskBegun 2 (codes "u") ∷
      Created (record { side = sides.Plug; instance = 2; serial = 3 }) ∷
      Created (record { side = sides.Plug; instance = 2; serial = 4 }) ∷
      Created (record { side = sides.Plug; instance = 2; serial = 5 }) ∷
      HandlerRun 3 handlers.New ∷
      Created (record { side = sides.Plug; instance = 3; serial = 1 }) ∷
      Created (record { side = sides.Plug; instance = 2; serial = 6 }) ∷
      Deallocated (record { side = sides.Plug; instance = 2; serial = 6 }) ∷
      Deallocated (record { side = sides.Plug; instance = 2; serial = 4 }) ∷
      Deallocated (record { side = sides.Plug; instance = 2; serial = 3 }) ∷
      TaskBegun 2 (codes "t") ∷
      Entered (record { side = sides.Plug; instance = 2; serial = 1 }) (ops.Invoke (Str (codes "take"))) ∷
      HandlerRun 3 handlers.Scriptable ∷
      TaskBegun 2 (codes "v") ∷
      Created (record { side = sides.Plug; instance = 2; serial = 7 }) ∷
      Deallocated (record { side = sides.Plug; instance = 2; serial = 7 }) ∷
      Created (record { side = sides.Plug; instance = 2; serial = 8 }) ∷
      Deallocated (record { side = sides.Plug; instance = 2; serial = 1 }) ∷
      Deallocated (record { side = sides.Plug; instance = 2; serial = 8 }) ∷
      TaskBegun 2 (codes "u") ∷
      Created (record { side = sides.Plug; instance = 2; serial = 9 }) ∷
      Created (record { side = sides.Plug; instance = 2; serial = 10 }) ∷
      Created (record { side = sides.Plug; instance = 2; serial = 11 }) ∷
      Deallocated (record { side = sides.Plug; instance = 2; serial = 5 }) ∷
      ProxyGone (record { side = sides.Page; instance = 2; serial = 1 }) ∷
      Invalidated (record { side = sides.Plug; instance = 2; serial = 9 }) ∷
      Invalidated (record { side = sides.Plug; instance = 2; serial = 10 }) ∷
      Invalidated (record { side = sides.Plug; instance = 2; serial = 11 }) ∷
      Deallocated (record { side = sides.Plug; instance = 2; serial = 9 }) ∷
      Deallocated (record { side = sides.Plug; instance = 2; serial = 10 }) ∷
      Deallocated (record { side = sides.Plug; instance = 2; serial = 11 }) ∷
      ProxyGone (record { side = sides.Page; instance = 3; serial = 1 }) ∷
      Invalidated (record { side = sides.Plug; instance = 3; serial = 1 }) ∷
      Deallocated (record { side = sides.Plug; instance = 3; serial = 1 }) ∷ []);
  files = [];
  rests = true;
}
unfolding encoding digits is_text is_utf8 chars encode_utf8
both-end = refl

-- the direct run
direct-run : direct_outcome 3000 page plugin ≡ record {
  page = (
      Created (record { side = sides.Page; instance = 1; serial = 1 }) ∷
      CommandResult 1 (results.Code NoError) ∷
      CommandResult 2 (results.Yes (values.Object (record { side = sides.Plug; instance = 1; serial = 1 })) false) ∷
      Created (record { side = sides.Page; instance = 2; serial = 1 }) ∷
      CommandResult 3 (results.Code NoError) ∷
      CommandResult 4 (results.Yes (values.Object (record { side = sides.Plug; instance = 2; serial = 1 })) false) ∷
      Created (record { side = sides.Page; instance = 1; serial = 2 }) ∷
      CommandResult 5 (results.Yes (values.Object (record { side = sides.Page; instance = 1; serial = 2 })) false) ∷
      Created (record { side = sides.Page; instance = 2; serial = 2 }) ∷
      CommandResult 6 (results.Yes (values.Object (record { side = sides.Page; instance = 2; serial = 2 })) false) ∷
      Deallocated (record { side = sides.Page; instance = 1; serial = 2 }) ∷
      CommandResult 7 (results.Yes (values.Int (pos 1)) false) ∷
      CommandResult 8 (results.Yes values.Void false) ∷
      CommandResult 9 (results.Yes values.Void false) ∷
      CommandResult 10 results.No ∷
      CommandResult 11 results.No ∷
      CommandResult 12 (results.Yes values.Void false) ∷
      CommandResult 13 (results.Code NoError) ∷
      Entered (record { side = sides.Page; instance = 2; serial = 2 }) (ops.Invoke (Str (codes "m0"))) ∷
      ProxyGone (record { side = sides.Plug; instance = 1; serial = 1 }) ∷
      Invalidated (record { side = sides.Page; instance = 1; serial = 1 }) ∷
      Deallocated (record { side = sides.Page; instance = 1; serial = 1 }) ∷
      Entered (record { side = sides.Page; instance = 2; serial = 1 }) (ops.Invoke (Str (codes "m1"))) ∷
      CommandResult 14 (results.Yes values.Void false) ∷
      Created (record { side = sides.Page; instance = 2; serial = 3 }) ∷
      CommandResult 15 (results.Yes (values.Object (record { side = sides.Page; instance = 2; serial = 3 })) false) ∷
      CommandResult 16 results.No ∷
      Created (record { side = sides.Page; instance = 3; serial = 1 }) ∷
      CommandResult 17 (results.Code NoError) ∷
      CommandResult 18 (results.Yes (values.Object (record { side = sides.Plug; instance = 3; serial = 1 })) false) ∷
      Entered (record { side = sides.Page; instance = 2; serial = 1 }) (ops.Invoke (Str (codes "m1"))) ∷
      Invalidated (record { side = sides.Page; instance = 2; serial = 1 }) ∷
      Invalidated (record { side = sides.Page; instance = 2; serial = 2 }) ∷
      Invalidated (record { side = sides.Page; instance = 2; serial = 3 }) ∷
      Deallocated (record { side = sides.Page; instance = 2; serial = 1 }) ∷
      Deallocated (record { side = sides.Page; instance = 2; serial = 2 }) ∷
      Deallocated (record { side = sides.Page; instance = 2; serial = 3 }) ∷
      ProxyGone (record { side = sides.Plug; instance = 3; serial = 1 }) ∷
      Invalidated (record { side = sides.Page; instance = 3; serial = 1 }) ∷
      Deallocated (record { side = sides.Page; instance = 3; serial = 1 }) ∷ []);
  plugin = (
      HandlerRun 1 handlers.New ∷
      Created (record { side = sides.Plug; instance = 1; serial = 1 }) ∷
      HandlerRun 1 handlers.Scriptable ∷
      HandlerRun 2 handlers.New ∷
      Created (record { side = sides.Plug; instance = 2; serial = 1 }) ∷
      HandlerRun 2 handlers.Scriptable ∷
      Entered (record { side = sides.Plug; instance = 2; serial = 1 }) (ops.Invoke (Str (codes "take"))) ∷
      Entered (record { side = sides.Plug; instance = 2; serial = 1 }) (ops.Invoke (Str (codes "m1"))) ∷
      Created (record { side = sides.Plug; instance = 2; serial = 2 }) ∷
      Deallocated (record { side = sides.Plug; instance = 2; serial = 2 }) ∷
      TaskBegun 2 (codes "t") ∷
      Entered (record { side = sides.Plug; instance = 2; serial = 1 }) (ops.Invoke (Str (codes "take"))) ∷
      ProxyGone (record { side = sides.Page; instance = 1; serial = 1 }) ∷
      Invalidated (record { side = sides.Plug; instance = 1; serial = 1 }) ∷
      Deallocated (record { side = sides.Plug; instance = 1; serial = 1 }) ∷
      TaskBegun 2 (codes "u") ∷
      Created (record { side = sides.Plug; instance = 2; serial = 3 }) ∷
      Created (record { side = sides.Plug; instance = 2; serial = 4 }) ∷
      Created (record { side = sides.Plug; instance = 2; serial = 5 }) ∷
      HandlerRun 3 handlers.New ∷
      Created (record { side = sides.Plug; instance = 3; serial = 1 }) ∷
      Created (record { side = sides.Plug; instance = 2; serial = 6 }) ∷
      Deallocated (record { side = sides.Plug; instance = 2; serial = 6 }) ∷
      Deallocated (record { side = sides.Plug; instance = 2; serial = 4 }) ∷
      Deallocated (record { side = sides.Plug; instance = 2; serial = 3 }) ∷
      TaskBegun 2 (codes "t") ∷
      Entered (record { side = sides.Plug; instance = 2; serial = 1 }) (ops.Invoke (Str (codes "take"))) ∷
      HandlerRun 3 handlers.Scriptable ∷
      TaskBegun 2 (codes "v") ∷
      Created (record { side = sides.Plug; instance = 2; serial = 7 }) ∷
      Deallocated (record { side = sides.Plug; instance = 2; serial = 7 }) ∷
      Created (record { side = sides.Plug; instance = 2; serial = 8 }) ∷
      Deallocated (record { side = sides.Plug; instance = 2; serial = 1 }) ∷
      Deallocated (record { side = sides.Plug; instance = 2; serial = 8 }) ∷
      TaskBegun 2 (codes "u") ∷
      Created (record { side = sides.Plug; instance = 2; serial = 9 }) ∷
      Created (record { side = sides.Plug; instance = 2; serial = 10 }) ∷
      Created (record { side = sides.Plug; instance = 2; serial = 11 }) ∷
      Deallocated (record { side = sides.Plug; instance = 2; serial = 5 }) ∷
      ProxyGone (record { side = sides.Page; instance = 2; serial = 1 }) ∷
      Invalidated (record { side = sides.Plug; instance = 2; serial = 9 }) ∷
      Invalidated (record { side = sides.Plug; instance = 2; serial = 10 }) ∷
      Invalidated (record { side = sides.Plug; instance = 2; serial = 11 }) ∷
      Deallocated (record { side = sides.Plug; instance = 2; serial = 9 }) ∷
      Deallocated (record { side = sides.Plug; instance = 2; serial = 10 }) ∷
      Deallocated (record { side = sides.Plug; instance = 2; serial = 11 }) ∷
      ProxyGone (record { side = sides.Page; instance = 3; serial = 1 }) ∷
      Invalidated (record { side = sides.Plug; instance = 3; serial = 1 }) ∷
      Deallocated (record { side = sides.Plug; instance = 3; serial = 1 }) ∷ []);
  files = [];
  rests = true;
}
unfolding encoding digits is_text is_utf8 chars encode_utf8
direct-run = refl

-- each message is delivered at once, and none is refused
orderly-in-rounds : orderly_along (sides.Page ∷ sides.Plug ∷ []) 700 page plugin ≡ true
unfolding encoding digits is_text is_utf8 chars encode_utf8
orderly-in-rounds = refl

-- each message is delivered at once, and none is refused
orderly-page-ahead : orderly_along (sides.Page ∷ sides.Page ∷ sides.Page ∷ sides.Page ∷ sides.Page ∷ sides.Page ∷ sides.Plug ∷ []) 200 page plugin ≡ true
unfolding encoding digits is_text is_utf8 chars encode_utf8
orderly-page-ahead = refl

-- each message is delivered at once, and none is refused
orderly-plugin-ahead : orderly_along (sides.Page ∷ sides.Plug ∷ sides.Plug ∷ sides.Plug ∷ sides.Plug ∷ sides.Plug ∷ sides.Plug ∷ []) 200 page plugin ≡ true
unfolding encoding digits is_text is_utf8 chars encode_utf8
orderly-plugin-ahead = refl

-- all bytes that the page sends
page-sends : page_bytes 1500 page plugin ≡ (0 ∷ 0 ∷ 0 ∷ 7 ∷ 1 ∷ 1 ∷ 0 ∷ 0 ∷ 1 ∷ 0 ∷ 27 ∷ 0 ∷ 0 ∷ 0 ∷ 12 ∷ 2 ∷ 1 ∷ 0 ∷ 0 ∷ 1 ∷ 2 ∷ 0 ∷ 3 ∷ 116 ∷ 47 ∷ 120 ∷ 0 ∷ 0 ∷ 0 ∷ 0 ∷ 11 ∷ 65 ∷ 2 ∷ 0 ∷ 0 ∷ 6 ∷ 0 ∷ 1 ∷ 0 ∷ 0 ∷ 0 ∷ 1 ∷ 0 ∷ 0 ∷ 0 ∷ 5 ∷ 4 ∷ 1 ∷ 0 ∷ 0 ∷ 1 ∷ 0 ∷ 0 ∷ 0 ∷ 30 ∷ 2 ∷ 1 ∷ 0 ∷ 0 ∷ 2 ∷ 2 ∷ 0 ∷ 3 ∷ 116 ∷ 47 ∷ 120 ∷ 3 ∷ 0 ∷ 1 ∷ 97 ∷ 0 ∷ 1 ∷ 49 ∷ 0 ∷ 1 ∷ 97 ∷ 0 ∷ 1 ∷ 49 ∷ 0 ∷ 1 ∷ 97 ∷ 0 ∷ 1 ∷ 49 ∷ 0 ∷ 0 ∷ 0 ∷ 11 ∷ 65 ∷ 2 ∷ 0 ∷ 0 ∷ 6 ∷ 0 ∷ 2 ∷ 0 ∷ 0 ∷ 0 ∷ 1 ∷ 0 ∷ 0 ∷ 0 ∷ 5 ∷ 4 ∷ 1 ∷ 0 ∷ 0 ∷ 2 ∷ 0 ∷ 0 ∷ 0 ∷ 4 ∷ 5 ∷ 1 ∷ 0 ∷ 0 ∷ 0 ∷ 0 ∷ 0 ∷ 33 ∷ 64 ∷ 1 ∷ 0 ∷ 0 ∷ 2 ∷ 0 ∷ 0 ∷ 0 ∷ 1 ∷ 1 ∷ 0 ∷ 0 ∷ 4 ∷ 116 ∷ 97 ∷ 107 ∷ 101 ∷ 3 ∷ 0 ∷ 6 ∷ 1 ∷ 1 ∷ 0 ∷ 0 ∷ 0 ∷ 1 ∷ 6 ∷ 1 ∷ 2 ∷ 0 ∷ 0 ∷ 0 ∷ 1 ∷ 0 ∷ 0 ∷ 0 ∷ 25 ∷ 64 ∷ 1 ∷ 0 ∷ 0 ∷ 2 ∷ 0 ∷ 0 ∷ 0 ∷ 1 ∷ 1 ∷ 0 ∷ 0 ∷ 2 ∷ 109 ∷ 49 ∷ 3 ∷ 6 ∷ 0 ∷ 2 ∷ 0 ∷ 0 ∷ 0 ∷ 2 ∷ 0 ∷ 0 ∷ 0 ∷ 0 ∷ 0 ∷ 5 ∷ 3 ∷ 2 ∷ 0 ∷ 0 ∷ 1 ∷ 0 ∷ 0 ∷ 0 ∷ 5 ∷ 65 ∷ 129 ∷ 0 ∷ 0 ∷ 0 ∷ 0 ∷ 0 ∷ 0 ∷ 21 ∷ 2 ∷ 1 ∷ 0 ∷ 1 ∷ 2 ∷ 0 ∷ 0 ∷ 0 ∷ 1 ∷ 0 ∷ 0 ∷ 0 ∷ 1 ∷ 3 ∷ 2 ∷ 0 ∷ 3 ∷ 116 ∷ 47 ∷ 121 ∷ 0 ∷ 0 ∷ 0 ∷ 0 ∷ 11 ∷ 65 ∷ 2 ∷ 0 ∷ 0 ∷ 6 ∷ 0 ∷ 3 ∷ 0 ∷ 0 ∷ 0 ∷ 1 ∷ 0 ∷ 0 ∷ 0 ∷ 5 ∷ 69 ∷ 129 ∷ 0 ∷ 0 ∷ 9 ∷ 0 ∷ 0 ∷ 0 ∷ 5 ∷ 4 ∷ 1 ∷ 0 ∷ 0 ∷ 3 ∷ 0 ∷ 0 ∷ 0 ∷ 5 ∷ 65 ∷ 129 ∷ 0 ∷ 0 ∷ 0 ∷ 0 ∷ 0 ∷ 0 ∷ 5 ∷ 3 ∷ 1 ∷ 0 ∷ 0 ∷ 2 ∷ 0 ∷ 0 ∷ 0 ∷ 5 ∷ 69 ∷ 129 ∷ 0 ∷ 0 ∷ 2 ∷ 0 ∷ 0 ∷ 0 ∷ 5 ∷ 3 ∷ 1 ∷ 0 ∷ 0 ∷ 3 ∷ 0 ∷ 0 ∷ 0 ∷ 4 ∷ 12 ∷ 1 ∷ 0 ∷ 0 ∷ [])
unfolding encoding digits is_text is_utf8 chars encode_utf8
page-sends = refl

-- all bytes that the plugin sends
plugin-sends : plugin_bytes 1500 page plugin ≡ (0 ∷ 0 ∷ 0 ∷ 5 ∷ 69 ∷ 1 ∷ 0 ∷ 0 ∷ 0 ∷ 0 ∷ 0 ∷ 0 ∷ 5 ∷ 32 ∷ 2 ∷ 0 ∷ 0 ∷ 1 ∷ 0 ∷ 0 ∷ 0 ∷ 5 ∷ 69 ∷ 1 ∷ 0 ∷ 0 ∷ 0 ∷ 0 ∷ 0 ∷ 0 ∷ 11 ∷ 65 ∷ 1 ∷ 0 ∷ 0 ∷ 6 ∷ 1 ∷ 1 ∷ 0 ∷ 0 ∷ 0 ∷ 1 ∷ 0 ∷ 0 ∷ 0 ∷ 5 ∷ 32 ∷ 2 ∷ 0 ∷ 0 ∷ 2 ∷ 0 ∷ 0 ∷ 0 ∷ 5 ∷ 69 ∷ 1 ∷ 0 ∷ 0 ∷ 0 ∷ 0 ∷ 0 ∷ 0 ∷ 11 ∷ 65 ∷ 1 ∷ 0 ∷ 0 ∷ 6 ∷ 1 ∷ 2 ∷ 0 ∷ 0 ∷ 0 ∷ 1 ∷ 0 ∷ 0 ∷ 0 ∷ 4 ∷ 71 ∷ 1 ∷ 0 ∷ 0 ∷ 0 ∷ 0 ∷ 0 ∷ 5 ∷ 65 ∷ 1 ∷ 0 ∷ 0 ∷ 0 ∷ 0 ∷ 0 ∷ 0 ∷ 14 ∷ 65 ∷ 1 ∷ 0 ∷ 1 ∷ 2 ∷ 0 ∷ 0 ∷ 0 ∷ 2 ∷ 0 ∷ 0 ∷ 0 ∷ 1 ∷ 0 ∷ 0 ∷ 0 ∷ 0 ∷ 26 ∷ 64 ∷ 129 ∷ 0 ∷ 0 ∷ 2 ∷ 0 ∷ 0 ∷ 0 ∷ 1 ∷ 1 ∷ 0 ∷ 0 ∷ 2 ∷ 109 ∷ 49 ∷ 2 ∷ 4 ∷ 0 ∷ 1 ∷ 2 ∷ 3 ∷ 4 ∷ 5 ∷ 6 ∷ 7 ∷ 0 ∷ 0 ∷ 0 ∷ 0 ∷ 5 ∷ 69 ∷ 2 ∷ 0 ∷ 0 ∷ 0 ∷ 0 ∷ 0 ∷ 0 ∷ 18 ∷ 34 ∷ 129 ∷ 0 ∷ 0 ∷ 2 ∷ 0 ∷ 0 ∷ 0 ∷ 3 ∷ 1 ∷ 255 ∷ 255 ∷ 255 ∷ 253 ∷ 0 ∷ 0 ∷ 35 ∷ 40 ∷ 0 ∷ 0 ∷ 0 ∷ 5 ∷ 32 ∷ 2 ∷ 0 ∷ 0 ∷ 3 ∷ 0 ∷ 0 ∷ 0 ∷ 5 ∷ 69 ∷ 1 ∷ 0 ∷ 0 ∷ 0 ∷ 0 ∷ 0 ∷ 0 ∷ 26 ∷ 64 ∷ 129 ∷ 0 ∷ 0 ∷ 2 ∷ 0 ∷ 0 ∷ 0 ∷ 1 ∷ 1 ∷ 0 ∷ 0 ∷ 2 ∷ 109 ∷ 49 ∷ 2 ∷ 4 ∷ 0 ∷ 1 ∷ 2 ∷ 3 ∷ 4 ∷ 5 ∷ 6 ∷ 7 ∷ 0 ∷ 0 ∷ 0 ∷ 0 ∷ 11 ∷ 65 ∷ 1 ∷ 0 ∷ 0 ∷ 6 ∷ 1 ∷ 3 ∷ 0 ∷ 0 ∷ 0 ∷ 1 ∷ 0 ∷ 0 ∷ 0 ∷ 18 ∷ 34 ∷ 129 ∷ 0 ∷ 0 ∷ 2 ∷ 0 ∷ 0 ∷ 0 ∷ 3 ∷ 1 ∷ 255 ∷ 255 ∷ 255 ∷ 253 ∷ 0 ∷ 0 ∷ 35 ∷ 40 ∷ 0 ∷ 0 ∷ 0 ∷ 5 ∷ 69 ∷ 1 ∷ 0 ∷ 0 ∷ 0 ∷ 0 ∷ 0 ∷ 0 ∷ 5 ∷ 69 ∷ 1 ∷ 0 ∷ 0 ∷ 0 ∷ 0 ∷ 0 ∷ 0 ∷ 4 ∷ 71 ∷ 1 ∷ 0 ∷ 0 ∷ [])
unfolding encoding digits is_text is_utf8 chars encode_utf8
plugin-sends = refl
