-- Made by tools/vector-theorems of tests/vectors/9-009.
use Rattle.std.proofs.Common.{◌≡◌, pos, negsuc, [], ◌∷◌, refl, true, false, None}
use Rattle.std.specs.Prelude.{codes}
use Rattle.std.specs.Char.{encode_utf8}
use Rattle.std.specs.Fmt.{digits}
use Rattle.std.specs.Str.{is_utf8, chars}
use Rattle.np_values.specs.declared.error.NpError.TheVariants.{NoError}
use Rattle.np_values.specs.declared.handler.Handler.TheVariants as handlers
use Rattle.np_values.specs.declared.name.Side.TheVariants as sides
use Rattle.np_values.specs.declared.reason.NpReason.TheVariants as reasons
use Rattle.np_values.specs.declared.value.Value.TheVariants as values
use Rattle.np_values.specs.Text.{is_text}
use Rattle.np_idents.specs.declared.key.IdKey.TheVariants.{Str, Int as IntKey}
use Rattle.np_idents.specs.declared.op.Op.TheVariants as ops
use Rattle.np_script_grammar.specs.declared.action.Action.TheVariants as actions
use Rattle.np_script_grammar.specs.declared.action.Operand.TheVariants.{Reg, Const}
use Rattle.np_script_grammar.specs.declared.class.Member.TheVariants as members
use Rattle.np_script_grammar.specs.declared.command.Command.TheVariants as commands
use Rattle.np_script_grammar.specs.declared.page.Page.{Page}
use Rattle.np_script_grammar.specs.declared.plugin.Plugin.{Plugin}
use Rattle.np_message.specs.Encoding.{encoding}
use Rattle.np_journal.specs.declared.line.Line.TheVariants.{Created, Entered, HandlerRun, ProxyGone, Invalidated, Deallocated, Noted, CommandResult}
use Rattle.np_journal.specs.declared.printed.Printed.TheVariants as results
use Rattle.np_machine_plans.specs.Outcomes.{resource, outcome, page_bytes, plugin_bytes}

abbrev page : Page
page = record {
  major = 0;
  minor = 27;
  classes = (
      (record {
        name = codes "Window";
        version = 3;
        stored = true;
        members = (
            members.Method (Str (codes "m0")) (actions.Load 2 0 ∷ actions.Load 3 1 ∷ actions.Destroy 1 1 ∷ actions.Destroy 0 1 ∷ actions.Destroy 3 2 ∷ actions.Slot 3 (Reg 1) ∷ actions.Destroy 2 1 ∷ actions.Destroy 2 2 ∷ []) ∷
            members.Setter (Str (codes "f1")) (actions.Load 2 2 ∷ actions.SelfTo 2 ∷ actions.Destroy 3 2 ∷ []) ∷
            members.Method (IntKey (pos 4)) (actions.Load 3 1 ∷ actions.Load 2 0 ∷ actions.Destroy 2 1 ∷ actions.Destroy 2 1 ∷ actions.Invoke 0 (Reg 0) (Str (codes "take")) [] ∷ actions.SelfTo 2 ∷ actions.New 2 (codes "A") ∷ actions.Destroy 3 1 ∷ []) ∷
            members.Construct (actions.SelfTo 2 ∷ actions.New 3 (codes "Window") ∷ actions.New 4 (codes "A") ∷ actions.Destroy 0 2 ∷ []) ∷
            members.Method (Str (codes "take")) (actions.Load 2 0 ∷ actions.SelfTo 2 ∷ actions.OnTrue 1 ∷ actions.SelfTo 1 ∷ actions.Destroy 2 1 ∷ actions.Load 2 0 ∷ actions.Load 3 1 ∷ actions.New 3 (codes "A") ∷ actions.Note (Reg 3) ∷ actions.Invoke 3 (Reg 1) (Str (codes "none")) (Reg 3 ∷ Reg 4 ∷ Reg 3 ∷ []) ∷ actions.Note (Reg 1) ∷ []) ∷
            members.Method (Str (codes "m3")) (actions.Load 3 1 ∷ actions.SelfTo 2 ∷ actions.Slot 2 (Reg 3) ∷ actions.New 2 (codes "B") ∷ actions.Destroy 1 2 ∷ actions.Put (Reg 0) (Str (codes "f0")) (Reg 3) ∷ []) ∷
            members.Method (Str (codes "m2")) (actions.Slot 1 (Reg 2) ∷ actions.SelfTo 2 ∷ actions.Load 5 0 ∷ actions.Invoke 3 (Const (values.Text (195 ∷ 164 ∷ 34 ∷ 92 ∷ 1 ∷ 127 ∷ []))) (Str (codes "take")) (Reg 2 ∷ Reg 1 ∷ Reg 3 ∷ []) ∷ actions.HasMethod (Reg 2) (Str (codes "m3")) ∷ actions.Construct 3 (Reg 3) (Reg 1 ∷ Reg 1 ∷ Reg 0 ∷ []) ∷ []) ∷ []);
      }) ∷
      (record {
        name = codes "A";
        version = 3;
        stored = true;
        members = (
            members.Construct (actions.Load 2 0 ∷ actions.Load 3 2 ∷ actions.Invoke 0 (Reg 1) (Str (codes "take")) (Const (values.Text []) ∷ Reg 1 ∷ []) ∷ actions.Get 1 (Reg 2) (Str (codes "f0")) ∷ []) ∷
            members.Method (Str (codes "take")) (actions.Load 3 2 ∷ actions.Destroy 0 2 ∷ actions.Destroy 2 1 ∷ actions.Destroy 1 2 ∷ actions.SelfTo 2 ∷ actions.New 3 (codes "A") ∷ actions.New 4 (codes "A") ∷ actions.Drop 1 ∷ actions.Destroy 1 2 ∷ []) ∷
            members.Method (IntKey (pos 4)) (actions.Load 3 1 ∷ actions.Load 2 0 ∷ actions.New 4 (codes "A") ∷ actions.New 2 (codes "A") ∷ actions.Slot 2 (Reg 3) ∷ actions.Slot 2 (Reg 3) ∷ actions.Destroy 1 1 ∷ []) ∷
            members.Method (Str (codes "m0")) (actions.Invoke 0 (Reg 13) (Str (codes "m1")) (Reg 1 ∷ Const (values.Bool false) ∷ Reg 3 ∷ []) ∷ actions.New 1 (codes "A") ∷ actions.Load 4 1 ∷ actions.Get 0 (Reg 4) (Str (codes "f0")) ∷ actions.Put (Reg 4) (Str (codes "f0")) (Reg 2) ∷ actions.Put (Reg 3) (Str (codes "f0")) (Reg 3) ∷ actions.Load 0 3 ∷ []) ∷
            members.Method (Str (codes "m1")) (actions.Destroy 0 1 ∷ actions.Get 2 (Reg 2) (Str (codes "f0")) ∷ actions.OnTrue 3 ∷ actions.Invoke 13 (Reg 3) (IntKey (pos 4)) (Reg 1 ∷ Reg 0 ∷ []) ∷ actions.Load 1 0 ∷ actions.Destroy 0 1 ∷ []) ∷
            members.Method (Str (codes "m3")) (actions.Load 3 1 ∷ actions.New 3 (codes "B") ∷ actions.New 4 (codes "A") ∷ []) ∷
            members.Method (Str (codes "m2")) (actions.Load 2 0 ∷ actions.New 3 (codes "A") ∷ actions.New 2 (codes "B") ∷ actions.Invoke 3 (Reg 2) (Str (codes "m2")) (Reg 0 ∷ Reg 1 ∷ []) ∷ actions.Destroy 2 1 ∷ actions.Invoke 1 (Reg 1) (IntKey (pos 4)) (Reg 2 ∷ Reg 2 ∷ Reg 5 ∷ []) ∷ actions.Destroy 3 2 ∷ actions.Destroy 1 2 ∷ actions.Enumerate 2 (Reg 0) ∷ []) ∷ []);
      }) ∷
      (record {
        name = codes "B";
        version = 1;
        stored = true;
        members = (
            members.Method (Str (codes "m3")) (actions.Load 0 2 ∷ actions.Load 3 1 ∷ actions.Drop 7 ∷ []) ∷
            members.Setter (Str (codes "f1")) (actions.Load 1 2 ∷ actions.Load 3 1 ∷ actions.Invoke 2 (Reg 3) (Str (codes "take")) (Reg 7 ∷ Reg 1 ∷ []) ∷ []) ∷
            members.Method (IntKey (pos 4)) (actions.Load 0 2 ∷ actions.Destroy 2 1 ∷ []) ∷
            members.Default (actions.Load 3 1 ∷ actions.SelfTo 2 ∷ actions.Invoke 0 (Reg 1) (Str (codes "take")) (Reg 0 ∷ Reg 3 ∷ Reg 3 ∷ Reg 2 ∷ Const (values.Bool true) ∷ Reg 3 ∷ Const values.Null ∷ Reg 0 ∷ []) ∷ actions.SelfTo 0 ∷ actions.Set 0 (Reg 1) ∷ actions.Invoke 0 (Reg 4) (IntKey (pos 4)) (Const (values.Int (pos 1)) ∷ Const (values.Int (pos 14)) ∷ Reg 6 ∷ Const (values.Int (pos 2147483647)) ∷ Reg 2 ∷ Reg 3 ∷ Reg 0 ∷ Reg 1 ∷ []) ∷ []) ∷
            members.Method (Str (codes "m2")) (actions.Load 3 2 ∷ actions.SelfTo 2 ∷ actions.New 3 (codes "A") ∷ actions.Destroy 2 1 ∷ actions.OnTrue 1 ∷ actions.New 4 (codes "A") ∷ actions.Invoke 0 (Const (values.Text (codes "s"))) (IntKey (pos 4)) (Reg 2 ∷ Reg 1 ∷ Reg 1 ∷ []) ∷ actions.Load 2 2 ∷ actions.Destroy 0 1 ∷ []) ∷
            members.Method (Str (codes "take")) (actions.Load 2 0 ∷ actions.SelfTo 2 ∷ actions.New 2 (codes "B") ∷ actions.New 1 (codes "B") ∷ actions.New 4 (codes "B") ∷ actions.Destroy 3 1 ∷ actions.Load 3 1 ∷ actions.Load 2 2 ∷ actions.Destroy 0 1 ∷ []) ∷
            members.Construct (actions.Load 3 1 ∷ actions.New 5 (codes "Window") ∷ actions.New 0 (codes "B") ∷ actions.Put (Reg 0) (Str (codes "7")) (Reg 2) ∷ actions.Get 2 (Reg 0) (Str (codes "7")) ∷ actions.Remove (Reg 0) (Str (codes "7")) ∷ actions.Slot 2 (Reg 1) ∷ []) ∷
            members.Method (Str (codes "m1")) (actions.Load 3 1 ∷ actions.Slot 2 (Reg 1) ∷ actions.New 5 (codes "A") ∷ actions.New 2 (codes "B") ∷ actions.New 4 (codes "Window") ∷ actions.Put (Reg 2) (Str (codes "f0")) (Const values.Void) ∷ actions.Invoke 3 (Reg 2) (Str (codes "m3")) (Reg 12 ∷ []) ∷ actions.Load 0 0 ∷ actions.Get 1 (Reg 0) (Str (codes "f1")) ∷ actions.Put (Reg 0) (Str (codes "f1")) (Reg 1) ∷ []) ∷
            members.Method (Str (codes "m0")) (actions.Invoke 1 (Reg 1) (Str (codes "m3")) (Reg 1 ∷ Reg 3 ∷ []) ∷ []) ∷ []);
      }) ∷ []);
  resources = (
      resource (codes "r") (codes "t/p") 4 (codes "0123456789") ∷
      resource (codes "s") (codes "t/p") 1 (120 ∷ 1 ∷ 34 ∷ []) ∷
      resource (codes "e") (codes "t/p") 0 (codes "abc") ∷ []);
  commands = (
      commands.Create (codes "t/x") 2 [] ∷
      commands.Scriptable 0 1 ∷
      commands.Create (codes "t/x") 2 [] ∷
      commands.Scriptable 1 2 ∷
      commands.New 2 1 (codes "Window") ∷
      commands.New 3 2 (codes "B") ∷
      commands.Invoke 5 (Reg 1) (Str (codes "m1")) (Reg 3 ∷ Reg 2 ∷ Reg 0 ∷ []) ∷
      commands.Destroy 1 ∷
      commands.Note (Reg 0) ∷
      commands.Set 1 (Reg 0) ∷
      commands.Invoke 5 (Reg 2) (Str (codes "m3")) (Reg 0 ∷ []) ∷
      commands.Invoke 4 (Reg 0) (IntKey (pos 4)) (Reg 1 ∷ Reg 2 ∷ Reg 0 ∷ []) ∷
      commands.Invoke 4 (Reg 0) (Str (codes "m3")) (Reg 2 ∷ Reg 1 ∷ Reg 1 ∷ []) ∷
      commands.Drop 2 ∷
      commands.Create (codes "t/y") 2 [] ∷
      commands.Scriptable 0 3 ∷
      commands.Invoke 5 (Reg 3) (Str (codes "m2")) (Reg 4 ∷ Reg 3 ∷ Reg 0 ∷ []) ∷
      commands.Turn ∷
      commands.Turn ∷
      commands.Invoke 5 (Reg 2) (Str (codes "m0")) (Reg 3 ∷ Const (values.Text (195 ∷ 164 ∷ 34 ∷ 92 ∷ 1 ∷ 127 ∷ [])) ∷ []) ∷
      commands.Invoke 5 (Reg 3) (Str (codes "take")) (Reg 5 ∷ Reg 1 ∷ Reg 4 ∷ []) ∷
      commands.Invoke 4 (Reg 3) (Str (codes "m1")) (Reg 2 ∷ Reg 1 ∷ []) ∷ []);
}

abbrev plugin : Plugin
plugin = record {
  major = 0;
  minor = 27;
  classes = (
      (record {
        name = codes "Main";
        version = 3;
        stored = true;
        members = (
            members.Method (Str (codes "take")) (actions.SelfTo 2 ∷ actions.Load 2 0 ∷ actions.Invoke 0 (Reg 5) (Str (codes "none")) (Reg 0 ∷ Reg 2 ∷ Reg 2 ∷ []) ∷ actions.Window 2 ∷ actions.EndStream 0 (Const (values.Int (pos 2))) reasons.NetworkErr ∷ actions.New 1 (codes "Main") ∷ actions.Invoke 3 (Reg 3) (Str (codes "none")) (Reg 3 ∷ Reg 3 ∷ []) ∷ []) ∷
            members.Method (Str (codes "m3")) (actions.Load 0 2 ∷ actions.Drop 3 ∷ actions.New 2 (codes "T") ∷ actions.New 4 (codes "Main") ∷ actions.Window 0 ∷ actions.Invoke 2 (Reg 0) (Str (codes "take")) (Reg 2 ∷ Reg 2 ∷ []) ∷ []) ∷
            members.Default (actions.Load 3 1 ∷ actions.Fail ∷ actions.Load 2 1 ∷ actions.New 3 (codes "U") ∷ actions.Invoke 1 (Reg 1) (Str (codes "take")) (Reg 1 ∷ Const (values.Text (195 ∷ 164 ∷ 34 ∷ 92 ∷ 1 ∷ 127 ∷ [])) ∷ Reg 1 ∷ []) ∷ actions.Get 2 (Reg 1) (Str (codes "7")) ∷ actions.New 6 (codes "U") ∷ []) ∷
            members.Method (Str (codes "m2")) (actions.New 1 (codes "T") ∷ actions.New 4 (codes "T") ∷ actions.Window 2 ∷ actions.New 3 (codes "U") ∷ actions.Window 1 ∷ []) ∷
            members.Method (Str (codes "m0")) (actions.New 3 (codes "Main") ∷ actions.New 2 (codes "Main") ∷ actions.RequestRead 0 (Const (values.Int (pos 1))) ((record { offset = negsuc 0; length = 1 }) ∷ (record { offset = negsuc 7; length = 3 }) ∷ (record { offset = pos 10; length = 3 }) ∷ []) ∷ actions.New 5 (codes "T") ∷ actions.SelfTo 3 ∷ actions.Slot 2 (Reg 0) ∷ actions.New 0 (codes "U") ∷ actions.Put (Reg 0) (Str (codes "f1")) (Reg 3) ∷ actions.Return (Reg 0) ∷ []) ∷
            members.Method (IntKey (pos 4)) (actions.Load 3 1 ∷ actions.Load 2 0 ∷ actions.Window 1 ∷ actions.New 2 (codes "Main") ∷ actions.Put (Reg 1) (Str (codes "f1")) (Reg 2) ∷ actions.Load 0 3 ∷ actions.Slot 2 (Reg 0) ∷ actions.Slot 2 (Reg 2) ∷ actions.Invoke 2 (Reg 0) (Str (codes "take")) (Reg 1 ∷ Reg 1 ∷ []) ∷ []) ∷ []);
      }) ∷
      (record {
        name = codes "T";
        version = 3;
        stored = true;
        members = (
            members.Method (Str (codes "m0")) (actions.Load 2 0 ∷ actions.Load 0 2 ∷ actions.New 4 (codes "Main") ∷ actions.New 1 (codes "T") ∷ actions.New 5 (codes "Main") ∷ []) ∷
            members.Method (Str (codes "take")) (actions.Load 2 2 ∷ actions.Load 2 0 ∷ actions.Load 3 3 ∷ actions.Load 3 1 ∷ actions.Window 1 ∷ actions.Window 2 ∷ actions.OnEq (Reg 2) (Reg 0) 1 ∷ actions.Window 3 ∷ []) ∷
            members.Construct (actions.New 1 (codes "Main") ∷ actions.Load 0 1 ∷ actions.Window 0 ∷ []) ∷
            members.Method (Str (codes "m1")) (actions.Load 3 1 ∷ actions.SelfTo 2 ∷ actions.Add 1 (Reg 2) (Reg 1) ∷ actions.Load 0 3 ∷ actions.New 2 (codes "None") ∷ actions.Load 3 2 ∷ actions.Construct 1 (Reg 1) [] ∷ actions.Window 0 ∷ []) ∷
            members.Method (Str (codes "m2")) (actions.Load 1 1 ∷ actions.Window 3 ∷ []) ∷
            members.Default (actions.Load 2 0 ∷ actions.Load 3 1 ∷ actions.New 5 (codes "U") ∷ actions.Return (Reg 3) ∷ actions.Invoke 3 (Reg 2) (Str (codes "take")) (Reg 3 ∷ []) ∷ actions.Slot 2 (Reg 13) ∷ actions.Load 1 1 ∷ []) ∷
            members.Method (Str (codes "m3")) (actions.SelfTo 2 ∷ actions.New 3 (codes "T") ∷ actions.New 2 (codes "U") ∷ actions.New 4 (codes "T") ∷ actions.Remove (Reg 0) (Str (codes "f1")) ∷ actions.New 3 (codes "T") ∷ actions.Get 1 (Reg 3) (Str (codes "f0")) ∷ actions.Window 3 ∷ actions.Get 1 (Reg 3) (Str (codes "f0")) ∷ []) ∷
            members.Method (IntKey (pos 4)) (actions.Invoke 2 (Reg 3) (Str (codes "take")) (Reg 2 ∷ Reg 0 ∷ Const (values.Int (pos 2147483647)) ∷ []) ∷ actions.New 2 (codes "Main") ∷ actions.New 1 (codes "Main") ∷ actions.Window 5 ∷ actions.New 5 (codes "Main") ∷ actions.Window 2 ∷ actions.Window 3 ∷ actions.Window 3 ∷ []) ∷ []);
      }) ∷
      (record {
        name = codes "U";
        version = 3;
        stored = true;
        members = (
            members.Method (Str (codes "m3")) (actions.SelfTo 2 ∷ actions.New 5 (codes "Main") ∷ []) ∷
            members.Setter (Str (codes "f0")) (actions.New 3 (codes "T") ∷ actions.SelfTo 1 ∷ actions.New 5 (codes "T") ∷ actions.Return (Reg 0) ∷ actions.New 2 (codes "T") ∷ actions.New 1 (codes "T") ∷ actions.Put (Reg 1) (Str (codes "f0")) (Reg 0) ∷ actions.Slot 3 (Reg 1) ∷ actions.Drop 1 ∷ []) ∷
            members.Method (Str (codes "m2")) (actions.Load 2 0 ∷ actions.Load 12 2 ∷ actions.New 5 (codes "U") ∷ actions.New 4 (codes "Main") ∷ actions.New 1 (codes "T") ∷ actions.Put (Reg 1) (Str (codes "7")) (Reg 3) ∷ actions.Slot 3 (Reg 1) ∷ actions.Drop 1 ∷ actions.Invoke 2 (Reg 0) (IntKey (pos 4)) (Reg 3 ∷ Reg 2 ∷ Reg 1 ∷ []) ∷ actions.GetUrl 3 (Const (values.Text (codes "nowhere"))) (pos 5) ∷ []) ∷
            members.Method (IntKey (pos 4)) (actions.New 2 (codes "T") ∷ actions.New 0 (codes "Main") ∷ actions.Put (Reg 0) (Str (codes "f1")) (Reg 4) ∷ actions.Return (Reg 0) ∷ actions.Note (Reg 0) ∷ []) ∷
            members.Method (Str (codes "take")) (actions.Load 2 0 ∷ actions.CallDefault 3 (Reg 0) (Const values.Void ∷ Reg 0 ∷ Reg 1 ∷ []) ∷ actions.Window 1 ∷ []) ∷
            members.Method (Str (codes "m1")) (actions.Load 3 1 ∷ actions.New 5 (codes "Main") ∷ actions.New 3 (codes "U") ∷ actions.Window 0 ∷ []) ∷
            members.Method (Str (codes "m0")) (actions.Load 2 0 ∷ actions.Load 0 2 ∷ actions.New 4 (codes "T") ∷ []) ∷ []);
      }) ∷ []);
  handlers = (
      (record { which = handlers.New; body = (actions.New 0 (codes "Main") ∷ actions.Slot 0 (Reg 0) ∷ actions.Window 1 ∷ actions.Slot 1 (Reg 1) ∷ actions.Load 3 1 ∷ actions.Load 2 0 ∷ actions.New 5 (codes "Main") ∷ actions.Enumerate 2 (Const values.Null) ∷ actions.Slot 3 (Reg 0) ∷ []) }) ∷
      (record { which = handlers.Scriptable; body = (actions.Load 2 2 ∷ actions.New 5 (codes "U") ∷ actions.Window 10 ∷ actions.Slot 1 (Reg 2) ∷ actions.Load 0 0 ∷ actions.Return (Reg 0) ∷ []) }) ∷
      (record { which = handlers.NewStream; body = (actions.Return (Const (values.Int (pos 2))) ∷ []) }) ∷
      (record { which = handlers.Write; body = (actions.Invoke 1 (Reg 3) (Str (codes "m3")) (Reg 2 ∷ Reg 3 ∷ Reg 2 ∷ []) ∷ []) }) ∷
      (record { which = handlers.DestroyStream; body = [] }) ∷ []);
  tasks = [];
}

-- the run of both
both-end : outcome 1500 page plugin ≡ record {
  page = (
      Created (record { side = sides.Page; instance = 1; serial = 1 }) ∷
      CommandResult 1 (results.Code NoError) ∷
      CommandResult 2 (results.Yes (values.Object (record { side = sides.Plug; instance = 1; serial = 1 })) false) ∷
      Created (record { side = sides.Page; instance = 2; serial = 1 }) ∷
      CommandResult 3 (results.Code NoError) ∷
      CommandResult 4 (results.Yes (values.Object (record { side = sides.Plug; instance = 2; serial = 1 })) false) ∷
      Created (record { side = sides.Page; instance = 1; serial = 2 }) ∷
      CommandResult 5 (results.Yes (values.Object (record { side = sides.Page; instance = 1; serial = 2 })) false) ∷
      Created (record { side = sides.Page; instance = 2; serial = 2 }) ∷
      CommandResult 6 (results.Yes (values.Object (record { side = sides.Page; instance = 2; serial = 2 })) false) ∷
      CommandResult 7 results.No ∷
      ProxyGone (record { side = sides.Plug; instance = 1; serial = 1 }) ∷
      Invalidated (record { side = sides.Page; instance = 1; serial = 1 }) ∷
      Invalidated (record { side = sides.Page; instance = 1; serial = 2 }) ∷
      Deallocated (record { side = sides.Page; instance = 1; serial = 1 }) ∷
      Deallocated (record { side = sides.Page; instance = 1; serial = 2 }) ∷
      CommandResult 8 (results.Code NoError) ∷
      Noted (values.Object (record { side = sides.Plug; instance = 1; serial = 1 })) true ∷
      CommandResult 9 (results.Yes values.Void false) ∷
      CommandResult 10 (results.Yes (values.Object (record { side = sides.Plug; instance = 1; serial = 1 })) true) ∷
      CommandResult 11 results.No ∷
      CommandResult 12 results.No ∷
      CommandResult 13 results.No ∷
      CommandResult 14 (results.Yes values.Void false) ∷
      Created (record { side = sides.Page; instance = 3; serial = 1 }) ∷
      CommandResult 15 (results.Code NoError) ∷
      CommandResult 16 (results.Yes (values.Object (record { side = sides.Plug; instance = 3; serial = 1 })) false) ∷
      Entered (record { side = sides.Page; instance = 2; serial = 2 }) (ops.Invoke (Str (codes "m2"))) ∷
      Created (record { side = sides.Page; instance = 2; serial = 3 }) ∷
      Deallocated (record { side = sides.Page; instance = 2; serial = 3 }) ∷
      CommandResult 17 (results.Yes values.Void false) ∷
      CommandResult 18 (results.Yes values.Void false) ∷
      CommandResult 19 (results.Yes values.Void false) ∷
      CommandResult 20 results.No ∷
      Entered (record { side = sides.Page; instance = 2; serial = 2 }) (ops.Invoke (Str (codes "take"))) ∷
      Created (record { side = sides.Page; instance = 2; serial = 4 }) ∷
      Created (record { side = sides.Page; instance = 2; serial = 5 }) ∷
      Created (record { side = sides.Page; instance = 2; serial = 6 }) ∷
      Deallocated (record { side = sides.Page; instance = 2; serial = 4 }) ∷
      Deallocated (record { side = sides.Page; instance = 2; serial = 5 }) ∷
      Deallocated (record { side = sides.Page; instance = 2; serial = 6 }) ∷
      CommandResult 21 (results.Yes values.Void false) ∷
      Entered (record { side = sides.Page; instance = 2; serial = 2 }) (ops.Invoke (Str (codes "m1"))) ∷
      Created (record { side = sides.Page; instance = 2; serial = 7 }) ∷
      Created (record { side = sides.Page; instance = 2; serial = 8 }) ∷
      Created (record { side = sides.Page; instance = 2; serial = 9 }) ∷
      Entered (record { side = sides.Page; instance = 2; serial = 8 }) (ops.Put (Str (codes "f0"))) ∷
      Entered (record { side = sides.Page; instance = 2; serial = 8 }) (ops.Invoke (Str (codes "m3"))) ∷
      Deallocated (record { side = sides.Page; instance = 2; serial = 8 }) ∷
      Deallocated (record { side = sides.Page; instance = 2; serial = 9 }) ∷
      Deallocated (record { side = sides.Page; instance = 2; serial = 7 }) ∷
      CommandResult 22 (results.Yes values.Void false) ∷
      Invalidated (record { side = sides.Page; instance = 2; serial = 1 }) ∷
      Invalidated (record { side = sides.Page; instance = 2; serial = 2 }) ∷
      Deallocated (record { side = sides.Page; instance = 2; serial = 1 }) ∷
      Deallocated (record { side = sides.Page; instance = 2; serial = 2 }) ∷
      ProxyGone (record { side = sides.Plug; instance = 3; serial = 1 }) ∷
      Invalidated (record { side = sides.Page; instance = 3; serial = 1 }) ∷
      Deallocated (record { side = sides.Page; instance = 3; serial = 1 }) ∷ []);
  plugin = (
      HandlerRun 1 handlers.New ∷
      Created (record { side = sides.Plug; instance = 1; serial = 1 }) ∷
      Created (record { side = sides.Plug; instance = 1; serial = 2 }) ∷
      Deallocated (record { side = sides.Plug; instance = 1; serial = 2 }) ∷
      HandlerRun 1 handlers.Scriptable ∷
      Created (record { side = sides.Plug; instance = 1; serial = 3 }) ∷
      Deallocated (record { side = sides.Plug; instance = 1; serial = 3 }) ∷
      HandlerRun 2 handlers.New ∷
      Created (record { side = sides.Plug; instance = 2; serial = 1 }) ∷
      Created (record { side = sides.Plug; instance = 2; serial = 2 }) ∷
      Deallocated (record { side = sides.Plug; instance = 2; serial = 2 }) ∷
      HandlerRun 2 handlers.Scriptable ∷
      Created (record { side = sides.Plug; instance = 2; serial = 3 }) ∷
      Deallocated (record { side = sides.Plug; instance = 2; serial = 3 }) ∷
      Invalidated (record { side = sides.Plug; instance = 1; serial = 1 }) ∷
      Deallocated (record { side = sides.Plug; instance = 1; serial = 1 }) ∷
      HandlerRun 3 handlers.New ∷
      Created (record { side = sides.Plug; instance = 3; serial = 1 }) ∷
      Created (record { side = sides.Plug; instance = 3; serial = 2 }) ∷
      Deallocated (record { side = sides.Plug; instance = 3; serial = 2 }) ∷
      HandlerRun 3 handlers.Scriptable ∷
      Created (record { side = sides.Plug; instance = 3; serial = 3 }) ∷
      Deallocated (record { side = sides.Plug; instance = 3; serial = 3 }) ∷
      Invalidated (record { side = sides.Plug; instance = 2; serial = 1 }) ∷
      Deallocated (record { side = sides.Plug; instance = 2; serial = 1 }) ∷
      Invalidated (record { side = sides.Plug; instance = 3; serial = 1 }) ∷
      Deallocated (record { side = sides.Plug; instance = 3; serial = 1 }) ∷ []);
  files = [];
  rests = true;
}
unfolding encoding digits is_text is_utf8 chars encode_utf8
both-end = refl

-- all bytes that the page sends
page-sends : page_bytes 1500 page plugin ≡ (0 ∷ 0 ∷ 0 ∷ 7 ∷ 1 ∷ 1 ∷ 0 ∷ 0 ∷ 1 ∷ 0 ∷ 27 ∷ 0 ∷ 0 ∷ 0 ∷ 12 ∷ 2 ∷ 1 ∷ 0 ∷ 0 ∷ 1 ∷ 2 ∷ 0 ∷ 3 ∷ 116 ∷ 47 ∷ 120 ∷ 0 ∷ 0 ∷ 0 ∷ 0 ∷ 11 ∷ 65 ∷ 2 ∷ 0 ∷ 0 ∷ 6 ∷ 0 ∷ 1 ∷ 0 ∷ 0 ∷ 0 ∷ 1 ∷ 0 ∷ 0 ∷ 0 ∷ 5 ∷ 4 ∷ 1 ∷ 0 ∷ 0 ∷ 1 ∷ 0 ∷ 0 ∷ 0 ∷ 11 ∷ 65 ∷ 2 ∷ 0 ∷ 0 ∷ 6 ∷ 0 ∷ 1 ∷ 0 ∷ 0 ∷ 0 ∷ 1 ∷ 0 ∷ 0 ∷ 0 ∷ 12 ∷ 2 ∷ 1 ∷ 0 ∷ 0 ∷ 2 ∷ 2 ∷ 0 ∷ 3 ∷ 116 ∷ 47 ∷ 120 ∷ 0 ∷ 0 ∷ 0 ∷ 0 ∷ 11 ∷ 65 ∷ 2 ∷ 0 ∷ 0 ∷ 6 ∷ 0 ∷ 2 ∷ 0 ∷ 0 ∷ 0 ∷ 1 ∷ 0 ∷ 0 ∷ 0 ∷ 5 ∷ 4 ∷ 1 ∷ 0 ∷ 0 ∷ 2 ∷ 0 ∷ 0 ∷ 0 ∷ 11 ∷ 65 ∷ 2 ∷ 0 ∷ 0 ∷ 6 ∷ 0 ∷ 2 ∷ 0 ∷ 0 ∷ 0 ∷ 1 ∷ 0 ∷ 0 ∷ 0 ∷ 37 ∷ 64 ∷ 1 ∷ 0 ∷ 0 ∷ 2 ∷ 0 ∷ 0 ∷ 0 ∷ 1 ∷ 1 ∷ 0 ∷ 0 ∷ 2 ∷ 109 ∷ 49 ∷ 3 ∷ 6 ∷ 0 ∷ 2 ∷ 0 ∷ 0 ∷ 0 ∷ 2 ∷ 6 ∷ 0 ∷ 1 ∷ 0 ∷ 0 ∷ 0 ∷ 2 ∷ 6 ∷ 1 ∷ 1 ∷ 0 ∷ 0 ∷ 0 ∷ 1 ∷ 0 ∷ 0 ∷ 0 ∷ 5 ∷ 3 ∷ 1 ∷ 0 ∷ 0 ∷ 1 ∷ 0 ∷ 0 ∷ 0 ∷ 21 ∷ 2 ∷ 1 ∷ 0 ∷ 1 ∷ 2 ∷ 0 ∷ 0 ∷ 0 ∷ 1 ∷ 0 ∷ 0 ∷ 0 ∷ 1 ∷ 3 ∷ 2 ∷ 0 ∷ 3 ∷ 116 ∷ 47 ∷ 121 ∷ 0 ∷ 0 ∷ 0 ∷ 0 ∷ 11 ∷ 65 ∷ 2 ∷ 0 ∷ 0 ∷ 6 ∷ 0 ∷ 3 ∷ 0 ∷ 0 ∷ 0 ∷ 1 ∷ 0 ∷ 0 ∷ 0 ∷ 5 ∷ 4 ∷ 1 ∷ 0 ∷ 0 ∷ 3 ∷ 0 ∷ 0 ∷ 0 ∷ 11 ∷ 65 ∷ 2 ∷ 0 ∷ 0 ∷ 6 ∷ 0 ∷ 3 ∷ 0 ∷ 0 ∷ 0 ∷ 1 ∷ 0 ∷ 0 ∷ 0 ∷ 4 ∷ 5 ∷ 1 ∷ 0 ∷ 0 ∷ 0 ∷ 0 ∷ 0 ∷ 4 ∷ 5 ∷ 1 ∷ 0 ∷ 0 ∷ 0 ∷ 0 ∷ 0 ∷ 5 ∷ 3 ∷ 1 ∷ 0 ∷ 0 ∷ 2 ∷ 0 ∷ 0 ∷ 0 ∷ 5 ∷ 3 ∷ 1 ∷ 0 ∷ 0 ∷ 3 ∷ 0 ∷ 0 ∷ 0 ∷ 4 ∷ 12 ∷ 1 ∷ 0 ∷ 0 ∷ [])
unfolding encoding digits is_text is_utf8 chars encode_utf8
page-sends = refl

-- all bytes that the plugin sends
plugin-sends : plugin_bytes 1500 page plugin ≡ (0 ∷ 0 ∷ 0 ∷ 5 ∷ 69 ∷ 1 ∷ 0 ∷ 0 ∷ 0 ∷ 0 ∷ 0 ∷ 0 ∷ 5 ∷ 32 ∷ 2 ∷ 0 ∷ 0 ∷ 1 ∷ 0 ∷ 0 ∷ 0 ∷ 5 ∷ 69 ∷ 1 ∷ 0 ∷ 0 ∷ 0 ∷ 0 ∷ 0 ∷ 0 ∷ 5 ∷ 32 ∷ 2 ∷ 0 ∷ 0 ∷ 1 ∷ 0 ∷ 0 ∷ 0 ∷ 20 ∷ 65 ∷ 1 ∷ 0 ∷ 1 ∷ 1 ∷ 0 ∷ 0 ∷ 0 ∷ 1 ∷ 0 ∷ 0 ∷ 0 ∷ 2 ∷ 6 ∷ 1 ∷ 1 ∷ 0 ∷ 0 ∷ 0 ∷ 1 ∷ 0 ∷ 0 ∷ 0 ∷ 5 ∷ 32 ∷ 2 ∷ 0 ∷ 0 ∷ 2 ∷ 0 ∷ 0 ∷ 0 ∷ 5 ∷ 69 ∷ 1 ∷ 0 ∷ 0 ∷ 0 ∷ 0 ∷ 0 ∷ 0 ∷ 5 ∷ 32 ∷ 2 ∷ 0 ∷ 0 ∷ 2 ∷ 0 ∷ 0 ∷ 0 ∷ 20 ∷ 65 ∷ 1 ∷ 0 ∷ 1 ∷ 2 ∷ 0 ∷ 0 ∷ 0 ∷ 1 ∷ 0 ∷ 0 ∷ 0 ∷ 2 ∷ 6 ∷ 1 ∷ 2 ∷ 0 ∷ 0 ∷ 0 ∷ 1 ∷ 0 ∷ 0 ∷ 0 ∷ 22 ∷ 66 ∷ 1 ∷ 0 ∷ 2 ∷ 1 ∷ 0 ∷ 0 ∷ 0 ∷ 2 ∷ 0 ∷ 0 ∷ 0 ∷ 1 ∷ 2 ∷ 0 ∷ 0 ∷ 0 ∷ 2 ∷ 0 ∷ 0 ∷ 0 ∷ 1 ∷ 0 ∷ 0 ∷ 0 ∷ 5 ∷ 69 ∷ 1 ∷ 0 ∷ 0 ∷ 0 ∷ 0 ∷ 0 ∷ 0 ∷ 5 ∷ 32 ∷ 2 ∷ 0 ∷ 0 ∷ 3 ∷ 0 ∷ 0 ∷ 0 ∷ 5 ∷ 69 ∷ 1 ∷ 0 ∷ 0 ∷ 0 ∷ 0 ∷ 0 ∷ 0 ∷ 5 ∷ 32 ∷ 2 ∷ 0 ∷ 0 ∷ 3 ∷ 0 ∷ 0 ∷ 0 ∷ 20 ∷ 65 ∷ 1 ∷ 0 ∷ 1 ∷ 3 ∷ 0 ∷ 0 ∷ 0 ∷ 1 ∷ 0 ∷ 0 ∷ 0 ∷ 2 ∷ 6 ∷ 1 ∷ 3 ∷ 0 ∷ 0 ∷ 0 ∷ 1 ∷ 0 ∷ 0 ∷ 0 ∷ 4 ∷ 71 ∷ 1 ∷ 0 ∷ 0 ∷ 0 ∷ 0 ∷ 0 ∷ 4 ∷ 71 ∷ 1 ∷ 0 ∷ 0 ∷ 0 ∷ 0 ∷ 0 ∷ 5 ∷ 69 ∷ 1 ∷ 0 ∷ 0 ∷ 0 ∷ 0 ∷ 0 ∷ 0 ∷ 5 ∷ 69 ∷ 1 ∷ 0 ∷ 0 ∷ 0 ∷ 0 ∷ 0 ∷ 0 ∷ 4 ∷ 71 ∷ 1 ∷ 0 ∷ 0 ∷ [])
unfolding encoding digits is_text is_utf8 chars encode_utf8
plugin-sends = refl
