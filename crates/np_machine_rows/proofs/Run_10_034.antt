-- Made by tools/vector-theorems of tests/vectors/10-034.
use Rattle.std.proofs.Common.{◌≡◌, pos, negsuc, [], ◌∷◌, refl, true, false, None}
use Rattle.std.specs.Prelude.{codes}
use Rattle.std.specs.Char.{encode_utf8}
use Rattle.std.specs.Fmt.{digits}
use Rattle.std.specs.Str.{is_utf8, chars}
use Rattle.np_values.specs.declared.error.NpError.TheVariants.{NoError}
use Rattle.np_values.specs.declared.handler.Handler.TheVariants as handlers
use Rattle.np_values.specs.declared.name.Side.TheVariants as sides
use Rattle.np_values.specs.declared.reason.NpReason.TheVariants as reasons
use Rattle.np_values.specs.declared.value.Value.TheVariants as values
use Rattle.np_values.specs.Text.{is_text}
use Rattle.np_idents.specs.declared.key.IdKey.TheVariants.{Str, Int as IntKey}
use Rattle.np_idents.specs.declared.op.Op.TheVariants as ops
use Rattle.np_script_grammar.specs.declared.action.Action.TheVariants as actions
use Rattle.np_script_grammar.specs.declared.action.Operand.TheVariants.{Reg, Const}
use Rattle.np_script_grammar.specs.declared.class.Member.TheVariants as members
use Rattle.np_script_grammar.specs.declared.command.Command.TheVariants as commands
use Rattle.np_script_grammar.specs.declared.page.Page.{Page}
use Rattle.np_script_grammar.specs.declared.plugin.Plugin.{Plugin}
use Rattle.np_message.specs.Encoding.{encoding}
use Rattle.np_journal.specs.declared.line.Line.TheVariants.{Created, Entered, HandlerRun, TaskBegun, ProxyGone, Invalidated, Deallocated, CommandResult}
use Rattle.np_journal.specs.declared.printed.Printed.TheVariants as results
use Rattle.np_machine_plans.specs.AtOnce.{orderly_along}
use Rattle.np_machine_plans.specs.Outcomes.{resource, outcome, direct_outcome, page_bytes, plugin_bytes}

abbrev page : Page
page = record {
  major = 0;
  minor = 27;
  classes = (
      (record {
        name = codes "Window";
        version = 3;
        stored = true;
        members = (
            members.Method (Str (codes "m2")) [] ∷
            members.Method (IntKey (pos 4)) (actions.Load 3 2 ∷ actions.New 3 (codes "Window") ∷ actions.New 1 (codes "A") ∷ []) ∷
            members.Construct (actions.New 1 (codes "A") ∷ actions.Put (Reg 1) (Str (codes "f0")) (Reg 1) ∷ actions.Load 1 1 ∷ actions.New 3 (codes "Window") ∷ actions.New 1 (codes "A") ∷ actions.Fail ∷ actions.New 5 (codes "B") ∷ actions.Drop 2 ∷ actions.New 4 (codes "B") ∷ actions.Put (Reg 4) (Str (codes "f1")) (Reg 0) ∷ actions.Get 0 (Reg 4) (Str (codes "f1")) ∷ actions.Remove (Reg 4) (Str (codes "f1")) ∷ []) ∷
            members.Method (Str (codes "m0")) (actions.SelfTo 2 ∷ actions.Set 2 (Reg 2) ∷ actions.Load 2 1 ∷ []) ∷
            members.Method (Str (codes "m1")) (actions.Load 2 0 ∷ actions.Invoke 2 (Reg 2) (IntKey (pos 4)) (Const (values.Int (negsuc 2147483647)) ∷ Const (values.Bool true) ∷ []) ∷ []) ∷
            members.Method (Str (codes "m3")) [] ∷ []);
      }) ∷
      (record {
        name = codes "A";
        version = 3;
        stored = true;
        members = (
            members.Method (Str (codes "m2")) (actions.Load 1 2 ∷ actions.Load 3 1 ∷ actions.Load 3 3 ∷ []) ∷
            members.Setter (Str (codes "f0")) (actions.Load 3 1 ∷ actions.New 4 (codes "Window") ∷ actions.New 5 (codes "A") ∷ actions.Put (Reg 4) (IntKey (pos 7)) (Reg 5) ∷ actions.Put (Reg 4) (Str (codes "f0")) (Reg 2) ∷ actions.New 5 (codes "Window") ∷ actions.Put (Reg 4) (Str (codes "f1")) (Reg 5) ∷ actions.Drop 5 ∷ actions.Slot 2 (Reg 4) ∷ actions.Drop 4 ∷ []) ∷
            members.Method (Str (codes "m0")) (actions.SelfTo 2 ∷ actions.Load 3 1 ∷ actions.SelfTo 1 ∷ actions.New 4 (codes "B") ∷ actions.New 5 (codes "Window") ∷ actions.Put (Reg 4) (Str (codes "f1")) (Reg 2) ∷ actions.New 5 (codes "B") ∷ actions.Put (Reg 4) (IntKey (pos 7)) (Reg 5) ∷ actions.New 5 (codes "A") ∷ actions.Put (Reg 4) (Str (codes "f0")) (Reg 5) ∷ actions.Drop 5 ∷ []) ∷
            members.Method (IntKey (pos 4)) (actions.Load 3 1 ∷ actions.New 2 (codes "A") ∷ actions.Invoke 0 (Reg 1) (Str (codes "take")) (Reg 1 ∷ []) ∷ actions.Slot 0 (Reg 3) ∷ []) ∷
            members.Method (Str (codes "m3")) (actions.New 2 (codes "B") ∷ actions.New 3 (codes "Window") ∷ actions.Slot 3 (Reg 4) ∷ actions.New 1 (codes "B") ∷ actions.New 3 (codes "A") ∷ []) ∷
            members.Method (Str (codes "take")) (actions.SelfTo 2 ∷ actions.Load 1 2 ∷ actions.Invoke 0 (Reg 2) (Str (codes "none")) (Reg 3 ∷ []) ∷ actions.Throw (codes "no") ∷ actions.Slot 3 (Reg 3) ∷ actions.Load 1 2 ∷ actions.Set 2 (Const (values.Text (195 ∷ 164 ∷ 34 ∷ 92 ∷ 1 ∷ 127 ∷ []))) ∷ actions.Drop 0 ∷ []) ∷
            members.Method (Str (codes "m1")) (actions.Load 2 2 ∷ actions.Load 3 1 ∷ actions.Slot 3 (Reg 2) ∷ actions.Load 3 1 ∷ actions.Load 2 0 ∷ actions.Load 0 3 ∷ actions.Slot 3 (Reg 0) ∷ actions.Invoke 2 (Reg 2) (IntKey (pos 4)) (Reg 3 ∷ Reg 2 ∷ Reg 1 ∷ []) ∷ []) ∷ []);
      }) ∷
      (record {
        name = codes "B";
        version = 2;
        stored = true;
        members = (
            members.Method (Str (codes "m1")) (actions.Load 3 3 ∷ actions.Load 3 1 ∷ actions.Load 3 3 ∷ actions.Load 3 1 ∷ actions.Get 2 (Reg 3) (Str (codes "f0")) ∷ actions.Put (Reg 3) (Str (codes "f0")) (Reg 3) ∷ []) ∷
            members.Method (Str (codes "m3")) (actions.Load 2 0 ∷ actions.Load 3 1 ∷ actions.Load 2 1 ∷ actions.Slot 3 (Reg 0) ∷ actions.OnTrue 2 ∷ actions.Load 1 3 ∷ []) ∷
            members.Method (Str (codes "m0")) (actions.SelfTo 2 ∷ actions.Load 3 1 ∷ actions.OnFalse 2 ∷ actions.Set 2 (Reg 1) ∷ actions.Drop 0 ∷ actions.Get 1 (Reg 3) (Str (codes "7")) ∷ actions.Slot 1 (Reg 4) ∷ []) ∷
            members.Method (Str (codes "take")) (actions.New 2 (codes "B") ∷ actions.Slot 2 (Reg 2) ∷ actions.OnEq (Reg 0) (Reg 0) 2 ∷ []) ∷
            members.Setter (Str (codes "f0")) (actions.SelfTo 2 ∷ actions.Slot 2 (Reg 14) ∷ actions.New 5 (codes "B") ∷ actions.Enumerate 1 (Reg 0) ∷ actions.Set 1 (Reg 1) ∷ actions.Load 0 1 ∷ actions.Put (Reg 2) (Str (codes "f1")) (Reg 2) ∷ []) ∷
            members.Method (Str (codes "m2")) (actions.Load 0 2 ∷ actions.Drop 4 ∷ actions.New 2 (codes "B") ∷ actions.New 1 (codes "A") ∷ actions.Remove (Reg 3) (Str (codes "f0")) ∷ actions.New 3 (codes "B") ∷ actions.Put (Reg 1) (Str (codes "f1")) (Reg 2) ∷ actions.SelfTo 3 ∷ []) ∷ []);
      }) ∷ []);
  resources = (
      resource (codes "r") (codes "t/p") 1 (codes "0123456789") ∷
      resource (codes "s") (codes "t/p") 1 (codes "abc") ∷
      resource (codes "e") (codes "t/p") 0 (195 ∷ 164 ∷ []) ∷ []);
  commands = (
      commands.Create (codes "t/x") 1 [] ∷
      commands.Scriptable 0 1 ∷
      commands.Create (codes "t/x") 2 [] ∷
      commands.Scriptable 1 2 ∷
      commands.New 2 1 (codes "A") ∷
      commands.New 3 2 (codes "A") ∷
      commands.Invoke 5 (Reg 2) (Str (codes "m0")) (Reg 2 ∷ Reg 0 ∷ Reg 1 ∷ []) ∷
      commands.Invoke 5 (Reg 1) (Str (codes "m2")) (Reg 0 ∷ Reg 3 ∷ Reg 2 ∷ []) ∷
      commands.Invoke 0 (Reg 1) (Str (codes "take")) (Const (values.Int (pos 14)) ∷ Reg 2 ∷ []) ∷
      commands.Set 0 (Const (values.Double (0 ∷ 1 ∷ 2 ∷ 3 ∷ 4 ∷ 5 ∷ 6 ∷ 7 ∷ []))) ∷
      commands.Turn ∷
      commands.New 5 1 (codes "B") ∷
      commands.Invoke 5 (Reg 0) (Str (codes "m2")) (Reg 2 ∷ []) ∷
      commands.Drop 2 ∷
      commands.Invoke 2 (Reg 0) (Str (codes "m1")) [] ∷
      commands.Invoke 4 (Reg 2) (Str (codes "m2")) (Reg 4 ∷ Reg 2 ∷ Reg 3 ∷ []) ∷ []);
}

abbrev plugin : Plugin
plugin = record {
  major = 0;
  minor = 27;
  classes = (
      (record {
        name = codes "Main";
        version = 3;
        stored = true;
        members = (
            members.Getter (Str (codes "f1")) (actions.Slot 0 (Reg 1) ∷ actions.New 2 (codes "Main") ∷ actions.Put (Reg 2) (Str (codes "f0")) (Reg 0) ∷ actions.Slot 3 (Reg 2) ∷ actions.Drop 2 ∷ actions.Invoke 0 (Reg 2) (IntKey (pos 4)) (Reg 0 ∷ Reg 3 ∷ []) ∷ actions.Later (codes "t") ∷ []) ∷
            members.Method (Str (codes "take")) (actions.Load 2 2 ∷ actions.New 4 (codes "Main") ∷ []) ∷
            members.Method (Str (codes "m3")) (actions.Slot 0 (Reg 2) ∷ actions.OnFalse 2 ∷ actions.Load 0 3 ∷ actions.Slot 0 (Reg 3) ∷ actions.SelfTo 0 ∷ actions.EndStream 3 (Reg 1) reasons.Done ∷ actions.Invoke 0 (Reg 2) (Str (codes "take")) (Reg 0 ∷ Reg 1 ∷ Const (values.Int (pos 1)) ∷ Reg 3 ∷ Reg 0 ∷ Const (values.Text (195 ∷ 164 ∷ 34 ∷ 92 ∷ 1 ∷ 127 ∷ [])) ∷ Reg 1 ∷ Reg 1 ∷ []) ∷ []) ∷
            members.Method (Str (codes "m0")) [] ∷
            members.Method (IntKey (pos 4)) [] ∷
            members.Method (Str (codes "m1")) (actions.SelfTo 2 ∷ actions.Load 2 0 ∷ actions.New 2 (codes "T") ∷ actions.New 1 (codes "U") ∷ actions.SelfTo 1 ∷ actions.Invoke 2 (Reg 3) (Str (codes "m2")) (Reg 2 ∷ Reg 4 ∷ []) ∷ actions.RequestRead 0 (Const (values.Int (pos 4))) ((record { offset = pos 0; length = 3 }) ∷ (record { offset = pos 1; length = 1 }) ∷ (record { offset = pos 1; length = 9000 }) ∷ (record { offset = negsuc 1; length = 1 }) ∷ []) ∷ actions.RequestRead 3 (Const (values.Int (pos 2))) ((record { offset = negsuc 0; length = 9000 }) ∷ []) ∷ actions.Load 2 3 ∷ []) ∷
            members.Method (Str (codes "m2")) [] ∷ []);
      }) ∷
      (record {
        name = codes "T";
        version = 3;
        stored = true;
        members = (
            members.Method (Str (codes "take")) [] ∷
            members.Method (IntKey (pos 4)) (actions.Load 3 1 ∷ actions.SelfTo 2 ∷ actions.Later (codes "v") ∷ actions.New 5 (codes "U") ∷ actions.Put (Reg 2) (IntKey (pos 7)) (Reg 0) ∷ actions.New 3 (codes "Main") ∷ actions.Invoke 3 (Reg 0) (Str (codes "take")) (Reg 3 ∷ Reg 1 ∷ Reg 4 ∷ []) ∷ actions.Load 2 1 ∷ actions.SelfTo 5 ∷ []) ∷
            members.Method (Str (codes "m0")) (actions.Load 3 1 ∷ actions.Load 2 0 ∷ actions.Slot 2 (Reg 1) ∷ actions.Note (Reg 1) ∷ actions.New 4 (codes "T") ∷ actions.New 5 (codes "T") ∷ actions.Put (Reg 4) (Str (codes "f0")) (Reg 5) ∷ actions.New 2 (codes "T") ∷ actions.New 5 (codes "T") ∷ actions.Put (Reg 4) (Str (codes "f1")) (Reg 0) ∷ actions.New 5 (codes "Main") ∷ actions.Put (Reg 4) (IntKey (pos 7)) (Reg 5) ∷ actions.Drop 5 ∷ actions.Slot 1 (Reg 4) ∷ actions.Drop 4 ∷ []) ∷
            members.Method (Str (codes "m1")) (actions.Load 2 0 ∷ actions.SelfTo 2 ∷ actions.Later (codes "u") ∷ actions.New 1 (codes "T") ∷ actions.Note (Reg 0) ∷ actions.New 3 (codes "U") ∷ actions.Window 2 ∷ actions.GetUrl 3 (Const (values.Int (pos 0))) (pos 5) ∷ actions.GetUrl 5 (Const (values.Text (codes "e"))) (pos 3) ∷ []) ∷
            members.Method (Str (codes "m3")) (actions.Load 2 0 ∷ actions.RequestRead 1 (Const (values.Int (pos 2))) ((record { offset = pos 1; length = 9000 }) ∷ []) ∷ actions.Load 3 3 ∷ actions.New 0 (codes "U") ∷ actions.Slot 2 (Const (values.Int (pos 13))) ∷ []) ∷ []);
      }) ∷
      (record {
        name = codes "U";
        version = 3;
        stored = true;
        members = (
            members.Getter (Str (codes "f1")) (actions.Invoke 2 (Reg 0) (IntKey (pos 4)) (Reg 3 ∷ Reg 3 ∷ Reg 3 ∷ []) ∷ actions.SelfTo 0 ∷ actions.Load 1 0 ∷ actions.HasMethod (Reg 2) (IntKey (pos 4)) ∷ actions.Later (codes "t") ∷ []) ∷
            members.Method (Str (codes "m0")) (actions.Invoke 0 (Reg 1) (Str (codes "m2")) (Reg 1 ∷ Reg 0 ∷ Reg 0 ∷ []) ∷ actions.New 1 (codes "T") ∷ actions.Put (Reg 1) (Str (codes "f0")) (Reg 3) ∷ actions.Slot 2 (Reg 1) ∷ actions.Drop 1 ∷ []) ∷
            members.Method (IntKey (pos 4)) (actions.Later (codes "v") ∷ actions.Later (codes "v") ∷ actions.Return (Reg 2) ∷ actions.Window 0 ∷ []) ∷
            members.Default (actions.Load 3 1 ∷ actions.Load 3 2 ∷ actions.Load 3 0 ∷ actions.New 1 (codes "Main") ∷ actions.Invoke 3 (Reg 1) (Str (codes "take")) (Reg 1 ∷ Reg 3 ∷ Reg 3 ∷ []) ∷ actions.SelfTo 3 ∷ actions.Put (Reg 2) (Str (codes "f0")) (Reg 3) ∷ actions.Drop 0 ∷ []) ∷
            members.Method (Str (codes "m2")) (actions.New 1 (codes "Main") ∷ actions.New 2 (codes "T") ∷ actions.HasProperty (Reg 3) (Str (codes "f0")) ∷ actions.New 3 (codes "U") ∷ actions.Invoke 2 (Reg 2) (IntKey (pos 4)) (Reg 3 ∷ Reg 1 ∷ []) ∷ []) ∷
            members.Method (Str (codes "m3")) (actions.Load 3 1 ∷ actions.Return (Reg 1) ∷ actions.Throw (codes "no") ∷ actions.Later (codes "u") ∷ actions.New 5 (codes "None") ∷ []) ∷ []);
      }) ∷ []);
  handlers = (
      (record { which = handlers.New; body = (actions.New 0 (codes "Main") ∷ actions.Slot 0 (Reg 0) ∷ actions.Window 1 ∷ actions.Slot 1 (Reg 1) ∷ []) }) ∷
      (record { which = handlers.Scriptable; body = (actions.SelfTo 2 ∷ actions.Load 3 1 ∷ actions.Later (codes "v") ∷ actions.EndStream 12 (Const (values.Int (pos 2))) reasons.UserBreak ∷ actions.Slot 0 (Reg 2) ∷ actions.Load 0 0 ∷ actions.Return (Reg 0) ∷ []) }) ∷
      (record { which = handlers.Destroy; body = (actions.Load 3 1 ∷ actions.New 3 (codes "Main") ∷ actions.Load 3 3 ∷ actions.New 4 (codes "U") ∷ actions.Load 0 1 ∷ actions.Set 2 (Reg 0) ∷ actions.Slot 3 (Reg 2) ∷ []) }) ∷
      (record { which = handlers.NewStream; body = (actions.RequestRead 4 (Reg 0) ((record { offset = pos 0; length = 9000 }) ∷ (record { offset = negsuc 1; length = 1 }) ∷ []) ∷ actions.SelfTo 2 ∷ actions.Load 3 1 ∷ actions.Load 2 0 ∷ actions.Load 1 0 ∷ actions.New 4 (codes "Main") ∷ actions.Return (Const (values.Int (pos 3))) ∷ []) }) ∷
      (record { which = handlers.WriteReady; body = (actions.Load 0 2 ∷ actions.Load 2 0 ∷ actions.Invoke 3 (Reg 1) (Str (codes "m0")) (Reg 0 ∷ Reg 2 ∷ Reg 3 ∷ []) ∷ actions.Return (Const (values.Int (pos 2))) ∷ []) }) ∷
      (record { which = handlers.UrlNotify; body = (actions.Load 4 2 ∷ actions.Return (Reg 0) ∷ actions.New 1 (codes "Main") ∷ actions.Put (Reg 1) (Str (codes "f0")) (Reg 0) ∷ actions.Return (Reg 1) ∷ []) }) ∷ []);
  tasks = (
      (record { name = codes "t"; body = (actions.Load 1 1 ∷ actions.Load 0 2 ∷ actions.Load 0 2 ∷ actions.New 4 (codes "T") ∷ actions.New 5 (codes "U") ∷ actions.New 2 (codes "Main") ∷ actions.Put (Reg 4) (Str (codes "f1")) (Reg 5) ∷ actions.New 5 (codes "U") ∷ actions.Put (Reg 4) (IntKey (pos 7)) (Reg 5) ∷ actions.New 5 (codes "Main") ∷ actions.Put (Reg 4) (Str (codes "f0")) (Reg 5) ∷ actions.Drop 5 ∷ actions.Invoke 2 (Reg 0) (Str (codes "m3")) (Reg 0 ∷ Reg 3 ∷ []) ∷ actions.Load 2 2 ∷ actions.GetUrl 3 (Const (values.Text (codes "nowhere"))) (pos 8) ∷ actions.Slot 1 (Reg 3) ∷ actions.Slot 3 (Reg 0) ∷ []) }) ∷
      (record { name = codes "u"; body = (actions.SelfTo 2 ∷ actions.Get 3 (Reg 2) (Str (codes "f1")) ∷ actions.Invoke 0 (Reg 3) (Str (codes "m2")) (Reg 0 ∷ Reg 2 ∷ Reg 2 ∷ []) ∷ actions.Window 2 ∷ actions.Invoke 1 (Reg 3) (IntKey (pos 4)) (Reg 1 ∷ Reg 3 ∷ []) ∷ actions.SelfTo 2 ∷ []) }) ∷
      (record { name = codes "v"; body = (actions.SelfTo 2 ∷ actions.Load 3 1 ∷ actions.New 4 (codes "U") ∷ actions.Slot 3 (Reg 1) ∷ actions.New 1 (codes "Main") ∷ actions.New 2 (codes "T") ∷ actions.New 4 (codes "Main") ∷ actions.New 1 (codes "Main") ∷ actions.Put (Reg 1) (Str (codes "f0")) (Reg 2) ∷ actions.Get 2 (Reg 1) (Str (codes "f0")) ∷ actions.Remove (Reg 1) (Str (codes "f0")) ∷ []) }) ∷ []);
}

-- the run of both
both-end : outcome 1500 page plugin ≡ record {
  page = (
      Created (record { side = sides.Page; instance = 1; serial = 1 }) ∷
      CommandResult 1 (results.Code NoError) ∷
      CommandResult 2 results.No ∷
      Created (record { side = sides.Page; instance = 2; serial = 1 }) ∷
      CommandResult 3 (results.Code NoError) ∷
      CommandResult 4 results.No ∷
      Created (record { side = sides.Page; instance = 1; serial = 2 }) ∷
      CommandResult 5 (results.Yes (values.Object (record { side = sides.Page; instance = 1; serial = 2 })) false) ∷
      Created (record { side = sides.Page; instance = 2; serial = 2 }) ∷
      CommandResult 6 (results.Yes (values.Object (record { side = sides.Page; instance = 2; serial = 2 })) false) ∷
      Entered (record { side = sides.Page; instance = 1; serial = 2 }) (ops.Invoke (Str (codes "m0"))) ∷
      Created (record { side = sides.Page; instance = 1; serial = 3 }) ∷
      Created (record { side = sides.Page; instance = 1; serial = 4 }) ∷
      Entered (record { side = sides.Page; instance = 1; serial = 3 }) (ops.Put (Str (codes "f1"))) ∷
      Created (record { side = sides.Page; instance = 1; serial = 5 }) ∷
      Deallocated (record { side = sides.Page; instance = 1; serial = 4 }) ∷
      Entered (record { side = sides.Page; instance = 1; serial = 3 }) (ops.Put (IntKey (pos 7))) ∷
      Created (record { side = sides.Page; instance = 1; serial = 6 }) ∷
      Entered (record { side = sides.Page; instance = 1; serial = 3 }) (ops.Put (Str (codes "f0"))) ∷
      Created (record { side = sides.Page; instance = 1; serial = 7 }) ∷
      Entered (record { side = sides.Page; instance = 1; serial = 6 }) ops.Enumerate ∷
      Entered (record { side = sides.Page; instance = 1; serial = 3 }) (ops.Put (Str (codes "f1"))) ∷
      Deallocated (record { side = sides.Page; instance = 1; serial = 7 }) ∷
      Deallocated (record { side = sides.Page; instance = 1; serial = 6 }) ∷
      CommandResult 7 (results.Yes values.Void false) ∷
      CommandResult 8 results.No ∷
      CommandResult 9 results.No ∷
      CommandResult 10 (results.Yes (values.Double (0 ∷ 1 ∷ 2 ∷ 3 ∷ 4 ∷ 5 ∷ 6 ∷ 7 ∷ [])) false) ∷
      CommandResult 11 (results.Yes values.Void false) ∷
      Created (record { side = sides.Page; instance = 1; serial = 8 }) ∷
      CommandResult 12 (results.Yes (values.Object (record { side = sides.Page; instance = 1; serial = 8 })) false) ∷
      Deallocated (record { side = sides.Page; instance = 1; serial = 8 }) ∷
      CommandResult 13 results.No ∷
      Deallocated (record { side = sides.Page; instance = 1; serial = 2 }) ∷
      CommandResult 14 (results.Yes values.Void false) ∷
      CommandResult 15 results.No ∷
      CommandResult 16 results.No ∷
      Invalidated (record { side = sides.Page; instance = 1; serial = 1 }) ∷
      Invalidated (record { side = sides.Page; instance = 1; serial = 3 }) ∷
      Invalidated (record { side = sides.Page; instance = 1; serial = 5 }) ∷
      Deallocated (record { side = sides.Page; instance = 1; serial = 1 }) ∷
      Deallocated (record { side = sides.Page; instance = 1; serial = 3 }) ∷
      Deallocated (record { side = sides.Page; instance = 1; serial = 5 }) ∷
      Invalidated (record { side = sides.Page; instance = 2; serial = 1 }) ∷
      Invalidated (record { side = sides.Page; instance = 2; serial = 2 }) ∷
      Deallocated (record { side = sides.Page; instance = 2; serial = 1 }) ∷
      Deallocated (record { side = sides.Page; instance = 2; serial = 2 }) ∷ []);
  plugin = (
      HandlerRun 1 handlers.New ∷
      Created (record { side = sides.Plug; instance = 1; serial = 1 }) ∷
      HandlerRun 1 handlers.Scriptable ∷
      Deallocated (record { side = sides.Plug; instance = 1; serial = 1 }) ∷
      TaskBegun 1 (codes "v") ∷
      Created (record { side = sides.Plug; instance = 1; serial = 2 }) ∷
      Created (record { side = sides.Plug; instance = 1; serial = 3 }) ∷
      Created (record { side = sides.Plug; instance = 1; serial = 4 }) ∷
      Created (record { side = sides.Plug; instance = 1; serial = 5 }) ∷
      Deallocated (record { side = sides.Plug; instance = 1; serial = 2 }) ∷
      Created (record { side = sides.Plug; instance = 1; serial = 6 }) ∷
      Deallocated (record { side = sides.Plug; instance = 1; serial = 3 }) ∷
      Entered (record { side = sides.Plug; instance = 1; serial = 6 }) (ops.Put (Str (codes "f0"))) ∷
      Entered (record { side = sides.Plug; instance = 1; serial = 6 }) (ops.Get (Str (codes "f0"))) ∷
      Entered (record { side = sides.Plug; instance = 1; serial = 6 }) (ops.Remove (Str (codes "f0"))) ∷
      Deallocated (record { side = sides.Plug; instance = 1; serial = 6 }) ∷
      Deallocated (record { side = sides.Plug; instance = 1; serial = 4 }) ∷
      Deallocated (record { side = sides.Plug; instance = 1; serial = 5 }) ∷
      HandlerRun 2 handlers.New ∷
      Created (record { side = sides.Plug; instance = 2; serial = 1 }) ∷
      HandlerRun 2 handlers.Scriptable ∷
      Deallocated (record { side = sides.Plug; instance = 2; serial = 1 }) ∷
      TaskBegun 2 (codes "v") ∷
      Created (record { side = sides.Plug; instance = 2; serial = 2 }) ∷
      Created (record { side = sides.Plug; instance = 2; serial = 3 }) ∷
      Created (record { side = sides.Plug; instance = 2; serial = 4 }) ∷
      Created (record { side = sides.Plug; instance = 2; serial = 5 }) ∷
      Deallocated (record { side = sides.Plug; instance = 2; serial = 2 }) ∷
      Created (record { side = sides.Plug; instance = 2; serial = 6 }) ∷
      Deallocated (record { side = sides.Plug; instance = 2; serial = 3 }) ∷
      Entered (record { side = sides.Plug; instance = 2; serial = 6 }) (ops.Put (Str (codes "f0"))) ∷
      Entered (record { side = sides.Plug; instance = 2; serial = 6 }) (ops.Get (Str (codes "f0"))) ∷
      Entered (record { side = sides.Plug; instance = 2; serial = 6 }) (ops.Remove (Str (codes "f0"))) ∷
      Deallocated (record { side = sides.Plug; instance = 2; serial = 6 }) ∷
      Deallocated (record { side = sides.Plug; instance = 2; serial = 4 }) ∷
      Deallocated (record { side = sides.Plug; instance = 2; serial = 5 }) ∷
      HandlerRun 1 handlers.Destroy ∷
      Created (record { side = sides.Plug; instance = 1; serial = 7 }) ∷
      Deallocated (record { side = sides.Plug; instance = 1; serial = 7 }) ∷
      Created (record { side = sides.Plug; instance = 1; serial = 8 }) ∷
      Deallocated (record { side = sides.Plug; instance = 1; serial = 8 }) ∷
      ProxyGone (record { side = sides.Page; instance = 1; serial = 1 }) ∷
      HandlerRun 2 handlers.Destroy ∷
      Created (record { side = sides.Plug; instance = 2; serial = 7 }) ∷
      Deallocated (record { side = sides.Plug; instance = 2; serial = 7 }) ∷
      Created (record { side = sides.Plug; instance = 2; serial = 8 }) ∷
      Deallocated (record { side = sides.Plug; instance = 2; serial = 8 }) ∷
      ProxyGone (record { side = sides.Page; instance = 2; serial = 1 }) ∷ []);
  files = [];
  rests = true;
}
unfolding encoding digits is_text is_utf8 chars encode_utf8
both-end = refl

-- the direct run
direct-run : direct_outcome 3000 page plugin ≡ record {
  page = (
      Created (record { side = sides.Page; instance = 1; serial = 1 }) ∷
      CommandResult 1 (results.Code NoError) ∷
      CommandResult 2 results.No ∷
      Created (record { side = sides.Page; instance = 2; serial = 1 }) ∷
      CommandResult 3 (results.Code NoError) ∷
      CommandResult 4 results.No ∷
      Created (record { side = sides.Page; instance = 1; serial = 2 }) ∷
      CommandResult 5 (results.Yes (values.Object (record { side = sides.Page; instance = 1; serial = 2 })) false) ∷
      Created (record { side = sides.Page; instance = 2; serial = 2 }) ∷
      CommandResult 6 (results.Yes (values.Object (record { side = sides.Page; instance = 2; serial = 2 })) false) ∷
      Entered (record { side = sides.Page; instance = 1; serial = 2 }) (ops.Invoke (Str (codes "m0"))) ∷
      Created (record { side = sides.Page; instance = 1; serial = 3 }) ∷
      Created (record { side = sides.Page; instance = 1; serial = 4 }) ∷
      Entered (record { side = sides.Page; instance = 1; serial = 3 }) (ops.Put (Str (codes "f1"))) ∷
      Created (record { side = sides.Page; instance = 1; serial = 5 }) ∷
      Deallocated (record { side = sides.Page; instance = 1; serial = 4 }) ∷
      Entered (record { side = sides.Page; instance = 1; serial = 3 }) (ops.Put (IntKey (pos 7))) ∷
      Created (record { side = sides.Page; instance = 1; serial = 6 }) ∷
      Entered (record { side = sides.Page; instance = 1; serial = 3 }) (ops.Put (Str (codes "f0"))) ∷
      Created (record { side = sides.Page; instance = 1; serial = 7 }) ∷
      Entered (record { side = sides.Page; instance = 1; serial = 6 }) ops.Enumerate ∷
      Entered (record { side = sides.Page; instance = 1; serial = 3 }) (ops.Put (Str (codes "f1"))) ∷
      Deallocated (record { side = sides.Page; instance = 1; serial = 7 }) ∷
      Deallocated (record { side = sides.Page; instance = 1; serial = 6 }) ∷
      CommandResult 7 (results.Yes values.Void false) ∷
      CommandResult 8 results.No ∷
      CommandResult 9 results.No ∷
      CommandResult 10 (results.Yes (values.Double (0 ∷ 1 ∷ 2 ∷ 3 ∷ 4 ∷ 5 ∷ 6 ∷ 7 ∷ [])) false) ∷
      CommandResult 11 (results.Yes values.Void false) ∷
      Created (record { side = sides.Page; instance = 1; serial = 8 }) ∷
      CommandResult 12 (results.Yes (values.Object (record { side = sides.Page; instance = 1; serial = 8 })) false) ∷
      Deallocated (record { side = sides.Page; instance = 1; serial = 8 }) ∷
      CommandResult 13 results.No ∷
      Deallocated (record { side = sides.Page; instance = 1; serial = 2 }) ∷
      CommandResult 14 (results.Yes values.Void false) ∷
      CommandResult 15 results.No ∷
      CommandResult 16 results.No ∷
      Invalidated (record { side = sides.Page; instance = 1; serial = 1 }) ∷
      Invalidated (record { side = sides.Page; instance = 1; serial = 3 }) ∷
      Invalidated (record { side = sides.Page; instance = 1; serial = 5 }) ∷
      Deallocated (record { side = sides.Page; instance = 1; serial = 1 }) ∷
      Deallocated (record { side = sides.Page; instance = 1; serial = 3 }) ∷
      Deallocated (record { side = sides.Page; instance = 1; serial = 5 }) ∷
      Invalidated (record { side = sides.Page; instance = 2; serial = 1 }) ∷
      Invalidated (record { side = sides.Page; instance = 2; serial = 2 }) ∷
      Deallocated (record { side = sides.Page; instance = 2; serial = 1 }) ∷
      Deallocated (record { side = sides.Page; instance = 2; serial = 2 }) ∷ []);
  plugin = (
      HandlerRun 1 handlers.New ∷
      Created (record { side = sides.Plug; instance = 1; serial = 1 }) ∷
      HandlerRun 1 handlers.Scriptable ∷
      Deallocated (record { side = sides.Plug; instance = 1; serial = 1 }) ∷
      TaskBegun 1 (codes "v") ∷
      Created (record { side = sides.Plug; instance = 1; serial = 2 }) ∷
      Created (record { side = sides.Plug; instance = 1; serial = 3 }) ∷
      Created (record { side = sides.Plug; instance = 1; serial = 4 }) ∷
      Created (record { side = sides.Plug; instance = 1; serial = 5 }) ∷
      Deallocated (record { side = sides.Plug; instance = 1; serial = 2 }) ∷
      Created (record { side = sides.Plug; instance = 1; serial = 6 }) ∷
      Deallocated (record { side = sides.Plug; instance = 1; serial = 3 }) ∷
      Entered (record { side = sides.Plug; instance = 1; serial = 6 }) (ops.Put (Str (codes "f0"))) ∷
      Entered (record { side = sides.Plug; instance = 1; serial = 6 }) (ops.Get (Str (codes "f0"))) ∷
      Entered (record { side = sides.Plug; instance = 1; serial = 6 }) (ops.Remove (Str (codes "f0"))) ∷
      Deallocated (record { side = sides.Plug; instance = 1; serial = 6 }) ∷
      Deallocated (record { side = sides.Plug; instance = 1; serial = 4 }) ∷
      Deallocated (record { side = sides.Plug; instance = 1; serial = 5 }) ∷
      HandlerRun 2 handlers.New ∷
      Created (record { side = sides.Plug; instance = 2; serial = 1 }) ∷
      HandlerRun 2 handlers.Scriptable ∷
      Deallocated (record { side = sides.Plug; instance = 2; serial = 1 }) ∷
      TaskBegun 2 (codes "v") ∷
      Created (record { side = sides.Plug; instance = 2; serial = 2 }) ∷
      Created (record { side = sides.Plug; instance = 2; serial = 3 }) ∷
      Created (record { side = sides.Plug; instance = 2; serial = 4 }) ∷
      Created (record { side = sides.Plug; instance = 2; serial = 5 }) ∷
      Deallocated (record { side = sides.Plug; instance = 2; serial = 2 }) ∷
      Created (record { side = sides.Plug; instance = 2; serial = 6 }) ∷
      Deallocated (record { side = sides.Plug; instance = 2; serial = 3 }) ∷
      Entered (record { side = sides.Plug; instance = 2; serial = 6 }) (ops.Put (Str (codes "f0"))) ∷
      Entered (record { side = sides.Plug; instance = 2; serial = 6 }) (ops.Get (Str (codes "f0"))) ∷
      Entered (record { side = sides.Plug; instance = 2; serial = 6 }) (ops.Remove (Str (codes "f0"))) ∷
      Deallocated (record { side = sides.Plug; instance = 2; serial = 6 }) ∷
      Deallocated (record { side = sides.Plug; instance = 2; serial = 4 }) ∷
      Deallocated (record { side = sides.Plug; instance = 2; serial = 5 }) ∷
      HandlerRun 1 handlers.Destroy ∷
      Created (record { side = sides.Plug; instance = 1; serial = 7 }) ∷
      Deallocated (record { side = sides.Plug; instance = 1; serial = 7 }) ∷
      Created (record { side = sides.Plug; instance = 1; serial = 8 }) ∷
      Deallocated (record { side = sides.Plug; instance = 1; serial = 8 }) ∷
      ProxyGone (record { side = sides.Page; instance = 1; serial = 1 }) ∷
      HandlerRun 2 handlers.Destroy ∷
      Created (record { side = sides.Plug; instance = 2; serial = 7 }) ∷
      Deallocated (record { side = sides.Plug; instance = 2; serial = 7 }) ∷
      Created (record { side = sides.Plug; instance = 2; serial = 8 }) ∷
      Deallocated (record { side = sides.Plug; instance = 2; serial = 8 }) ∷
      ProxyGone (record { side = sides.Page; instance = 2; serial = 1 }) ∷ []);
  files = [];
  rests = true;
}
unfolding encoding digits is_text is_utf8 chars encode_utf8
direct-run = refl

-- each message is delivered at once, and none is refused
orderly-in-rounds : orderly_along (sides.Page ∷ sides.Plug ∷ []) 700 page plugin ≡ true
unfolding encoding digits is_text is_utf8 chars encode_utf8
orderly-in-rounds = refl

-- each message is delivered at once, and none is refused
orderly-page-ahead : orderly_along (sides.Page ∷ sides.Page ∷ sides.Page ∷ sides.Page ∷ sides.Page ∷ sides.Page ∷ sides.Plug ∷ []) 200 page plugin ≡ true
unfolding encoding digits is_text is_utf8 chars encode_utf8
orderly-page-ahead = refl

-- each message is delivered at once, and none is refused
orderly-plugin-ahead : orderly_along (sides.Page ∷ sides.Plug ∷ sides.Plug ∷ sides.Plug ∷ sides.Plug ∷ sides.Plug ∷ sides.Plug ∷ []) 200 page plugin ≡ true
unfolding encoding digits is_text is_utf8 chars encode_utf8
orderly-plugin-ahead = refl

-- all bytes that the page sends
page-sends : page_bytes 1500 page plugin ≡ (0 ∷ 0 ∷ 0 ∷ 7 ∷ 1 ∷ 1 ∷ 0 ∷ 0 ∷ 1 ∷ 0 ∷ 27 ∷ 0 ∷ 0 ∷ 0 ∷ 12 ∷ 2 ∷ 1 ∷ 0 ∷ 0 ∷ 1 ∷ 1 ∷ 0 ∷ 3 ∷ 116 ∷ 47 ∷ 120 ∷ 0 ∷ 0 ∷ 0 ∷ 0 ∷ 11 ∷ 65 ∷ 2 ∷ 0 ∷ 0 ∷ 6 ∷ 0 ∷ 1 ∷ 0 ∷ 0 ∷ 0 ∷ 1 ∷ 0 ∷ 0 ∷ 0 ∷ 5 ∷ 4 ∷ 1 ∷ 0 ∷ 0 ∷ 1 ∷ 0 ∷ 0 ∷ 0 ∷ 5 ∷ 69 ∷ 2 ∷ 0 ∷ 0 ∷ 9 ∷ 0 ∷ 0 ∷ 0 ∷ 12 ∷ 2 ∷ 1 ∷ 0 ∷ 0 ∷ 2 ∷ 2 ∷ 0 ∷ 3 ∷ 116 ∷ 47 ∷ 120 ∷ 0 ∷ 0 ∷ 0 ∷ 0 ∷ 11 ∷ 65 ∷ 2 ∷ 0 ∷ 0 ∷ 6 ∷ 0 ∷ 2 ∷ 0 ∷ 0 ∷ 0 ∷ 1 ∷ 0 ∷ 0 ∷ 0 ∷ 5 ∷ 4 ∷ 1 ∷ 0 ∷ 0 ∷ 2 ∷ 0 ∷ 0 ∷ 0 ∷ 5 ∷ 69 ∷ 2 ∷ 0 ∷ 0 ∷ 9 ∷ 0 ∷ 0 ∷ 0 ∷ 4 ∷ 5 ∷ 1 ∷ 0 ∷ 0 ∷ 0 ∷ 0 ∷ 0 ∷ 5 ∷ 3 ∷ 1 ∷ 0 ∷ 0 ∷ 1 ∷ 0 ∷ 0 ∷ 0 ∷ 5 ∷ 3 ∷ 1 ∷ 0 ∷ 0 ∷ 2 ∷ 0 ∷ 0 ∷ 0 ∷ 4 ∷ 12 ∷ 1 ∷ 0 ∷ 0 ∷ [])
unfolding encoding digits is_text is_utf8 chars encode_utf8
page-sends = refl

-- all bytes that the plugin sends
plugin-sends : plugin_bytes 1500 page plugin ≡ (0 ∷ 0 ∷ 0 ∷ 5 ∷ 69 ∷ 1 ∷ 0 ∷ 0 ∷ 0 ∷ 0 ∷ 0 ∷ 0 ∷ 5 ∷ 32 ∷ 2 ∷ 0 ∷ 0 ∷ 1 ∷ 0 ∷ 0 ∷ 0 ∷ 5 ∷ 69 ∷ 1 ∷ 0 ∷ 0 ∷ 0 ∷ 0 ∷ 0 ∷ 0 ∷ 10 ∷ 35 ∷ 2 ∷ 0 ∷ 0 ∷ 1 ∷ 0 ∷ 0 ∷ 0 ∷ 2 ∷ 2 ∷ 0 ∷ 0 ∷ 0 ∷ 4 ∷ 66 ∷ 1 ∷ 0 ∷ 0 ∷ 0 ∷ 0 ∷ 0 ∷ 5 ∷ 32 ∷ 2 ∷ 0 ∷ 0 ∷ 2 ∷ 0 ∷ 0 ∷ 0 ∷ 5 ∷ 69 ∷ 1 ∷ 0 ∷ 0 ∷ 0 ∷ 0 ∷ 0 ∷ 0 ∷ 10 ∷ 35 ∷ 2 ∷ 0 ∷ 0 ∷ 2 ∷ 0 ∷ 0 ∷ 0 ∷ 2 ∷ 2 ∷ 0 ∷ 0 ∷ 0 ∷ 4 ∷ 66 ∷ 1 ∷ 0 ∷ 0 ∷ 0 ∷ 0 ∷ 0 ∷ 4 ∷ 71 ∷ 1 ∷ 0 ∷ 0 ∷ 0 ∷ 0 ∷ 0 ∷ 5 ∷ 69 ∷ 1 ∷ 0 ∷ 0 ∷ 0 ∷ 0 ∷ 0 ∷ 0 ∷ 5 ∷ 69 ∷ 1 ∷ 0 ∷ 0 ∷ 0 ∷ 0 ∷ 0 ∷ 0 ∷ 4 ∷ 71 ∷ 1 ∷ 0 ∷ 0 ∷ [])
unfolding encoding digits is_text is_utf8 chars encode_utf8
plugin-sends = refl
