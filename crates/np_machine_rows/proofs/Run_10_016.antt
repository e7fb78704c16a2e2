-- Made by tools/vector-theorems of tests/vectors/10-016.
use Rattle.std.proofs.Common.{◌≡◌, pos, negsuc, [], ◌∷◌, refl, true, false, Some, None}
use Rattle.std.specs.Prelude.{codes}
use Rattle.std.specs.Char.{encode_utf8}
use Rattle.std.specs.Fmt.{digits}
use Rattle.std.specs.Str.{is_utf8, chars}
use Rattle.np_values.specs.declared.error.NpError.TheVariants.{NoError, ModuleLoadFailed}
use Rattle.np_values.specs.declared.handler.Handler.TheVariants as handlers
use Rattle.np_values.specs.declared.name.Side.TheVariants as sides
use Rattle.np_values.specs.declared.value.Value.TheVariants as values
use Rattle.np_values.specs.Text.{is_text}
use Rattle.np_idents.specs.declared.key.IdKey.TheVariants.{Str, Int as IntKey}
use Rattle.np_idents.specs.declared.op.Op.TheVariants as ops
use Rattle.np_script_grammar.specs.declared.action.Action.TheVariants as actions
use Rattle.np_script_grammar.specs.declared.action.Operand.TheVariants.{Reg, Const}
use Rattle.np_script_grammar.specs.declared.class.Member.TheVariants as members
use Rattle.np_script_grammar.specs.declared.command.Command.TheVariants as commands
use Rattle.np_script_grammar.specs.declared.page.Page.{Page}
use Rattle.np_script_grammar.specs.declared.plugin.Plugin.{Plugin}
use Rattle.np_message.specs.Encoding.{encoding}
use Rattle.np_journal.specs.declared.line.Line.TheVariants.{Created, Entered, HandlerRun, ProxyGone, Invalidated, Deallocated, Noted, CommandResult}
use Rattle.np_journal.specs.declared.printed.Printed.TheVariants as results
use Rattle.np_machine_plans.specs.AtOnce.{orderly_along}
use Rattle.np_machine_plans.specs.Outcomes.{resource, outcome, direct_outcome, page_bytes, plugin_bytes, lost_outcome}

abbrev page : Page
page = record {
  major = 0;
  minor = 27;
  classes = (
      (record {
        name = codes "Window";
        version = 3;
        stored = true;
        members = (
            members.Method (Str (codes "m3")) (actions.Load 2 0 ∷ actions.Invoke 1 (Const (values.Int (pos 13))) (Str (codes "take")) (Reg 3 ∷ Reg 0 ∷ Reg 0 ∷ []) ∷ []) ∷
            members.Method (Str (codes "take")) (actions.SelfTo 2 ∷ actions.Invoke 1 (Reg 3) (Str (codes "none")) (Reg 2 ∷ Reg 0 ∷ []) ∷ actions.New 2 (codes "B") ∷ actions.Slot 2 (Reg 2) ∷ []) ∷
            members.Method (Str (codes "m1")) (actions.Load 2 0 ∷ actions.Load 3 2 ∷ actions.New 1 (codes "Window") ∷ []) ∷
            members.Method (Str (codes "m2")) (actions.SelfTo 2 ∷ actions.New 2 (codes "B") ∷ actions.New 1 (codes "A") ∷ actions.Load 2 0 ∷ actions.Put (Reg 3) (Str (codes "7")) (Reg 2) ∷ actions.Load 0 3 ∷ []) ∷
            members.Method (Str (codes "m0")) (actions.Load 2 0 ∷ actions.Put (Reg 1) (Str (codes "f0")) (Reg 2) ∷ actions.Load 1 3 ∷ actions.Load 3 2 ∷ actions.New 2 (codes "A") ∷ actions.Construct 1 (Reg 2) (Reg 1 ∷ Reg 2 ∷ Const (values.Int (pos 13)) ∷ []) ∷ actions.Load 2 1 ∷ actions.Load 3 0 ∷ []) ∷
            members.Construct (actions.Load 2 0 ∷ actions.SelfTo 2 ∷ actions.Load 3 2 ∷ actions.Get 0 (Reg 2) (Str (codes "f0")) ∷ actions.Enumerate 1 (Reg 3) ∷ actions.Load 3 1 ∷ actions.Get 0 (Reg 3) (Str (codes "f0")) ∷ actions.Put (Reg 3) (Str (codes "f0")) (Reg 3) ∷ []) ∷
            members.Method (IntKey (pos 4)) (actions.Load 2 0 ∷ actions.New 3 (codes "B") ∷ actions.Invoke 2 (Reg 2) (Str (codes "take")) (Reg 2 ∷ Reg 3 ∷ Reg 0 ∷ []) ∷ []) ∷ []);
      }) ∷
      (record {
        name = codes "A";
        version = 3;
        stored = true;
        members = (
            members.Method (IntKey (pos 4)) (actions.Load 3 1 ∷ actions.Load 2 0 ∷ actions.Invoke 2 (Reg 0) (Str (codes "take")) (Reg 0 ∷ Const (values.Int (pos 13)) ∷ Reg 3 ∷ []) ∷ actions.New 1 (codes "None") ∷ actions.OnEq (Reg 2) (Reg 0) 1 ∷ actions.OnTrue 1 ∷ actions.Get 3 (Reg 3) (Str (codes "f0")) ∷ actions.Put (Reg 0) (Str (codes "f1")) (Reg 9) ∷ actions.Drop 2 ∷ []) ∷
            members.Method (Str (codes "m3")) (actions.Load 2 0 ∷ actions.Load 2 2 ∷ actions.Slot 3 (Reg 1) ∷ []) ∷
            members.Method (Str (codes "take")) (actions.Load 2 0 ∷ actions.New 3 (codes "A") ∷ []) ∷
            members.Method (Str (codes "m2")) (actions.Load 3 1 ∷ actions.New 3 (codes "Window") ∷ actions.SelfTo 1 ∷ actions.SelfTo 0 ∷ []) ∷
            members.Method (Str (codes "m1")) (actions.SelfTo 2 ∷ actions.Slot 2 (Reg 2) ∷ actions.New 0 (codes "B") ∷ actions.Put (Reg 0) (Str (codes "f0")) (Reg 2) ∷ actions.Return (Reg 0) ∷ actions.Invoke 3 (Reg 2) (Str (codes "m3")) (Const (values.Bool false) ∷ []) ∷ []) ∷
            members.Default (actions.Load 0 2 ∷ actions.SelfTo 2 ∷ actions.Set 2 (Reg 3) ∷ actions.SelfTo 0 ∷ []) ∷ []);
      }) ∷
      (record {
        name = codes "B";
        version = 1;
        stored = true;
        members = (
            members.Method (Str (codes "m2")) (actions.Load 2 0 ∷ actions.Load 3 2 ∷ actions.Load 0 1 ∷ actions.Invoke 0 (Reg 1) (Str (codes "take")) (Reg 1 ∷ Const values.Null ∷ Reg 2 ∷ []) ∷ actions.Enumerate 1 (Reg 0) ∷ actions.Drop 2 ∷ []) ∷
            members.Default (actions.Load 3 1 ∷ actions.SelfTo 2 ∷ actions.New 1 (codes "B") ∷ actions.Put (Reg 1) (Str (codes "f0")) (Reg 3) ∷ actions.Slot 2 (Reg 1) ∷ actions.Drop 1 ∷ actions.Get 3 (Reg 1) (Str (codes "f0")) ∷ actions.Put (Reg 3) (Str (codes "f1")) (Reg 0) ∷ actions.Load 0 3 ∷ []) ∷
            members.Method (Str (codes "m1")) (actions.New 5 (codes "Window") ∷ actions.New 4 (codes "Window") ∷ actions.New 5 (codes "Window") ∷ actions.Put (Reg 4) (Str (codes "f1")) (Reg 5) ∷ actions.New 5 (codes "A") ∷ actions.New 3 (codes "B") ∷ actions.Put (Reg 4) (Str (codes "f0")) (Reg 5) ∷ actions.New 5 (codes "A") ∷ actions.Put (Reg 4) (IntKey (pos 7)) (Reg 5) ∷ actions.Drop 5 ∷ actions.Slot 2 (Reg 4) ∷ actions.Drop 4 ∷ []) ∷
            members.Method (IntKey (pos 4)) (actions.SelfTo 2 ∷ actions.Load 0 2 ∷ actions.Load 0 1 ∷ actions.Enumerate 3 (Reg 0) ∷ actions.Slot 2 (Reg 1) ∷ actions.Load 1 2 ∷ actions.Construct 0 (Reg 3) (Reg 2 ∷ Reg 3 ∷ Reg 3 ∷ []) ∷ actions.OnTrue 3 ∷ []) ∷
            members.Method (Str (codes "m3")) (actions.SelfTo 2 ∷ actions.Load 2 0 ∷ actions.New 4 (codes "B") ∷ actions.Put (Reg 4) (Str (codes "f0")) (Reg 3) ∷ actions.Return (Reg 4) ∷ []) ∷
            members.Method (Str (codes "take")) (actions.Load 3 1 ∷ actions.Load 2 0 ∷ actions.New 3 (codes "A") ∷ actions.New 4 (codes "B") ∷ actions.New 3 (codes "A") ∷ actions.New 5 (codes "Window") ∷ actions.Set 1 (Reg 6) ∷ []) ∷
            members.Method (Str (codes "m0")) (actions.Load 2 0 ∷ actions.Load 3 1 ∷ actions.Slot 0 (Reg 1) ∷ actions.Drop 2 ∷ actions.Construct 1 (Reg 1) (Reg 0 ∷ Reg 3 ∷ []) ∷ actions.Put (Reg 0) (Str (codes "f0")) (Const values.Void) ∷ actions.Load 0 2 ∷ actions.Get 3 (Reg 0) (Str (codes "f0")) ∷ actions.Put (Reg 0) (Str (codes "f0")) (Reg 2) ∷ []) ∷ []);
      }) ∷ []);
  resources = (
      resource (codes "r") (codes "t/p") 2000 (195 ∷ 164 ∷ []) ∷
      resource (codes "s") (codes "t/p") 1 (195 ∷ 164 ∷ []) ∷
      resource (codes "e") (codes "t/p") 0 (195 ∷ 164 ∷ []) ∷ []);
  commands = (
      commands.Create (codes "t/x") 1 [] ∷
      commands.Scriptable 0 1 ∷
      commands.Create (codes "t/x") 1 (codes "a" ∷ codes "1" ∷ []) ∷
      commands.Scriptable 1 2 ∷
      commands.New 2 1 (codes "B") ∷
      commands.New 3 2 (codes "Window") ∷
      commands.Invoke 5 (Reg 0) (Str (codes "m0")) (Reg 2 ∷ Reg 3 ∷ Reg 0 ∷ []) ∷
      commands.Invoke 5 (Reg 3) (Str (codes "m0")) (Reg 0 ∷ Reg 3 ∷ Reg 2 ∷ []) ∷
      commands.Invoke 5 (Reg 1) (Str (codes "m1")) (Reg 3 ∷ Reg 2 ∷ []) ∷
      commands.Turn ∷
      commands.Invoke 4 (Reg 2) (Str (codes "m1")) [] ∷
      commands.Construct 0 (Reg 3) (Reg 1 ∷ Reg 1 ∷ Reg 0 ∷ []) ∷
      commands.CallDefault 3 (Reg 2) (Reg 3 ∷ Reg 1 ∷ Reg 0 ∷ Reg 3 ∷ Reg 1 ∷ Reg 2 ∷ Reg 1 ∷ Reg 3 ∷ []) ∷
      commands.Pump 8 ∷
      commands.Invoke 1 (Reg 0) (Str (codes "take")) (Reg 1 ∷ Reg 0 ∷ Reg 0 ∷ []) ∷
      commands.Pump 2 ∷
      commands.Invoke 5 (Reg 2) (Str (codes "m2")) (Reg 3 ∷ []) ∷
      commands.Scriptable 3 2 ∷
      commands.Invoke 4 (Reg 0) (Str (codes "m0")) (Reg 3 ∷ Reg 1 ∷ Reg 0 ∷ []) ∷
      commands.Invoke 4 (Reg 1) (Str (codes "m2")) (Reg 5 ∷ Reg 0 ∷ Reg 3 ∷ []) ∷
      commands.Drop 4 ∷
      commands.Create (codes "t/y") 2 [] ∷
      commands.Scriptable 3 3 ∷ []);
}

abbrev plugin : Plugin
plugin = record {
  major = 0;
  minor = 27;
  classes = (
      (record {
        name = codes "Main";
        version = 3;
        stored = false;
        members = (
            members.Getter (Str (codes "f1")) (actions.Load 2 0 ∷ actions.Load 3 1 ∷ actions.New 2 (codes "Main") ∷ actions.New 4 (codes "T") ∷ actions.Get 0 (Reg 1) (Str (codes "f1")) ∷ actions.New 3 (codes "U") ∷ actions.Slot 0 (Reg 1) ∷ actions.Window 1 ∷ actions.Load 0 2 ∷ []) ∷
            members.Method (Str (codes "m1")) (actions.SelfTo 2 ∷ actions.Load 3 1 ∷ actions.Load 0 1 ∷ []) ∷
            members.Method (Str (codes "take")) (actions.Load 3 3 ∷ actions.Load 3 2 ∷ actions.Later (codes "u") ∷ actions.Later (codes "v") ∷ actions.Invoke 2 (Reg 1) (Str (codes "none")) (Reg 3 ∷ Reg 3 ∷ []) ∷ []) ∷
            members.Method (Str (codes "m3")) (actions.Later (codes "t") ∷ actions.New 3 (codes "U") ∷ actions.Put (Reg 3) (Str (codes "f0")) (Reg 0) ∷ actions.Put (Reg 3) (Str (codes "f1")) (Reg 3) ∷ actions.Slot 3 (Reg 3) ∷ actions.Enumerate 0 (Reg 3) ∷ []) ∷
            members.Method (IntKey (pos 4)) (actions.Load 2 0 ∷ actions.Invoke 2 (Reg 3) (Str (codes "take")) (Reg 2 ∷ Const (values.Text []) ∷ []) ∷ []) ∷
            members.Method (Str (codes "m0")) (actions.Load 3 2 ∷ actions.HasProperty (Reg 3) (IntKey (pos 7)) ∷ actions.Enumerate 0 (Reg 3) ∷ actions.New 3 (codes "Main") ∷ actions.Note (Reg 1) ∷ actions.New 4 (codes "Main") ∷ actions.Put (Reg 4) (Str (codes "7")) (Reg 0) ∷ actions.Put (Reg 4) (Str (codes "f1")) (Reg 4) ∷ actions.Slot 3 (Reg 4) ∷ actions.Enumerate 0 (Reg 4) ∷ []) ∷
            members.Default (actions.HasProperty (Reg 3) (Str (codes "f0")) ∷ actions.Put (Reg 0) (Str (codes "f0")) (Const values.Void) ∷ actions.Set 5 (Reg 0) ∷ actions.Invoke 5 (Reg 1) (IntKey (pos 4)) (Reg 0 ∷ Const (values.Text (codes "e")) ∷ []) ∷ actions.Invoke 1 (Reg 2) (IntKey (pos 4)) (Reg 1 ∷ Reg 0 ∷ Reg 0 ∷ []) ∷ actions.Window 4 ∷ []) ∷ []);
      }) ∷
      (record {
        name = codes "T";
        version = 3;
        stored = false;
        members = (
            members.Method (Str (codes "m3")) (actions.SelfTo 2 ∷ actions.Load 2 0 ∷ actions.Later (codes "u") ∷ actions.Window 3 ∷ actions.Invoke 0 (Reg 2) (Str (codes "take")) (Reg 3 ∷ Reg 3 ∷ Const (values.Int (pos 14)) ∷ []) ∷ []) ∷
            members.Construct (actions.New 4 (codes "U") ∷ actions.New 2 (codes "Main") ∷ []) ∷
            members.Method (Str (codes "m0")) (actions.Load 3 1 ∷ actions.SelfTo 2 ∷ actions.Invoke 0 (Reg 12) (Str (codes "m2")) (Reg 3 ∷ Const (values.Text (codes "r")) ∷ Reg 0 ∷ []) ∷ actions.Load 11 0 ∷ actions.Load 3 3 ∷ []) ∷
            members.Method (Str (codes "m2")) (actions.Load 3 1 ∷ actions.Load 4 2 ∷ actions.New 1 (codes "Main") ∷ actions.Invoke 5 (Reg 0) (Str (codes "take")) (Reg 5 ∷ Reg 0 ∷ []) ∷ actions.New 4 (codes "U") ∷ actions.New 5 (codes "T") ∷ actions.Put (Reg 4) (Str (codes "f0")) (Reg 5) ∷ actions.Put (Reg 4) (Str (codes "f1")) (Reg 5) ∷ actions.Put (Reg 4) (IntKey (pos 7)) (Reg 5) ∷ actions.Drop 5 ∷ []) ∷
            members.Method (Str (codes "m1")) (actions.New 3 (codes "T") ∷ actions.New 5 (codes "Main") ∷ actions.New 1 (codes "Main") ∷ actions.Invoke 2 (Reg 3) (Str (codes "m2")) (Reg 2 ∷ []) ∷ actions.Set 2 (Reg 3) ∷ actions.OnTrue 1 ∷ []) ∷
            members.Setter (Str (codes "7")) [] ∷ []);
      }) ∷
      (record {
        name = codes "U";
        version = 3;
        stored = true;
        members = (
            members.Method (Str (codes "take")) (actions.SelfTo 2 ∷ actions.Later (codes "u") ∷ actions.Later (codes "u") ∷ actions.Add 3 (Reg 3) (Reg 3) ∷ actions.Load 3 1 ∷ []) ∷
            members.Method (IntKey (pos 4)) [] ∷
            members.Method (Str (codes "m0")) (actions.Load 2 0 ∷ actions.SelfTo 2 ∷ actions.Return (Reg 1) ∷ actions.Window 3 ∷ actions.Load 0 0 ∷ actions.New 2 (codes "T") ∷ actions.Put (Reg 2) (Str (codes "f0")) (Reg 1) ∷ actions.Slot 1 (Reg 2) ∷ actions.Drop 2 ∷ []) ∷
            members.Getter (Str (codes "f0")) (actions.Load 4 3 ∷ actions.Get 0 (Reg 4) (Str (codes "f1")) ∷ actions.Put (Reg 4) (Str (codes "f1")) (Reg 0) ∷ actions.Invoke 3 (Reg 0) (IntKey (pos 4)) (Reg 2 ∷ Reg 9 ∷ Reg 0 ∷ []) ∷ actions.Slot 0 (Reg 8) ∷ actions.New 4 (codes "T") ∷ actions.Return (Reg 0) ∷ []) ∷
            members.Default (actions.SelfTo 2 ∷ actions.Load 1 2 ∷ actions.New 4 (codes "U") ∷ actions.New 5 (codes "Main") ∷ actions.Put (Reg 4) (IntKey (pos 7)) (Reg 5) ∷ actions.New 5 (codes "U") ∷ actions.Put (Reg 4) (Str (codes "f1")) (Reg 5) ∷ actions.Slot 2 (Reg 4) ∷ actions.Drop 4 ∷ []) ∷
            members.Construct (actions.Load 2 0 ∷ actions.Load 1 2 ∷ actions.GetUrl 3 (Const (values.Text (codes "e"))) (pos 1) ∷ actions.New 5 (codes "T") ∷ actions.New 2 (codes "U") ∷ actions.Invoke 3 (Reg 1) (Str (codes "take")) (Reg 0 ∷ Const values.Null ∷ Reg 3 ∷ []) ∷ actions.Later (codes "v") ∷ actions.Slot 2 (Reg 2) ∷ []) ∷
            members.Method (Str (codes "m3")) (actions.Load 3 2 ∷ actions.New 1 (codes "Main") ∷ actions.Load 2 0 ∷ actions.Invoke 2 (Reg 3) (IntKey (pos 4)) (Const (values.Text (codes "r")) ∷ Reg 1 ∷ Const (values.Bool true) ∷ []) ∷ actions.Drop 1 ∷ []) ∷
            members.Method (Str (codes "m1")) (actions.Load 3 1 ∷ actions.Invoke 3 (Reg 2) (Str (codes "take")) (Reg 3 ∷ Const values.Null ∷ []) ∷ actions.Load 3 2 ∷ actions.Note (Reg 3) ∷ actions.Note (Reg 0) ∷ actions.Invoke 3 (Reg 0) (Str (codes "m2")) (Const (values.Int (negsuc 2147483647)) ∷ Reg 1 ∷ Reg 3 ∷ []) ∷ []) ∷
            members.Method (Str (codes "m2")) (actions.Load 2 0 ∷ actions.SelfTo 2 ∷ actions.New 2 (codes "T") ∷ actions.New 5 (codes "T") ∷ actions.New 1 (codes "Main") ∷ actions.Invoke 2 (Reg 2) (Str (codes "take")) (Reg 0 ∷ []) ∷ actions.Note (Reg 2) ∷ actions.Later (codes "v") ∷ []) ∷ []);
      }) ∷ []);
  handlers = (
      (record { which = handlers.New; body = (actions.New 0 (codes "Main") ∷ actions.Slot 0 (Reg 0) ∷ actions.Window 1 ∷ actions.Slot 1 (Reg 1) ∷ []) }) ∷
      (record { which = handlers.Scriptable; body = (actions.Load 0 0 ∷ actions.Return (Reg 0) ∷ []) }) ∷
      (record { which = handlers.Destroy; body = (actions.Load 3 2 ∷ actions.SelfTo 2 ∷ actions.New 1 (codes "U") ∷ actions.OnTrue 2 ∷ actions.New 4 (codes "T") ∷ actions.New 5 (codes "T") ∷ actions.Put (Reg 4) (IntKey (pos 7)) (Reg 5) ∷ actions.New 5 (codes "Main") ∷ actions.Put (Reg 4) (Str (codes "f1")) (Reg 5) ∷ actions.New 5 (codes "U") ∷ actions.Put (Reg 4) (Str (codes "f0")) (Reg 5) ∷ actions.Return (Reg 5) ∷ []) }) ∷
      (record { which = handlers.AsFile; body = (actions.Load 1 0 ∷ actions.New 2 (codes "Main") ∷ []) }) ∷
      (record { which = handlers.DestroyStream; body = (actions.Slot 1 (Reg 3) ∷ actions.Invoke 1 (Reg 2) (Str (codes "take")) [] ∷ actions.Set 1 (Reg 2) ∷ []) }) ∷
      (record { which = handlers.UrlNotify; body = (actions.Load 2 0 ∷ actions.Load 1 2 ∷ actions.New 3 (codes "T") ∷ actions.New 4 (codes "T") ∷ actions.New 1 (codes "T") ∷ []) }) ∷ []);
  tasks = (
      (record { name = codes "t"; body = (actions.Load 1 1 ∷ actions.Load 0 3 ∷ actions.Invoke 1 (Reg 1) (Str (codes "m1")) (Reg 1 ∷ []) ∷ actions.SelfTo 2 ∷ actions.Set 1 (Reg 2) ∷ actions.Load 2 1 ∷ actions.Slot 1 (Const (values.Int (pos 0))) ∷ []) }) ∷
      (record { name = codes "u"; body = (actions.Load 1 1 ∷ actions.Load 0 3 ∷ actions.Invoke 1 (Reg 1) (Str (codes "m0")) (Reg 3 ∷ Reg 2 ∷ []) ∷ actions.New 4 (codes "Main") ∷ actions.New 5 (codes "T") ∷ actions.Put (Reg 4) (Str (codes "f0")) (Reg 5) ∷ actions.Drop 5 ∷ actions.Return (Reg 5) ∷ actions.Return (Reg 2) ∷ []) }) ∷ []);
}

-- the run of both
both-end : outcome 1500 page plugin ≡ record {
  page = (
      Created (record { side = sides.Page; instance = 1; serial = 1 }) ∷
      CommandResult 1 (results.Code NoError) ∷
      CommandResult 2 (results.Yes (values.Object (record { side = sides.Plug; instance = 1; serial = 1 })) false) ∷
      Created (record { side = sides.Page; instance = 2; serial = 1 }) ∷
      CommandResult 3 (results.Code NoError) ∷
      CommandResult 4 (results.Yes (values.Object (record { side = sides.Plug; instance = 2; serial = 1 })) false) ∷
      Created (record { side = sides.Page; instance = 1; serial = 2 }) ∷
      CommandResult 5 (results.Yes (values.Object (record { side = sides.Page; instance = 1; serial = 2 })) false) ∷
      Created (record { side = sides.Page; instance = 2; serial = 2 }) ∷
      CommandResult 6 (results.Yes (values.Object (record { side = sides.Page; instance = 2; serial = 2 })) false) ∷
      CommandResult 7 (results.Yes values.Void false) ∷
      Entered (record { side = sides.Page; instance = 2; serial = 2 }) (ops.Invoke (Str (codes "m0"))) ∷
      Entered (record { side = sides.Page; instance = 2; serial = 2 }) (ops.Put (Str (codes "f0"))) ∷
      Created (record { side = sides.Page; instance = 2; serial = 3 }) ∷
      Deallocated (record { side = sides.Page; instance = 2; serial = 3 }) ∷
      CommandResult 8 (results.Yes values.Void false) ∷
      CommandResult 9 (results.Yes values.Void false) ∷
      CommandResult 10 (results.Yes values.Void false) ∷
      Entered (record { side = sides.Page; instance = 1; serial = 2 }) (ops.Invoke (Str (codes "m1"))) ∷
      Created (record { side = sides.Page; instance = 1; serial = 3 }) ∷
      Created (record { side = sides.Page; instance = 1; serial = 4 }) ∷
      Created (record { side = sides.Page; instance = 1; serial = 5 }) ∷
      Deallocated (record { side = sides.Page; instance = 1; serial = 3 }) ∷
      Entered (record { side = sides.Page; instance = 1; serial = 4 }) (ops.Put (Str (codes "f1"))) ∷
      Created (record { side = sides.Page; instance = 1; serial = 6 }) ∷
      Created (record { side = sides.Page; instance = 1; serial = 7 }) ∷
      Entered (record { side = sides.Page; instance = 1; serial = 4 }) (ops.Put (Str (codes "f0"))) ∷
      Created (record { side = sides.Page; instance = 1; serial = 8 }) ∷
      Entered (record { side = sides.Page; instance = 1; serial = 4 }) (ops.Put (IntKey (pos 7))) ∷
      Deallocated (record { side = sides.Page; instance = 1; serial = 7 }) ∷
      CommandResult 11 (results.Yes values.Void false) ∷
      Entered (record { side = sides.Page; instance = 2; serial = 2 }) ops.Construct ∷
      Entered (record { side = sides.Page; instance = 2; serial = 2 }) (ops.Get (Str (codes "f0"))) ∷
      CommandResult 12 (results.Yes values.Void false) ∷
      Entered (record { side = sides.Page; instance = 1; serial = 2 }) ops.Default ∷
      Created (record { side = sides.Page; instance = 1; serial = 9 }) ∷
      Entered (record { side = sides.Page; instance = 1; serial = 9 }) (ops.Put (Str (codes "f0"))) ∷
      Deallocated (record { side = sides.Page; instance = 1; serial = 4 }) ∷
      Deallocated (record { side = sides.Page; instance = 1; serial = 5 }) ∷
      Deallocated (record { side = sides.Page; instance = 1; serial = 6 }) ∷
      Deallocated (record { side = sides.Page; instance = 1; serial = 8 }) ∷
      Deallocated (record { side = sides.Page; instance = 2; serial = 2 }) ∷
      CommandResult 13 (results.Yes values.Void false) ∷
      CommandResult 14 (results.Pumped 0) ∷
      CommandResult 15 results.No ∷
      CommandResult 16 (results.Pumped 0) ∷
      Entered (record { side = sides.Page; instance = 1; serial = 2 }) (ops.Invoke (Str (codes "m2"))) ∷
      CommandResult 17 (results.Yes values.Void false) ∷
      CommandResult 18 (results.Yes (values.Object (record { side = sides.Plug; instance = 2; serial = 1 })) false) ∷
      CommandResult 19 results.No ∷
      CommandResult 20 results.No ∷
      CommandResult 21 (results.Yes values.Void false) ∷
      Created (record { side = sides.Page; instance = 3; serial = 1 }) ∷
      CommandResult 22 (results.Code NoError) ∷
      CommandResult 23 (results.Yes (values.Object (record { side = sides.Plug; instance = 3; serial = 1 })) false) ∷
      Invalidated (record { side = sides.Page; instance = 1; serial = 1 }) ∷
      Invalidated (record { side = sides.Page; instance = 1; serial = 2 }) ∷
      Invalidated (record { side = sides.Page; instance = 1; serial = 9 }) ∷
      Deallocated (record { side = sides.Page; instance = 1; serial = 1 }) ∷
      Deallocated (record { side = sides.Page; instance = 1; serial = 2 }) ∷
      Deallocated (record { side = sides.Page; instance = 1; serial = 9 }) ∷
      Invalidated (record { side = sides.Page; instance = 2; serial = 1 }) ∷
      Deallocated (record { side = sides.Page; instance = 2; serial = 1 }) ∷
      ProxyGone (record { side = sides.Plug; instance = 3; serial = 1 }) ∷
      Invalidated (record { side = sides.Page; instance = 3; serial = 1 }) ∷
      Deallocated (record { side = sides.Page; instance = 3; serial = 1 }) ∷ []);
  plugin = (
      HandlerRun 1 handlers.New ∷
      Created (record { side = sides.Plug; instance = 1; serial = 1 }) ∷
      HandlerRun 1 handlers.Scriptable ∷
      HandlerRun 2 handlers.New ∷
      Created (record { side = sides.Plug; instance = 2; serial = 1 }) ∷
      HandlerRun 2 handlers.Scriptable ∷
      Entered (record { side = sides.Plug; instance = 1; serial = 1 }) (ops.Invoke (Str (codes "m0"))) ∷
      Created (record { side = sides.Plug; instance = 1; serial = 2 }) ∷
      Noted (values.Object (record { side = sides.Page; instance = 2; serial = 2 })) false ∷
      Created (record { side = sides.Plug; instance = 1; serial = 3 }) ∷
      Entered (record { side = sides.Plug; instance = 1; serial = 3 }) ops.Enumerate ∷
      Deallocated (record { side = sides.Plug; instance = 1; serial = 2 }) ∷
      Entered (record { side = sides.Plug; instance = 2; serial = 1 }) (ops.Invoke (Str (codes "m1"))) ∷
      HandlerRun 2 handlers.Scriptable ∷
      HandlerRun 3 handlers.New ∷
      Created (record { side = sides.Plug; instance = 3; serial = 1 }) ∷
      HandlerRun 3 handlers.Scriptable ∷
      HandlerRun 1 handlers.Destroy ∷
      Created (record { side = sides.Plug; instance = 1; serial = 4 }) ∷
      Created (record { side = sides.Plug; instance = 1; serial = 5 }) ∷
      Created (record { side = sides.Plug; instance = 1; serial = 6 }) ∷
      Created (record { side = sides.Plug; instance = 1; serial = 7 }) ∷
      Deallocated (record { side = sides.Plug; instance = 1; serial = 6 }) ∷
      Created (record { side = sides.Plug; instance = 1; serial = 8 }) ∷
      Deallocated (record { side = sides.Plug; instance = 1; serial = 7 }) ∷
      Deallocated (record { side = sides.Plug; instance = 1; serial = 4 }) ∷
      Deallocated (record { side = sides.Plug; instance = 1; serial = 5 }) ∷
      Deallocated (record { side = sides.Plug; instance = 1; serial = 8 }) ∷
      ProxyGone (record { side = sides.Page; instance = 1; serial = 1 }) ∷
      Invalidated (record { side = sides.Plug; instance = 1; serial = 1 }) ∷
      Invalidated (record { side = sides.Plug; instance = 1; serial = 3 }) ∷
      Deallocated (record { side = sides.Plug; instance = 1; serial = 1 }) ∷
      Deallocated (record { side = sides.Plug; instance = 1; serial = 3 }) ∷
      HandlerRun 2 handlers.Destroy ∷
      Created (record { side = sides.Plug; instance = 2; serial = 2 }) ∷
      Created (record { side = sides.Plug; instance = 2; serial = 3 }) ∷
      Created (record { side = sides.Plug; instance = 2; serial = 4 }) ∷
      Created (record { side = sides.Plug; instance = 2; serial = 5 }) ∷
      Deallocated (record { side = sides.Plug; instance = 2; serial = 4 }) ∷
      Created (record { side = sides.Plug; instance = 2; serial = 6 }) ∷
      Deallocated (record { side = sides.Plug; instance = 2; serial = 5 }) ∷
      Deallocated (record { side = sides.Plug; instance = 2; serial = 2 }) ∷
      Deallocated (record { side = sides.Plug; instance = 2; serial = 3 }) ∷
      Deallocated (record { side = sides.Plug; instance = 2; serial = 6 }) ∷
      ProxyGone (record { side = sides.Page; instance = 2; serial = 1 }) ∷
      Invalidated (record { side = sides.Plug; instance = 2; serial = 1 }) ∷
      Deallocated (record { side = sides.Plug; instance = 2; serial = 1 }) ∷
      HandlerRun 3 handlers.Destroy ∷
      Created (record { side = sides.Plug; instance = 3; serial = 2 }) ∷
      Created (record { side = sides.Plug; instance = 3; serial = 3 }) ∷
      Created (record { side = sides.Plug; instance = 3; serial = 4 }) ∷
      Created (record { side = sides.Plug; instance = 3; serial = 5 }) ∷
      Deallocated (record { side = sides.Plug; instance = 3; serial = 4 }) ∷
      Created (record { side = sides.Plug; instance = 3; serial = 6 }) ∷
      Deallocated (record { side = sides.Plug; instance = 3; serial = 5 }) ∷
      Deallocated (record { side = sides.Plug; instance = 3; serial = 2 }) ∷
      Deallocated (record { side = sides.Plug; instance = 3; serial = 3 }) ∷
      Deallocated (record { side = sides.Plug; instance = 3; serial = 6 }) ∷
      ProxyGone (record { side = sides.Page; instance = 3; serial = 1 }) ∷
      Invalidated (record { side = sides.Plug; instance = 3; serial = 1 }) ∷
      Deallocated (record { side = sides.Plug; instance = 3; serial = 1 }) ∷ []);
  files = [];
  rests = true;
}
unfolding encoding digits is_text is_utf8 chars encode_utf8
both-end = refl

-- the direct run
direct-run : direct_outcome 3000 page plugin ≡ record {
  page = (
      Created (record { side = sides.Page; instance = 1; serial = 1 }) ∷
      CommandResult 1 (results.Code NoError) ∷
      CommandResult 2 (results.Yes (values.Object (record { side = sides.Plug; instance = 1; serial = 1 })) false) ∷
      Created (record { side = sides.Page; instance = 2; serial = 1 }) ∷
      CommandResult 3 (results.Code NoError) ∷
      CommandResult 4 (results.Yes (values.Object (record { side = sides.Plug; instance = 2; serial = 1 })) false) ∷
      Created (record { side = sides.Page; instance = 1; serial = 2 }) ∷
      CommandResult 5 (results.Yes (values.Object (record { side = sides.Page; instance = 1; serial = 2 })) false) ∷
      Created (record { side = sides.Page; instance = 2; serial = 2 }) ∷
      CommandResult 6 (results.Yes (values.Object (record { side = sides.Page; instance = 2; serial = 2 })) false) ∷
      CommandResult 7 (results.Yes values.Void false) ∷
      Entered (record { side = sides.Page; instance = 2; serial = 2 }) (ops.Invoke (Str (codes "m0"))) ∷
      Entered (record { side = sides.Page; instance = 2; serial = 2 }) (ops.Put (Str (codes "f0"))) ∷
      Created (record { side = sides.Page; instance = 2; serial = 3 }) ∷
      Deallocated (record { side = sides.Page; instance = 2; serial = 3 }) ∷
      CommandResult 8 (results.Yes values.Void false) ∷
      CommandResult 9 (results.Yes values.Void false) ∷
      CommandResult 10 (results.Yes values.Void false) ∷
      Entered (record { side = sides.Page; instance = 1; serial = 2 }) (ops.Invoke (Str (codes "m1"))) ∷
      Created (record { side = sides.Page; instance = 1; serial = 3 }) ∷
      Created (record { side = sides.Page; instance = 1; serial = 4 }) ∷
      Created (record { side = sides.Page; instance = 1; serial = 5 }) ∷
      Deallocated (record { side = sides.Page; instance = 1; serial = 3 }) ∷
      Entered (record { side = sides.Page; instance = 1; serial = 4 }) (ops.Put (Str (codes "f1"))) ∷
      Created (record { side = sides.Page; instance = 1; serial = 6 }) ∷
      Created (record { side = sides.Page; instance = 1; serial = 7 }) ∷
      Entered (record { side = sides.Page; instance = 1; serial = 4 }) (ops.Put (Str (codes "f0"))) ∷
      Created (record { side = sides.Page; instance = 1; serial = 8 }) ∷
      Entered (record { side = sides.Page; instance = 1; serial = 4 }) (ops.Put (IntKey (pos 7))) ∷
      Deallocated (record { side = sides.Page; instance = 1; serial = 7 }) ∷
      CommandResult 11 (results.Yes values.Void false) ∷
      Entered (record { side = sides.Page; instance = 2; serial = 2 }) ops.Construct ∷
      Entered (record { side = sides.Page; instance = 2; serial = 2 }) (ops.Get (Str (codes "f0"))) ∷
      CommandResult 12 (results.Yes values.Void false) ∷
      Entered (record { side = sides.Page; instance = 1; serial = 2 }) ops.Default ∷
      Created (record { side = sides.Page; instance = 1; serial = 9 }) ∷
      Entered (record { side = sides.Page; instance = 1; serial = 9 }) (ops.Put (Str (codes "f0"))) ∷
      Deallocated (record { side = sides.Page; instance = 1; serial = 4 }) ∷
      Deallocated (record { side = sides.Page; instance = 1; serial = 5 }) ∷
      Deallocated (record { side = sides.Page; instance = 1; serial = 6 }) ∷
      Deallocated (record { side = sides.Page; instance = 1; serial = 8 }) ∷
      Deallocated (record { side = sides.Page; instance = 2; serial = 2 }) ∷
      CommandResult 13 (results.Yes values.Void false) ∷
      CommandResult 14 (results.Pumped 0) ∷
      CommandResult 15 results.No ∷
      CommandResult 16 (results.Pumped 0) ∷
      Entered (record { side = sides.Page; instance = 1; serial = 2 }) (ops.Invoke (Str (codes "m2"))) ∷
      CommandResult 17 (results.Yes values.Void false) ∷
      CommandResult 18 (results.Yes (values.Object (record { side = sides.Plug; instance = 2; serial = 1 })) false) ∷
      CommandResult 19 results.No ∷
      CommandResult 20 results.No ∷
      CommandResult 21 (results.Yes values.Void false) ∷
      Created (record { side = sides.Page; instance = 3; serial = 1 }) ∷
      CommandResult 22 (results.Code NoError) ∷
      CommandResult 23 (results.Yes (values.Object (record { side = sides.Plug; instance = 3; serial = 1 })) false) ∷
      Invalidated (record { side = sides.Page; instance = 1; serial = 1 }) ∷
      Invalidated (record { side = sides.Page; instance = 1; serial = 2 }) ∷
      Invalidated (record { side = sides.Page; instance = 1; serial = 9 }) ∷
      Deallocated (record { side = sides.Page; instance = 1; serial = 1 }) ∷
      Deallocated (record { side = sides.Page; instance = 1; serial = 2 }) ∷
      Deallocated (record { side = sides.Page; instance = 1; serial = 9 }) ∷
      Invalidated (record { side = sides.Page; instance = 2; serial = 1 }) ∷
      Deallocated (record { side = sides.Page; instance = 2; serial = 1 }) ∷
      ProxyGone (record { side = sides.Plug; instance = 3; serial = 1 }) ∷
      Invalidated (record { side = sides.Page; instance = 3; serial = 1 }) ∷
      Deallocated (record { side = sides.Page; instance = 3; serial = 1 }) ∷ []);
  plugin = (
      HandlerRun 1 handlers.New ∷
      Created (record { side = sides.Plug; instance = 1; serial = 1 }) ∷
      HandlerRun 1 handlers.Scriptable ∷
      HandlerRun 2 handlers.New ∷
      Created (record { side = sides.Plug; instance = 2; serial = 1 }) ∷
      HandlerRun 2 handlers.Scriptable ∷
      Entered (record { side = sides.Plug; instance = 1; serial = 1 }) (ops.Invoke (Str (codes "m0"))) ∷
      Created (record { side = sides.Plug; instance = 1; serial = 2 }) ∷
      Noted (values.Object (record { side = sides.Page; instance = 2; serial = 2 })) false ∷
      Created (record { side = sides.Plug; instance = 1; serial = 3 }) ∷
      Entered (record { side = sides.Plug; instance = 1; serial = 3 }) ops.Enumerate ∷
      Deallocated (record { side = sides.Plug; instance = 1; serial = 2 }) ∷
      Entered (record { side = sides.Plug; instance = 2; serial = 1 }) (ops.Invoke (Str (codes "m1"))) ∷
      HandlerRun 2 handlers.Scriptable ∷
      HandlerRun 3 handlers.New ∷
      Created (record { side = sides.Plug; instance = 3; serial = 1 }) ∷
      HandlerRun 3 handlers.Scriptable ∷
      HandlerRun 1 handlers.Destroy ∷
      Created (record { side = sides.Plug; instance = 1; serial = 4 }) ∷
      Created (record { side = sides.Plug; instance = 1; serial = 5 }) ∷
      Created (record { side = sides.Plug; instance = 1; serial = 6 }) ∷
      Created (record { side = sides.Plug; instance = 1; serial = 7 }) ∷
      Deallocated (record { side = sides.Plug; instance = 1; serial = 6 }) ∷
      Created (record { side = sides.Plug; instance = 1; serial = 8 }) ∷
      Deallocated (record { side = sides.Plug; instance = 1; serial = 7 }) ∷
      Deallocated (record { side = sides.Plug; instance = 1; serial = 4 }) ∷
      Deallocated (record { side = sides.Plug; instance = 1; serial = 5 }) ∷
      Deallocated (record { side = sides.Plug; instance = 1; serial = 8 }) ∷
      ProxyGone (record { side = sides.Page; instance = 1; serial = 1 }) ∷
      Invalidated (record { side = sides.Plug; instance = 1; serial = 1 }) ∷
      Invalidated (record { side = sides.Plug; instance = 1; serial = 3 }) ∷
      Deallocated (record { side = sides.Plug; instance = 1; serial = 1 }) ∷
      Deallocated (record { side = sides.Plug; instance = 1; serial = 3 }) ∷
      HandlerRun 2 handlers.Destroy ∷
      Created (record { side = sides.Plug; instance = 2; serial = 2 }) ∷
      Created (record { side = sides.Plug; instance = 2; serial = 3 }) ∷
      Created (record { side = sides.Plug; instance = 2; serial = 4 }) ∷
      Created (record { side = sides.Plug; instance = 2; serial = 5 }) ∷
      Deallocated (record { side = sides.Plug; instance = 2; serial = 4 }) ∷
      Created (record { side = sides.Plug; instance = 2; serial = 6 }) ∷
      Deallocated (record { side = sides.Plug; instance = 2; serial = 5 }) ∷
      Deallocated (record { side = sides.Plug; instance = 2; serial = 2 }) ∷
      Deallocated (record { side = sides.Plug; instance = 2; serial = 3 }) ∷
      Deallocated (record { side = sides.Plug; instance = 2; serial = 6 }) ∷
      ProxyGone (record { side = sides.Page; instance = 2; serial = 1 }) ∷
      Invalidated (record { side = sides.Plug; instance = 2; serial = 1 }) ∷
      Deallocated (record { side = sides.Plug; instance = 2; serial = 1 }) ∷
      HandlerRun 3 handlers.Destroy ∷
      Created (record { side = sides.Plug; instance = 3; serial = 2 }) ∷
      Created (record { side = sides.Plug; instance = 3; serial = 3 }) ∷
      Created (record { side = sides.Plug; instance = 3; serial = 4 }) ∷
      Created (record { side = sides.Plug; instance = 3; serial = 5 }) ∷
      Deallocated (record { side = sides.Plug; instance = 3; serial = 4 }) ∷
      Created (record { side = sides.Plug; instance = 3; serial = 6 }) ∷
      Deallocated (record { side = sides.Plug; instance = 3; serial = 5 }) ∷
      Deallocated (record { side = sides.Plug; instance = 3; serial = 2 }) ∷
      Deallocated (record { side = sides.Plug; instance = 3; serial = 3 }) ∷
      Deallocated (record { side = sides.Plug; instance = 3; serial = 6 }) ∷
      ProxyGone (record { side = sides.Page; instance = 3; serial = 1 }) ∷
      Invalidated (record { side = sides.Plug; instance = 3; serial = 1 }) ∷
      Deallocated (record { side = sides.Plug; instance = 3; serial = 1 }) ∷ []);
  files = [];
  rests = true;
}
unfolding encoding digits is_text is_utf8 chars encode_utf8
direct-run = refl

-- each message is delivered at once, and none is refused
orderly-in-rounds : orderly_along (sides.Page ∷ sides.Plug ∷ []) 700 page plugin ≡ true
unfolding encoding digits is_text is_utf8 chars encode_utf8
orderly-in-rounds = refl

-- each message is delivered at once, and none is refused
orderly-page-ahead : orderly_along (sides.Page ∷ sides.Page ∷ sides.Page ∷ sides.Page ∷ sides.Page ∷ sides.Page ∷ sides.Plug ∷ []) 200 page plugin ≡ true
unfolding encoding digits is_text is_utf8 chars encode_utf8
orderly-page-ahead = refl

-- each message is delivered at once, and none is refused
orderly-plugin-ahead : orderly_along (sides.Page ∷ sides.Plug ∷ sides.Plug ∷ sides.Plug ∷ sides.Plug ∷ sides.Plug ∷ sides.Plug ∷ []) 200 page plugin ≡ true
unfolding encoding digits is_text is_utf8 chars encode_utf8
orderly-plugin-ahead = refl

-- all bytes that the page sends
page-sends : page_bytes 1500 page plugin ≡ (0 ∷ 0 ∷ 0 ∷ 7 ∷ 1 ∷ 1 ∷ 0 ∷ 0 ∷ 1 ∷ 0 ∷ 27 ∷ 0 ∷ 0 ∷ 0 ∷ 12 ∷ 2 ∷ 1 ∷ 0 ∷ 0 ∷ 1 ∷ 1 ∷ 0 ∷ 3 ∷ 116 ∷ 47 ∷ 120 ∷ 0 ∷ 0 ∷ 0 ∷ 0 ∷ 11 ∷ 65 ∷ 2 ∷ 0 ∷ 0 ∷ 6 ∷ 0 ∷ 1 ∷ 0 ∷ 0 ∷ 0 ∷ 1 ∷ 0 ∷ 0 ∷ 0 ∷ 5 ∷ 4 ∷ 1 ∷ 0 ∷ 0 ∷ 1 ∷ 0 ∷ 0 ∷ 0 ∷ 18 ∷ 2 ∷ 1 ∷ 0 ∷ 0 ∷ 2 ∷ 1 ∷ 0 ∷ 3 ∷ 116 ∷ 47 ∷ 120 ∷ 1 ∷ 0 ∷ 1 ∷ 97 ∷ 0 ∷ 1 ∷ 49 ∷ 0 ∷ 0 ∷ 0 ∷ 11 ∷ 65 ∷ 2 ∷ 0 ∷ 0 ∷ 6 ∷ 0 ∷ 2 ∷ 0 ∷ 0 ∷ 0 ∷ 1 ∷ 0 ∷ 0 ∷ 0 ∷ 5 ∷ 4 ∷ 1 ∷ 0 ∷ 0 ∷ 2 ∷ 0 ∷ 0 ∷ 0 ∷ 37 ∷ 64 ∷ 1 ∷ 0 ∷ 0 ∷ 1 ∷ 0 ∷ 0 ∷ 0 ∷ 1 ∷ 1 ∷ 0 ∷ 0 ∷ 2 ∷ 109 ∷ 48 ∷ 3 ∷ 6 ∷ 0 ∷ 1 ∷ 0 ∷ 0 ∷ 0 ∷ 2 ∷ 6 ∷ 0 ∷ 2 ∷ 0 ∷ 0 ∷ 0 ∷ 2 ∷ 6 ∷ 1 ∷ 1 ∷ 0 ∷ 0 ∷ 0 ∷ 1 ∷ 0 ∷ 0 ∷ 0 ∷ 30 ∷ 64 ∷ 1 ∷ 0 ∷ 0 ∷ 2 ∷ 0 ∷ 0 ∷ 0 ∷ 1 ∷ 1 ∷ 0 ∷ 0 ∷ 2 ∷ 109 ∷ 49 ∷ 2 ∷ 6 ∷ 0 ∷ 2 ∷ 0 ∷ 0 ∷ 0 ∷ 2 ∷ 6 ∷ 0 ∷ 1 ∷ 0 ∷ 0 ∷ 0 ∷ 2 ∷ 0 ∷ 0 ∷ 0 ∷ 4 ∷ 5 ∷ 1 ∷ 0 ∷ 0 ∷ 0 ∷ 0 ∷ 0 ∷ 23 ∷ 4 ∷ 1 ∷ 0 ∷ 2 ∷ 1 ∷ 0 ∷ 0 ∷ 0 ∷ 1 ∷ 0 ∷ 0 ∷ 0 ∷ 1 ∷ 2 ∷ 0 ∷ 0 ∷ 0 ∷ 1 ∷ 0 ∷ 0 ∷ 0 ∷ 1 ∷ 2 ∷ 0 ∷ 0 ∷ 0 ∷ 12 ∷ 2 ∷ 1 ∷ 0 ∷ 0 ∷ 3 ∷ 2 ∷ 0 ∷ 3 ∷ 116 ∷ 47 ∷ 121 ∷ 0 ∷ 0 ∷ 0 ∷ 0 ∷ 11 ∷ 65 ∷ 2 ∷ 0 ∷ 0 ∷ 6 ∷ 0 ∷ 3 ∷ 0 ∷ 0 ∷ 0 ∷ 1 ∷ 0 ∷ 0 ∷ 0 ∷ 5 ∷ 4 ∷ 1 ∷ 0 ∷ 0 ∷ 3 ∷ 0 ∷ 0 ∷ 0 ∷ 14 ∷ 3 ∷ 1 ∷ 0 ∷ 1 ∷ 2 ∷ 0 ∷ 0 ∷ 0 ∷ 1 ∷ 0 ∷ 0 ∷ 0 ∷ 1 ∷ 1 ∷ 0 ∷ 0 ∷ 0 ∷ 5 ∷ 3 ∷ 1 ∷ 0 ∷ 0 ∷ 2 ∷ 0 ∷ 0 ∷ 0 ∷ 5 ∷ 3 ∷ 1 ∷ 0 ∷ 0 ∷ 3 ∷ 0 ∷ 0 ∷ 0 ∷ 4 ∷ 12 ∷ 1 ∷ 0 ∷ 0 ∷ [])
unfolding encoding digits is_text is_utf8 chars encode_utf8
page-sends = refl

-- all bytes that the plugin sends
plugin-sends : plugin_bytes 1500 page plugin ≡ (0 ∷ 0 ∷ 0 ∷ 5 ∷ 69 ∷ 1 ∷ 0 ∷ 0 ∷ 0 ∷ 0 ∷ 0 ∷ 0 ∷ 5 ∷ 32 ∷ 2 ∷ 0 ∷ 0 ∷ 1 ∷ 0 ∷ 0 ∷ 0 ∷ 5 ∷ 69 ∷ 1 ∷ 0 ∷ 0 ∷ 0 ∷ 0 ∷ 0 ∷ 0 ∷ 11 ∷ 65 ∷ 1 ∷ 0 ∷ 0 ∷ 6 ∷ 1 ∷ 1 ∷ 0 ∷ 0 ∷ 0 ∷ 1 ∷ 0 ∷ 0 ∷ 0 ∷ 5 ∷ 32 ∷ 2 ∷ 0 ∷ 0 ∷ 2 ∷ 0 ∷ 0 ∷ 0 ∷ 5 ∷ 69 ∷ 1 ∷ 0 ∷ 0 ∷ 0 ∷ 0 ∷ 0 ∷ 0 ∷ 11 ∷ 65 ∷ 1 ∷ 0 ∷ 0 ∷ 6 ∷ 1 ∷ 2 ∷ 0 ∷ 0 ∷ 0 ∷ 1 ∷ 0 ∷ 0 ∷ 0 ∷ 23 ∷ 65 ∷ 1 ∷ 0 ∷ 2 ∷ 1 ∷ 0 ∷ 0 ∷ 0 ∷ 2 ∷ 0 ∷ 0 ∷ 0 ∷ 1 ∷ 2 ∷ 0 ∷ 0 ∷ 0 ∷ 2 ∷ 0 ∷ 0 ∷ 0 ∷ 1 ∷ 0 ∷ 0 ∷ 0 ∷ 0 ∷ 23 ∷ 65 ∷ 1 ∷ 0 ∷ 2 ∷ 1 ∷ 0 ∷ 0 ∷ 0 ∷ 2 ∷ 0 ∷ 0 ∷ 0 ∷ 1 ∷ 2 ∷ 0 ∷ 0 ∷ 0 ∷ 2 ∷ 0 ∷ 0 ∷ 0 ∷ 1 ∷ 0 ∷ 0 ∷ 0 ∷ 0 ∷ 4 ∷ 71 ∷ 1 ∷ 0 ∷ 0 ∷ 0 ∷ 0 ∷ 0 ∷ 11 ∷ 65 ∷ 1 ∷ 0 ∷ 0 ∷ 6 ∷ 1 ∷ 2 ∷ 0 ∷ 0 ∷ 0 ∷ 1 ∷ 0 ∷ 0 ∷ 0 ∷ 5 ∷ 32 ∷ 2 ∷ 0 ∷ 0 ∷ 3 ∷ 0 ∷ 0 ∷ 0 ∷ 5 ∷ 69 ∷ 1 ∷ 0 ∷ 0 ∷ 0 ∷ 0 ∷ 0 ∷ 0 ∷ 11 ∷ 65 ∷ 1 ∷ 0 ∷ 0 ∷ 6 ∷ 1 ∷ 3 ∷ 0 ∷ 0 ∷ 0 ∷ 1 ∷ 0 ∷ 0 ∷ 0 ∷ 5 ∷ 69 ∷ 1 ∷ 0 ∷ 0 ∷ 0 ∷ 0 ∷ 0 ∷ 0 ∷ 5 ∷ 69 ∷ 1 ∷ 0 ∷ 0 ∷ 0 ∷ 0 ∷ 0 ∷ 0 ∷ 5 ∷ 69 ∷ 1 ∷ 0 ∷ 0 ∷ 0 ∷ 0 ∷ 0 ∷ 0 ∷ 4 ∷ 71 ∷ 1 ∷ 0 ∷ 0 ∷ [])
unfolding encoding digits is_text is_utf8 chars encode_utf8
plugin-sends = refl

-- the plug-in's first 99 bytes hold 7 whole messages
cut-99 : lost_outcome 1500 (Some 7) page plugin ≡ record {
  page = (
      Created (record { side = sides.Page; instance = 1; serial = 1 }) ∷
      CommandResult 1 (results.Code NoError) ∷
      CommandResult 2 (results.Yes (values.Object (record { side = sides.Plug; instance = 1; serial = 1 })) false) ∷
      Created (record { side = sides.Page; instance = 2; serial = 1 }) ∷
      CommandResult 3 (results.Code NoError) ∷
      CommandResult 4 (results.Yes (values.Object (record { side = sides.Plug; instance = 2; serial = 1 })) false) ∷
      Created (record { side = sides.Page; instance = 1; serial = 2 }) ∷
      CommandResult 5 (results.Yes (values.Object (record { side = sides.Page; instance = 1; serial = 2 })) false) ∷
      Created (record { side = sides.Page; instance = 2; serial = 2 }) ∷
      CommandResult 6 (results.Yes (values.Object (record { side = sides.Page; instance = 2; serial = 2 })) false) ∷
      ProxyGone (record { side = sides.Plug; instance = 1; serial = 1 }) ∷
      Invalidated (record { side = sides.Page; instance = 1; serial = 1 }) ∷
      Invalidated (record { side = sides.Page; instance = 1; serial = 2 }) ∷
      Deallocated (record { side = sides.Page; instance = 1; serial = 1 }) ∷
      Deallocated (record { side = sides.Page; instance = 1; serial = 2 }) ∷
      ProxyGone (record { side = sides.Plug; instance = 2; serial = 1 }) ∷
      Invalidated (record { side = sides.Page; instance = 2; serial = 1 }) ∷
      Invalidated (record { side = sides.Page; instance = 2; serial = 2 }) ∷
      Deallocated (record { side = sides.Page; instance = 2; serial = 1 }) ∷
      Deallocated (record { side = sides.Page; instance = 2; serial = 2 }) ∷
      CommandResult 7 results.No ∷
      CommandResult 8 results.No ∷
      CommandResult 9 results.No ∷
      CommandResult 10 results.No ∷
      CommandResult 11 results.No ∷
      CommandResult 12 results.No ∷
      CommandResult 13 results.No ∷
      CommandResult 14 (results.Pumped 0) ∷
      CommandResult 15 results.No ∷
      CommandResult 16 (results.Pumped 0) ∷
      CommandResult 17 results.No ∷
      CommandResult 18 results.No ∷
      CommandResult 19 results.No ∷
      CommandResult 20 results.No ∷
      CommandResult 21 (results.Yes values.Void false) ∷
      CommandResult 22 (results.Code ModuleLoadFailed) ∷
      CommandResult 23 results.No ∷ []);
  rests = true;
}
unfolding encoding digits is_text is_utf8 chars encode_utf8
cut-99 = refl

-- the plug-in's first 102 bytes hold 8 whole messages
cut-102 : lost_outcome 1500 (Some 8) page plugin ≡ record {
  page = (
      Created (record { side = sides.Page; instance = 1; serial = 1 }) ∷
      CommandResult 1 (results.Code NoError) ∷
      CommandResult 2 (results.Yes (values.Object (record { side = sides.Plug; instance = 1; serial = 1 })) false) ∷
      Created (record { side = sides.Page; instance = 2; serial = 1 }) ∷
      CommandResult 3 (results.Code NoError) ∷
      CommandResult 4 (results.Yes (values.Object (record { side = sides.Plug; instance = 2; serial = 1 })) false) ∷
      Created (record { side = sides.Page; instance = 1; serial = 2 }) ∷
      CommandResult 5 (results.Yes (values.Object (record { side = sides.Page; instance = 1; serial = 2 })) false) ∷
      Created (record { side = sides.Page; instance = 2; serial = 2 }) ∷
      CommandResult 6 (results.Yes (values.Object (record { side = sides.Page; instance = 2; serial = 2 })) false) ∷
      CommandResult 7 (results.Yes values.Void false) ∷
      Entered (record { side = sides.Page; instance = 2; serial = 2 }) (ops.Invoke (Str (codes "m0"))) ∷
      Entered (record { side = sides.Page; instance = 2; serial = 2 }) (ops.Put (Str (codes "f0"))) ∷
      Created (record { side = sides.Page; instance = 2; serial = 3 }) ∷
      Deallocated (record { side = sides.Page; instance = 2; serial = 3 }) ∷
      CommandResult 8 (results.Yes values.Void false) ∷
      ProxyGone (record { side = sides.Plug; instance = 1; serial = 1 }) ∷
      Invalidated (record { side = sides.Page; instance = 1; serial = 1 }) ∷
      Invalidated (record { side = sides.Page; instance = 1; serial = 2 }) ∷
      Deallocated (record { side = sides.Page; instance = 1; serial = 1 }) ∷
      Deallocated (record { side = sides.Page; instance = 1; serial = 2 }) ∷
      ProxyGone (record { side = sides.Plug; instance = 2; serial = 1 }) ∷
      Invalidated (record { side = sides.Page; instance = 2; serial = 1 }) ∷
      Invalidated (record { side = sides.Page; instance = 2; serial = 2 }) ∷
      Deallocated (record { side = sides.Page; instance = 2; serial = 1 }) ∷
      Deallocated (record { side = sides.Page; instance = 2; serial = 2 }) ∷
      CommandResult 9 results.No ∷
      CommandResult 10 results.No ∷
      CommandResult 11 results.No ∷
      CommandResult 12 results.No ∷
      CommandResult 13 results.No ∷
      CommandResult 14 (results.Pumped 0) ∷
      CommandResult 15 results.No ∷
      CommandResult 16 (results.Pumped 0) ∷
      CommandResult 17 results.No ∷
      CommandResult 18 results.No ∷
      CommandResult 19 results.No ∷
      CommandResult 20 results.No ∷
      CommandResult 21 (results.Yes values.Void false) ∷
      CommandResult 22 (results.Code ModuleLoadFailed) ∷
      CommandResult 23 results.No ∷ []);
  rests = true;
}
unfolding encoding digits is_text is_utf8 chars encode_utf8
cut-102 = refl
