-- Made by tools/vector-theorems of tests/vectors/10-054.
use Rattle.std.proofs.Common.{◌≡◌, pos, negsuc, [], ◌∷◌, refl, true, false, Some, None}
use Rattle.std.specs.Prelude.{codes}
use Rattle.std.specs.Char.{encode_utf8}
use Rattle.std.specs.Fmt.{digits}
use Rattle.std.specs.Str.{is_utf8, chars}
use Rattle.np_values.specs.declared.error.NpError.TheVariants.{NoError, InvalidInstance}
use Rattle.np_values.specs.declared.handler.Handler.TheVariants as handlers
use Rattle.np_values.specs.declared.name.Side.TheVariants as sides
use Rattle.np_values.specs.declared.value.Value.TheVariants as values
use Rattle.np_values.specs.Text.{is_text}
use Rattle.np_idents.specs.declared.key.IdKey.TheVariants.{Str, Int as IntKey}
use Rattle.np_idents.specs.declared.op.Op.TheVariants as ops
use Rattle.np_script_grammar.specs.declared.action.Action.TheVariants as actions
use Rattle.np_script_grammar.specs.declared.action.Operand.TheVariants.{Reg, Const}
use Rattle.np_script_grammar.specs.declared.class.Member.TheVariants as members
use Rattle.np_script_grammar.specs.declared.command.Command.TheVariants as commands
use Rattle.np_script_grammar.specs.declared.page.Page.{Page}
use Rattle.np_script_grammar.specs.declared.plugin.Plugin.{Plugin}
use Rattle.np_message.specs.Encoding.{encoding}
use Rattle.np_journal.specs.declared.line.Line.TheVariants.{Created, Entered, HandlerRun, ProxyGone, Invalidated, Deallocated, Noted, CommandResult}
use Rattle.np_journal.specs.declared.printed.Printed.TheVariants as results
use Rattle.np_machine_plans.specs.AtOnce.{orderly_along}
use Rattle.np_machine_plans.specs.Outcomes.{resource, outcome, direct_outcome, page_bytes, plugin_bytes, lost_outcome}

abbrev page : Page
page = record {
  major = 0;
  minor = 27;
  classes = (
      (record {
        name = codes "Window";
        version = 3;
        stored = true;
        members = (
            members.Method (Str (codes "m0")) (actions.Slot 3 (Reg 2) ∷ actions.New 4 (codes "B") ∷ actions.New 1 (codes "B") ∷ actions.New 2 (codes "B") ∷ actions.Load 1 0 ∷ actions.Invoke 2 (Reg 2) (IntKey (pos 4)) (Reg 0 ∷ []) ∷ actions.Load 5 0 ∷ actions.Put (Reg 2) (Str (codes "f0")) (Reg 1) ∷ actions.Slot 2 (Reg 3) ∷ []) ∷
            members.Method (IntKey (pos 4)) (actions.SelfTo 2 ∷ actions.New 3 (codes "A") ∷ actions.Slot 1 (Reg 3) ∷ actions.New 0 (codes "Window") ∷ actions.Put (Reg 0) (Str (codes "f1")) (Const (values.Bool true)) ∷ actions.Throw (codes "no") ∷ []) ∷
            members.Method (Str (codes "m2")) (actions.Put (Reg 0) (Str (codes "7")) (Reg 3) ∷ actions.Invoke 1 (Reg 1) (Str (codes "take")) (Reg 2 ∷ Reg 3 ∷ []) ∷ actions.New 3 (codes "Window") ∷ actions.New 2 (codes "Window") ∷ actions.New 2 (codes "Window") ∷ actions.Put (Reg 2) (Str (codes "7")) (Reg 1) ∷ actions.Get 1 (Reg 2) (Str (codes "7")) ∷ actions.Remove (Reg 2) (Str (codes "7")) ∷ []) ∷
            members.Method (Str (codes "m3")) (actions.Load 2 0 ∷ actions.SelfTo 2 ∷ actions.OnEq (Reg 3) (Reg 1) 3 ∷ actions.Get 3 (Reg 3) (Str (codes "f0")) ∷ actions.Put (Reg 1) (Str (codes "f0")) (Reg 1) ∷ actions.SelfTo 0 ∷ actions.New 4 (codes "Window") ∷ actions.Invoke 1 (Reg 1) (IntKey (pos 4)) [] ∷ actions.Slot 1 (Reg 2) ∷ actions.HasProperty (Reg 1) (Str (codes "f0")) ∷ actions.Fail ∷ []) ∷
            members.Method (Str (codes "take")) (actions.Load 3 1 ∷ actions.New 1 (codes "A") ∷ actions.New 4 (codes "B") ∷ actions.Destroy 2 2 ∷ actions.Load 2 0 ∷ actions.Load 3 0 ∷ []) ∷
            members.Method (Str (codes "m1")) (actions.Load 3 1 ∷ actions.Load 2 2 ∷ actions.New 3 (codes "A") ∷ actions.Slot 1 (Reg 1) ∷ actions.New 2 (codes "A") ∷ actions.Invoke 1 (Reg 1) (Str (codes "m3")) (Reg 2 ∷ Reg 2 ∷ Reg 0 ∷ []) ∷ actions.Enumerate 0 (Reg 3) ∷ actions.New 1 (codes "Window") ∷ actions.Invoke 0 (Reg 1) (IntKey (pos 4)) (Reg 0 ∷ Reg 3 ∷ Const (values.Int (negsuc 2147483647)) ∷ []) ∷ actions.Remove (Reg 1) (Str (codes "f0")) ∷ actions.Load 4 0 ∷ []) ∷ []);
      }) ∷
      (record {
        name = codes "A";
        version = 2;
        stored = true;
        members = (
            members.Method (Str (codes "m2")) (actions.Load 3 1 ∷ actions.Invoke 1 (Reg 1) (IntKey (pos 4)) [] ∷ actions.Drop 3 ∷ actions.Invoke 1 (Reg 0) (IntKey (pos 4)) (Reg 0 ∷ Reg 2 ∷ Reg 5 ∷ []) ∷ []) ∷
            members.Method (Str (codes "m3")) (actions.Invoke 3 (Reg 1) (IntKey (pos 4)) (Const (values.Int (pos 13)) ∷ Reg 0 ∷ Const (values.Int (pos 14)) ∷ []) ∷ actions.New 2 (codes "Window") ∷ actions.Put (Reg 2) (Str (codes "f0")) (Reg 1) ∷ actions.New 2 (codes "A") ∷ actions.Put (Reg 2) (Str (codes "f1")) (Reg 2) ∷ actions.Slot 1 (Reg 2) ∷ actions.Enumerate 1 (Reg 2) ∷ []) ∷
            members.Method (IntKey (pos 4)) (actions.Load 3 1 ∷ actions.Load 0 2 ∷ actions.New 1 (codes "A") ∷ actions.Load 4 3 ∷ actions.New 4 (codes "B") ∷ actions.Remove (Reg 3) (Str (codes "f0")) ∷ actions.Invoke 1 (Reg 2) (Str (codes "take")) (Reg 2 ∷ Reg 3 ∷ Const (values.Double (0 ∷ 1 ∷ 2 ∷ 3 ∷ 4 ∷ 5 ∷ 6 ∷ 7 ∷ [])) ∷ []) ∷ actions.OnEq (Reg 2) (Reg 2) 2 ∷ []) ∷
            members.Method (Str (codes "m1")) (actions.New 4 (codes "B") ∷ actions.New 5 (codes "Window") ∷ actions.New 3 (codes "Window") ∷ actions.CallDefault 4 (Reg 1) (Reg 3 ∷ Reg 1 ∷ []) ∷ actions.Load 0 0 ∷ []) ∷
            members.Setter (Str (codes "f1")) (actions.Load 3 1 ∷ actions.SelfTo 2 ∷ actions.Destroy 1 2 ∷ actions.New 2 (codes "B") ∷ actions.Remove (Reg 3) (Str (codes "f1")) ∷ []) ∷ []);
      }) ∷
      (record {
        name = codes "B";
        version = 3;
        stored = true;
        members = (
            members.Method (IntKey (pos 4)) (actions.Load 3 1 ∷ actions.SelfTo 2 ∷ actions.New 1 (codes "A") ∷ []) ∷
            members.Method (Str (codes "m3")) (actions.Load 2 0 ∷ actions.Return (Reg 2) ∷ actions.New 1 (codes "B") ∷ actions.New 4 (codes "B") ∷ actions.Invoke 0 (Reg 3) (Str (codes "take")) [] ∷ actions.New 4 (codes "B") ∷ actions.Invoke 2 (Reg 0) (Str (codes "take")) (Reg 1 ∷ Reg 3 ∷ Reg 0 ∷ []) ∷ actions.Slot 3 (Reg 3) ∷ actions.Invoke 2 (Reg 3) (IntKey (pos 4)) (Reg 1 ∷ Reg 1 ∷ Reg 3 ∷ []) ∷ actions.Load 0 1 ∷ actions.Drop 1 ∷ actions.Put (Reg 0) (Str (codes "f0")) (Const values.Null) ∷ []) ∷
            members.Method (Str (codes "m0")) (actions.Load 3 1 ∷ actions.Throw [] ∷ actions.Invoke 4 (Reg 3) (Str (codes "take")) (Reg 2 ∷ Reg 2 ∷ []) ∷ []) ∷
            members.Setter (Str (codes "f0")) (actions.Invoke 2 (Reg 5) (IntKey (pos 4)) (Reg 0 ∷ Reg 2 ∷ []) ∷ actions.New 2 (codes "B") ∷ actions.New 3 (codes "B") ∷ actions.Get 1 (Reg 3) (IntKey (pos 7)) ∷ []) ∷
            members.Method (Str (codes "m1")) (actions.Load 2 0 ∷ actions.Load 3 1 ∷ actions.New 2 (codes "A") ∷ actions.Load 2 2 ∷ actions.New 1 (codes "B") ∷ actions.Drop 1 ∷ []) ∷
            members.Method (Str (codes "take")) (actions.New 5 (codes "B") ∷ actions.New 2 (codes "A") ∷ actions.OnFalse 3 ∷ actions.Slot 3 (Const values.Null) ∷ []) ∷ []);
      }) ∷ []);
  resources = (
      resource (codes "r") (codes "t/p") 1 (195 ∷ 164 ∷ 226 ∷ 130 ∷ 172 ∷ []) ∷
      resource (codes "s") (codes "t/p") 2 (120 ∷ 1 ∷ 34 ∷ []) ∷
      resource (codes "e") (codes "t/p") 0 (195 ∷ 164 ∷ []) ∷ []);
  commands = (
      commands.Create (codes "t/x") 1 [] ∷
      commands.Scriptable 0 1 ∷
      commands.Create (codes "t/x") 1 (codes "a" ∷ codes "1" ∷ codes "a" ∷ codes "1" ∷ []) ∷
      commands.Scriptable 1 2 ∷
      commands.New 2 1 (codes "A") ∷
      commands.New 3 2 (codes "Window") ∷
      commands.Invoke 5 (Reg 0) (Str (codes "m2")) (Reg 2 ∷ Reg 1 ∷ Reg 0 ∷ []) ∷
      commands.Invoke 5 (Reg 0) (Str (codes "m2")) (Reg 3 ∷ []) ∷
      commands.Drop 3 ∷
      commands.Invoke 3 (Reg 0) (Str (codes "m1")) [] ∷
      commands.Invoke 4 (Reg 3) (Str (codes "m0")) (Reg 4 ∷ Reg 3 ∷ Reg 2 ∷ []) ∷
      commands.Invoke 4 (Reg 0) (Str (codes "m0")) (Reg 2 ∷ Reg 1 ∷ Reg 4 ∷ []) ∷
      commands.Destroy 1 ∷
      commands.Turn ∷
      commands.Note (Reg 5) ∷
      commands.Invoke 4 (Reg 4) (Str (codes "m0")) (Reg 3 ∷ Reg 0 ∷ Const values.Void ∷ []) ∷
      commands.HasProperty (Reg 3) (Str (codes "f0")) ∷
      commands.Invoke 4 (Reg 1) (Str (codes "m3")) (Reg 0 ∷ Reg 2 ∷ Reg 5 ∷ []) ∷
      commands.New 2 1 (codes "B") ∷
      commands.Invoke 0 (Reg 3) (Str (codes "m2")) (Reg 3 ∷ Const (values.Int (pos 2147483647)) ∷ Reg 1 ∷ []) ∷ []);
}

abbrev plugin : Plugin
plugin = record {
  major = 0;
  minor = 27;
  classes = (
      (record {
        name = codes "Main";
        version = 3;
        stored = true;
        members = (
            members.Method (Str (codes "m1")) (actions.Invoke 5 (Reg 1) (Str (codes "m3")) [] ∷ actions.Invoke 0 (Reg 0) (Str (codes "m2")) (Reg 0 ∷ Reg 4 ∷ Reg 3 ∷ []) ∷ actions.Slot 1 (Reg 3) ∷ actions.New 5 (codes "Main") ∷ actions.New 1 (codes "T") ∷ actions.Window 3 ∷ actions.Get 1 (Reg 2) (Str (codes "f0")) ∷ actions.Invoke 3 (Reg 2) (IntKey (pos 4)) (Reg 0 ∷ Reg 2 ∷ Reg 10 ∷ []) ∷ actions.Slot 0 (Reg 2) ∷ actions.Note (Reg 1) ∷ []) ∷
            members.Method (Str (codes "m0")) (actions.Load 3 1 ∷ actions.SelfTo 2 ∷ actions.RequestRead 5 (Const (values.Int (pos 2))) ((record { offset = negsuc 2; length = 2 }) ∷ (record { offset = negsuc 1; length = 3 }) ∷ (record { offset = negsuc 0; length = 3 }) ∷ (record { offset = negsuc 2; length = 9000 }) ∷ []) ∷ actions.New 1 (codes "U") ∷ actions.New 4 (codes "Main") ∷ actions.Get 3 (Reg 2) (Str (codes "f0")) ∷ actions.Slot 2 (Const values.Void) ∷ []) ∷
            members.Method (IntKey (pos 4)) (actions.New 4 (codes "T") ∷ actions.Later (codes "v") ∷ actions.New 5 (codes "Main") ∷ actions.Slot 3 (Reg 1) ∷ actions.Invoke 0 (Reg 3) (Str (codes "take")) (Reg 3 ∷ Reg 1 ∷ Reg 1 ∷ []) ∷ actions.New 3 (codes "Main") ∷ actions.New 4 (codes "T") ∷ actions.New 5 (codes "U") ∷ actions.Put (Reg 4) (IntKey (pos 7)) (Reg 3) ∷ actions.Slot 3 (Reg 4) ∷ actions.Drop 4 ∷ []) ∷
            members.Method (Str (codes "take")) (actions.Load 2 0 ∷ actions.Load 3 1 ∷ actions.Later (codes "v") ∷ actions.Slot 0 (Reg 3) ∷ actions.Get 1 (Reg 3) (IntKey (pos 7)) ∷ actions.New 3 (codes "T") ∷ actions.Invoke 3 (Reg 3) (Str (codes "none")) (Reg 3 ∷ Reg 2 ∷ Reg 3 ∷ []) ∷ actions.New 1 (codes "Main") ∷ actions.Later (codes "u") ∷ actions.Return (Reg 0) ∷ []) ∷
            members.Method (Str (codes "m2")) (actions.Load 2 0 ∷ actions.New 3 (codes "T") ∷ actions.Put (Reg 0) (Str (codes "f0")) (Reg 2) ∷ actions.SelfTo 1 ∷ actions.Drop 3 ∷ actions.Put (Reg 2) (Str (codes "7")) (Reg 3) ∷ actions.Get 3 (Reg 0) (Str (codes "f0")) ∷ []) ∷
            members.Construct (actions.Load 3 1 ∷ actions.Load 2 0 ∷ actions.Get 0 (Reg 3) (Str (codes "f0")) ∷ actions.Load 0 1 ∷ []) ∷
            members.Method (Str (codes "m3")) (actions.Load 2 0 ∷ actions.New 2 (codes "T") ∷ actions.New 3 (codes "U") ∷ []) ∷ []);
      }) ∷
      (record {
        name = codes "T";
        version = 1;
        stored = true;
        members = (
            members.Method (Str (codes "m1")) (actions.New 1 (codes "Main") ∷ actions.Slot 0 (Reg 1) ∷ actions.New 3 (codes "Main") ∷ actions.Later (codes "t") ∷ []) ∷
            members.Method (Str (codes "take")) (actions.New 1 (codes "U") ∷ actions.New 3 (codes "T") ∷ actions.New 4 (codes "U") ∷ actions.New 2 (codes "None") ∷ []) ∷
            members.Method (IntKey (pos 4)) (actions.SelfTo 2 ∷ actions.Load 2 0 ∷ actions.Slot 0 (Reg 1) ∷ actions.Return (Reg 1) ∷ actions.Load 3 3 ∷ actions.Return (Reg 1) ∷ actions.OnEq (Const (values.Text (codes "e"))) (Reg 2) 1 ∷ actions.Set 3 (Const values.Null) ∷ actions.Invoke 3 (Reg 3) (Str (codes "take")) [] ∷ actions.Invoke 0 (Reg 1) (Str (codes "m2")) (Reg 0 ∷ Reg 0 ∷ Reg 14 ∷ []) ∷ []) ∷
            members.Method (Str (codes "m3")) (actions.SelfTo 2 ∷ actions.Load 3 1 ∷ actions.New 1 (codes "U") ∷ actions.Later (codes "v") ∷ actions.New 4 (codes "T") ∷ actions.New 2 (codes "T") ∷ actions.Enumerate 1 (Reg 9) ∷ actions.Set 0 (Reg 13) ∷ actions.Window 0 ∷ actions.Throw [] ∷ actions.Construct 3 (Reg 3) [] ∷ []) ∷
            members.Method (Str (codes "m0")) (actions.Load 2 0 ∷ actions.New 3 (codes "U") ∷ actions.New 5 (codes "U") ∷ actions.Put (Reg 10) (Str (codes "f0")) (Reg 0) ∷ actions.New 4 (codes "T") ∷ actions.Slot 0 (Reg 1) ∷ []) ∷
            members.Method (Str (codes "m2")) (actions.Load 3 1 ∷ actions.SelfTo 2 ∷ actions.Put (Reg 1) (Str (codes "f0")) (Reg 3) ∷ actions.Invoke 3 (Reg 0) (Str (codes "take")) (Reg 0 ∷ Reg 2 ∷ []) ∷ actions.New 2 (codes "Main") ∷ actions.Put (Reg 2) (Str (codes "f0")) (Reg 3) ∷ actions.Return (Reg 2) ∷ actions.Slot 0 (Const values.Void) ∷ []) ∷ []);
      }) ∷
      (record {
        name = codes "U";
        version = 3;
        stored = true;
        members = (
            members.Method (IntKey (pos 4)) (actions.Load 1 2 ∷ actions.HasProperty (Reg 3) (Str (codes "f1")) ∷ actions.HasMethod (Reg 5) (Str (codes "m3")) ∷ actions.Set 1 (Reg 2) ∷ actions.Load 3 3 ∷ actions.SelfTo 15 ∷ actions.Slot 0 (Const (values.Int (pos 100))) ∷ actions.GetUrl 3 (Const (values.Text (codes "r"))) (pos 8) ∷ []) ∷
            members.Method (Str (codes "m3")) (actions.SelfTo 2 ∷ actions.Load 2 2 ∷ actions.New 1 (codes "U") ∷ actions.Put (Reg 1) (IntKey (pos 7)) (Const (values.Text (codes "r"))) ∷ actions.Return (Reg 3) ∷ actions.Load 0 2 ∷ actions.Load 0 0 ∷ []) ∷
            members.Default (actions.Load 3 1 ∷ actions.New 3 (codes "T") ∷ actions.Window 1 ∷ actions.Invoke 3 (Reg 2) (Str (codes "take")) (Reg 2 ∷ Reg 0 ∷ Reg 3 ∷ []) ∷ actions.New 5 (codes "U") ∷ actions.New 2 (codes "Main") ∷ actions.Put (Reg 0) (Str (codes "f1")) (Reg 2) ∷ actions.Return (Reg 0) ∷ actions.Fail ∷ actions.Remove (Reg 2) (Str (codes "f1")) ∷ []) ∷
            members.Method (Str (codes "m2")) (actions.Load 1 2 ∷ actions.SelfTo 2 ∷ actions.New 2 (codes "T") ∷ actions.New 1 (codes "T") ∷ actions.Later (codes "v") ∷ []) ∷
            members.Method (Str (codes "take")) (actions.SelfTo 2 ∷ actions.Load 2 0 ∷ actions.New 5 (codes "T") ∷ actions.Put (Reg 2) (Str (codes "f0")) (Const (values.Int (pos 0))) ∷ actions.New 2 (codes "U") ∷ actions.Put (Reg 2) (Str (codes "f0")) (Reg 0) ∷ actions.New 3 (codes "T") ∷ actions.Slot 0 (Reg 2) ∷ actions.Drop 2 ∷ actions.Load 3 2 ∷ actions.New 2 (codes "None") ∷ actions.Put (Reg 3) (Str (codes "7")) (Reg 3) ∷ actions.Load 1 1 ∷ []) ∷
            members.Method (Str (codes "m0")) (actions.Fail ∷ actions.New 2 (codes "T") ∷ actions.Slot 0 (Reg 1) ∷ actions.Put (Const (values.Int (pos 14))) (Str (codes "7")) (Reg 1) ∷ actions.New 0 (codes "T") ∷ actions.Invoke 1 (Reg 1) (IntKey (pos 4)) (Reg 3 ∷ []) ∷ actions.Add 11 (Const (values.Double (0 ∷ 1 ∷ 2 ∷ 3 ∷ 4 ∷ 5 ∷ 6 ∷ 7 ∷ []))) (Reg 2) ∷ actions.Load 2 3 ∷ actions.Drop 1 ∷ []) ∷
            members.Method (Str (codes "m1")) (actions.Load 3 2 ∷ actions.Load 2 0 ∷ actions.New 2 (codes "Main") ∷ actions.New 5 (codes "U") ∷ actions.New 1 (codes "U") ∷ actions.Put (Reg 0) (Str (codes "f0")) (Reg 1) ∷ []) ∷ []);
      }) ∷ []);
  handlers = (
      (record { which = handlers.New; body = (actions.New 0 (codes "Main") ∷ actions.Slot 0 (Reg 0) ∷ actions.Window 1 ∷ actions.Slot 1 (Reg 1) ∷ []) }) ∷
      (record { which = handlers.Scriptable; body = (actions.Load 0 0 ∷ actions.Return (Reg 0) ∷ []) }) ∷
      (record { which = handlers.Destroy; body = (actions.Load 3 1 ∷ actions.SelfTo 2 ∷ actions.HasProperty (Reg 3) (Str (codes "f0")) ∷ actions.Slot 2 (Reg 2) ∷ actions.Load 2 1 ∷ []) }) ∷
      (record { which = handlers.Write; body = (actions.Load 0 2 ∷ actions.Load 2 0 ∷ actions.New 1 (codes "T") ∷ actions.New 2 (codes "Main") ∷ actions.Return (Const (values.Int (pos 0))) ∷ []) }) ∷
      (record { which = handlers.AsFile; body = [] }) ∷ []);
  tasks = (
      (record { name = codes "t"; body = (actions.Load 3 1 ∷ actions.Load 2 0 ∷ actions.New 1 (codes "T") ∷ actions.New 2 (codes "T") ∷ actions.Slot 1 (Reg 1) ∷ actions.Put (Reg 1) (Str (codes "f1")) (Reg 0) ∷ actions.Window 2 ∷ actions.Return (Reg 2) ∷ []) }) ∷
      (record { name = codes "u"; body = (actions.New 3 (codes "T") ∷ actions.New 5 (codes "Main") ∷ actions.New 2 (codes "T") ∷ actions.Put (Reg 3) (Str (codes "f0")) (Reg 4) ∷ actions.Put (Reg 3) (Str (codes "f1")) (Reg 3) ∷ actions.Slot 0 (Reg 3) ∷ actions.Enumerate 4 (Reg 3) ∷ []) }) ∷
      (record { name = codes "v"; body = (actions.Load 2 0 ∷ actions.New 1 (codes "T") ∷ actions.Note (Reg 1) ∷ []) }) ∷ []);
}

-- the run of both
both-end : outcome 1500 page plugin ≡ record {
  page = (
      Created (record { side = sides.Page; instance = 1; serial = 1 }) ∷
      CommandResult 1 (results.Code NoError) ∷
      CommandResult 2 (results.Yes (values.Object (record { side = sides.Plug; instance = 1; serial = 1 })) false) ∷
      Created (record { side = sides.Page; instance = 2; serial = 1 }) ∷
      CommandResult 3 (results.Code NoError) ∷
      CommandResult 4 (results.Yes (values.Object (record { side = sides.Plug; instance = 2; serial = 1 })) false) ∷
      Created (record { side = sides.Page; instance = 1; serial = 2 }) ∷
      CommandResult 5 (results.Yes (values.Object (record { side = sides.Page; instance = 1; serial = 2 })) false) ∷
      Created (record { side = sides.Page; instance = 2; serial = 2 }) ∷
      CommandResult 6 (results.Yes (values.Object (record { side = sides.Page; instance = 2; serial = 2 })) false) ∷
      Entered (record { side = sides.Page; instance = 1; serial = 2 }) (ops.Put (Str (codes "f0"))) ∷
      Entered (record { side = sides.Page; instance = 1; serial = 2 }) (ops.Get (Str (codes "f0"))) ∷
      CommandResult 7 (results.Yes values.Void false) ∷
      Entered (record { side = sides.Page; instance = 2; serial = 2 }) (ops.Put (Str (codes "f0"))) ∷
      Entered (record { side = sides.Page; instance = 2; serial = 2 }) (ops.Get (Str (codes "f0"))) ∷
      CommandResult 8 (results.Yes values.Void false) ∷
      Deallocated (record { side = sides.Page; instance = 2; serial = 2 }) ∷
      CommandResult 9 (results.Yes values.Void false) ∷
      CommandResult 10 (results.Yes values.Void false) ∷
      CommandResult 11 results.No ∷
      CommandResult 12 (results.Yes values.Void false) ∷
      ProxyGone (record { side = sides.Plug; instance = 1; serial = 1 }) ∷
      Invalidated (record { side = sides.Page; instance = 1; serial = 1 }) ∷
      Invalidated (record { side = sides.Page; instance = 1; serial = 2 }) ∷
      Deallocated (record { side = sides.Page; instance = 1; serial = 1 }) ∷
      Deallocated (record { side = sides.Page; instance = 1; serial = 2 }) ∷
      CommandResult 13 (results.Code NoError) ∷
      CommandResult 14 (results.Yes values.Void false) ∷
      Noted values.Void false ∷
      CommandResult 15 (results.Yes values.Void false) ∷
      CommandResult 16 results.No ∷
      CommandResult 17 results.No ∷
      CommandResult 18 (results.Yes values.Void false) ∷
      CommandResult 19 results.No ∷
      CommandResult 20 results.No ∷
      Entered (record { side = sides.Page; instance = 2; serial = 1 }) (ops.HasProperty (Str (codes "f0"))) ∷
      ProxyGone (record { side = sides.Plug; instance = 2; serial = 1 }) ∷
      Invalidated (record { side = sides.Page; instance = 2; serial = 1 }) ∷
      Deallocated (record { side = sides.Page; instance = 2; serial = 1 }) ∷ []);
  plugin = (
      HandlerRun 1 handlers.New ∷
      Created (record { side = sides.Plug; instance = 1; serial = 1 }) ∷
      HandlerRun 1 handlers.Scriptable ∷
      HandlerRun 2 handlers.New ∷
      Created (record { side = sides.Plug; instance = 2; serial = 1 }) ∷
      HandlerRun 2 handlers.Scriptable ∷
      Entered (record { side = sides.Plug; instance = 1; serial = 1 }) (ops.Invoke (Str (codes "m2"))) ∷
      Created (record { side = sides.Plug; instance = 1; serial = 2 }) ∷
      Deallocated (record { side = sides.Plug; instance = 1; serial = 2 }) ∷
      Entered (record { side = sides.Plug; instance = 1; serial = 1 }) (ops.Put (Str (codes "7"))) ∷
      Entered (record { side = sides.Plug; instance = 1; serial = 1 }) (ops.Invoke (Str (codes "m2"))) ∷
      Created (record { side = sides.Plug; instance = 1; serial = 3 }) ∷
      Deallocated (record { side = sides.Plug; instance = 1; serial = 3 }) ∷
      Entered (record { side = sides.Plug; instance = 1; serial = 1 }) (ops.Put (Str (codes "7"))) ∷
      Entered (record { side = sides.Plug; instance = 1; serial = 1 }) (ops.Invoke (Str (codes "m1"))) ∷
      Created (record { side = sides.Plug; instance = 1; serial = 4 }) ∷
      Created (record { side = sides.Plug; instance = 1; serial = 5 }) ∷
      Deallocated (record { side = sides.Plug; instance = 1; serial = 5 }) ∷
      Noted values.Void false ∷
      Deallocated (record { side = sides.Plug; instance = 1; serial = 4 }) ∷
      Entered (record { side = sides.Plug; instance = 1; serial = 1 }) (ops.Invoke (Str (codes "m0"))) ∷
      Created (record { side = sides.Plug; instance = 1; serial = 6 }) ∷
      Created (record { side = sides.Plug; instance = 1; serial = 7 }) ∷
      Entered (record { side = sides.Plug; instance = 1; serial = 1 }) (ops.Get (Str (codes "f0"))) ∷
      Deallocated (record { side = sides.Plug; instance = 1; serial = 6 }) ∷
      Deallocated (record { side = sides.Plug; instance = 1; serial = 7 }) ∷
      HandlerRun 1 handlers.Destroy ∷
      Invalidated (record { side = sides.Plug; instance = 1; serial = 1 }) ∷
      Deallocated (record { side = sides.Plug; instance = 1; serial = 1 }) ∷
      Entered (record { side = sides.Plug; instance = 2; serial = 1 }) (ops.Invoke (Str (codes "m3"))) ∷
      Created (record { side = sides.Plug; instance = 2; serial = 2 }) ∷
      Created (record { side = sides.Plug; instance = 2; serial = 3 }) ∷
      Deallocated (record { side = sides.Plug; instance = 2; serial = 2 }) ∷
      Deallocated (record { side = sides.Plug; instance = 2; serial = 3 }) ∷
      HandlerRun 2 handlers.Destroy ∷
      ProxyGone (record { side = sides.Page; instance = 2; serial = 1 }) ∷
      Invalidated (record { side = sides.Plug; instance = 2; serial = 1 }) ∷
      Deallocated (record { side = sides.Plug; instance = 2; serial = 1 }) ∷ []);
  files = [];
  rests = true;
}
unfolding encoding digits is_text is_utf8 chars encode_utf8
both-end = refl

-- the direct run
direct-run : direct_outcome 3000 page plugin ≡ record {
  page = (
      Created (record { side = sides.Page; instance = 1; serial = 1 }) ∷
      CommandResult 1 (results.Code NoError) ∷
      CommandResult 2 (results.Yes (values.Object (record { side = sides.Plug; instance = 1; serial = 1 })) false) ∷
      Created (record { side = sides.Page; instance = 2; serial = 1 }) ∷
      CommandResult 3 (results.Code NoError) ∷
      CommandResult 4 (results.Yes (values.Object (record { side = sides.Plug; instance = 2; serial = 1 })) false) ∷
      Created (record { side = sides.Page; instance = 1; serial = 2 }) ∷
      CommandResult 5 (results.Yes (values.Object (record { side = sides.Page; instance = 1; serial = 2 })) false) ∷
      Created (record { side = sides.Page; instance = 2; serial = 2 }) ∷
      CommandResult 6 (results.Yes (values.Object (record { side = sides.Page; instance = 2; serial = 2 })) false) ∷
      Entered (record { side = sides.Page; instance = 1; serial = 2 }) (ops.Put (Str (codes "f0"))) ∷
      Entered (record { side = sides.Page; instance = 1; serial = 2 }) (ops.Get (Str (codes "f0"))) ∷
      CommandResult 7 (results.Yes values.Void false) ∷
      Entered (record { side = sides.Page; instance = 2; serial = 2 }) (ops.Put (Str (codes "f0"))) ∷
      Entered (record { side = sides.Page; instance = 2; serial = 2 }) (ops.Get (Str (codes "f0"))) ∷
      CommandResult 8 (results.Yes values.Void false) ∷
      Deallocated (record { side = sides.Page; instance = 2; serial = 2 }) ∷
      CommandResult 9 (results.Yes values.Void false) ∷
      CommandResult 10 (results.Yes values.Void false) ∷
      CommandResult 11 results.No ∷
      CommandResult 12 (results.Yes values.Void false) ∷
      ProxyGone (record { side = sides.Plug; instance = 1; serial = 1 }) ∷
      Invalidated (record { side = sides.Page; instance = 1; serial = 1 }) ∷
      Invalidated (record { side = sides.Page; instance = 1; serial = 2 }) ∷
      Deallocated (record { side = sides.Page; instance = 1; serial = 1 }) ∷
      Deallocated (record { side = sides.Page; instance = 1; serial = 2 }) ∷
      CommandResult 13 (results.Code NoError) ∷
      CommandResult 14 (results.Yes values.Void false) ∷
      Noted values.Void false ∷
      CommandResult 15 (results.Yes values.Void false) ∷
      CommandResult 16 results.No ∷
      CommandResult 17 results.No ∷
      CommandResult 18 (results.Yes values.Void false) ∷
      CommandResult 19 results.No ∷
      CommandResult 20 results.No ∷
      Entered (record { side = sides.Page; instance = 2; serial = 1 }) (ops.HasProperty (Str (codes "f0"))) ∷
      ProxyGone (record { side = sides.Plug; instance = 2; serial = 1 }) ∷
      Invalidated (record { side = sides.Page; instance = 2; serial = 1 }) ∷
      Deallocated (record { side = sides.Page; instance = 2; serial = 1 }) ∷ []);
  plugin = (
      HandlerRun 1 handlers.New ∷
      Created (record { side = sides.Plug; instance = 1; serial = 1 }) ∷
      HandlerRun 1 handlers.Scriptable ∷
      HandlerRun 2 handlers.New ∷
      Created (record { side = sides.Plug; instance = 2; serial = 1 }) ∷
      HandlerRun 2 handlers.Scriptable ∷
      Entered (record { side = sides.Plug; instance = 1; serial = 1 }) (ops.Invoke (Str (codes "m2"))) ∷
      Created (record { side = sides.Plug; instance = 1; serial = 2 }) ∷
      Deallocated (record { side = sides.Plug; instance = 1; serial = 2 }) ∷
      Entered (record { side = sides.Plug; instance = 1; serial = 1 }) (ops.Put (Str (codes "7"))) ∷
      Entered (record { side = sides.Plug; instance = 1; serial = 1 }) (ops.Invoke (Str (codes "m2"))) ∷
      Created (record { side = sides.Plug; instance = 1; serial = 3 }) ∷
      Deallocated (record { side = sides.Plug; instance = 1; serial = 3 }) ∷
      Entered (record { side = sides.Plug; instance = 1; serial = 1 }) (ops.Put (Str (codes "7"))) ∷
      Entered (record { side = sides.Plug; instance = 1; serial = 1 }) (ops.Invoke (Str (codes "m1"))) ∷
      Created (record { side = sides.Plug; instance = 1; serial = 4 }) ∷
      Created (record { side = sides.Plug; instance = 1; serial = 5 }) ∷
      Deallocated (record { side = sides.Plug; instance = 1; serial = 5 }) ∷
      Noted values.Void false ∷
      Deallocated (record { side = sides.Plug; instance = 1; serial = 4 }) ∷
      Entered (record { side = sides.Plug; instance = 1; serial = 1 }) (ops.Invoke (Str (codes "m0"))) ∷
      Created (record { side = sides.Plug; instance = 1; serial = 6 }) ∷
      Created (record { side = sides.Plug; instance = 1; serial = 7 }) ∷
      Entered (record { side = sides.Plug; instance = 1; serial = 1 }) (ops.Get (Str (codes "f0"))) ∷
      Deallocated (record { side = sides.Plug; instance = 1; serial = 6 }) ∷
      Deallocated (record { side = sides.Plug; instance = 1; serial = 7 }) ∷
      HandlerRun 1 handlers.Destroy ∷
      Invalidated (record { side = sides.Plug; instance = 1; serial = 1 }) ∷
      Deallocated (record { side = sides.Plug; instance = 1; serial = 1 }) ∷
      Entered (record { side = sides.Plug; instance = 2; serial = 1 }) (ops.Invoke (Str (codes "m3"))) ∷
      Created (record { side = sides.Plug; instance = 2; serial = 2 }) ∷
      Created (record { side = sides.Plug; instance = 2; serial = 3 }) ∷
      Deallocated (record { side = sides.Plug; instance = 2; serial = 2 }) ∷
      Deallocated (record { side = sides.Plug; instance = 2; serial = 3 }) ∷
      HandlerRun 2 handlers.Destroy ∷
      ProxyGone (record { side = sides.Page; instance = 2; serial = 1 }) ∷
      Invalidated (record { side = sides.Plug; instance = 2; serial = 1 }) ∷
      Deallocated (record { side = sides.Plug; instance = 2; serial = 1 }) ∷ []);
  files = [];
  rests = true;
}
unfolding encoding digits is_text is_utf8 chars encode_utf8
direct-run = refl

-- each message is delivered at once, and none is refused
orderly-in-rounds : orderly_along (sides.Page ∷ sides.Plug ∷ []) 700 page plugin ≡ true
unfolding encoding digits is_text is_utf8 chars encode_utf8
orderly-in-rounds = refl

-- each message is delivered at once, and none is refused
orderly-page-ahead : orderly_along (sides.Page ∷ sides.Page ∷ sides.Page ∷ sides.Page ∷ sides.Page ∷ sides.Page ∷ sides.Plug ∷ []) 200 page plugin ≡ true
unfolding encoding digits is_text is_utf8 chars encode_utf8
orderly-page-ahead = refl

-- each message is delivered at once, and none is refused
orderly-plugin-ahead : orderly_along (sides.Page ∷ sides.Plug ∷ sides.Plug ∷ sides.Plug ∷ sides.Plug ∷ sides.Plug ∷ sides.Plug ∷ []) 200 page plugin ≡ true
unfolding encoding digits is_text is_utf8 chars encode_utf8
orderly-plugin-ahead = refl

-- all bytes that the page sends
page-sends : page_bytes 1500 page plugin ≡ (0 ∷ 0 ∷ 0 ∷ 7 ∷ 1 ∷ 1 ∷ 0 ∷ 0 ∷ 1 ∷ 0 ∷ 27 ∷ 0 ∷ 0 ∷ 0 ∷ 12 ∷ 2 ∷ 1 ∷ 0 ∷ 0 ∷ 1 ∷ 1 ∷ 0 ∷ 3 ∷ 116 ∷ 47 ∷ 120 ∷ 0 ∷ 0 ∷ 0 ∷ 0 ∷ 11 ∷ 65 ∷ 2 ∷ 0 ∷ 0 ∷ 6 ∷ 0 ∷ 1 ∷ 0 ∷ 0 ∷ 0 ∷ 1 ∷ 0 ∷ 0 ∷ 0 ∷ 5 ∷ 4 ∷ 1 ∷ 0 ∷ 0 ∷ 1 ∷ 0 ∷ 0 ∷ 0 ∷ 24 ∷ 2 ∷ 1 ∷ 0 ∷ 0 ∷ 2 ∷ 1 ∷ 0 ∷ 3 ∷ 116 ∷ 47 ∷ 120 ∷ 2 ∷ 0 ∷ 1 ∷ 97 ∷ 0 ∷ 1 ∷ 49 ∷ 0 ∷ 1 ∷ 97 ∷ 0 ∷ 1 ∷ 49 ∷ 0 ∷ 0 ∷ 0 ∷ 11 ∷ 65 ∷ 2 ∷ 0 ∷ 0 ∷ 6 ∷ 0 ∷ 2 ∷ 0 ∷ 0 ∷ 0 ∷ 1 ∷ 0 ∷ 0 ∷ 0 ∷ 5 ∷ 4 ∷ 1 ∷ 0 ∷ 0 ∷ 2 ∷ 0 ∷ 0 ∷ 0 ∷ 37 ∷ 64 ∷ 1 ∷ 0 ∷ 0 ∷ 1 ∷ 0 ∷ 0 ∷ 0 ∷ 1 ∷ 1 ∷ 0 ∷ 0 ∷ 2 ∷ 109 ∷ 50 ∷ 3 ∷ 6 ∷ 0 ∷ 1 ∷ 0 ∷ 0 ∷ 0 ∷ 2 ∷ 6 ∷ 1 ∷ 2 ∷ 0 ∷ 0 ∷ 0 ∷ 1 ∷ 6 ∷ 1 ∷ 1 ∷ 0 ∷ 0 ∷ 0 ∷ 1 ∷ 0 ∷ 0 ∷ 0 ∷ 5 ∷ 65 ∷ 2 ∷ 0 ∷ 0 ∷ 0 ∷ 0 ∷ 0 ∷ 0 ∷ 11 ∷ 65 ∷ 2 ∷ 0 ∷ 0 ∷ 6 ∷ 1 ∷ 1 ∷ 0 ∷ 0 ∷ 0 ∷ 1 ∷ 0 ∷ 0 ∷ 0 ∷ 23 ∷ 64 ∷ 1 ∷ 0 ∷ 0 ∷ 1 ∷ 0 ∷ 0 ∷ 0 ∷ 1 ∷ 1 ∷ 0 ∷ 0 ∷ 2 ∷ 109 ∷ 50 ∷ 1 ∷ 6 ∷ 0 ∷ 2 ∷ 0 ∷ 0 ∷ 0 ∷ 2 ∷ 0 ∷ 0 ∷ 0 ∷ 5 ∷ 65 ∷ 2 ∷ 0 ∷ 0 ∷ 0 ∷ 0 ∷ 0 ∷ 0 ∷ 11 ∷ 65 ∷ 2 ∷ 0 ∷ 0 ∷ 6 ∷ 1 ∷ 1 ∷ 0 ∷ 0 ∷ 0 ∷ 1 ∷ 0 ∷ 0 ∷ 0 ∷ 16 ∷ 64 ∷ 1 ∷ 0 ∷ 0 ∷ 1 ∷ 0 ∷ 0 ∷ 0 ∷ 1 ∷ 1 ∷ 0 ∷ 0 ∷ 2 ∷ 109 ∷ 49 ∷ 0 ∷ 0 ∷ 0 ∷ 0 ∷ 11 ∷ 65 ∷ 2 ∷ 0 ∷ 0 ∷ 6 ∷ 0 ∷ 1 ∷ 0 ∷ 0 ∷ 0 ∷ 1 ∷ 0 ∷ 0 ∷ 0 ∷ 31 ∷ 64 ∷ 1 ∷ 0 ∷ 0 ∷ 1 ∷ 0 ∷ 0 ∷ 0 ∷ 1 ∷ 1 ∷ 0 ∷ 0 ∷ 2 ∷ 109 ∷ 48 ∷ 3 ∷ 6 ∷ 0 ∷ 1 ∷ 0 ∷ 0 ∷ 0 ∷ 2 ∷ 6 ∷ 1 ∷ 2 ∷ 0 ∷ 0 ∷ 0 ∷ 1 ∷ 0 ∷ 0 ∷ 0 ∷ 0 ∷ 5 ∷ 69 ∷ 2 ∷ 0 ∷ 0 ∷ 9 ∷ 0 ∷ 0 ∷ 0 ∷ 5 ∷ 3 ∷ 1 ∷ 0 ∷ 0 ∷ 1 ∷ 0 ∷ 0 ∷ 0 ∷ 4 ∷ 5 ∷ 1 ∷ 0 ∷ 0 ∷ 0 ∷ 0 ∷ 0 ∷ 31 ∷ 64 ∷ 1 ∷ 0 ∷ 0 ∷ 2 ∷ 0 ∷ 0 ∷ 0 ∷ 1 ∷ 1 ∷ 0 ∷ 0 ∷ 2 ∷ 109 ∷ 51 ∷ 3 ∷ 6 ∷ 1 ∷ 1 ∷ 0 ∷ 0 ∷ 0 ∷ 1 ∷ 6 ∷ 0 ∷ 1 ∷ 0 ∷ 0 ∷ 0 ∷ 2 ∷ 0 ∷ 0 ∷ 0 ∷ 0 ∷ 5 ∷ 3 ∷ 1 ∷ 0 ∷ 0 ∷ 2 ∷ 0 ∷ 0 ∷ 0 ∷ 4 ∷ 66 ∷ 2 ∷ 0 ∷ 0 ∷ 0 ∷ 0 ∷ 0 ∷ 4 ∷ 12 ∷ 1 ∷ 0 ∷ 0 ∷ [])
unfolding encoding digits is_text is_utf8 chars encode_utf8
page-sends = refl

-- all bytes that the plugin sends
plugin-sends : plugin_bytes 1500 page plugin ≡ (0 ∷ 0 ∷ 0 ∷ 5 ∷ 69 ∷ 1 ∷ 0 ∷ 0 ∷ 0 ∷ 0 ∷ 0 ∷ 0 ∷ 5 ∷ 32 ∷ 2 ∷ 0 ∷ 0 ∷ 1 ∷ 0 ∷ 0 ∷ 0 ∷ 5 ∷ 69 ∷ 1 ∷ 0 ∷ 0 ∷ 0 ∷ 0 ∷ 0 ∷ 0 ∷ 11 ∷ 65 ∷ 1 ∷ 0 ∷ 0 ∷ 6 ∷ 1 ∷ 1 ∷ 0 ∷ 0 ∷ 0 ∷ 1 ∷ 0 ∷ 0 ∷ 0 ∷ 5 ∷ 32 ∷ 2 ∷ 0 ∷ 0 ∷ 2 ∷ 0 ∷ 0 ∷ 0 ∷ 5 ∷ 69 ∷ 1 ∷ 0 ∷ 0 ∷ 0 ∷ 0 ∷ 0 ∷ 0 ∷ 11 ∷ 65 ∷ 1 ∷ 0 ∷ 0 ∷ 6 ∷ 1 ∷ 2 ∷ 0 ∷ 0 ∷ 0 ∷ 1 ∷ 0 ∷ 0 ∷ 0 ∷ 22 ∷ 64 ∷ 2 ∷ 0 ∷ 0 ∷ 1 ∷ 0 ∷ 0 ∷ 0 ∷ 2 ∷ 5 ∷ 0 ∷ 0 ∷ 2 ∷ 102 ∷ 48 ∷ 6 ∷ 1 ∷ 1 ∷ 0 ∷ 0 ∷ 0 ∷ 1 ∷ 0 ∷ 0 ∷ 0 ∷ 15 ∷ 64 ∷ 2 ∷ 0 ∷ 0 ∷ 1 ∷ 0 ∷ 0 ∷ 0 ∷ 2 ∷ 4 ∷ 0 ∷ 0 ∷ 2 ∷ 102 ∷ 48 ∷ 0 ∷ 0 ∷ 0 ∷ 14 ∷ 65 ∷ 1 ∷ 0 ∷ 1 ∷ 1 ∷ 0 ∷ 0 ∷ 0 ∷ 2 ∷ 0 ∷ 0 ∷ 0 ∷ 1 ∷ 0 ∷ 0 ∷ 0 ∷ 0 ∷ 22 ∷ 64 ∷ 2 ∷ 0 ∷ 0 ∷ 2 ∷ 0 ∷ 0 ∷ 0 ∷ 2 ∷ 5 ∷ 0 ∷ 0 ∷ 2 ∷ 102 ∷ 48 ∷ 6 ∷ 1 ∷ 1 ∷ 0 ∷ 0 ∷ 0 ∷ 1 ∷ 0 ∷ 0 ∷ 0 ∷ 15 ∷ 64 ∷ 2 ∷ 0 ∷ 0 ∷ 2 ∷ 0 ∷ 0 ∷ 0 ∷ 2 ∷ 4 ∷ 0 ∷ 0 ∷ 2 ∷ 102 ∷ 48 ∷ 0 ∷ 0 ∷ 0 ∷ 14 ∷ 65 ∷ 1 ∷ 0 ∷ 1 ∷ 2 ∷ 0 ∷ 0 ∷ 0 ∷ 2 ∷ 0 ∷ 0 ∷ 0 ∷ 1 ∷ 0 ∷ 0 ∷ 0 ∷ 0 ∷ 14 ∷ 32 ∷ 2 ∷ 0 ∷ 1 ∷ 1 ∷ 0 ∷ 0 ∷ 0 ∷ 1 ∷ 0 ∷ 0 ∷ 0 ∷ 1 ∷ 1 ∷ 0 ∷ 0 ∷ 0 ∷ 14 ∷ 65 ∷ 1 ∷ 0 ∷ 1 ∷ 1 ∷ 0 ∷ 0 ∷ 0 ∷ 1 ∷ 0 ∷ 0 ∷ 0 ∷ 1 ∷ 0 ∷ 0 ∷ 0 ∷ 0 ∷ 42 ∷ 34 ∷ 2 ∷ 0 ∷ 0 ∷ 1 ∷ 0 ∷ 0 ∷ 0 ∷ 2 ∷ 4 ∷ 255 ∷ 255 ∷ 255 ∷ 253 ∷ 0 ∷ 0 ∷ 0 ∷ 2 ∷ 255 ∷ 255 ∷ 255 ∷ 254 ∷ 0 ∷ 0 ∷ 0 ∷ 3 ∷ 255 ∷ 255 ∷ 255 ∷ 255 ∷ 0 ∷ 0 ∷ 0 ∷ 3 ∷ 255 ∷ 255 ∷ 255 ∷ 253 ∷ 0 ∷ 0 ∷ 35 ∷ 40 ∷ 0 ∷ 0 ∷ 0 ∷ 14 ∷ 65 ∷ 1 ∷ 0 ∷ 1 ∷ 1 ∷ 0 ∷ 0 ∷ 0 ∷ 2 ∷ 0 ∷ 0 ∷ 0 ∷ 1 ∷ 0 ∷ 0 ∷ 0 ∷ 0 ∷ 5 ∷ 69 ∷ 1 ∷ 0 ∷ 0 ∷ 0 ∷ 0 ∷ 0 ∷ 0 ∷ 4 ∷ 71 ∷ 1 ∷ 0 ∷ 0 ∷ 0 ∷ 0 ∷ 0 ∷ 5 ∷ 65 ∷ 1 ∷ 0 ∷ 0 ∷ 0 ∷ 0 ∷ 0 ∷ 0 ∷ 15 ∷ 64 ∷ 2 ∷ 0 ∷ 0 ∷ 2 ∷ 0 ∷ 0 ∷ 0 ∷ 1 ∷ 8 ∷ 0 ∷ 0 ∷ 2 ∷ 102 ∷ 48 ∷ 0 ∷ 0 ∷ 0 ∷ 5 ∷ 69 ∷ 1 ∷ 0 ∷ 0 ∷ 0 ∷ 0 ∷ 0 ∷ 0 ∷ 4 ∷ 71 ∷ 1 ∷ 0 ∷ 0 ∷ [])
unfolding encoding digits is_text is_utf8 chars encode_utf8
plugin-sends = refl

-- the plug-in's first 187 bytes hold 12 whole messages
cut-187 : lost_outcome 1500 (Some 12) page plugin ≡ record {
  page = (
      Created (record { side = sides.Page; instance = 1; serial = 1 }) ∷
      CommandResult 1 (results.Code NoError) ∷
      CommandResult 2 (results.Yes (values.Object (record { side = sides.Plug; instance = 1; serial = 1 })) false) ∷
      Created (record { side = sides.Page; instance = 2; serial = 1 }) ∷
      CommandResult 3 (results.Code NoError) ∷
      CommandResult 4 (results.Yes (values.Object (record { side = sides.Plug; instance = 2; serial = 1 })) false) ∷
      Created (record { side = sides.Page; instance = 1; serial = 2 }) ∷
      CommandResult 5 (results.Yes (values.Object (record { side = sides.Page; instance = 1; serial = 2 })) false) ∷
      Created (record { side = sides.Page; instance = 2; serial = 2 }) ∷
      CommandResult 6 (results.Yes (values.Object (record { side = sides.Page; instance = 2; serial = 2 })) false) ∷
      Entered (record { side = sides.Page; instance = 1; serial = 2 }) (ops.Put (Str (codes "f0"))) ∷
      Entered (record { side = sides.Page; instance = 1; serial = 2 }) (ops.Get (Str (codes "f0"))) ∷
      CommandResult 7 (results.Yes values.Void false) ∷
      Entered (record { side = sides.Page; instance = 2; serial = 2 }) (ops.Put (Str (codes "f0"))) ∷
      Entered (record { side = sides.Page; instance = 2; serial = 2 }) (ops.Get (Str (codes "f0"))) ∷
      ProxyGone (record { side = sides.Plug; instance = 1; serial = 1 }) ∷
      Invalidated (record { side = sides.Page; instance = 1; serial = 1 }) ∷
      Invalidated (record { side = sides.Page; instance = 1; serial = 2 }) ∷
      Deallocated (record { side = sides.Page; instance = 1; serial = 1 }) ∷
      Deallocated (record { side = sides.Page; instance = 1; serial = 2 }) ∷
      ProxyGone (record { side = sides.Plug; instance = 2; serial = 1 }) ∷
      Invalidated (record { side = sides.Page; instance = 2; serial = 1 }) ∷
      Invalidated (record { side = sides.Page; instance = 2; serial = 2 }) ∷
      Deallocated (record { side = sides.Page; instance = 2; serial = 1 }) ∷
      Deallocated (record { side = sides.Page; instance = 2; serial = 2 }) ∷
      CommandResult 8 results.No ∷
      CommandResult 9 (results.Yes values.Void false) ∷
      CommandResult 10 results.No ∷
      CommandResult 11 results.No ∷
      CommandResult 12 results.No ∷
      CommandResult 13 (results.Code InvalidInstance) ∷
      CommandResult 14 results.No ∷
      Noted values.Void false ∷
      CommandResult 15 (results.Yes values.Void false) ∷
      CommandResult 16 results.No ∷
      CommandResult 17 results.No ∷
      CommandResult 18 results.No ∷
      CommandResult 19 results.No ∷
      CommandResult 20 results.No ∷ []);
  rests = true;
}
unfolding encoding digits is_text is_utf8 chars encode_utf8
cut-187 = refl

-- the plug-in's first 248 bytes hold 15 whole messages
cut-248 : lost_outcome 1500 (Some 15) page plugin ≡ record {
  page = (
      Created (record { side = sides.Page; instance = 1; serial = 1 }) ∷
      CommandResult 1 (results.Code NoError) ∷
      CommandResult 2 (results.Yes (values.Object (record { side = sides.Plug; instance = 1; serial = 1 })) false) ∷
      Created (record { side = sides.Page; instance = 2; serial = 1 }) ∷
      CommandResult 3 (results.Code NoError) ∷
      CommandResult 4 (results.Yes (values.Object (record { side = sides.Plug; instance = 2; serial = 1 })) false) ∷
      Created (record { side = sides.Page; instance = 1; serial = 2 }) ∷
      CommandResult 5 (results.Yes (values.Object (record { side = sides.Page; instance = 1; serial = 2 })) false) ∷
      Created (record { side = sides.Page; instance = 2; serial = 2 }) ∷
      CommandResult 6 (results.Yes (values.Object (record { side = sides.Page; instance = 2; serial = 2 })) false) ∷
      Entered (record { side = sides.Page; instance = 1; serial = 2 }) (ops.Put (Str (codes "f0"))) ∷
      Entered (record { side = sides.Page; instance = 1; serial = 2 }) (ops.Get (Str (codes "f0"))) ∷
      CommandResult 7 (results.Yes values.Void false) ∷
      Entered (record { side = sides.Page; instance = 2; serial = 2 }) (ops.Put (Str (codes "f0"))) ∷
      Entered (record { side = sides.Page; instance = 2; serial = 2 }) (ops.Get (Str (codes "f0"))) ∷
      CommandResult 8 (results.Yes values.Void false) ∷
      Deallocated (record { side = sides.Page; instance = 2; serial = 2 }) ∷
      CommandResult 9 (results.Yes values.Void false) ∷
      CommandResult 10 (results.Yes values.Void false) ∷
      CommandResult 11 results.No ∷
      ProxyGone (record { side = sides.Plug; instance = 1; serial = 1 }) ∷
      Invalidated (record { side = sides.Page; instance = 1; serial = 1 }) ∷
      Invalidated (record { side = sides.Page; instance = 1; serial = 2 }) ∷
      Deallocated (record { side = sides.Page; instance = 1; serial = 1 }) ∷
      Deallocated (record { side = sides.Page; instance = 1; serial = 2 }) ∷
      ProxyGone (record { side = sides.Plug; instance = 2; serial = 1 }) ∷
      Invalidated (record { side = sides.Page; instance = 2; serial = 1 }) ∷
      Deallocated (record { side = sides.Page; instance = 2; serial = 1 }) ∷
      CommandResult 12 results.No ∷
      CommandResult 13 (results.Code InvalidInstance) ∷
      CommandResult 14 results.No ∷
      Noted values.Void false ∷
      CommandResult 15 (results.Yes values.Void false) ∷
      CommandResult 16 results.No ∷
      CommandResult 17 results.No ∷
      CommandResult 18 results.No ∷
      CommandResult 19 results.No ∷
      CommandResult 20 results.No ∷ []);
  rests = true;
}
unfolding encoding digits is_text is_utf8 chars encode_utf8
cut-248 = refl
