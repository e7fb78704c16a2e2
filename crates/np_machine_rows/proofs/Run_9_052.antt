-- Made by tools/vector-theorems of tests/vectors/9-052.
use Rattle.std.proofs.Common.{◌≡◌, pos, negsuc, [], ◌∷◌, refl, true, false, Some}
use Rattle.std.specs.Prelude.{codes}
use Rattle.std.specs.Char.{encode_utf8}
use Rattle.std.specs.Fmt.{digits}
use Rattle.std.specs.Str.{is_utf8, chars}
use Rattle.np_values.specs.declared.error.NpError.TheVariants.{NoError, InvalidInstance, ModuleLoadFailed}
use Rattle.np_values.specs.declared.handler.Handler.TheVariants as handlers
use Rattle.np_values.specs.declared.name.Side.TheVariants as sides
use Rattle.np_values.specs.declared.reason.NpReason.TheVariants as reasons
use Rattle.np_values.specs.declared.value.Value.TheVariants as values
use Rattle.np_values.specs.Text.{is_text}
use Rattle.np_idents.specs.declared.key.IdKey.TheVariants.{Str, Int as IntKey}
use Rattle.np_idents.specs.declared.op.Op.TheVariants as ops
use Rattle.np_script_grammar.specs.declared.action.Action.TheVariants as actions
use Rattle.np_script_grammar.specs.declared.action.Operand.TheVariants.{Reg, Const}
use Rattle.np_script_grammar.specs.declared.class.Member.TheVariants as members
use Rattle.np_script_grammar.specs.declared.command.Command.TheVariants as commands
use Rattle.np_script_grammar.specs.declared.page.Page.{Page}
use Rattle.np_script_grammar.specs.declared.plugin.Plugin.{Plugin}
use Rattle.np_message.specs.Encoding.{encoding}
use Rattle.np_journal.specs.declared.line.Line.TheVariants.{Created, Entered, HandlerRun, ProxyGone, Invalidated, Deallocated, Noted, StreamAnswered, CommandResult}
use Rattle.np_journal.specs.declared.printed.Printed.TheVariants as results
use Rattle.np_journal.specs.declared.streamed.Streamed.TheVariants as streams
use Rattle.np_machine_plans.specs.Outcomes.{resource, outcome, page_bytes, plugin_bytes, lost_outcome}

abbrev page : Page
page = record {
  major = 0;
  minor = 27;
  classes = (
      (record {
        name = codes "Window";
        version = 1;
        stored = false;
        members = (
            members.Method (IntKey (pos 4)) (actions.Load 3 1 ∷ actions.Slot 3 (Reg 2) ∷ actions.Invoke 1 (Reg 3) (Str (codes "take")) (Reg 1 ∷ Reg 2 ∷ []) ∷ actions.Load 4 0 ∷ actions.HasMethod (Reg 1) (Str (codes "m3")) ∷ actions.Load 0 3 ∷ actions.Add 0 (Reg 3) (Reg 0) ∷ actions.Note (Reg 3) ∷ []) ∷
            members.Method (Str (codes "m3")) (actions.Load 2 2 ∷ actions.Load 3 1 ∷ actions.Add 1 (Const (values.Text (codes "r"))) (Reg 5) ∷ actions.Load 2 0 ∷ actions.Get 10 (Reg 1) (Str (codes "f1")) ∷ actions.New 3 (codes "B") ∷ []) ∷
            members.Method (Str (codes "take")) (actions.Load 3 1 ∷ actions.Load 2 0 ∷ actions.New 3 (codes "Window") ∷ actions.Invoke 2 (Reg 1) (Str (codes "none")) (Const (values.Int (pos 2147483647)) ∷ Reg 0 ∷ []) ∷ actions.Destroy 2 2 ∷ []) ∷
            members.Method (Str (codes "m1")) (actions.New 5 (codes "Window") ∷ actions.Drop 0 ∷ actions.Get 1 (Reg 3) (Str (codes "f0")) ∷ actions.New 1 (codes "A") ∷ actions.SelfTo 1 ∷ actions.New 4 (codes "A") ∷ actions.OnFalse 1 ∷ actions.Invoke 2 (Reg 3) (Str (codes "m3")) (Reg 0 ∷ Const (values.Text (195 ∷ 164 ∷ 34 ∷ 92 ∷ 1 ∷ 127 ∷ [])) ∷ Reg 0 ∷ []) ∷ actions.New 4 (codes "B") ∷ actions.New 5 (codes "Window") ∷ actions.Put (Reg 4) (Str (codes "f1")) (Reg 4) ∷ actions.New 5 (codes "A") ∷ actions.Put (Reg 4) (Str (codes "f0")) (Reg 3) ∷ []) ∷
            members.Getter (Str (codes "f0")) (actions.Load 2 0 ∷ actions.Invoke 2 (Reg 3) (Str (codes "take")) (Reg 2 ∷ Reg 5 ∷ Reg 2 ∷ []) ∷ actions.SelfTo 2 ∷ actions.Load 4 2 ∷ actions.Load 2 0 ∷ []) ∷
            members.Method (Str (codes "m0")) (actions.Load 3 1 ∷ actions.New 3 (codes "A") ∷ actions.Note (Reg 3) ∷ actions.Slot 1 (Reg 3) ∷ actions.Enumerate 3 (Reg 1) ∷ actions.Load 3 0 ∷ []) ∷
            members.Method (Str (codes "m2")) (actions.SelfTo 2 ∷ actions.Load 3 1 ∷ actions.New 4 (codes "Window") ∷ actions.New 5 (codes "B") ∷ actions.Put (Reg 4) (Str (codes "f1")) (Reg 5) ∷ actions.New 4 (codes "B") ∷ actions.Return (Reg 4) ∷ actions.Invoke 1 (Reg 0) (Str (codes "take")) (Const (values.Int (pos 14)) ∷ Const (values.Text []) ∷ Reg 2 ∷ []) ∷ actions.Set 0 (Reg 2) ∷ []) ∷
            members.Default (actions.Load 2 0 ∷ actions.Enumerate 3 (Reg 0) ∷ actions.Fail ∷ actions.Invoke 4 (Reg 3) (Str (codes "take")) (Reg 2 ∷ Reg 3 ∷ Reg 3 ∷ []) ∷ []) ∷ []);
      }) ∷
      (record {
        name = codes "A";
        version = 2;
        stored = false;
        members = (
            members.Method (Str (codes "m1")) (actions.New 4 (codes "A") ∷ actions.Slot 3 (Reg 0) ∷ actions.Put (Reg 0) (Str (codes "f0")) (Reg 1) ∷ actions.New 1 (codes "A") ∷ actions.Load 0 1 ∷ actions.Load 0 0 ∷ []) ∷
            members.Method (Str (codes "m2")) [] ∷
            members.Method (Str (codes "m3")) (actions.Load 3 1 ∷ actions.Note (Reg 1) ∷ []) ∷
            members.Getter (Str (codes "f0")) [] ∷
            members.Method (Str (codes "take")) (actions.SelfTo 2 ∷ actions.Load 3 1 ∷ actions.New 1 (codes "Window") ∷ actions.Put (Reg 1) (Str (codes "f0")) (Reg 0) ∷ actions.Slot 3 (Reg 1) ∷ actions.Drop 1 ∷ actions.New 1 (codes "Window") ∷ []) ∷
            members.Setter (Str (codes "f1")) (actions.Load 3 3 ∷ actions.Fail ∷ actions.New 1 (codes "A") ∷ actions.Load 3 2 ∷ actions.Load 0 2 ∷ []) ∷
            members.Method (IntKey (pos 4)) (actions.Load 1 2 ∷ actions.Load 3 1 ∷ actions.HasMethod (Reg 0) (Str (codes "m1")) ∷ actions.Get 1 (Reg 1) (Str (codes "f1")) ∷ actions.Slot 0 (Reg 0) ∷ actions.Put (Reg 2) (Str (codes "f0")) (Reg 2) ∷ actions.Fail ∷ actions.New 4 (codes "Window") ∷ actions.Put (Reg 4) (Str (codes "f0")) (Reg 5) ∷ actions.Slot 1 (Reg 4) ∷ actions.Drop 4 ∷ []) ∷ []);
      }) ∷
      (record {
        name = codes "B";
        version = 3;
        stored = false;
        members = (
            members.Method (Str (codes "m2")) (actions.Load 2 0 ∷ actions.Invoke 0 (Reg 3) (Str (codes "take")) (Const (values.Int (pos 14)) ∷ []) ∷ []) ∷
            members.Method (IntKey (pos 4)) (actions.SelfTo 2 ∷ actions.Throw [] ∷ []) ∷
            members.Method (Str (codes "m0")) (actions.SelfTo 2 ∷ actions.Load 3 1 ∷ actions.Drop 3 ∷ actions.Load 1 2 ∷ actions.Invoke 2 (Reg 2) (Str (codes "take")) [] ∷ actions.Drop 12 ∷ actions.Load 0 0 ∷ actions.Load 3 3 ∷ []) ∷
            members.Method (Str (codes "m3")) (actions.Load 1 2 ∷ actions.Load 2 0 ∷ actions.New 5 (codes "B") ∷ actions.Return (Reg 1) ∷ actions.New 3 (codes "B") ∷ actions.Load 2 1 ∷ []) ∷
            members.Method (Str (codes "take")) (actions.Load 1 2 ∷ actions.SelfTo 2 ∷ actions.Slot 1 (Const (values.Text [])) ∷ actions.Get 1 (Reg 0) (Str (codes "f1")) ∷ actions.Invoke 2 (Reg 1) (Str (codes "none")) (Reg 3 ∷ Reg 3 ∷ Reg 3 ∷ []) ∷ actions.Slot 3 (Reg 4) ∷ actions.Load 1 0 ∷ actions.Load 0 1 ∷ []) ∷ []);
      }) ∷ []);
  resources = (
      resource (codes "r") (codes "t/p") 4 (195 ∷ 164 ∷ []) ∷
      resource (codes "s") (codes "t/p") 1 (195 ∷ 164 ∷ []) ∷
      resource (codes "e") (codes "t/p") 0 (codes "0123456789") ∷ []);
  commands = (
      commands.Create (codes "t/x") 1 (codes "a" ∷ codes "1" ∷ codes "a" ∷ codes "1" ∷ []) ∷
      commands.Scriptable 0 1 ∷
      commands.Create (codes "t/x") 1 [] ∷
      commands.Scriptable 1 2 ∷
      commands.New 2 1 (codes "B") ∷
      commands.New 3 2 (codes "B") ∷
      commands.Invoke 5 (Reg 1) (Str (codes "m1")) (Reg 0 ∷ Reg 1 ∷ Reg 3 ∷ []) ∷
      commands.Invoke 5 (Reg 3) (Str (codes "take")) (Reg 0 ∷ Reg 1 ∷ Reg 5 ∷ []) ∷
      commands.Invoke 5 (Reg 1) (Str (codes "m2")) (Reg 1 ∷ Reg 2 ∷ Const (values.Int (pos 2147483647)) ∷ []) ∷
      commands.Invoke 4 (Reg 0) (Str (codes "m3")) (Reg 0 ∷ Reg 4 ∷ Reg 2 ∷ []) ∷
      commands.Invoke 5 (Reg 4) (Str (codes "m0")) (Reg 2 ∷ Reg 0 ∷ Reg 4 ∷ []) ∷
      commands.Invoke 5 (Reg 4) (Str (codes "m0")) (Reg 0 ∷ Reg 4 ∷ Reg 3 ∷ []) ∷
      commands.Invoke 4 (Reg 3) (Str (codes "m2")) (Reg 2 ∷ Reg 4 ∷ Reg 1 ∷ []) ∷
      commands.OpenStream 1 (codes "e") ∷
      commands.Turn ∷
      commands.New 4 1 (codes "Window") ∷
      commands.Invoke 5 (Reg 1) (Str (codes "m2")) (Reg 3 ∷ []) ∷
      commands.Drop 3 ∷
      commands.Invoke 4 (Reg 1) (Str (codes "take")) (Reg 1 ∷ []) ∷
      commands.Turn ∷
      commands.Invoke 5 (Reg 2) (Str (codes "m0")) (Reg 0 ∷ Reg 2 ∷ Const (values.Text (195 ∷ 164 ∷ 34 ∷ 92 ∷ 1 ∷ 127 ∷ [])) ∷ []) ∷
      commands.Get 0 (Reg 1) (Str (codes "f1")) ∷
      commands.Invoke 5 (Reg 2) (Str (codes "m1")) (Reg 2 ∷ Reg 1 ∷ []) ∷
      commands.New 0 2 (codes "Window") ∷
      commands.Invoke 2 (Reg 3) (Str (codes "m2")) (Reg 2 ∷ Reg 0 ∷ Reg 2 ∷ []) ∷
      commands.New 1 2 (codes "A") ∷
      commands.Invoke 5 (Reg 1) (Str (codes "m1")) (Reg 1 ∷ Reg 4 ∷ Reg 3 ∷ []) ∷
      commands.Invoke 4 (Reg 3) (Str (codes "m1")) (Reg 2 ∷ Reg 3 ∷ Reg 1 ∷ []) ∷
      commands.Invoke 3 (Reg 0) (Str (codes "m3")) (Reg 3 ∷ Reg 1 ∷ Const (values.Bool true) ∷ []) ∷
      commands.New 6 2 (codes "Window") ∷
      commands.Invoke 2 (Reg 0) (Str (codes "m3")) (Reg 1 ∷ []) ∷
      commands.Invoke 5 (Reg 2) (Str (codes "m3")) (Reg 0 ∷ Reg 3 ∷ Reg 4 ∷ []) ∷
      commands.Note (Reg 2) ∷
      commands.Scriptable 2 2 ∷
      commands.Invoke 4 (Reg 3) (Str (codes "take")) (Const (values.Int (pos 14)) ∷ []) ∷
      commands.Invoke 5 (Reg 0) (Str (codes "m2")) (Reg 2 ∷ []) ∷
      commands.Drop 2 ∷
      commands.Invoke 2 (Reg 0) (Str (codes "m1")) [] ∷
      commands.Create (codes "t/y") 2 [] ∷
      commands.Scriptable 0 3 ∷
      commands.Get 3 (Reg 2) (Str (codes "f0")) ∷
      commands.Pump 8 ∷
      commands.Invoke 4 (Reg 1) (Str (codes "m0")) (Reg 5 ∷ Reg 0 ∷ Reg 3 ∷ []) ∷
      commands.Invoke 5 (Reg 3) (IntKey (pos 4)) (Reg 2 ∷ []) ∷
      commands.Invoke 3 (Reg 4) (Str (codes "m3")) (Reg 4 ∷ Reg 2 ∷ Reg 3 ∷ []) ∷
      commands.Invoke 2 (Reg 3) (Str (codes "take")) (Reg 0 ∷ Reg 1 ∷ []) ∷
      commands.Invoke 5 (Reg 4) (Str (codes "m1")) (Reg 3 ∷ Reg 2 ∷ Reg 5 ∷ []) ∷
      commands.Invoke 4 (Reg 3) (IntKey (pos 4)) (Reg 0 ∷ Reg 3 ∷ Reg 3 ∷ []) ∷
      commands.Invoke 4 (Reg 1) (IntKey (pos 4)) (Reg 1 ∷ Reg 3 ∷ Reg 2 ∷ []) ∷
      commands.Invoke 5 (Reg 2) (Str (codes "take")) (Reg 3 ∷ Reg 0 ∷ Reg 2 ∷ []) ∷
      commands.Invoke 4 (Reg 2) (Str (codes "m2")) (Reg 2 ∷ Reg 3 ∷ []) ∷
      commands.Invoke 2 (Reg 0) (IntKey (pos 4)) (Reg 0 ∷ Reg 0 ∷ Const values.Void ∷ []) ∷
      commands.Set 3 (Reg 0) ∷
      commands.Invoke 5 (Reg 0) (Str (codes "m0")) (Reg 2 ∷ Reg 1 ∷ Const (values.Text (195 ∷ 164 ∷ 34 ∷ 92 ∷ 1 ∷ 127 ∷ [])) ∷ []) ∷
      commands.Invoke 5 (Reg 1) (Str (codes "m2")) (Reg 1 ∷ Const (values.Text (codes "e")) ∷ []) ∷
      commands.OpenStream 3 (codes "e") ∷
      commands.Invoke 2 (Reg 1) (Str (codes "m0")) [] ∷
      commands.Invoke 5 (Reg 0) (Str (codes "m2")) (Reg 0 ∷ Reg 4 ∷ Reg 3 ∷ []) ∷
      commands.Invoke 5 (Reg 0) (Str (codes "m2")) (Reg 3 ∷ []) ∷
      commands.Drop 3 ∷
      commands.Invoke 4 (Reg 0) (Str (codes "m1")) (Const (values.Int (pos 1)) ∷ Reg 0 ∷ Reg 1 ∷ []) ∷
      commands.Invoke 3 (Reg 0) (Str (codes "m1")) [] ∷
      commands.New 1 1 (codes "Window") ∷
      commands.OpenStream 3 (codes "r") ∷
      commands.Invoke 0 (Reg 2) (Str (codes "m1")) (Reg 3 ∷ []) ∷ []);
}

abbrev plugin : Plugin
plugin = record {
  major = 0;
  minor = 27;
  classes = (
      (record {
        name = codes "Main";
        version = 2;
        stored = true;
        members = (
            members.Method (Str (codes "m0")) (actions.Load 3 1 ∷ actions.Load 2 0 ∷ actions.HasProperty (Reg 2) (Str (codes "f0")) ∷ actions.Get 0 (Reg 1) (Str (codes "f0")) ∷ actions.Window 3 ∷ []) ∷
            members.Method (Str (codes "take")) (actions.New 1 (codes "T") ∷ actions.New 4 (codes "T") ∷ actions.Window 15 ∷ actions.SelfTo 1 ∷ actions.Invoke 0 (Reg 0) (Str (codes "none")) [] ∷ actions.Load 0 3 ∷ []) ∷
            members.Setter (Str (codes "f0")) (actions.EndStream 2 (Const (values.Int (pos 3))) reasons.Done ∷ actions.SelfTo 5 ∷ []) ∷
            members.Method (Str (codes "m2")) (actions.Load 2 0 ∷ actions.Load 3 1 ∷ actions.Enumerate 1 (Reg 0) ∷ actions.Invoke 0 (Reg 1) (Str (codes "take")) [] ∷ actions.Invoke 2 (Reg 4) (Str (codes "take")) (Const values.Null ∷ Reg 0 ∷ []) ∷ actions.Get 5 (Reg 8) (IntKey (pos 7)) ∷ actions.Put (Reg 2) (Str (codes "f0")) (Const (values.Int (pos 2147483647))) ∷ actions.Load 1 2 ∷ actions.New 3 (codes "T") ∷ []) ∷
            members.Method (IntKey (pos 4)) (actions.GetUrl 2 (Const (values.Int (negsuc 0))) (negsuc 1) ∷ actions.Throw [] ∷ actions.GetUrl 3 (Const (values.Text (codes "nowhere"))) (pos 6) ∷ []) ∷
            members.Method (Str (codes "m1")) (actions.Drop 1 ∷ actions.Invoke 0 (Reg 3) (IntKey (pos 4)) (Reg 3 ∷ Reg 1 ∷ Reg 3 ∷ []) ∷ actions.New 4 (codes "U") ∷ actions.Remove (Reg 1) (Str (codes "7")) ∷ actions.Slot 0 (Reg 0) ∷ actions.Load 2 0 ∷ actions.Get 3 (Reg 2) (Str (codes "7")) ∷ actions.Put (Reg 2) (Str (codes "7")) (Reg 3) ∷ []) ∷ []);
      }) ∷
      (record {
        name = codes "T";
        version = 3;
        stored = false;
        members = (
            members.Method (Str (codes "take")) (actions.Load 3 1 ∷ actions.New 1 (codes "T") ∷ actions.EndStream 1 (Const (values.Int (pos 1))) reasons.Done ∷ []) ∷
            members.Method (Str (codes "m2")) (actions.Load 1 2 ∷ actions.Load 3 1 ∷ actions.Load 3 2 ∷ actions.Invoke 0 (Reg 2) (IntKey (pos 4)) (Reg 1 ∷ Reg 3 ∷ Reg 3 ∷ []) ∷ actions.Return (Reg 0) ∷ actions.Window 0 ∷ actions.New 4 (codes "Main") ∷ actions.New 5 (codes "T") ∷ actions.Put (Reg 4) (IntKey (pos 7)) (Reg 5) ∷ actions.Put (Reg 4) (Str (codes "f1")) (Reg 5) ∷ actions.Drop 5 ∷ []) ∷
            members.Getter (Str (codes "f0")) (actions.Load 3 1 ∷ actions.SelfTo 2 ∷ actions.New 5 (codes "T") ∷ actions.New 1 (codes "T") ∷ actions.Invoke 4 (Const (values.Int (pos 0))) (Str (codes "take")) (Const (values.Text (195 ∷ 164 ∷ 34 ∷ 92 ∷ 1 ∷ 127 ∷ [])) ∷ Reg 4 ∷ []) ∷ []) ∷
            members.Method (Str (codes "m1")) (actions.SelfTo 2 ∷ actions.New 4 (codes "Main") ∷ actions.New 5 (codes "U") ∷ actions.Put (Reg 4) (IntKey (pos 7)) (Reg 4) ∷ actions.New 5 (codes "U") ∷ actions.Put (Reg 4) (Str (codes "f0")) (Reg 5) ∷ actions.New 5 (codes "T") ∷ actions.Put (Reg 4) (Str (codes "f1")) (Reg 5) ∷ actions.Return (Reg 4) ∷ []) ∷
            members.Method (Str (codes "m0")) [] ∷
            members.Method (IntKey (pos 4)) (actions.Load 2 0 ∷ actions.Window 1 ∷ actions.Get 3 (Reg 3) (Str (codes "f0")) ∷ actions.New 0 (codes "U") ∷ actions.Set 3 (Reg 2) ∷ actions.Drop 1 ∷ actions.Window 3 ∷ actions.Put (Reg 1) (Str (codes "f0")) (Reg 2) ∷ []) ∷
            members.Construct (actions.New 4 (codes "T") ∷ actions.New 5 (codes "Main") ∷ actions.New 2 (codes "T") ∷ []) ∷ []);
      }) ∷
      (record {
        name = codes "U";
        version = 3;
        stored = false;
        members = (
            members.Method (Str (codes "m1")) [] ∷
            members.Method (Str (codes "m0")) (actions.Put (Reg 2) (Str (codes "7")) (Reg 1) ∷ actions.New 4 (codes "U") ∷ actions.Drop 2 ∷ actions.New 1 (codes "T") ∷ actions.Put (Reg 1) (Str (codes "f0")) (Reg 0) ∷ actions.Slot 1 (Reg 1) ∷ actions.Drop 1 ∷ []) ∷
            members.Method (Str (codes "take")) (actions.Load 2 2 ∷ actions.Load 3 1 ∷ actions.Put (Reg 2) (Str (codes "f0")) (Reg 3) ∷ actions.Invoke 3 (Reg 3) (Str (codes "none")) [] ∷ actions.Slot 2 (Reg 0) ∷ actions.Slot 3 (Reg 2) ∷ actions.OnFalse 3 ∷ []) ∷
            members.Method (Str (codes "m3")) (actions.Load 1 2 ∷ actions.Load 3 1 ∷ actions.Slot 1 (Reg 2) ∷ actions.Load 3 2 ∷ actions.Invoke 2 (Reg 1) (IntKey (pos 4)) (Reg 3 ∷ Const values.Void ∷ Reg 8 ∷ []) ∷ actions.Put (Reg 3) (Str (codes "f0")) (Const (values.Int (pos 0))) ∷ actions.Slot 1 (Reg 2) ∷ actions.Load 0 3 ∷ actions.New 4 (codes "T") ∷ actions.New 5 (codes "U") ∷ actions.Put (Reg 4) (Str (codes "f0")) (Reg 4) ∷ actions.Return (Reg 5) ∷ []) ∷
            members.Method (IntKey (pos 4)) (actions.Load 3 1 ∷ actions.Note (Reg 2) ∷ []) ∷
            members.Method (Str (codes "m2")) (actions.Load 2 0 ∷ actions.Load 3 1 ∷ actions.Put (Reg 3) (Str (codes "f1")) (Reg 3) ∷ actions.Load 0 3 ∷ actions.Invoke 1 (Reg 3) (Str (codes "take")) (Reg 0 ∷ Reg 3 ∷ Reg 1 ∷ []) ∷ []) ∷ []);
      }) ∷ []);
  handlers = (
      (record { which = handlers.New; body = (actions.New 0 (codes "Main") ∷ actions.Slot 0 (Reg 0) ∷ actions.Window 1 ∷ actions.Slot 1 (Reg 1) ∷ []) }) ∷
      (record { which = handlers.Scriptable; body = (actions.Load 0 0 ∷ actions.Return (Reg 0) ∷ []) }) ∷
      (record { which = handlers.AsFile; body = [] }) ∷
      (record { which = handlers.DestroyStream; body = [] }) ∷
      (record { which = handlers.UrlNotify; body = (actions.Load 3 1 ∷ actions.New 2 (codes "U") ∷ actions.Get 3 (Reg 3) (Str (codes "f1")) ∷ actions.New 0 (codes "Main") ∷ []) }) ∷ []);
  tasks = [];
}

-- the run of both
both-end : outcome 1500 page plugin ≡ record {
  page = (
      Created (record { side = sides.Page; instance = 1; serial = 1 }) ∷
      CommandResult 1 (results.Code NoError) ∷
      CommandResult 2 (results.Yes (values.Object (record { side = sides.Plug; instance = 1; serial = 1 })) false) ∷
      Created (record { side = sides.Page; instance = 2; serial = 1 }) ∷
      CommandResult 3 (results.Code NoError) ∷
      CommandResult 4 (results.Yes (values.Object (record { side = sides.Plug; instance = 2; serial = 1 })) false) ∷
      Created (record { side = sides.Page; instance = 1; serial = 2 }) ∷
      CommandResult 5 (results.Yes (values.Object (record { side = sides.Page; instance = 1; serial = 2 })) false) ∷
      Created (record { side = sides.Page; instance = 2; serial = 2 }) ∷
      CommandResult 6 (results.Yes (values.Object (record { side = sides.Page; instance = 2; serial = 2 })) false) ∷
      CommandResult 7 (results.Yes values.Void false) ∷
      Entered (record { side = sides.Page; instance = 2; serial = 2 }) (ops.Invoke (Str (codes "take"))) ∷
      CommandResult 8 (results.Yes values.Void false) ∷
      CommandResult 9 (results.Yes values.Void false) ∷
      CommandResult 10 results.No ∷
      CommandResult 11 results.No ∷
      CommandResult 12 results.No ∷
      Entered (record { side = sides.Page; instance = 2; serial = 2 }) (ops.Invoke (Str (codes "m2"))) ∷
      CommandResult 13 (results.Yes values.Void false) ∷
      CommandResult 14 (results.Code NoError) ∷
      CommandResult 15 (results.Yes values.Void false) ∷
      Created (record { side = sides.Page; instance = 1; serial = 3 }) ∷
      CommandResult 16 (results.Yes (values.Object (record { side = sides.Page; instance = 1; serial = 3 })) false) ∷
      Entered (record { side = sides.Page; instance = 2; serial = 2 }) ops.Enumerate ∷
      CommandResult 17 (results.Yes values.Void false) ∷
      Deallocated (record { side = sides.Page; instance = 2; serial = 2 }) ∷
      CommandResult 18 (results.Yes values.Void false) ∷
      Deallocated (record { side = sides.Page; instance = 1; serial = 3 }) ∷
      CommandResult 19 (results.Yes values.Void false) ∷
      CommandResult 20 (results.Yes values.Void false) ∷
      Entered (record { side = sides.Page; instance = 1; serial = 2 }) (ops.Invoke (Str (codes "m0"))) ∷
      Entered (record { side = sides.Page; instance = 1; serial = 2 }) (ops.Invoke (Str (codes "take"))) ∷
      CommandResult 21 (results.Yes values.Void false) ∷
      CommandResult 22 results.No ∷
      CommandResult 23 results.No ∷
      Created (record { side = sides.Page; instance = 2; serial = 3 }) ∷
      CommandResult 24 (results.Yes (values.Object (record { side = sides.Page; instance = 2; serial = 3 })) false) ∷
      Deallocated (record { side = sides.Page; instance = 1; serial = 2 }) ∷
      CommandResult 25 results.No ∷
      Created (record { side = sides.Page; instance = 2; serial = 4 }) ∷
      CommandResult 26 (results.Yes (values.Object (record { side = sides.Page; instance = 2; serial = 4 })) false) ∷
      Entered (record { side = sides.Page; instance = 2; serial = 4 }) (ops.Invoke (Str (codes "m1"))) ∷
      Created (record { side = sides.Page; instance = 2; serial = 5 }) ∷
      Created (record { side = sides.Page; instance = 2; serial = 6 }) ∷
      Deallocated (record { side = sides.Page; instance = 2; serial = 6 }) ∷
      Deallocated (record { side = sides.Page; instance = 2; serial = 5 }) ∷
      CommandResult 27 (results.Yes values.Void false) ∷
      CommandResult 28 results.No ∷
      Entered (record { side = sides.Page; instance = 2; serial = 3 }) (ops.Invoke (Str (codes "m3"))) ∷
      Created (record { side = sides.Page; instance = 2; serial = 7 }) ∷
      Deallocated (record { side = sides.Page; instance = 2; serial = 7 }) ∷
      CommandResult 29 (results.Yes values.Void false) ∷
      Created (record { side = sides.Page; instance = 2; serial = 8 }) ∷
      CommandResult 30 (results.Yes (values.Object (record { side = sides.Page; instance = 2; serial = 8 })) false) ∷
      Entered (record { side = sides.Page; instance = 2; serial = 3 }) (ops.Invoke (Str (codes "m3"))) ∷
      Created (record { side = sides.Page; instance = 2; serial = 9 }) ∷
      Deallocated (record { side = sides.Page; instance = 2; serial = 9 }) ∷
      CommandResult 31 (results.Yes values.Void false) ∷
      CommandResult 32 results.No ∷
      Noted values.Void false ∷
      CommandResult 33 (results.Yes values.Void false) ∷
      CommandResult 34 results.No ∷
      CommandResult 35 results.No ∷
      Entered (record { side = sides.Page; instance = 2; serial = 3 }) (ops.Invoke (Str (codes "m2"))) ∷
      Created (record { side = sides.Page; instance = 2; serial = 10 }) ∷
      Created (record { side = sides.Page; instance = 2; serial = 11 }) ∷
      Created (record { side = sides.Page; instance = 2; serial = 12 }) ∷
      Deallocated (record { side = sides.Page; instance = 2; serial = 10 }) ∷
      Deallocated (record { side = sides.Page; instance = 2; serial = 11 }) ∷
      CommandResult 36 (results.Yes (values.Object (record { side = sides.Page; instance = 2; serial = 12 })) false) ∷
      CommandResult 37 (results.Yes values.Void false) ∷
      Entered (record { side = sides.Page; instance = 2; serial = 3 }) (ops.Invoke (Str (codes "m1"))) ∷
      Created (record { side = sides.Page; instance = 2; serial = 13 }) ∷
      Created (record { side = sides.Page; instance = 2; serial = 14 }) ∷
      Deallocated (record { side = sides.Page; instance = 2; serial = 14 }) ∷
      Created (record { side = sides.Page; instance = 2; serial = 15 }) ∷
      Created (record { side = sides.Page; instance = 2; serial = 16 }) ∷
      Deallocated (record { side = sides.Page; instance = 2; serial = 15 }) ∷
      Created (record { side = sides.Page; instance = 2; serial = 17 }) ∷
      Deallocated (record { side = sides.Page; instance = 2; serial = 13 }) ∷
      Created (record { side = sides.Page; instance = 2; serial = 18 }) ∷
      Deallocated (record { side = sides.Page; instance = 2; serial = 17 }) ∷
      Deallocated (record { side = sides.Page; instance = 2; serial = 16 }) ∷
      Deallocated (record { side = sides.Page; instance = 2; serial = 18 }) ∷
      CommandResult 38 (results.Yes values.Void false) ∷
      Created (record { side = sides.Page; instance = 3; serial = 1 }) ∷
      CommandResult 39 (results.Code NoError) ∷
      Deallocated (record { side = sides.Page; instance = 2; serial = 3 }) ∷
      CommandResult 40 (results.Yes (values.Object (record { side = sides.Plug; instance = 3; serial = 1 })) false) ∷
      CommandResult 41 results.No ∷
      StreamAnswered 1 (streams.New (pos 1)) ∷
      StreamAnswered 1 (streams.Destroy reasons.Done) ∷
      CommandResult 42 (results.Pumped 2) ∷
      CommandResult 43 results.No ∷
      Deallocated (record { side = sides.Page; instance = 2; serial = 12 }) ∷
      CommandResult 44 results.No ∷
      CommandResult 45 results.No ∷
      CommandResult 46 results.No ∷
      CommandResult 47 results.No ∷
      CommandResult 48 results.No ∷
      Entered (record { side = sides.Page; instance = 2; serial = 4 }) (ops.Invoke (IntKey (pos 4))) ∷
      Entered (record { side = sides.Page; instance = 2; serial = 4 }) (ops.HasMethod (Str (codes "m1"))) ∷
      CommandResult 49 results.No ∷
      CommandResult 50 results.No ∷
      CommandResult 51 results.No ∷
      CommandResult 52 (results.Threw []) ∷
      CommandResult 53 (results.Yes (values.Object (record { side = sides.Plug; instance = 3; serial = 1 })) false) ∷
      Entered (record { side = sides.Page; instance = 2; serial = 4 }) (ops.Get (Str (codes "f0"))) ∷
      CommandResult 54 (results.Yes values.Void false) ∷
      Entered (record { side = sides.Page; instance = 2; serial = 4 }) (ops.Invoke (Str (codes "m2"))) ∷
      CommandResult 55 (results.Yes values.Void false) ∷
      CommandResult 56 (results.Code NoError) ∷
      CommandResult 57 results.No ∷
      CommandResult 58 (results.Yes values.Void false) ∷
      CommandResult 59 (results.Yes values.Void false) ∷
      CommandResult 60 (results.Yes values.Void false) ∷
      CommandResult 61 (results.Yes values.Void false) ∷
      CommandResult 62 (results.Yes values.Void false) ∷
      Created (record { side = sides.Page; instance = 1; serial = 4 }) ∷
      CommandResult 63 (results.Yes (values.Object (record { side = sides.Page; instance = 1; serial = 4 })) false) ∷
      CommandResult 64 (results.Code NoError) ∷
      CommandResult 65 results.No ∷
      Invalidated (record { side = sides.Page; instance = 1; serial = 1 }) ∷
      Invalidated (record { side = sides.Page; instance = 1; serial = 4 }) ∷
      Deallocated (record { side = sides.Page; instance = 1; serial = 1 }) ∷
      Deallocated (record { side = sides.Page; instance = 1; serial = 4 }) ∷
      Invalidated (record { side = sides.Page; instance = 2; serial = 1 }) ∷
      Invalidated (record { side = sides.Page; instance = 2; serial = 4 }) ∷
      Invalidated (record { side = sides.Page; instance = 2; serial = 8 }) ∷
      Deallocated (record { side = sides.Page; instance = 2; serial = 1 }) ∷
      Deallocated (record { side = sides.Page; instance = 2; serial = 4 }) ∷
      Deallocated (record { side = sides.Page; instance = 2; serial = 8 }) ∷
      Invalidated (record { side = sides.Page; instance = 3; serial = 1 }) ∷
      Deallocated (record { side = sides.Page; instance = 3; serial = 1 }) ∷ []);
  plugin = (
      HandlerRun 1 handlers.New ∷
      Created (record { side = sides.Plug; instance = 1; serial = 1 }) ∷
      HandlerRun 1 handlers.Scriptable ∷
      HandlerRun 2 handlers.New ∷
      Created (record { side = sides.Plug; instance = 2; serial = 1 }) ∷
      HandlerRun 2 handlers.Scriptable ∷
      Entered (record { side = sides.Plug; instance = 2; serial = 1 }) (ops.Invoke (Str (codes "m1"))) ∷
      Created (record { side = sides.Plug; instance = 2; serial = 2 }) ∷
      Deallocated (record { side = sides.Plug; instance = 2; serial = 2 }) ∷
      Entered (record { side = sides.Plug; instance = 1; serial = 1 }) (ops.Get (Str (codes "f1"))) ∷
      Entered (record { side = sides.Plug; instance = 2; serial = 1 }) (ops.Invoke (Str (codes "m2"))) ∷
      Entered (record { side = sides.Plug; instance = 2; serial = 1 }) ops.Enumerate ∷
      Created (record { side = sides.Plug; instance = 2; serial = 3 }) ∷
      Deallocated (record { side = sides.Plug; instance = 2; serial = 3 }) ∷
      Entered (record { side = sides.Plug; instance = 2; serial = 1 }) (ops.Invoke (Str (codes "m2"))) ∷
      Created (record { side = sides.Plug; instance = 2; serial = 4 }) ∷
      Deallocated (record { side = sides.Plug; instance = 2; serial = 4 }) ∷
      Entered (record { side = sides.Plug; instance = 2; serial = 1 }) (ops.Invoke (Str (codes "take"))) ∷
      Created (record { side = sides.Plug; instance = 2; serial = 5 }) ∷
      Created (record { side = sides.Plug; instance = 2; serial = 6 }) ∷
      Deallocated (record { side = sides.Plug; instance = 2; serial = 5 }) ∷
      Deallocated (record { side = sides.Plug; instance = 2; serial = 6 }) ∷
      Entered (record { side = sides.Plug; instance = 2; serial = 1 }) (ops.Get (Str (codes "f1"))) ∷
      Deallocated (record { side = sides.Plug; instance = 2; serial = 1 }) ∷
      HandlerRun 2 handlers.Scriptable ∷
      HandlerRun 3 handlers.New ∷
      Created (record { side = sides.Plug; instance = 3; serial = 1 }) ∷
      HandlerRun 3 handlers.Scriptable ∷
      HandlerRun 1 handlers.DestroyStream ∷
      Entered (record { side = sides.Plug; instance = 3; serial = 1 }) (ops.Invoke (IntKey (pos 4))) ∷
      Entered (record { side = sides.Plug; instance = 3; serial = 1 }) (ops.Invoke (Str (codes "m0"))) ∷
      Entered (record { side = sides.Plug; instance = 3; serial = 1 }) (ops.HasProperty (Str (codes "f0"))) ∷
      Entered (record { side = sides.Plug; instance = 3; serial = 1 }) (ops.Invoke (Str (codes "m2"))) ∷
      Entered (record { side = sides.Plug; instance = 3; serial = 1 }) ops.Enumerate ∷
      Created (record { side = sides.Plug; instance = 3; serial = 2 }) ∷
      Deallocated (record { side = sides.Plug; instance = 3; serial = 2 }) ∷
      Entered (record { side = sides.Plug; instance = 3; serial = 1 }) (ops.Invoke (Str (codes "m2"))) ∷
      Entered (record { side = sides.Plug; instance = 3; serial = 1 }) ops.Enumerate ∷
      Created (record { side = sides.Plug; instance = 3; serial = 3 }) ∷
      Deallocated (record { side = sides.Plug; instance = 3; serial = 3 }) ∷
      Entered (record { side = sides.Plug; instance = 3; serial = 1 }) (ops.Invoke (Str (codes "m1"))) ∷
      Created (record { side = sides.Plug; instance = 3; serial = 4 }) ∷
      Deallocated (record { side = sides.Plug; instance = 3; serial = 4 }) ∷
      Entered (record { side = sides.Plug; instance = 3; serial = 1 }) (ops.Invoke (Str (codes "m1"))) ∷
      Created (record { side = sides.Plug; instance = 3; serial = 5 }) ∷
      Deallocated (record { side = sides.Plug; instance = 3; serial = 5 }) ∷
      Deallocated (record { side = sides.Plug; instance = 3; serial = 1 }) ∷
      ProxyGone (record { side = sides.Page; instance = 1; serial = 1 }) ∷
      Invalidated (record { side = sides.Plug; instance = 1; serial = 1 }) ∷
      Deallocated (record { side = sides.Plug; instance = 1; serial = 1 }) ∷
      ProxyGone (record { side = sides.Page; instance = 2; serial = 1 }) ∷
      ProxyGone (record { side = sides.Page; instance = 3; serial = 1 }) ∷ []);
  files = [];
  rests = true;
}
unfolding encoding digits is_text is_utf8 chars encode_utf8
both-end = refl

-- all bytes that the page sends
page-sends : page_bytes 1500 page plugin ≡ (0 ∷ 0 ∷ 0 ∷ 7 ∷ 1 ∷ 1 ∷ 0 ∷ 0 ∷ 1 ∷ 0 ∷ 27 ∷ 0 ∷ 0 ∷ 0 ∷ 24 ∷ 2 ∷ 1 ∷ 0 ∷ 0 ∷ 1 ∷ 1 ∷ 0 ∷ 3 ∷ 116 ∷ 47 ∷ 120 ∷ 2 ∷ 0 ∷ 1 ∷ 97 ∷ 0 ∷ 1 ∷ 49 ∷ 0 ∷ 1 ∷ 97 ∷ 0 ∷ 1 ∷ 49 ∷ 0 ∷ 0 ∷ 0 ∷ 11 ∷ 65 ∷ 2 ∷ 0 ∷ 0 ∷ 6 ∷ 0 ∷ 1 ∷ 0 ∷ 0 ∷ 0 ∷ 1 ∷ 0 ∷ 0 ∷ 0 ∷ 5 ∷ 4 ∷ 1 ∷ 0 ∷ 0 ∷ 1 ∷ 0 ∷ 0 ∷ 0 ∷ 12 ∷ 2 ∷ 1 ∷ 0 ∷ 0 ∷ 2 ∷ 1 ∷ 0 ∷ 3 ∷ 116 ∷ 47 ∷ 120 ∷ 0 ∷ 0 ∷ 0 ∷ 0 ∷ 11 ∷ 65 ∷ 2 ∷ 0 ∷ 0 ∷ 6 ∷ 0 ∷ 2 ∷ 0 ∷ 0 ∷ 0 ∷ 1 ∷ 0 ∷ 0 ∷ 0 ∷ 5 ∷ 4 ∷ 1 ∷ 0 ∷ 0 ∷ 2 ∷ 0 ∷ 0 ∷ 0 ∷ 37 ∷ 64 ∷ 1 ∷ 0 ∷ 0 ∷ 2 ∷ 0 ∷ 0 ∷ 0 ∷ 1 ∷ 1 ∷ 0 ∷ 0 ∷ 2 ∷ 109 ∷ 49 ∷ 3 ∷ 6 ∷ 1 ∷ 1 ∷ 0 ∷ 0 ∷ 0 ∷ 1 ∷ 6 ∷ 1 ∷ 2 ∷ 0 ∷ 0 ∷ 0 ∷ 1 ∷ 6 ∷ 0 ∷ 2 ∷ 0 ∷ 0 ∷ 0 ∷ 2 ∷ 0 ∷ 0 ∷ 0 ∷ 15 ∷ 64 ∷ 2 ∷ 0 ∷ 0 ∷ 1 ∷ 0 ∷ 0 ∷ 0 ∷ 1 ∷ 4 ∷ 0 ∷ 0 ∷ 2 ∷ 102 ∷ 49 ∷ 0 ∷ 0 ∷ 0 ∷ 35 ∷ 64 ∷ 1 ∷ 0 ∷ 0 ∷ 2 ∷ 0 ∷ 0 ∷ 0 ∷ 1 ∷ 1 ∷ 0 ∷ 0 ∷ 2 ∷ 109 ∷ 50 ∷ 3 ∷ 6 ∷ 1 ∷ 2 ∷ 0 ∷ 0 ∷ 0 ∷ 1 ∷ 6 ∷ 0 ∷ 1 ∷ 0 ∷ 0 ∷ 0 ∷ 2 ∷ 3 ∷ 127 ∷ 255 ∷ 255 ∷ 255 ∷ 0 ∷ 0 ∷ 0 ∷ 31 ∷ 64 ∷ 1 ∷ 0 ∷ 0 ∷ 1 ∷ 0 ∷ 0 ∷ 0 ∷ 1 ∷ 1 ∷ 0 ∷ 0 ∷ 2 ∷ 109 ∷ 51 ∷ 3 ∷ 6 ∷ 1 ∷ 1 ∷ 0 ∷ 0 ∷ 0 ∷ 1 ∷ 0 ∷ 6 ∷ 0 ∷ 1 ∷ 0 ∷ 0 ∷ 0 ∷ 2 ∷ 0 ∷ 0 ∷ 0 ∷ 4 ∷ 5 ∷ 1 ∷ 0 ∷ 0 ∷ 0 ∷ 0 ∷ 0 ∷ 23 ∷ 64 ∷ 1 ∷ 0 ∷ 0 ∷ 2 ∷ 0 ∷ 0 ∷ 0 ∷ 1 ∷ 1 ∷ 0 ∷ 0 ∷ 2 ∷ 109 ∷ 50 ∷ 1 ∷ 6 ∷ 0 ∷ 2 ∷ 0 ∷ 0 ∷ 0 ∷ 2 ∷ 0 ∷ 0 ∷ 0 ∷ 5 ∷ 68 ∷ 2 ∷ 0 ∷ 0 ∷ 0 ∷ 0 ∷ 0 ∷ 0 ∷ 25 ∷ 64 ∷ 1 ∷ 0 ∷ 0 ∷ 2 ∷ 0 ∷ 0 ∷ 0 ∷ 1 ∷ 1 ∷ 0 ∷ 0 ∷ 4 ∷ 116 ∷ 97 ∷ 107 ∷ 101 ∷ 1 ∷ 6 ∷ 1 ∷ 2 ∷ 0 ∷ 0 ∷ 0 ∷ 1 ∷ 0 ∷ 0 ∷ 0 ∷ 11 ∷ 65 ∷ 2 ∷ 0 ∷ 0 ∷ 6 ∷ 0 ∷ 2 ∷ 0 ∷ 0 ∷ 0 ∷ 1 ∷ 0 ∷ 0 ∷ 0 ∷ 4 ∷ 5 ∷ 1 ∷ 0 ∷ 0 ∷ 0 ∷ 0 ∷ 0 ∷ 15 ∷ 64 ∷ 1 ∷ 0 ∷ 0 ∷ 2 ∷ 0 ∷ 0 ∷ 0 ∷ 1 ∷ 4 ∷ 0 ∷ 0 ∷ 2 ∷ 102 ∷ 49 ∷ 0 ∷ 0 ∷ 0 ∷ 23 ∷ 4 ∷ 1 ∷ 0 ∷ 2 ∷ 1 ∷ 0 ∷ 0 ∷ 0 ∷ 1 ∷ 0 ∷ 0 ∷ 0 ∷ 1 ∷ 2 ∷ 0 ∷ 0 ∷ 0 ∷ 1 ∷ 0 ∷ 0 ∷ 0 ∷ 1 ∷ 2 ∷ 0 ∷ 0 ∷ 0 ∷ 12 ∷ 2 ∷ 1 ∷ 0 ∷ 0 ∷ 3 ∷ 2 ∷ 0 ∷ 3 ∷ 116 ∷ 47 ∷ 121 ∷ 0 ∷ 0 ∷ 0 ∷ 0 ∷ 11 ∷ 65 ∷ 2 ∷ 0 ∷ 0 ∷ 6 ∷ 0 ∷ 3 ∷ 0 ∷ 0 ∷ 0 ∷ 1 ∷ 0 ∷ 0 ∷ 0 ∷ 5 ∷ 4 ∷ 1 ∷ 0 ∷ 0 ∷ 3 ∷ 0 ∷ 0 ∷ 0 ∷ 21 ∷ 6 ∷ 1 ∷ 0 ∷ 0 ∷ 1 ∷ 0 ∷ 0 ∷ 0 ∷ 1 ∷ 0 ∷ 1 ∷ 101 ∷ 0 ∷ 3 ∷ 116 ∷ 47 ∷ 112 ∷ 0 ∷ 0 ∷ 0 ∷ 0 ∷ 0 ∷ 0 ∷ 0 ∷ 10 ∷ 10 ∷ 1 ∷ 0 ∷ 0 ∷ 1 ∷ 0 ∷ 0 ∷ 0 ∷ 1 ∷ 0 ∷ 0 ∷ 0 ∷ 0 ∷ 31 ∷ 64 ∷ 1 ∷ 0 ∷ 0 ∷ 3 ∷ 0 ∷ 0 ∷ 0 ∷ 1 ∷ 1 ∷ 1 ∷ 0 ∷ 0 ∷ 0 ∷ 4 ∷ 3 ∷ 6 ∷ 1 ∷ 3 ∷ 0 ∷ 0 ∷ 0 ∷ 1 ∷ 6 ∷ 1 ∷ 3 ∷ 0 ∷ 0 ∷ 0 ∷ 1 ∷ 0 ∷ 0 ∷ 0 ∷ 0 ∷ 5 ∷ 69 ∷ 2 ∷ 0 ∷ 0 ∷ 10 ∷ 0 ∷ 0 ∷ 0 ∷ 33 ∷ 64 ∷ 1 ∷ 0 ∷ 0 ∷ 3 ∷ 0 ∷ 0 ∷ 0 ∷ 1 ∷ 1 ∷ 0 ∷ 0 ∷ 2 ∷ 109 ∷ 48 ∷ 3 ∷ 0 ∷ 6 ∷ 0 ∷ 2 ∷ 0 ∷ 0 ∷ 0 ∷ 4 ∷ 5 ∷ 0 ∷ 6 ∷ 195 ∷ 164 ∷ 34 ∷ 92 ∷ 1 ∷ 127 ∷ 0 ∷ 0 ∷ 0 ∷ 5 ∷ 65 ∷ 2 ∷ 0 ∷ 0 ∷ 0 ∷ 0 ∷ 0 ∷ 0 ∷ 11 ∷ 65 ∷ 2 ∷ 0 ∷ 0 ∷ 6 ∷ 0 ∷ 3 ∷ 0 ∷ 0 ∷ 0 ∷ 1 ∷ 0 ∷ 0 ∷ 0 ∷ 31 ∷ 64 ∷ 1 ∷ 0 ∷ 0 ∷ 3 ∷ 0 ∷ 0 ∷ 0 ∷ 1 ∷ 1 ∷ 0 ∷ 0 ∷ 2 ∷ 109 ∷ 50 ∷ 3 ∷ 6 ∷ 1 ∷ 3 ∷ 0 ∷ 0 ∷ 0 ∷ 1 ∷ 0 ∷ 6 ∷ 1 ∷ 3 ∷ 0 ∷ 0 ∷ 0 ∷ 1 ∷ 0 ∷ 0 ∷ 0 ∷ 23 ∷ 64 ∷ 1 ∷ 0 ∷ 0 ∷ 3 ∷ 0 ∷ 0 ∷ 0 ∷ 1 ∷ 1 ∷ 0 ∷ 0 ∷ 2 ∷ 109 ∷ 50 ∷ 1 ∷ 6 ∷ 1 ∷ 3 ∷ 0 ∷ 0 ∷ 0 ∷ 1 ∷ 0 ∷ 0 ∷ 0 ∷ 35 ∷ 64 ∷ 1 ∷ 0 ∷ 0 ∷ 3 ∷ 0 ∷ 0 ∷ 0 ∷ 1 ∷ 1 ∷ 0 ∷ 0 ∷ 2 ∷ 109 ∷ 49 ∷ 3 ∷ 3 ∷ 0 ∷ 0 ∷ 0 ∷ 1 ∷ 6 ∷ 1 ∷ 3 ∷ 0 ∷ 0 ∷ 0 ∷ 1 ∷ 6 ∷ 0 ∷ 2 ∷ 0 ∷ 0 ∷ 0 ∷ 4 ∷ 0 ∷ 0 ∷ 0 ∷ 16 ∷ 64 ∷ 1 ∷ 0 ∷ 0 ∷ 3 ∷ 0 ∷ 0 ∷ 0 ∷ 1 ∷ 1 ∷ 0 ∷ 0 ∷ 2 ∷ 109 ∷ 49 ∷ 0 ∷ 0 ∷ 0 ∷ 0 ∷ 14 ∷ 3 ∷ 1 ∷ 0 ∷ 1 ∷ 3 ∷ 0 ∷ 0 ∷ 0 ∷ 1 ∷ 0 ∷ 0 ∷ 0 ∷ 1 ∷ 1 ∷ 0 ∷ 0 ∷ 0 ∷ 5 ∷ 3 ∷ 1 ∷ 0 ∷ 0 ∷ 2 ∷ 0 ∷ 0 ∷ 0 ∷ 5 ∷ 3 ∷ 1 ∷ 0 ∷ 0 ∷ 3 ∷ 0 ∷ 0 ∷ 0 ∷ 4 ∷ 12 ∷ 1 ∷ 0 ∷ 0 ∷ [])
unfolding encoding digits is_text is_utf8 chars encode_utf8
page-sends = refl

-- all bytes that the plugin sends
plugin-sends : plugin_bytes 1500 page plugin ≡ (0 ∷ 0 ∷ 0 ∷ 5 ∷ 69 ∷ 1 ∷ 0 ∷ 0 ∷ 0 ∷ 0 ∷ 0 ∷ 0 ∷ 5 ∷ 32 ∷ 2 ∷ 0 ∷ 0 ∷ 1 ∷ 0 ∷ 0 ∷ 0 ∷ 5 ∷ 69 ∷ 1 ∷ 0 ∷ 0 ∷ 0 ∷ 0 ∷ 0 ∷ 0 ∷ 11 ∷ 65 ∷ 1 ∷ 0 ∷ 0 ∷ 6 ∷ 1 ∷ 1 ∷ 0 ∷ 0 ∷ 0 ∷ 1 ∷ 0 ∷ 0 ∷ 0 ∷ 5 ∷ 32 ∷ 2 ∷ 0 ∷ 0 ∷ 2 ∷ 0 ∷ 0 ∷ 0 ∷ 5 ∷ 69 ∷ 1 ∷ 0 ∷ 0 ∷ 0 ∷ 0 ∷ 0 ∷ 0 ∷ 11 ∷ 65 ∷ 1 ∷ 0 ∷ 0 ∷ 6 ∷ 1 ∷ 2 ∷ 0 ∷ 0 ∷ 0 ∷ 1 ∷ 0 ∷ 0 ∷ 0 ∷ 14 ∷ 65 ∷ 1 ∷ 0 ∷ 1 ∷ 2 ∷ 0 ∷ 0 ∷ 0 ∷ 2 ∷ 0 ∷ 0 ∷ 0 ∷ 1 ∷ 0 ∷ 0 ∷ 0 ∷ 0 ∷ 4 ∷ 66 ∷ 2 ∷ 0 ∷ 0 ∷ 0 ∷ 0 ∷ 0 ∷ 14 ∷ 65 ∷ 1 ∷ 0 ∷ 1 ∷ 1 ∷ 0 ∷ 0 ∷ 0 ∷ 2 ∷ 0 ∷ 0 ∷ 0 ∷ 1 ∷ 0 ∷ 0 ∷ 0 ∷ 0 ∷ 13 ∷ 66 ∷ 1 ∷ 0 ∷ 1 ∷ 1 ∷ 0 ∷ 0 ∷ 0 ∷ 2 ∷ 0 ∷ 0 ∷ 0 ∷ 1 ∷ 0 ∷ 0 ∷ 0 ∷ 4 ∷ 71 ∷ 1 ∷ 0 ∷ 0 ∷ 0 ∷ 0 ∷ 0 ∷ 10 ∷ 64 ∷ 2 ∷ 0 ∷ 0 ∷ 2 ∷ 0 ∷ 0 ∷ 0 ∷ 2 ∷ 9 ∷ 0 ∷ 0 ∷ 0 ∷ 14 ∷ 65 ∷ 1 ∷ 0 ∷ 1 ∷ 2 ∷ 0 ∷ 0 ∷ 0 ∷ 2 ∷ 0 ∷ 0 ∷ 0 ∷ 1 ∷ 0 ∷ 0 ∷ 0 ∷ 0 ∷ 5 ∷ 32 ∷ 2 ∷ 0 ∷ 0 ∷ 2 ∷ 0 ∷ 0 ∷ 0 ∷ 5 ∷ 65 ∷ 1 ∷ 0 ∷ 0 ∷ 0 ∷ 0 ∷ 0 ∷ 0 ∷ 4 ∷ 71 ∷ 1 ∷ 0 ∷ 0 ∷ 0 ∷ 0 ∷ 0 ∷ 4 ∷ 66 ∷ 1 ∷ 0 ∷ 0 ∷ 0 ∷ 0 ∷ 0 ∷ 4 ∷ 66 ∷ 1 ∷ 0 ∷ 0 ∷ 0 ∷ 0 ∷ 0 ∷ 5 ∷ 32 ∷ 2 ∷ 0 ∷ 0 ∷ 3 ∷ 0 ∷ 0 ∷ 0 ∷ 5 ∷ 69 ∷ 1 ∷ 0 ∷ 0 ∷ 0 ∷ 0 ∷ 0 ∷ 0 ∷ 11 ∷ 65 ∷ 1 ∷ 0 ∷ 0 ∷ 6 ∷ 1 ∷ 3 ∷ 0 ∷ 0 ∷ 0 ∷ 1 ∷ 0 ∷ 0 ∷ 0 ∷ 8 ∷ 70 ∷ 1 ∷ 0 ∷ 0 ∷ 0 ∷ 0 ∷ 0 ∷ 1 ∷ 0 ∷ 0 ∷ 0 ∷ 4 ∷ 71 ∷ 1 ∷ 0 ∷ 0 ∷ 0 ∷ 0 ∷ 0 ∷ 18 ∷ 33 ∷ 2 ∷ 0 ∷ 0 ∷ 3 ∷ 0 ∷ 7 ∷ 110 ∷ 111 ∷ 119 ∷ 104 ∷ 101 ∷ 114 ∷ 101 ∷ 0 ∷ 0 ∷ 0 ∷ 6 ∷ 0 ∷ 0 ∷ 0 ∷ 6 ∷ 67 ∷ 1 ∷ 0 ∷ 0 ∷ 0 ∷ 0 ∷ 0 ∷ 0 ∷ 0 ∷ 15 ∷ 64 ∷ 2 ∷ 0 ∷ 0 ∷ 2 ∷ 0 ∷ 0 ∷ 0 ∷ 4 ∷ 4 ∷ 0 ∷ 0 ∷ 2 ∷ 102 ∷ 48 ∷ 0 ∷ 0 ∷ 0 ∷ 5 ∷ 32 ∷ 2 ∷ 0 ∷ 0 ∷ 3 ∷ 0 ∷ 0 ∷ 0 ∷ 14 ∷ 65 ∷ 1 ∷ 0 ∷ 1 ∷ 2 ∷ 0 ∷ 0 ∷ 0 ∷ 4 ∷ 0 ∷ 0 ∷ 0 ∷ 1 ∷ 0 ∷ 0 ∷ 0 ∷ 0 ∷ 5 ∷ 65 ∷ 1 ∷ 0 ∷ 0 ∷ 0 ∷ 0 ∷ 0 ∷ 0 ∷ 5 ∷ 65 ∷ 1 ∷ 0 ∷ 0 ∷ 0 ∷ 0 ∷ 0 ∷ 0 ∷ 14 ∷ 65 ∷ 1 ∷ 0 ∷ 1 ∷ 2 ∷ 0 ∷ 0 ∷ 0 ∷ 4 ∷ 0 ∷ 0 ∷ 0 ∷ 1 ∷ 0 ∷ 0 ∷ 0 ∷ 0 ∷ 5 ∷ 65 ∷ 1 ∷ 0 ∷ 0 ∷ 0 ∷ 0 ∷ 0 ∷ 0 ∷ 5 ∷ 69 ∷ 1 ∷ 0 ∷ 0 ∷ 0 ∷ 0 ∷ 0 ∷ 0 ∷ 5 ∷ 69 ∷ 1 ∷ 0 ∷ 0 ∷ 0 ∷ 0 ∷ 0 ∷ 0 ∷ 5 ∷ 69 ∷ 1 ∷ 0 ∷ 0 ∷ 0 ∷ 0 ∷ 0 ∷ 0 ∷ 4 ∷ 71 ∷ 1 ∷ 0 ∷ 0 ∷ [])
unfolding encoding digits is_text is_utf8 chars encode_utf8
plugin-sends = refl

-- the plug-in's first 112 bytes hold 9 whole messages
cut-112 : lost_outcome 1500 (Some 9) page plugin ≡ record {
  page = (
      Created (record { side = sides.Page; instance = 1; serial = 1 }) ∷
      CommandResult 1 (results.Code NoError) ∷
      CommandResult 2 (results.Yes (values.Object (record { side = sides.Plug; instance = 1; serial = 1 })) false) ∷
      Created (record { side = sides.Page; instance = 2; serial = 1 }) ∷
      CommandResult 3 (results.Code NoError) ∷
      CommandResult 4 (results.Yes (values.Object (record { side = sides.Plug; instance = 2; serial = 1 })) false) ∷
      Created (record { side = sides.Page; instance = 1; serial = 2 }) ∷
      CommandResult 5 (results.Yes (values.Object (record { side = sides.Page; instance = 1; serial = 2 })) false) ∷
      Created (record { side = sides.Page; instance = 2; serial = 2 }) ∷
      CommandResult 6 (results.Yes (values.Object (record { side = sides.Page; instance = 2; serial = 2 })) false) ∷
      CommandResult 7 (results.Yes values.Void false) ∷
      Entered (record { side = sides.Page; instance = 2; serial = 2 }) (ops.Invoke (Str (codes "take"))) ∷
      CommandResult 8 (results.Yes values.Void false) ∷
      ProxyGone (record { side = sides.Plug; instance = 1; serial = 1 }) ∷
      Invalidated (record { side = sides.Page; instance = 1; serial = 1 }) ∷
      Invalidated (record { side = sides.Page; instance = 1; serial = 2 }) ∷
      Deallocated (record { side = sides.Page; instance = 1; serial = 1 }) ∷
      Deallocated (record { side = sides.Page; instance = 1; serial = 2 }) ∷
      ProxyGone (record { side = sides.Plug; instance = 2; serial = 1 }) ∷
      Invalidated (record { side = sides.Page; instance = 2; serial = 1 }) ∷
      Invalidated (record { side = sides.Page; instance = 2; serial = 2 }) ∷
      Deallocated (record { side = sides.Page; instance = 2; serial = 1 }) ∷
      Deallocated (record { side = sides.Page; instance = 2; serial = 2 }) ∷
      CommandResult 9 results.No ∷
      CommandResult 10 results.No ∷
      CommandResult 11 results.No ∷
      CommandResult 12 results.No ∷
      CommandResult 13 results.No ∷
      CommandResult 14 (results.Code InvalidInstance) ∷
      CommandResult 15 results.No ∷
      CommandResult 16 results.No ∷
      CommandResult 17 results.No ∷
      CommandResult 18 (results.Yes values.Void false) ∷
      CommandResult 19 results.No ∷
      CommandResult 20 results.No ∷
      CommandResult 21 results.No ∷
      CommandResult 22 results.No ∷
      CommandResult 23 results.No ∷
      CommandResult 24 results.No ∷
      CommandResult 25 results.No ∷
      CommandResult 26 results.No ∷
      CommandResult 27 results.No ∷
      CommandResult 28 results.No ∷
      CommandResult 29 results.No ∷
      CommandResult 30 results.No ∷
      CommandResult 31 results.No ∷
      CommandResult 32 results.No ∷
      Noted values.Void false ∷
      CommandResult 33 (results.Yes values.Void false) ∷
      CommandResult 34 results.No ∷
      CommandResult 35 results.No ∷
      CommandResult 36 results.No ∷
      CommandResult 37 (results.Yes values.Void false) ∷
      CommandResult 38 results.No ∷
      CommandResult 39 (results.Code ModuleLoadFailed) ∷
      CommandResult 40 results.No ∷
      CommandResult 41 results.No ∷
      CommandResult 42 (results.Pumped 0) ∷
      CommandResult 43 results.No ∷
      CommandResult 44 results.No ∷
      CommandResult 45 results.No ∷
      CommandResult 46 results.No ∷
      CommandResult 47 results.No ∷
      CommandResult 48 results.No ∷
      CommandResult 49 results.No ∷
      CommandResult 50 results.No ∷
      CommandResult 51 results.No ∷
      CommandResult 52 results.No ∷
      CommandResult 53 (results.Yes values.Void false) ∷
      CommandResult 54 results.No ∷
      CommandResult 55 results.No ∷
      CommandResult 56 (results.Code InvalidInstance) ∷
      CommandResult 57 results.No ∷
      CommandResult 58 results.No ∷
      CommandResult 59 results.No ∷
      CommandResult 60 (results.Yes values.Void false) ∷
      CommandResult 61 results.No ∷
      CommandResult 62 results.No ∷
      CommandResult 63 results.No ∷
      CommandResult 64 (results.Code InvalidInstance) ∷
      CommandResult 65 results.No ∷ []);
  rests = true;
}
unfolding encoding digits is_text is_utf8 chars encode_utf8
cut-112 = refl

-- the plug-in's first 223 bytes hold 19 whole messages
cut-223 : lost_outcome 1500 (Some 19) page plugin ≡ record {
  page = (
      Created (record { side = sides.Page; instance = 1; serial = 1 }) ∷
      CommandResult 1 (results.Code NoError) ∷
      CommandResult 2 (results.Yes (values.Object (record { side = sides.Plug; instance = 1; serial = 1 })) false) ∷
      Created (record { side = sides.Page; instance = 2; serial = 1 }) ∷
      CommandResult 3 (results.Code NoError) ∷
      CommandResult 4 (results.Yes (values.Object (record { side = sides.Plug; instance = 2; serial = 1 })) false) ∷
      Created (record { side = sides.Page; instance = 1; serial = 2 }) ∷
      CommandResult 5 (results.Yes (values.Object (record { side = sides.Page; instance = 1; serial = 2 })) false) ∷
      Created (record { side = sides.Page; instance = 2; serial = 2 }) ∷
      CommandResult 6 (results.Yes (values.Object (record { side = sides.Page; instance = 2; serial = 2 })) false) ∷
      CommandResult 7 (results.Yes values.Void false) ∷
      Entered (record { side = sides.Page; instance = 2; serial = 2 }) (ops.Invoke (Str (codes "take"))) ∷
      CommandResult 8 (results.Yes values.Void false) ∷
      CommandResult 9 (results.Yes values.Void false) ∷
      CommandResult 10 results.No ∷
      CommandResult 11 results.No ∷
      CommandResult 12 results.No ∷
      Entered (record { side = sides.Page; instance = 2; serial = 2 }) (ops.Invoke (Str (codes "m2"))) ∷
      CommandResult 13 (results.Yes values.Void false) ∷
      CommandResult 14 (results.Code NoError) ∷
      CommandResult 15 (results.Yes values.Void false) ∷
      Created (record { side = sides.Page; instance = 1; serial = 3 }) ∷
      CommandResult 16 (results.Yes (values.Object (record { side = sides.Page; instance = 1; serial = 3 })) false) ∷
      Entered (record { side = sides.Page; instance = 2; serial = 2 }) ops.Enumerate ∷
      CommandResult 17 (results.Yes values.Void false) ∷
      Deallocated (record { side = sides.Page; instance = 2; serial = 2 }) ∷
      CommandResult 18 (results.Yes values.Void false) ∷
      Deallocated (record { side = sides.Page; instance = 1; serial = 3 }) ∷
      CommandResult 19 (results.Yes values.Void false) ∷
      CommandResult 20 (results.Yes values.Void false) ∷
      Entered (record { side = sides.Page; instance = 1; serial = 2 }) (ops.Invoke (Str (codes "m0"))) ∷
      Entered (record { side = sides.Page; instance = 1; serial = 2 }) (ops.Invoke (Str (codes "take"))) ∷
      CommandResult 21 (results.Yes values.Void false) ∷
      CommandResult 22 results.No ∷
      CommandResult 23 results.No ∷
      Created (record { side = sides.Page; instance = 2; serial = 3 }) ∷
      CommandResult 24 (results.Yes (values.Object (record { side = sides.Page; instance = 2; serial = 3 })) false) ∷
      Deallocated (record { side = sides.Page; instance = 1; serial = 2 }) ∷
      CommandResult 25 results.No ∷
      Created (record { side = sides.Page; instance = 2; serial = 4 }) ∷
      CommandResult 26 (results.Yes (values.Object (record { side = sides.Page; instance = 2; serial = 4 })) false) ∷
      Entered (record { side = sides.Page; instance = 2; serial = 4 }) (ops.Invoke (Str (codes "m1"))) ∷
      Created (record { side = sides.Page; instance = 2; serial = 5 }) ∷
      Created (record { side = sides.Page; instance = 2; serial = 6 }) ∷
      Deallocated (record { side = sides.Page; instance = 2; serial = 6 }) ∷
      Deallocated (record { side = sides.Page; instance = 2; serial = 5 }) ∷
      CommandResult 27 (results.Yes values.Void false) ∷
      CommandResult 28 results.No ∷
      Entered (record { side = sides.Page; instance = 2; serial = 3 }) (ops.Invoke (Str (codes "m3"))) ∷
      Created (record { side = sides.Page; instance = 2; serial = 7 }) ∷
      Deallocated (record { side = sides.Page; instance = 2; serial = 7 }) ∷
      CommandResult 29 (results.Yes values.Void false) ∷
      Created (record { side = sides.Page; instance = 2; serial = 8 }) ∷
      CommandResult 30 (results.Yes (values.Object (record { side = sides.Page; instance = 2; serial = 8 })) false) ∷
      Entered (record { side = sides.Page; instance = 2; serial = 3 }) (ops.Invoke (Str (codes "m3"))) ∷
      Created (record { side = sides.Page; instance = 2; serial = 9 }) ∷
      Deallocated (record { side = sides.Page; instance = 2; serial = 9 }) ∷
      CommandResult 31 (results.Yes values.Void false) ∷
      CommandResult 32 results.No ∷
      Noted values.Void false ∷
      CommandResult 33 (results.Yes values.Void false) ∷
      CommandResult 34 results.No ∷
      CommandResult 35 results.No ∷
      Entered (record { side = sides.Page; instance = 2; serial = 3 }) (ops.Invoke (Str (codes "m2"))) ∷
      Created (record { side = sides.Page; instance = 2; serial = 10 }) ∷
      Created (record { side = sides.Page; instance = 2; serial = 11 }) ∷
      Created (record { side = sides.Page; instance = 2; serial = 12 }) ∷
      Deallocated (record { side = sides.Page; instance = 2; serial = 10 }) ∷
      Deallocated (record { side = sides.Page; instance = 2; serial = 11 }) ∷
      CommandResult 36 (results.Yes (values.Object (record { side = sides.Page; instance = 2; serial = 12 })) false) ∷
      CommandResult 37 (results.Yes values.Void false) ∷
      Entered (record { side = sides.Page; instance = 2; serial = 3 }) (ops.Invoke (Str (codes "m1"))) ∷
      Created (record { side = sides.Page; instance = 2; serial = 13 }) ∷
      Created (record { side = sides.Page; instance = 2; serial = 14 }) ∷
      Deallocated (record { side = sides.Page; instance = 2; serial = 14 }) ∷
      Created (record { side = sides.Page; instance = 2; serial = 15 }) ∷
      Created (record { side = sides.Page; instance = 2; serial = 16 }) ∷
      Deallocated (record { side = sides.Page; instance = 2; serial = 15 }) ∷
      Created (record { side = sides.Page; instance = 2; serial = 17 }) ∷
      Deallocated (record { side = sides.Page; instance = 2; serial = 13 }) ∷
      Created (record { side = sides.Page; instance = 2; serial = 18 }) ∷
      Deallocated (record { side = sides.Page; instance = 2; serial = 17 }) ∷
      Deallocated (record { side = sides.Page; instance = 2; serial = 16 }) ∷
      Deallocated (record { side = sides.Page; instance = 2; serial = 18 }) ∷
      CommandResult 38 (results.Yes values.Void false) ∷
      Invalidated (record { side = sides.Page; instance = 1; serial = 1 }) ∷
      Deallocated (record { side = sides.Page; instance = 1; serial = 1 }) ∷
      Invalidated (record { side = sides.Page; instance = 2; serial = 1 }) ∷
      Invalidated (record { side = sides.Page; instance = 2; serial = 3 }) ∷
      Invalidated (record { side = sides.Page; instance = 2; serial = 4 }) ∷
      Invalidated (record { side = sides.Page; instance = 2; serial = 8 }) ∷
      Invalidated (record { side = sides.Page; instance = 2; serial = 12 }) ∷
      Deallocated (record { side = sides.Page; instance = 2; serial = 1 }) ∷
      Deallocated (record { side = sides.Page; instance = 2; serial = 3 }) ∷
      Deallocated (record { side = sides.Page; instance = 2; serial = 4 }) ∷
      Deallocated (record { side = sides.Page; instance = 2; serial = 8 }) ∷
      Deallocated (record { side = sides.Page; instance = 2; serial = 12 }) ∷
      CommandResult 39 (results.Code ModuleLoadFailed) ∷
      CommandResult 40 results.No ∷
      CommandResult 41 results.No ∷
      CommandResult 42 (results.Pumped 0) ∷
      CommandResult 43 results.No ∷
      CommandResult 44 results.No ∷
      CommandResult 45 results.No ∷
      CommandResult 46 results.No ∷
      CommandResult 47 results.No ∷
      CommandResult 48 results.No ∷
      CommandResult 49 results.No ∷
      CommandResult 50 results.No ∷
      CommandResult 51 results.No ∷
      CommandResult 52 results.No ∷
      CommandResult 53 (results.Yes values.Void false) ∷
      CommandResult 54 results.No ∷
      CommandResult 55 results.No ∷
      CommandResult 56 (results.Code InvalidInstance) ∷
      CommandResult 57 results.No ∷
      CommandResult 58 results.No ∷
      CommandResult 59 results.No ∷
      CommandResult 60 (results.Yes values.Void false) ∷
      CommandResult 61 results.No ∷
      CommandResult 62 results.No ∷
      CommandResult 63 results.No ∷
      CommandResult 64 (results.Code InvalidInstance) ∷
      CommandResult 65 results.No ∷ []);
  rests = true;
}
unfolding encoding digits is_text is_utf8 chars encode_utf8
cut-223 = refl
