-- Made by tools/vector-theorems of tests/vectors/9-058.
use Rattle.std.proofs.Common.{◌≡◌, pos, negsuc, [], ◌∷◌, refl, true, false, Some, None}
use Rattle.std.specs.Prelude.{codes}
use Rattle.std.specs.Char.{encode_utf8}
use Rattle.std.specs.Fmt.{digits}
use Rattle.std.specs.Str.{is_utf8, chars}
use Rattle.np_values.specs.declared.error.NpError.TheVariants.{NoError}
use Rattle.np_values.specs.declared.handler.Handler.TheVariants as handlers
use Rattle.np_values.specs.declared.name.Side.TheVariants as sides
use Rattle.np_values.specs.declared.reason.NpReason.TheVariants as reasons
use Rattle.np_values.specs.declared.value.Value.TheVariants as values
use Rattle.np_values.specs.Text.{is_text}
use Rattle.np_idents.specs.declared.key.IdKey.TheVariants.{Str, Int as IntKey}
use Rattle.np_idents.specs.declared.op.Op.TheVariants as ops
use Rattle.np_script_grammar.specs.declared.action.Action.TheVariants as actions
use Rattle.np_script_grammar.specs.declared.action.Operand.TheVariants.{Reg, Const}
use Rattle.np_script_grammar.specs.declared.class.Member.TheVariants as members
use Rattle.np_script_grammar.specs.declared.command.Command.TheVariants as commands
use Rattle.np_script_grammar.specs.declared.page.Page.{Page}
use Rattle.np_script_grammar.specs.declared.plugin.Plugin.{Plugin}
use Rattle.np_message.specs.Encoding.{encoding}
use Rattle.np_journal.specs.declared.line.Line.TheVariants.{Created, Entered, HandlerRun, ProxyGone, Invalidated, Deallocated, Noted, StreamAnswered, CommandResult}
use Rattle.np_journal.specs.declared.printed.Printed.TheVariants as results
use Rattle.np_journal.specs.declared.streamed.Streamed.TheVariants as streams
use Rattle.np_machine_plans.specs.Outcomes.{resource, outcome, page_bytes, plugin_bytes, lost_outcome}

abbrev page : Page
page = record {
  major = 0;
  minor = 27;
  classes = (
      (record {
        name = codes "Window";
        version = 3;
        stored = false;
        members = (
            members.Method (Str (codes "m2")) (actions.Load 3 1 ∷ actions.SelfTo 2 ∷ actions.Invoke 5 (Reg 1) (Str (codes "take")) (Reg 2 ∷ Reg 13 ∷ Reg 0 ∷ []) ∷ actions.Destroy 1 2 ∷ actions.Load 1 0 ∷ actions.Load 1 0 ∷ actions.Invoke 2 (Reg 3) (Str (codes "m3")) [] ∷ actions.Invoke 4 (Reg 1) (Str (codes "m3")) (Reg 3 ∷ Reg 0 ∷ Reg 3 ∷ []) ∷ []) ∷
            members.Method (Str (codes "m1")) (actions.Load 2 0 ∷ actions.Add 12 (Reg 1) (Const values.Null) ∷ actions.Invoke 2 (Reg 0) (Str (codes "m2")) (Reg 4 ∷ Reg 2 ∷ Reg 1 ∷ []) ∷ actions.Invoke 1 (Reg 2) (Str (codes "m3")) (Reg 3 ∷ Reg 0 ∷ Reg 0 ∷ []) ∷ []) ∷
            members.Method (Str (codes "take")) (actions.New 1 (codes "Window") ∷ actions.New 3 (codes "A") ∷ []) ∷
            members.Method (Str (codes "m3")) (actions.OnEq (Reg 0) (Reg 1) 1 ∷ []) ∷
            members.Method (IntKey (pos 4)) (actions.New 5 (codes "B") ∷ actions.New 3 (codes "B") ∷ actions.New 2 (codes "Window") ∷ actions.Get 3 (Reg 3) (Str (codes "f1")) ∷ []) ∷
            members.Method (Str (codes "m0")) (actions.Load 2 0 ∷ actions.Load 3 1 ∷ actions.Load 3 1 ∷ actions.Load 3 0 ∷ actions.New 2 (codes "Window") ∷ actions.Drop 0 ∷ actions.New 3 (codes "A") ∷ actions.Note (Reg 0) ∷ actions.Load 2 2 ∷ actions.Slot 3 (Reg 2) ∷ []) ∷ []);
      }) ∷
      (record {
        name = codes "A";
        version = 3;
        stored = true;
        members = (
            members.Method (Str (codes "m3")) (actions.New 2 (codes "B") ∷ actions.New 3 (codes "Window") ∷ actions.New 1 (codes "A") ∷ actions.Load 1 1 ∷ []) ∷
            members.Method (Str (codes "take")) (actions.Slot 0 (Reg 1) ∷ actions.New 3 (codes "B") ∷ actions.Load 3 3 ∷ []) ∷
            members.Method (IntKey (pos 4)) (actions.Load 2 0 ∷ actions.Load 2 2 ∷ actions.Invoke 3 (Reg 0) (Str (codes "take")) (Reg 2 ∷ Reg 1 ∷ Const (values.Int (pos 2147483647)) ∷ []) ∷ actions.Load 2 3 ∷ actions.Load 4 1 ∷ actions.Drop 0 ∷ actions.New 1 (codes "Window") ∷ []) ∷
            members.Method (Str (codes "m2")) (actions.New 4 (codes "B") ∷ actions.Set 2 (Reg 5) ∷ actions.Load 1 1 ∷ actions.New 5 (codes "A") ∷ actions.Invoke 2 (Reg 2) (Str (codes "m3")) (Reg 0 ∷ Reg 0 ∷ []) ∷ actions.SelfTo 3 ∷ actions.Load 1 0 ∷ actions.Get 0 (Reg 1) (Str (codes "f1")) ∷ actions.Put (Reg 1) (Str (codes "f1")) (Reg 2) ∷ []) ∷
            members.Method (Str (codes "m0")) (actions.Invoke 1 (Reg 2) (Str (codes "m3")) (Const (values.Bool true) ∷ Reg 3 ∷ []) ∷ actions.Load 1 1 ∷ actions.New 4 (codes "B") ∷ actions.New 0 (codes "None") ∷ actions.Load 3 0 ∷ []) ∷
            members.Default (actions.SelfTo 2 ∷ actions.Slot 3 (Reg 2) ∷ actions.New 3 (codes "A") ∷ actions.New 0 (codes "A") ∷ actions.Put (Reg 0) (Str (codes "7")) (Reg 4) ∷ actions.Get 4 (Reg 0) (Str (codes "7")) ∷ actions.Remove (Reg 0) (Str (codes "7")) ∷ actions.New 2 (codes "B") ∷ []) ∷
            members.Method (Str (codes "m1")) (actions.Load 2 2 ∷ actions.Load 3 1 ∷ actions.Load 1 1 ∷ actions.Add 1 (Reg 0) (Reg 0) ∷ actions.Invoke 1 (Reg 1) (Str (codes "m2")) (Reg 3 ∷ Reg 3 ∷ []) ∷ actions.New 0 (codes "B") ∷ actions.OnTrue 3 ∷ actions.Load 1 3 ∷ []) ∷ []);
      }) ∷
      (record {
        name = codes "B";
        version = 1;
        stored = false;
        members = (
            members.Method (Str (codes "m2")) (actions.Load 2 2 ∷ actions.Fail ∷ actions.Load 0 0 ∷ actions.Set 0 (Reg 0) ∷ actions.New 3 (codes "B") ∷ actions.Put (Reg 3) (Str (codes "7")) (Reg 0) ∷ actions.Put (Reg 3) (Str (codes "f1")) (Reg 3) ∷ actions.Slot 3 (Reg 3) ∷ actions.Enumerate 0 (Reg 3) ∷ []) ∷
            members.Method (Str (codes "m3")) (actions.Load 2 0 ∷ actions.Slot 1 (Reg 4) ∷ actions.Load 0 1 ∷ actions.Load 0 0 ∷ actions.Slot 3 (Const (values.Bool false)) ∷ actions.Load 4 3 ∷ actions.Invoke 3 (Reg 1) (Str (codes "take")) (Reg 3 ∷ Reg 2 ∷ []) ∷ []) ∷
            members.Method (Str (codes "m1")) (actions.Load 0 2 ∷ actions.Load 3 1 ∷ actions.New 1 (codes "Window") ∷ actions.Load 1 2 ∷ actions.New 3 (codes "Window") ∷ actions.New 4 (codes "Window") ∷ actions.Put (Reg 4) (Str (codes "f0")) (Reg 3) ∷ actions.New 4 (codes "A") ∷ actions.Slot 3 (Reg 4) ∷ actions.Drop 4 ∷ actions.SelfTo 1 ∷ []) ∷
            members.Method (Str (codes "m0")) (actions.Load 3 1 ∷ actions.Load 2 0 ∷ actions.OnFalse 1 ∷ actions.Slot 0 (Reg 0) ∷ actions.Load 3 2 ∷ actions.Load 2 3 ∷ actions.Get 2 (Reg 2) (Str (codes "f0")) ∷ actions.New 3 (codes "Window") ∷ []) ∷
            members.Default (actions.Load 1 2 ∷ actions.New 3 (codes "Window") ∷ actions.New 5 (codes "B") ∷ actions.New 2 (codes "A") ∷ []) ∷
            members.Method (IntKey (pos 4)) (actions.Get 0 (Reg 15) (Str (codes "f0")) ∷ actions.Load 1 2 ∷ actions.Load 0 3 ∷ actions.Load 1 1 ∷ actions.Invoke 2 (Reg 0) (Str (codes "take")) (Const (values.Int (pos 14)) ∷ Reg 1 ∷ Reg 3 ∷ []) ∷ []) ∷
            members.Method (Str (codes "take")) (actions.Invoke 3 (Reg 1) (Str (codes "m0")) (Reg 0 ∷ Reg 0 ∷ Const (values.Text (195 ∷ 164 ∷ 34 ∷ 92 ∷ 1 ∷ 127 ∷ [])) ∷ []) ∷ actions.Load 1 2 ∷ actions.Remove (Reg 0) (Str (codes "f1")) ∷ actions.Load 2 2 ∷ actions.Invoke 0 (Reg 2) (Str (codes "none")) (Reg 1 ∷ Reg 2 ∷ Reg 2 ∷ []) ∷ actions.Invoke 2 (Reg 0) (Str (codes "none")) (Reg 2 ∷ Reg 5 ∷ Reg 1 ∷ []) ∷ []) ∷
            members.Setter (Str (codes "f0")) (actions.Load 3 1 ∷ actions.Load 2 3 ∷ actions.Slot 3 (Reg 0) ∷ actions.Invoke 3 (Reg 3) (Str (codes "take")) (Reg 3 ∷ []) ∷ actions.Invoke 0 (Reg 0) (Str (codes "take")) (Const (values.Int (pos 13)) ∷ Reg 0 ∷ Const (values.Double (0 ∷ 1 ∷ 2 ∷ 3 ∷ 4 ∷ 5 ∷ 6 ∷ 7 ∷ [])) ∷ []) ∷ []) ∷ []);
      }) ∷ []);
  resources = (
      resource (codes "s") (codes "t/p") 4 (codes "0123456789") ∷
      resource (codes "e") (codes "t/p") 0 (120 ∷ 1 ∷ 34 ∷ []) ∷ []);
  commands = (
      commands.Create (codes "t/x") 1 [] ∷
      commands.Scriptable 0 1 ∷
      commands.Create (codes "t/x") 2 (codes "a" ∷ codes "1" ∷ codes "a" ∷ codes "1" ∷ []) ∷
      commands.Scriptable 1 2 ∷
      commands.New 2 1 (codes "A") ∷
      commands.New 3 2 (codes "A") ∷
      commands.Invoke 5 (Reg 0) (Str (codes "m1")) (Reg 3 ∷ Reg 0 ∷ Reg 2 ∷ []) ∷
      commands.Invoke 5 (Reg 1) (Str (codes "m2")) (Reg 3 ∷ Reg 1 ∷ Reg 2 ∷ []) ∷
      commands.Invoke 5 (Reg 1) (Str (codes "m0")) (Reg 3 ∷ Reg 1 ∷ Reg 0 ∷ []) ∷
      commands.Invoke 4 (Reg 2) (IntKey (pos 4)) (Reg 1 ∷ Reg 3 ∷ Reg 5 ∷ []) ∷
      commands.Invoke 4 (Reg 1) (Str (codes "m2")) (Reg 1 ∷ Reg 4 ∷ Reg 5 ∷ []) ∷
      commands.Invoke 5 (Reg 2) (Str (codes "m3")) (Reg 3 ∷ Reg 0 ∷ Reg 1 ∷ []) ∷
      commands.Invoke 0 (Reg 0) (IntKey (pos 4)) (Reg 5 ∷ Reg 3 ∷ Reg 1 ∷ []) ∷
      commands.Invoke 4 (Reg 4) (Str (codes "m0")) (Reg 4 ∷ Reg 2 ∷ Reg 3 ∷ []) ∷
      commands.Invoke 5 (Reg 4) (Str (codes "m0")) (Reg 1 ∷ Reg 3 ∷ Reg 4 ∷ []) ∷
      commands.Invoke 5 (Reg 4) (Str (codes "m0")) (Reg 5 ∷ Reg 0 ∷ Reg 3 ∷ []) ∷
      commands.Invoke 5 (Reg 2) (IntKey (pos 4)) (Reg 1 ∷ Reg 4 ∷ Reg 0 ∷ []) ∷
      commands.Invoke 5 (Reg 2) (Str (codes "m3")) (Reg 0 ∷ Reg 1 ∷ Reg 4 ∷ []) ∷
      commands.Invoke 0 (Reg 2) (Str (codes "m3")) (Reg 2 ∷ Reg 3 ∷ Reg 2 ∷ Reg 0 ∷ Reg 2 ∷ Reg 0 ∷ Const (values.Double (0 ∷ 1 ∷ 2 ∷ 3 ∷ 4 ∷ 5 ∷ 6 ∷ 7 ∷ [])) ∷ Reg 1 ∷ []) ∷
      commands.Turn ∷
      commands.New 5 1 (codes "Window") ∷
      commands.Invoke 5 (Reg 3) (Str (codes "m2")) (Reg 1 ∷ []) ∷
      commands.Drop 1 ∷
      commands.Invoke 1 (Reg 3) (Str (codes "m1")) [] ∷
      commands.Invoke 5 (Reg 3) (Str (codes "take")) (Reg 4 ∷ Reg 0 ∷ Reg 3 ∷ []) ∷
      commands.Invoke 5 (Reg 3) (Str (codes "m0")) (Reg 2 ∷ []) ∷
      commands.Invoke 1 (Reg 4) (Str (codes "m0")) (Reg 0 ∷ Reg 3 ∷ Reg 4 ∷ []) ∷
      commands.HasMethod (Reg 1) (Str (codes "m3")) ∷
      commands.New 3 1 (codes "A") ∷
      commands.OpenStream 1 (codes "s") ∷
      commands.Invoke 1 (Reg 0) (Str (codes "m3")) (Reg 2 ∷ Reg 1 ∷ Reg 5 ∷ []) ∷
      commands.OpenStream 1 (codes "s") ∷
      commands.Invoke 5 (Reg 4) (Str (codes "m0")) (Reg 5 ∷ Reg 0 ∷ Reg 3 ∷ []) ∷
      commands.Invoke 0 (Reg 3) (Str (codes "m3")) (Const (values.Int (pos 14)) ∷ Reg 2 ∷ Reg 2 ∷ []) ∷
      commands.New 3 3 (codes "B") ∷
      commands.Invoke 2 (Reg 4) (Str (codes "m2")) (Reg 2 ∷ Reg 3 ∷ Reg 0 ∷ []) ∷
      commands.Invoke 5 (Reg 0) (Str (codes "take")) [] ∷
      commands.Invoke 5 (Reg 3) (Str (codes "take")) [] ∷
      commands.OpenStream 1 (codes "e") ∷
      commands.Invoke 0 (Reg 5) (Str (codes "m3")) (Reg 1 ∷ Reg 2 ∷ Reg 0 ∷ []) ∷
      commands.Invoke 3 (Reg 2) (Str (codes "m1")) (Reg 2 ∷ Reg 3 ∷ Reg 5 ∷ []) ∷
      commands.Invoke 4 (Reg 0) (Str (codes "m3")) (Const (values.Double (0 ∷ 1 ∷ 2 ∷ 3 ∷ 4 ∷ 5 ∷ 6 ∷ 7 ∷ [])) ∷ Reg 5 ∷ []) ∷
      commands.Construct 2 (Reg 2) (Reg 0 ∷ Reg 5 ∷ Reg 1 ∷ []) ∷
      commands.Pump 1 ∷
      commands.Invoke 5 (Reg 0) (Str (codes "take")) (Reg 1 ∷ Reg 0 ∷ Const (values.Bool true) ∷ []) ∷
      commands.Create (codes "t/y") 2 [] ∷
      commands.Scriptable 2 3 ∷
      commands.Invoke 5 (Reg 1) (Str (codes "m1")) (Reg 3 ∷ Reg 0 ∷ []) ∷
      commands.Turn ∷
      commands.Invoke 5 (Reg 1) (Str (codes "take")) (Reg 0 ∷ Reg 1 ∷ Reg 2 ∷ []) ∷
      commands.Invoke 1 (Reg 0) (Str (codes "take")) (Reg 4 ∷ Reg 0 ∷ Reg 1 ∷ []) ∷
      commands.Pump 8 ∷
      commands.Invoke 2 (Reg 1) (Str (codes "m2")) [] ∷
      commands.Invoke 4 (Reg 1) (Str (codes "m0")) (Reg 1 ∷ Reg 0 ∷ Reg 0 ∷ []) ∷
      commands.Invoke 5 (Reg 3) (Str (codes "m1")) (Const (values.Text (codes "r")) ∷ Reg 0 ∷ []) ∷
      commands.Invoke 2 (Reg 1) (Str (codes "m1")) (Reg 3 ∷ Reg 1 ∷ Reg 3 ∷ []) ∷
      commands.Invoke 4 (Reg 0) (IntKey (pos 4)) [] ∷
      commands.Invoke 4 (Reg 0) (IntKey (pos 4)) (Reg 5 ∷ Reg 2 ∷ Reg 3 ∷ []) ∷
      commands.Enumerate 3 (Reg 0) ∷
      commands.Invoke 1 (Reg 3) (Str (codes "m3")) (Reg 1 ∷ []) ∷
      commands.New 0 2 (codes "A") ∷
      commands.Invoke 5 (Reg 1) (Str (codes "m3")) (Reg 3 ∷ Reg 5 ∷ Reg 0 ∷ []) ∷
      commands.Invoke 5 (Reg 2) (Str (codes "m1")) (Reg 3 ∷ Reg 9 ∷ []) ∷
      commands.Get 2 (Reg 3) (Str (codes "f0")) ∷
      commands.Invoke 4 (Reg 1) (Str (codes "m1")) (Const (values.Int (pos 0)) ∷ Const (values.Text (codes "s")) ∷ Reg 3 ∷ []) ∷
      commands.Invoke 1 (Reg 1) (Str (codes "m3")) (Reg 2 ∷ Reg 0 ∷ []) ∷
      commands.Invoke 1 (Reg 1) (Str (codes "m0")) (Reg 2 ∷ Reg 1 ∷ Reg 3 ∷ []) ∷
      commands.Invoke 5 (Reg 2) (Str (codes "m0")) (Reg 3 ∷ Reg 1 ∷ Const (values.Int (pos 14)) ∷ []) ∷
      commands.Invoke 1 (Reg 0) (IntKey (pos 4)) (Reg 5 ∷ Reg 3 ∷ Reg 1 ∷ []) ∷
      commands.Pump 1 ∷
      commands.Invoke 4 (Reg 0) (Str (codes "m0")) (Reg 5 ∷ Reg 4 ∷ Reg 3 ∷ []) ∷ []);
}

abbrev plugin : Plugin
plugin = record {
  major = 0;
  minor = 27;
  classes = (
      (record {
        name = codes "Main";
        version = 1;
        stored = true;
        members = (
            members.Method (IntKey (pos 4)) (actions.Load 2 0 ∷ actions.Slot 2 (Reg 0) ∷ actions.Return (Reg 3) ∷ []) ∷
            members.Setter (IntKey (pos 7)) (actions.SelfTo 2 ∷ actions.Load 3 1 ∷ actions.Invoke 0 (Reg 0) (IntKey (pos 4)) (Reg 2 ∷ Reg 0 ∷ Reg 0 ∷ []) ∷ actions.RequestRead 1 (Const (values.Int (pos 3))) ((record { offset = negsuc 2; length = 3 }) ∷ (record { offset = negsuc 0; length = 9000 }) ∷ (record { offset = negsuc 1; length = 9000 }) ∷ (record { offset = pos 1; length = 2 }) ∷ []) ∷ []) ∷
            members.Method (Str (codes "m3")) (actions.New 2 (codes "U") ∷ actions.New 3 (codes "T") ∷ actions.Put (Reg 3) (Str (codes "f0")) (Reg 1) ∷ actions.Get 1 (Reg 3) (Str (codes "f0")) ∷ actions.Remove (Reg 3) (Str (codes "f0")) ∷ []) ∷
            members.Method (Str (codes "take")) (actions.SelfTo 2 ∷ actions.Load 2 0 ∷ actions.Invoke 5 (Reg 2) (Str (codes "none")) (Reg 1 ∷ Reg 0 ∷ Reg 2 ∷ []) ∷ actions.Put (Reg 0) (Str (codes "f0")) (Reg 1) ∷ []) ∷
            members.Method (Str (codes "m2")) (actions.SelfTo 2 ∷ actions.New 0 (codes "T") ∷ actions.Put (Reg 0) (Str (codes "f1")) (Reg 4) ∷ actions.Get 4 (Reg 0) (Str (codes "f1")) ∷ actions.Remove (Reg 0) (Str (codes "f1")) ∷ actions.Load 3 1 ∷ actions.RequestRead 1 (Const (values.Int (pos 3))) ((record { offset = pos 0; length = 2 }) ∷ []) ∷ actions.New 4 (codes "U") ∷ actions.Put (Reg 4) (Str (codes "f1")) (Reg 2) ∷ actions.Put (Reg 4) (Str (codes "f1")) (Reg 4) ∷ actions.Slot 2 (Reg 4) ∷ actions.Enumerate 2 (Reg 4) ∷ []) ∷
            members.Default [] ∷
            members.Method (Str (codes "m1")) (actions.SelfTo 2 ∷ actions.Slot 3 (Const (values.Text (codes "r"))) ∷ actions.Put (Reg 0) (Str (codes "f0")) (Reg 1) ∷ actions.Invoke 3 (Reg 2) (Str (codes "take")) (Reg 4 ∷ Reg 1 ∷ Reg 1 ∷ Reg 0 ∷ Reg 1 ∷ Const (values.Int (pos 14)) ∷ Reg 1 ∷ Reg 3 ∷ []) ∷ []) ∷
            members.Method (Str (codes "m0")) (actions.SelfTo 2 ∷ actions.Slot 3 (Reg 0) ∷ actions.Invoke 0 (Reg 3) (Str (codes "take")) (Reg 2 ∷ Reg 3 ∷ []) ∷ actions.Return (Reg 0) ∷ actions.Get 3 (Reg 3) (Str (codes "f0")) ∷ actions.New 2 (codes "T") ∷ []) ∷ []);
      }) ∷
      (record {
        name = codes "T";
        version = 1;
        stored = false;
        members = (
            members.Method (Str (codes "m3")) (actions.Load 1 2 ∷ actions.Load 2 0 ∷ actions.New 1 (codes "Main") ∷ actions.New 2 (codes "T") ∷ actions.New 5 (codes "Main") ∷ actions.SelfTo 0 ∷ []) ∷
            members.Setter (Str (codes "f0")) (actions.Drop 1 ∷ actions.New 3 (codes "U") ∷ actions.New 2 (codes "T") ∷ actions.Invoke 3 (Reg 2) (IntKey (pos 4)) (Reg 1 ∷ Reg 1 ∷ Reg 1 ∷ Reg 2 ∷ Reg 3 ∷ Reg 3 ∷ Reg 3 ∷ Reg 3 ∷ []) ∷ actions.Window 1 ∷ []) ∷
            members.Method (IntKey (pos 4)) (actions.SelfTo 2 ∷ actions.Slot 0 (Const (values.Bool true)) ∷ actions.Slot 1 (Reg 2) ∷ actions.Load 2 2 ∷ []) ∷
            members.Method (Str (codes "m2")) [] ∷
            members.Method (Str (codes "take")) (actions.Load 2 0 ∷ actions.New 4 (codes "T") ∷ actions.New 1 (codes "U") ∷ actions.Invoke 2 (Reg 1) (Str (codes "none")) (Reg 0 ∷ Reg 3 ∷ Reg 2 ∷ []) ∷ []) ∷
            members.Method (Str (codes "m0")) (actions.Load 1 2 ∷ actions.Load 2 0 ∷ actions.Invoke 2 (Reg 3) (Str (codes "take")) (Reg 1 ∷ Reg 2 ∷ Reg 1 ∷ []) ∷ actions.New 4 (codes "U") ∷ actions.New 4 (codes "T") ∷ actions.New 5 (codes "Main") ∷ actions.Put (Reg 4) (Str (codes "f1")) (Reg 5) ∷ actions.Drop 5 ∷ actions.Return (Reg 5) ∷ []) ∷
            members.Construct (actions.SelfTo 2 ∷ actions.New 4 (codes "T") ∷ actions.Load 3 1 ∷ actions.New 3 (codes "T") ∷ actions.EndStream 3 (Const (values.Int (pos 3))) reasons.UserBreak ∷ actions.Invoke 1 (Reg 3) (IntKey (pos 4)) (Reg 1 ∷ Reg 0 ∷ Reg 3 ∷ []) ∷ []) ∷
            members.Getter (Str (codes "f0")) (actions.Load 1 2 ∷ actions.New 5 (codes "T") ∷ actions.Get 1 (Reg 1) (Str (codes "f1")) ∷ actions.New 4 (codes "T") ∷ actions.New 1 (codes "T") ∷ actions.Set 2 (Reg 1) ∷ []) ∷
            members.Method (Str (codes "m1")) (actions.Load 2 2 ∷ actions.New 1 (codes "U") ∷ actions.Invoke 0 (Reg 1) (IntKey (pos 4)) (Reg 3 ∷ Reg 0 ∷ Reg 4 ∷ []) ∷ actions.OnEq (Reg 3) (Const (values.Text [])) 1 ∷ []) ∷ []);
      }) ∷
      (record {
        name = codes "U";
        version = 2;
        stored = true;
        members = (
            members.Method (Str (codes "m3")) (actions.Load 2 2 ∷ actions.Get 3 (Reg 0) (Str (codes "f0")) ∷ actions.Invoke 2 (Reg 3) (Str (codes "take")) (Reg 1 ∷ []) ∷ actions.New 3 (codes "U") ∷ actions.Slot 1 (Reg 14) ∷ []) ∷
            members.Method (Str (codes "m1")) (actions.Load 2 0 ∷ actions.OnEq (Reg 1) (Reg 1) 3 ∷ actions.Exit 45 ∷ actions.Invoke 0 (Reg 5) (Str (codes "m3")) (Const (values.Text (codes "s")) ∷ Reg 0 ∷ Reg 3 ∷ []) ∷ actions.Drop 3 ∷ []) ∷
            members.Method (Str (codes "m2")) (actions.Slot 3 (Const (values.Int (negsuc 0))) ∷ actions.Window 3 ∷ actions.GetUrl 2 (Const (values.Text (codes "e"))) (negsuc 1) ∷ []) ∷
            members.Method (Str (codes "m0")) (actions.SelfTo 2 ∷ actions.New 4 (codes "T") ∷ actions.New 1 (codes "U") ∷ actions.Slot 3 (Reg 1) ∷ []) ∷
            members.Method (Str (codes "take")) (actions.Load 3 1 ∷ actions.Load 2 0 ∷ actions.SelfTo 2 ∷ []) ∷ []);
      }) ∷ []);
  handlers = (
      (record { which = handlers.New; body = (actions.New 0 (codes "Main") ∷ actions.Slot 0 (Reg 0) ∷ actions.Window 1 ∷ actions.Slot 1 (Reg 1) ∷ actions.Load 2 2 ∷ actions.New 2 (codes "Main") ∷ actions.New 3 (codes "U") ∷ actions.SelfTo 2 ∷ []) }) ∷
      (record { which = handlers.Scriptable; body = (actions.Load 0 0 ∷ actions.Return (Reg 0) ∷ []) }) ∷
      (record { which = handlers.Destroy; body = (actions.Load 2 2 ∷ actions.New 0 (codes "Main") ∷ actions.Drop 2 ∷ []) }) ∷
      (record { which = handlers.WriteReady; body = (actions.Return (Const (values.Int (pos 100))) ∷ []) }) ∷
      (record { which = handlers.Write; body = (actions.SelfTo 2 ∷ actions.Load 3 1 ∷ actions.Invoke 3 (Reg 3) (Str (codes "m3")) (Reg 3 ∷ Reg 3 ∷ Reg 1 ∷ []) ∷ actions.Note (Reg 2) ∷ []) }) ∷
      (record { which = handlers.AsFile; body = (actions.EndStream 4 (Reg 0) reasons.NetworkErr ∷ actions.SelfTo 2 ∷ actions.Load 1 2 ∷ actions.New 1 (codes "Main") ∷ actions.Window 2 ∷ []) }) ∷
      (record { which = handlers.UrlNotify; body = [] }) ∷ []);
  tasks = [];
}

-- the run of both
both-end : outcome 1500 page plugin ≡ record {
  page = (
      Created (record { side = sides.Page; instance = 1; serial = 1 }) ∷
      CommandResult 1 (results.Code NoError) ∷
      CommandResult 2 (results.Yes (values.Object (record { side = sides.Plug; instance = 1; serial = 1 })) false) ∷
      Created (record { side = sides.Page; instance = 2; serial = 1 }) ∷
      CommandResult 3 (results.Code NoError) ∷
      CommandResult 4 (results.Yes (values.Object (record { side = sides.Plug; instance = 2; serial = 1 })) false) ∷
      Created (record { side = sides.Page; instance = 1; serial = 2 }) ∷
      CommandResult 5 (results.Yes (values.Object (record { side = sides.Page; instance = 1; serial = 2 })) false) ∷
      Created (record { side = sides.Page; instance = 2; serial = 2 }) ∷
      CommandResult 6 (results.Yes (values.Object (record { side = sides.Page; instance = 2; serial = 2 })) false) ∷
      Entered (record { side = sides.Page; instance = 2; serial = 2 }) (ops.Put (Str (codes "f0"))) ∷
      CommandResult 7 (results.Yes values.Void false) ∷
      CommandResult 8 (results.Yes values.Void false) ∷
      CommandResult 9 (results.Yes values.Void false) ∷
      Entered (record { side = sides.Page; instance = 1; serial = 2 }) (ops.Invoke (IntKey (pos 4))) ∷
      Created (record { side = sides.Page; instance = 1; serial = 3 }) ∷
      Deallocated (record { side = sides.Page; instance = 1; serial = 3 }) ∷
      CommandResult 10 (results.Yes values.Void false) ∷
      CommandResult 11 (results.Yes values.Void false) ∷
      Entered (record { side = sides.Page; instance = 1; serial = 2 }) (ops.Invoke (Str (codes "m3"))) ∷
      Created (record { side = sides.Page; instance = 1; serial = 4 }) ∷
      Created (record { side = sides.Page; instance = 1; serial = 5 }) ∷
      Created (record { side = sides.Page; instance = 1; serial = 6 }) ∷
      Deallocated (record { side = sides.Page; instance = 1; serial = 6 }) ∷
      Deallocated (record { side = sides.Page; instance = 1; serial = 4 }) ∷
      Deallocated (record { side = sides.Page; instance = 1; serial = 5 }) ∷
      CommandResult 12 (results.Yes values.Void false) ∷
      CommandResult 13 (results.Yes values.Void false) ∷
      CommandResult 14 results.No ∷
      CommandResult 15 results.No ∷
      CommandResult 16 results.No ∷
      Entered (record { side = sides.Page; instance = 1; serial = 2 }) (ops.Invoke (IntKey (pos 4))) ∷
      Created (record { side = sides.Page; instance = 1; serial = 7 }) ∷
      Deallocated (record { side = sides.Page; instance = 1; serial = 7 }) ∷
      CommandResult 17 (results.Yes values.Void false) ∷
      Entered (record { side = sides.Page; instance = 1; serial = 2 }) (ops.Invoke (Str (codes "m3"))) ∷
      Created (record { side = sides.Page; instance = 1; serial = 8 }) ∷
      Created (record { side = sides.Page; instance = 1; serial = 9 }) ∷
      Created (record { side = sides.Page; instance = 1; serial = 10 }) ∷
      Deallocated (record { side = sides.Page; instance = 1; serial = 10 }) ∷
      Deallocated (record { side = sides.Page; instance = 1; serial = 8 }) ∷
      Deallocated (record { side = sides.Page; instance = 1; serial = 9 }) ∷
      CommandResult 18 (results.Yes values.Void false) ∷
      Entered (record { side = sides.Page; instance = 1; serial = 2 }) (ops.Invoke (Str (codes "m3"))) ∷
      Created (record { side = sides.Page; instance = 1; serial = 11 }) ∷
      Created (record { side = sides.Page; instance = 1; serial = 12 }) ∷
      Created (record { side = sides.Page; instance = 1; serial = 13 }) ∷
      Deallocated (record { side = sides.Page; instance = 1; serial = 13 }) ∷
      Deallocated (record { side = sides.Page; instance = 1; serial = 11 }) ∷
      Deallocated (record { side = sides.Page; instance = 1; serial = 12 }) ∷
      CommandResult 19 (results.Yes values.Void false) ∷
      CommandResult 20 (results.Yes values.Void false) ∷
      Created (record { side = sides.Page; instance = 1; serial = 14 }) ∷
      CommandResult 21 (results.Yes (values.Object (record { side = sides.Page; instance = 1; serial = 14 })) false) ∷
      Entered (record { side = sides.Page; instance = 2; serial = 2 }) (ops.Invoke (Str (codes "m2"))) ∷
      Created (record { side = sides.Page; instance = 2; serial = 3 }) ∷
      Created (record { side = sides.Page; instance = 2; serial = 4 }) ∷
      Deallocated (record { side = sides.Page; instance = 1; serial = 14 }) ∷
      Deallocated (record { side = sides.Page; instance = 2; serial = 3 }) ∷
      Deallocated (record { side = sides.Page; instance = 2; serial = 4 }) ∷
      CommandResult 22 (results.Yes values.Void false) ∷
      CommandResult 23 (results.Yes values.Void false) ∷
      Entered (record { side = sides.Page; instance = 2; serial = 2 }) (ops.Invoke (Str (codes "m1"))) ∷
      Created (record { side = sides.Page; instance = 2; serial = 5 }) ∷
      Deallocated (record { side = sides.Page; instance = 2; serial = 5 }) ∷
      CommandResult 24 (results.Yes values.Void false) ∷
      Entered (record { side = sides.Page; instance = 2; serial = 2 }) (ops.Invoke (Str (codes "take"))) ∷
      Created (record { side = sides.Page; instance = 2; serial = 6 }) ∷
      Deallocated (record { side = sides.Page; instance = 2; serial = 6 }) ∷
      CommandResult 25 (results.Yes values.Void false) ∷
      Entered (record { side = sides.Page; instance = 2; serial = 2 }) (ops.Invoke (Str (codes "m0"))) ∷
      Created (record { side = sides.Page; instance = 2; serial = 7 }) ∷
      Deallocated (record { side = sides.Page; instance = 2; serial = 7 }) ∷
      CommandResult 26 (results.Yes values.Void false) ∷
      CommandResult 27 results.No ∷
      CommandResult 28 results.No ∷
      Created (record { side = sides.Page; instance = 1; serial = 15 }) ∷
      CommandResult 29 (results.Yes (values.Object (record { side = sides.Page; instance = 1; serial = 15 })) false) ∷
      CommandResult 30 (results.Code NoError) ∷
      CommandResult 31 results.No ∷
      CommandResult 32 (results.Code NoError) ∷
      CommandResult 33 results.No ∷
      Entered (record { side = sides.Page; instance = 1; serial = 15 }) (ops.Invoke (Str (codes "m3"))) ∷
      Created (record { side = sides.Page; instance = 1; serial = 16 }) ∷
      Created (record { side = sides.Page; instance = 1; serial = 17 }) ∷
      Created (record { side = sides.Page; instance = 1; serial = 18 }) ∷
      Deallocated (record { side = sides.Page; instance = 1; serial = 18 }) ∷
      Deallocated (record { side = sides.Page; instance = 1; serial = 16 }) ∷
      Deallocated (record { side = sides.Page; instance = 1; serial = 17 }) ∷
      CommandResult 34 (results.Yes values.Void false) ∷
      Deallocated (record { side = sides.Page; instance = 1; serial = 15 }) ∷
      CommandResult 35 results.No ∷
      Deallocated (record { side = sides.Page; instance = 1; serial = 2 }) ∷
      CommandResult 36 results.No ∷
      CommandResult 37 results.No ∷
      CommandResult 38 results.No ∷
      CommandResult 39 (results.Code NoError) ∷
      CommandResult 40 results.No ∷
      CommandResult 41 results.No ∷
      CommandResult 42 results.No ∷
      CommandResult 43 results.No ∷
      StreamAnswered 1 (streams.New (pos 1)) ∷
      CommandResult 44 (results.Pumped 1) ∷
      CommandResult 45 results.No ∷
      Created (record { side = sides.Page; instance = 3; serial = 1 }) ∷
      CommandResult 46 (results.Code NoError) ∷
      CommandResult 47 (results.Yes (values.Object (record { side = sides.Plug; instance = 3; serial = 1 })) false) ∷
      CommandResult 48 results.No ∷
      CommandResult 49 (results.Yes values.Void false) ∷
      CommandResult 50 results.No ∷
      CommandResult 51 results.No ∷
      StreamAnswered 1 (streams.Ready (pos 100)) ∷
      Entered (record { side = sides.Page; instance = 1; serial = 1 }) (ops.Invoke (Str (codes "m3"))) ∷
      StreamAnswered 1 (streams.Write 0 40 (pos 40)) ∷
      StreamAnswered 1 (streams.Destroy reasons.Done) ∷
      StreamAnswered 2 (streams.New (pos 1)) ∷
      StreamAnswered 2 (streams.Ready (pos 100)) ∷
      Entered (record { side = sides.Page; instance = 1; serial = 1 }) (ops.Invoke (Str (codes "m3"))) ∷
      StreamAnswered 2 (streams.Write 0 40 (pos 40)) ∷
      StreamAnswered 2 (streams.Destroy reasons.Done) ∷
      StreamAnswered 3 (streams.New (pos 1)) ∷
      CommandResult 52 (results.Pumped 8) ∷
      CommandResult 53 results.No ∷
      CommandResult 54 results.No ∷
      CommandResult 55 results.No ∷
      CommandResult 56 results.No ∷
      CommandResult 57 results.No ∷
      CommandResult 58 results.No ∷
      CommandResult 59 results.No ∷
      CommandResult 60 results.No ∷
      Created (record { side = sides.Page; instance = 2; serial = 8 }) ∷
      CommandResult 61 (results.Yes (values.Object (record { side = sides.Page; instance = 2; serial = 8 })) false) ∷
      CommandResult 62 results.No ∷
      CommandResult 63 results.No ∷
      CommandResult 64 results.No ∷
      CommandResult 65 results.No ∷
      CommandResult 66 results.No ∷
      CommandResult 67 results.No ∷
      CommandResult 68 results.No ∷
      Entered (record { side = sides.Page; instance = 2; serial = 8 }) (ops.Invoke (IntKey (pos 4))) ∷
      Created (record { side = sides.Page; instance = 2; serial = 9 }) ∷
      Deallocated (record { side = sides.Page; instance = 2; serial = 9 }) ∷
      CommandResult 69 (results.Yes values.Void false) ∷
      StreamAnswered 3 (streams.Destroy reasons.Done) ∷
      CommandResult 70 (results.Pumped 1) ∷
      Entered (record { side = sides.Page; instance = 2; serial = 8 }) (ops.Invoke (Str (codes "m0"))) ∷
      Created (record { side = sides.Page; instance = 2; serial = 10 }) ∷
      Deallocated (record { side = sides.Page; instance = 2; serial = 10 }) ∷
      CommandResult 71 (results.Yes values.Void false) ∷
      ProxyGone (record { side = sides.Plug; instance = 1; serial = 1 }) ∷
      Invalidated (record { side = sides.Page; instance = 1; serial = 1 }) ∷
      Deallocated (record { side = sides.Page; instance = 1; serial = 1 }) ∷
      Invalidated (record { side = sides.Page; instance = 2; serial = 1 }) ∷
      Invalidated (record { side = sides.Page; instance = 2; serial = 2 }) ∷
      Invalidated (record { side = sides.Page; instance = 2; serial = 8 }) ∷
      Deallocated (record { side = sides.Page; instance = 2; serial = 1 }) ∷
      Deallocated (record { side = sides.Page; instance = 2; serial = 2 }) ∷
      Deallocated (record { side = sides.Page; instance = 2; serial = 8 }) ∷
      Invalidated (record { side = sides.Page; instance = 3; serial = 1 }) ∷
      Deallocated (record { side = sides.Page; instance = 3; serial = 1 }) ∷ []);
  plugin = (
      HandlerRun 1 handlers.New ∷
      Created (record { side = sides.Plug; instance = 1; serial = 1 }) ∷
      Created (record { side = sides.Plug; instance = 1; serial = 2 }) ∷
      Created (record { side = sides.Plug; instance = 1; serial = 3 }) ∷
      Deallocated (record { side = sides.Plug; instance = 1; serial = 2 }) ∷
      Deallocated (record { side = sides.Plug; instance = 1; serial = 3 }) ∷
      HandlerRun 1 handlers.Scriptable ∷
      HandlerRun 2 handlers.New ∷
      Created (record { side = sides.Plug; instance = 2; serial = 1 }) ∷
      Created (record { side = sides.Plug; instance = 2; serial = 2 }) ∷
      Created (record { side = sides.Plug; instance = 2; serial = 3 }) ∷
      Deallocated (record { side = sides.Plug; instance = 2; serial = 2 }) ∷
      Deallocated (record { side = sides.Plug; instance = 2; serial = 3 }) ∷
      HandlerRun 2 handlers.Scriptable ∷
      Entered (record { side = sides.Plug; instance = 1; serial = 1 }) (ops.Invoke (Str (codes "m1"))) ∷
      Entered (record { side = sides.Plug; instance = 1; serial = 1 }) (ops.Invoke (Str (codes "take"))) ∷
      Entered (record { side = sides.Plug; instance = 2; serial = 1 }) (ops.Invoke (Str (codes "m2"))) ∷
      Created (record { side = sides.Plug; instance = 2; serial = 4 }) ∷
      Created (record { side = sides.Plug; instance = 2; serial = 5 }) ∷
      Entered (record { side = sides.Plug; instance = 2; serial = 5 }) (ops.Put (Str (codes "f1"))) ∷
      Entered (record { side = sides.Plug; instance = 2; serial = 5 }) (ops.Put (Str (codes "f1"))) ∷
      Entered (record { side = sides.Plug; instance = 2; serial = 5 }) ops.Enumerate ∷
      Deallocated (record { side = sides.Plug; instance = 2; serial = 4 }) ∷
      Entered (record { side = sides.Plug; instance = 2; serial = 1 }) (ops.Invoke (Str (codes "m0"))) ∷
      Entered (record { side = sides.Plug; instance = 2; serial = 1 }) (ops.Invoke (Str (codes "take"))) ∷
      Entered (record { side = sides.Plug; instance = 2; serial = 1 }) (ops.Invoke (Str (codes "m2"))) ∷
      Created (record { side = sides.Plug; instance = 2; serial = 6 }) ∷
      Created (record { side = sides.Plug; instance = 2; serial = 7 }) ∷
      Entered (record { side = sides.Plug; instance = 2; serial = 7 }) (ops.Put (Str (codes "f1"))) ∷
      Entered (record { side = sides.Plug; instance = 2; serial = 7 }) (ops.Put (Str (codes "f1"))) ∷
      Entered (record { side = sides.Plug; instance = 2; serial = 7 }) ops.Enumerate ∷
      Deallocated (record { side = sides.Plug; instance = 2; serial = 6 }) ∷
      Entered (record { side = sides.Plug; instance = 1; serial = 1 }) (ops.Invoke (IntKey (pos 4))) ∷
      Entered (record { side = sides.Plug; instance = 2; serial = 1 }) (ops.Invoke (Str (codes "take"))) ∷
      HandlerRun 3 handlers.New ∷
      Created (record { side = sides.Plug; instance = 3; serial = 1 }) ∷
      Created (record { side = sides.Plug; instance = 3; serial = 2 }) ∷
      Created (record { side = sides.Plug; instance = 3; serial = 3 }) ∷
      Deallocated (record { side = sides.Plug; instance = 3; serial = 2 }) ∷
      Deallocated (record { side = sides.Plug; instance = 3; serial = 3 }) ∷
      HandlerRun 3 handlers.Scriptable ∷
      HandlerRun 1 handlers.WriteReady ∷
      HandlerRun 1 handlers.Write ∷
      Noted values.Null false ∷
      HandlerRun 1 handlers.WriteReady ∷
      HandlerRun 1 handlers.Write ∷
      Noted values.Null false ∷
      HandlerRun 1 handlers.Destroy ∷
      Created (record { side = sides.Plug; instance = 1; serial = 4 }) ∷
      Deallocated (record { side = sides.Plug; instance = 1; serial = 4 }) ∷
      ProxyGone (record { side = sides.Page; instance = 1; serial = 1 }) ∷
      Invalidated (record { side = sides.Plug; instance = 1; serial = 1 }) ∷
      Deallocated (record { side = sides.Plug; instance = 1; serial = 1 }) ∷
      HandlerRun 2 handlers.Destroy ∷
      Created (record { side = sides.Plug; instance = 2; serial = 8 }) ∷
      Deallocated (record { side = sides.Plug; instance = 2; serial = 8 }) ∷
      ProxyGone (record { side = sides.Page; instance = 2; serial = 1 }) ∷
      ProxyGone (record { side = sides.Page; instance = 2; serial = 2 }) ∷
      Invalidated (record { side = sides.Plug; instance = 2; serial = 1 }) ∷
      Invalidated (record { side = sides.Plug; instance = 2; serial = 5 }) ∷
      Invalidated (record { side = sides.Plug; instance = 2; serial = 7 }) ∷
      Deallocated (record { side = sides.Plug; instance = 2; serial = 1 }) ∷
      Deallocated (record { side = sides.Plug; instance = 2; serial = 5 }) ∷
      Deallocated (record { side = sides.Plug; instance = 2; serial = 7 }) ∷
      HandlerRun 3 handlers.Destroy ∷
      Created (record { side = sides.Plug; instance = 3; serial = 4 }) ∷
      Deallocated (record { side = sides.Plug; instance = 3; serial = 4 }) ∷
      ProxyGone (record { side = sides.Page; instance = 3; serial = 1 }) ∷
      Invalidated (record { side = sides.Plug; instance = 3; serial = 1 }) ∷
      Deallocated (record { side = sides.Plug; instance = 3; serial = 1 }) ∷ []);
  files = [];
  rests = true;
}
unfolding encoding digits is_text is_utf8 chars encode_utf8
both-end = refl

-- all bytes that the page sends
page-sends : page_bytes 1500 page plugin ≡ (0 ∷ 0 ∷ 0 ∷ 7 ∷ 1 ∷ 1 ∷ 0 ∷ 0 ∷ 1 ∷ 0 ∷ 27 ∷ 0 ∷ 0 ∷ 0 ∷ 12 ∷ 2 ∷ 1 ∷ 0 ∷ 0 ∷ 1 ∷ 1 ∷ 0 ∷ 3 ∷ 116 ∷ 47 ∷ 120 ∷ 0 ∷ 0 ∷ 0 ∷ 0 ∷ 11 ∷ 65 ∷ 2 ∷ 0 ∷ 0 ∷ 6 ∷ 0 ∷ 1 ∷ 0 ∷ 0 ∷ 0 ∷ 1 ∷ 0 ∷ 0 ∷ 0 ∷ 5 ∷ 4 ∷ 1 ∷ 0 ∷ 0 ∷ 1 ∷ 0 ∷ 0 ∷ 0 ∷ 24 ∷ 2 ∷ 1 ∷ 0 ∷ 0 ∷ 2 ∷ 2 ∷ 0 ∷ 3 ∷ 116 ∷ 47 ∷ 120 ∷ 2 ∷ 0 ∷ 1 ∷ 97 ∷ 0 ∷ 1 ∷ 49 ∷ 0 ∷ 1 ∷ 97 ∷ 0 ∷ 1 ∷ 49 ∷ 0 ∷ 0 ∷ 0 ∷ 11 ∷ 65 ∷ 2 ∷ 0 ∷ 0 ∷ 6 ∷ 0 ∷ 2 ∷ 0 ∷ 0 ∷ 0 ∷ 1 ∷ 0 ∷ 0 ∷ 0 ∷ 5 ∷ 4 ∷ 1 ∷ 0 ∷ 0 ∷ 2 ∷ 0 ∷ 0 ∷ 0 ∷ 37 ∷ 64 ∷ 1 ∷ 0 ∷ 0 ∷ 1 ∷ 0 ∷ 0 ∷ 0 ∷ 1 ∷ 1 ∷ 0 ∷ 0 ∷ 2 ∷ 109 ∷ 49 ∷ 3 ∷ 6 ∷ 0 ∷ 2 ∷ 0 ∷ 0 ∷ 0 ∷ 2 ∷ 6 ∷ 1 ∷ 1 ∷ 0 ∷ 0 ∷ 0 ∷ 1 ∷ 6 ∷ 0 ∷ 1 ∷ 0 ∷ 0 ∷ 0 ∷ 2 ∷ 0 ∷ 0 ∷ 0 ∷ 5 ∷ 65 ∷ 2 ∷ 0 ∷ 0 ∷ 0 ∷ 0 ∷ 0 ∷ 0 ∷ 37 ∷ 64 ∷ 1 ∷ 0 ∷ 0 ∷ 2 ∷ 0 ∷ 0 ∷ 0 ∷ 1 ∷ 1 ∷ 0 ∷ 0 ∷ 2 ∷ 109 ∷ 50 ∷ 3 ∷ 6 ∷ 0 ∷ 2 ∷ 0 ∷ 0 ∷ 0 ∷ 2 ∷ 6 ∷ 1 ∷ 2 ∷ 0 ∷ 0 ∷ 0 ∷ 1 ∷ 6 ∷ 0 ∷ 1 ∷ 0 ∷ 0 ∷ 0 ∷ 2 ∷ 0 ∷ 0 ∷ 0 ∷ 5 ∷ 69 ∷ 2 ∷ 0 ∷ 0 ∷ 9 ∷ 0 ∷ 0 ∷ 0 ∷ 37 ∷ 64 ∷ 1 ∷ 0 ∷ 0 ∷ 2 ∷ 0 ∷ 0 ∷ 0 ∷ 1 ∷ 1 ∷ 0 ∷ 0 ∷ 2 ∷ 109 ∷ 48 ∷ 3 ∷ 6 ∷ 0 ∷ 2 ∷ 0 ∷ 0 ∷ 0 ∷ 2 ∷ 6 ∷ 1 ∷ 2 ∷ 0 ∷ 0 ∷ 0 ∷ 1 ∷ 6 ∷ 1 ∷ 1 ∷ 0 ∷ 0 ∷ 0 ∷ 1 ∷ 0 ∷ 0 ∷ 0 ∷ 31 ∷ 64 ∷ 2 ∷ 0 ∷ 0 ∷ 2 ∷ 0 ∷ 0 ∷ 0 ∷ 1 ∷ 1 ∷ 0 ∷ 0 ∷ 4 ∷ 116 ∷ 97 ∷ 107 ∷ 101 ∷ 3 ∷ 0 ∷ 6 ∷ 0 ∷ 2 ∷ 0 ∷ 0 ∷ 0 ∷ 2 ∷ 3 ∷ 127 ∷ 255 ∷ 255 ∷ 255 ∷ 0 ∷ 0 ∷ 0 ∷ 25 ∷ 64 ∷ 1 ∷ 0 ∷ 0 ∷ 2 ∷ 0 ∷ 0 ∷ 0 ∷ 1 ∷ 1 ∷ 0 ∷ 0 ∷ 2 ∷ 109 ∷ 50 ∷ 3 ∷ 6 ∷ 1 ∷ 2 ∷ 0 ∷ 0 ∷ 0 ∷ 1 ∷ 0 ∷ 0 ∷ 0 ∷ 0 ∷ 0 ∷ 5 ∷ 69 ∷ 2 ∷ 0 ∷ 0 ∷ 9 ∷ 0 ∷ 0 ∷ 0 ∷ 31 ∷ 64 ∷ 1 ∷ 0 ∷ 0 ∷ 1 ∷ 0 ∷ 0 ∷ 0 ∷ 1 ∷ 1 ∷ 1 ∷ 0 ∷ 0 ∷ 0 ∷ 4 ∷ 3 ∷ 0 ∷ 6 ∷ 0 ∷ 2 ∷ 0 ∷ 0 ∷ 0 ∷ 2 ∷ 6 ∷ 1 ∷ 2 ∷ 0 ∷ 0 ∷ 0 ∷ 1 ∷ 0 ∷ 0 ∷ 0 ∷ 25 ∷ 64 ∷ 2 ∷ 0 ∷ 0 ∷ 2 ∷ 0 ∷ 0 ∷ 0 ∷ 1 ∷ 1 ∷ 0 ∷ 0 ∷ 4 ∷ 116 ∷ 97 ∷ 107 ∷ 101 ∷ 3 ∷ 0 ∷ 0 ∷ 3 ∷ 127 ∷ 255 ∷ 255 ∷ 255 ∷ 0 ∷ 0 ∷ 0 ∷ 4 ∷ 5 ∷ 1 ∷ 0 ∷ 0 ∷ 0 ∷ 0 ∷ 0 ∷ 30 ∷ 6 ∷ 1 ∷ 0 ∷ 1 ∷ 2 ∷ 0 ∷ 0 ∷ 0 ∷ 1 ∷ 0 ∷ 0 ∷ 0 ∷ 1 ∷ 1 ∷ 0 ∷ 0 ∷ 0 ∷ 1 ∷ 0 ∷ 1 ∷ 115 ∷ 0 ∷ 3 ∷ 116 ∷ 47 ∷ 112 ∷ 0 ∷ 0 ∷ 0 ∷ 40 ∷ 0 ∷ 0 ∷ 0 ∷ 12 ∷ 2 ∷ 1 ∷ 0 ∷ 0 ∷ 3 ∷ 2 ∷ 0 ∷ 3 ∷ 116 ∷ 47 ∷ 121 ∷ 0 ∷ 0 ∷ 0 ∷ 0 ∷ 11 ∷ 65 ∷ 2 ∷ 0 ∷ 0 ∷ 6 ∷ 0 ∷ 3 ∷ 0 ∷ 0 ∷ 0 ∷ 1 ∷ 0 ∷ 0 ∷ 0 ∷ 5 ∷ 4 ∷ 1 ∷ 0 ∷ 0 ∷ 3 ∷ 0 ∷ 0 ∷ 0 ∷ 4 ∷ 5 ∷ 1 ∷ 0 ∷ 0 ∷ 0 ∷ 0 ∷ 0 ∷ 9 ∷ 7 ∷ 1 ∷ 0 ∷ 0 ∷ 1 ∷ 0 ∷ 0 ∷ 0 ∷ 1 ∷ 0 ∷ 0 ∷ 0 ∷ 55 ∷ 8 ∷ 1 ∷ 0 ∷ 0 ∷ 1 ∷ 0 ∷ 0 ∷ 0 ∷ 1 ∷ 0 ∷ 0 ∷ 0 ∷ 0 ∷ 0 ∷ 40 ∷ 48 ∷ 49 ∷ 50 ∷ 51 ∷ 52 ∷ 53 ∷ 54 ∷ 55 ∷ 56 ∷ 57 ∷ 48 ∷ 49 ∷ 50 ∷ 51 ∷ 52 ∷ 53 ∷ 54 ∷ 55 ∷ 56 ∷ 57 ∷ 48 ∷ 49 ∷ 50 ∷ 51 ∷ 52 ∷ 53 ∷ 54 ∷ 55 ∷ 56 ∷ 57 ∷ 48 ∷ 49 ∷ 50 ∷ 51 ∷ 52 ∷ 53 ∷ 54 ∷ 55 ∷ 56 ∷ 57 ∷ 0 ∷ 0 ∷ 0 ∷ 5 ∷ 65 ∷ 2 ∷ 0 ∷ 0 ∷ 0 ∷ 0 ∷ 0 ∷ 0 ∷ 10 ∷ 10 ∷ 1 ∷ 0 ∷ 0 ∷ 1 ∷ 0 ∷ 0 ∷ 0 ∷ 1 ∷ 0 ∷ 0 ∷ 0 ∷ 0 ∷ 21 ∷ 6 ∷ 1 ∷ 0 ∷ 0 ∷ 1 ∷ 0 ∷ 0 ∷ 0 ∷ 2 ∷ 0 ∷ 1 ∷ 115 ∷ 0 ∷ 3 ∷ 116 ∷ 47 ∷ 112 ∷ 0 ∷ 0 ∷ 0 ∷ 40 ∷ 0 ∷ 0 ∷ 0 ∷ 9 ∷ 7 ∷ 1 ∷ 0 ∷ 0 ∷ 1 ∷ 0 ∷ 0 ∷ 0 ∷ 2 ∷ 0 ∷ 0 ∷ 0 ∷ 55 ∷ 8 ∷ 1 ∷ 0 ∷ 0 ∷ 1 ∷ 0 ∷ 0 ∷ 0 ∷ 2 ∷ 0 ∷ 0 ∷ 0 ∷ 0 ∷ 0 ∷ 40 ∷ 48 ∷ 49 ∷ 50 ∷ 51 ∷ 52 ∷ 53 ∷ 54 ∷ 55 ∷ 56 ∷ 57 ∷ 48 ∷ 49 ∷ 50 ∷ 51 ∷ 52 ∷ 53 ∷ 54 ∷ 55 ∷ 56 ∷ 57 ∷ 48 ∷ 49 ∷ 50 ∷ 51 ∷ 52 ∷ 53 ∷ 54 ∷ 55 ∷ 56 ∷ 57 ∷ 48 ∷ 49 ∷ 50 ∷ 51 ∷ 52 ∷ 53 ∷ 54 ∷ 55 ∷ 56 ∷ 57 ∷ 0 ∷ 0 ∷ 0 ∷ 5 ∷ 65 ∷ 2 ∷ 0 ∷ 0 ∷ 0 ∷ 0 ∷ 0 ∷ 0 ∷ 10 ∷ 10 ∷ 1 ∷ 0 ∷ 0 ∷ 1 ∷ 0 ∷ 0 ∷ 0 ∷ 2 ∷ 0 ∷ 0 ∷ 0 ∷ 0 ∷ 21 ∷ 6 ∷ 1 ∷ 0 ∷ 0 ∷ 1 ∷ 0 ∷ 0 ∷ 0 ∷ 3 ∷ 0 ∷ 1 ∷ 101 ∷ 0 ∷ 3 ∷ 116 ∷ 47 ∷ 112 ∷ 0 ∷ 0 ∷ 0 ∷ 0 ∷ 0 ∷ 0 ∷ 0 ∷ 19 ∷ 10 ∷ 1 ∷ 0 ∷ 1 ∷ 3 ∷ 0 ∷ 0 ∷ 0 ∷ 1 ∷ 0 ∷ 0 ∷ 0 ∷ 1 ∷ 1 ∷ 0 ∷ 0 ∷ 0 ∷ 3 ∷ 0 ∷ 0 ∷ 0 ∷ 0 ∷ 5 ∷ 3 ∷ 1 ∷ 0 ∷ 0 ∷ 1 ∷ 0 ∷ 0 ∷ 0 ∷ 5 ∷ 3 ∷ 1 ∷ 0 ∷ 0 ∷ 2 ∷ 0 ∷ 0 ∷ 0 ∷ 5 ∷ 3 ∷ 1 ∷ 0 ∷ 0 ∷ 3 ∷ 0 ∷ 0 ∷ 0 ∷ 4 ∷ 12 ∷ 1 ∷ 0 ∷ 0 ∷ [])
unfolding encoding digits is_text is_utf8 chars encode_utf8
page-sends = refl

-- all bytes that the plugin sends
plugin-sends : plugin_bytes 1500 page plugin ≡ (0 ∷ 0 ∷ 0 ∷ 5 ∷ 69 ∷ 1 ∷ 0 ∷ 0 ∷ 0 ∷ 0 ∷ 0 ∷ 0 ∷ 5 ∷ 32 ∷ 2 ∷ 0 ∷ 0 ∷ 1 ∷ 0 ∷ 0 ∷ 0 ∷ 5 ∷ 69 ∷ 1 ∷ 0 ∷ 0 ∷ 0 ∷ 0 ∷ 0 ∷ 0 ∷ 11 ∷ 65 ∷ 1 ∷ 0 ∷ 0 ∷ 6 ∷ 1 ∷ 1 ∷ 0 ∷ 0 ∷ 0 ∷ 1 ∷ 0 ∷ 0 ∷ 0 ∷ 5 ∷ 32 ∷ 2 ∷ 0 ∷ 0 ∷ 2 ∷ 0 ∷ 0 ∷ 0 ∷ 5 ∷ 69 ∷ 1 ∷ 0 ∷ 0 ∷ 0 ∷ 0 ∷ 0 ∷ 0 ∷ 11 ∷ 65 ∷ 1 ∷ 0 ∷ 0 ∷ 6 ∷ 1 ∷ 2 ∷ 0 ∷ 0 ∷ 0 ∷ 1 ∷ 0 ∷ 0 ∷ 0 ∷ 31 ∷ 64 ∷ 2 ∷ 0 ∷ 1 ∷ 1 ∷ 0 ∷ 0 ∷ 0 ∷ 2 ∷ 0 ∷ 0 ∷ 0 ∷ 1 ∷ 2 ∷ 0 ∷ 0 ∷ 0 ∷ 2 ∷ 5 ∷ 0 ∷ 0 ∷ 2 ∷ 102 ∷ 48 ∷ 6 ∷ 1 ∷ 1 ∷ 0 ∷ 0 ∷ 0 ∷ 1 ∷ 0 ∷ 0 ∷ 0 ∷ 14 ∷ 65 ∷ 1 ∷ 0 ∷ 1 ∷ 2 ∷ 0 ∷ 0 ∷ 0 ∷ 2 ∷ 0 ∷ 0 ∷ 0 ∷ 1 ∷ 0 ∷ 0 ∷ 0 ∷ 0 ∷ 36 ∷ 34 ∷ 2 ∷ 0 ∷ 2 ∷ 1 ∷ 0 ∷ 0 ∷ 0 ∷ 2 ∷ 0 ∷ 0 ∷ 0 ∷ 1 ∷ 2 ∷ 0 ∷ 0 ∷ 0 ∷ 2 ∷ 0 ∷ 0 ∷ 0 ∷ 1 ∷ 2 ∷ 0 ∷ 0 ∷ 0 ∷ 3 ∷ 1 ∷ 0 ∷ 0 ∷ 0 ∷ 0 ∷ 0 ∷ 0 ∷ 0 ∷ 2 ∷ 0 ∷ 0 ∷ 0 ∷ 5 ∷ 65 ∷ 1 ∷ 0 ∷ 0 ∷ 0 ∷ 0 ∷ 0 ∷ 0 ∷ 5 ∷ 65 ∷ 1 ∷ 0 ∷ 0 ∷ 0 ∷ 0 ∷ 0 ∷ 0 ∷ 5 ∷ 65 ∷ 2 ∷ 0 ∷ 0 ∷ 0 ∷ 0 ∷ 0 ∷ 0 ∷ 18 ∷ 34 ∷ 2 ∷ 0 ∷ 0 ∷ 2 ∷ 0 ∷ 0 ∷ 0 ∷ 3 ∷ 1 ∷ 0 ∷ 0 ∷ 0 ∷ 0 ∷ 0 ∷ 0 ∷ 0 ∷ 2 ∷ 0 ∷ 0 ∷ 0 ∷ 5 ∷ 65 ∷ 1 ∷ 0 ∷ 0 ∷ 0 ∷ 0 ∷ 0 ∷ 0 ∷ 5 ∷ 65 ∷ 1 ∷ 0 ∷ 0 ∷ 0 ∷ 0 ∷ 0 ∷ 0 ∷ 5 ∷ 65 ∷ 2 ∷ 0 ∷ 0 ∷ 0 ∷ 0 ∷ 0 ∷ 0 ∷ 4 ∷ 71 ∷ 1 ∷ 0 ∷ 0 ∷ 0 ∷ 0 ∷ 0 ∷ 8 ∷ 70 ∷ 1 ∷ 0 ∷ 0 ∷ 0 ∷ 0 ∷ 0 ∷ 1 ∷ 0 ∷ 0 ∷ 0 ∷ 5 ∷ 32 ∷ 2 ∷ 0 ∷ 0 ∷ 3 ∷ 0 ∷ 0 ∷ 0 ∷ 5 ∷ 69 ∷ 1 ∷ 0 ∷ 0 ∷ 0 ∷ 0 ∷ 0 ∷ 0 ∷ 11 ∷ 65 ∷ 1 ∷ 0 ∷ 0 ∷ 6 ∷ 1 ∷ 3 ∷ 0 ∷ 0 ∷ 0 ∷ 1 ∷ 0 ∷ 0 ∷ 0 ∷ 4 ∷ 71 ∷ 1 ∷ 0 ∷ 0 ∷ 0 ∷ 0 ∷ 0 ∷ 8 ∷ 70 ∷ 1 ∷ 0 ∷ 0 ∷ 0 ∷ 0 ∷ 0 ∷ 100 ∷ 0 ∷ 0 ∷ 0 ∷ 35 ∷ 64 ∷ 2 ∷ 0 ∷ 0 ∷ 1 ∷ 0 ∷ 0 ∷ 0 ∷ 1 ∷ 1 ∷ 0 ∷ 0 ∷ 2 ∷ 109 ∷ 51 ∷ 3 ∷ 6 ∷ 0 ∷ 1 ∷ 0 ∷ 0 ∷ 0 ∷ 1 ∷ 6 ∷ 0 ∷ 1 ∷ 0 ∷ 0 ∷ 0 ∷ 1 ∷ 3 ∷ 0 ∷ 0 ∷ 0 ∷ 0 ∷ 0 ∷ 0 ∷ 0 ∷ 8 ∷ 70 ∷ 1 ∷ 0 ∷ 0 ∷ 0 ∷ 0 ∷ 0 ∷ 40 ∷ 0 ∷ 0 ∷ 0 ∷ 4 ∷ 71 ∷ 1 ∷ 0 ∷ 0 ∷ 0 ∷ 0 ∷ 0 ∷ 8 ∷ 70 ∷ 1 ∷ 0 ∷ 0 ∷ 0 ∷ 0 ∷ 0 ∷ 1 ∷ 0 ∷ 0 ∷ 0 ∷ 8 ∷ 70 ∷ 1 ∷ 0 ∷ 0 ∷ 0 ∷ 0 ∷ 0 ∷ 100 ∷ 0 ∷ 0 ∷ 0 ∷ 35 ∷ 64 ∷ 2 ∷ 0 ∷ 0 ∷ 1 ∷ 0 ∷ 0 ∷ 0 ∷ 1 ∷ 1 ∷ 0 ∷ 0 ∷ 2 ∷ 109 ∷ 51 ∷ 3 ∷ 6 ∷ 0 ∷ 1 ∷ 0 ∷ 0 ∷ 0 ∷ 1 ∷ 6 ∷ 0 ∷ 1 ∷ 0 ∷ 0 ∷ 0 ∷ 1 ∷ 3 ∷ 0 ∷ 0 ∷ 0 ∷ 0 ∷ 0 ∷ 0 ∷ 0 ∷ 8 ∷ 70 ∷ 1 ∷ 0 ∷ 0 ∷ 0 ∷ 0 ∷ 0 ∷ 40 ∷ 0 ∷ 0 ∷ 0 ∷ 4 ∷ 71 ∷ 1 ∷ 0 ∷ 0 ∷ 0 ∷ 0 ∷ 0 ∷ 8 ∷ 70 ∷ 1 ∷ 0 ∷ 0 ∷ 0 ∷ 0 ∷ 0 ∷ 1 ∷ 0 ∷ 0 ∷ 0 ∷ 4 ∷ 71 ∷ 1 ∷ 0 ∷ 0 ∷ 0 ∷ 0 ∷ 0 ∷ 5 ∷ 69 ∷ 1 ∷ 0 ∷ 0 ∷ 0 ∷ 0 ∷ 0 ∷ 0 ∷ 5 ∷ 69 ∷ 1 ∷ 0 ∷ 0 ∷ 0 ∷ 0 ∷ 0 ∷ 0 ∷ 5 ∷ 69 ∷ 1 ∷ 0 ∷ 0 ∷ 0 ∷ 0 ∷ 0 ∷ 0 ∷ 4 ∷ 71 ∷ 1 ∷ 0 ∷ 0 ∷ [])
unfolding encoding digits is_text is_utf8 chars encode_utf8
plugin-sends = refl

-- the plug-in's first 282 bytes hold 21 whole messages
cut-282 : lost_outcome 1500 (Some 21) page plugin ≡ record {
  page = (
      Created (record { side = sides.Page; instance = 1; serial = 1 }) ∷
      CommandResult 1 (results.Code NoError) ∷
      CommandResult 2 (results.Yes (values.Object (record { side = sides.Plug; instance = 1; serial = 1 })) false) ∷
      Created (record { side = sides.Page; instance = 2; serial = 1 }) ∷
      CommandResult 3 (results.Code NoError) ∷
      CommandResult 4 (results.Yes (values.Object (record { side = sides.Plug; instance = 2; serial = 1 })) false) ∷
      Created (record { side = sides.Page; instance = 1; serial = 2 }) ∷
      CommandResult 5 (results.Yes (values.Object (record { side = sides.Page; instance = 1; serial = 2 })) false) ∷
      Created (record { side = sides.Page; instance = 2; serial = 2 }) ∷
      CommandResult 6 (results.Yes (values.Object (record { side = sides.Page; instance = 2; serial = 2 })) false) ∷
      Entered (record { side = sides.Page; instance = 2; serial = 2 }) (ops.Put (Str (codes "f0"))) ∷
      CommandResult 7 (results.Yes values.Void false) ∷
      CommandResult 8 (results.Yes values.Void false) ∷
      CommandResult 9 (results.Yes values.Void false) ∷
      Entered (record { side = sides.Page; instance = 1; serial = 2 }) (ops.Invoke (IntKey (pos 4))) ∷
      Created (record { side = sides.Page; instance = 1; serial = 3 }) ∷
      Deallocated (record { side = sides.Page; instance = 1; serial = 3 }) ∷
      CommandResult 10 (results.Yes values.Void false) ∷
      CommandResult 11 (results.Yes values.Void false) ∷
      Entered (record { side = sides.Page; instance = 1; serial = 2 }) (ops.Invoke (Str (codes "m3"))) ∷
      Created (record { side = sides.Page; instance = 1; serial = 4 }) ∷
      Created (record { side = sides.Page; instance = 1; serial = 5 }) ∷
      Created (record { side = sides.Page; instance = 1; serial = 6 }) ∷
      Deallocated (record { side = sides.Page; instance = 1; serial = 6 }) ∷
      Deallocated (record { side = sides.Page; instance = 1; serial = 4 }) ∷
      Deallocated (record { side = sides.Page; instance = 1; serial = 5 }) ∷
      CommandResult 12 (results.Yes values.Void false) ∷
      CommandResult 13 (results.Yes values.Void false) ∷
      CommandResult 14 results.No ∷
      CommandResult 15 results.No ∷
      CommandResult 16 results.No ∷
      Entered (record { side = sides.Page; instance = 1; serial = 2 }) (ops.Invoke (IntKey (pos 4))) ∷
      Created (record { side = sides.Page; instance = 1; serial = 7 }) ∷
      Deallocated (record { side = sides.Page; instance = 1; serial = 7 }) ∷
      CommandResult 17 (results.Yes values.Void false) ∷
      Entered (record { side = sides.Page; instance = 1; serial = 2 }) (ops.Invoke (Str (codes "m3"))) ∷
      Created (record { side = sides.Page; instance = 1; serial = 8 }) ∷
      Created (record { side = sides.Page; instance = 1; serial = 9 }) ∷
      Created (record { side = sides.Page; instance = 1; serial = 10 }) ∷
      Deallocated (record { side = sides.Page; instance = 1; serial = 10 }) ∷
      Deallocated (record { side = sides.Page; instance = 1; serial = 8 }) ∷
      Deallocated (record { side = sides.Page; instance = 1; serial = 9 }) ∷
      CommandResult 18 (results.Yes values.Void false) ∷
      Entered (record { side = sides.Page; instance = 1; serial = 2 }) (ops.Invoke (Str (codes "m3"))) ∷
      Created (record { side = sides.Page; instance = 1; serial = 11 }) ∷
      Created (record { side = sides.Page; instance = 1; serial = 12 }) ∷
      Created (record { side = sides.Page; instance = 1; serial = 13 }) ∷
      Deallocated (record { side = sides.Page; instance = 1; serial = 13 }) ∷
      Deallocated (record { side = sides.Page; instance = 1; serial = 11 }) ∷
      Deallocated (record { side = sides.Page; instance = 1; serial = 12 }) ∷
      CommandResult 19 (results.Yes values.Void false) ∷
      CommandResult 20 (results.Yes values.Void false) ∷
      Created (record { side = sides.Page; instance = 1; serial = 14 }) ∷
      CommandResult 21 (results.Yes (values.Object (record { side = sides.Page; instance = 1; serial = 14 })) false) ∷
      Entered (record { side = sides.Page; instance = 2; serial = 2 }) (ops.Invoke (Str (codes "m2"))) ∷
      Created (record { side = sides.Page; instance = 2; serial = 3 }) ∷
      Created (record { side = sides.Page; instance = 2; serial = 4 }) ∷
      Deallocated (record { side = sides.Page; instance = 1; serial = 14 }) ∷
      Deallocated (record { side = sides.Page; instance = 2; serial = 3 }) ∷
      Deallocated (record { side = sides.Page; instance = 2; serial = 4 }) ∷
      CommandResult 22 (results.Yes values.Void false) ∷
      CommandResult 23 (results.Yes values.Void false) ∷
      Entered (record { side = sides.Page; instance = 2; serial = 2 }) (ops.Invoke (Str (codes "m1"))) ∷
      Created (record { side = sides.Page; instance = 2; serial = 5 }) ∷
      Deallocated (record { side = sides.Page; instance = 2; serial = 5 }) ∷
      CommandResult 24 (results.Yes values.Void false) ∷
      Entered (record { side = sides.Page; instance = 2; serial = 2 }) (ops.Invoke (Str (codes "take"))) ∷
      Created (record { side = sides.Page; instance = 2; serial = 6 }) ∷
      Deallocated (record { side = sides.Page; instance = 2; serial = 6 }) ∷
      CommandResult 25 (results.Yes values.Void false) ∷
      Entered (record { side = sides.Page; instance = 2; serial = 2 }) (ops.Invoke (Str (codes "m0"))) ∷
      Created (record { side = sides.Page; instance = 2; serial = 7 }) ∷
      Deallocated (record { side = sides.Page; instance = 2; serial = 7 }) ∷
      CommandResult 26 (results.Yes values.Void false) ∷
      CommandResult 27 results.No ∷
      CommandResult 28 results.No ∷
      Created (record { side = sides.Page; instance = 1; serial = 15 }) ∷
      CommandResult 29 (results.Yes (values.Object (record { side = sides.Page; instance = 1; serial = 15 })) false) ∷
      CommandResult 30 (results.Code NoError) ∷
      CommandResult 31 results.No ∷
      CommandResult 32 (results.Code NoError) ∷
      CommandResult 33 results.No ∷
      Entered (record { side = sides.Page; instance = 1; serial = 15 }) (ops.Invoke (Str (codes "m3"))) ∷
      Created (record { side = sides.Page; instance = 1; serial = 16 }) ∷
      Created (record { side = sides.Page; instance = 1; serial = 17 }) ∷
      Created (record { side = sides.Page; instance = 1; serial = 18 }) ∷
      Deallocated (record { side = sides.Page; instance = 1; serial = 18 }) ∷
      Deallocated (record { side = sides.Page; instance = 1; serial = 16 }) ∷
      Deallocated (record { side = sides.Page; instance = 1; serial = 17 }) ∷
      CommandResult 34 (results.Yes values.Void false) ∷
      Deallocated (record { side = sides.Page; instance = 1; serial = 15 }) ∷
      CommandResult 35 results.No ∷
      Deallocated (record { side = sides.Page; instance = 1; serial = 2 }) ∷
      CommandResult 36 results.No ∷
      CommandResult 37 results.No ∷
      CommandResult 38 results.No ∷
      CommandResult 39 (results.Code NoError) ∷
      CommandResult 40 results.No ∷
      CommandResult 41 results.No ∷
      CommandResult 42 results.No ∷
      CommandResult 43 results.No ∷
      StreamAnswered 1 (streams.New (pos 1)) ∷
      CommandResult 44 (results.Pumped 1) ∷
      CommandResult 45 results.No ∷
      Created (record { side = sides.Page; instance = 3; serial = 1 }) ∷
      CommandResult 46 (results.Code NoError) ∷
      ProxyGone (record { side = sides.Plug; instance = 1; serial = 1 }) ∷
      Invalidated (record { side = sides.Page; instance = 1; serial = 1 }) ∷
      Deallocated (record { side = sides.Page; instance = 1; serial = 1 }) ∷
      Invalidated (record { side = sides.Page; instance = 2; serial = 1 }) ∷
      Invalidated (record { side = sides.Page; instance = 2; serial = 2 }) ∷
      Deallocated (record { side = sides.Page; instance = 2; serial = 1 }) ∷
      Deallocated (record { side = sides.Page; instance = 2; serial = 2 }) ∷
      Invalidated (record { side = sides.Page; instance = 3; serial = 1 }) ∷
      Deallocated (record { side = sides.Page; instance = 3; serial = 1 }) ∷
      CommandResult 47 results.No ∷
      CommandResult 48 results.No ∷
      CommandResult 49 results.No ∷
      CommandResult 50 results.No ∷
      CommandResult 51 results.No ∷
      CommandResult 52 (results.Pumped 0) ∷
      CommandResult 53 results.No ∷
      CommandResult 54 results.No ∷
      CommandResult 55 results.No ∷
      CommandResult 56 results.No ∷
      CommandResult 57 results.No ∷
      CommandResult 58 results.No ∷
      CommandResult 59 results.No ∷
      CommandResult 60 results.No ∷
      CommandResult 61 results.No ∷
      CommandResult 62 results.No ∷
      CommandResult 63 results.No ∷
      CommandResult 64 results.No ∷
      CommandResult 65 results.No ∷
      CommandResult 66 results.No ∷
      CommandResult 67 results.No ∷
      CommandResult 68 results.No ∷
      CommandResult 69 results.No ∷
      CommandResult 70 (results.Pumped 0) ∷
      CommandResult 71 results.No ∷ []);
  rests = true;
}
unfolding encoding digits is_text is_utf8 chars encode_utf8
cut-282 = refl

-- the plug-in's first 309 bytes hold 23 whole messages
cut-309 : lost_outcome 1500 (Some 23) page plugin ≡ record {
  page = (
      Created (record { side = sides.Page; instance = 1; serial = 1 }) ∷
      CommandResult 1 (results.Code NoError) ∷
      CommandResult 2 (results.Yes (values.Object (record { side = sides.Plug; instance = 1; serial = 1 })) false) ∷
      Created (record { side = sides.Page; instance = 2; serial = 1 }) ∷
      CommandResult 3 (results.Code NoError) ∷
      CommandResult 4 (results.Yes (values.Object (record { side = sides.Plug; instance = 2; serial = 1 })) false) ∷
      Created (record { side = sides.Page; instance = 1; serial = 2 }) ∷
      CommandResult 5 (results.Yes (values.Object (record { side = sides.Page; instance = 1; serial = 2 })) false) ∷
      Created (record { side = sides.Page; instance = 2; serial = 2 }) ∷
      CommandResult 6 (results.Yes (values.Object (record { side = sides.Page; instance = 2; serial = 2 })) false) ∷
      Entered (record { side = sides.Page; instance = 2; serial = 2 }) (ops.Put (Str (codes "f0"))) ∷
      CommandResult 7 (results.Yes values.Void false) ∷
      CommandResult 8 (results.Yes values.Void false) ∷
      CommandResult 9 (results.Yes values.Void false) ∷
      Entered (record { side = sides.Page; instance = 1; serial = 2 }) (ops.Invoke (IntKey (pos 4))) ∷
      Created (record { side = sides.Page; instance = 1; serial = 3 }) ∷
      Deallocated (record { side = sides.Page; instance = 1; serial = 3 }) ∷
      CommandResult 10 (results.Yes values.Void false) ∷
      CommandResult 11 (results.Yes values.Void false) ∷
      Entered (record { side = sides.Page; instance = 1; serial = 2 }) (ops.Invoke (Str (codes "m3"))) ∷
      Created (record { side = sides.Page; instance = 1; serial = 4 }) ∷
      Created (record { side = sides.Page; instance = 1; serial = 5 }) ∷
      Created (record { side = sides.Page; instance = 1; serial = 6 }) ∷
      Deallocated (record { side = sides.Page; instance = 1; serial = 6 }) ∷
      Deallocated (record { side = sides.Page; instance = 1; serial = 4 }) ∷
      Deallocated (record { side = sides.Page; instance = 1; serial = 5 }) ∷
      CommandResult 12 (results.Yes values.Void false) ∷
      CommandResult 13 (results.Yes values.Void false) ∷
      CommandResult 14 results.No ∷
      CommandResult 15 results.No ∷
      CommandResult 16 results.No ∷
      Entered (record { side = sides.Page; instance = 1; serial = 2 }) (ops.Invoke (IntKey (pos 4))) ∷
      Created (record { side = sides.Page; instance = 1; serial = 7 }) ∷
      Deallocated (record { side = sides.Page; instance = 1; serial = 7 }) ∷
      CommandResult 17 (results.Yes values.Void false) ∷
      Entered (record { side = sides.Page; instance = 1; serial = 2 }) (ops.Invoke (Str (codes "m3"))) ∷
      Created (record { side = sides.Page; instance = 1; serial = 8 }) ∷
      Created (record { side = sides.Page; instance = 1; serial = 9 }) ∷
      Created (record { side = sides.Page; instance = 1; serial = 10 }) ∷
      Deallocated (record { side = sides.Page; instance = 1; serial = 10 }) ∷
      Deallocated (record { side = sides.Page; instance = 1; serial = 8 }) ∷
      Deallocated (record { side = sides.Page; instance = 1; serial = 9 }) ∷
      CommandResult 18 (results.Yes values.Void false) ∷
      Entered (record { side = sides.Page; instance = 1; serial = 2 }) (ops.Invoke (Str (codes "m3"))) ∷
      Created (record { side = sides.Page; instance = 1; serial = 11 }) ∷
      Created (record { side = sides.Page; instance = 1; serial = 12 }) ∷
      Created (record { side = sides.Page; instance = 1; serial = 13 }) ∷
      Deallocated (record { side = sides.Page; instance = 1; serial = 13 }) ∷
      Deallocated (record { side = sides.Page; instance = 1; serial = 11 }) ∷
      Deallocated (record { side = sides.Page; instance = 1; serial = 12 }) ∷
      CommandResult 19 (results.Yes values.Void false) ∷
      CommandResult 20 (results.Yes values.Void false) ∷
      Created (record { side = sides.Page; instance = 1; serial = 14 }) ∷
      CommandResult 21 (results.Yes (values.Object (record { side = sides.Page; instance = 1; serial = 14 })) false) ∷
      Entered (record { side = sides.Page; instance = 2; serial = 2 }) (ops.Invoke (Str (codes "m2"))) ∷
      Created (record { side = sides.Page; instance = 2; serial = 3 }) ∷
      Created (record { side = sides.Page; instance = 2; serial = 4 }) ∷
      Deallocated (record { side = sides.Page; instance = 1; serial = 14 }) ∷
      Deallocated (record { side = sides.Page; instance = 2; serial = 3 }) ∷
      Deallocated (record { side = sides.Page; instance = 2; serial = 4 }) ∷
      CommandResult 22 (results.Yes values.Void false) ∷
      CommandResult 23 (results.Yes values.Void false) ∷
      Entered (record { side = sides.Page; instance = 2; serial = 2 }) (ops.Invoke (Str (codes "m1"))) ∷
      Created (record { side = sides.Page; instance = 2; serial = 5 }) ∷
      Deallocated (record { side = sides.Page; instance = 2; serial = 5 }) ∷
      CommandResult 24 (results.Yes values.Void false) ∷
      Entered (record { side = sides.Page; instance = 2; serial = 2 }) (ops.Invoke (Str (codes "take"))) ∷
      Created (record { side = sides.Page; instance = 2; serial = 6 }) ∷
      Deallocated (record { side = sides.Page; instance = 2; serial = 6 }) ∷
      CommandResult 25 (results.Yes values.Void false) ∷
      Entered (record { side = sides.Page; instance = 2; serial = 2 }) (ops.Invoke (Str (codes "m0"))) ∷
      Created (record { side = sides.Page; instance = 2; serial = 7 }) ∷
      Deallocated (record { side = sides.Page; instance = 2; serial = 7 }) ∷
      CommandResult 26 (results.Yes values.Void false) ∷
      CommandResult 27 results.No ∷
      CommandResult 28 results.No ∷
      Created (record { side = sides.Page; instance = 1; serial = 15 }) ∷
      CommandResult 29 (results.Yes (values.Object (record { side = sides.Page; instance = 1; serial = 15 })) false) ∷
      CommandResult 30 (results.Code NoError) ∷
      CommandResult 31 results.No ∷
      CommandResult 32 (results.Code NoError) ∷
      CommandResult 33 results.No ∷
      Entered (record { side = sides.Page; instance = 1; serial = 15 }) (ops.Invoke (Str (codes "m3"))) ∷
      Created (record { side = sides.Page; instance = 1; serial = 16 }) ∷
      Created (record { side = sides.Page; instance = 1; serial = 17 }) ∷
      Created (record { side = sides.Page; instance = 1; serial = 18 }) ∷
      Deallocated (record { side = sides.Page; instance = 1; serial = 18 }) ∷
      Deallocated (record { side = sides.Page; instance = 1; serial = 16 }) ∷
      Deallocated (record { side = sides.Page; instance = 1; serial = 17 }) ∷
      CommandResult 34 (results.Yes values.Void false) ∷
      Deallocated (record { side = sides.Page; instance = 1; serial = 15 }) ∷
      CommandResult 35 results.No ∷
      Deallocated (record { side = sides.Page; instance = 1; serial = 2 }) ∷
      CommandResult 36 results.No ∷
      CommandResult 37 results.No ∷
      CommandResult 38 results.No ∷
      CommandResult 39 (results.Code NoError) ∷
      CommandResult 40 results.No ∷
      CommandResult 41 results.No ∷
      CommandResult 42 results.No ∷
      CommandResult 43 results.No ∷
      StreamAnswered 1 (streams.New (pos 1)) ∷
      CommandResult 44 (results.Pumped 1) ∷
      CommandResult 45 results.No ∷
      Created (record { side = sides.Page; instance = 3; serial = 1 }) ∷
      CommandResult 46 (results.Code NoError) ∷
      CommandResult 47 (results.Yes (values.Object (record { side = sides.Plug; instance = 3; serial = 1 })) false) ∷
      CommandResult 48 results.No ∷
      CommandResult 49 (results.Yes values.Void false) ∷
      CommandResult 50 results.No ∷
      CommandResult 51 results.No ∷
      ProxyGone (record { side = sides.Plug; instance = 1; serial = 1 }) ∷
      Invalidated (record { side = sides.Page; instance = 1; serial = 1 }) ∷
      Deallocated (record { side = sides.Page; instance = 1; serial = 1 }) ∷
      Invalidated (record { side = sides.Page; instance = 2; serial = 1 }) ∷
      Invalidated (record { side = sides.Page; instance = 2; serial = 2 }) ∷
      Deallocated (record { side = sides.Page; instance = 2; serial = 1 }) ∷
      Deallocated (record { side = sides.Page; instance = 2; serial = 2 }) ∷
      ProxyGone (record { side = sides.Plug; instance = 3; serial = 1 }) ∷
      Invalidated (record { side = sides.Page; instance = 3; serial = 1 }) ∷
      Deallocated (record { side = sides.Page; instance = 3; serial = 1 }) ∷
      CommandResult 52 (results.Pumped 0) ∷
      CommandResult 53 results.No ∷
      CommandResult 54 results.No ∷
      CommandResult 55 results.No ∷
      CommandResult 56 results.No ∷
      CommandResult 57 results.No ∷
      CommandResult 58 results.No ∷
      CommandResult 59 results.No ∷
      CommandResult 60 results.No ∷
      CommandResult 61 results.No ∷
      CommandResult 62 results.No ∷
      CommandResult 63 results.No ∷
      CommandResult 64 results.No ∷
      CommandResult 65 results.No ∷
      CommandResult 66 results.No ∷
      CommandResult 67 results.No ∷
      CommandResult 68 results.No ∷
      CommandResult 69 results.No ∷
      CommandResult 70 (results.Pumped 0) ∷
      CommandResult 71 results.No ∷ []);
  rests = true;
}
unfolding encoding digits is_text is_utf8 chars encode_utf8
cut-309 = refl
