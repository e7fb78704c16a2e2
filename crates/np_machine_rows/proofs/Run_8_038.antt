-- Made by tools/vector-theorems of tests/vectors/8-038.
use Rattle.std.proofs.Common.{◌≡◌, pos, negsuc, [], ◌∷◌, refl, true, false, Some, None}
use Rattle.std.specs.Prelude.{codes}
use Rattle.std.specs.Char.{encode_utf8}
use Rattle.std.specs.Fmt.{digits}
use Rattle.std.specs.Str.{is_utf8, chars}
use Rattle.np_values.specs.declared.error.NpError.TheVariants.{NoError, InvalidInstance, ModuleLoadFailed}
use Rattle.np_values.specs.declared.handler.Handler.TheVariants as handlers
use Rattle.np_values.specs.declared.name.Side.TheVariants as sides
use Rattle.np_values.specs.declared.value.Value.TheVariants as values
use Rattle.np_values.specs.Text.{is_text}
use Rattle.np_idents.specs.declared.key.IdKey.TheVariants.{Str, Int as IntKey}
use Rattle.np_idents.specs.declared.op.Op.TheVariants as ops
use Rattle.np_script_grammar.specs.declared.action.Action.TheVariants as actions
use Rattle.np_script_grammar.specs.declared.action.Operand.TheVariants.{Reg, Const}
use Rattle.np_script_grammar.specs.declared.class.Member.TheVariants as members
use Rattle.np_script_grammar.specs.declared.command.Command.TheVariants as commands
use Rattle.np_script_grammar.specs.declared.page.Page.{Page}
use Rattle.np_script_grammar.specs.declared.plugin.Plugin.{Plugin}
use Rattle.np_message.specs.Encoding.{encoding}
use Rattle.np_journal.specs.declared.line.Line.TheVariants.{Created, Entered, HandlerRun, ProxyGone, Invalidated, Deallocated, Noted, CommandResult}
use Rattle.np_journal.specs.declared.printed.Printed.TheVariants as results
use Rattle.np_machine_plans.specs.Outcomes.{outcome, page_bytes, plugin_bytes, lost_outcome}

abbrev page : Page
page = record {
  major = 0;
  minor = 27;
  classes = (
      (record {
        name = codes "Window";
        version = 2;
        stored = true;
        members = (
            members.Method (IntKey (pos 4)) (actions.Load 2 0 ∷ actions.Load 1 3 ∷ actions.Put (Reg 1) (Str (codes "f0")) (Reg 3) ∷ actions.New 2 (codes "A") ∷ actions.SelfTo 1 ∷ actions.SelfTo 3 ∷ actions.New 0 (codes "Window") ∷ actions.New 3 (codes "B") ∷ actions.Put (Reg 2) (Str (codes "f0")) (Reg 1) ∷ actions.Load 2 2 ∷ actions.Put (Reg 1) (Str (codes "f0")) (Const (values.Text [])) ∷ []) ∷
            members.Method (Str (codes "take")) (actions.New 1 (codes "Window") ∷ actions.New 2 (codes "B") ∷ actions.Put (Reg 1) (IntKey (pos 7)) (Reg 2) ∷ actions.New 3 (codes "Window") ∷ actions.Slot 2 (Reg 1) ∷ actions.New 1 (codes "Window") ∷ actions.Drop 1 ∷ actions.Load 2 2 ∷ actions.Construct 3 (Reg 2) (Reg 2 ∷ Reg 2 ∷ Reg 3 ∷ []) ∷ actions.Invoke 3 (Reg 3) (Str (codes "none")) (Reg 4 ∷ Reg 0 ∷ Reg 5 ∷ []) ∷ []) ∷
            members.Method (Str (codes "m2")) (actions.Load 2 0 ∷ actions.Load 3 1 ∷ actions.New 4 (codes "Window") ∷ actions.Note (Reg 3) ∷ actions.New 5 (codes "Window") ∷ actions.New 3 (codes "A") ∷ actions.New 2 (codes "A") ∷ actions.New 3 (codes "A") ∷ actions.CallDefault 0 (Reg 3) (Reg 0 ∷ []) ∷ actions.OnEq (Reg 0) (Reg 2) 1 ∷ actions.Slot 2 (Reg 3) ∷ actions.Invoke 3 (Reg 0) (IntKey (pos 4)) (Const (values.Text []) ∷ Reg 1 ∷ Reg 3 ∷ []) ∷ actions.Invoke 1 (Reg 2) (Str (codes "m3")) (Reg 3 ∷ []) ∷ []) ∷
            members.Method (Str (codes "m1")) (actions.Load 3 1 ∷ actions.Load 2 0 ∷ actions.New 3 (codes "Window") ∷ []) ∷
            members.Method (Str (codes "m3")) (actions.Load 3 1 ∷ actions.SelfTo 2 ∷ actions.New 2 (codes "B") ∷ actions.Put (Reg 2) (Str (codes "f0")) (Reg 1) ∷ []) ∷
            members.Method (Str (codes "m0")) (actions.Get 2 (Reg 1) (Str (codes "f0")) ∷ actions.Load 3 3 ∷ []) ∷ []);
      }) ∷
      (record {
        name = codes "A";
        version = 3;
        stored = true;
        members = (
            members.Method (Str (codes "m2")) (actions.Load 2 0 ∷ actions.Load 1 2 ∷ actions.Drop 3 ∷ actions.New 5 (codes "Window") ∷ actions.Get 2 (Reg 1) (Str (codes "f0")) ∷ actions.Load 2 0 ∷ actions.Load 2 2 ∷ actions.New 1 (codes "B") ∷ actions.Put (Reg 1) (Str (codes "f0")) (Reg 3) ∷ actions.Return (Reg 1) ∷ actions.Load 2 3 ∷ []) ∷
            members.Method (Str (codes "take")) (actions.Load 2 2 ∷ actions.New 1 (codes "Window") ∷ actions.New 4 (codes "B") ∷ actions.New 5 (codes "A") ∷ []) ∷
            members.Method (Str (codes "m3")) (actions.Load 2 0 ∷ actions.Load 1 2 ∷ actions.New 3 (codes "B") ∷ actions.Invoke 1 (Reg 0) (IntKey (pos 4)) [] ∷ []) ∷
            members.Method (IntKey (pos 4)) (actions.Slot 2 (Reg 3) ∷ actions.New 4 (codes "B") ∷ actions.Load 3 3 ∷ actions.Set 1 (Reg 0) ∷ actions.Load 0 1 ∷ actions.OnTrue 3 ∷ actions.Load 1 3 ∷ actions.HasProperty (Reg 0) (Str (codes "f0")) ∷ []) ∷
            members.Method (Str (codes "m1")) (actions.SelfTo 2 ∷ actions.Slot 1 (Reg 3) ∷ actions.New 4 (codes "Window") ∷ actions.New 3 (codes "B") ∷ actions.New 2 (codes "A") ∷ actions.Invoke 0 (Reg 3) (Str (codes "m3")) (Reg 2 ∷ Reg 8 ∷ Reg 0 ∷ []) ∷ actions.New 1 (codes "Window") ∷ actions.Construct 5 (Reg 1) (Const (values.Int (pos 13)) ∷ Const (values.Text (195 ∷ 164 ∷ 34 ∷ 92 ∷ 1 ∷ 127 ∷ [])) ∷ Reg 0 ∷ []) ∷ actions.Invoke 0 (Reg 2) (Str (codes "m3")) (Reg 3 ∷ Reg 0 ∷ []) ∷ []) ∷
            members.Construct (actions.Load 3 1 ∷ actions.SelfTo 2 ∷ actions.Slot 2 (Reg 0) ∷ actions.New 3 (codes "A") ∷ actions.Invoke 0 (Reg 1) (IntKey (pos 4)) (Reg 3 ∷ Reg 2 ∷ Reg 0 ∷ []) ∷ actions.Return (Const (values.Text (codes "r"))) ∷ actions.Load 1 2 ∷ actions.Load 11 3 ∷ actions.Get 0 (Reg 1) (Str (codes "7")) ∷ actions.Note (Reg 2) ∷ []) ∷
            members.Method (Str (codes "m0")) (actions.New 1 (codes "A") ∷ []) ∷ []);
      }) ∷
      (record {
        name = codes "B";
        version = 1;
        stored = true;
        members = (
            members.Method (Str (codes "m3")) (actions.SelfTo 2 ∷ actions.Slot 3 (Reg 2) ∷ actions.Destroy 1 2 ∷ actions.Invoke 0 (Reg 5) (IntKey (pos 4)) (Reg 0 ∷ []) ∷ actions.New 3 (codes "B") ∷ actions.New 4 (codes "A") ∷ actions.Put (Reg 3) (Str (codes "7")) (Reg 0) ∷ actions.Return (Reg 3) ∷ actions.Load 1 2 ∷ actions.Slot 1 (Const (values.Text (195 ∷ 164 ∷ 34 ∷ 92 ∷ 1 ∷ 127 ∷ []))) ∷ []) ∷
            members.Construct (actions.Load 0 2 ∷ actions.Load 2 0 ∷ actions.Drop 2 ∷ actions.Load 1 2 ∷ []) ∷
            members.Method (Str (codes "m0")) (actions.Load 2 0 ∷ actions.Slot 2 (Reg 2) ∷ actions.Put (Reg 3) (Str (codes "f0")) (Reg 0) ∷ actions.Slot 3 (Reg 1) ∷ actions.CallDefault 3 (Reg 0) [] ∷ []) ∷
            members.Method (Str (codes "m1")) (actions.Load 2 0 ∷ actions.SelfTo 2 ∷ actions.Load 2 2 ∷ actions.Slot 3 (Reg 2) ∷ actions.New 1 (codes "B") ∷ actions.New 3 (codes "A") ∷ actions.Load 0 2 ∷ actions.New 2 (codes "Window") ∷ actions.Invoke 3 (Reg 1) (Str (codes "m3")) (Reg 3 ∷ Reg 3 ∷ []) ∷ actions.Invoke 2 (Reg 1) (Str (codes "m2")) (Reg 2 ∷ Reg 0 ∷ []) ∷ actions.Slot 1 (Reg 2) ∷ actions.Put (Reg 2) (IntKey (pos 7)) (Reg 2) ∷ actions.New 0 (codes "Window") ∷ actions.Put (Reg 3) (IntKey (pos 7)) (Reg 1) ∷ []) ∷
            members.Default (actions.New 4 (codes "B") ∷ actions.Load 3 3 ∷ actions.Slot 0 (Reg 2) ∷ actions.Slot 1 (Const values.Void) ∷ actions.New 1 (codes "Window") ∷ actions.Put (Reg 3) (Str (codes "f0")) (Reg 2) ∷ actions.Invoke 0 (Reg 3) (Str (codes "m3")) [] ∷ actions.Invoke 2 (Reg 3) (IntKey (pos 4)) (Reg 3 ∷ Reg 1 ∷ Reg 4 ∷ []) ∷ actions.Return (Const (values.Text (195 ∷ 164 ∷ 34 ∷ 92 ∷ 1 ∷ 127 ∷ []))) ∷ actions.HasMethod (Reg 0) (IntKey (pos 4)) ∷ actions.Put (Reg 0) (Str (codes "f1")) (Reg 2) ∷ []) ∷
            members.Setter (Str (codes "f0")) (actions.Invoke 2 (Reg 2) (IntKey (pos 4)) (Reg 3 ∷ Reg 2 ∷ Reg 5 ∷ []) ∷ actions.Load 3 0 ∷ actions.Note (Reg 1) ∷ actions.Construct 0 (Reg 1) (Reg 3 ∷ Reg 0 ∷ []) ∷ actions.Put (Reg 0) (Str (codes "7")) (Reg 3) ∷ actions.New 1 (codes "Window") ∷ []) ∷
            members.Method (Str (codes "take")) (actions.Load 2 0 ∷ actions.Load 0 2 ∷ actions.Destroy 3 1 ∷ actions.New 2 (codes "A") ∷ actions.New 5 (codes "A") ∷ actions.New 3 (codes "B") ∷ actions.Invoke 1 (Reg 3) (Str (codes "none")) [] ∷ actions.Throw (codes "no") ∷ []) ∷
            members.Method (Str (codes "m2")) (actions.SelfTo 2 ∷ actions.New 4 (codes "Window") ∷ actions.New 5 (codes "B") ∷ actions.New 1 (codes "Window") ∷ actions.Return (Reg 2) ∷ actions.Load 1 1 ∷ []) ∷
            members.Method (IntKey (pos 4)) (actions.Load 3 2 ∷ actions.Load 3 1 ∷ actions.New 2 (codes "Window") ∷ actions.Load 3 3 ∷ actions.New 3 (codes "Window") ∷ actions.Put (Reg 15) (Str (codes "f1")) (Reg 3) ∷ actions.Invoke 2 (Reg 2) (Str (codes "take")) (Const (values.Text []) ∷ Reg 3 ∷ []) ∷ actions.Slot 1 (Reg 1) ∷ actions.New 0 (codes "Window") ∷ actions.Load 1 0 ∷ actions.Get 0 (Reg 3) (Str (codes "f1")) ∷ []) ∷ []);
      }) ∷ []);
  resources = [];
  commands = (
      commands.Create (codes "t/x") 1 (codes "a" ∷ codes "1" ∷ codes "a" ∷ codes "1" ∷ []) ∷
      commands.Scriptable 0 1 ∷
      commands.Create (codes "t/x") 2 (codes "a" ∷ codes "1" ∷ codes "a" ∷ codes "1" ∷ codes "a" ∷ codes "1" ∷ []) ∷
      commands.Scriptable 1 2 ∷
      commands.New 2 1 (codes "B") ∷
      commands.New 3 2 (codes "B") ∷
      commands.Invoke 5 (Reg 2) (Str (codes "m3")) (Reg 1 ∷ Reg 2 ∷ Reg 3 ∷ []) ∷
      commands.Invoke 5 (Reg 1) (Str (codes "m2")) (Reg 2 ∷ Reg 3 ∷ Reg 0 ∷ []) ∷
      commands.Turn ∷
      commands.Destroy 2 ∷
      commands.Invoke 4 (Reg 0) (Str (codes "m2")) (Reg 1 ∷ Reg 0 ∷ Reg 2 ∷ []) ∷
      commands.Invoke 5 (Reg 1) (Str (codes "take")) [] ∷
      commands.Invoke 1 (Reg 2) (Str (codes "m1")) (Reg 2 ∷ Reg 3 ∷ []) ∷
      commands.Invoke 2 (Reg 0) (IntKey (pos 4)) (Reg 0 ∷ Reg 1 ∷ []) ∷
      commands.Invoke 4 (Reg 3) (Str (codes "m0")) (Reg 4 ∷ Reg 5 ∷ Reg 2 ∷ []) ∷
      commands.Invoke 5 (Reg 2) (Str (codes "m0")) (Reg 2 ∷ Reg 4 ∷ Reg 3 ∷ []) ∷
      commands.Invoke 2 (Reg 1) (Str (codes "m2")) (Reg 1 ∷ Reg 0 ∷ Const (values.Int (pos 1)) ∷ []) ∷
      commands.Destroy 1 ∷
      commands.New 2 1 (codes "B") ∷
      commands.Invoke 5 (Reg 2) (Str (codes "m2")) (Reg 0 ∷ Reg 4 ∷ Reg 5 ∷ []) ∷
      commands.Drop 0 ∷
      commands.Invoke 4 (Reg 3) (IntKey (pos 4)) (Reg 5 ∷ Reg 0 ∷ Reg 3 ∷ []) ∷
      commands.Invoke 5 (Reg 1) (Str (codes "take")) (Reg 0 ∷ Reg 3 ∷ Reg 2 ∷ []) ∷
      commands.Create (codes "t/y") 2 [] ∷
      commands.Scriptable 2 3 ∷
      commands.Invoke 3 (Reg 1) (IntKey (pos 4)) (Reg 3 ∷ Reg 1 ∷ Reg 1 ∷ Reg 2 ∷ Reg 2 ∷ Reg 3 ∷ Reg 2 ∷ Const (values.Int (pos 1)) ∷ []) ∷
      commands.Turn ∷
      commands.Invoke 5 (Reg 3) (IntKey (pos 4)) (Reg 3 ∷ Reg 2 ∷ Reg 4 ∷ []) ∷
      commands.Invoke 5 (Reg 3) (Str (codes "m0")) (Reg 0 ∷ Reg 2 ∷ Reg 0 ∷ Reg 1 ∷ Reg 3 ∷ Reg 3 ∷ Reg 0 ∷ Reg 1 ∷ []) ∷ []);
}

abbrev plugin : Plugin
plugin = record {
  major = 0;
  minor = 27;
  classes = (
      (record {
        name = codes "Main";
        version = 3;
        stored = true;
        members = (
            members.Method (Str (codes "take")) (actions.Load 2 0 ∷ actions.Load 3 1 ∷ actions.Load 0 3 ∷ actions.Load 1 2 ∷ actions.New 4 (codes "Main") ∷ actions.New 3 (codes "T") ∷ actions.New 5 (codes "T") ∷ actions.Put (Reg 4) (IntKey (pos 7)) (Reg 5) ∷ actions.New 5 (codes "T") ∷ actions.Put (Reg 4) (Str (codes "f0")) (Reg 1) ∷ actions.Drop 5 ∷ actions.Return (Reg 4) ∷ []) ∷
            members.Method (Str (codes "m0")) (actions.Load 3 1 ∷ actions.Load 0 2 ∷ actions.Load 4 2 ∷ actions.New 5 (codes "Main") ∷ actions.New 4 (codes "T") ∷ actions.Get 1 (Reg 4) (Str (codes "7")) ∷ actions.Put (Reg 4) (Str (codes "7")) (Reg 2) ∷ []) ∷
            members.Method (IntKey (pos 4)) (actions.Load 3 1 ∷ actions.New 3 (codes "T") ∷ []) ∷
            members.Setter (Str (codes "f1")) (actions.Load 2 0 ∷ actions.SelfTo 2 ∷ actions.Invoke 4 (Reg 2) (IntKey (pos 4)) (Const (values.Int (pos 0)) ∷ []) ∷ actions.Put (Reg 3) (IntKey (pos 7)) (Reg 0) ∷ actions.New 4 (codes "U") ∷ actions.Put (Const (values.Double (0 ∷ 1 ∷ 2 ∷ 3 ∷ 4 ∷ 5 ∷ 6 ∷ 7 ∷ []))) (IntKey (pos 7)) (Reg 7) ∷ actions.Return (Const (values.Text (codes "e"))) ∷ []) ∷
            members.Default (actions.SelfTo 2 ∷ actions.Load 2 0 ∷ actions.Set 0 (Reg 3) ∷ actions.New 4 (codes "U") ∷ actions.New 5 (codes "U") ∷ actions.New 2 (codes "T") ∷ actions.Window 1 ∷ actions.Load 11 0 ∷ []) ∷
            members.Getter (Str (codes "f1")) (actions.SelfTo 2 ∷ actions.New 2 (codes "U") ∷ []) ∷
            members.Method (Str (codes "m3")) (actions.Load 2 0 ∷ actions.Load 3 2 ∷ actions.New 1 (codes "U") ∷ actions.Load 0 1 ∷ actions.New 3 (codes "Main") ∷ actions.Slot 0 (Reg 1) ∷ actions.Put (Reg 0) (Str (codes "f1")) (Const (values.Text (codes "r"))) ∷ actions.Invoke 2 (Reg 3) (IntKey (pos 4)) (Const (values.Text (codes "e")) ∷ Reg 2 ∷ Reg 2 ∷ []) ∷ []) ∷
            members.Method (Str (codes "m2")) (actions.Load 3 1 ∷ actions.Window 1 ∷ actions.Invoke 2 (Reg 3) (IntKey (pos 4)) (Reg 2 ∷ Reg 0 ∷ Reg 2 ∷ []) ∷ actions.New 2 (codes "T") ∷ actions.Get 1 (Reg 2) (Str (codes "f0")) ∷ actions.New 1 (codes "U") ∷ actions.New 3 (codes "T") ∷ actions.Load 3 1 ∷ actions.New 3 (codes "T") ∷ actions.Put (Reg 3) (Str (codes "f0")) (Reg 1) ∷ actions.Return (Reg 3) ∷ []) ∷
            members.Method (Str (codes "m1")) (actions.Load 3 1 ∷ actions.New 3 (codes "T") ∷ actions.New 4 (codes "T") ∷ actions.New 1 (codes "U") ∷ actions.SelfTo 1 ∷ actions.Drop 1 ∷ actions.Put (Reg 2) (IntKey (pos 7)) (Reg 0) ∷ actions.Window 1 ∷ actions.Drop 1 ∷ []) ∷ []);
      }) ∷
      (record {
        name = codes "T";
        version = 3;
        stored = true;
        members = (
            members.Method (Str (codes "m0")) (actions.Load 2 0 ∷ actions.Load 2 2 ∷ actions.New 4 (codes "Main") ∷ actions.New 5 (codes "Main") ∷ actions.Put (Reg 4) (IntKey (pos 7)) (Reg 5) ∷ actions.Drop 5 ∷ actions.Slot 2 (Reg 4) ∷ actions.Drop 4 ∷ actions.Get 1 (Reg 1) (Str (codes "f1")) ∷ actions.Load 0 0 ∷ actions.Load 2 1 ∷ []) ∷
            members.Getter (Str (codes "f1")) (actions.SelfTo 2 ∷ actions.Load 2 0 ∷ actions.Invoke 0 (Reg 4) (IntKey (pos 4)) (Const values.Null ∷ Reg 0 ∷ []) ∷ actions.Window 14 ∷ actions.Remove (Reg 2) (Str (codes "f0")) ∷ actions.New 2 (codes "T") ∷ actions.Window 1 ∷ actions.Get 3 (Reg 3) (Str (codes "f1")) ∷ actions.Add 3 (Reg 0) (Reg 0) ∷ actions.Note (Reg 0) ∷ actions.Slot 1 (Reg 0) ∷ []) ∷
            members.Method (Str (codes "m1")) (actions.Load 2 0 ∷ actions.SelfTo 2 ∷ actions.Window 3 ∷ actions.Window 0 ∷ actions.Window 7 ∷ actions.New 5 (codes "T") ∷ actions.OnTrue 1 ∷ actions.Load 4 2 ∷ actions.Invoke 1 (Reg 1) (IntKey (pos 4)) (Reg 1 ∷ Reg 1 ∷ Reg 1 ∷ []) ∷ actions.OnTrue 2 ∷ actions.Return (Reg 1) ∷ []) ∷
            members.Method (Str (codes "take")) (actions.Load 2 2 ∷ actions.Slot 2 (Const (values.Double (0 ∷ 1 ∷ 2 ∷ 3 ∷ 4 ∷ 5 ∷ 6 ∷ 7 ∷ []))) ∷ actions.New 2 (codes "T") ∷ actions.New 3 (codes "Main") ∷ actions.New 4 (codes "U") ∷ actions.Drop 1 ∷ actions.Put (Reg 1) (Str (codes "f0")) (Const values.Void) ∷ []) ∷
            members.Method (Str (codes "m2")) [] ∷
            members.Default (actions.Load 0 2 ∷ actions.New 4 (codes "U") ∷ actions.Set 2 (Reg 2) ∷ actions.Invoke 5 (Reg 1) (Str (codes "take")) [] ∷ actions.Invoke 3 (Reg 1) (Str (codes "take")) (Const (values.Int (negsuc 2147483647)) ∷ Reg 1 ∷ Const (values.Text (codes "r")) ∷ []) ∷ []) ∷
            members.Setter (Str (codes "f0")) (actions.New 2 (codes "Main") ∷ actions.Load 4 2 ∷ actions.New 3 (codes "T") ∷ actions.Invoke 4 (Reg 3) (Str (codes "take")) (Reg 2 ∷ Reg 0 ∷ Reg 3 ∷ []) ∷ actions.New 1 (codes "U") ∷ []) ∷
            members.Method (IntKey (pos 4)) (actions.Load 3 2 ∷ actions.SelfTo 2 ∷ actions.New 0 (codes "T") ∷ actions.Load 5 1 ∷ actions.Load 1 0 ∷ actions.Put (Reg 0) (Str (codes "f0")) (Reg 0) ∷ actions.Set 0 (Reg 1) ∷ actions.Get 2 (Reg 2) (Str (codes "f0")) ∷ []) ∷
            members.Method (Str (codes "m3")) (actions.Invoke 3 (Reg 1) (Str (codes "take")) (Reg 0 ∷ []) ∷ actions.New 2 (codes "U") ∷ actions.Put (Reg 0) (Str (codes "f0")) (Reg 0) ∷ actions.New 1 (codes "Main") ∷ []) ∷ []);
      }) ∷
      (record {
        name = codes "U";
        version = 3;
        stored = true;
        members = (
            members.Method (Str (codes "m0")) (actions.New 4 (codes "T") ∷ actions.New 3 (codes "Main") ∷ actions.Drop 3 ∷ []) ∷
            members.Method (IntKey (pos 4)) (actions.Load 2 0 ∷ actions.New 2 (codes "U") ∷ actions.New 4 (codes "U") ∷ actions.Put (Reg 4) (Str (codes "f0")) (Reg 2) ∷ actions.Return (Reg 4) ∷ []) ∷
            members.Construct (actions.SelfTo 2 ∷ actions.Load 2 0 ∷ actions.New 3 (codes "None") ∷ actions.New 2 (codes "Main") ∷ actions.Window 0 ∷ actions.New 4 (codes "T") ∷ actions.New 3 (codes "T") ∷ actions.Fail ∷ []) ∷
            members.Method (Str (codes "m2")) (actions.Put (Reg 3) (Str (codes "f1")) (Reg 1) ∷ []) ∷
            members.Method (Str (codes "m3")) (actions.Load 3 1 ∷ actions.Get 1 (Reg 2) (Str (codes "f0")) ∷ actions.Invoke 1 (Reg 3) (IntKey (pos 4)) (Reg 0 ∷ Reg 3 ∷ Const (values.Int (negsuc 2147483647)) ∷ []) ∷ actions.Remove (Reg 2) (Str (codes "f0")) ∷ actions.Slot 1 (Reg 2) ∷ actions.Load 0 2 ∷ actions.Put (Reg 0) (Str (codes "f1")) (Reg 1) ∷ actions.Put (Reg 1) (Str (codes "7")) (Const (values.Int (pos 100))) ∷ actions.Get 0 (Reg 1) (Str (codes "f0")) ∷ []) ∷
            members.Method (Str (codes "m1")) (actions.Load 2 0 ∷ actions.New 5 (codes "Main") ∷ actions.Load 0 1 ∷ actions.New 2 (codes "Main") ∷ actions.Throw (codes "no") ∷ actions.New 0 (codes "U") ∷ actions.New 2 (codes "Main") ∷ actions.Note (Reg 0) ∷ actions.Window 0 ∷ actions.Load 4 0 ∷ actions.Slot 1 (Reg 2) ∷ actions.Load 2 2 ∷ []) ∷
            members.Method (Str (codes "take")) (actions.SelfTo 2 ∷ actions.New 4 (codes "Main") ∷ []) ∷ []);
      }) ∷ []);
  handlers = (
      (record { which = handlers.New; body = (actions.New 0 (codes "Main") ∷ actions.Slot 0 (Reg 0) ∷ actions.Window 1 ∷ actions.Slot 1 (Reg 1) ∷ []) }) ∷
      (record { which = handlers.Scriptable; body = (actions.Load 0 0 ∷ actions.Return (Reg 0) ∷ []) }) ∷
      (record { which = handlers.Destroy; body = (actions.Put (Reg 0) (Str (codes "f1")) (Reg 1) ∷ actions.Drop 4 ∷ actions.New 4 (codes "U") ∷ actions.Put (Reg 4) (Str (codes "f1")) (Reg 1) ∷ actions.New 2 (codes "Main") ∷ actions.Put (Reg 4) (Str (codes "f0")) (Reg 5) ∷ actions.New 5 (codes "T") ∷ actions.Put (Reg 4) (IntKey (pos 7)) (Reg 5) ∷ actions.Drop 5 ∷ actions.Slot 3 (Reg 4) ∷ actions.Drop 4 ∷ []) }) ∷ []);
  tasks = [];
}

-- the run of both
both-end : outcome 1500 page plugin ≡ record {
  page = (
      Created (record { side = sides.Page; instance = 1; serial = 1 }) ∷
      CommandResult 1 (results.Code NoError) ∷
      CommandResult 2 (results.Yes (values.Object (record { side = sides.Plug; instance = 1; serial = 1 })) false) ∷
      Created (record { side = sides.Page; instance = 2; serial = 1 }) ∷
      CommandResult 3 (results.Code NoError) ∷
      CommandResult 4 (results.Yes (values.Object (record { side = sides.Plug; instance = 2; serial = 1 })) false) ∷
      Created (record { side = sides.Page; instance = 1; serial = 2 }) ∷
      CommandResult 5 (results.Yes (values.Object (record { side = sides.Page; instance = 1; serial = 2 })) false) ∷
      Created (record { side = sides.Page; instance = 2; serial = 2 }) ∷
      CommandResult 6 (results.Yes (values.Object (record { side = sides.Page; instance = 2; serial = 2 })) false) ∷
      Entered (record { side = sides.Page; instance = 1; serial = 2 }) (ops.Invoke (Str (codes "m3"))) ∷
      ProxyGone (record { side = sides.Plug; instance = 2; serial = 1 }) ∷
      Invalidated (record { side = sides.Page; instance = 2; serial = 1 }) ∷
      Invalidated (record { side = sides.Page; instance = 2; serial = 2 }) ∷
      Deallocated (record { side = sides.Page; instance = 2; serial = 1 }) ∷
      Deallocated (record { side = sides.Page; instance = 2; serial = 2 }) ∷
      Created (record { side = sides.Page; instance = 1; serial = 3 }) ∷
      Created (record { side = sides.Page; instance = 1; serial = 4 }) ∷
      Entered (record { side = sides.Page; instance = 1; serial = 3 }) (ops.Put (Str (codes "7"))) ∷
      Deallocated (record { side = sides.Page; instance = 1; serial = 4 }) ∷
      CommandResult 7 (results.Yes (values.Object (record { side = sides.Page; instance = 1; serial = 3 })) false) ∷
      Deallocated (record { side = sides.Page; instance = 1; serial = 3 }) ∷
      CommandResult 8 results.No ∷
      CommandResult 9 (results.Yes values.Void false) ∷
      CommandResult 10 (results.Code InvalidInstance) ∷
      Entered (record { side = sides.Page; instance = 1; serial = 1 }) (ops.Invoke (IntKey (pos 4))) ∷
      Entered (record { side = sides.Page; instance = 1; serial = 2 }) (ops.Put (Str (codes "f0"))) ∷
      Noted values.Void false ∷
      Created (record { side = sides.Page; instance = 1; serial = 5 }) ∷
      Deallocated (record { side = sides.Page; instance = 1; serial = 5 }) ∷
      Created (record { side = sides.Page; instance = 1; serial = 6 }) ∷
      Created (record { side = sides.Page; instance = 1; serial = 7 }) ∷
      Created (record { side = sides.Page; instance = 1; serial = 8 }) ∷
      Entered (record { side = sides.Page; instance = 1; serial = 6 }) (ops.Put (Str (codes "f0"))) ∷
      Deallocated (record { side = sides.Page; instance = 1; serial = 6 }) ∷
      Entered (record { side = sides.Page; instance = 1; serial = 1 }) (ops.Put (Str (codes "f0"))) ∷
      Deallocated (record { side = sides.Page; instance = 1; serial = 7 }) ∷
      Deallocated (record { side = sides.Page; instance = 1; serial = 8 }) ∷
      CommandResult 11 (results.Yes (values.Object (record { side = sides.Plug; instance = 1; serial = 5 })) false) ∷
      CommandResult 12 results.No ∷
      Entered (record { side = sides.Page; instance = 1; serial = 2 }) (ops.Invoke (Str (codes "m1"))) ∷
      Created (record { side = sides.Page; instance = 1; serial = 9 }) ∷
      Created (record { side = sides.Page; instance = 1; serial = 10 }) ∷
      Created (record { side = sides.Page; instance = 1; serial = 11 }) ∷
      Entered (record { side = sides.Page; instance = 1; serial = 9 }) (ops.Invoke (Str (codes "m3"))) ∷
      Created (record { side = sides.Page; instance = 1; serial = 12 }) ∷
      Created (record { side = sides.Page; instance = 1; serial = 13 }) ∷
      Entered (record { side = sides.Page; instance = 1; serial = 12 }) (ops.Put (Str (codes "7"))) ∷
      Deallocated (record { side = sides.Page; instance = 1; serial = 10 }) ∷
      Deallocated (record { side = sides.Page; instance = 1; serial = 13 }) ∷
      Entered (record { side = sides.Page; instance = 1; serial = 9 }) (ops.Invoke (Str (codes "m2"))) ∷
      Created (record { side = sides.Page; instance = 1; serial = 14 }) ∷
      Created (record { side = sides.Page; instance = 1; serial = 15 }) ∷
      Created (record { side = sides.Page; instance = 1; serial = 16 }) ∷
      Deallocated (record { side = sides.Page; instance = 1; serial = 11 }) ∷
      Deallocated (record { side = sides.Page; instance = 1; serial = 16 }) ∷
      Deallocated (record { side = sides.Page; instance = 1; serial = 14 }) ∷
      Deallocated (record { side = sides.Page; instance = 1; serial = 15 }) ∷
      Entered (record { side = sides.Page; instance = 1; serial = 9 }) (ops.Put (IntKey (pos 7))) ∷
      Created (record { side = sides.Page; instance = 1; serial = 17 }) ∷
      Entered (record { side = sides.Page; instance = 1; serial = 12 }) (ops.Put (IntKey (pos 7))) ∷
      Deallocated (record { side = sides.Page; instance = 1; serial = 17 }) ∷
      Deallocated (record { side = sides.Page; instance = 1; serial = 12 }) ∷
      CommandResult 13 (results.Yes values.Void false) ∷
      Deallocated (record { side = sides.Page; instance = 1; serial = 2 }) ∷
      CommandResult 14 (results.Yes values.Void false) ∷
      CommandResult 15 results.No ∷
      CommandResult 16 results.No ∷
      CommandResult 17 results.No ∷
      ProxyGone (record { side = sides.Plug; instance = 1; serial = 1 }) ∷
      Invalidated (record { side = sides.Page; instance = 1; serial = 1 }) ∷
      Invalidated (record { side = sides.Page; instance = 1; serial = 9 }) ∷
      Deallocated (record { side = sides.Page; instance = 1; serial = 1 }) ∷
      Deallocated (record { side = sides.Page; instance = 1; serial = 9 }) ∷
      CommandResult 18 (results.Code NoError) ∷
      CommandResult 19 results.No ∷
      CommandResult 20 results.No ∷
      CommandResult 21 (results.Yes values.Void false) ∷
      CommandResult 22 results.No ∷
      CommandResult 23 results.No ∷
      Created (record { side = sides.Page; instance = 3; serial = 1 }) ∷
      CommandResult 24 (results.Code NoError) ∷
      CommandResult 25 (results.Yes (values.Object (record { side = sides.Plug; instance = 3; serial = 1 })) false) ∷
      CommandResult 26 results.No ∷
      CommandResult 27 (results.Yes values.Void false) ∷
      CommandResult 28 results.No ∷
      CommandResult 29 results.No ∷
      ProxyGone (record { side = sides.Plug; instance = 3; serial = 1 }) ∷
      Invalidated (record { side = sides.Page; instance = 3; serial = 1 }) ∷
      Deallocated (record { side = sides.Page; instance = 3; serial = 1 }) ∷ []);
  plugin = (
      HandlerRun 1 handlers.New ∷
      Created (record { side = sides.Plug; instance = 1; serial = 1 }) ∷
      HandlerRun 1 handlers.Scriptable ∷
      HandlerRun 2 handlers.New ∷
      Created (record { side = sides.Plug; instance = 2; serial = 1 }) ∷
      HandlerRun 2 handlers.Scriptable ∷
      HandlerRun 2 handlers.Destroy ∷
      Created (record { side = sides.Plug; instance = 2; serial = 2 }) ∷
      Entered (record { side = sides.Plug; instance = 2; serial = 2 }) (ops.Put (Str (codes "f1"))) ∷
      Created (record { side = sides.Plug; instance = 2; serial = 3 }) ∷
      Entered (record { side = sides.Plug; instance = 2; serial = 2 }) (ops.Put (Str (codes "f0"))) ∷
      Created (record { side = sides.Plug; instance = 2; serial = 4 }) ∷
      Entered (record { side = sides.Plug; instance = 2; serial = 2 }) (ops.Put (IntKey (pos 7))) ∷
      Deallocated (record { side = sides.Plug; instance = 2; serial = 3 }) ∷
      ProxyGone (record { side = sides.Page; instance = 2; serial = 1 }) ∷
      Invalidated (record { side = sides.Plug; instance = 2; serial = 1 }) ∷
      Invalidated (record { side = sides.Plug; instance = 2; serial = 2 }) ∷
      Invalidated (record { side = sides.Plug; instance = 2; serial = 4 }) ∷
      Deallocated (record { side = sides.Plug; instance = 2; serial = 1 }) ∷
      Deallocated (record { side = sides.Plug; instance = 2; serial = 2 }) ∷
      Deallocated (record { side = sides.Plug; instance = 2; serial = 4 }) ∷
      Entered (record { side = sides.Plug; instance = 1; serial = 1 }) (ops.Invoke (Str (codes "m2"))) ∷
      Created (record { side = sides.Plug; instance = 1; serial = 2 }) ∷
      Entered (record { side = sides.Plug; instance = 1; serial = 2 }) (ops.Get (Str (codes "f0"))) ∷
      Created (record { side = sides.Plug; instance = 1; serial = 3 }) ∷
      Created (record { side = sides.Plug; instance = 1; serial = 4 }) ∷
      Deallocated (record { side = sides.Plug; instance = 1; serial = 4 }) ∷
      Created (record { side = sides.Plug; instance = 1; serial = 5 }) ∷
      Entered (record { side = sides.Plug; instance = 1; serial = 5 }) (ops.Put (Str (codes "f0"))) ∷
      Created (record { side = sides.Plug; instance = 1; serial = 6 }) ∷
      Created (record { side = sides.Plug; instance = 1; serial = 7 }) ∷
      Entered (record { side = sides.Plug; instance = 1; serial = 7 }) (ops.Invoke (Str (codes "take"))) ∷
      Created (record { side = sides.Plug; instance = 1; serial = 8 }) ∷
      Created (record { side = sides.Plug; instance = 1; serial = 9 }) ∷
      Created (record { side = sides.Plug; instance = 1; serial = 10 }) ∷
      Deallocated (record { side = sides.Plug; instance = 1; serial = 8 }) ∷
      Deallocated (record { side = sides.Plug; instance = 1; serial = 9 }) ∷
      Deallocated (record { side = sides.Plug; instance = 1; serial = 10 }) ∷
      Created (record { side = sides.Plug; instance = 1; serial = 11 }) ∷
      Deallocated (record { side = sides.Plug; instance = 1; serial = 11 }) ∷
      Deallocated (record { side = sides.Plug; instance = 1; serial = 6 }) ∷
      Deallocated (record { side = sides.Plug; instance = 1; serial = 7 }) ∷
      Deallocated (record { side = sides.Plug; instance = 1; serial = 3 }) ∷
      Deallocated (record { side = sides.Plug; instance = 1; serial = 2 }) ∷
      Entered (record { side = sides.Plug; instance = 1; serial = 1 }) (ops.Invoke (IntKey (pos 4))) ∷
      Created (record { side = sides.Plug; instance = 1; serial = 12 }) ∷
      Deallocated (record { side = sides.Plug; instance = 1; serial = 12 }) ∷
      Deallocated (record { side = sides.Plug; instance = 1; serial = 5 }) ∷
      HandlerRun 1 handlers.Destroy ∷
      Created (record { side = sides.Plug; instance = 1; serial = 13 }) ∷
      Entered (record { side = sides.Plug; instance = 1; serial = 13 }) (ops.Put (Str (codes "f1"))) ∷
      Created (record { side = sides.Plug; instance = 1; serial = 14 }) ∷
      Entered (record { side = sides.Plug; instance = 1; serial = 13 }) (ops.Put (Str (codes "f0"))) ∷
      Created (record { side = sides.Plug; instance = 1; serial = 15 }) ∷
      Entered (record { side = sides.Plug; instance = 1; serial = 13 }) (ops.Put (IntKey (pos 7))) ∷
      Deallocated (record { side = sides.Plug; instance = 1; serial = 14 }) ∷
      ProxyGone (record { side = sides.Page; instance = 1; serial = 1 }) ∷
      Invalidated (record { side = sides.Plug; instance = 1; serial = 1 }) ∷
      Invalidated (record { side = sides.Plug; instance = 1; serial = 13 }) ∷
      Invalidated (record { side = sides.Plug; instance = 1; serial = 15 }) ∷
      Deallocated (record { side = sides.Plug; instance = 1; serial = 1 }) ∷
      Deallocated (record { side = sides.Plug; instance = 1; serial = 13 }) ∷
      Deallocated (record { side = sides.Plug; instance = 1; serial = 15 }) ∷
      HandlerRun 3 handlers.New ∷
      Created (record { side = sides.Plug; instance = 3; serial = 1 }) ∷
      HandlerRun 3 handlers.Scriptable ∷
      HandlerRun 3 handlers.Destroy ∷
      Created (record { side = sides.Plug; instance = 3; serial = 2 }) ∷
      Entered (record { side = sides.Plug; instance = 3; serial = 2 }) (ops.Put (Str (codes "f1"))) ∷
      Created (record { side = sides.Plug; instance = 3; serial = 3 }) ∷
      Entered (record { side = sides.Plug; instance = 3; serial = 2 }) (ops.Put (Str (codes "f0"))) ∷
      Created (record { side = sides.Plug; instance = 3; serial = 4 }) ∷
      Entered (record { side = sides.Plug; instance = 3; serial = 2 }) (ops.Put (IntKey (pos 7))) ∷
      Deallocated (record { side = sides.Plug; instance = 3; serial = 3 }) ∷
      ProxyGone (record { side = sides.Page; instance = 3; serial = 1 }) ∷
      Invalidated (record { side = sides.Plug; instance = 3; serial = 1 }) ∷
      Invalidated (record { side = sides.Plug; instance = 3; serial = 2 }) ∷
      Invalidated (record { side = sides.Plug; instance = 3; serial = 4 }) ∷
      Deallocated (record { side = sides.Plug; instance = 3; serial = 1 }) ∷
      Deallocated (record { side = sides.Plug; instance = 3; serial = 2 }) ∷
      Deallocated (record { side = sides.Plug; instance = 3; serial = 4 }) ∷ []);
  files = [];
  rests = true;
}
unfolding encoding digits is_text is_utf8 chars encode_utf8
both-end = refl

-- all bytes that the page sends
page-sends : page_bytes 1500 page plugin ≡ (0 ∷ 0 ∷ 0 ∷ 7 ∷ 1 ∷ 1 ∷ 0 ∷ 0 ∷ 1 ∷ 0 ∷ 27 ∷ 0 ∷ 0 ∷ 0 ∷ 24 ∷ 2 ∷ 1 ∷ 0 ∷ 0 ∷ 1 ∷ 1 ∷ 0 ∷ 3 ∷ 116 ∷ 47 ∷ 120 ∷ 2 ∷ 0 ∷ 1 ∷ 97 ∷ 0 ∷ 1 ∷ 49 ∷ 0 ∷ 1 ∷ 97 ∷ 0 ∷ 1 ∷ 49 ∷ 0 ∷ 0 ∷ 0 ∷ 11 ∷ 65 ∷ 2 ∷ 0 ∷ 0 ∷ 6 ∷ 0 ∷ 1 ∷ 0 ∷ 0 ∷ 0 ∷ 1 ∷ 0 ∷ 0 ∷ 0 ∷ 5 ∷ 4 ∷ 1 ∷ 0 ∷ 0 ∷ 1 ∷ 0 ∷ 0 ∷ 0 ∷ 30 ∷ 2 ∷ 1 ∷ 0 ∷ 0 ∷ 2 ∷ 2 ∷ 0 ∷ 3 ∷ 116 ∷ 47 ∷ 120 ∷ 3 ∷ 0 ∷ 1 ∷ 97 ∷ 0 ∷ 1 ∷ 49 ∷ 0 ∷ 1 ∷ 97 ∷ 0 ∷ 1 ∷ 49 ∷ 0 ∷ 1 ∷ 97 ∷ 0 ∷ 1 ∷ 49 ∷ 0 ∷ 0 ∷ 0 ∷ 11 ∷ 65 ∷ 2 ∷ 0 ∷ 0 ∷ 6 ∷ 0 ∷ 2 ∷ 0 ∷ 0 ∷ 0 ∷ 1 ∷ 0 ∷ 0 ∷ 0 ∷ 5 ∷ 4 ∷ 1 ∷ 0 ∷ 0 ∷ 2 ∷ 0 ∷ 0 ∷ 0 ∷ 5 ∷ 3 ∷ 2 ∷ 0 ∷ 0 ∷ 2 ∷ 0 ∷ 0 ∷ 0 ∷ 4 ∷ 5 ∷ 1 ∷ 0 ∷ 0 ∷ 0 ∷ 0 ∷ 0 ∷ 37 ∷ 64 ∷ 1 ∷ 0 ∷ 0 ∷ 1 ∷ 0 ∷ 0 ∷ 0 ∷ 1 ∷ 1 ∷ 0 ∷ 0 ∷ 2 ∷ 109 ∷ 50 ∷ 3 ∷ 6 ∷ 1 ∷ 2 ∷ 0 ∷ 0 ∷ 0 ∷ 1 ∷ 6 ∷ 1 ∷ 1 ∷ 0 ∷ 0 ∷ 0 ∷ 1 ∷ 6 ∷ 0 ∷ 1 ∷ 0 ∷ 0 ∷ 0 ∷ 2 ∷ 0 ∷ 0 ∷ 0 ∷ 11 ∷ 65 ∷ 2 ∷ 0 ∷ 0 ∷ 6 ∷ 0 ∷ 1 ∷ 0 ∷ 0 ∷ 0 ∷ 1 ∷ 0 ∷ 0 ∷ 0 ∷ 5 ∷ 65 ∷ 2 ∷ 0 ∷ 0 ∷ 0 ∷ 0 ∷ 0 ∷ 0 ∷ 24 ∷ 64 ∷ 1 ∷ 0 ∷ 0 ∷ 1 ∷ 0 ∷ 0 ∷ 0 ∷ 1 ∷ 1 ∷ 1 ∷ 0 ∷ 0 ∷ 0 ∷ 4 ∷ 2 ∷ 6 ∷ 1 ∷ 1 ∷ 0 ∷ 0 ∷ 0 ∷ 1 ∷ 0 ∷ 0 ∷ 0 ∷ 0 ∷ 14 ∷ 3 ∷ 1 ∷ 0 ∷ 1 ∷ 1 ∷ 0 ∷ 0 ∷ 0 ∷ 5 ∷ 0 ∷ 0 ∷ 0 ∷ 1 ∷ 1 ∷ 0 ∷ 0 ∷ 0 ∷ 12 ∷ 2 ∷ 1 ∷ 0 ∷ 0 ∷ 3 ∷ 2 ∷ 0 ∷ 3 ∷ 116 ∷ 47 ∷ 121 ∷ 0 ∷ 0 ∷ 0 ∷ 0 ∷ 11 ∷ 65 ∷ 2 ∷ 0 ∷ 0 ∷ 6 ∷ 0 ∷ 3 ∷ 0 ∷ 0 ∷ 0 ∷ 1 ∷ 0 ∷ 0 ∷ 0 ∷ 5 ∷ 4 ∷ 1 ∷ 0 ∷ 0 ∷ 3 ∷ 0 ∷ 0 ∷ 0 ∷ 4 ∷ 5 ∷ 1 ∷ 0 ∷ 0 ∷ 0 ∷ 0 ∷ 0 ∷ 5 ∷ 3 ∷ 1 ∷ 0 ∷ 0 ∷ 3 ∷ 0 ∷ 0 ∷ 0 ∷ 4 ∷ 12 ∷ 1 ∷ 0 ∷ 0 ∷ [])
unfolding encoding digits is_text is_utf8 chars encode_utf8
page-sends = refl

-- all bytes that the plugin sends
plugin-sends : plugin_bytes 1500 page plugin ≡ (0 ∷ 0 ∷ 0 ∷ 5 ∷ 69 ∷ 1 ∷ 0 ∷ 0 ∷ 0 ∷ 0 ∷ 0 ∷ 0 ∷ 5 ∷ 32 ∷ 2 ∷ 0 ∷ 0 ∷ 1 ∷ 0 ∷ 0 ∷ 0 ∷ 5 ∷ 69 ∷ 1 ∷ 0 ∷ 0 ∷ 0 ∷ 0 ∷ 0 ∷ 0 ∷ 11 ∷ 65 ∷ 1 ∷ 0 ∷ 0 ∷ 6 ∷ 1 ∷ 1 ∷ 0 ∷ 0 ∷ 0 ∷ 1 ∷ 0 ∷ 0 ∷ 0 ∷ 5 ∷ 32 ∷ 2 ∷ 0 ∷ 0 ∷ 2 ∷ 0 ∷ 0 ∷ 0 ∷ 5 ∷ 69 ∷ 1 ∷ 0 ∷ 0 ∷ 0 ∷ 0 ∷ 0 ∷ 0 ∷ 11 ∷ 65 ∷ 1 ∷ 0 ∷ 0 ∷ 6 ∷ 1 ∷ 2 ∷ 0 ∷ 0 ∷ 0 ∷ 1 ∷ 0 ∷ 0 ∷ 0 ∷ 5 ∷ 69 ∷ 2 ∷ 0 ∷ 0 ∷ 0 ∷ 0 ∷ 0 ∷ 0 ∷ 4 ∷ 71 ∷ 1 ∷ 0 ∷ 0 ∷ 0 ∷ 0 ∷ 0 ∷ 5 ∷ 32 ∷ 2 ∷ 0 ∷ 0 ∷ 1 ∷ 0 ∷ 0 ∷ 0 ∷ 37 ∷ 64 ∷ 2 ∷ 0 ∷ 0 ∷ 1 ∷ 0 ∷ 0 ∷ 0 ∷ 1 ∷ 1 ∷ 1 ∷ 0 ∷ 0 ∷ 0 ∷ 4 ∷ 3 ∷ 6 ∷ 0 ∷ 1 ∷ 0 ∷ 0 ∷ 0 ∷ 2 ∷ 6 ∷ 1 ∷ 2 ∷ 0 ∷ 0 ∷ 0 ∷ 1 ∷ 6 ∷ 0 ∷ 1 ∷ 0 ∷ 0 ∷ 0 ∷ 2 ∷ 0 ∷ 0 ∷ 0 ∷ 20 ∷ 65 ∷ 1 ∷ 0 ∷ 1 ∷ 1 ∷ 0 ∷ 0 ∷ 0 ∷ 2 ∷ 0 ∷ 0 ∷ 0 ∷ 1 ∷ 6 ∷ 1 ∷ 1 ∷ 0 ∷ 0 ∷ 0 ∷ 5 ∷ 0 ∷ 0 ∷ 0 ∷ 5 ∷ 65 ∷ 1 ∷ 0 ∷ 0 ∷ 0 ∷ 0 ∷ 0 ∷ 0 ∷ 5 ∷ 69 ∷ 1 ∷ 0 ∷ 0 ∷ 0 ∷ 0 ∷ 0 ∷ 0 ∷ 5 ∷ 32 ∷ 2 ∷ 0 ∷ 0 ∷ 3 ∷ 0 ∷ 0 ∷ 0 ∷ 5 ∷ 69 ∷ 1 ∷ 0 ∷ 0 ∷ 0 ∷ 0 ∷ 0 ∷ 0 ∷ 11 ∷ 65 ∷ 1 ∷ 0 ∷ 0 ∷ 6 ∷ 1 ∷ 3 ∷ 0 ∷ 0 ∷ 0 ∷ 1 ∷ 0 ∷ 0 ∷ 0 ∷ 4 ∷ 71 ∷ 1 ∷ 0 ∷ 0 ∷ 0 ∷ 0 ∷ 0 ∷ 5 ∷ 69 ∷ 1 ∷ 0 ∷ 0 ∷ 0 ∷ 0 ∷ 0 ∷ 0 ∷ 4 ∷ 71 ∷ 1 ∷ 0 ∷ 0 ∷ [])
unfolding encoding digits is_text is_utf8 chars encode_utf8
plugin-sends = refl

-- the plug-in's first 88 bytes hold 8 whole messages
cut-88 : lost_outcome 1500 (Some 8) page plugin ≡ record {
  page = (
      Created (record { side = sides.Page; instance = 1; serial = 1 }) ∷
      CommandResult 1 (results.Code NoError) ∷
      CommandResult 2 (results.Yes (values.Object (record { side = sides.Plug; instance = 1; serial = 1 })) false) ∷
      Created (record { side = sides.Page; instance = 2; serial = 1 }) ∷
      CommandResult 3 (results.Code NoError) ∷
      CommandResult 4 (results.Yes (values.Object (record { side = sides.Plug; instance = 2; serial = 1 })) false) ∷
      Created (record { side = sides.Page; instance = 1; serial = 2 }) ∷
      CommandResult 5 (results.Yes (values.Object (record { side = sides.Page; instance = 1; serial = 2 })) false) ∷
      Created (record { side = sides.Page; instance = 2; serial = 2 }) ∷
      CommandResult 6 (results.Yes (values.Object (record { side = sides.Page; instance = 2; serial = 2 })) false) ∷
      Entered (record { side = sides.Page; instance = 1; serial = 2 }) (ops.Invoke (Str (codes "m3"))) ∷
      ProxyGone (record { side = sides.Plug; instance = 2; serial = 1 }) ∷
      Invalidated (record { side = sides.Page; instance = 2; serial = 1 }) ∷
      Invalidated (record { side = sides.Page; instance = 2; serial = 2 }) ∷
      Deallocated (record { side = sides.Page; instance = 2; serial = 1 }) ∷
      Deallocated (record { side = sides.Page; instance = 2; serial = 2 }) ∷
      Created (record { side = sides.Page; instance = 1; serial = 3 }) ∷
      Created (record { side = sides.Page; instance = 1; serial = 4 }) ∷
      Entered (record { side = sides.Page; instance = 1; serial = 3 }) (ops.Put (Str (codes "7"))) ∷
      Deallocated (record { side = sides.Page; instance = 1; serial = 4 }) ∷
      CommandResult 7 (results.Yes (values.Object (record { side = sides.Page; instance = 1; serial = 3 })) false) ∷
      Deallocated (record { side = sides.Page; instance = 1; serial = 3 }) ∷
      CommandResult 8 results.No ∷
      ProxyGone (record { side = sides.Plug; instance = 1; serial = 1 }) ∷
      Invalidated (record { side = sides.Page; instance = 1; serial = 1 }) ∷
      Invalidated (record { side = sides.Page; instance = 1; serial = 2 }) ∷
      Deallocated (record { side = sides.Page; instance = 1; serial = 1 }) ∷
      Deallocated (record { side = sides.Page; instance = 1; serial = 2 }) ∷
      CommandResult 9 results.No ∷
      CommandResult 10 (results.Code InvalidInstance) ∷
      CommandResult 11 results.No ∷
      CommandResult 12 results.No ∷
      CommandResult 13 results.No ∷
      CommandResult 14 results.No ∷
      CommandResult 15 results.No ∷
      CommandResult 16 results.No ∷
      CommandResult 17 results.No ∷
      CommandResult 18 (results.Code InvalidInstance) ∷
      CommandResult 19 results.No ∷
      CommandResult 20 results.No ∷
      CommandResult 21 (results.Yes values.Void false) ∷
      CommandResult 22 results.No ∷
      CommandResult 23 results.No ∷
      CommandResult 24 (results.Code ModuleLoadFailed) ∷
      CommandResult 25 results.No ∷
      CommandResult 26 results.No ∷
      CommandResult 27 results.No ∷
      CommandResult 28 results.No ∷
      CommandResult 29 results.No ∷ []);
  rests = true;
}
unfolding encoding digits is_text is_utf8 chars encode_utf8
cut-88 = refl

-- the plug-in's first 226 bytes hold 18 whole messages
cut-226 : lost_outcome 1500 (Some 18) page plugin ≡ record {
  page = (
      Created (record { side = sides.Page; instance = 1; serial = 1 }) ∷
      CommandResult 1 (results.Code NoError) ∷
      CommandResult 2 (results.Yes (values.Object (record { side = sides.Plug; instance = 1; serial = 1 })) false) ∷
      Created (record { side = sides.Page; instance = 2; serial = 1 }) ∷
      CommandResult 3 (results.Code NoError) ∷
      CommandResult 4 (results.Yes (values.Object (record { side = sides.Plug; instance = 2; serial = 1 })) false) ∷
      Created (record { side = sides.Page; instance = 1; serial = 2 }) ∷
      CommandResult 5 (results.Yes (values.Object (record { side = sides.Page; instance = 1; serial = 2 })) false) ∷
      Created (record { side = sides.Page; instance = 2; serial = 2 }) ∷
      CommandResult 6 (results.Yes (values.Object (record { side = sides.Page; instance = 2; serial = 2 })) false) ∷
      Entered (record { side = sides.Page; instance = 1; serial = 2 }) (ops.Invoke (Str (codes "m3"))) ∷
      ProxyGone (record { side = sides.Plug; instance = 2; serial = 1 }) ∷
      Invalidated (record { side = sides.Page; instance = 2; serial = 1 }) ∷
      Invalidated (record { side = sides.Page; instance = 2; serial = 2 }) ∷
      Deallocated (record { side = sides.Page; instance = 2; serial = 1 }) ∷
      Deallocated (record { side = sides.Page; instance = 2; serial = 2 }) ∷
      Created (record { side = sides.Page; instance = 1; serial = 3 }) ∷
      Created (record { side = sides.Page; instance = 1; serial = 4 }) ∷
      Entered (record { side = sides.Page; instance = 1; serial = 3 }) (ops.Put (Str (codes "7"))) ∷
      Deallocated (record { side = sides.Page; instance = 1; serial = 4 }) ∷
      CommandResult 7 (results.Yes (values.Object (record { side = sides.Page; instance = 1; serial = 3 })) false) ∷
      Deallocated (record { side = sides.Page; instance = 1; serial = 3 }) ∷
      CommandResult 8 results.No ∷
      CommandResult 9 (results.Yes values.Void false) ∷
      CommandResult 10 (results.Code InvalidInstance) ∷
      Entered (record { side = sides.Page; instance = 1; serial = 1 }) (ops.Invoke (IntKey (pos 4))) ∷
      Entered (record { side = sides.Page; instance = 1; serial = 2 }) (ops.Put (Str (codes "f0"))) ∷
      Noted values.Void false ∷
      Created (record { side = sides.Page; instance = 1; serial = 5 }) ∷
      Deallocated (record { side = sides.Page; instance = 1; serial = 5 }) ∷
      Created (record { side = sides.Page; instance = 1; serial = 6 }) ∷
      Created (record { side = sides.Page; instance = 1; serial = 7 }) ∷
      Created (record { side = sides.Page; instance = 1; serial = 8 }) ∷
      Entered (record { side = sides.Page; instance = 1; serial = 6 }) (ops.Put (Str (codes "f0"))) ∷
      Deallocated (record { side = sides.Page; instance = 1; serial = 6 }) ∷
      Entered (record { side = sides.Page; instance = 1; serial = 1 }) (ops.Put (Str (codes "f0"))) ∷
      Deallocated (record { side = sides.Page; instance = 1; serial = 7 }) ∷
      Deallocated (record { side = sides.Page; instance = 1; serial = 8 }) ∷
      CommandResult 11 (results.Yes (values.Object (record { side = sides.Plug; instance = 1; serial = 5 })) false) ∷
      CommandResult 12 results.No ∷
      Entered (record { side = sides.Page; instance = 1; serial = 2 }) (ops.Invoke (Str (codes "m1"))) ∷
      Created (record { side = sides.Page; instance = 1; serial = 9 }) ∷
      Created (record { side = sides.Page; instance = 1; serial = 10 }) ∷
      Created (record { side = sides.Page; instance = 1; serial = 11 }) ∷
      Entered (record { side = sides.Page; instance = 1; serial = 9 }) (ops.Invoke (Str (codes "m3"))) ∷
      Created (record { side = sides.Page; instance = 1; serial = 12 }) ∷
      Created (record { side = sides.Page; instance = 1; serial = 13 }) ∷
      Entered (record { side = sides.Page; instance = 1; serial = 12 }) (ops.Put (Str (codes "7"))) ∷
      Deallocated (record { side = sides.Page; instance = 1; serial = 10 }) ∷
      Deallocated (record { side = sides.Page; instance = 1; serial = 13 }) ∷
      Entered (record { side = sides.Page; instance = 1; serial = 9 }) (ops.Invoke (Str (codes "m2"))) ∷
      Created (record { side = sides.Page; instance = 1; serial = 14 }) ∷
      Created (record { side = sides.Page; instance = 1; serial = 15 }) ∷
      Created (record { side = sides.Page; instance = 1; serial = 16 }) ∷
      Deallocated (record { side = sides.Page; instance = 1; serial = 11 }) ∷
      Deallocated (record { side = sides.Page; instance = 1; serial = 16 }) ∷
      Deallocated (record { side = sides.Page; instance = 1; serial = 14 }) ∷
      Deallocated (record { side = sides.Page; instance = 1; serial = 15 }) ∷
      Entered (record { side = sides.Page; instance = 1; serial = 9 }) (ops.Put (IntKey (pos 7))) ∷
      Created (record { side = sides.Page; instance = 1; serial = 17 }) ∷
      Entered (record { side = sides.Page; instance = 1; serial = 12 }) (ops.Put (IntKey (pos 7))) ∷
      Deallocated (record { side = sides.Page; instance = 1; serial = 17 }) ∷
      Deallocated (record { side = sides.Page; instance = 1; serial = 12 }) ∷
      CommandResult 13 (results.Yes values.Void false) ∷
      Deallocated (record { side = sides.Page; instance = 1; serial = 2 }) ∷
      CommandResult 14 (results.Yes values.Void false) ∷
      CommandResult 15 results.No ∷
      CommandResult 16 results.No ∷
      CommandResult 17 results.No ∷
      ProxyGone (record { side = sides.Plug; instance = 1; serial = 1 }) ∷
      Invalidated (record { side = sides.Page; instance = 1; serial = 1 }) ∷
      Invalidated (record { side = sides.Page; instance = 1; serial = 9 }) ∷
      Deallocated (record { side = sides.Page; instance = 1; serial = 1 }) ∷
      Deallocated (record { side = sides.Page; instance = 1; serial = 9 }) ∷
      CommandResult 18 (results.Code NoError) ∷
      CommandResult 19 results.No ∷
      CommandResult 20 results.No ∷
      CommandResult 21 (results.Yes values.Void false) ∷
      CommandResult 22 results.No ∷
      CommandResult 23 results.No ∷
      Created (record { side = sides.Page; instance = 3; serial = 1 }) ∷
      CommandResult 24 (results.Code NoError) ∷
      CommandResult 25 (results.Yes (values.Object (record { side = sides.Plug; instance = 3; serial = 1 })) false) ∷
      CommandResult 26 results.No ∷
      CommandResult 27 (results.Yes values.Void false) ∷
      CommandResult 28 results.No ∷
      CommandResult 29 results.No ∷
      ProxyGone (record { side = sides.Plug; instance = 3; serial = 1 }) ∷
      Invalidated (record { side = sides.Page; instance = 3; serial = 1 }) ∷
      Deallocated (record { side = sides.Page; instance = 3; serial = 1 }) ∷ []);
  rests = true;
}
unfolding encoding digits is_text is_utf8 chars encode_utf8
cut-226 = refl
