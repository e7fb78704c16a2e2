-- Made by tools/vector-theorems of tests/vectors/9-033.
use Rattle.std.proofs.Common.{◌≡◌, pos, negsuc, [], ◌∷◌, refl, true, false, None}
use Rattle.std.specs.Prelude.{codes}
use Rattle.std.specs.Char.{encode_utf8}
use Rattle.std.specs.Fmt.{digits}
use Rattle.std.specs.Str.{is_utf8, chars}
use Rattle.np_values.specs.declared.error.NpError.TheVariants.{NoError, Generic}
use Rattle.np_values.specs.declared.handler.Handler.TheVariants as handlers
use Rattle.np_values.specs.declared.name.Side.TheVariants as sides
use Rattle.np_values.specs.declared.reason.NpReason.TheVariants as reasons
use Rattle.np_values.specs.declared.value.Value.TheVariants as values
use Rattle.np_values.specs.Text.{is_text}
use Rattle.np_idents.specs.declared.key.IdKey.TheVariants.{Str, Int as IntKey}
use Rattle.np_idents.specs.declared.op.Op.TheVariants as ops
use Rattle.np_script_grammar.specs.declared.action.Action.TheVariants as actions
use Rattle.np_script_grammar.specs.declared.action.Operand.TheVariants.{Reg, Const}
use Rattle.np_script_grammar.specs.declared.class.Member.TheVariants as members
use Rattle.np_script_grammar.specs.declared.command.Command.TheVariants as commands
use Rattle.np_script_grammar.specs.declared.page.Page.{Page}
use Rattle.np_script_grammar.specs.declared.plugin.Plugin.{Plugin}
use Rattle.np_message.specs.Encoding.{encoding}
use Rattle.np_journal.specs.declared.line.Line.TheVariants.{Created, Entered, HandlerRun, Invalidated, Deallocated, CommandResult}
use Rattle.np_journal.specs.declared.printed.Printed.TheVariants as results
use Rattle.np_machine_plans.specs.Outcomes.{resource, outcome, page_bytes, plugin_bytes, lost_outcome}

abbrev page : Page
page = record {
  major = 0;
  minor = 27;
  classes = (
      (record {
        name = codes "Window";
        version = 3;
        stored = true;
        members = (
            members.Method (Str (codes "m0")) (actions.Load 2 2 ∷ actions.Load 3 1 ∷ actions.New 4 (codes "A") ∷ actions.New 2 (codes "Window") ∷ actions.New 5 (codes "B") ∷ actions.Slot 1 (Reg 1) ∷ actions.Destroy 2 2 ∷ actions.Slot 1 (Reg 2) ∷ actions.Load 3 1 ∷ actions.Put (Reg 13) (Str (codes "7")) (Const (values.Int (pos 100))) ∷ []) ∷
            members.Method (Str (codes "m2")) (actions.Load 3 1 ∷ actions.New 1 (codes "Window") ∷ actions.New 4 (codes "B") ∷ actions.New 5 (codes "Window") ∷ []) ∷
            members.Method (Str (codes "m3")) (actions.SelfTo 2 ∷ actions.New 5 (codes "Window") ∷ actions.New 4 (codes "Window") ∷ actions.New 2 (codes "Window") ∷ actions.Set 1 (Reg 8) ∷ []) ∷
            members.Method (IntKey (pos 4)) (actions.Load 2 0 ∷ actions.Load 3 1 ∷ actions.New 2 (codes "A") ∷ actions.Invoke 4 (Reg 2) (Str (codes "take")) (Reg 11 ∷ Reg 2 ∷ Const (values.Text (195 ∷ 164 ∷ 34 ∷ 92 ∷ 1 ∷ 127 ∷ [])) ∷ []) ∷ actions.New 5 (codes "Window") ∷ actions.Slot 2 (Reg 1) ∷ actions.Invoke 1 (Reg 0) (Str (codes "take")) (Reg 3 ∷ Reg 2 ∷ Reg 3 ∷ []) ∷ actions.Return (Const (values.Int (pos 0))) ∷ []) ∷
            members.Method (Str (codes "m1")) (actions.Load 0 2 ∷ actions.OnTrue 2 ∷ []) ∷
            members.Method (Str (codes "take")) (actions.Load 2 2 ∷ actions.New 1 (codes "Window") ∷ actions.Invoke 1 (Reg 0) (Str (codes "none")) (Reg 0 ∷ Reg 3 ∷ []) ∷ actions.New 4 (codes "B") ∷ actions.New 3 (codes "Window") ∷ actions.Drop 1 ∷ []) ∷ []);
      }) ∷
      (record {
        name = codes "B";
        version = 1;
        stored = true;
        members = (
            members.Method (Str (codes "m3")) (actions.Load 2 0 ∷ actions.New 5 (codes "B") ∷ actions.New 1 (codes "A") ∷ actions.New 4 (codes "A") ∷ actions.Load 1 2 ∷ []) ∷
            members.Method (Str (codes "m0")) (actions.Load 2 0 ∷ actions.New 3 (codes "B") ∷ actions.New 1 (codes "Window") ∷ actions.New 2 (codes "A") ∷ []) ∷
            members.Method (Str (codes "take")) (actions.Load 0 2 ∷ actions.SelfTo 2 ∷ actions.Load 0 2 ∷ actions.Return (Reg 0) ∷ []) ∷
            members.Method (IntKey (pos 4)) (actions.Load 0 2 ∷ actions.SelfTo 2 ∷ actions.New 4 (codes "B") ∷ actions.New 3 (codes "B") ∷ actions.Load 1 2 ∷ actions.New 5 (codes "A") ∷ actions.New 4 (codes "Window") ∷ actions.Put (Reg 4) (IntKey (pos 7)) (Reg 3) ∷ actions.Return (Reg 4) ∷ []) ∷
            members.Method (Str (codes "m1")) (actions.Load 0 2 ∷ actions.SelfTo 2 ∷ actions.Load 2 3 ∷ actions.Destroy 1 2 ∷ actions.OnTrue 1 ∷ actions.OnTrue 2 ∷ actions.Invoke 2 (Reg 2) (Str (codes "m3")) (Reg 0 ∷ Reg 1 ∷ []) ∷ []) ∷ []);
      }) ∷ []);
  resources = (
      resource (codes "r") (codes "t/p") 1 (codes "abc") ∷
      resource (codes "s") (codes "t/p") 1 (120 ∷ 1 ∷ 34 ∷ []) ∷
      resource (codes "e") (codes "t/p") 0 (codes "abc") ∷ []);
  commands = (
      commands.Create (codes "t/x") 1 [] ∷
      commands.New 2 1 (codes "B") ∷
      commands.New 3 1 (codes "A") ∷
      commands.Invoke 4 (Reg 1) (Str (codes "m1")) (Reg 5 ∷ Reg 0 ∷ Reg 2 ∷ []) ∷
      commands.Invoke 4 (Reg 2) (Str (codes "m3")) (Reg 2 ∷ Reg 0 ∷ Reg 1 ∷ []) ∷
      commands.Pump 6 ∷
      commands.Invoke 5 (Reg 0) (Str (codes "m1")) (Reg 3 ∷ Reg 0 ∷ Reg 2 ∷ []) ∷
      commands.Invoke 5 (Reg 0) (Str (codes "m2")) (Reg 5 ∷ []) ∷
      commands.Drop 5 ∷
      commands.Invoke 4 (Reg 0) (Str (codes "m0")) [] ∷
      commands.Invoke 4 (Reg 0) (Str (codes "m0")) (Reg 1 ∷ Reg 5 ∷ Reg 0 ∷ []) ∷
      commands.Pump 3 ∷
      commands.Pump 7 ∷
      commands.Invoke 0 (Reg 1) (Str (codes "m1")) (Reg 2 ∷ Reg 2 ∷ []) ∷
      commands.Invoke 5 (Reg 0) (Str (codes "m2")) (Reg 2 ∷ Reg 5 ∷ Reg 1 ∷ []) ∷
      commands.Invoke 5 (Reg 1) (Str (codes "m3")) (Reg 0 ∷ Reg 0 ∷ []) ∷
      commands.Put (Const (values.Int (pos 100))) (Str (codes "f0")) (Reg 0) ∷
      commands.Destroy 1 ∷
      commands.Invoke 5 (Reg 1) (Str (codes "take")) (Reg 5 ∷ Reg 4 ∷ Reg 0 ∷ []) ∷
      commands.Pump 7 ∷ []);
}

abbrev plugin : Plugin
plugin = record {
  major = 0;
  minor = 27;
  classes = (
      (record {
        name = codes "Main";
        version = 2;
        stored = true;
        members = (
            members.Method (IntKey (pos 4)) (actions.Set 0 (Reg 2) ∷ actions.Load 4 1 ∷ actions.GetUrl 3 (Const (values.Text (codes "nowhere"))) (pos 2) ∷ actions.EndStream 2 (Const (values.Int (pos 3))) reasons.UserBreak ∷ actions.Invoke 1 (Reg 2) (Str (codes "take")) (Reg 0 ∷ []) ∷ []) ∷
            members.Construct (actions.Load 3 2 ∷ actions.New 0 (codes "U") ∷ actions.New 3 (codes "None") ∷ []) ∷
            members.Method (Str (codes "take")) (actions.Load 1 2 ∷ actions.HasProperty (Reg 0) (Str (codes "f0")) ∷ actions.New 1 (codes "T") ∷ actions.New 1 (codes "T") ∷ actions.New 5 (codes "T") ∷ actions.New 2 (codes "T") ∷ actions.Window 3 ∷ actions.Load 2 3 ∷ actions.HasMethod (Reg 1) (Str (codes "m3")) ∷ []) ∷
            members.Method (Str (codes "m0")) (actions.New 3 (codes "Main") ∷ actions.New 5 (codes "U") ∷ actions.Invoke 1 (Reg 2) (Str (codes "m1")) (Reg 3 ∷ Reg 0 ∷ []) ∷ []) ∷
            members.Default [] ∷
            members.Method (Str (codes "m3")) (actions.SelfTo 2 ∷ actions.Load 1 2 ∷ actions.Load 2 1 ∷ actions.Load 1 3 ∷ actions.Note (Const (values.Int (pos 13))) ∷ []) ∷
            members.Method (Str (codes "m1")) (actions.Load 2 0 ∷ actions.New 3 (codes "U") ∷ actions.Note (Reg 0) ∷ actions.Window 1 ∷ actions.OnFalse 3 ∷ actions.Slot 3 (Const (values.Int (negsuc 0))) ∷ actions.SelfTo 1 ∷ actions.New 2 (codes "T") ∷ []) ∷
            members.Method (Str (codes "m2")) (actions.Drop 1 ∷ actions.Load 2 2 ∷ actions.RequestRead 2 (Const (values.Int (pos 1))) ((record { offset = negsuc 1; length = 2 }) ∷ []) ∷ actions.SelfTo 4 ∷ actions.HasMethod (Reg 1) (Str (codes "m0")) ∷ []) ∷ []);
      }) ∷
      (record {
        name = codes "T";
        version = 3;
        stored = false;
        members = (
            members.Method (Str (codes "m0")) (actions.SelfTo 2 ∷ actions.Invoke 2 (Reg 2) (IntKey (pos 4)) (Reg 0 ∷ Reg 0 ∷ Reg 0 ∷ []) ∷ actions.Invoke 2 (Reg 7) (Str (codes "m2")) (Reg 3 ∷ []) ∷ actions.Invoke 0 (Reg 0) (Str (codes "take")) (Const (values.Bool true) ∷ Const (values.Int (pos 14)) ∷ Reg 1 ∷ []) ∷ actions.Remove (Reg 4) (Str (codes "f0")) ∷ actions.New 2 (codes "T") ∷ actions.Invoke 2 (Reg 1) (Str (codes "take")) (Reg 4 ∷ Reg 0 ∷ []) ∷ []) ∷
            members.Method (Str (codes "m2")) [] ∷
            members.Method (Str (codes "m3")) [] ∷
            members.Method (Str (codes "take")) (actions.SelfTo 2 ∷ actions.New 2 (codes "T") ∷ actions.New 1 (codes "Main") ∷ actions.New 3 (codes "Main") ∷ []) ∷
            members.Method (Str (codes "m1")) [] ∷
            members.Method (IntKey (pos 4)) (actions.Load 1 2 ∷ actions.Load 3 1 ∷ actions.Slot 1 (Reg 0) ∷ actions.Window 3 ∷ []) ∷ []);
      }) ∷
      (record {
        name = codes "U";
        version = 3;
        stored = false;
        members = (
            members.Method (IntKey (pos 4)) (actions.Load 3 1 ∷ actions.Load 2 0 ∷ actions.New 0 (codes "T") ∷ actions.New 3 (codes "U") ∷ actions.New 4 (codes "T") ∷ actions.Put (Reg 0) (Str (codes "f0")) (Reg 3) ∷ actions.New 1 (codes "U") ∷ actions.Slot 0 (Reg 0) ∷ actions.Drop 0 ∷ []) ∷
            members.Method (Str (codes "take")) (actions.SelfTo 2 ∷ actions.Load 3 1 ∷ actions.New 5 (codes "U") ∷ actions.New 9 (codes "T") ∷ []) ∷
            members.Setter (Str (codes "f0")) (actions.Load 1 2 ∷ actions.SelfTo 2 ∷ actions.New 1 (codes "Main") ∷ actions.New 3 (codes "Main") ∷ actions.New 4 (codes "T") ∷ actions.New 0 (codes "Main") ∷ []) ∷
            members.Default (actions.Load 2 0 ∷ actions.Put (Reg 1) (Str (codes "f0")) (Reg 2) ∷ actions.Invoke 3 (Reg 3) (Str (codes "m1")) (Reg 3 ∷ Reg 1 ∷ Const (values.Int (pos 1)) ∷ []) ∷ []) ∷
            members.Method (Str (codes "m2")) (actions.Load 2 0 ∷ actions.SelfTo 2 ∷ actions.New 2 (codes "U") ∷ []) ∷
            members.Method (Str (codes "m0")) (actions.Load 3 1 ∷ actions.Add 2 (Reg 0) (Reg 3) ∷ []) ∷
            members.Construct (actions.SelfTo 2 ∷ actions.Window 1 ∷ actions.OnEq (Reg 2) (Reg 1) 2 ∷ actions.Invoke 0 (Reg 2) (IntKey (pos 4)) (Reg 0 ∷ Reg 3 ∷ Const (values.Text (codes "s")) ∷ []) ∷ actions.Drop 2 ∷ []) ∷ []);
      }) ∷ []);
  handlers = (
      (record { which = handlers.New; body = (actions.New 0 (codes "Main") ∷ actions.Slot 0 (Reg 0) ∷ actions.Window 1 ∷ actions.Slot 1 (Reg 1) ∷ []) }) ∷
      (record { which = handlers.Scriptable; body = (actions.Load 0 0 ∷ actions.Return (Reg 0) ∷ []) }) ∷
      (record { which = handlers.Destroy; body = (actions.Exit 44 ∷ actions.New 5 (codes "T") ∷ actions.SelfTo 2 ∷ actions.OnFalse 1 ∷ actions.Drop 0 ∷ []) }) ∷
      (record { which = handlers.NewStream; body = (actions.Load 3 2 ∷ actions.New 5 (codes "U") ∷ actions.New 3 (codes "T") ∷ actions.Put (Reg 0) (Str (codes "f1")) (Reg 0) ∷ actions.Window 1 ∷ actions.OnEq (Reg 0) (Const (values.Int (pos 1))) 1 ∷ actions.Return (Const (values.Int (pos 2))) ∷ actions.Return (Const (values.Int (pos 2))) ∷ []) }) ∷
      (record { which = handlers.Write; body = (actions.RequestRead 4 (Reg 0) ((record { offset = pos 0; length = 1 }) ∷ (record { offset = pos 2; length = 4294967295 }) ∷ (record { offset = pos 2; length = 9000 }) ∷ (record { offset = negsuc 0; length = 3 }) ∷ []) ∷ actions.Return (Const (values.Int (negsuc 4))) ∷ []) }) ∷
      (record { which = handlers.AsFile; body = [] }) ∷
      (record { which = handlers.DestroyStream; body = [] }) ∷
      (record { which = handlers.UrlNotify; body = (actions.Load 3 1 ∷ actions.Slot 0 (Reg 1) ∷ actions.Slot 0 (Reg 0) ∷ []) }) ∷ []);
  tasks = [];
}

-- the plug-in exits, and the page goes on alone
page-ends-alone : lost_outcome 1500 None page plugin ≡ record {
  page = (
      Created (record { side = sides.Page; instance = 1; serial = 1 }) ∷
      CommandResult 1 (results.Code NoError) ∷
      Created (record { side = sides.Page; instance = 1; serial = 2 }) ∷
      CommandResult 2 (results.Yes (values.Object (record { side = sides.Page; instance = 1; serial = 2 })) false) ∷
      CommandResult 3 results.No ∷
      CommandResult 4 results.No ∷
      Entered (record { side = sides.Page; instance = 1; serial = 2 }) (ops.Invoke (Str (codes "m3"))) ∷
      Created (record { side = sides.Page; instance = 1; serial = 3 }) ∷
      Deallocated (record { side = sides.Page; instance = 1; serial = 3 }) ∷
      CommandResult 5 (results.Yes values.Void false) ∷
      CommandResult 6 (results.Pumped 0) ∷
      CommandResult 7 results.No ∷
      CommandResult 8 results.No ∷
      CommandResult 9 (results.Yes values.Void false) ∷
      CommandResult 10 results.No ∷
      CommandResult 11 results.No ∷
      CommandResult 12 (results.Pumped 0) ∷
      CommandResult 13 (results.Pumped 0) ∷
      CommandResult 14 results.No ∷
      CommandResult 15 results.No ∷
      CommandResult 16 results.No ∷
      CommandResult 17 results.No ∷
      Invalidated (record { side = sides.Page; instance = 1; serial = 1 }) ∷
      Invalidated (record { side = sides.Page; instance = 1; serial = 2 }) ∷
      Deallocated (record { side = sides.Page; instance = 1; serial = 1 }) ∷
      Deallocated (record { side = sides.Page; instance = 1; serial = 2 }) ∷
      CommandResult 18 (results.Code Generic) ∷
      CommandResult 19 results.No ∷
      CommandResult 20 (results.Pumped 0) ∷ []);
  rests = true;
}
unfolding encoding digits is_text is_utf8 chars encode_utf8
page-ends-alone = refl

-- what the plug-in printed
plugin-exits : (outcome 1500 page plugin).plugin ≡ (
    HandlerRun 1 handlers.New ∷
    Created (record { side = sides.Plug; instance = 1; serial = 1 }) ∷
    HandlerRun 1 handlers.Destroy ∷ [])
unfolding encoding digits is_text is_utf8 chars encode_utf8
plugin-exits = refl

-- all bytes that the page sends
page-sends : page_bytes 1500 page plugin ≡ (0 ∷ 0 ∷ 0 ∷ 7 ∷ 1 ∷ 1 ∷ 0 ∷ 0 ∷ 1 ∷ 0 ∷ 27 ∷ 0 ∷ 0 ∷ 0 ∷ 12 ∷ 2 ∷ 1 ∷ 0 ∷ 0 ∷ 1 ∷ 1 ∷ 0 ∷ 3 ∷ 116 ∷ 47 ∷ 120 ∷ 0 ∷ 0 ∷ 0 ∷ 0 ∷ 11 ∷ 65 ∷ 2 ∷ 0 ∷ 0 ∷ 6 ∷ 0 ∷ 1 ∷ 0 ∷ 0 ∷ 0 ∷ 1 ∷ 0 ∷ 0 ∷ 0 ∷ 5 ∷ 3 ∷ 1 ∷ 0 ∷ 0 ∷ 1 ∷ [])
unfolding encoding digits is_text is_utf8 chars encode_utf8
page-sends = refl

-- all bytes that the plugin sends
plugin-sends : plugin_bytes 1500 page plugin ≡ (0 ∷ 0 ∷ 0 ∷ 5 ∷ 69 ∷ 1 ∷ 0 ∷ 0 ∷ 0 ∷ 0 ∷ 0 ∷ 0 ∷ 5 ∷ 32 ∷ 2 ∷ 0 ∷ 0 ∷ 1 ∷ 0 ∷ 0 ∷ 0 ∷ 5 ∷ 69 ∷ 1 ∷ 0 ∷ 0 ∷ 0 ∷ [])
unfolding encoding digits is_text is_utf8 chars encode_utf8
plugin-sends = refl
