-- Made by tools/vector-theorems of tests/vectors/lie-2.
use Rattle.std.proofs.Common.{◌≡◌, pos, List, [], ◌∷◌, refl, true, false, Some, None}
use Rattle.std.specs.Prelude.{codes}
use Rattle.std.specs.Char.{encode_utf8}
use Rattle.std.specs.Fmt.{digits}
use Rattle.std.specs.Str.{is_utf8, chars}
use Rattle.np_values.specs.declared.error.NpError.TheVariants.{NoError, InvalidInstance, ModuleLoadFailed}
use Rattle.np_values.specs.declared.name.Side.TheVariants as sides
use Rattle.np_values.specs.declared.value.Value.TheVariants as values
use Rattle.np_values.specs.Text.{is_text}
use Rattle.np_idents.specs.declared.key.IdKey.TheVariants.{Str, Int as IntKey}
use Rattle.np_script_grammar.specs.declared.action.Action.TheVariants as actions
use Rattle.np_script_grammar.specs.declared.action.Operand.TheVariants.{Reg, Const}
use Rattle.np_script_grammar.specs.declared.class.Member.TheVariants as members
use Rattle.np_script_grammar.specs.declared.command.Command.TheVariants as commands
use Rattle.np_script_grammar.specs.declared.page.Page.{Page}
use Rattle.np_message.specs.Encoding.{encoding}
use Rattle.np_message.specs.Message.{Message}
use Rattle.np_message.specs.declared.payload.Payload.TheVariants as payloads
use Rattle.np_journal.specs.declared.line.Line.TheVariants.{Created, Invalidated, Deallocated, CommandResult}
use Rattle.np_journal.specs.declared.printed.Printed.TheVariants as results
use Rattle.np_machine.specs.declared.refusal.Rule.TheVariants as rules
use Rattle.np_machine_plans.specs.Outcomes.{resource, page_outcome}

abbrev page : Page
page = record {
  major = 0;
  minor = 27;
  classes = (
      (record {
        name = codes "Window";
        version = 3;
        stored = false;
        members = (
            members.Method (Str (codes "m0")) [] ∷
            members.Method (Str (codes "m3")) (actions.Load 3 1 ∷ actions.Load 3 2 ∷ actions.Throw [] ∷ actions.Load 2 1 ∷ actions.Put (Reg 0) (Str (codes "f0")) (Reg 1) ∷ actions.New 0 (codes "None") ∷ []) ∷
            members.Method (Str (codes "m2")) (actions.SelfTo 2 ∷ actions.Load 2 0 ∷ actions.Put (Reg 2) (Str (codes "f1")) (Reg 2) ∷ actions.HasProperty (Reg 2) (Str (codes "f1")) ∷ actions.Load 2 2 ∷ actions.Drop 5 ∷ []) ∷
            members.Method (IntKey (pos 4)) (actions.Load 1 2 ∷ actions.Load 1 0 ∷ actions.Load 1 0 ∷ actions.HasProperty (Reg 2) (Str (codes "7")) ∷ []) ∷
            members.Method (Str (codes "m1")) (actions.Load 0 2 ∷ actions.New 2 (codes "A") ∷ actions.New 4 (codes "B") ∷ actions.Invoke 5 (Reg 2) (Str (codes "m2")) (Reg 3 ∷ Const (values.Text (codes "s")) ∷ Const (values.Int (pos 1)) ∷ []) ∷ actions.New 3 (codes "B") ∷ actions.Destroy 0 1 ∷ actions.CallDefault 2 (Reg 12) (Reg 0 ∷ []) ∷ []) ∷ []);
      }) ∷
      (record {
        name = codes "A";
        version = 1;
        stored = true;
        members = (
            members.Method (Str (codes "m1")) (actions.Load 1 2 ∷ actions.Load 2 0 ∷ actions.New 5 (codes "Window") ∷ actions.New 2 (codes "A") ∷ actions.SelfTo 2 ∷ []) ∷
            members.Method (Str (codes "m3")) (actions.Load 2 0 ∷ actions.Load 2 2 ∷ actions.New 4 (codes "B") ∷ actions.New 3 (codes "A") ∷ []) ∷
            members.Setter (Str (codes "f0")) (actions.Load 2 0 ∷ actions.Invoke 4 (Reg 2) (Str (codes "m0")) (Reg 3 ∷ Reg 2 ∷ Reg 2 ∷ []) ∷ []) ∷
            members.Method (Str (codes "take")) (actions.SelfTo 2 ∷ actions.New 3 (codes "A") ∷ actions.New 5 (codes "Window") ∷ actions.SelfTo 5 ∷ actions.New 4 (codes "A") ∷ actions.Load 0 3 ∷ actions.Drop 3 ∷ []) ∷
            members.Method (IntKey (pos 4)) (actions.Load 3 2 ∷ actions.New 1 (codes "B") ∷ actions.Put (Reg 1) (Str (codes "f0")) (Reg 4) ∷ actions.Put (Reg 1) (Str (codes "f1")) (Reg 1) ∷ actions.Slot 1 (Reg 1) ∷ actions.Enumerate 4 (Reg 1) ∷ []) ∷
            members.Method (Str (codes "m0")) (actions.Load 3 1 ∷ actions.SelfTo 2 ∷ actions.Return (Reg 1) ∷ []) ∷
            members.Method (Str (codes "m2")) (actions.Load 2 0 ∷ actions.Load 3 1 ∷ actions.Destroy 0 1 ∷ []) ∷ []);
      }) ∷
      (record {
        name = codes "B";
        version = 3;
        stored = false;
        members = (
            members.Getter (IntKey (pos 7)) (actions.Load 3 1 ∷ actions.SelfTo 2 ∷ actions.Drop 7 ∷ actions.Invoke 3 (Reg 0) (IntKey (pos 4)) (Reg 4 ∷ Reg 1 ∷ Reg 0 ∷ []) ∷ actions.New 0 (codes "B") ∷ actions.Slot 3 (Reg 1) ∷ []) ∷
            members.Method (Str (codes "take")) (actions.Load 2 0 ∷ actions.Load 0 3 ∷ actions.New 3 (codes "B") ∷ actions.Slot 1 (Reg 1) ∷ actions.New 4 (codes "B") ∷ actions.Note (Reg 1) ∷ actions.Note (Reg 0) ∷ []) ∷
            members.Method (Str (codes "m2")) (actions.Load 0 3 ∷ actions.Slot 3 (Reg 3) ∷ []) ∷
            members.Method (IntKey (pos 4)) [] ∷
            members.Setter (Str (codes "f0")) (actions.SelfTo 2 ∷ actions.Load 3 1 ∷ actions.New 2 (codes "B") ∷ actions.Invoke 2 (Reg 1) (Str (codes "m1")) [] ∷ actions.New 5 (codes "Window") ∷ actions.Destroy 3 2 ∷ actions.Load 0 0 ∷ []) ∷
            members.Method (Str (codes "m0")) (actions.New 1 (codes "Window") ∷ actions.New 5 (codes "Window") ∷ actions.New 3 (codes "Window") ∷ []) ∷
            members.Method (Str (codes "m1")) (actions.SelfTo 2 ∷ actions.Load 3 1 ∷ actions.OnFalse 1 ∷ actions.OnEq (Const (values.Bool false)) (Const (values.Int (pos 100))) 2 ∷ []) ∷
            members.Construct (actions.Load 3 2 ∷ actions.Invoke 2 (Reg 3) (Str (codes "take")) (Const values.Null ∷ Reg 1 ∷ Reg 5 ∷ []) ∷ actions.Load 2 1 ∷ actions.Slot 3 (Const (values.Text (codes "r"))) ∷ actions.Slot 3 (Reg 3) ∷ []) ∷ []);
      }) ∷ []);
  resources = (
      resource (codes "r") (codes "t/p") 2 (195 ∷ 164 ∷ 226 ∷ 130 ∷ 172 ∷ []) ∷
      resource (codes "s") (codes "t/p") 2 (120 ∷ 1 ∷ 34 ∷ []) ∷
      resource (codes "e") (codes "t/p") 0 (195 ∷ 164 ∷ []) ∷ []);
  commands = (
      commands.Create (codes "t/x") 1 [] ∷
      commands.Scriptable 0 1 ∷
      commands.New 2 1 (codes "B") ∷
      commands.New 3 1 (codes "A") ∷
      commands.OpenStream 1 (codes "s") ∷
      commands.Pump 3 ∷
      commands.Invoke 5 (Reg 3) (Str (codes "m0")) (Reg 1 ∷ Reg 3 ∷ Reg 0 ∷ []) ∷
      commands.Invoke 4 (Reg 1) (IntKey (pos 4)) (Reg 5 ∷ Reg 3 ∷ Reg 1 ∷ []) ∷
      commands.Pump 3 ∷
      commands.Invoke 5 (Reg 0) (Str (codes "m0")) (Reg 1 ∷ Reg 3 ∷ Reg 4 ∷ []) ∷
      commands.Create (codes "t/y") 2 [] ∷
      commands.Scriptable 2 2 ∷
      commands.Pump 6 ∷
      commands.Invoke 4 (Reg 3) (Str (codes "take")) (Reg 0 ∷ Reg 4 ∷ Reg 3 ∷ []) ∷
      commands.Set 3 (Reg 2) ∷
      commands.Pump 2 ∷
      commands.New 4 2 (codes "A") ∷
      commands.Put (Reg 2) (Str (codes "f0")) (Reg 4) ∷
      commands.New 4 2 (codes "A") ∷
      commands.Invoke 5 (Reg 2) (Str (codes "m2")) (Reg 4 ∷ []) ∷
      commands.New 4 2 (codes "B") ∷
      commands.Invoke 5 (Reg 2) (Str (codes "m2")) (Reg 4 ∷ []) ∷
      commands.Drop 4 ∷
      commands.Destroy 1 ∷
      commands.Pump 1 ∷
      commands.New 4 2 (codes "A") ∷
      commands.Invoke 5 (Reg 2) (Str (codes "m2")) (Reg 4 ∷ []) ∷
      commands.Drop 4 ∷
      commands.Pump 6 ∷
      commands.Invoke 2 (Reg 0) (IntKey (pos 4)) (Reg 0 ∷ Reg 5 ∷ Reg 3 ∷ []) ∷ []);
}

abbrev got-got : List Message
got-got = (
    (record { depth = record { level = 1; task = false }; releases = []; body = payloads.Code NoError }) ∷
    (record { depth = record { level = 2; task = false }; releases = []; body = payloads.Window 1 }) ∷
    (record { depth = record { level = 1; task = false }; releases = []; body = payloads.Code NoError }) ∷
    (record { depth = record { level = 1; task = false }; releases = []; body = payloads.False }) ∷
    (record { depth = record { level = 1; task = false }; releases = ((record { instance = 1; serial = 1; times = 1 }) ∷ []); body = payloads.Threw (codes "x") }) ∷ [])

-- the page with these messages
got : page_outcome 1500 page got-got ≡ record {
  refusal = Some (record { place = 4; rule = rules.Unmatched; first = 1; second = 1 });
  page = (
      Created (record { side = sides.Page; instance = 1; serial = 1 }) ∷
      CommandResult 1 (results.Code NoError) ∷
      CommandResult 2 results.No ∷
      Created (record { side = sides.Page; instance = 1; serial = 2 }) ∷
      CommandResult 3 (results.Yes (values.Object (record { side = sides.Page; instance = 1; serial = 2 })) false) ∷
      Created (record { side = sides.Page; instance = 1; serial = 3 }) ∷
      CommandResult 4 (results.Yes (values.Object (record { side = sides.Page; instance = 1; serial = 3 })) false) ∷
      CommandResult 5 (results.Code NoError) ∷
      Invalidated (record { side = sides.Page; instance = 1; serial = 1 }) ∷
      Invalidated (record { side = sides.Page; instance = 1; serial = 2 }) ∷
      Invalidated (record { side = sides.Page; instance = 1; serial = 3 }) ∷
      Deallocated (record { side = sides.Page; instance = 1; serial = 1 }) ∷
      Deallocated (record { side = sides.Page; instance = 1; serial = 2 }) ∷
      Deallocated (record { side = sides.Page; instance = 1; serial = 3 }) ∷
      CommandResult 6 (results.Pumped 0) ∷
      CommandResult 7 results.No ∷
      CommandResult 8 results.No ∷
      CommandResult 9 (results.Pumped 0) ∷
      CommandResult 10 results.No ∷
      CommandResult 11 (results.Code ModuleLoadFailed) ∷
      CommandResult 12 results.No ∷
      CommandResult 13 (results.Pumped 0) ∷
      CommandResult 14 results.No ∷
      CommandResult 15 (results.Yes values.Void false) ∷
      CommandResult 16 (results.Pumped 0) ∷
      CommandResult 17 results.No ∷
      CommandResult 18 results.No ∷
      CommandResult 19 results.No ∷
      CommandResult 20 results.No ∷
      CommandResult 21 results.No ∷
      CommandResult 22 results.No ∷
      CommandResult 23 (results.Yes values.Void false) ∷
      CommandResult 24 (results.Code InvalidInstance) ∷
      CommandResult 25 (results.Pumped 0) ∷
      CommandResult 26 results.No ∷
      CommandResult 27 results.No ∷
      CommandResult 28 (results.Yes values.Void false) ∷
      CommandResult 29 (results.Pumped 0) ∷
      CommandResult 30 results.No ∷ []);
}
unfolding encoding digits is_text is_utf8 chars encode_utf8
got = refl
