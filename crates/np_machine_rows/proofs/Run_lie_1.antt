-- Made by tools/vector-theorems of tests/vectors/lie-1.
use Rattle.std.proofs.Common.{◌≡◌, pos, negsuc, List, [], ◌∷◌, refl, true, false, None}
use Rattle.std.specs.Prelude.{codes}
use Rattle.std.specs.Char.{encode_utf8}
use Rattle.std.specs.Fmt.{digits}
use Rattle.std.specs.Str.{is_utf8, chars}
use Rattle.np_values.specs.declared.error.NpError.TheVariants.{NoError}
use Rattle.np_values.specs.declared.name.Side.TheVariants as sides
use Rattle.np_values.specs.declared.value.Value.TheVariants as values
use Rattle.np_values.specs.Text.{is_text}
use Rattle.np_idents.specs.declared.key.IdKey.TheVariants.{Str, Int as IntKey}
use Rattle.np_idents.specs.declared.op.Op.TheVariants as ops
use Rattle.np_script_grammar.specs.declared.action.Action.TheVariants as actions
use Rattle.np_script_grammar.specs.declared.action.Operand.TheVariants.{Reg, Const}
use Rattle.np_script_grammar.specs.declared.class.Member.TheVariants as members
use Rattle.np_script_grammar.specs.declared.command.Command.TheVariants as commands
use Rattle.np_script_grammar.specs.declared.page.Page.{Page}
use Rattle.np_message.specs.Encoding.{encoding}
use Rattle.np_message.specs.Message.{Message}
use Rattle.np_message.specs.declared.payload.Payload.TheVariants as payloads
use Rattle.np_journal.specs.declared.line.Line.TheVariants.{Created, Entered, Invalidated, Deallocated, CommandResult}
use Rattle.np_journal.specs.declared.printed.Printed.TheVariants as results
use Rattle.np_machine_plans.specs.Outcomes.{resource, page_outcome}

abbrev page : Page
page = record {
  major = 0;
  minor = 27;
  classes = (
      (record {
        name = codes "Window";
        version = 3;
        stored = true;
        members = (
            members.Method (IntKey (pos 4)) (actions.SelfTo 2 ∷ actions.Load 3 1 ∷ actions.New 2 (codes "Window") ∷ actions.New 1 (codes "Window") ∷ []) ∷
            members.Method (Str (codes "m1")) (actions.Load 3 1 ∷ actions.Slot 2 (Reg 2) ∷ actions.Get 1 (Reg 1) (Str (codes "f1")) ∷ actions.Load 1 2 ∷ actions.OnFalse 3 ∷ actions.Invoke 2 (Reg 1) (IntKey (pos 4)) (Const (values.Int (pos 1)) ∷ Reg 3 ∷ Reg 5 ∷ []) ∷ actions.Load 1 0 ∷ []) ∷
            members.Method (Str (codes "m2")) (actions.Slot 0 (Reg 2) ∷ actions.Load 2 1 ∷ actions.Invoke 1 (Reg 0) (Str (codes "m3")) (Const (values.Int (negsuc 2147483647)) ∷ []) ∷ actions.SelfTo 2 ∷ []) ∷
            members.Method (Str (codes "m3")) (actions.Load 2 0 ∷ actions.Load 3 1 ∷ actions.SelfTo 3 ∷ actions.Load 1 2 ∷ actions.Invoke 2 (Reg 0) (Str (codes "take")) [] ∷ []) ∷
            members.Method (Str (codes "m0")) (actions.Load 2 0 ∷ actions.Load 3 1 ∷ actions.Put (Reg 1) (Str (codes "f0")) (Reg 3) ∷ actions.New 5 (codes "A") ∷ actions.New 2 (codes "A") ∷ actions.New 3 (codes "B") ∷ actions.Load 3 1 ∷ actions.Load 0 3 ∷ actions.Add 3 (Reg 1) (Reg 2) ∷ actions.Invoke 0 (Reg 3) (Str (codes "m1")) (Reg 0 ∷ Reg 2 ∷ Reg 3 ∷ []) ∷ actions.Add 0 (Reg 2) (Reg 0) ∷ actions.Invoke 3 (Reg 2) (Str (codes "m3")) (Const (values.Int (pos 100)) ∷ []) ∷ actions.CallDefault 1 (Reg 3) (Reg 0 ∷ []) ∷ []) ∷
            members.Method (Str (codes "take")) (actions.Load 2 2 ∷ actions.Load 3 1 ∷ actions.Slot 0 (Reg 0) ∷ actions.Drop 3 ∷ []) ∷ []);
      }) ∷
      (record {
        name = codes "A";
        version = 3;
        stored = true;
        members = (
            members.Method (Str (codes "m1")) (actions.Load 2 0 ∷ actions.Load 1 2 ∷ actions.OnTrue 2 ∷ actions.New 4 (codes "Window") ∷ actions.New 5 (codes "A") ∷ actions.Slot 3 (Reg 2) ∷ actions.New 3 (codes "B") ∷ actions.Return (Reg 0) ∷ actions.Add 1 (Const values.Void) (Reg 3) ∷ actions.Slot 2 (Reg 2) ∷ actions.Load 1 1 ∷ actions.Put (Reg 1) (Str (codes "f0")) (Reg 2) ∷ []) ∷
            members.Method (Str (codes "m2")) (actions.SelfTo 2 ∷ actions.Load 3 1 ∷ actions.Load 1 3 ∷ actions.New 2 (codes "B") ∷ actions.New 3 (codes "A") ∷ actions.Invoke 1 (Reg 0) (Str (codes "m3")) (Reg 0 ∷ Reg 1 ∷ []) ∷ actions.New 5 (codes "Window") ∷ actions.Remove (Reg 3) (Str (codes "f0")) ∷ actions.Load 0 2 ∷ actions.OnFalse 3 ∷ actions.Load 2 2 ∷ []) ∷
            members.Method (Str (codes "take")) (actions.Load 1 2 ∷ actions.New 5 (codes "A") ∷ actions.Put (Reg 3) (Str (codes "f1")) (Reg 1) ∷ actions.Destroy 0 1 ∷ actions.Load 3 1 ∷ actions.New 4 (codes "A") ∷ actions.New 3 (codes "B") ∷ actions.New 5 (codes "A") ∷ []) ∷
            members.Method (Str (codes "m3")) (actions.Load 3 1 ∷ actions.New 2 (codes "B") ∷ actions.New 1 (codes "Window") ∷ actions.New 5 (codes "B") ∷ actions.Get 3 (Reg 0) (Str (codes "f0")) ∷ []) ∷
            members.Method (Str (codes "m0")) (actions.Load 2 0 ∷ actions.Construct 1 (Reg 4) (Reg 2 ∷ Reg 0 ∷ Reg 2 ∷ []) ∷ actions.New 5 (codes "A") ∷ actions.Load 10 0 ∷ actions.Slot 1 (Reg 1) ∷ []) ∷
            members.Method (IntKey (pos 4)) (actions.Load 3 1 ∷ actions.SelfTo 2 ∷ actions.New 1 (codes "B") ∷ []) ∷
            members.Construct (actions.Load 2 0 ∷ actions.Load 2 2 ∷ actions.New 1 (codes "A") ∷ actions.New 2 (codes "B") ∷ []) ∷ []);
      }) ∷
      (record {
        name = codes "B";
        version = 2;
        stored = true;
        members = (
            members.Method (Str (codes "m1")) (actions.Load 1 2 ∷ actions.New 2 (codes "A") ∷ []) ∷
            members.Method (IntKey (pos 4)) (actions.Load 3 1 ∷ actions.SelfTo 2 ∷ actions.New 4 (codes "B") ∷ actions.Invoke 3 (Reg 1) (Str (codes "take")) (Reg 2 ∷ Const (values.Int (pos 100)) ∷ []) ∷ []) ∷
            members.Method (Str (codes "m2")) (actions.Load 3 2 ∷ actions.Load 2 0 ∷ actions.CallDefault 3 (Reg 1) (Const (values.Bool true) ∷ Reg 2 ∷ Reg 3 ∷ []) ∷ actions.Load 1 0 ∷ actions.Load 1 3 ∷ actions.New 3 (codes "A") ∷ actions.New 2 (codes "B") ∷ actions.Put (Reg 3) (Str (codes "f0")) (Reg 4) ∷ actions.Return (Reg 3) ∷ actions.Load 1 2 ∷ actions.Invoke 2 (Reg 3) (Str (codes "m1")) (Reg 0 ∷ []) ∷ actions.Put (Reg 3) (Str (codes "f0")) (Reg 1) ∷ []) ∷
            members.Method (Str (codes "m3")) (actions.Load 2 2 ∷ actions.SelfTo 2 ∷ actions.Invoke 0 (Reg 3) (IntKey (pos 4)) (Reg 2 ∷ []) ∷ actions.Invoke 2 (Reg 0) (IntKey (pos 4)) (Reg 1 ∷ Reg 7 ∷ Const (values.Bool true) ∷ []) ∷ actions.Add 1 (Reg 2) (Const (values.Int (pos 14))) ∷ actions.Load 2 3 ∷ actions.New 3 (codes "Window") ∷ actions.Put (Reg 3) (Str (codes "f0")) (Reg 1) ∷ actions.Return (Reg 3) ∷ actions.Slot 1 (Reg 1) ∷ []) ∷
            members.Method (Str (codes "m0")) (actions.New 1 (codes "Window") ∷ actions.New 3 (codes "B") ∷ []) ∷
            members.Getter (Str (codes "f1")) (actions.New 2 (codes "B") ∷ actions.Drop 4 ∷ actions.New 3 (codes "Window") ∷ actions.Load 3 3 ∷ actions.Load 2 1 ∷ actions.Invoke 1 (Reg 2) (Str (codes "take")) (Reg 0 ∷ Reg 2 ∷ Reg 3 ∷ []) ∷ actions.Load 0 1 ∷ actions.HasMethod (Reg 1) (Str (codes "m2")) ∷ actions.Slot 0 (Const (values.Text (codes "s"))) ∷ actions.New 0 (codes "B") ∷ []) ∷
            members.Construct (actions.Load 1 2 ∷ actions.Load 3 1 ∷ actions.New 4 (codes "A") ∷ actions.Invoke 2 (Reg 0) (IntKey (pos 4)) (Reg 0 ∷ Reg 3 ∷ Reg 0 ∷ []) ∷ actions.Load 0 0 ∷ actions.New 5 (codes "A") ∷ actions.Slot 1 (Reg 0) ∷ actions.Put (Reg 3) (Str (codes "f1")) (Reg 10) ∷ actions.New 5 (codes "B") ∷ []) ∷
            members.Method (Str (codes "take")) (actions.Load 3 1 ∷ actions.New 2 (codes "B") ∷ actions.New 5 (codes "A") ∷ actions.New 1 (codes "B") ∷ actions.Load 1 0 ∷ []) ∷ []);
      }) ∷ []);
  resources = (
      resource (codes "r") (codes "t/p") 2 (codes "abc") ∷
      resource (codes "e") (codes "t/p") 0 (120 ∷ 1 ∷ 34 ∷ []) ∷ []);
  commands = (
      commands.Create (codes "t/x") 1 [] ∷
      commands.Scriptable 0 1 ∷
      commands.Create (codes "t/x") 1 [] ∷
      commands.Scriptable 1 2 ∷
      commands.New 2 1 (codes "B") ∷
      commands.New 3 2 (codes "Window") ∷
      commands.Invoke 4 (Reg 1) (Str (codes "m2")) (Reg 0 ∷ Reg 1 ∷ []) ∷
      commands.Invoke 5 (Reg 1) (Str (codes "m2")) (Reg 4 ∷ []) ∷
      commands.Drop 4 ∷
      commands.Invoke 4 (Reg 1) (IntKey (pos 4)) (Reg 3 ∷ Reg 4 ∷ Reg 0 ∷ []) ∷
      commands.Invoke 4 (Reg 4) (Str (codes "m1")) [] ∷
      commands.Invoke 4 (Reg 2) (Str (codes "take")) (Reg 3 ∷ Reg 1 ∷ Reg 5 ∷ []) ∷
      commands.Invoke 4 (Reg 2) (IntKey (pos 4)) (Reg 3 ∷ Reg 3 ∷ Reg 3 ∷ []) ∷
      commands.Invoke 4 (Reg 1) (IntKey (pos 4)) (Reg 4 ∷ Reg 1 ∷ Reg 5 ∷ []) ∷
      commands.Invoke 3 (Reg 0) (Str (codes "m1")) (Reg 2 ∷ Reg 3 ∷ Const (values.Int (pos 13)) ∷ []) ∷
      commands.Turn ∷
      commands.Invoke 1 (Reg 4) (Str (codes "m0")) (Reg 1 ∷ Reg 0 ∷ Reg 0 ∷ []) ∷
      commands.Invoke 5 (Reg 0) (Str (codes "m0")) (Const values.Null ∷ Reg 2 ∷ Reg 0 ∷ []) ∷
      commands.Invoke 4 (Reg 4) (Str (codes "m3")) (Reg 3 ∷ Const (values.Text []) ∷ Reg 2 ∷ []) ∷
      commands.Invoke 2 (Reg 2) (Str (codes "take")) (Reg 1 ∷ Reg 3 ∷ Reg 4 ∷ []) ∷
      commands.Invoke 5 (Reg 0) (Str (codes "m2")) (Reg 1 ∷ Reg 5 ∷ Reg 2 ∷ []) ∷
      commands.Invoke 4 (Reg 1) (Str (codes "m0")) (Const (values.Text (codes "r")) ∷ []) ∷
      commands.Invoke 5 (Reg 1) (Str (codes "m2")) (Const (values.Double (0 ∷ 1 ∷ 2 ∷ 3 ∷ 4 ∷ 5 ∷ 6 ∷ 7 ∷ [])) ∷ Reg 2 ∷ []) ∷
      commands.Create (codes "t/y") 2 [] ∷
      commands.Scriptable 0 3 ∷
      commands.Invoke 5 (Reg 1) (Str (codes "m0")) (Reg 4 ∷ Reg 1 ∷ Reg 5 ∷ []) ∷
      commands.Invoke 5 (Reg 3) (Str (codes "take")) (Reg 3 ∷ Reg 1 ∷ Reg 5 ∷ []) ∷
      commands.Turn ∷
      commands.Turn ∷
      commands.Get 3 (Reg 0) (Str (codes "f1")) ∷
      commands.Invoke 4 (Reg 3) (Str (codes "take")) (Reg 4 ∷ Reg 3 ∷ Reg 0 ∷ []) ∷ []);
}

abbrev got-got : List Message
got-got = (
    (record { depth = record { level = 1; task = false }; releases = []; body = payloads.Code NoError }) ∷
    (record { depth = record { level = 2; task = false }; releases = []; body = payloads.Window 1 }) ∷
    (record { depth = record { level = 1; task = false }; releases = []; body = payloads.Code NoError }) ∷
    (record { depth = record { level = 1; task = false }; releases = []; body = payloads.False }) ∷
    (record { depth = record { level = 2; task = false }; releases = ((record { instance = 1; serial = 1; times = 1 }) ∷ []); body = payloads.Window 2 }) ∷
    (record { depth = record { level = 1; task = false }; releases = []; body = payloads.Code NoError }) ∷
    (record { depth = record { level = 1; task = false }; releases = []; body = payloads.False }) ∷
    (record { depth = record { level = 1; task = false }; releases = []; body = payloads.Done }) ∷
    (record { depth = record { level = 2; task = false }; releases = []; body = payloads.Window 3 }) ∷
    (record { depth = record { level = 1; task = false }; releases = []; body = payloads.Code NoError }) ∷
    (record { depth = record { level = 1; task = false }; releases = []; body = payloads.False }) ∷
    (record { depth = record { level = 1; task = false }; releases = []; body = payloads.Done }) ∷
    (record { depth = record { level = 1; task = false }; releases = []; body = payloads.Done }) ∷
    (record { depth = record { level = 1; task = false }; releases = []; body = payloads.Code NoError }) ∷
    (record { depth = record { level = 1; task = false }; releases = []; body = payloads.Code NoError }) ∷
    (record { depth = record { level = 1; task = false }; releases = []; body = payloads.Code NoError }) ∷
    (record { depth = record { level = 1; task = false }; releases = []; body = payloads.Done }) ∷ [])

-- the page with these messages
got : page_outcome 1500 page got-got ≡ record {
  refusal = None;
  page = (
      Created (record { side = sides.Page; instance = 1; serial = 1 }) ∷
      CommandResult 1 (results.Code NoError) ∷
      CommandResult 2 results.No ∷
      Created (record { side = sides.Page; instance = 2; serial = 1 }) ∷
      CommandResult 3 (results.Code NoError) ∷
      CommandResult 4 results.No ∷
      Created (record { side = sides.Page; instance = 1; serial = 2 }) ∷
      CommandResult 5 (results.Yes (values.Object (record { side = sides.Page; instance = 1; serial = 2 })) false) ∷
      Created (record { side = sides.Page; instance = 2; serial = 2 }) ∷
      CommandResult 6 (results.Yes (values.Object (record { side = sides.Page; instance = 2; serial = 2 })) false) ∷
      CommandResult 7 results.No ∷
      CommandResult 8 results.No ∷
      CommandResult 9 (results.Yes values.Void false) ∷
      CommandResult 10 results.No ∷
      CommandResult 11 results.No ∷
      Entered (record { side = sides.Page; instance = 1; serial = 2 }) (ops.Invoke (Str (codes "take"))) ∷
      Created (record { side = sides.Page; instance = 1; serial = 3 }) ∷
      Created (record { side = sides.Page; instance = 1; serial = 4 }) ∷
      Created (record { side = sides.Page; instance = 1; serial = 5 }) ∷
      Deallocated (record { side = sides.Page; instance = 1; serial = 5 }) ∷
      Deallocated (record { side = sides.Page; instance = 1; serial = 3 }) ∷
      Deallocated (record { side = sides.Page; instance = 1; serial = 4 }) ∷
      CommandResult 12 (results.Yes values.Void false) ∷
      Entered (record { side = sides.Page; instance = 1; serial = 2 }) (ops.Invoke (IntKey (pos 4))) ∷
      Created (record { side = sides.Page; instance = 1; serial = 6 }) ∷
      Entered (record { side = sides.Page; instance = 2; serial = 2 }) (ops.Invoke (Str (codes "take"))) ∷
      Deallocated (record { side = sides.Page; instance = 1; serial = 6 }) ∷
      CommandResult 13 (results.Yes values.Void false) ∷
      CommandResult 14 results.No ∷
      Deallocated (record { side = sides.Page; instance = 2; serial = 2 }) ∷
      CommandResult 15 results.No ∷
      CommandResult 16 (results.Yes values.Void false) ∷
      CommandResult 17 results.No ∷
      CommandResult 18 results.No ∷
      CommandResult 19 results.No ∷
      Entered (record { side = sides.Page; instance = 1; serial = 2 }) (ops.Invoke (Str (codes "take"))) ∷
      Created (record { side = sides.Page; instance = 1; serial = 7 }) ∷
      Created (record { side = sides.Page; instance = 1; serial = 8 }) ∷
      Created (record { side = sides.Page; instance = 1; serial = 9 }) ∷
      Deallocated (record { side = sides.Page; instance = 1; serial = 9 }) ∷
      Deallocated (record { side = sides.Page; instance = 1; serial = 7 }) ∷
      Deallocated (record { side = sides.Page; instance = 1; serial = 8 }) ∷
      CommandResult 20 (results.Yes values.Void false) ∷
      CommandResult 21 results.No ∷
      CommandResult 22 results.No ∷
      CommandResult 23 results.No ∷
      Created (record { side = sides.Page; instance = 3; serial = 1 }) ∷
      CommandResult 24 (results.Code NoError) ∷
      CommandResult 25 results.No ∷
      CommandResult 26 results.No ∷
      CommandResult 27 results.No ∷
      CommandResult 28 (results.Yes values.Void false) ∷
      CommandResult 29 (results.Yes values.Void false) ∷
      CommandResult 30 results.No ∷
      CommandResult 31 results.No ∷
      Invalidated (record { side = sides.Page; instance = 1; serial = 1 }) ∷
      Invalidated (record { side = sides.Page; instance = 1; serial = 2 }) ∷
      Deallocated (record { side = sides.Page; instance = 1; serial = 1 }) ∷
      Deallocated (record { side = sides.Page; instance = 1; serial = 2 }) ∷
      Invalidated (record { side = sides.Page; instance = 2; serial = 1 }) ∷
      Deallocated (record { side = sides.Page; instance = 2; serial = 1 }) ∷
      Invalidated (record { side = sides.Page; instance = 3; serial = 1 }) ∷
      Deallocated (record { side = sides.Page; instance = 3; serial = 1 }) ∷ []);
}
unfolding encoding digits is_text is_utf8 chars encode_utf8
got = refl
