-- Made by tools/vector-theorems of tests/vectors/lie-10.
use Rattle.std.proofs.Common.{◌≡◌, pos, List, [], ◌∷◌, refl, true, false, Some, None}
use Rattle.std.specs.Prelude.{codes}
use Rattle.std.specs.Char.{encode_utf8}
use Rattle.std.specs.Fmt.{digits}
use Rattle.std.specs.Str.{is_utf8, chars}
use Rattle.np_values.specs.declared.error.NpError.TheVariants.{NoError, InvalidFunctable}
use Rattle.np_values.specs.declared.name.Side.TheVariants as sides
use Rattle.np_values.specs.declared.value.Value.TheVariants as values
use Rattle.np_values.specs.Text.{is_text}
use Rattle.np_idents.specs.declared.key.IdKey.TheVariants.{Str, Int as IntKey}
use Rattle.np_idents.specs.declared.op.Op.TheVariants as ops
use Rattle.np_script_grammar.specs.declared.action.Action.TheVariants as actions
use Rattle.np_script_grammar.specs.declared.action.Operand.TheVariants.{Reg, Const}
use Rattle.np_script_grammar.specs.declared.class.Member.TheVariants as members
use Rattle.np_script_grammar.specs.declared.command.Command.TheVariants as commands
use Rattle.np_script_grammar.specs.declared.page.Page.{Page}
use Rattle.np_message.specs.Encoding.{encoding}
use Rattle.np_message.specs.Message.{Message}
use Rattle.np_message.specs.declared.payload.Payload.TheVariants as payloads
use Rattle.np_journal.specs.declared.line.Line.TheVariants.{Created, Entered, ProxyGone, Invalidated, Deallocated, CommandResult}
use Rattle.np_journal.specs.declared.printed.Printed.TheVariants as results
use Rattle.np_machine.specs.declared.refusal.Rule.TheVariants as rules
use Rattle.np_machine_plans.specs.Outcomes.{resource, page_outcome}

abbrev page : Page
page = record {
  major = 0;
  minor = 27;
  classes = (
      (record {
        name = codes "Window";
        version = 2;
        stored = true;
        members = (
            members.Method (Str (codes "m3")) (actions.Load 2 0 ∷ actions.Load 1 2 ∷ actions.Invoke 1 (Reg 0) (Str (codes "take")) [] ∷ actions.New 1 (codes "B") ∷ actions.OnEq (Reg 3) (Const (values.Bool false)) 2 ∷ actions.Set 2 (Reg 3) ∷ actions.HasMethod (Reg 1) (Str (codes "take")) ∷ []) ∷
            members.Method (Str (codes "take")) (actions.SelfTo 2 ∷ actions.Load 2 0 ∷ actions.Invoke 0 (Reg 3) (Str (codes "none")) (Reg 3 ∷ Reg 0 ∷ []) ∷ actions.HasProperty (Reg 2) (Str (codes "f1")) ∷ actions.Destroy 3 2 ∷ actions.SelfTo 2 ∷ actions.Load 2 0 ∷ actions.Put (Reg 2) (Str (codes "f1")) (Reg 2) ∷ actions.Invoke 0 (Reg 0) (Str (codes "none")) (Reg 0 ∷ Reg 2 ∷ []) ∷ actions.Slot 3 (Reg 0) ∷ []) ∷
            members.Method (Str (codes "m1")) [] ∷
            members.Method (Str (codes "m0")) (actions.New 1 (codes "Window") ∷ actions.Note (Reg 0) ∷ actions.New 3 (codes "A") ∷ actions.New 4 (codes "B") ∷ actions.Invoke 3 (Reg 1) (Str (codes "m3")) (Reg 0 ∷ Reg 0 ∷ Reg 0 ∷ []) ∷ []) ∷
            members.Method (IntKey (pos 4)) (actions.Load 3 1 ∷ actions.Load 2 2 ∷ actions.Destroy 2 2 ∷ []) ∷
            members.Method (Str (codes "m2")) (actions.SelfTo 2 ∷ actions.Slot 1 (Reg 0) ∷ actions.New 3 (codes "Window") ∷ actions.Remove (Reg 2) (Str (codes "7")) ∷ actions.Load 1 1 ∷ actions.Destroy 1 1 ∷ actions.Invoke 4 (Reg 3) (IntKey (pos 4)) (Reg 2 ∷ Reg 2 ∷ Reg 4 ∷ []) ∷ []) ∷ []);
      }) ∷
      (record {
        name = codes "A";
        version = 3;
        stored = true;
        members = (
            members.Method (Str (codes "m2")) (actions.Load 2 1 ∷ []) ∷
            members.Method (Str (codes "m0")) (actions.Load 2 0 ∷ actions.Load 3 1 ∷ actions.Invoke 5 (Reg 5) (Str (codes "m2")) [] ∷ actions.Destroy 2 1 ∷ actions.New 3 (codes "Window") ∷ []) ∷
            members.Method (Str (codes "m3")) (actions.Destroy 1 2 ∷ actions.Invoke 2 (Reg 1) (IntKey (pos 4)) (Reg 3 ∷ Reg 1 ∷ []) ∷ actions.Note (Reg 0) ∷ []) ∷
            members.Method (Str (codes "take")) (actions.Load 0 2 ∷ actions.Load 3 1 ∷ actions.Note (Reg 3) ∷ actions.Invoke 0 (Reg 1) (Str (codes "none")) (Const values.Void ∷ Const (values.Text (codes "s")) ∷ Reg 2 ∷ []) ∷ actions.Load 3 2 ∷ actions.New 5 (codes "None") ∷ []) ∷
            members.Method (IntKey (pos 4)) (actions.New 3 (codes "Window") ∷ actions.New 1 (codes "Window") ∷ actions.Note (Reg 3) ∷ []) ∷ []);
      }) ∷
      (record {
        name = codes "B";
        version = 3;
        stored = true;
        members = (
            members.Method (Str (codes "m3")) (actions.New 2 (codes "B") ∷ actions.New 4 (codes "B") ∷ actions.New 3 (codes "A") ∷ actions.Load 1 3 ∷ []) ∷
            members.Default [] ∷
            members.Method (IntKey (pos 4)) (actions.New 2 (codes "Window") ∷ actions.Load 4 3 ∷ actions.New 1 (codes "B") ∷ actions.New 4 (codes "Window") ∷ actions.New 3 (codes "Window") ∷ actions.New 5 (codes "B") ∷ actions.Put (Reg 4) (Str (codes "f0")) (Reg 3) ∷ actions.Drop 5 ∷ actions.Return (Reg 5) ∷ []) ∷
            members.Method (Str (codes "m0")) (actions.New 4 (codes "Window") ∷ actions.Put (Reg 4) (Str (codes "f1")) (Reg 5) ∷ actions.New 5 (codes "A") ∷ actions.Put (Reg 4) (IntKey (pos 7)) (Reg 5) ∷ actions.Slot 3 (Reg 4) ∷ actions.Drop 4 ∷ []) ∷
            members.Method (Str (codes "m2")) (actions.Load 3 2 ∷ actions.Load 2 0 ∷ actions.Invoke 0 (Reg 0) (Str (codes "take")) (Reg 0 ∷ Const (values.Text []) ∷ Reg 3 ∷ []) ∷ actions.New 2 (codes "B") ∷ actions.New 2 (codes "A") ∷ actions.New 4 (codes "Window") ∷ actions.Put (Reg 2) (Str (codes "f0")) (Reg 1) ∷ actions.Put (Reg 2) (Str (codes "f1")) (Reg 2) ∷ actions.Slot 3 (Reg 2) ∷ actions.Enumerate 1 (Reg 2) ∷ []) ∷
            members.Method (Str (codes "m1")) (actions.SelfTo 2 ∷ actions.Load 0 2 ∷ actions.Slot 1 (Reg 1) ∷ actions.Load 0 1 ∷ actions.Destroy 0 2 ∷ actions.Invoke 2 (Reg 0) (Str (codes "take")) (Reg 3 ∷ Reg 6 ∷ Reg 0 ∷ []) ∷ []) ∷
            members.Method (Str (codes "take")) (actions.New 1 (codes "A") ∷ actions.New 5 (codes "B") ∷ actions.Destroy 0 2 ∷ actions.Load 2 0 ∷ actions.SelfTo 2 ∷ actions.New 4 (codes "B") ∷ actions.Load 3 1 ∷ actions.New 0 (codes "A") ∷ actions.Put (Reg 0) (Str (codes "f0")) (Reg 1) ∷ actions.Put (Reg 0) (Str (codes "f1")) (Reg 0) ∷ actions.Slot 1 (Reg 0) ∷ actions.Enumerate 1 (Reg 0) ∷ []) ∷ []);
      }) ∷ []);
  resources = (
      resource (codes "r") (codes "t/p") 1 (120 ∷ 1 ∷ 34 ∷ []) ∷
      resource (codes "s") (codes "t/p") 1 (codes "0123456789") ∷
      resource (codes "e") (codes "t/p") 0 (codes "0123456789") ∷ []);
  commands = (
      commands.Create (codes "t/x") 2 [] ∷
      commands.Scriptable 0 1 ∷
      commands.New 2 1 (codes "Window") ∷
      commands.New 3 1 (codes "A") ∷
      commands.Invoke 1 (Reg 1) (Str (codes "take")) (Reg 3 ∷ Const (values.Int (pos 0)) ∷ Const (values.Text (codes "s")) ∷ []) ∷
      commands.Drop 0 ∷
      commands.Get 0 (Reg 2) (Str (codes "f1")) ∷
      commands.Drop 3 ∷
      commands.Scriptable 2 1 ∷
      commands.Invoke 4 (Reg 3) (Str (codes "m0")) (Reg 0 ∷ Reg 3 ∷ Reg 4 ∷ []) ∷
      commands.Invoke 4 (Reg 2) (Str (codes "m0")) (Reg 3 ∷ Reg 0 ∷ Reg 1 ∷ []) ∷
      commands.Invoke 5 (Reg 0) (Str (codes "m2")) (Reg 5 ∷ []) ∷
      commands.Drop 5 ∷
      commands.Invoke 4 (Reg 0) (Str (codes "m1")) (Reg 0 ∷ []) ∷
      commands.Invoke 4 (Reg 3) (Str (codes "m3")) (Reg 5 ∷ Reg 4 ∷ Reg 1 ∷ []) ∷
      commands.Invoke 4 (Reg 2) (Str (codes "m2")) (Reg 0 ∷ Reg 5 ∷ Reg 1 ∷ []) ∷
      commands.Invoke 5 (Reg 2) (Str (codes "take")) [] ∷
      commands.Turn ∷
      commands.Invoke 0 (Reg 3) (Str (codes "m2")) (Reg 0 ∷ Reg 1 ∷ Reg 2 ∷ []) ∷
      commands.Turn ∷ []);
}

abbrev got-got : List Message
got-got = (
    (record { depth = record { level = 1; task = false }; releases = []; body = payloads.Code NoError }) ∷
    (record { depth = record { level = 2; task = false }; releases = []; body = payloads.Window 1 }) ∷
    (record { depth = record { level = 1; task = false }; releases = []; body = payloads.Code NoError }) ∷
    (record { depth = record { level = 2; task = false }; releases = []; body = payloads.Call 1 1 (ops.Invoke (IntKey (pos 4))) (values.Object (record { side = sides.Plug; instance = 1; serial = 2 }) ∷ []) }) ∷
    (record { depth = record { level = 1; task = false }; releases = []; body = payloads.True (values.Object (record { side = sides.Plug; instance = 1; serial = 1 })) }) ∷
    (record { depth = record { level = 2; task = false }; releases = []; body = payloads.Call 1 1 (ops.Invoke (IntKey (pos 4))) (values.Object (record { side = sides.Plug; instance = 1; serial = 4 }) ∷ []) }) ∷
    (record { depth = record { level = 1; task = false }; releases = []; body = payloads.True (values.Object (record { side = sides.Plug; instance = 1; serial = 1 })) }) ∷
    (record { depth = record { level = 2; task = false }; releases = []; body = payloads.Window 1 }) ∷
    (record { depth = record { level = 1; task = false }; releases = []; body = payloads.True values.Void }) ∷
    (record { depth = record { level = 1; task = false }; releases = []; body = payloads.True values.Void }) ∷
    (record { depth = record { level = 1; task = false }; releases = []; body = payloads.True values.Void }) ∷
    (record { depth = record { level = 1; task = true }; releases = []; body = payloads.Window 1 }) ∷
    (record { depth = record { level = 1; task = true }; releases = ((record { instance = 1; serial = 1; times = 2 }) ∷ []); body = payloads.GetUrl 2 (codes "r") (pos 3) }) ∷
    (record { depth = record { level = 1; task = false }; releases = []; body = payloads.Done }) ∷
    (record { depth = record { level = 1; task = true }; releases = []; body = payloads.Call 1 1 (ops.Invoke (Str (codes "take"))) (values.Void ∷ values.Void ∷ []) }) ∷
    (record { depth = record { level = 1; task = false }; releases = []; body = payloads.Done }) ∷
    (record { depth = record { level = 1; task = true }; releases = ((record { instance = 1; serial = 1; times = 3 }) ∷ []); body = payloads.Window 1 }) ∷
    (record { depth = record { level = 1; task = false }; releases = []; body = payloads.Code InvalidFunctable }) ∷
    (record { depth = record { level = 1; task = false }; releases = []; body = payloads.Done }) ∷ [])

-- the page with these messages
got : page_outcome 1500 page got-got ≡ record {
  refusal = Some (record { place = 12; rule = rules.WrongKind; first = 33; second = 2 });
  page = (
      Created (record { side = sides.Page; instance = 1; serial = 1 }) ∷
      CommandResult 1 (results.Code NoError) ∷
      Entered (record { side = sides.Page; instance = 1; serial = 1 }) (ops.Invoke (IntKey (pos 4))) ∷
      CommandResult 2 (results.Yes (values.Object (record { side = sides.Plug; instance = 1; serial = 1 })) false) ∷
      Created (record { side = sides.Page; instance = 1; serial = 2 }) ∷
      CommandResult 3 (results.Yes (values.Object (record { side = sides.Page; instance = 1; serial = 2 })) false) ∷
      Created (record { side = sides.Page; instance = 1; serial = 3 }) ∷
      CommandResult 4 (results.Yes (values.Object (record { side = sides.Page; instance = 1; serial = 3 })) false) ∷
      CommandResult 5 results.No ∷
      CommandResult 6 (results.Yes values.Void false) ∷
      Entered (record { side = sides.Page; instance = 1; serial = 2 }) (ops.Get (Str (codes "f1"))) ∷
      CommandResult 7 results.No ∷
      Deallocated (record { side = sides.Page; instance = 1; serial = 3 }) ∷
      CommandResult 8 (results.Yes values.Void false) ∷
      Entered (record { side = sides.Page; instance = 1; serial = 1 }) (ops.Invoke (IntKey (pos 4))) ∷
      Deallocated (record { side = sides.Page; instance = 1; serial = 2 }) ∷
      CommandResult 9 (results.Yes (values.Object (record { side = sides.Plug; instance = 1; serial = 1 })) false) ∷
      CommandResult 10 results.No ∷
      CommandResult 11 (results.Yes values.Void false) ∷
      CommandResult 12 results.No ∷
      CommandResult 13 (results.Yes values.Void false) ∷
      CommandResult 14 results.No ∷
      CommandResult 15 results.No ∷
      CommandResult 16 (results.Yes values.Void false) ∷
      CommandResult 17 (results.Yes values.Void false) ∷
      ProxyGone (record { side = sides.Plug; instance = 1; serial = 1 }) ∷
      Invalidated (record { side = sides.Page; instance = 1; serial = 1 }) ∷
      Deallocated (record { side = sides.Page; instance = 1; serial = 1 }) ∷
      CommandResult 18 results.No ∷
      CommandResult 19 results.No ∷
      CommandResult 20 results.No ∷ []);
}
unfolding encoding digits is_text is_utf8 chars encode_utf8
got = refl
