-- Made by tools/vector-theorems of tests/vectors/lie-11.
use Rattle.std.proofs.Common.{◌≡◌, pos, List, [], ◌∷◌, refl, true, false, Some}
use Rattle.std.specs.Prelude.{codes}
use Rattle.std.specs.Char.{encode_utf8}
use Rattle.std.specs.Fmt.{digits}
use Rattle.std.specs.Str.{is_utf8, chars}
use Rattle.np_values.specs.declared.error.NpError.TheVariants.{NoError, InvalidInstance, ModuleLoadFailed}
use Rattle.np_values.specs.declared.name.Side.TheVariants as sides
use Rattle.np_values.specs.declared.value.Value.TheVariants as values
use Rattle.np_values.specs.Text.{is_text}
use Rattle.np_idents.specs.declared.key.IdKey.TheVariants.{Str, Int as IntKey}
use Rattle.np_idents.specs.declared.op.Op.TheVariants as ops
use Rattle.np_script_grammar.specs.declared.action.Action.TheVariants as actions
use Rattle.np_script_grammar.specs.declared.action.Operand.TheVariants.{Reg, Const}
use Rattle.np_script_grammar.specs.declared.class.Member.TheVariants as members
use Rattle.np_script_grammar.specs.declared.command.Command.TheVariants as commands
use Rattle.np_script_grammar.specs.declared.page.Page.{Page}
use Rattle.np_message.specs.Encoding.{encoding}
use Rattle.np_message.specs.Message.{Message}
use Rattle.np_message.specs.declared.payload.Payload.TheVariants as payloads
use Rattle.np_journal.specs.declared.line.Line.TheVariants.{Created, Entered, Invalidated, Deallocated, Noted, StreamAnswered, CommandResult}
use Rattle.np_journal.specs.declared.printed.Printed.TheVariants as results
use Rattle.np_journal.specs.declared.streamed.Streamed.TheVariants as streams
use Rattle.np_machine.specs.declared.refusal.Rule.TheVariants as rules
use Rattle.np_machine_plans.specs.Outcomes.{resource, page_outcome}

abbrev page : Page
page = record {
  major = 0;
  minor = 27;
  classes = (
      (record {
        name = codes "Window";
        version = 3;
        stored = false;
        members = (
            members.Method (Str (codes "m0")) (actions.Load 3 1 ∷ actions.SelfTo 2 ∷ actions.Slot 0 (Reg 2) ∷ actions.New 0 (codes "Window") ∷ actions.New 0 (codes "B") ∷ []) ∷
            members.Method (Str (codes "m3")) (actions.SelfTo 2 ∷ actions.Load 3 1 ∷ actions.New 2 (codes "B") ∷ actions.Put (Reg 2) (Str (codes "f0")) (Reg 3) ∷ actions.Put (Reg 2) (Str (codes "f1")) (Reg 2) ∷ actions.Slot 1 (Reg 2) ∷ actions.Enumerate 3 (Reg 2) ∷ []) ∷
            members.Method (IntKey (pos 4)) (actions.SelfTo 2 ∷ actions.Put (Reg 1) (Str (codes "f0")) (Reg 0) ∷ []) ∷
            members.Method (Str (codes "m1")) (actions.Load 3 3 ∷ actions.Invoke 1 (Reg 3) (IntKey (pos 4)) (Reg 3 ∷ Reg 2 ∷ []) ∷ actions.Load 1 3 ∷ actions.New 1 (codes "A") ∷ []) ∷
            members.Construct (actions.Load 14 2 ∷ actions.SelfTo 2 ∷ actions.Slot 2 (Reg 1) ∷ actions.New 2 (codes "Window") ∷ actions.Return (Reg 3) ∷ actions.SelfTo 1 ∷ []) ∷
            members.Method (Str (codes "m2")) (actions.SelfTo 2 ∷ actions.Load 2 2 ∷ actions.New 3 (codes "A") ∷ actions.New 1 (codes "Window") ∷ actions.New 2 (codes "Window") ∷ actions.Set 2 (Reg 1) ∷ []) ∷ []);
      }) ∷
      (record {
        name = codes "A";
        version = 3;
        stored = true;
        members = (
            members.Method (Str (codes "m0")) (actions.Note (Reg 3) ∷ actions.Put (Reg 1) (IntKey (pos 7)) (Reg 1) ∷ actions.Get 2 (Reg 2) (Str (codes "f0")) ∷ actions.Load 2 0 ∷ []) ∷
            members.Method (Str (codes "m3")) (actions.Load 2 0 ∷ actions.Load 3 1 ∷ actions.Slot 0 (Reg 5) ∷ actions.Enumerate 1 (Reg 1) ∷ []) ∷
            members.Method (IntKey (pos 4)) (actions.Load 3 1 ∷ actions.Load 0 2 ∷ actions.New 1 (codes "Window") ∷ actions.New 2 (codes "A") ∷ actions.New 5 (codes "B") ∷ []) ∷
            members.Method (Str (codes "m2")) (actions.SelfTo 2 ∷ actions.Invoke 1 (Reg 4) (Str (codes "take")) (Reg 3 ∷ Reg 0 ∷ Reg 0 ∷ []) ∷ actions.Add 2 (Reg 0) (Reg 1) ∷ actions.New 3 (codes "B") ∷ actions.New 4 (codes "Window") ∷ actions.New 4 (codes "B") ∷ actions.Put (Reg 4) (Str (codes "f1")) (Reg 0) ∷ actions.Slot 2 (Reg 4) ∷ actions.Drop 4 ∷ []) ∷
            members.Method (Str (codes "m1")) (actions.Load 2 0 ∷ actions.Destroy 2 3 ∷ actions.New 3 (codes "A") ∷ actions.New 5 (codes "B") ∷ actions.Load 0 0 ∷ actions.Load 1 2 ∷ []) ∷ []);
      }) ∷
      (record {
        name = codes "B";
        version = 3;
        stored = false;
        members = (
            members.Setter (Str (codes "7")) (actions.SelfTo 2 ∷ actions.Load 3 2 ∷ actions.Invoke 1 (Reg 2) (Str (codes "take")) (Reg 1 ∷ []) ∷ actions.Invoke 1 (Reg 1) (IntKey (pos 4)) (Reg 3 ∷ []) ∷ []) ∷
            members.Method (IntKey (pos 4)) [] ∷
            members.Getter (Str (codes "f0")) (actions.Load 0 1 ∷ actions.Note (Const (values.Bool false)) ∷ []) ∷
            members.Method (Str (codes "m2")) (actions.New 4 (codes "Window") ∷ actions.New 2 (codes "Window") ∷ actions.Get 5 (Reg 2) (Str (codes "f0")) ∷ []) ∷
            members.Method (Str (codes "take")) (actions.Load 2 0 ∷ actions.Invoke 2 (Reg 2) (Str (codes "none")) [] ∷ actions.Invoke 2 (Reg 1) (Str (codes "none")) (Reg 1 ∷ Reg 3 ∷ []) ∷ []) ∷
            members.Method (Str (codes "m1")) [] ∷
            members.Method (Str (codes "m3")) (actions.Load 2 0 ∷ actions.Return (Reg 3) ∷ actions.New 3 (codes "A") ∷ actions.Load 2 1 ∷ []) ∷
            members.Method (Str (codes "m0")) (actions.Load 0 0 ∷ []) ∷ []);
      }) ∷ []);
  resources = (
      resource (codes "r") (codes "t/p") 2 (codes "abc") ∷
      resource (codes "s") (codes "t/p") 1 (195 ∷ 164 ∷ 226 ∷ 130 ∷ 172 ∷ []) ∷
      resource (codes "e") (codes "t/p") 0 (195 ∷ 164 ∷ []) ∷ []);
  commands = (
      commands.Create (codes "t/x") 1 [] ∷
      commands.New 2 1 (codes "A") ∷
      commands.New 3 1 (codes "A") ∷
      commands.OpenStream 1 (codes "s") ∷
      commands.OpenStream 1 (codes "r") ∷
      commands.Pump 1 ∷
      commands.Invoke 5 (Reg 3) (Str (codes "m0")) (Reg 3 ∷ Reg 1 ∷ Reg 2 ∷ []) ∷
      commands.Pump 7 ∷
      commands.Pump 5 ∷
      commands.Pump 7 ∷
      commands.Pump 8 ∷
      commands.Create (codes "t/y") 2 [] ∷
      commands.Scriptable 2 2 ∷
      commands.OpenStream 2 (codes "s") ∷
      commands.New 5 1 (codes "A") ∷
      commands.Invoke 5 (Reg 1) (Str (codes "m2")) (Reg 0 ∷ []) ∷
      commands.Pump 3 ∷ []);
}

abbrev got-got : List Message
got-got = (
    (record { depth = record { level = 1; task = false }; releases = []; body = payloads.Code NoError }) ∷
    (record { depth = record { level = 2; task = false }; releases = []; body = payloads.Window 1 }) ∷
    (record { depth = record { level = 1; task = false }; releases = []; body = payloads.Code NoError }) ∷
    (record { depth = record { level = 1; task = false }; releases = []; body = payloads.Number (pos 1) }) ∷
    (record { depth = record { level = 1; task = false }; releases = []; body = payloads.Number (pos 0) }) ∷
    (record { depth = record { level = 1; task = false }; releases = []; body = payloads.Number (pos 0) }) ∷
    (record { depth = record { level = 1; task = false }; releases = []; body = payloads.Number (pos 0) }) ∷
    (record { depth = record { level = 1; task = false }; releases = []; body = payloads.Number (pos 0) }) ∷
    (record { depth = record { level = 1; task = false }; releases = []; body = payloads.Number (pos 0) }) ∷
    (record { depth = record { level = 1; task = false }; releases = []; body = payloads.Number (pos 3) }) ∷
    (record { depth = record { level = 1; task = false }; releases = []; body = payloads.Number (pos 3) }) ∷
    (record { depth = record { level = 1; task = false }; releases = []; body = payloads.Idents (Str (codes "m1") ∷ []) }) ∷ [])

-- the page with these messages
got : page_outcome 1500 page got-got ≡ record {
  refusal = Some (record { place = 11; rule = rules.Unmatched; first = 1; second = 1 });
  page = (
      Created (record { side = sides.Page; instance = 1; serial = 1 }) ∷
      CommandResult 1 (results.Code NoError) ∷
      Created (record { side = sides.Page; instance = 1; serial = 2 }) ∷
      CommandResult 2 (results.Yes (values.Object (record { side = sides.Page; instance = 1; serial = 2 })) false) ∷
      Created (record { side = sides.Page; instance = 1; serial = 3 }) ∷
      CommandResult 3 (results.Yes (values.Object (record { side = sides.Page; instance = 1; serial = 3 })) false) ∷
      CommandResult 4 (results.Code NoError) ∷
      CommandResult 5 (results.Code NoError) ∷
      StreamAnswered 1 (streams.New (pos 1)) ∷
      CommandResult 6 (results.Pumped 1) ∷
      Entered (record { side = sides.Page; instance = 1; serial = 3 }) (ops.Invoke (Str (codes "m0"))) ∷
      Noted values.Void false ∷
      Entered (record { side = sides.Page; instance = 1; serial = 2 }) (ops.Get (Str (codes "f0"))) ∷
      CommandResult 7 (results.Yes values.Void false) ∷
      StreamAnswered 1 (streams.Ready (pos 0)) ∷
      StreamAnswered 1 (streams.Ready (pos 0)) ∷
      StreamAnswered 1 (streams.Ready (pos 0)) ∷
      StreamAnswered 1 (streams.Ready (pos 0)) ∷
      StreamAnswered 1 (streams.Ready (pos 0)) ∷
      StreamAnswered 1 (streams.Ready (pos 3)) ∷
      StreamAnswered 1 (streams.Write 0 3 (pos 3)) ∷
      CommandResult 8 (results.Pumped 7) ∷
      Invalidated (record { side = sides.Page; instance = 1; serial = 1 }) ∷
      Invalidated (record { side = sides.Page; instance = 1; serial = 2 }) ∷
      Invalidated (record { side = sides.Page; instance = 1; serial = 3 }) ∷
      Deallocated (record { side = sides.Page; instance = 1; serial = 1 }) ∷
      Deallocated (record { side = sides.Page; instance = 1; serial = 2 }) ∷
      Deallocated (record { side = sides.Page; instance = 1; serial = 3 }) ∷
      CommandResult 9 (results.Pumped 0) ∷
      CommandResult 10 (results.Pumped 0) ∷
      CommandResult 11 (results.Pumped 0) ∷
      CommandResult 12 (results.Code ModuleLoadFailed) ∷
      CommandResult 13 results.No ∷
      CommandResult 14 (results.Code InvalidInstance) ∷
      CommandResult 15 results.No ∷
      CommandResult 16 results.No ∷
      CommandResult 17 (results.Pumped 0) ∷ []);
}
unfolding encoding digits is_text is_utf8 chars encode_utf8
got = refl
