-- Made by tools/vector-theorems of tests/vectors/lie-3.
use Rattle.std.proofs.Common.{◌≡◌, pos, negsuc, List, [], ◌∷◌, refl, true, false, Some}
use Rattle.std.specs.Prelude.{codes}
use Rattle.std.specs.Char.{encode_utf8}
use Rattle.std.specs.Fmt.{digits}
use Rattle.std.specs.Str.{is_utf8, chars}
use Rattle.np_values.specs.declared.error.NpError.TheVariants.{NoError, InvalidInstance}
use Rattle.np_values.specs.declared.name.Side.TheVariants as sides
use Rattle.np_values.specs.declared.value.Value.TheVariants as values
use Rattle.np_values.specs.Text.{is_text}
use Rattle.np_idents.specs.declared.key.IdKey.TheVariants.{Str, Int as IntKey}
use Rattle.np_idents.specs.declared.op.Op.TheVariants as ops
use Rattle.np_script_grammar.specs.declared.action.Action.TheVariants as actions
use Rattle.np_script_grammar.specs.declared.action.Operand.TheVariants.{Reg, Const}
use Rattle.np_script_grammar.specs.declared.class.Member.TheVariants as members
use Rattle.np_script_grammar.specs.declared.command.Command.TheVariants as commands
use Rattle.np_script_grammar.specs.declared.page.Page.{Page}
use Rattle.np_message.specs.Encoding.{encoding}
use Rattle.np_message.specs.Message.{Message}
use Rattle.np_message.specs.declared.payload.Payload.TheVariants as payloads
use Rattle.np_journal.specs.declared.line.Line.TheVariants.{Created, Entered, ProxyGone, Invalidated, Deallocated, StreamAnswered, CommandResult}
use Rattle.np_journal.specs.declared.printed.Printed.TheVariants as results
use Rattle.np_journal.specs.declared.streamed.Streamed.TheVariants as streams
use Rattle.np_machine.specs.declared.refusal.Rule.TheVariants as rules
use Rattle.np_machine_plans.specs.Outcomes.{resource, page_outcome}

abbrev page : Page
page = record {
  major = 0;
  minor = 27;
  classes = (
      (record {
        name = codes "Window";
        version = 3;
        stored = false;
        members = (
            members.Method (Str (codes "m0")) [] ∷
            members.Method (Str (codes "m2")) (actions.Load 2 0 ∷ actions.Invoke 15 (Reg 3) (Str (codes "take")) (Reg 3 ∷ []) ∷ actions.Set 1 (Const (values.Int (negsuc 2147483647))) ∷ actions.Return (Reg 2) ∷ actions.Invoke 3 (Reg 2) (Str (codes "m2")) (Reg 1 ∷ Reg 0 ∷ Reg 1 ∷ []) ∷ []) ∷
            members.Method (Str (codes "take")) (actions.Load 2 0 ∷ actions.Load 3 2 ∷ actions.Set 5 (Reg 2) ∷ actions.Drop 2 ∷ []) ∷
            members.Method (Str (codes "m1")) [] ∷
            members.Method (Str (codes "m3")) (actions.Load 3 2 ∷ actions.New 4 (codes "B") ∷ actions.New 5 (codes "B") ∷ actions.Load 12 2 ∷ actions.Load 2 0 ∷ actions.New 1 (codes "A") ∷ actions.Load 0 1 ∷ actions.Load 0 0 ∷ []) ∷
            members.Method (IntKey (pos 4)) (actions.Load 1 2 ∷ actions.Put (Reg 2) (Str (codes "f1")) (Reg 0) ∷ actions.Invoke 2 (Reg 0) (Str (codes "take")) (Reg 2 ∷ Const (values.Text (195 ∷ 164 ∷ 34 ∷ 92 ∷ 1 ∷ 127 ∷ [])) ∷ Reg 2 ∷ []) ∷ actions.New 1 (codes "B") ∷ actions.Load 2 2 ∷ []) ∷
            members.Getter (Str (codes "f1")) (actions.OnEq (Reg 2) (Reg 0) 1 ∷ actions.New 3 (codes "A") ∷ actions.OnTrue 2 ∷ actions.New 3 (codes "Window") ∷ []) ∷ []);
      }) ∷
      (record {
        name = codes "A";
        version = 1;
        stored = false;
        members = (
            members.Construct (actions.Load 4 2 ∷ actions.Load 0 0 ∷ actions.New 1 (codes "A") ∷ actions.Add 0 (Reg 3) (Reg 1) ∷ []) ∷
            members.Method (Str (codes "m3")) (actions.Load 2 0 ∷ actions.Load 0 2 ∷ actions.Destroy 3 1 ∷ actions.Put (Reg 0) (Str (codes "f0")) (Reg 1) ∷ []) ∷
            members.Method (IntKey (pos 4)) (actions.New 1 (codes "A") ∷ actions.Invoke 2 (Reg 3) (Str (codes "take")) (Reg 2 ∷ Reg 1 ∷ Reg 2 ∷ []) ∷ actions.New 5 (codes "A") ∷ actions.Load 0 3 ∷ actions.Get 1 (Reg 2) (Str (codes "7")) ∷ actions.Drop 0 ∷ []) ∷
            members.Method (Str (codes "m2")) (actions.Load 3 1 ∷ actions.SelfTo 2 ∷ actions.Slot 3 (Reg 0) ∷ actions.Load 1 3 ∷ actions.SelfTo 7 ∷ actions.Slot 3 (Reg 1) ∷ []) ∷
            members.Method (Str (codes "m0")) (actions.Load 2 0 ∷ actions.Load 11 2 ∷ actions.CallDefault 0 (Reg 0) (Reg 1 ∷ Reg 1 ∷ Reg 3 ∷ []) ∷ []) ∷
            members.Method (Str (codes "take")) (actions.Load 2 2 ∷ actions.New 4 (codes "A") ∷ actions.Note (Reg 2) ∷ actions.Put (Reg 0) (Str (codes "f0")) (Reg 1) ∷ actions.Load 2 2 ∷ []) ∷ []);
      }) ∷
      (record {
        name = codes "B";
        version = 3;
        stored = false;
        members = (
            members.Method (Str (codes "take")) (actions.Load 2 0 ∷ actions.Load 0 0 ∷ actions.Invoke 2 (Reg 1) (Str (codes "none")) (Reg 0 ∷ Reg 1 ∷ Reg 0 ∷ []) ∷ []) ∷
            members.Method (Str (codes "m2")) (actions.SelfTo 2 ∷ actions.Load 3 2 ∷ actions.Load 3 2 ∷ actions.Slot 1 (Reg 2) ∷ actions.SelfTo 0 ∷ []) ∷
            members.Default (actions.Invoke 4 (Reg 5) (IntKey (pos 4)) (Reg 2 ∷ Reg 3 ∷ Reg 4 ∷ []) ∷ []) ∷
            members.Method (Str (codes "m0")) (actions.Load 2 2 ∷ actions.Load 3 1 ∷ actions.Invoke 1 (Reg 5) (Str (codes "m2")) (Reg 0 ∷ Const (values.Text []) ∷ []) ∷ actions.New 1 (codes "Window") ∷ actions.Put (Reg 1) (Str (codes "f0")) (Const (values.Text (codes "r"))) ∷ actions.Load 5 0 ∷ actions.New 2 (codes "B") ∷ actions.Put (Reg 2) (Str (codes "f1")) (Reg 1) ∷ actions.Put (Reg 2) (Str (codes "f1")) (Reg 2) ∷ actions.Slot 3 (Reg 2) ∷ actions.Enumerate 1 (Reg 2) ∷ []) ∷
            members.Method (Str (codes "m3")) (actions.SelfTo 2 ∷ actions.New 2 (codes "A") ∷ []) ∷
            members.Construct (actions.Load 2 0 ∷ actions.Load 3 2 ∷ actions.New 4 (codes "B") ∷ actions.New 2 (codes "B") ∷ actions.New 3 (codes "B") ∷ actions.New 3 (codes "B") ∷ actions.Set 0 (Reg 3) ∷ actions.Return (Reg 2) ∷ []) ∷
            members.Method (Str (codes "m1")) (actions.Load 3 2 ∷ actions.Load 3 1 ∷ actions.New 1 (codes "Window") ∷ actions.Slot 0 (Reg 3) ∷ []) ∷
            members.Method (IntKey (pos 4)) (actions.Load 3 0 ∷ actions.Destroy 3 2 ∷ []) ∷ []);
      }) ∷ []);
  resources = (
      resource (codes "r") (codes "t/p") 1 (codes "abc") ∷
      resource (codes "s") (codes "t/p") 4 (codes "0123456789") ∷
      resource (codes "e") (codes "t/p") 0 (195 ∷ 164 ∷ 226 ∷ 130 ∷ 172 ∷ []) ∷ []);
  commands = (
      commands.Create (codes "t/x") 2 [] ∷
      commands.Scriptable 0 1 ∷
      commands.Create (codes "t/x") 2 [] ∷
      commands.Scriptable 1 2 ∷
      commands.New 2 1 (codes "A") ∷
      commands.New 3 2 (codes "B") ∷
      commands.OpenStream 1 (codes "s") ∷
      commands.Pump 3 ∷
      commands.Invoke 5 (Reg 0) (Str (codes "m2")) (Reg 2 ∷ Reg 1 ∷ Reg 3 ∷ []) ∷
      commands.Invoke 5 (Reg 3) (Str (codes "m3")) (Reg 1 ∷ Reg 2 ∷ Reg 0 ∷ []) ∷
      commands.Invoke 5 (Reg 3) (Str (codes "m1")) (Reg 0 ∷ Reg 1 ∷ Reg 3 ∷ []) ∷
      commands.Invoke 5 (Reg 1) (Str (codes "m0")) (Reg 4 ∷ Reg 5 ∷ Reg 2 ∷ []) ∷
      commands.Invoke 3 (Reg 3) (Str (codes "m3")) (Reg 2 ∷ Reg 0 ∷ Reg 5 ∷ []) ∷
      commands.Pump 4 ∷
      commands.OpenStream 3 (codes "s") ∷
      commands.Pump 2 ∷
      commands.OpenStream 2 (codes "s") ∷
      commands.OpenStream 3 (codes "e") ∷
      commands.Destroy 2 ∷
      commands.Pump 6 ∷
      commands.Put (Reg 2) (IntKey (pos 7)) (Reg 0) ∷
      commands.Pump 8 ∷
      commands.Invoke 4 (Reg 4) (Str (codes "m0")) (Reg 2 ∷ Reg 0 ∷ Reg 1 ∷ []) ∷
      commands.Invoke 2 (Reg 2) (Str (codes "m0")) (Reg 1 ∷ Reg 0 ∷ Reg 2 ∷ []) ∷
      commands.Pump 2 ∷
      commands.OpenStream 1 (codes "e") ∷
      commands.OpenStream 1 (codes "e") ∷
      commands.Turn ∷
      commands.Invoke 4 (Reg 3) (IntKey (pos 4)) (Reg 3 ∷ Reg 2 ∷ Reg 4 ∷ []) ∷
      commands.Invoke 5 (Reg 3) (Str (codes "m3")) (Reg 2 ∷ Reg 0 ∷ Reg 3 ∷ []) ∷
      commands.OpenStream 2 (codes "s") ∷
      commands.CallDefault 2 (Reg 0) (Reg 5 ∷ Reg 0 ∷ []) ∷
      commands.Pump 6 ∷
      commands.Get 1 (Reg 2) (Str (codes "f1")) ∷
      commands.OpenStream 1 (codes "r") ∷
      commands.Pump 5 ∷
      commands.Invoke 4 (Reg 1) (Str (codes "m1")) [] ∷
      commands.Invoke 5 (Reg 0) (Str (codes "m2")) (Reg 4 ∷ []) ∷
      commands.Invoke 4 (Reg 1) (Str (codes "m1")) [] ∷
      commands.Invoke 5 (Reg 0) (Str (codes "m2")) (Reg 4 ∷ []) ∷
      commands.New 4 2 (codes "B") ∷
      commands.Put (Reg 2) (Str (codes "f0")) (Reg 4) ∷
      commands.Drop 4 ∷
      commands.Invoke 4 (Reg 2) (Str (codes "m3")) (Reg 1 ∷ []) ∷
      commands.Set 0 (Reg 0) ∷
      commands.OpenStream 2 (codes "r") ∷
      commands.Invoke 4 (Reg 1) (Str (codes "m1")) [] ∷
      commands.Invoke 5 (Reg 0) (Str (codes "m2")) (Reg 4 ∷ []) ∷
      commands.Drop 4 ∷
      commands.New 3 2 (codes "A") ∷
      commands.HasProperty (Reg 3) (Str (codes "f1")) ∷ []);
}

abbrev got-got : List Message
got-got = (
    (record { depth = record { level = 1; task = false }; releases = []; body = payloads.Code NoError }) ∷
    (record { depth = record { level = 2; task = false }; releases = []; body = payloads.Window 1 }) ∷
    (record { depth = record { level = 1; task = false }; releases = []; body = payloads.Code NoError }) ∷
    (record { depth = record { level = 1; task = false }; releases = []; body = payloads.True (values.Object (record { side = sides.Plug; instance = 1; serial = 1 })) }) ∷
    (record { depth = record { level = 2; task = false }; releases = []; body = payloads.Window 2 }) ∷
    (record { depth = record { level = 1; task = false }; releases = []; body = payloads.Code NoError }) ∷
    (record { depth = record { level = 1; task = false }; releases = []; body = payloads.True (values.Object (record { side = sides.Plug; instance = 2; serial = 1 })) }) ∷
    (record { depth = record { level = 1; task = false }; releases = []; body = payloads.Number (pos 1) }) ∷
    (record { depth = record { level = 2; task = false }; releases = []; body = payloads.RequestRead 1 1 ((record { offset = pos 0; length = 9000 }) ∷ []) }) ∷
    (record { depth = record { level = 1; task = false }; releases = []; body = payloads.Number (pos 100) }) ∷
    (record { depth = record { level = 2; task = false }; releases = []; body = payloads.RequestRead 1 1 ((record { offset = negsuc 8; length = 3 }) ∷ []) }) ∷
    (record { depth = record { level = 1; task = false }; releases = []; body = payloads.Number (pos 40) }) ∷
    (record { depth = record { level = 2; task = false }; releases = ((record { instance = 2; serial = 2; times = 1 }) ∷ []); body = payloads.RequestRead 1 2 ((record { offset = negsuc 1; length = 1 }) ∷ []) }) ∷
    (record { depth = record { level = 1; task = false }; releases = ((record { instance = 1; serial = 2; times = 1 }) ∷ []); body = payloads.True values.Void }) ∷
    (record { depth = record { level = 1; task = false }; releases = []; body = payloads.Done }) ∷
    (record { depth = record { level = 1; task = false }; releases = []; body = payloads.Code NoError }) ∷
    (record { depth = record { level = 1; task = false }; releases = []; body = payloads.Done }) ∷
    (record { depth = record { level = 3; task = false }; releases = []; body = payloads.GetUrl 1 (codes "s") (pos 6) }) ∷
    (record { depth = record { level = 3; task = false }; releases = []; body = payloads.GetUrl 1 (codes "nowhere") (pos 2) }) ∷
    (record { depth = record { level = 3; task = false }; releases = []; body = payloads.Window 1 }) ∷
    (record { depth = record { level = 2; task = false }; releases = []; body = payloads.GetUrl 1 (codes "e") (negsuc 1) }) ∷
    (record { depth = record { level = 1; task = false }; releases = []; body = payloads.True values.Void }) ∷
    (record { depth = record { level = 1; task = false }; releases = []; body = payloads.Number (pos 1) }) ∷
    (record { depth = record { level = 1; task = false }; releases = []; body = payloads.Done }) ∷
    (record { depth = record { level = 1; task = false }; releases = []; body = payloads.Number (pos 1) }) ∷
    (record { depth = record { level = 1; task = false }; releases = []; body = payloads.Done }) ∷
    (record { depth = record { level = 1; task = false }; releases = []; body = payloads.Number (pos 1) }) ∷
    (record { depth = record { level = 2; task = false }; releases = []; body = payloads.RequestRead 1 5 ((record { offset = pos 0; length = 9000 }) ∷ []) }) ∷
    (record { depth = record { level = 1; task = false }; releases = []; body = payloads.Number (pos 100) }) ∷
    (record { depth = record { level = 2; task = false }; releases = []; body = payloads.RequestRead 1 5 ((record { offset = negsuc 8; length = 3 }) ∷ []) }) ∷
    (record { depth = record { level = 1; task = false }; releases = []; body = payloads.Number (pos 40) }) ∷
    (record { depth = record { level = 1; task = false }; releases = []; body = payloads.Done }) ∷
    (record { depth = record { level = 2; task = false }; releases = []; body = payloads.RequestRead 1 1 ((record { offset = pos 1; length = 9000 }) ∷ []) }) ∷
    (record { depth = record { level = 1; task = false }; releases = []; body = payloads.Done }) ∷
    (record { depth = record { level = 1; task = false }; releases = []; body = payloads.Number (pos 1) }) ∷
    (record { depth = record { level = 1; task = false }; releases = []; body = payloads.Done }) ∷
    (record { depth = record { level = 2; task = false }; releases = []; body = payloads.RequestRead 1 2 ((record { offset = negsuc 1; length = 1 }) ∷ []) }) ∷
    (record { depth = record { level = 1; task = false }; releases = []; body = payloads.True values.Void }) ∷
    (record { depth = record { level = 2; task = false }; releases = []; body = payloads.RequestRead 1 2 ((record { offset = negsuc 1; length = 1 }) ∷ []) }) ∷
    (record { depth = record { level = 1; task = false }; releases = []; body = payloads.True values.Void }) ∷
    (record { depth = record { level = 2; task = false }; releases = []; body = payloads.RequestRead 1 2 ((record { offset = negsuc 1; length = 1 }) ∷ []) }) ∷
    (record { depth = record { level = 1; task = false }; releases = []; body = payloads.True values.Void }) ∷
    (record { depth = record { level = 1; task = false }; releases = []; body = payloads.Code NoError }) ∷
    (record { depth = record { level = 1; task = false }; releases = []; body = payloads.Done }) ∷ [])

-- the page with these messages
got : page_outcome 1500 page got-got ≡ record {
  refusal = Some (record { place = 14; rule = rules.Unmatched; first = 1; second = 1 });
  page = (
      Created (record { side = sides.Page; instance = 1; serial = 1 }) ∷
      CommandResult 1 (results.Code NoError) ∷
      CommandResult 2 (results.Yes (values.Object (record { side = sides.Plug; instance = 1; serial = 1 })) false) ∷
      Created (record { side = sides.Page; instance = 2; serial = 1 }) ∷
      CommandResult 3 (results.Code NoError) ∷
      CommandResult 4 (results.Yes (values.Object (record { side = sides.Plug; instance = 2; serial = 1 })) false) ∷
      Created (record { side = sides.Page; instance = 1; serial = 2 }) ∷
      CommandResult 5 (results.Yes (values.Object (record { side = sides.Page; instance = 1; serial = 2 })) false) ∷
      Created (record { side = sides.Page; instance = 2; serial = 2 }) ∷
      CommandResult 6 (results.Yes (values.Object (record { side = sides.Page; instance = 2; serial = 2 })) false) ∷
      CommandResult 7 (results.Code NoError) ∷
      StreamAnswered 1 (streams.New (pos 1)) ∷
      StreamAnswered 1 (streams.Ready (pos 100)) ∷
      StreamAnswered 1 (streams.Write 0 40 (pos 40)) ∷
      CommandResult 8 (results.Pumped 3) ∷
      CommandResult 9 (results.Yes values.Void false) ∷
      Entered (record { side = sides.Page; instance = 2; serial = 2 }) (ops.Invoke (Str (codes "m3"))) ∷
      Created (record { side = sides.Page; instance = 2; serial = 3 }) ∷
      Deallocated (record { side = sides.Page; instance = 2; serial = 3 }) ∷
      CommandResult 10 (results.Yes values.Void false) ∷
      Entered (record { side = sides.Page; instance = 2; serial = 2 }) (ops.Invoke (Str (codes "m1"))) ∷
      Created (record { side = sides.Page; instance = 2; serial = 4 }) ∷
      Deallocated (record { side = sides.Page; instance = 2; serial = 4 }) ∷
      CommandResult 11 (results.Yes values.Void false) ∷
      ProxyGone (record { side = sides.Plug; instance = 1; serial = 1 }) ∷
      Invalidated (record { side = sides.Page; instance = 1; serial = 1 }) ∷
      Invalidated (record { side = sides.Page; instance = 1; serial = 2 }) ∷
      Deallocated (record { side = sides.Page; instance = 1; serial = 1 }) ∷
      Deallocated (record { side = sides.Page; instance = 1; serial = 2 }) ∷
      ProxyGone (record { side = sides.Plug; instance = 2; serial = 1 }) ∷
      Invalidated (record { side = sides.Page; instance = 2; serial = 1 }) ∷
      Invalidated (record { side = sides.Page; instance = 2; serial = 2 }) ∷
      Deallocated (record { side = sides.Page; instance = 2; serial = 1 }) ∷
      Deallocated (record { side = sides.Page; instance = 2; serial = 2 }) ∷
      CommandResult 12 results.No ∷
      CommandResult 13 results.No ∷
      CommandResult 14 (results.Pumped 0) ∷
      CommandResult 15 (results.Code InvalidInstance) ∷
      CommandResult 16 (results.Pumped 0) ∷
      CommandResult 17 (results.Code InvalidInstance) ∷
      CommandResult 18 (results.Code InvalidInstance) ∷
      CommandResult 19 (results.Code InvalidInstance) ∷
      CommandResult 20 (results.Pumped 0) ∷
      CommandResult 21 results.No ∷
      CommandResult 22 (results.Pumped 0) ∷
      CommandResult 23 results.No ∷
      CommandResult 24 results.No ∷
      CommandResult 25 (results.Pumped 0) ∷
      CommandResult 26 (results.Code InvalidInstance) ∷
      CommandResult 27 (results.Code InvalidInstance) ∷
      CommandResult 28 results.No ∷
      CommandResult 29 results.No ∷
      CommandResult 30 results.No ∷
      CommandResult 31 (results.Code InvalidInstance) ∷
      CommandResult 32 results.No ∷
      CommandResult 33 (results.Pumped 0) ∷
      CommandResult 34 results.No ∷
      CommandResult 35 (results.Code InvalidInstance) ∷
      CommandResult 36 (results.Pumped 0) ∷
      CommandResult 37 results.No ∷
      CommandResult 38 results.No ∷
      CommandResult 39 results.No ∷
      CommandResult 40 results.No ∷
      CommandResult 41 results.No ∷
      CommandResult 42 results.No ∷
      CommandResult 43 (results.Yes values.Void false) ∷
      CommandResult 44 results.No ∷
      CommandResult 45 (results.Yes (values.Object (record { side = sides.Plug; instance = 1; serial = 1 })) true) ∷
      CommandResult 46 (results.Code InvalidInstance) ∷
      CommandResult 47 results.No ∷
      CommandResult 48 results.No ∷
      CommandResult 49 (results.Yes values.Void false) ∷
      CommandResult 50 results.No ∷
      CommandResult 51 results.No ∷ []);
}
unfolding encoding digits is_text is_utf8 chars encode_utf8
got = refl
