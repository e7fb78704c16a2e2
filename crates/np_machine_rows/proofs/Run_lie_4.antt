-- Made by tools/vector-theorems of tests/vectors/lie-4.
use Rattle.std.proofs.Common.{◌≡◌, pos, negsuc, List, [], ◌∷◌, refl, true, false, Some, None}
use Rattle.std.specs.Prelude.{codes}
use Rattle.std.specs.Char.{encode_utf8}
use Rattle.std.specs.Fmt.{digits}
use Rattle.std.specs.Str.{is_utf8, chars}
use Rattle.np_values.specs.declared.error.NpError.TheVariants.{NoError, InvalidInstance}
use Rattle.np_values.specs.declared.name.Side.TheVariants as sides
use Rattle.np_values.specs.declared.value.Value.TheVariants as values
use Rattle.np_values.specs.Text.{is_text}
use Rattle.np_idents.specs.declared.key.IdKey.TheVariants.{Str, Int as IntKey}
use Rattle.np_script_grammar.specs.declared.action.Action.TheVariants as actions
use Rattle.np_script_grammar.specs.declared.action.Operand.TheVariants.{Reg, Const}
use Rattle.np_script_grammar.specs.declared.class.Member.TheVariants as members
use Rattle.np_script_grammar.specs.declared.command.Command.TheVariants as commands
use Rattle.np_script_grammar.specs.declared.page.Page.{Page}
use Rattle.np_message.specs.Encoding.{encoding}
use Rattle.np_message.specs.Message.{Message}
use Rattle.np_message.specs.declared.payload.Payload.TheVariants as payloads
use Rattle.np_journal.specs.declared.line.Line.TheVariants.{Created, ProxyGone, Invalidated, Deallocated, CommandResult}
use Rattle.np_journal.specs.declared.printed.Printed.TheVariants as results
use Rattle.np_machine.specs.declared.refusal.Rule.TheVariants as rules
use Rattle.np_machine_plans.specs.Outcomes.{resource, page_outcome}

abbrev page : Page
page = record {
  major = 0;
  minor = 27;
  classes = (
      (record {
        name = codes "Window";
        version = 2;
        stored = true;
        members = (
            members.Method (Str (codes "m1")) (actions.Load 0 2 ∷ actions.Return (Reg 0) ∷ []) ∷
            members.Setter (Str (codes "f1")) (actions.New 3 (codes "A") ∷ actions.New 4 (codes "Window") ∷ actions.New 2 (codes "Window") ∷ actions.Get 1 (Reg 2) (Str (codes "f0")) ∷ []) ∷
            members.Method (Str (codes "m3")) (actions.Put (Reg 0) (Str (codes "f0")) (Reg 1) ∷ actions.Note (Reg 3) ∷ actions.Slot 2 (Reg 3) ∷ []) ∷
            members.Default (actions.Load 2 0 ∷ actions.SelfTo 2 ∷ actions.New 1 (codes "A") ∷ actions.Invoke 5 (Reg 1) (Str (codes "m2")) (Const (values.Int (pos 1)) ∷ []) ∷ actions.Load 3 3 ∷ []) ∷
            members.Method (Str (codes "m0")) (actions.Load 2 2 ∷ actions.Load 2 0 ∷ actions.Fail ∷ actions.Return (Reg 0) ∷ []) ∷
            members.Method (IntKey (pos 4)) (actions.Put (Reg 1) (IntKey (pos 7)) (Reg 0) ∷ actions.Slot 3 (Reg 0) ∷ actions.Set 2 (Reg 0) ∷ actions.Slot 3 (Reg 1) ∷ []) ∷
            members.Method (Str (codes "m2")) (actions.Slot 2 (Reg 0) ∷ []) ∷
            members.Method (Str (codes "take")) (actions.Slot 0 (Reg 0) ∷ actions.Load 3 1 ∷ []) ∷
            members.Getter (Str (codes "f1")) (actions.Load 2 0 ∷ actions.Invoke 2 (Reg 7) (Str (codes "take")) (Reg 3 ∷ Reg 1 ∷ Reg 3 ∷ []) ∷ actions.New 1 (codes "A") ∷ []) ∷ []);
      }) ∷
      (record {
        name = codes "A";
        version = 2;
        stored = true;
        members = (
            members.Method (Str (codes "m0")) [] ∷
            members.Method (IntKey (pos 4)) (actions.Load 5 2 ∷ []) ∷
            members.Method (Str (codes "m2")) (actions.Slot 2 (Reg 0) ∷ []) ∷
            members.Method (Str (codes "m1")) (actions.Load 0 2 ∷ actions.Slot 2 (Const values.Void) ∷ actions.OnEq (Reg 0) (Const values.Void) 1 ∷ actions.New 0 (codes "T") ∷ actions.Return (Reg 0) ∷ []) ∷
            members.Construct (actions.Load 2 0 ∷ actions.SelfTo 2 ∷ actions.Load 0 0 ∷ actions.SelfTo 0 ∷ []) ∷
            members.Method (Str (codes "take")) (actions.Load 0 2 ∷ actions.Load 3 1 ∷ actions.Load 0 1 ∷ actions.Slot 0 (Reg 2) ∷ actions.New 5 (codes "A") ∷ actions.Load 2 1 ∷ actions.Drop 1 ∷ []) ∷
            members.Method (Str (codes "m3")) (actions.Load 3 1 ∷ actions.SelfTo 2 ∷ actions.Slot 2 (Reg 1) ∷ actions.New 2 (codes "Window") ∷ actions.New 1 (codes "A") ∷ actions.New 5 (codes "Window") ∷ actions.New 2 (codes "Window") ∷ []) ∷ []);
      }) ∷
      (record {
        name = codes "B";
        version = 1;
        stored = false;
        members = (
            members.Method (Str (codes "m1")) (actions.Load 0 2 ∷ actions.Slot 2 (Const values.Void) ∷ actions.Return (Reg 0) ∷ []) ∷
            members.Method (Str (codes "m3")) (actions.Load 3 1 ∷ actions.HasProperty (Reg 3) (Str (codes "f0")) ∷ actions.Invoke 0 (Reg 1) (IntKey (pos 4)) (Reg 2 ∷ []) ∷ actions.New 4 (codes "Window") ∷ actions.New 4 (codes "B") ∷ actions.New 5 (codes "A") ∷ actions.New 2 (codes "A") ∷ actions.Put (Reg 4) (Str (codes "f1")) (Reg 3) ∷ actions.New 5 (codes "A") ∷ actions.Put (Reg 4) (IntKey (pos 7)) (Reg 5) ∷ actions.New 5 (codes "B") ∷ actions.Put (Reg 4) (Str (codes "f0")) (Reg 4) ∷ actions.Drop 5 ∷ actions.Return (Reg 5) ∷ []) ∷
            members.Method (Str (codes "take")) (actions.Load 2 0 ∷ actions.New 5 (codes "Window") ∷ actions.Load 0 0 ∷ []) ∷
            members.Method (Str (codes "m0")) (actions.Load 3 1 ∷ actions.Load 2 0 ∷ actions.New 2 (codes "B") ∷ actions.New 4 (codes "Window") ∷ actions.New 3 (codes "A") ∷ actions.Remove (Reg 0) (Str (codes "f0")) ∷ []) ∷
            members.Method (Str (codes "m2")) (actions.Slot 2 (Reg 0) ∷ []) ∷
            members.Method (IntKey (pos 4)) (actions.Load 0 2 ∷ actions.Drop 3 ∷ actions.Set 3 (Reg 4) ∷ actions.Set 4 (Reg 2) ∷ actions.New 1 (codes "None") ∷ []) ∷ []);
      }) ∷ []);
  resources = (
      resource (codes "r") (codes "t/p") 2 (195 ∷ 164 ∷ []) ∷
      resource (codes "e") (codes "t/p") 0 (codes "0123456789") ∷ []);
  commands = (
      commands.Create (codes "t/x") 1 [] ∷
      commands.Scriptable 0 1 ∷
      commands.Create (codes "t/x") 2 (codes "a" ∷ codes "1" ∷ codes "a" ∷ codes "1" ∷ codes "a" ∷ codes "1" ∷ []) ∷
      commands.New 2 1 (codes "B") ∷
      commands.New 3 2 (codes "B") ∷
      commands.Invoke 5 (Reg 0) (Str (codes "m2")) (Reg 5 ∷ []) ∷
      commands.Drop 5 ∷
      commands.Invoke 5 (Reg 0) (Str (codes "m1")) [] ∷
      commands.New 3 1 (codes "Window") ∷
      commands.Destroy 2 ∷
      commands.Invoke 0 (Reg 3) (Str (codes "m2")) (Reg 1 ∷ Reg 1 ∷ Reg 1 ∷ []) ∷
      commands.Enumerate 3 (Reg 2) ∷
      commands.HasProperty (Reg 1) (Str (codes "f0")) ∷
      commands.New 5 1 (codes "Window") ∷
      commands.Invoke 5 (Reg 1) (Str (codes "m2")) (Reg 3 ∷ []) ∷
      commands.Drop 3 ∷
      commands.Invoke 4 (Reg 1) (Str (codes "m2")) (Reg 2 ∷ Reg 2 ∷ Const (values.Int (pos 14)) ∷ []) ∷
      commands.New 4 2 (codes "B") ∷
      commands.Invoke 5 (Reg 2) (Str (codes "m2")) (Reg 4 ∷ []) ∷
      commands.New 4 2 (codes "B") ∷
      commands.Put (Reg 2) (Str (codes "f0")) (Reg 4) ∷
      commands.New 4 2 (codes "B") ∷
      commands.Put (Reg 2) (IntKey (pos 7)) (Reg 4) ∷
      commands.Drop 4 ∷
      commands.Invoke 5 (Reg 0) (IntKey (pos 4)) (Const (values.Text (codes "s")) ∷ []) ∷
      commands.Invoke 4 (Reg 4) (Str (codes "m0")) (Reg 1 ∷ Reg 2 ∷ Reg 0 ∷ []) ∷
      commands.Invoke 5 (Reg 1) (Str (codes "m2")) (Reg 5 ∷ []) ∷
      commands.Drop 5 ∷
      commands.Invoke 5 (Reg 1) (Str (codes "m1")) [] ∷
      commands.New 4 2 (codes "Window") ∷
      commands.Invoke 5 (Reg 2) (Str (codes "m2")) (Reg 4 ∷ []) ∷
      commands.Drop 4 ∷
      commands.Destroy 1 ∷
      commands.Put (Reg 4) (Str (codes "f1")) (Reg 3) ∷
      commands.New 4 1 (codes "B") ∷
      commands.Invoke 5 (Reg 1) (Str (codes "m2")) (Reg 2 ∷ []) ∷
      commands.Drop 2 ∷
      commands.Invoke 4 (Reg 1) (Str (codes "m3")) (Reg 0 ∷ Reg 5 ∷ []) ∷
      commands.Turn ∷
      commands.New 5 1 (codes "A") ∷
      commands.Invoke 5 (Reg 0) (Str (codes "m2")) (Reg 5 ∷ []) ∷
      commands.Drop 5 ∷
      commands.Invoke 4 (Reg 0) (Str (codes "m0")) (Const (values.Int (pos 14)) ∷ []) ∷
      commands.Invoke 4 (Reg 1) (IntKey (pos 4)) (Reg 0 ∷ Reg 1 ∷ Reg 3 ∷ []) ∷
      commands.Invoke 4 (Reg 1) (Str (codes "m1")) (Const (values.Int (negsuc 0)) ∷ Reg 2 ∷ []) ∷ []);
}

abbrev got-got : List Message
got-got = (
    (record { depth = record { level = 1; task = false }; releases = []; body = payloads.Code NoError }) ∷
    (record { depth = record { level = 2; task = false }; releases = []; body = payloads.Window 1 }) ∷
    (record { depth = record { level = 1; task = false }; releases = []; body = payloads.Code NoError }) ∷
    (record { depth = record { level = 1; task = false }; releases = []; body = payloads.True (values.Object (record { side = sides.Plug; instance = 1; serial = 1 })) }) ∷
    (record { depth = record { level = 2; task = false }; releases = []; body = payloads.Window 2 }) ∷
    (record { depth = record { level = 1; task = false }; releases = []; body = payloads.Code NoError }) ∷
    (record { depth = record { level = 1; task = true }; releases = []; body = payloads.True values.Void }) ∷
    (record { depth = record { level = 1; task = false }; releases = []; body = payloads.True values.Void }) ∷
    (record { depth = record { level = 1; task = false }; releases = []; body = payloads.Code NoError }) ∷
    (record { depth = record { level = 1; task = false }; releases = []; body = payloads.Code NoError }) ∷
    (record { depth = record { level = 1; task = false }; releases = []; body = payloads.Done }) ∷
    (record { depth = record { level = 1; task = false }; releases = []; body = payloads.Done }) ∷ [])

-- the page with these messages
got : page_outcome 1500 page got-got ≡ record {
  refusal = Some (record { place = 6; rule = rules.Unmatched; first = 129; second = 1 });
  page = (
      Created (record { side = sides.Page; instance = 1; serial = 1 }) ∷
      CommandResult 1 (results.Code NoError) ∷
      CommandResult 2 (results.Yes (values.Object (record { side = sides.Plug; instance = 1; serial = 1 })) false) ∷
      Created (record { side = sides.Page; instance = 2; serial = 1 }) ∷
      CommandResult 3 (results.Code NoError) ∷
      Created (record { side = sides.Page; instance = 1; serial = 2 }) ∷
      CommandResult 4 (results.Yes (values.Object (record { side = sides.Page; instance = 1; serial = 2 })) false) ∷
      Created (record { side = sides.Page; instance = 2; serial = 2 }) ∷
      CommandResult 5 (results.Yes (values.Object (record { side = sides.Page; instance = 2; serial = 2 })) false) ∷
      ProxyGone (record { side = sides.Plug; instance = 1; serial = 1 }) ∷
      Invalidated (record { side = sides.Page; instance = 1; serial = 1 }) ∷
      Invalidated (record { side = sides.Page; instance = 1; serial = 2 }) ∷
      Deallocated (record { side = sides.Page; instance = 1; serial = 1 }) ∷
      Deallocated (record { side = sides.Page; instance = 1; serial = 2 }) ∷
      Invalidated (record { side = sides.Page; instance = 2; serial = 1 }) ∷
      Invalidated (record { side = sides.Page; instance = 2; serial = 2 }) ∷
      Deallocated (record { side = sides.Page; instance = 2; serial = 1 }) ∷
      Deallocated (record { side = sides.Page; instance = 2; serial = 2 }) ∷
      CommandResult 6 results.No ∷
      CommandResult 7 (results.Yes values.Void false) ∷
      CommandResult 8 results.No ∷
      CommandResult 9 results.No ∷
      CommandResult 10 (results.Code InvalidInstance) ∷
      CommandResult 11 results.No ∷
      CommandResult 12 results.No ∷
      CommandResult 13 results.No ∷
      CommandResult 14 results.No ∷
      CommandResult 15 results.No ∷
      CommandResult 16 (results.Yes values.Void false) ∷
      CommandResult 17 results.No ∷
      CommandResult 18 results.No ∷
      CommandResult 19 results.No ∷
      CommandResult 20 results.No ∷
      CommandResult 21 results.No ∷
      CommandResult 22 results.No ∷
      CommandResult 23 results.No ∷
      CommandResult 24 (results.Yes values.Void false) ∷
      CommandResult 25 results.No ∷
      CommandResult 26 results.No ∷
      CommandResult 27 results.No ∷
      CommandResult 28 (results.Yes values.Void false) ∷
      CommandResult 29 results.No ∷
      CommandResult 30 results.No ∷
      CommandResult 31 results.No ∷
      CommandResult 32 (results.Yes values.Void false) ∷
      CommandResult 33 (results.Code InvalidInstance) ∷
      CommandResult 34 results.No ∷
      CommandResult 35 results.No ∷
      CommandResult 36 results.No ∷
      CommandResult 37 (results.Yes values.Void false) ∷
      CommandResult 38 results.No ∷
      CommandResult 39 results.No ∷
      CommandResult 40 results.No ∷
      CommandResult 41 results.No ∷
      CommandResult 42 (results.Yes values.Void false) ∷
      CommandResult 43 results.No ∷
      CommandResult 44 results.No ∷
      CommandResult 45 results.No ∷ []);
}
unfolding encoding digits is_text is_utf8 chars encode_utf8
got = refl
