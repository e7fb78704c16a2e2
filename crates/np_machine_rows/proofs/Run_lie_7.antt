-- Made by tools/vector-theorems of tests/vectors/lie-7.
use Rattle.std.proofs.Common.{◌≡◌, pos, negsuc, List, [], ◌∷◌, refl, true, false, None}
use Rattle.std.specs.Prelude.{codes}
use Rattle.std.specs.Char.{encode_utf8}
use Rattle.std.specs.Fmt.{digits}
use Rattle.std.specs.Str.{is_utf8, chars}
use Rattle.np_values.specs.declared.error.NpError.TheVariants.{NoError}
use Rattle.np_values.specs.declared.name.Side.TheVariants as sides
use Rattle.np_values.specs.declared.value.Value.TheVariants as values
use Rattle.np_values.specs.Text.{is_text}
use Rattle.np_idents.specs.declared.key.IdKey.TheVariants.{Str, Int as IntKey}
use Rattle.np_idents.specs.declared.op.Op.TheVariants as ops
use Rattle.np_script_grammar.specs.declared.action.Action.TheVariants as actions
use Rattle.np_script_grammar.specs.declared.action.Operand.TheVariants.{Reg, Const}
use Rattle.np_script_grammar.specs.declared.class.Member.TheVariants as members
use Rattle.np_script_grammar.specs.declared.command.Command.TheVariants as commands
use Rattle.np_script_grammar.specs.declared.page.Page.{Page}
use Rattle.np_message.specs.Encoding.{encoding}
use Rattle.np_message.specs.Message.{Message}
use Rattle.np_message.specs.declared.payload.Payload.TheVariants as payloads
use Rattle.np_journal.specs.declared.line.Line.TheVariants.{Created, Entered, ProxyGone, Invalidated, Deallocated, Noted, StreamAnswered, CommandResult}
use Rattle.np_journal.specs.declared.printed.Printed.TheVariants as results
use Rattle.np_journal.specs.declared.streamed.Streamed.TheVariants as streams
use Rattle.np_machine_plans.specs.Outcomes.{resource, page_outcome}

abbrev page : Page
page = record {
  major = 0;
  minor = 27;
  classes = (
      (record {
        name = codes "Window";
        version = 3;
        stored = true;
        members = (
            members.Method (IntKey (pos 4)) (actions.SelfTo 2 ∷ actions.New 5 (codes "Window") ∷ actions.New 1 (codes "A") ∷ actions.New 3 (codes "Window") ∷ actions.Load 1 3 ∷ []) ∷
            members.Method (Str (codes "m3")) (actions.Invoke 1 (Reg 0) (Str (codes "take")) (Reg 3 ∷ Reg 2 ∷ []) ∷ actions.Get 1 (Reg 3) (Str (codes "f0")) ∷ actions.Invoke 2 (Reg 0) (Str (codes "take")) (Reg 3 ∷ Reg 2 ∷ Reg 1 ∷ []) ∷ []) ∷
            members.Method (Str (codes "m0")) (actions.Put (Reg 1) (Str (codes "7")) (Const (values.Text (195 ∷ 164 ∷ 34 ∷ 92 ∷ 1 ∷ 127 ∷ []))) ∷ actions.Return (Reg 0) ∷ actions.Load 5 2 ∷ actions.Invoke 1 (Reg 2) (Str (codes "take")) (Reg 3 ∷ Const (values.Int (negsuc 2147483647)) ∷ Reg 1 ∷ []) ∷ []) ∷
            members.Method (Str (codes "m2")) (actions.Load 3 1 ∷ actions.Put (Reg 3) (Str (codes "f0")) (Reg 0) ∷ actions.Load 1 1 ∷ actions.Note (Const (values.Int (pos 2147483647))) ∷ []) ∷
            members.Method (Str (codes "take")) (actions.Load 3 1 ∷ actions.New 1 (codes "Window") ∷ actions.New 4 (codes "Window") ∷ actions.New 3 (codes "B") ∷ []) ∷
            members.Method (Str (codes "m1")) (actions.Load 3 2 ∷ actions.SelfTo 2 ∷ actions.Load 4 2 ∷ []) ∷ []);
      }) ∷
      (record {
        name = codes "A";
        version = 3;
        stored = false;
        members = (
            members.Method (Str (codes "m1")) (actions.SelfTo 2 ∷ actions.Invoke 0 (Reg 1) (Str (codes "take")) (Reg 0 ∷ Reg 3 ∷ Const (values.Text (195 ∷ 164 ∷ 34 ∷ 92 ∷ 1 ∷ 127 ∷ [])) ∷ []) ∷ actions.Note (Reg 2) ∷ []) ∷
            members.Method (Str (codes "m3")) [] ∷
            members.Method (Str (codes "m0")) (actions.Load 2 0 ∷ actions.Load 3 1 ∷ actions.Load 3 1 ∷ actions.Slot 3 (Const (values.Double (0 ∷ 1 ∷ 2 ∷ 3 ∷ 4 ∷ 5 ∷ 6 ∷ 7 ∷ []))) ∷ actions.Load 4 0 ∷ actions.Get 3 (Reg 4) (Str (codes "f0")) ∷ actions.Put (Reg 4) (Str (codes "f0")) (Reg 0) ∷ []) ∷
            members.Method (IntKey (pos 4)) (actions.SelfTo 2 ∷ actions.Load 2 2 ∷ actions.Drop 2 ∷ []) ∷
            members.Method (Str (codes "m2")) (actions.Get 0 (Reg 3) (Str (codes "f1")) ∷ []) ∷ []);
      }) ∷
      (record {
        name = codes "B";
        version = 1;
        stored = true;
        members = (
            members.Method (Str (codes "m0")) [] ∷
            members.Method (Str (codes "m1")) (actions.New 3 (codes "A") ∷ actions.Put (Reg 3) (IntKey (pos 0)) (Const (values.Int (pos 0))) ∷ actions.Put (Reg 3) (IntKey (pos 1)) (Const (values.Int (pos 1))) ∷ actions.Put (Reg 3) (IntKey (pos 2)) (Const (values.Int (pos 2))) ∷ actions.Put (Reg 3) (IntKey (pos 3)) (Const (values.Int (pos 3))) ∷ actions.Put (Reg 3) (IntKey (pos 4)) (Const (values.Int (pos 4))) ∷ actions.Put (Reg 3) (IntKey (pos 5)) (Const (values.Int (pos 5))) ∷ actions.Put (Reg 3) (IntKey (pos 6)) (Const (values.Int (pos 6))) ∷ actions.Put (Reg 3) (IntKey (pos 7)) (Const (values.Int (pos 7))) ∷ actions.Put (Reg 3) (IntKey (pos 8)) (Const (values.Int (pos 8))) ∷ actions.Put (Reg 3) (IntKey (pos 9)) (Const (values.Int (pos 9))) ∷ actions.Put (Reg 3) (IntKey (pos 10)) (Const (values.Int (pos 10))) ∷ actions.Put (Reg 3) (IntKey (pos 11)) (Const (values.Int (pos 11))) ∷ actions.Put (Reg 3) (IntKey (pos 12)) (Const (values.Int (pos 12))) ∷ actions.Put (Reg 3) (IntKey (pos 13)) (Const (values.Int (pos 13))) ∷ actions.Put (Reg 3) (IntKey (pos 14)) (Const (values.Int (pos 14))) ∷ actions.Put (Reg 3) (IntKey (pos 15)) (Const (values.Int (pos 15))) ∷ actions.Put (Reg 3) (IntKey (pos 16)) (Const (values.Int (pos 16))) ∷ actions.Put (Reg 3) (IntKey (pos 17)) (Const (values.Int (pos 17))) ∷ actions.Put (Reg 3) (IntKey (pos 18)) (Const (values.Int (pos 18))) ∷ actions.Put (Reg 3) (IntKey (pos 19)) (Const (values.Int (pos 19))) ∷ actions.Put (Reg 3) (IntKey (pos 20)) (Const (values.Int (pos 20))) ∷ actions.Put (Reg 3) (IntKey (pos 21)) (Const (values.Int (pos 21))) ∷ actions.Put (Reg 3) (IntKey (pos 22)) (Const (values.Int (pos 22))) ∷ actions.Put (Reg 3) (IntKey (pos 23)) (Const (values.Int (pos 23))) ∷ actions.Put (Reg 3) (IntKey (pos 24)) (Const (values.Int (pos 24))) ∷ actions.Put (Reg 3) (IntKey (pos 25)) (Const (values.Int (pos 25))) ∷ actions.Put (Reg 3) (IntKey (pos 26)) (Const (values.Int (pos 26))) ∷ actions.Put (Reg 3) (IntKey (pos 27)) (Const (values.Int (pos 27))) ∷ actions.Put (Reg 3) (IntKey (pos 28)) (Const (values.Int (pos 28))) ∷ actions.Put (Reg 3) (IntKey (pos 29)) (Const (values.Int (pos 29))) ∷ actions.Remove (Reg 3) (IntKey (pos 5)) ∷ actions.Put (Reg 3) (IntKey (pos 99)) (Reg 3) ∷ actions.Enumerate 2 (Reg 3) ∷ actions.Return (Reg 2) ∷ []) ∷
            members.Method (Str (codes "take")) [] ∷
            members.Method (Str (codes "m2")) (actions.Load 2 0 ∷ actions.Load 2 2 ∷ actions.Set 3 (Reg 3) ∷ actions.Enumerate 4 (Reg 2) ∷ []) ∷
            members.Method (Str (codes "m3")) (actions.Load 3 1 ∷ actions.Load 2 0 ∷ actions.New 3 (codes "Window") ∷ actions.Drop 3 ∷ []) ∷
            members.Method (IntKey (pos 4)) (actions.Put (Reg 3) (Str (codes "f0")) (Reg 3) ∷ actions.Invoke 2 (Reg 0) (Str (codes "take")) (Reg 7 ∷ Reg 0 ∷ Const (values.Int (pos 13)) ∷ []) ∷ []) ∷ []);
      }) ∷ []);
  resources = (
      resource (codes "r") (codes "t/p") 1 (codes "0123456789") ∷
      resource (codes "s") (codes "t/p") 4 (195 ∷ 164 ∷ 226 ∷ 130 ∷ 172 ∷ []) ∷ []);
  commands = (
      commands.Create (codes "t/x") 1 [] ∷
      commands.Scriptable 0 1 ∷
      commands.New 2 1 (codes "Window") ∷
      commands.New 3 1 (codes "Window") ∷
      commands.OpenStream 1 (codes "r") ∷
      commands.Pump 2 ∷
      commands.Invoke 5 (Reg 2) (Str (codes "m2")) (Reg 0 ∷ Reg 3 ∷ Reg 2 ∷ []) ∷
      commands.Invoke 5 (Reg 0) (Str (codes "m1")) (Reg 2 ∷ Reg 0 ∷ Reg 3 ∷ []) ∷
      commands.Invoke 5 (Reg 3) (Str (codes "m1")) (Reg 1 ∷ Reg 0 ∷ Reg 3 ∷ []) ∷
      commands.Invoke 5 (Reg 4) (Str (codes "m3")) (Reg 4 ∷ Reg 2 ∷ Reg 3 ∷ []) ∷
      commands.Drop 2 ∷
      commands.Invoke 4 (Reg 3) (Str (codes "m0")) (Reg 4 ∷ Reg 2 ∷ Reg 1 ∷ []) ∷
      commands.Turn ∷
      commands.Turn ∷
      commands.Invoke 4 (Reg 3) (Str (codes "take")) (Reg 0 ∷ []) ∷
      commands.Invoke 5 (Reg 4) (Str (codes "take")) (Reg 0 ∷ Reg 4 ∷ Reg 2 ∷ []) ∷
      commands.Invoke 4 (Reg 1) (Str (codes "take")) (Reg 3 ∷ Reg 2 ∷ Reg 2 ∷ []) ∷
      commands.Pump 2 ∷
      commands.Pump 7 ∷
      commands.Invoke 4 (Reg 4) (Str (codes "m3")) (Reg 5 ∷ Reg 4 ∷ Reg 3 ∷ []) ∷ []);
}

abbrev got-got : List Message
got-got = (
    (record { depth = record { level = 1; task = false }; releases = []; body = payloads.Code NoError }) ∷
    (record { depth = record { level = 2; task = false }; releases = []; body = payloads.Window 1 }) ∷
    (record { depth = record { level = 1; task = false }; releases = []; body = payloads.Code NoError }) ∷
    (record { depth = record { level = 1; task = false }; releases = []; body = payloads.True (values.Object (record { side = sides.Plug; instance = 1; serial = 1 })) }) ∷
    (record { depth = record { level = 2; task = false }; releases = []; body = payloads.RequestRead 1 1 ((record { offset = negsuc 2; length = 2 }) ∷ (record { offset = negsuc 0; length = 1 }) ∷ []) }) ∷
    (record { depth = record { level = 1; task = false }; releases = []; body = payloads.Number (pos 2) }) ∷
    (record { depth = record { level = 1; task = false }; releases = ((record { instance = 1; serial = 2; times = 1 }) ∷ (record { instance = 1; serial = 3; times = 1 }) ∷ []); body = payloads.True (values.Int (pos 64)) }) ∷
    (record { depth = record { level = 1; task = false }; releases = []; body = payloads.Done }) ∷
    (record { depth = record { level = 1; task = false }; releases = []; body = payloads.Done }) ∷
    (record { depth = record { level = 1; task = false }; releases = []; body = payloads.Code NoError }) ∷ [])

-- the page with these messages
got : page_outcome 1500 page got-got ≡ record {
  refusal = None;
  page = (
      Created (record { side = sides.Page; instance = 1; serial = 1 }) ∷
      CommandResult 1 (results.Code NoError) ∷
      CommandResult 2 (results.Yes (values.Object (record { side = sides.Plug; instance = 1; serial = 1 })) false) ∷
      Created (record { side = sides.Page; instance = 1; serial = 2 }) ∷
      CommandResult 3 (results.Yes (values.Object (record { side = sides.Page; instance = 1; serial = 2 })) false) ∷
      Created (record { side = sides.Page; instance = 1; serial = 3 }) ∷
      CommandResult 4 (results.Yes (values.Object (record { side = sides.Page; instance = 1; serial = 3 })) false) ∷
      CommandResult 5 (results.Code NoError) ∷
      StreamAnswered 1 (streams.New (pos 2)) ∷
      CommandResult 6 (results.Pumped 1) ∷
      Entered (record { side = sides.Page; instance = 1; serial = 2 }) (ops.Invoke (Str (codes "m2"))) ∷
      Noted (values.Int (pos 2147483647)) false ∷
      CommandResult 7 (results.Yes values.Void false) ∷
      CommandResult 8 (results.Yes (values.Int (pos 64)) false) ∷
      Entered (record { side = sides.Page; instance = 1; serial = 3 }) (ops.Invoke (Str (codes "m1"))) ∷
      CommandResult 9 (results.Yes values.Void false) ∷
      CommandResult 10 results.No ∷
      Deallocated (record { side = sides.Page; instance = 1; serial = 2 }) ∷
      CommandResult 11 (results.Yes values.Void false) ∷
      Entered (record { side = sides.Page; instance = 1; serial = 3 }) (ops.Invoke (Str (codes "m0"))) ∷
      CommandResult 12 (results.Yes values.Void false) ∷
      CommandResult 13 (results.Yes values.Void false) ∷
      CommandResult 14 (results.Yes values.Void false) ∷
      Entered (record { side = sides.Page; instance = 1; serial = 3 }) (ops.Invoke (Str (codes "take"))) ∷
      Created (record { side = sides.Page; instance = 1; serial = 4 }) ∷
      Created (record { side = sides.Page; instance = 1; serial = 5 }) ∷
      Created (record { side = sides.Page; instance = 1; serial = 6 }) ∷
      Deallocated (record { side = sides.Page; instance = 1; serial = 4 }) ∷
      Deallocated (record { side = sides.Page; instance = 1; serial = 6 }) ∷
      Deallocated (record { side = sides.Page; instance = 1; serial = 5 }) ∷
      CommandResult 15 (results.Yes values.Void false) ∷
      CommandResult 16 results.No ∷
      CommandResult 17 results.No ∷
      CommandResult 18 (results.Pumped 0) ∷
      CommandResult 19 (results.Pumped 0) ∷
      CommandResult 20 results.No ∷
      ProxyGone (record { side = sides.Plug; instance = 1; serial = 1 }) ∷
      Invalidated (record { side = sides.Page; instance = 1; serial = 1 }) ∷
      Invalidated (record { side = sides.Page; instance = 1; serial = 3 }) ∷
      Deallocated (record { side = sides.Page; instance = 1; serial = 1 }) ∷
      Deallocated (record { side = sides.Page; instance = 1; serial = 3 }) ∷ []);
}
unfolding encoding digits is_text is_utf8 chars encode_utf8
got = refl
