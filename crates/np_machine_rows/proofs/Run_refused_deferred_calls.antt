-- Made by tools/vector-theorems of tests/vectors/refused-deferred-calls.
use Rattle.std.proofs.Common.{◌≡◌, pos, List, [], ◌∷◌, refl, true, false, Some, None}
use Rattle.std.specs.Prelude.{codes}
use Rattle.std.specs.Char.{encode_utf8}
use Rattle.std.specs.Fmt.{digits}
use Rattle.std.specs.Str.{is_utf8, chars}
use Rattle.np_values.specs.declared.error.NpError.TheVariants.{NoError}
use Rattle.np_values.specs.declared.name.Side.TheVariants as sides
use Rattle.np_values.specs.declared.value.Value.TheVariants as values
use Rattle.np_values.specs.Text.{is_text}
use Rattle.np_idents.specs.declared.key.IdKey.TheVariants.{Str}
use Rattle.np_idents.specs.declared.op.Op.TheVariants as ops
use Rattle.np_script_grammar.specs.declared.action.Action.TheVariants as actions
use Rattle.np_script_grammar.specs.declared.action.Operand.TheVariants.{Reg, Const}
use Rattle.np_script_grammar.specs.declared.class.Member.TheVariants as members
use Rattle.np_script_grammar.specs.declared.command.Command.TheVariants as commands
use Rattle.np_script_grammar.specs.declared.page.Page.{Page}
use Rattle.np_message.specs.Encoding.{encoding}
use Rattle.np_message.specs.Message.{Message}
use Rattle.np_message.specs.declared.payload.Payload.TheVariants as payloads
use Rattle.np_journal.specs.declared.line.Line.TheVariants.{Created, Entered, ProxyGone, Invalidated, Deallocated, Noted, CommandResult}
use Rattle.np_journal.specs.declared.printed.Printed.TheVariants as results
use Rattle.np_machine.specs.declared.refusal.Rule.TheVariants as rules
use Rattle.np_machine_plans.specs.Outcomes.{page_outcome}

abbrev page : Page
page = record {
  major = 0;
  minor = 27;
  classes = (
      (record {
        name = codes "Window";
        version = 3;
        stored = false;
        members = (
            members.Method (Str (codes "take")) (actions.Invoke 1 (Reg 0) (Str (codes "g")) [] ∷ actions.Note (Const (values.Int (pos 4))) ∷ []) ∷ []);
      }) ∷ []);
  resources = [];
  commands = (
      commands.Create (codes "t/x") 1 [] ∷
      commands.Scriptable 0 1 ∷
      commands.New 1 1 (codes "Window") ∷
      commands.Invoke 2 (Reg 0) (Str (codes "f")) (Reg 1 ∷ []) ∷
      commands.Turn ∷ []);
}

abbrev got-another-while-it-is-served : List Message
got-another-while-it-is-served = (
    (record { depth = record { level = 1; task = false }; releases = []; body = payloads.Code NoError }) ∷
    (record { depth = record { level = 1; task = false }; releases = []; body = payloads.Code NoError }) ∷
    (record { depth = record { level = 1; task = false }; releases = []; body = payloads.True (values.Object (record { side = sides.Plug; instance = 1; serial = 1 })) }) ∷
    (record { depth = record { level = 1; task = true }; releases = []; body = payloads.Call 1 1 (ops.Invoke (Str (codes "take"))) (values.Object (record { side = sides.Plug; instance = 1; serial = 1 }) ∷ []) }) ∷
    (record { depth = record { level = 1; task = false }; releases = []; body = payloads.True values.Void }) ∷
    (record { depth = record { level = 3; task = true }; releases = []; body = payloads.Call 1 1 (ops.Invoke (Str (codes "take"))) [] }) ∷ [])

-- the page with these messages
another-while-it-is-served : page_outcome 1500 page got-another-while-it-is-served ≡ record {
  refusal = Some (record { place = 5; rule = rules.Held; first = 131; second = 3 });
  page = (
      CommandResult 1 (results.Code NoError) ∷
      CommandResult 2 (results.Yes (values.Object (record { side = sides.Plug; instance = 1; serial = 1 })) false) ∷
      Created (record { side = sides.Page; instance = 1; serial = 1 }) ∷
      CommandResult 3 (results.Yes (values.Object (record { side = sides.Page; instance = 1; serial = 1 })) false) ∷
      CommandResult 4 (results.Yes values.Void false) ∷
      Entered (record { side = sides.Page; instance = 1; serial = 1 }) (ops.Invoke (Str (codes "take"))) ∷
      ProxyGone (record { side = sides.Plug; instance = 1; serial = 1 }) ∷
      Invalidated (record { side = sides.Page; instance = 1; serial = 1 }) ∷
      Deallocated (record { side = sides.Page; instance = 1; serial = 1 }) ∷
      CommandResult 5 results.No ∷ []);
}
unfolding encoding digits is_text is_utf8 chars encode_utf8
another-while-it-is-served = refl

abbrev got-another-while-it-waits : List Message
got-another-while-it-waits = (
    (record { depth = record { level = 1; task = false }; releases = []; body = payloads.Code NoError }) ∷
    (record { depth = record { level = 1; task = false }; releases = []; body = payloads.Code NoError }) ∷
    (record { depth = record { level = 1; task = false }; releases = []; body = payloads.True (values.Object (record { side = sides.Plug; instance = 1; serial = 1 })) }) ∷
    (record { depth = record { level = 1; task = true }; releases = []; body = payloads.Call 1 1 (ops.Invoke (Str (codes "take"))) (values.Object (record { side = sides.Plug; instance = 1; serial = 1 }) ∷ []) }) ∷
    (record { depth = record { level = 3; task = true }; releases = []; body = payloads.Call 1 1 (ops.Invoke (Str (codes "take"))) [] }) ∷ [])

-- the page with these messages
another-while-it-waits : page_outcome 1500 page got-another-while-it-waits ≡ record {
  refusal = Some (record { place = 4; rule = rules.Held; first = 131; second = 3 });
  page = (
      CommandResult 1 (results.Code NoError) ∷
      CommandResult 2 (results.Yes (values.Object (record { side = sides.Plug; instance = 1; serial = 1 })) false) ∷
      Created (record { side = sides.Page; instance = 1; serial = 1 }) ∷
      CommandResult 3 (results.Yes (values.Object (record { side = sides.Page; instance = 1; serial = 1 })) false) ∷
      ProxyGone (record { side = sides.Plug; instance = 1; serial = 1 }) ∷
      Invalidated (record { side = sides.Page; instance = 1; serial = 1 }) ∷
      Deallocated (record { side = sides.Page; instance = 1; serial = 1 }) ∷
      CommandResult 4 results.No ∷
      CommandResult 5 results.No ∷ []);
}
unfolding encoding digits is_text is_utf8 chars encode_utf8
another-while-it-waits = refl

abbrev got-released-before-it-is-served : List Message
got-released-before-it-is-served = (
    (record { depth = record { level = 1; task = false }; releases = []; body = payloads.Code NoError }) ∷
    (record { depth = record { level = 1; task = false }; releases = []; body = payloads.Code NoError }) ∷
    (record { depth = record { level = 1; task = false }; releases = []; body = payloads.True (values.Object (record { side = sides.Plug; instance = 1; serial = 1 })) }) ∷
    (record { depth = record { level = 1; task = true }; releases = []; body = payloads.Call 1 1 (ops.Invoke (Str (codes "take"))) [] }) ∷
    (record { depth = record { level = 1; task = false }; releases = ((record { instance = 1; serial = 1; times = 1 }) ∷ []); body = payloads.True values.Void }) ∷ [])

-- the page with these messages
released-before-it-is-served : page_outcome 1500 page got-released-before-it-is-served ≡ record {
  refusal = Some (record { place = 3; rule = rules.Unknown; first = 1; second = 1 });
  page = (
      CommandResult 1 (results.Code NoError) ∷
      CommandResult 2 (results.Yes (values.Object (record { side = sides.Plug; instance = 1; serial = 1 })) false) ∷
      Created (record { side = sides.Page; instance = 1; serial = 1 }) ∷
      CommandResult 3 (results.Yes (values.Object (record { side = sides.Page; instance = 1; serial = 1 })) false) ∷
      CommandResult 4 (results.Yes values.Void false) ∷
      ProxyGone (record { side = sides.Plug; instance = 1; serial = 1 }) ∷
      Invalidated (record { side = sides.Page; instance = 1; serial = 1 }) ∷
      Deallocated (record { side = sides.Page; instance = 1; serial = 1 }) ∷
      CommandResult 5 results.No ∷ []);
}
unfolding encoding digits is_text is_utf8 chars encode_utf8
released-before-it-is-served = refl

abbrev got-served-after-a-nested-call : List Message
got-served-after-a-nested-call = (
    (record { depth = record { level = 1; task = false }; releases = []; body = payloads.Code NoError }) ∷
    (record { depth = record { level = 1; task = false }; releases = []; body = payloads.Code NoError }) ∷
    (record { depth = record { level = 1; task = false }; releases = []; body = payloads.True (values.Object (record { side = sides.Plug; instance = 1; serial = 1 })) }) ∷
    (record { depth = record { level = 1; task = true }; releases = []; body = payloads.Call 1 1 (ops.Invoke (Str (codes "take"))) (values.Object (record { side = sides.Plug; instance = 1; serial = 1 }) ∷ []) }) ∷
    (record { depth = record { level = 1; task = false }; releases = []; body = payloads.True values.Void }) ∷
    (record { depth = record { level = 3; task = false }; releases = []; body = payloads.Call 1 1 (ops.Invoke (Str (codes "x"))) [] }) ∷
    (record { depth = record { level = 2; task = false }; releases = []; body = payloads.True values.Void }) ∷
    (record { depth = record { level = 1; task = false }; releases = []; body = payloads.Done }) ∷ [])

-- the page with these messages
served-after-a-nested-call : page_outcome 1500 page got-served-after-a-nested-call ≡ record {
  refusal = None;
  page = (
      CommandResult 1 (results.Code NoError) ∷
      CommandResult 2 (results.Yes (values.Object (record { side = sides.Plug; instance = 1; serial = 1 })) false) ∷
      Created (record { side = sides.Page; instance = 1; serial = 1 }) ∷
      CommandResult 3 (results.Yes (values.Object (record { side = sides.Page; instance = 1; serial = 1 })) false) ∷
      CommandResult 4 (results.Yes values.Void false) ∷
      Entered (record { side = sides.Page; instance = 1; serial = 1 }) (ops.Invoke (Str (codes "take"))) ∷
      Noted (values.Int (pos 4)) false ∷
      CommandResult 5 (results.Yes values.Void false) ∷
      ProxyGone (record { side = sides.Plug; instance = 1; serial = 1 }) ∷
      Invalidated (record { side = sides.Page; instance = 1; serial = 1 }) ∷
      Deallocated (record { side = sides.Page; instance = 1; serial = 1 }) ∷ []);
}
unfolding encoding digits is_text is_utf8 chars encode_utf8
served-after-a-nested-call = refl

abbrev got-served : List Message
got-served = (
    (record { depth = record { level = 1; task = false }; releases = []; body = payloads.Code NoError }) ∷
    (record { depth = record { level = 1; task = false }; releases = []; body = payloads.Code NoError }) ∷
    (record { depth = record { level = 1; task = false }; releases = []; body = payloads.True (values.Object (record { side = sides.Plug; instance = 1; serial = 1 })) }) ∷
    (record { depth = record { level = 1; task = true }; releases = ((record { instance = 1; serial = 1; times = 1 }) ∷ []); body = payloads.Call 1 1 (ops.Invoke (Str (codes "take"))) (values.Int (pos 3) ∷ []) }) ∷
    (record { depth = record { level = 1; task = false }; releases = []; body = payloads.True values.Void }) ∷
    (record { depth = record { level = 1; task = false }; releases = []; body = payloads.Done }) ∷ [])

-- the page with these messages
served : page_outcome 1500 page got-served ≡ record {
  refusal = None;
  page = (
      CommandResult 1 (results.Code NoError) ∷
      CommandResult 2 (results.Yes (values.Object (record { side = sides.Plug; instance = 1; serial = 1 })) false) ∷
      Created (record { side = sides.Page; instance = 1; serial = 1 }) ∷
      CommandResult 3 (results.Yes (values.Object (record { side = sides.Page; instance = 1; serial = 1 })) false) ∷
      CommandResult 4 (results.Yes values.Void false) ∷
      Entered (record { side = sides.Page; instance = 1; serial = 1 }) (ops.Invoke (Str (codes "take"))) ∷
      Noted (values.Int (pos 4)) false ∷
      CommandResult 5 (results.Yes values.Void false) ∷
      ProxyGone (record { side = sides.Plug; instance = 1; serial = 1 }) ∷
      Invalidated (record { side = sides.Page; instance = 1; serial = 1 }) ∷
      Deallocated (record { side = sides.Page; instance = 1; serial = 1 }) ∷ []);
}
unfolding encoding digits is_text is_utf8 chars encode_utf8
served = refl

abbrev got-too-many-when-served : List Message
got-too-many-when-served = (
    (record { depth = record { level = 1; task = false }; releases = []; body = payloads.Code NoError }) ∷
    (record { depth = record { level = 1; task = false }; releases = []; body = payloads.Code NoError }) ∷
    (record { depth = record { level = 1; task = false }; releases = []; body = payloads.True (values.Object (record { side = sides.Plug; instance = 1; serial = 1 })) }) ∷
    (record { depth = record { level = 1; task = true }; releases = ((record { instance = 1; serial = 1; times = 2 }) ∷ []); body = payloads.Call 1 1 (ops.Invoke (Str (codes "take"))) [] }) ∷
    (record { depth = record { level = 1; task = false }; releases = []; body = payloads.True values.Void }) ∷ [])

-- the page with these messages
too-many-when-served : page_outcome 1500 page got-too-many-when-served ≡ record {
  refusal = Some (record { place = 3; rule = rules.TooMany; first = 2; second = 1 });
  page = (
      CommandResult 1 (results.Code NoError) ∷
      CommandResult 2 (results.Yes (values.Object (record { side = sides.Plug; instance = 1; serial = 1 })) false) ∷
      Created (record { side = sides.Page; instance = 1; serial = 1 }) ∷
      CommandResult 3 (results.Yes (values.Object (record { side = sides.Page; instance = 1; serial = 1 })) false) ∷
      CommandResult 4 (results.Yes values.Void false) ∷
      ProxyGone (record { side = sides.Plug; instance = 1; serial = 1 }) ∷
      Invalidated (record { side = sides.Page; instance = 1; serial = 1 }) ∷
      Deallocated (record { side = sides.Page; instance = 1; serial = 1 }) ∷
      CommandResult 5 results.No ∷ []);
}
unfolding encoding digits is_text is_utf8 chars encode_utf8
too-many-when-served = refl

abbrev got-value-of-instance-2 : List Message
got-value-of-instance-2 = (
    (record { depth = record { level = 1; task = false }; releases = []; body = payloads.Code NoError }) ∷
    (record { depth = record { level = 1; task = false }; releases = []; body = payloads.Code NoError }) ∷
    (record { depth = record { level = 1; task = false }; releases = []; body = payloads.True (values.Object (record { side = sides.Plug; instance = 1; serial = 1 })) }) ∷
    (record { depth = record { level = 1; task = true }; releases = []; body = payloads.Call 1 1 (ops.Invoke (Str (codes "take"))) (values.Object (record { side = sides.Plug; instance = 2; serial = 1 }) ∷ []) }) ∷
    (record { depth = record { level = 1; task = false }; releases = []; body = payloads.True values.Void }) ∷ [])

-- the page with these messages
value-of-instance-2 : page_outcome 1500 page got-value-of-instance-2 ≡ record {
  refusal = Some (record { place = 3; rule = rules.Unknown; first = 2; second = 1 });
  page = (
      CommandResult 1 (results.Code NoError) ∷
      CommandResult 2 (results.Yes (values.Object (record { side = sides.Plug; instance = 1; serial = 1 })) false) ∷
      Created (record { side = sides.Page; instance = 1; serial = 1 }) ∷
      CommandResult 3 (results.Yes (values.Object (record { side = sides.Page; instance = 1; serial = 1 })) false) ∷
      CommandResult 4 (results.Yes values.Void false) ∷
      ProxyGone (record { side = sides.Plug; instance = 1; serial = 1 }) ∷
      Invalidated (record { side = sides.Page; instance = 1; serial = 1 }) ∷
      Deallocated (record { side = sides.Page; instance = 1; serial = 1 }) ∷
      CommandResult 5 results.No ∷ []);
}
unfolding encoding digits is_text is_utf8 chars encode_utf8
value-of-instance-2 = refl

abbrev got-value-that-is-not-there : List Message
got-value-that-is-not-there = (
    (record { depth = record { level = 1; task = false }; releases = []; body = payloads.Code NoError }) ∷
    (record { depth = record { level = 1; task = false }; releases = []; body = payloads.Code NoError }) ∷
    (record { depth = record { level = 1; task = false }; releases = []; body = payloads.True (values.Object (record { side = sides.Plug; instance = 1; serial = 1 })) }) ∷
    (record { depth = record { level = 1; task = true }; releases = []; body = payloads.Call 1 1 (ops.Invoke (Str (codes "take"))) (values.Object (record { side = sides.Page; instance = 1; serial = 2 }) ∷ []) }) ∷
    (record { depth = record { level = 1; task = false }; releases = []; body = payloads.True values.Void }) ∷ [])

-- the page with these messages
value-that-is-not-there : page_outcome 1500 page got-value-that-is-not-there ≡ record {
  refusal = Some (record { place = 3; rule = rules.Unknown; first = 1; second = 2 });
  page = (
      CommandResult 1 (results.Code NoError) ∷
      CommandResult 2 (results.Yes (values.Object (record { side = sides.Plug; instance = 1; serial = 1 })) false) ∷
      Created (record { side = sides.Page; instance = 1; serial = 1 }) ∷
      CommandResult 3 (results.Yes (values.Object (record { side = sides.Page; instance = 1; serial = 1 })) false) ∷
      CommandResult 4 (results.Yes values.Void false) ∷
      ProxyGone (record { side = sides.Plug; instance = 1; serial = 1 }) ∷
      Invalidated (record { side = sides.Page; instance = 1; serial = 1 }) ∷
      Deallocated (record { side = sides.Page; instance = 1; serial = 1 }) ∷
      CommandResult 5 results.No ∷ []);
}
unfolding encoding digits is_text is_utf8 chars encode_utf8
value-that-is-not-there = refl
