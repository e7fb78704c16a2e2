-- Made by tools/vector-theorems of tests/vectors/trap-torn-down-once-by-the-page.
use Rattle.std.proofs.Common.{◌≡◌, List, [], ◌∷◌, refl, false, None}
use Rattle.std.specs.Prelude.{codes}
use Rattle.std.specs.Char.{encode_utf8}
use Rattle.std.specs.Fmt.{digits}
use Rattle.std.specs.Str.{is_utf8, chars}
use Rattle.np_values.specs.declared.error.NpError.TheVariants.{NoError, Generic}
use Rattle.np_values.specs.declared.name.Side.TheVariants as sides
use Rattle.np_values.specs.declared.value.Value.TheVariants as values
use Rattle.np_values.specs.Text.{is_text}
use Rattle.np_idents.specs.declared.key.IdKey.TheVariants.{Str}
use Rattle.np_idents.specs.declared.op.Op.TheVariants as ops
use Rattle.np_script_grammar.specs.declared.action.Action.TheVariants as actions
use Rattle.np_script_grammar.specs.declared.action.Operand.TheVariants.{Reg}
use Rattle.np_script_grammar.specs.declared.class.Member.TheVariants as members
use Rattle.np_script_grammar.specs.declared.command.Command.TheVariants as commands
use Rattle.np_script_grammar.specs.declared.page.Page.{Page}
use Rattle.np_message.specs.Encoding.{encoding}
use Rattle.np_message.specs.Message.{Message}
use Rattle.np_message.specs.declared.payload.Payload.TheVariants as payloads
use Rattle.np_journal.specs.declared.line.Line.TheVariants.{Created, Entered, ProxyGone, Invalidated, Deallocated, CommandResult}
use Rattle.np_journal.specs.declared.printed.Printed.TheVariants as results
use Rattle.np_machine_plans.specs.Outcomes.{page_outcome}

abbrev page : Page
page = record {
  major = 0;
  minor = 27;
  classes = (
      (record {
        name = codes "Window";
        version = 3;
        stored = false;
        members = (
            members.Method (Str (codes "keep")) (actions.Slot 0 (Reg 0) ∷ []) ∷
            members.Method (Str (codes "kill")) (actions.Destroy 0 2 ∷ []) ∷ []);
      }) ∷ []);
  resources = [];
  commands = (
      commands.Create (codes "t/x") 1 [] ∷
      commands.Create (codes "t/x") 1 [] ∷ []);
}

abbrev got-new-fails-after-a-destroy : List Message
got-new-fails-after-a-destroy = (
    (record { depth = record { level = 1; task = false }; releases = []; body = payloads.Code NoError }) ∷
    (record { depth = record { level = 2; task = false }; releases = []; body = payloads.Window 1 }) ∷
    (record { depth = record { level = 1; task = false }; releases = []; body = payloads.Code NoError }) ∷
    (record { depth = record { level = 2; task = false }; releases = []; body = payloads.Call 1 1 (ops.Invoke (Str (codes "keep"))) (values.Object (record { side = sides.Plug; instance = 2; serial = 9 }) ∷ []) }) ∷
    (record { depth = record { level = 2; task = false }; releases = []; body = payloads.Call 1 1 (ops.Invoke (Str (codes "kill"))) [] }) ∷
    (record { depth = record { level = 3; task = false }; releases = []; body = payloads.Code NoError }) ∷
    (record { depth = record { level = 1; task = false }; releases = []; body = payloads.Code Generic }) ∷ [])

-- the page with these messages
new-fails-after-a-destroy : page_outcome 1500 page got-new-fails-after-a-destroy ≡ record {
  refusal = None;
  page = (
      Created (record { side = sides.Page; instance = 1; serial = 1 }) ∷
      CommandResult 1 (results.Code NoError) ∷
      Entered (record { side = sides.Page; instance = 1; serial = 1 }) (ops.Invoke (Str (codes "keep"))) ∷
      Entered (record { side = sides.Page; instance = 1; serial = 1 }) (ops.Invoke (Str (codes "kill"))) ∷
      ProxyGone (record { side = sides.Plug; instance = 2; serial = 9 }) ∷
      CommandResult 2 (results.Code Generic) ∷
      Invalidated (record { side = sides.Page; instance = 1; serial = 1 }) ∷
      Deallocated (record { side = sides.Page; instance = 1; serial = 1 }) ∷ []);
}
unfolding encoding digits is_text is_utf8 chars encode_utf8
new-fails-after-a-destroy = refl
