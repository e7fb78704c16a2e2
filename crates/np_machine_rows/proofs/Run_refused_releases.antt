-- Made by tools/vector-theorems of tests/vectors/refused-releases.
use Rattle.std.proofs.Common.{◌≡◌, List, [], ◌∷◌, refl, false, Some}
use Rattle.std.specs.Prelude.{codes}
use Rattle.std.specs.Char.{encode_utf8}
use Rattle.std.specs.Fmt.{digits}
use Rattle.std.specs.Str.{is_utf8, chars}
use Rattle.np_values.specs.declared.error.NpError.TheVariants.{NoError}
use Rattle.np_values.specs.declared.name.Side.TheVariants as sides
use Rattle.np_values.specs.declared.value.Value.TheVariants as values
use Rattle.np_values.specs.Text.{is_text}
use Rattle.np_idents.specs.declared.key.IdKey.TheVariants.{Str}
use Rattle.np_script_grammar.specs.declared.action.Operand.TheVariants.{Reg}
use Rattle.np_script_grammar.specs.declared.command.Command.TheVariants as commands
use Rattle.np_script_grammar.specs.declared.page.Page.{Page}
use Rattle.np_message.specs.Encoding.{encoding}
use Rattle.np_message.specs.Message.{Message}
use Rattle.np_message.specs.declared.payload.Payload.TheVariants as payloads
use Rattle.np_journal.specs.declared.line.Line.TheVariants.{Created, ProxyGone, Invalidated, Deallocated, CommandResult}
use Rattle.np_journal.specs.declared.printed.Printed.TheVariants as results
use Rattle.np_machine.specs.declared.refusal.Rule.TheVariants as rules
use Rattle.np_machine_plans.specs.Outcomes.{page_outcome}

abbrev page : Page
page = record {
  major = 0;
  minor = 27;
  classes = (
      (record {
        name = codes "Bag";
        version = 3;
        stored = false;
        members = [];
      }) ∷ []);
  resources = [];
  commands = (
      commands.Create (codes "t/x") 1 [] ∷
      commands.Scriptable 0 1 ∷
      commands.New 1 1 (codes "Bag") ∷
      commands.Invoke 2 (Reg 0) (Str (codes "f")) (Reg 1 ∷ Reg 1 ∷ []) ∷ []);
}

abbrev got-three-of-two : List Message
got-three-of-two = (
    (record { depth = record { level = 1; task = false }; releases = []; body = payloads.Code NoError }) ∷
    (record { depth = record { level = 1; task = false }; releases = []; body = payloads.Code NoError }) ∷
    (record { depth = record { level = 1; task = false }; releases = []; body = payloads.True (values.Object (record { side = sides.Plug; instance = 1; serial = 1 })) }) ∷
    (record { depth = record { level = 1; task = false }; releases = ((record { instance = 1; serial = 1; times = 3 }) ∷ []); body = payloads.True values.Void }) ∷ [])

-- the page with these messages
three-of-two : page_outcome 1500 page got-three-of-two ≡ record {
  refusal = Some (record { place = 3; rule = rules.TooMany; first = 3; second = 2 });
  page = (
      CommandResult 1 (results.Code NoError) ∷
      CommandResult 2 (results.Yes (values.Object (record { side = sides.Plug; instance = 1; serial = 1 })) false) ∷
      Created (record { side = sides.Page; instance = 1; serial = 1 }) ∷
      CommandResult 3 (results.Yes (values.Object (record { side = sides.Page; instance = 1; serial = 1 })) false) ∷
      ProxyGone (record { side = sides.Plug; instance = 1; serial = 1 }) ∷
      Invalidated (record { side = sides.Page; instance = 1; serial = 1 }) ∷
      Deallocated (record { side = sides.Page; instance = 1; serial = 1 }) ∷
      CommandResult 4 results.No ∷ []);
}
unfolding encoding digits is_text is_utf8 chars encode_utf8
three-of-two = refl
