-- Worked runs that tell these definitions from others, by computing.
use Rattle.std.proofs.Common.{List, Some, [], false, refl, true, ◌∷◌, ◌≡◌}
use Rattle.std.specs.Char.{encode_utf8}
use Rattle.std.specs.Fmt.{digits}
use Rattle.std.specs.Prelude.{codes}
use Rattle.std.specs.Str.{chars, is_utf8}
use Rattle.np_values.specs.Text.{is_text}
use Rattle.np_values.specs.declared.error.NpError.TheVariants.{NoError}
use Rattle.np_values.specs.declared.name.Side.TheVariants as sides
use Rattle.np_values.specs.declared.value.Value.TheVariants as values
use Rattle.np_idents.specs.declared.key.IdKey.TheVariants.{Str}
use Rattle.np_idents.specs.declared.op.Op.TheVariants as ops
use Rattle.np_script_grammar.specs.declared.action.Action.TheVariants as actions
use Rattle.np_script_grammar.specs.declared.action.Operand.TheVariants.{Reg}
use Rattle.np_script_grammar.specs.declared.class.Member.TheVariants as members
use Rattle.np_script_grammar.specs.declared.command.Command.TheVariants as commands
use Rattle.np_script_grammar.specs.declared.page.Page.{Page}
use Rattle.np_script_grammar.specs.declared.plugin.Plugin.{Plugin}
use Rattle.np_message.specs.Message.{Message}
use Rattle.np_message.specs.declared.payload.Payload.TheVariants as payloads
use Rattle.np_journal.specs.declared.line.Line.TheVariants.{CommandResult, Created, Deallocated, Entered, Invalidated}
use Rattle.np_journal.specs.declared.printed.Printed.TheVariants as results
use Rattle.np_machine.specs.declared.refusal.Rule.TheVariants as rules
use Rattle.np_machine_plans.specs.Outcomes.{outcome, page_outcome}

abbrev keeping-page : Page
keeping-page = record {
  major = 0;
  minor = 27;
  classes = (
      (record {
        name = codes "W";
        version = 3;
        stored = false;
        members = (
            members.Method (Str (codes "keep")) (actions.Slot 0 (Reg 0) ∷ []) ∷ []);
      }) ∷ []);
  resources = [];
  commands = (
      commands.Create (codes "t/x") 1 [] ∷
      commands.Create (codes "t/x") 1 [] ∷
      commands.New 0 1 (codes "W") ∷
      commands.New 1 2 (codes "W") ∷
      commands.Invoke 2 (Reg 0) (Str (codes "keep")) (Reg 1 ∷ []) ∷
      commands.Drop 1 ∷
      commands.Destroy 1 ∷ []);
}

abbrev no-plugin : Plugin
no-plugin = record {
  major = 0;
  minor = 27;
  classes = [];
  handlers = [];
  tasks = [];
}

-- A slot of the instance holds the only reference to an object of another instance, which is deallocated after those of the instance.
slots-before-deaths : outcome 60 keeping-page no-plugin ≡ record {
  page = (
      CommandResult 1 (results.Code NoError) ∷
      CommandResult 2 (results.Code NoError) ∷
      Created (record { side = sides.Page; instance = 1; serial = 1 }) ∷
      CommandResult 3 (results.Yes (values.Object (record { side = sides.Page; instance = 1; serial = 1 })) false) ∷
      Created (record { side = sides.Page; instance = 2; serial = 1 }) ∷
      CommandResult 4 (results.Yes (values.Object (record { side = sides.Page; instance = 2; serial = 1 })) false) ∷
      Entered (record { side = sides.Page; instance = 1; serial = 1 }) (ops.Invoke (Str (codes "keep"))) ∷
      CommandResult 5 (results.Yes values.Void false) ∷
      CommandResult 6 (results.Yes values.Void false) ∷
      Invalidated (record { side = sides.Page; instance = 1; serial = 1 }) ∷
      Deallocated (record { side = sides.Page; instance = 1; serial = 1 }) ∷
      Deallocated (record { side = sides.Page; instance = 2; serial = 1 }) ∷
      CommandResult 7 (results.Code NoError) ∷ []);
  plugin = [];
  files = [];
  rests = true;
}
unfolding digits is_text is_utf8 chars encode_utf8
slots-before-deaths = refl

abbrev turning-page : Page
turning-page = record {
  major = 0;
  minor = 27;
  classes = [];
  resources = [];
  commands = (
      commands.Create (codes "t/x") 1 [] ∷
      commands.Turn ∷ []);
}

abbrev got-names-before-releases : List Message
got-names-before-releases = (
    (record { depth = record { level = 1; task = false }; releases = []; body = payloads.Code NoError }) ∷
    (record { depth = record { level = 1; task = false }; releases = []; body = payloads.Code NoError }) ∷
    (record { depth = record { level = 2; task = false }; releases = ((record { instance = 1; serial = 1; times = 1 }) ∷ []); body = payloads.Call 1 2 (ops.Invoke (Str (codes "f"))) [] }) ∷ [])

-- A call of an object that is not out, with a release of another such object: the name is refused first.
names-before-releases : page_outcome 60 turning-page got-names-before-releases ≡ record {
  refusal = Some (record { place = 2; rule = rules.Unknown; first = 1; second = 2 });
  page = (
      CommandResult 1 (results.Code NoError) ∷
      CommandResult 2 results.No ∷ []);
}
unfolding digits is_text is_utf8 chars encode_utf8
names-before-releases = refl
