-- Made by tools/vector-theorems of tests/vectors/worked-properties.
use Rattle.std.proofs.Common.{◌≡◌, pos, [], ◌∷◌, refl, true, false}
use Rattle.std.specs.Prelude.{codes}
use Rattle.std.specs.Char.{encode_utf8}
use Rattle.std.specs.Fmt.{digits}
use Rattle.std.specs.Str.{is_utf8, chars}
use Rattle.np_values.specs.declared.error.NpError.TheVariants.{NoError}
use Rattle.np_values.specs.declared.name.Side.TheVariants as sides
use Rattle.np_values.specs.declared.value.Value.TheVariants as values
use Rattle.np_values.specs.Text.{is_text}
use Rattle.np_idents.specs.declared.key.IdKey.TheVariants.{Str, Int as IntKey}
use Rattle.np_idents.specs.declared.op.Op.TheVariants as ops
use Rattle.np_script_grammar.specs.declared.action.Operand.TheVariants.{Reg, Const}
use Rattle.np_script_grammar.specs.declared.command.Command.TheVariants as commands
use Rattle.np_script_grammar.specs.declared.page.Page.{Page}
use Rattle.np_script_grammar.specs.declared.plugin.Plugin.{Plugin}
use Rattle.np_message.specs.Encoding.{encoding}
use Rattle.np_journal.specs.declared.line.Line.TheVariants.{Created, Entered, Invalidated, Deallocated, CommandResult}
use Rattle.np_journal.specs.declared.printed.Printed.TheVariants as results
use Rattle.np_machine_plans.specs.Outcomes.{outcome}

abbrev page : Page
page = record {
  major = 0;
  minor = 27;
  classes = (
      (record {
        name = codes "Bag";
        version = 3;
        stored = true;
        members = [];
      }) ∷ []);
  resources = [];
  commands = (
      commands.Create (codes "t/x") 1 [] ∷
      commands.New 0 1 (codes "Bag") ∷
      commands.Put (Reg 0) (Str (codes "12")) (Const (values.Int (pos 1))) ∷
      commands.Put (Reg 0) (IntKey (pos 12)) (Const (values.Int (pos 2))) ∷
      commands.Get 1 (Reg 0) (Str (codes "12")) ∷
      commands.Get 1 (Reg 0) (IntKey (pos 12)) ∷
      commands.Enumerate 2 (Reg 0) ∷ []);
}

abbrev plugin : Plugin
plugin = record {
  major = 0;
  minor = 27;
  classes = [];
  handlers = [];
  tasks = [];
}

-- the run of both
both-end : outcome 1500 page plugin ≡ record {
  page = (
      CommandResult 1 (results.Code NoError) ∷
      Created (record { side = sides.Page; instance = 1; serial = 1 }) ∷
      CommandResult 2 (results.Yes (values.Object (record { side = sides.Page; instance = 1; serial = 1 })) false) ∷
      Entered (record { side = sides.Page; instance = 1; serial = 1 }) (ops.Put (Str (codes "12"))) ∷
      CommandResult 3 (results.Yes values.Void false) ∷
      Entered (record { side = sides.Page; instance = 1; serial = 1 }) (ops.Put (IntKey (pos 12))) ∷
      CommandResult 4 (results.Yes values.Void false) ∷
      Entered (record { side = sides.Page; instance = 1; serial = 1 }) (ops.Get (Str (codes "12"))) ∷
      CommandResult 5 (results.Yes (values.Int (pos 1)) false) ∷
      Entered (record { side = sides.Page; instance = 1; serial = 1 }) (ops.Get (IntKey (pos 12))) ∷
      CommandResult 6 (results.Yes (values.Int (pos 2)) false) ∷
      Entered (record { side = sides.Page; instance = 1; serial = 1 }) ops.Enumerate ∷
      CommandResult 7 (results.Ids (Str (codes "12") ∷ IntKey (pos 12) ∷ [])) ∷
      Invalidated (record { side = sides.Page; instance = 1; serial = 1 }) ∷
      Deallocated (record { side = sides.Page; instance = 1; serial = 1 }) ∷ []);
  plugin = [];
  files = [];
  rests = true;
}
unfolding encoding digits is_text is_utf8 chars encode_utf8
both-end = refl
