-- Made by tools/vector-theorems of tests/vectors/trap-unwound-before-its-false.
use Rattle.std.proofs.Common.{◌≡◌, [], ◌∷◌, refl, true, false}
use Rattle.std.specs.Prelude.{codes}
use Rattle.std.specs.Char.{encode_utf8}
use Rattle.std.specs.Fmt.{digits}
use Rattle.std.specs.Str.{is_utf8, chars}
use Rattle.np_values.specs.declared.error.NpError.TheVariants.{NoError}
use Rattle.np_values.specs.declared.name.Side.TheVariants as sides
use Rattle.np_values.specs.declared.value.Value.TheVariants as values
use Rattle.np_values.specs.Text.{is_text}
use Rattle.np_idents.specs.declared.key.IdKey.TheVariants.{Str}
use Rattle.np_idents.specs.declared.op.Op.TheVariants as ops
use Rattle.np_script_grammar.specs.declared.action.Action.TheVariants as actions
use Rattle.np_script_grammar.specs.declared.action.Operand.TheVariants.{Reg}
use Rattle.np_script_grammar.specs.declared.class.Member.TheVariants as members
use Rattle.np_script_grammar.specs.declared.command.Command.TheVariants as commands
use Rattle.np_script_grammar.specs.declared.page.Page.{Page}
use Rattle.np_script_grammar.specs.declared.plugin.Plugin.{Plugin}
use Rattle.np_message.specs.Encoding.{encoding}
use Rattle.np_journal.specs.declared.line.Line.TheVariants.{Created, Entered, Invalidated, Deallocated, CommandResult}
use Rattle.np_journal.specs.declared.printed.Printed.TheVariants as results
use Rattle.np_machine_plans.specs.Outcomes.{outcome}

abbrev page : Page
page = record {
  major = 0;
  minor = 27;
  classes = (
      (record {
        name = codes "W";
        version = 3;
        stored = false;
        members = (
            members.Method (Str (codes "outer")) (actions.New 1 (codes "W") ∷ actions.SelfTo 2 ∷ actions.Invoke 1 (Reg 0) (Str (codes "inner")) (Reg 2 ∷ []) ∷ []) ∷
            members.Method (Str (codes "inner")) (actions.Invoke 1 (Reg 0) (Str (codes "make")) [] ∷ actions.Destroy 2 1 ∷ []) ∷
            members.Method (Str (codes "make")) (actions.New 0 (codes "W") ∷ actions.Return (Reg 0) ∷ []) ∷ []);
      }) ∷ []);
  resources = [];
  commands = (
      commands.Create (codes "t/x") 1 [] ∷
      commands.Create (codes "t/x") 1 [] ∷
      commands.New 0 1 (codes "W") ∷
      commands.New 1 2 (codes "W") ∷
      commands.Invoke 2 (Reg 1) (Str (codes "outer")) (Reg 0 ∷ []) ∷ []);
}

abbrev plugin : Plugin
plugin = record {
  major = 0;
  minor = 27;
  classes = [];
  handlers = [];
  tasks = [];
}

-- the run of both
both-end : outcome 1500 page plugin ≡ record {
  page = (
      CommandResult 1 (results.Code NoError) ∷
      CommandResult 2 (results.Code NoError) ∷
      Created (record { side = sides.Page; instance = 1; serial = 1 }) ∷
      CommandResult 3 (results.Yes (values.Object (record { side = sides.Page; instance = 1; serial = 1 })) false) ∷
      Created (record { side = sides.Page; instance = 2; serial = 1 }) ∷
      CommandResult 4 (results.Yes (values.Object (record { side = sides.Page; instance = 2; serial = 1 })) false) ∷
      Entered (record { side = sides.Page; instance = 2; serial = 1 }) (ops.Invoke (Str (codes "outer"))) ∷
      Created (record { side = sides.Page; instance = 2; serial = 2 }) ∷
      Entered (record { side = sides.Page; instance = 1; serial = 1 }) (ops.Invoke (Str (codes "inner"))) ∷
      Entered (record { side = sides.Page; instance = 2; serial = 1 }) (ops.Invoke (Str (codes "make"))) ∷
      Created (record { side = sides.Page; instance = 2; serial = 3 }) ∷
      Invalidated (record { side = sides.Page; instance = 1; serial = 1 }) ∷
      Deallocated (record { side = sides.Page; instance = 1; serial = 1 }) ∷
      Deallocated (record { side = sides.Page; instance = 2; serial = 3 }) ∷
      Deallocated (record { side = sides.Page; instance = 2; serial = 2 }) ∷
      CommandResult 5 (results.Yes values.Void false) ∷
      Invalidated (record { side = sides.Page; instance = 2; serial = 1 }) ∷
      Deallocated (record { side = sides.Page; instance = 2; serial = 1 }) ∷ []);
  plugin = [];
  files = [];
  rests = true;
}
unfolding encoding digits is_text is_utf8 chars encode_utf8
both-end = refl
