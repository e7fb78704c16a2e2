-- Made by tools/vector-theorems of tests/vectors/worked-cycle.
use Rattle.std.proofs.Common.{◌≡◌, [], ◌∷◌, refl, true}
use Rattle.std.specs.Prelude.{codes}
use Rattle.std.specs.Char.{encode_utf8}
use Rattle.std.specs.Fmt.{digits}
use Rattle.std.specs.Str.{is_utf8, chars}
use Rattle.np_values.specs.declared.error.NpError.TheVariants.{NoError, InvalidInstance}
use Rattle.np_values.specs.declared.handler.Handler.TheVariants as handlers
use Rattle.np_values.specs.declared.name.Side.TheVariants as sides
use Rattle.np_values.specs.Text.{is_text}
use Rattle.np_idents.specs.declared.key.IdKey.TheVariants.{Str}
use Rattle.np_idents.specs.declared.op.Op.TheVariants as ops
use Rattle.np_script_grammar.specs.declared.action.Action.TheVariants as actions
use Rattle.np_script_grammar.specs.declared.action.Operand.TheVariants.{Reg}
use Rattle.np_script_grammar.specs.declared.command.Command.TheVariants as commands
use Rattle.np_script_grammar.specs.declared.page.Page.{Page}
use Rattle.np_script_grammar.specs.declared.plugin.Plugin.{Plugin}
use Rattle.np_message.specs.Encoding.{encoding}
use Rattle.np_journal.specs.declared.line.Line.TheVariants.{Created, Entered, HandlerRun, Invalidated, Deallocated, CommandResult}
use Rattle.np_journal.specs.declared.printed.Printed.TheVariants as results
use Rattle.np_machine_plans.specs.Outcomes.{outcome}

abbrev page : Page
page = record {
  major = 0;
  minor = 27;
  classes = [];
  resources = [];
  commands = (
      commands.Create (codes "t/x") 1 [] ∷
      commands.Destroy 1 ∷
      commands.Destroy 1 ∷ []);
}

abbrev plugin : Plugin
plugin = record {
  major = 0;
  minor = 27;
  classes = (
      (record {
        name = codes "Node";
        version = 3;
        stored = true;
        members = [];
      }) ∷ []);
  handlers = (
      (record { which = handlers.New; body = (actions.New 0 (codes "Node") ∷ actions.New 1 (codes "Node") ∷ actions.New 2 (codes "Node") ∷ actions.Put (Reg 0) (Str (codes "next")) (Reg 1) ∷ actions.Put (Reg 1) (Str (codes "next")) (Reg 2) ∷ actions.Put (Reg 2) (Str (codes "next")) (Reg 0) ∷ []) }) ∷ []);
  tasks = [];
}

-- the run of both
both-end : outcome 1500 page plugin ≡ record {
  page = (
      CommandResult 1 (results.Code NoError) ∷
      CommandResult 2 (results.Code NoError) ∷
      CommandResult 3 (results.Code InvalidInstance) ∷ []);
  plugin = (
      HandlerRun 1 handlers.New ∷
      Created (record { side = sides.Plug; instance = 1; serial = 1 }) ∷
      Created (record { side = sides.Plug; instance = 1; serial = 2 }) ∷
      Created (record { side = sides.Plug; instance = 1; serial = 3 }) ∷
      Entered (record { side = sides.Plug; instance = 1; serial = 1 }) (ops.Put (Str (codes "next"))) ∷
      Entered (record { side = sides.Plug; instance = 1; serial = 2 }) (ops.Put (Str (codes "next"))) ∷
      Entered (record { side = sides.Plug; instance = 1; serial = 3 }) (ops.Put (Str (codes "next"))) ∷
      Invalidated (record { side = sides.Plug; instance = 1; serial = 1 }) ∷
      Invalidated (record { side = sides.Plug; instance = 1; serial = 2 }) ∷
      Invalidated (record { side = sides.Plug; instance = 1; serial = 3 }) ∷
      Deallocated (record { side = sides.Plug; instance = 1; serial = 1 }) ∷
      Deallocated (record { side = sides.Plug; instance = 1; serial = 2 }) ∷
      Deallocated (record { side = sides.Plug; instance = 1; serial = 3 }) ∷ []);
  files = [];
  rests = true;
}
unfolding encoding digits is_text is_utf8 chars encode_utf8
both-end = refl
