-- Made by tools/vector-theorems of tests/vectors/worked-calculator.
use Rattle.std.proofs.Common.{◌≡◌, pos, [], ◌∷◌, refl, true, false, Some}
use Rattle.std.specs.Prelude.{codes}
use Rattle.std.specs.Char.{encode_utf8}
use Rattle.std.specs.Fmt.{digits}
use Rattle.std.specs.Str.{is_utf8, chars}
use Rattle.np_values.specs.declared.error.NpError.TheVariants.{NoError, ModuleLoadFailed}
use Rattle.np_values.specs.declared.handler.Handler.TheVariants as handlers
use Rattle.np_values.specs.declared.name.Side.TheVariants as sides
use Rattle.np_values.specs.declared.value.Value.TheVariants as values
use Rattle.np_values.specs.Text.{is_text}
use Rattle.np_idents.specs.declared.key.IdKey.TheVariants.{Str}
use Rattle.np_idents.specs.declared.op.Op.TheVariants as ops
use Rattle.np_script_grammar.specs.declared.action.Action.TheVariants as actions
use Rattle.np_script_grammar.specs.declared.action.Operand.TheVariants.{Reg, Const}
use Rattle.np_script_grammar.specs.declared.class.Member.TheVariants as members
use Rattle.np_script_grammar.specs.declared.command.Command.TheVariants as commands
use Rattle.np_script_grammar.specs.declared.page.Page.{Page}
use Rattle.np_script_grammar.specs.declared.plugin.Plugin.{Plugin}
use Rattle.np_message.specs.Encoding.{encoding}
use Rattle.np_journal.specs.declared.line.Line.TheVariants.{Created, Entered, HandlerRun, ProxyGone, Invalidated, Deallocated, CommandResult}
use Rattle.np_journal.specs.declared.printed.Printed.TheVariants as results
use Rattle.np_machine_plans.specs.Outcomes.{outcome, plugin_bytes, lost_outcome}

abbrev page : Page
page = record {
  major = 0;
  minor = 27;
  classes = [];
  resources = [];
  commands = (
      commands.Create (codes "t/x") 1 [] ∷
      commands.Scriptable 0 1 ∷
      commands.Invoke 1 (Reg 0) (Str (codes "add")) (Const (values.Int (pos 2)) ∷ Const (values.Int (pos 3)) ∷ []) ∷ []);
}

abbrev plugin : Plugin
plugin = record {
  major = 0;
  minor = 27;
  classes = (
      (record {
        name = codes "Calc";
        version = 3;
        stored = false;
        members = (
            members.Method (Str (codes "add")) (actions.Add 2 (Reg 0) (Reg 1) ∷ actions.Return (Reg 2) ∷ []) ∷ []);
      }) ∷ []);
  handlers = (
      (record { which = handlers.New; body = (actions.New 0 (codes "Calc") ∷ actions.Slot 0 (Reg 0) ∷ []) }) ∷
      (record { which = handlers.Scriptable; body = (actions.Load 0 0 ∷ actions.Return (Reg 0) ∷ []) }) ∷ []);
  tasks = [];
}

-- the run of both
both-end : outcome 1500 page plugin ≡ record {
  page = (
      CommandResult 1 (results.Code NoError) ∷
      CommandResult 2 (results.Yes (values.Object (record { side = sides.Plug; instance = 1; serial = 1 })) false) ∷
      CommandResult 3 (results.Yes (values.Int (pos 5)) false) ∷
      ProxyGone (record { side = sides.Plug; instance = 1; serial = 1 }) ∷ []);
  plugin = (
      HandlerRun 1 handlers.New ∷
      Created (record { side = sides.Plug; instance = 1; serial = 1 }) ∷
      HandlerRun 1 handlers.Scriptable ∷
      Entered (record { side = sides.Plug; instance = 1; serial = 1 }) (ops.Invoke (Str (codes "add"))) ∷
      Invalidated (record { side = sides.Plug; instance = 1; serial = 1 }) ∷
      Deallocated (record { side = sides.Plug; instance = 1; serial = 1 }) ∷ []);
  files = [];
  rests = true;
}
unfolding encoding digits is_text is_utf8 chars encode_utf8
both-end = refl

-- all bytes that the plugin sends
plugin-sends : plugin_bytes 1500 page plugin ≡ (0 ∷ 0 ∷ 0 ∷ 5 ∷ 69 ∷ 1 ∷ 0 ∷ 0 ∷ 0 ∷ 0 ∷ 0 ∷ 0 ∷ 5 ∷ 69 ∷ 1 ∷ 0 ∷ 0 ∷ 0 ∷ 0 ∷ 0 ∷ 0 ∷ 11 ∷ 65 ∷ 1 ∷ 0 ∷ 0 ∷ 6 ∷ 1 ∷ 1 ∷ 0 ∷ 0 ∷ 0 ∷ 1 ∷ 0 ∷ 0 ∷ 0 ∷ 9 ∷ 65 ∷ 1 ∷ 0 ∷ 0 ∷ 3 ∷ 0 ∷ 0 ∷ 0 ∷ 5 ∷ 0 ∷ 0 ∷ 0 ∷ 5 ∷ 69 ∷ 1 ∷ 0 ∷ 0 ∷ 0 ∷ 0 ∷ 0 ∷ 0 ∷ 4 ∷ 71 ∷ 1 ∷ 0 ∷ 0 ∷ [])
unfolding encoding digits is_text is_utf8 chars encode_utf8
plugin-sends = refl

-- the plug-in's first 0 bytes hold 0 whole messages
cut-0 : lost_outcome 1500 (Some 0) page plugin ≡ record {
  page = (
      CommandResult 1 (results.Code ModuleLoadFailed) ∷
      CommandResult 2 results.No ∷
      CommandResult 3 results.No ∷ []);
  rests = true;
}
unfolding encoding digits is_text is_utf8 chars encode_utf8
cut-0 = refl

-- the plug-in's first 11 bytes hold 1 whole messages
cut-11 : lost_outcome 1500 (Some 1) page plugin ≡ record {
  page = (
      CommandResult 1 (results.Code ModuleLoadFailed) ∷
      CommandResult 2 results.No ∷
      CommandResult 3 results.No ∷ []);
  rests = true;
}
unfolding encoding digits is_text is_utf8 chars encode_utf8
cut-11 = refl

-- the plug-in's first 45 bytes hold 3 whole messages
cut-45 : lost_outcome 1500 (Some 3) page plugin ≡ record {
  page = (
      CommandResult 1 (results.Code NoError) ∷
      CommandResult 2 (results.Yes (values.Object (record { side = sides.Plug; instance = 1; serial = 1 })) false) ∷
      ProxyGone (record { side = sides.Plug; instance = 1; serial = 1 }) ∷
      CommandResult 3 results.No ∷ []);
  rests = true;
}
unfolding encoding digits is_text is_utf8 chars encode_utf8
cut-45 = refl

-- the plug-in's first 46 bytes hold 4 whole messages
cut-46 : lost_outcome 1500 (Some 4) page plugin ≡ record {
  page = (
      CommandResult 1 (results.Code NoError) ∷
      CommandResult 2 (results.Yes (values.Object (record { side = sides.Plug; instance = 1; serial = 1 })) false) ∷
      CommandResult 3 (results.Yes (values.Int (pos 5)) false) ∷
      ProxyGone (record { side = sides.Plug; instance = 1; serial = 1 }) ∷ []);
  rests = true;
}
unfolding encoding digits is_text is_utf8 chars encode_utf8
cut-46 = refl
