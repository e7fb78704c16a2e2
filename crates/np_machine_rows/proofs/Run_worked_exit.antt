-- Made by tools/vector-theorems of tests/vectors/worked-exit.
use Rattle.std.proofs.Common.{◌≡◌, pos, [], ◌∷◌, refl, true, false, None}
use Rattle.std.specs.Prelude.{codes}
use Rattle.std.specs.Char.{encode_utf8}
use Rattle.std.specs.Fmt.{digits}
use Rattle.std.specs.Str.{is_utf8, chars}
use Rattle.np_values.specs.declared.error.NpError.TheVariants.{NoError}
use Rattle.np_values.specs.declared.handler.Handler.TheVariants as handlers
use Rattle.np_values.specs.declared.name.Side.TheVariants as sides
use Rattle.np_values.specs.declared.value.Value.TheVariants as values
use Rattle.np_values.specs.Text.{is_text}
use Rattle.np_idents.specs.declared.key.IdKey.TheVariants.{Str}
use Rattle.np_idents.specs.declared.op.Op.TheVariants as ops
use Rattle.np_script_grammar.specs.declared.action.Action.TheVariants as actions
use Rattle.np_script_grammar.specs.declared.action.Operand.TheVariants.{Reg, Const}
use Rattle.np_script_grammar.specs.declared.class.Member.TheVariants as members
use Rattle.np_script_grammar.specs.declared.command.Command.TheVariants as commands
use Rattle.np_script_grammar.specs.declared.page.Page.{Page}
use Rattle.np_script_grammar.specs.declared.plugin.Plugin.{Plugin}
use Rattle.np_message.specs.Encoding.{encoding}
use Rattle.np_journal.specs.declared.line.Line.TheVariants.{Created, Entered, HandlerRun, ProxyGone, CommandResult}
use Rattle.np_journal.specs.declared.printed.Printed.TheVariants as results
use Rattle.np_machine_plans.specs.Outcomes.{outcome, lost_outcome}

abbrev page : Page
page = record {
  major = 0;
  minor = 27;
  classes = [];
  resources = [];
  commands = (
      commands.Create (codes "t/x") 1 [] ∷
      commands.Scriptable 0 1 ∷
      commands.Invoke 1 (Reg 0) (Str (codes "quit")) [] ∷ []);
}

abbrev plugin : Plugin
plugin = record {
  major = 0;
  minor = 27;
  classes = (
      (record {
        name = codes "Main";
        version = 3;
        stored = false;
        members = (
            members.Method (Str (codes "echo")) (actions.Return (Reg 0) ∷ []) ∷
            members.Method (Str (codes "keep")) (actions.Slot 1 (Reg 0) ∷ []) ∷
            members.Method (Str (codes "give")) (actions.Load 0 1 ∷ actions.Slot 1 (Const values.Void) ∷ actions.Return (Reg 0) ∷ []) ∷
            members.Method (Str (codes "run")) (actions.New 0 (codes "Tmp") ∷ actions.Invoke 0 (Reg 0) (Str (codes "go")) [] ∷ actions.Return (Reg 0) ∷ []) ∷
            members.Method (Str (codes "die")) (actions.Load 1 2 ∷ actions.Invoke 2 (Reg 1) (Str (codes "kill")) [] ∷ []) ∷
            members.Method (Str (codes "pong")) (actions.SelfTo 1 ∷ actions.Invoke 2 (Reg 0) (Str (codes "ping")) (Reg 1 ∷ []) ∷ actions.OnTrue 2 ∷ actions.Add 3 (Reg 2) (Const (values.Int (pos 1))) ∷ actions.Return (Reg 3) ∷ actions.Return (Const (values.Int (pos 0))) ∷ []) ∷
            members.Method (Str (codes "hop")) (actions.SelfTo 1 ∷ actions.Invoke 2 (Reg 1) (Str (codes "pong")) (Reg 0 ∷ []) ∷ actions.OnTrue 2 ∷ actions.Add 3 (Reg 2) (Const (values.Int (pos 1))) ∷ actions.Return (Reg 3) ∷ actions.Return (Const (values.Int (pos 0))) ∷ []) ∷
            members.Method (Str (codes "bad")) (actions.Throw (codes "no") ∷ actions.Return (Const (values.Int (pos 1))) ∷ []) ∷
            members.Method (Str (codes "quit")) (actions.Exit 3 ∷ []) ∷ []);
      }) ∷
      (record {
        name = codes "Tmp";
        version = 3;
        stored = false;
        members = (
            members.Method (Str (codes "go")) (actions.New 1 (codes "Tmp") ∷ actions.Return (Const (values.Int (pos 7))) ∷ []) ∷ []);
      }) ∷ []);
  handlers = (
      (record { which = handlers.New; body = (actions.New 0 (codes "Main") ∷ actions.Slot 0 (Reg 0) ∷ actions.Window 1 ∷ actions.Slot 2 (Reg 1) ∷ []) }) ∷
      (record { which = handlers.Scriptable; body = (actions.Load 0 0 ∷ actions.Return (Reg 0) ∷ []) }) ∷ []);
  tasks = [];
}

-- the plug-in exits, and the page goes on alone
page-ends-alone : lost_outcome 1500 None page plugin ≡ record {
  page = (
      CommandResult 1 (results.Code NoError) ∷
      CommandResult 2 (results.Yes (values.Object (record { side = sides.Plug; instance = 1; serial = 1 })) false) ∷
      ProxyGone (record { side = sides.Plug; instance = 1; serial = 1 }) ∷
      CommandResult 3 results.No ∷ []);
  rests = true;
}
unfolding encoding digits is_text is_utf8 chars encode_utf8
page-ends-alone = refl

-- what the plug-in printed
plugin-exits : (outcome 1500 page plugin).plugin ≡ (
    HandlerRun 1 handlers.New ∷
    Created (record { side = sides.Plug; instance = 1; serial = 1 }) ∷
    HandlerRun 1 handlers.Scriptable ∷
    Entered (record { side = sides.Plug; instance = 1; serial = 1 }) (ops.Invoke (Str (codes "quit"))) ∷ [])
unfolding encoding digits is_text is_utf8 chars encode_utf8
plugin-exits = refl
