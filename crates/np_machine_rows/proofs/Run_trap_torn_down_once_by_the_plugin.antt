-- Made by tools/vector-theorems of tests/vectors/trap-torn-down-once-by-the-plugin.
use Rattle.std.proofs.Common.{◌≡◌, List, [], ◌∷◌, refl, false, None}
use Rattle.std.specs.Prelude.{codes}
use Rattle.std.specs.Char.{encode_utf8}
use Rattle.std.specs.Fmt.{digits}
use Rattle.std.specs.Str.{is_utf8, chars}
use Rattle.np_values.specs.declared.handler.Handler.TheVariants as handlers
use Rattle.np_values.specs.declared.name.Side.TheVariants as sides
use Rattle.np_values.specs.declared.value.Value.TheVariants as values
use Rattle.np_values.specs.Text.{is_text}
use Rattle.np_idents.specs.declared.key.IdKey.TheVariants.{Str}
use Rattle.np_idents.specs.declared.op.Op.TheVariants as ops
use Rattle.np_script_grammar.specs.declared.action.Action.TheVariants as actions
use Rattle.np_script_grammar.specs.declared.action.Operand.TheVariants.{Reg}
use Rattle.np_script_grammar.specs.declared.class.Member.TheVariants as members
use Rattle.np_script_grammar.specs.declared.plugin.Plugin.{Plugin}
use Rattle.np_message.specs.Encoding.{encoding}
use Rattle.np_message.specs.Message.{Message}
use Rattle.np_message.specs.declared.payload.Payload.TheVariants as payloads
use Rattle.np_journal.specs.declared.line.Line.TheVariants.{Created, Entered, HandlerRun, ProxyGone}
use Rattle.np_machine_plans.specs.Outcomes.{plugin_outcome}

abbrev plugin : Plugin
plugin = record {
  major = 0;
  minor = 27;
  classes = (
      (record {
        name = codes "M";
        version = 3;
        stored = false;
        members = (
            members.Method (Str (codes "keep")) (actions.Slot 1 (Reg 0) ∷ []) ∷ []);
      }) ∷ []);
  handlers = (
      (record { which = handlers.New; body = (actions.Window 1 ∷ actions.New 0 (codes "M") ∷ actions.Slot 0 (Reg 0) ∷ []) }) ∷
      (record { which = handlers.Scriptable; body = (actions.Load 0 0 ∷ actions.Return (Reg 0) ∷ []) }) ∷ []);
  tasks = [];
}

abbrev got-new-unwound-after-a-destroy : List Message
got-new-unwound-after-a-destroy = (
    (record { depth = record { level = 1; task = false }; releases = []; body = payloads.Hello 1 0 27 }) ∷
    (record { depth = record { level = 1; task = false }; releases = []; body = payloads.New 1 1 (codes "t/x") [] }) ∷
    (record { depth = record { level = 2; task = false }; releases = []; body = payloads.False }) ∷
    (record { depth = record { level = 1; task = false }; releases = []; body = payloads.Scriptable 1 }) ∷
    (record { depth = record { level = 1; task = false }; releases = []; body = payloads.New 2 1 (codes "t/x") [] }) ∷
    (record { depth = record { level = 3; task = false }; releases = []; body = payloads.Call 1 1 (ops.Invoke (Str (codes "keep"))) (values.Object (record { side = sides.Page; instance = 2; serial = 5 }) ∷ []) }) ∷
    (record { depth = record { level = 3; task = false }; releases = []; body = payloads.Destroy 2 }) ∷
    (record { depth = record { level = 2; task = false }; releases = []; body = payloads.False }) ∷ [])

-- the plugin with these messages
new-unwound-after-a-destroy : plugin_outcome 1500 plugin got-new-unwound-after-a-destroy ≡ record {
  refusal = None;
  plugin = (
      HandlerRun 1 handlers.New ∷
      Created (record { side = sides.Plug; instance = 1; serial = 1 }) ∷
      HandlerRun 1 handlers.Scriptable ∷
      HandlerRun 2 handlers.New ∷
      Entered (record { side = sides.Plug; instance = 1; serial = 1 }) (ops.Invoke (Str (codes "keep"))) ∷
      ProxyGone (record { side = sides.Page; instance = 2; serial = 5 }) ∷ []);
}
unfolding encoding digits is_text is_utf8 chars encode_utf8
new-unwound-after-a-destroy = refl
