-- Made by tools/vector-theorems of tests/vectors/refused-by-plugin.
use Rattle.std.proofs.Common.{◌≡◌, List, [], ◌∷◌, refl, true, false, Some, None}
use Rattle.std.specs.Prelude.{codes}
use Rattle.std.specs.Char.{encode_utf8}
use Rattle.std.specs.Fmt.{digits}
use Rattle.std.specs.Str.{is_utf8, chars}
use Rattle.np_values.specs.declared.handler.Handler.TheVariants as handlers
use Rattle.np_values.specs.declared.name.Side.TheVariants as sides
use Rattle.np_values.specs.declared.value.Value.TheVariants as values
use Rattle.np_values.specs.Text.{is_text}
use Rattle.np_idents.specs.declared.key.IdKey.TheVariants.{Str}
use Rattle.np_idents.specs.declared.op.Op.TheVariants as ops
use Rattle.np_script_grammar.specs.declared.action.Action.TheVariants as actions
use Rattle.np_script_grammar.specs.declared.action.Operand.TheVariants.{Reg}
use Rattle.np_script_grammar.specs.declared.class.Member.TheVariants as members
use Rattle.np_script_grammar.specs.declared.plugin.Plugin.{Plugin}
use Rattle.np_message.specs.Encoding.{encoding}
use Rattle.np_message.specs.Message.{Message}
use Rattle.np_message.specs.declared.payload.Payload.TheVariants as payloads
use Rattle.np_journal.specs.declared.line.Line.TheVariants.{Created, Entered, HandlerRun, Invalidated, Deallocated}
use Rattle.np_machine.specs.declared.refusal.Rule.TheVariants as rules
use Rattle.np_machine_plans.specs.Outcomes.{plugin_outcome}

abbrev plugin : Plugin
plugin = record {
  major = 0;
  minor = 27;
  classes = (
      (record {
        name = codes "M";
        version = 3;
        stored = false;
        members = (
            members.Method (Str (codes "m")) (actions.Window 1 ∷ actions.Invoke 2 (Reg 0) (Str (codes "f")) [] ∷ []) ∷ []);
      }) ∷ []);
  handlers = (
      (record { which = handlers.New; body = (actions.New 0 (codes "M") ∷ actions.Slot 0 (Reg 0) ∷ []) }) ∷
      (record { which = handlers.Scriptable; body = (actions.Load 0 0 ∷ actions.Return (Reg 0) ∷ []) }) ∷ []);
  tasks = [];
}

abbrev got-destroy-of-instance-2 : List Message
got-destroy-of-instance-2 = (
    (record { depth = record { level = 1; task = false }; releases = []; body = payloads.Hello 1 0 27 }) ∷
    (record { depth = record { level = 1; task = false }; releases = []; body = payloads.New 1 1 (codes "t/x") [] }) ∷
    (record { depth = record { level = 1; task = false }; releases = []; body = payloads.Destroy 2 }) ∷ [])

-- the plugin with these messages
destroy-of-instance-2 : plugin_outcome 1500 plugin got-destroy-of-instance-2 ≡ record {
  refusal = Some (record { place = 2; rule = rules.WrongKind; first = 3; second = 2 });
  plugin = (
      HandlerRun 1 handlers.New ∷
      Created (record { side = sides.Plug; instance = 1; serial = 1 }) ∷ []);
}
unfolding encoding digits is_text is_utf8 chars encode_utf8
destroy-of-instance-2 = refl

abbrev got-done-without-a-call : List Message
got-done-without-a-call = (
    (record { depth = record { level = 1; task = false }; releases = []; body = payloads.Hello 1 0 27 }) ∷
    (record { depth = record { level = 1; task = false }; releases = []; body = payloads.New 1 1 (codes "t/x") [] }) ∷
    (record { depth = record { level = 1; task = false }; releases = []; body = payloads.Done }) ∷ [])

-- the plugin with these messages
done-without-a-call : plugin_outcome 1500 plugin got-done-without-a-call ≡ record {
  refusal = Some (record { place = 2; rule = rules.WrongKind; first = 71; second = 0 });
  plugin = (
      HandlerRun 1 handlers.New ∷
      Created (record { side = sides.Plug; instance = 1; serial = 1 }) ∷ []);
}
unfolding encoding digits is_text is_utf8 chars encode_utf8
done-without-a-call = refl

abbrev got-false-without-a-call : List Message
got-false-without-a-call = (
    (record { depth = record { level = 1; task = false }; releases = []; body = payloads.Hello 1 0 27 }) ∷
    (record { depth = record { level = 1; task = false }; releases = []; body = payloads.New 1 1 (codes "t/x") [] }) ∷
    (record { depth = record { level = 1; task = false }; releases = []; body = payloads.False }) ∷ [])

-- the plugin with these messages
false-without-a-call : plugin_outcome 1500 plugin got-false-without-a-call ≡ record {
  refusal = Some (record { place = 2; rule = rules.Unmatched; first = 1; second = 0 });
  plugin = (
      HandlerRun 1 handlers.New ∷
      Created (record { side = sides.Plug; instance = 1; serial = 1 }) ∷ []);
}
unfolding encoding digits is_text is_utf8 chars encode_utf8
false-without-a-call = refl

abbrev got-new-of-instance-3 : List Message
got-new-of-instance-3 = (
    (record { depth = record { level = 1; task = false }; releases = []; body = payloads.Hello 1 0 27 }) ∷
    (record { depth = record { level = 1; task = false }; releases = []; body = payloads.New 1 1 (codes "t/x") [] }) ∷
    (record { depth = record { level = 1; task = false }; releases = []; body = payloads.New 3 1 (codes "t/x") [] }) ∷ [])

-- the plugin with these messages
new-of-instance-3 : plugin_outcome 1500 plugin got-new-of-instance-3 ≡ record {
  refusal = Some (record { place = 2; rule = rules.WrongKind; first = 2; second = 3 });
  plugin = (
      HandlerRun 1 handlers.New ∷
      Created (record { side = sides.Plug; instance = 1; serial = 1 }) ∷ []);
}
unfolding encoding digits is_text is_utf8 chars encode_utf8
new-of-instance-3 = refl

abbrev got-object-that-is-not-out : List Message
got-object-that-is-not-out = (
    (record { depth = record { level = 1; task = false }; releases = []; body = payloads.Hello 1 0 27 }) ∷
    (record { depth = record { level = 1; task = false }; releases = []; body = payloads.New 1 1 (codes "t/x") [] }) ∷
    (record { depth = record { level = 1; task = false }; releases = []; body = payloads.Call 1 1 ops.Enumerate [] }) ∷ [])

-- the plugin with these messages
object-that-is-not-out : plugin_outcome 1500 plugin got-object-that-is-not-out ≡ record {
  refusal = Some (record { place = 2; rule = rules.Unknown; first = 1; second = 1 });
  plugin = (
      HandlerRun 1 handlers.New ∷
      Created (record { side = sides.Plug; instance = 1; serial = 1 }) ∷ []);
}
unfolding encoding digits is_text is_utf8 chars encode_utf8
object-that-is-not-out = refl

abbrev got-release-of-another-object : List Message
got-release-of-another-object = (
    (record { depth = record { level = 1; task = false }; releases = []; body = payloads.Hello 1 0 27 }) ∷
    (record { depth = record { level = 1; task = false }; releases = []; body = payloads.New 1 1 (codes "t/x") [] }) ∷
    (record { depth = record { level = 1; task = false }; releases = []; body = payloads.Scriptable 1 }) ∷
    (record { depth = record { level = 1; task = false }; releases = ((record { instance = 1; serial = 2; times = 1 }) ∷ []); body = payloads.Turn }) ∷ [])

-- the plugin with these messages
release-of-another-object : plugin_outcome 1500 plugin got-release-of-another-object ≡ record {
  refusal = Some (record { place = 3; rule = rules.Unknown; first = 1; second = 2 });
  plugin = (
      HandlerRun 1 handlers.New ∷
      Created (record { side = sides.Plug; instance = 1; serial = 1 }) ∷
      HandlerRun 1 handlers.Scriptable ∷ []);
}
unfolding encoding digits is_text is_utf8 chars encode_utf8
release-of-another-object = refl

abbrev got-release-of-instance-2 : List Message
got-release-of-instance-2 = (
    (record { depth = record { level = 1; task = false }; releases = []; body = payloads.Hello 1 0 27 }) ∷
    (record { depth = record { level = 1; task = false }; releases = []; body = payloads.New 1 1 (codes "t/x") [] }) ∷
    (record { depth = record { level = 1; task = false }; releases = []; body = payloads.Scriptable 1 }) ∷
    (record { depth = record { level = 1; task = false }; releases = ((record { instance = 2; serial = 1; times = 1 }) ∷ []); body = payloads.Turn }) ∷ [])

-- the plugin with these messages
release-of-instance-2 : plugin_outcome 1500 plugin got-release-of-instance-2 ≡ record {
  refusal = Some (record { place = 3; rule = rules.Unknown; first = 2; second = 1 });
  plugin = (
      HandlerRun 1 handlers.New ∷
      Created (record { side = sides.Plug; instance = 1; serial = 1 }) ∷
      HandlerRun 1 handlers.Scriptable ∷ []);
}
unfolding encoding digits is_text is_utf8 chars encode_utf8
release-of-instance-2 = refl

abbrev got-scriptable-of-a-destroyed-instance : List Message
got-scriptable-of-a-destroyed-instance = (
    (record { depth = record { level = 1; task = false }; releases = []; body = payloads.Hello 1 0 27 }) ∷
    (record { depth = record { level = 1; task = false }; releases = []; body = payloads.New 1 1 (codes "t/x") [] }) ∷
    (record { depth = record { level = 1; task = false }; releases = []; body = payloads.Destroy 1 }) ∷
    (record { depth = record { level = 1; task = false }; releases = []; body = payloads.Scriptable 1 }) ∷ [])

-- the plugin with these messages
scriptable-of-a-destroyed-instance : plugin_outcome 1500 plugin got-scriptable-of-a-destroyed-instance ≡ record {
  refusal = Some (record { place = 3; rule = rules.WrongKind; first = 4; second = 1 });
  plugin = (
      HandlerRun 1 handlers.New ∷
      Created (record { side = sides.Plug; instance = 1; serial = 1 }) ∷
      Invalidated (record { side = sides.Plug; instance = 1; serial = 1 }) ∷
      Deallocated (record { side = sides.Plug; instance = 1; serial = 1 }) ∷ []);
}
unfolding encoding digits is_text is_utf8 chars encode_utf8
scriptable-of-a-destroyed-instance = refl

abbrev got-second-destroy : List Message
got-second-destroy = (
    (record { depth = record { level = 1; task = false }; releases = []; body = payloads.Hello 1 0 27 }) ∷
    (record { depth = record { level = 1; task = false }; releases = []; body = payloads.New 1 1 (codes "t/x") [] }) ∷
    (record { depth = record { level = 1; task = false }; releases = []; body = payloads.Destroy 1 }) ∷
    (record { depth = record { level = 1; task = false }; releases = []; body = payloads.Destroy 1 }) ∷ [])

-- the plugin with these messages
second-destroy : plugin_outcome 1500 plugin got-second-destroy ≡ record {
  refusal = Some (record { place = 3; rule = rules.WrongKind; first = 3; second = 1 });
  plugin = (
      HandlerRun 1 handlers.New ∷
      Created (record { side = sides.Plug; instance = 1; serial = 1 }) ∷
      Invalidated (record { side = sides.Plug; instance = 1; serial = 1 }) ∷
      Deallocated (record { side = sides.Plug; instance = 1; serial = 1 }) ∷ []);
}
unfolding encoding digits is_text is_utf8 chars encode_utf8
second-destroy = refl

abbrev got-second-hello : List Message
got-second-hello = (
    (record { depth = record { level = 1; task = false }; releases = []; body = payloads.Hello 1 0 27 }) ∷
    (record { depth = record { level = 1; task = false }; releases = []; body = payloads.New 1 1 (codes "t/x") [] }) ∷
    (record { depth = record { level = 1; task = false }; releases = []; body = payloads.Hello 1 0 27 }) ∷ [])

-- the plugin with these messages
second-hello : plugin_outcome 1500 plugin got-second-hello ≡ record {
  refusal = Some (record { place = 2; rule = rules.WrongKind; first = 1; second = 0 });
  plugin = (
      HandlerRun 1 handlers.New ∷
      Created (record { side = sides.Plug; instance = 1; serial = 1 }) ∷ []);
}
unfolding encoding digits is_text is_utf8 chars encode_utf8
second-hello = refl

abbrev got-too-many : List Message
got-too-many = (
    (record { depth = record { level = 1; task = false }; releases = []; body = payloads.Hello 1 0 27 }) ∷
    (record { depth = record { level = 1; task = false }; releases = []; body = payloads.New 1 1 (codes "t/x") [] }) ∷
    (record { depth = record { level = 1; task = false }; releases = []; body = payloads.Scriptable 1 }) ∷
    (record { depth = record { level = 1; task = false }; releases = ((record { instance = 1; serial = 1; times = 2 }) ∷ []); body = payloads.Turn }) ∷ [])

-- the plugin with these messages
too-many : plugin_outcome 1500 plugin got-too-many ≡ record {
  refusal = Some (record { place = 3; rule = rules.TooMany; first = 2; second = 1 });
  plugin = (
      HandlerRun 1 handlers.New ∷
      Created (record { side = sides.Plug; instance = 1; serial = 1 }) ∷
      HandlerRun 1 handlers.Scriptable ∷ []);
}
unfolding encoding digits is_text is_utf8 chars encode_utf8
too-many = refl

abbrev got-turn-at-level-1 : List Message
got-turn-at-level-1 = (
    (record { depth = record { level = 1; task = false }; releases = []; body = payloads.Hello 1 0 27 }) ∷
    (record { depth = record { level = 1; task = false }; releases = []; body = payloads.New 1 1 (codes "t/x") [] }) ∷
    (record { depth = record { level = 1; task = false }; releases = []; body = payloads.Scriptable 1 }) ∷
    (record { depth = record { level = 1; task = false }; releases = []; body = payloads.Call 1 1 (ops.Invoke (Str (codes "m"))) [] }) ∷
    (record { depth = record { level = 1; task = false }; releases = []; body = payloads.Turn }) ∷ [])

-- the plugin with these messages
turn-at-level-1 : plugin_outcome 1500 plugin got-turn-at-level-1 ≡ record {
  refusal = Some (record { place = 4; rule = rules.Place; first = 1; second = 2 });
  plugin = (
      HandlerRun 1 handlers.New ∷
      Created (record { side = sides.Plug; instance = 1; serial = 1 }) ∷
      HandlerRun 1 handlers.Scriptable ∷
      Entered (record { side = sides.Plug; instance = 1; serial = 1 }) (ops.Invoke (Str (codes "m"))) ∷ []);
}
unfolding encoding digits is_text is_utf8 chars encode_utf8
turn-at-level-1 = refl

abbrev got-turn-at-level-2 : List Message
got-turn-at-level-2 = (
    (record { depth = record { level = 1; task = false }; releases = []; body = payloads.Hello 1 0 27 }) ∷
    (record { depth = record { level = 1; task = false }; releases = []; body = payloads.New 1 1 (codes "t/x") [] }) ∷
    (record { depth = record { level = 1; task = false }; releases = []; body = payloads.Scriptable 1 }) ∷
    (record { depth = record { level = 1; task = false }; releases = []; body = payloads.Call 1 1 (ops.Invoke (Str (codes "m"))) [] }) ∷
    (record { depth = record { level = 2; task = false }; releases = []; body = payloads.Turn }) ∷ [])

-- the plugin with these messages
turn-at-level-2 : plugin_outcome 1500 plugin got-turn-at-level-2 ≡ record {
  refusal = Some (record { place = 4; rule = rules.Place; first = 2; second = 2 });
  plugin = (
      HandlerRun 1 handlers.New ∷
      Created (record { side = sides.Plug; instance = 1; serial = 1 }) ∷
      HandlerRun 1 handlers.Scriptable ∷
      Entered (record { side = sides.Plug; instance = 1; serial = 1 }) (ops.Invoke (Str (codes "m"))) ∷ []);
}
unfolding encoding digits is_text is_utf8 chars encode_utf8
turn-at-level-2 = refl

abbrev got-turn-at-level-3 : List Message
got-turn-at-level-3 = (
    (record { depth = record { level = 1; task = false }; releases = []; body = payloads.Hello 1 0 27 }) ∷
    (record { depth = record { level = 1; task = false }; releases = []; body = payloads.New 1 1 (codes "t/x") [] }) ∷
    (record { depth = record { level = 1; task = false }; releases = []; body = payloads.Scriptable 1 }) ∷
    (record { depth = record { level = 1; task = false }; releases = []; body = payloads.Call 1 1 (ops.Invoke (Str (codes "m"))) [] }) ∷
    (record { depth = record { level = 3; task = false }; releases = []; body = payloads.Turn }) ∷
    (record { depth = record { level = 2; task = false }; releases = []; body = payloads.False }) ∷ [])

-- the plugin with these messages
turn-at-level-3 : plugin_outcome 1500 plugin got-turn-at-level-3 ≡ record {
  refusal = None;
  plugin = (
      HandlerRun 1 handlers.New ∷
      Created (record { side = sides.Plug; instance = 1; serial = 1 }) ∷
      HandlerRun 1 handlers.Scriptable ∷
      Entered (record { side = sides.Plug; instance = 1; serial = 1 }) (ops.Invoke (Str (codes "m"))) ∷ []);
}
unfolding encoding digits is_text is_utf8 chars encode_utf8
turn-at-level-3 = refl

abbrev got-turn-of-a-task : List Message
got-turn-of-a-task = (
    (record { depth = record { level = 1; task = false }; releases = []; body = payloads.Hello 1 0 27 }) ∷
    (record { depth = record { level = 1; task = false }; releases = []; body = payloads.New 1 1 (codes "t/x") [] }) ∷
    (record { depth = record { level = 1; task = true }; releases = []; body = payloads.Turn }) ∷ [])

-- the plugin with these messages
turn-of-a-task : plugin_outcome 1500 plugin got-turn-of-a-task ≡ record {
  refusal = Some (record { place = 2; rule = rules.Place; first = 129; second = 0 });
  plugin = (
      HandlerRun 1 handlers.New ∷
      Created (record { side = sides.Plug; instance = 1; serial = 1 }) ∷ []);
}
unfolding encoding digits is_text is_utf8 chars encode_utf8
turn-of-a-task = refl

abbrev got-value-of-instance-2 : List Message
got-value-of-instance-2 = (
    (record { depth = record { level = 1; task = false }; releases = []; body = payloads.Hello 1 0 27 }) ∷
    (record { depth = record { level = 1; task = false }; releases = []; body = payloads.New 1 1 (codes "t/x") [] }) ∷
    (record { depth = record { level = 1; task = false }; releases = []; body = payloads.Scriptable 1 }) ∷
    (record { depth = record { level = 1; task = false }; releases = []; body = payloads.Call 1 1 (ops.Invoke (Str (codes "m"))) [] }) ∷
    (record { depth = record { level = 2; task = false }; releases = []; body = payloads.True (values.Object (record { side = sides.Page; instance = 2; serial = 1 })) }) ∷ [])

-- the plugin with these messages
value-of-instance-2 : plugin_outcome 1500 plugin got-value-of-instance-2 ≡ record {
  refusal = Some (record { place = 4; rule = rules.Unknown; first = 2; second = 1 });
  plugin = (
      HandlerRun 1 handlers.New ∷
      Created (record { side = sides.Plug; instance = 1; serial = 1 }) ∷
      HandlerRun 1 handlers.Scriptable ∷
      Entered (record { side = sides.Plug; instance = 1; serial = 1 }) (ops.Invoke (Str (codes "m"))) ∷ []);
}
unfolding encoding digits is_text is_utf8 chars encode_utf8
value-of-instance-2 = refl

abbrev got-value-of-the-page : List Message
got-value-of-the-page = (
    (record { depth = record { level = 1; task = false }; releases = []; body = payloads.Hello 1 0 27 }) ∷
    (record { depth = record { level = 1; task = false }; releases = []; body = payloads.New 1 1 (codes "t/x") [] }) ∷
    (record { depth = record { level = 1; task = false }; releases = []; body = payloads.Scriptable 1 }) ∷
    (record { depth = record { level = 1; task = false }; releases = []; body = payloads.Call 1 1 (ops.Invoke (Str (codes "m"))) [] }) ∷
    (record { depth = record { level = 2; task = false }; releases = []; body = payloads.True (values.Object (record { side = sides.Page; instance = 1; serial = 9 })) }) ∷ [])

-- the plugin with these messages
value-of-the-page : plugin_outcome 1500 plugin got-value-of-the-page ≡ record {
  refusal = None;
  plugin = (
      HandlerRun 1 handlers.New ∷
      Created (record { side = sides.Plug; instance = 1; serial = 1 }) ∷
      HandlerRun 1 handlers.Scriptable ∷
      Entered (record { side = sides.Plug; instance = 1; serial = 1 }) (ops.Invoke (Str (codes "m"))) ∷ []);
}
unfolding encoding digits is_text is_utf8 chars encode_utf8
value-of-the-page = refl

abbrev got-value-that-is-not-out : List Message
got-value-that-is-not-out = (
    (record { depth = record { level = 1; task = false }; releases = []; body = payloads.Hello 1 0 27 }) ∷
    (record { depth = record { level = 1; task = false }; releases = []; body = payloads.New 1 1 (codes "t/x") [] }) ∷
    (record { depth = record { level = 1; task = false }; releases = []; body = payloads.Scriptable 1 }) ∷
    (record { depth = record { level = 1; task = false }; releases = []; body = payloads.Call 1 1 (ops.Invoke (Str (codes "m"))) [] }) ∷
    (record { depth = record { level = 2; task = false }; releases = []; body = payloads.True (values.Object (record { side = sides.Plug; instance = 1; serial = 2 })) }) ∷ [])

-- the plugin with these messages
value-that-is-not-out : plugin_outcome 1500 plugin got-value-that-is-not-out ≡ record {
  refusal = Some (record { place = 4; rule = rules.Unknown; first = 1; second = 2 });
  plugin = (
      HandlerRun 1 handlers.New ∷
      Created (record { side = sides.Plug; instance = 1; serial = 1 }) ∷
      HandlerRun 1 handlers.Scriptable ∷
      Entered (record { side = sides.Plug; instance = 1; serial = 1 }) (ops.Invoke (Str (codes "m"))) ∷ []);
}
unfolding encoding digits is_text is_utf8 chars encode_utf8
value-that-is-not-out = refl

abbrev got-window-without-object : List Message
got-window-without-object = (
    (record { depth = record { level = 1; task = false }; releases = []; body = payloads.Hello 1 0 27 }) ∷
    (record { depth = record { level = 1; task = false }; releases = []; body = payloads.New 1 1 (codes "t/x") [] }) ∷
    (record { depth = record { level = 1; task = false }; releases = []; body = payloads.Scriptable 1 }) ∷
    (record { depth = record { level = 1; task = false }; releases = []; body = payloads.Call 1 1 (ops.Invoke (Str (codes "m"))) [] }) ∷
    (record { depth = record { level = 2; task = false }; releases = []; body = payloads.True values.Void }) ∷ [])

-- the plugin with these messages
window-without-object : plugin_outcome 1500 plugin got-window-without-object ≡ record {
  refusal = Some (record { place = 4; rule = rules.Unmatched; first = 2; second = 2 });
  plugin = (
      HandlerRun 1 handlers.New ∷
      Created (record { side = sides.Plug; instance = 1; serial = 1 }) ∷
      HandlerRun 1 handlers.Scriptable ∷
      Entered (record { side = sides.Plug; instance = 1; serial = 1 }) (ops.Invoke (Str (codes "m"))) ∷ []);
}
unfolding encoding digits is_text is_utf8 chars encode_utf8
window-without-object = refl
