-- Made by tools/vector-theorems of tests/vectors/refused-first-messages.
use Rattle.std.proofs.Common.{◌≡◌, List, [], ◌∷◌, refl, false, Some}
use Rattle.std.specs.Prelude.{codes}
use Rattle.std.specs.Char.{encode_utf8}
use Rattle.std.specs.Fmt.{digits}
use Rattle.std.specs.Str.{is_utf8, chars}
use Rattle.np_values.specs.Text.{is_text}
use Rattle.np_script_grammar.specs.declared.plugin.Plugin.{Plugin}
use Rattle.np_message.specs.Encoding.{encoding}
use Rattle.np_message.specs.Message.{Message}
use Rattle.np_message.specs.declared.payload.Payload.TheVariants as payloads
use Rattle.np_machine.specs.declared.refusal.Rule.TheVariants as rules
use Rattle.np_machine_plans.specs.Outcomes.{plugin_outcome}

abbrev plugin : Plugin
plugin = record {
  major = 0;
  minor = 27;
  classes = [];
  handlers = [];
  tasks = [];
}

abbrev got-instance-1-twice : List Message
got-instance-1-twice = (
    (record { depth = record { level = 1; task = false }; releases = []; body = payloads.Hello 1 0 27 }) ∷
    (record { depth = record { level = 1; task = false }; releases = []; body = payloads.New 1 1 (codes "t/x") [] }) ∷
    (record { depth = record { level = 1; task = false }; releases = []; body = payloads.New 1 1 (codes "t/x") [] }) ∷ [])

-- the plugin with these messages
instance-1-twice : plugin_outcome 1500 plugin got-instance-1-twice ≡ record {
  refusal = Some (record { place = 2; rule = rules.WrongKind; first = 2; second = 1 });
  plugin = [];
}
unfolding encoding digits is_text is_utf8 chars encode_utf8
instance-1-twice = refl

abbrev got-turn-before-hello : List Message
got-turn-before-hello = (
    (record { depth = record { level = 1; task = false }; releases = []; body = payloads.Turn }) ∷ [])

-- the plugin with these messages
turn-before-hello : plugin_outcome 1500 plugin got-turn-before-hello ≡ record {
  refusal = Some (record { place = 0; rule = rules.WrongKind; first = 5; second = 0 });
  plugin = [];
}
unfolding encoding digits is_text is_utf8 chars encode_utf8
turn-before-hello = refl
