-- Made by tools/vector-theorems of tests/vectors/refused-by-page.
use Rattle.std.proofs.Common.{◌≡◌, pos, List, [], ◌∷◌, refl, true, false, Some}
use Rattle.std.specs.Prelude.{codes}
use Rattle.std.specs.Char.{encode_utf8}
use Rattle.std.specs.Fmt.{digits}
use Rattle.std.specs.Str.{is_utf8, chars}
use Rattle.np_values.specs.declared.error.NpError.TheVariants.{NoError, Generic}
use Rattle.np_values.specs.declared.name.Side.TheVariants as sides
use Rattle.np_values.specs.declared.reason.NpReason.TheVariants as reasons
use Rattle.np_values.specs.declared.value.Value.TheVariants as values
use Rattle.np_values.specs.Text.{is_text}
use Rattle.np_idents.specs.declared.key.IdKey.TheVariants.{Str}
use Rattle.np_idents.specs.declared.op.Op.TheVariants as ops
use Rattle.np_script_grammar.specs.declared.command.Command.TheVariants as commands
use Rattle.np_script_grammar.specs.declared.page.Page.{Page}
use Rattle.np_message.specs.Encoding.{encoding}
use Rattle.np_message.specs.Message.{Message}
use Rattle.np_message.specs.declared.payload.Payload.TheVariants as payloads
use Rattle.np_journal.specs.declared.line.Line.TheVariants.{CommandResult}
use Rattle.np_journal.specs.declared.printed.Printed.TheVariants as results
use Rattle.np_machine.specs.declared.refusal.Rule.TheVariants as rules
use Rattle.np_machine_plans.specs.Outcomes.{page_outcome}

abbrev page : Page
page = record {
  major = 0;
  minor = 27;
  classes = [];
  resources = [];
  commands = (
      commands.Create (codes "t/x") 1 [] ∷
      commands.Turn ∷ []);
}

abbrev got-a-destroy : List Message
got-a-destroy = (
    (record { depth = record { level = 1; task = false }; releases = []; body = payloads.Code NoError }) ∷
    (record { depth = record { level = 1; task = false }; releases = []; body = payloads.Code NoError }) ∷
    (record { depth = record { level = 1; task = false }; releases = []; body = payloads.Destroy 1 }) ∷ [])

-- the page with these messages
a-destroy : page_outcome 1500 page got-a-destroy ≡ record {
  refusal = Some (record { place = 2; rule = rules.WrongKind; first = 3; second = 1 });
  page = (
      CommandResult 1 (results.Code NoError) ∷
      CommandResult 2 results.No ∷ []);
}
unfolding encoding digits is_text is_utf8 chars encode_utf8
a-destroy = refl

abbrev got-a-shutdown : List Message
got-a-shutdown = (
    (record { depth = record { level = 1; task = false }; releases = []; body = payloads.Code NoError }) ∷
    (record { depth = record { level = 1; task = false }; releases = []; body = payloads.Code NoError }) ∷
    (record { depth = record { level = 1; task = false }; releases = []; body = payloads.Shutdown }) ∷ [])

-- the page with these messages
a-shutdown : page_outcome 1500 page got-a-shutdown ≡ record {
  refusal = Some (record { place = 2; rule = rules.WrongKind; first = 12; second = 0 });
  page = (
      CommandResult 1 (results.Code NoError) ∷
      CommandResult 2 results.No ∷ []);
}
unfolding encoding digits is_text is_utf8 chars encode_utf8
a-shutdown = refl

abbrev got-a-turn : List Message
got-a-turn = (
    (record { depth = record { level = 1; task = false }; releases = []; body = payloads.Code NoError }) ∷
    (record { depth = record { level = 1; task = false }; releases = []; body = payloads.Code NoError }) ∷
    (record { depth = record { level = 1; task = false }; releases = []; body = payloads.Turn }) ∷ [])

-- the page with these messages
a-turn : page_outcome 1500 page got-a-turn ≡ record {
  refusal = Some (record { place = 2; rule = rules.WrongKind; first = 5; second = 0 });
  page = (
      CommandResult 1 (results.Code NoError) ∷
      CommandResult 2 results.No ∷ []);
}
unfolding encoding digits is_text is_utf8 chars encode_utf8
a-turn = refl

abbrev got-call-at-level-1 : List Message
got-call-at-level-1 = (
    (record { depth = record { level = 1; task = false }; releases = []; body = payloads.Code NoError }) ∷
    (record { depth = record { level = 1; task = false }; releases = []; body = payloads.Code NoError }) ∷
    (record { depth = record { level = 1; task = false }; releases = []; body = payloads.Call 1 1 ops.Enumerate [] }) ∷ [])

-- the page with these messages
call-at-level-1 : page_outcome 1500 page got-call-at-level-1 ≡ record {
  refusal = Some (record { place = 2; rule = rules.Place; first = 1; second = 1 });
  page = (
      CommandResult 1 (results.Code NoError) ∷
      CommandResult 2 results.No ∷ []);
}
unfolding encoding digits is_text is_utf8 chars encode_utf8
call-at-level-1 = refl

abbrev got-call-of-instance-2 : List Message
got-call-of-instance-2 = (
    (record { depth = record { level = 1; task = false }; releases = []; body = payloads.Code NoError }) ∷
    (record { depth = record { level = 1; task = false }; releases = []; body = payloads.Code NoError }) ∷
    (record { depth = record { level = 2; task = false }; releases = []; body = payloads.Call 2 1 ops.Enumerate [] }) ∷ [])

-- the page with these messages
call-of-instance-2 : page_outcome 1500 page got-call-of-instance-2 ≡ record {
  refusal = Some (record { place = 2; rule = rules.WrongKind; first = 64; second = 2 });
  page = (
      CommandResult 1 (results.Code NoError) ∷
      CommandResult 2 results.No ∷ []);
}
unfolding encoding digits is_text is_utf8 chars encode_utf8
call-of-instance-2 = refl

abbrev got-code-1-for-destroy : List Message
got-code-1-for-destroy = (
    (record { depth = record { level = 1; task = false }; releases = []; body = payloads.Code NoError }) ∷
    (record { depth = record { level = 1; task = false }; releases = []; body = payloads.Code NoError }) ∷
    (record { depth = record { level = 2; task = false }; releases = []; body = payloads.Window 1 }) ∷
    (record { depth = record { level = 2; task = false }; releases = []; body = payloads.EndStream 1 1 reasons.Done }) ∷
    (record { depth = record { level = 1; task = false }; releases = []; body = payloads.Done }) ∷
    (record { depth = record { level = 1; task = false }; releases = []; body = payloads.Code Generic }) ∷ [])

-- the page with these messages
code-1-for-destroy : page_outcome 1500 page got-code-1-for-destroy ≡ record {
  refusal = Some (record { place = 5; rule = rules.Unmatched; first = 1; second = 1 });
  page = (
      CommandResult 1 (results.Code NoError) ∷
      CommandResult 2 (results.Yes values.Void false) ∷ []);
}
unfolding encoding digits is_text is_utf8 chars encode_utf8
code-1-for-destroy = refl

abbrev got-code-for-turn : List Message
got-code-for-turn = (
    (record { depth = record { level = 1; task = false }; releases = []; body = payloads.Code NoError }) ∷
    (record { depth = record { level = 1; task = false }; releases = []; body = payloads.Code NoError }) ∷
    (record { depth = record { level = 1; task = false }; releases = []; body = payloads.Code NoError }) ∷ [])

-- the page with these messages
code-for-turn : page_outcome 1500 page got-code-for-turn ≡ record {
  refusal = Some (record { place = 2; rule = rules.Unmatched; first = 1; second = 1 });
  page = (
      CommandResult 1 (results.Code NoError) ∷
      CommandResult 2 results.No ∷ []);
}
unfolding encoding digits is_text is_utf8 chars encode_utf8
code-for-turn = refl

abbrev got-deferred-call-of-no-object : List Message
got-deferred-call-of-no-object = (
    (record { depth = record { level = 1; task = false }; releases = []; body = payloads.Code NoError }) ∷
    (record { depth = record { level = 1; task = false }; releases = []; body = payloads.Code NoError }) ∷
    (record { depth = record { level = 1; task = true }; releases = []; body = payloads.Call 1 1 ops.Enumerate [] }) ∷
    (record { depth = record { level = 1; task = false }; releases = []; body = payloads.Done }) ∷ [])

-- the page with these messages
deferred-call-of-no-object : page_outcome 1500 page got-deferred-call-of-no-object ≡ record {
  refusal = Some (record { place = 2; rule = rules.Unknown; first = 1; second = 1 });
  page = (
      CommandResult 1 (results.Code NoError) ∷
      CommandResult 2 (results.Yes values.Void false) ∷ []);
}
unfolding encoding digits is_text is_utf8 chars encode_utf8
deferred-call-of-no-object = refl

abbrev got-done-of-level-2 : List Message
got-done-of-level-2 = (
    (record { depth = record { level = 1; task = false }; releases = []; body = payloads.Code NoError }) ∷
    (record { depth = record { level = 1; task = false }; releases = []; body = payloads.Code NoError }) ∷
    (record { depth = record { level = 2; task = false }; releases = []; body = payloads.Done }) ∷ [])

-- the page with these messages
done-of-level-2 : page_outcome 1500 page got-done-of-level-2 ≡ record {
  refusal = Some (record { place = 2; rule = rules.Unmatched; first = 2; second = 1 });
  page = (
      CommandResult 1 (results.Code NoError) ∷
      CommandResult 2 results.No ∷ []);
}
unfolding encoding digits is_text is_utf8 chars encode_utf8
done-of-level-2 = refl

abbrev got-false-for-turn : List Message
got-false-for-turn = (
    (record { depth = record { level = 1; task = false }; releases = []; body = payloads.Code NoError }) ∷
    (record { depth = record { level = 1; task = false }; releases = []; body = payloads.Code NoError }) ∷
    (record { depth = record { level = 1; task = false }; releases = []; body = payloads.False }) ∷ [])

-- the page with these messages
false-for-turn : page_outcome 1500 page got-false-for-turn ≡ record {
  refusal = Some (record { place = 2; rule = rules.Unmatched; first = 1; second = 1 });
  page = (
      CommandResult 1 (results.Code NoError) ∷
      CommandResult 2 results.No ∷ []);
}
unfolding encoding digits is_text is_utf8 chars encode_utf8
false-for-turn = refl

abbrev got-names-before-releases : List Message
got-names-before-releases = (
    (record { depth = record { level = 1; task = false }; releases = []; body = payloads.Code NoError }) ∷
    (record { depth = record { level = 1; task = false }; releases = []; body = payloads.Code NoError }) ∷
    (record { depth = record { level = 2; task = false }; releases = ((record { instance = 1; serial = 1; times = 1 }) ∷ []); body = payloads.Call 1 2 (ops.Invoke (Str (codes "f"))) [] }) ∷ [])

-- the page with these messages
names-before-releases : page_outcome 1500 page got-names-before-releases ≡ record {
  refusal = Some (record { place = 2; rule = rules.Unknown; first = 1; second = 2 });
  page = (
      CommandResult 1 (results.Code NoError) ∷
      CommandResult 2 results.No ∷ []);
}
unfolding encoding digits is_text is_utf8 chars encode_utf8
names-before-releases = refl

abbrev got-number-for-turn : List Message
got-number-for-turn = (
    (record { depth = record { level = 1; task = false }; releases = []; body = payloads.Code NoError }) ∷
    (record { depth = record { level = 1; task = false }; releases = []; body = payloads.Code NoError }) ∷
    (record { depth = record { level = 1; task = false }; releases = []; body = payloads.Number (pos 0) }) ∷ [])

-- the page with these messages
number-for-turn : page_outcome 1500 page got-number-for-turn ≡ record {
  refusal = Some (record { place = 2; rule = rules.Unmatched; first = 1; second = 1 });
  page = (
      CommandResult 1 (results.Code NoError) ∷
      CommandResult 2 results.No ∷ []);
}
unfolding encoding digits is_text is_utf8 chars encode_utf8
number-for-turn = refl

abbrev got-object-that-is-not-there : List Message
got-object-that-is-not-there = (
    (record { depth = record { level = 1; task = false }; releases = []; body = payloads.Code NoError }) ∷
    (record { depth = record { level = 1; task = false }; releases = []; body = payloads.Code NoError }) ∷
    (record { depth = record { level = 2; task = false }; releases = []; body = payloads.Call 1 1 ops.Enumerate [] }) ∷ [])

-- the page with these messages
object-that-is-not-there : page_outcome 1500 page got-object-that-is-not-there ≡ record {
  refusal = Some (record { place = 2; rule = rules.Unknown; first = 1; second = 1 });
  page = (
      CommandResult 1 (results.Code NoError) ∷
      CommandResult 2 results.No ∷ []);
}
unfolding encoding digits is_text is_utf8 chars encode_utf8
object-that-is-not-there = refl

abbrev got-release-of-what-is-not-out : List Message
got-release-of-what-is-not-out = (
    (record { depth = record { level = 1; task = false }; releases = []; body = payloads.Code NoError }) ∷
    (record { depth = record { level = 1; task = false }; releases = []; body = payloads.Code NoError }) ∷
    (record { depth = record { level = 1; task = false }; releases = ((record { instance = 1; serial = 1; times = 1 }) ∷ []); body = payloads.Done }) ∷ [])

-- the page with these messages
release-of-what-is-not-out : page_outcome 1500 page got-release-of-what-is-not-out ≡ record {
  refusal = Some (record { place = 2; rule = rules.Unknown; first = 1; second = 1 });
  page = (
      CommandResult 1 (results.Code NoError) ∷
      CommandResult 2 results.No ∷ []);
}
unfolding encoding digits is_text is_utf8 chars encode_utf8
release-of-what-is-not-out = refl

abbrev got-reply-to-a-deferred-call : List Message
got-reply-to-a-deferred-call = (
    (record { depth = record { level = 1; task = false }; releases = []; body = payloads.Code NoError }) ∷
    (record { depth = record { level = 1; task = false }; releases = []; body = payloads.Code NoError }) ∷
    (record { depth = record { level = 1; task = true }; releases = []; body = payloads.Window 1 }) ∷
    (record { depth = record { level = 1; task = true }; releases = []; body = payloads.Done }) ∷ [])

-- the page with these messages
reply-to-a-deferred-call : page_outcome 1500 page got-reply-to-a-deferred-call ≡ record {
  refusal = Some (record { place = 3; rule = rules.Unmatched; first = 129; second = 1 });
  page = (
      CommandResult 1 (results.Code NoError) ∷
      CommandResult 2 results.No ∷ []);
}
unfolding encoding digits is_text is_utf8 chars encode_utf8
reply-to-a-deferred-call = refl

abbrev got-request-after-a-deferred-call : List Message
got-request-after-a-deferred-call = (
    (record { depth = record { level = 1; task = false }; releases = []; body = payloads.Code NoError }) ∷
    (record { depth = record { level = 1; task = false }; releases = []; body = payloads.Code NoError }) ∷
    (record { depth = record { level = 1; task = true }; releases = []; body = payloads.Window 1 }) ∷
    (record { depth = record { level = 1; task = true }; releases = []; body = payloads.EndStream 1 1 reasons.Done }) ∷ [])

-- the page with these messages
request-after-a-deferred-call : page_outcome 1500 page got-request-after-a-deferred-call ≡ record {
  refusal = Some (record { place = 3; rule = rules.Held; first = 129; second = 2 });
  page = (
      CommandResult 1 (results.Code NoError) ∷
      CommandResult 2 results.No ∷ []);
}
unfolding encoding digits is_text is_utf8 chars encode_utf8
request-after-a-deferred-call = refl

abbrev got-second-task-call : List Message
got-second-task-call = (
    (record { depth = record { level = 1; task = false }; releases = []; body = payloads.Code NoError }) ∷
    (record { depth = record { level = 1; task = false }; releases = []; body = payloads.Code NoError }) ∷
    (record { depth = record { level = 1; task = true }; releases = []; body = payloads.Call 1 1 ops.Enumerate [] }) ∷
    (record { depth = record { level = 1; task = true }; releases = []; body = payloads.Call 1 1 ops.Enumerate [] }) ∷ [])

-- the page with these messages
second-task-call : page_outcome 1500 page got-second-task-call ≡ record {
  refusal = Some (record { place = 3; rule = rules.Held; first = 129; second = 2 });
  page = (
      CommandResult 1 (results.Code NoError) ∷
      CommandResult 2 results.No ∷ []);
}
unfolding encoding digits is_text is_utf8 chars encode_utf8
second-task-call = refl

abbrev got-target-before-value : List Message
got-target-before-value = (
    (record { depth = record { level = 1; task = false }; releases = []; body = payloads.Code NoError }) ∷
    (record { depth = record { level = 1; task = false }; releases = []; body = payloads.Code NoError }) ∷
    (record { depth = record { level = 2; task = false }; releases = []; body = payloads.Call 1 2 (ops.Invoke (Str (codes "f"))) (values.Object (record { side = sides.Page; instance = 1; serial = 3 }) ∷ []) }) ∷ [])

-- the page with these messages
target-before-value : page_outcome 1500 page got-target-before-value ≡ record {
  refusal = Some (record { place = 2; rule = rules.Unknown; first = 1; second = 2 });
  page = (
      CommandResult 1 (results.Code NoError) ∷
      CommandResult 2 results.No ∷ []);
}
unfolding encoding digits is_text is_utf8 chars encode_utf8
target-before-value = refl

abbrev got-window-at-level-1 : List Message
got-window-at-level-1 = (
    (record { depth = record { level = 1; task = false }; releases = []; body = payloads.Code NoError }) ∷
    (record { depth = record { level = 1; task = false }; releases = []; body = payloads.Code NoError }) ∷
    (record { depth = record { level = 1; task = false }; releases = []; body = payloads.Window 1 }) ∷ [])

-- the page with these messages
window-at-level-1 : page_outcome 1500 page got-window-at-level-1 ≡ record {
  refusal = Some (record { place = 2; rule = rules.Place; first = 1; second = 1 });
  page = (
      CommandResult 1 (results.Code NoError) ∷
      CommandResult 2 results.No ∷ []);
}
unfolding encoding digits is_text is_utf8 chars encode_utf8
window-at-level-1 = refl

abbrev got-window-of-instance-2 : List Message
got-window-of-instance-2 = (
    (record { depth = record { level = 1; task = false }; releases = []; body = payloads.Code NoError }) ∷
    (record { depth = record { level = 1; task = false }; releases = []; body = payloads.Code NoError }) ∷
    (record { depth = record { level = 2; task = false }; releases = []; body = payloads.Window 2 }) ∷ [])

-- the page with these messages
window-of-instance-2 : page_outcome 1500 page got-window-of-instance-2 ≡ record {
  refusal = Some (record { place = 2; rule = rules.WrongKind; first = 32; second = 2 });
  page = (
      CommandResult 1 (results.Code NoError) ∷
      CommandResult 2 results.No ∷ []);
}
unfolding encoding digits is_text is_utf8 chars encode_utf8
window-of-instance-2 = refl
