-- How many bytes the plug-in sends.
use Rattle.std.proofs.Common.{◌≡◌, ℕ, ◌+◌, ◌*◌, ◌≤◌, true, List, [], ◌∷◌, length, refl, ap, arith}
use Rattle.std.specs.Int.{w32, to_be_bytes}
use Rattle.std.proofs.lemmas.List.{length-append}
use Rattle.np_proxy_release.specs.declared.release.Release.{Release}
use Rattle.np_message.specs.Message.{Message}
use Rattle.np_message.specs.declared.payload.Payload.{Payload}
use Rattle.np_message.specs.declared.payload.Payload.TheVariants.{Code, Done}
use Rattle.np_model.specs.declared.script.Page.{Page}
use Rattle.np_message.specs.Encoding.{items_of, releases_items, body_of, encoding, encodings}
use Rattle.np_model.specs.Side.{SideState}
use Rattle.np_model.specs.PagePlan.{PageControl, may_answer}
use Rattle.np_model.specs.declared.script.Plugin.{Plugin}
use Rattle.np_model.specs.HostRun.{IsPluginText}
use Rattle.np_model_laws.specs.Laws.{AreReplies, RepliesLaw, RoundsLaw, EndpointLaw, FewCallsLaw}
use Rattle.np_model_wire_laws.proofs.Texts.{machine, page-follows}

reply-items : (body : Payload) → may_answer body ≡ true → length (items_of body) ≤ 1
reply-items (Code error) e = omega arith
reply-items Done e = omega arith
reply-items body e = absurd cc

reply-bytes : (m : Message) → may_answer m.body ≡ true → m.releases ≡ [] → length (encoding m) ≤ 9
unfolding encoding
reply-bytes m e none =
    let few = reply-items m.body e in
    let count : length (releases_items m.releases) ≡ 2 = ap (λ (l : List Release). length (releases_items l)) none in
    let four : length (to_be_bytes w32 (length (body_of m))) ≡ 4 = refl in
    omega (arith, few, count, four, length-append (releases_items m.releases) (items_of m.body), length-append (to_be_bytes w32 (length (body_of m))) (body_of m))

replies-bytes : (messages : List Message) → AreReplies messages → length (encodings messages) ≤ 9 * length messages
replies-bytes [] h = omega arith
replies-bytes (m ∷ messages) h =
    let one = reply-bytes m h.0.kind h.0.bare in
    let ih = replies-bytes messages h.1 in
    omega (arith, one, ih, length-append (encoding m) (encodings messages))

pub few-bytes : RepliesLaw → RoundsLaw → EndpointLaw → FewCallsLaw → (page : Page) (plugin : Plugin) (given : List ℕ) → IsPluginText page plugin given → length given ≤ 9 * (2 * length page.commands + 2)
few-bytes replies rounds_law endpoint few_calls page plugin given t =
    let m = machine page plugin t.rounds in
    let a = page-follows rounds_law endpoint page plugin t.rounds in
    let r = replies page plugin t.rounds in
    let sent = r.1 in
    let bytes = replies-bytes m.plugin.sent r.0 in
    let text = ap length t.text in
    let calls = few_calls page m.plugin.sent a.0 in
    let same = ap (λ (q : SideState PageControl). length q.sent) a.1 in
    omega (arith, sent, bytes, text, calls, same, length-append given t.rest)
