-- How many bytes the page sends.
use Rattle.std.proofs.Common.{◌≡◌, ℕ, ◌+◌, ◌*◌, ◌≤◌, leb, true, false, List, [], ◌∷◌, length, refl, ap, subst, arith}
use Rattle.std.specs.Int.{w16, w32, to_be_bytes}
use Rattle.std.specs.List.{list_all}
use Rattle.std.specs.Str.{is_utf8}
use Rattle.std.proofs.lemmas.Bool.{leb-true, and_parts}
use Rattle.std.proofs.lemmas.List.{length-append}
use Rattle.np_values.specs.Text.{is_text}
use Rattle.np_proxy_release.specs.declared.release.Release.{Release}
use Rattle.np_message.specs.Message.{Message}
use Rattle.np_message.specs.declared.payload.Payload.{Payload}
use Rattle.np_message.specs.declared.payload.Payload.TheVariants.{Hello, New, Destroy, Turn, Shutdown}
use Rattle.np_model.specs.declared.script.Page.{Page}
use Rattle.np_model.specs.declared.script.Plugin.{Plugin}
use Rattle.np_model.specs.Script.{IsWellFormed}
use Rattle.np_message.specs.Encoding.{counted_item, items_of, releases_items, body_of, encoding, encodings}
use Rattle.np_message.specs.Rules.{IsTypedBody, AreMessages}
use Rattle.np_message.specs.Kinds.{is_reply}
use Rattle.np_model.specs.Side.{SideState}
use Rattle.np_model.specs.PagePlan.{PageControl}
use Rattle.np_model.specs.declared.plugin.PluginStage.{PluginStage}
use Rattle.np_model.specs.declared.plugin.PluginStage.TheVariants.{Begin, Serving, Ended}
use Rattle.np_model.specs.PluginPlan.{PluginControl, plugin_start, may_come, control_after_call}
use Rattle.np_model.specs.PluginRun.{IsPageText}
use Rattle.np_model_laws.specs.Laws.{CallsLaw, RoundsLaw, EndpointLaw, FewCallsLaw, NoAttributesLaw, AreCallsInTurn, has_no_attributes}
use Rattle.np_model_wire_laws.proofs.Texts.{machine, page-follows}

text-bytes : (text : List ℕ) → length (counted_item text) ≡ 2 + length text
text-bytes text =
    let two : length (to_be_bytes w16 (length text)) ≡ 2 = refl in
    omega (arith, two, length-append (to_be_bytes w16 (length text)) text)

text-length : (text : List ℕ) → is_text text ≡ true → length text ≤ 2048
unfolding is_text
text-length text e = leb-true (length text) 2048 (and_parts (leb (length text) 2048) (is_utf8 text) e).0

-- the calls that a page makes
abbrev IsCallOfPage : Payload → Type 0
IsCallOfPage (Hello version major minor) = Unit {0}
IsCallOfPage (New instance mode mime attributes) = Unit {0}
IsCallOfPage (Destroy instance) = Unit {0}
IsCallOfPage Turn = Unit {0}
IsCallOfPage Shutdown = Unit {0}
IsCallOfPage body = ⊥

call-of-page : (c : PluginControl) (s : PluginStage) (body : Payload) → may_come c s body ≡ true → is_reply body ≡ false → IsCallOfPage body
call-of-page c Begin (Hello version major minor) e f = tt
call-of-page c Begin body e f = absurd cc
call-of-page c Serving (New instance mode mime attributes) e f = tt
call-of-page c Serving (Destroy instance) e f = tt
call-of-page c Serving Turn e f = tt
call-of-page c Serving Shutdown e f = tt
call-of-page c Serving body e f = absurd cc
call-of-page c Ended body e f = absurd cc

call-items : (body : Payload) → IsCallOfPage body → IsTypedBody body → has_no_attributes body ≡ true → length (items_of body) ≤ 2053
call-items (Hello version major minor) k t e = omega arith
call-items (New instance mode mime []) k t e =
    let short = text-length mime t.1 in
    omega (arith, short, text-bytes mime, length-append (counted_item mime) (0 ∷ []))
call-items (New instance mode mime (name ∷ rest)) k t e = absurd cc
call-items (Destroy instance) k t e = omega arith
call-items Turn k t e = omega arith
call-items Shutdown k t e = omega arith
call-items body k t e = absurd k

call-bytes : (m : Message) → IsCallOfPage m.body → IsTypedBody m.body → has_no_attributes m.body ≡ true → m.releases ≡ [] → length (encoding m) ≤ 2061
unfolding encoding
call-bytes m k t e none =
    let few = call-items m.body k t e in
    let count : length (releases_items m.releases) ≡ 2 = ap (λ (l : List Release). length (releases_items l)) none in
    let four : length (to_be_bytes w32 (length (body_of m))) ≡ 4 = refl in
    omega (arith, few, count, four, length-append (releases_items m.releases) (items_of m.body), length-append (to_be_bytes w32 (length (body_of m))) (body_of m))

calls-bytes : (plugin : Plugin) (c : PluginControl) (messages : List Message) → AreCallsInTurn plugin c messages → AreMessages messages → list_all (λ m. has_no_attributes m.body) messages ≡ true → length (encodings messages) ≤ 2061 * length messages
calls-bytes plugin c [] turns h e = omega arith
calls-bytes plugin c (m ∷ messages) turns h e =
    let parts = and_parts (has_no_attributes m.body) (list_all (λ x. has_no_attributes x.body) messages) e in
    let one = call-bytes m (call-of-page c c.stage m.body turns.0.0 turns.0.1) h.0.1.body parts.0 turns.0.4 in
    let ih = calls-bytes plugin (control_after_call plugin c m.body) messages turns.1 h.1 parts.1 in
    omega (arith, one, ih, length-append (encoding m) (encodings messages))

pub page-few-bytes : CallsLaw → NoAttributesLaw → RoundsLaw → EndpointLaw → FewCallsLaw → (page : Page) (plugin : Plugin) (given : List ℕ) → IsWellFormed page → IsPageText page plugin given → length given ≤ 2061 * (2 * length page.commands + 2)
page-few-bytes calls plain rounds_law endpoint few_calls page plugin given formed t =
    let m = machine page plugin t.rounds in
    let a = page-follows rounds_law endpoint page plugin t.rounds in
    let none = subst (λ (q : SideState PageControl). list_all (λ x. has_no_attributes x.body) q.sent ≡ true) a.1 (plain page m.plugin.sent a.0) in
    let law = calls page plugin t.rounds in
    let bytes = calls-bytes plugin plugin_start m.page.sent law.0 (law.1 formed) none in
    let text = ap length t.text in
    let few = few_calls page m.plugin.sent a.0 in
    let same = ap (λ (q : SideState PageControl). length q.sent) a.1 in
    omega (arith, bytes, text, few, same, length-append given t.rest)
