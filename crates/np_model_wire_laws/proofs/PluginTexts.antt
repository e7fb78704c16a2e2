-- The plug-in alone with a prefix of the page's wire text.
use Rattle.std.proofs.Common.{◌≡◌, ℕ, true, false, List, [], ◌∷◌, ◌++◌, length, refl, sym, ap, subst, ◌∙◌}
use Rattle.std.proofs.lemmas.List.{append-nil}
use Rattle.np_message.specs.Message.{Message}
use Rattle.np_model.specs.declared.script.Page.{Page}
use Rattle.np_model.specs.declared.script.Plugin.{Plugin}
use Rattle.np_model.specs.declared.plugin.PluginStage.TheVariants.{Ended}
use Rattle.np_model.specs.Script.{IsWellFormed}
use Rattle.np_message.specs.Encoding.{encodings}
use Rattle.np_message.specs.Rules.{AreMessages}
use Rattle.np_model.specs.Side.{SideState, at_start}
use Rattle.np_model.specs.Run.{HasEnded, endpoint_run, Rests, RestsAt}
use Rattle.np_model.specs.PagePlan.{page_plans, page_start}
use Rattle.np_model.specs.PluginPlan.{PluginControl, plugin_plans, plugin_start, plugin_pace, may_come, control_after_call}
use Rattle.np_model.specs.PluginRun.{PluginRestsIn, IsPageText}
use Rattle.np_model.specs.Alone.{plugin_role, ComesTo, WaitsAt, EndsAt, RefusesNothing}
use Rattle.np_model.proofs.Paces.{plugin-ended}
use Rattle.np_model_laws.specs.Laws.{AreCallsInTurn, control_after_calls, CallsLaw, PluginCutLaw, PluginMoreMessagesLaw, HonestLaw, PluginAloneLaw, PluginJournalLaw, ServesLaw}
use Rattle.np_model_wire_laws.specs.Prefix.{IsWhole}
use Rattle.np_wire_laws.specs.Laws.{WaitsExactly}
use Rattle.np_model_wire_laws.proofs.Streams.{Wire, Waiting, Continues, empty-waits, begins-text}
use Rattle.np_model_wire_laws.proofs.SideAlone.{waits-rests, ended-rests, rests-with-first, first-of}
use Rattle.np_model_wire_laws.proofs.Texts.{machine}
use Rattle.np_model_wire_laws.proofs.Unrefused.{never-refused}

-- messages whose bytes stand in a prefix of the page's wire text begin those that the page sends
begin-text : Wire → WaitsExactly → CallsLaw → (page : Page) (plugin : Plugin) (given left : List ℕ) (messages : List Message) → IsWellFormed page → (t : IsPageText page plugin given) → AreMessages messages → given ≡ encodings messages ++ left → Continues messages (machine page plugin t.rounds).page.sent (left ++ t.rest) []
begin-text w v calls page plugin given left messages formed t are is =
    begins-text w v messages (machine page plugin t.rounds).page.sent given left t.rest are ((calls page plugin t.rounds).1 formed) is t.text

-- ---- the plug-in where it waits or has ended

-- what rests alone rests in the run that only these messages reach
rests-in-run : PluginCutLaw → (page : Page) (plugin : Plugin) (rounds turns : ℕ) (more : List Message) (side : SideState PluginControl) → endpoint_run (plugin_plans plugin) side.examined turns (at_start plugin_start) ≡ side → Rests (plugin_plans plugin) side.examined side → (machine page plugin rounds).page.sent ≡ side.examined ++ more → PluginRestsIn page plugin (length side.examined) side
rests-in-run cut page plugin rounds turns more side comes rests is =
    let r = rests-with-first (plugin_role plugin) turns (machine page plugin rounds).page.sent more side comes rests is in
    cut (page_plans page) (plugin_plans plugin) (page_start page) plugin_start rounds (length side.examined) side r.0 r.1

pub plugin-waits : Wire → WaitsExactly → CallsLaw → PluginCutLaw → (page : Page) (plugin : Plugin) (given : List ℕ) (side : SideState PluginControl) → IsWellFormed page → IsPageText page plugin given → WaitsAt (plugin_role plugin) given side → PluginRestsIn page plugin (length side.examined) side × IsWhole given (length side.examined)
plugin-waits w v calls cut page plugin given side formed t at =
    let c = at.comes_to in
    let b = begin-text w v calls page plugin given c.left side.examined formed t c.messages c.got_is in
    (rests-in-run cut page plugin t.rounds c.turns b.more side c.comes (waits-rests (plugin_plans plugin) side at.awaits) b.is, record { messages = side.examined; rest = c.left; count = refl; keep = c.messages; parts = c.got_is; partial = at.partial })

-- ---- nothing is refused

pub plugin-never-refuses : Wire → Waiting → CallsLaw → PluginMoreMessagesLaw → HonestLaw → (page : Page) (plugin : Plugin) (given : List ℕ) → IsWellFormed page → IsPageText page plugin given → RefusesNothing (plugin_role plugin) given
plugin-never-refuses w v calls more_law honest page plugin given formed t side r c refusal =
    never-refused w v more_law (plugin_role plugin) given t.rest side r (machine page plugin t.rounds).page.sent (honest page plugin t.rounds).1 c (begin-text w v.exact calls page plugin given c.left side.examined formed t c.messages c.got_is) refusal

-- ---- the end

-- a call that comes behind others may come where these lead the plug-in
next-may-come : (plugin : Plugin) (c : PluginControl) (before later : List Message) (m : Message) → AreCallsInTurn plugin c (before ++ m ∷ later) → let d = control_after_calls plugin c before in may_come d d.stage m.body ≡ true
next-may-come plugin c [] later m h = h.0.0
next-may-come plugin c (x ∷ before) later m h = next-may-come plugin (control_after_call plugin c x.body) before later m h.1

-- nothing may come at a plug-in that has ended, so the page sends nothing more
ended-all : CallsLaw → ServesLaw → (page : Page) (plugin : Plugin) (rounds turns : ℕ) (more : List Message) (side : SideState PluginControl) → endpoint_run (plugin_plans plugin) side.examined turns (at_start plugin_start) ≡ side → plugin_pace side.control.stage ≡ HasEnded → (machine page plugin rounds).page.sent ≡ side.examined ++ more → more ≡ []
ended-all calls serves page plugin rounds turns [] side comes ended is = refl
ended-all calls serves page plugin rounds turns (m ∷ later) side comes ended is =
    let d = control_after_calls plugin plugin_start side.examined in
    let stands : side.control ≡ d = subst (λ (q : SideState PluginControl). q.control ≡ control_after_calls plugin plugin_start q.examined) comes (serves plugin side.examined turns).0 in
    let over : d.stage ≡ Ended = ap (λ (c : PluginControl). c.stage) (sym stands) ∙ plugin-ended side.control.stage ended in
    let may = next-may-come plugin plugin_start side.examined later m (subst (λ l. AreCallsInTurn plugin plugin_start l) is (calls page plugin rounds).0) in
    let none : false ≡ true = ap (λ stage. may_come d stage m.body) (sym over) ∙ may in
    absurd cc

pub plugin-ends : Wire → WaitsExactly → CallsLaw → PluginCutLaw → ServesLaw → (page : Page) (plugin : Plugin) (given : List ℕ) (side : SideState PluginControl) → IsWellFormed page → IsPageText page plugin given → EndsAt (plugin_role plugin) given side → PluginRestsIn page plugin (length side.examined) side × IsWhole given (length side.examined)
plugin-ends w v calls cut serves page plugin given side formed t at =
    let c = at.comes_to in
    let b = begin-text w v calls page plugin given c.left side.examined formed t c.messages c.got_is in
    let none = ended-all calls serves page plugin t.rounds c.turns b.more side c.comes at.ended b.is in
    let nothing : c.left ++ t.rest ≡ [] = b.bytes ∙ append-nil (encodings b.more) ∙ ap encodings none in
    (rests-in-run cut page plugin t.rounds c.turns b.more side c.comes (ended-rests (plugin_plans plugin) side.examined side at.ended) b.is, record { messages = side.examined; rest = c.left; count = refl; keep = c.messages; parts = c.got_is; partial = empty-waits v (length (encodings side.examined)) c.left t.rest nothing })

-- ---- what was printed and sent

pub plugin-begins : Wire → WaitsExactly → CallsLaw → PluginAloneLaw → PluginJournalLaw → (page : Page) (plugin : Plugin) (given : List ℕ) (n : ℕ) (side p : SideState PluginControl) → IsWellFormed page → IsPageText page plugin given → ComesTo (plugin_role plugin) given side → IsWhole given n → PluginRestsIn page plugin n p → ((line : List ℕ) × (p.journal ≡ side.journal ++ line)) × ((messages : List Message) × (p.sent ≡ side.sent ++ messages))
plugin-begins w v calls alone journal page plugin given n side p formed t c whole rests =
    let sent = (machine page plugin t.rounds).page.sent in
    let start = at_start plugin_start in
    let f = first-of w (plugin_role plugin) given (whole.rest ++ t.rest) n side sent c whole (begin-text w v calls page plugin given whole.rest whole.messages formed t whole.keep whole.parts) in
    let rest_alone = alone (page_plans page) (plugin_plans plugin) (page_start page) plugin_start t.rounds n p f.enough rests in
    let g = journal (plugin_plans plugin) side.examined f.more c.turns start p (subst (λ l. RestsAt (plugin_plans plugin) l start p) f.is rest_alone) in
    ((g.0.0, g.0.1 ∙ ap (λ (q : SideState PluginControl). q.journal ++ g.0.0) c.comes), (g.1.0, g.1.1 ∙ ap (λ (q : SideState PluginControl). q.sent ++ g.1.0) c.comes))
