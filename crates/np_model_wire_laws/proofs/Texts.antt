-- The page alone with a prefix of the plug-in's wire text.
use Rattle.std.proofs.Common.{◌≡◌, ℕ, ◌+◌, ◌≤◌, List, [], ◌∷◌, ◌++◌, length, refl, sym, ap, subst, ◌∙◌, arith, None}
use Rattle.std.proofs.lemmas.List.{append-nil, length-append}
use Rattle.np_message.specs.Message.{Message}
use Rattle.np_model.specs.declared.script.Page.{Page}
use Rattle.np_model.specs.declared.script.Plugin.{Plugin}
use Rattle.np_message.specs.Encoding.{encodings}
use Rattle.np_message.specs.Rules.{AreMessages}
use Rattle.np_model.specs.Side.{SideState, at_start}
use Rattle.np_model.specs.Run.{HasEnded, Machine, endpoint_run, machine_run, Rests, RestsAt}
use Rattle.np_model.specs.PagePlan.{PageControl, page_plans, page_start, pace_at}
use Rattle.np_model.specs.PluginPlan.{PluginControl, plugin_plans, plugin_start}
use Rattle.np_model.specs.HostRun.{start_of, HostRests, IsPluginText}
use Rattle.np_model.specs.Alone.{page_role, ComesTo, WaitsAt, EndsAt, RefusesNothing}
use Rattle.np_model.proofs.Paces.{page-ended}
use Rattle.np_model_laws.specs.Laws.{AreReplies, CutLaw, MoreMessagesLaw, HonestLaw, JournalLaw, RepliesLaw, RoundsLaw, EndpointLaw, PacedLaw, AloneLaw, open_calls}
use Rattle.np_model_wire_laws.specs.Prefix.{IsWhole}
use Rattle.np_wire_laws.specs.Laws.{WaitsExactly}
use Rattle.np_model_wire_laws.proofs.Streams.{Wire, Waiting, Continues, continues, empty-waits, begins-text}
use Rattle.np_model_wire_laws.proofs.SideAlone.{waits-rests, ended-rests, rests-with-first, first-of}
use Rattle.np_model_wire_laws.proofs.Unrefused.{never-refused}

abbrev pub machine : Page → Plugin → ℕ → Machine PageControl PluginControl
machine page plugin rounds = machine_run (page_plans page) (plugin_plans plugin) None None rounds (start_of page)

pub replies-keep : (messages : List Message) → AreReplies messages → AreMessages messages
replies-keep [] h = tt
replies-keep (m ∷ messages) h = ((h.0.format, h.0.typed), replies-keep messages h.1)

-- messages whose bytes begin the plug-in's text begin those that it sends
sent-begin : Wire → WaitsExactly → RepliesLaw → (page : Page) (plugin : Plugin) (given left : List ℕ) (messages : List Message) (t : IsPluginText page plugin given) → AreMessages messages → given ≡ encodings messages ++ left → Continues messages (machine page plugin t.rounds).plugin.sent (left ++ t.rest) []
sent-begin w v replies page plugin given left messages t are is =
    let sent = (machine page plugin t.rounds).plugin.sent in
    begins-text w v messages sent given left t.rest are (replies-keep sent (replies page plugin t.rounds).0) is t.text

-- the messages that the page examined begin those that the plug-in sends
examined-begin : Wire → WaitsExactly → RepliesLaw → (page : Page) (plugin : Plugin) (given : List ℕ) (side : SideState PageControl) (t : IsPluginText page plugin given) (c : ComesTo (page_role page) given side) → Continues side.examined (machine page plugin t.rounds).plugin.sent (c.left ++ t.rest) []
examined-begin w v replies page plugin given side t c = sent-begin w v replies page plugin given c.left side.examined t c.messages c.got_is

-- ---- the page where it waits or has ended

-- what rests alone rests in the run that only these messages reach
rests-in-run : CutLaw → (page : Page) (plugin : Plugin) (rounds turns : ℕ) (more : List Message) (side : SideState PageControl) → endpoint_run (page_plans page) side.examined turns (at_start (page_start page)) ≡ side → Rests (page_plans page) side.examined side → (machine page plugin rounds).plugin.sent ≡ side.examined ++ more → HostRests page plugin (length side.examined) side
rests-in-run cut page plugin rounds turns more side comes rests is =
    let r = rests-with-first (page_role page) turns (machine page plugin rounds).plugin.sent more side comes rests is in
    cut (page_plans page) (plugin_plans plugin) (page_start page) plugin_start rounds (length side.examined) side r.0 r.1

pub waits : Wire → WaitsExactly → RepliesLaw → CutLaw → (page : Page) (plugin : Plugin) (given : List ℕ) (side : SideState PageControl) → IsPluginText page plugin given → WaitsAt (page_role page) given side → HostRests page plugin (length side.examined) side × IsWhole given (length side.examined)
waits w v replies cut page plugin given side t at =
    let c = at.comes_to in
    let b = examined-begin w v replies page plugin given side t c in
    (rests-in-run cut page plugin t.rounds c.turns b.more side c.comes (waits-rests (page_plans page) side at.awaits) b.is, record { messages = side.examined; rest = c.left; count = refl; keep = c.messages; parts = c.got_is; partial = at.partial })

-- ---- nothing is refused

pub never-refuses : Wire → Waiting → RepliesLaw → MoreMessagesLaw → HonestLaw → (page : Page) (plugin : Plugin) (given : List ℕ) → IsPluginText page plugin given → RefusesNothing (page_role page) given
never-refuses w v replies more_law honest page plugin given t side r c refusal =
    never-refused w v more_law (page_role page) given t.rest side r (machine page plugin t.rounds).plugin.sent (honest page plugin t.rounds).0 c (examined-begin w v.exact replies page plugin given side t c) refusal

-- ---- the end

-- the page of the machine alone
pub page-follows : RoundsLaw → EndpointLaw → (page : Page) (plugin : Plugin) (rounds : ℕ) → let m = machine page plugin rounds in (turns : ℕ) × (endpoint_run (page_plans page) m.plugin.sent turns (at_start (page_start page)) ≡ m.page)
page-follows rounds_law endpoint page plugin rounds =
    let o = rounds_law (page_plans page) (plugin_plans plugin) rounds (start_of page) in
    subst (λ (m : Machine PageControl PluginControl). (turns : ℕ) × (endpoint_run (page_plans page) m.plugin.sent turns (at_start (page_start page)) ≡ m.page)) (sym o.1) (endpoint (page_plans page) (plugin_plans plugin) (page_start page) plugin_start o.0).0

nil-length : {A : Type 0} (l : List A) → length l ≡ 0 → l ≡ []
nil-length [] e = refl
nil-length (x ∷ l) e = absurd (omega (arith, e))

-- a page that has ended examined as many messages as the plug-in sends
pub ended-all : RepliesLaw → MoreMessagesLaw → RoundsLaw → EndpointLaw → JournalLaw → PacedLaw → (page : Page) (plugin : Plugin) (rounds turns : ℕ) (more : List Message) (side : SideState PageControl) → endpoint_run (page_plans page) side.examined turns (at_start (page_start page)) ≡ side → pace_at side.control.stage ≡ HasEnded → (machine page plugin rounds).plugin.sent ≡ side.examined ++ more → more ≡ []
ended-all replies more_law rounds_law endpoint journal paced page plugin rounds turns more side comes ended is =
    let m = machine page plugin rounds in
    let sent = m.plugin.sent in
    let start = at_start (page_start page) in
    let k = more_law (page_plans page) side.examined more turns start in
    let all : sent ++ [] ≡ side.examined ++ more = append-nil sent ∙ is in
    let rests : RestsAt (page_plans page) (sent ++ []) start side = record {
      turns = k.0;
      comes = ap (λ l. endpoint_run (page_plans page) l k.0 start) all ∙ k.1 ∙ comes;
      rests = ended-rests (page_plans page) (sent ++ []) side ended;
    } in
    let a = page-follows rounds_law endpoint page plugin rounds in
    let grown = (journal (page_plans page) sent [] a.0 start side rests).1 in
    let calls : side.sent ≡ m.page.sent ++ grown.0 = grown.1 ∙ ap (λ (q : SideState PageControl). q.sent ++ grown.0) a.1 in
    let few = (replies page plugin rounds).1 in
    let p = endpoint_run (page_plans page) side.examined turns start in
    let pace : length side.sent ≡ length side.examined + open_calls side.control.stage = subst (λ (q : SideState PageControl). length q.sent ≡ length q.examined + open_calls q.control.stage) comes (paced page side.examined turns) in
    let closed : open_calls side.control.stage ≡ 0 = ap open_calls (page-ended side.control.stage ended) in
    let e = ap length is in
    let f = ap length calls in
    nil-length more (omega (arith, few, pace, closed, e, f, length-append side.examined more, length-append m.page.sent grown.0))

pub ends : Wire → WaitsExactly → RepliesLaw → CutLaw → MoreMessagesLaw → RoundsLaw → EndpointLaw → JournalLaw → PacedLaw → (page : Page) (plugin : Plugin) (given : List ℕ) (side : SideState PageControl) → IsPluginText page plugin given → EndsAt (page_role page) given side → HostRests page plugin (length side.examined) side × IsWhole given (length side.examined)
ends w v replies cut more_law rounds_law endpoint journal paced page plugin given side t at =
    let c = at.comes_to in
    let b = examined-begin w v replies page plugin given side t c in
    let none = ended-all replies more_law rounds_law endpoint journal paced page plugin t.rounds c.turns b.more side c.comes at.ended b.is in
    let nothing : c.left ++ t.rest ≡ [] = b.bytes ∙ append-nil (encodings b.more) ∙ ap encodings none in
    (rests-in-run cut page plugin t.rounds c.turns b.more side c.comes (ended-rests (page_plans page) side.examined side at.ended) b.is, record { messages = side.examined; rest = c.left; count = refl; keep = c.messages; parts = c.got_is; partial = empty-waits v (length (encodings side.examined)) c.left t.rest nothing })

-- ---- whole messages

whole-fewer : Wire → (bytes : List ℕ) (n m : ℕ) → IsWhole bytes n → IsWhole bytes m → n ≤ m
whole-fewer w bytes n m a b =
    let r = continues w (length (encodings b.messages)) a.messages b.messages a.rest b.rest a.keep b.keep b.partial (sym a.parts ∙ b.parts) in
    let e = ap length r.is in
    omega (arith, e, a.count, b.count, length-append a.messages r.more)

pub one-whole : Wire → (bytes : List ℕ) (n m : ℕ) → IsWhole bytes n → IsWhole bytes m → n ≡ m
one-whole w bytes n m a b =
    let l = whole-fewer w bytes n m a b in
    let g = whole-fewer w bytes m n b a in
    omega (arith, l, g)

-- ---- what was printed and sent

pub begins : Wire → WaitsExactly → RepliesLaw → AloneLaw → JournalLaw → (page : Page) (plugin : Plugin) (given : List ℕ) (n : ℕ) (side p : SideState PageControl) → IsPluginText page plugin given → ComesTo (page_role page) given side → IsWhole given n → HostRests page plugin n p → ((line : List ℕ) × (p.journal ≡ side.journal ++ line)) × ((messages : List Message) × (p.sent ≡ side.sent ++ messages))
begins w v replies alone journal page plugin given n side p t c whole rests =
    let sent = (machine page plugin t.rounds).plugin.sent in
    let start = at_start (page_start page) in
    let f = first-of w (page_role page) given (whole.rest ++ t.rest) n side sent c whole (sent-begin w v replies page plugin given whole.rest whole.messages t whole.keep whole.parts) in
    let rest_alone = alone (page_plans page) (plugin_plans plugin) (page_start page) plugin_start t.rounds n p f.enough rests in
    let g = journal (page_plans page) side.examined f.more c.turns start p (subst (λ l. RestsAt (page_plans page) l start p) f.is rest_alone) in
    ((g.0.0, g.0.1 ∙ ap (λ (q : SideState PageControl). q.journal ++ g.0.0) c.comes), (g.1.0, g.1.1 ∙ ap (λ (q : SideState PageControl). q.sent ++ g.1.0) c.comes))
