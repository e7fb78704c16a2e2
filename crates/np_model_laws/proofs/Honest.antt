-- In the run of a page and a plug-in neither refuses what the other sent.
use Rattle.std.proofs.Common.{◌≡◌, ℕ, zero, suc, List, [], ◌∷◌, length, map, refl, sym, ap, ◌∙◌, subst, drop, Some, None}
use Rattle.np_model.specs.declared.script.Page.{Page}
use Rattle.np_model.specs.declared.script.Plugin.{Plugin}
use Rattle.np_message.specs.declared.payload.Payload.{Payload}
use Rattle.np_message.specs.Message.{Message}
use Rattle.np_model.specs.declared.page.Outstanding.{Outstanding}
use Rattle.np_model.specs.declared.page.Stage.{Stage}
use Rattle.np_model.specs.declared.page.Stage.TheVariants.{Begin, Ready, Awaiting, Unanswered, Ended}
use Rattle.np_model.specs.Side.{SideState, at_start}
use Rattle.np_model.specs.Run.{Acts, Awaits, HasEnded, first, next_message, turn, endpoint_run, Machine, machine_run}
use Rattle.np_model.specs.PagePlan.{PageControl, page_plans, page_start, at_level_1, pace_at}
use Rattle.np_model.specs.PluginPlan.{PluginControl, plugin_plans, plugin_start, reply_message}
use Rattle.np_model_laws.specs.Laws.{both_start, RefusesNone, AreCallsInTurn}
use Rattle.np_model_laws.proofs.Alone.{Extends, first-extends, endpoint-examined, endpoint-sent}
use Rattle.np_model_laws.proofs.Gated.{rounds-follow}
use Rattle.np_model_laws.proofs.Cut.{page-rounds, plugin-rounds}
use Rattle.np_model_laws.proofs.PagePace.{asks, PacedAt, page-paced}
use Rattle.np_model_laws.proofs.PluginServes.{plugin-serves, plugin-honest}
use Rattle.np_model_laws.proofs.CallsInTurn.{Stands, IsAnswered, page-turn-stands, page-starts, answer-accepted}

-- ---- the page alone, where a plug-in answers

first-map : (f : Message → Message) (k : ℕ) (l : List Message) (m : Message) → first (drop k (map f l)) ≡ Some m → (x : Message) × (first (drop k l) ≡ Some x) × (m ≡ f x)
first-map f zero [] m e = let n : ⊥ = cc in absurd n
first-map f zero (x ∷ l) m e = (x, refl, cc)
first-map f (suc k) [] m e = let n : ⊥ = cc in absurd n
first-map f (suc k) (x ∷ l) m e = first-map f k l m e

-- the messages that reach the page are the answers to its first calls
record Answers (page : Page) (plugin : Plugin) (got : List Message) : Type 0 where
  examined : List Message
  turns : ℕ
  are : got ≡ map (reply_message plugin) examined
  begins : Extends examined (endpoint_run (page_plans page) got turns (at_start (page_start page))).sent

-- so the next one answers its open call
page-answered : (page : Page) (plugin : Plugin) (got : List Message) (n : ℕ) → Answers page plugin got → IsAnswered plugin got (endpoint_run (page_plans page) got n (at_start (page_start page)))
page-answered page plugin got n h = record { next = next }
  where
    next : (call : Outstanding) (m : Message) → (endpoint_run (page_plans page) got n (at_start (page_start page))).control.stage ≡ Awaiting call → next_message got (endpoint_run (page_plans page) got n (at_start (page_start page))) ≡ Some m → (body : Payload) × (asks body ≡ Some call) × (m ≡ reply_message plugin (at_level_1 body))
    next call m e f =
        let start = at_start (page_start page) in
        let p = endpoint_run (page_plans page) got n start in
        let k = length p.examined in
        let sent = (endpoint_run (page_plans page) got h.turns start).sent in
        let t = subst (λ s. PacedAt p.sent p.examined s) e (page-paced page got n).pace in
        let x = first-map (reply_message plugin) k h.examined m (ap (λ l. first (drop k l)) (sym h.are) ∙ f) in
        let same = endpoint-sent (page_plans page) got start h.turns n k x.0 (at_level_1 t.body) (first-extends k h.examined sent x.0 h.begins x.1) t.last in
        (t.body, t.asked, x.2 ∙ ap (reply_message plugin) same)

page-stands : (page : Page) (plugin : Plugin) (got : List Message) (n : ℕ) → Answers page plugin got → Stands plugin (endpoint_run (page_plans page) got n (at_start (page_start page)))
page-stands page plugin got zero h = page-starts page plugin
page-stands page plugin got (suc n) h = page-turn-stands page plugin got (endpoint_run (page_plans page) got n (at_start (page_start page))) (page-answered page plugin got n h) (page-stands page plugin got n h)

page-honest : (page : Page) (plugin : Plugin) (got : List Message) → Answers page plugin got → RefusesNone (page_plans page) got (at_start (page_start page))
page-honest page plugin got h turns m rule a b awaits next refused = at (endpoint_run (page_plans page) got turns (at_start (page_start page))).control.stage refl
  where
    at : (stage : Stage) → (endpoint_run (page_plans page) got turns (at_start (page_start page))).control.stage ≡ stage → ⊥
    at Begin e = let n : Acts ≡ Awaits = ap pace_at (sym e) ∙ awaits in cc
    at Ready e = let n : Acts ≡ Awaits = ap pace_at (sym e) ∙ awaits in cc
    at (Awaiting call) e = answer-accepted plugin got (endpoint_run (page_plans page) got turns (at_start (page_start page))) call m rule a b (page-stands page plugin got turns h) (page-answered page plugin got turns h) e next refused
    at (Unanswered call) e = let n : Acts ≡ Awaits = ap pace_at (sym e) ∙ awaits in cc
    at Ended e = let n : HasEnded ≡ Awaits = ap pace_at (sym e) ∙ awaits in cc

-- ---- the run of both

abbrev machine : Page → Plugin → ℕ → Machine PageControl PluginControl
machine page plugin n = machine_run (page_plans page) (plugin_plans plugin) None None n (both_start (page_start page) plugin_start)

-- the page of the machine alone, whose messages are the plug-in's answers
record Answered (page : Page) (plugin : Plugin) (w : Machine PageControl PluginControl) : Type 0 where
  turns : ℕ
  follows : endpoint_run (page_plans page) w.plugin.sent turns (at_start (page_start page)) ≡ w.page
  answers : Answers page plugin w.plugin.sent

machine-answered : (page : Page) (plugin : Plugin) (rounds : ℕ) → Answered page plugin (machine page plugin rounds)
machine-answered page plugin rounds =
    let w = machine page plugin rounds in
    let v = machine page plugin (suc rounds) in
    let start = both_start (page_start page) plugin_start in
    let a = rounds-follow (page_plans page) None (λ n. (machine page plugin n).plugin.sent) (λ n. (machine page plugin n).page) (page-rounds (page_plans page) (plugin_plans plugin) None None start) rounds in
    let b = rounds-follow (plugin_plans plugin) None (λ n. (machine page plugin (suc n)).page.sent) (λ n. (machine page plugin n).plugin) (plugin-rounds (page_plans page) (plugin_plans plugin) None None start) rounds in
    let further : endpoint_run (page_plans page) w.plugin.sent (suc a.0) (at_start (page_start page)) ≡ v.page = ap (λ q. turn (page_plans page) w.plugin.sent q) a.1 in
    let serves_all : w.plugin.sent ≡ map (reply_message plugin) w.plugin.examined = ap (λ q. q.sent) (sym b.1) ∙ (plugin-serves plugin v.page.sent b.0).sent ∙ ap (λ (q : SideState PluginControl). map (reply_message plugin) q.examined) b.1 in
    let came : Extends w.plugin.examined v.page.sent = subst (λ (q : SideState PluginControl). Extends q.examined v.page.sent) b.1 (endpoint-examined (plugin_plans plugin) v.page.sent b.0 plugin_start) in
    let begun_by = subst (λ (q : SideState PageControl). Extends w.plugin.examined q.sent) (sym further) came in
    record { turns = a.0; follows = a.1; answers = record { examined = w.plugin.examined; turns = suc a.0; are = serves_all; begins = begun_by } }

pub calls-in-turn : (page : Page) (plugin : Plugin) (rounds : ℕ) → let w = machine_run (page_plans page) (plugin_plans plugin) None None rounds (both_start (page_start page) plugin_start) in AreCallsInTurn plugin plugin_start w.page.sent
calls-in-turn page plugin rounds =
    let a = machine-answered page plugin rounds in
    subst (λ (q : SideState PageControl). AreCallsInTurn plugin plugin_start q.sent) a.follows (page-stands page plugin (machine page plugin rounds).plugin.sent a.turns a.answers).calls

pub honest : (page : Page) (plugin : Plugin) (rounds : ℕ) → let w = machine_run (page_plans page) (plugin_plans plugin) None None rounds (both_start (page_start page) plugin_start) in RefusesNone (page_plans page) w.plugin.sent (at_start (page_start page)) × RefusesNone (plugin_plans plugin) w.page.sent (at_start plugin_start)
honest page plugin rounds =
    let w = machine page plugin rounds in
    (page-honest page plugin w.plugin.sent (machine-answered page plugin rounds).answers, plugin-honest plugin w.page.sent (calls-in-turn page plugin rounds))
