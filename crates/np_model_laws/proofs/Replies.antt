-- The plug-in sends one reply to each call that it examined, and the page makes a call when each earlier one was answered.
use Rattle.std.proofs.Common.{◌≡◌, ℕ, zero, suc, ◌+◌, ◌<◌, ◌≤◌, List, [], ◌∷◌, length, map, true, refl, sym, ap, ◌∙◌, subst, arith, None}
use Rattle.std.proofs.lemmas.List.{length-map}
use Rattle.np_model.specs.declared.script.Page.{Page}
use Rattle.np_message.specs.declared.payload.Payload.{Payload}
use Rattle.np_message.specs.declared.payload.Payload.TheVariants as payloads
use Rattle.np_message.specs.declared.depth.Depth.{Depth}
use Rattle.np_message.specs.Message.{Message}
use Rattle.np_model.specs.declared.page.Stage.{Stage}
use Rattle.np_model.specs.declared.page.Stage.TheVariants.{Begin, Ready, Awaiting, Unanswered, Ended}
use Rattle.np_model.specs.Script.{IsWellFormed}
use Rattle.np_message.specs.Rules.{KeepsKind, IsTypedBody, AreMessages}
use Rattle.np_model.specs.Side.{SideState, at_start}
use Rattle.np_model.specs.Run.{Plans, endpoint_run, Machine, Side, OfPage, OfPlugin, page_turn, plugin_turn, run, machine_run}
use Rattle.np_model.specs.PagePlan.{PageControl, page_plans, page_start, may_answer}
use Rattle.np_model.specs.declared.script.Plugin.{Plugin}
use Rattle.np_model.specs.PluginPlan.{PluginControl, reply_to, plugin_plans, plugin_start, reply_message}
use Rattle.np_model_laws.specs.Laws.{both_start, IsReply, AreReplies, AreCallsInTurn, open_calls}
use Rattle.np_model_laws.proofs.Alone.{Extends, extends-length, first-extends, endpoint-examined}
use Rattle.np_model_laws.proofs.Gated.{endpoint-follows}
use Rattle.np_model_laws.proofs.PagePace.{level_1, AreCalls, PacedAt, page-paced}
use Rattle.np_model_laws.proofs.PluginServes.{plugin-serves}
use Rattle.np_model_laws.proofs.CallFormat.{page-formed}
use Rattle.np_model_laws.proofs.Honest.{calls-in-turn}

-- ---- rounds are turns in one order

abbrev order_of : ℕ → List Side
order_of zero = []
order_of (suc n) = OfPage ∷ OfPlugin ∷ order_of n

abbrev round : {C D : Type 0} → Plans C → Plans D → Machine C D → Machine C D
round P Q w = plugin_turn Q None (page_turn P None w)

-- the first round of several
first-round : {C D : Type 0} (P : Plans C) (Q : Plans D) (n : ℕ) (w : Machine C D) → machine_run P Q None None n (round P Q w) ≡ round P Q (machine_run P Q None None n w)
first-round P Q zero w = refl
first-round P Q (suc n) w = ap (λ u. round P Q u) (first-round P Q n w)

pub in-order : {C D : Type 0} (P : Plans C) (Q : Plans D) (n : ℕ) (w : Machine C D) → machine_run P Q None None n w ≡ run P Q (order_of n) w
in-order P Q zero w = refl
in-order P Q (suc n) w = sym (first-round P Q n w) ∙ in-order P Q n (round P Q w)

pub rounds-are_turns : (P : Plans PageControl) (Q : Plans PluginControl) (rounds : ℕ) (w : Machine PageControl PluginControl) → (order : List Side) × (machine_run P Q None None rounds w ≡ run P Q order w)
rounds-are_turns P Q rounds w = (order_of rounds, in-order P Q rounds w)

-- ---- replies

reply-kind : (plugin : Plugin) (body : Payload) → may_answer (reply_to plugin body) ≡ true
reply-kind plugin (payloads.Hello version major minor) = refl
reply-kind plugin (payloads.New instance mode mime attributes) = refl
reply-kind plugin (payloads.Destroy instance) = refl
reply-kind plugin body = refl

reply-kept : (plugin : Plugin) (body : Payload) → KeepsKind (reply_to plugin body) × IsTypedBody (reply_to plugin body)
reply-kept plugin (payloads.Hello version major minor) = (tt, tt)
reply-kept plugin (payloads.New instance mode mime attributes) = (tt, tt)
reply-kept plugin (payloads.Destroy instance) = (tt, tt)
reply-kept plugin body = (tt, tt)

is-reply : (plugin : Plugin) (m : Message) → m.depth ≡ level_1 → IsReply (reply_message plugin m)
is-reply plugin m d =
    let level : m.depth.level ≡ 1 = ap (λ (x : Depth). x.level) d in
    let above : 0 < m.depth.level = omega (arith, level) in
    let below : m.depth.level < 65 = omega (arith, level) in
    let kept = reply-kept plugin m.body in
    record {
      level = level;
      task = ap (λ (x : Depth). x.task) d;
      kind = reply-kind plugin m.body;
      bare = refl;
      format = record { above = above; below = below; few = omega arith; rising = tt; body = kept.0 };
      typed = record { releases = tt; body = kept.1 };
    }

are-replies : (plugin : Plugin) (calls : List Message) → AreCalls calls → AreReplies (map (reply_message plugin) calls)
are-replies plugin [] h = tt
are-replies plugin (m ∷ calls) h =
    let call = h.at_place 0 m refl in
    (is-reply plugin m call.2, are-replies plugin calls (record { at_place = λ k x e. h.at_place (suc k) x e }))

calls-begin : (a b : List Message) → Extends a b → AreCalls b → AreCalls a
calls-begin a b f h = record { at_place = λ k m e. h.at_place k m (first-extends k a b m f e) }

-- ---- what each side of the machine is alone

machine-follows : {C D : Type 0} (P : Plans C) (Q : Plans D) (c : SideState C) (d : SideState D) (n : ℕ) → let w = machine_run P Q None None n (record { page = c; plugin = d }) in ((turns : ℕ) × (endpoint_run P w.plugin.sent turns c ≡ w.page)) × ((turns : ℕ) × (endpoint_run Q w.page.sent turns d ≡ w.plugin))
machine-follows {C = C} {D = D} P Q c d n =
    subst (λ (w : Machine C D). ((turns : ℕ) × (endpoint_run P w.plugin.sent turns c ≡ w.page)) × ((turns : ℕ) × (endpoint_run Q w.page.sent turns d ≡ w.plugin))) (sym (in-order P Q n (record { page = c; plugin = d }))) (endpoint-follows P Q c d (order_of n))

pub plugin-replies : (page : Page) (plugin : Plugin) (rounds : ℕ) → let w = machine_run (page_plans page) (plugin_plans plugin) None None rounds (both_start (page_start page) plugin_start) in AreReplies w.plugin.sent × (length w.plugin.sent ≤ length w.page.sent)
plugin-replies page plugin rounds =
    let w = machine_run (page_plans page) (plugin_plans plugin) None None rounds (both_start (page_start page) plugin_start) in
    let f = machine-follows (page_plans page) (plugin_plans plugin) (at_start (page_start page)) (at_start plugin_start) rounds in
    let a = f.0 in
    let b = f.1 in
    let serves_all : w.plugin.sent ≡ map (reply_message plugin) w.plugin.examined = ap (λ q. q.sent) (sym b.1) ∙ (plugin-serves plugin w.page.sent b.0).sent ∙ ap (λ (q : SideState PluginControl). map (reply_message plugin) q.examined) b.1 in
    let came : Extends w.plugin.examined w.page.sent = subst (λ (q : SideState PluginControl). Extends q.examined w.page.sent) b.1 (endpoint-examined (plugin_plans plugin) w.page.sent b.0 plugin_start) in
    let calls : AreCalls w.page.sent = subst (λ (q : SideState PageControl). AreCalls q.sent) a.1 (page-paced page w.plugin.sent a.0).are_calls in
    let count : length w.plugin.sent ≡ length w.plugin.examined = ap length serves_all ∙ length-map w.plugin.examined (reply_message plugin) in
    let few = extends-length w.plugin.examined w.page.sent came in
    (subst (λ l. AreReplies l) (sym serves_all) (are-replies plugin w.plugin.examined (calls-begin w.plugin.examined w.page.sent came calls)), omega (arith, count, few))

-- ---- calls

pub page-calls : (page : Page) (plugin : Plugin) (rounds : ℕ) → let w = machine_run (page_plans page) (plugin_plans plugin) None None rounds (both_start (page_start page) plugin_start) in AreCallsInTurn plugin plugin_start w.page.sent × (IsWellFormed page → AreMessages w.page.sent)
page-calls page plugin rounds =
    let w = machine_run (page_plans page) (plugin_plans plugin) None None rounds (both_start (page_start page) plugin_start) in
    let a = (machine-follows (page_plans page) (plugin_plans plugin) (at_start (page_start page)) (at_start plugin_start) rounds).0 in
    (calls-in-turn page plugin rounds, λ formed. subst (λ (q : SideState PageControl). AreMessages q.sent) a.1 (page-formed page w.plugin.sent a.0 formed).messages)

-- ---- the page's pace

counted : (sent examined : List Message) (stage : Stage) → PacedAt sent examined stage → length sent ≡ length examined + open_calls stage
counted sent examined Begin h = let e : length sent ≡ length examined = h in omega (arith, e)
counted sent examined Ready h = let e : length sent ≡ length examined = h in omega (arith, e)
counted sent examined (Awaiting call) h = let e = h.count in omega (arith, e)
counted sent examined (Unanswered call) h = absurd h
counted sent examined Ended h = let e : length sent ≡ length examined = h in omega (arith, e)

pub page-counted : (page : Page) (got : List Message) (turns : ℕ) → let p = endpoint_run (page_plans page) got turns (at_start (page_start page)) in length p.sent ≡ length p.examined + open_calls p.control.stage
page-counted page got turns =
    let p = endpoint_run (page_plans page) got turns (at_start (page_start page)) in
    counted p.sent p.examined p.control.stage (page-paced page got turns).pace
