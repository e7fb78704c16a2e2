-- Where a plug-in answers the page's calls, each call of the page may come at the plug-in, and the page accepts each answer.
use Rattle.std.proofs.Common.{◌≡◌, ℕ, zero, suc, ◌+◌, ◌-◌, List, [], ◌∷◌, ◌++◌, length, map, set, get_or, Bool, true, false, refl, sym, ap, ◌∙◌, subst, arith, Option, Some, None, eq-eqb, length-append}
use Rattle.std.specs.Prelude.{if◌then◌else◌, nat_lt, position, slice_set, slice_get, unwrap_or}
use Rattle.std.proofs.lemmas.List.{map-append, map-set, length-map}
use Rattle.std.proofs.lemmas.List.Quantifiers.{position-Some}
use Rattle.std.proofs.lemmas.Option.{unwrap_or-slice_get}
use Rattle.std.proofs.Math.ListN.{get_or-map}
use Rattle.std.proofs.Math.Seq.{set-append_seam}
use Rattle.np_values.specs.declared.error.NpError.{NpError}
use Rattle.np_values.specs.declared.error.NpError.TheVariants.{NoError, IncompatibleVersion}
use Rattle.np_model.specs.declared.script.Command.{Command}
use Rattle.np_model.specs.declared.script.Command.TheVariants.{Create, Turn}
use Rattle.np_model.specs.declared.script.Page.{Page}
use Rattle.np_model.specs.declared.script.Plugin.{Plugin}
use Rattle.np_message.specs.declared.payload.Payload.{Payload}
use Rattle.np_message.specs.declared.payload.Payload.TheVariants as payloads
use Rattle.np_message.specs.Message.{Message}
use Rattle.np_model.specs.declared.page.Outstanding.{Outstanding}
use Rattle.np_model.specs.declared.page.Outstanding.TheVariants as calls
use Rattle.np_model.specs.declared.page.PeerState.{PeerState}
use Rattle.np_model.specs.declared.page.PeerState.TheVariants.{Compatible, Incompatible, Lost}
use Rattle.np_model.specs.declared.page.Phase.{Phase}
use Rattle.np_model.specs.declared.page.Phase.TheVariants.{Absent, Live, Destroying, Dead}
use Rattle.np_model.specs.declared.page.Stage.{Stage}
use Rattle.np_model.specs.declared.page.Stage.TheVariants.{Begin, Ready, Awaiting, Unanswered, Ended}
use Rattle.np_model.specs.declared.plugin.PluginStage.TheVariants as stages
use Rattle.np_model.specs.declared.refusal.Rule.{Rule}
use Rattle.np_model.specs.Side.{SideState, run_steps, examine, at_start}
use Rattle.np_model.specs.Run.{Acts, Meeting, Accepts, Refuses, next_message, meets, listens, turn_at, turn}
use Rattle.np_model.specs.PagePlan.{PageControl, page_plans, page_start, at_level_1, calls_for, with_phase, with_instance, last_instance, begun, create_plan, turn_plan, close_plan, end_plan, next_plan, go_plan, pace_at, is_live, created, greeted, meet_at, meet_plan}
use Rattle.np_message.specs.Kinds.{is_reply}
use Rattle.np_model.specs.Releases.{phase_of, settled}
use Rattle.np_model.proofs.Settled.{settled-bare}
use Rattle.np_model.specs.PluginPlan.{PluginControl, plugin_start, phase_after, new_answer, may_come, may_follow, control_after_call, reply_message}
use Rattle.np_model_laws.specs.Laws.{AreCallsInTurn, control_after_calls}
use Rattle.np_model_laws.proofs.Lost.{acts}
use Rattle.np_model_laws.proofs.LiveInstances.{live, live-more, live-destroying}
use Rattle.np_model_laws.proofs.PagePace.{asks}
use Rattle.np_model_laws.proofs.PluginServes.{calls-lead-append, one-more-in-turn}

-- ---- the instances of both sides

-- on both sides the same instances are live; with a plug-in that is incompatible none is on the page
abbrev Shows : PeerState → List Phase → List Phase → Type 0
Shows Compatible phases known = map is_live phases ≡ map is_live known
Shows Incompatible phases known = live phases ≡ 0
Shows Lost phases known = ⊥

-- the page's phases once NPP_New was answered
abbrev after_answer : NpError → List Phase → List Phase
after_answer NoError phases = phases
after_answer error phases = slice_set phases (length phases - 1) Dead

set-twice : {A : Type 0} (l : List A) (i : ℕ) (x y : A) → set (set l i x) i y ≡ set l i y
set-twice [] i x y = refl
set-twice (z ∷ l) zero x y = refl
set-twice (z ∷ l) (suc i) x y = ap (λ k. z ∷ k) (set-twice l i x y)

one-more-live : (phases known : List Phase) (phase other : Phase) → map is_live phases ≡ map is_live known → is_live phase ≡ is_live other → map is_live (phases ++ phase ∷ []) ≡ map is_live (known ++ other ∷ [])
one-more-live phases known phase other e f = map-append is_live phases (phase ∷ []) ∙ ap (λ l. l ++ is_live phase ∷ []) e ∙ ap (λ b. map is_live known ++ b ∷ []) f ∙ sym (map-append is_live known (other ∷ []))

last-dies : (phases : List Phase) (phase : Phase) → slice_set (phases ++ phase ∷ []) (length (phases ++ phase ∷ []) - 1) Dead ≡ phases ++ Dead ∷ []
last-dies phases phase =
    let last : length (phases ++ phase ∷ []) - 1 ≡ length phases = omega (arith, length-append phases (phase ∷ [])) in
    ap (λ i. set (phases ++ phase ∷ []) i Dead) last ∙ set-append_seam phases phase [] Dead

-- the answer leaves the new instance live on both sides, or on none
created-shows : (error : NpError) (phases known : List Phase) → map is_live phases ≡ map is_live known → map is_live (after_answer error (phases ++ Live ∷ [])) ≡ map is_live (known ++ phase_after error ∷ [])
created-shows NoError phases known e = one-more-live phases known Live Live e refl
created-shows error phases known e = ap (λ l. map is_live l) (last-dies phases Live) ∙ one-more-live phases known Dead Dead e refl

-- an instance that is destroyed is live on no side
destroyed-shows : (phases known : List Phase) (i : ℕ) → map is_live phases ≡ map is_live known → map is_live (set (set phases i Destroying) i Dead) ≡ map is_live (set known i Dead)
destroyed-shows phases known i e = ap (λ l. map is_live l) (set-twice phases i Destroying Dead) ∙ map-set is_live phases i Dead ∙ ap (λ l. set l i false) e ∙ sym (map-set is_live known i Dead)

-- an instance that is live on the page is live in the plug-in
live-known : (c : PluginControl) (phases : List Phase) (place : ℕ) → map is_live phases ≡ map is_live c.phases → position is_live phases ≡ Some place → is_live (phase_of c.phases (place + 1)) ≡ true
live-known c phases place e f =
    let found = position-Some is_live phases place Absent f in
    let i : place + 1 - 1 ≡ place = omega arith in
    ap (λ k. is_live (unwrap_or (slice_get c.phases k) Absent)) i ∙ ap is_live (unwrap_or-slice_get c.phases place Absent) ∙ sym (get_or-map is_live c.phases place Absent) ∙ ap (λ l. get_or l place false) (sym e) ∙ get_or-map is_live phases place Absent ∙ found.1

-- ---- where both sides stand

abbrev MatchesOpen : Plugin → PeerState → List Phase → PluginControl → Outstanding → Type 0
MatchesOpen plugin peer phases d calls.Hello = (d.stage ≡ stages.Serving) × (peer ≡ Compatible) × (phases ≡ []) × (d.phases ≡ [])
MatchesOpen plugin peer phases d calls.New = (d.stage ≡ stages.Serving) × Shows peer (after_answer (new_answer plugin.new_handler) phases) d.phases
MatchesOpen plugin peer phases d (calls.Destroy instance) = (d.stage ≡ stages.Serving) × Shows peer (slice_set phases (instance - 1) Dead) d.phases
MatchesOpen plugin peer phases d calls.Turn = (d.stage ≡ stages.Serving) × Shows peer phases d.phases
MatchesOpen plugin peer phases d calls.Shutdown = d.stage ≡ stages.Ended

-- the page's peer, phases and stage, and where its calls lead the plug-in
abbrev Matches : Plugin → PeerState → List Phase → PluginControl → Stage → Type 0
Matches plugin peer phases d Begin = (d.stage ≡ stages.Begin) × (peer ≡ Compatible) × (phases ≡ []) × (d.phases ≡ [])
Matches plugin peer phases d Ready = (d.stage ≡ stages.Serving) × Shows peer phases d.phases
Matches plugin peer phases d (Awaiting call) = MatchesOpen plugin peer phases d call
Matches plugin peer phases d (Unanswered call) = ⊥
Matches plugin peer phases d Ended = d.stage ≡ stages.Ended

abbrev led : Plugin → SideState PageControl → PluginControl
led plugin p = control_after_calls plugin plugin_start p.sent

-- what holds of the page along a run in which the plug-in answers
pub record Stands (plugin : Plugin) (p : SideState PageControl) : Type 0 where
  pub calls : AreCallsInTurn plugin plugin_start p.sent
  pub matches : Matches plugin p.control.peer p.control.phases (led plugin p) p.control.stage

stands-at : (plugin : Plugin) (p : SideState PageControl) (peer : PeerState) → p.control.stage ≡ Ready → p.control.peer ≡ peer → AreCallsInTurn plugin plugin_start p.sent → (led plugin p).stage ≡ stages.Serving → Shows peer p.control.phases (led plugin p).phases → Stands plugin p
stands-at plugin p peer e f h s t =
    let shows : Shows p.control.peer p.control.phases (led plugin p).phases = subst (λ x. Shows x p.control.phases (led plugin p).phases) (sym f) t in
    record { calls = h; matches = subst (λ stage. Matches plugin p.control.peer p.control.phases (led plugin p) stage) (sym e) (s, shows) }

-- ---- what the page does where it doesn't wait

call-stands : (plugin : Plugin) (c : PageControl) (call : Outstanding) (body : Payload) (p : SideState PageControl) → AreCallsInTurn plugin plugin_start p.sent → may_come (led plugin p) (led plugin p).stage body ≡ true → is_reply body ≡ false → MatchesOpen plugin c.peer c.phases (control_after_call plugin (led plugin p) body) call → Stands plugin (run_steps (calls_for c call body) p)
call-stands plugin c call body p h may is_call m = record {
  calls = one-more-in-turn plugin plugin_start p.sent (at_level_1 body) h (may, is_call, refl, refl, refl);
  matches = subst (λ d. MatchesOpen plugin c.peer c.phases d call) (sym (calls-lead-append plugin plugin_start p.sent (at_level_1 body ∷ []))) m;
}

-- a plug-in that serves takes what may follow
follows : (d : PluginControl) (body : Payload) → d.stage ≡ stages.Serving → may_follow d body ≡ true → may_come d d.stage body ≡ true
follows d body s e = ap (λ stage. may_come d stage body) s ∙ e

close-stands : (plugin : Plugin) (peer : PeerState) (place : Option ℕ) (c : PageControl) (p : SideState PageControl) → c.peer ≡ peer → position is_live c.phases ≡ place → AreCallsInTurn plugin plugin_start p.sent → (led plugin p).stage ≡ stages.Serving → Shows peer c.phases (led plugin p).phases → Stands plugin (run_steps (close_plan c place) p)
close-stands plugin Compatible (Some place) c p e f h s t =
    let d = led plugin p in
    let dies : Shows Compatible (set (set c.phases (place + 1 - 1) Destroying) (place + 1 - 1) Dead) (set d.phases (place + 1 - 1) Dead) = destroyed-shows c.phases d.phases (place + 1 - 1) t in
    call-stands plugin (with_phase c (place + 1) Destroying) (calls.Destroy (place + 1)) (payloads.Destroy (place + 1)) p h (follows d (payloads.Destroy (place + 1)) s (live-known d c.phases place t f)) refl
    (s, subst (λ x. Shows x (set (set c.phases (place + 1 - 1) Destroying) (place + 1 - 1) Dead) (set d.phases (place + 1 - 1) Dead)) (sym e) dies)
close-stands plugin Incompatible (Some place) c p e f h s t =
    let one = live-destroying c.phases place f in absurd (omega (arith, one, t))
close-stands plugin Lost (Some place) c p e f h s t = absurd t
close-stands plugin peer None c p e f h s t = call-stands plugin c calls.Shutdown payloads.Shutdown p h (follows (led plugin p) payloads.Shutdown s refl) refl refl

end-stands : (plugin : Plugin) (peer : PeerState) (c : PageControl) (p : SideState PageControl) → c.peer ≡ peer → AreCallsInTurn plugin plugin_start p.sent → (led plugin p).stage ≡ stages.Serving → Shows peer c.phases (led plugin p).phases → Stands plugin (run_steps (end_plan c peer) p)
end-stands plugin Compatible c p e h s t = close-stands plugin Compatible (position is_live c.phases) c p e refl h s t
end-stands plugin Incompatible c p e h s t = close-stands plugin Incompatible (position is_live c.phases) c p e refl h s t
end-stands plugin Lost c p e h s t = absurd t

create-stands : (plugin : Plugin) (peer : PeerState) (c : PageControl) (mime : List ℕ) (mode : ℕ) (p : SideState PageControl) → c.stage ≡ Ready → c.peer ≡ peer → AreCallsInTurn plugin plugin_start p.sent → (led plugin p).stage ≡ stages.Serving → Shows peer c.phases (led plugin p).phases → Stands plugin (run_steps (create_plan c mime mode peer) p)
create-stands plugin Compatible c mime mode p r e h s t =
    let d = led plugin p in
    let error = new_answer plugin.new_handler in
    let same : length c.phases ≡ length d.phases = sym (length-map c.phases is_live) ∙ ap length t ∙ length-map d.phases is_live in
    let next : last_instance (with_instance c Live) ≡ length d.phases + 1 = omega (arith, same, length-append c.phases (Live ∷ [])) in
    let shown : Shows Compatible (after_answer error (c.phases ++ Live ∷ [])) (d.phases ++ phase_after error ∷ []) = created-shows error c.phases d.phases t in
    call-stands plugin (with_instance c Live) calls.New (payloads.New (last_instance (with_instance c Live)) mode mime []) p h (follows d (payloads.New (last_instance (with_instance c Live)) mode mime []) s (eq-eqb (last_instance (with_instance c Live)) (length d.phases + 1) next)) refl
    (s, subst (λ x. Shows x (after_answer error (c.phases ++ Live ∷ [])) (d.phases ++ phase_after error ∷ [])) (sym e) shown)
create-stands plugin Incompatible c mime mode p r e h s t =
    let none = live-more c.phases Dead in
    let dead : live (c.phases ++ Dead ∷ []) ≡ 0 = omega (arith, t, none) in
    stands-at plugin (run_steps (create_plan c mime mode Incompatible) p) Incompatible r e h s dead
create-stands plugin Lost c mime mode p r e h s t = absurd t

turn-stands : (plugin : Plugin) (peer : PeerState) (c : PageControl) (p : SideState PageControl) → c.peer ≡ peer → AreCallsInTurn plugin plugin_start p.sent → (led plugin p).stage ≡ stages.Serving → Shows peer c.phases (led plugin p).phases → Stands plugin (run_steps (turn_plan c peer) p)
turn-stands plugin Compatible c p e h s t = call-stands plugin c calls.Turn payloads.Turn p h (follows (led plugin p) payloads.Turn s refl) refl (s, subst (λ x. Shows x c.phases (led plugin p).phases) (sym e) t)
turn-stands plugin Incompatible c p e h s t = call-stands plugin c calls.Turn payloads.Turn p h (follows (led plugin p) payloads.Turn s refl) refl (s, subst (λ x. Shows x c.phases (led plugin p).phases) (sym e) t)
turn-stands plugin Lost c p e h s t = absurd t

next-stands : (plugin : Plugin) (commands : List Command) (c : PageControl) (p : SideState PageControl) → c.stage ≡ Ready → AreCallsInTurn plugin plugin_start p.sent → (led plugin p).stage ≡ stages.Serving → Shows c.peer c.phases (led plugin p).phases → Stands plugin (run_steps (next_plan c commands) p)
next-stands plugin [] c p r h s t = end-stands plugin c.peer c p refl h s t
next-stands plugin (Create mime mode ∷ rest) c p r h s t = create-stands plugin c.peer (begun c rest) mime mode p r refl h s t
next-stands plugin (Turn ∷ rest) c p r h s t = turn-stands plugin c.peer (begun c rest) p refl h s t

-- Hello comes first
hello-stands : (plugin : Plugin) (c : PageControl) (major minor : ℕ) (p : SideState PageControl) → AreCallsInTurn plugin plugin_start p.sent → Matches plugin c.peer c.phases (led plugin p) Begin → Stands plugin (run_steps (calls_for c calls.Hello (payloads.Hello 1 major minor)) p)
hello-stands plugin c major minor p h m =
    call-stands plugin c calls.Hello (payloads.Hello 1 major minor) p h (ap (λ stage. may_come (led plugin p) stage (payloads.Hello 1 major minor)) m.0) refl (refl, m.1, m.2, m.3)

-- ---- what the page does with the answer

-- the message is delivered and nothing is sent
record Takes (plugin : Plugin) (d : PluginControl) (p q : SideState PageControl) : Type 0 where
  sent : q.sent ≡ p.sent
  matches : Matches plugin q.control.peer q.control.phases d q.control.stage

abbrev IsTaken : Plugin → PluginControl → Message → Meeting PageControl → Type 0
IsTaken plugin d m (Accepts steps) = (p : SideState PageControl) → Takes plugin d p (run_steps steps (examine m p))
IsTaken plugin d m (Refuses rule a b) = ⊥

created-taken : (plugin : Plugin) (c : PageControl) (d : PluginControl) (m : Message) (error : NpError) → d.stage ≡ stages.Serving → Shows c.peer (after_answer error c.phases) d.phases → IsTaken plugin d m (created c error)
created-taken plugin c d m NoError s t = λ p. record { sent = refl; matches = (s, t) }
created-taken plugin c d m error s t = λ p. record { sent = refl; matches = (s, t) }

greeted-taken : (plugin : Plugin) (c : PageControl) (d : PluginControl) (m : Message) (is_later : Bool) → MatchesOpen plugin c.peer c.phases d calls.Hello → IsTaken plugin d m (greeted c m (if is_later then IncompatibleVersion else NoError))
greeted-taken plugin c d m true h = λ p. record { sent = refl; matches = (h.0, ap live h.2) }
greeted-taken plugin c d m false h =
    let same : map is_live c.phases ≡ map is_live d.phases = ap (λ l. map is_live l) h.2 ∙ sym (ap (λ l. map is_live l) h.3) in
    let shown : Shows c.peer c.phases d.phases = subst (λ x. Shows x c.phases d.phases) (sym h.1) same in
    λ p. record { sent = refl; matches = (h.0, shown) }

answer-taken : (plugin : Plugin) (c : PageControl) (d : PluginControl) (body : Payload) (call : Outstanding) → c.stage ≡ Awaiting call → asks body ≡ Some call → MatchesOpen plugin c.peer c.phases d call → IsTaken plugin d (reply_message plugin (at_level_1 body)) (meet_plan c (reply_message plugin (at_level_1 body)))
answer-taken plugin c d body call e a h = at body call e a h
  where
    there : (body : Payload) (call : Outstanding) → c.stage ≡ Awaiting call → IsTaken plugin d (reply_message plugin (at_level_1 body)) (meet_at c (reply_message plugin (at_level_1 body)) (Awaiting call)) → IsTaken plugin d (reply_message plugin (at_level_1 body)) (settled c.phases (reply_message plugin (at_level_1 body)) (meet_at c (reply_message plugin (at_level_1 body)) c.stage))
    there body call e t =
        subst (λ x. IsTaken plugin d (reply_message plugin (at_level_1 body)) x) (sym (settled-bare c.phases (reply_message plugin (at_level_1 body)) (meet_at c (reply_message plugin (at_level_1 body)) c.stage) refl))
        (subst (λ s. IsTaken plugin d (reply_message plugin (at_level_1 body)) (meet_at c (reply_message plugin (at_level_1 body)) s)) (sym e) t)

    open_as : (call other : Outstanding) → Some call ≡ Some other → MatchesOpen plugin c.peer c.phases d other → MatchesOpen plugin c.peer c.phases d call
    open_as call other e h = let same : call ≡ other = cc in subst (λ x. MatchesOpen plugin c.peer c.phases d x) (sym same) h

    as_stage : (call other : Outstanding) → Some call ≡ Some other → c.stage ≡ Awaiting other → c.stage ≡ Awaiting call
    as_stage call other a e = cc

    at : (body : Payload) (call : Outstanding) → c.stage ≡ Awaiting call → asks body ≡ Some call → MatchesOpen plugin c.peer c.phases d call → IsTaken plugin d (reply_message plugin (at_level_1 body)) (meet_plan c (reply_message plugin (at_level_1 body)))
    at (payloads.Hello version major minor) call e a h = there (payloads.Hello version major minor) calls.Hello (as_stage calls.Hello call a e) (greeted-taken plugin c d (reply_message plugin (at_level_1 (payloads.Hello version major minor))) (nat_lt plugin.major major) (open_as calls.Hello call a h))
    at (payloads.New instance mode mime []) call e a h =
        let k = open_as calls.New call a h in
        there (payloads.New instance mode mime []) calls.New (as_stage calls.New call a e) (created-taken plugin c d (reply_message plugin (at_level_1 (payloads.New instance mode mime []))) (new_answer plugin.new_handler) k.0 k.1)
    at (payloads.New instance mode mime (name ∷ rest)) call e a h = let n : ⊥ = cc in absurd n
    at (payloads.Destroy instance) call e a h =
        let k = open_as (calls.Destroy instance) call a h in
        there (payloads.Destroy instance) (calls.Destroy instance) (as_stage (calls.Destroy instance) call a e) (λ p. record { sent = refl; matches = k })
    at payloads.Turn call e a h =
        let k = open_as calls.Turn call a h in
        there payloads.Turn calls.Turn (as_stage calls.Turn call a e) (λ p. record { sent = refl; matches = k })
    at payloads.Shutdown call e a h =
        let k = open_as calls.Shutdown call a h in
        there payloads.Shutdown calls.Shutdown (as_stage calls.Shutdown call a e) (λ p. record { sent = refl; matches = k })
    at body call e a h = let n : ⊥ = cc in absurd n

-- ---- its turns

-- the message that comes next answers the open call
pub record IsAnswered (plugin : Plugin) (got : List Message) (p : SideState PageControl) : Type 0 where
  pub next : (call : Outstanding) (m : Message) → p.control.stage ≡ Awaiting call → next_message got p ≡ Some m → (body : Payload) × (asks body ≡ Some call) × (m ≡ reply_message plugin (at_level_1 body))

-- so the page takes it
next-taken : (plugin : Plugin) (got : List Message) (p : SideState PageControl) (call : Outstanding) (m : Message) → Stands plugin p → IsAnswered plugin got p → p.control.stage ≡ Awaiting call → next_message got p ≡ Some m → IsTaken plugin (led plugin p) m (meet_plan p.control m)
next-taken plugin got p call m h answered e f =
    let a = answered.next call m e f in
    let matches : MatchesOpen plugin p.control.peer p.control.phases (led plugin p) call = subst (λ s. Matches plugin p.control.peer p.control.phases (led plugin p) s) e h.matches in
    subst (λ x. IsTaken plugin (led plugin p) x (meet_plan p.control x)) (sym a.2) (answer-taken plugin p.control (led plugin p) a.0 call e a.1 matches)

pub page-turn-stands : (page : Page) (plugin : Plugin) (got : List Message) (p : SideState PageControl) → IsAnswered plugin got p → Stands plugin p → Stands plugin (turn (page_plans page) got p)
page-turn-stands page plugin got p answered h = at p.control.stage refl
  where
    known : (stage : Stage) → p.control.stage ≡ stage → Matches plugin p.control.peer p.control.phases (led plugin p) stage
    known stage e = subst (λ s. Matches plugin p.control.peer p.control.phases (led plugin p) s) e h.matches

    moved : (stage : Stage) → p.control.stage ≡ stage → Stands plugin (turn_at (page_plans page) got p (pace_at stage)) → Stands plugin (turn (page_plans page) got p)
    moved stage e t = subst (λ s. Stands plugin (turn_at (page_plans page) got p (pace_at s))) (sym e) t

    acted : (stage : Stage) → p.control.stage ≡ stage → pace_at stage ≡ Acts → Stands plugin (run_steps (go_plan page p.control stage) p) → Stands plugin (turn (page_plans page) got p)
    acted stage e a t = subst (λ q. Stands plugin q) (sym (acts page got p stage e a)) t

    met : (m : Message) (meeting : Meeting PageControl) → IsTaken plugin (led plugin p) m meeting → Stands plugin (meets p m meeting)
    met m (Accepts steps) t =
        let q = run_steps steps (examine m p) in
        let r = t p in
        record {
          calls = subst (λ l. AreCallsInTurn plugin plugin_start l) (sym r.sent) h.calls;
          matches = subst (λ l. Matches plugin q.control.peer q.control.phases (control_after_calls plugin plugin_start l) q.control.stage) (sym r.sent) r.matches;
        }
    met m (Refuses rule a b) t = h

    heard : (call : Outstanding) → p.control.stage ≡ Awaiting call → (o : Option Message) → next_message got p ≡ o → Stands plugin (listens (page_plans page) p o)
    heard call e None f = h
    heard call e (Some m) f = met m (meet_plan p.control m) (next-taken plugin got p call m h answered e f)

    at : (stage : Stage) → p.control.stage ≡ stage → Stands plugin (turn (page_plans page) got p)
    at Begin e = acted Begin e refl (hello-stands plugin p.control page.major page.minor p h.calls (known Begin e))
    at Ready e = let k = known Ready e in acted Ready e refl (next-stands plugin p.control.commands p.control p e h.calls k.0 k.1)
    at (Awaiting call) e = moved (Awaiting call) e (heard call e (next_message got p) refl)
    at (Unanswered call) e = absurd (known (Unanswered call) e)
    at Ended e = moved Ended e h

pub page-starts : (page : Page) (plugin : Plugin) → Stands plugin (at_start (page_start page))
page-starts page plugin = record { calls = tt; matches = (refl, refl, refl, refl) }

-- what answers the open call isn't refused
pub answer-accepted : (plugin : Plugin) (got : List Message) (p : SideState PageControl) (call : Outstanding) (m : Message) (rule : Rule) (a b : ℕ) → Stands plugin p → IsAnswered plugin got p → p.control.stage ≡ Awaiting call → next_message got p ≡ Some m → meet_plan p.control m ≡ Refuses rule a b → ⊥
answer-accepted plugin got p call m rule a b h answered e f refused = subst (λ x. IsTaken plugin (led plugin p) m x) refused (next-taken plugin got p call m h answered e f)
