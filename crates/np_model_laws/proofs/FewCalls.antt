-- The page makes few calls: those that it made, and those that it may still make, are at most two for each command and two more.
use Rattle.std.proofs.Common.{◌≡◌, ℕ, zero, suc, ◌+◌, ◌-◌, ◌*◌, ◌≤◌, List, [], ◌∷◌, ◌++◌, length, Bool, true, false, refl, sym, ap, ◌∙◌, subst, arith, Option, Some, None, length-append}
use Rattle.std.specs.Prelude.{if◌then◌else◌, position, slice_set}
use Rattle.np_values.specs.declared.error.NpError.{NpError}
use Rattle.np_values.specs.declared.error.NpError.TheVariants.{NoError, IncompatibleVersion}
use Rattle.np_model.specs.declared.script.Command.{Command}
use Rattle.np_model.specs.declared.script.Command.TheVariants.{Create, Turn}
use Rattle.np_model.specs.declared.script.Page.{Page}
use Rattle.np_message.specs.declared.payload.Payload.{Payload}
use Rattle.np_message.specs.declared.payload.Payload.TheVariants as payloads
use Rattle.np_message.specs.Message.{Message}
use Rattle.np_model.specs.declared.page.Outstanding.{Outstanding}
use Rattle.np_model.specs.declared.page.Outstanding.TheVariants as calls
use Rattle.np_model.specs.declared.page.PeerState.{PeerState}
use Rattle.np_model.specs.declared.page.PeerState.TheVariants.{Compatible, Incompatible, Lost}
use Rattle.np_model.specs.declared.page.Phase.TheVariants.{Live, Destroying, Dead}
use Rattle.np_model.specs.declared.page.Stage.{Stage}
use Rattle.np_model.specs.declared.page.Stage.TheVariants.{Begin, Ready, Awaiting, Unanswered, Ended}
use Rattle.np_model.specs.declared.refusal.Rule.TheVariants.{WrongKind}
use Rattle.np_message.specs.Encoding.{kind_of}
use Rattle.np_model.specs.Side.{SideState, run_steps, examine, at_start}
use Rattle.np_model.specs.Run.{Acts, Meeting, Accepts, Refuses, next_message, meets, listens, turn_at, turn, endpoint_run}
use Rattle.np_model.specs.PagePlan.{PageControl, page_plans, page_start, at_level_1, calls_for, with_phase, with_instance, last_instance, begun, create_plan, turn_plan, close_plan, end_plan, next_plan, go_plan, pace_at, is_live, resumes, created, greeted, destroyed, unmatched, reply_plan, may_answer, is_level_1, meet_at, answer_plan, meet_plan}
use Rattle.np_message.specs.Kinds.{instance_of}
use Rattle.np_model.proofs.Settled.{settled-by}
use Rattle.np_model_laws.proofs.Lost.{acts}
use Rattle.np_model_laws.proofs.LiveInstances.{live, live-more, live-dead, live-destroying}
use Rattle.np_model_laws.proofs.PagePace.{Paced, PacedAt, page-paced}

-- ---- calls that may still be made

-- two for each command, and one for each live instance
abbrev ahead : PageControl → ℕ
ahead c = 2 * length c.commands + live c.phases

abbrev after : ℕ → Outstanding → ℕ
after n calls.Hello = 1 + n
after n calls.New = 1 + n
after n (calls.Destroy instance) = 1 + n
after n calls.Turn = 1 + n
after n calls.Shutdown = 0

abbrev owed : ℕ → Stage → ℕ
owed n Begin = 2 + n
owed n Ready = 1 + n
owed n (Awaiting call) = after n call
owed n (Unanswered call) = 0
owed n Ended = 0

record Few (limit : ℕ) (p : SideState PageControl) : Type 0 where
  bound : length p.sent + owed (ahead p.control) p.control.stage ≤ limit

few-at : (limit : ℕ) (p : SideState PageControl) (stage : Stage) → p.control.stage ≡ stage → length p.sent + owed (ahead p.control) stage ≤ limit → Few limit p
few-at limit p stage e h = record { bound = subst (λ s. length p.sent + owed (ahead p.control) s ≤ limit) (sym e) h }

-- ---- what the page does where it doesn't wait

call-few : (limit : ℕ) (c : PageControl) (call : Outstanding) (body : Payload) (p : SideState PageControl) → length p.sent + (1 + after (ahead c) call) ≤ limit → Few limit (run_steps (calls_for c call body) p)
call-few limit c call body p h = record { bound = omega (arith, h, length-append p.sent (at_level_1 body ∷ [])) }

close-few : (limit : ℕ) (place : Option ℕ) (c : PageControl) (p : SideState PageControl) → position is_live c.phases ≡ place → length p.sent + (1 + ahead c) ≤ limit → Few limit (run_steps (close_plan c place) p)
close-few limit (Some place) c p e h =
    let i : place + 1 - 1 ≡ place = omega arith in
    let fewer : live (slice_set c.phases (place + 1 - 1) Destroying) + 1 ≡ live c.phases = ap (λ k. live (slice_set c.phases k Destroying) + 1) i ∙ live-destroying c.phases place e in
    let bound : length p.sent + (1 + (1 + (2 * length c.commands + live (slice_set c.phases (place + 1 - 1) Destroying)))) ≤ limit = omega (arith, h, fewer) in
    call-few limit (with_phase c (place + 1) Destroying) (calls.Destroy (place + 1)) (payloads.Destroy (place + 1)) p bound
close-few limit None c p e h = call-few limit c calls.Shutdown payloads.Shutdown p (omega (arith, h))

end-few : (limit : ℕ) (peer : PeerState) (c : PageControl) (p : SideState PageControl) → length p.sent + (1 + ahead c) ≤ limit → Few limit (run_steps (end_plan c peer) p)
end-few limit Compatible c p h = close-few limit (position is_live c.phases) c p refl h
end-few limit Incompatible c p h = close-few limit (position is_live c.phases) c p refl h
end-few limit Lost c p h = record { bound = omega (arith, h) }

create-few : (limit : ℕ) (peer : PeerState) (c : PageControl) (mime : List ℕ) (mode : ℕ) (p : SideState PageControl) → c.stage ≡ Ready → length p.sent + (3 + ahead c) ≤ limit → Few limit (run_steps (create_plan c mime mode peer) p)
create-few limit Compatible c mime mode p e h =
    let one = live-more c.phases Live in
    let bound : length p.sent + (1 + (1 + (2 * length c.commands + live (c.phases ++ Live ∷ [])))) ≤ limit = omega (arith, h, one) in
    call-few limit (with_instance c Live) calls.New (payloads.New (last_instance (with_instance c Live)) mode mime []) p bound
create-few limit Incompatible c mime mode p e h =
    let none = live-more c.phases Dead in
    few-at limit (run_steps (create_plan c mime mode Incompatible) p) Ready e (omega (arith, h, none))
create-few limit Lost c mime mode p e h =
    let none = live-more c.phases Dead in
    few-at limit (run_steps (create_plan c mime mode Lost) p) Ready e (omega (arith, h, none))

turn-few : (limit : ℕ) (peer : PeerState) (c : PageControl) (p : SideState PageControl) → c.stage ≡ Ready → length p.sent + (3 + ahead c) ≤ limit → Few limit (run_steps (turn_plan c peer) p)
turn-few limit Compatible c p e h = call-few limit c calls.Turn payloads.Turn p (omega (arith, h))
turn-few limit Incompatible c p e h = call-few limit c calls.Turn payloads.Turn p (omega (arith, h))
turn-few limit Lost c p e h = few-at limit (run_steps (turn_plan c Lost) p) Ready e (omega (arith, h))

next-few : (limit : ℕ) (commands : List Command) (c : PageControl) (p : SideState PageControl) → c.stage ≡ Ready → c.commands ≡ commands → length p.sent + (1 + ahead c) ≤ limit → Few limit (run_steps (next_plan c commands) p)
next-few limit [] c p e f h = end-few limit c.peer c p h
next-few limit (Create mime mode ∷ rest) c p e f h =
    let n = ap length f in
    create-few limit c.peer (begun c rest) mime mode p e (omega (arith, h, n))
next-few limit (Turn ∷ rest) c p e f h =
    let n = ap length f in
    turn-few limit c.peer (begun c rest) p e (omega (arith, h, n))

-- ---- what the page does with a message

-- nothing is sent, and at most so many calls may still be made
record Within (limit : ℕ) (sent : List Message) (q : SideState PageControl) : Type 0 where
  same : q.sent ≡ sent
  owes : owed (ahead q.control) q.control.stage ≤ limit

abbrev Owes : ℕ → Message → Meeting PageControl → Type 0
Owes limit m (Accepts steps) = (p : SideState PageControl) → Within limit p.sent (run_steps steps (examine m p))
Owes limit m (Refuses rule a b) = Unit {0}

resumes-owes : (limit : ℕ) (c : PageControl) (m : Message) (lines : List ℕ) → 1 + ahead c ≤ limit → Owes limit m (resumes c lines)
resumes-owes limit c m lines h = λ p. record { same = refl; owes = h }

dies-owes : (limit : ℕ) (c : PageControl) (m : Message) (instance : ℕ) (lines : List ℕ) → 1 + ahead c ≤ limit → Owes limit m (resumes (with_phase c instance Dead) lines)
dies-owes limit c m instance lines h =
    let fewer = live-dead c.phases (instance - 1) in
    let bound : 1 + (2 * length c.commands + live (slice_set c.phases (instance - 1) Dead)) ≤ limit = omega (arith, h, fewer) in
    resumes-owes limit (with_phase c instance Dead) m lines bound

created-owes : (limit : ℕ) (c : PageControl) (m : Message) (error : NpError) → 1 + ahead c ≤ limit → Owes limit m (created c error)
created-owes limit c m NoError h = resumes-owes limit c m _ h
created-owes limit c m error h = dies-owes limit c m (last_instance c) _ h

greeted-owes : (limit : ℕ) (c : PageControl) (m : Message) (error : NpError) → 1 + ahead c ≤ limit → Owes limit m (greeted c m error)
greeted-owes limit c m NoError h = resumes-owes limit c m [] h
greeted-owes limit c m IncompatibleVersion h = resumes-owes limit (record c { peer = Incompatible }) m [] h
greeted-owes limit c m error h = tt

destroyed-owes : (limit : ℕ) (c : PageControl) (m : Message) (instance : ℕ) (error : NpError) → 1 + ahead c ≤ limit → Owes limit m (destroyed c m instance error)
destroyed-owes limit c m instance NoError h = dies-owes limit c m instance [] h
destroyed-owes limit c m instance error h = tt

reply-owes : (limit : ℕ) (c : PageControl) (m : Message) (call : Outstanding) (body : Payload) → after (ahead c) call ≤ limit → Owes limit m (reply_plan c m call body)
reply-owes limit c m calls.Hello (payloads.Code error) h = greeted-owes limit c m error h
reply-owes limit c m calls.New (payloads.Code error) h = created-owes limit c m error h
reply-owes limit c m (calls.Destroy instance) (payloads.Code error) h = destroyed-owes limit c m instance error h
reply-owes limit c m calls.Turn payloads.Done h = resumes-owes limit c m _ h
reply-owes limit c m calls.Shutdown payloads.Done h = λ p. record { same = refl; owes = h }
reply-owes limit c m call body h = tt

if-owes : (limit : ℕ) (m : Message) (b : Bool) (x y : Meeting PageControl) → Owes limit m x → Owes limit m y → Owes limit m (if b then x else y)
if-owes limit m true x y h g = h
if-owes limit m false x y h g = g

at-owes : (limit : ℕ) (c : PageControl) (m : Message) (stage : Stage) → owed (ahead c) stage ≤ limit → Owes limit m (meet_at c m stage)
at-owes limit c m (Awaiting call) h = if-owes limit m (is_level_1 m.depth) (reply_plan c m call m.body) (unmatched m) (reply-owes limit c m call m.body h) tt
at-owes limit c m stage h = tt

meet-owes : (limit : ℕ) (c : PageControl) (m : Message) → owed (ahead c) c.stage ≤ limit → Owes limit m (meet_plan c m)
meet-owes limit c m h =
    settled-by (Owes limit m) c.phases m (answer_plan c m) (λ rule a b. tt)
    (if-owes limit m (may_answer m.body) (meet_at c m c.stage) (Refuses WrongKind (kind_of m.body) (instance_of m.body)) (at-owes limit c m c.stage h) tt)

heard-few : (limit : ℕ) (page : Page) (p : SideState PageControl) → Few limit p → (o : Option Message) → Few limit (listens (page_plans page) p o)
heard-few limit page p h None = h
heard-few limit page p h (Some m) = met (meet_plan p.control m) (meet-owes (owed (ahead p.control) p.control.stage) p.control m (omega arith))
  where
    met : (meeting : Meeting PageControl) → Owes (owed (ahead p.control) p.control.stage) m meeting → Few limit (meets p m meeting)
    met (Accepts steps) r =
        let q = run_steps steps (examine m p) in
        let same = ap length (r p).same in
        let owes = (r p).owes in
        let bound = h.bound in
        record { bound = omega (arith, same, owes, bound) }
    met (Refuses rule a b) r = h

-- ---- its turns

page-turn-few : (limit : ℕ) (page : Page) (got : List Message) (p : SideState PageControl) → Paced p → Few limit p → Few limit (turn (page_plans page) got p)
page-turn-few limit page got p paced h = at p.control.stage refl
  where
    known : (stage : Stage) → p.control.stage ≡ stage → length p.sent + owed (ahead p.control) stage ≤ limit
    known stage e = subst (λ s. length p.sent + owed (ahead p.control) s ≤ limit) e h.bound

    moved : (stage : Stage) → p.control.stage ≡ stage → Few limit (turn_at (page_plans page) got p (pace_at stage)) → Few limit (turn (page_plans page) got p)
    moved stage e t = subst (λ s. Few limit (turn_at (page_plans page) got p (pace_at s))) (sym e) t

    acted : (stage : Stage) → p.control.stage ≡ stage → pace_at stage ≡ Acts → Few limit (run_steps (go_plan page p.control stage) p) → Few limit (turn (page_plans page) got p)
    acted stage e a t = subst (λ q. Few limit q) (sym (acts page got p stage e a)) t

    at : (stage : Stage) → p.control.stage ≡ stage → Few limit (turn (page_plans page) got p)
    at Begin e = let b = known Begin e in acted Begin e refl (call-few limit p.control calls.Hello (payloads.Hello 1 page.major page.minor) p (omega (arith, b)))
    at Ready e = acted Ready e refl (next-few limit p.control.commands p.control p e refl (known Ready e))
    at (Awaiting call) e = moved (Awaiting call) e (heard-few limit page p h (next_message got p))
    at (Unanswered call) e = absurd (subst (λ s. PacedAt p.sent p.examined s) e paced.pace)
    at Ended e = moved Ended e h

few : (page : Page) (got : List Message) (n : ℕ) → Few (2 * length page.commands + 2) (endpoint_run (page_plans page) got n (at_start (page_start page)))
few page got zero = record { bound = omega arith }
few page got (suc n) = page-turn-few (2 * length page.commands + 2) page got (endpoint_run (page_plans page) got n (at_start (page_start page))) (page-paced page got n) (few page got n)

pub page-few : (page : Page) (got : List Message) (turns : ℕ) → length (endpoint_run (page_plans page) got turns (at_start (page_start page))).sent ≤ 2 * length page.commands + 2
page-few page got turns = let b = (few page got turns).bound in omega (arith, b)
