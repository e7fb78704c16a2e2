-- The page makes calls alone, each when all earlier ones were answered.
use Rattle.std.proofs.Common.{◌≡◌, ℕ, zero, suc, ◌+◌, List, [], ◌∷◌, ◌++◌, length, Bool, true, false, refl, sym, ap, ◌∙◌, subst, arith, drop, Option, Some, None, inl, inr, ◌⊎◌, ⊎_elim, length-append}
use Rattle.std.specs.Prelude.{if◌then◌else◌, position}
use Rattle.std.specs.List.{list_all}
use Rattle.std.proofs.lemmas.Bool.{and_from}
use Rattle.std.proofs.lemmas.List.{drop_at}
use Rattle.np_values.specs.declared.error.NpError.{NpError}
use Rattle.np_values.specs.declared.error.NpError.TheVariants.{NoError, IncompatibleVersion}
use Rattle.np_model.specs.declared.script.Command.{Command}
use Rattle.np_model.specs.declared.script.Command.TheVariants.{Create, Turn}
use Rattle.np_model.specs.declared.script.Page.{Page}
use Rattle.np_message.specs.declared.payload.Payload.{Payload}
use Rattle.np_message.specs.declared.payload.Payload.TheVariants as payloads
use Rattle.np_message.specs.declared.depth.Depth.{Depth}
use Rattle.np_message.specs.Message.{Message}
use Rattle.np_model.specs.declared.page.Outstanding.{Outstanding}
use Rattle.np_model.specs.declared.page.Outstanding.TheVariants as calls
use Rattle.np_model.specs.declared.page.PeerState.{PeerState}
use Rattle.np_model.specs.declared.page.PeerState.TheVariants.{Compatible, Incompatible, Lost}
use Rattle.np_model.specs.declared.page.Phase.TheVariants.{Live, Destroying}
use Rattle.np_model.specs.declared.page.Stage.{Stage}
use Rattle.np_model.specs.declared.page.Stage.TheVariants.{Begin, Ready, Awaiting, Unanswered, Ended}
use Rattle.np_model.specs.declared.refusal.Rule.TheVariants.{WrongKind}
use Rattle.np_message.specs.Encoding.{kind_of}
use Rattle.np_model.specs.Side.{SideState, run_steps, examine, at_start}
use Rattle.np_model.specs.Run.{Acts, Meeting, Accepts, Refuses, first, next_message, meets, listens, turn_at, turn, endpoint_run}
use Rattle.np_model.specs.PagePlan.{PageControl, page_plans, page_start, at_level_1, calls_for, with_phase, with_instance, last_instance, begun, create_plan, turn_plan, close_plan, end_plan, next_plan, go_plan, pace_at, is_live, created, greeted, destroyed, unmatched, reply_plan, may_answer, is_level_1, meet_at, answer_plan, meet_plan}
use Rattle.np_message.specs.Kinds.{instance_of}
use Rattle.np_model.proofs.Settled.{settled-by}
use Rattle.np_model_laws.specs.Laws.{has_no_attributes}
use Rattle.np_model_laws.proofs.Lost.{acts}

-- which call of a page a message is; its New has no attributes
abbrev pub asks : Payload → Option Outstanding
asks (payloads.Hello version major minor) = Some calls.Hello
asks (payloads.New instance mode mime []) = Some calls.New
asks (payloads.New instance mode mime (name ∷ rest)) = None
asks (payloads.Destroy instance) = Some (calls.Destroy instance)
asks payloads.Turn = Some calls.Turn
asks payloads.Shutdown = Some calls.Shutdown
asks body = None

-- ---- what the page sends

abbrev pub level_1 : Depth
level_1 = record { level = 1; task = false }

-- every message is a call of level 1, and gives nothing back
pub record AreCalls (messages : List Message) : Type 0 where
  pub at_place : (k : ℕ) (m : Message) → first (drop k messages) ≡ Some m → (call : Outstanding) × (asks m.body ≡ Some call) × (m.depth ≡ level_1) × (m.releases ≡ [])

first-last : (k : ℕ) (l : List Message) (x m : Message) → first (drop k (l ++ x ∷ [])) ≡ Some m → (first (drop k l) ≡ Some m) ⊎ (m ≡ x)
first-last zero [] x m e = inr (cc)
first-last zero (y ∷ l) x m e = inl e
first-last (suc zero) [] x m e = cc
first-last (suc (suc k)) [] x m e = cc
first-last (suc k) (y ∷ l) x m e = first-last k l x m e

one-more : (messages : List Message) (m : Message) (call : Outstanding) → asks m.body ≡ Some call → m.depth ≡ level_1 → m.releases ≡ [] → AreCalls messages → AreCalls (messages ++ m ∷ [])
one-more messages m call e d none h = record {
  at_place = λ k x f. ⊎_elim (λ g. h.at_place k x g) (λ g. (call, ap (λ y. asks y.body) g ∙ e, ap (λ y. y.depth) g ∙ d, ap (λ y. y.releases) g ∙ none)) (first-last k messages m x f);
}

-- the last message that was sent is the call that is open, and all others were answered
pub record OpenCall (sent examined : List Message) (call : Outstanding) : Type 0 where
  pub body : Payload
  pub asked : asks body ≡ Some call
  pub last : first (drop (length examined) sent) ≡ Some (at_level_1 body)
  pub count : length sent ≡ suc (length examined)

abbrev pub PacedAt : List Message → List Message → Stage → Type 0
PacedAt sent examined Begin = length sent ≡ length examined
PacedAt sent examined Ready = length sent ≡ length examined
PacedAt sent examined (Awaiting call) = OpenCall sent examined call
PacedAt sent examined (Unanswered call) = ⊥
PacedAt sent examined Ended = length sent ≡ length examined

-- what holds of the page along every run
pub record Paced (p : SideState PageControl) : Type 0 where
  pub are_calls : AreCalls p.sent
  pub pace : PacedAt p.sent p.examined p.control.stage

paced-at : (p : SideState PageControl) (stage : Stage) → p.control.stage ≡ stage → AreCalls p.sent → PacedAt p.sent p.examined stage → Paced p
paced-at p stage e h t = record { are_calls = h; pace = subst (λ s. PacedAt p.sent p.examined s) (sym e) t }

call-paced : (c : PageControl) (call : Outstanding) (body : Payload) (p : SideState PageControl) → asks body ≡ Some call → AreCalls p.sent → length p.sent ≡ length p.examined → Paced (run_steps (calls_for c call body) p)
call-paced c call body p e h t = record {
  are_calls = one-more p.sent (at_level_1 body) call e refl refl h;
  pace = record {
    body = body;
    asked = e;
    last = ap first (drop_at p.sent (at_level_1 body ∷ []) (length p.examined) t);
    count = omega (arith, t, length-append p.sent (at_level_1 body ∷ []));
  };
}

close-paced : (place : Option ℕ) (c : PageControl) (p : SideState PageControl) → AreCalls p.sent → length p.sent ≡ length p.examined → Paced (run_steps (close_plan c place) p)
close-paced (Some place) c p h t = call-paced (with_phase c (place + 1) Destroying) (calls.Destroy (place + 1)) (payloads.Destroy (place + 1)) p refl h t
close-paced None c p h t = call-paced c calls.Shutdown payloads.Shutdown p refl h t

end-paced : (peer : PeerState) (c : PageControl) (p : SideState PageControl) → AreCalls p.sent → length p.sent ≡ length p.examined → Paced (run_steps (end_plan c peer) p)
end-paced Compatible c p h t = close-paced (position is_live c.phases) c p h t
end-paced Incompatible c p h t = close-paced (position is_live c.phases) c p h t
end-paced Lost c p h t = record { are_calls = h; pace = t }

create-paced : (peer : PeerState) (c : PageControl) (mime : List ℕ) (mode : ℕ) (p : SideState PageControl) → c.stage ≡ Ready → AreCalls p.sent → length p.sent ≡ length p.examined → Paced (run_steps (create_plan c mime mode peer) p)
create-paced Compatible c mime mode p e h t = call-paced (with_instance c Live) calls.New (payloads.New (last_instance (with_instance c Live)) mode mime []) p refl h t
create-paced Incompatible c mime mode p e h t = paced-at (run_steps (create_plan c mime mode Incompatible) p) Ready e h t
create-paced Lost c mime mode p e h t = paced-at (run_steps (create_plan c mime mode Lost) p) Ready e h t

turn-paced : (peer : PeerState) (c : PageControl) (p : SideState PageControl) → c.stage ≡ Ready → AreCalls p.sent → length p.sent ≡ length p.examined → Paced (run_steps (turn_plan c peer) p)
turn-paced Compatible c p e h t = call-paced c calls.Turn payloads.Turn p refl h t
turn-paced Incompatible c p e h t = call-paced c calls.Turn payloads.Turn p refl h t
turn-paced Lost c p e h t = paced-at (run_steps (turn_plan c Lost) p) Ready e h t

next-paced : (commands : List Command) (c : PageControl) (p : SideState PageControl) → c.stage ≡ Ready → AreCalls p.sent → length p.sent ≡ length p.examined → Paced (run_steps (next_plan c commands) p)
next-paced [] c p e h t = end-paced c.peer c p h t
next-paced (Create mime mode ∷ rest) c p e h t = create-paced c.peer (begun c rest) mime mode p e h t
next-paced (Turn ∷ rest) c p e h t = turn-paced c.peer (begun c rest) p e h t

-- ---- what the page does with a message

-- a message that is accepted is examined, nothing is sent, and the page goes on or has ended
record Settled (m : Message) (p q : SideState PageControl) : Type 0 where
  sent : q.sent ≡ p.sent
  examined : q.examined ≡ p.examined ++ m ∷ []
  stage : (q.control.stage ≡ Ready) ⊎ (q.control.stage ≡ Ended)

abbrev Settles : Message → Meeting PageControl → Type 0
Settles m (Accepts steps) = (p : SideState PageControl) → Settled m p (run_steps steps (examine m p))
Settles m (Refuses rule a b) = Unit {0}

created-settles : (c : PageControl) (m : Message) (error : NpError) → Settles m (created c error)
created-settles c m NoError = λ p. record { sent = refl; examined = refl; stage = inl refl }
created-settles c m error = λ p. record { sent = refl; examined = refl; stage = inl refl }

greeted-settles : (c : PageControl) (m : Message) (error : NpError) → Settles m (greeted c m error)
greeted-settles c m NoError = λ p. record { sent = refl; examined = refl; stage = inl refl }
greeted-settles c m IncompatibleVersion = λ p. record { sent = refl; examined = refl; stage = inl refl }
greeted-settles c m error = tt

destroyed-settles : (c : PageControl) (m : Message) (instance : ℕ) (error : NpError) → Settles m (destroyed c m instance error)
destroyed-settles c m instance NoError = λ p. record { sent = refl; examined = refl; stage = inl refl }
destroyed-settles c m instance error = tt

reply-settles : (c : PageControl) (m : Message) (call : Outstanding) (body : Payload) → Settles m (reply_plan c m call body)
reply-settles c m calls.Hello (payloads.Code error) = greeted-settles c m error
reply-settles c m calls.New (payloads.Code error) = created-settles c m error
reply-settles c m (calls.Destroy instance) (payloads.Code error) = destroyed-settles c m instance error
reply-settles c m calls.Turn payloads.Done = λ p. record { sent = refl; examined = refl; stage = inl refl }
reply-settles c m calls.Shutdown payloads.Done = λ p. record { sent = refl; examined = refl; stage = inr refl }
reply-settles c m call body = tt

if-settles : (m : Message) (b : Bool) (x y : Meeting PageControl) → Settles m x → Settles m y → Settles m (if b then x else y)
if-settles m true x y h g = h
if-settles m false x y h g = g

at-settles : (c : PageControl) (m : Message) (stage : Stage) → Settles m (meet_at c m stage)
at-settles c m (Awaiting call) = if-settles m (is_level_1 m.depth) (reply_plan c m call m.body) (unmatched m) (reply-settles c m call m.body) tt
at-settles c m stage = tt

meet-settles : (c : PageControl) (m : Message) → Settles m (meet_plan c m)
meet-settles c m =
    settled-by (Settles m) c.phases m (answer_plan c m) (λ rule a b. tt)
    (if-settles m (may_answer m.body) (meet_at c m c.stage) (Refuses WrongKind (kind_of m.body) (instance_of m.body)) (at-settles c m c.stage) tt)

settled-paced : (m : Message) (p q : SideState PageControl) → AreCalls p.sent → length p.sent ≡ suc (length p.examined) → Settled m p q → Paced q
settled-paced m p q h t r =
    let are : AreCalls q.sent = subst (λ l. AreCalls l) (sym r.sent) h in
    let sent = ap length r.sent in
    let examined = ap length r.examined in
    let count : length q.sent ≡ length q.examined = omega (arith, t, sent, examined, length-append p.examined (m ∷ [])) in
    ⊎_elim (λ e. paced-at q Ready e are count) (λ e. paced-at q Ended e are count) r.stage

heard-paced : (page : Page) (p : SideState PageControl) (call : Outstanding) → Paced p → OpenCall p.sent p.examined call → (o : Option Message) → Paced (listens (page_plans page) p o)
heard-paced page p call h t None = h
heard-paced page p call h t (Some m) = met (meet_plan p.control m) (meet-settles p.control m)
  where
    met : (meeting : Meeting PageControl) → Settles m meeting → Paced (meets p m meeting)
    met (Accepts steps) r = settled-paced m p (run_steps steps (examine m p)) h.are_calls t.count (r p)
    met (Refuses rule a b) r = h

page-turn-paced : (page : Page) (got : List Message) (p : SideState PageControl) → Paced p → Paced (turn (page_plans page) got p)
page-turn-paced page got p h = at p.control.stage refl
  where
    known : (stage : Stage) → p.control.stage ≡ stage → PacedAt p.sent p.examined stage
    known stage e = subst (λ s. PacedAt p.sent p.examined s) e h.pace

    moved : (stage : Stage) → p.control.stage ≡ stage → Paced (turn_at (page_plans page) got p (pace_at stage)) → Paced (turn (page_plans page) got p)
    moved stage e t = subst (λ s. Paced (turn_at (page_plans page) got p (pace_at s))) (sym e) t

    acted : (stage : Stage) → p.control.stage ≡ stage → pace_at stage ≡ Acts → Paced (run_steps (go_plan page p.control stage) p) → Paced (turn (page_plans page) got p)
    acted stage e a t = subst (λ q. Paced q) (sym (acts page got p stage e a)) t

    at : (stage : Stage) → p.control.stage ≡ stage → Paced (turn (page_plans page) got p)
    at Begin e = acted Begin e refl (call-paced p.control calls.Hello (payloads.Hello 1 page.major page.minor) p refl h.are_calls (known Begin e))
    at Ready e = acted Ready e refl (next-paced p.control.commands p.control p e h.are_calls (known Ready e))
    at (Awaiting call) e = moved (Awaiting call) e (heard-paced page p call h (known (Awaiting call) e) (next_message got p))
    at (Unanswered call) e = absurd (known (Unanswered call) e)
    at Ended e = moved Ended e h

pub page-paced : (page : Page) (got : List Message) (n : ℕ) → Paced (endpoint_run (page_plans page) got n (at_start (page_start page)))
page-paced page got zero = record { are_calls = record { at_place = λ k m e. nothing k m e }; pace = refl }
  where
    nothing : (k : ℕ) (m : Message) → first (drop k []) ≡ Some m → (call : Outstanding) × (asks m.body ≡ Some call) × (m.depth ≡ level_1) × (m.releases ≡ [])
    nothing zero m e = let n : ⊥ = cc in absurd n
    nothing (suc k) m e = let n : ⊥ = cc in absurd n
page-paced page got (suc n) = page-turn-paced page got (endpoint_run (page_plans page) got n (at_start (page_start page))) (page-paced page got n)

-- ---- attributes

plain-call : (body : Payload) (call : Outstanding) → asks body ≡ Some call → has_no_attributes body ≡ true
plain-call (payloads.New instance mode mime []) call e = refl
plain-call (payloads.New instance mode mime (name ∷ rest)) call e = cc
plain-call body call e = refl

plain-calls : (messages : List Message) → AreCalls messages → list_all (λ m. has_no_attributes m.body) messages ≡ true
plain-calls [] h = refl
plain-calls (m ∷ messages) h =
    let call = h.at_place 0 m refl in
    and_from (has_no_attributes m.body) _ (plain-call m.body call.0 call.1) (plain-calls messages (record { at_place = λ k x e. h.at_place (suc k) x e }))

pub page-plain : (page : Page) (got : List Message) (turns : ℕ) → list_all (λ m. has_no_attributes m.body) (endpoint_run (page_plans page) got turns (at_start (page_start page))).sent ≡ true
page-plain page got turns =
    plain-calls (endpoint_run (page_plans page) got turns (at_start (page_start page))).sent (page-paced page got turns).are_calls
