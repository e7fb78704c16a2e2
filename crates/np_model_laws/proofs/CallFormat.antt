-- The calls of a well-formed page are messages of the format.
use Rattle.std.proofs.Common.{◌≡◌, ℕ, zero, suc, ◌+◌, ◌-◌, ◌<◌, ◌≤◌, List, [], ◌∷◌, ◌++◌, length, leb, Bool, true, false, refl, sym, ap, ◌∙◌, subst, arith, Option, Some, None, length-append}
use Rattle.std.specs.Prelude.{if◌then◌else◌, position, slice_set}
use Rattle.std.specs.List.{list_all}
use Rattle.std.proofs.lemmas.Bool.{leb-true, and_parts}
use Rattle.std.proofs.lemmas.List.{length-set}
use Rattle.std.proofs.lemmas.List.Quantifiers.{position-Some}
use Rattle.np_values.specs.Text.{is_text}
use Rattle.np_values.specs.declared.error.NpError.{NpError}
use Rattle.np_values.specs.declared.error.NpError.TheVariants.{NoError, IncompatibleVersion}
use Rattle.np_model.specs.declared.script.Command.{Command}
use Rattle.np_model.specs.declared.script.Command.TheVariants.{Create, Turn}
use Rattle.np_model.specs.declared.script.Page.{Page}
use Rattle.np_message.specs.declared.payload.Payload.{Payload}
use Rattle.np_message.specs.declared.payload.Payload.TheVariants as payloads
use Rattle.np_message.specs.Message.{Message}
use Rattle.np_model.specs.declared.page.Outstanding.{Outstanding}
use Rattle.np_model.specs.declared.page.Outstanding.TheVariants as calls
use Rattle.np_model.specs.declared.page.PeerState.{PeerState}
use Rattle.np_model.specs.declared.page.PeerState.TheVariants.{Compatible, Incompatible, Lost}
use Rattle.np_model.specs.declared.page.Phase.TheVariants.{Live, Destroying, Dead}
use Rattle.np_model.specs.declared.page.Phase.{Phase}
use Rattle.np_model.specs.declared.page.Stage.{Stage}
use Rattle.np_model.specs.declared.page.Stage.TheVariants.{Begin, Ready, Awaiting, Unanswered, Ended}
use Rattle.np_model.specs.declared.refusal.Rule.TheVariants.{WrongKind}
use Rattle.np_model.specs.Script.{IsWellFormed, commands_fit, has_text}
use Rattle.np_message.specs.Encoding.{kind_of}
use Rattle.np_message.specs.Rules.{KeepsFormat, KeepsKind, IsTyped, IsTypedBody, AreMessages}
use Rattle.np_model.specs.Side.{SideState, run_steps, examine, at_start}
use Rattle.np_model.specs.Run.{Acts, Meeting, Accepts, Refuses, next_message, meets, listens, turn_at, turn, endpoint_run}
use Rattle.np_model.specs.PagePlan.{PageControl, page_plans, page_start, at_level_1, calls_for, with_phase, with_instance, last_instance, begun, create_plan, turn_plan, close_plan, end_plan, next_plan, lost_plan, go_plan, pace_at, is_live, created, greeted, destroyed, unmatched, reply_plan, may_answer, is_level_1, meet_at, answer_plan, meet_plan}
use Rattle.np_message.specs.Kinds.{instance_of}
use Rattle.np_model.proofs.Settled.{settled-by}
use Rattle.np_model_laws.proofs.Lost.{acts}

-- ---- commands that fit

few-begun : (begun : ℕ) (commands : List Command) → commands_fit begun commands ≡ true → begun ≤ 255
few-begun begun [] h = leb-true begun 255 h
few-begun begun (Create mime mode ∷ commands) h =
    let fits : commands_fit (begun + 1) commands ≡ true = (and_parts (leb mode 2) _ (and_parts (leb 1 mode) _ h).1).1 in
    let r : begun + 1 ≤ 255 = few-begun (begun + 1) commands fits in
    omega arith
few-begun begun (Turn ∷ commands) h = few-begun begun commands h

-- ---- messages of the format

one-more-message : (messages : List Message) (m : Message) → AreMessages messages → KeepsFormat m × IsTyped m → AreMessages (messages ++ m ∷ [])
one-more-message [] m h f = (f, tt)
one-more-message (x ∷ messages) m h f = (h.0, one-more-message messages m h.1 f)

-- the messages so far are of the format, and the commands that are left fit
pub record Formed (p : SideState PageControl) : Type 0 where
  pub messages : AreMessages p.sent
  pub texts : list_all has_text p.control.commands ≡ true
  pub fits : commands_fit (length p.control.phases) p.control.commands ≡ true

-- the commands that are left fit behind these instances
record Fits (phases : List Phase) (commands : List Command) : Type 0 where
  texts : list_all has_text commands ≡ true
  fits : commands_fit (length phases) commands ≡ true

same-number : (phases others : List Phase) (commands : List Command) → length others ≡ length phases → Fits phases commands → Fits others commands
same-number phases others commands e f = record { texts = f.texts; fits = ap (λ n. commands_fit n commands) e ∙ f.fits }

call-formed : (c : PageControl) (call : Outstanding) (body : Payload) (p : SideState PageControl) → KeepsKind body → IsTypedBody body → AreMessages p.sent → Fits c.phases c.commands → Formed (run_steps (calls_for c call body) p)
call-formed c call body p k t h f = record {
  messages = one-more-message p.sent (at_level_1 body) h (record { above = omega arith; below = omega arith; few = omega arith; rising = tt; body = k }, record { releases = tt; body = t });
  texts = f.texts;
  fits = f.fits;
}

-- ---- what the page does where it doesn't wait

close-formed : (place : Option ℕ) (c : PageControl) (p : SideState PageControl) → position is_live c.phases ≡ place → AreMessages p.sent → Fits c.phases c.commands → Formed (run_steps (close_plan c place) p)
close-formed (Some place) c p e h f =
    let found = position-Some is_live c.phases place Dead e in
    let all = few-begun (length c.phases) c.commands f.fits in
    let above : 0 < place + 1 = omega arith in
    let below : place + 1 < 256 = omega (arith, found.0, all) in
    call-formed (with_phase c (place + 1) Destroying) (calls.Destroy (place + 1)) (payloads.Destroy (place + 1)) p above below h (same-number c.phases (slice_set c.phases (place + 1 - 1) Destroying) c.commands (length-set c.phases (place + 1 - 1) Destroying) f)
close-formed None c p e h f = call-formed c calls.Shutdown payloads.Shutdown p tt tt h f

end-formed : (peer : PeerState) (c : PageControl) (p : SideState PageControl) → AreMessages p.sent → Fits c.phases c.commands → Formed (run_steps (end_plan c peer) p)
end-formed Compatible c p h f = close-formed (position is_live c.phases) c p refl h f
end-formed Incompatible c p h f = close-formed (position is_live c.phases) c p refl h f
end-formed Lost c p h f = record { messages = h; texts = f.texts; fits = f.fits }

create-formed : (peer : PeerState) (c : PageControl) (mime : List ℕ) (mode : ℕ) (p : SideState PageControl) → AreMessages p.sent → is_text mime ≡ true → 1 ≤ mode → mode ≤ 2 → ((phase : Phase) → Fits (c.phases ++ phase ∷ []) c.commands) → Formed (run_steps (create_plan c mime mode peer) p)
create-formed Compatible c mime mode p h t low high f =
    let all = few-begun (length (c.phases ++ Live ∷ [])) c.commands (f Live).fits in
    let above : 0 < length (c.phases ++ Live ∷ []) = omega (arith, length-append c.phases (Live ∷ [])) in
    let below : length (c.phases ++ Live ∷ []) < 256 = omega (arith, all) in
    let some : 0 < mode = omega (arith, low) in
    let known : mode < 3 = omega (arith, high) in
    call-formed (with_instance c Live) calls.New (payloads.New (last_instance (with_instance c Live)) mode mime []) p (above, some, known, (0, omega arith, refl)) (below, t, tt) h (f Live)
create-formed Incompatible c mime mode p h t low high f = record { messages = h; texts = (f Dead).texts; fits = (f Dead).fits }
create-formed Lost c mime mode p h t low high f = record { messages = h; texts = (f Dead).texts; fits = (f Dead).fits }

turn-formed : (peer : PeerState) (c : PageControl) (p : SideState PageControl) → AreMessages p.sent → Fits c.phases c.commands → Formed (run_steps (turn_plan c peer) p)
turn-formed Compatible c p h f = call-formed c calls.Turn payloads.Turn p tt tt h f
turn-formed Incompatible c p h f = call-formed c calls.Turn payloads.Turn p tt tt h f
turn-formed Lost c p h f = record { messages = h; texts = f.texts; fits = f.fits }

next-formed : (commands : List Command) (c : PageControl) (p : SideState PageControl) → AreMessages p.sent → Fits c.phases commands → c.commands ≡ commands → Formed (run_steps (next_plan c commands) p)
next-formed [] c p h f e = end-formed c.peer c p h (subst (λ l. Fits c.phases l) (sym e) f)
next-formed (Create mime mode ∷ rest) c p h f e =
    let texts = and_parts (is_text mime) (list_all has_text rest) f.texts in
    let low = and_parts (leb 1 mode) _ f.fits in
    let high = and_parts (leb mode 2) _ low.1 in
    let more : (phase : Phase) → Fits (c.phases ++ phase ∷ []) rest = λ phase. record { texts = texts.1; fits = ap (λ n. commands_fit n rest) (length-append c.phases (phase ∷ [])) ∙ high.1 } in
    create-formed c.peer (begun c rest) mime mode p h texts.0 (leb-true 1 mode low.0) (leb-true mode 2 high.0) more
next-formed (Turn ∷ rest) c p h f e = turn-formed c.peer (begun c rest) p h (record { texts = f.texts; fits = f.fits })

-- what is left to do where a reply never came
unanswered-formed : (call : Outstanding) (c : PageControl) (p : SideState PageControl) → AreMessages p.sent → Fits c.phases c.commands → Formed (run_steps (lost_plan c call) p)
unanswered-formed calls.Hello c p h f = record { messages = h; texts = f.texts; fits = f.fits }
unanswered-formed calls.New c p h f = record { messages = h; texts = f.texts; fits = f.fits }
unanswered-formed (calls.Destroy instance) c p h f = record { messages = h; texts = f.texts; fits = f.fits }
unanswered-formed calls.Turn c p h f = record { messages = h; texts = f.texts; fits = f.fits }
unanswered-formed calls.Shutdown c p h f = record { messages = h; texts = f.texts; fits = f.fits }

-- ---- what the page does with a message

-- nothing is sent, and there are as many instances and the same commands
record Keeps (c : PageControl) (p q : SideState PageControl) : Type 0 where
  sent : q.sent ≡ p.sent
  commands : q.control.commands ≡ c.commands
  number : length q.control.phases ≡ length c.phases

abbrev IsKept : PageControl → Message → Meeting PageControl → Type 0
IsKept c m (Accepts steps) = (p : SideState PageControl) → Keeps c p (run_steps steps (examine m p))
IsKept c m (Refuses rule a b) = Unit {0}

created-kept : (c : PageControl) (m : Message) (error : NpError) → IsKept c m (created c error)
created-kept c m NoError = λ p. record { sent = refl; commands = refl; number = refl }
created-kept c m error = λ p. record { sent = refl; commands = refl; number = length-set c.phases (last_instance c - 1) Dead }

greeted-kept : (c : PageControl) (m : Message) (error : NpError) → IsKept c m (greeted c m error)
greeted-kept c m NoError = λ p. record { sent = refl; commands = refl; number = refl }
greeted-kept c m IncompatibleVersion = λ p. record { sent = refl; commands = refl; number = refl }
greeted-kept c m error = tt

destroyed-kept : (c : PageControl) (m : Message) (instance : ℕ) (error : NpError) → IsKept c m (destroyed c m instance error)
destroyed-kept c m instance NoError = λ p. record { sent = refl; commands = refl; number = length-set c.phases (instance - 1) Dead }
destroyed-kept c m instance error = tt

reply-kept : (c : PageControl) (m : Message) (call : Outstanding) (body : Payload) → IsKept c m (reply_plan c m call body)
reply-kept c m calls.Hello (payloads.Code error) = greeted-kept c m error
reply-kept c m calls.New (payloads.Code error) = created-kept c m error
reply-kept c m (calls.Destroy instance) (payloads.Code error) = destroyed-kept c m instance error
reply-kept c m calls.Turn payloads.Done = λ p. record { sent = refl; commands = refl; number = refl }
reply-kept c m calls.Shutdown payloads.Done = λ p. record { sent = refl; commands = refl; number = refl }
reply-kept c m call body = tt

if-kept : (c : PageControl) (m : Message) (b : Bool) (x y : Meeting PageControl) → IsKept c m x → IsKept c m y → IsKept c m (if b then x else y)
if-kept c m true x y h g = h
if-kept c m false x y h g = g

at-kept : (c : PageControl) (m : Message) (stage : Stage) → IsKept c m (meet_at c m stage)
at-kept c m (Awaiting call) = if-kept c m (is_level_1 m.depth) (reply_plan c m call m.body) (unmatched m) (reply-kept c m call m.body) tt
at-kept c m stage = tt

meet-kept : (c : PageControl) (m : Message) → IsKept c m (meet_plan c m)
meet-kept c m =
    settled-by (IsKept c m) c.phases m (answer_plan c m) (λ rule a b. tt)
    (if-kept c m (may_answer m.body) (meet_at c m c.stage) (Refuses WrongKind (kind_of m.body) (instance_of m.body)) (at-kept c m c.stage) tt)

heard-formed : (page : Page) (p : SideState PageControl) → Formed p → (o : Option Message) → Formed (listens (page_plans page) p o)
heard-formed page p h None = h
heard-formed page p h (Some m) = met (meet_plan p.control m) (meet-kept p.control m)
  where
    met : (meeting : Meeting PageControl) → IsKept p.control m meeting → Formed (meets p m meeting)
    met (Accepts steps) t =
        let r = t p in
        record {
          messages = subst (λ l. AreMessages l) (sym r.sent) h.messages;
          texts = ap (λ l. list_all has_text l) r.commands ∙ h.texts;
          fits = ap (λ l. commands_fit (length (run_steps steps (examine m p)).control.phases) l) r.commands ∙ ap (λ n. commands_fit n p.control.commands) r.number ∙ h.fits;
        }
    met (Refuses rule a b) t = h

-- ---- its turns

page-turn-formed : (page : Page) (got : List Message) (p : SideState PageControl) → page.major < 256 → page.minor < 256 → Formed p → Formed (turn (page_plans page) got p)
page-turn-formed page got p major minor h = at p.control.stage refl
  where
    moved : (stage : Stage) → p.control.stage ≡ stage → Formed (turn_at (page_plans page) got p (pace_at stage)) → Formed (turn (page_plans page) got p)
    moved stage e t = subst (λ s. Formed (turn_at (page_plans page) got p (pace_at s))) (sym e) t

    acted : (stage : Stage) → p.control.stage ≡ stage → pace_at stage ≡ Acts → Formed (run_steps (go_plan page p.control stage) p) → Formed (turn (page_plans page) got p)
    acted stage e a t = subst (λ q. Formed q) (sym (acts page got p stage e a)) t

    fits : Fits p.control.phases p.control.commands
    fits = record { texts = h.texts; fits = h.fits }

    at : (stage : Stage) → p.control.stage ≡ stage → Formed (turn (page_plans page) got p)
    at Begin e = acted Begin e refl (call-formed p.control calls.Hello (payloads.Hello 1 page.major page.minor) p refl (major, minor) h.messages fits)
    at Ready e = acted Ready e refl (next-formed p.control.commands p.control p h.messages fits refl)
    at (Awaiting call) e = moved (Awaiting call) e (heard-formed page p h (next_message got p))
    at (Unanswered call) e = acted (Unanswered call) e refl (unanswered-formed call (record p.control { stage = Ready }) p h.messages fits)
    at Ended e = moved Ended e h

pub page-formed : (page : Page) (got : List Message) (n : ℕ) → IsWellFormed page → Formed (endpoint_run (page_plans page) got n (at_start (page_start page)))
page-formed page got zero w = record { messages = tt; texts = w.texts; fits = w.fits }
page-formed page got (suc n) w = page-turn-formed page got (endpoint_run (page_plans page) got n (at_start (page_start page))) w.major w.minor (page-formed page got n w)
