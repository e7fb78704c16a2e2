-- Lists that grow: what a side sent, printed and put stays.
use Rattle.std.proofs.Common.{◌≡◌, ℕ, zero, suc, ◌+◌, ◌≤◌, List, [], ◌∷◌, ◌++◌, length, refl, sym, ap, ◌∙◌, subst, arith, append_assoc, drop, take, Option, Some, None, length-append, Bool, true, ◌&&◌}
use Rattle.std.specs.Prelude.{not, ◌==◌}
use Rattle.std.proofs.lemmas.List.{append-nil, take-append-le}
use Rattle.np_message.specs.Message.{Message}
use Rattle.np_values.specs.declared.name.Name.{Name}
use Rattle.np_values.specs.declared.value.Value.{Value}
use Rattle.np_values.specs.Name.{is_same_side}
use Rattle.np_message.specs.declared.depth.Depth.{Depth}
use Rattle.np_message.specs.declared.payload.Payload.{Payload}
use Rattle.np_machine.specs.References.{other_side, name_of}
use Rattle.np_machine.specs.declared.frame.Frame.{Frame}
use Rattle.np_machine.specs.Side.{SideState, local_count, is_dead}
use Rattle.np_machine.specs.declared.place.Place.{Place}
use Rattle.np_machine.specs.declared.place.Place.TheVariants.{Register, PageRegister, Slot, PropertyOf, This}
use Rattle.np_machine.specs.declared.draft.Sending.{Sending}
use Rattle.np_machine.specs.declared.step.Step.{Step}
use Rattle.np_machine.specs.declared.step.Step.TheVariants.{Copy, Constant, Put, Remove, Drop, DropEach, MoveAfter, Create, Enter, Leave, Advance, SetFlag, NoteException, Await, Resume, HandOver, Deliver, Sweep, Deallocate, Begin, MarkDestroying, TearDown, File, Print}
use Rattle.np_machine.specs.Dropping.{drop_remote, drop_local, drop_reference, drop_next, drop_many}
use Rattle.np_machine.specs.Deallocation.{take_out, serve_deallocations, serve_queue, drop_each}
use Rattle.np_machine.specs.Places.{put_next}
use Rattle.np_machine.specs.Objects.{has_object, properties_of}
use Rattle.np_machine.specs.Steps.{leave_body, add_constant, run_step, run_steps}
use Rattle.np_machine.specs.Messages.{hand_over, draft_payload, send_payload, deliver_next, send_draft, examine}
use Rattle.np_machine.specs.Instances.{is_begun}
use Rattle.np_machine.specs.Plan.{Plan, run_plan, Pace, Acts, Awaits, HasEnded, Stops, Meeting, Accepts, Refuses, Plans}
use Rattle.np_machine.specs.Turn.{RemoteTest, is_remote_by_messages, first, next_message, meets, listens, turn_at, turn, endpoint_run}
use Rattle.np_machine.proofs.BalanceLemmas.{by_if}
use Rattle.np_machine.proofs.Untouched.{Same, drop_next-same, drop_reference-same, leave_body-same, put_next-same, serve_deallocations-same}

-- the new list begins with the old one
pub record Extends {A : Type 0} (old new : List A) : Type 0 where
  pub more : List A
  pub is : new ≡ old ++ more

pub extends-same : {A : Type 0} (l : List A) → Extends l l
extends-same l = record { more = []; is = sym (append-nil l) }

pub extends-by : {A : Type 0} (l more : List A) → Extends l (l ++ more)
extends-by l more = record { more = more; is = refl }

pub extends-trans : {A : Type 0} (a b c : List A) → Extends a b → Extends b c → Extends a c
extends-trans a b c f g = record { more = f.more ++ g.more; is = g.is ∙ ap (λ l. l ++ g.more) f.is ∙ append_assoc a f.more g.more }

pub extends-length : {A : Type 0} (a b : List A) → Extends a b → length a ≤ length b
extends-length a b f = let e = ap length f.is in omega (arith, e, length-append a f.more)

-- the first k items stay the same once there are k
pub extends-take : {A : Type 0} (k : ℕ) (a b : List A) → Extends a b → k ≤ length a → take k b ≡ take k a
extends-take k a b f h = ap (λ l. take k l) f.is ∙ take-append-le k a f.more h

pub take-extends : (k : ℕ) (a b : List Message) → Extends a b → Extends (take k a) (take k b)
take-extends k a b f = subst (λ l. Extends (take k a) (take k l)) (sym f.is) (go k a f.more)
  where
    go : (k : ℕ) (a more : List Message) → Extends (take k a) (take k (a ++ more))
    go zero a more = extends-same []
    go (suc k) [] more = record { more = take (suc k) more; is = refl }
    go (suc k) (x ∷ a) more = let r = go k a more in record { more = r.more; is = ap (λ l. x ∷ l) r.is }

-- the next message stays the next one when more come after it
pub first-extends : (k : ℕ) (a b : List Message) (m : Message) → Extends a b → first (drop k a) ≡ Some m → first (drop k b) ≡ Some m
first-extends k a b m f e = ap (λ l. first (drop k l)) f.is ∙ go k a e
  where
    go : (k : ℕ) (a : List Message) → first (drop k a) ≡ Some m → first (drop k (a ++ f.more)) ≡ Some m
    go zero [] e = cc
    go zero (x ∷ a) e = e
    go (suc k) [] e = cc
    go (suc k) (x ∷ a) e = go k a e

-- what p sent, printed and put is a beginning of what q did
pub record Grows {C : Type 0} (p q : SideState C) : Type 0 where
  pub sent : Extends p.sent q.sent
  pub journal : Extends p.journal q.journal
  pub files : Extends p.files q.files

grows-same : {C : Type 0} (p : SideState C) → Grows p p
grows-same p = record { sent = extends-same p.sent; journal = extends-same p.journal; files = extends-same p.files }

grows-trans : {C : Type 0} (p q r : SideState C) → Grows p q → Grows q r → Grows p r
grows-trans p q r f g = record {
  sent = extends-trans p.sent q.sent r.sent f.sent g.sent;
  journal = extends-trans p.journal q.journal r.journal f.journal g.journal;
  files = extends-trans p.files q.files r.files f.files g.files;
}

-- to drop a reference prints nothing
drop_reference-journal : {C : Type 0} (remote : Name → Bool) (n : Option Name) (p : SideState C) → (drop_reference remote n p).journal ≡ p.journal
drop_reference-journal remote None p = refl
drop_reference-journal remote (Some y) p = by_if (λ (q : SideState _). q.journal ≡ p.journal) (is_same_side y.side p.side) _ _ (λ e. own) (λ e. others)
  where
    own : (drop_local remote y p).journal ≡ p.journal
    own = by_if (λ (q : SideState _). q.journal ≡ p.journal) (not (is_dead p y.instance) && (local_count y p == 0 && not (remote y))) _ _ (λ e. refl) (λ e. refl)

    others : (drop_remote y p).journal ≡ p.journal
    others = by_if (λ (q : SideState _). q.journal ≡ p.journal) (is_dead p y.instance) _ _ (λ e. refl) (λ e. by_if (λ (q : SideState _). q.journal ≡ p.journal) (local_count y p == 0) _ _ (λ f. refl) (λ f. refl))

drop_next-journal : {C : Type 0} (remote : Name → Bool) (vs : List Value) (p : SideState C) → (drop_next remote vs p).journal ≡ p.journal
drop_next-journal remote [] p = refl
drop_next-journal remote (v ∷ rest) p = drop_reference-journal remote (name_of v) (record p { in_flight = rest })

drop_many-journal : {C : Type 0} (n : ℕ) (remote : Name → Bool) (p : SideState C) → (drop_many n remote p).journal ≡ p.journal
drop_many-journal zero remote p = refl
drop_many-journal (suc n) remote p = drop_many-journal n remote (drop_next remote p.in_flight p) ∙ drop_next-journal remote p.in_flight p

same-grows : {C : Type 0} (p q : SideState C) → Same q p → q.journal ≡ p.journal → Grows p q
same-grows p q s e = record {
  sent = subst (λ l. Extends p.sent l) (sym s.sent) (extends-same p.sent);
  journal = subst (λ l. Extends p.journal l) (sym e) (extends-same p.journal);
  files = subst (λ l. Extends p.files l) (sym s.files) (extends-same p.files);
}

serve_deallocations-grows : {C : Type 0} (n : ℕ) (remote : Name → Bool) (ds : List Name) (p : SideState C) → Extends p.journal (serve_deallocations n remote ds p).journal
serve_deallocations-grows zero remote ds p = extends-same p.journal
serve_deallocations-grows (suc n) remote [] p = extends-same p.journal
serve_deallocations-grows (suc n) remote (y ∷ rest) p =
    let k = length (properties_of y p.objects) in
    let q = drop_many k remote (take_out y rest p) in
    extends-trans p.journal q.journal (serve_deallocations n remote q.dealloc_queue q).journal (subst (λ l. Extends p.journal l) (sym (drop_many-journal k remote (take_out y rest p))) (extends-by p.journal _)) (serve_deallocations-grows n remote q.dealloc_queue q)

exchange-journal : {C : Type 0} (place : Place) (vs : List Value) (p : SideState C) → (put_next place vs p).journal ≡ p.journal
exchange-journal place [] p = refl
exchange-journal (Register i) (v ∷ rest) p = refl
exchange-journal (PageRegister i) (v ∷ rest) p = refl
exchange-journal (Slot n i) (v ∷ rest) p = refl
exchange-journal (PropertyOf y key) (v ∷ rest) p = by_if (λ (q : SideState _). q.journal ≡ p.journal) (has_object y p.objects) _ _ (λ e. refl) (λ e. refl)
exchange-journal This (v ∷ rest) p = refl

leave_body-journal : {C : Type 0} (n : ℕ) (stack : List Frame) (p : SideState C) → (leave_body n stack p).journal ≡ p.journal
leave_body-journal n [] p = refl
leave_body-journal n (a ∷ rest) p = refl

-- a side that sent, printed and put nothing more
equal-grows : {C : Type 0} (p q : SideState C) → q.sent ≡ p.sent → q.journal ≡ p.journal → q.files ≡ p.files → Grows p q
equal-grows p q e f h = record {
  sent = subst (λ l. Extends p.sent l) (sym e) (extends-same p.sent);
  journal = subst (λ l. Extends p.journal l) (sym f) (extends-same p.journal);
  files = subst (λ l. Extends p.files l) (sym h) (extends-same p.files);
}

hand_over-grows : {C : Type 0} (vs : List Value) (p : SideState C) → Grows p (hand_over vs p)
hand_over-grows [] p = grows-same p
hand_over-grows (v ∷ rest) p =
    let q = record p { in_flight = rest; handed_over = p.handed_over ++ v ∷ [] } in
    let d = drop_reference-same (λ y. true) (name_of v) q in
    equal-grows p (drop_reference (λ y. true) (name_of v) q) d.sent (drop_reference-journal (λ y. true) (name_of v) q) d.files

send_payload-grows : {C : Type 0} (depth : Depth) (o : Option Payload) (p : SideState C) → Grows p (send_payload depth o p)
send_payload-grows depth None p = grows-same p
send_payload-grows depth (Some body) p = record { sent = extends-by p.sent _; journal = extends-same p.journal; files = extends-same p.files }

deliver-grows : {C : Type 0} (ms : List Message) (p : SideState C) → Grows p (deliver_next ms p)
deliver-grows [] p = grows-same p
deliver-grows (m ∷ rest) p = equal-grows p _ refl refl refl

add_constant-grows : {C : Type 0} (v : Value) (n : Option Name) (p : SideState C) → Grows p (add_constant v n p)
add_constant-grows v None p = equal-grows p _ refl refl refl
add_constant-grows v (Some y) p = grows-same p

serve_queue-grows : {C : Type 0} (remote : Name → Bool) (p : SideState C) → Grows p (serve_queue remote p)
serve_queue-grows remote p = record {
  sent = subst (λ l. Extends p.sent l) (sym (serve_deallocations-same (length p.objects) remote p.dealloc_queue p).sent) (extends-same p.sent);
  journal = serve_deallocations-grows (length p.objects) remote p.dealloc_queue p;
  files = subst (λ l. Extends p.files l) (sym (serve_deallocations-same (length p.objects) remote p.dealloc_queue p).files) (extends-same p.files);
}

drop_each-grows : {C : Type 0} (n : ℕ) (remote : Name → Bool) (p : SideState C) → Grows p (drop_each n remote p)
drop_each-grows zero remote p = grows-same p
drop_each-grows (suc n) remote p =
    let q = drop_next remote p.in_flight p in
    let d = serve_queue remote q in
    grows-trans p d (drop_each n remote d) (grows-trans p q d (same-grows p q (drop_next-same remote p.in_flight p) (drop_next-journal remote p.in_flight p)) (serve_queue-grows remote q)) (drop_each-grows n remote d)

pub step-grows : {C : Type 0} (remote : Name → Bool) (step : Step) (p : SideState C) → Grows p (run_step remote step p)
step-grows remote (Copy place) p = equal-grows p _ refl refl refl
step-grows remote (Constant v) p = add_constant-grows v (name_of v) p
step-grows remote (Put place) p = same-grows p _ (put_next-same place p.in_flight p) (exchange-journal place p.in_flight p)
step-grows remote (Remove y key) p = equal-grows p _ refl refl refl
step-grows remote Drop p = same-grows p _ (drop_next-same remote p.in_flight p) (drop_next-journal remote p.in_flight p)
step-grows remote (DropEach n) p = drop_each-grows n remote p
step-grows remote (MoveAfter n) p = equal-grows p _ refl refl refl
step-grows remote (Create n class) p = by_if (λ q. Grows p q) (is_begun n p.instances) _ _ (λ e. record { sent = extends-same p.sent; journal = extends-by p.journal _; files = extends-same p.files }) (λ e. grows-same p)
step-grows remote (Enter n entry) p = equal-grows p _ refl refl refl
step-grows remote (Leave n) p = same-grows p _ (leave_body-same n p.frames p) (leave_body-journal n p.frames p)
step-grows remote (Advance n) p = equal-grows p _ refl refl refl
step-grows remote (SetFlag b_) p = equal-grows p _ refl refl refl
step-grows remote (NoteException text) p = equal-grows p _ refl refl refl
step-grows remote (Await how) p = equal-grows p _ refl refl refl
step-grows remote Resume p = equal-grows p _ refl refl refl
step-grows remote HandOver p = hand_over-grows p.in_flight p
step-grows remote Deliver p = deliver-grows p.undelivered p
step-grows remote Sweep p = equal-grows p _ refl refl refl
step-grows remote Deallocate p = serve_queue-grows remote p
step-grows remote (Begin n) p = equal-grows p _ refl refl refl
step-grows remote (MarkDestroying n) p = equal-grows p _ refl refl refl
step-grows remote (TearDown n) p = by_if (λ q. Grows p q) (is_begun n p.instances) _ _ (λ e. record { sent = extends-same p.sent; journal = extends-by p.journal _; files = extends-same p.files }) (λ e. grows-same p)
step-grows remote (File file) p = record { sent = extends-same p.sent; journal = extends-same p.journal; files = extends-by p.files (file ∷ []) }
step-grows remote (Print line) p = record { sent = extends-same p.sent; journal = extends-by p.journal (line ∷ []); files = extends-same p.files }

steps-grow : {C : Type 0} (remote : RemoteTest C) (steps : List Step) (p : SideState C) → Grows p (run_steps remote steps p)
steps-grow remote [] p = grows-same p
steps-grow remote (step ∷ steps) p = grows-trans p (run_step (remote p) step p) (run_steps remote steps (run_step (remote p) step p)) (step-grows (remote p) step p) (steps-grow remote steps (run_step (remote p) step p))

pub sends-grow : {C : Type 0} (o : Option Sending) (p : SideState C) → Grows p (send_draft o p)
sends-grow None p = grows-same p
sends-grow (Some m) p = send_payload-grows m.depth (draft_payload (other_side p.side) m.draft p.handed_over) p

plan-grows : {C : Type 0} (remote : RemoteTest C) (plan : Plan C) (p : SideState C) → Grows p (run_plan remote plan p)
plan-grows remote plan p =
    let q = run_steps remote plan.steps p in
    let g = grows-trans p q (send_draft plan.sends q) (steps-grow remote plan.steps p) (sends-grow plan.sends q) in
    record { sent = g.sent; journal = g.journal; files = g.files }

pub turn-grows : {C : Type 0} (remote : RemoteTest C) (S : Plans C) (got : List Message) (p : SideState C) → Grows p (turn remote S got p)
turn-grows remote S got p = at (S.pace p)
  where
    met : (m : Message) (meeting : Meeting _) → Grows p (meets remote p m meeting)
    met m (Accepts plan) =
        let g = plan-grows remote plan (examine m p) in
        record { sent = g.sent; journal = g.journal; files = g.files }
    met m (Refuses rule first second) = grows-same p

    heard : (o : Option Message) → Grows p (listens remote S p o)
    heard None = grows-same p
    heard (Some m) = met m (S.meet p m)

    at : (pace : Pace) → Grows p (turn_at remote S got p pace)
    at Acts = plan-grows remote (S.go p) p
    at Awaits = heard (next_message got p)
    at HasEnded = grows-same p
    at (Stops r) = grows-same p

pub endpoint-grows : {C : Type 0} (S : Plans C) (got : List Message) (n i : ℕ) (p : SideState C) → Grows (endpoint_run S got n p) (endpoint_run S got (i + n) p)
endpoint-grows S got n zero p =
    let e : n ≡ 0 + n = omega arith in
    subst (λ m. Grows (endpoint_run S got n p) (endpoint_run S got m p)) e (grows-same (endpoint_run S got n p))
endpoint-grows S got n (suc i) p =
    let e : suc (i + n) ≡ suc i + n = omega arith in
    let q = endpoint_run S got (i + n) p in
    subst (λ m. Grows (endpoint_run S got n p) (endpoint_run S got m p)) e (grows-trans (endpoint_run S got n p) q (turn is_remote_by_messages S got q) (endpoint-grows S got n i p) (turn-grows is_remote_by_messages S got q))
