-- A side's releases rise at each state, where the messages that it examined keep the format.
use Rattle.std.proofs.Common.{◌≡◌, ℕ, zero, suc, ◌+◌, ◌<◌, List, [], ◌∷◌, ◌++◌, length, Bool, true, false, ◌&&◌, refl, sym, subst, arith, drop, Option, Some, None}
use Rattle.std.specs.Prelude.{◌==◌, if◌then◌else◌, not}
use Rattle.np_values.specs.declared.name.Side.{Side}
use Rattle.np_values.specs.declared.name.Name.{Name}
use Rattle.np_values.specs.declared.value.Value.{Value}
use Rattle.np_values.specs.Name.{is_same_side}
use Rattle.np_proxy_release.specs.Release.{IsRelease, AreRising}
use Rattle.np_message.specs.declared.depth.Depth.{Depth}
use Rattle.np_message.specs.declared.payload.Payload.{Payload}
use Rattle.np_message.specs.Message.{Message}
use Rattle.np_message.specs.Rules.{Each, KeepsFormat}
use Rattle.np_machine.specs.declared.frame.Frame.{Frame}
use Rattle.np_machine.specs.declared.place.Place.{Place}
use Rattle.np_machine.specs.declared.place.Place.TheVariants.{Register, PageRegister, Slot, PropertyOf, This}
use Rattle.np_machine.specs.declared.draft.Sending.{Sending}
use Rattle.np_machine.specs.declared.step.Step.{Step}
use Rattle.np_machine.specs.declared.step.Step.TheVariants.{Copy, Constant, Put, Remove, Drop, DropEach, MoveAfter, Create, Enter, Leave, Advance, SetFlag, NoteException, Await, Resume, HandOver, Deliver, Sweep, Deallocate, Begin, MarkDestroying, TearDown, File, Print}
use Rattle.np_machine.specs.References.{other_side, name_of, count_in_name, released_count, count_in_names, carried_in, released_in}
use Rattle.np_machine.specs.Instances.{is_begun}
use Rattle.np_machine.specs.Objects.{has_object, properties_of}
use Rattle.np_machine.specs.Side.{SideState, local_count, is_dead, at_start}
use Rattle.np_machine.specs.Places.{put_next}
use Rattle.np_machine.specs.Dropping.{add_release, drop_remote, drop_local, drop_reference, drop_next, drop_many}
use Rattle.np_machine.specs.Deallocation.{take_out, serve_deallocations, serve_queue, drop_each}
use Rattle.np_machine.specs.Messages.{hand_over, draft_payload, send_payload, send_draft, examine, deliver_next}
use Rattle.np_machine.specs.Steps.{add_constant, leave_body, run_step, run_steps}
use Rattle.np_machine.specs.Plan.{Plan, run_plan, Pace, Acts, Awaits, HasEnded, Stops, Meeting, Accepts, Refuses, Plans}
use Rattle.np_machine.specs.Turn.{RemoteTest, is_remote_by_messages, first, next_message, meets, listens, turn_at, turn, endpoint_run}
use Rattle.np_machine.specs.Sound.{IsSound}
use Rattle.np_machine.specs.Rising.{HasRisingReleases, KeepsReleases}
use Rattle.np_machine.proofs.NameLemmas.{same-refl}
use Rattle.np_machine.proofs.BalanceLemmas.{by_if, same_balances}
use Rattle.np_machine.proofs.Untouched.{Same, drop_reference-same, put_next-same, leave_body-same}
use Rattle.np_machine.proofs.Drops.{BalancesBeside, last_release, positive-live, beside, drop_next-sound, drop_many-sound, take_out-sound, serve_deallocations-sound}
use Rattle.np_machine.proofs.Balances.{step-sound, examine-sound}
use Rattle.np_machine.proofs.SoundRuns.{endpoint-sound}
use Rattle.np_machine.proofs.ReleaseOrder.{rising-add, take-rises, drop-rises, without-rises, take-few}
use Rattle.np_machine.proofs.FormatNames.{carried-counted}

-- ---- a reference is dropped

-- the release after the last reference is one
last-release : {C : Type 0} (y : Name) (p : SideState C) → Each KeepsFormat p.delivered → 0 < (last_release y p).times → IsRelease (last_release y p)
last-release y p k z = let c = carried-counted p.side y p.delivered k (omega (arith, z)) in record { instance = c.instance; serial = c.serial; times = z }

drop_reference-rises : {C : Type 0} (remote : Name → Bool) (n : Option Name) (p : SideState C) → ((x : Name) → is_same_side x.side p.side ≡ false → BalancesBeside x n p) → Each KeepsFormat p.delivered → AreRising p.pending_releases → AreRising (drop_reference remote n p).pending_releases
drop_reference-rises remote None p f k h = h
drop_reference-rises remote (Some y) p f k h = by_if (λ (q : SideState _). AreRising q.pending_releases) (is_same_side y.side p.side) _ _ (λ e. own) (λ e. others e)
  where
    own : AreRising (drop_local remote y p).pending_releases
    own = by_if (λ (q : SideState _). AreRising q.pending_releases) (not (is_dead p y.instance) && (local_count y p == 0 && not (remote y))) _ _ (λ e. h) (λ e. h)

    others : is_same_side y.side p.side ≡ false → AreRising (drop_remote y p).pending_releases
    others o = by_if (λ (q : SideState _). AreRising q.pending_releases) (is_dead p y.instance) _ _ (λ d. h) live
      where
        once : 0 < count_in_name y (Some y) + local_count y p
        once = simp (same-refl y) (omega arith)

        live : is_dead p y.instance ≡ false → AreRising (if local_count y p == 0 then record p { pending_releases = add_release (last_release y p) p.pending_releases } else p).pending_releases
        live d = by_if (λ (q : SideState _). AreRising q.pending_releases) (local_count y p == 0) _ _ (λ e. rising-add None (last_release y p) p.pending_releases (last-release y p k (positive-live (is_dead p y.instance) (count_in_name y (Some y) + local_count y p) (released_count y p.pending_releases) (count_in_names y p.unreleased) (carried_in p.side y p.delivered) (released_in y p.sent) d once (f y o))) refl h) (λ e. h)

-- what a side keeps stays, where its messages stay and its pending releases rise
rises-by : {C : Type 0} (p q : SideState C) → Same q p → AreRising q.pending_releases → KeepsReleases p → KeepsReleases q
rises-by p q s h r = record {
  pending = h;
  sent = subst (λ l. Each HasRisingReleases l) (sym s.sent) r.sent;
  waiting = subst (λ l. Each KeepsFormat l) (sym s.undelivered) r.waiting;
  came = subst (λ l. Each KeepsFormat l) (sym s.delivered) r.came;
}

drop_next-rises : {C : Type 0} (remote : Name → Bool) (vs : List Value) (p : SideState C) → p.in_flight ≡ vs → IsSound p → KeepsReleases p → KeepsReleases (drop_next remote vs p)
drop_next-rises remote [] p e s r = r
drop_next-rises remote (v ∷ rest) p e s r =
    let q = record p { in_flight = rest } in
    rises-by q _ (drop_reference-same remote (name_of v) q) (drop_reference-rises remote (name_of v) q (λ x o. same_balances (is_dead p x.instance) _ _ _ _ _ _ _ _ _ _ (s.balances x o) (beside x v rest p e) refl refl refl refl) r.came r.pending) (record { pending = r.pending; sent = r.sent; waiting = r.waiting; came = r.came })

hand_over-rises : {C : Type 0} (vs : List Value) (p : SideState C) → p.in_flight ≡ vs → IsSound p → KeepsReleases p → KeepsReleases (hand_over vs p)
hand_over-rises [] p e s r = r
hand_over-rises (v ∷ rest) p e s r =
    let q = record p { in_flight = rest; handed_over = p.handed_over ++ v ∷ [] } in
    rises-by q _ (drop_reference-same (λ y. true) (name_of v) q) (drop_reference-rises (λ y. true) (name_of v) q (λ x o. same_balances (is_dead p x.instance) _ _ _ _ _ _ _ _ _ _ (s.balances x o) (beside x v rest p e) refl refl refl refl) r.came r.pending) (record { pending = r.pending; sent = r.sent; waiting = r.waiting; came = r.came })

drop_many-rises : {C : Type 0} (n : ℕ) (remote : Name → Bool) (p : SideState C) → IsSound p → KeepsReleases p → KeepsReleases (drop_many n remote p)
drop_many-rises zero remote p s r = r
drop_many-rises (suc n) remote p s r = drop_many-rises n remote (drop_next remote p.in_flight p) (drop_next-sound remote p.in_flight p refl s) (drop_next-rises remote p.in_flight p refl s r)

serve_deallocations-rises : {C : Type 0} (n : ℕ) (remote : Name → Bool) (ds : List Name) (p : SideState C) → IsSound p → KeepsReleases p → KeepsReleases (serve_deallocations n remote ds p)
serve_deallocations-rises zero remote ds p s r = r
serve_deallocations-rises (suc n) remote [] p s r = r
serve_deallocations-rises (suc n) remote (y ∷ rest) p s r =
    let k = length (properties_of y p.objects) in
    let t = take_out y rest p in
    let u = take_out-sound y rest p s in
    let q = drop_many k remote t in
    serve_deallocations-rises n remote q.dealloc_queue q (drop_many-sound k remote t u) (drop_many-rises k remote t u (record { pending = r.pending; sent = r.sent; waiting = r.waiting; came = r.came }))

serve_queue-rises : {C : Type 0} (remote : Name → Bool) (p : SideState C) → IsSound p → KeepsReleases p → KeepsReleases (serve_queue remote p)
serve_queue-rises remote p s r = serve_deallocations-rises (length p.objects) remote p.dealloc_queue p s r

drop_each-rises : {C : Type 0} (n : ℕ) (remote : Name → Bool) (p : SideState C) → IsSound p → KeepsReleases p → KeepsReleases (drop_each n remote p)
drop_each-rises zero remote p s r = r
drop_each-rises (suc n) remote p s r =
    let q = drop_next remote p.in_flight p in
    let t = drop_next-sound remote p.in_flight p refl s in
    drop_each-rises n remote (serve_queue remote q) (serve_deallocations-sound (length q.objects) remote q.dealloc_queue q t) (serve_queue-rises remote q t (drop_next-rises remote p.in_flight p refl s r))

-- ---- each step

put_next-pending : {C : Type 0} (place : Place) (vs : List Value) (p : SideState C) → (put_next place vs p).pending_releases ≡ p.pending_releases
put_next-pending place [] p = refl
put_next-pending (Register i) (v ∷ rest) p = refl
put_next-pending (PageRegister i) (v ∷ rest) p = refl
put_next-pending (Slot n i) (v ∷ rest) p = refl
put_next-pending (PropertyOf y key) (v ∷ rest) p = by_if (λ (q : SideState _). q.pending_releases ≡ p.pending_releases) (has_object y p.objects) _ _ (λ e. refl) (λ e. refl)
put_next-pending This (v ∷ rest) p = refl

leave_body-pending : {C : Type 0} (n : ℕ) (stack : List Frame) (p : SideState C) → (leave_body n stack p).pending_releases ≡ p.pending_releases
leave_body-pending n [] p = refl
leave_body-pending n (a ∷ rest) p = refl

add_constant-rises : {C : Type 0} (v : Value) (n : Option Name) (p : SideState C) → KeepsReleases p → KeepsReleases (add_constant v n p)
add_constant-rises v None p r = record { pending = r.pending; sent = r.sent; waiting = r.waiting; came = r.came }
add_constant-rises v (Some y) p r = r

each-push : {A : Type 0} (Keeps : A → Type 0) (xs : List A) (x : A) → Each Keeps xs → Keeps x → Each Keeps (xs ++ x ∷ [])
each-push Keeps [] x h k = (k, tt)
each-push Keeps (y ∷ xs) x h k = (h.0, each-push Keeps xs x h.1 k)

deliver_next-rises : {C : Type 0} (ms : List Message) (p : SideState C) → p.undelivered ≡ ms → KeepsReleases p → KeepsReleases (deliver_next ms p)
deliver_next-rises [] p e r = r
deliver_next-rises (m ∷ rest) p e r =
    let w : Each KeepsFormat (m ∷ rest) = subst (λ l. Each KeepsFormat l) e r.waiting in
    record { pending = r.pending; sent = r.sent; waiting = w.1; came = each-push KeepsFormat p.delivered m r.came w.0 }

-- the same, where these lists are equal
alike : {C : Type 0} (p q : SideState C) → q.pending_releases ≡ p.pending_releases → q.sent ≡ p.sent → q.undelivered ≡ p.undelivered → q.delivered ≡ p.delivered → KeepsReleases p → KeepsReleases q
alike p q a b c d r = record {
  pending = subst AreRising (sym a) r.pending;
  sent = subst (λ l. Each HasRisingReleases l) (sym b) r.sent;
  waiting = subst (λ l. Each KeepsFormat l) (sym c) r.waiting;
  came = subst (λ l. Each KeepsFormat l) (sym d) r.came;
}

pub step-rises : {C : Type 0} (remote : Name → Bool) (step : Step) (p : SideState C) → IsSound p → KeepsReleases p → KeepsReleases (run_step remote step p)
step-rises remote (Copy place) p s r = alike p _ refl refl refl refl r
step-rises remote (Constant v) p s r = add_constant-rises v (name_of v) p r
step-rises remote (Put place) p s r = rises-by p _ (put_next-same place p.in_flight p) (subst AreRising (sym (put_next-pending place p.in_flight p)) r.pending) r
step-rises remote (Remove y key) p s r = alike p _ refl refl refl refl r
step-rises remote Drop p s r = drop_next-rises remote p.in_flight p refl s r
step-rises remote (DropEach n) p s r = drop_each-rises n remote p s r
step-rises remote (MoveAfter n) p s r = alike p _ refl refl refl refl r
step-rises remote (Create n class) p s r = by_if KeepsReleases (is_begun n p.instances) _ _ (λ e. alike p _ refl refl refl refl r) (λ e. r)
step-rises remote (Enter n entry) p s r = alike p _ refl refl refl refl r
step-rises remote (Leave n) p s r = rises-by p _ (leave_body-same n p.frames p) (subst AreRising (sym (leave_body-pending n p.frames p)) r.pending) r
step-rises remote (Advance n) p s r = alike p _ refl refl refl refl r
step-rises remote (SetFlag b) p s r = alike p _ refl refl refl refl r
step-rises remote (NoteException text) p s r = alike p _ refl refl refl refl r
step-rises remote (Await how) p s r = alike p _ refl refl refl refl r
step-rises remote Resume p s r = alike p _ refl refl refl refl r
step-rises remote HandOver p s r = hand_over-rises p.in_flight p refl s r
step-rises remote Deliver p s r = deliver_next-rises p.undelivered p refl r
step-rises remote Sweep p s r = alike p _ refl refl refl refl r
step-rises remote Deallocate p s r = serve_queue-rises remote p s r
step-rises remote (Begin n) p s r = alike p _ refl refl refl refl r
step-rises remote (MarkDestroying n) p s r = alike p _ refl refl refl refl r
step-rises remote (TearDown n) p s r = by_if KeepsReleases (is_begun n p.instances) _ _ (λ e. record { pending = without-rises n p.pending_releases r.pending; sent = r.sent; waiting = r.waiting; came = r.came }) (λ e. r)
step-rises remote (File file) p s r = alike p _ refl refl refl refl r
step-rises remote (Print line) p s r = alike p _ refl refl refl refl r

send_payload-rises : {C : Type 0} (depth : Depth) (o : Option Payload) (p : SideState C) → KeepsReleases p → KeepsReleases (send_payload depth o p)
send_payload-rises depth None p r = r
send_payload-rises depth (Some body) p r = record {
  pending = drop-rises 1024 p.pending_releases r.pending;
  sent = each-push HasRisingReleases p.sent _ r.sent (record { few = take-few 1024 p.pending_releases; rising = take-rises 1024 p.pending_releases r.pending });
  waiting = r.waiting;
  came = r.came;
}

pub sends-rise : {C : Type 0} (o : Option Sending) (p : SideState C) → KeepsReleases p → KeepsReleases (send_draft o p)
sends-rise None p r = r
sends-rise (Some m) p r = send_payload-rises m.depth (draft_payload (other_side p.side) m.draft p.handed_over) p r

pub examine-rises : {C : Type 0} (m : Message) (p : SideState C) → KeepsFormat m → KeepsReleases p → KeepsReleases (examine m p)
examine-rises m p k r = record { pending = r.pending; sent = r.sent; waiting = (k, r.waiting); came = r.came }

-- ---- one side alone

-- what holds of a side at each state
record Orderly {C : Type 0} (p : SideState C) : Type 0 where
  sound : IsSound p
  rises : KeepsReleases p

steps-orderly : {C : Type 0} (remote : RemoteTest C) (steps : List Step) (p : SideState C) → Orderly p → Orderly (run_steps remote steps p)
steps-orderly remote [] p o = o
steps-orderly remote (step ∷ steps) p o = steps-orderly remote steps (run_step (remote p) step p) (record { sound = step-sound (remote p) step p o.sound; rises = step-rises (remote p) step p o.sound o.rises })

plan-orderly : {C : Type 0} (remote : RemoteTest C) (plan : Plan C) (p : SideState C) → Orderly p → KeepsReleases (run_plan remote plan p)
plan-orderly remote plan p o =
    let t = sends-rise plan.sends (run_steps remote plan.steps p) (steps-orderly remote plan.steps p o).rises in
    record { pending = t.pending; sent = t.sent; waiting = t.waiting; came = t.came }

each-first : (k : ℕ) (ms : List Message) (m : Message) → Each KeepsFormat ms → first (drop k ms) ≡ Some m → KeepsFormat m
each-first zero [] m h e = cc
each-first zero (x ∷ ms) m h e = let x' : x ≡ m = cc in subst KeepsFormat x' h.0
each-first (suc k) [] m h e = cc
each-first (suc k) (x ∷ ms) m h e = each-first k ms m h.1 e

turn-rises : {C : Type 0} (remote : RemoteTest C) (S : Plans C) (got : List Message) (p : SideState C) → Each KeepsFormat got → Orderly p → KeepsReleases (turn remote S got p)
turn-rises remote S got p format o = at (S.pace p)
  where
    met : (m : Message) → KeepsFormat m → (meeting : Meeting _) → KeepsReleases (meets remote p m meeting)
    met m k (Accepts plan) = plan-orderly remote plan (examine m p) (record { sound = examine-sound m p o.sound; rises = examine-rises m p k o.rises })
    met m k (Refuses rule a b) = o.rises

    heard : (n : Option Message) → next_message got p ≡ n → KeepsReleases (listens remote S p n)
    heard None e = o.rises
    heard (Some m) e = met m (each-first (length p.examined) got m format e) (S.meet p m)

    at : (pace : Pace) → KeepsReleases (turn_at remote S got p pace)
    at Acts = plan-orderly remote (S.go p) p o
    at Awaits = heard (next_message got p) refl
    at HasEnded = o.rises
    at (Stops r) = o.rises

pub start-rises : {C : Type 0} (side : Side) (c : C) → KeepsReleases (at_start side c)
start-rises side c = record { pending = tt; sent = tt; waiting = tt; came = tt }

pub endpoint-rises : {C : Type 0} (S : Plans C) (got : List Message) (n : ℕ) (side : Side) (c : C) → Each KeepsFormat got → KeepsReleases (endpoint_run S got n (at_start side c))
endpoint-rises S got zero side c format = start-rises side c
endpoint-rises S got (suc n) side c format = turn-rises is_remote_by_messages S got (endpoint_run S got n (at_start side c)) format (record { sound = endpoint-sound S got n side c; rises = endpoint-rises S got n side c format })
