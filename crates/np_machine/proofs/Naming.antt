-- Each step keeps the names of a side's objects in order, and no last serial falls.
use Rattle.std.proofs.Common.{◌≡◌, ℕ, zero, suc, ◌+◌, ◌≤◌, List, [], ◌∷◌, ◌++◌, length, Bool, true, false, ◌&&◌, refl, sym, ap, ◌∙◌, subst, arith, Option, Some, None}
use Rattle.std.specs.Prelude.{◌==◌, not}
use Rattle.np_values.specs.declared.name.Side.{Side}
use Rattle.np_values.specs.declared.name.Name.{Name}
use Rattle.np_values.specs.declared.value.Value.{Value}
use Rattle.np_values.specs.Name.{is_same_side}
use Rattle.np_life.specs.declared.phase.Phase.TheVariants.{Live, Dead}
use Rattle.np_message.specs.declared.depth.Depth.{Depth}
use Rattle.np_message.specs.declared.payload.Payload.{Payload}
use Rattle.np_message.specs.Message.{Message}
use Rattle.np_message.specs.Rules.{Each}
use Rattle.np_machine.specs.declared.object.Object.{Object}
use Rattle.np_machine.specs.declared.frame.Frame.{Frame}
use Rattle.np_machine.specs.declared.place.Place.{Place}
use Rattle.np_machine.specs.declared.place.Place.TheVariants.{Register, PageRegister, Slot, PropertyOf, This}
use Rattle.np_machine.specs.declared.draft.Sending.{Sending}
use Rattle.np_machine.specs.declared.step.Step.{Step}
use Rattle.np_machine.specs.declared.step.Step.TheVariants.{Copy, Constant, Put, Remove, Drop, DropEach, MoveAfter, Create, Enter, Leave, Advance, SetFlag, NoteException, Await, Resume, HandOver, Deliver, Sweep, Deallocate, Begin, MarkDestroying, TearDown, File, Print}
use Rattle.np_machine.specs.References.{is_same_name, other_side, name_of}
use Rattle.np_machine.specs.Values.{voids, put_at}
use Rattle.np_machine.specs.Instances.{is_begun, serial_in, with_serial, slots_in}
use Rattle.np_machine.specs.Objects.{properties_of, put_property, without_property, has_object}
use Rattle.np_machine.specs.Side.{SideState, local_count, is_dead, at_start}
use Rattle.np_machine.specs.Places.{put_next}
use Rattle.np_machine.specs.Dropping.{drop_remote, drop_local, drop_reference, drop_next, drop_many}
use Rattle.np_machine.specs.Deallocation.{take_out, serve_deallocations, serve_queue, drop_each}
use Rattle.np_machine.specs.Messages.{hand_over, draft_payload, send_payload, send_draft, examine, deliver_next}
use Rattle.np_machine.specs.Steps.{add_constant, create_object, leave_body, run_step, run_steps}
use Rattle.np_machine.specs.Plan.{Plan, run_plan, Pace, Acts, Awaits, HasEnded, Stops, Meeting, Accepts, Refuses, Plans}
use Rattle.np_machine.specs.Turn.{RemoteTest, is_remote_by_messages, next_message, meets, listens, turn_at, turn, endpoint_run}
use Rattle.np_machine.specs.Naming.{object_names, AreOrdered, IsGiven, KeepsNames}
use Rattle.np_machine.proofs.NameLemmas.{same_side-refl, same-is}
use Rattle.np_machine.proofs.BalanceLemmas.{by_if}
use Rattle.np_machine.proofs.NameOrder.{insert-ordered, insert-each, without-ordered, without-each, each-implies, with_properties-names}
use Rattle.np_machine.proofs.Serials.{slots-serial, phase-serial, destroy-serial, begun-serial, with_serial-own, with_serial-more}

-- no last serial falls from p to q, and the names stay in order
pub record NamesStay {C : Type 0} (p q : SideState C) : Type 0 where
  pub serials : (n : ℕ) → serial_in n p.instances ≤ serial_in n q.instances
  pub keeps : KeepsNames p → KeepsNames q

stay-same : {C : Type 0} (p : SideState C) → NamesStay p p
stay-same p = record { serials = λ n. omega arith; keeps = λ k. k }

stay-trans : {C : Type 0} (p q r : SideState C) → NamesStay p q → NamesStay q r → NamesStay p r
stay-trans p q r f g = record { serials = λ n. omega (arith, f.serials n, g.serials n); keeps = λ k. g.keeps (f.keeps k) }

-- the names and the last serials are equal
alike : {C : Type 0} (p q : SideState C) → object_names q.objects ≡ object_names p.objects → ((n : ℕ) → serial_in n q.instances ≡ serial_in n p.instances) → q.side ≡ p.side → NamesStay p q
alike p q a b c = record { serials = λ n. omega (arith, b n); keeps = λ k. record { ordered = subst AreOrdered (sym a) k.ordered; given = subst (λ l. Each (λ y. IsGiven q.side q.instances y) l) (sym a) (each-implies (λ y. IsGiven p.side p.instances y) (λ y. IsGiven q.side q.instances y) (object_names p.objects) (λ y g. still y g) k.given) } }
  where
    still : (y : Name) → IsGiven p.side p.instances y → IsGiven q.side q.instances y
    still y g = record { own = ap (λ s. is_same_side y.side s) c ∙ g.own; serial = omega (arith, g.serial, b y.instance) }

-- ---- references are dropped, objects are deallocated

drop_reference-names : {C : Type 0} (remote : Name → Bool) (n : Option Name) (p : SideState C) → NamesStay p (drop_reference remote n p)
drop_reference-names remote None p = stay-same p
drop_reference-names remote (Some y) p = by_if (λ q. NamesStay p q) (is_same_side y.side p.side) _ _ (λ e. own) (λ e. others)
  where
    own : NamesStay p (drop_local remote y p)
    own = by_if (λ q. NamesStay p q) (not (is_dead p y.instance) && (local_count y p == 0 && not (remote y))) _ _ (λ e. alike p _ refl (λ n. refl) refl) (λ e. stay-same p)

    others : NamesStay p (drop_remote y p)
    others = by_if (λ q. NamesStay p q) (is_dead p y.instance) _ _ (λ e. stay-same p) (λ e. by_if (λ q. NamesStay p q) (local_count y p == 0) _ _ (λ f. alike p _ refl (λ n. refl) refl) (λ f. stay-same p))

drop_next-names : {C : Type 0} (remote : Name → Bool) (vs : List Value) (p : SideState C) → NamesStay p (drop_next remote vs p)
drop_next-names remote [] p = stay-same p
drop_next-names remote (v ∷ rest) p =
    let q = record p { in_flight = rest } in stay-trans p q _ (alike p q refl (λ n. refl) refl) (drop_reference-names remote (name_of v) q)

hand_over-names : {C : Type 0} (vs : List Value) (p : SideState C) → NamesStay p (hand_over vs p)
hand_over-names [] p = stay-same p
hand_over-names (v ∷ rest) p =
    let q = record p { in_flight = rest; handed_over = p.handed_over ++ v ∷ [] } in stay-trans p q _ (alike p q refl (λ n. refl) refl) (drop_reference-names (λ y. true) (name_of v) q)

drop_many-names : {C : Type 0} (n : ℕ) (remote : Name → Bool) (p : SideState C) → NamesStay p (drop_many n remote p)
drop_many-names zero remote p = stay-same p
drop_many-names (suc n) remote p =
    let q = drop_next remote p.in_flight p in stay-trans p q _ (drop_next-names remote p.in_flight p) (drop_many-names n remote q)

take_out-names : {C : Type 0} (y : Name) (rest : List Name) (p : SideState C) → NamesStay p (take_out y rest p)
take_out-names y rest p = record { serials = λ n. omega arith; keeps = λ k. record { ordered = without-ordered y p.objects k.ordered; given = without-each (λ x. IsGiven p.side p.instances x) y p.objects k.given } }

serve_deallocations-names : {C : Type 0} (n : ℕ) (remote : Name → Bool) (queue : List Name) (p : SideState C) → NamesStay p (serve_deallocations n remote queue p)
serve_deallocations-names zero remote queue p = stay-same p
serve_deallocations-names (suc n) remote [] p = stay-same p
serve_deallocations-names (suc n) remote (y ∷ rest) p =
    let t = take_out y rest p in
    let k = length (properties_of y p.objects) in
    let q = drop_many k remote t in
    stay-trans p q _ (stay-trans p t q (take_out-names y rest p) (drop_many-names k remote t)) (serve_deallocations-names n remote q.dealloc_queue q)

serve_queue-names : {C : Type 0} (remote : Name → Bool) (p : SideState C) → NamesStay p (serve_queue remote p)
serve_queue-names remote p = serve_deallocations-names (length p.objects) remote p.dealloc_queue p

drop_each-names : {C : Type 0} (n : ℕ) (remote : Name → Bool) (p : SideState C) → NamesStay p (drop_each n remote p)
drop_each-names zero remote p = stay-same p
drop_each-names (suc n) remote p =
    let q = drop_next remote p.in_flight p in
    let d = serve_queue remote q in
    stay-trans p d _ (stay-trans p q d (drop_next-names remote p.in_flight p) (serve_queue-names remote q)) (drop_each-names n remote d)

-- ---- an object is made

create_object-names : {C : Type 0} (n class : ℕ) (p : SideState C) → is_begun n p.instances ≡ true → NamesStay p (create_object (record { side = p.side; instance = n; serial = serial_in n p.instances + 1 }) class p)
create_object-names n class p begun = record { serials = λ m. more m; keeps = λ k. record { ordered = insert-ordered made p.objects (each-implies (λ x. IsGiven p.side p.instances x) (λ x. is_same_name new x ≡ false) (object_names p.objects) (λ x g. fresh x g.serial) k.given) k.ordered; given = insert-each (λ x. IsGiven p.side (with_serial n (serial_in n p.instances + 1) p.instances) x) made p.objects (record { own = same_side-refl p.side; serial = omega (arith, with_serial-own n (serial_in n p.instances + 1) p.instances begun) }) (each-implies (λ x. IsGiven p.side p.instances x) (λ x. IsGiven p.side (with_serial n (serial_in n p.instances + 1) p.instances) x) (object_names p.objects) (λ x g. record { own = g.own; serial = omega (arith, g.serial, more x.instance) }) k.given) } }
  where
    new : Name
    new = record { side = p.side; instance = n; serial = serial_in n p.instances + 1 }

    made : Object
    made = record { name = new; class = class; properties = [] }

    more : (m : ℕ) → serial_in m p.instances ≤ serial_in m (with_serial n (serial_in n p.instances + 1) p.instances)
    more m = with_serial-more m n (serial_in n p.instances + 1) p.instances (omega arith)

    fresh : (x : Name) → x.serial ≤ serial_in x.instance p.instances → is_same_name new x ≡ false
    fresh x l = go (is_same_name new x) refl
      where
        go : (b : Bool) → is_same_name new x ≡ b → is_same_name new x ≡ false
        go true e = let l' = subst (λ (y : Name). y.serial ≤ serial_in y.instance p.instances) (sym (same-is new x e)) l in absurd (omega (arith, l'))
        go false e = e

-- ---- each step

put_next-names : {C : Type 0} (place : Place) (vs : List Value) (p : SideState C) → NamesStay p (put_next place vs p)
put_next-names place [] p = stay-same p
put_next-names (Register i) (v ∷ rest) p = alike p _ refl (λ n. refl) refl
put_next-names (PageRegister i) (v ∷ rest) p = alike p _ refl (λ n. refl) refl
put_next-names (Slot m i) (v ∷ rest) p = alike p _ refl (λ n. slots-serial n m (put_at i v (slots_in m p.instances)) p.instances) refl
put_next-names (PropertyOf y key) (v ∷ rest) p = by_if (λ q. NamesStay p q) (has_object y p.objects) _ _ (λ e. alike p _ (with_properties-names y (put_property key v (properties_of y p.objects)) p.objects) (λ n. refl) refl) (λ e. stay-same p)
put_next-names This (v ∷ rest) p = stay-same p

leave_body-names : {C : Type 0} (n : ℕ) (stack : List Frame) (p : SideState C) → NamesStay p (leave_body n stack p)
leave_body-names n [] p = stay-same p
leave_body-names n (a ∷ rest) p = alike p _ refl (λ m. refl) refl

add_constant-names : {C : Type 0} (v : Value) (n : Option Name) (p : SideState C) → NamesStay p (add_constant v n p)
add_constant-names v None p = alike p _ refl (λ m. refl) refl
add_constant-names v (Some y) p = stay-same p

deliver_next-names : {C : Type 0} (ms : List Message) (p : SideState C) → NamesStay p (deliver_next ms p)
deliver_next-names [] p = stay-same p
deliver_next-names (m ∷ rest) p = alike p _ refl (λ n. refl) refl

pub step-names : {C : Type 0} (remote : Name → Bool) (step : Step) (p : SideState C) → NamesStay p (run_step remote step p)
step-names remote (Copy place) p = alike p _ refl (λ m. refl) refl
step-names remote (Constant v) p = add_constant-names v (name_of v) p
step-names remote (Put place) p = put_next-names place p.in_flight p
step-names remote (Remove y key) p = alike p _ (with_properties-names y (without_property key (properties_of y p.objects)) p.objects) (λ m. refl) refl
step-names remote Drop p = drop_next-names remote p.in_flight p
step-names remote (DropEach n) p = drop_each-names n remote p
step-names remote (MoveAfter n) p = alike p _ refl (λ m. refl) refl
step-names remote (Create n class) p = by_if (λ q. NamesStay p q) (is_begun n p.instances) _ _ (λ e. create_object-names n class p e) (λ e. stay-same p)
step-names remote (Enter n entry) p = alike p _ refl (λ m. refl) refl
step-names remote (Leave n) p = leave_body-names n p.frames p
step-names remote (Advance n) p = alike p _ refl (λ m. refl) refl
step-names remote (SetFlag b) p = alike p _ refl (λ m. refl) refl
step-names remote (NoteException text) p = alike p _ refl (λ m. refl) refl
step-names remote (Await how) p = alike p _ refl (λ m. refl) refl
step-names remote Resume p = alike p _ refl (λ m. refl) refl
step-names remote HandOver p = hand_over-names p.in_flight p
step-names remote Deliver p = deliver_next-names p.undelivered p
step-names remote Sweep p = alike p _ refl (λ m. refl) refl
step-names remote Deallocate p = serve_queue-names remote p
step-names remote (Begin n) p = alike p _ refl (λ m. begun-serial m n Live (voids 9) p.instances) refl
step-names remote (MarkDestroying n) p = alike p _ refl (λ m. destroy-serial m n p.instances) refl
step-names remote (TearDown n) p = by_if (λ q. NamesStay p q) (is_begun n p.instances) _ _ (λ e. alike p _ refl (λ m. phase-serial m n Dead p.instances) refl) (λ e. stay-same p)
step-names remote (File file) p = alike p _ refl (λ m. refl) refl
step-names remote (Print line) p = alike p _ refl (λ m. refl) refl

-- ---- one side alone

steps-names : {C : Type 0} (remote : RemoteTest C) (steps : List Step) (p : SideState C) → NamesStay p (run_steps remote steps p)
steps-names remote [] p = stay-same p
steps-names remote (step ∷ steps) p =
    let q = run_step (remote p) step p in stay-trans p q _ (step-names (remote p) step p) (steps-names remote steps q)

send_payload-names : {C : Type 0} (depth : Depth) (o : Option Payload) (p : SideState C) → NamesStay p (send_payload depth o p)
send_payload-names depth None p = stay-same p
send_payload-names depth (Some body) p = alike p _ refl (λ m. refl) refl

pub sends-names : {C : Type 0} (o : Option Sending) (p : SideState C) → NamesStay p (send_draft o p)
sends-names None p = stay-same p
sends-names (Some m) p = send_payload-names m.depth (draft_payload (other_side p.side) m.draft p.handed_over) p

plan-names : {C : Type 0} (remote : RemoteTest C) (plan : Plan C) (p : SideState C) → NamesStay p (run_plan remote plan p)
plan-names remote plan p =
    let q = run_steps remote plan.steps p in
    let r = send_draft plan.sends q in
    stay-trans p r _ (stay-trans p q r (steps-names remote plan.steps p) (sends-names plan.sends q)) (alike r _ refl (λ m. refl) refl)

pub turn-names : {C : Type 0} (remote : RemoteTest C) (S : Plans C) (got : List Message) (p : SideState C) → NamesStay p (turn remote S got p)
turn-names remote S got p = at (S.pace p)
  where
    met : (m : Message) (meeting : Meeting _) → NamesStay p (meets remote p m meeting)
    met m (Accepts plan) = stay-trans p (examine m p) _ (alike p (examine m p) refl (λ n. refl) refl) (plan-names remote plan (examine m p))
    met m (Refuses rule a b) = stay-same p

    heard : (o : Option Message) → NamesStay p (listens remote S p o)
    heard None = stay-same p
    heard (Some m) = met m (S.meet p m)

    at : (pace : Pace) → NamesStay p (turn_at remote S got p pace)
    at Acts = plan-names remote (S.go p) p
    at Awaits = heard (next_message got p)
    at HasEnded = stay-same p
    at (Stops r) = stay-same p

pub start-names : {C : Type 0} (side : Side) (c : C) → KeepsNames (at_start side c)
start-names side c = record { ordered = tt; given = tt }

pub endpoint-names : {C : Type 0} (S : Plans C) (got : List Message) (n : ℕ) (side : Side) (c : C) → KeepsNames (endpoint_run S got n (at_start side c))
endpoint-names S got zero side c = start-names side c
endpoint-names S got (suc n) side c = (turn-names is_remote_by_messages S got (endpoint_run S got n (at_start side c))).keeps (endpoint-names S got n side c)
