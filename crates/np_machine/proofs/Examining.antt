-- What a side examined is a beginning of the messages that came.
use Rattle.std.proofs.Common.{◌≡◌, ℕ, zero, suc, List, [], ◌∷◌, ◌++◌, length, refl, sym, ap, ◌∙◌, subst, append_assoc, drop, Option, Some, None, Bool, true}
use Rattle.std.proofs.lemmas.List.{drop_at}
use Rattle.np_message.specs.Message.{Message}
use Rattle.np_values.specs.declared.name.Side.{Side as Sides}
use Rattle.np_values.specs.declared.name.Name.{Name}
use Rattle.np_values.specs.declared.value.Value.{Value}
use Rattle.np_message.specs.declared.depth.Depth.{Depth}
use Rattle.np_message.specs.declared.payload.Payload.{Payload}
use Rattle.np_machine.specs.References.{other_side, name_of}
use Rattle.np_machine.specs.Side.{SideState, at_start}
use Rattle.np_machine.specs.declared.draft.Sending.{Sending}
use Rattle.np_machine.specs.declared.step.Step.{Step}
use Rattle.np_machine.specs.declared.step.Step.TheVariants.{Copy, Constant, Put, Remove, Drop, DropEach, MoveAfter, Create, Enter, Leave, Advance, SetFlag, NoteException, Await, Resume, HandOver, Deliver, Sweep, Deallocate, Begin, MarkDestroying, TearDown, File, Print}
use Rattle.np_machine.specs.Steps.{add_constant, run_step, run_steps}
use Rattle.np_machine.specs.Messages.{hand_over, draft_payload, send_payload, deliver_next, send_draft, examine}
use Rattle.np_machine.specs.Instances.{is_begun}
use Rattle.np_machine.specs.Plan.{Plan, run_plan, Pace, Acts, Awaits, HasEnded, Stops, Meeting, Accepts, Refuses, Plans}
use Rattle.np_machine.specs.Turn.{RemoteTest, is_remote_by_messages, first, next_message, meets, listens, turn_at, turn, endpoint_run}
use Rattle.np_machine.proofs.BalanceLemmas.{by_if}
use Rattle.np_machine.proofs.Untouched.{drop_each-same, drop_next-same, drop_reference-same, leave_body-same, put_next-same, serve_deallocations-same}
use Rattle.np_machine.proofs.Growing.{Extends}

hand_over-examined : {C : Type 0} (vs : List Value) (p : SideState C) → (hand_over vs p).examined ≡ p.examined
hand_over-examined [] p = refl
hand_over-examined (v ∷ rest) p = (drop_reference-same (λ y. true) (name_of v) (record p { in_flight = rest; handed_over = p.handed_over ++ v ∷ [] })).examined

send_payload-examined : {C : Type 0} (depth : Depth) (o : Option Payload) (p : SideState C) → (send_payload depth o p).examined ≡ p.examined
send_payload-examined depth None p = refl
send_payload-examined depth (Some body) p = refl

deliver-examined : {C : Type 0} (ms : List Message) (p : SideState C) → (deliver_next ms p).examined ≡ p.examined
deliver-examined [] p = refl
deliver-examined (m ∷ rest) p = refl

add_constant-examined : {C : Type 0} (v : Value) (n : Option Name) (p : SideState C) → (add_constant v n p).examined ≡ p.examined
add_constant-examined v None p = refl
add_constant-examined v (Some y) p = refl

pub step-examined : {C : Type 0} (remote : Name → Bool) (step : Step) (p : SideState C) → (run_step remote step p).examined ≡ p.examined
step-examined remote (Copy place) p = refl
step-examined remote (Constant v) p = add_constant-examined v (name_of v) p
step-examined remote (Put place) p = (put_next-same place p.in_flight p).examined
step-examined remote (Remove y key) p = refl
step-examined remote Drop p = (drop_next-same remote p.in_flight p).examined
step-examined remote (DropEach n) p = (drop_each-same n remote p).examined
step-examined remote (MoveAfter n) p = refl
step-examined remote (Create n class) p = by_if (λ (q : SideState _). q.examined ≡ p.examined) (is_begun n p.instances) _ _ (λ e. refl) (λ e. refl)
step-examined remote (Enter n entry) p = refl
step-examined remote (Leave n) p = (leave_body-same n p.frames p).examined
step-examined remote (Advance n) p = refl
step-examined remote (SetFlag b_) p = refl
step-examined remote (NoteException text) p = refl
step-examined remote (Await how) p = refl
step-examined remote Resume p = refl
step-examined remote HandOver p = hand_over-examined p.in_flight p
step-examined remote Deliver p = deliver-examined p.undelivered p
step-examined remote Sweep p = refl
step-examined remote Deallocate p = (serve_deallocations-same (length p.objects) remote p.dealloc_queue p).examined
step-examined remote (Begin n) p = refl
step-examined remote (MarkDestroying n) p = refl
step-examined remote (TearDown n) p = by_if (λ (q : SideState _). q.examined ≡ p.examined) (is_begun n p.instances) _ _ (λ e. refl) (λ e. refl)
step-examined remote (File file) p = refl
step-examined remote (Print line) p = refl

steps-examined : {C : Type 0} (remote : RemoteTest C) (steps : List Step) (p : SideState C) → (run_steps remote steps p).examined ≡ p.examined
steps-examined remote [] p = refl
steps-examined remote (step ∷ steps) p = steps-examined remote steps (run_step (remote p) step p) ∙ step-examined (remote p) step p

pub sends-examined : {C : Type 0} (o : Option Sending) (p : SideState C) → (send_draft o p).examined ≡ p.examined
sends-examined None p = refl
sends-examined (Some m) p = send_payload-examined m.depth (draft_payload (other_side p.side) m.draft p.handed_over) p

plan-examined : {C : Type 0} (remote : RemoteTest C) (plan : Plan C) (p : SideState C) → (run_plan remote plan p).examined ≡ p.examined
plan-examined remote plan p = sends-examined plan.sends (run_steps remote plan.steps p) ∙ steps-examined remote plan.steps p

pub first-is : (l : List Message) (m : Message) → first l ≡ Some m → (rest : List Message) × (l ≡ m ∷ rest)
first-is [] m e = cc
first-is (x ∷ l) m e = (l, cc)

-- the next message comes after those that were examined
next-is : (examined got : List Message) (m : Message) → Extends examined got → first (drop (length examined) got) ≡ Some m → (later : List Message) × (got ≡ examined ++ m ∷ later)
next-is examined got m f e =
    let rest = first-is f.more m (ap first (sym (drop_at examined f.more (length examined) refl) ∙ ap (λ l. drop (length examined) l) (sym f.is)) ∙ e) in
    (rest.0, f.is ∙ ap (λ l. examined ++ l) rest.1)

-- what a side examined is still a beginning of what came after its turn
turn-examined : {C : Type 0} (S : Plans C) (got : List Message) (p : SideState C) → Extends p.examined got → Extends (turn is_remote_by_messages S got p).examined got
turn-examined S got p f = at (S.pace p)
  where
    met : (m : Message) → next_message got p ≡ Some m → (meeting : Meeting _) → Extends (meets is_remote_by_messages p m meeting).examined got
    met m e (Accepts plan) =
        let next = next-is p.examined got m f e in
        let is : got ≡ p.examined ++ m ∷ [] ++ next.0 = next.1 ∙ sym (append_assoc p.examined (m ∷ []) next.0) in
        subst (λ l. Extends l got) (sym (plan-examined is_remote_by_messages plan (examine m p))) (record { more = next.0; is = is })
    met m e (Refuses rule first second) = f

    heard : (o : Option Message) → next_message got p ≡ o → Extends (listens is_remote_by_messages S p o).examined got
    heard None e = f
    heard (Some m) e = met m e (S.meet p m)

    at : (pace : Pace) → Extends (turn_at is_remote_by_messages S got p pace).examined got
    at Acts = subst (λ l. Extends l got) (sym (plan-examined is_remote_by_messages (S.go p) p)) f
    at Awaits = heard (next_message got p) refl
    at HasEnded = f
    at (Stops r) = f

pub endpoint-examined : {C : Type 0} (S : Plans C) (got : List Message) (n : ℕ) (side : Sides) (c : C) → Extends (endpoint_run S got n (at_start side c)).examined got
endpoint-examined S got zero side c = record { more = got; is = refl }
endpoint-examined S got (suc n) side c = turn-examined S got (endpoint_run S got n (at_start side c)) (endpoint-examined S got n side c)
