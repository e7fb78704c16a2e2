-- A plan delivers messages from the front of those that wait.
use Rattle.std.proofs.Common.{◌≡◌, ℕ, zero, suc, ◌+◌, List, [], ◌∷◌, ◌++◌, length, Bool, true, refl, sym, ap, ◌∙◌, arith, drop, Option, Some, None}
use Rattle.np_values.specs.declared.name.Name.{Name}
use Rattle.np_values.specs.declared.value.Value.{Value}
use Rattle.np_message.specs.declared.payload.Payload.{Payload}
use Rattle.np_message.specs.Message.{Message}
use Rattle.np_machine.specs.References.{other_side, name_of}
use Rattle.np_machine.specs.Side.{SideState}
use Rattle.np_machine.specs.declared.draft.Sending.{Sending}
use Rattle.np_machine.specs.declared.step.Step.{Step}
use Rattle.np_machine.specs.declared.step.Step.TheVariants.{Copy, Constant, Put, Remove, Drop, DropEach, MoveAfter, Create, Enter, Leave, Advance, SetFlag, NoteException, Await, Resume, HandOver, Deliver, Sweep, Deallocate, Begin, MarkDestroying, TearDown, File, Print}
use Rattle.np_machine.specs.Messages.{hand_over, draft_payload, send_payload, deliver_next, send_draft}
use Rattle.np_machine.specs.Instances.{is_begun}
use Rattle.np_machine.specs.Steps.{add_constant, run_step, run_steps}
use Rattle.np_machine.specs.Plan.{Plan, run_plan}
use Rattle.np_machine.specs.Turn.{RemoteTest}
use Rattle.np_machine.proofs.BalanceLemmas.{by_if}
use Rattle.np_machine.proofs.Untouched.{drop_each-same, drop_next-same, drop_reference-same, leave_body-same, put_next-same, serve_deallocations-same}

drop-nil : {A : Type 0} (n : ℕ) (l : List A) → l ≡ [] → drop n l ≡ []
drop-nil zero l e = e
drop-nil (suc n) [] e = refl
drop-nil (suc n) (x ∷ l) e = cc

drop-drop : {A : Type 0} (j k : ℕ) (l : List A) → drop j (drop k l) ≡ drop (j + k) l
drop-drop j zero l = let e : j ≡ j + 0 = omega arith in ap (λ n. drop n l) e
drop-drop j (suc k) [] = drop-nil j [] refl ∙ sym (drop-nil (j + suc k) [] refl)
drop-drop j (suc k) (x ∷ l) = let e : suc (j + k) ≡ j + suc k = omega arith in drop-drop j k l ∙ ap (λ n. drop n (x ∷ l)) e

hand_over-same : {C : Type 0} (vs : List Value) (p : SideState C) → (hand_over vs p).undelivered ≡ p.undelivered
hand_over-same [] p = refl
hand_over-same (v ∷ rest) p = (drop_reference-same (λ y. true) (name_of v) (record p { in_flight = rest; handed_over = p.handed_over ++ v ∷ [] })).undelivered

deliver-drops : {C : Type 0} (ms : List Message) (p : SideState C) → p.undelivered ≡ ms → (deliver_next ms p).undelivered ≡ drop 1 ms
deliver-drops [] p e = e
deliver-drops (m ∷ rest) p e = refl

add_constant-same : {C : Type 0} (v : Value) (n : Option Name) (p : SideState C) → (add_constant v n p).undelivered ≡ p.undelivered
add_constant-same v None p = refl
add_constant-same v (Some y) p = refl

step-drops : {C : Type 0} (remote : Name → Bool) (step : Step) (p : SideState C) → (k : ℕ) × ((run_step remote step p).undelivered ≡ drop k p.undelivered)
step-drops remote (Copy place) p = (0, refl)
step-drops remote (Constant v) p = (0, add_constant-same v (name_of v) p)
step-drops remote (Put place) p = (0, (put_next-same place p.in_flight p).undelivered)
step-drops remote (Remove y key) p = (0, refl)
step-drops remote Drop p = (0, (drop_next-same remote p.in_flight p).undelivered)
step-drops remote (DropEach n) p = (0, (drop_each-same n remote p).undelivered)
step-drops remote (MoveAfter n) p = (0, refl)
step-drops remote (Create n class) p = (0, by_if (λ (q : SideState _). q.undelivered ≡ p.undelivered) (is_begun n p.instances) _ _ (λ f. refl) (λ f. refl))
step-drops remote (Enter n entry) p = (0, refl)
step-drops remote (Leave n) p = (0, (leave_body-same n p.frames p).undelivered)
step-drops remote (Advance n) p = (0, refl)
step-drops remote (SetFlag b_) p = (0, refl)
step-drops remote (NoteException text) p = (0, refl)
step-drops remote (Await how) p = (0, refl)
step-drops remote Resume p = (0, refl)
step-drops remote HandOver p = (0, hand_over-same p.in_flight p)
step-drops remote Deliver p = (1, deliver-drops p.undelivered p refl)
step-drops remote Sweep p = (0, refl)
step-drops remote Deallocate p = (0, (serve_deallocations-same (length p.objects) remote p.dealloc_queue p).undelivered)
step-drops remote (Begin n) p = (0, refl)
step-drops remote (MarkDestroying n) p = (0, refl)
step-drops remote (TearDown n) p = (0, by_if (λ (q : SideState _). q.undelivered ≡ p.undelivered) (is_begun n p.instances) _ _ (λ f. refl) (λ f. refl))
step-drops remote (File file) p = (0, refl)
step-drops remote (Print line) p = (0, refl)

steps-drop : {C : Type 0} (remote : RemoteTest C) (steps : List Step) (p : SideState C) → (k : ℕ) × ((run_steps remote steps p).undelivered ≡ drop k p.undelivered)
steps-drop remote [] p = (0, refl)
steps-drop remote (step ∷ steps) p =
    let a = step-drops (remote p) step p in
    let b = steps-drop remote steps (run_step (remote p) step p) in
    (b.0 + a.0, b.1 ∙ ap (λ (l : List Message). drop b.0 l) a.1 ∙ drop-drop b.0 a.0 p.undelivered)

sends-same : {C : Type 0} (o : Option Sending) (p : SideState C) → (send_draft o p).undelivered ≡ p.undelivered
sends-same None p = refl
sends-same (Some m) p = sent (draft_payload (other_side p.side) m.draft p.handed_over)
  where
    sent : (o : Option Payload) → (send_payload m.depth o p).undelivered ≡ p.undelivered
    sent None = refl
    sent (Some body) = refl

pub plan-drops : {C : Type 0} (remote : RemoteTest C) (plan : Plan C) (p : SideState C) → (k : ℕ) × ((run_plan remote plan p).undelivered ≡ drop k p.undelivered)
plan-drops remote plan p =
    let a = steps-drop remote plan.steps p in
    (a.0, sends-same plan.sends (run_steps remote plan.steps p) ∙ a.1)
