-- What a side examined was delivered, or is not delivered yet.
use Rattle.std.proofs.Common.{◌≡◌, ◌+◌, List, [], ◌∷◌, ◌++◌, length, Bool, true, refl, sym, ap, subst, arith, Option, Some, None}
use Rattle.np_values.specs.declared.name.Side.{Side}
use Rattle.np_values.specs.declared.name.Name.{Name}
use Rattle.np_values.specs.declared.value.Value.{Value}
use Rattle.np_message.specs.declared.depth.Depth.{Depth}
use Rattle.np_message.specs.declared.payload.Payload.{Payload}
use Rattle.np_message.specs.Message.{Message}
use Rattle.np_machine.specs.References.{other_side, name_of, references_to, released_count, references_in, carried_in, released_in}
use Rattle.np_machine.specs.Side.{SideState}
use Rattle.np_machine.specs.Instances.{is_begun}
use Rattle.np_machine.specs.declared.draft.Sending.{Sending}
use Rattle.np_machine.specs.declared.step.Step.{Step}
use Rattle.np_machine.specs.declared.step.Step.TheVariants.{Copy, Constant, Put, Remove, Drop, DropEach, MoveAfter, Create, Enter, Leave, Advance, SetFlag, NoteException, Await, Resume, HandOver, Deliver, Sweep, Deallocate, Begin, MarkDestroying, TearDown, File, Print}
use Rattle.np_machine.specs.Messages.{hand_over, draft_payload, send_payload, deliver_next, send_draft}
use Rattle.np_machine.specs.Steps.{add_constant, run_step}
use Rattle.np_machine.proofs.Counting.{carried_in-append, released_in-append}
use Rattle.np_machine.proofs.BalanceLemmas.{by_if}
use Rattle.np_machine.proofs.Untouched.{Same, drop_each-same, drop_next-same, drop_reference-same, leave_body-same, put_next-same, serve_deallocations-same}

-- of the references to x that the examined messages carry and give back, each is counted once: as delivered or as waiting
pub record AccountsAt (s : Side) (x : Name) (examined delivered undelivered : List Message) : Type 0 where
  pub carried_sum : carried_in s x examined ≡ carried_in s x delivered + carried_in s x undelivered
  pub released_sum : released_in x examined ≡ released_in x delivered + released_in x undelivered

abbrev pub HasAccounts : {C : Type 0} → SideState C → Type 0
HasAccounts p = (x : Name) → AccountsAt p.side x p.examined p.delivered p.undelivered

hand_over-side : {C : Type 0} (vs : List Value) (p : SideState C) → (hand_over vs p).side ≡ p.side
hand_over-side [] p = refl
hand_over-side (v ∷ rest) p = (drop_reference-same (λ y. true) (name_of v) (record p { in_flight = rest; handed_over = p.handed_over ++ v ∷ [] })).side

send_payload-side : {C : Type 0} (depth : Depth) (o : Option Payload) (p : SideState C) → (send_payload depth o p).side ≡ p.side
send_payload-side depth None p = refl
send_payload-side depth (Some body) p = refl

deliver-side : {C : Type 0} (ms : List Message) (p : SideState C) → (deliver_next ms p).side ≡ p.side
deliver-side [] p = refl
deliver-side (m ∷ rest) p = refl

add_constant-side : {C : Type 0} (v : Value) (n : Option Name) (p : SideState C) → (add_constant v n p).side ≡ p.side
add_constant-side v None p = refl
add_constant-side v (Some y) p = refl

pub step-side : {C : Type 0} (remote : Name → Bool) (step : Step) (p : SideState C) → (run_step remote step p).side ≡ p.side
step-side remote (Copy place) p = refl
step-side remote (Constant v) p = add_constant-side v (name_of v) p
step-side remote (Put place) p = (put_next-same place p.in_flight p).side
step-side remote (Remove y key) p = refl
step-side remote Drop p = (drop_next-same remote p.in_flight p).side
step-side remote (DropEach n) p = (drop_each-same n remote p).side
step-side remote (MoveAfter n) p = refl
step-side remote (Create n class) p = by_if (λ (q : SideState _). q.side ≡ p.side) (is_begun n p.instances) _ _ (λ e. refl) (λ e. refl)
step-side remote (Enter n entry) p = refl
step-side remote (Leave n) p = (leave_body-same n p.frames p).side
step-side remote (Advance n) p = refl
step-side remote (SetFlag b_) p = refl
step-side remote (NoteException text) p = refl
step-side remote (Await how) p = refl
step-side remote Resume p = refl
step-side remote HandOver p = hand_over-side p.in_flight p
step-side remote Deliver p = deliver-side p.undelivered p
step-side remote Sweep p = refl
step-side remote Deallocate p = (serve_deallocations-same (length p.objects) remote p.dealloc_queue p).side
step-side remote (Begin n) p = refl
step-side remote (MarkDestroying n) p = refl
step-side remote (TearDown n) p = by_if (λ (q : SideState _). q.side ≡ p.side) (is_begun n p.instances) _ _ (λ e. refl) (λ e. refl)
step-side remote (File file) p = refl
step-side remote (Print line) p = refl

same-accounts : {C : Type 0} (p q : SideState C) → Same q p → HasAccounts p → HasAccounts q
same-accounts p q s d = λ x.
    subst (λ z. AccountsAt z x q.examined q.delivered q.undelivered) (sym s.side) (subst (λ l. AccountsAt p.side x l q.delivered q.undelivered) (sym s.examined) (subst (λ l. AccountsAt p.side x p.examined l q.undelivered) (sym s.delivered) (subst (λ l. AccountsAt p.side x p.examined p.delivered l) (sym s.undelivered) (d x))))

hand_over-accounts : {C : Type 0} (vs : List Value) (p : SideState C) → HasAccounts p → HasAccounts (hand_over vs p)
hand_over-accounts [] p d = d
hand_over-accounts (v ∷ rest) p d =
    let q = record p { in_flight = rest; handed_over = p.handed_over ++ v ∷ [] } in same-accounts q _ (drop_reference-same (λ y. true) (name_of v) q) d

send_payload-accounts : {C : Type 0} (depth : Depth) (o : Option Payload) (p : SideState C) → HasAccounts p → HasAccounts (send_payload depth o p)
send_payload-accounts depth None p d = d
send_payload-accounts depth (Some body) p d = d

add_constant-accounts : {C : Type 0} (v : Value) (n : Option Name) (p : SideState C) → HasAccounts p → HasAccounts (add_constant v n p)
add_constant-accounts v None p d = d
add_constant-accounts v (Some y) p d = d

deliver-accounts : {C : Type 0} (ms : List Message) (p : SideState C) → p.undelivered ≡ ms → HasAccounts p → HasAccounts (deliver_next ms p)
deliver-accounts [] p e d = d
deliver-accounts (m ∷ rest) p e d = λ x.
    let a : carried_in p.side x p.undelivered ≡ references_to x (references_in p.side m.body) + carried_in p.side x rest = ap (λ l. carried_in p.side x l) e in
    let b : released_in x p.undelivered ≡ released_count x m.releases + released_in x rest = ap (λ l. released_in x l) e in
    record {
      carried_sum = omega (arith, (d x).carried_sum, a, carried_in-append p.side x p.delivered (m ∷ []));
      released_sum = omega (arith, (d x).released_sum, b, released_in-append x p.delivered (m ∷ []));
    }

pub step-accounts : {C : Type 0} (remote : Name → Bool) (step : Step) (p : SideState C) → HasAccounts p → HasAccounts (run_step remote step p)
step-accounts remote (Copy place) p d = d
step-accounts remote (Constant v) p d = add_constant-accounts v (name_of v) p d
step-accounts remote (Put place) p d = same-accounts p _ (put_next-same place p.in_flight p) d
step-accounts remote (Remove y key) p d = d
step-accounts remote Drop p d = same-accounts p _ (drop_next-same remote p.in_flight p) d
step-accounts remote (DropEach n) p d = same-accounts p _ (drop_each-same n remote p) d
step-accounts remote (MoveAfter n) p d = d
step-accounts remote (Create n class) p d = by_if HasAccounts (is_begun n p.instances) _ _ (λ e. d) (λ e. d)
step-accounts remote (Enter n entry) p d = d
step-accounts remote (Leave n) p d = same-accounts p _ (leave_body-same n p.frames p) d
step-accounts remote (Advance n) p d = d
step-accounts remote (SetFlag b_) p d = d
step-accounts remote (NoteException text) p d = d
step-accounts remote (Await how) p d = d
step-accounts remote Resume p d = d
step-accounts remote HandOver p d = hand_over-accounts p.in_flight p d
step-accounts remote Deliver p d = deliver-accounts p.undelivered p refl d
step-accounts remote Sweep p d = d
step-accounts remote Deallocate p d = same-accounts p _ (serve_deallocations-same (length p.objects) remote p.dealloc_queue p) d
step-accounts remote (Begin n) p d = d
step-accounts remote (MarkDestroying n) p d = d
step-accounts remote (TearDown n) p d = by_if HasAccounts (is_begun n p.instances) _ _ (λ e. d) (λ e. d)
step-accounts remote (File file) p d = d
step-accounts remote (Print line) p d = d

pub sends-side : {C : Type 0} (o : Option Sending) (p : SideState C) → (send_draft o p).side ≡ p.side
sends-side None p = refl
sends-side (Some m) p = send_payload-side m.depth (draft_payload (other_side p.side) m.draft p.handed_over) p

pub sends-accounts : {C : Type 0} (o : Option Sending) (p : SideState C) → HasAccounts p → HasAccounts (send_draft o p)
sends-accounts None p d = d
sends-accounts (Some m) p d = send_payload-accounts m.depth (draft_payload (other_side p.side) m.draft p.handed_over) p d
