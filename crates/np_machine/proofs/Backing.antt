-- Each message that a side sent refers only to objects that it had references to.
use Rattle.std.proofs.Common.{◌≡◌, ℕ, ◌+◌, ◌<◌, ◌≤◌, List, [], ◌∷◌, ◌++◌, length, Bool, true, false, refl, sym, ap, ◌∙◌, subst, arith, take, Option, Some, None}
use Rattle.np_values.specs.declared.name.Side.{Side}
use Rattle.np_values.specs.declared.name.Name.{Name}
use Rattle.np_values.specs.declared.value.Value.{Value}
use Rattle.np_values.specs.declared.value.Value.TheVariants as values
use Rattle.np_values.specs.Name.{is_same_side}
use Rattle.np_idents.specs.declared.op.Op.{Op}
use Rattle.np_message.specs.declared.depth.Depth.{Depth}
use Rattle.np_message.specs.declared.payload.Payload.{Payload}
use Rattle.np_message.specs.declared.payload.Payload.TheVariants as payloads
use Rattle.np_message.specs.Message.{Message}
use Rattle.np_machine.specs.References.{other_side, name_of, count_in_name, count_in_value, references_to, released_count, references_in, carried_in, released_in}
use Rattle.np_machine.specs.Side.{SideState, local_count, is_dead}
use Rattle.np_machine.specs.Instances.{is_begun}
use Rattle.np_machine.specs.declared.draft.Draft.{Draft}
use Rattle.np_machine.specs.declared.draft.Sending.{Sending}
use Rattle.np_machine.specs.declared.step.Step.{Step}
use Rattle.np_machine.specs.declared.step.Step.TheVariants.{Copy, Constant, Put, Remove, Drop, DropEach, MoveAfter, Create, Enter, Leave, Advance, SetFlag, NoteException, Await, Resume, HandOver, Deliver, Sweep, Deallocate, Begin, MarkDestroying, TearDown, File, Print}
use Rattle.np_machine.specs.declared.draft.Draft.TheVariants.{CallDraft, ValueDraft, PlainDraft}
use Rattle.np_machine.specs.Messages.{hand_over, is_plain, call_payload, draft_payload, send_payload, deliver, deliver_next, send_draft}
use Rattle.np_machine.specs.Steps.{add_constant, run_step}
use Rattle.np_machine.specs.Sound.{Balances, IsSound}
use Rattle.np_machine.proofs.Counting.{carried_in-append, local_count-is, references_to-append}
use Rattle.np_machine.proofs.NameLemmas.{same_side-is}
use Rattle.np_machine.proofs.BalanceLemmas.{by_if}
use Rattle.np_machine.proofs.Untouched.{Same, drop_each-same, drop_next-same, drop_reference-same, leave_body-same, put_next-same, serve_deallocations-same}

-- before each message that refers to x, fewer references to x were given back than came
abbrev pub AllBacked : Side → Name → ℕ → ℕ → List Message → Type 0
AllBacked s x r t [] = Unit {0}
AllBacked s x r t (m ∷ ms) = (0 < references_to x (references_in s m.body) → r < t) × AllBacked s x (r + released_count x m.releases) t ms

-- the same of the side s, by what it sent, was delivered and handed over
pub record BackedAt (s : Side) (x : Name) (sent delivered : List Message) (handed_over : List Value) : Type 0 where
  pub all : AllBacked (other_side s) x 0 (carried_in s x delivered) sent
  pub now : 0 < references_to x handed_over → released_in x sent < carried_in s x delivered

abbrev pub IsBacked : {C : Type 0} → SideState C → Type 0
IsBacked p = (x : Name) → is_same_side x.side p.side ≡ false → BackedAt p.side x p.sent p.delivered p.handed_over

backed-more : (s : Side) (x : Name) (r t u : ℕ) (ms : List Message) → t ≤ u → AllBacked s x r t ms → AllBacked s x r u ms
backed-more s x r t u [] l h = tt
backed-more s x r t u (m ∷ ms) l h = ((λ z. let a = h.0 z in omega arith), backed-more s x (r + released_count x m.releases) t u ms l h.1)

backed-push : (s : Side) (x : Name) (r t : ℕ) (ms : List Message) (m : Message) → AllBacked s x r t ms → (0 < references_to x (references_in s m.body) → r + released_in x ms < t) → AllBacked s x r t (ms ++ m ∷ [])
backed-push s x r t [] m h n = ((λ z. let a = n z in omega arith), tt)
backed-push s x r t (k ∷ ms) m h n = (h.0, backed-push s x (r + released_count x k.releases) t ms m h.1 (λ z. let a = n z in omega arith))

pub backed-rest : (s : Side) (x : Name) (r t : ℕ) (xs ys : List Message) → AllBacked s x r t (xs ++ ys) → AllBacked s x (r + released_in x xs) t ys
backed-rest s x r t [] ys h = subst (λ n. AllBacked s x n t ys) (omega arith) h
backed-rest s x r t (m ∷ xs) ys h =
    subst (λ n. AllBacked s x n t ys) (omega arith) (backed-rest s x (r + released_count x m.releases) t xs ys h.1)

pub backed-any : (s : Side) (x : Name) (r t : ℕ) (ms : List Message) → AllBacked s x r t ms → 0 < carried_in s x ms → r < t
backed-any s x r t [] h z = absurd (omega arith)
backed-any s x r t (m ∷ ms) h z = grind (arith, h.0, backed-any s x (r + released_count x m.releases) t ms h.1)

same_backed : {C : Type 0} (p q : SideState C) → Same p q → IsBacked q → IsBacked p
same_backed p q e b = λ x o.
    let o' = sym (ap (λ s. is_same_side x.side s) e.side) ∙ o in
    let h = b x o' in
    subst (λ s. BackedAt s x p.sent p.delivered p.handed_over) (sym e.side) (subst (λ m. BackedAt q.side x m p.delivered p.handed_over) (sym e.sent) (subst (λ t. BackedAt q.side x q.sent t p.handed_over) (sym e.delivered) (subst (λ l. BackedAt q.side x q.sent q.delivered l) (sym e.handed_over) h)))

-- what a place refers to was given back less often than it came
held-is_out : (d : Bool) (h w k r f : ℕ) → Balances d h w k r f → 0 < h → f < r
held-is_out false h w k r f t z = omega (arith, t.some z)
held-is_out true h w k r f t z = t.out (t.stays z)

hand-backed : {C : Type 0} (v : Value) (rest : List Value) (p : SideState C) → p.in_flight ≡ v ∷ rest → IsSound p → IsBacked p → IsBacked (record p { in_flight = rest; handed_over = p.handed_over ++ v ∷ [] })
hand-backed v rest p e s b = λ x o. record { all = (b x o).all; now = λ z. now x (b x o) (held-is_out (is_dead p x.instance) _ _ _ _ _ (s.balances x o)) z }
  where
    now : (x : Name) → BackedAt p.side x p.sent p.delivered p.handed_over → (0 < local_count x p → released_in x p.sent < carried_in p.side x p.delivered) → 0 < references_to x (p.handed_over ++ v ∷ []) → released_in x p.sent < carried_in p.side x p.delivered
    now x b f z =
        let a = references_to-append x p.handed_over (v ∷ []) in
        let c : references_to x p.in_flight ≡ count_in_value x v + references_to x rest = ap (λ w. references_to x w) e in
        let h = local_count-is x p in
        grind (arith, a, c, h, b.now, f)

hand_over-backed : {C : Type 0} (vs : List Value) (p : SideState C) → p.in_flight ≡ vs → IsSound p → IsBacked p → IsBacked (hand_over vs p)
hand_over-backed [] p e s b = b
hand_over-backed (v ∷ rest) p e s b =
    let q = record p { in_flight = rest; handed_over = p.handed_over ++ v ∷ [] } in
    same_backed _ q (drop_reference-same (λ y. true) (name_of v) q) (hand-backed v rest p e s b)

deliver-backed : {C : Type 0} (m : Message) (p : SideState C) → IsBacked p → IsBacked (deliver m p)
deliver-backed m p b = λ x o.
    let a = carried_in-append p.side x p.delivered (m ∷ []) in
    record {
      all = backed-more (other_side p.side) x 0 (carried_in p.side x p.delivered) _ p.sent (omega (arith, a)) (b x o).all;
      now = λ z. let c = (b x o).now z in omega (arith, a);
    }

deliver_next-backed : {C : Type 0} (ms : List Message) (p : SideState C) → IsBacked p → IsBacked (deliver_next ms p)
deliver_next-backed [] p b = b
deliver_next-backed (m ∷ rest) p b = deliver-backed m (record p { undelivered = rest }) b

on_side : Side → Name → Name
on_side s y = record { side = s; instance = y.instance; serial = y.serial }

on_own_side : (y : Name) → on_side y.side y ≡ y
unfolding on_side
on_own_side y = refl

object_is : (s : Side) (y : Name) → is_same_side y.side s ≡ true → on_side s y ≡ y
object_is s y e = ap (λ t. on_side t y) (sym (same_side-is y.side s e)) ∙ on_own_side y

plain-carries_none : (s : Side) (x : Name) (body : Payload) → is_plain body ≡ true → references_to x (references_in s body) ≡ 0
plain-carries_none s x (payloads.Call instance serial op arguments) e = cc
plain-carries_none s x (payloads.True value) e = cc
plain-carries_none s x (payloads.Hello version major minor) e = refl
plain-carries_none s x (payloads.New instance mode mime attributes) e = refl
plain-carries_none s x (payloads.Destroy instance) e = refl
plain-carries_none s x (payloads.Scriptable instance) e = refl
plain-carries_none s x payloads.Turn e = refl
plain-carries_none s x (payloads.NewStream instance stream url mime size) e = refl
plain-carries_none s x (payloads.WriteReady instance stream) e = refl
plain-carries_none s x (payloads.Write instance stream offset bytes) e = refl
plain-carries_none s x (payloads.AsFile instance stream path) e = refl
plain-carries_none s x (payloads.DestroyStream instance stream reason) e = refl
plain-carries_none s x (payloads.Notify instance url reason word) e = refl
plain-carries_none s x payloads.Shutdown e = refl
plain-carries_none s x (payloads.Window instance) e = refl
plain-carries_none s x (payloads.GetUrl instance url word) e = refl
plain-carries_none s x (payloads.RequestRead instance stream ranges) e = refl
plain-carries_none s x (payloads.EndStream instance stream reason) e = refl
plain-carries_none s x payloads.False e = refl
plain-carries_none s x (payloads.Threw text) e = refl
plain-carries_none s x (payloads.Idents keys) e = refl
plain-carries_none s x (payloads.Code error) e = refl
plain-carries_none s x (payloads.Number n) e = refl
plain-carries_none s x payloads.Done e = refl

last : (x y : Name) (n : ℕ) → n + references_to x (values.Object y ∷ []) ≡ count_in_name x (Some y) + n
last x y n = omega arith

call-carries : (s : Side) (x : Name) (op : Op) (arguments : List Value) (n : Option Name) (body : Payload) → call_payload s op arguments n ≡ Some body → references_to x (references_in s body) ≡ count_in_name x n + references_to x arguments
unfolding on_side
call-carries s x op arguments None body e = cc
call-carries s x op arguments (Some y) body e = go (is_same_side y.side s) refl
  where
    go : (b : Bool) → is_same_side y.side s ≡ b → references_to x (references_in s body) ≡ count_in_name x (Some y) + references_to x arguments
    go true f =
        let e' = simp f at e in
        let b : payloads.Call y.instance y.serial op arguments ≡ body = cc in
        let o = object_is s y f in
        ap (λ z. references_to x (references_in s z)) (sym b) ∙ references_to-append x arguments (values.Object (on_side s y) ∷ []) ∙ last x (on_side s y) (references_to x arguments) ∙ ap (λ z. count_in_name x (Some z) + references_to x arguments) o
    go false f = let e' = simp f at e in cc

body-carries : (s : Side) (x : Name) (draft : Draft) (vs : List Value) (body : Payload) → draft_payload s draft vs ≡ Some body → references_to x (references_in s body) ≡ references_to x vs
body-carries s x (CallDraft op) [] body e = cc
body-carries s x (CallDraft op) (target ∷ arguments) body e = call-carries s x op arguments (name_of target) body e
body-carries s x ValueDraft [] body e = cc
body-carries s x ValueDraft (v ∷ []) body e =
    let b : payloads.True v ≡ body = cc in ap (λ z. references_to x (references_in s z)) (sym b)
body-carries s x ValueDraft (v ∷ (w ∷ vs)) body e = cc
body-carries s x (PlainDraft said) [] body e = go (is_plain said) refl
  where
    go : (b : Bool) → is_plain said ≡ b → references_to x (references_in s body) ≡ 0
    go true f =
        let e' = simp f at e in
        let b : said ≡ body = cc in
        ap (λ z. references_to x (references_in s z)) (sym b) ∙ plain-carries_none s x said f
    go false f = let e' = simp f at e in cc
body-carries s x (PlainDraft said) (v ∷ vs) body e = cc

send_payload-backed : {C : Type 0} (depth : Depth) (draft : Draft) (o : Option Payload) (p : SideState C) → draft_payload (other_side p.side) draft p.handed_over ≡ o → IsBacked p → IsBacked (send_payload depth o p)
send_payload-backed depth draft None p e b = b
send_payload-backed depth draft (Some body) p e b = λ x o.
    let c = body-carries (other_side p.side) x draft p.handed_over body e in
    record {
      all = backed-push (other_side p.side) x 0 (carried_in p.side x p.delivered) p.sent (record { depth = depth; releases = take 1024 p.pending_releases; body = body }) (b x o).all (λ z. let a = (b x o).now (omega (arith, c)) in omega arith);
      now = λ z. absurd (omega arith);
    }

add_constant-backed : {C : Type 0} (v : Value) (n : Option Name) (p : SideState C) → IsBacked p → IsBacked (add_constant v n p)
add_constant-backed v None p b = b
add_constant-backed v (Some y) p b = b

pub step-backed : {C : Type 0} (remote : Name → Bool) (step : Step) (p : SideState C) → IsSound p → IsBacked p → IsBacked (run_step remote step p)
step-backed remote (Copy place) p s b = b
step-backed remote (Constant v) p s b = add_constant-backed v (name_of v) p b
step-backed remote (Put place) p s b = same_backed _ p (put_next-same place p.in_flight p) b
step-backed remote (Remove y key) p s b = b
step-backed remote Drop p s b = same_backed _ p (drop_next-same remote p.in_flight p) b
step-backed remote (DropEach n) p s b = same_backed _ p (drop_each-same n remote p) b
step-backed remote (MoveAfter n) p s b = b
step-backed remote (Create n class) p s b = by_if IsBacked (is_begun n p.instances) _ _ (λ e. b) (λ e. b)
step-backed remote (Enter n entry) p s b = b
step-backed remote (Leave n) p s b = same_backed _ p (leave_body-same n p.frames p) b
step-backed remote (Advance n) p s b = b
step-backed remote (SetFlag b_) p s b = b
step-backed remote (NoteException text) p s b = b
step-backed remote (Await how) p s b = b
step-backed remote Resume p s b = b
step-backed remote HandOver p s b = hand_over-backed p.in_flight p refl s b
step-backed remote Deliver p s b = deliver_next-backed p.undelivered p b
step-backed remote Sweep p s b = b
step-backed remote Deallocate p s b = same_backed _ p (serve_deallocations-same (length p.objects) remote p.dealloc_queue p) b
step-backed remote (Begin n) p s b = b
step-backed remote (MarkDestroying n) p s b = b
step-backed remote (TearDown n) p s b = by_if IsBacked (is_begun n p.instances) _ _ (λ e. b) (λ e. b)
step-backed remote (File file) p s b = b
step-backed remote (Print line) p s b = b

pub sends-backed : {C : Type 0} (o : Option Sending) (p : SideState C) → IsBacked p → IsBacked (send_draft o p)
sends-backed None p b = b
sends-backed (Some m) p b = send_payload-backed m.depth m.draft (draft_payload (other_side p.side) m.draft p.handed_over) p refl b
