-- One side alone: more messages don't change the states that it reached, and there is one state at which it rests.
use Rattle.std.proofs.Common.{◌≡◌, ℕ, zero, suc, ◌+◌, List, length, refl, sym, ap, ◌∙◌, subst, arith, Option, Some, None, inl, inr, ◌⊎◌}
use Rattle.np_message.specs.Message.{Message}
use Rattle.np_machine.specs.Side.{SideState}
use Rattle.np_machine.specs.Plan.{Pace, Acts, Awaits, HasEnded, Stops, Plans}
use Rattle.np_machine.specs.Turn.{is_remote_by_messages, next_message, listens, turn_at, turn, endpoint_run}
use Rattle.np_machine.specs.Rest.{HasNone, Rests, RestsAt}
use Rattle.np_machine.proofs.Growing.{Extends, Grows, endpoint-grows, first-extends}

-- with more messages a side's turn is the same, or it had nothing to do
turn-more : {C : Type 0} (S : Plans C) (got all : List Message) (p : SideState C) → Extends got all → (turn is_remote_by_messages S all p ≡ turn is_remote_by_messages S got p) ⊎ (turn is_remote_by_messages S got p ≡ p)
turn-more S got all p f = at (S.pace p)
  where
    heard : (o : Option Message) → next_message got p ≡ o → (listens is_remote_by_messages S p (next_message all p) ≡ listens is_remote_by_messages S p (next_message got p)) ⊎ (listens is_remote_by_messages S p (next_message got p) ≡ p)
    heard None e = inr (ap (λ o. listens is_remote_by_messages S p o) e)
    heard (Some m) e = inl (ap (λ o. listens is_remote_by_messages S p o) (first-extends (length p.examined) got all m f e ∙ sym e))

    at : (pace : Pace) → (turn_at is_remote_by_messages S all p pace ≡ turn_at is_remote_by_messages S got p pace) ⊎ (turn_at is_remote_by_messages S got p pace ≡ p)
    at Acts = inl refl
    at Awaits = heard (next_message got p) refl
    at HasEnded = inl refl
    at (Stops r) = inl refl

-- from equal states equal turns lead to equal states
chained : {A : Type 0} (f g : A → A) (q r : A) → q ≡ r → f r ≡ g r → f q ≡ g r
chained f g q r e same = ap f e ∙ same

pub endpoint-more : {C : Type 0} (S : Plans C) (got all : List Message) (n : ℕ) (p : SideState C) → Extends got all → (k : ℕ) × (endpoint_run S all k p ≡ endpoint_run S got n p)
endpoint-more S got all zero p f = (0, refl)
endpoint-more S got all (suc n) p f = by (endpoint-more S got all n p f) (endpoint_run S got n p) refl (turn-more S got all (endpoint_run S got n p) f)
  where
    by : (k : ℕ) × (endpoint_run S all k p ≡ endpoint_run S got n p) → (r : SideState _) → endpoint_run S got n p ≡ r → (turn is_remote_by_messages S all (endpoint_run S got n p) ≡ turn is_remote_by_messages S got (endpoint_run S got n p)) ⊎ (turn is_remote_by_messages S got (endpoint_run S got n p) ≡ endpoint_run S got n p) → (k : ℕ) × (endpoint_run S all k p ≡ turn is_remote_by_messages S got (endpoint_run S got n p))
    by ih r e (inl same) = (suc ih.0, chained (turn is_remote_by_messages S all) (turn is_remote_by_messages S got) (endpoint_run S all ih.0 p) (endpoint_run S got n p) ih.1 same)
    by ih r e (inr idle) = (ih.0, ih.1 ∙ sym idle)

-- ---- rests

rests-idle : {C : Type 0} (S : Plans C) (got : List Message) (p : SideState C) → Rests S got p → turn is_remote_by_messages S got p ≡ p
rests-idle S got p h = at (S.pace p) h
  where
    at : (pace : Pace) → HasNone got p pace → turn_at is_remote_by_messages S got p pace ≡ p
    at Acts h = absurd h
    at Awaits h = ap (λ o. listens is_remote_by_messages S p o) h
    at HasEnded h = refl
    at (Stops r) h = absurd h

-- further turns don't change a side that rests
pub rests-stay : {C : Type 0} (S : Plans C) (got : List Message) (from p : SideState C) (n i : ℕ) → endpoint_run S got n from ≡ p → Rests S got p → endpoint_run S got (i + n) from ≡ p
rests-stay S got from p n zero e h =
    let q : 0 + n ≡ n = omega arith in ap (λ m. endpoint_run S got m from) q ∙ e
rests-stay S got from p n (suc i) e h =
    let q : suc i + n ≡ suc (i + n) = omega arith in
    ap (λ m. endpoint_run S got m from) q ∙ ap (λ r. turn is_remote_by_messages S got r) (rests-stay S got from p n i e h) ∙ rests-idle S got p h

pub one_rest : {C : Type 0} (S : Plans C) (got : List Message) (from p q : SideState C) → RestsAt S got from p → RestsAt S got from q → p ≡ q
one_rest S got from p q a b =
    let e : b.turns + a.turns ≡ a.turns + b.turns = omega arith in
    sym (rests-stay S got from p a.turns b.turns a.comes a.rests) ∙ ap (λ m. endpoint_run S got m from) e ∙ rests-stay S got from q b.turns a.turns b.comes b.rests

-- what a side has printed, sent and put with the first messages stays where it rests with all of them
pub rest-grows : {C : Type 0} (S : Plans C) (got all : List Message) (n : ℕ) (from p : SideState C) → Extends got all → RestsAt S all from p → Grows (endpoint_run S got n from) p
rest-grows S got all n from p f r =
    let k = endpoint-more S got all n from f in
    let e : k.0 + r.turns ≡ r.turns + k.0 = omega arith in
    let at_rest : endpoint_run S all (r.turns + k.0) from ≡ p = ap (λ m. endpoint_run S all m from) (sym e) ∙ rests-stay S all from p r.turns k.0 r.comes r.rests in
    let g = endpoint-grows S all k.0 r.turns from in
    subst (λ q. Grows (endpoint_run S got n from) q) at_rest (subst (λ q. Grows q (endpoint_run S all (r.turns + k.0) from)) k.1 g)
