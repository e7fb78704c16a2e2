-- One side alone: more messages don't change what it came to, what it sent and printed only grows, and it rests at one place.
use Rattle.std.proofs.Common.{◌≡◌, ℕ, zero, suc, ◌+◌, ◌≤◌, List, [], ◌∷◌, ◌++◌, length, refl, sym, ap, ◌∙◌, subst, arith, append_assoc, drop, take, Option, Some, None, inl, inr, ◌⊎◌, ⊎_elim, length-append}
use Rattle.std.proofs.lemmas.List.{append-nil, take-append-le, drop_at}
use Rattle.np_message.specs.Message.{Message}
use Rattle.np_model.specs.Side.{SideState, Micro, Control, Send, Deliver, Print, deliver, micro_step, run_steps, examine, at_start}
use Rattle.np_model.specs.Run.{Pace, Acts, Awaits, HasEnded, Meeting, Accepts, Refuses, Plans, first, next_message, meets, listens, turn_at, turn, endpoint_run, HasNone, Rests, RestsAt}

-- ---- lists that grow

-- the new list begins with the old one
pub record Extends {A : Type 0} (old new : List A) : Type 0 where
  pub more : List A
  pub is : new ≡ old ++ more

pub extends-same : {A : Type 0} (l : List A) → Extends l l
extends-same l = record { more = []; is = sym (append-nil l) }

pub extends-by : {A : Type 0} (l more : List A) → Extends l (l ++ more)
extends-by l more = record { more = more; is = refl }

pub extends-trans : {A : Type 0} (a b c : List A) → Extends a b → Extends b c → Extends a c
extends-trans a b c f g = record { more = f.more ++ g.more; is = g.is ∙ ap (λ l. l ++ g.more) f.is ∙ append_assoc a f.more g.more }

pub extends-length : {A : Type 0} (a b : List A) → Extends a b → length a ≤ length b
extends-length a b f = let e = ap length f.is in omega (arith, e, length-append a f.more)

-- the first messages are the same where there are so many
pub extends-take : {A : Type 0} (k : ℕ) (a b : List A) → Extends a b → k ≤ length a → take k b ≡ take k a
extends-take k a b f h = ap (λ l. take k l) f.is ∙ take-append-le k a f.more h

pub take-extends : (k : ℕ) (a b : List Message) → Extends a b → Extends (take k a) (take k b)
take-extends k a b f = subst (λ l. Extends (take k a) (take k l)) (sym f.is) (go k a f.more)
  where
    go : (k : ℕ) (a more : List Message) → Extends (take k a) (take k (a ++ more))
    go zero a more = extends-same []
    go (suc k) [] more = record { more = take (suc k) more; is = refl }
    go (suc k) (x ∷ a) more = let r = go k a more in record { more = r.more; is = ap (λ l. x ∷ l) r.is }

-- a message that comes next comes next too where there are more behind it
pub first-extends : (k : ℕ) (a b : List Message) (m : Message) → Extends a b → first (drop k a) ≡ Some m → first (drop k b) ≡ Some m
first-extends k a b m f e = ap (λ l. first (drop k l)) f.is ∙ go k a e
  where
    go : (k : ℕ) (a : List Message) → first (drop k a) ≡ Some m → first (drop k (a ++ f.more)) ≡ Some m
    go zero [] e = cc
    go zero (x ∷ a) e = e
    go (suc k) [] e = cc
    go (suc k) (x ∷ a) e = go k a e

-- ---- what a side's steps leave

-- what was sent and printed stays
pub record Grows {C : Type 0} (p q : SideState C) : Type 0 where
  pub sent : Extends p.sent q.sent
  pub journal : Extends p.journal q.journal

pub grows-same : {C : Type 0} (p : SideState C) → Grows p p
grows-same p = record { sent = extends-same p.sent; journal = extends-same p.journal }

pub grows-trans : {C : Type 0} (p q r : SideState C) → Grows p q → Grows q r → Grows p r
grows-trans p q r f g = record {
  sent = extends-trans p.sent q.sent r.sent f.sent g.sent;
  journal = extends-trans p.journal q.journal r.journal f.journal g.journal;
}

deliver-grows : {C : Type 0} (undelivered : List Message) (p : SideState C) → Grows p (deliver undelivered p)
deliver-grows [] p = grows-same p
deliver-grows (m ∷ rest) p = record { sent = extends-same p.sent; journal = extends-same p.journal }

step-grows : {C : Type 0} (step : Micro C) (p : SideState C) → Grows p (micro_step step p)
step-grows (Control c) p = record { sent = extends-same p.sent; journal = extends-same p.journal }
step-grows (Send m) p = record { sent = extends-by p.sent (m ∷ []); journal = extends-same p.journal }
step-grows Deliver p = deliver-grows p.undelivered p
step-grows (Print line) p = record { sent = extends-same p.sent; journal = extends-by p.journal line }

steps-grow : {C : Type 0} (steps : List (Micro C)) (p : SideState C) → Grows p (run_steps steps p)
steps-grow [] p = grows-same p
steps-grow (step ∷ steps) p = grows-trans p (micro_step step p) (run_steps steps (micro_step step p)) (step-grows step p) (steps-grow steps (micro_step step p))

pub turn-grows : {C : Type 0} (S : Plans C) (got : List Message) (p : SideState C) → Grows p (turn S got p)
turn-grows S got p = at (S.pace p)
  where
    met : (m : Message) (meeting : Meeting _) → Grows p (meets p m meeting)
    met m (Accepts steps) =
        let g = steps-grow steps (examine m p) in
        record { sent = g.sent; journal = g.journal }
    met m (Refuses rule first second) = grows-same p

    heard : (o : Option Message) → Grows p (listens S p o)
    heard None = grows-same p
    heard (Some m) = met m (S.meet p m)

    at : (pace : Pace) → Grows p (turn_at S got p pace)
    at Acts = steps-grow (S.go p) p
    at Awaits = heard (next_message got p)
    at HasEnded = grows-same p

pub endpoint-grows : {C : Type 0} (S : Plans C) (got : List Message) (n i : ℕ) (p : SideState C) → Grows (endpoint_run S got n p) (endpoint_run S got (i + n) p)
endpoint-grows S got n zero p =
    let e : n ≡ 0 + n = omega arith in
    subst (λ m. Grows (endpoint_run S got n p) (endpoint_run S got m p)) e (grows-same (endpoint_run S got n p))
endpoint-grows S got n (suc i) p =
    let e : suc (i + n) ≡ suc i + n = omega arith in
    let q = endpoint_run S got (i + n) p in
    subst (λ m. Grows (endpoint_run S got n p) (endpoint_run S got m p)) e (grows-trans (endpoint_run S got n p) q (turn S got q) (endpoint-grows S got n i p) (turn-grows S got q))

-- ---- what was examined

deliver-examined : {C : Type 0} (undelivered : List Message) (p : SideState C) → (deliver undelivered p).examined ≡ p.examined
deliver-examined [] p = refl
deliver-examined (m ∷ rest) p = refl

step-examined : {C : Type 0} (step : Micro C) (p : SideState C) → (micro_step step p).examined ≡ p.examined
step-examined (Control c) p = refl
step-examined (Send m) p = refl
step-examined Deliver p = deliver-examined p.undelivered p
step-examined (Print line) p = refl

steps-examined : {C : Type 0} (steps : List (Micro C)) (p : SideState C) → (run_steps steps p).examined ≡ p.examined
steps-examined [] p = refl
steps-examined (step ∷ steps) p = steps-examined steps (micro_step step p) ∙ step-examined step p

first-is : (l : List Message) (m : Message) → first l ≡ Some m → (rest : List Message) × (l ≡ m ∷ rest)
first-is [] m e = cc
first-is (x ∷ l) m e = (l, cc)

-- the message that comes next stands behind those that were examined
pub next-is : (examined got : List Message) (m : Message) → Extends examined got → first (drop (length examined) got) ≡ Some m → (later : List Message) × (got ≡ examined ++ m ∷ later)
next-is examined got m f e =
    let rest = first-is f.more m (ap first (sym (drop_at examined f.more (length examined) refl) ∙ ap (λ l. drop (length examined) l) (sym f.is)) ∙ e) in
    (rest.0, f.is ∙ ap (λ l. examined ++ l) rest.1)

-- the messages that a side examined are the first that came
turn-examined : {C : Type 0} (S : Plans C) (got : List Message) (p : SideState C) → Extends p.examined got → Extends (turn S got p).examined got
turn-examined S got p f = at (S.pace p)
  where
    met : (m : Message) → next_message got p ≡ Some m → (meeting : Meeting _) → Extends (meets p m meeting).examined got
    met m e (Accepts steps) =
        let next = next-is p.examined got m f e in
        let is : got ≡ p.examined ++ m ∷ [] ++ next.0 = next.1 ∙ sym (append_assoc p.examined (m ∷ []) next.0) in
        subst (λ l. Extends l got) (sym (steps-examined steps (examine m p))) (record { more = next.0; is = is })
    met m e (Refuses rule first second) = f

    heard : (o : Option Message) → next_message got p ≡ o → Extends (listens S p o).examined got
    heard None e = f
    heard (Some m) e = met m e (S.meet p m)

    at : (pace : Pace) → Extends (turn_at S got p pace).examined got
    at Acts = subst (λ l. Extends l got) (sym (steps-examined (S.go p) p)) f
    at Awaits = heard (next_message got p) refl
    at HasEnded = f

pub endpoint-examined : {C : Type 0} (S : Plans C) (got : List Message) (n : ℕ) (c : C) → Extends (endpoint_run S got n (at_start c)).examined got
endpoint-examined S got zero c = record { more = got; is = refl }
endpoint-examined S got (suc n) c = turn-examined S got (endpoint_run S got n (at_start c)) (endpoint-examined S got n c)

-- of what a side alone sent, the message at a place is always the same
pub endpoint-sent : {C : Type 0} (S : Plans C) (got : List Message) (from : SideState C) (n i k : ℕ) (x y : Message) → first (drop k (endpoint_run S got n from).sent) ≡ Some x → first (drop k (endpoint_run S got i from).sent) ≡ Some y → x ≡ y
endpoint-sent S got from n i k x y e f =
    let q : i + n ≡ n + i = omega arith in
    let a = first-extends k (endpoint_run S got n from).sent (endpoint_run S got (i + n) from).sent x (endpoint-grows S got n i from).sent e in
    let b = first-extends k (endpoint_run S got i from).sent (endpoint_run S got (n + i) from).sent y (endpoint-grows S got i n from).sent f in
    let c : first (drop k (endpoint_run S got (i + n) from).sent) ≡ first (drop k (endpoint_run S got (n + i) from).sent) = ap (λ m. first (drop k (endpoint_run S got m from).sent)) q in
    let d : Some x ≡ Some y = sym a ∙ c ∙ b in
    cc

-- ---- more messages

-- with more messages a side's turn is the same, or it had nothing to do
turn-more : {C : Type 0} (S : Plans C) (got all : List Message) (p : SideState C) → Extends got all → (turn S all p ≡ turn S got p) ⊎ (turn S got p ≡ p)
turn-more S got all p f = at (S.pace p)
  where
    heard : (o : Option Message) → next_message got p ≡ o → (listens S p (next_message all p) ≡ listens S p (next_message got p)) ⊎ (listens S p (next_message got p) ≡ p)
    heard None e = inr (ap (λ o. listens S p o) e)
    heard (Some m) e = inl (ap (λ o. listens S p o) (first-extends (length p.examined) got all m f e ∙ sym e))

    at : (pace : Pace) → (turn_at S all p pace ≡ turn_at S got p pace) ⊎ (turn_at S got p pace ≡ p)
    at Acts = inl refl
    at Awaits = heard (next_message got p) refl
    at HasEnded = inl refl

-- what a side alone comes to it comes to with more messages too
pub endpoint-more : {C : Type 0} (S : Plans C) (got all : List Message) (n : ℕ) (p : SideState C) → Extends got all → (k : ℕ) × (endpoint_run S all k p ≡ endpoint_run S got n p)
endpoint-more S got all zero p f = (0, refl)
endpoint-more S got all (suc n) p f = go (endpoint-more S got all n p f)
  where
    go : (k : ℕ) × (endpoint_run S all k p ≡ endpoint_run S got n p) → (k : ℕ) × (endpoint_run S all k p ≡ turn S got (endpoint_run S got n p))
    go ih =
        ⊎_elim (λ same. (suc ih.0, ap (λ q. turn S all q) ih.1 ∙ same))
        (λ idle. (ih.0, ih.1 ∙ sym idle))
        (turn-more S got all (endpoint_run S got n p) f)

-- ---- rests

pub rests-idle : {C : Type 0} (S : Plans C) (got : List Message) (p : SideState C) → Rests S got p → turn S got p ≡ p
rests-idle S got p h = at (S.pace p) h
  where
    at : (pace : Pace) → HasNone got p pace → turn_at S got p pace ≡ p
    at Acts h = absurd h
    at Awaits h = ap (λ o. listens S p o) h
    at HasEnded h = refl

-- a rest stays as it is under further turns
pub rests-stay : {C : Type 0} (S : Plans C) (got : List Message) (from p : SideState C) (n i : ℕ) → endpoint_run S got n from ≡ p → Rests S got p → endpoint_run S got (i + n) from ≡ p
rests-stay S got from p n zero e h =
    let q : 0 + n ≡ n = omega arith in ap (λ m. endpoint_run S got m from) q ∙ e
rests-stay S got from p n (suc i) e h =
    let q : suc i + n ≡ suc (i + n) = omega arith in
    ap (λ m. endpoint_run S got m from) q ∙ ap (λ r. turn S got r) (rests-stay S got from p n i e h) ∙ rests-idle S got p h

pub one_rest : {C : Type 0} (S : Plans C) (got : List Message) (from p q : SideState C) → RestsAt S got from p → RestsAt S got from q → p ≡ q
one_rest S got from p q a b =
    let e : b.turns + a.turns ≡ a.turns + b.turns = omega arith in
    sym (rests-stay S got from p a.turns b.turns a.comes a.rests) ∙ ap (λ m. endpoint_run S got m from) e ∙ rests-stay S got from q b.turns a.turns b.comes b.rests

-- what a side comes to with the first messages it has sent and printed where it rests with all of them
pub rest-grows : {C : Type 0} (S : Plans C) (got all : List Message) (n : ℕ) (from p : SideState C) → Extends got all → RestsAt S all from p → Grows (endpoint_run S got n from) p
rest-grows S got all n from p f r =
    let k = endpoint-more S got all n from f in
    let e : k.0 + r.turns ≡ r.turns + k.0 = omega arith in
    let at_rest : endpoint_run S all (r.turns + k.0) from ≡ p = ap (λ m. endpoint_run S all m from) (sym e) ∙ rests-stay S all from p r.turns k.0 r.comes r.rests in
    let g = endpoint-grows S all k.0 r.turns from in
    subst (λ q. Grows (endpoint_run S got n from) q) at_rest (subst (λ q. Grows q (endpoint_run S all (r.turns + k.0) from)) k.1 g)
