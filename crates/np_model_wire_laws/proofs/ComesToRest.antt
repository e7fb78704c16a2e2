-- A side that refuses nothing comes to rest with the whole messages of a prefix of the other side's text.
use Rattle.std.proofs.Common.{◌≡◌, ℕ, zero, suc, ◌<◌, ◌≤◌, List, [], ◌∷◌, ◌++◌, length, drop, refl, sym, ap, subst, ◌∙◌, append_assoc, arith, ⊎_elim, Option, Some, None}
use Rattle.std.proofs.lemmas.List.{append_cancel_left}
use Rattle.np_message.specs.Message.{Message}
use Rattle.np_message.specs.Encoding.{encoding, encodings}
use Rattle.np_message.specs.Rules.{AreMessages}
use Rattle.np_message.specs.Decoding.{Partial, front}
use Rattle.np_model.specs.Side.{SideState, Micro, run_steps, examine, at_start}
use Rattle.np_model.specs.Run.{Pace, Acts, Awaits, HasEnded, Meeting, Accepts, Refuses, first, next_message, meets, listens, turn_at, turn, endpoint_run, HasNone, RestsAt}
use Rattle.np_model.specs.Alone.{Role, MoreMessages}
use Rattle.np_model_laws.specs.Laws.{RefusesNone}
use Rattle.np_model_wire_laws.proofs.Streams.{Wire, Waiting, empty-waits, begun-or-whole}
use Rattle.np_model_wire_laws.proofs.SideAlone.{ended-rests}

-- ---- a side alone with messages of which it refuses none

-- each turn that changes something leaves less to do
pub record Lessens {C : Type 0} (role : Role C) (got : List Message) (weight : SideState C → ℕ) : Type 0 where
  pub acts : (p : SideState C) → role.plans.pace p ≡ Acts → weight (run_steps (role.plans.go p) p) < weight p
  pub hears : (p : SideState C) (m : Message) (steps : List (Micro C)) → role.plans.pace p ≡ Awaits → next_message got p ≡ Some m → role.plans.meet p m ≡ Accepts steps → weight (run_steps steps (examine m p)) < weight p

-- the first place without a further message is below the number of messages
pub next-within : (k : ℕ) (got : List Message) (m : Message) → first (drop k got) ≡ Some m → k < length got
next-within zero [] m e = cc
next-within zero (x ∷ got) m e = omega arith
next-within (suc k) [] m e = cc
next-within (suc k) (x ∷ got) m e = let ih = next-within k got m e in omega (arith, ih)

abbrev pub Rest : {C : Type 0} → Role C → List Message → Type 0
Rest {C} role got = (side : SideState C) × RestsAt role.plans got (at_start role.start) side

-- the side rests, or has a turn that leaves less to do
rest-or-turn : {C : Type 0} (role : Role C) (got : List Message) (weight : SideState C → ℕ) → Lessens role got weight → RefusesNone role.plans got (at_start role.start) → (turns : ℕ) (p : SideState C) → endpoint_run role.plans got turns (at_start role.start) ≡ p
    → ((q : SideState C) → turn role.plans got p ≡ q → weight q < weight p → Rest role got) → Rest role got
rest-or-turn {C} role got weight less none turns p comes onward = at (role.plans.pace p) refl
  where
    met : role.plans.pace p ≡ Awaits → (m : Message) → next_message got p ≡ Some m → (meeting : Meeting C) → role.plans.meet p m ≡ meeting → Rest role got
    met a m next (Accepts steps) plan =
        onward (run_steps steps (examine m p))
        (ap (λ (pace : Pace). turn_at role.plans got p pace) a ∙ ap (λ (o : Option Message). listens role.plans p o) next ∙ ap (λ (x : Meeting C). meets p m x) plan)
        (less.hears p m steps a next plan)
    met a m next (Refuses rule x y) plan =
        absurd (none turns m rule x y (ap (λ (q : SideState C). role.plans.pace q) comes ∙ a) (ap (λ (q : SideState C). next_message got q) comes ∙ next) (ap (λ (q : SideState C). role.plans.meet q m) comes ∙ plan))

    heard : role.plans.pace p ≡ Awaits → (o : Option Message) → next_message got p ≡ o → Rest role got
    heard a None next = (p, record { turns = turns; comes = comes; rests = subst (λ (pace : Pace). HasNone got p pace) (sym a) next })
    heard a (Some m) next = met a m next (role.plans.meet p m) refl

    at : (pace : Pace) → role.plans.pace p ≡ pace → Rest role got
    at Acts a = onward (run_steps (role.plans.go p) p) (ap (λ (pace : Pace). turn_at role.plans got p pace) a) (less.acts p a)
    at Awaits a = heard a (next_message got p) refl
    at HasEnded a = (p, record { turns = turns; comes = comes; rests = ended-rests role.plans got p a })

rests-within : {C : Type 0} (role : Role C) (got : List Message) (weight : SideState C → ℕ) → Lessens role got weight → RefusesNone role.plans got (at_start role.start) → (fuel turns : ℕ) (p : SideState C) → endpoint_run role.plans got turns (at_start role.start) ≡ p → weight p ≤ fuel → Rest role got
rests-within role got weight less none zero turns p comes few = rest-or-turn role got weight less none turns p comes (λ q e lighter. absurd (omega (arith, few, lighter)))
rests-within role got weight less none (suc fuel) turns p comes few =
    rest-or-turn role got weight less none turns p comes (λ q e lighter.
    let fewer : weight q ≤ fuel = omega (arith, few, lighter) in
    rests-within role got weight less none fuel (suc turns) q (ap (λ x. turn role.plans got x) comes ∙ e) fewer)

-- ---- the first messages

first-there : (k : ℕ) (few more : List Message) (m : Message) → first (drop k few) ≡ Some m → first (drop k (few ++ more)) ≡ Some m
first-there zero [] more m e = cc
first-there zero (x ∷ few) more m e = e
first-there (suc k) [] more m e = cc
first-there (suc k) (x ∷ few) more m e = first-there k few more m e

-- a side that refuses none of the messages refuses none of the first ones
refuses-none : {C : Type 0} → MoreMessages C → (role : Role C) (few more : List Message) → RefusesNone role.plans (few ++ more) (at_start role.start) → RefusesNone role.plans few (at_start role.start)
refuses-none {C} more_law role few more none turns m rule a b pace next meet =
    let start = at_start role.start in
    let k = more_law role.plans few more turns start in
    let p = endpoint_run role.plans few turns start in
    none k.0 m rule a b (ap (λ (q : SideState C). role.plans.pace q) k.1 ∙ pace) (ap (λ (q : SideState C). next_message (few ++ more) q) k.1 ∙ first-there (length p.examined) few more m next) (ap (λ (q : SideState C). role.plans.meet q m) k.1 ∙ meet)

-- the whole messages of bytes that begin the encodings of messages
pub record WholeOf (messages : List Message) (bytes : List ℕ) : Type 0 where
  pub few : List Message
  pub more : List Message
  pub left : List ℕ
  pub is : messages ≡ few ++ more
  pub keep : AreMessages few
  pub parts : bytes ≡ encodings few ++ left
  pub partial : (at : ℕ) → front at left ≡ Partial

pub whole-of : Wire → Waiting → (messages : List Message) (bytes rest : List ℕ) → AreMessages messages → bytes ++ rest ≡ encodings messages → WholeOf messages bytes
whole-of w v [] bytes rest k e = record { few = []; more = []; left = bytes; is = refl; keep = tt; parts = refl; partial = λ at. empty-waits v.exact at bytes rest e }
whole-of w v (m ∷ messages) bytes rest k e =
    ⊎_elim
    (λ (partial : (at : ℕ) → front at bytes ≡ Partial). record { few = []; more = m ∷ messages; left = bytes; is = refl; keep = tt; parts = refl; partial = partial })
    (λ (x : (behind : List ℕ) × (bytes ≡ encoding m ++ behind)).
    let same : x.0 ++ rest ≡ encodings messages = append_cancel_left (encoding m) (x.0 ++ rest) (encodings messages) (sym (append_assoc (encoding m) x.0 rest) ∙ ap (λ l. l ++ rest) (sym x.1) ∙ e) in
    let r = whole-of w v messages x.0 rest k.1 same in
    record { few = m ∷ r.few; more = r.more; left = r.left; is = ap (λ l. m ∷ l) r.is; keep = (k.0, r.keep); parts = x.1 ∙ ap (λ l. encoding m ++ l) r.parts ∙ sym (append_assoc (encoding m) (encodings r.few) r.left); partial = r.partial })
    (begun-or-whole w v bytes rest (encodings messages) m k.0.0 k.0.1 e)

-- with these the side comes to rest
pub rests-with : {C : Type 0} → MoreMessages C → (role : Role C) (few more : List Message) (weight : SideState C → ℕ) → Lessens role few weight → RefusesNone role.plans (few ++ more) (at_start role.start) → Rest role few
rests-with more_law role few more weight less none =
    let start = at_start role.start in
    rests-within role few weight less (refuses-none more_law role few more none) (weight start) 0 start refl (omega arith)
