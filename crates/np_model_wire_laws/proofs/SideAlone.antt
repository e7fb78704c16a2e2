-- A side alone: where it stays, and where it rests with the first of more messages.
use Rattle.std.proofs.Common.{◌≡◌, ℕ, zero, suc, ◌+◌, ◌≤◌, List, [], ◌++◌, length, take, sym, ap, subst, ◌∙◌, arith}
use Rattle.std.proofs.Math.Seq.{take-append_seam, drop-length}
use Rattle.std.proofs.lemmas.List.{length-append}
use Rattle.np_message.specs.Message.{Message}
use Rattle.np_model.specs.Side.{SideState, at_start}
use Rattle.np_model.specs.Run.{Pace, Awaits, HasEnded, Plans, first, next_message, listens, turn_at, turn, endpoint_run, HasNone, Rests, RestsAt}
use Rattle.np_model.specs.Alone.{Role, MoreMessages, ComesTo}
use Rattle.np_model_wire_laws.specs.Prefix.{IsWhole}
use Rattle.np_model_wire_laws.proofs.Streams.{Wire, Continues, continues}

-- ---- a side that a turn leaves as it is

-- it stays as it is under further turns
stays : {C : Type 0} (S : Plans C) (got : List Message) (from p : SideState C) (n i : ℕ) → endpoint_run S got n from ≡ p → turn S got p ≡ p → endpoint_run S got (i + n) from ≡ p
stays S got from p n zero e h = let same : 0 + n ≡ n = omega arith in ap (λ m. endpoint_run S got m from) same ∙ e
stays S got from p n (suc i) e h =
    let same : suc i + n ≡ suc (i + n) = omega arith in
    ap (λ m. endpoint_run S got m from) same ∙ ap (λ q. turn S got q) (stays S got from p n i e h) ∙ h

-- with these messages the side comes to p, and no turn changes it
pub record Stays {C : Type 0} (role : Role C) (got : List Message) (p : SideState C) : Type 0 where
  pub turns : ℕ
  pub comes : endpoint_run role.plans got turns (at_start role.start) ≡ p
  pub still : turn role.plans got p ≡ p

-- there is one such place
pub one-stay : {C : Type 0} (role : Role C) (got : List Message) (p q : SideState C) → Stays role got p → Stays role got q → p ≡ q
one-stay role got p q a b =
    let from = at_start role.start in
    let same : b.turns + a.turns ≡ a.turns + b.turns = omega arith in
    sym (stays role.plans got from p a.turns b.turns a.comes a.still)
    ∙ ap (λ m. endpoint_run role.plans got m from) same
    ∙ stays role.plans got from q b.turns a.turns b.comes b.still

-- it comes there with more messages too
pub stays-with : {C : Type 0} → MoreMessages C → (role : Role C) (more : List Message) (turns : ℕ) (p : SideState C) → endpoint_run role.plans p.examined turns (at_start role.start) ≡ p → turn role.plans (p.examined ++ more) p ≡ p → Stays role (p.examined ++ more) p
stays-with more_law role more turns p comes still =
    let k = more_law role.plans p.examined more turns (at_start role.start) in
    record { turns = k.0; comes = k.1 ∙ comes; still = still }

pub awaiting-turn : {C : Type 0} (S : Plans C) (got : List Message) (p : SideState C) → S.pace p ≡ Awaits → turn S got p ≡ listens S p (next_message got p)
awaiting-turn S got p h = ap (λ (pace : Pace). turn_at S got p pace) h

-- a side that awaits a message stays where none comes
pub waiting-stays : {C : Type 0} (role : Role C) (turns : ℕ) (p : SideState C) → endpoint_run role.plans p.examined turns (at_start role.start) ≡ p → role.plans.pace p ≡ Awaits → Stays role p.examined p
waiting-stays role turns p comes h = record {
  turns = turns;
  comes = comes;
  still = awaiting-turn role.plans p.examined p h ∙ ap (λ o. listens role.plans p o) (ap first (drop-length p.examined));
}

pub ended-turn : {C : Type 0} (S : Plans C) (got : List Message) (p : SideState C) → S.pace p ≡ HasEnded → turn S got p ≡ p
ended-turn S got p e = ap (λ (pace : Pace). turn_at S got p pace) e

-- ---- rests

-- it has no message that it didn't examine
pub waits-rests : {C : Type 0} (S : Plans C) (p : SideState C) → S.pace p ≡ Awaits → Rests S p.examined p
waits-rests S p h = subst (λ (pace : Pace). HasNone p.examined p pace) (sym h) (ap first (drop-length p.examined))

pub ended-rests : {C : Type 0} (S : Plans C) (got : List Message) (p : SideState C) → S.pace p ≡ HasEnded → Rests S got p
ended-rests S got p e = subst (λ (pace : Pace). HasNone got p pace) (sym e) tt

-- what rests with the messages that it examined rests with the first so many of more
pub rests-with-first : {C : Type 0} (role : Role C) (turns : ℕ) (sent more : List Message) (p : SideState C) → endpoint_run role.plans p.examined turns (at_start role.start) ≡ p → Rests role.plans p.examined p → sent ≡ p.examined ++ more → (length p.examined ≤ length sent) × RestsAt role.plans (take (length p.examined) sent) (at_start role.start) p
rests-with-first {C} role turns sent more p comes rests is =
    let k = length p.examined in
    let same : take k sent ≡ p.examined = ap (λ l. take k l) is ∙ take-append_seam p.examined more in
    let lengths = ap length is in
    let enough : k ≤ length sent = omega (arith, lengths, length-append p.examined more) in
    let alone : RestsAt role.plans p.examined (at_start role.start) p = record { turns = turns; comes = comes; rests = rests } in
    (enough, subst (λ (l : List Message). RestsAt role.plans l (at_start role.start) p) (sym same) alone)

-- ---- the whole messages of the bytes

-- of the messages whose bytes begin the given ones those that the side examined come first
pub record FirstOf {C : Type 0} (p : SideState C) (n : ℕ) (sent : List Message) : Type 0 where
  pub more : List Message
  pub enough : n ≤ length sent
  pub is : take n sent ≡ p.examined ++ more

pub first-of : {C : Type 0} → Wire → (role : Role C) (given rest : List ℕ) (n : ℕ) (p : SideState C) (sent : List Message) → ComesTo role given p → (whole : IsWhole given n) → Continues whole.messages sent rest [] → FirstOf p n sent
first-of w role given rest n p sent c whole b =
    let d = continues w _ p.examined whole.messages c.left whole.rest c.messages whole.keep whole.partial (sym c.got_is ∙ whole.parts) in
    let e = ap length b.is in
    record {
      more = d.more;
      enough = omega (arith, e, whole.count, length-append whole.messages b.more);
      is = ap (λ k. take k sent) (sym whole.count) ∙ ap (λ l. take (length whole.messages) l) b.is ∙ take-append_seam whole.messages b.more ∙ d.is;
    }
