-- A turn of a side is the same under both tests, and leaves both sides in order.
use Rattle.std.proofs.Common.{◌≡◌, ℕ, zero, suc, List, [], ◌∷◌, ◌++◌, length, Bool, refl, sym, ap, ◌∙◌, subst, arith, append_assoc, drop, take, Option, Some, None}
use Rattle.np_values.specs.declared.name.Side.{Side}
use Rattle.np_values.specs.declared.name.Side.TheVariants.{Page, Plug}
use Rattle.np_values.specs.declared.name.Name.{Name}
use Rattle.np_message.specs.Message.{Message}
use Rattle.np_machine.specs.References.{other_side}
use Rattle.np_machine.specs.Side.{SideState, at_start}
use Rattle.np_machine.specs.declared.draft.Sending.{Sending}
use Rattle.np_machine.specs.declared.step.Step.{Step}
use Rattle.np_machine.specs.Messages.{send_draft, examine}
use Rattle.np_machine.specs.Steps.{run_step, run_steps}
use Rattle.np_machine.specs.Plan.{Plan, run_plan, Pace, Acts, Awaits, HasEnded, Stops, Meeting, Accepts, Refuses, Plans}
use Rattle.np_machine.specs.Turn.{unexamined, is_remote_by_places, is_remote_by_messages, first, next_message, meets, listens, turn_at, turn}
use Rattle.np_machine.specs.Machine.{Machine, through, page_turn, plugin_turn, machine_run}
use Rattle.np_machine.proofs.Counting.{carried_in-append, released_in-append}
use Rattle.np_machine.proofs.Balances.{examine-sound, sends-sound, step-sound}
use Rattle.np_machine.proofs.SoundRuns.{start-sound}
use Rattle.np_machine.proofs.Growing.{sends-grow, step-grows}
use Rattle.np_machine.proofs.Examining.{first-is, sends-examined, step-examined}
use Rattle.np_machine.proofs.Backing.{IsBacked, sends-backed, step-backed}
use Rattle.np_machine.proofs.Accounts.{sends-accounts, sends-side, step-accounts, step-side}
use Rattle.np_machine.proofs.RemoteTests.{BothSound, agree, flip, unexamined-is}

step-both : {C D : Type 0} (remote : Name → Bool) (step : Step) (p : SideState C) (q : SideState D) → BothSound p q → BothSound (run_step remote step p) q
step-both remote step p q b =
    let g = (step-grows remote step p).sent in
    record {
      sound = step-sound remote step p b.sound;
      backed = step-backed remote step p b.sound b.backed;
      accounts = step-accounts remote step p b.accounts;
      behind = record { rest = b.behind.rest; is = ap (λ l. l ++ b.behind.rest) (step-examined remote step p) ∙ b.behind.is };
      sound' = b.sound';
      backed' = b.backed';
      accounts' = b.accounts';
      behind' = record { rest = b.behind'.rest ++ g.more; is = sym (append_assoc q.examined b.behind'.rest g.more) ∙ ap (λ l. l ++ g.more) b.behind'.is ∙ sym g.is };
      apart = ap other_side (step-side remote step p) ∙ b.apart;
    }

steps-agree : {C D : Type 0} (steps : List Step) (p : SideState C) (q : SideState D) → BothSound p q → (run_steps (is_remote_by_places q) steps p ≡ run_steps is_remote_by_messages steps p) × BothSound (run_steps is_remote_by_messages steps p) q
steps-agree [] p q b = (refl, b)
steps-agree (step ∷ steps) p q b =
    let e : is_remote_by_places q p ≡ is_remote_by_messages p = λ i x. agree p q b x i in
    let n = steps-agree steps (run_step (is_remote_by_messages p) step p) q (step-both (is_remote_by_messages p) step p q b) in
    (ap (λ f. run_steps (is_remote_by_places q) steps (run_step f step p)) e ∙ n.0, n.1)

sends-both : {C D : Type 0} (o : Option Sending) (c : C) (p : SideState C) (q : SideState D) → BothSound p q → BothSound (record (send_draft o p) { control = c }) q
sends-both o c p q b =
    let g = (sends-grow o p).sent in
    let s = sends-sound o p b.sound in
    record {
      sound = record { balances = s.balances; positive = s.positive };
      backed = sends-backed o p b.backed;
      accounts = sends-accounts o p b.accounts;
      behind = record { rest = b.behind.rest; is = ap (λ l. l ++ b.behind.rest) (sends-examined o p) ∙ b.behind.is };
      sound' = b.sound';
      backed' = b.backed';
      accounts' = b.accounts';
      behind' = record { rest = b.behind'.rest ++ g.more; is = sym (append_assoc q.examined b.behind'.rest g.more) ∙ ap (λ l. l ++ g.more) b.behind'.is ∙ sym g.is };
      apart = ap other_side (sends-side o p) ∙ b.apart;
    }

plan-agree : {C D : Type 0} (plan : Plan C) (p : SideState C) (q : SideState D) → BothSound p q → (run_plan (is_remote_by_places q) plan p ≡ run_plan is_remote_by_messages plan p) × BothSound (run_plan is_remote_by_messages plan p) q
plan-agree plan p q b =
    let s = steps-agree plan.steps p q b in
    (ap (λ (r : SideState _). record (send_draft plan.sends r) { control = plan.control }) s.0, sends-both plan.sends plan.control (run_steps is_remote_by_messages plan.steps p) q s.1)

examine-both : {C D : Type 0} (m : Message) (p : SideState C) (q : SideState D) → BothSound p q → next_message q.sent p ≡ Some m → BothSound (examine m p) q
examine-both m p q b e =
    let f = first-is (unexamined q p) m e in
    let r : b.behind.rest ≡ m ∷ f.0 = sym (unexamined-is q p b.behind) ∙ f.1 in
    record {
      sound = examine-sound m p b.sound;
      backed = b.backed;
      accounts = λ x. record { carried_sum = omega (arith, (b.accounts x).carried_sum, carried_in-append p.side x p.examined (m ∷ [])); released_sum = omega (arith, (b.accounts x).released_sum, released_in-append x p.examined (m ∷ [])) };
      behind = record { rest = f.0; is = append_assoc p.examined (m ∷ []) f.0 ∙ ap (λ l. p.examined ++ l) (sym r) ∙ b.behind.is };
      sound' = b.sound';
      backed' = b.backed';
      accounts' = b.accounts';
      behind' = b.behind';
      apart = b.apart;
    }

-- the next message that comes through a gate is the next message
through-next : {C : Type 0} (k : Option ℕ) (sent : List Message) (p : SideState C) (m : Message) → next_message (through k sent) p ≡ Some m → next_message sent p ≡ Some m
through-next None sent p m e = e
through-next (Some k) sent p m e = go k (length p.examined) sent e
  where
    go : (k j : ℕ) (l : List Message) → first (drop j (take k l)) ≡ Some m → first (drop j l) ≡ Some m
    go zero zero l e = cc
    go zero (suc j) l e = cc
    go (suc k) zero [] e = e
    go (suc k) zero (x ∷ l) e = e
    go (suc k) (suc j) [] e = e
    go (suc k) (suc j) (x ∷ l) e = go k j l e

-- a turn of a side to which a gate lets the first messages through
turn-agree : {C D : Type 0} (S : Plans C) (k : Option ℕ) (p : SideState C) (q : SideState D) → BothSound p q → (turn (is_remote_by_places q) S (through k q.sent) p ≡ turn is_remote_by_messages S (through k q.sent) p) × BothSound (turn is_remote_by_messages S (through k q.sent) p) q
turn-agree S k p q b = at (S.pace p)
  where
    met : (m : Message) → next_message q.sent p ≡ Some m → (meeting : Meeting _) → (meets (is_remote_by_places q) p m meeting ≡ meets is_remote_by_messages p m meeting) × BothSound (meets is_remote_by_messages p m meeting) q
    met m e (Accepts plan) = plan-agree plan (examine m p) q (examine-both m p q b e)
    met m e (Refuses rule first second) = (refl, b)

    heard : (o : Option Message) → next_message (through k q.sent) p ≡ o → (listens (is_remote_by_places q) S p o ≡ listens is_remote_by_messages S p o) × BothSound (listens is_remote_by_messages S p o) q
    heard None e = (refl, b)
    heard (Some m) e = met m (through-next k q.sent p m e) (S.meet p m)

    at : (pace : Pace) → (turn_at (is_remote_by_places q) S (through k q.sent) p pace ≡ turn_at is_remote_by_messages S (through k q.sent) p pace) × BothSound (turn_at is_remote_by_messages S (through k q.sent) p pace) q
    at Acts = plan-agree (S.go p) p q b
    at Awaits = heard (next_message (through k q.sent) p) refl
    at HasEnded = (refl, b)
    at (Stops r) = (refl, b)

pub page-both : {C D : Type 0} (P : Plans C) (k : Option ℕ) (w : Machine C D) → BothSound w.page w.plugin → ((page_turn P k w).page ≡ turn is_remote_by_messages P (through k w.plugin.sent) w.page) × BothSound (page_turn P k w).page (page_turn P k w).plugin
page-both P k w b =
    let a = turn-agree P k w.page w.plugin b in
    (a.0, subst (λ p. BothSound p w.plugin) (sym a.0) a.1)

pub plugin-both : {C D : Type 0} (Q : Plans D) (j : Option ℕ) (w : Machine C D) → BothSound w.page w.plugin → ((plugin_turn Q j w).plugin ≡ turn is_remote_by_messages Q (through j w.page.sent) w.plugin) × BothSound (plugin_turn Q j w).page (plugin_turn Q j w).plugin
plugin-both Q j w b =
    let a = turn-agree Q j w.plugin w.page (flip w.page w.plugin b) in
    (a.0, subst (λ q. BothSound w.page q) (sym a.0) (flip _ w.page a.1))

pub run-both : {C D : Type 0} (P : Plans C) (Q : Plans D) (k j : Option ℕ) (n : ℕ) (w : Machine C D) → BothSound w.page w.plugin → BothSound (machine_run P Q k j n w).page (machine_run P Q k j n w).plugin
run-both P Q k j zero w b = b
run-both P Q k j (suc n) w b =
    let u = machine_run P Q k j n w in
    (plugin-both Q j (page_turn P k u) (page-both P k u (run-both P Q k j n w b)).1).1

start-backed : {C : Type 0} (side : Side) (c : C) → IsBacked (at_start side c)
start-backed side c = λ x o. record { all = tt; now = λ z. absurd (omega arith) }

pub start-both : {C D : Type 0} (c : C) (d : D) → BothSound (at_start Page c) (at_start Plug d)
start-both c d = record {
  sound = start-sound Page c;
  backed = start-backed Page c;
  accounts = λ x. record { carried_sum = refl; released_sum = refl };
  behind = record { rest = []; is = refl };
  sound' = start-sound Plug d;
  backed' = start-backed Plug d;
  accounts' = λ x. record { carried_sum = refl; released_sum = refl };
  behind' = record { rest = []; is = refl };
  apart = refl;
}
