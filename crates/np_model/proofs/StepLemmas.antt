-- What a plan's steps do to a side, part by part.
use Rattle.std.proofs.Common.{◌≡◌, ℕ, List, [], ◌∷◌, ◌++◌, refl, ap, sym, ◌∙◌, append_assoc, append-nil}
use Rattle.np_message.specs.Message.{Message}
use Rattle.np_model.specs.Side.{SideState, Micro, Control, Send, Deliver, Print, deliver, micro_step, run_steps}
use Rattle.np_model.specs.Steps.{control_after, sent_by, printed_by}

-- a delivery changes the two lists of deliveries alone
pub record Delivered {C : Type 0} (p q : SideState C) : Type 0 where
  pub control : q.control ≡ p.control
  pub sent : q.sent ≡ p.sent
  pub examined : q.examined ≡ p.examined
  pub journal : q.journal ≡ p.journal

delivered : {C : Type 0} (waiting : List Message) (p : SideState C) → Delivered p (deliver waiting p)
delivered [] p = record { control = refl; sent = refl; examined = refl; journal = refl }
delivered (m ∷ rest) p = record { control = refl; sent = refl; examined = refl; journal = refl }

pub run-control : {C : Type 0} (steps : List (Micro C)) (p : SideState C) → (run_steps steps p).control ≡ control_after steps p.control
run-control [] p = refl
run-control (Control d ∷ steps) p = run-control steps (record p { control = d })
run-control (Send m ∷ steps) p = run-control steps (micro_step (Send m) p)
run-control (Deliver ∷ steps) p = run-control steps (deliver p.undelivered p) ∙ ap (control_after steps) (delivered p.undelivered p).control
run-control (Print line ∷ steps) p = run-control steps (micro_step (Print line) p)

pub run-sent : {C : Type 0} (steps : List (Micro C)) (p : SideState C) → (run_steps steps p).sent ≡ p.sent ++ sent_by steps
run-sent [] p = sym (append-nil p.sent)
run-sent (Control d ∷ steps) p = run-sent steps (record p { control = d })
run-sent (Send m ∷ steps) p = run-sent steps (micro_step (Send m) p) ∙ append_assoc p.sent (m ∷ []) (sent_by steps)
run-sent (Deliver ∷ steps) p = run-sent steps (deliver p.undelivered p) ∙ ap (λ (l : List Message). l ++ sent_by steps) (delivered p.undelivered p).sent
run-sent (Print line ∷ steps) p = run-sent steps (micro_step (Print line) p)

pub run-journal : {C : Type 0} (steps : List (Micro C)) (p : SideState C) → (run_steps steps p).journal ≡ p.journal ++ printed_by steps
run-journal [] p = sym (append-nil p.journal)
run-journal (Control d ∷ steps) p = run-journal steps (record p { control = d })
run-journal (Send m ∷ steps) p = run-journal steps (micro_step (Send m) p)
run-journal (Deliver ∷ steps) p = run-journal steps (deliver p.undelivered p) ∙ ap (λ (l : List ℕ). l ++ printed_by steps) (delivered p.undelivered p).journal
run-journal (Print line ∷ steps) p = run-journal steps (micro_step (Print line) p) ∙ append_assoc p.journal line (printed_by steps)

pub run-examined : {C : Type 0} (steps : List (Micro C)) (p : SideState C) → (run_steps steps p).examined ≡ p.examined
run-examined [] p = refl
run-examined (Control d ∷ steps) p = run-examined steps (record p { control = d })
run-examined (Send m ∷ steps) p = run-examined steps (micro_step (Send m) p)
run-examined (Deliver ∷ steps) p = run-examined steps (deliver p.undelivered p) ∙ (delivered p.undelivered p).examined
run-examined (Print line ∷ steps) p = run-examined steps (micro_step (Print line) p)
