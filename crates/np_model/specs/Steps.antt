-- What the steps of a plan do to the control, and what they send and print. (This project's own.)
use Rattle.std.specs.Prelude.{ℕ, List, [], ◌∷◌, ◌++◌}
use Rattle.np_message.specs.Message.{Message}
use Rattle.np_model.specs.Side.{Micro, Control, Send, Deliver, Print}

-- the control after the steps
abbrev pub control_after : {C : Type 0} → List (Micro C) → C → C
control_after [] c = c
control_after (Control d ∷ steps) c = control_after steps d
control_after (Send m ∷ steps) c = control_after steps c
control_after (Deliver ∷ steps) c = control_after steps c
control_after (Print line ∷ steps) c = control_after steps c

-- the messages that the steps send
abbrev pub sent_by : {C : Type 0} → List (Micro C) → List Message
sent_by [] = []
sent_by (Control d ∷ steps) = sent_by steps
sent_by (Send m ∷ steps) = m ∷ sent_by steps
sent_by (Deliver ∷ steps) = sent_by steps
sent_by (Print line ∷ steps) = sent_by steps

-- the bytes that the steps print
abbrev pub printed_by : {C : Type 0} → List (Micro C) → List ℕ
printed_by [] = []
printed_by (Control d ∷ steps) = printed_by steps
printed_by (Send m ∷ steps) = printed_by steps
printed_by (Deliver ∷ steps) = printed_by steps
printed_by (Print line ∷ steps) = line ++ printed_by steps
