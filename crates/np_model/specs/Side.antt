-- One side of the machine, and its micro steps. (This project's own.)
-- A side's control is what its plans alone read: for the page its commands, for the plug-in its handlers.
use Rattle.std.specs.Prelude.{ℕ, List, [], ◌∷◌, ◌++◌}
use Rattle.np_message.specs.Message.{Message}

-- all that one side is and did
pub record SideState (C : Type 0) : Type 0 where
  pub control : C
  pub sent : List Message  -- all messages that it sent
  pub examined : List Message  -- all messages of the other side that it examined
  pub undelivered : List Message  -- of these, what was not delivered yet, the newest first
  pub delivered : List Message  -- and what was delivered, in that order
  pub journal : List ℕ  -- the bytes of its lines

-- a side before anything was done
abbrev pub at_start : {C : Type 0} → C → SideState C
at_start control = record { control = control; sent = []; examined = []; undelivered = []; delivered = []; journal = [] }

-- the smallest things that a side does
pub data Micro (C : Type 0) : Type 0 where
  Control : C → Micro C  -- the control becomes this
  Send : Message → Micro C
  Deliver : Micro C  -- the message that was examined last is delivered
  Print : List ℕ → Micro C  -- the journal gets these bytes

-- the newest of the messages that wait is delivered, if there is one
abbrev pub deliver : {C : Type 0} → List Message → SideState C → SideState C
deliver [] p = p
deliver (m ∷ rest) p = record p { undelivered = rest; delivered = p.delivered ++ m ∷ [] }

-- what each step does
abbrev pub micro_step : {C : Type 0} → Micro C → SideState C → SideState C
micro_step (Control c) p = record p { control = c }
micro_step (Send m) p = record p { sent = p.sent ++ m ∷ [] }
micro_step Deliver p = deliver p.undelivered p
micro_step (Print line) p = record p { journal = p.journal ++ line }

-- one step after another
abbrev pub run_steps : {C : Type 0} → List (Micro C) → SideState C → SideState C
run_steps [] p = p
run_steps (step ∷ steps) p = run_steps steps (micro_step step p)

-- a message is examined
abbrev pub examine : {C : Type 0} → Message → SideState C → SideState C
examine m p = record p { examined = p.examined ++ m ∷ []; undelivered = m ∷ p.undelivered }
