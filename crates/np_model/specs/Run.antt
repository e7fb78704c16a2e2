-- What a side does with its plans alone, and the machine of both sides. (This project's own.)
use Rattle.std.specs.Prelude.{◌≡◌, ℕ, zero, suc, ◌≤◌, List, [], ◌∷◌, length, take, drop, Option, Some, None}
use Rattle.np_message.specs.Message.{Message}
use Rattle.np_model.specs.declared.refusal.Rule.{Rule}
use Rattle.np_model.specs.Side.{SideState, Micro, run_steps, examine}

-- a side acts, awaits a message of the other side, or has ended
pub data Pace : Type 0 where
  Acts : Pace
  Awaits : Pace
  HasEnded : Pace

-- what a side has to do with a message: the steps of a plan, or it refuses it, by a rule and two numbers
pub data Meeting (C : Type 0) : Type 0 where
  Accepts : List (Micro C) → Meeting C
  Refuses : Rule → ℕ → ℕ → Meeting C

-- all that a script has its side do
pub record Plans (C : Type 0) : Type 0 where
  pub pace : SideState C → Pace
  pub go : SideState C → List (Micro C)
  pub meet : SideState C → Message → Meeting C

-- the first message, if there is one
abbrev pub first : List Message → Option Message
first [] = None
first (m ∷ rest) = Some m

-- of the messages that reach a side, the first that it didn't examine
abbrev pub next_message : {C : Type 0} → List Message → SideState C → Option Message
next_message got p = first (drop (length p.examined) got)

-- nothing of a refused message takes effect
abbrev pub meets : {C : Type 0} → SideState C → Message → Meeting C → SideState C
meets p m (Accepts steps) = run_steps steps (examine m p)
meets p m (Refuses rule first second) = p

-- a side that awaits a message meets it, if it is there
abbrev pub listens : {C : Type 0} → Plans C → SideState C → Option Message → SideState C
listens S p None = p
listens S p (Some m) = meets p m (S.meet p m)

-- a turn at this pace
abbrev pub turn_at : {C : Type 0} → Plans C → List Message → SideState C → Pace → SideState C
turn_at S got p Acts = run_steps (S.go p) p
turn_at S got p Awaits = listens S p (next_message got p)
turn_at S got p HasEnded = p

-- a side's turn, where these messages of the other side have come so far
abbrev pub turn : {C : Type 0} → Plans C → List Message → SideState C → SideState C
turn S got p = turn_at S got p (S.pace p)

-- one side alone, which all these messages reach
abbrev pub endpoint_run : {C : Type 0} → Plans C → List Message → ℕ → SideState C → SideState C
endpoint_run S got zero p = p
endpoint_run S got (suc n) p = turn S got (endpoint_run S got n p)

-- ---- both sides

-- both sides of one process
pub record Machine (C D : Type 0) : Type 0 where
  pub page : SideState C
  pub plugin : SideState D

-- which side has a turn
pub data Side : Type 0 where
  OfPage : Side
  OfPlugin : Side

-- the messages that come through a gate: all, or the first this many
abbrev pub through : Option ℕ → List Message → List Message
through None messages = messages
through (Some k) messages = take k messages

-- the page has a turn, and the plug-in stays as it is
abbrev pub page_turn : {C D : Type 0} → Plans C → Option ℕ → Machine C D → Machine C D
page_turn P k w = record { page = turn P (through k w.plugin.sent) w.page; plugin = w.plugin }

-- the plug-in has a turn, and the page stays as it is
abbrev pub plugin_turn : {C D : Type 0} → Plans D → Option ℕ → Machine C D → Machine C D
plugin_turn Q j w = record { page = w.page; plugin = turn Q (through j w.page.sent) w.plugin }

-- the sides take turns in some order
abbrev pub run : {C D : Type 0} → Plans C → Plans D → List Side → Machine C D → Machine C D
run P Q [] w = w
run P Q (OfPage ∷ order) w = run P Q order (page_turn P None w)
run P Q (OfPlugin ∷ order) w = run P Q order (plugin_turn Q None w)

-- One process: in each round the page has a turn, and then the plug-in. Of the plug-in's messages the gate k lets through what reaches the page, and j those of the page.
abbrev pub machine_run : {C D : Type 0} → Plans C → Plans D → Option ℕ → Option ℕ → ℕ → Machine C D → Machine C D
machine_run P Q k j zero w = w
machine_run P Q k j (suc n) w = plugin_turn Q j (page_turn P k (machine_run P Q k j n w))

-- ---- rests

-- no message is there for a side that awaits one
abbrev pub HasNone : {C : Type 0} → List Message → SideState C → Pace → Type 0
HasNone got p Acts = ⊥
HasNone got p Awaits = next_message got p ≡ None
HasNone got p HasEnded = Unit {0}

-- a side does nothing more unless more messages come
abbrev pub Rests : {C : Type 0} → Plans C → List Message → SideState C → Type 0
Rests S got p = HasNone got p (S.pace p)

-- one side alone comes to p and rests there
pub record RestsAt {C : Type 0} (S : Plans C) (got : List Message) (from p : SideState C) : Type 0 where
  pub turns : ℕ
  pub comes : endpoint_run S got turns from ≡ p
  pub rests : Rests S got p

-- the page rests at p in the run in which the first k messages of the plug-in reach it
pub record PageRests {C D : Type 0} (P : Plans C) (Q : Plans D) (w : Machine C D) (k : ℕ) (p : SideState C) : Type 0 where
  pub rounds : ℕ
  pub comes : (machine_run P Q (Some k) None rounds w).page ≡ p
  pub rests : Rests P (take k (machine_run P Q (Some k) None rounds w).plugin.sent) p
  pub enough : k ≤ length (machine_run P Q (Some k) None rounds w).plugin.sent

-- the plug-in rests at q in the run in which the first j messages of the page reach it
pub record PluginRests {C D : Type 0} (P : Plans C) (Q : Plans D) (w : Machine C D) (j : ℕ) (q : SideState D) : Type 0 where
  pub rounds : ℕ
  pub comes : (machine_run P Q None (Some j) rounds w).plugin ≡ q
  pub rests : Rests Q (take j (machine_run P Q None (Some j) rounds w).page.sent) q
  pub enough : j ≤ length (machine_run P Q None (Some j) rounds w).page.sent
