-- Where runs end: a side rests where only a further message can change it. (This project's own.)
use Rattle.std.specs.Prelude.{◌≡◌, ℕ, ◌≤◌, List, length, take, Some, None}
use Rattle.np_message.specs.Message.{Message}
use Rattle.np_machine.specs.Side.{SideState}
use Rattle.np_machine.specs.Plan.{Pace, Acts, Awaits, HasEnded, Stops, Plans}
use Rattle.np_machine.specs.Turn.{next_message, endpoint_run}
use Rattle.np_machine.specs.Machine.{Machine, machine_run}

-- no message is there for a side at this pace that awaits one
abbrev pub HasNone : {C : Type 0} → List Message → SideState C → Pace → Type 0
HasNone got p Acts = ⊥
HasNone got p Awaits = next_message got p ≡ None
HasNone got p HasEnded = Unit {0}
HasNone got p (Stops r) = ⊥

-- a side does nothing more unless more messages come
abbrev pub Rests : {C : Type 0} → Plans C → List Message → SideState C → Type 0
Rests S got p = HasNone got p (S.pace p)

-- one side alone reaches p and rests there
pub record RestsAt {C : Type 0} (S : Plans C) (got : List Message) (from p : SideState C) : Type 0 where
  pub turns : ℕ
  pub comes : endpoint_run S got turns from ≡ p
  pub rests : Rests S got p

-- the page rests at p in the run in which the first k messages of the plug-in reach it
pub record PageRests {C D : Type 0} (P : Plans C) (Q : Plans D) (w : Machine C D) (k : ℕ) (p : SideState C) : Type 0 where
  pub rounds : ℕ
  pub comes : (machine_run P Q (Some k) None rounds w).page ≡ p
  pub rests : Rests P (take k (machine_run P Q (Some k) None rounds w).plugin.sent) p
  pub enough : k ≤ length (machine_run P Q (Some k) None rounds w).plugin.sent

-- the plug-in rests at q in the run in which the first j messages of the page reach it
pub record PluginRests {C D : Type 0} (P : Plans C) (Q : Plans D) (w : Machine C D) (j : ℕ) (q : SideState D) : Type 0 where
  pub rounds : ℕ
  pub comes : (machine_run P Q None (Some j) rounds w).plugin ≡ q
  pub rests : Rests Q (take j (machine_run P Q None (Some j) rounds w).page.sent) q
  pub enough : j ≤ length (machine_run P Q None (Some j) rounds w).page.sent
