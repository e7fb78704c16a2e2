-- One side alone with the bytes that it was given. (This project's own.)
use Rattle.std.specs.Prelude.{◌≡◌, ℕ, ◌^◌, List, ◌++◌, length, ◌⊎◌}
use Rattle.np_message.specs.Message.{Message}
use Rattle.np_model.specs.declared.script.Page.{Page}
use Rattle.np_model.specs.declared.script.Plugin.{Plugin}
use Rattle.np_model.specs.declared.refusal.Rule.TheVariants.{Bytes}
use Rattle.np_model.specs.declared.refusal.Refusal.{Refusal}
use Rattle.np_message.specs.Encoding.{encodings}
use Rattle.np_message.specs.Rules.{AreMessages}
use Rattle.np_message.specs.Decoding.{Partial, front}
use Rattle.np_model.specs.Refused.{RefusedBy}
use Rattle.np_model.specs.Side.{SideState, at_start}
use Rattle.np_model.specs.Run.{Awaits, HasEnded, Plans, endpoint_run}
use Rattle.np_model.specs.PagePlan.{PageControl, page_plans, page_start}
use Rattle.np_model.specs.PluginPlan.{PluginControl, plugin_plans, plugin_start}

-- what a script has its side be: its plans, and the control that it starts with
pub record Role (C : Type 0) : Type 0 where
  pub plans : Plans C
  pub start : C

abbrev pub page_role : Page → Role PageControl
page_role page = record { plans = page_plans page; start = page_start page }

abbrev pub plugin_role : Plugin → Role PluginControl
plugin_role plugin = record { plans = plugin_plans plugin; start = plugin_start }

-- With more messages a side with such a control comes to all that it came to, perhaps in another number of turns.
abbrev pub MoreMessages : Type 0 → Type 0
MoreMessages C = (S : Plans C) (got more : List Message) (turns : ℕ) (from : SideState C) → (k : ℕ) × (endpoint_run S (got ++ more) k from ≡ endpoint_run S got turns from)

-- with these bytes the side comes to p: the messages that it examined begin them, and `left` stands after these
pub record ComesTo {C : Type 0} (role : Role C) (got : List ℕ) (p : SideState C) : Type 0 where
  pub turns : ℕ
  pub left : List ℕ
  pub comes : endpoint_run role.plans p.examined turns (at_start role.start) ≡ p
  pub messages : AreMessages p.examined
  pub got_is : got ≡ encodings p.examined ++ left

-- it awaits a message there that isn't whole
pub record WaitsAt {C : Type 0} (role : Role C) (got : List ℕ) (p : SideState C) : Type 0 where
  pub comes_to : ComesTo role got p
  pub awaits : role.plans.pace p ≡ Awaits
  pub partial : front (length (encodings p.examined)) comes_to.left ≡ Partial

-- it has ended there
pub record EndsAt {C : Type 0} (role : Role C) (got : List ℕ) (p : SideState C) : Type 0 where
  pub comes_to : ComesTo role got p
  pub ended : role.plans.pace p ≡ HasEnded

-- ---- refusals

-- The side awaits a message, and refuses what stands at the front of `left`, the bytes after the messages that it examined.
pub record IsRefusal {C : Type 0} (role : Role C) (p : SideState C) (left : List ℕ) (r : Refusal) : Type 0 where
  pub awaits : role.plans.pace p ≡ Awaits
  pub read : List ℕ  -- the bytes that had come by then
  pub later : List ℕ
  pub left_is : left ≡ read ++ later
  pub refused : RefusedBy (role.plans.meet p) (length (encodings p.examined)) r (front (length (encodings p.examined)) read)

-- 2^40 bytes were read and another read is due
abbrev pub too_many_bytes : Refusal
too_many_bytes = record { at = 2 ^ 40; rule = Bytes; first = 2 ^ 40; second = 0 }

-- what the other side sent is refused at p
pub record RefusesAt {C : Type 0} (role : Role C) (got : List ℕ) (p : SideState C) (r : Refusal) : Type 0 where
  pub comes_to : ComesTo role got p
  pub refusal : IsRefusal role p comes_to.left r ⊎ (WaitsAt role got p × (length got ≡ 2 ^ 40) × (r ≡ too_many_bytes))

-- no place of the side with these bytes refuses what stands next in them
abbrev pub RefusesNothing : {C : Type 0} → Role C → List ℕ → Type 0
RefusesNothing {C} role got = (p : SideState C) (r : Refusal) → (c : ComesTo role got p) → IsRefusal role p c.left r → ⊥
