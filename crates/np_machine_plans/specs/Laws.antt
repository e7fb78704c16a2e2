-- The laws of pages and plug-ins. Each is the contract of a function of src/laws.rt. (This project's own.)
use Rattle.std.specs.Prelude.{Bool, List, None, Option, Some, [], false, not, suc, true, zero, ℕ, ◌&&◌, ◌∷◌, ◌≡◌}
use Rattle.np_values.specs.declared.name.Side.TheVariants as sides
use Rattle.np_values.specs.declared.name.Side.{Side}
use Rattle.np_script_grammar.specs.declared.page.Page.{Page}
use Rattle.np_script_grammar.specs.declared.plugin.Plugin.{Plugin}
use Rattle.np_message.specs.Kinds.{is_reply}
use Rattle.np_message.specs.Message.{Message}
use Rattle.np_machine.specs.Machine.{Machine, both_start, page_turn, plugin_turn, run}
use Rattle.np_machine.specs.Plan.{Acts, Awaits, HasEnded, Pace, Plans, Stops}
use Rattle.np_machine.specs.Side.{SideState, at_start}
use Rattle.np_machine.specs.Turn.{endpoint_run, next_message}
use Rattle.np_machine_plans.specs.declared.page.PageControl.{PageControl}
use Rattle.np_machine_plans.specs.declared.plugin.PluginControl.{PluginControl}
use Rattle.np_machine_plans.specs.PageControls.{page_start}
use Rattle.np_machine_plans.specs.PagePlans.{page_plans}
use Rattle.np_machine_plans.specs.PluginPlans.{plugin_plans, plugin_start}
use Rattle.np_machine_plans.specs.RefusedNames.{first_name, first_release, is_not_out, is_too_many, message_names}

-- both sides after these turns
abbrev pub after_turns : Page → Plugin → List Side → Machine PageControl PluginControl
after_turns page plugin order = run (page_plans page) (plugin_plans plugin) order (both_start (page_start page) plugin_start)

-- ---- names

-- a side has references out to each own object that the message names, and not fewer than it gives back
pub record KnowsNames {C : Type 0} (p : SideState C) (m : Message) : Type 0 where
  pub out : first_name (is_not_out p) (message_names p.side m.body) ≡ None
  pub few : first_release (is_too_many p) m.releases ≡ None

-- In whatever order the sides take turns, the message that a side examines next isn't refused for its own names or its releases.
abbrev pub NamesLaw : Type 0
NamesLaw = (page : Page) (plugin : Plugin) (order : List Side) (m : Message) →
    let w = after_turns page plugin order in
    (next_message w.plugin.sent w.page ≡ Some m → KnowsNames w.page m)
    × (next_message w.page.sent w.plugin ≡ Some m → KnowsNames w.plugin m)

-- ---- delivery

-- no message, or one task's call
abbrev pub is_deferred_call : List Message → Bool
is_deferred_call [] = true
is_deferred_call (m ∷ []) = m.depth.task && not (is_reply m.body)
is_deferred_call (m ∷ (n ∷ ms)) = false

-- A plug-in alone, whatever the page sends: each message that it examined was delivered at once.
abbrev pub PluginDeliversLaw : Type 0
PluginDeliversLaw = (plugin : Plugin) (got : List Message) (turns : ℕ) →
    (endpoint_run (plugin_plans plugin) got turns (at_start sides.Plug plugin_start)).undelivered ≡ []

-- A page alone, whatever the plug-in sends: each message that it examined was delivered at once, but for at most one task's call, which is deferred.
abbrev pub PageDefersLaw : Type 0
PageDefersLaw = (page : Page) (got : List Message) (turns : ℕ) →
    is_deferred_call (endpoint_run (page_plans page) got turns (at_start sides.Page (page_start page))).undelivered ≡ true

-- ---- the direct run: what the page calls is done at once

-- there is no next message
abbrev pub has_no_next : Option Message → Bool
has_no_next None = true
has_no_next (Some m) = false

-- the side can do nothing at this pace
abbrev pub is_idle_at : {C : Type 0} → List Message → SideState C → Pace → Bool
is_idle_at got p Acts = false
is_idle_at got p Awaits = has_no_next (next_message got p)
is_idle_at got p HasEnded = true
is_idle_at got p (Stops r) = true

-- the side can do nothing, where these messages have come so far
abbrev pub is_idle : {C : Type 0} → Plans C → List Message → SideState C → Bool
is_idle plans got p = is_idle_at got p (plans.pace p)

-- The plug-in has turns for as long as it can do something, and the page only then.
abbrev pub direct_turn_if : {C D : Type 0} → Plans C → Plans D → Machine C D → Bool → Machine C D
direct_turn_if P Q w true = page_turn P None w
direct_turn_if P Q w false = plugin_turn Q None w

-- one turn of the direct run
abbrev pub direct_turn : {C D : Type 0} → Plans C → Plans D → Machine C D → Machine C D
direct_turn P Q w = direct_turn_if P Q w (is_idle Q w.page.sent w.plugin)

-- so many turns of the direct run
abbrev pub direct_run : {C D : Type 0} → Plans C → Plans D → ℕ → Machine C D → Machine C D
direct_run P Q zero w = w
direct_run P Q (suc n) w = direct_run P Q n (direct_turn P Q w)

-- The direct run is a run in some order of turns, so the laws of runs hold of it.
abbrev pub DirectLaw : Type 0 → Type 0 → Type 0
DirectLaw C D = (P : Plans C) (Q : Plans D) (n : ℕ) (w : Machine C D) → (order : List Side) × (run P Q order w ≡ direct_run P Q n w)
