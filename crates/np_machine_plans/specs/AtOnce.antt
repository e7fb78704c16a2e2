-- Tests of a state of both sides: each message is delivered at once, and none is refused. The worked rows hold them at each state of
-- runs in several orders of turns. (This project's own.)
use Rattle.std.specs.Prelude.{Bool, List, None, Option, Some, [], false, not, true, zero, suc, ℕ, ◌&&◌, ◌++◌, ◌||◌, ◌∷◌}
use Rattle.np_values.specs.declared.name.Side.{Side}
use Rattle.np_values.specs.declared.name.Side.TheVariants as sides
use Rattle.np_script_grammar.specs.declared.page.Page.{Page}
use Rattle.np_script_grammar.specs.declared.plugin.Plugin.{Plugin}
use Rattle.np_message.specs.Message.{Message}
use Rattle.np_machine.specs.declared.refusal.Refusal.{Refusal}
use Rattle.np_machine.specs.Machine.{Machine, both_start, page_turn, plugin_turn}
use Rattle.np_machine.specs.Plan.{Acts, Pace, Plans}
use Rattle.np_machine.specs.Turn.{refused, unexamined}
use Rattle.np_machine_plans.specs.declared.page.PageControl.{PageControl}
use Rattle.np_machine_plans.specs.declared.plugin.PluginControl.{PluginControl}
use Rattle.np_machine_plans.specs.Laws.{is_deferred_call}
use Rattle.np_machine_plans.specs.OpenCalls.{serves_call}
use Rattle.np_machine_plans.specs.PageControls.{page_start}
use Rattle.np_machine_plans.specs.PagePlans.{page_plans}
use Rattle.np_machine_plans.specs.PluginPlans.{plugin_plans, plugin_start}

-- ---- at once

-- there is no message
abbrev pub is_none : List Message → Bool
is_none [] = true
is_none (m ∷ ms) = false

-- there is no message, or one
abbrev pub is_at_most_one : List Message → Bool
is_at_most_one [] = true
is_at_most_one (m ∷ []) = true
is_at_most_one (m ∷ (n ∷ ms)) = false

-- the side acts at this pace
abbrev pub acts : Pace → Bool
acts Acts = true
acts pace = false

-- Where the page acts, it has examined all that the plug-in sent but for a task's call; it delivered all that it examined but for a deferred call.
abbrev pub page_at_once : Page → Machine PageControl PluginControl → Bool
page_at_once page w = (not (acts ((page_plans page).pace w.page)) || is_deferred_call (unexamined w.plugin w.page)) && is_deferred_call w.page.undelivered

-- while a call of the page is served no message is on the way, else at most one
abbrev pub none_on_the_way : Bool → List Message → Bool
none_on_the_way true messages = is_none messages
none_on_the_way false messages = is_at_most_one messages

-- Where the plug-in acts, it has examined all that the page sent, but for one call while its tasks run; it delivered all that it examined.
abbrev pub plugin_at_once : Plugin → Machine PageControl PluginControl → Bool
plugin_at_once plugin w =
    (not (acts ((plugin_plans plugin).pace w.plugin)) || none_on_the_way (serves_call w.plugin.frames) (unexamined w.page w.plugin)) && is_none w.plugin.undelivered

-- ---- refused

-- nothing is refused
abbrev pub is_no_refusal : Option Refusal → Bool
is_no_refusal None = true
is_no_refusal (Some r) = false

-- neither side refuses its next message, nor a deferred call
abbrev pub refuses_none : Page → Plugin → Machine PageControl PluginControl → Bool
refuses_none page plugin w = is_no_refusal (refused (page_plans page) w.plugin.sent w.page) && is_no_refusal (refused (plugin_plans plugin) w.page.sent w.plugin)

-- ---- along a run

-- all of these tests
abbrev pub is_orderly : Page → Plugin → Machine PageControl PluginControl → Bool
is_orderly page plugin w = page_at_once page w && (plugin_at_once plugin w && refuses_none page plugin w)

-- the test holds at each state of the run in this order of turns
abbrev pub holds_along : {C D : Type 0} → (Machine C D → Bool) → Plans C → Plans D → List Side → Machine C D → Bool
holds_along test P Q [] w = test w
holds_along test P Q (sides.Page ∷ order) w = test w && holds_along test P Q order (page_turn P None w)
holds_along test P Q (sides.Plug ∷ order) w = test w && holds_along test P Q order (plugin_turn Q None w)

-- these turns, so many times
abbrev pub turns_again : List Side → ℕ → List Side
turns_again turns zero = []
turns_again turns (suc n) = turns ++ turns_again turns n

-- each state of the run of two scripts is orderly, where the sides take these turns so many times
abbrev pub orderly_along : List Side → ℕ → Page → Plugin → Bool
orderly_along turns n page plugin =
    holds_along (is_orderly page plugin) (page_plans page) (plugin_plans plugin) (turns_again turns n) (both_start (page_start page) plugin_start)
