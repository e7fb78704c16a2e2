-- A plug-in delivers each message as it examines it.
use Rattle.std.proofs.Common.{◌≡◌, ℕ, zero, suc, List, [], ◌∷◌, refl, ap, ◌∙◌, Option, Some, None, drop}
use Rattle.np_values.specs.declared.name.Side.TheVariants.{Plug}
use Rattle.np_script_grammar.specs.declared.plugin.Plugin.{Plugin}
use Rattle.np_message.specs.Message.{Message}
use Rattle.np_machine.specs.declared.step.Step.TheVariants.{Deliver, Sweep, Deallocate}
use Rattle.np_machine.specs.Side.{SideState, at_start}
use Rattle.np_machine.specs.Steps.{run_step}
use Rattle.np_machine.specs.Messages.{examine}
use Rattle.np_machine.specs.Plan.{Pace, Acts, Awaits, HasEnded, Stops}
use Rattle.np_machine.specs.Turn.{is_remote_by_messages, next_message, meets, listens, turn_at, turn, endpoint_run}
use Rattle.np_machine.specs.Laws.{DeliveredLaw}
use Rattle.np_machine_plans.specs.declared.plugin.PluginControl.{PluginControl}
use Rattle.np_machine_plans.specs.PlanParts.{plan}
use Rattle.np_machine_plans.specs.RefusedNames.{Breach, breach_of_names}
use Rattle.np_machine_plans.specs.Verdicts.{Verdict, Delivers, Defers, Breaks, unless_broken, meeting}
use Rattle.np_machine_plans.specs.View.{view}
use Rattle.np_machine_plans.specs.PluginMeetings.{plugin_verdict, plugin_accepts}
use Rattle.np_machine_plans.specs.PluginPlans.{plugin_plans, plugin_start}
use Rattle.np_machine_plans.proofs.Deliveries.{drop-none}

turn-delivers : DeliveredLaw PluginControl → (plugin : Plugin) (got : List Message) (p : SideState PluginControl) → p.undelivered ≡ [] → (turn is_remote_by_messages (plugin_plans plugin) got p).undelivered ≡ []
turn-delivers law plugin got p e = at ((plugin_plans plugin).pace p)
  where
    accepted : (m : Message) → (meets is_remote_by_messages p m (plugin_accepts p.control m)).undelivered ≡ []
    accepted m =
        let l = law is_remote_by_messages (plan (record p.control { arrived = Some m }) (Sweep ∷ (Deallocate ∷ []))) (run_step (is_remote_by_messages (examine m p)) Deliver (examine m p)) in
        l.1 ∙ ap (λ (w : List Message). drop l.0 w) e ∙ drop-none l.0 [] refl

    delivered : (m : Message) → (o : Option Breach) → (meets is_remote_by_messages p m (unless_broken (plugin_accepts p.control m) o)).undelivered ≡ []
    delivered m None = accepted m
    delivered m (Some b) = e

    met : (m : Message) → (v : Verdict) → (meets is_remote_by_messages p m (meeting p m v (plugin_accepts p.control m) (plugin_accepts p.control m))).undelivered ≡ []
    met m Delivers = delivered m (breach_of_names p m)
    met m Defers = accepted m
    met m (Breaks rule first second) = e

    heard : (o : Option Message) → (listens is_remote_by_messages (plugin_plans plugin) p o).undelivered ≡ []
    heard None = e
    heard (Some m) = met m (plugin_verdict (view p) m)

    at : (pace : Pace) → (turn_at is_remote_by_messages (plugin_plans plugin) got p pace).undelivered ≡ []
    at Acts =
        let l = law is_remote_by_messages ((plugin_plans plugin).go p) p in
        l.1 ∙ ap (λ (w : List Message). drop l.0 w) e ∙ drop-none l.0 [] refl
    at Awaits = heard (next_message got p)
    at HasEnded = e
    at (Stops r) = e

pub delivers-all : DeliveredLaw PluginControl → (plugin : Plugin) (got : List Message) (n : ℕ) → (endpoint_run (plugin_plans plugin) got n (at_start Plug plugin_start)).undelivered ≡ []
delivers-all law plugin got zero = refl
delivers-all law plugin got (suc n) = turn-delivers law plugin got (endpoint_run (plugin_plans plugin) got n (at_start Plug plugin_start)) (delivers-all law plugin got n)
