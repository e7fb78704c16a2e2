-- The budget of actions, by computing: it is tested only before what counts as an action.
use Rattle.std.proofs.Common.{◌≡◌, ℕ, List, [], ◌∷◌, refl, false, Some, None}
use Rattle.std.specs.Prelude.{codes}
use Rattle.np_values.specs.declared.name.Side.TheVariants as sides
use Rattle.np_values.specs.declared.value.Value.TheVariants as values
use Rattle.np_script_grammar.specs.declared.action.Action.{Action}
use Rattle.np_script_grammar.specs.declared.action.Action.TheVariants as actions
use Rattle.np_script_grammar.specs.declared.command.Command.{Command}
use Rattle.np_script_grammar.specs.declared.command.Command.TheVariants as commands
use Rattle.np_script_grammar.specs.declared.page.Page.{Page}
use Rattle.np_script_grammar.specs.declared.plugin.Plugin.{Plugin}
use Rattle.np_message.specs.declared.payload.Payload.TheVariants as payloads
use Rattle.np_machine.specs.declared.frame.BodyId.TheVariants as bodies
use Rattle.np_machine.specs.declared.frame.Caller.TheVariants.{NoCaller}
use Rattle.np_machine.specs.declared.frame.Frame.{Frame}
use Rattle.np_machine.specs.declared.draft.Draft.TheVariants.{PlainDraft}
use Rattle.np_machine.specs.Plan.{Plan}
use Rattle.np_machine.specs.Side.{SideState, at_start}
use Rattle.np_machine.specs.Values.{voids}
use Rattle.np_machine_plans.specs.declared.page.PageControl.{PageControl}
use Rattle.np_machine_plans.specs.declared.page.Stage.{Stage}
use Rattle.np_machine_plans.specs.declared.page.Stage.TheVariants as stages
use Rattle.np_machine_plans.specs.declared.plugin.PluginControl.{PluginControl}
use Rattle.np_machine_plans.specs.declared.plugin.PluginStage.TheVariants as plugin_stages
use Rattle.np_machine_plans.specs.PageControls.{command_depth, page_start}
use Rattle.np_machine_plans.specs.PagePlans.{page_plans}
use Rattle.np_machine_plans.specs.PluginPlans.{plugin_plans, plugin_start}

-- ---- a page

abbrev page-of : List Command → Page
page-of commands = record { major = 0; minor = 27; classes = []; resources = []; commands = commands }

-- a page at this stage, with so many actions done
abbrev page-at : Stage → List Command → ℕ → SideState PageControl
page-at stage commands done = at_start sides.Page (record (page_start (page-of commands)) { stage = stage; actions_done = done })

abbrev page-plan : Stage → List Command → ℕ → Plan PageControl
page-plan stage commands done = (page_plans (page-of commands)).go (page-at stage commands done)

last-command-runs : (page-plan stages.Ready (commands.Drop 0 ∷ []) 999999).control.actions_done ≡ 1000000
last-command-runs = refl

next-command-exhausts : (page-plan stages.Ready (commands.Drop 0 ∷ []) 1000000).control.stage ≡ stages.Exhausted
next-command-exhausts = refl

end-is-not-counted : (page-plan stages.Ready [] 1000000).sends ≡ Some (record { depth = command_depth; draft = PlainDraft payloads.Shutdown })
end-is-not-counted = refl

pump-without-a-turn-is-not-counted : (page-plan (stages.Pumping 0 3) [] 1000000).control.stage ≡ stages.Ready
pump-without-a-turn-is-not-counted = refl

pump-without-a-call-is-not-counted : (page-plan (stages.Pumping 5 3) [] 1000000).control.stage ≡ stages.Ready
pump-without-a-call-is-not-counted = refl

-- ---- a plug-in

-- a plug-in whose one task has this body
abbrev plugin-of : List Action → Plugin
plugin-of body = record { major = 0; minor = 27; classes = []; handlers = []; tasks = record { name = codes "t"; body = body } ∷ [] }

-- the frame of that task, with so many of its actions done
abbrev task-frame : ℕ → Frame
task-frame done = record {
  instance = 1;
  depth = 0;
  caller = NoCaller;
  body = bodies.Task 0;
  this = values.Null;
  registers = voids 16;
  progress = record { flag = false; exception = None; done = done; awaits = None };
}

abbrev plugin-at : ℕ → ℕ → SideState PluginControl
plugin-at done all_done = record (at_start sides.Plug (record plugin_start { actions_done = all_done })) { frames = task-frame done ∷ [] }

abbrev plugin-plan : ℕ → ℕ → Plan PluginControl
plugin-plan done all_done = (plugin_plans (plugin-of (actions.Drop 0 ∷ []))).go (plugin-at done all_done)

last-action-runs : (plugin-plan 0 999999).control.actions_done ≡ 1000000
last-action-runs = refl

next-action-exhausts : (plugin-plan 0 1000000).control.stage ≡ plugin_stages.Exhausted
next-action-exhausts = refl

end-of-a-body-is-not-counted : (plugin-plan 1 1000000).control.stage ≡ plugin_stages.Serving
end-of-a-body-is-not-counted = refl
