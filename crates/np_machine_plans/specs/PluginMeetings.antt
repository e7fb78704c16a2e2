-- Which messages a plug-in accepts or refuses: `wrong-kind`, `unmatched` and `place`. (This project's own.)
use Rattle.std.specs.Prelude.{Bool, List, Some, [], false, if◌then◌else◌, length, nat_lt, not, suc, true, zero, ℕ, ◌&&◌, ◌+◌, ◌==◌, ◌||◌, ◌∷◌}
use Rattle.np_message.specs.declared.depth.Depth.{Depth}
use Rattle.np_message.specs.declared.payload.Payload.TheVariants as payloads
use Rattle.np_message.specs.declared.payload.Payload.{Payload}
use Rattle.np_message.specs.Encoding.{depth_byte, kind_of}
use Rattle.np_message.specs.Kinds.{instance_of, is_reply}
use Rattle.np_message.specs.Message.{Message}
use Rattle.np_machine.specs.declared.frame.Frame.{Frame}
use Rattle.np_machine.specs.declared.refusal.Rule.TheVariants as rules
use Rattle.np_machine.specs.Instances.{phase_in}
use Rattle.np_machine.specs.Plan.{Accepts, Meeting}
use Rattle.np_machine.specs.Side.{SideState}
use Rattle.np_machine_plans.specs.View.{SideView, is_dead, view}
use Rattle.np_machine_plans.specs.declared.plugin.PluginControl.{PluginControl}
use Rattle.np_machine_plans.specs.FittingReplies.{fits_awaited}
use Rattle.np_machine_plans.specs.OpenCalls.{is_depth_of_newest, last_level, open_depths, serves_call}
use Rattle.np_machine_plans.specs.PlanParts.{delivery, plan}
use Rattle.np_machine_plans.specs.RefusedNames.{is_absent}
use Rattle.np_machine_plans.specs.Verdicts.{Breaks, Delivers, Verdict, is_from_page, meeting}

-- the message is Hello
abbrev pub is_hello : Payload → Bool
is_hello (payloads.Hello version major minor) = true
is_hello body = false

-- the first message is Hello, and no later one is, where so many were examined before
abbrev pub fits_hello : Bool → ℕ → Bool
fits_hello hello zero = hello
fits_hello hello (suc n) = not hello

-- a call of an instance that wasn't torn down
abbrev pub wants_living : Payload → Bool
wants_living (payloads.Destroy i) = true
wants_living (payloads.Scriptable i) = true
wants_living (payloads.NewStream i stream url mime size) = true
wants_living (payloads.WriteReady i stream) = true
wants_living (payloads.Write i stream offset bytes) = true
wants_living (payloads.AsFile i stream path) = true
wants_living (payloads.DestroyStream i stream reason) = true
wants_living (payloads.Notify i url reason word) = true
wants_living body = false

-- NPP_New is of the next instance; other messages are of an instance that was begun
abbrev pub fits_instance : SideView → Payload → Bool
fits_instance p (payloads.New i mode mime attributes) = i == length p.instances + 1
fits_instance p body =
    (instance_of body == 0 || not (is_absent (phase_in (instance_of body) p.instances))) && not (wants_living body && is_dead p (instance_of body))

-- ---- open calls

-- the plug-in's open calls, the newest first; those that it makes while it serves no call of the page have a task's mark
abbrev pub plugin_depths : SideView → List Depth
plugin_depths p = open_depths (λ frames. not (serves_call frames)) false p.frames

-- those that have no task's mark
abbrev pub unmarked : List Depth → List Depth
unmarked [] = []
unmarked (d ∷ ds) = if d.task then unmarked ds else (d ∷ unmarked ds)

-- a call of the page is deeper than the newest open call that isn't a task's
abbrev pub is_deeper : Depth → List Depth → Bool
is_deeper depth [] = true
is_deeper depth (d ∷ ds) = nat_lt d.level depth.level

-- a reply to what the newest frame awaits
abbrev pub fits_plugin : List Frame → Payload → Bool
fits_plugin [] body = false
fits_plugin (frame ∷ below) body = fits_awaited frame.progress.awaits body

-- ---- the verdict

-- it is of a kind that pages send, it may come now, and its instance may be named
abbrev pub is_kind_for_plugin : SideView → Payload → Bool
is_kind_for_plugin p body = is_from_page body && (fits_hello (is_hello body) p.examined && fits_instance p body)

-- the kind is tried first, then the place in the order of calls
abbrev pub plugin_verdict : SideView → Message → Verdict
plugin_verdict p m =
    if not (is_kind_for_plugin p m.body) then Breaks rules.WrongKind (kind_of m.body) (instance_of m.body)
    else if is_reply m.body then
    (if is_depth_of_newest m.depth (plugin_depths p) && fits_plugin p.frames m.body then Delivers else Breaks rules.Unmatched (depth_byte m.depth) (last_level (plugin_depths p)))
    else if not m.depth.task && is_deeper m.depth (unmarked (plugin_depths p)) then Delivers
    else Breaks rules.Place (depth_byte m.depth) (last_level (plugin_depths p))

-- ---- the meeting

-- the message is delivered, and handled at the next turn
abbrev pub plugin_accepts : PluginControl → Message → Meeting PluginControl
plugin_accepts c m = Accepts (plan (record c { arrived = Some m }) delivery)

-- a plug-in defers no call
abbrev pub plugin_meeting : SideState PluginControl → Message → Meeting PluginControl
plugin_meeting p m = meeting p m (plugin_verdict (view p) m) (plugin_accepts p.control m) (plugin_accepts p.control m)
