-- The window object of an instance, which the plug-in asks the page for. (npfunctions.h, NPN_GetValue, NPNVWindowNPObject.)
-- It is an object of the page's class `Window`, made when it is first asked for and kept in the instance's window slot. (This project's own.)
use Rattle.std.specs.Prelude.{Bool, None, Option, Some, [], codes, false, if◌then◌else◌, true, ℕ, ◌∷◌}
use Rattle.np_values.specs.declared.name.Name.{Name}
use Rattle.np_script_grammar.specs.declared.page.Page.{Page}
use Rattle.np_message.specs.declared.depth.Depth.{Depth}
use Rattle.np_message.specs.declared.payload.Payload.TheVariants as payloads
use Rattle.np_life.specs.declared.phase.Phase.TheVariants as phases
use Rattle.np_life.specs.declared.phase.Phase.{Phase}
use Rattle.np_machine.specs.declared.draft.Draft.TheVariants.{PlainDraft, ValueDraft}
use Rattle.np_machine.specs.declared.place.Place.TheVariants.{Slot}
use Rattle.np_machine.specs.declared.step.Step.TheVariants.{Copy, Create, DropEach, HandOver, Put}
use Rattle.np_machine.specs.Instances.{phase_in, slots_in}
use Rattle.np_machine.specs.Plan.{Plan}
use Rattle.np_machine.specs.References.{name_of}
use Rattle.np_machine_plans.specs.View.{SideView}
use Rattle.np_machine.specs.Values.{read_at}
use Rattle.np_machine_plans.specs.declared.page.PageControl.{PageControl}
use Rattle.np_machine_plans.specs.Actions.{has_room}
use Rattle.np_machine_plans.specs.Classes.{class_place}
use Rattle.np_machine_plans.specs.PlanParts.{sending}

-- the slot of the window object; the slots 0 to 7 are the script's
abbrev pub window_slot : ℕ
window_slot = 8

-- it is made where the class is declared and the page has room
abbrev pub make_window : PageControl → Depth → ℕ → Option ℕ → Bool → Plan PageControl
make_window c depth i None room = sending c [] depth (PlainDraft payloads.False)
make_window c depth i (Some class) room =
    if room then sending c (Create i class ∷ (Put (Slot i window_slot) ∷ (DropEach 1 ∷ (Copy (Slot i window_slot) ∷ (HandOver ∷ []))))) depth ValueDraft
    else sending c [] depth (PlainDraft payloads.False)

-- the window object that is there, or a new one
abbrev pub window_or_new : Page → PageControl → SideView → Depth → ℕ → Option Name → Plan PageControl
window_or_new page c p depth i (Some name) = sending c (Copy (Slot i window_slot) ∷ (HandOver ∷ [])) depth ValueDraft
window_or_new page c p depth i None = make_window c depth i (class_place (codes "Window") page.classes) (has_room p)

-- the instance was begun and isn't torn down
abbrev pub is_there : Phase → Bool
is_there phases.Live = true
is_there phases.Destroying = true
is_there phase = false

-- NPN_GetValue asks for the window: its object, or false where there is none
abbrev pub window_reply : Page → PageControl → SideView → Depth → ℕ → Plan PageControl
window_reply page c p depth i =
    if is_there (phase_in i p.instances) then window_or_new page c p depth i (name_of (read_at window_slot (slots_in i p.instances)))
    else sending c [] depth (PlainDraft payloads.False)
