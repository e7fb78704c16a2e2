-- The control of a page: how it starts, and how a command's line ends it. (This project's own.)
use Rattle.std.specs.Prelude.{List, None, [], false, ℕ, ◌++◌, ◌∷◌}
use Rattle.np_values.specs.declared.value.Value.TheVariants as values
use Rattle.np_values.specs.declared.value.Value.{Value}
use Rattle.np_script_grammar.specs.declared.page.Page.{Page}
use Rattle.np_message.specs.declared.depth.Depth.{Depth}
use Rattle.np_message.specs.declared.payload.Payload.{Payload}
use Rattle.np_journal.specs.declared.line.Line.TheVariants.{CommandResult}
use Rattle.np_journal.specs.declared.printed.Printed.TheVariants as printed
use Rattle.np_journal.specs.declared.printed.Printed.{Printed}
use Rattle.np_machine.specs.declared.draft.Draft.TheVariants.{PlainDraft}
use Rattle.np_machine.specs.declared.frame.Continuation.TheVariants.{Discard}
use Rattle.np_machine.specs.declared.frame.Continuation.{Continuation}
use Rattle.np_machine.specs.declared.place.Place.TheVariants.{PageRegister}
use Rattle.np_machine.specs.declared.step.Step.TheVariants.{Constant, Print}
use Rattle.np_machine.specs.declared.step.Step.{Step}
use Rattle.np_machine.specs.Plan.{Plan}
use Rattle.np_machine.specs.References.{name_of}
use Rattle.np_machine_plans.specs.View.{SideView}
use Rattle.np_machine_plans.specs.declared.page.Outstanding.{Outstanding}
use Rattle.np_machine_plans.specs.declared.page.PageControl.{PageControl}
use Rattle.np_machine_plans.specs.declared.page.PeerState.TheVariants as peers
use Rattle.np_machine_plans.specs.declared.page.Stage.TheVariants as stages
use Rattle.np_machine_plans.specs.PlanParts.{assign, names_dead, plan, sending}
use Rattle.np_machine_plans.specs.Results.{CallResult, Enumerated, Failed, Returned, ReturnedCode, Threw, continue_steps, result_steps}

-- a page before its first call
abbrev pub page_start : Page → PageControl
page_start page = record {
  commands = page.commands;
  number = 0;
  instances = 0;
  peer = peers.Compatible;
  stage = stages.Start;
  arrived = None;
  deferred_place = 0;
  streams = [];
  stream_count = 0;
  actions_done = 0;
}

-- the next command is due
abbrev pub ready : PageControl → PageControl
ready c = record c { stage = stages.Ready; arrived = None }

-- what arrived is handled
abbrev pub handled : PageControl → PageControl
handled c = record c { arrived = None }

-- the command does these steps, and writes its line
abbrev pub ends_command : PageControl → List Step → Printed → Plan PageControl
ends_command c steps result = plan (ready c) (steps ++ Print (CommandResult c.number result) ∷ [])

-- the register gets Void, and the command's result is false
abbrev pub command_fails : PageControl → ℕ → Plan PageControl
command_fails c r = ends_command c (Constant values.Void ∷ assign (PageRegister r)) printed.No

-- a call of the page itself has level 1 and no task's mark
abbrev pub command_depth : Depth
command_depth = record { level = 1; task = false }

-- the command makes this call, and awaits its reply
abbrev pub command_calls : PageControl → List Step → Outstanding → Payload → Plan PageControl
command_calls c steps outstanding body = sending (record c { stage = stages.Awaiting outstanding; arrived = None }) steps command_depth (PlainDraft body)

-- ---- results of commands

-- a value as a result, with whether it names a dead object
abbrev pub printed_value : SideView → Value → Printed
printed_value p v = printed.Yes v (names_dead p (name_of v))

-- a command that drops its value prints Void
abbrev pub printed_success : SideView → Continuation → Value → Printed
printed_success p Discard v = printed.Yes values.Void false
printed_success p continuation v = printed_value p v

-- the line of a command whose call has this result
abbrev pub printed_result : SideView → Continuation → CallResult → Printed
printed_result p continuation (Returned v) = printed_success p continuation v
printed_result p continuation Failed = printed.No
printed_result p continuation (Threw text) = printed.Threw text
printed_result p continuation (Enumerated keys) = printed.Ids keys
printed_result p continuation (ReturnedCode error) = printed.Code error

-- the register gets the result's value, and the line is written
abbrev pub command_result : PageControl → SideView → Continuation → CallResult → Plan PageControl
command_result c p continuation result =
    ends_command c (result_steps result ++ continue_steps PageRegister continuation) (printed_result p continuation result)
