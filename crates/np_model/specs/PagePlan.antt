-- What a page does: its commands one after another, the closing Destroys in rising order, and Shutdown. (This project's own; the calls are those of npfunctions.h, NPPluginFuncs.)
use Rattle.std.specs.Prelude.{ℕ, ◌+◌, ◌-◌, ◌==◌, List, [], ◌∷◌, ◌++◌, length, map, Bool, true, false, if◌then◌else◌, Option, Some, None, position, slice_set}
use Rattle.np_values.specs.declared.error.NpError.{NpError}
use Rattle.np_values.specs.declared.error.NpError.TheVariants.{NoError, ModuleLoadFailed, IncompatibleVersion}
use Rattle.np_model.specs.declared.script.Command.{Command}
use Rattle.np_model.specs.declared.script.Command.TheVariants.{Create, Turn}
use Rattle.np_model.specs.declared.script.Page.{Page}
use Rattle.np_message.specs.declared.payload.Payload.{Payload}
use Rattle.np_message.specs.declared.payload.Payload.TheVariants as payloads
use Rattle.np_message.specs.declared.depth.Depth.{Depth}
use Rattle.np_message.specs.Message.{Message}
use Rattle.np_model.specs.declared.page.Outstanding.{Outstanding}
use Rattle.np_model.specs.declared.page.Outstanding.TheVariants as calls
use Rattle.np_model.specs.declared.page.Stage.{Stage}
use Rattle.np_model.specs.declared.page.Stage.TheVariants.{Begin, Ready, Awaiting, Unanswered, Ended}
use Rattle.np_model.specs.declared.page.PeerState.{PeerState}
use Rattle.np_model.specs.declared.page.PeerState.TheVariants.{Compatible, Incompatible, Lost}
use Rattle.np_model.specs.declared.page.Phase.{Phase}
use Rattle.np_model.specs.declared.page.Phase.TheVariants.{Absent, Live, Destroying, Dead}
use Rattle.np_model.specs.declared.refusal.Rule.TheVariants.{WrongKind, Unmatched}
use Rattle.np_message.specs.Encoding.{kind_of, depth_byte}
use Rattle.np_model.specs.Side.{SideState, Micro, Control, Send, Deliver, Print}
use Rattle.np_model.specs.Run.{Pace, Acts, Awaits, HasEnded, Meeting, Accepts, Refuses, Plans}
use Rattle.np_model.specs.Journal.{code_line, void_line, false_line}
use Rattle.np_model.specs.Releases.{settled}
use Rattle.np_message.specs.Kinds.{instance_of}

-- where a page stands
pub record PageControl : Type 0 where
  pub commands : List Command  -- the commands that are left
  pub number : ℕ  -- how many were begun
  pub phases : List Phase  -- of the instances that were begun, from instance 1 on
  pub peer : PeerState
  pub stage : Stage

-- a page before anything was done
abbrev pub page_start : Page → PageControl
page_start page = record { commands = page.commands; number = 0; phases = []; peer = Compatible; stage = Begin }

-- every call of the page is made at depth 0, so its level is 1; a page has no task, and nothing to give back
abbrev pub at_level_1 : Payload → Message
at_level_1 body = record { depth = record { level = 1; task = false }; releases = []; body = body }

-- the page makes a call, and awaits its reply
abbrev pub calls_for : PageControl → Outstanding → Payload → List (Micro PageControl)
calls_for c call body = Control (record c { stage = Awaiting call }) ∷ (Send (at_level_1 body) ∷ [])

-- the phase of an instance
abbrev pub with_phase : PageControl → ℕ → Phase → PageControl
with_phase c instance phase = record c { phases = slice_set c.phases (instance - 1) phase }

-- the instance that was begun last
abbrev pub last_instance : PageControl → ℕ
last_instance c = length c.phases

-- ---- commands

-- one more command was begun, and these are left
abbrev pub begun : PageControl → List Command → PageControl
begun c rest = record c { commands = rest; number = c.number + 1 }

-- a further instance
abbrev pub with_instance : PageControl → Phase → PageControl
with_instance c phase = record c { phases = c.phases ++ phase ∷ [] }

-- NPP_New of the next instance; none is made for a plug-in that is incompatible or lost
abbrev pub create_plan : PageControl → List ℕ → ℕ → PeerState → List (Micro PageControl)
create_plan c mime mode Compatible =
    let begun_with = with_instance c Live in
    calls_for begun_with calls.New (payloads.New (last_instance begun_with) mode mime [])
create_plan c mime mode Incompatible = Control (with_instance c Dead) ∷ (Print (code_line c.number IncompatibleVersion) ∷ [])
create_plan c mime mode Lost = Control (with_instance c Dead) ∷ (Print (code_line c.number ModuleLoadFailed) ∷ [])

-- an empty call, and once the plug-in is lost the line of a turn that was not answered
abbrev pub turn_plan : PageControl → PeerState → List (Micro PageControl)
turn_plan c Compatible = calls_for c calls.Turn payloads.Turn
turn_plan c Incompatible = calls_for c calls.Turn payloads.Turn
turn_plan c Lost = Control c ∷ (Print (false_line c.number) ∷ [])

-- ---- the end of the page

-- an instance that NPP_New made and NPP_Destroy was not called for
abbrev pub is_live : Phase → Bool
is_live Absent = false
is_live Live = true
is_live Destroying = false
is_live Dead = false

-- The lowest instance that is live is destroyed, and where none is, the plug-in is shut down.
abbrev pub close_plan : PageControl → Option ℕ → List (Micro PageControl)
close_plan c (Some place) = calls_for (with_phase c (place + 1) Destroying) (calls.Destroy (place + 1)) (payloads.Destroy (place + 1))
close_plan c None = calls_for c calls.Shutdown payloads.Shutdown

-- what a page does that has no command left
abbrev pub end_plan : PageControl → PeerState → List (Micro PageControl)
end_plan c Compatible = close_plan c (position is_live c.phases)
end_plan c Incompatible = close_plan c (position is_live c.phases)
end_plan c Lost = Control (record c { stage = Ended }) ∷ []

-- the next command, and where none is left the end
abbrev pub next_plan : PageControl → List Command → List (Micro PageControl)
next_plan c [] = end_plan c c.peer
next_plan c (Create mime mode ∷ rest) = create_plan (begun c rest) mime mode c.peer
next_plan c (Turn ∷ rest) = turn_plan (begun c rest) c.peer

-- ---- the peer is lost

-- what a command prints whose reply never comes
abbrev pub lost_plan : PageControl → Outstanding → List (Micro PageControl)
lost_plan c calls.Hello = Control c ∷ []
lost_plan c calls.New = Control c ∷ (Print (code_line c.number ModuleLoadFailed) ∷ [])
lost_plan c (calls.Destroy instance) = Control c ∷ []
lost_plan c calls.Turn = Control c ∷ (Print (false_line c.number) ∷ [])
lost_plan c calls.Shutdown = Control c ∷ []

-- a call that was open stays without its reply; else the page continues
abbrev pub unanswered : Stage → Stage
unanswered Begin = Ready
unanswered Ready = Ready
unanswered (Awaiting call) = Unanswered call
unanswered (Unanswered call) = Unanswered call
unanswered Ended = Ended

-- every instance is dead then, and no message is made any more
abbrev pub peer_lost : PageControl → PageControl
peer_lost c = record c { phases = map (λ phase. Dead) c.phases; peer = Lost; stage = unanswered c.stage }

-- the side of a page whose plug-in is lost
abbrev pub lose : SideState PageControl → SideState PageControl
lose p = record p { control = peer_lost p.control }

-- ---- what the page does where it doesn't wait

-- Hello, then the commands; a page that awaits a reply or has ended does nothing
abbrev pub go_plan : Page → PageControl → Stage → List (Micro PageControl)
go_plan page c Begin = calls_for c calls.Hello (payloads.Hello 1 page.major page.minor)
go_plan page c Ready = next_plan c c.commands
go_plan page c (Awaiting call) = []
go_plan page c (Unanswered call) = lost_plan (record c { stage = Ready }) call
go_plan page c Ended = []

-- whether the page acts, awaits a message or has ended
abbrev pub pace_at : Stage → Pace
pace_at Begin = Acts
pace_at Ready = Acts
pace_at (Awaiting call) = Awaits
pace_at (Unanswered call) = Acts
pace_at Ended = HasEnded

-- ---- replies

-- the page continues after a reply, and writes these lines
abbrev pub resumes : PageControl → List ℕ → Meeting PageControl
resumes c lines = Accepts (Deliver ∷ (Control (record c { stage = Ready }) ∷ (Print lines ∷ [])))

-- a reply that isn't one to the call that is open
abbrev pub unmatched : Message → Meeting PageControl
unmatched m = Refuses Unmatched (depth_byte m.depth) 1

-- NPP_New's answer: other than 0 it kills the instance
abbrev pub created : PageControl → NpError → Meeting PageControl
created c NoError = resumes c (code_line c.number NoError)
created c error = resumes (with_phase c (last_instance c) Dead) (code_line c.number error)

-- Hello's answer: 8 is an incompatible plug-in, and another than 0 and 8 is none
abbrev pub greeted : PageControl → Message → NpError → Meeting PageControl
greeted c m NoError = resumes c []
greeted c m IncompatibleVersion = resumes (record c { peer = Incompatible }) []
greeted c m error = unmatched m

-- NPP_Destroy's answer, which is 0, ends the instance
abbrev pub destroyed : PageControl → Message → ℕ → NpError → Meeting PageControl
destroyed c m instance NoError = resumes (with_phase c instance Dead) []
destroyed c m instance error = unmatched m

-- each call has its replies: Hello a code 0 or 8, New a code, Destroy the code 0, Turn and Shutdown Done
abbrev pub reply_plan : PageControl → Message → Outstanding → Payload → Meeting PageControl
reply_plan c m calls.Hello (payloads.Code error) = greeted c m error
reply_plan c m calls.New (payloads.Code error) = created c error
reply_plan c m (calls.Destroy instance) (payloads.Code error) = destroyed c m instance error
reply_plan c m calls.Turn payloads.Done = resumes c (void_line c.number)
reply_plan c m calls.Shutdown payloads.Done = Accepts (Deliver ∷ (Control (record c { stage = Ended }) ∷ []))
reply_plan c m call body = unmatched m

-- the kinds that answer a call of this page
abbrev pub may_answer : Payload → Bool
may_answer (payloads.Code error) = true
may_answer payloads.Done = true
may_answer body = false

-- the depth of the page's calls
abbrev pub is_level_1 : Depth → Bool
is_level_1 depth = depth_byte depth == 1

-- a reply where one is awaited; a page that awaits none has no call open
abbrev pub meet_at : PageControl → Message → Stage → Meeting PageControl
meet_at c m (Awaiting call) = if is_level_1 m.depth then reply_plan c m call m.body else unmatched m
meet_at c m stage = unmatched m

-- what the page does with a message: a kind that answers no call of it is refused first
abbrev pub answer_plan : PageControl → Message → Meeting PageControl
answer_plan c m = if may_answer m.body then meet_at c m c.stage else Refuses WrongKind (kind_of m.body) (instance_of m.body)

-- after that its releases are looked at
abbrev pub meet_plan : PageControl → Message → Meeting PageControl
meet_plan c m = settled c.phases m (answer_plan c m)

-- all that this page has its side do
abbrev pub page_plans : Page → Plans PageControl
page_plans page = record {
  pace = λ p. pace_at p.control.stage;
  go = λ p. go_plan page p.control p.control.stage;
  meet = λ p m. meet_plan p.control m;
}
