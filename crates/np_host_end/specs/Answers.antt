-- What a reply does to the page whose call it answers. (This project's own.)
use Rattle.std.specs.Prelude.{◌≡◌, [], ◌∷◌, Option, Some, None}
use Rattle.np_message.specs.declared.payload.Payload.{Payload}
use Rattle.np_message.specs.Message.{Message}
use Rattle.np_model.specs.declared.page.Outstanding.{Outstanding}
use Rattle.np_model.specs.declared.page.Stage.TheVariants.{Ended}
use Rattle.np_model.specs.declared.page.PeerState.TheVariants as peers
use Rattle.np_model.specs.Side.{Control, Deliver}
use Rattle.np_model.specs.Run.{Meeting, Accepts}
use Rattle.np_model.specs.Journal.{void_line}
use Rattle.np_model.specs.PagePlan.{PageControl, resumes, created, with_phase, reply_plan, unmatched}
use Rattle.np_model.specs.declared.page.Phase.TheVariants.{Dead}
use Rattle.np_host_end.specs.declared.answer.Answer.{Answer}
use Rattle.np_host_end.specs.declared.answer.Answer.TheVariants.{Compatible, Incompatible, Created, Destroyed, Turned, ShutDown}

-- the plan of an answer
abbrev pub answered : PageControl → Answer → Meeting PageControl
answered c Compatible = resumes c []
answered c Incompatible = resumes (record c { peer = peers.Incompatible }) []
answered c (Created error) = created c error
answered c (Destroyed instance) = resumes (with_phase c instance Dead) []
answered c Turned = resumes c (void_line c.number)
answered c ShutDown = Accepts (Deliver ∷ (Control (record c { stage = Ended }) ∷ []))

-- the reply has this answer's plan, or is none to the call
abbrev pub Answers : Outstanding → Payload → Option Answer → Type 0
Answers call body None = (c : PageControl) (m : Message) → reply_plan c m call body ≡ unmatched m
Answers call body (Some answer) = (c : PageControl) (m : Message) → reply_plan c m call body ≡ answered c answer
