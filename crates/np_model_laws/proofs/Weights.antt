-- Each turn of the page alone makes what is left to do less.
use Rattle.std.proofs.Common.{◌≡◌, ℕ, ◌+◌, ◌<◌, ◌≤◌, List, [], ◌∷◌, length, Bool, true, false, cond, Option, Some, None, refl, ap, ◌∙◌, arith}
use Rattle.std.specs.Prelude.{position}
use Rattle.np_values.specs.declared.error.NpError.{NpError}
use Rattle.np_values.specs.declared.error.NpError.TheVariants.{NoError, IncompatibleVersion}
use Rattle.np_model.specs.declared.script.Page.{Page}
use Rattle.np_model.specs.declared.script.Command.{Command}
use Rattle.np_model.specs.declared.script.Command.TheVariants as commands
use Rattle.np_message.specs.Message.{Message}
use Rattle.np_message.specs.declared.payload.Payload.{Payload}
use Rattle.np_message.specs.declared.payload.Payload.TheVariants as payloads
use Rattle.np_model.specs.declared.page.Outstanding.{Outstanding}
use Rattle.np_model.specs.declared.page.Outstanding.TheVariants as calls
use Rattle.np_model.specs.declared.page.Stage.{Stage}
use Rattle.np_model.specs.declared.page.Stage.TheVariants.{Begin, Ready, Awaiting, Unanswered, Ended}
use Rattle.np_model.specs.declared.page.PeerState.{PeerState}
use Rattle.np_model.specs.declared.page.PeerState.TheVariants.{Compatible, Incompatible, Lost}
use Rattle.np_model.specs.Side.{Micro}
use Rattle.np_model.specs.Run.{Meeting, Accepts, Refuses}
use Rattle.np_model.proofs.Settled.{settled-by}
use Rattle.np_model.specs.PagePlan.{PageControl, go_plan, next_plan, end_plan, close_plan, create_plan, turn_plan, lost_plan, begun, is_live, answer_plan, meet_plan, meet_at, reply_plan, greeted, created, destroyed, may_answer, is_level_1}
use Rattle.np_model.specs.Steps.{control_after}

abbrev pub stage_weight : Stage → ℕ
stage_weight Begin = 1
stage_weight Ready = 1
stage_weight (Awaiting call) = 0
stage_weight (Unanswered call) = 2
stage_weight Ended = 0

-- the commands that are left and the page's stage
abbrev pub control_weight : PageControl → ℕ
control_weight c = length c.commands + stage_weight c.stage

-- ---- a turn without a message

abbrev pub Lighter : PageControl → List (Micro PageControl) → Type 0
Lighter c steps = control_weight (control_after steps c) < control_weight c

close-lighter : (c : PageControl) (o : Option ℕ) → stage_weight c.stage ≡ 1 → Lighter c (close_plan c o)
close-lighter c (Some place) w = omega arith
close-lighter c None w = omega arith

end-lighter : (c : PageControl) (peer : PeerState) → stage_weight c.stage ≡ 1 → Lighter c (end_plan c peer)
end-lighter c Compatible w = close-lighter c (position is_live c.phases) w
end-lighter c Incompatible w = close-lighter c (position is_live c.phases) w
end-lighter c Lost w = omega arith

-- of a command that was begun with `rest` behind it
create-lighter : (c : PageControl) (rest : List Command) (mime : List ℕ) (mode : ℕ) (peer : PeerState) → stage_weight c.stage ≡ 1 → length c.commands ≡ length rest + 1 → Lighter c (create_plan (begun c rest) mime mode peer)
create-lighter c rest mime mode Compatible w l = omega arith
create-lighter c rest mime mode Incompatible w l = omega arith
create-lighter c rest mime mode Lost w l = omega arith

turn-lighter : (c : PageControl) (rest : List Command) (peer : PeerState) → stage_weight c.stage ≡ 1 → length c.commands ≡ length rest + 1 → Lighter c (turn_plan (begun c rest) peer)
turn-lighter c rest Compatible w l = omega arith
turn-lighter c rest Incompatible w l = omega arith
turn-lighter c rest Lost w l = omega arith

next-lighter : (c : PageControl) (list : List Command) → stage_weight c.stage ≡ 1 → c.commands ≡ list → Lighter c (next_plan c list)
next-lighter c [] w l = end-lighter c c.peer w
next-lighter c (commands.Create mime mode ∷ rest) w l = create-lighter c rest mime mode c.peer w (ap length l ∙ omega arith)
next-lighter c (commands.Turn ∷ rest) w l = turn-lighter c rest c.peer w (ap length l ∙ omega arith)

lost-lighter : (c : PageControl) (call : Outstanding) → stage_weight c.stage ≡ 2 → Lighter c (lost_plan (record c { stage = Ready }) call)
lost-lighter c calls.Hello w = omega arith
lost-lighter c calls.New w = omega arith
lost-lighter c (calls.Destroy instance) w = omega arith
lost-lighter c calls.Turn w = omega arith
lost-lighter c calls.Shutdown w = omega arith

pub begin-lighter : (page : Page) (c : PageControl) → c.stage ≡ Begin → Lighter c (go_plan page c Begin)
begin-lighter page c is = let w = ap stage_weight is in omega (arith, w)

pub ready-lighter : (page : Page) (c : PageControl) → c.stage ≡ Ready → Lighter c (go_plan page c Ready)
ready-lighter page c is = next-lighter c c.commands (ap stage_weight is) refl

pub unanswered-lighter : (page : Page) (c : PageControl) (call : Outstanding) → c.stage ≡ Unanswered call → Lighter c (go_plan page c (Unanswered call))
unanswered-lighter page c call is = lost-lighter c call (ap stage_weight is)

-- ---- a message: what is accepted adds at most one

abbrev pub Light : PageControl → Meeting PageControl → Type 0
Light c (Accepts steps) = control_weight (control_after steps c) ≤ length c.commands + 1
Light c (Refuses rule first second) = Unit {0}

light-greeted : (c : PageControl) (m : Message) (error : NpError) → Light c (greeted c m error)
light-greeted c m NoError = omega arith
light-greeted c m IncompatibleVersion = omega arith
light-greeted c m error = tt

light-created : (c : PageControl) (error : NpError) → Light c (created c error)
light-created c NoError = omega arith
light-created c error = omega arith

light-destroyed : (c : PageControl) (m : Message) (instance : ℕ) (error : NpError) → Light c (destroyed c m instance error)
light-destroyed c m instance NoError = omega arith
light-destroyed c m instance error = tt

light-reply : (c : PageControl) (m : Message) (call : Outstanding) (body : Payload) → Light c (reply_plan c m call body)
light-reply c m calls.Hello (payloads.Code error) = light-greeted c m error
light-reply c m calls.New (payloads.Code error) = light-created c error
light-reply c m (calls.Destroy instance) (payloads.Code error) = light-destroyed c m instance error
light-reply c m calls.Turn payloads.Done = omega arith
light-reply c m calls.Shutdown payloads.Done = omega arith
light-reply c m call body = tt

light-cond : (c : PageControl) (b : Bool) (x y : Meeting PageControl) → Light c x → Light c y → Light c (cond b x y)
light-cond c true x y p q = p
light-cond c false x y p q = q

light-at : (c : PageControl) (m : Message) (s : Stage) → Light c (meet_at c m s)
light-at c m Begin = tt
light-at c m Ready = tt
light-at c m (Awaiting call) = light-cond c (is_level_1 m.depth) _ _ (light-reply c m call m.body) tt
light-at c m (Unanswered call) = tt
light-at c m Ended = tt

pub light : (c : PageControl) (m : Message) → Light c (meet_plan c m)
light c m =
    settled-by (Light c) c.phases m (answer_plan c m) (λ rule a b. tt)
    (light-cond c (may_answer m.body) _ _ (light-at c m c.stage) tt)
