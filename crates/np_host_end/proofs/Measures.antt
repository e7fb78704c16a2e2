-- Each step of a run makes what is left to do less.
use Rattle.std.proofs.Common.{◌≡◌, ℕ, ◌+◌, ◌*◌, ◌<◌, ◌≤◌, List, length, refl, ap, subst, arith}
use Rattle.np_model.specs.declared.script.Page.{Page}
use Rattle.np_message.specs.Message.{Message}
use Rattle.np_model.specs.declared.page.Stage.{Stage}
use Rattle.np_model.specs.declared.page.Stage.TheVariants.{Begin, Ready, Awaiting, Unanswered, Ended}
use Rattle.np_model.specs.Side.{Micro}
use Rattle.np_model.specs.Run.{Accepts}
use Rattle.np_model.specs.PagePlan.{PageControl, go_plan, meet_plan}
use Rattle.np_model.specs.Steps.{control_after}
use Rattle.np_model_laws.proofs.Weights.{control_weight, Lighter, begin-lighter, ready-lighter, unanswered-lighter, Light, light}
use Rattle.np_host_end.specs.Core.{IsActing}

-- what is left to do: for the page, and for the bytes that weren't read
abbrev pub weight : PageControl → List ℕ → ℕ
weight c unread = control_weight c + 2 * length unread

stage-lighter : (page : Page) (c : PageControl) (s : Stage) → c.stage ≡ s → IsActing s → Lighter c (go_plan page c s)
stage-lighter page c Begin is a = begin-lighter page c is
stage-lighter page c Ready is a = ready-lighter page c is
stage-lighter page c (Awaiting call) is a = absurd a
stage-lighter page c (Unanswered call) is a = unanswered-lighter page c call is
stage-lighter page c Ended is a = absurd a

pub act-lighter : (page : Page) (c d : PageControl) (old new : List ℕ) → IsActing c.stage → d ≡ control_after (go_plan page c c.stage) c → new ≡ old → weight d new < weight c old
act-lighter page c d old new a e f =
    let lighter = stage-lighter page c c.stage refl a in
    let w : control_weight d ≡ control_weight (control_after (go_plan page c c.stage) c) = ap control_weight e in
    let u : length new ≡ length old = ap length f in
    omega (arith, lighter, w, u)

pub meet-lighter : (c d : PageControl) (m : Message) (steps : List (Micro PageControl)) (old new : List ℕ) → meet_plan c m ≡ Accepts steps → d ≡ control_after steps c → length new + 1 ≤ length old → weight d new < weight c old
meet-lighter c d m steps old new plan e shorter =
    let h : Light c (Accepts steps) = subst (Light c) plan (light c m) in
    let w : control_weight d ≡ control_weight (control_after steps c) = ap control_weight e in
    omega (arith, h, w, shorter)
