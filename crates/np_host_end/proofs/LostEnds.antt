-- How an end goes on whose plug-in is lost.
use Rattle.std.proofs.Common.{◌≡◌, ℕ, suc, List, [], refl, ap, sym, ◌∙◌, subst}
use Rattle.np_model.specs.declared.script.Page.{Page}
use Rattle.np_model.specs.declared.page.Stage.TheVariants.{Ended}
use Rattle.np_model.specs.Side.{SideState, Micro, run_steps, at_start}
use Rattle.np_model.specs.Run.{Awaits, HasEnded, turn}
use Rattle.np_model.specs.PagePlan.{PageControl, page_plans, go_plan, lose, peer_lost}
use Rattle.np_model.specs.HostRun.{IsAwaiting}
use Rattle.np_host_end.specs.Core.{IsActing}
use Rattle.np_model.specs.Alone.{page_role}
use Rattle.np_model.proofs.Paces.{page-awaiting, page-ended}
use Rattle.np_endpoint.specs.End.{EndState, StandsFor, HasPace, RestsAs}
use Rattle.np_endpoint.specs.declared.halt.Halt.{Halt}
use Rattle.np_endpoint.specs.declared.halt.Halt.TheVariants.{Waiting, Finished, Refused}
use Rattle.np_endpoint.proofs.Stands.{EndMoves, Follows, follows, ActsBy}
use Rattle.np_host_end.specs.HostEnd.{StandsLost, IsUnrefused, KeepsLost}
use Rattle.np_host_end.proofs.PageTurns.{IsQuiet, quiet-run, unawaited, lost-again, acts-by}

-- the page's side alone goes on by its own steps
pub lost-acted : (page : Page) (p : SideState PageControl) (sent printed : List ℕ) (old new : EndState Page PageControl) → IsActing old.control.stage → EndMoves old new (go_plan old.script old.control old.control.stage) → StandsLost page p sent printed old → StandsLost page p sent printed new
lost-acted page p sent printed old new a m s = record {
  same_script = m.script ∙ s.same_script;
  side = run_steps steps s.side;
  turns = suc s.turns;
  comes = ap (turn (page_plans page) []) s.comes ∙ acted s.side [] (sym s.control);
  control = f.control;
  unrefused = subst IsUnrefused (sym m.new_state) tt;
  sent_is = f.sent_is;
  printed_is = f.printed_is;
}
  where
    steps : List (Micro PageControl)
    steps = go_plan old.script old.control old.control.stage

    acted : ActsBy (page_role page) old.control steps
    acted = subst (λ (q : Page). ActsBy (page_role q) old.control steps) s.same_script (acts-by old.script old.control a)

    f : Follows sent printed new (run_steps steps s.side)
    f = follows sent printed old new steps s.side m (record { control = s.control; sent_is = s.sent_is; printed_is = s.printed_is })

quiet : (page : Page) (p : SideState PageControl) (sent printed : List ℕ) (e : EndState Page PageControl) → StandsLost page p sent printed e → IsQuiet e.control
quiet page p sent printed e s = subst IsQuiet (sym s.control) (subst (λ (q : SideState PageControl). IsQuiet q.control) s.comes (quiet-run page s.turns p))

pub lost-never-awaits : (page : Page) (p : SideState PageControl) (sent printed : List ℕ) (e : EndState Page PageControl) → StandsLost page p sent printed e → IsAwaiting e.control.stage → ⊥
lost-never-awaits page p sent printed e s a = unawaited e.control.stage (quiet page p sent printed e s).stage a

-- the pace of a page, in the word of its stage
pub awaiting-end : (e : EndState Page PageControl) → HasPace (page_role e.script) e.control Awaits → IsAwaiting e.control.stage
awaiting-end e pace = page-awaiting e.control.stage (pace (at_start e.control) refl)

pub ended-end : (e : EndState Page PageControl) → HasPace (page_role e.script) e.control HasEnded → e.control.stage ≡ Ended
ended-end e pace = page-ended e.control.stage (pace (at_start e.control) refl)

pub lost-ends : (page : Page) (p : SideState PageControl) (sent printed : List ℕ) (old new : EndState Page PageControl) (state : Halt) → KeepsLost old new → RestsAs page_role new state → StandsLost page p sent printed old → new.control.stage ≡ Ended
lost-ends page p sent printed old new Waiting k r s = absurd (lost-never-awaits page p sent printed new (k page p sent printed s) (awaiting-end new r.1))
lost-ends page p sent printed old new Finished k r s = ended-end new r.1
lost-ends page p sent printed old new (Refused refusal) k r s = absurd (subst IsUnrefused r (k page p sent printed s).unrefused)

-- ---- the loss of the plug-in

-- the end after the loss
abbrev pub gone_from : EndState Page PageControl → EndState Page PageControl
gone_from e = record e { control = peer_lost e.control; state = Waiting }

pub stands-gone : (page : Page) (got sent printed : List ℕ) (e : EndState Page PageControl) (s : StandsFor page_role page got sent printed e) → StandsLost page s.side sent printed (gone_from e)
stands-gone page got sent printed e s = record {
  same_script = s.same_script;
  side = lose s.side;
  turns = 0;
  comes = refl;
  control = ap peer_lost s.control;
  unrefused = tt;
  sent_is = s.sent_is;
  printed_is = s.printed_is;
}

-- what is lost twice is as it was
pub lost-gone : (page : Page) (p : SideState PageControl) (sent printed : List ℕ) (e : EndState Page PageControl) → StandsLost page p sent printed e → StandsLost page p sent printed (gone_from e)
lost-gone page p sent printed e s = record {
  same_script = s.same_script;
  side = s.side;
  turns = s.turns;
  comes = s.comes;
  control = lost-again e.control (quiet page p sent printed e s) ∙ s.control;
  unrefused = tt;
  sent_is = s.sent_is;
  printed_is = s.printed_is;
}
