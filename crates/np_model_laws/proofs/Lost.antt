-- The page goes on alone after the plug-in is lost: it sends nothing more, and ends.
use Rattle.std.proofs.Common.{◌≡◌, ℕ, zero, suc, List, [], ◌∷◌, refl, sym, ap, ◌∙◌, subst}
use Rattle.np_message.specs.Message.{Message}
use Rattle.np_model.specs.declared.script.Command.{Command}
use Rattle.np_model.specs.declared.script.Command.TheVariants.{Create, Turn}
use Rattle.np_model.specs.declared.script.Page.{Page}
use Rattle.np_model.specs.declared.page.Outstanding.{Outstanding}
use Rattle.np_model.specs.declared.page.Outstanding.TheVariants as calls
use Rattle.np_model.specs.declared.page.Stage.{Stage}
use Rattle.np_model.specs.declared.page.Stage.TheVariants.{Begin, Ready, Awaiting, Unanswered, Ended}
use Rattle.np_model.specs.declared.page.PeerState.TheVariants.{Lost}
use Rattle.np_model.specs.Side.{SideState, run_steps}
use Rattle.np_model.specs.Run.{Acts, HasNone, turn_at, turn, endpoint_run, RestsAt}
use Rattle.np_model.specs.PagePlan.{PageControl, begun, create_plan, turn_plan, end_plan, next_plan, lost_plan, unanswered, lose, go_plan, pace_at, page_plans}
use Rattle.np_model_laws.proofs.Alone.{one_rest}

-- after some turns the page has ended, and sent nothing more
record Ends (page : Page) (p : SideState PageControl) : Type 0 where
  turns : ℕ
  ended : (endpoint_run (page_plans page) [] turns p).control.stage ≡ Ended
  sent : (endpoint_run (page_plans page) [] turns p).sent ≡ p.sent

-- a turn where the page doesn't wait
pub acts : (page : Page) (got : List Message) (p : SideState PageControl) (stage : Stage) → p.control.stage ≡ stage → pace_at stage ≡ Acts → turn (page_plans page) got p ≡ run_steps (go_plan page p.control stage) p
acts page got p stage e a = ap (λ s. turn_at (page_plans page) got p (pace_at s)) e ∙ ap (λ pace. turn_at (page_plans page) got p pace) a ∙ ap (λ s. run_steps (go_plan page p.control s) p) e

-- the first turn of several
first-turn : (page : Page) (n : ℕ) (p : SideState PageControl) → endpoint_run (page_plans page) [] n (turn (page_plans page) [] p) ≡ endpoint_run (page_plans page) [] (suc n) p
first-turn page zero p = refl
first-turn page (suc n) p = ap (λ q. turn (page_plans page) [] q) (first-turn page n p)

ends-after : (page : Page) (p q : SideState PageControl) → turn (page_plans page) [] p ≡ q → q.sent ≡ p.sent → Ends page q → Ends page p
ends-after page p q e s r =
    let same : endpoint_run (page_plans page) [] r.turns q ≡ endpoint_run (page_plans page) [] (suc r.turns) p = ap (λ u. endpoint_run (page_plans page) [] r.turns u) (sym e) ∙ first-turn page r.turns p in
    record {
      turns = suc r.turns;
      ended = ap (λ u. u.control.stage) (sym same) ∙ r.ended;
      sent = ap (λ u. u.sent) (sym same) ∙ r.sent ∙ s;
    }

ends-ended : (page : Page) (p : SideState PageControl) → p.control.stage ≡ Ended → Ends page p
ends-ended page p e = record { turns = 0; ended = e; sent = refl }

-- each command is one turn
ends-ready : (page : Page) (commands : List Command) (p : SideState PageControl) → p.control.commands ≡ commands → p.control.peer ≡ Lost → p.control.stage ≡ Ready → Ends page p
ends-ready page [] p left lost e =
    ends-after page p (run_steps (end_plan p.control Lost) p) (acts page [] p Ready e refl ∙ ap (λ l. run_steps (next_plan p.control l) p) left ∙ ap (λ peer. run_steps (end_plan p.control peer) p) lost) refl (ends-ended page (run_steps (end_plan p.control Lost) p) refl)
ends-ready page (Create mime mode ∷ rest) p left lost e =
    let q = run_steps (create_plan (begun p.control rest) mime mode Lost) p in
    ends-after page p q (acts page [] p Ready e refl ∙ ap (λ l. run_steps (next_plan p.control l) p) left ∙ ap (λ peer. run_steps (create_plan (begun p.control rest) mime mode peer) p) lost) refl (ends-ready page rest q refl lost e)
ends-ready page (Turn ∷ rest) p left lost e =
    let q = run_steps (turn_plan (begun p.control rest) Lost) p in
    ends-after page p q (acts page [] p Ready e refl ∙ ap (λ l. run_steps (next_plan p.control l) p) left ∙ ap (λ peer. run_steps (turn_plan (begun p.control rest) peer) p) lost) refl (ends-ready page rest q refl lost e)

-- the command whose reply never comes is one turn
ends-unanswered : (page : Page) (call : Outstanding) (p : SideState PageControl) → p.control.peer ≡ Lost → p.control.stage ≡ Unanswered call → Ends page p
ends-unanswered page call p lost e = at call e
  where
    prints : (call : Outstanding) → p.control.stage ≡ Unanswered call → let q = run_steps (lost_plan (record p.control { stage = Ready }) call) p in q.sent ≡ p.sent → q.control.peer ≡ p.control.peer → q.control.stage ≡ Ready → Ends page p
    prints call e sent peer ready =
        let q = run_steps (lost_plan (record p.control { stage = Ready }) call) p in
        ends-after page p q (acts page [] p (Unanswered call) e refl) sent (ends-ready page q.control.commands q refl (peer ∙ lost) ready)

    at : (call : Outstanding) → p.control.stage ≡ Unanswered call → Ends page p
    at calls.Hello e = prints calls.Hello e refl refl refl
    at calls.New e = prints calls.New e refl refl refl
    at (calls.Destroy instance) e = prints (calls.Destroy instance) e refl refl refl
    at calls.Turn e = prints calls.Turn e refl refl refl
    at calls.Shutdown e = prints calls.Shutdown e refl refl refl

lost-ends : (page : Page) (p : SideState PageControl) → Ends page (lose p)
lost-ends page p = at p.control.stage refl
  where
    at : (stage : Stage) → p.control.stage ≡ stage → Ends page (lose p)
    at Begin e = ends-ready page (lose p).control.commands (lose p) refl refl (ap (λ s. unanswered s) e)
    at Ready e = ends-ready page (lose p).control.commands (lose p) refl refl (ap (λ s. unanswered s) e)
    at (Awaiting call) e = ends-unanswered page call (lose p) refl (ap (λ s. unanswered s) e)
    at (Unanswered call) e = ends-unanswered page call (lose p) refl (ap (λ s. unanswered s) e)
    at Ended e = ends-ended page (lose p) (ap (λ s. unanswered s) e)

-- there it rests
ends-rest : (page : Page) (p : SideState PageControl) → (r : Ends page p) → RestsAt (page_plans page) [] p (endpoint_run (page_plans page) [] r.turns p)
ends-rest page p r = record {
  turns = r.turns;
  comes = refl;
  rests = subst (λ s. HasNone [] (endpoint_run (page_plans page) [] r.turns p) (pace_at s)) (sym r.ended) tt;
}

pub lost-rests : (page : Page) (p : SideState PageControl) → (q : SideState PageControl) × RestsAt (page_plans page) [] (lose p) q
lost-rests page p = let r = lost-ends page p in (endpoint_run (page_plans page) [] r.turns (lose p), ends-rest page (lose p) r)

pub lost-silent : (page : Page) (p q : SideState PageControl) → RestsAt (page_plans page) [] (lose p) q → (q.sent ≡ p.sent) × (q.control.stage ≡ Ended)
lost-silent page p q rest =
    let r = lost-ends page p in
    let same = one_rest (page_plans page) [] (lose p) q (endpoint_run (page_plans page) [] r.turns (lose p)) rest (ends-rest page (lose p) r) in
    (ap (λ u. u.sent) same ∙ r.sent, ap (λ u. u.control.stage) same ∙ r.ended)
