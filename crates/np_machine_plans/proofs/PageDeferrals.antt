-- A page delivers each message as it examines it, but for one call of a task.
use Rattle.std.proofs.Common.{◌≡◌, ℕ, zero, suc, List, [], ◌∷◌, refl, ap, ◌∙◌, Option, Some, None, Bool, true, false, ◌&&◌, drop}
use Rattle.std.specs.Prelude.{◌==◌, length, nat_lt}
use Rattle.np_values.specs.declared.name.Side.TheVariants as sides
use Rattle.np_script_grammar.specs.declared.page.Page.{Page}
use Rattle.np_message.specs.Message.{Message}
use Rattle.np_message.specs.Kinds.{is_reply}
use Rattle.np_machine.specs.declared.step.Step.TheVariants.{Deliver, Sweep, Deallocate}
use Rattle.np_machine.specs.Side.{SideState, at_start}
use Rattle.np_machine.specs.Steps.{run_step}
use Rattle.np_machine.specs.Messages.{examine}
use Rattle.np_machine.specs.Plan.{Pace, Acts, Awaits, HasEnded, Stops}
use Rattle.np_machine.specs.Turn.{is_remote_by_messages, next_message, meets, listens, turn_at, turn, endpoint_run}
use Rattle.np_machine.specs.Laws.{DeliveredLaw}
use Rattle.np_machine_plans.specs.declared.page.PageControl.{PageControl}
use Rattle.np_machine_plans.specs.Laws.{is_deferred_call}
use Rattle.np_machine_plans.specs.OpenCalls.{is_depth_of_newest, last_level}
use Rattle.np_machine_plans.specs.PageControls.{page_start}
use Rattle.np_machine_plans.specs.View.{SideView, view}
use Rattle.np_machine_plans.specs.PageMeetings.{fits_page, page_depths, is_kind_for_page, reply_verdict, call_verdict, page_verdict, page_accepts, page_defers}
use Rattle.np_machine_plans.specs.PagePlans.{page_plans}
use Rattle.np_machine_plans.specs.PlanParts.{plan}
use Rattle.np_machine_plans.specs.RefusedNames.{Breach, breach_of_names}
use Rattle.np_machine_plans.specs.Verdicts.{Verdict, Delivers, Defers, Breaks, unless_broken, meeting}
use Rattle.np_machine_plans.proofs.Deliveries.{drop-deferred}

-- ---- a call is deferred only where none waits, and only a task's

reply-is-not-deferred : (c : PageControl) (p : SideView) (m : Message) → reply_verdict c p m ≡ Defers → is_deferred_call (m ∷ p.undelivered) ≡ true
reply-is-not-deferred c p m e = by (is_depth_of_newest m.depth (page_depths c p) && fits_page c.stage p.frames m.body) refl
  where
    by : (b : Bool) → (is_depth_of_newest m.depth (page_depths c p) && fits_page c.stage p.frames m.body) ≡ b → is_deferred_call (m ∷ p.undelivered) ≡ true
    by true b = let f = simp b at e in cc
    by false b = let f = simp b at e in cc

call-deferred-alone : (c : PageControl) (p : SideView) (m : Message) → is_reply m.body ≡ false → call_verdict c p m ≡ Defers → is_deferred_call (m ∷ p.undelivered) ≡ true
call-deferred-alone c p m r e = by m.depth.task refl (length (page_depths c p) == 1) refl p.undelivered refl
  where
    unmarked : m.depth.task ≡ false → (l : List Message) (b : Bool) → (nat_lt 0 (length (page_depths c p)) && nat_lt (last_level (page_depths c p)) m.depth.level) ≡ b → is_deferred_call (m ∷ l) ≡ true
    unmarked t l true b = let f = simp (t, b) at e in cc
    unmarked t l false b = let f = simp (t, b) at e in cc

    by : (t : Bool) → m.depth.task ≡ t → (o : Bool) → (length (page_depths c p) == 1) ≡ o → (l : List Message) → p.undelivered ≡ l → is_deferred_call (m ∷ l) ≡ true
    by true t true o [] u = simp (t, r) refl
    by true t true o (n ∷ l) u = let f = simp (t, o, u) at e in cc
    by true t false o l u = let f = simp (t, o) at e in cc
    by false t o w l u = unmarked t l (nat_lt 0 (length (page_depths c p)) && nat_lt (last_level (page_depths c p)) m.depth.level) refl

deferred-alone : (c : PageControl) (p : SideView) (m : Message) → page_verdict c p m ≡ Defers → is_deferred_call (m ∷ p.undelivered) ≡ true
deferred-alone c p m e = by (is_kind_for_page p m.body) refl (is_reply m.body) refl
  where
    by : (k : Bool) → is_kind_for_page p m.body ≡ k → (r : Bool) → is_reply m.body ≡ r → is_deferred_call (m ∷ p.undelivered) ≡ true
    by false k r x = let f = simp k at e in cc
    by true k true r = reply-is-not-deferred c p m (simp (k, r) at e)
    by true k false r = call-deferred-alone c p m r (simp (k, r) at e)

-- ---- a turn, and a run

turn-defers : DeliveredLaw PageControl → (page : Page) (got : List Message) (p : SideState PageControl) → is_deferred_call p.undelivered ≡ true → is_deferred_call (turn is_remote_by_messages (page_plans page) got p).undelivered ≡ true
turn-defers law page got p e = at ((page_plans page).pace p)
  where
    dropped : (k : ℕ) (w : List Message) → w ≡ drop k p.undelivered → is_deferred_call w ≡ true
    dropped k w f = ap is_deferred_call f ∙ drop-deferred k p.undelivered e

    accepted : (m : Message) → is_deferred_call (meets is_remote_by_messages p m (page_accepts p.control m)).undelivered ≡ true
    accepted m =
        let l = law is_remote_by_messages (plan (record p.control { arrived = Some m }) (Sweep ∷ (Deallocate ∷ []))) (run_step (is_remote_by_messages (examine m p)) Deliver (examine m p)) in
        dropped l.0 (meets is_remote_by_messages p m (page_accepts p.control m)).undelivered l.1

    delivered : (m : Message) → (o : Option Breach) → is_deferred_call (meets is_remote_by_messages p m (unless_broken (page_accepts p.control m) o)).undelivered ≡ true
    delivered m None = accepted m
    delivered m (Some b) = e

    met : (m : Message) → (v : Verdict) → page_verdict p.control (view p) m ≡ v → is_deferred_call (meets is_remote_by_messages p m (meeting p m v (page_accepts p.control m) (page_defers p.control (view p)))).undelivered ≡ true
    met m Delivers f = delivered m (breach_of_names p m)
    met m Defers f = deferred-alone p.control (view p) m f
    met m (Breaks rule first second) f = e

    heard : (o : Option Message) → is_deferred_call (listens is_remote_by_messages (page_plans page) p o).undelivered ≡ true
    heard None = e
    heard (Some m) = met m (page_verdict p.control (view p) m) refl

    at : (pace : Pace) → is_deferred_call (turn_at is_remote_by_messages (page_plans page) got p pace).undelivered ≡ true
    at Acts = let l = law is_remote_by_messages ((page_plans page).go p) p in dropped l.0 (turn_at is_remote_by_messages (page_plans page) got p Acts).undelivered l.1
    at Awaits = heard (next_message got p)
    at HasEnded = e
    at (Stops r) = e

pub defers-at-most-one : DeliveredLaw PageControl → (page : Page) (got : List Message) (n : ℕ) → is_deferred_call (endpoint_run (page_plans page) got n (at_start sides.Page (page_start page))).undelivered ≡ true
defers-at-most-one law page got zero = refl
defers-at-most-one law page got (suc n) = turn-defers law page got (endpoint_run (page_plans page) got n (at_start sides.Page (page_start page))) (defers-at-most-one law page got n)
