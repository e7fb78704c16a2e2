-- Where an end was when memory ran out.
use Rattle.std.proofs.Common.{◌≡◌, ℕ, List, refl, ap, sym, ◌∙◌, subst, inl, inr}
use Rattle.np_message.specs.Message.{Message}
use Rattle.np_model.specs.declared.script.Page.{Page}
use Rattle.np_model.specs.declared.page.Stage.TheVariants.{Awaiting}
use Rattle.np_model.specs.declared.page.Outstanding.{Outstanding}
use Rattle.np_model.specs.Side.{SideState, Micro}
use Rattle.np_model.specs.Run.{Pace, Acts, Awaits, Meeting, Accepts, Refuses}
use Rattle.np_model.specs.PagePlan.{PageControl, go_plan, meet_plan, pace_at}
use Rattle.np_model.specs.Alone.{page_role}
use Rattle.np_model_laws.specs.Laws.{MoreMessagesLaw}
use Rattle.np_endpoint.specs.Memory.{MakeSomething, CameTo, IsDue, RanOut}
use Rattle.np_endpoint.proofs.Memory.{came-nowhere, came-acted, came-met, came-still}
use Rattle.np_endpoint.proofs.Stands.{ActsBy}
use Rattle.np_host_end.specs.declared.host_core.Core.{Core}
use Rattle.np_host_end.specs.Core.{control_of, Moves, IsActing, Listens, RanOutActing, AcceptsToMake, RanOutListening}
use Rattle.np_host_end.proofs.PageTurns.{acts-at, acts-by}
use Rattle.np_host_end.proofs.CoreRuns.{awaits, awaiting, accepted}

-- wherever its side stood, the end came by its turns to what it is now
pub record Came (old new : Core) : Type 0 where
  pub page : new.page ≡ old.page
  pub came : (p : SideState PageControl) → p.control ≡ control_of old → CameTo (page_role old.page) p old.feed.left (control_of new) new.feed.left

pub came-start : (e : Core) → Came e e
came-start e = record { page = refl; came = λ p same. came-nowhere (page_role e.page) p e.feed.left (control_of e) same }

pub came-acting : (old mid new : Core) → IsActing mid.stage → Moves mid new (go_plan mid.page (control_of mid) mid.stage) → new.feed ≡ mid.feed → Came old mid → Came old new
came-acting old mid new a m feed c = record {
  page = m.page ∙ c.page;
  came = λ p same. subst (λ (l : List ℕ). CameTo (page_role old.page) p old.feed.left (control_of new) l) (sym (ap (λ f. f.left) feed)) (came-acted (page_role old.page) p old.feed.left mid.feed.left (control_of mid) (control_of new) steps acts m.control (c.came p same));
}
  where
    steps : List (Micro PageControl)
    steps = go_plan mid.page (control_of mid) mid.stage

    acts : ActsBy (page_role old.page) (control_of mid) steps
    acts = subst (λ (q : Page). ActsBy (page_role q) (control_of mid) steps) c.page (acts-by mid.page (control_of mid) a)

pub came-listening : MoreMessagesLaw → (old mid new : Core) (call : Outstanding) → mid.stage ≡ Awaiting call → Listens mid new → Came old mid → Came old new
came-listening more old mid new call e l c =
    let x = accepted mid new l in
    record {
      page = x.moves.page ∙ c.page;
      came = λ p same. came-met more (page_role old.page) p old.feed.left mid.feed.left new.feed.left (control_of mid) (control_of new) l.message x.steps (awaits old.page (control_of mid) (awaiting mid call e)) (λ q is. ap (λ (d : PageControl). meet_plan d l.message) is ∙ x.plan) l.keeps l.typed l.bytes x.moves.control (c.came p same);
    }

-- ---- memory ran out

pub ran-out-acting : (old mid new : Core) → IsActing mid.stage → new.feed ≡ mid.feed → RanOutActing mid new → Came old mid → (p : SideState PageControl) → p.control ≡ control_of old → RanOut (page_role old.page) p old.feed.left (control_of new) new.feed.left
ran-out-acting old mid new a feed r c p same =
    let k = c.came p same in
    let pace : pace_at k.side.control.stage ≡ Acts = ap (λ (d : PageControl). pace_at d.stage) k.same ∙ acts-at mid.stage a in
    let makes : MakeSomething (go_plan old.page (control_of mid) mid.stage) = subst (λ (q : Page). MakeSomething (go_plan q (control_of mid) mid.stage)) c.page r.makes in
    let here : MakeSomething (go_plan old.page k.side.control k.side.control.stage) = subst (λ (d : PageControl). MakeSomething (go_plan old.page d d.stage)) (sym k.same) makes in
    record {
      left = mid.feed.left;
      came = came-still (page_role old.page) p old.feed.left mid.feed.left (control_of mid) (control_of new) r.control k;
      due = subst (λ (x : Pace). IsDue (page_role old.page) k.side mid.feed.left new.feed.left x) (sym pace) (ap (λ f. f.left) feed, here);
    }

-- what an accepted message has the page make
record Made (c : PageControl) (m : Message) : Type 0 where
  steps : List (Micro PageControl)
  plan : meet_plan c m ≡ Accepts steps
  makes : MakeSomething steps

made : (c : PageControl) (m : Message) → AcceptsToMake (meet_plan c m) → Made c m
made c m h = at (meet_plan c m) refl h
  where
    at : (x : Meeting PageControl) → meet_plan c m ≡ x → AcceptsToMake x → Made c m
    at (Accepts steps) e h = record { steps = steps; plan = e; makes = h }
    at (Refuses rule first second) e h = absurd h

pub ran-out-listening : (old mid new : Core) (call : Outstanding) → mid.stage ≡ Awaiting call → RanOutListening mid new → Came old mid → (p : SideState PageControl) → p.control ≡ control_of old → RanOut (page_role old.page) p old.feed.left (control_of new) new.feed.left
ran-out-listening old mid new call e (inl r) c p same =
    let k = c.came p same in
    let pace : pace_at k.side.control.stage ≡ Awaits = ap (λ (d : PageControl). pace_at d.stage) k.same ∙ ap pace_at e in
    record {
      left = mid.feed.left;
      came = came-still (page_role old.page) p old.feed.left mid.feed.left (control_of mid) (control_of new) r.control k;
      due = subst (λ (x : Pace). IsDue (page_role old.page) k.side mid.feed.left new.feed.left x) (sym pace) (inl (ap (λ f. f.left) r.feed, r.whole, r.needs));
    }
ran-out-listening old mid new call e (inr r) c p same =
    let k = c.came p same in
    let pace : pace_at k.side.control.stage ≡ Awaits = ap (λ (d : PageControl). pace_at d.stage) k.same ∙ ap pace_at e in
    let y = made (control_of mid) r.message r.meeting.makes in
    record {
      left = mid.feed.left;
      came = came-still (page_role old.page) p old.feed.left mid.feed.left (control_of mid) (control_of new) r.meeting.control k;
      due = subst (λ (x : Pace). IsDue (page_role old.page) k.side mid.feed.left new.feed.left x) (sym pace) (inr (record {
        message = r.message;
        steps = y.steps;
        bytes = r.bytes;
        keeps = r.keeps;
        typed = r.typed;
        accepts = ap (λ (d : PageControl). meet_plan d r.message) k.same ∙ y.plan;
        makes = y.makes;
      }));
    }
