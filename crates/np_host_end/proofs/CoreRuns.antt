-- How the private calls of an end carry on what it stands for.
use Rattle.std.proofs.Common.{◌≡◌, ◌+◌, ◌<◌, ◌≤◌, List, length, false, Some, refl, ap, sym, ◌∙◌, subst, arith, ◌⊎◌, inl, inr}
use Rattle.np_message.specs.Message.{Message}
use Rattle.np_model.specs.declared.script.Page.{Page}
use Rattle.np_model.specs.declared.page.Stage.{Stage}
use Rattle.np_model.specs.declared.page.Stage.TheVariants.{Begin, Ready, Awaiting, Unanswered, Ended}
use Rattle.np_model.specs.declared.page.Outstanding.{Outstanding}
use Rattle.np_message.specs.Decoding.{front}
use Rattle.np_model.specs.Side.{Micro}
use Rattle.np_model.specs.Run.{Awaits, HasEnded, Meeting, Accepts, Refuses}
use Rattle.np_model.specs.PagePlan.{PageControl, go_plan, meet_plan, pace_at}
use Rattle.np_model.specs.HostRun.{IsAwaiting}
use Rattle.np_model.specs.Alone.{page_role}
use Rattle.np_model.specs.Refused.{RefusedBy}
use Rattle.np_model.proofs.Paces.{page-awaits}
use Rattle.np_model_laws.specs.Laws.{MoreMessagesLaw}
use Rattle.np_endpoint.specs.End.{EndState, Keeps, HasPace, RestsAs}
use Rattle.np_endpoint.specs.declared.halt.Halt.{Halt}
use Rattle.np_endpoint.specs.declared.halt.Halt.TheVariants.{Waiting, Finished, Refused}
use Rattle.np_endpoint.proofs.Stands.{EndMoves, EndListens, message-shortens, stands-acted, stands-met, stands-refused}
use Rattle.np_host_end.specs.declared.host_core.Core.{Core}
use Rattle.np_host_end.specs.Core.{control_of, Moves, MovesAs, IsActing, Listens, Listened}
use Rattle.np_host_end.specs.HostEnd.{KeepsLost, seen}
use Rattle.np_host_end.proofs.Measures.{weight, meet-lighter}
use Rattle.np_host_end.proofs.PageTurns.{acts-by}
use Rattle.np_host_end.proofs.LostEnds.{lost-acted, lost-never-awaits, ended-end}

-- what a run carries on, of an end whose plug-in is there and of one whose plug-in is lost
pub record KeepsBoth (old new : EndState Page PageControl) : Type 0 where
  pub stands : Keeps page_role old new
  pub lost : KeepsLost old new

pub keeps-then : (a b c : EndState Page PageControl) → KeepsBoth a b → KeepsBoth b c → KeepsBoth a c
keeps-then a b c f g = record {
  stands = λ page got sent printed s. g.stands page got sent printed (f.stands page got sent printed s);
  lost = λ page p sent printed s. g.lost page p sent printed (f.lost page p sent printed s);
}

pub keeps-same : (e : EndState Page PageControl) → KeepsBoth e e
keeps-same e = record { stands = λ page got sent printed s. s; lost = λ page p sent printed s. s }

-- ---- the pace of a page

pub awaits : (page : Page) (c : PageControl) → IsAwaiting c.stage → HasPace (page_role page) c Awaits
awaits page c a p same = subst (λ (d : PageControl). pace_at d.stage ≡ Awaits) (sym same) (page-awaits c.stage a)

pub has-ended : (page : Page) (c : PageControl) → c.stage ≡ Ended → HasPace (page_role page) c HasEnded
has-ended page c e p same = subst (λ (d : PageControl). pace_at d.stage ≡ HasEnded) (sym same) (ap pace_at e)

-- it is finished only where the page has ended
pub finished-ended : (core : Core) (s : Halt) → RestsAs page_role (seen core s false) s → s ≡ Finished → core.stage ≡ Ended
finished-ended core s rests e =
    let r = subst (λ (t : Halt). RestsAs page_role (seen core t false) t) e rests in
    ended-end (seen core Finished false) r.1

-- ---- the private calls

pub acting-at : (s : Stage) → (s ≡ Begin) ⊎ ((s ≡ Ready) ⊎ ((call : Outstanding) × (s ≡ Unanswered call))) → IsActing s
acting-at s (inl e) = subst IsActing (sym e) tt
acting-at s (inr (inl e)) = subst IsActing (sym e) tt
acting-at s (inr (inr e)) = subst IsActing (sym e.1) tt

moves-end : (old new : Core) (steps : List (Micro PageControl)) → Moves old new steps → EndMoves (seen old Waiting false) (seen new Waiting false) steps
moves-end old new steps m = record { control = m.control; outgoing = m.outgoing; journal = m.journal; script = m.page; old_state = refl; new_state = refl }

pub acted-keeps : (old new : Core) → IsActing old.stage → Moves old new (go_plan old.page (control_of old) old.stage) → new.feed ≡ old.feed → KeepsBoth (seen old Waiting false) (seen new Waiting false)
acted-keeps old new a m feed = record {
  stands = λ page got sent printed s. stands-acted page_role page got sent printed _ _ _ (acts-by old.page (control_of old) a) (moves-end old new _ m) (ap (λ f. f.consumed) feed) (ap (λ f. f.left) feed) s;
  lost = λ page p sent printed s. lost-acted page p sent printed _ _ a (moves-end old new _ m) s;
}

pub awaiting : (old : Core) (call : Outstanding) → old.stage ≡ Awaiting call → IsAwaiting old.stage
awaiting old call e = subst IsAwaiting (sym e) tt

-- what an accepted message does
pub record Accepted (old new : Core) (m : Message) : Type 0 where
  pub steps : List (Micro PageControl)
  pub plan : meet_plan (control_of old) m ≡ Accepts steps
  pub moves : Moves old new steps

pub accepted : (old new : Core) (l : Listens old new) → Accepted old new l.message
accepted old new l = at (meet_plan (control_of old) l.message) refl l.meets
  where
    at : (x : Meeting PageControl) → meet_plan (control_of old) l.message ≡ x → MovesAs old new x → Accepted old new l.message
    at (Accepts steps) e m = record { steps = steps; plan = e; moves = m }
    at (Refuses rule first second) e m = absurd m

pub listened-keeps : MoreMessagesLaw → (old new : Core) (call : Outstanding) → old.stage ≡ Awaiting call → Listens old new → KeepsBoth (seen old Waiting false) (seen new Waiting false)
listened-keeps more old new call e l = record {
  stands = λ page got sent printed s. stands-met more page_role page got sent printed _ _ l.message x.steps listens s;
  lost = λ page p sent printed s. absurd (lost-never-awaits page p sent printed _ s (awaiting old call e));
}
  where
    x : Accepted old new l.message
    x = accepted old new l

    listens : EndListens page_role (seen old Waiting false) (seen new Waiting false) l.message x.steps
    listens = record {
      awaits = awaits old.page (control_of old) (awaiting old call e);
      plan = λ p same. ap (λ (c : PageControl). meet_plan c l.message) same ∙ x.plan;
      moves = moves-end old new x.steps x.moves;
      keeps = l.keeps;
      typed = l.typed;
      bytes = l.bytes;
      total = l.consumed;
    }

pub listened-lighter : (old new : Core) (l : Listens old new) → weight (control_of new) new.feed.left < weight (control_of old) old.feed.left
listened-lighter old new l =
    let x = accepted old new l in
    let fewer = message-shortens l.message old.feed.left new.feed.left l.bytes in
    let shorter : length new.feed.left + 1 ≤ length old.feed.left = omega (arith, fewer) in
    meet-lighter (control_of old) (control_of new) l.message x.steps old.feed.left new.feed.left x.plan x.moves.control shorter

-- ---- an end that halts

pub record Halted (old new : Core) (s : Halt) : Type 0 where
  pub keeps : KeepsBoth (seen old Waiting false) (seen new s false)
  pub rests : RestsAs page_role (seen new s false) s

pub halted : (old new : Core) (call : Outstanding) (s : Halt) → old.stage ≡ Awaiting call → Listened old new (Some s) → Halted old new s
halted old new call Waiting e w = record {
  keeps = subst (λ (c : Core). KeepsBoth (seen old Waiting false) (seen c Waiting false)) (sym w.same) (keeps-same _);
  rests = subst (λ (c : Core). RestsAs page_role (seen c Waiting false) Waiting) (sym w.same) (refl, awaits old.page (control_of old) (awaiting old call e), w.partial);
}
halted old new call Finished e w = absurd w
halted old new call (Refused r) e w = record {
  keeps = record {
    stands = λ page got sent printed s. stands-refused page_role page got sent printed (seen old Waiting false) (seen new (Refused r) false) r (record {
      control = w.control;
      outgoing = w.outgoing;
      journal = w.journal;
      script = w.page;
      old_state = refl;
      new_state = refl;
      awaits = awaits old.page (control_of old) (awaiting old call e);
      refused = λ p same. subst (λ (c : PageControl). RefusedBy (meet_plan c) old.feed.consumed r (front old.feed.consumed old.feed.left)) (sym same) w.refused;
    }) s;
    lost = λ page p sent printed s. absurd (lost-never-awaits page p sent printed _ s (awaiting old call e));
  };
  rests = refl;
}
