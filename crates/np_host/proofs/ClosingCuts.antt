-- What of the last lines of a session was printed by the time that it was cut short.
use Rattle.std.proofs.Common.{◌≡◌, ℕ, List, [], ◌++◌, inl, inr, Option, Some, refl, sym, ap, subst, ◌∙◌, append_assoc, append-nil}
use Rattle.np_model.specs.declared.script.Page.{Page}
use Rattle.np_model.specs.declared.page.Outstanding.{Outstanding}
use Rattle.np_model.specs.declared.page.Stage.{Stage}
use Rattle.np_model.specs.declared.page.Stage.TheVariants as stages
use Rattle.np_model.specs.declared.page.Stage.TheVariants.{Begin, Ready, Awaiting, Unanswered}
use Rattle.np_model.specs.Side.{SideState}
use Rattle.np_model.specs.Run.{Awaits, endpoint_run}
use Rattle.np_model.specs.PagePlan.{PageControl, page_plans, pace_at, lose}
use Rattle.np_model.specs.HostRun.{GoesOnLost, IsAwaiting}
use Rattle.np_model.specs.Alone.{page_role}
use Rattle.np_model.proofs.Paces.{page-awaiting}
use Rattle.np_model_laws.specs.Laws.{LostLaw, JournalLaw}
use Rattle.np_ports.specs.Peer.{Known}
use Rattle.np_endpoint.specs.End.{EndState, StandsFor}
use Rattle.np_host_end.specs.HostEnd.{StandsLost, KeepsLost}
use Rattle.np_end_stops.specs.declared.ending.Ending.{Ending}
use Rattle.np_end_stops.specs.declared.ending.Ending.TheVariants.{Done, Unsent, Ended, Failed, Refused}
use Rattle.np_end_stops.specs.Causes.{AddsPart, BeginsWith}
use Rattle.np_end_lines.specs.Endings.{ending_line}
use Rattle.np_end_lines.proofs.EndLines.{some_behind, ending_line_is_some}
use Rattle.np_end_stops.proofs.Parts.{begins-append, begins-then}
use Rattle.np_exchange.specs.Live.{AtEnding}
use Rattle.np_exchange.specs.Closing.{ClosedPart}
use Rattle.np_exchange.proofs.EndRests.{waits-at}
use Rattle.np_exchange.proofs.PrintOrder.{prints-more, ending-prints}
use Rattle.np_exchange.proofs.Sessions.{refusal-is, first-begins, more-begins}
use Rattle.np_host.specs.Outcomes.{OutcomeOf}
use Rattle.np_host.specs.Losing.{Loses, PrintsAlone, LosesPart}
use Rattle.np_host.proofs.Closings.{IsPageEnd, IsLoss, page-end, loss, was-lost}

-- ---- the page goes on alone

-- of the lines that it wrote by some turn, x was printed after those before
alone-part : (page : Page) (side last : SideState PageControl) (printed sink whole lines x y : List ℕ) (taken1 : Option (List ℕ)) → GoesOnLost page side last → BeginsWith last.journal whole → whole ≡ printed ++ lines → lines ≡ x ++ y → taken1 ≡ Some (sink ++ x) → PrintsAlone page side printed sink taken1
alone-part page side last printed sink whole lines x y taken1 lost begins is parts told = record {
  last = last;
  lines = lines ++ begins.rest;
  part = x;
  lost = lost;
  lines_are = begins.parts ∙ ap (λ (l : List ℕ). l ++ begins.rest) is ∙ append_assoc printed lines begins.rest;
  lines_part = record { rest = y ++ begins.rest; parts = ap (λ (l : List ℕ). l ++ begins.rest) parts ∙ append_assoc x y begins.rest };
  taken_is = told;
}

-- what the page printed by some turn begins what it printed where it rests
rest-prints : JournalLaw → (page : Page) (side last : SideState PageControl) (turns : ℕ) → GoesOnLost page side last → BeginsWith last.journal (endpoint_run (page_plans page) [] turns (lose side)).journal
rest-prints journal page side last turns lost =
    let g = journal (page_plans page) [] [] turns (lose side) last lost in
    record { rest = g.0.0; parts = g.0.1 }

awaited-call : (stage : Stage) → IsAwaiting stage → (call : Outstanding) × (stage ≡ Awaiting call)
awaited-call Begin h = absurd h
awaited-call Ready h = absurd h
awaited-call (Awaiting call) h = (call, refl)
awaited-call (Unanswered call) h = absurd h
awaited-call stages.Ended h = absurd h

-- where it is lost while it awaits a reply, it comes to rest
lost-comes : LostLaw → (page : Page) (p : SideState PageControl) → IsAwaiting p.control.stage → (last : SideState PageControl) × GoesOnLost page p last
lost-comes law page p h = let call = awaited-call p.control.stage h in law.1 page p call.0 call.1

-- nothing of its lines was printed
pub loses-nothing : LostLaw → JournalLaw → (taken : Option (List ℕ)) (e : EndState Page PageControl) → LosesPart taken taken e
loses-nothing law journal taken e page got sent printed sink s awaits told =
    let comes = lost-comes law page s.side awaits in
    let begins = rest-prints journal page s.side comes.0 0 comes.1 in
    alone-part page s.side comes.0 printed sink s.side.journal e.journal [] e.journal taken comes.1 begins s.printed_is refl (told ∙ ap (λ (l : List ℕ). Some l) (sym (append-nil sink)))

-- or a part of them
pub loses-part : LostLaw → JournalLaw → (taken0 taken1 : Option (List ℕ)) (e0 e1 e2 : EndState Page PageControl) → ((page : Page) (got sent printed : List ℕ) → (s : StandsFor page_role page got sent printed e0) → StandsLost page s.side sent printed e1) → KeepsLost e1 e2 → AddsPart taken0 taken1 e2.journal → LosesPart taken0 taken1 e0
loses-part law journal taken0 taken1 e0 e1 e2 gone keeps adds page got sent printed sink s awaits told =
    let comes = lost-comes law page s.side awaits in
    let over = keeps page s.side sent printed (gone page got sent printed s) in
    let begins = subst (λ (q : SideState PageControl). BeginsWith comes.0.journal q.journal) over.comes (rest-prints journal page s.side comes.0 over.turns comes.1) in
    let p = adds sink told in
    alone-part page s.side comes.0 printed sink over.side.journal e2.journal p.0 p.1 taken1 comes.1 begins over.printed_is p.2 p.3

-- ---- the page where its plug-in is lost

side-awaits : (side : SideState PageControl) → pace_at side.control.stage ≡ Awaits → IsAwaiting side.control.stage
side-awaits side e = page-awaiting side.control.stage e

loss-awaits : (page : Page) (old now : Known) (first sink : List ℕ) (e : EndState Page PageControl) (ending : Ending) → IsLoss ending → (a : AtEnding page_role page old first now sink e ending) → IsAwaiting a.live.stands.side.control.stage
loss-awaits page old now first sink e Done is a = absurd is
loss-awaits page old now first sink e Unsent is a = absurd is
loss-awaits page old now first sink e Ended is a = side-awaits a.live.stands.side (waits-at page_role page a.live.got a.live.sent a.live.printed e a.ends.2 a.live.stands).awaits
loss-awaits page old now first sink e Failed is a = side-awaits a.live.stands.side (waits-at page_role page a.live.got a.live.sent a.live.printed e a.ends a.live.stands).awaits
loss-awaits page old now first sink e (Refused r) is a =
    let s = a.live.stands in
    elim (refusal-is page_role page old now first sink e r a).refusal as (λ x. IsAwaiting s.side.control.stage) [
      | inl refusal ↦ side-awaits s.side refusal.awaits
      | inr full ↦ side-awaits s.side full.0.awaits
    ]

-- ---- the last lines

-- of the last line of a page that has ended a part was printed
pub page-part : (taken0 taken1 : Option (List ℕ)) (e : EndState Page PageControl) (ending kind : Ending) → ending ≡ kind → IsPageEnd kind → AddsPart taken0 taken1 (ending_line kind) → ClosedPart page_role OutcomeOf taken0 taken1 e ending
page-part taken0 taken1 e ending kind is end adds = subst (λ (x : Ending). ClosedPart page_role OutcomeOf taken0 taken1 e x) (sym is) (λ page old now first sink told a.
    let p = adds sink told in (
      sink ++ p.0,
      p.3,
      ending-prints page_role page old now first sink p.0 e kind a,
      record {
        whole = sink ++ ending_line kind;
        reached = page-end page old now first sink e kind end a;
        part = more-begins sink (ending_line kind) p.0 p.1 p.2;
        unfinished = p.4;
        first_stays = first-begins first a.live.printed sink p.0 a.live.sink_is;
      },
    ))

-- of the last line of one whose plug-in was lost
pub loss-part : (taken0 taken1 taken2 : Option (List ℕ)) (e : EndState Page PageControl) (ending kind : Ending) → ending ≡ kind → IsLoss kind → Loses taken0 taken1 e → AddsPart taken1 taken2 (ending_line kind) → ClosedPart page_role OutcomeOf taken0 taken2 e ending
loss-part taken0 taken1 taken2 e ending kind is lost alone adds = subst (λ (x : Ending). ClosedPart page_role OutcomeOf taken0 taken2 e x) (sym is) (λ page old now first sink told a.
    let x = was-lost page old now first sink taken0 taken1 e kind a told alone in
    let p = adds (sink ++ x.lines) x.taken_is in (
      (sink ++ x.lines) ++ p.0,
      p.3,
      prints-more (page_role page) old now first (sink ++ x.lines) p.0 (ending-prints page_role page old now first sink x.lines e kind a),
      record {
        whole = (sink ++ x.lines) ++ ending_line kind;
        reached = loss page old now first sink x.lines e kind lost a x.goes_on;
        part = more-begins (sink ++ x.lines) (ending_line kind) p.0 p.1 p.2;
        unfinished = p.4;
        first_stays = first-begins first (a.live.printed ++ x.lines) (sink ++ x.lines) p.0 (ap (λ (l : List ℕ). l ++ x.lines) a.live.sink_is ∙ append_assoc first a.live.printed x.lines);
      },
    ))

-- of what it wrote alone
pub losing-part : (taken0 taken1 : Option (List ℕ)) (e : EndState Page PageControl) (ending kind : Ending) → ending ≡ kind → IsLoss kind → LosesPart taken0 taken1 e → ClosedPart page_role OutcomeOf taken0 taken1 e ending
losing-part taken0 taken1 e ending kind is lost alone = subst (λ (x : Ending). ClosedPart page_role OutcomeOf taken0 taken1 e x) (sym is) (λ page old now first sink told a.
    let l = a.live in
    let x = alone page l.got l.sent l.printed sink l.stands (loss-awaits page old now first sink e kind lost a) told in (
      sink ++ x.part,
      x.taken_is,
      ending-prints page_role page old now first sink x.part e kind a,
      record {
        whole = (sink ++ x.lines) ++ ending_line kind;
        reached = loss page old now first sink x.lines e kind lost a (record { last = x.last; lost = x.lost; lines_are = x.lines_are });
        part = begins-then ((sink ++ x.lines) ++ ending_line kind) (sink ++ x.lines) (sink ++ x.part) (begins-append (sink ++ x.lines) (ending_line kind)) (more-begins sink x.lines x.part x.lines_part.rest x.lines_part.parts);
        unfinished = some_behind x.lines_part.rest (ending_line kind) (ending_line_is_some kind);
        first_stays = first-begins first l.printed sink x.part l.sink_is;
      },
    ))
