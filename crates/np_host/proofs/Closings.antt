-- What a session of a page comes to.
use Rattle.std.proofs.Common.{◌≡◌, ℕ, List, [], ◌++◌, Option, Some, refl, sym, ap, subst, ◌∙◌, append_assoc, arith, inl, inr}
use Rattle.np_model.specs.declared.script.Page.{Page}
use Rattle.np_model.specs.declared.page.Stage.{Stage}
use Rattle.np_model.specs.declared.page.Stage.TheVariants as stages
use Rattle.np_model.specs.declared.refusal.Refusal.{Refusal}
use Rattle.np_model.specs.Side.{SideState}
use Rattle.np_model.specs.Run.{HasNone}
use Rattle.np_model.specs.PagePlan.{PageControl, pace_at}
use Rattle.np_model.specs.HostRun.{GoesOnLost}
use Rattle.np_model.specs.Journal.{end_line, refused_line}
use Rattle.np_model.specs.Alone.{page_role}
use Rattle.np_ports.specs.Peer.{Known}
use Rattle.np_endpoint.specs.End.{EndState, StandsFor}
use Rattle.np_host_end.specs.HostEnd.{StandsLost, KeepsLost}
use Rattle.np_end_stops.specs.declared.ending.Ending.{Ending}
use Rattle.np_end_stops.specs.declared.ending.Ending.TheVariants.{Done, Unsent, Ended, Failed, Refused}
use Rattle.np_end_stops.specs.Causes.{Adds}
use Rattle.np_end_lines.specs.Endings.{ending_line}
use Rattle.np_exchange.specs.Live.{AtEnding}
use Rattle.np_exchange.specs.Closing.{Closed}
use Rattle.np_exchange.proofs.EndRests.{waits-at, ends-at, total-is, all-taken}
use Rattle.np_exchange.proofs.Sessions.{printed-is, sent-part, refusal-is, completes}
use Rattle.np_host.specs.Outcomes.{PeerEnded, PipeFailed, PeerRefused, OutcomeOf}
use Rattle.np_host.specs.Losing.{Loses}

-- ---- the page goes on alone

no-more : (p : SideState PageControl) (s : Stage) → p.control.stage ≡ s → s ≡ stages.Ended → HasNone [] p (pace_at s)
no-more p s e is = subst (λ (t : Stage). HasNone [] p (pace_at t)) (sym is) tt

pub loses : (taken0 taken1 : Option (List ℕ)) (e0 e1 e2 : EndState Page PageControl)
    → ((page : Page) (got sent printed : List ℕ) → (s : StandsFor page_role page got sent printed e0) → StandsLost page s.side sent printed e1) → KeepsLost e1 e2 → ((page : Page) (p : SideState PageControl) (sent printed : List ℕ) → StandsLost page p sent printed e1 → e2.control.stage ≡ stages.Ended) → Adds taken0 taken1 e2.journal → Loses taken0 taken1 e0
loses taken0 taken1 e0 e1 e2 gone keeps ends adds page got sent printed sink s told =
    let begun = gone page got sent printed s in
    let over = keeps page s.side sent printed begun in
    let ended : over.side.control.stage ≡ stages.Ended = ap (λ (c : PageControl). c.stage) (sym over.control) ∙ ends page s.side sent printed begun in
    (over.side, e2.journal, record { turns = over.turns; comes = over.comes; rests = no-more over.side over.side.control.stage refl ended }, over.printed_is, adds sink told)

-- ---- outcomes

-- the lines of a page that went on alone, and its end line
lines-lost : (first sink printed lines line whole : List ℕ) → sink ≡ first ++ printed → whole ≡ printed ++ lines → (sink ++ lines) ++ line ≡ first ++ (whole ++ line)
lines-lost first sink printed lines line whole e f =
    ap (λ (l : List ℕ). (l ++ lines) ++ line) e ∙ ap (λ (l : List ℕ). l ++ line) (append_assoc first printed lines) ∙ append_assoc first (printed ++ lines) line ∙ ap (λ (l : List ℕ). first ++ (l ++ line)) (sym f)

unsent : (page : Page) (old now : Known) (first sink : List ℕ) (e : EndState Page PageControl) → AtEnding page_role page old first now sink e Unsent → PipeFailed page old first now (sink ++ end_line 6)
unsent page old now first sink e a =
    let l = a.live in
    record {
      got = l.got;
      sent = l.taken;
      side = l.stands.side;
      lines = l.stands.side.journal;
      exchanged = l.exchanged;
      rests = inr (ends-at page_role page l.got l.sent l.printed e a.ends l.stands, refl);
      sent_part = sent-part page_role page old now first sink e l;
      printed = printed-is page_role page old now first sink (end_line 6) e l a.quiet;
    }

-- from here the page goes on alone, and writes these lines after those that were printed
pub record GoesOnWith (page : Page) (side : SideState PageControl) (printed lines : List ℕ) : Type 0 where
  pub last : SideState PageControl
  pub lost : GoesOnLost page side last
  pub lines_are : last.journal ≡ printed ++ lines

peer-ended : (page : Page) (old now : Known) (first sink lines : List ℕ) (e : EndState Page PageControl) (a : AtEnding page_role page old first now sink e Ended) → GoesOnWith page a.live.stands.side a.live.printed lines → PeerEnded page old first now ((sink ++ lines) ++ end_line 5)
peer-ended page old now first sink lines e a w =
    let l = a.live in
    record {
      got = l.got;
      sent = l.taken;
      side = l.stands.side;
      last = w.last;
      exchanged = l.exchanged;
      waits = waits-at page_role page l.got l.sent l.printed e a.ends.2 l.stands;
      below_limit = (let n = total-is page_role page l.got l.sent l.printed e a.ends.2 l.stands in let below = a.ends.3 in omega (arith, n, below));
      lost = w.lost;
      sent_is = all-taken page_role page l.got l.sent l.printed l.taken e a.ends.0 a.ends.1 l.stands;
      printed = lines-lost first sink l.printed lines (end_line 5) w.last.journal l.sink_is w.lines_are;
    }

peer-failed : (page : Page) (old now : Known) (first sink lines : List ℕ) (e : EndState Page PageControl) (a : AtEnding page_role page old first now sink e Failed) → GoesOnWith page a.live.stands.side a.live.printed lines → PipeFailed page old first now ((sink ++ lines) ++ end_line 6)
peer-failed page old now first sink lines e a w =
    let l = a.live in
    record {
      got = l.got;
      sent = l.taken;
      side = l.stands.side;
      lines = w.last.journal;
      exchanged = l.exchanged;
      rests = inl (waits-at page_role page l.got l.sent l.printed e a.ends l.stands, (w.last, w.lost, refl));
      sent_part = sent-part page_role page old now first sink e l;
      printed = lines-lost first sink l.printed lines (end_line 6) w.last.journal l.sink_is w.lines_are;
    }

peer-refused : (page : Page) (old now : Known) (first sink lines : List ℕ) (e : EndState Page PageControl) (r : Refusal) (a : AtEnding page_role page old first now sink e (Refused r)) → GoesOnWith page a.live.stands.side a.live.printed lines → PeerRefused page old first now ((sink ++ lines) ++ refused_line r)
peer-refused page old now first sink lines e r a w =
    let l = a.live in
    record {
      got = l.got;
      sent = l.taken;
      side = l.stands.side;
      last = w.last;
      refusal = r;
      exchanged = l.exchanged;
      refuses = refusal-is page_role page old now first sink e r a;
      lost = w.lost;
      sent_part = sent-part page_role page old now first sink e l;
      printed = lines-lost first sink l.printed lines (refused_line r) w.last.journal l.sink_is w.lines_are;
    }

-- ---- endings

-- the page had ended, or its plug-in is lost
abbrev pub IsPageEnd : Ending → Type 0
IsPageEnd Done = Unit {0}
IsPageEnd Unsent = Unit {0}
IsPageEnd Ended = ⊥
IsPageEnd Failed = ⊥
IsPageEnd (Refused r) = ⊥

abbrev pub IsLoss : Ending → Type 0
IsLoss Done = ⊥
IsLoss Unsent = ⊥
IsLoss Ended = Unit {0}
IsLoss Failed = Unit {0}
IsLoss (Refused r) = Unit {0}

-- what comes of an ending where its last line is printed
pub page-end : (page : Page) (old now : Known) (first sink : List ℕ) (e : EndState Page PageControl) (ending : Ending) → IsPageEnd ending → AtEnding page_role page old first now sink e ending → OutcomeOf page ending old first now (sink ++ ending_line ending)
page-end page old now first sink e Done is a = completes page_role page old now first sink e a
page-end page old now first sink e Unsent is a = unsent page old now first sink e a
page-end page old now first sink e Ended is a = absurd is
page-end page old now first sink e Failed is a = absurd is
page-end page old now first sink e (Refused r) is a = absurd is

pub loss : (page : Page) (old now : Known) (first sink lines : List ℕ) (e : EndState Page PageControl) (ending : Ending) → IsLoss ending → (a : AtEnding page_role page old first now sink e ending) → GoesOnWith page a.live.stands.side a.live.printed lines → OutcomeOf page ending old first now ((sink ++ lines) ++ ending_line ending)
loss page old now first sink lines e Done is a w = absurd is
loss page old now first sink lines e Unsent is a w = absurd is
loss page old now first sink lines e Ended is a w = peer-ended page old now first sink lines e a w
loss page old now first sink lines e Failed is a w = peer-failed page old now first sink lines e a w
loss page old now first sink lines e (Refused r) is a w = peer-refused page old now first sink lines e r a w

-- where the page goes on alone, its lines were printed
pub record WasLost (page : Page) (side : SideState PageControl) (printed sink : List ℕ) (taken : Option (List ℕ)) : Type 0 where
  pub lines : List ℕ
  pub goes_on : GoesOnWith page side printed lines
  pub taken_is : taken ≡ Some (sink ++ lines)

pub was-lost : (page : Page) (old now : Known) (first sink : List ℕ) (taken0 taken1 : Option (List ℕ)) (e : EndState Page PageControl) (ending : Ending) (a : AtEnding page_role page old first now sink e ending) → taken0 ≡ Some sink → Loses taken0 taken1 e → WasLost page a.live.stands.side a.live.printed sink taken1
was-lost page old now first sink taken0 taken1 e ending a told lose =
    let l = a.live in
    let x = lose page l.got l.sent l.printed sink l.stands told in
    record { lines = x.1; goes_on = record { last = x.0; lost = x.2; lines_are = x.3 }; taken_is = x.4 }

-- ---- the closing

-- after an ending of this kind
pub closed-page : (taken0 taken1 : Option (List ℕ)) (e : EndState Page PageControl) (ending kind : Ending) → ending ≡ kind → IsPageEnd kind → Adds taken0 taken1 (ending_line kind) → Closed page_role OutcomeOf taken0 taken1 e ending
closed-page taken0 taken1 e ending kind is end adds = subst (λ (x : Ending). Closed page_role OutcomeOf taken0 taken1 e x) (sym is) (λ page old now first sink told a. (sink ++ ending_line kind, adds sink told, page-end page old now first sink e kind end a))

pub closed-loss : (taken0 taken1 taken2 : Option (List ℕ)) (e : EndState Page PageControl) (ending kind : Ending) → ending ≡ kind → IsLoss kind → Loses taken0 taken1 e → Adds taken1 taken2 (ending_line kind) → Closed page_role OutcomeOf taken0 taken2 e ending
closed-loss taken0 taken1 taken2 e ending kind is lost lose adds = subst (λ (x : Ending). Closed page_role OutcomeOf taken0 taken2 e x) (sym is) (λ page old now first sink told a.
    let x = was-lost page old now first sink taken0 taken1 e kind a told lose in
    ((sink ++ x.lines) ++ ending_line kind, adds (sink ++ x.lines) x.taken_is, loss page old now first sink x.lines e kind lost a x.goes_on))
