-- What a session comes to, whatever is printed after its exchange.
use Rattle.std.proofs.Common.{◌≡◌, ℕ, List, [], ◌++◌, Option, None, refl, sym, ap, subst, ◌∙◌, append_assoc, append-nil, inl, inr, arith}
use Rattle.np_model.specs.declared.refusal.Refusal.{Refusal}
use Rattle.np_message.specs.Encoding.{encodings}
use Rattle.np_model.specs.Journal.{end_line}
use Rattle.np_model.specs.Alone.{Role, RefusesAt}
use Rattle.np_ports.specs.Peer.{Known}
use Rattle.np_endpoint.specs.End.{EndState, StandsFor}
use Rattle.np_end_stops.specs.declared.ending.Ending.{Ending}
use Rattle.np_end_stops.specs.declared.ending.Ending.TheVariants.{Done, Unsent, Ended, Failed, Refused}
use Rattle.np_end_stops.specs.Causes.{BeginsWith}
use Rattle.np_end_stops.specs.PeerCauses.{HasReason}
use Rattle.np_end_stops.specs.Status.{status_of, IsRunStatus}
use Rattle.np_exchange.specs.Session.{Outcome, Told, Completed}
use Rattle.np_exchange.specs.Closing.{EndsWith, CutSession, Closed, ClosedPart, IsUnrefusedStatus}
use Rattle.np_exchange.specs.Live.{Live, Going, AtEnding, Turned, Talked, TurnCut}
use Rattle.np_exchange.proofs.EndRests.{waits-at, ends-at, refuses-at, total-is, all-taken}
use Rattle.np_exchange.proofs.PrintOrder.{prints-nothing}

-- ---- the exchange

pub turned-then : {S C : Type 0} (role_of : S → Role C) (known0 known1 known2 : Option Known) (taken0 taken1 taken2 : Option (List ℕ)) (e0 e1 e2 : EndState S C) (ending : Option Ending) → Turned role_of known0 known1 taken0 taken1 e0 e1 None → Turned role_of known1 known2 taken1 taken2 e1 e2 ending → Turned role_of known0 known2 taken0 taken2 e0 e2 ending
turned-then role_of known0 known1 known2 taken0 taken1 taken2 e0 e1 e2 ending a b script old now first sink k o g =
    let x = a script old now first sink k o g in
    b script old x.0 first x.1 x.2 x.3 x.4

starts-going : {S C : Type 0} (role_of : S → Role C) (script : S) (e : EndState S C) (old : Known) (first : List ℕ) → StandsFor role_of script [] [] [] e → Going role_of script old first old first e
starts-going role_of script e old first s = record {
  live = record {
    got = [];
    sent = [];
    taken = [];
    printed = [];
    stands = s;
    exchanged = record { reads = []; given = sym (append-nil old.given); left = refl; taken = sym (append-nil old.taken); starts = refl; reads_are = sym (append-nil old.reads); each = tt };
    taken_part = record { rest = e.outgoing; parts = refl };
    sink_is = sym (append-nil first);
  };
  whole = refl;
  before = prints-nothing (role_of script) old first;
}

-- ---- outcomes

-- the lines of a side whose journal is printed, and its end line
lines-done : (first sink printed journal line whole : List ℕ) → sink ≡ first ++ printed → whole ≡ printed ++ journal → journal ≡ [] → sink ++ line ≡ first ++ (whole ++ line)
lines-done first sink printed journal line whole e f nothing =
    ap (λ (l : List ℕ). l ++ line) e ∙ append_assoc first printed line ∙ ap (λ (l : List ℕ). first ++ (l ++ line)) (sym (f ∙ ap (λ (l : List ℕ). printed ++ l) nothing ∙ append-nil printed))

pub printed-is : {S C : Type 0} (role_of : S → Role C) (script : S) (old now : Known) (first sink line : List ℕ) (e : EndState S C) (l : Live role_of script old first now sink e) → e.journal ≡ [] → sink ++ line ≡ first ++ (l.stands.side.journal ++ line)
printed-is role_of script old now first sink line e l quiet = lines-done first sink l.printed e.journal line l.stands.side.journal l.sink_is l.stands.printed_is quiet

pub sent-part : {S C : Type 0} (role_of : S → Role C) (script : S) (old now : Known) (first sink : List ℕ) (e : EndState S C) (l : Live role_of script old first now sink e) → BeginsWith (encodings l.stands.side.sent) l.taken
sent-part role_of script old now first sink e l = record { rest = l.taken_part.rest; parts = l.stands.sent_is ∙ l.taken_part.parts }

pub refusal-is : {S C : Type 0} (role_of : S → Role C) (script : S) (old now : Known) (first sink : List ℕ) (e : EndState S C) (r : Refusal) (a : AtEnding role_of script old first now sink e (Refused r)) → RefusesAt (role_of script) a.live.got a.live.stands.side r
refusal-is role_of script old now first sink e r a =
    let l = a.live in
    elim a.ends as (λ x. RefusesAt (role_of script) l.got l.stands.side r) [
      | inl state ↦ refuses-at role_of script l.got l.sent l.printed e r state l.stands
      | inr full ↦ (let w = waits-at role_of script l.got l.sent l.printed e full.0 l.stands in
          record { comes_to = w.comes_to; refusal = inr (w, sym (total-is role_of script l.got l.sent l.printed e full.0 l.stands) ∙ full.1, full.2) })
    ]

pub completes : {S C : Type 0} (role_of : S → Role C) (script : S) (old now : Known) (first sink : List ℕ) (e : EndState S C) → AtEnding role_of script old first now sink e Done → Completed (role_of script) old first now (sink ++ end_line 0)
completes role_of script old now first sink e a =
    let l = a.live in
    record {
      got = l.got;
      sent = l.taken;
      side = l.stands.side;
      exchanged = l.exchanged;
      ends = ends-at role_of script l.got l.sent l.printed e a.ends.2 l.stands;
      sent_is = all-taken role_of script l.got l.sent l.printed l.taken e a.ends.0 a.ends.1 l.stands;
      printed = printed-is role_of script old now first sink (end_line 0) e l a.quiet;
    }

-- what the sink took before begins what it takes
pub first-begins : (first printed sink x : List ℕ) → sink ≡ first ++ printed → BeginsWith (sink ++ x) first
first-begins first printed sink x is = record { rest = printed ++ x; parts = ap (λ (l : List ℕ). l ++ x) is ∙ append_assoc first printed x }

abbrev pub more-begins : (sink line x y : List ℕ) → line ≡ x ++ y → BeginsWith (sink ++ line) (sink ++ x)
more-begins sink line x y parts = record { rest = y; parts = ap (λ (l : List ℕ). sink ++ l) parts ∙ sym (append_assoc sink x y) }

-- ---- the whole session

pub session-ends : {S C : Type 0} (role_of : S → Role C) (outcome : S → Ending → Outcome) (script : S) (known0 known1 : Option Known) (taken0 taken1 taken2 : Option (List ℕ)) (e0 e1 : EndState S C) (ending : Ending) (status : ℕ) → StandsFor role_of script [] [] [] e0 → Talked role_of known0 known1 taken0 taken1 e0 e1 ending → Closed role_of outcome taken1 taken2 e1 ending → status ≡ status_of ending → EndsWith (outcome script) known0 known1 taken0 taken2 status
session-ends role_of outcome script known0 known1 taken0 taken1 taken2 e0 e1 ending status s talked closed is = (
  ending,
  is,
  λ old first k o.
      let x = talked script old old first first k o (starts-going role_of script e0 old first s) in
      let y = closed script old x.0 first x.1 x.3 x.4 in
      (x.0, y.0, x.2, y.1, y.2),
)

pub talk-cut : {S C : Type 0} (role_of : S → Role C) (outcome : S → Ending → Outcome) (pipe_failed peer_ended : Type 0) (script : S) (known0 known1 : Option Known) (taken0 taken1 : Option (List ℕ)) (e : EndState S C) → StandsFor role_of script [] [] [] e → TurnCut role_of known0 known1 taken0 taken1 e → Told (CutSession (role_of script) (outcome script) pipe_failed peer_ended) known0 known1 taken0 taken1
talk-cut role_of outcome pipe_failed peer_ended script known0 known1 taken0 taken1 e s cut old first k o =
    let x = cut script old old first first k o (starts-going role_of script e old first s) in
    (x.0, x.1, x.2, x.3, (x.4, inl x.5))

pub close-cut : {S C : Type 0} (role_of : S → Role C) (outcome : S → Ending → Outcome) (pipe_failed peer_ended : Type 0) (script : S) (known0 known1 : Option Known) (taken0 taken1 taken2 : Option (List ℕ)) (e0 e1 : EndState S C) (ending : Ending) → StandsFor role_of script [] [] [] e0 → Talked role_of known0 known1 taken0 taken1 e0 e1 ending → HasReason pipe_failed peer_ended ending → ClosedPart role_of outcome taken1 taken2 e1 ending → Told (CutSession (role_of script) (outcome script) pipe_failed peer_ended) known0 known1 taken0 taken2
close-cut role_of outcome pipe_failed peer_ended script known0 known1 taken0 taken1 taken2 e0 e1 ending s talked reason closed old first k o =
    let x = talked script old old first first k o (starts-going role_of script e0 old first s) in
    let y = closed script old x.0 first x.1 x.3 x.4 in
    (x.0, y.0, x.2, y.1, (y.2, inr (ending, reason, y.3)))

run-status : (ending : Ending) → IsRunStatus (status_of ending)
run-status Done = inl refl
run-status Unsent = inr (inr (inl refl))
run-status Ended = inr (inl refl)
run-status Failed = inr (inr (inl refl))
run-status (Refused r) = inr (inr (inr refl))

pub is-run-status : (ending : Ending) (status : ℕ) → status ≡ status_of ending → IsRunStatus status
is-run-status ending status is = subst IsRunStatus (sym is) (run-status ending)

-- ---- statuses at which nothing was refused

pub never-seven : IsUnrefusedStatus 7 → ⊥
never-seven (inl e) = absurd (omega arith)
never-seven (inr (inl e)) = absurd (omega arith)
never-seven (inr (inr e)) = absurd (omega arith)

pub unrefused-run : (status : ℕ) → IsUnrefusedStatus status → IsRunStatus status
unrefused-run status (inl e) = inl e
unrefused-run status (inr (inl e)) = inr (inl e)
unrefused-run status (inr (inr e)) = inr (inr (inl e))
