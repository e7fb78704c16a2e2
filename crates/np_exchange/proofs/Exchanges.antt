-- How an exchange goes on.
use Rattle.std.proofs.Common.{◌≡◌, ℕ, ◌^◌, ◌<◌, List, [], ◌∷◌, ◌++◌, length, Bool, true, false, Option, Some, None, refl, sym, ap, subst, ◌∙◌, append_assoc, inl, inr, take, drop}
use Rattle.std.proofs.lemmas.List.{append-nil, take-append-drop}
use Rattle.np_model.specs.declared.refusal.Refusal.{Refusal}
use Rattle.np_model.specs.Alone.{Role, too_many_bytes}
use Rattle.np_ports.specs.Peer.{Known, took, gave, asked}
use Rattle.np_endpoint.specs.End.{EndState, StandsFor, RestsAs, total_of}
use Rattle.np_endpoint.specs.declared.halt.Halt.{Halt}
use Rattle.np_endpoint.specs.declared.halt.Halt.TheVariants.{Waiting, Finished, Refused}
use Rattle.np_end_stops.specs.declared.ending.Ending.{Ending}
use Rattle.np_end_stops.specs.declared.ending.Ending.TheVariants as endings
use Rattle.np_exchange.specs.Flow.{SentAll, SentPart, Sent}
use Rattle.np_exchange.specs.Live.{Live, Going, AtEnding, After, Turned, HeardOn, Ran}
use Rattle.np_exchange.proofs.PeerReads.{exchanged-took, exchanged-read}
use Rattle.np_exchange.proofs.EndRests.{waits-at, all-taken}
use Rattle.np_exchange.proofs.PrintOrder.{prints-more, prints-read, live-prints}

-- ---- a run

rests-printed : {S C : Type 0} (role_of : S → Role C) (e f : EndState S C) (s : Halt) → f ≡ record e { journal = [] } → RestsAs role_of e s → RestsAs role_of f s
rests-printed {S} {C} role_of e f s same rests = subst (λ (x : EndState S C). RestsAs role_of x s) (sym same) (at s rests)
  where
    at : (s : Halt) → RestsAs role_of e s → RestsAs role_of (record e { journal = [] }) s
    at Waiting r = r
    at Finished r = r
    at (Refused refusal) r = r

pub record RanOn {S C : Type 0} (role_of : S → Role C) (script : S) (old : Known) (first : List ℕ) (now : Known) (taken : Option (List ℕ)) (e : EndState S C) (s : Halt) : Type 0 where
  pub sink : List ℕ
  pub taken_is : taken ≡ Some sink
  pub going : Going role_of script old first now sink e
  pub quiet : e.journal ≡ []
  pub rests : RestsAs role_of e s

pub going-ran : {S C : Type 0} (role_of : S → Role C) (script : S) (old now : Known) (first sink : List ℕ) (taken0 taken1 : Option (List ℕ)) (e0 e1 : EndState S C) (s : Halt) → taken0 ≡ Some sink → Ran role_of taken0 taken1 e0 e1 s → Going role_of script old first now sink e0 → RanOn role_of script old first now taken1 e1 s
going-ran {S} {C} role_of script old now first sink taken0 taken1 e0 e1 s told r g =
    let l = g.live in
    let lines = r.between.journal in
    let stands = r.printed.stands script l.got l.sent l.printed (r.keeps script l.got l.sent l.printed l.stands) in
    record {
      sink = sink ++ lines;
      taken_is = r.adds sink told;
      going = record {
        live = record {
          got = l.got;
          sent = l.sent;
          taken = l.taken;
          printed = l.printed ++ lines;
          stands = stands;
          exchanged = l.exchanged;
          taken_part = record { rest = e1.outgoing; parts = ap (λ (x : List ℕ). x ++ e1.outgoing) (sym g.whole) };
          sink_is = ap (λ (x : List ℕ). x ++ lines) l.sink_is ∙ append_assoc first l.printed lines;
        };
        whole = g.whole;
        before = prints-more (role_of script) old now first sink lines g.before;
      };
      quiet = ap (λ (e : EndState S C). e.journal) r.printed.same;
      rests = rests-printed role_of r.between e1 s r.printed.same r.rests;
    }

-- ---- messages that are sent

pub going-sent : {S C : Type 0} (role_of : S → Role C) (script : S) (old now : Known) (first sink : List ℕ) (known0 known1 : Option Known) (e0 e1 : EndState S C) → SentAll role_of known0 known1 e0 e1 → Going role_of script old first now sink e0 → e1.journal ≡ [] → Going role_of script old first (took now e0.outgoing) sink e1
going-sent {S} {C} role_of script old now first sink known0 known1 e0 e1 s g quiet =
    let l = g.live in
    let live : Live role_of script old first (took now e0.outgoing) sink e1 = record {
      got = l.got;
      sent = l.sent ++ e0.outgoing;
      taken = l.taken ++ e0.outgoing;
      printed = l.printed;
      stands = s.stands script l.got l.sent l.printed l.stands;
      exchanged = exchanged-took (role_of script) old now l.got l.taken e0.outgoing l.exchanged;
      taken_part = record { rest = e1.outgoing; parts = ap (λ (x : List ℕ). (x ++ e0.outgoing) ++ e1.outgoing) (sym g.whole) };
      sink_is = l.sink_is;
    } in
    record {
      live = live;
      whole = ap (λ (x : List ℕ). x ++ e0.outgoing) g.whole;
      before = live-prints role_of script old first (took now e0.outgoing) sink e1 live quiet;
    }

-- the peer failed after it took x
pub live-unsent : {S C : Type 0} (role_of : S → Role C) (script : S) (old now : Known) (first sink x y : List ℕ) (e0 e1 : EndState S C) → e0.outgoing ≡ x ++ y → e1 ≡ e0 → Going role_of script old first now sink e0 → Live role_of script old first (took now x) sink e1
live-unsent {S} {C} role_of script old now first sink x y e0 e1 parts same g = subst (λ (e : EndState S C). Live role_of script old first (took now x) sink e) (sym same) live
  where
    live : Live role_of script old first (took now x) sink e0
    live = record {
      got = g.live.got;
      sent = g.live.sent;
      taken = g.live.taken ++ x;
      printed = g.live.printed;
      stands = g.live.stands;
      exchanged = exchanged-took (role_of script) old now g.live.got g.live.taken x g.live.exchanged;
      taken_part = record { rest = y; parts = ap (λ (l : List ℕ). g.live.sent ++ l) parts ∙ sym (append_assoc g.live.sent x y) ∙ ap (λ (l : List ℕ). (l ++ x) ++ y) (sym g.whole) };
      sink_is = g.live.sink_is;
    }

-- ---- reads of the peer

-- a read with nothing left to send, by an end that waits
pub live-read : {S C : Type 0} (role_of : S → Role C) (script : S) (old now next : Known) (first sink bytes : List ℕ) (e0 e1 : EndState S C) → Going role_of script old first now sink e0 → e0.outgoing ≡ [] → RestsAs role_of e0 Waiting
    → next.given ≡ now.given ++ bytes → now.left ≡ bytes ++ next.left → next.taken ≡ now.taken → next.starts ≡ now.starts → next.reads ≡ now.reads ++ (length now.taken, length now.given) ∷ []
    → ((script : S) (got sent printed : List ℕ) → StandsFor role_of script got sent printed e0 → StandsFor role_of script (got ++ bytes) sent printed e1) → Going role_of script old first next sink e1
live-read role_of script old now next first sink bytes e0 e1 g nothing w given left taken starts reads carries =
    let l = g.live in
    record {
      live = record {
        got = l.got ++ bytes;
        sent = l.sent;
        taken = l.taken;
        printed = l.printed;
        stands = carries script l.got l.sent l.printed l.stands;
        exchanged = exchanged-read (role_of script) old now next l.got l.taken bytes l.stands.side l.exchanged (waits-at role_of script l.got l.sent l.printed e0 w l.stands) (all-taken role_of script l.got l.sent l.printed l.taken e0 g.whole nothing l.stands) given left taken starts reads;
        taken_part = record { rest = e1.outgoing; parts = ap (λ (x : List ℕ). x ++ e1.outgoing) (sym g.whole) };
        sink_is = l.sink_is;
      };
      whole = g.whole;
      before = prints-read (role_of script) old now next first sink bytes given taken g.before;
    }

-- a read that gave nothing leaves the end as it was
pub stands-nothing : {S C : Type 0} (role_of : S → Role C) (e0 e1 : EndState S C) → e1 ≡ e0 → (script : S) (got sent printed : List ℕ) → StandsFor role_of script got sent printed e0 → StandsFor role_of script (got ++ []) sent printed e1
stands-nothing {S} {C} role_of e0 e1 same script got sent printed s = subst (λ (e : EndState S C). StandsFor role_of script (got ++ []) sent printed e) (sym same) (subst (λ (l : List ℕ). StandsFor role_of script l sent printed e0) (sym (append-nil got)) s)

-- ---- how a turn ends the exchange

pub ending-refused : {S C : Type 0} (role_of : S → Role C) (script : S) (old : Known) (first : List ℕ) (now : Known) (sink : List ℕ) (e : EndState S C) (s : Halt) (r : Refusal) → s ≡ Refused r → Going role_of script old first now sink e → e.journal ≡ [] → RestsAs role_of e s → AtEnding role_of script old first now sink e (endings.Refused r)
ending-refused role_of script old first now sink e s r is g quiet rests =
    let state : e.state ≡ Refused r = subst (λ (t : Halt). RestsAs role_of e t) is rests in
    record { live = g.live; quiet = quiet; ends = inl state; left = tt }

waits-for : {S C : Type 0} (role_of : S → Role C) (e : EndState S C) (s : Halt) → ((r : Refusal) → s ≡ Refused r → ⊥) → (s ≡ Finished → ⊥) → RestsAs role_of e s → RestsAs role_of e Waiting
waits-for role_of e Waiting unrefused unfinished rests = rests
waits-for role_of e Finished unrefused unfinished rests = absurd (unfinished refl)
waits-for role_of e (Refused r) unrefused unfinished rests = absurd (unrefused r refl)

has-finished : {S C : Type 0} (role_of : S → Role C) (e : EndState S C) (s : Halt) → s ≡ Finished → RestsAs role_of e s → RestsAs role_of e Finished
has-finished role_of e s is rests = subst (λ (t : Halt). RestsAs role_of e t) is rests

-- the same end, but for messages that were cut off
rests-sent : {S C : Type 0} (role_of : S → Role C) (e f : EndState S C) (s : Halt) → f ≡ record e { outgoing = [] } → RestsAs role_of e s → RestsAs role_of f s
rests-sent {S} {C} role_of e f s same rests = subst (λ (x : EndState S C). RestsAs role_of x s) (sym same) (at s rests)
  where
    at : (s : Halt) → RestsAs role_of e s → RestsAs role_of (record e { outgoing = [] }) s
    at Waiting r = r
    at Finished r = r
    at (Refused refusal) r = r

-- what is known after messages were sent, or a part of them
pub record AfterSent {S C : Type 0} (role_of : S → Role C) (script : S) (old : Known) (first sink : List ℕ) (known : Option Known) (e : EndState S C) : Type 0 where
  pub now : Known
  pub known_is : known ≡ Some now
  pub going : Going role_of script old first now sink e
  pub nothing : e.outgoing ≡ []
  pub quiet : e.journal ≡ []

pub after-sent : {S C : Type 0} (role_of : S → Role C) (script : S) (old now : Known) (first sink : List ℕ) (known0 known1 : Option Known) (e f : EndState S C) (sent : Bool) → known0 ≡ Some now → sent ≡ true → Sent role_of known0 known1 e f sent → Going role_of script old first now sink e → e.journal ≡ [] → AfterSent role_of script old first sink known1 f
after-sent {S} {C} role_of script old now first sink known0 known1 e f sent told is h g quiet =
    let s : SentAll role_of known0 known1 e f = subst (λ (b : Bool). Sent role_of known0 known1 e f b) is h in
    record {
      now = took now e.outgoing;
      known_is = s.known now told;
      going = going-sent role_of script old now first sink known0 known1 e f s g (ap (λ (x : EndState S C). x.journal) s.same ∙ quiet);
      nothing = ap (λ (x : EndState S C). x.outgoing) s.same;
      quiet = ap (λ (x : EndState S C). x.journal) s.same ∙ quiet;
    }

pub record AfterPart {S C : Type 0} (role_of : S → Role C) (script : S) (old : Known) (first sink : List ℕ) (known : Option Known) (e : EndState S C) : Type 0 where
  pub now : Known
  pub known_is : known ≡ Some now
  pub live : Live role_of script old first now sink e
  pub quiet : e.journal ≡ []

pub after-part : {S C : Type 0} (role_of : S → Role C) (script : S) (old now : Known) (first sink : List ℕ) (known0 known1 : Option Known) (e f : EndState S C) (sent : Bool) → known0 ≡ Some now → sent ≡ false → Sent role_of known0 known1 e f sent → Going role_of script old first now sink e → e.journal ≡ [] → AfterPart role_of script old first sink known1 f
after-part {S} {C} role_of script old now first sink known0 known1 e f sent told is h g quiet =
    let s : SentPart known0 known1 e f = subst (λ (b : Bool). Sent role_of known0 known1 e f b) is h in
    let k = s.known now told in
    record {
      now = took now k.0;
      known_is = k.3;
      live = live-unsent role_of script old now first sink k.0 k.1 e f k.2 s.same g;
      quiet = ap (λ (x : EndState S C). x.journal) s.same ∙ quiet;
    }

same-all : {S C : Type 0} (role_of : S → Role C) (known0 known1 : Option Known) (e f : EndState S C) (sent : Bool) → sent ≡ true → Sent role_of known0 known1 e f sent → f ≡ record e { outgoing = [] }
same-all role_of known0 known1 e f sent is h = (subst (λ (b : Bool). Sent role_of known0 known1 e f b) is h).same

same-part : {S C : Type 0} (role_of : S → Role C) (known0 known1 : Option Known) (e f : EndState S C) (sent : Bool) → sent ≡ false → Sent role_of known0 known1 e f sent → f ≡ e
same-part role_of known0 known1 e f sent is h = (subst (λ (b : Bool). Sent role_of known0 known1 e f b) is h).same

-- a turn up to the messages that were sent
pub record TurnSent {S C : Type 0} (role_of : S → Role C) (known0 known1 : Option Known) (taken0 taken1 : Option (List ℕ)) (e0 e2 : EndState S C) (s : Halt) (sent : Bool) : Type 0 where
  pub between : EndState S C
  pub ran : Ran role_of taken0 taken1 e0 between s
  pub sends : Sent role_of known0 known1 between e2 sent

pub turned-done : {S C : Type 0} (role_of : S → Role C) (known0 known1 : Option Known) (taken0 taken1 : Option (List ℕ)) (e0 e2 : EndState S C) (s : Halt) (sent : Bool) → TurnSent role_of known0 known1 taken0 taken1 e0 e2 s sent → s ≡ Finished → sent ≡ true → Turned role_of known0 known1 taken0 taken1 e0 e2 (Some endings.Done)
turned-done {S} {C} role_of known0 known1 taken0 taken1 e0 e2 s sent t is all script old now first sink k o g =
    let r = going-ran role_of script old now first sink taken0 taken1 e0 t.between s o t.ran g in
    let a = after-sent role_of script old now first r.sink known0 known1 t.between e2 sent k all t.sends r.going r.quiet in
    (a.now, r.sink, a.known_is, r.taken_is, record { live = a.going.live; quiet = a.quiet; ends = (a.going.whole, a.nothing, rests-sent role_of t.between e2 Finished (same-all role_of known0 known1 t.between e2 sent all t.sends) (has-finished role_of t.between s is r.rests)); left = tt })

pub turned-unsent : {S C : Type 0} (role_of : S → Role C) (known0 known1 : Option Known) (taken0 taken1 : Option (List ℕ)) (e0 e2 : EndState S C) (s : Halt) (sent : Bool) → TurnSent role_of known0 known1 taken0 taken1 e0 e2 s sent → s ≡ Finished → sent ≡ false → Turned role_of known0 known1 taken0 taken1 e0 e2 (Some endings.Unsent)
turned-unsent {S} {C} role_of known0 known1 taken0 taken1 e0 e2 s sent t is part script old now first sink k o g =
    let r = going-ran role_of script old now first sink taken0 taken1 e0 t.between s o t.ran g in
    let a = after-part role_of script old now first r.sink known0 known1 t.between e2 sent k part t.sends r.going r.quiet in
    (a.now, r.sink, a.known_is, r.taken_is, record { live = a.live; quiet = a.quiet; ends = subst (λ (e : EndState S C). RestsAs role_of e Finished) (sym (same-part role_of known0 known1 t.between e2 sent part t.sends)) (has-finished role_of t.between s is r.rests); left = tt })

pub turned-failed : {S C : Type 0} (role_of : S → Role C) (known0 known1 : Option Known) (taken0 taken1 : Option (List ℕ)) (e0 e2 : EndState S C) (s : Halt) (sent : Bool) → TurnSent role_of known0 known1 taken0 taken1 e0 e2 s sent → ((r : Refusal) → s ≡ Refused r → ⊥) → (s ≡ Finished → ⊥) → sent ≡ false → Turned role_of known0 known1 taken0 taken1 e0 e2 (Some endings.Failed)
turned-failed {S} {C} role_of known0 known1 taken0 taken1 e0 e2 s sent t unrefused unfinished part script old now first sink k o g =
    let r = going-ran role_of script old now first sink taken0 taken1 e0 t.between s o t.ran g in
    let a = after-part role_of script old now first r.sink known0 known1 t.between e2 sent k part t.sends r.going r.quiet in
    (a.now, r.sink, a.known_is, r.taken_is, record { live = a.live; quiet = a.quiet; ends = subst (λ (e : EndState S C). RestsAs role_of e Waiting) (sym (same-part role_of known0 known1 t.between e2 sent part t.sends)) (waits-for role_of t.between s unrefused unfinished r.rests); left = tt })

-- an end that waits and has nothing left to send
pub record Listening {S C : Type 0} (role_of : S → Role C) (script : S) (old : Known) (first : List ℕ) (known : Option Known) (taken : Option (List ℕ)) (e : EndState S C) : Type 0 where
  pub now : Known
  pub sink : List ℕ
  pub known_is : known ≡ Some now
  pub taken_is : taken ≡ Some sink
  pub going : Going role_of script old first now sink e
  pub nothing : e.outgoing ≡ []
  pub quiet : e.journal ≡ []
  pub waits : RestsAs role_of e Waiting

pub listening : {S C : Type 0} (role_of : S → Role C) (known0 known1 : Option Known) (taken0 taken1 : Option (List ℕ)) (e0 e2 : EndState S C) (s : Halt) (sent : Bool) → TurnSent role_of known0 known1 taken0 taken1 e0 e2 s sent → ((r : Refusal) → s ≡ Refused r → ⊥) → (s ≡ Finished → ⊥) → sent ≡ true
    → (script : S) (old now : Known) (first sink : List ℕ) → known0 ≡ Some now → taken0 ≡ Some sink → Going role_of script old first now sink e0 → Listening role_of script old first known1 taken1 e2
listening role_of known0 known1 taken0 taken1 e0 e2 s sent t unrefused unfinished all script old now first sink k o g =
    let r = going-ran role_of script old now first sink taken0 taken1 e0 t.between s o t.ran g in
    let a = after-sent role_of script old now first r.sink known0 known1 t.between e2 sent k all t.sends r.going r.quiet in
    record {
      now = a.now;
      sink = r.sink;
      known_is = a.known_is;
      taken_is = r.taken_is;
      going = a.going;
      nothing = a.nothing;
      quiet = a.quiet;
      waits = rests-sent role_of t.between e2 Waiting (same-all role_of known0 known1 t.between e2 sent all t.sends) (waits-for role_of t.between s unrefused unfinished r.rests);
    }

pub turned-full : {S C : Type 0} (role_of : S → Role C) (known1 : Option Known) (taken1 : Option (List ℕ)) (e2 : EndState S C) (script : S) (old : Known) (first : List ℕ) → total_of e2 ≡ 2 ^ 40 → Listening role_of script old first known1 taken1 e2 → (next : Known) × (more : List ℕ) × (known1 ≡ Some next) × (taken1 ≡ Some more) × AtEnding role_of script old first next more e2 (endings.Refused too_many_bytes)
turned-full role_of known1 taken1 e2 script old first full l = (l.now, l.sink, l.known_is, l.taken_is, record { live = l.going.live; quiet = l.quiet; ends = inr (l.waits, full, refl); left = tt })

-- the bytes that were read stood at the front of what was left
front-left : (n : ℕ) (buf bytes left : List ℕ) → bytes ≡ take n buf → take n buf ≡ take n left → left ≡ bytes ++ drop n left
front-left n buf bytes left read same = sym (take-append-drop n left) ∙ ap (λ (l : List ℕ). l ++ drop n left) (sym (read ∙ same))

pub turned-heard : {S C : Type 0} (role_of : S → Role C) (known1 known2 : Option Known) (taken1 : Option (List ℕ)) (e2 e3 : EndState S C) (ending : Option Ending) → total_of e2 < 2 ^ 40 → HeardOn role_of known1 known2 e2 e3 ending → (script : S) (old : Known) (first : List ℕ) → Listening role_of script old first known1 taken1 e2 → (next : Known) × (more : List ℕ) × (known2 ≡ Some next) × (taken1 ≡ Some more) × After role_of script old first next more e3 ending
turned-heard {S} {C} role_of known1 known2 taken1 e2 e3 None below h script old first l =
    let n = h.0 in
    let k = h.1.known l.now l.known_is in (
      gave l.now n k.0,
      l.sink,
      k.2,
      l.taken_is,
      live-read role_of script old l.now (gave l.now n k.0) first l.sink h.1.bytes e2 e3 l.going l.nothing l.waits (ap (λ (x : List ℕ). l.now.given ++ x) (sym k.1)) (front-left n k.0 h.1.bytes l.now.left k.1 k.3) refl refl refl h.1.stands,
    )
turned-heard {S} {C} role_of known1 known2 taken1 e2 e3 (Some endings.Done) below h script old first l = absurd h
turned-heard {S} {C} role_of known1 known2 taken1 e2 e3 (Some endings.Unsent) below h script old first l = absurd h
turned-heard {S} {C} role_of known1 known2 taken1 e2 e3 (Some endings.Ended) below h script old first l =
    let k = (h.known l.now l.known_is).1 in
    let next = gave l.now 0 k.0 in
    let g = live-read role_of script old l.now next first l.sink [] e2 e3 l.going l.nothing l.waits refl refl refl refl refl (stands-nothing role_of e2 e3 h.same) in
    (next, l.sink, k.1, l.taken_is, record { live = g.live; quiet = ap (λ (x : EndState S C). x.journal) h.same ∙ l.quiet; ends = (g.whole, ap (λ (x : EndState S C). x.outgoing) h.same ∙ l.nothing, subst (λ (e : EndState S C). RestsAs role_of e Waiting) (sym h.same) l.waits, subst (λ (e : EndState S C). total_of e < 2 ^ 40) (sym h.same) below); left = (h.known l.now l.known_is).0 })
turned-heard {S} {C} role_of known1 known2 taken1 e2 e3 (Some endings.Failed) below h script old first l =
    let next = asked l.now in
    let g = live-read role_of script old l.now next first l.sink [] e2 e3 l.going l.nothing l.waits (sym (append-nil l.now.given)) refl refl refl refl (stands-nothing role_of e2 e3 h.same) in
    (next, l.sink, h.known l.now l.known_is, l.taken_is, record { live = g.live; quiet = ap (λ (x : EndState S C). x.journal) h.same ∙ l.quiet; ends = subst (λ (e : EndState S C). RestsAs role_of e Waiting) (sym h.same) l.waits; left = tt })
turned-heard {S} {C} role_of known1 known2 taken1 e2 e3 (Some (endings.Refused r)) below h script old first l = absurd h
