-- What was carried by the time that an exchange was cut short.
use Rattle.std.proofs.Common.{◌≡◌, ℕ, List, [], ◌++◌, take, ◌⊎◌, inl, inr, Option, Some, None, refl, sym, ap, ◌∙◌, append_assoc, append-nil, drop}
use Rattle.std.proofs.lemmas.List.{take-append-drop}
use Rattle.np_model.specs.Alone.{Role}
use Rattle.np_ports.specs.Peer.{Known, took, gave}
use Rattle.np_endpoint.specs.End.{EndState, StandsFor}
use Rattle.np_endpoint.specs.declared.halt.Halt.{Halt}
use Rattle.np_end_stops.specs.PeerCauses.{TookPart, ReadCut}
use Rattle.np_end_stops.specs.Causes.{BeginsWith}
use Rattle.np_exchange.specs.Session.{Exchanged, PrintsFirst, Interrupted}
use Rattle.np_exchange.specs.Live.{Live, Ran, RanCut, Turned, TurnCut}
use Rattle.np_exchange.proofs.PeerReads.{exchanged-read}
use Rattle.np_exchange.proofs.EndRests.{comes-to, waits-at, all-taken}
use Rattle.np_exchange.proofs.Exchanges.{going-ran, live-unsent, Listening}
use Rattle.np_exchange.proofs.PrintOrder.{comes-further, prints-more, prints-read, live-prints}

-- ---- an end in the midst of its exchange

-- a part x of the journal of an end was printed after what was printed before
pub stands-interrupted : {S C : Type 0} (role_of : S → Role C) (script : S) (old now : Known) (first sink got sent taken printed x y : List ℕ) (e : EndState S C) → StandsFor role_of script got sent printed e → Exchanged (role_of script) old now got taken → BeginsWith (sent ++ e.outgoing) taken → e.journal ≡ x ++ y → sink ≡ first ++ (printed ++ x) → Interrupted (role_of script) old first now sink
stands-interrupted role_of script old now first sink got sent taken printed x y e s exchanged part lines is = record {
  got = got;
  sent = taken;
  side = s.side;
  lines = printed ++ x;
  exchanged = exchanged;
  comes_to = comes-to role_of script got sent printed e s;
  sent_part = record { rest = part.rest; parts = s.sent_is ∙ part.parts };
  lines_part = record { rest = y; parts = s.printed_is ∙ ap (λ (l : List ℕ). printed ++ l) lines ∙ sym (append_assoc printed x y) };
  printed = is;
}

pub live-interrupted : {S C : Type 0} (role_of : S → Role C) (script : S) (old : Known) (first : List ℕ) (now : Known) (sink : List ℕ) (e : EndState S C) → Live role_of script old first now sink e → Interrupted (role_of script) old first now sink
live-interrupted role_of script old first now sink e l =
    stands-interrupted role_of script old now first sink l.got l.sent l.taken l.printed [] e.journal e l.stands l.exchanged l.taken_part refl (l.sink_is ∙ ap (λ (x : List ℕ). first ++ x) (sym (append-nil l.printed)))

-- ---- the calls of a turn

-- the run of the end, or the printing of its journal
pub run-cut : {S C : Type 0} (role_of : S → Role C) (known : Option Known) (taken0 taken1 : Option (List ℕ)) (e0 : EndState S C) → RanCut role_of taken0 taken1 e0 → TurnCut role_of known known taken0 taken1 e0
run-cut role_of known taken0 taken1 e0 (inl same) script old now first sink k o g = (now, sink, k, same ∙ o, g.before, live-interrupted role_of script old first now sink e0 g.live)
run-cut role_of known taken0 taken1 e0 (inr (between, keeps, adds)) script old now first sink k o g =
    let l = g.live in
    let p = adds sink o in
    let s = keeps script l.got l.sent l.printed l.stands in (
      now,
      sink ++ p.0,
      k,
      p.3,
      prints-more (role_of script) old now first sink p.0 g.before,
      stands-interrupted role_of script old now first (sink ++ p.0) l.got l.sent l.taken l.printed p.0 p.1 between s l.exchanged (record { rest = between.outgoing; parts = ap (λ (x : List ℕ). x ++ between.outgoing) (sym g.whole) }) p.2 (ap (λ (x : List ℕ). x ++ p.0) l.sink_is ∙ append_assoc first l.printed p.0),
    )

-- the sending of its messages
pub send-cut : {S C : Type 0} (role_of : S → Role C) (known0 known1 : Option Known) (taken0 taken1 : Option (List ℕ)) (e0 e1 : EndState S C) (s : Halt) → Ran role_of taken0 taken1 e0 e1 s → TookPart known0 known1 e1.outgoing → TurnCut role_of known0 known1 taken0 taken1 e0
send-cut role_of known0 known1 taken0 taken1 e0 e1 s ran part script old now first sink k o g =
    let r = going-ran role_of script old now first sink taken0 taken1 e0 e1 s o ran g in
    let p = part now k in
    let live = live-unsent role_of script old now first r.sink p.0 p.1 e1 e1 p.2 refl r.going in
    (took now p.0, r.sink, p.3, r.taken_is, live-prints role_of script old first (took now p.0) r.sink e1 live r.quiet, live-interrupted role_of script old first (took now p.0) r.sink e1 live)

-- the peer gave bytes that the end didn't get
read-interrupted : {S C : Type 0} (role_of : S → Role C) (script : S) (old : Known) (first : List ℕ) (known : Option Known) (taken : Option (List ℕ)) (e : EndState S C) (l : Listening role_of script old first known taken e) (n : ℕ) (buf : List ℕ) → take n buf ≡ take n l.now.left → Interrupted (role_of script) old first (gave l.now n buf) l.sink
read-interrupted role_of script old first known taken e l n buf same =
    let v = l.going.live in
    let next = gave l.now n buf in
    record {
      got = v.got ++ take n buf;
      sent = v.taken;
      side = v.stands.side;
      lines = v.printed;
      exchanged = exchanged-read (role_of script) old l.now next v.got v.taken (take n buf) v.stands.side v.exchanged (waits-at role_of script v.got v.sent v.printed e l.waits v.stands) (all-taken role_of script v.got v.sent v.printed v.taken e l.going.whole l.nothing v.stands) refl (sym (take-append-drop n l.now.left) ∙ ap (λ (x : List ℕ). x ++ drop n l.now.left) (sym same)) refl refl refl;
      comes_to = comes-further (role_of script) v.got (take n buf) v.stands.side (comes-to role_of script v.got v.sent v.printed e v.stands);
      sent_part = record { rest = v.taken_part.rest; parts = v.stands.sent_is ∙ v.taken_part.parts };
      lines_part = record { rest = e.journal; parts = v.stands.printed_is };
      printed = v.sink_is;
    }

pub read-cut : {S C : Type 0} (role_of : S → Role C) (known1 known2 : Option Known) (taken : Option (List ℕ)) (e : EndState S C) (script : S) (old : Known) (first : List ℕ) → ReadCut known1 known2 → Listening role_of script old first known1 taken e → (next : Known) × (more : List ℕ) × (known2 ≡ Some next) × (taken ≡ Some more) × PrintsFirst (role_of script) old first next more × Interrupted (role_of script) old first next more
read-cut role_of known1 known2 taken e script old first cut l = at (cut l.now l.known_is)
  where
    at : (known2 ≡ Some l.now) ⊎ ((n : ℕ) × (buf : List ℕ) × (known2 ≡ Some (gave l.now n buf)) × (take n buf ≡ take n l.now.left)) → (next : Known) × (more : List ℕ) × (known2 ≡ Some next) × (taken ≡ Some more) × PrintsFirst (role_of script) old first next more × Interrupted (role_of script) old first next more
    at (inl same) = (l.now, l.sink, same, l.taken_is, l.going.before, live-interrupted role_of script old first l.now l.sink e l.going.live)
    at (inr (n, buf, is, same)) = (gave l.now n buf, l.sink, is, l.taken_is, prints-read (role_of script) old l.now (gave l.now n buf) first l.sink (take n buf) refl refl l.going.before, read-interrupted role_of script old first known1 taken e l n buf same)

-- a turn that is cut short after others
pub turned-cut : {S C : Type 0} (role_of : S → Role C) (known0 known1 known2 : Option Known) (taken0 taken1 taken2 : Option (List ℕ)) (e0 e1 : EndState S C) → Turned role_of known0 known1 taken0 taken1 e0 e1 None → TurnCut role_of known1 known2 taken1 taken2 e1 → TurnCut role_of known0 known2 taken0 taken2 e0
turned-cut role_of known0 known1 known2 taken0 taken1 taken2 e0 e1 a b script old now first sink k o g =
    let x = a script old now first sink k o g in
    b script old x.0 first x.1 x.2 x.3 x.4
