-- How many bytes a peer gave.
use Rattle.std.proofs.Common.{◌≡◌, ◌≤◌, ◌+◌, ◌-◌, ℕ, List, [], length, take, Bool, true, false, Option, Some, None, Ok, ap, subst, arith}
use Rattle.std.proofs.lemmas.List.{length-append}
use Rattle.np_ports.specs.Peer.{Known, Reads, took, gave, asked}
use Rattle.np_model.specs.Alone.{Role}
use Rattle.np_endpoint.specs.End.{EndState, total_of}
use Rattle.np_end_stops.specs.PeerCauses.{TookPart}
use Rattle.np_end_stops.specs.declared.ending.Ending.{Ending}
use Rattle.np_end_stops.specs.declared.ending.Ending.TheVariants as endings
use Rattle.np_exchange.specs.Session.{GaveAtMost}
use Rattle.np_exchange.specs.Flow.{Sent, HeardBytes}
use Rattle.np_exchange.specs.Live.{HeardOn}

pub gave-nothing : (limit : ℕ) (known : Option Known) → GaveAtMost limit known known
gave-nothing limit known old k = (old, k, omega arith)

pub gave-then : (m n limit : ℕ) (known0 known1 known2 : Option Known) → m + n ≤ limit → GaveAtMost m known0 known1 → GaveAtMost n known1 known2 → GaveAtMost limit known0 known2
gave-then m n limit known0 known1 known2 within a b old k =
    let x = a old k in
    let y = b x.0 x.1 in
    (y.0, y.1, omega (arith, within, x.2, y.2))

-- a read gave no more than fits
pub read-gave : (limit n : ℕ) (known0 known1 : Option Known) (buf : List ℕ) → Reads known0 known1 (Ok n) buf → length (take n buf) ≤ limit → GaveAtMost limit known0 known1
read-gave limit n known0 known1 buf reads within old k =
    let r = subst (λ (o : Option Known). Reads o known1 (Ok n) buf) k reads in
    (gave old n buf, r.0, omega (arith, length-append old.given (take n buf), within))

-- messages were sent, or a part of them
pub sent-gave : {S C : Type 0} (role_of : S → Role C) (limit : ℕ) (known0 known1 : Option Known) (e0 e1 : EndState S C) (whole : Bool) → Sent role_of known0 known1 e0 e1 whole → GaveAtMost limit known0 known1
sent-gave role_of limit known0 known1 e0 e1 true s old k = (took old e0.outgoing, s.known old k, omega arith)
sent-gave role_of limit known0 known1 e0 e1 false s old k =
    let x = s.known old k in
    (took old x.0, x.3, omega arith)

pub part-gave : (limit : ℕ) (known0 known1 : Option Known) (bytes : List ℕ) → TookPart known0 known1 bytes → GaveAtMost limit known0 known1
part-gave limit known0 known1 bytes part old k =
    let x = part old k in
    (took old x.0, x.3, omega arith)

heard-gave : {S C : Type 0} (role_of : S → Role C) (limit n : ℕ) (known0 known1 : Option Known) (e0 e1 : EndState S C) → HeardBytes role_of known0 known1 e0 e1 n → n ≤ limit → GaveAtMost limit known0 known1
heard-gave role_of limit n known0 known1 e0 e1 h within old k =
    let x = h.known old k in
    (gave old n x.0, x.2, omega (arith, length-append old.given (take n x.0), ap length x.1, h.size, within))

-- what the peer gave, the end counts
pub on-gave : {S C : Type 0} (role_of : S → Role C) (before now : ℕ) (known0 known1 : Option Known) (e0 e1 : EndState S C) (ending : Option Ending) → total_of e0 ≡ before → total_of e1 ≡ now → HeardOn role_of known0 known1 e0 e1 ending → GaveAtMost (now - before) known0 known1
on-gave {S} {C} role_of before now known0 known1 e0 e1 None was is (n, h) =
    heard-gave role_of (now - before) n known0 known1 e0 e1 h (omega (arith, was, is, ap (λ (e : EndState S C). total_of e) h.same, length-append e0.unread h.bytes, h.size))
on-gave role_of before now known0 known1 e0 e1 (Some endings.Done) was is h = absurd h
on-gave role_of before now known0 known1 e0 e1 (Some endings.Unsent) was is h = absurd h
on-gave role_of before now known0 known1 e0 e1 (Some endings.Ended) was is h = λ old k.
    let x = (h.known old k).1 in
    (gave old 0 x.0, x.1, omega (arith, length-append old.given []))
on-gave role_of before now known0 known1 e0 e1 (Some endings.Failed) was is h = λ old k. (asked old, h.known old k, omega arith)
on-gave role_of before now known0 known1 e0 e1 (Some (endings.Refused r)) was is h = absurd h
