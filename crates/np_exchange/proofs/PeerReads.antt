-- What the peer gave and took, and each read of it.
use Rattle.std.proofs.Common.{◌≡◌, ℕ, ◌-◌, List, [], ◌∷◌, ◌++◌, length, sym, ap, subst, ◌∙◌, append_assoc, arith}
use Rattle.std.specs.List.{AllByRecursion}
use Rattle.std.proofs.lemmas.List.{length-append, take_all, take-append-le, append-nil}
use Rattle.np_message.specs.Encoding.{encodings}
use Rattle.np_model.specs.Side.{SideState}
use Rattle.np_model.specs.Alone.{Role, WaitsAt}
use Rattle.np_ports.specs.Peer.{Known, took}
use Rattle.np_exchange.specs.Session.{ReadsWell, Exchanged}

-- what was read well stays so when more is given and taken
more_read : {C : Type 0} (role : Role C) (old : Known) (got sent x y : List ℕ) (r : ℕ × ℕ) → ReadsWell role old got sent r → ReadsWell role old (got ++ x) (sent ++ y) r
more_read role old got sent x y r w = record {
  side = w.side;
  waits = subst (λ (l : List ℕ). WaitsAt role l w.side) (sym (take-append-le (r.1 - length old.given) got x w.within_got)) w.waits;
  taken = take-append-le (r.0 - length old.taken) sent y w.within_sent ∙ w.taken;
  within_got = omega (arith, w.within_got, length-append got x);
  within_sent = omega (arith, w.within_sent, length-append sent y);
}

each_more : {C : Type 0} (role : Role C) (old : Known) (got sent x y : List ℕ) (rs : List (ℕ × ℕ)) → AllByRecursion (ReadsWell role old got sent) rs → AllByRecursion (ReadsWell role old (got ++ x) (sent ++ y)) rs
each_more role old got sent x y [] all = tt
each_more role old got sent x y (r ∷ rs) all = (more_read role old got sent x y r all.0, each_more role old got sent x y rs all.1)

each_last : (P : ℕ × ℕ → Type 0) (rs : List (ℕ × ℕ)) (r : ℕ × ℕ) → AllByRecursion P rs → P r → AllByRecursion P (rs ++ r ∷ [])
each_last P [] r all p = (p, tt)
each_last P (q ∷ rs) r all p = (all.0, each_last P rs r all.1 p)

-- the peer took more
pub exchanged-took : {C : Type 0} (role : Role C) (old now : Known) (got sent bytes : List ℕ) → Exchanged role old now got sent → Exchanged role old (took now bytes) got (sent ++ bytes)
exchanged-took role old now got sent bytes x = record {
  reads = x.reads;
  given = x.given;
  left = x.left;
  taken = ap (λ (l : List ℕ). l ++ bytes) x.taken ∙ append_assoc old.taken sent bytes;
  starts = x.starts;
  reads_are = x.reads_are;
  each = subst (λ (l : List ℕ). AllByRecursion (ReadsWell role old l (sent ++ bytes)) x.reads) (append-nil got) (each_more role old got sent [] bytes x.reads x.each);
}

-- a read came while the side waited and the peer had taken all its messages
reads-now : {C : Type 0} (role : Role C) (old now : Known) (got sent : List ℕ) (side : SideState C) → Exchanged role old now got sent → WaitsAt role got side → sent ≡ encodings side.sent → ReadsWell role old got sent (length now.taken, length now.given)
reads-now role old now got sent side x w sent_is =
    let given_size : length now.given - length old.given ≡ length got = omega (arith, ap length x.given, length-append old.given got) in
    let taken_size : length now.taken - length old.taken ≡ length sent = omega (arith, ap length x.taken, length-append old.taken sent) in
    record {
      side = side;
      waits = subst (λ (l : List ℕ). WaitsAt role l side) (sym (take_all (length now.given - length old.given) got (omega (arith, given_size)))) w;
      taken = take_all (length now.taken - length old.taken) sent (omega (arith, taken_size)) ∙ sent_is;
      within_got = omega (arith, given_size);
      within_sent = omega (arith, taken_size);
    }

pub exchanged-read : {C : Type 0} (role : Role C) (old now next : Known) (got sent bytes : List ℕ) (side : SideState C) → Exchanged role old now got sent → WaitsAt role got side → sent ≡ encodings side.sent
    → next.given ≡ now.given ++ bytes → now.left ≡ bytes ++ next.left → next.taken ≡ now.taken → next.starts ≡ now.starts → next.reads ≡ now.reads ++ (length now.taken, length now.given) ∷ [] → Exchanged role old next (got ++ bytes) sent
exchanged-read role old now next got sent bytes side x w sent_is given left taken starts reads =
    let r : ℕ × ℕ = (length now.taken, length now.given) in
    let all = each_last (ReadsWell role old got sent) x.reads r x.each (reads-now role old now got sent side x w sent_is) in
    record {
      reads = x.reads ++ r ∷ [];
      given = given ∙ ap (λ (l : List ℕ). l ++ bytes) x.given ∙ append_assoc old.given got bytes;
      left = x.left ∙ ap (λ (l : List ℕ). got ++ l) left ∙ sym (append_assoc got bytes next.left);
      taken = taken ∙ x.taken;
      starts = starts ∙ x.starts;
      reads_are = reads ∙ ap (λ (l : List (ℕ × ℕ)). l ++ r ∷ []) x.reads_are ∙ append_assoc old.reads x.reads (r ∷ []);
      each = subst (λ (l : List ℕ). AllByRecursion (ReadsWell role old (got ++ bytes) l) (x.reads ++ r ∷ [])) (append-nil sent) (each_more role old got sent bytes [] (x.reads ++ r ∷ []) all);
    }
