-- What was written to the peer was made where all lines had been printed.
use Rattle.std.proofs.Common.{◌≡◌, ℕ, List, [], ◌++◌, refl, sym, ap, ◌∙◌, append_assoc, append-nil}
use Rattle.np_message.specs.Encoding.{encodings}
use Rattle.np_model.specs.Side.{SideState, at_start}
use Rattle.np_model.specs.Alone.{Role, ComesTo}
use Rattle.np_ports.specs.Peer.{Known}
use Rattle.np_endpoint.specs.End.{EndState}
use Rattle.np_end_stops.specs.declared.ending.Ending.{Ending}
use Rattle.np_exchange.specs.Session.{PrintsFirst}
use Rattle.np_exchange.specs.Live.{Live, AtEnding}
use Rattle.np_exchange.proofs.EndRests.{comes-to}

-- with further bytes the side comes to the same place
pub comes-further : {C : Type 0} (role : Role C) (got more : List ℕ) (p : SideState C) → ComesTo role got p → ComesTo role (got ++ more) p
comes-further role got more p c = record { turns = c.turns; left = c.left ++ more; comes = c.comes; messages = c.messages; got_is = ap (λ (l : List ℕ). l ++ more) c.got_is ∙ append_assoc (encodings p.examined) c.left more }

-- nothing was written yet
pub prints-nothing : {C : Type 0} (role : Role C) (old : Known) (first : List ℕ) → PrintsFirst role old first old first
prints-nothing role old first = record {
  got = [];
  sent = [];
  place = at_start role.start;
  given = sym (append-nil old.given);
  taken = sym (append-nil old.taken);
  comes_to = record { turns = 0; left = []; comes = refl; messages = tt; got_is = refl };
  made_there = record { rest = []; parts = refl };
  printed = record { rest = []; parts = sym (append-nil first) ∙ sym (append-nil (first ++ [])) };
}

-- the sink takes more
pub prints-more : {C : Type 0} (role : Role C) (old now : Known) (first sink more : List ℕ) → PrintsFirst role old first now sink → PrintsFirst role old first now (sink ++ more)
prints-more role old now first sink more b = record {
  got = b.got;
  sent = b.sent;
  place = b.place;
  given = b.given;
  taken = b.taken;
  comes_to = b.comes_to;
  made_there = b.made_there;
  printed = record { rest = b.printed.rest ++ more; parts = ap (λ (l : List ℕ). l ++ more) b.printed.parts ∙ append_assoc (first ++ b.place.journal) b.printed.rest more };
}

-- the peer gives more
pub prints-read : {C : Type 0} (role : Role C) (old now next : Known) (first sink bytes : List ℕ) → next.given ≡ now.given ++ bytes → next.taken ≡ now.taken → PrintsFirst role old first now sink → PrintsFirst role old first next sink
prints-read role old now next first sink bytes given taken b = record {
  got = b.got ++ bytes;
  sent = b.sent;
  place = b.place;
  given = given ∙ ap (λ (l : List ℕ). l ++ bytes) b.given ∙ append_assoc old.given b.got bytes;
  taken = taken ∙ b.taken;
  comes_to = comes-further role b.got bytes b.place b.comes_to;
  made_there = b.made_there;
  printed = b.printed;
}

-- where the journal is printed whole, the side's own place is such a one
pub live-prints : {S C : Type 0} (role_of : S → Role C) (script : S) (old : Known) (first : List ℕ) (now : Known) (sink : List ℕ) (e : EndState S C) → Live role_of script old first now sink e → e.journal ≡ [] → PrintsFirst (role_of script) old first now sink
live-prints role_of script old first now sink e l quiet =
    let whole : l.stands.side.journal ≡ l.printed = l.stands.printed_is ∙ ap (λ (j : List ℕ). l.printed ++ j) quiet ∙ append-nil l.printed in
    record {
      got = l.got;
      sent = l.taken;
      place = l.stands.side;
      given = l.exchanged.given;
      taken = l.exchanged.taken;
      comes_to = comes-to role_of script l.got l.sent l.printed e l.stands;
      made_there = record { rest = l.taken_part.rest; parts = l.stands.sent_is ∙ l.taken_part.parts };
      printed = record { rest = []; parts = l.sink_is ∙ ap (λ (j : List ℕ). first ++ j) (sym whole) ∙ sym (append-nil (first ++ l.stands.side.journal)) };
    }

-- after the exchange came to its ending the sink took more
pub ending-prints : {S C : Type 0} (role_of : S → Role C) (script : S) (old now : Known) (first sink more : List ℕ) (e : EndState S C) (ending : Ending) → AtEnding role_of script old first now sink e ending → PrintsFirst (role_of script) old first now (sink ++ more)
ending-prints role_of script old now first sink more e ending a = prints-more (role_of script) old now first sink more (live-prints role_of script old first now sink e a.live a.quiet)
