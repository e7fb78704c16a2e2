-- Lists that begin with others.
use Rattle.std.proofs.Common.{◌≡◌, ℕ, List, [], ◌++◌, ap, sym, refl, ◌∙◌, append_assoc, append-nil}
use Rattle.np_message.specs.Message.{Message}
use Rattle.np_message.specs.Encoding.{encodings}
use Rattle.np_model.proofs.Encodings.{encodings-append}
use Rattle.np_end_stops.specs.Causes.{BeginsWith}

pub begins-same : (l : List ℕ) → BeginsWith l l
begins-same l = record { rest = []; parts = sym (append-nil l) }

abbrev pub begins-append : (l more : List ℕ) → BeginsWith (l ++ more) l
begins-append l more = record { rest = more; parts = refl }

abbrev pub begins-then : (a b c : List ℕ) → BeginsWith a b → BeginsWith b c → BeginsWith a c
begins-then a b c f g = record { rest = g.rest ++ f.rest; parts = f.parts ∙ ap (λ (l : List ℕ). l ++ f.rest) g.parts ∙ append_assoc c g.rest f.rest }

-- more messages behind these
pub messages-begin : (all few more : List Message) → all ≡ few ++ more → BeginsWith (encodings all) (encodings few)
messages-begin all few more is = record { rest = encodings more; parts = ap encodings is ∙ encodings-append few more }
