-- The bytes of several messages.
use Rattle.std.proofs.Common.{◌≡◌, ℕ, List, [], ◌∷◌, ◌++◌, refl, ap, sym, ◌∙◌, append_assoc}
use Rattle.np_message.specs.Message.{Message}
use Rattle.np_message.specs.Encoding.{encoding, encodings}

pub encodings-append : (a b : List Message) → encodings (a ++ b) ≡ encodings a ++ encodings b
encodings-append [] b = refl
encodings-append (m ∷ a) b = ap (λ (l : List ℕ). encoding m ++ l) (encodings-append a b) ∙ sym (append_assoc (encoding m) (encodings a) (encodings b))
