-- Copies of a piece.
use Rattle.std.proofs.Common.{◌≡◌, ℕ, zero, suc, List, [], ◌∷◌, ◌++◌, length, true, refl, ap, sym, ◌∙◌, append_assoc, append-nil, arith}
use Rattle.std.proofs.lemmas.Bool.Decides.{nat_tests}
use Rattle.std.specs.Prelude.{◌==◌}
use Rattle.np_script_grammar.specs.Scripts.{copies}

no_copies : (n : ℕ) → [] ≡ copies n []
no_copies zero = refl
no_copies (suc n) = no_copies n

pub copies_of_nothing : (n : ℕ) (piece : List ℕ) → true ≡ (length piece == 0) → [] ≡ copies n piece
copies_of_nothing n [] e = no_copies n
copies_of_nothing n (byte ∷ piece) e = absurd (grind (arith, nat_tests))

-- one more, behind the others
pub one_more_copy : (n : ℕ) (piece : List ℕ) → copies n piece ++ piece ≡ copies (suc n) piece
one_more_copy zero piece = sym (append-nil piece)
one_more_copy (suc n) piece = append_assoc piece (copies n piece) piece ∙ ap (λ (l : List ℕ). piece ++ l) (one_more_copy n piece)
