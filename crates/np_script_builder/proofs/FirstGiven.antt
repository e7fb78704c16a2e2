-- What is given step by step.
use Rattle.std.proofs.Common.{◌≡◌, Option, None, Some, refl}
use Rattle.np_script_grammar.specs.Takes.{◌>>=◌}

-- where a second step gives something, the first did
pub given_first : {A B : Type 0} (o : Option A) (k : A → Option B) (b : B) → (o >>= k) ≡ Some b → (a : A) × (o ≡ Some a) × (k a ≡ Some b)
given_first None k b e = absurd cc
given_first (Some a) k b e = (a, refl, e)
