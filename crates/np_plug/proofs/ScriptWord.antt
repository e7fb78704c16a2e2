-- The word that names the script.
use Rattle.std.proofs.Common.{◌≡◌, ℕ, ◌≤◌, ◌<◌, List, [], ◌∷◌, length, get_or, Option, Some, sym, ap, subst, arith}
use Rattle.std.specs.Prelude.{String, string_bytes}
use Rattle.std.specs.Global.{Global}
use Rattle.np_plug.specs.Plug.{texts, script_word, OfScript}

-- of two words it is the first
pub script-is : (words : List (String Global)) (script : String Global) → 2 ≤ length words → length words < 3 → script ≡ get_or words 0 script → script_word (texts words) ≡ Some (string_bytes script)
script-is [] script some few e = absurd (omega (arith, some))
script-is (x ∷ []) script some few e = absurd (omega (arith, some))
script-is (x ∷ y ∷ []) script some few e = ap (λ (s : String Global). Some (string_bytes s)) (sym e)
script-is (x ∷ y ∷ z ∷ words) script some few e = absurd (omega (arith, few))

pub of-script : (o : Option (List ℕ)) (name seen : List ℕ) (P : List ℕ → Type 0) (Q : Type 0) → o ≡ Some name → seen ≡ name → P seen → OfScript o P Q
of-script o name seen P Q named same h =
    let there : P name = subst P same h in
    subst (λ (x : Option (List ℕ)). OfScript x P Q) (sym named) there
