-- A file put at the end of the entries is the one that counts.
use Rattle.std.proofs.Common.{◌≡◌, ℕ, Bool, true, false, List, [], ◌∷◌, ◌++◌, Option, Some, None, String, bytes_eq, refl, sym, if◌then◌else◌, string_bytes}
use Rattle.std.specs.Global.{Vec, Global}
use Rattle.std.specs.Bool.{Decides}
use Rattle.std.proofs.lemmas.Slice.Eq.{bytes_eq-Decides}
use Rattle.np_ports.specs.Files.{Contents, KeepsOthers}
use Rattle.np_ports.specs.Memory.{found_after, content_of, EndsWith}

-- the last entry decides
after-append : (last : Option (List ℕ)) (files : List (String Global × Vec ℕ)) (file : String Global × Vec ℕ) (name : List ℕ)
    → found_after last (files ++ file ∷ []) name ≡ (if bytes_eq (string_bytes file.0) name then Some file.1.items else found_after last files name)
after-append last [] file name = refl
after-append last (other ∷ files) file name = after-append (if bytes_eq (string_bytes other.0) name then Some other.1.items else last) files file name

eq_self : (name : List ℕ) → bytes_eq name name ≡ true
eq_self name = (bytes_eq-Decides name name).1 refl

fails : (b : Bool) (P : Type 0) → Decides b P → (P → ⊥) → b ≡ false
fails true P decides h = absurd (h (decides.0 refl))
fails false P decides h = refl

eq_other : (name other : List ℕ) → (other ≡ name → ⊥) → bytes_eq name other ≡ false
eq_other name other h = fails _ (name ≡ other) (bytes_eq-Decides name other) (λ e. h (sym e))

pub put_is : (old new : List (String Global × Vec ℕ)) (name bytes : List ℕ) → EndsWith old new name bytes
    → (g : Contents) × (◌≡◌ {A = Option Contents} (Some (content_of new)) (Some g)) × (g name ≡ bytes) × KeepsOthers (content_of old) g name
put_is old new name bytes (file, new_is, named, holds) = (
  content_of new,
  refl,
  rw (new_is, after-append None old file name, named, eq_self name, holds) refl,
  λ other h. rw (new_is, after-append None old file other, named, eq_other name other h) refl,
)
