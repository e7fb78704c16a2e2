-- The keys of identifiers: when two are the same, and how they are printed.
use Rattle.std.specs.Prelude.{◌≡◌, ℕ, ℤ, pos, List, [], Bool, true, false}
use Rattle.std.specs.Bool.{Decides}
use Rattle.std.specs.Cmp.{IsEquivalence, decided, signed_Decides}
use Rattle.std.specs.Cmp.Lexicographic.{bytes_decides}
use Rattle.std.specs.Fmt.{signed_decimal}
use Rattle.std.specs.Ordering.{int_eq}
use Rattle.std.specs.Str.{bytes_eq}
use Rattle.std.proofs.Common.{sym, ap, true≢false}
use Rattle.np_values.specs.Quoted.{quoted}
use Rattle.np_idents.specs.declared.key.IdKey.{IdKey}
use Rattle.np_idents.specs.declared.key.IdKey.TheVariants.{Str, Int}

-- two strings of the same bytes, or the same integer twice; a string is never the same as an integer
abbrev pub is_same_key : IdKey → IdKey → Bool
is_same_key (Str a) (Str b) = bytes_eq a b
is_same_key (Int a) (Int b) = int_eq a b
is_same_key (Str a) (Int b) = false
is_same_key (Int a) (Str b) = false

-- This project's own: a string as a quoted text, an integer in base 10.
abbrev pub printed_key : IdKey → List ℕ
printed_key (Str text) = quoted text
printed_key (Int number) = signed_decimal number

is_string : IdKey → Bool
is_string (Str text) = true
is_string (Int number) = false

bytes_of : IdKey → List ℕ
bytes_of (Str text) = text
bytes_of (Int number) = []

number_of : IdKey → ℤ
number_of (Str text) = pos 0
number_of (Int number) = number

-- two keys are the same exactly where they are equal
pub same_key_decides : (x y : IdKey) → Decides (is_same_key x y) (x ≡ y)
unfolding is_string bytes_of number_of
same_key_decides (Str a) (Str b) = (λ e. ap Str ((bytes_decides a b).0 e), λ e. (bytes_decides a b).1 (ap bytes_of e))
same_key_decides (Int a) (Int b) = (λ e. ap Int ((signed_Decides a b).0 e), λ e. (signed_Decides a b).1 (ap number_of e))
same_key_decides (Str a) (Int b) = (λ e. absurd (true≢false (sym e)), λ e. absurd (true≢false (ap is_string e)))
same_key_decides (Int a) (Str b) = (λ e. absurd (true≢false (sym e)), λ e. absurd (true≢false (sym (ap is_string e))))

-- to be the same is reflexive, symmetric and transitive
pub same_key_equivalence : IsEquivalence is_same_key
same_key_equivalence = decided is_same_key same_key_decides
