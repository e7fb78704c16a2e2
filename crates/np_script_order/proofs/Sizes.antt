-- The bytes of a resource.
use Rattle.std.proofs.Common.{◌≡◌, ◌≢◌, ℕ, ◌*◌, ◌≤◌, ◌<◌, ◌^◌, List, [], ◌∷◌, length, refl, slice_get, arith}
use Rattle.std.proofs.lemmas.Nat.{mul-le}
use Rattle.np_script_grammar.specs.declared.line.Field.{Field}
use Rattle.np_script_grammar.specs.declared.line.Field.TheVariants as fields
use Rattle.np_script_grammar.specs.Order.{resource_bytes}
use Rattle.np_script_grammar.specs.Takes.{number_in, text_in}
use Rattle.np_script_order.specs.Counts.{held, times_piece}

of_two : (url mime third fourth : Field) → resource_bytes (url ∷ mime ∷ third ∷ fourth ∷ []) ≡ times_piece (number_in third) (text_in fourth)
of_two url mime (fields.Number times) (fields.Text piece) = refl
of_two url mime (fields.Number times) fourth = refl
of_two url mime third fourth = refl

pub bytes_of_four : (fs : List Field) → length fs ≡ 4 → resource_bytes fs ≡ times_piece (held number_in (slice_get fs 2)) (held text_in (slice_get fs 3))
bytes_of_four [] e = absurd (omega arith)
bytes_of_four (a ∷ []) e = absurd (omega arith)
bytes_of_four (a ∷ b ∷ []) e = absurd (omega arith)
bytes_of_four (a ∷ b ∷ c ∷ []) e = absurd (omega arith)
bytes_of_four (a ∷ b ∷ c ∷ d ∷ []) e = of_two a b c d
bytes_of_four (a ∷ b ∷ c ∷ d ∷ other ∷ others) e = absurd (omega arith)

pub bytes_of_others : (fs : List Field) → length fs ≢ 4 → resource_bytes fs ≡ 0
bytes_of_others [] e = refl
bytes_of_others (a ∷ []) e = refl
bytes_of_others (a ∷ b ∷ []) e = refl
bytes_of_others (a ∷ b ∷ fields.Number times ∷ []) e = refl
bytes_of_others (a ∷ b ∷ c ∷ []) e = refl
bytes_of_others (a ∷ b ∷ c ∷ d ∷ []) e = absurd (e refl)
bytes_of_others (a ∷ b ∷ fields.Number times ∷ fields.Text piece ∷ other ∷ others) e = refl
bytes_of_others (a ∷ b ∷ fields.Number times ∷ d ∷ other ∷ others) e = refl
bytes_of_others (a ∷ b ∷ c ∷ d ∷ other ∷ others) e = refl

-- a number of 32 bits times the length of a text
pub size_fits : (times size : ℕ) → times < 2 ^ 32 → size ≤ 2048 → times * size < 2 ^ 43
size_fits times size a b =
    let below : times ≤ 4294967295 = omega arith in
    omega (arith, mul-le times size 4294967295 2048 below b)
