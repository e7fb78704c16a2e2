-- How many instances are live.
use Rattle.std.proofs.Common.{◌≡◌, ℕ, zero, suc, ◌+◌, ◌<◌, ◌≤◌, List, [], ◌∷◌, ◌++◌, length, set, get_or, true, refl, arith, Some}
use Rattle.std.specs.Prelude.{position, slice_set}
use Rattle.std.proofs.lemmas.List.Quantifiers.{position-Some}
use Rattle.np_model.specs.declared.page.Phase.{Phase}
use Rattle.np_model.specs.declared.page.Phase.TheVariants.{Absent, Live, Destroying, Dead}
use Rattle.np_model.specs.PagePlan.{is_live}

abbrev pub live_of : Phase → ℕ
live_of Absent = 0
live_of Live = 1
live_of Destroying = 0
live_of Dead = 0

abbrev pub live : List Phase → ℕ
live [] = 0
live (phase ∷ phases) = live_of phase + live phases

pub live-more : (phases : List Phase) (phase : Phase) → live (phases ++ phase ∷ []) ≡ live phases + live_of phase
live-more [] phase = omega arith
live-more (x ∷ phases) phase = let ih = live-more phases phase in omega (arith, ih)

-- an instance that dies isn't live
pub live-dead : (phases : List Phase) (place : ℕ) → live (slice_set phases place Dead) ≤ live phases
live-dead [] place = omega arith
live-dead (x ∷ phases) zero = omega arith
live-dead (x ∷ phases) (suc place) = let ih = live-dead phases place in omega (arith, ih)

live-set : (phases : List Phase) (place : ℕ) (phase other : Phase) → place < length phases → live (set phases place phase) + live_of (get_or phases place other) ≡ live phases + live_of phase
live-set [] place phase other h = absurd (omega (arith, h))
live-set (x ∷ phases) zero phase other h = omega arith
live-set (x ∷ phases) (suc place) phase other h =
    let below : place < length phases = omega (arith, h) in
    let ih = live-set phases place phase other below in
    omega (arith, ih)

is-live : (phase : Phase) → is_live phase ≡ true → live_of phase ≡ 1
is-live Absent e = cc
is-live Live e = refl
is-live Destroying e = cc
is-live Dead e = cc

pub live-destroying : (phases : List Phase) (place : ℕ) → position is_live phases ≡ Some place → live (slice_set phases place Destroying) + 1 ≡ live phases
live-destroying phases place e =
    let found = position-Some is_live phases place Dead e in
    let one = is-live (get_or phases place Dead) found.1 in
    let replaced = live-set phases place Destroying Dead found.0 in
    omega (arith, one, replaced)
